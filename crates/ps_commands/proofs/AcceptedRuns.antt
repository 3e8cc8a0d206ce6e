-- What a run of `solve` or `maxsat` wrote is the one text that a run of `check` or `check-maxsat` then accepts.
use Rattle.std.proofs.Common.{◌≡◌, ◌≢◌, ◌<◌, ◌≤◌, ◌⊎◌, ℕ, Bool, List, ◌++◌, length, Option, Some, refl, sym, ap, subst, ◌∙◌, inl, inr}
use Rattle.std.specs.Io.KnownBytes.{append_known}
use Rattle.std.proofs.lemmas.List.{append_cancel_left}
use Rattle.std.proofs.lemmas.Option.{same_Some}
use Rattle.ps_problem.specs.Problems.{Parts}
use Rattle.ps_read.specs.Readings.{SpellsWhole}
use Rattle.ps_answer.specs.declared.answer.Answer.{Answer}
use Rattle.ps_answer.specs.declared.limits.TheConstants.{MOST_PIVOTS}
use Rattle.ps_claims.specs.Claims.{claims_of, unfinished_of}
use Rattle.ps_valid.specs.Answers.{answer_of}
use Rattle.ps_runs.specs.declared.limits.Limits.{Limits}
use Rattle.ps_max_answer.specs.declared.answer.MaxAnswer.{MaxAnswer}
use Rattle.ps_max_answer.specs.declared.answer.MaxAnswer.TheVariants.{Optimum, Unsatisfiable, Open}
use Rattle.ps_max_commands.specs.Due.{DueCheckMaxSat, IsAnswered}
use Rattle.ps_max_commands.specs.Lines.{accepted_line}
use Rattle.ps_max_commands.proofs.Accepted.{answer_accepted}
use Rattle.ps_max_commands.proofs.OneDue.{one_check_due}
use Rattle.ps_wcnf.specs.Readings.{IsRead}
use Rattle.ps_wcnf.specs.Splitting.{lines_of}
use Rattle.ps_wcnf.specs.declared.text.WcnfText.{WcnfText}
use Rattle.ps_commands.specs.declared.command.Command.TheVariants.{Check, CheckMaxSat, MaxSat, Solve}
use Rattle.ps_commands.specs.declared.command.TheConstants.{MOST_PROBLEM}
use Rattle.ps_messages.specs.declared.status.Status.{Status}
use Rattle.ps_messages.specs.declared.status.Status.TheVariants.{Done, Unfinished}
use Rattle.ps_commands.specs.Due.{DueFor, IsSolvedBy}
use Rattle.ps_messages.specs.Lines.{Output, accepted}
use Rattle.ps_commands.specs.RunLimits.{limits_for}
use Rattle.ps_commands.specs.Accepting.{IsReadable}
use Rattle.ps_commands.specs.Answering.{HasWritten, IsSolved}
use Rattle.ps_commands.specs.AcceptedRuns.{HasRun, AcceptsAnswer, AcceptsReport, behind_problem}
use Rattle.ps_commands.proofs.Accepted.{accepted_report}
use Rattle.ps_commands.proofs.Answering.{answer_judged, clauses_answered, problem_solved, written_so}
use Rattle.ps_commands.proofs.OneOutput.{one_for_command}

-- what was appended to known bytes
appended : (known : Option (List ℕ)) (new : Option (List ℕ)) (before text more : List ℕ) → known ≡ Some before → new ≡ Some (before ++ text) → new ≡ append_known known more → text ≡ more
appended known new before text more k e a =
    append_cancel_left before text more (same_Some (before ++ text) (before ++ more) (sym e ∙ a ∙ ap (λ (x : Option (List ℕ)). append_known x more) k))

-- the accepted line of an answer's report
abbrev accepted_of : Parts → Answer → Output
accepted_of p a = accepted (length (claims_of p (answer_of a))) (unfinished_of (answer_of a))

module _ (limits : Limits) (enough : Bool) (most : ℕ) (bytes report line : List ℕ) (p : Parts) (solved checked : Status) (spells : SpellsWhole bytes p)
    (few : length bytes ≤ MOST_PROBLEM) (fits : length (behind_problem bytes report) ≤ most) (closed : ((limits_for limits enough p).pivots < MOST_PIVOTS) ⊎ (solved ≢ Unfinished))
    (first : HasRun (Solve limits enough) bytes report solved) (second : HasRun (Check most) (behind_problem bytes report) line checked) where
  readable : (o : Output) → solved ≡ o.status → IsReadable (limits_for limits enough p) o
  readable o e = elim closed [
    | inl below ↦ inl below
    | inr not ↦ inr (λ u. not (e ∙ u))
  ]

  due_line : (o : Output) (a : Answer) → report ≡ o.text → solved ≡ o.status → IsSolvedBy (limits_for limits enough p) bytes o p a → DueFor (Check most) (behind_problem bytes report) (accepted_of p a)
  due_line o a text e h =
      subst (λ (x : List ℕ). DueFor (Check most) (behind_problem bytes x) (accepted_of p a)) (sym text)
      (accepted_report (limits_for limits enough p) bytes o p a most (readable o e) h few (subst (λ (x : List ℕ). length (behind_problem bytes x) ≤ most) text fits))

  checked_line : (o : Output) (a : Answer) → report ≡ o.text → IsSolvedBy (limits_for limits enough p) bytes o p a
      → HasWritten (λ x. x ≡ accepted_of p a) checked second.old second.new → AcceptsReport p report line checked
  checked_line o a text h w = record {
    answer = a;
    report_is = text ∙ ap (λ (x : Output). x.text) h.is;
    line_is =
        appended second.old.sink.bytes second.new.sink.bytes second.before line w.output.text second.sink_is second.written w.written
        ∙ ap (λ (x : Output). x.text) w.due;
    status_is = w.status_is ∙ ap (λ (x : Output). x.status) w.due;
  }

  solved_line : HasWritten (IsSolved limits enough bytes p) solved first.old first.new → AcceptsReport p report line checked
  solved_line w =
      let o = w.output in
      let a = w.due.0 in
      let text : report ≡ o.text = appended first.old.sink.bytes first.new.sink.bytes first.before report o.text first.sink_is first.written w.written in
      elim (written_so second.words (Check most) second.old second.new checked (behind_problem bytes report) (λ x. x ≡ accepted_of p a) second.spelled second.faultless second.input_is
      (λ x due. one_for_command (Check most) (behind_problem bytes report) x (accepted_of p a) tt due (due_line o a text w.status_is w.due.1))) [
        | inl v ↦ checked_line o a text w.due.1 v
        | inr none ↦ absurd (second.remembered none.status_is)
      ]

  pub run_accepted : AcceptsReport p report line checked
  run_accepted = elim (problem_solved first.words limits enough first.old first.new solved bytes p first.spelled first.faultless first.input_is few spells) [
    | inl w ↦ solved_line w
    | inr none ↦ absurd (first.remembered none.status_is)
  ]

-- ---- weighted clauses
accepted_done : (a : MaxAnswer) → (accepted_line a).status ≡ Done
accepted_done (Optimum c w steps) = refl
accepted_done (Unsatisfiable steps) = refl
accepted_done (Open limit goal steps best) = refl

module _ (conflicts most : ℕ) (bytes text line : List ℕ) (t : WcnfText) (asked checked : Status) (read : IsRead (lines_of bytes) t) (few : length bytes ≤ MOST_PROBLEM)
    (fits : length (behind_problem bytes text) ≤ most) (first : HasRun (MaxSat conflicts) bytes text asked) (second : HasRun (CheckMaxSat most) (behind_problem bytes text) line checked) where
  checked_answer : (o : Output) (h : IsAnswered conflicts bytes o) → text ≡ o.text → HasWritten (DueCheckMaxSat (behind_problem bytes text)) checked second.old second.new → AcceptsAnswer text line checked
  checked_answer o h same w =
      let due : DueCheckMaxSat (behind_problem bytes text) (accepted_line h.answer) = subst (λ (x : List ℕ). DueCheckMaxSat (behind_problem bytes x) (accepted_line h.answer)) (sym same) (answer_accepted conflicts bytes o h) in
      let is : w.output ≡ accepted_line h.answer = one_check_due (behind_problem bytes text) w.output (accepted_line h.answer) w.due due in
      record {
        answer = h.answer;
        text_is = same ∙ h.written;
        line_is =
            appended second.old.sink.bytes second.new.sink.bytes second.before line w.output.text second.sink_is second.written w.written
            ∙ ap (λ (x : Output). x.text) is;
        status_is = w.status_is ∙ ap (λ (x : Output). x.status) is ∙ accepted_done h.answer;
      }

  asked_answer : HasWritten (IsAnswered conflicts bytes) asked first.old first.new → AcceptsAnswer text line checked
  asked_answer w =
      let same : text ≡ w.output.text = appended first.old.sink.bytes first.new.sink.bytes first.before text w.output.text first.sink_is first.written w.written in
      elim (answer_judged second.words most second.old second.new checked (behind_problem bytes text) second.spelled second.faultless second.input_is fits) [
        | inl v ↦ checked_answer w.output w.due same v
        | inr none ↦ absurd (second.remembered none.status_is)
      ]

  pub max_run_accepted : AcceptsAnswer text line checked
  max_run_accepted = elim (clauses_answered first.words conflicts first.old first.new asked bytes t first.spelled first.faultless first.input_is few read) [
    | inl w ↦ asked_answer w
    | inr none ↦ absurd (first.remembered none.status_is)
  ]
