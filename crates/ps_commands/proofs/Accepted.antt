-- A report that is due for `solve` is that of one answer, and is accepted behind the problem's text.
use Rattle.std.proofs.Common.{◌≡◌, ◌≢◌, inl, inr, ℕ, zero, suc, ◌+◌, ◌-◌, ◌≤◌, Bool, true, false, List, [], ◌∷◌, ◌++◌, length, take, drop, map, All, codes, refl, sym, ap, subst, ◌∙◌, arith}
use Rattle.std.specs.Prelude.{sum}
use Rattle.std.specs.List.{AllZip}
use Rattle.std.proofs.lemmas.List.Elements.{All-nil, All-cons}
use Rattle.std.proofs.Math.Nat.{min-le_right}
use Rattle.ps_text.specs.Pieces.{IsBare}
use Rattle.ps_meaning.specs.Statements.{Summand, Plain, Linear, Item, Stated, Asked}
use Rattle.ps_text.specs.Canonical.{IsReducedWeight, AreWritable, IsLawfulItem, AreLawful}
use Rattle.ps_text.proofs.Lawful.{front_lawful}
use Rattle.ps_problem.specs.Problems.{Parts, AreParts}
use Rattle.ps_problem.specs.Drafts.{HasReducedValues}
use Rattle.ps_problem.proofs.Parts.{parts-in-order}
use Rattle.ps_answer.specs.declared.answer.Answer.{Answer}
use Rattle.ps_answer.specs.declared.answer.Verdict.{Verdict}
use Rattle.ps_answer.specs.declared.answer.Verdict.TheVariants as verdict
use Rattle.ps_answer.specs.declared.answer.Dual.{Dual}
use Rattle.ps_answer.specs.Answers.{answer_items}
use Rattle.ps_answer.specs.Faults.{IsReport, IsText}
use Rattle.ps_answer.specs.declared.limits.TheConstants.{MOST_PIVOTS}
use Rattle.ps_claims.specs.Answers.{QueryAnswer, asked_under}
use Rattle.ps_claims.specs.Duals as duals
use Rattle.ps_claims.specs.Claims.{claims_of, open_in_verdict, open_in_part, unfinished_of}
use Rattle.ps_claims.specs.Validity.{IsValid, IsValidPart}
use Rattle.ps_read.specs.Readings.{SpellsProblem}
use Rattle.ps_valid.specs.Answers.{answer_of, verdict_of}
use Rattle.ps_runs.specs.declared.limits.Limits.{Limits}
use Rattle.ps_generation.specs.Phases.{AreLimits}
use Rattle.ps_query.specs.Laws.{IsAnswered}
use Rattle.ps_query.proofs.Reports.{written_text}
use Rattle.ps_query.proofs.LawfulAnswers.{answer_settled}
use Rattle.ps_messages.specs.declared.status.Status.TheVariants.{Unfinished}
use Rattle.ps_commands.specs.declared.command.Command.TheVariants.{Check}
use Rattle.ps_commands.specs.declared.checked.TheConstants.{MOST_SEARCHED}
use Rattle.ps_commands.specs.declared.command.TheConstants.{MOST_PROBLEM}
use Rattle.ps_commands.specs.RunLimits.{enough_for, limits_for}
use Rattle.ps_commands.specs.Due.{Accepted, ReadAs, Spelled, Within, DueFor, IsSolvedBy, report_of, searched, status_by, status_after}
use Rattle.ps_messages.specs.Lines.{Output, accepted}
use Rattle.ps_commands.specs.Accepting.{IsReadable}
use Rattle.ps_commands.proofs.Behind.{spelled_behind, drop_behind, take_behind}

-- nothing is open after another status than Unfinished
data IsFinished (v : Verdict) (n : ℕ) : Type 0 where
  Refuted : (d : Dual) (is : v ≡ verdict.Inconsistent d) → IsFinished v n
  Nothing : (is : n ≡ 0) → IsFinished v n

finished : (v : Verdict) (n : ℕ) → status_by v n ≢ Unfinished → IsFinished v n
finished (verdict.Inconsistent d) n not = Refuted d refl
finished (verdict.Consistent m) zero not = Nothing refl
finished (verdict.Consistent m) (suc n) not = absurd (not refl)
finished (verdict.Open c) zero not = Nothing refl
finished (verdict.Open c) (suc n) not = absurd (not refl)

none_asked : (p : Parts) (v : Verdict) (parts : List (QueryAnswer duals.Dual)) (d : Dual) → v ≡ verdict.Inconsistent d → AllZip (IsValidPart p) (asked_under (verdict_of v) p.queries) parts
    → open_in_verdict (verdict_of v) + sum (map open_in_part parts) ≡ 0
none_asked p (verdict.Inconsistent e) [] d is valid = refl
none_asked p (verdict.Inconsistent e) (x ∷ xs) d is valid = absurd valid
none_asked p (verdict.Consistent m) parts d is valid = absurd (cc)
none_asked p (verdict.Open c) parts d is valid = absurd (cc)

nothing_open : (p : Parts) (a : Answer) → IsFinished a.verdict (unfinished_of (answer_of a)) → IsValid p (answer_of a) → unfinished_of (answer_of a) ≡ 0
nothing_open p a (Nothing is) valid = is
nothing_open p a (Refuted d is) valid = none_asked p a.verdict (answer_of a).parts d is valid.parts

pub read_as : (limits : Limits) (bytes : List ℕ) (o : Output) (p : Parts) (a : Answer) → IsReadable limits o → IsSolvedBy limits bytes o p a → IsReport (report_of a) a
read_as limits bytes o p a (inl few) h = h.read_back (inl few)
read_as limits bytes o p a (inr not) h =
    let done : status_after a ≢ Unfinished = λ e. not (ap (λ (x : Output). x.status) h.is ∙ e) in
    h.read_back (inr (nothing_open p a (finished a.verdict (unfinished_of (answer_of a)) done) h.solution.valid))

-- values that are read are reduced
weights_of : (ts : List Summand) → AreWritable ts → All (λ t. IsReducedWeight t.coefficient) ts
weights_of [] h = All-nil (λ t. IsReducedWeight t.coefficient)
weights_of (t ∷ ts) h = All-cons (λ u. IsReducedWeight u.coefficient) t ts h.0.0 (weights_of ts h.1)

reduced_item : (i : Item) → IsLawfulItem i → HasReducedValues i
reduced_item (Stated (Plain s)) h = (h.2, h.3)
reduced_item (Stated (Linear s)) h = record { some = h.some; few = h.few; coefficients = weights_of s.terms h.terms; value = h.value; upper = h.upper }
reduced_item (Asked q) h = tt

reduced_of : (items : List Item) → AreLawful items → All HasReducedValues items
reduced_of [] h = All-nil HasReducedValues
reduced_of (i ∷ is) h = All-cons HasReducedValues i is (reduced_item i h.0) (reduced_of is h.1)

-- so a problem that bytes spell is in order
pub spelled_parts : (bytes : List ℕ) (p : Parts) (place : ℕ) → SpellsProblem bytes p place → AreParts p
spelled_parts bytes p place s =
    subst AreParts (sym s.made.problem) (parts-in-order s.items s.made.formulas (reduced_of s.items (front_lawful bytes s.items place s.front)) s.made.within)

-- the limits of a run are those that words may set, or less
run_limits : (limits : Limits) (enough : Bool) (p : Parts) → AreLimits limits → AreLimits (limits_for limits enough p)
run_limits limits false p h = h
run_limits limits true p h = record { pivots = min-le_right (enough_for p) MOST_PIVOTS; conflicts = h.conflicts }

solved_answered : (limits : Limits) (bytes : List ℕ) (o : Output) (p : Parts) (a : Answer) → AreLimits limits → IsSolvedBy limits bytes o p a → IsAnswered p limits a
solved_answered limits bytes o p a within h = record {
  parts = spelled_parts bytes p (length bytes) h.spells;
  few_pivots = within.pivots;
  few_conflicts = within.conflicts;
  settled = answer_settled p limits a h.solution.lawful;
  valid = h.solution.valid;
  printed = h.solution.printed;
}

-- so its report is the answer's text, and that of no other
solved_text : (limits : Limits) (bytes : List ℕ) (o : Output) (p : Parts) (a : Answer) → AreLimits limits → IsSolvedBy limits bytes o p a
    → IsText (report_of a) a × ((b : Answer) → IsText (report_of a) b → b ≡ a)
solved_text limits bytes o p a within h = written_text p limits a (solved_answered limits bytes o p a within h)

pub one_solution : (limits : Limits) (enough : Bool) (bytes : List ℕ) (o : Output) (p q : Parts) (a b : Answer) → AreLimits limits
    → IsSolvedBy (limits_for limits enough p) bytes o p a → IsSolvedBy (limits_for limits enough q) bytes o q b → a ≡ b
one_solution limits enough bytes o p q a b within g h =
    let same : report_of b ≡ report_of a = ap (λ (x : Output). x.text) (sym h.is ∙ g.is) in
    let first = solved_text (limits_for limits enough p) bytes o p a (run_limits limits enough p within) g in
    let second = solved_text (limits_for limits enough q) bytes o q b (run_limits limits enough q within) h in
    sym (first.1 b (subst (λ (x : List ℕ). IsText x b) same second.0))

-- a report begins with a letter
bare_report : (a : Answer) (n : ℕ) → IsBare (take n (report_of a))
unfolding answer_items
bare_report a zero = tt
bare_report a (suc n) = refl

pub accepted_report : (limits : Limits) (bytes : List ℕ) (o : Output) (p : Parts) (a : Answer) (most : ℕ) → IsReadable limits o → IsSolvedBy limits bytes o p a
    → length bytes ≤ MOST_PROBLEM → length (bytes ++ (codes "\n" ++ o.text)) ≤ most
    → DueFor (Check most) (bytes ++ (codes "\n" ++ o.text)) (accepted (length (claims_of p (answer_of a))) (unfinished_of (answer_of a)))
accepted_report limits bytes o p a most readable h few within = Within within (Spelled p (length bytes + 1) spells (ReadAs a report (Accepted h.solution.valid h.solution.right refl)))
  where
    text_is : o.text ≡ report_of a
    text_is = ap (λ (x : Output). x.text) h.is

    spells : SpellsProblem (searched (bytes ++ 10 ∷ o.text)) p (length bytes + 1)
    spells =
        subst (λ (x : List ℕ). SpellsProblem x p (length bytes + 1)) (sym (take_behind bytes o.text MOST_SEARCHED (MOST_SEARCHED - (length bytes + 1)) (omega (arith, few))))
        (spelled_behind bytes (take (MOST_SEARCHED - (length bytes + 1)) o.text) p h.spells
        (subst (λ (x : List ℕ). IsBare (take (MOST_SEARCHED - (length bytes + 1)) x)) (sym text_is) (bare_report a (MOST_SEARCHED - (length bytes + 1)))))

    report : IsReport (drop (length bytes + 1) (bytes ++ 10 ∷ o.text)) a
    report = subst (λ (x : List ℕ). IsReport x a) (sym (drop_behind bytes o.text (length bytes + 1) refl ∙ text_is)) (read_as limits bytes o p a readable h)
