-- What is known of the lines that were taken, and what is answered behind them.
use Rattle.std.proofs.Common.{◌≡◌, ◌≢◌, ℕ, ◌+◌, ◌≤◌, true, false, true≢false, Result, Err, List, [], ◌∷◌, ◌++◌, length, refl, sym, ap, subst, ◌∙◌, arith, length-append}
use Rattle.std.specs.Prelude.{◌==◌, is_some}
use Rattle.std.proofs.lemmas.Bool.{eqb-true}
use Rattle.ps_log.specs.FirstLines.{IsOneLine}
use Rattle.ps_problem.specs.Problems.{Parts}
use Rattle.ps_answer.specs.declared.item.LineItem.{LineItem}
use Rattle.ps_answer.specs.declared.part.Part.{Part}
use Rattle.ps_answer.specs.declared.error.LineKind.{LineKind}
use Rattle.ps_answer.specs.declared.error.LineKind.TheVariants.{Truncated, MoreAfterEnd}
use Rattle.ps_valid.specs.declared.refusal.Accepted.{Accepted}
use Rattle.ps_check.specs.declared.end.StreamEnd.{StreamEnd}
use Rattle.ps_check.specs.declared.end.StreamEnd.TheVariants as end
use Rattle.ps_check.specs.declared.progress.Progress.{Progress}
use Rattle.ps_check.specs.declared.state.State.{State}
use Rattle.ps_check.specs.declared.state.State.TheVariants.{Reading, AtFault}
use Rattle.ps_check.specs.Runs.{first_due}
use Rattle.ps_check.specs.Counts.{most_in}
use Rattle.ps_check.specs.Progress.{HasTakenLine, ending}
use Rattle.ps_check.specs.DueLines.{IsLineTaken, IsFaultBefore}
use Rattle.ps_check.specs.Reading.{bytes_of, HasFault, of_stream}
use Rattle.ps_check.specs.Ends.{AnswersReport}
use Rattle.ps_check.specs.States.{StreamState, IsCounted, HasReadAll, HasReadOn, HasTaken, HasTakenOn, Knows}
use Rattle.ps_check.proofs.ReadLines.{read_more, fault_first, read_ends, cut_ends, more_ends}

-- ---- a line more
-- it is read
pub read_line_on : (p : Parts) (taken : ℕ) (due next : List Part) (g h : Progress) (line text : List ℕ) (i : LineItem) → IsOneLine text → line ≡ text ++ 10 ∷ []
    → IsLineTaken line due i next → HasTakenLine p i g h → most_in next + 1 ≤ most_in due → HasReadOn p taken due g text (Reading next h)
read_line_on p taken due next g h line text i one e t judged less = record {
  read = λ lines all. record {
    read = read_more p lines text due next i g h all.read one (subst (λ l. IsLineTaken l due i next) e t) judged;
    all = (let a = all.all in let b = length-append lines (text ∷ []) in omega (arith, a, b));
  };
  counted = λ before. omega (arith, before, less);
}

-- it is at fault
pub fault_line_on : (p : Parts) (taken number : ℕ) (due : List Part) (g : Progress) (line text : List ℕ) (kind : LineKind) → number ≡ taken + 1 → line ≡ text ++ 10 ∷ []
    → IsFaultBefore due line kind → HasReadOn p taken due g text (AtFault kind number)
fault_line_on p taken number due g line text kind n e f = record {
  read = λ lines all. subst (λ m. HasFault (lines ++ text ∷ []) kind m) (ap (λ m. m + 1) (sym all.all) ∙ sym n)
      (fault_first p lines text due g kind all.read (subst (λ l. IsFaultBefore due l kind) e f));
  counted = λ before. omega (arith, before);
}

-- the line is counted
pub read_counted : (old now : StreamState) (due : List Part) (g : Progress) (line : List ℕ) (new : State) → now ≡ old → HasReadOn now.problem now.taken due g line new → IsCounted old.taken (Reading due g)
    → IsCounted (now.taken + 1) new
read_counted old now due g line new e r c = r.counted (subst (λ s. IsCounted s.taken (Reading due g)) (sym e) c)

-- the line is taken
pub read_taken : (old now : StreamState) (due : List Part) (g : Progress) (line : List ℕ) (new : State) → now ≡ old → HasReadOn now.problem now.taken due g line new
    → HasTakenOn (record { problem = old.problem; taken = old.taken; state = Reading due g }) line (record { problem = now.problem; taken = now.taken + 1; state = new })
read_taken old now due g line new e r = record { taken = λ lines h. r.read lines (subst (λ s. HasReadAll s.problem s.taken lines due g) (sym e) h) }

-- ---- behind the last line
pub empty_is : (xs : List ℕ) → (length xs == 0) ≡ true → xs ≡ []
empty_is [] e = refl
empty_is (x ∷ xs) e = let n = eqb-true (length (x ∷ xs)) 0 e in absurd (omega (arith, n))

pub not_empty : (xs : List ℕ) → (length xs == 0) ≡ false → xs ≢ []
not_empty [] e = absurd (true≢false e)
not_empty (x ∷ xs) e = λ f. let n = ap length f in omega (arith, n)

known : (s : StreamState) (due : List Part) (g : Progress) (lines : List (List ℕ)) → s.state ≡ Reading due g → HasTaken s lines → HasReadAll s.problem s.taken lines due g
known s due g lines e h = subst (λ at. Knows s.problem s.taken at lines) e h

numbered : (p : Parts) (taken : ℕ) (lines : List (List ℕ)) (rest : List ℕ) (kind : LineKind) → taken ≡ length lines
    → AnswersReport p (bytes_of lines rest) (Err (end.Line kind (length lines + 1))) → AnswersReport p (bytes_of lines rest) (Err (end.Line kind (taken + 1)))
numbered p taken lines rest kind e a = subst (λ n. AnswersReport p (bytes_of lines rest) (Err (end.Line kind (n + 1)))) (sym e) a

-- a part is due
pub cut_known : (s : StreamState) (taken : ℕ) (due : List Part) (g : Progress) (rest : List ℕ) → taken ≡ s.taken → s.state ≡ Reading due g → is_some (first_due due) ≡ true → IsOneLine rest
    → (lines : List (List ℕ)) → HasTaken s lines → AnswersReport s.problem (bytes_of lines rest) (Err (end.Line Truncated (taken + 1)))
cut_known s taken [] g rest n e d one lines h = absurd (true≢false (sym d))
cut_known s taken (part ∷ due) g rest n e d one lines h =
    let k = known s (part ∷ due) g lines e h in
    numbered s.problem taken lines rest Truncated (n ∙ k.all) (cut_ends s.problem lines part due g rest k.read one)

none_due : (due : List Part) → is_some (first_due due) ≡ false → due ≡ []
none_due [] d = refl
none_due (part ∷ due) d = absurd (true≢false d)

-- no part is due, and bytes are left
pub more_known : (s : StreamState) (taken : ℕ) (due : List Part) (g : Progress) (rest : List ℕ) → taken ≡ s.taken → s.state ≡ Reading due g → is_some (first_due due) ≡ false → rest ≢ []
    → (lines : List (List ℕ)) → HasTaken s lines → AnswersReport s.problem (bytes_of lines rest) (Err (end.Line MoreAfterEnd (taken + 1)))
more_known s taken due g rest n e d some lines h =
    let k = known s [] g lines (e ∙ ap (λ x. Reading x g) (none_due due d)) h in
    numbered s.problem taken lines rest MoreAfterEnd (n ∙ k.all) (more_ends s.problem lines g rest k.read some)

-- no part is due, and nothing is left
pub all_known : (s : StreamState) (due : List Part) (g : Progress) (rest : List ℕ) (result : Result Accepted StreamEnd) → s.state ≡ Reading due g → is_some (first_due due) ≡ false
    → rest ≡ [] → length s.problem.queries ≤ 16 → result ≡ of_stream (ending g) → (lines : List (List ℕ)) → HasTaken s lines → AnswersReport s.problem (bytes_of lines rest) result
all_known s due g rest result e d none few r lines h =
    let k = known s [] g lines (e ∙ ap (λ x. Reading x g) (none_due due d)) h in
    subst (λ x. AnswersReport s.problem (bytes_of lines x) result) (sym none) (read_ends s.problem lines g result few k.read r)
