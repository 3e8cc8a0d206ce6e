-- A line that is taken, or at fault.
use Rattle.std.proofs.Common.{◌≡◌, ◌≢◌, ℕ, List, [], ◌∷◌, ◌++◌, length, Some, None, refl, sym, ap, subst, ◌∙◌, arith, append_assoc, length-append}
use Rattle.std.proofs.lemmas.List.Elements.{All-pop}
use Rattle.std.proofs.lemmas.Option.{none-some, same_Some}
use Rattle.ps_log.specs.FirstLines.{IsOneLine, IsFirstLine}
use Rattle.ps_answer.specs.declared.item.LineItem.{LineItem}
use Rattle.ps_answer.specs.declared.part.Part.{Part}
use Rattle.ps_answer.specs.declared.error.LineKind.{LineKind}
use Rattle.ps_answer.specs.declared.error.LineKind.TheVariants.{Truncated, BadLine, NotCanonical, TooLarge, MoreAfterEnd}
use Rattle.ps_answer.specs.Faults.{IsFault}
use Rattle.ps_reader.specs.declared.error.LineError.{LineError}
use Rattle.ps_reader.specs.declared.error.LineError.TheVariants as error
use Rattle.ps_reader.specs.Lines.{TakesLine, IsLineFault}
use Rattle.ps_check.specs.Runs.{first_due, IsBehind}
use Rattle.ps_check.specs.DueLines.{HasFeed, IsLineTaken, IsFaultBefore, IsLineAtFault}

-- a part is due next
record IsNext (old : List Part) (p : Part) : Type 0 where
  due : List Part
  old_is : old ≡ p ∷ due

next_is : (old : List Part) (p : Part) → Some p ≡ first_due old → IsNext old p
next_is [] p e = absurd (none-some p (sym e))
next_is (q ∷ due) p e = record { due = due; old_is = ap (λ x. x ∷ due) (sym (same_Some p q e)) }

none_due : (old : List Part) → None ≡ first_due old → old ≡ []
none_due [] e = refl
none_due (q ∷ due) e = absurd (none-some q e)

-- more bytes behind a first line
first_more : (bytes line rest more : List ℕ) → IsFirstLine bytes line rest → IsFirstLine (bytes ++ more) line (rest ++ more)
first_more bytes line rest more f = record { is = ap (λ bs. bs ++ more) f.is ∙ append_assoc line (10 ∷ rest) more; whole = f.whole }

not_one_line : (bytes : List ℕ) → HasFeed bytes → IsOneLine bytes → ⊥
not_one_line bytes h w = (All-pop (λ b. b ≢ 10) bytes h.text (Some 10) h.is w).1 refl

fault_more : (p : Part) (due : List Part) (bytes more : List ℕ) (kind : LineKind) → HasFeed bytes → IsFault (p ∷ due) bytes kind → IsFault (p ∷ due) (bytes ++ more) kind
fault_more p due bytes more Truncated h f = absurd (not_one_line bytes h f)
fault_more p due bytes more BadLine h f = record { line = f.line; more = f.more ++ more; first = first_more bytes f.line f.more more f.first; bad = f.bad }
fault_more p due bytes more NotCanonical h f = record { line = f.line; more = f.more ++ more; first = first_more bytes f.line f.more more f.first; begun = f.begun; none = f.none }
fault_more p due bytes more TooLarge h f = record { line = f.line; more = f.more ++ more; first = first_more bytes f.line f.more more f.first; item = f.item; says = f.says; next = f.next; fits = f.fits; past = f.past }
fault_more p due bytes more MoreAfterEnd h f = absurd f

pub more_behind : (old : List Part) (bytes : List ℕ) → None ≡ first_due old → HasFeed bytes → IsFaultBefore old bytes MoreAfterEnd
more_behind old bytes e h = record {
  fault = λ more. subst (λ d. IsFault d (bytes ++ more) MoreAfterEnd) (sym (none_due old e))
      (λ n. let a = ap length n in let b = length-append bytes more in let c = ap length h.is in let d = length-append h.text (10 ∷ []) in absurd (omega (arith, a, b, c, d)));
}

pub fault_there : (old : List Part) (p : Part) (bytes : List ℕ) (e : LineError) → Some p ≡ first_due old → HasFeed bytes → IsLineFault p bytes e → IsLineAtFault old bytes e
fault_there old p bytes (error.Fault kind) n h f =
    let at = next_is old p n in
    record { fault = λ more. subst (λ d. IsFault d (bytes ++ more) kind) (sym at.old_is) (fault_more p at.due bytes more kind h (f at.due)) }
fault_there old p bytes error.NoMemory n h f = tt

pub taken_there : (old new : List Part) (p : Part) (bytes rest : List ℕ) (i : LineItem) → Some p ≡ first_due old → TakesLine p bytes i rest → IsBehind i old new → IsLineTaken bytes old i new
taken_there old new p bytes rest i n t b =
    let at = next_is old p n in
    let f = t.fits at.due in record {
      text = t.line;
      rest = rest;
      first = t.first;
      says = t.says;
      within = t.within;
      part = p;
      due = at.due;
      old_is = at.old_is;
      behind_is = f.1 ∙ ap Some (sym (b.behind p at.due f.0 at.old_is f.1));
    }
