-- First lines of causes, verdicts, sides and answers, and the parts that follow them.
use Rattle.std.proofs.Common.{◌≡◌, Bool, true, false, List, [], ◌∷◌, ◌++◌, Some, refl, sym, ap, ◌∙◌, append_assoc}
use Rattle.std.proofs.lemmas.Option.{none-some}
use Rattle.ps_answer.specs.declared.item.Ratio.{Ratio}
use Rattle.ps_answer.specs.declared.item.LineItem.{LineItem}
use Rattle.ps_answer.specs.declared.item.LineItem.TheVariants as line
use Rattle.ps_answer.specs.declared.part.Part.{Part}
use Rattle.ps_answer.specs.declared.part.Part.TheVariants.{AVerdict, AModel, ADual, ACause, ATrace, AnAnswer, ASide}
use Rattle.ps_answer.specs.ExpectedParts.{behind}
use Rattle.ps_reader.specs.Read.{Fits}
use Rattle.ps_reader.specs.declared.lines.Lines.{Lines}
use Rattle.ps_reader.specs.Taken.{Takes}
use Rattle.ps_reader.specs.Reports.{parts_behind}
use Rattle.ps_reader.proofs.Passing.{opening_due}

pub cause_only : (i : LineItem) → Fits ACause i → ((n : _) → i ≡ line.OpenPivots n → ⊥) → ((n : _) → i ≡ line.OpenConflicts n → ⊥) → ((p : _) (o : _) (l r : _) → i ≡ line.OpenWide p o l r → ⊥) → ⊥
unfolding behind
cause_only (line.OpenPivots n) f h k m = h n refl
cause_only (line.OpenConflicts n) f h k m = k n refl
cause_only (line.OpenWide p o l r) f h k m = m p o l r refl
cause_only i f h k m = absurd (none-some _ (f []).1)

pub cause_due : (i : LineItem) → Fits ACause i → (due : List Part) → behind ACause i due ≡ Some (parts_behind i ++ due)
unfolding behind
cause_due i f due = opening_due i due f

-- verdicts
pub consistent_due : (due : List Part) → behind AVerdict line.Consistent due ≡ Some ((AModel ∷ []) ++ due)
unfolding behind
consistent_due due = refl

pub inconsistent_due : (due : List Part) → behind AVerdict line.Inconsistent due ≡ Some ((ADual ∷ []) ++ due)
unfolding behind
inconsistent_due due = refl

pub verdict_cause : (i : LineItem) → Fits AVerdict i → (i ≡ line.Consistent → ⊥) → (i ≡ line.Inconsistent → ⊥) → Fits ACause i
unfolding behind
verdict_cause line.Consistent f h k = absurd (h refl)
verdict_cause line.Inconsistent f h k = absurd (k refl)
verdict_cause (line.OpenPivots n) f h k = f
verdict_cause (line.OpenConflicts n) f h k = f
verdict_cause (line.OpenWide p o l r) f h k = f
verdict_cause i f h k = absurd (none-some _ (f []).1)

pub verdict_opening : (i : LineItem) → Fits AVerdict i → (i ≡ line.Consistent → ⊥) → (i ≡ line.Inconsistent → ⊥) → (due : List Part) → behind AVerdict i due ≡ Some (parts_behind i ++ due)
unfolding behind
verdict_opening line.Consistent f h k due = absurd (h refl)
verdict_opening line.Inconsistent f h k due = absurd (k refl)
verdict_opening (line.OpenPivots n) f h k due = refl
verdict_opening (line.OpenConflicts n) f h k due = opening_due (line.OpenConflicts n) due f
verdict_opening (line.OpenWide p o l r) f h k due = refl
verdict_opening i f h k due = absurd (none-some _ (f []).1)

-- answers
pub bounds_due : (due : List Part) → behind AnAnswer line.Bounds due ≡ Some ((ATrace ∷ ASide false ∷ ASide true ∷ []) ++ due)
unfolding behind
bounds_due due = refl

pub impossible_due : (due : List Part) → behind AnAnswer line.Impossible due ≡ Some ((ADual ∷ ATrace ∷ []) ++ due)
unfolding behind
impossible_due due = refl

pub answer_cause : (i : LineItem) → Fits AnAnswer i → (i ≡ line.Bounds → ⊥) → (i ≡ line.Impossible → ⊥) → Fits ACause i
unfolding behind
answer_cause line.Bounds f h k = absurd (h refl)
answer_cause line.Impossible f h k = absurd (k refl)
answer_cause (line.OpenPivots n) f h k = λ due. (due, refl)
answer_cause (line.OpenConflicts n) f h k = λ due. (_, refl)
answer_cause (line.OpenWide p o l r) f h k = λ due. (due, refl)
answer_cause i f h k = absurd (none-some _ (f []).1)

pub answer_opening : (i : LineItem) → Fits AnAnswer i → (i ≡ line.Bounds → ⊥) → (i ≡ line.Impossible → ⊥) → (due : List Part) → behind AnAnswer i due ≡ Some ((parts_behind i ++ ATrace ∷ []) ++ due)
unfolding behind
answer_opening line.Bounds f h k due = absurd (h refl)
answer_opening line.Impossible f h k due = absurd (k refl)
answer_opening (line.OpenPivots n) f h k due = refl
answer_opening (line.OpenConflicts n) f h k due =
    opening_due (line.OpenConflicts n) (ATrace ∷ due) (λ ds. (_, refl)) ∙ ap Some (sym (append_assoc (parts_behind (line.OpenConflicts n)) (ATrace ∷ []) due))
answer_opening (line.OpenWide p o l r) f h k due = refl
answer_opening i f h k due = absurd (none-some _ (f []).1)

-- sides
pub bound_taken : (upper u : Bool) (q : Ratio) (a b : Lines) → Fits (ASide upper) (line.Bound u q) → Takes a b (line.Bound u q ∷ []) → Takes a b (line.Bound upper q ∷ [])
unfolding behind
bound_taken true true q a b f t = t
bound_taken false false q a b f t = t
bound_taken true false q a b f t = absurd (none-some _ (f []).1)
bound_taken false true q a b f t = absurd (none-some _ (f []).1)

pub open_taken : (upper u : Bool) (a b : Lines) → Fits (ASide upper) (line.OpenSide u) → Takes a b (line.OpenSide u ∷ []) → Takes a b (line.OpenSide upper ∷ [])
unfolding behind
open_taken true true a b f t = t
open_taken false false a b f t = t
open_taken true false a b f t = absurd (none-some _ (f []).1)
open_taken false true a b f t = absurd (none-some _ (f []).1)

pub side_only : (upper : Bool) (i : LineItem) → Fits (ASide upper) i → ((u : Bool) (q : Ratio) → i ≡ line.Bound u q → ⊥) → ((u : Bool) → i ≡ line.OpenSide u → ⊥) → ⊥
unfolding behind
side_only upper (line.Bound u q) f h k = h u q refl
side_only upper (line.OpenSide u) f h k = k u refl
side_only true i f h k = absurd (none-some _ (f []).1)
side_only false i f h k = absurd (none-some _ (f []).1)
