-- The end of a formula.
use Rattle.std.proofs.Common.{◌≡◌, ◌+◌, ◌<◌, Bool, true, false, ◌++◌, length, refl, arith}
use Rattle.std.proofs.lemmas.List.{length-append}
use Rattle.ps_problem.specs.Drafts.{AreBelow}
use Rattle.ps_read.specs.Pending.{IsEndable}
use Rattle.ps_read.specs.Machine.{Work, numbered_as, formula_ended}
use Rattle.ps_read.specs.Ready.{HasDraftedFormulas}

-- behind it the item's formulas are in the draft
pub ended_numbered : (w : Work) → IsEndable w.pending.draft → (w.item.conditional ≡ true → w.item.formula < length w.pending.draft.formulas) → HasDraftedFormulas (formula_ended w)
ended_numbered w i h = by w.item.conditional refl
  where
    more : length (w.pending.draft.formulas ++ w.pending.draft.«open») ≡ length w.pending.draft.formulas + length w.pending.draft.«open»
    more = length-append w.pending.draft.formulas w.pending.draft.«open»

    by : (b : Bool) → w.item.conditional ≡ b
        → AreBelow (length (w.pending.draft.formulas ++ w.pending.draft.«open»)) (numbered_as b w.item (length w.pending.draft.formulas)).formula (numbered_as b w.item (length w.pending.draft.formulas)).given
    by false e = (omega (arith, more, i.one), tt)
    by true e = (omega (arith, more, i.one, h e), omega (arith, more, i.one))
