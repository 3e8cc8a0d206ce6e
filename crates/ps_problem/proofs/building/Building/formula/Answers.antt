use Rattle.std.proofs.Common.{[], take, sym, subst, arith}
use Rattle.std.proofs.lemmas.List.{get_or_read}
use Rattle.std.proofs.lemmas.Result.{err_from_is_err_and}
use Rattle.ps_problem.specs.declared.mark.Mark.TheVariants as mark
use Rattle.ps_problem.specs.DraftLists.{open_after}
use Rattle.ps_problem.specs.Numbered.{IsStack}
use Rattle.ps_problem.proofs.Operators.{length-stand, tops-are, numbers-below}
use Rattle.ps_problem.proofs.Turns.{held-at, reached-start, reached-stop, reached-next, one-left, reached-end}
use Rattle.ps_problem.proofs.building.Building.formula.Goals as goal

pub loop-mark-init : goal.loop-mark-init
loop-mark-init c = λ h. rw c.new-stack.ensures.items (reached-start c.args.draft.now.names h.formulas c.marks-marks.result.now c.args.self.now h)

pub mark-requires-clause-operands : goal.mark-requires-clause-operands
mark-requires-clause-operands c =
    let r = c.loop-mark.invariant c.requires.built in
    let h = held-at c.args.draft.now.names [] c.marks-marks.result.now c.loop-mark.mark-index mark.True c.marks-marks.ensures.marks.held c.loop-mark-test.true in
    let l = length-stand r.built.formulas (open_after c.args.draft.now.names [] (take c.loop-mark.mark-index c.marks-marks.result.now)) c.loop-mark.stack.items r.stack_is in
    rw c.deref.ensures.value (omega arith)

pub mark-requires-clause-below : goal.mark-requires-clause-below
mark-requires-clause-below c =
    let r = c.loop-mark.invariant c.requires.built in
    rw (c.deref.ensures.value, r.built.nodes_are) (numbers-below r.built.formulas (open_after c.args.draft.now.names [] (take c.loop-mark.mark-index c.marks-marks.result.now)) c.loop-mark.stack.items r.stack_is)

pub mark-requires-clause-few : goal.mark-requires-clause-few
mark-requires-clause-few c = (c.loop-mark.invariant c.requires.built).built.few_atoms

pub returns-in_err-number : goal.returns-in_err-number
returns-in_err-number c = λ h.
    let p = err_from_is_err_and c.from_residual.result c.from_residual.ensures.1 in
    let r = c.loop-mark.invariant h in
    let m = c.marks-marks.ensures.marks in
    let s = subst (λ ps. IsStack r.built.formulas (open_after c.args.draft.now.names [] (take c.loop-mark.mark-index c.marks-marks.result.now)) ps) (sym c.deref.ensures.value) r.stack_is in
    rw (p.1, p.2, ← c.marks-marks.ensures.root, ← tops-are c.args.draft.now.names c.marks-marks.result.now _ m.held m.made)
    (reached-stop c.args.draft.now.names h.formulas c.marks-marks.result.now c.loop-mark.mark-index c.loop-mark.self c.loop-mark.stack.items r mark.True c.loop-mark-test.true
    c.mark.new.self c.in_err-number.field-0.0 (c.in_err-number.ensures.each c.args.draft.now.names r.built (m.below c.loop-mark.mark-index mark.True c.loop-mark-test.true) _ s))

pub replace-requires : goal.replace-requires
replace-requires c =
    let r = c.loop-mark.invariant c.requires.built in
    let h = held-at c.args.draft.now.names [] c.marks-marks.result.now c.loop-mark.mark-index mark.True c.marks-marks.ensures.marks.held c.loop-mark-test.true in
    let l = length-stand r.built.formulas (open_after c.args.draft.now.names [] (take c.loop-mark.mark-index c.marks-marks.result.now)) c.loop-mark.stack.items r.stack_is in
    rw c.operands.ensures (omega arith)

pub loop-mark-preserved : goal.loop-mark-preserved
loop-mark-preserved c = λ h.
    let r = c.loop-mark.invariant h in
    let s = subst (λ ps. IsStack r.built.formulas (open_after c.args.draft.now.names [] (take c.loop-mark.mark-index c.marks-marks.result.now)) ps) (sym c.deref.ensures.value) r.stack_is in
    let held = held-at c.args.draft.now.names [] c.marks-marks.result.now c.loop-mark.mark-index mark.True c.marks-marks.ensures.marks.held c.loop-mark-test.true in
    let l = length-stand r.built.formulas (open_after c.args.draft.now.names [] (take c.loop-mark.mark-index c.marks-marks.result.now)) c.loop-mark.stack.items r.stack_is in
    rw (c.in_ok-replace.ensures, c.operands.ensures)
    (reached-next c.args.draft.now.names h.formulas c.marks-marks.result.now c.loop-mark.mark-index c.loop-mark.self c.loop-mark.stack.items r mark.True c.loop-mark-test.true
    c.mark.new.self c.in_ok-number.number (omega arith) (c.in_ok-number.ensures.each c.args.draft.now.names r.built (c.marks-marks.ensures.marks.below c.loop-mark.mark-index mark.True c.loop-mark-test.true) _ s))

pub index-requires : goal.index-requires
index-requires c =
    let r = c.loop-mark.invariant c.requires.built in
    let one = one-left c.args.draft.now.names c.requires.built.formulas c.marks-marks.result.now c.loop-mark.mark-index c.loop-mark.self c.loop-mark.stack.items r c.loop-mark-test.false c.marks-marks.ensures.marks in
    omega arith

pub returns : goal.returns
returns c = λ h.
    let r = c.loop-mark.invariant h in
    let one = one-left c.args.draft.now.names h.formulas c.marks-marks.result.now c.loop-mark.mark-index c.loop-mark.self c.loop-mark.stack.items r c.loop-mark-test.false c.marks-marks.ensures.marks in
    let e = get_or_read c.loop-mark.stack.items 0 c.index.result.now (omega arith) c.index.ensures 0 in
    rw (e, ← c.marks-marks.ensures.root) (reached-end c.args.draft.now.names h.formulas c.marks-marks.result.now c.loop-mark.mark-index c.loop-mark.self c.loop-mark.stack.items r c.loop-mark-test.false c.marks-marks.ensures.marks)
