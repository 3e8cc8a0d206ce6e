use Rattle.std.proofs.Common.{ap, ◌∙◌, ◌++◌, ◌∷◌, [], map, arith}
use Rattle.std.proofs.lemmas.Result.{on_ok_weaker}
use Rattle.ps_problem.specs.Problems.{name_at}
use Rattle.ps_ground.specs.declared.mark.GroundMark.TheVariants as mark
use Rattle.ps_first_order.specs.FirstOrder.{constant_of}
use Rattle.ps_first_order.specs.FirstOrder as first_order
use Rattle.ps_ground.specs.Grounding.{atom_name}
use Rattle.ps_first_order.specs.Parts.{terms_of, operand, formulas_in, bound_by}
use Rattle.ps_ground.specs.GroundParts.{assignment_in, marks_of, ground_part}
use Rattle.ps_ground.proofs.Marking.{added, added-not, added-joined, far-step, far-marks, far-back}
use Rattle.ps_ground.proofs.marks.+add_marks.Goals as goal

pub returns-in-True-clause-marks : goal.returns-in-True-clause-marks
returns-in-True-clause-marks t c =
    let p = c.args.parts.now in
    let a = assignment_in p c.args.numbers.now.items in
    on_ok_weaker c.push.result (added p c.args.i a c.args.marks.now first_order.Truth c.push.new.self c.in-True.ensures.formula) c.push.ensures.ok

pub returns-in-False-clause-marks : goal.returns-in-False-clause-marks
returns-in-False-clause-marks t c =
    let p = c.args.parts.now in
    let a = assignment_in p c.args.numbers.now.items in
    on_ok_weaker c.push-in-False.result (added p c.args.i a c.args.marks.now first_order.Falsity c.push-in-False.new.self c.in-False.ensures.formula) c.push-in-False.ensures.ok

pub returns-in_ok-name-in-Holds-clause-marks : goal.returns-in_ok-name-in-Holds-clause-marks
returns-in_ok-name-in-Holds-clause-marks t c =
    let p = c.args.parts.now in
    let a = assignment_in p c.args.numbers.now.items in
    let n = name_at p.predicates c.in-Holds.predicate in
    let ts = terms_of p c.in-Holds.start c.in-Holds.end in
    on_ok_weaker c.push-in-Holds.result
    (λ e. added p c.args.i a c.args.marks.now (first_order.Holds n ts) c.push-in-Holds.new.self c.in-Holds.ensures.formula
    (e ∙ ap (λ name. c.args.marks.now ++ mark.Name name ∷ []) (c.in_ok-name-in-Holds.ensures ∙ ap (λ ns. atom_name n (map (constant_of (assignment_in p ns)) ts)) c.deref.ensures.value)))
    c.push-in-Holds.ensures.ok

pub returns-in_ok-add_marks-in-Not-clause-marks : goal.returns-in_ok-add_marks-in-Not-clause-marks
returns-in_ok-add_marks-in-Not-clause-marks t c =
    let p = c.args.parts.now in
    let a = assignment_in p c.args.numbers.now.items in
    on_ok_weaker c.push-in-Not.result
    (added-not p c.args.i a c.args.marks.now (operand (formulas_in p) c.in-Not.operand) c.add_marks.new.marks c.push-in-Not.new.self c.in-Not.ensures.formula c.in_ok-add_marks-in-Not.ensures.marks)
    c.push-in-Not.ensures.ok

pub returns-in_ok-add_marks-in-Joined-2-clause-marks : goal.returns-in_ok-add_marks-in-Joined-2-clause-marks
returns-in_ok-add_marks-in-Joined-2-clause-marks t c =
    let p = c.args.parts.now in
    let a = assignment_in p c.args.numbers.now.items in
    on_ok_weaker c.push-in-Joined.result
    (added-joined p c.args.i a c.args.marks.now c.in-Joined.connective (operand (formulas_in p) c.in-Joined.left) (operand (formulas_in p) c.in-Joined.right)
    c.add_marks-in-Joined.new.marks c.add_marks-in-Joined-2.new.marks c.push-in-Joined.new.self c.in-Joined.ensures.formula c.in_ok-add_marks-in-Joined.ensures.marks
    (c.in_ok-add_marks-in-Joined-2.ensures.marks ∙ ap (λ ns. c.add_marks-in-Joined.new.marks ++ marks_of (ground_part p c.in-Joined.right (assignment_in p ns))) c.in_ok-add_marks-in-Joined.ensures.numbers))
    c.push-in-Joined.ensures.ok

pub loop-constant-preserved : goal.loop-constant-preserved
loop-constant-preserved t c =
    let p = c.args.parts.now in
    far-step p c.in-Bound.quantifier c.in-Bound.variable c.in-Bound.body c.args.numbers.now.items c.args.marks.now c.requires.sound c.requires.numbers
    c.in-Bound.ensures.fits.0 c.loop-constant.constant c.loop-constant.numbers.items c.add_marks-in-loop-constant.new.numbers.items c.loop-constant.marks c.add_marks-in-loop-constant.new.marks c.join.new.marks
    (omega (arith, c.loop-constant-test.true, c.len-constant-end.ensures)) c.loop-constant.invariant c.in_ok-add_marks-in-Bound.ensures.numbers c.in_ok-add_marks-in-Bound.ensures.marks c.in_ok-join-in-Bound.ensures

pub returns-after-loop-constant-clause-marks : goal.returns-after-loop-constant-clause-marks
returns-after-loop-constant-clause-marks t c =
    let p = c.args.parts.now in
    let a = assignment_in p c.args.numbers.now.items in
    let x = c.in-Bound.variable in
    let body = c.in-Bound.body in
    added p c.args.i a c.args.marks.now (bound_by c.in-Bound.quantifier (name_at p.variables x) (operand (formulas_in p) body)) c.loop-constant.marks c.in-Bound.ensures.formula
    (far-marks p c.in-Bound.quantifier x body c.args.numbers.now.items c.args.marks.now c.requires.sound c.loop-constant.constant c.loop-constant.numbers.items c.loop-constant.marks
    (omega (arith, c.loop-constant.auto.constant-end, c.loop-constant-test.false, c.len-constant-end.ensures)) c.loop-constant.invariant)

pub returns-after-loop-constant-clause-numbers : goal.returns-after-loop-constant-clause-numbers
returns-after-loop-constant-clause-numbers t c =
    far-back c.args.parts.now c.in-Bound.quantifier c.in-Bound.variable c.in-Bound.body c.args.numbers.now.items c.args.marks.now
    c.loop-constant.constant c.index-before.result.now c.loop-constant.numbers.items c.loop-constant.marks c.index-before.ensures c.loop-constant.invariant
