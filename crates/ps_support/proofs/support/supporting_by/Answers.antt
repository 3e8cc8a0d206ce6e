use Rattle.ps_support.proofs.Found.{bound_inside, past_bounds, next_found, all_found}
use Rattle.ps_support.proofs.support.supporting_by.Goals as goal

pub note_supporting-requires-clause-inside : goal.note_supporting-requires-clause-inside
note_supporting-requires-clause-inside c = bound_inside c.args.problem.now.sentences c.args.places.now c.loop-i.i c.requires.places c.loop-i-test.true

pub loop-i-preserved : goal.loop-i-preserved
loop-i-preserved c =
    next_found c.args.problem.now c.args.side c.args.query c.args.dual.now c.args.lines.now c.loop-i.i c.loop-i.found.items c.note_supporting.new.found.items
    (bound_inside c.args.problem.now.sentences c.args.places.now c.loop-i.i c.requires.places c.loop-i-test.true) c.in_ok-note_supporting.ensures c.loop-i.invariant

pub returns : goal.returns
returns c =
    all_found c.args.problem.now c.args.side c.args.query c.args.dual.now c.args.lines.now c.loop-i.i c.loop-i.found.items
    (past_bounds c.args.problem.now.sentences c.args.places.now c.loop-i.i c.requires.places c.loop-i-test.false) c.loop-i.invariant
