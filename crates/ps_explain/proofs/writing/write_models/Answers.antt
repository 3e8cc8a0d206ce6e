use Rattle.std.proofs.Common.{rules}
use Rattle.std.specs.Result.{IsErr}
use Rattle.ps_explain.proofs.SentLines.{models_turn, models_fault}
use Rattle.ps_explain.proofs.writing.write_models.Goals as goal

pub loop-i-preserved : goal.loop-i-preserved
loop-i-preserved g c =
    models_turn g.O.Sink c.args.sentences.now c.args.without.now c.loop-i.i 0 c.index-without-i.result c.requires.each c.loop-i-test.true c.args.lines.now c.loop-i.lines c.write_without.new.lines
    c.loop-i.invariant (rw (c.in_ok-write_without.was, c.index-without-i.is) at c.write_without.ensures)

pub returns-in_err-write_without : goal.returns-in_err-write_without
returns-in_err-write_without g c =
    let failed : IsErr c.from_residual.result = search rules in
    models_fault g.O.Sink c.args.sentences.now c.args.without.now c.loop-i.i 0 c.index-without-i.result c.requires.each c.loop-i-test.true c.args.lines.now c.loop-i.lines c.write_without.new.lines
    c.loop-i.invariant _ c.from_residual.result (rw (c.in_err-write_without.was, c.index-without-i.is) at c.write_without.ensures) failed
