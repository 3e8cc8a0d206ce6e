use Rattle.std.proofs.Common.{rules}
use Rattle.std.specs.Result.{IsErr}
use Rattle.ps_answer.specs.Answers.{dual_items}
use Rattle.ps_explain.specs.Texts.{lines_of, models_lines}
use Rattle.ps_explain.proofs.SentLines.{lines_then, lines_stop}
use Rattle.ps_explain.proofs.writing.write_dual_and_models.Goals as goal

pub returns : goal.returns
returns g c = lines_then g.O.Sink _ _ _ _ (lines_of (dual_items c.args.dual.now)) (models_lines c.args.sentences.now c.args.without.now) (rw c.in_ok-write_dual.was at c.write_dual.ensures) c.write_models.ensures

pub returns-in_err-write_dual : goal.returns-in_err-write_dual
returns-in_err-write_dual g c =
    let failed : IsErr c.from_residual.result = search rules in
    lines_stop g.O.Sink c.args.lines.now c.write_dual.new.lines _ c.from_residual.result (lines_of (dual_items c.args.dual.now)) (models_lines c.args.sentences.now c.args.without.now) (rw c.in_err-write_dual.was at c.write_dual.ensures) failed
