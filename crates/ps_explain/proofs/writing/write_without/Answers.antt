use Rattle.std.proofs.Common.{[], ◌∷◌, rules}
use Rattle.std.specs.Result.{IsErr}
use Rattle.ps_answer.specs.Answers.{model_items}
use Rattle.ps_explain.specs.Texts.{lines_of, without_line}
use Rattle.ps_explain.proofs.SentLines.{lines_then, lines_stop}
use Rattle.ps_explain.proofs.writing.write_without.Goals as goal

pub returns : goal.returns
returns g c = lines_then g.O.Sink _ _ _ _ (without_line c.args.sentence ∷ []) (lines_of (model_items c.args.model.now)) (rw c.in_ok-write_without_head.was at c.write_without_head.ensures) c.write_model.ensures

pub returns-in_err-write_without_head : goal.returns-in_err-write_without_head
returns-in_err-write_without_head g c =
    let failed : IsErr c.from_residual.result = search rules in
    lines_stop g.O.Sink c.args.lines.now c.write_without_head.new.lines _ c.from_residual.result (without_line c.args.sentence ∷ []) (lines_of (model_items c.args.model.now)) (rw c.in_err-write_without_head.was at c.write_without_head.ensures) failed
