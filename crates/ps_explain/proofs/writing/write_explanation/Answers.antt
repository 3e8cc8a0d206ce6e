use Rattle.std.proofs.Common.{[], ◌∷◌, rules}
use Rattle.std.specs.Result.{IsErr}
use Rattle.ps_explain.specs.Texts.{body_and_end, explanation_line}
use Rattle.ps_explain.proofs.SentLines.{lines_then, lines_stop}
use Rattle.ps_explain.proofs.writing.write_explanation.Goals as goal

pub returns : goal.returns
returns g c = lines_then g.O.Sink _ _ _ _ (explanation_line ∷ []) (body_and_end c.args.explained.now) (rw c.in_ok-write_head.was at c.write_head.ensures) c.write_body_and_end.ensures

pub returns-in_err-write_head : goal.returns-in_err-write_head
returns-in_err-write_head g c =
    let failed : IsErr c.from_residual.result = search rules in
    lines_stop g.O.Sink c.args.lines.now c.write_head.new.lines _ c.from_residual.result (explanation_line ∷ []) (body_and_end c.args.explained.now) (rw c.in_err-write_head.was at c.write_head.ensures) failed
