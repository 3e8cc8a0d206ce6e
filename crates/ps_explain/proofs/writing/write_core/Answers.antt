use Rattle.std.proofs.Common.{[], ◌∷◌, codes, rules}
use Rattle.std.specs.Result.{IsErr}
use Rattle.ps_explain.specs.Texts.{below_core, numbers_line}
use Rattle.ps_explain.proofs.SentLines.{lines_then, lines_stop}
use Rattle.ps_explain.proofs.writing.write_core.Goals as goal

pub returns : goal.returns
returns g c = lines_then g.O.Sink _ _ _ _ (numbers_line (codes "core") c.args.sentences.now ∷ []) (below_core c.args.sentences.now c.args.dual.now c.args.without.now) (rw c.in_ok-write_numbers.was at c.write_numbers.ensures) c.write_dual_and_models.ensures

pub returns-in_err-write_numbers : goal.returns-in_err-write_numbers
returns-in_err-write_numbers g c =
    let failed : IsErr c.from_residual.result = search rules in
    lines_stop g.O.Sink c.args.lines.now c.write_numbers.new.lines _ c.from_residual.result (numbers_line (codes "core") c.args.sentences.now ∷ []) (below_core c.args.sentences.now c.args.dual.now c.args.without.now) (rw c.in_err-write_numbers.was at c.write_numbers.ensures) failed
