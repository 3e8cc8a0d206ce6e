use Rattle.std.proofs.Common.{subst, sym, ap, ◌∙◌, Err}
use Rattle.std.proofs.lemmas.Result.{err_from_is_err_and}
use Rattle.ps_reader.specs.Numerals.{IsCountUpTo}
use Rattle.ps_reader.specs.Ratios.{IsUnder}
use Rattle.ps_reader.proofs.Cut.{under_refused}
use Rattle.ps_reader.proofs.ratio.positive.Goals as goal

pub returns-in_err-n : goal.returns-in_err-n
returns-in_err-n c =
    let f = err_from_is_err_and c.from_residual.result c.from_residual.ensures.1 in
    subst (λ r. IsUnder c.args.limit c.args.word.now r) (sym (f.1 ∙ ap Err f.2))
    (under_refused c.args.limit c.args.word.now c.in_err-n.field-0.0 (subst (λ r. IsCountUpTo c.args.limit c.args.word.now r) c.in_err-n.was c.count_up_to.ensures))
