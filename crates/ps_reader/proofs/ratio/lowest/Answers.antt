use Rattle.std.proofs.Common.{subst, sym, ap, ◌∙◌, Err}
use Rattle.std.proofs.lemmas.Result.{err_from_is_err_and}
use Rattle.ps_reader.specs.Ratios.{IsLowestOf}
use Rattle.ps_reader.proofs.ratio.lowest.Goals as goal

pub returns-in_err-over : goal.returns-in_err-over
returns-in_err-over c =
    let f = err_from_is_err_and c.from_residual.result c.from_residual.ensures.1 in
    subst (λ b. IsLowestOf b c.from_residual.result) (sym c.in_err-over.was ∙ c.both.ensures) (f.1 ∙ ap Err f.2)
