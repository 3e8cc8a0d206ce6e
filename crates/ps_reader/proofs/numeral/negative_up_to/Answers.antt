use Rattle.std.proofs.Common.{◌∷◌, subst, sym, ap, ◌∙◌, Err}
use Rattle.std.proofs.lemmas.Result.{err_from_is_err_and}
use Rattle.ps_reader.specs.Numerals.{IsCountUpTo, IsNumberUpTo}
use Rattle.ps_reader.proofs.Cut.{negative_refused}
use Rattle.ps_reader.proofs.numeral.negative_up_to.Goals as goal

pub returns-in_err-n : goal.returns-in_err-n
returns-in_err-n c =
    let f = err_from_is_err_and c.from_residual.result c.from_residual.ensures.1 in
    subst (λ r. IsNumberUpTo c.args.limit (45 ∷ c.args.digits.now) r) (sym (f.1 ∙ ap Err f.2))
    (negative_refused c.args.limit c.args.digits.now c.in_err-n.field-0.0 (subst (λ r. IsCountUpTo c.args.limit c.args.digits.now r) c.in_err-n.was c.count_up_to.ensures))
