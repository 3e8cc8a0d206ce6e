use Rattle.std.proofs.Common.{subst, sym, ap, ◌∙◌, Err}
use Rattle.std.proofs.lemmas.Result.{err_from_is_err_and}
use Rattle.ps_reader.specs.Numerals.{IsCountUpTo, IsNumberUpTo}
use Rattle.ps_reader.proofs.Cut.{positive_refused}
use Rattle.ps_reader.proofs.numeral.positive_up_to.Goals as goal

pub returns-in_err-count_up_to : goal.returns-in_err-count_up_to
returns-in_err-count_up_to c =
    let f = err_from_is_err_and c.from_residual.result c.from_residual.ensures.1 in
    subst (λ r. IsNumberUpTo c.args.limit c.args.word.now r) (sym (f.1 ∙ ap Err f.2))
    (positive_refused c.args.limit c.args.word.now c.in_err-count_up_to.field-0.0 c.requires.no_minus (subst (λ r. IsCountUpTo c.args.limit c.args.word.now r) c.in_err-count_up_to.was c.count_up_to.ensures))
