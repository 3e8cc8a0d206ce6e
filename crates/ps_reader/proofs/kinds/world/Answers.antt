use Rattle.std.specs.Prelude.{⊤}
use Rattle.std.proofs.Common.{subst, sym, ap, ◌∙◌, Err}
use Rattle.std.proofs.lemmas.Result.{err_from_is_err_and}
use Rattle.ps_answer.specs.Items.{count, IsWorldWithin}
use Rattle.ps_reader.specs.Kinds.{IsWorld}
use Rattle.ps_reader.specs.Read.{IsWordRead}
use Rattle.ps_reader.proofs.Cut.{world_digits}
use Rattle.ps_reader.proofs.kinds.world.Goals as goal

pub returns-in_err-world_number : goal.returns-in_err-world_number
returns-in_err-world_number c =
    let f = err_from_is_err_and c.from_residual.result c.from_residual.ensures.1 in
    subst (λ r. IsWorld c.args.digits.now r) (sym (f.1 ∙ ap Err f.2))
    (world_digits c.args.digits.now (Err c.in_err-world_number.field-0.0)
    (subst (λ r. IsWordRead count (λ n. ⊤) IsWorldWithin c.args.digits.now r) c.in_err-world_number.was c.world_number.ensures))
