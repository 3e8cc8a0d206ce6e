use Rattle.std.specs.Prelude.{⊤}
use Rattle.std.proofs.Common.{subst, sym, ap, ◌∙◌, Err}
use Rattle.std.proofs.lemmas.Result.{err_from_is_err_and}
use Rattle.ps_answer.specs.Items.{count, IsWorldWithin}
use Rattle.ps_reader.specs.Numerals.{IsCountUpTo}
use Rattle.ps_reader.specs.Read.{IsWordRead}
use Rattle.ps_reader.proofs.Cut.{world_refused, not_zero}
use Rattle.ps_reader.proofs.kinds.world_number.Goals as goal

pub returns-in_err-n : goal.returns-in_err-n
returns-in_err-n c =
    let f = err_from_is_err_and c.from_residual.result c.from_residual.ensures.1 in
    subst (λ r. IsWordRead count (λ n. ⊤) IsWorldWithin c.args.word.now r) (sym (f.1 ∙ ap Err f.2))
    (world_refused c.args.word.now c.in_err-n.field-0.0 (subst (λ r. IsCountUpTo 1000001 c.args.word.now r) c.in_err-n.was c.count_up_to.ensures))

pub returns : goal.returns
returns c = not_zero c.args.word.now c.in_ok-n.n c.not_zero.result c.in_ok-n.ensures.0 c.in_ok-n.ensures.1 c.not_zero.ensures
