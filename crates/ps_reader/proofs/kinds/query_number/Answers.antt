use Rattle.std.proofs.Common.{◌≡◌, ◌≤◌, arith, subst, sym, Err}
use Rattle.ps_answer.specs.Items.{count}
use Rattle.ps_reader.specs.Read.{IsWordRead}
use Rattle.ps_reader.proofs.Cut.{other_number}
use Rattle.ps_reader.proofs.kinds.query_number.Goals as goal

pub returns-in-Err : goal.returns-in-Err
returns-in-Err c =
    let b : c.args.due ≤ c.from.result = omega (arith, c.ranges.due.fits, c.from.ensures) in
    subst (λ x. IsWordRead count (λ n. n ≡ c.args.due) (λ n. n ≤ 16) c.args.word.now (Err x)) (sym c.of_any_size.ensures) (other_number c.args.word.now c.from.result c.args.due c.in-Err.why b c.in-Err.ensures)
