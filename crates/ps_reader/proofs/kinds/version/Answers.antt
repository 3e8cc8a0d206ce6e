use Rattle.std.proofs.Common.{subst, sym, Err}
use Rattle.std.specs.Prelude.{⊤}
use Rattle.ps_answer.specs.Items.{count}
use Rattle.ps_reader.specs.Read.{IsWordRead}
use Rattle.ps_reader.proofs.Cut.{other_version, version_is}
use Rattle.ps_reader.proofs.kinds.version.Goals as goal

pub returns-in-Err : goal.returns-in-Err
returns-in-Err c = subst (λ x. IsWordRead {A = Unit {0}} (λ u. count 1) (λ u. ⊤) (λ u. ⊤) c.args.word.now (Err x)) (sym c.of_any_size.ensures) (other_version c.args.word.now c.in-Err.why c.in-Err.ensures)

pub returns-in-Ok : goal.returns-in-Ok
returns-in-Ok c = version_is c.args.word.now c.in-Ok.n c.version_of.result c.in-Ok.ensures.0 c.version_of.ensures
