use Rattle.std.proofs.Common.{refl}
use Rattle.ps_read.proofs.Steps.{has_passed, together_passed}
use Rattle.ps_read.proofs.reader.Reader.pass.Goals as goal

pub returns-clause-passed : goal.returns-clause-passed
returns-clause-passed c = has_passed c.args.bytes.now c.pass.result.now c.args.self.now _ c.pass.ensures.passes refl

pub returns-clause-together : goal.returns-clause-together
returns-clause-together c = together_passed c.args.bytes.now c.pass.result.now c.args.self.now _ c.pass.ensures.passes refl c.requires.together
