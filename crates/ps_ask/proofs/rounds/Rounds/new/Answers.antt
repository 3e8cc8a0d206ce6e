use Rattle.std.proofs.Common.{◌∙◌, arith}
use Rattle.ps_ask.proofs.RoundLaws.{first_rounds}
use Rattle.ps_ask.proofs.rounds.Rounds.new.Goals as goal

pub returns : goal.returns
returns c = λ s p. first_rounds s p (record { pendings = c.into_vec.result; turn = 0 }) c.loop.counter (c.into_vec.ensures ∙ c.loop.invariant) (omega arith)
