use Rattle.std.proofs.Common.{subst, sym}
use Rattle.ps_guess.specs.declared.known.Known.{Known}
use Rattle.ps_guess.specs.Known.{IsKnown}
use Rattle.ps_ask.proofs.rounds.known_or_nothing.Goals as goal

pub returns-in-None : goal.returns-in-None
returns-in-None c = λ s p q h. subst (λ (k : Known). IsKnown s.limits p q k) (sym c.new.ensures) (tt, tt)
