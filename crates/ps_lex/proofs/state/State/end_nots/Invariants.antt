use Rattle.std.proofs.Common.{◌≡◌, length}
use Rattle.ps_text.specs.ExpectedTokens.{without_nots}
use Rattle.ps_lex.proofs.state.State.end_nots.Given as goal

abbrev pub invariant-loop-self : goal.invariant-loop-self
invariant-loop-self l = (l.self.part ≡ l.initial.self.part) × (l.self.query ≡ l.initial.self.query) × (l.self.given ≡ l.initial.self.given)
    × (l.self.version ≡ l.initial.self.version) × (l.self.linear ≡ l.initial.self.linear) × (l.self.minus ≡ l.initial.self.minus)
    × (without_nots l.self.opened ≡ without_nots l.initial.self.opened)

abbrev pub decreases-loop-self : goal.decreases-loop-self
decreases-loop-self l = length l.self.opened
