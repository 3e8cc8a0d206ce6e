use Rattle.std.proofs.Common.{sym, ap, ◌∙◌}
use Rattle.ps_pb.specs.Weights.{weighted}
use Rattle.ps_pb.specs.Constraints.{Constraint}
use Rattle.ps_pb.proofs.Summed.{weighted-terms_of}
use Rattle.ps_pb.proofs.constraint.Constraint.terms.Goals as goal

pub returns-clause-value : goal.returns-clause-value
returns-clause-value c = sym (weighted-terms_of c.self.inside.terms c.self.invariant.positive) ∙ ap (λ (x : Constraint). weighted x.terms) c.self.view_is
