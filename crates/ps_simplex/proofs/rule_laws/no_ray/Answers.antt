use Rattle.ps_simplex.proofs.Rays as rays
use Rattle.ps_simplex.proofs.rule_laws.no_ray.Goals as goal

pub returns : goal.returns
returns c = record { none = record { costs = rays.no_ray; row = rays.no_ray_upper } }
