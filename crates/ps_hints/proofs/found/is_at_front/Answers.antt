use Rattle.std.proofs.Common.{◌∙◌, ap}
use Rattle.std.proofs.Math.Dec.{eqb}
use Rattle.std.specs.List.{starts_with}
use Rattle.ps_hints.proofs.Fronts.{begins}
use Rattle.ps_hints.proofs.found.is_at_front.Goals as goal

pub returns : goal.returns
returns c = begins c.args.bytes.now _ c.starts_with.result
    (c.starts_with.ensures.value ∙ ap (λ part. starts_with eqb c.args.bytes.now part) (c.as_bytes.ensures.value ∙ c.encode_utf8.ensures.value))
