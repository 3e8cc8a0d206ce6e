use Rattle.std.proofs.Common.{List, ℤ, ap, ◌∙◌, rules}
use Rattle.std.specs.Prelude.{get_or, pos}
use Rattle.std.specs.Int.RustNames.{FitsSigned}
use Rattle.std.proofs.lemmas.Int.{to_z-of_z}
use mir.Syntax.{w128}
use Rattle.ps_support.proofs.support.multiplier_at.Goals as goal

pub returns : goal.returns
returns c =
    let fits : FitsSigned w128 c.number_at.result = search rules in
    to_z-of_z w128 c.number_at.result fits ∙ c.number_at.ensures ∙ ap (λ (xs : List ℤ). get_or xs c.args.i (pos 0)) c.as_slice.ensures
