use Rattle.std.proofs.Common.{◌≡◌, to_z, of_z, unsigned_abs, sym, ap, ◌∙◌}
use Rattle.std.proofs.lemmas.Int.{to_z-of_z}
use mir.Syntax.{w128}
use Rattle.ps_meaning.specs.Rational.{fraction}
use Rattle.ps_valid.proofs.Quotients.{quotients}
use Rattle.ps_valid.proofs.quotient.is_quotient.Goals as goal

pub returns : goal.returns
returns c =
    let q = quotients c.args.value.now c.args.over c.args.under c.requires.positive in
    let f : to_z w128 (of_z w128 c.args.over) ≡ c.args.over = to_z-of_z w128 c.args.over c.ranges.over in
    let g : to_z w128 (of_z w128 c.args.under) ≡ c.args.under = to_z-of_z w128 c.args.under c.ranges.under in
    let same : fraction (to_z w128 (of_z w128 c.args.over)) (unsigned_abs (to_z w128 (of_z w128 c.args.under))) ≡ fraction c.args.over (unsigned_abs c.args.under) = ap (λ z. fraction z (unsigned_abs (to_z w128 (of_z w128 c.args.under)))) f ∙ ap (λ z. fraction c.args.over (unsigned_abs z)) g in
    let value : c.new.result ≡ fraction c.args.over (unsigned_abs c.args.under) = c.new.ensures.value ∙ same in
    (λ yes. q.0 (sym value ∙ c.same.ensures.0 yes), λ h. c.same.ensures.1 (value ∙ q.1 h))
