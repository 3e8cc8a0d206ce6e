use Rattle.std.proofs.Common.{◌≡◌, arith}
use Rattle.std.specs.Prelude.{pos}
use Rattle.std.proofs.lemmas.Int.{ints}
use Rattle.ps_support.proofs.Found.{none_noted, one_noted}
use Rattle.ps_support.proofs.support.note_supporting.Goals as goal

pub returns-then-multiplier-eq0 : goal.returns-then-multiplier-eq0
returns-then-multiplier-eq0 c =
    let zero : c.multiplier_at-multiplier.result ≡ pos 0 = omega (arith, ints) in
    none_noted c.args.problem.now c.args.side c.args.query c.args.dual.now c.args.lines.now c.args.i c.multiplier_at-multiplier.result c.multiplier_at-multiplier.ensures zero
    c.args.found.now.items

pub returns : goal.returns
returns c =
    one_noted c.args.problem.now c.args.side c.args.query c.args.dual.now c.args.lines.now c.push_supporting.result c.args.i c.args.places.now c.place_at-place.result
    c.multiplier_at-multiplier.result c.requires.places c.place_at-place.ensures c.multiplier_at-multiplier.ensures
    (λ (e : c.multiplier_at-multiplier.result ≡ pos 0). c.if-multiplier-eq0.false (omega (arith, ints))) c.args.found.now.items c.push_supporting.new.into.items c.push_supporting.ensures
