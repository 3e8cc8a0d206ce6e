use Rattle.std.proofs.Common.{arith, unsigned_abs, subst}
use Rattle.std.specs.Int.{IsGcd}
use Rattle.std.proofs.lemmas.Int.{ints}
use Rattle.ps_maxsat.proofs.Multiples.{unit-first, unit-next, unit-last}
use Rattle.ps_maxsat.proofs.spacing.unit_of.Goals as goal

pub loop-term-init : goal.loop-term-init
loop-term-init c = λ g h. unit-first c.args.soft.now g h

pub loop-term-preserved : goal.loop-term-preserved
loop-term-preserved c =
    let of : IsGcd c.loop-term.unit (unsigned_abs c.term-item.result.1) c.gcd-unit.result = subst (λ n. IsGcd c.loop-term.unit n c.gcd-unit.result) (omega (arith, ints, c.unsigned_abs.ensures.value)) c.gcd-unit.ensures in
    λ g h. c.loop-term.invariant g (unit-next c.args.soft.now c.loop-term.term-index c.term-item.result c.loop-term.unit c.gcd-unit.result g c.loop-term-test.true c.term-item.is of h)

pub returns : goal.returns
returns c = c.loop-term.invariant c.loop-term.unit (unit-last c.args.soft.now c.loop-term.term-index c.loop-term.unit (omega (arith, c.loop-term-test.false)))
