use Rattle.std.proofs.Common.{ℕ, ℤ, pos, get_or, to_z, of_z}
use Rattle.std.specs.Int.{w64}
use Rattle.ps_widening.proofs.ScaledRows.{number-back, product-back, terms-more}
use Rattle.ps_widening.proofs.scaling.scaled_terms.Goals as goal

pub times-requires-clause-number : goal.times-requires-clause-number
times-requires-clause-number c =
    let t : ℕ × ℤ = (0, pos 0) in
    let small = c.requires.terms c.loop-term.term-index t c.loop-term-test.true in
    rw (number-back (get_or c.args.terms.now c.loop-term.term-index t).1 small) small

pub loop-term-preserved : goal.loop-term-preserved
loop-term-preserved c =
    let ts = c.args.terms.now in
    let i = c.loop-term.term-index in
    let t : ℕ × ℤ = (0, pos 0) in
    let small = c.requires.terms i t c.loop-term-test.true in
    terms-more c.args.factor ts i t c.loop-term.scaled c.push.new.self (to_z w64 (of_z w64 c.times.result)) c.loop-term-test.true c.loop-term.invariant c.in_ok-push.ensures.ok
    (product-back c.args.factor (get_or ts i t).1 c.times.result small c.times.ensures.size c.times.ensures.value)
