use Rattle.std.proofs.Common.{arith}
use Rattle.ps_pb.proofs.Summed.{at_size}
use Rattle.ps_pb.proofs.weights.terms_of_coefficients.Goals as goal

pub push_term-requires-clause-size : goal.push_term-requires-clause-size
push_term-requires-clause-size c =
    let s = at_size c.args.sums.now c.loop-place.place c.loop-place-test.true c.requires.small in
    omega (arith, s)
