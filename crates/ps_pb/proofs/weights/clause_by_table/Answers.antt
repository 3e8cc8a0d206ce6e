use Rattle.std.proofs.Common.{◌≡◌, ◌≤◌, ◌^◌, length, take, ap, sym, ◌∙◌, arith}
use Rattle.ps_pb.specs.Weights.{size_sum}
use Rattle.ps_pb.proofs.Bounds.{each_once-size, each_once-length}
use Rattle.ps_pb.proofs.weights.clause_by_table.Goals as goal

pub from_weights-requires : goal.from_weights-requires
from_weights-requires c =
    let lits = take c.loop-lit.lit-index c.args.lits.now in
    let same = c.deref.ensures.value ∙ c.loop-lit.invariant in
    let size : size_sum c.deref.result.now ≡ length c.deref.result.now = ap size_sum same ∙ each_once-size lits ∙ sym (ap length same ∙ each_once-length lits) in
    let few : length c.deref.result.now ≤ 2 ^ 64 = omega (arith, c.deref.ensures.len) in
    omega (arith, size, few)
