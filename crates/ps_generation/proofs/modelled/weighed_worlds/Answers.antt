use Rattle.std.proofs.Common.{◌∙◌, to_z, of_z}
use Rattle.std.specs.Int.{w128}
use Rattle.ps_generation.proofs.Weighing.{next_entry, read_back}
use Rattle.ps_generation.proofs.modelled.weighed_worlds.Goals as goal

pub loop-place-preserved : goal.loop-place-preserved
loop-place-preserved c =
    let z = c.weight_of-weight.result in
    next_entry c.args.table.now c.args.pool.now c.loop-place.worlds c.add_weighed.new.worlds c.loop-place.place (to_z w128 (of_z w128 z)) c.world_in.result.now
    c.loop-place.invariant c.world_in.ensures (read_back z c.weight_of-weight.ensures.small ∙ c.weight_of-weight.ensures.value) c.weight_of-weight.ensures.divides c.in_ok-add_weighed.ensures
