use Rattle.std.proofs.Common.{◌+◌, None, arith}
use Rattle.ps_learn.proofs.Pushing.{has-room, level-small, pushed, decided-view, fresh-inside}
use Rattle.ps_learn.proofs.trail.Trail.decide.Goals as goal

pub overflow_add-level : goal.overflow_add-level
overflow_add-level c =
    let s = c.self.inside in
    let small = level-small s.values s.slots.items s.used s.level c.args.lit c.self.invariant (fresh-inside s.values s.slots.items s.used c.args.self.now c.args.lit c.self.view_is c.requires) in
    omega (arith, small)

pub index_mut-requires : goal.index_mut-requires
index_mut-requires c =
    let s = c.self.inside in
    let room = has-room s.values s.slots.items s.used s.level c.args.lit c.self.invariant (fresh-inside s.values s.slots.items s.used c.args.self.now c.args.lit c.self.view_is c.requires) in
    omega (arith, room, s.slots.ok.0)

pub invariant_of-self : goal.invariant_of-self
invariant_of-self c =
    let s = c.self.inside in
    rw c.set.ensures (pushed s.values s.slots.items s.used s.level (record { lit = c.args.lit; reason = None; level = s.level + 1 }) c.self.invariant (fresh-inside s.values s.slots.items s.used c.args.self.now c.args.lit c.self.view_is c.requires) (omega (arith, c.self.invariant.level_is)))

pub returns : goal.returns
returns c =
    let s = c.self.inside in
    decided-view s.values c.set.new.self s.slots.items s.used s.level c.args.lit c.args.self.now c.self.invariant c.requires c.self.view_is c.set.ensures
