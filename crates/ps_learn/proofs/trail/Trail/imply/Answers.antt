use Rattle.std.proofs.Common.{Some, arith}
use Rattle.ps_learn.proofs.Pushing.{has-room, pushed, implied-view, fresh-inside}
use Rattle.ps_learn.proofs.trail.Trail.imply.Goals as goal

pub index_mut-requires : goal.index_mut-requires
index_mut-requires c =
    let s = c.self.inside in
    let room = has-room s.values s.slots.items s.used s.level c.args.lit c.self.invariant (fresh-inside s.values s.slots.items s.used c.args.self.now c.args.lit c.self.view_is c.requires) in
    omega (arith, room, s.slots.ok.0)

pub invariant_of-self : goal.invariant_of-self
invariant_of-self c =
    let s = c.self.inside in
    rw c.set.ensures (pushed s.values s.slots.items s.used s.level (record { lit = c.args.lit; reason = Some c.args.reason; level = s.level }) c.self.invariant (fresh-inside s.values s.slots.items s.used c.args.self.now c.args.lit c.self.view_is c.requires) (omega (arith, c.self.invariant.level_is)))

pub returns : goal.returns
returns c =
    let s = c.self.inside in
    implied-view s.values c.set.new.self s.slots.items s.used s.level c.args.lit c.args.reason c.args.self.now c.self.invariant c.requires c.self.view_is c.set.ensures
