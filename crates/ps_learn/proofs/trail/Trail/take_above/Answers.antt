use Rattle.std.proofs.Common.{arith, ap, ◌∙◌, unsigned_abs}
use Rattle.ps_pb.specs.Assignments.{without}
use Rattle.ps_learn.specs.Trails.{TrailEntry}
use Rattle.ps_learn.proofs.Cutting.{none-above, taken-inside, taken-level, taken-same, taken-vars}
use Rattle.ps_learn.proofs.trail.Trail.take_above.Goals as goal

pub returns-then-last-most-clause-moved : goal.returns-then-last-most-clause-moved
returns-then-last-most-clause-moved c =
    let s = c.self.inside in
    none-above s.values s.slots.items s.used s.level c.args.most c.index-last.result.now c.args.self.now c.self.invariant c.self.view_is (omega arith) c.index-last.ensures (omega (arith, ap (λ (x : TrailEntry). x.level) c.last.view_is, c.if-last-most.true))

pub overflow_sub-self : goal.overflow_sub-self
overflow_sub-self c =
    let s = c.self.inside in
    taken-level s.values s.slots.items s.used s.level c.index-last.result.now _ c.self.invariant (omega arith) c.index-last.ensures c.decisions-decided.ensures

pub invariant_of-self : goal.invariant_of-self
invariant_of-self c =
    let s = c.self.inside in
    taken-inside s.values c.unset.new.self s.slots.items s.used s.level c.index-last.result.now c.decisions-decided.result c.self.invariant (omega arith) c.index-last.ensures
    (c.unset.ensures ∙ ap (without s.values) (c.variable-variable.ensures.value ∙ ap (λ (x : TrailEntry). unsigned_abs x.lit) c.last.view_is)) c.decisions-decided.ensures

pub returns-clause-same : goal.returns-clause-same
returns-clause-same c =
    let s = c.self.inside in
    taken-same s.values c.unset.new.self s.slots.items s.used s.level c.args.most c.index-last.result.now c.args.self.now c.self.invariant c.self.view_is (omega arith) c.index-last.ensures
    (omega (arith, ap (λ (x : TrailEntry). x.level) c.last.view_is, c.if-last-most.false))
    (c.unset.ensures ∙ ap (without s.values) (c.variable-variable.ensures.value ∙ ap (λ (x : TrailEntry). unsigned_abs x.lit) c.last.view_is))

pub returns-clause-variables : goal.returns-clause-variables
returns-clause-variables c =
    let s = c.self.inside in
    taken-vars s.values c.unset.new.self s.slots.items s.used c.variable-variable.result c.args.self.now c.self.view_is c.unset.ensures
