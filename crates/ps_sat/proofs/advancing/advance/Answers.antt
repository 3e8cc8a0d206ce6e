use Rattle.std.proofs.Common.{◌∙◌, List, ap, subst, arith}
use Rattle.ps_pb.specs.Constraints.{Constraint}
use Rattle.ps_pb.specs.Steps.{known_of}
use Rattle.ps_learn.specs.Trails.{Trail, values}
use Rattle.ps_learn.specs.Rest.{IsAtRest}
use Rattle.ps_learn.proofs.Advancing.{decided-reasons, decided-fewer, decided-longer, longer_then}
use Rattle.ps_learn.proofs.Growing.{rested-implied, atoms-implied, rested-decided, atoms-decided}
use Rattle.ps_sat.specs.Watches.{Extends}
use Rattle.ps_sat.proofs.Reasons.{extends-reasons}
use Rattle.ps_sat.proofs.Stepping.{decided-step, over-then}
use Rattle.ps_sat.proofs.SearchSteps.{fresh-decided}
use Rattle.ps_sat.proofs.advancing.advance.Goals as goal

pub on-smaller : goal.on-smaller
on-smaller c =
    let fresh = fresh-decided _ c.propagate.new.trail c.values.result.now _ c.values.ensures.value (c.propagate.ensures.extends.variables ∙ c.on.invariant.same ∙ c.requires.variables) c.in-Some-choose.ensures.0 in
    omega (arith, decided-fewer c.propagate.new.trail c.decide.new.self _ c.decide.ensures fresh, c.propagate.ensures.fewer)

pub on-preserved : goal.on-preserved
on-preserved c =
    let fresh = fresh-decided _ c.propagate.new.trail c.values.result.now _ c.values.ensures.value (c.propagate.ensures.extends.variables ∙ c.on.invariant.same ∙ c.requires.variables) c.in-Some-choose.ensures.0 in
    let x = subst (λ (cs : List Constraint). Extends (known_of cs) c.on.trail c.propagate.new.trail) c.on.invariant.over.known c.propagate.ensures.extends in
    record {
      over = over-then _ _ _ c.on.invariant.over c.propagate.ensures.over;
      in_step = decided-step c.propagate.new.self c.propagate.new.trail c.decide.new.self _ c.decide.ensures c.in_default.ensures.settled c.in_default.ensures.seen;
      same = ap (λ (t : Trail). t.variables) c.decide.ensures ∙ x.variables ∙ c.on.invariant.same;
      longer = decided-longer _ c.propagate.new.trail c.decide.new.self _ c.decide.ensures (longer_then _ _ _ c.on.invariant.longer x.longer);
      reasons = decided-reasons _ c.propagate.new.trail c.decide.new.self _ c.decide.ensures (extends-reasons _ c.on.trail c.propagate.new.trail x c.on.invariant.reasons);
      rested = rested-decided c.args.base.now.variables _ c.propagate.new.trail c.decide.new.self _ c.decide.ensures (x.variables ∙ c.on.invariant.same ∙ c.requires.variables)
          (rested-implied _ _ c.on.trail.entries _ x.longer x.level_is c.on.invariant.rested)
          (subst (λ (cs : List Constraint). IsAtRest (known_of cs) (values c.propagate.new.trail)) c.on.invariant.over.known c.in_default.ensures.ended);
      atoms = atoms-decided c.args.base.now c.propagate.new.trail c.decide.new.self _ c.decide.ensures (atoms-implied _ c.on.trail.entries _ x.longer x.level_is c.on.invariant.atoms) c.in-Some-choose.ensures.1;
    }

pub returns-in-Some-clause-rested : goal.returns-in-Some-clause-rested
returns-in-Some-clause-rested c =
    let x = subst (λ (cs : List Constraint). Extends (known_of cs) c.on.trail c.propagate.new.trail) c.on.invariant.over.known c.propagate.ensures.extends in
    rested-implied _ _ c.on.trail.entries _ x.longer x.level_is c.on.invariant.rested

pub returns-in-Some-clause-atoms : goal.returns-in-Some-clause-atoms
returns-in-Some-clause-atoms c =
    let x = subst (λ (cs : List Constraint). Extends (known_of cs) c.on.trail c.propagate.new.trail) c.on.invariant.over.known c.propagate.ensures.extends in
    atoms-implied _ c.on.trail.entries _ x.longer x.level_is c.on.invariant.atoms

pub returns-in-None-clause-rested : goal.returns-in-None-clause-rested
returns-in-None-clause-rested c =
    let x = subst (λ (cs : List Constraint). Extends (known_of cs) c.on.trail c.propagate.new.trail) c.on.invariant.over.known c.propagate.ensures.extends in
    rested-implied _ _ c.on.trail.entries _ x.longer x.level_is c.on.invariant.rested

pub returns-in-None-clause-atoms : goal.returns-in-None-clause-atoms
returns-in-None-clause-atoms c =
    let x = subst (λ (cs : List Constraint). Extends (known_of cs) c.on.trail c.propagate.new.trail) c.on.invariant.over.known c.propagate.ensures.extends in
    atoms-implied _ c.on.trail.entries _ x.longer x.level_is c.on.invariant.atoms

pub returns-in-Some-clause-reasons : goal.returns-in-Some-clause-reasons
returns-in-Some-clause-reasons c =
    let x = subst (λ (cs : List Constraint). Extends (known_of cs) c.on.trail c.propagate.new.trail) c.on.invariant.over.known c.propagate.ensures.extends in
    extends-reasons _ c.on.trail c.propagate.new.trail x c.on.invariant.reasons

pub returns-in-None-clause-reasons : goal.returns-in-None-clause-reasons
returns-in-None-clause-reasons c =
    let x = subst (λ (cs : List Constraint). Extends (known_of cs) c.on.trail c.propagate.new.trail) c.on.invariant.over.known c.propagate.ensures.extends in
    extends-reasons _ c.on.trail c.propagate.new.trail x c.on.invariant.reasons
