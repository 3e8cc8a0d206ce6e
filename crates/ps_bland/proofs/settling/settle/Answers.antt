use Rattle.std.proofs.Common.{refl, ◌∙◌}
use Rattle.ps_bland.proofs.Cycles.{fewer, no_cycle}
use Rattle.ps_bland.proofs.Steps.{ran_none, ran_more}
use Rattle.ps_bland.proofs.settling.settle.Goals as goal

pub loop-settled-init : goal.loop-settled-init
loop-settled-init c =
    let tableau = c.rows-sound.ensures.tableau in
    let ran = ran_none c.args.phase c.args.costs.now c.args.table.now c.args.trace.now in
    record {
      ran = ran;
      counted = refl;
      kinds = refl;
      worlds = refl;
      ready = c.requires.ready;
      stands = λ A h. h;
      fewer = fewer c.args.phase c.args.costs.now c.args.table.now c.args.table.now c.args.trace.now c.args.trace.now c.args.left.now c.args.left.now tableau c.requires.ready ran refl;
      tableau = tableau;
      no_cycle = no_cycle c.args.phase c.args.costs.now c.args.table.now c.args.table.now c.args.trace.now c.args.trace.now tableau c.requires.ready ran;
    }

pub loop-settled-preserved : goal.loop-settled-preserved
loop-settled-preserved c =
    let step = rw c.in-None.is at c.in_ok-step.ensures.pivot in
    let ran = ran_more _ _ _ _ _ _ _ _ c.loop-settled.invariant.ran step in
    let counted = c.step.ensures.counted ∙ c.loop-settled.invariant.counted in
    record {
      ran = ran;
      counted = counted;
      tableau = c.loop-settled.invariant.tableau;
      fewer = fewer _ _ _ _ _ _ _ _ c.loop-settled.invariant.tableau c.requires.ready ran counted;
      no_cycle = no_cycle _ _ _ _ _ _ c.loop-settled.invariant.tableau c.requires.ready ran;
      kinds = step.pivot.kinds ∙ c.loop-settled.invariant.kinds;
      worlds = step.pivot.worlds ∙ c.loop-settled.invariant.worlds;
      ready = c.step.ensures.ready;
      stands = λ A h. c.step.ensures.stands A (c.loop-settled.invariant.stands A h);
    }

pub returns-in_err-step-clause-stands : goal.returns-in_err-step-clause-stands
returns-in_err-step-clause-stands c = λ A h. c.step.ensures.stands A (c.loop-settled.invariant.stands A h)

pub returns-in-Some-clause-stands : goal.returns-in-Some-clause-stands
returns-in-Some-clause-stands c = λ A h. c.step.ensures.stands A (c.loop-settled.invariant.stands A h)
