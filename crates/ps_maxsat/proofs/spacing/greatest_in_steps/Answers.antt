use Rattle.std.proofs.Common.{arith}
use Rattle.std.proofs.lemmas.Int.{ints}
use Rattle.ps_maxsat.proofs.Multiples.{none-between, down-by-rest, no-step}
use Rattle.ps_maxsat.proofs.spacing.greatest_in_steps.Goals as goal

pub returns-then-unit-eq0-clause-steps : goal.returns-then-unit-eq0-clause-steps
returns-then-unit-eq0-clause-steps c = no-step c.args.unit c.args.found _ (omega (arith, ints))

pub returns-then-unit-eq0-clause-none_between : goal.returns-then-unit-eq0-clause-none_between
returns-then-unit-eq0-clause-none_between c = λ p v all own w up.
    none-between c.args.unit p.soft p.base c.args.found _ c.args.bound v w (no-step c.args.unit c.args.found _ (omega (arith, ints))) (λ some. absurd (omega arith)) all own up

pub returns : goal.returns
returns c =
    let s = down-by-rest c.args.found c.args.bound c.abs_diff.result c.args.unit c.requires.above c.requires.found_size c.requires.bound_size (omega (arith, ints, c.abs_diff.ensures, c.requires.found_size, c.requires.bound_size)) (omega (arith, c.if-unit-eq0.false)) in
    record {
      from = s.from;
      within = s.within;
      steps = s.steps;
      greatest = λ _. s.near;
      none_between = λ p v all own w up. none-between c.args.unit p.soft p.base c.args.found _ c.args.bound v w s.steps (λ _. s.near) all own up;
    }
