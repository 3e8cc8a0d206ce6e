use Rattle.std.proofs.Common.{arith, to_z, of_z}
use mir.Syntax.{w128}
use Rattle.std.proofs.lemmas.Int.{ints}
use Rattle.ps_optimum.proofs.Settings.{wcnf-is}
use Rattle.ps_optimum.proofs.setting.wcnf_of.Goals as goal

pub returns-clause-value : goal.returns-clause-value
returns-clause-value c =
    let small = c.in_ok-form.ensures.small in
    wcnf-is c.args.text.now c.in_ok-form.form (to_z w128 (of_z w128 c.in_ok-form.form.base)) (omega (arith, ints, small.low, small.high)) c.in_ok-form.ensures.form

pub returns-clause-narrow : goal.returns-clause-narrow
returns-clause-narrow c = let small = c.in_ok-form.ensures.small in omega (arith, ints, small.sizes, small.low, small.high)
