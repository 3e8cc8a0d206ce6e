use Rattle.std.proofs.Common.{map, ap, ◌∙◌, rules}
use Rattle.std.specs.Int.RustNames.{FitsSigned}
use Rattle.std.proofs.lemmas.Int.{to_z-of_z}
use mir.Syntax.{w128}
use Rattle.ps_support.specs.Examples.{likely_of}
use Rattle.ps_support.proofs.Loops.{mapped_next, mapped_all}
use Rattle.ps_support.proofs.example.all_likely.Goals as goal

pub loop-weighted-preserved : goal.loop-weighted-preserved
loop-weighted-preserved c =
    let fits : FitsSigned w128 c.args.model.now.total = search rules in
    let grown = simp to_z-of_z at c.in_ok-push_likely.ensures in
    mapped_next (likely_of c.args.model.now.total) c.as_slice-all.result.now c.loop-weighted.weighted-index c.weighted-item.result c.loop-weighted-test.true c.weighted-item.is
    c.loop-weighted.worlds.items c.push_likely.new.worlds.items grown c.loop-weighted.invariant

pub returns : goal.returns
returns c =
    mapped_all (likely_of c.args.model.now.total) c.as_slice-all.result.now c.loop-weighted.weighted-index c.loop-weighted-test.false c.loop-weighted.worlds.items c.loop-weighted.invariant
    ∙ ap (map (likely_of c.args.model.now.total)) c.as_slice-all.ensures
