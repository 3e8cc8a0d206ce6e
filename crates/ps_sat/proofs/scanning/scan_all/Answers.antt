use Rattle.std.proofs.Common.{sym, subst}
use Rattle.ps_pb.specs.Assignments.{Assignment}
use Rattle.ps_pb.specs.Constraints.{Forces}
use Rattle.ps_sat.proofs.Rested.{known-fresh}
use Rattle.ps_sat.proofs.scanning.scan_all.Goals as goal

pub returns-in-Forced : goal.returns-in-Forced
returns-in-Forced c =
    let g = c.args.sight.now.goal in
    let forces : Forces g c.args.a.now c.in-Forced.lit = subst (λ (a : Assignment). Forces g a c.in-Forced.lit) (sym c.requires.seen) c.in-Forced.ensures.0 in
    ((g, c.requires.goal, forces), known-fresh c.args.known.now c.args.a.now c.args.goal g c.in-Forced.lit c.requires.inside c.requires.goal forces c.in-Forced.ensures.1)
