use Rattle.std.proofs.Common.{◌≡◌, sym, Some}
use Rattle.ps_pb.specs.Steps.{known_of, constraint_at}
use Rattle.ps_sat.proofs.Rested.{known-fresh}
use Rattle.ps_sat.proofs.scanning.show_at.Goals as goal

pub returns-in-Forced : goal.returns-in-Forced
returns-in-Forced c =
    let at : constraint_at (known_of c.args.known.now) c.args.id ≡ Some c.in-Some.c.now = sym c.in-Some.ensures in
    ((c.in-Some.c.now, at, c.in-Forced.ensures.0), known-fresh c.args.known.now c.args.a.now c.args.id c.in-Some.c.now c.in-Forced.lit c.requires.inside at c.in-Forced.ensures.0 c.in-Forced.ensures.1)
