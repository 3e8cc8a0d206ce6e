use Rattle.std.proofs.Common.{None, Some, false, ◌≡◌}
use Rattle.ps_pb.specs.Assignments.{value_of}
use Rattle.ps_sat.proofs.Seen.{violated, forced}
use Rattle.ps_sat.proofs.looking.look_at.Goals as goal

pub returns-in-None-open_other : goal.returns-in-None-open_other
returns-in-None-open_other c =
    let e : value_of c.args.a.now c.args.other ≡ Some false = cc (c.value_of.ensures, c.in-Some-false.is, c.in-Some-false.field-0-test) in
    violated c.args.c.now c.args.a.now c.args.other c.requires.plain c.in-None-open_other.ensures e

pub returns-in-None-open_other-2 : goal.returns-in-None-open_other-2
returns-in-None-open_other-2 c =
    let e : value_of c.args.a.now c.args.other ≡ None = cc (c.value_of.ensures, c.in-None.is) in
    forced c.args.c.now c.args.a.now c.args.other c.terms-terms.result.now c.requires.plain c.requires.term c.terms-terms.ensures.value c.terms-terms.ensures.normal c.in-None-open_other-2.ensures e
