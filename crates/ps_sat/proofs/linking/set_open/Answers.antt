use Rattle.std.proofs.Common.{◌≡◌, None, subst}
use Rattle.ps_pb.specs.Assignments.{value_of}
use Rattle.ps_pb.specs.Steps.{known_of}
use Rattle.ps_sat.proofs.Reading.{extends-same, extends-implied}
use Rattle.ps_sat.proofs.Attached.{fresh-open, set-implied}
use Rattle.ps_sat.proofs.linking.set_open.Goals as goal

pub returns-in-None-clause-extends : goal.returns-in-None-clause-extends
returns-in-None-clause-extends c =
    let e : value_of c.values.result.now c.args.lit ≡ None = cc (c.value_of.ensures, c.in-None.is) in
    let none = subst (λ a. value_of a c.args.lit ≡ None) c.values.ensures.value e in
    extends-implied (known_of c.args.known.now) c.args.trail.now c.imply.new.self c.args.lit c.args.id c.imply.ensures (fresh-open c.args.trail.now c.args.lit c.requires.inside none) (c.requires.forces none)

pub returns-in-None-clause-set : goal.returns-in-None-clause-set
returns-in-None-clause-set c = set-implied c.args.trail.now c.imply.new.self c.args.lit c.args.id c.imply.ensures c.requires.inside

pub returns-in-Some-clause-extends : goal.returns-in-Some-clause-extends
returns-in-Some-clause-extends c = extends-same (known_of c.args.known.now) c.args.trail.now
