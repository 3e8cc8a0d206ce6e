use Rattle.ps_pb.specs.Steps.{known_of}
use Rattle.ps_sat.proofs.Reading.{extends-then}
use Rattle.ps_sat.proofs.propagating.propagate.Goals as goal

pub returns-clause-extends : goal.returns-clause-extends
returns-clause-extends c = extends-then (known_of c.args.known.now) c.args.trail.now c.link_waiting.new.trail c.propagate_watched.new.trail c.in_default.ensures.linked.extends c.propagate_watched.ensures.followed.extends
