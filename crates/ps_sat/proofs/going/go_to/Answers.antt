use Rattle.ps_pb.specs.Steps.{known_of}
use Rattle.ps_sat.proofs.Visited.{put-spare}
use Rattle.ps_sat.proofs.Reading.{own-within, extends-same}
use Rattle.ps_sat.proofs.going.go_to.Goals as goal

pub put-requires-clause-within : goal.put-requires-clause-within
put-requires-clause-within c = own-within c.args.trail.now.variables c.args.known.now c.args.w.now c.args.node c.requires.kept c.requires.node

pub returns-in-Some-clause-spare : goal.returns-in-Some-clause-spare
returns-in-Some-clause-spare c = put-spare c.args.trail.now.variables c.args.known.now c.args.w.now c.put.new.w c.args.node c.requires.kept c.requires.node c.put.ensures.put

pub returns-in-Some-clause-extends : goal.returns-in-Some-clause-extends
returns-in-Some-clause-extends c = extends-same (known_of c.args.known.now) c.args.trail.now
