use Rattle.ps_ask.proofs.RoundLaws.{pending_taken, rounds_put, rounds_taken}
use Rattle.ps_ask.proofs.rounds.turn_at.Goals as goal

pub turn_of-requires-clause-pending : goal.turn_of-requires-clause-pending
turn_of-requires-clause-pending g c =
    pending_taken c.args.settings c.args.trials.now c.args.rounds.now c.args.place c.take.result c.known_or_nothing-known.result c.requires.rounds c.requires.place
    c.take.ensures.taken c.known_or_nothing-known.ensures

pub returns : goal.returns
returns g c =
    let s = c.args.settings in
    let p = c.args.trials.now in
    rounds_put s p c.take.new.self c.put.new.self c.args.place c.in_ok-pending.pending
    (rounds_taken s p c.args.rounds.now c.take.new.self c.args.place c.requires.rounds c.take.ensures.pendings c.take.ensures.turn)
    c.in_ok-pending.ensures c.put.ensures.pendings c.put.ensures.turn
