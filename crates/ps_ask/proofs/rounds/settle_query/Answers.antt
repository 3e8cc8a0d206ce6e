use Rattle.ps_ask.proofs.RoundLaws.{pending_taken}
use Rattle.ps_ask.proofs.rounds.settle_query.Goals as goal

pub returns-clause-known : goal.returns-clause-known
returns-clause-known g c =
    pending_taken c.args.settings c.args.trials.now c.make_rounds.new.rounds c.args.place c.take.result c.known_or_nothing.result c.in_ok-make_rounds.ensures
    c.requires.place c.take.ensures.taken c.known_or_nothing.ensures
