use Rattle.ps_support.specs.Supports.{kind_of}
use Rattle.ps_ask.proofs.DetailLaws.{example_total, example_weights}
use Rattle.ps_ask.proofs.details.example_in.Goals as goal

pub example_of-requires-clause-total : goal.example_of-requires-clause-total
example_of-requires-clause-total c =
    example_total c.args.trials.now (kind_of c.args.side) c.args.query c.in-Bound.value c.in-Bound.model c.in-Bound.dual c.args.answer.now c.in-Bound.is c.requires.proved

pub example_of-requires-clause-weights : goal.example_of-requires-clause-weights
example_of-requires-clause-weights c =
    example_weights c.args.trials.now (kind_of c.args.side) c.args.query c.in-Bound.value c.in-Bound.model c.in-Bound.dual c.args.answer.now c.in-Bound.is c.requires.proved
