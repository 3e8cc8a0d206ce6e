use Rattle.std.proofs.lemmas.Result.{IfOk-weaker}
use Rattle.psat_ask.specs.Requests.{TakesJoined, TakesValue, Value}
use Rattle.psat_ask.proofs.request.Reading.option_pair.Goals as goal

pub returns-in-Some-clause-set : goal.returns-in-Some-clause-set
returns-in-Some-clause-set c =
    IfOk-weaker c.value.result
    (λ _. TakesValue c.in-Some.option c.args.value.now c.args.self.now.asked c.value.new.self.asked)
    (λ _. TakesJoined c.args.name.now c.args.value.now c.args.self.now.asked c.value.new.self.asked)
    (λ _ h. Value c.in-Some.option c.in-Some.ensures h) c.value.ensures.set
