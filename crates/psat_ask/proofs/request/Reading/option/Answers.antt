use Rattle.std.proofs.Common.{Some, arith}
use Rattle.std.proofs.lemmas.Str.Pattern.{split_parts}
use Rattle.psat_ask.proofs.RequestLaws.{took_joined}
use Rattle.psat_ask.proofs.request.Reading.option.Goals as goal

pub returns-in_ok-option_pair-in-Some-clause-took :
    goal.returns-in_ok-option_pair-in-Some-clause-took
returns-in_ok-option_pair-in-Some-clause-took c =
    took_joined c.args.word.now c.args.self.now c.option_pair.new.self c.in-Some.name.now c.in-Some.value.now
    c.requires.next c.in_ok-option_pair-in-Some.ensures.next
    (split_parts 61 c.args.word.now (Some (c.in-Some.name, c.in-Some.value)) c.in-Some.ensures.cases (omega arith)).0
    c.in_ok-option_pair-in-Some.ensures.set
