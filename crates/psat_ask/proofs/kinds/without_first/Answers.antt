use Rattle.std.proofs.Common.{Some, arith}
use Rattle.std.proofs.lemmas.Str.Pattern.{split_parts}
use Rattle.psat_ask.proofs.KindLaws.{leads_on}
use Rattle.psat_ask.proofs.kinds.without_first.Goals as goal

pub returns-in_ok-without_one-in-Some-clause-more :
    goal.returns-in_ok-without_one-in-Some-clause-more
returns-in_ok-without_one-in-Some-clause-more c =
    leads_on c.args.kinds.now c.in-Some.first.now c.in-Some.rest.now c.args.old c.in_ok-without_one-in-Some.field-0
    (split_parts 44 c.args.kinds.now (Some (c.in-Some.first, c.in-Some.rest)) c.in-Some.ensures.cases (omega arith)).0
    c.in_ok-without_one-in-Some.ensures
