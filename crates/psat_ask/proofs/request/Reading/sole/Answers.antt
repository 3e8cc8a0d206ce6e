use Rattle.std.proofs.Common.{refl}
use Rattle.psat_ask.specs.declared.request.Next.TheVariants as next
use Rattle.psat_ask.proofs.RequestLaws.{took_option}
use Rattle.psat_ask.proofs.request.Reading.sole.Goals as goal

pub returns-in-Some-clause-took : goal.returns-in-Some-clause-took
returns-in-Some-clause-took c =
    took_option c.args.word.now c.args.self.now
    (record { asked = c.args.self.now.asked; next = next.Value c.in-Some.option })
    c.in-Some.option c.requires.next refl refl c.in-Some.ensures
