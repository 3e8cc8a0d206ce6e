use Rattle.psat_ask.proofs.RequestLaws.{took_file}
use Rattle.psat_ask.proofs.request.Reading.option_or_file.Goals as goal

pub returns-clause-took : goal.returns-clause-took
returns-clause-took c =
    took_file c.args.word.now c.args.self.now c.file.new.self c.requires.next c.file.ensures.next c.in_ok-file.ensures.taken
    (c.is_file.ensures (cc))
