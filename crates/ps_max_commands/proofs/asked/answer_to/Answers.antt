use Rattle.ps_max_commands.proofs.FoundWithin.{found_within}
use Rattle.ps_max_commands.proofs.asked.answer_to.Goals as goal

pub returns-clause-within : goal.returns-clause-within
returns-clause-within c =
    found_within c.args.text.now c.requires.text c.check_text.ensures c.args.conflicts c.requires.few c.in_ok-answer.answer c.in_ok-answer.ensures.found c.in_ok-answer.ensures.printed
