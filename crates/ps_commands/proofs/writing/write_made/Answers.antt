use Rattle.ps_commands.proofs.RunLaws.{made_wrote}
use Rattle.ps_commands.proofs.writing.write_made.Goals as goal

pub returns-in-Some-clause-wrote : goal.returns-in-Some-clause-wrote
returns-in-Some-clause-wrote g c =
    made_wrote c.write_comment.result _ _ _ c.args.made.now c.in-Some.answer c.deref.result.now c.deref.ensures.value c.in-Some.is c.in_ok-write_all.ensures.ok c.write_comment.ensures.wrote
