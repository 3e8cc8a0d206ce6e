use Rattle.std.proofs.Common.{inl, refl}
use Rattle.ps_max_text.proofs.ShortLines.{lines_short}
use Rattle.ps_max_commands.proofs.asked.reply_to_maxsat.Goals as goal

pub returns-in_ok-answer_to-in-Ok-clause-due : goal.returns-in_ok-answer_to-in-Ok-clause-due
returns-in_ok-answer_to-in-Ok-clause-due c = inl (record {
  text = c.in-Ok.text;
  read = c.in-Ok.ensures.read;
  answer = c.in_ok-answer_to-in-Ok.field-0;
  found = c.in_ok-answer_to-in-Ok.ensures.found;
  within = c.in_ok-answer_to-in-Ok.ensures.within;
  written = refl;
  status = refl;
})

pub returns-in_ok-answer_to-in-Ok-clause-short : goal.returns-in_ok-answer_to-in-Ok-clause-short
returns-in_ok-answer_to-in-Ok-clause-short c = lines_short c.in_ok-answer_to-in-Ok.field-0 c.in_ok-answer_to-in-Ok.ensures.within
