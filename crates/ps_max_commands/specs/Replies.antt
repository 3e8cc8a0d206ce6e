-- What a reply writes.
use Rattle.std.specs.List.{AllByRecursion}
use Rattle.ps_max_text.specs.Texts.{IsShortLine, max_lines, max_text}
use Rattle.ps_messages.specs.Lines.{Output}
use Rattle.ps_messages.specs.Messages.{message_output}
use Rattle.ps_max_commands.specs.Lines.{status_of}
use Rattle.ps_max_commands.specs.declared.reply.MaxReply.{MaxReply}
use Rattle.ps_max_commands.specs.declared.reply.MaxReply.TheVariants.{Line, Answer}

-- what a reply writes, and the status after it
abbrev pub output_of : MaxReply → Output
output_of (Line message) = message_output message
output_of (Answer answer) = record { text = max_text answer; status = status_of answer }

-- each line of an answer is short enough to be written
abbrev pub IsShortReply : MaxReply → Type 0
IsShortReply (Line message) = Unit {0}
IsShortReply (Answer answer) = AllByRecursion IsShortLine (max_lines answer)
