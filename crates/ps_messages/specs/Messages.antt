-- What a message stands for.
use Rattle.std.specs.Prelude.{◌≡◌, IfOk, Result, string_bytes}
use Rattle.ps_messages.specs.declared.message.Message.{Message}
use Rattle.ps_messages.specs.Lines.{Output}

-- the output of a message: its text and its status
abbrev pub message_output : Message → Output
message_output m = record { text = string_bytes m.text; status = m.status }

-- where there is a message, this is its output
abbrev pub Says : {E : Type 0} → Result Message E → Output → Type 0
Says result output = IfOk result (λ m. message_output m ≡ output)
