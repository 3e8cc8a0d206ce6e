-- What is due for what is found of an input.
use Rattle.std.proofs.Common.{◌≡◌, ℕ, List, Ok, Err, Option, refl, subst}
use Rattle.ps_text.specs.declared.kind.ReadKind.{ReadKind}
use Rattle.ps_answer.specs.declared.error.LineKind.{LineKind}
use Rattle.ps_claims.proofs.Valid.{valid-right}
use Rattle.ps_valid.specs.declared.refusal.Accepted.{Accepted}
use Rattle.ps_valid.specs.declared.refusal.Refusal.{Refusal}
use Rattle.ps_valid.specs.declared.refusal.CheckError.TheVariants as whole
use Rattle.ps_valid.specs.Answers.{answer_of}
use Rattle.ps_check.specs.declared.end.StreamEnd.TheVariants as end
use Rattle.ps_check.specs.declared.checked.Checked.{Checked}
use Rattle.ps_check.specs.declared.checked.Checked.TheVariants as found
use Rattle.ps_check.specs.Checks.{HasChecked, IsFoundIn, IsReportJudged}
use Rattle.ps_commands.specs.declared.command.Command.TheVariants.{Check}
use Rattle.ps_messages.specs.Lines as lines
use Rattle.ps_commands.specs.Due.{DueText, FaultAt, NotRead, ReadAs, Spelled, searched}
use Rattle.ps_messages.specs.Lines.{Output}
use Rattle.ps_commands.specs.Replies.{IsDueFor}
use Rattle.ps_commands.specs.Runs.{WasRead}
use Rattle.ps_commands.proofs.Accepted.{spelled_parts}
use Rattle.ps_commands.proofs.DueLaws.{input_due, judged-accepted, judged-refused, read_whole}

-- each claim of the report is valid
pub accepted_due : (x : Checked) (a : Accepted) (o : Output) → x ≡ found.Accepted a → o ≡ lines.accepted a.claims a.unfinished
    → (bytes : List ℕ) → IsFoundIn bytes x → DueText bytes o
accepted_due x a o is shown bytes f =
    let h : IsReportJudged (searched bytes) bytes (Ok a) = subst (IsFoundIn bytes) is f in
    let right = valid-right h.problem (answer_of h.answers.answer) (spelled_parts (searched bytes) h.problem h.place h.spells) h.answers.judged.valid in
    Spelled h.problem h.place h.spells (ReadAs h.answers.answer h.answers.report (judged-accepted h.problem h.answers.answer a o h.answers.judged right shown))

-- a claim isn't
pub refused_due : (x : Checked) (r : Refusal) (o : Output) → x ≡ found.Refused r → o ≡ lines.refused r.claim r.reason
    → (bytes : List ℕ) → IsFoundIn bytes x → DueText bytes o
refused_due x r o is shown bytes f =
    let h : IsReportJudged (searched bytes) bytes (Err (end.Refused r)) = subst (IsFoundIn bytes) is f in
    Spelled h.problem h.place h.spells
    (ReadAs h.answers.answer h.answers.report (judged-refused h.problem h.answers.answer (whole.Refused r) r o refl h.answers.judged shown))

-- a line of the report is at fault
pub line_due : (x : Checked) (kind : LineKind) (n : ℕ) (o : Output) → x ≡ found.RefusedLine kind n → o ≡ lines.refused_line kind n
    → (bytes : List ℕ) → IsFoundIn bytes x → DueText bytes o
line_due x kind n o is shown bytes f =
    let h : IsReportJudged (searched bytes) bytes (Err (end.Line kind n)) = subst (IsFoundIn bytes) is f in
    Spelled h.problem h.place h.spells (FaultAt kind n h.answers shown)

-- no problem is read
pub unread_due : (x : Checked) (kind : ReadKind) (l k : ℕ) (o : Output) → x ≡ found.Unreadable kind l k
    → o ≡ lines.unreadable kind (record { line = l; column = k }) → (bytes : List ℕ) → IsFoundIn bytes x → DueText bytes o
unread_due x kind l k o is shown bytes f = NotRead kind (record { line = l; column = k }) (subst (IsFoundIn bytes) is f) shown

-- so the message for what is found of all that a source had left is due
pub checked_due : (limit : ℕ) (old new : Option (List ℕ)) (x : Checked) (o : Output) → HasChecked limit old new x
    → ((bytes : List ℕ) → IsFoundIn bytes x → DueText bytes o) → IsDueFor (Check limit) old o
checked_due limit old new x o h so = input_due (Check limit) limit old new h.bytes h.bytes o refl h.read refl (so h.bytes h.found)

pub checked_whole : (limit : ℕ) (old new : Option (List ℕ)) (x : Checked) → HasChecked limit old new x → WasRead limit old new
checked_whole limit old new x h = read_whole limit old new h.bytes h.read
