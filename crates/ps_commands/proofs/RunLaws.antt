-- What a run does where it has a reply.
use Rattle.std.proofs.Common.{◌≡◌, inr, ℕ, List, ◌++◌, Option, Some, String, string_bytes, drop, sym, ap, subst, ◌∙◌}
use Rattle.std.specs.Prelude.{Result, Ok, Err}
use Rattle.std.specs.Vec.Iter.{into_iter_items}
use Rattle.std.specs.declared.alloc.Global.{Global}
use Rattle.std.specs.declared.vec.IntoIter.{IntoIter}
use Rattle.ps_commands.specs.Exits.{IfRan}
use Rattle.ps_messages.specs.declared.status.Status.{Status}
use Rattle.ps_messages.specs.declared.status.Status.TheVariants as status
use Rattle.ps_answer.specs.declared.answer.Answer.{Answer}
use Rattle.ps_commands.specs.declared.made.MadeProblem.{MadeProblem}
use Rattle.ps_commands.specs.declared.reply.Reply.{Reply}
use Rattle.ps_commands.specs.declared.reply.Reply.TheVariants.{Line, Report, Explanation, Made, Upgraded, Weighted}
use Rattle.ps_io.specs.Transfer.{Appends, AppendsPrefix, Writes}
use Rattle.ps_max_commands.specs.Replies as weighted
use Rattle.ps_io.proofs.Bytes.{appends-then}
use Rattle.ps_io.proofs.CallerLemmas.{prefix-after}
use Rattle.ps_commands.specs.Due.{comment_of, explanation_of, report_of, status_after, status_explained}
use Rattle.ps_commands.specs.Statuses.{HasText, IsFailure, IsSilent}
use Rattle.ps_commands.specs.Runs.{IsGiven, Cut, Wrote, HasAnswered, CountsReads, CountsWrites}
use Rattle.ps_commands.specs.Replies.{IsDue, made_bytes, open_report, output_of, reply_status, status_by_open}
use Rattle.ps_commands.proofs.DueLaws.{ran_by}

pub reply_ran : (words : List (List ℕ)) (bytes : List ℕ) (left : Option (List ℕ)) (r : Reply) (old new : Option (List ℕ)) → IsDue words left (output_of r) → IsGiven words left bytes
    → HasText (reply_status r) → Appends old new (output_of r).text → Wrote words bytes (reply_status r) old new
reply_ran words bytes left (Line m) old new due given g a = ran_by words bytes (string_bytes m.text) m.status old new g (due.due bytes given) a
reply_ran words bytes left (Report x) old new due given g a = ran_by words bytes (report_of x) (status_after x) old new g (due.due bytes given) a
reply_ran words bytes left (Explanation e) old new due given g a = ran_by words bytes (explanation_of e) (status_explained e) old new g (due.due bytes given) a
reply_ran words bytes left (Made m) old new due given g a = ran_by words bytes (made_bytes m) (status_by_open m.unfinished) old new g (due.due bytes given) a
reply_ran words bytes left (Upgraded text) old new due given g a = ran_by words bytes text.items status.Done old new g (due.due bytes given) a
reply_ran words bytes left (Weighted r) old new due given g a = ran_by words bytes (weighted.output_of r).text (weighted.output_of r).status old new g (due.due bytes given) a

pub reply_cut : (words : List (List ℕ)) (bytes : List ℕ) (left : Option (List ℕ)) (r : Reply) (old new : Option (List ℕ)) → IsDue words left (output_of r) → IsGiven words left bytes
    → AppendsPrefix old new (output_of r).text → Cut words bytes old new
reply_cut words bytes left r old new due given a = record { output = output_of r; due = due.due bytes given; written = a }

-- a status that goes with a text isn't silent, and is answered where the count of the sink stayed
pub not_silent : (s : Status) → HasText s → ¬ IsSilent s
not_silent status.ReadFault g h = g
not_silent status.NoMemory g h = g
not_silent s g h = absurd h

pub writes_counted : (s : Status) (old new : ℕ) → HasText s → new ≡ old → CountsWrites old new s
writes_counted status.WriteFault old new g e = absurd g
writes_counted s old new g e = e

pub reads_counted : (s : Status) (old new : ℕ) → HasText s → CountsReads old new s → new ≡ old
reads_counted status.ReadFault old new g e = absurd g
reads_counted s old new g e = e

-- where a call failed any command may have been given
pub failed_answered : (words : List (String Global)) (s : Status) → IsFailure s → HasAnswered words s
failed_answered words s h = record { answered = λ c spelled. inr h }

-- what holds of a run with the words behind the program's name holds of the words that the system hands out
pub ran_behind : {E : Type 0} (P : List (String Global) → Status → Type 0) (all : Result (IntoIter (String Global) Global) E) (args : IntoIter (String Global) Global) (items given : List (String Global)) (s : Status)
    → all ≡ Ok args → items ≡ into_iter_items args → given ≡ drop 1 items → P given s → IfRan all (Ok s) P
ran_behind {E} P all args items given s e i g h =
    subst (λ (x : Result (IntoIter (String Global) Global) E). IfRan x (Ok s) P) (sym e) (subst (λ (x : List (String Global)). P x s) (g ∙ ap (λ (x : List (String Global)). drop 1 x) i) h)

-- what is written behind other bytes
pub wrote_both : {E : Type 0} (r : Result (Unit {0}) E) (a b c : Option (List ℕ)) (xs ys : List ℕ) → Appends a b xs → Writes r b c ys → Writes r a c (xs ++ ys)
wrote_both (Ok x) a b c xs ys p q = appends-then a b c xs ys p q
wrote_both (Err e) a b c xs ys p q = prefix-after a b c xs ys p q

-- a made problem, and behind it the report of an open answer
pub made_wrote : {E : Type 0} (r : Result (Unit {0}) E) (a b c : Option (List ℕ)) (m : MadeProblem) (x : Answer) (text : List ℕ) → text ≡ m.text.items → m.unfinished ≡ Some x → Appends a b text
    → Writes r b c (comment_of x) → Writes r a c (made_bytes m)
made_wrote r a b c m x text same some first rest =
    subst (λ (bytes : List ℕ). Writes r a c bytes) (ap (λ (t : List ℕ). t ++ comment_of x) same ∙ ap (λ (o : Option Answer). m.text.items ++ open_report o) (sym some))
    (wrote_both r a b c text (comment_of x) first rest)
