-- For clauses with an answer behind them one output is due, and one for clauses that aren't read.
use Rattle.std.proofs.Common.{◌≡◌, ℕ, List, sym, ap, subst, ◌∙◌, inl, inr}
use Rattle.ps_max_answer.specs.Answers.{fault_of}
use Rattle.ps_max_text.specs.Faults.{IsFirstFault}
use Rattle.ps_max_text.proofs.OneText.{no_fault, one_answer, one_fault}
use Rattle.ps_messages.specs.Lines.{Output, refused_line, unreadable_clauses}
use Rattle.ps_wcnf.specs.Readings.{IsRead}
use Rattle.ps_wcnf.specs.Splitting.{lines_of}
use Rattle.ps_wcnf.specs.declared.text.WcnfText.{WcnfText}
use Rattle.ps_max_commands.specs.Due.{IsAnswered, IsUnread, DueMaxSat, DueAnswer, DueChecked, DueCheckMaxSat}
use Rattle.ps_max_commands.specs.Lines.{judged_as}
use Rattle.ps_max_commands.specs.Splits.{clauses_of_input, answer_of_input}
use Rattle.ps_max_commands.proofs.OneReading.{one_read, read_no_fault}
use Rattle.ps_max_commands.proofs.OneReading.{one_fault as one_line}

one_unread : (bytes : List ℕ) (o p : Output) → IsUnread bytes o → IsUnread bytes p → o ≡ p
one_unread bytes o p a b =
    let same = one_line (lines_of bytes) a.kind b.kind a.line b.line a.fault b.fault in
    a.is ∙ ap (λ k. unreadable_clauses k a.line) same.0 ∙ ap (λ n. unreadable_clauses b.kind n) same.1 ∙ sym b.is

one_judged : (t : WcnfText) (bytes : List ℕ) (o p : Output) → DueAnswer t bytes o → DueAnswer t bytes p → o ≡ p
one_judged t bytes o p (inl a) (inl b) =
    let same : a.answer ≡ b.answer = one_answer a.answer b.answer a.within b.within (sym a.is_text ∙ b.is_text) in
    a.judged.is ∙ ap (λ x. judged_as (fault_of t x) x) same ∙ sym b.judged.is
one_judged t bytes o p (inl a) (inr b) = absurd (no_fault a.answer b.kind b.line a.within (subst (λ x. IsFirstFault x b.kind b.line) a.is_text b.fault))
one_judged t bytes o p (inr b) (inl a) = absurd (no_fault a.answer b.kind b.line a.within (subst (λ x. IsFirstFault x b.kind b.line) a.is_text b.fault))
one_judged t bytes o p (inr a) (inr b) =
    let same = one_fault bytes a.kind b.kind a.line b.line a.fault b.fault in
    a.is ∙ ap (λ k. refused_line k a.line) same.0 ∙ ap (λ n. refused_line b.kind n) same.1 ∙ sym b.is

one_checked : (clauses answer : List ℕ) (o p : Output) → DueChecked clauses answer o → DueChecked clauses answer p → o ≡ p
one_checked clauses answer o p (inl a) (inl b) =
    let same : b.text ≡ a.text = one_read (lines_of clauses) b.text a.text b.read a.read in
    one_judged a.text answer o p a.judged (subst (λ t. DueAnswer t answer p) same b.judged)
one_checked clauses answer o p (inl a) (inr b) = absurd (read_no_fault (lines_of clauses) a.text b.kind b.line a.read b.fault)
one_checked clauses answer o p (inr b) (inl a) = absurd (read_no_fault (lines_of clauses) a.text b.kind b.line a.read b.fault)
one_checked clauses answer o p (inr a) (inr b) = one_unread clauses o p a b

-- where an answer is judged one output is due
pub one_check_due : (bytes : List ℕ) (o o' : Output) → DueCheckMaxSat bytes o → DueCheckMaxSat bytes o' → o ≡ o'
one_check_due bytes o o' a b = one_checked (clauses_of_input bytes) (answer_of_input bytes) o o' a b

-- where no clauses are read one output is due
pub one_unread_due : (conflicts : ℕ) (bytes : List ℕ) (o o' : Output) → ((t : WcnfText) → ¬ IsRead (lines_of bytes) t) → DueMaxSat conflicts bytes o → DueMaxSat conflicts bytes o' → o ≡ o'
one_unread_due conflicts bytes o o' none (inl a) b = absurd (none a.text a.read)
one_unread_due conflicts bytes o o' none (inr a) (inl b) = absurd (none b.text b.read)
one_unread_due conflicts bytes o o' none (inr a) (inr b) = one_unread bytes o o' a b

-- where clauses are read an answer is due
pub answered_whole : (conflicts : ℕ) (bytes : List ℕ) (t : WcnfText) (o : Output) → IsRead (lines_of bytes) t → DueMaxSat conflicts bytes o → IsAnswered conflicts bytes o
answered_whole conflicts bytes t o read (inl a) = a
answered_whole conflicts bytes t o read (inr a) = absurd (read_no_fault (lines_of bytes) t a.kind a.line read a.fault)
