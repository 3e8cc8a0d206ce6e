-- Lines that are read one after another, and what is answered behind the last.
use Rattle.std.proofs.Common.{◌≡◌, ◌≢◌, ℕ, suc, ◌+◌, ◌≤◌, false, Result, Ok, Err, Some, List, [], ◌∷◌, ◌++◌, length, refl, sym, ap, subst, ◌∙◌, arith, append_assoc, append-nil}
use Rattle.std.specs.List.{AllByRecursion}
use Rattle.std.proofs.lemmas.List.Elements.{All-head, All-tail}
use Rattle.std.proofs.lemmas.Option.{none-some, same_Some}
use Rattle.ps_io.specs.LineText.{lines_bytes}
use Rattle.ps_log.specs.FirstLines.{IsOneLine}
use Rattle.ps_problem.specs.Problems.{Parts}
use Rattle.ps_answer.specs.declared.item.LineItem.{LineItem}
use Rattle.ps_answer.specs.declared.part.Part.{Part}
use Rattle.ps_answer.specs.declared.error.LineKind.{LineKind}
use Rattle.ps_answer.specs.declared.error.LineKind.TheVariants.{Truncated, MoreAfterEnd}
use Rattle.ps_answer.specs.Items.{IsLine, IsWithin}
use Rattle.ps_answer.specs.ExpectedParts.{at_start, behind, due_behind, and_then}
use Rattle.ps_answer.specs.Faults.{AreLines, BeginWith, IsReport, IsFault, IsFirstFault}
use Rattle.ps_answer.proofs.Derived.{an_end}
use Rattle.ps_answer.proofs.Single.{next_of, all_good}
use Rattle.ps_valid.specs.declared.refusal.Accepted.{Accepted}
use Rattle.ps_valid.specs.declared.refusal.Refusal.{Refusal}
use Rattle.ps_valid.proofs.SmallAnswers.{report_small}
use Rattle.ps_check.specs.declared.end.StreamEnd.{StreamEnd}
use Rattle.ps_check.specs.declared.end.StreamEnd.TheVariants as end
use Rattle.ps_check.specs.declared.progress.Progress.{Progress}
use Rattle.ps_check.specs.Progress.{at_first, ending, HasTakenLine, HaveTaken}
use Rattle.ps_check.specs.DueLines.{IsLineTaken, IsFaultBefore}
use Rattle.ps_check.specs.Reading.{bytes_of, HasRead, HasFault, of_stream}
use Rattle.ps_check.specs.Ends.{IsJudgedReport, AnswersReport}
use Rattle.ps_check.specs.Laws.{of_whole}
use Rattle.ps_check.proofs.TakenLines.{taken_more}
use Rattle.ps_check.proofs.WholeAnswers.{lines_judged}

-- ---- one line more
lines_both : (ls ks : List (List ℕ)) (rest : List ℕ) → lines_bytes false (ls ++ ks) ++ rest ≡ lines_bytes false ls ++ (lines_bytes false ks ++ rest)
lines_both [] ks rest = refl
lines_both (l ∷ ls) ks rest =
    append_assoc (l ++ 10 ∷ []) (lines_bytes false (ls ++ ks)) rest ∙ ap (λ (x : List ℕ). (l ++ 10 ∷ []) ++ x) (lines_both ls ks rest) ∙ sym (append_assoc (l ++ 10 ∷ []) (lines_bytes false ls) (lines_bytes false ks ++ rest))

-- the bytes of one line more
pub one_more : (ls : List (List ℕ)) (text rest : List ℕ) → bytes_of (ls ++ text ∷ []) rest ≡ bytes_of ls ((text ++ 10 ∷ []) ++ rest)
one_more ls text rest = lines_both ls (text ∷ []) rest ∙ ap (λ (x : List ℕ). lines_bytes false ls ++ (x ++ rest)) (append-nil (text ++ 10 ∷ []))

all_more : {X : Type 0} (P : X → Type 0) (xs : List X) (x : X) → AllByRecursion P xs → P x → AllByRecursion P (xs ++ x ∷ [])
all_more P [] x h k = (k, tt)
all_more P (y ∷ xs) x h k = (h.0, all_more P xs x h.1 k)

say_more : (ls : List (List ℕ)) (is : List LineItem) (text : List ℕ) (i : LineItem) → AreLines ls is → IsLine text i → AreLines (ls ++ text ∷ []) (is ++ i ∷ [])
say_more [] [] text i h k = (k, tt)
say_more [] (j ∷ is) text i h k = absurd h
say_more (l ∷ ls) [] text i h k = absurd h
say_more (l ∷ ls) (j ∷ is) text i h k = (h.0, say_more ls is text i h.1 k)

-- what is due behind one line more
due_more : (due mid : List Part) (is js : List LineItem) → due_behind due is ≡ Some mid → due_behind due (is ++ js) ≡ due_behind mid js
due_more due mid [] js e = ap (λ (d : List Part). due_behind d js) (same_Some due mid e)
due_more [] mid (i ∷ is) js e = absurd (none-some mid e)
due_more (p ∷ due) mid (i ∷ is) js e =
    let n = next_of p i due is mid e in
    ap (λ r. and_then r (λ more. due_behind more (is ++ js))) n.fits ∙ due_more n.next mid is js n.rest

due_next : (p : Part) (i : LineItem) (due next : List Part) → behind p i due ≡ Some next → due_behind (p ∷ due) (i ∷ []) ≡ Some next
due_next p i due next e = ap (λ r. and_then r (λ more. due_behind more [])) e

-- the text before a line's feed is one
same_text : (a b r : List ℕ) → IsOneLine a → IsOneLine b → a ++ 10 ∷ [] ≡ b ++ 10 ∷ r → a ≡ b
same_text [] [] r v w e = refl
same_text [] (y ∷ b) r v w e = absurd (All-head (λ (n : ℕ). n ≢ 10) y b w (let h : y ≡ 10 = cc in h))
same_text (x ∷ a) [] r v w e = absurd (All-head (λ (n : ℕ). n ≢ 10) x a v (let h : x ≡ 10 = cc in h))
same_text (x ∷ a) (y ∷ b) r v w e =
    let head : x ≡ y = cc in
    let tails : a ++ 10 ∷ [] ≡ b ++ 10 ∷ r = cc in
    let rest = same_text a b r (All-tail (λ (n : ℕ). n ≢ 10) x a v) (All-tail (λ (n : ℕ). n ≢ 10) y b w) tails in
    let all : x ∷ a ≡ y ∷ b = cc in
    all

-- before the first line
pub none_read : (p : Parts) → HasRead p [] at_start at_first
none_read p = record { items = []; said = record { whole = tt; say = tt; within = tt; due_is = refl }; judged = refl }

-- a line that is taken is read behind those before it
pub read_more : (p : Parts) (lines : List (List ℕ)) (text : List ℕ) (due next : List Part) (i : LineItem) (g h : Progress) → HasRead p lines due g → IsOneLine text → IsLineTaken (text ++ 10 ∷ []) due i next
    → HasTakenLine p i g h → HasRead p (lines ++ text ∷ []) next h
read_more p lines text due next i g h read one t taken =
    let same : text ≡ t.text = same_text text t.text t.rest one t.first.whole t.first.is in
    let says : IsLine text i = subst (λ (x : List ℕ). IsLine x i) (sym same) t.says in
    let due_is : due_behind at_start read.items ≡ Some (t.part ∷ t.due) = read.said.due_is ∙ ap Some t.old_is in
    record {
      items = read.items ++ i ∷ [];
      said = record {
        whole = all_more IsOneLine lines text read.said.whole one;
        say = say_more lines read.items text i read.said.say says;
        within = all_more IsWithin read.items i read.said.within t.within;
        due_is = due_more at_start (t.part ∷ t.due) read.items (i ∷ []) due_is ∙ due_next t.part i t.due next t.behind_is;
      };
      judged = taken_more p read.items i at_first g h read.judged taken;
    }

-- ---- a line at fault
say_length : (ls : List (List ℕ)) (is : List LineItem) → AreLines ls is → length is ≡ length ls
say_length [] [] h = refl
say_length [] (i ∷ is) h = absurd h
say_length (l ∷ ls) [] h = absurd h
say_length (l ∷ ls) (i ∷ is) h = ap suc (say_length ls is h.1)

-- behind lines that were read, the first fault is that of what comes next
fault_next : (p : Parts) (lines : List (List ℕ)) (due : List Part) (g : Progress) (rest : List ℕ) (kind : LineKind) → HasRead p lines due g → IsFault due rest kind → IsFirstFault (bytes_of lines rest) kind (length lines + 1)
fault_next p lines due g rest kind read fault = record {
  items = read.items;
  rest = rest;
  due = due;
  before = record { lines = lines; are = refl; whole = read.said.whole; say = read.said.say };
  within = read.said.within;
  due_is = read.said.due_is;
  number = (let e = say_length lines read.items read.said.say in omega (arith, e));
  fault = fault;
}

-- a line at fault behind lines that were read is the first
pub fault_first : (p : Parts) (lines : List (List ℕ)) (text : List ℕ) (due : List Part) (g : Progress) (kind : LineKind) → HasRead p lines due g → IsFaultBefore due (text ++ 10 ∷ []) kind
    → HasFault (lines ++ text ∷ []) kind (length lines + 1)
fault_first p lines text due g kind read fault = record {
  first = λ rest. subst (λ (x : List ℕ). IsFirstFault x kind (length lines + 1)) (sym (one_more lines text rest)) (fault_next p lines due g ((text ++ 10 ∷ []) ++ rest) kind read (fault.fault rest));
}

-- it stays the first
pub fault_more : (lines : List (List ℕ)) (text : List ℕ) (kind : LineKind) (line : ℕ) → HasFault lines kind line → HasFault (lines ++ text ∷ []) kind line
fault_more lines text kind line f = record {
  first = λ rest. subst (λ (x : List ℕ). IsFirstFault x kind line) (sym (one_more lines text rest)) (f.first ((text ++ 10 ∷ []) ++ rest));
}

-- ---- behind the last line
-- the report of an answer is judged as the answer is
report_ends : (p : Parts) (lines : List (List ℕ)) (g : Progress) → length p.queries ≤ 16 → HasRead p lines [] g → IsJudgedReport p (bytes_of lines []) (of_whole (ending g))
report_ends p lines g few read =
    let a = an_end read.items (record { due_is = read.said.due_is; good = all_good lines read.items read.said.say read.said.within }) in
    let begin : BeginWith (bytes_of lines []) read.items [] = record { lines = lines; are = refl; whole = read.said.whole; say = read.said.say } in
    let report : IsReport (bytes_of lines []) a.answer = record {
      lines = subst (λ (is : List LineItem). BeginWith (bytes_of lines []) is []) a.are begin;
      counted = a.counted;
      within = subst (λ (is : List LineItem). AllByRecursion IsWithin is) a.are read.said.within;
    } in
    record {
      answer = a.answer;
      report = report;
      judged = lines_judged p a.answer few (report_small (bytes_of lines []) a.answer report) g (subst (λ (is : List LineItem). HaveTaken p is at_first g) a.are read.judged);
    }

-- what is answered where no part is due and no bytes are left
pub read_ends : (p : Parts) (lines : List (List ℕ)) (g : Progress) (result : Result Accepted StreamEnd) → length p.queries ≤ 16 → HasRead p lines [] g → result ≡ of_stream (ending g) → AnswersReport p (bytes_of lines []) result
read_ends p lines g result few read e = subst (λ (r : Result Accepted StreamEnd). AnswersReport p (bytes_of lines []) r) (sym e) (by (ending g) (report_ends p lines g few read))
  where
    by : (r : Result Accepted Refusal) → IsJudgedReport p (bytes_of lines []) (of_whole r) → AnswersReport p (bytes_of lines []) (of_stream r)
    by (Ok accepted) j = j
    by (Err r) j = j

-- where a part is due, the bytes that are left are no whole line
pub cut_ends : (p : Parts) (lines : List (List ℕ)) (part : Part) (due : List Part) (g : Progress) (rest : List ℕ) → HasRead p lines (part ∷ due) g → IsOneLine rest → AnswersReport p (bytes_of lines rest) (Err (end.Line Truncated (length lines + 1)))
cut_ends p lines part due g rest read one = fault_next p lines (part ∷ due) g rest Truncated read one

-- where no part is due, more bytes are one fault more
pub more_ends : (p : Parts) (lines : List (List ℕ)) (g : Progress) (rest : List ℕ) → HasRead p lines [] g → rest ≢ [] → AnswersReport p (bytes_of lines rest) (Err (end.Line MoreAfterEnd (length lines + 1)))
more_ends p lines g rest read some = fault_next p lines [] g rest MoreAfterEnd read some
