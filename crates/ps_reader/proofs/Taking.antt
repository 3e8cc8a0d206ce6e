-- Lines that are taken, one after another.
use Rattle.std.proofs.Common.{◌≡◌, ◌≢◌, ℕ, zero, suc, ◌+◌, ◌-◌, ◌<◌, false, List, [], ◌∷◌, ◌++◌, length, map, Some, Ok, refl, sym, ap, subst, ◌∙◌, arith, append_assoc, append-nil, length-append, ◌⊎◌, inl, inr}
use Rattle.std.specs.List.{AllByRecursion}
use Rattle.std.proofs.lemmas.Option.{none-some, same_Some}
use Rattle.ps_io.specs.LineText.{lines_bytes}
use Rattle.ps_log.specs.FirstLines.{IsOneLine}
use Rattle.ps_answer.specs.declared.item.LineItem.{LineItem}
use Rattle.ps_answer.specs.declared.part.Part.{Part}
use Rattle.ps_answer.specs.declared.error.LineKind.{LineKind}
use Rattle.ps_answer.specs.declared.error.LineKind.TheVariants.{MoreAfterEnd}
use Rattle.ps_answer.specs.declared.error.ReportError.{ReportError}
use Rattle.ps_answer.specs.declared.error.ReportError.TheVariants.{At, NoMemory}
use Rattle.ps_answer.specs.Items.{IsWithin}
use Rattle.ps_answer.specs.ExpectedParts.{behind, due_behind, and_then, many}
use Rattle.ps_answer.specs.Faults.{AreLines, BeginWith, IsFault}
use Rattle.ps_answer.proofs.Single.{next_of}
use Rattle.ps_reader.specs.Lines.{TakesLine, IsLackingLine}
use Rattle.ps_reader.specs.declared.lines.Lines.{Lines}
use Rattle.ps_reader.specs.Errors.{IsKept, BeginsKept, LacksAt}
use Rattle.ps_reader.specs.Taken.{left_in, Takes, FaultAt, IsStopped, IsValueRead, IsMore, repeated}

-- the bytes of lines, and then of others
pub lines_both : (ls ks : List (List ℕ)) (rest : List ℕ) → lines_bytes false ls ++ (lines_bytes false ks ++ rest) ≡ lines_bytes false (ls ++ ks) ++ rest
lines_both [] ks rest = refl
lines_both (l ∷ ls) ks rest =
    append_assoc (l ++ 10 ∷ []) (lines_bytes false ls) (lines_bytes false ks ++ rest)
    ∙ ap (λ x. (l ++ 10 ∷ []) ++ x) (lines_both ls ks rest)
    ∙ sym (append_assoc (l ++ 10 ∷ []) (lines_bytes false (ls ++ ks)) rest)

pub all_both : {X : Type 0} (P : X → Type 0) (xs ys : List X) → AllByRecursion P xs → AllByRecursion P ys → AllByRecursion P (xs ++ ys)
all_both P [] ys h k = k
all_both P (x ∷ xs) ys h k = (h.0, all_both P xs ys h.1 k)

say_both : (ls ks : List (List ℕ)) (is js : List LineItem) → AreLines ls is → AreLines ks js → AreLines (ls ++ ks) (is ++ js)
say_both [] ks [] js h k = k
say_both [] ks (i ∷ is) js h k = absurd h
say_both (l ∷ ls) ks [] js h k = absurd h
say_both (l ∷ ls) ks (i ∷ is) js h k = (h.0, say_both ls ks is js h.1 k)

begin_both : (bytes mid rest : List ℕ) (is js : List LineItem) → BeginWith bytes is mid → BeginWith mid js rest → BeginWith bytes (is ++ js) rest
begin_both bytes mid rest is js b c = record {
  lines = b.lines ++ c.lines;
  are = b.are ∙ ap (λ x. lines_bytes false b.lines ++ x) c.are ∙ lines_both b.lines c.lines rest;
  whole = all_both IsOneLine b.lines c.lines b.whole c.whole;
  say = say_both b.lines c.lines is js b.say c.say;
}

-- what is due behind lines, and then behind others
pub due_both : (due mid : List Part) (is js : List LineItem) → due_behind due is ≡ Some mid → due_behind due (is ++ js) ≡ due_behind mid js
due_both due mid [] js e = ap (λ d. due_behind d js) (same_Some due mid e)
due_both [] mid (i ∷ is) js e = absurd (none-some mid e)
due_both (p ∷ due) mid (i ∷ is) js e =
    let n = next_of p i due is mid e in
    ap (λ r. and_then r (λ more. due_behind more (is ++ js))) n.fits ∙ due_both n.next mid is js n.rest

-- lines are taken, and then others
pub takes_both : (a b c : Lines) (is js : List LineItem) → Takes a b is → Takes b c js → Takes a c (is ++ js)
takes_both a b c is js p q = record {
  before = begin_both (left_in a) (left_in b) (left_in c) is js p.before q.before;
  within = all_both IsWithin is js p.within q.within;
  count = omega (arith, p.count, q.count, length-append is js);
}

pub fault_later : (a b : Lines) (is : List LineItem) (due mid : List Part) (kind : LineKind) (line : ℕ) → Takes a b is → due_behind due is ≡ Some mid → FaultAt b mid kind line → FaultAt a due kind line
fault_later a b is due mid kind line p e f = record {
  items = is ++ f.items;
  rest = f.rest;
  next = f.next;
  before = begin_both (left_in a) (left_in b) f.rest is f.items p.before f.before;
  within = all_both IsWithin is f.items p.within f.within;
  due_is = due_both due mid is f.items e ∙ f.due_is;
  number = omega (arith, p.count, f.number, length-append is f.items);
  fault = f.fault;
}

-- memory that lacks behind lines that were taken
lack_later : (a b : Lines) (is : List LineItem) (due mid : List Part) → Takes a b is → due_behind due is ≡ Some mid → LacksAt mid (left_in b) → LacksAt due (left_in a)
lack_later a b is due mid p e f = record {
  items = is ++ f.items;
  rest = f.rest;
  next = f.next;
  before = begin_both (left_in a) (left_in b) f.rest is f.items p.before f.before;
  within = all_both IsWithin is f.items p.within f.within;
  due_is = due_both due mid is f.items e ∙ f.due_is;
  takes = f.takes;
}

lack_here : (a : Lines) (p : Part) → IsLackingLine p (left_in a) ⊎ BeginsKept (left_in a) → IsStopped a (p ∷ []) NoMemory
lack_here a p h = λ due. record {
  items = [];
  rest = left_in a;
  next = p ∷ due;
  before = record { lines = []; are = refl; whole = tt; say = tt };
  within = tt;
  due_is = refl;
  takes = h;
}

pub lack_line : (a : Lines) (p : Part) → IsLackingLine p (left_in a) → IsStopped a (p ∷ []) NoMemory
lack_line a p l = lack_here a p (inl l)

pub lack_kept : (a b : Lines) (p : Part) (i : LineItem) → Takes a b (i ∷ []) → IsKept i → IsStopped a (p ∷ []) NoMemory
lack_kept a b p i t k = lack_here a p (inr (record { item = i; rest = left_in b; line = t.before; kept = k }))

-- a fault behind lines that were taken
pub stopped_later : (a b : Lines) (is : List LineItem) (parts more : List Part) (e : ReportError) → Takes a b is → ((due : List Part) → due_behind (parts ++ due) is ≡ Some (more ++ due)) → IsStopped b more e → IsStopped a parts e
stopped_later a b is parts more (At kind line) p d f = λ due. fault_later a b is (parts ++ due) (more ++ due) kind line p (d due) (f due)
stopped_later a b is parts more NoMemory p d f = λ due. lack_later a b is (parts ++ due) (more ++ due) p (d due) (f due)

-- a fault within the first parts
pub stopped_more : (a : Lines) (parts more : List Part) (e : ReportError) → IsStopped a parts e → IsStopped a (parts ++ more) e
stopped_more a parts more (At kind line) f = λ due. subst (λ d. FaultAt a d kind line) (sym (append_assoc parts more due)) (f (more ++ due))
stopped_more a parts more NoMemory f = λ due. subst (λ d. LacksAt d (left_in a)) (sym (append_assoc parts more due)) (f (more ++ due))

-- a line is taken
pub takes_line : (a b : Lines) (p : Part) (i : LineItem) → TakesLine p (left_in a) i (left_in b) → b.taken ≡ a.taken + 1 → Takes a b (i ∷ [])
takes_line a b p i t e = record {
  before = record {
    lines = t.line ∷ [];
    are = t.first.is ∙ sym (ap (λ x. x ++ left_in b) (append-nil (t.line ++ 10 ∷ [])) ∙ append_assoc t.line (10 ∷ []) (left_in b));
    whole = (t.first.whole, tt);
    say = (t.says, tt);
  };
  within = (t.within, tt);
  count = e;
}

pub stopped_line : (a : Lines) (p : Part) (kind : LineKind) (line : ℕ) → ((due : List Part) → IsFault (p ∷ due) (left_in a) kind) → line ≡ a.taken + 1 → IsStopped a (p ∷ []) (At kind line)
stopped_line a p kind line f e = λ due. record {
  items = [];
  rest = left_in a;
  next = p ∷ due;
  before = record { lines = []; are = refl; whole = tt; say = tt };
  within = tt;
  due_is = refl;
  number = omega (arith, e);
  fault = f due;
}

-- a value of one line
pub one_line : {X : Type 0} (f : X → LineItem) (parts : List Part) (a b : Lines) (i : LineItem) (x : X) → Takes a b (i ∷ []) → i ≡ f x → IsValueRead (λ y. f y ∷ []) parts a b (Ok x)
one_line f parts a b i x t e = subst (λ j. Takes a b (j ∷ [])) e t

-- so many parts
pub many_more : (n : ℕ) (p : Part) (due : List Part) → repeated n p ++ due ≡ many n p due
many_more zero p due = refl
many_more (suc n) p due = ap (λ d. p ∷ d) (many_more n p due)

-- lines of a list so far, where each is one of a part
abbrev pub EachPasses : {X : Type 0} → (X → LineItem) → Part → Type 0
EachPasses {X} f p = (x : X) (due : List Part) → behind p (f x) due ≡ Some due

pub passed : {X : Type 0} (f : X → LineItem) (p : Part) → EachPasses f p → (xs : List X) (n m : ℕ) (due : List Part) → n ≡ length xs + m → due_behind (many n p due) (map f xs) ≡ Some (many m p due)
passed f p h [] n m due e = ap (λ k. Some (many k p due)) (omega (arith, e))
passed f p h (x ∷ xs) zero m due e = absurd (omega (arith, e))
passed f p h (x ∷ xs) (suc n) m due e = ap (λ r. and_then r (λ more. due_behind more (map f xs))) (h x (many n p due)) ∙ passed f p h xs n m due (omega (arith, e))

map_push : {X : Type 0} (f : X → LineItem) (xs : List X) (x : X) → map f (xs ++ x ∷ []) ≡ map f xs ++ f x ∷ []
map_push f [] x = refl
map_push f (y ∷ ys) x = ap (λ l. f y ∷ l) (map_push f ys x)

-- one more of a list
pub takes_push : {X : Type 0} (f : X → LineItem) (a b c : Lines) (xs ys : List X) (x : X) → Takes a b (map f xs) → Takes b c (f x ∷ []) → ys ≡ xs ++ x ∷ [] → Takes a c (map f ys)
takes_push f a b c xs ys x p q e = subst (λ l. Takes a c l) (sym (ap (map f) e ∙ map_push f xs x)) (takes_both a b c (map f xs) (f x ∷ []) p q)

-- the next of a list is at fault
pub stopped_within : {X : Type 0} (f : X → LineItem) (p : Part) → EachPasses f p → (a b : Lines) (xs : List X) (n : ℕ) (e : ReportError) → Takes a b (map f xs) → length xs < n → IsStopped b (p ∷ []) e → IsStopped a (repeated n p) e
stopped_within f p h a b xs n (At kind line) t l s = λ due.
    let m = n - length xs - 1 in
    fault_later a b (map f xs) (repeated n p ++ due) (p ∷ many m p due) kind line t
    (ap (λ d. due_behind d (map f xs)) (many_more n p due) ∙ passed f p h xs n (suc m) due (omega (arith, l)))
    (s (many m p due))
stopped_within f p h a b xs n NoMemory t l s = λ due.
    let m = n - length xs - 1 in
    lack_later a b (map f xs) (repeated n p ++ due) (p ∷ many m p due) t
    (ap (λ d. due_behind d (map f xs)) (many_more n p due) ∙ passed f p h xs n (suc m) due (omega (arith, l)))
    (s (many m p due))

-- a value of a head and what follows it
pub stopped_behind : (a b : Lines) (i : LineItem) (p : Part) (more : List Part) (e : ReportError) → Takes a b (i ∷ []) → ((due : List Part) → behind p i due ≡ Some (more ++ due)) → IsStopped b more e → IsStopped a (p ∷ []) e
stopped_behind a b i p more e t h s = stopped_later a b (i ∷ []) (p ∷ []) more e t (λ due. ap (λ r. and_then r (λ m. due_behind m [])) (h due)) s

-- something is left where nothing is due
pub more_left : (a : Lines) (line : ℕ) → left_in a ≢ [] → line ≡ a.taken + 1 → IsMore a (At MoreAfterEnd line)
more_left a line n e = record {
  items = [];
  rest = left_in a;
  next = [];
  before = record { lines = []; are = refl; whole = tt; say = tt };
  within = tt;
  due_is = refl;
  number = omega (arith, e);
  fault = n;
}
