-- The formulas of items: each stands once, and its operands stand before it.
use Rattle.std.proofs.Common.{◌≡◌, Bool, true, false, List, [], ◌∷◌, ◌++◌, All, Option, Some, None, refl, sym, ap, subst, ◌∙◌, if◌then◌else◌, arith}
use Rattle.std.specs.List.{list_any, fold}
use Rattle.std.proofs.lemmas.List.{append-nil, append_assoc}
use Rattle.std.proofs.lemmas.List.Elements.{All-nil, All-cons, All-weaker}
use Rattle.std.proofs.lemmas.List.Sums.{fold-append}
use Rattle.std.proofs.lemmas.Option.{IfSome_then}
use Rattle.ps_meaning.specs.Formula.{Formula, Truth, Falsity, Atom, Not, And, Or, Implies, Iff, subformulas}
use Rattle.ps_meaning.specs.Statements.{Name, Summand, Statement, Plain, Linear, Question, Item, statements_of, questions_of}
use Rattle.ps_problem.specs.Numbering.{AreOnce, same_name, same_formula, with_new, names_among, numbered_for, numbered_in_terms, numbered_in, numbered_in_statements, numbered_in_questions, formulas_of}
use Rattle.ps_problem.specs.Making.{question_on as question, HasStatement}
use Rattle.ps_problem.specs.Numbered.{IsAmong, HasQuestion, HasSummand}
use Rattle.ps_problem.proofs.NameLists.{same_name-true, same_name-refl}
use Rattle.ps_problem.proofs.Lists.{once-push, any-new}
use Rattle.ps_problem.proofs.Nodes.{same-true, same-refl, names-append, atom-among, among-more}
use Rattle.ps_problem.proofs.Trees.{Leads, AreLed}

-- each formula stands once and behind its operands, and each name once
pub record Ordered (fs : List (Formula Name)) : Type 0 where
  pub led : AreLed [] fs
  pub once : AreOnce same_formula fs
  pub names : AreOnce same_name (names_among fs)

led-push : (ms rest : List (Formula Name)) (g : Formula Name) → AreLed ms rest → Leads (ms ++ rest) g → AreLed ms (rest ++ g ∷ [])
led-push ms [] g l k = (subst (λ xs. Leads xs g) (append-nil ms) k, tt)
led-push ms (r ∷ rest) g l k = (l.0, led-push (ms ++ r ∷ []) rest g l.1 (subst (λ xs. Leads xs g) (sym (append_assoc ms (r ∷ []) rest)) k))

-- formulas in order, and this one among them
record HasItems (fs : List (Formula Name)) (f : Formula Name) : Type 0 where
  order : Ordered fs
  among : IsAmong fs f

-- more formulas behind some, each once
abbrev all : List (Formula Name) → List (Formula Name) → List (Formula Name)
all fs xs = fold (with_new same_formula) fs xs

all-append : (fs xs ys : List (Formula Name)) → all fs (xs ++ ys) ≡ all (all fs xs) ys
all-append fs xs ys = fold-append (with_new same_formula) fs xs ys

names-push : (fs : List (Formula Name)) (g : Formula Name) → list_any (same_formula g) fs ≡ false → AreOnce same_name (names_among fs) → AreOnce same_name (names_among (fs ++ g ∷ []))
names-push fs g e h = subst (AreOnce same_name) (sym (names-append fs (g ∷ []))) (by g e)
  where
    by : (f : Formula Name) → list_any (same_formula f) fs ≡ false → AreOnce same_name (names_among fs ++ names_among (f ∷ []))
    by (Atom a) e = once-push same_name same_name-true same_name-refl (names_among fs) a (sym (atom-among fs a) ∙ e) h
    by f e = subst (AreOnce same_name) (sym (append-nil (names_among fs))) h

one-more : (fs : List (Formula Name)) (g : Formula Name) → Ordered fs → Leads fs g → HasItems (all fs (g ∷ [])) g
one-more fs g h l = by (list_any (same_formula g) fs) refl
  where
    by : (b : Bool) → list_any (same_formula g) fs ≡ b → HasItems (if b then fs else fs ++ g ∷ []) g
    by true e = record { order = h; among = e }
    by false e = record {
      order = record {
        led = led-push [] fs g h.led l;
        once = once-push same_formula same-true same-refl fs g e h.once;
        names = names-push fs g e h.names;
      };
      among = any-new same_formula same-true same-refl fs g;
    }

among-all : (fs xs : List (Formula Name)) (f : Formula Name) → IsAmong fs f → IsAmong (all fs xs) f
among-all fs [] f a = a
among-all fs (x ∷ xs) f a = among-all (with_new same_formula fs x) xs f (by (list_any (same_formula x) fs))
  where
    by : (b : Bool) → IsAmong (if b then fs else fs ++ x ∷ []) f
    by true = a
    by false = among-more fs (x ∷ []) f a

-- the operands of a formula, and then it
record Three (fs : List (Formula Name)) (f g h : Formula Name) : Type 0 where
  order : Ordered fs
  left : IsAmong fs f
  right : IsAmong fs g
  both : IsAmong fs h

three : (fs : List (Formula Name)) (f g h : Formula Name) → ((gs : List (Formula Name)) → IsAmong gs f → IsAmong gs g → Leads gs h)
    → HasItems (all fs (subformulas f)) f → HasItems (all (all fs (subformulas f)) (subformulas g)) g → Three (all fs (subformulas f ++ subformulas g ++ h ∷ [])) f g h
three fs f g h leads one two =
    let gs = all (all fs (subformulas f)) (subformulas g) in
    let left : IsAmong gs f = among-all (all fs (subformulas f)) (subformulas g) f one.among in
    let last = one-more gs h two.order (leads gs left two.among) in
    subst (λ xs. Three xs f g h) (sym (all-append fs (subformulas f ++ subformulas g) (h ∷ []) ∙ ap (λ xs. all xs (h ∷ [])) (all-append fs (subformulas f) (subformulas g))))
    (record { order = last.order; left = among-all gs (h ∷ []) f left; right = among-all gs (h ∷ []) g two.among; both = last.among })

holds : (fs : List (Formula Name)) (f g h : Formula Name) → Three fs f g h → HasItems fs h
holds fs f g h t = record { order = t.order; among = t.both }

parts : (f : Formula Name) (fs : List (Formula Name)) → Ordered fs → HasItems (all fs (subformulas f)) f
parts Truth fs o = one-more fs Truth o tt
parts Falsity fs o = one-more fs Falsity o tt
parts (Atom a) fs o = one-more fs (Atom a) o tt
parts (Not f) fs o =
    let one = parts f fs o in
    subst (λ xs. HasItems xs (Not f)) (sym (all-append fs (subformulas f) (Not f ∷ []))) (one-more (all fs (subformulas f)) (Not f) one.order one.among)
parts (And f g) fs o = let one = parts f fs o in holds _ f g (And f g) (three fs f g (And f g) (λ gs a b. (a, b)) one (parts g (all fs (subformulas f)) one.order))
parts (Or f g) fs o = let one = parts f fs o in holds _ f g (Or f g) (three fs f g (Or f g) (λ gs a b. (a, b)) one (parts g (all fs (subformulas f)) one.order))
parts (Implies f g) fs o = let one = parts f fs o in holds _ f g (Implies f g) (three fs f g (Implies f g) (λ gs a b. (a, b)) one (parts g (all fs (subformulas f)) one.order))
parts (Iff f g) fs o = let one = parts f fs o in holds _ f g (Iff f g) (three fs f g (Iff f g) (λ gs a b. (a, b)) one (parts g (all fs (subformulas f)) one.order))

-- formulas in order, and those of a question among them
record HoldsQuestion (fs : List (Formula Name)) (q : Question) : Type 0 where
  order : Ordered fs
  among : HasQuestion fs q

numbered-one : (fs : List (Formula Name)) (f : Formula Name) (o : Option (Formula Name)) → Ordered fs → HoldsQuestion (all fs (numbered_for f o)) (record { formula = f; given = o })
numbered-one fs f None o = let one = parts f fs o in record { order = one.order; among = record { formula = one.among; given = tt; both = one.among } }
numbered-one fs f (Some g) o =
    let one = parts f fs o in
    let t = three fs f g (And f g) (λ gs a b. (a, b)) one (parts g (all fs (subformulas f)) one.order) in
    record { order = t.order; among = record { formula = t.left; given = t.right; both = t.both } }

has-more : (fs xs : List (Formula Name)) (q : Question) → HasQuestion fs q → HasQuestion (all fs xs) q
has-more fs xs q h = record {
  formula = among-all fs xs q.formula h.formula;
  given = IfSome_then q.given h.given (λ f a. among-all fs xs f a);
  both = among-all fs xs _ h.both;
}

summands-more : (fs xs : List (Formula Name)) (ts : List Summand) → All (HasSummand fs) ts → All (HasSummand (all fs xs)) ts
summands-more fs xs ts h = All-weaker (HasSummand fs) (HasSummand (all fs xs)) (λ t a. among-all fs xs t.formula a) ts h

statement-more : (fs xs : List (Formula Name)) (s : Statement) → HasStatement fs s → HasStatement (all fs xs) s
statement-more fs xs (Plain s) h = has-more fs xs (question s) h
statement-more fs xs (Linear s) h = summands-more fs xs s.terms h

-- formulas in order, with those of these things
record Hold {X : Type 0} (has : List (Formula Name) → X → Type 0) (fs : List (Formula Name)) (xs : List X) : Type 0 where
  order : Ordered fs
  among : All (has fs) xs

in-terms : (ts : List Summand) (fs : List (Formula Name)) → Ordered fs → Hold HasSummand (all fs (numbered_in_terms ts)) ts
in-terms [] fs o = record { order = o; among = All-nil (HasSummand fs) }
in-terms (t ∷ ts) fs o =
    let one = parts t.formula fs o in
    let rest = in-terms ts (all fs (subformulas t.formula)) one.order in
    subst (λ gs. Hold HasSummand gs (t ∷ ts)) (sym (all-append fs (subformulas t.formula) (numbered_in_terms ts)))
    (record {
      order = rest.order;
      among = All-cons (HasSummand (all (all fs (subformulas t.formula)) (numbered_in_terms ts))) t ts
          (among-all (all fs (subformulas t.formula)) (numbered_in_terms ts) t.formula one.among) rest.among;
    })

-- formulas in order, and those of a statement among them
record HoldsStatement (fs : List (Formula Name)) (s : Statement) : Type 0 where
  order : Ordered fs
  among : HasStatement fs s

numbered-statement : (s : Statement) (fs : List (Formula Name)) → Ordered fs → HoldsStatement (all fs (numbered_in s)) s
numbered-statement (Plain s) fs o = let one = numbered-one fs s.formula s.given o in record { order = one.order; among = one.among }
numbered-statement (Linear s) fs o = let one = in-terms s.terms fs o in record { order = one.order; among = one.among }

in-statements : (ss : List Statement) (fs : List (Formula Name)) → Ordered fs → Hold HasStatement (all fs (numbered_in_statements ss)) ss
in-statements [] fs o = record { order = o; among = All-nil (HasStatement fs) }
in-statements (s ∷ ss) fs o =
    let one = numbered-statement s fs o in
    let rest = in-statements ss (all fs (numbered_in s)) one.order in
    subst (λ gs. Hold HasStatement gs (s ∷ ss)) (sym (all-append fs (numbered_in s) (numbered_in_statements ss)))
    (record {
      order = rest.order;
      among = All-cons (HasStatement (all (all fs (numbered_in s)) (numbered_in_statements ss))) s ss
          (statement-more (all fs (numbered_in s)) (numbered_in_statements ss) s one.among) rest.among;
    })

in-questions : (qs : List Question) (fs : List (Formula Name)) → Ordered fs → Hold HasQuestion (all fs (numbered_in_questions qs)) qs
in-questions [] fs o = record { order = o; among = All-nil (HasQuestion fs) }
in-questions (q ∷ qs) fs o =
    let one = numbered-one fs q.formula q.given o in
    let rest = in-questions qs (all fs (numbered_for q.formula q.given)) one.order in
    subst (λ gs. Hold HasQuestion gs (q ∷ qs)) (sym (all-append fs (numbered_for q.formula q.given) (numbered_in_questions qs)))
    (record {
      order = rest.order;
      among = All-cons (HasQuestion (all (all fs (numbered_for q.formula q.given)) (numbered_in_questions qs))) q qs
          (has-more (all fs (numbered_for q.formula q.given)) (numbered_in_questions qs) q one.among) rest.among;
    })

-- the formulas of items are in order, and hold those of each statement and each question
pub record AreNumbered (fs : List (Formula Name)) (items : List Item) : Type 0 where
  pub order : Ordered fs
  pub statements : All (HasStatement fs) (statements_of items)
  pub questions : All (HasQuestion fs) (questions_of items)

pub are-numbered : (items : List Item) → AreNumbered (formulas_of items) items
are-numbered items =
    let ss = numbered_in_statements (statements_of items) in
    let qs = numbered_in_questions (questions_of items) in
    let none : Ordered [] = record { led = tt; once = λ i d lt. absurd (omega arith); names = λ i d lt. absurd (omega arith) } in
    let one = in-statements (statements_of items) [] none in
    let two = in-questions (questions_of items) (all [] ss) one.order in
    subst (λ fs. AreNumbered fs items) (sym (all-append [] ss qs))
    (record {
      order = two.order;
      statements = All-weaker (HasStatement (all [] ss)) (HasStatement (all (all [] ss) qs)) (λ s h. statement-more (all [] ss) qs s h) (statements_of items) one.among;
      questions = two.among;
    })
