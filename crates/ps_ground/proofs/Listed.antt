-- The atoms of a text's problem are ground atoms, and all atoms of its ground formulas are among them.
use Rattle.std.proofs.Common.{List, [], ◌∷◌, ◌++◌, map, All, Option, Some, None, IfSome, subst, arith}
use Rattle.std.specs.Option.{option_map, option_to_list}
use Rattle.std.proofs.lemmas.List.Elements.{All-nil, All-cons, All-head, All-tail, All-append}
use Rattle.ps_meaning.specs.Formula.{Formula, subformulas}
use Rattle.ps_meaning.specs.Formula as formula
use Rattle.ps_meaning.specs.Statements.{Name, Statement, Question, Item}
use Rattle.ps_meaning.specs.Statements as meaning
use Rattle.ps_problem.specs.Numbering.{AreOnce, same_name, same_formula, place_in, names_among, numbered_for, numbered_in_terms, numbered_in, numbered_in_statements, numbered_in_questions, formulas_of}
use Rattle.ps_problem.specs.Numbered.{IsAmong, AreOperandsAmong, HasQuestion, HasSummand}
use Rattle.ps_problem.specs.Making.{HasStatement}
use Rattle.ps_problem.proofs.Lists.{place-below, place-get}
use Rattle.ps_problem.proofs.Nodes.{same-true, same-refl}
use Rattle.ps_problem.proofs.Trees.{are-ready}
use Rattle.ps_problem.proofs.Orders.{Ordered, are-numbered}
use Rattle.ps_first_order.specs.FirstOrder.{FirstOrder, Signature, IsSentence, unassigned}
use Rattle.ps_first_order.specs.Texts.{Summand, Plain, Linear, FirstOrderStatement, FirstOrderItem, Stated, Asked, sentences_in, stated_sentences, sentences_of}
use Rattle.ps_ground.specs.Grounding.{ground_formula, ground_summand, ground_statement, ground_question, ground_items}
use Rattle.ps_ground.proofs.Atoms.{EachAtom, each-subformula, each-name, each-new, IsAtomName, each-ground, StandFor}
use Rattle.ps_ground.proofs.Truths.{IsAmongNames}

pub all-left : {X : Type 0} (P : X → Type 0) (xs ys : List X) → All P (xs ++ ys) → All P xs
all-left P [] ys h = All-nil P
all-left P (x ∷ xs) ys h = All-cons P x xs (All-head P x (xs ++ ys) h) (all-left P xs ys (All-tail P x (xs ++ ys) h))

pub all-right : {X : Type 0} (P : X → Type 0) (xs ys : List X) → All P (xs ++ ys) → All P ys
all-right P [] ys h = h
all-right P (x ∷ xs) ys h = all-right P xs ys (All-tail P x (xs ++ ys) h)

-- in formulas in order, each operand of one that is there is there
module _ (fs : List (Formula Name)) (o : Ordered fs) where
  operands : (f : Formula Name) → IsAmong fs f → AreOperandsAmong fs f
  operands f a = subst (AreOperandsAmong fs) (place-get same_formula same-true same-refl fs f formula.Truth a)
      (are-ready fs o.led (place_in same_formula fs f) formula.Truth (place-below same_formula fs f a))

  pub each-among : (f : Formula Name) → IsAmong fs f → EachAtom (IsAmongNames (names_among fs)) f
  each-among formula.Truth a = tt
  each-among formula.Falsity a = tt
  each-among (formula.Atom n) a = operands (formula.Atom n) a
  each-among (formula.Not f) a = each-among f (operands (formula.Not f) a)
  each-among (formula.And f g) a = let k = operands (formula.And f g) a in (each-among f k.0, each-among g k.1)
  each-among (formula.Or f g) a = let k = operands (formula.Or f g) a in (each-among f k.0, each-among g k.1)
  each-among (formula.Implies f g) a = let k = operands (formula.Implies f g) a in (each-among f k.0, each-among g k.1)
  each-among (formula.Iff f g) a = let k = operands (formula.Iff f g) a in (each-among f k.0, each-among g k.1)

module _ (s : Signature) where
  none-stands : StandFor s [] unassigned
  none-stands x there = absurd (omega (arith, there.1))

  pub sentence-atoms : (f : FirstOrder) → IsSentence s f → EachAtom (IsAtomName s) (ground_formula s f)
  sentence-atoms f h = each-ground s f [] unassigned h none-stands

  pub nothing-bound : StandFor s [] unassigned
  nothing-bound = none-stands

  -- the sentences of a text have their atoms among these names
  module _ (names : List Name) where
    abbrev pub IsCovered : FirstOrder → Type 0
    IsCovered f = EachAtom (IsAmongNames names) (ground_formula s f)

  module _ (fs : List (Formula Name)) (o : Ordered fs) where
    covered-given : (g : Option FirstOrder) → IfSome (option_map (ground_formula s) g) (IsAmong fs) → All (IsCovered (names_among fs)) (option_to_list g)
    covered-given None h = All-nil (IsCovered (names_among fs))
    covered-given (Some g) h = All-cons (IsCovered (names_among fs)) g [] (each-among fs o (ground_formula s g) h) (All-nil (IsCovered (names_among fs)))

    covered-in : (f : FirstOrder) (g : Option FirstOrder) → HasQuestion fs (record { formula = ground_formula s f; given = option_map (ground_formula s) g })
        → All (IsCovered (names_among fs)) (sentences_in f g)
    covered-in f g h = All-cons (IsCovered (names_among fs)) f (option_to_list g) (each-among fs o (ground_formula s f) h.formula) (covered-given g h.given)

    covered-terms : (us : List Summand) → All (HasSummand fs) (map (ground_summand s) us) → All (IsCovered (names_among fs)) (map (λ u. u.formula) us)
    covered-terms [] h = All-nil (IsCovered (names_among fs))
    covered-terms (u ∷ us) h = All-cons (IsCovered (names_among fs)) u.formula (map (λ u. u.formula) us)
        (each-among fs o (ground_formula s u.formula) (All-head (HasSummand fs) (ground_summand s u) (map (ground_summand s) us) h))
        (covered-terms us (All-tail (HasSummand fs) (ground_summand s u) (map (ground_summand s) us) h))

    covered-statement : (t : FirstOrderStatement) → HasStatement fs (ground_statement s t) → All (IsCovered (names_among fs)) (stated_sentences t)
    covered-statement (Plain t) h = covered-in t.formula t.given h
    covered-statement (Linear t) h = covered-terms t.terms h

    covered : (items : List FirstOrderItem) → All (HasStatement fs) (meaning.statements_of (ground_items s items))
        → All (HasQuestion fs) (meaning.questions_of (ground_items s items)) → All (IsCovered (names_among fs)) (sentences_of items)
    covered [] h k = All-nil (IsCovered (names_among fs))
    covered (Stated t ∷ items) h k =
        All-append (IsCovered (names_among fs)) (stated_sentences t) (sentences_of items)
        (covered-statement t (All-head (HasStatement fs) (ground_statement s t) (meaning.statements_of (ground_items s items)) h))
        (covered items (All-tail (HasStatement fs) (ground_statement s t) (meaning.statements_of (ground_items s items)) h) k)
    covered (Asked q ∷ items) h k =
        All-append (IsCovered (names_among fs)) (sentences_in q.formula q.given) (sentences_of items)
        (covered-in q.formula q.given (All-head (HasQuestion fs) (ground_question s q) (meaning.questions_of (ground_items s items)) k))
        (covered items h (All-tail (HasQuestion fs) (ground_question s q) (meaning.questions_of (ground_items s items)) k))

  pub all-covered : (items : List FirstOrderItem) → All (IsCovered (names_among (formulas_of (ground_items s items)))) (sentences_of items)
  all-covered items =
      let n = are-numbered (ground_items s items) in
      covered (formulas_of (ground_items s items)) n.order items n.statements n.questions

  -- the formulas that are numbered have ground atoms
  abbrev AreGround : List (Formula Name) → Type 0
  AreGround fs = All (EachAtom (IsAtomName s)) fs

  ground-numbered : (f : FirstOrder) (g : Option FirstOrder) → All (IsSentence s) (sentences_in f g) → AreGround (numbered_for (ground_formula s f) (option_map (ground_formula s) g))
  ground-numbered f None h = each-subformula (IsAtomName s) (ground_formula s f) (sentence-atoms f (All-head (IsSentence s) f [] h))
  ground-numbered f (Some g) h =
      let one = sentence-atoms f (All-head (IsSentence s) f (g ∷ []) h) in
      let two = sentence-atoms g (All-head (IsSentence s) g [] (All-tail (IsSentence s) f (g ∷ []) h)) in
      each-subformula (IsAtomName s) (formula.And (ground_formula s f) (ground_formula s g)) (one, two)

  ground-terms : (us : List Summand) → All (IsSentence s) (map (λ u. u.formula) us) → AreGround (numbered_in_terms (map (ground_summand s) us))
  ground-terms [] h = All-nil (EachAtom (IsAtomName s))
  ground-terms (u ∷ us) h =
      All-append (EachAtom (IsAtomName s)) (subformulas (ground_formula s u.formula)) (numbered_in_terms (map (ground_summand s) us))
      (each-subformula (IsAtomName s) (ground_formula s u.formula) (sentence-atoms u.formula (All-head (IsSentence s) u.formula (map (λ u. u.formula) us) h)))
      (ground-terms us (All-tail (IsSentence s) u.formula (map (λ u. u.formula) us) h))

  ground-statement : (t : FirstOrderStatement) → All (IsSentence s) (stated_sentences t) → AreGround (numbered_in (ground_statement s t))
  ground-statement (Plain t) h = ground-numbered t.formula t.given h
  ground-statement (Linear t) h = ground-terms t.terms h

  ground-statements : (items : List FirstOrderItem) → All (IsSentence s) (sentences_of items) → AreGround (numbered_in_statements (meaning.statements_of (ground_items s items)))
  ground-statements [] h = All-nil (EachAtom (IsAtomName s))
  ground-statements (Stated t ∷ items) h =
      All-append (EachAtom (IsAtomName s)) (numbered_in (ground_statement s t)) (numbered_in_statements (meaning.statements_of (ground_items s items)))
      (ground-statement t (all-left (IsSentence s) (stated_sentences t) (sentences_of items) h))
      (ground-statements items (all-right (IsSentence s) (stated_sentences t) (sentences_of items) h))
  ground-statements (Asked q ∷ items) h = ground-statements items (all-right (IsSentence s) (sentences_in q.formula q.given) (sentences_of items) h)

  ground-questions : (items : List FirstOrderItem) → All (IsSentence s) (sentences_of items) → AreGround (numbered_in_questions (meaning.questions_of (ground_items s items)))
  ground-questions [] h = All-nil (EachAtom (IsAtomName s))
  ground-questions (Stated t ∷ items) h = ground-questions items (all-right (IsSentence s) (stated_sentences t) (sentences_of items) h)
  ground-questions (Asked q ∷ items) h =
      All-append (EachAtom (IsAtomName s)) (numbered_for (ground_formula s q.formula) (option_map (ground_formula s) q.given)) (numbered_in_questions (meaning.questions_of (ground_items s items)))
      (ground-numbered q.formula q.given (all-left (IsSentence s) (sentences_in q.formula q.given) (sentences_of items) h))
      (ground-questions items (all-right (IsSentence s) (sentences_in q.formula q.given) (sentences_of items) h))

  -- so each name of the problem is the one of a ground atom
  pub ground-names : (items : List FirstOrderItem) → All (IsSentence s) (sentences_of items) → All (IsAtomName s) (names_among (formulas_of (ground_items s items)))
  ground-names items h =
      let ss = numbered_in_statements (meaning.statements_of (ground_items s items)) in
      let qs = numbered_in_questions (meaning.questions_of (ground_items s items)) in
      each-name (IsAtomName s) (formulas_of (ground_items s items))
      (each-new (IsAtomName s) (ss ++ qs) [] (All-nil (EachAtom (IsAtomName s)))
      (All-append (EachAtom (IsAtomName s)) ss qs (ground-statements items h) (ground-questions items h)))

-- no name comes twice
pub names-once : (s : Signature) (items : List FirstOrderItem) → AreOnce same_name (names_among (formulas_of (ground_items s items)))
names-once s items = (are-numbered (ground_items s items)).order.names
