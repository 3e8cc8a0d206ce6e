-- Sentences and queries over formulas that grow.
use Rattle.std.proofs.Common.{◌≡◌, ◌+◌, ◌<◌, ◌≤◌, ℕ, ℤ, Bool, true, false, nat_lt, arith, List, [], ◌∷◌, ◌++◌, Option, Some, None, IfSome, All, option_map, length, map, is_some, refl, sym, ap, ◌∙◌, if◌then◌else◌}
use Rattle.std.proofs.lemmas.List.{map-append, append_assoc, append-nil, length-map}
use Rattle.std.proofs.lemmas.List.Elements.{All-push, All-weaker}
use Rattle.ps_meaning.specs.Formula.{Formula}
use Rattle.ps_meaning.specs.Statements.{Name, Summand, PlainStatement, LinearStatement, Statement, Plain, Linear, Question}
use Rattle.ps_meaning.specs.declared.side.Side.TheVariants.{AtMost}
use Rattle.std.proofs.lemmas.Bool.Decides.{nat_tests}
use Rattle.ps_problem.specs.declared.limits.TheConstants.{MOST_BOUNDS}
use Rattle.ps_problem.specs.declared.term.Signed.{Signed}
use Rattle.ps_problem.specs.declared.draft_item.DraftSentence.{DraftSentence}
use Rattle.ps_problem.specs.declared.draft_item.DraftLinear.{DraftLinear}
use Rattle.ps_problem.specs.declared.sentence.Sentence.{Sentence}
use Rattle.ps_problem.specs.declared.sentence.Sentence.TheVariants as sentence
use Rattle.ps_problem.specs.declared.query.Query.{Query}
use Rattle.ps_problem.specs.declared.row.Row.{Row}
use Rattle.ps_problem.specs.Scales.{scaled, scale_of, fraction_of}
use Rattle.ps_problem.specs.Problems.{bounds_of_sentence, bounds_in}
use Rattle.ps_problem.specs.Rows.{row_at, rows_in}
use Rattle.ps_problem.specs.Numbering.{same_formula, place_in, both_of, term_in, sentence_in, query_in}
use Rattle.ps_problem.specs.Counts.{count_bounds}
use Rattle.ps_problem.specs.Drafts.{ratio_of, signed_of, summand_at, sum_at}
use Rattle.ps_problem.specs.DraftLists.{statement_of}
use Rattle.ps_problem.specs.Numbered.{IsAmong, HasQuestion, HasSummand}
use Rattle.ps_problem.specs.Making.{HasItems, HasStatement, bound_on, sentence_on, linear_on, question_on}
use Rattle.ps_problem.proofs.Nodes.{among-more, place-more}
use Rattle.ps_problem.proofs.Counted.{length-one}
use Rattle.ps_problem.proofs.Postfix.{map-same}

-- a statement's sentence on a query's formula
abbrev sentence_from : PlainStatement → Query → Sentence
sentence_from s q = sentence.Plain (bound_on q s.side s.value.num s.value.den) (option_map (λ r. bound_on q AtMost r.num r.den) s.upper)

-- the sentence of a statement over formulas by number
pub sentence-is : (gs fs : List (Formula Name)) (s : DraftSentence) (q : Query) → q ≡ query_in gs (question_on (statement_of fs s))
    → sentence_on q s ≡ sentence_in gs (Plain (statement_of fs s))
sentence-is gs fs s q e = ap (λ x. sentence.Plain (bound_on q s.side s.num s.den) x) (by s.upper) ∙ ap (sentence_from (statement_of fs s)) e
  where
    by : (u : Option (ℕ × ℕ)) → option_map (λ r. bound_on q AtMost r.0 r.1) u ≡ option_map (λ r. bound_on q AtMost r.num r.den) (option_map ratio_of u)
    by None = refl
    by (Some r) = refl

-- the statement of a linear item over formulas by number
abbrev pub sum_of : List (Formula Name) → DraftLinear → LinearStatement
sum_of fs l = sum_at fs l.terms l.side l.right l.upper

-- the sentence of a linear item
pub linear-is : (gs fs : List (Formula Name)) (l : DraftLinear) (m : ℕ) (ts : List (ℕ × ℤ)) → m ≡ scale_of (sum_of fs l) → ts ≡ map (term_in gs m) (map (summand_at fs) l.terms)
    → sentence.Linear (linear_on ts m l) ≡ sentence_in gs (Linear (sum_of fs l))
linear-is gs fs l m ts e t =
    (λ i. sentence.Linear (record { terms = t i; scale = m; side = l.side; right = scaled m (signed_of l.right); upper = by l.upper i }))
    ∙ ap (λ k. sentence.Linear (record {
      terms = map (term_in gs k) (map (summand_at fs) l.terms);
      scale = k;
      side = l.side;
      right = scaled k (signed_of l.right);
      upper = option_map (scaled k) (option_map signed_of l.upper);
    })) e
  where
    by : (u : Option Signed) → option_map (λ r. scaled m (fraction_of r)) u ≡ option_map (scaled m) (option_map signed_of u)
    by None = refl
    by (Some r) = refl

pub count-is : {X Y : Type 0} (f : X → Y) (u : Option X) → ◌≡◌ {A = ℕ} (if is_some (option_map f u) then 2 else 1) (if is_some u then 2 else 1)
count-is f None = refl
count-is f (Some r) = refl

-- the bounds of one more sentence are too many
pub full-lt : {X Y : Type 0} (f : X → Y) (u : Option X) (n : ℕ) (b c : Bool) → b ≡ is_some u → c ≡ nat_lt MOST_BOUNDS (n + (if b then 2 else 1)) → c ≡ true → MOST_BOUNDS < n + (if is_some (option_map f u) then 2 else 1)
full-lt f u n b c e t h =
    let m = count-is f u in
    let k : ◌≡◌ {A = ℕ} (if b then 2 else 1) (if is_some u then 2 else 1) = ap (λ x. if x then 2 else 1) e in
    let q : nat_lt MOST_BOUNDS (n + (if b then 2 else 1)) ≡ true = sym t ∙ h in
    let l : MOST_BOUNDS < n + (if b then 2 else 1) = grind (arith, nat_tests) in
    omega (arith, m, k, l)

-- or not
pub few-le : {X Y : Type 0} (f : X → Y) (u : Option X) (n : ℕ) (b c : Bool) → b ≡ is_some u → c ≡ nat_lt MOST_BOUNDS (n + (if b then 2 else 1)) → c ≡ false → n + (if is_some (option_map f u) then 2 else 1) ≤ MOST_BOUNDS
few-le f u n b c e t h =
    let m = count-is f u in
    let k : ◌≡◌ {A = ℕ} (if b then 2 else 1) (if is_some u then 2 else 1) = ap (λ x. if x then 2 else 1) e in
    let q : nat_lt MOST_BOUNDS (n + (if b then 2 else 1)) ≡ false = sym t ∙ h in
    let l : n + (if b then 2 else 1) ≤ MOST_BOUNDS = grind (arith, nat_tests) in
    omega (arith, m, k, l)

bounds-append : (xs ys : List Sentence) → bounds_in (xs ++ ys) ≡ bounds_in xs ++ bounds_in ys
bounds-append [] ys = refl
bounds-append (x ∷ xs) ys = ap (λ bs. bounds_of_sentence x ++ bs) (bounds-append xs ys) ∙ sym (append_assoc (bounds_of_sentence x) (bounds_in xs) (bounds_in ys))

pub rows-append : (xs ys : List Sentence) → rows_in (xs ++ ys) ≡ rows_in xs ++ rows_in ys
rows-append xs ys = ap (map row_at) (bounds-append xs ys) ∙ map-append row_at (bounds_in xs) (bounds_in ys)

-- a sentence has as many rows as its statement has bounds
pub length-rows : (fs : List (Formula Name)) (s : Statement) → length (rows_in (sentence_in fs s ∷ [])) ≡ count_bounds s
length-rows fs s =
    length-map (bounds_in (sentence_in fs s ∷ [])) row_at
    ∙ ap length (append-nil (bounds_of_sentence (sentence_in fs s))) ∙ length-one fs s

module _ (fs more : List (Formula Name)) where
  has-given : (g : Option (Formula Name)) → IfSome g (IsAmong fs) → IfSome g (IsAmong (fs ++ more))
  has-given None h = tt
  has-given (Some g) h = among-more fs more g h

  has-more : (q : Question) → HasQuestion fs q → HasQuestion (fs ++ more) q
  has-more q h = record { formula = among-more fs more q.formula h.formula; given = has-given q.given h.given; both = among-more fs more (both_of q.formula q.given) h.both }

  given-more : (g : Option (Formula Name)) → IfSome g (IsAmong fs) → option_map (place_in same_formula (fs ++ more)) g ≡ option_map (place_in same_formula fs) g
  given-more None h = refl
  given-more (Some g) h = ap Some (place-more fs more g h)

  query-more : (q : Question) → HasQuestion fs q → query_in (fs ++ more) q ≡ query_in fs q
  query-more q h = λ t. record {
    formula = place-more fs more q.formula h.formula t;
    given = given-more q.given h.given t;
    both = place-more fs more (both_of q.formula q.given) h.both t;
  }

  summands-more : (ts : List Summand) → All (HasSummand fs) ts → All (HasSummand (fs ++ more)) ts
  summands-more ts h = All-weaker (HasSummand fs) (HasSummand (fs ++ more)) (λ t a. among-more fs more t.formula a) ts h

  pub terms-more : (m : ℕ) (ts : List Summand) → All (HasSummand fs) ts → map (term_in (fs ++ more) m) ts ≡ map (term_in fs m) ts
  terms-more m ts h = map-same (term_in (fs ++ more) m) (term_in fs m) ts
      (All-weaker (HasSummand fs) (λ t. term_in (fs ++ more) m t ≡ term_in fs m t) (λ t a. ap (λ n. (n, scaled m t.coefficient)) (place-more fs more t.formula a)) ts h)

  statement-more : (s : Statement) → HasStatement fs s → HasStatement (fs ++ more) s
  statement-more (Plain s) h = has-more (question_on s) h
  statement-more (Linear s) h = summands-more s.terms h

  sentence-more : (s : Statement) → HasStatement fs s → sentence_in (fs ++ more) s ≡ sentence_in fs s
  sentence-more (Plain s) h = ap (sentence_from s) (query-more (question_on s) h)
  sentence-more (Linear s) h = ap (λ ts. sentence.Linear (record {
    terms = ts;
    scale = scale_of s;
    side = s.side;
    right = scaled (scale_of s) s.value;
    upper = option_map (scaled (scale_of s)) s.upper;
  })) (terms-more (scale_of s) s.terms h)

module _ (fs : List (Formula Name)) (stated : List Statement) (asked : List Question) (sentences : List Sentence) (rows : List Row) (queries : List Query) (h : HasItems fs stated asked sentences rows queries) where
  -- further formulas change nothing
  pub holds-more : (more : List (Formula Name)) → HasItems (fs ++ more) stated asked sentences rows queries
  holds-more more = record {
    stated_there = All-weaker (HasStatement fs) (HasStatement (fs ++ more)) (statement-more fs more) stated h.stated_there;
    asked_there = All-weaker (HasQuestion fs) (HasQuestion (fs ++ more)) (has-more fs more) asked h.asked_there;
    sentences_are = h.sentences_are ∙ sym (map-same (sentence_in (fs ++ more)) (sentence_in fs) stated
        (All-weaker (HasStatement fs) (λ s. sentence_in (fs ++ more) s ≡ sentence_in fs s) (sentence-more fs more) stated h.stated_there));
    rows_are = h.rows_are;
    queries_are = h.queries_are ∙ sym (map-same (query_in (fs ++ more)) (query_in fs) asked
        (All-weaker (HasQuestion fs) (λ q. query_in (fs ++ more) q ≡ query_in fs q) (query-more fs more) asked h.asked_there));
  }

  -- one more statement
  pub holds-statement : (s : Statement) → HasStatement fs s
      → HasItems fs (stated ++ s ∷ []) asked (sentences ++ sentence_in fs s ∷ []) (rows ++ rows_in (sentence_in fs s ∷ [])) queries
  holds-statement s there = record {
    stated_there = All-push (HasStatement fs) stated s h.stated_there there;
    asked_there = h.asked_there;
    sentences_are = ap (λ ss. ss ++ sentence_in fs s ∷ []) h.sentences_are ∙ sym (map-append (sentence_in fs) stated (s ∷ []));
    rows_are = ap (λ rs. rs ++ rows_in (sentence_in fs s ∷ [])) h.rows_are ∙ sym (rows-append sentences (sentence_in fs s ∷ []));
    queries_are = h.queries_are;
  }

  -- one more question
  pub holds-question : (q : Question) → HasQuestion fs q → HasItems fs stated (asked ++ q ∷ []) sentences rows (queries ++ query_in fs q ∷ [])
  holds-question q there = record {
    stated_there = h.stated_there;
    asked_there = All-push (HasQuestion fs) asked q h.asked_there there;
    sentences_are = h.sentences_are;
    rows_are = h.rows_are;
    queries_are = ap (λ qs. qs ++ query_in fs q ∷ []) h.queries_are ∙ sym (map-append (query_in fs) asked (q ∷ []));
  }
