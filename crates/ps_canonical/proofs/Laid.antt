-- Lines put behind each other.
use Rattle.std.proofs.Common.{◌≡◌, ℕ, ◌+◌, List, [], ◌∷◌, ◌++◌, map, take, drop, get_or, All, ◌<◌, ◌≤◌, length, refl, sym, ap, subst, ◌∙◌, append_assoc, append-nil}
use Rattle.std.specs.Prelude.{codes, Option}
use Rattle.std.proofs.lemmas.List.{take_more, take_all, drop_more, drop_all}
use Rattle.std.proofs.lemmas.List.Elements.{All-nil, All-cons, All-head, All-tail}
use Rattle.ps_meaning.specs.Statements.{Asked}
use Rattle.ps_formula.specs.declared.node.Node.{Node}
use Rattle.ps_text.specs.Canonical.{canonical_items, items_text, listed, version_for}
use Rattle.ps_text.specs.declared.version.Version.{Version}
use Rattle.ps_text.specs.declared.version.Version.TheVariants.{One, Two}
use Rattle.ps_problem.specs.declared.bound.Bound.{Bound}
use Rattle.ps_problem.specs.declared.sentence.Linear.{Linear}
use Rattle.ps_problem.specs.declared.sentence.Sentence.{Sentence}
use Rattle.ps_problem.specs.declared.sentence.Sentence.TheVariants as sentence
use Rattle.ps_problem.specs.declared.query.Query.{Query}
use Rattle.ps_problem.specs.Problems.{Parts, AreParts, bounds_of_sentence, bounds_in, IsBoundIn, AreBounds, IsSentence}
use Rattle.ps_problem.specs.Written.{statement_from, question_from, items_from}
use Rattle.ps_canonical.specs.Lines.{first_line, version_from, sentence_line, query_line, sentence_lines, query_lines, text_in}

module _ (p : Parts) where
  pub sentences-push : (ss : List Sentence) (s : Sentence) → sentence_lines p (ss ++ s ∷ []) ≡ sentence_lines p ss ++ sentence_line p s
  sentences-push [] s = append-nil (sentence_line p s)
  sentences-push (x ∷ ss) s = ap (λ bs. sentence_line p x ++ bs) (sentences-push ss s) ∙ sym (append_assoc (sentence_line p x) (sentence_lines p ss) (sentence_line p s))

  pub queries-push : (qs : List Query) (q : Query) → query_lines p (qs ++ q ∷ []) ≡ query_lines p qs ++ query_line p q
  queries-push [] q = append-nil (query_line p q)
  queries-push (x ∷ qs) q = ap (λ bs. query_line p x ++ bs) (queries-push qs q) ∙ sym (append_assoc (query_line p x) (query_lines p qs) (query_line p q))

  asked-lines : (qs : List Query) → items_text (canonical_items (map Asked (map (question_from p) qs))) ≡ query_lines p qs
  asked-lines [] = refl
  asked-lines (q ∷ qs) = ap (λ bs. query_line p q ++ bs) (asked-lines qs)

  -- the lines of the items are those of the sentences and then those of the queries
  pub all-lines : (ss : List Sentence) (qs : List Query)
      → items_text (canonical_items (listed (map (statement_from p) ss) (map (question_from p) qs))) ≡ sentence_lines p ss ++ query_lines p qs
  all-lines [] qs = asked-lines qs
  all-lines (s ∷ ss) qs = ap (λ bs. sentence_line p s ++ bs) (all-lines ss qs) ∙ sym (append_assoc (sentence_line p s) (sentence_lines p ss) (query_lines p qs))

-- parts of what all are
first_all : {X : Type 0} (P : X → Type 0) (xs ys : List X) → All P (xs ++ ys) → All P xs
first_all P [] ys h = All-nil P
first_all P (x ∷ xs) ys h = All-cons P x xs (All-head P x (xs ++ ys) h) (first_all P xs ys (All-tail P x (xs ++ ys) h))

rest_all : {X : Type 0} (P : X → Type 0) (xs ys : List X) → All P (xs ++ ys) → All P ys
rest_all P [] ys h = h
rest_all P (x ∷ xs) ys h = rest_all P xs ys (All-tail P x (xs ++ ys) h)

-- the bounds of each sentence are some of all
sentences-are : (ns : List Node) (ss : List Sentence) → AreBounds ns (bounds_in ss) → All (IsSentence ns) ss
sentences-are ns [] h = All-nil (IsSentence ns)
sentences-are ns (s ∷ ss) h = All-cons (IsSentence ns) s ss (first_all (IsBoundIn ns) (bounds_of_sentence s) (bounds_in ss) h)
    (sentences-are ns ss (rest_all (IsBoundIn ns) (bounds_of_sentence s) (bounds_in ss) h))

pub sentence-there : (p : Parts) → AreParts p → (xs : List Sentence) → xs ≡ p.sentences → (i : ℕ) (d : Sentence) → i < length xs → IsSentence p.nodes (get_or xs i d)
sentence-there p are xs e i d lt = subst (All (IsSentence p.nodes)) (sym e) (sentences-are p.nodes p.sentences are.bounds) i d lt

-- the version of the items is that of the sentences
asked-version : (p : Parts) (qs : List Query) → version_for (map Asked (map (question_from p) qs)) ≡ One
asked-version p [] = refl
asked-version p (q ∷ qs) = asked-version p qs

pub same-version : (p : Parts) (ss : List Sentence) (qs : List Query) → version_for (listed (map (statement_from p) ss) (map (question_from p) qs)) ≡ version_from ss
same-version p [] qs = asked-version p qs
same-version p (sentence.Plain first second ∷ ss) qs = same-version p ss qs
same-version p (sentence.Linear l ∷ ss) qs = refl

-- the version by the next sentence
module _ (ss : List Sentence) (i : ℕ) (s : Sentence) (e : s ≡ get_or ss i s) (lt : i < length ss) (h : version_from ss ≡ version_from (drop i ss)) where
  version-turn : version_from ss ≡ version_from (s ∷ drop (i + 1) ss)
  version-turn = h ∙ ap version_from (drop_more ss i s lt ∙ ap (λ x. x ∷ drop (i + 1) ss) (sym e))

  pub version-linear : (l : Linear) → s ≡ sentence.Linear l → Two ≡ version_from ss
  version-linear l k = sym (version-turn ∙ ap (λ x. version_from (x ∷ drop (i + 1) ss)) k)

  pub version-plain : (first : Bound) (second : Option Bound) → s ≡ sentence.Plain first second → version_from ss ≡ version_from (drop (i + 1) ss)
  version-plain first second k = version-turn ∙ ap (λ x. version_from (x ∷ drop (i + 1) ss)) k

-- no sentence is left
pub version-end : (ss : List Sentence) (i : ℕ) → length ss ≤ i → version_from ss ≡ version_from (drop i ss) → One ≡ version_from ss
version-end ss i le h = sym (h ∙ ap version_from (drop_all i ss le))

-- one line more has been written
pub lines-more : {X : Type 0} (lines : List X → List ℕ) (line : X → List ℕ) → ((xs : List X) (x : X) → lines (xs ++ x ∷ []) ≡ lines xs ++ line x)
    → (xs ys : List X) → xs ≡ ys → (i : ℕ) (d : X) → i < length xs → (before out out' : List ℕ)
    → out ≡ before ++ lines (take i ys) → out' ≡ out ++ line (get_or xs i d) → out' ≡ before ++ lines (take (i + 1) ys)
lines-more lines line push xs ys e i d lt before out out' h k =
    k ∙ ap (λ bs. bs ++ line (get_or xs i d)) h
    ∙ append_assoc before (lines (take i ys)) (line (get_or xs i d))
    ∙ ap (λ zs. before ++ (lines (take i zs) ++ line (get_or xs i d))) (sym e)
    ∙ ap (λ bs. before ++ bs) (sym (push (take i xs) (get_or xs i d)) ∙ ap lines (sym (take_more xs i d lt)))
    ∙ ap (λ zs. before ++ lines (take (i + 1) zs)) e

-- the whole text
pub whole : (p : Parts) (v : Version) (a b c d : List ℕ) → a ≡ first_line v → b ≡ a ++ sentence_lines p p.sentences → c ≡ b ++ query_lines p p.queries → d ≡ c ++ codes "end;\n"
    → d ≡ text_in v (items_from p)
whole p v a b c d e f g h =
    let ss = sentence_lines p p.sentences in
    let qs = query_lines p p.queries in
    let first = first_line v in
    h ∙ ap (λ bs. bs ++ codes "end;\n") (g ∙ ap (λ bs. bs ++ qs) (f ∙ ap (λ bs. bs ++ ss) e))
    ∙ append_assoc (first ++ ss) qs (codes "end;\n")
    ∙ append_assoc first ss (qs ++ codes "end;\n")
    ∙ ap (λ bs. first ++ bs) (sym (append_assoc ss qs (codes "end;\n")) ∙ ap (λ bs. bs ++ codes "end;\n") (sym (all-lines p p.sentences p.queries)))

-- all lines have been written
pub lines-all : {X : Type 0} (lines : List X → List ℕ) (xs ys : List X) → xs ≡ ys → (i : ℕ) → length xs ≤ i → (before out : List ℕ)
    → out ≡ before ++ lines (take i ys) → out ≡ before ++ lines ys
lines-all lines xs ys e i le before out h = h ∙ ap (λ zs. before ++ lines zs) (take_all i ys (subst (λ zs. length zs ≤ i) e le))
