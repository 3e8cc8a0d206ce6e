-- The lines of a problem's canonical text.
use Rattle.std.specs.Prelude.{◌≡◌, ℕ, List, [], ◌∷◌, ◌++◌, codes, Option, option_map}
use Rattle.ps_meaning.specs.Statements.{Item, Stated, Asked}
use Rattle.ps_text.specs.Tokens.{numeral_spelling}
use Rattle.ps_text.specs.Grammar.{version_digits}
use Rattle.ps_text.specs.Canonical.{canonical_formula, canonical_given, canonical_numeral, canonical_relation}
use Rattle.ps_text.specs.Canonical.{canonical_prob, canonical_item, canonical_items, syntax_text, given_text}
use Rattle.ps_text.specs.Canonical.{prob_text, relation_text, item_text, items_text}
use Rattle.ps_problem.specs.declared.bound.Bound.{Bound}
use Rattle.ps_problem.specs.declared.sentence.Sentence.{Sentence}
use Rattle.ps_problem.specs.declared.sentence.Sentence.TheVariants as sentence
use Rattle.ps_problem.specs.declared.query.Query.{Query}
use Rattle.ps_problem.specs.Problems.{Parts}
use Rattle.ps_problem.specs.Written.{named_at, ratio_at, statement_from, question_from}
use Rattle.ps_text.specs.declared.version.Version.{Version}
use Rattle.ps_text.specs.declared.version.Version.TheVariants.{One, Two}
use Rattle.ps_canonical.specs.Terms.{left_text, rights_text}

-- the version of sentences' text: 2 where one is linear, and else 1
abbrev pub version_from : List Sentence → Version
version_from [] = One
version_from (sentence.Plain first second ∷ ss) = version_from ss
version_from (sentence.Linear l ∷ ss) = Two

-- the first line of a text of a version
abbrev pub first_line : Version → List ℕ
first_line v = codes "psat " ++ (version_digits v ++ codes ";\n")

-- the text stands behind what was written before
abbrev pub Adds : (old new text : List ℕ) → Type 0
Adds old new text = new ≡ old ++ text

-- the text of a formula by number
abbrev pub formula_text : Parts → ℕ → List ℕ
formula_text p i = syntax_text (canonical_formula (named_at p i))

-- a condition's text, by number
abbrev pub condition_text : Parts → Option ℕ → List ℕ
condition_text p g = given_text (canonical_given (option_map (named_at p) g))

-- a probability's text, by numbers
abbrev pub probability_text : Parts → ℕ → Option ℕ → List ℕ
probability_text p f g = prob_text (canonical_prob (named_at p f) (option_map (named_at p) g))

-- the text of a bound's value: a whole number where the denominator is 1, else a quotient
abbrev pub value_text : Bound → List ℕ
value_text b = numeral_spelling (canonical_numeral (ratio_at b))

-- the text of how a sentence bounds its probability
abbrev pub bounds_text : Bound → Option Bound → List ℕ
bounds_text first second = relation_text (canonical_relation first.side (ratio_at first) (option_map ratio_at second))

-- a sentence: its probability or its terms, and how they are bounded
abbrev pub statement_text : Parts → Sentence → List ℕ
statement_text p (sentence.Plain first second) = probability_text p first.formula first.given ++ bounds_text first second
statement_text p (sentence.Linear l) = left_text p l ++ rights_text l

-- the line of a sentence
abbrev pub sentence_line : Parts → Sentence → List ℕ
sentence_line p s = item_text (canonical_item (Stated (statement_from p s)))

-- the line of a query
abbrev pub query_line : Parts → Query → List ℕ
query_line p q = item_text (canonical_item (Asked (question_from p q)))

-- the lines of sentences
abbrev pub sentence_lines : Parts → List Sentence → List ℕ
sentence_lines p [] = []
sentence_lines p (s ∷ ss) = sentence_line p s ++ sentence_lines p ss

-- the lines of queries
abbrev pub query_lines : Parts → List Query → List ℕ
query_lines p [] = []
query_lines p (q ∷ qs) = query_line p q ++ query_lines p qs

-- the lines of a problem's sentences
abbrev pub sentences_text : Parts → List ℕ
sentences_text p = sentence_lines p p.sentences

-- the lines of a problem's queries
abbrev pub queries_text : Parts → List ℕ
queries_text p = query_lines p p.queries

-- the text of items behind the first line of a version
abbrev pub text_in : Version → List Item → List ℕ
text_in v items = first_line v ++ (items_text (canonical_items items) ++ codes "end;\n")

-- the canonical text of items with `psat 2;` as its first line, whatever they are
abbrev pub upgraded_text : List Item → List ℕ
upgraded_text items = text_in Two items
