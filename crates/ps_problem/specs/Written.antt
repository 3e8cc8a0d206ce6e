-- The items that a problem's parts stand for: its sentences as statements, and then its queries as questions.
use Rattle.std.specs.Prelude.{ℕ, ℤ, List, [], ◌∷◌, map, option_map}
use Rattle.ps_meaning.specs.Formula.{Formula, with_atoms}
use Rattle.ps_meaning.specs.Statements.{Name, Ratio, SignedRatio, Summand, PlainStatement, LinearStatement, Statement}
use Rattle.ps_meaning.specs.Statements.{Plain, Linear, Question, Item}
use Rattle.ps_text.specs.Canonical.{listed}
use Rattle.ps_problem.specs.declared.bound.Bound.{Bound}
use Rattle.ps_problem.specs.declared.sentence.Linear.{Linear as LinearSentence}
use Rattle.ps_problem.specs.declared.sentence.Sentence.{Sentence}
use Rattle.ps_problem.specs.declared.sentence.Sentence.TheVariants as sentence
use Rattle.ps_problem.specs.Scales.{lowest}
use Rattle.ps_problem.specs.declared.query.Query.{Query}
use Rattle.ps_problem.specs.Problems.{Parts, tree_at, name_at}

-- a node's formula, each number replaced by its name
abbrev pub named_at : Parts → ℕ → Formula Name
named_at p i = with_atoms (name_at p.names) (tree_at p.nodes i)

-- the value of a bound
abbrev pub ratio_at : Bound → Ratio
ratio_at b = record { num = b.num; den = b.den }

-- the summands that a linear sentence's terms stand for
abbrev pub summands_from : Parts → ℕ → List (ℕ × ℤ) → List Summand
summands_from p m [] = []
summands_from p m (t ∷ ts) = record { coefficient = lowest m t.1; formula = named_at p t.0 } ∷ summands_from p m ts

-- the statement that a linear sentence stands for: its whole numbers over its scale
abbrev pub sum_from : Parts → LinearSentence → LinearStatement
sum_from p l = record {
  terms = summands_from p l.scale l.terms;
  side = l.side;
  value = lowest l.scale l.right;
  upper = option_map (lowest l.scale) l.upper;
}

-- the statement that a sentence stands for
abbrev pub statement_from : Parts → Sentence → Statement
statement_from p (sentence.Plain first second) = Plain (record {
  formula = named_at p first.formula;
  given = option_map (named_at p) first.given;
  side = first.side;
  value = ratio_at first;
  upper = option_map ratio_at second;
})
statement_from p (sentence.Linear l) = Linear (sum_from p l)

-- the question that a query stands for
abbrev pub question_from : Parts → Query → Question
question_from p q = record { formula = named_at p q.formula; given = option_map (named_at p) q.given }

-- the items that a problem stands for
abbrev pub items_from : Parts → List Item
items_from p = listed (map (statement_from p) p.sentences) (map (question_from p) p.queries)
