-- What is made of a problem's sentences and queries at a point of the making.
use Rattle.std.specs.Prelude.{◌≡◌, ℕ, ℤ, List, [], Err, Some, slice_get, All, length, map, take, drop, option_map}
use Rattle.ps_meaning.specs.Formula.{Formula}
use Rattle.ps_meaning.specs.declared.side.Side.{Side}
use Rattle.ps_meaning.specs.declared.side.Side.TheVariants.{AtMost}
use Rattle.ps_meaning.specs.Statements.{Name, PlainStatement, Statement, Plain, Linear}
use Rattle.ps_meaning.specs.Statements.{Question, Item, statements_of, questions_of}
use Rattle.ps_problem.specs.declared.bound.Bound.{Bound}
use Rattle.ps_problem.specs.declared.sentence.Sentence.{Sentence}
use Rattle.ps_problem.specs.declared.query.Query.{Query}
use Rattle.ps_problem.specs.declared.draft_item.DraftSentence.{DraftSentence}
use Rattle.ps_problem.specs.declared.fault.Fault.{Fault}
use Rattle.ps_problem.specs.declared.fault.Fault.TheVariants as fault
use Rattle.ps_problem.specs.declared.assembly.Assembly.{Assembly}
use Rattle.ps_problem.specs.declared.draft_item.DraftLinear.{DraftLinear}
use Rattle.ps_problem.specs.declared.sentence.Linear.{Linear as LinearSentence}
use Rattle.ps_problem.specs.declared.sentence.Sentence.TheVariants as sentence
use Rattle.ps_problem.specs.declared.row.Row.{Row}
use Rattle.ps_problem.specs.Rows.{rows_in}
use Rattle.ps_problem.specs.Scales.{scaled, fraction_of}
use Rattle.ps_problem.specs.Numbering.{sentence_in, query_in}
use Rattle.ps_problem.specs.Counts.{with_statements, with_questions, after, counted}
use Rattle.ps_problem.specs.declared.draft_item.DraftItem.{DraftItem}
use Rattle.ps_problem.specs.DraftLists.{item_of, IsDraftItem}
use Rattle.ps_problem.specs.Drafts.{Drafted}
use Rattle.ps_problem.specs.Numbered.{Built, HasQuestion, HasSummand}

-- a fault at an item is the first excess of items, or that memory ran out
abbrev pub IsExcess : List Item → ℕ → Fault → Type 0
IsExcess items item (fault.TooMany e) = counted items ≡ Err (record { excess = e; item = item })
IsExcess items item fault.NoMemory = Unit {0}

-- the bound on a query's formula
abbrev pub bound_on : Query → Side → ℕ → ℕ → Bound
bound_on q on num den = record { formula = q.formula; given = q.given; both = q.both; side = on; num = num; den = den }

-- the sentence on a query's formula
abbrev pub sentence_on : Query → DraftSentence → Sentence
sentence_on q s = sentence.Plain (bound_on q s.side s.num s.den) (option_map (λ u. bound_on q AtMost u.0 u.1) s.upper)

-- the sentence of a linear item over nodes by number, in whole numbers of a scale
abbrev pub linear_on : List (ℕ × ℤ) → ℕ → DraftLinear → LinearSentence
linear_on ts m l = record {
  terms = ts;
  scale = m;
  side = l.side;
  right = scaled m (fraction_of l.right);
  upper = option_map (λ u. scaled m (fraction_of u)) l.upper;
}

-- the question on a statement's formula
abbrev pub question_on : PlainStatement → Question
question_on s = record { formula = s.formula; given = s.given }

-- the formulas of a statement are among some
abbrev pub HasStatement : List (Formula Name) → Statement → Type 0
HasStatement fs (Plain s) = HasQuestion fs (question_on s)
HasStatement fs (Linear s) = All (HasSummand fs) s.terms

-- the sentences and queries of statements and questions, over formulas among which all of theirs are
pub record HasItems (fs : List (Formula Name)) (stated : List Statement) (asked : List Question)
    (sentences : List Sentence) (rows : List Row) (queries : List Query) : Type 0 where
  pub stated_there : All (HasStatement fs) stated
  pub asked_there : All (HasQuestion fs) asked
  pub sentences_are : sentences ≡ map (sentence_in fs) stated
  pub rows_are : rows ≡ rows_in sentences
  pub queries_are : queries ≡ map (query_in fs) asked

-- the item of a number is this one
pub record IsItemAt (d : Drafted) (i : ℕ) (item : DraftItem) : Type 0 where
  pub here : slice_get d.items i ≡ Some (item_of d.formulas item)
  pub sound : IsDraftItem (length d.formulas) item

-- the sentences of so many items of a draft are made; what is left gives what all give
pub record SentencesMade (d : Drafted) (i : ℕ) (a : Assembly) : Type 0 where
  pub built : Built d.names a.building.atoms a.building.formulas
  pub holds : HasItems built.formulas (statements_of (take i d.items)) [] a.sentences a.rows a.queries
  pub rest : after (with_statements i (length a.rows) built.formulas (drop i d.items)) (λ fs.
      with_questions 0 0 fs d.items) ≡ counted d.items

-- all sentences of a draft are made, and the queries of so many items; what is left gives what all give
pub record QueriesMade (d : Drafted) (i : ℕ) (a : Assembly) : Type 0 where
  pub built : Built d.names a.building.atoms a.building.formulas
  pub holds : HasItems built.formulas (statements_of d.items) (questions_of (take i d.items)) a.sentences a.rows a.queries
  pub rest : with_questions i (length a.queries) built.formulas (drop i d.items) ≡ counted d.items
