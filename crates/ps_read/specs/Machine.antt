-- The machine over tokens: what a token that isn't refused does to a draft.
use Rattle.std.specs.Prelude.{ℕ, ℤ, pos, unsigned_abs, ◌/◌, Bool, true, false, if◌then◌else◌, bytes_eq, codes}
use Rattle.std.specs.Prelude.{List, [], ◌∷◌, ◌++◌, Option, Some, None, option_map, length}
use Rattle.ps_meaning.specs.Formula as formula
use Rattle.ps_meaning.specs.Statements.{Name, Ratio, Item, Stated, Plain, Linear, Asked}
use Rattle.ps_meaning.specs.declared.side.Side.{Side}
use Rattle.ps_meaning.specs.declared.side.Side.TheVariants as side
use Rattle.ps_meaning.specs.Gcd.{gcd}
use Rattle.ps_text.specs.Tokens.{Token, Word, Number, Sign}
use Rattle.ps_text.specs.declared.symbol.Symbol.TheVariants.{Close, Bang, Ampersand, Bar, Arrow, DoubleArrow}
use Rattle.ps_text.specs.declared.symbol.Symbol.TheVariants.{Equals, LessEquals, Plus, Minus}
use Rattle.ps_text.specs.Meanings.{ratio_of, with_sign}
use Rattle.ps_text.specs.ExpectedTokens.{State, at_start, after}
use Rattle.ps_text.specs.declared.part.Part.{Part}
use Rattle.ps_text.specs.declared.part.Part.TheVariants as part
use Rattle.ps_text.specs.PartialParses.{number_in}
use Rattle.ps_problem.specs.declared.mark.Mark.TheVariants as mark
use Rattle.ps_problem.specs.declared.term.Signed.{Signed}
use Rattle.ps_problem.specs.declared.term.Term.{Term}
use Rattle.ps_problem.specs.Numbering.{same_name, with_new}
use Rattle.ps_problem.specs.Drafts.{Drafted, with_mark, with_formula, with_item, statement_at, sum_at, question_at}
use Rattle.ps_read.specs.declared.operator.Operator.{Operator}
use Rattle.ps_read.specs.declared.operator.Operator.TheVariants as operator
use Rattle.ps_read.specs.Pending.{Pending, waiting, reduced}

-- what of an item was read: whether it is a query, whether `given` stood, the numbers of its formula and of its condition, how it
-- is bounded, an interval's least value, whether it is linear, whether a `-` stands before what is next, and in a linear sentence
-- the last term's coefficient and the terms before it
pub record ItemSoFar : Type 0 where
  pub query : Bool
  pub conditional : Bool
  pub formula : ℕ
  pub given : Option ℕ
  pub side : Side
  pub least : Signed
  pub linear : Bool
  pub minus : Bool
  pub coefficient : Signed
  pub terms : List Term

-- what waits with the draft, and the item so far
pub record Work : Type 0 where
  pub pending : Pending
  pub item : ItemSoFar

-- what is expected, and the work
pub record Machine : Type 0 where
  pub state : State
  pub work : Work

-- 1, the coefficient of a term that spells none
abbrev pub unit : Ratio
unit = record { num = 1; den = 1 }

-- a fraction behind a `-` or none
abbrev pub signed : Bool → Ratio → Signed
signed minus r = record { num = with_sign minus r.num; den = r.den }

-- the size of a fraction that may be below 0
abbrev pub size : Signed → Ratio
size s = record { num = unsigned_abs s.num; den = s.den }

-- before the first item
abbrev pub none_yet : ItemSoFar
none_yet = record {
  query = false;
  conditional = false;
  formula = 0;
  given = None;
  side = side.Exactly;
  least = signed false unit;
  linear = false;
  minus = false;
  coefficient = signed false unit;
  terms = [];
}

-- before the first token
abbrev pub at_first : Machine
at_first = record {
  state = at_start;
  work = record {
    pending = record { operators = []; draft = record { names = []; «open» = []; formulas = []; items = [] } };
    item = none_yet;
  };
}

-- a fraction in lowest terms
abbrev pub lowest : Ratio → Ratio
lowest r = record { num = r.num / gcd r.num r.den; den = r.den / gcd r.num r.den }

-- the value of a token that is a number
abbrev pub value_in : Token → Ratio
value_in t = lowest (ratio_of (number_in t))

-- the work with another draft
abbrev pub with_draft : Work → Drafted → Work
with_draft w d = record w { pending = record w.pending { draft = d } }

-- the work with other operators that wait, and their draft
abbrev pub with_pending : Work → Pending → Work
with_pending w p = record w { pending = p }

-- an atom stands open last
abbrev pub with_atom : Drafted → Name → Drafted
with_atom d name = record d { names = with_new same_name d.names name; «open» = d.«open» ++ formula.Atom name ∷ [] }

-- a truth value stands open last
abbrev pub with_constant : Drafted → Bool → Drafted
with_constant d true = with_mark d mark.True
with_constant d false = with_mark d mark.False

-- the formula of a word stands open last
abbrev pub with_word : Drafted → List ℕ → Drafted
with_word d w = if bytes_eq w (codes "true") then with_constant d true
    else (if bytes_eq w (codes "false") then with_constant d false else with_atom d w)

-- behind an operand each `!` before it is marked
abbrev pub operand_ended : Pending → Drafted → Pending
operand_ended p d = reduced 5 (record { operators = p.operators; draft = d })

-- in the place of an operand
abbrev pub operand_taken : Pending → Token → Pending
operand_taken p (Sign Bang) = waiting operator.Not p
operand_taken p (Sign s) = waiting operator.Group p
operand_taken p (Word w) = operand_ended p (with_word p.draft w)
operand_taken p t = operand_ended p (with_mark p.draft mark.True)

-- the number of a formula that ended is that of the item's formula, or behind `given` that of its condition
abbrev pub numbered_as : Bool → ItemSoFar → ℕ → ItemSoFar
numbered_as false i n = record i { formula = n; given = None }
numbered_as true i n = record i { given = Some n }

-- the number of a formula that ended, in the item so far
abbrev pub numbered : ItemSoFar → ℕ → ItemSoFar
numbered i n = numbered_as i.conditional i n

-- a query begins, or a sentence
abbrev pub with_query : Work → Bool → Work
with_query w q = record w { item = record w.item { query = q } }

-- a linear sentence goes on behind these terms, and a `-` or none
abbrev pub behind_terms : Work → List Term → Bool → Work
behind_terms w ts m = record w { item = record w.item { query = false; linear = true; terms = ts; minus = m } }

-- the last term of a linear sentence has this coefficient
abbrev pub with_coefficient : Work → Signed → Work
with_coefficient w k = record w { item = record w.item { coefficient = k } }

-- a sentence begins that isn't linear so far, or a query, or the text ends
abbrev pub plain_begun : Work → Work
plain_begun w = record w { item = record w.item { query = false; linear = false } }

-- an item begins, a linear one where its first token is a number or a `-`
abbrev pub item_begun : Work → Token → Work
item_begun w (Word u) = plain_begun w
item_begun w (Number x) = with_coefficient (behind_terms w [] false) (signed false (value_in (Number x)))
item_begun w (Sign s) = behind_terms w [] true

-- at a coefficient, or the `P` of a term without one
abbrev pub term_taken : Work → Token → Work
term_taken w (Number x) = with_coefficient w (signed w.item.minus (value_in (Number x)))
term_taken w t = with_coefficient w (signed w.item.minus unit)

-- the last term of a linear sentence
abbrev pub last_term : ItemSoFar → Term
last_term i = record { formula = i.formula; coefficient = i.coefficient }

-- a probability alone, as a term
abbrev pub only_term : ItemSoFar → Term
only_term i = record { formula = i.formula; coefficient = signed false unit }

-- the terms of an item by whether it is linear: a probability alone is one whose coefficient is 1
abbrev pub terms_by : Bool → ItemSoFar → List Term
terms_by false i = only_term i ∷ []
terms_by true i = i.terms ++ last_term i ∷ []

-- a `-` stands before the next number, or none
abbrev pub with_minus : Work → Bool → Work
with_minus w m = record w { item = record w.item { minus = m } }

-- whether `given` stood in the probability
abbrev pub with_conditional : Work → Bool → Work
with_conditional w c = record w { item = record w.item { conditional = c } }

-- the open formula ends
abbrev pub formula_ended : Work → Work
formula_ended w = record {
  pending = record { operators = []; draft = with_formula w.pending.draft };
  item = numbered w.item (length w.pending.draft.formulas);
}

-- the item's probability is asked
abbrev pub asked : Work → Work
asked w = with_draft w (with_item w.pending.draft (Asked (question_at w.pending.draft.formulas w.item.formula w.item.given)))

-- a probability ends; that of a query is asked
abbrev pub probability_ended : Bool → Work → Work
probability_ended true w = asked (formula_ended w)
probability_ended false w = formula_ended w

-- at a `)`, by the operators that still wait: the `(` that waits last ends, or the probability where none waits
abbrev pub closed_behind : ItemSoFar → List Operator → Drafted → Work
closed_behind i [] d = probability_ended i.query (record { pending = record { operators = []; draft = d }; item = i })
closed_behind i (o ∷ os) d = record { pending = reduced 5 (record { operators = os; draft = d }); item = i }

-- at a `)`, where all is reduced that waits behind its `(`
abbrev pub closed : ItemSoFar → Pending → Work
closed i p = closed_behind i p.operators p.draft

-- at a `given`
abbrev pub given_taken : Work → Work
given_taken w = with_conditional (formula_ended (with_pending w (reduced 1 w.pending))) true

-- behind an operand
abbrev pub operator_taken : Work → Token → Work
operator_taken w (Sign Close) = closed w.item (reduced 1 w.pending)
operator_taken w (Sign Ampersand) = with_pending w (waiting operator.And (reduced 4 w.pending))
operator_taken w (Sign Bar) = with_pending w (waiting operator.Or (reduced 3 w.pending))
operator_taken w (Sign Arrow) = with_pending w (waiting operator.Implies (reduced 3 w.pending))
operator_taken w (Sign DoubleArrow) = with_pending w (waiting operator.Iff (reduced 1 w.pending))
operator_taken w t = given_taken w

-- the side of a relation; an interval is at least its least value
abbrev pub side_in : Token → Side
side_in (Sign Equals) = side.Exactly
side_in (Sign LessEquals) = side.AtMost
side_in t = side.AtLeast

-- the item so far is bounded on this side
abbrev pub with_side : Work → Side → Work
with_side w s = record w { item = record w.item { side = s; minus = false } }

-- behind a sign before a term, or what begins a relation
abbrev pub relation_taken : Work → Token → Work
relation_taken w (Sign Plus) = behind_terms w (terms_by w.item.linear w.item) false
relation_taken w (Sign Minus) = behind_terms w (terms_by w.item.linear w.item) true
relation_taken w t = with_side w (side_in t)

-- the least value of an interval
abbrev pub with_least : Work → Signed → Work
with_least w r = record w { item = record w.item { least = r; minus = false } }

-- the item so far is stated with these values, as a linear sentence or not
abbrev pub stated_by : Bool → List (formula.Formula Name) → ItemSoFar → Signed → Option Signed → Item
stated_by false fs i r upper = Stated (Plain (statement_at fs i.formula i.given i.side (size r) (option_map size upper)))
stated_by true fs i r upper = Stated (Linear (sum_at fs (terms_by true i) i.side r upper))

-- the item so far is stated with these values
abbrev pub stated : List (formula.Formula Name) → ItemSoFar → Signed → Option Signed → Item
stated fs i r upper = stated_by i.linear fs i r upper

-- the item so far is in the draft, as a statement with these values; of a linear one all terms are behind it
abbrev pub with_sentence : Work → Signed → Option Signed → Work
with_sentence w r upper = record {
  pending = record w.pending { draft = with_item w.pending.draft (stated w.pending.draft.formulas w.item r upper) };
  item = if w.item.linear then record w.item { terms = terms_by true w.item } else w.item;
}

-- at the number of a relation, or a `-` before it
abbrev pub number_taken : Work → Token → Work
number_taken w (Number x) = with_sentence w (signed w.item.minus (value_in (Number x))) None
number_taken w t = with_minus w true

-- at the least number of an interval, or a `-` before it
abbrev pub least_taken : Work → Token → Work
least_taken w (Number x) = with_least w (signed w.item.minus (value_in (Number x)))
least_taken w t = with_minus w true

-- at the greatest number of an interval, or a `-` before it
abbrev pub most_taken : Work → Token → Work
most_taken w (Number x) = with_sentence w w.item.least (Some (signed w.item.minus (value_in (Number x))))
most_taken w t = with_minus w true

-- what a token does, by the part where it stands; the others change only what is expected
abbrev pub taken_at : Part → Work → Token → Work
taken_at part.Item w t = item_begun w t
taken_at part.Term w t = term_taken w t
taken_at part.QueryProb w t = with_query w true
taken_at part.Paren w t = with_conditional w false
taken_at part.Operand w t = with_pending w (operand_taken w.pending t)
taken_at part.Operator w t = operator_taken w t
taken_at part.Relation w t = relation_taken w t
taken_at part.Number w t = number_taken w t
taken_at part.First w t = least_taken w t
taken_at part.Second w t = most_taken w t
taken_at p w t = w

-- what a token does in this state
abbrev pub taken : State → Work → Token → Work
taken s w t = taken_at s.part w t

-- behind a token that isn't refused
abbrev pub next : Machine → Token → Machine
next m t = record { state = after m.state t; work = taken m.state m.work t }
