-- What waits, what of an item was read, and the machine, as a parser keeps them.
use Rattle.std.specs.Prelude.{◌≡◌, Bool, List, Option}
use Rattle.ps_meaning.specs.Statements.{Ratio}
use Rattle.ps_text.specs.Tokens as text
use Rattle.ps_lex.specs.declared.position.Position.{Position}
use Rattle.ps_lex.specs.KeptTokens as expected
use Rattle.ps_problem.specs.declared.term.Signed.{Signed}
use Rattle.ps_problem.specs.declared.term.Term.{Term}
use Rattle.ps_problem.specs.Drafts.{Drafted}
use Rattle.ps_read.specs.declared.formula_parser.FormulaParser.{FormulaParser}
use Rattle.ps_read.specs.declared.value.Value.{Value}
use Rattle.ps_read.specs.declared.item_so_far.ItemSoFar as declared
use Rattle.ps_read.specs.declared.item_parser.ItemParser.{ItemParser}
use Rattle.ps_read.specs.declared.parser.Parser.{Parser}
use Rattle.ps_read.specs.declared.operator.Operator.{Operator}
use Rattle.ps_read.specs.Pending.{Pending, binding, reduced, waiting}
use Rattle.ps_read.specs.Machine.{ItemSoFar, Work, Machine, operand_ended, operand_taken}
use Rattle.ps_read.specs.Machine.{closed, behind_terms, terms_by, with_sentence}

-- what waits, and the draft, of a parser of formulas
abbrev pub pending_of : FormulaParser → Pending
pending_of p = record { operators = p.operators; draft = p.draft }

-- the draft of a parser of formulas
abbrev pub draft_of : FormulaParser → Drafted
draft_of p = p.draft

-- an operand ended, which was added to the draft, and each `!` before it is reduced
abbrev pub EndsOperand : (old new : FormulaParser) (added : Drafted → Drafted) → Type 0
EndsOperand old new added = pending_of new ≡ operand_ended (pending_of old) (added (draft_of old))

-- each operator that waits last and binds at least as tightly as this one was reduced
abbrev pub Reduces : Operator → (old new : FormulaParser) → Type 0
Reduces operator old new = pending_of new ≡ reduced (binding operator) (pending_of old)

-- a token was taken in the place of an operand
abbrev pub TakesOperand : text.Token → (old new : FormulaParser) → Type 0
TakesOperand t old new = pending_of new ≡ operand_taken (pending_of old) t

-- each operator that waits last and binds at least so tightly was reduced, and then one more waits
abbrev pub Connects : (level operator : Operator) (old new : FormulaParser) → Type 0
Connects level operator old new = pending_of new ≡ waiting operator (reduced (binding level) (pending_of old))

-- the fraction of a value
abbrev pub ratio_of : Value → Ratio
ratio_of v = record { num = v.num; den = v.den }

-- what of an item was read, with the terms so far
abbrev pub item_of : declared.ItemSoFar → List Term → ItemSoFar
item_of i ts = record {
  query = i.query;
  conditional = i.conditional;
  formula = i.formula;
  given = i.given;
  side = i.side;
  least = i.least;
  linear = i.linear;
  minus = i.minus;
  coefficient = i.coefficient;
  terms = ts;
}

-- what waits with the draft, and the item so far, of a parser of items
abbrev pub work_of : ItemParser → Work
work_of p = record { pending = pending_of p.formulas; item = item_of p.item p.terms.items }

-- at a `)` what waits behind its `(` was reduced, or the formula ended
abbrev pub Closes : (old new : ItemParser) → Type 0
Closes old new = work_of new ≡ closed (work_of old).item (reduced 1 (work_of old).pending)

-- the left side goes on with a term behind a `-` or a `+`
abbrev pub GoesOn : Bool → (old new : ItemParser) → Type 0
GoesOn minus old new = work_of new ≡ behind_terms (work_of old) (terms_by (work_of old).item.linear (work_of old).item) minus

-- the item was stated with this value and perhaps an upper one
abbrev pub States : Signed → Option Signed → (old new : ItemParser) → Type 0
States value upper old new = work_of new ≡ with_sentence (work_of old) value upper

-- the machine that a parser is
abbrev pub machine_of : Parser → Machine
machine_of p = record { state = expected.state_of p.state; work = work_of p.items }

-- the draft of the items so far
abbrev pub drafted_in : Machine → Drafted
drafted_in m = m.work.pending.draft

-- where the items' first tokens stand
abbrev pub places_of : Parser → List Position
places_of p = p.places
