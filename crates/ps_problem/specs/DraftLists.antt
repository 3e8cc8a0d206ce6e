-- The lists of which a draft is made.
use Rattle.std.specs.Prelude.{◌≡◌, ◌≤◌, ◌-◌, ℕ, List, [], ◌∷◌, length, map, option_map, take, drop, All, slice_index_or}
use Rattle.ps_meaning.specs.Formula.{Formula, Truth}
use Rattle.ps_meaning.specs.Statements.{Name, PlainStatement, LinearStatement, Plain, Linear, Item, Stated, Asked}
use Rattle.ps_meaning.specs.Names.{IsName}
use Rattle.ps_problem.specs.declared.limits.TheConstants.{MOST_DRAFTED, MOST_NESTING}
use Rattle.ps_problem.specs.declared.mark.Mark.{Mark}
use Rattle.ps_problem.specs.declared.span.Span.{Span}
use Rattle.ps_problem.specs.declared.draft_item.DraftItem.{DraftItem}
use Rattle.ps_problem.specs.declared.draft_item.DraftSentence.{DraftSentence}
use Rattle.ps_problem.specs.declared.draft_item.DraftLinear.{DraftLinear}
use Rattle.ps_text.specs.declared.limits.TheConstants.{MOST_TERMS}
use Rattle.ps_problem.specs.declared.draft_item.DraftItem.TheVariants as item
use Rattle.ps_problem.specs.Numbering.{same_name, AreOnce}
use Rattle.ps_text.specs.Canonical.{canonical_nesting, IsReduced, IsUpper, IsReducedWeight, IsSumUpper}
use Rattle.ps_problem.specs.Drafts.{Drafted, arity, marked, NameBelow, AreBelow, ratio_of, signed_of}
use Rattle.ps_problem.specs.Drafts.{statement_at, sum_at, IsDraftTerm, question_at}

-- the formulas that stand open after some marks
abbrev pub open_after : List Name → List (Formula Name) → List Mark → List (Formula Name)
open_after names fs [] = fs
open_after names fs (m ∷ ms) = open_after names (marked names fs m) ms

-- each mark finds its operands
abbrev pub HaveOperands : List Name → List (Formula Name) → List Mark → Type 0
HaveOperands names fs [] = Unit {0}
HaveOperands names fs (m ∷ ms) = (arity m ≤ length fs) × HaveOperands names (marked names fs m) ms

-- the marks spell the formula
pub record AreMarks (names : List Name) (ms : List Mark) (f : Formula Name) : Type 0 where
  pub held : HaveOperands names [] ms
  pub made : open_after names [] ms ≡ f ∷ []
  pub below : All (NameBelow (length names)) ms

-- the formula that marks spell
abbrev pub root : List Name → List Mark → Formula Name
root names ms = slice_index_or (open_after names [] ms) 0 Truth

-- the marks of a span
abbrev pub part : List Mark → Span → List Mark
part ms s = take (s.end - s.start) (drop s.start ms)

-- the formula that a span's marks spell
abbrev pub spelled : List Name → List Mark → Span → Formula Name
spelled names ms s = root names (part ms s)

-- the statement of a sentence over formulas by number
abbrev pub statement_of : List (Formula Name) → DraftSentence → PlainStatement
statement_of fs s = statement_at fs s.formula s.given s.side (ratio_of (s.num, s.den)) (option_map ratio_of s.upper)

-- the item of an item over formulas by number
abbrev pub item_of : List (Formula Name) → DraftItem → Item
item_of fs (item.Sentence s) = Stated (Plain (statement_of fs s))
item_of fs (item.Linear s) = Stated (Linear (sum_at fs s.terms s.side s.right s.upper))
item_of fs (item.Query q) = Asked (question_at fs q.formula q.given)

-- a sum has terms, and no more than may be, their formulas were given out, and its numbers are in order
pub record IsDraftSum (n : ℕ) (s : DraftLinear) : Type 0 where
  pub some : 1 ≤ length s.terms
  pub few : length s.terms ≤ MOST_TERMS
  pub terms : All (IsDraftTerm n) s.terms
  pub value : IsReducedWeight (signed_of s.right)
  pub upper : IsSumUpper s.side (option_map signed_of s.upper)

-- the numbers of an item are in range, and its values in order
abbrev pub IsDraftItem : ℕ → DraftItem → Type 0
IsDraftItem n (item.Sentence s) = AreBelow n s.formula s.given × IsReduced (ratio_of (s.num, s.den))
    × IsUpper s.side (option_map ratio_of s.upper)
IsDraftItem n (item.Linear s) = IsDraftSum n s
IsDraftItem n (item.Query q) = AreBelow n q.formula q.given

-- what the lists hold together; the marks of formulas that have ended come first
abbrev pub drafted : List Name → List Mark → ℕ → List Span → List DraftItem → Drafted
drafted names ms ended spans items = record {
  names = names;
  «open» = open_after names [] (drop ended ms);
  formulas = map (spelled names ms) spans;
  items = map (item_of (map (spelled names ms) spans)) items;
}

-- the span's marks are there and spell a formula that doesn't nest too deep
pub record IsSpan (names : List Name) (ms : List Mark) (ended : ℕ) (s : Span) : Type 0 where
  pub start : s.start ≤ s.end
  pub end : s.end ≤ ended
  pub marks : AreMarks names (part ms s) (spelled names ms s)
  pub nesting : canonical_nesting (spelled names ms s) ≤ MOST_NESTING

-- the lists are in order
pub record IsDraft (names : List Name) (ms : List Mark) (ended : ℕ) (spans : List Span) (items : List DraftItem) : Type 0 where
  pub named : All IsName names
  pub different : AreOnce same_name names
  pub below : All (NameBelow (length names)) ms
  pub within : ended ≤ length ms
  pub held : HaveOperands names [] (drop ended ms)
  pub formulas : All (IsSpan names ms ended) spans
  pub sound : All (IsDraftItem (length spans)) items
  pub few_items : length items ≤ MOST_DRAFTED
