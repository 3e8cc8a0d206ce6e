-- What a draft asks of a token that is to be taken.
use Rattle.std.specs.Prelude.{◌≡◌, ◌<◌, ℕ, Bool, true, false, List, [], Option, Some, None, option_map, bytes_eq, codes, length}
use Rattle.ps_meaning.specs.Names.{IsName}
use Rattle.ps_text.specs.Tokens as text
use Rattle.ps_text.specs.Tokens.{Word, Sign}
use Rattle.ps_text.specs.declared.symbol.Symbol.TheVariants.{Close, Ampersand, Bar, Arrow, DoubleArrow}
use Rattle.ps_text.specs.declared.part.Part.{Part}
use Rattle.ps_text.specs.declared.part.Part.TheVariants as part
use Rattle.ps_text.specs.Grammar.{IsWeight}
use Rattle.ps_text.specs.PartialParses.{number_in}
use Rattle.ps_problem.specs.declared.limits.TheConstants.{MOST_DRAFTED}
use Rattle.ps_text.specs.Canonical.{IsReduced, IsUpper}
use Rattle.ps_problem.specs.declared.term.Signed.{Signed}
use Rattle.ps_problem.specs.DraftLists.{IsDraftSum}
use Rattle.ps_problem.specs.Drafts.{AreBelow}
use Rattle.ps_read.specs.Pending.{reduced, HaveFirst, HaveAll, IsEndable}
use Rattle.ps_read.specs.Machine.{Work, signed, size, value_in, terms_by}

-- a word other than `true` and `false` is a name
abbrev pub IsOperandWord : List ℕ → Type 0
IsOperandWord w = bytes_eq w (codes "true") ≡ false → bytes_eq w (codes "false") ≡ false → IsName w

-- a token in the place of an operand, if it is a word, is an operand
abbrev pub IsOperand : text.Token → Type 0
IsOperand (Word w) = IsOperandWord w
IsOperand t = Unit {0}

-- a name, a formula and an item more can be counted
pub record HasRoom (w : Work) : Type 0 where
  pub names : length w.pending.draft.names < MOST_DRAFTED
  pub formulas : length w.pending.draft.formulas < MOST_DRAFTED
  pub items : length w.pending.draft.items < MOST_DRAFTED

-- the item's formulas are in the draft
abbrev pub HasDraftedFormulas : Work → Type 0
HasDraftedFormulas w = AreBelow (length w.pending.draft.formulas) w.item.formula w.item.given

-- all that waits is marked before a formula ends
pub record IsWhole (w : Work) : Type 0 where
  pub operators : (reduced 1 w.pending).operators ≡ []
  pub formula : IsEndable (reduced 1 w.pending).draft

-- a `)` may end the formula where no `(` is open
pub record MayClose (w : Work) : Type 0 where
  pub formula : (reduced 1 w.pending).operators ≡ [] → IsEndable (reduced 1 w.pending).draft
  pub given : w.item.conditional ≡ true → w.item.formula < length (reduced 1 w.pending).draft.formulas

-- the formula may end where the token ends it
abbrev pub MayEnd : Work → text.Token → Type 0
MayEnd w (Sign Close) = MayClose w
MayEnd w (Sign Ampersand) = Unit {0}
MayEnd w (Sign Bar) = Unit {0}
MayEnd w (Sign Arrow) = Unit {0}
MayEnd w (Sign DoubleArrow) = Unit {0}
MayEnd w t = IsWhole w

-- the item so far, linear or not, may be stated with these values
abbrev pub MayBeStatedBy : Bool → Work → Signed → Option Signed → Type 0
MayBeStatedBy false w r upper = HasDraftedFormulas w × IsReduced (size r) × IsUpper w.item.side (option_map size upper)
MayBeStatedBy true w r upper = IsDraftSum (length w.pending.draft.formulas)
    (record { terms = terms_by true w.item; side = w.item.side; right = r; upper = upper })

-- the item so far may be stated with these values
abbrev pub MayBeStated : Work → Signed → Option Signed → Type 0
MayBeStated w r upper = MayBeStatedBy w.item.linear w r upper

-- the token may be taken at this part
abbrev pub MayBeTaken : Part → Work → text.Token → Type 0
MayBeTaken part.Operand w t = HaveFirst w.pending × IsOperand t
MayBeTaken part.Operator w t = HaveAll w.pending × MayEnd w t
MayBeTaken part.Item w t = IsWeight (number_in t)
MayBeTaken part.Term w t = IsWeight (number_in t)
MayBeTaken part.Number w (text.Number x) = IsWeight x × MayBeStated w (signed w.item.minus (value_in (text.Number x))) None
MayBeTaken part.First w t = IsWeight (number_in t)
MayBeTaken part.Second w (text.Number x) =
    IsWeight x × MayBeStated w w.item.least (Some (signed w.item.minus (value_in (text.Number x))))
MayBeTaken p w t = Unit {0}
