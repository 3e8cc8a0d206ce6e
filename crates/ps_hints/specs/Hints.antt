-- Which hint is for which refusal.
use Rattle.std.specs.Prelude.{◌≡◌, ◌⊎◌}
use Rattle.ps_text.specs.declared.kind.What.TheVariants as what
use Rattle.ps_text.specs.declared.kind.ReadKind.{ReadKind}
use Rattle.ps_text.specs.declared.kind.ReadKind.TheVariants as kind
use Rattle.ps_hints.specs.declared.hint.Hint.{Hint}
use Rattle.ps_hints.specs.declared.hint.Hint.TheVariants as hint

-- a part of an interval is expected
abbrev pub IsInInterval : ReadKind → Type 0
IsInInterval k = (k ≡ kind.Expected what.Bracket) ⊎ (k ≡ kind.Expected what.Comma) ⊎ (k ≡ kind.Expected what.BracketEnd)

-- what stands behind a number is expected, or a part of an interval
abbrev pub IsAtNumber : ReadKind → Type 0
IsAtNumber k = IsInInterval k ⊎ (k ≡ kind.Expected what.Semicolon)

-- the head of a text is expected
abbrev pub IsAtHead : ReadKind → Type 0
IsAtHead k = (k ≡ kind.Expected what.Psat) ⊎ (k ≡ kind.Expected what.Version)

-- the front of a sentence or of a query is expected
abbrev pub IsAtItem : ReadKind → Type 0
IsAtItem k = (k ≡ kind.Expected what.Item) ⊎ (k ≡ kind.Expected what.Item2) ⊎ (k ≡ kind.Expected what.Term)
    ⊎ (k ≡ kind.Expected what.Prob)

-- a sign stands where none is expected; in version 1 `+` and `-` are no signs
abbrev pub IsAtSign : ReadKind → Type 0
IsAtSign k = (k ≡ kind.BadByte) ⊎ (k ≡ kind.Expected what.Operator) ⊎ (k ≡ kind.Expected what.Formula)
    ⊎ (k ≡ kind.Expected what.Relation) ⊎ (k ≡ kind.Expected what.Number) ⊎ (k ≡ kind.Expected what.Semicolon)

-- the hint says what to do about a refusal of the kind
abbrev pub IsHintFor : Hint → ReadKind → Type 0
IsHintFor hint.Empty k = k ≡ kind.EndMissing
IsHintFor hint.ByteOrderMark k = k ≡ kind.BadByte
IsHintFor hint.Begin k = IsAtHead k ⊎ (k ≡ kind.VersionUnknown)
IsHintFor hint.End k = (k ≡ kind.EndMissing) ⊎ (k ≡ kind.BadByte)
IsHintFor hint.BehindEnd k = k ≡ kind.MoreAfterEnd
IsHintFor hint.Percent k = (k ≡ kind.BadByte) ⊎ (k ≡ kind.NumberOutOfRange)
IsHintFor hint.PointFirst k = k ≡ kind.BadByte
IsHintFor hint.PointLast k = k ≡ kind.BadByte
IsHintFor hint.DecimalComma k = IsAtNumber k ⊎ (k ≡ kind.NumberOutOfRange)
IsHintFor hint.Exponent k = IsAtNumber k
IsHintFor hint.BlankFraction k = k ≡ kind.BadByte
IsHintFor hint.Negative k = IsAtSign k
IsHintFor hint.AboveOne k = k ≡ kind.NumberOutOfRange
IsHintFor hint.Frequency k = (k ≡ kind.NumberOutOfRange) ⊎ (k ≡ kind.Expected what.Semicolon)
IsHintFor hint.Arithmetic k = IsAtSign k
IsHintFor hint.Grouped k = IsAtNumber k ⊎ (k ≡ kind.BadByte)
IsHintFor hint.Margin k = IsAtSign k
IsHintFor hint.Round k = (k ≡ kind.DenominatorTooLarge) ⊎ (k ≡ kind.TooManyDecimals)
IsHintFor hint.Number k = k ≡ kind.Expected what.Number
IsHintFor hint.Interval k = IsInInterval k ⊎ IsAtSign k
IsHintFor hint.Between k = IsAtItem k ⊎ (k ≡ kind.Expected what.Semicolon)
IsHintFor hint.Equals k = k ≡ kind.BadByte
IsHintFor hint.AtMostSign k = k ≡ kind.BadByte
IsHintFor hint.AtLeastSign k = k ≡ kind.BadByte
IsHintFor (hint.Sum v) k = IsAtItem k ⊎ IsAtSign k
IsHintFor (hint.Compare v) k = k ≡ kind.Expected what.Number
IsHintFor (hint.CompareTimes v) k = (k ≡ kind.NumberOutOfRange) ⊎ (k ≡ kind.BadByte) ⊎ (k ≡ kind.Expected what.Semicolon)
IsHintFor (hint.LeftSide v) k = IsAtSign k
IsHintFor hint.Times k = k ≡ kind.BadByte
IsHintFor hint.Product k = k ≡ kind.BadByte
IsHintFor hint.Quotient k = k ≡ kind.BadByte
IsHintFor (hint.GivenInSum v) k = IsAtSign k
IsHintFor hint.QuerySum k = IsAtItem k ⊎ IsAtSign k
IsHintFor hint.NumberAlone k = IsAtItem k
IsHintFor hint.OneSign k = IsAtItem k
IsHintFor hint.Term k = IsAtItem k
IsHintFor hint.Divide k = k ≡ kind.NumberOutOfRange
IsHintFor hint.QueryValue k = k ≡ kind.Expected what.Semicolon
IsHintFor hint.Ask k = k ≡ kind.BadByte
IsHintFor hint.AtMost k = k ≡ kind.BadByte
IsHintFor hint.AtLeast k = k ≡ kind.BadByte
IsHintFor hint.OneEquals k = k ≡ kind.Expected what.Number
IsHintFor hint.Relation k = k ≡ kind.Expected what.Relation
IsHintFor hint.Outside k = k ≡ kind.Expected what.Relation
IsHintFor hint.Not k = (k ≡ kind.BadByte) ⊎ (k ≡ kind.Expected what.Operator)
IsHintFor hint.And k = (k ≡ kind.BadByte) ⊎ (k ≡ kind.Expected what.Operator)
IsHintFor hint.OneAnd k = k ≡ kind.Expected what.Formula
IsHintFor hint.Or k = IsAtSign k
IsHintFor hint.OneOr k = k ≡ kind.Expected what.Formula
IsHintFor hint.Implies k = IsAtSign k
IsHintFor hint.Xor k = (k ≡ kind.BadByte) ⊎ (k ≡ kind.Expected what.Operator)
IsHintFor hint.Equated k = k ≡ kind.Expected what.Operator
IsHintFor hint.Iff k = (k ≡ kind.BadByte) ⊎ (k ≡ kind.Expected what.Operator)
IsHintFor hint.Backwards k = k ≡ kind.BadByte
IsHintFor hint.OneGiven k = k ≡ kind.Expected what.Operator
IsHintFor hint.GivenMeant k = (k ≡ kind.BadByte) ⊎ (k ≡ kind.Expected what.Operator)
IsHintFor hint.QueryMeant k = IsAtItem k
IsHintFor hint.EndMeant k = IsAtItem k
IsHintFor hint.Unclosed k = k ≡ kind.Expected what.Operator
IsHintFor hint.Unopened k = (k ≡ kind.Expected what.Relation) ⊎ (k ≡ kind.Expected what.Semicolon)
IsHintFor hint.Joined k = k ≡ kind.Expected what.Operator
IsHintFor hint.Operand k = k ≡ kind.Expected what.Formula
IsHintFor hint.Reserved k = k ≡ kind.Expected what.Formula
IsHintFor hint.DigitFirst k = (k ≡ kind.BadByte) ⊎ (k ≡ kind.Expected what.Formula)
IsHintFor hint.Truth k = k ≡ kind.Expected what.Formula
IsHintFor hint.Hyphen k = IsAtSign k
IsHintFor hint.Letters k = k ≡ kind.BadByte
IsHintFor hint.Blank k = k ≡ kind.BadByte
IsHintFor hint.Unseen k = k ≡ kind.BadByte
IsHintFor hint.FullWidth k = k ≡ kind.BadByte
IsHintFor hint.GreekQuestion k = k ≡ kind.BadByte
IsHintFor hint.Wide k = (k ≡ kind.BadByte) ⊎ IsAtHead k
IsHintFor hint.LoneReturn k = k ≡ kind.EndMissing
IsHintFor hint.Quote k = k ≡ kind.BadByte
IsHintFor hint.Short k = k ≡ kind.NameTooLong
IsHintFor hint.Comment k = IsAtSign k ⊎ IsAtItem k
IsHintFor hint.Probability k = IsAtItem k ⊎ (k ≡ kind.Expected what.Paren)
IsHintFor hint.SmallLetters k = IsAtHead k ⊎ IsAtItem k ⊎ (k ≡ kind.Expected what.Operator)
IsHintFor hint.Item k = IsAtItem k
IsHintFor hint.OneSemicolon k = IsAtItem k
IsHintFor hint.Semicolon k = (k ≡ kind.Expected what.Semicolon) ⊎ (k ≡ kind.BadByte)
IsHintFor hint.Nesting k = k ≡ kind.TooDeep
IsHintFor hint.Atoms k = k ≡ kind.TooManyAtoms
IsHintFor hint.Formulas k = k ≡ kind.TooManyNodes
IsHintFor hint.Bounds k = k ≡ kind.TooManyBounds
IsHintFor hint.Queries k = k ≡ kind.TooManyQueries
IsHintFor hint.Terms k = k ≡ kind.TooManyTerms
IsHintFor hint.Large k = k ≡ kind.LinearTooLarge

-- a count is refused, and no token
abbrev pub IsCount : ReadKind → Type 0
IsCount k = (k ≡ kind.TooManyAtoms) ⊎ (k ≡ kind.TooManyNodes) ⊎ (k ≡ kind.TooManyBounds)
    ⊎ (k ≡ kind.TooManyQueries) ⊎ (k ≡ kind.LinearTooLarge)
