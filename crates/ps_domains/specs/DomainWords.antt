-- Words of a text over listed constants.
use Rattle.std.specs.Prelude.{ℕ, Bool, false, not, ◌||◌, ◌&&◌, ◌==◌, nat_le, if◌then◌else◌, List, [], ◌∷◌}
use Rattle.std.specs.Prelude.{◌-◌, Option, Some, None, bytes_eq, codes}
use Rattle.std.specs.List.{list_any}
use Rattle.ps_meaning.specs.Names as before
use Rattle.ps_text.specs.Tokens.{Token, Word, Number, Whole, is_the_word}
use Rattle.ps_first_order.specs.declared.limits.TheConstants.{UNDERSCORE}

-- `forall` or `exists`
abbrev pub is_quantifier : Token → Bool
is_quantifier t = is_the_word (codes "forall") t || is_the_word (codes "exists") t

-- `const` or `pred`
abbrev pub is_declaring : Token → Bool
is_declaring t = is_the_word (codes "const") t || is_the_word (codes "pred") t

-- the words that the language keeps for itself: those of versions 1 and 2, and four more
abbrev pub is_reserved : List ℕ → Bool
is_reserved w = before.is_reserved w || bytes_eq w (codes "const") || bytes_eq w (codes "pred") || bytes_eq w (codes "forall")
    || bytes_eq w (codes "exists")

-- every other word is a name
abbrev pub is_name : Token → Bool
is_name (Word w) = not (is_reserved w)
is_name t = false

-- a `_` is among some letters
abbrev pub has_underscore : List ℕ → Bool
has_underscore w = list_any (λ b. b == UNDERSCORE) w

-- the number that is spelled `3`
abbrev pub is_three : Token → Bool
is_three (Number (Whole ds)) = bytes_eq ds (codes "3")
is_three t = false

-- the arity that digits spell: one digit, from 0 to 3
abbrev pub digit_of : List ℕ → Option ℕ
digit_of (d ∷ []) = if nat_le 48 d && nat_le d 51 then Some (d - 48) else None
digit_of ds = None

-- the arity that a token spells, if it spells one
abbrev pub arity_of : Token → Option ℕ
arity_of (Number (Whole ds)) = digit_of ds
arity_of t = None
