-- The sentences on which a bound rests, for people.
use Rattle.std.specs.Prelude.{ℕ, pos, ◌==◌, int_lt, if◌then◌else◌, Bool, true, false, List, [], ◌++◌, codes, length}
use Rattle.std.specs.Prelude.{Option, Some, None}
use Rattle.std.specs.Fmt.{signed_decimal}
use Rattle.ps_meaning.specs.Rational.{Rational, neg}
use Rattle.ps_problem.specs.Problems.{Parts}
use Rattle.ps_support.specs.declared.bound_side.BoundSide.{BoundSide}
use Rattle.ps_support.specs.declared.bound_side.BoundSide.TheVariants.{Lower, Upper}
use Rattle.ps_support.specs.declared.places.End.{End}
use Rattle.ps_support.specs.declared.places.End.TheVariants as end
use Rattle.ps_support.specs.declared.support.Support.{Support}
use Rattle.ps_support.specs.declared.support.Supporting.{Supporting}
use Rattle.ps_spoken.specs.Numbers.{fraction_text}
use Rattle.ps_spoken.specs.Sentences.{sentence_text}
use Rattle.ps_spoken.specs.Listings.{texts_of}

-- which bound it is
abbrev pub bound_name : BoundSide → List ℕ
bound_name Lower = codes "  lower bound "
bound_name Upper = codes "  upper bound "

-- the same, and its value
unfoldable pub name_text : BoundSide → Rational → List ℕ
name_text side value = bound_name side ++ fraction_text value

-- a bound on how far a bound moves
abbrev pub moved_words : Bool → List ℕ
moved_words true = codes "at least "
moved_words false = codes "at most "

unfoldable pub moved_text : Bool → Rational → List ℕ
moved_text least x = moved_words least ++ fraction_text x

-- a lower bound moves up by at least what its dual says, and down by at most that; an upper one the other way round
abbrev pub up_is_least : BoundSide → Bool
up_is_least Lower = true
up_is_least Upper = false

abbrev pub down_is_least : BoundSide → Bool
down_is_least Lower = false
down_is_least Upper = true

-- how far it moves where a number of a sentence rises by a hundredth: down, or up
unfoldable pub lowered_text : BoundSide → Rational → List ℕ
lowered_text side x = codes "1/100 more there lowers the bound by " ++ moved_text (down_is_least side) (neg x)

unfoldable pub raised_text : BoundSide → Rational → List ℕ
raised_text side x = codes "1/100 more there raises the bound by " ++ moved_text (up_is_least side) x

abbrev pub turned_text : BoundSide → Rational → List ℕ
turned_text side x = if int_lt x.over (pos 0) then lowered_text side x else raised_text side x

-- the number of an interval that it rests on
abbrev pub end_words : End → List ℕ
end_words end.Only = []
end_words end.Lower = codes "its lower end"
end_words end.Upper = codes "its upper end"

-- how it moves with the only number of a sentence
unfoldable pub alone_moved : BoundSide → Rational → List ℕ
alone_moved side x = codes " (" ++ (turned_text side x ++ codes ")")

abbrev pub alone_text : BoundSide → Option Rational → List ℕ
alone_text side (Some x) = alone_moved side x
alone_text side None = []

-- which number of an interval it rests on, and how it moves with that
unfoldable pub end_moved : BoundSide → End → Rational → List ℕ
end_moved side e x = codes " (" ++ (end_words e ++ (codes "; " ++ (turned_text side x ++ codes ")")))

unfoldable pub end_named : End → List ℕ
end_named e = codes " (" ++ (end_words e ++ codes ")")

abbrev pub end_text : BoundSide → End → Option Rational → List ℕ
end_text side e (Some x) = end_moved side e x
end_text side e None = end_named e

-- which number of a sentence it rests on, and how it moves with that
abbrev pub moves_by : BoundSide → End → Option Rational → List ℕ
moves_by side end.Only moved = alone_text side moved
moves_by side end.Lower moved = end_text side end.Lower moved
moves_by side end.Upper moved = end_text side end.Upper moved

abbrev pub moves_text : BoundSide → Supporting → List ℕ
moves_text side s = moves_by side s.end s.hundredth

-- what stands before a sentence at a place
abbrev pub on_before : ℕ → List ℕ
on_before place = if place == 0 then codes "line " else codes ",\n    and line "

-- a sentence on which it rests, with its line
unfoldable pub supporting_text : Parts → BoundSide → ℕ → Supporting → List ℕ
supporting_text p side place s = on_before place
    ++ (signed_decimal (pos s.line) ++ (codes ": " ++ (sentence_text p s.sentence ++ moves_text side s)))

-- the sentences on which it rests
abbrev pub support_items : Parts → BoundSide → List Supporting → List ℕ
support_items p side ss = texts_of (supporting_text p side) ss

unfoldable pub on_these : Parts → BoundSide → List Supporting → List ℕ
on_these p side ss = codes " rests on " ++ (support_items p side ss ++ codes "\n")

abbrev pub support_list : Parts → BoundSide → List Supporting → List ℕ
support_list p side ss = if length ss == 0 then codes " rests on no sentence\n" else on_these p side ss

-- the bound, and the sentences on which it rests
unfoldable pub support_text : Parts → BoundSide → Support → List ℕ
support_text p side s = name_text side s.value ++ support_list p side s.sentences
