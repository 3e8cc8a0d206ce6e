-- Distributions that reach bounds, for people.
use Rattle.std.specs.Prelude.{ℕ, pos, ◌-◌, ◌==◌, if◌then◌else◌, Bool, List, [], ◌++◌, codes, length, take}
use Rattle.std.specs.Fmt.{signed_decimal}
use Rattle.ps_meaning.specs.Rational.{Rational}
use Rattle.ps_problem.specs.Problems.{Parts, name_at}
use Rattle.ps_support.specs.declared.bound_side.BoundSide.{BoundSide}
use Rattle.ps_support.specs.declared.example.Example.{Example}
use Rattle.ps_support.specs.declared.example.Likely.{Likely}
use Rattle.ps_spoken.specs.declared.examples.TheConstants.{MOST_WORLDS}
use Rattle.ps_spoken.specs.Numbers.{fraction_text, is_short, low_text}
use Rattle.ps_spoken.specs.Listings.{texts_of}
use Rattle.ps_spoken.specs.Supports.{name_text}

-- a probability, as a fraction where that is short, else as a decimal
unfoldable pub about_text : ℕ → Rational → List ℕ
about_text digits x = codes "about " ++ low_text digits x

abbrev pub probability_text : ℕ → Rational → List ℕ
probability_text digits x = if is_short x then fraction_text x else about_text digits x

-- the name of an atom
abbrev pub atom_text : Parts → ℕ → List ℕ
atom_text p n = name_at p.names n

-- the name of an atom behind others, at a place of a list
abbrev pub and_before : ℕ → List ℕ
and_before place = if place == 0 then [] else codes " and "

unfoldable pub joined_atom : Parts → ℕ → ℕ → List ℕ
joined_atom p place n = and_before place ++ atom_text p n

-- the names of atoms
abbrev pub atom_names : Parts → List ℕ → List ℕ
atom_names p ns = texts_of (joined_atom p) ns

-- the atoms that are true in a world
abbrev pub atoms_text : Parts → List ℕ → List ℕ
atoms_text p ns = if length ns == 0 then codes "nothing of these" else atom_names p ns

-- what stands before a world at a place
abbrev pub world_before : ℕ → List ℕ
world_before place = if place == 0 then [] else codes ";\n    "

-- a world with its probability
unfoldable pub world_text : ℕ → Parts → ℕ → Likely → List ℕ
world_text digits p place w =
    world_before place ++ (probability_text digits w.probability ++ (codes ": " ++ atoms_text p w.atoms))

-- the first of these worlds
abbrev pub worlds_text : ℕ → Parts → List Likely → List ℕ
worlds_text digits p ws = texts_of (world_text digits p) (take MOST_WORLDS ws)

-- so many worlds are beyond those that are shown
abbrev pub worlds_word : ℕ → List ℕ
worlds_word n = if n == 1 then codes " more world" else codes " more worlds"

unfoldable pub some_more : ℕ → List ℕ
some_more n = codes ";\n    and " ++ (signed_decimal (pos n) ++ worlds_word n)

abbrev pub more_words : ℕ → List ℕ
more_words n = if n == 0 then [] else some_more n

abbrev pub more_text : ℕ → List ℕ
more_text worlds = more_words (worlds - MOST_WORLDS)

-- a bound, and a distribution that reaches it
unfoldable pub example_text : ℕ → Parts → BoundSide → Example → List ℕ
example_text digits p side e = name_text side e.value
    ++ (codes " is reached by " ++ (worlds_text digits p e.worlds ++ (more_text (length e.worlds) ++ codes "\n")))
