-- What is told of bounds, as members of their objects.
use Rattle.std.specs.Prelude.{ℕ, pos, List, [], ◌++◌, codes, Option, Some, None}
use Rattle.std.specs.Fmt.{signed_decimal}
use Rattle.ps_meaning.specs.Rational.{Rational}
use Rattle.ps_problem.specs.Problems.{Parts}
use Rattle.ps_support.specs.declared.example.Example.{Example}
use Rattle.ps_support.specs.declared.example.Likely.{Likely}
use Rattle.ps_support.specs.declared.places.End.{End}
use Rattle.ps_support.specs.declared.places.End.TheVariants.{Only, Lower, Upper}
use Rattle.ps_support.specs.declared.support.Support.{Support}
use Rattle.ps_support.specs.declared.support.Supporting.{Supporting}
use Rattle.ps_spoken.specs.declared.details.SideDetails.{SideDetails}
use Rattle.ps_spoken.specs.Numbers.{fraction_text}
use Rattle.ps_spoken.specs.Sentences.{sentence_text}
use Rattle.ps_spoken.specs.Examples.{atom_text}
use Rattle.ps_spoken.specs.Listings.{comma_before, texts_of}

-- ---- the sentences on which a bound rests
-- the number of a sentence, its line and its text
unfoldable pub where_members : Parts → ℕ → ℕ → List ℕ
where_members p n line = codes "{\"number\":" ++ (signed_decimal (pos n) ++ (codes ",\"line\":"
    ++ (signed_decimal (pos line) ++ (codes ",\"text\":\"" ++ (sentence_text p n ++ codes ";\"")))))

-- which number of an interval it is
abbrev pub end_member : End → List ℕ
end_member Only = codes ",\"end\":null"
end_member Lower = codes ",\"end\":\"lower\""
end_member Upper = codes ",\"end\":\"upper\""

-- how fast the bound moves with it
unfoldable pub rate_member : Rational → List ℕ
rate_member x = codes ",\"multiplier\":\"" ++ (fraction_text x ++ codes "\"")

-- how far it moves where that rises by a hundredth
unfoldable pub moved_by : Rational → List ℕ
moved_by x = codes ",\"hundredth\":\"" ++ (fraction_text x ++ codes "\"}")

abbrev pub moved_member : Option Rational → List ℕ
moved_member (Some x) = moved_by x
moved_member None = codes ",\"hundredth\":null}"

-- a sentence at a place of a list
unfoldable pub supporting_item : Parts → ℕ → Supporting → List ℕ
supporting_item p place s = comma_before place
    ++ (where_members p s.sentence s.line ++ (end_member s.end ++ (rate_member s.rate ++ moved_member s.hundredth)))

abbrev pub support_items : Parts → List Supporting → List ℕ
support_items p ss = texts_of (supporting_item p) ss

-- the member that has them, where they are told
unfoldable pub rests_on : Parts → List Supporting → List ℕ
rests_on p ss = codes ",\"rests_on\":[" ++ (support_items p ss ++ codes "]")

abbrev pub support_members : Parts → Option Support → List ℕ
support_members p (Some s) = rests_on p s.sentences
support_members p None = []

-- ---- a distribution that reaches it
-- the name of an atom at a place of a list
unfoldable pub atom_item : Parts → ℕ → ℕ → List ℕ
atom_item p place n = comma_before place ++ (codes "\"" ++ (atom_text p n ++ codes "\""))

abbrev pub atom_items : Parts → List ℕ → List ℕ
atom_items p ns = texts_of (atom_item p) ns

-- a world at a place of a list
unfoldable pub likely_item : Parts → ℕ → Likely → List ℕ
likely_item p place w = comma_before place ++ (codes "{\"probability\":\""
    ++ (fraction_text w.probability ++ (codes "\",\"true\":[" ++ (atom_items p w.atoms ++ codes "]}"))))

abbrev pub likely_items : Parts → List Likely → List ℕ
likely_items p ws = texts_of (likely_item p) ws

-- the member that has them, where they are told
unfoldable pub example_member : Parts → List Likely → List ℕ
example_member p ws = codes ",\"example\":[" ++ (likely_items p ws ++ codes "]")

abbrev pub example_members : Parts → Option Example → List ℕ
example_members p (Some e) = example_member p e.worlds
example_members p None = []

-- ---- both
-- what is told of a bound
unfoldable pub beneath_members : Parts → SideDetails → List ℕ
beneath_members p t = support_members p t.support ++ example_members p t.example
