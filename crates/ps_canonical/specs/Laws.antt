-- What canonical texts tell.
use Rattle.std.specs.Prelude.{◌≡◌}
use Rattle.ps_text.specs.Canonical.{canonical_text}
use Rattle.ps_problem.specs.Problems.{Parts}
use Rattle.ps_problem.specs.Soundness.{IsProblem}
use Rattle.ps_problem.specs.Written.{items_from}

-- problems whose canonical texts are equal are equal
abbrev pub EqualTextsAreOfEqualProblems : Type 0
EqualTextsAreOfEqualProblems = (p q : Parts) → IsProblem p → IsProblem q
    → canonical_text (items_from p) ≡ canonical_text (items_from q) → p ≡ q
