-- Refused operations.
use Rattle.std.specs.Prelude.{◌≡◌}
use Rattle.ps_meaning.specs.Rational.{Rational}
use Rattle.ps_frac.specs.declared.wide.Op.{Op}
use Rattle.ps_frac.specs.declared.wide.Wide.{Wide}

-- the refusal of an operation, with its operands as they were handed in
abbrev pub Refuses : Op → Rational → Rational → Wide → Type 0
Refuses operation first second w = w ≡ record { op = operation; left = first; right = second }
