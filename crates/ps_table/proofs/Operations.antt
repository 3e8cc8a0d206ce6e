-- Operations, by their parts and as they were refused.
use Rattle.ps_frac.specs.declared.wide.Op.{Op}
use Rattle.ps_meaning.specs.Rational.{Rational}
use Rattle.ps_table.specs.declared.place.Place.{Place}
use Rattle.ps_table.specs.declared.place.WideAt.{WideAt}
use Rattle.ps_table.specs.Places.{Operation}

abbrev pub operation : Place → Op → Rational → Rational → Operation
operation at by first second = record { place = at; op = by; left = first; right = second }

abbrev pub operation_of : WideAt → Operation
operation_of w = operation w.place w.op w.left w.right
