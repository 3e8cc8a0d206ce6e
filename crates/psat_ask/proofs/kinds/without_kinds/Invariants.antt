use lib.Utf8.{encodes, scalars}
use Rattle.std.proofs.Common.{◌≡◌, ℕ, List, true}
use Rattle.psat_ask.specs.Kinds.{LeadsOn}
use Rattle.psat_ask.proofs.kinds.without_kinds.Given as goal

abbrev pub invariant-loop-turn : goal.invariant-loop-turn
invariant-loop-turn l =
    LeadsOn l.kinds l.rest l.fn.old l.left × (x : List ℕ) × (scalars x ≡ true) × (encodes x ≡ l.rest)
