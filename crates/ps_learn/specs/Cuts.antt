-- Taking literals back.
use Rattle.std.specs.Prelude.{ℕ, ◌≡◌, ◌<◌, Bool, true, false, length}
use Rattle.ps_learn.specs.Trails.{Trail, up_to}

-- a literal was taken back, or none stood above the level
abbrev pub IsCutBy : Bool → Trail → Trail → ℕ → Type 0
IsCutBy true old new most = length new.entries < length old.entries
IsCutBy false old new most = new ≡ up_to most old
