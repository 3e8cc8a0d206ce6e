-- Whether the reader of what is written has gone.
use Rattle.std.specs.Prelude.{◌≡◌, ◌≢◌, ℕ, Bool, true, List, Option, Result, Ok, Err}
use Rattle.std.specs.Io.KnownBytes.{WriteAppends}
use Rattle.std.specs.declared.io.ErrorKind.TheVariants.{BrokenPipe}
use Rattle.std.specs.IoError.{error_kind}
use Rattle.std.specs.declared.io.Error.{Error}
use Rattle.ps_io.specs.declared.outlet.Outlet.{Outlet}

-- whether a write found that the reader has gone
abbrev pub has_left : {W : Type 0} → Outlet W → Bool
has_left o = o.has_reader_gone

-- what is written to
abbrev pub writer_of : {W : Type 0} → Outlet W → W
writer_of o = o.writer

-- what is known of the reader behind an error: it has gone where a pipe is broken, and else what was known before
pub record IsKnownBehind (e : Error) (old new : Bool) : Type 0 where
  pub broken : error_kind e ≡ BrokenPipe → new ≡ true
  pub other : error_kind e ≢ BrokenPipe → new ≡ old

-- what is known of the reader behind a call that returned this
abbrev pub Notes : {T : Type 0} → Result T Error → Bool → Bool → Type 0
Notes (Ok x) old new = new ≡ old
Notes (Err e) old new = IsKnownBehind e old new

-- a write by an outlet adds to what its writer holds, by what is told of that
abbrev pub Writes : {W : Type 0} → (W → Option (List ℕ)) → Outlet W → Outlet W → Result ℕ Error → List ℕ → Type 0
Writes contents old new result bytes = WriteAppends (contents (writer_of old)) (contents (writer_of new)) result bytes
