-- Bytes with which others begin.
use Rattle.std.proofs.Common.{◌≡◌, ℕ, List, [], Bool, true, take, drop, length, sym, append-nil}
use Rattle.std.proofs.Math.Dec.{eqb}
use Rattle.std.specs.List.{starts_with}
use Rattle.std.proofs.lemmas.Bool.Decides.{Decides-eqb}
use Rattle.std.proofs.lemmas.Slice.Eq.{starts_is}
use Rattle.std.proofs.lemmas.List.{take-append-drop}
use Rattle.ps_hints.specs.Found.{IsFront}

-- the first of them
pub taken : (n : ℕ) (bytes : List ℕ) → IsFront (take n bytes) bytes
taken n bytes = (drop n bytes, sym (take-append-drop n bytes))

-- all of them
pub all : (bytes : List ℕ) → IsFront bytes bytes
all bytes = ([], sym (append-nil bytes))

-- those with which a test says that they begin
pub begins : (bytes part : List ℕ) (r : Bool) → r ≡ starts_with eqb bytes part → r ≡ true → IsFront part bytes
begins bytes part r e is = (drop (length part) bytes, (starts_is Decides-eqb bytes part r e).0 is)
