use Rattle.std.proofs.Common.{◌≡◌, ◌++◌, take}
use Rattle.ps_spoken.specs.Listings.{texts_of}
use Rattle.ps_spoken.specs.Strings.{text_at}
use Rattle.ps_spoken.proofs.strings.write_escaped.Given as goal

abbrev pub invariant-loop-place : goal.invariant-loop-place
invariant-loop-place l = l.out.items ≡ l.fn.out.items ++ texts_of (text_at l.bytes) (take l.place l.bytes)
