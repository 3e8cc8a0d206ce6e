use Rattle.std.proofs.Common.{◌≡◌, ◌++◌, take}
use Rattle.ps_canonical.specs.Terms.{terms_text_of}
use Rattle.ps_canonical.proofs.terms.write_terms.Given as goal

abbrev pub invariant-loop-place : goal.invariant-loop-place
invariant-loop-place l = l.out.items ≡ l.fn.out.items ++ terms_text_of l.problem l.linear.scale (take l.place l.linear.terms)
