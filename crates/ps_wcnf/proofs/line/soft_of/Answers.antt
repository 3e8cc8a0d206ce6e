use Rattle.std.proofs.Common.{subst, ap, ◌≡◌, ◌^◌, ◌<ℤ◌, pos, Some, inl, inr, arith}
use Rattle.std.proofs.lemmas.Int.{ints}
use Rattle.ps_wcnf.specs.Spelling.{Soft, soft_of, literals_in}
use Rattle.ps_wcnf.specs.Counted.{AreEnded}
use Rattle.ps_wcnf.specs.declared.line.Ended.TheVariants as ended
use Rattle.ps_wcnf.proofs.line.soft_of.Goals as goal

pub returns-in-Large : goal.returns-in-Large
returns-in-Large c = λ words k h w. let e : AreEnded words ended.Large = subst (AreEnded words) c.in-Large.is h in (Soft (pos k) e.0, ap (soft_of (pos k)) e.1, inr e.2)

pub returns-else-weight : goal.returns-else-weight
returns-else-weight c = λ words k h w.
    let e : literals_in words ≡ Some c.in-Literals.lits = subst (AreEnded words) c.in-Literals.is h in
    let more : pos (2 ^ 62) <ℤ pos k = omega (arith, ints, c.if-weight.false, w) in
    (Soft (pos k) c.in-Literals.lits, ap (soft_of (pos k)) e, inl more)
