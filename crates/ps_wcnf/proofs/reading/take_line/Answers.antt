use Rattle.std.proofs.Common.{subst, refl}
use Rattle.ps_wcnf.specs.Spelling.{Nothing}
use Rattle.ps_wcnf.specs.Counted.{IsLine}
use Rattle.ps_wcnf.specs.declared.line.Told.TheVariants as told
use Rattle.ps_wcnf.proofs.Drafts.{large-line}
use Rattle.ps_wcnf.proofs.reading.take_line.Goals as goal

pub returns-in-Large : goal.returns-in-Large
returns-in-Large c =
    let e : IsLine c.args.line.now told.Large = subst (IsLine c.args.line.now) c.in-Large.is c.in_ok-read_line.ensures in
    (e.0, e.1, large-line c.args.draft.now e.0 e.2)

pub returns-in-Nothing : goal.returns-in-Nothing
returns-in-Nothing c =
    let e : IsLine c.args.line.now told.Nothing = subst (IsLine c.args.line.now) c.in-Nothing.is c.in_ok-read_line.ensures in
    (Nothing, e, refl, λ h. h)
