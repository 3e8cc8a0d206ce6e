use Rattle.std.proofs.Common.{rules, ◌≡◌, ◌++◌}
use Rattle.std.specs.Prelude.{pos, codes}
use Rattle.std.specs.Fmt.{signed_decimal}
use Rattle.ps_spoken.specs.Clashes.{without_text}
use Rattle.ps_spoken.proofs.Said.{said}
use Rattle.ps_spoken.proofs.rests.write_without.Goals as goal

pub returns : goal.returns
unfolding without_text
returns c =
    let digits = signed_decimal (pos c.args.sentence) in
    let counted : c.number.new.out.items ≡ c.append.new.out.items ++ digits = search rules in
    let after = c.append-2.new.out.items in
    said c.append-2.result c.args.out.now.items c.append.new.out.items after (codes "  without sentence ") (digits ++ codes " ") c.in_ok-append.ensures
    (said c.append-2.result c.append.new.out.items c.number.new.out.items after digits (codes " ") counted c.append-2.ensures)
