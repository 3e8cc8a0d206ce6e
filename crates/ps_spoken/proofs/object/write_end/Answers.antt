use Rattle.std.proofs.Common.{◌++◌, rules}
use Rattle.std.specs.Prelude.{codes}
use Rattle.std.specs.Int.RustNames.{FitsSigned}
use Rattle.std.proofs.lemmas.Int.{to_z-of_z}
use mir.Syntax.{w128}
use Rattle.ps_spoken.specs.JsonClashes.{clash_member}
use Rattle.ps_spoken.specs.Unused.{unused_member}
use Rattle.ps_spoken.specs.Counts.{counts_object}
use Rattle.ps_spoken.specs.Warned.{warned_member}
use Rattle.ps_spoken.specs.Objects.{status_member}
use Rattle.ps_spoken.specs.Objects.{end_text, facts}
use Rattle.ps_spoken.proofs.Said.{said}
use Rattle.ps_spoken.proofs.object.write_end.Goals as goal

pub returns : goal.returns
unfolding end_text
returns c =
    let p = c.args.problem.now in
    let t = facts c.args.told.now in
    let r = c.write_status.result in
    let done = c.write_status.new.out.items in
    let fits : FitsSigned w128 c.args.told.now.unfinished = search rules in
    let counted = simp to_z-of_z at c.in_ok-write_counts.ensures in
    said r c.args.out.now.items c.append.new.out.items done (codes "],\"clash\":") (clash_member p t.lines t.clash ++ (unused_member p t.lines t.unused ++ (codes ",\"counts\":" ++ (counts_object p t.unfinished ++ (warned_member t.warnings ++ (status_member t.status)))))) c.in_ok-append.ensures
    (said r c.append.new.out.items c.write_clash.new.out.items done (clash_member p t.lines t.clash) (unused_member p t.lines t.unused ++ (codes ",\"counts\":" ++ (counts_object p t.unfinished ++ (warned_member t.warnings ++ (status_member t.status))))) c.in_ok-write_clash.ensures
    (said r c.write_clash.new.out.items c.write_unused_member.new.out.items done (unused_member p t.lines t.unused) (codes ",\"counts\":" ++ (counts_object p t.unfinished ++ (warned_member t.warnings ++ (status_member t.status)))) c.in_ok-write_unused_member.ensures
    (said r c.write_unused_member.new.out.items c.append-2.new.out.items done (codes ",\"counts\":") (counts_object p t.unfinished ++ (warned_member t.warnings ++ (status_member t.status))) c.in_ok-append-2.ensures
    (said r c.append-2.new.out.items c.write_counts.new.out.items done (counts_object p t.unfinished) (warned_member t.warnings ++ (status_member t.status)) counted
    (said r c.write_counts.new.out.items c.write_warnings.new.out.items done (warned_member t.warnings) (status_member t.status) c.in_ok-write_warnings.ensures c.write_status.ensures)))))
