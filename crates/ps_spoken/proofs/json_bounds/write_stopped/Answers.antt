use Rattle.std.proofs.Common.{◌++◌}
use Rattle.std.specs.Prelude.{codes}
use Rattle.ps_spoken.specs.Spoken.{cause_text}
use Rattle.ps_spoken.specs.Bounds.{stopped_object}
use Rattle.ps_spoken.proofs.Said.{said}
use Rattle.ps_spoken.proofs.json_bounds.write_stopped.Goals as goal

pub returns : goal.returns
unfolding stopped_object
returns c =
    let why = cause_text c.args.cause.now in
    let behind = codes "\",\"proved\":\"" in
    let after = c.append-2.new.out.items in
    said c.append-2.result c.args.out.now.items c.append.new.out.items after (codes "{\"exact\":null,\"decimal\":null,\"why\":\"") (why ++ behind) c.in_ok-append.ensures
    (said c.append-2.result c.append.new.out.items c.write_cause.new.out.items after why behind c.in_ok-write_cause.ensures c.append-2.ensures)
