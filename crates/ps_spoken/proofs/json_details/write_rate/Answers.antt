use Rattle.std.proofs.Common.{◌++◌}
use Rattle.std.specs.Prelude.{codes}
use Rattle.ps_spoken.specs.Numbers.{fraction_text}
use Rattle.ps_spoken.specs.JsonDetails.{rate_member}
use Rattle.ps_spoken.proofs.Said.{said}
use Rattle.ps_spoken.proofs.json_details.write_rate.Goals as goal

pub returns : goal.returns
unfolding rate_member
returns c =
    let before = codes ",\"multiplier\":\"" in
    let value = fraction_text c.args.rate.now in
    let behind = codes "\"" in
    let done = c.append-2.new.out.items in
    said c.append-2.result c.args.out.now.items c.append.new.out.items done before (value ++ behind) c.in_ok-append.ensures
    (said c.append-2.result c.append.new.out.items c.fraction.new.out.items done value behind c.in_ok-fraction.ensures c.append-2.ensures)
