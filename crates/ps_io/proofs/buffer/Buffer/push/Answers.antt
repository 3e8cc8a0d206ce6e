use Rattle.std.proofs.Common.{◌≡◌, length, sym, ap, ◌∙◌, arith, length-take-le}
use Rattle.ps_io.proofs.Front.{front-set}
use Rattle.ps_io.proofs.buffer.Buffer.push.Goals as goal

pub returns : goal.returns
returns c =
    let len = c.self.inside.len in
    let size : length c.args.self.now ≡ len = ap length (sym c.self.view_is) ∙ length-take-le len _ (omega (arith, c.self.invariant, c.self.told)) in
    front-set _ _ len c.args.byte (omega (arith, c.requires, c.self.told)) c.self.view_is
