use Rattle.std.proofs.Common.{◌++◌, subst, sym, ap, arith}
use Rattle.ps_read.specs.Fronts.{IsProblemPart}
use Rattle.ps_read.specs.Stages.{Knows}
use Rattle.ps_read.proofs.Knowing.{part_known}
use Rattle.ps_read.proofs.front.Front.push.Goals as goal

pub returns-clause-part : goal.returns-clause-part
returns-clause-part c = record {
  part = λ bytes h.
      let taken = ap (λ f. f.taken) c.self.view_is in
      subst (IsProblemPart (bytes ++ c.args.piece.now)) (omega (arith, taken, c.from.ensures, c.in_ok-stage.ensures.grows))
      (part_known c.in_ok-stage.stage c.in_ok-stage.taken (bytes ++ c.args.piece.now) c.in_ok-stage.ensures.sound c.in_ok-stage.ensures.place
      (c.in_ok-stage.ensures.known.known bytes (subst (λ s. Knows s c.self.inside.taken bytes) (sym c.replace-stage.ensures.value)
      (subst (λ f. Knows f.stage f.taken bytes) (sym c.self.view_is) h))));
}
