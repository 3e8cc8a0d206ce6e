use Rattle.std.proofs.Common.{refl}
use Rattle.ps_generation.specs.Phases.{IsNewState}
use Rattle.ps_generation.proofs.run.Run.new.Goals as goal

pub returns : goal.returns
returns c =
    let h : IsNewState c.in_ok-setting.setting c.in_ok-state.state = c.in_ok-state.ensures in
    record {
      over = c.in_ok-setting.ensures.value;
      start = record { start = h.start; left = h.left };
      trace = h.trace;
      broken = refl;
    }
