use Rattle.std.proofs.Common.{subst, sym}
use Rattle.ps_read.specs.Stages.{Knows}
use Rattle.ps_read.proofs.Knowing.{reads_front, refuses_front}
use Rattle.ps_read.proofs.front.Front.done.Goals as goal

pub returns-clause-only : goal.returns-clause-only
returns-clause-only c = λ bytes h. reads_front bytes c.self.inside.taken c.finish.result
    (c.finish.ensures.read.read c.self.inside.taken bytes c.self.invariant.1 (subst (λ f. Knows f.stage f.taken bytes) (sym c.self.view_is) h))

pub returns-clause-refused : goal.returns-clause-refused
returns-clause-refused c = λ bytes h. refuses_front bytes c.self.inside.taken c.finish.result
    (c.finish.ensures.read.read c.self.inside.taken bytes c.self.invariant.1 (subst (λ f. Knows f.stage f.taken bytes) (sym c.self.view_is) h))
