use Rattle.std.proofs.Common.{refl}
use Rattle.ps_check.proofs.LinesKnown.{read_counted, read_taken}
use Rattle.ps_check.proofs.stream.StreamCheck.read.Goals as goal

pub invariant_of-self : goal.invariant_of-self
invariant_of-self c = read_counted c.args.self.now _ c.args.due c.args.progress c.requires.feed.text c.in_ok-state.state c.self.view_is
    (c.in_ok-state.ensures.on c.requires.feed.text c.requires.feed.whole c.requires.feed.is c.self.inside.taken refl) c.requires.counted

pub returns-clause-taken : goal.returns-clause-taken
returns-clause-taken c = record {
  on = λ text w e. read_taken c.args.self.now _ c.args.due c.args.progress text c.in_ok-state.state c.self.view_is (c.in_ok-state.ensures.on text w e c.self.inside.taken refl);
}
