use Rattle.std.proofs.Common.{sym, ◌∙◌, ap}
use Rattle.std.specs.List.{list_any}
use Rattle.ps_domains.specs.Names.{binds}
use Rattle.ps_domains.proofs.Scopes.{any_bound}
use Rattle.ps_domains.proofs.state.DomainState.is_bound.Goals as goal

pub returns : goal.returns
returns c = c.is_bound.ensures ∙ sym (any_bound c.args.name.now c.items.result.now) ∙ ap (list_any (binds c.args.name.now)) c.items.ensures
