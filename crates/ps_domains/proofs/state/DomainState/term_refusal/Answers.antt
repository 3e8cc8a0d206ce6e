use Rattle.std.proofs.Common.{◌∙◌, ap}
use Rattle.ps_lex.specs.KeptTokens.{token_of}
use Rattle.ps_domains.specs.declared.kind.GroundKind.TheVariants as kind
use Rattle.ps_domains.specs.declared.kind.DomainWhat.TheVariants as domain_what
use Rattle.ps_domains.specs.DomainTokens.{or_else, unexpected, term_fault}
use Rattle.ps_domains.specs.KeptStates.{state_of}
use Rattle.ps_domains.proofs.state.DomainState.term_refusal.Goals as goal

pub returns : goal.returns
returns c =
    let expected = c.unless_expected.ensures ∙ ap (λ b. unexpected b (kind.Expected domain_what.Name) (token_of c.args.token.now)) c.is_name.ensures in
    let fault = c.term_fault.ensures ∙ ap (term_fault (state_of c.args.self.now)) c.letters.ensures in
    c.or_else.ensures ∙ (λ i. or_else (expected i) (fault i))
