use Rattle.ps_domains.proofs.Judging.{alike}
use Rattle.ps_domains.proofs.Going.{goes_on_alike}
use Rattle.ps_domains.proofs.token_laws.kept_tokens_are_judged.Goals as goal

pub returns-clause-refused : goal.returns-clause-refused
returns-clause-refused c = alike

pub returns-clause-passed : goal.returns-clause-passed
returns-clause-passed c = goes_on_alike
