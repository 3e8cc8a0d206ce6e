use Rattle.ps_lex.proofs.Seen.{judged, goes_on}
use Rattle.ps_lex.proofs.expect_laws.kept_tokens_are_judged.Goals as goal

pub returns-clause-refused : goal.returns-clause-refused
returns-clause-refused c = judged

pub returns-clause-passed : goal.returns-clause-passed
returns-clause-passed c = goes_on
