use Rattle.ps_text.proofs.Apart.{read_alike, refused_alike}
use Rattle.ps_text.proofs.Plain.{plain}
use Rattle.ps_text.proofs.laws.tokens_are_the_versions.Goals as goal

pub returns-clause-read : goal.returns-clause-read
returns-clause-read c = read_alike

pub returns-clause-refused : goal.returns-clause-refused
returns-clause-refused c = refused_alike

pub returns-clause-plain : goal.returns-clause-plain
returns-clause-plain c = plain
