use Rattle.ps_text.proofs.Canonicals.{canonical_front}
use Rattle.ps_text.proofs.Excluding.{means_only}
use Rattle.ps_text.proofs.laws.canonical_text_means_its_items.Goals as goal

pub returns-clause-front : goal.returns-clause-front
returns-clause-front c = canonical_front

pub returns-clause-only : goal.returns-clause-only
returns-clause-only c = means_only
