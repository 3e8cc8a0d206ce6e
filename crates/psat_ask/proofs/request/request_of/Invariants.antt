use Rattle.ps_ask.specs.Shown.{AreSettings}
use Rattle.psat_ask.proofs.RequestLaws.{LeadsBehind}
use Rattle.psat_ask.proofs.request.request_of.Given as goal

abbrev pub invariant-loop-word : goal.invariant-loop-word
invariant-loop-word l = AreSettings l.reading.asked.settings × LeadsBehind l.words l.word-index l.reading
