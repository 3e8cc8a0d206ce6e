use Rattle.psat_ask.proofs.StatusLaws.{AnsweredSoFar}
use Rattle.psat_ask.proofs.statuses.answer_each.Given as goal

abbrev pub invariant-loop-file : goal.invariant-loop-file
invariant-loop-file g l = AnsweredSoFar g.A.Answering.answers l.files l.file-index l.fn.answering l.answering l.greatest
