use Rattle.ps_log.proofs.StepLines.{words-cut, words-one}
use Rattle.ps_log.proofs.words.split_word.Goals as goal

pub returns-in-Some-clause-words : goal.returns-in-Some-clause-words
returns-in-Some-clause-words c = words-cut c.args.text.now c.in-Some.word.now c.in-Some.after.now c.in-Some.ensures.found.0 c.in-Some.ensures.found.1

pub returns-in-None-clause-words : goal.returns-in-None-clause-words
returns-in-None-clause-words c = words-one c.args.text.now c.in-None.ensures.none
