use Rattle.std.proofs.Common.{refl, sym, subst}
use Rattle.std.specs.Prelude.{codes}
use Rattle.ps_log.specs.Spellings.{words_of}
use Rattle.ps_reader.specs.Cursor.{words_in}
use Rattle.ps_max_text.specs.Read.{IsItemRead}
use Rattle.ps_max_text.specs.declared.part.MaxPart.TheVariants as part
use Rattle.ps_max_text.proofs.FirstLine.{arm_letters, arm_word, arm_due}
use Rattle.ps_max_text.proofs.item_reader.item.Goals as goal

pub returns-in-Head : goal.returns-in-Head
returns-in-Head c = arm_letters c.args.part part.Head (codes "maxsat") c.args.line.now (words_in c.of-words.result) (words_in c.next-word.new.self) c.head.result c.in-Head.is refl c.requires.due c.of-words.ensures c.next-word.ensures.later c.head.ensures

pub returns-in-Values : goal.returns-in-Values
returns-in-Values c = arm_letters c.args.part part.Values (codes "v") c.args.line.now (words_in c.of-words.result) (words_in c.next-word.new.self) c.values.result c.in-Values.is refl c.requires.due c.of-words.ensures c.next-word.ensures.later c.values.ensures

pub returns-in-Log : goal.returns-in-Log
returns-in-Log c = arm_letters c.args.part part.Log (codes "log") c.args.line.now (words_in c.of-words.result) (words_in c.next-word.new.self) c.log.result c.in-Log.is refl c.requires.due c.of-words.ensures c.next-word.ensures.later c.log.ensures

pub returns-in-Best : goal.returns-in-Best
returns-in-Best c = arm_letters c.args.part part.Best (codes "best") c.args.line.now (words_in c.of-words.result) (words_in c.next-word.new.self) c.best.result c.in-Best.is refl c.requires.due c.of-words.ensures c.next-word.ensures.later c.best.ensures

pub returns-in-End : goal.returns-in-End
returns-in-End c = arm_letters c.args.part part.End (codes "end") c.args.line.now (words_in c.of-words.result) (words_in c.next-word.new.self) c.end.result c.in-End.is refl c.requires.due c.of-words.ensures c.next-word.ensures.later c.end.ensures

pub returns-in-Answer : goal.returns-in-Answer
returns-in-Answer c = arm_word c.args.part part.Answer c.args.line.now c.next-word.result.now (words_in c.of-words.result) (words_in c.next-word.new.self) c.answer.result c.in-Answer.is c.of-words.ensures c.next-word.ensures.word c.next-word.ensures.later c.answer.ensures

pub answer-requires : goal.answer-requires
answer-requires c = arm_due c.args.part part.Answer c.args.line.now c.next-word.result.now (words_in c.of-words.result) c.in-Answer.is c.of-words.ensures c.next-word.ensures.word c.requires.due

pub returns-in-Step : goal.returns-in-Step
returns-in-Step c = subst (λ p. IsItemRead p (words_of c.args.line.now) c.step.result) (sym c.in-Step.is) (c.step.ensures c.args.line.now c.requires.first.0 c.requires.first.1)

pub returns-in-Goal : goal.returns-in-Goal
returns-in-Goal c = subst (λ p. IsItemRead p (words_of c.args.line.now) c.goal.result) (sym c.in-Goal.is) (c.goal.ensures c.args.line.now c.requires.first.0 c.requires.first.1)
