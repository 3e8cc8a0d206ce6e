use Rattle.std.proofs.Common.{refl, sym, subst}
use Rattle.std.specs.Prelude.{codes}
use Rattle.ps_log.specs.Spellings.{words_of}
use Rattle.ps_answer.specs.declared.part.Part.TheVariants as part
use Rattle.ps_answer.specs.Words.{side_letters}
use Rattle.ps_reader.specs.Cursor.{words_in}
use Rattle.ps_reader.specs.Read.{IsItemRead}
use Rattle.ps_reader.proofs.FirstLine.{arm_letters, arm_word, arm_due}
use Rattle.ps_reader.proofs.item.item.Goals as goal

pub returns-in-AReport : goal.returns-in-AReport
returns-in-AReport c = arm_letters c.args.part part.AReport (codes "report") c.args.line.now (words_in c.of-words.result) (words_in c.next-word.new.self) c.report.result c.in-AReport.is refl c.requires.due c.of-words.ensures c.next-word.ensures.later c.report.ensures

pub returns-in-AModel : goal.returns-in-AModel
returns-in-AModel c = arm_letters c.args.part part.AModel (codes "model") c.args.line.now (words_in c.of-words.result) (words_in c.next-word.new.self) c.model.result c.in-AModel.is refl c.requires.due c.of-words.ensures c.next-word.ensures.later c.model.ensures

pub returns-in-AnEntry : goal.returns-in-AnEntry
returns-in-AnEntry c = arm_letters c.args.part part.AnEntry (codes "w") c.args.line.now (words_in c.of-words.result) (words_in c.next-word.new.self) c.entry.result c.in-AnEntry.is refl c.requires.due c.of-words.ensures c.next-word.ensures.later c.entry.ensures

pub returns-in-ADual : goal.returns-in-ADual
returns-in-ADual c = arm_letters c.args.part part.ADual (codes "dual") c.args.line.now (words_in c.of-words.result) (words_in c.next-word.new.self) c.dual.result c.in-ADual.is refl c.requires.due c.of-words.ensures c.next-word.ensures.later c.dual.ensures

pub returns-in-SomeRows : goal.returns-in-SomeRows
returns-in-SomeRows c = arm_letters c.args.part part.SomeRows (codes "y") c.args.line.now (words_in c.of-words.result) (words_in c.next-word.new.self) c.multipliers.result c.in-SomeRows.is refl c.requires.due c.of-words.ensures c.next-word.ensures.later c.multipliers.ensures

pub returns-in-ACause : goal.returns-in-ACause
returns-in-ACause c = arm_letters c.args.part part.ACause (codes "open") c.args.line.now (words_in c.of-words.result) (words_in c.next-word.new.self) c.cause.result c.in-ACause.is refl c.requires.due c.of-words.ensures c.next-word.ensures.later c.cause.ensures

pub returns-in-ATrace : goal.returns-in-ATrace
returns-in-ATrace c = arm_letters c.args.part part.ATrace (codes "t") c.args.line.now (words_in c.of-words.result) (words_in c.next-word.new.self) c.trace.result c.in-ATrace.is refl c.requires.due c.of-words.ensures c.next-word.ensures.later c.trace.ensures

pub returns-in-AVerdict : goal.returns-in-AVerdict
returns-in-AVerdict c = arm_word c.args.part part.AVerdict c.args.line.now c.next-word.result.now (words_in c.of-words.result) (words_in c.next-word.new.self) c.verdict.result c.in-AVerdict.is c.of-words.ensures c.next-word.ensures.word c.next-word.ensures.later c.verdict.ensures

pub verdict-requires : goal.verdict-requires
verdict-requires c = arm_due c.args.part part.AVerdict c.args.line.now c.next-word.result.now (words_in c.of-words.result) c.in-AVerdict.is c.of-words.ensures c.next-word.ensures.word c.requires.due

pub returns-in-AnEvent : goal.returns-in-AnEvent
returns-in-AnEvent c = arm_word c.args.part part.AnEvent c.args.line.now c.next-word.result.now (words_in c.of-words.result) (words_in c.next-word.new.self) c.event.result c.in-AnEvent.is c.of-words.ensures c.next-word.ensures.word c.next-word.ensures.later c.event.ensures

pub event-requires : goal.event-requires
event-requires c = arm_due c.args.part part.AnEvent c.args.line.now c.next-word.result.now (words_in c.of-words.result) c.in-AnEvent.is c.of-words.ensures c.next-word.ensures.word c.requires.due

pub returns-in-AnAnswer : goal.returns-in-AnAnswer
returns-in-AnAnswer c = arm_word c.args.part part.AnAnswer c.args.line.now c.next-word.result.now (words_in c.of-words.result) (words_in c.next-word.new.self) c.answer.result c.in-AnAnswer.is c.of-words.ensures c.next-word.ensures.word c.next-word.ensures.later c.answer.ensures

pub answer-requires : goal.answer-requires
answer-requires c = arm_due c.args.part part.AnAnswer c.args.line.now c.next-word.result.now (words_in c.of-words.result) c.in-AnAnswer.is c.of-words.ensures c.next-word.ensures.word c.requires.due

pub returns-in-AQuery : goal.returns-in-AQuery
returns-in-AQuery c = arm_word c.args.part (part.AQuery c.in-AQuery.number) c.args.line.now c.next-word.result.now (words_in c.of-words.result) (words_in c.next-word.new.self) c.query.result c.in-AQuery.is c.of-words.ensures c.next-word.ensures.word c.next-word.ensures.later c.query.ensures

pub query-requires : goal.query-requires
query-requires c = arm_due c.args.part (part.AQuery c.in-AQuery.number) c.args.line.now c.next-word.result.now (words_in c.of-words.result) c.in-AQuery.is c.of-words.ensures c.next-word.ensures.word c.requires.due

pub returns-in-ASide : goal.returns-in-ASide
returns-in-ASide c = arm_letters c.args.part (part.ASide c.in-ASide.upper) (side_letters c.in-ASide.upper) c.args.line.now (words_in c.of-words.result) (words_in c.next-word.new.self) c.side.result c.in-ASide.is refl c.requires.due c.of-words.ensures c.next-word.ensures.later c.side.ensures

pub returns-in-AStep : goal.returns-in-AStep
returns-in-AStep c = subst (λ p. IsItemRead p (words_of c.args.line.now) c.step.result) (sym c.in-AStep.is) (c.step.ensures c.args.line.now c.requires.first.0 c.requires.first.1)

pub returns-in-AGoal : goal.returns-in-AGoal
returns-in-AGoal c = subst (λ p. IsItemRead p (words_of c.args.line.now) c.goal.result) (sym c.in-AGoal.is) (c.goal.ensures c.args.line.now c.requires.first.0 c.requires.first.1)
