use Rattle.std.proofs.Common.{◌+◌, length, refl, sym, subst, arith}
use Rattle.std.specs.Prelude.{Ok}
use Rattle.ps_read.specs.Answers.{parsed_by, AreWhole}
use Rattle.ps_read.specs.Takings.{IsTaken}
use Rattle.ps_read.specs.Stages.{IsBehindText}
use Rattle.ps_read.proofs.Knowing.{ready_on, known_on, whole_there, count_below, text_known, text_grows, refused_known}
use Rattle.ps_read.proofs.stage.read_on.Goals as goal

pub stage_behind-requires : goal.stage_behind-requires
stage_behind-requires c = subst (λ p. AreWhole (parsed_by p)) (sym c.into_parser.ensures)
    (whole_there c.requires.ready.bytes c.args.piece.now c.args.reader c.take.new.reader c.in-Ok-Some.count c.requires.ready.answer_is (subst (λ o. IsTaken c.args.piece.now c.args.reader c.take.new.reader (Ok o)) c.in-Ok-Some.field-0-is c.in-Ok-Some.ensures))

pub returns-in-Ok-None-clause-sound : goal.returns-in-Ok-None-clause-sound
returns-in-Ok-None-clause-sound c = ready_on c.args.piece.now c.args.reader c.take.new.reader c.args.taken c.requires.ready c.requires.place c.requires.room (subst (λ o. IsTaken c.args.piece.now c.args.reader c.take.new.reader (Ok o)) c.in-Ok-None.field-0-is c.in-Ok-None.ensures)

pub returns-in-Ok-None-clause-known : goal.returns-in-Ok-None-clause-known
returns-in-Ok-None-clause-known c = record {
  known = λ bytes h. known_on c.args.piece.now c.args.reader c.take.new.reader c.args.taken (c.args.taken + length c.args.piece.now) bytes refl (subst (λ o. IsTaken c.args.piece.now c.args.reader c.take.new.reader (Ok o)) c.in-Ok-None.field-0-is c.in-Ok-None.ensures) h;
}

pub returns-in-Ok-Some-clause-grows : goal.returns-in-Ok-Some-clause-grows
returns-in-Ok-Some-clause-grows c =
    let l = count_below c.requires.ready.bytes c.args.piece.now c.args.reader c.take.new.reader c.in-Ok-Some.count c.requires.ready.answer_is (subst (λ o. IsTaken c.args.piece.now c.args.reader c.take.new.reader (Ok o)) c.in-Ok-Some.field-0-is c.in-Ok-Some.ensures) in
    text_grows _ _ _ c.args.taken (c.args.taken + length c.args.piece.now) c.stage_behind.result (omega arith) (omega (arith, l)) (omega arith) c.stage_behind.ensures

pub returns-in-Ok-Some-clause-known : goal.returns-in-Ok-Some-clause-known
returns-in-Ok-Some-clause-known c = record {
  known = λ bytes h. text_known bytes c.args.piece.now c.args.reader c.take.new.reader c.in-Ok-Some.count h.answer_is (subst (λ o. IsTaken c.args.piece.now c.args.reader c.take.new.reader (Ok o)) c.in-Ok-Some.field-0-is c.in-Ok-Some.ensures) c.args.taken c.requires.place h.all
      (c.args.taken + c.in-Ok-Some.count) (c.args.taken + length c.args.piece.now) c.stage_behind.result refl refl
      (subst (λ p. IsBehindText (parsed_by p) (c.args.taken + c.in-Ok-Some.count) (c.args.taken + length c.args.piece.now) c.stage_behind.result) c.into_parser.ensures c.stage_behind.ensures);
}

pub returns-in-Err-clause-known : goal.returns-in-Err-clause-known
returns-in-Err-clause-known c = record {
  known = λ bytes h. refused_known bytes c.args.piece.now c.args.reader c.take.new.reader c.args.taken (c.args.taken + length c.args.piece.now) c.in-Err.error c.stage_refused.result refl h c.in-Err.ensures c.stage_refused.ensures;
}
