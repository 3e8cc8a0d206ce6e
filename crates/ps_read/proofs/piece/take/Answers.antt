use Rattle.std.proofs.Common.{◌-◌, length, get_or, take, drop, subst, ap, ◌∙◌, arith}
use Rattle.std.specs.Prelude.{Ok}
use Rattle.ps_lex.proofs.Passing.{first_and_others}
use Rattle.ps_read.proofs.Steps.{passed_on}
use Rattle.ps_read.specs.Answers.{IsFed}
use Rattle.ps_read.proofs.Readers.{HasCome, come_on, found, refused_within}
use Rattle.ps_read.proofs.piece.take.Goals as goal

pub returns-in_err-_place : goal.returns-in_err-_place
returns-in_err-_place c =
    let left = c.loop-left.left.now in
    let cut = first_and_others left (omega (arith, c.in-len1-up.len_at_least)) in
    refused_within c.args.piece.now c.args.reader.now c.loop-left.reader (get_or left 0 0) (take (length left - 1) (drop 1 left))
    (subst (λ xs. HasCome c.args.piece.now xs c.args.reader.now c.loop-left.reader) cut c.loop-left.invariant.come)
    c.feed.new.self c.in_err-_place.field-0.0 c.from_residual.result
    (subst (IsFed (get_or left 0 0) c.loop-left.reader c.feed.new.self) c.in_err-_place.was c.feed.ensures.fed)
    (passed_on c.from_residual.result c.in_err-_place.field-0.0 c.from_residual.ensures.0 c.from_residual.ensures.1)

pub returns-in-Some : goal.returns-in-Some
returns-in-Some c =
    let left = c.loop-left.left.now in
    let cut = first_and_others left (omega (arith, c.in-len1-up.len_at_least)) in
    found c.args.piece.now c.args.reader.now c.loop-left.reader (get_or left 0 0) (take (length left - 1) (drop 1 left))
    (subst (λ xs. HasCome c.args.piece.now xs c.args.reader.now c.loop-left.reader) cut c.loop-left.invariant.come)
    c.feed.new.self c.in-Some._place (length c.args.piece.now - length left)
    (subst (IsFed (get_or left 0 0) c.loop-left.reader c.feed.new.self) (c.in_ok-_place.was ∙ ap Ok c.in-Some.is) c.feed.ensures.fed)
    (ap (λ xs. length c.args.piece.now - length xs) cut)

pub loop-left-preserved : goal.loop-left-preserved
loop-left-preserved c =
    let left = c.loop-left.left.now in
    let cut = first_and_others left (omega (arith, c.in-len1-up.len_at_least)) in
    record {
      come = come_on c.args.piece.now c.args.reader.now c.loop-left.reader (get_or left 0 0) (take (length left - 1) (drop 1 left))
          (subst (λ xs. HasCome c.args.piece.now xs c.args.reader.now c.loop-left.reader) cut c.loop-left.invariant.come)
          c.feed.new.self c.pass-left.new.reader c.pass-left.result.now
          (subst (IsFed (get_or left 0 0) c.loop-left.reader c.feed.new.self) (c.in_ok-_place.was ∙ ap Ok c.in_default-2.is) c.feed.ensures.fed)
          c.feed.ensures.taken c.pass-left.ensures.passed;
    }
