use Rattle.std.proofs.Common.{length, get_or, sym, subst, ap, ◌∙◌, arith}
use Rattle.std.specs.Prelude.{Ok}
use Rattle.ps_lex.specs.Lexing.{new_lexer}
use Rattle.ps_lex.proofs.Passing.{first_and_others}
use Rattle.ps_read.specs.Answers.{answer, nothing_parsed, parsed_by, IsFed}
use Rattle.ps_read.proofs.Steps.{passed_on}
use Rattle.ps_read.proofs.Returned.{not_yet, known, known_err}
use Rattle.ps_read.proofs.reading.parse.Goals as goal

pub returns-in_err-place : goal.returns-in_err-place
returns-in_err-place c =
    let cut = first_and_others c.loop-left.left.now (omega (arith, c.in-len1-up.len_at_least)) in
    known_err c.loop-left.reader c.feed.new.self (get_or c.loop-left.left.now 0 0) _ (answer new_lexer nothing_parsed c.args.bytes.now) c.in_err-place.field-0.0 c.from_residual.result
    (subst (IsFed (get_or c.loop-left.left.now 0 0) c.loop-left.reader c.feed.new.self) c.in_err-place.was c.feed.ensures.fed)
    (sym (ap (answer c.loop-left.reader.lexer (parsed_by c.loop-left.reader.parser)) cut) ∙ c.loop-left.invariant.same)
    (passed_on c.from_residual.result c.in_err-place.field-0.0 c.from_residual.ensures.0 c.from_residual.ensures.1)

pub returns-in-Some : goal.returns-in-Some
returns-in-Some c =
    let cut = first_and_others c.loop-left.left.now (omega (arith, c.in-len1-up.len_at_least)) in
    known c.loop-left.reader c.feed.new.self (get_or c.loop-left.left.now 0 0) _ (answer new_lexer nothing_parsed c.args.bytes.now) c.in-Some.place
    (subst (IsFed (get_or c.loop-left.left.now 0 0) c.loop-left.reader c.feed.new.self) (c.in_ok-place.was ∙ ap Ok c.in-Some.is) c.feed.ensures.fed)
    (sym (ap (answer c.loop-left.reader.lexer (parsed_by c.loop-left.reader.parser)) cut) ∙ c.loop-left.invariant.same)
    ∙ ap (λ p. Ok (c.in-Some.place, parsed_by p)) (sym c.into_parser.ensures)

pub loop-left-preserved : goal.loop-left-preserved
loop-left-preserved c =
    let cut = first_and_others c.loop-left.left.now (omega (arith, c.in-len1-up.len_at_least)) in
    let cut_length = ap length cut in record {
      same = not_yet c.loop-left.reader c.feed.new.self c.pass-left.new.self (get_or c.loop-left.left.now 0 0) _ c.pass-left.result.now (answer new_lexer nothing_parsed c.args.bytes.now)
          (subst (IsFed (get_or c.loop-left.left.now 0 0) c.loop-left.reader c.feed.new.self) (c.in_ok-place.was ∙ ap Ok c.in_default-2.is) c.feed.ensures.fed) c.pass-left.ensures.passed
          (sym (ap (answer c.loop-left.reader.lexer (parsed_by c.loop-left.reader.parser)) cut) ∙ c.loop-left.invariant.same);
      together = c.pass-left.ensures.together;
      place = omega (arith, cut_length, c.pass-left.ensures.passed.taken, c.feed.ensures.taken, c.loop-left.invariant.place);
    }
