use Rattle.std.proofs.Common.{◌∷◌, sym, subst, ap, ◌∙◌}
use Rattle.std.specs.Prelude.{Ok}
use Rattle.ps_read.specs.Answers.{answer, parsed_by, Agrees, GoesOnWithout, IsKeptIn}
use Rattle.ps_read.proofs.Words.{kept_ended}
use Rattle.ps_read.proofs.Steps.{fed, fed_behind, together_behind, offset_behind, passed_on, waits_at}
use Rattle.ps_read.proofs.reader.Reader.feed.Goals as goal

pub judge-requires-clause-word : goal.judge-requires-clause-word
judge-requires-clause-word c = subst IsKeptIn (sym c.take-token.ensures.token) (kept_ended c.args.self.now.lexer c.args.byte c.requires.together.word)

pub returns-in_err-place-clause-fed : goal.returns-in_err-place-clause-fed
returns-in_err-place-clause-fed c = record {
  agrees = λ more. subst
      (Agrees (answer c.args.self.now.lexer (parsed_by c.args.self.now.parser) (c.args.byte ∷ more)) (answer c.take-token.new.self (parsed_by c.judge.new.parser) more) (parsed_by c.judge.new.parser))
      (c.in_err-place.was ∙ sym (passed_on c.from_residual.result c.in_err-place.field-0.0 c.from_residual.ensures.0 c.from_residual.ensures.1))
      (fed c.args.self.now.lexer c.take-token.new.self (parsed_by c.args.self.now.parser) (parsed_by c.judge.new.parser) c.args.byte c.take-token.result c.began-began.result c.bad.result c.judge.result
      c.take-token.ensures.token c.take-token.ensures.state c.began-began.ensures c.bad.ensures c.judge.ensures.judged more);
}

pub returns-in_err-place-clause-taken : goal.returns-in_err-place-clause-taken
returns-in_err-place-clause-taken c = offset_behind c.args.self.now.lexer c.take-token.new.self c.args.byte c.take-token.ensures.state

pub returns-in-Some-clause-fed : goal.returns-in-Some-clause-fed
returns-in-Some-clause-fed c = record {
  agrees = λ more. subst
      (Agrees (answer c.args.self.now.lexer (parsed_by c.args.self.now.parser) (c.args.byte ∷ more)) (answer c.take-token.new.self (parsed_by c.judge.new.parser) more) (parsed_by c.judge.new.parser))
      (c.in_ok-place.was ∙ ap Ok c.in-Some.is)
      (fed c.args.self.now.lexer c.take-token.new.self (parsed_by c.args.self.now.parser) (parsed_by c.judge.new.parser) c.args.byte c.take-token.result c.began-began.result c.bad.result c.judge.result
      c.take-token.ensures.token c.take-token.ensures.state c.began-began.ensures c.bad.ensures c.judge.ensures.judged more);
}

pub returns-in-Some-clause-together : goal.returns-in-Some-clause-together
returns-in-Some-clause-together c = together_behind c.args.self.now _ c.args.byte c.requires.together c.take-token.ensures.state c.in_ok-place.ensures.derivation c.in_ok-place.ensures.counts

pub returns-in-Some-clause-taken : goal.returns-in-Some-clause-taken
returns-in-Some-clause-taken c = offset_behind c.args.self.now.lexer c.take-token.new.self c.args.byte c.take-token.ensures.state

pub returns-clause-fed : goal.returns-clause-fed
returns-clause-fed c = record {
  agrees = λ more. fed_behind c.take-token.new.self (parsed_by c.judge.new.parser) c.begun_behind.result _ more c.begun_behind.ensures (subst
      (Agrees (answer c.args.self.now.lexer (parsed_by c.args.self.now.parser) (c.args.byte ∷ more)) (answer c.take-token.new.self (parsed_by c.judge.new.parser) more) (parsed_by c.judge.new.parser))
      (c.in_ok-place.was ∙ ap Ok c.in_default.is)
      (fed c.args.self.now.lexer c.take-token.new.self (parsed_by c.args.self.now.parser) (parsed_by c.judge.new.parser) c.args.byte c.take-token.result c.began-began.result c.bad.result c.judge.result
      c.take-token.ensures.token c.take-token.ensures.state c.began-began.ensures c.bad.ensures c.judge.ensures.judged more));
}

pub returns-clause-together : goal.returns-clause-together
returns-clause-together c = together_behind c.args.self.now _ c.args.byte c.requires.together c.take-token.ensures.state c.in_ok-place.ensures.derivation c.in_ok-place.ensures.counts

pub returns-clause-waits : goal.returns-clause-waits
returns-clause-waits c = waits_at _ c.bad.result c.begun_behind.result (together_behind c.args.self.now _ c.args.byte c.requires.together c.take-token.ensures.state c.in_ok-place.ensures.derivation c.in_ok-place.ensures.counts)
    c.bad.ensures (subst (λ o. GoesOnWithout c.bad.result (Ok o)) c.in_default.is c.in_ok-place.ensures.goes_on) c.begun_behind.ensures

pub returns-clause-taken : goal.returns-clause-taken
returns-clause-taken c = offset_behind c.args.self.now.lexer c.take-token.new.self c.args.byte c.take-token.ensures.state
