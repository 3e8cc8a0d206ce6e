use Rattle.std.proofs.Common.{sym, subst, ◌∙◌}
use Rattle.ps_lex.specs.KeptTokens.{token_of}
use Rattle.ps_read.specs.Ready.{MayBeTaken}
use Rattle.ps_read.specs.Kept.{work_of, machine_of}
use Rattle.ps_read.proofs.Readiness.{may_be_taken_at}
use Rattle.ps_read.proofs.Taken.{none_of, is_taken}
use Rattle.ps_read.proofs.parser.Parser.take.Goals as goal

pub take-requires-clause-token : goal.take-requires-clause-token
take-requires-clause-token c =
    subst (λ p. MayBeTaken p (work_of c.args.self.now.items) (token_of c.args.token.now)) (sym c.part-part.ensures)
    (may_be_taken_at (machine_of c.args.self.now) c.args.token.now c.requires.derivation c.requires.word (sym c.refusal.ensures ∙ none_of c.refusal.result c.in_default.not-Some))

pub advance-requires : goal.advance-requires
advance-requires c = record { passed = sym c.refusal.ensures ∙ none_of c.refusal.result c.in_default.not-Some }

pub returns-clause-taken : goal.returns-clause-taken
returns-clause-taken c =
    is_taken c.args.self.now (record { state = c.advance.new.self; items = c.take.new.self; places = c.keep_begun.new.places }) c.args.token.now c.args.place c.part-part.result c.requires.derivation c.requires.word (record {
      passed = sym c.refusal.ensures ∙ none_of c.refusal.result c.in_default.not-Some;
      part_is = c.part-part.ensures;
      state = c.in_ok-advance.ensures.ok;
      work = c.in_ok-take.ensures;
      places = c.in_ok-keep_begun.ensures;
    })
