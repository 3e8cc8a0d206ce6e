use Rattle.std.proofs.Common.{sym, subst, refl, ◌∙◌, ap}
use Rattle.ps_lex.specs.declared.mode.Mode.TheVariants as mode
use Rattle.ps_lex.specs.Lexing.{IsCappedMode}
use Rattle.ps_lex.proofs.Words.{state}
use Rattle.ps_lex.proofs.Letters.{taken_capped, letters_pass}
use Rattle.ps_lex.proofs.lexer.Lexer.pass.Goals as goal

pub invariant_of-self : goal.invariant_of-self
invariant_of-self c = taken_capped c.in-Word.letters c.args.bytes.now c.take-left.new.self c.take-left.result.now c.take-left.ensures.letters (subst IsCappedMode c.in-Word.is c.self.invariant)

pub returns-in-Word-clause-passes : goal.returns-in-Word-clause-passes
returns-in-Word-clause-passes c =
    letters_pass c.in-Word.letters c.args.bytes.now c.take-left.new.self c.take-left.result.now c.self.inside.began c.self.inside.here c.args.self.now _ _ c.take-left.ensures.letters
    (sym c.self.view_is ∙ ap (λ m. state m c.self.inside.began c.self.inside.here) c.in-Word.is) refl (ap (state (mode.Word c.take-left.new.self) c.self.inside.began) c.along-self-inside.ensures)
