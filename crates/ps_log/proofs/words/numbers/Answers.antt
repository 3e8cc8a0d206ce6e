use Rattle.std.proofs.Common.{option_copied, sym, subst, to_z, of_z}
use mir.Syntax.{w128}
use Rattle.ps_log.proofs.StepLines.{ReadSoFar, read-fails, read-more, capped-kept}
use Rattle.ps_log.proofs.words.numbers.Goals as goal

pub returns-in-None : goal.returns-in-None
returns-in-None c =
    read-fails c.args.text.now c.in-Some.bytes.now c.split_word.result.0.now (option_copied c.split_word.result.1) c.loop-rest.numbers
    (subst (λ r. ReadSoFar c.args.text.now (option_copied r) c.loop-rest.numbers) c.in-Some.is c.loop-rest.invariant) c.split_word.ensures.words c.in-None.ensures

pub loop-rest-preserved : goal.loop-rest-preserved
loop-rest-preserved c =
    subst (λ ns. ReadSoFar c.args.text.now (option_copied c.split_word.result.1) ns) (sym c.in_ok-push-in-Some-number.ensures.ok)
    (read-more c.args.text.now c.in-Some.bytes.now c.split_word.result.0.now (option_copied c.split_word.result.1) c.loop-rest.numbers (to_z w128 (of_z w128 c.in-Some-number.n))
    c.in-Some-number.ensures.0
    (subst (λ r. ReadSoFar c.args.text.now (option_copied r) c.loop-rest.numbers) c.in-Some.is c.loop-rest.invariant)
    c.split_word.ensures.words c.in-Some-number.ensures.1 (capped-kept c.in-Some-number.n c.in-Some-number.ensures.0 c.in-Some-number.ensures.2))
