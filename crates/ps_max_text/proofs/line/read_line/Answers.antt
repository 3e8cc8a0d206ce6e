use Rattle.std.proofs.Common.{subst, Err}
use Rattle.ps_log.specs.Spellings.{words_of}
use Rattle.ps_max_text.specs.Read.{IsItemRead}
use Rattle.ps_max_text.proofs.FirstLine.{too_large}
use Rattle.ps_max_text.proofs.line.read_line.Goals as goal

pub returns-in-Err-TooLarge-clause-fault : goal.returns-in-Err-TooLarge-clause-fault
returns-in-Err-TooLarge-clause-fault c =
    too_large c.args.part c.args.bytes.now c.in-Some.cut.0.now c.in-Some.cut.1.now c.in-Some.ensures.found
    (subst (λ w. IsItemRead c.args.part (words_of c.in-Some.cut.0.now) (Err w)) c.in-Err-TooLarge.field-0-is c.in-Err-TooLarge.ensures)
