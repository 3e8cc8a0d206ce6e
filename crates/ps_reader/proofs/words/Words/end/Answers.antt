use Rattle.std.proofs.Common.{subst, sym, option_copied}
use Rattle.ps_log.specs.Numbers.{words_after}
use Rattle.std.specs.Prelude.{[], Err, ⊤}
use Rattle.ps_reader.specs.declared.line_fault.LineFault.TheVariants.{NotCanonical}
use Rattle.ps_reader.specs.Read.{AreWordsRead}
use Rattle.ps_reader.proofs.Sequences.{some_left}
use Rattle.ps_reader.proofs.words.Words.end.Goals as goal

pub returns-in-Some : goal.returns-in-Some
returns-in-Some c =
    subst (λ r. AreWordsRead {A = Unit {0}} (λ u. []) (λ u. ⊤) (λ u. ⊤) (words_after (option_copied r)) (Err NotCanonical)) (sym c.in-Some.is) (some_left c.in-Some.field-0.now)
