use Rattle.std.proofs.Common.{subst, sym, option_copied, ◌≡◌, ◌↔◌, false, true≢false}
use Rattle.std.specs.Prelude.{[], IsTrue}
use Rattle.ps_log.specs.Numbers.{words_after}
use Rattle.ps_reader.proofs.Sequences.{has_words}
use Rattle.ps_reader.proofs.words.Words.is_empty.Goals as goal

pub returns-in-Some : goal.returns-in-Some
returns-in-Some c =
    subst (λ r. IsTrue false ↔ (words_after (option_copied r) ≡ [])) (sym c.in-Some.is) ((λ t. absurd (true≢false (sym t))), (λ e. absurd (has_words c.in-Some.field-0.now e)))
