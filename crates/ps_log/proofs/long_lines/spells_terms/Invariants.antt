use Rattle.std.proofs.Common.{length}
use Rattle.std.specs.Prelude.{◌↔◌}
use Rattle.ps_log.specs.LongTexts.{SpellTerms}
use Rattle.ps_log.specs.Spellings.{words_of}
use Rattle.ps_log.proofs.long_lines.spells_terms.Given as goal

abbrev pub invariant-loop-after : goal.invariant-loop-after
invariant-loop-after l = SpellTerms (words_of l.text) ↔ SpellTerms (words_of l.rest)

abbrev pub decreases-loop-after : goal.decreases-loop-after
decreases-loop-after l = length l.rest
