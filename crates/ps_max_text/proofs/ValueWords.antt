-- Words of values.
use Rattle.std.proofs.Common.{◌≡◌, ◌≢◌, ℕ, ◌==◌, ◌<◌, ◌≤◌, Bool, List, [], All, length, map, Ok, Err, sym, ap, subst, ◌∙◌, arith}
use Rattle.ps_answer.specs.Words.{world_text}
use Rattle.ps_reader.specs.Truths.{IsTruth}
use Rattle.ps_reader.specs.declared.line_fault.LineFault.TheVariants.{TooLarge}
use Rattle.ps_reader.proofs.WorldWords.{text_of, same_length}
use Rattle.ps_max_text.specs.Read.{AreValuesRead}

pub long_word : (word : List ℕ) → word ≢ [] → All IsTruth word → 1024 < length word → AreValuesRead word (Err TooLarge)
long_word word n h l = (map (λ b. b == 49) word, (text_of word n h, tt), λ k. omega (arith, same_length word, k, l))

pub digits_word : (word : List ℕ) (w : List Bool) → word ≢ [] → All IsTruth word → length word ≤ 1024 → w ≡ map (λ b. b == 49) word → AreValuesRead word (Ok w)
digits_word word w n h l e = ((text_of word n h ∙ ap world_text (sym e), tt), subst (λ x. length x ≤ 1024) (sym e) (omega (arith, same_length word, l)))
