-- Lines of steps that are read.
use Rattle.std.proofs.Common.{◌≡◌, ◌≢◌, ℕ, ◌==◌, ℤ, pos, negsuc, false, List, [], ◌∷◌, ◌++◌, map, Option, Some, refl, sym, ap, subst, ◌∙◌, append_assoc, arith, get_or, All}
use Rattle.std.proofs.Common.{to_z, of_z, FitsSigned as SFits}
use mir.Syntax.{w128}
use Rattle.std.proofs.lemmas.Int.{to_z-of_z}
use Rattle.std.proofs.lemmas.List.Splits.{slice_split_at, slice_split_none}
use Rattle.ps_log.specs.Spellings.{Spells, SpellAll}
use Rattle.ps_log.specs.Spellings.{words_of}
use Rattle.ps_log.specs.Numbers.{capped, AreNumbersOf, words_after}
use Rattle.ps_log.proofs.Spelled.{spelled-push, spelled-middle}

-- the numbers of the words before the rest of a text
pub record ReadSoFar (text : List ℕ) (rest : Option (List ℕ)) (numbers : List ℤ) : Type 0 where
  pub done : List (List ℕ)
  pub words : words_of text ≡ done ++ words_after rest
  pub numbers_are : AreNumbersOf done numbers

-- a byte that is no separator fails the test for it
other_byte : (sep b : ℕ) → b ≢ sep → (b == sep) ≡ false
other_byte sep b h = grind (arith, h)

pub fail_all : (sep : ℕ) (bs : List ℕ) → All (λ b. b ≢ sep) bs → All (λ b. (b == sep) ≡ false) bs
fail_all sep bs h k d lt = other_byte sep (get_or bs k d) (h k d lt)

-- the words of a text whose first word ends at a space
pub words-cut : (text word after : List ℕ) → text ≡ word ++ 32 ∷ after → All (λ b. b ≢ 32) word → words_of text ≡ word ∷ words_of after
words-cut text word after e h = rw e (slice_split_at (λ b. b == 32) word 32 after (fail_all 32 word h) refl)

pub words-one : (text : List ℕ) → All (λ b. b ≢ 32) text → words_of text ≡ text ∷ []
words-one text h = slice_split_none (λ b. b == 32) text (fail_all 32 text h)

map-push : (zs : List ℤ) (z : ℤ) → map capped (zs ++ z ∷ []) ≡ map capped zs ++ capped z ∷ []
map-push [] z = refl
map-push (y ∷ ys) z = ap (λ r. capped y ∷ r) (map-push ys z)

-- one more word is read
pub read-more : (text bytes word : List ℕ) (after : Option (List ℕ)) (numbers : List ℤ) (n z : ℤ) → ReadSoFar text (Some bytes) numbers
    → words_of bytes ≡ word ∷ words_after after → Spells word z → n ≡ capped z → ReadSoFar text after (numbers ++ n ∷ [])
read-more text bytes word after numbers n z r w s c = record {
  done = r.done ++ word ∷ [];
  words = r.words ∙ ap (λ x. r.done ++ x) w ∙ sym (append_assoc r.done (word ∷ []) (words_after after));
  numbers_are = record {
    exact = r.numbers_are.exact ++ z ∷ [];
    spelled = spelled-push r.done r.numbers_are.exact word z r.numbers_are.spelled s;
    cut = rw (r.numbers_are.cut, c) (sym (map-push r.numbers_are.exact z));
  };
}

-- a word that spells nothing
pub read-fails : (text bytes word : List ℕ) (after : Option (List ℕ)) (numbers : List ℤ) → ReadSoFar text (Some bytes) numbers
    → words_of bytes ≡ word ∷ words_after after → ((z : ℤ) → Spells word z → ⊥) → (exact : List ℤ) → SpellAll (words_of text) exact → ⊥
read-fails text bytes word after numbers r w none exact s =
    let cut : words_of text ≡ r.done ++ word ∷ words_after after = r.words ∙ ap (λ x. r.done ++ x) w in
    let found = spelled-middle r.done word (words_after after) exact (subst (λ ws. SpellAll ws exact) cut s) in
    none found.0 found.1

capped-fits : (z : ℤ) → SFits w128 (capped z)
capped-fits (pos n) = omega arith
capped-fits (negsuc n) = omega arith

-- a number that was cut off has 128 bits
pub capped-kept : (n z : ℤ) → n ≡ capped z → to_z w128 (of_z w128 n) ≡ capped z
capped-kept n z e = to_z-of_z w128 n (subst (SFits w128) (sym e) (capped-fits z)) ∙ e
