-- A chain's items are lawful.
use Rattle.std.proofs.Common.{◌≡◌, ℕ, zero, suc, ◌+◌, ◌<◌, ◌≤◌, ◌^◌, ◌%◌, ◌==◌, Bool, true, false, ◌&&◌, ◌||◌, nat_le, List, [], ◌∷◌, ◌++◌, All, refl, ap, ◌∙◌, arith}
use Rattle.std.specs.Prelude.{decimal}
use Rattle.std.specs.List.{list_all}
use Rattle.std.proofs.lemmas.Bool.Decides.{nat_tests}
use Rattle.std.proofs.lemmas.Fmt.{decimal_by_steps, length-decimal-le}
use Rattle.std.proofs.lemmas.List.Elements.{All-nil, All-cons}
use Rattle.std.proofs.lemmas.List.Folds.{list_all-append}
use Rattle.std.proofs.lemmas.Nat.Gcd.{IsGcd-from_mod, IsGcd-from_zero, IsGcd-swap}
use Rattle.ps_meaning.specs.Formula.{Implies}
use Rattle.ps_meaning.specs.Names.{IsName, is_letter, is_digit, is_word_byte}
use Rattle.ps_text.specs.Canonical.{IsReduced, IsWritable, AreLawful}
use Rattle.ps_problem.specs.Drafts.{HasReducedValues}
use Rattle.ps_make.specs.declared.made.TheConstants.{MOST_LINKS}
use Rattle.ps_make.specs.Chain.{chain_atom, first_item, link, links_from, asked_of, made_items}
use Rattle.ps_make.specs.Lines.{atom_name}

-- ---- names
middle : (a b c : Bool) → b ≡ true → (a || b || c) ≡ true
middle true b c e = refl
middle false b c e = rw e refl

digit_is_word_byte : (d : ℕ) → d < 10 → is_word_byte (48 + d) ≡ true
digit_is_word_byte d h =
    let low : nat_le 48 (48 + d) ≡ true = grind (arith, nat_tests) in
    let high : nat_le (48 + d) 57 ≡ true = grind (arith, nat_tests) in
    let digit : is_digit (48 + d) ≡ true = rw (low, high) refl in
    middle (is_letter (48 + d)) (is_digit (48 + d)) (48 + d == 95) digit

-- the digits of a number are bytes of a word
digits_are_word_bytes : (n : ℕ) → n < 2 ^ 64 → list_all is_word_byte (decimal n) ≡ true
digits_are_word_bytes n h = decimal_by_steps (λ m ds. list_all is_word_byte ds ≡ true) one more n h
  where
    one : (m : ℕ) → m < 10 → list_all is_word_byte ((48 + m) ∷ []) ≡ true
    one m l = ap (λ b. b && true) (digit_is_word_byte m l)

    more : (m : ℕ) (ds : List ℕ) → 10 ≤ m → list_all is_word_byte ds ≡ true → list_all is_word_byte (ds ++ ((48 + m % 10) ∷ [])) ≡ true
    more m ds l e =
        list_all-append is_word_byte ds ((48 + m % 10) ∷ []) ∙ ap (λ b. b && list_all is_word_byte ((48 + m % 10) ∷ [])) e ∙ one (m % 10) (omega arith)

named : (i : ℕ) → i ≤ MOST_LINKS → IsName (atom_name i)
named i few = record {
  word = digits_are_word_bytes i (omega (arith, few));
  short = (let l = length-decimal-le 2 i (omega arith) (omega (arith, few)) (omega (arith, few)) in omega (arith, l));
  free = refl;
}

-- ---- values
nine_tenths : IsReduced (record { num = 9; den = 10 })
nine_tenths = record {
  lowest = IsGcd-swap 10 9 1 (IsGcd-from_mod 10 9 1 (IsGcd-from_mod 9 1 1 (IsGcd-from_zero 1 0 refl)));
  some = omega arith;
  small = omega arith;
  least = omega arith;
}

most_hundredths : IsReduced (record { num = 99; den = 100 })
most_hundredths = record {
  lowest = IsGcd-swap 100 99 1 (IsGcd-from_mod 100 99 1 (IsGcd-from_mod 99 1 1 (IsGcd-from_zero 1 0 refl)));
  some = omega arith;
  small = omega arith;
  least = omega arith;
}

-- ---- items
atom_writable : (i : ℕ) → i ≤ MOST_LINKS → IsWritable (chain_atom i)
atom_writable i few = record { names = named i few; nests = tt }

link_writable : (i : ℕ) → i < MOST_LINKS → IsWritable (Implies (chain_atom i) (chain_atom (i + 1)))
link_writable i few = record { names = (named i (omega (arith, few)), named (i + 1) (omega (arith, few))); nests = (tt, omega arith, tt) }

links_lawful : (n i m : ℕ) → i + n ≤ MOST_LINKS → m ≤ MOST_LINKS → AreLawful (links_from i n ++ asked_of m ∷ [])
links_lawful zero i m few last = ((atom_writable m last, tt), tt)
links_lawful (suc n) i m few last = ((link_writable i (omega (arith, few)), tt, most_hundredths, tt), links_lawful n (i + 1) m (omega (arith, few)) last)

pub chain_lawful : (n : ℕ) → n ≤ MOST_LINKS → AreLawful (made_items n)
chain_lawful n few = ((atom_writable 0 (omega arith), tt, nine_tenths, tt), links_lawful n 0 n (omega (arith, few)) few)

-- the values are reduced, however long a chain is
links_reduced : (n i m : ℕ) → All HasReducedValues (links_from i n ++ asked_of m ∷ [])
links_reduced zero i m = All-cons HasReducedValues (asked_of m) [] tt (All-nil HasReducedValues)
links_reduced (suc n) i m = All-cons HasReducedValues (link i) (links_from (i + 1) n ++ asked_of m ∷ []) (most_hundredths, tt) (links_reduced n (i + 1) m)

pub chain_reduced : (n : ℕ) → All HasReducedValues (made_items n)
chain_reduced n = All-cons HasReducedValues first_item (links_from 0 n ++ asked_of n ∷ []) (nine_tenths, tt) (links_reduced n 0 n)
