-- Literals up to a closing 0.
use Rattle.std.proofs.Common.{◌≡◌, ℕ, ◌<◌, max, ℤ, unsigned_abs, Bool, true, false, Option, Some, None, List, [], ◌∷◌, ◌++◌, arith, refl, sym, ap, ◌∙◌, true≢false, append_assoc, ◌⊎◌, inl, inr}
use Rattle.std.specs.Str.{bytes_eq}
use Rattle.std.proofs.lemmas.Slice.Eq.{bytes_eq-Decides}
use Rattle.ps_wcnf.specs.Limits.{last_in}
use Rattle.ps_wcnf.specs.Spelling.{is_literal, literal_of, literals_in, with_first}
use Rattle.ps_wcnf.specs.Counted.{IsTaken, AreEnded}
use Rattle.ps_wcnf.specs.declared.line.Ended.TheVariants as ended

-- more literals behind these, if there are more
abbrev pub behind : List ℤ → Option (List ℤ) → Option (List ℤ)
behind exact None = None
behind exact (Some ls) = Some (exact ++ ls)

behind-none : (o : Option (List ℤ)) → o ≡ behind [] o
behind-none None = refl
behind-none (Some ls) = refl

behind-first : (exact : List ℤ) (l : ℤ) (o : Option (List ℤ)) → behind exact (with_first l o) ≡ behind (exact ++ l ∷ []) o
behind-first exact l None = refl
behind-first exact l (Some ls) = ap Some (sym (append_assoc exact (l ∷ []) ls))

abbrev pub zero_word : List ℕ
zero_word = 48 ∷ []

is-zero : (w : List ℕ) → bytes_eq w zero_word ≡ true → w ≡ zero_word
is-zero w e = (bytes_eq-Decides w zero_word).0 e

zero-is-none : is_literal zero_word ≡ false
zero-is-none = refl

-- a word that isn't 0 is a literal, or no literals are spelled
other-first : (w : List ℕ) (ws : List (List ℕ)) → bytes_eq w zero_word ≡ false → is_literal w ≡ true → literals_in (w ∷ ws) ≡ with_first (literal_of w) (literals_in ws)
other-first w [] other is = rw other refl
other-first w (x ∷ ws) other is = rw is refl

other-none : (w : List ℕ) (ws : List (List ℕ)) → bytes_eq w zero_word ≡ false → is_literal w ≡ false → literals_in (w ∷ ws) ≡ None
other-none w [] other is = rw other refl
other-none w (x ∷ ws) other is = rw is refl

-- the literals so far, and whether one of them is too large
pub record IsSoFar (all rest : List (List ℕ)) (large : Bool) (lits : List ℤ) : Type 0 where
  pub exact : List ℤ
  pub spelled : literals_in all ≡ behind exact (literals_in rest)
  pub small : large ≡ false → lits ≡ exact
  pub big : large ≡ true → 1024 < last_in exact

pub so-far-start : (all : List (List ℕ)) → IsSoFar all all false []
so-far-start all = record { exact = []; spelled = behind-none (literals_in all); small = λ e. refl; big = λ e. absurd (true≢false (sym e)) }

last-push : (ls : List ℤ) (l : ℤ) → last_in (ls ++ l ∷ []) ≡ max (last_in ls) (unsigned_abs l)
last-push [] l = omega arith
last-push (m ∷ ls) l = let r = last-push ls l in omega (arith, r)

by_either : {A B C : Type 0} → A ⊎ B → (A → C) → (B → C) → C
by_either (inl a) f g = f a
by_either (inr b) f g = g b

pub so-far-more : (all rest after : List (List ℕ)) (w : List ℕ) (old new : List ℤ) (large now : Bool) → IsSoFar all rest large old → rest ≡ w ∷ after
    → bytes_eq w zero_word ≡ false → IsTaken w old new large now → IsSoFar all after now new
so-far-more all rest after w old new large now so cut other taken =
    let last = last-push so.exact (literal_of w) in
    record {
      exact = so.exact ++ literal_of w ∷ [];
      spelled = so.spelled ∙ ap (λ r. behind so.exact (literals_in r)) cut ∙ ap (behind so.exact) (other-first w after other taken.literal) ∙ behind-first so.exact (literal_of w) (literals_in after);
      small = λ e. let t = taken.small e in t.1 ∙ ap (λ r. r ++ literal_of w ∷ []) (so.small t.0);
      big = λ e. by_either (taken.big e) (λ l. let b = so.big l in omega (arith, b, last)) (λ b. omega (arith, b, last));
    }

pub so-far-bad : (all rest after : List (List ℕ)) (w : List ℕ) (large : Bool) (lits : List ℤ) → IsSoFar all rest large lits → rest ≡ w ∷ after
    → bytes_eq w zero_word ≡ false → is_literal w ≡ false → literals_in all ≡ None
so-far-bad all rest after w large lits so cut other none =
    so.spelled ∙ ap (λ r. behind so.exact (literals_in r)) cut ∙ ap (behind so.exact) (other-none w after other none)

pub so-far-open : (all rest : List (List ℕ)) (large : Bool) (lits : List ℤ) → IsSoFar all rest large lits → rest ≡ [] → literals_in all ≡ None
so-far-open all rest large lits so none = so.spelled ∙ ap (λ r. behind so.exact (literals_in r)) none

zero-more : (w x : List ℕ) (ws : List (List ℕ)) → bytes_eq w zero_word ≡ true → literals_in (w ∷ x ∷ ws) ≡ None
zero-more w x ws is = let e : is_literal w ≡ false = ap is_literal (is-zero w is) ∙ zero-is-none in rw e refl

pub so-far-zero : (all rest after behind_it : List (List ℕ)) (w x : List ℕ) (large : Bool) (lits : List ℤ) → IsSoFar all rest large lits → rest ≡ w ∷ after → after ≡ x ∷ behind_it
    → bytes_eq w zero_word ≡ true → literals_in all ≡ None
so-far-zero all rest after behind_it w x large lits so cut more is =
    so.spelled ∙ ap (λ r. behind so.exact (literals_in r)) (cut ∙ ap (λ r. w ∷ r) more) ∙ ap (behind so.exact) (zero-more w x behind_it is)

append-none : (ls : List ℤ) → ls ++ [] ≡ ls
append-none [] = refl
append-none (l ∷ ls) = ap (λ r. l ∷ r) (append-none ls)

closed : (all rest after : List (List ℕ)) (w : List ℕ) (large : Bool) (lits : List ℤ) (so : IsSoFar all rest large lits) → rest ≡ w ∷ after → after ≡ []
    → bytes_eq w zero_word ≡ true → literals_in all ≡ Some so.exact
closed all rest after w large lits so cut none is =
    let one : literals_in (w ∷ []) ≡ Some [] = rw is refl in
    so.spelled ∙ ap (λ r. behind so.exact (literals_in r)) (cut ∙ ap (λ r. w ∷ r) none) ∙ ap (behind so.exact) one ∙ ap Some (append-none so.exact)

pub closed-large : (all rest after : List (List ℕ)) (w : List ℕ) (large : Bool) (lits : List ℤ) → IsSoFar all rest large lits → rest ≡ w ∷ after → after ≡ []
    → bytes_eq w zero_word ≡ true → large ≡ true → AreEnded all ended.Large
closed-large all rest after w large lits so cut none is big = (so.exact, closed all rest after w large lits so cut none is, so.big big)

pub closed-small : (all rest after : List (List ℕ)) (w : List ℕ) (large : Bool) (lits : List ℤ) → IsSoFar all rest large lits → rest ≡ w ∷ after → after ≡ []
    → bytes_eq w zero_word ≡ true → large ≡ false → AreEnded all (ended.Literals lits)
closed-small all rest after w large lits so cut none is small = closed all rest after w large lits so cut none is ∙ ap Some (sym (so.small small))
