-- Parts of a problem's sentences, by truth values.
use Rattle.std.proofs.Common.{◌≡◌, ◌<◌, ◌≤◌, ◌+◌, ◌-◌, ℕ, zero, suc, ℤ, pos, negsuc, Bool, true, false, ◌⊎◌, inl, inr, Some, None, List, [], ◌∷◌, ◌++◌, length, map, drop, set, get_or, All, refl, sym, ap, ◌∙◌, arith}
use Rattle.std.specs.Prelude.{◌||◌}
use Rattle.std.proofs.lemmas.Bool.{true≢false}
use Rattle.std.proofs.Math.Seq.{drop-cons}
use Rattle.std.proofs.lemmas.List.{drop-drop, length-append, length-drop}
use Rattle.std.proofs.lemmas.List.Elements.{All-nil, All-cons, All-head, All-tail}
use Rattle.ps_meaning.specs.Bounds as meaning
use Rattle.ps_problem.specs.declared.sentence.Sentence.{Sentence}
use Rattle.ps_problem.specs.declared.sentence.Sentence.TheVariants.{Plain, Linear}
use Rattle.ps_problem.specs.declared.limits.TheConstants.{MOST_BOUNDS}
use Rattle.ps_problem.specs.Problems.{Parts, AreParts, BoundIn, bounds_in, bounds_of_sentence}
use Rattle.ps_claims.specs.Duals.{AreZeroElsewhere}
use Rattle.ps_runs.specs.Kept.{kept_of, flags_of}
use Rattle.ps_runs.proofs.Kept.{part-next}
use Rattle.ps_explain.specs.Used.{is_other, is_used, has_other, used_of}
use Rattle.ps_explain.specs.Explanations.{AreAmong}
use Rattle.ps_explain.specs.Steps.{IsAmongAt}

-- ---- how many there are
-- a sentence has a bound or two
some_bound : (s : Sentence) → 1 ≤ length (bounds_of_sentence s)
some_bound (Plain first None) = omega arith
some_bound (Plain first (Some second)) = omega arith
some_bound (Linear l) = omega arith

sentences_bounds : (ss : List Sentence) → length ss ≤ length (bounds_in ss)
sentences_bounds [] = omega arith
sentences_bounds (s ∷ ss) = omega (arith, sentences_bounds ss, some_bound s, length-append (bounds_of_sentence s) (bounds_in ss))

pub few_sentences : (p : Parts) → AreParts p → length p.sentences ≤ MOST_BOUNDS
few_sentences p are = (let h = sentences_bounds p.sentences in let few = are.few_bounds in omega (arith, h, few))

-- ---- among others
pub among_before : (few : List Bool) (many : List Bool) (i : ℕ) → AreAmong few (set many i false) → AreAmong few many
among_before [] [] i h = h
among_before [] (b ∷ bs) zero h = absurd h
among_before [] (b ∷ bs) (suc i) h = absurd h
among_before (a ∷ cs) [] i h = absurd h
among_before (a ∷ cs) (b ∷ bs) zero h = (λ e. absurd (true≢false (sym (h.0 e))), h.1)
among_before (a ∷ cs) (b ∷ bs) (suc i) h = (h.0, among_before cs bs i h.1)

pub among_without : (few many : List Bool) (i : ℕ) → AreAmong few many → AreAmong (set few i false) (set many i false)
among_without [] [] i h = h
among_without [] (b ∷ bs) i h = absurd h
among_without (a ∷ cs) [] i h = absurd h
among_without (a ∷ cs) (b ∷ bs) zero h = (λ e. e, h.1)
among_without (a ∷ cs) (b ∷ bs) (suc i) h = (h.0, among_without cs bs i h.1)

pub among_at : (few many : List Bool) (i : ℕ) → AreAmong few many → IsAmongAt few many i
among_at [] [] i h e = e
among_at [] (b ∷ bs) i h e = absurd h
among_at (a ∷ cs) [] i h e = absurd h
among_at (a ∷ cs) (b ∷ bs) zero h e = h.0 e
among_at (a ∷ cs) (b ∷ bs) (suc i) h e = among_at cs bs i h.1 e

-- the one that was left out isn't kept
pub left_out : (ks : List Bool) (i : ℕ) → get_or (set ks i false) i false ≡ true → ⊥
left_out [] i e = true≢false (sym e)
left_out (k ∷ ks) zero e = true≢false (sym e)
left_out (k ∷ ks) (suc i) e = left_out ks i e

-- a kept one that is left out and put back
pub put_back : (ks : List Bool) (i : ℕ) → get_or ks i false ≡ true → set (set ks i false) i true ≡ ks
put_back [] i e = refl
put_back (k ∷ ks) zero e = ap (λ b. b ∷ ks) (sym e)
put_back (k ∷ ks) (suc i) e = ap (λ bs. k ∷ bs) (put_back ks i e)

pub kept_inside : (ks : List Bool) (i : ℕ) → get_or ks i false ≡ true → i < length ks
kept_inside [] i e = absurd (true≢false (sym e))
kept_inside (k ∷ ks) zero e = omega arith
kept_inside (k ∷ ks) (suc i) e = (let h = kept_inside ks i e in omega (arith, h))

-- what holds of the bounds of more sentences holds of those of fewer
module _ (Q : meaning.Bound → Type 0) (f : BoundIn → meaning.Bound) where
  all_behind : (xs ys : List BoundIn) → All Q (map f (xs ++ ys)) → All Q (map f ys)
  all_behind [] ys all = all
  all_behind (x ∷ xs) ys all = all_behind xs ys (All-tail Q (f x) (map f (xs ++ ys)) all)

  all_before : (xs ys zs : List BoundIn) → All Q (map f (xs ++ ys)) → All Q (map f zs) → All Q (map f (xs ++ zs))
  all_before [] ys zs all next = next
  all_before (x ∷ xs) ys zs all next =
      All-cons Q (f x) (map f (xs ++ zs)) (All-head Q (f x) (map f (xs ++ ys)) all) (all_before xs ys zs (All-tail Q (f x) (map f (xs ++ ys)) all) next)

  pub all_among : (few many : List Bool) (ss : List Sentence) → AreAmong few many → All Q (map f (bounds_in (kept_of many ss))) → All Q (map f (bounds_in (kept_of few ss)))
  all_among [] many ss h all = All-nil Q
  all_among (a ∷ cs) [] ss h all = absurd h
  all_among (a ∷ cs) (b ∷ bs) [] h all = all
  all_among (true ∷ cs) (true ∷ bs) (s ∷ ss) h all =
      all_before (bounds_of_sentence s) (bounds_in (kept_of bs ss)) (bounds_in (kept_of cs ss)) all
      (all_among cs bs ss h.1 (all_behind (bounds_of_sentence s) (bounds_in (kept_of bs ss)) all))
  all_among (true ∷ cs) (false ∷ bs) (s ∷ ss) h all = absurd (true≢false (sym (h.0 refl)))
  all_among (false ∷ cs) (true ∷ bs) (s ∷ ss) h all = all_among cs bs ss h.1 (all_behind (bounds_of_sentence s) (bounds_in (kept_of bs ss)) all)
  all_among (false ∷ cs) (false ∷ bs) (s ∷ ss) h all = all_among cs bs ss h.1 all

-- ---- the used sentences
pub length_used : (ss : List Sentence) (ys : List ℤ) → length (used_of ss ys) ≡ length ss
length_used [] ys = refl
length_used (s ∷ ss) ys = ap suc (length_used ss (drop (length (bounds_of_sentence s)) ys))

not_other : (y : ℤ) → is_other y ≡ false → y ≡ pos 0
not_other (pos zero) e = refl
not_other (pos (suc n)) e = absurd (true≢false e)
not_other (negsuc n) e = absurd (true≢false e)

neither : (a b : Bool) → (a || b) ≡ false → (a ≡ false) × (b ≡ false)
neither false b e = (refl, e)
neither true b e = absurd (true≢false e)

one_of : (a b : Bool) → (a || b) ≡ true → (a ≡ true) ⊎ (b ≡ true)
one_of true b e = inl refl
one_of false b e = inr e

other_kept : (k : Bool) (y : ℤ) → (k ≡ false → y ≡ pos 0) → is_other y ≡ true → k ≡ true
other_kept true y h e = refl
other_kept false y h e = absurd (true≢false (sym e ∙ ap is_other (h refl)))

-- the multipliers of one sentence, and those behind them
module _ {T : Type 0} (k : Bool) (more : List Bool) where
  zero_first : (xs : List T) (ys : List ℤ) → length xs ≤ length ys → (k ≡ false → has_other (length xs) ys ≡ false) → AreZeroElsewhere more (drop (length xs) ys)
      → AreZeroElsewhere (map (λ (x : T). k) xs ++ more) ys
  zero_first [] ys there none rest = rest
  zero_first (x ∷ xs) [] there none rest = absurd (omega (arith, there))
  zero_first (x ∷ xs) (y ∷ ys) there none rest = (
    λ e. not_other y (neither (is_other y) (has_other (length xs) ys) (none e)).0,
    zero_first xs ys (omega (arith, there)) (λ e. (neither (is_other y) (has_other (length xs) ys) (none e)).1) rest,
  )

  first_kept : (xs : List T) (ys : List ℤ) → AreZeroElsewhere (map (λ (x : T). k) xs ++ more) ys → has_other (length xs) ys ≡ true → k ≡ true
  first_kept [] ys h e = absurd (true≢false (sym e))
  first_kept (x ∷ xs) [] h e = absurd h
  first_kept (x ∷ xs) (y ∷ ys) h e = elim (one_of (is_other y) (has_other (length xs) ys) e) [
    | inl own ↦ other_kept k y h.0 own
    | inr later ↦ first_kept xs ys h.1 later
  ]

  zero_behind : (xs : List T) (ys : List ℤ) → AreZeroElsewhere (map (λ (x : T). k) xs ++ more) ys → AreZeroElsewhere more (drop (length xs) ys)
  zero_behind [] ys h = h
  zero_behind (x ∷ xs) [] h = absurd h
  zero_behind (x ∷ xs) (y ∷ ys) h = zero_behind xs ys h.1

-- the multipliers of the other sentences are 0
pub others_zero : (ss : List Sentence) (ys : List ℤ) → length ys ≡ length (bounds_in ss) → AreZeroElsewhere (flags_of (used_of ss ys) ss) ys
others_zero [] [] e = tt
others_zero [] (y ∷ ys) e = absurd (omega (arith, e))
others_zero (s ∷ ss) ys e =
    let n = length (bounds_of_sentence s) in
    let all = length-append (bounds_of_sentence s) (bounds_in ss) in
    let left = length-drop n ys in
    zero_first (has_other n ys) (flags_of (used_of ss (drop n ys)) ss) (bounds_of_sentence s) ys (omega (arith, e, all)) (λ own. own)
    (others_zero ss (drop n ys) (omega (arith, e, all, left)))

-- the used sentences are among those outside of which the multipliers are 0
pub used_among : (ks : List Bool) (ss : List Sentence) (ys : List ℤ) → length ks ≡ length ss → AreZeroElsewhere (flags_of ks ss) ys → AreAmong (used_of ss ys) ks
used_among [] [] ys e h = tt
used_among [] (s ∷ ss) ys e h = absurd (omega (arith, e))
used_among (k ∷ ks) [] ys e h = absurd (omega (arith, e))
used_among (k ∷ ks) (s ∷ ss) ys e h = (
  first_kept k (flags_of ks ss) (bounds_of_sentence s) ys h,
  used_among ks ss (drop (length (bounds_of_sentence s)) ys) (omega (arith, e)) (zero_behind k (flags_of ks ss) (bounds_of_sentence s) ys h),
)

-- ---- loops
none_other : (n : ℕ) → has_other n [] ≡ false
none_other zero = refl
none_other (suc n) = refl

-- a multiplier more
other_next : (ys : List ℤ) (at n : ℕ) → has_other (suc n) (drop at ys) ≡ (is_used ys at || has_other n (drop (suc at) ys))
other_next [] zero n = sym (none_other n)
other_next [] (suc at) n = sym (none_other n)
other_next (y ∷ ys) zero n = refl
other_next (y ∷ ys) (suc at) n = other_next ys at n

module _ (ys : List ℤ) (place bounds : ℕ) where
  -- the multipliers from here on tell what all of them do
  abbrev TellsFrom : ℕ → Type 0
  TellsFrom at = has_other (place + bounds - at) (drop at ys) ≡ has_other bounds (drop place ys)

  other_now : (at : ℕ) → at < place + bounds → has_other (place + bounds - at) (drop at ys) ≡ (is_used ys at || has_other (place + bounds - (at + 1)) (drop (at + 1) ys))
  other_now at h =
      let more : place + bounds - at ≡ suc (place + bounds - (at + 1)) = omega (arith, h) in
      let next : at + 1 ≡ suc at = omega arith in
      rw (more, next) (other_next ys at (place + bounds - suc at))

  pub other_first : TellsFrom place
  other_first = ap (λ n. has_other n (drop place ys)) (omega arith)

  pub other_found : (at : ℕ) (r : Bool) → at < place + bounds → r ≡ is_used ys at → r ≡ true → TellsFrom at → true ≡ has_other bounds (drop place ys)
  other_found at r h is e tells =
      sym (other_now at h ∙ ap (λ b. b || has_other (place + bounds - (at + 1)) (drop (at + 1) ys)) (sym is ∙ e)) ∙ tells

  pub other_passed : (at : ℕ) (r : Bool) → at < place + bounds → r ≡ is_used ys at → r ≡ false → TellsFrom at → TellsFrom (at + 1)
  other_passed at r h is e tells =
      sym (other_now at h ∙ ap (λ b. b || has_other (place + bounds - (at + 1)) (drop (at + 1) ys)) (sym is ∙ e)) ∙ tells

  pub other_none : (at : ℕ) → place + bounds ≤ at → TellsFrom at → false ≡ has_other bounds (drop place ys)
  other_none at h tells = let none : 0 ≡ place + bounds - at = omega (arith, h) in ap (λ n. has_other n (drop at ys)) none ∙ tells

-- a sentence more
pub used_next : (ss : List Sentence) (ys : List ℤ) (i at n : ℕ) (s : Sentence) (b : Bool) (used more all : List Bool) → i < length ss → n ≡ length (bounds_of_sentence (get_or ss i s))
    → b ≡ has_other n (drop at ys) → more ≡ used ++ b ∷ [] → used ++ used_of (drop i ss) (drop at ys) ≡ all → more ++ used_of (drop (i + 1) ss) (drop (at + n) ys) ≡ all
used_next ss ys i at n s b used more all inside count is grown h =
    let rest = drop (suc i) ss in
    let m = length (bounds_of_sentence (get_or ss i s)) in
    let next : i + 1 ≡ suc i = omega arith in
    let head : has_other m (drop at ys) ≡ b = ap (λ k. has_other k (drop at ys)) (sym count) ∙ sym is in
    let tail : used_of rest (drop m (drop at ys)) ≡ used_of rest (drop (at + n) ys) = ap (used_of rest) (ap (λ k. drop k (drop at ys)) (sym count) ∙ drop-drop n at ys) in
    let split : used_of (drop i ss) (drop at ys) ≡ (b ∷ []) ++ used_of rest (drop (at + n) ys) =
    ap (λ ts. used_of ts (drop at ys)) (drop-cons ss i s inside) ∙ (λ j. head j ∷ tail j) in
    rw next (part-next used (b ∷ []) (used_of (drop i ss) (drop at ys)) (used_of rest (drop (at + n) ys)) all more grown split h)
