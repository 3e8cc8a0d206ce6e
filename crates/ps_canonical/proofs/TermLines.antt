-- Terms put behind each other.
use Rattle.std.proofs.Common.{◌≡◌, ℕ, zero, suc, ◌+◌, ◌<◌, ◌≤◌, ◌==◌, ℤ, pos, negsuc, Bool, true, false, List, [], ◌∷◌, ◌++◌, take, get_or, All, to_z, of_z, w64, length, unsigned_abs, refl, sym, ap, subst, ◌∙◌, append_assoc, append-nil, arith, if◌then◌else◌}
use Rattle.std.specs.Prelude.{Option, Some, None, IfSome, ◌<ℤ◌, ◌≤ℤ◌}
use Rattle.std.proofs.lemmas.Int.{ints}
use Rattle.std.proofs.lemmas.Bool.Decides.{nat_tests}
use Rattle.std.proofs.lemmas.List.{take_more, take_all, length-take-le}
use Rattle.std.proofs.lemmas.List.Elements.{All-head}
use Rattle.ps_text.specs.Grammar.{Term}
use Rattle.ps_text.specs.Canonical.{is_negative, canonical_term, canonical_terms, term_text, further_text, terms_text}
use Rattle.ps_formula.specs.declared.node.Node.{Node}
use Rattle.ps_problem.specs.declared.limits.TheConstants.{MOST_SIZES}
use Rattle.ps_problem.specs.declared.sentence.Linear.{Linear}
use Rattle.ps_problem.specs.declared.sentence.Sentence.TheVariants as sentence
use Rattle.ps_problem.specs.Problems.{Parts, LinearIn, IsLinear, IsBoundIn, IsSentence, bounds_of_sentence, terms_size, AreSmall}
use Rattle.ps_problem.specs.Scales.{lowest}
use Rattle.ps_problem.proofs.RowSums.{small-back}
use Rattle.ps_meaning.specs.Statements.{SignedRatio}
use Rattle.ps_problem.specs.Written.{named_at, summands_from}
use Rattle.ps_canonical.specs.Terms.{sign_text, term_text_of, signed_term_text, terms_text_of, IsSmallLinear}

pub negative-true : (z : ℤ) → z <ℤ pos 0 → is_negative z ≡ true
negative-true (pos n) h = absurd (omega (arith, ints, h))
negative-true (negsuc n) h = refl

pub negative-false : (z : ℤ) → pos 0 ≤ℤ z → is_negative z ≡ false
negative-false (pos n) h = refl
negative-false (negsuc n) h = absurd (omega (arith, ints, h))

-- a linear sentence in order
pub linear-there : (ns : List Node) (l : Linear) → IsSentence ns (sentence.Linear l) → IsLinear ns l
linear-there ns l h = (All-head (IsBoundIn ns) (LinearIn l false) _ h).0

size_within : (ts : List (ℕ × ℤ)) (i : ℕ) (d : ℕ × ℤ) → i < length ts → unsigned_abs (get_or ts i d).1 ≤ terms_size ts
size_within [] i d lt = absurd (omega arith)
size_within (t ∷ ts) zero d lt = omega arith
size_within (t ∷ ts) (suc i) d lt = let h = size_within ts i d (omega arith) in omega arith

pub term-small : (ns : List Node) (l : Linear) (i : ℕ) (d : ℕ × ℤ) → IsLinear ns l → i < length l.terms → unsigned_abs (get_or l.terms i d).1 ≤ MOST_SIZES
term-small ns l i d h lt = let s = h.small in let w = size_within l.terms i d lt in omega (arith, s, w)

-- a term's number, as the machine has it
module _ (ns : List Node) (l : Linear) (h : IsLinear ns l) (xs : List (ℕ × ℤ)) (e : xs ≡ l.terms) (i : ℕ) (d : ℕ × ℤ) (lt : i < length xs) where
  there-small : unsigned_abs (get_or xs i d).1 ≤ MOST_SIZES
  there-small = subst (λ ys. unsigned_abs (get_or ys i d).1 ≤ MOST_SIZES) (sym e) (term-small ns l i d h (subst (λ ys. i < length ys) e lt))

  pub number-back : to_z w64 (of_z w64 (get_or xs i d).1) ≡ (get_or xs i d).1
  number-back = small-back (get_or xs i d).1 there-small

  pub number-small : unsigned_abs (to_z w64 (of_z w64 (get_or xs i d).1)) ≤ MOST_SIZES
  number-small = subst (λ z. unsigned_abs z ≤ MOST_SIZES) (sym number-back) there-small

upper-small : (ts : List (ℕ × ℤ)) (u : Option ℤ) → IfSome u (AreSmall ts) → IfSome u (λ r. unsigned_abs r ≤ MOST_SIZES)
upper-small ts None h = tt
upper-small ts (Some r) h = omega (arith, h)

pub is-small : (ns : List Node) (l : Linear) → IsLinear ns l → IsSmallLinear l
is-small ns l h = record { scale = h.scale_least; right = (let s = h.small in omega (arith, s)); upper = upper-small l.terms l.upper h.small_upper }

module _ (p : Parts) (m : ℕ) where
  further-push : (ts : List (ℕ × ℤ)) (t : ℕ × ℤ) → further_text (canonical_terms (summands_from p m (ts ++ t ∷ [])))
      ≡ further_text (canonical_terms (summands_from p m ts)) ++ signed_term_text p false t.0 (lowest m t.1)
  further-push [] t = ap (λ bs. sign_text false (is_negative (lowest m t.1).num) ++ bs) (append-nil (term_text_of p t.0 (lowest m t.1)))
  further-push (x ∷ ts) t =
      ap (λ bs. sign_text false (is_negative (lowest m x.1).num) ++ (term_text_of p x.0 (lowest m x.1) ++ bs)) (further-push ts t)
      ∙ ap (λ bs. sign_text false (is_negative (lowest m x.1).num) ++ bs)
      (sym (append_assoc (term_text_of p x.0 (lowest m x.1)) (further_text (canonical_terms (summands_from p m ts))) (signed_term_text p false t.0 (lowest m t.1))))
      ∙ sym (append_assoc (sign_text false (is_negative (lowest m x.1).num)) (term_text_of p x.0 (lowest m x.1) ++ further_text (canonical_terms (summands_from p m ts))) (signed_term_text p false t.0 (lowest m t.1)))

  -- a term behind those before it
  pub terms-push : (ts : List (ℕ × ℤ)) (t : ℕ × ℤ) → terms_text_of p m (ts ++ t ∷ []) ≡ terms_text_of p m ts ++ signed_term_text p (length ts == 0) t.0 (lowest m t.1)
  terms-push [] t = ap (λ bs. sign_text true (is_negative (lowest m t.1).num) ++ bs) (append-nil (term_text_of p t.0 (lowest m t.1)))
  terms-push (x ∷ ts) t =
      ap (λ bs. sign_text true (is_negative (lowest m x.1).num) ++ (term_text_of p x.0 (lowest m x.1) ++ bs)) (further-push ts t)
      ∙ ap (λ bs. sign_text true (is_negative (lowest m x.1).num) ++ bs)
      (sym (append_assoc (term_text_of p x.0 (lowest m x.1)) (further_text (canonical_terms (summands_from p m ts))) (signed_term_text p false t.0 (lowest m t.1))))
      ∙ sym (append_assoc (sign_text true (is_negative (lowest m x.1).num)) (term_text_of p x.0 (lowest m x.1) ++ further_text (canonical_terms (summands_from p m ts))) (signed_term_text p false t.0 (lowest m t.1)))
      ∙ ap (λ b. terms_text_of p m (x ∷ ts) ++ signed_term_text p b t.0 (lowest m t.1)) (sym (not-first ts))
    where
      not-first : (us : List (ℕ × ℤ)) → (suc (length us) == 0) ≡ false
      not-first us = grind (arith, nat_tests)

  -- one term more has been written
  terms-more : (ys : List (ℕ × ℤ)) (i : ℕ) (d : ℕ × ℤ) → i < length ys → (before out out' : List ℕ) (r : SignedRatio)
      → out ≡ before ++ terms_text_of p m (take i ys) → r ≡ lowest m (get_or ys i d).1 → out' ≡ out ++ signed_term_text p (i == 0) (get_or ys i d).0 r
      → out' ≡ before ++ terms_text_of p m (take (i + 1) ys)
  terms-more ys i d lt before out out' r h e k =
      let n : length (take i ys) ≡ i = length-take-le i ys (omega arith) in
      k ∙ ap (λ q. out ++ signed_term_text p (i == 0) (get_or ys i d).0 q) e
      ∙ ap (λ bs. bs ++ signed_term_text p (i == 0) (get_or ys i d).0 (lowest m (get_or ys i d).1)) h
      ∙ append_assoc before (terms_text_of p m (take i ys)) (signed_term_text p (i == 0) (get_or ys i d).0 (lowest m (get_or ys i d).1))
      ∙ ap (λ bs. before ++ bs)
      (ap (λ j. terms_text_of p m (take i ys) ++ signed_term_text p (j == 0) (get_or ys i d).0 (lowest m (get_or ys i d).1)) (sym n)
      ∙ sym (terms-push (take i ys) (get_or ys i d)) ∙ ap (terms_text_of p m) (sym (take_more ys i d lt)))

  pub terms-more-in : (xs ys : List (ℕ × ℤ)) → xs ≡ ys → (i : ℕ) (d : ℕ × ℤ) → i < length xs → (before out out' : List ℕ) (r : SignedRatio)
      → out ≡ before ++ terms_text_of p m (take i ys) → r ≡ lowest m (get_or xs i d).1 → out' ≡ out ++ signed_term_text p (i == 0) (get_or xs i d).0 r
      → out' ≡ before ++ terms_text_of p m (take (i + 1) ys)
  terms-more-in xs ys e i d lt before out out' r h f k =
      subst (λ zs. out' ≡ before ++ terms_text_of p m (take (i + 1) zs)) e
      (terms-more xs i d lt before out out' r (subst (λ zs. out ≡ before ++ terms_text_of p m (take i zs)) (sym e) h) f k)
