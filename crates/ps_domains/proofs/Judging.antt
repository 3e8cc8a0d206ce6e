-- A token is judged by what is kept of it.
use Rattle.std.proofs.Common.{◌≡◌, ℕ, ◌+◌, ◌-◌, ◌*◌, ◌≤◌, min, ◌==◌, Bool, true, false, ◌&&◌, inl, inr, List, [], ◌∷◌, length, take, Some, refl, sym, ap, ◌∙◌, arith, true≢false}
use Rattle.std.proofs.lemmas.Slice.Eq.{bytes_eq-Decides}
use Rattle.std.proofs.lemmas.Bool.Decides.{nat_tests}
use Rattle.std.proofs.lemmas.List.{take_all, length-take}
use Rattle.std.specs.Prelude.{nat_lt, nat_eq, bytes_eq, codes, if◌then◌else◌}
use Rattle.ps_text.specs.Tokens as text
use Rattle.ps_text.specs.Tokens.{Token, IsToken, IsNumeral, AreDigits}
use Rattle.ps_text.specs.declared.part.Part.{Part}
use Rattle.ps_text.specs.declared.part.Part.TheVariants as part
use Rattle.ps_text.specs.declared.kind.ReadKind.TheVariants as read
use Rattle.ps_text.specs.ExpectedTokens as before
use Rattle.ps_text.proofs.Cutting.{decide}
use Rattle.ps_lex.specs.Counted.{no_digits, with_digits}
use Rattle.ps_lex.specs.Seen.{seen, numeral_seen}
use Rattle.ps_lex.specs.KeptTokens.{figures, digits_of, numeral_of, token_of}
use Rattle.ps_lex.proofs.Seen.{judged}
use Rattle.ps_domains.specs.declared.kind.GroundKind.TheVariants as kind
use Rattle.ps_domains.specs.declared.domain_part.DomainPart.{DomainPart}
use Rattle.ps_domains.specs.declared.domain_part.DomainPart.TheVariants as domain
use Rattle.ps_domains.specs.DomainWords.{is_three, digit_of, arity_of}
use Rattle.ps_domains.specs.DomainTokens.{State, text_refusal, refusal_at, refusal}
use Rattle.ps_domains.proofs.Digits.{decimal_three, decimal_arity}
use Rattle.ps_domains.proofs.Passed.{long_before}

-- one digit is kept as it is
one_kept : (d : ℕ) → AreDigits (d ∷ []) → digits_of (with_digits no_digits (d ∷ [])) ≡ d ∷ []
unfolding figures
one_kept d i =
    let least : 48 ≤ d = grind (arith, nat_tests) in
    let most : d ≤ 57 = grind (arith, nat_tests) in
    let value : 48 + min (10 * 0 + (d - 48)) 1000000000001 ≡ d = omega (arith, least, most) in
    ap (λ v. v ∷ []) value

-- of more digits more than one is kept
more_kept : (d e : ℕ) (ds : List ℕ) → (v : ℕ) × (digits_of (with_digits no_digits (d ∷ e ∷ ds)) ≡ 48 ∷ v ∷ [])
unfolding figures
more_kept d e ds = (48 + (with_digits no_digits (d ∷ e ∷ ds)).value, by (count d e ds))
  where
    grows : (c : ℕ) (v : ℕ) (xs : List ℕ) → 2 ≤ c → c ≤ 7 → 2 ≤ (with_digits (record { count = c; value = v }) xs).count
    grows c v [] h k = h
    grows c v (x ∷ xs) h k = grows (min (c + 1) 7) (min (10 * v + (x - 48)) 1000000000001) xs (omega (arith, h)) (omega arith)

    count : (d e : ℕ) (ds : List ℕ) → ((with_digits no_digits (d ∷ e ∷ ds)).count == 1) ≡ false
    count d e ds =
        let h = grows 2 (min (10 * min (10 * 0 + (d - 48)) 1000000000001 + (e - 48)) 1000000000001) ds (omega arith) (omega arith) in
        grind (arith, nat_tests)

    by : ((with_digits no_digits (d ∷ e ∷ ds)).count == 1) ≡ false
        → (if (with_digits no_digits (d ∷ e ∷ ds)).count == 1 then (48 + (with_digits no_digits (d ∷ e ∷ ds)).value) ∷ [] else 48 ∷ (48 + (with_digits no_digits (d ∷ e ∷ ds)).value) ∷ [])
        ≡ 48 ∷ (48 + (with_digits no_digits (d ∷ e ∷ ds)).value) ∷ []
    by h = ap (λ b. if b then (48 + (with_digits no_digits (d ∷ e ∷ ds)).value) ∷ [] else 48 ∷ (48 + (with_digits no_digits (d ∷ e ∷ ds)).value) ∷ []) h

two_digits : (d e : ℕ) (ds : List ℕ) (n : ℕ) → bytes_eq (d ∷ e ∷ ds) (n ∷ []) ≡ false
two_digits d e ds n = by (nat_eq d n)
  where
    by : (b : Bool) → b && false ≡ false
    by true = refl
    by false = refl

three_kept : (n : text.Numeral) → IsNumeral n → is_three (text.Number (numeral_of (numeral_seen n))) ≡ is_three (text.Number n)
three_kept (text.Whole []) i = absurd i
three_kept (text.Whole (d ∷ [])) i = ap (λ ds. bytes_eq ds (codes "3")) (one_kept d i)
three_kept (text.Whole (d ∷ e ∷ ds)) i =
    let m = more_kept d e ds in
    ap (λ xs. bytes_eq xs (codes "3")) m.1 ∙ two_digits 48 m.0 [] 51 ∙ sym (two_digits d e ds 51)
three_kept (text.Quotient ds es) i = refl
three_kept (text.Decimal ds es) i = decimal_three (min (length es) 7) (with_digits (with_digits no_digits ds) es).value

pub arity_kept : (n : text.Numeral) → IsNumeral n → arity_of (text.Number (numeral_of (numeral_seen n))) ≡ arity_of (text.Number n)
arity_kept (text.Whole []) i = absurd i
arity_kept (text.Whole (d ∷ [])) i = ap digit_of (one_kept d i)
arity_kept (text.Whole (d ∷ e ∷ ds)) i = ap digit_of (more_kept d e ds).1
arity_kept (text.Quotient ds es) i = refl
arity_kept (text.Decimal ds es) i = decimal_arity (min (length es) 7) (with_digits (with_digits no_digits ds) es).value

-- numbers of which the same is known
record AreAlike (s : State) (m n : text.Numeral) : Type 0 where
  three : is_three (text.Number m) ≡ is_three (text.Number n)
  arity : arity_of (text.Number m) ≡ arity_of (text.Number n)
  before : before.refusal s.base (text.Number m) ≡ before.refusal s.base (text.Number n)

number_text : (s : State) (p : Part) (m n : text.Numeral) → AreAlike s m n → text_refusal s p (text.Number m) ≡ text_refusal s p (text.Number n)
number_text s part.Psat m n f = rw f.before refl
number_text s part.Version m n f = rw (f.three, f.before) refl
number_text s part.HeadEnd m n f = rw f.before refl
number_text s part.Item m n f = rw f.before refl
number_text s part.QueryProb m n f = rw f.before refl
number_text s part.Term m n f = rw f.before refl
number_text s part.TermProb m n f = rw f.before refl
number_text s part.Paren m n f = rw f.before refl
number_text s part.Operand m n f = rw f.before refl
number_text s part.Operator m n f = rw f.before refl
number_text s part.Relation m n f = rw f.before refl
number_text s part.Number m n f = rw f.before refl
number_text s part.ItemEnd m n f = rw f.before refl
number_text s part.Bracket m n f = rw f.before refl
number_text s part.First m n f = rw f.before refl
number_text s part.Comma m n f = rw f.before refl
number_text s part.Second m n f = rw f.before refl
number_text s part.BracketEnd m n f = rw f.before refl
number_text s part.TextEnd m n f = rw f.before refl
number_text s part.Done m n f = rw f.before refl

-- are refused alike
number_judged : (p : DomainPart) (s : State) (m n : text.Numeral) → AreAlike s m n → refusal_at p s (text.Number m) ≡ refusal_at p s (text.Number n)
number_judged domain.Text s m n f = number_text s s.base.part m n f
number_judged domain.Const s m n f = refl
number_judged domain.Constant s m n f = refl
number_judged domain.ConstMore s m n f = refl
number_judged domain.Declaration s m n f = rw f.before refl
number_judged domain.Predicate s m n f = refl
number_judged domain.PredicateParen s m n f = refl
number_judged domain.Arity s m n f = rw f.arity refl
number_judged domain.ArityEnd s m n f = refl
number_judged domain.PredicateEnd s m n f = refl
number_judged domain.Bound s m n f = refl
number_judged domain.BoundParen s m n f = refl
number_judged domain.Terms s m n f = rw f.before refl
number_judged domain.Term s m n f = refl
number_judged domain.TermMore s m n f = refl

-- a word that is too long is no word of the language
long_other : (w v : List ℕ) → nat_lt 32 (length w) ≡ true → length v ≤ 32 → bytes_eq w v ≡ false
long_other w v h k = elim (decide (bytes_eq w v)) [
  | inl e ↦ (let same = ap length ((bytes_eq-Decides w v).0 e) in absurd (true≢false (sym h ∙ (let few : length w ≤ 32 = omega (arith, same, k) in grind (arith, nat_tests)))))
  | inr e ↦ e
]

long_text : (s : State) (p : Part) (w : List ℕ) → nat_lt 32 (length w) ≡ true → text_refusal s p (text.Word w) ≡ Some (kind.Read read.NameTooLong)
long_text s part.Psat w h = rw (long_before s.base w h) refl
long_text s part.Version w h = rw (long_before s.base w h) refl
long_text s part.HeadEnd w h = rw (long_before s.base w h) refl
long_text s part.Item w h = rw (long_before s.base w h) refl
long_text s part.QueryProb w h = rw (long_before s.base w h) refl
long_text s part.Term w h = rw (long_before s.base w h) refl
long_text s part.TermProb w h = rw (long_before s.base w h) refl
long_text s part.Paren w h = rw (long_before s.base w h) refl
long_text s part.Operand w h =
    let a = long_other w (codes "forall") h (omega arith) in
    let b = long_other w (codes "exists") h (omega arith) in
    let c = long_other w (codes "const") h (omega arith) in
    let d = long_other w (codes "pred") h (omega arith) in
    rw (a, b, c, d, long_before s.base w h) refl
long_text s part.Operator w h = rw (long_before s.base w h) refl
long_text s part.Relation w h = rw (long_before s.base w h) refl
long_text s part.Number w h = rw (long_before s.base w h) refl
long_text s part.ItemEnd w h = rw (long_before s.base w h) refl
long_text s part.Bracket w h = rw (long_before s.base w h) refl
long_text s part.First w h = rw (long_before s.base w h) refl
long_text s part.Comma w h = rw (long_before s.base w h) refl
long_text s part.Second w h = rw (long_before s.base w h) refl
long_text s part.BracketEnd w h = rw (long_before s.base w h) refl
long_text s part.TextEnd w h = rw (long_before s.base w h) refl
long_text s part.Done w h = rw (long_before s.base w h) refl

-- wherever it stands
pub long_refused : (p : DomainPart) (s : State) (w : List ℕ) → nat_lt 32 (length w) ≡ true → refusal_at p s (text.Word w) ≡ Some (kind.Read read.NameTooLong)
long_refused domain.Text s w h = long_text s s.base.part w h
long_refused domain.Const s w h = rw h refl
long_refused domain.Constant s w h = rw h refl
long_refused domain.ConstMore s w h = rw h refl
long_refused domain.Declaration s w h = let a = long_other w (codes "pred") h (omega arith) in rw (a, long_before s.base w h) refl
long_refused domain.Predicate s w h = rw h refl
long_refused domain.PredicateParen s w h = rw h refl
long_refused domain.Arity s w h = rw h refl
long_refused domain.ArityEnd s w h = rw h refl
long_refused domain.PredicateEnd s w h = rw h refl
long_refused domain.Bound s w h = rw h refl
long_refused domain.BoundParen s w h = rw h refl
long_refused domain.Terms s w h = rw (long_before s.base w h) refl
long_refused domain.Term s w h = rw h refl
long_refused domain.TermMore s w h = rw h refl

-- what is kept of a token is refused as the token is
pub alike : (s : State) (t : Token) → IsToken t → refusal s (token_of (seen t)) ≡ refusal s t
unfolding refusal
alike s (text.Word w) i = elim (decide (nat_lt 33 (length w))) [
  | inl h ↦ long_refused s.part s (take 33 w) (kept h) ∙ sym (long_refused s.part s w (grind (arith, nat_tests)))
  | inr h ↦ ap (λ u. refusal_at s.part s (text.Word u)) (take_all 33 w (grind (arith, nat_tests)))
]
  where
    kept : nat_lt 33 (length w) ≡ true → nat_lt 32 (length (take 33 w)) ≡ true
    kept h = let l = length-take 33 w in grind (arith, nat_tests)
alike s (text.Number n) i = number_judged s.part s (numeral_of (numeral_seen n)) n (record { three = three_kept n i; arity = arity_kept n i; before = judged s.base (text.Number n) i })
alike s (text.Sign x) i = refl
