-- What is read is lawful: its canonical text means it too.
use Rattle.std.proofs.Common.{◌≡◌, ℕ, ◌*◌, ◌^◌, ◌<◌, ◌≤◌, zero, suc, Bool, true, ◌&&◌, List, [], ◌∷◌, ◌++◌, length, Option, Some, None, refl, sym, ap, subst, ◌∙◌, arith}
use Rattle.std.proofs.Math.Nat.{mul_assoc, one-dvd, mul-dvd-mul_right, dvd_of_mul-dvd-mul_right, pow-le-pow_right}
use Rattle.std.specs.Prelude.{codes}
use Rattle.std.specs.List.{AllByRecursion, list_all}
use Rattle.std.specs.Int.{IsGcd, ◌∣◌}
use Rattle.ps_meaning.specs.declared.side.Side.{Side}
use Rattle.ps_meaning.specs.Statements as meaning
use Rattle.ps_meaning.specs.Statements.{Ratio, SignedRatio, size_of, Summand, LinearStatement, Item, Stated, Asked}
use Rattle.ps_meaning.specs.Names.{is_word}
use Rattle.ps_text.specs.declared.limits.TheConstants.{GREATEST_DENOMINATOR, MOST_DECIMALS, GREATEST_NUMBER, MOST_TERMS}
use Rattle.ps_text.specs.declared.version.Version.{Version}
use Rattle.ps_text.specs.Tokens.{Token, Word, Sign, Numeral, Whole, Quotient, Decimal, Close, Semicolon, Ampersand, Bar, Arrow, DoubleArrow, is_word_byte, IsWord, IsToken}
use Rattle.ps_text.specs.Pieces.{Piece, Blank, Comment, Spelled, Cuts, tokens}
use Rattle.ps_text.specs.Grammar.{FormulaSyntax, Name, Truth, Falsity, Not, Group, And, Or, Implies, Iff, spelled, IsWellFormed, Prob, Relation, Exactly, AtLeast, AtMost, Within, Term, SignedRelation, ItemSyntax, Sentence, Linear, Query, alone, given_tokens, prob_tokens, relation_tokens, minus_tokens, coefficient_tokens, term_tokens, further_tokens, terms_tokens, signed_relation_tokens, item_tokens, items_tokens, text_tokens, IsNumberUpTo, IsWeight, IsGiven, IsProb, IsRelation, IsSignedRelation, IsTerm, AreTerms, IsLinear, IsLinearItem, IsWellFormedItem, AreWellFormedItems}
use Rattle.ps_text.specs.Meanings.{formula_of, given_of, ratio_of, IsValue, States, IsSignedValue, StatesSum, coefficient_of, IsSummand, AreSummands, IsLinearStatement, IsItem, AreItems}
use Rattle.ps_text.specs.Fronts.{IsFront}
use Rattle.ps_text.specs.Canonical.{HasNames, IsWritable, IsWritableGiven, IsReducedUpTo, IsReduced, IsReducedWeight, IsUpper, IsSumUpper, AreWritable, IsLawfulSum, IsLawfulItem, AreLawful}
use Rattle.ps_text.proofs.Spans.{Passes}
use Rattle.ps_text.proofs.Nesting.{read_nests}
use Rattle.ps_text.proofs.Meant.{divisor_some, denominator_some, coefficient_within}

-- values

order_left : (a b g : ℕ) → 0 < g → a * g ≤ b * g → a ≤ b
order_left a b g h le = grind arith

quotient_some : (n d g : ℕ) → 0 < n → n ≡ d * g → 0 < d
quotient_some n zero g some e = absurd (omega (arith, some, e))
quotient_some n (suc d) g some e = omega arith

quotient_less : (n d g : ℕ) → 0 < g → n ≡ d * g → d ≤ n
quotient_less n d zero some e = absurd (omega (arith, some))
quotient_less n d (suc g) some e = omega arith

coprime : (m n a b g : ℕ) → 0 < g → IsGcd m n g → m ≡ a * g → n ≡ b * g → IsGcd a b 1
coprime m n a b g some h e f = (
  one-dvd a,
  one-dvd b,
  λ d p q.
      let x : d * g ∣ m = subst (λ z. d * g ∣ z) (sym e) (mul-dvd-mul_right d p g) in
      let y : d * g ∣ n = subst (λ z. d * g ∣ z) (sym f) (mul-dvd-mul_right d q g) in
      let one : g ≡ 1 * g = omega arith in
      dvd_of_mul-dvd-mul_right d some (subst (λ z. d * g ∣ z) one (h.2 (d * g) x y)),
)

-- few decimals have a denominator within the limit
pub tens_few : (n : ℕ) → n ≤ MOST_DECIMALS → 10 ^ n ≤ GREATEST_DENOMINATOR
tens_few n h = pow-le-pow_right {n = 10} (omega arith) {i = n} {j = MOST_DECIMALS} h

denominator_small : (n : ℕ) (x : Numeral) → IsNumberUpTo n x → (ratio_of x).den ≤ GREATEST_DENOMINATOR
denominator_small n (Whole ds) h = omega arith
denominator_small n (Quotient ds es) h = h.1
denominator_small n (Decimal ds es) h = tens_few (length es) h.0

at_most : (n : ℕ) (x : Numeral) → IsNumberUpTo n x → (ratio_of x).num ≤ n * (ratio_of x).den
at_most n (Whole ds) h = omega (arith, h)
at_most n (Quotient ds es) h = h.2
at_most n (Decimal ds es) h = h.1

-- the value of a number that is at most another
pub reduced : (n : ℕ) (x : Numeral) (r : Ratio) → IsNumberUpTo n x → IsValue x r → IsReducedUpTo n r
reduced n x r h v =
    let some : 0 < (ratio_of x).den = denominator_some n x h in
    let g : 0 < v.divisor = divisor_some (ratio_of x).den r.den v.divisor some v.den in
    record {
      lowest = coprime (ratio_of x).num (ratio_of x).den r.num r.den v.divisor g v.greatest v.num v.den;
      some = quotient_some (ratio_of x).den r.den v.divisor some v.den;
      small = le_to r.den (ratio_of x).den GREATEST_DENOMINATOR (quotient_less (ratio_of x).den r.den v.divisor g v.den) (denominator_small n x h);
      least = order_left r.num (n * r.den) v.divisor g (between (ratio_of x).num (ratio_of x).den r.num r.den v.divisor v.num v.den (at_most n x h));
    }
  where
    le_to : (a b c : ℕ) → a ≤ b → b ≤ c → a ≤ c
    le_to a b c p q = omega arith

    between : (m d a b g : ℕ) → m ≡ a * g → d ≡ b * g → m ≤ n * d → a * g ≤ n * b * g
    between m d a b g e f l = subst (λ z. z ≤ n * b * g) e (subst (λ z. m ≤ z) (ap (λ z. n * z) f ∙ sym (mul_assoc n b g)) l)

-- tokens

AreTokens : List Token → Type 0
AreTokens ts = AllByRecursion (λ t. IsToken t) ts

cut_tokens : (ps : List Piece) (rest : List ℕ) → Cuts ps rest → AreTokens (tokens ps)
unfolding AreTokens
cut_tokens [] rest c = tt
cut_tokens (Blank b ∷ ps) rest c = cut_tokens ps rest c.1
cut_tokens (Comment b ∷ ps) rest c = cut_tokens ps rest c.1
cut_tokens (Spelled t ∷ ps) rest c = (c.0.0, cut_tokens ps rest c.1)

split : (ts us : List Token) → AreTokens (ts ++ us) → AreTokens ts × AreTokens us
unfolding AreTokens
split [] us h = (tt, h)
split (t ∷ ts) us h = let s = split ts us h.1 in ((h.0, s.0), s.1)

all_back : (p : ℕ → Bool) (bs : List ℕ) → Passes p bs → list_all p bs ≡ true
all_back p [] h = refl
all_back p (b ∷ bs) h = ap (λ x. x && list_all p bs) h.0 ∙ all_back p bs h.1

word_back : (w : List ℕ) → IsWord w → is_word w ≡ true
word_back [] h = absurd h
word_back (b ∷ bs) h = ap (λ x. x && list_all is_word_byte bs) h.0 ∙ all_back is_word_byte bs h.1

names_of : (f : FormulaSyntax) → IsWellFormed f → AreTokens (spelled f) → HasNames (formula_of f)
unfolding AreTokens
names_of (Name w) i h = record { word = word_back w h.0; short = i.1; free = i.0 }
names_of Truth i h = tt
names_of Falsity i h = tt
names_of (Not f) i h = names_of f i.1 h.1
names_of (Group f) i h = names_of f i (split (spelled f) (Sign Close ∷ []) h.1).0
names_of (And f g) i h = let s = split (spelled f) (Sign Ampersand ∷ spelled g) h in (names_of f i.2 s.0, names_of g i.3 s.1.1)
names_of (Or f g) i h = let s = split (spelled f) (Sign Bar ∷ spelled g) h in (names_of f i.2 s.0, names_of g i.3 s.1.1)
names_of (Implies f g) i h = let s = split (spelled f) (Sign Arrow ∷ spelled g) h in (names_of f i.2 s.0, names_of g i.3 s.1.1)
names_of (Iff f g) i h = let s = split (spelled f) (Sign DoubleArrow ∷ spelled g) h in (names_of f i.2 s.0, names_of g i.3 s.1.1)

given_writable : (g : Option FormulaSyntax) → IsGiven g → AreTokens (given_tokens g) → IsWritableGiven (given_of g)
unfolding AreTokens
given_writable None i h = tt
given_writable (Some f) i h = record { names = names_of f i.0 h.1; nests = read_nests f i.0 i.1 }

prob_writable : (p : Prob) → IsProb p → AreTokens (prob_tokens p) → IsWritable (formula_of p.formula) × IsWritableGiven (given_of p.given)
unfolding AreTokens
prob_writable p i h =
    let s = split (spelled p.formula ++ given_tokens p.given) (Sign Close ∷ []) h.1.1 in
    let t = split (spelled p.formula) (given_tokens p.given) s.0 in
    (record { names = names_of p.formula i.formula t.0; nests = read_nests p.formula i.formula i.nests }, given_writable p.given i.given t.1)

related_lawful : (x : Relation) (s : Side) (r : Ratio) (upper : Option Ratio) → IsRelation x → States x s r upper → IsReduced r × IsUpper s upper
related_lawful (Exactly x) s r upper h k = (reduced 1 x r h k.1, subst (λ u. IsUpper s u) (sym k.2) tt)
related_lawful (AtLeast x) s r upper h k = (reduced 1 x r h k.1, subst (λ u. IsUpper s u) (sym k.2) tt)
related_lawful (AtMost x) s r upper h k = (reduced 1 x r h k.1, subst (λ u. IsUpper s u) (sym k.2) tt)
related_lawful (Within x y) s r None h k = absurd k
related_lawful (Within x y) s r (Some q) h k = (reduced 1 x r h.0 k.1, subst (λ z. IsUpper z (Some q)) (sym k.0) (reduced 1 y q h.1 k.2))

-- linear sentences

weight : (m : Bool) (x : Numeral) (r : SignedRatio) → IsWeight x → IsSignedValue m x r → IsReducedWeight r
weight m x r h k = reduced GREATEST_NUMBER x (size_of r) h k.size

sum_lawful : (x : SignedRelation) (s : Side) (r : SignedRatio) (upper : Option SignedRatio) → IsSignedRelation x → StatesSum x s r upper → IsReducedWeight r × IsSumUpper s upper
sum_lawful (Exactly x) s r upper h k = (weight x.minus x.size r h k.1, subst (λ u. IsSumUpper s u) (sym k.2) tt)
sum_lawful (AtLeast x) s r upper h k = (weight x.minus x.size r h k.1, subst (λ u. IsSumUpper s u) (sym k.2) tt)
sum_lawful (AtMost x) s r upper h k = (weight x.minus x.size r h k.1, subst (λ u. IsSumUpper s u) (sym k.2) tt)
sum_lawful (Within x y) s r None h k = absurd k
sum_lawful (Within x y) s r (Some q) h k = (weight x.minus x.size r h.0 k.1, subst (λ z. IsSumUpper z (Some q)) (sym k.0) (weight y.minus y.size q h.1 k.2))

term_writable : (t : Term) (s : Summand) → IsTerm t → AreTokens (term_tokens t) → IsSummand t s → IsReducedWeight s.coefficient × IsWritable s.formula
term_writable t s i h k = (
  weight t.minus (coefficient_of t.coefficient) s.coefficient (coefficient_within t.coefficient i.coefficient) k.coefficient,
  subst IsWritable (sym k.formula) (prob_writable (alone t.formula) (record { formula = i.formula; nests = i.nests; given = tt }) (split (coefficient_tokens t.coefficient) (prob_tokens (alone t.formula)) h).1).0,
)

further_writable : (ts : List Term) (ss : List Summand) → AreTerms ts → AreTokens (further_tokens ts) → AreSummands ts ss → AreWritable ss
unfolding AreTokens
further_writable [] [] i h k = tt
further_writable [] (s ∷ ss) i h k = absurd k
further_writable (t ∷ ts) [] i h k = absurd k
further_writable (t ∷ ts) (s ∷ ss) i h k =
    let parts = split (term_tokens t) (further_tokens ts) h.1 in (term_writable t s i.0 parts.0 k.0, further_writable ts ss i.1 parts.1 k.1)

terms_writable : (ts : List Term) (ss : List Summand) → AreTerms ts → AreTokens (terms_tokens ts) → AreSummands ts ss → AreWritable ss
unfolding AreTokens
terms_writable [] [] i h k = tt
terms_writable [] (s ∷ ss) i h k = absurd k
terms_writable (t ∷ ts) [] i h k = absurd k
terms_writable (t ∷ ts) (s ∷ ss) i h k =
    let behind = split (minus_tokens t.minus) (term_tokens t ++ further_tokens ts) h in
    let parts = split (term_tokens t) (further_tokens ts) behind.1 in
    (term_writable t s i.0 parts.0 k.0, further_writable ts ss i.1 parts.1 k.1)

as_many : (ts : List Term) (ss : List Summand) → AreSummands ts ss → length ts ≡ length ss
as_many [] [] k = refl
as_many [] (s ∷ ss) k = absurd k
as_many (t ∷ ts) [] k = absurd k
as_many (t ∷ ts) (s ∷ ss) k = ap suc (as_many ts ss k.1)

some_terms : (ts : List Term) → IsLinear ts → 1 ≤ length ts
some_terms [] h = absurd h
some_terms (t ∷ ts) h = omega arith

linear_lawful : (v : Version) (ts : List Term) (r : SignedRelation) (s : LinearStatement) → IsLinearItem v ts r → AreTokens (terms_tokens ts) → IsLinearStatement ts r s → IsLawfulSum s
linear_lawful v ts r s w h m =
    let l = sum_lawful r s.side s.value s.upper w.relation m.stated in
    let n : length ts ≡ length s.terms = as_many ts s.terms m.terms in
    record {
      some = subst (λ k. 1 ≤ k) n (some_terms ts w.linear);
      few = subst (λ k. k ≤ MOST_TERMS) n w.few;
      terms = terms_writable ts s.terms w.terms h m.terms;
      value = l.0;
      upper = l.1;
    }

item_lawful : (v : Version) (e : ItemSyntax) (i : Item) → IsWellFormedItem v e → AreTokens (item_tokens e) → IsItem e i → IsLawfulItem i
unfolding AreTokens
item_lawful v (Sentence p r) (Stated (meaning.Plain s)) w h m =
    let front = split (prob_tokens p ++ relation_tokens r) (Sign Semicolon ∷ []) h in
    let parts = split (prob_tokens p) (relation_tokens r) front.0 in
    let k = prob_writable p w.0 parts.0 in
    let l = related_lawful r s.side s.value s.upper w.1 m.stated in
    (subst IsWritable (sym m.formula) k.0, subst IsWritableGiven (sym m.given) k.1, l.0, l.1)
item_lawful v (Query p) (Asked q) w h m =
    let k = prob_writable p w (split (prob_tokens p) (Sign Semicolon ∷ []) h.1).0 in
    (subst IsWritable (ap (λ x. x.formula) (sym m)) k.0, subst IsWritableGiven (ap (λ x. x.given) (sym m)) k.1)
item_lawful v (Sentence p r) (Asked q) w h m = absurd m
item_lawful v (Sentence p r) (Stated (meaning.Linear s)) w h m = absurd m
item_lawful v (Linear ts r) (Stated (meaning.Linear s)) w h m = linear_lawful v ts r s w (split (terms_tokens ts) (signed_relation_tokens r) (split (terms_tokens ts ++ signed_relation_tokens r) (Sign Semicolon ∷ []) h).0).0 m
item_lawful v (Linear ts r) (Stated (meaning.Plain s)) w h m = absurd m
item_lawful v (Linear ts r) (Asked q) w h m = absurd m
item_lawful v (Query p) (Stated s) w h m = absurd m

all_lawful : (v : Version) (es : List ItemSyntax) (is : List Item) → AreWellFormedItems v es → AreTokens (items_tokens es) → AreItems es is → AreLawful is
unfolding AreTokens
all_lawful v [] [] w h m = tt
all_lawful v [] (i ∷ is) w h m = absurd m
all_lawful v (e ∷ es) [] w h m = absurd m
all_lawful v (e ∷ es) (i ∷ is) w h m = let s = split (item_tokens e) (items_tokens es) h in (item_lawful v e i w.0 s.0 m.0, all_lawful v es is w.1 s.1 m.1)

-- what stands at the front means lawful items
pub front_lawful : (bytes : List ℕ) (items : List Item) (n : ℕ) → IsFront bytes items n → AreLawful items
unfolding AreTokens
front_lawful bytes items n f = let t = f.text in
    let all : AreTokens (text_tokens t.written) = subst AreTokens t.derived (cut_tokens t.pieces t.rest t.cuts) in
    all_lawful t.written.version t.written.items items t.within (split (items_tokens t.written.items) (Word (codes "end") ∷ Sign Semicolon ∷ []) all.1.1.1).0 f.meant
