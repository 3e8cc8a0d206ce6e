-- What is written means one list of items at most.
use Rattle.std.proofs.Common.{◌≡◌, ℕ, ◌*◌, ◌^◌, ◌<◌, ◌/◌, zero, suc, Bool, List, [], ◌∷◌, length, Option, Some, None, refl, sym, ap, subst, ◌∙◌, arith}
use Rattle.std.proofs.lemmas.Nat.Gcd.{same_from_IsGcd}
use Rattle.std.proofs.Math.Nat.{mul-div_cancel, pow-succ'}
use Rattle.ps_meaning.specs.declared.side.Side.{Side}
use Rattle.ps_meaning.specs.Statements as meaning
use Rattle.ps_meaning.specs.Statements.{Ratio, SignedRatio, size_of, PlainStatement, Summand, LinearStatement, Item, Stated, Asked}
use Rattle.ps_text.specs.declared.version.Version.{Version}
use Rattle.ps_text.specs.Tokens.{Numeral, Whole, Quotient, Decimal}
use Rattle.ps_text.specs.Grammar.{Prob, Relation, Exactly, AtLeast, AtMost, Within, ItemSyntax, Sentence, Linear, Query, Term, SignedRelation, IsNumberUpTo, IsWeight, IsRelation, IsSignedRelation, IsCoefficient, AreTerms, AreWellFormedItems}
use Rattle.ps_text.specs.Meanings.{ratio_of, IsLowest, IsValue, States, IsStatement, with_sign, IsSignedValue, StatesSum, coefficient_of, AreSummands, IsSummand, IsLinearStatement, AreItems}
use Rattle.ps_text.specs.declared.limits.TheConstants.{GREATEST_NUMBER}
use Rattle.ps_text.specs.Fronts.{IsFront}
use Rattle.ps_text.specs.Canonical.{canonical_text, AreLawful}
use Rattle.ps_text.proofs.Once.{front_once, front_place}
use Rattle.ps_text.proofs.Canonicals.{canonical_front}

cancel : (a b g : ℕ) → 0 < g → a * g ≡ b * g → a ≡ b
cancel a b g some e = sym (mul-div_cancel a some) ∙ ap (λ x. x / g) e ∙ mul-div_cancel b some

-- a product that isn't 0 has no factor 0
pub divisor_some : (n d g : ℕ) → 0 < n → n ≡ d * g → 0 < g
divisor_some n d zero some e = absurd (omega (arith, some, e))
divisor_some n d (suc g) some e = omega arith

-- a fraction with a denominator of its own has one form in lowest terms
lowest_once : (q r s : Ratio) → 0 < q.den → IsLowest q r → IsLowest q s → r ≡ s
lowest_once q r s some h k =
    let same : h.divisor ≡ k.divisor = same_from_IsGcd q.num q.den h.divisor k.divisor h.greatest k.greatest in
    let left : q.num ≡ s.num * h.divisor = subst (λ g. q.num ≡ s.num * g) (sym same) k.num in
    let right : q.den ≡ s.den * h.divisor = subst (λ g. q.den ≡ s.den * g) (sym same) k.den in
    let positive : 0 < h.divisor = divisor_some q.den r.den h.divisor some h.den in
    λ i. record { num = cancel r.num s.num h.divisor positive (sym h.num ∙ left) i; den = cancel r.den s.den h.divisor positive (sym h.den ∙ right) i }

pow_pos_of : (es : List ℕ) → 0 < 10 ^ length es
pow_pos_of [] = omega arith
pow_pos_of (e ∷ es) = omega (arith, pow_pos_of es, pow-succ' 10 (length es))

pub denominator_some : (n : ℕ) (x : Numeral) → IsNumberUpTo n x → 0 < (ratio_of x).den
denominator_some n (Whole ds) h = omega arith
denominator_some n (Quotient ds es) h = h.0
denominator_some n (Decimal ds es) h = pow_pos_of es

value_once : (n : ℕ) (x : Numeral) (r s : Ratio) → IsNumberUpTo n x → IsValue x r → IsValue x s → r ≡ s
value_once n x r s h j k = lowest_once (ratio_of x) r s (denominator_some n x h) j k

-- what a relation states
record Same (s t : Side) (r q : Ratio) (u v : Option Ratio) : Type 0 where
  side_is : s ≡ t
  value_is : r ≡ q
  upper_is : u ≡ v

states_once : (x : Relation) (s t : Side) (r q : Ratio) (u v : Option Ratio) → IsRelation x → States x s r u → States x t q v → Same s t r q u v
states_once (Exactly x) s t r q u v h j k = record { side_is = j.0 ∙ sym k.0; value_is = value_once 1 x r q h j.1 k.1; upper_is = j.2 ∙ sym k.2 }
states_once (AtLeast x) s t r q u v h j k = record { side_is = j.0 ∙ sym k.0; value_is = value_once 1 x r q h j.1 k.1; upper_is = j.2 ∙ sym k.2 }
states_once (AtMost x) s t r q u v h j k = record { side_is = j.0 ∙ sym k.0; value_is = value_once 1 x r q h j.1 k.1; upper_is = j.2 ∙ sym k.2 }
states_once (Within x y) s t r q None v h j k = absurd j
states_once (Within x y) s t r q (Some u) None h j k = absurd k
states_once (Within x y) s t r q (Some u) (Some v) h j k = record { side_is = j.0 ∙ sym k.0; value_is = value_once 1 x r q h.0 j.1 k.1; upper_is = ap Some (value_once 1 y u v h.1 j.2 k.2) }

statement_once : (p : Prob) (x : Relation) (s t : PlainStatement) → IsRelation x → IsStatement p x s → IsStatement p x t → s ≡ t
statement_once p x s t h j k =
    let same = states_once x s.side t.side s.value t.value s.upper t.upper h j.stated k.stated in
    λ i. record {
      formula = (j.formula ∙ sym k.formula) i;
      given = (j.given ∙ sym k.given) i;
      side = same.side_is i;
      value = same.value_is i;
      upper = same.upper_is i;
    }

-- linear sentences

signed_once : (m : Bool) (x : Numeral) (q r : SignedRatio) → IsWeight x → IsSignedValue m x q → IsSignedValue m x r → q ≡ r
signed_once m x q r h j k =
    let e : size_of q ≡ size_of r = value_once GREATEST_NUMBER x (size_of q) (size_of r) h j.size k.size in
    let n : q.num ≡ r.num = j.sign ∙ ap (λ s. with_sign m s.num) e ∙ sym k.sign in
    λ i. record { num = n i; den = (e i).den }

pub coefficient_within : (k : Option Numeral) → IsCoefficient k → IsWeight (coefficient_of k)
coefficient_within None h = omega arith
coefficient_within (Some x) h = h

summand_once : (t : Term) (s u : Summand) → IsCoefficient t.coefficient → IsSummand t s → IsSummand t u → s ≡ u
summand_once t s u h j k =
    let e = signed_once t.minus (coefficient_of t.coefficient) s.coefficient u.coefficient (coefficient_within t.coefficient h) j.coefficient k.coefficient in
    λ i. record { coefficient = e i; formula = (j.formula ∙ sym k.formula) i }

summands_once : (ts : List Term) (ss us : List Summand) → AreTerms ts → AreSummands ts ss → AreSummands ts us → ss ≡ us
summands_once [] [] [] h j k = refl
summands_once [] [] (u ∷ us) h j k = absurd k
summands_once [] (s ∷ ss) us h j k = absurd j
summands_once (t ∷ ts) [] us h j k = absurd j
summands_once (t ∷ ts) (s ∷ ss) [] h j k = absurd k
summands_once (t ∷ ts) (s ∷ ss) (u ∷ us) h j k = λ i. summand_once t s u h.0.coefficient j.0 k.0 i ∷ summands_once ts ss us h.1 j.1 k.1 i

-- what a relation of a sum states
record SameSum (s t : Side) (r q : SignedRatio) (u v : Option SignedRatio) : Type 0 where
  side_is : s ≡ t
  value_is : r ≡ q
  upper_is : u ≡ v

sum_once : (x : SignedRelation) (s t : Side) (r q : SignedRatio) (u v : Option SignedRatio) → IsSignedRelation x → StatesSum x s r u → StatesSum x t q v → SameSum s t r q u v
sum_once (Exactly x) s t r q u v h j k = record { side_is = j.0 ∙ sym k.0; value_is = signed_once x.minus x.size r q h j.1 k.1; upper_is = j.2 ∙ sym k.2 }
sum_once (AtLeast x) s t r q u v h j k = record { side_is = j.0 ∙ sym k.0; value_is = signed_once x.minus x.size r q h j.1 k.1; upper_is = j.2 ∙ sym k.2 }
sum_once (AtMost x) s t r q u v h j k = record { side_is = j.0 ∙ sym k.0; value_is = signed_once x.minus x.size r q h j.1 k.1; upper_is = j.2 ∙ sym k.2 }
sum_once (Within x y) s t r q None v h j k = absurd j
sum_once (Within x y) s t r q (Some u) None h j k = absurd k
sum_once (Within x y) s t r q (Some u) (Some v) h j k = record { side_is = j.0 ∙ sym k.0; value_is = signed_once x.minus x.size r q h.0 j.1 k.1; upper_is = ap Some (signed_once y.minus y.size u v h.1 j.2 k.2) }

linear_once : (ts : List Term) (x : SignedRelation) (s t : LinearStatement) → AreTerms ts → IsSignedRelation x → IsLinearStatement ts x s → IsLinearStatement ts x t → s ≡ t
linear_once ts x s t h l j k =
    let same = sum_once x s.side t.side s.value t.value s.upper t.upper l j.stated k.stated in
    let terms = summands_once ts s.terms t.terms h j.terms k.terms in
    λ i. record { terms = terms i; side = same.side_is i; value = same.value_is i; upper = same.upper_is i }

-- what is written means one list of items at most
pub items_once : (v : Version) (es : List ItemSyntax) (is js : List Item) → AreWellFormedItems v es → AreItems es is → AreItems es js → is ≡ js
items_once v [] [] [] h j k = refl
items_once v [] [] (x ∷ js) h j k = absurd k
items_once v [] (x ∷ is) js h j k = absurd j
items_once v (e ∷ es) [] js h j k = absurd j
items_once v (e ∷ es) (x ∷ is) [] h j k = absurd k
items_once v (Sentence p r ∷ es) (Stated (meaning.Plain s) ∷ is) (Stated (meaning.Plain t) ∷ js) h j k =
    λ i. Stated (meaning.Plain (statement_once p r s t h.0.1 j.0 k.0 i)) ∷ items_once v es is js h.1 j.1 k.1 i
items_once v (Sentence p r ∷ es) (Stated (meaning.Linear s) ∷ is) js h j k = absurd j.0
items_once v (Sentence p r ∷ es) (Asked q ∷ is) js h j k = absurd j.0
items_once v (Sentence p r ∷ es) (Stated (meaning.Plain s) ∷ is) (Stated (meaning.Linear t) ∷ js) h j k = absurd k.0
items_once v (Sentence p r ∷ es) (Stated (meaning.Plain s) ∷ is) (Asked q ∷ js) h j k = absurd k.0
items_once v (Linear ts r ∷ es) (Stated (meaning.Linear s) ∷ is) (Stated (meaning.Linear t) ∷ js) h j k =
    λ i. Stated (meaning.Linear (linear_once ts r s t h.0.terms h.0.relation j.0 k.0 i)) ∷ items_once v es is js h.1 j.1 k.1 i
items_once v (Linear ts r ∷ es) (Stated (meaning.Plain s) ∷ is) js h j k = absurd j.0
items_once v (Linear ts r ∷ es) (Asked q ∷ is) js h j k = absurd j.0
items_once v (Linear ts r ∷ es) (Stated (meaning.Linear s) ∷ is) (Stated (meaning.Plain t) ∷ js) h j k = absurd k.0
items_once v (Linear ts r ∷ es) (Stated (meaning.Linear s) ∷ is) (Asked q ∷ js) h j k = absurd k.0
items_once v (Query p ∷ es) (Asked q ∷ is) (Asked u ∷ js) h j k = λ i. Asked ((j.0 ∙ sym k.0) i) ∷ items_once v es is js h.1 j.1 k.1 i
items_once v (Query p ∷ es) (Stated s ∷ is) js h j k = absurd j.0
items_once v (Query p ∷ es) (Asked q ∷ is) (Stated s ∷ js) h j k = absurd k.0

-- what stands at the front means one list of items at most
pub meaning_once : (bytes : List ℕ) (is js : List Item) (n m : ℕ) → IsFront bytes is n → IsFront bytes js m → is ≡ js
meaning_once bytes is js n m f g = let s = front_once f.text g.text in items_once f.text.written.version f.text.written.items is js f.text.within f.meant (subst (λ es. AreItems es.items js) (sym s.written) g.meant)

-- a reading of the canonical text of lawful items gives these items, and ends where it ends
pub canonical_back : (items js : List Item) (n : ℕ) → AreLawful items → IsFront (canonical_text items) js n → (js ≡ items) × (n ≡ length (canonical_text items))
canonical_back items js n h f = let c = canonical_front items h in
    (meaning_once (canonical_text items) js items n (length (canonical_text items)) f c, front_place (canonical_text items) js items n (length (canonical_text items)) f c)
