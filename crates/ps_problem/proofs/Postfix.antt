-- Marks in postfix order, and what they spell.
use Rattle.std.proofs.Common.{◌≡◌, ℕ, ◌-◌, ◌<◌, ◌≤◌, List, [], ◌∷◌, ◌++◌, Option, Some, None, IfSome, option_map, length, map, take, drop, All, refl, ap, ◌∙◌, arith}
use Rattle.std.proofs.lemmas.List.{length-drop, take-append-le, drop-append-le, get_or_append_left}
use Rattle.std.proofs.lemmas.List.Elements.{All-head, All-tail, All-weaker}
use Rattle.ps_meaning.specs.Formula.{Formula, Truth, Atom}
use Rattle.ps_meaning.specs.Statements.{Name, Plain, Linear, Stated, Asked}
use Rattle.ps_problem.specs.declared.term.Term.{Term}
use Rattle.ps_problem.specs.declared.mark.Mark.{Mark}
use Rattle.ps_problem.specs.declared.mark.Mark.TheVariants as mark
use Rattle.ps_problem.specs.declared.span.Span.{Span}
use Rattle.ps_problem.specs.declared.draft_item.DraftItem.{DraftItem}
use Rattle.ps_problem.specs.declared.draft_item.DraftItem.TheVariants as item
use Rattle.ps_problem.specs.Drafts.{arity, made_by, marked, NameBelow, formula_at, ratio_of, signed_of, summand_at, IsDraftTerm}
use Rattle.ps_problem.specs.DraftLists.{open_after, HaveOperands, part, item_of, IsDraftItem}

pub standing-push : (names : List Name) (fs : List (Formula Name)) (ms : List Mark) (m : Mark) → open_after names fs (ms ++ m ∷ []) ≡ marked names (open_after names fs ms) m
standing-push names fs [] m = refl
standing-push names fs (n ∷ ms) m = standing-push names (marked names fs n) ms m

pub held-push : (names : List Name) (fs : List (Formula Name)) (ms : List Mark) (m : Mark) → HaveOperands names fs ms → arity m ≤ length (open_after names fs ms) → HaveOperands names fs (ms ++ m ∷ [])
held-push names fs [] m h le = (le, tt)
held-push names fs (n ∷ ms) m h le = (h.0, held-push names (marked names fs n) ms m h.1 le)

pub below-more : (n k : ℕ) (m : Mark) → n ≤ k → NameBelow n m → NameBelow k m
below-more n k mark.True le h = tt
below-more n k mark.False le h = tt
below-more n k (mark.Name i) le h = omega arith
below-more n k mark.Not le h = tt
below-more n k mark.And le h = tt
below-more n k mark.Or le h = tt
below-more n k mark.Implies le h = tt
below-more n k mark.Iff le h = tt

-- further names change nothing of what was spelled
made-more : (names more : List Name) (fs : List (Formula Name)) (m : Mark) → NameBelow (length names) m → made_by (names ++ more) fs m ≡ made_by names fs m
made-more names more fs mark.True h = refl
made-more names more fs mark.False h = refl
made-more names more fs (mark.Name i) h = ap Atom (get_or_append_left names more [] i h)
made-more names more fs mark.Not h = refl
made-more names more fs mark.And h = refl
made-more names more fs mark.Or h = refl
made-more names more fs mark.Implies h = refl
made-more names more fs mark.Iff h = refl

marked-more : (names more : List Name) (fs : List (Formula Name)) (m : Mark) → NameBelow (length names) m → marked (names ++ more) fs m ≡ marked names fs m
marked-more names more fs m h = ap (λ f. take (length fs - arity m) fs ++ f ∷ []) (made-more names more fs m h)

pub standing-more : (names more : List Name) (fs : List (Formula Name)) (ms : List Mark) → All (NameBelow (length names)) ms → open_after (names ++ more) fs ms ≡ open_after names fs ms
standing-more names more fs [] h = refl
standing-more names more fs (m ∷ ms) h =
    ap (λ gs. open_after (names ++ more) gs ms) (marked-more names more fs m (All-head (NameBelow (length names)) m ms h))
    ∙ standing-more names more (marked names fs m) ms (All-tail (NameBelow (length names)) m ms h)

pub held-more : (names more : List Name) (fs : List (Formula Name)) (ms : List Mark) → All (NameBelow (length names)) ms → HaveOperands names fs ms → HaveOperands (names ++ more) fs ms
held-more names more fs [] h held = tt
held-more names more fs (m ∷ ms) h held = (
  held.0,
  rw (marked-more names more fs m (All-head (NameBelow (length names)) m ms h))
      (held-more names more (marked names fs m) ms (All-tail (NameBelow (length names)) m ms h) held.1),
)

-- a further mark changes nothing of a span before it
pub part-push : (ms : List Mark) (m : Mark) (s : Span) → s.start ≤ s.end → s.end ≤ length ms → part (ms ++ m ∷ []) s ≡ part ms s
part-push ms m s le end =
    let within : s.start ≤ length ms = omega arith in
    let room : s.end - s.start ≤ length (drop s.start ms) = omega (arith, length-drop s.start ms) in
    ap (take (s.end - s.start)) (drop-append-le s.start ms (m ∷ []) within) ∙ take-append-le (s.end - s.start) (drop s.start ms) (m ∷ []) room

pub map-same : {X Y : Type 0} (f g : X → Y) (xs : List X) → All (λ x. f x ≡ g x) xs → map f xs ≡ map g xs
map-same f g [] h = refl
map-same f g (x ∷ xs) h = ap (λ y. y ∷ map f xs) (All-head (λ x. f x ≡ g x) x xs h) ∙ ap (λ ys. g x ∷ ys) (map-same f g xs (All-tail (λ x. f x ≡ g x) x xs h))

at-more : (fs more : List (Formula Name)) (i : ℕ) → i < length fs → formula_at (fs ++ more) i ≡ formula_at fs i
at-more fs more i lt = get_or_append_left fs more Truth i lt

given-more : (fs more : List (Formula Name)) (g : Option ℕ) → IfSome g (λ i. i < length fs) → option_map (formula_at (fs ++ more)) g ≡ option_map (formula_at fs) g
given-more fs more None h = refl
given-more fs more (Some g) h = ap Some (at-more fs more g h)

given-below : (n k : ℕ) (g : Option ℕ) → n ≤ k → IfSome g (λ i. i < n) → IfSome g (λ i. i < k)
given-below n k None le h = tt
given-below n k (Some g) le h = omega (arith, h)

-- further formulas change nothing of terms
summands-more : (fs more : List (Formula Name)) (ts : List Term) → All (IsDraftTerm (length fs)) ts → map (summand_at (fs ++ more)) ts ≡ map (summand_at fs) ts
summands-more fs more ts h = map-same (summand_at (fs ++ more)) (summand_at fs) ts
    (All-weaker (IsDraftTerm (length fs)) (λ t. summand_at (fs ++ more) t ≡ summand_at fs t) (λ t k. ap (λ f. record { coefficient = signed_of t.coefficient; formula = f }) (at-more fs more t.formula k.formula)) ts h)

-- further formulas change nothing of an item
pub item-more : (fs more : List (Formula Name)) (e : DraftItem) → IsDraftItem (length fs) e → item_of (fs ++ more) e ≡ item_of fs e
item-more fs more (item.Sentence s) h = λ t. Stated (Plain (record {
  formula = at-more fs more s.formula h.0.0 t;
  given = given-more fs more s.given h.0.1 t;
  side = s.side;
  value = record { num = s.num; den = s.den };
  upper = option_map ratio_of s.upper;
}))
item-more fs more (item.Linear s) h = ap (λ ts. Stated (Linear (record { terms = ts; side = s.side; value = signed_of s.right; upper = option_map signed_of s.upper }))) (summands-more fs more s.terms h.terms)
item-more fs more (item.Query q) h = λ t. Asked (record { formula = at-more fs more q.formula h.0 t; given = given-more fs more q.given h.1 t })

pub draft_item-more : (n k : ℕ) (e : DraftItem) → n ≤ k → IsDraftItem n e → IsDraftItem k e
draft_item-more n k (item.Sentence s) le h = ((omega (arith, h.0.0), given-below n k s.given le h.0.1), h.1, h.2)
draft_item-more n k (item.Linear s) le h = record {
  some = h.some;
  few = h.few;
  terms = All-weaker (IsDraftTerm n) (IsDraftTerm k) (λ t i. record { formula = (let a = i.formula in omega (arith, a, le)); coefficient = i.coefficient }) s.terms h.terms;
  value = h.value;
  upper = h.upper;
}
draft_item-more n k (item.Query q) le h = (omega (arith, h.0), given-below n k q.given le h.1)
