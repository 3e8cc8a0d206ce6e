-- Every constraint of literals in the form in which it is kept is within the limits.
use Rattle.std.proofs.Common.{◌≡◌, ℕ, ◌+◌, ◌≤◌, ℤ, true, List, [], ◌∷◌, length, take, arith, subst, unsigned_abs, pos, refl, get_or, ◌<◌}
use Rattle.std.specs.Prelude.{nat_lt, nat_le, IsTrue}
use Rattle.std.specs.List.{All}
use Rattle.std.proofs.lemmas.Bool.{and_parts, ltb-true}
use Rattle.std.proofs.lemmas.List.{length-map, take_all}
use Rattle.std.proofs.lemmas.List.Elements.{All-head, All-tail, All-more}
use Rattle.ps_pb.specs.Constraints.{Constraint}
use Rattle.ps_pb.specs.Weights.{Weighted, weighted, are_rising, IsNormal}
use Rattle.ps_log.specs.Limits.{IsGoalWithin}
use Rattle.ps_log.specs.GoalNumbers.{HasLiteral}

-- rising variables up to a limit are few
rising_few : (above : ℕ) (ts : Weighted) → above ≤ 1024 → are_rising above ts ≡ true → All HasLiteral ts → above + length ts ≤ 1024
rising_few above [] h r b = omega (arith, h)
rising_few above (t ∷ ts) h r b =
    let p = and_parts (nat_lt above (unsigned_abs t.0)) (are_rising (unsigned_abs t.0) ts) r in
    let more = ltb-true above (unsigned_abs t.0) p.0 in
    let first = All-head HasLiteral t ts b in
    omega (arith, more, first.1, rising_few (unsigned_abs t.0) ts first.1 p.1 (All-tail HasLiteral t ts b))

pub few_terms : (ts : Weighted) (degree : ℤ) → IsNormal ts degree → All HasLiteral ts → length ts ≤ 1024
few_terms ts degree n b = omega (arith, rising_few 0 ts (omega arith) n.rising b)

-- a constraint is within the limits
pub goal_is_within : (g : Constraint) (ts : Weighted) → ts ≡ weighted g.terms → IsNormal ts g.degree → All HasLiteral ts → IsGoalWithin g
goal_is_within g ts e n b =
    let few = few_terms ts g.degree n b in
    let normal : IsNormal (weighted g.terms) g.degree = subst (λ us. IsNormal us g.degree) e n in
    let lits : All HasLiteral (weighted g.terms) = subst (λ us. All HasLiteral us) e b in
    let same : length ts ≡ length (weighted g.terms) = subst (λ us. length ts ≡ length us) e refl in
    let many : length (weighted g.terms) ≡ length g.terms = length-map g.terms (λ t. (t.0, pos t.1)) in
    record {
      normal = normal;
      lits = lits;
      few = omega (arith, few, same, many);
    }

-- what holds of all that was passed holds of each
pub all_taken : {X : Type 0} (P : X → Type 0) (xs : List X) (i : ℕ) → length xs ≤ i → All P (take i xs) → All P xs
all_taken P xs i h a = subst (λ ys. All P ys) (take_all i xs h) a

pub one_more : {X : Type 0} (P : X → Type 0) (xs : List X) (i : ℕ) (x : X) → i < length xs → x ≡ get_or xs i x → All P (take i xs) → P x → All P (take (i + 1) xs)
one_more P xs i x h e a p = All-more P xs i x h a (subst P e p)

pub is_few : (n : ℕ) → n ≤ 1024 → IsTrue (nat_le n 1024)
is_few n h = grind (arith, h)
