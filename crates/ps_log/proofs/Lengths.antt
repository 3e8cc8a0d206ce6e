-- How long the lines of goals and steps are.
use Rattle.std.proofs.Common.{◌≡◌, ℕ, suc, ℤ, pos, negsuc, ◌+◌, ◌*◌, ◌^◌, ◌<◌, ◌≤◌, List, [], ◌∷◌, length, All, unsigned_abs, arith}
use Rattle.std.specs.Fmt.{signed_decimal}
use Rattle.std.proofs.lemmas.Fmt.{length-decimal-le_wide}
use Rattle.std.proofs.lemmas.List.{length-map}
use Rattle.ps_io.proofs.WordLemmas.{length-with_word}
use Rattle.ps_pb.specs.Constraints.{Constraint}
use Rattle.ps_pb.specs.Steps.{Step}
use Rattle.ps_pb.specs.Weights.{Weighted, weighted, size_sum}
use Rattle.ps_log.specs.Texts.{with_number, with_numbers, hint_numbers, term_numbers, step_line, goal_line}
use Rattle.ps_log.specs.Limits.{IsId, IsStepWithin, IsGoalWithin}
use Rattle.ps_pb.specs.Limits.{IsLiteral}
use Rattle.ps_log.proofs.ManyNumbers.{with_id, with_lits, with_middle, with_hints, step_parts, with_degree, with_terms, goal_parts}

first_of : {X : Type 0} (P : X → Type 0) (x : X) (xs : List X) → All P (x ∷ xs) → P x
first_of P x xs h = h 0 x (omega arith)

rest_of : {X : Type 0} (P : X → Type 0) (x : X) (xs : List X) → All P (x ∷ xs) → All P xs
rest_of P x xs h = λ k d lt. h (suc k) d (omega (arith, lt))

literal_length : (l : ℤ) → unsigned_abs l ≤ 1024 → length (signed_decimal l) ≤ 5
literal_length (pos n) h = omega (arith, length-decimal-le_wide 4 n (omega arith) (omega (arith, h)) (omega (arith, h)))
literal_length (negsuc n) h = omega (arith, length-decimal-le_wide 4 (suc n) (omega arith) (omega (arith, h)) (omega (arith, h)))

id_length : (n : ℕ) → n ≤ 2 ^ 41 → length (signed_decimal (pos n)) ≤ 13
id_length n h = length-decimal-le_wide 13 n (omega arith) (omega (arith, h)) (omega (arith, h))

number_length : (z : ℤ) → unsigned_abs z ≤ 2 ^ 126 → length (signed_decimal z) ≤ 40
number_length (pos n) h = omega (arith, length-decimal-le_wide 39 n (omega arith) (omega (arith, h)) (omega (arith, h)))
number_length (negsuc n) h = omega (arith, length-decimal-le_wide 39 (suc n) (omega arith) (omega (arith, h)) (omega (arith, h)))

lits_length : (text : List ℕ) (lits : List ℤ) → All IsLiteral lits → length (with_numbers text lits) ≤ length text + 6 * length lits
lits_length text [] h = omega arith
lits_length text (l ∷ ls) h =
    let f = first_of IsLiteral l ls h in
    omega (arith, literal_length l f.1, length-with_word text (signed_decimal l), lits_length (with_number text l) ls (rest_of IsLiteral l ls h))

hints_length : (text : List ℕ) (hints : List ℕ) → All IsId hints → length (with_numbers text (hint_numbers hints)) ≤ length text + 14 * length hints
hints_length text [] h = omega arith
hints_length text (n ∷ ns) h =
    let f = first_of IsId n ns h in
    omega (arith, id_length n f.1, length-with_word text (signed_decimal (pos n)), hints_length (with_number text (pos n)) ns (rest_of IsId n ns h))

terms_length : (text : List ℕ) (ts : Weighted) → All (λ t. IsLiteral t.0) ts → size_sum ts ≤ 2 ^ 126 → length (with_numbers text (term_numbers ts)) ≤ length text + 47 * length ts
terms_length text [] h s = omega arith
terms_length text (t ∷ ts) h s =
    let f = first_of (λ u. IsLiteral u.0) t ts h in
    let small : unsigned_abs t.1 ≤ 2 ^ 126 = omega (arith, s) in
    let rest : size_sum ts ≤ 2 ^ 126 = omega (arith, s) in
    omega (
      arith,
      number_length t.1 small,
      literal_length t.0 f.1,
      length-with_word text (signed_decimal t.1),
      length-with_word (with_number text t.1) (signed_decimal t.0),
      terms_length (with_number (with_number text t.1) t.0) ts (rest_of (λ u. IsLiteral u.0) t ts h) rest,
    )

zero_length : length (signed_decimal (pos 0)) ≤ 13
zero_length = id_length 0 (omega arith)

-- a step within the limits has a short line
pub step_is_short : (s : Step) → IsStepWithin s → length (step_line s) < 65536
unfolding step_line
step_is_short s h =
    let start : List ℕ = 115 ∷ [] in
    rw (step_parts start s.id s.lits s.hints)
    (omega (
      arith,
      zero_length,
      h.few_lits,
      h.few_hints,
      id_length s.id h.id.1,
      length-with_word start (signed_decimal (pos s.id)),
      lits_length (with_id start s.id s.lits s.hints) s.lits h.lits,
      length-with_word (with_lits start s.id s.lits s.hints) (signed_decimal (pos 0)),
      hints_length (with_middle start s.id s.lits s.hints) s.hints h.hints,
      length-with_word (with_hints start s.id s.lits s.hints) (signed_decimal (pos 0)),
    ))

-- a goal within the limits has a short line
pub goal_is_short : (goal : Constraint) → IsGoalWithin goal → length (goal_line goal) < 65536
unfolding goal_line
goal_is_short goal h =
    let start : List ℕ = 103 ∷ [] in
    let ts = weighted goal.terms in
    let many : length ts ≡ length goal.terms = length-map goal.terms (λ t. (t.0, pos t.1)) in
    let small : unsigned_abs goal.degree ≤ 2 ^ 126 = omega (arith, h.normal.narrow) in
    let sum : size_sum ts ≤ 2 ^ 126 = omega (arith, h.normal.narrow) in
    rw (goal_parts start goal.degree ts)
    (omega (
      arith,
      zero_length,
      h.few,
      many,
      number_length goal.degree small,
      length-with_word start (signed_decimal goal.degree),
      terms_length (with_degree start goal.degree ts) ts h.lits sum,
      length-with_word (with_terms start goal.degree ts) (signed_decimal (pos 0)),
    ))
