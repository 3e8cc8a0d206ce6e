-- How many pivots are enough for the runs on a problem.
use Rattle.std.proofs.Common.{◌≡◌, ℕ, suc, ◌+◌, ◌^◌, ◌<◌, ◌≤◌, min, Bool, true, List, [], length, Option, Some, None, SomeIff, sym, ap, ◌∙◌, arith}
use Rattle.std.specs.Option.{unwrap_or}
use Rattle.std.proofs.lemmas.List.{length-map}
use Rattle.std.proofs.Math.Nat.{min-eq_left, min-eq_right, min-le_right}
use Rattle.ps_problem.specs.Problems.{Parts, bound_of, bounds_in, bounds_of}
use Rattle.ps_problem.specs.Rows.{row_at, row_of, rows_in}
use Rattle.ps_answer.specs.declared.limits.TheConstants.{MOST_PIVOTS}
use Rattle.ps_runs.specs.declared.limits.Limits.{Limits}
use Rattle.ps_generation.specs.Phases.{AreLimits}
use Rattle.ps_simplex.specs.Count.{choose}
use Rattle.ps_simplex.proofs.Ways.{ways_rise, one_of}
use Rattle.ps_answer.specs.declared.answer.Answer.{Answer}
use Rattle.ps_answer.specs.declared.answer.Verdict.TheVariants.{Open}
use Rattle.ps_runs.specs.Rows.{rows_of}
use Rattle.ps_runs.specs.Subjects.{sentences_of, setting_of}
use Rattle.ps_runs.specs.Kept.{kept_of, flags_of, kept_parts}
use Rattle.ps_runs.proofs.Kept.{length-kept, bounds-kept}
use Rattle.ps_runs.specs.Enough.{IsEnough, HasNoPivotsCause}
use Rattle.ps_runs.proofs.EnoughPivots.{answer_enough}
use Rattle.ps_explain.specs.declared.explained.Explained.{Explained}
use Rattle.ps_explain.specs.declared.explained.Explained.TheVariants as explained
use Rattle.ps_explain.specs.Explanations.{IsRightExplanation}
use Rattle.ps_commands.specs.RunLimits.{enough_for, limits_for}
use Rattle.ps_commands.specs.Due.{IsSolvedBy, IsExplainedBy, IsExplanationNotForPivots}
use Rattle.ps_messages.specs.Lines.{Output}

-- there are no fewer ways than worlds
many_ways : (rows worlds : ℕ) → worlds ≤ choose (rows + worlds + 1) (rows + 1)
many_ways rows worlds =
    let rise = ways_rise worlds 1 (rows + 1) (omega arith) in
    let one = one_of worlds in
    let things : worlds + (rows + 1) ≡ rows + worlds + 1 = omega arith in
    let same = ap (λ z. choose z (rows + 1)) things in
    omega (arith, rise, one, same)

-- nor fewer with more rows
more_rows : (few many worlds : ℕ) → few ≤ many → choose (few + worlds + 1) (few + 1) ≤ choose (many + worlds + 1) (many + 1)
more_rows few many worlds h =
    let rise = ways_rise worlds (few + 1) (many + 1) (omega (arith, h)) in
    let things : worlds + (few + 1) ≡ few + worlds + 1 = omega arith in
    let more : worlds + (many + 1) ≡ many + worlds + 1 = omega arith in
    let a = ap (λ z. choose z (few + 1)) things in
    let b = ap (λ z. choose z (many + 1)) more in
    omega (arith, rise, a, b)

-- so more worlds than a number of 64 bits are too many
pub many_worlds : (p : Parts) → (2 ^ length p.names < 2 ^ 64 → ⊥) → enough_for p ≤ MOST_PIVOTS → ⊥
many_worlds p many few = let ways = many_ways (rows_of (setting_of (sentences_of p))) (2 ^ length p.names) in many (omega (arith, ways, few))

-- that many, or the most where it is less
least : (r : Option ℕ) (n most : ℕ) → SomeIff r (n ≤ most) n → unwrap_or r most ≡ min n most
least (Some x) n most h = h.1 ∙ sym (min-eq_left h.0)
least None n most h = sym (min-eq_right (omega (arith, h)))

pub limits_are : (limits : Limits) (p : Parts) (r : Option ℕ) (k : ℕ) → SomeIff r (enough_for p ≤ MOST_PIVOTS) (enough_for p) → k ≡ unwrap_or r MOST_PIVOTS
    → record { pivots = k; conflicts = limits.conflicts } ≡ limits_for limits true p
limits_are limits p r k h is = ap (λ (n : ℕ). record { pivots = n; conflicts = limits.conflicts }) (is ∙ least r (enough_for p) MOST_PIVOTS h)

pub limits_within : (limits : Limits) (p : Parts) (r : Option ℕ) (k : ℕ) → AreLimits limits → SomeIff r (enough_for p ≤ MOST_PIVOTS) (enough_for p) → k ≡ unwrap_or r MOST_PIVOTS
    → AreLimits (record { pivots = k; conflicts = limits.conflicts })
limits_within limits p r k small h is =
    let m = min-le_right (enough_for p) MOST_PIVOTS in
    let e = least r (enough_for p) MOST_PIVOTS h in
    record { pivots = omega (arith, m, e, is); conflicts = small.conflicts }

-- with a limit of that many, within the most, nothing is open for pivots
pub none_open : (limits : Limits) (bytes : List ℕ) (o : Output) (p : Parts) (a : Answer) → enough_for p ≤ MOST_PIVOTS → IsSolvedBy (limits_for limits true p) bytes o p a → HasNoPivotsCause a
none_open limits bytes o p a few h = h.enough (let e = min-eq_left few in omega (arith, e))

-- ---- some of the sentences
-- they have no more bounds than all of them
few_bounds : (kept : List Bool) (p : Parts) → length (bounds_of (kept_parts kept p)) ≤ length (bounds_of p)
few_bounds kept p =
    let a = length-map (bounds_in (kept_of kept p.sentences)) (bound_of p.nodes) in
    let b = ap (λ bs. length bs) (bounds-kept kept p.sentences) in
    let c = length-kept (flags_of kept p.sentences) (bounds_in p.sentences) in
    let d = length-map (bounds_in p.sentences) (bound_of p.nodes) in
    omega (arith, a, b, c, d)

-- a table has a row for each bound, and one more
rows_count : (p : Parts) → rows_of (setting_of (sentences_of p)) ≡ suc (length (bounds_of p))
rows_count p =
    let a = length-map (rows_in p.sentences) (row_of p.nodes) in
    let b = length-map (bounds_in p.sentences) row_at in
    let c = length-map (bounds_in p.sentences) (bound_of p.nodes) in
    ap suc (a ∙ b ∙ sym c)

-- so what is enough for the whole problem is enough for them
kept_enough : (kept : List Bool) (p : Parts) → enough_for (kept_parts kept p) ≤ enough_for p
kept_enough kept p =
    let rows = few_bounds kept p in
    let few = rows_count (kept_parts kept p) in
    let all = rows_count p in
    let ways = more_rows (rows_of (setting_of (sentences_of (kept_parts kept p)))) (rows_of (setting_of (sentences_of p))) (2 ^ length p.names) (omega (arith, rows, few, all)) in
    omega (arith, ways)

-- and an open run over them isn't open for pivots
explanation_enough : (limits : Limits) (p : Parts) (e : Explained) → IsEnough (sentences_of p) limits.pivots → IsRightExplanation limits p e → IsExplanationNotForPivots e
explanation_enough limits p (explained.Consistent m) enough h = tt
explanation_enough limits p (explained.Core sentences d models) enough h = tt
explanation_enough limits p (explained.Open sentences cause first) enough h =
    let fewer = kept_enough h.kept p in
    let none = answer_enough (kept_parts h.kept p) limits (record { verdict = Open cause; first = first; parts = [] })
    (omega (arith, enough, fewer)) (record { verdict = h.lawful; parts = tt }) in
    none.verdict

pub no_explanation_open : (limits : Limits) (bytes : List ℕ) (o : Output) (p : Parts) (e : Explained) → enough_for p ≤ MOST_PIVOTS
    → IsExplainedBy (limits_for limits true p) bytes o p e → IsExplanationNotForPivots e
no_explanation_open limits bytes o p e few h =
    explanation_enough (limits_for limits true p) p e (let same = min-eq_left few in omega (arith, same)) h.right

-- whatever set the limit
pub none_open_at : (limits : Limits) (bytes : List ℕ) (o : Output) (p : Parts) (a : Answer) → IsEnough (sentences_of p) limits.pivots → IsSolvedBy limits bytes o p a → HasNoPivotsCause a
none_open_at limits bytes o p a many h = h.enough many

pub no_explanation_open_at : (limits : Limits) (bytes : List ℕ) (o : Output) (p : Parts) (e : Explained) → IsEnough (sentences_of p) limits.pivots → IsExplainedBy limits bytes o p e
    → IsExplanationNotForPivots e
no_explanation_open_at limits bytes o p e many h = explanation_enough limits p e many h.right
