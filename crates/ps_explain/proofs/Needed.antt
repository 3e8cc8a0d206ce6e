-- Sentences that can't be met together, and those of them that are needed for it.
use Rattle.std.proofs.Common.{◌≡◌, ◌+◌, ◌<◌, ◌≤◌, ◌⊎◌, inl, inr, ℕ, zero, suc, ℤ, Bool, true, false, Option, None, List, [], ◌∷◌, length, map, set, get_or, refl, sym, ◌∙◌, subst, arith}
use Rattle.std.proofs.lemmas.Bool.{true≢false, cases_lt}
use Rattle.std.proofs.lemmas.List.{length-set, length-map}
use Rattle.std.proofs.lemmas.Slice.Zip.{AllZip-long}
use Rattle.ps_meaning.specs.Bounds.{MeetsBound}
use Rattle.ps_pb.specs.Constraints.{Constraint}
use Rattle.ps_pb.specs.Steps.{Refutes}
use Rattle.ps_clause.specs.Forms.{form_of, first_known}
use Rattle.ps_formula.specs.declared.node.Node.{Node}
use Rattle.ps_problem.specs.declared.row.Row.{Row}
use Rattle.ps_problem.specs.Problems.{Parts, AreParts, bounds_in, bound_of}
use Rattle.ps_problem.specs.Rows.{row_of, rows_in}
use Rattle.ps_answer.specs.declared.answer.Dual.{Dual}
use Rattle.ps_answer.specs.declared.answer.Model.{Model}
use Rattle.ps_claims.specs.Answers.{Inconsistent}
use Rattle.ps_claims.specs.declared.claim_kind.ClaimKind.{ClaimKind}
use Rattle.ps_claims.specs.declared.claim_kind.ClaimKind.TheVariants.{Nothing}
use Rattle.ps_claims.specs.Duals as claimed
use Rattle.ps_claims.specs.Duals.{HasSign, HaveSigns, AreZeroElsewhere}
use Rattle.ps_claims.specs.Goals.{combination_of, goal_of}
use Rattle.ps_claims.specs.Validity.{IsRefuted, ShowsNothing}
use Rattle.ps_claims.specs.Rows.{problem_rows}
use Rattle.ps_claims.proofs.ProblemRows.{rows_many}
use Rattle.ps_claims.proofs.Valid.{valid-right}
use Rattle.ps_claims.specs.Certificates.{model_of, dual_of}
use Rattle.ps_runs.specs.Kept.{kept_of, flags_of, kept_parts, kept_dual, IsChoice}
use Rattle.ps_runs.proofs.Kept.{rows-kept, goal-kept, length-flags, parts-kept}
use Rattle.ps_runs.specs.declared.limits.Limits.{Limits}
use Rattle.ps_generation.specs.Phases.{limited}
use Rattle.ps_generation.specs.declared.first.First.TheVariants as first
use Rattle.ps_generation.specs.Runs.{RunState, IsNew, IsPhaseOneAnswer, IsPrintedFirst, IsOfTheWhole}
use Rattle.ps_explain.specs.declared.conflict.Conflict.{Conflict}
use Rattle.ps_explain.specs.Explanations.{without, AreAmong, CannotBeMet, IsModelWithout, IsShownBy, IsOneShort}
use Rattle.ps_explain.specs.Steps.{CanBeMet, AreNeeded, IsConflict, IsConflictAmong}
use Rattle.ps_explain.specs.Used.{used_of}
use Rattle.ps_explain.proofs.Parts.{length_used, others_zero, used_among, among_before, among_without, among_at, left_out, put_back, kept_inside, all_among}

-- ---- duals of the kept bounds
signs_part : (ns : List Node) (flags : List Bool) (rs : List Row) (ys : List ℤ) → HaveSigns (map (row_of ns) rs) ys
    → HaveSigns (map (row_of ns) (kept_of flags rs)) (kept_of flags ys)
signs_part ns [] rs ys h = tt
signs_part ns (k ∷ ks) [] [] h = tt
signs_part ns (k ∷ ks) [] (y ∷ ys) h = absurd h
signs_part ns (k ∷ ks) (r ∷ rs) [] h = absurd h
signs_part ns (true ∷ ks) (r ∷ rs) (y ∷ ys) h = (h.0, signs_part ns ks rs ys h.1)
signs_part ns (false ∷ ks) (r ∷ rs) (y ∷ ys) h = signs_part ns ks rs ys h.1

-- a dual that is refuted over the whole problem is so over the kept sentences, where its other multipliers are 0
refuted_part : (kept : List Bool) (p : Parts) (kind : ClaimKind) (given : Option ℕ) (both : ℕ) (d : claimed.Dual) → IsChoice kept p → AreZeroElsewhere (flags_of kept p.sentences) d.rows
    → IsRefuted p kind given both d → IsRefuted (kept_parts kept p) kind given both (kept_dual (flags_of kept p.sentences) d)
refuted_part kept p kind given both d e off h =
    let flags = flags_of kept p.sentences in
    let long : length flags ≡ length (rows_in p.sentences) = length-flags kept p.sentences e in
    let rows : rows_in (kept_of kept p.sentences) ≡ kept_of flags (rows_in p.sentences) = rows-kept kept p.sentences in
    record {
      signs = subst (λ (rs : List Row). HaveSigns (map (row_of p.nodes) rs) (kept_of flags d.rows)) (sym rows) (signs_part p.nodes flags (rows_in p.sentences) d.rows h.signs);
      steps =
          subst (λ (rs : List Row). Refutes (length p.nodes) (first_known (form_of p.nodes) (goal_of (combination_of kind given both rs (kept_dual flags d)))) d.steps) (sym rows)
          (subst (λ (c : Constraint). Refutes (length p.nodes) (first_known (form_of p.nodes) c) d.steps) (goal-kept flags kind given both (rows_in p.sentences) d long off) h.steps);
    }

pub shown_none : (p : Parts) (kept : List Bool) (d : Dual) → AreParts p → IsChoice kept p → IsShownBy p kept d → CannotBeMet p kept
shown_none p kept d are choice by =
    let part : claimed.Dual = kept_dual (flags_of kept p.sentences) (dual_of d) in
    let shows : ShowsNothing (kept_parts kept p) None part = record {
      head = record { top = by.shown.head.top; head = by.shown.head.head };
      refuted = refuted_part kept p Nothing None 0 (dual_of d) choice by.others by.shown.refuted;
    } in
    (valid-right (kept_parts kept p) (record { verdict = Inconsistent part; parts = [] }) (parts-kept kept p are) (record { verdict = shows; parts = tt })).verdict

-- ---- what can be met
met_among : (p : Parts) (few many : List Bool) → AreAmong few many → CanBeMet p many → CanBeMet p few
met_among p few many among can = record {
  distribution = can.distribution;
  model = record {
    distribution = can.model.distribution;
    met = all_among (λ b. MeetsBound b can.distribution) (bound_of p.nodes) few many p.sentences among can.model.met;
  };
}

pub not_met : (p : Parts) (kept : List Bool) → CannotBeMet p kept → CanBeMet p kept → ⊥
not_met p kept cannot can = cannot.none can.distribution can.model

-- of sentences that can be met together none can't be
pub not_among : (p : Parts) (kept : List Bool) (c : Conflict) → AreParts p → IsConflict p c → AreAmong c.kept kept → CanBeMet p kept → ⊥
not_among p kept c are is among can = not_met p c.kept (shown_none p c.kept c.dual are is.choice is.shown) (met_among p c.kept kept among can)

pub model_meets : (p : Parts) (kept : List Bool) (i : ℕ) (m : Model) → IsModelWithout p kept i m → CanBeMet p (without kept i)
model_meets p kept i m h = record { distribution = (model_of m).worlds; model = h.model }

-- ---- needed sentences
pub last_of : (j i : ℕ) → j < i + 1 → (j < i) ⊎ (j ≡ i)
last_of j i lt = by (cases_lt j i)
  where
    by : (j < i) ⊎ (i ≤ j) → (j < i) ⊎ (j ≡ i)
    by (inl h) = inl h
    by (inr h) = inr (omega (arith, h, lt))

pub none_needed : (p : Parts) (kept : List Bool) → AreNeeded p kept 0
none_needed p kept = record { at = λ i lt e. absurd (omega (arith, lt)) }

-- one more that is needed
pub needed_more : (p : Parts) (kept : List Bool) (i : ℕ) → (get_or kept i false ≡ true → CanBeMet p (without kept i)) → AreNeeded p kept i → AreNeeded p kept (i + 1)
needed_more p kept i last h = record { at = λ j lt e. by j e (last_of j i lt) }
  where
    by : (j : ℕ) → get_or kept j false ≡ true → (j < i) ⊎ (j ≡ i) → CanBeMet p (without kept j)
    by j e (inl lt) = h.at j lt e
    by j e (inr same) = subst (λ k. CanBeMet p (without kept k)) (sym same) (last (subst (λ k. get_or kept k false ≡ true) same e))

pub needed_not_kept : (p : Parts) (kept : List Bool) (i : ℕ) → get_or kept i false ≡ false → AreNeeded p kept i → AreNeeded p kept (i + 1)
needed_not_kept p kept i out h = needed_more p kept i (λ e. absurd (true≢false (sym e ∙ out))) h

pub needed_model : (p : Parts) (kept : List Bool) (i : ℕ) (m : Model) → IsModelWithout p kept i m → AreNeeded p kept i → AreNeeded p kept (i + 1)
needed_model p kept i m is h = needed_more p kept i (λ e. model_meets p kept i m is) h

-- those that were needed are so for fewer, where the next one is left out
pub needed_left : (p : Parts) (few kept : List Bool) (i : ℕ) → AreAmong few (without kept i) → AreNeeded p kept i → AreNeeded p few (i + 1)
needed_left p few kept i among h = record { at = λ j lt e. by j e (last_of j i lt) }
  where
    within : AreAmong few kept
    within = among_before few kept i among

    by : (j : ℕ) → get_or few j false ≡ true → (j < i) ⊎ (j ≡ i) → CanBeMet p (without few j)
    by j e (inl lt) = met_among p (without few j) (without kept j) (among_without few kept j within) (h.at j lt (among_at few kept j within e))
    by j e (inr same) = absurd (left_out kept i (among_at few (without kept i) i among (subst (λ k. get_or few k false ≡ true) same e)))

-- ---- what is open
pub one_short : (p : Parts) (c : Conflict) (i : ℕ) → AreParts p → IsConflict p c → get_or c.kept i false ≡ true → IsOneShort p (without c.kept i)
one_short p c i are is kept = record {
  place = i;
  inside = (let long = length-set c.kept i false in let lt = kept_inside c.kept i kept in omega (arith, long, lt));
  further = out c.kept i (kept_inside c.kept i kept);
  inconsistent = subst (CannotBeMet p) (sym (put_back c.kept i kept)) (shown_none p c.kept c.dual are is.choice is.shown);
}
  where
    out : (ks : List Bool) (i : ℕ) → i < length ks → get_or (set ks i false) i true ≡ false
    out [] i lt = absurd (omega (arith, lt))
    out (k ∷ ks) zero lt = refl
    out (k ∷ ks) (suc i) lt = out ks i (omega (arith, lt))

pub choice_without : (p : Parts) (kept : List Bool) (i : ℕ) → IsChoice kept p → IsChoice (without kept i) p
choice_without p kept i choice = length-set kept i false ∙ choice

-- ---- runs
-- the sentences that a dual uses, which a run over kept ones found, can't be met together
pub found_conflict : (p : Parts) (kept used : List Bool) (limits : Limits) (new done : RunState) (d : Dual) → IsChoice kept p → IsNew p kept None limits new
    → IsPhaseOneAnswer new done (first.Nothing d) → IsPrintedFirst (first.Nothing d) → used ≡ used_of p.sentences d.rows
    → IsConflictAmong p kept (record { kept = used; dual = d })
found_conflict p kept used limits new done d choice is_new of printed e =
    let whole : IsOfTheWhole (limited p kept None limits) Nothing d = subst (λ o. IsOfTheWhole o Nothing d) is_new.over of.whole in
    let long : length d.rows ≡ length (bounds_in p.sentences) =
    AllZip-long (λ r y. HasSign r.side y) (problem_rows p) d.rows whole.refuted.signs ∙ rows_many p ∙ length-map (bounds_in p.sentences) (bound_of p.nodes) in
    subst (λ ks. IsConflictAmong p kept (record { kept = ks; dual = d })) (sym e) (record {
      conflict = record {
        choice = length_used p.sentences d.rows;
        shown = record {
          shown = record { head = record { top = of.valid.head.top; head = of.valid.head.head }; refuted = whole.refuted };
          others = others_zero p.sentences d.rows long;
        };
        printed = printed;
      };
      among = used_among kept p.sentences d.rows choice whole.others;
    })
