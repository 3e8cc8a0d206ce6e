-- What guesses find.
use Rattle.std.proofs.Common.{◌≡◌, ◌+◌, ◌<◌, ◌⊎◌, inl, inr, ℕ, suc, Bool, true, false, None, List, [], ◌∷◌, length, get_or, sym, ◌∙◌, subst, arith}
use Rattle.std.proofs.lemmas.List.{length-map}
use Rattle.std.proofs.lemmas.Slice.Zip.{AllZip-long}
use Rattle.ps_problem.specs.Problems.{Parts, bounds_in, bound_of}
use Rattle.ps_answer.specs.declared.answer.Dual.{Dual}
use Rattle.ps_claims.specs.Duals.{HasSign}
use Rattle.ps_claims.specs.Rows.{problem_rows}
use Rattle.ps_claims.proofs.ProblemRows.{rows_many}
use Rattle.ps_answer.specs.declared.answer.Model.{Model}
use Rattle.ps_runs.specs.Kept.{kept_parts}
use Rattle.ps_guess.specs.Trials.{IsFoundDual, IsFoundModel}
use Rattle.ps_runs.specs.declared.limits.Limits.{Limits}
use Rattle.ps_explain.specs.declared.outcome.Outcome.TheVariants as outcome
use Rattle.ps_explain.specs.declared.outcome.Tried.TheVariants as tried
use Rattle.ps_explain.specs.Explanations.{without, AreAmong}
use Rattle.ps_explain.specs.Steps.{IsAmongAt, AreAmongTo, IsConflict, IsConflictAmong, IsOutcome, IsTried}
use Rattle.ps_explain.specs.Used.{used_of}
use Rattle.ps_explain.proofs.Parts.{length_used, others_zero}
use Rattle.ps_explain.proofs.Needed.{last_of}

-- ---- one list among another
pub among_none : (few many : List Bool) → AreAmongTo few many 0
among_none few many = record { at = λ i lt e. absurd (omega (arith, lt)) }

pub among_more : (few many : List Bool) (n : ℕ) → IsAmongAt few many n → AreAmongTo few many n → AreAmongTo few many (n + 1)
among_more few many n last h = record { at = λ i lt e. by i e (last_of i n lt) }
  where
    by : (i : ℕ) → get_or few i false ≡ true → (i < n) ⊎ (i ≡ n) → get_or many i false ≡ true
    by i e (inl lt) = h.at i lt e
    by i e (inr same) = rw same (last (rw same at e))

-- place for place
pub among_all : (few many : List Bool) → length few ≡ length many → AreAmongTo few many (length few) → AreAmong few many
among_all [] [] e h = tt
among_all [] (b ∷ bs) e h = absurd (omega (arith, e))
among_all (a ∷ cs) [] e h = absurd (omega (arith, e))
among_all (a ∷ cs) (b ∷ bs) e h =
    (h.at 0 (omega arith), among_all cs bs (omega (arith, e)) (record { at = λ i lt is. h.at (suc i) (omega (arith, lt)) is }))

-- ---- what was found
-- the sentences that a dual that was found uses can't be met together
pub dual_conflict : (p : Parts) (kept used : List Bool) (d : Dual) → IsFoundDual p None d → used ≡ used_of p.sentences d.rows → AreAmong used kept
    → IsConflictAmong p kept (record { kept = used; dual = d })
dual_conflict p kept used d found e among =
    let long : length d.rows ≡ length (bounds_in p.sentences) =
    AllZip-long (λ r y. HasSign r.side y) (problem_rows p) d.rows found.valid.refuted.signs ∙ rows_many p ∙ length-map (bounds_in p.sentences) (bound_of p.nodes) in
    record {
      conflict = subst (λ ks. IsConflict p (record { kept = ks; dual = d })) (sym e) (record {
        choice = length_used p.sentences d.rows;
        shown = record { shown = found.valid; others = others_zero p.sentences d.rows long };
        printed = found.printed;
      });
      among = among;
    }

-- a model that was found of the kept sentences
pub found_met : (limits : Limits) (p : Parts) (kept : List Bool) (m : Model) → IsFoundModel (kept_parts kept p) m → IsOutcome limits p kept (outcome.Met m)
found_met limits p kept m found = (found.valid, found.printed)

-- one that was found of all but one
pub found_needed : (limits : Limits) (p : Parts) (kept others : List Bool) (i : ℕ) (m : Model) → others ≡ without kept i → IsFoundModel (kept_parts others p) m
    → IsTried limits p kept i (tried.Needed m)
found_needed limits p kept others i m e found =
    let at : IsFoundModel (kept_parts (without kept i) p) m = subst (λ ks. IsFoundModel (kept_parts ks p) m) e found in
    (at.valid, at.printed)
