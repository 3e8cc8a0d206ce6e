-- What is known of a form and a goal at first.
use Rattle.std.proofs.Common.{◌≡◌, ℕ, zero, suc, Bool, Some, List, [], ◌∷◌, ◌++◌, length, get_or, refl, sym, ◌∙◌}
use Rattle.std.specs.Prelude.{slice_get}
use Rattle.std.specs.List.{All}
use Rattle.std.proofs.lemmas.List.Elements.{All-pop, All-push}
use Rattle.std.proofs.lemmas.Option.{slice_get-get_or, get_or_from_slice_get, slice_get_within}
use Rattle.ps_pb.specs.Assignments.{Assignment, full, values_of}
use Rattle.ps_pb.specs.Constraints.{Constraint, IsMet}
use Rattle.ps_pb.specs.Weights.{IsWithin}
use Rattle.ps_pb.specs.Steps.{Known, known_of, constraint_at, AreMet, Entails, IsUnmet, AreWithin}
use Rattle.ps_pb.proofs.Ids.{at-id, at-zero}
use Rattle.ps_pb.proofs.Full.{complete-full}
use Rattle.ps_clause.specs.Forms.{Form, MeetsForm, AreInside, first_known}
use Rattle.ps_clause.specs.Decided.{AllAreSet}

-- constraints that are known one by one
pub known-all : (P : Constraint → Type 0) (cs : List Constraint) → ((id : ℕ) (c : Constraint) → constraint_at (known_of cs) id ≡ Some c → P c) → All P cs
known-all P cs h k d lt = h (suc k) (get_or cs k d) (at-id cs k ∙ slice_get-get_or cs k d lt)

pub all-known : (P : Constraint → Type 0) (cs : List Constraint) → All P cs → (id : ℕ) (c : Constraint) → constraint_at (known_of cs) id ≡ Some c → P c
all-known P cs all zero c e = absurd (at-zero cs c e)
all-known P cs all (suc k) c e =
    let there : slice_get cs k ≡ Some c = sym (at-id cs k) ∙ e in
    rw (get_or_from_slice_get cs k c c there) at (all k c (slice_get_within cs k c there))

pub start-both : (f : Form) (goal : Constraint) (w : List Bool) → AreMet w (first_known f goal) → MeetsForm w f × IsMet w goal
start-both f goal w met = All-pop (IsMet w) (f.clauses ++ goal ∷ []) f.clauses (Some goal) refl (known-all (IsMet w) (f.clauses ++ goal ∷ []) met.at)

pub both-start : (f : Form) (goal : Constraint) (w : List Bool) → MeetsForm w f × IsMet w goal → AreMet w (first_known f goal)
both-start f goal w h = record { at = all-known (IsMet w) (f.clauses ++ goal ∷ []) (All-push (IsMet w) f.clauses goal h.0 h.1) }

pub start-within : (f : Form) (goal : Constraint) → AreInside f → IsWithin f.variables goal → AreWithin f.variables (first_known f goal)
start-within f goal inside within = record { at = all-known (IsWithin f.variables) (f.clauses ++ goal ∷ []) (All-push (IsWithin f.variables) f.clauses goal inside within) }

pub unmet-goal : (f : Form) (goal : Constraint) (later : Known) → Entails (first_known f goal) later → IsUnmet later → (w : List Bool) → MeetsForm w f → IsMet w goal → ⊥
unmet-goal f goal later follows none w form met = none.none w (follows.met w (both-start f goal w (form, met)))

pub all-full : (f : Form) (a : Assignment) → length a ≡ f.variables → AllAreSet f a → a ≡ full (values_of a)
all-full f a long set = complete-full a (record { at = λ var some most. set.at var some (rw long at most) })
