-- Ids of constraints that stand in a list.
use Rattle.std.proofs.Common.{◌≡◌, ◌≢◌, ℕ, zero, suc, ◌-◌, Option, Some, None, List, [], ◌∷◌, ◌++◌, length, get_or, refl, ap, ◌∙◌}
use Rattle.std.specs.Prelude.{slice_get}
use Rattle.ps_pb.specs.Constraints.{Constraint}
use Rattle.ps_pb.specs.Steps.{Known, constraint_at, known_of, Step, added, with_step, with_steps}
use Rattle.ps_pb.proofs.Places.{constraint_at-place, constraint_at-zero}

pub known_at : (cs : List Constraint) (i : ℕ) → get_or (known_of cs) i None ≡ slice_get cs i
known_at [] i = refl
known_at (c ∷ cs) zero = refl
known_at (c ∷ cs) (suc i) = known_at cs i

pub known_of-append : (cs : List Constraint) (c : Constraint) → known_of (cs ++ c ∷ []) ≡ known_of cs ++ Some c ∷ []
known_of-append [] c = refl
known_of-append (k ∷ cs) c = ap (λ x. Some k ∷ x) (known_of-append cs c)

pub known_of-length : (cs : List Constraint) → length (known_of cs) ≡ length cs
known_of-length [] = refl
known_of-length (c ∷ cs) = ap suc (known_of-length cs)

pub constraint_at-known : (cs : List Constraint) (id : ℕ) → id ≢ 0 → constraint_at (known_of cs) id ≡ slice_get cs (id - 1)
constraint_at-known cs id h = constraint_at-place (known_of cs) id h ∙ known_at cs (id - 1)

pub zero_unknown : (cs : List Constraint) → constraint_at (known_of cs) 0 ≡ None
zero_unknown cs = constraint_at-zero (known_of cs)

pub ruleset ids = (constraint_at-known, zero_unknown, known_of-append, known_of-length)

pub at-id : (cs : List Constraint) (k : ℕ) → constraint_at (known_of cs) (suc k) ≡ slice_get cs k
unfolding constraint_at
at-id cs k = known_at cs k

pub at-zero : (cs : List Constraint) (c : Constraint) → constraint_at (known_of cs) 0 ≢ Some c
unfolding constraint_at
at-zero cs c e = cc

-- what is known stays known
place_kept : (known : Known) (o : Option Constraint) (i : ℕ) (c : Constraint) → get_or known i None ≡ Some c → get_or (known ++ o ∷ []) i None ≡ Some c
place_kept [] o i c h = absurd (cc)
place_kept (k ∷ ks) o zero c h = h
place_kept (k ∷ ks) o (suc i) c h = place_kept ks o i c h

pub known-kept : (known : Known) (o : Option Constraint) (id : ℕ) (c : Constraint) → constraint_at known id ≡ Some c → constraint_at (known ++ o ∷ []) id ≡ Some c
unfolding constraint_at
known-kept known o zero c h = absurd (cc)
known-kept known o (suc i) c h = place_kept known o i c h

pub kept-all : (known : Known) (ss : List Step) (id : ℕ) (c : Constraint) → constraint_at known id ≡ Some c → constraint_at (with_steps known ss) id ≡ Some c
kept-all known [] id c h = h
kept-all known (s ∷ ss) id c h = kept-all (with_step known s) ss id c (known-kept known (Some (added s)) id c h)

length_push : (known : Known) (o : Option Constraint) → length (known ++ o ∷ []) ≡ suc (length known)
length_push [] o = refl
length_push (k ∷ ks) o = ap suc (length_push ks o)
