-- The causes of a conflict are marked back to the learned clause.
use Rattle.std.proofs.Common.{ℕ, ℤ, List, arith, inl, inr}
use Rattle.std.proofs.lemmas.Option.{slice_get_within}
use Rattle.ps_pb.specs.Assignments.{Assignment}
use Rattle.ps_pb.specs.Steps.{Known}
use Rattle.ps_learn.specs.Trails.{Trail}
use Rattle.ps_learn.specs.Causes.{Marks, HasMarkedCauses}
use Rattle.ps_learn.specs.Starting.{AreKeptLits}
use Rattle.ps_learn.specs.Marks.{IsCaused, IsReached}

pub has_marked_causes : (known : Known) (t : Trail) (conflict : ℕ) (marks kept : Marks) (lits : List ℤ) (a : Assignment) → IsCaused known t conflict marks kept → AreKeptLits t kept lits a → HasMarkedCauses known t conflict lits marks
has_marked_causes known t conflict marks kept lits a c k = record {
  conflict_is_marked = c.covered;
  only = λ l m. elim (c.only l m) [
    | inl own ↦ inl own
    | inr r ↦ inr (record { at = r.at; entry = r.entry; there = r.there; marked = r.marked; unkept = λ h. r.unkept (k.only_kept r.entry.lit h); id = r.id; reason = r.reason; false_at = r.false_at })
  ];
  explained = λ i e at m. elim (c.explained.at i e (omega arith) at m) [
    | inl own ↦ inl (k.listed i e (slice_get_within t.entries i e at) at own)
    | inr by ↦ inr by
  ];
}

-- and the conflict is reached from the literals of the clause, all of them false
pub is_reached : (known : Known) (t : Trail) (conflict : ℕ) (marks kept : Marks) (lits : List ℤ) (a : Assignment) → IsCaused known t conflict marks kept → AreKeptLits t kept lits a → IsReached known t conflict marks a
is_reached known t conflict marks kept lits a c k = record {
  covered = c.covered;
  explained = λ i e at m. elim (c.explained.at i e (omega arith) at m) [
    | inl own ↦ inl (k.kept_true i e (slice_get_within t.entries i e at) at own)
    | inr by ↦ inr by
  ];
}
