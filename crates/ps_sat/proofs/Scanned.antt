-- What a scan of one constraint finds.
use Rattle.std.proofs.Common.{◌≡◌, ℕ, ◌<◌, ℤ, pos, ◌<ℤ◌, Bool, true, length, get_or, sym, ◌∙◌, subst, unsigned_abs}
use Rattle.std.specs.Prelude.{int_lt}
use Rattle.std.proofs.lemmas.Bool.{and_parts}
use Rattle.ps_pb.specs.Assignments.{Assignment, value_of, is_unset}
use Rattle.ps_pb.specs.Constraints.{Constraint, HasTerm, Forces, slack, is_forced}
use Rattle.ps_pb.specs.Weights.{Weighted, terms_of, term_of}
use Rattle.ps_pb.proofs.Forcing.{lt-of}
use Rattle.ps_pb.proofs.Searched.{has_term-at}

pub first_forces : (c : Constraint) (a : Assignment) (s : ℤ) (ts : Weighted) (i : ℕ) (t : ℤ × ℤ) (b : Bool) → terms_of ts ≡ c.terms → s ≡ slack c a → i < length ts → t ≡ get_or ts i t → b ≡ is_forced s a (term_of t) → b ≡ true → Forces c a t.0
first_forces c a s ts i t b e q h at f y =
    let two = and_parts (is_unset (value_of a t.0)) (int_lt s (pos (unsigned_abs t.1))) (sym f ∙ y) in
    record {
      coefficient = unsigned_abs t.1;
      term = subst (HasTerm t.0 (unsigned_abs t.1)) e (has_term-at ts i t h at);
      unset = two.0;
      more = subst (λ z. z <ℤ pos (unsigned_abs t.1)) q (lt-of s (pos (unsigned_abs t.1)) two.1);
    }
