-- What is known after a contradiction.
use Rattle.std.proofs.Common.{◌≡◌, ℤ, true, Some, List, [], ◌∷◌, ◌++◌, length}
use Rattle.std.specs.Prelude.{◌==◌}
use Rattle.std.proofs.lemmas.List.Elements.{All-pop}
use Rattle.ps_pb.specs.Constraints.{Constraint, IsMet}
use Rattle.ps_pb.specs.Weights.{clause_of}
use Rattle.ps_pb.specs.Steps.{known_of, IsUnmet}
use Rattle.ps_pb.proofs.Lawful.{contradiction-unmet}
use Rattle.ps_clause.proofs.Starts.{known-all}

-- nothing meets what is known after a clause without literals
pub none_left : (cs new : List Constraint) (lits : List ℤ) (c : Constraint) → new ≡ cs ++ c ∷ [] → c ≡ clause_of lits → (length lits == 0) ≡ true → IsUnmet (known_of new)
none_left cs new lits c more is none = record {
  none = λ w met.
      let last : IsMet w c = (All-pop (IsMet w) new cs (Some c) more (known-all (IsMet w) new met.at)).1 in
      contradiction-unmet w (record { id = 0; lits = lits; hints = [] }) none (rw is at last);
}
