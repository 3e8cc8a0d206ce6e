use Rattle.ps_table.proofs.Worlds.{one_number, no_number, added}
use Rattle.ps_table.proofs.pool.Pool.add.Goals as goal
use Rattle.ps_table.proofs.pool.Pool.add.Goals.{in-Ok, in-Err}

pub returns-in-Some-clause-present : goal.returns-in-Some-clause-present
returns-in-Some-clause-present c = λ at.
    rw (← c.self.view_is) (one_number c.self.inside.worlds.keys c.args.world c.in-Some.i at c.self.invariant.0 c.in-Some.ensures.index)

pub invariant_of-self : goal.invariant_of-self
invariant_of-self c = elim c.match-insert_full.branch [
  | in-Ok w ↦ added c.self.inside.worlds.keys _ c.args.world c.self.invariant.0 (rw c.self.view_is c.requires.room) c.in_default.ensures.found w.in-Ok.ensures.keys
  | in-Err w ↦ rw w.in-Err.ensures.err c.self.invariant
]

pub returns-clause-present : goal.returns-clause-present
returns-clause-present c = λ at.
    let none = no_number c.self.inside.worlds.keys c.args.world at c.in_default.ensures.found in
    elim c.match-insert_full.branch [
      | in-Ok w ↦ ((λ f. cc), (λ h. absurd (none (rw c.self.view_is h))))
      | in-Err w ↦ ((λ f. cc), (λ h. absurd (none (rw c.self.view_is h))))
    ]
