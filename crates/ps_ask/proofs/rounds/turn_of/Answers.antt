use Rattle.std.proofs.Common.{rules, ◌≡◌, List, None, get_or, sym, subst}
use Rattle.ps_problem.specs.declared.query.Query.{Query}
use Rattle.ps_ask.specs.Rounds.{IsPending}
use Rattle.ps_ask.proofs.rounds.turn_of.Goals as goal

pub one_turn-requires-clause-pending : goal.one_turn-requires-clause-pending
one_turn-requires-clause-pending g c =
    let s = c.args.settings in
    let p = c.args.trials.now in
    let d : Query = record { formula = 0; given = None; both = 0 } in
    let same : c.as_slice-queries.result.now ≡ p.queries = search rules in
    subst (λ (qs : List Query). IsPending s p (get_or qs c.args.place d) c.args.pending) (sym same) (c.requires.pending d)
