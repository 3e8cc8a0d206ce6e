use Rattle.std.proofs.Common.{sym, subst}
use Rattle.std.proofs.lemmas.Result.{IfOk-weaker}
use Rattle.ps_query.specs.Parts.{IsPartOf, AreBoundsBehind}
use Rattle.ps_query.proofs.Asked.{none_given, asks_none, has_nodes, is_asked, none_traced, may_ask, part_asked}
use Rattle.ps_query.proofs.solving.part_behind.Goals as goal

pub asking-requires-clause-none : goal.asking-requires-clause-none
asking-requires-clause-none c =
    asks_none c.args.query (none_given c.args.query.given c.is_some.result c.is_some.ensures c.if-is_some.false) c.args.limits c.args.problem.now c.args.first.now
    c.args.run.now c.requires.reached

pub asking-requires-clause-query : goal.asking-requires-clause-query
asking-requires-clause-query c =
    has_nodes c.args.query (none_given c.args.query.given c.is_some.result c.is_some.ensures c.if-is_some.false) c.args.limits c.args.problem.now c.args.first.now
    c.args.run.now c.requires.reached c.requires.query

pub bounds_behind-requires-clause-query : goal.bounds_behind-requires-clause-query
bounds_behind-requires-clause-query c =
    is_asked c.args.query (none_given c.args.query.given c.is_some.result c.is_some.ensures c.if-is_some.false) c.args.limits c.args.problem.now c.args.first.now
    c.args.run.now c.requires.reached c.in_ok-asked.asked c.in_ok-asked.ensures.run

pub bounds_behind-requires-clause-reached : goal.bounds_behind-requires-clause-reached
bounds_behind-requires-clause-reached c =
    may_ask c.args.query (none_given c.args.query.given c.is_some.result c.is_some.ensures c.if-is_some.false) c.args.limits c.args.problem.now c.args.first.now
    c.args.run.now c.requires.reached c.in_ok-asked.asked c.in_ok-asked.ensures.run

pub bounds_behind-requires-clause-taken : goal.bounds_behind-requires-clause-taken
bounds_behind-requires-clause-taken c =
    none_traced c.args.query (none_given c.args.query.given c.is_some.result c.is_some.ensures c.if-is_some.false) c.args.limits c.args.problem.now c.args.first.now
    c.args.run.now c.requires.reached c.in_ok-asked.asked c.in_ok-asked.ensures.run

pub returns : goal.returns
returns c =
    IfOk-weaker c.bounds_behind.result (AreBoundsBehind c.in_ok-asked.asked c.args.first.now) (IsPartOf c.args.limits c.args.problem.now c.args.query)
    (λ part h.
    subst (λ es. IsPartOf c.args.limits c.args.problem.now c.args.query (record { answer = part.answer; first = es })) (sym h.behind)
    (part_asked c.args.query (none_given c.args.query.given c.is_some.result c.is_some.ensures c.if-is_some.false) c.args.limits c.args.problem.now c.args.first.now
    c.args.run.now c.requires.reached c.in_ok-asked.asked c.in_ok-asked.ensures.run part.answer h.bounds h.printed))
    c.bounds_behind.ensures
