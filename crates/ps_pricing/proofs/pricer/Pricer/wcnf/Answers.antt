use Rattle.std.proofs.Common.{rules, ◌≡◌, ℕ, Option, sym, subst, arith}
use Rattle.std.specs.Option.{IfSome}
use Rattle.ps_runs.specs.Subjects.{given_in, both_in}
use Rattle.ps_problem.specs.Problems.{AreParts}
use Rattle.ps_problem.specs.Rows.{rows_in}
use Rattle.ps_problem.proofs.BoundRows.{are-rows, rows-length}
use Rattle.ps_claims.specs.Rows.{AreOverNodes, IsNode}
use Rattle.ps_claims.proofs.CombinationSums.{node-given, node-both}
use Rattle.ps_maxsat.specs.declared.problem.Wcnf.{Wcnf}
use Rattle.ps_pricing.specs.Pricings.{IsWcnf}
use Rattle.ps_runs.proofs.Asked.{given_there, both_there}
use Rattle.ps_pricing.proofs.Terms.{soft_within}
use Rattle.ps_pricing.proofs.pricer.Pricer.wcnf.Goals as goal

pub combination_of-requires-clause-rows : goal.combination_of-requires-clause-rows
combination_of-requires-clause-rows c =
    let p = c.args.self.now.subject.parts in
    let are : AreParts p = search rules in
    let same : c.rows-rows.result.now ≡ rows_in p.sentences = search rules in
    let few = are.few_bounds in
    let many = rows-length p.sentences in
    subst AreOverNodes (sym same)
    (record { nodes = p.nodes; few_nodes = are.few_nodes; rows = are-rows p.nodes p.sentences are.bounds; few = omega (arith, few, many) })

pub combination_of-requires-clause-given : goal.combination_of-requires-clause-given
combination_of-requires-clause-given c =
    let s = c.args.self.now.subject in
    let are : AreParts s.parts = search rules in
    let is : c.evidence-given.result ≡ given_in s.query = search rules in
    subst (λ (g : Option ℕ). IfSome g IsNode) (sym is)
    (node-given s.parts.nodes (given_in s.query) (given_there c.args.kind s.parts s.query c.requires.asked) are.few_nodes)

pub combination_of-requires-clause-both : goal.combination_of-requires-clause-both
combination_of-requires-clause-both c = λ asked.
    let s = c.args.self.now.subject in
    let are : AreParts s.parts = search rules in
    let is : c.both-both.result ≡ both_in s.query = search rules in
    subst IsNode (sym is) (node-both s.parts.nodes (both_in s.query) (both_there c.args.kind s.parts s.query c.requires.asked asked) are.few_nodes)

pub returns-clause-within : goal.returns-clause-within
returns-clause-within c =
    let p : Wcnf = record { hard = c.in_ok-copy.field-0; soft = c.in_ok-terms.field-0.terms; base = c.in_ok-terms.field-0.base } in
    let are : AreParts c.args.self.now.subject.parts = search rules in
    let is : IsWcnf c.args.kind c.args.self.now.subject c.args.dual.now p = search rules in
    soft_within c.args.kind c.args.self.now.subject c.args.dual.now p are c.requires.asked is
