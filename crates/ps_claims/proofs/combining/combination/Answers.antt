use Rattle.std.proofs.Common.{length, sym, ap, ◌∙◌}
use Rattle.ps_problem.proofs.BoundRows.{rows-length}
use Rattle.ps_claims.proofs.CombinationSums.{node-given, node-both}
use Rattle.ps_claims.proofs.combining.combination.Goals as goal

pub combination_of-requires-clause-rows : goal.combination_of-requires-clause-rows
combination_of-requires-clause-rows c = record {
  nodes = c.args.problem.now.nodes;
  few_nodes = c.rows-rows.ensures.parts.few_nodes;
  rows = c.rows-rows.ensures.sound;
  few = c.rows-rows.ensures.few;
}

pub combination_of-requires-clause-lengths : goal.combination_of-requires-clause-lengths
combination_of-requires-clause-lengths c = c.requires.rows ∙ sym (rows-length c.args.problem.now.sentences) ∙ sym (ap length c.rows-rows.ensures.rows)

pub combination_of-requires-clause-given : goal.combination_of-requires-clause-given
combination_of-requires-clause-given c = node-given c.args.problem.now.nodes c.args.given c.requires.given c.rows-rows.ensures.parts.few_nodes

pub combination_of-requires-clause-both : goal.combination_of-requires-clause-both
combination_of-requires-clause-both c = λ asked. node-both c.args.problem.now.nodes c.args.both (c.requires.both asked) c.rows-rows.ensures.parts.few_nodes
