use Rattle.ps_claims.proofs.Sizes.{size-combination}
use Rattle.ps_claims.specs.Certificates.{dual_of}
use Rattle.ps_claims.proofs.CombinationSums.{rows-small, whole}
use Rattle.ps_claims.proofs.combining.combination_of.Goals as goal

pub add_rows-requires-clause-rows : goal.add_rows-requires-clause-rows
add_rows-requires-clause-rows c = rows-small c.requires.rows.nodes c.args.rows.now c.requires.rows.rows c.requires.rows.few_nodes

pub returns-clause-exact : goal.returns-clause-exact
returns-clause-exact c = whole c.args.rows.now c.args.kind c.args.given c.args.both c.args.dual.now c.new.result c.as_slice.result.now c.add_claim.new.sum c.add_rows.new.sum
    c.new.ensures c.as_slice.ensures c.in_ok-add_claim.ensures c.in_ok-add_rows.ensures

pub returns-clause-small : goal.returns-clause-small
returns-clause-small c = rw (returns-clause-exact c) (size-combination c.requires.rows.nodes c.args.kind c.args.given c.args.both c.args.rows.now (dual_of c.args.dual.now)
    c.requires.rows.rows c.requires.rows.few c.requires.small.rows c.requires.small.head c.requires.small.top)
