use Rattle.std.proofs.Common.{◌≤◌, List, length}
use Rattle.ps_problem.specs.declared.sentence.Sentence.{Sentence}
use Rattle.ps_problem.specs.Problems.{bounds_in}
use Rattle.ps_problem.specs.Rows.{rows_in}
use Rattle.ps_problem.proofs.BoundRows.{are-rows, rows-length}
use Rattle.ps_claims.specs.Validity.{query_of}
use Rattle.ps_claims.proofs.NodeSums.{value-claimed, value-combination}
use Rattle.ps_claims.proofs.Sizes.{size-combination}
use Rattle.ps_claims.proofs.Refutations.{goal-value, value-goal}
use Rattle.ps_claims.proofs.claim_laws.combinations_are_sums.Goals as goal

few : (ss : List Sentence) → length (bounds_in ss) ≤ 100 → length (rows_in ss) ≤ 100
few ss h = rw (rows-length ss) h

pub returns-clause-value : goal.returns-clause-value
returns-clause-value c = λ p kind q d w are has. value-combination kind p.nodes w q.given q.both (rows_in p.sentences) (query_of p.nodes q) d (are-rows p.nodes p.sentences are.bounds) (value-claimed kind p.nodes w q d has)

pub returns-clause-goal : goal.returns-clause-goal
returns-clause-goal c = λ v k. (goal-value v k, value-goal v k)

pub returns-clause-size : goal.returns-clause-size
returns-clause-size c = λ p kind given both d are. size-combination p.nodes kind given both (rows_in p.sentences) d (are-rows p.nodes p.sentences are.bounds) (few p.sentences are.few_bounds)
