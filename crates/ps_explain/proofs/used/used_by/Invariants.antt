use Rattle.std.proofs.Common.{◌≡◌, ◌++◌, drop, ◌≤◌, ◌*◌}
use Rattle.ps_explain.specs.Used.{used_of}
use Rattle.ps_explain.proofs.used.used_by.Given as goal

abbrev pub invariant-loop-sentence : goal.invariant-loop-sentence
invariant-loop-sentence l = record {
  rest : l.used ++ used_of (drop l.sentence-index l.sentences) (drop l.place l.rows) ≡ used_of l.sentences l.rows;
  place : l.place ≤ 2 * l.sentence-index;
}
