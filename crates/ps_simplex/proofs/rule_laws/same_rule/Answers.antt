use Rattle.ps_simplex.proofs.Alike as alike
use Rattle.ps_simplex.proofs.rule_laws.same_rule.Goals as goal

pub returns : goal.returns
returns c = record {
  tables = record {
    due = λ n w basic a b phase h. alike.due n w basic a.artificial b.artificial a.cost b.cost a.entry b.entry h phase;
    improves = λ n w basic a b j h. alike.improves n w basic a.artificial b.artificial a.cost b.cost a.entry b.entry h j;
    enters = λ n w basic a b q h. alike.enters n w basic a.artificial b.artificial a.cost b.cost a.entry b.entry h q;
    leaves = λ n w basic a b phase q p h. alike.leaves n w basic a.artificial b.artificial a.cost b.cost a.entry b.entry h phase q p;
    moving = λ n w basic a b phase h. alike.moving n w basic a.artificial b.artificial a.cost b.cost a.entry b.entry h phase;
    resting = λ n w basic a b phase h. alike.resting n w basic a.artificial b.artificial a.cost b.cost a.entry b.entry h phase;
  };
  pivots = λ phase n w a b A B cost other x y pivots some hb ab cd columns h. alike.same_pivots phase n w a b A B cost other some ab cd columns x y pivots hb h;
}
