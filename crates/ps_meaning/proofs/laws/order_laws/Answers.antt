use Rattle.ps_meaning.proofs.Order.{at_most_total, at_most_trans, at_most_antisym, at_most-add, at_most_mul, cross_from_at_most, at_most_from_cross, not_less, less_of}
use Rattle.ps_meaning.proofs.laws.order_laws.Goals as goal

pub returns : goal.returns
returns c = record {
  ordered = record {
    total = at_most_total;
    transitive = at_most_trans;
    antisymmetric = at_most_antisym;
    sums = at_most-add;
    products = at_most_mul;
    cross = λ x y. (cross_from_at_most x y, at_most_from_cross x y);
    less = λ x y. (λ l h. not_less x y h l, less_of x y);
  };
}
