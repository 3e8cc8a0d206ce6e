use Rattle.std.proofs.Common.{◌≡◌, ◌+◌, suc, length, set, take, arith, ap, subst, ◌∙◌}
use Rattle.std.proofs.lemmas.List.{length-set}
use Rattle.ps_table.specs.Changes.{written}
use Rattle.ps_table.proofs.Changes.{written_next}
use Rattle.ps_table.proofs.change.write_all.Goals as goal

pub loop-change-preserved : goal.loop-change-preserved
loop-change-preserved c =
    let change = c.change-item.result in
    let now = set c.loop-change.cells.items change.place change.entry in
    let e : suc c.loop-change.change-index ≡ c.loop-change.change-index + 1 = omega arith in
    record {
      written =
          c.write.ensures.written
          ∙ subst (λ n. now ≡ written c.args.cells.now.items (take n c.args.changes.now)) e (written_next c.args.cells.now.items c.loop-change.cells.items c.args.changes.now c.loop-change.change-index change c.loop-change-test.true c.loop-change.invariant.written c.change-item.is);
      count = ap (λ zs. length zs) c.write.ensures.written ∙ length-set c.loop-change.cells.items change.place change.entry ∙ c.loop-change.invariant.count;
    }
