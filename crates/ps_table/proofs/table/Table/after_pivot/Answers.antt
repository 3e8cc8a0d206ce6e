use Rattle.std.proofs.Common.{IfOk, sym, subst}
use Rattle.ps_table.specs.Places.{HasNarrowColumn}
use Rattle.ps_table.proofs.table.Table.after_pivot.Goals as goal

pub returns-in-World-clause-column : goal.returns-in-World-clause-column
returns-in-World-clause-column c = subst (λ q. IfOk c.after_world.result (λ _. HasNarrowColumn c.args.self.now q)) (sym c.in-World.is) c.after_world.ensures.column
