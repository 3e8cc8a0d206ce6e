use Rattle.ps_read.specs.Kept.{pending_of}
use Rattle.ps_read.proofs.Marking.{group_operands}
use Rattle.ps_read.proofs.formula_parser.FormulaParser.close.Goals as goal

pub reduce-requires-in-Some-clause-operands : goal.reduce-requires-in-Some-clause-operands
reduce-requires-in-Some-clause-operands c =
    group_operands (pending_of c.reduce.new.self) (pending_of c.args.self.now) c.pop.result _ c.pop.new.self c.in_ok-reduce.ensures.reduced c.in_ok-reduce.ensures.operands c.in-Some.is c.pop.ensures
