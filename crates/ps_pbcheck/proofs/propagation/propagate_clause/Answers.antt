use Rattle.std.proofs.Common.{◌≡◌, sym, ap, ◌∙◌, true, false}
use Rattle.ps_pb.specs.Assignments.{value_of, is_unset}
use Rattle.ps_pbcheck.proofs.Opened.{none-violated, many-idle, one-forced, one-idle, some-set, none-unset}
use Rattle.ps_pbcheck.proofs.propagation.propagate_clause.Goals as goal

pub returns-then-is_some : goal.returns-then-is_some
returns-then-is_some c =
    let set : is_unset (value_of c.args.a.now c.in-One.lit) ≡ false = ap is_unset (sym c.value_of.ensures) ∙ some-set c.value_of.result (sym c.is_some.ensures ∙ c.if-is_some.true) in
    one-idle c.args.a.now c.in-One.lit c.args.lits.now c.requires c.in-One.ensures set

pub returns-in-Nothing : goal.returns-in-Nothing
returns-in-Nothing c = none-violated c.args.a.now c.args.lits.now c.requires c.in-Nothing.ensures

pub returns-in-Several : goal.returns-in-Several
returns-in-Several c = many-idle c.args.a.now c.args.lits.now c.requires c.in-Several.ensures

pub returns-else-is_some : goal.returns-else-is_some
returns-else-is_some c =
    let unset : is_unset (value_of c.args.a.now c.in-One.lit) ≡ true = ap is_unset (sym c.value_of.ensures) ∙ none-unset c.value_of.result (sym c.is_some.ensures ∙ c.if-is_some.false) in
    rw c.set.ensures (one-forced c.args.a.now c.in-One.lit c.args.lits.now c.requires c.in-One.ensures unset)
