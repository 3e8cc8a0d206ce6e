use Rattle.std.proofs.Common.{◌≡◌, to_z, of_z, sym, ◌∙◌, arith}
use Rattle.std.proofs.lemmas.Int.{ints}
use mir.Syntax.{w128}
use Rattle.ps_valid.proofs.Tables.{judged_valued, rows_cover, valuations_small, total-valued}
use Rattle.ps_valid.proofs.meeting.missed_row.Goals as goal

pub first_missed-requires-clause-valued : goal.first_missed-requires-clause-valued
first_missed-requires-clause-valued c = valuations_small c.args.problem.now.nodes c.args.model.now.worlds c.args.valued.now c.requires.small.worlds c.requires.table

pub first_missed-requires-clause-total : goal.first_missed-requires-clause-total
first_missed-requires-clause-total c =
    let same : to_z w128 (of_z w128 c.args.model.now.total) ≡ c.args.model.now.total = omega (arith, ints, c.requires.small.total.low, c.requires.small.total.high) in
    same ∙ c.requires.total.1 ∙ sym (total-valued c.args.problem.now.nodes c.args.model.now.worlds c.args.valued.now c.requires.table)

pub first_missed-requires-clause-rows : goal.first_missed-requires-clause-rows
first_missed-requires-clause-rows c = rows_cover c.args.problem.now.nodes c.args.valued.now c.args.rows.now c.requires.table.widths c.requires.rows

pub returns : goal.returns
returns c = judged_valued c.args.problem.now.nodes c.args.model.now.worlds c.args.valued.now c.args.rows.now c.first_missed.result c.requires.table c.requires.rows c.first_missed.ensures
