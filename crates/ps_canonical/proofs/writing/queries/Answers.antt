use Rattle.std.proofs.Common.{◌∙◌}
use Rattle.ps_canonical.specs.Lines.{query_line, query_lines}
use Rattle.ps_canonical.proofs.Laid.{queries-push, lines-more, lines-all}
use Rattle.ps_canonical.proofs.writing.queries.Goals as goal

pub loop-query-preserved : goal.loop-query-preserved
loop-query-preserved c =
    let p = c.args.problem.now in
    lines-more (query_lines p) (query_line p) (queries-push p) c.as_slice-query-items.result.now p.queries (c.as_slice-query-items.ensures ∙ c.queries.ensures.queries)
    c.loop-query.query-index _ c.loop-query-test.true c.args.out.now.items c.loop-query.out.items c.write_query.new.out.items c.loop-query.invariant c.in_ok-write_query.ensures

pub returns : goal.returns
returns c =
    let p = c.args.problem.now in
    lines-all (query_lines p) c.as_slice-query-items.result.now p.queries (c.as_slice-query-items.ensures ∙ c.queries.ensures.queries)
    c.loop-query.query-index c.loop-query-test.false c.args.out.now.items c.loop-query.out.items c.loop-query.invariant
