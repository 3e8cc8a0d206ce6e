use Rattle.std.proofs.Common.{◌++◌, ◌∙◌, ap, refl}
use Rattle.ps_answer.specs.declared.answer.QueryPart.{QueryPart}
use Rattle.ps_canonical.proofs.Laid.{lines-more, lines-all}
use Rattle.ps_spoken.specs.Quiet.{parts_values, query_values}
use Rattle.ps_spoken.proofs.Values.{values-push}
use Rattle.ps_spoken.proofs.quiet.queries.Goals as goal

pub loop-part-preserved : goal.loop-part-preserved
loop-part-preserved c =
    lines-more (parts_values c.args.digits) (λ (part : QueryPart). query_values c.args.digits part.answer) (values-push c.args.digits) c.args.parts.now c.args.parts.now refl
    c.loop-part.part-index c.part-item.result c.loop-part-test.true c.args.out.now.items c.loop-part.out.items c.write_query_values.new.out.items c.loop-part.invariant
    (c.in_ok-write_query_values.ensures ∙ ap (λ (part : QueryPart). c.loop-part.out.items ++ query_values c.args.digits part.answer) c.part-item.is)

pub returns : goal.returns
returns c =
    lines-all (parts_values c.args.digits) c.args.parts.now c.args.parts.now refl
    c.loop-part.part-index c.loop-part-test.false c.args.out.now.items c.loop-part.out.items c.loop-part.invariant
