use Rattle.std.proofs.Common.{◌≡◌, Err, get_or, ap, rules}
use Rattle.ps_answer.specs.declared.answer.QueryPart.{QueryPart}
use Rattle.ps_valid.proofs.ClaimsInOrder.{accepted_more, refused_at}
use Rattle.ps_valid.proofs.checking.check_parts.Goals as goal

pub returns-in_err-part : goal.returns-in_err-part
returns-in_err-part c =
    let parts = c.args.parts.now in
    let i = c.loop-i.i in
    let x = get_or parts i c.index-parts-i.result in
    let e = c.in_err-part.field-0.0 in
    let same : c.from_residual.result ≡ Err e = search rules in
    rw same
    (refused_at c.args.problem.now c.args.queries.now parts i _ x c.loop-i.all e c.requires.lengths c.loop-i-test.true c.loop-i.invariant (ap (λ (y : QueryPart). get_or parts i y) c.index-parts-i.is) c.in_err-part.ensures)

pub loop-i-preserved : goal.loop-i-preserved
loop-i-preserved c =
    let parts = c.args.parts.now in
    let i = c.loop-i.i in
    let x = get_or parts i c.index-parts-i.result in
    accepted_more c.args.problem.now c.args.queries.now parts i _ x c.loop-i.all c.in_ok-part.part c.sum_of-all.result c.requires.lengths c.loop-i-test.true c.loop-i.invariant
    (ap (λ (y : QueryPart). get_or parts i y) c.index-parts-i.is) c.in_ok-part.ensures c.sum_of-all.ensures.claims c.sum_of-all.ensures.unfinished
