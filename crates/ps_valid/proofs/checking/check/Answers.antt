use Rattle.std.proofs.Common.{◌≡◌, Err, length, ap, arith, rules}
use Rattle.std.proofs.lemmas.List.{length-map}
use Rattle.ps_claims.specs.Answers.{asked_under}
use Rattle.ps_claims.proofs.Valid.{valid-right}
use Rattle.ps_valid.specs.Answers.{answer_of, part_of, parts_of, verdict_of}
use Rattle.ps_valid.proofs.ClaimsInOrder.{all_accepted, few_in_all, others_refused, verdict_refused}
use Rattle.ps_valid.proofs.checking.check.Goals as goal

pub returns-in_err-verdict-clause-judged : goal.returns-in_err-verdict-clause-judged
returns-in_err-verdict-clause-judged c =
    let a = c.args.answer.now in
    let e = c.in_err-verdict.field-0.0 in
    let same : c.from_residual.result ≡ Err e = search rules in
    let has : length (parts_of a.parts) ≡ length (asked_under (verdict_of a.verdict) c.args.problem.now.queries) =
    omega (arith, length-map a.parts (λ part. part_of part.answer), ap length c.as_slice-parts.ensures, ap length c.queries_asked-queries.ensures.queries, c.if-parts-queries.false) in
    rw same (verdict_refused c.args.problem.now a e has c.in_err-verdict.ensures)

pub returns-in_err-others-clause-judged : goal.returns-in_err-others-clause-judged
returns-in_err-others-clause-judged c =
    let a = c.args.answer.now in
    let e = c.in_err-others.field-0.0 in
    let same : c.from_residual-in_err-others.result ≡ Err e = search rules in
    let has : length (parts_of a.parts) ≡ length (asked_under (verdict_of a.verdict) c.args.problem.now.queries) =
    omega (arith, length-map a.parts (λ part. part_of part.answer), ap length c.as_slice-parts.ensures, ap length c.queries_asked-queries.ensures.queries, c.if-parts-queries.false) in
    rw same
    (others_refused c.args.problem.now a c.queries_asked-queries.result.now c.as_slice-parts.result.now c.in_ok-verdict.verdict c.queries_asked-queries.ensures.queries c.as_slice-parts.ensures e has c.in_ok-verdict.ensures c.in_err-others.ensures)

pub sum_of-requires-clause-claims : goal.sum_of-requires-clause-claims
sum_of-requires-clause-claims c =
    let few =
    few_in_all c.args.problem.now c.args.answer.now c.queries_asked-queries.result.now c.as_slice-parts.result.now c.in_ok-verdict.verdict c.queries_asked-queries.ensures.queries c.as_slice-parts.ensures c.in_ok-others.others
    c.queries_asked-queries.ensures.few c.if-parts-queries.false c.in_ok-verdict.ensures c.in_ok-others.ensures in
    omega (arith, few.0)

pub sum_of-requires-clause-unfinished : goal.sum_of-requires-clause-unfinished
sum_of-requires-clause-unfinished c =
    let few =
    few_in_all c.args.problem.now c.args.answer.now c.queries_asked-queries.result.now c.as_slice-parts.result.now c.in_ok-verdict.verdict c.queries_asked-queries.ensures.queries c.as_slice-parts.ensures c.in_ok-others.others
    c.queries_asked-queries.ensures.few c.if-parts-queries.false c.in_ok-verdict.ensures c.in_ok-others.ensures in
    omega (arith, few.1)

pub returns-clause-judged : goal.returns-clause-judged
returns-clause-judged c =
    let a = c.args.answer.now in
    let has : length (parts_of a.parts) ≡ length (asked_under (verdict_of a.verdict) c.args.problem.now.queries) =
    omega (arith, length-map a.parts (λ part. part_of part.answer), ap length c.as_slice-parts.ensures, ap length c.queries_asked-queries.ensures.queries, c.if-parts-queries.false) in
    all_accepted c.args.problem.now a c.queries_asked-queries.result.now c.as_slice-parts.result.now c.in_ok-verdict.verdict c.queries_asked-queries.ensures.queries c.as_slice-parts.ensures c.in_ok-others.others c.sum_of.result has c.in_ok-verdict.ensures
    c.in_ok-others.ensures c.sum_of.ensures.claims c.sum_of.ensures.unfinished

pub returns-clause-right : goal.returns-clause-right
returns-clause-right c =
    let a = c.args.answer.now in
    let has : length (parts_of a.parts) ≡ length (asked_under (verdict_of a.verdict) c.args.problem.now.queries) =
    omega (arith, length-map a.parts (λ part. part_of part.answer), ap length c.as_slice-parts.ensures, ap length c.queries_asked-queries.ensures.queries, c.if-parts-queries.false) in
    let accepted =
    all_accepted c.args.problem.now a c.queries_asked-queries.result.now c.as_slice-parts.result.now c.in_ok-verdict.verdict c.queries_asked-queries.ensures.queries c.as_slice-parts.ensures c.in_ok-others.others c.sum_of.result has c.in_ok-verdict.ensures
    c.in_ok-others.ensures c.sum_of.ensures.claims c.sum_of.ensures.unfinished in
    valid-right c.args.problem.now (answer_of a) c.rows-sound.ensures.parts accepted.valid
