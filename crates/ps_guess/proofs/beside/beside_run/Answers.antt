use Rattle.std.proofs.Common.{subst}
use Rattle.ps_answer.specs.declared.answer.QueryAnswer.{QueryAnswer}
use Rattle.ps_answer.specs.declared.answer.QueryAnswer.TheVariants as query
use Rattle.ps_claims.specs.declared.claim_kind.ClaimKind.TheVariants.{Lower, Upper}
use Rattle.ps_query.specs.Parts.{IsPartOf}
use Rattle.ps_guess.proofs.Settled.{bounds_beside, left_lower, left_upper}
use Rattle.ps_guess.proofs.beside.beside_run.Goals as goal

pub returns-in-Bounds-clause-answered : goal.returns-in-Bounds-clause-answered
returns-in-Bounds-clause-answered c = λ limits p q h l u.
    let b = c.in-Bounds in
    let run : QueryAnswer = query.Bounds b.lower_left b.lower_trace b.upper_left b.upper_trace in
    let first = c.args.run.first in
    let part = subst (λ (a : QueryAnswer). IsPartOf limits p q (record { answer = a; first = first })) b.is h in
    let below = c.found_or-lower.ensures.answered p q run Lower l (left_lower limits p q b.lower_left b.upper_left b.lower_trace b.upper_trace first part) in
    let above = c.found_or-upper.ensures.answered p q run Upper u (left_upper limits p q b.lower_left b.upper_left b.lower_trace b.upper_trace first part) in
    bounds_beside limits p q b.lower_left b.upper_left b.lower_trace b.upper_trace first c.found_or-lower.result.0 c.found_or-upper.result.0
    c.found_or-lower.result.1 c.found_or-upper.result.1 part below above
