use Rattle.std.proofs.Common.{Option, IfSome, subst}
use Rattle.ps_answer.specs.declared.answer.SideAnswer.{SideAnswer}
use Rattle.ps_claims.specs.declared.claim_kind.ClaimKind.TheVariants.{Lower, Upper}
use Rattle.ps_guess.specs.Trials.{IsFoundSide}
use Rattle.ps_guess.proofs.beside.beside_open.Goals as goal

pub returns-in-Some-Some-clause-answered : goal.returns-in-Some-Some-clause-answered
returns-in-Some-Some-clause-answered c = λ limits p q run l u.
    let lower = subst (λ (o : Option SideAnswer). IfSome o (IsFoundSide p Lower q)) c.in-Some-Some.is-0 l in
    let upper = subst (λ (o : Option SideAnswer). IfSome o (IsFoundSide p Upper q)) c.in-Some-Some.is-1 u in
    c.both_found.ensures.answered limits p q lower upper
