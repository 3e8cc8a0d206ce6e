use Rattle.std.proofs.Common.{Option, IfSome, subst}
use Rattle.ps_answer.specs.declared.answer.SideAnswer.{SideAnswer}
use Rattle.ps_claims.specs.declared.claim_kind.ClaimKind.TheVariants.{Lower, Upper}
use Rattle.ps_guess.specs.Trials.{IsFoundSide}
use Rattle.ps_guess.proofs.known.known_by.Goals as goal

pub returns-clause-known : goal.returns-clause-known
returns-clause-known c = λ limits p q l u.
    let lower = subst (λ (o : Option SideAnswer). IfSome o (IsFoundSide p Lower q)) c.in-Some.is l in
    let upper = subst (λ (o : Option SideAnswer). IfSome o (IsFoundSide p Upper q)) c.in-Some-upper.is u in
    c.both_found.ensures.answered limits p q lower upper
