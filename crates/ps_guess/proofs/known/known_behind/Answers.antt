use Rattle.std.proofs.Common.{subst}
use Rattle.ps_answer.specs.declared.answer.QueryAnswer.{QueryAnswer}
use Rattle.ps_claims.specs.declared.claim_kind.ClaimKind.TheVariants.{Lower, Upper}
use Rattle.ps_claims.specs.Validity.{IsValidPart}
use Rattle.ps_claims.specs.Printed.{IsPrintedPart}
use Rattle.ps_valid.specs.Answers.{part_of}
use Rattle.ps_guess.proofs.KnownLaws.{answer_or_sides, keeps_still, shows_none, taken_side, takes_bounds}
use Rattle.ps_guess.proofs.known.known_behind.Goals as goal

pub returns : goal.returns
returns c =
    let b = c.in-Bounds in
    let lower = c.closed_or in
    let upper = c.closed_or-in-Bounds in
    let both = answer_or_sides lower.result upper.result c.known_by.result c.known_by.ensures.sides c.known_by.ensures.both in
    record {
      known = λ limits own p q h l u.
          let valid = subst (λ (a : QueryAnswer). IsValidPart p q (part_of a)) b.is h.valid in
          let printed = subst (λ (a : QueryAnswer). IsPrintedPart a) b.is h.printed in
          c.known_by.ensures.known limits p q (lower.ensures.known p q Lower l (valid.0, printed.0)) (upper.ensures.known p q Upper u (valid.1, printed.1));
      kept = keeps_still c.args.lower c.args.upper lower.result upper.result c.known_by.result lower.ensures.kept upper.ensures.kept c.known_by.ensures.kept;
      taken = takes_bounds _ b.lower_left b.upper_left _ _ lower.result upper.result c.known_by.result b.is
          (taken_side c.args.lower b.lower_left lower.result lower.ensures.kept lower.ensures.taken)
          (taken_side c.args.upper b.upper_left upper.result upper.ensures.kept upper.ensures.taken) both;
    }

pub returns-in-Impossible-clause-known : goal.returns-in-Impossible-clause-known
returns-in-Impossible-clause-known c = λ limits own p q h l u.
    c.found_impossible.ensures.answered limits p q (record {
      valid = subst (λ (a : QueryAnswer). IsValidPart p q (part_of a)) c.in-Impossible.is h.valid;
      printed = subst (λ (a : QueryAnswer). IsPrintedPart a) c.in-Impossible.is h.printed;
    })

pub returns-in-Impossible-clause-kept : goal.returns-in-Impossible-clause-kept
returns-in-Impossible-clause-kept c = shows_none c.args.lower c.args.upper _ _ c.found_impossible.ensures.excluded
