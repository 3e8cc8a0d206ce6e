use Rattle.std.proofs.Common.{subst, ◌∷◌}
use Rattle.std.specs.Prelude.{[]}
use Rattle.ps_answer.specs.declared.part.Part.TheVariants.{AQuery}
use Rattle.ps_reader.specs.Read.{Fits}
use Rattle.ps_reader.specs.Taken.{Takes}
use Rattle.ps_reader.proofs.Rests.{query_only, query_is, few_queries}
use Rattle.ps_reader.proofs.queries.is_query.Goals as goal

pub unreachable-requires : goal.unreachable-requires
unreachable-requires c = query_only c.args.number _ c.in_ok-take.ensures.fits c.in_default.not-Query c.in_default.not-End

pub returns-in-Query-clause-line : goal.returns-in-Query-clause-line
returns-in-Query-clause-line c = query_is c.args.number c.in-Query.number c.args.lines.now c.take.new.self (subst (λ i. Fits (AQuery c.args.number) i) c.in-Query.is c.in_ok-take.ensures.fits) (subst (λ i. Takes c.args.lines.now c.take.new.self (i ∷ [])) c.in-Query.is c.in_ok-take.ensures.line)

pub returns-in-Query-clause-number : goal.returns-in-Query-clause-number
returns-in-Query-clause-number c = few_queries c.args.number c.in-Query.number c.args.lines.now c.take.new.self (subst (λ i. Fits (AQuery c.args.number) i) c.in-Query.is c.in_ok-take.ensures.fits) (subst (λ i. Takes c.args.lines.now c.take.new.self (i ∷ [])) c.in-Query.is c.in_ok-take.ensures.line)
