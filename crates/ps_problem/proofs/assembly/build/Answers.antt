use Rattle.std.proofs.Common.{map, sym, subst, ◌∙◌, All}
use Rattle.ps_meaning.specs.Names.{IsName}
use Rattle.ps_problem.specs.Problems.{AreParts}
use Rattle.ps_problem.proofs.Making.{stating-start, asking-start, asking-end, asking-problem}
use Rattle.ps_problem.proofs.Parts.{parts-in-order}
use Rattle.ps_problem.proofs.Copied.{named-copies}
use Rattle.ps_problem.proofs.assembly.build.Goals as goal

pub sentences-requires : goal.sentences-requires
sentences-requires c =
    let d = c.args.draft.now in
    let different = rw c.names-names.ensures.names at c.names-names.ensures.different in
    rw (c.new.ensures.atoms, c.new.ensures.formulas, c.new-2.ensures, c.new-3.ensures, c.new-4.ensures) (stating-start d different)

pub queries-requires : goal.queries-requires
queries-requires c =
    let s = c.sentences.new.self in
    let d = c.args.draft.now in
    asking-start d s c.in_ok-sentences.ensures.ok

pub of-requires-clause-is : goal.of-requires-clause-is
of-requires-clause-is c =
    let s = c.queries.new.self in
    let d = c.args.draft.now in
    let r = c.in_ok-queries.ensures.ok in
    let e = rw (c.names-names.ensures.names, c.as_slice.ensures) at c.in_ok-texts.ensures in
    let counted = asking-end d s r in
    let is = asking-problem d s (map (λ v. v.items) c.in_ok-texts.texts) r e in
    record {
      parts = subst AreParts (sym is) (parts-in-order d.items r.built.formulas c.names-names.ensures.reduced counted);
      items = d.items;
      formulas = r.built.formulas;
      reduced = c.names-names.ensures.reduced;
      nested = c.names-names.ensures.nested;
      within = counted;
      numbered = is;
      named = subst (All IsName) (sym e) (named-copies d.names s.building.atoms (rw c.names-names.ensures.names at c.names-names.ensures.named) r.built.within);
    }

pub returns : goal.returns
returns c =
    let s = c.queries.new.self in
    let d = c.args.draft.now in
    let r = c.in_ok-queries.ensures.ok in
    let e = rw (c.names-names.ensures.names, c.as_slice.ensures) at c.in_ok-texts.ensures in
    let counted = asking-end d s r in
    (r.built.formulas, counted, c.of.ensures ∙ asking-problem d s (map (λ v. v.items) c.in_ok-texts.texts) r e)
