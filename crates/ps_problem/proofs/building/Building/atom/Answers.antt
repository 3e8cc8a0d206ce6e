use Rattle.std.proofs.Common.{◌≡◌, ap, subst, ◌∙◌, arith, nat_eq, Ok, Err}
use Rattle.std.proofs.lemmas.Result.{err_from_is_err_and}
use Rattle.ps_formula.specs.declared.node.Node.TheVariants as node
use Rattle.ps_problem.specs.Numbering.{place_in}
use Rattle.ps_problem.specs.Numbered.{IsAdded}
use Rattle.ps_problem.proofs.Atoms.{atom-known, atom-full, atom-new, atom-refused}
use Rattle.ps_problem.proofs.building.Building.atom.Goals as goal

pub returns-then-place-len : goal.returns-then-place-len
returns-then-place-len c = record {
  each = λ names h lt.
      let s = c.args.self.now in
      let place : c.place_of-place.result ≡ place_in nat_eq s.atoms c.args.name = c.place_of-place.ensures ∙ ap (λ xs. place_in nat_eq xs c.args.name) c.as_slice.ensures in
      rw c.node.ensures.atoms (atom-known names s.atoms s.formulas h c.args.name lt (omega arith) c.node.new.self.formulas c.node.result
      (subst (λ i. IsAdded s.formulas (node.Atom i) c.node.new.self.formulas c.node.result) place c.node.ensures.nodes));
}

pub returns-then-place-ge-MOST_ATOMS : goal.returns-then-place-ge-MOST_ATOMS
returns-then-place-ge-MOST_ATOMS c = record {
  each = λ names h lt.
      let s = c.args.self.now in
      let place : c.place_of-place.result ≡ place_in nat_eq s.atoms c.args.name = c.place_of-place.ensures ∙ ap (λ xs. place_in nat_eq xs c.args.name) c.as_slice.ensures in
      atom-full names s.atoms s.formulas h c.args.name lt (omega arith) (omega arith);
}

pub returns-in_err-number : goal.returns-in_err-number
returns-in_err-number c = record {
  each = λ names h lt.
      let p = err_from_is_err_and c.from_residual.result c.from_residual.ensures.1 in
      let s = c.args.self.now in
      let place : c.place_of-place.result ≡ place_in nat_eq s.atoms c.args.name = c.place_of-place.ensures ∙ ap (λ xs. place_in nat_eq xs c.args.name) c.as_slice.ensures in
      rw (p.1, p.2) (atom-refused names s.atoms s.formulas h c.args.name lt (omega arith) (omega arith) c.node-2.new.self.formulas c.in_err-number.field-0.0
      (subst (λ i. IsAdded s.formulas (node.Atom i) c.node-2.new.self.formulas (Err c.in_err-number.field-0.0)) place c.in_err-number.ensures.nodes));
}

pub returns : goal.returns
returns c = record {
  each = λ names h lt.
      let s = c.args.self.now in
      let place : c.place_of-place.result ≡ place_in nat_eq s.atoms c.args.name = c.place_of-place.ensures ∙ ap (λ xs. place_in nat_eq xs c.args.name) c.as_slice.ensures in
      rw (c.in_ok-push.ensures.ok, c.in_ok-number.ensures.atoms) (atom-new names s.atoms s.formulas h c.args.name lt (omega arith) (omega arith) c.node-2.new.self.formulas c.in_ok-number.number
      (subst (λ i. IsAdded s.formulas (node.Atom i) c.node-2.new.self.formulas (Ok c.in_ok-number.number)) place c.in_ok-number.ensures.nodes));
}
