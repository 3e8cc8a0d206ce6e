use Rattle.ps_problem.specs.Drafts.{formula_at}
use Rattle.std.proofs.Common.{option_map}
use Rattle.std.proofs.lemmas.Result.{err_from_is_err_and}
use Rattle.ps_problem.proofs.Pairs.{pair-first, pair-alone, pair-second, pair-third, pair-both, pair-fits}
use Rattle.ps_problem.proofs.building.Building.query.Goals as goal

pub returns-in_err-first : goal.returns-in_err-first
returns-in_err-first c = λ h.
    let p = err_from_is_err_and c.from_residual.result c.from_residual.ensures.1 in
    let fs = c.args.draft.now.formulas in
    let one = c.in_err-first.ensures in
    rw (p.1, p.2) (pair-first h.formulas (formula_at fs c.args.formula) (option_map (formula_at fs) c.args.given) c.in_err-first.field-0.0 (one h))

pub returns-in-None : goal.returns-in-None
returns-in-None c = λ h.
    let fs = c.args.draft.now.formulas in
    let one = c.in_ok-first.ensures in
    rw c.in-None.is (pair-alone c.args.draft.now.names h.formulas (formula_at fs c.args.formula) c.formula.new.self.atoms c.formula.new.self.formulas c.in_ok-first.first (one h))

pub formula-requires-2-clause-built : goal.formula-requires-2-clause-built
formula-requires-2-clause-built c =
    let one = c.in_ok-first.ensures in
    (one c.requires.built).0

pub returns-in_err-second : goal.returns-in_err-second
returns-in_err-second c = λ h.
    let p = err_from_is_err_and c.from_residual-in_err-second.result c.from_residual-in_err-second.ensures.1 in
    let fs = c.args.draft.now.formulas in
    let one = c.in_ok-first.ensures in
    let two = c.in_err-second.ensures in
    rw (p.1, p.2, c.in-Some.is) (pair-second c.args.draft.now.names h.formulas (formula_at fs c.args.formula) (formula_at fs c.in-Some.condition)
    c.formula.new.self.atoms c.formula.new.self.formulas c.in_ok-first.first (one h)
    c.formula-2.new.self.atoms c.formula-2.new.self.formulas c.in_err-second.field-0.0 (two (one h).0))

pub node-requires : goal.node-requires
node-requires c =
    let fs = c.args.draft.now.formulas in
    let h = c.requires.built in
    let one = c.in_ok-first.ensures in
    let two = c.in_ok-second.ensures in
    pair-fits c.args.draft.now.names h.formulas (formula_at fs c.args.formula) (formula_at fs c.in-Some.condition)
    c.formula.new.self.atoms c.formula.new.self.formulas c.in_ok-first.first (one h)
    c.formula-2.new.self.atoms c.formula-2.new.self.formulas c.in_ok-second.second (two (one h).0)

pub returns : goal.returns
returns c = λ h.
    let fs = c.args.draft.now.formulas in
    let one = c.in_ok-first.ensures in
    let two = c.in_ok-second.ensures in
    rw (c.in-Some.is, c.node.ensures.atoms) (pair-both c.args.draft.now.names h.formulas (formula_at fs c.args.formula) (formula_at fs c.in-Some.condition)
    c.formula.new.self.atoms c.formula.new.self.formulas c.in_ok-first.first (one h)
    c.formula-2.new.self.atoms c.formula-2.new.self.formulas c.in_ok-second.second (two (one h).0)
    c.node.new.self.formulas c.in_ok-both.both c.in_ok-both.ensures.nodes)

pub returns-in_err-both : goal.returns-in_err-both
returns-in_err-both c = λ h.
    let p = err_from_is_err_and c.from_residual-in_err-both.result c.from_residual-in_err-both.ensures.1 in
    let fs = c.args.draft.now.formulas in
    let one = c.in_ok-first.ensures in
    let two = c.in_ok-second.ensures in
    rw (p.1, p.2, c.in-Some.is) (pair-third c.args.draft.now.names h.formulas (formula_at fs c.args.formula) (formula_at fs c.in-Some.condition)
    c.formula.new.self.atoms c.formula.new.self.formulas c.in_ok-first.first (one h)
    c.formula-2.new.self.atoms c.formula-2.new.self.formulas c.in_ok-second.second (two (one h).0)
    c.node.new.self.formulas c.in_err-both.field-0.0 c.in_err-both.ensures.nodes)
