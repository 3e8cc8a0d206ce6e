use Rattle.std.proofs.Common.{◌≡◌, ◌++◌, ◌∷◌, [], arith, ap, sym, ◌∙◌, neg_ℤ, ℤ, to_z, of_z, FitsSigned, rules, map}
use mir.Syntax.{w128}
use Rattle.std.proofs.lemmas.Int.{ints}
use Rattle.ps_clause.specs.Clauses.{Clause, once}
use Rattle.ps_wcnf.specs.Built.{with_clauses}
use Rattle.ps_wcnf.proofs.Building.{taut-adds, long-adds, short-adds, named-own}
use Rattle.ps_wcnf.proofs.form.add_soft.Goals as goal

pub returns-then-is_tautology-clause-form : goal.returns-then-is_tautology-clause-form
returns-then-is_tautology-clause-form c =
    (taut-adds c.args.form.now c.args.literals.now c.args.n c.args.clause.now c.deref.result.now (c.deref.ensures.value ∙ c.in_ok-kept.ensures ∙ ap once c.as_slice.ensures) (sym c.is_tautology.ensures ∙ c.if-is_tautology.true)).form

pub returns-then-is_tautology-clause-literals : goal.returns-then-is_tautology-clause-literals
returns-then-is_tautology-clause-literals c =
    (taut-adds c.args.form.now c.args.literals.now c.args.n c.args.clause.now c.deref.result.now (c.deref.ensures.value ∙ c.in_ok-kept.ensures ∙ ap once c.as_slice.ensures) (sym c.is_tautology.ensures ∙ c.if-is_tautology.true)).literals

pub returns-then-is_tautology-clause-count : goal.returns-then-is_tautology-clause-count
returns-then-is_tautology-clause-count c =
    (taut-adds c.args.form.now c.args.literals.now c.args.n c.args.clause.now c.deref.result.now (c.deref.ensures.value ∙ c.in_ok-kept.ensures ∙ ap once c.as_slice.ensures) (sym c.is_tautology.ensures ∙ c.if-is_tautology.true)).count

pub of_place-own-requires : goal.of_place-own-requires
of_place-own-requires c =
    let d = c.deref.ensures.value ∙ c.in_ok-kept.ensures ∙ ap once c.as_slice.ensures in
    let long = long-adds c.args.n c.args.clause.now c.deref.result.now d (sym c.is_tautology.ensures ∙ c.if-is_tautology.false) (omega (arith, c.len.ensures, c.if-len-gt1.true, c.deref.ensures.len)) in
    omega (arith, long.count, c.requires.variables, c.requires.few)

pub add_longer-requires-clause-own : goal.add_longer-requires-clause-own
add_longer-requires-clause-own c =
    let d = c.deref.ensures.value ∙ c.in_ok-kept.ensures ∙ ap once c.as_slice.ensures in
    let long = long-adds c.args.n c.args.clause.now c.deref.result.now d (sym c.is_tautology.ensures ∙ c.if-is_tautology.false) (omega (arith, c.len.ensures, c.if-len-gt1.true, c.deref.ensures.len)) in
    rw c.of_place-own.ensures (named-own c.args.n c.args.form.now.variables (omega (arith, long.count, c.requires.variables)))

pub returns-then-len-gt1-clause-form : goal.returns-then-len-gt1-clause-form
returns-then-len-gt1-clause-form c =
    let d = c.deref.ensures.value ∙ c.in_ok-kept.ensures ∙ ap once c.as_slice.ensures in
    let long = long-adds c.args.n c.args.clause.now c.deref.result.now d (sym c.is_tautology.ensures ∙ c.if-is_tautology.false) (omega (arith, c.len.ensures, c.if-len-gt1.true, c.deref.ensures.len)) in
    c.in_ok-add_longer.ensures ∙ ap (λ (x : Clause). with_clauses c.args.form.now ((x ++ c.of_place-own.result ∷ []) ∷ [])) c.as_slice-then-len-gt1.ensures
    ∙ ap (λ (o : ℤ). with_clauses c.args.form.now ((c.args.clause.now.1 ++ o ∷ []) ∷ [])) c.of_place-own.ensures ∙ ap (with_clauses c.args.form.now) (sym long.clause)

pub returns-then-len-gt1-clause-literals : goal.returns-then-len-gt1-clause-literals
returns-then-len-gt1-clause-literals c =
    let d = c.deref.ensures.value ∙ c.in_ok-kept.ensures ∙ ap once c.as_slice.ensures in
    let long = long-adds c.args.n c.args.clause.now c.deref.result.now d (sym c.is_tautology.ensures ∙ c.if-is_tautology.false) (omega (arith, c.len.ensures, c.if-len-gt1.true, c.deref.ensures.len)) in
    let f : FitsSigned w128 c.args.clause.now.0 = search rules in
    let k : to_z w128 (of_z w128 c.args.clause.now.0) ≡ c.args.clause.now.0 = omega (arith, ints, f) in
    c.in_ok-push.ensures.ok ∙ ap (λ (z : ℤ). c.args.literals.now ++ (c.opposite.result, z) ∷ []) k ∙ ap (λ (o : ℤ). c.args.literals.now ++ (o, c.args.clause.now.0) ∷ []) (c.opposite.ensures ∙ ap neg_ℤ c.of_place-own.ensures) ∙ ap (λ r. c.args.literals.now ++ r) (sym long.literal)

pub returns-then-len-gt1-clause-count : goal.returns-then-len-gt1-clause-count
returns-then-len-gt1-clause-count c =
    let d = c.deref.ensures.value ∙ c.in_ok-kept.ensures ∙ ap once c.as_slice.ensures in
    let long = long-adds c.args.n c.args.clause.now c.deref.result.now d (sym c.is_tautology.ensures ∙ c.if-is_tautology.false) (omega (arith, c.len.ensures, c.if-len-gt1.true, c.deref.ensures.len)) in
    sym long.count

pub returns-clause-literals : goal.returns-clause-literals
returns-clause-literals c =
    let d = c.deref.ensures.value ∙ c.in_ok-kept.ensures ∙ ap once c.as_slice.ensures in
    let short = short-adds c.args.form.now c.args.n c.args.clause.now c.deref.result.now d (sym c.is_tautology.ensures ∙ c.if-is_tautology.false) (omega (arith, c.len.ensures, c.if-len-gt1.false, c.deref.ensures.len)) in
    let f : FitsSigned w128 c.args.clause.now.0 = search rules in
    let k : to_z w128 (of_z w128 c.args.clause.now.0) ≡ c.args.clause.now.0 = omega (arith, ints, f) in
    c.in_ok-push_each.ensures ∙ ap (λ (z : ℤ). c.args.literals.now ++ map (λ l. (l, z)) c.deref-2.result.now) k
    ∙ ap (λ (x : Clause). c.args.literals.now ++ map (λ l. (l, c.args.clause.now.0)) x) (c.deref-2.ensures.value ∙ sym c.deref.ensures.value) ∙ ap (λ r. c.args.literals.now ++ r) (sym short.literals)
