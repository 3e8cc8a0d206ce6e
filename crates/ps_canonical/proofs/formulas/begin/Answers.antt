use Rattle.std.proofs.Common.{refl, sym, subst, arith, nat_lt, ◌++◌, ◌∷◌, []}
use Rattle.ps_meaning.specs.Formula as formula
use Rattle.ps_formula.specs.declared.node.Node.TheVariants as node
use Rattle.ps_problem.specs.Problems.{name_at}
use Rattle.ps_canonical.specs.declared.connective.Connective.TheVariants as connective
use Rattle.ps_canonical.specs.declared.task.Task.TheVariants as task
use Rattle.ps_canonical.specs.Tasks.{IsCarriedOut, level_of, with_operands}
use Rattle.ps_canonical.proofs.Done.{on-ok, on-ok-both, named-node, done-leaf, done-not, done-joined}
use Rattle.ps_canonical.proofs.formulas.begin.Goals as goal

pub returns-in-True : goal.returns-in-True
returns-in-True c =
    let p = c.args.problem.now in
    let ts = c.args.tasks.now in
    let out = c.args.out.now.items in
    let t = task.Formula c.args.i c.args.level in
    let at = named-node p c.args.i node.True c.in-True.ensures.sound c.in-True.ensures.node in
    on-ok c.append.result c.append.ensures (λ e. subst (IsCarriedOut p t ts out ts) (sym e)
    (done-leaf p c.args.i c.args.level c.requires.level ts out c.requires.tasks formula.Truth at refl refl))

pub returns-in-False : goal.returns-in-False
returns-in-False c =
    let p = c.args.problem.now in
    let ts = c.args.tasks.now in
    let out = c.args.out.now.items in
    let t = task.Formula c.args.i c.args.level in
    let at = named-node p c.args.i node.False c.in-False.ensures.sound c.in-False.ensures.node in
    on-ok c.append-in-False.result c.append-in-False.ensures (λ e. subst (IsCarriedOut p t ts out ts) (sym e)
    (done-leaf p c.args.i c.args.level c.requires.level ts out c.requires.tasks formula.Falsity at refl refl))

pub returns-in-Atom : goal.returns-in-Atom
returns-in-Atom c =
    let p = c.args.problem.now in
    let ts = c.args.tasks.now in
    let out = c.args.out.now.items in
    let t = task.Formula c.args.i c.args.level in
    let at = named-node p c.args.i (node.Atom c.in-Atom.atom) c.in-Atom.ensures.sound c.in-Atom.ensures.node in
    on-ok c.name.result c.name.ensures (λ e. subst (IsCarriedOut p t ts out ts) (sym e)
    (done-leaf p c.args.i c.args.level c.requires.level ts out c.requires.tasks (formula.Atom (name_at c.args.problem.now.names c.in-Atom.atom)) at refl refl))

pub returns-in_ok-append-in-Not : goal.returns-in_ok-append-in-Not
returns-in_ok-append-in-Not c =
    let p = c.args.problem.now in
    let ts = c.args.tasks.now in
    let out = c.args.out.now.items in
    let a = c.in-Not.operand in
    let t = task.Formula c.args.i c.args.level in
    let at = named-node p c.args.i (node.Not a) c.in-Not.ensures.sound c.in-Not.ensures.node in
    let lt = c.in-Not.ensures.fits in
    let there = c.requires.there in
    on-ok c.push.result c.push.ensures.ok (λ e. subst (λ us. IsCarriedOut p t ts out us c.append-in-Not.new.out.items) (sym e)
    (subst (IsCarriedOut p t ts out (ts ++ task.Formula a 5 ∷ [])) (sym c.in_ok-append-in-Not.ensures)
    (done-not p c.args.i c.args.level c.requires.level ts out c.requires.tasks a (omega (arith, lt, there)) at)))

pub returns-in-And : goal.returns-in-And
returns-in-And c =
    let p = c.args.problem.now in
    let ts = c.args.tasks.now in
    let out = c.args.out.now.items in
    let l = c.in-And.left in
    let r = c.in-And.right in
    let t = task.Formula c.args.i c.args.level in
    let at = named-node p c.args.i (node.And l r) c.in-And.ensures.sound c.in-And.ensures.node in
    let lt = c.in-And.ensures.fits in
    let there = c.requires.there in
    let b = nat_lt (level_of connective.And) c.args.level in
    on-ok-both c.join.result c.join.ensures.text c.join.ensures.tasks (λ e k. subst (λ us. IsCarriedOut p t ts out us c.join.new.out.items) (sym k)
    (subst (IsCarriedOut p t ts out (with_operands ts b l connective.And r)) (sym e)
    (done-joined p c.args.i c.args.level c.requires.level ts out c.requires.tasks connective.And l r (omega (arith, lt.0, there)) (omega (arith, lt.1, there)) at)))

pub returns-in-Or : goal.returns-in-Or
returns-in-Or c =
    let p = c.args.problem.now in
    let ts = c.args.tasks.now in
    let out = c.args.out.now.items in
    let l = c.in-Or.left in
    let r = c.in-Or.right in
    let t = task.Formula c.args.i c.args.level in
    let at = named-node p c.args.i (node.Or l r) c.in-Or.ensures.sound c.in-Or.ensures.node in
    let lt = c.in-Or.ensures.fits in
    let there = c.requires.there in
    let b = nat_lt (level_of connective.Or) c.args.level in
    on-ok-both c.join-in-Or.result c.join-in-Or.ensures.text c.join-in-Or.ensures.tasks (λ e k. subst (λ us. IsCarriedOut p t ts out us c.join-in-Or.new.out.items) (sym k)
    (subst (IsCarriedOut p t ts out (with_operands ts b l connective.Or r)) (sym e)
    (done-joined p c.args.i c.args.level c.requires.level ts out c.requires.tasks connective.Or l r (omega (arith, lt.0, there)) (omega (arith, lt.1, there)) at)))

pub returns-in-Implies : goal.returns-in-Implies
returns-in-Implies c =
    let p = c.args.problem.now in
    let ts = c.args.tasks.now in
    let out = c.args.out.now.items in
    let l = c.in-Implies.left in
    let r = c.in-Implies.right in
    let t = task.Formula c.args.i c.args.level in
    let at = named-node p c.args.i (node.Implies l r) c.in-Implies.ensures.sound c.in-Implies.ensures.node in
    let lt = c.in-Implies.ensures.fits in
    let there = c.requires.there in
    let b = nat_lt (level_of connective.Implies) c.args.level in
    on-ok-both c.join-in-Implies.result c.join-in-Implies.ensures.text c.join-in-Implies.ensures.tasks (λ e k. subst (λ us. IsCarriedOut p t ts out us c.join-in-Implies.new.out.items) (sym k)
    (subst (IsCarriedOut p t ts out (with_operands ts b l connective.Implies r)) (sym e)
    (done-joined p c.args.i c.args.level c.requires.level ts out c.requires.tasks connective.Implies l r (omega (arith, lt.0, there)) (omega (arith, lt.1, there)) at)))

pub returns-in-Iff : goal.returns-in-Iff
returns-in-Iff c =
    let p = c.args.problem.now in
    let ts = c.args.tasks.now in
    let out = c.args.out.now.items in
    let l = c.in-Iff.left in
    let r = c.in-Iff.right in
    let t = task.Formula c.args.i c.args.level in
    let at = named-node p c.args.i (node.Iff l r) c.in-Iff.ensures.sound c.in-Iff.ensures.node in
    let lt = c.in-Iff.ensures.fits in
    let there = c.requires.there in
    let b = nat_lt (level_of connective.Iff) c.args.level in
    on-ok-both c.join-in-Iff.result c.join-in-Iff.ensures.text c.join-in-Iff.ensures.tasks (λ e k. subst (λ us. IsCarriedOut p t ts out us c.join-in-Iff.new.out.items) (sym k)
    (subst (IsCarriedOut p t ts out (with_operands ts b l connective.Iff r)) (sym e)
    (done-joined p c.args.i c.args.level c.requires.level ts out c.requires.tasks connective.Iff l r (omega (arith, lt.0, there)) (omega (arith, lt.1, there)) at)))
