use Rattle.std.proofs.Common.{sym}
use Rattle.ps_problem.proofs.NameLists.{name_found, name_there, name_added, name_placed}
use Rattle.ps_problem.proofs.names.Names.number.Goals as goal

pub returns-in-Some-clause-number : goal.returns-in-Some-clause-number
returns-in-Some-clause-number c = rw (← c.self.view_is) (name_found (λ v. v.items) c.self.inside.set.keys c.args.text.now c.in-Some.i (sym c.in-Some.ensures.index))

pub returns-in-Some-clause-names : goal.returns-in-Some-clause-names
returns-in-Some-clause-names c = rw (← c.self.view_is) (name_there (λ v. v.items) c.self.inside.set.keys c.args.text.now (sym c.in-Some.ensures.found))

pub returns-clause-number : goal.returns-clause-number
returns-clause-number c =
    let s = c.in_ok-i.ensures.stored in
    name_placed (λ v. v.items) c.insert_full.new.self.keys c.in_ok-i.i s.0 c.in_ok-name.name c.args.text.now s.1 s.2 (c.in_ok-name.ensures.items_if_clones_equal (λ _ _ e. e))

pub returns-clause-names : goal.returns-clause-names
returns-clause-names c =
    rw (← c.self.view_is, c.in_ok-i.ensures.keys) (name_added (λ v. v.items) c.self.inside.set.keys c.in_ok-name.name c.args.text.now (c.in_ok-name.ensures.items_if_clones_equal (λ _ _ e. e)))
