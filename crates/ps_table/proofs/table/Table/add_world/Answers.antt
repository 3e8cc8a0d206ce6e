use Rattle.std.proofs.Common.{suc, ◌+◌, ◌≡◌, ◌++◌, ◌∷◌, [], length, sym, ap, subst, ◌∙◌, rules}
use Rattle.ps_table.specs.Tableau.{Tableau, IsColumn, IsTableFor, IsAdded, ExtendsSystem, rows_of}
use Rattle.ps_table.proofs.Columns.{grown, added_is, added_stands}
use Rattle.ps_table.proofs.table.Table.add_world.Goals as goal

pub returns-clause-added : goal.returns-clause-added
returns-clause-added c =
    let t : Tableau = record { kinds = c.self.inside.homes.items; worlds = c.self.inside.worlds; entries = c.self.inside.entries; cells = c.self.inside.kept.cells; basic = c.self.inside.basic.items } in
    let es = c.args.entries.now in
    let e : c.in_ok-made.made ≡ es = c.in_ok-made.ensures in
    let items : c.push.new.self ≡ t.entries ++ es ∷ [] = c.in_ok-push.ensures.ok ∙ ap (λ x. t.entries ++ x ∷ []) e in
    subst (λ old. IsAdded es old (record { kinds = t.kinds; worlds = t.worlds + 1; entries = c.push.new.self; cells = t.cells; basic = t.basic })) c.self.view_is
    (subst (λ xs. IsAdded es t (record { kinds = t.kinds; worlds = t.worlds + 1; entries = xs; cells = t.cells; basic = t.basic })) (sym items)
    (added_is es t c.self.invariant.tableau))

pub returns-clause-stands : goal.returns-clause-stands
returns-clause-stands c = λ A column old.
    let t : Tableau = record { kinds = c.self.inside.homes.items; worlds = c.self.inside.worlds; entries = c.self.inside.entries; cells = c.self.inside.kept.cells; basic = c.self.inside.basic.items } in
    let es = c.args.entries.now in
    let e : c.in_ok-made.made ≡ es = c.in_ok-made.ensures in
    let items : c.push.new.self ≡ t.entries ++ es ∷ [] = c.in_ok-push.ensures.ok ∙ ap (λ x. t.entries ++ x ∷ []) e in
    subst (λ xs. IsTableFor A (record { kinds = t.kinds; worlds = t.worlds + 1; entries = xs; cells = t.cells; basic = t.basic })) (sym items)
    (added_stands es t c.self.invariant.tableau A
    (subst (λ (s : Tableau). IsColumn es (length s.kinds) (suc (length s.kinds + s.worlds)) A) (sym c.self.view_is) column)
    (subst (IsTableFor A) (sym c.self.view_is) old))
