use Rattle.std.proofs.Common.{rules, ◌≡◌, ℤ, List, [], ◌∷◌, ◌++◌, subst}
use Rattle.ps_table.specs.declared.event.Event.TheVariants.{Priced}
use Rattle.ps_table.specs.Tableau.{IsAdded, ExtendsSystem}
use Rattle.ps_runs.specs.Rows.{entries_of, world_cost}
use Rattle.ps_runs.specs.Subjects.{setting_of}
use Rattle.ps_generation.proofs.Entered.{not_there, entered_phase, entered}
use Rattle.ps_generation.proofs.pricing.enter.Goals as goal

pub add_new-requires-clause-fresh : goal.add_new-requires-clause-fresh
add_new-requires-clause-fresh c = not_there c.args.kind c.args.setting.now c.args.costs.now c.args.state.now c.args.world c.requires.phase c.requires.priced

pub returns-clause-phase : goal.returns-clause-phase
returns-clause-phase c =
    let old = c.args.state.now in
    let r = c.args.setting.now in
    let longer : c.push.new.self ≡ old.trace ++ Priced c.args.world ∷ [] = search rules in
    let entries : c.deref.result.now ≡ entries_of (setting_of r.subject) c.args.world = search rules in
    let more : c.add_new.new.self ≡ old.pool ++ c.args.world ∷ [] = search rules in
    let costs : c.push-2.new.self ≡ c.args.costs.now.worlds ++ world_cost c.args.kind (setting_of r.subject) c.args.world ∷ [] = search rules in
    let added : IsAdded c.deref.result.now old.table c.add_world.new.self = search rules in
    let stands : ExtendsSystem c.deref.result.now old.table c.add_world.new.self = search rules in
    entered_phase c.args.kind r c.args.costs.now old c.args.world c.requires.phase c.requires.priced c.add_world.new.self
    (subst (λ (es : List ℤ). IsAdded es old.table c.add_world.new.self) entries added) (subst (λ (es : List ℤ). ExtendsSystem es old.table c.add_world.new.self) entries stands)
    c.rows-sound.ensures.tableau c.add_new.new.self c.push.new.self c.push-2.new.self more longer costs

pub returns-clause-entered : goal.returns-clause-entered
returns-clause-entered c =
    let old = c.args.state.now in
    let r = c.args.setting.now in
    let longer : c.push.new.self ≡ old.trace ++ Priced c.args.world ∷ [] = search rules in
    let entries : c.deref.result.now ≡ entries_of (setting_of r.subject) c.args.world = search rules in
    let more : c.add_new.new.self ≡ old.pool ++ c.args.world ∷ [] = search rules in
    let added : IsAdded c.deref.result.now old.table c.add_world.new.self = search rules in
    let stands : ExtendsSystem c.deref.result.now old.table c.add_world.new.self = search rules in
    entered c.args.kind r c.args.costs.now old c.args.world c.requires.phase c.requires.priced c.add_world.new.self
    (subst (λ (es : List ℤ). IsAdded es old.table c.add_world.new.self) entries added) (subst (λ (es : List ℤ). ExtendsSystem es old.table c.add_world.new.self) entries stands)
    c.rows-sound.ensures.tableau c.add_new.new.self c.push.new.self more longer
