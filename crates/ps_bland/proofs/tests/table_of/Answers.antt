use Rattle.std.proofs.Common.{rules, ◌≡◌, ◌∙◌, sym, subst, ap, length, [], get_or, ◌<◌}
use Rattle.std.proofs.lemmas.List.{get_or_read}
use Rattle.ps_simplex.specs.Table.{HasHomes}
use Rattle.ps_bland.proofs.Above.{world_column}
use Rattle.ps_bland.proofs.tests.table_of.Goals as goal

pub loop-k-init : goal.loop-k-init
loop-k-init g c =
    let l : length c.args.homes.now ≡ g.row.N = search rules in
    record {
      kinds = ap length c.in-Ok.ensures.kinds ∙ l;
      count = c.in-Ok.ensures.worlds;
      stands = λ A h. c.in-Ok.ensures.stands A (subst (λ k. HasHomes k A) (sym l) h.homes);
    }

pub loop-k-preserved : goal.loop-k-preserved
loop-k-preserved g c =
    let within : c.loop-k.k < length c.args.worlds.now = search rules in
    let entries : c.index-worlds-k.result ≡ get_or c.args.worlds.now c.loop-k.k [] = get_or_read c.args.worlds.now c.loop-k.k c.index-worlds-k.result within c.index-worlds-k.is [] in
    record {
      kinds = ap length c.in-Ok-add_world.ensures.added.kinds ∙ c.loop-k.invariant.kinds;
      count = search rules;
      stands = λ A h. c.in-Ok-add_world.ensures.stands A (world_column g.row.N A c.args.worlds.now c.loop-k.k c.index-worlds-k.result c.loop-k.table entries c.loop-k.invariant.kinds c.loop-k.invariant.count within h) (c.loop-k.invariant.stands A h);
    }
