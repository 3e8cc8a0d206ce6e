use Rattle.std.proofs.Common.{◌≡◌, ◌∙◌, ◌<◌, Some, length, ap, sym, subst, arith}
use Rattle.std.specs.Prelude.{slice_get}
use Rattle.std.proofs.lemmas.Option.{slice_get_read}
use Rattle.ps_learn.specs.Trails.{Trail, AreLevels}
use Rattle.ps_sat.proofs.Sighted.{next-fresh, next-level}
use Rattle.ps_sat.proofs.propagating.see_to.Goals as goal

pub see-requires-clause-fresh : goal.see-requires-clause-fresh
see-requires-clause-fresh c =
    let t = c.args.trail.now in
    let place : length c.entries-place.result.now ≡ length c.see.sight.seen.entries = ap length (c.entries-place.ensures.entries ∙ ap (λ (z : Trail). z.entries) c.trail-in-see.ensures) in
    let test : length c.entries.result.now ≡ length c.see.sight.seen.entries = ap length (c.entries.ensures.entries ∙ ap (λ (z : Trail). z.entries) c.trail.ensures) in
    let less : length c.entries-place.result.now < length t.entries = omega (arith, place, test, c.see-test.true, c.requires.within) in
    let at : slice_get t.entries (length c.see.sight.seen.entries) ≡ Some c.index-entries-place.result = subst (λ n. slice_get t.entries n ≡ Some c.index-entries-place.result) place (subst (λ es. slice_get es (length c.entries-place.result.now) ≡ Some c.index-entries-place.result) c.entries-in-see.ensures.entries (slice_get_read c.entries-in-see.result.now _ _ c.index-entries-place.result (ap length (sym c.entries-in-see.ensures.entries)) less c.index-entries-place.is)) in
    next-fresh c.see.sight.seen t c.index-entries-place.result c.entries-in-see.ensures.fresh at c.see.invariant.seen

pub see-requires-clause-level : goal.see-requires-clause-level
see-requires-clause-level c =
    let t = c.args.trail.now in
    let place : length c.entries-place.result.now ≡ length c.see.sight.seen.entries = ap length (c.entries-place.ensures.entries ∙ ap (λ (z : Trail). z.entries) c.trail-in-see.ensures) in
    let test : length c.entries.result.now ≡ length c.see.sight.seen.entries = ap length (c.entries.ensures.entries ∙ ap (λ (z : Trail). z.entries) c.trail.ensures) in
    let less : length c.entries-place.result.now < length t.entries = omega (arith, place, test, c.see-test.true, c.requires.within) in
    let at : slice_get t.entries (length c.see.sight.seen.entries) ≡ Some c.index-entries-place.result = subst (λ n. slice_get t.entries n ≡ Some c.index-entries-place.result) place (subst (λ es. slice_get es (length c.entries-place.result.now) ≡ Some c.index-entries-place.result) c.entries-in-see.ensures.entries (slice_get_read c.entries-in-see.result.now _ _ c.index-entries-place.result (ap length (sym c.entries-in-see.ensures.entries)) less c.index-entries-place.is)) in
    let levels : AreLevels c.see.sight.seen.entries = subst (λ (z : Trail). AreLevels z.entries) c.trail-in-see.ensures c.entries-place.ensures.levels in
    next-level c.see.sight.seen t c.index-entries-place.result levels c.entries-in-see.ensures.levels at c.see.invariant.seen
