use Rattle.std.proofs.Common.{◌≡◌, ◌-◌, ◌<◌, Some, take, drop, length, ap, sym, ◌∙◌, arith}
use Rattle.ps_pbcheck.specs.Parts.{start_at}
use Rattle.ps_pbcheck.proofs.Parting.{part-at, part-past, part-within, IsPart}
use Rattle.ps_pbcheck.proofs.clauses.Clauses.get.Goals as goal

pub returns-then-len-place : goal.returns-then-len-place
returns-then-len-place c = rw (← c.self.view_is) (sym (part-past 0 c.self.inside.lits.items c.self.inside.ends.items c.args.place (omega (arith, c.len.ensures, c.if-len-place.true))))

place_in : (c : goal.After-deref) → c.args.place < length c.self.inside.ends.items
place_in c = omega (arith, c.len.ensures, c.if-len-place.false)

start_is : (c : goal.After-deref) → c.start_at-start.result ≡ start_at 0 c.self.inside.ends.items c.args.place
start_is c = c.start_at-start.ensures ∙ ap (λ es. start_at 0 es c.args.place) c.as_slice.ensures.value

is_part : (c : goal.After-deref) → IsPart (length c.deref.result.now) c.start_at-start.result c.index-end.result.now
is_part c =
    let p = part-within 0 (length c.self.inside.lits.items) c.self.inside.ends.items c.args.place c.index-end.result.now c.self.invariant (place_in c) c.index-end.ensures in
    record { rising = omega (arith, start_is c, p.rising); within = omega (arith, ap length c.deref.ensures.value, p.within) }

pub offset_bounds-deref-start : goal.offset_bounds-deref-start
offset_bounds-deref-start c = let p = is_part c in omega (arith, c.deref.type_inv, p.rising, p.within)

pub slice_bounds-result-count : goal.slice_bounds-result-count
slice_bounds-result-count c = (is_part c).rising

pub slice_bounds-result-start : goal.slice_bounds-result-start
slice_bounds-result-start c = (is_part c).rising

pub slice_bounds-result-end : goal.slice_bounds-result-end
slice_bounds-result-end c = (is_part c).within

pub returns : goal.returns
returns c =
    let ends = c.self.inside.ends.items in
    let row = c.self.inside.lits.items in
    let end = c.index-end.result.now in
    let start = c.start_at-start.ensures ∙ ap (λ es. start_at 0 es c.args.place) c.as_slice.ensures.value in
    let here : c.args.place < length ends = omega (arith, c.len.ensures, c.if-len-place.false) in
    rw (← c.self.view_is) (
    ap (λ r. Some (take (end - c.start_at-start.result) (drop c.start_at-start.result r))) c.deref.ensures.value
    ∙ ap (λ s. Some (take (end - s) (drop s row))) start
    ∙ sym (part-at 0 row ends c.args.place end here c.index-end.ensures))
