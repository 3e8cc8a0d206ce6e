use Rattle.std.proofs.Common.{◌-◌, ◌∙◌, ap, sym, refl, length, unsigned_abs, arith, get_or, List}
use Rattle.ps_pb.specs.Assignments.{without}
use Rattle.ps_learn.specs.Trails.{TrailEntry}
use Rattle.ps_learn.proofs.Going.{going-start, going-end, going-back, going-len, going-place, going-next, sound}
use Rattle.ps_learn.proofs.Keeping.{keeping-end, marked_by-end}
use Rattle.ps_learn.proofs.explaining.explain_all.Goals as goal

pub back-init : goal.back-init
back-init c = going-start _ c.args.trail.now _ _ _ _ _ c.requires.values c.requires.len c.requires.kept_len c.entries-entries.ensures.entries refl c.requires.unkept

pub explain-requires-clause-len : goal.explain-requires-clause-len
explain-requires-clause-len c =
    going-len _ _ c.args.trail.now.entries _ c.back.i (c.back.i - 1) c.index-entries-i.result _ _ _ c.entries-entries.ensures.fresh c.back.invariant (omega (arith, c.back-test.true))
    (c.index-entries-i.is ∙ ap (λ (es : List TrailEntry). get_or es (c.back.i - 1) c.index-entries-i.result) c.entries-entries.ensures.entries)
    ∙ ap length (sym (c.unset.ensures ∙ ap (without c.back.before) (c.variable.ensures.value ∙ ap (λ (x : TrailEntry). unsigned_abs x.lit) c.entry.view_is)))

pub explain-requires-clause-values : goal.explain-requires-clause-values
explain-requires-clause-values c =
    c.unset.ensures ∙ ap (without c.back.before) (c.variable.ensures.value ∙ ap (λ (x : TrailEntry). unsigned_abs x.lit) c.entry.view_is)
    ∙ going-back _ _ c.args.trail.now.entries _ c.back.i (c.back.i - 1) c.index-entries-i.result _ _ _ c.entries-entries.ensures.fresh c.back.invariant (omega (arith, c.back-test.true))
    (c.index-entries-i.is ∙ ap (λ (es : List TrailEntry). get_or es (c.back.i - 1) c.index-entries-i.result) c.entries-entries.ensures.entries)

pub explain-requires-clause-kept_len : goal.explain-requires-clause-kept_len
explain-requires-clause-kept_len c =
    going-place _ _ c.args.trail.now.entries _ c.back.i (c.back.i - 1) c.index-entries-i.result _ _ _ c.entries-entries.ensures.fresh c.back.invariant (omega (arith, c.back-test.true))
    (c.index-entries-i.is ∙ ap (λ (es : List TrailEntry). get_or es (c.back.i - 1) c.index-entries-i.result) c.entries-entries.ensures.entries)

pub back-preserved : goal.back-preserved
back-preserved c =
    going-next _ c.args.trail.now _ c.back.i (c.back.i - 1) c.index-entries-i.result _ _ _ _ _ _ (sound _ c.args.trail.now c.entries-entries.ensures.fresh c.entries-entries.ensures.levels c.requires.reasons) c.back.invariant (omega (arith, c.back-test.true))
    (c.index-entries-i.is ∙ ap (λ (es : List TrailEntry). get_or es (c.back.i - 1) c.index-entries-i.result) c.entries-entries.ensures.entries)
    (c.unset.ensures ∙ ap (without c.back.before) (c.variable.ensures.value ∙ ap (λ (x : TrailEntry). unsigned_abs x.lit) c.entry.view_is)) c.explain.ensures

pub returns-clause-explained : goal.returns-clause-explained
returns-clause-explained c = going-end _ _ c.args.trail.now _ _ _ _ _ refl c.back.invariant (omega (arith, c.back-test.false))

pub returns-clause-once : goal.returns-clause-once
returns-clause-once c = keeping-end c.args.trail.now _ _ _ _ refl c.back.invariant.keeping

pub returns-clause-only : goal.returns-clause-only
returns-clause-only c = marked_by-end _ _ _ _ _ _ _ c.back.invariant.only
