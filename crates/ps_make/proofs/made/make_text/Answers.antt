use Rattle.std.proofs.Common.{◌≡◌, ◌<◌, ◌^◌, ◌++◌, length, sym, ap, subst, ◌∙◌, append-nil, arith}
use Rattle.ps_make.proofs.Laid.{front, link-more, whole}
use Rattle.ps_make.proofs.Short.{text-short}
use Rattle.ps_make.proofs.made.make_text.Goals as goal

pub loop-atom-init : goal.loop-atom-init
loop-atom-init c = c.in_ok-append.ensures ∙ ap (λ bs. bs ++ front) c.new-out.ensures.items ∙ sym (append-nil front)

pub loop-atom-preserved : goal.loop-atom-preserved
loop-atom-preserved c = link-more c.loop-atom.atom c.loop-atom.out.items c.write_link.new.out.items c.loop-atom.invariant c.in_ok-write_link.ensures

pub returns-clause-text : goal.returns-clause-text
returns-clause-text c =
    let end = c.loop-atom-test.false in
    let most = c.loop-atom.auto.atom-end in
    let same : c.loop-atom.atom ≡ c.args.links = omega (arith, end, most) in
    whole c.loop-atom.atom c.args.links c.loop-atom.out.items c.write_query.new.out.items c.append-2.new.out.items same c.loop-atom.invariant c.in_ok-write_query.ensures c.in_ok-append-2.ensures

pub returns-clause-few : goal.returns-clause-few
returns-clause-few c = subst (λ bs. length bs < 2 ^ 20) (sym (returns-clause-text c)) (text-short c.args.links c.requires)
