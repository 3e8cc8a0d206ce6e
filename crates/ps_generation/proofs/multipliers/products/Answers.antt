use Rattle.std.proofs.Common.{rules, ◌≡◌, ◌++◌, ◌∷◌, [], get_or, Err}
use Rattle.std.proofs.lemmas.List.{get_or_read}
use Rattle.ps_meaning.specs.Rational.{zero_q}
use Rattle.ps_table.specs.declared.error.TableError.TheVariants as refused
use Rattle.ps_generation.proofs.Listed.{wide_product, next_product}
use Rattle.ps_generation.proofs.multipliers.products.Goals as goal

pub returns-in_err-product_at-clause-refused : goal.returns-in_err-product_at-clause-refused
returns-in_err-product_at-clause-refused c =
    let w = c.in_err-product_at.field-0.0 in
    let e : c.from_residual.result ≡ Err (refused.Wide w) = search rules in
    let x : c.index-numbers-i.result ≡ get_or c.args.numbers.now c.loop-i.i zero_q =
    get_or_read c.args.numbers.now c.loop-i.i c.index-numbers-i.result c.loop-i-test.true c.index-numbers-i.is zero_q in
    rw e (wide_product c.args.numbers.now c.loop-i.i c.args.multiple c.index-numbers-i.result w c.loop-i-test.true c.requires.multiple x
    c.in_err-product_at.ensures.operands c.in_err-product_at.ensures.wide)

pub loop-i-preserved : goal.loop-i-preserved
loop-i-preserved c =
    let x : c.index-numbers-i.result ≡ get_or c.args.numbers.now c.loop-i.i zero_q =
    get_or_read c.args.numbers.now c.loop-i.i c.index-numbers-i.result c.loop-i-test.true c.index-numbers-i.is zero_q in
    let grown : c.push.new.self ≡ c.loop-i.made ++ c.in_ok-product_at.field-0 ∷ [] = search rules in
    next_product c.args.numbers.now c.loop-i.i c.args.multiple c.index-numbers-i.result c.loop-i.made c.push.new.self c.in_ok-product_at.field-0
    x c.loop-i.invariant c.in_ok-product_at.ensures.value c.in_ok-product_at.ensures.within grown
