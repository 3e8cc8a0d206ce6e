use Rattle.std.proofs.Common.{◌≡◌, ◌+◌, length, arith, ap}
use Rattle.ps_sat.proofs.Paired.{watched-kept, watched-filed, has-watched, pair-within, pair-within-2}
use Rattle.ps_sat.proofs.watching.watch.Goals as goal

pub put-requires-clause-within : goal.put-requires-clause-within
put-requires-clause-within c =
    let e : c.len-node.result ≡ length c.args.w.now.lits.items = omega (arith, c.len-node.ensures, c.args.w.now.lits.ok.0) in
    pair-within c.args.variables c.args.known.now c.args.w.now c.add_pair.new.w c.args.first c.args.second c.args.id c.len-node.result c.requires.kept c.requires.pair c.add_pair.ensures.added e

pub put-requires-2-clause-within : goal.put-requires-2-clause-within
put-requires-2-clause-within c =
    let e : c.len-node.result ≡ length c.args.w.now.lits.items = omega (arith, c.len-node.ensures, c.args.w.now.lits.ok.0) in
    pair-within-2 c.args.variables c.args.known.now c.args.w.now c.add_pair.new.w c.put.new.w c.args.first c.args.second c.args.id c.len-node.result (c.len-node.result + 1) c.requires.kept c.requires.pair c.add_pair.ensures.added c.put.ensures.put (ap (λ z. z + 1) e)

pub returns-clause-kept : goal.returns-clause-kept
returns-clause-kept c = watched-kept c.args.variables c.args.known.now c.args.w.now c.add_pair.new.w c.put.new.w c.put-2.new.w c.args.first c.args.second c.args.id c.len-node.result (c.len-node.result + 1) c.requires.kept c.requires.pair c.add_pair.ensures.added c.put.ensures.put c.put-2.ensures.put

pub returns-clause-filed : goal.returns-clause-filed
returns-clause-filed c =
    let e : c.len-node.result ≡ length c.args.w.now.lits.items = omega (arith, c.len-node.ensures, c.args.w.now.lits.ok.0) in
    watched-filed c.args.variables c.args.known.now c.args.w.now c.add_pair.new.w c.put.new.w c.put-2.new.w c.args.first c.args.second c.args.id c.len-node.result (c.len-node.result + 1) c.requires.kept c.requires.filed c.requires.pair c.add_pair.ensures.added c.put.ensures.put c.put-2.ensures.put e (ap (λ z. z + 1) e)

pub returns-clause-watched : goal.returns-clause-watched
returns-clause-watched c = has-watched c.args.variables c.args.known.now c.args.w.now c.add_pair.new.w c.put.new.w c.put-2.new.w c.args.first c.args.second c.args.id c.len-node.result (c.len-node.result + 1) c.requires.kept c.add_pair.ensures.added c.put.ensures.put c.put-2.ensures.put
