use Rattle.std.proofs.Common.{◌≡◌, ◌≤◌, ◌+◌, ◌++◌, [], ◌∷◌, ap, ◌∙◌, arith, length}
use Rattle.std.proofs.lemmas.List.{length-append}
use Rattle.ps_pbcheck.specs.Parts.{parts_from, AreEnds}
use Rattle.ps_pbcheck.proofs.Parting.{ends-more, parts-more}
use Rattle.ps_pbcheck.proofs.clauses.Clauses.push.Goals as goal

pub invariant_of-self-2 : goal.invariant_of-self-2
invariant_of-self-2 c =
    let lits = c.in_ok-extend_from_slice.ensures.items in
    let ends = c.push_reserved.ensures.items ∙ ap (λ es. es ++ c.len.result ∷ []) c.reserve.ensures.items in
    let m : c.len.result ≡ length c.extend_from_slice.new.self.items = omega (arith, c.len.ensures) in
    let more : length c.self.inside.lits.items ≤ c.len.result = omega (arith, m, ap length lits, length-append c.self.inside.lits.items c.args.lits.now) in
    let holds : AreEnds 0 (length c.extend_from_slice.new.self.items) c.push_reserved.new.self.items = rw (ends, ← m) (ends-more 0 (length c.self.inside.lits.items) c.len.result c.self.inside.ends.items c.self.invariant more) in
    holds

pub returns-clause-ok : goal.returns-clause-ok
returns-clause-ok c =
    let lits = c.in_ok-extend_from_slice.ensures.items in
    let ends = c.push_reserved.ensures.items ∙ ap (λ es. es ++ c.len.result ∷ []) c.reserve.ensures.items in
    let m : c.len.result ≡ length c.self.inside.lits.items + length c.args.lits.now = omega (arith, c.len.ensures, ap length lits, length-append c.self.inside.lits.items c.args.lits.now) in
    let seen : parts_from 0 c.extend_from_slice.new.self.items c.push_reserved.new.self.items ≡ c.args.self.now ++ c.args.lits.now ∷ [] = rw (lits, ends, ← c.self.view_is) (parts-more 0 c.self.inside.lits.items c.args.lits.now c.self.inside.ends.items c.len.result c.self.invariant m) in
    seen
