use Rattle.std.proofs.Common.{◌≡◌, ◌∙◌, ◌+◌, ◌*◌, ◌<◌, suc, ◌-◌, get_or, length, arith, ap, sym}
use Rattle.ps_pb.specs.Steps.{known_of}
use Rattle.ps_sat.proofs.Attached.{linked-same, linked-then, covered-last, front-size}
use Rattle.ps_sat.proofs.Linked.{read-at}
use Rattle.ps_sat.proofs.Rooms.{room-less}
use Rattle.ps_sat.proofs.linking.link_waiting.Goals as goal

pub link-init : goal.link-init
link-init c = record {
  linked = linked-same c.args.known.now c.args.w.now c.args.trail.now c.requires.kept c.requires.filed;
  covered = λ goal h. h;
  room = c.requires.room;
  places = c.requires.ids;
}

pub link-preserved : goal.link-preserved
link-preserved c =
    let inv = c.link.invariant in
    let step = c.in_default.ensures in
    let n = c.len-in-link-2.result - 1 in
    let size : length c.link.waiting.items ≡ suc n = omega (arith, c.link-test.true, c.len.ensures, c.len-in-link-2.ensures, c.link.waiting.ok.0) in
    let last : c.index-id.result.now ≡ get_or c.link.waiting.items n 0 =
    (let same : c.len-in-link.result - 1 ≡ n = omega (arith, c.len-in-link.ensures, c.len-in-link-2.ensures) in
    let inside : c.len-in-link.result - 1 < length c.link.waiting.items = omega (arith, same, size) in
    sym (read-at c.link.waiting.items (c.len-in-link.result - 1) c.index-id.result.now 0 inside c.index-id.ensures) ∙ ap (λ i. get_or c.link.waiting.items i 0) same) in
    let less : length c.truncate.new.self.items ≡ n = ap length c.truncate.ensures.items ∙ front-size c.link.waiting.items n size in
    record {
      linked = linked-then c.args.known.now c.args.w.now c.args.trail.now c.link.w c.link.trail c.link-in-link.new.w c.link-in-link.new.trail inv.linked step.linked;
      covered = λ goal h. rw c.truncate.ensures.items (covered-last (known_of c.args.known.now) c.link.w c.link.scanned.items c.link.waiting.items c.link-in-link.new.w c.link-in-link.new.scanned.items n c.index-id.result.now size last step.covers goal (inv.covered goal h));
      room = room-less c.link.w c.link-in-link.new.w (length c.link.w.lits.items + length c.link.waiting.items * 2) _ step.room (omega (arith, step.nodes, size, less)) inv.room;
      places = omega (arith, step.places, step.capacity, size, less, inv.places);
    }

pub returns-in-Some-clause-linked : goal.returns-in-Some-clause-linked
returns-in-Some-clause-linked c = linked-then c.args.known.now c.args.w.now c.args.trail.now c.link.w c.link.trail c.link-in-link.new.w c.link-in-link.new.trail c.link.invariant.linked c.link-in-link.ensures.linked
