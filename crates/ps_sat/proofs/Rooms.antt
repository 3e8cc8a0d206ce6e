-- Room for watches.
use Rattle.std.proofs.Common.{◌≡◌, ℕ, ◌≤◌, arith, ap}
use Rattle.ps_sat.specs.declared.visiting.Watches.{Watches}
use Rattle.ps_sat.specs.Rooms.{room_of, HasRoomFor}

-- the same room serves for fewer watches
pub room-less : (w w' : Watches) (n m : ℕ) → room_of w' ≡ room_of w → m ≤ n → HasRoomFor w n → HasRoomFor w' m
room-less w w' n m e le h =
    let a = ap (λ (x : ℕ × ℕ × ℕ × ℕ). x.0) e in
    let b = ap (λ (x : ℕ × ℕ × ℕ × ℕ). x.1) e in
    let c = ap (λ (x : ℕ × ℕ × ℕ × ℕ). x.2) e in
    let d = ap (λ (x : ℕ × ℕ × ℕ × ℕ). x.3) e in
    record {
      next = omega (arith, a, le, h.next);
      lits = omega (arith, b, le, h.lits);
      others = omega (arith, c, le, h.others);
      ids = omega (arith, d, le, h.ids);
    }

pub room-less-same : (w : Watches) (n m : ℕ) → m ≤ n → HasRoomFor w n → HasRoomFor w m
room-less-same w n m le h = record { next = omega (arith, le, h.next); lits = omega (arith, le, h.lits); others = omega (arith, le, h.others); ids = omega (arith, le, h.ids) }
