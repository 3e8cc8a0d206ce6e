-- Items that are written one after another.
use Rattle.std.proofs.Common.{◌≡◌, ◌<◌, ◌+◌, ℕ, zero, suc, List, [], ◌∷◌, ◌++◌, length, map, take, drop, get_or, Result, Ok, Err, refl, sym, ap, ◌∙◌, arith}
use Rattle.std.specs.Result.{IsErr}
use Rattle.std.proofs.lemmas.List.{take_more}
use Rattle.ps_io.specs.declared.lines.Lines.{Lines}
use Rattle.ps_io.specs.declared.sink.Sink.{Ghosts}
use Rattle.ps_io.specs.declared.sink.WriteFault.{WriteFault}
use Rattle.ps_io.specs.Lines.{text_of}
use Rattle.ps_io.proofs.Wrote.{wrote-none, wrote-then, wrote-stop}
use Rattle.ps_answer.specs.declared.item.LineItem.{LineItem}
use Rattle.ps_answer.specs.Items.{item_line}
use Rattle.ps_report.specs.Written.{WroteItem, IsShort}
use Rattle.ps_report.specs.Parts.{WroteItems, AreShort}

map_both : {X Y : Type 0} (f : X → Y) (xs ys : List X) → map f (xs ++ ys) ≡ map f xs ++ map f ys
map_both f [] ys = refl
map_both f (x ∷ xs) ys = ap (λ r. f x ∷ r) (map_both f xs ys)

-- all items, cut behind one of them
map_at : {X Y : Type 0} (f : X → Y) (xs : List X) (i : ℕ) (x d : X) → i < length xs → x ≡ get_or xs i d → map f xs ≡ (map f (take i xs) ++ f x ∷ []) ++ map f (drop (suc i) xs)
map_at f [] i x d lt e = absurd (omega (arith, lt))
map_at f (y ∷ ys) zero x d lt e = rw e refl
map_at f (y ∷ ys) (suc i) x d lt e = ap (λ r. f y ∷ r) (map_at f ys i x d (omega (arith, lt)) e)

-- an item of short lines is short
pub short_at : {X : Type 0} (f : X → LineItem) (xs : List X) (i : ℕ) (x d : X) → i < length xs → x ≡ get_or xs i d → AreShort (map f xs) → IsShort (f x)
short_at f [] i x d lt e h = absurd (omega (arith, lt))
short_at f (y ∷ ys) zero x d lt e h = rw e h.0
short_at f (y ∷ ys) (suc i) x d lt e h = short_at f ys i x d (omega (arith, lt)) e h.1

pub short_first : (is js : List LineItem) → AreShort (is ++ js) → AreShort is
short_first [] js h = tt
short_first (i ∷ is) js h = (h.0, short_first is js h.1)

pub short_last : (is js : List LineItem) → AreShort (is ++ js) → AreShort js
short_last [] js h = h
short_last (i ∷ is) js h = short_last is js h.1

module _ {O : Type 0} (sink : Ghosts O) where
  -- no item
  pub items_none : (a : Lines O) → text_of a ≡ [] → WroteItems sink a a (Ok tt) []
  items_none a h = wrote-none {E = WriteFault} sink.written sink.faults a h

  -- some items, and then others
  pub items_then : (a b c : Lines O) (r : Result (Unit {0}) WriteFault) (is js : List LineItem) → WroteItems sink a b (Ok tt) is → WroteItems sink b c r js → WroteItems sink a c r (is ++ js)
  items_then a b c r is js p q = rw (map_both item_line is js) (wrote-then sink.written sink.faults a b c r (map item_line is) (map item_line js) p q)

  -- a fault within some items is one within them and what follows
  pub items_stop : (a b : Lines O) (e : WriteFault) (s : Result (Unit {0}) WriteFault) (is js : List LineItem) → WroteItems sink a b (Err e) is → IsErr s → WroteItems sink a b s (is ++ js)
  items_stop a b e s is js p h = rw (map_both item_line is js) (wrote-stop sink.written sink.faults a b e s (map item_line is) (map item_line js) p h)

  module _ {X : Type 0} (f : X → LineItem) (xs : List X) (i : ℕ) (x d : X) (lt : i < length xs) (is : x ≡ get_or xs i d) (a b c : Lines O)
      (p : WroteItems sink a b (Ok tt) (map f (take i xs))) where
    -- a turn of a loop over items
    pub items_turn : WroteItem sink b c (Ok tt) (f x) → WroteItems sink a c (Ok tt) (map f (take (i + 1) xs))
    items_turn q =
        let e : map f (take (i + 1) xs) ≡ map f (take i xs) ++ f x ∷ [] =
        ap (map f) (take_more xs i d lt) ∙ map_both f (take i xs) (get_or xs i d ∷ []) ∙ ap (λ y. map f (take i xs) ++ f y ∷ []) (sym is) in
        rw e (items_then a b c (Ok tt) (map f (take i xs)) (f x ∷ []) p q)

    -- a turn that stops
    pub items_fault : (e : WriteFault) (s : Result (Unit {0}) WriteFault) → WroteItem sink b c (Err e) (f x) → IsErr s → WroteItems sink a c s (map f xs)
    items_fault e s q h =
        rw (map_at f xs i x d lt is)
        (items_stop a c e s (map f (take i xs) ++ f x ∷ []) (map f (drop (suc i) xs)) (items_then a b c (Err e) (map f (take i xs)) (f x ∷ []) p q) h)
