-- Lines that are written one after another.
use Rattle.std.proofs.Common.{◌≡◌, ◌<◌, ◌+◌, ℕ, zero, suc, List, [], ◌∷◌, ◌++◌, length, map, take, drop, get_or, Result, Ok, Err, refl, sym, ap, ◌∙◌, arith}
use Rattle.std.specs.Result.{IsErr}
use Rattle.std.specs.List.{AllByRecursion}
use Rattle.std.proofs.lemmas.List.{take_more, map-append}
use Rattle.ps_io.specs.declared.lines.Lines.{Lines}
use Rattle.ps_io.specs.declared.sink.Sink.{Ghosts}
use Rattle.ps_io.specs.declared.sink.WriteFault.{WriteFault}
use Rattle.ps_io.specs.Wrote.{Wrote}
use Rattle.ps_io.proofs.Wrote.{wrote-then, wrote-stop}
use Rattle.ps_max_text.specs.Texts.{IsShortLine}

-- the lines of all items, cut behind one of them
map_at : {X Y : Type 0} (f : X → Y) (xs : List X) (i : ℕ) (x d : X) → i < length xs → x ≡ get_or xs i d → map f xs ≡ (map f (take i xs) ++ f x ∷ []) ++ map f (drop (suc i) xs)
map_at f [] i x d lt e = absurd (omega (arith, lt))
map_at f (y ∷ ys) zero x d lt e = rw e refl
map_at f (y ∷ ys) (suc i) x d lt e = ap (λ r. f y ∷ r) (map_at f ys i x d (omega (arith, lt)) e)

-- short lines are short in both parts
pub short_first : (ks ls : List (List ℕ)) → AllByRecursion IsShortLine (ks ++ ls) → AllByRecursion IsShortLine ks
short_first [] ls h = tt
short_first (k ∷ ks) ls h = (h.0, short_first ks ls h.1)

pub short_last : (ks ls : List (List ℕ)) → AllByRecursion IsShortLine (ks ++ ls) → AllByRecursion IsShortLine ls
short_last [] ls h = h
short_last (k ∷ ks) ls h = short_last ks ls h.1

-- the line of an item among short lines is short
pub short_at : {X : Type 0} (f : X → List ℕ) (xs : List X) (i : ℕ) (x d : X) → i < length xs → x ≡ get_or xs i d → AllByRecursion IsShortLine (map f xs) → IsShortLine (f x)
short_at f [] i x d lt e h = absurd (omega (arith, lt))
short_at f (y ∷ ys) zero x d lt e h = rw e h.0
short_at f (y ∷ ys) (suc i) x d lt e h = short_at f ys i x d (omega (arith, lt)) e h.1

module _ {O : Type 0} (sink : Ghosts O) where
  -- these lines were written, or a proper prefix of them where a write failed
  abbrev pub WroteLines : Lines O → Lines O → Result (Unit {0}) WriteFault → List (List ℕ) → Type 0
  WroteLines old new result lines = Wrote sink.written sink.faults old new result lines

  -- some lines, and then others
  pub lines_then : (a b c : Lines O) (r : Result (Unit {0}) WriteFault) (ks ls : List (List ℕ)) → WroteLines a b (Ok tt) ks → WroteLines b c r ls → WroteLines a c r (ks ++ ls)
  lines_then a b c r ks ls p q = wrote-then sink.written sink.faults a b c r ks ls p q

  -- a fault within some lines is one within them and what follows
  pub lines_stop : (a b : Lines O) (e : WriteFault) (s : Result (Unit {0}) WriteFault) (ks ls : List (List ℕ)) → WroteLines a b (Err e) ks → IsErr s → WroteLines a b s (ks ++ ls)
  lines_stop a b e s ks ls p h = wrote-stop sink.written sink.faults a b e s ks ls p h

  module _ {X : Type 0} (f : X → List ℕ) (xs : List X) (i : ℕ) (x d : X) (lt : i < length xs) (is : x ≡ get_or xs i d) (a b c : Lines O)
      (p : WroteLines a b (Ok tt) (map f (take i xs))) where
    -- a turn of a loop over items
    pub lines_turn : WroteLines b c (Ok tt) (f x ∷ []) → WroteLines a c (Ok tt) (map f (take (i + 1) xs))
    lines_turn q =
        let e : map f (take (i + 1) xs) ≡ map f (take i xs) ++ f x ∷ [] =
        ap (map f) (take_more xs i d lt) ∙ map-append f (take i xs) (get_or xs i d ∷ []) ∙ ap (λ y. map f (take i xs) ++ f y ∷ []) (sym is) in
        rw e (lines_then a b c (Ok tt) (map f (take i xs)) (f x ∷ []) p q)

    -- a turn that stops
    pub lines_fault : (e : WriteFault) (s : Result (Unit {0}) WriteFault) → WroteLines b c (Err e) (f x ∷ []) → IsErr s → WroteLines a c s (map f xs)
    lines_fault e s q h =
        rw (map_at f xs i x d lt is)
        (lines_stop a c e s (map f (take i xs) ++ f x ∷ []) (map f (drop (suc i) xs)) (lines_then a b c (Err e) (map f (take i xs)) (f x ∷ []) p q) h)
