-- Lines that are written one after another through a writer of lines: what callers of this crate cite.
use Rattle.std.proofs.Common.{◌≡◌, ◌<◌, ◌+◌, ℕ, suc, List, [], ◌∷◌, ◌++◌, Bool, length, take, drop, get_or, Option, Some, None, Result, Ok, Err, refl, sym, ap, ◌∙◌, arith, append-nil, true≢false}
use Rattle.std.specs.Result.{IsErr}
use Rattle.std.specs.List.{flat_map}
use Rattle.std.specs.Io.KnownBytes.{append_known}
use Rattle.std.proofs.lemmas.List.{take_more}
use Rattle.std.proofs.lemmas.Grind.{flat_map-append}
use Rattle.ps_io.specs.declared.lines.Lines.{Lines}
use Rattle.ps_io.specs.LineText.{lines_bytes}
use Rattle.ps_io.specs.Lines.{text_of, is_commented, sink_of}
use Rattle.ps_io.specs.Causes.{next_count}
use Rattle.ps_io.specs.Transfer.{Appends, AppendsPrefix}
use Rattle.ps_io.specs.Wrote.{Wrote}
use Rattle.ps_io.proofs.Bytes.{appends-then}
use Rattle.ps_io.proofs.CallerLemmas.{prefix-more, prefix-after, flat_map-at}

append_known-nil : (a : Option (List ℕ)) → a ≡ append_known a []
append_known-nil None = refl
append_known-nil (Some x) = ap Some (sym (append-nil x))

-- lines, and then others under the same mark
lines_append : (m n : Bool) (a b c : Option (List ℕ)) (xs ys : List (List ℕ)) → n ≡ m → Appends a b (lines_bytes m xs) → Appends b c (lines_bytes n ys)
    → Appends a c (lines_bytes m (xs ++ ys))
lines_append m n a b c xs ys same p q =
    rw flat_map-append (appends-then a b c (lines_bytes m xs) (lines_bytes m ys) p (rw same at q))

lines_prefix : (m n : Bool) (a b c : Option (List ℕ)) (xs ys : List (List ℕ)) → n ≡ m → Appends a b (lines_bytes m xs) → AppendsPrefix b c (lines_bytes n ys)
    → AppendsPrefix a c (lines_bytes m (xs ++ ys))
lines_prefix m n a b c xs ys same p q =
    rw flat_map-append (prefix-after a b c (lines_bytes m xs) (lines_bytes m ys) p (rw same at q))

lines_more : (m : Bool) (a b : Option (List ℕ)) (xs ys : List (List ℕ)) → AppendsPrefix a b (lines_bytes m xs) → AppendsPrefix a b (lines_bytes m (xs ++ ys))
lines_more m a b xs ys p = rw flat_map-append (prefix-more a b (lines_bytes m xs) (lines_bytes m ys) p)

module _ {O E : Type 0} (written : O → Option (List ℕ)) (faults : O → ℕ) where
  -- no line
  pub wrote-none : (a : Lines O) → text_of a ≡ [] → Wrote {E = E} written faults a a (Ok tt) []
  wrote-none a empty = record {
    same_reference = refl;
    same_mark = refl;
    empty = empty;
    ok = append_known-nil (written (sink_of a));
    counted = record { later = omega arith; ok = refl; err = tt };
    prefix = tt;
  }

  -- some lines, and then others
  pub wrote-then : (a b c : Lines O) (r : Result (Unit {0}) E) (xs ys : List (List ℕ)) → Wrote {E = E} written faults a b (Ok tt) xs → Wrote written faults b c r ys → Wrote written faults a c r (xs ++ ys)
  wrote-then a b c (Ok x) xs ys p q = record {
    same_reference = q.same_reference ∙ p.same_reference;
    same_mark = q.same_mark ∙ p.same_mark;
    empty = q.empty;
    ok = lines_append (is_commented a) (is_commented b) (written (sink_of a)) (written (sink_of b)) (written (sink_of c)) xs ys p.same_mark p.ok q.ok;
    counted = record { later = omega (arith, p.counted.later, q.counted.later); ok = q.counted.ok ∙ p.counted.ok; err = tt };
    prefix = tt;
  }
  wrote-then a b c (Err e) xs ys p q = record {
    same_reference = q.same_reference ∙ p.same_reference;
    same_mark = q.same_mark ∙ p.same_mark;
    empty = q.empty;
    ok = tt;
    counted = record { later = omega (arith, p.counted.later, q.counted.later); ok = tt; err = q.counted.err ∙ ap next_count p.counted.ok };
    prefix = lines_prefix (is_commented a) (is_commented b) (written (sink_of a)) (written (sink_of b)) (written (sink_of c)) xs ys p.same_mark p.ok q.prefix;
  }

  -- a fault within some lines is one within them and what follows
  pub wrote-stop : (a b : Lines O) (e : E) (s : Result (Unit {0}) E) (xs ys : List (List ℕ)) → Wrote written faults a b (Err e) xs → IsErr s → Wrote written faults a b s (xs ++ ys)
  wrote-stop a b e (Ok x) xs ys p h = absurd (true≢false (sym h))
  wrote-stop a b e (Err d) xs ys p h = record {
    same_reference = p.same_reference;
    same_mark = p.same_mark;
    empty = p.empty;
    ok = tt;
    counted = record { later = p.counted.later; ok = tt; err = p.counted.err };
    prefix = lines_more (is_commented a) (written (sink_of a)) (written (sink_of b)) xs ys p.prefix;
  }

  module _ {X : Type 0} (f : X → List (List ℕ)) (xs : List X) (i : ℕ) (x d : X) (lt : i < length xs) (is : x ≡ get_or xs i d) (a b c : Lines O)
      (p : Wrote {E = E} written faults a b (Ok tt) (flat_map f (take i xs))) where
    -- a turn of a loop over items
    pub wrote-turn : Wrote {E = E} written faults b c (Ok tt) (f x) → Wrote {E = E} written faults a c (Ok tt) (flat_map f (take (i + 1) xs))
    wrote-turn q =
        let e : flat_map f (take (i + 1) xs) ≡ flat_map f (take i xs) ++ f x =
        ap (flat_map f) (take_more xs i d lt) ∙ flat_map-append f (take i xs) (get_or xs i d ∷ []) ∙ ap (λ y. flat_map f (take i xs) ++ y) (append-nil (f (get_or xs i d)) ∙ ap f (sym is)) in
        rw e (wrote-then a b c (Ok tt) (flat_map f (take i xs)) (f x) p q)

    -- a turn that stops
    pub wrote-fault : (e : E) (s : Result (Unit {0}) E) → Wrote written faults b c (Err e) (f x) → IsErr s → Wrote written faults a c s (flat_map f xs)
    wrote-fault e s q h =
        rw (flat_map-at f xs i x d lt is)
        (wrote-stop a c e s (flat_map f (take i xs) ++ f x) (flat_map f (drop (suc i) xs)) (wrote-then a b c (Err e) (flat_map f (take i xs)) (f x) p q) h)
