-- Bytes that are written in parts: what callers of this crate cite.
use Rattle.std.proofs.Common.{zero, suc, get_or, drop, ◌∷◌, [], ◌∙◌, ◌≡◌, refl, List, ℕ, ◌++◌, ◌+◌, ◌<◌, ◌≤◌, length, take, Option, ap, sym, append_assoc, arith, length-append}
use Rattle.std.specs.List.{flat_map}
use Rattle.std.proofs.lemmas.List.{take-append-le}
use Rattle.std.proofs.Math.Seq.{take-append-add}
use Rattle.ps_io.specs.Transfer.{Appends, AppendsPrefix}
use Rattle.ps_io.proofs.Bytes.{appends-then}

-- a proper prefix of the first bytes is one of all
pub prefix-more : (a b : Option (List ℕ)) (xs ys : List ℕ) → AppendsPrefix a b xs → AppendsPrefix a b (xs ++ ys)
prefix-more a b xs ys p =
    let within : p.count ≤ length xs = omega (arith, p.proper) in record {
      count = p.count;
      proper = omega (arith, p.proper, length-append xs ys);
      appended = rw (take-append-le p.count xs ys within) p.appended;
    }

-- the first bytes, and then a proper prefix of the others
pub prefix-after : (a b c : Option (List ℕ)) (xs ys : List ℕ) → Appends a b xs → AppendsPrefix b c ys → AppendsPrefix a c (xs ++ ys)
prefix-after a b c xs ys p q =
    let e : take (length xs + q.count) (xs ++ ys) ≡ xs ++ take q.count ys = take-append-add xs ys q.count in record {
      count = length xs + q.count;
      proper = omega (arith, q.proper, length-append xs ys);
      appended = rw e (appends-then a b c xs (take q.count ys) p q.appended);
    }

-- what is written of all items, cut at one of them
pub flat_map-at : {X Y : Type 0} (f : X → List Y) (xs : List X) (i : ℕ) (x d : X) → i < length xs → x ≡ get_or xs i d
    → flat_map f xs ≡ (flat_map f (take i xs) ++ f x) ++ flat_map f (drop (suc i) xs)
flat_map-at f [] i x d lt e = absurd (omega (arith, lt))
flat_map-at f (y ∷ ys) zero x d lt e = rw e refl
flat_map-at f (y ∷ ys) (suc i) x d lt e =
    let less : i < length ys = omega (arith, lt) in
    ap (λ r. f y ++ r) (flat_map-at f ys i x d less e) ∙ sym (simp append_assoc)
