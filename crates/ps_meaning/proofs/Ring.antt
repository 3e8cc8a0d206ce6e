-- Identities of commutative rings by computation: two terms are equal where their sorted monomials are.
use Rattle.ps_meaning.specs.Laws.{CommutativeRing}
use Rattle.std.proofs.Common.{◌≡◌, ℕ, zero, suc, List, [], ◌∷◌, Bool, true, false, cond, leb, eqb, ltb, sym, refl, ap, ◌∙◌}

pub data Term : Type 0 where
  var : ℕ → Term
  plus by : Term → Term → Term
  minus : Term → Term
  none unit : Term

-- ---- monomials, as sorted lists of variables, and sums of them
abbrev ins : ℕ → List ℕ → List ℕ
ins i [] = i ∷ []
ins i (j ∷ m) = cond (leb i j) (i ∷ (j ∷ m)) (j ∷ ins i m)

abbrev merge : List ℕ → List ℕ → List ℕ
merge [] k = k
merge (i ∷ m) k = ins i (merge m k)

abbrev upto : List ℕ → List ℕ → Bool
upto [] k = true
upto (i ∷ m) [] = false
upto (i ∷ m) (j ∷ k) = cond (eqb i j) (upto m k) (ltb i j)

abbrev insert_at : List ℕ → List (List ℕ) → List (List ℕ)
insert_at m [] = m ∷ []
insert_at m (k ∷ p) = cond (upto m k) (m ∷ (k ∷ p)) (k ∷ insert_at m p)

abbrev pub join : List (List ℕ) → List (List ℕ) → List (List ℕ)
join [] q = q
join (m ∷ p) q = insert_at m (join p q)

abbrev scale : List ℕ → List (List ℕ) → List (List ℕ)
scale m [] = []
scale m (k ∷ p) = insert_at (merge m k) (scale m p)

abbrev cross : List (List ℕ) → List (List ℕ) → List (List ℕ)
cross [] q = []
cross (m ∷ p) q = join (scale m q) (cross p q)

-- a term's monomials with a plus, and those with a minus
abbrev sides : Bool → Term → List (List ℕ)
sides true (var i) = (i ∷ []) ∷ []
sides true (plus s t) = join (sides true s) (sides true t)
sides true (by s t) = join (cross (sides true s) (sides true t)) (cross (sides false s) (sides false t))
sides true (minus t) = sides false t
sides true none = []
sides true unit = [] ∷ []
sides false (var i) = []
sides false (plus s t) = join (sides false s) (sides false t)
sides false (by s t) = join (cross (sides true s) (sides false t)) (cross (sides false s) (sides true t))
sides false (minus t) = sides true t
sides false none = []
sides false unit = []

abbrev pub gains : Term → List (List ℕ)
gains t = sides true t

abbrev pub losses : Term → List (List ℕ)
losses t = sides false t

module _ {R : Type 0} (add mul : R → R → R) (neg : R → R) (nought one : R) (laws : CommutativeRing add mul neg nought one) where
  abbrev look : List R → ℕ → R
  look [] i = nought
  look (x ∷ xs) zero = x
  look (x ∷ xs) (suc i) = look xs i

  abbrev pub eval : List R → Term → R
  eval xs (var i) = look xs i
  eval xs (plus s t) = add (eval xs s) (eval xs t)
  eval xs (by s t) = mul (eval xs s) (eval xs t)
  eval xs (minus t) = neg (eval xs t)
  eval xs none = nought
  eval xs unit = one

  abbrev val : List R → List ℕ → R
  val xs [] = one
  val xs (i ∷ m) = mul (look xs i) (val xs m)

  abbrev total : List R → List (List ℕ) → R
  total xs [] = nought
  total xs (m ∷ p) = add (val xs m) (total xs p)

  zero-add : (x : R) → add nought x ≡ x
  zero-add x = laws.add_comm nought x ∙ laws.add-zero x

  one-mul : (x : R) → mul one x ≡ x
  one-mul x = laws.mul_comm one x ∙ laws.mul-one x

  mul-add : (x y z : R) → mul x (add y z) ≡ add (mul x y) (mul x z)
  mul-add x y z = laws.mul_comm x (add y z) ∙ laws.add-mul y z x ∙ (λ i. add (laws.mul_comm y x i) (laws.mul_comm z x i))

  add_left_comm : (x y z : R) → add x (add y z) ≡ add y (add x z)
  add_left_comm x y z = sym (laws.add_assoc x y z) ∙ ap (λ k. add k z) (laws.add_comm x y) ∙ laws.add_assoc y x z

  mul_left_comm : (x y z : R) → mul x (mul y z) ≡ mul y (mul x z)
  mul_left_comm x y z = sym (laws.mul_assoc x y z) ∙ ap (λ k. mul k z) (laws.mul_comm x y) ∙ laws.mul_assoc y x z

  add_middle : (a b c d : R) → add (add a b) (add c d) ≡ add (add a c) (add b d)
  add_middle a b c d = laws.add_assoc a b (add c d) ∙ ap (add a) (add_left_comm b c d) ∙ sym (laws.add_assoc a c (add b d))

  add_cancel : (x y z : R) → add x z ≡ add y z → x ≡ y
  add_cancel x y z e =
      let drop : (w : R) → add (add w z) (neg z) ≡ w = λ w. laws.add_assoc w z (neg z) ∙ ap (add w) (laws.add-neg z) ∙ laws.add-zero w in
      sym (drop x) ∙ ap (λ k. add k (neg z)) e ∙ drop y

  zero-mul : (x : R) → mul nought x ≡ nought
  zero-mul x =
      add_cancel (mul nought x) nought (mul nought x)
      (sym (laws.add-mul nought nought x) ∙ ap (λ k. mul k x) (laws.add-zero nought) ∙ sym (zero-add (mul nought x)))

  mul-zero : (x : R) → mul x nought ≡ nought
  mul-zero x = laws.mul_comm x nought ∙ zero-mul x

  either : {A : Type 0} (f : A → R) (b : Bool) (x y : A) (v : R) → f x ≡ v → f y ≡ v → f (cond b x y) ≡ v
  either f true x y v p q = p
  either f false x y v p q = q

  val-ins : (xs : List R) (i : ℕ) (m : List ℕ) → val xs (ins i m) ≡ mul (look xs i) (val xs m)
  val-ins xs i [] = refl
  val-ins xs i (j ∷ m) =
      either (val xs) (leb i j) (i ∷ (j ∷ m)) (j ∷ ins i m) (mul (look xs i) (val xs (j ∷ m))) refl
      (ap (mul (look xs j)) (val-ins xs i m) ∙ mul_left_comm (look xs j) (look xs i) (val xs m))

  val-merge : (xs : List R) (m k : List ℕ) → val xs (merge m k) ≡ mul (val xs m) (val xs k)
  val-merge xs [] k = sym (one-mul (val xs k))
  val-merge xs (i ∷ m) k =
      val-ins xs i (merge m k) ∙ ap (mul (look xs i)) (val-merge xs m k) ∙ sym (laws.mul_assoc (look xs i) (val xs m) (val xs k))

  total-insert_at : (xs : List R) (m : List ℕ) (p : List (List ℕ)) → total xs (insert_at m p) ≡ add (val xs m) (total xs p)
  total-insert_at xs m [] = refl
  total-insert_at xs m (k ∷ p) =
      either (total xs) (upto m k) (m ∷ (k ∷ p)) (k ∷ insert_at m p) (add (val xs m) (total xs (k ∷ p))) refl
      (ap (add (val xs k)) (total-insert_at xs m p) ∙ add_left_comm (val xs k) (val xs m) (total xs p))

  total-join : (xs : List R) (p q : List (List ℕ)) → total xs (join p q) ≡ add (total xs p) (total xs q)
  total-join xs [] q = sym (zero-add (total xs q))
  total-join xs (m ∷ p) q =
      total-insert_at xs m (join p q) ∙ ap (add (val xs m)) (total-join xs p q) ∙ sym (laws.add_assoc (val xs m) (total xs p) (total xs q))

  total-scale : (xs : List R) (m : List ℕ) (p : List (List ℕ)) → total xs (scale m p) ≡ mul (val xs m) (total xs p)
  total-scale xs m [] = sym (mul-zero (val xs m))
  total-scale xs m (k ∷ p) =
      total-insert_at xs (merge m k) (scale m p)
      ∙ (λ i. add (val-merge xs m k i) (total-scale xs m p i))
      ∙ sym (mul-add (val xs m) (val xs k) (total xs p))

  total-cross : (xs : List R) (p q : List (List ℕ)) → total xs (cross p q) ≡ mul (total xs p) (total xs q)
  total-cross xs [] q = sym (zero-mul (total xs q))
  total-cross xs (m ∷ p) q =
      total-join xs (scale m q) (cross p q)
      ∙ (λ i. add (total-scale xs m q i) (total-cross xs p q i))
      ∙ sym (laws.add-mul (val xs m) (total xs p) (total xs q))

  -- with s + n = p and t + m = q: s * t + (p * m + n * q) = p * q + n * m
  by_sides : (s t n m p q : R) → add s n ≡ p → add t m ≡ q → add (mul s t) (add (mul p m) (mul n q)) ≡ add (mul p q) (mul n m)
  by_sides s t n m p q e f =
      let nq : mul n q ≡ add (mul n t) (mul n m) = ap (mul n) (sym f) ∙ mul-add n t m in
      let pt : mul p t ≡ add (mul s t) (mul n t) = ap (λ k. mul k t) (sym e) ∙ laws.add-mul s n t in
      let pq : mul p q ≡ add (add (mul s t) (mul n t)) (mul p m) = ap (mul p) (sym f) ∙ mul-add p t m ∙ ap (λ k. add k (mul p m)) pt in
      ap (λ k. add (mul s t) (add (mul p m) k)) nq
      ∙ ap (add (mul s t)) (add_left_comm (mul p m) (mul n t) (mul n m))
      ∙ sym (laws.add_assoc (mul s t) (mul n t) (add (mul p m) (mul n m)))
      ∙ sym (laws.add_assoc (add (mul s t) (mul n t)) (mul p m) (mul n m))
      ∙ ap (λ k. add k (mul n m)) (sym pq)

  sound : (xs : List R) (t : Term) → add (eval xs t) (total xs (losses t)) ≡ total xs (gains t)
  sound xs (var i) = ap (λ k. add k nought) (sym (laws.mul-one (look xs i)))
  sound xs (plus s t) =
      ap (add (eval xs (plus s t))) (total-join xs (losses s) (losses t))
      ∙ add_middle (eval xs s) (eval xs t) (total xs (losses s)) (total xs (losses t))
      ∙ (λ i. add (sound xs s i) (sound xs t i))
      ∙ sym (total-join xs (gains s) (gains t))
  sound xs (by s t) =
      ap (add (eval xs (by s t))) (total-join xs (cross (gains s) (losses t)) (cross (losses s) (gains t)) ∙ (λ i. add (total-cross xs (gains s) (losses t) i) (total-cross xs (losses s) (gains t) i)))
      ∙ by_sides (eval xs s) (eval xs t) (total xs (losses s)) (total xs (losses t)) (total xs (gains s)) (total xs (gains t)) (sound xs s) (sound xs t)
      ∙ sym (total-join xs (cross (gains s) (gains t)) (cross (losses s) (losses t)) ∙ (λ i. add (total-cross xs (gains s) (gains t) i) (total-cross xs (losses s) (losses t) i)))
  sound xs (minus t) =
      let x = eval xs t in
      let n = total xs (losses t) in
      ap (add (neg x)) (sym (sound xs t)) ∙ sym (laws.add_assoc (neg x) x n) ∙ ap (λ k. add k n) (laws.add_comm (neg x) x ∙ laws.add-neg x) ∙ zero-add n
  sound xs none = laws.add-zero nought
  sound xs unit = refl

  -- the identity holds where the monomials are the same
  pub ring : (xs : List R) (s t : Term) → join (gains s) (losses t) ≡ join (gains t) (losses s) → eval xs s ≡ eval xs t
  ring xs s t e =
      let x = eval xs s in
      let y = eval xs t in
      let n = total xs (losses s) in
      let m = total xs (losses t) in
      let l : add (add x n) m ≡ add (add y m) n =
      ap (λ k. add k m) (sound xs s) ∙ sym (total-join xs (gains s) (losses t)) ∙ ap (total xs) e ∙ total-join xs (gains t) (losses s) ∙ ap (λ k. add k n) (sym (sound xs t)) in
      add_cancel x y (add n m) (sym (laws.add_assoc x n m) ∙ l ∙ laws.add_assoc y m n ∙ ap (add y) (laws.add_comm m n))
