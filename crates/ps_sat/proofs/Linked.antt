-- Lists after a number was taken out or put in.
use Rattle.std.proofs.Common.{◌≡◌, ◌≢◌, ℕ, zero, suc, ◌<◌, ◌≤◌, List, [], ◌∷◌, ◌++◌, length, set, get_or, eq-eqb, arith, refl, sym, ap, subst, ◌∙◌, inl, inr, ◌⊎◌}
use Rattle.std.specs.Prelude.{slice_index_or}
use Rattle.std.proofs.lemmas.Bool.{cases_eq, ne_eqb}
use Rattle.ps_sat.specs.declared.links.TheConstants.{END}
use Rattle.ps_sat.specs.Links.{walk, head_at, list_at, Holds, IsOnce, IsChain, AreLinked, IsFree, IsPopped, IsPushed, IsShifted, IsGrown}
use Rattle.ps_sat.proofs.Pigeons.{AreBelow, few}

-- a write, and what is read then
pub read-set : {X : Type 0} → (xs : List X) (i : ℕ) (v d : X) → i < length xs → get_or (set xs i v) i d ≡ v
read-set [] i v d h = absurd (omega arith)
read-set (x ∷ xs) zero v d h = refl
read-set (x ∷ xs) (suc i) v d h = read-set xs i v d (omega (arith, h))

pub read-other : {X : Type 0} → (xs : List X) (i j : ℕ) (v d : X) → j ≢ i → get_or (set xs i v) j d ≡ get_or xs j d
read-other [] i j v d h = refl
read-other (x ∷ xs) zero zero v d h = absurd (h refl)
read-other (x ∷ xs) zero (suc j) v d h = refl
read-other (x ∷ xs) (suc i) zero v d h = refl
read-other (x ∷ xs) (suc i) (suc j) v d h = read-other xs i j v d (λ e. h (ap suc e))

pub length-put : {X : Type 0} → (xs : List X) (i : ℕ) (v : X) → length (set xs i v) ≡ length xs
length-put [] i v = refl
length-put (x ∷ xs) zero v = refl
length-put (x ∷ xs) (suc i) v = ap suc (length-put xs i v)

walk-short : (f : ℕ) (next : List ℕ) (h : ℕ) → length (walk f next h) ≤ f
walk-short zero next h = omega arith
walk-short (suc f) next h = elim (cases_eq h END) [
  | inl e ↦ rw (eq-eqb h END e) (omega arith)
  | inr ne ↦ rw (ne_eqb h END ne) (let r = walk-short f next (slice_index_or next h END) in omega (arith, r))
]

list-short : (next heads : List ℕ) (s : ℕ) → length (list_at next heads s) ≤ length next
unfolding list_at
list-short next heads s = walk-short (length next) next (head_at heads s)

chain-walk : (next : List ℕ) (h : ℕ) (xs : List ℕ) (f : ℕ) → length next ≤ END → IsChain next h xs → length xs ≤ f → walk f next h ≡ xs
chain-walk next h [] zero n c l = refl
chain-walk next h [] (suc f) n c l = rw (eq-eqb h END c) refl
chain-walk next h (x ∷ xs) zero n c l = absurd (omega (arith, l))
chain-walk next h (x ∷ xs) (suc f) n c l =
    let ne : h ≢ END = λ e. absurd (omega (arith, e, c.0, c.1, n)) in
    rw (ne_eqb h END ne, c.0) (ap (λ r. x ∷ r) (chain-walk next (slice_index_or next x END) xs f n c.2 (omega (arith, l))))

-- the list at a place is the chain there
list-is : (next heads : List ℕ) (s : ℕ) (xs : List ℕ) → length next ≤ END → IsChain next (head_at heads s) xs → length xs ≤ length next → list_at next heads s ≡ xs
unfolding list_at
list-is next heads s xs n c l = chain-walk next (head_at heads s) xs (length next) n c l

chain-kept : (next : List ℕ) (n v h : ℕ) (xs : List ℕ) → (¬ Holds n xs) → IsChain next h xs → IsChain (set next n v) h xs
chain-kept next n v h [] out c = c
chain-kept next n v h (x ∷ xs) out c =
    let other : x ≢ n = λ e. out (inl (sym e)) in
    (c.0, (rw (length-put next n v) c.1), (rw (read-other next n x v END other) (chain-kept next n v _ xs (λ k. out (inr k)) c.2)))

chain-below : (next : List ℕ) (h : ℕ) (xs : List ℕ) → IsChain next h xs → AreBelow (length next) xs
chain-below next h [] c = tt
chain-below next h (x ∷ xs) c = (c.1, chain-below next (slice_index_or next x END) xs c.2)

-- a chain that doesn't end at once
record IsOpen (next : List ℕ) (h : ℕ) (xs : List ℕ) : Type 0 where
  rest : List ℕ
  is : xs ≡ h ∷ rest
  within : h < length next
  chain : IsChain next (slice_index_or next h END) rest

opened : (next : List ℕ) (h : ℕ) (xs : List ℕ) → IsChain next h xs → h ≢ END → IsOpen next h xs
opened next h [] c ne = absurd (ne c)
opened next h (x ∷ xs) c ne = record { rest = xs; is = ap (λ z. z ∷ xs) (sym c.0); within = rw c.0 c.1; chain = rw c.0 c.2 }

pub none-linked : (next heads : List ℕ) (s : ℕ) → AreLinked next heads → head_at heads s ≡ END → list_at next heads s ≡ []
none-linked next heads s l e = list-is next heads s [] l.narrow e (omega arith)

pub head-within : (next heads : List ℕ) (s : ℕ) → AreLinked next heads → head_at heads s ≢ END → head_at heads s < length next
head-within next heads s l ne = (opened next (head_at heads s) (list_at next heads s) (l.ends s) ne).within

pub popped : (next heads : List ℕ) (s v : ℕ) → AreLinked next heads → s < length heads → head_at heads s ≢ END → v ≡ slice_index_or next (head_at heads s) END → IsPopped next heads next (set heads s v) s (head_at heads s)
popped next heads s v l within ne e =
    let h = head_at heads s in
    let heads' = set heads s v in
    let o = opened next h (list_at next heads s) (l.ends s) ne in
    let short = list-short next heads s in
    let size : length (list_at next heads s) ≡ suc (length o.rest) = ap length o.is in
    let own : list_at next heads' s ≡ o.rest = list-is next heads' s o.rest l.narrow (rw (read-set heads s v END within, e) o.chain) (omega (arith, short, size)) in
    let other : (t : ℕ) → t ≢ s → list_at next heads' t ≡ list_at next heads t = λ t d. list-is next heads' t (list_at next heads t) l.narrow (rw (read-other heads s t v END d) (l.ends t)) (list-short next heads t) in
    let once : (¬ Holds h o.rest) × IsOnce o.rest = subst IsOnce o.is (l.once s) in
    let whole : (n : ℕ) → Holds n o.rest → Holds n (list_at next heads s) = λ n k. rw o.is (inr k) in
    record {
      linked = record {
        narrow = l.narrow;
        ends = λ t. elim (cases_eq t s) [
          | inl q ↦ rw (q, own, read-set heads s v END within, e) o.chain
          | inr d ↦ rw (other t d, read-other heads s t v END d) (l.ends t)
        ];
        once = λ t. elim (cases_eq t s) [
          | inl q ↦ rw (q, own) once.1
          | inr d ↦ rw (other t d) (l.once t)
        ];
        apart = λ t u n d a b.
            let a' : Holds n (list_at next heads t) = elim (cases_eq t s) [
              | inl q ↦ rw q (whole n (subst (Holds n) (ap (list_at next heads') q ∙ own) a))
              | inr z ↦ subst (Holds n) (other t z) a
            ] in
            let b' : Holds n (list_at next heads u) = elim (cases_eq u s) [
              | inl q ↦ rw q (whole n (subst (Holds n) (ap (list_at next heads') q ∙ own) b))
              | inr z ↦ subst (Holds n) (other u z) b
            ] in
            l.apart t u n d a' b';
      };
      length_is = refl;
      slots_are = length-put heads s v;
      first = o.is ∙ ap (λ r. h ∷ r) (sym own);
      others = other;
      within = o.within;
      free = record {
        at = λ t k. elim (cases_eq t s) [
          | inl q ↦ once.0 (subst (Holds h) (ap (list_at next heads') q ∙ own) k)
          | inr d ↦ l.apart t s h d (subst (Holds h) (other t d) k) (rw o.is (inl refl))
        ];
      };
    }

pub pushed : (next heads : List ℕ) (s n : ℕ) → AreLinked next heads → s < length heads → n < length next → IsFree next heads n → IsPushed next heads (set next n (head_at heads s)) (set heads s n) s n
pushed next heads s n l within room free =
    let h = head_at heads s in
    let next' = set next n h in
    let heads' = set heads s n in
    let len : length next' ≡ length next = length-put next n h in
    let narrow : length next' ≤ END = rw len l.narrow in
    let old = list_at next heads s in
    let kept : (t : ℕ) → IsChain next' (head_at heads t) (list_at next heads t) = λ t. chain-kept next n h (head_at heads t) (list_at next heads t) (free.at t) (l.ends t) in
    let chain : IsChain next' n (n ∷ old) = (refl, (rw len room), (rw (read-set next n h END room) (kept s))) in
    let once : IsOnce (n ∷ old) = (free.at s, l.once s) in
    let size : length (n ∷ old) ≤ length next' = rw len (few (length next) (n ∷ old) (room, chain-below next h old (l.ends s)) once) in
    let own : list_at next' heads' s ≡ n ∷ old = list-is next' heads' s (n ∷ old) narrow (rw (read-set heads s n END within) chain) size in
    let other : (t : ℕ) → t ≢ s → list_at next' heads' t ≡ list_at next heads t = λ t d. list-is next' heads' t (list_at next heads t) narrow (rw (read-other heads s t n END d) (kept t)) (rw len (list-short next heads t)) in
    let back : (t k : ℕ) → Holds k (list_at next' heads' t) → ((k ≡ n) × (t ≡ s)) ⊎ Holds k (list_at next heads t) = λ t k z. elim (cases_eq t s) [
      | inl q ↦ (let y : Holds k (n ∷ old) = subst (Holds k) (ap (list_at next' heads') q ∙ own) z in
          elim y [ inl e ↦ inl (e, q) | inr r ↦ inr (rw q r) ])
      | inr d ↦ inr (subst (Holds k) (other t d) z)
    ] in
    record {
      linked = record {
        narrow = narrow;
        ends = λ t. elim (cases_eq t s) [
          | inl q ↦ rw (q, own, read-set heads s n END within) chain
          | inr d ↦ rw (other t d, read-other heads s t n END d) (kept t)
        ];
        once = λ t. elim (cases_eq t s) [
          | inl q ↦ rw (q, own) once
          | inr d ↦ rw (other t d) (l.once t)
        ];
        apart = λ t u k d a b. elim (back t k a) [
          | inl p ↦ elim (back u k b) [
            | inl r ↦ d (p.1 ∙ sym r.1)
            | inr y ↦ free.at u (subst (λ z. Holds z (list_at next heads u)) p.0 y)
          ]
          | inr x ↦ elim (back u k b) [
            | inl r ↦ free.at t (subst (λ z. Holds z (list_at next heads t)) r.0 x)
            | inr y ↦ l.apart t u k d x y
          ]
        ];
      };
      length_is = len;
      slots_are = length-put heads s n;
      first = own;
      others = other;
    }

pub shifted : (next heads : List ℕ) (a b v : ℕ) → AreLinked next heads → a < length heads → b < length heads → v ≡ head_at heads a → list_at next heads b ≡ [] → IsShifted next heads next (set (set heads b v) a END) a b
shifted next heads a b v l wa wb e empty =
    let heads' = set (set heads b v) a END in
    let wa' : a < length (set heads b v) = rw (length-put heads b v) wa in
    let at_a : head_at heads' a ≡ END = read-set (set heads b v) a END END wa' in
    let at_b : b ≢ a → head_at heads' b ≡ head_at heads a = λ d. read-other (set heads b v) a b END END d ∙ read-set heads b v END wb ∙ e in
    let at_t : (t : ℕ) → t ≢ a → t ≢ b → head_at heads' t ≡ head_at heads t = λ t d f. read-other (set heads b v) a t END END d ∙ read-other heads b t v END f in
    let in_a : list_at next heads' a ≡ [] = list-is next heads' a [] l.narrow at_a (omega arith) in
    let in_b : b ≢ a → list_at next heads' b ≡ list_at next heads a = λ d. list-is next heads' b (list_at next heads a) l.narrow (rw (at_b d) (l.ends a)) (list-short next heads a) in
    let in_t : (t : ℕ) → t ≢ a → t ≢ b → list_at next heads' t ≡ list_at next heads t = λ t d f. list-is next heads' t (list_at next heads t) l.narrow (rw (at_t t d f) (l.ends t)) (list-short next heads t) in
    record {
      linked = record {
        narrow = l.narrow;
        ends = λ t. elim (cases_eq t a) [
          | inl q ↦ rw (q, in_a) at_a
          | inr d ↦ elim (cases_eq t b) [
            | inl q ↦ rw (q, in_b (λ z. d (q ∙ z)), at_b (λ z. d (q ∙ z))) (l.ends a)
            | inr f ↦ rw (in_t t d f, at_t t d f) (l.ends t)
          ]
        ];
        once = λ t. elim (cases_eq t a) [
          | inl q ↦ rw (q, in_a) tt
          | inr d ↦ elim (cases_eq t b) [
            | inl q ↦ rw (q, in_b (λ z. d (q ∙ z))) (l.once a)
            | inr f ↦ rw (in_t t d f) (l.once t)
          ]
        ];
        apart = λ t u n d p q.
            let none : (s : ℕ) → s ≡ a → Holds n (list_at next heads' s) → ⊥ = λ s z k. subst (Holds n) (ap (list_at next heads') z ∙ in_a) k in
            elim (cases_eq t a) [
              | inl z ↦ none t z p
              | inr ta ↦ elim (cases_eq u a) [
                | inl z ↦ none u z q
                | inr ua ↦ elim (cases_eq t b) [
                  | inl tb ↦ elim (cases_eq u b) [
                    | inl ub ↦ d (tb ∙ sym ub)
                    | inr ub ↦ l.apart a u n (λ z. ua (sym z)) (subst (Holds n) (ap (list_at next heads') tb ∙ in_b (λ z. ta (tb ∙ z))) p) (subst (Holds n) (in_t u ua ub) q)
                  ]
                  | inr tb ↦ elim (cases_eq u b) [
                    | inl ub ↦ l.apart t a n ta (subst (Holds n) (in_t t ta tb) p) (subst (Holds n) (ap (list_at next heads') ub ∙ in_b (λ z. ua (ub ∙ z))) q)
                    | inr ub ↦ l.apart t u n d (subst (Holds n) (in_t t ta tb) p) (subst (Holds n) (in_t u ua ub) q)
                  ]
                ]
              ]
            ];
      };
      length_is = refl;
      slots_are = length-put (set heads b v) a END ∙ length-put heads b v;
      moved = λ d. in_b (λ z. d (sym z));
      emptied = in_a;
      others = in_t;
    }

-- the same, with heads as they are read
pub read-at : {X : Type 0} → (xs : List X) (i : ℕ) (x d : X) → i < length xs → x ≡ get_or xs i x → get_or xs i d ≡ x
read-at [] i x d h e = absurd (omega arith)
read-at (y ∷ xs) zero x d h e = sym e
read-at (y ∷ xs) (suc i) x d h e = read-at xs i x d (omega (arith, h)) e

pub none-at : (next heads : List ℕ) (s h : ℕ) → AreLinked next heads → s < length heads → h ≡ get_or heads s h → h ≡ END → list_at next heads s ≡ []
none-at next heads s h l w e q = none-linked next heads s l (read-at heads s h END w e ∙ q)

pub within-at : (next heads : List ℕ) (s h : ℕ) → AreLinked next heads → s < length heads → h ≡ get_or heads s h → h ≢ END → h < length next
within-at next heads s h l w e ne =
    let q = read-at heads s h END w e in
    subst (λ z. z < length next) q (head-within next heads s l (λ z. ne (sym q ∙ z)))

pub popped-at : (next heads : List ℕ) (s h v : ℕ) → AreLinked next heads → s < length heads → h ≡ get_or heads s h → h ≢ END → v ≡ get_or next h v → IsPopped next heads next (set heads s v) s h
popped-at next heads s h v l w e ne f =
    let q = read-at heads s h END w e in
    let room = within-at next heads s h l w e ne in
    subst (λ z. IsPopped next heads next (set heads s v) s z) q (popped next heads s v l w (λ z. ne (sym q ∙ z)) (rw q (sym (read-at next h v END room f))))

pub pushed-at : (next heads : List ℕ) (s n h : ℕ) → AreLinked next heads → s < length heads → n < length next → IsFree next heads n → h ≡ get_or heads s h → IsPushed next heads (set next n h) (set heads s n) s n
pushed-at next heads s n h l w room free e =
    subst (λ z. IsPushed next heads (set next n z) (set heads s n) s n) (read-at heads s h END w e) (pushed next heads s n l w room free)

pub shifted-at : (next heads : List ℕ) (a b v : ℕ) → AreLinked next heads → a < length heads → b < length heads → v ≡ get_or heads a v → list_at next heads b ≡ [] → IsShifted next heads next (set (set heads b v) a END) a b
shifted-at next heads a b v l wa wb e empty = shifted next heads a b v l wa wb (sym (read-at heads a v END wa e)) empty

length-one : (xs : List ℕ) (x : ℕ) → length (xs ++ x ∷ []) ≡ suc (length xs)
length-one [] x = refl
length-one (y ∷ xs) x = ap suc (length-one xs x)

read-front : (xs : List ℕ) (x i d : ℕ) → i < length xs → get_or (xs ++ x ∷ []) i d ≡ get_or xs i d
read-front [] x i d h = absurd (omega (arith, h))
read-front (y ∷ xs) x zero d h = refl
read-front (y ∷ xs) x (suc i) d h = read-front xs x i d (omega (arith, h))

chain-grown : (next : List ℕ) (x h : ℕ) (xs : List ℕ) → IsChain next h xs → IsChain (next ++ x ∷ []) h xs
chain-grown next x h [] c = c
chain-grown next x h (y ∷ xs) c = (c.0, rw (length-one next x) (omega (arith, c.1)), rw (read-front next x y END c.1) (chain-grown next x _ xs c.2))

holds-below : (n m : ℕ) (xs : List ℕ) → AreBelow n xs → Holds m xs → m < n
holds-below n m [] b h = absurd h
holds-below n m (x ∷ xs) b h = elim h [ inl e ↦ rw e b.0 | inr r ↦ holds-below n m xs b.1 r ]

pub grown : (next heads : List ℕ) (x : ℕ) → AreLinked next heads → length next < END → IsGrown next heads (next ++ x ∷ []) heads
grown next heads x l few' =
    let next' = next ++ x ∷ [] in
    let size : length next' ≡ suc (length next) = length-one next x in
    let narrow : length next' ≤ END = rw size (omega (arith, few')) in
    let chain : (t : ℕ) → IsChain next' (head_at heads t) (list_at next heads t) = λ t. chain-grown next x (head_at heads t) (list_at next heads t) (l.ends t) in
    let same : (t : ℕ) → list_at next' heads t ≡ list_at next heads t = λ t. let s = list-short next heads t in list-is next' heads t (list_at next heads t) narrow (chain t) (rw size (omega (arith, s))) in
    record {
      linked = record {
        narrow = narrow;
        ends = λ t. subst (IsChain next' (head_at heads t)) (sym (same t)) (chain t);
        once = λ t. subst IsOnce (sym (same t)) (l.once t);
        apart = λ t u n d p q. l.apart t u n d (subst (Holds n) (same t) p) (subst (Holds n) (same u) q);
      };
      length_is = size;
      slots_are = refl;
      lists = same;
      free = record { at = λ t h. absurd (omega (arith, holds-below (length next) (length next) (list_at next heads t) (chain-below next (head_at heads t) (list_at next heads t) (l.ends t)) (subst (Holds (length next)) (same t) h))) };
    }
