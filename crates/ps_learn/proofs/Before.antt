-- Whether an entry of the last level is marked before a place.
use Rattle.std.proofs.Common.{inl, inr, ◌≡◌, ◌≢◌, ℕ, ◌-◌, ◌<◌, ◌≤◌, Bool, true, false, Some, List, length, get_or, arith, refl, sym, ap, ◌∙◌}
use Rattle.std.specs.Prelude.{slice_get}
use Rattle.std.proofs.lemmas.Bool.{cases_lt}
use Rattle.std.proofs.lemmas.Option.{slice_get_read}
use Rattle.ps_learn.specs.Trails.{TrailEntry, Trail, decisions, level, AreLevels}
use Rattle.ps_learn.specs.Causes.{Marks, is_marked}
use Rattle.ps_learn.specs.Keeping.{NoneIsMarked, SomeIsMarked, IsToExplain}
use Rattle.ps_learn.proofs.Levels.{levels-rise}
use Rattle.ps_learn.proofs.TrailDistinct.{level-most}
use Rattle.ps_learn.specs.Marks.{IsMarkedBefore}

-- no entry of this level between two places is marked
pub record NoneIsMarkedFrom (level : ℕ) (es : List TrailEntry) (marks : Marks) (j i : ℕ) : Type 0 where
  pub at : (k : ℕ) (d : TrailEntry) → j ≤ k → k < i → slice_get es k ≡ Some d → d.level ≡ level → is_marked marks d.lit ≡ false
  pub within : j ≤ i

pub before-first : (level : ℕ) (es : List TrailEntry) (marks : Marks) (i : ℕ) → NoneIsMarkedFrom level es marks i i
before-first level es marks i = record { at = λ k d p q. absurd (omega (arith, p, q)); within = omega arith }

same_entry : (es : List TrailEntry) (j k : ℕ) (d e : TrailEntry) → j ≡ k → slice_get es j ≡ Some e → slice_get es k ≡ Some d → d ≡ e
same_entry es j k d e q p r = let z : Some d ≡ Some e = sym r ∙ ap (slice_get es) (sym q) ∙ p in cc z

-- one entry back that isn't marked
pub before-next : (level : ℕ) (es : List TrailEntry) (marks : Marks) (j i : ℕ) (e : TrailEntry) (b : Bool) → NoneIsMarkedFrom level es marks j i → 0 < j → j ≤ length es → e ≡ get_or es (j - 1) e → b ≡ is_marked marks e.lit → b ≡ false → NoneIsMarkedFrom level es marks (j - 1) i
before-next level es marks j i e b n p w at q f = record {
  at = λ k d le lt there own. elim (cases_lt k j) [
    | inl below ↦ (let z : j - 1 ≡ k = omega (arith, le, below) in let y = same_entry es (j - 1) k d e z (slice_get_read es (length es) (j - 1) e refl (omega (arith, p, w)) at) there in ap (λ (x : TrailEntry). is_marked marks x.lit) y ∙ sym q ∙ f)
    | inr ge ↦ n.at k d (omega (arith, ge)) lt there own
  ];
  within = omega (arith, n.within);
}

-- none at all
pub before-end : (t : Trail) (es : List TrailEntry) (top : ℕ) (marks : Marks) (j i : ℕ) → es ≡ t.entries → top ≡ level t → NoneIsMarkedFrom top es marks j i → j ≤ 0 → NoneIsMarked (level t) t.entries marks i
before-end t es top marks j i e q n z = record { at = λ k d lt there own. n.at k d (omega (arith, z)) lt (rw e there) (own ∙ sym q) }

-- an entry of another level: those before it are of none
pub before-other : (t : Trail) (es : List TrailEntry) (top : ℕ) (marks : Marks) (j i : ℕ) (e : TrailEntry) → es ≡ t.entries → top ≡ level t → AreLevels t.entries → NoneIsMarkedFrom top es marks j i → 0 < j → j ≤ length es → e ≡ get_or es (j - 1) e → e.level ≢ top → NoneIsMarked (level t) t.entries marks i
before-other t es top marks j i e r q g n p w at ne =
    let f : AreLevels es = rw r g in
    let there = slice_get_read es (length es) (j - 1) e refl (omega (arith, p, w)) at in
    let most : e.level ≤ decisions es = level-most es (j - 1) e f there in
    let less : e.level < top = omega (arith, most, q ∙ ap decisions (sym r), ne) in
    record {
      at = λ k d lt here own. elim (cases_lt k j) [
        | inl below ↦ absurd (omega (arith, less, own, q, (levels-rise es f).at k (j - 1) d e (omega (arith, below)) (rw r here) there))
        | inr ge ↦ n.at k d (omega (arith, ge)) lt (rw r here) (own ∙ sym q)
      ];
    }

-- an entry of the level that is marked
pub before-here : (t : Trail) (es : List TrailEntry) (top : ℕ) (marks : Marks) (j i : ℕ) (e : TrailEntry) (b : Bool) → es ≡ t.entries → top ≡ level t → 0 < j → j ≤ i → j ≤ length es → e ≡ get_or es (j - 1) e → e.level ≡ top → b ≡ is_marked marks e.lit → b ≡ true → SomeIsMarked (level t) t.entries marks i
before-here t es top marks j i e b r q p le w at own m h = record {
  place = j - 1;
  entry = e;
  before = omega (arith, p, le);
  there = rw (← r) (slice_get_read es (length es) (j - 1) e refl (omega (arith, p, w)) at);
  level_is = own ∙ q;
  marked = sym m ∙ h;
}

-- with the entry's own level
pub to_explain : (t : Trail) (marks : Marks) (i : ℕ) (e : TrailEntry) (b : Bool) → IsMarkedBefore t marks i b → e.level ≢ 0 → e.level ≡ level t → IsToExplain (level t) t.entries marks i e b
to_explain t marks i e true m z q = inr (q, m)
to_explain t marks i e false m z q = (omega (arith, z), λ _. m)
