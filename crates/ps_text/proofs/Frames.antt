-- Joining what is begun in a formula: its tokens, its level, and what stays open.
use Rattle.std.proofs.Common.{◌≡◌, ℕ, suc, zero, ◌<◌, ◌≤◌, Bool, true, false, List, [], ◌∷◌, ◌++◌, length, refl, sym, subst, ◌∙◌, arith, add-one, append_assoc, true≢false}
use Rattle.std.specs.Prelude.{nat_le, if◌then◌else◌}
use Rattle.std.specs.List.{list_any}
use Rattle.ps_text.specs.Tokens.{Sign, Bang, Ampersand, Bar, Arrow, DoubleArrow}
use Rattle.ps_text.specs.Grammar.{FormulaSyntax, Not, And, Or, Implies, Iff, spelled, level, Nests}
use Rattle.ps_text.specs.ExpectedTokens.{is_group, without_nots, without_arrows}
use Rattle.ps_text.specs.BegunFormulas.{Frame, BegunNot, BegunGroup, BegunAnd, BegunOr, BegunImplies, BegunIff, frame_tokens, opened_of, required_level, own_level, joined, AreFrames, LastIsNoNot, IsNextOperand, joins}
use Rattle.ps_text.proofs.Levels.{test_le, test_lt}

-- what is begun last is joined, or stays begun
abbrev pub joined_if : ℕ → Frame → List Frame → FormulaSyntax → Bool → List Frame × FormulaSyntax
joined_if k x fs f b = if b then joins k fs (joined x f) else (x ∷ fs, f)

join_tokens : (x : Frame) (fs : List Frame) (f : FormulaSyntax) → 1 ≤ own_level x → frame_tokens (x ∷ fs) ++ spelled f ≡ frame_tokens fs ++ spelled (joined x f)
join_tokens BegunNot fs f h = append_assoc (frame_tokens fs) (Sign Bang ∷ []) (spelled f)
join_tokens BegunGroup fs f h = absurd (omega (arith, h))
join_tokens (BegunAnd g) fs f h = append_assoc (frame_tokens fs ++ spelled g) (Sign Ampersand ∷ []) (spelled f) ∙ append_assoc (frame_tokens fs) (spelled g) (Sign Ampersand ∷ spelled f)
join_tokens (BegunOr g) fs f h = append_assoc (frame_tokens fs ++ spelled g) (Sign Bar ∷ []) (spelled f) ∙ append_assoc (frame_tokens fs) (spelled g) (Sign Bar ∷ spelled f)
join_tokens (BegunImplies g) fs f h = append_assoc (frame_tokens fs ++ spelled g) (Sign Arrow ∷ []) (spelled f) ∙ append_assoc (frame_tokens fs) (spelled g) (Sign Arrow ∷ spelled f)
join_tokens (BegunIff g) fs f h = append_assoc (frame_tokens fs ++ spelled g) (Sign DoubleArrow ∷ []) (spelled f) ∙ append_assoc (frame_tokens fs) (spelled g) (Sign DoubleArrow ∷ spelled f)

-- how tightly the next operand has to bind is 5 at most
pub most_required : (fs : List Frame) → required_level fs ≤ 5
most_required [] = omega arith
most_required (BegunNot ∷ fs) = omega arith
most_required (BegunGroup ∷ fs) = omega arith
most_required (BegunAnd f ∷ fs) = omega arith
most_required (BegunOr f ∷ fs) = omega arith
most_required (BegunImplies f ∷ fs) = omega arith
most_required (BegunIff f ∷ fs) = omega arith

join_fits : (x : Frame) (fs : List Frame) (f : FormulaSyntax) → 1 ≤ own_level x → IsNextOperand (x ∷ fs) f → IsNextOperand fs (joined x f)
join_fits BegunGroup fs f h i = absurd (omega (arith, h))
join_fits BegunNot fs f h i = record { needed = most_required fs; formula = (i.needed, i.formula); nests = (i.frames.0, subst (λ k. Nests k f) (sym (add-one (length (opened_of fs)))) i.nests); frames = i.frames.1 }
join_fits (BegunAnd g) fs f h i = record { needed = i.frames.0; formula = (i.frames.1.tight, i.needed, i.frames.1.formula, i.formula); nests = (i.frames.1.nests, i.nests); frames = i.frames.2 }
join_fits (BegunOr g) fs f h i = record { needed = i.frames.0; formula = (i.frames.1.tight, i.needed, i.frames.1.formula, i.formula); nests = (i.frames.1.nests, i.nests); frames = i.frames.2 }
join_fits (BegunImplies g) fs f h i = record { needed = i.frames.0; formula = (i.frames.1.tight, i.needed, i.frames.1.formula, i.formula); nests = (i.frames.1.nests, i.frames.2, subst (λ k. Nests k f) (sym (add-one (length (opened_of fs)))) i.nests); frames = i.frames.3 }
join_fits (BegunIff g) fs f h i = record { needed = i.frames.0; formula = (i.frames.1.tight, i.needed, i.frames.1.formula, i.formula); nests = (i.frames.1.nests, i.nests); frames = i.frames.2 }

join_level : (x : Frame) (f : FormulaSyntax) → 1 ≤ own_level x → level (joined x f) ≡ own_level x
join_level BegunNot f h = refl
join_level BegunGroup f h = absurd (omega (arith, h))
join_level (BegunAnd g) f h = refl
join_level (BegunOr g) f h = refl
join_level (BegunImplies g) f h = refl
join_level (BegunIff g) f h = refl

-- what was begun and is joined stays as it is spelled
pub joins_tokens : (k : ℕ) (fs : List Frame) (f : FormulaSyntax) → 1 ≤ k → frame_tokens (joins k fs f).0 ++ spelled (joins k fs f).1 ≡ frame_tokens fs ++ spelled f
joins_tokens k [] f h = refl
joins_tokens k (x ∷ fs) f h = by (nat_le k (own_level x)) refl (joins_tokens k fs (joined x f) h)
  where
    by : (b : Bool) → nat_le k (own_level x) ≡ b → frame_tokens (joins k fs (joined x f)).0 ++ spelled (joins k fs (joined x f)).1 ≡ frame_tokens fs ++ spelled (joined x f)
        → frame_tokens (joined_if k x fs f b).0 ++ spelled (joined_if k x fs f b).1 ≡ frame_tokens (x ∷ fs) ++ spelled f
    by true e m = m ∙ sym (join_tokens x fs f (omega (arith, h, test_le k (own_level x) e)))
    by false e m = refl

pub joins_fits : (k : ℕ) (fs : List Frame) (f : FormulaSyntax) → 1 ≤ k → IsNextOperand fs f → IsNextOperand (joins k fs f).0 (joins k fs f).1
joins_fits k [] f h i = i
joins_fits k (x ∷ fs) f h i = by (nat_le k (own_level x)) refl (joins_fits k fs (joined x f) h)
  where
    by : (b : Bool) → nat_le k (own_level x) ≡ b → (IsNextOperand fs (joined x f) → IsNextOperand (joins k fs (joined x f)).0 (joins k fs (joined x f)).1) → IsNextOperand (joined_if k x fs f b).0 (joined_if k x fs f b).1
    by true e m = m (join_fits x fs f (omega (arith, h, test_le k (own_level x) e)) i)
    by false e m = i

pub joins_level : (k : ℕ) (fs : List Frame) (f : FormulaSyntax) → 1 ≤ k → k ≤ level f → k ≤ level (joins k fs f).1
joins_level k [] f h i = i
joins_level k (x ∷ fs) f h i = by (nat_le k (own_level x)) refl (joins_level k fs (joined x f) h)
  where
    by : (b : Bool) → nat_le k (own_level x) ≡ b → (k ≤ level (joined x f) → k ≤ level (joins k fs (joined x f)).1) → k ≤ level (joined_if k x fs f b).1
    by true e m = m (subst (λ l. k ≤ l) (sym (join_level x f (omega (arith, h, test_le k (own_level x) e)))) (test_le k (own_level x) e))
    by false e m = i

-- how tightly the next operand has to bind behind what isn't joined
abbrev pub need_over : ℕ → ℕ
need_over zero = 0
need_over (suc zero) = 1
need_over (suc (suc zero)) = 2
need_over (suc (suc (suc zero))) = 2
need_over (suc (suc (suc (suc zero)))) = 4
need_over (suc (suc (suc (suc (suc n))))) = 5

need_left : (k : ℕ) (x : Frame) (fs : List Frame) → own_level x < k → required_level (x ∷ fs) ≤ need_over k
need_left zero x fs h = absurd (omega (arith, h))
need_left (suc zero) BegunGroup fs h = omega arith
need_left (suc zero) BegunNot fs h = absurd (omega (arith, h))
need_left (suc zero) (BegunAnd g) fs h = absurd (omega (arith, h))
need_left (suc zero) (BegunOr g) fs h = absurd (omega (arith, h))
need_left (suc zero) (BegunImplies g) fs h = absurd (omega (arith, h))
need_left (suc zero) (BegunIff g) fs h = absurd (omega (arith, h))
need_left (suc (suc zero)) BegunGroup fs h = omega arith
need_left (suc (suc zero)) (BegunIff g) fs h = omega arith
need_left (suc (suc zero)) BegunNot fs h = absurd (omega (arith, h))
need_left (suc (suc zero)) (BegunAnd g) fs h = absurd (omega (arith, h))
need_left (suc (suc zero)) (BegunOr g) fs h = absurd (omega (arith, h))
need_left (suc (suc zero)) (BegunImplies g) fs h = absurd (omega (arith, h))
need_left (suc (suc (suc zero))) BegunGroup fs h = omega arith
need_left (suc (suc (suc zero))) (BegunIff g) fs h = omega arith
need_left (suc (suc (suc zero))) (BegunImplies g) fs h = omega arith
need_left (suc (suc (suc zero))) BegunNot fs h = absurd (omega (arith, h))
need_left (suc (suc (suc zero))) (BegunAnd g) fs h = absurd (omega (arith, h))
need_left (suc (suc (suc zero))) (BegunOr g) fs h = absurd (omega (arith, h))
need_left (suc (suc (suc (suc zero)))) BegunGroup fs h = omega arith
need_left (suc (suc (suc (suc zero)))) (BegunIff g) fs h = omega arith
need_left (suc (suc (suc (suc zero)))) (BegunImplies g) fs h = omega arith
need_left (suc (suc (suc (suc zero)))) (BegunOr g) fs h = omega arith
need_left (suc (suc (suc (suc zero)))) BegunNot fs h = absurd (omega (arith, h))
need_left (suc (suc (suc (suc zero)))) (BegunAnd g) fs h = absurd (omega (arith, h))
need_left (suc (suc (suc (suc (suc n))))) BegunGroup fs h = omega arith
need_left (suc (suc (suc (suc (suc n))))) (BegunIff g) fs h = omega arith
need_left (suc (suc (suc (suc (suc n))))) (BegunImplies g) fs h = omega arith
need_left (suc (suc (suc (suc (suc n))))) (BegunOr g) fs h = omega arith
need_left (suc (suc (suc (suc (suc n))))) BegunNot fs h = omega arith
need_left (suc (suc (suc (suc (suc n))))) (BegunAnd g) fs h = omega arith

pub joins_need : (k : ℕ) (fs : List Frame) (f : FormulaSyntax) → 1 ≤ need_over k → required_level (joins k fs f).0 ≤ need_over k
joins_need k [] f h = h
joins_need k (x ∷ fs) f h = by (nat_le k (own_level x)) refl (joins_need k fs (joined x f) h)
  where
    by : (b : Bool) → nat_le k (own_level x) ≡ b → required_level (joins k fs (joined x f)).0 ≤ need_over k → required_level (joined_if k x fs f b).0 ≤ need_over k
    by true e m = m
    by false e m = need_left k x fs (test_lt k (own_level x) e)

-- a `!` is joined whenever anything is
pub joins_settled : (k : ℕ) (fs : List Frame) (f : FormulaSyntax) → k ≤ 5 → LastIsNoNot (joins k fs f).0
joins_settled k [] f h = tt
joins_settled k (x ∷ fs) f h = by (nat_le k (own_level x)) refl (joins_settled k fs (joined x f) h)
  where
    settled : (x : Frame) → own_level x < 5 → LastIsNoNot (x ∷ fs)
    settled BegunNot h = absurd (omega (arith, h))
    settled BegunGroup h = tt
    settled (BegunAnd g) h = tt
    settled (BegunOr g) h = tt
    settled (BegunImplies g) h = tt
    settled (BegunIff g) h = tt

    by : (b : Bool) → nat_le k (own_level x) ≡ b → LastIsNoNot (joins k fs (joined x f)).0 → LastIsNoNot (joined_if k x fs f b).0
    by true e m = m
    by false e m = settled x (omega (arith, h, test_lt k (own_level x) e))

-- nothing that is open is a `!`, up to what is begun
pub loose : (fs : List Frame) → required_level fs ≤ 4 → AreFrames fs → (without_nots (opened_of fs) ≡ opened_of fs) × LastIsNoNot fs
loose [] n a = (refl, tt)
loose (BegunNot ∷ fs) n a = absurd (omega (arith, n))
loose (BegunGroup ∷ fs) n a = (refl, tt)
loose (BegunAnd g ∷ fs) n a = absurd (omega (arith, n))
loose (BegunOr g ∷ fs) n a = ((loose fs (omega (arith, a.0)) a.2).0, tt)
loose (BegunImplies g ∷ fs) n a = (refl, tt)
loose (BegunIff g ∷ fs) n a = ((loose fs (omega (arith, a.0)) a.2).0, tt)

-- behind an operand
pub nots_opened : (fs : List Frame) (f : FormulaSyntax) → AreFrames fs → opened_of (joins 5 fs f).0 ≡ without_nots (opened_of fs)
nots_opened [] f a = refl
nots_opened (BegunNot ∷ fs) f a = nots_opened fs (Not f) a.1
nots_opened (BegunGroup ∷ fs) f a = refl
nots_opened (BegunAnd g ∷ fs) f a = sym (loose fs (omega (arith, a.0)) a.2).0
nots_opened (BegunOr g ∷ fs) f a = sym (loose fs (omega (arith, a.0)) a.2).0
nots_opened (BegunImplies g ∷ fs) f a = refl
nots_opened (BegunIff g ∷ fs) f a = sym (loose fs (omega (arith, a.0)) a.2).0

-- before `&`
pub and_opened : (fs : List Frame) (f : FormulaSyntax) → LastIsNoNot fs → AreFrames fs → opened_of (joins 4 fs f).0 ≡ opened_of fs
and_opened [] f s a = refl
and_opened (BegunNot ∷ fs) f s a = absurd s
and_opened (BegunGroup ∷ fs) f s a = refl
and_opened (BegunAnd g ∷ fs) f s a = and_opened fs (And g f) (loose fs (omega (arith, a.0)) a.2).1 a.2
and_opened (BegunOr g ∷ fs) f s a = refl
and_opened (BegunImplies g ∷ fs) f s a = refl
and_opened (BegunIff g ∷ fs) f s a = refl

-- before `|` and `->`
pub or_opened : (fs : List Frame) (f : FormulaSyntax) → LastIsNoNot fs → AreFrames fs → opened_of (joins 3 fs f).0 ≡ opened_of fs
or_opened [] f s a = refl
or_opened (BegunNot ∷ fs) f s a = absurd s
or_opened (BegunGroup ∷ fs) f s a = refl
or_opened (BegunAnd g ∷ fs) f s a = or_opened fs (And g f) (loose fs (omega (arith, a.0)) a.2).1 a.2
or_opened (BegunOr g ∷ fs) f s a = or_opened fs (Or g f) (loose fs (omega (arith, a.0)) a.2).1 a.2
or_opened (BegunImplies g ∷ fs) f s a = refl
or_opened (BegunIff g ∷ fs) f s a = refl

-- before `<->`, `)` and `given`
pub all_opened : (fs : List Frame) (f : FormulaSyntax) → LastIsNoNot fs → AreFrames fs → opened_of (joins 1 fs f).0 ≡ without_arrows (opened_of fs)
all_opened [] f s a = refl
all_opened (BegunNot ∷ fs) f s a = absurd s
all_opened (BegunGroup ∷ fs) f s a = refl
all_opened (BegunAnd g ∷ fs) f s a = all_opened fs (And g f) (loose fs (omega (arith, a.0)) a.2).1 a.2
all_opened (BegunOr g ∷ fs) f s a = all_opened fs (Or g f) (loose fs (omega (arith, a.0)) a.2).1 a.2
all_opened (BegunImplies g ∷ fs) f s a = all_opened fs (Implies g f) (loose fs (omega (arith, a.0)) a.3).1 a.3
all_opened (BegunIff g ∷ fs) f s a = all_opened fs (Iff g f) (loose fs (omega (arith, a.0)) a.2).1 a.2

-- where no `(` is open, all is joined
pub all_joined : (fs : List Frame) (f : FormulaSyntax) → LastIsNoNot fs → AreFrames fs → list_any is_group (opened_of fs) ≡ false → (joins 1 fs f).0 ≡ []
all_joined [] f s a n = refl
all_joined (BegunNot ∷ fs) f s a n = absurd s
all_joined (BegunGroup ∷ fs) f s a n = absurd (true≢false n)
all_joined (BegunAnd g ∷ fs) f s a n = all_joined fs (And g f) (loose fs (omega (arith, a.0)) a.2).1 a.2 n
all_joined (BegunOr g ∷ fs) f s a n = all_joined fs (Or g f) (loose fs (omega (arith, a.0)) a.2).1 a.2 n
all_joined (BegunImplies g ∷ fs) f s a n = all_joined fs (Implies g f) (loose fs (omega (arith, a.0)) a.3).1 a.3 n
all_joined (BegunIff g ∷ fs) f s a n = all_joined fs (Iff g f) (loose fs (omega (arith, a.0)) a.2).1 a.2 n
