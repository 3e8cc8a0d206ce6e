-- What is begun of a formula: each operator that waits for its last operand, with its first one.
use Rattle.std.specs.Prelude.{ℕ, ◌<◌, ◌≤◌, nat_le, if◌then◌else◌, List, [], ◌∷◌, ◌++◌, length}
use Rattle.ps_text.specs.declared.limits.TheConstants.{MOST_OPEN}
use Rattle.ps_text.specs.Tokens.{Token, Sign, Open, Bang, Ampersand, Bar, Arrow, DoubleArrow}
use Rattle.ps_text.specs.Grammar.{FormulaSyntax, Not, Group, And, Or, Implies, Iff, spelled, level, IsWellFormed, Nests}
use Rattle.ps_text.specs.declared.part.Opening.{Opening}
use Rattle.ps_text.specs.declared.part.Opening.TheVariants as opening

-- a `!`, a `(`, or a connective behind its left operand; in a list of them the last begun stands first
pub data Frame : Type 0 where
  BegunNot BegunGroup : Frame
  BegunAnd BegunOr BegunImplies BegunIff : (left : FormulaSyntax) → Frame

-- the tokens of what is begun
abbrev pub frame_tokens : List Frame → List Token
frame_tokens [] = []
frame_tokens (BegunNot ∷ fs) = frame_tokens fs ++ Sign Bang ∷ []
frame_tokens (BegunGroup ∷ fs) = frame_tokens fs ++ Sign Open ∷ []
frame_tokens (BegunAnd f ∷ fs) = frame_tokens fs ++ spelled f ++ Sign Ampersand ∷ []
frame_tokens (BegunOr f ∷ fs) = frame_tokens fs ++ spelled f ++ Sign Bar ∷ []
frame_tokens (BegunImplies f ∷ fs) = frame_tokens fs ++ spelled f ++ Sign Arrow ∷ []
frame_tokens (BegunIff f ∷ fs) = frame_tokens fs ++ spelled f ++ Sign DoubleArrow ∷ []

-- each `!`, `(` and `->` that is open, the last first
abbrev pub opened_of : List Frame → List Opening
opened_of [] = []
opened_of (BegunNot ∷ fs) = opening.Not ∷ opened_of fs
opened_of (BegunGroup ∷ fs) = opening.Group ∷ opened_of fs
opened_of (BegunImplies f ∷ fs) = opening.Arrow ∷ opened_of fs
opened_of (x ∷ fs) = opened_of fs

-- how tightly the next operand has to bind
abbrev pub required_level : List Frame → ℕ
required_level [] = 1
required_level (BegunGroup ∷ fs) = 1
required_level (BegunIff f ∷ fs) = 2
required_level (BegunImplies f ∷ fs) = 2
required_level (BegunOr f ∷ fs) = 4
required_level (BegunAnd f ∷ fs) = 5
required_level (BegunNot ∷ fs) = 5

-- how tightly what is begun binds, once it has its last operand; 0 for a `(`, which no operand ends
abbrev pub own_level : Frame → ℕ
own_level BegunGroup = 0
own_level (BegunIff f) = 1
own_level (BegunImplies f) = 2
own_level (BegunOr f) = 3
own_level (BegunAnd f) = 4
own_level BegunNot = 5

-- what is begun, with its last operand
abbrev pub joined : Frame → FormulaSyntax → FormulaSyntax
joined BegunNot f = Not f
joined BegunGroup f = Group f
joined (BegunAnd g) f = And g f
joined (BegunOr g) f = Or g f
joined (BegunImplies g) f = Implies g f
joined (BegunIff g) f = Iff g f

-- a first operand that binds at least so tightly, behind what is begun before it
pub record IsFirstOperand (f : FormulaSyntax) (least : ℕ) (fs : List Frame) : Type 0 where
  pub tight : least ≤ level f
  pub formula : IsWellFormed f
  pub nests : Nests (length (opened_of fs)) f

-- all that is begun is within the grammar's levels and limits
abbrev pub AreFrames : List Frame → Type 0
AreFrames [] = Unit {0}
AreFrames (BegunNot ∷ fs) = (length (opened_of fs) < MOST_OPEN) × AreFrames fs
AreFrames (BegunGroup ∷ fs) = (length (opened_of fs) < MOST_OPEN) × AreFrames fs
AreFrames (BegunAnd f ∷ fs) = (required_level fs ≤ 4) × IsFirstOperand f 4 fs × AreFrames fs
AreFrames (BegunOr f ∷ fs) = (required_level fs ≤ 3) × IsFirstOperand f 3 fs × AreFrames fs
AreFrames (BegunImplies f ∷ fs) = (required_level fs ≤ 2) × IsFirstOperand f 3 fs
    × (length (opened_of fs) < MOST_OPEN) × AreFrames fs
AreFrames (BegunIff f ∷ fs) = (required_level fs ≤ 1) × IsFirstOperand f 1 fs × AreFrames fs

-- the last begun is no `!`
abbrev pub LastIsNoNot : List Frame → Type 0
LastIsNoNot (BegunNot ∷ fs) = ⊥
LastIsNoNot fs = Unit {0}

-- a formula that may be the next operand
pub record IsNextOperand (fs : List Frame) (f : FormulaSyntax) : Type 0 where
  pub needed : required_level fs ≤ level f
  pub formula : IsWellFormed f
  pub nests : Nests (length (opened_of fs)) f
  pub frames : AreFrames fs

-- a formula joined with all that was begun last and binds at least so tightly: what stays begun, and the formula
abbrev pub joins : ℕ → List Frame → FormulaSyntax → List Frame × FormulaSyntax
joins k [] f = ([], f)
joins k (x ∷ fs) f = if nat_le k (own_level x) then joins k fs (joined x f) else (x ∷ fs, f)
