-- Kinds of warnings that a text names.
use Rattle.std.proofs.Common.{◌≡◌, ◌∙◌, ℕ, List, [], ◌∷◌, ◌++◌, ap}
use Rattle.ps_hints.specs.declared.kind.Wanted.{Wanted}
use Rattle.psat_ask.specs.Kinds.{LeadsOn, LeavesOne, LeavesWanted, left_by, word_of}

-- the last kind
pub leaves_last : (word : List ℕ) (old new : Wanted) → LeavesOne word old new → LeavesWanted word old new
leaves_last word old new h = record { first = h.one; others = []; named = h.named; left = h.left }

-- one that a comma is behind
pub leads_on : (value first rest : List ℕ) (old left : Wanted) → value ≡ first ++ (44 ∷ rest) → LeavesOne first old left → LeadsOn value rest old left
leads_on value first rest old left e h = record {
  leads = λ new k. record {
    first = h.one;
    others = k.first ∷ k.others;
    named = e ∙ ap (λ (bs : List ℕ). bs ++ (44 ∷ rest)) h.named ∙ ap (λ (bs : List ℕ). word_of h.one ++ (44 ∷ bs)) k.named;
    left = k.left ∙ ap (left_by (k.first ∷ k.others)) h.left;
  };
}

-- nothing is left out yet
pub leads_none : (value : List ℕ) (old : Wanted) → LeadsOn value value old old
leads_none value old = record { leads = λ new h. h }

-- one kind more
pub leads_then : (value rest behind : List ℕ) (old left next : Wanted) → LeadsOn value rest old left → LeadsOn rest behind left next → LeadsOn value behind old next
leads_then value rest behind old left next h k = record { leads = λ new g. h.leads new (k.leads new g) }
