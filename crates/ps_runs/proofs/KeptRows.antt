-- The rows of kept sentences, one sentence after the other.
use Rattle.std.proofs.Common.{◌≡◌, ℕ, suc, ◌+◌, ◌<◌, Bool, true, false, cond, List, [], ◌∷◌, ◌++◌, length, drop, get_or, All, sym, subst, ap, ◌∙◌, arith}
use Rattle.std.specs.Prelude.{is_some}
use Rattle.std.proofs.lemmas.List.Elements.{All-nil, All-cons, All-head, All-tail}
use Rattle.ps_formula.specs.declared.node.Node.{Node}
use Rattle.ps_problem.specs.declared.row.Row.{Row}
use Rattle.ps_problem.specs.declared.sentence.Sentence.{Sentence}
use Rattle.ps_problem.specs.declared.sentence.Sentence.TheVariants.{Plain, Linear}
use Rattle.ps_problem.specs.Problems.{Parts, AreParts, BoundIn, LinearIn, AreBounds, IsBoundIn, IsLinear, bounds_in, bounds_of_sentence}
use Rattle.ps_problem.specs.Rows.{HasSmallRights, rows_in}
use Rattle.ps_problem.proofs.BoundRows.{small-at}
use Rattle.ps_problem.proofs.Growth.{rows-append}
use Rattle.ps_runs.specs.Kept.{kept_of}
use Rattle.ps_runs.proofs.Kept.{kept-left, part-next}

-- the rows found are more by those of the next sentence, where it is kept
pub rows_next : (ks : List Bool) (ss : List Sentence) (i : ℕ) (k : Bool) (s : Sentence) (found more all : List Row) → i < length ks → i < length ss
    → more ≡ found ++ rows_in (kept_of (get_or ks i k ∷ []) (get_or ss i s ∷ [])) → found ++ rows_in (kept_of (drop i ks) (drop i ss)) ≡ all
    → more ++ rows_in (kept_of (drop (i + 1) ks) (drop (i + 1) ss)) ≡ all
rows_next ks ss i k s found more all inside there is h =
    let next : i + 1 ≡ suc i = omega arith in
    rw next
    (part-next found (rows_in (kept_of (get_or ks i k ∷ []) (get_or ss i s ∷ []))) (rows_in (kept_of (drop i ks) (drop i ss)))
    (rows_in (kept_of (drop (suc i) ks) (drop (suc i) ss))) all more is
    (ap rows_in (kept-left ks i k inside ss s there) ∙ rows-append (kept_of (get_or ks i k ∷ []) (get_or ss i s ∷ [])) (kept_of (drop (suc i) ks) (drop (suc i) ss))) h)

-- ---- right sides
all_right : {T : Type 0} (P : T → Type 0) (xs ys : List T) → All P (xs ++ ys) → All P ys
all_right P [] ys h = h
all_right P (x ∷ xs) ys h = all_right P xs ys (All-tail P x (xs ++ ys) h)

small_right : (ns : List Node) (s : Sentence) (rest : List BoundIn) → AreBounds ns (bounds_of_sentence s ++ rest) → HasSmallRights s
small_right ns (Plain first second) rest h = tt
small_right ns (Linear l) rest h =
    let is : IsLinear ns l = (All-head (IsBoundIn ns) (LinearIn l false) (cond (is_some l.upper) (LinearIn l true ∷ []) [] ++ rest) h).0 in
    let low = small-at ns l false is in
    let high = small-at ns l true is in (omega (arith, low), omega (arith, high))

small_rights : (ns : List Node) (ss : List Sentence) → AreBounds ns (bounds_in ss) → All HasSmallRights ss
small_rights ns [] h = All-nil HasSmallRights
small_rights ns (s ∷ ss) h =
    All-cons HasSmallRights s ss (small_right ns s (bounds_in ss) h) (small_rights ns ss (all_right (IsBoundIn ns) (bounds_of_sentence s) (bounds_in ss) h))

-- the right sides of a problem's sentences are within their limit
pub small_right_at : (p : Parts) (ss : List Sentence) (i : ℕ) (s : Sentence) → AreParts p → ss ≡ p.sentences → i < length ss → HasSmallRights (get_or ss i s)
small_right_at p ss i s are e there = subst (All HasSmallRights) (sym e) (small_rights p.nodes p.sentences are.bounds) i s there
