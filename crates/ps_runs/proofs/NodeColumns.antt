-- Columns, homes and costs by the truth values of nodes are those of the setting.
use Rattle.std.proofs.Common.{◌≡◌, ℕ, ℤ, pos, neg_ℤ, ◌+ℤ◌, ◌*ℤ◌, Bool, true, false, cond, Option, Some, None, List, [], ◌∷◌, map, refl, sym, ap, ◌∙◌}
use Rattle.ps_meaning.specs.declared.side.Side.{Side}
use Rattle.ps_meaning.specs.declared.side.Side.TheVariants.{AtLeast, AtMost, Exactly}
use Rattle.ps_meaning.specs.Formula.{World, is_true}
use Rattle.ps_meaning.specs.Rows as meaning
use Rattle.ps_meaning.specs.Rows.{indicator, terms_in, row_in}
use Rattle.ps_meaning.proofs.Integers.{mul-zero, mul-one}
use Rattle.ps_formula.specs.declared.node.Node.{Node}
use Rattle.ps_formula.specs.Nodes.{truths}
use Rattle.ps_formula.proofs.Trees.{truths-at}
use Rattle.ps_problem.specs.declared.row.Row.{Row}
use Rattle.ps_problem.specs.declared.query.Query as stored
use Rattle.ps_problem.specs.Problems.{Parts, IsBoth, tree_at, given_at, weights_at}
use Rattle.ps_table.specs.declared.home.Home.{Home}
use Rattle.ps_claims.specs.declared.claim_kind.ClaimKind.{ClaimKind}
use Rattle.ps_claims.specs.declared.claim_kind.ClaimKind.TheVariants.{Nothing, Lower, Upper}
use Rattle.ps_claims.proofs.NodeSums.{both-indicator}
use Rattle.ps_runs.specs.Columns as over
use Rattle.ps_problem.specs.Rows as rows
use Rattle.ps_problem.specs.Rows.{row_of, rows_in}
use Rattle.ps_runs.specs.Rows.{phase_of, entry_in, entries_of, is_exact, artificial_rows, home_cost, world_cost, both_of}
use Rattle.ps_runs.specs.Subjects.{Subject, setting_of, asked_in, given_in, both_in, IsAsked}
use Rattle.ps_runs.specs.Rows.{home_of, homes_of}
use Rattle.ps_runs.specs.Tables.{costs_for}
use Rattle.ps_runs.proofs.Ready.{lower_apart, upper_apart}

module _ (ns : List Node) (w : World) where
  indicator_at : (i : ℕ) → rows.indicator_of (truths ns w) i ≡ indicator (tree_at ns i) w
  indicator_at i = ap (λ b. cond b (pos 1) (pos 0)) (truths-at ns w i)

  given_is : (given : Option ℕ) → rows.given_indicator (truths ns w) given ≡ indicator (given_at ns given) w
  given_is None = refl
  given_is (Some i) = indicator_at i

  term_is : (t : ℕ × ℤ) → rows.term_over (truths ns w) t ≡ t.1 *ℤ indicator (tree_at ns t.0) w
  term_is t = ap (λ b. cond b t.1 (pos 0)) (truths-at ns w t.0) ∙ by (is_true (tree_at ns t.0) w)
    where
      by : (b : Bool) → cond b t.1 (pos 0) ≡ t.1 *ℤ cond b (pos 1) (pos 0)
      by true = sym (mul-one t.1)
      by false = sym (mul-zero t.1)

  terms_are : (ts : List (ℕ × ℤ)) → rows.terms_over (truths ns w) ts ≡ terms_in (weights_at ns ts) w
  terms_are [] = refl
  terms_are (t ∷ ts) = λ i. term_is t i +ℤ terms_are ts i

  row_is : (r : Row) → rows.row_over (truths ns w) r ≡ row_in (row_of ns r) w
  row_is r = ap (λ z. r.base +ℤ z) (terms_are r.terms)

  entries_are : (rs : List Row) → map (over.entry_over (truths ns w)) rs ≡ map (entry_in w) (map (row_of ns) rs)
  entries_are [] = refl
  entries_are (r ∷ rs) = λ i. rows.signed_by r.side (row_is r i) ∷ entries_are rs i

evidence_is : (p : Parts) (q : Option stored.Query) (w : World) → rows.given_indicator (truths p.nodes w) (given_in q) ≡ indicator (asked_in p q).evidence w
evidence_is p None w = refl
evidence_is p (Some q) w = given_is p.nodes w q.given

-- a world's column
pub column_is : (s : Subject) (w : World)
    → over.column_over (truths s.parts.nodes w) (rows_in s.parts.sentences) (given_in s.query) ≡ entries_of (setting_of s) w
column_is s w = λ i. evidence_is s.parts s.query w i ∷ entries_are s.parts.nodes w (rows_in s.parts.sentences) i

home_is : (side : Side) → over.home_for side ≡ home_of (is_exact side)
home_is AtLeast = refl
home_is AtMost = refl
home_is Exactly = refl

row_homes : (ns : List Node) (rs : List Row) → map (λ (r : Row). over.home_for r.side) rs ≡ map home_of (map (λ (r : meaning.Row). is_exact r.side) (map (row_of ns) rs))
row_homes ns [] = refl
row_homes ns (r ∷ rs) = λ i. home_is r.side i ∷ row_homes ns rs i

-- the homes
pub homes_are : (s : Subject) → over.homes_over (rows_in s.parts.sentences) ≡ homes_of (setting_of s)
homes_are s = λ i. home_of true ∷ row_homes s.parts.nodes (rows_in s.parts.sentences) i

home_cost_is : (kind : ClaimKind) (b : Bool) → over.home_cost (phase_of kind) (home_of b) ≡ home_cost kind b
home_cost_is Nothing true = refl
home_cost_is Nothing false = refl
home_cost_is Lower true = refl
home_cost_is Lower false = refl
home_cost_is Upper true = refl
home_cost_is Upper false = refl

home_costs_are : (kind : ClaimKind) (bs : List Bool) → map (over.home_cost (phase_of kind)) (map home_of bs) ≡ map (home_cost kind) bs
home_costs_are kind [] = refl
home_costs_are kind (b ∷ bs) = λ i. home_cost_is kind b i ∷ home_costs_are kind bs i

query_is : (p : Parts) (q : stored.Query) (w : World) → IsBoth p.nodes q.formula q.given q.both
    → rows.indicator_of (truths p.nodes w) q.both ≡ indicator (both_of (setting_of (record { parts = p; query = Some q }))) w
query_is p q w both = indicator_at p.nodes w q.both ∙ both-indicator p.nodes w q.formula q.given q.both both

world_cost_is : (kind : ClaimKind) (p : Parts) (q : Option stored.Query) (w : World) → IsAsked kind p q
    → over.cost_over (phase_of kind) (both_in q) (truths p.nodes w) ≡ world_cost kind (setting_of (record { parts = p; query = q })) w
world_cost_is Nothing p q w asked = refl
world_cost_is Lower p None w asked = absurd (lower_apart asked)
world_cost_is Upper p None w asked = absurd (upper_apart asked)
world_cost_is Lower p (Some q) w has = query_is p q w has.both_is
world_cost_is Upper p (Some q) w has = ap neg_ℤ (query_is p q w has.both_is)

-- the cost of a world
pub cost_is : (kind : ClaimKind) (s : Subject) (w : World) → IsAsked kind s.parts s.query
    → over.cost_over (phase_of kind) (both_in s.query) (truths s.parts.nodes w) ≡ world_cost kind (setting_of s) w
cost_is kind s w asked = world_cost_is kind s.parts s.query w asked

world_costs_are : (kind : ClaimKind) (s : Subject) (pool : List World) → IsAsked kind s.parts s.query
    → over.costs_over (phase_of kind) s.parts.nodes (both_in s.query) pool ≡ map (world_cost kind (setting_of s)) pool
world_costs_are kind s [] asked = refl
world_costs_are kind s (w ∷ pool) asked = λ i. cost_is kind s w asked i ∷ world_costs_are kind s pool asked i

-- the costs of a phase
pub costs_are : (kind : ClaimKind) (s : Subject) (pool : List World) (kinds : List Home) → IsAsked kind s.parts s.query → kinds ≡ homes_of (setting_of s)
    → record { homes = map (over.home_cost (phase_of kind)) kinds; worlds = over.costs_over (phase_of kind) s.parts.nodes (both_in s.query) pool } ≡ costs_for kind (setting_of s) pool
costs_are kind s pool kinds asked e = λ i. record {
  homes = (ap (map (over.home_cost (phase_of kind))) e ∙ home_costs_are kind (artificial_rows (setting_of s))) i;
  worlds = world_costs_are kind s pool asked i;
}
