-- Kinds of lines, word by word.
use Rattle.std.specs.Prelude.{⊤}
use Rattle.std.proofs.Common.{◌≡◌, ℕ, ◌≤◌, ◌^◌, ℤ, pos, ◌≤ℤ◌, List, ◌∷◌, Result, sym, ap, subst, ◌∙◌}
use Rattle.std.specs.Prelude.{codes}
use Rattle.ps_meaning.specs.Formula.{World}
use Rattle.ps_table.specs.declared.col.Col.{Col}
use Rattle.ps_answer.specs.Words.{Number, Column}
use Rattle.ps_answer.specs.declared.item.LineItem.TheVariants as line
use Rattle.ps_answer.specs.declared.part.Part.TheVariants as part
use Rattle.ps_answer.specs.Faults.{first_of}
use Rattle.ps_answer.specs.Items.{count, IsPrintable, IsColWithin}
use Rattle.ps_reader.specs.declared.line_fault.LineFault.{LineFault}
use Rattle.ps_reader.specs.Cursor.{later}
use Rattle.ps_reader.specs.Read.{IsWordRead, both, IsItemRead}
use Rattle.ps_reader.specs.Truths.{IsWorldRead}
use Rattle.ps_reader.proofs.Sequences.{made}
use Rattle.ps_reader.proofs.Items.{IsEndRead, report_read, model_read, entry_read, dual_read, trace_read, pivot_read, priced_read}
use Rattle.ps_reader.proofs.OpeningLines.{query_read, pivots_read, conflicts_read}

-- `report`
pub report_item : (ws ws1 : List (List ℕ)) (a : List ℕ) (t : Result (Unit {0}) LineFault) (e : Result (Unit {0}) LineFault) (r : Result (Unit {0} × Unit {0}) LineFault)
    → a ≡ first_of ws → ws1 ≡ later ws
    → IsWordRead {A = Unit {0}} (λ u. count 1) (λ u. ⊤) (λ u. ⊤) a t → IsEndRead ws1 e
    → r ≡ both t e → IsItemRead part.AReport (codes "report" ∷ ws) (made (λ a. line.Report) r)
report_item ws ws1 a t e r p0 q0 h0 l f =
    subst (λ x. IsItemRead part.AReport (codes "report" ∷ ws) (made (λ a. line.Report) x)) (sym f)
    (report_read ws t e
    (subst (λ z. IsWordRead {A = Unit {0}} (λ u. count 1) (λ u. ⊤) (λ u. ⊤) z t) p0 h0)
    (subst (λ z. IsEndRead z e) q0 l))

-- `model`
pub model_item : (ws ws1 ws2 : List (List ℕ)) (a b : List ℕ) (t : Result (ℤ) LineFault) (u : Result (ℕ) LineFault) (e : Result (Unit {0}) LineFault) (r : Result (ℤ × (ℕ × Unit {0})) LineFault)
    → a ≡ first_of ws → ws1 ≡ later ws → b ≡ first_of ws1 → ws2 ≡ later ws1
    → IsWordRead Number (λ z. pos 0 ≤ℤ z) IsPrintable a t → IsWordRead count (λ n. ⊤) (λ n. n ≤ 101) b u → IsEndRead ws2 e
    → r ≡ both t (both u e) → IsItemRead part.AModel (codes "model" ∷ ws) (made (λ a. line.ModelHead a.0 a.1.0) r)
model_item ws ws1 ws2 a b t u e r p0 q0 p1 q1 h0 h1 l f =
    subst (λ x. IsItemRead part.AModel (codes "model" ∷ ws) (made (λ a. line.ModelHead a.0 a.1.0) x)) (sym f)
    (model_read ws t u e
    (subst (λ z. IsWordRead Number (λ z. pos 0 ≤ℤ z) IsPrintable z t) p0 h0)
    (subst (λ z. IsWordRead count (λ n. ⊤) (λ n. n ≤ 101) z u) (p1 ∙ ap first_of q0) h1)
    (subst (λ z. IsEndRead z e) (q1 ∙ ap later q0) l))

-- `w`
pub entry_item : (ws ws1 ws2 : List (List ℕ)) (a b : List ℕ) (t : Result (ℤ) LineFault) (u : Result (World) LineFault) (e : Result (Unit {0}) LineFault) (r : Result (ℤ × (World × Unit {0})) LineFault)
    → a ≡ first_of ws → ws1 ≡ later ws → b ≡ first_of ws1 → ws2 ≡ later ws1
    → IsWordRead Number (λ z. pos 0 ≤ℤ z) IsPrintable a t → IsWorldRead b u → IsEndRead ws2 e
    → r ≡ both t (both u e) → IsItemRead part.AnEntry (codes "w" ∷ ws) (made (λ a. line.Entry a.0 a.1.0) r)
entry_item ws ws1 ws2 a b t u e r p0 q0 p1 q1 h0 h1 l f =
    subst (λ x. IsItemRead part.AnEntry (codes "w" ∷ ws) (made (λ a. line.Entry a.0 a.1.0) x)) (sym f)
    (entry_read ws t u e
    (subst (λ z. IsWordRead Number (λ z. pos 0 ≤ℤ z) IsPrintable z t) p0 h0)
    (subst (λ z. IsWorldRead z u) (p1 ∙ ap first_of q0) h1)
    (subst (λ z. IsEndRead z e) (q1 ∙ ap later q0) l))

-- `dual`
pub dual_item : (ws ws1 ws2 ws3 : List (List ℕ)) (a b c : List ℕ) (t : Result (ℤ) LineFault) (u : Result (ℤ) LineFault) (v : Result (ℕ) LineFault) (e : Result (Unit {0}) LineFault) (r : Result (ℤ × (ℤ × (ℕ × Unit {0}))) LineFault)
    → a ≡ first_of ws → ws1 ≡ later ws → b ≡ first_of ws1 → ws2 ≡ later ws1 → c ≡ first_of ws2 → ws3 ≡ later ws2
    → IsWordRead Number (λ z. pos 0 ≤ℤ z) IsPrintable a t → IsWordRead Number (λ z. ⊤) IsPrintable b u → IsWordRead count (λ n. ⊤) (λ n. n ≤ 2 ^ 41) c v → IsEndRead ws3 e
    → r ≡ both t (both u (both v e)) → IsItemRead part.ADual (codes "dual" ∷ ws) (made (λ a. line.DualHead a.0 a.1.0 a.1.1.0) r)
dual_item ws ws1 ws2 ws3 a b c t u v e r p0 q0 p1 q1 p2 q2 h0 h1 h2 l f =
    subst (λ x. IsItemRead part.ADual (codes "dual" ∷ ws) (made (λ a. line.DualHead a.0 a.1.0 a.1.1.0) x)) (sym f)
    (dual_read ws t u v e
    (subst (λ z. IsWordRead Number (λ z. pos 0 ≤ℤ z) IsPrintable z t) p0 h0)
    (subst (λ z. IsWordRead Number (λ z. ⊤) IsPrintable z u) (p1 ∙ ap first_of q0) h1)
    (subst (λ z. IsWordRead count (λ n. ⊤) (λ n. n ≤ 2 ^ 41) z v) (p2 ∙ ap first_of (q1 ∙ ap later q0)) h2)
    (subst (λ z. IsEndRead z e) (q2 ∙ ap later (q1 ∙ ap later q0)) l))

-- `t`
pub trace_item : (ws ws1 : List (List ℕ)) (a : List ℕ) (t : Result (ℕ) LineFault) (e : Result (Unit {0}) LineFault) (r : Result (ℕ × Unit {0}) LineFault)
    → a ≡ first_of ws → ws1 ≡ later ws
    → IsWordRead count (λ n. ⊤) (λ n. n ≤ 2000001) a t → IsEndRead ws1 e
    → r ≡ both t e → IsItemRead part.ATrace (codes "t" ∷ ws) (made (λ a. line.TraceHead a.0) r)
trace_item ws ws1 a t e r p0 q0 h0 l f =
    subst (λ x. IsItemRead part.ATrace (codes "t" ∷ ws) (made (λ a. line.TraceHead a.0) x)) (sym f)
    (trace_read ws t e
    (subst (λ z. IsWordRead count (λ n. ⊤) (λ n. n ≤ 2000001) z t) p0 h0)
    (subst (λ z. IsEndRead z e) q0 l))

-- `p`
pub pivot_item : (ws ws1 ws2 : List (List ℕ)) (a b : List ℕ) (t : Result (Col) LineFault) (u : Result (ℕ) LineFault) (e : Result (Unit {0}) LineFault) (r : Result (Col × (ℕ × Unit {0})) LineFault)
    → a ≡ first_of ws → ws1 ≡ later ws → b ≡ first_of ws1 → ws2 ≡ later ws1
    → IsWordRead Column (λ c. ⊤) IsColWithin a t → IsWordRead count (λ n. ⊤) (λ n. n ≤ 100) b u → IsEndRead ws2 e
    → r ≡ both t (both u e) → IsItemRead part.AnEvent (codes "p" ∷ ws) (made (λ a. line.PivotLine a.0 a.1.0) r)
pivot_item ws ws1 ws2 a b t u e r p0 q0 p1 q1 h0 h1 l f =
    subst (λ x. IsItemRead part.AnEvent (codes "p" ∷ ws) (made (λ a. line.PivotLine a.0 a.1.0) x)) (sym f)
    (pivot_read ws t u e
    (subst (λ z. IsWordRead Column (λ c. ⊤) IsColWithin z t) p0 h0)
    (subst (λ z. IsWordRead count (λ n. ⊤) (λ n. n ≤ 100) z u) (p1 ∙ ap first_of q0) h1)
    (subst (λ z. IsEndRead z e) (q1 ∙ ap later q0) l))

-- `c`
pub priced_item : (ws ws1 : List (List ℕ)) (a : List ℕ) (t : Result (World) LineFault) (e : Result (Unit {0}) LineFault) (r : Result (World × Unit {0}) LineFault)
    → a ≡ first_of ws → ws1 ≡ later ws
    → IsWorldRead a t → IsEndRead ws1 e
    → r ≡ both t e → IsItemRead part.AnEvent (codes "c" ∷ ws) (made (λ a. line.PricedLine a.0) r)
priced_item ws ws1 a t e r p0 q0 h0 l f =
    subst (λ x. IsItemRead part.AnEvent (codes "c" ∷ ws) (made (λ a. line.PricedLine a.0) x)) (sym f)
    (priced_read ws t e
    (subst (λ z. IsWorldRead z t) p0 h0)
    (subst (λ z. IsEndRead z e) q0 l))

-- `query`
pub query_item : (j : ℕ) (ws ws1 : List (List ℕ)) (a : List ℕ) (t : Result (ℕ) LineFault) (e : Result (Unit {0}) LineFault) (r : Result (ℕ × Unit {0}) LineFault)
    → a ≡ first_of ws → ws1 ≡ later ws
    → IsWordRead count (λ n. n ≡ j) (λ n. n ≤ 16) a t → IsEndRead ws1 e
    → r ≡ both t e → IsItemRead (part.AQuery j) (codes "query" ∷ ws) (made (λ a. line.Query a.0) r)
query_item j ws ws1 a t e r p0 q0 h0 l f =
    subst (λ x. IsItemRead (part.AQuery j) (codes "query" ∷ ws) (made (λ a. line.Query a.0) x)) (sym f)
    (query_read j ws t e
    (subst (λ z. IsWordRead count (λ n. n ≡ j) (λ n. n ≤ 16) z t) p0 h0)
    (subst (λ z. IsEndRead z e) q0 l))

-- `open pivots`
pub pivots_item : (ws ws1 : List (List ℕ)) (a : List ℕ) (t : Result (ℕ) LineFault) (e : Result (Unit {0}) LineFault) (r : Result (ℕ × Unit {0}) LineFault)
    → a ≡ first_of ws → ws1 ≡ later ws
    → IsWordRead count (λ n. ⊤) (λ n. n ≤ 1000000) a t → IsEndRead ws1 e
    → r ≡ both t e → IsItemRead part.ACause (codes "open" ∷ codes "pivots" ∷ ws) (made (λ a. line.OpenPivots a.0) r)
pivots_item ws ws1 a t e r p0 q0 h0 l f =
    subst (λ x. IsItemRead part.ACause (codes "open" ∷ codes "pivots" ∷ ws) (made (λ a. line.OpenPivots a.0) x)) (sym f)
    (pivots_read ws t e
    (subst (λ z. IsWordRead count (λ n. ⊤) (λ n. n ≤ 1000000) z t) p0 h0)
    (subst (λ z. IsEndRead z e) q0 l))

-- `open conflicts`
pub conflicts_item : (ws ws1 : List (List ℕ)) (a : List ℕ) (t : Result (ℕ) LineFault) (e : Result (Unit {0}) LineFault) (r : Result (ℕ × Unit {0}) LineFault)
    → a ≡ first_of ws → ws1 ≡ later ws
    → IsWordRead count (λ n. ⊤) (λ n. n ≤ 2 ^ 40) a t → IsEndRead ws1 e
    → r ≡ both t e → IsItemRead part.ACause (codes "open" ∷ codes "conflicts" ∷ ws) (made (λ a. line.OpenConflicts a.0) r)
conflicts_item ws ws1 a t e r p0 q0 h0 l f =
    subst (λ x. IsItemRead part.ACause (codes "open" ∷ codes "conflicts" ∷ ws) (made (λ a. line.OpenConflicts a.0) x)) (sym f)
    (conflicts_read ws t e
    (subst (λ z. IsWordRead count (λ n. ⊤) (λ n. n ≤ 2 ^ 40) z t) p0 h0)
    (subst (λ z. IsEndRead z e) q0 l))
