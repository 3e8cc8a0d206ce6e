-- Cells with changes.
use Rattle.std.proofs.Common.{◌≡◌, ◌≢◌, ℕ, zero, suc, ◌+◌, ◌*◌, ◌/◌, ◌%◌, ◌<◌, ◌≤◌, inl, inr, List, [], ◌∷◌, ◌++◌, length, get_or, set, take, get_or-set_same, get_or-set_other, arith, refl, sym, ap, ◌∙◌, subst}
use Rattle.std.proofs.lemmas.List.{length-set}
use Rattle.std.proofs.lemmas.List.Elements.{All-append, All-nil}
use Rattle.std.proofs.Math.Seq.{take-suc}
use Rattle.std.proofs.lemmas.Nat.{mod-mul-add, div-mul-add}
use Rattle.ps_meaning.specs.Rational.{Rational, zero_q}
use Rattle.ps_table.specs.declared.change.Change.{Change}
use Rattle.ps_table.specs.declared.pivot.Pivot.{Pivot}
use Rattle.std.proofs.lemmas.Bool.{cases_eq}
use Rattle.ps_meaning.specs.Wide.{Fits, size_limit}
use Rattle.ps_table.specs.Grids.{GridCells, cell_in, enters, pivoted_in, IsNarrowBeside, ColumnFits, LosesNothing, ArePivoted}
use Rattle.ps_table.specs.Changes.{written, AreInside, IsUpTo, IsUpToRow, IsUpToColumn}
use Rattle.ps_table.proofs.Narrow.{all_more}
use Rattle.ps_table.proofs.Zeros.{zero_scaled, own_kept, kept_value, kept_narrow}

pub written_length : (cells : List Rational) (changes : List Change) → length (written cells changes) ≡ length cells
written_length cells [] = refl
written_length cells (c ∷ cs) = written_length (set cells c.place c.entry) cs ∙ length-set cells c.place c.entry

-- one change more
pub written_more : (cells : List Rational) (cs : List Change) (c : Change) → written cells (cs ++ c ∷ []) ≡ set (written cells cs) c.place c.entry
written_more cells [] c = refl
written_more cells (b ∷ cs) c = written_more (set cells b.place b.entry) cs c

-- the next change in the list
pub written_next : (cells now : List Rational) (cs : List Change) (k : ℕ) (c : Change) → k < length cs → now ≡ written cells (take k cs) → c ≡ get_or cs k c
    → set now c.place c.entry ≡ written cells (take (suc k) cs)
written_next cells now cs k c l e ec =
    ap (λ zs. set zs c.place c.entry) e
    ∙ sym (written_more cells (take k cs) c)
    ∙ ap (λ d. written cells (take k cs ++ d ∷ [])) ec
    ∙ ap (written cells) (sym (take-suc cs k c l))

module _ (g : GridCells) (p : Pivot) (i j : ℕ) (cs : List Change) (row : i < g.rows) (up : IsUpTo g p (j * g.rows + i) cs) (narrow : IsNarrowBeside g p i j) where
  abbrev k : ℕ
  k = j * g.rows + i

  at_place : (P : ℕ → ℕ → Type 0) → P i j → P (k % g.rows) (k / g.rows)
  at_place P h = subst (λ a. P a (k / g.rows)) (sym (mod-mul-add j g.rows i row)) (subst (λ b. P i b) (sym (div-mul-add j g.rows i row)) h)

  more : (Q : ℕ → Type 0) → ((m : ℕ) → m < k → Q m) → Q k → (m : ℕ) → m < j * g.rows + suc i → Q m
  more Q h e = λ m l. all_more Q k h e m (omega (arith, l))

  -- the next cell stays
  pub up_kept : cell_in g i j ≡ pivoted_in g p i j → IsUpTo g p (j * g.rows + suc i) cs
  up_kept same = record {
    inside = up.inside;
    done = more (λ m. get_or (written g.cells cs) m zero_q ≡ pivoted_in g p (m % g.rows) (m / g.rows)) up.done
        (at_place (λ a b. get_or (written g.cells cs) k zero_q ≡ pivoted_in g p a b) (up.rest k (omega arith) ∙ same));
    rest = λ m l. up.rest m (omega (arith, l));
    narrow = more (λ m. IsNarrowBeside g p (m % g.rows) (m / g.rows)) up.narrow (at_place (IsNarrowBeside g p) narrow);
  }

  only : (c : Change) → c.place < length g.cells → AreInside g.cells (c ∷ [])
  only c h = λ m d l. let e : m ≡ 0 = omega (arith, l) in subst (λ (n : ℕ). (get_or (c ∷ []) n d).place < length g.cells) (sym e) h

  -- the next cell changes
  pub up_changed : (e : Rational) → k < length g.cells → e ≡ pivoted_in g p i j → IsUpTo g p (j * g.rows + suc i) (cs ++ (record { place = k; entry = e }) ∷ [])
  up_changed e within value =
      let c : Change = record { place = k; entry = e } in
      let w = written g.cells cs in
      let next : written g.cells (cs ++ c ∷ []) ≡ set w k e = written_more g.cells cs c in
      let hk : k < length w = omega (arith, written_length g.cells cs, within) in
      record {
        inside = All-append (λ (b : Change). b.place < length g.cells) cs (c ∷ []) up.inside (only c within);
        done = more (λ m. get_or (written g.cells (cs ++ c ∷ [])) m zero_q ≡ pivoted_in g p (m % g.rows) (m / g.rows))
            (λ m l. ap (λ zs. get_or zs m zero_q) next ∙ get_or-set_other w k m e zero_q (omega (arith, l)) ∙ up.done m l)
            (at_place (λ a b. get_or (written g.cells (cs ++ c ∷ [])) k zero_q ≡ pivoted_in g p a b)
            (ap (λ zs. get_or zs k zero_q) next ∙ get_or-set_same w k e zero_q hk ∙ value));
        rest = λ m l. ap (λ zs. get_or zs m zero_q) next ∙ get_or-set_other w k m e zero_q (omega (arith, l)) ∙ up.rest m (omega (arith, l));
        narrow = more (λ m. IsNarrowBeside g p (m % g.rows) (m / g.rows)) up.narrow (at_place (IsNarrowBeside g p) narrow);
      }

-- the next cell has a 0 in the pivot's column, and stays
pub up_zero : (g : GridCells) (p : Pivot) (i j : ℕ) (cs : List Change) → i < g.rows → i ≢ p.row → enters p i ≡ zero_q
    → Fits (cell_in g i j).over → (cell_in g i j).under < size_limit → IsUpToRow g p i j cs → IsUpToRow g p (suc i) j cs
up_zero g p i j cs row other nothing ho hu up = up_kept g p i j cs row up (λ _. kept_narrow g p i j (inr nothing) ho hu) (kept_value g p i j (inr nothing) other)

-- in a column with a 0 in the pivot's row all cells stay
module _ (g : GridCells) (p : Pivot) (j : ℕ) (cs : List Change) (zero_here : cell_in g p.row j ≡ zero_q) (fits : ColumnFits g j) (up : IsUpToColumn g p j cs) where
  nothing_lost : (i : ℕ) → LosesNothing g p i j
  nothing_lost i = inl (sym (zero_scaled (cell_in g p.row j) (enters p p.row) zero_here) ∙ zero_here)

  stays : (i : ℕ) → cell_in g i j ≡ pivoted_in g p i j
  stays i = elim (cases_eq i p.row) [
    | inl e ↦ own_kept g p i j e zero_here
    | inr ne ↦ kept_value g p i j (nothing_lost i) ne
  ]

  skipped_to : (n : ℕ) → n ≤ g.rows → IsUpToRow g p n j cs
  skipped_to zero h = subst (λ k. IsUpTo g p k cs) (omega arith) up
  skipped_to (suc n) h =
      let row : n < g.rows = omega arith in
      up_kept g p n j cs row (skipped_to n (omega arith)) (λ _. kept_narrow g p n j (nothing_lost n) (fits n row).0 (fits n row).1) (stays n)

  pub up_skipped : IsUpToColumn g p (suc j) cs
  up_skipped = subst (λ k. IsUpTo g p k cs) (omega arith) (skipped_to g.rows (omega arith))

-- the next cell changes, and its change was appended
pub up_pushed : (g : GridCells) (p : Pivot) (i j : ℕ) (cs ds : List Change) → i < g.rows → IsUpTo g p (j * g.rows + i) cs → IsNarrowBeside g p i j
    → (at : ℕ) (e : Rational) → at ≡ j * g.rows + i → at < length g.cells → e ≡ pivoted_in g p i j
    → ds ≡ cs ++ (record { place = at; entry = e }) ∷ [] → IsUpTo g p (j * g.rows + suc i) ds
up_pushed g p i j cs ds row up narrow at e ek within value items =
    subst (IsUpTo g p (j * g.rows + suc i)) (sym items)
    (subst (λ (b : ℕ). IsUpTo g p (j * g.rows + suc i) (cs ++ (record { place = b; entry = e }) ∷ [])) (sym ek)
    (up_changed g p i j cs row up narrow e (omega (arith, ek, within)) value))

pub up_none : (g : GridCells) (p : Pivot) (upto : ℕ) → upto ≡ 0 → IsUpTo g p upto []
up_none g p upto e = record {
  inside = All-nil (λ (b : Change). b.place < length g.cells);
  done = λ m l. absurd (omega (arith, l, e));
  rest = λ m l. refl;
  narrow = λ m l. absurd (omega (arith, l, e));
}

pub up_all : (g : GridCells) (p : Pivot) (upto : ℕ) (cs : List Change) → length g.cells ≡ upto → IsUpTo g p upto cs → ArePivoted g p (written g.cells cs)
up_all g p upto cs e up = record {
  count = written_length g.cells cs;
  entries = λ m l. up.done m (omega (arith, e, l));
}
