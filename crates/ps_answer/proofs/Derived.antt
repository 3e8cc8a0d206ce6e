-- Lines that are due up to the end are those of an answer.
use Rattle.std.proofs.Common.{◌≡◌, ℕ, zero, suc, ◌==◌, ◌≤◌, ◌^◌, length-append, Bool, true, false, List, [], ◌∷◌, ◌++◌, length, map, None, Some, refl, sym, ap, ◌∙◌, append_assoc, arith}
use Rattle.std.specs.Prelude.{if◌then◌else◌}
use Rattle.std.specs.List.{AllByRecursion}
use Rattle.std.proofs.lemmas.Option.{none-some, same_Some}
use Rattle.ps_table.specs.declared.event.Event.{Event}
use Rattle.ps_table.specs.declared.event.Event.TheVariants.{Pivot, Priced}
use Rattle.ps_answer.specs.declared.item.LineItem.{LineItem}
use Rattle.ps_answer.specs.declared.item.LineItem.TheVariants as line
use Rattle.ps_answer.specs.declared.answer.Cause.TheVariants.{Pivots, Conflicts, Wide}
use Rattle.ps_answer.specs.declared.answer.Verdict.TheVariants.{Consistent, Inconsistent, Open}
use Rattle.ps_answer.specs.declared.answer.SideAnswer.{SideAnswer}
use Rattle.ps_answer.specs.declared.answer.SideAnswer.TheVariants as side
use Rattle.ps_answer.specs.declared.answer.QueryAnswer.TheVariants as query
use Rattle.ps_answer.specs.declared.answer.QueryPart.{QueryPart}
use Rattle.ps_answer.specs.declared.answer.Answer.{Answer}
use Rattle.ps_answer.specs.declared.item.Ratio.{Ratio}
use Rattle.ps_meaning.specs.Rational.{Rational}
use Rattle.std.proofs.lemmas.Bool.{eqb-true}
use Rattle.ps_answer.specs.Items.{IsProper, IsWithin, IsReducedWithin, IsRatioWithin}
use Rattle.ps_answer.specs.Answers.{entry_item, event_item, model_items, dual_items, trace_items, cause_items, verdict_items, side_items, query_items, part_items, answer_items, IsCounted, IsVerdictCounted, IsSideCounted, IsQueryCounted, ArePartsCounted, IsAnswerCounted}
use Rattle.ps_answer.specs.declared.part.Part.{Part}
use Rattle.ps_answer.specs.declared.part.Part.TheVariants.{AVerdict, AModel, AnEntry, ADual, AStep, ACause, ATrace, AnEvent, AnAnswer, ASide, AQuery}
use Rattle.ps_answer.specs.ExpectedParts.{many, behind, behind_cause, and_then, at_start, due_behind}

-- lines that are due, up to the end, and within the limits
pub record Complete (due : List Part) (items : List LineItem) : Type 0 where
  pub due_is : due_behind due items ≡ Some []
  pub good : AllByRecursion (λ i. IsProper i × IsWithin i) items

-- lines are first those of a value, and then those that are due after it
pub record Splits {X : Type 0} (P : X → Type 0) (items_of : X → List LineItem) (due : List Part) (items : List LineItem) : Type 0 where
  pub value : X
  pub more : List LineItem
  pub is : items ≡ items_of value ++ more
  pub holds : P value
  pub rest : Complete due more

not_end : {p : Part} {due : List Part} → Some (p ∷ due) ≡ Some [] → ⊥
not_end {p} {due} e = absurd (omega (arith, ap length (same_Some (p ∷ due) [] e)))

abbrev pub AsMany : {X : Type 0} → ℕ → List X → Type 0
AsMany n xs = length xs ≡ n

-- the entries of a model
pub entries : (n : ℕ) (due : List Part) (items : List LineItem) → Complete (many n AnEntry due) items → Splits (AsMany n) (map entry_item) due items
unfolding behind
entries zero due items c = record { value = []; more = items; is = refl; holds = refl; rest = c }
entries (suc n) due [] c = absurd (not_end c.due_is)
entries (suc n) due (line.Entry weight world ∷ is) c =
    let r = entries n due is (record { due_is = c.due_is; good = c.good.1 }) in record {
      value = record { weight = weight; world = world } ∷ r.value;
      more = r.more;
      is = ap (λ l. line.Entry weight world ∷ l) r.is;
      holds = ap suc r.holds;
      rest = r.rest;
    }
entries (suc n) due (i ∷ is) c = absurd (none-some _ c.due_is)

-- a model
pub a_model : (due : List Part) (items : List LineItem) → Complete (AModel ∷ due) items → Splits (λ m. Unit {0}) model_items due items
unfolding behind
a_model due [] c = absurd (not_end c.due_is)
a_model due (line.ModelHead total n ∷ is) c =
    let r = entries n due is (record { due_is = c.due_is; good = c.good.1 }) in record {
      value = record { total = total; worlds = r.value };
      more = r.more;
      is = ap (λ k. line.ModelHead total k ∷ is) (sym r.holds) ∙ ap (λ l. line.ModelHead total (length r.value) ∷ l) r.is;
      holds = tt;
      rest = r.rest;
    }
a_model due (i ∷ is) c = absurd (none-some _ c.due_is)

-- steps, and a dual
pub steps : (n : ℕ) (due : List Part) (items : List LineItem) → Complete (many n AStep due) items → Splits (AsMany n) (map line.StepLine) due items
unfolding behind
steps zero due items c = record { value = []; more = items; is = refl; holds = refl; rest = c }
steps (suc n) due [] c = absurd (not_end c.due_is)
steps (suc n) due (line.StepLine s ∷ is) c =
    let r = steps n due is (record { due_is = c.due_is; good = c.good.1 }) in record {
      value = s ∷ r.value;
      more = r.more;
      is = ap (λ l. line.StepLine s ∷ l) r.is;
      holds = ap suc r.holds;
      rest = r.rest;
    }
steps (suc n) due (i ∷ is) c = absurd (none-some _ c.due_is)

pub a_dual : (due : List Part) (items : List LineItem) → Complete (ADual ∷ due) items → Splits (λ d. Unit {0}) dual_items due items
unfolding behind
a_dual due [] c = absurd (not_end c.due_is)
a_dual due (line.DualHead top head n ∷ []) c = absurd (not_end c.due_is)
a_dual due (line.DualHead top head n ∷ line.Rows rows ∷ is) c =
    let r = steps n due is (record { due_is = c.due_is; good = c.good.1.1 }) in record {
      value = record { top = top; head = head; rows = rows; steps = r.value };
      more = r.more;
      is = ap (λ k. line.DualHead top head k ∷ line.Rows rows ∷ is) (sym r.holds) ∙ ap (λ l. line.DualHead top head (length r.value) ∷ line.Rows rows ∷ l) r.is;
      holds = tt;
      rest = r.rest;
    }
a_dual due (line.DualHead top head n ∷ i ∷ is) c = absurd (none-some _ c.due_is)
a_dual due (i ∷ is) c = absurd (none-some _ c.due_is)

-- events, and a trace
pub events : (n : ℕ) (due : List Part) (items : List LineItem) → Complete (many n AnEvent due) items → Splits (AsMany n) (map event_item) due items
unfolding behind
events zero due items c = record { value = []; more = items; is = refl; holds = refl; rest = c }
events (suc n) due [] c = absurd (not_end c.due_is)
events (suc n) due (line.PivotLine enter leave ∷ is) c =
    let r = events n due is (record { due_is = c.due_is; good = c.good.1 }) in record {
      value = Pivot enter leave ∷ r.value;
      more = r.more;
      is = ap (λ l. line.PivotLine enter leave ∷ l) r.is;
      holds = ap suc r.holds;
      rest = r.rest;
    }
events (suc n) due (line.PricedLine world ∷ is) c =
    let r = events n due is (record { due_is = c.due_is; good = c.good.1 }) in record {
      value = Priced world ∷ r.value;
      more = r.more;
      is = ap (λ l. line.PricedLine world ∷ l) r.is;
      holds = ap suc r.holds;
      rest = r.rest;
    }
events (suc n) due (i ∷ is) c = absurd (none-some _ c.due_is)

pub a_trace : (due : List Part) (items : List LineItem) → Complete (ATrace ∷ due) items → Splits (λ t. Unit {0}) trace_items due items
unfolding behind
a_trace due [] c = absurd (not_end c.due_is)
a_trace due (line.TraceHead n ∷ is) c =
    let r = events n due is (record { due_is = c.due_is; good = c.good.1 }) in record {
      value = r.value;
      more = r.more;
      is = ap (λ k. line.TraceHead k ∷ is) (sym r.holds) ∙ ap (λ l. line.TraceHead (length r.value) ∷ l) r.is;
      holds = tt;
      rest = r.rest;
    }
a_trace due (i ∷ is) c = absurd (none-some _ c.due_is)

-- a fraction within the limit is in lowest terms
abbrev pub rational_of : (limit : ℕ) (q : Ratio) → IsReducedWithin limit q → IsRatioWithin limit q → Rational
rational_of limit q r w = record { over = q.over; under = q.under; lowest = record { positive = omega (arith, r.0); coprime = r.1 w.0 w.1 } }

-- a cause
pub a_cause_with : (due : List Part) (i : LineItem) (is : List LineItem) → and_then (behind_cause i due) (λ more. due_behind more is) ≡ Some []
    → AllByRecursion (λ i. IsProper i × IsWithin i) (i ∷ is) → Splits IsCounted cause_items due (i ∷ is)
unfolding behind
a_cause_with due (line.OpenPivots limit) is h g = record { value = Pivots limit; more = is; is = refl; holds = tt; rest = record { due_is = h; good = g.1 } }
a_cause_with due (line.OpenConflicts limit) [] h g = absurd (not_end h)
a_cause_with due (line.OpenConflicts limit) (line.GoalLine goal ∷ is) h g =
    let r = steps limit due is (record { due_is = h; good = g.1.1 }) in record {
      value = Conflicts limit goal r.value;
      more = r.more;
      is = ap (λ l. line.OpenConflicts limit ∷ line.GoalLine goal ∷ l) r.is;
      holds = r.holds;
      rest = r.rest;
    }
a_cause_with due (line.OpenConflicts limit) (i ∷ is) h g = absurd (none-some _ h)
a_cause_with due (line.OpenWide at op left right) is h g = record {
  value = Wide (record { place = at; op = op; left = rational_of _ left g.0.0.0 g.0.1.1; right = rational_of _ right g.0.0.1 g.0.1.2 });
  more = is;
  is = refl;
  holds = tt;
  rest = record { due_is = h; good = g.1 };
}
a_cause_with due i is h g = absurd (none-some _ h)

pub a_cause : (due : List Part) (items : List LineItem) → Complete (ACause ∷ due) items → Splits IsCounted cause_items due items
unfolding behind
a_cause due [] c = absurd (not_end c.due_is)
a_cause due (i ∷ is) c = a_cause_with due i is c.due_is c.good

-- a verdict
pub a_verdict : (due : List Part) (items : List LineItem) → Complete (AVerdict ∷ due) items → Splits IsVerdictCounted verdict_items due items
unfolding behind
a_verdict due [] c = absurd (not_end c.due_is)
a_verdict due (line.Consistent ∷ is) c =
    let r = a_model due is (record { due_is = c.due_is; good = c.good.1 }) in
    record { value = Consistent r.value; more = r.more; is = ap (λ l. line.Consistent ∷ l) r.is; holds = tt; rest = r.rest }
a_verdict due (line.Inconsistent ∷ is) c =
    let r = a_dual due is (record { due_is = c.due_is; good = c.good.1 }) in
    record { value = Inconsistent r.value; more = r.more; is = ap (λ l. line.Inconsistent ∷ l) r.is; holds = tt; rest = r.rest }
a_verdict due (i ∷ is) c =
    let r = a_cause_with due i is c.due_is c.good in
    record { value = Open r.value; more = r.more; is = r.is; holds = r.holds; rest = r.rest }

-- a side and its trace
abbrev pub IsSideOf : SideAnswer × List Event → Type 0
IsSideOf s = IsSideCounted s.0

abbrev pub items_of_side : Bool → SideAnswer × List Event → List LineItem
items_of_side upper s = side_items upper s.0 s.1

side_value : (upper : Bool) (q : Ratio) (due : List Part) (is : List LineItem) → IsReducedWithin (2 ^ 90) q → IsRatioWithin (2 ^ 90) q
    → Complete (AModel ∷ ADual ∷ ATrace ∷ due) is → Splits IsSideOf (items_of_side upper) due (line.Bound upper q ∷ is)
side_value upper q due is p w c =
    let m = a_model (ADual ∷ ATrace ∷ due) is c in
    let d = a_dual (ATrace ∷ due) m.more m.rest in
    let t = a_trace due d.more d.rest in record {
      value = (side.Bound (rational_of _ q p w) m.value d.value, t.value);
      more = t.more;
      is = ap (λ l. line.Bound upper q ∷ l) (m.is ∙ ap (λ l. model_items m.value ++ l) (d.is ∙ ap (λ l. dual_items d.value ++ l) t.is
          ∙ sym (append_assoc (dual_items d.value) (trace_items t.value) t.more))
          ∙ sym (append_assoc (model_items m.value) (dual_items d.value ++ trace_items t.value) t.more));
      holds = tt;
      rest = t.rest;
    }

side_open : (upper : Bool) (due : List Part) (is : List LineItem) → Complete (ACause ∷ ATrace ∷ due) is → Splits IsSideOf (items_of_side upper) due (line.OpenSide upper ∷ is)
side_open upper due is c =
    let o = a_cause (ATrace ∷ due) is c in
    let t = a_trace due o.more o.rest in record {
      value = (side.Open o.value, t.value);
      more = t.more;
      is = ap (λ l. line.OpenSide upper ∷ l) (o.is ∙ ap (λ l. cause_items o.value ++ l) t.is ∙ sym (append_assoc (cause_items o.value) (trace_items t.value) t.more));
      holds = o.holds;
      rest = t.rest;
    }

pub a_side : (upper : Bool) (due : List Part) (items : List LineItem) → Complete (ASide upper ∷ due) items → Splits IsSideOf (items_of_side upper) due items
unfolding behind
a_side upper due [] c = absurd (not_end c.due_is)
a_side false due (line.Bound false q ∷ is) c = side_value false q due is c.good.0.0.1 c.good.0.1 (record { due_is = c.due_is; good = c.good.1 })
a_side true due (line.Bound true q ∷ is) c = side_value true q due is c.good.0.0.1 c.good.0.1 (record { due_is = c.due_is; good = c.good.1 })
a_side false due (line.OpenSide false ∷ is) c = side_open false due is (record { due_is = c.due_is; good = c.good.1 })
a_side true due (line.OpenSide true ∷ is) c = side_open true due is (record { due_is = c.due_is; good = c.good.1 })
a_side false due (i ∷ is) c = absurd (none-some _ c.due_is)
a_side true due (i ∷ is) c = absurd (none-some _ c.due_is)

-- the answer to a query, and the trace of its first phase
abbrev pub IsPartCounted : QueryPart → Type 0
IsPartCounted p = IsQueryCounted p.answer

abbrev pub items_of_part : QueryPart → List LineItem
items_of_part p = query_items p.answer p.first

pub an_answer : (due : List Part) (items : List LineItem) → Complete (AnAnswer ∷ due) items → Splits IsPartCounted items_of_part due items
unfolding behind
an_answer due [] c = absurd (not_end c.due_is)
an_answer due (line.Bounds ∷ is) c =
    let t = a_trace (ASide false ∷ ASide true ∷ due) is (record { due_is = c.due_is; good = c.good.1 }) in
    let l = a_side false (ASide true ∷ due) t.more t.rest in
    let u = a_side true due l.more l.rest in record {
      value = record { answer = query.Bounds l.value.0 l.value.1 u.value.0 u.value.1; first = t.value };
      more = u.more;
      is = ap (λ r. line.Bounds ∷ r) (t.is ∙ ap (λ r. trace_items t.value ++ r) (l.is ∙ ap (λ r. items_of_side false l.value ++ r) u.is
          ∙ sym (append_assoc (items_of_side false l.value) (items_of_side true u.value) u.more))
          ∙ sym (append_assoc (trace_items t.value) (items_of_side false l.value ++ items_of_side true u.value) u.more));
      holds = (l.holds, u.holds);
      rest = u.rest;
    }
an_answer due (line.Impossible ∷ is) c =
    let d = a_dual (ATrace ∷ due) is (record { due_is = c.due_is; good = c.good.1 }) in
    let t = a_trace due d.more d.rest in record {
      value = record { answer = query.Impossible d.value; first = t.value };
      more = t.more;
      is = ap (λ r. line.Impossible ∷ r) (d.is ∙ ap (λ r. dual_items d.value ++ r) t.is ∙ sym (append_assoc (dual_items d.value) (trace_items t.value) t.more));
      holds = tt;
      rest = t.rest;
    }
an_answer due (i ∷ is) c =
    let o = a_cause_with (ATrace ∷ due) i is c.due_is c.good in
    let t = a_trace due o.more o.rest in record {
      value = record { answer = query.Open o.value; first = t.value };
      more = t.more;
      is = o.is ∙ ap (λ r. cause_items o.value ++ r) t.is ∙ sym (append_assoc (cause_items o.value) (trace_items t.value) t.more);
      holds = o.holds;
      rest = t.rest;
    }

-- parts from a number on, and the end
pub record IsParts (j : ℕ) (items : List LineItem) : Type 0 where
  pub parts : List QueryPart
  pub are : items ≡ part_items j parts ++ line.End ∷ []
  pub counted : ArePartsCounted parts

more_is_shorter : (items xs more : List LineItem) (n : ℕ) → items ≡ xs ++ more → length items ≤ n → length more ≤ n
more_is_shorter items xs more n e h = omega (arith, h, ap length e, length-append xs more)

pub some_parts : (n j : ℕ) (items : List LineItem) → length items ≤ n → Complete (AQuery j ∷ []) items → IsParts j items
unfolding behind
some_parts n j [] h c = absurd (not_end c.due_is)
some_parts n j (line.End ∷ []) h c = record { parts = []; are = refl; counted = tt }
some_parts n j (line.End ∷ i ∷ is) h c = absurd (none-some _ c.due_is)
some_parts zero j (line.Query number ∷ is) h c = absurd (omega (arith, h))
some_parts (suc n) j (line.Query number ∷ is) h c = by (number == j) refl (λ k more g d. some_parts n k more g d) c.due_is
  where
    by : (t : Bool) → (number == j) ≡ t → ((k : ℕ) (more : List LineItem) → length more ≤ n → Complete (AQuery k ∷ []) more → IsParts k more) → and_then (if t then Some (AnAnswer ∷ AQuery (suc j) ∷ []) else None) (λ more. due_behind more is) ≡ Some []
        → IsParts j (line.Query number ∷ is)
    by true e again d =
        let a = an_answer (AQuery (suc j) ∷ []) is (record { due_is = d; good = c.good.1 }) in
        let r = again (suc j) a.more (more_is_shorter is (items_of_part a.value) a.more n a.is (omega (arith, h))) a.rest in record {
          parts = a.value ∷ r.parts;
          are = ap (λ k. line.Query k ∷ is) (eqb-true number j e)
              ∙ ap (λ l. line.Query j ∷ l) (a.is ∙ ap (λ l. items_of_part a.value ++ l) r.are
              ∙ sym (append_assoc (items_of_part a.value) (part_items (suc j) r.parts) (line.End ∷ [])));
          counted = (a.holds, r.counted);
        }
    by false e again d = absurd (none-some _ d)
some_parts n j (i ∷ is) h c = absurd (none-some _ c.due_is)

-- lines that are due up to the end, and within the limits, are those of an answer
pub record IsAnswered (items : List LineItem) : Type 0 where
  pub answer : Answer
  pub are : items ≡ answer_items answer
  pub counted : IsAnswerCounted answer

pub an_end : (items : List LineItem) → Complete at_start items → IsAnswered items
unfolding behind answer_items
an_end [] c = absurd (not_end c.due_is)
an_end (line.Report ∷ is) c =
    let v = a_verdict (ATrace ∷ AQuery 1 ∷ []) is (record { due_is = c.due_is; good = c.good.1 }) in
    let t = a_trace (AQuery 1 ∷ []) v.more v.rest in
    let p = some_parts (length t.more) 1 t.more (omega arith) t.rest in record {
      answer = record { verdict = v.value; first = t.value; parts = p.parts };
      are = ap (λ l. line.Report ∷ l) (v.is ∙ ap (λ l. verdict_items v.value ++ l) (t.is ∙ ap (λ l. trace_items t.value ++ l) p.are));
      counted = record { verdict = v.holds; parts = p.counted };
    }
an_end (i ∷ is) c = absurd (none-some _ c.due_is)
