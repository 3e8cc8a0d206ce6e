-- Parts that begin with one kind of line.
use Rattle.std.proofs.Common.{◌≡◌, ℕ, ℤ, refl, sym, ◌∙◌, None}
use Rattle.std.proofs.lemmas.Option.{none-some}
use Rattle.ps_io.specs.declared.list.List.{List as Listed}
use Rattle.ps_formula.specs.declared.world.World.{World}
use Rattle.ps_pb.specs.declared.step.Step.{Step}
use Rattle.ps_table.specs.declared.col.Col.{Col}
use Rattle.ps_answer.specs.ExpectedParts.{behind}
use Rattle.ps_answer.specs.declared.item.LineItem.{LineItem}
use Rattle.ps_answer.specs.declared.item.LineItem.TheVariants as line
use Rattle.ps_answer.specs.declared.part.Part.TheVariants.{AModel, AnEntry, ADual, SomeRows, AStep, ATrace, AnEvent}
use Rattle.ps_answer.specs.declared.part.Part.{Part}
use Rattle.ps_reader.specs.Read.{Fits}
use Rattle.std.proofs.Common.{[]}

no_item : (p : Part) (i : LineItem) → Fits p i → behind p i [] ≡ None → ⊥
no_item p i f e = none-some (f []).0 (sym e ∙ (f []).1)

pub only_model_head : (i : LineItem) → Fits AModel i → ((t : ℤ) (n : ℕ) → i ≡ line.ModelHead t n → ⊥) → ⊥
unfolding behind
only_model_head (line.ModelHead t n) f h = h t n refl
only_model_head i f h = no_item AModel i f refl

pub only_entry : (i : LineItem) → Fits AnEntry i → ((w : ℤ) (v : World) → i ≡ line.Entry w v → ⊥) → ⊥
unfolding behind
only_entry (line.Entry w v) f h = h w v refl
only_entry i f h = no_item AnEntry i f refl

pub only_dual_head : (i : LineItem) → Fits ADual i → ((t m : ℤ) (n : ℕ) → i ≡ line.DualHead t m n → ⊥) → ⊥
unfolding behind
only_dual_head (line.DualHead t m n) f h = h t m n refl
only_dual_head i f h = no_item ADual i f refl

pub only_rows : (i : LineItem) → Fits SomeRows i → ((rs : Listed ℤ) → i ≡ line.Rows rs → ⊥) → ⊥
unfolding behind
only_rows (line.Rows rs) f h = h rs refl
only_rows i f h = no_item SomeRows i f refl

pub only_step : (i : LineItem) → Fits AStep i → ((s : Step) → i ≡ line.StepLine s → ⊥) → ⊥
unfolding behind
only_step (line.StepLine s) f h = h s refl
only_step i f h = no_item AStep i f refl

pub only_trace_head : (i : LineItem) → Fits ATrace i → ((n : ℕ) → i ≡ line.TraceHead n → ⊥) → ⊥
unfolding behind
only_trace_head (line.TraceHead n) f h = h n refl
only_trace_head i f h = no_item ATrace i f refl

pub only_event : (i : LineItem) → Fits AnEvent i → ((c : Col) (n : ℕ) → i ≡ line.PivotLine c n → ⊥) → ((v : World) → i ≡ line.PricedLine v → ⊥) → ⊥
unfolding behind
only_event (line.PivotLine c n) f h k = h c n refl
only_event (line.PricedLine v) f h k = k v refl
only_event i f h k = no_item AnEvent i f refl
