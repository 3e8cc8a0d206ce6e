-- Pivots that are left, and events that were appended.
use Rattle.std.proofs.Common.{◌≡◌, ℕ, ◌+◌, List, [], ◌∷◌, ◌++◌, length, ap, ◌∙◌, arith, length-append}
use Rattle.ps_table.specs.declared.event.Event.{Event}

-- as many pivots are gone as events were appended
pub events_counted : (trace longer events : List Event) (had left : ℕ) → longer ≡ trace ++ events → left + length longer ≡ had + length trace → left + length events ≡ had
events_counted trace longer events had left appended counted = let l = ap length appended ∙ length-append trace events in omega (arith, counted, l)

-- one event is appended, and one pivot is gone
pub event_counted : (trace longer : List Event) (event : Event) (had left : ℕ) → longer ≡ trace ++ event ∷ [] → left + 1 ≡ had → left + length longer ≡ had + length trace
event_counted trace longer event had left appended gone = let l = ap length appended ∙ length-append trace (event ∷ []) in omega (arith, gone, l)
