use Rattle.std.proofs.Common.{take}
use Rattle.ps_explain.specs.Explanations.{places_from}
use Rattle.ps_explain.specs.Steps.{AreModelsWithout}
use Rattle.ps_explain.proofs.irreducible.models_without.Given as goal

abbrev pub invariant-loop-place : goal.invariant-loop-place
invariant-loop-place g l = AreModelsWithout l.means.trials.now l.core.kept (places_from 0 (take l.place l.core.kept)) l.models
