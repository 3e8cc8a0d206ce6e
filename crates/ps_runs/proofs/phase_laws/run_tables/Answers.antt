use Rattle.ps_runs.proofs.Shapes.{same_table, run_table, basics_differ}
use Rattle.ps_runs.proofs.Ready.{ready_first, ready_lower, ready_upper}
use Rattle.ps_runs.proofs.Adding.{new_table, new_stage, costs_grow}
use Rattle.ps_runs.proofs.TableEnds.{dual_of_stage, model_of_stage, spent_at_rest}
use Rattle.ps_runs.proofs.phase_laws.run_tables.Goals as goal

pub returns : goal.returns
returns c = record {
  new = record { table = new_table; stage = new_stage };
  ready = record {
    same = λ s pool t run. same_table s pool t run.kinds run.worlds;
    table = run_table;
    first = ready_first;
    lower = ready_lower;
    upper = ready_upper;
  };
  costs = costs_grow;
  stages = record { apart = basics_differ; dual = dual_of_stage; model = model_of_stage; conflicts = spent_at_rest };
}
