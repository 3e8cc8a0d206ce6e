use Rattle.std.proofs.Common.{length, sym}
use Rattle.ps_text.specs.Canonical.{canonical_text}
use Rattle.ps_text.proofs.Canonicals.{front_in_two}
use Rattle.ps_text.proofs.Lawful.{front_lawful}
use Rattle.ps_problem.specs.Written.{items_from}
use Rattle.ps_problem.proofs.Reread.{reread}
use Rattle.ps_commands.proofs.laws.upgraded_texts_are_reread.Goals as goal

pub returns : goal.returns
returns c = λ p h.
    let r = reread p h in
    let text = canonical_text (items_from p) in record {
      items = items_from p;
      front = front_in_two (items_from p) (front_lawful text (items_from p) (length text) r.front);
      made = record { formulas = r.formulas; within = r.counts; problem = sym r.made };
    }
