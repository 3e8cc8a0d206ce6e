use Rattle.ps_answer.proofs.WrittenItems.{written_report}
use Rattle.ps_query.proofs.CountedCauses.{settled_counted}
use Rattle.ps_query.proofs.Reports.{all_within, all_short, written_text}
use Rattle.ps_query.proofs.laws.answers_are_reported.Goals as goal

pub returns : goal.returns
returns c = record {
  within = all_within;
  short = all_short;
  reports = λ p limits a h names. written_report a (settled_counted p limits a h.settled) (all_within p limits a h names);
  texts = written_text;
}
