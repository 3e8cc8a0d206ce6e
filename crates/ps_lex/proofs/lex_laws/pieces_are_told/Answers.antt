use Rattle.ps_lex.proofs.Told.{whole_told, bad_told}
use Rattle.ps_lex.proofs.Places.{position_kept, offset_kept}
use Rattle.ps_lex.proofs.lex_laws.pieces_are_told.Goals as goal

pub returns-clause-whole : goal.returns-clause-whole
returns-clause-whole c = whole_told

pub returns-clause-bad : goal.returns-clause-bad
returns-clause-bad c = λ ps rest cuts. record { bad = bad_told ps rest cuts }

pub returns-clause-positions : goal.returns-clause-positions
returns-clause-positions c = λ bytes. record { offset = offset_kept bytes; place = position_kept bytes }
