use Rattle.ps_spoken.specs.Clashes.{rest_words, without_text}
use Rattle.ps_spoken.proofs.Said.{said}
use Rattle.ps_spoken.proofs.rests.write_rest.Goals as goal

pub returns : goal.returns
returns c =
    said c.write_rest_words.result c.args.out.now.items c.write_without.new.out.items c.write_rest_words.new.out.items
    (without_text c.args.sentence.now.number) (rest_words c.args.sentence.now.rest) c.in_ok-write_without.ensures c.write_rest_words.ensures
