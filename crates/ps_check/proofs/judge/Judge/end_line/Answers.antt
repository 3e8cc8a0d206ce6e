use Rattle.std.proofs.Common.{◌∙◌}
use Rattle.ps_check.proofs.PartialLines.{fed, feed_behind}
use Rattle.ps_check.proofs.judge.Judge.end_line.Goals as goal

pub line_with_feed-requires-2 : goal.line_with_feed-requires-2
line_with_feed-requires-2 c = record {
  feed = feed_behind c.args.self.now.partial.items c.args.end.now c.deref.result.now c.requires.whole c.requires.feed (c.deref.ensures.value ∙ c.in_ok-extend_from_slice.ensures.items);
}

pub returns-clause-taken : goal.returns-clause-taken
returns-clause-taken c =
    fed c.args.self.now (record { check = c.line_with_feed-2.new.self; partial = c.clear.new.self }) c.deref.result.now c.args.end.now
    (feed_behind c.args.self.now.partial.items c.args.end.now c.deref.result.now c.requires.whole c.requires.feed (c.deref.ensures.value ∙ c.in_ok-extend_from_slice.ensures.items))
    (c.deref.ensures.value ∙ c.in_ok-extend_from_slice.ensures.items) c.in_ok-line_with_feed.ensures.taken c.in_ok-line_with_feed.ensures.problem c.clear.ensures.items
