use Rattle.std.proofs.Common.{rules, ℕ, ◌≡◌, ◌<◌, ◌++◌, ◌∷◌, [], ◌∙◌, List, None, length, get_or, refl, sym, ap, subst}
use Rattle.ps_io.proofs.Bytes.{appends-then}
use Rattle.ps_problem.specs.declared.query.Query.{Query}
use Rattle.ps_ask.specs.Fronts.{part_piece, parts_pieces}
use Rattle.ps_ask.specs.Replies.{ArePiecesFor, IsPiece}
use Rattle.ps_ask.specs.Rounds.{IsPending}
use Rattle.ps_ask.proofs.EndLaws.{ended_after, some_ended}
use Rattle.ps_ask.proofs.FrontLaws.{parts_begin, parts_next, pieces_begun, pieces_more, text_next}
use Rattle.ps_ask.proofs.StepLaws.{nothing_shown}
use Rattle.ps_ask.proofs.fronts.show_parts.Goals as goal

pub loop-query-init : goal.loop-query-init
loop-query-init g c = rw (c.new-parts.ensures, c.new-details.ensures) (record {
  parts = parts_begin c.args.settings c.args.trials.now;
  written = nothing_shown c.args.settings.style c.args.settings.digits c.args.trials.now [] (g.O.Sink.written c.args.sink.now);
  rounds = c.in-Ok.ensures c.args.settings c.args.trials.now;
  faults = refl;
})

pub returns-then-is_err-clause-ended : goal.returns-then-is_err-clause-ended
returns-then-is_err-clause-ended g c =
    let s = c.args.settings in
    let p = c.args.trials.now in
    let i = c.loop-query.query-index in
    let parts = c.loop-query.parts in
    let rs = c.loop-query.details in
    let part = c.in-Ok-show_part.part in
    let told = c.in-Ok-show_part.told in
    let same : c.as_slice-queries.result.now ≡ p.queries = search rules in
    let lt : i < length p.queries = subst (λ (qs : List Query). i < length qs) same c.loop-query-test.true in
    let q = get_or c.as_slice-queries.result.now i _ in
    let pieces = parts_pieces s.style s.digits p parts rs in
    let piece = part_piece s.style s.digits p q part told in
    some_ended (ArePiecesFor s p p.queries) (g.O.Sink.written c.args.sink.now) (g.O.Sink.written c.show_part.new.sink) (pieces ++ piece)
    (pieces_more s p i parts rs q _ c.loop-query.invariant.parts (ap (λ (qs : List Query). get_or qs i _) same) lt piece
    (record { part = part; details = told; shown = c.in-Ok-show_part.ensures.judged; told = c.in-Ok-show_part.ensures.details; asked = c.in-Ok-show_part.ensures.asked; is = refl }))
    (appends-then (g.O.Sink.written c.args.sink.now) (g.O.Sink.written c.loop-query.sink) (g.O.Sink.written c.show_part.new.sink) pieces piece
    c.loop-query.invariant.written c.in-Ok-show_part.ensures.wrote)

pub returns-in-Err-clause-ended : goal.returns-in-Err-clause-ended
returns-in-Err-clause-ended g c =
    let s = c.args.settings in
    let p = c.args.trials.now in
    let i = c.loop-query.query-index in
    let parts = c.loop-query.parts in
    let rs = c.loop-query.details in
    let same : c.as_slice-queries.result.now ≡ p.queries = search rules in
    let lt : i < length p.queries = subst (λ (qs : List Query). i < length qs) same c.loop-query-test.true in
    let q = get_or c.as_slice-queries.result.now i _ in
    ended_after (IsPiece s p q) (ArePiecesFor s p p.queries) c.in-Err.error (g.O.Sink.written c.args.sink.now) (g.O.Sink.written c.loop-query.sink)
    (g.O.Sink.written c.show_part.new.sink) (parts_pieces s.style s.digits p parts rs) c.loop-query.invariant.written
    (pieces_begun s p i parts rs c.loop-query.invariant.parts)
    (pieces_more s p i parts rs q _ c.loop-query.invariant.parts (ap (λ (qs : List Query). get_or qs i _) same) lt) c.in-Err.ensures.ended

pub loop-query-preserved : goal.loop-query-preserved
loop-query-preserved g c =
    let s = c.args.settings in
    let p = c.args.trials.now in
    let i = c.loop-query.query-index in
    let parts = c.loop-query.parts in
    let rs = c.loop-query.details in
    let part = c.in-Ok-show_part.part in
    let told = c.in-Ok-show_part.told in
    let same : c.as_slice-queries.result.now ≡ p.queries = search rules in
    let lt : i < length p.queries = subst (λ (qs : List Query). i < length qs) same c.loop-query-test.true in
    let q = get_or c.as_slice-queries.result.now i _ in
    let there = ap (λ (qs : List Query). get_or qs i _) same in
    let pushed : c.add_part.new.parts ≡ parts ++ part ∷ [] = search rules in
    let noted : c.add_part.new.details ≡ rs ++ told ∷ [] = search rules in
    rw (pushed, noted) (record {
      parts = parts_next s p i parts rs q _ c.loop-query.invariant.parts there lt part told c.in-Ok-show_part.ensures.judged c.in-Ok-show_part.ensures.details
          c.in-Ok-show_part.ensures.asked;
      written = rw (text_next s p i parts rs q _ c.loop-query.invariant.parts there lt part told)
          (appends-then (g.O.Sink.written c.args.sink.now) (g.O.Sink.written c.loop-query.sink) (g.O.Sink.written c.show_part.new.sink)
          (parts_pieces s.style s.digits p parts rs) (part_piece s.style s.digits p q part told) c.loop-query.invariant.written c.in-Ok-show_part.ensures.wrote);
      rounds = c.in-Ok-settle_query.ensures.rounds;
      faults = c.in-Ok-show_part.ensures.faults ∙ c.loop-query.invariant.faults;
    })

pub show_part-requires-clause-pending : goal.show_part-requires-clause-pending
show_part-requires-clause-pending g c =
    let s = c.args.settings in
    let p = c.args.trials.now in
    let i = c.loop-query.query-index in
    let pending = c.in-Ok-settle_query.pending in
    let d : Query = record { formula = 0; given = None; both = 0 } in
    let same : c.as_slice-queries.result.now ≡ p.queries = search rules in
    let place : c.len-place.result ≡ i = c.len-place.ensures ∙ c.loop-query.invariant.parts.count in
    let there : IsPending s p (get_or p.queries i d) pending =
    subst (λ (k : ℕ). IsPending s p (get_or p.queries k d) pending) place (c.in-Ok-settle_query.ensures.known d) in
    subst (λ (qs : List Query). IsPending s p (get_or qs i d) pending) (sym same) there
