-- What is known of an input behind a piece more, and at its end.
use Rattle.std.proofs.Common.{◌≡◌, ◌<◌, ◌≤◌, ◌+◌, ◌-◌, ℕ, List, [], ◌++◌, Option, length, take, drop, sym, subst, ◌∙◌, append_assoc, append-nil, arith}
use Rattle.std.proofs.lemmas.List.{take_rest, length-append}
use Rattle.std.specs.Io.KnownBytes.{Consumes}
use Rattle.ps_io.proofs.Bytes.{consumes-then}
use Rattle.ps_read.specs.Stages.{FrontState, HasPushedOn}
use Rattle.ps_check.specs.declared.intake.TheConstants.{MOST_SEARCHED}
use Rattle.ps_check.specs.declared.checked.Checked.{Checked}
use Rattle.ps_check.specs.declared.intake.Intake.{Intake}
use Rattle.ps_check.specs.declared.intake.Intake.TheVariants.{Reading, Behind}
use Rattle.ps_check.specs.declared.report.Report.{Report}
use Rattle.ps_check.specs.Checks.{searched_in, IsFoundIn}
use Rattle.ps_check.specs.Reports as report
use Rattle.ps_check.specs.Intakes.{IsWithin, IsReading, Knows, IsSound, IsBehind, HasTakenOn, IsFound, HasCome}
use Rattle.ps_check.proofs.SearchedBytes.{all_searched, none_left, part_searched, rest_of}

-- the problem part ended within a piece, or what is searched did
then_behind : (old new : FrontState) (pushed count : ℕ) (bytes piece : List ℕ) (r : Report) → IsReading old pushed bytes → old.taken ≡ pushed
    → pushed ≤ MOST_SEARCHED → HasPushedOn old (take (MOST_SEARCHED - pushed) piece) new → new.taken ≡ old.taken + count → count < length piece
    → report.HasBegun new (drop count piece) r
    → (more : List ℕ) → report.Knows (searched_in ((bytes ++ piece) ++ more)) (bytes ++ piece) r
then_behind old new pushed count bytes piece r h e room on n lt begun more =
    let all : new.taken ≡ length bytes + count = omega (arith, n, e, h.all) in
    begun.known (bytes ++ take (MOST_SEARCHED - pushed) piece) (searched_in ((bytes ++ piece) ++ more)) (bytes ++ piece)
    (part_searched old new (MOST_SEARCHED - pushed) count bytes piece more h.known (omega (arith, h.all, room)) on all lt)
    (rest_of count new.taken bytes piece all (omega (arith, lt)))

-- behind the problem part a piece more is one of the report
still_behind : (bytes piece : List ℕ) (old new : Report) → report.HasTakenOn old piece new
    → ((more : List ℕ) → report.Knows (searched_in (bytes ++ more)) bytes old)
    → (more : List ℕ) → report.Knows (searched_in ((bytes ++ piece) ++ more)) (bytes ++ piece) new
still_behind bytes piece old new on known more =
    on.taken (searched_in ((bytes ++ piece) ++ more)) bytes
    (subst (λ (x : List ℕ). report.Knows (searched_in x) bytes old) (sym (append_assoc bytes piece more)) (known (piece ++ more)))

-- at the end of the bytes, all of which were pushed
found_read : (f : FrontState) (pushed : ℕ) (bytes : List ℕ) (r : Report) (checked : Checked) → IsReading f pushed bytes → IsWithin f pushed
    → report.HasBegun f [] r → report.IsFound r checked → IsFoundIn bytes checked
found_read f pushed bytes r checked h w begun found =
    found.found (searched_in bytes) bytes
    (begun.known bytes (searched_in bytes) bytes (all_searched f bytes h.known (omega (arith, h.all, w.room))) (none_left f.taken bytes (omega (arith, h.all, w.taken))))

-- at the end of the bytes, behind the problem part
found_behind : (bytes : List ℕ) (r : Report) (checked : Checked) → ((more : List ℕ) → report.Knows (searched_in (bytes ++ more)) bytes r)
    → report.IsFound r checked → IsFoundIn bytes checked
found_behind bytes r checked known found =
    found.found (searched_in bytes) bytes (subst (λ (x : List ℕ). report.Knows (searched_in x) bytes r) (append-nil bytes) (known []))

-- one read more
pub come_more : (old new : Intake) (taken n : ℕ) (first last next : Option (List ℕ)) (piece : List ℕ) → HasCome old taken first last → HasTakenOn old piece new
    → Consumes last next piece → n ≡ length piece → HasCome new (taken + n) first next
come_more old new taken n first last next piece h on c e = record {
  bytes = h.bytes ++ piece;
  consumed = consumes-then first last next h.bytes piece h.consumed c;
  all = omega (arith, h.all, e, length-append h.bytes piece);
  known = on.known h.bytes h.known;
}

-- a report that was begun is known by what its input is
begun_behind : (f : FrontState) (rest bytes : List ℕ) (i : Intake) → IsBehind f rest i
    → ((r : Report) → report.HasBegun f rest r → Knows (Behind r) bytes) → Knows i bytes
begun_behind f rest bytes (Behind r) h known = known r h.1
begun_behind f rest bytes (Reading g pushed) h known = absurd h

-- the same of what an input is known by
pub read_behind : (self new : Intake) (old front : FrontState) (pushed count : ℕ) (piece searched rest : List ℕ) → self ≡ Reading old pushed → IsSound self
    → searched ≡ take (MOST_SEARCHED - pushed) piece → HasPushedOn old searched front → front.taken ≡ old.taken + count → count < length piece
    → rest ≡ take (length piece - count) (drop count piece) → IsBehind front rest new → HasTakenOn self piece new
read_behind self new old front pushed count piece searched rest is sound e on n lt cut h =
    let w : IsWithin old pushed = subst IsSound is sound in
    record {
      known = λ bytes k.
          begun_behind front rest (bytes ++ piece) new h
          (λ r begun.
          then_behind old front pushed count bytes piece r (subst (λ (x : Intake). Knows x bytes) is k) w.taken w.room (subst (λ (x : List ℕ). HasPushedOn old x front) e on) n lt
          (subst (λ (x : List ℕ). report.HasBegun front x r) (cut ∙ take_rest piece count) begun));
    }

pub behind_on : (self : Intake) (old new : Report) (piece : List ℕ) → self ≡ Behind old → report.HasTakenOn old piece new → HasTakenOn self piece (Behind new)
behind_on self old new piece is on = record {
  known = λ bytes k. still_behind bytes piece old new on (subst (λ (x : Intake). Knows x bytes) is k);
}

pub found_reading : (self : Intake) (f : FrontState) (pushed : ℕ) (r : Report) (checked : Checked) → self ≡ Reading f pushed → IsSound self
    → report.HasBegun f [] r → report.IsFound r checked → IsFound self checked
found_reading self f pushed r checked is sound begun found = record {
  found = λ bytes k. found_read f pushed bytes r checked (subst (λ (x : Intake). Knows x bytes) is k) (subst IsSound is sound) begun found;
}

pub found_judging : (self : Intake) (r : Report) (checked : Checked) → self ≡ Behind r → report.IsFound r checked → IsFound self checked
found_judging self r checked is found = record {
  found = λ bytes k. found_behind bytes r checked (subst (λ (x : Intake). Knows x bytes) is k) found;
}
