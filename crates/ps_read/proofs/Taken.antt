-- A token that was taken.
use Rattle.std.proofs.Common.{◌≡◌, ◌+◌, ◌++◌, Option, Some, None, sym, ap, subst, ◌∙◌, refl}
use Rattle.ps_text.specs.declared.part.Part.{Part}
use Rattle.ps_text.specs.ExpectedTokens.{State, refusal, after}
use Rattle.ps_lex.specs.declared.position.Position.{Position}
use Rattle.ps_lex.specs.declared.token.Token.{Token}
use Rattle.ps_lex.specs.KeptTokens.{token_of}
use Rattle.ps_text.specs.PartialParses.{InPsat, parsed}
use Rattle.ps_read.specs.declared.parser.Parser.{Parser}
use Rattle.ps_read.specs.Machine.{at_first, Work, Machine, taken_at, next}
use Rattle.ps_read.specs.Derivations.{IsParsed}
use Rattle.ps_read.specs.Taking.{IsKept, CountsAtMost, begun_at, IsTaken}
use Rattle.ps_read.specs.Kept.{machine_of, places_of}
use Rattle.ps_read.proofs.Next.{followed}
use Rattle.ps_read.proofs.Readiness.{may_be_taken_at}
use Rattle.ps_read.proofs.Counting.{counted}

-- what a parser has done with a token
pub record IsDone (old new : Parser) (t : Token) (place : Position) (part : Part) : Type 0 where
  pub passed : refusal (machine_of old).state (token_of t) ≡ None
  pub part_is : part ≡ (machine_of old).state.part
  pub state : (machine_of new).state ≡ after (machine_of old).state (token_of t)
  pub work : (machine_of new).work ≡ taken_at part (machine_of old).work (token_of t)
  pub places : places_of new ≡ places_of old ++ begun_at part (token_of t) place

abbrev machine : State → Work → Machine
machine s w = record { state = s; work = w }

same_machine : (s e : State) (w v : Work) → s ≡ e → w ≡ v → machine s w ≡ machine e v
same_machine s e w v p q = ap (λ x. machine x w) p ∙ ap (machine e) q

pub none_of : {X : Type 0} (o : Option X) → ((x : X) → o ≡ Some x → ⊥) → o ≡ None
none_of None h = refl
none_of (Some x) h = absurd (h x refl)

pub is_taken : (old new : Parser) (t : Token) (place : Position) (part : Part) → IsParsed (machine_of old) → IsKept t → IsDone old new t place part → IsTaken old t place new
is_taken old new t place part i k d =
    let m : machine_of new ≡ next (machine_of old) (token_of t) =
    same_machine (machine_of new).state (after (machine_of old).state (token_of t)) (machine_of new).work (taken_at (machine_of old).state.part (machine_of old).work (token_of t))
    d.state (d.work ∙ ap (λ p. taken_at p (machine_of old).work (token_of t)) d.part_is) in
    record {
      passed = d.passed;
      machine = m;
      parsed = subst (λ x. IsParsed x) (sym m) (record { parse = parsed i.parse (token_of t); stands = followed i.parse (machine_of old) (token_of t) i.stands d.passed });
      counts = record { counts = λ n h. subst (λ x. CountsAtMost (n + 1) x) (sym m) (counted n (machine_of old) (token_of t) (may_be_taken_at (machine_of old) t i k d.passed) h) };
      places = d.places ∙ ap (λ p. places_of old ++ begun_at p (token_of t) place) d.part_is;
    }

-- before the first token
pub first_parsed : (m : Machine) → m ≡ at_first → IsParsed m
first_parsed m e = subst (λ x. IsParsed x) (sym e) (record { parse = InPsat; stands = record { sound = tt; state = refl; work = record { operators = refl; «open» = refl; items = tt; item = tt } } })
