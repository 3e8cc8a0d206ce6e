-- Bounds over structures are bounds over worlds.
use Rattle.std.proofs.Common.{◌≡◌, ◌↔◌, pos, ◌≤ℤ◌, List, get_or, sym, subst}
use Rattle.ps_meaning.specs.declared.side.Side.{Side}
use Rattle.ps_meaning.specs.declared.side.Side.TheVariants.{Exactly}
use Rattle.ps_meaning.specs.Distribution.{Entry, weight}
use Rattle.ps_meaning.specs.Bounds.{Bound, MeetsBound, IsModelOf}
use Rattle.ps_meaning.specs.Rational.{Rational}
use Rattle.ps_problem.specs.Problems as problem
use Rattle.ps_claims.specs.Queries as over_worlds
use Rattle.ps_first_order.specs.FirstOrder.{Signature}
use Rattle.ps_first_order.specs.Texts.{FirstOrderItem, FirstOrderQuestion, IsText, questions_of}
use Rattle.ps_ground.specs.Grounding.{ground_problem}
use Rattle.ps_ground.specs.Structures.{WeightedStructure, IsModelOfText, IsAllowed, Meets, weight_in, condition, bound_on}
use Rattle.ps_ground.specs.Images.{image}
use Rattle.ps_ground.specs.Laws.{names_of, atoms_of, query_of, InconsistentTogether, QueryIsKept, QueriesAreKept}
use Rattle.ps_ground.proofs.Weighing.{AreKept, all-kept, kept-questions, meets-same, says-given, image-weight, meets-together}
use Rattle.ps_ground.proofs.Imaging.{images-are, all-are}

module _ (s : Signature) (items : List FirstOrderItem) (text : IsText s items) where
  abbrev bounds : List Bound
  bounds = problem.bounds_of (ground_problem s items)

  abbrev onto : List WeightedStructure → List Entry
  onto d = image (names_of s items) d

  model-to : (d : List WeightedStructure) → IsModelOfText s items d → IsModelOf (atoms_of s items) bounds (onto d)
  model-to d h = record { distribution = images-are s items text d h.distribution; met = (meets-together s items text d).0 h.met }

  -- a distribution over structures whose image is one that meets the problem
  record IsSource (d : List Entry) : Type 0 where
    structures : List WeightedStructure
    model : IsModelOfText s items structures
    is : onto structures ≡ d

  source : (d : List Entry) → IsModelOf (atoms_of s items) bounds d → IsSource d
  source d h =
      let e = all-are s items text d h.distribution in
      record {
        structures = e.0;
        model = record { distribution = e.1; met = (meets-together s items text e.0).1 (rw e.2 h.met) };
        is = e.2;
      }

  pub inconsistent-together : InconsistentTogether s items
  inconsistent-together = (
    (λ h. record { none = λ d m. let e = source d m in h e.structures e.model }),
    (λ h d m. h.none (onto d) (model-to d m)),
  )

  module _ (q : FirstOrderQuestion) (kept : AreKept s (names_of s items) q.formula q.given) where
    abbrev asked : over_worlds.Query
    asked = query_of s items q

    abbrev IsAllowedThere : List Entry → Type 0
    IsAllowedThere d = over_worlds.IsAllowed (atoms_of s items) bounds asked.evidence d

    evidence-weight : (d : List WeightedStructure) → weight (onto d) asked.evidence ≡ weight_in s d (condition q.given)
    evidence-weight d = image-weight s (names_of s items) asked.evidence (condition q.given) (says-given s (names_of s items) q.given kept.1) d

    allowed-to : (d : List WeightedStructure) → IsAllowed s items q d → IsAllowedThere (onto d)
    allowed-to d h = record { model = model-to d h.model; positive = rw (evidence-weight d) h.positive }

    allowed-from : (d : List Entry) (h : IsAllowedThere d) → IsAllowed s items q (source d h.model).structures
    allowed-from d h =
        let e = source d h.model in
        record {
          model = e.model;
          positive = subst (λ z. pos 1 ≤ℤ z) (evidence-weight e.structures) (subst (λ x. pos 1 ≤ℤ weight x asked.evidence) (sym e.is) h.positive);
        }

    meets-there : (side : Side) (value : Rational) (d : List WeightedStructure) → Meets s d (bound_on q side value) ↔ MeetsBound (over_worlds.bound_on asked side value) (onto d)
    meets-there side value d = meets-same s (names_of s items) q.formula q.given side value.over (pos value.under) d kept.0 kept.1

    pub query-kept : QueryIsKept s items q
    query-kept = record {
      impossible = (
        (λ h. record { none = λ d a. h (source d a.model).structures (allowed-from d a) }),
        (λ h d a. h.none (onto d) (allowed-to d a)),
      );
      bounds = λ side value. (
        (λ h. record {
          met = λ d a.
              let e = source d a.model in
              subst (MeetsBound (over_worlds.bound_on asked side value)) e.is
              ((meets-there side value e.structures).0 (h.met e.structures (allowed-from d a)));
        }),
        (λ h. record { met = λ d a. (meets-there side value d).1 (h.met (onto d) (allowed-to d a)) }),
      );
      reached = λ value. (
        (λ h. (onto h.0, record { allowed = allowed-to h.0 h.1.allowed; equal = (meets-there Exactly value h.0).0 h.1.equal })),
        (λ h.
            let e = source h.0 h.1.allowed.model in (
              e.structures,
              record {
                allowed = allowed-from h.0 h.1.allowed;
                equal = (meets-there Exactly value e.structures).1 (subst (MeetsBound (over_worlds.bound_on asked Exactly value)) (sym e.is) h.1.equal);
              },
            )),
      );
    }

  pub queries-kept : QueriesAreKept s items
  queries-kept k d lt = query-kept (get_or (questions_of items) k d) (kept-questions s (names_of s items) items (all-kept s items text) k d lt)
