-- A test of equality of what is seen.
use Rattle.std.proofs.Common.{◌≡◌, List, [], ◌∷◌, refl, sym, ap, ◌∙◌}
use Rattle.std.specs.Prelude.{Bool, true, false, ◌&&◌, eqb}
use Rattle.std.specs.Ordering.{int_eq}
use Rattle.std.proofs.lemmas.Bool.{and_parts, and_from, eqb-true, eq-eqb}
use Rattle.std.proofs.lemmas.Bool.Decides.{Decides-int_eq}
use Rattle.label_code.specs.Machine.{Event, Wrote, Began, Ended}
use Rattle.leak_bound.specs.Records.{Tests}

abbrev pub same_event : Event → Event → Bool
same_event (Wrote x n c) (Wrote y m d) = eqb x y && (int_eq n m && eqb c d)
same_event (Began k c) (Began j d) = eqb k j && eqb c d
same_event (Ended k c) (Ended j d) = eqb k j && eqb c d
same_event (Wrote x n c) (Began j d) = false
same_event (Wrote x n c) (Ended j d) = false
same_event (Began k c) (Wrote y m d) = false
same_event (Began k c) (Ended j d) = false
same_event (Ended k c) (Wrote y m d) = false
same_event (Ended k c) (Began j d) = false

abbrev pub same_events : List Event → List Event → Bool
same_events [] [] = true
same_events [] (b ∷ bs) = false
same_events (a ∷ as_) [] = false
same_events (a ∷ as_) (b ∷ bs) = same_event a b && same_events as_ bs

itself : (a : Event) → same_event a a ≡ true
itself (Wrote x n c) = and_from _ _ (eq-eqb x x refl) (and_from _ _ ((Decides-int_eq n n).1 refl) (eq-eqb c c refl))
itself (Began k c) = and_from _ _ (eq-eqb k k refl) (eq-eqb c c refl)
itself (Ended k c) = and_from _ _ (eq-eqb k k refl) (eq-eqb c c refl)

all_itself : (as_ : List Event) → same_events as_ as_ ≡ true
all_itself [] = refl
all_itself (a ∷ as_) = and_from _ _ (itself a) (all_itself as_)

event_to : (a b : Event) → same_event a b ≡ true → a ≡ b
event_to (Wrote x n c) (Wrote y m d) h =
    let p = and_parts (eqb x y) (int_eq n m && eqb c d) h in
    let q = and_parts (int_eq n m) (eqb c d) p.1 in
    ap (λ z. Wrote z n c) (eqb-true x y p.0) ∙ ap (λ z. Wrote y z c) ((Decides-int_eq n m).0 q.0) ∙ ap (λ z. Wrote y m z) (eqb-true c d q.1)
event_to (Began k c) (Began j d) h =
    let p = and_parts (eqb k j) (eqb c d) h in
    ap (λ z. Began z c) (eqb-true k j p.0) ∙ ap (λ z. Began j z) (eqb-true c d p.1)
event_to (Ended k c) (Ended j d) h =
    let p = and_parts (eqb k j) (eqb c d) h in
    ap (λ z. Ended z c) (eqb-true k j p.0) ∙ ap (λ z. Ended j z) (eqb-true c d p.1)
event_to (Wrote x n c) (Began j d) h = absurd (cc)
event_to (Wrote x n c) (Ended j d) h = absurd (cc)
event_to (Began k c) (Wrote y m d) h = absurd (cc)
event_to (Began k c) (Ended j d) h = absurd (cc)
event_to (Ended k c) (Wrote y m d) h = absurd (cc)
event_to (Ended k c) (Began j d) h = absurd (cc)

events_to : (as_ bs : List Event) → same_events as_ bs ≡ true → as_ ≡ bs
events_to [] [] h = refl
events_to [] (b ∷ bs) h = absurd (cc)
events_to (a ∷ as_) [] h = absurd (cc)
events_to (a ∷ as_) (b ∷ bs) h =
    let p = and_parts (same_event a b) (same_events as_ bs) h in
    ap (λ z. z ∷ as_) (event_to a b p.0) ∙ ap (λ z. b ∷ z) (events_to as_ bs p.1)

pub tests_events : Tests same_events
tests_events =
    record {
      same_from = λ v w e. ap (λ z. same_events v z) (sym e) ∙ all_itself v;
      same_to = λ v w h. events_to v w h;
    }
