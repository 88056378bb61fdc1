-- What one event more adds to a tally.
use Rattle.std.proofs.Common.{◌≡◌, ◌≤◌, ℕ, ◌+◌, List, [], ◌∷◌, ◌++◌, length, map, take, Bool, true, false, cond, ℤ, refl, sym, ap, ◌∙◌, subst, arith}
use Rattle.std.proofs.Common.{length-append, append-nil, ⊎_elim, ◌<◌}
use Rattle.std.specs.Prelude.{All}
use Rattle.std.proofs.lemmas.Bool.{cases_lt}
use Rattle.std.proofs.lemmas.List.{map-append, take_all, take-append-le}
use Rattle.std.proofs.lemmas.List.Elements.{All-head, All-tail}
use Rattle.mit_syntax.specs.Declarations.{variables}
use Rattle.timing_types.specs.Labelled.{LabelledProgram, order_of, labels_of}
use Rattle.label_code.specs.Machine.{Event, Wrote, Began, Ended}
use Rattle.label_code.specs.Visible.{visible}
use Rattle.cycle_machine.specs.declared.turn.Turn.{Turn}
use Rattle.cycle_machine.specs.declared.turn.Turn.TheVariants.{Event as AnEvent, Began as HasBegun, Ended as HasEnded}
use Rattle.cycle_machine.specs.Rest.{events_of}
use Rattle.leak_bound.specs.Relevant.{begun_count, ended_count}
use Rattle.leak_bound.proofs.Balance.{begun-append, ended-append}
use Rattle.leak_bound.proofs.Shown.{visible-append}
use Rattle.leak_audit.specs.declared.sighting.Sighting.{Sighting}
use Rattle.leak_audit.specs.declared.observe.Tally.{Tally}
use Rattle.cycle_machine.specs.declared.turn.Turn.TheVariants.{Halted as DidHalt, Limit as DidLimit}
use Rattle.cycle_machine.specs.Turned.{is_shown_in, IsHidden}
use Rattle.cycle_machine.specs.Rest.{IsTurnBelow}
use Rattle.cycle_machine.proofs.Goes.{IsShownTurn}
use Rattle.cycle_machine.proofs.Unshown.{none_visible}
use Rattle.leak_audit.specs.Observed.{event_of, sequence_of, is_marked, TellsSeen, SeesTurn, Tallies}

module _ (p : LabelledProgram) (o : ℕ) (marked : List Bool) (room : ℕ) (es : List Event) (old : Tally) (t : Tallies p o marked room es old) where
  abbrev sees : List Event → List Event
  sees l = visible (order_of p) (labels_of p) o l

  abbrev Follows : Turn → Tally → Type 0
  Follows turn new = Tallies p o marked room (es ++ events_of turn) new

  -- an assignment that the observer sees
  pub seen_more : (turn : Turn) (x : ℕ) (n : ℤ) (c : ℕ) → turn ≡ AnEvent x n c → (order_of p).flows (labels_of p x) o ≡ true
      → (s : Sighting) (new : Tally) → event_of s ≡ Wrote x n c →
      new.shown ≡ old.shown + 1 → (new.shown ≤ room → new.events.items ≡ old.events.items ++ s ∷ [])
      → (room < new.shown → new.events.items ≡ old.events.items) → new.begun ≡ old.begun → new.ended ≡ old.ended → Follows turn new
  seen_more turn x n c told flows s new is shown kept dropped begun ended =
      let all : sees (es ++ Wrote x n c ∷ []) ≡ sees es ++ Wrote x n c ∷ [] =
      visible-append (order_of p) (labels_of p) o es (Wrote x n c ∷ []) ∙ ap (λ b. sees es ++ cond b (Wrote x n c ∷ []) []) flows in
      let count = t.shown in
      let b = t.begun in
      let f = t.ended in
      let past : room < new.shown → sequence_of new.events ≡ take room (sees es ++ Wrote x n c ∷ []) = λ l.
      ap (map event_of) (dropped l) ∙ (t.kept ∙ sym (take-append-le room (sees es) (Wrote x n c ∷ []) (omega (arith, l, shown, count)))) in
      let fits : new.shown ≤ room → sequence_of new.events ≡ take room (sees es ++ Wrote x n c ∷ []) = λ l.
      let before : sequence_of old.events ≡ sees es = t.kept ∙ take_all room (sees es) (omega (arith, l, shown, count)) in
      ap (map event_of) (kept l) ∙ (map-append event_of old.events.items (s ∷ [])
      ∙ (ap (λ z. z ++ event_of s ∷ []) before ∙ (ap (λ z. sees es ++ z ∷ []) is
      ∙ sym (take_all room (sees es ++ Wrote x n c ∷ []) (omega (arith, l, shown, count, length-append (sees es) (Wrote x n c ∷ []))))))) in
      subst (λ z. Follows z new) (sym told)
      (record {
        shown = omega (arith, shown, count, ap length all, length-append (sees es) (Wrote x n c ∷ []));
        kept = ⊎_elim (λ (l : room < new.shown). past l) (λ (l : new.shown ≤ room). fits l) (cases_lt room new.shown) ∙ ap (take room) (sym all);
        begun = omega (arith, begun, b, begun-append (is_marked marked) es (Wrote x n c ∷ []));
        ended = omega (arith, ended, f, ended-append (is_marked marked) es (Wrote x n c ∷ []));
      })

  -- a mitigation that begins, and one that ends
  pub begun_more : (turn : Turn) (k c : ℕ) → turn ≡ HasBegun k c → (n : ℕ) → n ≡ old.begun + cond (is_marked marked k) 1 0
      → Follows turn (record old { begun = n })
  begun_more turn k c told n is =
      let all : sees (es ++ Began k c ∷ []) ≡ sees es = visible-append (order_of p) (labels_of p) o es (Began k c ∷ []) ∙ append-nil (sees es) in
      let b = t.begun in
      let f = t.ended in
      subst (λ z. Follows z (record old { begun = n })) (sym told)
      (record {
        shown = t.shown ∙ ap length (sym all);
        kept = t.kept ∙ ap (take room) (sym all);
        begun = omega (arith, is, b, begun-append (is_marked marked) es (Began k c ∷ []));
        ended = omega (arith, f, ended-append (is_marked marked) es (Began k c ∷ []));
      })

  pub ended_more : (turn : Turn) (k c : ℕ) → turn ≡ HasEnded k c → (n : ℕ) → n ≡ old.ended + cond (is_marked marked k) 1 0
      → Follows turn (record old { ended = n })
  ended_more turn k c told n is =
      let all : sees (es ++ Ended k c ∷ []) ≡ sees es = visible-append (order_of p) (labels_of p) o es (Ended k c ∷ []) ∙ append-nil (sees es) in
      let b = t.begun in
      let f = t.ended in
      subst (λ z. Follows z (record old { ended = n })) (sym told)
      (record {
        shown = t.shown ∙ ap length (sym all);
        kept = t.kept ∙ ap (take room) (sym all);
        begun = omega (arith, b, begun-append (is_marked marked) es (Ended k c ∷ []));
        ended = omega (arith, is, f, ended-append (is_marked marked) es (Ended k c ∷ []));
      })

-- the same events
pub same_more : (p : LabelledProgram) (o : ℕ) (marked : List Bool) (room : ℕ) (es fs : List Event) (t : Tally) → es ≡ fs → Tallies p o marked room es t
    → Tallies p o marked room fs t
same_more p o marked room es fs t e h = subst (λ z. Tallies p o marked room z t) e h

-- hidden events begin and end nothing
none_begun : (rel : ℕ → Bool) (list : List Bool) (es : List Event) → All (IsHidden list) es → begun_count rel es ≡ 0
none_begun rel list [] h = refl
none_begun rel list (Wrote x n c ∷ es) h = none_begun rel list es (All-tail (IsHidden list) (Wrote x n c) es h)
none_begun rel list (Began k c ∷ es) h = absurd (All-head (IsHidden list) (Began k c) es h)
none_begun rel list (Ended k c ∷ es) h = absurd (All-head (IsHidden list) (Ended k c) es h)

none_ended : (rel : ℕ → Bool) (list : List Bool) (es : List Event) → All (IsHidden list) es → ended_count rel es ≡ 0
none_ended rel list [] h = refl
none_ended rel list (Wrote x n c ∷ es) h = none_ended rel list es (All-tail (IsHidden list) (Wrote x n c) es h)
none_ended rel list (Began k c ∷ es) h = absurd (All-head (IsHidden list) (Began k c) es h)
none_ended rel list (Ended k c ∷ es) h = absurd (All-head (IsHidden list) (Ended k c) es h)

module _ (p : LabelledProgram) (o : ℕ) (list : List Bool) (tells : TellsSeen p o list) where
  unseen : (x : ℕ) → is_shown_in list x ≡ false → (order_of p).flows (labels_of p x) o ≡ false
  unseen x e =
      ⊎_elim (λ (l : x < variables p.program.declarations). sym (tells.each x l) ∙ e)
      (λ (l : variables p.program.declarations ≤ x). let bad : true ≡ false = sym (tells.others x l) ∙ e in absurd cc)
      (cases_lt x (variables p.program.declarations))

  -- a tally of events is one of these with hidden ones behind them
  pub hidden_more : (marked : List Bool) (room : ℕ) (es hs : List Event) (t : Tally) → All (IsHidden list) hs → Tallies p o marked room es t
      → Tallies p o marked room (es ++ hs) t
  hidden_more marked room es hs t h r =
      let all : visible (order_of p) (labels_of p) o (es ++ hs) ≡ visible (order_of p) (labels_of p) o es =
      visible-append (order_of p) (labels_of p) o es hs
      ∙ (ap (λ z. visible (order_of p) (labels_of p) o es ++ z) (none_visible list (order_of p) (labels_of p) o unseen hs h)
      ∙ append-nil (visible (order_of p) (labels_of p) o es)) in
      let b = r.begun in
      let f = r.ended in
      record {
        shown = r.shown ∙ ap length (sym all);
        kept = r.kept ∙ ap (take room) (sym all);
        begun = omega (arith, b, begun-append (is_marked marked) es hs, none_begun (is_marked marked) list hs h);
        ended = omega (arith, f, ended-append (is_marked marked) es hs, none_ended (is_marked marked) list hs h);
      }

  -- the observer sees the assignment of a turn that is shown by the list
  pub sees_turn : (turn : Turn) → IsTurnBelow (variables p.program.declarations) turn → IsShownTurn list turn → SeesTurn p o turn
  sees_turn (AnEvent x n c) l e = sym (tells.each x l) ∙ e
  sees_turn (HasBegun k c) l e = tt
  sees_turn (HasEnded k c) l e = tt
  sees_turn (DidHalt c) l e = tt
  sees_turn (DidLimit c) l e = tt
