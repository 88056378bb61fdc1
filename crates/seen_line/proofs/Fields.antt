-- A field that is written while its run goes on.
use Rattle.std.proofs.Common.{◌≡◌, ℕ, ◌+◌, List, [], ◌∷◌, ◌++◌, refl, sym, ap, ◌∙◌, subst, append_assoc, append-nil, ℤ}
use Rattle.std.proofs.lemmas.List.{map-append}
use Rattle.std.proofs.lemmas.List.Concat.{flat_map-append}
use Rattle.std.specs.Prelude.{Option, Some, None, IfSome, Bool, true, false, cond, map, codes, All}
use Rattle.std.proofs.lemmas.Bool.{cond-true}
use Rattle.std.specs.Io.KnownBytes.{Appends}
use Rattle.std.proofs.KnownBytes.{Appends-nil, Appends-trans}
use Rattle.tim_base.specs.Sinks.{AppendsPrefix}
use Rattle.label_lattice.specs.declared.label.Label.{Label}
use Rattle.mit_syntax.specs.Declarations.{variables}
use Rattle.timing_types.specs.Labelled.{LabelledProgram, order_of, labels_of}
use Rattle.env_contract.specs.Env.{Env}
use Rattle.label_code.specs.Machine.{Event, Wrote}
use Rattle.label_code.specs.Visible.{visible}
use Rattle.cycle_machine.specs.declared.turn.Turn.{Turn}
use Rattle.cycle_machine.specs.declared.turn.Turn.TheVariants.{Event as AnEvent, Began as HasBegun, Ended as HasEnded, Halted as DidHalt, Limit as DidLimit}
use Rattle.cycle_machine.specs.Turned.{Loaded, IsHidden, IsStop, CallWent}
use Rattle.cycle_machine.specs.declared.end.RunEnd.{RunEnd}
use Rattle.cycle_machine.specs.declared.end.RunEnd.TheVariants.{Halted, Limit}
use Rattle.cycle_machine.specs.Rest.{rest_of, events_of, end_of_turn, IsTurnBelow}
use Rattle.cycle_machine.specs.Rest.{Told}
use Rattle.cycle_machine.proofs.Goes.{after_events, next_turn, last_turn}
use Rattle.event_print.specs.Text.{TellsShown}
use Rattle.event_print.proofs.Listed.{IsShown, none_shown}
use Rattle.event_print.proofs.Printed.{visible-append, prefix_then}
use Rattle.seen_line.specs.Field.{item, item_of, spaced, field_of, seen_text, ArePrintable, lead, piece, next_none, is_last, IsPrintableTurn}

-- what is written so far: nothing, or pieces with spaces between
abbrev pub part : List (List ℕ) → List ℕ
part [] = []
part (w ∷ ws) = w ++ spaced ws

abbrev pub is_nil : {A : Type 0} → List A → Bool
is_nil [] = true
is_nil (x ∷ xs) = false

part_more : (ws : List (List ℕ)) (w : List ℕ) → part (ws ++ w ∷ []) ≡ part ws ++ (lead (is_nil ws) ++ w)
part_more [] w = append-nil w
part_more (u ∷ us) w =
    ap (λ z. u ++ z) (flat_map-append (λ x. codes " " ++ x) us (w ∷ []))
    ∙ (ap (λ z. u ++ (spaced us ++ z)) (append-nil (codes " " ++ w))
    ∙ sym (append_assoc u (spaced us) (codes " " ++ w)))

-- what is written begins the field
goes : (ws us : List (List ℕ)) → (rest : List ℕ) × (part ws ++ rest ≡ field_of (ws ++ us))
goes [] us = (field_of us, refl)
goes (w ∷ ws) us = (spaced us, append_assoc w (spaced ws) (spaced us) ∙ ap (λ z. w ++ z) (sym (flat_map-append (λ x. codes " " ++ x) ws us)))

part_last : (ws : List (List ℕ)) → field_of ws ≡ part ws ++ cond (is_nil ws) (codes "-") []
part_last [] = refl
part_last (w ∷ ws) = sym (append-nil (w ++ spaced ws))

printable-append : (k : ℕ) (es fs : List Event) → ArePrintable k es → ArePrintable k fs → ArePrintable k (es ++ fs)
printable-append k [] fs p q = q
printable-append k (e ∷ es) fs p q = (p.0, printable-append k es fs p.1 q)

module _ (p : LabelledProgram) (o : Label) where
  abbrev pub seen_of : List Event → List Event
  seen_of es = visible (order_of p) (labels_of p) o.number es

  abbrev pub items : List Event → List (List ℕ)
  items es = map (item_of p.program.declarations) (seen_of es)

  seen-append : (es fs : List Event) → seen_of (es ++ fs) ≡ seen_of es ++ seen_of fs
  seen-append es fs = visible-append (order_of p) (labels_of p) o.number es fs

  items-append : (es fs : List Event) → items (es ++ fs) ≡ items es ++ items fs
  items-append es fs = ap (map (item_of p.program.declarations)) (seen-append es fs) ∙ map-append (item_of p.program.declarations) (seen_of es) (seen_of fs)

  -- what is hidden adds no item
  items_passed : (list : List Bool) → TellsShown p (Some o) list → (es fs : List Event) → All (IsHidden list) es → items (es ++ fs) ≡ items fs
  items_passed list tells es fs h = items-append es fs ∙ ap (λ z. map (item_of p.program.declarations) z ++ items fs) (none_shown p (Some o) list tells es h)

  seen_passed : (list : List Bool) → TellsShown p (Some o) list → (es fs : List Event) → All (IsHidden list) es → seen_of (es ++ fs) ≡ seen_of fs
  seen_passed list tells es fs h = seen-append es fs ∙ ap (λ z. z ++ seen_of fs) (none_shown p (Some o) list tells es h)

  one_seen : (x : ℕ) (n : ℤ) (c : ℕ) → IsShown p (Some o) (AnEvent x n c) → seen_of (Wrote x n c ∷ []) ≡ Wrote x n c ∷ []
  one_seen x n c e = cond-true ((order_of p).flows (labels_of p x) o.number) (Wrote x n c ∷ []) [] e

  -- a turn with an event that is seen adds its item
  module _ (ws : List (List ℕ)) where
    turn_adds : (t : Turn) → IsShown p (Some o) t → is_last t ≡ false → part (ws ++ items (events_of t)) ≡ part ws ++ piece p.program.declarations (is_nil ws) t
    turn_adds (AnEvent x n c) s e = ap (λ z. part (ws ++ map (item_of p.program.declarations) z)) (one_seen x n c s)
        ∙ part_more ws (item p.program.declarations x n c)
    turn_adds (HasBegun k c) s e = ap part (append-nil ws) ∙ sym (append-nil (part ws))
    turn_adds (HasEnded k c) s e = ap part (append-nil ws) ∙ sym (append-nil (part ws))
    turn_adds (DidHalt c) s e = absurd cc
    turn_adds (DidLimit c) s e = absurd cc

    turn_nil : (t : Turn) → IsShown p (Some o) t → is_last t ≡ false → next_none (is_nil ws) t ≡ is_nil (ws ++ items (events_of t))
    turn_nil (AnEvent x n c) s e = never ws ∙ ap (λ z. is_nil (ws ++ map (item_of p.program.declarations) z)) (sym (one_seen x n c s))
      where
        never : (vs : List (List ℕ)) → false ≡ is_nil (vs ++ item p.program.declarations x n c ∷ [])
        never [] = refl
        never (v ∷ vs) = refl
    turn_nil (HasBegun k c) s e = ap is_nil (sym (append-nil ws))
    turn_nil (HasEnded k c) s e = ap is_nil (sym (append-nil ws))
    turn_nil (DidHalt c) s e = absurd cc
    turn_nil (DidLimit c) s e = absurd cc

    last_adds : (t : Turn) → is_last t ≡ true → part ws ++ piece p.program.declarations (is_nil ws) t ≡ field_of ws
    last_adds (AnEvent x n c) e = absurd cc
    last_adds (HasBegun k c) e = absurd cc
    last_adds (HasEnded k c) e = absurd cc
    last_adds (DidHalt c) e = sym (part_last ws)
    last_adds (DidLimit c) e = sym (part_last ws)

  turn_printable : (k : ℕ) (t : Turn) → IsTurnBelow k t → IsPrintableTurn t → is_last t ≡ false → ArePrintable k (seen_of (events_of t))
  turn_printable k (AnEvent x n c) b q e = go ((order_of p).flows (labels_of p x) o.number)
    where
      go : (b : Bool) → ArePrintable k (cond b (Wrote x n c ∷ []) [])
      go true = ((b, q.0, q.1), tt)
      go false = tt
  turn_printable k (HasBegun j c) b q e = tt
  turn_printable k (HasEnded j c) b q e = tt
  turn_printable k (DidHalt c) b q e = absurd cc
  turn_printable k (DidLimit c) b q e = absurd cc

pub none_more : (t : Turn) → is_last t ≡ false → end_of_turn t ≡ None
none_more (AnEvent x n c) e = refl
none_more (HasBegun k c) e = refl
none_more (HasEnded k c) e = refl
none_more (DidHalt c) e = absurd cc
none_more (DidLimit c) e = absurd cc

told_end : (t : Turn) → is_last t ≡ true → (end : RunEnd) × (end_of_turn t ≡ Some end)
told_end (AnEvent x n c) e = absurd cc
told_end (HasBegun k c) e = absurd cc
told_end (HasEnded k c) e = absurd cc
told_end (DidHalt c) e = (Halted c, refl)
told_end (DidLimit c) e = (Limit c, refl)

-- the items of these events of the run are written, and the rest is what the machine still does
pub record Fields {E : Type 0} (v : Env E) (limit : ℕ) (p : LabelledProgram) (o : Label) (old new : Loaded E) (none : Bool)
    (taken taken' : Option (List ℕ)) : Type 0 where
  pub events : List Event
  pub rest : rest_of v limit old ≡ after_events events (rest_of v limit new)
  pub code : new.code ≡ old.code
  pub nothing : none ≡ is_nil (items p o events)
  pub written : Appends taken taken' (part (items p o events))
  pub printable : ArePrintable (variables p.program.declarations) (seen_of p o events)

module _ {E : Type 0} (v : Env E) (limit : ℕ) (p : LabelledProgram) (o : Label) (list : List Bool) (tells : TellsShown p (Some o) list) where
  pub first_field : (m : Loaded E) (taken : Option (List ℕ)) → Fields v limit p o m m true taken taken
  first_field m taken = record { events = []; rest = refl; code = refl; nothing = refl; written = Appends-nil taken; printable = tt }

  pub more_field : (old mid new : Loaded E) (turn : Turn) (none none' : Bool) (a b c : Option (List ℕ))
      → Fields v limit p o old mid none a b → is_last turn ≡ false →
      IfSome mid.stopped IsStop → CallWent v list limit mid turn new → IsShown p (Some o) turn → none' ≡ next_none none turn
      → Appends b c (piece p.program.declarations none turn) →
      IsTurnBelow (variables p.program.declarations) turn → IsPrintableTurn turn → Fields v limit p o old new none' a c
  more_field old mid new turn none none' a b c r last is_stop went is next w below printable =
      let n = next_turn v list limit mid new turn is_stop went (none_more turn last) in
      let ws : List (List ℕ) = items p o r.events in
      let es : List Event = n.hidden ++ events_of turn in
      let all : items p o (r.events ++ es) ≡ ws ++ items p o (events_of turn) =
      items-append p o r.events es ∙ ap (λ z. ws ++ z) (items_passed p o list tells n.hidden (events_of turn) n.unseen) in
      let sees : seen_of p o (r.events ++ es) ≡ seen_of p o r.events ++ seen_of p o (events_of turn) =
      seen-append p o r.events es ∙ ap (λ z. seen_of p o r.events ++ z) (seen_passed p o list tells n.hidden (events_of turn) n.unseen) in
      record {
        events = r.events ++ es;
        rest = r.rest ∙ (ap (after_events r.events) n.rest ∙ ap (λ z. let k : Told = record { events = z; end = (rest_of v limit new).end } in
            k) (sym (append_assoc r.events es (rest_of v limit new).events)));
        code = n.code ∙ r.code;
        nothing = next ∙ (ap (λ z. next_none z turn) r.nothing ∙ (turn_nil p o ws turn is last ∙ ap is_nil (sym all)));
        written =
            subst (Appends a c) (ap (λ z. part ws ++ piece p.program.declarations z turn) r.nothing ∙ (sym (turn_adds p o ws turn is last) ∙ ap part (sym all)))
            (Appends-trans a b c (part ws) (piece p.program.declarations none turn) r.written w);
        printable =
            subst (ArePrintable (variables p.program.declarations)) (sym sees)
            (printable-append (variables p.program.declarations) (seen_of p o r.events) (seen_of p o (events_of turn)) r.printable
            (turn_printable p o (variables p.program.declarations) turn below printable last));
      }

  -- where the run ends, the field is whole
  last_seen : (old mid new : Loaded E) (turn : Turn) (none : Bool) (a b : Option (List ℕ)) (r : Fields v limit p o old mid none a b) → is_last turn ≡ true →
      IfSome mid.stopped IsStop → CallWent v list limit mid turn new → seen_of p o (rest_of v limit old).events ≡ seen_of p o r.events
  last_seen old mid new turn none a b r last is_stop went =
      let end = told_end turn last in
      let l = last_turn v list limit mid new turn end.0 is_stop went end.1 in
      ap (λ t. seen_of p o t.events) (r.rest ∙ ap (after_events r.events) l.rest)
      ∙ (seen-append p o r.events l.hidden ∙ (ap (λ z. seen_of p o r.events ++ z) (none_shown p (Some o) list tells l.hidden l.unseen)
      ∙ append-nil (seen_of p o r.events)))

  pub whole_field : (old mid new : Loaded E) (turn : Turn) (none : Bool) (a b c : Option (List ℕ)) (r : Fields v limit p o old mid none a b)
      → is_last turn ≡ true →
      IfSome mid.stopped IsStop → CallWent v list limit mid turn new → Appends b c (piece p.program.declarations none turn)
      → Appends a c (seen_text p o (rest_of v limit old))
  whole_field old mid new turn none a b c r last is_stop went w =
      subst (Appends a c)
      (ap (λ z. part (items p o r.events) ++ piece p.program.declarations z turn) r.nothing
      ∙ (last_adds p o (items p o r.events) turn last
      ∙ ap (λ es. field_of (map (item_of p.program.declarations) es)) (sym (last_seen old mid new turn none a b r last is_stop went))))
      (Appends-trans a b c (part (items p o r.events)) (piece p.program.declarations none turn) r.written w)

  pub whole_printable : (old mid new : Loaded E) (turn : Turn) (none : Bool) (a b : Option (List ℕ)) (r : Fields v limit p o old mid none a b)
      → is_last turn ≡ true →
      IfSome mid.stopped IsStop → CallWent v list limit mid turn new
      → ArePrintable (variables p.program.declarations) (seen_of p o (rest_of v limit old).events)
  whole_printable old mid new turn none a b r last is_stop went =
      subst (ArePrintable (variables p.program.declarations)) (sym (last_seen old mid new turn none a b r last is_stop went)) r.printable

  -- where the sink fails, a prefix of the field is written
  pub prefix_field : (old mid new : Loaded E) (turn : Turn) (none : Bool) (a b c : Option (List ℕ)) (r : Fields v limit p o old mid none a b) →
      IfSome mid.stopped IsStop → CallWent v list limit mid turn new → IsShown p (Some o) turn → AppendsPrefix b c (piece p.program.declarations none turn)
      → AppendsPrefix a c (seen_text p o (rest_of v limit old))
  prefix_field old mid new turn none a b c r is_stop went is q = by (is_last turn) refl
    where
      ws : List (List ℕ)
      ws = items p o r.events

      by : (l : Bool) → is_last turn ≡ l → AppendsPrefix a c (seen_text p o (rest_of v limit old))
      by true last =
          prefix_then a b c (part ws) (piece p.program.declarations none turn) [] _ r.written q
          (ap (λ z. part ws ++ z) (append-nil (piece p.program.declarations none turn))
          ∙ (ap (λ z. part ws ++ piece p.program.declarations z turn) r.nothing
          ∙ (last_adds p o ws turn last ∙ ap (λ es. field_of (map (item_of p.program.declarations) es))
          (sym (last_seen old mid new turn none a b r last is_stop went)))))
      by false last =
          let n = next_turn v list limit mid new turn is_stop went (none_more turn last) in
          let es : List Event = n.hidden ++ events_of turn in
          let us : List (List ℕ) = items p o (rest_of v limit new).events in
          let its : List (List ℕ) = items p o (events_of turn) in
          let rest = goes (ws ++ its) us in
          let all : (rest_of v limit old).events ≡ (r.events ++ es) ++ (rest_of v limit new).events =
          ap (λ t. t.events) r.rest ∙ (ap (λ z. r.events ++ z.events) n.rest ∙ sym (append_assoc r.events es (rest_of v limit new).events)) in
          let mine : items p o (r.events ++ es) ≡ ws ++ its =
          items-append p o r.events es ∙ ap (λ z. ws ++ z) (items_passed p o list tells n.hidden (events_of turn) n.unseen) in
          let same : items p o (rest_of v limit old).events ≡ (ws ++ its) ++ us =
          ap (items p o) all ∙ (items-append p o (r.events ++ es) (rest_of v limit new).events ∙ ap (λ z. z ++ us) mine) in
          prefix_then a b c (part ws) (piece p.program.declarations none turn) rest.0 _ r.written q
          (sym (append_assoc (part ws) (piece p.program.declarations none turn) rest.0)
          ∙ (ap (λ z. (part ws ++ piece p.program.declarations z turn) ++ rest.0) r.nothing
          ∙ (ap (λ z. z ++ rest.0) (sym (turn_adds p o ws turn is last))
          ∙ (rest.1 ∙ ap field_of (sym same)))))
