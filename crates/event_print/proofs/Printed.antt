-- What has been printed of a run so far.
use Rattle.std.proofs.Common.{◌≡◌, ℕ, List, [], ◌∷◌, ◌++◌, refl, sym, ap, ◌∙◌, subst, append_assoc, append-nil, arith, length, length-append, take, ◌≤◌, ◌+◌}
use Rattle.std.proofs.Common.{inl, ℤ}
use Rattle.std.proofs.Math.Seq.{take-append-add}
use Rattle.std.proofs.lemmas.List.{take-append-le}
use Rattle.std.specs.Prelude.{Option, Some, None, IfSome, Bool, true, false, cond, All}
use Rattle.std.proofs.lemmas.Bool.{cond-true}
use Rattle.std.specs.Io.KnownBytes.{Appends}
use Rattle.std.proofs.KnownBytes.{Appends-nil, Appends-trans}
use Rattle.tim_base.specs.Sinks.{AppendsPrefix}
use Rattle.label_lattice.specs.declared.label.Label.{Label}
use Rattle.label_lattice.specs.Lattice.{Lattice}
use Rattle.mit_syntax.specs.Declarations.{Declaration}
use Rattle.timing_types.specs.Labelled.{LabelledProgram, order_of, labels_of}
use Rattle.env_contract.specs.Env.{Env}
use Rattle.label_code.specs.Machine.{Event, Wrote, Began, Ended}
use Rattle.label_code.specs.Visible.{visible}
use Rattle.cycle_machine.specs.declared.turn.Turn.{Turn}
use Rattle.cycle_machine.specs.declared.turn.Turn.TheVariants.{Event as AnEvent, Began as HasBegun, Ended as HasEnded, Halted as DidHalt, Limit as DidLimit}
use Rattle.cycle_machine.specs.Seen.{seen}
use Rattle.cycle_machine.specs.Turned.{Loaded, IsStop, CallWent}
use Rattle.cycle_machine.specs.Reached.{Reached}
use Rattle.cycle_machine.specs.declared.end.RunEnd.{RunEnd}
use Rattle.cycle_machine.specs.declared.end.RunEnd.TheVariants.{Halted, Limit}
use Rattle.event_print.specs.Text.{lines_of, event_line, last_line, shown, text_of, text_of_turn, TellsShown}
use Rattle.cycle_machine.specs.Rest.{Told, rest_of, end_of_turn, events_of, turn_of, stopped_at, stands_at, StandsAfter, rest_from}
use Rattle.cycle_machine.specs.Turned.{IsHidden}
use Rattle.cycle_machine.proofs.Goes.{after_events, Next, Last, next_turn, last_turn}
use Rattle.event_print.proofs.Listed.{IsShown, none_shown}

-- these events of the run are printed, and the rest is what the machine still does
pub record Printed {E : Type 0} (v : Env E) (limit : ℕ) (p : LabelledProgram) (o : Option Label) (old new : Loaded E)
    (taken taken' : Option (List ℕ)) : Type 0 where
  pub events : List Event
  pub rest : rest_of v limit old ≡ after_events events (rest_of v limit new)
  pub written : Appends taken taken' (lines_of p.program.declarations (shown p o events))

pub visible-append : (lat : Lattice) (g : ℕ → ℕ) (o : ℕ) (es fs : List Event) → visible lat g o (es ++ fs) ≡ visible lat g o es ++ visible lat g o fs
visible-append lat g o [] fs = refl
visible-append lat g o (Wrote x n c ∷ es) fs = go (lat.flows (g x) o) (visible-append lat g o es fs)
  where
    go : (b : Bool) → visible lat g o (es ++ fs) ≡ visible lat g o es ++ visible lat g o fs →
        cond b (Wrote x n c ∷ visible lat g o (es ++ fs)) (visible lat g o (es ++ fs)) ≡ cond b (Wrote x n c ∷ visible lat g o es) (visible lat g o es)
        ++ visible lat g o fs
    go true e = ap (λ z. Wrote x n c ∷ z) e
    go false e = e
visible-append lat g o (Began k c ∷ es) fs = visible-append lat g o es fs
visible-append lat g o (Ended k c ∷ es) fs = visible-append lat g o es fs

shown-append : (p : LabelledProgram) (o : Option Label) (es fs : List Event) → shown p o (es ++ fs) ≡ shown p o es ++ shown p o fs
shown-append p None es fs = refl
shown-append p (Some l) es fs = visible-append (order_of p) (labels_of p) l.number es fs

lines-append : (ds : List Declaration) (es fs : List Event) → lines_of ds (es ++ fs) ≡ lines_of ds es ++ lines_of ds fs
lines-append ds [] fs = refl
lines-append ds (Wrote x n c ∷ es) fs =
    ap (λ z. event_line ds x n c ++ z) (lines-append ds es fs) ∙ sym (append_assoc (event_line ds x n c) (lines_of ds es) (lines_of ds fs))
lines-append ds (Began k c ∷ es) fs = lines-append ds es fs
lines-append ds (Ended k c ∷ es) fs = lines-append ds es fs

abbrev lines : LabelledProgram → Option Label → List Event → List ℕ
lines p o es = lines_of p.program.declarations (shown p o es)

both : (p : LabelledProgram) (o : Option Label) (es fs : List Event) → lines p o (es ++ fs) ≡ lines p o es ++ lines p o fs
both p o es fs = ap (lines_of p.program.declarations) (shown-append p o es fs) ∙ lines-append p.program.declarations (shown p o es) (shown p o fs)

text_after : (p : LabelledProgram) (o : Option Label) (es : List Event) (t : Told) → text_of p o (after_events es t) ≡ lines p o es ++ text_of p o t
text_after p o es t = ap (λ z. z ++ last_line t.end) (both p o es t.events) ∙ append_assoc (lines p o es) (lines p o t.events) (last_line t.end)

-- what is hidden has no lines
passed : (p : LabelledProgram) (o : Option Label) (list : List Bool) → TellsShown p o list → (es fs : List Event) → All (IsHidden list) es
    → lines p o (es ++ fs) ≡ lines p o fs
passed p o list t es fs h = both p o es fs ∙ ap (λ z. lines_of p.program.declarations z ++ lines p o fs) (none_shown p o list t es h)

one_shown : (p : LabelledProgram) (o : Option Label) (x : ℕ) (n : ℤ) (c : ℕ) → IsShown p o (AnEvent x n c) → shown p o (Wrote x n c ∷ []) ≡ Wrote x n c ∷ []
one_shown p None x n c e = refl
one_shown p (Some l) x n c e = cond-true ((order_of p).flows (labels_of p x) l.number) (Wrote x n c ∷ []) [] e

-- the text of a turn with an event that is shown is the line of its event
turn_text : (p : LabelledProgram) (o : Option Label) (t : Turn) → IsShown p o t → end_of_turn t ≡ None
    → text_of_turn p.program.declarations t ≡ lines p o (events_of t)
turn_text p o (AnEvent x n c) s e = sym (ap (lines_of p.program.declarations) (one_shown p o x n c s) ∙ append-nil (event_line p.program.declarations x n c))
turn_text p None (HasBegun k c) s e = refl
turn_text p (Some l) (HasBegun k c) s e = refl
turn_text p None (HasEnded k c) s e = refl
turn_text p (Some l) (HasEnded k c) s e = refl
turn_text p o (DidHalt c) s e = absurd cc
turn_text p o (DidLimit c) s e = absurd cc

end_text : (ds : List Declaration) (t : Turn) (end : RunEnd) → end_of_turn t ≡ Some end → text_of_turn ds t ≡ last_line end
end_text ds (AnEvent x n c) end e = absurd cc
end_text ds (HasBegun k c) end e = absurd cc
end_text ds (HasEnded k c) end e = absurd cc
end_text ds (DidHalt c) end e = let same : Halted c ≡ end = cc in ap last_line same
end_text ds (DidLimit c) end e = let same : Limit c ≡ end = cc in ap last_line same

pub turn_again : (t : Turn) (end : RunEnd) → end_of_turn t ≡ Some end → t ≡ turn_of end
turn_again (AnEvent x n c) end e = absurd cc
turn_again (HasBegun k c) end e = absurd cc
turn_again (HasEnded k c) end e = absurd cc
turn_again (DidHalt c) end e = let same : Halted c ≡ end = cc in ap turn_of same
turn_again (DidLimit c) end e = let same : Limit c ≡ end = cc in ap turn_of same

shown_none : (p : LabelledProgram) (o : Option Label) → shown p o [] ≡ []
shown_none p None = refl
shown_none p (Some l) = refl

pub prefix_then : (a b c : Option (List ℕ)) (xs ys zs all : List ℕ) → Appends a b xs → AppendsPrefix b c ys → xs ++ (ys ++ zs) ≡ all → AppendsPrefix a c all
prefix_then a b c xs ys zs all p q e =
    let k : ℕ = q.0 in
    let short : k ≤ length ys = q.1 in
    let whole : length all ≡ length xs + (length ys + length zs) =
    ap length (sym e) ∙ (length-append xs (ys ++ zs) ∙ ap (λ n. length xs + n) (length-append ys zs)) in
    let taken : xs ++ take k ys ≡ take (length xs + k) all =
    ap (λ z. xs ++ z) (sym (take-append-le k ys zs short)) ∙ sym (take-append-add xs (ys ++ zs) k) ∙ ap (take (length xs + k)) e in
    (length xs + k, omega (arith, whole, short), subst (Appends a c) taken (Appends-trans a b c xs (take k ys) p q.2))

module _ {E : Type 0} (v : Env E) (limit : ℕ) where
  pub none_printed : (p : LabelledProgram) (o : Option Label) (m : Loaded E) (taken : Option (List ℕ)) → Printed v limit p o m m taken taken
  none_printed p o m taken = record {
    events = [];
    rest = refl;
    written = subst (Appends taken taken) (ap (lines_of p.program.declarations) (sym (shown_none p o))) (Appends-nil taken);
  }

  pub stands_first : (m : Loaded E) → StandsAfter v limit m m
  stands_first m = record { code = refl; place = by m.stopped refl }
    where
      told_end : (t : Turn) (r : Told) → r ≡ stopped_at t → stopped_at t ≡ record { events = []; end = r.end }
      told_end (AnEvent x n c) r e = ap (λ z. let k : Told = record { events = []; end = z.end } in k) (sym e)
      told_end (HasBegun k c) r e = ap (λ z. let k : Told = record { events = []; end = z.end } in k) (sym e)
      told_end (HasEnded k c) r e = ap (λ z. let k : Told = record { events = []; end = z.end } in k) (sym e)
      told_end (DidHalt c) r e = ap (λ z. let k : Told = record { events = []; end = z.end } in k) (sym e)
      told_end (DidLimit c) r e = ap (λ z. let k : Told = record { events = []; end = z.end } in k) (sym e)

      by : (s : Option Turn) → m.stopped ≡ s → stands_at v limit m m.state s
      by None e = ([], record { count = 0; ends = refl; within = inl refl })
      by (Some t) e = told_end t (rest_of v limit m) (ap (λ s. rest_from v limit m.code.instrs m.state s) e)

  pub more_printed : (p : LabelledProgram) (o : Option Label) (list : List Bool) (old mid new : Loaded E) (turn : Turn) (a b c : Option (List ℕ))
      → TellsShown p o list → Printed v limit p o old mid a b →
      Next v list limit mid new turn → IsShown p o turn → end_of_turn turn ≡ None → Appends b c (text_of_turn p.program.declarations turn)
      → Printed v limit p o old new a c
  more_printed p o list old mid new turn a b c tells r n is none w =
      let es : List Event = n.hidden ++ events_of turn in
      record {
        events = r.events ++ es;
        rest = r.rest ∙ (ap (after_events r.events) n.rest ∙ ap (λ z. let k : Told = record { events = z; end = (rest_of v limit new).end } in
            k) (sym (append_assoc r.events es (rest_of v limit new).events)));
        written =
            subst (Appends a c)
            (ap (λ z. lines p o r.events ++ z) (turn_text p o turn is none ∙ sym (passed p o list tells n.hidden (events_of turn) n.unseen))
            ∙ sym (both p o r.events es))
            (Appends-trans a b c _ _ r.written w);
      }

  pub stands_next : (list : List Bool) (old mid new : Loaded E) (turn : Turn) → StandsAfter v limit old mid → Next v list limit mid new turn
      → StandsAfter v limit old new
  stands_next list old mid new turn s n = record { code = n.code ∙ s.code; place = subst (stands_at v limit old new.state) (sym n.is) on }
    where
      was : (events : List Event) × Reached v old.code.instrs limit (seen old.state) events mid.state
      was = subst (stands_at v limit old mid.state) n.was s.place

      on : (events : List Event) × Reached v old.code.instrs limit (seen old.state) events new.state
      on = (
        was.0 ++ (n.hidden ++ events_of turn),
        subst (λ z. Reached v z limit (seen old.state) (was.0 ++ (n.hidden ++ events_of turn)) new.state) (ap (λ z. z.instrs) s.code)
            (n.reaches (seen old.state) was.0 (subst (λ z. Reached v z limit (seen old.state) was.0 mid.state) (ap (λ z. z.instrs) (sym s.code)) was.1)),
      )

  -- the end of the run, where the machine tells it
  pub end_is : (p : LabelledProgram) (o : Option Label) (list : List Bool) (old mid new : Loaded E) (turn : Turn) (end : RunEnd) (a b : Option (List ℕ))
      → Printed v limit p o old mid a b → Last v list limit mid new turn end →
      end ≡ (rest_of v limit old).end
  end_is p o list old mid new turn end a b r l = sym (ap (λ z. z.end) r.rest ∙ ap (λ z. z.end) l.rest)

  stands_told : (t : Turn) (end : RunEnd) → end_of_turn t ≡ Some end → stopped_at t ≡ record { events = []; end = end }
  stands_told t end e = ap stopped_at (turn_again t end e) ∙ told end
    where
      told : (q : RunEnd) → stopped_at (turn_of q) ≡ record { events = []; end = q }
      told (Halted n) = refl
      told (Limit n) = refl

  pub stands_last : (p : LabelledProgram) (o : Option Label) (list : List Bool) (old mid new : Loaded E) (turn : Turn) (end : RunEnd) (a b : Option (List ℕ))
      → Printed v limit p o old mid a b → StandsAfter v limit old mid → Last v list limit mid new turn end →
      end_of_turn turn ≡ Some end → StandsAfter v limit old new
  stands_last p o list old mid new turn end a b r s l e = record {
    code = l.code ∙ s.code;
    place = subst (stands_at v limit old new.state) (sym l.is)
        (stands_told turn end e ∙ ap (λ z. let k : Told = record { events = []; end = z } in k) (end_is p o list old mid new turn end a b r l));
  }

  -- what is hidden before the end has no lines
  last_text : (p : LabelledProgram) (o : Option Label) (list : List Bool) (mid new : Loaded E) (turn : Turn) (end : RunEnd) → TellsShown p o list
      → end_of_turn turn ≡ Some end →
      Last v list limit mid new turn end → text_of_turn p.program.declarations turn ≡ text_of p o (rest_of v limit mid)
  last_text p o list mid new turn end tells e l =
      end_text p.program.declarations turn end e
      ∙ (sym (ap (λ z. lines_of p.program.declarations z ++ last_line end) (none_shown p o list tells l.hidden l.unseen)) ∙ ap (text_of p o) (sym l.rest))

  pub all_printed : (p : LabelledProgram) (o : Option Label) (list : List Bool) (old mid new : Loaded E) (turn : Turn) (end : RunEnd) (a b c : Option (List ℕ))
      → TellsShown p o list → Printed v limit p o old mid a b →
      Last v list limit mid new turn end → end_of_turn turn ≡ Some end → Appends b c (text_of_turn p.program.declarations turn)
      → Appends a c (text_of p o (rest_of v limit old))
  all_printed p o list old mid new turn end a b c tells r l e w =
      subst (Appends a c)
      (ap (λ z. lines p o r.events ++ z) (last_text p o list mid new turn end tells e l)
      ∙ (sym (text_after p o r.events (rest_of v limit mid)) ∙ ap (text_of p o) (sym r.rest)))
      (Appends-trans a b c _ _ r.written w)

  -- where the sink fails in a turn's line, a prefix of the text is written, and the machine stands after the turn
  pub prefix_printed : (p : LabelledProgram) (o : Option Label) (list : List Bool) (old mid new : Loaded E) (turn : Turn) (a b c : Option (List ℕ))
      → TellsShown p o list → Printed v limit p o old mid a b →
      IfSome mid.stopped IsStop → CallWent v list limit mid turn new → IsShown p o turn → AppendsPrefix b c (text_of_turn p.program.declarations turn)
      → AppendsPrefix a c (text_of p o (rest_of v limit old))
  prefix_printed p o list old mid new turn a b c tells r is_stop went is q = by (end_of_turn turn) refl
    where
      whole : lines p o r.events ++ text_of p o (rest_of v limit mid) ≡ text_of p o (rest_of v limit old)
      whole = sym (text_after p o r.events (rest_of v limit mid)) ∙ ap (text_of p o) (sym r.rest)

      by : (e : Option RunEnd) → end_of_turn turn ≡ e → AppendsPrefix a c (text_of p o (rest_of v limit old))
      by None none =
          let n = next_turn v list limit mid new turn is_stop went none in
          let es : List Event = n.hidden ++ events_of turn in
          let here : text_of_turn p.program.declarations turn ≡ lines p o es =
          turn_text p o turn is none ∙ sym (passed p o list tells n.hidden (events_of turn) n.unseen) in
          let then : text_of_turn p.program.declarations turn ++ text_of p o (rest_of v limit new) ≡ text_of p o (rest_of v limit mid) =
          ap (λ z. z ++ text_of p o (rest_of v limit new)) here ∙ (sym (text_after p o es (rest_of v limit new)) ∙ ap (text_of p o) (sym n.rest)) in
          prefix_then a b c (lines p o r.events) (text_of_turn p.program.declarations turn) (text_of p o (rest_of v limit new)) _ r.written q
          (ap (λ z. lines p o r.events ++ z) then ∙ whole)
      by (Some end) some =
          let l = last_turn v list limit mid new turn end is_stop went some in
          let text : text_of_turn p.program.declarations turn ≡ text_of p o (rest_of v limit mid) = last_text p o list mid new turn end tells some l in
          prefix_then a b c (lines p o r.events) (text_of_turn p.program.declarations turn) [] _ r.written q
          (ap (λ z. lines p o r.events ++ z) (append-nil (text_of_turn p.program.declarations turn) ∙ text) ∙ whole)

  pub stands_turn : (p : LabelledProgram) (o : Option Label) (list : List Bool) (old mid new : Loaded E) (turn : Turn) (a b : Option (List ℕ))
      → Printed v limit p o old mid a b → StandsAfter v limit old mid →
      IfSome mid.stopped IsStop → CallWent v list limit mid turn new → StandsAfter v limit old new
  stands_turn p o list old mid new turn a b r s is_stop went = by (end_of_turn turn) refl
    where
      by : (e : Option RunEnd) → end_of_turn turn ≡ e → StandsAfter v limit old new
      by None none = stands_next list old mid new turn s (next_turn v list limit mid new turn is_stop went none)
      by (Some end) some = stands_last p o list old mid new turn end a b r s (last_turn v list limit mid new turn end is_stop went some) some
