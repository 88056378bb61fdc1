-- The runs of a space, one more at a time.
use Rattle.std.proofs.Common.{◌≡◌, ◌∙◌, sym, ap, ℕ, ◌+◌, ◌-◌, ◌<◌, ◌≤◌, List, length, take, Bool, Some, None, Result, arith}
use Rattle.std.proofs.lemmas.List.{length-map, take_all}
use Rattle.env_contract.specs.declared.place.Touch.{Touch}
use Rattle.env_contract.specs.Env.{Env}
use Rattle.label_lattice.specs.Order.{Order}
use Rattle.timing_types.specs.Labelled.{LabelledProgram}
use Rattle.label_code.specs.Machine.{Event}
use Rattle.cycle_machine.specs.declared.end.RunEnd.{RunEnd}
use Rattle.class_counts.specs.Tally.{total}
use Rattle.space_starts.specs.Space.{SpaceValue, start_at}
use Rattle.leak_audit.specs.declared.observe.Observed.{Observed}
use Rattle.leak_audit.specs.Agreement.{start_of}
use Rattle.leak_audit.specs.Observed.{event_of, sequence_of, ObservesRun}
use Rattle.leak_classes.specs.declared.fault.WalkFault.{WalkFault}
use Rattle.leak_classes.specs.declared.known.Known.{Known}
use Rattle.leak_classes.specs.Classes.{Classes, no_classes, with_start, events_in}
use Rattle.leak_classes.specs.Walk.{refusal, AreClasses, IsWalkFault}
use Rattle.leak_classes.specs.Views.{classes_of, IsCounted}
use Rattle.leak_classes.proofs.Walked.{walk, next_walk, last_walk, no_walk, walk_classes, walk_fault}
use Rattle.space_walk.specs.Shown.{shown_at, end_at, one}

module _ {E : Type 0} (v : Env E) (made : Order → List Touch → E) (p : LabelledProgram) (o t : ℕ) (s : SpaceValue) (b e : ℕ) where
  abbrev pub seen : ℕ → List Event
  seen = shown_at v made p o t s

  abbrev pub end : ℕ → RunEnd
  end = end_at v made p t s

  abbrev pub whole : Result Classes WalkFault
  whole = walk seen end one no_classes b (e - b)

  -- the runs before a number are taken in, and the rest decides
  pub record Walking (k : Known) (n : ℕ) : Type 0 where
    pub rest : whole ≡ walk seen end one (classes_of k) n (e - n)
    pub counted : IsCounted k
    pub total_is : total k.classes.entries ≡ n - b

  pub none_walked : (k : Known) → classes_of k ≡ no_classes → IsCounted k → total k.classes.entries ≡ 0 → Walking k b
  none_walked k is c z = record { rest = ap (λ x. walk seen end one x b (e - b)) (sym is); counted = c; total_is = omega (arith, z) }

  -- what is known of a run is what the definition says
  module _ (marked : List Bool) (n : ℕ) (w : Observed)
      (h : ObservesRun v p o marked 16777216 t (start_of made p.program.order (start_at s n)) w) where
    pub long : w.tally.shown ≡ length (seen n)
    long = h.tallies.shown

    pub front : sequence_of w.tally.events ≡ take 16777216 (seen n)
    front = h.tallies.kept

    pub kept : w.tally.shown ≤ 16777216 → w.tally.shown ≡ length w.tally.events.items
    kept le =
        let l = long in
        let all : sequence_of w.tally.events ≡ seen n = front ∙ take_all 16777216 (seen n) (omega (arith, l, le)) in
        l ∙ sym (ap length all) ∙ length-map w.tally.events.items event_of

    module _ (k k' : Known) (walking : Walking k n) (lt : n < e) (from : b ≤ n) where
      -- a run more
      pub one_walked : IsCounted k' → total k'.classes.entries ≡ total k.classes.entries + 1
          → ((sequence : List Event) → w.tally.shown ≡ length sequence → sequence_of w.tally.events ≡ take 16777216 sequence →
          (classes_of k' ≡ with_start (classes_of k) n sequence 1)
          × (refusal w.end n (events_in (with_start (classes_of k) n sequence 1).seen) ≡ None))
          → Walking k' (n + 1)
      one_walked c more taken =
          let both = taken (seen n) long front in
          let none : refusal (end n) n (events_in (with_start (classes_of k) n (seen n) 1).seen) ≡ None =
          ap (λ z. refusal z n (events_in (with_start (classes_of k) n (seen n) 1).seen)) (sym h.end) ∙ both.1 in
          let before = walking.total_is in
          record {
            rest = walking.rest ∙ next_walk seen end one (classes_of k) n e lt none
                ∙ ap (λ x. walk seen end one x (n + 1) (e - (n + 1))) (sym both.0);
            counted = c;
            total_is = omega (arith, more, before, from);
          }

      -- a run that is refused
      pub refused : (f : WalkFault) → ((sequence : List Event) → w.tally.shown ≡ length sequence → sequence_of w.tally.events ≡ take 16777216 sequence
          → refusal w.end n (events_in (with_start (classes_of k) n sequence 1).seen) ≡ Some f)
          → IsWalkFault seen end one b (e - b) f
      refused f why =
          let is : refusal (end n) n (events_in (with_start (classes_of k) n (seen n) 1).seen) ≡ Some f =
          ap (λ z. refusal z n (events_in (with_start (classes_of k) n (seen n) 1).seen)) (sym h.end) ∙ why (seen n) long front in
          walk_fault seen end one b (e - b) f (walking.rest ∙ last_walk seen end one (classes_of k) n e f lt is)

  -- no run is left
  pub all_walked : (k : Known) (n : ℕ) → e ≤ n → Walking k n → AreClasses seen end one b (e - b) (classes_of k)
  all_walked k n le walking = walk_classes seen end one b (e - b) (classes_of k) (walking.rest ∙ no_walk seen end one (classes_of k) n e le)
