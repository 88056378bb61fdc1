-- What is kept, after one entry more.
use Rattle.std.proofs.Common.{◌≡◌, ℕ, ◌+◌, List, [], ◌∷◌, ◌++◌, sym, ap, ◌∙◌, refl, arith, add-zero, inl, inr}
use Rattle.std.specs.Prelude.{ℤ, Option, Some, None, ◌⊎◌}
use Rattle.std.proofs.lemmas.List.{map-append}
use Rattle.first_replay.specs.Replay.{Nothing, Pushed, Assigned, Opens, Closes, Timed, after, replay}
use Rattle.run_entries.specs.declared.entry.Entry.{Entry}
use Rattle.run_entries.specs.declared.entry.Deed.{Deed}
use Rattle.run_entries.specs.declared.entry.Deed.TheVariants as deed
use Rattle.run_entries.specs.declared.entry.Opening.{Opening}
use Rattle.run_entries.specs.Entries.{what_of, entry_of, entries_of}
use Rattle.entry_run.specs.declared.kept.Kept.{Kept}
use Rattle.entry_run.specs.Kept.{idle, kept_by, IsClosed, number_first, still_waiting, last_what}
use Rattle.entry_run.proofs.Joining.{replay_both, idle_none, idle_nothing, idle_pushed, joined_assigned, joined_closes, joined_opens, closes_last}

-- the replay of what is kept and of more
pub kept_more : (numbers : ℕ → ℤ) (es fs : List Entry) (t : Timed) →
    replay numbers (entries_of (es ++ fs)) t ≡ replay numbers (entries_of fs) (replay numbers (entries_of es) t)
kept_more numbers es fs t =
    ap (λ z. replay numbers z t) (map-append entry_of es fs) ∙ replay_both numbers (entries_of es) (entries_of fs) t

-- one entry more
pub kept_one : (numbers : ℕ → ℤ) (es : List Entry) (cost : ℕ) (d : Deed) (t : Timed) →
    replay numbers (entries_of (es ++ record { cost = cost; deed = d } ∷ [])) t
    ≡ after numbers (what_of d) ((replay numbers (entries_of es) t).clock + cost) (replay numbers (entries_of es) t)
kept_one numbers es cost d t = kept_more numbers es (record { cost = cost; deed = d } ∷ []) t

-- what is kept, where the last entry leaves no cycles and no number
pub settled_is : (numbers : ℕ → ℤ) (es : List Entry) (w : ℕ) (l : Option ℕ) (t : Timed) → w ≡ 0 → l ≡ None → (replay numbers (entries_of es) t).last ≡ None →
    idle w l (replay numbers (entries_of es) t) ≡ replay numbers (entries_of es) t
settled_is numbers es w l t e f g =
    let u = replay numbers (entries_of es) t in
    ap (λ z. idle z l u) e ∙ (ap (λ z. idle 0 z u) f ∙ idle_none u g)

-- the beginning of a mitigation, after the entry of the number that was pushed by the step before
pub kept_opens : (numbers : ℕ → ℤ) (es : List Entry) (w d : ℕ) (l : Option ℕ) (o : Opening) (t : Timed) →
    (replay numbers (entries_of es) t).last ≡ None →
    replay numbers (entries_of ((es ++ number_first w l) ++ record { cost = still_waiting w l + d; deed = deed.Opens o } ∷ [])) t
    ≡ after numbers (Opens o.estimate o.level.number o.mark) ((idle w l (replay numbers (entries_of es) t)).clock + d)
    (idle w l (replay numbers (entries_of es) t))
kept_opens numbers es w d None o t e =
    kept_one numbers (es ++ []) (w + d) (deed.Opens o) t
    ∙ (ap (λ u. after numbers (Opens o.estimate o.level.number o.mark) (u.clock + (w + d)) u) (kept_more numbers es [] t)
    ∙ joined_opens numbers w d o.estimate o.level.number o.mark (replay numbers (entries_of es) t) e)
kept_opens numbers es w d (Some a) o t e =
    let u = replay numbers (entries_of es) t in
    kept_one numbers (es ++ number_first w (Some a)) (0 + d) (deed.Opens o) t
    ∙ (ap (λ u. after numbers (Opens o.estimate o.level.number o.mark) (u.clock + (0 + d)) u) (kept_more numbers es (number_first w (Some a)) t)
    ∙ ap (λ c. after numbers (Opens o.estimate o.level.number o.mark) (u.clock + w + c) (idle w (Some a) u)) (zero_first d))
  where
    zero_first : (d : ℕ) → 0 + d ≡ d
    zero_first d = omega arith

pub none_kept : (numbers : ℕ → ℤ) (es : List Entry) (t : Timed) → es ≡ [] → t.last ≡ None → idle 0 None (replay numbers (entries_of es) t) ≡ t
none_kept numbers es t e f = ap (λ z. idle 0 None (replay numbers (entries_of z) t)) e ∙ idle_none t f

pub none_closed : (numbers : ℕ → ℤ) (es : List Entry) (t : Timed) → es ≡ [] → t.last ≡ None → (replay numbers (entries_of es) t).last ≡ None
none_closed numbers es t e f = ap (λ z. (replay numbers (entries_of z) t).last) e ∙ f

-- one entry more that pushes no number
abbrev pub Puts : Kept → Kept → ℕ → Deed → Type 0
Puts old new cost d =
    (numbers : ℕ → ℤ) (t : Timed) → t.last ≡ None →
    kept_by numbers new t ≡ after numbers (what_of d) ((kept_by numbers old t).clock + cost) (kept_by numbers old t)

-- cycles that pass
pub waits : (old new : Kept) (cost : ℕ) (d : Deed) → new.waiting ≡ old.waiting + cost → new.entries ≡ old.entries →
    ((what_of d ≡ Nothing) × (new.pushed ≡ None)) ⊎ ((a : ℕ) × (what_of d ≡ Pushed a) × (new.pushed ≡ Some a)) → Puts old new cost d
waits old new cost d e f p numbers t n =
    let u : Timed = replay numbers (entries_of old.entries.items) t in
    let same : kept_by numbers new t ≡ idle (old.waiting + cost) new.pushed u =
    ap (λ z. idle z new.pushed (replay numbers (entries_of new.entries.items) t)) e
    ∙ ap (λ z. idle (old.waiting + cost) new.pushed (replay numbers (entries_of z.items) t)) f in
    same ∙ elim p [
      | inl h ↦
          ap (λ z. idle (old.waiting + cost) z u) h.1
          ∙ (idle_nothing numbers old.waiting cost old.pushed u
          ∙ ap (λ z. after numbers z ((idle old.waiting old.pushed u).clock + cost) (idle old.waiting old.pushed u)) (sym h.0))
      | inr h ↦
          ap (λ z. idle (old.waiting + cost) z u) h.2
          ∙ (idle_pushed numbers old.waiting cost h.0 old.pushed u
          ∙ ap (λ z. after numbers z ((idle old.waiting old.pushed u).clock + cost) (idle old.waiting old.pushed u)) (sym h.1))
    ]

pub waits_closed : (old new : Kept) → IsClosed old → new.entries ≡ old.entries → IsClosed new
waits_closed old new h f numbers t n = ap (λ z. (replay numbers (entries_of z.items) t).last) f ∙ h numbers t n

-- the replay of the entries that are kept, and its last number, after an entry
pub keeps : (old new : Kept) (cost : ℕ) (d : Deed) → new.waiting ≡ 0 → new.pushed ≡ None →
    ((numbers : ℕ → ℤ) (t : Timed) → t.last ≡ None →
    (replay numbers (entries_of new.entries.items) t
    ≡ after numbers (what_of d) ((kept_by numbers old t).clock + cost) (kept_by numbers old t))
    × ((replay numbers (entries_of new.entries.items) t).last ≡ None)) →
    Puts old new cost d × IsClosed new
keeps old new cost d w p h = (
  λ numbers t n.
      settled_is numbers new.entries.items new.waiting new.pushed t w p (h numbers t n).1 ∙ (h numbers t n).0,
  λ numbers t n. (h numbers t n).1,
)

-- an assignment or the end of a mitigation
pub keeps_plain : (old new : Kept) (cost : ℕ) (d : Deed) → IsClosed old →
    ((x : ℕ) × (n : ℤ) × (what_of d ≡ Assigned x n)) ⊎ (what_of d ≡ Closes) →
    new.entries.items ≡ old.entries.items ++ record { cost = old.waiting + cost; deed = d } ∷ [] → new.waiting ≡ 0 → new.pushed ≡ None →
    Puts old new cost d × IsClosed new
keeps_plain old new cost d closed p e w l =
    keeps old new cost d w l (λ numbers t n.
    let u : Timed = replay numbers (entries_of old.entries.items) t in
    let one : replay numbers (entries_of new.entries.items) t ≡ after numbers (what_of d) (u.clock + (old.waiting + cost)) u =
    ap (λ z. replay numbers (entries_of z) t) e ∙ kept_one numbers old.entries.items (old.waiting + cost) d t in
    elim p [
      | inl h ↦ (
        one ∙ (ap (λ z. after numbers z (u.clock + (old.waiting + cost)) u) h.2
            ∙ (joined_assigned numbers old.waiting cost h.0 h.1 old.pushed u
            ∙ ap (λ z. after numbers z ((idle old.waiting old.pushed u).clock + cost) (idle old.waiting old.pushed u)) (sym h.2))),
        ap (λ z. z.last) (one ∙ ap (λ z. after numbers z (u.clock + (old.waiting + cost)) u) h.2),
      )
      | inr h ↦ (
        one ∙ (ap (λ z. after numbers z (u.clock + (old.waiting + cost)) u) h
            ∙ (joined_closes numbers old.waiting cost old.pushed u
            ∙ ap (λ z. after numbers z ((idle old.waiting old.pushed u).clock + cost) (idle old.waiting old.pushed u)) (sym h))),
        ap (λ z. z.last) (one ∙ ap (λ z. after numbers z (u.clock + (old.waiting + cost)) u) h)
            ∙ closes_last numbers (u.clock + (old.waiting + cost)) u,
      )
    ])

-- the beginning of a mitigation
pub keeps_opens : (old mid new : Kept) (cost : ℕ) (d : Deed) (o : Opening) → IsClosed old → d ≡ deed.Opens o →
    mid.entries.items ≡ old.entries.items ++ number_first old.waiting old.pushed → mid.waiting ≡ still_waiting old.waiting old.pushed →
    new.entries.items ≡ mid.entries.items ++ record { cost = mid.waiting + cost; deed = d } ∷ [] → new.waiting ≡ 0 → new.pushed ≡ None →
    Puts old new cost d × IsClosed new
keeps_opens old mid new cost d o closed is e f h w l =
    keeps old new cost d w l (λ numbers t n.
    let u : Timed = replay numbers (entries_of old.entries.items) t in
    let all : new.entries.items
    ≡ (old.entries.items ++ number_first old.waiting old.pushed) ++ record { cost = still_waiting old.waiting old.pushed + cost; deed = deed.Opens o } ∷ [] =
    h ∙ (ap (λ z. z ++ record { cost = mid.waiting + cost; deed = d } ∷ []) e
    ∙ (ap (λ z. (old.entries.items ++ number_first old.waiting old.pushed) ++ record { cost = z + cost; deed = d } ∷ []) f
    ∙ ap (λ z. (old.entries.items ++ number_first old.waiting old.pushed)
    ++ record { cost = still_waiting old.waiting old.pushed + cost; deed = z } ∷ []) is)) in
    let one = ap (λ z. replay numbers (entries_of z) t) all
    ∙ kept_opens numbers old.entries.items old.waiting cost old.pushed o t (closed numbers t n) in (
      one ∙ ap (λ z. after numbers (what_of z) ((idle old.waiting old.pushed u).clock + cost) (idle old.waiting old.pushed u)) (sym is),
      ap (λ z. z.last) one,
    ))

idle_last : (numbers : ℕ → ℤ) (w : ℕ) (l : Option ℕ) (u : Timed) → after numbers (last_what l) (u.clock + w) u ≡ idle w l u
idle_last numbers w None u = refl
idle_last numbers w (Some a) u = refl

-- the last entry is for the cycles after the others
pub ends_kept : (old new : Kept) (d : Deed) → what_of d ≡ last_what old.pushed →
    new.entries.items ≡ old.entries.items ++ record { cost = old.waiting + 0; deed = d } ∷ [] → (numbers : ℕ → ℤ) (t : Timed) → t.last ≡ None →
    replay numbers (entries_of new.entries.items) t ≡ kept_by numbers old t
ends_kept old new d p e numbers t n =
    let u : Timed = replay numbers (entries_of old.entries.items) t in
    let one : replay numbers (entries_of new.entries.items) t ≡ after numbers (what_of d) (u.clock + (old.waiting + 0)) u =
    ap (λ z. replay numbers (entries_of z) t) e ∙ kept_one numbers old.entries.items (old.waiting + 0) d t in
    one
    ∙ (ap (λ z. after numbers (what_of d) (u.clock + z) u) (add-zero old.waiting)
    ∙ (ap (λ z. after numbers z (u.clock + old.waiting) u) p ∙ idle_last numbers old.waiting old.pushed u))
