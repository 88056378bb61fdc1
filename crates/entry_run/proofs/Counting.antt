-- The miss counts of what is kept, after one entry more.
use Rattle.std.proofs.Common.{◌≡◌, ℕ, ◌+◌, List, [], ◌∷◌, ◌++◌, sym, ap, ◌∙◌, refl, arith, append_assoc, append-nil, inl, inr}
use Rattle.std.specs.Prelude.{ℤ, Bool, Option, Some, None, ◌⊎◌}
use Rattle.std.proofs.lemmas.List.{map-append}
use Rattle.label_code.specs.Machine.{Opened}
use Rattle.first_replay.specs.Replay.{What, Nothing, Pushed, Assigned, Opens, Closes, Entry as Done, Timed, after, replay}
use Rattle.run_entries.specs.declared.entry.Entry.{Entry}
use Rattle.run_entries.specs.declared.entry.Deed.{Deed}
use Rattle.run_entries.specs.declared.entry.Deed.TheVariants as deed
use Rattle.run_entries.specs.declared.entry.Opening.{Opening}
use Rattle.run_entries.specs.Entries.{what_of, entry_of, entries_of}
use Rattle.run_entries.specs.Told.{told_at, counts_told}
use Rattle.entry_run.specs.declared.kept.Kept.{Kept}
use Rattle.entry_run.specs.Kept.{idle, kept_by, counts_by, number_first, last_what}

module _ (such : ℕ → Bool) (numbers : ℕ → ℤ) where
  pub counts_both : (es fs : List Done) (t : Timed) →
      counts_told such numbers (es ++ fs) t ≡ counts_told such numbers es t ++ counts_told such numbers fs (replay numbers es t)
  counts_both [] fs t = refl
  counts_both (e ∷ es) fs t =
      let u : Timed = after numbers e.what (t.clock + e.cost) t in
      let here : List ℕ = told_at such e.what (t.clock + e.cost) t t.opened in
      ap (λ z. here ++ z) (counts_both es fs u)
      ∙ sym (append_assoc here (counts_told such numbers es u) (counts_told such numbers fs (replay numbers es u)))

  kept_both : (es fs : List Entry) (t : Timed) →
      counts_told such numbers (entries_of (es ++ fs)) t
      ≡ counts_told such numbers (entries_of es) t ++ counts_told such numbers (entries_of fs) (replay numbers (entries_of es) t)
  kept_both es fs t = ap (λ z. counts_told such numbers z t) (map-append entry_of es fs) ∙ counts_both (entries_of es) (entries_of fs) t

sum : (c w d : ℕ) → c + w + d ≡ c + (w + d)
sum c w d = omega arith

closes_idle : (such : ℕ → Bool) (os : List Opened) (c w : ℕ) (l : Option ℕ) (u : Timed) → told_at such Closes c u os ≡ told_at such Closes c (idle w l u) os
closes_idle such [] c w l u = refl
closes_idle such (o ∷ os) c w l u = refl

-- cycles that pass before an entry
told_idle : (such : ℕ → Bool) (x : What) (w d : ℕ) (l : Option ℕ) (u : Timed) →
    told_at such x (u.clock + (w + d)) u u.opened ≡ told_at such x ((idle w l u).clock + d) (idle w l u) (idle w l u).opened
told_idle such Nothing w d l u = refl
told_idle such (Pushed a) w d l u = refl
told_idle such (Assigned x n) w d l u = refl
told_idle such (Opens n k j) w d l u = refl
told_idle such Closes w d l u =
    ap (λ c. told_at such Closes c u u.opened) (sym (sum u.clock w d)) ∙ closes_idle such u.opened (u.clock + w + d) w l u

-- what one entry more tells
abbrev pub CountsOne : Kept → Kept → ℕ → What → Type 0
CountsOne old new cost what =
    (such : ℕ → Bool) (numbers : ℕ → ℤ) (t : Timed) → t.last ≡ None →
    counts_by such numbers new t
    ≡ counts_by such numbers old t ++ told_at such what ((kept_by numbers old t).clock + cost) (kept_by numbers old t) (kept_by numbers old t).opened

pub waits_told : (old new : Kept) (cost : ℕ) (d : Deed) → new.entries ≡ old.entries → (what_of d ≡ Nothing) ⊎ ((a : ℕ) × (what_of d ≡ Pushed a)) →
    CountsOne old new cost (what_of d)
waits_told old new cost d e p such numbers t n =
    let u : Timed = kept_by numbers old t in
    ap (λ z. counts_told such numbers (entries_of z.items) t) e
    ∙ (sym (append-nil (counts_by such numbers old t)) ∙ elim p [
      | inl h ↦ ap (λ z. counts_by such numbers old t ++ told_at such z (u.clock + cost) u u.opened) (sym h)
      | inr h ↦ ap (λ z. counts_by such numbers old t ++ told_at such z (u.clock + cost) u u.opened) (sym h.1)
    ])

-- an entry with the cycles before it
pub keeps_told : (old new : Kept) (cost : ℕ) (d : Deed) → new.entries.items ≡ old.entries.items ++ record { cost = old.waiting + cost; deed = d } ∷ [] →
    CountsOne old new cost (what_of d)
keeps_told old new cost d e such numbers t n =
    let u : Timed = replay numbers (entries_of old.entries.items) t in
    let here : List ℕ = told_at such (what_of d) (u.clock + (old.waiting + cost)) u u.opened in
    ap (λ z. counts_told such numbers (entries_of z) t) e
    ∙ (kept_both such numbers old.entries.items (record { cost = old.waiting + cost; deed = d } ∷ []) t
    ∙ (ap (λ z. counts_by such numbers old t ++ z) (append-nil here)
    ∙ ap (λ z. counts_by such numbers old t ++ z) (told_idle such (what_of d) old.waiting cost old.pushed u)))

number_told : (such : ℕ → Bool) (numbers : ℕ → ℤ) (w : ℕ) (l : Option ℕ) (u : Timed) → counts_told such numbers (entries_of (number_first w l)) u ≡ []
number_told such numbers w None u = refl
number_told such numbers w (Some a) u = refl

-- the beginning of a mitigation, after the entry of the number that was pushed by the step before
pub opens_told : (old mid new : Kept) (cost cycles : ℕ) (d : Deed) (o : Opening) → d ≡ deed.Opens o →
    mid.entries.items ≡ old.entries.items ++ number_first old.waiting old.pushed →
    new.entries.items ≡ mid.entries.items ++ record { cost = cycles; deed = d } ∷ [] → CountsOne old new cost (what_of d)
opens_told old mid new cost cycles d o is e f such numbers t n =
    let u : Timed = kept_by numbers old t in
    let one : List Entry → List Entry = λ es. es ++ record { cost = cycles; deed = deed.Opens o } ∷ [] in
    let first : counts_by such numbers mid t ≡ counts_by such numbers old t =
    ap (λ z. counts_told such numbers (entries_of z) t) e
    ∙ (kept_both such numbers old.entries.items (number_first old.waiting old.pushed) t
    ∙ (ap (λ z. counts_by such numbers old t ++ z)
    (number_told such numbers old.waiting old.pushed (replay numbers (entries_of old.entries.items) t))
    ∙ append-nil (counts_by such numbers old t))) in
    ap (λ z. counts_told such numbers (entries_of z) t) (f ∙ ap (λ z. mid.entries.items ++ record { cost = cycles; deed = z } ∷ []) is)
    ∙ (kept_both such numbers mid.entries.items (record { cost = cycles; deed = deed.Opens o } ∷ []) t
    ∙ (append-nil (counts_by such numbers mid t)
    ∙ (first
    ∙ (sym (append-nil (counts_by such numbers old t))
    ∙ ap (λ z. counts_by such numbers old t ++ told_at such (what_of z) (u.clock + cost) u u.opened) (sym is)))))

last_told : (such : ℕ → Bool) (l : Option ℕ) (c : ℕ) (t : Timed) → told_at such (last_what l) c t t.opened ≡ []
last_told such None c t = refl
last_told such (Some a) c t = refl

-- the last entry tells nothing
pub ends_told : (old new : Kept) (cycles : ℕ) (d : Deed) → what_of d ≡ last_what old.pushed →
    new.entries.items ≡ old.entries.items ++ record { cost = cycles; deed = d } ∷ [] → (such : ℕ → Bool) (numbers : ℕ → ℤ) (t : Timed) →
    counts_told such numbers (entries_of new.entries.items) t ≡ counts_by such numbers old t
ends_told old new cycles d p e such numbers t =
    let u : Timed = replay numbers (entries_of old.entries.items) t in
    ap (λ z. counts_told such numbers (entries_of z) t) e
    ∙ (kept_both such numbers old.entries.items (record { cost = cycles; deed = d } ∷ []) t
    ∙ (ap (λ z. counts_by such numbers old t ++ (told_at such z (u.clock + cycles) u u.opened ++ [])) p
    ∙ (ap (λ z. counts_by such numbers old t ++ (z ++ [])) (last_told such old.pushed (u.clock + cycles) u)
    ∙ append-nil (counts_by such numbers old t))))

pub none_told : (such : ℕ → Bool) (numbers : ℕ → ℤ) (es : List Entry) (t : Timed) → es ≡ [] → counts_told such numbers (entries_of es) t ≡ []
none_told such numbers es t e = ap (λ z. counts_told such numbers (entries_of z) t) e
