-- The code keeps the source's order, for any number of cycles.
use Rattle.std.proofs.Common.{◌≡◌, ℕ, zero, suc, ◌+◌, ◌-◌, ◌<◌, ◌≤◌, List, [], ◌++◌, append-nil, refl, sym, ap, ◌∙◌, subst, ⊎_elim, arith}
use Rattle.std.specs.Prelude.{Bool, true, false, ℤ}
use Rattle.std.proofs.lemmas.Bool.{cases_lt, both_ways}
use Rattle.mit_syntax.specs.Todo.{Marks, Marked, Done}
use Rattle.source_meaning.proofs.Begins.{then_done}
use Rattle.source_meaning.proofs.Told.{IsPrefix, prefix_then, prefix_same, between, done_stays}
use Rattle.source_meaning.specs.Source.{Note, Source, source_step, source_steps, source_start, notes_of, HasEnded}
use Rattle.label_lattice.specs.Lattice.{Lattice}
use Rattle.env_contract.specs.Env.{Env}
use Rattle.label_code.specs.Machine.{Machine, at, step, steps, start}
use Rattle.label_code.specs.declared.code.Work.TheVariants.{Halt}
use Rattle.label_code.specs.declared.code.Instr.{Instr}
use Rattle.code_lower.specs.Layout.{Stands, size, IsImage}
use Rattle.label_code.specs.Run.{Start, run_from}
use Rattle.code_lower.specs.Follows.{told, KeepsOrder}
use Rattle.label_code.proofs.Leads.{Leads, stays, steps-add}
use Rattle.label_code.proofs.Ticks.{covers, Sane, ticks, steps_sane, run_is}
use Rattle.code_lower.proofs.Follow.{told-append, Meets, Goes, on, over, goes}

module _ {E : Type 0} (v : Env E) (image : List Instr) where
  steps_log : (k : ℕ) (x : Machine E) → Sane x.opened x.core.clock → IsPrefix (told x.core.log) (told (steps v image k x).core.log)
  steps_log zero x h = prefix_same (told x.core.log) (told x.core.log) refl
  steps_log (suc k) x h =
      let t = ticks v image x h in
      let n = t.news in
      prefix_then (told x.core.log) (told (step v image x).core.log) _ (
        told n.0,
        sym (told-append x.core.log n.0) ∙ ap told (sym n.1),
      ) (steps_log k (step v image x) t.sane)

  module _ (lat : Lattice) (g : ℕ → ℕ) where
    -- where the machine stands after n source steps, or that it has halted
    data Reached (n : ℕ) (σ : Source Marks ℕ) (x : Machine E) : Type 0 where
      there : (k : ℕ) {y : Machine E} → n ≤ k → steps v image k x ≡ y → Meets v lat g image (source_steps n σ) y → Reached n σ x
      ended : (k : ℕ) {y : Machine E} → steps v image k x ≡ y → y.halted ≡ true → (source_steps n σ).todo ≡ Done
          → (source_steps n σ).notes ≡ told y.core.log → Reached n σ x

    pub next_of : (σ : Source Marks ℕ) (x : Machine E) → Meets v lat g image σ x → Goes v lat g image σ x
    next_of σ x m =
        let r = goes v lat g image m.frames m.list m.place m.opened m.core m.code m.below in
        let r1 = subst (λ z. Goes v lat g image z (at m.place [] m.opened m.core)) (sym m.same) r in
        subst (λ z. Goes v lat g image σ z) (sym m.is) r1

    further : (n : ℕ) (σ : Source Marks ℕ) (x y : Machine E) → Leads v image x y → Reached n (source_step σ) y → Reached (suc n) σ x
    further n σ x y l (there k le e m) =
        let c = l.some in
        there (l.count + k) (omega arith) (steps-add v image l.count k x ∙ ap (steps v image k) l.ends ∙ e) m
    further n σ x y l (ended k e h d t) = ended (l.count + k) (steps-add v image l.count k x ∙ ap (steps v image k) l.ends ∙ e) h d t

    reach : (n : ℕ) (σ : Source Marks ℕ) (x : Machine E) → Meets v lat g image σ x → Reached n σ x
    reach zero σ x m = there 0 (omega arith) refl m
    reach (suc n) σ x m = go (next_of σ x m) (λ y z. reach n (source_step σ) y z)
      where
        go : Goes v lat g image σ x → ((y : Machine E) → Meets v lat g image (source_step σ) y → Reached n (source_step σ) y) → Reached (suc n) σ x
        go (on d l z) rec = further n σ x _ l (rec _ z)
        go (over l d h t) rec =
            let s = done_stays (suc n) σ d in
            ended l.count l.ends h (ap (λ z. z.todo) s ∙ d) (ap (λ z. z.notes) s ∙ t)

module _ {E : Type 0} (v : Env E) (lat : Lattice) (g : ℕ → ℕ) (image : List Instr) (p : Marked) (code : IsImage lat g image p) where
  pub starts_met : (s : Start E) → Meets v lat g image (source_start p s.memory) (start s.memory s.env)
  starts_met s =
      let e : size p ≡ 0 + size p = omega arith in
      record {
        list = p;
        frames = [];
        place = 0;
        opened = [];
        core = (start s.memory s.env).core;
        is = refl;
        code = code.0;
        below = subst (λ z. (m : Marks) × Stands image z Halt m) e (record { er = lat.bottom; ew = lat.bottom }, code.1);
        same = ap (λ t. let r : Source Marks ℕ = record { todo = t; memory = s.memory; notes = [] } in r) (sym (then_done p));
      }

  -- two halted points of one run are the same
  one_end : (k k' : ℕ) (x : Machine E) → (steps v image k x).halted ≡ true → (steps v image k' x).halted ≡ true → steps v image k x ≡ steps v image k' x
  one_end k k' x h h' =
      let e : k + k' ≡ k' + k = omega arith in
      sym (stays v image k' (steps v image k x) h) ∙ sym (steps-add v image k k' x) ∙ ap (λ z. steps v image z x) e ∙ steps-add v image k' k x
      ∙ stays v image k (steps v image k' x) h'

  -- up to a later point of the run
  ahead : (k k' : ℕ) (x : Machine E) → Sane x.opened x.core.clock → k ≤ k' → IsPrefix (told (steps v image k x).core.log) (told (steps v image k' x).core.log)
  ahead k k' x h le =
      let e : k + (k' - k) ≡ k' = omega arith in
      let q = steps_log v image (k' - k) (steps v image k x) (steps_sane v image k x h) in
      subst (λ z. IsPrefix (told (steps v image k x).core.log) (told z.core.log)) (sym (steps-add v image k (k' - k) x) ∙ ap (λ z. steps v image z x) e) q

  record Follows (s : Start E) (x : Machine E) : Type 0 where
    count : ℕ
    notes : told x.core.log ≡ notes_of p s.memory count
    ended : x.halted ≡ true → HasEnded p s.memory count

  -- a point of the run that a later point's notes cover
  covered : (s : Start E) (n k k' : ℕ) → k ≤ k' → (notes_of p s.memory n ≡ told (steps v image k' (start s.memory s.env)).core.log)
      → (steps v image k (start s.memory s.env)).halted ≡ false → Follows s (steps v image k (start s.memory s.env))
  covered s n k k' le e f =
      let x0 = start s.memory s.env in
      let q = ahead k k' x0 tt le in
      let r = between n (source_start p s.memory) (told (steps v image k x0).core.log) q.0 (q.1 ∙ sym e) in
      record { count = r.0; notes = sym r.1; ended = λ h. absurd (both_ways (steps v image k x0).halted f h) }

  follows_at : (s : Start E) (k : ℕ) → Follows s (steps v image k (start s.memory s.env))
  follows_at s k = go (steps v image k (start s.memory s.env)).halted refl
      (reach v image lat g k (source_start p s.memory) (start s.memory s.env) (starts_met s))
    where
      x0 : Machine E
      x0 = start s.memory s.env

      go : (b : Bool) → (steps v image k x0).halted ≡ b → Reached v image lat g k (source_start p s.memory) x0 → Follows s (steps v image k x0)
      go true h (there k' {y = y} le e m) =
          let same = sym (stays v image (k' - k) (steps v image k x0) h) in
          let sum : k + (k' - k) ≡ k' = omega arith in
          let y_is = same ∙ sym (steps-add v image k (k' - k) x0) ∙ ap (λ z. steps v image z x0) sum ∙ e ∙ m.is in
          absurd (both_ways (steps v image k x0).halted (ap (λ z. z.halted) y_is) h)
      go false h (there k' {y = y} le e m) =
          covered s k k k' le (ap (λ z. z.notes) m.same ∙ sym (ap (λ z. told z.core.log) (e ∙ m.is))) h
      go true h (ended k' {y = y} e h' d t) =
          let same = one_end k k' x0 h (ap (λ z. z.halted) e ∙ h') ∙ e in
          record { count = k; notes = ap (λ z. told z.core.log) same ∙ sym t; ended = λ z. d }
      go false h (ended k' {y = y} e h' d t) =
          ⊎_elim
          (λ (lt : k < k'). covered s k k k' (omega arith) (t ∙ sym (ap (λ z. told z.core.log) e)) h)
          (λ (le : k' ≤ k).
          let sum : k' + (k - k') ≡ k = omega arith in
          let here = ap (λ z. steps v image z x0) (sym sum) ∙ steps-add v image k' (k - k') x0
          ∙ stays v image (k - k') (steps v image k' x0) (ap (λ z. z.halted) e ∙ h') ∙ e in
          absurd (both_ways (steps v image k x0).halted h (ap (λ z. z.halted) here ∙ h')))
          (cases_lt k k')

  record Comes (s : Start E) (n : ℕ) : Type 0 where
    by : ℕ
    later : List Note
    notes : notes_of p s.memory n ++ later ≡ told (run_from v image by s).core.log
    ended : HasEnded p s.memory n → (run_from v image by s).halted ≡ true

  comes_halted : (s : Start E) (n k : ℕ) (y : Machine E) → steps v image k (start s.memory s.env) ≡ y → y.halted ≡ true
      → notes_of p s.memory n ≡ told y.core.log → Comes s n
  comes_halted s n k y e h t =
      let x0 = start s.memory s.env in
      let c = ap (λ z. z.core.clock) e in
      let r = covers v image k y.core.clock y.core.clock x0 tt (omega arith) (omega arith) in
      let run = r.1 ∙ ap (steps v image r.0) e ∙ stays v image r.0 y h in
      record {
        by = y.core.clock;
        later = [];
        notes = append-nil (notes_of p s.memory n) ∙ t ∙ sym (ap (λ z. told z.core.log) run);
        ended =
            λ z. ap (λ q. q.halted) run ∙ h;
      }

  comes_at : (s : Start E) (n : ℕ) → Comes s n
  comes_at s n = go (reach v image lat g n (source_start p s.memory) (start s.memory s.env) (starts_met s))
    where
      x0 : Machine E
      x0 = start s.memory s.env

      σ : Source Marks ℕ
      σ = source_steps n (source_start p s.memory)

      there_next : (k : ℕ) (y : Machine E) → steps v image k x0 ≡ y → Meets v lat g image σ y → Goes v lat g image σ y → Comes s n
      there_next k y e m (on d l z) =
          let c = ap (λ z. z.core.clock) e in
          let r = covers v image k y.core.clock y.core.clock x0 tt (omega arith) (omega arith) in
          let run = r.1 in
          let q = steps_log v image r.0 (steps v image k x0) (steps_sane v image k x0 tt) in
          let now : σ.notes ≡ told (steps v image k x0).core.log = ap (λ z. z.notes) m.same ∙ sym (ap (λ z. told z.core.log) (e ∙ m.is)) in
          record { by = y.core.clock; later = q.0; notes = ap (λ z. z ++ q.0) now ∙ q.1 ∙ sym (ap (λ z. told z.core.log) run); ended = λ h. absurd (d h) }
      there_next k y e m (over {y = y2} l d h t) =
          comes_halted s n (k + l.count) y2 (steps-add v image k l.count x0 ∙ ap (steps v image l.count) e ∙ l.ends) h t

      go : Reached v image lat g n (source_start p s.memory) x0 → Comes s n
      go (there k {y = y} le e m) = there_next k y e m (next_of v image lat g σ y m)
      go (ended k {y = y} e h d t) = comes_halted s n k y e h t

  pub keeps_order : KeepsOrder v image p
  keeps_order =
      record {
        follows = λ s t.
            let r = run_is v image t t (start s.memory s.env) in
            let f = follows_at s r.0 in
            (f.count, ap (λ z. told z.core.log) r.1 ∙ f.notes, λ h. f.ended (sym (ap (λ z. z.halted) r.1) ∙ h));
        comes = λ s n. let c = comes_at s n in (c.by, c.later, c.notes, c.ended);
      }
