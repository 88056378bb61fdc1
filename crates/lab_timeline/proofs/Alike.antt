-- In two environments of which one does what the other does, runs from starts that are alike have the same timelines.
use Rattle.std.proofs.Common.{◌≡◌, ℕ, zero, suc, ◌+◌, ◌-◌, ◌*◌, ◌<◌, List, [], ◌∷◌, ◌++◌, All, refl, sym, ap, ◌∙◌, subst}
use Rattle.std.specs.Prelude.{Bool, true, false, cond, ℤ, leb, not, ◌&&◌, Option, Some, None, slice_get}
use Rattle.label_lattice.specs.Order.{Order}
use Rattle.env_contract.specs.declared.place.Kind.TheVariants.{Code as InCode}
use Rattle.env_contract.specs.declared.place.Touch.{Touch}
use Rattle.env_contract.specs.Env.{Env}
use Rattle.env_contract.specs.Alike.{DoesAs}
use Rattle.timing_types.specs.Labelled.{LabelledProgram}
use Rattle.label_code.specs.declared.code.Work.{Work}
use Rattle.label_code.specs.declared.code.Work.TheVariants.{Push, Load, Store, LoadAt, StoreAt, Apply, Brz, Brnz, Jmp, Sleep, Mitb, Mite, Nop, Halt}
use Rattle.label_code.specs.declared.code.Instr.{Instr}
use Rattle.label_code.specs.Machine.{Opened, Core, Machine, step, steps, run_for, start, first, fetched, marks_of}
use Rattle.label_code.specs.Shaped.{Code, IsShaped}
use Rattle.label_code.specs.Alike.{core_in, machine_in, AreAlike, HasLabelsBelow}
use Rattle.label_code.proofs.Alike.{step_alike}
use Rattle.code_lower.specs.Lowered.{lowered}
use Rattle.doubling_schedule.specs.Doubling.{prediction, misses_after}
use Rattle.start_file.specs.Starts.{StartValue, IsFor}
use Rattle.leak_audit.specs.Agreement.{start_of}
use Rattle.run_timeline.specs.declared.moment.Moment.{Moment}
use Rattle.run_timeline.specs.declared.moment.Moment.TheVariants.{Begins, Ends, Assigned}
use Rattle.run_timeline.specs.Timeline.{telling, told_at, told, moments, IsTimeline}
use Rattle.run_timeline.proofs.Told.{one_timeline_is}
use Rattle.lab_timeline.specs.Alike.{TimelinesTellAlike}

-- what an instruction tells depends on the clock and the miss counts alone
abbrev begun_with : ℕ → List ℤ → ℕ → (ℕ → ℕ) → ℕ → List Moment
begun_with k ops l m c = Begins k (first ops) (prediction (first ops) (m l)) (m l) c ∷ []

abbrev ended_with : Opened → ℕ → (ℕ → ℕ) → List Moment
ended_with o c m =
    let after = misses_after o.estimate (c - o.since) (m o.level) in
    Ends o.mark (c - o.since) (prediction o.estimate after) (m o.level) after (o.since + prediction o.estimate after) ∷ []

telling_same : {E F : Type 0} (w : Work) (ops : List ℤ) (os : List Opened) (s : Core E) (r : Core F) (c d : ℕ) → s.clock ≡ r.clock → s.misses ≡ r.misses → c ≡ d
    → telling w ops os s c ≡ telling w ops os r d
telling_same (Push n) ops os s r c d e m q = refl
telling_same (Load x) ops os s r c d e m q = refl
telling_same (Store x) ops os s r c d e m q = ap (λ z. Assigned x (first ops) z ∷ []) q
telling_same (LoadAt f n) ops os s r c d e m q = refl
telling_same (StoreAt f n) ops os s r c d e m q = ap (λ z. telling (StoreAt f n) ops os s z) q
telling_same (Apply o) ops os s r c d e m q = refl
telling_same (Brz b) ops os s r c d e m q = refl
telling_same (Brnz b) ops os s r c d e m q = refl
telling_same (Jmp b) ops os s r c d e m q = refl
telling_same Sleep ops os s r c d e m q = refl
telling_same (Mitb l k) ops os s r c d e m q = ap (λ z. begun_with k ops l.number z c) m ∙ ap (λ z. begun_with k ops l.number r.misses z) q
telling_same Mite ops [] s r c d e m q = refl
telling_same Mite ops (o ∷ os) s r c d e m q = ap (λ z. ended_with o z s.misses) e ∙ ap (λ z. ended_with o r.clock z) m
telling_same Nop ops os s r c d e m q = refl
telling_same Halt ops os s r c d e m q = refl

module _ {E F : Type 0} (v : Env E) (w : Env F) (n : ℕ) (related : E → F → Type 0) (does : DoesAs v w n related) (image : List Instr)
    (labels : HasLabelsBelow n image) where
  told_same : (x : Machine E) (f : F) → related x.core.env f → told v image x ≡ told w image (machine_in f x)
  told_same x f r = ap (λ z. cond x.halted [] z) (at (slice_get image x.place) refl)
    where
      after : (step v image x).core.clock ≡ (step w image (machine_in f x)).core.clock
      after =
          let alike = step_alike v w n related does image labels x (machine_in f x) (record { same = refl; envs = r }) in
          sym (ap (λ z. z.core.clock) alike.same)

      at : (i : Option Instr) → slice_get image x.place ≡ i
          → told_at v i x (step v image x).core.clock ≡ told_at w i (machine_in f x) (step w image (machine_in f x)).core.clock
      at None e = refl
      at (Some i) e =
          let m = marks_of i in
          let low = labels x.place i e in
          let clock : (fetched v m x.place x.core).clock ≡ (fetched w m x.place (core_in f x.core)).clock =
          ap (λ z. x.core.clock + (1 + z)) (does.cost InCode (4 * x.place) m.er m.ew x.core.env f low.0 low.1 r) in
          telling_same i.work x.operands x.opened (fetched v m x.place x.core) (fetched w m x.place (core_in f x.core)) (step v image x).core.clock
          (step w image (machine_in f x)).core.clock clock refl after

  told_alike : (x : Machine E) (y : Machine F) → AreAlike related x y → told v image x ≡ told w image y
  told_alike x y a = told_same x y.core.env a.envs ∙ ap (told w image) (sym a.same)

  moments_alike : (k : ℕ) (x : Machine E) (y : Machine F) → AreAlike related x y → moments v image k x ≡ moments w image k y
  moments_alike zero x y a = refl
  moments_alike (suc k) x y a =
      ap (λ z. z ++ moments v image k (step v image x)) (told_alike x y a)
      ∙ ap (λ z. told w image y ++ z) (moments_alike k (step v image x) (step w image y) (step_alike v w n related does image labels x y a))

  -- both runs come to their ends after as many steps
  together : (t k : ℕ) (x : Machine E) (y : Machine F) → AreAlike related x y → (j : ℕ) × (run_for v image t k x ≡ steps v image j x)
      × (run_for w image t k y ≡ steps w image j y)
  together t zero x y a = (0, refl, refl)
  together t (suc k) x y a =
      let next = step_alike v w n related does image labels x y a in
      let test : (leb (step w image y).core.clock t && not y.halted) ≡ (leb (step v image x).core.clock t && not x.halted) =
      ap (λ z. leb z.core.clock t && not y.halted) next.same ∙ ap (λ z. leb (step v image x).core.clock t && not z.halted) a.same in
      subst (λ b. (j : ℕ) × (run_for v image t (suc k) x ≡ steps v image j x)
      × (cond b (run_for w image t k (step w image y)) y ≡ steps w image j y)) (sym test)
      (goes (leb (step v image x).core.clock t && not x.halted) (together t k (step v image x) (step w image y) next))
    where
      goes : (b : Bool) → ((j : ℕ) × (run_for v image t k (step v image x) ≡ steps v image j (step v image x))
          × (run_for w image t k (step w image y) ≡ steps w image j (step w image y)))
          → (j : ℕ) × (cond b (run_for v image t k (step v image x)) x ≡ steps v image j x)
          × (cond b (run_for w image t k (step w image y)) y ≡ steps w image j y)
      goes true h = (suc h.0, h.1, h.2)
      goes false h = (0, refl, refl)

  timeline_over : (t : ℕ) (memory : List ℤ) (e : E) (f : F) (ms : List Moment) → related e f → IsTimeline v image t (record { memory = memory; env = e }) ms
      → IsTimeline w image t (record { memory = memory; env = f }) ms
  timeline_over t memory e f ms r h =
      let x : Machine E = start memory e in
      let y : Machine F = start memory f in
      let a : AreAlike related x y = record { same = refl; envs = r } in
      let b = together t t x y a in
      let one : IsTimeline v image t (record { memory = memory; env = e }) (moments v image b.0 x) = record { count = b.0; ends = sym b.1; tells = refl } in
      let same : ms ≡ moments v image b.0 x = one_timeline_is v image t (record { memory = memory; env = e }) ms (moments v image b.0 x) h one in
      record { count = b.0; ends = sym b.2; tells = same ∙ moments_alike b.0 x y a }

module _ {E F : Type 0} (v : Env E) (made : Order → List Touch → E) (w : Order → Env F) (made' : Order → List Touch → F) where
  pub timelines_tell_alike : (related : Order → E → F → Type 0) → ((order : Order) → DoesAs v (w order) order.size (related order))
      → ((order : Order) (touches : List Touch) → All (λ t. t.label.number < order.size) touches → related order (made order touches) (made' order touches))
      → TimelinesTellAlike v made w made'
  timelines_tell_alike related does starts c shaped s below t ms h =
      timeline_over v (w c.order) c.order.size (related c.order) (does c.order) c.instrs (λ a i e. let fine = shaped.1.each a i e in
      (fine.er, fine.ew)) t s.memory (made c.order s.touches) (made' c.order s.touches) ms
      (starts c.order s.touches below) h

  -- of the image of a program
  pub timeline_of_image : TimelinesTellAlike v made w made' → (q : LabelledProgram) (code : Code) → code ≡ lowered q → IsShaped code → (s : StartValue)
      → IsFor q.program s → (t : ℕ) (ms : List Moment)
      → IsTimeline v code.instrs t (start_of made q.program.order s) ms → IsTimeline (w q.program.order) code.instrs t (start_of made' q.program.order s) ms
  timeline_of_image alike q code is shaped s fits t ms h =
      subst (λ (z : Code). IsShaped z → IsTimeline v z.instrs t (start_of made q.program.order s) ms
      → IsTimeline (w q.program.order) z.instrs t (start_of made' q.program.order s) ms) (sym is)
      (λ shaped k. alike (lowered q) shaped s fits.touches t ms k) shaped h
