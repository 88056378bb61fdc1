-- In two environments of which one does what the other does, runs from starts that are alike stay alike.
use Rattle.std.proofs.Common.{◌≡◌, ℕ, zero, suc, ◌+◌, ◌*◌, ◌^◌, ◌<◌, List, [], ◌∷◌, refl, sym, ap, ◌∙◌, subst}
use Rattle.std.specs.Prelude.{Bool, true, false, cond, ℤ, leb, not, ◌&&◌, Option, Some, None, slice_get}
use Rattle.mit_syntax.specs.Todo.{Marks}
use Rattle.mit_syntax.specs.Values.{read, element}
use Rattle.env_contract.specs.declared.place.Kind.TheVariants.{Code, Data}
use Rattle.env_contract.specs.Env.{Env}
use Rattle.env_contract.specs.Alike.{DoesAs}
use Rattle.label_code.specs.Machine.{Core, Machine, Opened, fetched, touched, written, at, act, obey, step, run_for, close_first, marks_of, first, rest}
use Rattle.label_code.specs.Run.{run_from}
use Rattle.label_code.specs.Alike.{core_in, machine_in, AreAlike, HasLabelsBelow}
use Rattle.label_code.specs.declared.code.Work.{Work}
use Rattle.label_code.specs.declared.code.Work.TheVariants.{Push, Load, Store, LoadAt, StoreAt, Apply, Brz, Brnz, Jmp, Sleep, Mitb, Mite, Nop, Halt}
use Rattle.label_code.specs.declared.code.Instr.{Instr}

module _ {E F : Type 0} (v : Env E) (w : Env F) (n : ℕ) (related : E → F → Type 0) (does : DoesAs v w n related) where
  abbrev Labels : Marks → Type 0
  Labels m = (m.er < n) × (m.ew < n)

  -- cores that are alike
  record Cores (s : Core E) (r : Core F) : Type 0 where
    env : F
    same : r ≡ core_in env s
    envs : related s.env env

  fetched_alike : (m : Marks) (a : ℕ) (s : Core E) (f : F) → Labels m → related s.env f → Cores (fetched v m a s) (fetched w m a (core_in f s))
  fetched_alike m a s f h r =
      record {
        env = w.next_of Code (4 * a) m.er m.ew f;
        same = ap (λ c. record { memory = s.memory; env = w.next_of Code (4 * a) m.er m.ew f; clock = s.clock + (1 + c); misses = s.misses; log = s.log })
            (sym (does.cost Code (4 * a) m.er m.ew s.env f h.0 h.1 r));
        envs = does.next Code (4 * a) m.er m.ew s.env f h.0 h.1 r;
      }

  touched_alike : (m : Marks) (x : ℕ) (s : Core E) (f : F) → Labels m → related s.env f → Cores (touched v m x s) (touched w m x (core_in f s))
  touched_alike m x s f h r =
      let address = 2 ^ 20 + 8 * x in
      record {
        env = w.next_of Data address m.er m.ew f;
        same = ap (λ c. record { memory = s.memory; env = w.next_of Data address m.er m.ew f; clock = s.clock + c; misses = s.misses; log = s.log })
            (sym (does.cost Data address m.er m.ew s.env f h.0 h.1 r));
        envs = does.next Data address m.er m.ew s.env f h.0 h.1 r;
      }

  -- what is made of cores that are alike, by a function that keeps the environment's state
  at_alike : (a : ℕ) (ops : List ℤ) (os : List Opened) (s : Core E) (r : Core F) → Cores s r → AreAlike related (at a ops os s) (at a ops os r)
  at_alike a ops os s r c = subst (λ z. AreAlike related (at a ops os s) (at a ops os z)) (sym c.same) (record { same = refl; envs = c.envs })

  written_alike : (a : ℕ) (ops : List ℤ) (os : List Opened) (x : ℕ) (k : ℤ) (s : Core E) (r : Core F) → Cores s r
      → AreAlike related (at a ops os (written x k s)) (at a ops os (written x k r))
  written_alike a ops os x k s r c =
      subst (λ z. AreAlike related (at a ops os (written x k s)) (at a ops os (written x k z))) (sym c.same) (record { same = refl; envs = c.envs })

  close_alike : (a : ℕ) (ops : List ℤ) (os : List Opened) (s : Core E) (f : F) → related s.env f
      → AreAlike related (close_first a ops os s) (close_first a ops os (core_in f s))
  close_alike a ops [] s f r = record { same = refl; envs = r }
  close_alike a ops (o ∷ os) s f r = record { same = refl; envs = r }

  act_alike : (work : Work) (m : Marks) (a : ℕ) (ops : List ℤ) (os : List Opened) (s : Core E) (f : F) → Labels m → related s.env f
      → AreAlike related (act v m work a ops os s) (act w m work a ops os (core_in f s))
  act_alike (Push k) m a ops os s f h r = record { same = refl; envs = r }
  act_alike (Load x) m a ops os s f h r = at_alike (a + 1) (read s.memory x ∷ ops) os _ _ (touched_alike m x s f h r)
  act_alike (Store x) m a ops os s f h r = written_alike (a + 1) (rest ops) os x (first ops) _ _ (touched_alike m x s f h r)
  act_alike (LoadAt b k) m a ops os s f h r =
      let x = element b k (first ops) in at_alike (a + 1) (read s.memory x ∷ rest ops) os _ _ (touched_alike m x s f h r)
  act_alike (StoreAt b k) m a ops os s f h r =
      let x = element b k (first (rest ops)) in written_alike (a + 1) (rest (rest ops)) os x (first ops) _ _ (touched_alike m x s f h r)
  act_alike (Apply o) m a ops os s f h r = record { same = refl; envs = r }
  act_alike (Brz b) m a ops os s f h r = record { same = refl; envs = r }
  act_alike (Brnz b) m a ops os s f h r = record { same = refl; envs = r }
  act_alike (Jmp b) m a ops os s f h r = record { same = refl; envs = r }
  act_alike Sleep m a ops os s f h r = record { same = refl; envs = r }
  act_alike (Mitb l k) m a ops os s f h r = record { same = refl; envs = r }
  act_alike Mite m a ops os s f h r = close_alike (a + 1) ops os s f r
  act_alike Nop m a ops os s f h r = record { same = refl; envs = r }
  act_alike Halt m a ops os s f h r = record { same = refl; envs = r }

  module _ (image : List Instr) (labels : HasLabelsBelow n image) where
    -- the same step from two machines that are alike
    pub step_alike : (x : Machine E) (y : Machine F) → AreAlike related x y → AreAlike related (step v image x) (step w image y)
    step_alike x y alike = subst (λ z. AreAlike related (step v image x) (step w image z)) (sym alike.same) (halts x.halted)
      where
        f : F
        f = y.core.env

        obeys : (i : Option Instr) → slice_get image x.place ≡ i → AreAlike related (obey v i x) (obey w i (machine_in f x))
        obeys None e = record { same = refl; envs = alike.envs }
        obeys (Some i) e =
            let m = marks_of i in
            let c = fetched_alike m x.place x.core f (labels x.place i e) alike.envs in
            subst (λ z. AreAlike related (act v m i.work x.place x.operands x.opened (fetched v m x.place x.core))
            (act w m i.work x.place x.operands x.opened z)) (sym c.same)
            (act_alike i.work m x.place x.operands x.opened (fetched v m x.place x.core) c.env (labels x.place i e) c.envs)

        halts : (b : Bool) → AreAlike related (cond b x (obey v (slice_get image x.place) x))
            (cond b (machine_in f x) (obey w (slice_get image x.place) (machine_in f x)))
        halts true = record { same = refl; envs = alike.envs }
        halts false = obeys (slice_get image x.place) refl

    run_for_alike : (t k : ℕ) (x : Machine E) (y : Machine F) → AreAlike related x y → AreAlike related (run_for v image t k x) (run_for w image t k y)
    run_for_alike t zero x y alike = alike
    run_for_alike t (suc k) x y alike =
        let next = step_alike x y alike in
        let test : (leb (step w image y).core.clock t && not y.halted) ≡ (leb (step v image x).core.clock t && not x.halted) =
        ap (λ z. leb z.core.clock t && not y.halted) next.same ∙ ap (λ z. leb (step v image x).core.clock t && not z.halted) alike.same in
        subst (λ b. AreAlike related (run_for v image t (suc k) x) (cond b (run_for w image t k (step w image y)) y)) (sym test)
        (goes (leb (step v image x).core.clock t && not x.halted) (run_for_alike t k (step v image x) (step w image y) next))
      where
        goes : (b : Bool) → AreAlike related (run_for v image t k (step v image x)) (run_for w image t k (step w image y))
            → AreAlike related (cond b (run_for v image t k (step v image x)) x) (cond b (run_for w image t k (step w image y)) y)
        goes true r = r
        goes false r = alike

    -- the runs to T from equal memories and related states
    pub run_alike : (t : ℕ) (memory : List ℤ) (e : E) (f : F) → related e f
        → AreAlike related (run_from v image t (record { memory = memory; env = e })) (run_from w image t (record { memory = memory; env = f }))
    run_alike t memory e f r = run_for_alike t t _ _ (record { same = refl; envs = r })
