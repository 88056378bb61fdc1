-- The run of a program to T: a derivation from its start, which is cut at T or complete, and the cycle at which it ends.
use Rattle.std.proofs.Common.{◌≡◌, ℕ, zero, suc, ◌+◌, ◌<◌, ◌≤◌, List, [], refl, sym, ap, ◌∙◌, subst, ⊎_elim, arith, zero-add}
use Rattle.std.specs.Prelude.{true, false}
use Rattle.std.proofs.lemmas.Bool.{both_ways}
use Rattle.mit_syntax.specs.Todo.{Marks, Marked}
use Rattle.label_lattice.specs.Lattice.{Lattice}
use Rattle.env_contract.specs.Env.{Env}
use Rattle.label_code.specs.Machine.{Core, Machine, at, fetched, obey, step, steps, start}
use Rattle.label_code.specs.declared.code.Instr.{Instr}
use Rattle.code_lower.specs.Layout.{size, IsImage}
use Rattle.label_code.specs.Run.{Start, run_from}
use Rattle.leak_bound.proofs.Runs.{Do, Runs}
use Rattle.label_code.proofs.Upto.{upto}
use Rattle.label_code.proofs.Ticks.{Sane, Ran, ran, steps_sane, steps_in}
use Rattle.label_code.proofs.Leads.{stays}
use Rattle.leak_bound.proofs.Apart.{Onward, on, cut, Part, taken_apart}

module _ {E : Type 0} (v : Env E) (lat : Lattice) (g : ℕ → ℕ) (image : List Instr) (p : Marked) (code : IsImage lat g image p) (t : ℕ) where
  abbrev pub first_core : Start E → Core E
  first_core s = (start s.memory s.env).core

  -- the run to T from a start
  pub record Whole (s : Start E) : Type 0 where
    pub after : Core E
    pub run : Runs v lat g t (Do p 0) (first_core s) after
    pub log : (run_from v image t s).core.log ≡ upto t after.log
    pub in_time : (run_from v image t s).halted ≡ true → after.clock ≤ t
    pub none_open : (run_from v image t s).halted ≡ true → (run_from v image t s).opened ≡ []

  abbrev pub bottoms : Marks
  bottoms = record { er = lat.bottom; ew = lat.bottom }

  -- past the HALT
  abbrev pub past_halt : Core E → Core E
  past_halt s = fetched v bottoms (size p) s

  -- the run to T, which has halted exactly if the HALT ends by T, and then at its cycle
  pub record ToEnd (s : Start E) : Type 0 where
    pub whole : Whole s
    pub halts : (past_halt whole.after).clock ≤ t → (run_from v image t s).halted ≡ true
    pub by : (run_from v image t s).halted ≡ true → (past_halt whole.after).clock ≤ t
    pub at_core : (run_from v image t s).halted ≡ true → (run_from v image t s).core ≡ past_halt whole.after

  -- the machine after the program's code, and after its HALT
  abbrev before : Core E → Machine E
  before s = at (size p) [] [] s

  halted : Core E → Machine E
  halted s = record { place = size p; operands = []; opened = []; core = past_halt s; halted = true }

  halt_is : (s : Core E) → step v image (before s) ≡ halted s
  unfolding halted
  halt_is s = ap (λ i. obey v i (before s)) code.1

  pub to_end : (s : Start E) → ToEnd s
  unfolding halted
  to_end s = from (taken_apart v image lat g t y sane r.over p 0 code.0 [] [] r.count (first_core s) r.is)
    where
      x0 : Machine E
      x0 = start s.memory s.env

      y : Machine E
      y = run_from v image t s

      r : Ran v image t x0 y
      r = ran v image t t x0 tt (omega arith) (omega arith)

      sane : Sane y.opened y.core.clock
      sane = subst (λ z. Sane z.opened z.core.clock) r.is (steps_sane v image r.count x0 tt)

      stamped : y.core.log ≡ upto t y.core.log
      stamped = subst (λ z. z.core.log ≡ upto t z.core.log) r.is (sym (steps_in v image t r.count x0 tt refl (subst (λ z. z.core.clock ≤ t) (sym r.is) r.by)))

      from : Part v image lat g t y sane r.over p 0 [] [] r.count (first_core s) → ToEnd s
      from q = go q.rest
        where
          after : Core E
          after = q.after

          ends : (left : ℕ) → steps v image left (before after) ≡ y → ToEnd s
          ends zero e =
              let is : before after ≡ y = e in
              let goes : y.halted ≡ false = ap (λ z. z.halted) (sym is) in
              let next : (step v image y).core.clock ≡ (past_halt after).clock =
              ap (λ z. (step v image z).core.clock) (sym is) ∙ ap (λ z. z.core.clock) (halt_is after) in
              record {
                whole = record {
                  after = after;
                  run = q.run;
                  log = stamped ∙ ap (λ z. upto t z.core.log) (sym is);
                  in_time =
                      λ h. absurd (both_ways y.halted goes h);
                  none_open = λ h. absurd (both_ways y.halted goes h);
                };
                halts = λ h. ⊎_elim (λ (f : y.halted ≡ true). f) (λ (m : y.halted ≡ false × (t < (step v image y).core.clock)). let late = m.1 in
                    absurd (omega arith)) r.over;
                by = λ h. absurd (both_ways y.halted goes h);
                at_core = λ h. absurd (both_ways y.halted goes h);
              }
          ends (suc left) e =
              let is : halted after ≡ y = sym (stays v image left (step v image (before after)) (ap (λ z. z.halted) (halt_is after)) ∙ halt_is after) ∙ e in
              let clock : (past_halt after).clock ≡ y.core.clock = ap (λ z. z.core.clock) is in
              let by = r.by in
              record {
                whole = record {
                  after = after;
                  run = q.run;
                  log = stamped ∙ ap (λ z. upto t z.core.log) (sym is);
                  in_time = λ h. omega arith;
                  none_open =
                      λ h. sym (ap (λ z. z.opened) is);
                };
                halts = λ h. sym (ap (λ z. z.halted) is);
                by = λ h. omega arith;
                at_core = λ h. sym (ap (λ z. z.core) is);
              }

          go : Onward v image lat g t y sane r.over (suc r.count) (at (0 + size p) [] [] q.after) → ToEnd s
          go (on left l e) = ends left (sym (ap (λ a. steps v image left (at a [] [] after)) (zero-add (size p))) ∙ e)
          go (cut i l e) =
              record {
                whole = record {
                  after = after;
                  run = q.run;
                  log = stamped ∙ sym e;
                  in_time = λ h. absurd (both_ways y.halted i h);
                  none_open =
                      λ h. absurd (both_ways y.halted i h);
                };
                halts = λ h. absurd (omega arith);
                by = λ h. absurd (both_ways y.halted i h);
                at_core = λ h. absurd (both_ways y.halted i h);
              }
