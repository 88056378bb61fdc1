-- Stretches of the machine's run.
use Rattle.std.proofs.Common.{◌≡◌, ℕ, zero, suc, ◌+◌, ◌<◌, List, refl, ap, ◌∙◌, arith, zero-add}
use Rattle.std.specs.Prelude.{true, cond, slice_get}
use Rattle.env_contract.specs.Env.{Env}
use Rattle.label_code.specs.Machine.{Machine, obey, step, steps}
use Rattle.label_code.specs.declared.code.Instr.{Instr}

module _ {E : Type 0} (v : Env E) (image : List Instr) where
  pub steps-add : (k j : ℕ) (x : Machine E) → steps v image (k + j) x ≡ steps v image j (steps v image k x)
  steps-add zero j x = ap (λ n. steps v image n x) (zero-add j)
  steps-add (suc k) j x = let e : suc k + j ≡ suc (k + j) = omega arith in ap (λ n. steps v image n x) e ∙ steps-add k j (step v image x)

  -- the machine goes from one state to another, in one step or more
  pub record Leads (x y : Machine E) : Type 0 where
    pub count : ℕ
    pub some : 0 < count
    pub ends : steps v image count x ≡ y

  pub leads_then : (x y z : Machine E) → Leads x y → Leads y z → Leads x z
  leads_then x y z l m =
      let a = l.some in
      record { count = l.count + m.count; some = omega arith; ends = steps-add l.count m.count x ∙ ap (steps v image m.count) l.ends ∙ m.ends }

  pub leads_to : (x y z : Machine E) → Leads x y → y ≡ z → Leads x z
  leads_to x y z l e = record { count = l.count; some = l.some; ends = l.ends ∙ e }

  -- a halted machine stays
  pub stays : (n : ℕ) (x : Machine E) → x.halted ≡ true → steps v image n x ≡ x
  stays zero x h = refl
  stays (suc n) x h =
      let e : step v image x ≡ x = ap (λ b. cond b x (obey v (slice_get image x.place) x)) h in
      ap (steps v image n) e ∙ stays n x h
