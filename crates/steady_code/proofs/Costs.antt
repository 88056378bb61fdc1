-- Which costs of operators fit what is asked, and the machine with those of the table.
use Rattle.std.proofs.Common.{◌≡◌, ℕ, zero, suc, List, refl, sym, ap, ◌∙◌}
use Rattle.std.specs.Prelude.{Bool, true, false, cond, ℤ, leb, not, ◌&&◌, ◌||◌, Option, Some, None, slice_get}
use Rattle.std.proofs.lemmas.Bool.{and_parts}
use Rattle.mit_syntax.specs.Todo.{Marks}
use Rattle.env_contract.specs.Env.{Env}
use Rattle.label_code.specs.Costs.{op_cost}
use Rattle.label_code.specs.Machine.{Opened, Core, Machine, act, obey, step, run_for, start, fetched, marks_of}
use Rattle.label_code.specs.declared.code.Work.{Work}
use Rattle.label_code.specs.declared.code.Work.TheVariants.{Push, Load, Store, LoadAt, StoreAt, Apply, Brz, Brnz, Jmp, Sleep, Mitb, Mite, Nop, Halt}
use Rattle.label_code.specs.declared.code.Instr.{Instr}
use Rattle.steady_code.specs.declared.costing.Constant.{Constant}
use Rattle.steady_code.specs.declared.costing.Costing.TheVariants.{Table, Only}
use Rattle.steady_code.specs.Steady.{costs_same}
use Rattle.steady_code.specs.Costing.{OpCosts, FitsCosts, HasCosts, AllFit, HasOwnCosts, is_named, settled_by, act_with, obey_with, step_with, run_for_with}
use Rattle.steady_code.proofs.Tags.{cost_known}

table_fits : (cost : OpCosts) → HasCosts Table cost → FitsCosts costs_same cost
table_fits cost is o k l x x' y y' h i e = is o x y ∙ cost_known o k l x x' y y' h i e ∙ sym (is o x' y')

named_fits : (c : Constant) (cost : OpCosts) → HasCosts (Only c) cost → FitsCosts (settled_by (Only c)) cost
named_fits c cost is o k l x x' y y' h i e = go (is_named c o) refl
  where
    go : (b : Bool) → is_named c o ≡ b → cost o x y ≡ cost o x' y'
    go true q = is o x y x' y' q
    go false q =
        let p = and_parts k.same l.same (sym (ap (λ z. z || (k.same && l.same)) q) ∙ e) in
        ap (λ z. cost o z y) (h.same p.0) ∙ ap (λ z. cost o x' z) (i.same p.1)

pub all_fit : AllFit
all_fit Table cost is = table_fits cost is
all_fit (Only c) cost is = named_fits c cost is

module _ {E : Type 0} (v : Env E) where
  own_act : (m : Marks) (w : Work) (a : ℕ) (ops : List ℤ) (os : List Opened) (s : Core E) → act_with op_cost v m w a ops os s ≡ act v m w a ops os s
  own_act m (Push n) a ops os s = refl
  own_act m (Load x) a ops os s = refl
  own_act m (Store x) a ops os s = refl
  own_act m (LoadAt f n) a ops os s = refl
  own_act m (StoreAt f n) a ops os s = refl
  own_act m (Apply o) a ops os s = refl
  own_act m (Brz b) a ops os s = refl
  own_act m (Brnz b) a ops os s = refl
  own_act m (Jmp b) a ops os s = refl
  own_act m Sleep a ops os s = refl
  own_act m (Mitb l k) a ops os s = refl
  own_act m Mite a ops os s = refl
  own_act m Nop a ops os s = refl
  own_act m Halt a ops os s = refl

  own_obey : (i : Option Instr) (s : Machine E) → obey_with op_cost v i s ≡ obey v i s
  own_obey None s = refl
  own_obey (Some i) s = own_act (marks_of i) i.work s.place s.operands s.opened (fetched v (marks_of i) s.place s.core)

  module _ (image : List Instr) where
    own_step : (s : Machine E) → step_with op_cost v image s ≡ step v image s
    own_step s = ap (λ (z : Machine E). cond s.halted s z) (own_obey (slice_get image s.place) s)

    own_run : (t n : ℕ) (s : Machine E) → run_for_with op_cost v image t n s ≡ run_for v image t n s
    own_run t zero s = refl
    own_run t (suc n) s =
        ap (λ (z : Machine E). cond (leb z.core.clock t && not s.halted) (run_for_with op_cost v image t n z) s) (own_step s)
        ∙ ap (λ (z : Machine E). cond (leb (step v image s).core.clock t && not s.halted) z s) (own_run t n (step v image s))

  pub own_costs : HasOwnCosts v
  own_costs image t s = own_run image t t (start s.memory s.env)
