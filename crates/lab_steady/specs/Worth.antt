-- What a yes is worth.
use Rattle.std.specs.Prelude.{◌≡◌, ℕ, List, Bool, IsTrue, Option, Some}
use Rattle.tim_base.specs.Faults.{Rose}
use Rattle.label_lattice.specs.declared.label.Label.{Label}
use Rattle.label_lattice.specs.Order.{Order}
use Rattle.timing_types.specs.Labelled.{LabelledProgram, order_of, labels_of}
use Rattle.env_contract.specs.Env.{Env}
use Rattle.label_code.specs.Run.{Start}
use Rattle.code_lower.specs.Lowered.{lowered}
use Rattle.steady_code.specs.declared.costing.Costing.{Costing}
use Rattle.steady_code.specs.Costing.{OpCosts, HasCosts}
use Rattle.steady_code.specs.Timed.{AgreeTo, seen_of, InTime}
use Rattle.tool_texts.specs.declared.status.Status.TheVariants as status
use Rattle.tool_stages.specs.Content.{Content}
use Rattle.tool_stages.specs.Stages.{Reads}
use Rattle.lab_steady.specs.Constant.{costing_of}
use Rattle.lab_steady.specs.Answer.{Infers, Names, SteadiesBy}

module _ {E : Type 0} (v : Order → Env E) (serves : Order → E → Type 0) where
  -- two starts of a program agree for an observer, and below a label of the environments
  abbrev pub Agree : LabelledProgram → ℕ → ℕ → Start E → Start E → Type 0
  Agree q o h = AgreeTo (v q.program.order) (order_of q) (serves q.program.order) (labels_of q) o h

  -- The file holds a program. Whichever costs operators have of those that were asked about, from starts that agree for
  -- the observer its image shows the observer one sequence, with its cycles, up to each cycle, whether or not the runs have
  -- halted. Where the end is asked about, both runs are also at one place and one clock at each cycle.
  pub record IsWorth (constant : Option (List ℕ)) (content : Content) (file observer parts : List ℕ) (whole : Bool) : Type 0 where
    pub costing : Costing
    pub asked : costing_of constant ≡ Some costing
    pub program : LabelledProgram
    pub reads : Reads (content file) program.program
    pub infers : Infers program.program program
    pub o : Label
    pub names_observer : Names program.program.order observer o
    pub h : Label
    pub names_parts : Names program.program.order parts h
    pub shown : (cost : OpCosts) → HasCosts costing cost → (t : ℕ) (s s' : Start E) → Agree program o.number h.number s s'
        → seen_of cost (v program.program.order) (order_of program) (labels_of program) (lowered program).instrs o.number t s
        ≡ seen_of cost (v program.program.order) (order_of program) (labels_of program) (lowered program).instrs o.number t s'
    pub timed : IsTrue whole → (cost : OpCosts) → HasCosts costing cost → (t : ℕ) (s s' : Start E) → Agree program o.number h.number s s'
        → InTime cost (v program.program.order) (lowered program).instrs t s s'

  -- so it is where the answer is a yes
  abbrev pub YesIsWorth : Type 0
  YesIsWorth = (constant : Option (List ℕ)) (content : Content) (before now : List ℕ → ℕ) (file observer parts : List ℕ) (whole : Bool) (t : List ℕ)
      → SteadiesBy constant (λ name. Rose (before name) (now name)) content file observer parts whole status.Done t
      → IsWorth constant content file observer parts whole
