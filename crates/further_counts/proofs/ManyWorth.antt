-- What many runs show is worth little, since it is few.
use Rattle.std.proofs.Common.{ℕ, List}
use Rattle.mit_syntax.specs.Todo.{Todo}
use Rattle.label_lattice.specs.Order.{Order}
use Rattle.env_contract.specs.Env.{Env}
use Rattle.label_code.specs.declared.code.Instr.{Instr}
use Rattle.further_counts.specs.Many.{SharpMany}
use Rattle.further_counts.specs.ManyWorth.{WorthMany}
use Rattle.gain_bound.proofs.Worth.{shown_is_worth_few}

pub many_worth : {E M L : Type 0} (X A : Type 0) (v : Env E) (order : Order) (serves : E → Type 0) (g ls : ℕ → ℕ → ℕ) (image : ℕ → List Instr)
    (p : ℕ → Todo M L) → SharpMany X v order serves g ls image p → WorthMany X A v order serves g ls image p
many_worth X A v order serves g ls image p many =
    record {
      halted = λ o low t some start xs firsts ms n agree covers alike tests.
          shown_is_worth_few _ _ A _ alike tests xs _ (many.halted o low t some start xs firsts ms n agree covers alike tests);
      cut = λ o low t some start xs firsts n agree predicts alike tests.
          shown_is_worth_few _ _ A _ alike tests xs _ (many.cut o low t some start xs firsts n agree predicts alike tests);
    }
