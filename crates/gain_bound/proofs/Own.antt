-- What ways by own first predictions bound is worth little.
use Rattle.std.proofs.Common.{ℕ, List}
use Rattle.mit_syntax.specs.Todo.{Todo, Marked}
use Rattle.label_lattice.specs.Order.{Order}
use Rattle.env_contract.specs.Env.{Env}
use Rattle.label_code.specs.Run.{Start}
use Rattle.label_code.specs.declared.code.Instr.{Instr}
use Rattle.own_firsts.specs.Own.{FewOwn, SharpOwn}
use Rattle.gain_bound.specs.Own.{WorthOwn, OwnIsWorth}
use Rattle.gain_bound.proofs.Worth.{shown_is_worth_few}

module _ {E M L : Type 0} (A : Type 0) (v : Env E) (order : Order) (serves : E → Type 0) (g ls : ℕ → ℕ) (image : List Instr) (p : Todo M L) where
  own_view : {V : Type 0} (o t : ℕ) (view : Start E → V) → FewOwn v order serves g ls image p o t view → WorthOwn A v order serves g ls image p o t view
  own_view o t view own apart starts agree halts firsts predicts same tests =
      let few = own apart starts agree halts firsts predicts same tests in
      (few.0, few.1, λ ways are. shown_is_worth_few _ _ A view same tests starts _ (few.2 ways are))

  pub own_is_worth : (typed : Marked) → SharpOwn v order serves g ls image typed p → OwnIsWorth A v order serves g ls image typed p
  own_is_worth typed own =
      record {
        timed = λ o low t some. own_view o t _ (own.few o low t some);
        ended = λ o low ends t some. own_view o t _ (own.ended o low ends t some);
      }
