-- Code that a test prints has an image.
use Rattle.std.proofs.Common.{◌≡◌, ◌<◌, ℕ, zero, suc, refl, List, [], ◌∷◌, Some, subst, arith, get_or}
use Rattle.std.specs.Prelude.{slice_get, pos, negsuc}
use Rattle.label_lattice.specs.declared.label.Label.{Label}
use Rattle.label_lattice.specs.Order.{Order}
use Rattle.mit_syntax.specs.declared.ast.Op.TheVariants.{Le}
use Rattle.label_code.specs.declared.code.Work.{Work}
use Rattle.label_code.specs.declared.code.Work.TheVariants.{Push, Apply, Brz, Mitb, Mite, Halt}
use Rattle.label_code.specs.declared.code.Instr.{Instr}
use Rattle.label_code.specs.Shaped.{Depths, IsFine, IsShaped}

abbrev made : Label → Work → Instr
made l w = record { work = w; er = l; ew = l }

abbrev pub sample : Label → List Instr
sample l =
    made l (Push (negsuc 9223372036854775807)) ∷ made l (Mitb l 7) ∷ made l (Push (pos 1)) ∷ made l (Push (pos 2)) ∷ made l (Apply Le) ∷ made l (Brz 6) ∷
    made l Mite ∷ made l Halt ∷ []

abbrev depths : Depths
depths = record { operands = λ a. get_or (0 ∷ 1 ∷ 0 ∷ 1 ∷ 2 ∷ 1 ∷ 0 ∷ 0 ∷ []) a 0; nesting = λ a. get_or (0 ∷ 0 ∷ 1 ∷ 1 ∷ 1 ∷ 1 ∷ 1 ∷ 0 ∷ []) a 0 }

abbrev Fine : ℕ → ℕ → Instr → Type 0
Fine size a i = IsFine 0 size 2 1 8 depths a i

moved : (n a : ℕ) (i j : Instr) → i ≡ j → Fine n a i → Fine n a j
moved n a i j e h = subst (Fine n a) e h

fine : (n : ℕ) (l : Label) → l.number < n → (a : ℕ) (i : Instr) → slice_get (sample l) a ≡ Some i → Fine n a i
fine n l h zero i e = moved n 0 (made l (Push (negsuc 9223372036854775807))) i (cc) (record {
  enough = omega arith;
  opened = omega arith;
  few =
      omega arith;
  shallow = omega arith;
  range = tt;
  er = h;
  ew = h;
  leads = record { within = omega arith; operands = omega arith; nesting = omega arith };
})
fine n l h (suc zero) i e = moved n 1 (made l (Mitb l 7)) i (cc) (record {
  enough = omega arith;
  opened = omega arith;
  few = omega arith;
  shallow =
      omega arith;
  range = h;
  er = h;
  ew = h;
  leads = record { within = omega arith; operands = omega arith; nesting = omega arith };
})
fine n l h (suc (suc zero)) i e =
    moved n 2 (made l (Push (pos 1))) i (cc) (record {
      enough = omega arith;
      opened = omega arith;
      few = omega arith;
      shallow = omega arith;
      range = tt;
      er =
          h;
      ew = h;
      leads = record { within = omega arith; operands = omega arith; nesting = omega arith };
    })
fine n l h (suc (suc (suc zero))) i e =
    moved n 3 (made l (Push (pos 2))) i (cc) (record {
      enough = omega arith;
      opened = omega arith;
      few = omega arith;
      shallow = omega arith;
      range = tt;
      er =
          h;
      ew = h;
      leads = record { within = omega arith; operands = omega arith; nesting = omega arith };
    })
fine n l h (suc (suc (suc (suc zero)))) i e =
    moved n 4 (made l (Apply Le)) i (cc) (record {
      enough = omega arith;
      opened = omega arith;
      few = omega arith;
      shallow = omega arith;
      range = tt;
      er =
          h;
      ew = h;
      leads = record { within = omega arith; operands = omega arith; nesting = omega arith };
    })
fine n l h (suc (suc (suc (suc (suc zero))))) i e =
    moved n 5 (made l (Brz 6)) i (cc) (record {
      enough = omega arith;
      opened = omega arith;
      few = omega arith;
      shallow = omega arith;
      range = tt;
      er = h;
      ew =
          h;
      leads = (
        record { within = omega arith; operands = omega arith; nesting = omega arith },
        record { within = omega arith; operands = omega arith; nesting = omega arith },
      );
    })
fine n l h (suc (suc (suc (suc (suc (suc zero)))))) i e =
    moved n 6 (made l Mite) i (cc) (record {
      enough = omega arith;
      opened = omega arith;
      few = omega arith;
      shallow = omega arith;
      range = tt;
      er = h;
      ew =
          h;
      leads = record { within = omega arith; operands = omega arith; nesting = omega arith };
    })
fine n l h (suc (suc (suc (suc (suc (suc (suc zero))))))) i e =
    moved n 7 (made l Halt) i (cc) (record {
      enough = omega arith;
      opened = omega arith;
      few = omega arith;
      shallow = omega arith;
      range = tt;
      er =
          h;
      ew = h;
      leads = omega arith;
    })
fine n l h (suc (suc (suc (suc (suc (suc (suc (suc a)))))))) i e = absurd (cc)

pub sample_shaped : (order : Order) (l : Label) → l.number < order.size
    → IsShaped (record { instrs = sample l; variables = 0; order = order; operands = 2; nesting = 1 })
sample_shaped order l h =
    (depths, record { some = omega arith; small = omega arith; variables = omega arith; operands = refl; nesting = refl; each = fine order.size l h })
