-- A typed program with its image is one that the theorem speaks of.
use Rattle.std.proofs.Common.{◌≡◌, ℕ, ◌+◌, ◌<◌, refl, sym, ap, subst, arith}
use Rattle.std.specs.Prelude.{not, ◌&&◌, List}
use Rattle.mit_syntax.specs.Todo.{Marks, Done, Skip, Assign, Put, Sleep, If, While, Mitigate}
use Rattle.mit_syntax.specs.Plan.{Plan, mitigates, count}
use Rattle.mit_syntax.specs.Program.{plan_of}
use Rattle.mit_syntax.specs.Valid.{AreNumbered}
use Rattle.label_lattice.specs.Lattice.{Lattice, IsLattice}
use Rattle.timing_types.specs.Typing.{label_of}
use Rattle.timing_types.specs.Arrays.{ArraysIn}
use Rattle.timing_types.specs.Placed.{labelled, bare}
use Rattle.timing_types.specs.Contexts.{HasContexts}
use Rattle.timing_types.specs.Labelling.{IsLabelling, marks_of, level_of}
use Rattle.timing_types.specs.Labelled.{LabelledProgram, order_of, labels_of, levels_of, bare_of, HasType}
use Rattle.label_code.specs.declared.code.Instr.{Instr}
use Rattle.timing_types.proofs.Arrays.{labelled_arrays}
use Rattle.code_lower.specs.Layout.{IsImage}
use Rattle.leak_bound.specs.Relevant.{LevelsBelow, LevelsAre}
use Rattle.leak_bound.specs.Sound.{IsCompiled}
use Rattle.leak_bound.proofs.Tells.{Tells}

module _ (ms : ℕ → Marks) (ls : ℕ → ℕ) where
  -- labels leave the number of mitigates, and their marks
  same_mitigates : (p : Plan) (i : ℕ) → mitigates (bare (labelled ms ls p i)) ≡ mitigates p
  same_mitigates Done i = refl
  same_mitigates (Skip w p) i = same_mitigates p (i + 1)
  same_mitigates (Assign w x e p) i = same_mitigates p (i + 1)
  same_mitigates (Put w f n j e p) i = same_mitigates p (i + 1)
  same_mitigates (Sleep w e p) i = same_mitigates p (i + 1)
  same_mitigates (If w e a b p) i =
      omega (arith, same_mitigates a (i + 1), same_mitigates b (i + 1 + count a), same_mitigates p (i + 1 + count a + count b))
  same_mitigates (While w e c p) i = omega (arith, same_mitigates c (i + 1), same_mitigates p (i + 1 + count c))
  same_mitigates (Mitigate w k l e c p) i = omega (arith, same_mitigates c (i + 1), same_mitigates p (i + 1 + count c))

  labelled_marks : (p : Plan) (i n : ℕ) → AreNumbered n p → AreNumbered n (bare (labelled ms ls p i))
  labelled_marks Done i n h = tt
  labelled_marks (Skip w p) i n h = labelled_marks p (i + 1) n h
  labelled_marks (Assign w x e p) i n h = labelled_marks p (i + 1) n h
  labelled_marks (Put w f k j e p) i n h = labelled_marks p (i + 1) n h
  labelled_marks (Sleep w e p) i n h = labelled_marks p (i + 1) n h
  labelled_marks (If w e a b p) i n h =
      let ma = same_mitigates a (i + 1) in
      let mb = same_mitigates b (i + 1 + count a) in (
        labelled_marks a (i + 1) n h.0,
        subst (λ z. AreNumbered (n + z) (bare (labelled ms ls b (i + 1 + count a)))) (sym ma) (labelled_marks b (i + 1 + count a) (n + mitigates a) h.1),
        subst (λ z. AreNumbered (n + z + mitigates (bare (labelled ms ls b (i + 1 + count a)))) (bare (labelled ms ls p (i + 1 + count a + count b)))) (sym ma)
            (subst (λ z. AreNumbered (n + mitigates a + z) (bare (labelled ms ls p (i + 1 + count a + count b)))) (sym mb)
            (labelled_marks p (i + 1 + count a + count b) (n + mitigates a + mitigates b) h.2)),
      )
  labelled_marks (While w e c p) i n h = (
    labelled_marks c (i + 1) n h.0,
    subst (λ z. AreNumbered (n + z) (bare (labelled ms ls p (i + 1 + count c)))) (sym (same_mitigates c (i + 1)))
        (labelled_marks p (i + 1 + count c) (n + mitigates c) h.1),
  )
  labelled_marks (Mitigate w k l e c p) i n h = (
    h.0,
    labelled_marks c (i + 1) (n + 1) h.1,
    subst (λ z. AreNumbered (n + 1 + z) (bare (labelled ms ls p (i + 1 + count c)))) (sym (same_mitigates c (i + 1)))
        (labelled_marks p (i + 1 + count c) (n + 1 + mitigates c) h.2),
  )

  labelled_levels : (p : Plan) (i n : ℕ) → ((k : ℕ) → ls k < n) → LevelsBelow n (bare (labelled ms ls p i))
  labelled_levels Done i n h = tt
  labelled_levels (Skip w p) i n h = labelled_levels p (i + 1) n h
  labelled_levels (Assign w x e p) i n h = labelled_levels p (i + 1) n h
  labelled_levels (Put w f k j e p) i n h = labelled_levels p (i + 1) n h
  labelled_levels (Sleep w e p) i n h = labelled_levels p (i + 1) n h
  labelled_levels (If w e a b p) i n h =
      (labelled_levels a (i + 1) n h, labelled_levels b (i + 1 + count a) n h, labelled_levels p (i + 1 + count a + count b) n h)
  labelled_levels (While w e c p) i n h = (labelled_levels c (i + 1) n h, labelled_levels p (i + 1 + count c) n h)
  labelled_levels (Mitigate w k l e c p) i n h = (h k, labelled_levels c (i + 1) n h, labelled_levels p (i + 1 + count c) n h)

  labelled_told : (p : Plan) (i : ℕ) → LevelsAre ls (bare (labelled ms ls p i))
  labelled_told Done i = tt
  labelled_told (Skip w p) i = labelled_told p (i + 1)
  labelled_told (Assign w x e p) i = labelled_told p (i + 1)
  labelled_told (Put w f k j e p) i = labelled_told p (i + 1)
  labelled_told (Sleep w e p) i = labelled_told p (i + 1)
  labelled_told (If w e a b p) i = (labelled_told a (i + 1), labelled_told b (i + 1 + count a), labelled_told p (i + 1 + count a + count b))
  labelled_told (While w e c p) i = (labelled_told c (i + 1), labelled_told p (i + 1 + count c))
  labelled_told (Mitigate w k l e c p) i = (refl, labelled_told c (i + 1), labelled_told p (i + 1 + count c))

  -- a mitigate's program-counter label and its level, by its mark, tell whether it is relevant
  pub contexts_tell : (lat : Lattice) (g : ℕ → ℕ) (o : ℕ) (at : ℕ → ℕ) (pc : ℕ) (p : Plan) (i : ℕ) → HasContexts lat g at pc (bare (labelled ms ls p i)) →
      Tells lat g o (λ k. lat.flows (at k) o && not (lat.flows (ls k) o)) pc (bare (labelled ms ls p i))
  contexts_tell lat g o at pc Done i h = tt
  contexts_tell lat g o at pc (Skip w p) i h = contexts_tell lat g o at pc p (i + 1) h
  contexts_tell lat g o at pc (Assign w x e p) i h = contexts_tell lat g o at pc p (i + 1) h
  contexts_tell lat g o at pc (Put w f k j e p) i h = contexts_tell lat g o at pc p (i + 1) h
  contexts_tell lat g o at pc (Sleep w e p) i h = contexts_tell lat g o at pc p (i + 1) h
  contexts_tell lat g o at pc (If w e a b p) i h =
      let inner = lat.join pc (label_of lat g e) in (
        contexts_tell lat g o at inner a (i + 1) h.0,
        contexts_tell lat g o at inner b (i + 1 + count a) h.1,
        contexts_tell lat g o at pc p (i + 1 + count a + count b) h.2,
      )
  contexts_tell lat g o at pc (While w e c p) i h =
      (contexts_tell lat g o at (lat.join pc (label_of lat g e)) c (i + 1) h.0, contexts_tell lat g o at pc p (i + 1 + count c) h.1)
  contexts_tell lat g o at pc (Mitigate w k l e c p) i h =
      (ap (λ z. lat.flows z o && not (lat.flows (ls k) o)) h.0, contexts_tell lat g o at pc c (i + 1) h.1, contexts_tell lat g o at pc p (i + 1 + count c) h.2)

-- a labelling of a numbered program that types it, with the image of its code
pub compiled : (p : LabelledProgram) (image : List Instr) → IsLattice (order_of p) → AreNumbered 0 (plan_of p.program) → IsLabelling p.program p.labels
    → ArraysIn (labels_of p) (plan_of p.program) → HasType p → IsImage (order_of p) (labels_of p) image (bare_of p) →
    IsCompiled p.program.order (labels_of p) (levels_of p) image (bare_of p)
compiled p image lattice numbered kept arrays typed code =
    let ms = marks_of p.program.order p.labels in
    let ls = level_of p.program.order p.labels in
    record {
      lattice = lattice;
      levels = labelled_levels ms ls (plan_of p.program) 0 p.program.order.size kept.levels_below;
      told = labelled_told ms ls (plan_of p.program) 0;
      marks = labelled_marks ms ls (plan_of p.program) 0 0 numbered;
      arrays = labelled_arrays (labels_of p) ms ls (plan_of p.program) 0 arrays;
      typed = typed;
      code = code;
    }
