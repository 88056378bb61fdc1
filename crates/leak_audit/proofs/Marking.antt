-- The relevant mitigates as a list by their marks.
use Rattle.std.specs.Prelude.{not, ◌&&◌}
use Rattle.std.proofs.Common.{◌≡◌, ℕ, zero, suc, ◌+◌, List, [], ◌∷◌, ◌++◌, refl, sym, ap, ◌∙◌, arith, Bool}
use Rattle.mit_syntax.specs.Todo.{Marked, Done, Skip, Assign, Put, Sleep, If, While, Mitigate}
use Rattle.mit_syntax.specs.Plan.{mitigates}
use Rattle.mit_syntax.specs.Valid.{AreNumbered}
use Rattle.label_lattice.specs.Lattice.{Lattice}
use Rattle.timing_types.specs.Typing.{label_of}
use Rattle.leak_bound.specs.Relevant.{relevances, LevelsAre}
use Rattle.leak_bound.proofs.Tells.{Tells}
use Rattle.leak_bound.proofs.Source.{relevances-same}
use Rattle.timing_types.proofs.Commands.{keep_commands}
use Rattle.timing_types.proofs.Arrays.{valid_arrays}
use Rattle.leak_bound.specs.Sound.{IsCompiled}
use Rattle.leak_bound.specs.Source.{IsTypedWith}
use Rattle.leak_bound.proofs.Compiled.{compiled, contexts_tell}
use Rattle.mit_syntax.specs.Plan.{Plan, count}
use Rattle.mit_syntax.specs.Program.{plan_of}
use Rattle.mit_syntax.specs.Valid.{IsValid}
use Rattle.label_lattice.specs.Lattice.{IsLattice}
use Rattle.mit_syntax.specs.Todo.{Marks}
use Rattle.timing_types.specs.Placed.{labelled, bare}
use Rattle.timing_types.specs.Labelling.{IsLabelling, marks_of, level_of}
use Rattle.timing_types.specs.Labelled.{LabelledProgram, TypedProgram, order_of, labels_of, levels_of, bare_of, HasType, AreContexts, context_of}
use Rattle.code_lower.specs.Lowered.{lowered}
use Rattle.code_lower.proofs.Stands.{image_is}

-- what a test says of so many marks from n on
abbrev pub marks_told : (ℕ → Bool) → ℕ → ℕ → List Bool
marks_told rel n zero = []
marks_told rel n (suc k) = rel n ∷ marks_told rel (n + 1) k

pub marks_told-add : (rel : ℕ → Bool) (n j k : ℕ) → marks_told rel n (j + k) ≡ marks_told rel n j ++ marks_told rel (n + j) k
marks_told-add rel n zero k =
    let e : 0 + k ≡ k = omega arith in
    let f : n ≡ n + 0 = omega arith in
    ap (marks_told rel n) e ∙ ap (λ z. marks_told rel z k) f
marks_told-add rel n (suc j) k =
    let e : suc j + k ≡ suc (j + k) = omega arith in
    let f : n + 1 + j ≡ n + suc j = omega arith in
    ap (marks_told rel n) e ∙ ap (λ z. rel n ∷ z) (marks_told-add rel (n + 1) j k ∙ ap (λ z. marks_told rel (n + 1) j ++ marks_told rel z k) f)

-- one mark more
pub marks_told-one : (rel : ℕ → Bool) (k : ℕ) → marks_told rel 0 (k + 1) ≡ marks_told rel 0 k ++ rel k ∷ []
marks_told-one rel k = let e : 0 + k ≡ k = omega arith in marks_told-add rel 0 k 1 ∙ ap (λ z. marks_told rel 0 k ++ marks_told rel z 1) e

module _ (lat : Lattice) (g ls : ℕ → ℕ) (o : ℕ) (rel : ℕ → Bool) where
  -- a test that tells which marks of a numbered list are relevant tells the list
  pub relevances-told : (p : Marked) (pc n : ℕ) → AreNumbered n p → LevelsAre ls p → Tells lat g o rel pc p
      → relevances lat g ls o pc p ≡ marks_told rel n (mitigates p)
  relevances-told Done pc n m v t = refl
  relevances-told (Skip k r) pc n m v t = relevances-told r pc n m v t
  relevances-told (Assign k x e r) pc n m v t = relevances-told r pc n m v t
  relevances-told (Put k f j i e r) pc n m v t = relevances-told r pc n m v t
  relevances-told (Sleep k e r) pc n m v t = relevances-told r pc n m v t
  relevances-told (If k e a b r) pc n m v t =
      let inner = lat.join pc (label_of lat g e) in
      let ra = relevances-told a inner n m.0 v.0 t.0 in
      let rb = relevances-told b inner (n + mitigates a) m.1 v.1 t.1 in
      let rr = relevances-told r pc (n + mitigates a + mitigates b) m.2 v.2 t.2 in
      let all : mitigates a + (mitigates b + mitigates r) ≡ mitigates a + mitigates b + mitigates r = omega arith in
      ap (λ z. z ++ (relevances lat g ls o inner b ++ relevances lat g ls o pc r)) ra
      ∙ (ap (λ z. marks_told rel n (mitigates a) ++ (z ++ relevances lat g ls o pc r)) rb
      ∙ (ap (λ z. marks_told rel n (mitigates a) ++ (marks_told rel (n + mitigates a) (mitigates b) ++ z)) rr
      ∙ (ap (λ z. marks_told rel n (mitigates a) ++ z) (sym (marks_told-add rel (n + mitigates a) (mitigates b) (mitigates r)))
      ∙ (sym (marks_told-add rel n (mitigates a) (mitigates b + mitigates r))
      ∙ ap (marks_told rel n) all))))
  relevances-told (While k e c r) pc n m v t =
      let inner = lat.join pc (label_of lat g e) in
      let rc = relevances-told c inner n m.0 v.0 t.0 in
      let rr = relevances-told r pc (n + mitigates c) m.1 v.1 t.1 in
      ap (λ z. z ++ relevances lat g ls o pc r) rc
      ∙ (ap (λ z. marks_told rel n (mitigates c) ++ z) rr ∙ sym (marks_told-add rel n (mitigates c) (mitigates r)))
  relevances-told (Mitigate k j l e c r) pc n m v t =
      let rc = relevances-told c pc (n + 1) m.1 v.1 t.1 in
      let rr = relevances-told r pc (n + 1 + mitigates c) m.2 v.2 t.2 in
      let here = ap (λ z. lat.flows pc o && not (lat.flows z o)) (sym v.0) ∙ sym t.0 ∙ ap rel m.0 in
      let all : suc (mitigates c + mitigates r) ≡ 1 + mitigates c + mitigates r = omega arith in
      ap (λ z. z ∷ (relevances lat g ls o pc c ++ relevances lat g ls o pc r)) here
      ∙ (ap (λ z. rel n ∷ (z ++ relevances lat g ls o pc r)) rc
      ∙ (ap (λ z. rel n ∷ (marks_told rel (n + 1) (mitigates c) ++ z)) rr
      ∙ (ap (λ z. rel n ∷ z) (sym (marks_told-add rel (n + 1) (mitigates c) (mitigates r)))
      ∙ ap (marks_told rel n) all)))

-- a labelling leaves the number of mitigates
bare-mitigates : (ms : ℕ → Marks) (ls : ℕ → ℕ) (p : Plan) (i : ℕ) → mitigates (bare (labelled ms ls p i)) ≡ mitigates p
bare-mitigates ms ls Done i = refl
bare-mitigates ms ls (Skip w p) i = bare-mitigates ms ls p (i + 1)
bare-mitigates ms ls (Assign w x e p) i = bare-mitigates ms ls p (i + 1)
bare-mitigates ms ls (Put w f n j e p) i = bare-mitigates ms ls p (i + 1)
bare-mitigates ms ls (Sleep w e p) i = bare-mitigates ms ls p (i + 1)
bare-mitigates ms ls (If w e a b p) i =
    omega (arith, bare-mitigates ms ls a (i + 1), bare-mitigates ms ls b (i + 1 + count a), bare-mitigates ms ls p (i + 1 + count a + count b))
bare-mitigates ms ls (While w e c p) i = omega (arith, bare-mitigates ms ls c (i + 1), bare-mitigates ms ls p (i + 1 + count c))
bare-mitigates ms ls (Mitigate w k l e c p) i = omega (arith, bare-mitigates ms ls c (i + 1), bare-mitigates ms ls p (i + 1 + count c))

-- a labelled program that is typed, with the image that it is lowered to
compiled_of : (p : LabelledProgram) → IsLattice (order_of p) → IsValid p.program → IsLabelling p.program p.labels → HasType p
    → IsCompiled p.program.order (labels_of p) (levels_of p) (lowered p).instrs (bare_of p)
compiled_of p lattice valid kept typed =
    compiled p (lowered p).instrs lattice valid.numbered kept (valid_arrays p.program p.labels valid kept) typed
    (image_is (order_of p) (labels_of p) (bare_of p))

-- a labelled program that is typed is one that the theorem speaks of
pub typed_with : (p : LabelledProgram) → IsLattice (order_of p) → IsValid p.program → IsLabelling p.program p.labels → HasType p → IsTypedWith p
typed_with p lattice valid kept typed =
    record { lattice = lattice; numbered = valid.numbered; labelling = kept; arrays = valid_arrays p.program p.labels valid kept; typed = typed }

-- relevance by a mitigate's program-counter label and its level
abbrev pub relevance_by : TypedProgram → ℕ → ℕ → Bool
relevance_by p o k = (order_of p.labelled).flows (context_of p k) o && not
    ((order_of p.labelled).flows (level_of p.labelled.program.order p.labelled.labels k) o)

pub all_marks : (p : TypedProgram) (o n : ℕ) → IsLattice (order_of p.labelled) → IsValid p.labelled.program → IsLabelling p.labelled.program p.labelled.labels
    → HasType p.labelled → AreContexts p.labelled p.contexts →
    n ≡ mitigates (plan_of p.labelled.program)
    → marks_told (relevance_by p o) 0 n ≡ relevances (order_of p.labelled) (labels_of p.labelled) (levels_of p.labelled) o
    (order_of p.labelled).bottom (plan_of p.labelled.program)
all_marks p o n lattice valid kept typed contexts count_is =
    let q = p.labelled in
    let made = compiled_of q lattice valid kept typed in
    let ms = marks_of q.program.order q.labels in
    let ls = level_of q.program.order q.labels in
    let tells = contexts_tell ms ls (order_of q) (labels_of q) o (context_of p) (order_of q).bottom (plan_of q.program) 0 contexts.have in
    ap (marks_told (relevance_by p o) 0) (count_is ∙ sym (bare-mitigates ms ls (plan_of q.program) 0))
    ∙ sym (relevances-told (order_of q) (labels_of q) (levels_of q) o (relevance_by p o) (bare_of q) (order_of q).bottom 0 made.marks made.told tells)
    ∙ relevances-same (bare_of q) (plan_of q.program) (keep_commands q) (order_of q) (labels_of q) (levels_of q) o (order_of q).bottom
