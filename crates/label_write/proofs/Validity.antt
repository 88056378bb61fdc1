-- A valid program stays valid once the labels of a labelling are written.
use Rattle.std.proofs.Common.{◌≡◌, refl, sym, ap, ◌∙◌, subst, ℕ, suc, ◌+◌, ◌<◌, ◌≤◌, arith, List, [], ◌∷◌, length, Option, None, Some}
use Rattle.std.specs.Prelude.{All, Bool, true, false, map, option_map}
use Rattle.std.specs.Str.{bytes_eq}
use Rattle.std.proofs.lemmas.Bool.{cond-true, cond-false}
use Rattle.std.proofs.lemmas.List.Elements.{All-head, All-tail, All-cons}
use Rattle.label_lattice.specs.declared.label.Label.{Label}
use Rattle.label_lattice.specs.Order.{Order, AllDiffer}
use Rattle.label_lattice.specs.Names.{IsName}
use Rattle.mit_syntax.specs.declared.ast.Command.{Command}
use Rattle.mit_syntax.specs.declared.declarations.Decl.{Decl}
use Rattle.mit_syntax.specs.Declarations.{Declaration, size_of, length_in, elements_in, declared, scalar_from, scalar_in, array_from, array_in, find_scalar}
use Rattle.mit_syntax.specs.Declarations.{find_array}
use Rattle.mit_syntax.specs.Expression.{Expression, Number, Variable, Binary, Element}
use Rattle.mit_syntax.specs.Limits.{AreSmall}
use Rattle.mit_syntax.specs.Todo.{Done, Skip, Assign, Put, Sleep, If, While, Mitigate}
use Rattle.mit_syntax.specs.Plan.{Plan, list_plan, count, mitigates}
use Rattle.mit_syntax.specs.Program.{Syntax, syntax, plan_of}
use Rattle.mit_syntax.specs.Valid.{IsValid, IsBelow, IsShaped, IsScalar, IsDeclaredArray, IsKnown, AreSome, AreKnown, AreNumbered}
use Rattle.timing_types.specs.Labelling.{Labelling, IsLabelling, variable_of, marks_of, level_of}
use Rattle.label_write.specs.Written.{as_label, written_plan, written_declarations}

module _ (o : Order) (l : Labelling) where
  pub same_count : (p : Plan) (i : ℕ) → count (written_plan o l p i) ≡ count p
  same_count Done i = refl
  same_count (Skip w p) i = let r = same_count p (i + 1) in omega (arith, r)
  same_count (Assign w x e p) i = let r = same_count p (i + 1) in omega (arith, r)
  same_count (Put w f n j e p) i = let r = same_count p (i + 1) in omega (arith, r)
  same_count (Sleep w e p) i = let r = same_count p (i + 1) in omega (arith, r)
  same_count (If w e a b p) i =
      let r = same_count a (i + 1) in
      let s = same_count b (i + 1 + count a) in
      let t = same_count p (i + 1 + count a + count b) in
      omega (arith, r, s, t)
  same_count (While w e c p) i = let r = same_count c (i + 1) in let t = same_count p (i + 1 + count c) in omega (arith, r, t)
  same_count (Mitigate w k v e c p) i = let r = same_count c (i + 1) in let t = same_count p (i + 1 + count c) in omega (arith, r, t)

  pub same_mitigates : (p : Plan) (i : ℕ) → mitigates (written_plan o l p i) ≡ mitigates p
  same_mitigates Done i = refl
  same_mitigates (Skip w p) i = same_mitigates p (i + 1)
  same_mitigates (Assign w x e p) i = same_mitigates p (i + 1)
  same_mitigates (Put w f n j e p) i = same_mitigates p (i + 1)
  same_mitigates (Sleep w e p) i = same_mitigates p (i + 1)
  same_mitigates (If w e a b p) i =
      let r = same_mitigates a (i + 1) in
      let s = same_mitigates b (i + 1 + count a) in
      let t = same_mitigates p (i + 1 + count a + count b) in
      omega (arith, r, s, t)
  same_mitigates (While w e c p) i = let r = same_mitigates c (i + 1) in let t = same_mitigates p (i + 1 + count c) in omega (arith, r, t)
  same_mitigates (Mitigate w k v e c p) i = let r = same_mitigates c (i + 1) in let t = same_mitigates p (i + 1 + count c) in omega (arith, r, t)

  some_written : (p : Plan) (i : ℕ) → AreSome p → AreSome (written_plan o l p i)
  some_written Done i h = h
  some_written (Skip w p) i h = tt
  some_written (Assign w x e p) i h = tt
  some_written (Put w f n j e p) i h = tt
  some_written (Sleep w e p) i h = tt
  some_written (If w e a b p) i h = tt
  some_written (While w e c p) i h = tt
  some_written (Mitigate w k v e c p) i h = tt

  numbered_written : (n : ℕ) (p : Plan) (i : ℕ) → AreNumbered n p → AreNumbered n (written_plan o l p i)
  numbered_written n Done i h = tt
  numbered_written n (Skip w p) i h = numbered_written n p (i + 1) h
  numbered_written n (Assign w x e p) i h = numbered_written n p (i + 1) h
  numbered_written n (Put w f m j e p) i h = numbered_written n p (i + 1) h
  numbered_written n (Sleep w e p) i h = numbered_written n p (i + 1) h
  numbered_written n (If w e a b p) i h =
      let r : mitigates a ≡ mitigates (written_plan o l a (i + 1)) = sym (same_mitigates a (i + 1)) in
      let s : mitigates b ≡ mitigates (written_plan o l b (i + 1 + count a)) = sym (same_mitigates b (i + 1 + count a)) in (
        numbered_written n a (i + 1) h.0,
        subst (λ m. AreNumbered (n + m) (written_plan o l b (i + 1 + count a))) r (numbered_written (n + mitigates a) b (i + 1 + count a) h.1),
        subst (λ m. AreNumbered (n + mitigates (written_plan o l a (i + 1)) + m) (written_plan o l p (i + 1 + count a + count b))) s
            (subst (λ m. AreNumbered (n + m + mitigates b) (written_plan o l p (i + 1 + count a + count b))) r
            (numbered_written (n + mitigates a + mitigates b) p (i + 1 + count a + count b) h.2)),
      )
  numbered_written n (While w e c p) i h = (
    numbered_written n c (i + 1) h.0,
    subst (λ m. AreNumbered (n + m) (written_plan o l p (i + 1 + count c))) (sym (same_mitigates c (i + 1)))
        (numbered_written (n + mitigates c) p (i + 1 + count c) h.1),
  )
  numbered_written n (Mitigate w k v e c p) i h = (
    h.0,
    numbered_written (n + 1) c (i + 1) h.1,
    subst (λ m. AreNumbered (n + 1 + m) (written_plan o l p (i + 1 + count c))) (sym (same_mitigates c (i + 1)))
        (numbered_written (n + 1 + mitigates c) p (i + 1 + count c) h.2),
  )

  small_written : (d : ℕ) (p : Plan) (i : ℕ) → AreSmall d p → AreSmall d (written_plan o l p i)
  small_written d Done i h = tt
  small_written d (Skip w p) i h = small_written d p (i + 1) h
  small_written d (Assign w x e p) i h = (h.0, small_written d p (i + 1) h.1)
  small_written d (Put w f n j e p) i h = (h.0, h.1, small_written d p (i + 1) h.2)
  small_written d (Sleep w e p) i h = (h.0, small_written d p (i + 1) h.1)
  small_written d (If w e a b p) i h =
      (h.0, h.1, small_written (d + 1) a (i + 1) h.2, small_written (d + 1) b (i + 1 + count a) h.3, small_written d p (i + 1 + count a + count b) h.4)
  small_written d (While w e c p) i h = (h.0, h.1, small_written (d + 1) c (i + 1) h.2, small_written d p (i + 1 + count c) h.3)
  small_written d (Mitigate w k v e c p) i h = (h.0, small_written (d + 1) c (i + 1) h.1, small_written d p (i + 1 + count c) h.2)

  -- a name stands for the same variables
  abbrev shape : Option (ℕ × Decl) → Option (ℕ × Option ℕ)
  shape r = option_map (λ d. (d.0, d.1.length)) r

  shape_later : (n : ℕ) (r : Option (ℕ × Decl)) → shape (option_map (λ d. (n + d.0, d.1)) r) ≡ option_map (λ d. (n + d.0, d.1)) (shape r)
  shape_later n None = refl
  shape_later n (Some d) = refl

  abbrev pub with_label : Declaration → ℕ → Decl
  with_label d x = record { label = Some (as_label (variable_of o l x)); length = d.1.length }

  abbrev later : Declaration → List Declaration → ℕ → List ℕ → Option (ℕ × Decl)
  later d ds x w = declared (written_declarations o l ds (x + size_of d.1)) w

  same_shape : (w : List ℕ) (ds : List Declaration) (x : ℕ) → shape (declared (written_declarations o l ds x) w) ≡ shape (declared ds w)
  same_shape w [] x = refl
  same_shape w (d ∷ ds) x = by (same_shape w ds (x + size_of d.1)) (bytes_eq w d.0) refl
    where
      by : shape (later d ds x w) ≡ shape (declared ds w) → (b : Bool) → bytes_eq w d.0 ≡ b
          → shape (declared (written_declarations o l (d ∷ ds) x) w) ≡ shape (declared (d ∷ ds) w)
      by rest true h =
          ap shape (cond-true (bytes_eq w d.0) (Some (0, with_label d x)) (option_map (λ r. (size_of d.1 + r.0, r.1)) (later d ds x w)) h)
          ∙ sym (ap shape (cond-true (bytes_eq w d.0) (Some (0, d.1)) (option_map (λ r. (size_of d.1 + r.0, r.1)) (declared ds w)) h))
      by rest false h =
          ap shape (cond-false (bytes_eq w d.0) (Some (0, with_label d x)) (option_map (λ r. (size_of d.1 + r.0, r.1)) (later d ds x w)) h)
          ∙ shape_later (size_of d.1) (later d ds x w)
          ∙ ap (λ z. option_map (λ r. (size_of d.1 + r.0, r.1)) z) rest
          ∙ sym (shape_later (size_of d.1) (declared ds w))
          ∙ sym (ap shape (cond-false (bytes_eq w d.0) (Some (0, d.1)) (option_map (λ r. (size_of d.1 + r.0, r.1)) (declared ds w)) h))

  abbrev scalar_of : Option (ℕ × Option ℕ) → Option ℕ
  scalar_of None = None
  scalar_of (Some r) = scalar_from r.0 r.1

  abbrev array_of : Option (ℕ × Option ℕ) → Option (ℕ × ℕ)
  array_of None = None
  array_of (Some r) = array_from r.0 r.1

  scalar_shape : (r : Option (ℕ × Decl)) → scalar_in r ≡ scalar_of (shape r)
  scalar_shape None = refl
  scalar_shape (Some r) = refl

  array_shape : (r : Option (ℕ × Decl)) → array_in r ≡ array_of (shape r)
  array_shape None = refl
  array_shape (Some r) = refl

  same_scalar : (w : List ℕ) (ds : List Declaration) (x : ℕ) → find_scalar (written_declarations o l ds x) w ≡ find_scalar ds w
  same_scalar w ds x = scalar_shape (declared (written_declarations o l ds x) w) ∙ ap scalar_of (same_shape w ds x) ∙ sym (scalar_shape (declared ds w))

  same_array : (w : List ℕ) (ds : List Declaration) (x : ℕ) → find_array (written_declarations o l ds x) w ≡ find_array ds w
  same_array w ds x = array_shape (declared (written_declarations o l ds x) w) ∙ ap array_of (same_shape w ds x) ∙ sym (array_shape (declared ds w))

  module _ (ds : List Declaration) where
    scalar_written : (x : ℕ) → IsScalar ds x → IsScalar (written_declarations o l ds 0) x
    scalar_written x (w, e) = (w, same_scalar w ds 0 ∙ e)

    array_written : (f n : ℕ) → IsDeclaredArray ds f n → IsDeclaredArray (written_declarations o l ds 0) f n
    array_written f n (w, e) = (w, same_array w ds 0 ∙ e)

    expression_known : (e : Expression) → IsKnown ds e → IsKnown (written_declarations o l ds 0) e
    expression_known (Number n) h = h
    expression_known (Variable x) h = scalar_written x h
    expression_known (Binary p a b) h = (expression_known a h.0, expression_known b h.1)
    expression_known (Element f n i) h = (array_written f n h.0, expression_known i h.1)

    module _ (marks : (i : ℕ) → ((marks_of o l i).er < o.size) × ((marks_of o l i).ew < o.size)) (levels : (k : ℕ) → level_of o l k < o.size) where
      known_written : (p : Plan) (i : ℕ) → AreKnown o.size ds p → AreKnown o.size (written_declarations o l ds 0) (written_plan o l p i)
      known_written Done i h = tt
      known_written (Skip w p) i h = (marks i, known_written p (i + 1) h.1)
      known_written (Assign w x e p) i h = (marks i, scalar_written x h.1, expression_known e h.2, known_written p (i + 1) h.3)
      known_written (Put w f n j e p) i h = (marks i, array_written f n h.1, expression_known j h.2, expression_known e h.3, known_written p (i + 1) h.4)
      known_written (Sleep w e p) i h = (marks i, expression_known e h.1, known_written p (i + 1) h.2)
      known_written (If w e a b p) i h = (
        marks i,
        expression_known e h.1,
        some_written a (i + 1) h.2,
        some_written b (i + 1 + count a) h.3,
        known_written a (i + 1) h.4,
        known_written b (i + 1 + count a) h.5,
        known_written p (i + 1 + count a + count b) h.6,
      )
      known_written (While w e c p) i h = (
        marks i,
        expression_known e h.1,
        some_written c (i + 1) h.2,
        known_written c (i + 1) h.3,
        known_written p (i + 1 + count c) h.4,
      )
      known_written (Mitigate w k v e c p) i h =
          (marks i, levels k, expression_known e h.2, some_written c (i + 1) h.3, known_written c (i + 1) h.4, known_written p (i + 1 + count c) h.5)

  length_written : (ds : List Declaration) (x : ℕ) → length (written_declarations o l ds x) ≡ length ds
  length_written [] x = refl
  length_written (d ∷ ds) x = ap suc (length_written ds (x + size_of d.1))

  elements_written : (ds : List Declaration) (x : ℕ) → elements_in (written_declarations o l ds x) ≡ elements_in ds
  elements_written [] x = refl
  elements_written (d ∷ ds) x = ap (λ n. length_in d.1.length + n) (elements_written ds (x + size_of d.1))

  pub names_written : (ds : List Declaration) (x : ℕ) → map (λ d. d.0) (written_declarations o l ds x) ≡ map (λ d. d.0) ds
  names_written [] x = refl
  names_written (d ∷ ds) x = ap (λ z. d.0 ∷ z) (names_written ds (x + size_of d.1))

  all_written : (P Q : Declaration → Type 0) → ((d : Declaration) (x : ℕ) → P d → Q (d.0, with_label d x))
      → (ds : List Declaration) (x : ℕ) → All P ds → All Q (written_declarations o l ds x)
  all_written P Q each [] x h = λ k d i. absurd (omega (arith, i))
  all_written P Q each (d ∷ ds) x h =
      All-cons Q _ (written_declarations o l ds (x + size_of d.1)) (each d x (All-head P d ds h))
      (all_written P Q each ds (x + size_of d.1) (All-tail P d ds h))

shaped_written : (a : Option Label) (b : Label) (n : Option ℕ) → IsShaped a n → IsShaped (Some b) n
shaped_written a b None h = tt
shaped_written None b (Some k) h = absurd h
shaped_written (Some a) b (Some k) h = h

pub valid_written : (s : Syntax) (l : Labelling) → IsValid s → IsLabelling s l → (b : List Command) → list_plan b ≡ written_plan s.order l (plan_of s) 0
    → IsValid (syntax s.order s.pairs (written_declarations s.order l s.declarations 0) b)
valid_written s l v h b e =
    let o = s.order in
    let ds = s.declarations in
    let p = plan_of s in
    record {
      pairs = v.pairs;
      flows = v.flows;
      order = v.order;
      few = record {
        count = subst (λ n. n ≤ 1024) (sym (length_written o l ds 0)) v.few.count;
        elements = subst (λ n. n ≤ 2048) (sym (elements_written o l ds 0)) v.few.elements;
      };
      names = all_written o l (λ d. IsName d.0) (λ d. IsName d.0) (λ d x i. i) ds 0 v.names;
      differ = subst (λ z. AllDiffer z) (sym (names_written o l ds 0)) v.differ;
      labels = all_written o l (λ d. IsName d.0) (λ d. IsBelow o.size d.1.label) (λ d x i. h.variables_below x) ds 0 v.names;
      arrays = all_written o l (λ d. IsShaped d.1.label d.1.length) (λ d. IsShaped d.1.label d.1.length)
          (λ d x i. shaped_written d.1.label (as_label (variable_of o l x)) d.1.length i) ds 0 v.arrays;
      some = subst (λ z. AreSome z) (sym e) (some_written o l p 0 v.some);
      count = subst (λ z. count z ≤ 2147483647) (sym e) (subst (λ n. n ≤ 2147483647) (sym (same_count o l p 0)) v.count);
      known = subst (λ z. AreKnown o.size (written_declarations o l ds 0) z) (sym e) (known_written o l ds h.commands_below h.levels_below p 0 v.known);
      numbered = subst (λ z. AreNumbered 0 z) (sym e) (numbered_written o l 0 p 0 v.numbered);
      small = subst (λ z. AreSmall 0 z) (sym e) (small_written o l 0 p 0 v.small);
    }
