-- Words are refused for one reason, want of memory aside.
use Rattle.std.proofs.Common.{◌≡◌, ◌<◌, ◌≤◌, refl, sym, ap, ◌∙◌, subst, ℕ, List, [], ◌∷◌, ◌++◌, append_assoc, true, Option, Some, ◌⊎◌, inl, inr, ⊎_elim}
use Rattle.std.proofs.Common.{length, arith}
use Rattle.std.proofs.lemmas.Option.{none-some}
use Rattle.text_base.specs.declared.pos.Pos.{Pos}
use Rattle.label_lattice.specs.declared.label.Label.{Label}
use Rattle.label_lattice.specs.declared.fault.LatticeFault.{LatticeFault}
use Rattle.label_lattice.specs.declared.fault.LatticeFault.TheVariants.{TooMany as ManyLabels, Cycle, NoBottom, NoJoin}
use Rattle.label_lattice.specs.Chains.{Chain, IsNoPair, IsFirstPair, IsFault}
use Rattle.mit_parser.specs.declared.fault.ParseFault.{ParseFault}
use Rattle.mit_parser.specs.declared.fault.ParseFault.TheVariants.{Unexpected, TooDeep, TooMany, Unknown, Twice, Lattice, Memory, Size, Misuse}
use Rattle.mit_parser.specs.Words.{Told}
use Rattle.mit_parser.specs.Counting.{nothing_yet, count, is_over, counts_after, Fits}
use Rattle.mit_parser.specs.Faults.{header_labels, header_pairs, IsLatticeFault, IsNameFault}
use Rattle.mit_parser.specs.Tree.{ProgramTree}
use Rattle.mit_parser.specs.Spells.{Spells, Begins, IsUnexpected, IsTooDeep, IsMisnamed, Refuses}
use Rattle.parse_laws.proofs.OneProgram.{one_tree}
use Rattle.parse_laws.proofs.Refused.{none_passes, no_lattice_fault, not_unexpected, not_too_deep}

-- labels have one fault

first_is_one : (n : ℕ) (P : ℕ → ℕ → Type 0) (a b c d : ℕ) → IsFirstPair n P a b → IsFirstPair n P c d → (a ≡ c) × (b ≡ d)
first_is_one n P a b c d f g =
    let x : (a < c) ⊎ ((a ≡ c) × (b ≤ d)) = f.first c d g.ordered g.within g.holds in
    let y : (c < a) ⊎ ((c ≡ a) × (d ≤ b)) = g.first a b f.ordered f.within f.holds in
    ⊎_elim
    (λ (l : a < c). ⊎_elim (λ (m : c < a). absurd (omega (arith, l, m))) (λ (m : (c ≡ a) × (d ≤ b)). absurd (omega (arith, l, m.0))) y)
    (λ (l : (a ≡ c) × (b ≤ d)). ⊎_elim (λ (m : c < a). absurd (omega (arith, l.0, m))) (λ (m : (c ≡ a) × (d ≤ b)). (l.0, omega (arith, l.1, m.1))) y) x

abbrev label : ℕ → Label
label n = record { number = n }

abbrev two_labels : (Label → Label → LatticeFault) → ℕ → ℕ → LatticeFault
two_labels F a b = F (label a) (label b)

same_two : (F : Label → Label → LatticeFault) (a b c d : Label) → (a.number ≡ c.number) × (b.number ≡ d.number) → F a b ≡ F c d
same_two F a b c d e = ap (λ (x : ℕ). two_labels F x b.number) e.0 ∙ ap (λ (y : ℕ). two_labels F c.number y) e.1

none_and_first : (n : ℕ) (P : ℕ → ℕ → Type 0) (a b : ℕ) → IsNoPair n P → IsFirstPair n P a b → ⊥
none_and_first n P a b f g = f a b g.ordered g.within g.holds

one_lattice_fault : (n : ℕ) (flows : ℕ → ℕ → Type 0) (f g : LatticeFault) → IsFault n flows f → IsFault n flows g → f ≡ g
one_lattice_fault n flows (ManyLabels k) (ManyLabels m) h i = ap ManyLabels (h.1 ∙ sym i.1)
one_lattice_fault n flows (ManyLabels k) (Cycle a b) h i = absurd (omega (arith, h.0, i.0))
one_lattice_fault n flows (ManyLabels k) (NoBottom a b) h i = absurd (omega (arith, h.0, i.0))
one_lattice_fault n flows (ManyLabels k) (NoJoin a b) h i = absurd (omega (arith, h.0, i.0))
one_lattice_fault n flows (Cycle a b) (ManyLabels k) h i = absurd (omega (arith, h.0, i.0))
one_lattice_fault n flows (NoBottom a b) (ManyLabels k) h i = absurd (omega (arith, h.0, i.0))
one_lattice_fault n flows (NoJoin a b) (ManyLabels k) h i = absurd (omega (arith, h.0, i.0))
one_lattice_fault n flows (Cycle a b) (Cycle c d) h i = same_two Cycle a b c d (first_is_one n _ a.number b.number c.number d.number h.1 i.1)
one_lattice_fault n flows (Cycle a b) (NoBottom c d) h i = absurd (none_and_first n _ a.number b.number i.1 h.1)
one_lattice_fault n flows (Cycle a b) (NoJoin c d) h i = absurd (none_and_first n _ a.number b.number i.1 h.1)
one_lattice_fault n flows (NoBottom a b) (Cycle c d) h i = absurd (none_and_first n _ c.number d.number h.1 i.1)
one_lattice_fault n flows (NoJoin a b) (Cycle c d) h i = absurd (none_and_first n _ c.number d.number h.1 i.1)
one_lattice_fault n flows (NoBottom a b) (NoBottom c d) h i = same_two NoBottom a b c d (first_is_one n _ a.number b.number c.number d.number h.2 i.2)
one_lattice_fault n flows (NoBottom a b) (NoJoin c d) h i = absurd (none_and_first n _ a.number b.number i.2 h.2)
one_lattice_fault n flows (NoJoin a b) (NoBottom c d) h i = absurd (none_and_first n _ c.number d.number h.2 i.2)
one_lattice_fault n flows (NoJoin a b) (NoJoin c d) h i = same_two NoJoin a b c d (first_is_one n _ a.number b.number c.number d.number h.3 i.3)

-- a fault of labels is one of a lattice
lattice_fault_is : (labels : List (List ℕ)) (pairs : List (Label × Label)) (f : ParseFault) → IsLatticeFault labels pairs f
    → (l : LatticeFault) × (f ≡ Lattice l) × IsFault (length labels) (Chain pairs) l
lattice_fault_is labels pairs (Lattice l) h = (l, refl, h)
lattice_fault_is labels pairs (Unexpected p) h = absurd h
lattice_fault_is labels pairs (TooDeep p) h = absurd h
lattice_fault_is labels pairs (TooMany n) h = absurd h
lattice_fault_is labels pairs (Unknown p) h = absurd h
lattice_fault_is labels pairs (Twice p) h = absurd h
lattice_fault_is labels pairs Memory h = absurd h
lattice_fault_is labels pairs (Size p) h = absurd h
lattice_fault_is labels pairs (Misuse p) h = absurd h

some_is_one : (o : Option ParseFault) (f g : ParseFault) → o ≡ Some f → o ≡ Some g → f ≡ g
some_is_one o f g h k = let e : Some f ≡ Some g = sym h ∙ k in cc

-- names have one first fault
one_name_fault : (t : ProgramTree) (f g : ParseFault) → IsNameFault t f → IsNameFault t g → f ≡ g
one_name_fault t f g (inl h) (inl k) = some_is_one _ f g h k
one_name_fault t f g (inl h) (inr (inl k)) = absurd (none-some f (sym k.0 ∙ h))
one_name_fault t f g (inl h) (inr (inr k)) = absurd (none-some f (sym k.0 ∙ h))
one_name_fault t f g (inr (inl h)) (inl k) = absurd (none-some g (sym h.0 ∙ k))
one_name_fault t f g (inr (inr h)) (inl k) = absurd (none-some g (sym h.0 ∙ k))
one_name_fault t f g (inr (inl h)) (inr (inl k)) =
    let names = (header_labels t.header).names in
    let x = lattice_fault_is names (header_pairs t.header) f h.1 in
    let y = lattice_fault_is names (header_pairs t.header) g k.1 in
    x.1 ∙ ap Lattice (one_lattice_fault (length names) (Chain (header_pairs t.header)) x.0 y.0 x.2 y.2) ∙ sym y.1
one_name_fault t f g (inr (inl h)) (inr (inr k)) = absurd (no_lattice_fault (header_labels t.header).names (header_pairs t.header) k.1 f h.1)
one_name_fault t f g (inr (inr h)) (inr (inl k)) = absurd (no_lattice_fault (header_labels t.header).names (header_pairs t.header) h.1 g k.1)
one_name_fault t f g (inr (inr h)) (inr (inr k)) = some_is_one _ f g h.2 k.2

-- of two places of a list one is before the other, or they are one
data Places (b c : List Told) (x y : Told) : Type 0 where
  first : (m : List Told) → c ≡ b ++ x ∷ m → Places b c x y
  second : (m : List Told) → b ≡ c ++ y ∷ m → Places b c x y
  one : b ≡ c → x ≡ y → Places b c x y

places : (b c : List Told) (x y : Told) (r s : List Told) → b ++ x ∷ r ≡ c ++ y ∷ s → Places b c x y
places [] [] x y r s e = one refl (cc)
places [] (z ∷ c) x y r s e = first c cc
places (z ∷ b) [] x y r s e = second b cc
places (z ∷ b) (w ∷ c) x y r s e = more (places b c x y r s cc)
  where
    more : Places b c x y → Places (z ∷ b) (w ∷ c) x y
    more (first m f) = first m cc
    more (second m f) = second m cc
    more (one f g) = one (cc) g

begins_before : (p r : List Told) → Begins (p ++ r) → Begins p
begins_before p r (w, t, s) = (r ++ w, t, subst (Spells t) (append_assoc p r w) s)

-- what begins a spelling goes on to no word that ends every spelling
ends_not : (b m : List Told) (x : Told) → (Begins (b ++ x ∷ []) → ⊥) → Begins (b ++ x ∷ m) → ⊥
ends_not b m x f h = f (begins_before (b ++ x ∷ []) m (subst Begins (sym (append_assoc b (x ∷ []) m)) h))

passes_not : (b m : List Told) (x : Told) → is_over (count (counts_after nothing_yet b) x.symbol) ≡ true → Fits nothing_yet (b ++ x ∷ m) → ⊥
passes_not b m x h f = let no = none_passes b m x nothing_yet f in cc

module _ (words : List Told) where
  one_unexpected : (p q : Pos) → IsUnexpected words p → IsUnexpected words q → p ≡ q
  one_unexpected p q h k = by (places h.before k.before h.bad k.bad h.after k.after (sym h.are ∙ k.are))
    where
      by : Places h.before k.before h.bad k.bad → p ≡ q
      by (first m e) = absurd (ends_not h.before m h.bad h.ends (subst Begins e k.begins))
      by (second m e) = absurd (ends_not k.before m k.bad k.ends (subst Begins e h.begins))
      by (one e f) = sym h.place ∙ ap (λ (x : Told). x.pos) f ∙ k.place

  one_too_deep : (p q : Pos) → IsTooDeep words p → IsTooDeep words q → p ≡ q
  one_too_deep p q h k = by (places h.before k.before h.deep k.deep h.after k.after (sym h.are ∙ k.are))
    where
      by : Places h.before k.before h.deep k.deep → p ≡ q
      by (first m e) = absurd (passes_not h.before m h.deep h.passes (subst (Fits nothing_yet) e k.fit))
      by (second m e) = absurd (passes_not k.before m k.deep k.passes (subst (Fits nothing_yet) e h.fit))
      by (one e f) = sym h.place ∙ ap (λ (x : Told). x.pos) f ∙ k.place

  not_both : (p q : Pos) → IsUnexpected words p → IsTooDeep words q → ⊥
  not_both p q h k = by (places h.before k.before h.bad k.deep h.after k.after (sym h.are ∙ k.are))
    where
      by : Places h.before k.before h.bad k.deep → ⊥
      by (first m e) = ends_not h.before m h.bad h.ends (subst Begins e (begins_before k.before (k.deep ∷ []) k.begins))
      by (second m e) = passes_not k.before m k.deep k.passes (subst (Fits nothing_yet) e h.fit)
      by (one e f) =
          let P : Told → Type 0 = λ x. Begins (h.before ++ x ∷ []) in
          let Q : List Told → Type 0 = λ b. Begins (b ++ k.deep ∷ []) in
          h.ends (subst P (sym f) (subst Q (sym e) k.begins))

  one_misnamed : (f g : ParseFault) → IsMisnamed words f → IsMisnamed words g → f ≡ g
  one_misnamed f g h k =
      let P : ProgramTree → Type 0 = λ t. IsNameFault t g in
      one_name_fault h.tree f g h.first (subst P (one_tree words k.tree h.tree k.spells h.spells) k.first)

  -- the three kinds of refusal
  data Kind (f : ParseFault) : Type 0 where
    unexpected : (p : Pos) → f ≡ Unexpected p → IsUnexpected words p → Kind f
    too_deep : (p : Pos) → f ≡ TooDeep p → IsTooDeep words p → Kind f
    misnamed : IsMisnamed words f → Kind f

  kind : (f : ParseFault) → Refuses words f → (f ≡ Memory → ⊥) → Kind f
  kind (Unexpected p) r n = unexpected p refl r
  kind (TooDeep p) r n = too_deep p refl r
  kind (TooMany m) r n = misnamed r
  kind (Unknown p) r n = misnamed r
  kind (Twice p) r n = misnamed r
  kind (Lattice l) r n = misnamed r
  kind (Size p) r n = misnamed r
  kind (Misuse p) r n = misnamed r
  kind Memory r n = absurd (n refl)

  of_kinds : (f g : ParseFault) → Kind f → Kind g → f ≡ g
  of_kinds f g (unexpected p e h) (unexpected q d k) = e ∙ ap Unexpected (one_unexpected p q h k) ∙ sym d
  of_kinds f g (too_deep p e h) (too_deep q d k) = e ∙ ap TooDeep (one_too_deep p q h k) ∙ sym d
  of_kinds f g (misnamed h) (misnamed k) = one_misnamed f g h k
  of_kinds f g (unexpected p e h) (too_deep q d k) = absurd (not_both p q h k)
  of_kinds f g (too_deep p e h) (unexpected q d k) = absurd (not_both q p k h)
  of_kinds f g (unexpected p e h) (misnamed k) = absurd (not_unexpected words k.tree k.spells p h)
  of_kinds f g (misnamed h) (unexpected q d k) = absurd (not_unexpected words h.tree h.spells q k)
  of_kinds f g (too_deep p e h) (misnamed k) = absurd (not_too_deep words k.tree k.spells k.within p h)
  of_kinds f g (misnamed h) (too_deep q d k) = absurd (not_too_deep words h.tree h.spells h.within q k)

  pub one_refusal : (f g : ParseFault) → Refuses words f → Refuses words g → (f ≡ Memory → ⊥) → (g ≡ Memory → ⊥) → f ≡ g
  one_refusal f g r s x y = of_kinds f g (kind f r x) (kind g s y)
