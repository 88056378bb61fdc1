-- A list of parts, put one after another.
use Rattle.std.proofs.Common.{◌≡◌, refl, ap, sym, ◌∙◌, List, [], ◌∷◌, ◌++◌, ℕ, zero, suc, ◌<◌, ◌≤◌, ◌+◌, drop, get_or, length, add-one, arith}
use Rattle.std.proofs.lemmas.List.{drop_more, drop_all}
use Rattle.label_lattice.specs.declared.label.Label.{Label}
use Rattle.label_lattice.specs.Order.{Order}
use Rattle.mit_syntax.specs.declared.token.Keyword.TheVariants.{Order as OrderKey}
use Rattle.mit_syntax.specs.Chunks.{Chunk, text}
use Rattle.mit_syntax.specs.Declarations.{Declaration}
use Rattle.mit_syntax.specs.Layout.{Part, Puts, a_key, a_space, end_line, pair_part, order_part, comma_before, listed, more_listed, declaration_part}
use Rattle.mit_syntax.specs.Layout.{declarations_part}
use Rattle.mit_syntax.proofs.Putting.{puts_then, puts_none}

-- what is left to put after i parts
abbrev pub left_listed : {X : Type 0} → ℕ → (X → Part) → List X → Part
left_listed zero part xs q = listed part xs q
left_listed (suc i) part xs q = more_listed part xs q

pub record ListedSoFar {X : Type 0} (a b : List ℕ) (part : X → Part) (i : ℕ) (xs : List X) : Type 0 where
  pub is : (q : List Chunk) → b ++ text (left_listed i part (drop i xs) q) ≡ a ++ text (listed part xs q)

pub none_listed : {X : Type 0} (a : List ℕ) (part : X → Part) (xs : List X) → ListedSoFar a a part 0 xs
none_listed a part xs = record { is = λ q. refl }

left_next : {X : Type 0} (i : ℕ) (part : X → Part) (x : X) (rest : List X) (q : List Chunk)
    → left_listed i part (x ∷ rest) q ≡ comma_before i (part x (more_listed part rest q))
left_next zero part x rest q = refl
left_next (suc i) part x rest q = refl

left_more : {X : Type 0} (i : ℕ) (part : X → Part) (xs : List X) (q : List Chunk) → left_listed (i + 1) part xs q ≡ more_listed part xs q
left_more i part xs q = rw add-one refl

pub next_listed : {X : Type 0} {a b c e : List ℕ} (part : X → Part) (xs : List X) (x d : X) (i : ℕ) → i < length xs
    → x ≡ get_or xs i d → ListedSoFar a b part i xs
    → Puts b c (comma_before i) → Puts c e (part x) → ListedSoFar a e part (i + 1) xs
next_listed {b} {e} part xs x d i h g so p1 p2 = record {
  is = λ q.
      let rest = drop (i + 1) xs in
      let front : drop i xs ≡ x ∷ rest = drop_more xs i d h ∙ ap (λ y. y ∷ drop (i + 1) xs) (sym g) in
      ap (λ l. e ++ text l) (left_more i part rest q)
      ∙ (puts_then p1 p2).is (more_listed part rest q)
      ∙ ap (λ l. b ++ text l) (sym (left_next i part x rest q))
      ∙ ap (λ l. b ++ text (left_listed i part l q)) (sym front)
      ∙ so.is q;
}

left_none : {X : Type 0} (i : ℕ) (part : X → Part) (q : List Chunk) → left_listed i part [] q ≡ q
left_none zero part q = refl
left_none (suc i) part q = refl

pub all_listed : {X : Type 0} {a b : List ℕ} (part : X → Part) (xs : List X) (i : ℕ) → length xs ≤ i → ListedSoFar a b part i xs → Puts a b (listed part xs)
all_listed {b} part xs i h so =
    record { is = λ q. ap (λ l. b ++ text l) (sym (left_none i part q)) ∙ ap (λ l. b ++ text (left_listed i part l q)) (sym (drop_all i xs h)) ∙ so.is q }

-- declarations
pub record DeclaredSoFar (a b : List ℕ) (o : Order) (k : ℕ) (ds : List Declaration) : Type 0 where
  pub is : (q : List Chunk) → b ++ text (declarations_part o (drop k ds) q) ≡ a ++ text (declarations_part o ds q)

pub none_declared : (a : List ℕ) (o : Order) (ds : List Declaration) → DeclaredSoFar a a o 0 ds
none_declared a o ds = record { is = λ q. refl }

pub next_declared : {a b c : List ℕ} (o : Order) (ds : List Declaration) (d : Declaration) (k : ℕ) → k < length ds
    → d ≡ get_or ds k d → DeclaredSoFar a b o k ds
    → Puts b c (declaration_part o d) → DeclaredSoFar a c o (k + 1) ds
next_declared {b} {c} o ds d k h g so p = record {
  is = λ q.
      let rest = drop (k + 1) ds in
      let front : drop k ds ≡ d ∷ rest = drop_more ds k d h ∙ ap (λ y. y ∷ drop (k + 1) ds) (sym g) in
      p.is (declarations_part o rest q) ∙ ap (λ l. b ++ text (declarations_part o l q)) (sym front) ∙ so.is q;
}

pub all_declared : {a b : List ℕ} (o : Order) (ds : List Declaration) (k : ℕ) → length ds ≤ k → DeclaredSoFar a b o k ds → Puts a b (declarations_part o ds)
all_declared {b} o ds k h so = record { is = λ q. ap (λ l. b ++ text (declarations_part o l q)) (sym (drop_all k ds h)) ∙ so.is q }

pub puts_order : {a z : List ℕ} (o : Order) (ps : List (Label × Label)) → 0 < length ps
    → Puts a z (λ q. a_key OrderKey (a_space (listed (pair_part o) ps (end_line q)))) → Puts a z (order_part o ps)
puts_order o [] h p = absurd (omega (arith, h))
puts_order o (x ∷ ps) h p = p

pub puts_no_order : (a : List ℕ) (o : Order) (ps : List (Label × Label)) → length ps ≡ 0 → Puts a a (order_part o ps)
puts_no_order a o [] h = puts_none a
puts_no_order a o (x ∷ ps) h = absurd (omega (arith, h))
