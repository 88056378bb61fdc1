-- Declarations in which nothing is wrong.
use Rattle.std.proofs.Common.{◌≡◌, ◌<◌, ◌+◌, refl, ap, ◌∙◌, sym, ℕ, ℤ, List, [], ◌∷◌, ◌++◌, length, Bool, true, false, cond, Option, Some, None, arith}
use Rattle.std.specs.Prelude.{All, ltb, ◌||◌, ◌==◌}
use Rattle.std.proofs.lemmas.List.Elements.{All-cons}
use Rattle.std.proofs.lemmas.Bool.{eqb-false}
use Rattle.text_base.specs.declared.pos.Pos.{Pos}
use Rattle.label_lattice.specs.Names.{IsName}
use Rattle.mit_syntax.specs.Declarations.{Declaration, elements_in}
use Rattle.mit_syntax.specs.Valid.{IsBelow, IsShaped, AreShaped}
use Rattle.mit_parser.specs.declared.fault.ParseFault.{ParseFault}
use Rattle.mit_parser.specs.declared.fault.ParseFault.TheVariants.{Size}
use Rattle.mit_parser.specs.Words.{Told, AreProper}
use Rattle.mit_parser.specs.Scope.{kept}
use Rattle.mit_parser.specs.Tree.{no_label, label_of, Shape, scalar_of, array_of, declaration_of, Declarations, no_declarations, and_declaration, front_shape}
use Rattle.mit_parser.specs.Tree.{front_declarations, MoreNames, no_more_names, and_more_names, pair_of, MorePairs, no_more_pairs, and_pair, Ordering}
use Rattle.mit_parser.specs.Tree.{no_ordering, ordering_of, Header, no_header, header_of, front_more_names, front_more_pairs, front_ordering, front_header}
use Rattle.mit_syntax.specs.declared.token.Sign.TheVariants.{Semicolon}
use Rattle.mit_parser.specs.Words.{sign_at}
use Rattle.mit_parser.specs.Faults.{size_number, is_bad_size, length_fault, written_label_fault, twice_fault, declaration_fault, written_label}
use Rattle.mit_parser.specs.Faults.{written_length, decl_of, shape_label, shape_length, Declared, declaring, added, declare_all}
use Rattle.mit_parser.proofs.Numbered.{label_below}
use Rattle.mit_parser.proofs.Known.{kept_split}
use Rattle.mit_parser.proofs.Noted.{keep_declared}

-- a declaration with a name, a known label and a shape
abbrev pub IsGood : ℕ → Declaration → Type 0
IsGood n d = IsName d.0 × IsBelow n d.1.label × IsShaped d.1.label d.1.length

abbrev pub AreGood : ℕ → List Declaration → Type 0
AreGood n [] = Unit {0}
AreGood n (d ∷ ds) = IsGood n d × AreGood n ds

good_push : (n : ℕ) (ds : List Declaration) (d : Declaration) → AreGood n ds → IsGood n d → AreGood n (ds ++ d ∷ [])
good_push n [] d h k = (k, tt)
good_push n (x ∷ ds) d h k = (h.0, good_push n ds d h.1 k)

module _ (labels : List (List ℕ)) (some : 0 < length labels) where
  label_good : (l : Option (List ℕ × Pos)) → IsBelow (length labels) (written_label labels l)
  label_good None = tt
  label_good (Some l) = label_below labels some l.0

  not_zero : (ds : List Declaration) (n : ℤ) (p : Pos) → length_fault ds (Some (n, p)) ≡ None → 0 < size_number n
  not_zero ds n p e = by (is_bad_size n (elements_in ds)) refl
    where
      first : (a b : Bool) → (a || b) ≡ false → a ≡ false
      first true b q = cc
      first false b q = refl

      by : (b : Bool) → is_bad_size n (elements_in ds) ≡ b → 0 < size_number n
      by true q = let z = sym (ap (λ b. cond b (Some (Size p)) None) q) ∙ e in cc
      by false q =
          let z = eqb-false (size_number n) 0 (first (size_number n == 0) (ltb 2048 (elements_in ds + size_number n)) q) in
          omega (arith, z)

  shape_good : (ds : List Declaration) (s : Shape) → length_fault ds (shape_length s) ≡ None
      → IsShaped (written_label labels (shape_label s)) (written_length (shape_length s))
  shape_good ds (scalar_of no_label) e = tt
  shape_good ds (scalar_of (label_of p w q)) e = tt
  shape_good ds (array_of p n q u v w x) e = not_zero ds n q e

  proper_shape : (s : Shape) (q : Pos) (r : List Told) → AreProper (front_shape s (sign_at Semicolon q ∷ r)) → AreProper r
  proper_shape (scalar_of no_label) q r h = h.1
  proper_shape (scalar_of (label_of p w u)) q r h = h.1.1.1
  proper_shape (array_of p n u v w x y) q r h = h.1.1.1.1.1.1

  -- what is kept of all declarations, and of the rest
  pub record GoodAll (s : Declared) (r : List Told) : Type 0 where
    pub good : AreGood (length labels) s.list
    pub proper : AreProper r

  one_good : (w : List ℕ) (z : Shape) → IsName w → (m : Declarations) (ds : List Declaration) (f : Option ParseFault) (r : List Told)
      → AreGood (length labels) ds
      → (f ≡ None → length_fault ds (shape_length z) ≡ None)
      → ((s : Declared) → AreGood (length labels) s.list → (declare_all labels m s).fault ≡ None → GoodAll (declare_all labels m s) r)
      → (declare_all labels m (added ds (w, decl_of labels (shape_label z) (shape_length z)) f)).fault ≡ None
      → GoodAll (declare_all labels m (added ds (w, decl_of labels (shape_label z) (shape_length z)) f)) r
  one_good w z named m ds None r g fine rest e =
      rest (declaring (ds ++ (w, decl_of labels (shape_label z) (shape_length z)) ∷ []) None)
      (good_push (length labels) ds (w, decl_of labels (shape_label z) (shape_length z)) g (named, label_good (shape_label z), shape_good ds z (fine refl))) e
  one_good w z named m ds (Some f) r g fine rest e = let q = sym (ap (λ s. s.fault) (keep_declared labels m ds f)) ∙ e in cc

  pub all_good : (t : Declarations) (s : Declared) (r : List Told) → AreGood (length labels) s.list → (declare_all labels t s).fault ≡ None
      → AreProper (front_declarations t r)
      → GoodAll (declare_all labels t s) r
  all_good no_declarations s r g e h = record { good = g; proper = h }
  all_good (and_declaration (declaration_of p w q z u) m) s r g e h =
      one_good w z h.1.0 m s.list (kept s.fault (declaration_fault labels s.list w q (shape_label z) (shape_length z))) r g
      (λ k. (kept_split (length_fault s.list (shape_length z)) (written_label_fault labels (shape_label z))
      (kept_split (twice_fault s.list w q) (kept (length_fault s.list (shape_length z)) (written_label_fault labels (shape_label z)))
      (kept_split s.fault (declaration_fault labels s.list w q (shape_label z) (shape_length z)) k).1).1).0)
      (λ s2 g2 e2. all_good m s2 r g2 e2 (proper_shape z u (front_declarations m r) h.1.1))
      e

-- each of them, by place
pub names_all : (n : ℕ) (ds : List Declaration) → AreGood n ds → All (λ d. IsName d.0) ds
names_all n [] h = λ k d l. absurd (omega (arith, l))
names_all n (d ∷ ds) h = All-cons (λ (d : Declaration). IsName d.0) d ds h.0.0 (names_all n ds h.1)

pub labels_all : (n : ℕ) (ds : List Declaration) → AreGood n ds → All (λ d. IsBelow n d.1.label) ds
labels_all n [] h = λ k d l. absurd (omega (arith, l))
labels_all n (d ∷ ds) h = All-cons (λ (d : Declaration). IsBelow n d.1.label) d ds h.0.1 (labels_all n ds h.1)

pub arrays_all : (n : ℕ) (ds : List Declaration) → AreGood n ds → AreShaped ds
arrays_all n [] h = λ k d l. absurd (omega (arith, l))
arrays_all n (d ∷ ds) h = All-cons (λ (d : Declaration). IsShaped d.1.label d.1.length) d ds h.0.2 (arrays_all n ds h.1)

-- the words after a header
proper_names : (m : MoreNames) (q : Pos) (r : List Told) → AreProper (front_more_names m (sign_at Semicolon q ∷ r)) → AreProper r
proper_names no_more_names q r h = h.1
proper_names (and_more_names p w u m) q r h = proper_names m q r h.1.1

proper_pairs : (m : MorePairs) (q : Pos) (r : List Told) → AreProper (front_more_pairs m (sign_at Semicolon q ∷ r)) → AreProper r
proper_pairs no_more_pairs q r h = h.1
proper_pairs (and_pair p (pair_of a u v b x) m) q r h = proper_pairs m q r h.1.1.1.1

proper_ordering : (t : Ordering) (r : List Told) → AreProper (front_ordering t r) → AreProper r
proper_ordering no_ordering r h = h
proper_ordering (ordering_of p (pair_of a u v b x) m q) r h = proper_pairs m q r h.1.1.1.1

pub proper_header : (t : Header) (r : List Told) → AreProper (front_header t r) → AreProper r
proper_header no_header r h = h
proper_header (header_of p w q m u o) r h = proper_ordering o r (proper_names m u (front_ordering o r) h.1.1)
