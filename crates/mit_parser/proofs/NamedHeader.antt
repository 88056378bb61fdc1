-- The finder of the first fault finds none in a header and in declarations exactly where their names are right.
use Rattle.std.proofs.Common.{◌≡◌, ◌≤◌, ◌<◌, ◌+◌, refl, ap, ◌∙◌, sym, subst, ℕ, zero, suc, ℤ, List, [], ◌∷◌, ◌++◌, append_assoc, append-nil, get_or}
use Rattle.std.proofs.Common.{Bool, true, false, true≢false, Option, Some, None, cond, ◌==◌, ◌||◌, arith}
use Rattle.std.specs.Prelude.{is_some, ltb}
use Rattle.std.proofs.lemmas.Bool.{eqb-false}
use Rattle.std.proofs.lemmas.List.{map-append}
use Rattle.std.proofs.lemmas.List.Quantifiers.{all_pairs_push}
use Rattle.std.proofs.lemmas.Option.{none-some}
use Rattle.text_base.specs.declared.pos.Pos.{Pos}
use Rattle.label_lattice.specs.Order.{AllDiffer}
use Rattle.mit_syntax.specs.Declarations.{Declaration, declared, length_in, elements_in}
use Rattle.mit_parser.specs.declared.fault.ParseFault.{ParseFault}
use Rattle.mit_parser.specs.declared.fault.ParseFault.TheVariants.{Twice, Size}
use Rattle.mit_parser.specs.Scope.{find_label, kept, label_fault}
use Rattle.mit_parser.specs.Tree.{MoreNames, no_more_names, and_more_names, PairTree, pair_of, MorePairs, no_more_pairs, and_pair, Ordering, no_ordering}
use Rattle.mit_parser.specs.Tree.{ordering_of, Header, no_header, header_of, no_label, label_of, Shape, scalar_of, array_of, declaration_of, Declarations}
use Rattle.mit_parser.specs.Tree.{no_declarations, and_declaration}
use Rattle.mit_parser.specs.Faults.{Labelled, labelled, add_label, add_labels, header_labels, ordering_numbers, as_labels, header_pairs, note_pair}
use Rattle.mit_parser.specs.Faults.{note_more_pairs, note_ordering, header_fault, size_number, is_bad_size, length_fault, written_label_fault, twice_fault}
use Rattle.mit_parser.specs.Faults.{declaration_fault, decl_of, shape_label, shape_length, written_length, declaring, added, declare_all}
use Rattle.mit_parser.specs.Named.{more_labels, label_names, label_pairs, declarations_in, declared_names, PairNamed, PairsNamed, OrderingNamed, HeaderNamed}
use Rattle.mit_parser.specs.Named.{ShapeNamed, ShapesNamed}
use Rattle.mit_parser.proofs.Known.{kept_split}
use Rattle.mit_parser.proofs.Noted.{keep_declared}
use Rattle.mit_parser.proofs.Tabled.{elements_push, few_after}
use Rattle.mit_parser.proofs.Lookup.{found_none, apart_from, apart_before, absent, apart_declared}
use Rattle.mit_parser.proofs.NamedUses.{label_named, label_calm}

-- ---- labels

record Named (m : MoreNames) (done : List (List ℕ)) (u : Option ParseFault) : Type 0 where
  pub before : u ≡ None
  pub differ : AllDiffer (done ++ more_labels m)

one_named : (p : _) (w : List ℕ) (q : _) (m : MoreNames) (done : List (List ℕ)) (u : Option ParseFault) → AllDiffer done
    → ((more : List (List ℕ)) (v : Option ParseFault) → AllDiffer more → (add_labels m (labelled more v)).fault ≡ None → Named m more v)
    → (add_labels m (add_label w q (labelled done u))).fault ≡ None → (b : Bool) → is_some (find_label done w) ≡ b → Named (and_more_names p w q m) done u
one_named p w q m done u d rest e true h =
    let step : add_label w q (labelled done u) ≡ labelled done (kept u (Some (Twice q))) =
    ap (λ b. cond {A = Labelled} b (labelled done (kept u (Some (Twice q)))) (labelled (done ++ w ∷ []) u)) h in
    let i = rest done (kept u (Some (Twice q))) d (ap (λ s. (add_labels m s).fault) (sym step) ∙ e) in
    absurd (none-some (Twice q) (sym (kept_split u (Some (Twice q)) i.before).1))
one_named p w q m done u d rest e false h =
    let step : add_label w q (labelled done u) ≡ labelled (done ++ w ∷ []) u =
    ap (λ b. cond {A = Labelled} b (labelled done (kept u (Some (Twice q)))) (labelled (done ++ w ∷ []) u)) h in
    let more : AllDiffer (done ++ w ∷ []) = all_pairs_push (λ a b. a ≡ b → ⊥) done w d (λ k x l. apart_from done w h k x l) in
    let i = rest (done ++ w ∷ []) u more (ap (λ s. (add_labels m s).fault) (sym step) ∙ e) in
    record { before = i.before; differ = subst AllDiffer (append_assoc done (w ∷ []) (more_labels m)) i.differ }

labels_named : (m : MoreNames) (done : List (List ℕ)) (u : Option ParseFault) → AllDiffer done → (add_labels m (labelled done u)).fault ≡ None → Named m done u
labels_named no_more_names done u d e = record { before = e; differ = subst AllDiffer (sym (append-nil done)) d }
labels_named (and_more_names p w q m) done u d e = one_named p w q m done u d (labels_named m) e (is_some (find_label done w)) refl

labels_calm : (m : MoreNames) (done : List (List ℕ)) → AllDiffer (done ++ more_labels m)
    → add_labels m (labelled done None) ≡ labelled (done ++ more_labels m) None
labels_calm no_more_names done h = ap (λ z. labelled z None) (sym (append-nil done))
labels_calm (and_more_names p w q m) done h =
    let grouped : (done ++ w ∷ []) ++ more_labels m ≡ done ++ w ∷ more_labels m = append_assoc done (w ∷ []) (more_labels m) in
    let fresh : find_label done w ≡ None = found_none done w (apart_before done (more_labels m) w h) in
    let here : add_label w q (labelled done None) ≡ labelled (done ++ w ∷ []) None =
    ap (λ z. cond {A = Labelled} (is_some z) (labelled done (kept None (Some (Twice q)))) (labelled (done ++ w ∷ []) None)) fresh in
    ap (add_labels m) here ∙ labels_calm m (done ++ w ∷ []) (subst AllDiffer (sym grouped) h) ∙ ap (λ z. labelled z None) grouped

one_differs : (w : List ℕ) → AllDiffer (w ∷ [])
one_differs w i j d l k = absurd (omega (arith, l, k))

two_differ : AllDiffer ((76 ∷ []) ∷ (72 ∷ []) ∷ [])
two_differ = all_pairs_push (λ a b. a ≡ b → ⊥) ((76 ∷ []) ∷ []) (72 ∷ []) (one_differs (76 ∷ [])) other
  where
    other : (k : ℕ) (d : List ℕ) → k < 1 → get_or ((76 ∷ []) ∷ []) k d ≡ 72 ∷ [] → ⊥
    other zero d l e = true≢false (ap (λ (w : List ℕ). get_or w 0 0 == 76) e)
    other (suc k) d l e = absurd (omega (arith, l))

-- ---- the order

module _ (labels : List (List ℕ)) where
  pair_named : (x : PairTree) (u : Option ParseFault) → note_pair labels x u ≡ None → (u ≡ None) × PairNamed labels x
  pair_named (pair_of a p q b r) u e =
      let k = kept_split (kept u (label_fault labels a p)) (label_fault labels b r) e in
      let j = kept_split u (label_fault labels a p) k.0 in
      (j.0, (label_named labels a p j.1, label_named labels b r k.1))

  pairs_named : (m : MorePairs) (u : Option ParseFault) → note_more_pairs labels m u ≡ None → (u ≡ None) × PairsNamed labels m
  pairs_named no_more_pairs u e = (e, tt)
  pairs_named (and_pair p x m) u e =
      let y = pairs_named m (note_pair labels x u) e in
      let z = pair_named x u y.0 in
      (z.0, (z.1, y.1))

  ordering_named : (o : Ordering) (u : Option ParseFault) → note_ordering labels o u ≡ None → (u ≡ None) × OrderingNamed labels o
  ordering_named no_ordering u e = (e, tt)
  ordering_named (ordering_of p x m q) u e =
      let y = pairs_named m (note_pair labels x u) e in
      let z = pair_named x u y.0 in
      (z.0, (z.1, y.1))

  pair_calm : (x : PairTree) → PairNamed labels x → note_pair labels x None ≡ None
  pair_calm (pair_of a p q b r) h = ap (λ z. kept z (label_fault labels b r)) (label_calm labels a p h.0) ∙ label_calm labels b r h.1

  pairs_calm : (m : MorePairs) → PairsNamed labels m → note_more_pairs labels m None ≡ None
  pairs_calm no_more_pairs h = refl
  pairs_calm (and_pair p x m) h = ap (note_more_pairs labels m) (pair_calm x h.0) ∙ pairs_calm m h.1

  ordering_calm : (o : Ordering) → OrderingNamed labels o → note_ordering labels o None ≡ None
  ordering_calm no_ordering h = refl
  ordering_calm (ordering_of p x m q) h = ap (note_more_pairs labels m) (pair_calm x h.0) ∙ pairs_calm m h.1

-- ---- the header

-- labels of which no two are the same are those that the finder keeps
pub labels_are : (h : Header) → AllDiffer (label_names h) → header_labels h ≡ labelled (label_names h) None
labels_are no_header d = refl
labels_are (header_of p w q m u o) d = labels_calm m (w ∷ []) d

pub pairs_are : (h : Header) → AllDiffer (label_names h) → header_pairs h ≡ label_pairs h
pairs_are no_header d = refl
pairs_are (header_of p w q m u o) d = ap (λ (l : Labelled). as_labels (ordering_numbers l.names o)) (labels_calm m (w ∷ []) d)

pub header_named : (h : Header) → header_fault h ≡ None → AllDiffer (label_names h) × HeaderNamed h
header_named no_header e = (two_differ, tt)
header_named (header_of p w q m u o) e =
    let s : Labelled = add_labels m (labelled (w ∷ []) None) in
    let y = ordering_named s.names o s.fault e in
    let d : AllDiffer (w ∷ more_labels m) = (labels_named m (w ∷ []) None (one_differs w) y.0).differ in
    (d, subst (λ (l : Labelled). OrderingNamed l.names o) (labels_calm m (w ∷ []) d) y.1)

pub header_calm : (h : Header) → AllDiffer (label_names h) → HeaderNamed h → header_fault h ≡ None
header_calm no_header d h = refl
header_calm (header_of p w q m u o) d h = ap (λ (l : Labelled). note_ordering l.names o l.fault) (labels_calm m (w ∷ []) d)
    ∙ ordering_calm (w ∷ more_labels m) o h

-- ---- the declarations

size_good : (k e : ℕ) → 0 < k → e + k ≤ 2048 → ((k == 0) || ltb 2048 (e + k)) ≡ false
size_good k e h f = grind arith

not_zero : (ds : List Declaration) (n : ℤ) (p : Pos) → length_fault ds (Some (n, p)) ≡ None → 0 < size_number n
not_zero ds n p e = by (is_bad_size n (elements_in ds)) refl
  where
    first : (a b : Bool) → (a || b) ≡ false → a ≡ false
    first true b q = cc
    first false b q = refl

    by : (b : Bool) → is_bad_size n (elements_in ds) ≡ b → 0 < size_number n
    by true q = let z = sym (ap (λ b. cond b (Some (Size p)) None) q) ∙ e in cc
    by false q =
        let z = eqb-false (size_number n) 0 (first (size_number n == 0) (ltb 2048 (elements_in ds + size_number n)) q) in
        omega (arith, z)

not_declared : (ds : List Declaration) (w : List ℕ) (p : Pos) → twice_fault ds w p ≡ None → is_some (declared ds w) ≡ false
not_declared ds w p e = by (is_some (declared ds w)) refl
  where
    by : (b : Bool) → is_some (declared ds w) ≡ b → is_some (declared ds w) ≡ false
    by true q = let z = sym (ap (λ b. cond b (Some (Twice p)) None) q) ∙ e in cc
    by false q = q

names_push : (ds : List Declaration) (d : Declaration) → declared_names (ds ++ d ∷ []) ≡ declared_names ds ++ d.0 ∷ []
names_push ds d = map-append (λ (x : Declaration). x.0) ds (d ∷ [])

module _ (labels : List (List ℕ)) where
  shape_named : (ds : List Declaration) (z : Shape) → length_fault ds (shape_length z) ≡ None
      → written_label_fault labels (shape_label z) ≡ None → ShapeNamed labels z
  shape_named ds (scalar_of no_label) e f = tt
  shape_named ds (scalar_of (label_of p w q)) e f = label_named labels w q f
  shape_named ds (array_of p n q u v w x) e f = (not_zero ds n q e, label_named labels w x f)

  length_calm : (ds : List Declaration) (z : Shape) → ShapeNamed labels z → elements_in ds + length_in (written_length (shape_length z)) ≤ 2048
      → length_fault ds (shape_length z) ≡ None
  length_calm ds (scalar_of no_label) h f = refl
  length_calm ds (scalar_of (label_of p w q)) h f = refl
  length_calm ds (array_of p n q u v w x) h f = ap (λ b. cond b (Some (Size q)) None) (size_good (size_number n) (elements_in ds) h.0 f)

  shape_calm : (z : Shape) → ShapeNamed labels z → written_label_fault labels (shape_label z) ≡ None
  shape_calm (scalar_of no_label) h = refl
  shape_calm (scalar_of (label_of p w q)) h = label_calm labels w q h
  shape_calm (array_of p n q u v w x) h = label_calm labels w x h.1

  -- nothing came before, and these can be declared behind others
  pub record AreDeclared (t : Declarations) (done : List Declaration) (u : Option ParseFault) : Type 0 where
    pub before : u ≡ None
    pub shapes : ShapesNamed labels t
    pub once : AllDiffer (declared_names (done ++ declarations_in labels t))
    pub few : elements_in (done ++ declarations_in labels t) ≤ 2048

  one_declared : (p : Pos) (w : List ℕ) (q : Pos) (z : Shape) (v : Pos) (m : Declarations) (done : List Declaration) (u : Option ParseFault)
      → AllDiffer (declared_names done) → elements_in done ≤ 2048
      → ((more : List Declaration) (f : Option ParseFault) → AllDiffer (declared_names more) → elements_in more ≤ 2048
      → (declare_all labels m (declaring more f)).fault ≡ None → AreDeclared m more f)
      → (f : Option ParseFault) → kept u (declaration_fault labels done w q (shape_label z) (shape_length z)) ≡ f
      → (declare_all labels m (added done (w, decl_of labels (shape_label z) (shape_length z)) f)).fault ≡ None
      → AreDeclared (and_declaration (declaration_of p w q z v) m) done u
  one_declared p w q z v m done u d l rest (Some f) h e = absurd (none-some f (sym e ∙ ap (λ s. s.fault) (keep_declared labels m done f)))
  one_declared p w q z v m done u d l rest None h e =
      let x : Declaration = (w, decl_of labels (shape_label z) (shape_length z)) in
      let k = kept_split u (declaration_fault labels done w q (shape_label z) (shape_length z)) h in
      let a = kept_split (twice_fault done w q) (kept (length_fault done (shape_length z)) (written_label_fault labels (shape_label z))) k.1 in
      let b = kept_split (length_fault done (shape_length z)) (written_label_fault labels (shape_label z)) a.1 in
      let fresh = apart_declared done w (not_declared done w q a.0) in
      let differ : AllDiffer (declared_names (done ++ x ∷ [])) =
      subst AllDiffer (sym (names_push done x)) (all_pairs_push (λ a b. a ≡ b → ⊥) (declared_names done) w d (λ k y l. fresh k y l)) in
      let few : elements_in (done ++ x ∷ []) ≤ 2048 = subst (λ n. n ≤ 2048) (sym (elements_push done x)) (few_after done (shape_length z) l b.0) in
      let i = rest (done ++ x ∷ []) None differ few e in
      let grouped : (done ++ x ∷ []) ++ declarations_in labels m ≡ done ++ x ∷ declarations_in labels m =
      append_assoc done (x ∷ []) (declarations_in labels m) in
      record {
        before = k.0;
        shapes = (shape_named done z b.0 b.1, i.shapes);
        once = subst (λ (l : List Declaration). AllDiffer (declared_names l)) grouped i.once;
        few = subst (λ (l : List Declaration). elements_in l ≤ 2048) grouped i.few;
      }

  pub are_declared : (t : Declarations) (done : List Declaration) (u : Option ParseFault) → AllDiffer (declared_names done) → elements_in done ≤ 2048
      → (declare_all labels t (declaring done u)).fault ≡ None → AreDeclared t done u
  are_declared no_declarations done u d l e =
      record {
        before = e;
        shapes = tt;
        once = subst (λ (l : List Declaration). AllDiffer (declared_names l)) (sym (append-nil done)) d;
        few = subst (λ (l : List Declaration). elements_in l ≤ 2048) (sym (append-nil done)) l;
      }
  are_declared (and_declaration (declaration_of p w q z v) m) done u d l e =
      one_declared p w q z v m done u d l (are_declared m) (kept u (declaration_fault labels done w q (shape_label z) (shape_length z))) refl e

  none_kept : (x y z : Option ParseFault) → x ≡ None → y ≡ None → z ≡ None → kept x (kept y z) ≡ None
  none_kept x y z e f g = cc

  -- declarations that are right are those that the finder keeps
  pub declared_are : (t : Declarations) (done : List Declaration) → ShapesNamed labels t → AllDiffer (declared_names (done ++ declarations_in labels t))
      → elements_in done + elements_in (declarations_in labels t) ≤ 2048
      → declare_all labels t (declaring done None) ≡ declaring (done ++ declarations_in labels t) None
  declared_are no_declarations done s d l = ap (λ z. declaring z None) (sym (append-nil done))
  declared_are (and_declaration (declaration_of p w q z v) m) done s d l =
      let x : Declaration = (w, decl_of labels (shape_label z) (shape_length z)) in
      let rest : List Declaration = declarations_in labels m in
      let grouped : (done ++ x ∷ []) ++ rest ≡ done ++ x ∷ rest = append_assoc done (x ∷ []) rest in
      let parts : declared_names (done ++ x ∷ rest) ≡ declared_names done ++ w ∷ declared_names rest = map-append (λ (y : Declaration). y.0) done (x ∷ rest) in
      let fresh : declared done w ≡ None = absent done w (apart_before (declared_names done) (declared_names rest) w (subst AllDiffer parts d)) in
      let twice : twice_fault done w q ≡ None = ap (λ y. cond (is_some y) (Some (Twice q)) None) fresh in
      let size : length_fault done (shape_length z) ≡ None = length_calm done z s.0 (omega (arith, l)) in
      let here : added done x (kept None (declaration_fault labels done w q (shape_label z) (shape_length z))) ≡ declaring (done ++ x ∷ []) None =
      ap (added done x) (none_kept (twice_fault done w q) (length_fault done (shape_length z)) (written_label_fault labels (shape_label z))
      twice size (shape_calm z s.0)) in
      let push = elements_push done x in
      ap (declare_all labels m) here
      ∙ declared_are m (done ++ x ∷ []) s.1 (subst (λ (y : List Declaration). AllDiffer (declared_names y)) (sym grouped) d) (omega (arith, l, push))
      ∙ ap (λ y. declaring y None) grouped
