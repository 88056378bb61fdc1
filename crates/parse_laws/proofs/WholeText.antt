-- The canonical text of a program reads back as the program.
use Rattle.std.proofs.Common.{◌≡◌, ◌≤◌, ◌<◌, refl, sym, ap, ◌∙◌, subst, ℕ, suc, List, [], ◌∷◌, length, Option, Some, None, arith}
use Rattle.std.specs.Prelude.{All, ◌↔◌, cond}
use Rattle.std.proofs.lemmas.Bool.{le-ltb}
use Rattle.label_lattice.specs.declared.label.Label.{Label}
use Rattle.label_lattice.specs.Names.{IsName}
use Rattle.label_lattice.specs.Lattice.{Flows, IsLattice}
use Rattle.label_lattice.specs.Order.{Order, IsOrder, lattice_of, name_of}
use Rattle.label_lattice.specs.Chains.{Chain, IsSound, IsBuilt}
use Rattle.label_lattice.proofs.Orders.{order_is, join_below}
use Rattle.mit_syntax.specs.Chunks.{Chunk, line}
use Rattle.mit_syntax.specs.Declarations.{Declaration, cell_at, find_scalar, find_array, length_in, elements_in}
use Rattle.mit_syntax.specs.Program.{Syntax, plan_of}
use Rattle.mit_syntax.specs.Layout.{declarations_part, commands_part, program_chunks, canonical}
use Rattle.mit_syntax.specs.Valid.{IsBelow, IsShaped, IsScalar, IsDeclaredArray, IsValid}
use Rattle.mit_syntax.proofs.Facts.{declared_has, scalar_at, array_at, scalar_name, array_name}
use Rattle.mit_parser.specs.declared.fault.ParseFault.TheVariants.{TooMany}
use Rattle.mit_parser.specs.Words.{told}
use Rattle.mit_parser.specs.Tree.{ProgramTree, commands_of, front_header, front_declarations}
use Rattle.mit_parser.specs.Scope.{find_label, scope, kept}
use Rattle.mit_parser.specs.Meaning.{plan_commands}
use Rattle.mit_parser.specs.Faults.{Labelled, header_pairs, Declared, declared_by, many_fault, note_commands}
use Rattle.parse_laws.specs.ReadBack.{ReadsBack}
use Rattle.mit_parser.proofs.Lookup.{found_at}
use Rattle.mit_parser.proofs.NamedWhole.{resolves_of}
use Rattle.parse_laws.proofs.Apart.{Apart}
use Rattle.parse_laws.proofs.Parted.{Every, IsLengthSmall, IsWritable, chunks_apart}
use Rattle.parse_laws.proofs.Saying.{are_said}
use Rattle.parse_laws.proofs.ReadHeader.{are_new, header_reader, declarations_reader}
use Rattle.parse_laws.proofs.ReadCommands.{plan_reads, front_list}

-- a lattice has no fault
module _ (o : Order) (ps : List (Label × Label)) (h : IsOrder o) (f : (a b : ℕ) → a < o.size → b < o.size → Flows (lattice_of o) a b ↔ Chain ps a b) where
  law : IsLattice (lattice_of o)
  law = order_is o h

  sound : IsSound o.size (Chain ps)
  sound = record {
    few = h.within;
    no_cycle = λ a b l k c.
        let i : a < o.size = omega (arith, l, k) in
        let e = law.anti a b ((f a b i k).1 c.0) ((f b a k i).1 c.1) in
        absurd (omega (arith, l, e));
    one_lowest = λ a b l k c.
        let i : a < o.size = omega (arith, l, k) in
        let x = c.0 o.bottom h.table.some ((f o.bottom a h.table.some i).0 (law.lowest a)) in
        let y = c.1 o.bottom h.table.some ((f o.bottom b h.table.some k).0 (law.lowest b)) in
        absurd (omega (arith, l, x, y));
    joined = λ a b l k c.
        let i : a < o.size = omega (arith, l, k) in
        let j : ℕ = (lattice_of o).join a b in
        let n : j < o.size = join_below o h a b i k in
        c j n (record {
          left = (f a j i n).0 (law.left a b);
          right = (f b j k n).0 (law.right a b);
          least = λ d m p q. (f j d n m).0 (law.least a b d ((f a d i m).1 p) ((f b d k m).1 q));
        });
  }

  built : IsBuilt o.names ps o
  built = record {
    sound = subst (λ n. IsSound n (Chain ps)) (sym h.named) sound;
    order = h;
    size = sym h.named;
    named = refl;
    flows = λ a b i j. f a b (subst (λ n. a < n) h.named i) (subst (λ n. b < n) h.named j);
  }

every : {X : Type 0} (P : X → Type 0) (xs : List X) → All P xs → Every P xs
every P [] h = tt
every P (x ∷ xs) h = (h 0 x (omega arith), every P xs (λ k d l. h (suc k) d (omega (arith, l))))

both : {X : Type 0} (P Q : X → Type 0) (xs : List X) → Every P xs → Every Q xs → Every (λ x. P x × Q x) xs
both P Q [] h k = tt
both P Q (x ∷ xs) h k = ((h.0, k.0), both P Q xs h.1 k.1)

small : (n : Option ℕ) → length_in n ≤ 2048 → IsLengthSmall n
small None h = tt
small (Some n) h = omega (arith, h)

writable : (n : ℕ) (ds : List Declaration) → Every (λ (d : Declaration). IsName d.0 × IsBelow n d.1.label) ds → elements_in ds ≤ 2048 → Every (IsWritable n) ds
writable n [] h k = tt
writable n (d ∷ ds) h k = (record { name = h.0.0; label = h.0.1; length = small d.1.length (omega (arith, k)) }, writable n ds h.1 (omega (arith, k)))

not_many : (ds : List Declaration) → length ds ≤ 1024 → many_fault ds ≡ None
not_many ds h = ap (λ b. cond b (Some (TooMany (length ds))) None) (le-ltb 1024 (length ds) h)

module _ (s : Syntax) (v : IsValid s) where
  abbrev o : Order
  o = s.order

  abbrev ds : List Declaration
  ds = s.declarations

  abbrev ps : List (Label × Label)
  ps = s.pairs

  named : (n : ℕ) → n < o.size → n < length o.names
  named n h = subst (λ k. n < k) (sym v.order.named) h

  label_name : (n : ℕ) → n < o.size → IsName (name_of o n)
  label_name n h = v.order.names n [] (named n h)

  label_found : (n : ℕ) → n < o.size → find_label o.names (name_of o n) ≡ Some n
  label_found n h = found_at o.names (name_of o n) n (named n h) refl (λ k l e. v.order.differ k n [] l (named n h) e)

  scalar_found : (x : ℕ) → IsScalar ds x → find_scalar ds (cell_at ds x).name ≡ Some x
  scalar_found x h = ap (find_scalar ds) (scalar_name ds h.0 x h.1) ∙ h.1

  array_found : (f n : ℕ) → IsDeclaredArray ds f n → find_array ds (cell_at ds f).name ≡ Some (f, n)
  array_found f n h = ap (find_array ds) (array_name ds h.0 f n h.1 v.arrays) ∙ h.1

  scalar_is_name : (x : ℕ) → IsScalar ds x → IsName (cell_at ds x).name
  scalar_is_name x h =
      let a = scalar_at ds h.0 x h.1 in
      subst IsName (sym (scalar_name ds h.0 x h.1)) (declared_has ds h.0 x a.decl a.at (λ d. IsName d.0) v.names)

  array_is_name : (f n : ℕ) → IsDeclaredArray ds f n → IsName (cell_at ds f).name
  array_is_name f n h =
      let a = array_at ds h.0 f n h.1 in
      subst IsName (sym (array_name ds h.0 f n h.1 v.arrays)) (declared_has ds h.0 f a.decl a.at (λ d. IsName d.0) v.names)

  abbrev Below : Label × Label → Type 0
  Below p = (p.0.number < o.size) × (p.1.number < o.size)

  pairs_below : Every Below ps
  pairs_below = every Below ps v.pairs

  declared_names : Every (λ (d : Declaration). IsName d.0) ds
  declared_names = every (λ (d : Declaration). IsName d.0) ds v.names

  labels_below : Every (λ (d : Declaration). IsBelow o.size d.1.label) ds
  labels_below = every (λ (d : Declaration). IsBelow o.size d.1.label) ds v.labels

  shapes : Every (λ (d : Declaration). IsShaped d.1.label d.1.length) ds
  shapes = every (λ (d : Declaration). IsShaped d.1.label d.1.length) ds v.arrays

  apart : Apart (program_chunks s)
  apart =
      chunks_apart o label_name ds scalar_is_name array_is_name (every IsName o.names v.order.names) ps pairs_below
      (writable o.size ds (both (λ (d : Declaration). IsName d.0) (λ (d : Declaration). IsBelow o.size d.1.label) ds declared_names labels_below)
      v.few.elements) (plan_of s) v.known v.some

  pub reads_back : ReadsBack (canonical s) s
  reads_back =
      let t = are_said (program_chunks s) apart in
      let some_name : 0 < length o.names = subst (λ n. 0 < n) (sym v.order.named) v.order.some in
      let q1 : List Chunk = commands_part o ds 0 (plan_of s) (line ∷ []) in
      let H = header_reader o label_found some_name v.order.differ ps pairs_below (told (canonical s) t.tokens) (declarations_part o ds q1) t.says in
      let fresh = are_new o.size [] ds v.differ (both (λ (d : Declaration). IsBelow o.size d.1.label) (λ (d : Declaration). IsShaped d.1.label d.1.length) ds
      labels_below shapes) (omega (arith, v.few.elements)) in
      let D = declarations_reader o label_found [] ds fresh H.rest q1 H.says in
      let C = (plan_reads o ds label_found scalar_found array_found (plan_of s) 0 0 v.known v.numbered v.small).first v.some D.rest (line ∷ []) D.says in
      let e = C.says in
      let cs = commands_of C.tree.0 C.tree.1 in
      let tree : ProgramTree = record { header = H.tree; declarations = D.tree; commands = cs } in
      record {
        tokens = t.tokens;
        are = t.are;
        program = record { order = o; pairs = ps; declarations = ds; plan = C.is.read };
        is = record {
          tree = tree;
          spells = (e.0, H.are ∙ ap (front_header H.tree) (D.are ∙ ap (front_declarations D.tree) (C.are ∙ ap (front_list C.tree) e.1)));
          within = C.is.within;
          resolves = resolves_of tree (record { order = o; pairs = ps; declarations = ds; plan = C.is.read }) (record {
            header = H.is.calm;
            order = subst (λ (n : List (List ℕ)). IsBuilt n (header_pairs H.tree) o) (ap (λ (l : Labelled). l.names) (sym H.is.labels))
                (subst (λ (p : List (Label × Label)). IsBuilt o.names p o) (sym H.is.pairs) (built o ps v.order v.flows));
            pairs = sym H.is.pairs;
            declarations = sym (ap (λ (l : Labelled). (declared_by l.names D.tree).list) H.is.labels ∙ ap (λ (x : Declared). x.list) D.is);
            body =
                ap (λ (l : Labelled). note_commands (scope l.names (declared_by l.names D.tree).list) cs
                (kept (declared_by l.names D.tree).fault (many_fault (declared_by l.names D.tree).list))) H.is.labels
                ∙ ap (λ (x : Declared). note_commands (scope o.names x.list) cs (kept x.fault (many_fault x.list))) D.is
                ∙ ap (note_commands (scope o.names ds) cs) (not_many ds v.few.count)
                ∙ C.is.calm None;
            plan = sym (ap (λ (l : Labelled). plan_commands (scope l.names ds) 0 cs) H.is.labels ∙ C.is.plan);
          });
        };
        same = record { order = refl; pairs = refl; declarations = refl; commands = C.is.same };
      }
