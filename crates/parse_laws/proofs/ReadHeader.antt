-- The words of a printed header and of printed declarations are those of trees that mean them.
use Rattle.std.proofs.Common.{◌≡◌, ◌≤◌, ◌<◌, ◌+◌, refl, sym, ap, ◌∙◌, subst, ℕ, List, [], ◌∷◌, ◌++◌, append_assoc, length, false, ◌==◌, ◌||◌, Option, Some}
use Rattle.std.proofs.Common.{None, arith}
use Rattle.std.specs.Prelude.{is_some, cond, ltb, map, pos}
use Rattle.std.proofs.lemmas.List.{append-nil, map-append}
use Rattle.text_base.specs.declared.pos.Pos.{Pos}
use Rattle.label_lattice.specs.declared.label.Label.{Label}
use Rattle.label_lattice.specs.Order.{Order, name_of, AllDiffer}
use Rattle.mit_syntax.specs.declared.token.Keyword.TheVariants.{Labels, Order as OrderKey, Var}
use Rattle.mit_syntax.specs.declared.token.Sign.TheVariants.{Colon, Semicolon, Comma, Less, LeftSquare, RightSquare}
use Rattle.mit_syntax.specs.Chunks.{Chunk, number}
use Rattle.mit_syntax.specs.Declarations.{Declaration, declared, length_in, elements_in}
use Rattle.mit_syntax.specs.Valid.{IsBelow, IsShaped}
use Rattle.mit_syntax.specs.Layout.{a_name, listed, more_listed, end_line, pair_part, labels_part, order_part, declaration_part, declarations_part}
use Rattle.mit_parser.specs.declared.fault.ParseFault.{ParseFault}
use Rattle.mit_parser.specs.declared.fault.ParseFault.TheVariants.{Unknown, Twice, Size}
use Rattle.mit_parser.specs.Words.{word, sign_at, key_at, name_at}
use Rattle.mit_parser.specs.Tree.{no_more_names, and_more_names, PairTree, pair_of, MorePairs, no_more_pairs, and_pair, Ordering, no_ordering, ordering_of}
use Rattle.mit_parser.specs.Tree.{Header, header_of, no_label, label_of, scalar_of, array_of, DeclarationTree, declaration_of, no_declarations}
use Rattle.mit_parser.specs.Tree.{and_declaration, front_more_names, front_pair, front_more_pairs, front_ordering, front_header, front_declaration}
use Rattle.mit_parser.specs.Tree.{front_declarations}
use Rattle.mit_parser.specs.Scope.{find_label, as_label, or_else, kept, label_fault}
use Rattle.mit_parser.specs.Faults.{Labelled, labelled, add_label, add_labels, header_labels, pair_numbers, more_numbers, ordering_numbers, as_labels}
use Rattle.mit_parser.specs.Faults.{header_pairs, note_pair, note_more_pairs, note_ordering, header_fault, length_fault, twice_fault, decl_of, declaring}
use Rattle.mit_parser.specs.Faults.{added, declare, declare_all}
use Rattle.parse_laws.proofs.Saying.{Says}
use Rattle.parse_laws.proofs.Parted.{Every}
use Rattle.mit_parser.proofs.Lookup.{found_none, apart_before, absent}
use Rattle.parse_laws.proofs.ReadExpression.{Reader, kept_none}

-- names behind others are added to them
names_reader : (done xs : List (List ℕ)) → AllDiffer (done ++ xs)
    → Reader front_more_names (λ t. add_labels t (labelled done None) ≡ labelled (done ++ xs) None) (more_listed a_name xs)
names_reader done [] h ws q s = record { tree = no_more_names; rest = ws; are = refl; says = s; is = ap (λ z. labelled z None) (sym (append-nil done)) }
names_reader done (x ∷ xs) h ws q s =
    let a = s.3 in
    let grouped : (done ++ x ∷ []) ++ xs ≡ done ++ x ∷ xs = append_assoc done (x ∷ []) xs in
    let r = names_reader (done ++ x ∷ []) xs (subst AllDiffer (sym grouped) h) a.1 q a.3 in
    let fresh : find_label done x ≡ None = found_none done x (apart_before done xs x h) in
    let here : add_label x a.0 (labelled done None) ≡ labelled (done ++ x ∷ []) None =
    ap (λ z. cond (is_some z) (labelled done (kept None (Some (Twice a.0)))) (labelled (done ++ x ∷ []) None)) fresh in
    record {
      tree = and_more_names s.0 x a.0 r.tree;
      rest = r.rest;
      are = s.2 ∙ ap (λ l. sign_at Comma s.0 ∷ l) (a.2 ∙ ap (λ l. name_at x a.0 ∷ l) r.are);
      says = r.says;
      is = ap (add_labels r.tree) here ∙ r.is ∙ ap (λ z. labelled z None) grouped;
    }

-- what a program needs of a declaration behind others
pub record IsNew (n : ℕ) (done : List Declaration) (d : Declaration) : Type 0 where
  pub fresh : declared done d.0 ≡ None
  pub label : IsBelow n d.1.label
  pub shape : IsShaped d.1.label d.1.length
  pub few : elements_in done + length_in d.1.length ≤ 2048

abbrev pub AreNew : ℕ → List Declaration → List Declaration → Type 0
AreNew n done [] = Unit {0}
AreNew n done (d ∷ ds) = IsNew n done d × AreNew n (done ++ d ∷ []) ds

elements_more : (done : List Declaration) (d : Declaration) → elements_in (done ++ d ∷ []) ≡ elements_in done + length_in d.1.length
elements_more [] d = omega arith
elements_more (x ∷ done) d = let h = elements_more done d in omega (arith, h)

abbrev names_of : List Declaration → List (List ℕ)
names_of ds = map (λ (d : Declaration). d.0) ds

pub are_new : (n : ℕ) (done ds : List Declaration) → AllDiffer (names_of (done ++ ds))
    → Every (λ (d : Declaration). IsBelow n d.1.label × IsShaped d.1.label d.1.length) ds → elements_in done + elements_in ds ≤ 2048 → AreNew n done ds
are_new n done [] h k f = tt
are_new n done (d ∷ ds) h k f =
    let grouped : (done ++ d ∷ []) ++ ds ≡ done ++ d ∷ ds = append_assoc done (d ∷ []) ds in
    let parts : names_of (done ++ d ∷ ds) ≡ names_of done ++ d.0 ∷ names_of ds = map-append (λ (x : Declaration). x.0) done (d ∷ ds) in
    let m = elements_more done d in (
      record {
        fresh = absent done d.0 (apart_before (names_of done) (names_of ds) d.0 (subst AllDiffer parts h));
        label = k.0.0;
        shape = k.0.1;
        few = omega (arith, f);
      },
      are_new n (done ++ d ∷ []) ds (subst (λ (z : List Declaration). AllDiffer (names_of z)) (sym grouped) h) k.1 (omega (arith, f, m)),
    )

size_good : (k e : ℕ) → 0 < k → e + k ≤ 2048 → ((k == 0) || ltb 2048 (e + k)) ≡ false
size_good k e h f = grind arith

module _ (o : Order) (label_found : (n : ℕ) → n < o.size → find_label o.names (name_of o n) ≡ Some n) where
  -- the label with a label's name is that label, and nothing is wrong with the name
  pub number_is : (l : Label) → l.number < o.size → as_label (or_else 0 (find_label o.names (name_of o l.number))) ≡ l
  number_is l h = ap (λ z. as_label (or_else 0 z)) (label_found l.number h)

  no_label_fault : (l : Label) → l.number < o.size → (p : Pos) → label_fault o.names (name_of o l.number) p ≡ None
  no_label_fault l h p = ap (λ z. cond (is_some z) None (Some (Unknown p))) (label_found l.number h)

  pub label_calm : (l : Label) → l.number < o.size → (p : Pos) (u : Option ParseFault) → kept u (label_fault o.names (name_of o l.number) p) ≡ u
  label_calm l h p u = ap (kept u) (no_label_fault l h p) ∙ kept_none u

  abbrev Below : Label × Label → Type 0
  Below p = (p.0.number < o.size) × (p.1.number < o.size)

  record IsPair (p : Label × Label) (t : PairTree) : Type 0 where
    pub value : (as_label (pair_numbers o.names t).0, as_label (pair_numbers o.names t).1) ≡ p
    pub calm : (u : Option ParseFault) → note_pair o.names t u ≡ u

  pair_reader : (p : Label × Label) → Below p → Reader front_pair (IsPair p) (pair_part o p)
  pair_reader p h ws q s =
      let a = s.3 in
      let b = a.3 in
      record {
        tree = pair_of (name_of o p.0.number) s.0 a.0 (name_of o p.1.number) b.0;
        rest = b.1;
        are = s.2 ∙ ap (λ l. name_at (name_of o p.0.number) s.0 ∷ l) (a.2 ∙ ap (λ l. sign_at Less a.0 ∷ l) b.2);
        says = b.3;
        is = record {
          value = ap (λ (x : Label). (x, as_label (or_else 0 (find_label o.names (name_of o p.1.number))))) (number_is p.0 h.0)
              ∙ ap (λ (x : Label). (p.0, x)) (number_is p.1 h.1);
          calm = λ u. ap (λ z. kept z (label_fault o.names (name_of o p.1.number) b.0)) (label_calm p.0 h.0 s.0 u) ∙ label_calm p.1 h.1 b.0 u;
        };
      }

  record ArePairs (ps : List (Label × Label)) (t : MorePairs) : Type 0 where
    pub value : as_labels (more_numbers o.names t) ≡ ps
    pub calm : (u : Option ParseFault) → note_more_pairs o.names t u ≡ u

  pairs_reader : (ps : List (Label × Label)) → Every Below ps → Reader front_more_pairs (ArePairs ps) (more_listed (pair_part o) ps)
  pairs_reader [] h ws q s = record { tree = no_more_pairs; rest = ws; are = refl; says = s; is = record { value = refl; calm = λ u. refl } }
  pairs_reader (p ∷ ps) h ws q s =
      let a = pair_reader p h.0 s.1 (more_listed (pair_part o) ps q) s.3 in
      let r = pairs_reader ps h.1 a.rest q a.says in
      record {
        tree = and_pair s.0 a.tree r.tree;
        rest = r.rest;
        are = s.2 ∙ ap (λ l. sign_at Comma s.0 ∷ l) (a.are ∙ ap (front_pair a.tree) r.are);
        says = r.says;
        is = record {
          value = ap (λ (x : Label × Label). x ∷ as_labels (more_numbers o.names r.tree)) a.is.value ∙ ap (λ l. p ∷ l) r.is.value;
          calm = λ u. ap (note_more_pairs o.names r.tree) (a.is.calm u) ∙ r.is.calm u;
        };
      }

  record IsOrdering (ps : List (Label × Label)) (t : Ordering) : Type 0 where
    pub value : as_labels (ordering_numbers o.names t) ≡ ps
    pub calm : (u : Option ParseFault) → note_ordering o.names t u ≡ u

  ordering_reader : (ps : List (Label × Label)) → Every Below ps → Reader front_ordering (IsOrdering ps) (order_part o ps)
  ordering_reader [] h ws q s = record { tree = no_ordering; rest = ws; are = refl; says = s; is = record { value = refl; calm = λ u. refl } }
  ordering_reader (p ∷ ps) h ws q s =
      let q1 : List Chunk = end_line q in
      let a = pair_reader p h.0 s.1 (more_listed (pair_part o) ps q1) s.3 in
      let r = pairs_reader ps h.1 a.rest q1 a.says in
      let z = r.says in
      record {
        tree = ordering_of s.0 a.tree r.tree z.0;
        rest = z.1;
        are = s.2 ∙ ap (λ l. key_at OrderKey s.0 ∷ l) (a.are ∙ ap (front_pair a.tree) (r.are ∙ ap (front_more_pairs r.tree) z.2));
        says = z.3;
        is = record {
          value = ap (λ (x : Label × Label). x ∷ as_labels (more_numbers o.names r.tree)) a.is.value ∙ ap (λ l. p ∷ l) r.is.value;
          calm = λ u. ap (note_more_pairs o.names r.tree) (a.is.calm u) ∙ r.is.calm u;
        };
      }

  pub record IsHeader (ps : List (Label × Label)) (t : Header) : Type 0 where
    pub labels : header_labels t ≡ labelled o.names None
    pub pairs : header_pairs t ≡ ps
    pub calm : header_fault t ≡ None

  header_by : (w : List ℕ) (xs : List (List ℕ)) → o.names ≡ w ∷ xs → AllDiffer o.names → (ps : List (Label × Label)) → Every Below ps
      → Reader front_header (IsHeader ps) (λ q. labels_part o (order_part o ps q))
  header_by w xs e h ps k ws q s =
      let q1 : List Chunk = order_part o ps q in
      let t : Says s.1 (listed a_name (w ∷ xs) (end_line q1)) = subst (λ z. Says s.1 (listed a_name z (end_line q1))) e s.3 in
      let a = names_reader (w ∷ []) xs (subst AllDiffer e h) t.1 (end_line q1) t.3 in
      let z = a.says in
      let r = ordering_reader ps k z.1 q z.3 in
      let labels : add_labels a.tree (labelled (w ∷ []) None) ≡ labelled o.names None = a.is ∙ ap (λ l. labelled l None) (sym e) in
      record {
        tree = header_of s.0 w t.0 a.tree z.0 r.tree;
        rest = r.rest;
        are = s.2 ∙ ap (λ l. key_at Labels s.0 ∷ l)
            (t.2 ∙ ap (λ l. name_at w t.0 ∷ l) (a.are ∙ ap (front_more_names a.tree) (z.2 ∙ ap (λ l. sign_at Semicolon z.0 ∷ l) r.are)));
        says = r.says;
        is = record {
          labels = labels;
          pairs = ap (λ (l : Labelled). as_labels (ordering_numbers l.names r.tree)) labels ∙ r.is.value;
          calm = ap (λ (l : Labelled). note_ordering l.names r.tree l.fault) labels ∙ r.is.calm None;
        };
      }

  pub header_reader : 0 < length o.names → AllDiffer o.names → (ps : List (Label × Label)) → Every Below ps
      → Reader front_header (IsHeader ps) (λ q. labels_part o (order_part o ps q))
  header_reader n h ps k = by o.names refl n
    where
      by : (l : List (List ℕ)) → o.names ≡ l → 0 < length l → Reader front_header (IsHeader ps) (λ q. labels_part o (order_part o ps q))
      by [] e n = absurd (omega (arith, n))
      by (w ∷ xs) e n = header_by w xs e h ps k

  -- a declaration behind others is added to them
  abbrev Declares : List Declaration → Declaration → DeclarationTree → Type 0
  Declares done d t = declare o.names t (declaring done None) ≡ declaring (done ++ d ∷ []) None

  no_twice : (done : List Declaration) (w : List ℕ) (p : Pos) → declared done w ≡ None → twice_fault done w p ≡ None
  no_twice done w p e = ap (λ z. cond (is_some z) (Some (Twice p)) None) e

  none_kept : (x y z : Option ParseFault) → x ≡ None → y ≡ None → z ≡ None → kept x (kept y z) ≡ None
  none_kept x y z e f g = cc

  declaration_by : (done : List Declaration) (w : List ℕ) (l : Option Label) (n : Option ℕ) → IsNew o.size done (w, record { label = l; length = n })
      → Reader front_declaration (Declares done (w, record { label = l; length = n })) (declaration_part o (w, record { label = l; length = n }))
  declaration_by done w None None h ws q s =
      let a = s.3 in
      let z = a.3 in
      record {
        tree = declaration_of s.0 w a.0 (scalar_of no_label) z.0;
        rest = z.1;
        are = s.2 ∙ ap (λ l. key_at Var s.0 ∷ l) (a.2 ∙ ap (λ l. name_at w a.0 ∷ l) z.2);
        says = z.3;
        is = ap (added done (w, decl_of o.names None None)) (none_kept (twice_fault done w a.0) None None (no_twice done w a.0 h.fresh) refl refl);
      }
  declaration_by done w (Some l) None h ws q s =
      let a = s.3 in
      let b = a.3 in
      let c = b.3 in
      let z = c.3 in
      let v : List ℕ = name_of o l.number in
      record {
        tree = declaration_of s.0 w a.0 (scalar_of (label_of b.0 v c.0)) z.0;
        rest = z.1;
        are = s.2 ∙ ap (λ l. key_at Var s.0 ∷ l)
            (a.2 ∙ ap (λ l. name_at w a.0 ∷ l) (b.2 ∙ ap (λ l. sign_at Colon b.0 ∷ l) (c.2 ∙ ap (λ l. name_at v c.0 ∷ l) z.2)));
        says = z.3;
        is = ap (added done (w, decl_of o.names (Some (v, c.0)) None))
            (none_kept (twice_fault done w a.0) None (label_fault o.names v c.0) (no_twice done w a.0 h.fresh) refl (no_label_fault l h.label c.0))
            ∙ ap (λ (x : Label). declaring (done ++ (w, record { label = Some x; length = None }) ∷ []) None) (number_is l h.label);
      }
  declaration_by done w None (Some n) h ws q s = absurd h.shape
  declaration_by done w (Some l) (Some n) h ws q s =
      let a = s.3 in
      let b = a.3 in
      let c = b.3 in
      let d = c.3 in
      let e = d.3 in
      let f = e.3 in
      let z = f.3 in
      let v : List ℕ = name_of o l.number in
      let size : length_fault done (Some (pos n, c.0)) ≡ None = ap (λ x. cond x (Some (Size c.0)) None) (size_good n (elements_in done) h.shape h.few) in
      record {
        tree = declaration_of s.0 w a.0 (array_of b.0 (pos n) c.0 d.0 e.0 v f.0) z.0;
        rest = z.1;
        are = s.2 ∙ ap (λ l. key_at Var s.0 ∷ l)
            (a.2 ∙ ap (λ l. name_at w a.0 ∷ l)
            (b.2 ∙ ap (λ l. sign_at LeftSquare b.0 ∷ l) (c.2 ∙ ap (λ l. record { symbol = word (number (pos n)); pos = c.0 } ∷ l)
            (d.2 ∙ ap (λ l. sign_at RightSquare d.0 ∷ l) (e.2 ∙ ap (λ l. sign_at Colon e.0 ∷ l) (f.2 ∙ ap (λ l. name_at v f.0 ∷ l) z.2))))));
        says = z.3;
        is = ap (added done (w, decl_of o.names (Some (v, f.0)) (Some (pos n, c.0))))
            (none_kept (twice_fault done w a.0) (length_fault done (Some (pos n, c.0))) (label_fault o.names v f.0) (no_twice done w a.0 h.fresh) size
            (no_label_fault l h.label f.0))
            ∙ ap (λ (x : Label). declaring (done ++ (w, record { label = Some x; length = Some n }) ∷ []) None) (number_is l h.label);
      }

  pub declarations_reader : (done ds : List Declaration) → AreNew o.size done ds
      → Reader front_declarations (λ t. declare_all o.names t (declaring done None) ≡ declaring (done ++ ds) None) (declarations_part o ds)
  declarations_reader done [] h ws q s =
      record { tree = no_declarations; rest = ws; are = refl; says = s; is = ap (λ z. declaring z None) (sym (append-nil done)) }
  declarations_reader done (d ∷ ds) h ws q s =
      let a = declaration_by done d.0 d.1.label d.1.length h.0 ws (declarations_part o ds q) s in
      let r = declarations_reader (done ++ d ∷ []) ds h.1 a.rest q a.says in
      record {
        tree = and_declaration a.tree r.tree;
        rest = r.rest;
        are = a.are ∙ ap (front_declaration a.tree) r.are;
        says = r.says;
        is = ap (declare_all o.names r.tree) a.is ∙ r.is ∙ ap (λ z. declaring z None) (append_assoc done (d ∷ []) ds);
      }
