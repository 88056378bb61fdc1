-- One more right line.
use Rattle.std.proofs.Common.{◌≡◌, ℕ, ◌+◌, ◌<◌, ◌≤◌, refl, sym, ap, ◌∙◌, subst, List, [], ◌∷◌, ◌++◌, length, append_assoc, append-nil, get_or, arith}
use Rattle.std.specs.Prelude.{codes}
use Rattle.std.proofs.lemmas.List.{get_or_append_left}
use Rattle.label_lattice.specs.declared.label.Label.{Label}
use Rattle.label_lattice.specs.Order.{Order, lattice_of}
use Rattle.mit_syntax.specs.Declarations.{Declaration}
use Rattle.mit_syntax.specs.Program.{Syntax}
use Rattle.mit_syntax.specs.Valid.{IsValid}
use Rattle.timing_types.specs.Labelling.{IsKept}
use Rattle.label_infer.specs.Given.{AllFrom}
use Rattle.label_infer.proofs.Placed.{from_first}
use Rattle.type_cert.specs.declared.line.Line.{Line}
use Rattle.type_cert.specs.declared.place.Place.{Place}
use Rattle.type_cert.specs.Demands.{Meets}
use Rattle.type_cert.specs.Text.{line_text, lines_text, variable_text, variables_text}
use Rattle.type_cert.specs.Reading.{ReadsLine, ReadsVariable}
use Rattle.type_cert.specs.Certificate.{places_of, no_line, line_at, AllFit, FitsDeclaration, FitsPlace, BeginsWith}
use Rattle.type_cert.proofs.Earlier.{LooksBack, meets_same}
use Rattle.type_cert.proofs.Apart.{looks_back}

pub fit_push : {A B : Type 0} (R : A → B → Type 0) (as' : List A) (bs : List B) (a : A) (x : B) → length bs < length as' → a ≡ get_or as' (length bs) a
    → AllFit R as' bs → R a x → AllFit R as' (bs ++ x ∷ [])
fit_push R [] bs a x h e f k = absurd (omega (arith, h))
fit_push R (c ∷ as') [] a x h e f k = (subst (λ z. R z x) e k, tt)
fit_push R (c ∷ as') (y ∷ bs) a x h e f k = (f.0, fit_push R as' bs a x (omega (arith, h)) e f.1 k)

pub lines_push : (o : Order) (i : ℕ) (xs : List Line) (x : Line) → lines_text o i (xs ++ x ∷ []) ≡ lines_text o i xs ++ line_text o (i + length xs) x
lines_push o i [] x = let z : i ≡ i + 0 = omega arith in append-nil (line_text o i x) ∙ ap (λ j. line_text o j x) z
lines_push o i (y ∷ xs) x =
    let z : i + 1 + length xs ≡ i + length (y ∷ xs) = omega arith in
    ap (λ t. line_text o i y ++ t) (lines_push o (i + 1) xs x ∙ ap (λ j. lines_text o (i + 1) xs ++ line_text o j x) z)
    ∙ sym (append_assoc (line_text o i y) (lines_text o (i + 1) xs) (line_text o (i + length (y ∷ xs)) x))

pub variables_push : (o : Order) (ds : List Declaration) (ls : List Label) (d : Declaration) (l : Label) → length ls < length ds → d ≡ get_or ds (length ls) d →
    variables_text o ds (ls ++ l ∷ []) ≡ variables_text o ds ls ++ variable_text o d.0 l
variables_push o [] ls d l h e = absurd (omega (arith, h))
variables_push o (c ∷ ds) [] d l h e = ap (λ z. variable_text o c.0 l ++ z) (none ds) ∙ append-nil (variable_text o c.0 l)
    ∙ ap (λ (z : Declaration). variable_text o z.0 l) (sym e)
  where
    none : (ds : List Declaration) → variables_text o ds [] ≡ []
    none [] = refl
    none (d ∷ ds) = refl
variables_push o (c ∷ ds) (m ∷ ls) d l h e =
    ap (λ t. variable_text o c.0 m ++ t) (variables_push o ds ls d l (omega (arith, h)) e)
    ∙ sym (append_assoc (variable_text o c.0 m) (variables_text o ds ls) (variable_text o d.0 l))

module _ (s : Syntax) (valid : IsValid s) where
  abbrev o : Order
  o = s.order

  abbrev b : ℕ
  b = s.order.bottom

  pub push_variable : (ls : List Label) (l : Label) (d : Declaration) (bytes q r : List ℕ) → BeginsWith s ls [] bytes q → length ls < length s.declarations
      → d ≡ get_or s.declarations (length ls) d →
      ReadsVariable o d.0 q l r → IsKept d.1.label l.number → BeginsWith s (ls ++ l ∷ []) [] bytes r
  push_variable ls l d bytes q r h within at reads kept =
      let F = codes "certificate 1\n" in
      let V = variables_text o s.declarations ls in
      record {
        text =
            h.text ∙ ap (λ z. (F ++ (V ++ [])) ++ z) reads.is ∙ ap (λ z. (F ++ z) ++ (variable_text o d.0 l ++ r)) (append-nil V)
            ∙ sym (append_assoc (F ++ V) (variable_text o d.0 l) r) ∙ ap (λ z. z ++ r) (append_assoc F V (variable_text o d.0 l))
            ∙ ap (λ z. (F ++ z) ++ r) (sym (variables_push o s.declarations ls d l within at)
            ∙ sym (append-nil (variables_text o s.declarations (ls ++ l ∷ []))));
        variables = fit_push (FitsDeclaration s.order.size) s.declarations ls d l within at h.variables (reads.below, kept);
        complete = λ z. absurd (omega (arith, z));
        commands = tt;
      }

  again : (xs : List Line) (x : Line) (ps : List Place) (ys : List Line) (i : ℕ) → AllFrom LooksBack i ps → i + length ys ≤ length xs
      → AllFit (FitsPlace s xs) ps ys → AllFit (FitsPlace s (xs ++ x ∷ [])) ps ys
  again xs x ps [] i back le f = tt
  again xs x [] (y ∷ ys) i back le f = absurd f
  again xs x (p ∷ ps) (y ∷ ys) i back le f =
      let same : (j : ℕ) → j < i → line_at b xs j ≡ line_at b (xs ++ x ∷ []) j =
      λ j l. sym (get_or_append_left xs (x ∷ []) (no_line b) j (omega (arith, l, le))) in (
        (f.0.0, meets_same (lattice_of s.order) (line_at b xs) (line_at b (xs ++ x ∷ [])) i same p y back.0 f.0.1),
        again xs x ps ys (i + 1) back.1 (omega (arith, le)) f.1,
      )

  pub push_line : (ls : List Label) (xs : List Line) (x : Line) (p : Place) (bytes q r : List ℕ) → BeginsWith s ls xs bytes q
      → length ls ≡ length s.declarations → length xs < length (places_of s ls) →
      p ≡ get_or (places_of s ls) (length xs) p → ReadsLine o (length xs) p.act q x r → Meets (lattice_of s.order) (line_at b xs) p x
      → BeginsWith s ls (xs ++ x ∷ []) bytes r
  push_line ls xs x p bytes q r h all within at reads meets =
      let F = codes "certificate 1\n" in
      let V = variables_text o s.declarations ls in
      let L = lines_text o 0 xs in
      let X = line_text o (length xs) x in
      let z : 0 + length xs ≡ length xs = omega arith in
      let more : lines_text o 0 (xs ++ x ∷ []) ≡ L ++ X = lines_push o 0 xs x ∙ ap (λ j. L ++ line_text o j x) z in
      let back = looks_back s valid ls in
      let same : (j : ℕ) → j < length xs → line_at b xs j ≡ line_at b (xs ++ x ∷ []) j = λ j l. sym (get_or_append_left xs (x ∷ []) (no_line b) j l) in
      let p_back = subst (λ v. LooksBack (length xs) v) (sym at) (from_first LooksBack (places_of s ls) (length xs) p back within) in
      record {
        text =
            h.text ∙ ap (λ t. (F ++ (V ++ L)) ++ t) reads.is ∙ sym (append_assoc (F ++ (V ++ L)) X r)
            ∙ ap (λ t. t ++ r) (append_assoc F (V ++ L) X ∙ ap (λ t. F ++ t) (append_assoc V L X) ∙ ap (λ t. F ++ (V ++ t)) (sym more));
        variables = h.variables;
        complete = λ _. all;
        commands =
            fit_push (FitsPlace s (xs ++ x ∷ [])) (places_of s ls) xs p x within at (again xs x (places_of s ls) xs 0 back (omega arith) h.commands)
            (reads.formed, meets_same (lattice_of s.order) (line_at b xs) (line_at b (xs ++ x ∷ [])) (length xs) same p x p_back meets);
      }
