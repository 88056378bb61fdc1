-- Bytes that begin with right lines begin with fewer of them.
use Rattle.std.proofs.Common.{◌≡◌, ℕ, zero, suc, ◌+◌, ◌-◌, ◌<◌, ◌≤◌, refl, sym, ap, ◌∙◌, subst, List, [], ◌∷◌, ◌++◌, length, length-append, append_assoc}
use Rattle.std.proofs.Common.{append-nil, take, drop, arith, inl, inr, ⊎_elim}
use Rattle.std.specs.Prelude.{codes}
use Rattle.std.proofs.lemmas.Bool.{cases_lt}
use Rattle.std.proofs.lemmas.List.{get_or_append_left, take-append-drop, length-take-le}
use Rattle.label_lattice.specs.declared.label.Label.{Label}
use Rattle.label_lattice.specs.Order.{Order, lattice_of}
use Rattle.mit_syntax.specs.Declarations.{Declaration}
use Rattle.mit_syntax.specs.Program.{Syntax, plan_of}
use Rattle.mit_syntax.specs.Valid.{IsValid}
use Rattle.timing_types.specs.Labelling.{label_at}
use Rattle.label_infer.specs.Given.{AllFrom}
use Rattle.type_cert.specs.declared.line.Line.{Line}
use Rattle.type_cert.specs.declared.place.Place.{Place}
use Rattle.type_cert.specs.declared.place.Start.TheVariants.{First}
use Rattle.type_cert.specs.declared.place.Close.TheVariants.{Open}
use Rattle.type_cert.specs.Text.{line_text, lines_text, variable_text, variables_text}
use Rattle.type_cert.specs.Certificate.{spread, places_of, no_line, line_at, AllFit, FitsDeclaration, FitsPlace, BeginsWith, AreRight}
use Rattle.type_cert.proofs.Earlier.{LooksBack, all_back, meets_same}

lines_cut : (o : Order) (i : ℕ) (xs ys : List Line) → lines_text o i (xs ++ ys) ≡ lines_text o i xs ++ lines_text o (i + length xs) ys
lines_cut o i [] ys = let z : i ≡ i + 0 = omega arith in ap (λ j. lines_text o j ys) z
lines_cut o i (x ∷ xs) ys =
    let z : i + 1 + length xs ≡ i + length (x ∷ xs) = omega arith in
    ap (λ t. line_text o i x ++ t) (lines_cut o (i + 1) xs ys ∙ ap (λ j. lines_text o (i + 1) xs ++ lines_text o j ys) z)
    ∙ sym (append_assoc (line_text o i x) (lines_text o (i + 1) xs) (lines_text o (i + length (x ∷ xs)) ys))

no_more : (o : Order) (ds : List Declaration) → variables_text o ds [] ≡ []
no_more o [] = refl
no_more o (d ∷ ds) = refl

variables_cut : (o : Order) (ds : List Declaration) (ls ms : List Label)
    → variables_text o ds (ls ++ ms) ≡ variables_text o ds ls ++ variables_text o (drop (length ls) ds) ms
variables_cut o ds [] ms = sym (ap (λ z. z ++ variables_text o ds ms) (no_more o ds))
variables_cut o [] (l ∷ ls) ms = refl
variables_cut o (d ∷ ds) (l ∷ ls) ms =
    ap (λ t. variable_text o d.0 l ++ t) (variables_cut o ds ls ms)
    ∙ sym (append_assoc (variable_text o d.0 l) (variables_text o ds ls) (variables_text o (drop (length ls) ds) ms))

fit_front : {A B : Type 0} (R : A → B → Type 0) (as' : List A) (bs cs : List B) → AllFit R as' (bs ++ cs) → AllFit R as' bs
fit_front R as' [] cs h = tt
fit_front R [] (b ∷ bs) cs h = absurd h
fit_front R (a ∷ as') (b ∷ bs) cs h = (h.0, fit_front R as' bs cs h.1)

module _ (s : Syntax) (valid : IsValid s) where
  abbrev o : Order
  o = s.order

  abbrev F : List ℕ
  F = codes "certificate 1\n"

  abbrev V : List Label → List ℕ
  V ls = variables_text s.order s.declarations ls

  -- a line that is right with those before it is right where others follow no more
  fewer : (xs ys : List Line) (ps : List Place) (zs : List Line) (i : ℕ) → AllFrom LooksBack i ps → i + length zs ≤ length xs
      → AllFit (FitsPlace s (xs ++ ys)) ps zs → AllFit (FitsPlace s xs) ps zs
  fewer xs ys ps [] i back le f = tt
  fewer xs ys [] (z ∷ zs) i back le f = absurd f
  fewer xs ys (p ∷ ps) (z ∷ zs) i back le f =
      let b = s.order.bottom in
      let same : (j : ℕ) → j < i → line_at b (xs ++ ys) j ≡ line_at b xs j = λ j l. get_or_append_left xs ys (no_line b) j (omega (arith, l, le)) in (
        (f.0.0, meets_same (lattice_of s.order) (line_at b (xs ++ ys)) (line_at b xs) i same p z back.0 f.0.1),
        fewer xs ys ps zs (i + 1) back.1 (omega (arith, le)) f.1,
      )

  cut_lines : (ls : List Label) (xs ys : List Line) (bytes rest : List ℕ) → BeginsWith s ls (xs ++ ys) bytes rest
      → BeginsWith s ls xs bytes (lines_text s.order (0 + length xs) ys ++ rest)
  cut_lines ls xs ys bytes rest h =
      let L = lines_text s.order 0 xs in
      let M = lines_text s.order (0 + length xs) ys in
      let n = length-append xs ys in
      let back : AllFrom LooksBack 0 (places_of s ls) =
      all_back (lattice_of s.order) (label_at s.order.bottom (spread s.declarations ls)) s.order.size s.declarations (plan_of s) 0 s.order.bottom
      First Open valid.known tt tt in
      record {
        text =
            h.text ∙ ap (λ t. (F ++ (V ls ++ t)) ++ rest) (lines_cut s.order 0 xs ys)
            ∙ ap (λ t. (F ++ t) ++ rest) (sym (append_assoc (V ls) L M)) ∙ ap (λ t. t ++ rest) (sym (append_assoc F (V ls ++ L) M))
            ∙ append_assoc (F ++ (V ls ++ L)) M rest;
        variables = h.variables;
        complete = λ some. h.complete (omega (arith, some, n));
        commands = fewer xs ys (places_of s ls) xs 0 back (omega arith) (fit_front (FitsPlace s (xs ++ ys)) (places_of s ls) xs ys h.commands);
      }

  cut_labels : (ls ms : List Label) (bytes rest : List ℕ) → BeginsWith s (ls ++ ms) [] bytes rest
      → BeginsWith s ls [] bytes (variables_text s.order (drop (length ls) s.declarations) ms ++ rest)
  cut_labels ls ms bytes rest h =
      let W = variables_text s.order (drop (length ls) s.declarations) ms in
      record {
        text =
            h.text ∙ ap (λ t. (F ++ t) ++ rest) (append-nil (V (ls ++ ms)) ∙ variables_cut s.order s.declarations ls ms)
            ∙ ap (λ t. t ++ rest) (sym (append_assoc F (V ls) W)) ∙ append_assoc (F ++ V ls) W rest
            ∙ ap (λ t. (F ++ t) ++ (W ++ rest)) (sym (append-nil (V ls)));
        variables = fit_front (FitsDeclaration s.order.size) s.declarations ls ms h.variables;
        complete = λ some. absurd (omega (arith, some));
        commands = tt;
      }

  -- the lines before a number of right ones are right
  pub right_before : (bytes : List ℕ) (n k : ℕ) → k ≤ n → AreRight s bytes n → AreRight s bytes k
  right_before bytes n zero le h = inl refl
  right_before bytes n (suc j) le (inl z) = absurd (omega (arith, z, le))
  right_before bytes n (suc j) le (inr (ls, xs, rest, h, e)) =
      ⊎_elim
      (λ (l : j < length ls).
      let is = take-append-drop j ls in
      let some = cut_lines ls [] xs bytes rest h in
      let size = length-take-le j ls (omega (arith, l)) in
      inr (
        take j ls,
        [],
        _,
        cut_labels (take j ls) (drop j ls) bytes _
            (subst (λ z. BeginsWith s z [] bytes (lines_text s.order (0 + 0) xs ++ rest)) (sym is) some),
        omega (arith, size),
      ))
      (λ (l : length ls ≤ j).
      let m = j - length ls in
      let is = take-append-drop m xs in
      let size = length-take-le m xs (omega (arith, e, le)) in
      inr (ls, take m xs, _, cut_lines ls (take m xs) (drop m xs) bytes rest (subst (λ z. BeginsWith s ls z bytes rest) (sym is) h), omega (arith, size, l)))
      (cases_lt j (length ls))
