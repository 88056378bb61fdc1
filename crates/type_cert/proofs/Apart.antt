-- Where no right line follows, no longer beginning is right.
use Rattle.std.proofs.Common.{◌≡◌, ℕ, ◌+◌, ◌<◌, ◌≤◌, refl, sym, ap, ◌∙◌, subst, List, [], ◌∷◌, ◌++◌, length, length-append, append_assoc, append-nil, drop}
use Rattle.std.proofs.Common.{get_or, arith, inr, ⊎_elim}
use Rattle.std.specs.Prelude.{codes}
use Rattle.std.proofs.lemmas.Bool.{cases_lt}
use Rattle.std.proofs.lemmas.List.{append_cancel_left, get_or_append_left, drop_more}
use Rattle.label_lattice.specs.declared.label.Label.{Label}
use Rattle.label_lattice.specs.Lattice.{Lattice}
use Rattle.label_lattice.specs.Order.{Order, lattice_of}
use Rattle.mit_syntax.specs.Plan.{count}
use Rattle.mit_syntax.specs.Declarations.{Declaration}
use Rattle.mit_syntax.specs.Program.{Syntax, plan_of}
use Rattle.mit_syntax.specs.Valid.{IsValid}
use Rattle.timing_types.specs.Labelling.{label_at, IsKept}
use Rattle.label_infer.specs.Given.{AllFrom}
use Rattle.label_infer.proofs.Placed.{from_first}
use Rattle.type_cert.specs.declared.line.Line.{Line}
use Rattle.type_cert.specs.declared.place.Place.{Place}
use Rattle.type_cert.specs.declared.place.Start.TheVariants.{First}
use Rattle.type_cert.specs.declared.place.Close.TheVariants.{Open}
use Rattle.type_cert.specs.Demands.{IsFormed, Meets}
use Rattle.type_cert.specs.Text.{line_text, lines_text, variable_text, variables_text}
use Rattle.type_cert.specs.Reading.{ReadsLine, ReadsVariable}
use Rattle.type_cert.specs.Certificate.{spread, places_of, no_line, line_at, AllFit, FitsDeclaration, FitsPlace, BeginsWith, AreRight, IsFirstWrong}
use Rattle.type_cert.proofs.Placing.{length_places}
use Rattle.type_cert.proofs.Earlier.{LooksBack, all_back, meets_same}
use Rattle.type_cert.proofs.Shorter.{right_before}
use Rattle.type_cert.proofs.Following.{more_labels, MoreLines, more_lines}

pub fit_length : {A B : Type 0} (R : A → B → Type 0) (as' : List A) (bs : List B) → AllFit R as' bs → length bs ≤ length as'
fit_length R as' [] h = omega arith
fit_length R [] (b ∷ bs) h = absurd h
fit_length R (a ∷ as') (b ∷ bs) h = let r = fit_length R as' bs h.1 in omega (arith, r)

no_items : {A : Type 0} (xs : List A) → length xs ≡ 0 → xs ≡ []
no_items [] h = refl
no_items (x ∷ xs) h = absurd (omega (arith, h))

same_length : {A : Type 0} (xs ys more : List A) → ys ≡ xs ++ more → length xs ≡ length ys → more ≡ []
same_length xs ys more e h = let l = ap length e ∙ length-append xs more in no_items more (omega (arith, l, h))

no_text : (o : Order) (ds : List Declaration) → variables_text o ds [] ≡ []
no_text o [] = refl
no_text o (d ∷ ds) = refl

module _ (s : Syntax) (valid : IsValid s) where
  abbrev o : Order
  o = s.order

  abbrev lat : Lattice
  lat = lattice_of s.order

  abbrev ds : List Declaration
  ds = s.declarations

  abbrev b : ℕ
  b = s.order.bottom

  abbrev V : List Label → List ℕ
  V ls = variables_text s.order s.declarations ls

  abbrev L : List Line → List ℕ
  L xs = lines_text s.order 0 xs

  pub count_places : (ls : List Label) → length (places_of s ls) ≡ count (plan_of s)
  count_places ls = length_places lat (label_at b (spread ds ls)) (plan_of s) 0 b First Open

  pub looks_back : (ls : List Label) → AllFrom LooksBack 0 (places_of s ls)
  looks_back ls = all_back lat (label_at b (spread ds ls)) s.order.size ds (plan_of s) 0 b First Open valid.known tt tt

  -- the text after the first line
  text_is : (ls : List Label) (xs : List Line) (bytes rest : List ℕ) → BeginsWith s ls xs bytes rest
      → bytes ≡ codes "certificate 1\n" ++ (V ls ++ (L xs ++ rest))
  text_is ls xs bytes rest h =
      h.text ∙ append_assoc (codes "certificate 1\n") (V ls ++ L xs) rest ∙ ap (λ z. codes "certificate 1\n" ++ z) (append_assoc (V ls) (L xs) rest)

  both_texts : (ls ms : List Label) (xs ys : List Line) (bytes q r : List ℕ) → BeginsWith s ls xs bytes q → BeginsWith s ms ys bytes r
      → V ls ++ (L xs ++ q) ≡ V ms ++ (L ys ++ r)
  both_texts ls ms xs ys bytes q r h k =
      append_cancel_left (codes "certificate 1\n") (V ls ++ (L xs ++ q)) (V ms ++ (L ys ++ r)) (sym (text_is ls xs bytes q h) ∙ text_is ms ys bytes r k)

  few_labels : (ls : List Label) (xs : List Line) (bytes rest : List ℕ) → BeginsWith s ls xs bytes rest → length ls ≤ length ds
  few_labels ls xs bytes rest h = fit_length (FitsDeclaration s.order.size) ds ls h.variables

  few_lines : (ls : List Label) (xs : List Line) (bytes rest : List ℕ) → BeginsWith s ls xs bytes rest → length xs ≤ count (plan_of s)
  few_lines ls xs bytes rest h = let f = fit_length (FitsPlace s xs) (places_of s ls) xs h.commands in let n = count_places ls in omega (arith, f, n)

  -- where all labels of declarations are there, they are one, and so is what follows
  one_head : (ls ms : List Label) (xs ys : List Line) (bytes q r : List ℕ) → BeginsWith s ls xs bytes q → BeginsWith s ms ys bytes r
      → length ls ≡ length ds → length ms ≡ length ds →
      (ms ≡ ls) × (L xs ++ q ≡ L ys ++ r)
  one_head ls ms xs ys bytes q r h k el em =
      let m = more_labels o valid.order ds ls ms (L xs ++ q) (L ys ++ r) h.variables k.variables (omega (arith, el, em))
      (both_texts ls ms xs ys bytes q r h k) in
      let none = same_length ls ms m.more m.is (el ∙ sym em) in (
        m.is ∙ ap (λ z. ls ++ z) none ∙ append-nil ls,
        m.rest ∙ ap (λ z. variables_text o (drop (length ls) ds) z ++ (L ys ++ r)) none ∙ ap (λ z. z ++ (L ys ++ r)) (no_text o (drop (length ls) ds)),
      )

  formed : (xs : List Line) (p : Place) (x : Line) → FitsPlace s xs p x → IsFormed s.order.size p.act x
  formed xs p x h = h.0

  lines_after : (ls : List Label) (xs ys : List Line) (q r : List ℕ) → AllFit (FitsPlace s xs) (places_of s ls) xs → AllFit (FitsPlace s ys) (places_of s ls) ys
      → length xs ≤ length ys → L xs ++ q ≡ L ys ++ r →
      MoreLines o valid.order (FitsPlace s xs) (FitsPlace s ys) (formed xs) (formed ys) (places_of s ls) 0 xs ys q r
  lines_after ls xs ys q r hx hy le e =
      more_lines o valid.order (FitsPlace s xs) (FitsPlace s ys) (formed xs) (formed ys) (places_of s ls) 0 xs ys q r hx hy le e

  -- two whole certificates are one
  pub one_whole : (ls ms : List Label) (xs ys : List Line) (bytes q r : List ℕ) → BeginsWith s ls xs bytes q → BeginsWith s ms ys bytes r
      → length ls ≡ length ds → length ms ≡ length ds →
      length xs ≡ count (plan_of s) → length ys ≡ count (plan_of s) → (ms ≡ ls) × (ys ≡ xs) × (q ≡ r)
  one_whole ls ms xs ys bytes q r h k el em ex ey =
      let head = one_head ls ms xs ys bytes q r h k el em in
      let k2 = subst (λ z. AllFit (FitsPlace s ys) (places_of s z) ys) head.0 k.commands in
      let m = lines_after ls xs ys q r h.commands k2 (omega (arith, ex, ey)) head.1 in
      let none = same_length xs ys m.more m.is (ex ∙ sym ey) in (
        head.0,
        m.is ∙ ap (λ z. xs ++ z) none ∙ append-nil xs,
        m.rest ∙ ap (λ z. lines_text o (0 + length xs) z ++ r) none,
      )

  first_of_more : {A B : Type 0} (R : A → B → Type 0) (as' : List A) (n : ℕ) (a : A) (more : List B) → n < length as' → a ≡ get_or as' n a → 0 < length more
      → AllFit R (drop n as') more →
      (x : B) × (us : List B) × (more ≡ x ∷ us) × R a x
  first_of_more R as' n a [] h e some f = absurd (omega (arith, some))
  first_of_more R as' n a (x ∷ us) h e some f =
      let d : drop n as' ≡ a ∷ drop (n + 1) as' = drop_more as' n a h ∙ ap (λ z. z ∷ drop (n + 1) as') (sym e) in
      (x, us, refl, (subst (λ z. AllFit R z (x ∷ us)) d f).0)

  more_than : {A : Type 0} (xs ys more : List A) → ys ≡ xs ++ more → length xs < length ys → 0 < length more
  more_than xs ys more e h = let l = ap length e ∙ length-append xs more in omega (arith, l, h)

  -- no right line of the next command follows
  pub no_command : (ls ms : List Label) (xs ys : List Line) (bytes q r : List ℕ) (p : Place) → BeginsWith s ls xs bytes q
      → BeginsWith s ms ys bytes r → length ls ≡ length ds →
      length xs < length (places_of s ls) → p ≡ get_or (places_of s ls) (length xs) p
      → ((x : Line) (u : List ℕ) → ReadsLine o (length xs) p.act q x u → Meets lat (line_at b xs) p x → ⊥) →
      length ls + length xs < length ms + length ys → ⊥
  no_command ls ms xs ys bytes q r p h k el within at none more =
      let few = few_labels ms ys bytes r k in
      let some : 0 < length ys = omega (arith, few, more, el) in
      let em = k.complete some in
      let head = one_head ls ms xs ys bytes q r h k el em in
      let k2 = subst (λ z. AllFit (FitsPlace s ys) (places_of s z) ys) head.0 k.commands in
      let m = lines_after ls xs ys q r h.commands k2 (omega (arith, el, em, more)) head.1 in
      let f = first_of_more (FitsPlace s ys) (places_of s ls) (length xs) p m.more within at
      (more_than xs ys m.more m.is (omega (arith, el, em, more))) m.fit in
      let x = f.0 in
      let us = f.1 in
      let z : 0 + length xs ≡ length xs = omega arith in
      let text : q ≡ line_text o (length xs) x ++ (lines_text o (length xs + 1) us ++ r) =
      m.rest ∙ ap (λ v. lines_text o (0 + length xs) v ++ r) f.2 ∙ ap (λ v. lines_text o v (x ∷ us) ++ r) z
      ∙ append_assoc (line_text o (length xs) x) (lines_text o (length xs + 1) us) r in
      let back = from_first LooksBack (places_of s ls) (length xs) p (looks_back ls) within in
      let same : (j : ℕ) → j < length xs → line_at b ys j ≡ line_at b xs j =
      λ j l. ap (λ v. get_or v j (no_line b)) m.is ∙ get_or_append_left xs m.more (no_line b) j l in
      none x (lines_text o (length xs + 1) us ++ r) (record { formed = f.3.0; is = text })
      (meets_same lat (line_at b ys) (line_at b xs) (length xs) same p x (subst (λ v. LooksBack (length xs) v) (sym at) back) f.3.1)

  -- no right line of the next declaration follows
  pub no_variable : (ls ms : List Label) (ys : List Line) (bytes q r : List ℕ) (d : Declaration) → BeginsWith s ls [] bytes q → BeginsWith s ms ys bytes r →
      length ls < length ds → d ≡ get_or ds (length ls) d → ((l : Label) (u : List ℕ) → ReadsVariable o d.0 q l u → IsKept d.1.label l.number → ⊥) →
      length ls < length ms + length ys → ⊥
  no_variable ls ms ys bytes q r d h k within at none more =
      let longer : length ls < length ms =
      ⊎_elim (λ (x : length ls < length ms). x)
      (λ (x : length ms ≤ length ls). let some : 0 < length ys = omega (arith, x, more) in let em = k.complete some in
      omega (arith, em, within, x)) (cases_lt (length ls) (length ms)) in
      let m = more_labels o valid.order ds ls ms q (L ys ++ r) h.variables k.variables (omega (arith, longer)) (both_texts ls ms [] ys bytes q r h k) in
      let f = first_of_more (FitsDeclaration s.order.size) ds (length ls) d m.more within at (more_than ls ms m.more m.is longer) m.fit in
      let l = f.0 in
      let us = f.1 in
      let dr : drop (length ls) ds ≡ d ∷ drop (length ls + 1) ds = drop_more ds (length ls) d within ∙ ap (λ z. z ∷ drop (length ls + 1) ds) (sym at) in
      let rest = variables_text o (drop (length ls + 1) ds) us in
      let text : q ≡ variable_text o d.0 l ++ (rest ++ (L ys ++ r)) =
      m.rest ∙ ap (λ v. variables_text o (drop (length ls) ds) v ++ (L ys ++ r)) f.2 ∙ ap (λ v. variables_text o v (l ∷ us) ++ (L ys ++ r)) dr
      ∙ append_assoc (variable_text o d.0 l) rest (L ys ++ r) in
      none l (rest ++ (L ys ++ r)) (record { below = f.3.0; is = text }) f.3.1

  -- the first line is wrong
  pub no_first : (ms : List Label) (ys : List Line) (bytes r : List ℕ) → ((q : List ℕ) → bytes ≡ codes "certificate 1\n" ++ q → ⊥)
      → BeginsWith s ms ys bytes r → ⊥
  no_first ms ys bytes r none k = none (V ms ++ (L ys ++ r)) (text_is ms ys bytes r k)

  -- so the line after k right ones is the first wrong one
  pub is_first_wrong : (bytes : List ℕ) (n k : ℕ) → n ≡ k + 1 → k ≤ length ds + count (plan_of s) → AreRight s bytes k →
      ((ms : List Label) (ys : List Line) (r : List ℕ) → BeginsWith s ms ys bytes r → k ≤ length ms + length ys → ⊥) → IsFirstWrong s bytes n
  is_first_wrong bytes n k en few right apart =
      record {
        right = λ j l. right_before s valid bytes k j (omega (arith, l, en)) right;
        wrong = λ w. ⊎_elim (λ (z : n ≡ 0). absurd (omega (arith, z, en))) (λ z. let e = z.4 in apart z.0 z.1 z.2 z.3 (omega (arith, e, en))) w;
        none = λ l c. let a = c.all_variables in let m = c.all_commands in apart c.variables c.lines [] c.begins (omega (arith, few, a, m));
      }

  -- and where more follows a whole certificate, that is the line after its last
  pub is_surplus : (ls : List Label) (xs : List Line) (bytes q : List ℕ) (n : ℕ) → BeginsWith s ls xs bytes q → length ls ≡ length ds
      → length xs ≡ count (plan_of s) → 0 < length q →
      n ≡ length ls + length xs + 2 → IsFirstWrong s bytes n
  is_surplus ls xs bytes q n h el ex some en =
      record {
        right = λ j l. right_before s valid bytes (1 + length ls + length xs) j (omega (arith, l, en)) (inr (ls, xs, q, h, refl));
        wrong = λ w. ⊎_elim (λ (z : n ≡ 0). absurd (omega (arith, z, en)))
            (λ z.
            let e = z.4 in
            let a = few_labels z.0 z.1 bytes z.2 z.3 in
            let m = few_lines z.0 z.1 bytes z.2 z.3 in
            absurd (omega (arith, e, en, a, m, el, ex))) w;
        none = λ l c.
            let same = one_whole ls c.variables xs c.lines bytes q [] h c.begins el c.all_variables ex c.all_commands in
            let z : length q ≡ 0 = ap length same.2 in
            absurd (omega (arith, z, some));
      }
