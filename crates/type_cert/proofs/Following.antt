-- A beginning of bytes by right lines is part of each longer one.
use Rattle.std.proofs.Common.{◌≡◌, ℕ, ◌+◌, ◌≤◌, refl, sym, ap, ◌∙◌, List, [], ◌∷◌, ◌++◌, length, append_assoc, drop, arith}
use Rattle.label_lattice.specs.declared.label.Label.{Label}
use Rattle.label_lattice.specs.Order.{Order, IsOrder}
use Rattle.mit_syntax.specs.Declarations.{Declaration}
use Rattle.type_cert.specs.declared.line.Line.{Line}
use Rattle.type_cert.specs.declared.place.Place.{Place}
use Rattle.type_cert.specs.Demands.{IsFormed}
use Rattle.type_cert.specs.Text.{line_text, lines_text, variable_text, variables_text}
use Rattle.type_cert.specs.Reading.{ReadsLine, ReadsVariable}
use Rattle.type_cert.specs.Certificate.{AllFit, FitsDeclaration}
use Rattle.type_cert.proofs.Cuts.{cut_line, cut_variable}

module _ (o : Order) (ok : IsOrder o) where
  -- the labels of declarations in two texts
  pub record MoreLabels (ds : List Declaration) (ls ms : List Label) (q r : List ℕ) : Type 0 where
    pub more : List Label
    pub is : ms ≡ ls ++ more
    pub rest : q ≡ variables_text o (drop (length ls) ds) more ++ r
    pub fit : AllFit (FitsDeclaration o.size) (drop (length ls) ds) more

  pub more_labels : (ds : List Declaration) (ls ms : List Label) (q r : List ℕ) → AllFit (FitsDeclaration o.size) ds ls
      → AllFit (FitsDeclaration o.size) ds ms → length ls ≤ length ms →
      variables_text o ds ls ++ q ≡ variables_text o ds ms ++ r → MoreLabels ds ls ms q r
  more_labels [] [] ms q r hl hm le e = record { more = ms; is = refl; rest = e; fit = hm }
  more_labels [] (l ∷ ls) ms q r hl hm le e = absurd hl
  more_labels (d ∷ ds) [] ms q r hl hm le e = record { more = ms; is = refl; rest = e; fit = hm }
  more_labels (d ∷ ds) (l ∷ ls) [] q r hl hm le e = absurd (omega (arith, le))
  more_labels (d ∷ ds) (l ∷ ls) (m ∷ ms) q r hl hm le e =
      let text = variable_text o d.0 l ++ (variables_text o ds ls ++ q) in
      let e2 : text ≡ variable_text o d.0 m ++ (variables_text o ds ms ++ r) =
      sym (append_assoc (variable_text o d.0 l) (variables_text o ds ls) q) ∙ e ∙ append_assoc (variable_text o d.0 m) (variables_text o ds ms) r in
      let x : ReadsVariable o d.0 text l (variables_text o ds ls ++ q) = record { below = hl.0.0; is = refl } in
      let y : ReadsVariable o d.0 text m (variables_text o ds ms ++ r) = record { below = hm.0.0; is = e2 } in
      let c = cut_variable o ok d.0 text l m (variables_text o ds ls ++ q) (variables_text o ds ms ++ r) x y in
      let k = more_labels ds ls ms q r hl.1 hm.1 (omega (arith, le)) c.1 in
      record { more = k.more; is = ap (λ z. z ∷ ms) (sym c.0) ∙ ap (λ z. l ∷ z) k.is; rest = k.rest; fit = k.fit }

  -- the lines of commands in two texts
  module _ (R S : Place → Line → Type 0) (formed : (p : Place) (x : Line) → R p x → IsFormed o.size p.act x) (formed' : (p : Place) (x : Line) → S p x
      → IsFormed o.size p.act x) where
    pub record MoreLines (ps : List Place) (i : ℕ) (xs ys : List Line) (q r : List ℕ) : Type 0 where
      pub more : List Line
      pub is : ys ≡ xs ++ more
      pub rest : q ≡ lines_text o (i + length xs) more ++ r
      pub fit : AllFit S (drop (length xs) ps) more

    no_lines : (ps : List Place) (i : ℕ) (ys : List Line) (q r : List ℕ) → AllFit S ps ys → q ≡ lines_text o i ys ++ r → MoreLines ps i [] ys q r
    no_lines ps i ys q r hy e = let z : i ≡ i + 0 = omega arith in record { more = ys; is = refl; rest = e ∙ ap (λ j. lines_text o j ys ++ r) z; fit = hy }

    pub more_lines : (ps : List Place) (i : ℕ) (xs ys : List Line) (q r : List ℕ) → AllFit R ps xs → AllFit S ps ys → length xs ≤ length ys
        → lines_text o i xs ++ q ≡ lines_text o i ys ++ r → MoreLines ps i xs ys q r
    more_lines ps i [] ys q r hx hy le e = no_lines ps i ys q r hy e
    more_lines [] i (x ∷ xs) ys q r hx hy le e = absurd hx
    more_lines (p ∷ ps) i (x ∷ xs) [] q r hx hy le e = absurd (omega (arith, le))
    more_lines (p ∷ ps) i (x ∷ xs) (y ∷ ys) q r hx hy le e =
        let text = line_text o i x ++ (lines_text o (i + 1) xs ++ q) in
        let e2 : text ≡ line_text o i y ++ (lines_text o (i + 1) ys ++ r) =
        sym (append_assoc (line_text o i x) (lines_text o (i + 1) xs) q) ∙ e ∙ append_assoc (line_text o i y) (lines_text o (i + 1) ys) r in
        let a : ReadsLine o i p.act text x (lines_text o (i + 1) xs ++ q) = record { formed = formed p x hx.0; is = refl } in
        let b : ReadsLine o i p.act text y (lines_text o (i + 1) ys ++ r) = record { formed = formed' p y hy.0; is = e2 } in
        let c = cut_line o ok i p.act text x y (lines_text o (i + 1) xs ++ q) (lines_text o (i + 1) ys ++ r) a b in
        let k = more_lines ps (i + 1) xs ys q r hx.1 hy.1 (omega (arith, le)) c.1 in
        let n : i + 1 + length xs ≡ i + length (x ∷ xs) = omega arith in
        record { more = k.more; is = ap (λ z. z ∷ ys) (sym c.0) ∙ ap (λ z. x ∷ z) k.is; rest = k.rest ∙ ap (λ j. lines_text o j k.more ++ r) n; fit = k.fit }
