-- The steps of reading a certificate, as code has them.
use Rattle.std.proofs.Common.{◌≡◌, ℕ, ◌+◌, ◌<◌, ◌≤◌, refl, sym, ap, ◌∙◌, subst, List, [], ◌∷◌, ◌++◌, length, append-nil, get_or, arith, inl, inr, Some}
use Rattle.std.specs.Prelude.{codes, slice_get}
use Rattle.std.proofs.lemmas.Option.{slice_get_within, get_or_from_slice_get}
use Rattle.label_lattice.specs.declared.label.Label.{Label}
use Rattle.label_lattice.specs.Order.{Order, lattice_of}
use Rattle.mit_syntax.specs.Plan.{count}
use Rattle.mit_syntax.specs.Declarations.{Declaration}
use Rattle.mit_syntax.specs.Program.{Syntax, plan_of}
use Rattle.mit_syntax.specs.Valid.{IsValid}
use Rattle.timing_types.specs.Labelling.{IsKept}
use Rattle.type_cert.specs.declared.line.Line.{Line}
use Rattle.type_cert.specs.declared.place.Place.{Place}
use Rattle.type_cert.specs.Demands.{Meets}
use Rattle.type_cert.specs.Text.{variables_text}
use Rattle.type_cert.specs.Reading.{ReadsLine, ReadsVariable}
use Rattle.type_cert.specs.Certificate.{places_of, line_at, spread, BeginsWith, IsFirstWrong}
use Rattle.type_cert.specs.Contents.{AreContents}
use Rattle.type_cert.proofs.Apart.{count_places, no_first, no_variable, no_command, is_first_wrong, is_surplus}
use Rattle.type_cert.proofs.Pushing.{push_variable, push_line}

module _ (s : Syntax) (valid : IsValid s) (bytes : List ℕ) where
  pub first_begins : (found : List Label) (rest : List ℕ) → found ≡ [] → bytes ≡ codes "certificate 1\n" ++ rest → BeginsWith s found [] bytes rest
  first_begins found rest none e = subst (λ z. BeginsWith s z [] bytes rest) (sym none) (record {
    text = e ∙ ap (λ z. z ++ rest) (sym (ap (λ z. codes "certificate 1\n" ++ z) (append-nil (variables_text s.order s.declarations []) ∙ no_text s.declarations)
        ∙ append-nil (codes "certificate 1\n")));
    variables = tt;
    complete = λ z. absurd (omega (arith, z));
    commands = tt;
  })
    where
      no_text : (ds : List Declaration) → variables_text s.order ds [] ≡ []
      no_text [] = refl
      no_text (d ∷ ds) = refl

  pub wrong_first : ((q : List ℕ) → bytes ≡ codes "certificate 1\n" ++ q → ⊥) → IsFirstWrong s bytes 1
  wrong_first none = is_first_wrong s valid bytes 1 0 (omega arith) (omega arith) (inl refl) (λ ms ys r k _. no_first s valid ms ys bytes r none k)

  module _ (o : Order) (eo : o ≡ s.order) where
    -- declarations
    module _ (ds : List Declaration) (ed : ds ≡ s.declarations) (k : ℕ) (found : List Label) (ek : length found ≡ k) (d : Declaration)
        (there : slice_get ds k ≡ Some d) (rest : List ℕ) (begins : BeginsWith s found [] bytes rest) where
      within : length found < length s.declarations
      within = let h = slice_get_within ds k d there in let l = ap length ed in omega (arith, h, l, ek)

      at : d ≡ get_or s.declarations (length found) d
      at = sym (get_or_from_slice_get ds k d d there) ∙ ap (λ z. get_or z k d) ed ∙ ap (λ z. get_or s.declarations z d) (sym ek)

      pub wrong_variable : (n : ℕ) → n ≡ k + 2 → ((l : Label) (q : List ℕ) → ReadsVariable o d.0 rest l q → IsKept d.1.label l.number → ⊥)
          → IsFirstWrong s bytes n
      wrong_variable n en none =
          let none2 : (l : Label) (q : List ℕ) → ReadsVariable s.order d.0 rest l q → IsKept d.1.label l.number → ⊥ =
          λ l q h. none l q (subst (λ z. ReadsVariable z d.0 rest l q) (sym eo) h) in
          let w = within in
          is_first_wrong s valid bytes n (k + 1) (omega (arith, en)) (omega (arith, w, ek)) (inr (found, [], rest, begins, omega (arith, ek)))
          (λ ms ys r b le. no_variable s valid found ms ys bytes rest r d begins b w at none2 (omega (arith, le, ek)))

      pub next_variable : (l : Label) (q : List ℕ) (new : List Label) → new ≡ found ++ l ∷ [] → ReadsVariable o d.0 rest l q → IsKept d.1.label l.number
          → BeginsWith s new [] bytes q
      next_variable l q new en reads kept =
          subst (λ z. BeginsWith s z [] bytes q) (sym en)
          (push_variable s valid found l d bytes rest q begins within at (subst (λ z. ReadsVariable z d.0 rest l q) eo reads) kept)

    -- commands
    module _ (ls : List Label) (all : length ls ≡ length s.declarations) (ps : List Place) (ep : ps ≡ places_of s ls) (k : ℕ) (xs : List Line)
        (ek : length xs ≡ k) (rest : List ℕ) (begins : BeginsWith s ls xs bytes rest) where
      module _ (seen : List Line) (es : seen ≡ xs) (p : Place) (inside : k < length ps) (there : p ≡ get_or ps k p) where
        inside_all : length xs < length (places_of s ls)
        inside_all = let l = ap length ep in omega (arith, inside, l, ek)

        there_all : p ≡ get_or (places_of s ls) (length xs) p
        there_all = there ∙ ap (λ z. get_or z k p) ep ∙ ap (λ z. get_or (places_of s ls) z p) (sym ek)

        pub wrong_line : (n : ℕ) → n ≡ length ls + k + 2
            → ((x : Line) (q : List ℕ) → ReadsLine o k p.act rest x q → Meets (lattice_of o) (line_at o.bottom seen) p x → ⊥) → IsFirstWrong s bytes n
        wrong_line n en none =
            let none2 : (x : Line) (q : List ℕ) → ReadsLine s.order (length xs) p.act rest x q
            → Meets (lattice_of s.order) (line_at s.order.bottom xs) p x → ⊥ =
            λ x q h m. none x q (subst (λ (z : Order). ReadsLine z k p.act rest x q) (sym eo) (subst (λ z. ReadsLine s.order z p.act rest x q) ek h))
            (subst (λ z. Meets (lattice_of o) (line_at o.bottom z) p x) (sym es)
            (subst (λ (z : Order). Meets (lattice_of z) (line_at z.bottom xs) p x) (sym eo) m)) in
            let c = count_places s valid ls in
            let w = inside_all in
            is_first_wrong s valid bytes n (length ls + k + 1) (omega (arith, en)) (omega (arith, w, ek, c, all))
            (inr (ls, xs, rest, begins, omega (arith, ek)))
            (λ ms ys r b le. no_command s valid ls ms xs ys bytes rest r p begins b all w there_all none2 (omega (arith, le, ek)))

        pub next_line : (x : Line) (q : List ℕ) (new : List Line) → new ≡ xs ++ x ∷ [] → ReadsLine o k p.act rest x q
            → Meets (lattice_of o) (line_at o.bottom seen) p x → BeginsWith s ls new bytes q
        next_line x q new en reads meets =
            subst (λ z. BeginsWith s ls z bytes q) (sym en)
            (push_line s valid ls xs x p bytes rest q begins all inside_all there_all
            (subst (λ z. ReadsLine s.order z p.act rest x q) (sym ek) (subst (λ (z : Order). ReadsLine z k p.act rest x q) eo reads))
            (subst (λ (z : Order). Meets (lattice_of z) (line_at z.bottom xs) p x) eo (subst (λ z. Meets (lattice_of o) (line_at o.bottom z) p x) es meets)))

      module _ (past : length ps ≤ k) (most : k ≤ length ps) where
        all_lines : length xs ≡ count (plan_of s)
        all_lines = let l = ap length ep in let c = count_places s valid ls in omega (arith, past, most, l, c, ek)

        pub wrong_rest : (n : ℕ) → n ≡ length ls + length ps + 2 → 0 < length rest → IsFirstWrong s bytes n
        wrong_rest n en some = let m = all_lines in is_surplus s valid ls xs bytes rest n begins all m some (omega (arith, en, past, most, ek))

        pub contents : (variables : List Label) → variables ≡ spread s.declarations ls → rest ≡ [] → AreContents s bytes variables xs
        contents variables ev none = record {
          declared = ls;
          begins = subst (λ z. BeginsWith s ls xs bytes z) none begins;
          all_variables = all;
          all_commands = all_lines;
          spreads = ev;
        }

-- the numbers of lines are small
pub line_small : (s : Syntax) → IsValid s → (ls : List Label) (ps : List Place) (d n : ℕ) → length ls ≡ length s.declarations → ps ≡ places_of s ls
    → d ≡ length ls → n ≤ length ps → d + n < 4294967294
line_small s valid ls ps d n all ep ed le =
    let l = ap length ep in
    let c = count_places s valid ls in
    let m = valid.count in
    let f = valid.few.count in
    omega (arith, l, c, m, f, all, ed, le)
