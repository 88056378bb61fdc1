-- What a whole certificate gives: a labelling of the program, a derivation, and the labels of its mitigates.
use Rattle.std.proofs.Common.{◌≡◌, ℕ, zero, suc, ◌+◌, ◌<◌, ◌≤◌, refl, sym, ap, ◌∙◌, subst, List, [], ◌∷◌, ◌++◌, length, length-append, append_assoc, take}
use Rattle.std.proofs.Common.{get_or, map, arith, ⊎_elim}
use Rattle.std.specs.Prelude.{Option, None, Some}
use Rattle.std.proofs.Math.Path.{fun_ext}
use Rattle.std.proofs.Math.Seq.{get_or-append_seam}
use Rattle.std.proofs.lemmas.Bool.{cases_lt}
use Rattle.std.proofs.lemmas.List.{get_or_past, length-map, take_all}
use Rattle.label_lattice.specs.declared.label.Label.{Label}
use Rattle.label_lattice.specs.Lattice.{Lattice}
use Rattle.label_lattice.specs.Order.{lattice_of}
use Rattle.mit_syntax.specs.Todo.{Marks as Pair}
use Rattle.mit_syntax.specs.Plan.{count, mitigates}
use Rattle.mit_syntax.specs.Program.{Syntax, plan_of}
use Rattle.mit_syntax.specs.Valid.{IsValid, IsBelow}
use Rattle.timing_types.specs.Typing.{Types}
use Rattle.timing_types.specs.Placed.{bare, labelled}
use Rattle.timing_types.specs.Contexts.{HasContexts}
use Rattle.timing_types.specs.Labelling.{Labelling, IsLabelling, label_at, marks_of, Keeps}
use Rattle.timing_types.specs.Labelled.{LabelledProgram, HasType, AreContexts}
use Rattle.label_infer.specs.Least.{HasOwn, Labels}
use Rattle.label_infer.specs.Given.{AllFrom}
use Rattle.label_infer.proofs.Placed.{from_first, from_map}
use Rattle.type_cert.specs.declared.line.Line.{Line}
use Rattle.type_cert.specs.declared.place.Place.{Place}
use Rattle.type_cert.specs.declared.place.Start.TheVariants.{First}
use Rattle.type_cert.specs.declared.place.Close.TheVariants.{Open}
use Rattle.type_cert.specs.Places.{label}
use Rattle.type_cert.specs.Demands.{HasLabels, HasLevel, Meets, marks_in}
use Rattle.type_cert.specs.Certificate.{spread, places_of, no_line, line_at, before, levels_in, held_in, AllFit, FitsPlace, BeginsWith, IsCertificate}
use Rattle.type_cert.specs.Contents.{pcs_in, AreContents}
use Rattle.type_cert.proofs.Placing.{length_places}
use Rattle.type_cert.proofs.Sound.{sound, owns, kept, in_contexts}
use Rattle.type_cert.proofs.Marks.{marked, same_lengths, Marks, marks}
use Rattle.type_cert.proofs.Spread.{length_spread, spread_below, spread_kept}

abbrev pub both_labels : Line → Label × Label
both_labels x = (x.read, x.write)

pub both_at : (b : ℕ) (xs : List Line) (i : ℕ) → get_or (map both_labels xs) i (label b, label b) ≡ both_labels (line_at b xs i)
both_at b [] i = refl
both_at b (x ∷ xs) zero = refl
both_at b (x ∷ xs) (suc i) = both_at b xs i

levels_below : (n b : ℕ) (xs : List Line) → b < n → AllFrom (λ _ x. IsBelow n x.level) 0 xs → (k : ℕ) → label_at b (levels_in xs) k < n
levels_below n b xs hb h k = go xs 0 h k
  where
    one : (v : Option Label) (ls : List Label) → IsBelow n v → ((k : ℕ) → label_at b ls k < n) → (k : ℕ) → label_at b (before v ls) k < n
    one None ls h r k = r k
    one (Some l) ls h r zero = h
    one (Some l) ls h r (suc k) = r k

    go : (xs : List Line) (i : ℕ) → AllFrom (λ _ x. IsBelow n x.level) i xs → (k : ℕ) → label_at b (levels_in xs) k < n
    go [] i h k = hb
    go (x ∷ xs) i h k = one x.level (levels_in xs) h.0 (go xs (i + 1) h.1) k

-- the second list's items, by their numbers
pub fit_at : {A B : Type 0} (R : A → B → Type 0) (as' : List A) (all pre bs : List B) (d : B) (i : ℕ) → all ≡ pre ++ bs → length pre ≡ i
    → length as' ≡ length bs → AllFit R as' bs → AllFrom (λ j a. R a (get_or all j d)) i as'
fit_at R [] all pre bs d i is len e h = tt
fit_at R (a ∷ as') all pre [] d i is len e h = absurd (omega (arith, e))
fit_at R (a ∷ as') all pre (b ∷ bs) d i is len e h =
    let at : get_or all i d ≡ b = ap (λ z. get_or z i d) is ∙ ap (λ z. get_or (pre ++ b ∷ bs) z d) (sym len) ∙ get_or-append_seam pre b bs d in
    let l = length-append pre (b ∷ []) in (
      subst (λ z. R a z) (sym at) h.0,
      fit_at R as' all (pre ++ b ∷ []) bs d (i + 1) (is ∙ sym (append_assoc pre (b ∷ []) bs)) (omega (arith, l, len)) (omega (arith, e)) h.1,
    )

module _ (s : Syntax) (valid : IsValid s) (ls : List Label) (xs : List Line) (bytes : List ℕ) (begins : BeginsWith s ls xs bytes [])
    (all_variables : length ls ≡ length s.declarations) (all_commands : length xs ≡ count (plan_of s)) where
  abbrev b : ℕ
  b = s.order.bottom

  abbrev lat : Lattice
  lat = lattice_of s.order

  abbrev g : ℕ → ℕ
  g = label_at b (spread s.declarations ls)

  abbrev E : ℕ → Line
  E = line_at b xs

  abbrev lv : ℕ → ℕ
  lv = label_at b (levels_in xs)

  abbrev held : Labelling
  held = held_in s ls xs

  abbrev mine : LabelledProgram
  mine = record { program = s; labels = held }

  all_fit : AllFrom (λ i p. FitsPlace s xs p (E i)) 0 (places_of s ls)
  all_fit =
      let n = length_places lat g (plan_of s) 0 b First Open in
      fit_at (FitsPlace s xs) (places_of s ls) xs [] xs (no_line b) 0 refl refl (omega (arith, n, all_commands)) begins.commands

  all_meet : AllFrom (λ i p. Meets lat E p (E i)) 0 (places_of s ls)
  all_meet = from_map (λ i p. FitsPlace s xs p (E i)) (λ i p. Meets lat E p (E i)) (λ i p h. h.1) (places_of s ls) 0 all_fit

  all_level : AllFrom (λ i p. HasLevel p.act (E i).level) 0 (places_of s ls)
  all_level = from_map (λ i p. FitsPlace s xs p (E i)) (λ i p. HasLevel p.act (E i).level) (λ i p h. h.0.level) (places_of s ls) 0 all_fit

  all_marks : Marks lat g xs (plan_of s) 0 0
  all_marks = marks lat g xs (plan_of s) 0 0 b First Open valid.numbered all_level refl

  some : b < s.order.size
  some = valid.order.table.some

  -- the labels of lines are labels
  labels_fit : (ps : List Place) (ys : List Line) (i : ℕ) → AllFit (FitsPlace s xs) ps ys → AllFrom (λ _ x. HasLabels s.order.size x) i ys
  labels_fit ps [] i h = tt
  labels_fit [] (y ∷ ys) i h = absurd h
  labels_fit (p ∷ ps) (y ∷ ys) i h = (h.0.0.labels, labels_fit ps ys (i + 1) h.1)

  lines_below : AllFrom (λ _ x. HasLabels s.order.size x) 0 xs
  lines_below = labels_fit (places_of s ls) xs 0 begins.commands

  at_below : (i : ℕ) → ((E i).read.number < s.order.size) × ((E i).write.number < s.order.size)
  at_below i =
      ⊎_elim
      (λ (h : i < length xs). let q = from_first (λ _ x. HasLabels s.order.size x) xs i (no_line b) lines_below h in (q.read, q.write))
      (λ (h : length xs ≤ i). subst (λ (z : Line). (z.read.number < s.order.size)
      × (z.write.number < s.order.size)) (sym (get_or_past xs i (no_line b) h)) (some, some))
      (cases_lt i (length xs))

  same_marks : (λ (i : ℕ). marks_in (E i)) ≡ marks_of s.order held
  same_marks = fun_ext λ i. ap (λ (z : Label × Label). the_marks z) (sym (both_at b xs i))
    where
      the_marks : Label × Label → Pair
      the_marks z = record { er = z.0.number; ew = z.1.number }

  pub is_labelling : IsLabelling s held
  is_labelling =
      let m = all_marks.next in
      record {
        variables_fit = length_spread s.declarations ls all_variables;
        commands_fit = length-map xs both_labels ∙ all_commands;
        levels_fit = levels_count m;
        variables_below = λ x. spread_below s.order.size s.declarations ls b x some begins.variables;
        commands_below = λ i. subst (λ (z : Label × Label). (z.0.number < s.order.size) × (z.1.number < s.order.size)) (sym (both_at b xs i)) (at_below i);
        levels_below = levels_below s.order.size b xs some (from_map (λ _ x. HasLabels s.order.size x) (λ _ x. IsBelow s.order.size x.level)
            (λ _ x h. h.level) xs 0 lines_below);
        declared = λ x h. spread_kept s.order.size s.declarations ls b x _ begins.variables all_variables h;
        written = subst (λ z. Keeps z lv (plan_of s) 0) same_marks (kept lat g E lv (plan_of s) 0 b First Open all_meet all_marks.levels);
      }
    where
      levels_count : marked xs (0 + count (plan_of s)) ≡ 0 + mitigates (plan_of s) → length (levels_in xs) ≡ mitigates (plan_of s)
      levels_count h =
          let e : take (0 + count (plan_of s)) xs ≡ xs = take_all (0 + count (plan_of s)) xs (omega (arith, all_commands)) in
          ap (λ z. length (levels_in z)) (sym e) ∙ h ∙ omega arith

  pub has_own : HasOwn lat g (marks_of s.order held) (plan_of s) 0 b
  has_own = subst (λ z. HasOwn lat g z (plan_of s) 0 b) same_marks (owns lat g E lv (plan_of s) 0 b First Open all_meet)

  pub are_labels : Labels s held
  are_labels = record { keeps = is_labelling; own = has_own }

  pub has_type : HasType mine
  has_type =
      let q = sound lat g E lv s.order.size s.declarations (plan_of s) 0 b First Open b all_meet all_marks.levels valid.known refl in
      subst (λ z. (end : ℕ) × Types lat g b b (bare (labelled z lv (plan_of s) 0)) end) same_marks (_, q.0)

  pub are_contexts : AreContexts mine (pcs_in xs)
  are_contexts =
      record {
        fit = same_lengths xs ∙ is_labelling.levels_fit;
        have =
            subst (λ z. HasContexts lat g (label_at b (pcs_in xs)) b (bare (labelled z lv (plan_of s) 0))) same_marks
            (in_contexts lat g E lv (label_at b (pcs_in xs)) (plan_of s) 0 b First Open all_meet all_marks.pcs);
      }

-- the labelled program that code makes of what it read
pub record IsMade (s : Syntax) (bytes : List ℕ) (l : Labelling) (pcs : List Label) : Type 0 where
  pub labelling : IsLabelling s l
  pub typed : HasType (record { program = s; labels = l })
  pub contexts : AreContexts (record { program = s; labels = l }) pcs
  pub certificate : IsCertificate (record { program = s; labels = l }) bytes

pub made_of : (s : Syntax) → IsValid s → (bytes : List ℕ) (vs : List Label) (xs seen : List Line) (cs : List (Label × Label)) (lvs pcs : List Label)
    → AreContents s bytes vs xs → seen ≡ xs →
    cs ≡ map (λ (x : Line). (x.read, x.write)) seen → lvs ≡ levels_in seen → pcs ≡ pcs_in seen
    → IsMade s bytes (record { variables = vs; commands = cs; levels = lvs }) pcs
made_of s valid bytes vs xs seen cs lvs pcs h es hc hl hp =
    let ls = h.declared in
    let same : held_in s ls xs ≡ made vs cs lvs =
    sym (ap (λ z. made z cs lvs) h.spreads ∙ ap (λ z. made (spread s.declarations ls) z lvs) (hc ∙ ap (λ z. map both_labels z) es)
    ∙ ap (λ z. made (spread s.declarations ls) (map both_labels xs) z) (hl ∙ ap levels_in es)) in
    let pcs_are : pcs_in xs ≡ pcs = sym (hp ∙ ap pcs_in es) in
    record {
      labelling = subst (λ z. IsLabelling s z) same (is_labelling s valid ls xs bytes h.begins h.all_variables h.all_commands);
      typed = subst (λ z. HasType (record { program = s; labels = z })) same (has_type s valid ls xs bytes h.begins h.all_variables h.all_commands);
      contexts =
          subst (λ z. AreContexts (record { program = s; labels = made vs cs lvs }) z) pcs_are
          (subst (λ z. AreContexts (record { program = s; labels = z }) (pcs_in xs)) same
          (are_contexts s valid ls xs bytes h.begins h.all_variables h.all_commands));
      certificate = record { variables = ls; lines = xs; begins = h.begins; all_variables = h.all_variables; all_commands = h.all_commands; labels = sym same };
    }
  where
    made : List Label → List (Label × Label) → List Label → Labelling
    made a c d = record { variables = a; commands = c; levels = d }
