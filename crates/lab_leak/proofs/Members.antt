-- The lines of classes, one after another.
use Rattle.std.proofs.Common.{◌≡◌, ◌<◌, ◌≤◌, ◌+◌, ◌-◌, ℕ, zero, suc, List, [], ◌∷◌, ◌++◌, length, map, drop, get_or, refl, sym, ap, ◌∙◌, arith}
use Rattle.std.proofs.Common.{append_assoc, append-nil, drop-cons, codes, decimal}
use Rattle.std.proofs.lemmas.List.{drop_all, drop-map, length-map}
use Rattle.mit_syntax.specs.Declarations.{Declaration}
use Rattle.label_lattice.specs.declared.label.Label.{Label}
use Rattle.timing_types.specs.Labelled.{LabelledProgram}
use Rattle.label_code.specs.Machine.{Event}
use Rattle.label_code.specs.Shaped.{Code}
use Rattle.code_lower.specs.Lowered.{lowered}
use Rattle.seen_line.specs.Field.{field_text, seen_text}
use Rattle.start_file.specs.declared.start.Start.{Start as Stored}
use Rattle.start_file.specs.Starts.{StartValue, seen}
use Rattle.history_bound.specs.Over.{history_made}
use Rattle.leak_audit.specs.Agreement.{start_of}
use Rattle.leak_audit.specs.Surveyed.{sequence_from}
use Rattle.tool_stages.specs.declared.envs.Environment.{Environment}
use Rattle.tool_stages.specs.Envs.{environment, told_in}
use Rattle.lab_runs.proofs.TextLemmas.{map-from}
use Rattle.lab_seen.specs.Seen.{line_text}
use Rattle.lab_leak.specs.Answer.{sequences_in}
use Rattle.lab_leak.specs.Classes.{AreFirsts}
use Rattle.space_leak.specs.Text.{class_line, class_lines}

-- ---- members of lists by their places

head_is : {A : Type 0} (x y : A) (xs ys : List A) → x ∷ xs ≡ y ∷ ys → x ≡ y
head_is x y xs ys e = cc

pub member_is : {A : Type 0} (xs : List A) (k : ℕ) (x d : A) (rest : List A) → k < length xs → drop k xs ≡ x ∷ rest → get_or xs k d ≡ x
member_is xs k x d rest lt e = head_is (get_or xs k d) x (drop (suc k) xs) rest (sym (drop-cons xs k d lt) ∙ e)

-- the class at a place, and those after it
pub record At (zs : List (List Event)) (cs : List (List Event × ℕ)) (fs : List ℕ) (k : ℕ) : Type 0 where
  pub class : List Event × ℕ
  pub first : ℕ
  pub run : ℕ
  pub first_is : first ≡ run + 1
  pub known : run < length zs
  pub shows : get_or zs run [] ≡ class.0
  pub classes : drop k cs ≡ class ∷ drop (k + 1) cs
  pub firsts : drop k fs ≡ first ∷ drop (k + 1) fs

pub at_place : (zs : List (List Event)) (cs : List (List Event × ℕ)) (fs : List ℕ) (k : ℕ) → AreFirsts zs cs fs → k < length fs → At zs cs fs k
at_place zs [] [] k h lt = absurd (omega (arith, lt))
at_place zs [] (f ∷ fs) k h lt = absurd h
at_place zs (c ∷ cs) [] k h lt = absurd h
at_place zs (c ∷ cs) (f ∷ fs) zero h lt =
    record { class = c; first = f; run = h.0.0; first_is = h.0.1; known = h.0.2; shows = h.0.3; classes = refl; firsts = refl }
at_place zs (c ∷ cs) (f ∷ fs) (suc k) h lt =
    let a = at_place zs cs fs k h.1 (omega (arith, lt)) in
    let next : suc (k + 1) ≡ suc k + 1 = omega arith in
    record {
      class = a.class;
      first = a.first;
      run = a.run;
      first_is = a.first_is;
      known = a.known;
      shows = a.shows;
      classes = a.classes ∙ ap (λ n. a.class ∷ drop n (c ∷ cs)) next;
      firsts = a.firsts ∙ ap (λ n. a.first ∷ drop n (f ∷ fs)) next;
    }

pub as_many : (zs : List (List Event)) (cs : List (List Event × ℕ)) (fs : List ℕ) → AreFirsts zs cs fs → length cs ≡ length fs
as_many zs [] [] h = refl
as_many zs [] (f ∷ fs) h = absurd h
as_many zs (c ∷ cs) [] h = absurd h
as_many zs (c ∷ cs) (f ∷ fs) h = let e = as_many zs cs fs h.1 in omega (arith, e)

-- ---- lines

module _ (ds : List Declaration) (cs : List (List Event × ℕ)) (fs : List ℕ) (old : List ℕ) where
  -- the lines of the first classes stand after a text
  pub record LinesPut (k : ℕ) (now : List ℕ) : Type 0 where
    pub is : now ++ class_lines ds (drop k cs) (drop k fs) ≡ old ++ class_lines ds cs fs

  pub no_line_put : LinesPut 0 old
  no_line_put = record { is = refl }

  pub line_put : (zs : List (List Event)) (k : ℕ) (now new : List ℕ) (a : At zs cs fs k) → LinesPut k now
      → new ≡ now ++ class_line ds a.class.0 a.class.1 a.first → LinesPut (k + 1) new
  line_put zs k now new a h e =
      let line = class_line ds a.class.0 a.class.1 a.first in
      let rest = class_lines ds (drop (k + 1) cs) (drop (k + 1) fs) in
      let here : class_lines ds (drop k cs) (drop k fs) ≡ line ++ rest =
      ap (λ z. class_lines ds z (drop k fs)) a.classes ∙ ap (λ z. class_lines ds (a.class ∷ drop (k + 1) cs) z) a.firsts in
      record { is = ap (λ z. z ++ rest) e ∙ append_assoc now line rest ∙ ap (λ z. now ++ z) (sym here) ∙ h.is }

  pub lines_put : (k : ℕ) (now : List ℕ) → length fs ≤ k → LinesPut k now → now ≡ old ++ class_lines ds cs fs
  lines_put k now le h =
      sym (append-nil now) ∙ ap (λ z. now ++ z) (sym (none (drop k cs))) ∙ ap (λ z. now ++ class_lines ds (drop k cs) z) (sym (drop_all k fs le)) ∙ h.is
    where
      none : (cs : List (List Event × ℕ)) → class_lines ds cs [] ≡ []
      none [] = refl
      none (c ∷ cs) = refl

-- ---- what a run shows

module _ (e : Environment) (t : ℕ) (q : LabelledProgram) (l : Label) (code : Code) (image : code ≡ lowered q) where
  -- the field of a run, as a list of assignments
  field_is : (s : StartValue) → seen_text q l (told_in e q.program.order code s t)
      ≡ field_text q.program.declarations (sequence_from (environment e q.program.order) q l.number t (start_of history_made q.program.order s))
  field_is s = ap (λ (z : Code). seen_text q l (told_in e q.program.order z s t)) image

  -- what is seen of the run from a start
  sequence_at : (items : List Stored) (i : ℕ) (x : Stored) → i < length items → x ≡ get_or items i x
      → get_or (sequences_in e t q l.number (map seen items)) i []
      ≡ sequence_from (environment e q.program.order) q l.number t (start_of history_made q.program.order (seen x))
  sequence_at items i x lt is =
      let see = sequence_from (environment e q.program.order) q l.number t in
      let begin = start_of history_made q.program.order in
      let here : drop i (map seen items) ≡ seen x ∷ drop (i + 1) (map seen items) = map-from seen items i x lt is in
      let one : drop i (map begin (map seen items)) ≡ begin (seen x) ∷ map begin (drop (i + 1) (map seen items)) =
      drop-map begin i (map seen items) ∙ ap (map begin) here in
      let two : drop i (map see (map begin (map seen items))) ≡ see (begin (seen x)) ∷ map see (map begin (drop (i + 1) (map seen items))) =
      drop-map see i (map begin (map seen items)) ∙ ap (map see) one in
      let long = length-map (map begin (map seen items)) see in
      let long' = length-map (map seen items) begin in
      let long'' = length-map items seen in
      member_is (map see (map begin (map seen items))) i (see (begin (seen x))) [] (map see (map begin (drop (i + 1) (map seen items))))
      (omega (arith, lt, long, long', long'')) two

  pub how_many : (items : List Stored) → length (sequences_in e t q l.number (map seen items)) ≡ length items
  how_many items =
      let see = sequence_from (environment e q.program.order) q l.number t in
      let begin = start_of history_made q.program.order in
      length-map (map begin (map seen items)) see ∙ length-map (map seen items) begin ∙ length-map items seen

  -- the line of a class is the line of its first run
  pub class_is : (items : List Stored) (cs : List (List Event × ℕ)) (fs : List ℕ) (k : ℕ) (a : At (sequences_in e t q l.number (map seen items)) cs fs k)
      (x : Stored) (i first size : ℕ) → i < length items → x ≡ get_or items i x → i ≡ first - 1 → first ≡ a.first → size ≡ a.class.1
      → (codes "class " ++ (decimal size ++ codes " first ")) ++ line_text q l first (told_in e q.program.order code (seen x) t)
      ≡ class_line q.program.declarations a.class.0 a.class.1 a.first
  class_is items cs fs k a x i first size lt is at f w =
      let known = a.first_is in
      let same : i ≡ a.run = omega (arith, at, f, known) in
      let shown : sequence_from (environment e q.program.order) q l.number t (start_of history_made q.program.order (seen x)) ≡ a.class.0 =
      sym (sequence_at items i x lt is) ∙ ap (λ z. get_or (sequences_in e t q l.number (map seen items)) z []) same ∙ a.shows in
      let field : seen_text q l (told_in e q.program.order code (seen x) t) ≡ field_text q.program.declarations a.class.0 =
      field_is (seen x) ∙ ap (field_text q.program.declarations) shown in
      let rest = codes "\t" ++ (field_text q.program.declarations a.class.0 ++ codes "\n") in
      append_assoc (codes "class ") (decimal size ++ codes " first ") (line_text q l first (told_in e q.program.order code (seen x) t))
      ∙ ap (λ z. codes "class " ++ z) (append_assoc (decimal size) (codes " first ") (line_text q l first (told_in e q.program.order code (seen x) t)))
      ∙ ap (λ z. codes "class " ++ (decimal size ++ (codes " first " ++ (decimal first ++ (codes "\t" ++ (z ++ codes "\n")))))) field
      ∙ ap (λ z. codes "class " ++ (decimal z ++ (codes " first " ++ (decimal first ++ rest)))) w
      ∙ ap (λ z. codes "class " ++ (decimal a.class.1 ++ (codes " first " ++ (decimal z ++ rest)))) f
