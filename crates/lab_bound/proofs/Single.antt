-- There is one answer.
use Rattle.std.proofs.Common.{◌≡◌, ◌<◌, ℕ, suc, List, [], ◌∷◌, ◌++◌, length, Option, Some, None, inl, inr, refl, sym, ap, ◌∙◌, subst, arith}
use Rattle.std.specs.Prelude.{ℤ, codes, slice_index_or}
use Rattle.tim_base.specs.Faults.{Rose}
use Rattle.label_lattice.specs.declared.label.Label.{Label}
use Rattle.label_lattice.specs.Order.{Order}
use Rattle.mit_syntax.specs.Program.{plan_of}
use Rattle.timing_types.specs.Labelled.{LabelledProgram, order_of, labels_of, levels_of}
use Rattle.start_file.specs.Starts.{StartValue}
use Rattle.sharp_count.specs.declared.count.LevelRuns.{LevelRuns}
use Rattle.sharp_count.specs.Count.{fitting}
use Rattle.sharp_count.specs.Levels.{told_of, counts_of}
use Rattle.sharp_count.specs.Shared.{shared_of}
use Rattle.sharp_bound.specs.Sharp.{relevant_at}
use Rattle.own_firsts.specs.Count.{firsts_at, many_at, first_at, own_of}
use Rattle.level_counts.specs.Begun.{PredictedIn, AreTold, memories_of}
use Rattle.level_counts.specs.Listed.{AreListed}
use Rattle.level_counts.proofs.Leasts.{one_least}
use Rattle.tool_stages.specs.declared.envs.Environment.{Environment}
use Rattle.tool_texts.specs.declared.status.Status.{Status}
use Rattle.tool_texts.specs.Texts.{number_line}
use Rattle.tool_texts.specs.Reports.{label_line, class_lines, audit_lines}
use Rattle.tool_stages.proofs.OneLemmas.{Same}
use Rattle.leak_audit.specs.declared.report.AuditReport.{AuditReport}
use Rattle.leak_audit.specs.Report.{SameReport}
use Rattle.part_tlb.specs.declared.bank.Sharing.{Sharing}
use Rattle.part_tlb.specs.declared.bank.Sharing.TheVariants.{Partitioned, Shared}
use Rattle.tool_stages.specs.Envs.{hardware_of}
use Rattle.machine_stage.specs.Lines.{machine_head, no_bound_line}
use Rattle.audit_stage.proofs.Once.{audit_stops, one_audit_stop, same_report, not_fault, same_lines, two_parts}
use Rattle.lab_runs.proofs.NamedChains.{prepares_one}
use Rattle.lab_bound.specs.Text.{IsBits, IsSharpText, IsBoundText, IsSharedText, IsOwnText, IsEndText}
use Rattle.lab_bound.specs.Text.{level_lines, number_text, shared_line, own_line, sharp_of}
use Rattle.lab_bound.specs.Answer.{HasBound, HasCounts, TellsBy, shown_head, shown_lines}
use Rattle.lab_bound.specs.Complete.{HasOneBound}
use Rattle.lab_bound.proofs.Enough.{same_counts}
use Rattle.lab_bound.proofs.Answering.{bound_next}

same_list : (a b : List LevelRuns) → length a ≡ length b → ((l : ℕ) → told_of a l ≡ told_of b l) → a ≡ b
same_list [] [] e h = refl
same_list [] (y ∷ b) e h = absurd (omega (arith, e))
same_list (x ∷ a) [] e h = absurd (omega (arith, e))
same_list (x ∷ a) (y ∷ b) e h = ap (λ z. z ∷ a) (h 0) ∙ ap (λ z. y ∷ z) (same_list a b (omega (arith, e)) (λ l. h (suc l)))

same_told : (t u : LevelRuns) → t.mitigations ≡ u.mitigations → t.first ≡ u.first → t ≡ u
same_told t u e f =
    ap (λ z. let r : LevelRuns = record { mitigations = z; first = t.first } in r) e
    ∙ ap (λ z. let r : LevelRuns = record { mitigations = u.mitigations; first = z } in r) f

-- what is told of the levels is told in one way
pub one_told : (q : LabelledProgram) (o : ℕ) (ms : List (List ℤ)) (a b : List LevelRuns) → AreTold q o ms a → AreTold q o ms b → a ≡ b
one_told q o ms a b h k =
    same_list a b (h.size ∙ sym k.size)
    (λ l. same_told (told_of a l) (told_of b l) (same_counts q o ms (counts_of a) (counts_of b) h.begun k.begun l)
    (one_least (PredictedIn (relevant_at (order_of q) (labels_of q) (levels_of q) o (plan_of q.program) l) (plan_of q.program) ms) (told_of a l).first
    (told_of b l).first (h.first l) (k.first l)))

same_places : (xs ys : List ℕ) → length xs ≡ length ys → ((i : ℕ) → i < length xs → slice_index_or xs i 0 ≡ slice_index_or ys i 0) → xs ≡ ys
same_places [] [] e h = refl
same_places [] (y ∷ ys) e h = absurd (omega (arith, e))
same_places (x ∷ xs) [] e h = absurd (omega (arith, e))
same_places (x ∷ xs) (y ∷ ys) e h =
    ap (λ z. z ∷ xs) (h 0 (omega arith)) ∙ ap (λ z. y ∷ z) (same_places xs ys (omega (arith, e)) (λ i lt. h (suc i) (omega (arith, lt))))

same_levels : (a b : List (List ℕ)) → length a ≡ length b → ((l : ℕ) → firsts_at a l ≡ firsts_at b l) → a ≡ b
same_levels [] [] e h = refl
same_levels [] (y ∷ b) e h = absurd (omega (arith, e))
same_levels (x ∷ a) [] e h = absurd (omega (arith, e))
same_levels (x ∷ a) (y ∷ b) e h = ap (λ z. z ∷ a) (h 0) ∙ ap (λ z. y ∷ z) (same_levels a b (omega (arith, e)) (λ l. h (suc l)))

-- what is listed is listed in one way
pub one_listing : (q : LabelledProgram) (o : ℕ) (ms : List (List ℤ)) (a b : List (List ℕ)) → AreListed q o ms a → AreListed q o ms b → a ≡ b
one_listing q o ms a b h k = same_levels a b (h.size ∙ sym k.size) (λ l. same_places (firsts_at a l) (firsts_at b l) (long l) (at l))
  where
    long : (l : ℕ) → many_at a l ≡ many_at b l
    long l = same_counts q o ms (many_at a) (many_at b) h.begun k.begun l

    at : (l i : ℕ) → i < many_at a l → first_at a l i ≡ first_at b l i
    at l i lt =
        let e = long l in
        let other : i < many_at b l = omega (arith, lt, e) in
        let x = h.least l i (first_at b l i) lt (k.one l i other) in
        let y = k.least l i (first_at a l i) other (h.one l i lt) in
        omega (arith, x, y)

one_bits : (n b c : ℕ) → IsBits n b → IsBits n c → b ≡ c
one_bits n b c h k = let x = h.least c k.enough in let y = k.least b h.enough in omega (arith, x, y)

one_sharp : (count : Option ℕ) (x y : List ℕ) → IsSharpText count x → IsSharpText count y → x ≡ y
one_sharp None x y h k = h ∙ sym k
one_sharp (Some n) x y h k =
    h.2 ∙ ap (λ b. (number_text (codes "sharp ") n ++ codes "\n")
    ++ ((number_text (codes "bits ") b ++ codes "\n") ++ (number_text (codes "guess at most ") n ++ codes " times as often\n")))
    (one_bits n h.0 k.0 h.1 k.1) ∙ sym k.2

one_text : (order : Order) (o t : ℕ) (a b : List LevelRuns) (x y : List ℕ) → a ≡ b → IsBoundText order o t a x → IsBoundText order o t b y → x ≡ y
one_text order o t a b x y e h k =
    let rest : h.0 ≡ k.0 = one_sharp (fitting (sharp_of t b)) h.0 k.0 (subst (λ z. IsSharpText (fitting (sharp_of t z)) h.0) e h.1) k.1 in
    h.2 ∙ ap (λ z. level_lines order o t 0 z ++ h.0) e ∙ ap (λ z. level_lines order o t 0 b ++ z) rest ∙ sym k.2

pub one_shared : (q : LabelledProgram) (o t : ℕ) (a b : List LevelRuns) (x y : List ℕ) → a ≡ b → IsSharedText q o t a x → IsSharedText q o t b y → x ≡ y
one_shared q o t a b x y e (inl h) (inl k) = h.1 ∙ ap (λ z. shared_line (fitting (shared_of t z))) e ∙ sym k.1
one_shared q o t a b x y e (inl h) (inr k) = absurd (k.0 h.0)
one_shared q o t a b x y e (inr h) (inl k) = absurd (h.0 k.0)
one_shared q o t a b x y e (inr h) (inr k) = h.1 ∙ sym k.1

pub one_own : (q : LabelledProgram) (o t : ℕ) (ms : List (List ℤ)) (x y : List ℕ) → IsOwnText q o t ms x → IsOwnText q o t ms y → x ≡ y
one_own q o t ms x y (inl h) (inl k) = h.3 ∙ ap (λ z. own_line (fitting (own_of t z))) (one_listing q o ms h.1 k.1 h.2 k.2) ∙ sym k.3
one_own q o t ms x y (inl h) (inr k) = absurd (k.0 h.0)
one_own q o t ms x y (inr h) (inl k) = absurd (h.0 k.0)
one_own q o t ms x y (inr h) (inr k) = h.1 ∙ sym k.1

one_end : (q : LabelledProgram) (o : ℕ) (x y : List ℕ) → IsEndText q o x → IsEndText q o y → x ≡ y
one_end q o x y (inl h) (inl k) = h.1 ∙ sym k.1
one_end q o x y (inl h) (inr k) = absurd (k.0 h.0)
one_end q o x y (inr h) (inl k) = absurd (h.0 k.0)
one_end q o x y (inr h) (inr k) = h.1 ∙ sym k.1

one_counts : (q : LabelledProgram) (l : Label) (t : ℕ) (ss : List StartValue) (a b : AuditReport) (x y : List ℕ)
    → audit_lines q.program.order l t a ≡ audit_lines q.program.order l t b → HasCounts q l t ss a x → HasCounts q l t ss b y → x ≡ y
one_counts q l t ss a b x y lines h k =
    let levels = one_told q l.number (memories_of ss) h.0 k.0 h.1 k.1 in
    let rest = one_text q.program.order l.number t h.0 k.0 h.2 k.2 levels h.3 k.3 in
    let line = one_shared q l.number t h.0 k.0 h.4 k.4 levels h.5 k.5 in
    let own = one_own q l.number t (memories_of ss) h.6 k.6 h.7 k.7 in
    let last = one_end q l.number h.8 k.8 h.9 k.9 in
    let audited = audit_lines q.program.order l t b in
    h.10 ∙ ap (λ z. (((z ++ h.2) ++ h.4) ++ h.6) ++ h.8) lines ∙ ap (λ z. (((audited ++ z) ++ h.4) ++ h.6) ++ h.8) rest
    ∙ ap (λ z. (((audited ++ k.2) ++ z) ++ h.6) ++ h.8) line ∙ ap (λ z. (((audited ++ k.2) ++ k.4) ++ z) ++ h.8) own
    ∙ ap (λ z. (((audited ++ k.2) ++ k.4) ++ k.6) ++ z) last ∙ sym k.10

pub same_shown_head : (o : Order) (l : Label) (t : ℕ) (r s : AuditReport) → SameReport r s → shown_head o l t r ≡ shown_head o l t s
same_shown_head o l t r s h =
    ap (λ z. number_line (codes "runs ") z ++ (label_line (codes "observer ") o l ++ number_line (codes "budget ") t)) h.runs

same_shown : (o : Order) (l : Label) (t : ℕ) (r s : AuditReport) → SameReport r s → shown_lines o l t r ≡ shown_lines o l t s
same_shown o l t r s h =
    two_parts _ _ _ _ (same_shown_head o l t r s h) (two_parts _ _ _ _ (ap (number_line (codes "mitigations ")) h.mitigations)
    (two_parts _ _ _ _ (ap (number_line (codes "distinct ")) h.measures.distinct) (ap (λ z. no_bound_line ++ class_lines 1 z) h.measures.classes)))

one_by : (sharing : Sharing) (q : LabelledProgram) (l : Label) (t : ℕ) (ss : List StartValue) (a b : AuditReport) (x y : List ℕ) → SameReport a b
    → TellsBy sharing q l t ss a x → TellsBy sharing q l t ss b y → x ≡ y
one_by Partitioned q l t ss a b x y same h k = one_counts q l t ss a b x y (same_lines q.program.order l t a b same) h k
one_by Shared q l t ss a b x y same h k = h ∙ same_shown q.program.order l t a b same ∙ sym k

one_bound : (e : Environment) (t : ℕ) (q : LabelledProgram) (o : Option Label) (ss : List StartValue) (s u : Status) (x y : List ℕ) → HasBound e t q o ss s x
    → HasBound e t q o ss u y → Same s u x y
one_bound e t q None ss s u x y h k = absurd h
one_bound e t q (Some l) ss s u x y (inl h) (inl k) = one_audit_stop e t q l ss s u x y h k
one_bound e t q (Some l) ss s u x y (inl h) (inr k) = let a = audit_stops e t q l ss s x h in absurd (a.none (not_fault e q l.number t ss k.0 a.fault k.1 a.is))
one_bound e t q (Some l) ss s u x y (inr h) (inl k) = let a = audit_stops e t q l ss u y k in absurd (a.none (not_fault e q l.number t ss h.0 a.fault h.1 a.is))
one_bound e t q (Some l) ss s u x y (inr h) (inr k) =
    let same = same_report e q l.number t ss h.0 k.0 h.1 k.1 in
    let told = one_by (hardware_of e).sharing q l t ss h.0 k.0 h.2.1 k.2.1 same h.2.2 k.2.2 in (
      h.2.0 ∙ sym k.2.0,
      h.2.3 ∙ ap (λ z. machine_head e ++ z) told ∙ sym k.2.3,
    )

pub bound_once : HasOneBound
bound_once content before now file starts observer e t s u x y known known_starts one other h k =
    let rises = λ (name : List ℕ). Rose (before name) (now name) in
    prepares_one s u x y rises content file observer (rises starts) (content starts) (bound_next e t) one known other known_starts
    (λ p q o code ss. one_bound e t q o ss s u x y) h k
