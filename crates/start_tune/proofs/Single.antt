-- There is one list of best choices.
use Rattle.std.proofs.Common.{◌≡◌, ◌<◌, ℕ, zero, suc, List, [], ◌∷◌, length, get_or, refl, sym, ap, ◌∙◌, subst, arith}
use Rattle.std.specs.Prelude.{ℤ, Bool, pos}
use Rattle.std.specs.List.{AllZip, IsAmong}
use Rattle.label_lattice.specs.Order.{Order}
use Rattle.env_contract.specs.declared.place.Touch.{Touch}
use Rattle.env_contract.specs.Env.{Env}
use Rattle.label_code.specs.Machine.{Machine, start}
use Rattle.label_code.specs.Shaped.{Code}
use Rattle.start_file.specs.Starts.{StartValue}
use Rattle.first_replay.specs.Replay.{Entry, Timed}
use Rattle.run_entries.specs.Entries.{pushed_by, with_number}
use Rattle.run_entries.specs.Told.{every, is_marked, replayed, told}
use Rattle.entry_run.proofs.Settled.{not_both, one_end, one_told}
use Rattle.first_front.specs.declared.class.Varied.{Varied}
use Rattle.first_front.specs.Told.{with_first}
use Rattle.first_front.proofs.Alike.{AreAlike, one_front_alike, not_too_long}
use Rattle.first_image.proofs.Placing.{one_place}
use Rattle.entry_classes.proofs.Telling.{AreSame, classes_alike}
use Rattle.start_tune.specs.Runs.{IsRun, IsUnending, OneIsUnending, AreRunClasses, IsVaried, OneBest}

module _ {E : Type 0} (v : Env E) (made : Order → List Touch → E) (t : ℕ) (c : Code) (mark : ℕ) (marked : List Bool) where
  -- the same numbers are pushed by both
  same_first : (x y : Varied) → IsVaried c mark marked x → IsVaried c mark marked y → (n : ℕ) → with_first x n ≡ with_first y n
  same_first x y h k n =
      ap (λ z. with_number (pushed_by z) x.place (pos n)) (h.written ∙ sym k.written)
      ∙ ap (λ z. with_number (pushed_by y.written.now) z (pos n)) (one_place c.instrs mark x.place y.place h.place k.place)

  same_run : (x y : Varied) → IsVaried c mark marked x → IsVaried c mark marked y → (s : StartValue) (es fs : List Entry) →
      IsRun v made t c s es → IsRun v made t c s fs → AreSame x y es fs
  same_run x y h k s es fs a b =
      let from : Machine E = start s.memory (made c.order s.touches) in
      record {
        told = λ n. one_told v c.instrs t from es fs a b every (with_first x n) ∙ ap (λ f. told every f fs) (same_first x y h k n);
        shown = λ n.
            one_told v c.instrs t from es fs a b (is_marked x.relevant.now) (with_first x n)
            ∙ (ap (λ f. told (is_marked x.relevant.now) f fs) (same_first x y h k n)
            ∙ ap (λ z. told (is_marked z) (with_first y n) fs) (h.relevant ∙ sym k.relevant));
        end = λ n. ap (λ (z : Timed). z.clock) (one_end v c.instrs t from es fs a b (with_first x n) ∙ ap (λ f. replayed f fs) (same_first x y h k n));
      }

  same_runs : (x y : Varied) → IsVaried c mark marked x → IsVaried c mark marked y → (ss : List StartValue) (rs qs : List (List Entry)) →
      AllZip (IsRun v made t c) ss rs → AllZip (IsRun v made t c) ss qs → AllZip (AreSame x y) rs qs
  same_runs x y h k [] [] [] a b = tt
  same_runs x y h k [] [] (q ∷ qs) a b = absurd b
  same_runs x y h k [] (r ∷ rs) qs a b = absurd a
  same_runs x y h k (s ∷ ss) [] qs a b = absurd a
  same_runs x y h k (s ∷ ss) (r ∷ rs) [] a b = absurd b
  same_runs x y h k (s ∷ ss) (r ∷ rs) (q ∷ qs) a b = (same_run x y h k s r q a.0 b.0, same_runs x y h k ss rs qs a.1 b.1)

  -- the run from one of the starts
  run_there : (ss : List StartValue) (rs : List (List Entry)) (i : ℕ) (d : StartValue) → i < length ss → AllZip (IsRun v made t c) ss rs →
      (es : List Entry) × IsRun v made t c (get_or ss i d) es
  run_there [] rs i d l h = absurd (omega (arith, l))
  run_there (s ∷ ss) [] i d l h = absurd h
  run_there (s ∷ ss) (r ∷ rs) zero d l h = (r, h.0)
  run_there (s ∷ ss) (r ∷ rs) (suc i) d l h = run_there ss rs i d (omega (arith, l)) h.1

  ends : (ss : List StartValue) (rs : List (List Entry)) → AllZip (IsRun v made t c) ss rs → OneIsUnending v made t c ss → ⊥
  ends ss rs h k =
      let s : StartValue = k.0 in
      let r = run_there ss rs k.1.0 s k.1.1.0 h in
      let run : IsRun v made t c s r.0 = subst (λ z. IsRun v made t c z r.0) (sym k.1.1.1) r.1 in
      not_both v c.instrs t (start s.memory (made c.order s.touches)) r.0 run k.2

pub one_best : {E : Type 0} (v : Env E) (made : Order → List Touch → E) → OneBest v made
one_best v made t c mark marked ss is h = (
  λ js k.
      one_front_alike h.varied h.classes k.varied k.classes
      (classes_alike h.varied k.varied h.runs.runs k.runs.runs
      (same_runs v made t c mark marked h.varied k.varied h.at k.at ss h.runs.runs k.runs.runs h.runs.each k.runs.each)
      h.classes k.classes h.runs.classes k.runs.classes) t is js h.front k.front,
  ends v made t c mark marked ss h.runs.runs h.runs.each,
  λ k.
      not_too_long h.varied h.classes k.varied k.classes
      (classes_alike h.varied k.varied h.runs.runs k.runs.runs
      (same_runs v made t c mark marked h.varied k.varied h.at k.at ss h.runs.runs k.runs.runs h.runs.each k.runs.each)
      h.classes k.classes h.runs.classes k.runs.classes) t is h.front k.late,
)
