-- The best choices in two environments of which one does what the other does.
use Rattle.std.proofs.Common.{◌≡◌, ◌<◌, ◌⊎◌, ℕ, List, [], ◌∷◌, All, inl, inr, sym, subst}
use Rattle.std.specs.List.{AllZip}
use Rattle.std.proofs.lemmas.List.Elements.{All-head, All-tail}
use Rattle.label_lattice.specs.Order.{Order}
use Rattle.env_contract.specs.declared.place.Touch.{Touch}
use Rattle.env_contract.specs.Env.{Env}
use Rattle.env_contract.specs.Alike.{DoesAs}
use Rattle.label_code.specs.Shaped.{Code, IsShaped}
use Rattle.label_code.specs.Alike.{HasLabelsBelow}
use Rattle.start_file.specs.Starts.{StartValue}
use Rattle.first_replay.specs.Replay.{Entry}
use Rattle.first_front.specs.declared.class.Class.{Class}
use Rattle.first_image.proofs.Alike.{tells_alike, too_long_alike}
use Rattle.start_tune.specs.Runs.{Fits, IsRun, IsUnending, AreRunClasses}
use Rattle.start_tune.specs.Alike.{BestAreAlike}

module _ {E F : Type 0} (v : Env E) (made : Order → List Touch → E) (w : Order → Env F) (made' : Order → List Touch → F)
    (related : Order → E → F → Type 0) (does : (order : Order) → DoesAs v (w order) order.size (related order))
    (starts : (order : Order) (touches : List Touch) → All (λ t. t.label.number < order.size) touches
    → related order (made order touches) (made' order touches))
    (c : Code) (shaped : IsShaped c) (t : ℕ) where
  labels : HasLabelsBelow c.order.size c.instrs
  labels a i e = let fine = shaped.1.each a i e in (fine.er, fine.ew)

  run_alike : (s : StartValue) → Fits c s → (es : List Entry) → IsRun v made t c s es → IsRun (w c.order) made' t c s es
  run_alike s fits es h =
      tells_alike v (w c.order) c.order.size (related c.order) (does c.order) c.instrs labels t s.memory (made c.order s.touches) (made' c.order s.touches)
      es (starts c.order s.touches fits.touches) h

  unending_alike : (s : StartValue) → Fits c s → IsUnending v made t c s → IsUnending (w c.order) made' t c s
  unending_alike s fits h =
      too_long_alike v (w c.order) c.order.size (related c.order) (does c.order) c.instrs labels t s.memory (made c.order s.touches)
      (made' c.order s.touches) (starts c.order s.touches fits.touches) h

  each_alike : (ss : List StartValue) (runs : List (List Entry)) → All (Fits c) ss → AllZip (IsRun v made t c) ss runs
      → AllZip (IsRun (w c.order) made' t c) ss runs
  each_alike [] [] fits h = h
  each_alike [] (es ∷ runs) fits h = h
  each_alike (s ∷ ss) [] fits h = h
  each_alike (s ∷ ss) (es ∷ runs) fits h =
      (run_alike s (All-head (Fits c) s ss fits) es h.0, each_alike ss runs (All-tail (Fits c) s ss fits) h.1)

  classes_alike : (ss : List StartValue) (cs : List Class) → All (Fits c) ss → AreRunClasses v made t c ss cs → AreRunClasses (w c.order) made' t c ss cs
  classes_alike ss cs fits h = record { runs = h.runs; each = each_alike ss h.runs fits h.each; classes = h.classes }

module _ {E F : Type 0} (v : Env E) (made : Order → List Touch → E) (w : Order → Env F) (made' : Order → List Touch → F) where
  pub best_alike : (related : Order → E → F → Type 0) → ((order : Order) → DoesAs v (w order) order.size (related order))
      → ((order : Order) (touches : List Touch) → All (λ t. t.label.number < order.size) touches → related order (made order touches) (made' order touches))
      → BestAreAlike v made w made'
  best_alike related does starts = record {
    best = λ c shaped ss fits t mark marked is h. record {
      varied = h.varied;
      classes = h.classes;
      at = h.at;
      runs = classes_alike v made w made' related does starts c shaped t ss h.classes fits h.runs;
      front = h.front;
    };
    late = λ c shaped ss fits t mark marked h. record {
      varied = h.varied;
      classes = h.classes;
      at = h.at;
      runs = classes_alike v made w made' related does starts c shaped t ss h.classes fits h.runs;
      late = h.late;
    };
    unending = λ c shaped ss fits t h.
        let s = h.0 in
        (s, h.1, unending_alike v made w made' related does starts c shaped t s (subst (Fits c) (sym h.1.1.1) (fits h.1.0 s h.1.1.0)) h.2);
  }
