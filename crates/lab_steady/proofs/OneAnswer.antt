-- One answer at most, and how a call can end.
use Rattle.std.proofs.Common.{◌≡◌, ◌⊎◌, ℕ, List, Bool, Option, Some, None, refl, sym, ap, subst, ◌∙◌, inl, inr}
use Rattle.std.proofs.lemmas.Option.{none-some, same_Some}
use Rattle.label_lattice.specs.declared.label.Label.{Label}
use Rattle.label_lattice.specs.Order.{Order, IsOrder}
use Rattle.mit_syntax.specs.declared.token.Token.{Token}
use Rattle.mit_syntax.specs.Program.{Syntax}
use Rattle.mit_syntax.proofs.OneList.{one_list}
use Rattle.timing_types.specs.Labelled.{LabelledProgram}
use Rattle.label_infer.proofs.OneLeast.{one_labelled}
use Rattle.parse_laws.proofs.Meant.{program_order}
use Rattle.steady_code.specs.declared.costing.Costing.{Costing}
use Rattle.steady_code.specs.declared.fault.Fault.{Fault}
use Rattle.flow_path.specs.declared.step.Spot.TheVariants.{Variable}
use Rattle.flow_path.specs.Steps.{written}
use Rattle.flow_print.specs.Lines.{variable_text}
use Rattle.tool_texts.specs.declared.status.Status.{Status}
use Rattle.tool_texts.specs.declared.status.Status.TheVariants as status
use Rattle.tool_stages.specs.Stages.{Then, Reads, ProgramStops, HasImage, ImageStops}
use Rattle.tool_stages.specs.Content.{Content, IsKnown}
use Rattle.tool_stages.proofs.OneFirst.{one_observer}
use Rattle.tool_stages.proofs.OneLemmas.{Same, then_one, one_program, one_image_stop, image_or_not}
use Rattle.tool_stages.proofs.GoesLemmas.{one_told, program_goes, image_goes}
use Rattle.tool_stages.proofs.ChainLemmas.{reads_one}
use Rattle.lab_runs.specs.Labels.{UnnamedStops, observer_option}
use Rattle.lab_runs.proofs.NameLemmas.{one_unnamed_stop, unnamed_goes}
use Rattle.lab_why.proofs.OneOrigins.{one_text}
use Rattle.lab_steady.specs.Judged.{IsJudged, told, top_of}
use Rattle.lab_steady.specs.Blame.{blamed_of}
use Rattle.lab_steady.specs.Text.{no_text}
use Rattle.lab_steady.specs.Why.{TellsVariable, TellsBlamed, TellsNo}
use Rattle.lab_steady.specs.Constant.{CostingStops, costing_of, no_operator}
use Rattle.lab_steady.specs.Answer.{Names, Infers, IsYes, IsNo, IsAnswered, parts_option, OfProgram, Steadies, SteadiesBy}
use Rattle.lab_steady.specs.Complete.{CanJudge, SteadyGoes}
use Rattle.lab_steady.proofs.OneJudged.{one_judged}
use Rattle.lab_steady.proofs.Nos.{TellsBy}

module _ (costing : Costing) where
  -- a yes or a no
  pub answers : (text : List ℕ) (q : LabelledProgram) (o h : ℕ) (whole : Bool) (s : Status) (t : List ℕ) → IsAnswered costing text q o h whole s t
      → ((s ≡ status.Done) × IsYes costing q o h whole t) ⊎ ((s ≡ status.Refused) × IsNo costing text q o h whole t)
  answers text q o h whole status.Done t x = inl (refl, x)
  answers text q o h whole status.Refused t x = inr (refl, x)
  answers text q o h whole status.Syntax t x = absurd x
  answers text q o h whole status.Starts t x = absurd x
  answers text q o h whole status.Usage t x = absurd x
  answers text q o h whole status.ReadFault t x = absurd x
  answers text q o h whole status.WriteFault t x = absurd x
  answers text q o h whole status.TooLong t x = absurd x
  answers text q o h whole status.Budget t x = absurd x
  answers text q o h whole status.Disagree t x = absurd x
  answers text q o h whole status.Unfinished t x = absurd x
  answers text q o h whole status.Memory t x = absurd x
  answers text q o h whole status.Rejected t x = absurd x

  -- what is told of a variable is one
  one_variable : (text : List ℕ) (tokens : List Token) (q : LabelledProgram) (x : ℕ) (t u : List ℕ) → TellsVariable text tokens q x t
      → TellsVariable text tokens q x u → t ≡ u
  one_variable text tokens q x t u = go (written q.program (Variable x))
    where
      go : (z : Option ℕ) → TellsBy text tokens q x t z → TellsBy text tokens q x u z → t ≡ u
      go None h k = one_text text tokens q (variable_text q.program x) (Variable x) t u h k
      go (Some a) h k = h ∙ sym k

  one_blamed : (text : List ℕ) (tokens : List Token) (q : LabelledProgram) (v : Option ℕ) (t u : List ℕ) → TellsBlamed text tokens q v t
      → TellsBlamed text tokens q v u → t ≡ u
  one_blamed text tokens q None t u h k = h ∙ sym k
  one_blamed text tokens q (Some x) t u h k = one_variable text tokens q x t u h k

  one_told_no : (text : List ℕ) (tokens : List Token) (q : LabelledProgram) (o h : ℕ) (f : Fault) (t u : List ℕ) → TellsNo costing text tokens q o h f t
      → TellsNo costing text tokens q o h f u → t ≡ u
  one_told_no text tokens q o h f t u a b =
      a.2 ∙ ap (λ (z : List ℕ). no_text costing q o h tokens z f) (one_blamed text tokens q (blamed_of q o f) a.0 b.0 a.1 b.1) ∙ sym b.2

  one_no : (text : List ℕ) (q : LabelledProgram) (o h : ℕ) (whole : Bool) (t x : List ℕ) → IsNo costing text q o h whole t
      → IsNo costing text q o h whole x → t ≡ x
  one_no text q o h whole t x a b =
      let first : a.first ≡ b.first = same_Some a.first b.first (one_judged costing q o h whole (Some a.first) (Some b.first) a.is_first b.is_first) in
      let plain : a.plain ≡ b.plain = one_judged costing q o (top_of q.program.order) whole a.plain b.plain a.is_plain b.is_plain in
      let fault : told q a.first a.plain ≡ told q b.first b.plain =
      ap (λ (z : Fault). told q z a.plain) first ∙ ap (λ (z : Option Fault). told q b.first z) plain in
      let tokens : a.tokens ≡ b.tokens = one_list text a.tokens b.tokens a.cut b.cut in
      one_told_no text b.tokens q o h (told q b.first b.plain) t x
      (subst (λ (z : Fault). TellsNo costing text b.tokens q o h z t) fault
      (subst (λ (z : List Token). TellsNo costing text z q o h (told q a.first a.plain) t) tokens a.tells))
      b.tells

  yes_or_no : (text : List ℕ) (q : LabelledProgram) (o h : ℕ) (whole : Bool) (t x : List ℕ) → IsYes costing q o h whole t
      → IsNo costing text q o h whole x → ⊥
  yes_or_no text q o h whole t x y n = none-some n.first (one_judged costing q o h whole None (Some n.first) y.0 n.is_first)

  answered_one : (text : List ℕ) (q : LabelledProgram) (o h : ℕ) (whole : Bool) (s u : Status) (t x : List ℕ) → IsAnswered costing text q o h whole s t
      → IsAnswered costing text q o h whole u x → Same s u t x
  answered_one text q o h whole s u t x a b = go (answers text q o h whole s t a) (answers text q o h whole u x b)
    where
      go : ((s ≡ status.Done) × IsYes costing q o h whole t) ⊎ ((s ≡ status.Refused) × IsNo costing text q o h whole t)
          → ((u ≡ status.Done) × IsYes costing q o h whole x) ⊎ ((u ≡ status.Refused) × IsNo costing text q o h whole x) → Same s u t x
      go (inl y) (inl z) = (y.0 ∙ sym z.0, y.1.1 ∙ sym z.1.1)
      go (inl y) (inr z) = absurd (yes_or_no text q o h whole t x y.1 z.1)
      go (inr y) (inl z) = absurd (yes_or_no text q o h whole x t z.1 y.1)
      go (inr y) (inr z) = (y.0 ∙ sym z.0, one_no text q o h whole t x y.1 z.1)

  -- one label has a name
  pub one_name : (o : Order) (w : List ℕ) (a b : Label) → IsOrder o → Names o w a → Names o w b → a ≡ b
  one_name o w a b order h k = same_Some a b (one_observer o (Some w) (Some a) (Some b) order h k)

  pub one_inferred : (p : Syntax) (a b : LabelledProgram) → IsOrder p.order → Infers p a → Infers p b → a ≡ b
  one_inferred p a b o h k = one_labelled p o a b h.program k.program h.least k.least

  module _ (observer parts : List ℕ) (whole : Bool) where
    abbrev Rest : List ℕ → Syntax → Label → Label → Status → List ℕ → Type 0
    Rest text p o h s t =
        (q : LabelledProgram) × Infers p q × Then (ImageStops q) (HasImage q) (λ code. IsAnswered costing text q o.number h.number whole) s t

    rest_one : (text : List ℕ) (p : Syntax) (o h : Label) (s u : Status) (t x : List ℕ) → IsOrder p.order → Rest text p o h s t → Rest text p o h u x
        → Same s u t x
    rest_one text p o h s u t x order a b =
        let q : b.0 ≡ a.0 = one_inferred p b.0 a.0 order b.1 a.1 in
        then_one (ImageStops a.0) (HasImage a.0) (λ code. IsAnswered costing text a.0 o.number h.number whole) s u t x
        (one_image_stop a.0 s u t x) (λ code v y. image_or_not a.0 code v y) (λ c d e f. e.0 ∙ sym f.0)
        (λ code image. answered_one text a.0 o.number h.number whole s u t x) a.2
        (subst (λ (z : LabelledProgram). Then (ImageStops z) (HasImage z) (λ code. IsAnswered costing text z o.number h.number whole) u x) q b.2)

    program_one : (text : List ℕ) (p : Syntax) (s u : Status) (t x : List ℕ) → IsOrder p.order → OfProgram costing text p observer parts whole s t
        → OfProgram costing text p observer parts whole u x → Same s u t x
    program_one text p s u t x order =
        then_one (UnnamedStops observer_option p.order (Some observer)) (Names p.order observer)
        (λ o. Then (UnnamedStops parts_option p.order (Some parts)) (Names p.order parts) (λ h. Rest text p o h)) s u t x
        (one_unnamed_stop observer_option p.order (Some observer) s u t x) (λ o v y. unnamed_goes observer_option p.order (Some observer) (Some o) v y)
        (λ a b. one_name p.order observer a b order) (λ o names.
        then_one (UnnamedStops parts_option p.order (Some parts)) (Names p.order parts) (λ h. Rest text p o h) s u t x
        (one_unnamed_stop parts_option p.order (Some parts) s u t x) (λ h v y. unnamed_goes parts_option p.order (Some parts) (Some h) v y)
        (λ a b. one_name p.order parts a b order) (λ h names. rest_one text p o h s u t x order))

  module _ (file observer parts : List ℕ) (whole : Bool) where
    -- the program of a file, whose text is one
    abbrev Sourced : Content → Syntax → Status → List ℕ → Type 0
    Sourced content p s t = (source : Reads (content file) p) × OfProgram costing source.bytes p observer parts whole s t

    sourced_one : (content : Content) (p : Syntax) (s u : Status) (t x : List ℕ) → IsKnown (content file) → IsOrder p.order → Sourced content p s t
        → Sourced content p u x → Same s u t x
    sourced_one content p s u t x known order a b =
        let same : b.0.bytes ≡ a.0.bytes = one_told (content file) b.0.bytes a.0.bytes known b.0.are a.0.are in
        program_one observer parts whole a.0.bytes p s u t x order a.1 (subst (λ (z : List ℕ). OfProgram costing z p observer parts whole u x) same b.1)

    steadies_one : (Rises : List ℕ → Type 0) (content : Content) (s u : Status) (t x : List ℕ) → (Rises file → ⊥) → IsKnown (content file)
        → Steadies costing Rises content file observer parts whole s t → Steadies costing Rises content file observer parts whole u x → Same s u t x
    steadies_one Rises content s u t x n known =
        reads_one s u t x (Rises file) (content file) (Sourced content) n known (λ p order. sourced_one content p s u t x known order)

  -- ---- how a call can end

  -- a stage that does not stop and gives one value at most, and then ends
  then_ends : {A : Type 0} (Stops : Status → List ℕ → Type 0) (Gives : A → Type 0) (Next : A → Status → List ℕ → Type 0) (s e : Status) (t : List ℕ)
      (a : A) → Gives a → ((a b : A) → Gives a → Gives b → a ≡ b) → (Stops s t → ⊥) → (Next a s t → s ≡ e) → Then Stops Gives Next s t → s ≡ e
  then_ends Stops Gives Next s e t a given one f g (inl h) = absurd (f h)
  then_ends Stops Gives Next s e t a given one f g (inr h) =
      let same : h.0 ≡ a = one h.0 a h.1 given in
      g (subst (λ z. Next z s t) same h.2)

  judged_ends : (Rises : List ℕ → Type 0) (content : Content) (file observer parts : List ℕ) (whole : Bool) (s e : Status) (t : List ℕ)
      → (Rises file → ⊥) → IsKnown (content file) → (can : CanJudge (content file) observer parts)
      → ((text : List ℕ) → IsAnswered costing text can.labelled can.o.number can.h.number whole s t → s ≡ e)
      → Steadies costing Rises content file observer parts whole s t → s ≡ e
  judged_ends Rises content file observer parts whole s e t n known can f =
      let p : Syntax = can.program in
      let order : IsOrder p.order = program_order _ p can.reads.spelled in
      then_ends (ProgramStops (Rises file) (content file)) (Reads (content file)) (Sourced file observer parts whole content) s e t
      p can.reads (one_program (content file) known) (program_goes (Rises file) (content file) p s t n known can.reads)
      (λ k. then_ends (UnnamedStops observer_option p.order (Some observer)) (Names p.order observer)
      (λ o. Then (UnnamedStops parts_option p.order (Some parts)) (Names p.order parts) (λ h. Rest observer parts whole k.0.bytes p o h)) s e t
      can.o can.names_observer (λ a b. one_name p.order observer a b order)
      (unnamed_goes observer_option p.order (Some observer) (Some can.o) s t can.names_observer)
      (then_ends (UnnamedStops parts_option p.order (Some parts)) (Names p.order parts) (λ h. Rest observer parts whole k.0.bytes p can.o h) s e t
      can.h can.names_parts (λ a b. one_name p.order parts a b order) (unnamed_goes parts_option p.order (Some parts) (Some can.h) s t can.names_parts)
      (λ r. rest k.0.bytes r)) k.1)
    where
      rest : (text : List ℕ) → Rest observer parts whole text can.program can.o can.h s t → s ≡ e
      rest text r =
          let order : IsOrder can.program.order = program_order _ can.program can.reads.spelled in
          let q : r.0 ≡ can.labelled = one_inferred can.program r.0 can.labelled order r.1 can.infers in
          go (subst (λ (z : LabelledProgram). Then (ImageStops z) (HasImage z) (λ code. IsAnswered costing text z can.o.number can.h.number whole) s t) q r.2)
        where
          go : Then (ImageStops can.labelled) (HasImage can.labelled) (λ code. IsAnswered costing text can.labelled can.o.number can.h.number whole) s t → s ≡ e
          go (inl stop) = absurd (image_goes can.labelled s t can.short stop)
          go (inr h) = f text h.2

  yes_ends : (text : List ℕ) (q : LabelledProgram) (o h : ℕ) (whole : Bool) (s : Status) (t : List ℕ) → IsJudged costing q o h whole None
      → IsAnswered costing text q o h whole s t → s ≡ status.Done
  yes_ends text q o h whole s t j a = go (answers text q o h whole s t a)
    where
      go : ((s ≡ status.Done) × IsYes costing q o h whole t) ⊎ ((s ≡ status.Refused) × IsNo costing text q o h whole t) → s ≡ status.Done
      go (inl y) = y.0
      go (inr n) = absurd (none-some n.1.first (one_judged costing q o h whole None (Some n.1.first) j n.1.is_first))

  no_ends : (text : List ℕ) (q : LabelledProgram) (o h : ℕ) (whole : Bool) (s : Status) (t : List ℕ) → (IsJudged costing q o h whole None → ⊥)
      → IsAnswered costing text q o h whole s t → s ≡ status.Refused
  no_ends text q o h whole s t j a = go (answers text q o h whole s t a)
    where
      go : ((s ≡ status.Done) × IsYes costing q o h whole t) ⊎ ((s ≡ status.Refused) × IsNo costing text q o h whole t) → s ≡ status.Refused
      go (inl y) = absurd (j y.1.0)
      go (inr n) = n.0

-- ---- by the costs for which a word asks

costing_stops : (w : Option (List ℕ)) (s : Status) (t : List ℕ) → CostingStops w s t → (s ≡ status.Usage) × (costing_of w ≡ None) × (t ≡ no_operator)
costing_stops w status.Usage t h = (refl, h.0, h.1)
costing_stops w status.Done t h = absurd h
costing_stops w status.Refused t h = absurd h
costing_stops w status.Syntax t h = absurd h
costing_stops w status.Starts t h = absurd h
costing_stops w status.ReadFault t h = absurd h
costing_stops w status.WriteFault t h = absurd h
costing_stops w status.TooLong t h = absurd h
costing_stops w status.Budget t h = absurd h
costing_stops w status.Disagree t h = absurd h
costing_stops w status.Unfinished t h = absurd h
costing_stops w status.Memory t h = absurd h
costing_stops w status.Rejected t h = absurd h

one_costing_stop : (w : Option (List ℕ)) (s u : Status) (t x : List ℕ) → CostingStops w s t → CostingStops w u x → Same s u t x
one_costing_stop w s u t x h k =
    let a = costing_stops w s t h in
    let b = costing_stops w u x k in
    (a.0 ∙ sym b.0, a.2 ∙ sym b.2)

costing_goes : (w : Option (List ℕ)) (c : Costing) (s : Status) (t : List ℕ) → costing_of w ≡ Some c → CostingStops w s t → ⊥
costing_goes w c s t e h = none-some c (sym (costing_stops w s t h).1 ∙ e)

one_costing : (w : Option (List ℕ)) (a b : Costing) → costing_of w ≡ Some a → costing_of w ≡ Some b → a ≡ b
one_costing w a b e f = same_Some a b (sym e ∙ f)

module _ (constant : Option (List ℕ)) (file observer parts : List ℕ) (whole : Bool) where
  pub one_in : (Rises : List ℕ → Type 0) (content : Content) (s u : Status) (t x : List ℕ) → (Rises file → ⊥) → IsKnown (content file)
      → SteadiesBy constant Rises content file observer parts whole s t → SteadiesBy constant Rises content file observer parts whole u x → Same s u t x
  one_in Rises content s u t x n known =
      then_one (CostingStops constant) (λ c. costing_of constant ≡ Some c) (λ c. Steadies c Rises content file observer parts whole) s u t x
      (one_costing_stop constant s u t x) (λ c v y. costing_goes constant c v y) (one_costing constant)
      (λ c is. steadies_one c file observer parts whole Rises content s u t x n known)

pub steady_ends : (constant : Option (List ℕ)) (Rises : List ℕ → Type 0) (content : Content) (file observer parts : List ℕ) (whole : Bool) (s e : Status)
    (t : List ℕ) → (Rises file → ⊥) → IsKnown (content file) → SteadyGoes constant (content file) observer parts whole e
    → SteadiesBy constant Rises content file observer parts whole s t → s ≡ e
steady_ends constant Rises content file observer parts whole s status.Done t n known goes h =
    then_ends goes.0 (CostingStops constant) (λ c. costing_of constant ≡ Some c) (λ c. Steadies c Rises content file observer parts whole) s status.Done t
    goes.0 goes.1 (one_costing constant) (costing_goes constant goes.0 s t goes.1)
    (judged_ends goes.0 Rises content file observer parts whole s status.Done t n known goes.2
    (λ text. yes_ends goes.0 text goes.2.labelled goes.2.o.number goes.2.h.number whole s t goes.3)) h
steady_ends constant Rises content file observer parts whole s status.Refused t n known goes h =
    then_ends goes.0 (CostingStops constant) (λ c. costing_of constant ≡ Some c) (λ c. Steadies c Rises content file observer parts whole) s status.Refused t
    goes.0 goes.1 (one_costing constant) (costing_goes constant goes.0 s t goes.1)
    (judged_ends goes.0 Rises content file observer parts whole s status.Refused t n known goes.2
    (λ text. no_ends goes.0 text goes.2.labelled goes.2.o.number goes.2.h.number whole s t goes.3)) h
steady_ends constant Rises content file observer parts whole s status.Syntax t n known goes h = absurd goes
steady_ends constant Rises content file observer parts whole s status.Starts t n known goes h = absurd goes
steady_ends constant Rises content file observer parts whole s status.Usage t n known goes h = absurd goes
steady_ends constant Rises content file observer parts whole s status.ReadFault t n known goes h = absurd goes
steady_ends constant Rises content file observer parts whole s status.WriteFault t n known goes h = absurd goes
steady_ends constant Rises content file observer parts whole s status.TooLong t n known goes h = absurd goes
steady_ends constant Rises content file observer parts whole s status.Budget t n known goes h = absurd goes
steady_ends constant Rises content file observer parts whole s status.Disagree t n known goes h = absurd goes
steady_ends constant Rises content file observer parts whole s status.Unfinished t n known goes h = absurd goes
steady_ends constant Rises content file observer parts whole s status.Memory t n known goes h = absurd goes
steady_ends constant Rises content file observer parts whole s status.Rejected t n known goes h = absurd goes
