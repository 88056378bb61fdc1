-- A start file gives one thing.
use Rattle.std.proofs.Common.{◌≡◌, ◌∙◌, sym, ap, subst, ℕ, List, Option, Result, Ok, Err, inl, inr}
use Rattle.tim_base.specs.Told.{IsTooLong}
use Rattle.mit_syntax.specs.Program.{Syntax}
use Rattle.start_file.specs.declared.fault.StartFault.TheVariants as start
use Rattle.start_file.specs.Starts.{StartValue}
use Rattle.start_file.specs.Shared.{GivesList}
use Rattle.start_file.proofs.OneAnswer.{one_list_answer}
use Rattle.space_file.specs.declared.fault.SpaceFault.{SpaceFault}
use Rattle.space_file.specs.Files.{GivesSpace}
use Rattle.space_file.proofs.OneSpace.{one_space_answer}
use Rattle.space_starts.specs.Space.{SpaceValue}
use Rattle.tool_texts.specs.declared.status.Status.{Status}
use Rattle.tool_texts.specs.declared.status.Status.TheVariants as status
use Rattle.tool_texts.specs.Texts.{start_fault_line, starts}
use Rattle.tool_stages.specs.Content.{IsKnown}
use Rattle.tool_stages.proofs.GoesLemmas.{one_told, not_long}
use Rattle.tool_stages.proofs.OneLemmas.{Same}
use Rattle.tool_stages.proofs.StageStops.{FileBreaks, file_goes}
use Rattle.space_stage.specs.Given.{ListIs, IsReadAs, SpaceIs, HasListFault, GivenStops, GivenValue, GivenIs}
use Rattle.space_stage.specs.Lines.{space_fault_line}
use Rattle.space_stage.proofs.Stops.{Faulty, given_breaks}

module _ (c : Option (Option (List ℕ))) (known : IsKnown c) (p : Syntax) where
  -- what is read as a space is one thing
  one_read : (r s : Result SpaceValue SpaceFault) → IsReadAs c p r → IsReadAs c p s → r ≡ s
  one_read r s g h =
      let bytes : g.bytes ≡ h.bytes = one_told c g.bytes h.bytes known g.are h.are in
      one_space_answer p h.bytes r s (subst (λ (z : List ℕ). GivesSpace p z r) bytes g.gives) h.gives

  -- and no list
  no_list : (r : Result SpaceValue SpaceFault) (ss : List StartValue) → IsReadAs c p r → ListIs c p ss → ⊥
  no_list r ss g h =
      let bytes : g.bytes ≡ h.0 = one_told c g.bytes h.0 known g.are h.1 in
      let same : Err start.Version ≡ Ok ss =
      one_list_answer p h.0 (Err start.Version) (Ok ss) (subst (λ (z : List ℕ). GivesList p z (Err start.Version)) bytes g.version) h.3 in
      absurd cc

  no_list_fault : (r : Result SpaceValue SpaceFault) (t : List ℕ) → IsReadAs c p r → HasListFault c p t → ⊥
  no_list_fault r t g h =
      let bytes : g.bytes ≡ h.bytes = one_told c g.bytes h.bytes known g.are h.are in
      let same : Err start.Version ≡ Err h.fault =
      one_list_answer p h.bytes (Err start.Version) (Err h.fault) (subst (λ (z : List ℕ). GivesList p z (Err start.Version)) bytes g.version) h.is in
      let fault : h.fault ≡ start.Version = cc in
      h.version fault

  list_or_fault : (ss : List StartValue) (t : List ℕ) → ListIs c p ss → HasListFault c p t → ⊥
  list_or_fault ss t g h =
      let bytes : g.0 ≡ h.bytes = one_told c g.0 h.bytes known g.1 h.are in
      let same : Ok ss ≡ Err h.fault =
      one_list_answer p h.bytes (Ok ss) (Err h.fault) (subst (λ (z : List ℕ). GivesList p z (Ok ss)) bytes g.3) h.is in
      absurd cc

  one_list_fault : (t x : List ℕ) → HasListFault c p t → HasListFault c p x → t ≡ x
  one_list_fault t x f g =
      let bytes : f.bytes ≡ g.bytes = one_told c f.bytes g.bytes known f.are g.are in
      let same : Err f.fault ≡ Err g.fault =
      one_list_answer p g.bytes (Err f.fault) (Err g.fault) (subst (λ (z : List ℕ). GivesList p z (Err f.fault)) bytes f.is) g.is in
      let fault : f.fault ≡ g.fault = cc in
      f.line ∙ ap start_fault_line fault ∙ sym g.line

  one_fault : (t x : List ℕ) → Faulty c p t → Faulty c p x → t ≡ x
  one_fault t x (inl f) (inl g) = one_list_fault t x f g
  one_fault t x (inl f) (inr g) = absurd (no_list_fault (Err g.0) t g.2 f)
  one_fault t x (inr f) (inl g) = absurd (no_list_fault (Err f.0) x f.2 g)
  one_fault t x (inr f) (inr g) =
      let same = one_read (Err f.0) (Err g.0) f.2 g.2 in
      let fault : f.0 ≡ g.0 = cc in
      f.3 ∙ ap space_fault_line fault ∙ sym g.3

  fault_not_long : (t : List ℕ) → Faulty c p t → IsTooLong c → ⊥
  fault_not_long t (inl f) l = not_long c f.bytes known f.are f.short l
  fault_not_long t (inr f) l = not_long c f.2.bytes known f.2.are f.2.short l

  by_stop : (R : Type 0) (s u : Status) (t x : List ℕ) → (R → ⊥) → FileBreaks R starts c (Faulty c p) status.Starts s t
      → FileBreaks R starts c (Faulty c p) status.Starts u x → Same s u t x
  by_stop R s u t x n (inl h) k = absurd (n h.1)
  by_stop R s u t x n (inr h) (inl k) = absurd (n k.1)
  by_stop R s u t x n (inr (inl h)) (inr (inl k)) = (h.0 ∙ sym k.0, h.2 ∙ sym k.2)
  by_stop R s u t x n (inr (inl h)) (inr (inr k)) = absurd (fault_not_long x k.1 h.1)
  by_stop R s u t x n (inr (inr h)) (inr (inl k)) = absurd (fault_not_long t h.1 k.1)
  by_stop R s u t x n (inr (inr h)) (inr (inr k)) = (h.0 ∙ sym k.0, one_fault t x h.1 k.1)

  pub one_given_stop : (R : Type 0) (s u : Status) (t x : List ℕ) → (R → ⊥) → GivenStops R c p s t → GivenStops R c p u x → Same s u t x
  one_given_stop R s u t x n h k = by_stop R s u t x n (given_breaks R c p s t h) (given_breaks R c p u x k)

  one_space : (r s : SpaceValue) → SpaceIs c p r → SpaceIs c p s → r ≡ s
  one_space r s g h = let same = one_read (Ok r) (Ok s) g h in cc

  no_fault_of : (z : GivenValue) (t : List ℕ) → GivenIs c p z → Faulty c p t → ⊥
  no_fault_of (inl ss) t g (inl h) = list_or_fault ss t g h
  no_fault_of (inl ss) t g (inr h) = no_list (Err h.0) ss h.2 g
  no_fault_of (inr s) t g (inl h) = no_list_fault (Ok s) t g h
  no_fault_of (inr s) t g (inr h) = let same : Ok s ≡ Err h.0 = one_read (Ok s) (Err h.0) g h.2 in absurd cc

  given_not_long : (z : GivenValue) → GivenIs c p z → IsTooLong c → ⊥
  given_not_long (inl ss) g = not_long c g.0 known g.1 g.2
  given_not_long (inr s) g = not_long c g.bytes known g.are g.short

  one_list : (ss rs : List StartValue) → ListIs c p ss → ListIs c p rs → ss ≡ rs
  one_list ss rs g h =
      let bytes : g.0 ≡ h.0 = one_told c g.0 h.0 known g.1 h.1 in
      let same : Ok ss ≡ Ok rs = one_list_answer p h.0 (Ok ss) (Ok rs) (subst (λ (z : List ℕ). GivesList p z (Ok ss)) bytes g.3) h.3 in
      cc

  -- what is given is one thing
  pub one_given : (a b : GivenValue) → GivenIs c p a → GivenIs c p b → a ≡ b
  one_given (inl ss) (inl rs) g h = ap (λ (z : List StartValue). inl z) (one_list ss rs g h)
  one_given (inl ss) (inr s) g h = absurd (no_list (Ok s) ss h g)
  one_given (inr s) (inl ss) g h = absurd (no_list (Ok s) ss g h)
  one_given (inr r) (inr s) g h = ap (λ (z : SpaceValue). inr z) (one_space r s g h)

  -- where something is given, nothing stops
  pub given_or_stop : (R : Type 0) (z : GivenValue) (s : Status) (t : List ℕ) → (R → ⊥) → GivenIs c p z → GivenStops R c p s t → ⊥
  given_or_stop R z s t n g h =
      file_goes R starts c (Faulty c p) status.Starts s t n (given_not_long z g) (no_fault_of z t g) (given_breaks R c p s t h)
