-- A file gives one list of starts, written out, and what stops that.
use Rattle.std.proofs.Common.{◌≡◌, ◌∙◌, sym, subst, arith, ℕ, List, Option, inl, inr}
use Rattle.mit_syntax.specs.Program.{Syntax}
use Rattle.start_file.specs.Starts.{StartValue}
use Rattle.tool_texts.specs.declared.status.Status.{Status}
use Rattle.tool_texts.specs.declared.status.Status.TheVariants as status
use Rattle.tool_stages.specs.Content.{IsKnown}
use Rattle.tool_stages.specs.Stages.{Then}
use Rattle.tool_stages.proofs.GoesLemmas.{then_goes_from}
use Rattle.tool_stages.proofs.OneLemmas.{Same, then_one}
use Rattle.space_stage.specs.Given.{GivenStops, GivenValue, GivenIs}
use Rattle.space_stage.specs.Listed.{WritesOut, LargeStops, IsListed, ListedStops}
use Rattle.space_stage.proofs.Once.{one_given, one_given_stop, given_or_stop}
use Rattle.space_stage.proofs.Stops.{given_rise}

one_written : (g : GivenValue) (a b : List StartValue) → WritesOut g a → WritesOut g b → a ≡ b
one_written (inl rs) a b h k = h ∙ sym k
one_written (inr s) a b h k = h.1 ∙ sym k.1

one_large : (g : GivenValue) (s u : Status) (t x : List ℕ) → LargeStops g s t → LargeStops g u x → Same s u t x
one_large (inl rs) s u t x h k = absurd h
one_large (inr r) s u t x h k = (h.0 ∙ sym k.0, h.2 ∙ sym k.2)

small_or_large : (g : GivenValue) (ss : List StartValue) (s : Status) (t : List ℕ) → WritesOut g ss → LargeStops g s t → ⊥
small_or_large (inl rs) ss s t h k = k
small_or_large (inr r) ss s t h k =
    let few = h.0 in
    let many = k.1 in
    absurd (omega (arith, few, many))

module _ (c : Option (Option (List ℕ))) (known : IsKnown c) (p : Syntax) where
  pub one_list : (a b : List StartValue) → IsListed c p a → IsListed c p b → a ≡ b
  one_list a b h k =
      let same : h.0 ≡ k.0 = one_given c known p h.0 k.0 h.1 k.1 in
      one_written k.0 a b (subst (λ (z : GivenValue). WritesOut z a) same h.2) k.2

  -- where a list is given, nothing stops
  pub listed_go : (R : Type 0) (ss : List StartValue) (s : Status) (t : List ℕ) → (R → ⊥) → IsListed c p ss → ListedStops R c p s t → ⊥
  listed_go R ss s t n h (inl k) = given_or_stop c known p R h.0 s t n h.1 k
  listed_go R ss s t n h (inr k) =
      let same : k.0 ≡ h.0 = one_given c known p k.0 h.0 k.1 h.1 in
      small_or_large h.0 ss s t h.2 (subst (λ (z : GivenValue). LargeStops z s t) same k.2)

  pub one_listed_stop : (R : Type 0) (s u : Status) (t x : List ℕ) → (R → ⊥) → ListedStops R c p s t → ListedStops R c p u x → Same s u t x
  one_listed_stop R s u t x n =
      then_one (GivenStops R c p) (GivenIs c p) (λ g. LargeStops g) s u t x (one_given_stop c known p R s u t x n)
      (λ g v y is. given_or_stop c known p R g v y n is) (one_given c known p) (λ g is. one_large g s u t x)

  -- a list that is given goes on
  pub listed_done : (s : Status) (t : List ℕ) (R : Type 0) (Next : List StartValue → Status → List ℕ → Type 0) (ss : List StartValue)
      → (R → ⊥) → IsListed c p ss → (Next ss s t → s ≡ status.Done) → Then (ListedStops R c p) (IsListed c p) (λ ss. Next ss) s t → s ≡ status.Done
  listed_done s t R Next ss n are =
      then_goes_from (ListedStops R c p) (IsListed c p) (λ ss. Next ss) s t ss are one_list (listed_go R ss s t n are)

-- a count that rose lately has risen
pub listed_rise : (R R' : Type 0) (c : Option (Option (List ℕ))) (p : Syntax) (s : Status) (t : List ℕ) → (R → R') → ListedStops R c p s t
    → ListedStops R' c p s t
listed_rise R R' c p s t f (inl h) = inl (given_rise R R' c p s t f h)
listed_rise R R' c p s t f (inr h) = inr h

large_starts : (g : GivenValue) (s : Status) (t : List ℕ) → LargeStops g s t → s ≡ status.Starts
large_starts (inl rs) s t h = absurd h
large_starts (inr r) s t h = h.0

pub no_large_read : (g : GivenValue) (t : List ℕ) → LargeStops g status.ReadFault t → ⊥
no_large_read g t h = let is = large_starts g status.ReadFault t h in absurd (cc is)

-- no stop is a write fault
pub listed_no_fault : (R : Type 0) (c : Option (Option (List ℕ))) (p : Syntax) (t : List ℕ) → ListedStops R c p status.WriteFault t → ⊥
listed_no_fault R c p t (inl h) = h
listed_no_fault R c p t (inr h) = let is = large_starts h.0 status.WriteFault t h.2 in absurd (cc is)
