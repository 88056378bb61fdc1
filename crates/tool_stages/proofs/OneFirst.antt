-- One answer at most: labels of one name, and first starts.
use Rattle.std.proofs.Common.{◌≡◌, ◌<◌, ◌⊎◌, ℕ, List, [], ◌∷◌, Option, Some, None, inl, inr, refl, sym, ap, ◌∙◌, arith}
use Rattle.std.proofs.lemmas.Bool.{cases_order}
use Rattle.label_lattice.specs.declared.label.Label.{Label}
use Rattle.label_lattice.specs.Order.{Order, IsOrder, name_of}
use Rattle.mit_syntax.specs.Program.{Syntax}
use Rattle.start_file.specs.Starts.{StartValue}
use Rattle.tool_texts.specs.declared.status.Status.{Status}
use Rattle.tool_stages.specs.Stages.{Observes, FirstStart, FirstStops}
use Rattle.tool_stages.specs.Content.{IsKnown}
use Rattle.tool_stages.proofs.GoesLemmas.{starts_go}
use Rattle.tool_stages.proofs.OneLemmas.{Same, one_list_of_starts, one_start_stop}

-- ---- labels of one name

one_label : (o : Order) (a b : Label) → IsOrder o → a.number < o.size → b.number < o.size → name_of o a.number ≡ name_of o b.number → a ≡ b
one_label o a b h below below' e = either (cases_order a.number b.number)
  where
    either : (a.number ≡ b.number) ⊎ ((a.number < b.number) ⊎ (b.number < a.number)) → a ≡ b
    either (inl is) = ap (λ z. record { number = z }) is
    either (inr (inl l)) = let fit = h.named in absurd (h.differ a.number b.number [] l (omega (arith, fit, below')) e)
    either (inr (inr l)) = let fit = h.named in absurd (h.differ b.number a.number [] l (omega (arith, fit, below)) (sym e))

pub one_observer : (o : Order) (w : Option (List ℕ)) (a b : Option Label) → IsOrder o → Observes o w a → Observes o w b → a ≡ b
one_observer o None a b h k m = k ∙ sym m
one_observer o (Some w) None b h k m = absurd k
one_observer o (Some w) (Some a) None h k m = absurd m
one_observer o (Some w) (Some a) (Some b) h k m = ap (λ z. Some z) (one_label o a b h k.0 m.0 (k.1 ∙ sym m.1))

-- ---- first starts

first_of : (a b : StartValue) (others more : List StartValue) → a ∷ others ≡ b ∷ more → a ≡ b
first_of a b others more e = cc

module _ (content : List ℕ → Option (Option (List ℕ))) (p : Syntax) where
  abbrev OtherIsKnown : Option (List ℕ) → Type 0
  OtherIsKnown starts = (name : List ℕ) → starts ≡ Some name → IsKnown (content name)

  pub one_first : (starts : Option (List ℕ)) (a b : StartValue) → OtherIsKnown starts → FirstStart content starts p a → FirstStart content starts p b → a ≡ b
  one_first None a b k f g = f ∙ sym g
  one_first (Some name) a b k f g = first_of a b f.0 g.0 (one_list_of_starts (content name) (k name refl) p (a ∷ f.0) (b ∷ g.0) f.1 g.1)

  pub first_or_not : (Rises : List ℕ → Type 0) (starts : Option (List ℕ)) (a : StartValue) (s : Status) (t : List ℕ)
      → ((name : List ℕ) → starts ≡ Some name → Rises name → ⊥) → OtherIsKnown starts
      → FirstStart content starts p a → FirstStops Rises content starts p s t → ⊥
  first_or_not Rises None a s t n k f h = h
  first_or_not Rises (Some name) a s t n k f h = starts_go (Rises name) (content name) p (a ∷ f.0) s t (n name refl) (k name refl) f.1 h

  pub one_first_stop : (Rises : List ℕ → Type 0) (starts : Option (List ℕ)) (s u : Status) (t x : List ℕ)
      → ((name : List ℕ) → starts ≡ Some name → Rises name → ⊥) → OtherIsKnown starts
      → FirstStops Rises content starts p s t → FirstStops Rises content starts p u x → Same s u t x
  one_first_stop Rises None s u t x n k f g = absurd f
  one_first_stop Rises (Some name) s u t x n k f g = one_start_stop (content name) (k name refl) p (Rises name) s u t x (n name refl) f g
