-- Parts that meet tokens, one after another.
use Rattle.std.proofs.Common.{◌≡◌, ap, ◌∙◌, sym, ℕ, ◌+◌, ◌-◌, ◌<◌, ◌≤◌, List, [], ◌∷◌, ◌++◌, length, take, get_or, Some, None, arith}
use Rattle.std.proofs.lemmas.List.{take_more}
use Rattle.mit_parser.specs.Words.{Symbol}
use Rattle.mit_parser.specs.Machine.{step}
use Rattle.next_tokens.specs.declared.sort.Sort.{Sort}
use Rattle.next_tokens.specs.declared.part.Part.{Part}
use Rattle.next_tokens.specs.Sorts.{sort_of}
use Rattle.next_tokens.specs.Parts.{left_of, Meeting, stuck, over, goes, meet}
use Rattle.next_tokens.proofs.Meets.{left_last, onto_append, made, meets}

-- the last part meets a token
module _ (all front : List Part) (p : Part) (x : Sort) (are : all ≡ front ++ p ∷ []) where
  meets_last : (w : Symbol) → sort_of w ≡ x → step (left_of all) w ≡ made (meet p x) (left_of front) (step (left_of front) w)
  meets_last w q = ap (λ l. step (left_of l) w) are ∙ ap (λ s. step s w) (left_last front p) ∙ meets p x w (left_of front) q

  as_met : (m : Meeting) → m ≡ meet p x → (w : Symbol) → sort_of w ≡ x → step (left_of all) w ≡ made m (left_of front) (step (left_of front) w)
  as_met m e w q = meets_last w q ∙ ap (λ y. made y (left_of front) (step (left_of front) w)) (sym e)

  pub at_stuck : stuck ≡ meet p x → (w : Symbol) → sort_of w ≡ x → step (left_of all) w ≡ None
  at_stuck e = as_met stuck e

  pub at_over : over ≡ meet p x → (w : Symbol) → sort_of w ≡ x → step (left_of all) w ≡ step (left_of front) w
  at_over e = as_met over e

  pub at_goes : (after : List Part) → goes after ≡ meet p x → (w : Symbol) → sort_of w ≡ x → step (left_of all) w ≡ Some (left_of (front ++ after))
  at_goes after e w q = as_met (goes after) e w q ∙ ap Some (sym (onto_append front after []))

-- the part before a place meets a token
module _ (parts : List Part) (i : ℕ) (d : Part) (x : Sort) (h : 0 < i) (k : i ≤ length parts) where
  here : take i parts ≡ take (i - 1) parts ++ get_or parts (i - 1) d ∷ []
  here =
      let e : i - 1 + 1 ≡ i = omega arith in
      let b : i - 1 < length parts = omega arith in
      ap (λ n. take n parts) (sym e) ∙ take_more parts (i - 1) d b

  pub stuck_here : stuck ≡ meet (get_or parts (i - 1) d) x → (w : Symbol) → sort_of w ≡ x → step (left_of (take i parts)) w ≡ None
  stuck_here e = at_stuck (take i parts) (take (i - 1) parts) (get_or parts (i - 1) d) x here e

  pub over_here : over ≡ meet (get_or parts (i - 1) d) x → (w : Symbol) → sort_of w ≡ x
      → step (left_of (take i parts)) w ≡ step (left_of (take (i - 1) parts)) w
  over_here e = at_over (take i parts) (take (i - 1) parts) (get_or parts (i - 1) d) x here e

  pub goes_here : (after : List Part) → goes after ≡ meet (get_or parts (i - 1) d) x → (w : Symbol) → sort_of w ≡ x
      → step (left_of (take i parts)) w ≡ Some (left_of (take (i - 1) parts ++ after))
  goes_here after e = at_goes (take i parts) (take (i - 1) parts) (get_or parts (i - 1) d) x here after e
