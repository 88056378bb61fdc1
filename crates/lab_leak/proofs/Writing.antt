-- The runs that are run once more are the first ones of the classes.
use Rattle.std.proofs.Common.{◌≡◌, ◌<◌, ◌≤◌, ◌+◌, ◌-◌, ℕ, List, [], ◌∷◌, length, map, drop, get_or, ap, ◌∙◌, subst, arith}
use Rattle.std.proofs.lemmas.List.{drop-map, length-map}
use Rattle.label_code.specs.Machine.{Event}
use Rattle.leak_classes.specs.Classes.{Classes}
use Rattle.space_leak.specs.Text.{sizes_of}
use Rattle.lab_leak.specs.Classes.{classes_of_runs}
use Rattle.lab_leak.proofs.Members.{At, at_place, as_many, member_is}
use Rattle.lab_leak.proofs.Tallied.{are_tallied}

module _ (zs : List (List Event)) (firsts : List ℕ) (k : ℕ) (same : firsts ≡ (classes_of_runs zs).firsts) (lt : k < length firsts) where
  abbrev classes : Classes
  classes = classes_of_runs zs

  within : k < length classes.firsts
  within = subst (λ xs. k < length xs) same lt

  pub at_run : At zs classes.seen classes.firsts k
  at_run = at_place zs classes.seen classes.firsts k (are_tallied zs).firsts within

  pub first_at : get_or firsts k 0 ≡ at_run.first
  first_at = ap (λ xs. get_or xs k 0) same ∙ member_is classes.firsts k at_run.first 0 (drop (k + 1) classes.firsts) within at_run.firsts

  pub some_at : 1 ≤ get_or firsts k 0
  some_at = let f = first_at in let e = at_run.first_is in omega (arith, f, e)

  pub known_at : get_or firsts k 0 - 1 < length zs
  known_at = let f = first_at in let e = at_run.first_is in let l = at_run.known in omega (arith, f, e, l)

  many : length (sizes_of classes) ≡ length classes.firsts
  many = length-map classes.seen (λ c. c.1) ∙ as_many zs classes.seen classes.firsts (are_tallied zs).firsts

  pub sized_at : (sizes : List ℕ) → sizes ≡ sizes_of classes → k < length sizes
  sized_at sizes e =
      let m = many in
      let w = within in
      let s = ap length e in
      omega (arith, m, w, s)

  pub size_at : (sizes : List ℕ) → sizes ≡ sizes_of classes → get_or sizes k 0 ≡ at_run.class.1
  size_at sizes e =
      let here : drop k (sizes_of classes) ≡ at_run.class.1 ∷ sizes_of (record { seen = drop (k + 1) classes.seen; firsts = [] }) =
      drop-map (λ c. c.1) k classes.seen ∙ ap (map (λ c. c.1)) at_run.classes in
      let m = many in
      let w = within in
      ap (λ xs. get_or xs k 0) e ∙ member_is (sizes_of classes) k at_run.class.1 0 _ (omega (arith, m, w)) here
