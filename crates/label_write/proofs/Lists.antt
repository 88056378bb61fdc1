-- Commands with their labels, one after another.
use Rattle.std.proofs.Common.{◌≡◌, refl, sym, ap, ◌∙◌, ℕ, ◌+◌, ◌<◌, ◌≤◌, arith, List, [], ◌∷◌, ◌++◌, length, drop, get_or}
use Rattle.std.proofs.lemmas.List.{drop_all}
use Rattle.label_lattice.specs.Order.{Order}
use Rattle.mit_syntax.specs.declared.ast.Command.{Command}
use Rattle.mit_syntax.specs.Todo.{Done}
use Rattle.mit_syntax.specs.Plan.{Plan, command_plan, list_plan, count}
use Rattle.mit_syntax.proofs.Counting.{front_of, count-more}
use Rattle.timing_types.proofs.Parts.{drop_count}
use Rattle.timing_types.specs.Labelling.{Labelling}
use Rattle.label_write.specs.Written.{written_plan}

-- commands, before others
abbrev pub onto : List Command → Plan → Plan
onto [] q = q
onto (c ∷ cs) q = command_plan c (onto cs q)

onto_push : (cs : List Command) (c : Command) (q : Plan) → onto (cs ++ c ∷ []) q ≡ onto cs (command_plan c q)
onto_push [] c q = refl
onto_push (x ∷ cs) c q = ap (λ z. command_plan x z) (onto_push cs c q)

onto_done : (cs : List Command) → onto cs Done ≡ list_plan cs
onto_done [] = refl
onto_done (x ∷ cs) = ap (λ z. command_plan x z) (onto_done cs)

pub count_within : (list : List Command) (x : Command) (i : ℕ) → i < length list → x ≡ get_or list i x → count (command_plan x Done) ≤ count (list_plan list)
count_within list x i within at =
    let front : count (list_plan (drop i list)) ≡ count (command_plan x Done) + count (list_plan (drop (i + 1) list)) =
    ap (λ z. count (list_plan z)) (front_of list x i within at) ∙ count-more x (drop (i + 1) list) in
    let all = drop_count list i in
    omega (arith, front, all)

-- a list, once this many of its commands are written
pub record WrittenSoFar (o : Order) (l : Labelling) (list : List Command) (number i next : ℕ) (done : List Command) : Type 0 where
  pub numbers : next + count (list_plan (drop i list)) ≡ number + count (list_plan list)
  pub is : written_plan o l (list_plan list) number ≡ onto done (written_plan o l (list_plan (drop i list)) next)

module _ (o : Order) (l : Labelling) (list : List Command) (number : ℕ) where
  pub none_written : WrittenSoFar o l list number 0 number []
  none_written = record { numbers = refl; is = refl }

  module _ (x : Command) (i next : ℕ) (done : List Command) (within : i < length list) (at : x ≡ get_or list i x)
      (so : WrittenSoFar o l list number i next done) where
    front : drop i list ≡ x ∷ drop (i + 1) list
    front = front_of list x i within at

    counted : count (list_plan (drop i list)) ≡ count (command_plan x Done) + count (list_plan (drop (i + 1) list))
    counted = ap (λ z. count (list_plan z)) front ∙ count-more x (drop (i + 1) list)

    pub next_fits : next + count (command_plan x Done) ≤ number + count (list_plan list)
    next_fits = let a = counted in let b = so.numbers in omega (arith, a, b)

    pub next_written : (c : Command) (end : ℕ) (new : List Command) → new ≡ done ++ c ∷ [] → end ≡ next + count (command_plan x Done)
        → ((rest : Plan) → written_plan o l (command_plan x rest) next ≡ command_plan c (written_plan o l rest end))
        → WrittenSoFar o l list number (i + 1) end new
    next_written c end new pushed ends says =
        let a = counted in
        let b = so.numbers in
        let rest = list_plan (drop (i + 1) list) in
        record {
          numbers = omega (arith, a, b, ends);
          is =
              so.is
              ∙ ap (λ z. onto done (written_plan o l (list_plan z) next)) front
              ∙ ap (λ z. onto done z) (says rest)
              ∙ sym (onto_push done c (written_plan o l rest end))
              ∙ ap (λ z. onto z (written_plan o l rest end)) (sym pushed);
        }

  pub all_written : (i next : ℕ) (done : List Command) → length list ≤ i → WrittenSoFar o l list number i next done
      → list_plan done ≡ written_plan o l (list_plan list) number
  all_written i next done h so =
      let none : drop i list ≡ [] = drop_all i list h in
      sym (onto_done done) ∙ ap (λ z. onto done (written_plan o l (list_plan z) next)) (sym none) ∙ sym so.is

  pub all_counted : (i next : ℕ) (done : List Command) → length list ≤ i → WrittenSoFar o l list number i next done → next ≡ number + count (list_plan list)
  all_counted i next done h so =
      let none : count (list_plan (drop i list)) ≡ 0 = ap (λ z. count (list_plan z)) (drop_all i list h) in
      let b = so.numbers in
      omega (arith, none, b)
