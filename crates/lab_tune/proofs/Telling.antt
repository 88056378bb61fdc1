-- What is told of the best choices.
use Rattle.std.proofs.Common.{◌≡◌, ◌^◌, ℕ, List, [], ◌∷◌, Some, subst}
use Rattle.timing_types.specs.Labelled.{LabelledProgram}
use Rattle.code_lower.specs.Lowered.{lowered}
use Rattle.history_bound.specs.Over.{history_made}
use Rattle.start_file.specs.Starts.{StartValue}
use Rattle.first_front.specs.declared.interval.Interval.{Interval}
use Rattle.first_front.specs.Enough.{AllTellMore, IsCheapest}
use Rattle.start_tune.proofs.Enough.{cheapest_few, none_tells}
use Rattle.tool_texts.specs.declared.status.Status.TheVariants as status
use Rattle.tool_stages.specs.declared.envs.Environment.{Environment}
use Rattle.tool_stages.specs.Envs.{environment}
use Rattle.lab_tune.specs.Answer.{relevant_in, AreTold, BestIn, FewStops}
use Rattle.lab_tune.specs.Text.{none_line}

module _ (e : Environment) (t : ℕ) (q : LabelledProgram) (o mark bits : ℕ) (ss : List StartValue) (best xs : List Interval) (same : xs ≡ best)
    (are : BestIn e t q o mark ss best) where
  pub one_told : (i : Interval) (is : List Interval) → IsCheapest xs (2 ^ bits) i → is ≡ i ∷ [] → AreTold e t q o mark (Some bits) ss best is
  one_told i is h one = (
    i,
    cheapest_few (environment e q.program.order) history_made t (lowered q) mark (relevant_in q o) ss (2 ^ bits) best are i
        (subst (λ z. IsCheapest z (2 ^ bits) i) same h),
    one,
  )

  pub none_told : (x : List ℕ) → AllTellMore xs (2 ^ bits) → x ≡ none_line mark bits → FewStops e t q o mark (Some bits) ss status.Refused x
  none_told x h line = (
    none_tells (environment e q.program.order) history_made t (lowered q) mark (relevant_in q o) ss (2 ^ bits) best are
        (subst (λ z. AllTellMore z (2 ^ bits)) same h),
    line,
  )
