use Rattle.std.proofs.Common.{◌≤◌, sym, subst}
use Rattle.leak_bound.specs.Records.{distinct_count}
use Rattle.black_box.specs.Bound.{box_bound}
use Rattle.black_box.specs.Schedule.{IsInOrder}
use Rattle.black_box.specs.Computed.{releases}
use Rattle.black_box.proofs.Encoded.{few_releases}
use Rattle.black_box.proofs.FactsMet.{in_order, is_schedule}
use Rattle.black_box.proofs.OneSchedule.{is_only, all_releases}
use Rattle.black_box.proofs.laws.few_release_lists.Goals as goal

pub returns : goal.returns
returns c = record {
  few = λ q t pq pt runs lists h same tests. subst (λ z. distinct_count same z ≤ box_bound t) (sym (all_releases q t pq runs lists h))
      (few_releases q t pq pt runs same tests);
  one = λ q t pq ready. (releases q t ready, is_schedule q t pq ready, is_only q t pq ready);
  in_order = λ q t pq ready rs h. subst (IsInOrder ready) (sym (is_only q t pq ready rs h)) (in_order t t q q ready);
}
