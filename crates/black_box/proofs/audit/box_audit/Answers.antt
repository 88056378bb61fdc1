use Rattle.std.proofs.Common.{◌≡◌, ◌+◌, ◌^◌, ◌≤◌, List, [], ◌∷◌, ℕ, map, refl, sym, ap, ◌∙◌, subst, arith, ◌<◌}
use Rattle.leak_bound.specs.Records.{distinct_count}
use Rattle.black_box.specs.declared.release.Releases.{Releases}
use Rattle.black_box.specs.Computed.{releases}
use Rattle.black_box.specs.Outcomes.{Outcome, IsOutcome, seen, outcome}
use Rattle.black_box.specs.Files.{ready_lists}
use Rattle.black_box.specs.Audits.{same_cycles, shown}
use Rattle.black_box.proofs.Gathered.{cycles_test}
use Rattle.std.specs.List.{AllZip}
use Rattle.black_box.proofs.EpochCount.{is_outcome}
use Rattle.black_box.proofs.Encoded.{few_releases}
use Rattle.black_box.proofs.audit.box_audit.Goals as goal

at_seen : (rs : List Releases) → map (λ (o : Outcome). o.at) (map seen rs) ≡ shown rs
at_seen [] = refl
at_seen (r ∷ rs) = ap (λ z. r.at.items ∷ z) (at_seen rs)

at_outcome : (q t : ℕ) (runs : List (List ℕ)) → map (λ (o : Outcome). o.at) (map (outcome q t) runs) ≡ map (releases q t) runs
at_outcome q t [] = refl
at_outcome q t (r ∷ runs) = ap (λ z. releases q t r ∷ z) (at_outcome q t runs)

-- what the runs show
all_shown : (q t : ℕ) (rs : List Releases) (runs : List (List ℕ)) → map seen rs ≡ map (outcome q t) runs → shown rs ≡ map (releases q t) runs
all_shown q t rs runs e = sym (at_seen rs) ∙ ap (map (λ (o : Outcome). o.at)) e ∙ at_outcome q t runs

all_outcomes : (q t : ℕ) → 0 < q → (rs : List Releases) (runs : List (List ℕ)) → map seen rs ≡ map (outcome q t) runs
    → AllZip (IsOutcome q t) runs (map seen rs)
all_outcomes q t pq rs runs e = subst (AllZip (IsOutcome q t) runs) (sym e) (go runs)
  where
    go : (runs : List (List ℕ)) → AllZip (IsOutcome q t) runs (map (outcome q t) runs)
    go [] = tt
    go (r ∷ runs) = (is_outcome q t pq r, go runs)

pub returns-clause-runs : goal.returns-clause-runs
returns-clause-runs c = all_outcomes c.args.first c.args.limit c.requires.first.0 c.in_ok-runs.runs.items (ready_lists c.args.all.now) c.in_ok-runs.ensures

pub returns-clause-bound : goal.returns-clause-bound
returns-clause-bound c =
    let few = few_releases c.args.first c.args.limit c.requires.first.0 c.requires.limit.0 (ready_lists c.args.all.now) same_cycles cycles_test in
    let count =
    c.in_ok-distinct.ensures.distinct
    ∙ ap (λ z. distinct_count same_cycles (shown z)) c.as_slice.ensures.value
    ∙ ap (distinct_count same_cycles) (all_shown c.args.first c.args.limit c.in_ok-runs.runs.items (ready_lists c.args.all.now) c.in_ok-runs.ensures) in
    subst (λ d. c.in_ok-distinct.field-0.distinct ≤ (c.args.limit + 1) ^ d) (sym c.digits.ensures) (omega (arith, few, count))
