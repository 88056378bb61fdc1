use Rattle.std.specs.Prelude.{ℕ, List, Bool, option_map, [], ◌∷◌}
use Rattle.std.proofs.Common.{refl, sym, subst, inl}
use Rattle.tim_base.specs.Faults.{Rose}
use Rattle.tim_base.proofs.LogLemmas.{Grows-nil}
use Rattle.tool_stages.specs.Fetches.{AreBegun}
use Rattle.tool_stages.proofs.FetchLemmas.{not_read}
use Rattle.lab_steady.specs.Constant.{CostingStops}
use Rattle.lab_steady.specs.Told.{status_told, text_told}
use Rattle.lab_steady.proofs.Stages.{costing_refused, told_by, stops_by, no_costing_read}
use Rattle.lab_steady.proofs.program.steady_by.Goals as goal

pub returns-in-Err-clause-stop : goal.returns-in-Err-clause-stop
returns-in-Err-clause-stop g c =
    costing_refused (option_map (λ s. s.now) c.args.constant)
    (λ (name : List ℕ). Rose (g.S.Shelf.faults c.args.shelf.now name) (g.S.Shelf.faults c.args.shelf.now name))
    (g.S.Shelf.content c.args.shelf.now) c.args.file.now c.args.observer.now c.args.parts.now c.args.whole c.in-Err.stop c.in-Err.ensures.stop

pub returns-in-Err-clause-log : goal.returns-in-Err-clause-log
returns-in-Err-clause-log g c =
    let word = option_map (λ s. s.now) c.args.constant in (
      [],
      Grows-nil (g.S.Shelf.log c.args.shelf.now),
      subst (λ (b : Bool). AreBegun (c.args.file.now ∷ []) b [])
          (sym (not_read (CostingStops word) (no_costing_read word) c.in-Err.stop c.in-Err.ensures.stop)) (inl (refl, refl)),
    )

pub returns-in-Ok-steady_told-clause-told : goal.returns-in-Ok-steady_told-clause-told
returns-in-Ok-steady_told-clause-told g c =
    told_by (option_map (λ s. s.now) c.args.constant)
    (λ (name : List ℕ). Rose (g.S.Shelf.faults c.args.shelf.now name) (g.S.Shelf.faults c.steady_told.new.shelf name))
    (g.S.Shelf.content c.args.shelf.now) c.args.file.now c.args.observer.now c.args.parts.now c.args.whole c.in-Ok.costing c.in-Ok.ensures.ok
    (status_told c.in-Ok-steady_told.told) (text_told c.in-Ok-steady_told.told) c.in-Ok-steady_told.ensures.told

pub returns-in-Err-steady_told-clause-stop : goal.returns-in-Err-steady_told-clause-stop
returns-in-Err-steady_told-clause-stop g c =
    stops_by (option_map (λ s. s.now) c.args.constant)
    (λ (name : List ℕ). Rose (g.S.Shelf.faults c.args.shelf.now name) (g.S.Shelf.faults c.steady_told.new.shelf name))
    (g.S.Shelf.content c.args.shelf.now) c.args.file.now c.args.observer.now c.args.parts.now c.args.whole c.in-Ok.costing c.in-Ok.ensures.ok
    c.in-Err-steady_told.stop c.in-Err-steady_told.ensures.stop
