use Rattle.std.proofs.Common.{◌≡◌, sym, ap, ◌∙◌, subst, []}
use Rattle.std.proofs.lemmas.List.{drop_all}
use Rattle.part_cache.specs.declared.replacement.Replacement.TheVariants.{LeastRecent}
use Rattle.part_cache.specs.Rows.{IsCacheOf, StandsFor}
use Rattle.part_tlb.specs.Structures.{IsMadeFor, StandsForAll, warmed}
use Rattle.part_tlb.specs.Envs.{part_structure, part_structure, part_touched, empty_part}
use Rattle.part_tlb.specs.Keeps.{touch_serves}
use Rattle.part_tlb.specs.Laws.{part_moves}
use Rattle.part_tlb.specs.Standing.{warmed_stands, warm_step, part_serves, part_stands}
use Rattle.part_tlb.proofs.part.PartEnv.warm.Goals as goal

pub loop-touch-preserved : goal.loop-touch-preserved
loop-touch-preserved c =
    record {
      serves = subst (IsMadeFor part_structure c.args.lattice.now.value) (sym c.touch.ensures)
          (touch_serves part_structure part_touched part_moves c.args.lattice.now.value _ _ _ c.loop-touch.env c.loop-touch.invariant.serves);
      rest = warm_step part_touched c.loop-touch.env c.touch.new.self _ c.args.touches.now c.loop-touch.touch-index _ c.tag_at.result c.loop-touch-test.true
          c.tag_at.ensures c.touch.ensures c.loop-touch.invariant.rest;
    }

pub returns-clause-history : goal.returns-clause-history
returns-clause-history c =
    let end : c.loop-touch.env ≡ warmed part_touched (empty_part c.args.lattice.now.value) c.args.touches.now =
    ap (warmed part_touched c.loop-touch.env) (sym (drop_all c.loop-touch.touch-index c.args.touches.now c.loop-touch-test.false))
    ∙ c.loop-touch.invariant.rest in
    subst (λ e. StandsForAll part_structure e c.args.touches.now) (sym end)
    (warmed_stands part_structure part_touched part_moves c.args.lattice.now.value (empty_part c.args.lattice.now.value) c.args.touches.now []
    (part_serves c.args.lattice.now.value (empty_part c.args.lattice.now.value)
    (subst (IsCacheOf c.args.lattice.now.value 1 4) c.in_ok-buffer.ensures.value c.in_ok-buffer.ensures.cache)
    (subst (IsCacheOf c.args.lattice.now.value 8 2) c.in_ok-code_cache.ensures.value c.in_ok-code_cache.ensures.cache)
    (subst (IsCacheOf c.args.lattice.now.value 8 2) c.in_ok-data_cache.ensures.value c.in_ok-data_cache.ensures.cache))
    c.requires
    (part_stands (empty_part c.args.lattice.now.value)
    (subst (λ v. StandsFor v []) c.in_ok-buffer.ensures.value (c.in_ok-buffer.ensures.history LeastRecent))
    (subst (λ v. StandsFor v []) c.in_ok-code_cache.ensures.value (c.in_ok-code_cache.ensures.history LeastRecent))
    (subst (λ v. StandsFor v []) c.in_ok-data_cache.ensures.value (c.in_ok-data_cache.ensures.history LeastRecent))))
