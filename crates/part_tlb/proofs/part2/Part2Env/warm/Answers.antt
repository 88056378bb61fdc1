use Rattle.std.proofs.Common.{◌≡◌, ◌<◌, sym, ap, ◌∙◌, subst, []}
use Rattle.std.proofs.lemmas.List.{drop_all}
use Rattle.std.proofs.lemmas.List.Elements.{All-get_or}
use Rattle.part_tlb.specs.declared.part.PartEnv.{PartEnv}
use Rattle.part_cache.specs.declared.replacement.Replacement.TheVariants.{LeastRecent}
use Rattle.part_cache.specs.Rows.{Rows, IsCacheOf, StandsFor}
use Rattle.part_tlb.specs.Structures.{IsMadeFor, StandsForAll, warmed}
use Rattle.part_tlb.specs.Envs.{part_structure, empty_part, part2_structure, part2_touched, empty_part2}
use Rattle.part_tlb.specs.Keeps.{touch_serves}
use Rattle.part_tlb.specs.Laws.{part2_moves}
use Rattle.part_tlb.specs.Standing.{warmed_stands, warm_step, part2_serves, part2_stands}
use Rattle.part_tlb.proofs.part2.Part2Env.warm.Goals as goal

pub loop-touch-init : goal.loop-touch-init
loop-touch-init c =
    record {
      serves = part2_serves c.args.lattice.now.value _ c.in_ok-first.ensures.serves c.in_ok-second.ensures.cache;
      rest =
          ap (λ (first : PartEnv). warmed part2_touched (record { first = first; second = c.in_ok-second.second }) c.args.touches.now)
          c.in_ok-first.ensures.value
          ∙ ap (λ (second : Rows). warmed part2_touched (record { first = empty_part c.args.lattice.now.value; second = second }) c.args.touches.now)
          c.in_ok-second.ensures.value;
    }

pub touch-requires : goal.touch-requires
touch-requires c = (
  c.args.lattice.now.value,
  (
    c.loop-touch.invariant.serves,
    All-get_or (λ t. t.label.number < c.args.lattice.now.value.size) c.args.touches.now c.loop-touch.touch-index _ c.loop-touch-test.true c.requires,
  ),
)

pub loop-touch-preserved : goal.loop-touch-preserved
loop-touch-preserved c =
    record {
      serves = subst (IsMadeFor part2_structure c.args.lattice.now.value) (sym c.touch.ensures)
          (touch_serves part2_structure part2_touched part2_moves c.args.lattice.now.value _ _ _ c.loop-touch.env c.loop-touch.invariant.serves);
      rest = warm_step part2_touched c.loop-touch.env c.touch.new.self _ c.args.touches.now c.loop-touch.touch-index _ c.tag_at.result c.loop-touch-test.true
          c.tag_at.ensures c.touch.ensures c.loop-touch.invariant.rest;
    }

pub returns-clause-history : goal.returns-clause-history
returns-clause-history c =
    let end : c.loop-touch.env ≡ warmed part2_touched (empty_part2 c.args.lattice.now.value) c.args.touches.now =
    ap (warmed part2_touched c.loop-touch.env) (sym (drop_all c.loop-touch.touch-index c.args.touches.now c.loop-touch-test.false))
    ∙ c.loop-touch.invariant.rest in
    subst (λ e. StandsForAll part2_structure e c.args.touches.now) (sym end)
    (warmed_stands part2_structure part2_touched part2_moves c.args.lattice.now.value (empty_part2 c.args.lattice.now.value) c.args.touches.now []
    (part2_serves c.args.lattice.now.value (empty_part2 c.args.lattice.now.value)
    (subst (IsMadeFor part_structure c.args.lattice.now.value) c.in_ok-first.ensures.value c.in_ok-first.ensures.serves)
    (subst (IsCacheOf c.args.lattice.now.value 32 4) c.in_ok-second.ensures.value c.in_ok-second.ensures.cache))
    c.requires
    (part2_stands (empty_part2 c.args.lattice.now.value)
    (subst (λ e. StandsForAll part_structure e []) c.in_ok-first.ensures.value c.in_ok-first.ensures.history)
    (subst (λ v. StandsFor v []) c.in_ok-second.ensures.value (c.in_ok-second.ensures.history LeastRecent))))
