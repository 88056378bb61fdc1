use Rattle.std.proofs.Common.{◌∙◌, [], ◌∷◌, List, map, ap}
use Rattle.std.proofs.lemmas.List.{map-append}
use Rattle.start_file.specs.declared.start.Start.{Start}
use Rattle.start_file.specs.Starts.{seen}
use Rattle.space_starts.specs.Space.{seen as seen_space}
use Rattle.space_stage.proofs.Written.{one_more}
use Rattle.space_stage.proofs.listed.all_starts.Goals as goal

pub loop-number-preserved : goal.loop-number-preserved
loop-number-preserved c = record {
  written = one_more (seen_space c.args.space.now) c.loop-number.number (map seen c.loop-number.starts.items) (map seen c.push.new.self.items)
      (seen c.in_ok-start.start) c.loop-number.invariant.written c.in_ok-start.ensures.start
      (ap (λ (z : List Start). map seen z) c.in_ok-push.ensures.items ∙ map-append seen c.loop-number.starts.items (c.in_ok-start.start ∷ []));
  chooser = c.in_ok-start.ensures.chooser;
}
