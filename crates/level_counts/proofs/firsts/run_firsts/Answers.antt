use Rattle.std.proofs.Common.{◌≡◌, ap, ◌∙◌, subst, length, map, arith, [], replicate}
use Rattle.std.specs.Prelude.{slice_index_or, false}
use Rattle.std.proofs.lemmas.List.{length-map}
use Rattle.mit_syntax.specs.Expression.{expression_of}
use Rattle.mit_syntax.specs.Program.{plan_of}
use Rattle.timing_types.specs.Labelled.{levels_of}
use Rattle.source_meaning.specs.Source.{HasEnded}
use Rattle.level_counts.specs.Listed.{lists}
use Rattle.level_counts.specs.Noted.{begun, with_listed}
use Rattle.level_counts.proofs.Table.{length-estimates, table_in, few_variables}
use Rattle.level_counts.proofs.Listing.{listed_begin, listed_on, listed_ended, listed_by_marks}
use Rattle.level_counts.proofs.firsts.run_firsts.Goals as goal

pub loop-taken-init : goal.loop-taken-init
loop-taken-init c =
    listed_begin (λ k. slice_index_or c.args.relevant.now k false) (levels_of c.args.p.now) c.args.p.now.program c.args.memory.now
    c.program-program.result.now c.in_ok-walker.walker c.in_ok-memory.memory.items (lists c.in_ok-listed.listed.items)
    c.program-program.ensures.program c.laws.ensures.valid c.in_ok-walker.ensures c.in_ok-memory.ensures.items c.requires.long
    (c.in_ok-listed.ensures ∙ ap (λ z. replicate z []) (c.size.ensures.value ∙ ap (λ z. z.size) c.lattice.ensures))

pub note_first-requires : goal.note_first-requires
note_first-requires c =
    let here : length c.deref.result.now ≡ length c.loop-taken.memory.items = ap length c.deref.ensures.value in
    let table = ap length c.requires.estimates in
    let many = length-map c.args.estimates.now (λ e. expression_of e.now) in
    let all = length-estimates (plan_of c.args.p.now.program) in
    record {
      fit = omega (arith, table, many, all);
      within = table_in c.program-program.result.now c.args.p.now.program (map (λ e. expression_of e.now) c.args.estimates.now) (length c.deref.result.now)
          c.program-program.ensures.program c.laws.ensures.valid c.requires.estimates (here ∙ c.loop-taken.invariant.going.long);
      few = few_variables c.program-program.result.now c.args.p.now.program (length c.deref.result.now) c.program-program.ensures.program c.laws.ensures.valid
          (here ∙ c.loop-taken.invariant.going.long);
      levels = c.loop-taken.invariant.size;
    }

pub loop-taken-preserved : goal.loop-taken-preserved
loop-taken-preserved c =
    listed_on (λ k. slice_index_or c.args.relevant.now k false) (levels_of c.args.p.now) c.args.p.now.program c.args.memory.now c.loop-taken.taken
    c.loop-taken.walker c.step.new.self c.in_ok-walk.walk c.loop-taken.memory.items (lists c.loop-taken.listed.items)
    c.loop-taken.invariant c.in_ok-walk.ensures.step (map (λ e. expression_of e.now) c.args.estimates.now) c.store.new.memory.items
    (lists c.note_first.new.listed.items)
    c.requires.estimates c.program-program.ensures.labelling.levels_below c.store.ensures
    (c.in_ok-note_first.ensures ∙ ap (λ z. with_listed (begun (λ k. slice_index_or c.args.relevant.now k false) (levels_of c.args.p.now)
    (map (λ e. expression_of e.now) c.args.estimates.now) c.in_ok-walk.walk z) (lists c.loop-taken.listed.items)) c.deref.ensures.value)

pub returns-in-Ended : goal.returns-in-Ended
returns-in-Ended c = λ o e.
    listed_by_marks c.args.p.now o c.args.memory.now c.loop-taken.taken c.args.relevant.now (lists c.loop-taken.listed.items)
    (listed_ended (λ k. slice_index_or c.args.relevant.now k false) (levels_of c.args.p.now) c.args.p.now.program c.args.memory.now c.loop-taken.taken
    c.loop-taken.walker c.step.new.self c.in_ok-walk.walk c.loop-taken.memory.items (lists c.loop-taken.listed.items) c.loop-taken.invariant
    c.in_ok-walk.ensures.step c.in-Ended.is)
    c.loop-taken.invariant.size c.loop-taken.invariant.places e

pub returns : goal.returns
returns c = λ o e.
    let same : c.args.steps ≡ c.loop-taken.taken = omega arith in
    listed_by_marks c.args.p.now o c.args.memory.now c.loop-taken.taken c.args.relevant.now (lists c.loop-taken.listed.items)
    (subst (HasEnded (plan_of c.args.p.now.program) c.args.memory.now) same c.requires.ends)
    c.loop-taken.invariant.size c.loop-taken.invariant.places e
