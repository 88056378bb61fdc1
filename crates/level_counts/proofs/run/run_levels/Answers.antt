use Rattle.std.proofs.Common.{◌≡◌, ap, ◌∙◌, subst, length, map, arith, rules, replicate}
use Rattle.std.specs.Prelude.{slice_index_or, false}
use Rattle.std.proofs.lemmas.List.{length-map}
use Rattle.mit_syntax.specs.Expression.{expression_of}
use Rattle.mit_syntax.specs.Program.{plan_of}
use Rattle.timing_types.specs.Labelled.{levels_of}
use Rattle.source_meaning.specs.Source.{HasEnded}
use Rattle.level_counts.specs.Noted.{noted}
use Rattle.level_counts.proofs.Table.{length-estimates, table_in, few_variables}
use Rattle.level_counts.proofs.Going.{none, going_begin, going_on, ended_here, told_by_marks}
use Rattle.level_counts.proofs.run.run_levels.Goals as goal

pub loop-taken-init : goal.loop-taken-init
loop-taken-init c =
    let made : c.in_ok-levels.levels.items ≡ replicate c.size.result none = search rules in
    going_begin (λ k. slice_index_or c.args.relevant.now k false) (levels_of c.args.p.now) c.args.p.now.program c.args.memory.now c.program-program.result.now
    c.in_ok-walker.walker c.in_ok-memory.memory.items c.in_ok-levels.levels.items
    c.program-program.ensures.program c.laws.ensures.valid c.in_ok-walker.ensures c.in_ok-memory.ensures.items c.requires.long
    (made ∙ ap (λ z. replicate z none) (c.size.ensures.value ∙ ap (λ z. z.size) c.lattice.ensures))

pub note-requires : goal.note-requires
note-requires c =
    let here : length c.deref.result.now ≡ length c.loop-taken.memory.items = ap length c.deref.ensures.value in
    let table = ap length c.requires.estimates in
    let many = length-map c.args.estimates.now (λ e. expression_of e.now) in
    let all = length-estimates (plan_of c.args.p.now.program) in
    record {
      fit = omega (arith, table, many, all);
      within = table_in c.program-program.result.now c.args.p.now.program (map (λ e. expression_of e.now) c.args.estimates.now) (length c.deref.result.now)
          c.program-program.ensures.program c.laws.ensures.valid c.requires.estimates (here ∙ c.loop-taken.invariant.long);
      few = few_variables c.program-program.result.now c.args.p.now.program (length c.deref.result.now) c.program-program.ensures.program c.laws.ensures.valid
          (here ∙ c.loop-taken.invariant.long);
      levels = c.loop-taken.invariant.size;
      room = λ l. let f = c.loop-taken.invariant.counted.few l in let t = c.loop-taken-test.true in let r = c.ranges.steps.fits in omega (arith, f, t, r);
    }

pub loop-taken-preserved : goal.loop-taken-preserved
loop-taken-preserved c =
    going_on (λ k. slice_index_or c.args.relevant.now k false) (levels_of c.args.p.now) c.args.p.now.program c.args.memory.now c.loop-taken.taken
    c.loop-taken.walker c.step.new.self c.in_ok-walk.walk c.loop-taken.memory.items c.loop-taken.levels.items
    c.loop-taken.invariant c.in_ok-walk.ensures.step (map (λ e. expression_of e.now) c.args.estimates.now) c.store.new.memory.items c.note.new.levels.items
    c.requires.estimates c.program-program.ensures.labelling.levels_below c.store.ensures
    (c.note.ensures ∙ ap (λ z. noted (λ k. slice_index_or c.args.relevant.now k false) (levels_of c.args.p.now)
    (map (λ e. expression_of e.now) c.args.estimates.now) c.in_ok-walk.walk z c.loop-taken.levels.items) c.deref.ensures.value)

pub returns-in-Ended : goal.returns-in-Ended
returns-in-Ended c = λ o e.
    told_by_marks c.args.p.now o c.args.memory.now c.loop-taken.taken c.args.relevant.now c.loop-taken.levels.items
    (ended_here (λ k. slice_index_or c.args.relevant.now k false) (levels_of c.args.p.now) c.args.p.now.program c.args.memory.now c.loop-taken.taken
    c.loop-taken.walker c.step.new.self c.in_ok-walk.walk c.loop-taken.memory.items c.loop-taken.levels.items c.loop-taken.invariant
    c.in_ok-walk.ensures.step c.in-Ended.is)
    c.loop-taken.invariant.size c.loop-taken.invariant.counted e

pub returns : goal.returns
returns c = λ o e.
    let same : c.args.steps ≡ c.loop-taken.taken = omega arith in
    told_by_marks c.args.p.now o c.args.memory.now c.loop-taken.taken c.args.relevant.now c.loop-taken.levels.items
    (subst (HasEnded (plan_of c.args.p.now.program) c.args.memory.now) same c.requires.ends)
    c.loop-taken.invariant.size c.loop-taken.invariant.counted e
