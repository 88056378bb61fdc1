use Rattle.std.proofs.Common.{◌≡◌, ◌<◌, ◌≤◌, ℤ, List, sym, ap, ◌∙◌, subst, length, map, arith}
use Rattle.std.proofs.lemmas.List.{length-map, take_all}
use Rattle.mit_syntax.specs.Declarations.{variables}
use Rattle.mit_syntax.specs.Program.{Syntax, plan_of}
use Rattle.timing_types.specs.Labelled.{LabelledProgram}
use Rattle.source_meaning.specs.Source.{HasEnded}
use Rattle.start_file.specs.Starts.{StartValue, seen, IsFor}
use Rattle.start_file.specs.declared.start.Start.{Start}
use Rattle.leak_audit.proofs.Agreeing.{All-seen}
use Rattle.level_counts.specs.Begun.{memories_of}
use Rattle.level_counts.specs.Listed.{lists, IsListed, AreListed}
use Rattle.level_counts.proofs.Merging.{listed_start, listed_next, listed_same}
use Rattle.level_counts.proofs.firsts.first_predictions.Goals as goal

pub run_firsts-requires-clause-long : goal.run_firsts-requires-clause-long
run_firsts-requires-clause-long c =
    let p : Syntax = c.args.p.now.labelled.program in
    let h = All-seen (IsFor p) c.args.starts.now 0 c.index-starts-0.result c.requires.starts c.requires.some c.index-starts-0.is in
    let m = c.as_slice-memory.ensures.value ∙ ap (λ (s : Start). s.memory.items) (sym c.index-starts-0.is) in
    ap length m ∙ h.memory ∙ sym (ap (λ (z : LabelledProgram). variables z.program.declarations) c.labelled-labelled.ensures.labelled)

pub run_firsts-requires-clause-ends : goal.run_firsts-requires-clause-ends
run_firsts-requires-clause-ends c =
    let p : Syntax = c.args.p.now.labelled.program in
    let h : HasEnded (plan_of p) c.index-starts-0.result.memory.items c.args.steps =
    All-seen (λ (s : StartValue). HasEnded (plan_of p) s.memory c.args.steps) c.args.starts.now 0 c.index-starts-0.result c.requires.ends
    c.requires.some c.index-starts-0.is in
    let m = c.as_slice-memory.ensures.value ∙ ap (λ (s : Start). s.memory.items) (sym c.index-starts-0.is) in
    subst (λ (z : LabelledProgram). HasEnded (plan_of z.program) c.as_slice-memory.result.now c.args.steps) (sym c.labelled-labelled.ensures.labelled)
    (subst (λ (z : List ℤ). HasEnded (plan_of p) z c.args.steps) (sym m) h)

pub loop-i-init : goal.loop-i-init
loop-i-init c =
    let q : LabelledProgram = c.args.p.now.labelled in
    let m = c.as_slice-memory.ensures.value ∙ ap (λ (s : Start). s.memory.items) (sym c.index-starts-0.is) in
    let run : IsListed q c.args.observer.number c.as_slice-memory.result.now (lists c.in_ok-listed.listed.items) =
    listed_same c.labelled-labelled.result.now q c.deref.result.now c.in_ok-relevant.relevant.items c.as_slice-memory.result.now
    (lists c.in_ok-listed.listed.items) c.labelled-labelled.ensures.labelled
    c.in_ok-listed.ensures c.deref.ensures.value c.args.observer.number c.in_ok-relevant.ensures in
    record {
      from = omega arith;
      listed =
          listed_start q c.args.observer.number c.args.starts.now c.index-starts-0.result c.as_slice-memory.result.now (lists c.in_ok-listed.listed.items)
          c.requires.some c.index-starts-0.is m run;
    }

pub run_firsts-requires-in-loop-i-clause-long : goal.run_firsts-requires-in-loop-i-clause-long
run_firsts-requires-in-loop-i-clause-long c =
    let p : Syntax = c.args.p.now.labelled.program in
    let lt : c.loop-i.i < length c.args.starts.now = c.loop-i-test.true in
    let h = All-seen (IsFor p) c.args.starts.now c.loop-i.i c.index-starts-i.result c.requires.starts lt c.index-starts-i.is in
    let m = c.as_slice-memory-in-loop-i.ensures.value ∙ ap (λ (s : Start). s.memory.items) (sym c.index-starts-i.is) in
    ap length m ∙ h.memory ∙ sym (ap (λ (z : LabelledProgram). variables z.program.declarations) c.labelled-labelled.ensures.labelled)

pub run_firsts-requires-in-loop-i-clause-ends : goal.run_firsts-requires-in-loop-i-clause-ends
run_firsts-requires-in-loop-i-clause-ends c =
    let p : Syntax = c.args.p.now.labelled.program in
    let lt : c.loop-i.i < length c.args.starts.now = c.loop-i-test.true in
    let h : HasEnded (plan_of p) c.index-starts-i.result.memory.items c.args.steps =
    All-seen (λ (s : StartValue). HasEnded (plan_of p) s.memory c.args.steps) c.args.starts.now c.loop-i.i c.index-starts-i.result
    c.requires.ends lt c.index-starts-i.is in
    let m = c.as_slice-memory-in-loop-i.ensures.value ∙ ap (λ (s : Start). s.memory.items) (sym c.index-starts-i.is) in
    subst (λ (z : LabelledProgram). HasEnded (plan_of z.program) c.as_slice-memory-in-loop-i.result.now c.args.steps) (sym c.labelled-labelled.ensures.labelled)
    (subst (λ (z : List ℤ). HasEnded (plan_of p) z c.args.steps) (sym m) h)

pub loop-i-preserved : goal.loop-i-preserved
loop-i-preserved c =
    let q : LabelledProgram = c.args.p.now.labelled in
    let lt : c.loop-i.i < length c.args.starts.now = c.loop-i-test.true in
    let some : 0 < c.loop-i.i = omega arith in
    let m = c.as_slice-memory-in-loop-i.ensures.value ∙ ap (λ (s : Start). s.memory.items) (sym c.index-starts-i.is) in
    let run : IsListed q c.args.observer.number c.as_slice-memory-in-loop-i.result.now (lists c.deref-in-loop-i-3.result.now) =
    subst (λ z. IsListed q c.args.observer.number c.as_slice-memory-in-loop-i.result.now (lists z)) (sym c.deref-in-loop-i-3.ensures.value)
    (listed_same c.labelled-labelled.result.now q c.deref-in-loop-i.result.now c.in_ok-relevant.relevant.items c.as_slice-memory-in-loop-i.result.now
    (lists c.in_ok-run.run'.items) c.labelled-labelled.ensures.labelled
    c.in_ok-run.ensures c.deref-in-loop-i.ensures.value c.args.observer.number c.in_ok-relevant.ensures) in
    record {
      from = omega arith;
      listed = listed_next q c.args.observer.number c.args.starts.now c.loop-i.i c.index-starts-i.result c.as_slice-memory-in-loop-i.result.now
          (lists c.loop-i.listed.items) (lists c.deref-in-loop-i-3.result.now) (lists c.take_run.new.listed.items)
          some lt c.index-starts-i.is m c.loop-i.invariant.listed run
          (length-map c.take_run.new.listed.items (λ v. v.items) ∙ c.take_run.ensures.size ∙ sym (length-map c.loop-i.listed.items (λ v. v.items)))
          c.take_run.ensures.long c.take_run.ensures.lesser;
    }

pub returns : goal.returns
returns c =
    let q : LabelledProgram = c.args.p.now.labelled in
    let ms = memories_of (map seen c.args.starts.now) in
    let long : length ms ≡ length c.args.starts.now = length-map (map seen c.args.starts.now) (λ s. s.memory) ∙ length-map c.args.starts.now seen in
    let all : length ms ≤ c.loop-i.i = omega (arith, long) in
    subst (λ z. AreListed q c.args.observer.number z (lists c.loop-i.listed.items)) (take_all c.loop-i.i ms all) c.loop-i.invariant.listed
