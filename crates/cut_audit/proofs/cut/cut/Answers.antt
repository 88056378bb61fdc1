use Rattle.std.proofs.Common.{◌≡◌, map, length, false, refl, sym, ap, ◌∙◌, subst}
use Rattle.std.proofs.lemmas.List.{length-map}
use Rattle.label_lattice.specs.Lattice.{IsLattice}
use Rattle.label_lattice.specs.Order.{lattice_of}
use Rattle.mit_syntax.specs.Program.{plan_of}
use Rattle.mit_syntax.specs.Valid.{IsValid}
use Rattle.env_contract.specs.Env.{Env}
use Rattle.timing_types.specs.Labelling.{IsLabelling}
use Rattle.timing_types.specs.Labelled.{labels_of, levels_of}
use Rattle.code_lower.specs.Lowered.{lowered}
use Rattle.start_file.specs.Starts.{seen}
use Rattle.leak_bound.specs.Records.{Pairwise}
use Rattle.leak_bound.specs.Sound.{CutSound}
use Rattle.leak_audit.specs.Agreement.{start_of, starts_of, AgreeFor}
use Rattle.leak_audit.specs.Measured.{IsMeasure}
use Rattle.leak_audit.specs.Surveyed.{IsSurvey, sequence_from}
use Rattle.leak_bound.proofs.Over.{cut_sound_over, lowered_cut_sound}
use Rattle.leak_audit.proofs.Marking.{typed_with}
use Rattle.cut_audit.proofs.Reporting.{may_cut, is_report, report_within}
use Rattle.cut_audit.proofs.cut.cut.Goals as goal

pub returns-clause-report : goal.returns-clause-report
returns-clause-report g c =
    let v : Env g.row.E.Denot = g.E.MachineEnv.env in
    let p = c.args.p.now.labelled in
    let o = c.args.observer.number in
    let t = c.args.limit in
    let stored = map seen c.args.starts.now in
    let ss = starts_of (g.M.MakeEnv.made c.args.make.now) p.program.order stored in
    let same = c.labelled-labelled.ensures.labelled in
    let program = c.program-program.ensures.program ∙ ap (λ z. z.program) same in
    let order = c.lattice-order.ensures ∙ ap (λ z. z.order) program in
    let agree = subst (λ z. Pairwise (AgreeFor v g.E.MachineEnv.serves z o) (starts_of (g.M.MakeEnv.made c.args.make.now) z.program.order stored)) same
    c.in_ok-all_agree.ensures.agree in
    let survey = subst (λ z. IsSurvey v z o t false (starts_of (g.M.MakeEnv.made c.args.make.now) z.program.order stored) c.in-Ok.survey) same
    c.in-Ok.ensures.survey in
    let measure = subst (λ z. IsMeasure z o t c.in-Ok.survey.ended (map (sequence_from v p o t) ss) c.measure-measures.result) order
    (c.measure-measures.ensures (map (sequence_from v p o t) ss) survey.kinds) in
    let count : length c.args.starts.now ≡ length ss =
    sym (length-map stored (start_of (g.M.MakeEnv.made c.args.make.now) p.program.order) ∙ length-map c.args.starts.now seen) in
    is_report v g.E.MachineEnv.serves p o t ss agree c.in-Ok.survey survey c.measure-measures.result measure _ (record {
      runs = count;
      ended =
          refl;
      halted = refl;
      measures = refl;
    })

pub returns-clause-bound : goal.returns-clause-bound
returns-clause-bound g c laws =
    let v : Env g.row.E.Denot = g.E.MachineEnv.env in
    let p = c.args.p.now.labelled in
    let o = c.args.observer.number in
    let t = c.args.limit in
    let stored = map seen c.args.starts.now in
    let ss = starts_of (g.M.MakeEnv.made c.args.make.now) p.program.order stored in
    let same = c.labelled-labelled.ensures.labelled in
    let program = c.program-program.ensures.program ∙ ap (λ z. z.program) same in
    let order = c.lattice-order.ensures ∙ ap (λ z. z.order) program in
    let made = typed_with p (subst (λ z. IsLattice (lattice_of z)) order c.laws.ensures.lattice) (subst IsValid program c.laws-2.ensures.valid)
    (subst (λ z. IsLabelling z.program z.labels) same c.program-program.ensures.labelling) c.labelled-labelled.ensures.typed in
    let sound : CutSound v p.program.order (g.E.MachineEnv.serves p.program.order) (labels_of p) (levels_of p) (lowered p).instrs (plan_of p.program) =
    lowered_cut_sound (λ _. v) g.E.MachineEnv.serves (cut_sound_over (λ _. v) g.E.MachineEnv.serves laws) p made in
    report_within v g.E.MachineEnv.serves p o t ss sound c.requires.observer c.requires.cycles _ (returns-clause-report g c)

pub of-requires : goal.of-requires
of-requires g c =
    let v : Env g.row.E.Denot = g.E.MachineEnv.env in
    let p = c.labelled-labelled.result.now in
    let stored = map seen c.args.starts.now in
    let ss = starts_of (g.M.MakeEnv.made c.args.make.now) p.program.order stored in
    may_cut v g.E.MachineEnv.serves p c.args.observer.number c.args.limit ss c.in-Err.fault c.in-Err.ensures.fault
