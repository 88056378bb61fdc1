use Rattle.std.proofs.Common.{◌≡◌, ◌<◌, ℕ, List, length, Option, sym, ap, subst, ◌∙◌}
use Rattle.std.specs.Prelude.{MatchOption}
use Rattle.std.proofs.lemmas.Option.{slice_get_within}
use Rattle.mit_syntax.specs.declared.token.Token.{Token}
use Rattle.mit_syntax.specs.Program.{Syntax}
use Rattle.label_code.specs.Shaped.{Code}
use Rattle.code_lower.specs.Lowered.{lowered}
use Rattle.steady_code.specs.declared.fault.Fault.{Fault}
use Rattle.steady_program.specs.Lowered.{IsSteady, IsFirstFault}
use Rattle.lab_steady.specs.Judged.{IsJudged, told, top_of}
use Rattle.lab_steady.specs.Why.{TellsNo}
use Rattle.lab_steady.proofs.Nos.{told_within}
use Rattle.lab_steady.proofs.judge.refused.Goals as goal

pub no_text-requires-clause-place : goal.no_text-requires-clause-place
no_text-requires-clause-place c =
    let q = c.args.p.now in
    let code : Code = lowered q in
    let judged : MatchOption c.in_ok-plain.plain.fault (IsSteady c.args.costing q c.args.observer.number c.top-top.result.number c.in_ok-plain.plain.end)
    (IsFirstFault c.args.costing q c.args.observer.number c.top-top.result.number c.in_ok-plain.plain.end) = c.in_ok-plain.ensures.judged in
    let inside : (told q c.args.first c.in_ok-plain.plain.fault).place < length code.instrs =
    told_within q c.args.first c.in_ok-plain.plain.fault (length code.instrs)
    (slice_get_within code.instrs c.args.first.place c.requires.first.2.instr c.requires.first.2.there)
    (λ (x : Fault) e.
    let first : IsFirstFault c.args.costing q c.args.observer.number c.top-top.result.number c.in_ok-plain.plain.end x =
    subst (λ (z : Option Fault). MatchOption z (IsSteady c.args.costing q c.args.observer.number c.top-top.result.number c.in_ok-plain.plain.end)
    (IsFirstFault c.args.costing q c.args.observer.number c.top-top.result.number c.in_ok-plain.plain.end)) e judged in
    slice_get_within code.instrs x.place first.instr first.there) in
    subst (λ (z : Code). c.told-fault.result.place < length z.instrs) (sym c.requires.image)
    (subst (λ (z : Fault). z.place < length code.instrs) (sym c.told-fault.ensures) inside)

pub returns-in-Ok-no_text-clause-ok : goal.returns-in-Ok-no_text-clause-ok
returns-in-Ok-no_text-clause-ok c =
    let q = c.args.p.now in
    let top : c.top-top.result.number ≡ top_of q.program.order =
    c.top-top.ensures ∙ ap top_of (c.lattice.ensures ∙ ap (λ (z : Syntax). z.order) c.program.ensures.program) in
    let tells : TellsNo c.args.costing c.args.text.now c.in-Ok.tokens.items q c.args.observer.number c.args.parts.number c.told-fault.result
    c.in-Ok-no_text.lines.items =
    subst (λ (z : List Token). TellsNo c.args.costing c.args.text.now z q c.args.observer.number c.args.parts.number c.told-fault.result
    c.in-Ok-no_text.lines.items)
    c.as_slice.ensures.value c.in-Ok-no_text.ensures in
    record {
      first = c.args.first;
      is_first = c.requires.first;
      plain = c.in_ok-plain.plain.fault;
      is_plain = subst (λ (z : ℕ). IsJudged c.args.costing q c.args.observer.number z c.args.whole c.in_ok-plain.plain.fault) top
          (c.in_ok-plain.plain.end, c.in_ok-plain.ensures.end, c.in_ok-plain.ensures.judged);
      tokens = c.in-Ok.tokens.items;
      cut = c.in-Ok.ensures.answer;
      tells = subst (λ (z : Fault). TellsNo c.args.costing c.args.text.now c.in-Ok.tokens.items q c.args.observer.number c.args.parts.number z
          c.in-Ok-no_text.lines.items) c.told-fault.ensures tells;
    }
