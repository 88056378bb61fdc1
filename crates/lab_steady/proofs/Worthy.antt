-- What a yes is worth, from the laws of an environment.
use Rattle.std.proofs.Common.{◌≡◌, ◌<◌, ℕ, List, length, Bool, true, false, Option, Some, inl, inr, sym, subst, arith}
use Rattle.std.specs.Prelude.{IsTrue}
use Rattle.std.proofs.lemmas.Bool.{false≢true}
use Rattle.label_lattice.specs.declared.label.Label.{Label}
use Rattle.label_lattice.specs.Lattice.{IsLattice}
use Rattle.label_lattice.specs.Order.{Order}
use Rattle.label_lattice.proofs.Orders.{order_is}
use Rattle.mit_syntax.specs.Program.{Syntax}
use Rattle.parse_laws.proofs.Meant.{program_order}
use Rattle.timing_types.specs.Labelled.{LabelledProgram, order_of, labels_of}
use Rattle.env_contract.specs.Env.{Env}
use Rattle.code_lower.specs.Lowered.{lowered}
use Rattle.leak_bound.specs.Over.{KeepsLaws}
use Rattle.steady_code.specs.declared.costing.Costing.{Costing}
use Rattle.steady_code.specs.Costing.{settled_by}
use Rattle.steady_code.specs.Plain.{IsClear, notes_to, notes_all}
use Rattle.steady_code.specs.Timed.{low_of, felt_of}
use Rattle.steady_code.proofs.Two.{shows_one, runs_in_time}
use Rattle.steady_code.proofs.Costs.{all_fit}
use Rattle.steady_code.proofs.Clear.{clear_notes, clear_all, all_noted}
use Rattle.steady_program.specs.Lowered.{IsEnd}
use Rattle.tim_base.specs.Faults.{Rose}
use Rattle.tool_texts.specs.declared.status.Status.TheVariants.{Done}
use Rattle.tool_stages.specs.Content.{Content}
use Rattle.tool_stages.specs.Stages.{Reads}
use Rattle.lab_steady.specs.Constant.{costing_of}
use Rattle.lab_steady.specs.Answer.{Names, Infers, IsYes, Steadies}
use Rattle.lab_steady.specs.Worth.{IsWorth, YesIsWorth}

-- with `--whole` something is asked past the image
past : (q : LabelledProgram) (o : ℕ) (whole : Bool) (end : ℕ) → IsTrue whole → IsEnd q o whole end → length (lowered q).instrs < end
past q o true end w h = omega (arith, h)
past q o false end w h = absurd (false≢true w)

module _ {E : Type 0} (v : Order → Env E) (serves : Order → E → Type 0) (laws : KeepsLaws v serves) where
  of_yes : (constant : Option (List ℕ)) (costing : Costing) → costing_of constant ≡ Some costing
      → (content : Content) (file observer parts : List ℕ) (whole : Bool) (p : Syntax) → Reads (content file) p
      → (o h : Label) → Names p.order observer o → Names p.order parts h → (q : LabelledProgram) → Infers p q
      → (t : List ℕ) → IsYes costing q o.number h.number whole t → IsWorth v serves constant content file observer parts whole
  of_yes constant costing asked content file observer parts whole p reads o h named_o named_h q infers t told =
      let same : p ≡ q.program = sym infers.program in
      let there : Reads (content file) q.program = subst (λ (z : Syntax). Reads (content file) z) same reads in
      let lat = order_of q in
      let good : IsLattice lat = order_is q.program.order (program_order _ q.program there.spelled) in
      let low = low_of lat (labels_of q) o.number in
      let felt = felt_of lat h.number in
      let image = (lowered q).instrs in
      let end = told.0.0 in
      let clear : IsClear (settled_by costing) low felt image end = told.0.2 in
      let law = laws q.program.order good in
      record {
        costing = costing;
        asked = asked;
        program = q;
        reads = there;
        infers = subst (λ (z : Syntax). Infers z q) same infers;
        o = o;
        names_observer = subst (λ (z : Syntax). Names z.order observer o) same named_o;
        h = h;
        names_parts = subst (λ (z : Syntax). Names z.order parts h) same named_h;
        shown = λ cost has t s s' w.
            shows_one (v q.program.order) lat good law (labels_of q) o.number h.number (settled_by costing) cost (all_fit costing cost has) image
            (notes_to low image end) (clear_notes (settled_by costing) low felt image end clear) t s s' w;
        timed = λ wanted cost has t s s' w.
            runs_in_time (v q.program.order) lat good law (labels_of q) o.number h.number (settled_by costing) cost (all_fit costing cost has) image
            (notes_all low image) (clear_all (settled_by costing) low felt image end (past q o.number whole end wanted told.0.1) clear)
            (all_noted (settled_by costing) low felt image end) t s s' w;
      }

  pub worth : YesIsWorth v serves
  worth constant content before now file observer parts whole t (inl stop) = absurd stop
  worth constant content before now file observer parts whole t (inr (costing, asked, h)) = by_costing h
    where
      by_costing : Steadies costing (λ name. Rose (before name) (now name)) content file observer parts whole Done t
          → IsWorth v serves constant content file observer parts whole
      by_costing (inl stop) = absurd stop
      by_costing (inr (p, reads, (source, inl stop))) = absurd stop
      by_costing (inr (p, reads, (source, inr (o, named, inl stop)))) = absurd stop
      by_costing (inr (p, reads, (source, inr (o, named, inr (h, agreed, (q, infers, inl stop)))))) = absurd stop
      by_costing (inr (p, reads, (source, inr (o, named, inr (h, agreed, (q, infers, inr (code, image, told))))))) =
          of_yes constant costing asked content file observer parts whole p reads o h named agreed q infers t told
