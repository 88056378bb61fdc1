-- What is told of a space, and what stops it.
use Rattle.std.proofs.Common.{◌≡◌, ◌∙◌, refl, sym, ap, subst, ℕ, List, [], ◌++◌, Some, inl, inr, append_assoc}
use Rattle.label_lattice.specs.declared.label.Label.{Label}
use Rattle.label_lattice.specs.Order.{Order}
use Rattle.timing_types.specs.Labelled.{LabelledProgram}
use Rattle.fixed_log.specs.Entropy.{AllSome}
use Rattle.class_counts.specs.Tally.{total}
use Rattle.leak_classes.specs.Classes.{Classes}
use Rattle.leak_numbers.specs.Numbers.{AreNumbers, NumbersPut}
use Rattle.space_starts.specs.Space.{SpaceValue, size_of}
use Rattle.space_walk.proofs.Same.{all_agree}
use Rattle.tool_stages.specs.declared.envs.Environment.{Environment}
use Rattle.tool_stages.specs.Envs.{environment}
use Rattle.history_bound.specs.Over.{AnyHistory, history_made}
use Rattle.tool_texts.specs.declared.stop.Stop.{Stop}
use Rattle.tool_texts.specs.declared.status.Status.TheVariants as status
use Rattle.tool_texts.specs.Ends.{IsStop, status_of, stop_text}
use Rattle.tool_texts.proofs.EndLemmas.{broke_map}
use Rattle.machine_stage.specs.Lines.{machine_head}
use Rattle.space_leak.specs.Answer.{shown_in, end_in, HasClasses, SpaceStops, HasSpaceLeak, AllAreWhole}
use Rattle.space_leak.specs.Text.{sizes_of, class_lines, head_lines, IsSpaceText}
use Rattle.space_leak.proofs.Sizes.{some_tallied, all_tallied}

-- no class is empty
pub some_classes : (e : Environment) (t : ℕ) (q : LabelledProgram) (o : ℕ) (s : SpaceValue) (k : Classes) → HasClasses e t q o s k → AllSome (sizes_of k)
some_classes e t q o s k h =
    subst (λ (z : Classes). AllSome (sizes_of z)) (sym h.classes.classes)
    (some_tallied (shown_in e t q o s) (end_in e t q s) [] 0 (size_of s) tt)

pub whole : AllAreWhole
whole e t q o s k h = record {
  agree = all_agree (environment e q.program.order) AnyHistory history_made q o s tt h.agree;
  all = ap (λ (z : Classes). total z.seen) h.classes.classes ∙ all_tallied (shown_in e t q o s) (end_in e t q s) (size_of s);
}

-- the lines one after another
pub space_put : (e : Environment) (q : LabelledProgram) (l : Label) (t size : ℕ) (order : Order) (s : SpaceValue) (k : Classes)
    (ws none head top two text : List ℕ) → size_of s ≡ size → order ≡ q.program.order → ws ≡ sizes_of k → none ≡ [] → head ≡ none ++ machine_head e
    → top ≡ head ++ head_lines order l t size → NumbersPut size ws top two
    → text ≡ two ++ class_lines q.program.declarations k.seen k.firsts → IsSpaceText e q l t s k text
space_put e q l t size order s k ws none head top two text many is sizes empty first shown put rest =
    let lines = class_lines q.program.declarations k.seen k.firsts in
    let here = head_lines q.program.order l t (size_of s) in
    let numbers : AreNumbers (size_of s) (sizes_of k) put.lines =
    subst (λ z. AreNumbers z (sizes_of k) put.lines) (sym many) (subst (λ z. AreNumbers size z put.lines) sizes put.are) in
    let heads : head ≡ machine_head e = first ∙ ap (λ z. z ++ machine_head e) empty in
    let tops : top ≡ machine_head e ++ here =
    shown ∙ ap (λ z. z ++ head_lines order l t size) heads ∙ ap (λ (z : Order). machine_head e ++ head_lines z l t size) is
    ∙ ap (λ z. machine_head e ++ head_lines q.program.order l t z) (sym many) in (
      put.lines,
      numbers,
      rest ∙ ap (λ z. z ++ lines) (put.put ∙ ap (λ z. z ++ put.lines) tops) ∙ append_assoc (machine_head e ++ here) put.lines lines,
    )

pub space_tells : (e : Environment) (t : ℕ) (q : LabelledProgram) (l : Label) (s : SpaceValue) (k : Classes) (x : List ℕ)
    → HasClasses e t q l.number s k → IsSpaceText e q l t s k x → HasSpaceLeak e t q (Some l) s status.Done x
space_tells e t q l s k x classes text = inr (k, classes, (refl, text))

pub space_stop : (e : Environment) (t : ℕ) (q : LabelledProgram) (l : Label) (s : SpaceValue) (f : Stop) → IsStop (SpaceStops e t q l s) f
    → IsStop (HasSpaceLeak e t q (Some l) s) f
space_stop e t q l s f h = broke_map (SpaceStops e t q l s) (HasSpaceLeak e t q (Some l) s) (status_of f) (stop_text f) (λ k. inl k) h
