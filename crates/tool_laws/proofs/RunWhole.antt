-- The command, stage by stage.
use Rattle.std.proofs.Common.{◌≡◌, ◌≤◌, ◌∙◌, refl, sym, ap, subst, ℕ, List, [], ◌∷◌, length, Option, None, Some, inr, arith}
use Rattle.std.proofs.lemmas.List.Elements.{All-nil, All-cons}
use Rattle.tim_base.specs.Faults.{Rose}
use Rattle.tim_base.specs.Told.{IsTold}
use Rattle.mit_syntax.specs.Program.{Syntax}
use Rattle.timing_types.specs.Labelled.{LabelledProgram}
use Rattle.code_lower.specs.Lowered.{lowered}
use Rattle.event_print.specs.Text.{text_of}
use Rattle.cycle_machine.specs.Rest.{Told}
use Rattle.tool_words.specs.declared.words.EnvName.TheVariants.{Flat}
use Rattle.tool_words.specs.WordsAsked.{run}
use Rattle.tool_stages.specs.declared.envs.Environment.TheVariants.{Named}
use Rattle.tool_texts.specs.declared.status.Status.{Status}
use Rattle.tool_texts.specs.declared.status.Status.TheVariants.{Done}
use Rattle.tool_stages.specs.Stages.{Reads, Types}
use Rattle.tool_stages.specs.Content.{Content, IsKnown, AreKnown}
use Rattle.tool_stages.specs.Goes.{IsTypable, IsHalted, HaltsBy}
use Rattle.mit_tool.specs.Answers.{HasRun, status_at}
use Rattle.mit_tool.specs.Commands.{IsAnswer}
use Rattle.mit_tool.specs.Complete.{CanBeDone}
use Rattle.mit_tool.specs.Once.{HasOneAnswer}
use Rattle.tool_laws.specs.FirstRun.{first_text, first_answer}
use Rattle.tool_laws.proofs.RunCut.{tokens, are_tokens}
use Rattle.tool_laws.proofs.RunProgram.{program}
use Rattle.tool_laws.proofs.RunSpelled.{spelled}
use Rattle.tool_laws.proofs.RunTypes.{labels, labelled, are_labels, least, typed}
use Rattle.tool_laws.proofs.RunTold.{three, zeros, tells, shows}

-- a file is told to hold the text
abbrev pub HoldsText : Option (Option (List ℕ)) → Type 0
HoldsText c = c ≡ Some (Some first_text)

reads : (c : Option (Option (List ℕ))) → HoldsText c → Reads c program
reads c h = record {
  bytes = first_text;
  are = subst (λ (x : Option (Option (List ℕ))). IsTold x first_text) (sym h) refl;
  short = omega arith;
  tokens = tokens;
  cut = are_tokens;
  spelled = spelled;
}

typable : IsTypable program
typable = (labels, are_labels, typed)

types : Types program labelled
types = record { program = refl; least = least; typed = typed }

-- ---- the program with any labels

short : (q : LabelledProgram) → q.program ≡ program → length (lowered q).instrs ≡ 3
short q e =
    let P : Syntax → Type 0 = λ p. length (lowered (record { program = p; labels = q.labels })).instrs ≡ 3 in
    subst P (sym e) (three q.labels)

halts : (q : LabelledProgram) (t : ℕ) → 3 ≤ t → q.program ≡ program → HaltsBy (Named Flat) t q zeros
halts q t h e =
    let P : Syntax → Type 0 = λ p. HaltsBy (Named Flat) t (record { program = p; labels = q.labels }) zeros in
    subst P (sym e) (subst (λ (x : Told). IsHalted x.end) (sym (tells q.labels t h)) tt)

-- ---- the command

known : (content : Content) (file : List ℕ) → HoldsText (content file) → AreKnown content (file ∷ [])
known content file h =
    let P : List ℕ → Type 0 = λ name. IsKnown (content name) in
    All-cons P file [] (subst IsKnown (sym h) tt) (All-nil P)

pub can_be_done : (content : Content) (file : List ℕ) (t : ℕ) → HoldsText (content file) → 3 ≤ t → CanBeDone content (run file None Flat t None)
can_be_done content file t h k = record {
  known = known content file h;
  goes = (program, reads (content file) h, None, refl, (typable, λ q y. let f = short q y.program in (omega (arith, f), (zeros, refl, halts q t k y.program))));
}

runs : (t : ℕ) → 3 ≤ t → HasRun Flat t labelled None (lowered labelled) zeros Done first_answer
runs t h =
    let e = sym (tells labels t h) in
    (ap (λ (x : Told). status_at x.end) e, sym (shows labels) ∙ ap (λ (x : Told). text_of labelled None x) e)

pub has_answer : (Rises : List ℕ → Type 0) (content : Content) (file : List ℕ) (t : ℕ) → HoldsText (content file) → 3 ≤ t
    → IsAnswer Rises content (run file None Flat t None) Done first_answer
has_answer Rises content file t h k =
    inr (
      program,
      reads (content file) h,
      inr (
        None,
        refl,
        inr (
          labelled,
          types,
          inr (
            lowered labelled,
            (refl, omega arith),
            inr (zeros, refl, runs t k),
          ),
        ),
      ),
    )

pub has_one : HasOneAnswer → (content : Content) (before now : List ℕ → ℕ) (file : List ℕ) (t : ℕ) → HoldsText (content file) → 3 ≤ t
    → (Rose (before file) (now file) → ⊥)
    → (s : Status) (x : List ℕ) → IsAnswer (λ name. Rose (before name) (now name)) content (run file None Flat t None) s x → (s ≡ Done) × (x ≡ first_answer)
has_one law content before now file t h k n s x a =
    let P : List ℕ → Type 0 = λ name. Rose (before name) (now name) → ⊥ in
    law content before now (run file None Flat t None) s Done x first_answer
    (known content file h) (All-cons P file [] n (All-nil P))
    a (has_answer (λ name. Rose (before name) (now name)) content file t h k)
