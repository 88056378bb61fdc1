-- A load of an element, at the element that its index chooses.
use Rattle.std.proofs.Common.{◌≡◌, ℕ, ◌+◌, List, ◌∷◌, sym, ap, ◌∙◌, ℤ}
use Rattle.std.specs.Prelude.{map, reverse}
use Rattle.env_contract.specs.Env.{Env}
use Rattle.label_lattice.specs.declared.label.Label.{Label}
use Rattle.mit_syntax.specs.Values.{element, read}
use Rattle.label_code.specs.Machine.{Core, Machine, Opened, act, at, fetched, touched, marks_of}
use Rattle.label_code.specs.declared.code.Instr.{Instr}
use Rattle.label_code.specs.declared.code.Work.TheVariants.{LoadAt}
use Rattle.cycle_machine.specs.declared.state.State.{State}
use Rattle.cycle_machine.specs.Seen.{opened_of, core_of}
use Rattle.cycle_machine.specs.Took.{after}

abbrev pub load_instr : ℕ → ℕ → Label → Label → Instr
load_instr f n er ew = record { work = LoadAt f n; er = er; ew = ew }

pub load_at_is : {E : Type 0} (v : Env E) (s : State E) (f n x : ℕ) (er ew : Label) (index : ℤ) (rest : List ℤ)
    → reverse s.operands.items ≡ index ∷ rest → x ≡ element f n index →
    after v (load_instr f n er ew) s
    ≡ at (s.place + 1) (read s.memory.items x ∷ rest) (map opened_of (reverse s.opened.items))
    (touched v (marks_of (load_instr f n er ew)) x (fetched v (marks_of (load_instr f n er ew)) s.place (core_of s)))
load_at_is {E} v s f n x er ew index rest ops e =
    let os : List Opened = map opened_of (reverse s.opened.items) in
    let core : Core E = fetched v (marks_of (load_instr f n er ew)) s.place (core_of s) in
    let there : ℕ → Machine E = λ y. at (s.place + 1) (read s.memory.items y ∷ rest) os (touched v (marks_of (load_instr f n er ew)) y core) in
    ap (λ z. act v (marks_of (load_instr f n er ew)) (LoadAt f n) s.place z os core) ops ∙ ap there (sym e)
