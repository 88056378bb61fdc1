-- A program with a labelling that types it is sound.
use Rattle.std.proofs.Common.{◌≡◌, ℕ, List, Option, refl, sym, subst}
use Rattle.label_lattice.specs.Lattice.{IsLattice}
use Rattle.label_lattice.specs.Order.{lattice_of}
use Rattle.label_lattice.proofs.Orders.{order_is}
use Rattle.mit_syntax.specs.Program.{Syntax, plan_of}
use Rattle.mit_syntax.specs.Valid.{AreNumbered}
use Rattle.mit_parser.specs.Words.{Told}
use Rattle.mit_parser.specs.Scope.{scope}
use Rattle.mit_parser.specs.Named.{label_names}
use Rattle.mit_parser.specs.Spells.{IsProgram}
use Rattle.mit_parser.proofs.Small.{numbered_commands}
use Rattle.parse_laws.proofs.Meant.{program_order}
use Rattle.parse_laws.proofs.TextWords.{are_words}
use Rattle.parse_laws.proofs.TreeGrammar.{spelt}
use Rattle.timing_types.specs.Arrays.{ArraysIn}
use Rattle.timing_types.specs.Walk.{conditions}
use Rattle.timing_types.specs.Labelling.{variable_of, tree_of, IsLabelling}
use Rattle.timing_types.specs.Labelled.{LabelledProgram, HasType}
use Rattle.timing_types.proofs.Walk.{holds_from}
use Rattle.label_infer.specs.Least.{is_omitted}
use Rattle.label_infer.proofs.Meeting.{holds_meet}
use Rattle.leak_bound.specs.Source.{IsTypedWith}
use Rattle.tool_stages.specs.Stages.{Reads, Types}
use Rattle.tool_stages.specs.Spelt.{TextSpells}
use Rattle.tool_stages.specs.Accepted.{IsSound, IsAccepted, TypesLeast, TypedAreSound}
use Rattle.tool_stages.proofs.ArrayLemmas.{spelled_arrays}

-- a program that words spell
pub typed_made : (words : List Told) (p : Syntax) (q : LabelledProgram) → IsProgram words p → q.program ≡ p → IsLabelling p q.labels → HasType q → IsTypedWith q
typed_made words p q spelled is labelling typed =
    let numbered = subst (AreNumbered 0) (sym spelled.resolves.plan)
    (numbered_commands (scope (label_names spelled.tree.header) p.declarations) spelled.tree.commands 0) in
    record {
      lattice = subst (λ (s : Syntax). IsLattice (lattice_of s.order)) (sym is) (order_is p.order (program_order words p spelled));
      numbered = subst (λ (s : Syntax). AreNumbered 0 (plan_of s)) (sym is) numbered;
      labelling = subst (λ (s : Syntax). IsLabelling s q.labels) (sym is) labelling;
      arrays = subst (λ (s : Syntax). ArraysIn (variable_of s.order q.labels) (plan_of s)) (sym is) (spelled_arrays words p q.labels spelled labelling);
      typed = typed;
    }

-- and with its least labelling, where that types it
pub least_made : (words : List Told) (p : Syntax) (q : LabelledProgram) → IsProgram words p → Types p q → IsTypedWith q
least_made words p q spelled types = typed_made words p q spelled types.program types.least.labels.keeps types.typed

-- so it is sound
pub least_is_sound : TypedAreSound → (words : List Told) (p : Syntax) (q : LabelledProgram) → IsProgram words p → Types p q → IsSound q
least_is_sound sound words p q spelled types = sound q (least_made words p q spelled types)

-- a labelling that types the program meets what the program omits, so the least one flows to it
pub types_least : (words : List Told) (p : Syntax) (q : LabelledProgram) → IsProgram words p → Types p q → TypesLeast p q
types_least words p q spelled types =
    record {
      program = types.program;
      labels = types.least.labels;
      typed = types.typed;
      least = λ l labels typed.
          let lat = lattice_of p.order in
          let laws = order_is p.order (program_order words p spelled) in
          let tree = tree_of p.order l (plan_of p) 0 in
          let g = variable_of p.order l in
          let b = p.order.bottom in
          let all = (holds_from lat laws g tree b b b typed.0 (laws.same b) typed.1).0 in
          types.least.least l labels (holds_meet lat (is_omitted p.declarations) (conditions lat g tree b b) all);
    }

-- what a file is read as, its text spells
pub text_spells : (content : Option (Option (List ℕ))) (p : Syntax) → Reads content p → TextSpells content p
text_spells content p h =
    record {
      bytes = h.bytes;
      are = h.are;
      short = h.short;
      words = _;
      cut = are_words h.bytes h.tokens h.cut;
      spelt = spelt _ p p h.spelled (record { order = refl; pairs = refl; declarations = refl; commands = refl });
    }

pub accepted : (content : Option (Option (List ℕ))) (p : Syntax) (q : LabelledProgram) → Reads content p → Types p q → IsAccepted content
accepted content p q reads types =
    record {
      program = p;
      spells = text_spells content p reads;
      labelled = q;
      types = types_least _ p q reads.spelled types;
      typed = least_made _ p q reads.spelled types;
    }
