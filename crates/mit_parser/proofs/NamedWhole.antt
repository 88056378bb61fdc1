-- The finder of the first fault finds none in a tree exactly where its names are right.
use Rattle.std.proofs.Common.{◌≡◌, ◌≤◌, refl, ap, ◌∙◌, sym, subst, ℕ, List, [], length, Bool, true, false, Option, Some, None, cond, arith}
use Rattle.std.specs.Prelude.{ltb, ◌↔◌}
use Rattle.std.proofs.lemmas.Bool.{ltb-false, le-ltb}
use Rattle.label_lattice.specs.declared.label.Label.{Label}
use Rattle.label_lattice.specs.Chains.{IsBuilt}
use Rattle.mit_syntax.specs.Declarations.{Declaration}
use Rattle.mit_syntax.specs.Program.{Syntax, plan_of}
use Rattle.mit_parser.specs.declared.fault.ParseFault.{ParseFault}
use Rattle.mit_parser.specs.declared.fault.ParseFault.TheVariants.{TooMany}
use Rattle.mit_parser.specs.Scope.{scope, kept}
use Rattle.mit_parser.specs.Tree.{ProgramTree}
use Rattle.mit_parser.specs.Meaning.{plan_commands}
use Rattle.mit_parser.specs.Faults.{Labelled, header_labels, header_pairs, header_fault, Declared, declaring, declared_by, many_fault, note_commands}
use Rattle.mit_parser.specs.Faults.{body_fault}
use Rattle.mit_parser.specs.Named.{label_names, label_pairs, declarations_in, CommandsNamed, IsNamed}
use Rattle.mit_parser.specs.Spells.{Resolves}
use Rattle.mit_parser.proofs.Known.{kept_split}
use Rattle.mit_parser.proofs.NamedUses.{named_commands, calm_commands}
use Rattle.mit_parser.proofs.NamedHeader.{labels_are, pairs_are, header_named, header_calm, are_declared, declared_are}

abbrev body_under : ProgramTree → List (List ℕ) → Declared → Option ParseFault
body_under t labels s = note_commands (scope labels s.list) t.commands (kept s.fault (many_fault s.list))

not_many : (ds : List Declaration) → many_fault ds ≡ None → length ds ≤ 1024
not_many ds e = by (ltb 1024 (length ds)) refl
  where
    by : (b : Bool) → ltb 1024 (length ds) ≡ b → length ds ≤ 1024
    by true q = let z = sym (ap (λ b. cond b (Some (TooMany (length ds))) None) q) ∙ e in cc
    by false q = ltb-false 1024 (length ds) q

few_enough : (ds : List Declaration) → length ds ≤ 1024 → many_fault ds ≡ None
few_enough ds h = ap (λ b. cond b (Some (TooMany (length ds))) None) (le-ltb 1024 (length ds) h)

module _ (t : ProgramTree) where
  abbrev labels : List (List ℕ)
  labels = label_names t.header

  abbrev ds : List Declaration
  ds = declarations_in labels t.declarations

  pub named_of : header_fault t.header ≡ None → body_fault t ≡ None → IsNamed t
  named_of e f =
      let H = header_named t.header e in
      let g : body_under t labels (declared_by labels t.declarations) ≡ None =
      ap (λ (l : Labelled). body_under t l.names (declared_by l.names t.declarations)) (sym (labels_are t.header H.0)) ∙ f in
      let s : Declared = declared_by labels t.declarations in
      let C = named_commands (scope labels s.list) t.commands (kept s.fault (many_fault s.list)) g in
      let k = kept_split s.fault (many_fault s.list) C.0 in
      let D = are_declared labels t.declarations [] None (λ i j d l m. absurd (omega (arith, m))) (omega arith) k.0 in
      let are : s ≡ declaring ds None = declared_are labels t.declarations [] D.shapes D.once (omega (arith, D.few)) in
      record {
        labels = H.0;
        pairs = H.1;
        shapes = D.shapes;
        once = D.once;
        few = record { count = not_many ds (ap (λ (x : Declared). many_fault x.list) (sym are) ∙ k.1); elements = D.few };
        uses = subst (λ (x : Declared). CommandsNamed (scope labels x.list) t.commands) are C.1;
      }

  -- what the finder keeps of a tree whose names are right
  module _ (h : IsNamed t) where
    pub labels_kept : header_labels t.header ≡ record { names = labels; fault = None }
    labels_kept = labels_are t.header h.labels

    pub pairs_kept : header_pairs t.header ≡ label_pairs t.header
    pairs_kept = pairs_are t.header h.labels

    list_kept : declared_by labels t.declarations ≡ declaring ds None
    list_kept = declared_are labels t.declarations [] h.shapes h.once (let few = h.few.elements in omega (arith, few))

    pub declared_kept : (declared_by (header_labels t.header).names t.declarations).list ≡ ds
    declared_kept = ap (λ (l : Labelled). (declared_by l.names t.declarations).list) labels_kept ∙ ap (λ (x : Declared). x.list) list_kept

    pub no_header_fault : header_fault t.header ≡ None
    no_header_fault = header_calm t.header h.labels h.pairs

    pub no_body_fault : body_fault t ≡ None
    no_body_fault =
        ap (λ (l : Labelled). body_under t l.names (declared_by l.names t.declarations)) labels_kept
        ∙ ap (body_under t labels) list_kept
        ∙ ap (note_commands (scope labels ds) t.commands) (few_enough ds h.few.count)
        ∙ calm_commands (scope labels ds) t.commands h.uses

  pub named_exactly : IsNamed t ↔ ((header_fault t.header ≡ None) × (body_fault t ≡ None))
  named_exactly = (λ h. (no_header_fault h, no_body_fault h), λ e. named_of e.0 e.1)

-- what a tree means, as the finder sees it
pub record IsFound (t : ProgramTree) (s : Syntax) : Type 0 where
  pub header : header_fault t.header ≡ None
  pub order : IsBuilt (header_labels t.header).names (header_pairs t.header) s.order
  pub pairs : s.pairs ≡ header_pairs t.header
  pub declarations : s.declarations ≡ (declared_by (header_labels t.header).names t.declarations).list
  pub body : body_fault t ≡ None
  pub plan : plan_of s ≡ plan_commands (scope (header_labels t.header).names s.declarations) 0 t.commands

pub resolves_of : (t : ProgramTree) (s : Syntax) → IsFound t s → Resolves t s
resolves_of t s f =
    let h = named_of t f.header f.body in
    let names : (header_labels t.header).names ≡ label_names t.header = ap (λ (l : Labelled). l.names) (labels_kept t h) in
    record {
      named = h;
      order = subst (λ (n : List (List ℕ)). IsBuilt n (label_pairs t.header) s.order) names
          (subst (λ (p : List (Label × Label)). IsBuilt (header_labels t.header).names p s.order) (pairs_kept t h) f.order);
      pairs = f.pairs ∙ pairs_kept t h;
      declarations = f.declarations ∙ declared_kept t h;
      plan = f.plan ∙ ap (λ (n : List (List ℕ)). plan_commands (scope n s.declarations) 0 t.commands) names;
    }
