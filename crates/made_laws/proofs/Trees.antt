-- The tree of a made program.
use Rattle.std.proofs.Common.{◌≡◌, ◌+◌, ◌*◌, refl, sym, ap, ◌∙◌, ℕ, zero, suc, List, [], ◌∷◌, arith}
use Rattle.std.specs.Prelude.{pos}
use Rattle.text_base.specs.declared.pos.Pos.{Pos}
use Rattle.mit_syntax.specs.Chunks.{Chunk, line}
use Rattle.mit_syntax.specs.declared.token.Sign.TheVariants.{Semicolon}
use Rattle.mit_syntax.specs.declared.ast.Op.TheVariants.{Add, Sub, Rem, Gt}
use Rattle.mit_parser.specs.Words.{Told, sign_at}
use Rattle.mit_parser.specs.Limits.{CommandWithin, CommandsWithin, MoreWithin}
use Rattle.mit_parser.specs.Tree.{no_index, ExpressionTree, number_of, name_of, parens_of, binary_of, and_name, no_marks, CommandTree, assign_of, if_of}
use Rattle.mit_parser.specs.Tree.{while_of, mitigate_of, Block, block_of, else_of, Commands, commands_of, More, no_more, and_more, no_header, label_of}
use Rattle.mit_parser.specs.Tree.{scalar_of, DeclarationTree, declaration_of, Declarations, no_declarations, and_declaration, ProgramTree, front_command}
use Rattle.mit_parser.specs.Tree.{front_commands, front_more, front_declarations, front_program}
use Rattle.mit_gen.specs.declared.unit.Kind.{Kind}
use Rattle.mit_gen.specs.declared.unit.Kind.TheVariants.{Sum, Masked, Countdown, Choice}
use Rattle.mit_gen.specs.declared.unit.Unit.{Unit}
use Rattle.mit_gen.specs.Made.{unit_from, state_after}
use Rattle.made_laws.specs.Words.{words_of}
use Rattle.made_laws.specs.MadeWords.{low_label, high_label, part_by_kind, unit_part, separator_part, units_part, declarations_part, program_chunks}
use Rattle.made_laws.proofs.Onto.{onto}

abbrev pub low_name : ℕ → List ℕ
low_name a = 108 ∷ (48 + a) ∷ []

abbrev pub high_name : ℕ → List ℕ
high_name a = 104 ∷ (48 + a) ∷ []

-- one command in braces
abbrev one_command : Pos → CommandTree → Pos → Block
one_command p c q = block_of p (commands_of c no_more) q

-- `x := y + n` and `x := y - n`
abbrev adds : List ℕ → List ℕ → ℕ → (ℕ → Pos) → ℕ → CommandTree
adds x y c ps n =
    assign_of x (ps n) no_index (ps (suc n))
    (binary_of Add (omega arith) (name_of y (ps (suc (suc n))) no_index) (ps (suc (suc (suc n)))) (number_of (pos c) (ps (suc (suc (suc (suc n)))))))
    no_marks

abbrev takes : List ℕ → List ℕ → ℕ → (ℕ → Pos) → ℕ → CommandTree
takes x y c ps n =
    assign_of x (ps n) no_index (ps (suc n))
    (binary_of Sub (omega arith) (name_of y (ps (suc (suc n))) no_index) (ps (suc (suc (suc n)))) (number_of (pos c) (ps (suc (suc (suc (suc n)))))))
    no_marks

-- `x > n`
abbrev above : List ℕ → ℕ → (ℕ → Pos) → ℕ → ExpressionTree 1
above x c ps n = binary_of Gt (omega arith) (name_of x (ps n) no_index) (ps (suc n)) (number_of (pos c) (ps (suc (suc n))))

-- `x := (y + n) % 16`
abbrev masks : List ℕ → List ℕ → ℕ → (ℕ → Pos) → ℕ → CommandTree
masks x y c ps n =
    assign_of x (ps n) no_index (ps (suc n))
    (binary_of Rem (omega arith)
    (parens_of (ps (suc (suc n)))
    (binary_of Add (omega arith) (name_of y (ps (suc (suc (suc n)))) no_index) (ps (suc (suc (suc (suc n)))))
    (number_of (pos c) (ps (suc (suc (suc (suc (suc n))))))))
    (ps (suc (suc (suc (suc (suc (suc n))))))))
    (ps (suc (suc (suc (suc (suc (suc (suc n)))))))) (number_of (pos 16) (ps (suc (suc (suc (suc (suc (suc (suc (suc n)))))))))))
    no_marks

abbrev six : ℕ → ℕ
six n = suc (suc (suc (suc (suc (suc n)))))

-- `mitigate (c, H)` and one command, which has so many words
abbrev under : ℕ → (ℕ → Pos) → ℕ → CommandTree → ℕ → CommandTree
under c ps n body last =
    mitigate_of (ps n) (ps (suc n)) (number_of (pos c) (ps (suc (suc n)))) (and_name (ps (suc (suc (suc n)))) high_label (ps (suc (suc (suc (suc n))))))
    (ps (suc (suc (suc (suc (suc n))))))
    no_marks (one_command (ps (six n)) body (ps last))

abbrev pub unit_tree : Kind → ℕ → ℕ → ℕ → (ℕ → Pos) → ℕ → CommandTree
unit_tree Sum a b c ps n = adds (low_name a) (low_name b) c ps n
unit_tree Masked a b c ps n = under (c + 1) ps n (masks (high_name a) (high_name b) c ps (suc (six n))) (suc (suc (suc (suc (six (six n))))))
unit_tree Countdown a b c ps n =
    under (c + 1) ps n
    (while_of (ps (suc (six n))) (above (high_name a) 0 ps (suc (suc (six n)))) no_marks (ps (suc (suc (suc (suc (suc (six n)))))))
    (one_command (ps (six (six n))) (takes (high_name a) (high_name a) 1 ps (suc (six (six n)))) (ps (six (six (six n))))))
    (suc (six (six (six n))))
unit_tree Choice a b c ps n =
    if_of (ps n) (above (low_name a) c ps (suc n)) no_marks (ps (suc (suc (suc (suc n)))))
    (one_command (ps (suc (suc (suc (suc (suc n)))))) (takes (low_name b) (low_name a) c ps (six n)) (ps (suc (suc (suc (suc (suc (six n))))))))
    (else_of (ps (six (six n))) (one_command (ps (suc (six (six n)))) (adds (low_name a) (low_name a) 1 ps (suc (suc (six (six n)))))
    (ps (suc (six (six (six n)))))))

-- the number of the word after a unit
abbrev pub past_unit : Kind → ℕ → ℕ
past_unit Sum n = suc (suc (suc (suc (suc n))))
past_unit Masked n = suc (suc (suc (suc (suc (six (six n))))))
past_unit Countdown n = suc (suc (six (six (six n))))
past_unit Choice n = suc (suc (six (six (six n))))

pub unit_spelled : (k : Kind) (a b c : ℕ) (ps : ℕ → Pos) (n : ℕ) (q : List Chunk) (r : List Told)
    → front_command (unit_tree k a b c ps n) (onto (words_of q) ps (past_unit k n) r) ≡ onto (words_of (part_by_kind k a b c q)) ps n r
unit_spelled Sum a b c ps n q r = refl
unit_spelled Masked a b c ps n q r = refl
unit_spelled Countdown a b c ps n q r = refl
unit_spelled Choice a b c ps n q r = refl

abbrev low_tree : ℕ → (ℕ → Pos) → ℕ → DeclarationTree
low_tree a ps n = declaration_of (ps n) (low_name a) (ps (suc n)) (scalar_of (label_of (ps (suc (suc n))) low_label (ps (suc (suc (suc n))))))
    (ps (suc (suc (suc (suc n)))))

abbrev high_tree : ℕ → (ℕ → Pos) → ℕ → DeclarationTree
high_tree a ps n = declaration_of (ps n) (high_name a) (ps (suc n)) (scalar_of (label_of (ps (suc (suc n))) high_label (ps (suc (suc (suc n))))))
    (ps (suc (suc (suc (suc n)))))

abbrev pub declarations_tree : (ℕ → Pos) → Declarations
declarations_tree ps =
    and_declaration (low_tree 0 ps 0) (and_declaration (low_tree 1 ps 5) (and_declaration (low_tree 2 ps 10) (and_declaration (low_tree 3 ps 15)
    (and_declaration (high_tree 0 ps 20)
    (and_declaration (high_tree 1 ps 25) (and_declaration (high_tree 2 ps 30) (and_declaration (high_tree 3 ps 35) no_declarations)))))))

declarations_spelled : (ps : ℕ → Pos) (q : List Chunk) (r : List Told)
    → front_declarations (declarations_tree ps) (onto (words_of q) ps 40 r) ≡ onto (words_of (declarations_part q)) ps 0 r
declarations_spelled ps q r = refl

abbrev pub unit_at : ℕ → ℕ → Unit
unit_at number n = unit_from (state_after number (4 * n))

abbrev pub tree_of : Unit → (ℕ → Pos) → ℕ → CommandTree
tree_of u ps n = unit_tree u.kind u.a u.b u.c ps n

abbrev pub past_separator : ℕ → ℕ → ℕ
past_separator zero m = m
past_separator (suc n) m = suc m

-- the number of the word after n units
abbrev pub past_units : ℕ → ℕ → ℕ
past_units number zero = 40
past_units number (suc n) = past_unit (unit_at number n).kind (past_separator n (past_units number n))

-- one unit and n more, before others
abbrev pub units_tree : ℕ → (ℕ → Pos) → ℕ → More → Commands
units_tree number ps zero m = commands_of (tree_of (unit_at number 0) ps 40) m
units_tree number ps (suc n) m =
    units_tree number ps n (and_more (ps (past_units number (suc n))) (tree_of (unit_at number (suc n)) ps (suc (past_units number (suc n)))) m)

module _ (number : ℕ) (ps : ℕ → Pos) (r : List Told) where
  one_spelled : (u : Unit) (n : ℕ) (q : List Chunk) (m : More) → front_more m r ≡ onto (words_of q) ps (past_unit u.kind n) r
      → front_command (tree_of u ps n) (front_more m r) ≡ onto (words_of (unit_part u q)) ps n r
  one_spelled u n q m e = ap (front_command (tree_of u ps n)) e ∙ unit_spelled u.kind u.a u.b u.c ps n q r

  units_spelled : (n : ℕ) (q : List Chunk) (m : More) → front_more m r ≡ onto (words_of q) ps (past_units number (suc n)) r
      → front_commands (units_tree number ps n m) r ≡ onto (words_of (units_part number (suc n) q)) ps 40 r
  units_spelled zero q m e = one_spelled (unit_at number 0) 40 q m e
  units_spelled (suc n) q m e =
      let u : Unit = unit_at number (suc n) in
      let p : ℕ = past_units number (suc n) in
      units_spelled n (separator_part (suc n) (unit_part u q)) (and_more (ps p) (tree_of u ps (suc p)) m)
      (ap (λ l. sign_at Semicolon (ps p) ∷ l) (one_spelled u (suc p) q m e))

abbrev pub program_tree : ℕ → ℕ → (ℕ → Pos) → ProgramTree
program_tree number n ps = record { header = no_header; declarations = declarations_tree ps; commands = units_tree number ps n no_more }

pub program_spelled : (number n : ℕ) (ps : ℕ → Pos) (r : List Told)
    → onto (words_of (program_chunks (suc n) number)) ps 0 r ≡ front_program (program_tree number n ps) r
program_spelled number n ps r =
    sym (ap (front_declarations (declarations_tree ps)) (units_spelled number ps r n (line ∷ []) no_more refl)
    ∙ declarations_spelled ps (units_part number (suc n) (line ∷ [])) r)

unit_within : (k : Kind) (a b c : ℕ) (ps : ℕ → Pos) (n : ℕ) → CommandWithin 0 (unit_tree k a b c ps n)
unit_within Sum a b c ps n = (tt, (omega arith, omega arith))
unit_within Masked a b c ps n = ((omega arith, omega arith), (omega arith, ((tt, (omega arith, omega arith)), tt)))
unit_within Countdown a b c ps n =
    ((omega arith, omega arith), (omega arith, (((omega arith, omega arith), (omega arith, ((tt, (omega arith, omega arith)), tt))), tt)))
unit_within Choice a b c ps n =
    ((omega arith, omega arith), (omega arith, ((tt, (omega arith, omega arith)), tt)), (omega arith, ((tt, (omega arith, omega arith)), tt)))

pub units_within : (number : ℕ) (ps : ℕ → Pos) (n : ℕ) (m : More) → MoreWithin 0 m → CommandsWithin 0 (units_tree number ps n m)
units_within number ps zero m h = let u : Unit = unit_at number 0 in (unit_within u.kind u.a u.b u.c ps 40, h)
units_within number ps (suc n) m h =
    let u : Unit = unit_at number (suc n) in
    let p : ℕ = past_units number (suc n) in
    units_within number ps n (and_more (ps p) (tree_of u ps (suc p)) m) (unit_within u.kind u.a u.b u.c ps (suc p), h)
