-- The lines of the first instructions.
use Rattle.std.proofs.Common.{◌≡◌, sym, ap, ◌∙◌, ℕ, ◌+◌, ◌≤◌, List, [], ◌∷◌, ◌++◌, length, drop, append_assoc, Some}
use Rattle.std.specs.Prelude.{slice_get}
use Rattle.std.proofs.lemmas.List.{append-nil, drop_more, drop_all}
use Rattle.std.proofs.lemmas.Option.{slice_get_within, get_or_from_slice_get}
use Rattle.label_lattice.specs.Order.{Order}
use Rattle.mit_syntax.specs.Declarations.{Declaration}
use Rattle.label_code.specs.declared.code.Instr.{Instr}
use Rattle.image_print.specs.ImageText.{line_text, lines_from}

-- with the lines from a place on, these bytes are the whole text
pub record PrintedTo (bytes : List ℕ) (o : Order) (ds : List Declaration) (place : ℕ) (instrs : List Instr) : Type 0 where
  pub is : bytes ++ lines_from o ds place (drop place instrs) ≡ lines_from o ds 0 instrs

module _ (o : Order) (ds : List Declaration) (instrs : List Instr) where
  pub none_printed : (bytes : List ℕ) → bytes ≡ [] → PrintedTo bytes o ds 0 instrs
  none_printed bytes e = record { is = ap (λ b. b ++ lines_from o ds 0 instrs) e }

  pub next_printed : (b c : List ℕ) (k : ℕ) (i : Instr) → slice_get instrs k ≡ Some i → PrintedTo b o ds k instrs → c ≡ b ++ line_text o ds k i
      → PrintedTo c o ds (k + 1) instrs
  next_printed b c k i e so h =
      let rest : List Instr = drop (k + 1) instrs in
      let front : drop k instrs ≡ i ∷ rest = drop_more instrs k i (slice_get_within instrs k i e) ∙ ap (λ x. x ∷ rest) (get_or_from_slice_get instrs k i i e) in
      record {
        is =
            ap (λ z. z ++ lines_from o ds (k + 1) rest) h
            ∙ append_assoc b (line_text o ds k i) (lines_from o ds (k + 1) rest)
            ∙ ap (λ z. b ++ lines_from o ds k z) (sym front)
            ∙ so.is;
      }

  pub all_printed : (b : List ℕ) (k : ℕ) → length instrs ≤ k → PrintedTo b o ds k instrs → b ≡ lines_from o ds 0 instrs
  all_printed b k h so = sym (append-nil b) ∙ ap (λ z. b ++ lines_from o ds k z) (sym (drop_all k instrs h)) ∙ so.is
