-- Words that spell a program are not refused.
use Rattle.std.proofs.Common.{◌≡◌, refl, sym, ap, ◌∙◌, subst, ℕ, List, [], ◌∷◌, ◌++◌, append_assoc, false, inl, inr, length, arith}
use Rattle.std.proofs.lemmas.Option.{none-some}
use Rattle.text_base.specs.declared.pos.Pos.{Pos}
use Rattle.label_lattice.specs.declared.label.Label.{Label}
use Rattle.label_lattice.specs.declared.fault.LatticeFault.{LatticeFault}
use Rattle.label_lattice.specs.declared.fault.LatticeFault.TheVariants.{TooMany as ManyLabels, Cycle, NoBottom, NoJoin}
use Rattle.label_lattice.specs.Chains.{Chain, IsSound, IsFault}
use Rattle.mit_parser.specs.declared.counts.Counts.{Counts}
use Rattle.mit_parser.specs.declared.fault.ParseFault.{ParseFault}
use Rattle.mit_parser.specs.declared.fault.ParseFault.TheVariants.{Unexpected, TooDeep, TooMany, Unknown, Twice, Lattice, Memory, Size, Misuse}
use Rattle.mit_parser.specs.Words.{Told}
use Rattle.mit_parser.specs.Counting.{nothing_yet, count, is_over, counts_after, Fits}
use Rattle.mit_parser.specs.Tree.{ProgramTree}
use Rattle.mit_parser.specs.Limits.{CommandsWithin}
use Rattle.mit_parser.specs.Faults.{Labelled, header_labels, header_pairs, IsLatticeFault, IsNameFault}
use Rattle.mit_parser.specs.Named.{label_pairs}
use Rattle.mit_parser.specs.Spells.{Spells, IsUnexpected, IsTooDeep, IsMisnamed, Refuses}
use Rattle.mit_parser.proofs.NamedWhole.{labels_kept, pairs_kept, no_header_fault, no_body_fault}
use Rattle.parse_laws.specs.Spelled.{IsSpelled}
use Rattle.parse_laws.proofs.OneProgram.{one_tree}
use Rattle.parse_laws.proofs.Within.{fits_program}

-- no word among those that fit passes a limit
pub none_passes : (before after : List Told) (b : Told) (c : Counts) → Fits c (before ++ b ∷ after) → is_over (count (counts_after c before) b.symbol) ≡ false
none_passes [] after b c f = f.0
none_passes (x ∷ before) after b c f = none_passes before after b (count c x.symbol) f.1

-- a lattice has no fault
no_fault : (n : ℕ) (flows : ℕ → ℕ → Type 0) → IsSound n flows → (f : LatticeFault) → IsFault n flows f → ⊥
no_fault n flows s (ManyLabels k) h = let few = s.few in absurd (omega (arith, few, h.0))
no_fault n flows s (Cycle a b) h = s.no_cycle a.number b.number h.1.ordered h.1.within h.1.holds
no_fault n flows s (NoBottom a b) h = s.one_lowest a.number b.number h.2.ordered h.2.within h.2.holds
no_fault n flows s (NoJoin a b) h = s.joined a.number b.number h.3.ordered h.3.within h.3.holds

pub no_lattice_fault : (labels : List (List ℕ)) (pairs : List (Label × Label)) → IsSound (length labels) (Chain pairs) → (f : ParseFault)
    → IsLatticeFault labels pairs f → ⊥
no_lattice_fault labels pairs s (Lattice l) h = no_fault (length labels) (Chain pairs) s l h
no_lattice_fault labels pairs s (Unexpected p) h = h
no_lattice_fault labels pairs s (TooDeep p) h = h
no_lattice_fault labels pairs s (TooMany n) h = h
no_lattice_fault labels pairs s (Unknown p) h = h
no_lattice_fault labels pairs s (Twice p) h = h
no_lattice_fault labels pairs s Memory h = h
no_lattice_fault labels pairs s (Size p) h = h
no_lattice_fault labels pairs s (Misuse p) h = h

-- words that a tree spells are not refused for a word
module _ (words : List Told) (t : ProgramTree) (spells : Spells t words) where
  pub not_unexpected : (p : Pos) → IsUnexpected words p → ⊥
  not_unexpected p u =
      let whole : (u.before ++ u.bad ∷ []) ++ u.after ≡ words = append_assoc u.before (u.bad ∷ []) u.after ∙ sym u.are in
      u.ends (u.after, t, subst (Spells t) (sym whole) spells)

  pub not_too_deep : CommandsWithin 0 t.commands → (p : Pos) → IsTooDeep words p → ⊥
  not_too_deep within p d =
      let fits : Fits nothing_yet (d.before ++ d.deep ∷ d.after) = subst (Fits nothing_yet) d.are (fits_program t words within spells) in
      let no = none_passes d.before d.after d.deep nothing_yet fits in
      let yes = d.passes in
      cc

module _ (words : List Told) (h : IsSpelled words) where
  sound : IsSound (length (header_labels h.tree.header).names) (Chain (header_pairs h.tree.header))
  sound =
      let P : List (List ℕ) → Type 0 = λ n. IsSound (length n) (Chain (label_pairs h.tree.header)) in
      let Q : List (Label × Label) → Type 0 = λ p. IsSound (length (header_labels h.tree.header).names) (Chain p) in
      subst Q (sym (pairs_kept h.tree h.named)) (subst P (sym (ap (λ (l : Labelled). l.names) (labels_kept h.tree h.named))) h.sound)

  no_name_fault : (f : ParseFault) → IsNameFault h.tree f → ⊥
  no_name_fault f (inl e) = none-some f (sym (no_header_fault h.tree h.named) ∙ e)
  no_name_fault f (inr (inl e)) = no_lattice_fault (header_labels h.tree.header).names (header_pairs h.tree.header) sound f e.1
  no_name_fault f (inr (inr e)) = none-some f (sym (no_body_fault h.tree h.named) ∙ e.2)

  not_misnamed : (f : ParseFault) → IsMisnamed words f → ⊥
  not_misnamed f m = no_name_fault f (subst (λ t. IsNameFault t f) (one_tree words m.tree h.tree m.spells h.spells) m.first)

  pub not_refused : (f : ParseFault) → Refuses words f → f ≡ Memory
  not_refused (Unexpected p) r = absurd (not_unexpected words h.tree h.spells p r)
  not_refused (TooDeep p) r = absurd (not_too_deep words h.tree h.spells h.within p r)
  not_refused (TooMany n) r = absurd (not_misnamed (TooMany n) r)
  not_refused (Unknown p) r = absurd (not_misnamed (Unknown p) r)
  not_refused (Twice p) r = absurd (not_misnamed (Twice p) r)
  not_refused (Lattice l) r = absurd (not_misnamed (Lattice l) r)
  not_refused (Size p) r = absurd (not_misnamed (Size p) r)
  not_refused (Misuse p) r = absurd (not_misnamed (Misuse p) r)
  not_refused Memory r = refl
