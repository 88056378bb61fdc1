-- Each name of a made program is declared.
use Rattle.std.proofs.Common.{◌≡◌, ◌<◌, ◌%◌, ◌*◌, refl, ap, ◌∙◌, ℕ, zero, suc, List, [], ◌∷◌, Option, None, arith}
use Rattle.text_base.specs.declared.pos.Pos.{Pos}
use Rattle.mit_syntax.specs.Declarations.{Declaration}
use Rattle.mit_parser.specs.declared.fault.ParseFault.{ParseFault}
use Rattle.mit_parser.specs.Scope.{scope, scalar_fault, kept}
use Rattle.mit_parser.specs.Tree.{More, no_more, and_more}
use Rattle.mit_parser.specs.Faults.{note_command, note_commands, note_more, declared_by, body_fault}
use Rattle.mit_gen.specs.declared.unit.Kind.{Kind}
use Rattle.mit_gen.specs.declared.unit.Kind.TheVariants.{Sum, Masked, Countdown, Choice}
use Rattle.mit_gen.specs.Made.{draw, kind_of, unit_from, state_after}
use Rattle.made_laws.proofs.Trees.{low_name, high_name, unit_tree, declarations_tree, tree_of, unit_at, past_units, units_tree, program_tree}

abbrev labels : List (List ℕ)
labels = (76 ∷ []) ∷ (72 ∷ []) ∷ []

abbrev ds : (ℕ → Pos) → List Declaration
ds ps = (declared_by labels (declarations_tree ps)).list

module _ (ps : ℕ → Pos) where
  low_known : (a : ℕ) → a < 4 → (p : Pos) → scalar_fault (ds ps) (low_name a) p ≡ None
  low_known zero h p = refl
  low_known (suc zero) h p = refl
  low_known (suc (suc zero)) h p = refl
  low_known (suc (suc (suc zero))) h p = refl
  low_known (suc (suc (suc (suc a)))) h p = absurd (omega (arith, h))

  high_known : (a : ℕ) → a < 4 → (p : Pos) → scalar_fault (ds ps) (high_name a) p ≡ None
  high_known zero h p = refl
  high_known (suc zero) h p = refl
  high_known (suc (suc zero)) h p = refl
  high_known (suc (suc (suc zero))) h p = refl
  high_known (suc (suc (suc (suc a)))) h p = absurd (omega (arith, h))

  both : (x y : Option ParseFault) → x ≡ None → y ≡ None → kept x y ≡ None
  both x y h k = ap (λ z. kept z y) h ∙ k

  unit_known : (k : Kind) (a b c : ℕ) → a < 4 → b < 4 → (n : ℕ) → note_command (scope labels (ds ps)) (unit_tree k a b c ps n) None ≡ None
  unit_known Sum a b c ha hb n = both _ _ (low_known a ha _) (low_known b hb _)
  unit_known Masked a b c ha hb n = both _ _ (high_known a ha _) (high_known b hb _)
  unit_known Countdown a b c ha hb n = both _ _ (both _ _ (high_known a ha _) (high_known a ha _)) (high_known a ha _)
  unit_known Choice a b c ha hb n =
      both _ _ (both _ _ (both _ _ (both _ _ (low_known a ha _) (low_known b hb _)) (low_known a ha _)) (low_known a ha _)) (low_known a ha _)

  below : (x n : ℕ) → 0 < n → x % n < n
  below x n h = omega (arith, h)

  drawn_known : (s n : ℕ) → note_command (scope labels (ds ps)) (tree_of (unit_from s) ps n) None ≡ None
  drawn_known s n = unit_known (kind_of (draw s 0)) (draw s 1 % 4) (draw s 2 % 4) (draw s 3 % 100) (below (draw s 1) 4 (omega arith))
      (below (draw s 2) 4 (omega arith)) n

  units_known : (number n : ℕ) (m : More) → note_commands (scope labels (ds ps)) (units_tree number ps n m) None ≡ note_more (scope labels (ds ps)) m None
  units_known number zero m = ap (note_more (scope labels (ds ps)) m) (drawn_known (state_after number (4 * 0)) 40)
  units_known number (suc n) m =
      let p : ℕ = past_units number (suc n) in
      units_known number n (and_more (ps p) (tree_of (unit_at number (suc n)) ps (suc p)) m)
      ∙ ap (note_more (scope labels (ds ps)) m) (drawn_known (state_after number (4 * suc n)) (suc p))

  pub program_known : (number n : ℕ) → body_fault (program_tree number n ps) ≡ None
  program_known number n = units_known number n no_more
