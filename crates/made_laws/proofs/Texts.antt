-- The text of a made program is that of its words.
use Rattle.std.proofs.Common.{◌≡◌, ◌<◌, ◌+◌, ◌*◌, ◌%◌, refl, ap, ◌∙◌, ℕ, zero, suc, List, [], ◌∷◌, ◌++◌, append_assoc, arith}
use Rattle.std.specs.Prelude.{decimal}
use Rattle.std.proofs.lemmas.Fmt.{decimal_digit, decimal_step}
use Rattle.mit_syntax.specs.Chunks.{Chunk, line, text}
use Rattle.mit_gen.specs.declared.unit.Kind.{Kind}
use Rattle.mit_gen.specs.declared.unit.Kind.TheVariants.{Sum, Masked, Countdown, Choice}
use Rattle.mit_gen.specs.Made.{draw, kind_of, unit_from, text_by_kind, unit_text, state_after, separator, units, declarations, program_text}
use Rattle.made_laws.specs.MadeWords.{part_by_kind, unit_part, separator_part, units_part, declarations_part, program_chunks}

one : (a : ℕ) → a < 4 → decimal a ≡ (48 + a) ∷ []
one a h = decimal_digit a (omega (arith, h))

zero_text : decimal 0 ≡ 48 ∷ []
zero_text = decimal_digit 0 (omega arith)

one_text : decimal 1 ≡ 49 ∷ []
one_text = decimal_digit 1 (omega arith)

sixteen_text : decimal 16 ≡ 49 ∷ 54 ∷ []
sixteen_text = decimal_step 16 (omega arith) (omega arith) ∙ ap (λ l. l ++ 54 ∷ []) one_text

unit_bytes : (k : Kind) (a b c : ℕ) → a < 4 → b < 4 → (q : List Chunk) → text (part_by_kind k a b c q) ≡ text_by_kind k a b c ++ text q
unit_bytes Sum a b c ha hb q = simp (one a ha, one b hb, append_assoc)
unit_bytes Masked a b c ha hb q = simp (one a ha, one b hb, sixteen_text, append_assoc)
unit_bytes Countdown a b c ha hb q = simp (one a ha, zero_text, one_text, append_assoc)
unit_bytes Choice a b c ha hb q = simp (one a ha, one b hb, one_text, append_assoc)

below : (x n : ℕ) → 0 < n → x % n < n
below x n h = omega (arith, h)

drawn_bytes : (s : ℕ) (q : List Chunk) → text (unit_part (unit_from s) q) ≡ unit_text (unit_from s) ++ text q
drawn_bytes s q = unit_bytes (kind_of (draw s 0)) (draw s 1 % 4) (draw s 2 % 4) (draw s 3 % 100) (below (draw s 1) 4 (omega arith))
    (below (draw s 2) 4 (omega arith)) q

separator_bytes : (n : ℕ) (q : List Chunk) → text (separator_part n q) ≡ separator n ++ text q
separator_bytes zero q = refl
separator_bytes (suc n) q = refl

units_bytes : (number n : ℕ) (q : List Chunk) → text (units_part number n q) ≡ units number n ++ text q
units_bytes number zero q = refl
units_bytes number (suc n) q =
    let s : ℕ = state_after number (4 * n) in
    units_bytes number n (separator_part n (unit_part (unit_from s) q))
    ∙ ap (λ l. units number n ++ l) (separator_bytes n (unit_part (unit_from s) q) ∙ ap (λ l. separator n ++ l) (drawn_bytes s q))
    ∙ grouped (units number n) (separator n) (unit_text (unit_from s)) (text q)
  where
    grouped : (x y z w : List ℕ) → x ++ (y ++ (z ++ w)) ≡ (x ++ (y ++ z)) ++ w
    grouped x y z w = simp append_assoc

declarations_bytes : (q : List Chunk) → text (declarations_part q) ≡ declarations ++ text q
declarations_bytes q = refl

pub program_bytes : (size number : ℕ) → text (program_chunks size number) ≡ program_text size number
program_bytes size number = declarations_bytes (units_part number size (line ∷ [])) ∙ ap (λ l. declarations ++ l) (units_bytes number size (line ∷ []))
