-- The words of a made program stay apart.
use Rattle.std.proofs.Common.{◌≡◌, ◌<◌, ◌≤◌, ◌+◌, ◌*◌, ◌%◌, ◌^◌, refl, ℕ, zero, suc, List, [], ◌∷◌, true, false, ◌==◌, arith}
use Rattle.std.specs.Char.{is_ascii_digit}
use Rattle.label_lattice.specs.Names.{is_name_byte, keywords, is_one_of, IsName}
use Rattle.mit_syntax.specs.Lexemes.{StopsAt}
use Rattle.mit_syntax.specs.Chunks.{Chunk, line, text}
use Rattle.mit_gen.specs.declared.unit.Kind.{Kind}
use Rattle.mit_gen.specs.declared.unit.Kind.TheVariants.{Sum, Masked, Countdown, Choice}
use Rattle.mit_gen.specs.Made.{draw, kind_of, unit_from, state_after}
use Rattle.made_laws.specs.MadeWords.{part_by_kind, unit_part, separator_part, units_part, declared_low, declared_high, declarations_part, program_chunks}
use Rattle.parse_laws.proofs.Numerals.{number_kind, decimal_differs}
use Rattle.made_laws.proofs.Apart.{Apart}

name_byte : (a : ℕ) → a < 4 → is_name_byte (48 + a) ≡ true
name_byte zero h = refl
name_byte (suc zero) h = refl
name_byte (suc (suc zero)) h = refl
name_byte (suc (suc (suc zero))) h = refl
name_byte (suc (suc (suc (suc a)))) h = absurd (omega (arith, h))

low_no_keyword : (a : ℕ) → a < 4 → is_one_of keywords (108 ∷ (48 + a) ∷ []) ≡ false
unfolding keywords
low_no_keyword zero h = refl
low_no_keyword (suc zero) h = refl
low_no_keyword (suc (suc zero)) h = refl
low_no_keyword (suc (suc (suc zero))) h = refl
low_no_keyword (suc (suc (suc (suc a)))) h = absurd (omega (arith, h))

low_name : (a : ℕ) → a < 4 → IsName (108 ∷ (48 + a) ∷ [])
low_name a h = ((refl, (name_byte a h, tt)), omega arith, low_no_keyword a h)

high_name : (a : ℕ) → a < 4 → IsName (104 ∷ (48 + a) ∷ [])
unfolding keywords
high_name a h = ((refl, (name_byte a h, tt)), omega arith, refl)

label_low : IsName (76 ∷ [])
unfolding keywords
label_low = ((refl, tt), omega arith, refl)

label_high : IsName (72 ∷ [])
unfolding keywords
label_high = ((refl, tt), omega arith, refl)

-- what may follow a unit
pub record Ends (q : List Chunk) : Type 0 where
  pub digit : StopsAt is_ascii_digit (text q)
  pub equal : StopsAt (λ b. b == 61) (text q)
  pub slash : StopsAt (λ b. b == 47) (text q)
  pub apart : Apart q

small : (c : ℕ) → c < 100 → c ≤ 9223372036854775807
small c h = omega (arith, h)

next_small : (c : ℕ) → c < 100 → c + 1 ≤ 9223372036854775807
next_small c h = omega (arith, h)

next_below : (c : ℕ) → c < 100 → c + 1 < 2 ^ 64
next_below c h = omega (arith, h)

unit_apart : (k : Kind) (a b c : ℕ) → a < 4 → b < 4 → c < 100 → (q : List Chunk) → Ends q → Apart (part_by_kind k a b c q)
unit_apart Sum a b c ha hb hc q e =
    (low_name a ha, refl, (refl, (refl, refl), (low_name b hb, refl, (refl, (refl, refl), (number_kind c (small c hc), e.digit, e.apart)))))
unit_apart Masked a b c ha hb hc q e = (
  refl,
  refl,
  (
    refl,
    (decimal_differs 61 (c + 1) _ (next_below c hc) refl, decimal_differs 47 (c + 1) _ (next_below c hc) refl),
    (
      number_kind (c + 1) (next_small c hc),
      refl,
      (
        refl,
        (refl, refl),
        (
          label_high,
          refl,
          (
            refl,
            (refl, refl),
            (
              refl,
              (refl, refl),
              (
                high_name a ha,
                refl,
                (
                  refl,
                  (refl, refl),
                  (
                    refl,
                    (refl, refl),
                    (
                      high_name b hb,
                      refl,
                      (
                        refl,
                        (refl, refl),
                        (
                          number_kind c (small c hc),
                          refl,
                          (refl, (refl, refl), (refl, (refl, refl), (number_kind 16 (omega arith), refl, (refl, (e.equal, e.slash), e.apart)))),
                        ),
                      ),
                    ),
                  ),
                ),
              ),
            ),
          ),
        ),
      ),
    ),
  ),
)
unit_apart Countdown a b c ha hb hc q e = (
  refl,
  refl,
  (
    refl,
    (decimal_differs 61 (c + 1) _ (next_below c hc) refl, decimal_differs 47 (c + 1) _ (next_below c hc) refl),
    (
      number_kind (c + 1) (next_small c hc),
      refl,
      (
        refl,
        (refl, refl),
        (
          label_high,
          refl,
          (
            refl,
            (refl, refl),
            (
              refl,
              (refl, refl),
              (
                refl,
                refl,
                (
                  high_name a ha,
                  refl,
                  (
                    refl,
                    (refl, refl),
                    (
                      number_kind 0 (omega arith),
                      refl,
                      (
                        refl,
                        refl,
                        (
                          refl,
                          (refl, refl),
                          (
                            high_name a ha,
                            refl,
                            (
                              refl,
                              (refl, refl),
                              (
                                high_name a ha,
                                refl,
                                (refl, (refl, refl), (number_kind 1 (omega arith), refl, (refl, (refl, refl), (refl, (e.equal, e.slash), e.apart)))),
                              ),
                            ),
                          ),
                        ),
                      ),
                    ),
                  ),
                ),
              ),
            ),
          ),
        ),
      ),
    ),
  ),
)
unit_apart Choice a b c ha hb hc q e = (
  refl,
  refl,
  (
    low_name a ha,
    refl,
    (
      refl,
      (refl, refl),
      (
        number_kind c (small c hc),
        refl,
        (
          refl,
          refl,
          (
            refl,
            (refl, refl),
            (
              low_name b hb,
              refl,
              (
                refl,
                (refl, refl),
                (
                  low_name a ha,
                  refl,
                  (
                    refl,
                    (refl, refl),
                    (
                      number_kind c (small c hc),
                      refl,
                      (
                        refl,
                        (refl, refl),
                        (
                          refl,
                          refl,
                          (
                            refl,
                            (refl, refl),
                            (
                              low_name a ha,
                              refl,
                              (
                                refl,
                                (refl, refl),
                                (low_name a ha, refl, (refl, (refl, refl), (number_kind 1 (omega arith), refl, (refl, (e.equal, e.slash), e.apart)))),
                              ),
                            ),
                          ),
                        ),
                      ),
                    ),
                  ),
                ),
              ),
            ),
          ),
        ),
      ),
    ),
  ),
)

below : (x n : ℕ) → 0 < n → x % n < n
below x n h = omega (arith, h)

drawn_apart : (s : ℕ) (q : List Chunk) → Ends q → Apart (unit_part (unit_from s) q)
drawn_apart s q e =
    unit_apart (kind_of (draw s 0)) (draw s 1 % 4) (draw s 2 % 4) (draw s 3 % 100) (below (draw s 1) 4 (omega arith)) (below (draw s 2) 4 (omega arith))
    (below (draw s 3) 100 (omega arith)) q e

separator_ends : (q : List Chunk) → Apart q → Ends (separator_part 1 q)
separator_ends q h = record { digit = refl; equal = refl; slash = refl; apart = (refl, (refl, refl), h) }

units_apart : (number n : ℕ) (q : List Chunk) → Ends q → Apart (units_part number n q)
units_apart number zero q e = e.apart
units_apart number (suc zero) q e = drawn_apart number q e
units_apart number (suc (suc n)) q e =
    units_apart number (suc n) (separator_part (suc n) (unit_part (unit_from (state_after number (4 * suc n))) q))
    (separator_ends (unit_part (unit_from (state_after number (4 * suc n))) q) (drawn_apart (state_after number (4 * suc n)) q e))

low_apart : (a : ℕ) → a < 4 → (q : List Chunk) → Apart q → Apart (declared_low a q)
low_apart a h q e = (refl, refl, (low_name a h, refl, (refl, (refl, refl), (label_low, refl, (refl, (refl, refl), e)))))

high_apart : (a : ℕ) → a < 4 → (q : List Chunk) → Apart q → Apart (declared_high a q)
high_apart a h q e = (refl, refl, (high_name a h, refl, (refl, (refl, refl), (label_high, refl, (refl, (refl, refl), e)))))

declarations_apart : (q : List Chunk) → Apart q → Apart (declarations_part q)
declarations_apart q e =
    let h3 = high_apart 3 (omega arith) q e in
    let h2 = high_apart 2 (omega arith) (declared_high 3 q) h3 in
    let h1 = high_apart 1 (omega arith) (declared_high 2 (declared_high 3 q)) h2 in
    let h0 = high_apart 0 (omega arith) (declared_high 1 (declared_high 2 (declared_high 3 q))) h1 in
    let rest : List Chunk = declared_high 0 (declared_high 1 (declared_high 2 (declared_high 3 q))) in
    low_apart 0 (omega arith) (declared_low 1 (declared_low 2 (declared_low 3 rest)))
    (low_apart 1 (omega arith) (declared_low 2 (declared_low 3 rest)) (low_apart 2 (omega arith) (declared_low 3 rest) (low_apart 3 (omega arith) rest h0)))

pub program_apart : (size number : ℕ) → Apart (program_chunks size number)
program_apart size number =
    declarations_apart (units_part number size (line ∷ []))
    (units_apart number size (line ∷ []) (record { digit = refl; equal = refl; slash = refl; apart = tt }))
