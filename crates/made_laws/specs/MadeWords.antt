-- The words of a made program.
use Rattle.std.specs.Prelude.{ℕ, ◌+◌, ◌*◌, List, [], ◌∷◌}
use Rattle.std.proofs.Common.{zero, suc}
use Rattle.mit_syntax.specs.declared.token.Keyword.TheVariants.{Var, If, Then, Else, While, Do, Mitigate}
use Rattle.mit_syntax.specs.declared.token.Sign.TheVariants.{Assign, Colon, Semicolon, LeftRound, RightRound, LeftBrace, RightBrace, Plus, Minus, Percent}
use Rattle.mit_syntax.specs.declared.token.Sign.TheVariants.{Greater}
use Rattle.mit_syntax.specs.Chunks.{Word, Chunk, space, line}
use Rattle.mit_syntax.specs.Layout.{Part, a_key, a_sign, a_number, a_name, a_comma, spaced, spaced_key}
use Rattle.mit_gen.specs.declared.unit.Kind.{Kind}
use Rattle.mit_gen.specs.declared.unit.Kind.TheVariants.{Sum, Masked, Countdown, Choice}
use Rattle.mit_gen.specs.declared.unit.Unit.{Unit}
use Rattle.mit_gen.specs.Made.{state_after, unit_from}
use Rattle.made_laws.specs.Words.{words_of}

-- `l` or `h` and a digit
abbrev pub low : ℕ → Part
low a q = a_name (108 ∷ (48 + a) ∷ []) q

abbrev pub high : ℕ → Part
high a q = a_name (104 ∷ (48 + a) ∷ []) q

-- the labels
abbrev pub low_label : List ℕ
low_label = 76 ∷ []

abbrev pub high_label : List ℕ
high_label = 72 ∷ []

-- what stands between braces, in one line
abbrev pub braced : Part → Part
braced f q = a_sign LeftBrace (space ∷ f (space ∷ a_sign RightBrace q))

-- `mitigate (N, H)` and a block
abbrev pub mitigated : ℕ → Part → Part
mitigated n f q = a_key Mitigate (space ∷ a_sign LeftRound (a_number n (a_comma (a_name high_label (a_sign RightRound (space ∷ braced f q))))))

abbrev pub part_by_kind : Kind → ℕ → ℕ → ℕ → Part
part_by_kind Sum a b c q = low a (spaced Assign (low b (spaced Plus (a_number c q))))
part_by_kind Masked a b c q =
    mitigated (c + 1) (λ p. high a (spaced Assign (a_sign LeftRound (high b (spaced Plus (a_number c (a_sign RightRound (spaced Percent (a_number 16 p)))))))))
    q
part_by_kind Countdown a b c q =
    mitigated (c + 1) (λ p. a_key While (space ∷ high a
    (spaced Greater (a_number 0 (spaced_key Do (braced (λ o. high a (spaced Assign (high a (spaced Minus (a_number 1 o))))) p)))))) q
part_by_kind Choice a b c q =
    a_key If (space ∷ low a (spaced Greater (a_number c (spaced_key Then (braced (λ p. low b (spaced Assign (low a (spaced Minus (a_number c p)))))
    (spaced_key Else (braced (λ p. low a (spaced Assign (low a (spaced Plus (a_number 1 p))))) q)))))))

abbrev pub unit_part : Unit → Part
unit_part u = part_by_kind u.kind u.a u.b u.c

-- what stands before the unit after n others
abbrev pub separator_part : ℕ → Part
separator_part zero q = q
separator_part (suc n) q = a_sign Semicolon (line ∷ q)

-- the first n units
abbrev pub units_part : ℕ → ℕ → Part
units_part number zero q = q
units_part number (suc n) q = units_part number n (separator_part n (unit_part (unit_from (state_after number (4 * n))) q))

abbrev pub declared_low : ℕ → Part
declared_low a q = a_key Var (space ∷ low a (spaced Colon (a_name low_label (a_sign Semicolon (line ∷ q)))))

abbrev pub declared_high : ℕ → Part
declared_high a q = a_key Var (space ∷ high a (spaced Colon (a_name high_label (a_sign Semicolon (line ∷ q)))))

abbrev pub declarations_part : Part
declarations_part q =
    declared_low 0 (declared_low 1 (declared_low 2 (declared_low 3 (declared_high 0 (declared_high 1 (declared_high 2 (declared_high 3 q)))))))

abbrev pub program_chunks : ℕ → ℕ → List Chunk
program_chunks size number = declarations_part (units_part number size (line ∷ []))

-- the words of a program of so many units, from the first state
abbrev pub program_words : ℕ → ℕ → List Word
program_words size number = words_of (program_chunks size number)
