-- A field tells which assignments it is of.
use Rattle.std.proofs.Common.{◌≡◌, ℕ, zero, suc, ◌+◌, ◌<◌, ◌^◌, List, [], ◌∷◌, ◌++◌, length, refl, sym, ap, ◌∙◌, subst, arith, append_assoc, append-nil}
use Rattle.std.proofs.Common.{get_or, Option, Some, None, ℤ}
use Rattle.std.specs.Prelude.{true, false, ◌||◌, ◌==◌, map, codes, decimal, ◌↔◌}
use Rattle.std.specs.Fmt.{signed_decimal}
use Rattle.std.specs.Char.{is_ascii_alphabetic, is_ascii_digit}
use Rattle.std.proofs.lemmas.Fmt.{decimal_injective, signed_decimal_injective}
use Rattle.std.proofs.lemmas.Bool.{both_ways}
use Rattle.std.proofs.lemmas.List.{length-map}
use Rattle.label_lattice.specs.Names.{IsWord, Each, is_name_byte}
use Rattle.mit_syntax.specs.Declarations.{Declaration, cell_at, variables}
use Rattle.mit_syntax.specs.Program.{Syntax}
use Rattle.mit_syntax.specs.Valid.{IsValid}
use Rattle.label_code.specs.Machine.{Event, Wrote, Began, Ended}
use Rattle.event_print.specs.Text.{cell_text, place_text}
use Rattle.seen_line.specs.Field.{item, item_of, spaced, field_of, field_text, IsPrintable, ArePrintable}
use Rattle.seen_line.proofs.Chars.{Free, free-append, free-decimal, free-signed, free-name, heads, tails, split, no_split}
use Rattle.seen_line.proofs.Variables.{names, same_cell, cell_named, placed, few_variables}

-- a name has letters, digits and `_` alone, and does not begin with `-`
word_bytes : (w : List ℕ) → IsWord w → Each is_name_byte w
word_bytes [] h = absurd h
word_bytes (b ∷ r) h = (ap (λ z. z || (is_ascii_digit b || (b == 95))) h.0, h.1)

-- a text that does not begin with `-`, of bytes that are no space
abbrev pub IsPiece : List ℕ → Type 0
IsPiece [] = ⊥
IsPiece (b ∷ r) = (b ≡ 45 → ⊥) × Free 32 (b ∷ r)

abbrev pub ArePieces : List (List ℕ) → Type 0
ArePieces [] = Unit {0}
ArePieces (w ∷ ws) = IsPiece w × ArePieces ws

piece_free : (w : List ℕ) → IsPiece w → Free 32 w
piece_free [] h = absurd h
piece_free (b ∷ r) h = h.1

piece_front : (w rest : List ℕ) → IsWord w → Free 32 w → Free 32 rest → IsPiece (w ++ rest)
piece_front [] rest h f g = absurd h
piece_front (b ∷ r) rest h f g = (
  λ e. both_ways (is_ascii_alphabetic 45) refl (subst (λ z. is_ascii_alphabetic z ≡ true) e h.0),
  free-append 32 (b ∷ r) rest f g,
)

piece_not_dash : (w rest : List ℕ) → IsPiece w → codes "-" ≡ w ++ rest → ⊥
piece_not_dash [] rest h e = h
piece_not_dash (b ∷ r) rest h e = h.0 (sym (heads 45 b [] (r ++ rest) e))

-- pieces are told by their field
spaced_same : (w w' : List ℕ) (ws ws' : List (List ℕ)) → IsPiece w → IsPiece w' → ArePieces ws → ArePieces ws'
    → w ++ spaced ws ≡ w' ++ spaced ws' → w ∷ ws ≡ w' ∷ ws'
spaced_same w w' [] [] p p' q q' e = ap (λ z. z ∷ []) (sym (append-nil w) ∙ (e ∙ append-nil w'))
spaced_same w w' [] (u ∷ us) p p' q q' e = absurd (no_split 32 w w' (u ++ spaced us) (piece_free w p) (sym (append-nil w) ∙ e))
spaced_same w w' (u ∷ us) [] p p' q q' e = absurd (no_split 32 w' w (u ++ spaced us) (piece_free w' p') (sym (append-nil w') ∙ sym e))
spaced_same w w' (u ∷ us) (u' ∷ us') p p' q q' e =
    let s = split 32 w (u ++ spaced us) w' (u' ++ spaced us') (piece_free w p) (piece_free w' p') e in
    ap (λ z. z ∷ (u ∷ us)) s.0 ∙ ap (λ z. w' ∷ z) (spaced_same u u' us us' q.0 q'.0 q.1 q'.1 s.1)

field_same : (ws ws' : List (List ℕ)) → ArePieces ws → ArePieces ws' → field_of ws ≡ field_of ws' → ws ≡ ws'
field_same [] [] p q e = refl
field_same [] (w ∷ ws) p q e = absurd (piece_not_dash w (spaced ws) q.0 e)
field_same (w ∷ ws) [] p q e = absurd (piece_not_dash w (spaced ws) p.0 (sym e))
field_same (w ∷ ws) (w' ∷ ws') p q e = spaced_same w w' ws ws' p.0 q.0 p.1 q.1 e

place_free : (c : ℕ) (o : Option ℕ) → (91 ≡ c → ⊥) → (93 ≡ c → ⊥) → ((d : ℕ) → d < 10 → 48 + d ≡ c → ⊥)
    → ((k : ℕ) → o ≡ Some k → k < 2 ^ 64) → Free c (place_text o)
place_free c None a b without small = tt
place_free c (Some k) a b without small = (a, free-append c (decimal k) (codes "]") (free-decimal c k (small k refl) without) (b, tt))

-- the place of an element after its array's name
place_same : (w w' : List ℕ) (o o' : Option ℕ) → Free 91 w → Free 91 w' → ((k : ℕ) → o ≡ Some k → k < 2 ^ 64) → ((k : ℕ) → o' ≡ Some k → k < 2 ^ 64) →
    w ++ place_text o ≡ w' ++ place_text o' → (w ≡ w') × (o ≡ o')
place_same w w' None None f f' s s' e = (sym (append-nil w) ∙ (e ∙ append-nil w'), refl)
place_same w w' None (Some k) f f' s s' e = absurd (no_split 91 w w' (decimal k ++ codes "]") f (sym (append-nil w) ∙ e))
place_same w w' (Some k) None f f' s s' e = absurd (no_split 91 w' w (decimal k ++ codes "]") f' (sym (append-nil w') ∙ sym e))
place_same w w' (Some k) (Some j) f f' s s' e =
    let a = split 91 w (decimal k ++ codes "]") w' (decimal j ++ codes "]") f f' e in
    let without : (d : ℕ) → d < 10 → 48 + d ≡ 93 → ⊥ = λ d l q. absurd (omega (arith, l, q)) in
    let b = split 93 (decimal k) [] (decimal j) [] (free-decimal 93 k (s k refl) without) (free-decimal 93 j (s' j refl) without) a.1 in
    (a.0, ap (λ z. Some z) (decimal_injective k j (s k refl) (s' j refl) b.0))

abbrev nothing : Declaration
nothing = ([], record { label = None; length = None })

name_at : (xs : List Declaration) (j : ℕ) (d : List ℕ) → j < length xs → (get_or xs j nothing).0 ≡ get_or (names xs) j d
name_at [] j d h = absurd (omega (arith, h))
name_at (x ∷ xs) zero d h = refl
name_at (x ∷ xs) (suc j) d h = name_at xs j d (omega (arith, h))

module _ (s : Syntax) (valid : IsValid s) where
  abbrev ds : List Declaration
  ds = s.declarations

  is_word : (x : ℕ) → x < variables ds → IsWord (cell_at ds x).name
  is_word x h = cell_named IsWord ds
      (λ j d l. subst IsWord (name_at ds j d (omega (arith, l, length-map ds (λ z. z.0))))
      (valid.names j nothing (omega (arith, l, length-map ds (λ z. z.0)))).0) x h

  small_place : (x : ℕ) → x < variables ds → (k : ℕ) → (cell_at ds x).place ≡ Some k → k < 2 ^ 64
  small_place x h k e = let few = few_variables s valid in let l = placed ds x k h e in omega (arith, few, l, h)

  name_free : (c x : ℕ) → x < variables ds → is_name_byte c ≡ false → Free c (cell_at ds x).name
  name_free c x h without = free-name c (cell_at ds x).name without (word_bytes (cell_at ds x).name (is_word x h))

  cell_free : (c x : ℕ) → x < variables ds → is_name_byte c ≡ false → (91 ≡ c → ⊥) → (93 ≡ c → ⊥) → ((d : ℕ) → d < 10 → 48 + d ≡ c → ⊥)
      → Free c (cell_text (cell_at ds x))
  cell_free c x h without a b digit =
      free-append c (cell_at ds x).name (place_text (cell_at ds x).place) (name_free c x h without)
      (place_free c (cell_at ds x).place a b digit (small_place x h))

  cell_told : (x y : ℕ) → x < variables ds → y < variables ds → cell_text (cell_at ds x) ≡ cell_text (cell_at ds y) → x ≡ y
  cell_told x y h k e =
      let r = place_same (cell_at ds x).name (cell_at ds y).name (cell_at ds x).place (cell_at ds y).place (name_free 91 x h refl) (name_free 91 y k refl)
      (small_place x h) (small_place y k) e in
      same_cell ds valid.differ x y h k r.0 r.1

  equals_digit : (d : ℕ) → d < 10 → 48 + d ≡ 61 → ⊥
  equals_digit d l q = absurd (omega (arith, l, q))

  at_digit : (d : ℕ) → d < 10 → 48 + d ≡ 64 → ⊥
  at_digit d l q = absurd (omega (arith, l, q))

  space_digit : (d : ℕ) → d < 10 → 48 + d ≡ 32 → ⊥
  space_digit d l q = absurd (omega (arith, l, q))

  item_piece : (x : ℕ) (n : ℤ) (c : ℕ) → IsPrintable (variables ds) (Wrote x n c) → IsPiece (item ds x n c)
  item_piece x n c p =
      let cell = (cell_at ds x) in
      let after : Free 32 (codes "=" ++ (signed_decimal n ++ (codes "@" ++ decimal c))) = (
        λ e. absurd (omega (arith, e)),
        free-append 32 (signed_decimal n) (codes "@" ++ decimal c) (free-signed 32 n p.1 (λ e. absurd (omega (arith, e))) space_digit)
            (λ e. absurd (omega (arith, e)), free-decimal 32 c p.2 space_digit),
      ) in
      let place : Free 32 (place_text cell.place) =
      place_free 32 cell.place (λ e. absurd (omega (arith, e))) (λ e. absurd (omega (arith, e))) space_digit (small_place x p.0) in
      subst IsPiece (sym (append_assoc cell.name (place_text cell.place) (codes "=" ++ (signed_decimal n ++ (codes "@" ++ decimal c)))))
      (piece_front cell.name (place_text cell.place ++ (codes "=" ++ (signed_decimal n ++ (codes "@" ++ decimal c)))) (is_word x p.0) (name_free 32 x p.0 refl)
      (free-append 32 (place_text cell.place) (codes "=" ++ (signed_decimal n ++ (codes "@" ++ decimal c))) place after))

  item_told : (x y : ℕ) (n m : ℤ) (c d : ℕ) → IsPrintable (variables ds) (Wrote x n c) → IsPrintable (variables ds) (Wrote y m d)
      → item ds x n c ≡ item ds y m d → Wrote x n c ≡ Wrote y m d
  item_told x y n m c d p q e =
      let one = split 61 (cell_text (cell_at ds x)) (signed_decimal n ++ (codes "@" ++ decimal c)) (cell_text (cell_at ds y))
      (signed_decimal m ++ (codes "@" ++ decimal d))
      (cell_free 61 x p.0 refl (λ e. absurd (omega (arith, e))) (λ e. absurd (omega (arith, e))) equals_digit)
      (cell_free 61 y q.0 refl (λ e. absurd (omega (arith, e))) (λ e. absurd (omega (arith, e))) equals_digit) e in
      let two = split 64 (signed_decimal n) (decimal c) (signed_decimal m) (decimal d)
      (free-signed 64 n p.1 (λ e. absurd (omega (arith, e))) at_digit) (free-signed 64 m q.1 (λ e. absurd (omega (arith, e))) at_digit) one.1 in
      ap (λ z. Wrote z n c) (cell_told x y p.0 q.0 one.0)
      ∙ (ap (λ z. Wrote y z c) (signed_decimal_injective n m p.1 q.1 two.0)
      ∙ ap (λ z. Wrote y m z) (decimal_injective c d p.2 q.2 two.1))

  event_piece : (e : Event) → IsPrintable (variables ds) e → IsPiece (item_of ds e)
  event_piece (Wrote x n c) p = item_piece x n c p
  event_piece (Began k c) p = absurd p
  event_piece (Ended k c) p = absurd p

  pieces : (es : List Event) → ArePrintable (variables ds) es → ArePieces (map (item_of ds) es)
  pieces [] p = tt
  pieces (e ∷ es) p = (event_piece e p.0, pieces es p.1)

  event_told : (e f : Event) → IsPrintable (variables ds) e → IsPrintable (variables ds) f → item_of ds e ≡ item_of ds f → e ≡ f
  event_told (Wrote x n c) (Wrote y m d) p q h = item_told x y n m c d p q h
  event_told (Wrote x n c) (Began k d) p q h = absurd q
  event_told (Wrote x n c) (Ended k d) p q h = absurd q
  event_told (Began k c) f p q h = absurd p
  event_told (Ended k c) f p q h = absurd p

  items_told : (es fs : List Event) → ArePrintable (variables ds) es → ArePrintable (variables ds) fs → map (item_of ds) es ≡ map (item_of ds) fs → es ≡ fs
  items_told [] [] p q h = refl
  items_told [] (f ∷ fs) p q h = absurd cc
  items_told (e ∷ es) [] p q h = absurd cc
  items_told (e ∷ es) (f ∷ fs) p q h =
      ap (λ z. z ∷ es) (event_told e f p.0 q.0 (heads (item_of ds e) (item_of ds f) (map (item_of ds) es) (map (item_of ds) fs) h))
      ∙ ap (λ z. f ∷ z) (items_told es fs p.1 q.1 (tails (item_of ds e) (item_of ds f) (map (item_of ds) es) (map (item_of ds) fs) h))

  pub tells_apart : (es fs : List Event) → ArePrintable (variables ds) es → ArePrintable (variables ds) fs → (field_text ds es ≡ field_text ds fs) ↔ (es ≡ fs)
  tells_apart es fs p q = (
    λ h. items_told es fs p q (field_same (map (item_of ds) es) (map (item_of ds) fs) (pieces es p) (pieces fs q) h),
    λ h. ap (field_text ds) h,
  )
