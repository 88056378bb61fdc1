-- Names: their words, and a name at the front of a room of zeros.
use Rattle.std.proofs.Common.{◌≡◌, ◌∙◌, ◌≤◌, ◌-◌, ℕ, List, [], ◌∷◌, ◌++◌, length, take, drop, ap, ap₂, sym, refl, get_or, arith}
use Rattle.std.specs.Prelude.{Bool, true, replicate, IsTrue, ◌↔◌}
use Rattle.std.specs.List.{list_all}
use Rattle.std.specs.Char.{is_ascii_alphabetic}
use Rattle.std.proofs.Math.Seq.{take-append_seam}
use Rattle.std.proofs.lemmas.List.{drop-replicate, take_all}
use Rattle.std.proofs.lemmas.Bool.{and_parts, and_from}
use Rattle.label_lattice.specs.Names.{IsName, IsWord, Each, is_name_byte}
use Rattle.label_lattice.specs.Padded.{IsPadded}

pub padded_front : (bs new : List ℕ) → length bs ≤ 32 → IsName bs → new ≡ bs
    → IsPadded (record { room = new ++ drop (length bs) (replicate 32 0); len = length bs })
padded_front bs new h n e =
    let front : take (length bs) (new ++ drop (length bs) (replicate 32 0)) ≡ bs =
    ap (λ (l : List ℕ). take (length bs) (l ++ drop (length bs) (replicate 32 0))) e ∙ take-append_seam bs _ in
    record {
      short = h;
      room = ap₂ (λ (x y : List ℕ). x ++ y) (e ∙ sym front) (drop-replicate (length bs) 32 0);
      size = ap length front;
      name = rw front n;
    }

pub all_each : (p : ℕ → Bool) (xs : List ℕ) → list_all p xs ≡ true → Each p xs
all_each p [] e = tt
all_each p (x ∷ xs) e = let q = and_parts (p x) (list_all p xs) e in (q.0, all_each p xs q.1)

pub each_all : (p : ℕ → Bool) (xs : List ℕ) → Each p xs → list_all p xs ≡ true
each_all p [] e = refl
each_all p (x ∷ xs) e = and_from (p x) (list_all p xs) e.0 (each_all p xs e.1)

pub word_front : (bs : List ℕ) → 1 ≤ length bs → (r : Bool) → is_ascii_alphabetic (get_or bs 0 0) ≡ true
    → r ≡ list_all is_name_byte (take (length bs - 1) (drop 1 bs)) → IsTrue r ↔ IsWord bs
word_front [] h r a e = absurd (omega arith)
word_front (b ∷ xs) h r a e =
    let whole : take (length (b ∷ xs) - 1) xs ≡ xs = take_all (length (b ∷ xs) - 1) xs (omega arith) in
    let f : r ≡ list_all is_name_byte xs = e ∙ ap (λ l. list_all is_name_byte l) whole in
    (λ t. (a, all_each is_name_byte xs (sym f ∙ t)), λ w. f ∙ each_all is_name_byte xs w.1)
