-- Lists of lines that are written in place.
use Rattle.std.proofs.Common.{◌≡◌, ℕ, ◌+◌, ◌<◌, ◌≤◌, refl, sym, ap, ◌∙◌, List, [], ◌∷◌, ◌++◌, length, map, append_assoc, append-nil, length-append, get_or}
use Rattle.std.proofs.Common.{arith}
use Rattle.std.specs.Prelude.{slice_set}
use Rattle.std.proofs.Math.Seq.{get_or-append_seam, set-append_seam}
use Rattle.std.proofs.lemmas.List.{map-append, length-map}

module _ {A : Type 0} (R : A → A) where
  -- the items of y below i are R of what they were
  pub record IsDone (x y zs : List A) (i : ℕ) : Type 0 where
    pub front : List A
    pub rest : List A
    pub parts : y ≡ front ++ rest
    pub count : length x + length front ≡ i
    pub items : zs ≡ x ++ (map R front ++ rest)

  pub none_done : (x y zs : List A) (i : ℕ) → zs ≡ x ++ y → length x ≡ i → IsDone x y zs i
  none_done x y zs i e n = record { front = []; rest = y; parts = refl; count = omega (arith, n); items = e }

  pub one_done : (x y zs zs' : List A) (i : ℕ) (v d : A) → i < length zs → v ≡ R (get_or zs i d) → zs' ≡ slice_set zs i v
      → IsDone x y zs i → IsDone x y zs' (i + 1)
  one_done x y zs zs' i v d h hv hz k = go k.rest k.parts k.items
    where
      go : (b : List A) → y ≡ k.front ++ b → zs ≡ x ++ (map R k.front ++ b) → IsDone x y zs' (i + 1)
      go [] parts items =
          let n = ap length items ∙ length-append x (map R k.front ++ []) in
          let m = length-append (map R k.front) [] in
          let c = k.count in
          let r = length-map k.front R in
          absurd (omega (arith, h, n, m, c, r))
      go (l ∷ b) parts items =
          let F = map R k.front in
          let n = length-append x F in
          let r = length-map k.front R in
          let c = k.count in
          let at : i ≡ length (x ++ F) = omega (arith, n, r, c) in
          let is : zs ≡ (x ++ F) ++ l ∷ b = items ∙ sym (append_assoc x F (l ∷ b)) in
          let got : get_or zs i d ≡ l = ap (λ z. get_or z i d) is ∙ ap (λ z. get_or ((x ++ F) ++ l ∷ b) z d) at ∙ get_or-append_seam (x ++ F) l b d in
          let put : zs' ≡ (x ++ F) ++ R l ∷ b =
          hz ∙ ap (λ z. slice_set zs i z) (hv ∙ ap R got) ∙ ap (λ z. slice_set z i (R l)) is ∙ ap (λ z. slice_set ((x ++ F) ++ l ∷ b) z (R l)) at
          ∙ set-append_seam (x ++ F) l b (R l) in
          let p = length-append k.front (l ∷ []) in
          record {
            front = k.front ++ l ∷ [];
            rest = b;
            parts = parts ∙ sym (append_assoc k.front (l ∷ []) b);
            count = omega (arith, p, c);
            items =
                put ∙ append_assoc x F (R l ∷ b) ∙ ap (λ z. x ++ z) (sym (append_assoc F (R l ∷ []) b))
                ∙ ap (λ z. x ++ (z ++ b)) (sym (map-append R k.front (l ∷ [])));
          }

  pub all_done : (x y zs : List A) (i : ℕ) → length zs ≤ i → IsDone x y zs i → zs ≡ x ++ map R y
  all_done x y zs i h k = go k.rest k.parts k.items
    where
      go : (b : List A) → y ≡ k.front ++ b → zs ≡ x ++ (map R k.front ++ b) → zs ≡ x ++ map R y
      go [] parts items = items ∙ ap (λ z. x ++ z) (append-nil (map R k.front)) ∙ ap (λ z. x ++ map R z) (sym (append-nil k.front) ∙ sym parts)
      go (l ∷ b) parts items =
          let n = ap length items ∙ length-append x (map R k.front ++ l ∷ b) in
          let m = length-append (map R k.front) (l ∷ b) in
          let c = k.count in
          let r = length-map k.front R in
          absurd (omega (arith, h, n, m, c, r))

-- a new item in place of one
pub put_item : {A : Type 0} (x y zs zs' : List A) (l v : A) (i : ℕ) → zs ≡ x ++ l ∷ y → length x ≡ i → zs' ≡ slice_set zs i v → zs' ≡ x ++ v ∷ y
put_item x y zs zs' l v i e n h = h ∙ ap (λ z. slice_set z i v) e ∙ ap (λ z. slice_set (x ++ l ∷ y) z v) (sym n) ∙ set-append_seam x l y v

pub got_item : {A : Type 0} (x y zs : List A) (l d : A) (i : ℕ) → zs ≡ x ++ l ∷ y → length x ≡ i → get_or zs i d ≡ l
got_item x y zs l d i e n = ap (λ z. get_or z i d) e ∙ ap (λ z. get_or (x ++ l ∷ y) z d) (sym n) ∙ get_or-append_seam x l y d
