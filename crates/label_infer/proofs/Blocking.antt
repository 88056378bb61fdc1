-- The rows of blocks, and which blocks need no look.
use Rattle.std.proofs.Common.{◌≡◌, ℕ, zero, suc, ◌+◌, ◌/◌, ◌<◌, ◌≤◌, refl, sym, ap, ◌∙◌, subst, List, [], ◌∷◌, ◌++◌, length, slice_set, arith, ⊎_elim}
use Rattle.std.specs.Prelude.{Bool, true, false, ◌||◌, cond, Some, slice_get}
use Rattle.std.proofs.lemmas.Bool.{cases_lt, cases_eq, or_left, or_right}
use Rattle.std.proofs.lemmas.Option.{same_Some, slice_get_within}
use Rattle.label_infer.specs.declared.row.Row.{Row}
use Rattle.label_infer.specs.declared.constraints.Condition.{Condition}
use Rattle.label_infer.specs.declared.blocks.Blocks.{Blocks}
use Rattle.label_infer.specs.Rows.{has_in}
use Rattle.label_infer.specs.Sets.{has_of}
use Rattle.label_infer.specs.Blocks.{Includes, Grow, Cover, AreBlocks}
use Rattle.label_infer.specs.Work.{waits_at, woken}
use Rattle.label_infer.proofs.Holding.{get_set_same, get_set_other, get_push_same}
use Rattle.label_infer.proofs.Taking.{woken_length, woken_at}

pub some_at : {A : Type 0} (xs : List A) (k : ℕ) → k < length xs → (x : A) × (slice_get xs k ≡ Some x)
some_at [] k h = absurd (omega (arith, h))
some_at (x ∷ xs) zero h = (x, refl)
some_at (x ∷ xs) (suc k) h = some_at xs k (omega (arith, h))

-- a row that is joined to that of a block
pub union_grows : (rows : List Row) (i : ℕ) (r u : Row) (s : ℕ → Bool) → slice_get rows i ≡ Some r → has_in u.words.items ≡ (λ y. has_in r.words.items y || s y)
    → Grow rows (slice_set rows i u)
union_grows rows i r u s e h k p q a b x t = ⊎_elim
    (λ (m : k ≡ i).
    let old : p ≡ r = same_Some p r (sym a ∙ ap (slice_get rows) m ∙ e) in
    let new : q ≡ u = same_Some q u (sym b ∙ ap (slice_get (slice_set rows i u)) m ∙ get_set_same rows i u (slice_get_within rows i r e)) in
    ap (λ (z : Row). has_in z.words.items x) new ∙ ap (λ (f : ℕ → Bool). f x) h
    ∙ or_left (has_in r.words.items x) (s x) (ap (λ (z : Row). has_in z.words.items x) (sym old) ∙ t))
    (λ (n : k ≡ i → ⊥).
    let same : p ≡ q = same_Some p q (sym a ∙ sym (get_set_other rows i k u n) ∙ b) in
    ap (λ (z : Row). has_in z.words.items x) (sym same) ∙ t)
    (cases_eq k i)

pub union_here : (rows : List Row) (i : ℕ) (r u q : Row) (s : ℕ → Bool) → slice_get rows i ≡ Some r
    → has_in u.words.items ≡ (λ y. has_in r.words.items y || s y) → slice_get (slice_set rows i u) i ≡ Some q → Includes q s
union_here rows i r u q s e h b x t =
    let new : q ≡ u = same_Some q u (sym b ∙ get_set_same rows i u (slice_get_within rows i r e)) in
    ap (λ (z : Row). has_in z.words.items x) new ∙ ap (λ (f : ℕ → Bool). f x) h ∙ or_right (has_in r.words.items x) (s x) t

-- a row that is pushed
pub push_here : (rows rows' : List Row) (i : ℕ) (r u q : Row) (s : ℕ → Bool) → rows' ≡ rows ++ u ∷ [] → i ≡ length rows
    → has_in u.words.items ≡ (λ y. has_in r.words.items y || s y) → slice_get rows' i ≡ Some q → Includes q s
push_here rows rows' i r u q s e n h b x t =
    let new : u ≡ q = same_Some u q (sym (get_push_same rows u) ∙ ap (slice_get (rows ++ u ∷ [])) (sym n) ∙ ap (λ z. slice_get z i) (sym e) ∙ b) in
    ap (λ (z : Row). has_in z.words.items x) (sym new) ∙ ap (λ (f : ℕ → Bool). f x) h ∙ or_right (has_in r.words.items x) (s x) t

-- one condition more
pub cover_more : (cs : List Condition) (i : ℕ) (rows rows' : List Row) (c : Condition) → length rows ≡ (i + 63) / 64 → slice_get cs i ≡ Some c
    → Cover cs i rows → Grow rows rows' →
    ((r : Row) → slice_get rows' (i / 64) ≡ Some r → Includes r (has_of c.have.variables)) → Cover cs (i + 1) rows'
cover_more cs i rows rows' c fit e cover grow here k d r h a b = ⊎_elim
    (λ (l : k < i).
    let s = some_at rows (k / 64) (omega (arith, fit, l)) in
    λ x t. grow (k / 64) s.0 r s.1 b x (cover k d s.0 l a s.1 x t))
    (λ (l : i ≤ k).
    let q : k ≡ i = omega (arith, l, h) in
    let same : c ≡ d = same_Some c d (sym e ∙ ap (slice_get cs) (sym q) ∙ a) in
    λ x t. here r (ap (λ z. slice_get rows' (z / 64)) (sym q) ∙ b) x (ap (λ (z : Condition). has_of z.have.variables x) same ∙ t))
    (cases_lt k i)

-- conditions that now wait too
pub blocks_woken : (x : ℕ) (cs : List Condition) (ws ws' : List Bool) (b : Blocks) (t : Bool) → length ws ≡ length cs → ws' ≡ cond t ws (woken x cs ws)
    → AreBlocks cs ws b → AreBlocks cs ws' b
blocks_woken x cs ws ws' b t fit e h = subst (λ z. AreBlocks cs z b) (sym e) (go t)
  where
    more : AreBlocks cs (woken x cs ws) b
    more = record {
      enough = h.enough;
      few = h.few;
      fit = h.fit;
      cover = h.cover;
      idle = λ i l n.
          let wl = woken_length x cs ws in
          let lw : i < length ws = omega (arith, l, wl) in
          let c = some_at cs i (omega (arith, lw, fit)) in
          woken_at x cs ws i c.0 c.1 lw ∙ or_left (waits_at ws i) _ (h.idle i lw n);
    }

    go : (t : Bool) → AreBlocks cs (cond t ws (woken x cs ws)) b
    go true = h
    go false = more

pub blocks_same : (cs cs' : List Condition) (ws ws' : List Bool) (b : Blocks) → cs' ≡ cs → ws' ≡ ws → AreBlocks cs ws b → AreBlocks cs' ws' b
blocks_same cs cs' ws ws' b ec ew h = subst (λ z. AreBlocks cs' z b) (sym ew) (subst (λ z. AreBlocks z ws b) (sym ec) h)

pub blocks_raised : (x : ℕ) (cs cs' : List Condition) (ws ws' after now : List Bool) (b : Blocks) (t : Bool) → length ws ≡ length cs → cs' ≡ cs → ws' ≡ ws
    → after ≡ cond t ws' (woken x cs' ws') → now ≡ after →
    AreBlocks cs ws b → AreBlocks cs now b
blocks_raised x cs cs' ws ws' after now b t fit ec ew ea en h =
    blocks_woken x cs ws now b t fit (en ∙ ea ∙ ap (λ z. cond t ws' (woken x z ws')) ec ∙ ap (λ z. cond t z (woken x cs z)) ew) h
