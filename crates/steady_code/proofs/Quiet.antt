-- Where the last thing that is seen stands.
use Rattle.std.proofs.Common.{◌≡◌, ℕ, suc, ◌+◌, ◌<◌, ◌≤◌, List, length, refl, sym, ap, ◌∙◌, subst, ◌⊎◌, inl, inr, arith}
use Rattle.std.specs.Prelude.{Bool, leb, Some, None, slice_get}
use Rattle.std.proofs.lemmas.Bool.{leb-true, le-leb, cases_lt}
use Rattle.std.proofs.lemmas.Option.{none-some, slice_get_past}
use Rattle.label_code.specs.declared.code.Work.{Work}
use Rattle.label_code.specs.declared.code.Work.TheVariants.{Push, Load, Store, LoadAt, StoreAt, Apply, Brz, Brnz, Jmp, Sleep, Mitb, Mite, Nop, Halt}
use Rattle.label_code.specs.declared.code.Instr.{Instr}
use Rattle.steady_code.specs.declared.fault.Reason.TheVariants.{Target}
use Rattle.steady_code.specs.Plain.{unless, shown}
use Rattle.steady_code.specs.Tail.{IsQuietFrom, IsLastSeen}
use Rattle.steady_code.proofs.Clear.{held}

-- The last so many places are known: an instruction there may stand where nothing is seen from `most` on; a place before
-- them from which on all is quiet is at most `most`; and end is the least quiet place among them.
pub record IsTail (low : ℕ → Bool) (image : List Instr) (back end most : ℕ) : Type 0 where
  pub hidden : (a : ℕ) (i : Instr) → length image ≤ a + back → slice_get image a ≡ Some i → shown low most i.work ≡ None
  pub near : (e : ℕ) → e + back ≤ length image → IsQuietFrom low image e → e ≤ most
  pub quiet : IsQuietFrom low image end
  pub from : length image ≤ end + back
  pub least : (e : ℕ) → length image ≤ e + back → IsQuietFrom low image e → end ≤ e

unless_leb : (m e b : ℕ) → m ≤ e → unless (leb e b) Target ≡ None → unless (leb m b) Target ≡ None
unless_leb m e b h q =
    let far : e ≤ b = leb-true e b (held (leb e b) Target q) in
    ap (λ z. unless z Target) (le-leb m b (omega (arith, h, far)))

-- what may stand where nothing is seen from e on, may where nothing is from an earlier place on
pub shown_before : (low : ℕ → Bool) (m e : ℕ) (w : Work) → m ≤ e → shown low e w ≡ None → shown low m w ≡ None
shown_before low m e (Push n) h q = refl
shown_before low m e (Load x) h q = refl
shown_before low m e (Store x) h q = q
shown_before low m e (LoadAt f n) h q = refl
shown_before low m e (StoreAt f n) h q = q
shown_before low m e (Apply o) h q = refl
shown_before low m e (Brz b) h q = unless_leb m e b h q
shown_before low m e (Brnz b) h q = unless_leb m e b h q
shown_before low m e (Jmp b) h q = unless_leb m e b h q
shown_before low m e Sleep h q = refl
shown_before low m e (Mitb l k) h q = refl
shown_before low m e Mite h q = refl
shown_before low m e Nop h q = refl
shown_before low m e Halt h q = refl

module _ (low : ℕ → Bool) (image : List Instr) where
  past : (a : ℕ) (i : Instr) → length image ≤ a → slice_get image a ≡ Some i → ⊥
  past a i h e = none-some i (sym (slice_get_past image a h) ∙ e)

  pub tail_begins : IsTail low image 0 (length image) (length image)
  tail_begins =
      record {
        hidden = λ a i h e. absurd (past a i (omega (arith, h)) e);
        near = λ e h q. omega (arith, h);
        quiet = λ a i h e. absurd (past a i h e);
        from = omega arith;
        least = λ e h q. omega (arith, h);
      }

  module _ (back end most place : ℕ) (i : Instr) (is : place + 1 + back ≡ length image) (there : slice_get image place ≡ Some i)
      (t : IsTail low image back end most) where
    -- something is seen there
    pub tail_ends : ((e : ℕ) → shown low e i.work ≡ None → ⊥) → IsLastSeen low image end
    tail_ends seen = record { quiet = t.quiet; least = λ b q. go b q (cases_lt place b) }
      where
        go : (b : ℕ) → IsQuietFrom low image b → (place < b) ⊎ (b ≤ place) → end ≤ b
        go b q (inl h) = t.least b (omega (arith, h, is)) q
        go b q (inr h) = absurd (seen b (q place i h there))

    module _ (to : ℕ) (below : to ≤ most) (may : shown low to i.work ≡ None)
        (far : (e : ℕ) → e ≤ most → shown low e i.work ≡ None → e ≤ to) where
      hides : (a : ℕ) (j : Instr) → length image ≤ a + suc back → slice_get image a ≡ Some j → (place < a) ⊎ (a ≤ place) → shown low to j.work ≡ None
      hides a j h e (inl k) = shown_before low to most j.work below (t.hidden a j (omega (arith, k, is)) e)
      hides a j h e (inr k) =
          let same : a ≡ place = omega (arith, h, k, is) in
          let one : Some i ≡ Some j = sym there ∙ ap (slice_get image) (sym same) ∙ e in
          subst (λ (z : Instr). shown low to z.work ≡ None) (some_same i j one) may
        where
          some_same : (x y : Instr) → Some x ≡ Some y → x ≡ y
          some_same x y e = cc

      hidden_more : (a : ℕ) (j : Instr) → length image ≤ a + suc back → slice_get image a ≡ Some j → shown low to j.work ≡ None
      hidden_more a j h e = hides a j h e (cases_lt place a)

      near_more : (e : ℕ) → e + suc back ≤ length image → IsQuietFrom low image e → e ≤ to
      near_more e h q =
          let old : e ≤ most = t.near e (omega (arith, h)) q in
          far e old (q place i (omega (arith, h, is)) there)

      -- it is the least quiet place so far
      pub tail_here : place ≤ to → IsTail low image (suc back) place to
      tail_here h =
          record {
            hidden = hidden_more;
            near = near_more;
            quiet = λ a j k e. shown_before low place to j.work h (hidden_more a j (omega (arith, k, is)) e);
            from = omega (arith, is);
            least = λ e k q. omega (arith, k, is);
          }

      -- it is not quiet
      pub tail_there : to < place → IsTail low image (suc back) end to
      tail_there h =
          record {
            hidden = hidden_more;
            near = near_more;
            quiet = t.quiet;
            from = let f = t.from in omega (arith, f);
            least = λ e k q. go e k q (cases_lt place e);
          }
        where
          go : (e : ℕ) → length image ≤ e + suc back → IsQuietFrom low image e → (place < e) ⊎ (e ≤ place) → end ≤ e
          go e k q (inl l) = t.least e (omega (arith, l, is)) q
          go e k q (inr l) =
              let near : e ≤ to = near_more e (omega (arith, l, is)) q in
              absurd (omega (arith, near, h, k, l, is))

  -- all places are known
  pub tail_whole : (back end most : ℕ) → length image ≤ back → IsTail low image back end most → IsLastSeen low image end
  tail_whole back end most h t = record { quiet = t.quiet; least = λ b q. t.least b (omega (arith, h)) q }
