-- A summary that is written, a line at a time.
use Rattle.std.proofs.Common.{◌≡◌, ℕ, ◌+◌, ◌<◌, ◌≤◌, List, [], ◌∷◌, ◌++◌, length, drop, get_or, refl, sym, ap, ◌∙◌, subst, append_assoc, append-nil}
use Rattle.std.specs.Prelude.{Option}
use Rattle.std.specs.Io.KnownBytes.{Appends}
use Rattle.std.proofs.KnownBytes.{Appends-nil, Appends-trans}
use Rattle.std.proofs.lemmas.List.{drop_more, drop_all}
use Rattle.tim_base.specs.Sinks.{AppendsPrefix}
use Rattle.text_base.specs.declared.pos.Pos.{Pos}
use Rattle.run_timeline.specs.declared.tally.Tally.{Tally}
use Rattle.run_timeline.specs.Summary.{mitigate_text, tally_text, summary_from, summary_text}
use Rattle.event_print.proofs.Printed.{prefix_then}

-- the lines of the first so many are written
pub record Summed (ps : List Pos) (ts : List Tally) (a b : Option (List ℕ)) (i : ℕ) : Type 0 where
  pub text : List ℕ
  pub written : Appends a b text
  pub rest : text ++ summary_from ps i (drop i ts) ≡ summary_text ps ts

abbrev line : List Pos → ℕ → Tally → List ℕ
line ps i t = mitigate_text ps i t.ended ++ tally_text t

module _ (ps : List Pos) (ts : List Tally) where
  pub sum_first : (a : Option (List ℕ)) → Summed ps ts a a 0
  sum_first a = record { text = []; written = Appends-nil a; rest = refl }

  next_line : (i : ℕ) (t : Tally) → i < length ts → t ≡ get_or ts i t → summary_from ps i (drop i ts) ≡ line ps i t ++ summary_from ps (i + 1) (drop (i + 1) ts)
  next_line i t l e = ap (summary_from ps i) (drop_more ts i t l ∙ ap (λ z. z ∷ drop (i + 1) ts) (sym e))

  pub sum_more : (a b c : Option (List ℕ)) (i : ℕ) (t : Tally) → Summed ps ts a b i → i < length ts → t ≡ get_or ts i t
      → Appends b c (line ps i t) → Summed ps ts a c (i + 1)
  sum_more a b c i t s l e q = record {
    text = s.text ++ line ps i t;
    written = Appends-trans a b c s.text (line ps i t) s.written q;
    rest = append_assoc s.text (line ps i t) (summary_from ps (i + 1) (drop (i + 1) ts)) ∙ (ap (λ z. s.text ++ z) (sym (next_line i t l e)) ∙ s.rest);
  }

  pub sum_all : (a b : Option (List ℕ)) (i : ℕ) → Summed ps ts a b i → length ts ≤ i → Appends a b (summary_text ps ts)
  sum_all a b i s l = subst (Appends a b) (sym (append-nil s.text) ∙ (ap (λ z. s.text ++ summary_from ps i z) (sym (drop_all i ts l)) ∙ s.rest)) s.written

  pub sum_part : (a b c : Option (List ℕ)) (i : ℕ) (t : Tally) → Summed ps ts a b i → i < length ts → t ≡ get_or ts i t → AppendsPrefix b c (line ps i t)
      → AppendsPrefix a c (summary_text ps ts)
  sum_part a b c i t s l e q =
      prefix_then a b c s.text (line ps i t) (summary_from ps (i + 1) (drop (i + 1) ts)) (summary_text ps ts) s.written q
      (ap (λ z. s.text ++ z) (sym (next_line i t l e)) ∙ s.rest)
