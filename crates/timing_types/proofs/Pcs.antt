-- The list of program-counter labels has each under its mark.
use Rattle.std.proofs.Common.{◌≡◌, ℕ, ◌+◌, refl, sym, ap, ◌∙◌, List, [], ◌∷◌, ◌++◌, length, arith, length-append, append_assoc}
use Rattle.std.proofs.Math.Seq.{get_or-append_seam}
use Rattle.label_lattice.specs.Lattice.{Lattice}
use Rattle.label_lattice.specs.declared.label.Label.{Label}
use Rattle.mit_syntax.specs.Todo.{Marks, Done, Skip, Assign, Put, Sleep, If, While, Mitigate}
use Rattle.mit_syntax.specs.Plan.{Plan, count, mitigates}
use Rattle.mit_syntax.specs.Valid.{AreNumbered}
use Rattle.timing_types.specs.Typing.{label_of}
use Rattle.timing_types.specs.Placed.{bare, labelled}
use Rattle.timing_types.specs.Contexts.{HasContexts, contexts}
use Rattle.timing_types.specs.Labelling.{label_at}

module _ (lat : Lattice) (g : ℕ → ℕ) where
  pub length_contexts : (p : Plan) (pc : ℕ) → length (contexts lat g p pc) ≡ mitigates p
  length_contexts Done pc = refl
  length_contexts (Skip w p) pc = length_contexts p pc
  length_contexts (Assign w x e p) pc = length_contexts p pc
  length_contexts (Put w f n j e p) pc = length_contexts p pc
  length_contexts (Sleep w e p) pc = length_contexts p pc
  length_contexts (If w e a b p) pc =
      let inner = lat.join pc (label_of lat g e) in
      let x = length_contexts a inner in
      let y = length_contexts b inner in
      let z = length_contexts p pc in
      let s = length-append (contexts lat g a inner) (contexts lat g b inner ++ contexts lat g p pc) in
      let t = length-append (contexts lat g b inner) (contexts lat g p pc) in
      omega (arith, x, y, z, s, t)
  length_contexts (While w e c p) pc =
      let inner = lat.join pc (label_of lat g e) in
      let x = length_contexts c inner in
      let z = length_contexts p pc in
      let s = length-append (contexts lat g c inner) (contexts lat g p pc) in
      omega (arith, x, z, s)
  length_contexts (Mitigate w k l e c p) pc =
      let x = length_contexts c pc in
      let z = length_contexts p pc in
      let s = length-append (contexts lat g c pc) (contexts lat g p pc) in
      omega (arith, x, z, s)

  module _ (ms : ℕ → Marks) (ls : ℕ → ℕ) (bottom : ℕ) (all : List Label) where
    longer : (pre a : List Label) (k n : ℕ) → length pre ≡ k → length a ≡ n → length (pre ++ a) ≡ k + n
    longer pre a k n h l = let s = length-append pre a in omega (arith, h, l, s)

    pub has_contexts : (p : Plan) (i k pc : ℕ) (pre post : List Label) → AreNumbered k p → length pre ≡ k → all ≡ pre ++ (contexts lat g p pc ++ post) →
        HasContexts lat g (label_at bottom all) pc (bare (labelled ms ls p i))
    has_contexts Done i k pc pre post num len is = tt
    has_contexts (Skip w p) i k pc pre post num len is = has_contexts p (i + 1) k pc pre post num len is
    has_contexts (Assign w x e p) i k pc pre post num len is = has_contexts p (i + 1) k pc pre post num len is
    has_contexts (Put w f n j e p) i k pc pre post num len is = has_contexts p (i + 1) k pc pre post num len is
    has_contexts (Sleep w e p) i k pc pre post num len is = has_contexts p (i + 1) k pc pre post num len is
    has_contexts (If w e a b p) i k pc pre post num len is =
        let inner = lat.join pc (label_of lat g e) in
        let ca = contexts lat g a inner in
        let cb = contexts lat g b inner in
        let cp = contexts lat g p pc in
        let s1 : all ≡ pre ++ (ca ++ ((cb ++ cp) ++ post)) = is ∙ ap (λ z. pre ++ z) (append_assoc ca (cb ++ cp) post) in
        let s2 : all ≡ (pre ++ ca) ++ (cb ++ (cp ++ post)) =
        s1 ∙ ap (λ z. pre ++ (ca ++ z)) (append_assoc cb cp post) ∙ sym (append_assoc pre ca (cb ++ (cp ++ post))) in
        let s3 : all ≡ ((pre ++ ca) ++ cb) ++ (cp ++ post) = s2 ∙ sym (append_assoc (pre ++ ca) cb (cp ++ post)) in
        let n1 = longer pre ca k (mitigates a) len (length_contexts a inner) in
        let n2 = longer (pre ++ ca) cb (k + mitigates a) (mitigates b) n1 (length_contexts b inner) in (
          has_contexts a (i + 1) k inner pre ((cb ++ cp) ++ post) num.0 len s1,
          has_contexts b (i + 1 + count a) (k + mitigates a) inner (pre ++ ca) (cp ++ post) num.1 n1 s2,
          has_contexts p (i + 1 + count a + count b) (k + mitigates a + mitigates b) pc ((pre ++ ca) ++ cb) post num.2 n2 s3,
        )
    has_contexts (While w e c p) i k pc pre post num len is =
        let inner = lat.join pc (label_of lat g e) in
        let cc' = contexts lat g c inner in
        let cp = contexts lat g p pc in
        let s1 : all ≡ pre ++ (cc' ++ (cp ++ post)) = is ∙ ap (λ z. pre ++ z) (append_assoc cc' cp post) in
        let s2 : all ≡ (pre ++ cc') ++ (cp ++ post) = s1 ∙ sym (append_assoc pre cc' (cp ++ post)) in
        let n1 = longer pre cc' k (mitigates c) len (length_contexts c inner) in
        (has_contexts c (i + 1) k inner pre (cp ++ post) num.0 len s1, has_contexts p (i + 1 + count c) (k + mitigates c) pc (pre ++ cc') post num.1 n1 s2)
    has_contexts (Mitigate w j l e c p) i k pc pre post num len is =
        let own : Label = record { number = pc } in
        let low : Label = record { number = bottom } in
        let cc' = contexts lat g c pc in
        let cp = contexts lat g p pc in
        let s0 : all ≡ pre ++ (own ∷ ((cc' ++ cp) ++ post)) = is in
        let s1 : all ≡ (pre ++ own ∷ []) ++ (cc' ++ (cp ++ post)) =
        is ∙ ap (λ z. pre ++ (own ∷ z)) (append_assoc cc' cp post) ∙ sym (append_assoc pre (own ∷ []) (cc' ++ (cp ++ post))) in
        let s2 : all ≡ ((pre ++ own ∷ []) ++ cc') ++ (cp ++ post) = s1 ∙ sym (append_assoc (pre ++ own ∷ []) cc' (cp ++ post)) in
        let n0 = longer pre (own ∷ []) k 1 len refl in
        let n1 = longer (pre ++ own ∷ []) cc' (k + 1) (mitigates c) n0 (length_contexts c pc) in
        let at : j ≡ length pre = num.0 ∙ sym len in (
          ap (λ z. label_at bottom z j) s0 ∙ ap (λ z. label_at bottom (pre ++ (own ∷ ((cc' ++ cp) ++ post))) z) at
              ∙ ap (λ z. z.number) (get_or-append_seam pre own ((cc' ++ cp) ++ post) low),
          has_contexts c (i + 1) (k + 1) pc (pre ++ own ∷ []) (cp ++ post) num.1 n0 s1,
          has_contexts p (i + 1 + count c) (k + 1 + mitigates c) pc ((pre ++ own ∷ []) ++ cc') post num.2 n1 s2,
        )
