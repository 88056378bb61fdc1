-- What stands at the front of a text, and what follows it, are one.
use Rattle.std.proofs.Common.{◌≡◌, ℕ, ◌<◌, refl, sym, ap, ◌∙◌, subst, List, [], ◌∷◌, ◌++◌, append_assoc, true, false, get_or, length, length-drop, take, drop}
use Rattle.std.proofs.Common.{◌-◌, arith, None, Some, ⊎_elim, ◌≤◌}
use Rattle.std.specs.Prelude.{Option, codes, decimal}
use Rattle.std.proofs.lemmas.List.{append_cancel_left, take-append-drop, take_all}
use Rattle.std.proofs.lemmas.Bool.{cases_lt}
use Rattle.label_lattice.specs.declared.label.Label.{Label}
use Rattle.label_lattice.specs.Order.{Order, IsOrder, name_of}
use Rattle.label_lattice.specs.Names.{IsName, is_name_byte, Each}
use Rattle.mit_syntax.specs.Lexemes.{StopsAt}
use Rattle.mit_syntax.specs.Valid.{IsBelow}
use Rattle.mit_syntax.proofs.LexBytes.{heads, tails, word_passes, front_passes, rest_stops}
use Rattle.timing_types.specs.declared.rule.Rule.{Rule}
use Rattle.type_cert.specs.declared.line.Line.{Line}
use Rattle.type_cert.specs.declared.place.Act.{Act}
use Rattle.type_cert.specs.declared.place.Act.TheVariants.{Skip, Assign, Sleep, If, While, Mitigate}
use Rattle.timing_types.specs.Rules.{rule_name}
use Rattle.type_cert.specs.Text.{named, level_text, head_text, tail_text}
use Rattle.type_cert.specs.Demands.{HasLevel, rule_of}
use Rattle.type_cert.specs.Reading.{ReadsLabel, ReadsLevel, ReadsLine, ReadsVariable}

differ : {X : Type 0} → true ≡ false → X
differ e = cc

-- bytes of names, and then something else
pub same_names : (n m q r : List ℕ) → Each is_name_byte n → Each is_name_byte m → StopsAt is_name_byte q → StopsAt is_name_byte r
    → n ++ q ≡ m ++ r → (n ≡ m) × (q ≡ r)
same_names [] [] q r hn hm hq hr e = (refl, e)
same_names [] (b ∷ m) q r hn hm hq hr e = differ (sym hm.0 ∙ subst (StopsAt is_name_byte) e hq)
same_names (a ∷ n) [] q r hn hm hq hr e = differ (sym hn.0 ∙ subst (StopsAt is_name_byte) (sym e) hr)
same_names (a ∷ n) (b ∷ m) q r hn hm hq hr e =
    let k = same_names n m q r hn.1 hm.1 hq hr (tails a b (n ++ q) (m ++ r) e) in
    (ap (λ z. z ∷ n) (heads a b (n ++ q) (m ++ r) e) ∙ ap (λ z. b ∷ z) k.0, k.1)

module _ (o : Order) (ok : IsOrder o) where
  name_is : (l : Label) → l.number < o.size → Each is_name_byte (name_of o l.number)
  name_is l h = let f = ok.named in word_passes (name_of o l.number) (ok.names l.number [] (omega (arith, h, f))).0

  one_number : (a b : ℕ) → a < o.size → b < o.size → name_of o a ≡ name_of o b → a ≡ b
  one_number a b ha hb e =
      let f = ok.named in
      ⊎_elim
      (λ (h : a < b). absurd (ok.differ a b [] h (omega (arith, hb, f)) e))
      (λ (h : b ≤ a). ⊎_elim
      (λ (k : b < a). absurd (ok.differ b a [] k (omega (arith, ha, f)) (sym e)))
      (λ (k : a ≤ b). omega (arith, h, k)) (cases_lt b a)) (cases_lt a b)

  pub label_number : (a b : Label) → a.number ≡ b.number → a ≡ b
  label_number a b e = ap (λ (z : ℕ). the_label z) e
    where
      the_label : ℕ → Label
      the_label n = record { number = n }

  -- a label and what follows it are one
  pub cut_label : (words text : List ℕ) (l m : Label) (q r : List ℕ) → ReadsLabel o words text l q → ReadsLabel o words text m r → (l ≡ m) × (q ≡ r)
  cut_label words text l m q r h k =
      let x : words ++ (name_of o l.number ++ q) ≡ words ++ (name_of o m.number ++ r) =
      sym (append_assoc words (name_of o l.number) q) ∙ sym h.is ∙ k.is ∙ append_assoc words (name_of o m.number) r in
      let y = append_cancel_left words (name_of o l.number ++ q) (name_of o m.number ++ r) x in
      let z = same_names (name_of o l.number) (name_of o m.number) q r (name_is l h.below) (name_is m k.below) h.stops k.stops y in
      (label_number l m (one_number l.number m.number h.below k.below z.0), z.1)

  -- so are a level and what follows it
  pub cut_level : (act : Act) (text : List ℕ) (v w : Option Label) (q r : List ℕ) → ReadsLevel o act text v q → ReadsLevel o act text w r → (v ≡ w) × (q ≡ r)
  cut_level act text v w q r h k = go act h.has k.has
    where
      none : v ≡ None → w ≡ None → (v ≡ w) × (q ≡ r)
      none a b =
          (a ∙ sym b, sym (h.is ∙ ap (λ z. level_text o z ++ q) a) ∙ k.is ∙ ap (λ z. level_text o z ++ r) b)

      some : (l m : Label) → v ≡ Some l → w ≡ Some m → (v ≡ w) × (q ≡ r)
      some l m a b =
          let x : ReadsLabel o (codes " level ") text l q =
          record { below = subst (IsBelow o.size) a h.below; is = h.is ∙ ap (λ z. level_text o z ++ q) a; stops = h.stops } in
          let y : ReadsLabel o (codes " level ") text m r =
          record { below = subst (IsBelow o.size) b k.below; is = k.is ∙ ap (λ z. level_text o z ++ r) b; stops = k.stops } in
          let z = cut_label (codes " level ") text l m q r x y in
          (a ∙ ap Some z.0 ∙ sym b, z.1)

      go : (act : Act) → HasLevel act v → HasLevel act w → (v ≡ w) × (q ≡ r)
      go Skip a b = none a b
      go (Assign x y) a b = none a b
      go (Sleep x) a b = none a b
      go (If x) a b = none a b
      go (While x) a b = none a b
      go (Mitigate x y) a b = some a.0 b.0 a.1 b.1

  level_stops : (v : Option Label) (q : List ℕ) → StopsAt is_name_byte (level_text o v ++ (codes "\n" ++ q))
  level_stops None q = refl
  level_stops (Some l) q = refl

  -- what is left of a line's text after each of its parts
  abbrev pub after_level : List ℕ → List ℕ
  after_level q = codes "\n" ++ q

  abbrev pub after_end : Line → List ℕ → List ℕ
  after_end x q = level_text o x.level ++ after_level q

  abbrev pub after_write : Line → List ℕ → List ℕ
  after_write x q = named o (codes " end ") x.end ++ after_end x q

  abbrev pub after_read : Line → List ℕ → List ℕ
  after_read x q = named o (codes " ew ") x.write ++ after_write x q

  abbrev pub after_start : Line → List ℕ → List ℕ
  after_start x q = named o (codes " er ") x.read ++ after_read x q

  abbrev pub after_pc : Line → List ℕ → List ℕ
  after_pc x q = named o (codes " start ") x.start ++ after_start x q

  abbrev pub after_head : Line → List ℕ → List ℕ
  after_head x q = named o (codes " pc ") x.pc ++ after_pc x q

  pub tail_is : (x : Line) (q : List ℕ) → tail_text o x ++ q ≡ after_head x q
  tail_is x q =
      let a = named o (codes " pc ") x.pc in
      let b = named o (codes " start ") x.start in
      let c = named o (codes " er ") x.read in
      let d = named o (codes " ew ") x.write in
      let e = named o (codes " end ") x.end in
      let f = level_text o x.level in
      let n = codes "\n" in
      append_assoc a (b ++ (c ++ (d ++ (e ++ (f ++ n))))) q
      ∙ ap (λ z. a ++ z) (append_assoc b (c ++ (d ++ (e ++ (f ++ n)))) q
      ∙ ap (λ z. b ++ z) (append_assoc c (d ++ (e ++ (f ++ n))) q
      ∙ ap (λ z. c ++ z) (append_assoc d (e ++ (f ++ n)) q
      ∙ ap (λ z. d ++ z) (append_assoc e (f ++ n) q
      ∙ ap (λ z. e ++ z) (append_assoc f n q)))))

  -- a line, as code reads it
  module _ (i : ℕ) (act : Act) (text : List ℕ) (x : Line) (q : List ℕ) (h : ReadsLine o i act text x q) where
    pub at_head : text ≡ head_text i (rule_of act) ++ after_head x q
    at_head =
        h.is ∙ append_assoc (head_text i x.rule) (tail_text o x) q ∙ ap (λ z. head_text i x.rule ++ z) (tail_is x q)
        ∙ ap (λ z. head_text i z ++ after_head x q) h.formed.rule

    -- what follows the head is one
    pub past_head : (rest : List ℕ) → text ≡ head_text i (rule_of act) ++ rest → rest ≡ after_head x q
    past_head rest e = append_cancel_left (head_text i (rule_of act)) rest (after_head x q) (sym e ∙ at_head)

    pub at_pc : (rest : List ℕ) → rest ≡ after_head x q → ReadsLabel o (codes " pc ") rest x.pc (after_pc x q)
    at_pc rest e = record { below = h.formed.labels.pc; is = e; stops = refl }

    pub at_start : (rest : List ℕ) → rest ≡ after_pc x q → ReadsLabel o (codes " start ") rest x.start (after_start x q)
    at_start rest e = record { below = h.formed.labels.start; is = e; stops = refl }

    pub at_read : (rest : List ℕ) → rest ≡ after_start x q → ReadsLabel o (codes " er ") rest x.read (after_read x q)
    at_read rest e = record { below = h.formed.labels.read; is = e; stops = refl }

    pub at_write : (rest : List ℕ) → rest ≡ after_read x q → ReadsLabel o (codes " ew ") rest x.write (after_write x q)
    at_write rest e = record { below = h.formed.labels.write; is = e; stops = refl }

    pub at_end : (rest : List ℕ) → rest ≡ after_write x q → ReadsLabel o (codes " end ") rest x.end (after_end x q)
    at_end rest e = record { below = h.formed.labels.end; is = e; stops = level_stops x.level q }

    pub at_level : (rest : List ℕ) → rest ≡ after_end x q → ReadsLevel o act rest x.level (after_level q)
    at_level rest e = record { has = h.formed.level; below = h.formed.labels.level; is = e; stops = refl }

    -- the labels of the line, from its front on
    module _ (r0 : List ℕ) (e0 : text ≡ head_text i (rule_of act) ++ r0) (pc : Label) (r1 : List ℕ) (h1 : ReadsLabel o (codes " pc ") r0 pc r1) where
      pub to_pc : (x.pc ≡ pc) × (after_pc x q ≡ r1)
      to_pc = cut_label (codes " pc ") r0 x.pc pc (after_pc x q) r1 (at_pc r0 (past_head r0 e0)) h1

      module _ (start : Label) (r2 : List ℕ) (h2 : ReadsLabel o (codes " start ") r1 start r2) where
        pub to_start : (x.start ≡ start) × (after_start x q ≡ r2)
        to_start = cut_label (codes " start ") r1 x.start start (after_start x q) r2 (at_start r1 (sym to_pc.1)) h2

        module _ (read : Label) (r3 : List ℕ) (h3 : ReadsLabel o (codes " er ") r2 read r3) where
          pub to_read : (x.read ≡ read) × (after_read x q ≡ r3)
          to_read = cut_label (codes " er ") r2 x.read read (after_read x q) r3 (at_read r2 (sym to_start.1)) h3

          module _ (write : Label) (r4 : List ℕ) (h4 : ReadsLabel o (codes " ew ") r3 write r4) where
            pub to_write : (x.write ≡ write) × (after_write x q ≡ r4)
            to_write = cut_label (codes " ew ") r3 x.write write (after_write x q) r4 (at_write r3 (sym to_read.1)) h4

            module _ (end : Label) (r5 : List ℕ) (h5 : ReadsLabel o (codes " end ") r4 end r5) where
              pub to_end : (x.end ≡ end) × (after_end x q ≡ r5)
              to_end = cut_label (codes " end ") r4 x.end end (after_end x q) r5 (at_end r4 (sym to_write.1)) h5

              module _ (level : Option Label) (r6 : List ℕ) (h6 : ReadsLevel o act r5 level r6) where
                pub to_level : (x.level ≡ level) × (after_level q ≡ r6)
                to_level = cut_level act r5 x.level level (after_level q) r6 (at_level r5 (sym to_end.1)) h6

  -- a line and what follows it are one
  pub cut_line : (i : ℕ) (act : Act) (text : List ℕ) (x y : Line) (q r : List ℕ) → ReadsLine o i act text x q → ReadsLine o i act text y r → (x ≡ y) × (q ≡ r)
  cut_line i act text x y q r h k =
      let e0 = at_head i act text y r k in
      let h1 = at_pc i act text y r k (after_head y r) refl in
      let h2 = at_start i act text y r k (after_pc y r) refl in
      let h3 = at_read i act text y r k (after_start y r) refl in
      let h4 = at_write i act text y r k (after_read y r) refl in
      let h5 = at_end i act text y r k (after_write y r) refl in
      let h6 = at_level i act text y r k (after_end y r) refl in
      let pc = to_pc i act text x q h (after_head y r) e0 y.pc (after_pc y r) h1 in
      let start = to_start i act text x q h (after_head y r) e0 y.pc (after_pc y r) h1 y.start (after_start y r) h2 in
      let read = to_read i act text x q h (after_head y r) e0 y.pc (after_pc y r) h1 y.start (after_start y r) h2 y.read (after_read y r) h3 in
      let write = to_write i act text x q h (after_head y r) e0 y.pc (after_pc y r) h1 y.start (after_start y r) h2 y.read (after_read y r) h3
      y.write (after_write y r) h4 in
      let end = to_end i act text x q h (after_head y r) e0 y.pc (after_pc y r) h1 y.start (after_start y r) h2 y.read (after_read y r) h3 y.write
      (after_write y r) h4 y.end (after_end y r) h5 in
      let level =
      to_level i act text x q h (after_head y r) e0 y.pc (after_pc y r) h1 y.start (after_start y r) h2 y.read (after_read y r) h3 y.write (after_write y r) h4
      y.end (after_end y r) h5 y.level (after_level r) h6 in
      let rule = h.formed.rule ∙ sym k.formed.rule in
      (same_line x y rule pc.0 start.0 read.0 write.0 end.0 level.0, append_cancel_left (codes "\n") q r level.1)
    where
      the_line : Rule → Label → Label → Label → Label → Label → Option Label → Line
      the_line r a b c d e v = record { rule = r; pc = a; start = b; read = c; write = d; end = e; level = v }

      same_line : (x y : Line) → x.rule ≡ y.rule → x.pc ≡ y.pc → x.start ≡ y.start → x.read ≡ y.read → x.write ≡ y.write
          → x.end ≡ y.end → x.level ≡ y.level → x ≡ y
      same_line x y a b c d e f g =
          ap (λ z. the_line z x.pc x.start x.read x.write x.end x.level) a ∙ ap (λ z. the_line y.rule z x.start x.read x.write x.end x.level) b
          ∙ ap (λ z. the_line y.rule y.pc z x.read x.write x.end x.level) c ∙ ap (λ z. the_line y.rule y.pc y.start z x.write x.end x.level) d
          ∙ ap (λ z. the_line y.rule y.pc y.start y.read z x.end x.level) e ∙ ap (λ z. the_line y.rule y.pc y.start y.read y.write z x.level) f
          ∙ ap (λ z. the_line y.rule y.pc y.start y.read y.write y.end z) g

  -- the line of a declaration, as code reads it
  module _ (w text : List ℕ) (l : Label) (q : List ℕ) (h : ReadsVariable o w text l q) where
    pub at_name : text ≡ codes "var " ++ (w ++ (named o (codes " ") l ++ (codes "\n" ++ q)))
    at_name =
        h.is ∙ append_assoc (codes "var ") (w ++ (named o (codes " ") l ++ codes "\n")) q
        ∙ ap (λ z. codes "var " ++ z) (append_assoc w (named o (codes " ") l ++ codes "\n") q
        ∙ ap (λ z. w ++ z) (append_assoc (named o (codes " ") l) (codes "\n") q))

    pub past_name : (r0 r1 : List ℕ) → text ≡ codes "var " ++ r0 → r0 ≡ w ++ r1 → r1 ≡ named o (codes " ") l ++ (codes "\n" ++ q)
    past_name r0 r1 e f =
        let x = append_cancel_left (codes "var ") r0 (w ++ (named o (codes " ") l ++ (codes "\n" ++ q))) (sym e ∙ at_name) in
        append_cancel_left w r1 (named o (codes " ") l ++ (codes "\n" ++ q)) (sym f ∙ x)

    pub at_variable : (rest : List ℕ) → rest ≡ named o (codes " ") l ++ (codes "\n" ++ q) → ReadsLabel o (codes " ") rest l (codes "\n" ++ q)
    at_variable rest e = record { below = h.below; is = e; stops = refl }

  -- it and what follows it are one
  pub cut_variable : (w text : List ℕ) (l m : Label) (q r : List ℕ) → ReadsVariable o w text l q → ReadsVariable o w text m r → (l ≡ m) × (q ≡ r)
  cut_variable w text l m q r h k =
      let rest = named o (codes " ") m ++ (codes "\n" ++ r) in
      let e = past_name w text l q h (w ++ rest) rest (at_name w text m r k) refl in
      let z = cut_label (codes " ") rest l m (codes "\n" ++ q) (codes "\n" ++ r) (at_variable w text l q h rest e) (at_variable w text m r k rest refl) in
      (z.0, append_cancel_left (codes "\n") q r z.1)

-- a label behind words, and the label alone
pub behind : (o : Order) (words text rest : List ℕ) (l : Label) (q : List ℕ) → text ≡ words ++ rest → ReadsLabel o words text l q → ReadsLabel o [] rest l q
behind o words text rest l q e h =
    record {
      below = h.below;
      is = append_cancel_left words rest (name_of o l.number ++ q) (sym e ∙ h.is ∙ append_assoc words (name_of o l.number) q);
      stops =
          h.stops;
    }

pub before_it : (o : Order) (words text rest : List ℕ) (l : Label) (q : List ℕ) → text ≡ words ++ rest → ReadsLabel o [] rest l q → ReadsLabel o words text l q
before_it o words text rest l q e h =
    record { below = h.below; is = e ∙ ap (λ z. words ++ z) h.is ∙ sym (append_assoc words (name_of o l.number) q); stops = h.stops }

-- a text from the number of bytes of names at its front
module _ (o : Order) (ok : IsOrder o) (text : List ℕ) (n : ℕ) (within : n ≤ length text) (passes : (k : ℕ) → k < n
    → is_name_byte (get_or text k 0) ≡ true) (stops : n < length text → is_name_byte (get_or text n 0) ≡ false) where
  pub front_is : (l : Label) (q : List ℕ) → ReadsLabel o [] text l q → (take n text ≡ name_of o l.number) × (drop n text ≡ q)
  front_is l q h =
      same_names (take n text) (name_of o l.number) (drop n text) q (front_passes is_name_byte text n within passes) (name_is o ok l h.below)
      (rest_stops is_name_byte text n within stops) h.stops
      (take-append-drop n text ∙ h.is)

  pub front_reads : (l : Label) (name : List ℕ) → l.number < o.size → name_of o l.number ≡ name → name ≡ take n text
      → ReadsLabel o [] text l (take (length text - n) (drop n text))
  front_reads l name below e f =
      let d = length-drop n text in
      let rest : take (length text - n) (drop n text) ≡ drop n text = take_all (length text - n) (drop n text) (omega (arith, d)) in
      record {
        below = below;
        is = sym (take-append-drop n text) ∙ ap (λ z. z ++ drop n text) (sym (e ∙ f)) ∙ ap (λ z. name_of o l.number ++ z) (sym rest);
        stops = subst (λ z. StopsAt is_name_byte z) (sym rest) (rest_stops is_name_byte text n within stops);
      }

  pub front_named : (l : Label) (q : List ℕ) → ReadsLabel o [] text l q → IsName (take n text)
  front_named l q h = let f = ok.named in let b = h.below in subst IsName (sym (front_is l q h).0) (ok.names l.number [] (omega (arith, b, f)))

-- a line from its parts, as code reads them
pub line_from : (o : Order) (i : ℕ) (act : Act) (text r0 r1 r2 r3 r4 r5 r6 r7 : List ℕ) (rule : Rule) (pc start read write end : Label) (level : Option Label)
    → rule ≡ rule_of act →
    text ≡ head_text i rule ++ r0 → ReadsLabel o (codes " pc ") r0 pc r1 → ReadsLabel o (codes " start ") r1 start r2 → ReadsLabel o (codes " er ") r2 read r3
    → ReadsLabel o (codes " ew ") r3 write r4 →
    ReadsLabel o (codes " end ") r4 end r5 → ReadsLevel o act r5 level r6 → r6 ≡ codes "\n" ++ r7 →
    ReadsLine o i act text (record { rule = rule; pc = pc; start = start; read = read; write = write; end = end; level = level }) r7
line_from o i act text r0 r1 r2 r3 r4 r5 r6 r7 rule pc start read write end level er e0 h1 h2 h3 h4 h5 h6 e7 =
    let x : Line = record { rule = rule; pc = pc; start = start; read = read; write = write; end = end; level = level } in
    let a = named o (codes " pc ") pc in
    let b = named o (codes " start ") start in
    let c = named o (codes " er ") read in
    let d = named o (codes " ew ") write in
    let e = named o (codes " end ") end in
    let f = level_text o level in
    let n = codes "\n" in
    let t5 : r5 ≡ (f ++ n) ++ r7 = h6.is ∙ ap (λ z. f ++ z) e7 ∙ sym (append_assoc f n r7) in
    let t4 : r4 ≡ (e ++ (f ++ n)) ++ r7 = h5.is ∙ ap (λ z. e ++ z) t5 ∙ sym (append_assoc e (f ++ n) r7) in
    let t3 : r3 ≡ (d ++ (e ++ (f ++ n))) ++ r7 = h4.is ∙ ap (λ z. d ++ z) t4 ∙ sym (append_assoc d (e ++ (f ++ n)) r7) in
    let t2 : r2 ≡ (c ++ (d ++ (e ++ (f ++ n)))) ++ r7 = h3.is ∙ ap (λ z. c ++ z) t3 ∙ sym (append_assoc c (d ++ (e ++ (f ++ n))) r7) in
    let t1 : r1 ≡ (b ++ (c ++ (d ++ (e ++ (f ++ n))))) ++ r7 = h2.is ∙ ap (λ z. b ++ z) t2 ∙ sym (append_assoc b (c ++ (d ++ (e ++ (f ++ n)))) r7) in
    let t0 : r0 ≡ tail_text o x ++ r7 = h1.is ∙ ap (λ z. a ++ z) t1 ∙ sym (append_assoc a (b ++ (c ++ (d ++ (e ++ (f ++ n))))) r7) in
    record {
      formed = record {
        rule = er;
        labels = record { pc = h1.below; start = h2.below; read = h3.below; write = h4.below; end = h5.below; level = h6.below };
        level = h6.has;
      };
      is = e0 ∙ ap (λ z. head_text i rule ++ z) t0 ∙ sym (append_assoc (head_text i rule) (tail_text o x) r7);
    }

-- what is left after the parts of a line's head
pub head_parts : (i : ℕ) (rule : Rule) (text r0 q : List ℕ) → text ≡ decimal i ++ r0 → text ≡ head_text i rule ++ q → r0 ≡ codes " " ++ (rule_name rule ++ q)
head_parts i rule text r0 q e h =
    append_cancel_left (decimal i) r0 (codes " " ++ (rule_name rule ++ q))
    (sym e ∙ h ∙ append_assoc (decimal i) (codes " " ++ rule_name rule) q ∙ ap (λ z. decimal i ++ z) (append_assoc (codes " ") (rule_name rule) q))

pub head_from : (i : ℕ) (rule : Rule) (text r0 r1 r2 : List ℕ) → text ≡ decimal i ++ r0 → r0 ≡ codes " " ++ r1 → r1 ≡ rule_name rule ++ r2
    → text ≡ head_text i rule ++ r2
head_from i rule text r0 r1 r2 e0 e1 e2 =
    e0 ∙ ap (λ z. decimal i ++ z) (e1 ∙ ap (λ z. codes " " ++ z) e2 ∙ sym (append_assoc (codes " ") (rule_name rule) r2))
    ∙ sym (append_assoc (decimal i) (codes " " ++ rule_name rule) r2)

pub head_rule : (rule : Rule) (r0 r1 q : List ℕ) → r0 ≡ codes " " ++ r1 → r0 ≡ codes " " ++ (rule_name rule ++ q) → r1 ≡ rule_name rule ++ q
head_rule rule r0 r1 q e h = append_cancel_left (codes " ") r1 (rule_name rule ++ q) (sym e ∙ h)
