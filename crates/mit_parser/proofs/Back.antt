-- What is still to be read has a completion, and a completion of what is left is a completion of the whole.
use Rattle.std.proofs.Common.{◌≡◌, ◌≤◌, ◌+◌, refl, ap, ◌∙◌, sym, subst, ℕ, ℤ, max, List, [], ◌∷◌, ◌++◌, Bool, true, false, cond, Option, Some, None, arith}
use Rattle.std.specs.Prelude.{pos}
use Rattle.text_base.specs.declared.pos.Pos.{Pos}
use Rattle.mit_syntax.specs.declared.token.Keyword.TheVariants.{Labels, Order, Var, Skip, If, Then, Else, While, Do, Mitigate, Sleep}
use Rattle.mit_syntax.specs.declared.token.Sign.TheVariants.{Assign, Colon, Semicolon, Comma, LeftRound, RightRound, LeftBrace, LeftSquare, RightSquare, At}
use Rattle.mit_syntax.specs.declared.token.Sign.TheVariants.{Less}
use Rattle.mit_syntax.specs.declared.ast.Op.{Op}
use Rattle.mit_syntax.specs.Operators.{op_sign}
use Rattle.mit_syntax.specs.Chunks.{key, sign, number, name}
use Rattle.mit_parser.specs.Words.{Symbol, word, the_end, Told, is, sign_at, key_at, name_at}
use Rattle.mit_parser.specs.Operators.{op_at}
use Rattle.mit_parser.specs.Tree.{ExpressionTree, number_of, name_of, parens_of, no_index, index_of, front_expression, front_index}
use Rattle.mit_parser.specs.Tree.{no_name, and_name, no_marks, marks_of, skip_of, assign_of, sleep_of, if_of, while_of, mitigate_of, block_of}
use Rattle.mit_parser.specs.Tree.{no_else, else_of, Commands, commands_of, no_more, and_more, front_and_name, front_marks, front_command, front_block}
use Rattle.mit_parser.specs.Tree.{front_else, front_commands, front_more, no_more_names, and_more_names, PairTree, pair_of, no_more_pairs, and_pair}
use Rattle.mit_parser.specs.Tree.{no_ordering, ordering_of, no_header, header_of, no_label, label_of, scalar_of, array_of, declaration_of, no_declarations}
use Rattle.mit_parser.specs.Tree.{and_declaration, front_more_names, front_names, front_pair, front_more_pairs, front_pairs, front_ordering, front_header}
use Rattle.mit_parser.specs.Tree.{front_label, front_shape, front_declaration, front_declarations}
use Rattle.mit_parser.specs.Machine.{Part, want, an_atom, an_index, a_term, factors, a_sum, addends, an_expr, comparison, a_name, a_number, marks, second}
use Rattle.mit_parser.specs.Machine.{a_command, a_block, commands, more, otherwise, names, more_names, a_pair, pairs, more_pairs, ordering, header, a_label}
use Rattle.mit_parser.specs.Machine.{a_shape, a_declaration, declarations, step, atom_step, name_step, number_step, command_step, choice, after_index}
use Rattle.mit_parser.specs.Machine.{after_at, after_brace, after_order, after_labels, after_square, after_var}
use Rattle.mit_parser.specs.Reads.{symbol_at}
use Rattle.mit_parser.specs.Headers.{front_name}
use Rattle.mit_parser.proofs.Rules.{symbol_is, told_is}
use Rattle.mit_parser.proofs.Weaken.{as_need, front_as, join, front_join}
use Rattle.mit_parser.proofs.Levels.{op_is}
use Rattle.mit_parser.proofs.Verdicts.{after}

abbrev pub symbol_front : Symbol → Pos → List Told → List Told
symbol_front g p r = symbol_at g p ∷ r

abbrev pub number_front : ℤ × Pos → List Told → List Told
number_front n r = symbol_at (word (number n.0)) n.1 ∷ r

-- a tree of this kind, and then the rest
abbrev pub With : {T : Type 0} (front_of : T → List Told → List Told) (Rest : List Told → Type 0) → List Told → Type 0
With {T} front_of Rest w = (t : T) × (r : List Told) × (w ≡ front_of t r) × Rest r

abbrev pub WithTree : ℕ → (List Told → Type 0) → List Told → Type 0
WithTree n Rest w = With {T = ExpressionTree n} front_expression Rest w

-- the words go on from any expression of rank m to one of rank n, and then the rest
abbrev pub GoesOn : ℕ → ℕ → (List Told → Type 0) → List Told → Type 0
GoesOn m n Rest w = (r : List Told) × ((l : ExpressionTree m) → (t : ExpressionTree n) × (front_expression l w ≡ front_expression t r)) × Rest r

-- the words complete what is still to be read
abbrev pub Completes : List Part → List Told → Type 0
Completes [] w = w ≡ []
Completes (want g ∷ s) w = With (symbol_front g) (Completes s) w
Completes (an_atom ∷ s) w = WithTree 4 (Completes s) w
Completes (an_index ∷ s) w = With front_index (Completes s) w
Completes (a_term ∷ s) w = WithTree 3 (Completes s) w
Completes (factors ∷ s) w = GoesOn 3 3 (Completes s) w
Completes (a_sum ∷ s) w = WithTree 2 (Completes s) w
Completes (addends ∷ s) w = GoesOn 2 2 (Completes s) w
Completes (an_expr ∷ s) w = WithTree 1 (Completes s) w
Completes (comparison ∷ s) w = GoesOn 2 1 (Completes s) w
Completes (a_name ∷ s) w = With front_name (Completes s) w
Completes (a_number ∷ s) w = With number_front (Completes s) w
Completes (marks ∷ s) w = With front_marks (Completes s) w
Completes (second ∷ s) w = With front_and_name (Completes s) w
Completes (a_command ∷ s) w = With front_command (Completes s) w
Completes (a_block ∷ s) w = With front_block (Completes s) w
Completes (commands ∷ s) w = With front_commands (Completes s) w
Completes (more ∷ s) w = With front_more (Completes s) w
Completes (otherwise ∷ s) w = With front_else (Completes s) w
Completes (names ∷ s) w = With front_names (Completes s) w
Completes (more_names ∷ s) w = With front_more_names (Completes s) w
Completes (a_pair ∷ s) w = With front_pair (Completes s) w
Completes (pairs ∷ s) w = With front_pairs (Completes s) w
Completes (more_pairs ∷ s) w = With front_more_pairs (Completes s) w
Completes (ordering ∷ s) w = With front_ordering (Completes s) w
Completes (header ∷ s) w = With front_header (Completes s) w
Completes (a_label ∷ s) w = With front_label (Completes s) w
Completes (a_shape ∷ s) w = With front_shape (Completes s) w
Completes (a_declaration ∷ s) w = With front_declaration (Completes s) w
Completes (declarations ∷ s) w = With front_declarations (Completes s) w

-- a word that is this symbol, before others
abbrev pub told_before : (b : Told) (v : Symbol) (w : List Told) → b.symbol ≡ v → b ∷ w ≡ symbol_at v b.pos ∷ w
told_before b v w e = ap (λ x. x ∷ w) (told_is b v e)

module _ (s t : List Part) (w : List Told) where
  same_left : {a : List Part} → Some a ≡ Some t → Completes t w → Completes a w
  same_left {a} e h = let same : a ≡ t = cc in subst (λ q. Completes q w) (sym same) h

  at_atom : (b : Told) (v : Symbol) → b.symbol ≡ v → atom_step v s ≡ Some t → Completes t w → WithTree 4 (Completes s) (b ∷ w)
  at_atom b (word (number n)) q e h = (number_of n b.pos, w, told_before b (word (number n)) w q, same_left e h)
  at_atom b (word (name x)) q e h =
      let k = same_left e h in
      (name_of x b.pos k.0, k.1, told_before b (word (name x)) w q ∙ ap (λ l. name_at x b.pos ∷ l) k.2, k.3)
  at_atom b (word (sign LeftRound)) q e h =
      let k = same_left e h in (
        parens_of b.pos k.0 k.3.0,
        k.3.1,
        told_before b (word (sign LeftRound)) w q ∙ ap (λ l. sign_at LeftRound b.pos ∷ l) (k.2 ∙ ap (front_expression k.0) k.3.2),
        k.3.3,
      )
  at_atom b (word (sign _)) q e h = cc
  at_atom b (word (key k)) q e h = cc
  at_atom b the_end q e h = cc

  at_command : (b : Told) (v : Symbol) → b.symbol ≡ v → command_step v s ≡ Some t → Completes t w → With front_command (Completes s) (b ∷ w)
  at_command b (word (name x)) q e h =
      let i = same_left e h in
      let a = i.3 in
      let y = a.3 in
      let m = y.3 in (
        assign_of x b.pos i.0 a.0 y.0 m.0,
        m.1,
        told_before b (word (name x)) w q
            ∙ ap (λ l. name_at x b.pos ∷ l) (i.2 ∙ ap (front_index i.0) (a.2 ∙ ap (λ l. sign_at Assign a.0 ∷ l) (y.2 ∙ ap (front_expression y.0) m.2))),
        m.3,
      )
  at_command b (word (key Skip)) q e h =
      let k = same_left e h in
      (skip_of b.pos k.0, k.1, told_before b (word (key Skip)) w q ∙ ap (λ l. key_at Skip b.pos ∷ l) k.2, k.3)
  at_command b (word (key Sleep)) q e h =
      let y = same_left e h in
      let m = y.3 in
      (sleep_of b.pos y.0 m.0, m.1, told_before b (word (key Sleep)) w q ∙ ap (λ l. key_at Sleep b.pos ∷ l) (y.2 ∙ ap (front_expression y.0) m.2), m.3)
  at_command b (word (key If)) q e h =
      let k = same_left e h in
      let m = k.3 in
      let u = m.3 in
      let x = u.3 in
      let o = x.3 in (
        if_of b.pos k.0 m.0 u.0 x.0 o.0,
        o.1,
        told_before b (word (key If)) w q
            ∙ ap (λ l. key_at If b.pos ∷ l)
            (k.2 ∙ ap (front_expression k.0) (m.2 ∙ ap (front_marks m.0) (u.2 ∙ ap (λ l. key_at Then u.0 ∷ l) (x.2 ∙ ap (front_block x.0) o.2)))),
        o.3,
      )
  at_command b (word (key While)) q e h =
      let k = same_left e h in
      let m = k.3 in
      let u = m.3 in
      let x = u.3 in (
        while_of b.pos k.0 m.0 u.0 x.0,
        x.1,
        told_before b (word (key While)) w q
            ∙ ap (λ l. key_at While b.pos ∷ l) (k.2 ∙ ap (front_expression k.0) (m.2 ∙ ap (front_marks m.0) (u.2 ∙ ap (λ l. key_at Do u.0 ∷ l) x.2))),
        x.3,
      )
  at_command b (word (key Mitigate)) q e h =
      let a = same_left e h in
      let k = a.3 in
      let l = k.3 in
      let u = l.3 in
      let m = u.3 in
      let x = m.3 in (
        mitigate_of b.pos a.0 k.0 l.0 u.0 m.0 x.0,
        x.1,
        told_before b (word (key Mitigate)) w q
            ∙ ap (λ z. key_at Mitigate b.pos ∷ z) (a.2 ∙ ap (λ z. sign_at LeftRound a.0 ∷ z) (k.2 ∙ ap (front_expression k.0) (l.2
            ∙ ap (front_and_name l.0) (u.2 ∙ ap (λ z. sign_at RightRound u.0 ∷ z) (m.2 ∙ ap (front_marks m.0) x.2))))),
        x.3,
      )
  at_command b (word (key _)) q e h = cc
  at_command b (word (number n)) q e h = cc
  at_command b (word (sign g)) q e h = cc
  at_command b the_end q e h = cc

  at_name : (b : Told) (v : Symbol) → b.symbol ≡ v → name_step v s ≡ Some t → Completes t w → With front_name (Completes s) (b ∷ w)
  at_name b (word (name x)) q e h = ((x, b.pos), w, told_before b (word (name x)) w q, same_left e h)
  at_name b (word (number n)) q e h = cc
  at_name b (word (sign g)) q e h = cc
  at_name b (word (key k)) q e h = cc
  at_name b the_end q e h = cc

  at_number : (b : Told) (v : Symbol) → b.symbol ≡ v → number_step v s ≡ Some t → Completes t w → With number_front (Completes s) (b ∷ w)
  at_number b (word (number n)) q e h = ((n, b.pos), w, told_before b (word (number n)) w q, same_left e h)
  at_number b (word (name x)) q e h = cc
  at_number b (word (sign g)) q e h = cc
  at_number b (word (key k)) q e h = cc
  at_number b the_end q e h = cc

  at_want : (g : Symbol) (b : Told) (o : Bool) → is g b.symbol ≡ o → cond o (Some s) None ≡ Some t → Completes t w → With (symbol_front g) (Completes s) (b ∷ w)
  at_want g b true q e h = (b.pos, w, told_before b g w (symbol_is g b.symbol q), same_left e h)
  at_want g b false q e h = cc

  at_index : (b : Told) (o : Bool) → is (word (sign LeftSquare)) b.symbol ≡ o → cond o (Some (after_index s)) (step s b.symbol) ≡ Some t
      → Completes t w → (step s b.symbol ≡ Some t → Completes s (b ∷ w)) → With front_index (Completes s) (b ∷ w)
  at_index b false q e h ih = (no_index, b ∷ w, refl, ih e)
  at_index b true q e h ih =
      let k = same_left e h in (
        index_of b.pos k.0 k.3.0,
        k.3.1,
        told_before b (word (sign LeftSquare)) w (symbol_is (word (sign LeftSquare)) b.symbol q)
            ∙ ap (λ l. sign_at LeftSquare b.pos ∷ l) (k.2 ∙ ap (front_expression k.0) k.3.2),
        k.3.3,
      )

  -- an operator of rank n after an expression of rank m, or none
  at_op : (m n : ℕ) → max 2 n ≤ m → (b : Told) (parts : List Part) (o : Option Op) → op_at n b.symbol ≡ o
      → choice o (step s b.symbol) (λ _. Some parts) ≡ Some t → (Some parts ≡ Some t → WithTree (n + 1) (GoesOn n n (Completes s)) w)
      → (step s b.symbol ≡ Some t → Completes s (b ∷ w)) → GoesOn m n (Completes s) (b ∷ w)
  at_op m n h b parts None q e then ih = (b ∷ w, λ l. (as_need n (omega (arith, h)) l, sym (front_as n (omega (arith, h)) l (b ∷ w))), ih e)
  at_op m n h b parts (Some f) q e then ih =
      let k = then e in
      let i = op_is n b.symbol f (sym q) in (
        k.3.0,
        λ l.
            let y = k.3.1 (join f i.0 h l b.pos k.0) in
            let here = told_before b (word (sign (op_sign f))) w i.1 ∙ ap (λ z. sign_at (op_sign f) b.pos ∷ z) k.2 in
            (y.0, ap (front_expression l) here ∙ sym (front_join f i.0 h l b.pos k.0 k.1) ∙ y.1),
        k.3.2,
      )

  at_marks : (b : Told) (o : Bool) → is (word (sign At)) b.symbol ≡ o → cond o (Some (after_at s)) (step s b.symbol) ≡ Some t
      → Completes t w → (step s b.symbol ≡ Some t → Completes s (b ∷ w)) → With front_marks (Completes s) (b ∷ w)
  at_marks b false q e h ih = (no_marks, b ∷ w, refl, ih e)
  at_marks b true q e h ih =
      let k = same_left e h in
      let n = k.3 in
      let x = n.3 in
      let v = x.3 in (
        marks_of b.pos k.0 n.0.0 n.0.1 x.0 v.0,
        v.1,
        told_before b (word (sign At)) w (symbol_is (word (sign At)) b.symbol q)
            ∙ ap (λ l. sign_at At b.pos ∷ l)
            (k.2 ∙ ap (λ l. sign_at LeftSquare k.0 ∷ l) (n.2 ∙ ap (λ l. name_at n.0.0 n.0.1 ∷ l) (x.2 ∙ ap (front_and_name x.0) v.2))),
        v.3,
      )

  at_second : (b : Told) (o : Bool) → is (word (sign Comma)) b.symbol ≡ o → cond o (Some (a_name ∷ s)) (step s b.symbol) ≡ Some t
      → Completes t w → (step s b.symbol ≡ Some t → Completes s (b ∷ w)) → With front_and_name (Completes s) (b ∷ w)
  at_second b false q e h ih = (no_name, b ∷ w, refl, ih e)
  at_second b true q e h ih =
      let k = same_left e h in (
        and_name b.pos k.0.0 k.0.1,
        k.1,
        told_before b (word (sign Comma)) w (symbol_is (word (sign Comma)) b.symbol q) ∙ ap (λ l. sign_at Comma b.pos ∷ l) k.2,
        k.3,
      )

  at_block : (b : Told) (o : Bool) → is (word (sign LeftBrace)) b.symbol ≡ o → cond o (Some (after_brace s)) None ≡ Some t
      → Completes t w → With front_block (Completes s) (b ∷ w)
  at_block b false q e h = cc
  at_block b true q e h =
      let k = same_left e h in (
        block_of b.pos k.0 k.3.0,
        k.3.1,
        told_before b (word (sign LeftBrace)) w (symbol_is (word (sign LeftBrace)) b.symbol q)
            ∙ ap (λ l. sign_at LeftBrace b.pos ∷ l) (k.2 ∙ ap (front_commands k.0) k.3.2),
        k.3.3,
      )

  at_more : (b : Told) (o : Bool) → is (word (sign Semicolon)) b.symbol ≡ o → cond o (Some (a_command ∷ more ∷ s)) (step s b.symbol) ≡ Some t
      → Completes t w → (step s b.symbol ≡ Some t → Completes s (b ∷ w)) → With front_more (Completes s) (b ∷ w)
  at_more b false q e h ih = (no_more, b ∷ w, refl, ih e)
  at_more b true q e h ih =
      let k = same_left e h in (
        and_more b.pos k.0 k.3.0,
        k.3.1,
        told_before b (word (sign Semicolon)) w (symbol_is (word (sign Semicolon)) b.symbol q)
            ∙ ap (λ l. sign_at Semicolon b.pos ∷ l) (k.2 ∙ ap (front_command k.0) k.3.2),
        k.3.3,
      )

  at_else : (b : Told) (o : Bool) → is (word (key Else)) b.symbol ≡ o → cond o (Some (a_block ∷ s)) (step s b.symbol) ≡ Some t
      → Completes t w → (step s b.symbol ≡ Some t → Completes s (b ∷ w)) → With front_else (Completes s) (b ∷ w)
  at_else b false q e h ih = (no_else, b ∷ w, refl, ih e)
  at_else b true q e h ih =
      let k = same_left e h in
      (else_of b.pos k.0, k.1, told_before b (word (key Else)) w (symbol_is (word (key Else)) b.symbol q) ∙ ap (λ l. key_at Else b.pos ∷ l) k.2, k.3)

  at_more_names : (b : Told) (o : Bool) → is (word (sign Comma)) b.symbol ≡ o → cond o (Some (a_name ∷ more_names ∷ s)) (step s b.symbol) ≡ Some t
      → Completes t w → (step s b.symbol ≡ Some t → Completes s (b ∷ w)) → With front_more_names (Completes s) (b ∷ w)
  at_more_names b false q e h ih = (no_more_names, b ∷ w, refl, ih e)
  at_more_names b true q e h ih =
      let k = same_left e h in
      let m = k.3 in (
        and_more_names b.pos k.0.0 k.0.1 m.0,
        m.1,
        told_before b (word (sign Comma)) w (symbol_is (word (sign Comma)) b.symbol q) ∙ ap (λ l. sign_at Comma b.pos ∷ l) (k.2 ∙ ap (front_name k.0) m.2),
        m.3,
      )

  at_more_pairs : (b : Told) (o : Bool) → is (word (sign Comma)) b.symbol ≡ o → cond o (Some (a_pair ∷ more_pairs ∷ s)) (step s b.symbol) ≡ Some t
      → Completes t w → (step s b.symbol ≡ Some t → Completes s (b ∷ w)) → With front_more_pairs (Completes s) (b ∷ w)
  at_more_pairs b false q e h ih = (no_more_pairs, b ∷ w, refl, ih e)
  at_more_pairs b true q e h ih =
      let k = same_left e h in
      let m = k.3 in (
        and_pair b.pos k.0 m.0,
        m.1,
        told_before b (word (sign Comma)) w (symbol_is (word (sign Comma)) b.symbol q) ∙ ap (λ l. sign_at Comma b.pos ∷ l) (k.2 ∙ ap (front_pair k.0) m.2),
        m.3,
      )

  at_ordering : (b : Told) (o : Bool) → is (word (key Order)) b.symbol ≡ o → cond o (Some (after_order s)) (step s b.symbol) ≡ Some t
      → Completes t w → (step s b.symbol ≡ Some t → Completes s (b ∷ w)) → With front_ordering (Completes s) (b ∷ w)
  at_ordering b false q e h ih = (no_ordering, b ∷ w, refl, ih e)
  at_ordering b true q e h ih =
      let k = same_left e h in
      let u = k.3 in (
        ordering_of b.pos k.0.0 k.0.1 u.0,
        u.1,
        told_before b (word (key Order)) w (symbol_is (word (key Order)) b.symbol q) ∙ ap (λ l. key_at Order b.pos ∷ l) (k.2 ∙ ap (front_pairs k.0) u.2),
        u.3,
      )

  at_header : (b : Told) (o : Bool) → is (word (key Labels)) b.symbol ≡ o → cond o (Some (after_labels s)) (step s b.symbol) ≡ Some t
      → Completes t w → (step s b.symbol ≡ Some t → Completes s (b ∷ w)) → With front_header (Completes s) (b ∷ w)
  at_header b false q e h ih = (no_header, b ∷ w, refl, ih e)
  at_header b true q e h ih =
      let k = same_left e h in
      let u = k.3 in
      let o = u.3 in (
        header_of b.pos k.0.0.0 k.0.0.1 k.0.1 u.0 o.0,
        o.1,
        told_before b (word (key Labels)) w (symbol_is (word (key Labels)) b.symbol q)
            ∙ ap (λ l. key_at Labels b.pos ∷ l) (k.2 ∙ ap (front_names k.0) (u.2 ∙ ap (λ l. sign_at Semicolon u.0 ∷ l) o.2)),
        o.3,
      )

  at_label : (b : Told) (o : Bool) → is (word (sign Colon)) b.symbol ≡ o → cond o (Some (a_name ∷ s)) (step s b.symbol) ≡ Some t
      → Completes t w → (step s b.symbol ≡ Some t → Completes s (b ∷ w)) → With front_label (Completes s) (b ∷ w)
  at_label b false q e h ih = (no_label, b ∷ w, refl, ih e)
  at_label b true q e h ih =
      let k = same_left e h in (
        label_of b.pos k.0.0 k.0.1,
        k.1,
        told_before b (word (sign Colon)) w (symbol_is (word (sign Colon)) b.symbol q) ∙ ap (λ l. sign_at Colon b.pos ∷ l) k.2,
        k.3,
      )

  at_shape : (b : Told) (o : Bool) → is (word (sign LeftSquare)) b.symbol ≡ o → cond o (Some (after_square s)) (step (a_label ∷ s) b.symbol) ≡ Some t
      → Completes t w → (step (a_label ∷ s) b.symbol ≡ Some t → With front_label (Completes s) (b ∷ w)) → With front_shape (Completes s) (b ∷ w)
  at_shape b false q e h ih = let k = ih e in (scalar_of k.0, k.1, k.2, k.3)
  at_shape b true q e h ih =
      let n = same_left e h in
      let u = n.3 in
      let v = u.3 in
      let x = v.3 in (
        array_of b.pos n.0.0 n.0.1 u.0 v.0 x.0.0 x.0.1,
        x.1,
        told_before b (word (sign LeftSquare)) w (symbol_is (word (sign LeftSquare)) b.symbol q)
            ∙ ap (λ l. sign_at LeftSquare b.pos ∷ l) (n.2 ∙ ap (number_front n.0) (u.2
            ∙ ap (λ l. sign_at RightSquare u.0 ∷ l) (v.2 ∙ ap (λ l. sign_at Colon v.0 ∷ l) x.2))),
        x.3,
      )

  at_declaration : (b : Told) (o : Bool) → is (word (key Var)) b.symbol ≡ o → cond o (Some (after_var s)) None ≡ Some t
      → Completes t w → With front_declaration (Completes s) (b ∷ w)
  at_declaration b false q e h = cc
  at_declaration b true q e h =
      let n = same_left e h in
      let u = n.3 in
      let v = u.3 in (
        declaration_of b.pos n.0.0 n.0.1 u.0 v.0,
        v.1,
        told_before b (word (key Var)) w (symbol_is (word (key Var)) b.symbol q)
            ∙ ap (λ l. key_at Var b.pos ∷ l) (n.2 ∙ ap (front_name n.0) (u.2 ∙ ap (front_shape u.0) v.2)),
        v.3,
      )

  at_declarations : (b : Told) (o : Bool) → is (word (key Var)) b.symbol ≡ o → cond o (Some (after_var (declarations ∷ s))) (step s b.symbol) ≡ Some t
      → Completes t w → (step s b.symbol ≡ Some t → Completes s (b ∷ w)) → With front_declarations (Completes s) (b ∷ w)
  at_declarations b false q e h ih = (no_declarations, b ∷ w, refl, ih e)
  at_declarations b true q e h ih =
      let n = same_left e h in
      let u = n.3 in
      let v = u.3 in
      let m = v.3 in (
        and_declaration (declaration_of b.pos n.0.0 n.0.1 u.0 v.0) m.0,
        m.1,
        told_before b (word (key Var)) w (symbol_is (word (key Var)) b.symbol q)
            ∙ ap (λ l. key_at Var b.pos ∷ l) (n.2 ∙ ap (front_name n.0) (u.2 ∙ ap (front_shape u.0) (v.2
            ∙ ap (λ l. sign_at Semicolon v.0 ∷ l) m.2))),
        m.3,
      )

-- an expression that the words after it make a longer one
longer : (k m n : ℕ) → m ≤ k → (Rest : List Told → Type 0) (w : List Told) → WithTree k (GoesOn m n Rest) w → WithTree n Rest w
longer k m n h Rest w x =
    let y = x.3.1 (as_need m h x.0) in
    (y.0, x.3.0, x.2 ∙ sym (front_as m h x.0 x.1) ∙ y.1, x.3.2)

-- one word back
pub back : (s t : List Part) (b : Told) (w : List Told) → step s b.symbol ≡ Some t → Completes t w → Completes s (b ∷ w)
back [] t b w e h = cc
back (want g ∷ s) t b w e h = at_want s t w g b (is g b.symbol) refl e h
back (an_atom ∷ s) t b w e h = at_atom s t w b b.symbol refl e h
back (an_index ∷ s) t b w e h = at_index s t w b (is (word (sign LeftSquare)) b.symbol) refl e h (λ q. back s t b w q h)
back (a_term ∷ s) t b w e h = longer 4 3 3 (omega arith) (Completes s) (b ∷ w) (at_atom (factors ∷ s) t w b b.symbol refl e h)
back (factors ∷ s) t b w e h =
    at_op s t w 3 3 (omega arith) b (an_atom ∷ factors ∷ s) (op_at 3 b.symbol) refl e (λ q. same_left s t w q h) (λ q. back s t b w q h)
back (a_sum ∷ s) t b w e h =
    longer 3 2 2 (omega arith) (Completes s) (b ∷ w) (longer 4 3 3 (omega arith) (Completes (addends ∷ s)) (b ∷ w)
    (at_atom (factors ∷ addends ∷ s) t w b b.symbol refl e h))
back (addends ∷ s) t b w e h =
    at_op s t w 2 2 (omega arith) b (a_term ∷ addends ∷ s) (op_at 2 b.symbol) refl e (λ q. same_left s t w q h) (λ q. back s t b w q h)
back (an_expr ∷ s) t b w e h =
    longer 2 2 1 (omega arith) (Completes s) (b ∷ w) (longer 3 2 2 (omega arith) (Completes (comparison ∷ s)) (b ∷ w)
    (longer 4 3 3 (omega arith) (Completes (addends ∷ comparison ∷ s)) (b ∷ w)
    (at_atom (factors ∷ addends ∷ comparison ∷ s) t w b b.symbol refl e h)))
back (comparison ∷ s) t b w e h =
    at_op s t w 2 1 (omega arith) b (a_sum ∷ s) (op_at 1 b.symbol) refl e
    (λ q. let k = same_left s t w q h in (k.0, k.1, k.2, (k.1, λ l. (l, refl), k.3))) (λ q. back s t b w q h)
back (a_name ∷ s) t b w e h = at_name s t w b b.symbol refl e h
back (a_number ∷ s) t b w e h = at_number s t w b b.symbol refl e h
back (marks ∷ s) t b w e h = at_marks s t w b (is (word (sign At)) b.symbol) refl e h (λ q. back s t b w q h)
back (second ∷ s) t b w e h = at_second s t w b (is (word (sign Comma)) b.symbol) refl e h (λ q. back s t b w q h)
back (a_command ∷ s) t b w e h = at_command s t w b b.symbol refl e h
back (a_block ∷ s) t b w e h = at_block s t w b (is (word (sign LeftBrace)) b.symbol) refl e h
back (commands ∷ s) t b w e h =
    let k = at_command (more ∷ s) t w b b.symbol refl e h in
    (commands_of k.0 k.3.0, k.3.1, k.2 ∙ ap (front_command k.0) k.3.2, k.3.3)
back (more ∷ s) t b w e h = at_more s t w b (is (word (sign Semicolon)) b.symbol) refl e h (λ q. back s t b w q h)
back (otherwise ∷ s) t b w e h = at_else s t w b (is (word (key Else)) b.symbol) refl e h (λ q. back s t b w q h)
back (names ∷ s) t b w e h =
    let k = at_name (more_names ∷ s) t w b b.symbol refl e h in
    ((k.0, k.3.0), k.3.1, k.2 ∙ ap (front_name k.0) k.3.2, k.3.3)
back (more_names ∷ s) t b w e h = at_more_names s t w b (is (word (sign Comma)) b.symbol) refl e h (λ q. back s t b w q h)
back (a_pair ∷ s) t b w e h =
    let k = at_name (want (word (sign Less)) ∷ a_name ∷ s) t w b b.symbol refl e h in
    let u = k.3 in
    let n = u.3 in
    (pair_of k.0.0 k.0.1 u.0 n.0.0 n.0.1, n.1, k.2 ∙ ap (front_name k.0) (u.2 ∙ ap (λ l. sign_at Less u.0 ∷ l) n.2), n.3)
back (pairs ∷ s) t b w e h =
    let k = at_name (want (word (sign Less)) ∷ a_name ∷ more_pairs ∷ s) t w b b.symbol refl e h in
    let u = k.3 in
    let n = u.3 in
    let m = n.3 in
    ((pair_of k.0.0 k.0.1 u.0 n.0.0 n.0.1, m.0), m.1, k.2 ∙ ap (front_name k.0) (u.2 ∙ ap (λ l. sign_at Less u.0 ∷ l) (n.2 ∙ ap (front_name n.0) m.2)), m.3)
back (more_pairs ∷ s) t b w e h = at_more_pairs s t w b (is (word (sign Comma)) b.symbol) refl e h (λ q. back s t b w q h)
back (ordering ∷ s) t b w e h = at_ordering s t w b (is (word (key Order)) b.symbol) refl e h (λ q. back s t b w q h)
back (header ∷ s) t b w e h = at_header s t w b (is (word (key Labels)) b.symbol) refl e h (λ q. back s t b w q h)
back (a_label ∷ s) t b w e h = at_label s t w b (is (word (sign Colon)) b.symbol) refl e h (λ q. back s t b w q h)
back (a_shape ∷ s) t b w e h =
    at_shape s t w b (is (word (sign LeftSquare)) b.symbol) refl e h
    (λ q. at_label s t w b (is (word (sign Colon)) b.symbol) refl q h (λ r. back s t b w r h))
back (a_declaration ∷ s) t b w e h = at_declaration s t w b (is (word (key Var)) b.symbol) refl e h
back (declarations ∷ s) t b w e h = at_declarations s t w b (is (word (key Var)) b.symbol) refl e h (λ q. back s t b w q h)

-- many words back
back_step : (s t : List Part) (b : Told) (p w : List Told) (o : Option (List Part)) → step s b.symbol ≡ o → choice o None (λ u. after u p) ≡ Some t
    → ((u : List Part) → after u p ≡ Some t → Completes u (p ++ w)) → Completes s (b ∷ (p ++ w))
back_step s t b p w None q e ih = cc
back_step s t b p w (Some u) q e ih = back s u b (p ++ w) q (ih u e)

pub back_all : (s t : List Part) (p w : List Told) → after s p ≡ Some t → Completes t w → Completes s (p ++ w)
back_all s t [] w e h = let same : s ≡ t = cc in subst (λ q. Completes q w) (sym same) h
back_all s t (b ∷ p) w e h = back_step s t b p w (step s b.symbol) refl e (λ u q. back_all u t p w q h)

-- each list of parts can be completed
one_more : {T : Type 0} (front_of : T → List Told → List Told) (Rest : List Told → Type 0) (t : T) → (w : List Told) × Rest w
    → (w : List Told) × With front_of Rest w
one_more front_of Rest t k = (front_of t k.0, (t, k.0, refl, k.1))

abbrev here : Pos
here = record { line = 1; column = 1 }

any_expression : {n : ℕ} → ExpressionTree n
any_expression = number_of (pos 0) here

any_commands : Commands
any_commands = commands_of (skip_of here no_marks) no_more

-- the letter a
abbrev any_name : List ℕ × Pos
any_name = (97 ∷ [], here)

any_pair : PairTree
any_pair = pair_of (97 ∷ []) here here (97 ∷ []) here

pub complete : (s : List Part) → (w : List Told) × Completes s w
complete [] = ([], refl)
complete (want g ∷ s) = one_more (symbol_front g) (Completes s) here (complete s)
complete (an_atom ∷ s) = one_more (front_expression {n = 4}) (Completes s) any_expression (complete s)
complete (an_index ∷ s) = one_more front_index (Completes s) no_index (complete s)
complete (a_term ∷ s) = one_more (front_expression {n = 3}) (Completes s) any_expression (complete s)
complete (factors ∷ s) = let k = complete s in (k.0, (k.0, λ l. (l, refl), k.1))
complete (a_sum ∷ s) = one_more (front_expression {n = 2}) (Completes s) any_expression (complete s)
complete (addends ∷ s) = let k = complete s in (k.0, (k.0, λ l. (l, refl), k.1))
complete (an_expr ∷ s) = one_more (front_expression {n = 1}) (Completes s) any_expression (complete s)
complete (comparison ∷ s) = let k = complete s in (k.0, (k.0, λ l. (as_need 1 (omega arith) l, sym (front_as 1 (omega arith) l k.0)), k.1))
complete (a_name ∷ s) = one_more front_name (Completes s) any_name (complete s)
complete (a_number ∷ s) = one_more number_front (Completes s) (pos 0, here) (complete s)
complete (marks ∷ s) = one_more front_marks (Completes s) no_marks (complete s)
complete (second ∷ s) = one_more front_and_name (Completes s) no_name (complete s)
complete (a_command ∷ s) = one_more front_command (Completes s) (skip_of here no_marks) (complete s)
complete (a_block ∷ s) = one_more front_block (Completes s) (block_of here any_commands here) (complete s)
complete (commands ∷ s) = one_more front_commands (Completes s) any_commands (complete s)
complete (more ∷ s) = one_more front_more (Completes s) no_more (complete s)
complete (otherwise ∷ s) = one_more front_else (Completes s) no_else (complete s)
complete (names ∷ s) = one_more front_names (Completes s) (any_name, no_more_names) (complete s)
complete (more_names ∷ s) = one_more front_more_names (Completes s) no_more_names (complete s)
complete (a_pair ∷ s) = one_more front_pair (Completes s) any_pair (complete s)
complete (pairs ∷ s) = one_more front_pairs (Completes s) (any_pair, no_more_pairs) (complete s)
complete (more_pairs ∷ s) = one_more front_more_pairs (Completes s) no_more_pairs (complete s)
complete (ordering ∷ s) = one_more front_ordering (Completes s) no_ordering (complete s)
complete (header ∷ s) = one_more front_header (Completes s) no_header (complete s)
complete (a_label ∷ s) = one_more front_label (Completes s) no_label (complete s)
complete (a_shape ∷ s) = one_more front_shape (Completes s) (scalar_of no_label) (complete s)
complete (a_declaration ∷ s) = one_more front_declaration (Completes s) (declaration_of here (97 ∷ []) here (scalar_of no_label) here) (complete s)
complete (declarations ∷ s) = one_more front_declarations (Completes s) no_declarations (complete s)
