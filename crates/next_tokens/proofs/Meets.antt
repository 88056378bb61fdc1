-- What parts do at tokens is what the machine does.
use Rattle.std.proofs.Common.{◌≡◌, refl, ap, ◌∙◌, sym, ℕ, List, [], ◌∷◌, ◌++◌, Bool, true, false, cond, Option, Some, None}
use Rattle.std.specs.Prelude.{is_some}
use Rattle.mit_syntax.specs.declared.token.Keyword.{Keyword}
use Rattle.mit_syntax.specs.declared.token.Keyword.TheVariants.{Labels, Order, Var, Skip, If, Then, Else, While, Do, Mitigate, Sleep}
use Rattle.mit_syntax.specs.declared.token.Sign.{Sign}
use Rattle.mit_syntax.specs.declared.token.Sign.TheVariants.{Assign, Colon, Semicolon, Comma, LeftRound, RightRound, LeftBrace, RightBrace, LeftSquare}
use Rattle.mit_syntax.specs.declared.token.Sign.TheVariants.{RightSquare, At, Less}
use Rattle.mit_syntax.specs.Chunks.{key, sign, number, name}
use Rattle.mit_parser.specs.Words.{Symbol, word, the_end, is_sign, is_key, is_end}
use Rattle.mit_parser.specs.Operators.{op_at}
use Rattle.mit_parser.specs.Machine as machine
use Rattle.mit_parser.specs.Machine.{step, choice, atom_step, command_step, name_step, number_step}
use Rattle.next_tokens.specs.declared.sort.Sort.{Sort}
use Rattle.next_tokens.specs.declared.part.Part.{Part}
use Rattle.next_tokens.specs.declared.part.Part.TheVariants as part
use Rattle.next_tokens.specs.Sorts.{sort_of, has_key, has_sign, has_rank, is_a_name, is_a_number, is_the_end}
use Rattle.next_tokens.specs.Parts.{part_of, onto, left_of, Meeting, stuck, over, goes, left_out, meet_atom, meet_command, meet_shape, meet}

pub onto_append : (xs ys : List Part) (s : List machine.Part) → onto (xs ++ ys) s ≡ onto ys (onto xs s)
onto_append [] ys s = refl
onto_append (x ∷ xs) ys s = onto_append xs ys (part_of x ∷ s)

pub left_last : (xs : List Part) (p : Part) → left_of (xs ++ p ∷ []) ≡ part_of p ∷ left_of xs
left_last xs p = onto_append xs (p ∷ []) []

-- what may be read next, where `skipped` is what may be read behind the part
abbrev pub made : Meeting → List machine.Part → Option (List machine.Part) → Option (List machine.Part)
made stuck s skipped = None
made over s skipped = skipped
made (goes after) s skipped = Some (onto after s)

key_same : (k : Keyword) (w : Symbol) → is_key k w ≡ has_key k (sort_of w)
key_same k (word (key j)) = refl
key_same k (word (sign g)) = refl
key_same k (word (number n)) = refl
key_same k (word (name v)) = refl
key_same k the_end = refl

sign_same : (g : Sign) (w : Symbol) → is_sign g w ≡ has_sign g (sort_of w)
sign_same g (word (key j)) = refl
sign_same g (word (sign h)) = refl
sign_same g (word (number n)) = refl
sign_same g (word (name v)) = refl
sign_same g the_end = refl

end_same : (w : Symbol) → is_end w ≡ is_the_end (sort_of w)
end_same (word (key j)) = refl
end_same (word (sign h)) = refl
end_same (word (number n)) = refl
end_same (word (name v)) = refl
end_same the_end = refl

rank_same : (n : ℕ) (w : Symbol) → is_some (op_at n w) ≡ has_rank n (sort_of w)
rank_same n (word (key j)) = refl
rank_same n (word (sign h)) = refl
rank_same n (word (number m)) = refl
rank_same n (word (name v)) = refl
rank_same n the_end = refl

choose : {A B : Type 0} (o : Option A) (b t : B) → choice o b (λ _. t) ≡ cond (is_some o) t b
choose None b t = refl
choose (Some a) b t = refl

must : (b : Bool) (after : List Part) (s : List machine.Part) (o : Option (List machine.Part))
    → cond b (Some (onto after s)) None ≡ made (cond b (goes after) stuck) s o
must true after s o = refl
must false after s o = refl

may : (b : Bool) (after : List Part) (s : List machine.Part) (o : Option (List machine.Part))
    → cond b (Some (onto after s)) o ≡ made (left_out b after) s o
may true after s o = refl
may false after s o = refl

must_key : (k : Keyword) (w : Symbol) (s : List machine.Part) (o : Option (List machine.Part))
    → cond (is_key k w) (Some s) None ≡ made (cond (has_key k (sort_of w)) (goes []) stuck) s o
must_key k w s o = ap (λ b. cond b (Some s) None) (key_same k w) ∙ must (has_key k (sort_of w)) [] s o

must_sign : (g : Sign) (after : List Part) (w : Symbol) (s : List machine.Part) (o : Option (List machine.Part))
    → cond (is_sign g w) (Some (onto after s)) None ≡ made (cond (has_sign g (sort_of w)) (goes after) stuck) s o
must_sign g after w s o = ap (λ b. cond b (Some (onto after s)) None) (sign_same g w) ∙ must (has_sign g (sort_of w)) after s o

may_sign : (g : Sign) (after : List Part) (w : Symbol) (s : List machine.Part) (o : Option (List machine.Part))
    → cond (is_sign g w) (Some (onto after s)) o ≡ made (left_out (has_sign g (sort_of w)) after) s o
may_sign g after w s o = ap (λ b. cond b (Some (onto after s)) o) (sign_same g w) ∙ may (has_sign g (sort_of w)) after s o

may_key : (k : Keyword) (after : List Part) (w : Symbol) (s : List machine.Part) (o : Option (List machine.Part))
    → cond (is_key k w) (Some (onto after s)) o ≡ made (left_out (has_key k (sort_of w)) after) s o
may_key k after w s o = ap (λ b. cond b (Some (onto after s)) o) (key_same k w) ∙ may (has_key k (sort_of w)) after s o

may_rank : (n : ℕ) (after : List Part) (w : Symbol) (s : List machine.Part) (o : Option (List machine.Part))
    → choice (op_at n w) o (λ _. Some (onto after s)) ≡ made (left_out (has_rank n (sort_of w)) after) s o
may_rank n after w s o =
    choose (op_at n w) o (Some (onto after s)) ∙ ap (λ b. cond b (Some (onto after s)) o) (rank_same n w) ∙ may (has_rank n (sort_of w)) after s o

on_name : (after : List Part) (w : Symbol) (s : List machine.Part) (o : Option (List machine.Part))
    → name_step w (onto after s) ≡ made (cond (is_a_name (sort_of w)) (goes after) stuck) s o
on_name after (word (key j)) s o = refl
on_name after (word (sign h)) s o = refl
on_name after (word (number n)) s o = refl
on_name after (word (name v)) s o = refl
on_name after the_end s o = refl

on_number : (w : Symbol) (s : List machine.Part) (o : Option (List machine.Part))
    → number_step w s ≡ made (cond (is_a_number (sort_of w)) (goes []) stuck) s o
on_number (word (key j)) s o = refl
on_number (word (sign h)) s o = refl
on_number (word (number n)) s o = refl
on_number (word (name v)) s o = refl
on_number the_end s o = refl

on_atom : (behind : List Part) (w : Symbol) (s : List machine.Part) (o : Option (List machine.Part))
    → atom_step w (onto behind s) ≡ made (meet_atom behind (sort_of w)) s o
on_atom behind (word (key j)) s o = refl
on_atom behind (word (sign LeftRound)) s o = ap Some (sym (onto_append behind (part.WantSign RightRound ∷ part.Expression ∷ []) s))
on_atom behind (word (sign _)) s o = refl
on_atom behind (word (number n)) s o = refl
on_atom behind (word (name v)) s o = ap Some (sym (onto_append behind (part.Index ∷ []) s))
on_atom behind the_end s o = refl

on_command : (behind : List Part) (w : Symbol) (s : List machine.Part) (o : Option (List machine.Part))
    → command_step w (onto behind s) ≡ made (meet_command behind (sort_of w)) s o
on_command behind (word (name v)) s o =
    ap Some (sym (onto_append behind (part.Marks ∷ part.Expression ∷ part.WantSign Assign ∷ part.Index ∷ []) s))
on_command behind (word (key Skip)) s o = ap Some (sym (onto_append behind (part.Marks ∷ []) s))
on_command behind (word (key Sleep)) s o = ap Some (sym (onto_append behind (part.Marks ∷ part.Expression ∷ []) s))
on_command behind (word (key If)) s o =
    ap Some (sym (onto_append behind (part.Otherwise ∷ part.Block ∷ part.WantKey Then ∷ part.Marks ∷ part.Expression ∷ []) s))
on_command behind (word (key While)) s o = ap Some (sym (onto_append behind (part.Block ∷ part.WantKey Do ∷ part.Marks ∷ part.Expression ∷ []) s))
on_command behind (word (key Mitigate)) s o =
    ap Some (sym (onto_append behind (part.Block ∷ part.Marks ∷ part.WantSign RightRound ∷ part.Second ∷ part.Expression ∷ part.WantSign LeftRound ∷ []) s))
on_command behind (word (key _)) s o = refl
on_command behind (word (number n)) s o = refl
on_command behind (word (sign g)) s o = refl
on_command behind the_end s o = refl

on_shape : (w : Symbol) (s : List machine.Part) (o : Option (List machine.Part))
    → cond (is_sign LeftSquare w) (Some (machine.after_square s)) (cond (is_sign Colon w) (Some (machine.a_name ∷ s)) o) ≡ made (meet_shape (sort_of w)) s o
on_shape w s o =
    ap (λ b. cond b (Some (machine.after_square s)) (cond (is_sign Colon w) (Some (machine.a_name ∷ s)) o)) (sign_same LeftSquare w)
    ∙ ap (λ b. cond (has_sign LeftSquare (sort_of w)) (Some (machine.after_square s)) (cond b (Some (machine.a_name ∷ s)) o)) (sign_same Colon w)
    ∙ both (has_sign LeftSquare (sort_of w)) (has_sign Colon (sort_of w))
  where
    both : (a b : Bool) → cond a (Some (machine.after_square s)) (cond b (Some (machine.a_name ∷ s)) o)
        ≡ made (cond a (goes (part.Name ∷ part.WantSign Colon ∷ part.WantSign RightSquare ∷ part.Number ∷ [])) (left_out b (part.Name ∷ []))) s o
    both true b = refl
    both false true = refl
    both false false = refl

pub meets_it : (p : Part) (w : Symbol) (s : List machine.Part) → step (part_of p ∷ s) w ≡ made (meet p (sort_of w)) s (step s w)
meets_it (part.WantKey k) w s = must_key k w s (step s w)
meets_it (part.WantSign g) w s = must_sign g [] w s (step s w)
meets_it part.WantEnd w s = ap (λ b. cond b (Some s) None) (end_same w) ∙ must (is_the_end (sort_of w)) [] s (step s w)
meets_it part.Atom w s = on_atom [] w s (step s w)
meets_it part.Index w s = may_sign LeftSquare (part.WantSign RightSquare ∷ part.Expression ∷ []) w s (step s w)
meets_it part.Term w s = on_atom (part.Factors ∷ []) w s (step s w)
meets_it part.Factors w s = may_rank 3 (part.Factors ∷ part.Atom ∷ []) w s (step s w)
meets_it part.Sum w s = on_atom (part.Addends ∷ part.Factors ∷ []) w s (step s w)
meets_it part.Addends w s = may_rank 2 (part.Addends ∷ part.Term ∷ []) w s (step s w)
meets_it part.Expression w s = on_atom (part.Comparison ∷ part.Addends ∷ part.Factors ∷ []) w s (step s w)
meets_it part.Comparison w s = may_rank 1 (part.Sum ∷ []) w s (step s w)
meets_it part.Name w s = on_name [] w s (step s w)
meets_it part.Number w s = on_number w s (step s w)
meets_it part.Marks w s = may_sign At (part.WantSign RightSquare ∷ part.Second ∷ part.Name ∷ part.WantSign LeftSquare ∷ []) w s (step s w)
meets_it part.Second w s = may_sign Comma (part.Name ∷ []) w s (step s w)
meets_it part.Command w s = on_command [] w s (step s w)
meets_it part.Block w s = must_sign LeftBrace (part.WantSign RightBrace ∷ part.Commands ∷ []) w s (step s w)
meets_it part.Commands w s = on_command (part.More ∷ []) w s (step s w)
meets_it part.More w s = may_sign Semicolon (part.More ∷ part.Command ∷ []) w s (step s w)
meets_it part.Otherwise w s = may_key Else (part.Block ∷ []) w s (step s w)
meets_it part.Names w s = on_name (part.MoreNames ∷ []) w s (step s w)
meets_it part.MoreNames w s = may_sign Comma (part.MoreNames ∷ part.Name ∷ []) w s (step s w)
meets_it part.Pair w s = on_name (part.Name ∷ part.WantSign Less ∷ []) w s (step s w)
meets_it part.Pairs w s = on_name (part.MorePairs ∷ part.Name ∷ part.WantSign Less ∷ []) w s (step s w)
meets_it part.MorePairs w s = may_sign Comma (part.MorePairs ∷ part.Pair ∷ []) w s (step s w)
meets_it part.Ordering w s = may_key Order (part.WantSign Semicolon ∷ part.Pairs ∷ []) w s (step s w)
meets_it part.Header w s = may_key Labels (part.Ordering ∷ part.WantSign Semicolon ∷ part.Names ∷ []) w s (step s w)
meets_it part.Shape w s = on_shape w s (step s w)
meets_it part.Declarations w s = may_key Var (part.Declarations ∷ part.WantSign Semicolon ∷ part.Shape ∷ part.Name ∷ []) w s (step s w)

-- the same where the sort is known
pub meets : (p : Part) (x : Sort) (w : Symbol) (s : List machine.Part) → sort_of w ≡ x → step (part_of p ∷ s) w ≡ made (meet p x) s (step s w)
meets p x w s e = meets_it p w s ∙ ap (λ y. made (meet p y) s (step s w)) e
