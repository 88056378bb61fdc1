-- One more token, in the lists of names of a text.
use Rattle.std.proofs.Common.{◌≡◌, ◌<◌, ◌+◌, sym, ap, ◌∙◌, ℕ, List, [], ◌++◌, append_assoc, Bool, true, false, length, get_or, drop}
use Rattle.std.proofs.lemmas.List.{drop_more}
use Rattle.std.proofs.lemmas.Option.{slice_get-get_or}
use Rattle.std.specs.Prelude.{slice_get, ◌&&◌, ◌||◌, if◌then◌else◌}
use Rattle.std.specs.Str.{bytes_eq}
use Rattle.mit_syntax.specs.declared.token.Keyword.TheVariants as key
use Rattle.mit_syntax.specs.declared.token.Sign.TheVariants as sign
use Rattle.mit_syntax.specs.declared.token.Token.{Token}
use Rattle.mit_syntax.specs.declared.token.TokenKind.TheVariants.{End}
use Rattle.mit_syntax.specs.Cut.{token_bytes}
use Rattle.next_tokens.specs.declared.sort.Sort.{Sort}
use Rattle.next_tokens.specs.Sorts.{sort_in, has_key, has_sign, is_a_name}
use Rattle.fault_print.specs.Names.{listed, is_near, near_names, has_variable, front_names, in_front}
use Rattle.fault_print.specs.Tokens.{word_at}

-- a token in the place of one that is there
abbrev pub nothing : Token
nothing = record { kind = End; from = 0; to = 0; pos = record { line = 0; column = 0 } }

module _ (T : List ℕ) (ts : List Token) (i : ℕ) (d : Token) (h : i < length ts) where
  abbrev here : Token
  here = get_or ts i d

  word_there : (name : List ℕ) → name ≡ word_at T (slice_get ts i) → token_bytes T here ≡ name
  word_there name e = sym (e ∙ ap (word_at T) (slice_get-get_or ts i d h))

  -- names that are near
  pub near_on : (w : List ℕ) (p q is : Bool) (x : Sort) (name out new total : List ℕ) → name ≡ word_at T (slice_get ts i) → is ≡ (p && is_near w name)
      → x ≡ sort_in here.kind → q ≡ has_key key.Var x → new ≡ out ++ listed is name → out ++ near_names T w p (drop i ts) ≡ total
      → new ++ near_names T w q (drop (i + 1) ts) ≡ total
  near_on w p q is x name out new total e f g k put now =
      let sort : q ≡ has_key key.Var (sort_in here.kind) = k ∙ ap (has_key key.Var) g in
      let step : near_names T w p (drop i ts) ≡ listed is name ++ near_names T w q (drop (i + 1) ts) =
      ap (near_names T w p) (drop_more ts i d h)
      ∙ ap (λ (z : List ℕ). listed (p && is_near w z) z ++ near_names T w (has_key key.Var (sort_in here.kind)) (drop (i + 1) ts)) (word_there name e)
      ∙ ap (λ (z : Bool). listed z name ++ near_names T w (has_key key.Var (sort_in here.kind)) (drop (i + 1) ts)) (sym f)
      ∙ ap (λ (z : Bool). listed is name ++ near_names T w z (drop (i + 1) ts)) (sym sort) in
      ap (λ (z : List ℕ). z ++ near_names T w q (drop (i + 1) ts)) put
      ∙ append_assoc out (listed is name) (near_names T w q (drop (i + 1) ts))
      ∙ ap (λ (z : List ℕ). out ++ z) (sym step) ∙ now

  -- whether a name is that of a variable
  variable_step : (w : List ℕ) (p is : Bool) (name : List ℕ) → name ≡ word_at T (slice_get ts i) → is ≡ (p && bytes_eq w name)
      → has_variable T w p (drop i ts) ≡ is || has_variable T w (has_key key.Var (sort_in here.kind)) (drop (i + 1) ts)
  variable_step w p is name e f =
      ap (has_variable T w p) (drop_more ts i d h)
      ∙ ap (λ (z : List ℕ). (p && bytes_eq w z) || has_variable T w (has_key key.Var (sort_in here.kind)) (drop (i + 1) ts)) (word_there name e)
      ∙ ap (λ (z : Bool). z || has_variable T w (has_key key.Var (sort_in here.kind)) (drop (i + 1) ts)) (sym f)

  pub variable_at : (w : List ℕ) (p is total : Bool) (name : List ℕ) → name ≡ word_at T (slice_get ts i) → is ≡ (p && bytes_eq w name) → is ≡ true
      → has_variable T w p (drop i ts) ≡ total → true ≡ total
  variable_at w p is total name e f held now =
      ap (λ (z : Bool). z || has_variable T w (has_key key.Var (sort_in here.kind)) (drop (i + 1) ts)) (sym held) ∙ sym (variable_step w p is name e f) ∙ now

  pub variable_on : (w : List ℕ) (p q is total : Bool) (x : Sort) (name : List ℕ) → name ≡ word_at T (slice_get ts i) → is ≡ (p && bytes_eq w name)
      → is ≡ false → x ≡ sort_in here.kind → q ≡ has_key key.Var x → has_variable T w p (drop i ts) ≡ total → has_variable T w q (drop (i + 1) ts) ≡ total
  variable_on w p q is total x name e f never g k now =
      ap (λ (z : Bool). has_variable T w z (drop (i + 1) ts)) (k ∙ ap (has_key key.Var) g)
      ∙ ap (λ (z : Bool). z || has_variable T w (has_key key.Var (sort_in here.kind)) (drop (i + 1) ts)) (sym never)
      ∙ sym (variable_step w p is name e f) ∙ now

  -- names before a `;`
  pub front_on : (x : Sort) (end is : Bool) (name out new total : List ℕ) → x ≡ sort_in here.kind → end ≡ has_sign sign.Semicolon x → end ≡ false
      → is ≡ is_a_name x → name ≡ word_at T (slice_get ts i) → new ≡ out ++ listed is name → out ++ front_names T (drop i ts) ≡ total
      → new ++ front_names T (drop (i + 1) ts) ≡ total
  front_on x end is name out new total g k never f e put now =
      let ends : has_sign sign.Semicolon (sort_in here.kind) ≡ false = ap (has_sign sign.Semicolon) (sym g) ∙ sym k ∙ never in
      let names : is_a_name (sort_in here.kind) ≡ is = ap is_a_name (sym g) ∙ sym f in
      let step : front_names T (drop i ts) ≡ listed is name ++ front_names T (drop (i + 1) ts) =
      ap (front_names T) (drop_more ts i d h)
      ∙ ap (λ (z : Bool). if z then [] else listed (is_a_name (sort_in here.kind)) (token_bytes T here) ++ front_names T (drop (i + 1) ts)) ends
      ∙ ap (λ (z : Bool). listed z (token_bytes T here) ++ front_names T (drop (i + 1) ts)) names
      ∙ ap (λ (z : List ℕ). listed is z ++ front_names T (drop (i + 1) ts)) (word_there name e) in
      ap (λ (z : List ℕ). z ++ front_names T (drop (i + 1) ts)) put
      ∙ append_assoc out (listed is name) (front_names T (drop (i + 1) ts))
      ∙ ap (λ (z : List ℕ). out ++ z) (sym step) ∙ now

  -- whether a name stands before a `;`
  in_step : (w : List ℕ) (x : Sort) (end : Bool) (name : List ℕ) → x ≡ sort_in here.kind → end ≡ has_sign sign.Semicolon x → end ≡ false
      → name ≡ word_at T (slice_get ts i) → in_front T w (drop i ts) ≡ bytes_eq w name || in_front T w (drop (i + 1) ts)
  in_step w x end name g k never e =
      let ends : has_sign sign.Semicolon (sort_in here.kind) ≡ false = ap (has_sign sign.Semicolon) (sym g) ∙ sym k ∙ never in
      ap (in_front T w) (drop_more ts i d h)
      ∙ ap (λ (z : Bool). if z then false else bytes_eq w (token_bytes T here) || in_front T w (drop (i + 1) ts)) ends
      ∙ ap (λ (z : List ℕ). bytes_eq w z || in_front T w (drop (i + 1) ts)) (word_there name e)

  pub in_at : (w : List ℕ) (x : Sort) (end is total : Bool) (name : List ℕ) → x ≡ sort_in here.kind → end ≡ has_sign sign.Semicolon x → end ≡ false
      → name ≡ word_at T (slice_get ts i) → is ≡ bytes_eq w name → is ≡ true → in_front T w (drop i ts) ≡ total → true ≡ total
  in_at w x end is total name g k never e f held now =
      ap (λ (z : Bool). z || in_front T w (drop (i + 1) ts)) (sym held ∙ f) ∙ sym (in_step w x end name g k never e) ∙ now

  pub in_on : (w : List ℕ) (x : Sort) (end is total : Bool) (name : List ℕ) → x ≡ sort_in here.kind → end ≡ has_sign sign.Semicolon x → end ≡ false
      → name ≡ word_at T (slice_get ts i) → is ≡ bytes_eq w name → is ≡ false → in_front T w (drop i ts) ≡ total → in_front T w (drop (i + 1) ts) ≡ total
  in_on w x end is total name g k never e f fails now =
      ap (λ (z : Bool). z || in_front T w (drop (i + 1) ts)) (sym fails ∙ f) ∙ sym (in_step w x end name g k never e) ∙ now
