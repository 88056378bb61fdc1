-- Sets of sorts that grow.
use Rattle.std.proofs.Common.{◌≡◌, refl, ap, ◌∙◌, sym, subst, ℕ, zero, suc, List, [], ◌∷◌, ◌++◌, ◌+◌, ◌<◌}
use Rattle.std.proofs.Common.{length, take, drop, get_or, true, false, ◌⊎◌, inl, inr}
use Rattle.std.specs.Prelude.{is_some}
use Rattle.std.proofs.lemmas.List.{take_more}
use Rattle.mit_syntax.specs.declared.token.Keyword.TheVariants.{Labels, Order, Var, Skip, If, Then, Else, While, Do, Mitigate, Sleep}
use Rattle.mit_syntax.specs.declared.token.Sign.TheVariants.{Assign, Colon, Semicolon, Comma, LeftRound, RightRound, LeftBrace, RightBrace, LeftSquare}
use Rattle.mit_syntax.specs.declared.token.Sign.TheVariants.{RightSquare, At, Plus, Minus, Star, Slash, Percent, Equal, NotEqual, LessEqual, Less}
use Rattle.mit_syntax.specs.declared.token.Sign.TheVariants.{GreaterEqual, Greater}
use Rattle.mit_parser.specs.Words.{Symbol}
use Rattle.mit_parser.specs.Machine.{Part, step}
use Rattle.next_tokens.specs.declared.sort.Sort.{Sort}
use Rattle.next_tokens.specs.declared.sort.Sort.TheVariants.{Key, Sign, Name, Number, End}
use Rattle.next_tokens.specs.Sorts.{sort_of}
use Rattle.next_tokens.specs.Following.{IsOneOf, AreSomeOf, all_sorts}
use Rattle.next_tokens.specs.Parts.{AreTaken}

one_in_front : (xs zs : List Sort) (y : Sort) → IsOneOf xs y → IsOneOf (xs ++ zs) y
one_in_front [] zs y h = absurd h
one_in_front (x ∷ xs) zs y (inl e) = inl e
one_in_front (x ∷ xs) zs y (inr h) = inr (one_in_front xs zs y h)

one_at_last : (xs : List Sort) (x y : Sort) → y ≡ x → IsOneOf (xs ++ x ∷ []) y
one_at_last [] x y e = inl e
one_at_last (z ∷ zs) x y e = inr (one_at_last zs x y e)

one_or_last : (xs : List Sort) (x y : Sort) → IsOneOf (xs ++ x ∷ []) y → IsOneOf xs y ⊎ (y ≡ x)
one_or_last [] x y (inl e) = inr e
one_or_last [] x y (inr h) = absurd h
one_or_last (z ∷ zs) x y (inl e) = inl (inl e)
one_or_last (z ∷ zs) x y (inr h) = deeper (one_or_last zs x y h)
  where
    deeper : IsOneOf zs y ⊎ (y ≡ x) → IsOneOf (z ∷ zs) y ⊎ (y ≡ x)
    deeper (inl k) = inl (inr k)
    deeper (inr e) = inr e

some_more : (xs ys : List Sort) (y : Sort) → AreSomeOf xs ys → AreSomeOf xs (ys ++ y ∷ [])
some_more [] ys y h = tt
some_more (x ∷ xs) [] y h = absurd h
some_more (x ∷ xs) (z ∷ zs) y (inl h) = inl (h.0, some_more xs zs y h.1)
some_more (x ∷ xs) (z ∷ zs) y (inr h) = inr (some_more (x ∷ xs) zs y h)

some_both : (xs ys : List Sort) (y : Sort) → AreSomeOf xs ys → AreSomeOf (xs ++ y ∷ []) (ys ++ y ∷ [])
some_both [] [] y h = inl (refl, tt)
some_both [] (z ∷ zs) y h = inr (some_both [] zs y tt)
some_both (x ∷ xs) [] y h = absurd h
some_both (x ∷ xs) (z ∷ zs) y (inl h) = inl (h.0, some_both xs zs y h.1)
some_both (x ∷ xs) (z ∷ zs) y (inr h) = inr (some_both (x ∷ xs) zs y h)

pub taken_none : (left : List Part) → AreTaken left [] []
taken_none left = record { only = λ w h. absurd h; all = λ w h e. absurd h; order = tt }

module _ (left : List Part) (those sorts : List Sort) (x : Sort) (h : AreTaken left those sorts) where
  -- a sort of which a word can be taken
  pub taken_more : ((w : Symbol) → sort_of w ≡ x → true ≡ is_some (step left w)) → AreTaken left (those ++ x ∷ []) (sorts ++ x ∷ [])
  taken_more can = record { only = only; all = all; order = some_both sorts those x h.order }
    where
      only_at : (w : Symbol) → IsOneOf sorts (sort_of w) ⊎ (sort_of w ≡ x) → is_some (step left w) ≡ true
      only_at w (inl k) = h.only w k
      only_at w (inr e) = sym (can w e)

      only : (w : Symbol) → IsOneOf (sorts ++ x ∷ []) (sort_of w) → is_some (step left w) ≡ true
      only w k = only_at w (one_or_last sorts x (sort_of w) k)

      all_at : (w : Symbol) → is_some (step left w) ≡ true → IsOneOf those (sort_of w) ⊎ (sort_of w ≡ x) → IsOneOf (sorts ++ x ∷ []) (sort_of w)
      all_at w t (inl k) = one_in_front sorts (x ∷ []) (sort_of w) (h.all w k t)
      all_at w t (inr e) = one_at_last sorts x (sort_of w) e

      all : (w : Symbol) → IsOneOf (those ++ x ∷ []) (sort_of w) → is_some (step left w) ≡ true → IsOneOf (sorts ++ x ∷ []) (sort_of w)
      all w k t = all_at w t (one_or_last those x (sort_of w) k)

  -- a sort of which none can
  pub taken_less : ((w : Symbol) → sort_of w ≡ x → false ≡ is_some (step left w)) → AreTaken left (those ++ x ∷ []) sorts
  taken_less cannot = record { only = h.only; all = all; order = some_more sorts those x h.order }
    where
      all_at : (w : Symbol) → is_some (step left w) ≡ true → IsOneOf those (sort_of w) ⊎ (sort_of w ≡ x) → IsOneOf sorts (sort_of w)
      all_at w t (inl k) = h.all w k t
      all_at w t (inr e) = absurd (impossible (cannot w e ∙ t))
        where
          impossible : false ≡ true → ⊥
          impossible q = cc

      all : (w : Symbol) → IsOneOf (those ++ x ∷ []) (sort_of w) → is_some (step left w) ≡ true → IsOneOf sorts (sort_of w)
      all w k t = all_at w t (one_or_last those x (sort_of w) k)

-- the next one of all sorts
module _ (left : List Part) (list sorts next : List Sort) (k : ℕ) (d : Sort) (e : list ≡ all_sorts) (h : k < length list)
    (t : AreTaken left (take k all_sorts) sorts) where
  one_more : take (k + 1) all_sorts ≡ take k all_sorts ++ get_or list k d ∷ []
  one_more = ap (take (k + 1)) (sym e) ∙ take_more list k d h ∙ ap (λ l. take k l ++ get_or list k d ∷ []) e

  pub with_it : ((w : Symbol) → sort_of w ≡ get_or list k d → true ≡ is_some (step left w)) → next ≡ sorts ++ get_or list k d ∷ []
      → AreTaken left (take (k + 1) all_sorts) next
  with_it can are =
      subst (λ l. AreTaken left l next) (sym one_more)
      (subst (λ l. AreTaken left (take k all_sorts ++ get_or list k d ∷ []) l) (sym are) (taken_more left (take k all_sorts) sorts (get_or list k d) t can))

  pub without_it : ((w : Symbol) → sort_of w ≡ get_or list k d → false ≡ is_some (step left w)) → next ≡ sorts
      → AreTaken left (take (k + 1) all_sorts) next
  without_it cannot are =
      subst (λ l. AreTaken left l next) (sym one_more)
      (subst (λ l. AreTaken left (take k all_sorts ++ get_or list k d ∷ []) l) (sym are) (taken_less left (take k all_sorts) sorts (get_or list k d) t cannot))

-- every sort is one of all
behind : (n : ℕ) (xs : List Sort) (x : Sort) → IsOneOf (drop n xs) x → IsOneOf xs x
behind zero xs x h = h
behind (suc n) [] x h = h
behind (suc n) (y ∷ ys) x h = inr (behind n ys x h)

pub every_sort : (x : Sort) → IsOneOf all_sorts x
every_sort Name = behind 0 all_sorts Name (inl refl)
every_sort Number = behind 1 all_sorts Number (inl refl)
every_sort (Key Labels) = behind 2 all_sorts (Key Labels) (inl refl)
every_sort (Key Order) = behind 3 all_sorts (Key Order) (inl refl)
every_sort (Key Var) = behind 4 all_sorts (Key Var) (inl refl)
every_sort (Key Skip) = behind 5 all_sorts (Key Skip) (inl refl)
every_sort (Key If) = behind 6 all_sorts (Key If) (inl refl)
every_sort (Key Then) = behind 7 all_sorts (Key Then) (inl refl)
every_sort (Key Else) = behind 8 all_sorts (Key Else) (inl refl)
every_sort (Key While) = behind 9 all_sorts (Key While) (inl refl)
every_sort (Key Do) = behind 10 all_sorts (Key Do) (inl refl)
every_sort (Key Mitigate) = behind 11 all_sorts (Key Mitigate) (inl refl)
every_sort (Key Sleep) = behind 12 all_sorts (Key Sleep) (inl refl)
every_sort (Sign Assign) = behind 13 all_sorts (Sign Assign) (inl refl)
every_sort (Sign Colon) = behind 14 all_sorts (Sign Colon) (inl refl)
every_sort (Sign Semicolon) = behind 15 all_sorts (Sign Semicolon) (inl refl)
every_sort (Sign Comma) = behind 16 all_sorts (Sign Comma) (inl refl)
every_sort (Sign LeftRound) = behind 17 all_sorts (Sign LeftRound) (inl refl)
every_sort (Sign RightRound) = behind 18 all_sorts (Sign RightRound) (inl refl)
every_sort (Sign LeftBrace) = behind 19 all_sorts (Sign LeftBrace) (inl refl)
every_sort (Sign RightBrace) = behind 20 all_sorts (Sign RightBrace) (inl refl)
every_sort (Sign LeftSquare) = behind 21 all_sorts (Sign LeftSquare) (inl refl)
every_sort (Sign RightSquare) = behind 22 all_sorts (Sign RightSquare) (inl refl)
every_sort (Sign At) = behind 23 all_sorts (Sign At) (inl refl)
every_sort (Sign Plus) = behind 24 all_sorts (Sign Plus) (inl refl)
every_sort (Sign Minus) = behind 25 all_sorts (Sign Minus) (inl refl)
every_sort (Sign Star) = behind 26 all_sorts (Sign Star) (inl refl)
every_sort (Sign Slash) = behind 27 all_sorts (Sign Slash) (inl refl)
every_sort (Sign Percent) = behind 28 all_sorts (Sign Percent) (inl refl)
every_sort (Sign Equal) = behind 29 all_sorts (Sign Equal) (inl refl)
every_sort (Sign NotEqual) = behind 30 all_sorts (Sign NotEqual) (inl refl)
every_sort (Sign Less) = behind 31 all_sorts (Sign Less) (inl refl)
every_sort (Sign LessEqual) = behind 32 all_sorts (Sign LessEqual) (inl refl)
every_sort (Sign Greater) = behind 33 all_sorts (Sign Greater) (inl refl)
every_sort (Sign GreaterEqual) = behind 34 all_sorts (Sign GreaterEqual) (inl refl)
every_sort End = behind 35 all_sorts End (inl refl)
