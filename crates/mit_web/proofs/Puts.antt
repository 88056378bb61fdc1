-- Files put one after the other.
use Rattle.std.proofs.Common.{◌≡◌, ◌∙◌, ◌≢◌, refl, sym, ap, ℕ, List, [], ◌∷◌, Bool, true, false, Option, Some, arith}
use Rattle.std.specs.Prelude.{cond}
use Rattle.std.specs.Str.{bytes_eq}
use Rattle.std.proofs.lemmas.Bool.{cond-true, cond-false}
use Rattle.std.proofs.lemmas.Slice.Eq.{bytes_eq-Decides}
use Rattle.tim_base.specs.declared.shelf.memory.MemShelf.{MemShelf}
use Rattle.tim_base.specs.Shelves.{bytes_at}
use Rattle.mit_web.specs.Calls.{PutsAll, put_over}

pub puts_none : (s : MemShelf) (contents : List (List ℕ)) → PutsAll s s [] contents
puts_none s contents = record { puts = λ holds e name. e name }

pub puts_no_more : (s : MemShelf) (names : List (List ℕ)) → PutsAll s s names []
puts_no_more s [] = record { puts = λ holds e name. e name }
puts_no_more s (n ∷ ns) = record { puts = λ holds e name. e name }

not_both : (b : Bool) → b ≡ false → b ≡ true → ⊥
not_both b f t = grind arith

pub puts_one : (old new : MemShelf) (n c : List ℕ) → bytes_at new n ≡ Some c → ((name : List ℕ) → name ≢ n → bytes_at new name ≡ bytes_at old name)
    → PutsAll old new (n ∷ []) (c ∷ [])
puts_one old new n c own others = record { puts = λ holds e name. by holds e name (bytes_eq name n) refl }
  where
    by : (holds : List ℕ → Option (List ℕ)) → ((name : List ℕ) → bytes_at old name ≡ holds name) → (name : List ℕ) (b : Bool) → bytes_eq name n ≡ b
        → bytes_at new name ≡ cond (bytes_eq name n) (Some c) (holds name)
    by holds e name true t = ap (bytes_at new) ((bytes_eq-Decides name n).0 t) ∙ own ∙ sym (cond-true (bytes_eq name n) (Some c) (holds name) t)
    by holds e name false f = others name (λ q. not_both (bytes_eq name n) f ((bytes_eq-Decides name n).1 q)) ∙ e name
        ∙ sym (cond-false (bytes_eq name n) (Some c) (holds name) f)

pub puts_then : (old mid new : MemShelf) (n c : List ℕ) (ns cs : List (List ℕ)) → PutsAll old mid (n ∷ []) (c ∷ []) → PutsAll mid new ns cs
    → PutsAll old new (n ∷ ns) (c ∷ cs)
puts_then old mid new n c ns cs first rest = record { puts = λ holds e name. rest.puts (λ m. cond (bytes_eq m n) (Some c) (holds m)) (first.puts holds e) name }
