-- The lines of a no, piece by piece.
use Rattle.std.proofs.Common.{◌≡◌, ◌<◌, ℕ, Bool, true, false, cond, List, [], ◌++◌, Option, Some, None, codes, refl, sym, ap, subst, ◌∙◌}
use Rattle.std.specs.Prelude.{MatchOption}
use Rattle.mit_syntax.specs.declared.token.Token.{Token}
use Rattle.mit_syntax.specs.Program.{Syntax}
use Rattle.timing_types.specs.Labelled.{LabelledProgram, labels_of}
use Rattle.steady_code.specs.declared.fault.Fault.{Fault}
use Rattle.flow_path.specs.declared.step.Spot.TheVariants.{Variable}
use Rattle.flow_path.specs.Steps.{written}
use Rattle.flow_path.proofs.Writings.{omitted_within}
use Rattle.flow_print.specs.Lines.{label_text, variable_text}
use Rattle.lab_why.specs.Names.{IsThere}
use Rattle.lab_why.specs.Origins.{TellsOrigins}
use Rattle.lab_steady.specs.Judged.{told, is_one_command}
use Rattle.lab_steady.specs.Text.{flow_text, felt_lines, declared_line, blame_lines}
use Rattle.lab_steady.specs.Why.{TellsVariable}
use Rattle.lab_steady.proofs.Pieces.{after_two, after_four}

pub felt_put : (q : LabelledProgram) (h er : ℕ) (p r : Syntax) (x₀ x₁ x₂ x₃ x₄ : List ℕ) → p ≡ q.program → r ≡ q.program
    → x₁ ≡ x₀ ++ flow_text p er h → x₂ ≡ x₁ ++ codes "what environments keep for " → x₃ ≡ x₂ ++ label_text r.order er
    → x₄ ≡ x₃ ++ codes " need not agree\n" → x₄ ≡ x₀ ++ felt_lines q h er
felt_put q h er p r x₀ x₁ x₂ x₃ x₄ e f a b c d =
    after_four x₀ x₁ x₂ x₃ x₄ (flow_text p er h) (codes "what environments keep for ") (label_text r.order er) (codes " need not agree\n") a b c d
    ∙ ap (λ (z : Syntax). x₀ ++ (flow_text z er h ++ (codes "what environments keep for " ++ (label_text r.order er ++ codes " need not agree\n")))) e
    ∙ ap (λ (z : Syntax). x₀ ++ (flow_text q.program er h ++ (codes "what environments keep for " ++ (label_text z.order er ++ codes " need not agree\n")))) f

-- the line of a declared variable, by its program and its label
abbrev declared_by : Syntax → ℕ → ℕ → List ℕ
declared_by p l x = variable_text p x ++ (codes " is declared " ++ (label_text p.order l ++ codes "\n"))

pub declared_is : (q : LabelledProgram) (x : ℕ) (p : Syntax) (l : ℕ) (x₀ x₁ x₂ x₃ x₄ : List ℕ) → p ≡ q.program → l ≡ labels_of q x → x₀ ≡ []
    → x₁ ≡ x₀ ++ variable_text p x → x₂ ≡ x₁ ++ codes " is declared " → x₃ ≡ x₂ ++ label_text p.order l → x₄ ≡ x₃ ++ codes "\n"
    → x₄ ≡ declared_line q x
declared_is q x p l x₀ x₁ x₂ x₃ x₄ e f none a b c d =
    after_four x₀ x₁ x₂ x₃ x₄ (variable_text p x) (codes " is declared ") (label_text p.order l) (codes "\n") a b c d
    ∙ ap (λ (z : List ℕ). z ++ declared_by p l x) none ∙ ap (λ (z : Syntax). declared_by z l x) e ∙ ap (λ (z : ℕ). declared_by q.program z x) f

pub blame_put : (q : LabelledProgram) (o : ℕ) (lines : List ℕ) (v : Option ℕ) (x : ℕ) (p : Syntax) (l : ℕ) (x₀ x₁ x₂ : List ℕ) → p ≡ q.program
    → l ≡ labels_of q x → v ≡ Some x → x₁ ≡ x₀ ++ flow_text p l o → x₂ ≡ x₁ ++ lines → x₂ ≡ x₀ ++ blame_lines q o lines v
blame_put q o lines v x p l x₀ x₁ x₂ e f g a b =
    after_two x₀ x₁ x₂ (flow_text p l o) lines a b
    ∙ ap (λ (z : Syntax). x₀ ++ (flow_text z l o ++ lines)) e
    ∙ ap (λ (z : ℕ). x₀ ++ (flow_text q.program z o ++ lines)) f
    ∙ ap (λ (z : Option ℕ). x₀ ++ blame_lines q o lines z) (sym g)

-- what is told of a variable, by the label that the program writes, if it writes one
abbrev pub TellsBy : List ℕ → List Token → LabelledProgram → ℕ → List ℕ → Option ℕ → Type 0
TellsBy text tokens q x t z = MatchOption z (TellsOrigins text tokens q (variable_text q.program x) (Variable x) t) (λ a. t ≡ declared_line q x)

same_written : (q : LabelledProgram) (x : ℕ) (p : Syntax) (o : Option ℕ) → p ≡ q.program → written p (Variable x) ≡ o → written q.program (Variable x) ≡ o
same_written q x p o e f = ap (λ (z : Syntax). written z (Variable x)) (sym e) ∙ f

pub written_told : (text : List ℕ) (tokens : List Token) (q : LabelledProgram) (x : ℕ) (p : Syntax) (a : ℕ) (t : List ℕ) → p ≡ q.program
    → written p (Variable x) ≡ Some a → t ≡ declared_line q x → TellsVariable text tokens q x t
written_told text tokens q x p a t e f h = subst (λ (z : Option ℕ). TellsBy text tokens q x t z) (sym (same_written q x p (Some a) e f)) h

pub omitted_there : (q : LabelledProgram) (x : ℕ) (p : Syntax) → p ≡ q.program → written p (Variable x) ≡ None → IsThere q.program (Variable x)
omitted_there q x p e f = omitted_within q.program x (same_written q x p None e f)

pub omitted_told : (text : List ℕ) (tokens : List Token) (q : LabelledProgram) (x : ℕ) (p : Syntax) (n name t : List ℕ) → p ≡ q.program
    → written p (Variable x) ≡ None → name ≡ variable_text p x → n ≡ name → TellsOrigins text tokens q n (Variable x) t
    → TellsVariable text tokens q x t
omitted_told text tokens q x p n name t e f g k h =
    subst (λ (z : Option ℕ). TellsBy text tokens q x t z) (sym (same_written q x p None e f))
    (subst (λ (z : List ℕ). TellsOrigins text tokens q z (Variable x) t) (k ∙ g ∙ ap (λ (z : Syntax). variable_text z x) e) h)

-- the fault that is told stands in the image
pub told_within : (q : LabelledProgram) (f : Fault) (g : Option Fault) (n : ℕ) → f.place < n → ((x : Fault) → g ≡ Some x → x.place < n)
    → (told q f g).place < n
told_within q f None n h k = h
told_within q f (Some x) n h k = go (is_one_command q f.place x.place)
  where
    go : (b : Bool) → (cond b x f).place < n
    go true = k x refl
    go false = h
