-- From a text to what its program comes to.
use Rattle.std.proofs.Common.{◌≡◌, ◌<◌, ℕ, List, ◌++◌, length, Option, Some, inl, inr, sym, ap, subst, ◌∙◌, codes, Result, Ok, Err, IfOk, IfErr}
use Rattle.text_base.specs.declared.pos.Memory.{Memory}
use Rattle.tim_base.specs.Told.{IsTold}
use Rattle.label_lattice.specs.declared.label.Label.{Label}
use Rattle.mit_syntax.specs.Program.{Syntax}
use Rattle.timing_types.specs.Labelled.{LabelledProgram, TypedProgram}
use Rattle.code_lower.specs.Lowered.{lowered}
use Rattle.tool_texts.specs.declared.status.Status.{Status}
use Rattle.tool_texts.specs.declared.status.Status.TheVariants as status
use Rattle.tool_texts.specs.declared.stop.Stop.{Stop}
use Rattle.tool_texts.specs.Ends.{IsStop}
use Rattle.tool_texts.specs.Texts.{number_line}
use Rattle.tool_stages.specs.Content.{Content}
use Rattle.tool_stages.specs.Stages.{Reads, Observes, Types, HasImage}
use Rattle.tool_stages.specs.declared.compiled.Compiled.{Compiled}
use Rattle.tool_stages.specs.declared.envs.Environment.{Environment}
use Rattle.lab_why.specs.declared.faulty.Spelled.{Spelled}
use Rattle.lab_why.specs.declared.faulty.Spelled.TheVariants.{Spells}
use Rattle.lab_why.specs.Faulty.{IsSpelled}
use Rattle.lab_why.proofs.FaultLemmas.{if_ok}
use Rattle.lab_why.proofs.StartsLemmas.{stop_since}
use Rattle.lab_ready.specs.Answer.{LongStops, IsRest, IsReadyAnswer, most_instructions}
use Rattle.lab_ready.specs.Begun.{BeginStops, IsTyping, IsImageOf, IsBegun}
use Rattle.lab_ready.specs.declared.begun.Begun.{Begun}
use Rattle.lab_ready.specs.declared.begun.Begun.TheVariants as begun
use Rattle.lab_ready.specs.declared.typing.Typing.{Typing}
use Rattle.lab_ready.specs.declared.typing.Typing.TheVariants as typing

-- an image that is too long; a and b are the pieces that are written
pub long_told : (q : LabelledProgram) (count n : ℕ) (line a b t : List ℕ) → (200000 < count) × (count ≡ length (lowered q).instrs)
    → line ≡ number_line (codes "too long: image ") n → n ≡ count → a ≡ line → b ≡ most_instructions → t ≡ a ++ b → LongStops q status.TooLong t
long_told q count m line a b t is first same e g whole =
    let n : ℕ = length (lowered q).instrs in
    let front : a ≡ number_line (codes "too long: image ") n = e ∙ first ∙ ap (number_line (codes "too long: image ")) (same ∙ is.1) in (
      subst (λ (k : ℕ). 200000 < k) is.1 is.0,
      whole ∙ ap (λ (z : List ℕ). z ++ b) front ∙ ap (λ (z : List ℕ). number_line (codes "too long: image ") n ++ z) g,
    )

-- a program that is accepted comes to what its image comes to
begun_of : (c : Option (Option (List ℕ))) (w : List ℕ) (p : Syntax) (q : LabelledProgram) (l : Label) (x : Begun) → Reads c p
    → Observes p.order (Some w) (Some l) → Types p q → IsImageOf q l x → IsBegun c w x
begun_of c w p q l (begun.Goes k o) reads sees types (same, label, image) = (
  p,
  reads,
  subst (λ (z : Label). Observes p.order (Some w) (Some z)) (sym label) sees,
  subst (λ (z : LabelledProgram). Types p z) (sym same) types,
  subst (λ (z : LabelledProgram). HasImage z k.image) (sym same) image,
)
begun_of c w p q l (begun.Ends told) reads sees types h = inr (p, reads, inr (Some l, sees, inr (q, types, inl h)))

pub typed_begun : (T : List ℕ) (p : Syntax) (l : Label) (v : Typing) (q : TypedProgram) (r : Result Begun Memory)
    → ((c : Option (Option (List ℕ))) (reads : Reads c p) → reads.bytes ≡ T → IsTyping c p v) → v ≡ typing.Accepted q → IfOk r (IsImageOf q.labelled l)
    → IfOk r (λ x. (c : Option (Option (List ℕ))) (w : List ℕ) (reads : Reads c p) → reads.bytes ≡ T → Observes p.order (Some w) (Some l) → IsBegun c w x)
typed_begun T p l v q r h e k = if_ok r (IsImageOf q.labelled l) _ (λ x image c w reads same sees.
    begun_of c w p q.labelled l x reads sees (subst (λ (z : Typing). IsTyping c p z) e (h c reads same)) image) k

-- the program of a text
pub spells_begun : (T w : List ℕ) (s : Spelled) (p : Syntax) (r : Result Begun Stop) → ((c : Option (Option (List ℕ))) → IsTold c T → IsSpelled c T s)
    → s ≡ Spells p → IfOk r (λ x. (c : Option (Option (List ℕ))) (reads : Reads c p) → reads.bytes ≡ T → IsBegun c w x)
    → IfOk r (λ x. (c : Option (Option (List ℕ))) → IsTold c T → IsBegun c w x)
spells_begun T w s p r h e k = if_ok r _ _ (λ x answers c are.
    let reads : (reads : Reads c p) × (reads.bytes ≡ T) = subst (λ (z : Spelled). IsSpelled c T z) e (h c are) in
    answers c reads.0 reads.1) k

pub spells_stops : (T w : List ℕ) (s : Spelled) (p : Syntax) (r : Result Begun Stop) → ((c : Option (Option (List ℕ))) → IsTold c T → IsSpelled c T s)
    → s ≡ Spells p → IfErr r (λ e. (c : Option (Option (List ℕ))) → Reads c p → IsStop (BeginStops ⊥ c w) e)
    → IfErr r (λ e. (c : Option (Option (List ℕ))) → IsTold c T → IsStop (BeginStops ⊥ c w) e)
spells_stops T w s p (Ok x) h e k = k
spells_stops T w s p (Err x) h e k = λ c are.
    let reads : (reads : Reads c p) × (reads.bytes ≡ T) = subst (λ (z : Spelled). IsSpelled c T z) e (h c are) in
    k c reads.0

-- ---- what is told of a start file is the answer

pub rest_rise : (R : Type 0) (c : Option (Option (List ℕ))) (e : Environment) (t : ℕ) (p : Syntax) (q : LabelledProgram) (o : Option Label) (s : Status)
    (x : List ℕ) → IsRest ⊥ c e t p q o s x → IsRest R c e t p q o s x
rest_rise R c e t p q o s x (inl h) = inl (stop_since ⊥ R c p s x (λ z. absurd z) h)
rest_rise R c e t p q o s x (inr h) = inr h

rest_since : (R R' : Type 0) (c : Option (Option (List ℕ))) (e : Environment) (t : ℕ) (p : Syntax) (q : LabelledProgram) (o : Option Label) (s : Status)
    (x : List ℕ) → (R → R') → IsRest R c e t p q o s x → IsRest R' c e t p q o s x
rest_since R R' c e t p q o s x f (inl h) = inl (stop_since R R' c p s x f h)
rest_since R R' c e t p q o s x f (inr h) = inr h

pub goes_then : (Rises : List ℕ → Type 0) (R : Type 0) (content : Content) (held : Option (Option (List ℕ))) (file other w : List ℕ) (k : Compiled) (l : Label)
    (e : Environment) (t : ℕ) (s : Status) (x : List ℕ) → IsBegun (content file) w (begun.Goes k l) → held ≡ content other → (R → Rises other)
    → IsRest R held e t k.typed.labelled.program k.typed.labelled (Some l) s x → IsReadyAnswer Rises content file other w e t s x
goes_then Rises R content held file other w k l e t s x (p, reads, sees, types, image) same rise h =
    let q = k.typed.labelled in
    let at : IsRest R (content other) e t p q (Some l) s x =
    subst (λ (z : Syntax). IsRest R (content other) e t z q (Some l) s x) types.program
    (subst (λ (z : Option (Option (List ℕ))). IsRest R z e t q.program q (Some l) s x) same h) in
    inr (p, reads, inr (Some l, sees, inr (q, types, inr (k.image, image, rest_since R (Rises other) (content other) e t p q (Some l) s x rise at))))

pub sees_label : (c : Option (Option (List ℕ))) (w : List ℕ) (k : Compiled) (l : Label) → IsBegun c w (begun.Goes k l)
    → l.number < k.typed.labelled.program.order.size
sees_label c w k l (p, reads, sees, types, image) = subst (λ (z : Syntax). l.number < z.order.size) (sym types.program) sees.0
