-- The text of a file, and the reason that is told.
use Rattle.std.proofs.Common.{◌≡◌, ℕ, List, Option, Some, Result, Ok, Err, IfOk, IfErr, refl, sym, ap, subst, ◌∙◌}
use Rattle.tim_base.specs.Told.{IsTold}
use Rattle.mit_syntax.specs.declared.token.Token.{Token}
use Rattle.mit_syntax.specs.Cut.{AreTokens}
use Rattle.mit_syntax.specs.Program.{Syntax}
use Rattle.timing_types.specs.declared.rule.TypeFault.{TypeFault}
use Rattle.timing_types.specs.declared.rule.TypeFault.TheVariants.{Refused as BrokenAt, Memory}
use Rattle.timing_types.specs.Labelling.{Labelling}
use Rattle.timing_types.specs.Labelled.{LabelledProgram, HasType, first_broken_of}
use Rattle.label_infer.specs.Least.{IsLeast, TypesMost}
use Rattle.flow_path.specs.declared.step.Step.{Step}
use Rattle.flow_path.specs.Chains.{IsReason, AreNoCheaper}
use Rattle.flow_path.specs.Told.{IsEarliest}
use Rattle.tool_texts.specs.Texts.{refused_line}
use Rattle.tool_stages.specs.Stages.{Reads}
use Rattle.lab_why.specs.Reasons.{HasReason, refusal_text}

-- what holds of a value holds of the value that it is
pub of_ok : {A B : Type 0} (r : Result A B) (a : A) (P : A → Type 0) → r ≡ Ok a → IfOk r P → P a
of_ok r a P e h = subst (λ z. IfOk z P) e h

pub of_err : {A B : Type 0} (r : Result A B) (b : B) (P : B → Type 0) → r ≡ Err b → IfErr r P → P b
of_err r b P e h = subst (λ z. IfErr z P) e h

-- the text that spells a program is the one that was read
pub reads_text : (c : Option (Option (List ℕ))) (bytes text : List ℕ) (p : Syntax) → text ≡ bytes → IsTold c bytes
    → ((d : Option (Option (List ℕ))) → IsTold d text → Reads d p) → (x : Reads c p) × (x.bytes ≡ bytes)
reads_text c bytes text p e told h =
    let r : Reads (Some (Some text)) p = h (Some (Some text)) refl in
    let same : r.bytes ≡ bytes = r.are ∙ e in
    (record { bytes = r.bytes; are = subst (IsTold c) (sym same) told; short = r.short; tokens = r.tokens; cut = r.cut; spelled = r.spelled }, same)

has_reason : (c : Option (Option (List ℕ))) (p : Syntax) (l : Labelling) (f : TypeFault) (chain : List Step) (x : Reads c p) → IsLeast p l → TypesMost p l
    → (HasType (record { program = p; labels = l }) → ⊥)
    → first_broken_of (record { program = p; labels = l }) ≡ Some f → IsReason (record { program = p; labels = l }) f chain
    → AreNoCheaper (record { program = p; labels = l }) f chain → IsEarliest (record { program = p; labels = l }) f chain
    → HasReason c p (refusal_text x.bytes x.tokens p f chain)
has_reason c p l (BrokenAt rule at have allowed) chain x least most none first reason cheapest earliest =
    record {
      source = x;
      line = refused_line p.order rule at have allowed;
      refused = record {
        labels = l;
        least = least;
        none = λ others k h. none (most others k h);
        rule = rule;
        at = at;
        have = have;
        allowed = allowed;
        first = first;
        line = refl;
      };
      chain = chain;
      reason = reason;
      cheapest = cheapest;
      earliest = earliest;
      text = refl;
    }
has_reason c p l Memory chain x least most none first reason cheapest earliest = absurd reason.ends

-- the refusal of the program with its least labels is told with the text and the tokens that were read
pub tells_reason : (c : Option (Option (List ℕ))) (p : Syntax) (q r : LabelledProgram) (f : TypeFault) (chain : List Step) (x : Reads c p) (text : List ℕ)
    (tokens : List Token) (t : List ℕ)
    → x.bytes ≡ text → x.tokens ≡ tokens → q.program ≡ p → r ≡ q → IsLeast p q.labels → TypesMost p q.labels → (HasType q → ⊥) → first_broken_of q ≡ Some f
    → IsReason q f chain → AreNoCheaper q f chain → IsEarliest q f chain
    → t ≡ refusal_text text tokens r.program f chain → HasReason c p t
tells_reason c p q r f chain x text tokens t bytes list program kept least most none first reason cheapest earliest is =
    let whole : ◌≡◌ {A = LabelledProgram} q (record { program = p; labels = q.labels }) =
    ap (λ (z : Syntax). record { program = z; labels = q.labels }) program in
    let told = has_reason c p q.labels f chain x least most (subst (λ (z : LabelledProgram). HasType z → ⊥) whole none)
    (subst (λ (z : LabelledProgram). first_broken_of z ≡ Some f) whole first)
    (subst (λ (z : LabelledProgram). IsReason z f chain) whole reason) (subst (λ (z : LabelledProgram). AreNoCheaper z f chain) whole cheapest)
    (subst (λ (z : LabelledProgram). IsEarliest z f chain) whole earliest) in
    let same : r.program ≡ p = ap (λ (z : LabelledProgram). z.program) kept ∙ program in
    let line : t ≡ refusal_text x.bytes x.tokens p f chain =
    is ∙ ap (λ (z : List ℕ). refusal_text z tokens r.program f chain) (sym bytes) ∙ ap (λ (z : List Token). refusal_text x.bytes z r.program f chain) (sym list)
    ∙ ap (λ (z : Syntax). refusal_text x.bytes x.tokens z f chain) same in
    subst (HasReason c p) (sym line) told

-- the tokens of the text that was read are those of the text
pub same_tokens : (a b : List ℕ) (ts us : List Token) → a ≡ b → AreTokens a ts → ((others : List Token) → AreTokens b others → others ≡ us) → ts ≡ us
same_tokens a b ts us e cut only = only ts (subst (λ (z : List ℕ). AreTokens z ts) e cut)
