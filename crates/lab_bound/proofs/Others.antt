-- The numbers of a text bound what other starts show.
use Rattle.std.proofs.Common.{◌∷◌, ◌++◌, ◌⊎◌, ℕ, List, [], inl, inr}
use Rattle.std.specs.Prelude.{Bool}
use Rattle.label_lattice.specs.Order.{Order}
use Rattle.env_contract.specs.declared.place.Touch.{Touch}
use Rattle.label_code.specs.Run.{Start}
use Rattle.mit_syntax.specs.Todo.{Todo}
use Rattle.mit_syntax.specs.Program.{plan_of}
use Rattle.timing_types.specs.Labelled.{order_of, labels_of}
use Rattle.code_lower.specs.Lowered.{lowered}
use Rattle.leak_bound.specs.Records.{Each}
use Rattle.start_file.specs.Starts.{StartValue}
use Rattle.sharp_bound.specs.End.{seen_to_end}
use Rattle.sharp_history.specs.Over.{LoweredSharpOver, LoweredSharpEndOver, LoweredSharedOver, LoweredOwnOver}
use Rattle.history_bound.specs.Over.{AnyHistory, history_made}
use Rattle.leak_audit.specs.Agreement.{starts_of}
use Rattle.leak_audit.specs.Sequences.{same_sequence}
use Rattle.leak_audit.specs.Surveyed.{sequence_from}
use Rattle.leak_audit.proofs.Classing.{tests_sequences}
use Rattle.level_counts.specs.Begun.{PredictedIn, memories_of}
use Rattle.level_counts.specs.Listed.{PredictedAtIn}
use Rattle.tool_stages.specs.declared.envs.Environment.{Environment}
use Rattle.tool_stages.specs.Envs.{IsPartitioned, environment}
use Rattle.tool_stages.proofs.AgreeLemmas.{all_halt}
use Rattle.lab_bound.specs.Others.{AllBoundOthers, AllBoundOthersOwn}
use Rattle.lab_bound.proofs.Enough.{Study, OwnStudy, reported, listed as study_listed, few_told, shared_told, own_told, found, typed_with, below}

-- what holds of each of two lists of starts holds of both together
each_both : {E : Type 0} (made : Order → List Touch → E) (order : Order) (P : Start E → Type 0) (ss others : List StartValue)
    → Each P (starts_of made order ss) → Each P (starts_of made order others) → Each P (starts_of made order (ss ++ others))
each_both made order P [] others h k = k
each_both made order P (s ∷ ss) others h k = (h.0, each_both made order P ss others h.1 k)

-- a first prediction from two lists of memories is one from either
predicted_either : {M L : Type 0} (rel : ℕ → Bool) (p : Todo M L) (ss others : List StartValue) (x : ℕ) → PredictedIn rel p (memories_of (ss ++ others)) x
    → PredictedIn rel p (memories_of ss) x ⊎ PredictedIn rel p (memories_of others) x
predicted_either rel p [] others x h = inr h
predicted_either rel p (s ∷ ss) others x (inl h) = inl (inl h)
predicted_either rel p (s ∷ ss) others x (inr h) = go (predicted_either rel p ss others x h)
  where
    go : PredictedIn rel p (memories_of ss) x ⊎ PredictedIn rel p (memories_of others) x
        → PredictedIn rel p (memories_of (s ∷ ss)) x ⊎ PredictedIn rel p (memories_of others) x
    go (inl k) = inl (inr k)
    go (inr k) = inr k

placed_either : {M L : Type 0} (rel : ℕ → Bool) (p : Todo M L) (ss others : List StartValue) (i x : ℕ) → PredictedAtIn rel p (memories_of (ss ++ others)) i x
    → PredictedAtIn rel p (memories_of ss) i x ⊎ PredictedAtIn rel p (memories_of others) i x
placed_either rel p [] others i x h = inr h
placed_either rel p (s ∷ ss) others i x (inl h) = inl (inl h)
placed_either rel p (s ∷ ss) others i x (inr h) = go (placed_either rel p ss others i x h)
  where
    go : PredictedAtIn rel p (memories_of ss) i x ⊎ PredictedAtIn rel p (memories_of others) i x
        → PredictedAtIn rel p (memories_of (s ∷ ss)) i x ⊎ PredictedAtIn rel p (memories_of others) i x
    go (inl k) = inl (inr k)
    go (inr k) = inr k

either : {A B C : Type 0} → (A → C) → (B → C) → A ⊎ B → C
either f g (inl a) = f a
either f g (inr b) = g b

-- in each environment of a machine with partitions
module _ (sharp : (e : Environment) → IsPartitioned e → LoweredSharpOver (environment e) AnyHistory)
    (ending : (e : Environment) → IsPartitioned e → LoweredSharpEndOver (environment e) AnyHistory)
    (sharing : (e : Environment) → IsPartitioned e → LoweredSharedOver (environment e) AnyHistory) where
  pub all_bound_others : AllBoundOthers
  all_bound_others e t own some words p q o s ss r levels spelled types low is told others are =
      let v = environment e q.program.order in
      let is_typed = typed_with words p q spelled types in
      let low' = below p q o types low in
      let listed = s ∷ ss in
      let known = reported v AnyHistory history_made q o t listed r levels is told in
      let study : Study v AnyHistory history_made q o t (listed ++ others) levels = record {
        agree = are.agree;
        halted = each_both history_made q.program.order _ listed others known.halted (all_halt v history_made q t others are.halt);
        size = known.size;
        begun = known.begun;
        least = λ l x k. either (known.least l x) (are.predict l x) (predicted_either _ (plan_of q.program) listed others x k);
      } in
      record {
        few = (found v AnyHistory history_made q o t (sharp e own q is_typed) low' some (listed ++ others) levels study).few;
        ended = λ end same tests. few_told v AnyHistory history_made q o t (seen_to_end v (order_of q) (labels_of q) (lowered q).instrs o t)
            ((ending e own q is_typed).halted o low' end t some) (listed ++ others) levels study same tests;
        shared = λ apart. shared_told v AnyHistory history_made q o t (sequence_from v q o t) ((sharing e own q is_typed).few o low' t some) apart
            (listed ++ others) levels study same_sequence tests_sequences;
        shared_ended = λ apart end same tests. shared_told v AnyHistory history_made q o t (seen_to_end v (order_of q) (labels_of q) (lowered q).instrs o t)
            ((ending e own q is_typed).shared o low' end t some) apart (listed ++ others) levels study same tests;
      }

module _ (owning : (e : Environment) → IsPartitioned e → LoweredOwnOver (environment e) AnyHistory) where
  pub all_bound_others_own : AllBoundOthersOwn
  all_bound_others_own e t own some words p q o s ss r firsts spelled types low is listed others are =
      let v = environment e q.program.order in
      let is_typed = typed_with words p q spelled types in
      let low' = below p q o types low in
      let all = s ∷ ss in
      let known = study_listed v AnyHistory history_made q o t all r firsts is listed in
      let study : OwnStudy v AnyHistory history_made q o t (all ++ others) firsts = record {
        agree = are.agree;
        halted = each_both history_made q.program.order _ all others known.halted (all_halt v history_made q t others are.halt);
        size = known.size;
        begun = known.begun;
        least = λ l i x lt k. either (known.least l i x lt) (are.predict l i x lt) (placed_either _ (plan_of q.program) all others i x k);
      } in
      record {
        few = λ apart. own_told v AnyHistory history_made q o t (sequence_from v q o t) ((owning e own q is_typed).few o low' t some) apart
            (all ++ others) firsts study same_sequence tests_sequences;
        ended = λ apart end same tests. own_told v AnyHistory history_made q o t (seen_to_end v (order_of q) (labels_of q) (lowered q).instrs o t)
            ((owning e own q is_typed).ended o low' end t some) apart (all ++ others) firsts study same tests;
      }
