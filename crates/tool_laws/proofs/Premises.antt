-- What the theorem asks for is met.
use Rattle.std.proofs.Common.{◌≡◌, ◌≢◌, ◌∙◌, refl, sym, ap, subst, ℕ, zero, suc, ℤ, pos, List, [], ◌∷◌, Option, Some, arith}
use Rattle.tim_base.specs.Told.{IsTold}
use Rattle.mit_syntax.specs.Program.{plan_of}
use Rattle.mit_syntax.specs.Values.{read}
use Rattle.label_lattice.specs.Lattice.{Flows}
use Rattle.env_contract.specs.Env.{Env}
use Rattle.label_code.specs.Machine.{Event, Wrote}
use Rattle.code_lower.specs.Lowered.{lowered}
use Rattle.timing_types.specs.Labelled.{order_of, labels_of, levels_of}
use Rattle.leak_bound.specs.Relevant.{Begins}
use Rattle.leak_bound.specs.Sound.{Agree, seen_from, Halts}
use Rattle.env_contract.specs.declared.place.Touch.{Touch}
use Rattle.history_bound.specs.Over.{AnyHistory}
use Rattle.tool_words.specs.declared.words.EnvName.{EnvName}
use Rattle.tool_words.specs.declared.words.EnvName.TheVariants.{Flat, Part, Part2}
use Rattle.tool_stages.specs.declared.envs.Environment.TheVariants.{Named}
use Rattle.tool_stages.specs.Envs.{environment}
use Rattle.tool_stages.specs.Stages.{Reads, Types}
use Rattle.tool_laws.specs.FirstAudit.{program_text, observer, budget, with_secret, AreApart, IsMet}
use Rattle.tool_laws.proofs.Order.{table, flow_table, join_table, two}
use Rattle.tool_laws.proofs.AuditProgram.{program}
use Rattle.tool_laws.proofs.AuditCut.{tokens, are_tokens}
use Rattle.tool_laws.proofs.AuditSpelled.{spelled}
use Rattle.tool_laws.proofs.AuditTypes.{labelled, least, typed}

pub reads : (c : Option (Option (List ℕ))) → c ≡ Some (Some program_text) → Reads c program
reads c h = record {
  bytes = program_text;
  are = subst (λ (x : Option (Option (List ℕ))). IsTold x program_text) (sym h) refl;
  short = omega arith;
  tokens = tokens;
  cut = are_tokens;
  spelled = spelled;
}

pub types : Types program labelled
types = record { program = refl; least = least; typed = typed }

-- ---- the two starts

-- the label of the secret does not flow to the observer
secret_stays : Flows (order_of labelled) 1 observer → ⊥
unfolding table flow_table join_table
secret_stays f = absurd (cc (f))

pub begins : (h : ℤ) → Begins (order_of labelled) (labels_of labelled) (levels_of labelled) observer (plan_of program) (h ∷ pos 0 ∷ []) 1
unfolding table flow_table join_table
begins h = (3, refl, refl)

same_low : (h h' : ℤ) (x : ℕ) → Flows (order_of labelled) (labels_of labelled x) observer → read (h ∷ pos 0 ∷ []) x ≡ read (h' ∷ pos 0 ∷ []) x
same_low h h' zero f = absurd (secret_stays f)
same_low h h' (suc zero) f = refl
same_low h h' (suc (suc x)) f = refl

-- starts with the same history agree
agree : (v : Env (List Touch)) (h h' : ℤ) → Agree v (order_of labelled) (AnyHistory two) (labels_of labelled) observer (with_secret h) (with_secret h')
agree v h h' = record { one = tt; other = tt; long = refl; low = same_low h h'; parts = λ q l f. refl }

-- what is seen of both is known, and halts
both : (v : Env (List Touch)) → Halts v (lowered labelled).instrs budget (with_secret (pos 0))
    → Halts v (lowered labelled).instrs budget (with_secret (pos 100)) → (c d : ℕ) → c ≢ d →
    seen_from v (order_of labelled) (labels_of labelled) (lowered labelled).instrs observer budget (with_secret (pos 0)) ≡ Wrote 1 (pos 1) c ∷ [] →
    seen_from v (order_of labelled) (labels_of labelled) (lowered labelled).instrs observer budget (with_secret (pos 100)) ≡ Wrote 1 (pos 1) d ∷ [] →
    AreApart v labelled (with_secret (pos 0)) (with_secret (pos 100))
both v h k c d n see see' =
    let a = agree v in
    record {
      agree = ((a (pos 0) (pos 0), (a (pos 0) (pos 100), tt)), ((a (pos 100) (pos 0), (a (pos 100) (pos 100), tt)), tt));
      halt = (h, (k, tt));
      begin = (begins (pos 0), (begins (pos 100), tt));
      apart = λ f. n (cycle_of (sym see ∙ f ∙ see'));
    }
  where
    first_cycle : List Event → ℕ
    first_cycle [] = 0
    first_cycle (Wrote x m t ∷ es) = t
    first_cycle (ev ∷ es) = 0

    cycle_of : {c d : ℕ} → Wrote 1 (pos 1) c ∷ [] ≡ Wrote 1 (pos 1) d ∷ [] → c ≡ d
    cycle_of f = ap first_cycle f

pub apart : (e : EnvName) → AreApart (environment (Named e) two) labelled (with_secret (pos 0)) (with_secret (pos 100))
unfolding table flow_table join_table
apart Flat = both (environment (Named Flat) two) refl refl 8 132 (λ e. absurd (omega (arith, e))) refl refl
apart Part = both (environment (Named Part) two) refl refl 96 288 (λ e. absurd (omega (arith, e))) refl refl
apart Part2 = both (environment (Named Part2) two) refl refl 190 318 (λ e. absurd (omega (arith, e))) refl refl

pub met : (c : Option (Option (List ℕ))) → c ≡ Some (Some program_text) → IsMet c
met c h = record { program = program; reads = reads c h; labelled = labelled; types = types; apart = apart }
