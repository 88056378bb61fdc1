-- A first audit: a program with one relevant mitigate, two starts of it that differ in a secret, the words that ask for
-- their audit, and what it answers.
use Rattle.std.specs.Prelude.{◌≡◌, ℕ, List, [], ◌∷◌, ℤ, pos, Option, codes}
use Rattle.mit_syntax.specs.Program.{Syntax, plan_of}
use Rattle.timing_types.specs.Labelled.{LabelledProgram, order_of, labels_of, levels_of}
use Rattle.env_contract.specs.Env.{Env}
use Rattle.label_code.specs.Run.{Start}
use Rattle.code_lower.specs.Lowered.{lowered}
use Rattle.leak_bound.specs.Records.{Each, Pairwise}
use Rattle.leak_bound.specs.Relevant.{Begins}
use Rattle.leak_bound.specs.Sound.{Agree, seen_from, Halts}
use Rattle.env_contract.specs.declared.place.Touch.{Touch}
use Rattle.history_bound.specs.Over.{AnyHistory}
use Rattle.tool_words.specs.declared.words.EnvName.{EnvName}
use Rattle.tool_stages.specs.declared.envs.Environment.TheVariants.{Named}
use Rattle.tool_stages.specs.Stages.{Reads, Types}
use Rattle.tool_stages.specs.Envs.{environment}

-- the bytes of a program: a secret sleep under mitigation, and a public assignment after it
abbrev pub program_text : List ℕ
program_text = codes "// A secret sleep under mitigation, and a public assignment after it.\nvar h : H;\nvar l : L;\nmitigate (1, H) { sleep h };\nl := 1\n"

-- the bytes of two starts, which differ in the secret
abbrev pub starts_text : List ℕ
starts_text = codes "# Two secrets.\n[[run]]\nmemory = { h = 0 }\n\n[[run]]\nmemory = { h = 100 }\n"

-- the observer L, as a number, and a number of cycles
abbrev pub observer : ℕ
observer = 0

abbrev pub budget : ℕ
budget = 1000

-- a start in which h has a value, l is 0 and nothing was touched
abbrev pub with_secret : ℤ → Start (List Touch)
with_secret h = record { memory = h ∷ pos 0 ∷ []; env = [] }

-- Two starts meet what the theorem asks for, and show that it has something to bound: they agree for the observer and
-- halt by T, each begins one relevant mitigate, and what the observer sees of them is not the same.
pub record AreApart (v : Env (List Touch)) (q : LabelledProgram) (s s' : Start (List Touch)) : Type 0 where
  pub agree : Pairwise (Agree v (order_of q) (AnyHistory q.program.order) (labels_of q) observer) (s ∷ s' ∷ [])
  pub halt : Each (Halts v (lowered q).instrs budget) (s ∷ s' ∷ [])
  pub begin : Each (λ x. Begins (order_of q) (labels_of q) (levels_of q) observer (plan_of q.program) x.memory 1) (s ∷ s' ∷ [])
  pub apart : seen_from v (order_of q) (labels_of q) (lowered q).instrs observer budget s
      ≡ seen_from v (order_of q) (labels_of q) (lowered q).instrs observer budget s' → ⊥

-- the file holds an accepted program, of which these starts do so in each environment that `--env` names
pub record IsMet (content : Option (Option (List ℕ))) : Type 0 where
  pub program : Syntax
  pub reads : Reads content program
  pub labelled : LabelledProgram
  pub types : Types program labelled
  pub apart : (e : EnvName) → AreApart (environment (Named e) labelled.program.order) labelled (with_secret (pos 0)) (with_secret (pos 100))

-- ---- the audit

abbrev pub program_file : List ℕ
program_file = codes "examples/nap.mit"

abbrev pub starts_file : List ℕ
starts_file = codes "examples/nap.toml"

-- `audit examples/nap.mit examples/nap.toml --observer L --env part --budget 1000`
abbrev pub audit_words : List (List ℕ)
audit_words =
    codes "audit" ∷ program_file ∷ starts_file ∷ codes "--observer" ∷ codes "L" ∷ codes "--env" ∷ codes "part" ∷ codes "--budget" ∷ codes "1000" ∷ []

-- two different sequences, of at most 2 ^ 10
abbrev pub audit_answer : List ℕ
audit_answer = codes "runs 2\nobserver L\nbudget 1000\nlevels 1\nmitigations 1\ndistinct 2\nbound 2^10\nrun 1 class 1\nrun 2 class 2\n"
