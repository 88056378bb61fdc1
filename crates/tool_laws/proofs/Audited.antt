-- The audit of the two starts under one level of caches.
use Rattle.std.proofs.Common.{◌≡◌, refl, ℕ, pos, [], ◌∷◌, arith, Vec, Global}
use Rattle.std.specs.Prelude.{All}
use Rattle.std.specs.Fmt.{digits}
use Rattle.std.proofs.lemmas.List.Elements.{All-nil, All-cons}
use denote.RawPtr.{null_ptr}
use Rattle.start_file.specs.Starts.{StartValue}
use Rattle.leak_audit.specs.declared.report.AuditReport.{AuditReport}
use Rattle.tool_words.specs.declared.words.EnvName.TheVariants.{Part}
use Rattle.tool_stages.specs.declared.envs.Environment.TheVariants.{Named}
use Rattle.tool_texts.specs.Reports.{audit_lines}
use Rattle.tool_stages.specs.Goes.{CanBeAudited, HaltsBy, shown_in}
use Rattle.tool_stages.specs.Envs.{ReportsIn}
use Rattle.tool_laws.specs.FirstAudit.{observer, budget, audit_answer}
use Rattle.tool_laws.proofs.Order.{low, table, flow_table, join_table, two}
use Rattle.tool_laws.proofs.AuditTypes.{labelled}
use Rattle.tool_laws.proofs.Premises.{apart, begins}
use Rattle.tool_laws.proofs.Starts.{untouched, both_starts}

halts : All (HaltsBy (Named Part) budget labelled) both_starts
unfolding table flow_table join_table
halts =
    let P : StartValue → Type 0 = HaltsBy (Named Part) budget labelled in
    All-cons P (untouched 0) (untouched 100 ∷ []) tt (All-cons P (untouched 100) [] tt (All-nil P))

shown : shown_in (Named Part) labelled observer budget both_starts ≡ 2
unfolding table flow_table join_table
shown = refl

pub can_be_audited : CanBeAudited (Named Part) budget labelled observer both_starts
can_be_audited = record { cut = record { agree = (apart Part).agree; few = omega (arith, shown) }; halt = halts }

abbrev classes : Vec ℕ Global
classes = record {
  ptr = null_ptr;
  len = 2;
  cap = 2;
  alloc = record { memory = record { seal = tt } };
  items = 1 ∷ 2 ∷ [];
  ok =
      (refl, omega arith);
  small = omega arith;
}

abbrev pub report : AuditReport
report = record { runs = 2; mitigations = 1; measures = record { levels = 1; distinct = 2; base = 2; exponent = 10; classes = classes } }

pub reports : ReportsIn (Named Part) labelled observer budget both_starts report
unfolding table flow_table join_table
reports = record {
  agree = (apart Part).agree;
  halted = (apart Part).halt;
  few = omega (arith, shown);
  runs = refl;
  mitigations = begins (pos 0);
  measures = record { levels = refl; distinct = refl; base = refl; exponent = refl; classes = refl };
}

pub tells : audit_lines two low budget report ≡ audit_answer
unfolding digits
tells = refl
