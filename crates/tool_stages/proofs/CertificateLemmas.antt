-- What a certificate holds, and the stops of a file that was read.
use Rattle.std.proofs.Common.{◌≡◌, ◌≤◌, ℕ, List, length, Option, sym, subst}
use Rattle.tim_base.specs.Told.{limit, IsTold}
use Rattle.mit_syntax.specs.Program.{Syntax}
use Rattle.mit_syntax.specs.Valid.{IsValid}
use Rattle.timing_types.specs.Labelled.{LabelledProgram}
use Rattle.label_infer.specs.Least.{Labels}
use Rattle.type_cert.specs.Certificate.{IsCertificate}
use Rattle.type_cert.specs.Laws.{HeldLabellingTypes}
use Rattle.tool_texts.specs.declared.stop.Stop.{Stop}
use Rattle.tool_texts.specs.Ends.{IsStop, status_of, stop_text}
use Rattle.tool_texts.proofs.EndLemmas.{broke_map}
use Rattle.tool_stages.specs.Stages.{Rechecks, CertificateStops}
use Rattle.tool_stages.proofs.StopLemmas.{certificate_rise}

pub rechecks : HeldLabellingTypes → (p : Syntax) (q : LabelledProgram) (bytes : List ℕ) (c : Option (Option (List ℕ))) → IsValid p → q.program ≡ p
    → IsCertificate q bytes → length bytes ≤ limit → IsTold c bytes → Rechecks c p q
rechecks law p q bytes c valid is certifies short are =
    let held = law q bytes (subst IsValid (sym is) valid) certifies in
    record {
      holds = record { bytes = bytes; are = are; short = short; program = is; certifies = certifies };
      labels = subst (λ (z : Syntax). Labels z q.labels) is held.0;
      typed = held.1;
    }

pub certificate_stop_of : (R : Type 0) (c : Option (Option (List ℕ))) (p : Syntax) (e : Stop) → IsStop (CertificateStops ⊥ c p) e
    → IsStop (CertificateStops R c p) e
certificate_stop_of R c p e h =
    broke_map (CertificateStops ⊥ c p) (CertificateStops R c p) (status_of e) (stop_text e)
    (certificate_rise ⊥ R c p (status_of e) (stop_text e) (λ n. absurd n)) h
