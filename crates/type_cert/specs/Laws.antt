-- What is true of certificates.
use Rattle.std.specs.Prelude.{◌≡◌, ℕ, List, ◌↔◌}
use Rattle.mit_syntax.specs.Program.{Syntax}
use Rattle.mit_syntax.specs.Valid.{IsValid}
use Rattle.timing_types.specs.Labelling.{Labelling}
use Rattle.timing_types.specs.Labelled.{LabelledProgram, HasType}
use Rattle.label_infer.specs.Least.{Labels}
use Rattle.type_cert.specs.Certificate.{IsCertificate, IsFirstWrong}
use Rattle.type_cert.specs.Derived.{derived_text}

abbrev pub with_labels : Syntax → Labelling → LabelledProgram
with_labels s l = record { program = s; labels = l }

-- the program has a certificate, and a labelling of it has a derivation
abbrev pub HasCertificate : Syntax → Type 0
HasCertificate s = (l : Labelling) × (bytes : List ℕ) × IsCertificate (with_labels s l) bytes

abbrev pub IsTypable : Syntax → Type 0
IsTypable s = (l : Labelling) × Labels s l × HasType (with_labels s l)

-- a program has a certificate exactly where some labelling types it
abbrev pub CertificatesAreDerivations : Type 0
CertificatesAreDerivations = (s : Syntax) → IsValid s → HasCertificate s ↔ IsTypable s

-- the labelling that a certificate holds is one that types the program
abbrev pub HeldLabellingTypes : Type 0
HeldLabellingTypes = (q : LabelledProgram) (bytes : List ℕ) → IsValid q.program → IsCertificate q bytes → Labels q.program q.labels × HasType q

-- a certificate holds one labelling
abbrev pub HoldsOneLabelling : Type 0
HoldsOneLabelling =
    (s : Syntax) (l l' : Labelling) (bytes : List ℕ) → IsValid s → IsCertificate (with_labels s l) bytes → IsCertificate (with_labels s l') bytes → l ≡ l'

-- no line of a certificate is wrong
abbrev pub CertificatesHaveNoWrongLine : Type 0
CertificatesHaveNoWrongLine = (q : LabelledProgram) (bytes : List ℕ) (n : ℕ) → IsCertificate q bytes → IsFirstWrong q.program bytes n → ⊥

-- bytes have one first wrong line at most
abbrev pub HasOneFirstWrong : Type 0
HasOneFirstWrong = (s : Syntax) (bytes : List ℕ) (n m : ℕ) → IsFirstWrong s bytes n → IsFirstWrong s bytes m → n ≡ m

-- the text that a labelling gives which types the program is a certificate of it, and holds that labelling
abbrev pub DerivedTextsAreCertificates : Type 0
DerivedTextsAreCertificates = (q : LabelledProgram) → IsValid q.program → Labels q.program q.labels → HasType q → IsCertificate q (derived_text q)
