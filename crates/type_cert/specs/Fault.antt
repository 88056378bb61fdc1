-- What a refusal of a certificate says.
use Rattle.std.specs.Prelude.{ℕ, List}
use Rattle.mit_syntax.specs.Program.{Syntax}
use Rattle.type_cert.specs.declared.fault.CertFault.{CertFault}
use Rattle.type_cert.specs.declared.fault.CertFault.TheVariants.{Line, Memory}
use Rattle.type_cert.specs.Certificate.{IsFirstWrong}

-- the line that is named is the first wrong one
abbrev pub IsCertFault : Syntax → List ℕ → CertFault → Type 0
IsCertFault s bytes (Line n) = IsFirstWrong s bytes n
IsCertFault s bytes Memory = Unit {0}
