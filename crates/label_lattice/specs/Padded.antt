-- A name in a room of 32 bytes.
use Rattle.std.specs.Prelude.{◌≡◌, ◌≤◌, ◌-◌, ℕ, List, ◌++◌, length, take, replicate}
use Rattle.std.proofs.Common.{ap, ap₂, sym, ◌∙◌}
use Rattle.label_lattice.specs.Names.{IsName}
use Rattle.label_lattice.specs.declared.name.Name.TheInside.{Inside}

abbrev pub text_of : Inside → List ℕ
text_of a = take a.len a.room

abbrev pub padded : List ℕ → Inside
padded t = record { room = t ++ replicate (32 - length t) 0; len = length t }

-- the room ends in zeros, and what is before them is a name
pub record IsPadded (a : Inside) : Type 0 where
  pub short : a.len ≤ 32
  pub room : a.room ≡ text_of a ++ replicate (32 - a.len) 0
  pub size : length (text_of a) ≡ a.len
  pub name : IsName (text_of a)

abbrev build : List ℕ → ℕ → Inside
build room len = record { room = room; len = len }

pub padded_again : (a : Inside) → IsPadded a → padded (text_of a) ≡ a
padded_again a h = ap₂ build (ap (λ (n : ℕ). text_of a ++ replicate (32 - n) 0) h.size ∙ sym h.room) h.size
