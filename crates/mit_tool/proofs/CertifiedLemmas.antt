-- What `certify` prints is a certificate of the program.
use Rattle.std.proofs.Common.{◌≤◌, ℕ, List, length, inl, inr}
use Rattle.tim_base.specs.Told.{limit, IsTold}
use Rattle.tool_words.specs.WordsAsked.{certify, recheck}
use Rattle.tool_texts.specs.declared.status.Status.TheVariants as status
use Rattle.tool_stages.specs.Content.{Content}
use Rattle.mit_tool.specs.Commands.{IsAnswer, CanGoOn}

pub taken : (Rises : List ℕ → Type 0) (content : Content) (file certificate t : List ℕ) → IsAnswer Rises content (certify file) status.Done t
    → IsTold (content certificate) t → length t ≤ limit
    → CanGoOn content (recheck file certificate)
taken Rises content file certificate t (inl h) are short = absurd h
taken Rises content file certificate t (inr (p, reads, inl h)) are short = absurd h
taken Rises content file certificate t (inr (p, reads, inr (q, types, h))) are short =
    (p, reads, q, record { bytes = t; are = are; short = short; program = types.program; certifies = h.2 })
