use Rattle.std.proofs.Common.{List, ℕ, subst}
use Rattle.made_laws.specs.Words.{HasWords}
use Rattle.made_laws.specs.MadeWords.{program_chunks, program_words}
use Rattle.made_laws.proofs.Apart.{chunk_words}
use Rattle.made_laws.proofs.Parts.{program_apart}
use Rattle.made_laws.proofs.Texts.{program_bytes}
use Rattle.made_laws.proofs.words.made_text_has_words.Goals as goal

pub returns : goal.returns
returns c =
    let P : List ℕ → Type 0 = λ t. HasWords t (program_words c.args.size c.args.number) in
    subst P (program_bytes c.args.size c.args.number) (chunk_words (program_chunks c.args.size c.args.number) (program_apart c.args.size c.args.number))
