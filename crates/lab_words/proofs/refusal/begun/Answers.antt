use Rattle.std.proofs.Common.{string_bytes, sym}
use Rattle.std.proofs.lemmas.List.{take-map}
use Rattle.lab_words.proofs.refusal.begun.Goals as goal

pub returns-then-end-words : goal.returns-then-end-words
returns-then-end-words c = sym (take-map string_bytes c.args.end c.args.words.now)
