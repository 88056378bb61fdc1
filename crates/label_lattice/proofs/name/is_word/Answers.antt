use Rattle.std.proofs.Common.{sym, ◌∙◌}
use Rattle.label_lattice.proofs.NameLemmas.{word_front}
use Rattle.label_lattice.proofs.name.is_word.Goals as goal

pub returns-then-is_ascii_alphabetic : goal.returns-then-is_ascii_alphabetic
returns-then-is_ascii_alphabetic c =
    word_front c.args.bytes.now c.in-len1-up.len_at_least _ (sym c.is_ascii_alphabetic.ensures.value ∙ c.if-is_ascii_alphabetic.true) c.are_name_bytes.ensures
