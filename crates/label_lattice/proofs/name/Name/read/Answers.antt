use Rattle.std.proofs.Common.{arith, sym, ◌∙◌}
use Rattle.label_lattice.proofs.NameLemmas.{padded_front}
use Rattle.label_lattice.proofs.name.Name.read.Goals as goal

pub invariant_of-result : goal.invariant_of-result
invariant_of-result c = padded_front c.args.bytes.now c.copy_from_slice.new.self (omega arith) (
  c.is_word.ensures.0 c.if-not-is_word.false,
  omega arith,
  sym c.is_keyword.ensures ∙ c.if-is_keyword.false,
) c.copy_from_slice.ensures.after
