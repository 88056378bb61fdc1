use Rattle.std.proofs.Common.{codes, refl, ◌∙◌}
use Rattle.tool_texts.proofs.LineLemmas.{of_five}
use Rattle.lab_why.proofs.OriginLemmas.{tells_lines}
use Rattle.lab_why.proofs.origins.label_text.Goals as goal

pub returns : goal.returns
returns c = record {
  origins = c.in_ok-origins.origins.items;
  come = c.in_ok-origins.ensures.origins;
  join = c.in_ok-origins.ensures.join;
  needed = c.in_ok-origins.ensures.needed;
  none = c.in_ok-origins.ensures.none;
  told = c.in_ok-origins.ensures.told;
  lines = tells_lines c.args.text.now c.args.tokens.now c.args.p.now c.args.word.now c.args.spot.now c.in_ok-origins.origins.items c.as_slice.result.now
      c.program-program.result.now c.lattice.result.now c.label_there.result
      c.args.word.now c.bytes.result.now c.as_slice-2.result.now c.extend_from_slice-5.new.self.items
      refl (c.bytes.ensures.value ∙ c.name-name.ensures) c.lattice.ensures c.label_there.ensures.value c.program-program.ensures.program
      c.as_slice.ensures.value (c.as_slice-2.ensures.value ∙ c.in_ok-lines.ensures)
      (of_five c.new-whole.result.items c.extend_from_slice.new.self.items c.extend_from_slice-2.new.self.items c.extend_from_slice-3.new.self.items
      c.extend_from_slice-4.new.self.items c.extend_from_slice-5.new.self.items
      c.args.word.now (codes " is ") c.bytes.result.now (codes "\n") c.as_slice-2.result.now
      c.new-whole.ensures.items c.in_ok-extend_from_slice.ensures.items c.in_ok-extend_from_slice-2.ensures.items c.in_ok-extend_from_slice-3.ensures.items
      c.in_ok-extend_from_slice-4.ensures.items c.in_ok-extend_from_slice-5.ensures.items);
}
