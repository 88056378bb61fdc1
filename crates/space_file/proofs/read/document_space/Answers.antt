use Rattle.std.proofs.Common.{◌≡◌, ◌∙◌, sym, ap, refl}
use Rattle.start_file.proofs.TableLemmas.{keys_told}
use Rattle.start_file.specs.Versions.{is_three}
use Rattle.space_file.specs.Files.{is_top_key}
use Rattle.space_file.proofs.read.document_space.Goals as goal

pub returns-then-not-has_top_keys-clause-refused : goal.returns-then-not-has_top_keys-clause-refused
returns-then-not-has_top_keys-clause-refused c =
    let three = ap is_three (sym c.at.ensures) ∙ sym c.is_three.ensures ∙ c.if-not-is_three.false in
    let known = keys_told is_top_key c.args.table.now.entries c.has_top_keys.result _ c.has_top_keys.ensures c.if-not-has_top_keys.true in
    λ _. rw (three, known) refl

pub returns-clause-ok : goal.returns-clause-ok
returns-clause-ok c =
    let three = ap is_three (sym c.at.ensures) ∙ sym c.is_three.ensures ∙ c.if-not-is_three.false in
    let known = keys_told is_top_key c.args.table.now.entries c.has_top_keys.result _ c.has_top_keys.ensures c.if-not-has_top_keys.false in
    rw (three, known, ← c.at-2.ensures) c.space.ensures.ok

pub returns-clause-refused : goal.returns-clause-refused
returns-clause-refused c =
    let three = ap is_three (sym c.at.ensures) ∙ sym c.is_three.ensures ∙ c.if-not-is_three.false in
    let known = keys_told is_top_key c.args.table.now.entries c.has_top_keys.result _ c.has_top_keys.ensures c.if-not-has_top_keys.false in
    rw (three, known, ← c.at-2.ensures) c.space.ensures.refused
