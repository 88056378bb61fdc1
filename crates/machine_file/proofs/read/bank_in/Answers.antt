use Rattle.std.proofs.Common.{◌∙◌, ap}
use Rattle.start_file.specs.Touches.{address_of}
use Rattle.start_file.proofs.TableLemmas.{keys_told}
use Rattle.machine_file.specs.Files.{is_bank_key}
use Rattle.machine_file.proofs.read.bank_in.Goals as goal

pub returns-then-not-has_bank_keys : goal.returns-then-not-has_bank_keys
returns-then-not-has_bank_keys c =
    let known = keys_told is_bank_key c.args.table.now.entries c.has_bank_keys.result _ c.has_bank_keys.ensures c.if-not-has_bank_keys.true in
    rw known

pub returns : goal.returns
returns c =
    let known = keys_told is_bank_key c.args.table.now.entries c.has_bank_keys.result _ c.has_bank_keys.ensures c.if-not-has_bank_keys.false in
    let sets = c.in_ok-number.ensures ∙ ap address_of c.at.ensures in
    let ways = c.in_ok-number-2.ensures ∙ ap address_of c.at-2.ensures in
    let bytes = c.in_ok-number-3.ensures ∙ ap address_of c.at-3.ensures in
    let hit = c.in_ok-number-4.ensures ∙ ap address_of c.at-4.ensures in
    let miss = c.in_ok-number-5.ensures ∙ ap address_of c.at-5.ensures in
    rw (known, ← sets, ← ways, ← bytes, ← hit, ← miss)
