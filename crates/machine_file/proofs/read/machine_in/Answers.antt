use Rattle.std.proofs.Common.{◌∙◌, ap, sym}
use Rattle.start_file.proofs.TableLemmas.{keys_told}
use Rattle.env_contract.specs.declared.place.Place.TheVariants.{Page, Code, Data, Second}
use Rattle.machine_file.specs.Files.{is_machine_key, is_first, sharing_of, bank_of}
use Rattle.machine_file.proofs.read.machine_in.Goals as goal

pub returns-then-not-has_machine_keys : goal.returns-then-not-has_machine_keys
returns-then-not-has_machine_keys c =
    let first = sym (ap is_first c.at.ensures) ∙ sym c.is_first.ensures ∙ c.if-not-is_first.false in
    let known = keys_told is_machine_key c.args.table.now.entries c.has_machine_keys.result _ c.has_machine_keys.ensures c.if-not-has_machine_keys.true in
    rw (first, known)

pub returns-in_default : goal.returns-in_default
returns-in_default c =
    let first = sym (ap is_first c.at.ensures) ∙ sym c.is_first.ensures ∙ c.if-not-is_first.false in
    let known = keys_told is_machine_key c.args.table.now.entries c.has_machine_keys.result _ c.has_machine_keys.ensures c.if-not-has_machine_keys.false in
    let none = c.in_default.ensures ∙ ap sharing_of c.at-2.ensures in
    rw (first, known, ← none)

pub returns : goal.returns
returns c =
    let first = sym (ap is_first c.at.ensures) ∙ sym c.is_first.ensures ∙ c.if-not-is_first.false in
    let known = keys_told is_machine_key c.args.table.now.entries c.has_machine_keys.result _ c.has_machine_keys.ensures c.if-not-has_machine_keys.false in
    let some = c.in-Some.ensures ∙ ap sharing_of c.at-2.ensures in
    let page = c.bank-page.ensures ∙ ap (bank_of Page) c.at-3.ensures in
    let code = c.bank-code.ensures ∙ ap (bank_of Code) c.at-4.ensures in
    let line = c.bank-line.ensures ∙ ap (bank_of Data) c.at-5.ensures in
    let second = c.bank-second.ensures ∙ ap (bank_of Second) c.at-6.ensures in
    rw (first, known, ← some, ← page, ← code, ← line, ← second) c.with_banks.ensures
