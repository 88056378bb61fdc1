use Rattle.std.proofs.Common.{◌≡◌, ◌≤◌, ◌^◌, ◌∙◌, ◌∷◌, [], None, Some, sym, subst, refl, length, arith}
use Rattle.std.proofs.lemmas.Result.{err_from_is_err_and}
use Rattle.mit_parser.specs.Words.{told, the_end}
use Rattle.mit_parser.specs.State.{begin}
use Rattle.mit_parser.specs.Machine.{want, header, declarations, commands}
use Rattle.mit_parser.specs.Headers.{IsHeader}
use Rattle.mit_parser.specs.Assembly.{AreParts, IsAssembled}
use Rattle.mit_parser.proofs.Rules.{told_length}
use Rattle.mit_parser.proofs.Sound.{are_sound}
use Rattle.mit_parser.proofs.Theorems.{refuses, more_left}
use Rattle.mit_parser.proofs.Finish.{to_commands, goes_end, refuses_names, parts, program}
use Rattle.mit_parser.proofs.parse.parse.Goals as goal

pub new-parser-requires : goal.new-parser-requires
new-parser-requires c = are_sound c.args.text.now c.args.tokens.now c.requires.size c.requires.tokens

pub returns-in-Err : goal.returns-in-Err
returns-in-Err c =
    let words = told c.args.text.now c.args.tokens.now in
    refuses words (begin words) c.header.new.self header (declarations ∷ commands ∷ want the_end ∷ []) _ refl
    (rw c.new-parser.ensures at c.in-Err.ensures)

pub returns-in_err-variables : goal.returns-in_err-variables
returns-in_err-variables c =
    let p = err_from_is_err_and c.from_residual.result c.from_residual.ensures.1 in
    let words = told c.args.text.now c.args.tokens.now in
    let h : IsHeader c.in-Ok.header.lattice c.in-Ok.header.pairs.items (begin words) c.header.new.self =
    rw c.new-parser.ensures at c.in-Ok.ensures in
    rw (p.1, p.2) (refuses words c.header.new.self c.variables.new.self declarations (commands ∷ want the_end ∷ []) _
    (h.goes (declarations ∷ commands ∷ want the_end ∷ [])) c.in_err-variables.ensures)

pub returns-in_err-body : goal.returns-in_err-body
returns-in_err-body c =
    let p = err_from_is_err_and c.from_residual-in_err-body.result c.from_residual-in_err-body.ensures.1 in
    let words = told c.args.text.now c.args.tokens.now in
    let h : IsHeader c.in-Ok.header.lattice c.in-Ok.header.pairs.items (begin words) c.header.new.self =
    rw c.new-parser.ensures at c.in-Ok.ensures in
    rw (p.1, p.2) (refuses words c.variables.new.self c.commands.new.self commands (want the_end ∷ []) _
    (to_commands words c.in-Ok.header.lattice c.in-Ok.header.pairs.items c.in_ok-variables.variables c.header.new.self c.variables.new.self h
    c.in_ok-variables.ensures) c.in_err-body.ensures)

pub returns-then-not-is_at_end : goal.returns-then-not-is_at_end
returns-then-not-is_at_end c =
    let words = told c.args.text.now c.args.tokens.now in
    let h : IsHeader c.in-Ok.header.lattice c.in-Ok.header.pairs.items (begin words) c.header.new.self =
    rw c.new-parser.ensures at c.in-Ok.ensures in
    more_left words c.commands.new.self c.unexpected.result
    (goes_end words c.in-Ok.header.lattice c.in-Ok.header.pairs.items c.in_ok-variables.variables c.in_ok-body.body.items c.header.new.self
    c.variables.new.self c.commands.new.self
    h c.in_ok-variables.ensures c.in_ok-body.ensures) c.if-not-is_at_end.ensures c.unexpected.ensures

pub returns-in-Some : goal.returns-in-Some
returns-in-Some c =
    let words = told c.args.text.now c.args.tokens.now in
    let h : IsHeader c.in-Ok.header.lattice c.in-Ok.header.pairs.items (begin words) c.header.new.self =
    rw c.new-parser.ensures at c.in-Ok.ensures in
    refuses_names words c.in-Ok.header.lattice c.in-Ok.header.pairs.items c.in_ok-variables.variables c.in_ok-body.body.items
    c.header.new.self c.variables.new.self c.commands.new.self
    h c.in_ok-variables.ensures c.in_ok-body.ensures c.if-not-is_at_end.ensures c.laws.ensures.low c.in-Some.fault (sym c.fault.ensures ∙ c.in-Some.is)

pub shared-requires : goal.shared-requires
shared-requires c =
    let words = told c.args.text.now c.args.tokens.now in
    let sound = are_sound c.args.text.now c.args.tokens.now c.requires.size c.requires.tokens in
    let size = told_length c.args.text.now c.args.tokens.now in
    let few = sound.few in
    let short : length words ≤ 2 ^ 31 = omega (arith, size, few) in
    let h : IsHeader c.in-Ok.header.lattice c.in-Ok.header.pairs.items (begin words) c.header.new.self =
    rw c.new-parser.ensures at c.in-Ok.ensures in
    let parts = parts words c.in-Ok.header.lattice c.in-Ok.header.pairs.items c.in_ok-variables.variables c.in_ok-body.body.items c.header.new.self
    c.variables.new.self c.commands.new.self
    h c.in_ok-variables.ensures c.in_ok-body.ensures c.if-not-is_at_end.ensures c.laws.ensures.low (sym c.fault.ensures ∙ c.in-None.is) sound.proper short in
    λ none. let e : Some parts.order ≡ None = sym parts.there ∙ none in cc

pub assembled-requires-clause-parts : goal.assembled-requires-clause-parts
assembled-requires-clause-parts c =
    let words = told c.args.text.now c.args.tokens.now in
    let sound = are_sound c.args.text.now c.args.tokens.now c.requires.size c.requires.tokens in
    let size = told_length c.args.text.now c.args.tokens.now in
    let few = sound.few in
    let short : length words ≤ 2 ^ 31 = omega (arith, size, few) in
    let h : IsHeader c.in-Ok.header.lattice c.in-Ok.header.pairs.items (begin words) c.header.new.self =
    rw c.new-parser.ensures at c.in-Ok.ensures in
    subst (λ l. AreParts l c.in-Ok.header.pairs.items c.in_ok-variables.variables c.in_ok-body.body.items) c.in-Ok-shared.ensures.same
    (parts words c.in-Ok.header.lattice c.in-Ok.header.pairs.items c.in_ok-variables.variables c.in_ok-body.body.items c.header.new.self
    c.variables.new.self c.commands.new.self
    h c.in_ok-variables.ensures c.in_ok-body.ensures c.if-not-is_at_end.ensures c.laws.ensures.low (sym c.fault.ensures ∙ c.in-None.is) sound.proper short)

pub returns-in-Ok-shared : goal.returns-in-Ok-shared
returns-in-Ok-shared c =
    let words = told c.args.text.now c.args.tokens.now in
    let h : IsHeader c.in-Ok.header.lattice c.in-Ok.header.pairs.items (begin words) c.header.new.self =
    rw c.new-parser.ensures at c.in-Ok.ensures in
    program words c.in-Ok.header.lattice c.in-Ok.header.pairs.items c.in_ok-variables.variables c.in_ok-body.body.items c.header.new.self
    c.variables.new.self c.commands.new.self
    h c.in_ok-variables.ensures c.in_ok-body.ensures c.if-not-is_at_end.ensures c.laws.ensures.low (sym c.fault.ensures ∙ c.in-None.is)
    c.assembled.result
    (subst (λ l. IsAssembled l c.in-Ok.header.pairs.items c.in_ok-variables.variables c.in_ok-body.body.items c.assembled.result)
    (sym c.in-Ok-shared.ensures.same) c.assembled.ensures)
