use Rattle.std.proofs.Common.{◌≡◌, ◌∙◌, IfSome, Option, ap, map, string_bytes, subst}
use Rattle.clap.specs.Words.{found_of, matches_of, rows_of}
use Rattle.clap.specs.declared.parser.matches.ArgMatches.{ArgMatches}
use Rattle.lab_words.specs.QuestionForms.{form_app}
use Rattle.lab_words.specs.Refusal.{loosened, missing_line}
use Rattle.lab_words.proofs.refusal.line_without.Goals as goal

pub returns : goal.returns
returns c =
    let rows = matches_of (loosened (form_app c.args.verb)) (map string_bytes c.args.words.now) in
    c.in_ok-missing_line-in-Some.ensures
    ∙ ap (missing_line c.args.verb c.args.command.now)
    (subst (λ (o : Option ArgMatches). IfSome o (λ m. rows_of (found_of m) ≡ rows)) c.in-Some.is c.in_ok-matches.ensures.rows)
