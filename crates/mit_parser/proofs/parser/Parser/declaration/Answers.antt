use Rattle.std.proofs.lemmas.Result.{err_from_is_err_and, MatchResult-weaker}
use Rattle.mit_syntax.specs.declared.token.Keyword.TheVariants.{Var}
use Rattle.mit_syntax.specs.Chunks.{key}
use Rattle.mit_parser.specs.Words.{word}
use Rattle.mit_parser.specs.Scope.{labels_in}
use Rattle.mit_parser.specs.Machine.{want, a_declaration, after_var}
use Rattle.mit_parser.proofs.Rules.{within}
use Rattle.mit_parser.proofs.Heads.{declaration_all, rule_declaration}
use Rattle.mit_parser.proofs.Opening.{refused_memory}
use Rattle.mit_parser.proofs.parser.Parser.declaration.Goals as goal

pub returns-in_err-key : goal.returns-in_err-key
returns-in_err-key c =
    let p = err_from_is_err_and c.from_residual.result c.from_residual.ensures.1 in
    rw (p.1, p.2) (within c.args.self.now c.args.self.now c.key.new.self a_declaration (want (word (key Var))) after_var _
    (λ s. rule_declaration s c.args.self.now.counts c.args.self.now.words) c.in_err-key.ensures)

pub returns : goal.returns
returns c =
    MatchResult-weaker c.declare.result c.declare.ensures
    (λ _ k. declaration_all (labels_in c.args.lattice.now) c.args.self.now c.key.new.self c.name.new.self c.shape.new.self c.sign.new.self c.declare.new.self
    c.in_ok-name.name c.in_ok-name.pos _ _ _ _
    c.in_ok-key.ensures c.in_ok-name.ensures c.in_ok-shape.ensures c.in_ok-sign.ensures k)
    (λ f k. refused_memory a_declaration c.args.self.now c.declare.new.self f k)
