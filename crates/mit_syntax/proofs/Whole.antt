-- The whole text of a program.
use Rattle.std.proofs.Common.{◌≡◌, ap, ◌∙◌, List}
use Rattle.label_lattice.specs.declared.label.Label.{Label}
use Rattle.label_lattice.specs.Order.{Order}
use Rattle.mit_syntax.specs.Chunks.{text}
use Rattle.mit_syntax.specs.Declarations.{Declaration}
use Rattle.mit_syntax.specs.Plan.{Plan}
use Rattle.mit_syntax.specs.Layout.{chunks_of}

pub text_as : (o o' : Order) (ps ps' : List (Label × Label)) (ds ds' : List Declaration) (b b' : Plan) → o ≡ o' → ps ≡ ps' → ds ≡ ds' → b ≡ b'
    → text (chunks_of o ps ds b) ≡ text (chunks_of o' ps' ds' b')
text_as o o' ps ps' ds ds' b b' h1 h2 h3 h4 =
    ap (λ x. text (chunks_of x ps ds b)) h1 ∙ ap (λ x. text (chunks_of o' x ds b)) h2 ∙ ap (λ x. text (chunks_of o' ps' x b)) h3
    ∙ ap (λ x. text (chunks_of o' ps' ds' x)) h4
