use Rattle.mit_syntax.proofs.OneList.{one_list}
use Rattle.mit_syntax.proofs.OneFault.{no_tokens, one_fault}
use Rattle.parse_laws.proofs.laws.one_cut.Goals as goal

pub returns : goal.returns
returns c = record {
  tokens = λ text a b h k. one_list text a b h k;
  no_fault = λ text tokens h f k. no_tokens text f tokens k h;
  fault = λ text f g h k x y. one_fault text f g h k x y;
}
