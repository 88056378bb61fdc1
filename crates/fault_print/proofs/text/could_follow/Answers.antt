use Rattle.fault_print.proofs.Told.{if_ok, none_follow}
use Rattle.fault_print.proofs.text.could_follow.Goals as goal

pub returns-in-Err : goal.returns-in-Err
returns-in-Err c = if_ok _ _ _ (λ v. none_follow c.args.text.now _ v.items c.in-Err.ensures.only) c.no_follow.ensures
