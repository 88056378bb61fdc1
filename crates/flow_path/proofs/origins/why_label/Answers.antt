use Rattle.std.proofs.Common.{rules, ◌≡◌, ◌∙◌, ap, sym, subst}
use Rattle.std.specs.Prelude.{false, is_some}
use Rattle.label_lattice.specs.Order.{Order, lattice_of}
use Rattle.mit_syntax.specs.Program.{Syntax}
use Rattle.mit_syntax.specs.Valid.{IsValid}
use Rattle.flow_path.specs.Steps.{written}
use Rattle.flow_path.specs.Origins.{joined, AreNeeded, AreAll, needed_after}
use Rattle.flow_path.proofs.Telling.{free_is, origins_are, none_kept, join_is}
use Rattle.flow_path.proofs.origins.why_label.Goals as goal

pub all_told-requires-clause-omitted : goal.all_told-requires-clause-omitted
all_told-requires-clause-omitted c =
    let no : is_some c.written_at.result ≡ false = search rules in
    free_is c.program-program.result.now c.args.spot.now c.written_at.result c.written_at.ensures no

pub returns-clause-origins : goal.returns-clause-origins
returns-clause-origins c =
    let s = c.args.p.now.program in
    let is = c.program-program.ensures.program in
    let valid : IsValid c.args.p.now.program = subst (λ z. IsValid z) is c.body.ensures.valid in
    let no : is_some c.written_at.result ≡ false = search rules in
    let free = free_is s c.args.spot.now c.written_at.result (ap (λ z. written z c.args.spot.now) (sym is) ∙ c.written_at.ensures) no in
    let all = subst (λ z. AreAll z c.args.spot.now c.in_ok-told.told.items) is c.in_ok-told.ensures in
    origins_are s valid c.args.spot.now free c.in_ok-told.told.items c.in_ok-kept.kept.items all c.in_ok-kept.ensures.among

pub returns-clause-join : goal.returns-clause-join
returns-clause-join c =
    let s = c.args.p.now.program in
    let is = c.program-program.ensures.program in
    let valid : IsValid c.args.p.now.program = subst (λ z. IsValid z) is c.body.ensures.valid in
    let no : is_some c.written_at.result ≡ false = search rules in
    let free = free_is s c.args.spot.now c.written_at.result (ap (λ z. written z c.args.spot.now) (sym is) ∙ c.written_at.ensures) no in
    let all = subst (λ z. AreAll z c.args.spot.now c.in_ok-told.told.items) is c.in_ok-told.ensures in
    let order = c.lattice.ensures ∙ ap (λ (z : Syntax). z.order) is in
    let same = subst (λ (z : Order). joined (lattice_of z) c.in_ok-kept.kept.items ≡ joined (lattice_of z) c.in_ok-told.told.items)
    order c.in_ok-kept.ensures.join in
    λ h. same ∙ join_is s valid c.args.spot.now free c.args.p.now.labels c.requires c.in_ok-told.told.items all h

pub returns-clause-needed : goal.returns-clause-needed
returns-clause-needed c =
    let is = c.program-program.ensures.program in
    let order = c.lattice.ensures ∙ ap (λ (z : Syntax). z.order) is in
    subst (λ (z : Order). AreNeeded (lattice_of z) c.in_ok-kept.kept.items) order c.in_ok-kept.ensures.needed

pub returns-clause-none : goal.returns-clause-none
returns-clause-none c =
    let s = c.args.p.now.program in
    let is = c.program-program.ensures.program in
    let valid : IsValid c.args.p.now.program = subst (λ z. IsValid z) is c.body.ensures.valid in
    let no : is_some c.written_at.result ≡ false = search rules in
    let free = free_is s c.args.spot.now c.written_at.result (ap (λ z. written z c.args.spot.now) (sym is) ∙ c.written_at.ensures) no in
    let all = subst (λ z. AreAll z c.args.spot.now c.in_ok-told.told.items) is c.in_ok-told.ensures in
    none_kept s valid c.args.spot.now free c.in_ok-told.told.items c.in_ok-kept.kept.items all c.in_ok-kept.ensures.among

pub returns-clause-told : goal.returns-clause-told
returns-clause-told c =
    let is = c.program-program.ensures.program in
    let order = c.lattice.ensures ∙ ap (λ (z : Syntax). z.order) is in
    λ w. record {
      all = c.in_ok-told.told.items;
      are = subst (λ z. AreAll z c.args.spot.now c.in_ok-told.told.items) is c.in_ok-told.ensures;
      needed = subst (λ (z : Order). c.in_ok-kept.kept.items ≡ needed_after (lattice_of z) z.bottom c.in_ok-told.told.items) order c.in_ok-kept.ensures.is;
    }
