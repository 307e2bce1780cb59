-- What the service's own `forgotten` makes is what the rows make.
use Rattle.std.proofs.Common.{◌≡◌, [], List, drop, ap, subst, ◌∙◌}
use Rattle.std.proofs.lemmas.List.{drop_all}
use Rattle.lu_base.specs.declared.ids.Who.{Who}
use Rattle.lu_service.specs.Contents.{Contents}
use Rattle.lu_target_refines.specs.Contents.{all_forgotten}
use Rattle.lu_target_redo.proofs.Steps.{shows_forgotten, last_forgotten}
use Rattle.lu_target_redo.proofs.batches.forget_all.Goals as goal

pub returns-clause-shows : goal.returns-clause-shows
returns-clause-shows g c =
    let acts = g.S.Service.acts in
    let gone = c.args.gone.now in
    let own = g.S.Service.contents c.args.service.now in
    let new = g.S.Service.contents c.loop-who.service in
    let none : drop c.loop-who.who-index gone ≡ [] = drop_all c.loop-who.who-index gone c.loop-who-test.false in
    let is : new ≡ all_forgotten acts gone own = subst (λ (them : List Who). all_forgotten acts them new ≡ all_forgotten acts gone own) none
    c.loop-who.invariant in
    shows_forgotten g.S.Service.kind acts g.met.S.Service.lawful g.met.S.Service.serves_names g.met.S.Service.serves_objects own new gone is

pub returns-clause-last : goal.returns-clause-last
returns-clause-last g c =
    let acts = g.S.Service.acts in
    let gone = c.args.gone.now in
    let own = g.S.Service.contents c.args.service.now in
    let new = g.S.Service.contents c.loop-who.service in
    let none : drop c.loop-who.who-index gone ≡ [] = drop_all c.loop-who.who-index gone c.loop-who-test.false in
    let is : new ≡ all_forgotten acts gone own = subst (λ (them : List Who). all_forgotten acts them new ≡ all_forgotten acts gone own) none
    c.loop-who.invariant in
    ap (λ (s : Contents). s.last) is ∙ last_forgotten acts g.S.Service.kind g.met.S.Service.lawful own gone
