-- The notice is the row's, from what was told of size, committed number and what was seen.
use Rattle.std.proofs.Common.{◌≡◌, [], ◌∷◌, ◌∙◌, ℕ, List, sym, ap, subst}
use Rattle.std.proofs.lemmas.Result.{on_ok_weaker}
use Rattle.lu_base.specs.declared.ids.Txn.{Txn}
use Rattle.lu_base.specs.declared.locks.Extent.{Extent}
use Rattle.lu_spec_machine.specs.Objects.{object_size, range}
use Rattle.lu_msg.specs.declared.messages.GrantNotice.{GrantNotice}
use Rattle.lu_msg.specs.declared.messages.Message.TheVariants as message
use Rattle.lu_part.specs.declared.parts.Part.{Part}
use Rattle.lu_service.specs.Contents.{object_in}
use Rattle.lu_target_store.specs.Stores.{Serves}
use Rattle.lu_spec_target.specs.Queues.{extent_of, size_of}
use Rattle.lu_spec_target.specs.Replies.{seen_in, to_life}
use Rattle.lu_spec_target.specs.States.{Target}
use Rattle.lu_target_server.specs.Answering.{TellsSizes}
use Rattle.lu_spec_entries.specs.Given.{giving}
use Rattle.lu_target_server.specs.Servers.{ServerState}
use Rattle.lu_target_server.proofs.server.Server.say_grant.Goals as goal

pub returns-clause-sent : goal.returns-clause-sent
returns-clause-sent g c =
    let l = c.args.lock.now in
    let notice_of : ℕ → ℕ → Txn → Extent → List ℕ → GrantNotice = λ boot size committed extent seen.
    record { who = l.ask.who; boot = boot; cookie = l.cookie; extent = extent; size = size; committed = committed; seen = seen } in
    let mine : GrantNotice = notice_of c.self.inside.boot c.in_ok-size.size c.last_committed.result c.extent_of-extent.result
    c.in_ok-seen.seen in
    let middle : ServerState = c.size_of.new.self in
    let same : (v : Target) → TellsSizes c.args.self.now v
    → mine ≡ notice_of v.boot (size_of v l.resource) (record { 0 = v.committed }) (extent_of l)
    (seen_in (range l.resource (extent_of l).first (extent_of l).last) v.log) = λ v tells.
    let back : middle ≡ c.args.self.now = c.in_ok-size.ensures.same in
    let serves : Serves c.self.inside.store v = subst (λ (s : ServerState). Serves s.store v) (sym (c.self.view_is ∙ back))
    tells.tells.store in
    let boot : c.self.inside.boot ≡ v.boot = ap (λ (s : ServerState). s.boot) (c.self.view_is ∙ back) ∙ sym tells.tells.boot in
    let size : c.in_ok-size.size ≡ size_of v l.resource =
    c.in_ok-size.ensures.size ∙ ap (λ objects. object_size (object_in objects l.resource)) tells.objects in
    let committed : c.last_committed.result ≡ record { 0 = v.committed } =
    ap (λ n. record { 0 = n }) (c.last_committed.ensures.serving v serves) in
    let extent : c.extent_of-extent.result ≡ extent_of l = c.extent_of-extent.ensures.extent in
    let touched : c.touched.inside.items.items ≡ range l.resource (extent_of l).first (extent_of l).last =
    c.touched.view_is ∙ c.in_ok-touched.ensures.range ∙ ap (λ (e : Extent). range l.resource e.first e.last) extent in
    let seen : c.in_ok-seen.seen ≡ seen_in (range l.resource (extent_of l).first (extent_of l).last) v.log =
    c.in_ok-seen.ensures.seen v serves ∙ ap (λ (parts : List Part). seen_in parts v.log) (sym c.touched.view_is ∙ touched) in
    ap (λ b. notice_of b c.in_ok-size.size c.last_committed.result c.extent_of-extent.result c.in_ok-seen.seen) boot
    ∙ ap (λ s. notice_of v.boot s c.last_committed.result c.extent_of-extent.result c.in_ok-seen.seen) size
    ∙ ap (λ (n : Txn). notice_of v.boot (size_of v l.resource) n c.extent_of-extent.result c.in_ok-seen.seen) committed
    ∙ ap (λ (e : Extent). notice_of v.boot (size_of v l.resource) (record { 0 = v.committed }) e c.in_ok-seen.seen) extent
    ∙ ap (notice_of v.boot (size_of v l.resource) (record { 0 = v.committed }) (extent_of l)) seen
    in
    on_ok_weaker c.say.result
    (λ said v tells. said ∙ ap (λ (n : GrantNotice). giving c.args.turn.now (to_life l.ask.who (message.Grant n) ∷ [])) (same v tells))
    c.say.ensures.said
