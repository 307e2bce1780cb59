-- No lock of its name was held: it comes in front, and goes again where the size can't be kept.
use Rattle.std.proofs.Common.{◌≡◌, List, [], false, ap, ◌∙◌}
use Rattle.lu_held.specs.declared.locks.HeldLock.{HeldLock}
use Rattle.lu_held.specs.Locks.{named}
use Rattle.lu_held.specs.Held.{HeldState, is_held}
use Rattle.lu_spec_entries.specs.Words.{Hold}
use Rattle.lu_spec_client.specs.Caches.{held_as, with_held}
use Rattle.lu_cache.specs.Cached.{Cached, cache_after}
use Rattle.lu_client_store.specs.Stored.{StoreState, stored_after}
use Rattle.lu_client_store.proofs.Parts.{together}
use Rattle.lu_client_store.proofs.Holding.{held_anew, taken_back}
use Rattle.lu_client_store.proofs.Short.{short_then, short_kept}
use Rattle.lu_client_store.proofs.store.Store.hold.Goals as goal

pub returns-in-Err-clause-kept : goal.returns-in-Err-clause-kept
returns-in-Err-clause-kept c =
    let old = c.self.inside.held in
    let patches = c.self.inside.patches in
    let absent : is_held (named c.args.target c.args.lock.now.cookie) old.locks ≡ false =
    ap (λ (s : StoreState). is_held (named c.args.target c.args.lock.now.cookie) s.store.held) c.self.view_is ∙ c.requires.absent in
    ap (λ (h : HeldState). together h c.hold.new.self patches) (taken_back c.args.target c.args.lock.now c.args.marked old c.grant.new.held
    c.remove.new.self absent c.in_ok-grant.ensures.added c.remove.ensures.without)
    ∙ ap (λ (k : Cached). together old k patches) c.in-Err.ensures.kept
    ∙ c.self.view_is

pub returns-clause-held : goal.returns-clause-held
returns-clause-held c = λ seen.
    let old = c.self.inside.held in
    let patches = c.self.inside.patches in
    let absent : is_held (named c.args.target c.args.lock.now.cookie) old.locks ≡ false =
    ap (λ (s : StoreState). is_held (named c.args.target c.args.lock.now.cookie) s.store.held) c.self.view_is ∙ c.requires.absent in
    ap (λ (h : HeldState). together h c.hold.new.self patches) c.in_ok-grant.ensures.added
    ∙ ap (λ (locks : List HeldLock). together (record old { locks = locks }) c.hold.new.self patches)
    (held_anew c.args.target c.args.lock.now c.args.marked old.locks absent)
    ∙ ap (λ (k : Cached). together (record old { locks = with_held (held_as c.args.target.0 c.args.lock.now c.args.marked) old.locks }) k
    patches) (c.in_default.ensures.held c.args.target.0 c.args.marked seen)
    ∙ ap (λ (s : StoreState). stored_after s (Hold c.args.target.0 c.args.lock.now c.args.marked c.args.size seen)) c.self.view_is

-- the size that is kept, if any, is at most 2^40
pub invariant_of-self-in-Err : goal.invariant_of-self-in-Err
invariant_of-self-in-Err c = short_then c.self.inside.cache c.hold.new.self c.in-Err.ensures.kept c.self.invariant

pub invariant_of-self-in_default : goal.invariant_of-self-in_default
invariant_of-self-in_default c =
    short_then (cache_after c.self.inside.cache (Hold c.args.target.0 c.args.lock.now c.args.marked c.args.size [])) c.hold.new.self
    (c.in_default.ensures.held c.args.target.0 c.args.marked [])
    (short_kept c.args.lock.now c.args.size c.self.inside.cache.sizes c.requires.short c.self.invariant)
