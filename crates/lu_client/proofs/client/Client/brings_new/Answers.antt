use Rattle.std.proofs.Common.{◌≡◌, true, false, List, ap, sym, ◌∙◌}
use Rattle.lu_base.specs.declared.locks.Lock.{Lock}
use Rattle.lu_spec_client.specs.Caches.{granted_lock}
use Rattle.lu_held.specs.declared.locks.HeldLock.{HeldLock}
use Rattle.lu_client.specs.Accepting.{cookies_of, is_new}
use Rattle.lu_client.specs.Comings.{are_new}
use Rattle.lu_client.proofs.Brought.{brings_old, brings_one}
use Rattle.lu_client.proofs.client.Client.brings_new.Goals as goal

pub returns-then-not-are_new : goal.returns-then-not-are_new
returns-then-not-are_new c =
    let held : List HeldLock = c.args.self.now.client.store.held in
    let old : are_new c.args.target.0 c.args.reply.now.locks held ≡ false =
    ap (λ (ls : List Lock). are_new c.args.target.0 ls held) (sym c.as_slice-locks.ensures.same) ∙ sym c.are_new.ensures.new
    ∙ c.if-not-are_new.true in
    record {
      new = sym (brings_old c.args.target.0 c.args.reply.now.locks
          (granted_lock c.args.op.now c.args.reply.now c.args.reply.now.answer) held old);
    }

pub returns-in-Some : goal.returns-in-Some
returns-in-Some c =
    let held : List HeldLock = c.args.self.now.client.store.held in
    let new : are_new c.args.target.0 c.args.reply.now.locks held ≡ true =
    ap (λ (ls : List Lock). are_new c.args.target.0 ls held) (sym c.as_slice-locks.ensures.same) ∙ sym c.are_new.ensures.new
    ∙ c.if-not-are_new.false in
    record {
      new = c.is_new.ensures.new
          ∙ ap (λ (ls : List Lock). is_new c.args.target.0 c.in-Some.cookie ls held) c.as_slice-locks.ensures.same
          ∙ sym (brings_one c.args.target.0 c.args.reply.now.locks (granted_lock c.args.op.now c.args.reply.now c.args.reply.now.answer)
          c.in-Some.cookie held new
          (c.granted_cookie.ensures.granted c.args.reply.now ∙ ap cookies_of c.in-Some.is));
    }
