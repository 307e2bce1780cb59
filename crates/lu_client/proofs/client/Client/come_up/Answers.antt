use Rattle.std.proofs.Common.{◌≡◌, ◌<◌, true, nat_lt, ℕ, subst}
use Rattle.std.proofs.lemmas.Result.{on_ok_weaker}
use Rattle.lu_spec_client.specs.Imports.{import_of}
use Rattle.lu_client.proofs.Recovering.{is_later, still_inside, came_up}
use Rattle.lu_client.proofs.client.Client.come_up.Goals as goal

pub forget_for_recovery-requires : goal.forget_for_recovery-requires
forget_for_recovery-requires c =
    let above : nat_lt (import_of c.args.target.0 c.args.self.now.client.imports).boot c.args.boot ≡ true =
    is_later (import_of c.args.target.0 c.args.self.now.client.imports).boot c.args.boot
    (subst (λ (known : ℕ). known < c.args.boot) c.boot_known.ensures.boot c.if-boot-boot_known.false) in
    record {
      target = still_inside c.args.target.0 c.args.boot c.args.self.now c.args.turn.now c.in_ok-posts.posts c.reconnect.new.self
          c.reconnect.new.self c.requires.target (c.in_ok-posts.ensures.up above);
    }

pub returns : goal.returns
returns c =
    let above : nat_lt (import_of c.args.target.0 c.args.self.now.client.imports).boot c.args.boot ≡ true =
    is_later (import_of c.args.target.0 c.args.self.now.client.imports).boot c.args.boot
    (subst (λ (known : ℕ). known < c.args.boot) c.boot_known.ensures.boot c.if-boot-boot_known.false) in
    record {
      makes = on_ok_weaker c.send_posts.result
          (λ given. came_up c.args.target.0 c.args.boot c.args.self.now c.args.turn.now c.in_ok-posts.posts c.reconnect.new.self
          c.forget_for_recovery.new.self c.requires.target (c.in_ok-posts.ensures.up above)
          c.send_posts.new.turn above (c.forget_for_recovery.ensures.forgets c.args.turn.now) given)
          c.send_posts.ensures.sends;
    }
