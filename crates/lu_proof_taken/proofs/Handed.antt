-- What a target that recovers is handed in, in its present boot and by a life with a slot, it may keep: a replay is of what was done
-- in an earlier boot, under a number that is that life's alone; a lock is one that was given in an earlier boot, to that life alone.
use Rattle.std.proofs.Common.{◌≡◌, ℕ, ◌<◌, ◌≤◌, false, sym, ap, ◌∙◌, arith}
use Rattle.std.specs.Prelude.{◌==◌, List}
use Rattle.std.proofs.lemmas.Bool.Decides.{nat_tests}
use Rattle.lu_base.specs.declared.ids.Cookie.{Cookie}
use Rattle.lu_base.specs.declared.ids.Node.{Node}
use Rattle.lu_base.specs.declared.ids.Node.TheVariants.{Target}
use Rattle.lu_base.specs.declared.ids.Txn.{Txn as TxnOf}
use Rattle.lu_base.specs.declared.locks.Lock.{Lock}
use Rattle.lu_msg.specs.declared.messages.LockReplay.{LockReplay}
use Rattle.lu_msg.specs.declared.messages.Message.TheVariants as message
use Rattle.lu_msg.specs.declared.messages.Reply.{Reply as ReplyTo}
use Rattle.lu_msg.specs.declared.messages.RequestReplay.{RequestReplay}
use Rattle.lu_spec_entries.specs.Carried.{Deed}
use Rattle.lu_spec_entries.specs.Words.{Line}
use Rattle.lu_spec_client.specs.Imports.{Replay}
use Rattle.lu_spec_target.specs.Phase.{first_of}
use Rattle.lu_spec_target.specs.Rows.{lock_again}
use Rattle.lu_spec_target.specs.Windows.{Replayed}
use Rattle.lu_proof_lawful.specs.Covered.Heads.{Head}
use Rattle.lu_proof_lawful.specs.Covered.TargetStates.{server_of, closed_of, replays_of, brought_of}
use Rattle.lu_proof_lawful.proofs.Preconditions.Heard.{In, Was}
use Rattle.lu_proof_lawful.proofs.Preconditions.ObjectGuards.{IsRecovering}
use Rattle.lu_proof_lawful.proofs.Invariants.AtClose.{replayed_is_done}
use Rattle.lu_proof_lawful.proofs.Invariants.TargetGroups.{Acted, IsMade, IsKind, HasSlot}
use Rattle.lu_proof_lawful.proofs.Invariants.Groups.{HoldsAt}
use Rattle.lu_proof_lawful.proofs.Invariants.Hopes.{gave_names}

abbrev of_number : ℕ → TxnOf
of_number n = record { 0 = n }

abbrev of_cookie : ℕ → Cookie
of_cookie n = record { 0 = n }

strict : (a b : ℕ) → (a == b) ≡ false → a ≤ b → a < b
strict a b e low = grind (arith, nat_tests, e, low)

module _ (head : Head) (past : List Line) (h : HoldsAt head past) (recovers : IsRecovering head.osts past) where
  abbrev boot : ℕ
  boot = (server_of head.osts past).boot

  -- the boot that served last is an earlier one
  served_before : closed_of past < boot
  served_before = strict (closed_of past) boot recovers h.phase.under

  -- ---- a replay

  pub record MayKeep (r : RequestReplay) : Type 0 where
    pub deed : Deed
    pub acted : Acted past deed
    pub made : IsMade deed
    pub who : deed.reply.who ≡ r.who
    pub number : deed.reply.txn.0 ≡ r.txn.0
    pub tag : deed.tag ≡ r.tag
    pub op : deed.op ≡ r.op
    pub earlier : r.txn.0 ≤ first_of boot
    pub late : 1 < r.txn.0
    pub only : (s : Replayed) → In s (replays_of past) → s.number ≡ r.txn.0 → s.who ≡ r.who

  pub replay_may : (from : Node) (t : ℕ) (r : RequestReplay) → Was past from (Target t) (message.Replay r) → boot ≤ r.boot
      → HasSlot head.clients past r.who → MayKeep r
  replay_may from t r was current slot =
      let told = h.recovers.told from (Target t) (message.Replay r) was recovers current slot in
      let kept = h.keeps.kept_replay r.who told.0 told.1 in
      let done = h.done.answered r.who kept.0 kept.1 kept.2 in
      let of_reply : kept.1.txn ≡ done.0.reply.txn = ap (λ (k : ReplyTo). k.txn) done.2 in
      let of_kept : told.0.txn ≡ kept.1.txn = ap (λ (k : Replay). k.txn) kept.3 in
      let of_told : r.txn ≡ told.0.txn = ap (λ (k : RequestReplay). k.txn) told.2 in
      let same : done.0.reply.txn.0 ≡ r.txn.0 = ap (λ (n : TxnOf). n.0) (sym (of_told ∙ of_kept ∙ of_reply)) in
      let positive : 0 < kept.1.txn.0 = kept.4 in
      let number : kept.1.txn.0 ≡ done.0.reply.txn.0 = ap (λ (n : TxnOf). n.0) of_reply in
      let made : IsMade done.0 = omega (arith, positive, number) in
      let who : done.0.reply.who ≡ r.who = sym (ap (λ (k : ReplyTo). k.who) done.2) ∙ done.3 in
      let range = h.done.numbers done.0 done.1 made in
      let boots = h.done.boots done.0 done.1 in
      let low = range.0 in
      let high = range.1 in
      let first = boots.0 in
      let last = boots.1 in
      let served = served_before in
      record {
        deed = done.0;
        acted = done.1;
        made = made;
        who = who;
        number = same;
        tag = sym (ap (λ (k : RequestReplay). k.tag) told.2 ∙ ap (λ (k : Replay). k.tag) kept.3 ∙ done.6);
        op = sym (ap (λ (k : RequestReplay). k.op) told.2 ∙ ap (λ (k : Replay). k.op) kept.3 ∙ done.5);
        earlier = omega (arith, same, high, last, served);
        late = omega (arith, same, low, first);
        only = λ s i e.
            let d = replayed_is_done head past h recovers s i in
            let one : d.deed ≡ done.0 = h.done.single d.deed done.0 d.acted done.1 d.made made (ap of_number (d.number ∙ e ∙ sym same)) in
            sym d.who ∙ ap (λ (x : Deed). x.reply.who) one ∙ who;
      }

  -- ---- a lock

  pub record MayRestore (l : LockReplay) : Type 0 where
    pub earlier : l.cookie.0 ≤ first_of boot
    pub kind : IsKind l.mode l.policy
    pub only : (k : Lock) → In k (brought_of past) → k.cookie.0 ≡ l.cookie.0 → k.ask.who ≡ l.who

  pub lock_may : (from : Node) (t : ℕ) (l : LockReplay) → Was past from (Target t) (message.Lock l) → boot ≤ l.boot
      → HasSlot head.clients past l.who → MayRestore l
  lock_may from t l was current slot =
      let granted = h.locks.relocks from (Target t) l was recovers current slot in
      let gave = h.locks.granted (lock_again l) granted in
      let range = h.locks.cookies gave.0 l.cookie.0 gave.1.0 (gave_names past gave.0 (lock_again l) gave.1) in
      let boots = h.done.boots gave.0 gave.1.0 in
      let high = range.1 in
      let last = boots.1 in
      let served = served_before in
      record {
        earlier = omega (arith, high, last, served);
        kind = h.locks.kinds gave.0 (lock_again l) gave.1;
        only = λ k i e.
            let other = h.locks.granted k (h.locks.brought recovers k i) in
            let one = h.locks.once other.0 gave.0 k (lock_again l) other.1 gave.1 (ap of_cookie e) in
            ap (λ (x : Lock). x.ask.who) one.1;
      }
