-- What a close finds: each replay that was taken is of a transaction that was done, and that its life heard of.
use Rattle.std.proofs.Common.{◌≡◌, ℕ, ◌<◌, List, sym, subst, ap, ◌∙◌, false, arith}
use Rattle.std.specs.Prelude.{nat_lt, filter}
use Rattle.lu_base.specs.declared.ids.Txn.{Txn as TxnOf}
use Rattle.lu_msg.specs.declared.messages.Reply.{Reply as ReplyTo}
use Rattle.lu_spec_entries.specs.Carried.{Deed, Flight}
use Rattle.lu_spec_entries.specs.Words.{Line}
use Rattle.lu_spec_target.specs.Windows.{Replayed}
use Rattle.lu_spec_client.specs.Imports.{Replay}
use Rattle.lu_proof_lawful.specs.Covered.TargetStates.{replays_of}
use Rattle.lu_proof_lawful.specs.Covered.TargetCloses.{is_lost}
use Rattle.lu_proof_lawful.specs.Covered.Heads.{Head}
use Rattle.lu_proof_lawful.proofs.Preconditions.Guards.{In}
use Rattle.lu_proof_lawful.proofs.Preconditions.StoryGuards.{IsRecovering}
use Rattle.lu_proof_lawful.proofs.Invariants.Groups.{HeardAs, HoldsAt}
use Rattle.lu_proof_lawful.proofs.Invariants.TargetGroups.{Acted, IsMade, Stands}

-- that replay is of that transaction, whose reply its life heard
pub record ReplayedDeed (past : List Line) (r : Replayed) : Type 0 where
  pub deed : Deed
  pub flight : Flight
  pub reply : ReplyTo
  pub acted : Acted past deed
  pub heard : HeardAs past r.who flight reply
  pub is : reply ≡ record deed.reply { boot = reply.boot; committed = reply.committed }
  pub made : IsMade deed
  pub who : deed.reply.who ≡ r.who
  pub number : deed.reply.txn.0 ≡ r.number
  pub xid : deed.reply.xid.0 ≡ r.xid
  pub tag : deed.tag ≡ r.tag
  pub op : deed.op ≡ r.op
  pub seen : r.seen ≡ filter (λ n. nat_lt n r.number) deed.reply.seen
  pub flown : flight.xid ≡ r.xid

pub replayed_is_done : (head : Head) (past : List Line) → HoldsAt head past → IsRecovering head.osts past → (r : Replayed)
    → In r (replays_of past) → ReplayedDeed past r
replayed_is_done head past h c r i =
    let known = (h.recovers.replays c r i).2 in
    let kept = h.keeps.kept_replay r.who known.0 known.1 in
    let done = h.done.answered r.who kept.0 kept.1 kept.2 in
    let replay : known.0.txn ≡ kept.1.txn = ap (λ (k : Replay). k.txn) kept.3 in
    let reply : kept.1.txn ≡ done.0.reply.txn = ap (λ (k : ReplyTo). k.txn) done.2 in
    let number : r.number ≡ known.0.txn.0 = ap (λ (k : Replayed). k.number) known.2 in
    let same : done.0.reply.txn.0 ≡ r.number = ap (λ (n : TxnOf). n.0) (sym (replay ∙ reply)) ∙ sym number in
    let positive : 0 < kept.1.txn.0 = kept.4 in
    let of_reply : kept.1.txn.0 ≡ done.0.reply.txn.0 = ap (λ (n : TxnOf). n.0) reply in
    let xid : r.xid ≡ kept.1.xid.0 = ap (λ (k : Replayed). k.xid) known.2 ∙ ap (λ (k : Replay). k.xid.0) kept.3 in
    let seen : known.0.seen ≡ done.0.reply.seen = ap (λ (k : Replay). k.seen) kept.3 ∙ ap (λ (k : ReplyTo). k.seen) done.2 in
    record {
      deed = done.0;
      flight = kept.0;
      reply = kept.1;
      acted = done.1;
      heard = kept.2;
      is = done.2;
      made = omega (arith, positive, of_reply);
      who = sym (ap (λ (k : ReplyTo). k.who) done.2) ∙ done.3;
      number = same;
      xid = ap (λ (k : ReplyTo). k.xid.0) (sym done.2) ∙ sym xid;
      tag = sym done.6 ∙ sym (ap (λ (k : Replayed). k.tag) known.2 ∙ ap (λ (k : Replay). k.tag) kept.3);
      op = sym done.5 ∙ sym (ap (λ (k : Replayed). k.op) known.2 ∙ ap (λ (k : Replay). k.op) kept.3);
      seen = ap (λ (k : Replayed). k.seen) known.2
          ∙ ap (λ (n : ℕ). filter (λ m. nat_lt m n) known.0.seen) (sym number)
          ∙ ap (filter (λ m. nat_lt m r.number)) seen;
      flown = done.4 ∙ ap (λ (k : ReplyTo). k.xid.0) (sym done.2) ∙ sym xid;
    }

-- it stands still
pub replayed_stands : (head : Head) (past : List Line) (h : HoldsAt head past) (c : IsRecovering head.osts past) (r : Replayed)
    (i : In r (replays_of past)) → Stands head.osts past (replayed_is_done head past h c r i).deed
replayed_stands head past h c r i =
    let d = replayed_is_done head past h c r i in
    let lost = (h.history.heard r.who d.flight d.reply d.heard (h.recovers.replays c r i).0).0 in
    subst (λ (n : TxnOf). is_lost head.osts past n.0 ≡ false) (ap (λ (k : ReplyTo). k.txn) d.is) lost
