-- A line that does something for a request on an object answers it in the story, and nothing else is answered there.
use Rattle.std.proofs.Common.{◌≡◌, ◌∙◌, ℕ, Bool, true, false, List, ◌∷◌, Option, Some, None, ◌⊎◌, inl, inr, ⊎_elim, refl, sym, subst, ap}
use Rattle.std.proofs.Common.{arith}
use Rattle.std.specs.Prelude.{if◌then◌else◌, option_map}
use Rattle.lu_base.specs.declared.ids.Node.{Node}
use Rattle.lu_base.specs.declared.ids.Node.TheVariants.{Target}
use Rattle.lu_base.specs.declared.ids.Who.{Who}
use Rattle.lu_base.specs.declared.locks.Resource.{Resource}
use Rattle.lu_held.specs.Locks.{same_resource}
use Rattle.lu_msg.specs.declared.messages.Message.TheVariants as message
use Rattle.lu_msg.specs.declared.messages.Request.{Request as RequestOf}
use Rattle.lu_msg.specs.declared.operations.Op.{Op as TableOp}
use Rattle.lu_msg.specs.declared.operations.Op.TheVariants as op
use Rattle.lu_spec_entries.specs.Carried.{Deed}
use Rattle.lu_spec_entries.specs.Words.{Line}
use Rattle.lu_spec_target.specs.Lives.{is_life}
use Rattle.lu_proof_lawful.specs.Covered.TargetStates.{server_of, evicted_of, closed_of}
use Rattle.lu_proof_lawful.specs.Covered.TargetCloses.{is_lost}
use Rattle.lu_proof_lawful.specs.Covered.Heads.{Head}
use Rattle.lu_proof_lawful.proofs.Preconditions.Guards.{In, Was}
use Rattle.lu_proof_lawful.proofs.Preconditions.QueueLists.{resource_of}
use Rattle.lu_proof_lawful.proofs.Invariants.Groups.{HoldsAt}
use Rattle.lu_proof_lawful.proofs.Invariants.TargetGroups.{Acted, Counts, HasSlot}
use Rattle.lu_proof_bytes.specs.Object.Words as words
use Rattle.lu_proof_bytes.specs.Object.Words.{Request, Answer, Entry}
use Rattle.lu_proof_bytes.specs.Object.Folds.{Answered}
use Rattle.lu_proof_bytes.specs.Object.Folds as says
use Rattle.lu_proof_lawful.specs.Projection.Lives.{number_of}
use Rattle.lu_proof_lawful.specs.Projection.Requests.{op_of, op_on, answer_of}
use Rattle.lu_proof_lawful.specs.Projection.Messages.{request_as}
use Rattle.lu_proof_lawful.specs.Projection.Stories.{with_entry, served}
use Rattle.lu_proof_lawful.proofs.Refinement.TiedAsked.{IsOn, HasLock}
use Rattle.lu_proof_lawful.proofs.Refinement.TiedTarget.{AnsweredBy, TargetBy}
use Rattle.lu_proof_lawful.proofs.Refinement.TargetSame.{GivenStay, has_stays, op_stays, counts_same, counts_back, answer_stays, op_was}

-- ---- operations on the object

on_same : (r q : Resource) (o x : words.Op) → op_on r q o ≡ Some x → Some q ≡ Some r
on_same r q o x e = by (same_resource q r) refl e
  where
    by : (b : Bool) → same_resource q r ≡ b → (if b then Some o else None) ≡ Some x → Some q ≡ Some r
    by true t e = ap Some (resource_of q r t)
    by false t e = absurd (cc)

-- what the story has is on the object
pub on_of : (r : Resource) (h : List Entry) (o : TableOp) (x : words.Op) → op_of r h o ≡ Some x → IsOn r o
on_of r h (op.Enqueue q mode extent) x e = on_same r q _ x e
on_of r h (op.Get q cookie page) x e = on_same r q _ x e
on_of r h (op.Put q cookie at bytes) x e = on_same r q _ x e
on_of r h (op.Cut q cookie n) x e = on_same r q _ x e
on_of r h (op.Size q) x e = on_same r q _ x e
on_of r h _ x e = absurd (cc)

-- ---- who has a slot isn't evicted in the story

pub not_evicted : (head : Head) (r : Resource) (past : List Line) (h : List Entry) → TargetBy head r past h → HoldsAt head past
    → (who : Who) → HasSlot head.clients past who → says.evicted (number_of who) h ≡ false
not_evicted head r past h tied all who has = tied.evicted who ∙ by (is_life who (evicted_of past)) refl
  where
    by : (b : Bool) → is_life who (evicted_of past) ≡ b → b ≡ false
    by true e = absurd (let low = all.lives.apart who who has e refl in omega (arith, low))
    by false e = refl

-- a request of the object that waits names a lock of it
pub waits_names : (head : Head) (r : Resource) (past : List Line) (h : List Entry) → TargetBy head r past h → HoldsAt head past
    → ((from to : Node) (q : RequestOf) → Was past from to (message.Request q) → says.evicted (number_of q.who) h ≡ false → IsOn r q.op
    → HasLock h q.op)
    → (q : RequestOf) → In q (server_of head.osts past).waiting → IsOn r q.op → HasLock h q.op
waits_names head r past h tied all asked q i on =
    let w = all.done.waits q i in
    asked w.was.0 (Target w.was.1) q w.was.2 (not_evicted head r past h tied all q.who w.has) on

-- ---- what is answered

-- an entry that answers so
pub record Adds (make : Request → Entry) (told : Request → Answer) (h : List Entry) : Type 0 where
  pub here : (q : Request) → Answered (make q ∷ h) q.life q.xid (told q)
  pub older : (q : Request) (c x : ℕ) (a : Answer) → Answered h c x a → Answered (make q ∷ h) c x a
  pub back : (q : Request) (c x : ℕ) (a : Answer) → Answered (make q ∷ h) c x a → ((q.life ≡ c) × (q.xid ≡ x) × (told q ≡ a))
      ⊎ Answered h c x a

-- the request of what was done
abbrev pub asked_by : Deed → words.Op → Request
asked_by d o = request_as (number_of d.reply.who) d.reply.xid.0 o

-- this is done now, for a request that counts
pub record DoesOne (osts : ℕ) (past new : List Line) (d : Deed) : Type 0 where
  pub here : Acted new d
  pub acted : (x : Deed) → Acted past x → Acted new x
  pub back : (x : Deed) → Acted new x → (d ≡ x) ⊎ Acted past x
  pub counts : Counts osts new d
  pub closed : closed_of new ≡ closed_of past
  pub lost : (n : ℕ) → is_lost osts new n ≡ is_lost osts past n

module _ (head : Head) (r : Resource) (past new : List Line) (h : List Entry) (tied : TargetBy head r past h) (d : Deed)
    (does : DoesOne head.osts past new d)
    (make : Request → Entry) (told : Request → Answer) (adds : Adds make told h)
    (right : (o : words.Op) → op_of r h d.op ≡ Some o → told (asked_by d o) ≡ answer_of (asked_by d o) d.reply)
    (lock : IsOn r d.op → HasLock h d.op) (stay : GivenStay h (with_entry (served r d h make) h)) where
  abbrev then_told : List Entry
  then_told = with_entry (served r d h make) h

  -- what the entry answers, if there is one
  told_back : (c x : ℕ) (a : Answer) → Answered then_told c x a
      → ((o : words.Op) × (op_of r h d.op ≡ Some o) × (number_of d.reply.who ≡ c) × (d.reply.xid.0 ≡ x)
      × (answer_of (asked_by d o) d.reply ≡ a)) ⊎ Answered h c x a
  told_back c x a i = by (op_of r h d.op) refl i
    where
      by : (v : Option words.Op) → op_of r h d.op ≡ v → Answered (with_entry (option_map (λ o. make (asked_by d o)) v) h) c x a
          → ((o : words.Op) × (op_of r h d.op ≡ Some o) × (number_of d.reply.who ≡ c) × (d.reply.xid.0 ≡ x)
          × (answer_of (asked_by d o) d.reply ≡ a)) ⊎ Answered h c x a
      by None e i = inr i
      by (Some o) e i = ⊎_elim
          (λ p. inl (o, e, p.0, p.1, sym (right o e) ∙ p.2))
          (λ (b : Answered h c x a). inr b)
          (adds.back (asked_by d o) c x a i)

  told_older : (c x : ℕ) (a : Answer) → Answered h c x a → Answered then_told c x a
  told_older c x a i = by (op_of r h d.op)
    where
      by : (v : Option words.Op) → Answered (with_entry (option_map (λ o. make (asked_by d o)) v) h) c x a
      by None = i
      by (Some o) = adds.older (asked_by d o) c x a i

  told_here : (o : words.Op) → op_of r h d.op ≡ Some o → Answered then_told (number_of d.reply.who) d.reply.xid.0
      (answer_of (asked_by d o) d.reply)
  told_here o e = by (op_of r h d.op) e
    where
      by : (v : Option words.Op) → v ≡ Some o → Answered (with_entry (option_map (λ o. make (asked_by d o)) v) h) (number_of d.reply.who)
          d.reply.xid.0 (answer_of (asked_by d o) d.reply)
      by None q = absurd (cc)
      by (Some p) q =
          let same : p ≡ o = cc in
          subst (λ (x : words.Op). Answered (make (asked_by d x) ∷ h) (number_of d.reply.who) d.reply.xid.0
          (answer_of (asked_by d o) d.reply)) (sym same)
          (subst (λ (a : Answer). Answered (make (asked_by d o) ∷ h) (number_of d.reply.who) d.reply.xid.0 a) (right o e)
          (adds.here (asked_by d o)))

  pub names_one : (x : Deed) → Acted new x → IsOn r x.op → HasLock then_told x.op
  names_one x a on = ⊎_elim
      (λ (e : d ≡ x). has_stays h then_told x.op stay (subst (λ (y : Deed). HasLock h y.op) e
      (lock (subst (λ (y : Deed). IsOn r y.op) (sym e) on))))
      (λ (b : Acted past x). has_stays h then_told x.op stay (tied.names x b on))
      (does.back x a)

  pub answered_one : (w x : ℕ) (a : Answer) → Answered then_told w x a → AnsweredBy head r new then_told w x a
  answered_one w x a i = ⊎_elim new_one
      (λ (b : Answered h w x a).
      let o = tied.answered w x a b in
      answer_stays head r past new h then_told tied stay w x a o (does.acted o.deed o.acted)
      (counts_same head.osts past new does.closed does.lost o.deed o.counts))
      (told_back w x a i)
    where
      new_one : ((o : words.Op) × (op_of r h d.op ≡ Some o) × (number_of d.reply.who ≡ w) × (d.reply.xid.0 ≡ x)
          × (answer_of (asked_by d o) d.reply ≡ a)) → AnsweredBy head r new then_told w x a
      new_one p =
          let on = on_of r h d.op p.0 p.1 in
          record {
            deed = d;
            acted = does.here;
            counts = does.counts;
            on = on;
            op = p.0;
            is = op_stays r h then_told d.op stay (lock on) ∙ p.1;
            who = p.2;
            xid = p.3;
            answer = ap (λ (c : ℕ). answer_of (request_as c x p.0) d.reply) (sym p.2)
                ∙ ap (λ (y : ℕ). answer_of (request_as (number_of d.reply.who) y p.0) d.reply) (sym p.3) ∙ p.4;
          }

  pub answers_one : (x : Deed) (o : words.Op) → Acted new x → Counts head.osts new x → IsOn r x.op → op_of r then_told x.op ≡ Some o
      → Answered then_told (number_of x.reply.who) x.reply.xid.0 (answer_of (asked_by x o) x.reply)
  answers_one x o a c on is = ⊎_elim
      (λ (e : d ≡ x).
      subst (λ (y : Deed). IsOn r y.op → op_of r then_told y.op ≡ Some o
      → Answered then_told (number_of y.reply.who) y.reply.xid.0 (answer_of (asked_by y o) y.reply)) e
      (λ own so. told_here o (sym (op_stays r h then_told d.op stay (lock own)) ∙ so)) on is)
      (λ (b : Acted past x).
      told_older _ _ _ (tied.answers x o b (counts_back head.osts past new does.closed does.lost x c) on
      (op_was head r past new h then_told tied stay x o b on is)))
      (does.back x a)
