-- A lock that a client waits for it doesn't hold: what is held isn't to come.
use Rattle.std.proofs.Common.{◌≡◌, ℕ, ◌<◌, true, false, List, inr, subst, ap}
use Rattle.lu_base.specs.declared.ids.Cookie.{Cookie}
use Rattle.lu_msg.specs.declared.answers.Answer.{Answer}
use Rattle.lu_msg.specs.declared.messages.Reply.{Reply as ReplyTo}
use Rattle.lu_msg.specs.declared.operations.Op.{Op}
use Rattle.lu_held.specs.declared.locks.HeldLock.{HeldLock}
use Rattle.lu_spec_entries.specs.Carried.{Deed, Flight}
use Rattle.lu_spec_entries.specs.Words.{Line}
use Rattle.lu_spec_client.specs.Caches.{held_at}
use Rattle.lu_proof_lawful.specs.Covered.ClientStates.{life_of, awaits_of}
use Rattle.lu_proof_lawful.specs.Covered.Heads.{Head}
use Rattle.lu_proof_lawful.proofs.Preconditions.Heard.{In, HeardAs}
use Rattle.lu_proof_lawful.proofs.Invariants.TargetGroups.{hopes_of, tells_wait}
use Rattle.lu_proof_lawful.proofs.Invariants.Groups.{HoldsAt}
use Rattle.lu_proof_lawful.proofs.Invariants.Hopes.{waits_bring}

module _ (head : Head) (past : List Line) (h : HoldsAt head past) where
  -- it heard to wait for it, and it is to come
  pub awaited_new : (c : ℕ) (cookie : Cookie) (f : Flight) (r : ReplyTo) → HeardAs past (life_of c past) f r
      → tells_wait f.op r.answer cookie.0 ≡ true → 0 < awaits_of (life_of c past) cookie.0 past
      → (x : HeldLock) → In x (held_at c past) → x.lock.cookie ≡ cookie → ⊥
  awaited_new c cookie f r heard tells more x i e =
      let done = h.done.answered (life_of c past) f r heard in
      let told : tells_wait done.0.op done.0.reply.answer cookie.0 ≡ true =
      subst (λ (a : Answer). tells_wait done.0.op a cookie.0 ≡ true) (ap (λ (k : ReplyTo). k.answer) done.2)
      (subst (λ (o : Op). tells_wait o r.answer cookie.0 ≡ true) done.5 tells) in
      let waits = h.locks.awaits (life_of c past) cookie.0 more in
      let same : done.0 ≡ waits.deed = h.locks.named done.0 waits.deed cookie.0 done.1 waits.acted
      (inr (waits_bring done.0.op done.0.reply.answer cookie.0 told)) (inr waits.brings) in
      let yes : hopes_of (life_of c past) cookie.0 past ≡ true = waits.hopes
      (subst (λ (d : Deed). tells_wait d.op d.reply.answer cookie.0 ≡ true) same told) in
      let no : hopes_of (life_of c past) cookie.0 past ≡ false = subst (λ (k : Cookie). hopes_of (life_of c past) k.0 past ≡ false) e
      (h.locks.held c x i).came in
      absurd (cc)
