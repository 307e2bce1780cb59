-- A reply that a target sends is to what was done, and counts: one that a close made anew is never asked for.
use Rattle.std.proofs.Common.{◌≡◌, ℕ, List, inl, ⊎_elim, sym, ap, ◌∙◌, arith}
use Rattle.lu_base.specs.declared.ids.Node.TheVariants.{Client}
use Rattle.lu_base.specs.declared.ids.Xid.{Xid}
use Rattle.lu_msg.specs.declared.messages.Reply.{Reply as ReplyTo}
use Rattle.lu_spec_entries.specs.Carried.{Deed}
use Rattle.lu_spec_entries.specs.Words.{Line}
use Rattle.lu_spec_entries.specs.Concerns.{only}
use Rattle.lu_proof_lawful.specs.Covered.Heads.{Head}
use Rattle.lu_proof_lawful.proofs.Preconditions.Guards.{Did}
use Rattle.lu_proof_lawful.proofs.Preconditions.StoryGuards.{ReplyOk, AsksAgain}
use Rattle.lu_proof_lawful.proofs.Preconditions.Grown.{Grown}
use Rattle.lu_proof_lawful.proofs.Invariants.Groups.{HoldsAt}
use Rattle.lu_proof_lawful.proofs.Invariants.TargetGroups.{Acted, Counts, Rebuilt}
use Rattle.lu_proof_lawful.proofs.Invariants.DoneGrows.{did_newest, did_acted}
use Rattle.lu_proof_lawful.proofs.Invariants.All.{holds}

-- that was done, counts, and was answered so
abbrev pub RepliedBy : Head → List Line → ReplyTo → Type 0
RepliedBy head story kept = (d : Deed) × Acted story d × (d.reply ≡ kept) × Counts head.osts story d

module _ (head : Head) (u : ℕ) (past : List Line) (g : Grown head past) (t c : ℕ) (k : ReplyTo)
    (ok : ReplyOk head (only u past) t c k) where
  abbrev at_target : HoldsAt head (only u past)
  at_target = (holds head past g).at u

  -- a request that comes again is of the boot that serves
  never : Rebuilt (only u past) ok.who ok.kept → AsksAgain head (only u past) t ok.who ok.tag → ⊥
  never r q =
      let taken = (at_target.done.slots ok.who ok.tag ok.kept ok.slot).1 in
      let same : q.request.xid.0 ≡ ok.kept.xid.0 = sym (taken ∙ q.same) in
      let below = r.1 (Client q.from) t q.request q.was q.of_life (ap number same) in
      let closed = ok.serves.closed in
      let current = q.current in
      omega (arith, below, closed, current)
    where
      number : ℕ → Xid
      number n = record { 0 = n }

  pub replied_acted : RepliedBy head (only u past) ok.kept
  replied_acted = ⊎_elim
      (λ (d : (d : Deed) × Acted (only u past) d × (d.reply ≡ ok.kept) × (d.tag ≡ ok.tag) × Counts head.osts (only u past) d).
      (d.0, d.1, d.2, d.4))
      (λ (r : Rebuilt (only u past) ok.who ok.kept). ⊎_elim
      (λ (n : (d : Deed) × Did (only u past) d × (d.reply ≡ ok.kept)).
      (n.0, did_acted (only u past) n.0 n.1, n.2, inl (at_target.done.newest n.0 (did_newest (only u past) n.0 n.1))))
      (λ (q : AsksAgain head (only u past) t ok.who ok.tag). absurd (never r q))
      ok.cause)
      (at_target.done.kept ok.who ok.tag ok.kept ok.slot)
