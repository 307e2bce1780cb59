-- A reply that a live client hears is to what is in flight, and was sent in the boot that served last.
use Rattle.std.proofs.Common.{◌≡◌, ℕ, true, List, Some, sym, subst, ap, ◌∙◌}
use Rattle.lu_base.specs.declared.ids.Node.TheVariants.{Client, Target}
use Rattle.lu_base.specs.declared.ids.Stamp.{Stamp}
use Rattle.lu_base.specs.declared.ids.Who.{Who}
use Rattle.lu_base.specs.declared.locks.Resource.{Resource}
use Rattle.lu_msg.specs.declared.messages.Message.TheVariants as message
use Rattle.lu_msg.specs.declared.messages.Reply.{Reply as ReplyTo}
use Rattle.lu_spec_entries.specs.Carried.{Flight}
use Rattle.lu_spec_entries.specs.Words as word
use Rattle.lu_spec_entries.specs.Words.{Line, line}
use Rattle.lu_spec_entries.specs.Concerns.{only}
use Rattle.lu_spec_client.specs.Calls.{life_at}
use Rattle.lu_proof_lawful.specs.Covered.ClientStates.{life_of, flights_of}
use Rattle.lu_proof_lawful.specs.Covered.Heads.{Head}
use Rattle.lu_proof_lawful.proofs.Preconditions.Heard.{In}
use Rattle.lu_proof_lawful.proofs.Preconditions.Lists.{self, turn}
use Rattle.lu_proof_lawful.proofs.Preconditions.StoryGuards.{HeardOk}
use Rattle.lu_proof_lawful.proofs.Invariants.TargetGroups.{HasSlot}
use Rattle.lu_proof_bytes.specs.Object.Words as words
use Rattle.lu_proof_bytes.specs.Object.Words.{Entry, Heard}
use Rattle.lu_proof_bytes.specs.Object.Folds as says
use Rattle.lu_proof_bytes.specs.Object.Guards.{Allowed}
use Rattle.lu_proof_lawful.specs.Projection.Lives.{number_of, is_live}
use Rattle.lu_proof_lawful.specs.Projection.Requests.{op_of, asked_as, answer_of}
use Rattle.lu_proof_lawful.specs.Projection.Messages.{request_as}
use Rattle.lu_proof_lawful.specs.Projection.Stories.{story}
use Rattle.lu_proof_lawful.proofs.Refinement.Tied.{Here}
use Rattle.lu_proof_lawful.proofs.Refinement.TargetDeeds.{on_of}
use Rattle.lu_proof_lawful.proofs.Refinement.MayBase.{tie, life_eq, asked_flight, flown_slot, boot_closed}

module _ (head : Head) (t : ℕ) (r : Resource) (stamp : Stamp) (c : ℕ) (past : List Line) (f : Flight) (p : ReplyTo)
    (here : Here head t r (line (turn stamp (Client c)) (word.Heard t f p)) past) (live : is_live c past (story t r past) ≡ true) where
  abbrev l : Line
  l = line (turn stamp (Client c)) (word.Heard t f p)

  abbrev P : List Line
  P = only t past

  abbrev who : Who
  who = life_at c past

  abbrev h : List Entry
  h = story t r past

  abbrev w : ℕ
  w = number_of who

  abbrev pub ok : HeardOk P c f p
  ok = here.stood.ok.of t (self t)

  life : life_of c P ≡ who
  life = sym (life_eq head t r l past here c live)

  pub flying : In f (flights_of who P)
  flying = subst (λ (v : Who). In f (flights_of v P)) life ok.flying

  pub replies_who : p.who ≡ who
  replies_who = ok.who ∙ life

  pub slot : HasSlot head.clients P who
  slot = flown_slot head t r l past here c live f ((here.stood.before.at t).numbers.flying who f flying)

  pub boot : p.boot ≡ says.closed h
  boot = boot_closed head t r l past here c live slot p.boot ok.boot
      ((here.stood.before.at t).done.sent (Target ok.from) (Client c) (message.Reply p) ok.was).boot

  -- the request as the story has it
  pub flown : (x : words.Op) → op_of r h f.op ≡ Some x → says.flight w h ≡ Some (request_as w f.xid x)
  flown x e =
      let a = (tie head t r l past here c live).flights.flies f flying (on_of r h f.op x e) in
      let same : a.op ≡ x = let q : Some a.op ≡ Some x = sym a.is ∙ e in cc in
      a.flies ∙ ap (λ (y : words.Op). Some (request_as w f.xid y)) same

  pub may_hear : (x : words.Op) → op_of r h f.op ≡ Some x → Allowed h (Heard (request_as w f.xid x) (answer_of (request_as w f.xid x) p))
  may_hear x e =
      let q = request_as w f.xid x in
      let asked : asked_as (number_of p.who) p.xid.0 h ≡ Some q = ap (λ (v : Who). asked_as (number_of v) p.xid.0 h) replies_who
      ∙ ap (λ (n : ℕ). asked_as w n h) (sym ok.xid) ∙ asked_flight w h q (flown x e) in (
        flown x e,
        subst (λ (b : ℕ). says.Was h (words.Reply b w f.xid (answer_of q p))) boot
            (here.tied.object.replies (Target ok.from) (Client c) p q ok.was asked),
      )
