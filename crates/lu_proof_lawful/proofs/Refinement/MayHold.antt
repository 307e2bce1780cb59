-- A live client comes to hold a lock as the theory allows: it awaits that, and a reply or a grant of the boot that served last has brought
-- it.
use Rattle.std.proofs.Common.{◌≡◌, ℕ, ◌<◌, Bool, true, false, List, [], ◌∷◌, Option, Some, ◌⊎◌, inl, inr, refl, sym, subst, ap, ◌∙◌}
use Rattle.std.specs.Prelude.{if◌then◌else◌}
use Rattle.std.specs.Option.{unwrap_or}
use Rattle.lu_base.specs.declared.ids.At.{At}
use Rattle.lu_base.specs.declared.ids.Cookie.{Cookie}
use Rattle.lu_base.specs.declared.ids.Node.{Node}
use Rattle.lu_base.specs.declared.ids.Node.TheVariants.{Client, Target}
use Rattle.lu_base.specs.declared.ids.Stamp.{Stamp}
use Rattle.lu_base.specs.declared.ids.Who.{Who}
use Rattle.lu_base.specs.declared.locks.Lock.{Lock as TableLock}
use Rattle.lu_base.specs.declared.locks.Resource.{Resource}
use Rattle.lu_held.specs.declared.locks.HeldLock.{HeldLock}
use Rattle.lu_msg.specs.declared.answers.Answer.{Answer}
use Rattle.lu_msg.specs.declared.answers.Answer.TheVariants as answer
use Rattle.lu_msg.specs.declared.messages.GrantNotice.{GrantNotice}
use Rattle.lu_msg.specs.declared.messages.Reply.{Reply as ReplyTo}
use Rattle.lu_msg.specs.declared.messages.Message.{Message}
use Rattle.lu_msg.specs.declared.messages.Message.TheVariants as message
use Rattle.lu_msg.specs.declared.operations.Op.{Op}
use Rattle.lu_msg.specs.declared.operations.Op.TheVariants as op
use Rattle.lu_spec_entries.specs.Carried.{Deed, Flight}
use Rattle.lu_spec_entries.specs.Words as word
use Rattle.lu_spec_entries.specs.Words.{Line, line, is_target}
use Rattle.lu_spec_entries.specs.Concerns.{only}
use Rattle.lu_spec_client.specs.Caches.{held_as, held_at, with_held}
use Rattle.lu_spec_client.specs.Calls.{life_at}
use Rattle.lu_spec_client.specs.States.{Store}
use Rattle.lu_proof_lawful.specs.Covered.ClientStates.{life_of, brings_cookie, awaits_of}
use Rattle.lu_proof_lawful.specs.Covered.Heads.{Head}
use Rattle.lu_proof_lawful.proofs.Preconditions.Guards.{HoldsOk, GivenOk, EntryOk}
use Rattle.lu_proof_lawful.proofs.Preconditions.Grown.{Grown}
use Rattle.lu_proof_lawful.proofs.Preconditions.Heard.{In, Was, HeardNow, TookNow}
use Rattle.lu_proof_lawful.proofs.Preconditions.Heeds.{store_line}
use Rattle.lu_proof_lawful.proofs.Preconditions.ClientLocks.{with_self}
use Rattle.lu_proof_lawful.proofs.Preconditions.Lists.{self, turn}
use Rattle.lu_proof_lawful.proofs.Preconditions.Only.{sent_was, was_only}
use Rattle.lu_proof_lawful.proofs.Preconditions.Parts.{known_is}
use Rattle.lu_proof_lawful.proofs.Preconditions.StoryGuards.{HeldOk, GivenOf}
use Rattle.lu_proof_lawful.proofs.Invariants.TargetGroups.{Flew, Acted, Gave, HasSlot, Notified}
use Rattle.lu_proof_lawful.proofs.Invariants.Keeps.{heard_flew}
use Rattle.lu_proof_bytes.specs.Object.Words as words
use Rattle.lu_proof_bytes.specs.Object.Words.{Entry, Hold}
use Rattle.lu_proof_bytes.specs.Object.Folds as says
use Rattle.lu_proof_bytes.specs.Object.Guards.{HoldOk, Allowed}
use Rattle.lu_proof_lawful.specs.Projection.Lives.{number_of, is_live}
use Rattle.lu_proof_lawful.specs.Projection.Locks.{lock_of, given}
use Rattle.lu_proof_lawful.specs.Projection.Requests.{among}
use Rattle.lu_proof_lawful.specs.Projection.Stories.{story}
use Rattle.lu_proof_lawful.proofs.Refinement.Covering.{given_line}
use Rattle.lu_proof_lawful.proofs.Refinement.Tied.{Here}
use Rattle.lu_proof_lawful.proofs.Refinement.TiedAsked.{IsOn, BroughtOn, AskedBy}
use Rattle.lu_proof_lawful.proofs.Refinement.MayBase.{tie, life_eq, boot_closed, flown_slot}

-- the reply that a life heard is that of a deed
abbrev AnsweredIn : List Line → Who → Flight → ReplyTo → Type 0
AnsweredIn past who f r =
    (d : Deed) × Acted past d × (r ≡ record d.reply { boot = r.boot; committed = r.committed }) × (r.who ≡ who) × (f.xid ≡ d.reply.xid.0)
    × (f.op ≡ d.op) × (f.tag ≡ d.tag)

-- what a client just took was sent to it
pub took_was : (head : Head) (past : List Line) (at : At) (from : Node) (c : ℕ) (m : Message) → Grown head past → at.node ≡ Client c
    → TookNow past at from m → Was past from (Client c) m
took_was head [] at from c m g node took = absurd took
took_was head (l ∷ past) at from c m g node took = by l.entry g.0.ok took
  where
    by : (e : word.Entry) → EntryOk past l.at l.at.node e → TookNow (line l.at e ∷ past) at from m
        → Was (line l.at e ∷ past) from (Client c) m
    by (word.Take n sender k) ok t =
        let was = sent_was past n sender l.at.node k ok.sent in
        subst (λ (x : Message). Was past from (Client c) x) t.2
        (subst (λ (x : Node). Was past x (Client c) k) t.1 (subst (λ (x : Node). Was past sender x k)
        (ap (λ (a : At). a.node) t.0 ∙ node) was))
    by e ok t = absurd t

module _ (head : Head) (t : ℕ) (r : Resource) (stamp : Stamp) (c : ℕ) (past : List Line) (lock : TableLock) (marked : Bool)
    (size : Option ℕ) (seen : List ℕ)
    (here : Here head t r (line (turn stamp (Client c)) (word.Hold t lock marked size seen)) past) where
  abbrev at : At
  at = turn stamp (Client c)

  abbrev l : Line
  l = line at (word.Hold t lock marked size seen)

  abbrev P : List Line
  P = only t past

  abbrev Q : List Line
  Q = only t (l ∷ past)

  abbrev who : Who
  who = life_at c past

  abbrev h : List Entry
  h = story t r past

  abbrev w : ℕ
  w = number_of who

  pub only_here : Q ≡ l ∷ P
  only_here = ap (λ (b : Bool). if b then l ∷ P else P) (self t)

  pub held_now : held_at c Q ≡ with_held (held_as t lock marked) (held_at c P)
  held_now = ap (held_at c) only_here ∙ ap (λ (s : Store). s.held) (store_line c stamp P (word.Hold t lock marked size seen))

  in_now : In (held_as t lock marked) (held_at c Q)
  in_now = subst (λ (hs : List HeldLock). In (held_as t lock marked) hs) (sym held_now) (with_self (held_as t lock marked) (held_at c P))

  -- the lock was given
  pub gave_now : (d : Deed) × Gave Q d lock
  gave_now = let holding = (here.stood.after.at t).locks.held c (held_as t lock marked) in_now in (holding.deed, holding.gave)

  module _ (live : is_live c past (story t r past) ≡ true) (on : lock.resource ≡ r) where
    a : AskedBy t r past c
    a = tie head t r l past here c live

    life : life_of c P ≡ who
    life = sym (life_eq head t r l past here c live)

    -- it came with what the life was told to wait for
    given_ok : GivenOk past at c t lock marked size seen → GivenOf P c t lock seen → HoldOk h (lock_of lock) (unwrap_or size 0) (among seen)
    given_ok ok of = (subst (λ (n : ℕ). says.awaits n lock.cookie.0 h ≡ true) (sym own) waits, inr give)
      where
        d : AnsweredIn P of.notice.who of.flight of.reply
        d = (here.stood.before.at t).done.answered of.notice.who of.flight of.reply of.heard

        of_op : d.0.op ≡ op.Enqueue lock.resource lock.ask.mode of.extent
        of_op = sym d.5 ∙ of.asked

        of_answer : d.0.reply.answer ≡ answer.Waiting lock.cookie
        of_answer = sym (ap (λ (y : ReplyTo). y.answer) d.2) ∙ of.told

        brings : brings_cookie d.0.op d.0.reply.answer lock.cookie.0 ≡ true
        brings = ap (λ (o : Op). brings_cookie o d.0.reply.answer lock.cookie.0) of_op
            ∙ ap (λ (y : Answer). brings_cookie (op.Enqueue lock.resource lock.ask.mode of.extent) y lock.cookie.0) of_answer
            ∙ self lock.cookie.0

        brought : BroughtOn r P lock.cookie.0
        brought = (d.0, d.1, brings, subst (λ (o : Op). IsOn r o) (sym of_op) (ap Some on))

        waits : says.awaits w lock.cookie.0 h ≡ true
        waits = a.awaits.awaited lock.cookie.0 (subst (λ (v : Who). 0 < awaits_of v lock.cookie.0 P) (of.who ∙ life) of.awaits) brought

        own : (lock_of lock).life ≡ w
        own = ap number_of (of.of_life ∙ of.who ∙ life)

        g : GrantNotice
        g = ok.notice

        was : Was P (Target t) (Client c) (message.Grant g)
        was = was_only t past (Target t) (Client c) (message.Grant g) (self t)
            (took_was head past at (Target t) c (message.Grant g) here.stood.grown refl ok.took)

        cookie : lock.cookie ≡ g.cookie
        cookie = ap (λ (y : TableLock). y.cookie) ok.is ∙ ok.of_cookie

        there : Notified P g
        there = (here.stood.before.at t).locks.notices (Target t) (Client c) g was

        -- the lock that the grant names is this one
        gave : Gave P (there.deed) lock
        gave = subst (λ (y : TableLock). Gave P there.deed y) same there.gave
          where
            same : there.lock ≡ lock
            same = ((here.stood.after.at t).locks.once there.deed gave_now.0 there.lock lock
                (given_line t l past there.deed there.lock there.gave) gave_now.1 (there.is ∙ sym cookie)).1

        stands : given g.cookie.0 h ≡ Some (lock_of lock)
        stands = subst (λ (y : Cookie). given y.0 h ≡ Some (lock_of lock)) cookie (here.tied.target.gives there.deed lock gave on)

        slot : HasSlot head.clients P who
        slot =
            let flew = heard_flew head.osts head.clients P (here.stood.before.at t).done of.notice.who of.flight of.reply of.heard in
            flown_slot head t r l past here c live flew.0 (subst (λ (v : Who). Flew P v flew.0) (of.who ∙ life) flew.1)

        boot : g.boot ≡ says.closed h
        boot =
            boot_closed head t r l past here c live slot g.boot (ok.boot ∙ known_is c t past)
            ((here.stood.before.at t).done.sent (Target t) (Client c) (message.Grant g) was).boot

        give : says.Was h (words.Give (says.closed h) (lock_of lock) (unwrap_or size 0) (among seen))
        give = subst (λ (b : ℕ). says.Was h (words.Give b (lock_of lock) (unwrap_or size 0) (among seen))) boot
            (subst (λ (z : Option ℕ). says.Was h (words.Give g.boot (lock_of lock) (unwrap_or z 0) (among seen))) (sym ok.sized)
            (subst (λ (z : List ℕ). says.Was h (words.Give g.boot (lock_of lock) g.size (among z))) (sym ok.saw)
            (here.tied.object.gives (Target t) (Client c) g (lock_of lock) was stands)))

    pub may_hold : Allowed h (Hold (lock_of lock) (unwrap_or size 0) (among seen))
    may_hold = by here.stood.ok.ok (here.stood.ok.of t (self t))
      where
        by : HoldsOk past at t lock marked size seen ⊎ GivenOk past at c t lock marked size seen
            → ((marked ≡ false) × HeldOk P c t lock seen) ⊎ GivenOf P c t lock seen
            → HoldOk h (lock_of lock) (unwrap_or size 0) (among seen)
        by (inl holds) of = a.locks.owed lock marked size seen holds.next.0 holds.next.1 on
        by (inr ok) (inr of) = given_ok ok of
        by (inr ok) (inl of) = absurd (took_not past ok.took of.1.heard)
          where
            took_not : (p : List Line) → TookNow p at (Target t) (message.Grant ok.notice)
                → HeardNow (only t p) of.1.at t of.1.flight of.1.reply → ⊥
            took_not [] took heard = took
            took_not (x ∷ p) took heard = kind x.at.node x.entry took heard
              where
                kind : (node : Node) (e : word.Entry) → TookNow (line (record x.at { node = node }) e ∷ p) at (Target t)
                    (message.Grant ok.notice) → HeardNow (only t (line (record x.at { node = node }) e ∷ p)) of.1.at t of.1.flight
                    of.1.reply → ⊥
                kind (Client d) (word.Take n from m) k v = sender (is_target t from) (ap (is_target t) k.1 ∙ self t) v
                  where
                    sender : (b : Bool) → b ≡ true → HeardNow (if b then line (record x.at { node = Client d }) (word.Take n from m)
                        ∷ only t p else only t p) of.1.at t of.1.flight of.1.reply → ⊥
                    sender true e v = v
                    sender false e v = absurd (cc)
                kind (Target u) (word.Take n from m) k v = absurd (let q : Target u ≡ Client c = ap (λ (y : At). y.node) k.0 in cc)
                kind node e k v = absurd k
