-- What a live client sends of the object it sends as the theory allows: a request while it is in flight, in the boot that served last; and
-- a lock
-- back once it was dropped, or where it was called back and is neither held nor to come.
use Rattle.std.proofs.Common.{◌≡◌, ℕ, Bool, true, false, List, [], ◌∷◌, Option, Some, None, ◌⊎◌, inl, inr, ⊎_elim, refl, sym, subst, ap}
use Rattle.std.proofs.Common.{◌∙◌, arith}
use Rattle.std.specs.Prelude.{option_map}
use Rattle.std.proofs.lemmas.Bool.{both_ways}
use Rattle.std.proofs.lemmas.Bool.Decides.{nat_tests}
use Rattle.lu_base.specs.declared.ids.Cookie.{Cookie}
use Rattle.lu_base.specs.declared.ids.Node.{Node}
use Rattle.lu_base.specs.declared.ids.Node.TheVariants.{Client, Target}
use Rattle.lu_base.specs.declared.ids.Stamp.{Stamp}
use Rattle.lu_base.specs.declared.ids.Who.{Who}
use Rattle.lu_base.specs.declared.locks.Lock.{Lock as TableLock}
use Rattle.lu_base.specs.declared.locks.Resource.{Resource}
use Rattle.lu_held.specs.declared.locks.HeldLock.{HeldLock}
use Rattle.lu_held.specs.Locks.{is_named}
use Rattle.lu_msg.specs.declared.messages.Message.{Message as TableMessage}
use Rattle.lu_msg.specs.declared.messages.Message.TheVariants as message
use Rattle.lu_msg.specs.declared.messages.Request.{Request as RequestOf}
use Rattle.lu_spec_entries.specs.Carried.{Deed, Flight}
use Rattle.lu_spec_entries.specs.Words as word
use Rattle.lu_spec_entries.specs.Words.{Line, line}
use Rattle.lu_spec_entries.specs.Concerns.{only}
use Rattle.lu_spec_client.specs.Caches.{held_at}
use Rattle.lu_spec_client.specs.Calls.{life_at}
use Rattle.lu_proof_lawful.specs.Covered.ClientStates.{life_of, known_of, is_own, flights_of, awaits_of}
use Rattle.lu_proof_lawful.specs.Covered.Heads.{Head}
use Rattle.lu_proof_lawful.proofs.Preconditions.ClientLocks.{any_false}
use Rattle.lu_proof_lawful.proofs.Preconditions.Guards.{name_of, Dropped}
use Rattle.lu_proof_lawful.proofs.Preconditions.Heard.{In, Was}
use Rattle.lu_proof_lawful.proofs.Preconditions.Held.{held_target}
use Rattle.lu_proof_lawful.proofs.Preconditions.Lists.{self, turn, own_self}
use Rattle.lu_proof_lawful.proofs.Preconditions.StoryGuards.{AskOk, CancelOk, SendOf}
use Rattle.lu_proof_lawful.proofs.Invariants.TargetGroups.{Gone, HasSlot}
use Rattle.lu_proof_bytes.specs.Object.Words as words
use Rattle.lu_proof_bytes.specs.Object.Words.{Lock, Entry, Send}
use Rattle.lu_proof_bytes.specs.Object.Folds.{HeldBy}
use Rattle.lu_proof_bytes.specs.Object.Folds as says
use Rattle.lu_proof_bytes.specs.Object.Guards.{Allowed, SendOk}
use Rattle.lu_proof_lawful.specs.Projection.Lives.{number_of, is_live}
use Rattle.lu_proof_lawful.specs.Projection.Locks.{lock_of, given}
use Rattle.lu_proof_lawful.specs.Projection.Requests.{op_of}
use Rattle.lu_proof_lawful.specs.Projection.Messages.{request_as, by_client}
use Rattle.lu_proof_lawful.specs.Projection.Stories.{story}
use Rattle.lu_proof_lawful.proofs.Refinement.Tied.{Here}
use Rattle.lu_proof_lawful.proofs.Projection.Lookups.{given_was}
use Rattle.lu_proof_lawful.proofs.Refinement.TiedAsked.{AskedBy}
use Rattle.lu_proof_lawful.proofs.Refinement.TiedTarget.{GivenOn}
use Rattle.lu_proof_lawful.proofs.Refinement.TargetDeeds.{on_of}
use Rattle.lu_proof_lawful.proofs.Refinement.AskedHolds.{same_cookie}
use Rattle.lu_proof_lawful.proofs.Refinement.MayBase.{tie, life_eq, mapped, flown_slot, knows_closed}

module _ (head : Head) (t : ℕ) (r : Resource) (stamp : Stamp) (c : ℕ) (past : List Line) (m : TableMessage)
    (here : Here head t r (line (turn stamp (Client c)) (word.Send (Target t) m)) past)
    (live : is_live c past (story t r past) ≡ true) where
  abbrev l : Line
  l = line (turn stamp (Client c)) (word.Send (Target t) m)

  abbrev P : List Line
  P = only t past

  abbrev h : List Entry
  h = story t r past

  abbrev who : Who
  who = life_at c past

  abbrev w : ℕ
  w = number_of (life_at c past)

  a : AskedBy t r past c
  a = tie head t r l past here c live

  life : life_of c P ≡ who
  life = sym (life_eq head t r l past here c live)

  -- ---- a request

  may_ask : (q : RequestOf) → AskOk P c q → (o : words.Op) → op_of r h q.op ≡ Some o
      → Allowed h (Send (words.Ask q.boot (request_as (number_of q.who) q.xid.0 o)))
  may_ask q ok o is = (flies, boot)
    where
      f : Flight
      f = ok.flight

      flying : In ok.flight (flights_of who P)
      flying = subst (λ (v : Who). In ok.flight (flights_of v P)) life ok.flying

      of_op : q.op ≡ ok.flight.op
      of_op = ap (λ (y : RequestOf). y.op) ok.is

      its : q.who ≡ who
      its = ap (λ (y : RequestOf). y.who) ok.is ∙ life

      xid : q.xid.0 ≡ ok.flight.xid
      xid = ap (λ (y : RequestOf). y.xid.0) ok.is

      is_f : op_of r h ok.flight.op ≡ Some o
      is_f = ap (op_of r h) (sym of_op) ∙ is

      flies : says.flight (number_of q.who) h ≡ Some (request_as (number_of q.who) q.xid.0 o)
      flies =
          let flown = a.flights.flies ok.flight flying (on_of r h ok.flight.op o is_f) in
          let same : flown.op ≡ o = (let z : Some flown.op ≡ Some o = sym flown.is ∙ is_f in cc) in
          subst (λ (n : ℕ). says.flight n h ≡ Some (request_as n q.xid.0 o)) (sym (ap number_of its))
          (flown.flies ∙ ap (λ (y : words.Op). Some (request_as w ok.flight.xid y)) same
          ∙ ap (λ (n : ℕ). Some (request_as w n o)) (sym xid))

      slot : HasSlot head.clients P who
      slot = flown_slot head t r l past here c live ok.flight ((here.stood.before.at t).numbers.flying who ok.flight flying)

      boot : q.boot ≡ says.closed h
      boot =
          let known : q.boot ≡ known_of c P = ap (λ (y : RequestOf). y.boot) ok.is in
          let high = knows_closed head t r l past here c live slot in
          let low = (here.stood.before.at t).phase.served c ok.serves in
          let told = here.tied.target.closed in
          omega (arith, known, high, low, told)

  -- ---- a lock

  may_cancel : (v : Who) (boot : ℕ) (cookie : Cookie) → CancelOk P c t v boot cookie → (n : Lock) → given cookie.0 h ≡ Some n
      → Allowed h (Send (words.Cancel boot (number_of v) cookie.0))
  may_cancel v boot cookie ok n is = ⊎_elim dropped called ok.cause
    where
      its : v ≡ who
      its = ok.of_life ∙ life

      tied_given : GivenOn r P n × (n.cookie ≡ cookie.0)
      tied_given = here.tied.target.given cookie.0 n is

      -- a lock of the table that it stands for
      lock : TableLock
      lock = tied_given.0.1

      its_cookie : lock.cookie.0 ≡ cookie.0
      its_cookie = ap (λ (y : Lock). y.cookie) tied_given.0.4 ∙ tied_given.1

      gone_now : (p : List Line) → Dropped p c t cookie → Gone p (life_of c p) cookie
      gone_now [] d = absurd d
      gone_now (x ∷ p) d = kind x.at.node x.entry d
        where
          kind : (node : Node) (e : word.Entry) → Dropped (line (record x.at { node = node }) e ∷ p) c t cookie
              → Gone (line (record x.at { node = node }) e ∷ p) (life_of c (line (record x.at { node = node }) e ∷ p)) cookie
          kind node (word.Drop target k) z = inl (subst (λ (y : Node). is_own (life_of c p) p y ≡ true) (sym z.0) (own_self p c), z.2)
          kind node e z = absurd z

      dropped : Dropped P c t cookie → SendOk h (words.Cancel boot (number_of v) cookie.0)
      dropped d =
          let gone : Gone P who cookie = subst (λ (x : Who). Gone P x cookie) life (gone_now P d) in
          let gone_lock : Gone P who lock.cookie = subst (λ (k : Cookie). Gone P who k) (sym (same_cookie lock.cookie cookie its_cookie))
          gone in
          let was = a.locks.dropped tied_given.0.0 lock tied_given.0.2 tied_given.0.3 gone_lock in
          let back = (here.stood.before.at t).locks.gone who cookie gone in
          let same = ((here.stood.before.at t).locks.once tied_given.0.0 back.deed lock back.lock tied_given.0.2 back.gave
          (same_cookie lock.cookie back.lock.cookie (its_cookie ∙ ap (λ (k : Cookie). k.0) (sym back.is)))).0 in
          let whose = (here.stood.before.at t).locks.whose tied_given.0.0 lock tied_given.0.2 in
          inl (lock_of lock, was, ap number_of (whose ∙ ap (λ (x : Deed). x.reply.who) same ∙ back.of ∙ sym its), its_cookie)

      not_here : (x : HeldLock) → In x (held_at c P) → x.lock.cookie.0 ≡ cookie.0 → ⊥
      not_here x i z =
          let at = held_target c t past x i in
          let none = any_false (is_named (name_of t cookie)) (held_at c P) ok.free x i in
          let named : is_named (name_of t cookie) x ≡ true = grind (arith, nat_tests, at, z) in
          both_ways (is_named (name_of t cookie) x) none named

      called : (flights_of (life_of c P) P ≡ []) × (awaits_of (life_of c P) cookie.0 P ≡ 0)
          × ((from b : ℕ) × Was P (Target from) (Client c) (message.Block v b cookie)) → SendOk h (words.Cancel boot (number_of v) cookie.0)
      called z = inr (
        (z.2.1, here.tied.object.blocks (Target z.2.0) (Client c) v z.2.1 cookie n z.2.2 is),
        ap (λ (x : Who). says.flight (number_of x) h) its ∙ a.flights.idle
            (λ f i on. subst (λ (fs : List Flight). In f fs) (ap (λ (x : Who). flights_of x P) (sym life) ∙ z.0) i),
        ap (λ (x : Who). says.awaits (number_of x) cookie.0 h) its ∙ waits (says.awaits w cookie.0 h) refl,
        unheld,
      )
        where
          waits : (b : Bool) → says.awaits w cookie.0 h ≡ b → says.awaits w cookie.0 h ≡ false
          waits false y = y
          waits true y = absurd (let low = (a.awaits.awaits cookie.0 y).0 in let none : awaits_of who cookie.0 P ≡ 0 =
              ap (λ (x : Who). awaits_of x cookie.0 P) (sym life) ∙ z.1 in omega (arith, low, none))

          unheld : (k : Lock) → HeldBy h k → k.cookie ≡ cookie.0 → ⊥
          unheld k i y =
              let back = (here.stood.before.at t).locks.blocks (Target z.2.0) c v z.2.1 cookie z.2.2 in
              let same = ((here.stood.before.at t).locks.once tied_given.0.0 back.deed lock back.lock tied_given.0.2 back.gave
              (same_cookie lock.cookie back.lock.cookie (its_cookie ∙ ap (λ (j : Cookie). j.0) (sym back.is)))).0 in
              let whose = (here.stood.before.at t).locks.whose tied_given.0.0 lock tied_given.0.2 in
              let owner : number_of lock.ask.who ≡ w = ap number_of (whose ∙ ap (λ (x : Deed). x.reply.who) same ∙ back.of ∙ its) in
              let one : k ≡ n = here.world.locks.unique k n (here.world.numbers.held k i) (given_was cookie.0 h n is).0
              (y ∙ sym tied_given.1) in
              let mine : k.life ≡ w = ap (λ (j : Lock). j.life) (one ∙ sym tied_given.0.4) ∙ owner in
              let x = a.locks.held k i mine in
              not_here x.0 x.1 (ap (λ (j : Lock). j.cookie) x.3 ∙ y)

  -- ---- any message

  pub may_send : (x : Entry) → option_map Send (by_client r h m) ≡ Some x → Allowed h x
  may_send x e = by m refl e
    where
      by : (k : TableMessage) → m ≡ k → option_map Send (by_client r h k) ≡ Some x → Allowed h x
      by (message.Request q) is some =
          let s = mapped (λ (y : words.Message). Send y) (by_client r h (message.Request q)) x some in
          let o = asked (op_of r h q.op) refl s.1 in
          subst (Allowed h) (ap (λ (y : words.Message). Send y) o.1 ∙ s.2)
          (may_ask q (subst (λ (k : TableMessage). SendOf head P (Client c) (Target t) k) is (here.stood.ok.of t (self t))) o.0 o.2)
        where
          asked : (z : Option words.Op) → op_of r h q.op ≡ z → {y : words.Message}
              → option_map (λ o. words.Ask q.boot (request_as (number_of q.who) q.xid.0 o)) z ≡ Some y
              → (o : words.Op) × (words.Ask q.boot (request_as (number_of q.who) q.xid.0 o) ≡ y) × (op_of r h q.op ≡ Some o)
          asked None f g = absurd (cc)
          asked (Some o) f g = (o, cc, f)
      by (message.Cancel v boot cookie) is some =
          let s = mapped (λ (y : words.Message). Send y) (by_client r h (message.Cancel v boot cookie)) x some in
          let n = stands (given cookie.0 h) refl s.1 in
          subst (Allowed h) (ap (λ (y : words.Message). Send y) n.1 ∙ s.2)
          (may_cancel v boot cookie (subst (λ (k : TableMessage). SendOf head P (Client c) (Target t) k) is
          (here.stood.ok.of t (self t))) n.0 n.2)
        where
          stands : (z : Option Lock) → given cookie.0 h ≡ z → {y : words.Message}
              → option_map (λ l. words.Cancel boot (number_of v) cookie.0) z ≡ Some y → (n : Lock)
              × (words.Cancel boot (number_of v) cookie.0 ≡ y) × (given cookie.0 h ≡ Some n)
          stands None f g = absurd (cc)
          stands (Some n) f g = (n, cc, f)
      by _ is some = absurd (cc)
