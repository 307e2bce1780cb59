-- What is said of locks at one target: a lock that is called back, or whose grant is told, was given to that life; one that a client gives
-- back is
-- dead; and one that a life tells to a target that recovers is granted there.
use Rattle.std.proofs.Common.{◌≡◌, ℕ, ◌≤◌, true, List, [], ◌∷◌, inl, inr, ⊎_elim, refl, sym, subst, ap, ◌∙◌, ◌⊎◌, arith}
use Rattle.lu_base.specs.declared.ids.At.{At}
use Rattle.lu_base.specs.declared.ids.Cookie.{Cookie}
use Rattle.lu_base.specs.declared.ids.Node.{Node}
use Rattle.lu_base.specs.declared.ids.Node.TheVariants.{Client, Target}
use Rattle.lu_base.specs.declared.ids.Stamp.{Stamp}
use Rattle.lu_base.specs.declared.ids.Who.{Who}
use Rattle.lu_base.specs.declared.locks.Lock.{Lock}
use Rattle.lu_msg.specs.declared.messages.GrantNotice.{GrantNotice}
use Rattle.lu_msg.specs.declared.messages.LockReplay.{LockReplay}
use Rattle.lu_msg.specs.declared.messages.Message.{Message}
use Rattle.lu_msg.specs.declared.messages.Message.TheVariants as message
use Rattle.lu_spec_entries.specs.Carried.{Flight}
use Rattle.lu_spec_entries.specs.Words.{Entry, Send, Drop, Restore, Line, line}
use Rattle.lu_spec_target.specs.Rows.{lock_again}
use Rattle.lu_spec_client.specs.Caches.{held_at}
use Rattle.lu_spec_client.specs.Recovery.{lock_replayed}
use Rattle.lu_proof_lawful.specs.Covered.TargetStates.{server_of, shown_of}
use Rattle.lu_proof_lawful.specs.Covered.TargetCloses.{but_first, closing_of}
use Rattle.lu_proof_lawful.specs.Covered.ClientStates.{flights_of, life_of, is_own, awaits_of}
use Rattle.lu_proof_lawful.specs.Covered.Heads.{Head}
use Rattle.lu_proof_lawful.proofs.Preconditions.Guards.{In, Was, Dropped}
use Rattle.lu_proof_lawful.proofs.Preconditions.StoryGuards.{CancelOk, CallsOk, GivesOk, RelocksOk, IsRecovering, SendOf}
use Rattle.lu_proof_lawful.proofs.Preconditions.Lists.{own_self}
use Rattle.lu_proof_lawful.proofs.Preconditions.Grown.{ShowsNext}
use Rattle.lu_proof_lawful.proofs.Invariants.Groups.{turn, HoldsAt}
use Rattle.lu_proof_lawful.proofs.Invariants.TargetGroups.{HasSlot, Hears, NoneOf, hopes_of, Evicted, Holding, Called, Gone, GivenBack}
use Rattle.lu_proof_lawful.proofs.Invariants.TargetGroups.{Notified, Locks}
use Rattle.lu_proof_lawful.proofs.Invariants.Hopes.{awaits_hopes}
use Rattle.lu_proof_lawful.proofs.Invariants.LockLists.{none_of, kept_same}
use Rattle.lu_proof_lawful.proofs.Invariants.LocksStay.{Grows, called_more, given_more, notified_more, still_closing, Stays, Says}
use Rattle.lu_proof_lawful.proofs.Invariants.LocksStay.{locks_stay, client_stays}

-- ---- a lock is called back, or given back

dropped_gone : (past : List Line) (c t : ℕ) (cookie : Cookie) → Dropped past c t cookie → Gone past (life_of c past) cookie
dropped_gone [] c t cookie d = absurd d
dropped_gone (l ∷ past) c t cookie d = by l.entry d
  where
    by : (e : Entry) → Dropped (line l.at e ∷ past) c t cookie → Gone (line l.at e ∷ past) (life_of c (line l.at e ∷ past)) cookie
    by (Drop target lock) d = inl (subst (λ (v : Node). is_own (life_of c past) past v ≡ true) (sym d.0) (own_self past c), d.2)
    by _ d = absurd d

call_sent : (osts clients : ℕ) (past : List Line) (c : ℕ) (who : Who) (boot : ℕ) (cookie : Cookie) → CallsOk osts past c who boot cookie
    → Locks osts clients past → Called past c who cookie
call_sent osts clients past c who boot cookie ok h =
    let r = h.granted ok.lock ok.granted in
    let of : r.0.reply.who ≡ who = sym (h.whose r.0 ok.lock r.1) ∙ sym ok.of_life in
    record {
      deed = r.0;
      lock = ok.lock;
      gave = r.1;
      is = sym ok.of_cookie;
      of = of;
      to = sym ok.to;
    }

back_sent : (head : Head) (past : List Line) (c t : ℕ) (who : Who) (boot : ℕ) (cookie : Cookie) → CancelOk past c t who boot cookie
    → HoldsAt head past → GivenBack past who cookie
back_sent head past c t who boot cookie ok all =
    ⊎_elim
    (λ (d : Dropped past c t cookie). subst (λ (w : Who). GivenBack past w cookie) (sym ok.of_life)
    (all.locks.gone (life_of c past) cookie (dropped_gone past c t cookie d)))
    (λ (b : (flights_of (life_of c past) past ≡ []) × (awaits_of (life_of c past) cookie.0 past ≡ 0)
    × ((from b : ℕ) × Was past (Target from) (Client c) (message.Block who b cookie))).
    called b.0 b.1 (all.locks.blocks (Target b.2.0) c who b.2.1 cookie b.2.2))
    ok.cause
  where
    -- with no request in flight its reply was heard
    called : flights_of (life_of c past) past ≡ [] → awaits_of (life_of c past) cookie.0 past ≡ 0 → Called past c who cookie
        → GivenBack past who cookie
    called quiet none b =
        let f = all.done.flew b.deed b.gave.0 in
        let client : b.deed.reply.who.client ≡ c = ap (λ (w : Who). w.client) b.of ∙ b.to in
        let x : f.0.xid ≡ b.deed.reply.xid.0 = f.2 in
        let own : b.deed.reply.who ≡ life_of c past = b.of ∙ ok.of_life in
        record {
          deed = b.deed;
          lock = b.lock;
          gave = b.gave;
          is = b.is;
          of = b.of;
          dead = (
            subst (λ v. Hears past b.deed.reply.who v) x
                (⊎_elim
                (λ (i : In f.0 (flights_of b.deed.reply.who past)). absurd
                (subst (λ (fs : List Flight). In f.0 fs) quiet (subst (λ (w : Who). In f.0 (flights_of w past)) own i)))
                (λ (y : Hears past b.deed.reply.who f.0.xid). y)
                (all.numbers.stays b.deed.reply.who f.0 f.1)),
            subst (λ (v : Cookie). NoneOf v (held_at b.deed.reply.who.client past)) (sym b.is)
                (subst (λ v. NoneOf cookie (held_at v past)) (sym client) (none_of t cookie (held_at c past) ok.there ok.free)),
            ap (λ (w : Who). hopes_of w b.lock.cookie.0 past) own ∙ ap (λ (v : Cookie). hopes_of (life_of c past) v.0 past) b.is
                ∙ awaits_hopes past (life_of c past) cookie.0 none,
          );
        }

-- ---- the grant of a lock is told

give_sent : (osts clients : ℕ) (past : List Line) (t c : ℕ) (g : GrantNotice) → GivesOk osts past t c g → Locks osts clients past
    → Notified past g
give_sent osts clients past t c g ok h =
    let r = h.granted ok.lock ok.granted in
    record {
      deed = r.0;
      lock = ok.lock;
      gave = r.1;
      is = ap (λ (n : GrantNotice). n.cookie) (sym ok.is);
      of = sym (h.whose r.0 ok.lock r.1) ∙ ap (λ (n : GrantNotice). n.who) (sym ok.is);
      extent = ap (λ (n : GrantNotice). n.extent) (sym ok.is);
    }

-- ---- a lock is told to a target that recovers

-- it is granted there, where that is said of it
abbrev pub Regranted : (osts clients : ℕ) → List Line → LockReplay → Type 0
Regranted osts clients past r = IsRecovering osts past → (server_of osts past).boot ≤ r.boot → HasSlot clients past r.who
    → In (lock_again r) (server_of osts past).granted

relock_sent : (head : Head) (past : List Line) (c : ℕ) (r : LockReplay) → RelocksOk past c r → HoldsAt head past
    → Regranted head.osts head.clients past r
relock_sent head past c r ok all recovers low has =
    subst (λ (l : Lock). In l (server_of head.osts past).granted) (sym (ap lock_again ok.is ∙ again ok.holding.lock r.who r.boot own))
    (⊎_elim (λ (i : In ok.holding.lock (server_of head.osts past).granted). i)
    (λ (e : Evicted past (life_of c past)). absurd (let lt = all.lives.apart r.who (life_of c past) has e
    (ap (λ (w : Who). w.client) ok.tells.of_life) in let same : r.who.life ≡ (life_of c past).life =
    ap (λ (w : Who). w.life) ok.tells.of_life in omega (arith, lt, same)))
    holding.granted)
  where
    again : (l : Lock) (who : Who) (boot : ℕ) → l.ask.who ≡ who → lock_again (lock_replayed who boot l) ≡ l
    again l who boot e = subst (λ (w : Who). lock_again (lock_replayed w boot l) ≡ l) e refl

    holding : Holding head.osts past c ok.holding
    holding = all.locks.held c ok.holding ok.held

    own : ok.holding.lock.ask.who ≡ r.who
    own = all.locks.whose holding.deed ok.holding.lock holding.gave ∙ holding.who ∙ sym ok.tells.of_life

-- ---- what one message says of locks

abbrev pub SaidOf : (osts clients : ℕ) → List Line → Node → Message → Type 0
SaidOf osts clients past (Client c) (message.Block who boot cookie) = Called past c who cookie
SaidOf osts clients past to (message.Cancel who boot cookie) = GivenBack past who cookie
SaidOf osts clients past to (message.Grant g) = Notified past g
SaidOf osts clients past to (message.Lock r) = Regranted osts clients past r
SaidOf osts clients past to _ = Unit {0}

pub sent_said : (head : Head) (past : List Line) (node to : Node) (m : Message) → SendOf head past node to m → HoldsAt head past
    → SaidOf head.osts head.clients past to m
sent_said head past (Client c) (Target t) (message.Request r) ok h = tt
sent_said head past (Client c) (Target t) (message.Cancel who boot cookie) ok h = back_sent head past c t who boot cookie ok h
sent_said head past (Client c) (Target t) (message.Join who boot) ok h = tt
sent_said head past (Client c) (Target t) (message.Where who boot cookie) ok h = tt
sent_said head past (Client c) (Target t) (message.Size s) ok h = tt
sent_said head past (Target t) (Client c) (message.Reply r) ok h = tt
sent_said head past (Target t) (Client c) (message.Block who boot cookie) ok h =
    call_sent head.osts head.clients past c who boot cookie ok h.locks
sent_said head past (Target t) (Client c) (message.Grant g) ok h = give_sent head.osts head.clients past t c g ok h.locks
sent_said head past (Target t) (Client c) (message.Ask who boot cookie for_who xid) ok h = tt
sent_said head past (Target t) (Client c) (message.Ready who boot committed) ok h = tt
sent_said head past (Target t) (Client c) (message.Evicted who boot) ok h = tt
sent_said head past (Client c) (Target t) (message.Replay r) ok h = tt
sent_said head past (Client c) (Target t) (message.Lock r) ok h = relock_sent head past c r ok h
sent_said head past (Client c) (Target t) (message.Word who boot replays locks seen) ok h = tt
sent_said head past (Target t) (Client c) (message.Up boot) ok h = tt
sent_said head past node to m ok h = absurd ok

module _ (osts clients : ℕ) (past : List Line) (at : At) (to : Node) (m : Message) (said : SaidOf osts clients past to m)
    (h : Locks osts clients past) where
  abbrev sending : List Line
  sending = line at (Send to m) ∷ past

  send_grows : Grows past sending
  send_grows = record { acted = λ d a. a; promoted = λ l p. p; hears = λ d x a. a; heard = λ d f r a. a }

  abbrev SentAs : Node → Node → Message → Type 0
  SentAs from node n = (at.node ≡ from) × (to ≡ node) × (m ≡ n)

  -- that message says so
  says_so : (from node : Node) (n : Message) → SentAs from node n → SaidOf osts clients past node n
  says_so from node n e = subst (λ (v : Message). SaidOf osts clients past node v) e.2
      (subst (λ (v : Node). SaidOf osts clients past v m) e.1 said)

  says_more : (IsRecovering osts sending → IsRecovering osts past) → ((server_of osts sending).boot ≡ (server_of osts past).boot)
      → ((who : Who) → HasSlot clients sending who → HasSlot clients past who)
      → ((l : Lock) → In l (server_of osts past).granted → In l (server_of osts sending).granted) → Says osts clients sending
  says_more off boot slot on =
      record {
        blocks = λ from c who boot cookie. ⊎_elim
            (λ (e : SentAs from (Client c) (message.Block who boot cookie)). called_more past sending send_grows c who cookie
            (says_so from (Client c) (message.Block who boot cookie) e))
            (λ (w : Was past from (Client c) (message.Block who boot cookie)). called_more past sending send_grows c who cookie
            (h.blocks from c who boot cookie w));
        cancels = λ from node who boot cookie. ⊎_elim
            (λ (e : SentAs from node (message.Cancel who boot cookie)). given_more past sending send_grows (λ d l g x. x) who cookie
            (back node who boot cookie (says_so from node (message.Cancel who boot cookie) e)))
            (λ (w : Was past from node (message.Cancel who boot cookie)). given_more past sending send_grows (λ d l g x. x) who cookie
            (h.cancels from node who boot cookie w));
        gone = λ who cookie w. given_more past sending send_grows (λ d l g x. x) who cookie (h.gone who cookie w);
        notices = λ from node g. ⊎_elim
            (λ (e : SentAs from node (message.Grant g)). notified_more past sending send_grows g
            (told node g (says_so from node (message.Grant g) e)))
            (λ (w : Was past from node (message.Grant g)). notified_more past sending send_grows g (h.notices from node g w));
        relocks = λ from node r. ⊎_elim
            (λ (e : SentAs from node (message.Lock r)). λ v le has. let low : (server_of osts past).boot ≤ r.boot = omega (arith, boot, le)
            in on (lock_again r) (again node r (says_so from node (message.Lock r) e) (off v) low (slot r.who has)))
            (λ (w : Was past from node (message.Lock r)). λ v le has. let low : (server_of osts past).boot ≤ r.boot =
            omega (arith, boot, le) in on (lock_again r) (h.relocks from node r w (off v) low (slot r.who has)));
      }
    where
      back : (node : Node) (who : Who) (boot : ℕ) (cookie : Cookie) → SaidOf osts clients past node (message.Cancel who boot cookie)
          → GivenBack past who cookie
      back (Client c) who boot cookie b = b
      back (Target t) who boot cookie b = b

      told : (node : Node) (g : GrantNotice) → SaidOf osts clients past node (message.Grant g) → Notified past g
      told (Client c) g b = b
      told (Target t) g b = b

      again : (node : Node) (r : LockReplay) → SaidOf osts clients past node (message.Lock r) → Regranted osts clients past r
      again (Client c) r b = b
      again (Target t) r b = b

pub send_stays : (head : Head) (past : List Line) (stamp : Stamp) (node to : Node) (m : Message)
    → ShowsNext head past (turn stamp node) (Send to m) → ((c : ℕ) → (life_of c past).client ≡ c) → Locks head.osts head.clients past
    → Stays head.osts head.clients past (line (turn stamp node) (Send to m) ∷ past)
send_stays head past stamp (Client c) to m shows client h =
    client_stays head.osts head.clients past stamp c (Send to m) client h
    (record { acted = λ d a. a; promoted = λ l p. p; hears = λ d x a. a; heard = λ d f r a. a }) (λ d a. a) (λ l p. p)
    (λ d. omega arith)
    (λ d k i. inl (kept_same (held_at d past) k i, refl)) (λ d l g x e. e) h.single h.awaits
send_stays head past stamp (Target t) to m shows client h =
    record {
      grows = record { acted = λ d a. a; promoted = λ l p. p; hears = λ d x a. a; heard = λ d f r a. a };
      acted = λ d k a n. a;
      promoted = λ l p. p;
      greatest = h.greatest;
      low = h.low;
      less = λ l i. i;
      lost = λ d l g i. inl i;
      shown = λ v u l i. shown_still l (h.shown v u l i);
      queued = λ l i. i;
      slots = λ l i has. has;
      closed = λ l i. refl;
      known = λ c. omega arith;
      evicted = λ who i. i;
      kept = λ d k i. inl (kept_same (held_at d past) k i, refl);
      hopes = λ d l g x e. e;
      single = h.single;
      awaits = h.awaits;
      brought = h.brought;
    }
  where
    shown_still : (l : Lock) → In l (shown_of past) ⊎ In (Restore l) (closing_of head.clients past) → In l (shown_of past)
        ⊎ In (Restore l) (but_first (closing_of head.clients past))
    shown_still l = ⊎_elim (λ (i : In l (shown_of past)). inl i)
        (λ (i : In (Restore l) (closing_of head.clients past)). inr
        (still_closing head past (turn stamp (Target t)) (Send to m) shows l (λ q. absurd (cc)) i))

pub locks_send : (head : Head) (past : List Line) (stamp : Stamp) (node to : Node) (m : Message)
    → ShowsNext head past (turn stamp node) (Send to m) → SaidOf head.osts head.clients past to m → ((c : ℕ) → (life_of c past).client ≡ c)
    → Locks head.osts head.clients past
    → Locks head.osts head.clients (line (turn stamp node) (Send to m) ∷ past)
locks_send head past stamp (Client c) to m shows said client h =
    locks_stay head.osts head.clients past (line (turn stamp (Client c)) (Send to m) ∷ past)
    (send_stays head past stamp (Client c) to m shows client h) client h
    (says_more head.osts head.clients past (turn stamp (Client c)) to m said h (λ v. v) refl (λ who i. i) (λ l i. i))
locks_send head past stamp (Target t) to m shows said client h =
    locks_stay head.osts head.clients past (line (turn stamp (Target t)) (Send to m) ∷ past)
    (send_stays head past stamp (Target t) to m shows client h) client h
    (says_more head.osts head.clients past (turn stamp (Target t)) to m said h (λ v. v) refl (λ who i. i) (λ l i. i))
