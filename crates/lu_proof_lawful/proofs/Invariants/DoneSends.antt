-- What was done and said, as a client asks more, a message goes out, or a reply is heard.
use Rattle.std.proofs.Common.{◌≡◌, ℕ, ◌<◌, ◌≤◌, true, false, List, ◌∷◌, ◌⊎◌, inl, inr, ⊎_elim, refl, sym, subst, ap, ◌∙◌, arith}
use Rattle.lu_base.specs.declared.ids.At.{At}
use Rattle.lu_base.specs.declared.ids.Cookie.{Cookie}
use Rattle.lu_base.specs.declared.ids.Node.{Node}
use Rattle.lu_base.specs.declared.ids.Node.TheVariants.{Client, Target}
use Rattle.lu_base.specs.declared.ids.Stamp.{Stamp}
use Rattle.lu_base.specs.declared.ids.Txn.{Txn as TxnOf}
use Rattle.lu_base.specs.declared.ids.Who.{Who}
use Rattle.lu_base.specs.declared.ids.Xid.{Xid}
use Rattle.lu_msg.specs.declared.messages.GrantNotice.{GrantNotice}
use Rattle.lu_msg.specs.declared.messages.Message.{Message}
use Rattle.lu_msg.specs.declared.messages.Message.TheVariants as message
use Rattle.lu_msg.specs.declared.messages.Reply.{Reply as ReplyTo}
use Rattle.lu_msg.specs.declared.messages.Request.{Request as RequestOf}
use Rattle.lu_part.specs.declared.parts.Part.{Part}
use Rattle.lu_spec_machine.specs.Objects.{range}
use Rattle.lu_spec_entries.specs.Carried.{Deed, Flight}
use Rattle.lu_spec_entries.specs.Words.{Flies, Heard, Send, Life, Line, line}
use Rattle.lu_spec_target.specs.Queues.{extent_of}
use Rattle.lu_proof_lawful.specs.Covered.TargetStates.{Server, server_of, closed_of, seen_in}
use Rattle.lu_proof_lawful.specs.Covered.TargetCloses.{is_lost}
use Rattle.lu_proof_lawful.specs.Covered.Deeds.{again}
use Rattle.lu_proof_lawful.specs.Covered.ClientStates.{known_of, life_of, is_own}
use Rattle.lu_proof_lawful.specs.Covered.Heads.{Head}
use Rattle.lu_proof_lawful.proofs.Preconditions.Guards.{In, Was, Did}
use Rattle.lu_proof_lawful.proofs.Preconditions.StoryGuards.{AskOk, AsksAgain, ReplyOk, HeardOk, LifeOf, SendOf}
use Rattle.lu_proof_lawful.proofs.Preconditions.ObjectGuards.{AskHolderOk, GivesOk}
use Rattle.lu_proof_lawful.proofs.Preconditions.Lists.{own_is}
use Rattle.lu_proof_lawful.proofs.Invariants.Groups.{turn, HeardAs, History, HoldsAt}
use Rattle.lu_proof_lawful.proofs.Invariants.TargetGroups.{Flew, Acted, Hears, HasSlot, Phase, Numbers, life_request, DoneFor, CountsFor}
use Rattle.lu_proof_lawful.proofs.Invariants.TargetGroups.{IsAsking, RepliesTo, FlewAs, Notifies, Meant, Counts, Rebuilt, IsMade, Stands}
use Rattle.lu_proof_lawful.proofs.Invariants.TargetGroups.{Done}
use Rattle.lu_proof_lawful.proofs.Invariants.Phase.{life_rises}
use Rattle.lu_proof_lawful.proofs.Invariants.DoneGrows.{Grows, asking_more, meant_more, rebuilt_more, kept_more, did_newest, did_acted}
use Rattle.lu_proof_lawful.proofs.Invariants.ItemLists.{seen_in_log}

-- ---- one more in flight

module _ (osts clients : ℕ) (past : List Line) (stamp : Stamp) (c t : ℕ) (f : Flight) (h : Done osts clients past) where
  abbrev flying : List Line
  flying = line (turn stamp (Client c)) (Flies t f) ∷ past

  flies_grows : Grows osts past flying
  flies_grows = record {
    flew = λ w k i. inr i;
    acted = λ d a. a;
    lives = λ e. omega arith;
    closed = omega arith;
    committed = omega arith;
    counts = λ b low le d k. k;
    stays = λ le n e. e;
  }

  pub done_flies : Done osts clients flying
  done_flies =
      record {
        flew = λ d a. let k = h.flew d a in (k.0, inr k.1, k.2, k.3, k.4);
        boots = h.boots;
        numbers = h.numbers;
        bare = h.bare;
        plain = h.plain;
        high = h.high;
        kept = h.kept;
        slots = h.slots;
        heard = h.heard;
        newest = h.newest;
        known = h.known;
        answered = h.answered;
        waits = λ r i. let w = h.waits r i in record {
          was = w.was;
          asks = asking_more osts past flying flies_grows r w.asks;
          current =
              w.current;
          has = w.has;
          taken = w.taken;
          new = w.new;
        };
        glimpses = λ g i. asking_more osts past flying flies_grows g.request (h.glimpses g i);
        sent = λ from to m s. meant_more osts past flying flies_grows to m (h.sent from to m s);
        once = h.once;
        alone = h.alone;
        rises = h.rises;
        single = h.single;
      }

-- ---- a new life

pub done_life : (osts clients : ℕ) (past : List Line) (stamp : Stamp) (c : ℕ) (new : Who) → LifeOf past c new → Done osts clients past
    → Done osts clients (line (turn stamp (Client c)) (Life new) ∷ past)
done_life osts clients past stamp c new ok h =
    record {
      flew = h.flew;
      boots = h.boots;
      numbers = h.numbers;
      bare = h.bare;
      plain = h.plain;
      high = h.high;
      kept = h.kept;
      slots = h.slots;
      heard = h.heard;
      newest = h.newest;
      known = h.known;
      answered = h.answered;
      waits = h.waits;
      glimpses = h.glimpses;
      sent = λ from to m s. meant_more osts past (line (turn stamp (Client c)) (Life new) ∷ past)
          (record {
            flew = λ w f i. i;
            acted = λ d a. a;
            lives = life_rises past stamp c new ok;
            closed = omega arith;
            committed =
                omega arith;
            counts = λ b low le d k. k;
            stays = λ le n e. e;
          }) to m (h.sent from to m s);
      once = h.once;
      alone = h.alone;
      rises = h.rises;
      single = h.single;
    }

-- ---- what a message says

asked_meant : (past : List Line) (osts c t : ℕ) (r : RequestOf) → AskOk past c r → Phase osts past → Numbers past → IsAsking past r
asked_meant past osts c t r ok p n =
    let who : r.who ≡ life_of c past = ap (λ (v : RequestOf). v.who) ok.is in
    let boot : r.boot ≡ known_of c past = ap (λ (v : RequestOf). v.boot) ok.is in
    let low = p.served c ok.serves in (
      ok.flight,
      subst (λ v. Flew past v ok.flight) (sym who) (n.flying (life_of c past) ok.flight ok.flying),
      ok.is ∙ is (life_of c past) r.who (known_of c past) r.boot (sym who) (sym boot),
      omega arith,
    )
  where
    is : (mine who : Who) (known boot : ℕ) → mine ≡ who → known ≡ boot
        → record { who = mine; boot = known; xid = record { 0 = ok.flight.xid }; tag = ok.flight.tag; op = ok.flight.op }
        ≡ life_request who boot ok.flight
    is mine who known boot w b = rw (w, b) refl

-- a reply to what counts, or to what was just done
again_is : (k q : ReplyTo) (v : Server) → k ≡ again v q → k ≡ record q { boot = k.boot; committed = k.committed }
again_is k q v e = subst (λ (x : ReplyTo). x ≡ record q { boot = x.boot; committed = x.committed }) (sym e) refl

module _ (head : Head) (past : List Line) (t c : ℕ) (k : ReplyTo) (ok : ReplyOk head past t c k)
    (h : Done head.osts head.clients past) where
  replies_to : (d : Deed) → Acted past d → d.reply ≡ ok.kept → Counts head.osts past d → RepliesTo head.osts past c k
  replies_to d a same counts =
      let v : Server = server_of head.osts past in
      let e : k ≡ again v d.reply = ok.is ∙ ap (again v) (sym same) in
      let boot : k.boot ≡ v.boot = ap (λ (x : ReplyTo). x.boot) e in
      let committed : k.committed.0 ≡ v.committed.0 = ap (λ (x : ReplyTo). x.committed.0) e in
      let closed : closed_of past ≡ v.boot = ok.serves.closed in
      record {
        deed = d;
        acted = a;
        is = again_is k d.reply v e;
        to = ok.to;
        boot = omega (arith, boot, closed);
        committed = omega (arith, committed);
        own = ⊎_elim
            (λ (b : d.reply.boot ≡ closed_of past). inl (boot ∙ sym closed ∙ sym b))
            (λ (m : IsMade d × Stands head.osts past d). inr m.0)
            counts;
        counts = λ le. counts;
      }

  -- what a close made anew isn't asked for
  rebuilt_to : Rebuilt past ok.who ok.kept → ((d : Deed) × Did past d × (d.reply ≡ ok.kept)) ⊎ AsksAgain head past t ok.who ok.tag
      → RepliesTo head.osts past c k
  rebuilt_to r (inl g) =
      replies_to g.0 (did_acted past g.0 g.1) g.2 (inl (h.newest g.0 (did_newest past g.0 g.1)))
  rebuilt_to r (inr g) =
      let s = (h.slots ok.who ok.tag ok.kept ok.slot).1 in
      let same : g.request.xid.0 ≡ ok.kept.xid.0 = sym (s ∙ g.same) in
      let lt = r.1 (Client g.from) t g.request g.was g.of_life (ap number same) in
      let closed = ok.serves.closed in
      let current = g.current in
      absurd (omega arith)
    where
      number : ℕ → Xid
      number n = record { 0 = n }

  reply_meant : RepliesTo head.osts past c k
  reply_meant =
      ⊎_elim
      (λ (g : (d : Deed) × Acted past d × (d.reply ≡ ok.kept) × (d.tag ≡ ok.tag) × Counts head.osts past d). replies_to g.0 g.1 g.2 g.4)
      (λ (r : Rebuilt past ok.who ok.kept). rebuilt_to r ok.cause)
      (h.kept ok.who ok.tag ok.kept ok.slot)

-- what was seen in the log was done and stands
pub log_seen : (osts clients : ℕ) (past : List Line) → History osts clients past → (ps : List Part) (n : ℕ)
    → In n (seen_in ps (server_of osts past).log) → (e : Deed) × Acted past e × IsMade e × (e.reply.txn.0 ≡ n)
    × (is_lost osts past n ≡ false)
log_seen osts clients past h ps n i =
    let e = seen_in_log ps (server_of osts past).log n i in
    let k = h.log e.0 e.1 in
    (e.0, k.0, k.1, e.2, subst (λ (m : ℕ). is_lost osts past m ≡ false) e.2 k.2)

-- who is told of a lock that had waited sees what the log has in its range
gives_meant : (head : Head) (past : List Line) (t c : ℕ) (g : GrantNotice) → GivesOk head.osts past t c g
    → History head.osts head.clients past → Notifies head.osts past c g
gives_meant head past t c g ok h =
    let v = server_of head.osts past in
    let closed = ok.serves.closed in
    let parts = range ok.lock.resource (extent_of ok.lock).first (extent_of ok.lock).last in
    subst (λ (m : GrantNotice). Notifies head.osts past c m) (sym ok.is)
    (record {
      to = ok.to;
      boot = omega arith;
      committed = omega arith;
      saw = λ n i. let k = log_seen head.osts head.clients past h parts n i in inr (k.0, k.1, k.2, k.3);
      fresh = λ le n i. (log_seen head.osts head.clients past h parts n i).4;
    })

-- who is asked of a lock has asked for it, and the request for which it is asked flew
asks_meant : (head : Head) (past : List Line) (c : ℕ) (who : Who) (boot : ℕ) (cookie : Cookie) (for_who : Who) (xid : Xid)
    → AskHolderOk head.osts past c who boot cookie for_who xid → HoldsAt head past
    → (c ≡ who.client) × ((f : Flight) × Flew past who f) × FlewAs past for_who xid.0
asks_meant head past c who boot cookie for_who xid ok h =
    let g = h.locks.granted ok.lock ok.granted in
    let f = h.done.flew g.0 g.1.0 in
    let a = h.done.glimpses ok.glimpse ok.waits in (
      ok.to,
      (f.0, subst (λ (w : Who). Flew past w f.0) (sym (h.locks.whose g.0 ok.lock g.1) ∙ sym ok.of_life) f.1),
      (
        a.0,
        subst (λ (w : Who). Flew past w a.0) (sym ok.for_life) a.1,
        ap (λ (r : RequestOf). r.xid.0) (sym a.2)
            ∙ ap (λ (x : Xid). x.0) (sym ok.for_xid),
      ),
    )

sent_meant : (head : Head) (past : List Line) (node to : Node) (m : Message) → SendOf head past node to m → HoldsAt head past
    → Meant head.osts past to m
sent_meant head past (Client c) (Target t) (message.Request r) ok a = asked_meant past head.osts c t r ok a.phase a.numbers
sent_meant head past (Target t) (Client c) (message.Reply k) ok a = reply_meant head past t c k ok a.done
sent_meant head past (Client c) (Target t) (message.Cancel who boot cookie) ok a = tt
sent_meant head past (Target t) (Client c) (message.Block who boot cookie) ok a = tt
sent_meant head past (Client c) (Target t) (message.Join who boot) ok a =
    let mine : who.life ≡ (life_of c past).life = ap (λ (w : Who). w.life) ok.of_life in
    let same : (life_of who.client past).life ≡ (life_of c past).life =
    ap (λ v. (life_of v past).life) (ap (λ (w : Who). w.client) ok.of_life ∙ a.phase.client c) in
    omega arith
sent_meant head past (Target t) (Client c) (message.Ready who boot committed) ok a =
    let b = ok.of_boot in
    let closed = ok.serves.closed in
    let is : committed.0 ≡ (server_of head.osts past).committed.0 = ap (λ (x : TxnOf). x.0) ok.of_committed in
    (omega arith, ok.to, omega arith)
sent_meant head past (Target t) (Client c) (message.Evicted who boot) ok a = ok.to
sent_meant head past (Client c) (Target t) (message.Replay r) ok a = tt
sent_meant head past (Client c) (Target t) (message.Lock r) ok a = tt
sent_meant head past (Client c) (Target t) (message.Word who boot replays locks seen) ok a = tt
sent_meant head past (Target t) (Client c) (message.Up boot) ok a = tt
sent_meant head past (Client c) (Target t) (message.Where who boot cookie) ok a = tt
sent_meant head past (Target t) (Client c) (message.Grant g) ok a = gives_meant head past t c g ok a.history
sent_meant head past (Target t) (Client c) (message.Ask who boot cookie for_who xid) ok a =
    asks_meant head past c who boot cookie for_who xid ok a
sent_meant head past (Client c) (Target t) (message.Size s) ok a =
    (a.done.sent (Target t) (Client c) (message.Ask s.who ok.boot s.cookie s.for_who s.xid) ok.was).2
sent_meant head past node to m ok a = absurd ok

-- ---- one more message

-- no request goes out of which the reply was heard
pub fresh_sent : (head : Head) (past : List Line) (node to : Node) (m : Message) → SendOf head past node to m → Numbers past
    → (r : RequestOf) → m ≡ message.Request r → Hears past r.who r.xid.0 → ⊥
fresh_sent head past (Client c) (Target t) (message.Request q) ok n r e i =
    let same : q ≡ r = cc in
    let who : r.who ≡ life_of c past = ap (λ (v : RequestOf). v.who) (sym same ∙ ok.is) in
    let xid : ok.flight.xid ≡ r.xid.0 = ap (λ (v : RequestOf). v.xid.0) (sym ok.is ∙ same) in
    (n.over (life_of c past) r.xid.0 (subst (λ (w : Who). Hears past w r.xid.0) who i)).1 ok.flight ok.flying xid
fresh_sent head past (Client c) (Client d) (message.Request q) ok n r e i = absurd ok
fresh_sent head past (Target t) (Client c) (message.Request q) ok n r e i = absurd ok
fresh_sent head past (Target t) (Target u) (message.Request q) ok n r e i = absurd ok
fresh_sent head past node to m ok n r e i = absurd (cc)

module _ (head : Head) (past : List Line) (at : At) (to : Node) (m : Message) (ok : SendOf head past at.node to m) (n : Numbers past) where
  abbrev sending : List Line
  sending = line at (Send to m) ∷ past

  -- what was sent of a number that was heard was sent before
  pub sent_before : (from : Node) (t : ℕ) (r : RequestOf) → Hears past r.who r.xid.0 → Was sending from (Target t) (message.Request r)
      → Was past from (Target t) (message.Request r)
  sent_before from t r i = ⊎_elim (λ (e : (at.node ≡ from) × (to ≡ Target t) × (m ≡ message.Request r)). absurd
      (fresh_sent head past at.node to m ok n r e.2 i)) (λ (w : Was past from (Target t) (message.Request r)). w)

  pub rebuilt_sent : (who : Who) (k : ReplyTo) → closed_of past ≤ closed_of sending → Rebuilt past who k → Rebuilt sending who k
  rebuilt_sent who k closed h =
      rebuilt_more past sending who k (λ i. i)
      (λ from t r w q x. sent_before from t r (subst (λ (v : Who). Hears past v r.xid.0) (sym q)
      (subst (λ (v : Xid). Hears past who v.0) (sym x) h.0)) w)
      closed h

module _ (head : Head) (past : List Line) (stamp : Stamp) (node to : Node) (m : Message) (ok : SendOf head past node to m)
    (n : Numbers past) (h : Done head.osts head.clients past) where
  abbrev sends : List Line
  sends = line (turn stamp node) (Send to m) ∷ past

  module _ (g : Grows head.osts past sends) (meant : Meant head.osts past to m) where
    more_sent : (from into : Node) (p : Message) → Was sends from into p → Meant head.osts sends into p
    more_sent from into p =
        ⊎_elim
        (λ (e : (node ≡ from) × (to ≡ into) × (m ≡ p)). subst (λ (v : Node). Meant head.osts sends v p) e.1
        (subst (λ (v : Message). Meant head.osts sends to v) e.2 (meant_more head.osts past sends g to m meant)))
        (λ (e : Was past from into p). meant_more head.osts past sends g into p (h.sent from into p e))

  known_sent : (who : Who) (x : ℕ) → Hears past who x → HasSlot head.clients past who → (from : Node) (t : ℕ) (r : RequestOf)
      → Was sends from (Target t) (message.Request r) → r.who ≡ who → r.xid.0 ≡ x → closed_of past ≤ r.boot → CountsFor head.osts past who x
  known_sent who x i has from t r w q e le =
      h.known who x i has from t r (sent_before head past (turn stamp node) to m ok n from t r
      (subst (λ (v : Who). Hears past v r.xid.0) (sym q) (subst (λ (v : ℕ). Hears past who v) (sym e) i)) w) q e le

pub done_send : (head : Head) (past : List Line) (stamp : Stamp) (node to : Node) (m : Message) → SendOf head past node to m
    → HoldsAt head past → Done head.osts head.clients (line (turn stamp node) (Send to m) ∷ past)
done_send head past stamp (Client c) to m ok a =
    let h = a.done in
    let n = a.numbers in
    let new : List Line = line (turn stamp (Client c)) (Send to m) ∷ past in
    record {
      flew = h.flew;
      boots = h.boots;
      numbers = h.numbers;
      bare = h.bare;
      plain = h.plain;
      high = h.high;
      kept = λ who tag k e. kept_more head.osts past new who tag k (λ d a. a) (λ d a q. q)
          (rebuilt_sent head past (turn stamp (Client c)) to m ok n who k (omega arith)) (h.kept who tag k e);
      slots = h.slots;
      heard = h.heard;
      newest = h.newest;
      known = known_sent head past stamp (Client c) to m ok n h;
      answered = h.answered;
      waits = λ r i. let w = h.waits r i in record {
        was = (w.was.0, w.was.1, inr w.was.2);
        asks = w.asks;
        current = w.current;
        has = w.has;
        taken = w.taken;
        new = w.new;
      };
      glimpses = h.glimpses;
      sent = more_sent head past stamp (Client c) to m ok n h (record {
        flew = λ w f i. i;
        acted = λ d a. a;
        lives = λ d. omega arith;
        closed = omega arith;
        committed = omega arith;
        counts =
            λ b low le d q. q;
        stays = λ le n e. e;
      }) (sent_meant head past (Client c) to m ok a);
      once = h.once;
      alone = h.alone;
      rises = h.rises;
      single = h.single;
    }
done_send head past stamp (Target t) to m ok a =
    let h = a.done in
    let n = a.numbers in
    let new : List Line = line (turn stamp (Target t)) (Send to m) ∷ past in
    record {
      flew = h.flew;
      boots = h.boots;
      numbers = h.numbers;
      bare = h.bare;
      plain = h.plain;
      high = h.high;
      kept = λ who tag k e. kept_more head.osts past new who tag k (λ d a. a) (λ d a q. q)
          (rebuilt_sent head past (turn stamp (Target t)) to m ok n who k (omega arith)) (h.kept who tag k e);
      slots = h.slots;
      heard = h.heard;
      newest = h.newest;
      known = known_sent head past stamp (Target t) to m ok n h;
      answered = h.answered;
      waits = λ r i. let w = h.waits r i in record {
        was = (w.was.0, w.was.1, inr w.was.2);
        asks = w.asks;
        current = w.current;
        has = w.has;
        taken = w.taken;
        new = w.new;
      };
      glimpses = h.glimpses;
      sent = more_sent head past stamp (Target t) to m ok n h (record {
        flew = λ w f i. i;
        acted = λ d a. a;
        lives = λ d. omega arith;
        closed = omega arith;
        committed = omega arith;
        counts =
            λ b low le d q. q;
        stays = λ le n e. e;
      }) (sent_meant head past (Target t) to m ok a);
      once = h.once;
      alone = h.alone;
      rises = h.rises;
      single = h.single;
    }

-- ---- one more reply heard

module _ (head : Head) (past : List Line) (stamp : Stamp) (c t : ℕ) (f : Flight) (k : ReplyTo) (ok : HeardOk past c f k)
    (a : HoldsAt head past) where
  abbrev hearing : List Line
  hearing = line (turn stamp (Client c)) (Heard t f k) ∷ past

  h : Done head.osts head.clients past
  h = a.done

  reply : RepliesTo head.osts past c k
  reply = h.sent (Target ok.from) (Client c) (message.Reply k) ok.was

  of_life : (who : Who) → is_own who past (Client c) ≡ true → who ≡ life_of c past
  of_life who own = own_is who past c own

  deed_who : reply.deed.reply.who ≡ life_of c past
  deed_who = ap (λ (v : ReplyTo). v.who) (sym reply.is) ∙ ok.who

  deed_xid : reply.deed.reply.xid.0 ≡ f.xid
  deed_xid = ap (λ (v : ReplyTo). v.xid.0) (sym reply.is) ∙ sym ok.xid

  -- what a life with a slot hears is to what counts
  heard_counts : HasSlot head.clients past (life_of c past) → Counts head.osts past reply.deed
  heard_counts has =
      let knows = (a.lives.knows (life_of c past) has).1 in
      let own : known_of (life_of c past).client past ≡ known_of c past = ap (λ v. known_of v past) (a.phase.client c) in
      let boot = ok.boot in
      reply.counts (omega arith)

  heard_now : DoneFor past (life_of c past) f.xid
  heard_now = (reply.deed, reply.acted, deed_who, deed_xid)

  abbrev Answer : Who → Flight → ReplyTo → Type 0
  Answer who g r = (d : Deed) × Acted past d × (r ≡ record d.reply { boot = r.boot; committed = r.committed }) × (r.who ≡ who)
      × (g.xid ≡ d.reply.xid.0) × (g.op ≡ d.op) × (g.tag ≡ d.tag)

  answer_now : Answer (life_of c past) f k
  answer_now =
      let g = h.flew reply.deed reply.acted in
      let same : f ≡ g.0 = a.numbers.one (life_of c past) f g.0 (a.numbers.flying (life_of c past) f ok.flying)
      (subst (λ (w : Who). Flew past w g.0) deed_who g.1) (sym deed_xid ∙ sym g.2) in
      (reply.deed, reply.acted, reply.is, ok.who, sym deed_xid, ap (λ (v : Flight). v.op) same ∙ g.3, ap (λ (v : Flight). v.tag) same ∙ g.4)

  alone_now : (d e : Deed) → HasSlot head.clients past (life_of c past) → Acted past d → k
      ≡ record d.reply { boot = k.boot; committed = k.committed } → Acted past e → IsMade e → Stands head.osts past e → e.reply.who
      ≡ life_of c past → e.reply.xid ≡ d.reply.xid → e ≡ d
  alone_now d e has b is i made stands who xid =
      let x : e.reply.xid ≡ reply.deed.reply.xid = xid ∙ ap (λ (v : ReplyTo). v.xid) (sym is ∙ reply.is) in
      let same : e ≡ reply.deed = h.once e reply.deed i reply.acted (inr (made, stands)) (heard_counts has) (who ∙ sym deed_who) x in
      let txn : d.reply.txn ≡ reply.deed.reply.txn = ap (λ (v : ReplyTo). v.txn) (sym is ∙ reply.is) in
      let of_reply : IsMade reply.deed = subst IsMade same made in
      let both : d ≡ reply.deed = h.single d reply.deed b reply.acted (subst (λ (n : TxnOf). 0 < n.0) (sym txn) of_reply) of_reply txn in
      same ∙ sym both

  pub done_heard : Done head.osts head.clients hearing
  done_heard =
      record {
        flew = h.flew;
        boots = h.boots;
        numbers = h.numbers;
        bare = h.bare;
        plain = h.plain;
        high = h.high;
        kept = λ who tag j e. kept_more head.osts past hearing who tag j (λ d b. b) (λ d b q. q)
            (rebuilt_more past hearing who j (λ i. inr i) (λ from u r w q x. w) (omega arith)) (h.kept who tag j e);
        slots = h.slots;
        heard = λ who x. ⊎_elim
            (λ (q : (is_own who past (Client c) ≡ true) × (f.xid ≡ x)). subst (λ v. DoneFor past who v) q.1
            (subst (λ v. DoneFor past v f.xid) (sym (of_life who q.0)) heard_now))
            (λ (q : Hears past who x). h.heard who x q);
        newest = h.newest;
        known = λ who x i has from u r w q e le. ⊎_elim
            (λ (o : (is_own who past (Client c) ≡ true) × (f.xid ≡ x)).
            let me = of_life who o.0 in
            (reply.deed, reply.acted, heard_counts (subst (HasSlot head.clients past) me has), deed_who ∙ sym me, deed_xid ∙ o.1))
            (λ (o : Hears past who x). h.known who x o has from u r w q e le)
            i;
        answered = λ who g r. ⊎_elim
            (λ (o : (is_own who past (Client c) ≡ true) × (f ≡ g) × (k ≡ r)).
            subst (λ (v : ReplyTo). Answer who g v) o.2 (subst (λ (v : Flight). Answer who v k) o.1
            (subst (λ (v : Who). Answer v f k) (sym (of_life who o.0)) answer_now)))
            (λ (o : HeardAs past who g r). h.answered who g r o);
        waits = h.waits;
        glimpses = h.glimpses;
        sent = h.sent;
        once = h.once;
        alone = λ who g r d e i has b is j made stands q x. ⊎_elim
            (λ (o : (is_own who past (Client c) ≡ true) × (f ≡ g) × (k ≡ r)).
            let me = of_life who o.0 in
            alone_now d e (subst (HasSlot head.clients past) me has) b
            (subst (λ (v : ReplyTo). v ≡ record d.reply { boot = v.boot; committed = v.committed }) (sym o.2) is) j made stands (q ∙ me)
            x)
            (λ (o : HeardAs past who g r). h.alone who g r d e o has b is j made stands q x)
            i;
        rises = h.rises;
        single = h.single;
      }
