-- What was done and said, as a request enters, or acts, or gets its lock: it acts once, of a number above all that counts of its life and
-- tag.
use Rattle.std.proofs.Common.{◌≡◌, ℕ, ◌+◌, ◌<◌, ◌≤◌, true, false, List, [], ◌∷◌, Option, Some, None, ◌⊎◌, inl, inr, ⊎_elim, refl, sym}
use Rattle.std.proofs.Common.{subst, ap, ◌∙◌, arith}
use Rattle.std.specs.Prelude.{nat_eq, not, ◌&&◌, if◌then◌else◌}
use Rattle.std.proofs.lemmas.Bool.{cond_both, not-true}
use Rattle.lu_base.specs.declared.ids.Node.{Node}
use Rattle.lu_base.specs.declared.ids.Node.TheVariants.{Client, Target}
use Rattle.lu_base.specs.declared.ids.Stamp.{Stamp}
use Rattle.lu_base.specs.declared.ids.Txn.{Txn as TxnOf}
use Rattle.lu_base.specs.declared.ids.Who.{Who}
use Rattle.lu_base.specs.declared.ids.Xid.{Xid}
use Rattle.lu_base.specs.declared.locks.Lock.{Lock}
use Rattle.lu_msg.specs.declared.messages.Message.{Message}
use Rattle.lu_msg.specs.declared.messages.Message.TheVariants as message
use Rattle.lu_msg.specs.declared.messages.Reply.{Reply as ReplyTo}
use Rattle.lu_msg.specs.declared.messages.Request.{Request as RequestOf}
use Rattle.lu_spec_machine.specs.Footprint.{answer}
use Rattle.lu_spec_entries.specs.Carried.{Deed, Flight, Glimpse, Slot}
use Rattle.lu_spec_entries.specs.Words.{Act, Txn as Made, Grant, Wait, Answers, Enters, Line, line, same_life}
use Rattle.lu_spec_target.specs.Phase.{first_of}
use Rattle.lu_spec_client.specs.Caches.{brought}
use Rattle.lu_proof_lawful.specs.Covered.TargetParts.{is_request_of, without_request, entered, answered, is_slot_of}
use Rattle.lu_proof_lawful.specs.Covered.TargetStates.{server_of, slot_of, closed_of, next_number}
use Rattle.lu_proof_lawful.specs.Covered.TargetCloses.{is_lost}
use Rattle.lu_proof_lawful.specs.Covered.ClientStates.{life_of, brings_cookie}
use Rattle.lu_proof_lawful.specs.Covered.Heads.{Head}
use Rattle.lu_proof_lawful.proofs.Preconditions.Guards.{In, Was, Did}
use Rattle.lu_proof_lawful.proofs.Preconditions.StoryGuards.{EntersOk, ActsOk, TxnsOk, GrantOk, RangeOk, GrantsOk, WaitOk, AnswersOk}
use Rattle.lu_proof_lawful.proofs.Preconditions.Acts.{acted, range_acted, wait_acted, responded, responds_acted, made}
use Rattle.lu_proof_lawful.proofs.Preconditions.Acts.{Made as Transacts}
use Rattle.lu_proof_lawful.proofs.Preconditions.ClientLines.{some_is}
use Rattle.lu_proof_lawful.proofs.Preconditions.Lists.{in_append, in_filter}
use Rattle.lu_proof_lawful.proofs.Preconditions.TargetSlots.{is_slot_self, slot_who}
use Rattle.lu_proof_lawful.proofs.Invariants.Groups.{turn, HeardAs, HoldsAt}
use Rattle.lu_proof_lawful.proofs.Invariants.TargetGroups.{Flew, Acted, Hears, HasSlot, IsMade, Stands, Counts, IsAsking, FlewFor, Waits}
use Rattle.lu_proof_lawful.proofs.Invariants.TargetGroups.{KeptFor, Newest, Numbers, Done}
use Rattle.lu_proof_lawful.proofs.Invariants.DoneGrows.{Grows, asking_more, meant_more, rebuilt_more, kept_more, slot_same, did_newest}
use Rattle.lu_proof_lawful.proofs.Invariants.DoneGrows.{did_acted, heard_hears}
use Rattle.lu_proof_lawful.proofs.Invariants.Brings.{txns_brings, txns_plain}

abbrev number : ℕ → Xid
number n = record { 0 = n }

-- what waits isn't heard of: else something that counts would have been done for it
unheard : (osts clients : ℕ) (past : List Line) (r : RequestOf) → Waits osts clients past r → Done osts clients past
    → Hears past r.who r.xid.0 → ⊥
unheard osts clients past r w h i =
    let c = h.known r.who r.xid.0 i w.has w.was.0 w.was.1 r w.was.2 refl refl w.current in
    w.new c.0 c.1 c.2 c.3 (ap number c.4)

-- ---- one more request that waits

module _ (osts clients : ℕ) (past : List Line) (stamp : Stamp) (t : ℕ) (r : RequestOf) (ok : EntersOk osts clients past t r)
    (n : Numbers past) (h : Done osts clients past) where
  abbrev entering : List Line
  entering = line (turn stamp (Target t)) (Enters r) ∷ past

  asks : IsAsking past r
  asks = h.sent (Client ok.from) (Target t) (message.Request r) ok.was

  raised : (who : Who) (tag x : ℕ) → x ≤ (slot_of who tag past).taken → x ≤ (slot_of who tag entering).taken
  raised who tag x le =
      cond_both (is_slot_of who tag r.who r.tag) (entered r) (slot_of who tag past) (λ (s : Slot). x ≤ s.taken)
      (λ q. let p = slot_who who r.who tag r.tag q in let e : (slot_of who tag past).taken ≡ (slot_of r.who r.tag past).taken =
      ap (λ (s : Slot). s.taken) (slot_same past who r.who tag r.tag p.0 p.1) in let lt = ok.newer in omega arith)
      (λ q. le)

  -- nothing that counts has its number, since one number has one tag
  fresh : (d : Deed) → Acted past d → Counts osts past d → d.reply.who ≡ r.who → d.reply.xid ≡ r.xid → ⊥
  fresh d a counts w x =
      let f = h.flew d a in
      let g = asks in
      let y : d.reply.xid.0 ≡ r.xid.0 = ap (λ (v : Xid). v.0) x in
      let z : r.xid.0 ≡ g.0.xid = ap (λ (v : RequestOf). v.xid.0) g.2 in
      let u = f.2 in
      let same : f.0 ≡ g.0 = n.one r.who f.0 g.0 (subst (λ (v : Who). Flew past v f.0) w f.1) g.1 (omega arith) in
      let tag : d.tag ≡ r.tag = sym f.4 ∙ ap (λ (v : Flight). v.tag) same ∙ ap (λ (v : RequestOf). v.tag) (sym g.2) in
      let e : (slot_of d.reply.who d.tag past).taken ≡ (slot_of r.who r.tag past).taken =
      ap (λ (s : Slot). s.taken) (slot_same past d.reply.who r.who d.tag r.tag w tag) in
      let le = h.high d a (subst (HasSlot clients past) (sym w) ok.has) counts in
      let lt = ok.newer in
      omega arith

  newest : Waits osts clients entering r
  newest =
      record {
        was = (Client ok.from, t, ok.was);
        asks = asks;
        current = let c = ok.current in let e = ok.serves.closed in omega arith;
        has = ok.has;
        taken = cond_both (is_slot_of r.who r.tag r.who r.tag) (entered r) (slot_of r.who r.tag past) (λ (s : Slot). r.xid.0 ≡ s.taken)
            (λ q. refl) (λ q. let s = is_slot_self r.who r.tag in absurd (cc));
        new = fresh;
      }

  -- its tag was free, so no other request with it waits: that would have been heard
  apart : (q : RequestOf) → Waits osts clients past q → is_slot_of q.who q.tag r.who r.tag ≡ true → ⊥
  apart q w e =
      let p = slot_who q.who r.who q.tag r.tag e in
      let g = asks in
      let k = w.asks in
      let same : (slot_of q.who q.tag past).taken ≡ (slot_of r.who r.tag past).taken =
      ap (λ (s : Slot). s.taken) (slot_same past q.who r.who q.tag r.tag p.0 p.1) in
      let x : k.0.xid ≡ q.xid.0 = ap (λ (v : RequestOf). v.xid.0) (sym k.2) in
      let y : g.0.xid ≡ r.xid.0 = ap (λ (v : RequestOf). v.xid.0) (sym g.2) in
      let tag : k.0.tag ≡ g.0.tag = ap (λ (v : RequestOf). v.tag) (sym k.2) ∙ p.1 ∙ ap (λ (v : RequestOf). v.tag) g.2 in
      let z = w.taken in
      let lt = ok.newer in
      let heard = n.after q.who k.0 g.0 k.1 (subst (λ (v : Who). Flew past v g.0) (sym p.0) g.1) tag (omega arith) in
      unheard osts clients past q w h (subst (λ (v : ℕ). Hears past q.who v) x heard)

  still_waits : (q : RequestOf) → Waits osts clients past q → Waits osts clients entering q
  still_waits q w =
      record {
        was = w.was;
        asks = w.asks;
        current = w.current;
        has = w.has;
        taken = cond_both (is_slot_of q.who q.tag r.who r.tag) (entered r) (slot_of q.who q.tag past) (λ (s : Slot). q.xid.0 ≡ s.taken)
            (λ e. absurd (apart q w e)) (λ e. w.taken);
        new = w.new;
      }

  pub done_enters : Done osts clients entering
  done_enters =
      record {
        flew = h.flew;
        boots = h.boots;
        numbers = h.numbers;
        bare = h.bare;
        plain = h.plain;
        high = λ d a has counts. raised d.reply.who d.tag d.reply.xid.0 (h.high d a has counts);
        kept = λ who tag k. cond_both (is_slot_of who tag r.who r.tag) (entered r) (slot_of who tag past)
            (λ (s : Slot). s.reply ≡ Some k → KeptFor osts past who tag k)
            (λ q e. absurd (cc))
            (λ q e. h.kept who tag k e);
        slots = λ who tag k. cond_both (is_slot_of who tag r.who r.tag) (entered r) (slot_of who tag past)
            (λ (s : Slot). s.reply ≡ Some k → (k.who ≡ who) × (k.xid.0 ≡ s.taken))
            (λ q e. absurd (cc))
            (λ q e. h.slots who tag k e);
        heard = h.heard;
        newest = h.newest;
        known = h.known;
        answered = h.answered;
        waits = λ q i. ⊎_elim
            (λ (j : In q (server_of osts past).waiting). still_waits q (h.waits q j))
            (λ (j : In q (r ∷ [])). ⊎_elim (λ (e : r ≡ q). subst (Waits osts clients entering) e newest) (λ (v : ⊥). absurd v) j)
            (in_append q (server_of osts past).waiting (r ∷ []) i);
        glimpses = h.glimpses;
        sent = h.sent;
        once = h.once;
        alone = h.alone;
        rises = h.rises;
        single = h.single;
      }

-- ---- one more deed: an act and a transaction alike

-- what a line that does d is
record Does (osts clients : ℕ) (past new : List Line) (d : Deed) : Type 0 where
  flew : (who : Who) (f : Flight) → Flew past who f → Flew new who f
  acted : (e : Deed) → Acted new e → (d ≡ e) ⊎ Acted past e
  more : (e : Deed) → Acted past e → Acted new e
  here : Acted new d
  last : (e : Deed) → Newest new e → d ≡ e
  slot : (who : Who) (tag : ℕ) → slot_of who tag new ≡ (if is_slot_of who tag d.reply.who d.tag then answered d (slot_of who tag past)
      else slot_of who tag past)
  waiting : (q : RequestOf) → In q (server_of osts new).waiting → In q (without_request d (server_of osts past).waiting)
  glimpses : (g : Glimpse) → In g (server_of osts new).glimpses → In g (server_of osts past).glimpses
  sent : (from to : Node) (m : Message) → Was new from to m → Was past from to m
  sends : (from to : Node) (m : Message) → Was past from to m → Was new from to m
  hears : (who : Who) (x : ℕ) → Hears new who x → Hears past who x
  heard : (who : Who) (x : ℕ) → Hears past who x → Hears new who x
  hears_as : (who : Who) (f : Flight) (r : ReplyTo) → HeardAs new who f r → HeardAs past who f r
  lives : (c : ℕ) → (life_of c past).life ≤ (life_of c new).life
  closed : closed_of new ≡ closed_of past
  committed : (server_of osts new).committed.0 ≡ (server_of osts past).committed.0
  lost : (n : ℕ) → is_lost osts new n ≡ is_lost osts past n
  has : (w : Who) → HasSlot clients new w → HasSlot clients past w
  had : (w : Who) → HasSlot clients past w → HasSlot clients new w
  low : 1 ≤ closed_of past
  boot : d.reply.boot ≡ closed_of past
  numbers : IsMade d → (first_of d.reply.boot < d.reply.txn.0) × (d.reply.txn.0 ≤ first_of d.reply.boot + 4294967295)
  bare : IsMade d → brought d.op d.reply ≡ []
  plain : IsMade d → (k : ℕ) → brings_cookie d.op d.reply.answer k ≡ false
  top : IsMade d → (e : Deed) → Acted past e → IsMade e → e.reply.txn.0 < d.reply.txn.0

-- it is of that request
record Is (r : RequestOf) (d : Deed) : Type 0 where
  who : d.reply.who ≡ r.who
  xid : d.reply.xid ≡ r.xid
  tag : d.tag ≡ r.tag
  op : d.op ≡ r.op

module _ (osts clients : ℕ) (past new : List Line) (d : Deed) (does : Does osts clients past new d) (r : RequestOf) (of : Is r d)
    (w : Waits osts clients past r) (h : Done osts clients past) where
  stands_back : (e : Deed) → Stands osts new e → Stands osts past e
  stands_back e s = sym (does.lost e.reply.txn.0) ∙ s

  counts_back : (e : Deed) → Counts osts new e → Counts osts past e
  counts_back e (inl b) = inl (b ∙ does.closed)
  counts_back e (inr m) = inr (m.0, stands_back e m.1)

  counts_on : (e : Deed) → Counts osts past e → Counts osts new e
  counts_on e (inl b) = inl (b ∙ sym does.closed)
  counts_on e (inr m) = inr (m.0, does.lost e.reply.txn.0 ∙ m.1)

  mine_counts : Counts osts new d
  mine_counts = inl (does.boot ∙ sym does.closed)

  grows : Grows osts past new
  grows =
      record {
        flew = does.flew;
        acted = does.more;
        lives = does.lives;
        closed = let c = does.closed in omega arith;
        committed = let c = does.committed in omega arith;
        counts = λ b low le. counts_on;
        stays = λ le n e. does.lost n ∙ e;
      }

  taken_is : (who : Who) (tag : ℕ) → (slot_of who tag past).taken ≡ (slot_of who tag new).taken
  taken_is who tag =
      subst (λ (s : Slot). (slot_of who tag past).taken ≡ s.taken) (sym (does.slot who tag))
      (cond_both (is_slot_of who tag d.reply.who d.tag) (answered d (slot_of who tag past)) (slot_of who tag past)
      (λ (s : Slot). (slot_of who tag past).taken ≡ s.taken) (λ q. refl) (λ q. refl))

  taken_same : (who : Who) (tag x : ℕ) → x ≤ (slot_of who tag past).taken → x ≤ (slot_of who tag new).taken
  taken_same who tag x le = let e = taken_is who tag in omega arith

  -- the number of its slot
  mine_taken : d.reply.xid.0 ≡ (slot_of d.reply.who d.tag past).taken
  mine_taken = ap (λ (v : Xid). v.0) of.xid ∙ w.taken ∙ ap (λ (s : Slot). s.taken)
      (sym (slot_same past d.reply.who r.who d.tag r.tag of.who of.tag))

  mine_flew : FlewFor new d
  mine_flew =
      let a = w.asks in (
        a.0,
        subst (λ (v : Who). Flew new v a.0) (sym of.who) (does.flew r.who a.0 a.1),
        ap (λ (v : RequestOf). v.xid.0) (sym a.2) ∙ ap (λ (v : Xid). v.0) (sym of.xid),
        ap (λ (v : RequestOf). v.op) (sym a.2) ∙ sym of.op,
        ap (λ (v : RequestOf). v.tag) (sym a.2) ∙ sym of.tag,
      )

  mine_high : d.reply.xid.0 ≤ (slot_of d.reply.who d.tag new).taken
  mine_high = let e = mine_taken in taken_same d.reply.who d.tag d.reply.xid.0 (omega arith)

  -- nothing that counts was done for it before
  first_time : (e : Deed) → Acted past e → Counts osts past e → d.reply.who ≡ e.reply.who → d.reply.xid ≡ e.reply.xid → ⊥
  first_time e a c q x = w.new e a c (sym q ∙ of.who) (sym x ∙ of.xid)

  not_heard : (who : Who) (x : ℕ) → who ≡ d.reply.who → x ≡ d.reply.xid.0 → Hears past who x → ⊥
  not_heard who x q e i =
      unheard osts clients past r w h (subst (λ (v : Who). Hears past v r.xid.0) (q ∙ of.who)
      (subst (λ (v : ℕ). Hears past who v) (e ∙ ap (λ (v : Xid). v.0) of.xid) i))

  -- what still waits is another request
  other : (q : RequestOf) → is_request_of d q ≡ false → d.reply.who ≡ q.who → d.reply.xid ≡ q.xid → ⊥
  other q f e x =
      let t : is_request_of d q ≡ true = subst (λ (v : Who). same_life d.reply.who v && nat_eq d.reply.xid.0 q.xid.0 ≡ true) e
      (subst (λ (v : Xid). same_life d.reply.who d.reply.who && nat_eq d.reply.xid.0 v.0 ≡ true) x
      (is_slot_self d.reply.who d.reply.xid.0)) in
      absurd (cc)

  keeps_waiting : (q : RequestOf) → In q (server_of osts new).waiting → Waits osts clients new q
  keeps_waiting q i =
      let j = in_filter (λ (v : RequestOf). not (is_request_of d v)) q (server_of osts past).waiting (does.waiting q i) in
      let k = h.waits q j.0 in
      record {
        was = (k.was.0, k.was.1, does.sends k.was.0 (Target k.was.1) (message.Request q) k.was.2);
        asks = asking_more osts past new grows q k.asks;
        current = let c = k.current in let e = does.closed in omega arith;
        has = does.had q.who k.has;
        taken = k.taken ∙ taken_is q.who q.tag;
        new = λ e a c y x. ⊎_elim
            (λ (p : d ≡ e). other q (not-true (is_request_of d q) j.1) (ap (λ (v : Deed). v.reply.who) p ∙ y)
            (ap (λ (v : Deed). v.reply.xid) p ∙ x))
            (λ (b : Acted past e). k.new e b (counts_back e c) y x)
            (does.acted e a);
      }

  -- what was heard isn't what was just done, nor of its number
  mine_heard_of : (who : Who) (f : Flight) (k : ReplyTo) (a b : Deed) → HeardAs past who f k → k
      ≡ record a.reply { boot = k.boot; committed = k.committed } → d ≡ b → b.reply.who ≡ who → b.reply.xid ≡ a.reply.xid → ⊥
  mine_heard_of who f k a b i is q y x =
      let g = h.answered who f k i in
      let heard : f.xid ≡ a.reply.xid.0 = g.4 ∙ ap (λ (v : ReplyTo). v.xid.0) (sym g.2 ∙ is) in
      not_heard who f.xid (sym y ∙ ap (λ (v : Deed). v.reply.who) (sym q))
      (heard ∙ ap (λ (v : Xid). v.0) (sym x) ∙ ap (λ (v : Deed). v.reply.xid.0) (sym q)) (heard_hears past who f k i)

  mine_alone : (who : Who) (f : Flight) (k : ReplyTo) (a b : Deed) → HeardAs past who f k → HasSlot clients past who → (d ≡ a)
      ⊎ Acted past a → k ≡ record a.reply { boot = k.boot; committed = k.committed } → (d ≡ b) ⊎ Acted past b
      → IsMade b → Stands osts past b → b.reply.who ≡ who → b.reply.xid ≡ a.reply.xid → b ≡ a
  mine_alone who f k a b i has (inr p) is (inr q) made stands y x = h.alone who f k a b i has p is q made stands y x
  mine_alone who f k a b i has (inl p) is q made stands y x = let g = h.answered who f k i
      in absurd (mine_heard_of who f k a a i is p (ap (λ (v : ReplyTo). v.who) (sym is) ∙ g.3) refl)
  mine_alone who f k a b i has p is (inl q) made stands y x = absurd (mine_heard_of who f k a b i is q y x)

  mine_rises : (a b : Deed) → (d ≡ a) ⊎ Acted past a → (d ≡ b) ⊎ Acted past b → IsMade a → IsMade b → Stands osts past a
      → Stands osts past b → a.reply.who ≡ b.reply.who → a.tag ≡ b.tag → a.reply.txn.0 < b.reply.txn.0 → a.reply.xid.0 < b.reply.xid.0
  mine_rises a b (inr p) (inr q) m n s u y t lt = h.rises a b p q m n s u y t lt
  mine_rises a b (inl p) (inl q) m n s u y t lt = let e : a.reply.txn.0 ≡ b.reply.txn.0 = ap (λ (v : Deed). v.reply.txn.0) (sym p ∙ q)
      in absurd (omega arith)
  mine_rises a b (inl p) (inr q) m n s u y t lt =
      let e : d.reply.txn.0 ≡ a.reply.txn.0 = ap (λ (v : Deed). v.reply.txn.0) p in
      let above = does.top (subst IsMade (sym p) m) b q n in
      absurd (omega arith)
  mine_rises a b (inr p) (inl q) m n s u y t lt =
      let who : a.reply.who ≡ d.reply.who = y ∙ ap (λ (v : Deed). v.reply.who) (sym q) in
      let tag : a.tag ≡ d.tag = t ∙ ap (λ (v : Deed). v.tag) (sym q) in
      let counts : Counts osts past a = inr (m, s) in
      let le = h.high a p (subst (HasSlot clients past) (sym (who ∙ of.who)) w.has) counts in
      let same : (slot_of a.reply.who a.tag past).taken ≡ (slot_of d.reply.who d.tag past).taken =
      ap (λ (v : Slot). v.taken) (slot_same past a.reply.who d.reply.who a.tag d.tag who tag) in
      let taken = mine_taken in
      let x : d.reply.xid.0 ≡ b.reply.xid.0 = ap (λ (v : Deed). v.reply.xid.0) q in
      let ne : d.reply.xid.0 ≡ a.reply.xid.0 → ⊥ = λ (e : d.reply.xid.0 ≡ a.reply.xid.0). first_time a p counts (sym who) (ap number e) in
      omega arith

  mine_single : (a b : Deed) → (d ≡ a) ⊎ Acted past a → (d ≡ b) ⊎ Acted past b → IsMade a → IsMade b → a.reply.txn ≡ b.reply.txn → a ≡ b
  mine_single a b (inr p) (inr q) m n e = h.single a b p q m n e
  mine_single a b (inl p) (inl q) m n e = sym p ∙ q
  mine_single a b (inl p) (inr q) m n e =
      let lt = does.top (subst IsMade (sym p) m) b q n in
      let x : d.reply.txn.0 ≡ b.reply.txn.0 = ap (λ (v : Deed). v.reply.txn.0) p ∙ ap (λ (v : TxnOf). v.0) e in
      absurd (omega arith)
  mine_single a b (inr p) (inl q) m n e =
      let lt = does.top (subst IsMade (sym q) n) a p m in
      let x : d.reply.txn.0 ≡ a.reply.txn.0 = ap (λ (v : Deed). v.reply.txn.0) q ∙ ap (λ (v : TxnOf). v.0) (sym e) in
      absurd (omega arith)

  mine_once : (a b : Deed) → (d ≡ a) ⊎ Acted past a → (d ≡ b) ⊎ Acted past b → Counts osts past a → Counts osts past b → a.reply.who
      ≡ b.reply.who → a.reply.xid ≡ b.reply.xid → a ≡ b
  mine_once a b (inr p) (inr q) m n y x = h.once a b p q m n y x
  mine_once a b (inl p) (inl q) m n y x = sym p ∙ q
  mine_once a b (inl p) (inr q) m n y x = absurd (first_time b q n (ap (λ (v : Deed). v.reply.who) p ∙ y)
      (ap (λ (v : Deed). v.reply.xid) p ∙ x))
  mine_once a b (inr p) (inl q) m n y x = absurd (first_time a p m (ap (λ (v : Deed). v.reply.who) q ∙ sym y)
      (ap (λ (v : Deed). v.reply.xid) q ∙ sym x))

  done_does : Done osts clients new
  done_does =
      record {
        flew = λ e a. ⊎_elim (λ (q : d ≡ e). subst (FlewFor new) q mine_flew)
            (λ (b : Acted past e). let k = h.flew e b in (k.0, does.flew e.reply.who k.0 k.1, k.2, k.3, k.4)) (does.acted e a);
        boots = λ e a. ⊎_elim
            (λ (q : d ≡ e). let b = does.boot in let c = does.closed in let low = does.low in let x : d.reply.boot ≡ e.reply.boot =
            ap (λ (v : Deed). v.reply.boot) q in (omega arith, omega arith))
            (λ (b : Acted past e). let k = h.boots e b in let le = k.1 in let c = does.closed in (k.0, omega arith))
            (does.acted e a);
        numbers = λ e a. ⊎_elim
            (λ (q : d ≡ e). subst (λ (v : Deed). IsMade v → (first_of v.reply.boot < v.reply.txn.0)
            × (v.reply.txn.0 ≤ first_of v.reply.boot + 4294967295)) q does.numbers)
            (λ (b : Acted past e). h.numbers e b)
            (does.acted e a);
        bare = λ e a. ⊎_elim (λ (q : d ≡ e). subst (λ (v : Deed). IsMade v → brought v.op v.reply ≡ []) q does.bare)
            (λ (b : Acted past e). h.bare e b) (does.acted e a);
        plain = λ e a. ⊎_elim (λ (q : d ≡ e). subst (λ (v : Deed). IsMade v → (k : ℕ) → brings_cookie v.op v.reply.answer k ≡ false) q
            does.plain) (λ (b : Acted past e). h.plain e b) (does.acted e a);
        high = λ e a has counts. ⊎_elim
            (λ (q : d ≡ e). subst (λ (v : Deed). v.reply.xid.0 ≤ (slot_of v.reply.who v.tag new).taken) q mine_high)
            (λ (b : Acted past e). taken_same e.reply.who e.tag e.reply.xid.0
            (h.high e b (does.has e.reply.who has) (counts_back e counts)))
            (does.acted e a);
        kept = λ who tag k e. cond_both (is_slot_of who tag d.reply.who d.tag) (answered d (slot_of who tag past)) (slot_of who tag past)
            (λ (s : Slot). s.reply ≡ Some k → KeptFor osts new who tag k)
            (λ q p. inl (d, does.here, cc, sym (slot_who who d.reply.who tag d.tag q).1, mine_counts))
            (λ q p. kept_more osts past new who tag k does.more (λ g b. counts_on g)
            (rebuilt_more past new who k (does.heard who k.xid.0) (λ from t q w y x. does.sent from (Target t) (message.Request q) w)
            (let c = does.closed in omega arith)) (h.kept who tag k p))
            (ap (λ (s : Slot). s.reply) (sym (does.slot who tag)) ∙ e);
        slots = λ who tag k. subst (λ (s : Slot). s.reply ≡ Some k → (k.who ≡ who) × (k.xid.0 ≡ s.taken)) (sym (does.slot who tag))
            (cond_both (is_slot_of who tag d.reply.who d.tag) (answered d (slot_of who tag past)) (slot_of who tag past)
            (λ (s : Slot). s.reply ≡ Some k → (k.who ≡ who) × (k.xid.0 ≡ s.taken))
            (λ q p.
            let same : d.reply ≡ k = cc in
            let i = slot_who who d.reply.who tag d.tag q in (
              ap (λ (v : ReplyTo). v.who) (sym same) ∙ sym i.0,
              ap (λ (v : ReplyTo). v.xid.0) (sym same) ∙ mine_taken
                  ∙ ap (λ (s : Slot). s.taken) (sym (slot_same past who d.reply.who tag d.tag i.0 i.1)),
            ))
            (λ q p. h.slots who tag k p));
        heard = λ who x q. let g = h.heard who x (does.hears who x q) in (g.0, does.more g.0 g.1, g.2, g.3);
        newest = λ e n. subst (λ (v : Deed). v.reply.boot ≡ closed_of new) (does.last e n) (does.boot ∙ sym does.closed);
        known = λ who x i has from t q s y e le.
            let c = does.closed in
            let g = h.known who x (does.hears who x i) (does.has who has) from t q (does.sent from (Target t) (message.Request q) s) y e
            (omega arith) in
            (g.0, does.more g.0 g.1, counts_on g.0 g.2, g.3, g.4);
        answered = λ who f k i. let g = h.answered who f k (does.hears_as who f k i) in (g.0, does.more g.0 g.1, g.2, g.3, g.4, g.5, g.6);
        waits = keeps_waiting;
        glimpses = λ g i. asking_more osts past new grows g.request (h.glimpses g (does.glimpses g i));
        sent = λ from to m s. meant_more osts past new grows to m (h.sent from to m (does.sent from to m s));
        once = λ a b i j m n. mine_once a b (does.acted a i) (does.acted b j) (counts_back a m) (counts_back b n);
        alone = λ who f k a b i has p is q made stands. mine_alone who f k a b (does.hears_as who f k i) (does.has who has) (does.acted a p)
            is (does.acted b q) made (stands_back b stands);
        rises = λ a b p q m n s u. mine_rises a b (does.acted a p) (does.acted b q) m n (stands_back a s) (stands_back b u);
        single = λ a b p q. mine_single a b (does.acted a p) (does.acted b q);
      }

-- ---- the lines

module _ (head : Head) (past : List Line) (stamp : Stamp) (t : ℕ) (h : HoldsAt head past) where
  pub done_act : (d : Deed) → ActsOk head.osts past (turn stamp (Target t)) t d
      → Done head.osts head.clients (line (turn stamp (Target t)) (Act d) ∷ past)
  done_act d ok =
      let k = acted head.osts past (turn stamp (Target t)) t d ok in
      done_does head.osts head.clients past (line (turn stamp (Target t)) (Act d) ∷ past) d
      (record {
        flew = λ w f i. i;
        acted = λ g a. a;
        more = λ g a. inr a;
        here = inl refl;
        last = λ g n. n;
        slot = λ who tag. refl;
        waiting = λ q i. i;
        glimpses = λ g i. i;
        sent = λ from to m s. s;
        sends = λ from to m s. s;
        hears = λ w x q. q;
        heard = λ w x q. q;
        hears_as = λ w f r q. q;
        lives = λ c. omega arith;
        closed = refl;
        committed = refl;
        lost = λ n. refl;
        has = λ w q. q;
        had = λ w q. q;
        low = h.phase.closed;
        boot = k.boot ∙ sym k.serves.closed;
        numbers = λ m. absurd (let z : d.reply.txn.0 ≡ 0 = ap (λ (v : TxnOf). v.0) k.number in omega (arith, m, z));
        bare = λ m. absurd (let z : d.reply.txn.0 ≡ 0 = ap (λ (v : TxnOf). v.0) k.number in omega (arith, m, z));
        plain = λ m. absurd (let z : d.reply.txn.0 ≡ 0 = ap (λ (v : TxnOf). v.0) k.number in omega (arith, m, z));
        top = λ m. absurd (let z : d.reply.txn.0 ≡ 0 = ap (λ (v : TxnOf). v.0) k.number in omega (arith, m, z));
      })
      k.request (record { who = k.who; xid = k.xid; tag = k.tag; op = k.of_op }) (h.done.waits k.request k.waits) h.done

  -- who asks for a lock is told to wait
  pub done_wait : (lock : Lock) (d : Deed) → WaitOk head.osts past (turn stamp (Target t)) lock d
      → Done head.osts head.clients (line (turn stamp (Target t)) (Wait lock d) ∷ past)
  done_wait lock d ok =
      let k = wait_acted head.osts past (turn stamp (Target t)) lock d ok in
      done_does head.osts head.clients past (line (turn stamp (Target t)) (Wait lock d) ∷ past) d
      (record {
        flew = λ w f i. i;
        acted = λ g a. a;
        more = λ g a. inr a;
        here = inl refl;
        last = λ g n. n;
        slot = λ who tag. refl;
        waiting = λ q i. i;
        glimpses = λ g i. i;
        sent = λ from to m s. s;
        sends = λ from to m s. s;
        hears = λ w x q. q;
        heard = λ w x q. q;
        hears_as = λ w f r q. q;
        lives = λ c. omega arith;
        closed = refl;
        committed = refl;
        lost = λ n. refl;
        has = λ w q. q;
        had = λ w q. q;
        low = h.phase.closed;
        boot = k.boot ∙ sym k.serves.closed;
        numbers = λ m. absurd (let z : d.reply.txn.0 ≡ 0 = ap (λ (v : TxnOf). v.0) k.number in omega (arith, m, z));
        bare = λ m. absurd (let z : d.reply.txn.0 ≡ 0 = ap (λ (v : TxnOf). v.0) k.number in omega (arith, m, z));
        plain = λ m. absurd (let z : d.reply.txn.0 ≡ 0 = ap (λ (v : TxnOf). v.0) k.number in omega (arith, m, z));
        top = λ m. absurd (let z : d.reply.txn.0 ≡ 0 = ap (λ (v : TxnOf). v.0) k.number in omega (arith, m, z));
      })
      k.request (record { who = k.who; xid = k.xid; tag = k.tag; op = k.of_op }) (h.done.waits k.request k.waits) h.done

  pub done_answers : (d : Deed) → AnswersOk head.osts past (turn stamp (Target t)) t d
      → Done head.osts head.clients (line (turn stamp (Target t)) (Answers d) ∷ past)
  done_answers d ok =
      let k = responds_acted head.osts past (turn stamp (Target t)) t d (responded head.osts past (turn stamp (Target t)) t d ok) in
      done_does head.osts head.clients past (line (turn stamp (Target t)) (Answers d) ∷ past) d
      (record {
        flew = λ w f i. i;
        acted = λ g a. a;
        more = λ g a. inr a;
        here = inl refl;
        last = λ g n. n;
        slot = λ who tag. refl;
        waiting = λ q i. i;
        glimpses = λ g i. i;
        sent = λ from to m s. s;
        sends = λ from to m s. s;
        hears = λ w x q. q;
        heard = λ w x q. q;
        hears_as = λ w f r q. q;
        lives = λ c. omega arith;
        closed = refl;
        committed = refl;
        lost = λ n. refl;
        has = λ w q. q;
        had = λ w q. q;
        low = h.phase.closed;
        boot = k.boot ∙ sym k.serves.closed;
        numbers = λ m. absurd (let z : d.reply.txn.0 ≡ 0 = ap (λ (v : TxnOf). v.0) k.number in omega (arith, m, z));
        bare = λ m. absurd (let z : d.reply.txn.0 ≡ 0 = ap (λ (v : TxnOf). v.0) k.number in omega (arith, m, z));
        plain = λ m. absurd (let z : d.reply.txn.0 ≡ 0 = ap (λ (v : TxnOf). v.0) k.number in omega (arith, m, z));
        top = λ m. absurd (let z : d.reply.txn.0 ≡ 0 = ap (λ (v : TxnOf). v.0) k.number in omega (arith, m, z));
      })
      k.request (record { who = k.who; xid = k.xid; tag = k.tag; op = k.of_op }) (h.done.waits k.request k.waits) h.done

  -- a lock on an object is granted at once
  done_range : (lock : Lock) (d : Deed) → RangeOk head.osts past (turn stamp (Target t)) lock d
      → Done head.osts head.clients (line (turn stamp (Target t)) (Grant lock (Some d)) ∷ past)
  done_range lock d ok =
      let k = range_acted head.osts past (turn stamp (Target t)) lock d ok in
      done_does head.osts head.clients past (line (turn stamp (Target t)) (Grant lock (Some d)) ∷ past) d
      (record {
        flew = λ w f i. i;
        acted = λ g. ⊎_elim (λ (q : Some d ≡ Some g). inl (some_is d g q)) (λ (b : Acted past g). inr b);
        more = λ g a. inr a;
        here = inl refl;
        last = λ g n. some_is d g n;
        slot = λ who tag. refl;
        waiting = λ q i. i;
        glimpses = λ g i. i;
        sent = λ from to m s. s;
        sends = λ from to m s. s;
        hears = λ w x q. q;
        heard = λ w x q. q;
        hears_as = λ w f r q. q;
        lives = λ c. omega arith;
        closed = refl;
        committed = refl;
        lost = λ n. refl;
        has = λ w q. q;
        had = λ w q. q;
        low = h.phase.closed;
        boot = k.boot ∙ sym k.serves.closed;
        numbers = λ m. absurd (let z : d.reply.txn.0 ≡ 0 = ap (λ (v : TxnOf). v.0) k.number in omega (arith, m, z));
        bare = λ m. absurd (let z : d.reply.txn.0 ≡ 0 = ap (λ (v : TxnOf). v.0) k.number in omega (arith, m, z));
        plain = λ m. absurd (let z : d.reply.txn.0 ≡ 0 = ap (λ (v : TxnOf). v.0) k.number in omega (arith, m, z));
        top = λ m. absurd (let z : d.reply.txn.0 ≡ 0 = ap (λ (v : TxnOf). v.0) k.number in omega (arith, m, z));
      })
      k.request (record { who = k.who; xid = k.xid; tag = k.tag; op = k.of_op }) (h.done.waits k.request k.waits) h.done

  -- a lock on names is shown: that changes nothing
  module _ (lock : Lock) (d : Deed) (ok : GrantOk head.osts past lock d) where
    abbrev showing : List Line
    showing = line (turn stamp (Target t)) (Grant lock (Some d)) ∷ past

    slot_is : (who : Who) (tag : ℕ) → slot_of who tag showing ≡ slot_of who tag past
    slot_is who tag =
        cond_both (is_slot_of who tag d.reply.who d.tag) (answered d (slot_of who tag past)) (slot_of who tag past)
        (λ (s : Slot). s ≡ slot_of who tag past)
        (λ q. let p = slot_who who d.reply.who tag d.tag q in answered_is (slot_of who tag past)
        (ap (λ (s : Slot). s.reply) (slot_same past who d.reply.who tag d.tag p.0 p.1) ∙ ok.slot))
        (λ q. refl)
      where
        answered_is : (s : Slot) → s.reply ≡ Some d.reply → answered d s ≡ s
        answered_is s e = ap (λ (r : Option ReplyTo). record { taken = s.taken; reply = r }) (sym e)

    was_acted : (e : Deed) → Acted showing e → Acted past e
    was_acted e = ⊎_elim (λ (q : Some d ≡ Some e). subst (λ (v : Deed). Acted past v) (some_is d e q) (did_acted past d ok.did))
        (λ (a : Acted past e). a)

    done_shown : Done head.osts head.clients showing
    done_shown =
        let k = h.done in
        record {
          flew = λ e a. k.flew e (was_acted e a);
          boots = λ e a. k.boots e (was_acted e a);
          numbers = λ e a. k.numbers e (was_acted e a);
          bare = λ e a. k.bare e (was_acted e a);
          plain = λ e a. k.plain e (was_acted e a);
          high = λ e a has counts. subst (λ (s : Slot). e.reply.xid.0 ≤ s.taken) (sym (slot_is e.reply.who e.tag))
              (k.high e (was_acted e a) has counts);
          kept = λ who tag r e. kept_more head.osts past showing who tag r (λ b a. inr a) (λ b a c. c) (λ q. q)
              (k.kept who tag r (ap (λ (s : Slot). s.reply) (sym (slot_is who tag)) ∙ e));
          slots = λ who tag r. subst (λ (s : Slot). s.reply ≡ Some r → (r.who ≡ who) × (r.xid.0 ≡ s.taken)) (sym (slot_is who tag))
              (k.slots who tag r);
          heard = λ who x i. let g = k.heard who x i in (g.0, inr g.1, g.2, g.3);
          newest = λ e n. k.newest e (did_newest past e (subst (λ (v : Deed). Did past v) (some_is d e n) ok.did));
          known = λ who x i has from u r s w e le. let g = k.known who x i has from u r s w e le in (g.0, inr g.1, g.2, g.3, g.4);
          answered = λ who f r i. let g = k.answered who f r i in (g.0, inr g.1, g.2, g.3, g.4, g.5, g.6);
          waits = λ r i. let w = k.waits r (subst (λ (rs : List RequestOf). In r rs) ok.waiting i) in
              record {
                was = w.was;
                asks = w.asks;
                current = w.current;
                has = w.has;
                taken = w.taken ∙ ap (λ (s : Slot). s.taken) (sym (slot_is r.who r.tag));
                new = λ e a. w.new e (was_acted e a);
              };
          glimpses = k.glimpses;
          sent = λ from to m s. meant_more head.osts past showing
              (record {
                flew = λ w f i. i;
                acted = λ e a. inr a;
                lives = λ c. omega arith;
                closed = omega arith;
                committed = omega arith;
                counts = λ b low le e c. c;
                stays = λ le n e. e;
              }) to m (k.sent from to m s);
          once = λ a b i j. k.once a b (was_acted a i) (was_acted b j);
          alone = λ who f r a b i has p is q. k.alone who f r a b i has (was_acted a p) is (was_acted b q);
          rises = λ a b i j. k.rises a b (was_acted a i) (was_acted b j);
          single = λ a b i j. k.single a b (was_acted a i) (was_acted b j);
        }

  pub done_grant : (lock : Lock) (d : Deed) → GrantsOk head.osts past (turn stamp (Target t)) t lock d
      → Done head.osts head.clients (line (turn stamp (Target t)) (Grant lock (Some d)) ∷ past)
  done_grant lock d (inl ok) = done_shown lock d ok.1
  done_grant lock d (inr ok) = done_range lock d ok.1

  -- a lock that had waited is granted: nothing is done for anybody just then
  pub done_promoted : (lock : Lock) → Done head.osts head.clients (line (turn stamp (Target t)) (Grant lock None) ∷ past)
  done_promoted lock =
      let k = h.done in
      let new : List Line = line (turn stamp (Target t)) (Grant lock None) ∷ past in
      record {
        flew = λ e a. k.flew e (was e a);
        boots = λ e a. k.boots e (was e a);
        numbers = λ e a. k.numbers e (was e a);
        bare = λ e a. k.bare e (was e a);
        plain = λ e a. k.plain e (was e a);
        high = λ e a has counts. k.high e (was e a) has counts;
        kept = λ who tag r e. kept_more head.osts past new who tag r (λ b a. inr a) (λ b a c. c) (λ q. q) (k.kept who tag r e);
        slots = k.slots;
        heard = λ who x i. let g = k.heard who x i in (g.0, inr g.1, g.2, g.3);
        newest = λ e n. absurd (cc);
        known = λ who x i has from u r s w e le. let g = k.known who x i has from u r s w e le in (g.0, inr g.1, g.2, g.3, g.4);
        answered = λ who f r i. let g = k.answered who f r i in (g.0, inr g.1, g.2, g.3, g.4, g.5, g.6);
        waits = λ r i. let w = k.waits r i in record {
          was = w.was;
          asks = w.asks;
          current = w.current;
          has = w.has;
          taken = w.taken;
          new =
              λ e a. w.new e (was e a);
        };
        glimpses = k.glimpses;
        sent = λ from to m s. meant_more head.osts past new
            (record {
              flew = λ w f i. i;
              acted = λ e a. inr a;
              lives = λ c. omega arith;
              closed = omega arith;
              committed = omega arith;
              counts = λ b low le e c. c;
              stays = λ le n e. e;
            }) to m (k.sent from to m s);
        once = λ a b i j. k.once a b (was a i) (was b j);
        alone = λ who f r a b i has p is q. k.alone who f r a b i has (was a p) is (was b q);
        rises = λ a b i j. k.rises a b (was a i) (was b j);
        single = λ a b i j. k.single a b (was a i) (was b j);
      }
    where
      was : (e : Deed) → Acted (line (turn stamp (Target t)) (Grant lock None) ∷ past) e → Acted past e
      was e = ⊎_elim (λ (q : ◌≡◌ {A = Option Deed} None (Some e)). absurd (cc)) (λ (a : Acted past e). a)

  -- a transaction has the next number
  done_made : (d : Deed) → Transacts head.osts past (turn stamp (Target t)) d → brought d.op d.reply ≡ []
      → ((k : ℕ) → brings_cookie d.op d.reply.answer k ≡ false) → Done head.osts head.clients (line (turn stamp (Target t)) (Made d) ∷ past)
  done_made d k bare plain =
      let n : d.reply.txn.0 ≡ (next_number (server_of head.osts past)).0 = ap (λ (v : TxnOf). v.0) k.number in
      let b = k.boot in
      let room = k.numbers in
      done_does head.osts head.clients past (line (turn stamp (Target t)) (Made d) ∷ past) d
      (record {
        flew = λ w f i. i;
        acted = λ g a. a;
        more = λ g a. inr a;
        here = inl refl;
        last = λ g n. n;
        slot = λ who tag. refl;
        waiting = λ q i. i;
        glimpses = λ g i. i;
        sent = λ from to m s. s;
        sends = λ from to m s. s;
        hears = λ w x q. q;
        heard = λ w x q. q;
        hears_as = λ w f r q. q;
        lives = λ c. omega arith;
        closed = refl;
        committed = refl;
        lost = λ n. refl;
        has = λ w q. q;
        had = λ w q. q;
        low = h.phase.closed;
        boot = k.boot ∙ sym k.serves.closed;
        numbers = λ m. (omega arith, omega arith);
        bare = λ m. bare;
        plain = λ m. plain;
        top = λ m g a x. let le = h.history.last g a x in omega arith;
      })
      k.request (record { who = k.who; xid = k.xid; tag = k.tag; op = k.of_op }) (h.done.waits k.request k.waits) h.done

  pub done_txn : (d : Deed) → TxnsOk head.osts past (turn stamp (Target t)) t d
      → Done head.osts head.clients (line (turn stamp (Target t)) (Made d) ∷ past)
  done_txn d ok =
      let at = turn stamp (Target t) in
      done_made d (made head.osts past at t d ok) (txns_brings head.osts past at t d ok) (λ k. txns_plain head.osts past at t d k ok)
