-- Which lines of a target give locks at one target: an act its locks on names, one for each name in its way; who asks for a lock on an
-- object gets
-- one that grows beside all others, or is told to wait for one; and one that waited is granted.
use Rattle.std.proofs.Common.{◌≡◌, ℕ, ◌+◌, ◌-◌, ◌<◌, ◌≤◌, Bool, true, false, List, [], ◌∷◌, ◌++◌, Option, Some, None, ◌⊎◌, inl, inr, ⊎_elim}
use Rattle.std.proofs.Common.{refl, sym, subst, ap, ◌∙◌, arith}
use Rattle.std.specs.Prelude.{nat_eq, min, fold, map, filter, nat_lt, not, if◌then◌else◌}
use Rattle.std.specs.List.{list_any}
use Rattle.std.proofs.lemmas.Bool.{eqb-true, eqb-false, not-true, or_parts}
use Rattle.lu_base.specs.declared.ids.At.{At}
use Rattle.lu_base.specs.declared.ids.Node.TheVariants.{Target}
use Rattle.lu_base.specs.declared.ids.Stamp.{Stamp}
use Rattle.lu_base.specs.declared.ids.Who.{Who}
use Rattle.lu_base.specs.declared.locks.Ask.{Ask}
use Rattle.lu_base.specs.declared.locks.Extent.{Extent}
use Rattle.lu_base.specs.declared.locks.Lock.{Lock}
use Rattle.lu_base.specs.declared.locks.Mode.{Mode}
use Rattle.lu_base.specs.declared.locks.Policy.{Policy}
use Rattle.lu_base.specs.declared.locks.Policy.TheVariants.{Bits, Range}
use Rattle.lu_base.specs.declared.locks.Resource.{Resource}
use Rattle.lu_lock.specs.Conflict.{conflict, conflicts_with_any}
use Rattle.lu_lock.specs.Growth.{the_end, opposing, past_below, before_above, grown_extent, grown_policy, granted_policy}
use Rattle.lu_lock.specs.Overlap.{extents_meet, IsOrdered}
use Rattle.lu_lock.proofs.GrowthLaws.{granted_apart, past_below_within, before_above_within}
use Rattle.lu_msg.specs.declared.messages.Request.{Request as RequestOf}
use Rattle.lu_msg.specs.declared.operations.Op.{Op}
use Rattle.lu_msg.specs.declared.operations.Op.TheVariants as op
use Rattle.lu_held.specs.Locks.{same_resource}
use Rattle.lu_spec_entries.specs.Carried.{Deed}
use Rattle.lu_spec_entries.specs.Words.{Act, Grant, Wait, Line, line}
use Rattle.lu_spec_target.specs.Names.{locks_from}
use Rattle.lu_spec_target.specs.Phase.{first_of, greatest_cookie}
use Rattle.lu_spec_target.specs.Replies.{asks_of, locks_on}
use Rattle.lu_spec_client.specs.Caches.{brought}
use Rattle.lu_proof_lawful.specs.Covered.TargetStates.{Server, server_of}
use Rattle.lu_proof_lawful.specs.Covered.Deeds.{lock_asked, grown_by}
use Rattle.lu_proof_lawful.specs.Covered.ClientStates.{brings_cookie}
use Rattle.lu_proof_lawful.specs.Covered.Heads.{Head}
use Rattle.lu_proof_lawful.proofs.Preconditions.Acts.{Acted as ActedBy, acted, sized_bare, range_acted, wait_acted, wait_op, wait_bare}
use Rattle.lu_proof_lawful.proofs.Preconditions.Acts.{range_bare}
use Rattle.lu_proof_lawful.proofs.Preconditions.Guards.{In, HasRange}
use Rattle.lu_proof_lawful.proofs.Preconditions.StoryGuards.{ActsOk, RangeOk, WaitOk, PromoteOk}
use Rattle.lu_proof_lawful.proofs.Preconditions.ClientStoryGuards.{AsksInOrder}
use Rattle.lu_proof_lawful.proofs.Preconditions.Grown.{ShowsNext}
use Rattle.lu_proof_lawful.proofs.Preconditions.Lists.{self, in_append, in_right, in_filter}
use Rattle.lu_proof_lawful.proofs.Preconditions.LockLists.{greatest_least, greatest_has}
use Rattle.lu_proof_lawful.proofs.Preconditions.ClientLines.{some_is, from_high}
use Rattle.lu_proof_lawful.proofs.Invariants.Groups.{turn, HoldsAt}
use Rattle.lu_proof_lawful.proofs.Invariants.TargetGroups.{HasSlot, Acted, Promoted, tells_wait, Gave, Names, IsKind, AskedFor, Queueing}
use Rattle.lu_proof_lawful.proofs.Invariants.TargetGroups.{Locks}
use Rattle.lu_proof_lawful.proofs.Invariants.Hopes.{waits_bring, gave_names}
use Rattle.lu_proof_lawful.proofs.Invariants.Brings.{act_brings, act_plain, range_brings, range_names, range_tells, wait_brings, wait_tells}
use Rattle.lu_proof_lawful.proofs.Invariants.Brings.{wait_names}
use Rattle.lu_proof_lawful.proofs.Invariants.LockLists.{IsBitsKind, from_who, from_bits, from_once, bits_kind, bits_clear, none_of_any}
use Rattle.lu_proof_lawful.proofs.Invariants.LockLists.{on_resource}
use Rattle.lu_proof_lawful.proofs.Invariants.LocksStay.{still_closing}
use Rattle.lu_proof_lawful.proofs.Invariants.LocksGiven.{Gives, locks_add}

-- ---- what a lock grows to is a range in order

fold_least : (start : ℕ) (ns : List ℕ) → fold min start ns ≤ start
fold_least start [] = omega arith
fold_least start (n ∷ ns) = let e = fold_least (min start n) ns in omega arith

grown_kind : (mode : Mode) (asked : Extent) (granted waiting : List Extent) → IsKind mode (Range asked)
    → IsKind mode (Range (grown_extent asked granted waiting))
grown_kind mode asked granted waiting k = by (list_any (extents_meet asked) waiting)
  where
    by : (b : Bool) → IsKind mode (Range (if b then asked else record
        { first = past_below asked.first (granted ++ waiting); last = before_above asked.last (granted ++ waiting) }))
    by true = k
    by false =
        let low = past_below_within asked.first (granted ++ waiting) in
        let high = before_above_within asked.last (granted ++ waiting) k.1 in
        let first = k.0 in (
          omega (arith, low, high, first),
          fold_least the_end (map (λ extent. extent.first - 1)
              (filter (λ extent. nat_lt asked.last extent.first) (granted ++ waiting))),
          k.2,
        )

pub ask_kind : (ask : Ask) (granted waiting : List Ask) → HasRange ask.policy → IsKind ask.mode ask.policy
    → IsKind ask.mode (granted_policy ask granted waiting) × HasRange (granted_policy ask granted waiting)
ask_kind ask granted waiting r k = by ask.policy r k
  where
    by : (p : Policy) → HasRange p → IsKind ask.mode p → IsKind ask.mode
        (grown_policy p (opposing ask.mode granted) (opposing ask.mode waiting))
        × HasRange (grown_policy p (opposing ask.mode granted) (opposing ask.mode waiting))
    by (Range extent) r k = (grown_kind ask.mode extent (opposing ask.mode granted) (opposing ask.mode waiting) k, tt)
    by (Bits bits) r k = absurd r

kind_ordered : (mode : Mode) (p : Policy) → IsKind mode p → IsOrdered p
kind_ordered mode (Range extent) k = k.0
kind_ordered mode (Bits bits) k = tt

-- and it conflicts with nothing that is granted, where what was asked for doesn't
pub grown_clear : (v : Server) (others : List Lock) (asked : Lock) → IsKind asked.ask.mode asked.ask.policy
    → conflicts_with_any asked.ask (asks_of (locks_on asked.resource v.granted)) ≡ false
    → (k : Lock) → In k v.granted → asked.resource ≡ k.resource → conflict (grown_by v others asked).ask k.ask ≡ false
grown_clear v others asked kind free k i on =
    none_of_any (grown_by v others asked).ask (locks_on asked.resource v.granted)
    ((granted_apart asked.ask (asks_of (locks_on asked.resource v.granted)) (asks_of others)
    (kind_ordered asked.ask.mode asked.ask.policy kind)).0 free) k (on_resource asked.resource v.granted k i (sym on))

-- ---- an act

-- what is in Acts of this line's deed
module _ (head : Head) (past : List Line) (stamp : Stamp) (t : ℕ) (d : Deed) (shows : ShowsNext head past (turn stamp (Target t)) (Act d))
    (ok : ActsOk head.osts past (turn stamp (Target t)) t d) (all : HoldsAt head past) where
  abbrev acting : List Line
  acting = line (turn stamp (Target t)) (Act d) ∷ past

  abbrev act_at : At
  act_at = turn stamp (Target t)

  abbrev v : Server
  v = server_of head.osts past

  abbrev does : ActedBy head.osts past act_at d
  does = acted head.osts past act_at t d ok

  act_from : (l : Lock) → In l d.reply.locks → In l (locks_from v.cookie does.request.who does.wants)
  act_from l i = subst (λ (ls : List Lock). In l ls) does.locks i

  act_bits : (l : Lock) → In l d.reply.locks → IsBitsKind l.ask.mode l.ask.policy
  act_bits l i = from_bits v.cookie does.request.who does.wants l (act_from l i)

  act_high : (l : Lock) → In l d.reply.locks → v.cookie < l.cookie.0
  act_high l i = from_high v.cookie does.request.who does.wants l (act_from l i)

  act_gives : Gives head.osts head.clients past d d.reply.locks
  act_gives =
      record {
        who = λ l i. from_who v.cookie does.request.who does.wants l (act_from l i) ∙ sym does.who;
        kind = λ l i. bits_kind l.ask.mode l.ask.policy (act_bits l i);
        fresh = λ e l k g i q. let le = all.locks.low does.serves e l.cookie.0 g.0 (gave_names past e l g) in let lt = act_high k i
            in omega (arith, le, lt, q);
        apart = λ l k i j e. from_once v.cookie does.request.who does.wants l k (act_from l i) (act_from k j) e;
        clear = λ l k i j on. let r = all.locks.granted k j in bits_clear l.ask k.ask (act_bits l i) (all.locks.kinds r.0 k r.1);
        alone = λ l k i j. inr (bits_clear l.ask k.ask (act_bits l i) (bits_kind k.ask.mode k.ask.policy (act_bits k j)));
        has = subst (λ (w : Who). HasSlot head.clients past w) (sym does.who) (all.done.waits does.request does.waits).has;
      }

  act_room : greatest_cookie v.cookie d.reply.locks ≤ first_of v.boot + 4294967295
  act_room = by ok
    where
      by : ActsOk head.osts past act_at t d → greatest_cookie v.cookie d.reply.locks ≤ first_of v.boot + 4294967295
      by (inl a) = a.1.room
      by (inr a) = subst (λ (ls : List Lock). greatest_cookie v.cookie ls ≤ first_of v.boot + 4294967295)
          (sym (sized_bare head.osts past act_at d a.1)) all.locks.greatest.1

  act_named : (e : Deed) (k : ℕ) → d ≡ e → Names e k → (v.cookie < k) × (k ≤ greatest_cookie v.cookie d.reply.locks)
  act_named e k q n =
      ⊎_elim
      (λ (x : (l : Lock) × In l d.reply.locks × (l.cookie.0 ≡ k)). (
        subst (λ j. v.cookie < j) x.2 (act_high x.0 x.1),
        subst (λ j. j ≤ greatest_cookie v.cookie d.reply.locks) x.2
            (greatest_has v.cookie d.reply.locks x.0 x.1),
      ))
      (λ (x : brings_cookie d.op d.reply.answer k ≡ true). absurd (let no = act_plain head.osts past act_at t d k ok in cc))
      (subst (λ (x : Deed). Names x k) (sym q) n)

  act_waits : (e : Deed) (k : ℕ) → d ≡ e → tells_wait e.op e.reply.answer k ≡ true → ⊥
  act_waits e k q w =
      let yes = waits_bring d.op d.reply.answer k (subst (λ (x : Deed). tells_wait x.op x.reply.answer k ≡ true) (sym q) w) in
      let no = act_plain head.osts past act_at t d k ok in
      absurd (cc)

  act_gave : (e : Deed) (l : Lock) → Gave acting e l → ((d ≡ e) × In l d.reply.locks) ⊎ Gave past e l
  act_gave e l o = ⊎_elim
      (λ (q : d ≡ e). ⊎_elim
      (λ (i : In l (brought e.op e.reply)). inl (
        q,
        subst (λ (ls : List Lock). In l ls) (act_brings head.osts past act_at t d ok)
            (subst (λ (x : Deed). In l (brought x.op x.reply)) (sym q) i),
      ))
      (λ (p : Promoted past l × (tells_wait e.op e.reply.answer l.cookie.0 ≡ true)). absurd (act_waits e l.cookie.0 q p.1))
      o.1)
      (λ (b : Acted past e). inr (b, o.1))
      o.0

  pub locks_act : Locks head.osts head.clients acting
  locks_act =
      locks_add head past acting d d.reply.locks
      (record {
        acts = λ e k b n. ⊎_elim (λ (q : d ≡ e). (let r = act_named e k q n in inr (q, r.0, r.1))) (λ (o : Acted past e). inl o) b;
        bare = λ e k b w. ⊎_elim (λ (q : d ≡ e). absurd (act_waits e k q w)) (λ (o : Acted past e). inl o) b;
        gave = act_gave;
        mine = λ l i. (inl refl, inl (subst (λ (ls : List Lock). In l ls) (sym (act_brings head.osts past act_at t d ok)) i));
        promoted = λ l p. inl p;
        grows = record { acted = λ e b. inr b; promoted = λ l p. p; hears = λ w x b. b; heard = λ w f r b. b };
        made = does.boot;
        granted = refl;
        shown = refl;
        cookie = greatest_least v.cookie d.reply.locks;
        room = act_room;
        boot = refl;
        queued = λ l i. inl (i, λ k j q. let le = queued_low l i in let lt = act_high k j in omega (arith, le, lt, q));
        closed = refl;
        slots = λ w i. i;
        closing = λ l. still_closing head past act_at (Act d) shows l (λ q. absurd (cc));
        up = refl;
        known = λ c. refl;
        life = λ c. refl;
        held = λ c. refl;
        hopes = λ w k. refl;
        awaits = λ w k. refl;
        evicted = λ w i. i;
        says = record { was = λ from to m w. w; gone = λ w cookie x. x };
      })
      act_gives does.serves all
    where
      queued_low : (l : Lock) → In l v.queued → l.cookie.0 ≤ v.cookie
      queued_low l i = let q = all.locks.waits l i in all.locks.low does.serves q.deed l.cookie.0 q.acted
          (inr (waits_bring q.deed.op q.deed.reply.answer l.cookie.0 q.tells))

-- ---- who asks for a lock gets it

-- what a request asks for is a range in order
pub asked_kind : (head : Head) (past : List Line) (r : RequestOf) (resource : Resource) (mode : Mode) (extent : Extent)
    → In r (server_of head.osts past).waiting → r.op ≡ op.Enqueue resource mode extent → HoldsAt head past → IsKind mode (Range extent)
asked_kind head past r resource mode extent i e all =
    let w = all.done.waits r i in
    let a = w.asks in
    subst (λ (o : Op). AsksInOrder o) (ap (λ (x : RequestOf). x.op) (sym a.2) ∙ e) (all.ranges.flew r.who a.0 a.1)

module _ (head : Head) (past : List Line) (stamp : Stamp) (t : ℕ) (lock : Lock) (d : Deed)
    (shows : ShowsNext head past (turn stamp (Target t)) (Grant lock (Some d))) (ok : RangeOk head.osts past (turn stamp (Target t)) lock d)
    (all : HoldsAt head past) where
  abbrev ranging : List Line
  ranging = line (turn stamp (Target t)) (Grant lock (Some d)) ∷ past

  abbrev range_at : At
  range_at = turn stamp (Target t)

  abbrev s : Server
  s = server_of head.osts past

  abbrev ranges : ActedBy head.osts past range_at d
  ranges = range_acted head.osts past range_at lock d ok

  abbrev wanted : Lock
  wanted = lock_asked s ok.request ok.resource ok.mode ok.extent

  abbrev others : List Lock
  others = locks_on ok.resource s.queued

  range_who : d.reply.who ≡ ok.request.who
  range_who = ap (λ (e : Deed). e.reply.who) ok.is

  range_cookie : lock.cookie.0 ≡ s.cookie + 1
  range_cookie = ap (λ (l : Lock). l.cookie.0) ok.of_lock

  wanted_kind : IsKind wanted.ask.mode wanted.ask.policy
  wanted_kind = asked_kind head past ok.request ok.resource ok.mode ok.extent ok.waits ok.of_op all

  only_lock : (l : Lock) → In l (lock ∷ []) → lock ≡ l
  only_lock l (inl e) = e
  only_lock l (inr i) = absurd i

  range_gives : Gives head.osts head.clients past d (lock ∷ [])
  range_gives =
      record {
        who = λ l i. subst (λ (x : Lock). x.ask.who ≡ d.reply.who) (only_lock l i)
            (ap (λ (x : Lock). x.ask.who) ok.of_lock ∙ sym range_who);
        kind = λ l i. subst (λ (x : Lock). IsKind x.ask.mode x.ask.policy) (only_lock l i)
            (subst (λ (x : Lock). IsKind x.ask.mode x.ask.policy) (sym ok.of_lock)
            (ask_kind wanted.ask (asks_of (locks_on ok.resource s.granted)) (asks_of others) tt wanted_kind).0);
        fresh = λ e l k g i q. let le = all.locks.low ok.serves e l.cookie.0 g.0 (gave_names past e l g) in let is =
            ap (λ (x : Lock). x.cookie.0) (sym (only_lock k i)) ∙ range_cookie in omega (arith, le, is, q);
        apart = λ l k i j e. sym (only_lock l i) ∙ only_lock k j;
        clear = λ l k i j on. subst (λ (x : Lock). x.resource ≡ k.resource → conflict x.ask k.ask ≡ false) (only_lock l i)
            (subst (λ (x : Lock). x.resource ≡ k.resource → conflict x.ask k.ask ≡ false) (sym ok.of_lock)
            (λ q. grown_clear s others wanted wanted_kind (or_parts
            (conflicts_with_any wanted.ask (asks_of (locks_on ok.resource s.granted))) (conflicts_with_any wanted.ask (asks_of others))
            ok.free).0 k j q))
            on;
        alone = λ l k i j. inl (sym (only_lock l i) ∙ only_lock k j);
        has = subst (λ (w : Who). HasSlot head.clients past w) (sym range_who) (all.done.waits ok.request ok.waits).has;
      }

  range_named : (e : Deed) (k : ℕ) → d ≡ e → Names e k → lock.cookie.0 ≡ k
  range_named e k q n =
      ⊎_elim
      (λ (x : (l : Lock) × In l d.reply.locks × (l.cookie.0 ≡ k)). absurd
      (subst (λ (ls : List Lock). In x.0 ls) (range_bare head.osts past range_at lock d ok) x.1))
      (λ (x : brings_cookie d.op d.reply.answer k ≡ true). eqb-true lock.cookie.0 k
      (sym (range_names head.osts past range_at lock d k ok) ∙ x))
      (subst (λ (x : Deed). Names x k) (sym q) n)

  range_waits : (e : Deed) (k : ℕ) → d ≡ e → tells_wait e.op e.reply.answer k ≡ true → ⊥
  range_waits e k q w =
      let yes = subst (λ (x : Deed). tells_wait x.op x.reply.answer k ≡ true) (sym q) w in
      let no = range_tells head.osts past range_at lock d k ok in
      absurd (cc)

  -- no line that grants a lock for a request is of one that waited
  none_promoted : (l : Lock) → ((◌≡◌ {A = Option Deed} (Some d) None) × (lock ≡ l)) ⊎ Promoted past l → Promoted past l
  none_promoted l (inl q) = absurd (let e = q.0 in cc)
  none_promoted l (inr p) = p

  range_gave : (e : Deed) (l : Lock) → Gave ranging e l → ((d ≡ e) × In l (lock ∷ [])) ⊎ Gave past e l
  range_gave e l o = ⊎_elim
      (λ (x : Some d ≡ Some e). let q = some_is d e x in ⊎_elim
      (λ (i : In l (brought e.op e.reply)). inl (
        q,
        subst (λ (ls : List Lock). In l ls) (range_brings head.osts past range_at lock d ok)
            (subst (λ (y : Deed). In l (brought y.op y.reply)) (sym q) i),
      ))
      (λ (p : Promoted ranging l × (tells_wait e.op e.reply.answer l.cookie.0 ≡ true)). absurd (range_waits e l.cookie.0 q p.1))
      o.1)
      (λ (b : Acted past e). inr (
        b,
        ⊎_elim (λ (i : In l (brought e.op e.reply)). inl i)
            (λ (p : Promoted ranging l × (tells_wait e.op e.reply.answer l.cookie.0 ≡ true)). inr (none_promoted l p.0, p.1)) o.1,
      ))
      o.0

  pub locks_range : Locks head.osts head.clients ranging
  locks_range =
      locks_add head past ranging d (lock ∷ [])
      (record {
        acts = λ e k b n. ⊎_elim
            (λ (x : Some d ≡ Some e). let q = some_is d e x in let is = range_named e k q n in let next = range_cookie
            in inr (q, omega (arith, is, next), omega (arith, is)))
            (λ (o : Acted past e). inl o)
            b;
        bare = λ e k b w. ⊎_elim (λ (x : Some d ≡ Some e). absurd (range_waits e k (some_is d e x) w)) (λ (o : Acted past e). inl o) b;
        gave = range_gave;
        mine = λ l i. (inl refl, inl (subst (λ (ls : List Lock). In l ls) (sym (range_brings head.osts past range_at lock d ok)) i));
        promoted = λ l p. inl (none_promoted l p);
        grows = record { acted = λ e b. inr b; promoted = λ l p. inr p; hears = λ w x b. b; heard = λ w f r b. b };
        made = ranges.boot;
        granted = refl;
        shown = refl;
        cookie = omega arith;
        room = let next = range_cookie in let room = ok.room in omega (arith, next, room);
        boot = refl;
        queued = λ l i.
            let was = (in_filter (λ (k : Lock). not (nat_eq k.cookie.0 lock.cookie.0)) l s.queued i).0 in
            inl (
              was,
              λ k j q. let le = queued_low l was in let is = ap (λ (x : Lock). x.cookie.0) (sym (only_lock k j)) ∙ range_cookie
                  in omega (arith, le, is, q),
            );
        closed = refl;
        slots = λ w i. i;
        closing = λ l. still_closing head past range_at (Grant lock (Some d)) shows l (λ q. absurd (cc));
        up = refl;
        known = λ c. refl;
        life = λ c. refl;
        held = λ c. refl;
        hopes = λ w k. refl;
        awaits = λ w k. refl;
        evicted = λ w i. i;
        says = record { was = λ from to m w. w; gone = λ w cookie x. x };
      })
      range_gives ok.serves all
    where
      queued_low : (l : Lock) → In l s.queued → l.cookie.0 ≤ s.cookie
      queued_low l i = let q = all.locks.waits l i in all.locks.low ok.serves q.deed l.cookie.0 q.acted
          (inr (waits_bring q.deed.op q.deed.reply.answer l.cookie.0 q.tells))

-- ---- or is told to wait for it

module _ (head : Head) (past : List Line) (stamp : Stamp) (t : ℕ) (lock : Lock) (d : Deed)
    (shows : ShowsNext head past (turn stamp (Target t)) (Wait lock d)) (ok : WaitOk head.osts past (turn stamp (Target t)) lock d)
    (all : HoldsAt head past) where
  abbrev waiting : List Line
  waiting = line (turn stamp (Target t)) (Wait lock d) ∷ past

  abbrev wait_at : At
  wait_at = turn stamp (Target t)

  abbrev w : Server
  w = server_of head.osts past

  abbrev waits : ActedBy head.osts past wait_at d
  waits = wait_acted head.osts past wait_at lock d ok

  wait_who : d.reply.who ≡ ok.request.who
  wait_who = ap (λ (e : Deed). e.reply.who) ok.is

  wait_cookie : lock.cookie.0 ≡ w.cookie + 1
  wait_cookie = ap (λ (l : Lock). l.cookie.0) ok.of_lock

  wait_named : (e : Deed) (k : ℕ) → d ≡ e → Names e k → lock.cookie.0 ≡ k
  wait_named e k q n =
      ⊎_elim
      (λ (x : (l : Lock) × In l d.reply.locks × (l.cookie.0 ≡ k)). absurd
      (subst (λ (ls : List Lock). In x.0 ls) (wait_bare head.osts past wait_at lock d ok) x.1))
      (λ (x : brings_cookie d.op d.reply.answer k ≡ true). eqb-true lock.cookie.0 k
      (sym (wait_names head.osts past wait_at lock d k ok) ∙ x))
      (subst (λ (x : Deed). Names x k) (sym q) n)

  -- it gives none yet: what waited before has another cookie
  wait_gave : (e : Deed) (l : Lock) → Gave waiting e l → ((d ≡ e) × In l []) ⊎ Gave past e l
  wait_gave e l o = ⊎_elim
      (λ (q : d ≡ e). ⊎_elim
      (λ (i : In l (brought e.op e.reply)). absurd (subst (λ (ls : List Lock). In l ls) (wait_brings head.osts past wait_at lock d ok)
      (subst (λ (y : Deed). In l (brought y.op y.reply)) (sym q) i)))
      (λ (p : Promoted past l × (tells_wait e.op e.reply.answer l.cookie.0 ≡ true)).
      let is = wait_named e l.cookie.0 q (inr (waits_bring e.op e.reply.answer l.cookie.0 p.1)) in
      let r = all.locks.promoted l p.0 in
      let le = all.locks.low ok.serves r.0 l.cookie.0 r.1.0 (gave_names past r.0 l r.1) in
      let next = wait_cookie in
      absurd (omega (arith, is, le, next)))
      o.1)
      (λ (b : Acted past e). inr (b, o.1))
      o.0

  wait_queueing : Queueing head.osts head.clients waiting lock
  wait_queueing =
      record {
        deed = d;
        acted = inl refl;
        who = ap (λ (l : Lock). l.ask.who) ok.of_lock ∙ sym wait_who;
        tells = wait_tells head.osts past wait_at lock d lock.cookie.0 ok ∙ self lock.cookie.0;
        asked = subst (λ (l : Lock). AskedFor d l) (sym ok.of_lock) (ok.extent, wait_op head.osts past wait_at lock d ok);
        kind = subst (λ (l : Lock). IsKind l.ask.mode l.ask.policy) (sym ok.of_lock)
            (asked_kind head past ok.request ok.resource ok.mode ok.extent ok.waits ok.of_op all);
        ranged = subst (λ (l : Lock). HasRange l.ask.policy) (sym ok.of_lock) tt;
        boot = waits.boot ∙ sym ok.serves.closed;
        has = subst (λ (x : Who). HasSlot head.clients past x) (sym (ap (λ (l : Lock). l.ask.who) ok.of_lock))
            (all.done.waits ok.request ok.waits).has;
        new = λ e k o q. ⊎_elim
            (λ (n : (d ≡ e) × ⊥). n.1)
            (λ (b : Gave past e k). let le = all.locks.low ok.serves e k.cookie.0 b.0 (gave_names past e k b) in let next = wait_cookie
            in omega (arith, le, next, q))
            (wait_gave e k o);
      }

  pub locks_wait : Locks head.osts head.clients waiting
  locks_wait =
      locks_add head past waiting d []
      (record {
        acts = λ e k b n. ⊎_elim
            (λ (q : d ≡ e). let is = wait_named e k q n in let next = wait_cookie in inr (q, omega (arith, is, next), omega (arith, is)))
            (λ (o : Acted past e). inl o)
            b;
        bare = λ e k b x. ⊎_elim (λ (q : d ≡ e). inr (subst (λ (y : Deed). brought y.op y.reply ≡ []) q
            (wait_brings head.osts past wait_at lock d ok))) (λ (o : Acted past e). inl o) b;
        gave = wait_gave;
        mine = λ l i. absurd i;
        promoted = λ l p. inl p;
        grows = record { acted = λ e b. inr b; promoted = λ l p. p; hears = λ x y b. b; heard = λ x f r b. b };
        made = waits.boot;
        granted = refl;
        shown = refl;
        cookie = omega arith;
        room = let next = wait_cookie in let room = ok.room in omega (arith, next, room);
        boot = refl;
        queued = λ l i. ⊎_elim
            (λ (j : In l w.queued). inl (j, λ k x q. absurd x))
            (λ (j : In l (lock ∷ [])). ⊎_elim (λ (e : lock ≡ l). inr
            (subst (λ (x : Lock). Queueing head.osts head.clients waiting x) e wait_queueing)) (λ (n : ⊥). absurd n) j)
            (in_append l w.queued (lock ∷ []) i);
        closed = refl;
        slots = λ x i. i;
        closing = λ l. still_closing head past wait_at (Wait lock d) shows l (λ q. absurd (cc));
        up = refl;
        known = λ c. refl;
        life = λ c. refl;
        held = λ c. refl;
        hopes = λ x k. refl;
        awaits = λ x k. refl;
        evicted = λ x i. i;
        says = record { was = λ from to m x. x; gone = λ x cookie y. y };
      })
      (record {
        who = λ l i. absurd i;
        kind = λ l i. absurd i;
        fresh = λ e l k g i. absurd i;
        apart = λ l k i. absurd i;
        clear = λ l k i. absurd i;
        alone = λ l k i. absurd i;
        has = subst (λ (x : Who). HasSlot head.clients past x) (sym wait_who) (all.done.waits ok.request ok.waits).has;
      })
      ok.serves all

-- ---- a lock that waited is granted

module _ (head : Head) (past : List Line) (stamp : Stamp) (t : ℕ) (lock : Lock)
    (shows : ShowsNext head past (turn stamp (Target t)) (Grant lock None)) (ok : PromoteOk head.osts past lock)
    (all : HoldsAt head past) where
  abbrev promoting : List Line
  promoting = line (turn stamp (Target t)) (Grant lock None) ∷ past

  abbrev p : Server
  p = server_of head.osts past

  abbrev beside : List Lock
  beside = ok.ahead ++ ok.later

  in_queue : In ok.asked p.queued
  in_queue =
      (in_filter (λ (l : Lock). same_resource l.resource lock.resource) ok.asked p.queued
      (subst (λ (ls : List Lock). In ok.asked ls) (sym ok.queue) (in_right ok.asked ok.ahead (ok.asked ∷ ok.later) (inl refl)))).0

  abbrev q : Queueing head.osts head.clients past ok.asked
  q = all.locks.waits ok.asked in_queue

  same_cookie : lock.cookie.0 ≡ ok.asked.cookie.0
  same_cookie = ap (λ (l : Lock). l.cookie.0) ok.of_lock

  same_on : ok.asked.resource ≡ lock.resource
  same_on = ap (λ (l : Lock). l.resource) (sym ok.of_lock)

  the_lock : (l : Lock) → In l (lock ∷ []) → lock ≡ l
  the_lock l (inl e) = e
  the_lock l (inr i) = absurd i

  lock_tells : tells_wait q.deed.op q.deed.reply.answer lock.cookie.0 ≡ true
  lock_tells = ap (tells_wait q.deed.op q.deed.reply.answer) same_cookie ∙ q.tells

  lock_kind : IsKind lock.ask.mode lock.ask.policy × HasRange lock.ask.policy
  lock_kind = subst (λ (l : Lock). IsKind l.ask.mode l.ask.policy × HasRange l.ask.policy) (sym ok.of_lock)
      (ask_kind ok.asked.ask (asks_of (locks_on ok.asked.resource p.granted)) (asks_of beside) q.ranged q.kind)

  asked_free : conflicts_with_any ok.asked.ask (asks_of (locks_on ok.asked.resource p.granted)) ≡ false
  asked_free =
      ap (λ (r : Resource). conflicts_with_any ok.asked.ask (asks_of (locks_on r p.granted))) same_on
      ∙ (or_parts (conflicts_with_any ok.asked.ask (asks_of (locks_on lock.resource p.granted)))
      (conflicts_with_any ok.asked.ask (asks_of ok.ahead)) ok.free).0

  promote_gives : Gives head.osts head.clients past q.deed (lock ∷ [])
  promote_gives =
      record {
        who = λ l i. subst (λ (x : Lock). x.ask.who ≡ q.deed.reply.who) (the_lock l i) (ap (λ (x : Lock). x.ask.who) ok.of_lock ∙ q.who);
        kind = λ l i. subst (λ (x : Lock). IsKind x.ask.mode x.ask.policy) (the_lock l i) lock_kind.0;
        fresh = λ e l k g i x. q.new e l g (x ∙ ap (λ (y : Lock). y.cookie.0) (sym (the_lock k i)) ∙ same_cookie);
        apart = λ l k i j e. sym (the_lock l i) ∙ the_lock k j;
        clear = λ l k i j on. subst (λ (x : Lock). x.resource ≡ k.resource → conflict x.ask k.ask ≡ false) (the_lock l i)
            (subst (λ (x : Lock). x.resource ≡ k.resource → conflict x.ask k.ask ≡ false) (sym ok.of_lock)
            (λ x. grown_clear p beside ok.asked q.kind asked_free k j x))
            on;
        alone = λ l k i j. inl (sym (the_lock l i) ∙ the_lock k j);
        has = subst (λ (w : Who). HasSlot head.clients past w) q.who q.has;
      }

  promote_gave : (e : Deed) (l : Lock) → Gave promoting e l → ((q.deed ≡ e) × In l (lock ∷ [])) ⊎ Gave past e l
  promote_gave e l o =
      ⊎_elim
      (λ (i : In l (brought e.op e.reply)). inr (was, inl i))
      (λ (x : Promoted promoting l × (tells_wait e.op e.reply.answer l.cookie.0 ≡ true)). ⊎_elim
      (λ (y : (◌≡◌ {A = Option Deed} None None) × (lock ≡ l)).
      let tells : tells_wait e.op e.reply.answer lock.cookie.0 ≡ true = ap (λ (k : Lock). tells_wait e.op e.reply.answer k.cookie.0) y.1
      ∙ x.1 in
      inl (
        all.locks.named q.deed e lock.cookie.0 q.acted was (inr (waits_bring q.deed.op q.deed.reply.answer lock.cookie.0 lock_tells))
            (inr (waits_bring e.op e.reply.answer lock.cookie.0 tells)),
        inl y.1,
      ))
      (λ (y : Promoted past l). inr (was, inr (y, x.1)))
      x.0)
      o.1
    where
      none_done : (None ≡ Some e) ⊎ Acted past e → Acted past e
      none_done (inl x) = absurd (cc)
      none_done (inr a) = a

      was : Acted past e
      was = none_done o.0

  pub locks_promote : Locks head.osts head.clients promoting
  locks_promote =
      locks_add head past promoting q.deed (lock ∷ [])
      (record {
        acts = λ e k b n. ⊎_elim (λ (x : None ≡ Some e). absurd (cc)) (λ (o : Acted past e). inl o) b;
        bare = λ e k b x. ⊎_elim (λ (y : None ≡ Some e). absurd (cc)) (λ (o : Acted past e). inl o) b;
        gave = promote_gave;
        mine = λ l i. subst (λ (x : Lock). Gave promoting q.deed x) (the_lock l i) (inr q.acted, inr (inl (refl, refl), lock_tells));
        promoted = λ l x. ⊎_elim
            (λ (y : (◌≡◌ {A = Option Deed} None None) × (lock ≡ l)).
            let r = subst (λ (k : Lock). (tells_wait q.deed.op q.deed.reply.answer k.cookie.0 ≡ true) × AskedFor q.deed k
            × HasRange k.ask.policy) y.1 (lock_tells, subst (λ (k : Lock). AskedFor q.deed k) (sym ok.of_lock) q.asked, lock_kind.1) in
            inr (inl y.1, r.0, r.1, r.2))
            (λ (y : Promoted past l). inl y)
            x;
        grows = record { acted = λ e b. inr b; promoted = λ l x. inr x; hears = λ w x b. b; heard = λ w f r b. b };
        made = q.boot ∙ ok.serves.closed;
        granted = refl;
        shown = refl;
        cookie = omega arith;
        room = let le = low in let is = same_cookie in let most = all.locks.greatest.1 in omega (arith, le, is, most);
        boot = refl;
        queued = λ l i.
            let was = in_filter (λ (k : Lock). not (nat_eq k.cookie.0 lock.cookie.0)) l p.queued i in
            inl (
              was.0,
              λ k j e. let other = eqb-false l.cookie.0 lock.cookie.0 (not-true (nat_eq l.cookie.0 lock.cookie.0) was.1)
                  in other (sym (ap (λ (x : Lock). x.cookie.0) (the_lock k j) ∙ e)),
            );
        closed = refl;
        slots = λ w i. i;
        closing = λ l. still_closing head past (turn stamp (Target t)) (Grant lock None) shows l (λ x. absurd (cc));
        up = refl;
        known = λ c. refl;
        life = λ c. refl;
        held = λ c. refl;
        hopes = λ w k. refl;
        awaits = λ w k. refl;
        evicted = λ w i. i;
        says = record { was = λ from to m w. w; gone = λ w cookie x. x };
      })
      promote_gives ok.serves all
    where
      low : ok.asked.cookie.0 ≤ p.cookie
      low = all.locks.low ok.serves q.deed ok.asked.cookie.0 q.acted
          (inr (waits_bring q.deed.op q.deed.reply.answer ok.asked.cookie.0 q.tells))
