-- The history that stands, at each line but a close: a transaction adds an item, an eviction forgets opens, a commit moves what stands to
-- the disk.
use Rattle.std.proofs.Common.{◌≡◌, ℕ, ◌+◌, ◌<◌, ◌≤◌, Bool, true, false, List, [], ◌∷◌, Option, Some, None, ◌⊎◌, inl, inr, ⊎_elim, refl, sym}
use Rattle.std.proofs.Common.{subst, ap, ◌∙◌, arith}
use Rattle.std.specs.Prelude.{nat_lt}
use Rattle.std.proofs.lemmas.Bool.{cond-false, lt-ltb, not_from_true, cases_lt}
use Rattle.lu_base.specs.declared.ids.At.{At}
use Rattle.lu_base.specs.declared.ids.Node.TheVariants.{Client, Target}
use Rattle.lu_base.specs.declared.ids.Stamp.{Stamp}
use Rattle.lu_base.specs.declared.ids.Txn.{Txn as TxnOf}
use Rattle.lu_base.specs.declared.ids.Who.{Who}
use Rattle.lu_base.specs.declared.locks.Cause.{Cause}
use Rattle.lu_base.specs.declared.locks.Lock.{Lock}
use Rattle.lu_msg.specs.declared.messages.Message.TheVariants as message
use Rattle.lu_msg.specs.declared.messages.Reply.{Reply as ReplyTo}
use Rattle.lu_part.specs.declared.parts.Part.{Part}
use Rattle.lu_spec_machine.specs.Footprint.{Operation, empty, touches, writes, forget, Same}
use Rattle.lu_spec_machine.specs.Objects.{object_touches}
use Rattle.lu_spec_machine.specs.Removal.{Item, Acts, pick, contents}
use Rattle.lu_spec_machine.specs.Seen.{seen}
use Rattle.lu_spec_machine.proofs.Footprints.{same_refl, same_trans}
use Rattle.lu_spec_entries.specs.Carried.{Deed, Flight, Disk}
use Rattle.lu_spec_entries.specs.Words.{Heard, Hold, Act, Txn as Made, Grant, Wait, Answers, Boot, Evict, Joined, Line, line}
use Rattle.lu_spec_target.specs.Leaving.{is_over}
use Rattle.lu_spec_target.specs.Lives.{is_life}
use Rattle.lu_spec_target.specs.Phase.{first_of}
use Rattle.lu_spec_target.specs.Replies.{seen_in}
use Rattle.lu_proof_lawful.specs.Covered.TargetParts.{operation}
use Rattle.lu_proof_lawful.specs.Covered.TargetStates.{none, server_of, closed_of, lives_of, evicted_of, next_number}
use Rattle.lu_proof_lawful.specs.Covered.TargetCloses.{disk_of, is_lost}
use Rattle.lu_proof_lawful.specs.Covered.Deeds.{asked}
use Rattle.lu_proof_lawful.specs.Covered.ClientStates.{life_of, known_of, is_own}
use Rattle.lu_proof_lawful.specs.Covered.Heads.{Head}
use Rattle.lu_proof_lawful.proofs.Preconditions.Guards.{In}
use Rattle.lu_proof_lawful.proofs.Preconditions.StoryGuards.{HeardOk, HeldOk, GivenOf, ActOk, ActsOk, TxnOk, TxnsOk, WriteOk, RangeOk}
use Rattle.lu_proof_lawful.proofs.Preconditions.StoryGuards.{GrantsOk, WaitOk, AnswersOk, BootOk, JoinedOk, ComesOk}
use Rattle.lu_proof_lawful.proofs.Preconditions.Lists.{in_append, in_left, in_right, own_is}
use Rattle.lu_proof_lawful.proofs.Preconditions.LifeLists.{stands_life, life_left, over_itself}
use Rattle.lu_proof_lawful.proofs.Preconditions.ClientLocks.{any_false}
use Rattle.lu_proof_lawful.proofs.Invariants.Groups.{turn, HeardAs, ItemOk, items_of, History, HoldsAt}
use Rattle.lu_proof_lawful.proofs.Invariants.TargetGroups.{Flew, Acted, SawIn, HasSlot, IsMade, Stands, Counts}
use Rattle.lu_proof_lawful.proofs.Invariants.GrantLines.{grant_acted}
use Rattle.lu_proof_lawful.proofs.Invariants.DoneSends.{log_seen}
use Rattle.lu_proof_lawful.proofs.Invariants.Keeps.{heard_flew, saw_flew, now_heard}
use Rattle.lu_proof_lawful.proofs.Invariants.ObjectDeeds.{ToldOn, range_told, wait_told, sized_told, answers_told, write_op, Makes, makes}
use Rattle.lu_proof_lawful.proofs.Invariants.LifeLists.{put_or}
use Rattle.lu_proof_lawful.proofs.Invariants.ItemLists.{same_forgot, forgot_same, same_after, alike_same, in_seen, upto}
use Rattle.lu_proof_lawful.proofs.Invariants.ItemLines.{write_touches, write_names, seen_nothing, items_grow, item_deed, seen_deed}
use Rattle.lu_proof_lawful.proofs.Invariants.ItemLines.{rises_last, none_lost}

-- ---- what a life hears

-- a reply that a life with a slot hears is to what counts, and so stands, with all that it saw
reply_stands : (head : Head) (past : List Line) (c : ℕ) (f : Flight) (r : ReplyTo) → HeardOk past c f r → HoldsAt head past
    → HasSlot head.clients past (life_of c past) → (is_lost head.osts past r.txn.0 ≡ false)
    × ((n : ℕ) → In n r.seen → is_lost head.osts past n ≡ false)
reply_stands head past c f r ok h has =
    let s = h.done.sent (Target ok.from) (Client c) (message.Reply r) ok.was in
    let knows = (h.lives.knows (life_of c past) has).1 in
    let client : known_of (life_of c past).client past ≡ known_of c past = ap (λ (d : ℕ). known_of d past) (h.phase.client c) in
    let boot = ok.boot in
    let counts = s.counts (omega arith) in
    let txn : s.deed.reply.txn.0 ≡ r.txn.0 = ap (λ (x : ReplyTo). x.txn.0) (sym s.is) in
    let saw : s.deed.reply.seen ≡ r.seen = ap (λ (x : ReplyTo). x.seen) (sym s.is) in (
      subst (λ (n : ℕ). is_lost head.osts past n ≡ false) txn (number s.deed s.acted counts (s.deed.reply.txn.0) refl),
      λ n i. seen_of s.deed s.acted counts n (subst (λ (ns : List ℕ). In n ns) (sym saw) i),
    )
  where
    number : (d : Deed) → Acted past d → Counts head.osts past d → (n : ℕ) → d.reply.txn.0 ≡ n → is_lost head.osts past d.reply.txn.0
        ≡ false
    number d a (inr k) n e = k.1
    number d a (inl k) n e = ⊎_elim
        (λ (z : d.reply.txn.0 ≡ 0). ap (is_lost head.osts past) z ∙ none_lost head.osts past)
        (λ (z : 0 < d.reply.txn.0). h.history.later d.reply.txn.0 (let b = (h.done.numbers d a z).0 in omega (arith, b, k)))
        (zero_or d.reply.txn.0)
      where
        zero_or : (n : ℕ) → (n ≡ 0) ⊎ (0 < n)
        zero_or n = ⊎_elim (λ (lt : 0 < n). inr lt) (λ (le : n ≤ 0). inl (omega arith)) (cases_lt 0 n)

    seen_of : (d : Deed) → Acted past d → Counts head.osts past d → (n : ℕ) → In n d.reply.seen → is_lost head.osts past n ≡ false
    seen_of d a (inl k) n i = h.history.fresh d a k n i
    seen_of d a (inr k) n i = h.history.stands d a k.0 k.1 n i

pub history_heard : (head : Head) (past : List Line) (stamp : Stamp) (c t : ℕ) (f : Flight) (r : ReplyTo) → HeardOk past c f r
    → HoldsAt head past → History head.osts head.clients (line (turn stamp (Client c)) (Heard t f r) ∷ past)
history_heard head past stamp c t f r ok h =
    let g = h.history in
    record {
      tree = g.tree;
      disk = g.disk;
      on_disk = g.on_disk;
      log = g.log;
      logged = g.logged;
      log_rises = g.log_rises;
      later = g.later;
      top = g.top;
      last = g.last;
      saw = g.saw;
      stands = g.stands;
      heard = λ who x k i has. ⊎_elim
          (λ (e : (is_own who past (Client c) ≡ true) × (f ≡ x) × (r ≡ k)). let own = own_is who past c e.0 in
          subst (λ (y : ReplyTo). (is_lost head.osts past y.txn.0 ≡ false) × ((n : ℕ) → In n y.seen → is_lost head.osts past n ≡ false)) e.2
          (reply_stands head past c f r ok h (subst (λ (w : Who). HasSlot head.clients past w) own has)))
          (λ (j : HeardAs past who x k). g.heard who x k j has)
          i;
      held = λ who n i has. ⊎_elim
          (λ (e : (is_own who past (Client c) ≡ true) × In n r.seen).
          (reply_stands head past c f r ok h (subst (λ (w : Who). HasSlot head.clients past w) (own_is who past c e.0) has)).1 n e.1)
          (λ (j : SawIn past who n). g.held who n j has)
          i;
      fresh = g.fresh;
      items = g.items;
      items_have = g.items_have;
      items_fall = g.items_fall;
      log_of = g.log_of;
    }

-- ---- a lock is held

-- what came with the reply that brought it was heard
held_stands : (head : Head) (past : List Line) (c t : ℕ) (lock : Lock) (seen : List ℕ) → HeldOk past c t lock seen → HoldsAt head past
    → HasSlot head.clients past (life_of c past) → (n : ℕ) → In n seen → is_lost head.osts past n ≡ false
held_stands head past c t lock seen ok h has n i =
    (h.history.heard (life_of c past) ok.flight ok.reply (now_heard past ok.at t c ok.flight ok.reply ok.heard ok.here) has).1 n
    (subst (λ (ns : List ℕ). In n ns) ok.saw i)

-- what came with a grant of the boot that serves stands
given_stands : (head : Head) (past : List Line) (c t : ℕ) (lock : Lock) (seen : List ℕ) → GivenOf past c t lock seen → HoldsAt head past
    → HasSlot head.clients past (life_of c past) → (n : ℕ) → In n seen → is_lost head.osts past n ≡ false
given_stands head past c t lock seen ok h has n i =
    let told = h.done.sent (Target t) (Client c) (message.Grant ok.notice) ok.was in
    let knows = (h.lives.knows (life_of c past) has).1 in
    let client : known_of (life_of c past).client past ≡ known_of c past = ap (λ (d : ℕ). known_of d past) (h.phase.client c) in
    let boot = ok.boot in
    told.fresh (omega arith) n (subst (λ (ns : List ℕ). In n ns) ok.saw i)

pub history_hold : (head : Head) (past : List Line) (stamp : Stamp) (c t : ℕ) (lock : Lock) (marked : Bool) (size : Option ℕ)
    (seen : List ℕ) → ((marked ≡ false) × HeldOk past c t lock seen) ⊎ GivenOf past c t lock seen → HoldsAt head past
    → History head.osts head.clients (line (turn stamp (Client c)) (Hold t lock marked size seen) ∷ past)
history_hold head past stamp c t lock marked size seen ok h =
    let g = h.history in
    record {
      tree = g.tree;
      disk = g.disk;
      on_disk = g.on_disk;
      log = g.log;
      logged = g.logged;
      log_rises = g.log_rises;
      later = g.later;
      top = g.top;
      last = g.last;
      saw = g.saw;
      stands = g.stands;
      heard = g.heard;
      held = λ who n i has. ⊎_elim
          (λ (e : (is_own who past (Client c) ≡ true) × In n seen). came ok
          (subst (λ (w : Who). HasSlot head.clients past w) (own_is who past c e.0) has) n e.1)
          (λ (j : SawIn past who n). g.held who n j has)
          i;
      fresh = g.fresh;
      items = g.items;
      items_have = g.items_have;
      items_fall = g.items_fall;
      log_of = g.log_of;
    }
  where
    came : ((marked ≡ false) × HeldOk past c t lock seen) ⊎ GivenOf past c t lock seen → HasSlot head.clients past (life_of c past)
        → (n : ℕ) → In n seen → is_lost head.osts past n ≡ false
    came (inl k) = held_stands head past c t lock seen k.1 h
    came (inr k) = given_stands head past c t lock seen k h

-- ---- what is done

-- it makes no transaction, and saw what the log has of some parts
record Idle (osts : ℕ) (past : List Line) (d : Deed) : Type 0 where
  number : d.reply.txn.0 ≡ 0
  parts : List Part
  saw : d.reply.seen ≡ seen_in parts (server_of osts past).log

module _ (head : Head) (past : List Line) (h : HoldsAt head past) where
  -- an act on names saw what the log has of some parts
  names_idle : (at : At) (d : Deed) → ActOk head.osts past at d → Idle head.osts past d
  names_idle at d ok =
      record {
        number = ap (λ (e : Deed). e.reply.txn.0) ok.is;
        parts =
            touches head.osts (server_of head.osts past).tree (asked ok.request none);
        saw = ap (λ (e : Deed). e.reply.seen) ok.is;
      }

  -- and so did what is answered on an object
  told_idle : (d : Deed) → ToldOn head.osts past d → Idle head.osts past d
  told_idle d k = record {
    number = ap (λ (e : Deed). e.reply.txn.0) k.is;
    parts = object_touches k.request.op k.answer;
    saw =
        ap (λ (e : Deed). e.reply.seen) k.is;
  }

  acts_idle : (at : At) (t : ℕ) (d : Deed) → ActsOk head.osts past at t d → Idle head.osts past d
  acts_idle at t d (inl ok) = names_idle at d ok.1
  acts_idle at t d (inr ok) = told_idle d (sized_told head.osts past at d ok.1)

  -- over a line that does no more than that: what was done then
  module _ (Now : Deed → Type 0) (split : (e : Deed) → Now e → Idle head.osts past e ⊎ Acted past e)
      (more : (e : Deed) → Acted past e → Now e) where
    made_before : (e : Deed) → Now e → IsMade e → Acted past e
    made_before e a m = by (split e a)
      where
        by : Idle head.osts past e ⊎ Acted past e → Acted past e
        by (inl k) = absurd (let z = k.number in omega (arith, z, m))
        by (inr b) = b

    saw_before : (e : Deed) (n : ℕ) → Now e → In n e.reply.seen
        → ((n ≤ (server_of head.osts past).committed.0) ⊎ ((x : Deed) × Now x × IsMade x × (x.reply.txn.0 ≡ n)))
        × (IsMade e → n < e.reply.txn.0)
    saw_before e n a i = by (split e a)
      where
        wider : (n ≤ (server_of head.osts past).committed.0) ⊎ ((x : Deed) × Acted past x × IsMade x × (x.reply.txn.0 ≡ n))
            → (n ≤ (server_of head.osts past).committed.0) ⊎ ((x : Deed) × Now x × IsMade x × (x.reply.txn.0 ≡ n))
        wider (inl le) = inl le
        wider (inr x) = inr (x.0, more x.0 x.1, x.2, x.3)

        by : Idle head.osts past e ⊎ Acted past e → ((n ≤ (server_of head.osts past).committed.0)
            ⊎ ((x : Deed) × Now x × IsMade x × (x.reply.txn.0 ≡ n))) × (IsMade e → n < e.reply.txn.0)
        by (inl q) =
            let k = log_seen head.osts head.clients past h.history q.parts n (subst (λ (ns : List ℕ). In n ns) q.saw i) in
            (inr (k.0, more k.0 k.1, k.2, k.3), λ m. absurd (let z = q.number in omega (arith, z, m)))
        by (inr b) = let r = h.history.saw e n b i in (wider r.0, r.1)

    fresh_before : (e : Deed) → Now e → e.reply.boot ≡ closed_of past → (n : ℕ) → In n e.reply.seen → is_lost head.osts past n ≡ false
    fresh_before e a boot n i = by (split e a)
      where
        by : Idle head.osts past e ⊎ Acted past e → is_lost head.osts past n ≡ false
        by (inl q) = (log_seen head.osts head.clients past h.history q.parts n (subst (λ (ns : List ℕ). In n ns) q.saw i)).4
        by (inr b) = h.history.fresh e b boot n i

  pub history_act : (stamp : Stamp) (t : ℕ) (d : Deed) → ActsOk head.osts past (turn stamp (Target t)) t d
      → History head.osts head.clients (line (turn stamp (Target t)) (Act d) ∷ past)
  history_act stamp t d ok =
      let g = h.history in
      record {
        tree = g.tree;
        disk = g.disk;
        on_disk = g.on_disk;
        log = λ e i. let k = g.log e i in (inr k.0, k.1, k.2, k.3);
        logged = λ e a m s. g.logged e (made_before Now split more e a m) m s;
        log_rises = g.log_rises;
        later = g.later;
        top = g.top;
        last = λ e a m. g.last e (made_before Now split more e a m) m;
        saw = λ e n a i. saw_before Now split more e n a i;
        stands = λ e a m s n i. g.stands e (made_before Now split more e a m) m s n i;
        heard = g.heard;
        held = g.held;
        fresh = λ e a b n i. fresh_before Now split more e a b n i;
        items = items_grow head.osts past (line (turn stamp (Target t)) (Act d) ∷ past) more (λ n e. e) (omega arith)
            (items_of head.osts past) g.items;
        items_have = λ e a m s. g.items_have e (made_before Now split more e a m) m s;
        items_fall = g.items_fall;
        log_of = g.log_of;
      }
    where
      Now : Deed → Type 0
      Now e = (d ≡ e) ⊎ Acted past e

      split : (e : Deed) → Now e → Idle head.osts past e ⊎ Acted past e
      split e (inl q) = inl (subst (Idle head.osts past) q (acts_idle (turn stamp (Target t)) t d ok))
      split e (inr a) = inr a

      more : (e : Deed) → Acted past e → Now e
      more e a = inr a

  pub history_wait : (stamp : Stamp) (t : ℕ) (lock : Lock) (d : Deed) → WaitOk head.osts past (turn stamp (Target t)) lock d
      → History head.osts head.clients (line (turn stamp (Target t)) (Wait lock d) ∷ past)
  history_wait stamp t lock d ok =
      let g = h.history in
      record {
        tree = g.tree;
        disk = g.disk;
        on_disk = g.on_disk;
        log = λ e i. let k = g.log e i in (inr k.0, k.1, k.2, k.3);
        logged = λ e a m s. g.logged e (made_before Now split more e a m) m s;
        log_rises = g.log_rises;
        later = g.later;
        top = g.top;
        last = λ e a m. g.last e (made_before Now split more e a m) m;
        saw = λ e n a i. saw_before Now split more e n a i;
        stands = λ e a m s n i. g.stands e (made_before Now split more e a m) m s n i;
        heard = g.heard;
        held = g.held;
        fresh = λ e a b n i. fresh_before Now split more e a b n i;
        items = items_grow head.osts past (line (turn stamp (Target t)) (Wait lock d) ∷ past) more (λ n e. e) (omega arith)
            (items_of head.osts past) g.items;
        items_have = λ e a m s. g.items_have e (made_before Now split more e a m) m s;
        items_fall = g.items_fall;
        log_of = g.log_of;
      }
    where
      Now : Deed → Type 0
      Now e = (d ≡ e) ⊎ Acted past e

      split : (e : Deed) → Now e → Idle head.osts past e ⊎ Acted past e
      split e (inl q) = inl (subst (Idle head.osts past) q (told_idle d (wait_told head.osts past (turn stamp (Target t)) lock d ok)))
      split e (inr a) = inr a

      more : (e : Deed) → Acted past e → Now e
      more e a = inr a

  pub history_answers : (stamp : Stamp) (t : ℕ) (d : Deed) → AnswersOk head.osts past (turn stamp (Target t)) t d
      → History head.osts head.clients (line (turn stamp (Target t)) (Answers d) ∷ past)
  history_answers stamp t d ok =
      let g = h.history in
      record {
        tree = g.tree;
        disk = g.disk;
        on_disk = g.on_disk;
        log = λ e i. let k = g.log e i in (inr k.0, k.1, k.2, k.3);
        logged = λ e a m s. g.logged e (made_before Now split more e a m) m s;
        log_rises = g.log_rises;
        later = g.later;
        top = g.top;
        last = λ e a m. g.last e (made_before Now split more e a m) m;
        saw = λ e n a i. saw_before Now split more e n a i;
        stands = λ e a m s n i. g.stands e (made_before Now split more e a m) m s n i;
        heard = g.heard;
        held = g.held;
        fresh = λ e a b n i. fresh_before Now split more e a b n i;
        items = items_grow head.osts past (line (turn stamp (Target t)) (Answers d) ∷ past) more (λ n e. e) (omega arith)
            (items_of head.osts past) g.items;
        items_have = λ e a m s. g.items_have e (made_before Now split more e a m) m s;
        items_fall = g.items_fall;
        log_of = g.log_of;
      }
    where
      Now : Deed → Type 0
      Now e = (d ≡ e) ⊎ Acted past e

      split : (e : Deed) → Now e → Idle head.osts past e ⊎ Acted past e
      split e (inl q) = inl (subst (Idle head.osts past) q (told_idle d (answers_told head.osts past (turn stamp (Target t)) t d ok)))
      split e (inr a) = inr a

      more : (e : Deed) → Acted past e → Now e
      more e a = inr a

  pub history_grant : (stamp : Stamp) (t : ℕ) (lock : Lock) (d : Deed) → GrantsOk head.osts past (turn stamp (Target t)) t lock d
      → History head.osts head.clients (line (turn stamp (Target t)) (Grant lock (Some d)) ∷ past)
  history_grant stamp t lock d ok =
      let g = h.history in
      record {
        tree = g.tree;
        disk = g.disk;
        on_disk = g.on_disk;
        log = λ e i. let k = g.log e i in (inr k.0, k.1, k.2, k.3);
        logged = λ e a m s. g.logged e (made_before Now split more e a m) m s;
        log_rises = g.log_rises;
        later = g.later;
        top = g.top;
        last = λ e a m. g.last e (made_before Now split more e a m) m;
        saw = λ e n a i. saw_before Now split more e n a i;
        stands = λ e a m s n i. g.stands e (made_before Now split more e a m) m s n i;
        heard = g.heard;
        held = g.held;
        fresh = λ e a b n i. fresh_before Now split more e a b n i;
        items = items_grow head.osts past (line (turn stamp (Target t)) (Grant lock (Some d)) ∷ past) more (λ n e. e) (omega arith)
            (items_of head.osts past) g.items;
        items_have = λ e a m s. g.items_have e (made_before Now split more e a m) m s;
        items_fall = g.items_fall;
        log_of = g.log_of;
      }
    where
      Now : Deed → Type 0
      Now e = (Some d ≡ Some e) ⊎ Acted past e

      split : (e : Deed) → Now e → Idle head.osts past e ⊎ Acted past e
      split e a = ⊎_elim
          (λ (b : Acted past e). inr b)
          (λ (r : (d ≡ e) × RangeOk head.osts past (turn stamp (Target t)) lock e). inl
          (told_idle e (range_told head.osts past (turn stamp (Target t)) lock e r.1)))
          (grant_acted head.osts past (turn stamp (Target t)) t lock d ok e a)

      more : (e : Deed) → Acted past e → Now e
      more e a = inr a

  -- a lock that had waited is granted
  pub history_promoted : (stamp : Stamp) (t : ℕ) (lock : Lock) → History head.osts head.clients
      (line (turn stamp (Target t)) (Grant lock None) ∷ past)
  history_promoted stamp t lock =
      let g = h.history in
      record {
        tree = g.tree;
        disk = g.disk;
        on_disk = g.on_disk;
        log = λ e i. let k = g.log e i in (inr k.0, k.1, k.2, k.3);
        logged = λ e a m s. g.logged e (made_before Now split more e a m) m s;
        log_rises = g.log_rises;
        later = g.later;
        top = g.top;
        last = λ e a m. g.last e (made_before Now split more e a m) m;
        saw = λ e n a i. saw_before Now split more e n a i;
        stands = λ e a m s n i. g.stands e (made_before Now split more e a m) m s n i;
        heard = g.heard;
        held = g.held;
        fresh = λ e a b n i. fresh_before Now split more e a b n i;
        items = items_grow head.osts past (line (turn stamp (Target t)) (Grant lock None) ∷ past) more (λ n e. e) (omega arith)
            (items_of head.osts past) g.items;
        items_have = λ e a m s. g.items_have e (made_before Now split more e a m) m s;
        items_fall = g.items_fall;
        log_of = g.log_of;
      }
    where
      Now : Deed → Type 0
      Now e = (◌≡◌ {A = Option Deed} None (Some e)) ⊎ Acted past e

      split : (e : Deed) → Now e → Idle head.osts past e ⊎ Acted past e
      split e (inl q) = absurd (cc)
      split e (inr a) = inr a

      more : (e : Deed) → Acted past e → Now e
      more e a = inr a

  -- a transaction on names wrote and saw the same over the items
  names_item : (at : At) (stamp : Stamp) (t : ℕ) (d : Deed) → TxnOk head.osts past at d → IsMade d → Stands head.osts past d
      → ItemOk head.osts (line (turn stamp (Target t)) (Made d) ∷ past) (items_of head.osts past) (operation d)
  names_item at stamp t d ok is_made stands =
      let tree = (server_of head.osts past).tree in
      let whole = contents head.osts empty (items_of head.osts past) in
      let same = alike_same head.osts whole tree (operation d) h.history.tree in
      let is_asked : operation d ≡ asked ok.request (next_number (server_of head.osts past)) = ap operation ok.is in
      let saw_is : d.reply.seen ≡ seen_in (touches head.osts tree (asked ok.request (next_number (server_of head.osts past))))
      (server_of head.osts past).log = ap (λ (y : Deed). y.reply.seen) ok.is in
      let wrote : d.writes ≡ writes head.osts tree (operation d) = ap (λ (y : Deed). y.writes) ok.is
      ∙ ap (writes head.osts tree) (sym is_asked) in
      record {
        deed = d;
        acted = inl refl;
        made = is_made;
        stands = stands;
        operates = refl;
        wrote = λ names. wrote ∙ sym same.writes;
        saw = λ n i.
            let ps = touches head.osts whole (operation d) in
            let k = seen_deed head.osts past (items_of head.osts past) ps n h.history.items i in
            let touched : ps ≡ touches head.osts tree (asked ok.request (next_number (server_of head.osts past))) = same.touches
            ∙ ap (touches head.osts tree) is_asked in
            ⊎_elim
            (λ (j : In k.0 (server_of head.osts past).log).
            inr (subst (λ (ns : List ℕ). In n ns) (sym saw_is)
            (subst (λ (qs : List Part). In n (seen_in qs (server_of head.osts past).log)) touched
            (subst (λ (m : ℕ). In m (seen_in ps (server_of head.osts past).log)) k.4
            (in_seen ps (server_of head.osts past).log k.0 j k.5)))))
            (λ (le : k.0.reply.txn.0 ≤ (server_of head.osts past).committed.0). inl
            (subst (λ (m : ℕ). m ≤ (server_of head.osts past).committed.0) k.4 le))
            (h.history.logged k.0 k.1 k.2 k.3);
      }

  -- one on an object touches nothing of a tree
  object_item : (at : At) (stamp : Stamp) (t : ℕ) (d : Deed) → WriteOk head.osts past at d → IsMade d → Stands head.osts past d
      → ItemOk head.osts (line (turn stamp (Target t)) (Made d) ∷ past) (items_of head.osts past) (operation d)
  object_item at stamp t d ok is_made stands =
      let write = write_op head.osts past at d ok in
      record {
        deed = d;
        acted = inl refl;
        made = is_made;
        stands = stands;
        operates = refl;
        wrote = λ names. absurd (write_names d.op write names);
        saw = λ n i. absurd (seen_nothing head.osts (items_of head.osts past) n
            (subst (λ (ps : List Part). In n (seen head.osts (contents head.osts empty) (items_of head.osts past) ps))
            (write_touches head.osts (contents head.osts empty (items_of head.osts past)) d.reply.txn d.reply.who d.op write) i));
      }

  pub history_made : (stamp : Stamp) (t : ℕ) (d : Deed) → TxnsOk head.osts past (turn stamp (Target t)) t d
      → History head.osts head.clients (line (turn stamp (Target t)) (Made d) ∷ past)
  history_made stamp t d ok =
      let g = h.history in
      record {
        tree = same_after head.osts (contents head.osts empty (items_of head.osts past)) (server_of head.osts past).tree (operation d)
            g.tree;
        disk = λ p. subst (λ (is : List Item). Same (contents head.osts empty is) (disk_of head.osts head.clients past).contents.tree p)
            (sym (cond-false (upto (disk_of head.osts head.clients past).committed d.reply.txn.0) (Acts (operation d) ∷ picked) picked
            above_disk)) (g.disk p);
        on_disk = g.on_disk;
        log = λ e i. ⊎_elim
            (λ (j : In e (server_of head.osts past).log). let k = g.log e j in (inr k.0, k.1, k.2, k.3))
            (λ (j : In e (d ∷ [])). ⊎_elim (λ (q : d ≡ e). let k = now e q in (inl q, k.0, k.1, k.2)) (λ (z : ⊥). absurd z) j)
            (in_append e (server_of head.osts past).log (d ∷ []) i);
        logged = λ e a m s. ⊎_elim
            (λ (q : d ≡ e). inl (in_right e (server_of head.osts past).log (d ∷ []) (inl q)))
            (λ (b : Acted past e). ⊎_elim (λ (i : In e (server_of head.osts past).log). inl
            (in_left e (server_of head.osts past).log (d ∷ []) i))
            (λ (le : e.reply.txn.0 ≤ (server_of head.osts past).committed.0). inr le) (g.logged e b m s))
            a;
        log_rises = rises_last (server_of head.osts past).log d g.log_rises
            (λ e i. let k = g.log e i in let le = g.last e k.0 k.1 in let n = number in omega arith);
        later = g.later;
        top = let le = g.top in omega arith;
        last = λ e a m. ⊎_elim
            (λ (q : d ≡ e). let n : e.reply.txn.0 ≡ first_of (server_of head.osts past).boot + ((server_of head.osts past).count + 1) =
            ap (λ (y : Deed). y.reply.txn.0) (sym q) ∙ number in omega arith)
            (λ (b : Acted past e). let le = g.last e b m in omega arith)
            a;
        saw = λ e n a i. ⊎_elim (λ (q : d ≡ e). saw_new e n q i) (λ (b : Acted past e). let r = g.saw e n b i in (wider n r.0, r.1)) a;
        stands = λ e a m s n i. ⊎_elim (λ (q : d ≡ e). (seen_now e n q i).4) (λ (b : Acted past e). g.stands e b m s n i) a;
        heard = g.heard;
        held = g.held;
        fresh = λ e a b n i. ⊎_elim (λ (q : d ≡ e). (seen_now e n q i).4) (λ (k : Acted past e). g.fresh e k b n i) a;
        items = (
          item,
          items_grow head.osts past (line (turn stamp (Target t)) (Made d) ∷ past) (λ e a. inr a) (λ n e. e) (omega arith)
              (items_of head.osts past) g.items,
        );
        items_have = λ e a m s. ⊎_elim (λ (q : d ≡ e). inl (ap (λ (x : Deed). Acts (operation x)) q))
            (λ (b : Acted past e). inr (g.items_have e b m s)) a;
        items_fall = (
          (λ b i. let k = item_deed head.osts past (items_of head.osts past) b g.items i in
              let le = g.last k.0 k.1 k.2 in
              let n = number in
              let same : k.0.reply.txn.0 ≡ b.number.0 = ap (λ (x : Operation). x.number.0) k.4 in
              omega arith),
          g.items_fall,
        );
        log_of = λ e i. ⊎_elim
            (λ (j : In e (server_of head.osts past).log). g.log_of e j)
            (λ (j : In e (d ∷ [])). ⊎_elim (λ (q : d ≡ e). ap (λ (y : Deed). y.reply.boot) (sym q) ∙ now_made.boot
            ∙ sym now_made.serves.closed) (λ (z : ⊥). absurd z) j)
            (in_append e (server_of head.osts past).log (d ∷ []) i);
      }
    where
      now_made : Makes head.osts past d
      now_made = makes head.osts past (turn stamp (Target t)) t d ok

      picked : List Item
      picked = pick (upto (disk_of head.osts head.clients past).committed) (items_of head.osts past)

      number : d.reply.txn.0 ≡ first_of (server_of head.osts past).boot + ((server_of head.osts past).count + 1)
      number = ap (λ (n : TxnOf). n.0) now_made.number

      above_disk : upto (disk_of head.osts head.clients past).committed d.reply.txn.0 ≡ false
      above_disk =
          let n = number in
          let le = h.history.on_disk in
          let top = h.history.top in
          not_from_true (nat_lt (disk_of head.osts head.clients past).committed d.reply.txn.0)
          (lt-ltb (disk_of head.osts head.clients past).committed d.reply.txn.0 (omega arith))

      now : (e : Deed) → d ≡ e → IsMade e × Stands head.osts past e × ((server_of head.osts past).committed.0 < e.reply.txn.0)
      now e q =
          let n : e.reply.txn.0 ≡ first_of (server_of head.osts past).boot + ((server_of head.osts past).count + 1) =
          ap (λ (y : Deed). y.reply.txn.0) (sym q) ∙ number in
          let closed = now_made.serves.closed in
          let top = h.history.top in
          (omega arith, h.history.later e.reply.txn.0 (omega arith), omega arith)

      seen_now : (e : Deed) (n : ℕ) → d ≡ e → In n e.reply.seen → (x : Deed) × Acted past x × IsMade x × (x.reply.txn.0 ≡ n)
          × (is_lost head.osts past n ≡ false)
      seen_now e n q i = log_seen head.osts head.clients past h.history now_made.parts n
          (subst (λ (ns : List ℕ). In n ns) (ap (λ (y : Deed). y.reply.seen) (sym q) ∙ now_made.saw) i)

      wider : (n : ℕ) → (n ≤ (server_of head.osts past).committed.0) ⊎ ((e : Deed) × Acted past e × IsMade e × (e.reply.txn.0 ≡ n))
          → (n ≤ (server_of head.osts past).committed.0) ⊎ ((e : Deed) × ((d ≡ e) ⊎ Acted past e) × IsMade e × (e.reply.txn.0 ≡ n))
      wider n (inl le) = inl le
      wider n (inr e) = inr (e.0, inr e.1, e.2, e.3)

      saw_new : (e : Deed) (n : ℕ) → d ≡ e → In n e.reply.seen → ((n ≤ (server_of head.osts past).committed.0)
          ⊎ ((x : Deed) × ((d ≡ x) ⊎ Acted past x) × IsMade x × (x.reply.txn.0 ≡ n))) × (IsMade e → n < e.reply.txn.0)
      saw_new e n q i =
          let k = seen_now e n q i in (
            inr (k.0, inr k.1, k.2, k.3),
            λ m.
                let le = h.history.last k.0 k.1 k.2 in
                let same = k.3 in
                let num : e.reply.txn.0 ≡ first_of (server_of head.osts past).boot + ((server_of head.osts past).count + 1) =
                ap (λ (y : Deed). y.reply.txn.0) (sym q) ∙ number in
                omega arith,
          )

      item : ItemOk head.osts (line (turn stamp (Target t)) (Made d) ∷ past) (items_of head.osts past) (operation d)
      item = by ok
        where
          by : TxnsOk head.osts past (turn stamp (Target t)) t d
              → ItemOk head.osts (line (turn stamp (Target t)) (Made d) ∷ past) (items_of head.osts past) (operation d)
          by (inl k) = names_item (turn stamp (Target t)) stamp t d k.1 (now d refl).0 (now d refl).1
          by (inr k) = object_item (turn stamp (Target t)) stamp t d k.1 (now d refl).0 (now d refl).1

  -- ---- boots, and lives that leave and come

  pub history_boot : (stamp : Stamp) (t boot : ℕ) (disk : Disk) → BootOk head past boot disk
      → History head.osts head.clients (line (turn stamp (Target t)) (Boot boot disk) ∷ past)
  history_boot stamp t boot disk ok = subst (λ (v : Disk). History head.osts head.clients
      (line (turn stamp (Target t)) (Boot boot v) ∷ past)) (sym ok.of_disk) booted
    where
      booted : History head.osts head.clients (line (turn stamp (Target t)) (Boot boot (disk_of head.osts head.clients past)) ∷ past)
      booted =
          let g = h.history in
          let next = ok.next in
          let count = h.phase.count in
          record {
            tree = g.tree;
            disk = g.disk;
            on_disk = g.on_disk;
            log = g.log;
            logged = g.logged;
            log_rises = g.log_rises;
            later = g.later;
            top = let le = g.top in omega arith;
            last = λ d a m. let le = g.last d a m in omega arith;
            saw = g.saw;
            stands = g.stands;
            heard = g.heard;
            held = g.held;
            fresh = g.fresh;
            items = g.items;
            items_have = g.items_have;
            items_fall = g.items_fall;
            log_of = g.log_of;
          }

  pub history_evict : (stamp : Stamp) (t : ℕ) (who : Who) (cause : Cause)
      → History head.osts head.clients (line (turn stamp (Target t)) (Evict who cause) ∷ past)
  history_evict stamp t who cause =
      let g = h.history in
      let is = items_of head.osts past in
      let disk = disk_of head.osts head.clients past in
      record {
        tree = λ p.
            same_trans (forget (contents head.osts empty is) who) (contents head.osts empty is) (forget (server_of head.osts past).tree who)
            p (forgot_same (contents head.osts empty is) who p)
            (same_trans (contents head.osts empty is) (server_of head.osts past).tree (forget (server_of head.osts past).tree who) p
            (g.tree p) (same_forgot (server_of head.osts past).tree who p));
        disk = λ p.
            same_trans (forget (contents head.osts empty (pick (upto disk.committed) is)) who)
            (contents head.osts empty (pick (upto disk.committed) is)) disk.contents.tree p
            (forgot_same (contents head.osts empty (pick (upto disk.committed) is)) who p) (g.disk p);
        on_disk = g.on_disk;
        log = g.log;
        logged = g.logged;
        log_rises = g.log_rises;
        later = g.later;
        top = g.top;
        last = g.last;
        saw = g.saw;
        stands = g.stands;
        heard = λ w f r i has. g.heard w f r i (life_left w who (lives_of head.clients past) has).0;
        held = λ w n i has. g.held w n i (life_left w who (lives_of head.clients past) has).0;
        fresh = g.fresh;
        items = g.items;
        items_have = λ d a m s. inr (g.items_have d a m s);
        items_fall = g.items_fall;
        log_of = g.log_of;
      }

  -- a life that comes has heard nothing, or had a slot
  pub history_joined : (stamp : Stamp) (t : ℕ) (who : Who) → JoinedOk head past (turn stamp (Target t)) t who
      ⊎ ComesOk head past (turn stamp (Target t)) t who → History head.osts head.clients (line (turn stamp (Target t)) (Joined who) ∷ past)
  history_joined stamp t who ok =
      let g = h.history in
      record {
        tree = g.tree;
        disk = g.disk;
        on_disk = g.on_disk;
        log = g.log;
        logged = g.logged;
        log_rises = g.log_rises;
        later = g.later;
        top = g.top;
        last = g.last;
        saw = g.saw;
        stands = g.stands;
        heard = λ w f r i has. ⊎_elim (λ (e : w ≡ who). g.heard w f r i
            (had w (heard_flew head.osts head.clients past h.done w f r i) e ok))
            (λ (k : is_life w (lives_of head.clients past) ≡ true). g.heard w f r i k) (put_or w who (lives_of head.clients past) has);
        held = λ w n i has. ⊎_elim (λ (e : w ≡ who). g.held w n i (had w (saw_flew head.osts head.clients past h.done h.keeps w n i) e ok))
            (λ (k : is_life w (lives_of head.clients past) ≡ true). g.held w n i k) (put_or w who (lives_of head.clients past) has);
        fresh = g.fresh;
        items = g.items;
        items_have = g.items_have;
        items_fall = g.items_fall;
        log_of = g.log_of;
      }
    where
      had : (w : Who) → (f : Flight) × Flew past w f → w ≡ who → JoinedOk head past (turn stamp (Target t)) t who
          ⊎ ComesOk head past (turn stamp (Target t)) t who → HasSlot head.clients past w
      had w f e (inr k) = subst (λ (x : Who). HasSlot head.clients past x) (sym e) k.has
      had w f e (inl k) =
          ⊎_elim
          (λ (has : is_life w (lives_of head.clients past) ≡ true). has)
          (λ (out : is_life w (evicted_of past) ≡ true).
          let there : In who (evicted_of past) = stands_life who (evicted_of past)
          (subst (λ (x : Who). is_life x (evicted_of past) ≡ true) e out) in
          let over = any_false (is_over who) (evicted_of past) k.newer who there in
          let itself = over_itself who in
          absurd (cc))
          (h.lives.flew w f.0 f.1)

pub history_start : (osts clients : ℕ) → History osts clients []
history_start osts clients =
    record {
      tree = same_refl empty;
      disk = same_refl empty;
      on_disk = omega arith;
      log = λ d i. absurd i;
      logged = λ d a m s. absurd a;
      log_rises = tt;
      later = λ n lt. refl;
      top = omega arith;
      last = λ d a m. absurd a;
      saw = λ d n a i. absurd a;
      stands = λ d a m s n i. absurd a;
      heard = λ who f r i has. absurd i;
      held = λ who n i has. absurd i;
      fresh = λ d a b n i. absurd a;
      items = tt;
      items_have = λ d a m s. absurd a;
      items_fall = tt;
      log_of = λ d i. absurd i;
    }
