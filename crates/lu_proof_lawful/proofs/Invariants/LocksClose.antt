-- Locks at one target through the close of its window. A life that stays brought as many different locks as it held when it was told the
-- boot,
-- each of which it held then: so it brought all of them, and what it holds is among these. All that was brought was granted until then, so
-- it doesn't
-- conflict, and a close restores all that the lives that stay brought; it shows them one by one.
use Rattle.std.proofs.Common.{◌≡◌, ℕ, ◌<◌, ◌≤◌, Bool, true, false, List, [], ◌∷◌, ◌++◌, Option, Some, None, ◌⊎◌, inl, inr, ⊎_elim, refl}
use Rattle.std.proofs.Common.{sym, subst, ap, ◌∙◌, arith}
use Rattle.std.specs.Prelude.{nat_eq, length, filter, not, nat_le}
use Rattle.std.proofs.lemmas.Bool.{and_parts, cond_both, cond-false, eqb-true, eqb-false, or_from, or_left, or_right, not-true}
use Rattle.std.proofs.lemmas.Bool.Decides.{nat_tests}
use Rattle.lu_base.specs.declared.ids.Node.TheVariants.{Target}
use Rattle.lu_base.specs.declared.ids.Stamp.{Stamp}
use Rattle.lu_base.specs.declared.ids.Who.{Who}
use Rattle.lu_base.specs.declared.locks.Lock.{Lock}
use Rattle.lu_base.specs.declared.locks.Resource.{Resource}
use Rattle.lu_held.specs.declared.locks.HeldLock.{HeldLock}
use Rattle.lu_held.specs.Locks.{same_resource}
use Rattle.lu_lock.specs.Conflict.{conflict, conflicts_with_any}
use Rattle.lu_spec_entries.specs.Carried.{Deed, Said, Gone, Outcome}
use Rattle.lu_spec_entries.specs.Words.{Entry, Close, Restore, Line, line, same_life}
use Rattle.lu_spec_target.specs.Lives.{is_life, lives_of as lives_in}
use Rattle.lu_spec_target.specs.Outcomes.{restored}
use Rattle.lu_spec_target.specs.Recovery.{kept_lines, restore_lines}
use Rattle.lu_spec_target.specs.Replies.{locks_on, asks_of}
use Rattle.lu_spec_target.specs.Windows.{Window, word_of, has_all, is_back, gone_from, kept_numbers, staying, brought_before}
use Rattle.lu_spec_client.specs.Caches.{held_at}
use Rattle.lu_proof_lawful.specs.Covered.TargetStates.{server_of, lives_of, evicted_of, shown_of, closed_of, brought_of, window_of}
use Rattle.lu_proof_lawful.specs.Covered.TargetCloses.{disk_of, outcome_of, closing_of, shows_evicted, shows_ready, shows_joined}
use Rattle.lu_proof_lawful.specs.Covered.TargetCloses.{staying as staying_lives}
use Rattle.lu_proof_lawful.specs.Covered.ClientStates.{life_of, known_of}
use Rattle.lu_proof_lawful.specs.Covered.Heads.{Head}
use Rattle.lu_proof_lawful.proofs.Preconditions.Guards.{In}
use Rattle.lu_proof_lawful.proofs.Preconditions.StoryGuards.{IsRecovering, RestoreOk}
use Rattle.lu_proof_lawful.proofs.Preconditions.Grown.{ShowsNext}
use Rattle.lu_proof_lawful.proofs.Preconditions.LifeLists.{any_lives}
use Rattle.lu_proof_lawful.proofs.Preconditions.Lists.{self, in_filter, in_filtered, in_left, in_right, life_is}
use Rattle.lu_proof_lawful.proofs.Preconditions.QueueLists.{resource_of}
use Rattle.lu_proof_lawful.proofs.Invariants.Groups.{turn, BroughtRise, HoldsAt}
use Rattle.lu_proof_lawful.proofs.Invariants.TargetGroups.{HasSlot, told_of, Gave, NoneOf, Evicted, IsOver, Locks}
use Rattle.lu_proof_lawful.proofs.Preconditions.CloseLists.{stays_back}
use Rattle.lu_proof_lawful.proofs.Invariants.LockLists.{cookie_or, with_new, with_old, kept_same}
use Rattle.lu_proof_lawful.proofs.Invariants.LocksStay.{still_closing, Stays, says_still, locks_stay}
use Rattle.lu_proof_lawful.proofs.Invariants.Pigeons.{Different, different_filter, all_there}
use Rattle.lu_proof_lawful.proofs.Invariants.LocksHeard.{numbered}

-- ---- a life that is back brought as many locks as its word says

abbrev HasWord : Window → Who → Type 0
HasWord v who = (w : Said) × (word_of who v.words ≡ Some w) × (w.locks ≤ length (filter (λ (l : Lock). same_life l.ask.who who) v.brought))

pub back_word : (v : Window) (who : Who) → is_back v who ≡ true → HasWord v who
back_word v who t = by (word_of who v.words) refl t
  where
    by : (o : Option Said) → word_of who v.words ≡ o → has_all v who o ≡ true → HasWord v who
    by None e t = absurd (cc)
    by (Some w) e t = (
      w,
      e,
      (let le = (and_parts (nat_le w.replays (length (filter (λ r. same_life r.who who) v.replays)))
          (nat_le w.locks (length (filter (λ (l : Lock). same_life l.ask.who who) v.brought))) t).1 in grind (arith, nat_tests, le)),
    )

-- ---- locks that stand after one another are different

not_before_self : (l : Lock) → brought_before l l ≡ true → ⊥
not_before_self l t = grind (arith, nat_tests)

pub brought_different : (ls : List Lock) → BroughtRise ls → Different ls
brought_different [] r = tt
brought_different (l ∷ ls) r = (λ i. not_before_self l (r.0 l i), brought_different ls r.1)

-- ---- locks that don't conflict are restored

-- each in no conflict with one after it on its resource
abbrev pub ApartIn : List Lock → Type 0
ApartIn [] = Unit {0}
ApartIn (l ∷ ls) = ((k : Lock) → In k ls → l.resource ≡ k.resource → conflict k.ask l.ask ≡ false) × ApartIn ls

pub apart_filter : (f : Lock → Bool) (ls : List Lock) → ApartIn ls → ApartIn (filter f ls)
apart_filter f [] a = tt
apart_filter f (l ∷ ls) a =
    cond_both (f l) (l ∷ filter f ls) (filter f ls) (λ (ks : List Lock). ApartIn ks)
    (λ t. (λ k i on. a.0 k (in_filter f k ls i).0 on, apart_filter f ls a.1)) (λ t. apart_filter f ls a.1)

clear : (l : Lock) (r : Resource) (ks : List Lock) → ((k : Lock) → In k ks → k.resource ≡ r → conflict l.ask k.ask ≡ false)
    → conflicts_with_any l.ask (asks_of (locks_on r ks)) ≡ false
clear l r ks all = by (locks_on r ks) (λ k i. let f = in_filter (λ (x : Lock). same_resource x.resource r) k ks i
    in all k f.0 (resource_of k.resource r f.1))
  where
    by : (js : List Lock) → ((k : Lock) → In k js → conflict l.ask k.ask ≡ false) → conflicts_with_any l.ask (asks_of js) ≡ false
    by [] h = refl
    by (k ∷ js) h = or_from (conflict l.ask k.ask) (conflicts_with_any l.ask (asks_of js)) (h k (inl refl)) (by js (λ j i. h j (inr i)))

pub restores_all : (before ls : List Lock) → ((l k : Lock) → In l ls → In k before → k.resource ≡ l.resource → conflict l.ask k.ask ≡ false)
    → ApartIn ls → restored before ls ≡ ls
restores_all before [] b a = refl
restores_all before (l ∷ ls) b a =
    cond-false (conflicts_with_any l.ask (asks_of (locks_on l.resource before))) (restored before ls) (l ∷ restored (l ∷ before) ls)
    (clear l l.resource before (λ k i on. b l k (inl refl) i on))
    ∙ ap (λ (ks : List Lock). l ∷ ks) (restores_all (l ∷ before) ls more a.1)
  where
    more : (j k : Lock) → In j ls → In k (l ∷ before) → k.resource ≡ j.resource → conflict j.ask k.ask ≡ false
    more j k i (inl e) on = ap (λ (x : Lock). conflict j.ask x.ask) (sym e) ∙ a.0 j i (ap (λ (x : Lock). x.resource) e ∙ on)
    more j k i (inr m) on = b j k (inr i) m on

-- so don't locks that are granted, each once
pub granted_apart : (osts clients : ℕ) (past : List Line) → Locks osts clients past → (ls : List Lock) → BroughtRise ls
    → ((l : Lock) → In l ls → In l (server_of osts past).granted) → ApartIn ls
granted_apart osts clients past h [] r all = tt
granted_apart osts clients past h (l ∷ ls) r all = (
  λ k i on. by k i on (nat_eq k.cookie.0 l.cookie.0) refl,
  granted_apart osts clients past h ls r.1 (λ k i. all k (inr i)),
)
  where
    by : (k : Lock) → In k ls → l.resource ≡ k.resource → (b : Bool) → nat_eq k.cookie.0 l.cookie.0 ≡ b → conflict k.ask l.ask ≡ false
    by k i on true e =
        let a = h.granted k (all k (inr i)) in
        let b = h.granted l (all l (inl refl)) in
        let same = (h.once b.0 a.0 l k b.1 a.1 (ap numbered (sym (eqb-true k.cookie.0 l.cookie.0 e)))).1 in
        absurd (not_before_self l (subst (λ (x : Lock). brought_before l x ≡ true) (sym same) (r.0 k i)))
    by k i on false e = h.apart k l (all k (inr i)) (all l (inl refl)) (sym on) (eqb-false k.cookie.0 l.cookie.0 e)

-- ---- what a close shows

-- the cookie of the lock that is restored
abbrev cookie_shown : Entry → ℕ
cookie_shown (Restore l) = l.cookie.0
cookie_shown e = 0

restore_in : (l : Lock) (ls : List Lock) → In l ls → In (Restore l) (restore_lines ls)
restore_in l [] i = absurd i
restore_in l (k ∷ ls) (inl e) = inl (ap Restore e)
restore_in l (k ∷ ls) (inr i) = inr (restore_in l ls i)

-- ---- the close

module _ (head : Head) (past : List Line) (stamp : Stamp) (t : ℕ) (recovers : IsRecovering head.osts past)
    (removed : (disk_of head.osts head.clients past).removed ≡ evicted_of past) (all : HoldsAt head past) where
  abbrev o : Outcome
  o = outcome_of head.osts head.clients (turn stamp (Target t)) past

  abbrev closing : List Line
  closing = line (turn stamp (Target t)) (Close o) ∷ past

  abbrev window : Window
  window = window_of head.osts head.clients past

  abbrev gone : List Gone
  gone = gone_from window (kept_numbers window) window.lives

  abbrev mine : Who → List Lock
  mine who = filter (λ (l : Lock). same_life l.ask.who who) (brought_of past)

  -- the last close was in an earlier boot
  earlier : closed_of past < (server_of head.osts past).boot
  earlier = let le = all.phase.under in grind (arith, nat_tests, recovers, le)

  brought_granted : (l : Lock) → In l (brought_of past) → In l (server_of head.osts past).granted
  brought_granted l i = all.locks.brought recovers l i

  locks_are : o.locks ≡ staying gone (brought_of past)
  locks_are =
      restores_all [] (staying gone (brought_of past)) (λ l k i j. absurd j)
      (apart_filter (λ (l : Lock). not (is_life l.ask.who (lives_in gone))) (brought_of past)
      (granted_apart head.osts head.clients past all.locks (brought_of past) all.recovers.brought_rise brought_granted))

  -- the word of a life that stays
  word : (who : Who) → HasSlot head.clients past who → is_life who (lives_in gone) ≡ false → HasWord window who
  word who slot stays = back_word window who (stays_back window (kept_numbers window) window.lives who slot stays).0

  -- its client knows the boot
  knows : (who : Who) → HasSlot head.clients past who → is_life who (lives_in gone) ≡ false
      → (server_of head.osts past).boot ≤ known_of who.client past
  knows who slot stays = let w = word who slot stays in (all.recovers.words recovers who w.0 w.1).2

  -- what it held when it was told that was brought
  told_brought : (who : Who) → HasSlot head.clients past who → is_life who (lives_in gone) ≡ false → (l : Lock) → In l (told_of who past)
      → In l (mine who)
  told_brought who slot stays l i =
      all_there (mine who) (told_of who past) (different_filter (λ (l : Lock). same_life l.ask.who who) (brought_of past)
      (brought_different (brought_of past) all.recovers.brought_rise)) told enough l i
    where
      enough : length (told_of who past) ≤ length (mine who)
      enough =
          let w = word who slot stays in
          let most = w.2 in
          let says = (all.recovers.words recovers who w.0 w.1).3.2 in
          omega (arith, most, says)

      told : (l : Lock) → In l (mine who) → In l (told_of who past)
      told l j =
          let f = in_filter (λ (l : Lock). same_life l.ask.who who) l (brought_of past) j in
          subst (λ (w : Who). In l (told_of w past)) (life_is l.ask.who who f.1) (all.recovers.brought recovers l f.0).2.1

  -- and restored
  pub told_restored : (who : Who) → HasSlot head.clients past who → is_life who (lives_in gone) ≡ false → (l : Lock)
      → In l (told_of who past) → In l o.locks
  told_restored who slot stays l i =
      let f = in_filter (λ (k : Lock). same_life k.ask.who who) l (brought_of past) (told_brought who slot stays l i) in
      subst (λ (ls : List Lock). In l ls) (sym locks_are)
      (in_filtered (λ (k : Lock). not (is_life k.ask.who (lives_in gone))) l (brought_of past) f.0
      (ap (λ (w : Who). not (is_life w (lives_in gone))) (life_is l.ask.who who f.1) ∙ ap not stays))

  -- so is what it holds, which it held then
  restores_held : (c : ℕ) → HasSlot head.clients past (life_of c past) → is_life (life_of c past) (lives_in gone) ≡ false → (h : HeldLock)
      → In h (held_at c past) → In h.lock o.locks
  restores_held c slot stays h i =
      told_restored (life_of c past) slot stays h.lock (all.recovers.holds recovers c
      (subst (λ v. (server_of head.osts past).boot ≤ known_of v past) (all.phase.client c) (knows (life_of c past) slot stays)) h i)

  restored_from : (l : Lock) → In l o.locks → In l (brought_of past) × (not (is_life l.ask.who (lives_in gone)) ≡ true)
  restored_from l i = in_filter (λ (k : Lock). not (is_life k.ask.who (lives_in gone))) l (brought_of past)
      (subst (λ (ls : List Lock). In l ls) locks_are i)

  restored_brought : (l : Lock) → In l o.locks → In l (brought_of past)
  restored_brought l i = (restored_from l i).0

  -- what is restored its life, which stays, held when it was told the boot
  pub restored_told : (l : Lock) → In l o.locks → HasSlot head.clients past l.ask.who × (is_life l.ask.who (lives_in gone) ≡ false)
      × In l (told_of l.ask.who past)
  restored_told l i = let f = restored_from l i in let b = all.recovers.brought recovers l f.0
      in (b.0, not-true (is_life l.ask.who (lives_in gone)) f.1, b.2.1)

  evicts_more : (who : Who) → Evicted past who → Evicted closing who
  evicts_more who x =
      any_lives (same_life who) (lives_in gone) (disk_of head.osts head.clients past).removed
      ∙ or_right (is_life who (lives_in gone)) (is_life who (disk_of head.osts head.clients past).removed)
      (ap (λ (ws : List Who). is_life who ws) removed ∙ x)

  evicts_gone : (who : Who) → is_life who (lives_in gone) ≡ true → Evicted closing who
  evicts_gone who x = any_lives (same_life who) (lives_in gone) (disk_of head.osts head.clients past).removed
      ∙ or_left (is_life who (lives_in gone)) (is_life who (disk_of head.osts head.clients past).removed) x

  -- what is held is restored, or its life is evicted
  held_still : (c : ℕ) (k : HeldLock) → In k (held_at c past) → In k.lock o.locks ⊎ Evicted closing (life_of c past)
  held_still c k i =
      let r = all.locks.held c k i in
      ⊎_elim
      (λ (slot : HasSlot head.clients past r.deed.reply.who). by (is_life (life_of c past) (lives_in gone)) refl
      (subst (λ (w : Who). HasSlot head.clients past w) r.who slot))
      (λ (x : Evicted past r.deed.reply.who). inr (evicts_more (life_of c past) (subst (λ (w : Who). Evicted past w) r.who x)))
      (all.lives.acted r.deed r.gave.0)
    where
      by : (b : Bool) → is_life (life_of c past) (lives_in gone) ≡ b → HasSlot head.clients past (life_of c past) → In k.lock o.locks
          ⊎ Evicted closing (life_of c past)
      by true e slot = inr (evicts_gone (life_of c past) e)
      by false e slot = inl (restores_held c slot e k i)

  -- what was granted is held, and so restored, or lapses, where its life stays
  granted_lapses : (d : Deed) (l : Lock) → Gave past d l → In l (server_of head.osts past).granted → In l o.locks ⊎ IsOver past d l
      ⊎ Evicted closing d.reply.who
  granted_lapses d l gave was = ⊎_elim held lapsed (cookie_or l.cookie (held_at d.reply.who.client past))
    where
      -- its client knows the boot, or its life goes
      lapses : (b : Bool) → is_life d.reply.who (lives_in gone) ≡ b → HasSlot head.clients past d.reply.who
          → NoneOf l.cookie (held_at d.reply.who.client past) → In l o.locks ⊎ IsOver past d l ⊎ Evicted closing d.reply.who
      lapses true q slot none = inr (inr (evicts_gone d.reply.who q))
      lapses false q slot none = inr (inl (inr (
        (let le = (all.done.boots d gave.0).1 in let lt = earlier in let most =
            knows d.reply.who slot q in omega (arith, le, lt, most)),
        none,
      )))

      held : ((k : HeldLock) × In k (held_at d.reply.who.client past) × (k.lock.cookie.0 ≡ l.cookie.0)) → In l o.locks ⊎ IsOver past d l
          ⊎ Evicted closing d.reply.who
      held k =
          let r = all.locks.held d.reply.who.client k.0 k.1 in
          let same = all.locks.once r.deed d k.0.lock l r.gave gave (ap numbered k.2) in
          ⊎_elim
          (λ (i : In k.0.lock o.locks). inl (subst (λ (x : Lock). In x o.locks) same.1 i))
          (λ (x : Evicted closing (life_of d.reply.who.client past)). inr
          (inr (subst (λ (w : Who). Evicted closing w) (sym r.who ∙ ap (λ (v : Deed). v.reply.who) same.0) x)))
          (held_still d.reply.who.client k.0 k.1)

      lapsed : NoneOf l.cookie (held_at d.reply.who.client past) → In l o.locks ⊎ IsOver past d l ⊎ Evicted closing d.reply.who
      lapsed none =
          ⊎_elim
          (λ (slot : HasSlot head.clients past d.reply.who). lapses (is_life d.reply.who (lives_in gone)) refl slot none)
          (λ (x : Evicted past d.reply.who). inr (inr (evicts_more d.reply.who x)))
          (all.lives.acted d gave.0)

  not_closing : IsRecovering head.osts closing → ⊥
  not_closing v = let same : nat_eq (server_of head.osts past).boot (server_of head.osts past).boot ≡ true =
      self (server_of head.osts past).boot in absurd (cc)

  close_stays : Stays head.osts head.clients past closing
  close_stays =
      record {
        grows = record { acted = λ e a. a; promoted = λ l p. p; hears = λ w x a. a; heard = λ w f r a. a };
        acted = λ e k a n. a;
        promoted = λ l p. p;
        greatest = all.locks.greatest;
        low = λ v d k a n. let most = (all.locks.cookies d k a n).1 in let le = (all.done.boots d a).1 in let lt = earlier in let low =
            all.locks.greatest.0 in omega (arith, most, le, lt, low);
        less = λ l i. brought_granted l (restored_brought l i);
        lost = granted_lapses;
        shown = λ v u l i. inr (inr (in_right (Restore l) (kept_lines o.kept) (restore_lines o.locks ++ after_locks)
            (in_left (Restore l) (restore_lines o.locks) after_locks (restore_in l o.locks i))));
        queued = λ l i. absurd i;
        slots = λ l i. absurd i;
        closed = λ l i. absurd i;
        known = λ c. omega arith;
        evicted = evicts_more;
        kept = λ c k i. inl (kept_same (held_at c past) k i, refl);
        hopes = λ e l g x z. z;
        single = all.locks.single;
        awaits = all.locks.awaits;
        brought = λ v. absurd (not_closing v);
      }
    where
      after_locks : List Entry
      after_locks = shows_evicted o o.gone ++ (shows_ready o (staying_lives o (lives_of head.clients past)) ++ shows_joined o o.joins)

  pub locks_close : Locks head.osts head.clients closing
  locks_close =
      locks_stay head.osts head.clients past closing close_stays all.phase.client all.locks
      (says_still head.osts head.clients past closing close_stays all.phase.client all.locks
      (record { was = λ from to m w. w; gone = λ who cookie w. w }) (λ v. refl) (λ v. absurd (not_closing v))
      (λ v. absurd (not_closing v)) (λ v. absurd (not_closing v)))

-- ---- a lock that is restored is shown

module _ (head : Head) (past : List Line) (stamp : Stamp) (t : ℕ) (lock : Lock)
    (shows : ShowsNext head past (turn stamp (Target t)) (Restore lock)) (ok : RestoreOk head past (turn stamp (Target t)) lock)
    (client : (c : ℕ) → (life_of c past).client ≡ c) (h : Locks head.osts head.clients past) where
  abbrev restoring : List Line
  restoring = line (turn stamp (Target t)) (Restore lock) ∷ past

  shown_or : (l : Lock) → In l (server_of head.osts past).granted → In l (shown_of past) ⊎ In (Restore l) (closing_of head.clients past)
      → In l (shown_of restoring) ⊎ In (Restore l) (closing_of head.clients restoring)
  shown_or l i = by (nat_eq l.cookie.0 lock.cookie.0) refl
    where
      by : (b : Bool) → nat_eq l.cookie.0 lock.cookie.0 ≡ b → In l (shown_of past) ⊎ In (Restore l) (closing_of head.clients past)
          → In l (shown_of restoring) ⊎ In (Restore l) (closing_of head.clients restoring)
      by true e s =
          let a = h.granted l i in
          let b = h.granted lock ok.granted in
          let same = h.once a.0 b.0 l lock a.1 b.1 (ap numbered (eqb-true l.cookie.0 lock.cookie.0 e)) in
          inl (subst (λ (x : Lock). In x (shown_of restoring)) (sym same.1) (with_new lock (shown_of past)))
      by false e (inl j) = inl (with_old lock l (shown_of past) (λ q. absurd (eqb-false l.cookie.0 lock.cookie.0 e q)) j)
      by false e (inr j) = inr (still_closing head past (turn stamp (Target t)) (Restore lock) shows l
          (λ q. eqb-false l.cookie.0 lock.cookie.0 e (ap cookie_shown (sym q))) j)

  restore_stays : Stays head.osts head.clients past restoring
  restore_stays =
      record {
        grows = record { acted = λ e a. a; promoted = λ l p. p; hears = λ w x a. a; heard = λ w f r a. a };
        acted = λ e k a n. a;
        promoted = λ l p. p;
        greatest = h.greatest;
        low = h.low;
        less = λ l i. i;
        lost = λ d l g i. inl i;
        shown = λ v u l i. shown_or l i (h.shown v u l i);
        queued = λ l i. i;
        slots = λ l i has. has;
        closed = λ l i. refl;
        known = λ c. omega arith;
        evicted = λ who i. i;
        kept = λ c k i. inl (kept_same (held_at c past) k i, refl);
        hopes = λ e l g x z. z;
        single = h.single;
        awaits = h.awaits;
        brought = h.brought;
      }

  pub locks_restore : Locks head.osts head.clients restoring
  locks_restore =
      locks_stay head.osts head.clients past restoring restore_stays client h
      (says_still head.osts head.clients past restoring restore_stays client h (record { was = λ from to m w. w; gone = λ who cookie w. w })
      (λ v. refl) (λ v. v) (λ v w i. i) (λ v l i. i))
