-- Locks at one target as what is held changes by a client's lines: its pins and marks; it is shown; it is given up, and then it is dead; a
-- lock
-- that waited comes; and a new life begins, which holds nothing.
use Rattle.std.proofs.Common.{◌≡◌, ℕ, ◌-◌, ◌<◌, ◌≤◌, Bool, true, false, List, ◌∷◌, Option, ◌⊎◌, inl, inr, ⊎_elim, refl, sym, subst, ap, ◌∙◌}
use Rattle.std.proofs.Common.{arith}
use Rattle.std.specs.Prelude.{nat_eq, not, ◌==◌, ◌&&◌, if◌then◌else◌}
use Rattle.std.proofs.lemmas.Bool.{cond_both, eqb-true, eqb-false, not-true}
use Rattle.lu_base.specs.declared.ids.Node.TheVariants.{Client}
use Rattle.lu_base.specs.declared.ids.Stamp.{Stamp}
use Rattle.lu_base.specs.declared.ids.TargetId.{TargetId}
use Rattle.lu_base.specs.declared.ids.Who.{Who}
use Rattle.lu_base.specs.declared.locks.Lock.{Lock}
use Rattle.lu_held.specs.declared.locks.Change.TheVariants.{Mark, Pin, Unpin}
use Rattle.lu_held.specs.declared.locks.HeldLock.{HeldLock}
use Rattle.lu_held.specs.declared.names.LockName.{LockName}
use Rattle.lu_held.specs.Locks.{is_named, named}
use Rattle.lu_held.specs.Held.{changed, used, unmarked, without}
use Rattle.lu_spec_entries.specs.Words.{Hold, Drop, Pins, Unpins, Marks, Unmarks, Line, line}
use Rattle.lu_spec_client.specs.Caches.{held_as, with_held, held_at}
use Rattle.lu_proof_lawful.specs.Covered.ClientStates.{life_of, is_own, awaits_of}
use Rattle.lu_proof_lawful.proofs.Preconditions.Guards.{In, name_of}
use Rattle.lu_proof_lawful.proofs.Preconditions.StoryGuards.{HeldOk, DropOk}
use Rattle.lu_proof_lawful.proofs.Preconditions.Lists.{in_filter, own_is}
use Rattle.lu_proof_lawful.proofs.Invariants.Groups.{turn}
use Rattle.lu_proof_lawful.proofs.Invariants.TargetGroups.{Hears, Gave, hopes_of, NoneOf, Gone, GivenBack, AwaitedBy, Locks}
use Rattle.lu_proof_lawful.proofs.Invariants.LockLists.{is_of_name, Kept, kept_same, changed_kept, unmarked_kept, used_in, with_held_in}
use Rattle.lu_proof_lawful.proofs.Invariants.LocksStay.{gave_more, called_more, given_more, notified_more, Comes, Stays, stays_dead}
use Rattle.lu_proof_lawful.proofs.Invariants.LocksStay.{locks_stay, client_stays, client_locks}

-- ---- what is held was held, with other pins and marks

module _ (past : List Line) (stamp : Stamp) (c : ℕ) where
  pub pins_held : (name : LockName) (d : ℕ) (k : HeldLock) → In k (held_at d (line (turn stamp (Client c)) (Pins name) ∷ past))
      → Kept (held_at d past) k
  pins_held name d k =
      cond_both (nat_eq d c) (changed name Pin (held_at d past)) (held_at d past)
      (λ (hs : List HeldLock). In k hs → Kept (held_at d past) k)
      (λ t i. changed_kept name Pin (held_at d past) k i)
      (λ t i. kept_same (held_at d past) k i)

  pub unpins_held : (name : LockName) (d : ℕ) (k : HeldLock) → In k (held_at d (line (turn stamp (Client c)) (Unpins name) ∷ past))
      → Kept (held_at d past) k
  unpins_held name d k =
      cond_both (nat_eq d c) (used name (changed name Unpin (held_at d past))) (held_at d past)
      (λ (hs : List HeldLock). In k hs → Kept (held_at d past) k)
      (λ t i. changed_kept name Unpin (held_at d past) k (used_in name (changed name Unpin (held_at d past)) k i))
      (λ t i. kept_same (held_at d past) k i)

  pub marks_held : (name : LockName) (d : ℕ) (k : HeldLock) → In k (held_at d (line (turn stamp (Client c)) (Marks name) ∷ past))
      → Kept (held_at d past) k
  marks_held name d k =
      cond_both (nat_eq d c) (changed name Mark (held_at d past)) (held_at d past)
      (λ (hs : List HeldLock). In k hs → Kept (held_at d past) k)
      (λ t i. changed_kept name Mark (held_at d past) k i)
      (λ t i. kept_same (held_at d past) k i)

  abbrev target_of : ℕ → TargetId
  target_of n = record { 0 = n }

  pub unmarks_held : (t d : ℕ) (k : HeldLock) → In k (held_at d (line (turn stamp (Client c)) (Unmarks t) ∷ past)) → Kept (held_at d past) k
  unmarks_held t d k =
      cond_both (nat_eq d c) (unmarked (target_of t) (held_at d past)) (held_at d past)
      (λ (hs : List HeldLock). In k hs → Kept (held_at d past) k)
      (λ q i. unmarked_kept (target_of t) (held_at d past) k i)
      (λ q i. kept_same (held_at d past) k i)

  -- the lock of a hold, or one that was held
  pub hold_held : (t : ℕ) (lock : Lock) (marked : Bool) (size : Option ℕ) (seen : List ℕ) (d : ℕ) (k : HeldLock)
      → In k (held_at d (line (turn stamp (Client c)) (Hold t lock marked size seen) ∷ past))
      → ((d ≡ c) × (held_as t lock marked ≡ k)) ⊎ In k (held_at d past)
  hold_held t lock marked size seen d k =
      cond_both (nat_eq d c) (with_held (held_as t lock marked) (held_at d past)) (held_at d past)
      (λ (hs : List HeldLock). In k hs → ((d ≡ c) × (held_as t lock marked ≡ k)) ⊎ In k (held_at d past))
      (λ q i. ⊎_elim (λ (e : held_as t lock marked ≡ k). inl (eqb-true d c q, e)) (λ (j : In k (held_at d past)). inr j)
      (with_held_in (held_as t lock marked) (held_at d past) k i))
      (λ q i. inr i)

  -- one that is shown was held
  pub shown_held : (t : ℕ) (lock : Lock) (marked : Bool) (size : Option ℕ) (seen : List ℕ) → HeldOk past c t lock seen
      → (d : ℕ) (k : HeldLock) → In k (held_at d (line (turn stamp (Client c)) (Hold t lock marked size seen) ∷ past))
      → Kept (held_at d past) k
  shown_held t lock marked size seen ok d k i =
      ⊎_elim
      (λ (e : (d ≡ c) × (held_as t lock marked ≡ k)). (
        held_as t lock false,
        subst (λ v. In (held_as t lock false) (held_at v past)) (sym e.0) ok.held,
        ap (λ (v : HeldLock). v.target) e.1,
        ap (λ (v : HeldLock). v.lock) e.1,
      ))
      (λ (j : In k (held_at d past)). kept_same (held_at d past) k j)
      (hold_held t lock marked size seen d k i)

module _ (osts clients : ℕ) (past : List Line) (stamp : Stamp) (c : ℕ) (client : (c : ℕ) → (life_of c past).client ≡ c)
    (h : Locks osts clients past) where
  pub pins_stays : (name : LockName) → Stays osts clients past (line (turn stamp (Client c)) (Pins name) ∷ past)
  pins_stays name =
      client_stays osts clients past stamp c (Pins name) client h
      (record { acted = λ d a. a; promoted = λ l p. p; hears = λ d x a. a; heard = λ d f r a. a }) (λ d a. a) (λ l p. p)
      (λ d. omega arith)
      (λ d k i. inl (pins_held past stamp c name d k i, refl)) (λ d l g x e. e) h.single h.awaits

  pub unpins_stays : (name : LockName) → Stays osts clients past (line (turn stamp (Client c)) (Unpins name) ∷ past)
  unpins_stays name =
      client_stays osts clients past stamp c (Unpins name) client h
      (record { acted = λ d a. a; promoted = λ l p. p; hears = λ d x a. a; heard = λ d f r a. a }) (λ d a. a) (λ l p. p)
      (λ d. omega arith)
      (λ d k i. inl (unpins_held past stamp c name d k i, refl)) (λ d l g x e. e) h.single h.awaits

  pub marks_stays : (name : LockName) → Stays osts clients past (line (turn stamp (Client c)) (Marks name) ∷ past)
  marks_stays name =
      client_stays osts clients past stamp c (Marks name) client h
      (record { acted = λ d a. a; promoted = λ l p. p; hears = λ d x a. a; heard = λ d f r a. a }) (λ d a. a) (λ l p. p)
      (λ d. omega arith)
      (λ d k i. inl (marks_held past stamp c name d k i, refl)) (λ d l g x e. e) h.single h.awaits

  pub unmarks_stays : (t : ℕ) → Stays osts clients past (line (turn stamp (Client c)) (Unmarks t) ∷ past)
  unmarks_stays t =
      client_stays osts clients past stamp c (Unmarks t) client h
      (record { acted = λ d a. a; promoted = λ l p. p; hears = λ d x a. a; heard = λ d f r a. a }) (λ d a. a) (λ l p. p)
      (λ d. omega arith)
      (λ d k i. inl (unmarks_held past stamp c t d k i, refl)) (λ d l g x e. e) h.single h.awaits

  pub locks_pins : (name : LockName) → Locks osts clients (line (turn stamp (Client c)) (Pins name) ∷ past)
  locks_pins name = client_locks osts clients past stamp c (Pins name) client h (pins_stays name)
      (record { was = λ from to m w. w; gone = λ d cookie w. w })

  pub locks_unpins : (name : LockName) → Locks osts clients (line (turn stamp (Client c)) (Unpins name) ∷ past)
  locks_unpins name = client_locks osts clients past stamp c (Unpins name) client h (unpins_stays name)
      (record { was = λ from to m w. w; gone = λ d cookie w. w })

  pub locks_marks : (name : LockName) → Locks osts clients (line (turn stamp (Client c)) (Marks name) ∷ past)
  locks_marks name = client_locks osts clients past stamp c (Marks name) client h (marks_stays name)
      (record { was = λ from to m w. w; gone = λ d cookie w. w })

  pub locks_unmarks : (t : ℕ) → Locks osts clients (line (turn stamp (Client c)) (Unmarks t) ∷ past)
  locks_unmarks t = client_locks osts clients past stamp c (Unmarks t) client h (unmarks_stays t)
      (record { was = λ from to m w. w; gone = λ d cookie w. w })

  -- ---- a lock is held: nobody hopes for it any more

  module _ (t : ℕ) (lock : Lock) (marked : Bool) (size : Option ℕ) (seen : List ℕ) where
    abbrev holding : List Line
    holding = line (turn stamp (Client c)) (Hold t lock marked size seen) ∷ past

    abbrev is_it : Who → ℕ → Bool
    is_it who k = is_own who past (Client c) && lock.cookie.0 == k

    pub hold_hopes : (who : Who) (k : ℕ) → hopes_of who k past ≡ false → hopes_of who k holding ≡ false
    hold_hopes who k e = by (is_it who k)
      where
        by : (b : Bool) → (if b then false else hopes_of who k past) ≡ false
        by true = refl
        by false = e

    pub hold_single : (who : Who) (k : ℕ) → awaits_of who k holding ≤ 1
    hold_single who k = by (is_it who k) (h.single who k)
      where
        by : (b : Bool) → awaits_of who k past ≤ 1 → (if b then awaits_of who k past - 1 else awaits_of who k past) ≤ 1
        by true le = omega arith
        by false le = le

    pub hold_awaits : (who : Who) (k : ℕ) → 0 < awaits_of who k holding → AwaitedBy holding who k
    hold_awaits who k lt = by (is_it who k) refl (h.single who k) (h.awaits who k) lt
      where
        by : (b : Bool) → is_it who k ≡ b → awaits_of who k past ≤ 1 → (0 < awaits_of who k past → AwaitedBy past who k)
            → 0 < (if b then awaits_of who k past - 1 else awaits_of who k past) → AwaitedBy holding who k
        by true q le a lt = absurd (omega arith)
        by false q le a lt =
            let r = a lt in
            record {
              deed = r.deed;
              acted = r.acted;
              of = r.of;
              brings = r.brings;
              heard = r.heard;
              boot = r.boot;
              hopes = λ w. ap (λ (b : Bool). if b then false else hopes_of who k past) q ∙ r.hopes w;
            }

    -- one that was held is shown, or it was given and comes now
    pub hold_stays : ((d : ℕ) (k : HeldLock) → In k (held_at d holding) → (Kept (held_at d past) k × (life_of d past ≡ life_of d holding))
        ⊎ Comes osts past holding d k) → Stays osts clients past holding
    hold_stays kept =
        client_stays osts clients past stamp c (Hold t lock marked size seen) client h
        (record { acted = λ d a. a; promoted = λ l p. p; hears = λ d x a. a; heard = λ d f r a. a }) (λ d a. a) (λ l p. p)
        (λ d. omega arith) kept
        (λ d l g x e. hold_hopes d.reply.who l.cookie.0 e) hold_single hold_awaits

    pub locks_hold : Stays osts clients past holding → Locks osts clients holding
    locks_hold s = client_locks osts clients past stamp c (Hold t lock marked size seen) client h s
        (record { was = λ from to m w. w; gone = λ d cookie w. w })

  -- ---- a held lock is given up: then it is dead

  module _ (t : ℕ) (lock : Lock) (ok : DropOk past c t lock) where
    abbrev dropping : List Line
    dropping = line (turn stamp (Client c)) (Drop t lock) ∷ past

    dropped_kept : (d : ℕ) (k : HeldLock) → In k (held_at d dropping) → Kept (held_at d past) k
    dropped_kept d k =
        cond_both (nat_eq d c) (without (named (record { 0 = t }) lock.cookie) (held_at d past)) (held_at d past)
        (λ (hs : List HeldLock). In k hs → Kept (held_at d past) k)
        (λ q i. kept_same (held_at d past) k (in_filter (λ (g : HeldLock). not (is_named (named (record { 0 = t }) lock.cookie) g)) k
        (held_at d past) i).0)
        (λ q i. kept_same (held_at d past) k i)

    pub drops_stay : Stays osts clients past dropping
    drops_stay =
        client_stays osts clients past stamp c (Drop t lock) client h
        (record { acted = λ d a. a; promoted = λ l p. p; hears = λ d x a. a; heard = λ d f r a. a }) (λ d a. a) (λ l p. p)
        (λ d. omega arith)
        (λ d k i. inl (dropped_kept d k i, refl)) (λ d l g x e. e) h.single h.awaits

    -- none of its cookie is held
    dropped_none : (d : ℕ) → d ≡ c → NoneOf lock.cookie (held_at d dropping)
    dropped_none d e k =
        cond_both (nat_eq d c) (without (name_of t lock.cookie) (held_at d past)) (held_at d past)
        (λ (hs : List HeldLock). In k hs → k.lock.cookie.0 ≡ lock.cookie.0 → ⊥)
        (λ q i same.
        let r = in_filter (λ (g : HeldLock). not (is_named (name_of t lock.cookie) g)) k (held_at d past) i in
        let no = not-true (is_named (name_of t lock.cookie) k) r.1 in
        let yes = is_of_name t lock.cookie k (ok.there k (subst (λ v. In k (held_at v past)) e r.0)) same in
        absurd (cc))
        (λ q i. absurd (eqb-false d c q e))

    dropped_back : GivenBack dropping (life_of c past) lock.cookie
    dropped_back =
        let r = h.held c ok.holding ok.held in
        let there : r.deed.reply.who.client ≡ c = ap (λ (w : Who). w.client) r.who ∙ client c in
        record {
          deed = r.deed;
          lock = lock;
          gave = gave_more past dropping drops_stay.grows r.deed lock (subst (λ (l : Lock). Gave past r.deed l) ok.is r.gave);
          is = refl;
          of = r.who;
          dead = (
            subst (λ (w : Who). Hears past w r.deed.reply.xid.0) (sym r.who) r.heard,
            dropped_none r.deed.reply.who.client there,
            subst (λ (w : Who). hopes_of w lock.cookie.0 past ≡ false) (sym r.who)
                (subst (λ (l : Lock). hopes_of (life_of c past) l.cookie.0 past ≡ false) ok.is r.came),
          );
        }

    pub locks_drop : Locks osts clients dropping
    locks_drop =
        locks_stay osts clients past dropping drops_stay client h
        (record {
          blocks = λ from d who boot cookie w. called_more past dropping drops_stay.grows d who cookie (h.blocks from d who boot cookie w);
          cancels = λ from to who boot cookie w. given_more past dropping drops_stay.grows
              (stays_dead osts clients past dropping drops_stay client h) who cookie (h.cancels from to who boot cookie w);
          gone = λ who cookie. ⊎_elim
              (λ (q : (is_own who past (Client c) ≡ true) × (lock.cookie ≡ cookie)). subst (λ v. GivenBack dropping who v) q.1
              (subst (λ (w : Who). GivenBack dropping w lock.cookie) (sym (own_is who past c q.0)) dropped_back))
              (λ (q : Gone past who cookie). given_more past dropping drops_stay.grows
              (stays_dead osts clients past dropping drops_stay client h) who cookie (h.gone who cookie q));
          notices = λ from to g w. notified_more past dropping drops_stay.grows g (h.notices from to g w);
          relocks = h.relocks;
        })
