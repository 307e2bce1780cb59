-- What a line makes of the locks that a story says are held or awaited: one is held more where a live client came to hold it, one less
-- where such
-- a client gave it up, and one is awaited more where a client heard that it is to come. No other line changes any of this.
use Rattle.std.proofs.Common.{◌≡◌, ℕ, Bool, true, false, List, ◌∷◌, Option, Some, None, ◌⊎◌, inl, inr, ⊎_elim, refl, sym, subst}
use Rattle.std.specs.Prelude.{nat_eq, ◌==◌, ◌&&◌, if◌then◌else◌, option_map}
use Rattle.std.specs.Option.{unwrap_or}
use Rattle.std.proofs.lemmas.Bool.{cond_both, and_parts, or_cases, eqb-true, eqb-false}
use Rattle.lu_base.specs.declared.ids.Node.{Node}
use Rattle.lu_base.specs.declared.ids.Node.TheVariants.{Client, Target}
use Rattle.lu_base.specs.declared.locks.Lock.{Lock as TableLock}
use Rattle.lu_base.specs.declared.locks.Resource.{Resource}
use Rattle.lu_held.specs.Locks.{same_resource}
use Rattle.lu_msg.specs.declared.messages.Reply.{Reply as ReplyTo}
use Rattle.lu_spec_entries.specs.Carried.{Deed, Flight}
use Rattle.lu_spec_entries.specs.Words as word
use Rattle.lu_spec_entries.specs.Words.{Line}
use Rattle.lu_spec_client.specs.Calls.{life_at}
use Rattle.lu_proof_lawful.proofs.Preconditions.QueueLists.{resource_of}
use Rattle.lu_proof_bytes.specs.Object.Words.{Lock, Did, Op, Entry, Takes, Tells, Flies, Heard, Hold, Drop, Forgets, Grant, Wait, Promote}
use Rattle.lu_proof_bytes.specs.Object.Words.{Acts, Txn, Release, Send}
use Rattle.lu_proof_bytes.specs.Object.Words as words
use Rattle.lu_proof_bytes.specs.Object.Folds.{HeldBy, awaits, brings}
use Rattle.lu_proof_objects.specs.Points.{change_of}
use Rattle.lu_proof_lawful.specs.Projection.Lives.{number_of, is_live}
use Rattle.lu_proof_lawful.specs.Projection.Locks.{lock_of, held, lock_over}
use Rattle.lu_proof_lawful.specs.Projection.Requests.{op_of, among, answer_of}
use Rattle.lu_proof_lawful.specs.Projection.Calls.{did, takes}
use Rattle.lu_proof_lawful.specs.Projection.Closes.{closes}
use Rattle.lu_proof_lawful.specs.Projection.Messages.{request_as, by_client, by_target}
use Rattle.lu_proof_lawful.specs.Projection.Stories.{with_entry, of_life, of_target, of_life_at, if_on, flies, hears, served, grants, acts}
use Rattle.lu_proof_lawful.specs.Projection.Stories.{size_in, step}

-- ---- entries that bring no lock, end none and promise none

abbrev pub Quiet : Entry → Type 0
Quiet (Heard q a) = ⊥
Quiet (Hold l s seen) = ⊥
Quiet (Drop l) = ⊥
Quiet _ = Unit {0}

pub quiet_back : (x : Entry) → Quiet x → (h : List Entry) (m : Lock) → HeldBy (x ∷ h) m → HeldBy h m
quiet_back (Heard q a) n h m i = absurd n
quiet_back (Hold l s seen) n h m i = absurd n
quiet_back (Drop l) n h m i = absurd n
quiet_back _ n h m i = i

pub quiet_kept : (x : Entry) → Quiet x → (h : List Entry) (m : Lock) → HeldBy h m → HeldBy (x ∷ h) m
quiet_kept (Heard q a) n h m i = absurd n
quiet_kept (Hold l s seen) n h m i = absurd n
quiet_kept (Drop l) n h m i = absurd n
quiet_kept _ n h m i = i

pub quiet_awaits : (x : Entry) → Quiet x → (h : List Entry) (w j : ℕ) → awaits w j (x ∷ h) ≡ true → awaits w j h ≡ true
quiet_awaits (Heard q a) n h w j e = absurd n
quiet_awaits (Hold l s seen) n h w j e = absurd n
quiet_awaits (Drop l) n h w j e = absurd n
quiet_awaits (Forgets d) n h w j e = by (nat_eq w d) e
  where
    by : (b : Bool) → (if b then false else awaits w j h) ≡ true → awaits w j h ≡ true
    by true f = absurd (cc)
    by false f = f
quiet_awaits _ n h w j e = e

-- ---- what a line makes of locks

-- a live client came to hold that lock of the object
pub record CameHeld (t : ℕ) (r : Resource) (node : Node) (past : List Line) (e : word.Entry) (h : List Entry) (m : Lock) : Type 0 where
  pub client : ℕ
  pub here : node ≡ Client client
  pub lock : TableLock
  pub marked : Bool
  pub size : Option ℕ
  pub seen : List ℕ
  pub is : e ≡ word.Hold t lock marked size seen
  pub live : is_live client past h ≡ true
  pub on : lock.resource ≡ r
  pub same : lock_of lock ≡ m

-- one gave up a lock of that cookie
pub record WentHeld (t : ℕ) (r : Resource) (node : Node) (past : List Line) (e : word.Entry) (h : List Entry) (m : Lock) : Type 0 where
  pub client : ℕ
  pub here : node ≡ Client client
  pub lock : TableLock
  pub is : e ≡ word.Drop t lock
  pub live : is_live client past h ≡ true
  pub on : lock.resource ≡ r
  pub cookie : lock.cookie.0 ≡ m.cookie

-- the live client of that number heard a reply
pub record HearsOf (t : ℕ) (r : Resource) (node : Node) (past : List Line) (e : word.Entry) (h : List Entry) (w : ℕ) : Type 0 where
  pub client : ℕ
  pub here : node ≡ Client client
  pub flight : Flight
  pub reply : ReplyTo
  pub is : e ≡ word.Heard t flight reply
  pub live : is_live client past h ≡ true
  pub life : w ≡ number_of (life_at client past)

-- from the story before the line to that after it
pub record Parted (t : ℕ) (r : Resource) (node : Node) (past : List Line) (e : word.Entry) (h k : List Entry) : Type 0 where
  pub back : (m : Lock) → HeldBy k m → HeldBy h m ⊎ CameHeld t r node past e h m
  pub kept : (m : Lock) → HeldBy h m → HeldBy k m ⊎ WentHeld t r node past e h m
  pub awaits : (w j : ℕ) → awaits w j k ≡ true → (awaits w j h ≡ true) ⊎ HearsOf t r node past e h w

module _ (t : ℕ) (r : Resource) (node : Node) (past : List Line) (e : word.Entry) (h : List Entry) where
  same : Parted t r node past e h h
  same = record { back = λ m i. inl i; kept = λ m i. inl i; awaits = λ w j a. inl a }

  quiet : (x : Entry) → Quiet x → Parted t r node past e h (x ∷ h)
  quiet x n = record {
    back = λ m i. inl (quiet_back x n h m i);
    kept = λ m i. inl (quiet_kept x n h m i);
    awaits =
        λ w j a. inl (quiet_awaits x n h w j a);
  }

  AllQuiet : Option Entry → Type 0
  AllQuiet o = (x : Entry) → o ≡ Some x → Quiet x

  quiet_with : (o : Option Entry) → ((x : Entry) → o ≡ Some x → Quiet x) → Parted t r node past e h (with_entry o h)
  quiet_with None n = same
  quiet_with (Some x) n = quiet x (n x refl)

  quiet_target : (o : Option Entry) → ((x : Entry) → o ≡ Some x → Quiet x) → Parted t r node past e h (of_target t node o h)
  quiet_target o n = cond_both _ (with_entry o h) h (λ k. Parted t r node past e h k) (λ b. quiet_with o n) (λ b. same)

  quiet_life : (gives : ℕ → Option Entry) → ((c : ℕ) (x : Entry) → gives c ≡ Some x → Quiet x)
      → Parted t r node past e h (of_life node past gives h)
  quiet_life gives n = by node
    where
      by : (from : Node) → Parted t r node past e h (of_life from past gives h)
      by (Target u) = same
      by (Client c) = cond_both (is_live c past h) (with_entry (gives (number_of (life_at c past))) h) h (λ k. Parted t r node past e h k)
          (λ b. quiet_with (gives (number_of (life_at c past))) (n (number_of (life_at c past)))) (λ b. same)

  quiet_at : (u : ℕ) (gives : ℕ → Option Entry) → ((c : ℕ) (x : Entry) → gives c ≡ Some x → Quiet x)
      → Parted t r node past e h (of_life_at t u node past gives h)
  quiet_at u gives n = cond_both (u == t) (of_life node past gives h) h (λ k. Parted t r node past e h k) (λ b. quiet_life gives n)
      (λ b. same)

-- ---- what entries are made of

map_quiet : {A : Type 0} (f : A → Entry) → ((a : A) → Quiet (f a)) → (o : Option A) (x : Entry) → option_map f o ≡ Some x → Quiet x
map_quiet f q None x e = absurd (cc)
map_quiet {A} f q (Some a) x e = let s : f a ≡ x = cc in subst Quiet s (q a)

on_quiet : (r p : Resource) (y x : Entry) → Quiet y → if_on r p y ≡ Some x → Quiet x
on_quiet r p y x q e = by (same_resource p r) e
  where
    by : (b : Bool) → (if b then Some y else None) ≡ Some x → Quiet x
    by true f = let s : y ≡ x = cc in subst Quiet s q
    by false f = absurd (cc)

grants_quiet : (r : Resource) (l : TableLock) (asked : Option Deed) (h : List Entry) (x : Entry) → grants r l asked h ≡ Some x → Quiet x
grants_quiet r l None h x e = on_quiet r l.resource (Promote (lock_of l)) x tt e
grants_quiet r l (Some d) h x e = map_quiet (λ o. Grant (request_as (number_of d.reply.who) d.reply.xid.0 o) (lock_of l)
    (size_in d.reply.answer) (among d.reply.seen)) (λ o. tt) (op_of r h d.op) x e

-- ---- a client comes to hold a lock, or gives it up

module _ (t : ℕ) (r : Resource) (past : List Line) (h : List Entry) (c : ℕ) (live : is_live c past h ≡ true) where
  hold_on : (lock : TableLock) (marked : Bool) (size : Option ℕ) (seen : List ℕ) → lock.resource ≡ r
      → Parted t r (Client c) past (word.Hold t lock marked size seen) h (Hold (lock_of lock) (unwrap_or size 0) (among seen) ∷ h)
  hold_on lock marked size seen on =
      record {
        back = λ m i. ⊎_elim
            (λ (s : lock_of lock ≡ m). inr (record {
              client = c;
              here = refl;
              lock = lock;
              marked = marked;
              size = size;
              seen = seen;
              is =
                  refl;
              live = live;
              on = on;
              same = s;
            }))
            (λ (j : HeldBy h m). inl j)
            i;
        kept = λ m i. inl (inr i);
        awaits = λ w j a. by w j (nat_eq w (number_of lock.ask.who) && nat_eq j lock.cookie.0) a;
      }
    where
      by : (w j : ℕ) (b : Bool) → (if b then false else awaits w j h) ≡ true → (awaits w j h ≡ true)
          ⊎ HearsOf t r (Client c) past (word.Hold t lock marked size seen) h w
      by w j true f = absurd (cc)
      by w j false f = inl f

  drop_on : (lock : TableLock) → lock.resource ≡ r → Parted t r (Client c) past (word.Drop t lock) h (Drop (lock_of lock) ∷ h)
  drop_on lock on = record { back = λ m i. inl i.1; kept = λ m i. by m i (nat_eq lock.cookie.0 m.cookie) refl; awaits = λ w j a. inl a }
    where
      by : (m : Lock) → HeldBy h m → (b : Bool) → nat_eq lock.cookie.0 m.cookie ≡ b
          → ((lock.cookie.0 ≡ m.cookie → ⊥) × HeldBy h m) ⊎ WentHeld t r (Client c) past (word.Drop t lock) h m
      by m i true e = inr (record {
        client = c;
        here = refl;
        lock = lock;
        is = refl;
        live = live;
        on = on;
        cookie =
            eqb-true lock.cookie.0 m.cookie e;
      })
      by m i false e = inl (eqb-false lock.cookie.0 m.cookie e, i)

  heard_on : (f : Flight) (p : ReplyTo) (o : Option Op)
      → Parted t r (Client c) past (word.Heard t f p) h (with_entry
      (option_map (λ o. Heard (request_as (number_of (life_at c past)) f.xid o)
      (answer_of (request_as (number_of (life_at c past)) f.xid o) p)) o) h)
  heard_on f p None = record { back = λ m i. inl i; kept = λ m i. inl i; awaits = λ w j a. inl a }
  heard_on f p (Some o) =
      record {
        back = λ m i. inl i;
        kept = λ m i. inl i;
        awaits = λ w j a. ⊎_elim
            (λ (b : (nat_eq w (number_of (life_at c past)) && brings (answer_of (request_as (number_of (life_at c past)) f.xid o) p) j)
            ≡ true).
            inr (record {
              client = c;
              here = refl;
              flight = f;
              reply = p;
              is = refl;
              live = live;
              life =
                  eqb-true w (number_of (life_at c past)) (and_parts (nat_eq w (number_of (life_at c past))) _ b).0;
            }))
            (λ (b : awaits w j h ≡ true). inl b)
            (or_cases (nat_eq w (number_of (life_at c past)) && brings (answer_of (request_as (number_of (life_at c past)) f.xid o) p) j)
            (awaits w j h) a);
      }

module _ (t : ℕ) (r : Resource) (past : List Line) (h : List Entry) where
  -- a line of that target
  at_own : (u : ℕ) (node : Node) (e : ℕ → word.Entry) (gives : ℕ → Option Entry)
      → ((c : ℕ) → node ≡ Client c → is_live c past h ≡ true → Parted t r (Client c) past (e t) h
      (with_entry (gives (number_of (life_at c past))) h))
      → Parted t r node past (e u) h (of_life_at t u node past gives h)
  at_own u node e gives own = by (u == t) refl
    where
      live : (c : ℕ) → node ≡ Client c → u ≡ t → (b : Bool) → is_live c past h ≡ b
          → Parted t r node past (e u) h (if b then with_entry (gives (number_of (life_at c past))) h else h)
      live c here same true l = subst (λ (n : Node). Parted t r n past (e u) h (with_entry (gives (number_of (life_at c past))) h))
          (sym here) (subst (λ v. Parted t r (Client c) past (e v) h (with_entry (gives (number_of (life_at c past))) h)) (sym same)
          (own c here l))
      live c here same false l = record { back = λ m i. inl i; kept = λ m i. inl i; awaits = λ w j a. inl a }

      of : (n : Node) → node ≡ n → u ≡ t → Parted t r node past (e u) h (of_life n past gives h)
      of (Target v) here same = record { back = λ m i. inl i; kept = λ m i. inl i; awaits = λ w j a. inl a }
      of (Client c) here same = live c here same (is_live c past h) refl

      by : (b : Bool) → (u == t) ≡ b → Parted t r node past (e u) h (if b then of_life node past gives h else h)
      by true q = of node refl (eqb-true u t q)
      by false q = record { back = λ m i. inl i; kept = λ m i. inl i; awaits = λ w j a. inl a }

  pub parted : (node : Node) (e : word.Entry) → Parted t r node past e h (step t r node past e h)
  parted (Client c) (word.Send (Target u) m) = quiet_at t r (Client c) past (word.Send (Target u) m) h u
      (λ d. option_map Send (by_client r h m)) (λ d x q. map_quiet Send (λ a. tt) (by_client r h m) x q)
  parted (Client c) (word.Send (Client d) m) = quiet_target t r (Client c) past (word.Send (Client d) m) h (option_map Send (by_target h m))
      (λ x q. map_quiet Send (λ a. tt) (by_target h m) x q)
  parted (Target v) (word.Send (Target u) m) = quiet_at t r (Target v) past (word.Send (Target u) m) h u
      (λ d. option_map Send (by_client r h m)) (λ d x q. map_quiet Send (λ a. tt) (by_client r h m) x q)
  parted (Target v) (word.Send (Client d) m) = quiet_target t r (Target v) past (word.Send (Client d) m) h (option_map Send (by_target h m))
      (λ x q. map_quiet Send (λ a. tt) (by_target h m) x q)
  parted node (word.Flies u f) = quiet_at t r node past (word.Flies u f) h u (flies r f h)
      (λ c x q. map_quiet (λ o. Flies (request_as c f.xid o)) (λ o. tt) (op_of r h f.op) x q)
  parted node (word.Knows u boot) = quiet_at t r node past (word.Knows u boot) h u (λ c. Some (Forgets c))
      (λ c x q. let s : Forgets c ≡ x = cc in subst Quiet s tt)
  parted node (word.Heard u f p) = at_own u node (λ v. word.Heard v f p) (hears r f p h)
      (λ c here live. heard_on t r past h c live f p (op_of r h f.op))
  parted node (word.Hold u l marked size seen) = at_own u node (λ v. word.Hold v l marked size seen)
      (λ c. if_on r l.resource (Hold (lock_of l) (unwrap_or size 0) (among seen)))
      (λ c here live. on c live (same_resource l.resource r) refl)
    where
      on : (c : ℕ) → is_live c past h ≡ true → (b : Bool) → same_resource l.resource r ≡ b
          → Parted t r (Client c) past (word.Hold t l marked size seen) h
          (with_entry (if b then Some (Hold (lock_of l) (unwrap_or size 0) (among seen)) else None) h)
      on c live true q = hold_on t r past h c live l marked size seen (resource_of l.resource r q)
      on c live false q = record { back = λ m i. inl i; kept = λ m i. inl i; awaits = λ w j a. inl a }
  parted node (word.Drop u l) = at_own u node (λ v. word.Drop v l) (λ c. if_on r l.resource (Drop (lock_of l)))
      (λ c here live. on c live (same_resource l.resource r) refl)
    where
      on : (c : ℕ) → is_live c past h ≡ true → (b : Bool) → same_resource l.resource r ≡ b
          → Parted t r (Client c) past (word.Drop t l) h (with_entry (if b then Some (Drop (lock_of l)) else None) h)
      on c live true q = drop_on t r past h c live l (resource_of l.resource r q)
      on c live false q = record { back = λ m i. inl i; kept = λ m i. inl i; awaits = λ w j a. inl a }
  parted node (word.Changes p change) = cond_both (same_resource p r) _ h (λ k. Parted t r node past (word.Changes p change) h k)
      (λ b. quiet_life t r node past (word.Changes p change) h (λ c. did c change h)
      (λ c x q. map_quiet (λ k. Tells c (Did k (change_of change))) (λ k. tt) (lock_over c (change_of change) (held h)) x q))
      (λ b. same t r node past (word.Changes p change) h)
  parted node (word.WritesBack p change) = cond_both (same_resource p r) _ h (λ k. Parted t r node past (word.WritesBack p change) h k)
      (λ b. quiet_life t r node past (word.WritesBack p change) h (λ c. takes c change h)
      (λ c x q. map_quiet (λ k. Takes c k (change_of change)) (λ k. tt) (lock_over c (change_of change) (held h)) x q))
      (λ b. same t r node past (word.WritesBack p change) h)
  parted node (word.Grant l asked) = quiet_target t r node past (word.Grant l asked) h (grants r l asked h)
      (λ x q. grants_quiet r l asked h x q)
  parted node (word.Wait l d) = quiet_target t r node past (word.Wait l d) h (served r d h (λ q. Wait q (lock_of l)))
      (λ x q. map_quiet (λ o. Wait (request_as (number_of d.reply.who) d.reply.xid.0 o) (lock_of l)) (λ o. tt) (op_of r h d.op) x q)
  parted node (word.Act d) = quiet_target t r node past (word.Act d) h (acts r d h)
      (λ x q. map_quiet (λ o. Acts (request_as (number_of d.reply.who) d.reply.xid.0 o)
      (answer_of (request_as (number_of d.reply.who) d.reply.xid.0 o) d.reply)) (λ o. tt) (op_of r h d.op) x q)
  parted node (word.Answers d) = quiet_target t r node past (word.Answers d) h (acts r d h)
      (λ x q. map_quiet (λ o. Acts (request_as (number_of d.reply.who) d.reply.xid.0 o)
      (answer_of (request_as (number_of d.reply.who) d.reply.xid.0 o) d.reply)) (λ o. tt) (op_of r h d.op) x q)
  parted node (word.Txn d) = quiet_target t r node past (word.Txn d) h (served r d h (Txn d.reply.txn.0))
      (λ x q. map_quiet (λ o. Txn d.reply.txn.0 (request_as (number_of d.reply.who) d.reply.xid.0 o)) (λ o. tt) (op_of r h d.op) x q)
  parted node (word.Release l) = quiet_target t r node past (word.Release l) h (if_on r l.resource (Release l.cookie.0))
      (λ x q. on_quiet r l.resource (Release l.cookie.0) x tt q)
  parted node (word.Commit to batch) = quiet_target t r node past (word.Commit to batch) h (Some (words.Commit to))
      (λ x q. let s : words.Commit to ≡ x = cc in subst Quiet s tt)
  parted node (word.Close o) = quiet_target t r node past (word.Close o) h (Some (closes h o))
      (λ x q. let s : closes h o ≡ x = cc in subst Quiet s tt)
  parted node (word.Evict who cause) = quiet_target t r node past (word.Evict who cause) h (Some (words.Evict (number_of who)))
      (λ x q. let s : words.Evict (number_of who) ≡ x = cc in subst Quiet s tt)
  parted node _ = same t r node past _ h
