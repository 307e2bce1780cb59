-- Which lines give an entry of a story that says of what lives asked or heard, of what came with a lock, of a told change, a transaction, a
-- commit or
-- a close; what is so of the story
-- with each of these, and with any other entry, is so after the line.
use Rattle.std.proofs.Common.{◌≡◌, ℕ, Bool, true, false, List, ◌∷◌, Option, Some, None, refl, sym, subst, ap}
use Rattle.std.specs.Prelude.{◌==◌, if◌then◌else◌, option_map}
use Rattle.std.specs.Option.{unwrap_or}
use Rattle.std.proofs.lemmas.Bool.{cond_both, eqb-true}
use Rattle.lu_base.specs.declared.ids.Node.{Node}
use Rattle.lu_base.specs.declared.ids.Node.TheVariants.{Client, Target}
use Rattle.lu_base.specs.declared.locks.Lock.{Lock as TableLock}
use Rattle.lu_base.specs.declared.locks.Resource.{Resource}
use Rattle.lu_held.specs.Locks.{same_resource}
use Rattle.lu_msg.specs.declared.commits.Batch.{Batch}
use Rattle.lu_msg.specs.declared.messages.Reply.{Reply as ReplyTo}
use Rattle.lu_spec_entries.specs.Carried.{Deed, Flight, Outcome}
use Rattle.lu_spec_entries.specs.declared.changes.Flush.{Flush}
use Rattle.lu_spec_entries.specs.Words as word
use Rattle.lu_spec_entries.specs.Words.{Line, is_target}
use Rattle.lu_spec_client.specs.Calls.{life_at}
use Rattle.lu_proof_lawful.proofs.Preconditions.QueueLists.{resource_of}
use Rattle.lu_proof_bytes.specs.Object.Words.{Did, Op, Entry, Takes, Tells, Flies, Heard, Hold, Drop, Forgets, Grant, Wait, Promote, Acts}
use Rattle.lu_proof_bytes.specs.Object.Words.{Txn, Release, Evict, Commit, Close, Send}
use Rattle.lu_proof_objects.specs.Points.{change_of}
use Rattle.lu_proof_lawful.specs.Projection.Lives.{number_of, is_live}
use Rattle.lu_proof_lawful.specs.Projection.Locks.{lock_of, held, lock_over}
use Rattle.lu_proof_lawful.specs.Projection.Requests.{op_of, among, answer_of}
use Rattle.lu_proof_lawful.specs.Projection.Calls.{did, did_under, takes}
use Rattle.lu_proof_lawful.specs.Projection.Closes.{closes}
use Rattle.lu_proof_lawful.specs.Projection.Messages.{request_as, by_client, by_target}
use Rattle.lu_proof_lawful.specs.Projection.Stories.{with_entry, of_life, of_target, of_life_at, if_on, flies, hears, served, grants, acts}
use Rattle.lu_proof_lawful.specs.Projection.Stories.{size_in, step}

-- any other entry
abbrev pub IsOther : Entry → Type 0
IsOther (Flies q) = ⊥
IsOther (Heard q a) = ⊥
IsOther (Hold l s seen) = ⊥
IsOther (Tells c call) = ⊥
IsOther (Txn n q) = ⊥
IsOther (Commit n) = ⊥
IsOther (Close b lost gone) = ⊥
IsOther _ = Unit {0}

-- ---- what entries are made of

map_other : {A : Type 0} (f : A → Entry) → ((a : A) → IsOther (f a)) → (o : Option A) (x : Entry) → option_map f o ≡ Some x → IsOther x
map_other f q None x e = absurd (cc)
map_other {A} f q (Some a) x e = let s : f a ≡ x = cc in subst IsOther s (q a)

on_other : (r p : Resource) (y x : Entry) → IsOther y → if_on r p y ≡ Some x → IsOther x
on_other r p y x q e = by (same_resource p r) e
  where
    by : (b : Bool) → (if b then Some y else None) ≡ Some x → IsOther x
    by true f = let s : y ≡ x = cc in subst IsOther s q
    by false f = absurd (cc)

grants_other : (r : Resource) (l : TableLock) (asked : Option Deed) (h : List Entry) (x : Entry) → grants r l asked h ≡ Some x → IsOther x
grants_other r l None h x e = on_other r l.resource (Promote (lock_of l)) x tt e
grants_other r l (Some d) h x e = map_other (λ o. Grant (request_as (number_of d.reply.who) d.reply.xid.0 o) (lock_of l)
    (size_in d.reply.answer) (among d.reply.seen)) (λ o. tt) (op_of r h d.op) x e

-- ---- what is so after a line

pub record Cases (M : List Entry → Type 0) (t : ℕ) (r : Resource) (node : Node) (past : List Line) (e : word.Entry) (h : List Entry) : Type
    0 where
  pub same : M h
  pub other : (x : Entry) → IsOther x → M (x ∷ h)
  pub flies : (c : ℕ) (f : Flight) (o : Op) → node ≡ Client c → e ≡ word.Flies t f → is_live c past h ≡ true
      → M (Flies (request_as (number_of (life_at c past)) f.xid o) ∷ h)
  pub heard : (c : ℕ) (f : Flight) (p : ReplyTo) (o : Op) → node ≡ Client c → e ≡ word.Heard t f p → is_live c past h ≡ true
      → M (Heard (request_as (number_of (life_at c past)) f.xid o) (answer_of (request_as (number_of (life_at c past)) f.xid o) p) ∷ h)
  pub hold : (c : ℕ) (lock : TableLock) (marked : Bool) (size : Option ℕ) (seen : List ℕ) → node ≡ Client c → e
      ≡ word.Hold t lock marked size seen → is_live c past h ≡ true → lock.resource ≡ r
      → M (Hold (lock_of lock) (unwrap_or size 0) (among seen) ∷ h)
  pub tells : (c : ℕ) (change : Flush) (k : ℕ) → node ≡ Client c → e ≡ word.Changes r change → is_live c past h ≡ true
      → M (Tells (number_of (life_at c past)) (Did k (change_of change)) ∷ h)
  pub txn : (d : Deed) (o : Op) → node ≡ Target t → e ≡ word.Txn d
      → M (Txn d.reply.txn.0 (request_as (number_of d.reply.who) d.reply.xid.0 o) ∷ h)
  pub commit : (to : ℕ) (batch : Batch) → node ≡ Target t → e ≡ word.Commit to batch → M (Commit to ∷ h)
  pub close : (o : Outcome) → node ≡ Target t → e ≡ word.Close o → M (closes h o ∷ h)

module _ (M : List Entry → Type 0) (t : ℕ) (r : Resource) (past : List Line) (h : List Entry) where
  module _ (node : Node) (e : word.Entry) (k : Cases M t r node past e h) where
    with_other : (o : Option Entry) → ((x : Entry) → o ≡ Some x → IsOther x) → M (with_entry o h)
    with_other None n = k.same
    with_other (Some x) n = k.other x (n x refl)

    target_other : (o : Option Entry) → ((x : Entry) → o ≡ Some x → IsOther x) → M (of_target t node o h)
    target_other o n = cond_both _ (with_entry o h) h M (λ b. with_other o n) (λ b. k.same)

    life_other : (gives : ℕ → Option Entry) → ((c : ℕ) (x : Entry) → gives c ≡ Some x → IsOther x) → M (of_life node past gives h)
    life_other gives n = by node
      where
        by : (from : Node) → M (of_life from past gives h)
        by (Target u) = k.same
        by (Client c) = cond_both (is_live c past h) (with_entry (gives (number_of (life_at c past))) h) h M
            (λ b. with_other (gives (number_of (life_at c past))) (n (number_of (life_at c past)))) (λ b. k.same)

    at_other : (u : ℕ) (gives : ℕ → Option Entry) → ((c : ℕ) (x : Entry) → gives c ≡ Some x → IsOther x)
        → M (of_life_at t u node past gives h)
    at_other u gives n = cond_both (u == t) (of_life node past gives h) h M (λ b. life_other gives n) (λ b. k.same)

  -- a client's line of that target
  at_own : (u : ℕ) (node : Node) (gives : ℕ → Option Entry) → M h
      → ((c : ℕ) → node ≡ Client c → u ≡ t → is_live c past h ≡ true → M (with_entry (gives (number_of (life_at c past))) h))
      → M (of_life_at t u node past gives h)
  at_own u node gives same own = by (u == t) refl
    where
      live : (c : ℕ) → node ≡ Client c → u ≡ t → (b : Bool) → is_live c past h ≡ b
          → M (if b then with_entry (gives (number_of (life_at c past))) h else h)
      live c here at true l = own c here at l
      live c here at false l = same

      of : (n : Node) → node ≡ n → u ≡ t → M (of_life n past gives h)
      of (Target v) here at = same
      of (Client c) here at = live c here at (is_live c past h) refl

      by : (b : Bool) → (u == t) ≡ b → M (if b then of_life node past gives h else h)
      by true q = of node refl (eqb-true u t q)
      by false q = same

  -- one of all targets
  of_own : (node : Node) (gives : ℕ → Option Entry) → M h → ((c : ℕ) → node ≡ Client c → is_live c past h ≡ true
      → M (with_entry (gives (number_of (life_at c past))) h)) → M (of_life node past gives h)
  of_own (Target v) gives same own = same
  of_own (Client c) gives same own = live (is_live c past h) refl
    where
      live : (b : Bool) → is_live c past h ≡ b → M (if b then with_entry (gives (number_of (life_at c past))) h else h)
      live true l = own c refl l
      live false l = same

  -- a line of the target
  own_target : (node : Node) (x : Entry) → M h → (node ≡ Target t → M (x ∷ h)) → M (of_target t node (Some x) h)
  own_target (Client c) x same own = same
  own_target (Target u) x same own = by (t == u) refl
    where
      by : (b : Bool) → (t == u) ≡ b → M (if b then x ∷ h else h)
      by true q = own (ap Target (sym (eqb-true t u q)))
      by false q = same

  pub by_line : (node : Node) (e : word.Entry) → Cases M t r node past e h → M (step t r node past e h)
  by_line (Client c) (word.Send (Target u) m) k = at_other (Client c) (word.Send (Target u) m) k u (λ d. option_map Send (by_client r h m))
      (λ d x q. map_other Send (λ a. tt) (by_client r h m) x q)
  by_line (Client c) (word.Send (Client d) m) k = target_other (Client c) (word.Send (Client d) m) k (option_map Send (by_target h m))
      (λ x q. map_other Send (λ a. tt) (by_target h m) x q)
  by_line (Target v) (word.Send (Target u) m) k = at_other (Target v) (word.Send (Target u) m) k u (λ d. option_map Send (by_client r h m))
      (λ d x q. map_other Send (λ a. tt) (by_client r h m) x q)
  by_line (Target v) (word.Send (Client d) m) k = target_other (Target v) (word.Send (Client d) m) k (option_map Send (by_target h m))
      (λ x q. map_other Send (λ a. tt) (by_target h m) x q)
  by_line node (word.Flies u f) k = at_own u node (flies r f h) k.same (λ c here at live. by c here at live (op_of r h f.op))
    where
      by : (c : ℕ) → node ≡ Client c → u ≡ t → is_live c past h ≡ true → (o : Option Op)
          → M (with_entry (option_map (λ o. Flies (request_as (number_of (life_at c past)) f.xid o)) o) h)
      by c here at live None = k.same
      by c here at live (Some o) = k.flies c f o here (ap (λ v. word.Flies v f) at) live
  by_line node (word.Knows u boot) k = at_other node (word.Knows u boot) k u (λ c. Some (Forgets c))
      (λ c x q. let s : Forgets c ≡ x = cc in subst IsOther s tt)
  by_line node (word.Heard u f p) k = at_own u node (hears r f p h) k.same (λ c here at live. by c here at live (op_of r h f.op))
    where
      by : (c : ℕ) → node ≡ Client c → u ≡ t → is_live c past h ≡ true → (o : Option Op)
          → M (with_entry (option_map (λ o. Heard (request_as (number_of (life_at c past)) f.xid o)
          (answer_of (request_as (number_of (life_at c past)) f.xid o) p)) o) h)
      by c here at live None = k.same
      by c here at live (Some o) = k.heard c f p o here (ap (λ v. word.Heard v f p) at) live
  by_line node (word.Hold u l marked size seen) k = at_own u node
      (λ c. if_on r l.resource (Hold (lock_of l) (unwrap_or size 0) (among seen))) k.same
      (λ c here at live. by c here at live (same_resource l.resource r) refl)
    where
      by : (c : ℕ) → node ≡ Client c → u ≡ t → is_live c past h ≡ true → (b : Bool) → same_resource l.resource r ≡ b
          → M (with_entry (if b then Some (Hold (lock_of l) (unwrap_or size 0) (among seen)) else None) h)
      by c here at live true q = k.hold c l marked size seen here (ap (λ v. word.Hold v l marked size seen) at) live
          (resource_of l.resource r q)
      by c here at live false q = k.same
  by_line node (word.Drop u l) k = at_other node (word.Drop u l) k u (λ c. if_on r l.resource (Drop (lock_of l)))
      (λ c x q. on_other r l.resource (Drop (lock_of l)) x tt q)
  by_line node (word.Changes p change) k = by (same_resource p r) refl
    where
      told : (c : ℕ) → node ≡ Client c → p ≡ r → is_live c past h ≡ true → (n : Option ℕ)
          → M (with_entry (did_under (number_of (life_at c past)) (change_of change) n) h)
      told c here on live None = k.same
      told c here on live (Some n) = k.tells c change n here (ap (λ (q : Resource). word.Changes q change) on) live

      by : (b : Bool) → same_resource p r ≡ b → M (if b then of_life node past (λ c. did c change h) h else h)
      by true q = of_own node (λ c. did c change h) k.same (λ c here live. told c here (resource_of p r q) live
          (lock_over (number_of (life_at c past)) (change_of change) (held h)))
      by false q = k.same
  by_line node (word.WritesBack p change) k = cond_both (same_resource p r) _ h M
      (λ b. life_other node (word.WritesBack p change) k (λ c. takes c change h)
      (λ c x q. map_other (λ n. Takes c n (change_of change)) (λ n. tt) (lock_over c (change_of change) (held h)) x q))
      (λ b. k.same)
  by_line node (word.Grant l asked) k = target_other node (word.Grant l asked) k (grants r l asked h) (λ x q. grants_other r l asked h x q)
  by_line node (word.Wait l d) k = target_other node (word.Wait l d) k (served r d h (λ q. Wait q (lock_of l)))
      (λ x q. map_other (λ o. Wait (request_as (number_of d.reply.who) d.reply.xid.0 o) (lock_of l)) (λ o. tt) (op_of r h d.op) x q)
  by_line node (word.Act d) k = target_other node (word.Act d) k (acts r d h)
      (λ x q. map_other (λ o. Acts (request_as (number_of d.reply.who) d.reply.xid.0 o)
      (answer_of (request_as (number_of d.reply.who) d.reply.xid.0 o) d.reply)) (λ o. tt) (op_of r h d.op) x q)
  by_line node (word.Answers d) k = target_other node (word.Answers d) k (acts r d h)
      (λ x q. map_other (λ o. Acts (request_as (number_of d.reply.who) d.reply.xid.0 o)
      (answer_of (request_as (number_of d.reply.who) d.reply.xid.0 o) d.reply)) (λ o. tt) (op_of r h d.op) x q)
  by_line node (word.Txn d) k = by (op_of r h d.op)
    where
      by : (o : Option Op) → M (of_target t node (option_map (λ o. Txn d.reply.txn.0 (request_as (number_of d.reply.who) d.reply.xid.0 o))
          o) h)
      by None = cond_both (is_target t node) h h M (λ b. k.same) (λ b. k.same)
      by (Some o) = own_target node (Txn d.reply.txn.0 (request_as (number_of d.reply.who) d.reply.xid.0 o)) k.same
          (λ here. k.txn d o here refl)
  by_line node (word.Release l) k = target_other node (word.Release l) k (if_on r l.resource (Release l.cookie.0))
      (λ x q. on_other r l.resource (Release l.cookie.0) x tt q)
  by_line node (word.Commit to batch) k = own_target node (Commit to) k.same (λ here. k.commit to batch here refl)
  by_line node (word.Close o) k = own_target node (closes h o) k.same (λ here. k.close o here refl)
  by_line node (word.Evict who cause) k = target_other node (word.Evict who cause) k (Some (Evict (number_of who)))
      (λ x q. let s : Evict (number_of who) ≡ x = cc in subst IsOther s tt)
  by_line node _ k = k.same
