-- At the metadata target: what replies to readings taught is true while the lock is granted under which it is known, unless its client
-- doesn't hold that and never will; and each
-- transaction that stands and wrote what such a fact is of is committed, or the reply has seen it. To a life that was evicted all that it
-- knows is true of
-- the tree as it was then. Here all lines but those that close a recovery window.
use Rattle.std.proofs.Common.{◌≡◌, ℕ, ◌+◌, ◌*◌, ◌<◌, ◌≤◌, Bool, true, false, List, [], ◌∷◌, ◌⊎◌, inl, inr, ⊎_elim, refl, sym, subst, ap}
use Rattle.std.proofs.Common.{◌∙◌, arith, Some, None, le_refl}
use Rattle.std.specs.Prelude.{not, ◌==◌, if◌then◌else◌}
use Rattle.std.proofs.lemmas.Bool.{cond-true, cond-false}
use Rattle.lu_base.specs.declared.ids.At.{At}
use Rattle.lu_base.specs.declared.ids.Fid.{Fid}
use Rattle.lu_base.specs.declared.ids.Node.{Node}
use Rattle.lu_base.specs.declared.ids.Node.TheVariants.{Client, Target}
use Rattle.lu_base.specs.declared.ids.Stamp.{Stamp}
use Rattle.lu_base.specs.declared.ids.Who.{Who}
use Rattle.lu_base.specs.declared.locks.Lock.{Lock}
use Rattle.lu_msg.specs.declared.answers.Answer.{Answer}
use Rattle.lu_msg.specs.declared.answers.Answer.TheVariants as told
use Rattle.lu_msg.specs.declared.messages.Request.{Request as RequestOf}
use Rattle.lu_msg.specs.declared.operations.Op.{Op}
use Rattle.lu_msg.specs.declared.operations.Op.TheVariants as op
use Rattle.lu_part.specs.declared.bits.TheConstants.{LOOKUP}
use Rattle.lu_part.specs.declared.parts.Part.{Part}
use Rattle.lu_part.specs.declared.parts.Part.TheVariants as part
use Rattle.lu_spec_machine.specs.declared.child.Child.{Child}
use Rattle.lu_spec_machine.specs.Tree.{Tree, fid_of, child}
use Rattle.lu_spec_machine.specs.Table.{root}
use Rattle.lu_spec_machine.specs.Footprint.{Same, empty, touches, grants, after, Apart}
use Rattle.lu_spec_machine.proofs.Footprints.{same_refl}
use Rattle.lu_spec_entries.specs.Carried.{Deed}
use Rattle.lu_spec_entries.specs.Words.{Entry, Act, Txn as Made, Grant, Wait, Answers, Commit, Close, Release, Evict, Boot, Line, line}
use Rattle.lu_spec_client.specs.Facts.{Fact, taught}
use Rattle.lu_spec_target.specs.Lives.{is_life}
use Rattle.lu_spec_target.specs.Locks.{with_locks}
use Rattle.lu_spec_target.specs.Names.{in_way, is_free}
use Rattle.lu_proof_lawful.specs.Covered.TargetParts.{operation}
use Rattle.lu_proof_lawful.specs.Covered.TargetStates.{Server, none, server_of, evicted_of, next_number}
use Rattle.lu_proof_lawful.specs.Covered.TargetCloses.{is_lost}
use Rattle.lu_proof_lawful.specs.Covered.Deeds.{asked, deed, locks_of, written_by}
use Rattle.lu_proof_lawful.specs.Covered.Heads.{Head}
use Rattle.lu_proof_lawful.proofs.Preconditions.Guards.{In}
use Rattle.lu_proof_lawful.proofs.Preconditions.StoryGuards.{IsServing, ActOk, ActsOk, TxnOk, TxnsOk, GrantOk, GrantsOk, EntryOf}
use Rattle.lu_proof_lawful.proofs.Preconditions.Lists.{in_filter}
use Rattle.lu_proof_lawful.proofs.Preconditions.Turns.{IsNoClose}
use Rattle.lu_proof_lawful.proofs.Preconditions.ClientLines.{from_high, some_is}
use Rattle.lu_proof_lawful.proofs.Invariants.Groups.{turn, HoldsAt}
use Rattle.lu_proof_lawful.proofs.Invariants.TargetGroups.{Acted, IsMade, Dead, Evicted, Lapsed, IsOver}
use Rattle.lu_proof_lawful.proofs.Invariants.Brings.{of_reply}
use Rattle.lu_proof_lawful.proofs.Invariants.Hopes.{gives_names}
use Rattle.lu_proof_lawful.proofs.Invariants.DoneGrows.{did_acted}
use Rattle.lu_proof_lawful.proofs.Invariants.FirstDeeds.{FirstOf}
use Rattle.lu_proof_lawful.proofs.Invariants.LockLists.{withs_in, left_in}
use Rattle.lu_proof_lawful.proofs.Invariants.Keeps.{commits_more}
use Rattle.lu_proof_lawful.proofs.Invariants.ItemLists.{same_forgot}
use Rattle.lu_proof_lawful.proofs.Invariants.KnownPaths.{Tells}
use Rattle.lu_proof_lawful.proofs.Invariants.TaughtFacts.{Guards, LiesOn, Lies, SeenPlace, PlaceOf, taught_right}
use Rattle.lu_proof_lawful.proofs.Invariants.FactsStay.{Spares, IsSound, free_spares, fact_stays, fact_unwritten, place_stays, tells_wide}
use Rattle.lu_proof_lawful.proofs.Invariants.FactsStay.{tells_all}
use Rattle.lu_proof_lawful.proofs.Invariants.PartsStay.{Closed, OfKept, Saw, act_kept, act_saw, sound_now}
use Rattle.lu_proof_lawful.proofs.Invariants.Unheld.{keeps_over}

-- ---- the group

-- numbers so far
abbrev pub bound_of : ℕ → List Line → ℕ
bound_of osts past = (server_of osts past).boot * 4294967296 + (server_of osts past).count

-- that reply taught it
abbrev pub TaughtBy : List Line → Deed → Fact → Type 0
TaughtBy past d f = Acted past d × In f (taught d.op d.reply.answer d.reply.locks)

-- the tree as that life knew it: as it was when the life was evicted, or as it is
abbrev pub tree_for : ℕ → Who → List Line → Tree
tree_for osts who [] = empty
tree_for osts who (l ∷ past) =
    if is_life who (evicted_of (l ∷ past)) then (if is_life who (evicted_of past) then tree_for osts who past
    else (server_of osts past).tree)
    else (server_of osts (l ∷ past)).tree

-- it is the root, or a name leads there that the deed looked at
abbrev pub Seat : ℕ → List Line → Deed → Child → Type 0
Seat osts past d c =
    (c ≡ root) ⊎ ((e : Fid) × (n : List ℕ) × (child (server_of osts past).tree e n ≡ Some c) × (e.0 ≤ bound_of osts past)
    × Saw osts past d (part.Name e n) × OfKept osts past d (part.Name e n))

-- what attributes are of has its place
abbrev pub SeatFor : ℕ → List Line → Deed → Part → Type 0
SeatFor osts past d (part.Attr f) = (c : Child) × (fid_of c ≡ f) × Seat osts past d c
SeatFor osts past d _ = Unit {0}

-- a fact is true, what stands and wrote what it is of is committed or was seen, and so is what made the inode that it is of
abbrev pub Rests : ℕ → List Line → Deed → Fact → Type 0
Rests osts past d f =
    record {
      tells : Tells (server_of osts past).tree (bound_of osts past) f;
      saw : Saw osts past d f.part;
      kept : OfKept osts past d f.part;
      seat : SeatFor osts past d f.part;
    }

-- it lies under one of the locks that came with the reply: while that is granted, it is true; and where its life was evicted, it was true
-- then; but for
-- a lock that isn't held and never will be
abbrev pub Under : ℕ → List Line → Deed → Fact → Type 0
Under osts past d f =
    record {
      lock : Lock;
      among : In lock d.reply.locks;
      cookie : lock.cookie ≡ f.cookie;
      lies : Lies lock f;
      stands : (IsOver past d lock → ⊥) → In lock (server_of osts past).granted → Rests osts past d f;
      left : (IsOver past d lock → ⊥) → Evicted past d.reply.who → Tells (tree_for osts d.reply.who past) (bound_of osts past) f;
    }

abbrev pub Taught : ℕ → List Line → Type 0
Taught osts past = (d : Deed) (f : Fact) → TaughtBy past d f → Under osts past d f

-- ---- the tree as a life knew it

-- it is the target's, if the life wasn't evicted
tree_now : (osts : ℕ) (who : Who) (past : List Line) → is_life who (evicted_of past) ≡ false → tree_for osts who past
    ≡ (server_of osts past).tree
tree_now osts who [] e = refl
tree_now osts who (l ∷ past) e = cond-false (is_life who (evicted_of (l ∷ past))) _ (server_of osts (l ∷ past)).tree e

-- and stays as it was from then on
tree_then : (osts : ℕ) (who : Who) (l : Line) (past : List Line) → Evicted past who → Evicted (l ∷ past) who → tree_for osts who (l ∷ past)
    ≡ tree_for osts who past
tree_then osts who l past e now = cond-true (is_life who (evicted_of (l ∷ past))) _ (server_of osts (l ∷ past)).tree now
    ∙ cond-true (is_life who (evicted_of past)) (tree_for osts who past) (server_of osts past).tree e

-- as it was before the line that evicts the life
tree_left : (osts : ℕ) (who : Who) (l : Line) (past : List Line) → is_life who (evicted_of past) ≡ false → Evicted (l ∷ past) who
    → tree_for osts who (l ∷ past) ≡ (server_of osts past).tree
tree_left osts who l past e now = cond-true (is_life who (evicted_of (l ∷ past))) _ (server_of osts (l ∷ past)).tree now
    ∙ cond-false (is_life who (evicted_of past)) (tree_for osts who past) (server_of osts past).tree e

module _ (head : Head) (past : List Line) (all : HoldsAt head past) (d : Deed) (f : Fact) (k : Under head.osts past d f) (a : Acted past d)
    (fresh : IsOver past d k.lock → ⊥) where
  -- the lock of a life that wasn't evicted is granted
  pub granted_now : is_life d.reply.who (evicted_of past) ≡ false → In k.lock (server_of head.osts past).granted
  granted_now e = by (all.locks.alive d k.lock (a, inl (of_reply d.op d.reply k.lock k.among)))
    where
      by : In k.lock (server_of head.osts past).granted ⊎ Dead past d k.lock ⊎ Evicted past d.reply.who ⊎ Lapsed past d k.lock
          → In k.lock (server_of head.osts past).granted
      by (inl i) = i
      by (inr (inl x)) = absurd (fresh (inl x))
      by (inr (inr (inl x))) = absurd (cc)
      by (inr (inr (inr x))) = absurd (fresh (inr x))

  tells_now : is_life d.reply.who (evicted_of past) ≡ false → Tells (server_of head.osts past).tree (bound_of head.osts past) f
  tells_now e = (k.stands fresh (granted_now e)).tells

  -- what was taught is true of the tree that the life knew
  pub tells_for : Tells (tree_for head.osts d.reply.who past) (bound_of head.osts past) f
  tells_for = by (is_life d.reply.who (evicted_of past)) refl
    where
      by : (b : Bool) → is_life d.reply.who (evicted_of past) ≡ b → Tells (tree_for head.osts d.reply.who past) (bound_of head.osts past) f
      by true e = k.left fresh e
      by false e = subst (λ (t : Tree). Tells t (bound_of head.osts past) f) (sym (tree_now head.osts d.reply.who past e)) (tells_now e)

  -- and stays so for one that is evicted by the next line, or was
  left_then : (l : Line) → Evicted (l ∷ past) d.reply.who → Tells (tree_for head.osts d.reply.who (l ∷ past)) (bound_of head.osts past) f
  left_then l now = by (is_life d.reply.who (evicted_of past)) refl
    where
      by : (b : Bool) → is_life d.reply.who (evicted_of past) ≡ b
          → Tells (tree_for head.osts d.reply.who (l ∷ past)) (bound_of head.osts past) f
      by true e = subst (λ (t : Tree). Tells t (bound_of head.osts past) f) (sym (tree_then head.osts d.reply.who l past e now))
          (k.left fresh e)
      by false e = subst (λ (t : Tree). Tells t (bound_of head.osts past) f) (sym (tree_left head.osts d.reply.who l past e now))
          (tells_now e)

-- ---- after a line: what was taught before it lies under the same lock

module _ (head : Head) (past : List Line) (stamp : Stamp) (node : Node) (e : Entry) (ok : EntryOf head past (turn stamp node) node e)
    (all : HoldsAt head past) where
  pub under_line : bound_of head.osts past ≤ bound_of head.osts (line (turn stamp node) e ∷ past) → (d : Deed) (f : Fact) → Acted past d
      → (k : Under head.osts past d f)
      → ((IsOver past d k.lock → ⊥) → In k.lock (server_of head.osts (line (turn stamp node) e ∷ past)).granted
      → Rests head.osts (line (turn stamp node) e ∷ past) d f) → Under head.osts (line (turn stamp node) e ∷ past) d f
  under_line up d f a k rests =
      record {
        lock = k.lock;
        among = k.among;
        cookie = k.cookie;
        lies = k.lies;
        stands = λ fresh i. rests (before fresh) i;
        left = λ fresh x. tells_wide (tree_for head.osts d.reply.who new) (bound_of head.osts past) (bound_of head.osts new) f up
            (left_then head past all d f k a (before fresh) (line (turn stamp node) e) x);
      }
    where
      new : List Line
      new = line (turn stamp node) e ∷ past

      before : (IsOver new d k.lock → ⊥) → IsOver past d k.lock → ⊥
      before fresh u = fresh (keeps_over head past stamp node e ok all d k.lock (a, inl (of_reply d.op d.reply k.lock k.among)) u)

-- ---- lines that leave all parts of the tree as they are

pub record Later (osts : ℕ) (past new : List Line) : Type 0 where
  pub tree : (p : Part) → Same (server_of osts past).tree (server_of osts new).tree p
  pub bound : bound_of osts past ≤ bound_of osts new
  pub committed : (server_of osts past).committed.0 ≤ (server_of osts new).committed.0
  pub acted : (d : Deed) → Acted past d → Acted new d
  pub made : (d : Deed) → Acted new d → IsMade d → Acted past d
  pub lost : (n : ℕ) → is_lost osts new n ≡ is_lost osts past n

closed_later : (osts : ℕ) (past new : List Line) → (server_of osts past).committed.0 ≤ (server_of osts new).committed.0
    → ((d : Deed) → Acted past d → Acted new d) → ((n : ℕ) → is_lost osts new n ≡ is_lost osts past n)
    → (keep : ℕ → Bool) → Closed osts new keep → Closed osts past keep
closed_later osts past new up acted lost keep k = record {
  root = k.root;
  low = λ n le. k.low n (omega (arith, le, up));
  saw =
      λ e a m s. k.saw e (acted e a) m (lost e.reply.txn.0 ∙ s);
}

module _ (osts : ℕ) (past new : List Line) (l : Later osts past new) (d : Deed) where
  saw_later : (p : Part) → Saw osts past d p → Saw osts new d p
  saw_later p s e a m stands = by (s e (l.made e a m) m (sym (l.lost e.reply.txn.0) ∙ stands))
    where
      by : Apart e.writes p ⊎ ((e.reply.txn.0 ≤ (server_of osts past).committed.0) ⊎ In e.reply.txn.0 d.reply.seen) → Apart e.writes p
          ⊎ ((e.reply.txn.0 ≤ (server_of osts new).committed.0) ⊎ In e.reply.txn.0 d.reply.seen)
      by (inl x) = inl x
      by (inr (inl le)) = inr (inl (let up = l.committed in omega (arith, le, up)))
      by (inr (inr i)) = inr (inr i)

  kept_later : (p : Part) → OfKept osts past d p → OfKept osts new d p
  kept_later p h keep k s = h keep (closed_later osts past new l.committed l.acted l.lost keep k) s

  seat_later : (c : Child) → Seat osts past d c → Seat osts new d c
  seat_later c (inl e) = inl e
  seat_later c (inr k) = inr (
    k.0,
    k.1,
    sym (l.tree (part.Name k.0 k.1)) ∙ k.2,
    let le = k.3 in let up = l.bound in omega (arith, le, up),
    saw_later (part.Name k.0 k.1) k.4,
    kept_later (part.Name k.0 k.1) k.5,
  )

  seats_later : (p : Part) → SeatFor osts past d p → SeatFor osts new d p
  seats_later (part.Attr f) k = (k.0, k.1, seat_later k.0 k.2)
  seats_later _ k = tt

  pub rests_later : (f : Fact) → Rests osts past d f → Rests osts new d f
  rests_later f k =
      record {
        tells = tells_wide (server_of osts new).tree (bound_of osts past) (bound_of osts new) f l.bound
            (tells_all (server_of osts past).tree (server_of osts new).tree (bound_of osts past) f l.tree k.tells);
        saw = saw_later f.part k.saw;
        kept = kept_later f.part k.kept;
        seat = seats_later f.part k.seat;
      }

-- ---- an act

-- without locks nothing is taught
pub none_taught : (o : Op) (a : Answer) (f : Fact) → In f (taught o a []) → ⊥
none_taught (op.Lookup []) (told.Dir d) f i = i
none_taught (op.Lookup []) (told.File d) f i = i
none_taught (op.Stat []) (told.DirStat d m) f i = i
none_taught (op.Stat []) (told.FileStat d m k l) f i = i
none_taught (op.List []) (told.Names ns) f i = i
none_taught (op.Layout []) (told.Layout l) f i = i
none_taught (op.Lookup (n ∷ ns)) (told.Dir d) f i = i
none_taught (op.Lookup (n ∷ ns)) (told.File d) f i = i
none_taught (op.Stat (n ∷ ns)) (told.DirStat d m) f i = i
none_taught (op.Stat (n ∷ ns)) (told.FileStat d m k l) f i = i
none_taught (op.List (n ∷ ns)) (told.Names names) f i = i
none_taught (op.Layout (n ∷ ns)) (told.Layout l) f i = i
none_taught o a f i = i

module _ (head : Head) (past : List Line) (at : At) (t : ℕ) (r : RequestOf) (waited : In r (server_of head.osts past).waiting)
    (serves : IsServing head.osts past) (all : HoldsAt head past) where
  abbrev v : Server
  v = server_of head.osts past

  abbrev acting : Deed
  acting = deed head.osts v at r none (locks_of head.osts v r)

  abbrev acted_past : List Line
  acted_past = line (turn at.stamp (Target t)) (Act acting) ∷ past

  act_later : Later head.osts past acted_past
  act_later =
      record {
        tree = λ p. same_refl v.tree p;
        bound = le_refl (bound_of head.osts past);
        committed = le_refl v.committed.0;
        acted = λ d a. inr a;
        made = λ d a m. ⊎_elim (λ (e : acting ≡ d). absurd (let zero = ap (λ (x : Deed). x.reply.txn.0) e in omega (arith, zero, m)))
            (λ (b : Acted past d). b) a;
        lost = λ n. refl;
      }

  -- a lock of an earlier deed that is granted then was granted before
  old_granted : (d : Deed) (l : Lock) → Acted past d → In l d.reply.locks → In l (with_locks acting.reply.locks v.granted) → In l v.granted
  old_granted d l a i j =
      ⊎_elim
      (λ (k : In l acting.reply.locks). absurd (let le = all.locks.low serves d l.cookie.0 a (gives_names d l (of_reply d.op d.reply l i))
      in let lt = from_high v.cookie r.who (grants head.osts v.tree (asked r none)) l k in omega (arith, le, lt)))
      (λ (k : In l v.granted). k)
      (withs_in acting.reply.locks l v.granted j)

  -- a request that waits is of a life that has a slot
  waits_not : Evicted past r.who → ⊥
  waits_not x = let lt = all.lives.apart r.who r.who (all.done.waits r waited).has x refl in omega (arith, lt)

  -- what it looked at
  seen_now : (p : Part) → In p (touches head.osts v.tree (asked r none)) → Saw head.osts acted_past acting p
  seen_now p i e a m s = act_saw head.osts head.clients past all.history (asked r none) p i e (act_later.made e a m) m s

  kept_now : (p : Part) → In p (touches head.osts v.tree (asked r none)) → OfKept head.osts acted_past acting p
  kept_now p i keep k s = act_kept head.osts head.clients past all.history (asked r none) keep
      (closed_later head.osts past acted_past (le_refl v.committed.0) (λ d a. inr a) (λ n. refl) keep k) s p i

  seat_now : (c : Child) → SeenPlace v.tree (bound_of head.osts past) (sound_now head past all).least (sound_now head past all).low r.who
      (touches head.osts v.tree (asked r none)) c → Seat head.osts acted_past acting c
  seat_now c (inl e) = inl e
  seat_now c (inr k) = inr (k.0, k.1, k.2, k.3, seen_now (part.Name k.0 k.1) k.4, kept_now (part.Name k.0 k.1) k.4)

  seats_now : (p : Part) → PlaceOf v.tree (bound_of head.osts past) (sound_now head past all).least (sound_now head past all).low r.who
      (touches head.osts v.tree (asked r none)) p → SeatFor head.osts acted_past acting p
  seats_now (part.Attr f) k = (k.0, k.1, seat_now k.0 k.2)
  seats_now _ k = tt

  acting_under : (f : Fact) → In f (taught r.op acting.reply.answer acting.reply.locks) → Under head.osts acted_past acting f
  acting_under f i =
      let sound = sound_now head past all in
      let k = taught_right v.tree (bound_of head.osts past) sound.least sound.low r.who head.osts none r.op v.cookie f i in
      record {
        lock = k.under.lock;
        among = k.under.among;
        cookie = k.under.cookie;
        lies = k.under.lies;
        stands = λ fresh j. record {
          tells = k.tells;
          saw = seen_now f.part k.touched;
          kept = kept_now f.part k.touched;
          seat =
              seats_now f.part k.place;
        };
        left = λ fresh x. absurd (waits_not x);
      }

-- ---- a transaction

module _ (head : Head) (past : List Line) (at : At) (t : ℕ) (r : RequestOf) (all : HoldsAt head past)
    (free : is_free (in_way (server_of head.osts past).granted (written_by head.osts (server_of head.osts past) r)) ≡ true) where
  abbrev w : Server
  w = server_of head.osts past

  abbrev making : Deed
  making = deed head.osts w at r (next_number w) []

  abbrev made_past : List Line
  made_past = line (turn at.stamp (Target t)) (Made making) ∷ past

  number_is : making.reply.txn.0 ≡ w.boot * 4294967296 + (w.count + 1)
  number_is = refl

  higher : bound_of head.osts past < making.reply.txn.0
  higher = let n = number_is in omega (arith, n)

  module _ (d : Deed) (f : Fact) (k : Under head.osts past d f) where
    saw_made : (p : Part) → Apart making.writes p → Saw head.osts past d p → Saw head.osts made_past d p
    saw_made p apart s e (inl q) m stands = inl (subst (λ (x : Deed). Apart x.writes p) q apart)
    saw_made p apart s e (inr a) m stands = s e a m stands

    kept_made : (p : Part) → OfKept head.osts past d p → OfKept head.osts made_past d p
    kept_made p h keep c s = h keep (closed_later head.osts past made_past (le_refl w.committed.0) (λ e a. inr a) (λ n. refl) keep c) s

    made_rests : In k.lock w.granted → Rests head.osts past d f → Rests head.osts made_past d f
    made_rests i q =
        record {
          tells = tells_wide (after head.osts w.tree (operation making)) (bound_of head.osts past) (bound_of head.osts made_past) f
              (omega arith) (fact_stays head.osts w.tree (operation making) (bound_of head.osts past) higher k.lock spares f sound.one
              k.lies q.tells);
          saw = saw_made f.part (fact_unwritten head.osts w.tree (operation making) (bound_of head.osts past) higher k.lock spares f k.lies
              q.tells) q.saw;
          kept = kept_made f.part q.kept;
          seat = seats f.part f.answer k.lies q.seat;
        }
      where
        spares : Spares k.lock making.writes
        spares = free_spares w.granted (written_by head.osts w r) k.lock free i

        sound : IsSound w.tree (bound_of head.osts past)
        sound = sound_now head past all

        -- the name is as it was
        seat : (c : Child) → (fid_of c ≡ fid_of root) ⊎ Guards k.lock (fid_of c) LOOKUP → Seat head.osts past d c
            → Seat head.osts made_past d c
        seat c g (inl e) = inl e
        seat c g (inr x) =
            ⊎_elim
            (λ (e : c ≡ root). inl e)
            (λ (y : (child (after head.osts w.tree (operation making)) x.0 x.1 ≡ Some c) × Apart making.writes (part.Name x.0 x.1)).
            inr (x.0, x.1, y.0, let le = x.3 in omega (arith, le), saw_made (part.Name x.0 x.1) y.1 x.4, kept_made (part.Name x.0 x.1) x.5))
            (place_stays head.osts w.tree (operation making) (bound_of head.osts past) higher k.lock spares c sound.one g x.0 x.1 x.2 x.3)

        seats : (p : Part) (a : Answer) → LiesOn k.lock p a → SeatFor head.osts past d p → SeatFor head.osts made_past d p
        seats (part.Attr g) a lies x = (
          x.0,
          x.1,
          seat x.0 (subst (λ (v : Fid). (v ≡ fid_of root) ⊎ Guards k.lock v LOOKUP) (sym x.1)
              lies.1) x.2,
        )
        seats _ a lies x = tt

-- ---- all lines but a close

-- what was taught before it stays true where the tree stays and no lock is granted anew
later_taught : (head : Head) (past : List Line) (stamp : Stamp) (node : Node) (e : Entry) → EntryOf head past (turn stamp node) node e
    → HoldsAt head past → Later head.osts past (line (turn stamp node) e ∷ past)
    → ((l : Lock) → In l (server_of head.osts (line (turn stamp node) e ∷ past)).granted → In l (server_of head.osts past).granted)
    → ((d : Deed) → Acted (line (turn stamp node) e ∷ past) d → Acted past d)
    → Taught head.osts past → Taught head.osts (line (turn stamp node) e ∷ past)
later_taught head past stamp node e ok all later granted acted h d f k =
    let u = h d f (acted d k.0, k.1) in
    under_line head past stamp node e ok all later.bound d f (acted d k.0) u
    (λ fresh i. rests_later head.osts past (line (turn stamp node) e ∷ past) later d f (u.stands fresh (granted u.lock i)))

module _ (head : Head) (past : List Line) (stamp : Stamp) (all : HoldsAt head past) (h : Taught head.osts past) where
  act_taught : (t : ℕ) (d : Deed) → ActOk head.osts past (turn stamp (Target t)) d
      → EntryOf head past (turn stamp (Target t)) (Target t) (Act d) → Taught head.osts (line (turn stamp (Target t)) (Act d) ∷ past)
  act_taught t d ok entry = subst (λ (x : Deed). Taught head.osts (line (turn stamp (Target t)) (Act x) ∷ past)) (sym ok.is) by
    where
      new : Deed
      new = acting head past (turn stamp (Target t)) t ok.request ok.waits ok.serves all

      by : Taught head.osts (line (turn stamp (Target t)) (Act new) ∷ past)
      by e f (inl q, i) = subst (λ (x : Deed). Under head.osts (line (turn stamp (Target t)) (Act new) ∷ past) x f) q
          (acting_under head past (turn stamp (Target t)) t ok.request ok.waits ok.serves all f
          (subst (λ (x : Deed). In f (taught x.op x.reply.answer x.reply.locks)) (sym q) i))
      by e f (inr a, i) =
          let u = h e f (a, i) in
          under_line head past stamp (Target t) (Act new) (subst
          (λ (x : Deed). EntryOf head past (turn stamp (Target t)) (Target t) (Act x)) ok.is entry) all
          (le_refl (bound_of head.osts past)) e f a u
          (λ fresh j. rests_later head.osts past (line (turn stamp (Target t)) (Act new) ∷ past)
          (act_later head past (turn stamp (Target t)) t ok.request ok.waits ok.serves all) e f
          (u.stands fresh (old_granted head past (turn stamp (Target t)) t ok.request ok.waits ok.serves all e u.lock a u.among j)))

  -- a line that only shows a lock that is granted
  grant_taught : (t : ℕ) (lock : Lock) (d : Deed) → GrantOk head.osts past lock d
      → EntryOf head past (turn stamp (Target t)) (Target t) (Grant lock (Some d))
      → Taught head.osts (line (turn stamp (Target t)) (Grant lock (Some d)) ∷ past)
  grant_taught t lock d g ok e f k =
      let a = old e k.0 in
      let u = h e f (a, k.1) in
      under_line head past stamp (Target t) (Grant lock (Some d)) ok all (le_refl (bound_of head.osts past)) e f a u
      (λ fresh j. rests_later head.osts past new later e f (u.stands fresh (subst (λ (ls : List Lock). In u.lock ls) g.granted j)))
    where
      new : List Line
      new = line (turn stamp (Target t)) (Grant lock (Some d)) ∷ past

      old : (x : Deed) → (Some d ≡ Some x) ⊎ Acted past x → Acted past x
      old x (inl q) = subst (λ (y : Deed). Acted past y) (some_is d x q) (did_acted past d g.did)
      old x (inr b) = b

      later : Later head.osts past new
      later =
          record {
            tree = λ p. same_refl (server_of head.osts past).tree p;
            bound = le_refl (bound_of head.osts past);
            committed = le_refl (server_of head.osts past).committed.0;
            acted = λ x a. inr a;
            made = λ x a m. old x a;
            lost = λ n. refl;
          }

  made_taught : (t : ℕ) (d : Deed) → TxnOk head.osts past (turn stamp (Target t)) d
      → EntryOf head past (turn stamp (Target t)) (Target t) (Made d) → Taught head.osts (line (turn stamp (Target t)) (Made d) ∷ past)
  made_taught t d ok entry = subst (λ (x : Deed). Taught head.osts (line (turn stamp (Target t)) (Made x) ∷ past)) (sym ok.is) by
    where
      new : Deed
      new = making head past (turn stamp (Target t)) t ok.request all ok.free

      by : Taught head.osts (line (turn stamp (Target t)) (Made new) ∷ past)
      by e f (inl q, i) = absurd (none_taught new.op new.reply.answer f
          (subst (λ (x : Deed). In f (taught x.op x.reply.answer x.reply.locks)) (sym q) i))
      by e f (inr a, i) =
          let u = h e f (a, i) in
          under_line head past stamp (Target t) (Made new) (subst
          (λ (x : Deed). EntryOf head past (turn stamp (Target t)) (Target t) (Made x)) ok.is entry) all (omega arith) e f a u
          (λ fresh j. made_rests head past (turn stamp (Target t)) t ok.request all ok.free e f u j (u.stands fresh j))

  -- nothing is done on an object, and no lock is waited for
  pub line_taught : (node : Node) (e : Entry) → IsNoClose e → FirstOf past node e → EntryOf head past (turn stamp node) node e
      → Taught head.osts (line (turn stamp node) e ∷ past)
  line_taught (Target t) (Act d) none z ok = by ok
    where
      by : ActsOk head.osts past (turn stamp (Target t)) t d → Taught head.osts (line (turn stamp (Target t)) (Act d) ∷ past)
      by (inl a) = act_taught t d a.1 ok
      by (inr a) = absurd (let high = a.0 in omega (arith, high, z))
  line_taught (Target t) (Grant lock (Some d)) none z ok = by ok
    where
      by : GrantsOk head.osts past (turn stamp (Target t)) t lock d
          → Taught head.osts (line (turn stamp (Target t)) (Grant lock (Some d)) ∷ past)
      by (inl g) = grant_taught t lock d g.1 ok
      by (inr g) = absurd (let high = g.0 in omega (arith, high, z))
  line_taught (Target t) (Grant lock None) none z ok = absurd (let high = ok.0 in omega (arith, high, z))
  line_taught (Target t) (Wait lock d) none z ok = absurd (let high = ok.0 in omega (arith, high, z))
  line_taught (Target t) (Answers d) none z ok = absurd (let high = ok.0 in omega (arith, high, z))
  line_taught (Client c) (Grant lock asked) none z ok = absurd ok
  line_taught (Client c) (Wait lock d) none z ok = absurd ok
  line_taught (Client c) (Answers d) none z ok = absurd ok
  line_taught (Target t) (Made d) none z ok = by ok
    where
      by : TxnsOk head.osts past (turn stamp (Target t)) t d → Taught head.osts (line (turn stamp (Target t)) (Made d) ∷ past)
      by (inl m) = made_taught t d m.1 ok
      by (inr m) = absurd (let high = m.0 in omega (arith, high, z))
  line_taught (Target t) (Commit to batch) none z ok =
      later_taught head past stamp (Target t) (Commit to batch) ok all
      (record {
        tree = λ p. same_refl (server_of head.osts past).tree p;
        bound = le_refl (bound_of head.osts past);
        committed =
            commits_more head past (turn stamp (Target t)) to batch ok all;
        acted = λ d a. a;
        made = λ d a m. a;
        lost = λ n. refl;
      })
      (λ l i. i) (λ d a. a) h
  line_taught (Target t) (Evict who cause) none z ok =
      later_taught head past stamp (Target t) (Evict who cause) ok all
      (record {
        tree = λ p. same_forgot (server_of head.osts past).tree who p;
        bound = le_refl (bound_of head.osts past);
        committed =
            le_refl (server_of head.osts past).committed.0;
        acted = λ d a. a;
        made = λ d a m. a;
        lost = λ n. refl;
      })
      (λ l i. left_in who (server_of head.osts past).granted l i) (λ d a. a) h
  line_taught (Target t) (Release lock) none z ok =
      later_taught head past stamp (Target t) (Release lock) ok all
      (record {
        tree = λ p. same_refl (server_of head.osts past).tree p;
        bound = le_refl (bound_of head.osts past);
        committed =
            le_refl (server_of head.osts past).committed.0;
        acted = λ d a. a;
        made = λ d a m. a;
        lost = λ n. refl;
      })
      (λ l i. (in_filter (λ (m : Lock). not (m.cookie.0 == lock.cookie.0)) l (server_of head.osts past).granted i).0) (λ d a. a) h
  line_taught (Target t) (Boot boot disk) none z ok =
      later_taught head past stamp (Target t) (Boot boot disk) ok all
      (record {
        tree = λ p. same_refl (server_of head.osts past).tree p;
        bound = let n = ok.next in let c = all.phase.count
            in omega (arith, n, c);
        committed = le_refl (server_of head.osts past).committed.0;
        acted = λ d a. a;
        made = λ d a m. a;
        lost =
            λ n. refl;
      })
      (λ l i. i) (λ d a. a) h
  line_taught (Target t) (Close o) none z ok = absurd none
  line_taught (Client c) (Act d) none z ok = absurd ok
  line_taught (Client c) (Made d) none z ok = absurd ok
  line_taught (Client c) (Close o) none z ok = absurd ok
  line_taught node e none z ok =
      later_taught head past stamp node e ok all
      (record {
        tree = λ p. same_refl (server_of head.osts past).tree p;
        bound = le_refl (bound_of head.osts past);
        committed =
            le_refl (server_of head.osts past).committed.0;
        acted = λ d a. a;
        made = λ d a m. a;
        lost = λ n. refl;
      })
      (λ l i. i) (λ d a. a) h

pub first_taught : (osts : ℕ) → Taught osts []
first_taught osts d f k = absurd k.0
