-- The law of locks at a grant: the lock is as it was asked for, grown beside those that are granted and the others that wait; it conflicts
-- with none of those that are granted, and with none that waits ahead of it.
use Rattle.std.proofs.Common.{◌≡◌, ℕ, ◌+◌, ◌<◌, Bool, true, false, List, [], ◌∷◌, ◌++◌, inl, inr, Option, Some, None, refl, sym, subst, ap}
use Rattle.std.proofs.Common.{◌∙◌, arith}
use Rattle.std.specs.Prelude.{find}
use Rattle.std.proofs.lemmas.Bool.{or_parts, eqb-true}
use Rattle.lu_base.specs.declared.ids.At.{At}
use Rattle.lu_base.specs.declared.ids.Node.TheVariants.{Target}
use Rattle.lu_base.specs.declared.ids.Stamp.{Stamp}
use Rattle.lu_base.specs.declared.locks.Ask.{Ask}
use Rattle.lu_base.specs.declared.locks.Lock.{Lock}
use Rattle.lu_base.specs.declared.locks.Mode.{Mode}
use Rattle.lu_base.specs.declared.locks.Policy.{Policy}
use Rattle.lu_base.specs.declared.locks.Policy.TheVariants.{Bits, Range}
use Rattle.lu_base.specs.declared.locks.Resource.{Resource}
use Rattle.lu_lock.specs.Conflict.{conflict, conflicts_with_any}
use Rattle.lu_lock.specs.Growth.{granted_ask}
use Rattle.lu_lock.specs.Overlap.{IsOrdered}
use Rattle.lu_lock.proofs.GrowthLaws.{granted_apart, granted_as_asked}
use Rattle.lu_spec_entries.specs.Carried.{Deed}
use Rattle.lu_spec_entries.specs.Words.{Grant, Line}
use Rattle.lu_spec_entries.specs.Concerns.{only}
use Rattle.lu_spec_entries.specs.Printed.{printed}
use Rattle.lu_spec_target.specs.Replies.{asks_of, locks_on}
use Rattle.lu_proof_lawful.specs.Covered.Heads.{Head}
use Rattle.lu_proof_lawful.specs.Covered.TargetStates.{Server, server_of, shown_of}
use Rattle.lu_spec_laws.specs.Words.Pasts.{or_else}
use Rattle.lu_spec_laws.specs.Words.Queues.{has_cookie, asks, on, ahead_of, without_first, granted, waiting, waits, is_on}
use Rattle.lu_spec_laws.specs.Words.Asked.{requested, is_for, asked_for}
use Rattle.lu_spec_laws.specs.Laws.Locks.{IsAsked, GrantBy}
use Rattle.lu_proof_lawful.proofs.Preconditions.Guards.{In, EntryOk}
use Rattle.lu_proof_lawful.proofs.Preconditions.StoryGuards.{IsServing, RangeOk, PromoteOk}
use Rattle.lu_proof_lawful.proofs.Preconditions.ClientLocks.{in_map, none_any}
use Rattle.lu_proof_lawful.proofs.Preconditions.Grown.{Allowed, Grown}
use Rattle.lu_proof_lawful.proofs.Preconditions.Lists.{self, in_left, in_right, in_filter}
use Rattle.lu_proof_lawful.proofs.Preconditions.LockLists.{in_above, Rises, rises_filter}
use Rattle.lu_proof_lawful.proofs.Preconditions.Only.{grown_of}
use Rattle.lu_proof_lawful.proofs.Preconditions.Sound.{sound_of}
use Rattle.lu_proof_lawful.proofs.Invariants.Groups.{turn}
use Rattle.lu_proof_lawful.proofs.Invariants.TargetGroups.{IsKind}
use Rattle.lu_proof_lawful.proofs.Invariants.All.{holds}
use Rattle.lu_proof_lawful.proofs.Invariants.LockLists.{IsBitsKind, bits_clear}
use Rattle.lu_proof_lawful.proofs.Laws.Given.{owed, ranged, showed_gave}
use Rattle.lu_proof_lawful.proofs.Laws.Granted.{granted_showed}
use Rattle.lu_proof_lawful.proofs.Laws.Grows.{Within, Same, within_filter, within_map, grown_same, clear_within}
use Rattle.lu_proof_lawful.proofs.Laws.Holding.{gave_kind}
use Rattle.lu_proof_lawful.proofs.Laws.Waits.{waiting_is, granted_same, first_waits}
use Rattle.lu_proof_lawful.proofs.Laws.Wanted.{AskedFor, asked_as, asked_object}

-- ---- lists of locks

-- none of them has that cookie
abbrev NoneHas : ℕ → List Lock → Type 0
NoneHas cookie locks = (l : Lock) → In l locks → l.cookie.0 ≡ cookie → ⊥

not_named : (cookie : ℕ) (l : Lock) → (l.cookie.0 ≡ cookie → ⊥) → has_cookie cookie l ≡ false
not_named cookie l n = by (has_cookie cookie l) refl
  where
    by : (b : Bool) → has_cookie cookie l ≡ b → b ≡ false
    by false e = refl
    by true e = absurd (n (eqb-true l.cookie.0 cookie e))

none_ahead : (cookie : ℕ) (locks : List Lock) → NoneHas cookie locks → ahead_of cookie locks ≡ locks
none_ahead cookie [] n = refl
none_ahead cookie (l ∷ locks) n = rw (not_named cookie l (n l (inl refl)), none_ahead cookie locks (λ k i. n k (inr i))) refl

none_first : (cookie : ℕ) (locks : List Lock) → NoneHas cookie locks → without_first cookie locks ≡ locks
none_first cookie [] n = refl
none_first cookie (l ∷ locks) n = rw (not_named cookie l (n l (inl refl)), none_first cookie locks (λ k i. n k (inr i))) refl

none_found : (cookie : ℕ) (locks : List Lock) → NoneHas cookie locks → find (has_cookie cookie) locks ≡ None
none_found cookie [] n = refl
none_found cookie (l ∷ locks) n = rw (not_named cookie l (n l (inl refl))) (none_found cookie locks (λ k i. n k (inr i)))

-- those before one of them are below it
below_middle : (ahead : List Lock) (l : Lock) (later : List Lock) → Rises (ahead ++ l ∷ later) → NoneHas l.cookie.0 ahead
below_middle [] l later r k i e = absurd i
below_middle (x ∷ ahead) l later r k (inl q) e =
    let lt = in_above x.cookie.0 (ahead ++ l ∷ later) l r.0 (in_right l ahead (l ∷ later) (inl refl)) in
    let same : x.cookie.0 ≡ k.cookie.0 = ap (λ (v : Lock). v.cookie.0) q in
    absurd (omega (arith, lt, same, e))
below_middle (x ∷ ahead) l later r k (inr i) e = below_middle ahead l later r.1 k i e

middle_ahead : (ahead : List Lock) (l : Lock) (later : List Lock) → NoneHas l.cookie.0 ahead → ahead_of l.cookie.0 (ahead ++ l ∷ later)
    ≡ ahead
middle_ahead [] l later n = rw (self l.cookie.0) refl
middle_ahead (x ∷ ahead) l later n = rw (not_named l.cookie.0 x (n x (inl refl)), middle_ahead ahead l later (λ k i. n k (inr i))) refl

middle_first : (ahead : List Lock) (l : Lock) (later : List Lock) → NoneHas l.cookie.0 ahead → without_first l.cookie.0 (ahead ++ l ∷ later)
    ≡ ahead ++ later
middle_first [] l later n = rw (self l.cookie.0) refl
middle_first (x ∷ ahead) l later n = rw (not_named l.cookie.0 x (n x (inl refl)), middle_first ahead l later (λ k i. n k (inr i))) refl

-- one of them is the first of its cookie
found_in : (l : Lock) (locks : List Lock) → Rises locks → In l locks → find (has_cookie l.cookie.0) locks ≡ Some l
found_in l [] r i = absurd i
found_in l (x ∷ locks) r (inl e) = subst (λ (v : Lock). find (has_cookie v.cookie.0) (x ∷ locks) ≡ Some v) e (rw (self x.cookie.0) refl)
found_in l (x ∷ locks) r (inr i) =
    let lt = in_above x.cookie.0 locks l r.0 i in
    rw (not_named l.cookie.0 x (λ e. omega (arith, lt, e))) (found_in l locks r.1 i)

-- ---- a lock that was asked for in order is granted so

kind_ordered : (mode : Mode) (policy : Policy) → IsKind mode policy → IsOrdered policy
kind_ordered mode (Bits bits) k = tt
kind_ordered mode (Range extent) k = k.0

-- where it grows beside the others that wait it is clear of those ahead
ahead_clear : (a : Ask) (granted ahead later : List Ask) → IsOrdered a.policy → conflicts_with_any a ahead ≡ false
    → conflicts_with_any (granted_ask a granted (ahead ++ later)) ahead ≡ false
ahead_clear a granted ahead later ordered free = by (conflicts_with_any a (ahead ++ later)) refl
  where
    by : (b : Bool) → conflicts_with_any a (ahead ++ later) ≡ b → conflicts_with_any (granted_ask a granted (ahead ++ later)) ahead ≡ false
    by true e = ap (λ (p : Policy). conflicts_with_any (record a { policy = p }) ahead) (granted_as_asked a granted (ahead ++ later) e)
        ∙ free
    by false e = clear_within (granted_ask a granted (ahead ++ later)) (ahead ++ later) ahead (λ x i. in_left x ahead later i)
        ((granted_apart a granted (ahead ++ later) ordered).1 e)

asks_append : (xs ys : List Lock) → asks_of (xs ++ ys) ≡ asks_of xs ++ asks_of ys
asks_append [] ys = refl
asks_append (x ∷ xs) ys = ap (λ (more : List Ask). x.ask ∷ more) (asks_append xs ys)

-- ---- at each line

module _ (head : Head) (past : List Line) (g : Grown head past) where
  -- ---- on an object

  module _ (t : ℕ) (above : 0 < t) (resource : Resource) (serves : IsServing head.osts (only t past))
      (shown : shown_of (only t past) ≡ (server_of head.osts (only t past)).granted) where
    abbrev v : Server
    v = server_of head.osts (only t past)

    rises : Rises v.queued
    rises = (sound_of head (only t past) (grown_of head t past g)).story.waits_so.rises

    -- what waits there as printed
    queue : waiting t (printed past) ≡ v.queued
    queue = waiting_is head t past g serves

    -- those that are granted as printed are those of the target
    same : Same (asks (on resource (granted t (printed past)))) (asks_of (locks_on resource v.granted))
    same = (into (granted t (printed past)) v.granted both.0, into v.granted (granted t (printed past)) both.1)
      where
        both : Same (granted t (printed past)) v.granted
        both = subst (λ (ls : List Lock). Same (granted t (printed past)) ls) shown (granted_same head t above past g)

        into : (xs ys : List Lock) → Within xs ys → Within (asks (on resource xs)) (asks (on resource ys))
        into xs ys w = within_map (λ (l : Lock). l.ask) (on resource xs) (on resource ys) (within_filter (is_on resource) xs ys w)

    -- so it is clear of them, and grows beside them
    clear : (a : Ask) → conflicts_with_any a (asks_of (locks_on resource v.granted)) ≡ false
        → conflicts_with_any a (asks (on resource (granted t (printed past)))) ≡ false
    clear a e = clear_within a (asks_of (locks_on resource v.granted)) (asks (on resource (granted t (printed past)))) same.0 e

    grows : (a : Ask) (others : List Ask) → granted_ask a (asks_of (locks_on resource v.granted)) others
        ≡ granted_ask a (asks (on resource (granted t (printed past)))) others
    grows a others = sym (grown_same a (asks (on resource (granted t (printed past)))) (asks_of (locks_on resource v.granted)) others same)

    grant_at : (at : At) (lock asked : Lock) (ahead others : List Lock) → lock.resource ≡ resource
        → asked_for head.osts t (printed past) at lock ≡ Some asked → lock.resource ≡ asked.resource
        → ahead_of lock.cookie.0 (on resource v.queued) ≡ ahead → without_first lock.cookie.0 (on resource v.queued) ≡ others
        → lock.ask ≡ granted_ask asked.ask (asks_of (locks_on resource v.granted)) (asks_of others)
        → conflicts_with_any lock.ask (asks_of (locks_on resource v.granted)) ≡ false → conflicts_with_any lock.ask (asks_of ahead) ≡ false
        → GrantBy head.osts (printed past) at (Target t) lock
    grant_at at lock asked ahead others on_it is place front rest grown free first =
        record {
          free = subst (λ (r : Resource). conflicts_with_any lock.ask (asks (on r (granted t (printed past)))) ≡ false) (sym on_it)
              (clear lock.ask free);
          first = subst (λ (ws : List Lock). conflicts_with_any lock.ask (asks ws) ≡ false)
              (sym (ap (λ (r : Resource). ahead_of lock.cookie.0 (on r (waiting t (printed past)))) on_it
              ∙ ap (λ (ws : List Lock). ahead_of lock.cookie.0 (on resource ws)) queue ∙ front)) first;
          as_asked = subst (λ (o : Option Lock). IsAsked o lock (asks (on lock.resource (granted t (printed past))))
              (asks (without_first lock.cookie.0 (on lock.resource (waiting t (printed past)))))) (sym is)
              (record {
                resource = place;
                grown =
                    grown ∙ grows asked.ask (asks_of others)
                    ∙ ap (λ (ws : List Lock). granted_ask asked.ask (asks (on resource (granted t (printed past)))) (asks ws))
                    (sym (ap (λ (r : Resource). without_first lock.cookie.0 (on r (waiting t (printed past)))) on_it
                    ∙ ap (λ (ws : List Lock). without_first lock.cookie.0 (on resource ws)) queue ∙ rest))
                    ∙ ap (λ (r : Resource). granted_ask asked.ask (asks (on r (granted t (printed past))))
                    (asks (without_first lock.cookie.0 (on lock.resource (waiting t (printed past)))))) (sym on_it);
              });
        }

  -- it was asked for in this turn
  object_ok : (stamp : Stamp) (t : ℕ) (lock : Lock) (d : Deed) → Allowed head past (turn stamp (Target t)) (Grant lock (Some d)) → 0 < t
      → AskedFor head.osts past (turn stamp (Target t)) t lock
      → GrantBy head.osts (printed past) (turn stamp (Target t)) (Target t) lock
  object_ok stamp t lock d a above told =
      grant_at t above r ok.serves ok.shown at lock told.asked (on r v.queued) (on r v.queued) refl is told.resource
      (none_ahead lock.cookie.0 (on r v.queued) new_there) (none_first lock.cookie.0 (on r v.queued) new_there)
      told.grown free first
    where
      at : At
      at = turn stamp (Target t)

      v : Server
      v = server_of head.osts (only t past)

      r : Resource
      r = lock.resource

      ok : RangeOk head.osts (only t past) at lock d
      ok = ranged head.osts (only t past) at t lock d above (a.of t (self t))

      new : NoneHas lock.cookie.0 v.queued
      new l i e =
          let low = (sound_of head (only t past) (grown_of head t past g)).story.waits_so.queued_low l i in
          let next : lock.cookie.0 ≡ v.cookie + 1 = ap (λ (k : Lock). k.cookie.0) ok.of_lock in
          omega (arith, low, next, e)

      new_there : NoneHas lock.cookie.0 (on r v.queued)
      new_there l i = new l (in_filter (is_on r) l v.queued i).0

      is : asked_for head.osts t (printed past) at lock ≡ Some told.asked
      is =
          ap (λ (ws : List Lock). or_else (find (has_cookie lock.cookie.0) ws)
          (find (is_for lock) (requested head.osts t (printed past) at lock.cookie))) (waiting_is head t past g ok.serves)
          ∙ ap (λ (o : Option Lock). or_else o (find (is_for lock) (requested head.osts t (printed past) at lock.cookie)))
          (none_found lock.cookie.0 v.queued new)
          ∙ told.found

      parts : (conflicts_with_any told.asked.ask (asks_of (locks_on r v.granted)) ≡ false)
          × (conflicts_with_any told.asked.ask (asks_of (locks_on r v.queued)) ≡ false)
      parts = or_parts (conflicts_with_any told.asked.ask (asks_of (locks_on r v.granted)))
          (conflicts_with_any told.asked.ask (asks_of (locks_on r v.queued))) told.free

      apart : (conflicts_with_any told.asked.ask (asks_of (locks_on r v.granted)) ≡ false
          → conflicts_with_any (granted_ask told.asked.ask (asks_of (locks_on r v.granted)) (asks_of (locks_on r v.queued)))
          (asks_of (locks_on r v.granted)) ≡ false)
          × (conflicts_with_any told.asked.ask (asks_of (locks_on r v.queued)) ≡ false
          → conflicts_with_any (granted_ask told.asked.ask (asks_of (locks_on r v.granted)) (asks_of (locks_on r v.queued)))
          (asks_of (locks_on r v.queued)) ≡ false)
      apart = granted_apart told.asked.ask (asks_of (locks_on r v.granted)) (asks_of (locks_on r v.queued)) told.ordered

      free : conflicts_with_any lock.ask (asks_of (locks_on r v.granted)) ≡ false
      free = subst (λ (x : Ask). conflicts_with_any x (asks_of (locks_on r v.granted)) ≡ false) (sym told.grown) (apart.0 parts.0)

      first : conflicts_with_any lock.ask (asks_of (on r v.queued)) ≡ false
      first = subst (λ (x : Ask). conflicts_with_any x (asks_of (locks_on r v.queued)) ≡ false) (sym told.grown) (apart.1 parts.1)

  -- it had waited
  pub promoted_ok : (stamp : Stamp) (t : ℕ) (lock : Lock) → Allowed head past (turn stamp (Target t)) (Grant lock None)
      → GrantBy head.osts (printed past) (turn stamp (Target t)) (Target t) lock
  promoted_ok stamp t lock a =
      grant_at t above r ok.serves ok.shown at lock ok.asked ok.ahead (ok.ahead ++ ok.later) refl is place
      (ap (λ (ws : List Lock). ahead_of lock.cookie.0 ws) ok.queue
      ∙ subst (λ (n : ℕ). ahead_of n (ok.ahead ++ ok.asked ∷ ok.later) ≡ ok.ahead) (sym cookie)
      (middle_ahead ok.ahead ok.asked ok.later below))
      (ap (λ (ws : List Lock). without_first lock.cookie.0 ws) ok.queue
      ∙ subst (λ (n : ℕ). without_first n (ok.ahead ++ ok.asked ∷ ok.later) ≡ ok.ahead ++ ok.later) (sym cookie)
      (middle_first ok.ahead ok.asked ok.later below))
      grown free first
    where
      at : At
      at = turn stamp (Target t)

      v : Server
      v = server_of head.osts (only t past)

      r : Resource
      r = lock.resource

      above : 0 < t
      above = (a.of t (self t)).0

      ok : PromoteOk head.osts (only t past) lock
      ok = (a.of t (self t)).1

      cookie : lock.cookie.0 ≡ ok.asked.cookie.0
      cookie = ap (λ (l : Lock). l.cookie.0) ok.of_lock

      place : lock.resource ≡ ok.asked.resource
      place = ap (λ (l : Lock). l.resource) ok.of_lock

      risen : Rises v.queued
      risen = (sound_of head (only t past) (grown_of head t past g)).story.waits_so.rises

      among : In ok.asked v.queued
      among = (in_filter (is_on r) ok.asked v.queued (subst (λ (ls : List Lock). In ok.asked ls) (sym ok.queue)
          (in_right ok.asked ok.ahead (ok.asked ∷ ok.later) (inl refl)))).0

      below : NoneHas ok.asked.cookie.0 ok.ahead
      below = below_middle ok.ahead ok.asked ok.later (subst Rises ok.queue (rises_filter (is_on r) v.queued risen))

      is : asked_for head.osts t (printed past) at lock ≡ Some ok.asked
      is =
          ap (λ (ws : List Lock). or_else (find (has_cookie lock.cookie.0) ws)
          (find (is_for lock) (requested head.osts t (printed past) at lock.cookie))) (waiting_is head t past g ok.serves)
          ∙ ap (λ (o : Option Lock). or_else o (find (is_for lock) (requested head.osts t (printed past) at lock.cookie)))
          (subst (λ (n : ℕ). find (has_cookie n) v.queued ≡ Some ok.asked) (sym cookie) (found_in ok.asked v.queued risen among))

      ordered : IsOrdered ok.asked.ask.policy
      ordered = kind_ordered ok.asked.ask.mode ok.asked.ask.policy (((holds head past g).at t).locks.waits ok.asked among).kind

      VG : List Ask
      VG = asks_of (locks_on r v.granted)

      grown : lock.ask ≡ granted_ask ok.asked.ask VG (asks_of (ok.ahead ++ ok.later))
      grown = ap (λ (l : Lock). l.ask) ok.of_lock ∙ ap (λ (x : Resource). granted_ask ok.asked.ask (asks_of (locks_on x v.granted))
          (asks_of (ok.ahead ++ ok.later))) (sym place)

      parts : (conflicts_with_any ok.asked.ask VG ≡ false) × (conflicts_with_any ok.asked.ask (asks_of ok.ahead) ≡ false)
      parts = or_parts (conflicts_with_any ok.asked.ask VG) (conflicts_with_any ok.asked.ask (asks_of ok.ahead)) ok.free

      free : conflicts_with_any lock.ask VG ≡ false
      free = subst (λ (x : Ask). conflicts_with_any x VG ≡ false) (sym grown)
          ((granted_apart ok.asked.ask VG (asks_of (ok.ahead ++ ok.later)) ordered).0 parts.0)

      first : conflicts_with_any lock.ask (asks_of ok.ahead) ≡ false
      first =
          subst (λ (x : Ask). conflicts_with_any x (asks_of ok.ahead) ≡ false) (sym grown)
          (subst (λ (ws : List Ask). conflicts_with_any (granted_ask ok.asked.ask VG ws) (asks_of ok.ahead) ≡ false)
          (sym (asks_append ok.ahead ok.later))
          (ahead_clear ok.asked.ask VG (asks_of ok.ahead) (asks_of ok.later) ordered parts.1))

  -- ---- on names

  -- where none waits; and what is on bits for reading conflicts with none
  names_ok : (at : At) (lock : Lock) → find (is_for lock) (requested head.osts 0 (printed past) at lock.cookie) ≡ Some lock
      → ((granted waiting : List Ask) → lock.ask ≡ granted_ask lock.ask granted waiting) → IsBitsKind lock.ask.mode lock.ask.policy
      → GrantBy head.osts (printed past) at (Target 0) lock
  names_ok at lock found grown kind =
      record {
        free = none_any (conflict lock.ask) (asks (on lock.resource (granted 0 (printed past)))) kinds;
        first = subst (λ (ws : List Lock). conflicts_with_any lock.ask (asks (ahead_of lock.cookie.0 (on lock.resource ws))) ≡ false)
            (sym none) refl;
        as_asked = subst (λ (o : Option Lock). IsAsked o lock (asks (on lock.resource (granted 0 (printed past))))
            (asks (without_first lock.cookie.0 (on lock.resource (waiting 0 (printed past)))))) (sym is)
            (record {
              resource = refl;
              grown = grown (asks (on lock.resource (granted 0 (printed past))))
                  (asks (without_first lock.cookie.0 (on lock.resource (waiting 0 (printed past)))));
            });
      }
    where
      none : waiting 0 (printed past) ≡ []
      none = first_waits head past g

      is : asked_for head.osts 0 (printed past) at lock ≡ Some lock
      is = ap (λ (ws : List Lock). or_else (find (has_cookie lock.cookie.0) ws)
          (find (is_for lock) (requested head.osts 0 (printed past) at lock.cookie))) none ∙ found

      kinds : (x : Ask) → In x (asks (on lock.resource (granted 0 (printed past)))) → conflict lock.ask x ≡ false
      kinds x i =
          let m = in_map (λ (l : Lock). l.ask) x (on lock.resource (granted 0 (printed past))) i in
          let shown = granted_showed 0 head past m.0 g (in_filter (is_on lock.resource) m.0 (granted 0 (printed past)) m.1).0 in
          let gave = showed_gave head 0 past m.0 g shown in
          subst (λ (b : Ask). conflict lock.ask b ≡ false) m.2 (bits_clear lock.ask m.0.ask kind
          (gave_kind head 0 past g gave.0 m.0 gave.1))

  -- ---- each grant

  pub granted_ok : (stamp : Stamp) (t : ℕ) (lock : Lock) (d : Deed) → Allowed head past (turn stamp (Target t)) (Grant lock (Some d))
      → GrantBy head.osts (printed past) (turn stamp (Target t)) (Target t) lock
  granted_ok stamp t lock d a = by a.ok
    where
      at : At
      at = turn stamp (Target t)

      by : EntryOk past at (Target t) (Grant lock (Some d)) → GrantBy head.osts (printed past) at (Target t) lock
      by (inl ok) =
          let told = asked_as head past at d lock g ok.1 (owed past at d (Grant lock (Some d)) ok.1 a.owes) ok.2 in
          subst (λ (v : ℕ). GrantBy head.osts (printed past) at (Target v) lock) (sym ok.0) (names_ok at lock told.0 told.1 told.2)
      by (inr ok) = object_ok stamp t lock d a ok.0 (asked_object head past stamp t lock d a g ok.0 ok.1)
