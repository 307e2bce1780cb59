-- What waits at a target stays in order: locks in rising cookie, no two requests of one number of a life, glimpses each for another request
-- that waits, and for the holder of a lock to write that goes to the end of its object.
use Rattle.std.proofs.Common.{◌≡◌, ℕ, ◌+◌, ◌*◌, ◌<◌, ◌≤◌, Bool, true, false, List, [], ◌∷◌, ◌++◌, ◌⊎◌, inl, inr, ⊎_elim, refl, sym, subst}
use Rattle.std.proofs.Common.{ap, ◌∙◌, arith}
use Rattle.std.specs.Prelude.{nat_eq, max, not, ◌&&◌}
use Rattle.std.specs.List.{filter}
use Rattle.std.proofs.lemmas.Bool.{cond_both, eq-eqb}
use Rattle.lu_base.specs.declared.ids.Cookie.{Cookie}
use Rattle.lu_base.specs.declared.ids.Who.{Who}
use Rattle.lu_base.specs.declared.ids.Xid.{Xid}
use Rattle.lu_base.specs.declared.locks.Lock.{Lock}
use Rattle.lu_base.specs.declared.locks.Mode.TheVariants.{PW}
use Rattle.lu_base.specs.declared.locks.Resource.{Resource}
use Rattle.lu_lock.specs.Growth.{the_end}
use Rattle.lu_msg.specs.declared.messages.Request.{Request as RequestOf}
use Rattle.lu_msg.specs.declared.operations.Op.TheVariants as op
use Rattle.lu_spec_entries.specs.Carried.{Deed, Glimpse}
use Rattle.lu_spec_entries.specs.Words.{same_life}
use Rattle.lu_spec_target.specs.Lives.{is_life}
use Rattle.lu_spec_target.specs.Locks.{with_lock, with_locks, without_lock, locks_without, same_request}
use Rattle.lu_spec_target.specs.Queues.{extent_of}
use Rattle.lu_proof_lawful.specs.Covered.TargetParts.{is_request_of, without_request}
use Rattle.lu_proof_lawful.proofs.Preconditions.Guards.{In}
use Rattle.lu_proof_lawful.proofs.Preconditions.ObjectGuards.{Unasked}
use Rattle.lu_proof_lawful.proofs.Preconditions.Lists.{in_append, in_left, in_filter, in_filtered, life_self, self}
use Rattle.lu_proof_lawful.proofs.Preconditions.LifeLists.{same_cookie, without_none}
use Rattle.lu_proof_lawful.proofs.Preconditions.LockLists.{AllAbove, in_above, Rises, rises_filter}
use Rattle.lu_proof_lawful.proofs.Preconditions.QueueLists.{Single, request_turned, single_filter, single_push, rises_push, in_with}
use Rattle.lu_proof_lawful.proofs.Preconditions.QueueLists.{in_with_all}

-- ---- requests, each of another number of its life

abbrev pub Singles : List RequestOf → Type 0
Singles [] = Unit {0}
Singles (r ∷ waiting) = ((q : RequestOf) → In q waiting → same_request q r ≡ false) × Singles waiting

singles_filter : (f : RequestOf → Bool) (waiting : List RequestOf) → Singles waiting → Singles (filter f waiting)
singles_filter f [] s = tt
singles_filter f (r ∷ waiting) s =
    cond_both (f r) (r ∷ filter f waiting) (filter f waiting) (λ (rs : List RequestOf). Singles rs)
    (λ t. (λ q i. s.0 q (in_filter f q waiting i).0, singles_filter f waiting s.1)) (λ t. singles_filter f waiting s.1)

singles_push : (r : RequestOf) (waiting : List RequestOf) → ((q : RequestOf) → In q waiting → same_request q r ≡ false) → Singles waiting
    → Singles (waiting ++ r ∷ [])
singles_push r [] fresh s = (λ q i. absurd i, tt)
singles_push r (x ∷ waiting) fresh s = (
  λ q i. ⊎_elim (λ (j : In q waiting). s.0 q j) (λ (j : In q (r ∷ [])). last q j)
      (in_append q waiting (r ∷ []) i),
  singles_push r waiting (λ q i. fresh q (inr i)) s.1,
)
  where
    last : (q : RequestOf) → In q (r ∷ []) → same_request q x ≡ false
    last q (inl e) = subst (λ (y : RequestOf). same_request y x ≡ false) e (request_turned r x ∙ fresh x (inl refl))
    last q (inr j) = absurd j

request_itself : (r : RequestOf) → same_request r r ≡ true
request_itself r = rw (life_self r.who, self r.xid.0) refl

pub single_is : (waiting : List RequestOf) (q r : RequestOf) → Singles waiting → In q waiting → In r waiting → same_request q r ≡ true → q
    ≡ r
single_is [] q r s i j e = absurd i
single_is (x ∷ waiting) q r s (inl a) (inl b) e = sym a ∙ b
single_is (x ∷ waiting) q r s (inl a) (inr j) e = absurd (let none : same_request r q ≡ false =
    subst (λ (y : RequestOf). same_request r y ≡ false) a (s.0 r j) in let same = request_turned q r in cc)
single_is (x ∷ waiting) q r s (inr i) (inl b) e = absurd (let none : same_request q r ≡ false =
    subst (λ (y : RequestOf). same_request q y ≡ false) b (s.0 q i) in cc)
single_is (x ∷ waiting) q r s (inr i) (inr j) e = single_is waiting q r s.1 i j e

-- ---- all of it

-- for writing, on this resource and to the end
abbrev pub WritesToEnd : Resource → Lock → Type 0
WritesToEnd resource l = (l.resource ≡ resource) × (l.ask.mode ≡ PW) × ((extent_of l).last ≡ the_end)

-- the lock of whose holder a glimpse asks is one to write to the end of its object, where it is still granted; it doesn't wait
pub record Waits (boot cookie : ℕ) (granted queued : List Lock) (waiting : List RequestOf) (glimpses : List Glimpse) : Type 0 where
  pub low : cookie ≤ boot * 4294967296 + 4294967295
  pub rises : Rises queued
  pub granted_low : (l : Lock) → In l granted → l.cookie.0 ≤ cookie
  pub queued_low : (l : Lock) → In l queued → l.cookie.0 ≤ cookie
  pub others : (k l : Lock) → In k granted → In l queued → k.cookie.0 ≡ l.cookie.0 → ⊥
  pub singles : Singles waiting
  pub once : Single glimpses
  pub asks : (g : Glimpse) → In g glimpses → In g.request waiting × (g.request.op ≡ op.Size g.resource)
  pub holders : (g : Glimpse) (l : Lock) → In g glimpses → In l granted → l.cookie.0 ≡ g.cookie.0 → WritesToEnd g.resource l
  pub known : (g : Glimpse) → In g glimpses → g.cookie.0 ≤ cookie
  pub unwaited : (g : Glimpse) (l : Lock) → In g glimpses → In l queued → l.cookie.0 ≡ g.cookie.0 → ⊥

pub waits_start : Waits 1 (1 * 4294967296) [] [] [] []
waits_start =
    record {
      low = omega arith;
      rises = tt;
      granted_low = λ l i. absurd i;
      queued_low = λ l i. absurd i;
      others = λ k l i j e. absurd i;
      singles = tt;
      once = tt;
      asks = λ g i. absurd i;
      holders = λ g l i j e. absurd i;
      known = λ g i. absurd i;
      unwaited = λ g l i j e. absurd i;
    }

-- after a close nothing waits
pub waits_close : (boot cookie : ℕ) (granted : List Lock) → cookie ≤ boot * 4294967296 + 4294967295
    → ((l : Lock) → In l granted → l.cookie.0 ≤ cookie) → Waits boot cookie granted [] [] []
waits_close boot cookie granted low under =
    record {
      low = low;
      rises = tt;
      granted_low = under;
      queued_low = λ l i. absurd i;
      others = λ k l i j e. absurd j;
      singles = tt;
      once = tt;
      asks = λ g i. absurd i;
      holders = λ g l i j e. absurd i;
      known = λ g i. absurd i;
      unwaited = λ g l i j e. absurd i;
    }

module _ (boot cookie : ℕ) (granted queued : List Lock) (waiting : List RequestOf) (glimpses : List Glimpse)
    (h : Waits boot cookie granted queued waiting glimpses) where
  -- the next boot's cookies are above those before it
  pub waits_boot : (next : ℕ) → next ≡ boot + 1 → Waits next (next * 4294967296) granted queued waiting glimpses
  waits_boot next is =
      record {
        low = omega arith;
        rises = h.rises;
        granted_low = λ l i. let old = h.granted_low l i in omega (arith, old, above);
        queued_low = λ l i. let old = h.queued_low l i in omega (arith, old, above);
        others = h.others;
        singles = h.singles;
        once = h.once;
        asks = h.asks;
        holders = h.holders;
        known = λ g i. let old = h.known g i in omega (arith, old, above);
        unwaited = h.unwaited;
      }
    where
      above : cookie ≤ next * 4294967296
      above = let low = h.low in omega (arith, low, is)

  pub waits_enters : (r : RequestOf) → ((q : RequestOf) → In q waiting → same_request q r ≡ false)
      → Waits boot cookie granted queued (waiting ++ r ∷ []) glimpses
  waits_enters r fresh =
      record {
        low = h.low;
        rises = h.rises;
        granted_low = h.granted_low;
        queued_low = h.queued_low;
        others = h.others;
        singles = singles_push r waiting fresh h.singles;
        once = h.once;
        asks = λ g i. let a = h.asks g i in (in_left g.request waiting (r ∷ []) a.0, a.1);
        holders = h.holders;
        known = h.known;
        unwaited = h.unwaited;
      }

  -- no glimpse waits for a request that doesn't ask for a size
  pub not_size : (r : RequestOf) → In r waiting → ((resource : Resource) → r.op ≡ op.Size resource → ⊥) → Unasked glimpses r
  not_size r i other g j = by (same_request g.request r) refl
    where
      by : (b : Bool) → same_request g.request r ≡ b → b ≡ false
      by false e = refl
      by true e = let a = h.asks g j in absurd (other g.resource
          (ap (λ (x : RequestOf). x.op) (sym (single_is waiting g.request r h.singles a.0 i e)) ∙ a.1))

  -- nor for one that is new
  pub fresh_unasked : (r : RequestOf) → ((q : RequestOf) → In q waiting → same_request q r ≡ false) → Unasked glimpses r
  fresh_unasked r fresh g i = fresh g.request (h.asks g i).0

  -- one for which none waits is answered
  pub waits_answer : (d : Deed) (r : RequestOf) → d.reply.who ≡ r.who → d.reply.xid ≡ r.xid → Unasked glimpses r
      → Waits boot cookie granted queued (without_request d waiting) glimpses
  waits_answer d r who xid unasked =
      record {
        low = h.low;
        rises = h.rises;
        granted_low = h.granted_low;
        queued_low = h.queued_low;
        others = h.others;
        singles = singles_filter (λ (q : RequestOf). not (is_request_of d q)) waiting h.singles;
        once = h.once;
        asks = λ g i. let a = h.asks g i in (
          in_filtered (λ (q : RequestOf). not (is_request_of d q)) g.request waiting a.0
              (ap not (other g i)),
          a.1,
        );
        holders = h.holders;
        known = h.known;
        unwaited = h.unwaited;
      }
    where
      other : (g : Glimpse) → In g glimpses → is_request_of d g.request ≡ false
      other g i =
          ap (λ (w : Who). same_life w g.request.who && nat_eq d.reply.xid.0 g.request.xid.0) who
          ∙ ap (λ (x : Xid). same_life r.who g.request.who && nat_eq x.0 g.request.xid.0) xid
          ∙ request_turned r g.request ∙ unasked g i

  -- new locks come, with cookies above all
  pub waits_locks : (top : ℕ) (more : List Lock) → cookie ≤ top → top ≤ boot * 4294967296 + 4294967295 → AllAbove cookie more
      → ((k : Lock) → In k more → k.cookie.0 ≤ top) → Waits boot top (with_locks more granted) queued waiting glimpses
  waits_locks top more le room new under =
      record {
        low = room;
        rises = h.rises;
        granted_low = λ l i. ⊎_elim (λ (j : In l more). under l j)
            (λ (j : In l granted). let old = h.granted_low l j in omega (arith, old, le)) (in_with_all l more granted i);
        queued_low = λ l i. let old = h.queued_low l i in omega (arith, old, le);
        others = λ k l i j e. ⊎_elim (λ (q : In k more). let lt = in_above cookie more k new q in let low = h.queued_low l j
            in omega (arith, lt, low, e)) (λ (q : In k granted). h.others k l q j e) (in_with_all k more granted i);
        singles = h.singles;
        once = h.once;
        asks = h.asks;
        holders = λ g l i j e. ⊎_elim (λ (k : In l more). absurd
            (let lt = in_above cookie more l new k in let known = h.known g i in omega (arith, lt, known, e)))
            (λ (k : In l granted). h.holders g l i k e) (in_with_all l more granted j);
        known = λ g i. let old = h.known g i in omega (arith, old, le);
        unwaited = h.unwaited;
      }

  -- some that are granted go
  pub waits_release : (f : Lock → Bool) → Waits boot cookie (filter f granted) queued waiting glimpses
  waits_release f =
      record {
        low = h.low;
        rises = h.rises;
        granted_low = λ l i. h.granted_low l (in_filter f l granted i).0;
        queued_low = h.queued_low;
        others = λ k l i j e. h.others k l (in_filter f k granted i).0 j e;
        singles = h.singles;
        once = h.once;
        asks = h.asks;
        holders = λ g l i j e. h.holders g l i (in_filter f l granted j).0 e;
        known = h.known;
        unwaited = h.unwaited;
      }

  -- a lock that waits for nothing is granted at once, or one that waits comes behind the others
  abbrev Over : Lock → Type 0
  Over l = (cookie < l.cookie.0) × (l.cookie.0 ≤ boot * 4294967296 + 4294967295)

  over_max : (l : Lock) → Over l → max cookie l.cookie.0 ≡ l.cookie.0
  over_max l o = let lt = o.0 in omega (arith, lt)

  without_over : (l : Lock) → Over l → without_lock l queued ≡ queued
  without_over l o = without_none l queued (λ k i e. let low = h.queued_low k i in let lt = o.0 in absurd (omega (arith, low, lt, e)))

  pub waits_granted : (l : Lock) → Over l → Waits boot (max cookie l.cookie.0) (with_lock l granted) (without_lock l queued) waiting
      glimpses
  waits_granted l o =
      subst (λ (ls : List Lock). Waits boot (max cookie l.cookie.0) (with_lock l granted) ls waiting glimpses) (sym (without_over l o))
      (record {
        low = let top = o.1 in let low = h.low in omega (arith, top, low);
        rises = h.rises;
        granted_low = λ k i. ⊎_elim (λ (q : l ≡ k). let same : l.cookie.0 ≡ k.cookie.0 = ap (λ (x : Lock). x.cookie.0) q
            in omega (arith, same)) (λ (q : In k granted). let old = h.granted_low k q in omega (arith, old)) (in_with k l granted i);
        queued_low = λ k i. let old = h.queued_low k i in omega (arith, old);
        others = λ k m i j e. ⊎_elim
            (λ (q : l ≡ k). let same : l.cookie.0 ≡ k.cookie.0 = ap (λ (x : Lock). x.cookie.0) q in let low = h.queued_low m j in let lt =
            o.0 in omega (arith, same, low, lt, e))
            (λ (q : In k granted). h.others k m q j e)
            (in_with k l granted i);
        singles = h.singles;
        once = h.once;
        asks = h.asks;
        holders = λ g k i j e. ⊎_elim
            (λ (q : l ≡ k). absurd (let same : l.cookie.0 ≡ k.cookie.0 = ap (λ (x : Lock). x.cookie.0) q in let known = h.known g i
            in let lt = o.0 in omega (arith, same, known, lt, e)))
            (λ (q : In k granted). h.holders g k i q e)
            (in_with k l granted j);
        known = λ g i. let old = h.known g i in omega (arith, old);
        unwaited = h.unwaited;
      })

  pub waits_queued : (l : Lock) → Over l → Waits boot (max cookie l.cookie.0) granted (queued ++ l ∷ []) waiting glimpses
  waits_queued l o =
      record {
        low = let top = o.1 in let low = h.low in omega (arith, top, low);
        rises = rises_push l queued (λ k i. let low = h.queued_low k i in let lt = o.0 in omega (arith, low, lt)) h.rises;
        granted_low = λ k i. let old = h.granted_low k i in omega (arith, old);
        queued_low = λ k i. ⊎_elim (λ (j : In k queued). let old = h.queued_low k j in omega (arith, old)) (λ (j : In k (l ∷ [])). own k j)
            (in_append k queued (l ∷ []) i);
        others = λ k m i j e. ⊎_elim (λ (q : In m queued). h.others k m i q e) (λ (q : In m (l ∷ [])). above k m i q e)
            (in_append m queued (l ∷ []) j);
        singles = h.singles;
        once = h.once;
        asks = h.asks;
        holders = h.holders;
        known = λ g i. let old = h.known g i in omega (arith, old);
        unwaited = λ g k i j e. ⊎_elim (λ (q : In k queued). h.unwaited g k i q e) (λ (q : In k (l ∷ [])). new g k i q e)
            (in_append k queued (l ∷ []) j);
      }
    where
      own : (k : Lock) → In k (l ∷ []) → k.cookie.0 ≤ max cookie l.cookie.0
      own k (inl e) = let same : l.cookie.0 ≡ k.cookie.0 = ap (λ (x : Lock). x.cookie.0) e in omega (arith, same)
      own k (inr j) = absurd j

      above : (k m : Lock) → In k granted → In m (l ∷ []) → k.cookie.0 ≡ m.cookie.0 → ⊥
      above k m i (inl q) e = let same : l.cookie.0 ≡ m.cookie.0 = ap (λ (x : Lock). x.cookie.0) q in let low = h.granted_low k i
          in let lt = o.0 in omega (arith, same, low, lt, e)
      above k m i (inr j) e = absurd j

      new : (g : Glimpse) (k : Lock) → In g glimpses → In k (l ∷ []) → k.cookie.0 ≡ g.cookie.0 → ⊥
      new g k i (inl q) e = let same : l.cookie.0 ≡ k.cookie.0 = ap (λ (x : Lock). x.cookie.0) q in let known = h.known g i in let lt = o.0
          in omega (arith, same, known, lt, e)
      new g k i (inr j) e = absurd j

  -- one that waits is granted
  pub waits_promoted : (l asked : Lock) → In asked queued → l.cookie.0 ≡ asked.cookie.0
      → Waits boot (max cookie l.cookie.0) (with_lock l granted) (without_lock l queued) waiting glimpses
  waits_promoted l asked waits same =
      record {
        low = let low = h.low in omega (arith, low, top);
        rises = rises_filter (λ (k : Lock). not (nat_eq k.cookie.0 l.cookie.0)) queued h.rises;
        granted_low = λ k i. ⊎_elim (λ (q : l ≡ k). let one : l.cookie.0 ≡ k.cookie.0 = ap (λ (x : Lock). x.cookie.0) q
            in omega (arith, one)) (λ (q : In k granted). let old = h.granted_low k q in omega (arith, old)) (in_with k l granted i);
        queued_low = λ k i. let old = h.queued_low k (in_filter (λ (x : Lock). not (nat_eq x.cookie.0 l.cookie.0)) k queued i).0
            in omega (arith, old);
        others = λ k m i j e.
            let f = in_filter (λ (x : Lock). not (nat_eq x.cookie.0 l.cookie.0)) m queued j in ⊎_elim
            (λ (q : l ≡ k). other m.cookie.0 l.cookie.0 f.1 (sym e ∙ sym (ap (λ (x : Lock). x.cookie.0) q)))
            (λ (q : In k granted). h.others k m q f.0 e)
            (in_with k l granted i);
        singles = h.singles;
        once = h.once;
        asks = h.asks;
        holders = λ g k i j e. ⊎_elim
            (λ (q : l ≡ k). absurd (h.unwaited g asked i waits (sym same ∙ ap (λ (x : Lock). x.cookie.0) q ∙ e)))
            (λ (q : In k granted). h.holders g k i q e)
            (in_with k l granted j);
        known = λ g i. let old = h.known g i in omega (arith, old);
        unwaited = λ g k i j e. h.unwaited g k i (in_filter (λ (x : Lock). not (nat_eq x.cookie.0 l.cookie.0)) k queued j).0 e;
      }
    where
      other : (a b : ℕ) → not (nat_eq a b) ≡ true → a ≡ b → ⊥
      other a b n e = absurd (let is : nat_eq a b ≡ true = eq-eqb a b e in cc)

      top : l.cookie.0 ≤ cookie
      top = let low = h.queued_low asked waits in omega (arith, low, same)

  -- a holder is asked
  pub waits_asks : (g : Glimpse) (l : Lock) → In g.request waiting → g.request.op ≡ op.Size g.resource → Unasked glimpses g.request
      → WritesToEnd g.resource l → g.cookie ≡ l.cookie → Rises granted → In l granted
      → Waits boot cookie granted queued waiting (glimpses ++ g ∷ [])
  waits_asks g l waits of_op unasked ends of_cookie order is_granted =
      record {
        low = h.low;
        rises = h.rises;
        granted_low = h.granted_low;
        queued_low = h.queued_low;
        others = h.others;
        singles = h.singles;
        once = single_push g glimpses unasked h.once;
        asks = λ x i. ⊎_elim (λ (j : In x glimpses). h.asks x j)
            (λ (j : In x (g ∷ [])). last (λ (y : Glimpse). In y.request waiting × (y.request.op ≡ op.Size y.resource)) (waits, of_op) x j)
            (in_append x glimpses (g ∷ []) i);
        holders = λ x k i j e. ⊎_elim (λ (q : In x glimpses). h.holders x k q j e)
            (λ (q : In x (g ∷ [])). last (λ (y : Glimpse). k.cookie.0 ≡ y.cookie.0 → WritesToEnd y.resource k)
            (λ f. subst (λ (m : Lock). WritesToEnd g.resource m) (sym (same_cookie granted k l order j is_granted (f ∙ same))) ends) x q
            e) (in_append x glimpses (g ∷ []) i);
        known = λ x i. ⊎_elim (λ (j : In x glimpses). h.known x j)
            (λ (j : In x (g ∷ [])). last (λ (y : Glimpse). y.cookie.0 ≤ cookie)
            (let low = h.granted_low l is_granted in omega (arith, same, low)) x j) (in_append x glimpses (g ∷ []) i);
        unwaited = λ x k i j e. ⊎_elim (λ (q : In x glimpses). h.unwaited x k q j e)
            (λ (q : In x (g ∷ [])). last (λ (y : Glimpse). k.cookie.0 ≡ y.cookie.0 → ⊥) (λ f. h.others l k is_granted j (sym (f ∙ same))) x
            q e) (in_append x glimpses (g ∷ []) i);
      }
    where
      same : g.cookie.0 ≡ l.cookie.0
      same = ap (λ (c : Cookie). c.0) of_cookie

      last : (P : Glimpse → Type 0) → P g → (x : Glimpse) → In x (g ∷ []) → P x
      last P p x (inl e) = subst P e p
      last P p x (inr j) = absurd j

  -- a glimpse waits no longer
  pub waits_ends : (f : Glimpse → Bool) → Waits boot cookie granted queued waiting (filter f glimpses)
  waits_ends f =
      record {
        low = h.low;
        rises = h.rises;
        granted_low = h.granted_low;
        queued_low = h.queued_low;
        others = h.others;
        singles = h.singles;
        once = single_filter f glimpses h.once;
        asks = λ g i. h.asks g (in_filter f g glimpses i).0;
        holders = λ g l i j e. h.holders g l (in_filter f g glimpses i).0 j e;
        known = λ g i. h.known g (in_filter f g glimpses i).0;
        unwaited = λ g l i j e. h.unwaited g l (in_filter f g glimpses i).0 j e;
      }

  -- all goes that a life had
  pub waits_evict : (who : Who) → Waits boot cookie (locks_without (who ∷ []) granted) (locks_without (who ∷ []) queued)
      (filter (λ (r : RequestOf). not (is_life r.who (who ∷ []))) waiting)
      (filter (λ (g : Glimpse). not (is_life g.request.who (who ∷ []))) glimpses)
  waits_evict who =
      let of_lock : Lock → Bool = λ l. not (is_life l.ask.who (who ∷ [])) in
      let of_request : RequestOf → Bool = λ r. not (is_life r.who (who ∷ [])) in
      let of_glimpse : Glimpse → Bool = λ g. not (is_life g.request.who (who ∷ [])) in
      record {
        low = h.low;
        rises = rises_filter of_lock queued h.rises;
        granted_low = λ l i. h.granted_low l (in_filter of_lock l granted i).0;
        queued_low = λ l i. h.queued_low l (in_filter of_lock l queued i).0;
        others = λ k l i j e. h.others k l (in_filter of_lock k granted i).0 (in_filter of_lock l queued j).0 e;
        singles = singles_filter of_request waiting h.singles;
        once = single_filter of_glimpse glimpses h.once;
        asks = λ g i. let f = in_filter of_glimpse g glimpses i in let a = h.asks g f.0
            in (in_filtered of_request g.request waiting a.0 f.1, a.1);
        holders = λ g l i j e. h.holders g l (in_filter of_glimpse g glimpses i).0 (in_filter of_lock l granted j).0 e;
        known = λ g i. h.known g (in_filter of_glimpse g glimpses i).0;
        unwaited = λ g l i j e. h.unwaited g l (in_filter of_glimpse g glimpses i).0 (in_filter of_lock l queued j).0 e;
      }
