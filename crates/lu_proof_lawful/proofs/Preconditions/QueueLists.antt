-- Lists of what waits at an object storage target: locks, of which one is granted from between the others, and glimpses, each of another
-- request; and which granted lock is found by its cookie, or is the write lock of greatest start.
use Rattle.std.proofs.Common.{◌≡◌, ℕ, ◌<◌, Bool, true, false, List, [], ◌∷◌, ◌++◌, Option, Some, None, ◌⊎◌, inl, inr, ⊎_elim, refl, sym}
use Rattle.std.proofs.Common.{subst, ap, ◌∙◌, arith}
use Rattle.std.specs.Prelude.{nat_eq, nat_lt, ◌&&◌, not, if◌then◌else◌}
use Rattle.std.specs.List.{filter}
use Rattle.std.proofs.lemmas.Bool.{cond_both, cond-true, cond-false, and_parts, eqb-true, eq-eqb}
use Rattle.std.proofs.lemmas.Bool.Decides.{nat_tests}
use Rattle.lu_base.specs.declared.ids.Cookie.{Cookie}
use Rattle.lu_base.specs.declared.ids.Who.{Who}
use Rattle.lu_base.specs.declared.locks.Lock.{Lock}
use Rattle.lu_base.specs.declared.locks.Mode.{Mode}
use Rattle.lu_base.specs.declared.locks.Mode.TheVariants.{PW}
use Rattle.lu_base.specs.declared.locks.Resource.{Resource}
use Rattle.lu_held.specs.Locks.{same_resource}
use Rattle.lu_lock.specs.Modes.{serves}
use Rattle.lu_msg.specs.declared.messages.Request.{Request as RequestOf}
use Rattle.lu_msg.specs.declared.messages.SizeReport.{SizeReport}
use Rattle.lu_spec_entries.specs.Carried.{Glimpse}
use Rattle.lu_spec_entries.specs.Words.{same_life}
use Rattle.lu_spec_target.specs.Glimpses.{asked_for, higher, highest}
use Rattle.lu_spec_target.specs.Locks.{with_lock, with_locks, without_lock, same_request, same_glimpse}
use Rattle.lu_spec_target.specs.Objects.{lock_of}
use Rattle.lu_spec_target.specs.Queues.{extent_of}
use Rattle.lu_spec_target.specs.Replies.{locks_on}
use Rattle.lu_proof_lawful.proofs.Preconditions.Heard.{In}
use Rattle.lu_proof_lawful.proofs.Preconditions.ObjectGuards.{Unasked}
use Rattle.lu_proof_lawful.proofs.Preconditions.Lists.{in_append, in_filter, in_filtered, self, life_is, life_self}
use Rattle.lu_proof_lawful.proofs.Preconditions.LifeLists.{filter_swap, without_none}
use Rattle.lu_proof_lawful.proofs.Preconditions.LockLists.{AllAbove, in_above, Rises}

-- ---- locks of one resource

pub resource_of : (a b : Resource) → same_resource a b ≡ true → a ≡ b
resource_of a b h =
    let parts = and_parts (nat_eq a.fid.0 b.fid.0) (nat_eq a.stripe b.stripe) h in
    let fid : a.fid.0 ≡ b.fid.0 = eqb-true a.fid.0 b.fid.0 parts.0 in
    let stripe : a.stripe ≡ b.stripe = eqb-true a.stripe b.stripe parts.1 in
    λ i. record { fid = record { 0 = fid i }; stripe = stripe i }

pub resource_itself : (r : Resource) → same_resource r r ≡ true
resource_itself r = rw (self r.fid.0, self r.stripe) refl

pub on_resource : (r : Resource) (l : Lock) (locks : List Lock) → In l (locks_on r locks) → In l locks × (l.resource ≡ r)
on_resource r l locks i = let f = in_filter (λ (k : Lock). same_resource k.resource r) l locks i in (f.0, resource_of l.resource r f.1)

pub is_on : (r : Resource) (l : Lock) (locks : List Lock) → In l locks → l.resource ≡ r → In l (locks_on r locks)
is_on r l locks i e = in_filtered (λ (k : Lock). same_resource k.resource r) l locks i
    (ap (λ (s : Resource). same_resource s r) e ∙ resource_itself r)

-- ---- what is among granted locks once others are

pub in_with : (k l : Lock) (locks : List Lock) → In k (with_lock l locks) → (l ≡ k) ⊎ In k locks
in_with k l [] (inl e) = inl e
in_with k l [] (inr i) = absurd i
in_with k l (m ∷ locks) i = by (nat_eq l.cookie.0 m.cookie.0) (nat_lt l.cookie.0 m.cookie.0) (λ j. in_with k l locks j) i
  where
    by : (same below : Bool) → (In k (with_lock l locks) → (l ≡ k) ⊎ In k locks)
        → In k (if same then l ∷ locks else (if below then l ∷ m ∷ locks else m ∷ with_lock l locks)) → (l ≡ k) ⊎ In k (m ∷ locks)
    by true below ih (inl e) = inl e
    by true below ih (inr j) = inr (inr j)
    by false true ih (inl e) = inl e
    by false true ih (inr j) = inr j
    by false false ih (inl e) = inr (inl e)
    by false false ih (inr j) = ⊎_elim (λ (e : l ≡ k). inl e) (λ (r : In k locks). inr (inr r)) (ih j)

pub in_with_all : (k : Lock) (more locks : List Lock) → In k (with_locks more locks) → In k more ⊎ In k locks
in_with_all k [] locks i = inr i
in_with_all k (l ∷ more) locks i =
    ⊎_elim (λ (j : In k more). inl (inr j)) (λ (j : In k (with_lock l locks)). ⊎_elim (λ (e : l ≡ k). inl (inl e))
    (λ (r : In k locks). inr r) (in_with k l locks j)) (in_with_all k more (with_lock l locks) i)

-- ---- one goes from between the others

pub above_without : (g : Lock) (locks : List Lock) → AllAbove g.cookie.0 locks → without_lock g locks ≡ locks
above_without g locks a = without_none g locks (λ k i e. let lt = in_above g.cookie.0 locks k a i in absurd (omega (arith, lt, e)))

above_middle : (n : ℕ) (ahead : List Lock) (l : Lock) (later : List Lock) → AllAbove n (ahead ++ l ∷ later) → n < l.cookie.0
above_middle n [] l later a = a.0
above_middle n (k ∷ ahead) l later a = above_middle n ahead l later a.1

pub without_middle : (g : Lock) (ahead : List Lock) (l : Lock) (later : List Lock) → g.cookie.0 ≡ l.cookie.0 → Rises (ahead ++ l ∷ later)
    → without_lock g (ahead ++ l ∷ later) ≡ ahead ++ later
without_middle g [] l later e r =
    cond-false (not (nat_eq l.cookie.0 g.cookie.0)) (l ∷ without_lock g later) (without_lock g later)
    (ap not (eq-eqb l.cookie.0 g.cookie.0 (sym e)))
    ∙ above_without g later (subst (λ (n : ℕ). AllAbove n later) (sym e) r.0)
without_middle g (k ∷ ahead) l later e r =
    let lt = above_middle k.cookie.0 ahead l later r.0 in
    let other : not (nat_eq k.cookie.0 g.cookie.0) ≡ true = grind (arith, nat_tests, lt, e) in
    cond-true (not (nat_eq k.cookie.0 g.cookie.0)) (k ∷ without_lock g (ahead ++ l ∷ later)) (without_lock g (ahead ++ l ∷ later)) other
    ∙ ap (λ (ls : List Lock). k ∷ ls) (without_middle g ahead l later e r.1)

-- a lock of a greater cookie comes behind the others
above_push : (n : ℕ) (l : Lock) (locks : List Lock) → n < l.cookie.0 → AllAbove n locks → AllAbove n (locks ++ l ∷ [])
above_push n l [] lt a = (lt, tt)
above_push n l (k ∷ locks) lt a = (a.0, above_push n l locks lt a.1)

pub rises_push : (l : Lock) (locks : List Lock) → ((k : Lock) → In k locks → k.cookie.0 < l.cookie.0) → Rises locks
    → Rises (locks ++ l ∷ [])
rises_push l [] lt r = (tt, tt)
rises_push l (k ∷ locks) lt r = (above_push k.cookie.0 l locks (lt k (inl refl)) r.0, rises_push l locks (λ m i. lt m (inr i)) r.1)

pub on_without : (r : Resource) (g : Lock) (locks : List Lock) → locks_on r (without_lock g locks) ≡ without_lock g (locks_on r locks)
on_without r g locks = filter_swap (λ (k : Lock). same_resource k.resource r) (λ (k : Lock). not (nat_eq k.cookie.0 g.cookie.0)) locks

-- ---- the lock of a life

some_lock : (a b : Lock) → Some a ≡ Some b → a ≡ b
some_lock a b e = cc

pub lock_of_in : (who : Who) (cookie : Cookie) (locks : List Lock) (l : Lock) → lock_of who cookie locks ≡ Some l → In l locks
    × (l.ask.who ≡ who) × (l.cookie ≡ cookie)
lock_of_in who cookie [] l e = absurd (cc)
lock_of_in who cookie (k ∷ locks) l e =
    cond_both (nat_eq k.cookie.0 cookie.0 && same_life k.ask.who who) (Some k) (lock_of who cookie locks)
    (λ (o : Option Lock). o ≡ Some l → In l (k ∷ locks) × (l.ask.who ≡ who) × (l.cookie ≡ cookie))
    (λ t q.
    let p = and_parts (nat_eq k.cookie.0 cookie.0) (same_life k.ask.who who) t in
    let is : k ≡ l = some_lock k l q in (
      inl is,
      subst (λ (x : Lock). x.ask.who ≡ who) is (life_is k.ask.who who p.1),
      subst (λ (x : Lock). x.cookie ≡ cookie) is (ap (λ (n : ℕ). record { 0 = n }) (eqb-true k.cookie.0 cookie.0 p.0)),
    ))
    (λ t q. let r = lock_of_in who cookie locks l q in (inr r.0, r.1, r.2))
    e

-- ---- the write lock of greatest start

writes_only : (mode : Mode) → serves mode PW ≡ true → mode ≡ PW
writes_only PW e = refl
writes_only _ e = absurd (cc)

pub highest_in : (locks : List Lock) (l : Lock) → highest locks ≡ Some l → In l locks × (l.ask.mode ≡ PW)
highest_in [] l e = absurd (cc)
highest_in (k ∷ locks) l e =
    cond_both (serves k.ask.mode PW) (higher k (highest locks)) (highest locks)
    (λ (o : Option Lock). o ≡ Some l → In l (k ∷ locks) × (l.ask.mode ≡ PW))
    (λ t q. first t (highest locks) refl (λ p. highest_in locks l p) q)
    (λ t q. let r = highest_in locks l q in (inr r.0, r.1))
    e
  where
    own : serves k.ask.mode PW ≡ true → Some k ≡ Some l → In l (k ∷ locks) × (l.ask.mode ≡ PW)
    own t q = let is : k ≡ l = some_lock k l q in (inl is, subst (λ (x : Lock). x.ask.mode ≡ PW) is (writes_only k.ask.mode t))

    first : serves k.ask.mode PW ≡ true → (o : Option Lock) → highest locks ≡ o → (highest locks ≡ Some l → In l locks × (l.ask.mode ≡ PW))
        → higher k o ≡ Some l → In l (k ∷ locks) × (l.ask.mode ≡ PW)
    first t None h ih q = own t q
    first t (Some m) h ih q =
        cond_both (nat_lt (extent_of m).first (extent_of k).first) (Some k) (Some m)
        (λ (o : Option Lock). o ≡ Some l → In l (k ∷ locks) × (l.ask.mode ≡ PW))
        (λ s p. own t p)
        (λ s p. let r = ih (h ∙ p) in (inr r.0, r.1))
        q

-- ---- glimpses

-- each is of another request
abbrev pub Single : List Glimpse → Type 0
Single [] = Unit {0}
Single (g ∷ glimpses) = Unasked glimpses g.request × Single glimpses

pub request_turned : (q r : RequestOf) → same_request q r ≡ same_request r q
request_turned q r = by (same_request r q) refl
  where
    by : (v : Bool) → same_request r q ≡ v → same_request q r ≡ v
    by true e = grind (arith, nat_tests)
    by false e = grind (arith, nat_tests)

pub single_filter : (f : Glimpse → Bool) (glimpses : List Glimpse) → Single glimpses → Single (filter f glimpses)
single_filter f [] s = tt
single_filter f (g ∷ glimpses) s =
    cond_both (f g) (g ∷ filter f glimpses) (filter f glimpses) (λ (gs : List Glimpse). Single gs)
    (λ t. (λ x i. s.0 x (in_filter f x glimpses i).0, single_filter f glimpses s.1)) (λ t. single_filter f glimpses s.1)

pub single_push : (g : Glimpse) (glimpses : List Glimpse) → Unasked glimpses g.request → Single glimpses → Single (glimpses ++ g ∷ [])
single_push g [] unasked s = (λ x i. absurd i, tt)
single_push g (y ∷ glimpses) unasked s = (
  λ x i. ⊎_elim (λ (j : In x glimpses). s.0 x j) (λ (j : In x (g ∷ [])). last x j)
      (in_append x glimpses (g ∷ []) i),
  single_push g glimpses (λ x i. unasked x (inr i)) s.1,
)
  where
    last : (x : Glimpse) → In x (g ∷ []) → same_request x.request y.request ≡ false
    last x (inl e) = subst (λ (z : Glimpse). same_request z.request y.request ≡ false) e
        (request_turned g.request y.request ∙ unasked y (inl refl))
    last x (inr j) = absurd j

pub glimpse_itself : (g : Glimpse) → same_glimpse g g ≡ true
glimpse_itself g = rw (self g.cookie.0, life_self g.request.who, self g.request.xid.0) refl

-- of two that are different, one's request isn't the other's
other_glimpses : (gs : List Glimpse) (g x : Glimpse) → Single gs → In g gs → In x gs → same_glimpse g x ≡ false
    → same_request x.request g.request ≡ false
other_glimpses [] g x s i j e = absurd i
other_glimpses (y ∷ gs) g x s (inl p) (inl q) e = absurd (let same : same_glimpse g g ≡ false =
    subst (λ (z : Glimpse). same_glimpse g z ≡ false) (sym q ∙ p) e in let one = glimpse_itself g in cc)
other_glimpses (y ∷ gs) g x s (inl p) (inr j) e = subst (λ (z : Glimpse). same_request x.request z.request ≡ false) p (s.0 x j)
other_glimpses (y ∷ gs) g x s (inr i) (inl q) e = request_turned x.request g.request
    ∙ subst (λ (z : Glimpse). same_request g.request z.request ≡ false) q (s.0 g i)
other_glimpses (y ∷ gs) g x s (inr i) (inr j) e = other_glimpses gs g x s.1 i j e

-- so once it is gone none waits for its request
pub ended_unasked : (gs : List Glimpse) (g : Glimpse) → Single gs → In g gs
    → Unasked (filter (λ (x : Glimpse). not (same_glimpse g x)) gs) g.request
ended_unasked gs g s i x j =
    let f = in_filter (λ (x : Glimpse). not (same_glimpse g x)) x gs j in other_glimpses gs g x s i f.0 (off (same_glimpse g x) f.1)
  where
    off : (b : Bool) → not b ≡ true → b ≡ false
    off true e = absurd (cc)
    off false e = refl

-- one of another request is another one
pub still_glimpse : (gs : List Glimpse) (g x : Glimpse) → In x gs → same_request x.request g.request ≡ false
    → In x (filter (λ (y : Glimpse). not (same_glimpse g y)) gs)
still_glimpse gs g x i other = in_filtered (λ (y : Glimpse). not (same_glimpse g y)) x gs i
    (by (nat_eq g.cookie.0 x.cookie.0) (same_request g.request x.request) (request_turned g.request x.request ∙ other))
  where
    by : (a b : Bool) → b ≡ false → not (a && b) ≡ true
    by true b e = rw e refl
    by false b e = refl

-- that of which a holder says how long its object is
pub asked_in : (m : SizeReport) (gs : List Glimpse) (g : Glimpse) → asked_for m gs ≡ Some g → In g gs
    × (nat_eq g.cookie.0 m.cookie.0 ≡ true) × (same_life g.request.who m.for_who ≡ true) × (nat_eq g.request.xid.0 m.xid.0 ≡ true)
asked_in m [] g e = absurd (cc)
asked_in m (x ∷ gs) g e =
    cond_both (nat_eq x.cookie.0 m.cookie.0 && (same_life x.request.who m.for_who && nat_eq x.request.xid.0 m.xid.0)) (Some x)
    (asked_for m gs)
    (λ (o : Option Glimpse). o ≡ Some g → In g (x ∷ gs) × (nat_eq g.cookie.0 m.cookie.0 ≡ true) × (same_life g.request.who m.for_who ≡ true)
    × (nat_eq g.request.xid.0 m.xid.0 ≡ true))
    (λ t q.
    let p = and_parts (nat_eq x.cookie.0 m.cookie.0) (same_life x.request.who m.for_who && nat_eq x.request.xid.0 m.xid.0) t in
    let r = and_parts (same_life x.request.who m.for_who) (nat_eq x.request.xid.0 m.xid.0) p.1 in
    let is : x ≡ g = cc in (
      inl is,
      subst (λ (y : Glimpse). nat_eq y.cookie.0 m.cookie.0 ≡ true) is p.0,
      subst (λ (y : Glimpse). same_life y.request.who m.for_who ≡ true) is r.0,
      subst (λ (y : Glimpse). nat_eq y.request.xid.0 m.xid.0 ≡ true) is r.1,
    ))
    (λ t q. let r = asked_in m gs g q in (inr r.0, r.1, r.2, r.3))
    e
