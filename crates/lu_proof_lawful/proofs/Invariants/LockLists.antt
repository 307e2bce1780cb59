-- Lists of locks: which are granted after an act, and which are held after a line.
use Rattle.std.proofs.Common.{◌≡◌, ℕ, ◌+◌, Bool, true, false, List, [], ◌∷◌, ◌⊎◌, inl, inr, ⊎_elim, refl, sym, subst, ap, ◌∙◌, arith}
use Rattle.std.specs.Prelude.{nat_eq, nat_lt, map, not, ◌++◌, ◌||◌, ◌&&◌, if◌then◌else◌}
use Rattle.std.specs.List.{filter}
use Rattle.std.proofs.lemmas.Bool.Decides.{nat_tests}
use Rattle.std.proofs.lemmas.Bool.{and_parts, and_from, or_parts, or_from, cond_both, eqb-true, eqb-false, eq-eqb, not-true}
use Rattle.lu_base.specs.declared.ids.Cookie.{Cookie}
use Rattle.lu_base.specs.declared.ids.TargetId.{TargetId}
use Rattle.lu_base.specs.declared.ids.Txn.{Txn}
use Rattle.lu_base.specs.declared.ids.Who.{Who}
use Rattle.lu_base.specs.declared.locks.Ask.{Ask}
use Rattle.lu_base.specs.declared.locks.Lock.{Lock}
use Rattle.lu_base.specs.declared.locks.Mode.{Mode}
use Rattle.lu_base.specs.declared.locks.Mode.TheVariants.{PR}
use Rattle.lu_base.specs.declared.locks.Policy.{Policy}
use Rattle.lu_base.specs.declared.locks.Policy.TheVariants.{Bits, Range}
use Rattle.lu_base.specs.declared.locks.Resource.{Resource}
use Rattle.lu_lock.specs.Conflict.{conflict, conflicts_with_any}
use Rattle.lu_lock.specs.Modes.{compatible}
use Rattle.lu_lock.specs.Overlap.{policies_meet}
use Rattle.lu_part.specs.declared.parts.Want.{Want}
use Rattle.lu_msg.specs.declared.answers.Answer.{Answer}
use Rattle.lu_msg.specs.declared.answers.Answer.TheVariants as answer
use Rattle.lu_msg.specs.declared.messages.Reply.{Reply as ReplyTo}
use Rattle.lu_msg.specs.declared.operations.Op.{Op}
use Rattle.lu_msg.specs.declared.operations.Op.TheVariants as op
use Rattle.lu_held.specs.declared.locks.Change.{Change}
use Rattle.lu_held.specs.declared.locks.Change.TheVariants.{Mark, Unmark, Pin, Unpin}
use Rattle.lu_held.specs.declared.locks.HeldLock.{HeldLock}
use Rattle.lu_held.specs.declared.names.LockName.{LockName}
use Rattle.lu_held.specs.Locks.{same_resource, is_named, after}
use Rattle.lu_held.specs.Locks as held
use Rattle.lu_held.specs.Held.{is_held, changed, without, used, unmarked}
use Rattle.lu_spec_target.specs.Lives.{is_life}
use Rattle.lu_spec_target.specs.Locks.{with_lock, with_locks, locks_without}
use Rattle.lu_spec_target.specs.Names.{locks_from}
use Rattle.lu_spec_target.specs.Replies.{asks_of, locks_on}
use Rattle.lu_spec_entries.specs.Words.{same_life}
use Rattle.lu_spec_client.specs.Caches.{held_as, with_held, with_brought, granted_lock, brought}
use Rattle.lu_proof_lawful.proofs.Preconditions.Guards.{In, name_of}
use Rattle.lu_proof_lawful.proofs.Preconditions.Lists.{in_append, in_filter, in_filtered, life_is}
use Rattle.lu_proof_lawful.proofs.Preconditions.ClientLocks.{in_map}
use Rattle.lu_proof_lawful.proofs.Preconditions.ClientLines.{from_high}
use Rattle.lu_proof_lawful.proofs.Invariants.TargetGroups.{NoneOf, IsKind}

-- ---- the locks of an act: of one life, for reading, each with a cookie of its own above the greatest one

pub from_who : (cookie : ℕ) (who : Who) (wants : List Want) (l : Lock) → In l (locks_from cookie who wants) → l.ask.who ≡ who
from_who cookie who [] l i = absurd i
from_who cookie who (want ∷ wants) l (inl e) = ap (λ (k : Lock). k.ask.who) (sym e)
from_who cookie who (want ∷ wants) l (inr i) = from_who (cookie + 1) who wants l i

-- for reading, on bits
abbrev pub IsBitsKind : Mode → Policy → Type 0
IsBitsKind mode (Bits bits) = mode ≡ PR
IsBitsKind mode (Range extent) = ⊥

pub from_bits : (cookie : ℕ) (who : Who) (wants : List Want) (l : Lock) → In l (locks_from cookie who wants)
    → IsBitsKind l.ask.mode l.ask.policy
from_bits cookie who [] l i = absurd i
from_bits cookie who (want ∷ wants) l (inl e) = subst (λ (k : Lock). IsBitsKind k.ask.mode k.ask.policy) e refl
from_bits cookie who (want ∷ wants) l (inr i) = from_bits (cookie + 1) who wants l i

pub bits_kind : (mode : Mode) (policy : Policy) → IsBitsKind mode policy → IsKind mode policy
bits_kind mode (Bits bits) b = b
bits_kind mode (Range extent) b = absurd b

pub from_once : (cookie : ℕ) (who : Who) (wants : List Want) (l k : Lock) → In l (locks_from cookie who wants)
    → In k (locks_from cookie who wants) → l.cookie.0 ≡ k.cookie.0 → l ≡ k
from_once cookie who [] l k i j e = absurd i
from_once cookie who (want ∷ wants) l k (inl p) (inl q) e = sym p ∙ q
from_once cookie who (want ∷ wants) l k (inl p) (inr j) e =
    let x : cookie + 1 ≡ l.cookie.0 = ap (λ (v : Lock). v.cookie.0) p in
    let y = from_high (cookie + 1) who wants k j in
    absurd (omega arith)
from_once cookie who (want ∷ wants) l k (inr i) (inl q) e =
    let x : cookie + 1 ≡ k.cookie.0 = ap (λ (v : Lock). v.cookie.0) q in
    let y = from_high (cookie + 1) who wants l i in
    absurd (omega arith)
from_once cookie who (want ∷ wants) l k (inr i) (inr j) e = from_once (cookie + 1) who wants l k i j e

-- ---- conflicts

and_false : (b : Bool) → (b && false) ≡ false
and_false true = refl
and_false false = refl

-- such a lock conflicts with none of any kind
pub bits_clear : (a b : Ask) → IsBitsKind a.mode a.policy → IsKind b.mode b.policy → conflict a b ≡ false
bits_clear a b k j = by a.mode a.policy b.mode b.policy k j
  where
    by : (m : Mode) (p : Policy) (n : Mode) (q : Policy) → IsBitsKind m p → IsKind n q → (not (compatible m n) && policies_meet p q) ≡ false
    by m (Bits x) n (Bits y) k j = rw (k, j) refl
    by m (Bits x) n (Range e) k j = and_false (not (compatible m n))
    by m (Range e) n q k j = absurd k

-- what conflicts with none of a list conflicts with each of it
pub none_of_any : (ask : Ask) (ks : List Lock) → conflicts_with_any ask (asks_of ks) ≡ false → (k : Lock) → In k ks → conflict ask k.ask
    ≡ false
none_of_any ask [] e k i = absurd i
none_of_any ask (j ∷ ks) e k i =
    let p = or_parts (conflict ask j.ask) (conflicts_with_any ask (asks_of ks)) e in
    ⊎_elim (λ (q : j ≡ k). ap (λ (v : Lock). conflict ask v.ask) (sym q) ∙ p.0) (λ (m : In k ks). none_of_any ask ks p.1 k m) i

-- and so with what of them is on one resource
pub on_resource : (r : Resource) (ks : List Lock) (k : Lock) → In k ks → k.resource ≡ r → In k (locks_on r ks)
on_resource r ks k i e = in_filtered (λ (l : Lock). same_resource l.resource r) k ks i
    (ap (λ (x : Resource). same_resource x r) e ∙ resource_self r)
  where
    resource_self : (x : Resource) → same_resource x x ≡ true
    resource_self x = grind (arith, nat_tests)

-- ---- granted locks

pub with_in : (l x : Lock) (ks : List Lock) → In x (with_lock l ks) → (l ≡ x) ⊎ In x ks
with_in l x [] i = i
with_in l x (k ∷ ks) i =
    cond_both (nat_eq l.cookie.0 k.cookie.0) (l ∷ ks) (if nat_lt l.cookie.0 k.cookie.0 then l ∷ k ∷ ks else k ∷ with_lock l ks)
    (λ (zs : List Lock). In x zs → (l ≡ x) ⊎ In x (k ∷ ks))
    (λ t j. ⊎_elim (λ (e : l ≡ x). inl e) (λ (m : In x ks). inr (inr m)) j)
    (λ t. cond_both (nat_lt l.cookie.0 k.cookie.0) (l ∷ k ∷ ks) (k ∷ with_lock l ks) (λ (zs : List Lock). In x zs → (l ≡ x) ⊎ In x (k ∷ ks))
    (λ u j. j)
    (λ u j. ⊎_elim
    (λ (e : k ≡ x). inr (inl e))
    (λ (m : In x (with_lock l ks)). ⊎_elim (λ (e : l ≡ x). inl e) (λ (n : In x ks). inr (inr n)) (with_in l x ks m))
    j))
    i

pub with_new : (l : Lock) (ks : List Lock) → In l (with_lock l ks)
with_new l [] = inl refl
with_new l (k ∷ ks) =
    cond_both (nat_eq l.cookie.0 k.cookie.0) (l ∷ ks) (if nat_lt l.cookie.0 k.cookie.0 then l ∷ k ∷ ks else k ∷ with_lock l ks)
    (λ (zs : List Lock). In l zs)
    (λ t. inl refl)
    (λ t. cond_both (nat_lt l.cookie.0 k.cookie.0) (l ∷ k ∷ ks) (k ∷ with_lock l ks) (λ (zs : List Lock). In l zs) (λ u. inl refl)
    (λ u. inr (with_new l ks)))

-- one of that cookie is it
pub with_old : (l x : Lock) (ks : List Lock) → (x.cookie.0 ≡ l.cookie.0 → x ≡ l) → In x ks → In x (with_lock l ks)
with_old l x [] one i = absurd i
with_old l x (k ∷ ks) one i =
    cond_both (nat_eq l.cookie.0 k.cookie.0) (l ∷ ks) (if nat_lt l.cookie.0 k.cookie.0 then l ∷ k ∷ ks else k ∷ with_lock l ks)
    (λ (zs : List Lock). In x zs)
    (λ t. ⊎_elim (λ (e : k ≡ x). inl (sym (one (ap (λ (v : Lock). v.cookie.0) (sym e) ∙ sym (eqb-true l.cookie.0 k.cookie.0 t)))))
    (λ (j : In x ks). inr j) i)
    (λ t. cond_both (nat_lt l.cookie.0 k.cookie.0) (l ∷ k ∷ ks) (k ∷ with_lock l ks) (λ (zs : List Lock). In x zs)
    (λ u. inr i)
    (λ u. ⊎_elim (λ (e : k ≡ x). inl e) (λ (j : In x ks). inr (with_old l x ks one j)) i))

pub withs_in : (ls : List Lock) (x : Lock) (ks : List Lock) → In x (with_locks ls ks) → In x ls ⊎ In x ks
withs_in [] x ks i = inr i
withs_in (l ∷ ls) x ks i =
    ⊎_elim
    (λ (j : In x ls). inl (inr j))
    (λ (j : In x (with_lock l ks)). ⊎_elim (λ (e : l ≡ x). inl (inl e)) (λ (m : In x ks). inr m) (with_in l x ks j))
    (withs_in ls x (with_lock l ks) i)

pub withs_old : (ls : List Lock) (x : Lock) (ks : List Lock) → ((y : Lock) → In y ls → x.cookie.0 ≡ y.cookie.0 → x ≡ y) → In x ks
    → In x (with_locks ls ks)
withs_old [] x ks one i = i
withs_old (l ∷ ls) x ks one i = withs_old ls x (with_lock l ks) (λ y j. one y (inr j)) (with_old l x ks (one l (inl refl)) i)

pub withs_new : (ls : List Lock) (x : Lock) (ks : List Lock) → ((y : Lock) → In y ls → x.cookie.0 ≡ y.cookie.0 → x ≡ y) → In x ls
    → In x (with_locks ls ks)
withs_new [] x ks one i = absurd i
withs_new (l ∷ ls) x ks one (inl e) =
    withs_old ls x (with_lock l ks) (λ y j. one y (inr j)) (with_same (with_new l ks))
  where
    with_same : In l (with_lock l ks) → In x (with_lock l ks)
    with_same i = subst (λ (v : Lock). In v (with_lock l ks)) e i
withs_new (l ∷ ls) x ks one (inr i) = withs_new ls x (with_lock l ks) (λ y j. one y (inr j)) i

-- ---- what a life that is evicted leaves

-- one of that life, or of another
leaving_or : (w who : Who) → (is_life w (who ∷ []) ≡ false) ⊎ (w ≡ who)
leaving_or w who = by (same_life w who) refl
  where
    by : (b : Bool) → same_life w who ≡ b → ((b || false) ≡ false) ⊎ (w ≡ who)
    by true e = inr (life_is w who e)
    by false e = inl refl

pub leaves_or : (who : Who) (ls : List Lock) (l : Lock) → In l ls → In l (locks_without (who ∷ []) ls) ⊎ (l.ask.who ≡ who)
leaves_or who ls l i =
    ⊎_elim
    (λ (e : is_life l.ask.who (who ∷ []) ≡ false). inl (in_filtered (λ (k : Lock). not (is_life k.ask.who (who ∷ []))) l ls i (ap not e)))
    (λ (e : l.ask.who ≡ who). inr e)
    (leaving_or l.ask.who who)

pub left_in : (who : Who) (ls : List Lock) (l : Lock) → In l (locks_without (who ∷ []) ls) → In l ls
left_in who ls l i = (in_filter (λ (k : Lock). not (is_life k.ask.who (who ∷ []))) l ls i).0

-- what is left is of another life
pub not_left : (who : Who) (ls : List Lock) (l : Lock) → In l (locks_without (who ∷ []) ls) → is_life l.ask.who (who ∷ []) ≡ false
not_left who ls l i = not-true (is_life l.ask.who (who ∷ [])) (in_filter (λ (k : Lock). not (is_life k.ask.who (who ∷ []))) l ls i).1

-- ---- held locks by name and by cookie

pub held_not : (n : LockName) (hs : List HeldLock) → is_held n hs ≡ false → (h : HeldLock) → In h hs → is_named n h ≡ false
held_not n [] e h i = absurd i
held_not n (g ∷ hs) e h i =
    let p = or_parts (is_named n g) (is_held n hs) e in
    ⊎_elim (λ (q : g ≡ h). ap (is_named n) (sym q) ∙ p.0) (λ (j : In h hs). held_not n hs p.1 h j) i

not_held : (n : LockName) (hs : List HeldLock) → ((h : HeldLock) → In h hs → is_named n h ≡ false) → is_held n hs ≡ false
not_held n [] f = refl
not_held n (g ∷ hs) f = or_from (is_named n g) (is_held n hs) (f g (inl refl)) (not_held n hs (λ h i. f h (inr i)))

pub is_of_name : (t : ℕ) (c : Cookie) (h : HeldLock) → h.target.0 ≡ t → h.lock.cookie.0 ≡ c.0 → is_named (name_of t c) h ≡ true
is_of_name t c h s e = and_from (nat_eq t h.target.0) (nat_eq c.0 h.lock.cookie.0) (eq-eqb t h.target.0 (sym s))
    (eq-eqb c.0 h.lock.cookie.0 (sym e))

of_cookie : (t : ℕ) (c : Cookie) (h : HeldLock) → is_named (name_of t c) h ≡ true → h.lock.cookie.0 ≡ c.0
of_cookie t c h e = sym (eqb-true c.0 h.lock.cookie.0 (and_parts (nat_eq t h.target.0) (nat_eq c.0 h.lock.cookie.0) e).1)

-- where none has a cookie, none has a name with it
pub none_named : (t : ℕ) (c : Cookie) (hs : List HeldLock) → NoneOf c hs → is_held (name_of t c) hs ≡ false
none_named t c hs none = not_held (name_of t c) hs named
  where
    named : (h : HeldLock) → In h hs → is_named (name_of t c) h ≡ false
    named h i = by (is_named (name_of t c) h) refl
      where
        by : (b : Bool) → is_named (name_of t c) h ≡ b → is_named (name_of t c) h ≡ false
        by true e = absurd (none h i (of_cookie t c h e))
        by false e = e

-- and where all are of one target, and none has the name there, none has the cookie
pub none_of : (t : ℕ) (c : Cookie) (hs : List HeldLock) → ((h : HeldLock) → In h hs → h.target.0 ≡ t) → is_held (name_of t c) hs ≡ false
    → NoneOf c hs
none_of t c hs there free h i e =
    let no = held_not (name_of t c) hs free h i in
    let yes = is_of_name t c h (there h i) e in
    absurd (cc)

-- one of them has that cookie, or none has
pub cookie_or : (c : Cookie) (hs : List HeldLock) → ((h : HeldLock) × In h hs × (h.lock.cookie.0 ≡ c.0)) ⊎ NoneOf c hs
cookie_or c [] = inr (λ h i e. i)
cookie_or c (g ∷ hs) = by (nat_eq g.lock.cookie.0 c.0) refl (cookie_or c hs)
  where
    by : (b : Bool) → nat_eq g.lock.cookie.0 c.0 ≡ b → ((h : HeldLock) × In h hs × (h.lock.cookie.0 ≡ c.0)) ⊎ NoneOf c hs
        → ((h : HeldLock) × In h (g ∷ hs) × (h.lock.cookie.0 ≡ c.0)) ⊎ NoneOf c (g ∷ hs)
    by true e more = inl (g, inl refl, eqb-true g.lock.cookie.0 c.0 e)
    by false e (inl r) = inl (r.0, inr r.1, r.2)
    by false e (inr none) = inr (λ h i q. ⊎_elim (λ (s : g ≡ h). eqb-false g.lock.cookie.0 c.0 e
        (ap (λ (x : HeldLock). x.lock.cookie.0) s ∙ q)) (λ (j : In h hs). none h j q) i)

-- ---- what is held was held: with other pins and marks

abbrev pub Kept : List HeldLock → HeldLock → Type 0
Kept hs h = (g : HeldLock) × In g hs × (g.target ≡ h.target) × (g.lock ≡ h.lock)

pub kept_same : (hs : List HeldLock) (h : HeldLock) → In h hs → Kept hs h
kept_same hs h i = (h, i, refl, refl)

pub kept_none : (c : Cookie) (old new : List HeldLock) → ((h : HeldLock) → In h new → Kept old h) → NoneOf c old → NoneOf c new
kept_none c old new k none h i e = let g = k h i in none g.0 g.1 (ap (λ (l : Lock). l.cookie.0) g.3 ∙ e)

after_same : (change : Change) (g : HeldLock) → ((after change g).target ≡ g.target) × ((after change g).lock ≡ g.lock)
after_same Mark g = (refl, refl)
after_same Unmark g = (refl, refl)
after_same Pin g = (refl, refl)
after_same Unpin g = (refl, refl)

pub changed_kept : (n : LockName) (change : Change) (hs : List HeldLock) (h : HeldLock) → In h (changed n change hs) → Kept hs h
changed_kept n change hs h i = by (in_map (λ g. if is_named n g then after change g else g) h hs i)
  where
    by : (g : HeldLock) × In g hs × ((if is_named n g then after change g else g) ≡ h) → Kept hs h
    by r = (
      r.0,
      r.1,
      cond_both (is_named n r.0) (after change r.0) r.0 (λ (v : HeldLock). v ≡ h → r.0.target ≡ h.target)
          (λ t e. sym (after_same change r.0).0 ∙ ap (λ (v : HeldLock). v.target) e) (λ t e. ap (λ (v : HeldLock). v.target) e) r.2,
      cond_both (is_named n r.0) (after change r.0) r.0 (λ (v : HeldLock). v ≡ h → r.0.lock ≡ h.lock)
          (λ t e. sym (after_same change r.0).1 ∙ ap (λ (v : HeldLock). v.lock) e) (λ t e. ap (λ (v : HeldLock). v.lock) e) r.2,
    )

pub unmarked_kept : (target : TargetId) (hs : List HeldLock) (h : HeldLock) → In h (unmarked target hs) → Kept hs h
unmarked_kept target hs h i = by (in_map (λ g. if nat_eq g.target.0 target.0 then after Unmark g else g) h hs i)
  where
    by : (g : HeldLock) × In g hs × ((if nat_eq g.target.0 target.0 then after Unmark g else g) ≡ h) → Kept hs h
    by r = (
      r.0,
      r.1,
      cond_both (nat_eq r.0.target.0 target.0) (after Unmark r.0) r.0 (λ (v : HeldLock). v ≡ h → r.0.target ≡ h.target)
          (λ t e. ap (λ (v : HeldLock). v.target) e) (λ t e. ap (λ (v : HeldLock). v.target) e) r.2,
      cond_both (nat_eq r.0.target.0 target.0) (after Unmark r.0) r.0 (λ (v : HeldLock). v ≡ h → r.0.lock ≡ h.lock)
          (λ t e. ap (λ (v : HeldLock). v.lock) e) (λ t e. ap (λ (v : HeldLock). v.lock) e) r.2,
    )

pub used_in : (n : LockName) (hs : List HeldLock) (h : HeldLock) → In h (used n hs) → In h hs
used_in n hs h i =
    ⊎_elim
    (λ (j : In h (filter (is_named n) hs)). (in_filter (is_named n) h hs j).0)
    (λ (j : In h (without n hs)). (in_filter (λ (g : HeldLock). not (is_named n g)) h hs j).0)
    (in_append h (filter (is_named n) hs) (without n hs) i)

-- ---- what a reply brings

granted_again : (o : Op) (k : ReplyTo) (boot : ℕ) (committed : Txn) (a : Answer)
    → granted_lock o (record k { boot = boot; committed = committed }) a ≡ granted_lock o k a
granted_again (op.Enqueue resource mode extent) k boot committed (answer.Granted cookie size n) = refl
granted_again o k boot committed a = refl

-- the same one, sent again in another boot, brings the same locks
pub brought_again : (o : Op) (k r : ReplyTo) → r ≡ record k { boot = r.boot; committed = r.committed } → brought o r ≡ brought o k
brought_again o k r e = ap (brought o) e ∙ ap (λ (ls : List Lock). k.locks ++ ls) (granted_again o k r.boot r.committed k.answer)

pub with_held_in : (n : HeldLock) (hs : List HeldLock) (h : HeldLock) → In h (with_held n hs) → (n ≡ h) ⊎ In h hs
with_held_in n hs h =
    cond_both (is_held (held.name_of n) hs) (map (λ g. if is_named (held.name_of n) g then n else g) hs) (n ∷ hs)
    (λ (zs : List HeldLock). In h zs → (n ≡ h) ⊎ In h hs)
    (λ t i. by (in_map (λ g. if is_named (held.name_of n) g then n else g) h hs i))
    (λ t i. i)
  where
    by : (g : HeldLock) × In g hs × ((if is_named (held.name_of n) g then n else g) ≡ h) → (n ≡ h) ⊎ In h hs
    by r = cond_both (is_named (held.name_of n) r.0) n r.0 (λ (v : HeldLock). v ≡ h → (n ≡ h) ⊎ In h hs) (λ t e. inl e)
        (λ t e. inr (subst (λ (v : HeldLock). In v hs) e r.1)) r.2

pub brought_in : (t : ℕ) (ls : List Lock) (hs : List HeldLock) (h : HeldLock) → In h (with_brought t ls hs) → In h hs
    ⊎ ((l : Lock) × In l ls × (held_as t l false ≡ h))
brought_in t [] hs h i = inl i
brought_in t (l ∷ ls) hs h i =
    ⊎_elim
    (λ (j : In h (with_held (held_as t l false) hs)). ⊎_elim (λ (e : held_as t l false ≡ h). inr (l, inl refl, e)) (λ (m : In h hs). inl m)
    (with_held_in (held_as t l false) hs h j))
    (λ (r : (k : Lock) × In k ls × (held_as t k false ≡ h)). inr (r.0, inr r.1, r.2))
    (brought_in t ls (with_held (held_as t l false) hs) h i)
