-- What a reply brings; and what each line makes of a client's held locks leaves each lock among them, but for those that it gives up.
use Rattle.std.proofs.Common.{◌≡◌, ℕ, Bool, true, false, List, [], ◌∷◌, ◌++◌, inl, inr, refl, sym, ap, ◌∙◌}
use Rattle.std.specs.Prelude.{nat_eq, not, map, if◌then◌else◌}
use Rattle.std.proofs.lemmas.Bool.{and_parts, cond_both, eqb-true}
use Rattle.lu_base.specs.declared.ids.TargetId.{TargetId}
use Rattle.lu_base.specs.declared.ids.Who.{Who}
use Rattle.lu_base.specs.declared.locks.Lock.{Lock}
use Rattle.lu_base.specs.declared.locks.Policy.TheVariants.{Range}
use Rattle.lu_msg.specs.declared.answers.Answer.{Answer}
use Rattle.lu_msg.specs.declared.answers.Answer.TheVariants as answer
use Rattle.lu_msg.specs.declared.messages.Reply.{Reply as ReplyTo}
use Rattle.lu_msg.specs.declared.operations.Op.{Op}
use Rattle.lu_msg.specs.declared.operations.Op.TheVariants as op
use Rattle.lu_held.specs.declared.names.LockName.{LockName}
use Rattle.lu_held.specs.declared.locks.HeldLock.{HeldLock}
use Rattle.lu_held.specs.declared.locks.Change.{Change}
use Rattle.lu_held.specs.declared.locks.Change.TheVariants.{Mark, Unmark, Pin, Unpin}
use Rattle.lu_held.specs.Locks.{name_of, is_named, after}
use Rattle.lu_held.specs.Held.{is_held, changed, used, unmarked, without}
use Rattle.lu_spec_client.specs.Caches.{granted_lock, brought, held_as, with_held, with_brought}
use Rattle.lu_proof_lawful.proofs.Preconditions.Guards.{In}
use Rattle.lu_proof_lawful.proofs.Preconditions.Lists.{in_left, in_right, in_filtered}
use Rattle.lu_proof_lawful.proofs.Preconditions.ClientLocks.{in_mapped}
use Rattle.lu_spec_laws.proofs.Tests.{settled}

-- ---- what a reply brings

granted_who : (o : Op) (r k : ReplyTo) (a : Answer) → r.who ≡ k.who → granted_lock o r a ≡ granted_lock o k a
granted_who (op.Enqueue resource mode asked) r k (answer.Granted cookie extent size) e =
    ap (λ (w : Who). record { cookie = cookie; resource = resource; ask = record { who = w; mode = mode; policy = Range extent } } ∷ []) e
granted_who o r k a e = refl

-- it is the same of another boot
pub brought_as : (o : Op) (r k : ReplyTo) → r ≡ record k { boot = r.boot; committed = r.committed } → brought o r ≡ brought o k
brought_as o r k e =
    ap (λ (ls : List Lock). ls ++ granted_lock o r r.answer) (ap (λ (v : ReplyTo). v.locks) e)
    ∙ ap (λ (a : Answer). k.locks ++ granted_lock o r a) (ap (λ (v : ReplyTo). v.answer) e)
    ∙ ap (λ (ls : List Lock). k.locks ++ ls) (granted_who o r k k.answer (ap (λ (v : ReplyTo). v.who) e))

-- ---- held locks

-- one of that lock of that target
abbrev pub Has : ℕ → Lock → List HeldLock → Type 0
Has t l hs = (x : HeldLock) × In x hs × (x.target.0 ≡ t) × (x.lock ≡ l)

-- ---- a lock comes

pub has_with : (h g : HeldLock) (hs : List HeldLock) → In g hs → (is_named (name_of h) g ≡ true → (h.target.0 ≡ g.target.0)
    × (h.lock ≡ g.lock)) → Has g.target.0 g.lock (with_held h hs)
has_with h g hs i same =
    cond_both (is_held (name_of h) hs) (map f hs) (h ∷ hs) (λ (v : List HeldLock). Has g.target.0 g.lock v)
    (λ t. let p = cond_both (is_named (name_of h) g) h g (λ (x : HeldLock). (x.target.0 ≡ g.target.0) × (x.lock ≡ g.lock)) same
    (λ e. (refl, refl)) in (f g, in_mapped f g hs i, p.0, p.1))
    (λ t. (g, inr i, refl, refl))
  where
    f : HeldLock → HeldLock
    f k = if is_named (name_of h) k then h else k

named_both : (t : ℕ) (l : Lock) (m : Bool) (g : HeldLock) → is_named (name_of (held_as t l m)) g ≡ true → (t ≡ g.target.0)
    × (l.cookie.0 ≡ g.lock.cookie.0)
named_both t l m g e = let p = and_parts (nat_eq t g.target.0) (nat_eq l.cookie.0 g.lock.cookie.0) e
    in (eqb-true t g.target.0 p.0, eqb-true l.cookie.0 g.lock.cookie.0 p.1)

pub has_held : (u t : ℕ) (l : Lock) (m : Bool) (k : Lock) (hs : List HeldLock) → (u ≡ t → l.cookie.0 ≡ k.cookie.0 → l ≡ k) → Has t k hs
    → Has t k (with_held (held_as u l m) hs)
has_held u t l m k hs same (g, i, w, e) =
    let r = has_with (held_as u l m) g hs i (λ n. let p = named_both u l m g n
    in (p.0, same (p.0 ∙ w) (p.1 ∙ ap (λ (v : Lock). v.cookie.0) e) ∙ sym e)) in
    (r.0, r.1, r.2 ∙ w, r.3 ∙ e)

pub has_brought : (u t : ℕ) (ls : List Lock) (k : Lock) (hs : List HeldLock)
    → ((l : Lock) → In l ls → u ≡ t → l.cookie.0 ≡ k.cookie.0 → l ≡ k) → Has t k hs → Has t k (with_brought u ls hs)
has_brought u t [] k hs same h = h
has_brought u t (l ∷ ls) k hs same h = has_brought u t ls k (with_held (held_as u l false) hs) (λ x i. same x (inr i))
    (has_held u t l false k hs (same l (inl refl)) h)

-- ---- a lock changes

same_lock : (change : Change) (h : HeldLock) → ((after change h).target.0 ≡ h.target.0) × ((after change h).lock ≡ h.lock)
same_lock Mark h = (refl, refl)
same_lock Unmark h = (refl, refl)
same_lock Pin h = (refl, refl)
same_lock Unpin h = (refl, refl)

changed_is : (change : Change) (h : HeldLock) (t : ℕ) (k : Lock) → h.target.0 ≡ t → h.lock ≡ k → ((after change h).target.0 ≡ t)
    × ((after change h).lock ≡ k)
changed_is change h t k w e = let s = same_lock change h in (s.0 ∙ w, s.1 ∙ e)

pub has_changed : (name : LockName) (change : Change) (t : ℕ) (k : Lock) (hs : List HeldLock) → Has t k hs
    → Has t k (changed name change hs)
has_changed name change t k hs (g, i, w, e) =
    let p = cond_both (is_named name g) (after change g) g (λ (x : HeldLock). (x.target.0 ≡ t) × (x.lock ≡ k))
    (λ q. changed_is change g t k w e) (λ q. (w, e)) in (f g, in_mapped f g hs i, p.0, p.1)
  where
    f : HeldLock → HeldLock
    f h = if is_named name h then after change h else h

pub has_unmarked : (target : TargetId) (t : ℕ) (k : Lock) (hs : List HeldLock) → Has t k hs → Has t k (unmarked target hs)
has_unmarked target t k hs (g, i, w, e) =
    let p = cond_both (nat_eq g.target.0 target.0) (after Unmark g) g (λ (x : HeldLock). (x.target.0 ≡ t) × (x.lock ≡ k))
    (λ q. changed_is Unmark g t k w e) (λ q. (w, e)) in (f g, in_mapped f g hs i, p.0, p.1)
  where
    f : HeldLock → HeldLock
    f h = if nat_eq h.target.0 target.0 then after Unmark h else h

pub has_used : (name : LockName) (t : ℕ) (k : Lock) (hs : List HeldLock) → Has t k hs → Has t k (used name hs)
has_used name t k hs (g, i, w, e) = (g, by (is_named name g) refl, w, e)
  where
    by : (b : Bool) → is_named name g ≡ b → In g (used name hs)
    by true q = in_left g _ (without name hs) (in_filtered (is_named name) g hs i q)
    by false q = in_right g _ (without name hs) (in_filtered (λ h. not (is_named name h)) g hs i (settled (is_named name g) q))

-- ---- a lock is given up

pub has_left : (name : LockName) (t : ℕ) (k : Lock) (hs : List HeldLock)
    → ((g : HeldLock) → g.target.0 ≡ t → g.lock ≡ k → is_named name g ≡ false) → Has t k hs → Has t k (without name hs)
has_left name t k hs other (g, i, w, e) = (
  g,
  in_filtered (λ h. not (is_named name h)) g hs i (settled (is_named name g) (other g w e)),
  w,
  e,
)
