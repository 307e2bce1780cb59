-- Each group of ties is kept where the table and the story say the same of it as before.
use Rattle.std.proofs.Common.{◌≡◌, ℕ, Bool, ◌<◌, false, List, [], ◌∷◌, Option, Some, ◌⊎◌, inl, inr, ⊎_elim, sym, subst, ap, ◌∙◌}
use Rattle.lu_base.specs.declared.ids.Who.{Who}
use Rattle.lu_base.specs.declared.locks.Lock.{Lock as TableLock}
use Rattle.lu_base.specs.declared.locks.Resource.{Resource}
use Rattle.lu_held.specs.declared.locks.HeldLock.{HeldLock}
use Rattle.lu_msg.specs.declared.operations.Op.{Op}
use Rattle.lu_msg.specs.declared.operations.Op.TheVariants as op
use Rattle.lu_spec_entries.specs.declared.changes.Flush.{Flush}
use Rattle.lu_spec_entries.specs.Carried.{Deed, Flight}
use Rattle.lu_spec_entries.specs.Words as word
use Rattle.lu_spec_entries.specs.Words.{Line}
use Rattle.lu_spec_client.specs.Caches.{held_at}
use Rattle.lu_proof_lawful.specs.Covered.ClientStates.{awaits_of}
use Rattle.lu_proof_lawful.proofs.Preconditions.Heard.{In}
use Rattle.lu_proof_lawful.proofs.Invariants.TargetGroups.{Acted, Gave, Gone}
use Rattle.lu_proof_bytes.specs.Object.Words as words
use Rattle.lu_proof_bytes.specs.Object.Words.{Lock, Entry}
use Rattle.lu_proof_bytes.specs.Object.Folds.{HeldBy, WasDropped}
use Rattle.lu_proof_bytes.specs.Object.Folds as says
use Rattle.lu_proof_lawful.specs.Projection.Lives.{number_of}
use Rattle.lu_proof_lawful.specs.Projection.Locks.{lock_of, given}
use Rattle.lu_proof_lawful.specs.Projection.Requests.{op_of, op_on, get_under}
use Rattle.lu_proof_lawful.proofs.Refinement.TiedAsked.{HasLock, FlownAs, IsOwed, BroughtOn, BacksTaken, FlightsAs, LocksAs, AwaitsAs}
use Rattle.lu_proof_lawful.proofs.Refinement.TiedAsked.{BacksAs, NotBegun}
use Rattle.lu_proof_lawful.proofs.Refinement.AskedFolds.{StaysFor}

-- what was granted under a cookie stays
abbrev pub GivenStays : List Entry → List Entry → Type 0
GivenStays h k = (j : ℕ) (l : Lock) → given j h ≡ Some l → given j k ≡ Some l

-- so what an operation is stays
pub op_same : (r : Resource) (h k : List Entry) (o : Op) (x : words.Op) → GivenStays h k → op_of r h o ≡ Some x → HasLock h o
    → (op_of r k o ≡ Some x) × HasLock k o
op_same r h k (op.Get q cookie page) x g e l = (
  ap (λ (y : Option Lock). op_on r q (get_under cookie.0 page y))
      (g cookie.0 l.0 l.1 ∙ sym l.1) ∙ e,
  (l.0, g cookie.0 l.0 l.1),
)
op_same r h k (op.Enqueue q mode extent) x g e l = (e, tt)
op_same r h k (op.Put q cookie at bytes) x g e l = (e, tt)
op_same r h k (op.Cut q cookie n) x g e l = (e, tt)
op_same r h k (op.Size q) x g e l = (e, tt)
op_same r h k o x g e l = absurd (cc)

pub flown_kept : (r : Resource) (h k : List Entry) (w : ℕ) (f : Flight) → GivenStays h k → says.flight w k ≡ says.flight w h
    → FlownAs r h w f → FlownAs r k w f
flown_kept r h k w f g same a = let o = op_same r h k f.op a.op g a.is a.lock
    in record { op = a.op; is = o.0; lock = o.1; flies = same ∙ a.flies }

-- ---- requests in flight

pub flights_kept : (r : Resource) (h k : List Entry) (w : ℕ) (fs gs : List Flight) → gs ≡ fs → GivenStays h k → says.flight w k
    ≡ says.flight w h → FlightsAs r h w fs → FlightsAs r k w gs
flights_kept r h k w fs gs e g same a = subst (λ (x : List Flight). FlightsAs r k w x) (sym e) (record {
  flies = λ f i on. flown_kept r h k w f g same (a.flies f i on);
  idle = λ none. same ∙ a.idle none;
  single = a.single;
})

-- ---- locks

-- of these held locks each is one of the others
abbrev pub SameLocks : List HeldLock → List HeldLock → Type 0
SameLocks hs gs = (x : HeldLock) → In x hs → (y : HeldLock) × In y gs × (y.lock ≡ x.lock)

-- no lock of that target is shown next
abbrev pub ShowsNone : ℕ → List word.Entry → Type 0
ShowsNone t owed = (lock : TableLock) (marked : Bool) (size : Option ℕ) (seen : List ℕ) (more : List word.Entry) → owed
    ≡ word.Hold t lock marked size seen ∷ more → ⊥

-- what was given up is what was given up before
abbrev pub GoneSame : Resource → Who → List Line → List Line → Type 0
GoneSame r who p q = (d : Deed) (l : TableLock) → Gave q d l → l.resource ≡ r → Gone q who l.cookie → Gave p d l × Gone p who l.cookie

-- of that life the newer story says of held locks what the older one does
pub record LocksStay (w : ℕ) (h k : List Entry) : Type 0 where
  pub back : (m : Lock) → HeldBy k m → m.life ≡ w → HeldBy h m
  pub kept : (m : Lock) → HeldBy h m → m.life ≡ w → HeldBy k m
  pub dropped : (m : Lock) → WasDropped h m → WasDropped k m

pub stays_locks : (w : ℕ) (h k : List Entry) → StaysFor w h k → LocksStay w h k
stays_locks w h k s = record { back = s.back; kept = s.kept; dropped = s.dropped }

pub locks_kept : (t : ℕ) (r : Resource) (h k : List Entry) (c : ℕ) (who : Who) (p q : List Line) (owed left : List word.Entry)
    → LocksStay (number_of who) h k → SameLocks (held_at c p) (held_at c q) → SameLocks (held_at c q) (held_at c p)
    → ((x : HeldLock) → In x (held_at c p) → number_of x.lock.ask.who ≡ number_of who)
    → ShowsNone t owed → ShowsNone t left → GoneSame r who p q → LocksAs t r h c who p owed → LocksAs t r k c who q left
locks_kept t r h k c who p q owed left s there back own none left_none gone a = record {
  held = λ m i v. let x = a.held m (s.back m i v) v in let y = there x.0 x.1
      in (y.0, y.1, ap (λ (l : TableLock). l.resource) y.2 ∙ x.2, ap lock_of y.2 ∙ x.3);
  holds = λ x i on.
      let y = back x i in
      let v : (lock_of y.0.lock).life ≡ number_of who = own y.0 y.1 in
      let there : HeldBy k (lock_of y.0.lock) = ⊎_elim (λ (j : HeldBy h (lock_of y.0.lock)). s.kept (lock_of y.0.lock) j v)
      (λ (o : IsOwed t y.0.lock owed). absurd (none y.0.lock false o.0 o.1 o.2 o.3))
      (a.holds y.0 y.1 (ap (λ (l : TableLock). l.resource) y.2 ∙ on)) in
      inl (subst (λ (l : TableLock). HeldBy k (lock_of l)) y.2 there);
  owed = λ lock marked size seen more e on. absurd (left_none lock marked size seen more e);
  dropped = λ d l g on x. let o = gone d l g on x in s.dropped (lock_of l) (a.dropped d l o.0 on o.1);
}

-- ---- locks that are to come

pub awaits_kept : (r : Resource) (h k : List Entry) (who : Who) (p q : List Line)
    → ((j : ℕ) → says.awaits (number_of who) j k ≡ says.awaits (number_of who) j h) → ((j : ℕ) → awaits_of who j q ≡ awaits_of who j p)
    → ((d : Deed) → Acted p d → Acted q d) → ((j : ℕ) → 0 < awaits_of who j p → BroughtOn r q j → BroughtOn r p j) → AwaitsAs r h who p
    → AwaitsAs r k who q
awaits_kept r h k who p q same counts more less a = record {
  awaits = λ j e. let x = a.awaits j (sym (same j) ∙ e) in (
    subst (λ (n : ℕ). 0 < n) (sym (counts j)) x.0,
    (x.1.0, more x.1.0 x.1.1, x.1.2, x.1.3),
  );
  awaited = λ j low b. let was = subst (λ (n : ℕ). 0 < n) (counts j) low in same j ∙ a.awaited j was (less j was b);
}

-- ---- what is written back

pub back_kept : (r : Resource) (h k : List Entry) (w : ℕ) (o : Op) → says.taken w k ≡ says.taken w h → BacksTaken r h w o
    → BacksTaken r k w o
back_kept r h k w o same b = record { cookie = b.cookie; change = b.change; is = b.is; taken = same ∙ b.taken; bytes = b.bytes }

pub backs_kept : (r : Resource) (h k : List Entry) (w : ℕ) (xs ys : List Op) (just now : Flush → Type 0) → ys ≡ xs → says.taken w k
    ≡ says.taken w h → ((change : Flush) → now change → ⊥)
    → BacksAs r h w xs just → BacksAs r k w ys now
backs_kept r h k w xs ys just now e same none a = subst (λ (zs : List Op). BacksAs r k w zs now) (sym e) (record {
  backs = ⊎_elim (λ (n : xs ≡ []). inl n) (λ (b : (o : Op) × (xs ≡ o ∷ []) × BacksTaken r h w o × ((change : Flush) → just change → ⊥)). inr
      (b.0, b.1, back_kept r h k w b.0 same b.2, none)) a.backs;
  took = λ change n. absurd (none change n);
})

-- ---- a life that hasn't begun

pub not_begun_kept : (w : ℕ) (h k : List Entry) → StaysFor w h k → NotBegun w h → NotBegun w k
not_begun_kept w h k s n = record {
  asked = s.asked ∙ n.asked;
  flight = s.flight ∙ n.flight;
  holds = λ l i v. n.holds l (s.back l i v) v;
  awaits = λ j. s.awaits j ∙ n.awaits j;
  taken = s.taken ∙ n.taken;
}
