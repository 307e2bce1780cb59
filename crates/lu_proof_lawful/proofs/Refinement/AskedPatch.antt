-- What is under way by a client's patch of an object, as lines change it: a change of its own leaves it, what is written back is under way,
-- and
-- once the answer is marked nothing is.
use Rattle.std.proofs.Common.{◌≡◌, ℕ, zero, suc, Bool, true, false, List, [], ◌∷◌, ◌++◌, Option, Some, None, refl, ap, ◌∙◌}
use Rattle.std.specs.Prelude.{nat_lt, is_some, if◌then◌else◌}
use Rattle.lu_base.specs.declared.ids.Cookie.{Cookie}
use Rattle.lu_base.specs.declared.locks.Lock.{Lock}
use Rattle.lu_base.specs.declared.locks.Policy.{Policy}
use Rattle.lu_base.specs.declared.locks.Policy.TheVariants.{Range}
use Rattle.lu_base.specs.declared.locks.Resource.{Resource}
use Rattle.lu_msg.specs.declared.answers.Answer.{Answer}
use Rattle.lu_msg.specs.declared.answers.Answer.TheVariants as answer
use Rattle.lu_msg.specs.declared.messages.Reply.{Reply as ReplyTo}
use Rattle.lu_msg.specs.declared.operations.Op.{Op}
use Rattle.lu_msg.specs.declared.operations.Op.TheVariants as op
use Rattle.lu_held.specs.declared.locks.HeldLock.{HeldLock}
use Rattle.lu_held.specs.Locks.{named, same_resource}
use Rattle.lu_spec_machine.specs.Places.{found_at, below}
use Rattle.lu_spec_entries.specs.declared.changes.Flush.{Flush}
use Rattle.lu_spec_entries.specs.declared.changes.Flush.TheVariants as flush
use Rattle.lu_spec_entries.specs.Carried.{Flight}
use Rattle.lu_spec_entries.specs.Words.{Entry, Heard, Changes, WritesBack, Life, Acks}
use Rattle.lu_spec_client.specs.Caches.{patch_at, with_object, on_object, made, brought, patches_after}
use Rattle.lu_spec_client.specs.Messages.{size_with, holds, learns, fills, shows, page_under, page_heard, held_as}
use Rattle.lu_spec_client.specs.Patches.{Patch, Flying, CutFlies, BytesFly, clean, written, ended, cut_over, acked_flight, acked}
use Rattle.lu_spec_client.specs.States.{Store, store_after, store_turn}
use Rattle.lu_proof_lawful.proofs.Preconditions.HeedMarks.{heeds_marks, owes}
use Rattle.lu_proof_lawful.proofs.Preconditions.QueueLists.{resource_of}
use Rattle.lu_proof_lawful.proofs.Refinement.PointsTables.{item_with, item_on}
use Rattle.lu_proof_lawful.proofs.Refinement.TiedAsked.{is_back}

-- ---- one patch

ended_flight : (n : ℕ) (p : Patch) → (ended n p).flight ≡ p.flight
ended_flight zero p = refl
ended_flight (suc n) p = by (is_some (found_at p.dirty n))
  where
    by : (b : Bool) → (if b then p else written n (0 ∷ []) p).flight ≡ p.flight
    by true = refl
    by false = refl

over_flight : (n : ℕ) (p : Patch) (q : Option ℕ) → (cut_over n p q).flight ≡ p.flight
over_flight n p None = refl
over_flight n p (Some q) = by (nat_lt q n)
  where
    by : (b : Bool) → (if b then ended n p else record p { pending = Some n }).flight ≡ p.flight
    by true = ended_flight n p
    by false = refl

pub made_flight : (change : Flush) (p : Patch) → (made change p).flight ≡ p.flight
made_flight (flush.Put at bytes) p = refl
made_flight (flush.Cut n) p = over_flight n (record p { dirty = below n p.dirty }) p.pending

pub acked_none : (p : Patch) → (acked p).flight ≡ None
acked_none p = by p.flight refl
  where
    by : (x : Option Flying) → p.flight ≡ x → (acked_flight p x).flight ≡ None
    by None e = e
    by (Some BytesFly) e = refl
    by (Some (CutFlies n)) e = refl

-- ---- that of an object

module _ (r : Resource) (patches : List (Resource × Patch)) where
  pub changed_flight : (q : Resource) (change : Flush) → (patch_at r (with_object q (made change (patch_at q patches)) patches)).flight
      ≡ (patch_at r patches).flight
  changed_flight q change = ap (λ (p : Patch). p.flight) (item_with clean q r (made change (patch_at q patches)) patches)
      ∙ by (same_resource q r) refl
    where
      by : (b : Bool) → same_resource q r ≡ b → (if b then made change (patch_at q patches) else patch_at r patches).flight
          ≡ (patch_at r patches).flight
      by true e = made_flight change (patch_at q patches) ∙ ap (λ (s : Resource). (patch_at s patches).flight) (resource_of q r e)
      by false e = refl

  pub acked_here : (q : Resource) → same_resource q r ≡ true → (patch_at r (on_object q acked patches)).flight ≡ None
  acked_here q e = ap (λ (p : Patch). p.flight) (item_on clean q r acked patches refl
      ∙ ap (λ (b : Bool). if b then acked (patch_at r patches) else patch_at r patches) e) ∙ acked_none (patch_at r patches)

  pub acked_there : (q : Resource) → same_resource q r ≡ false → (patch_at r (on_object q acked patches)).flight
      ≡ (patch_at r patches).flight
  acked_there q e = ap (λ (p : Patch). p.flight) (item_on clean q r acked patches refl
      ∙ ap (λ (b : Bool). if b then acked (patch_at r patches) else patch_at r patches) e)

-- ---- once an answer is marked

abbrev Leaves : Entry → Type 0
Leaves (Changes resource change) = ⊥
Leaves (WritesBack resource change) = ⊥
Leaves (Acks resource) = ⊥
Leaves (Life who) = ⊥
Leaves _ = Unit {0}

abbrev AllLeave : List Entry → Type 0
AllLeave [] = Unit {0}
AllLeave (e ∷ es) = Leaves e × AllLeave es

leave_one : (ps : List (Resource × Patch)) (e : Entry) → Leaves e → patches_after ps e ≡ ps
leave_one ps (Changes resource change) n = absurd n
leave_one ps (WritesBack resource change) n = absurd n
leave_one ps (Acks resource) n = absurd n
leave_one ps (Life who) n = absurd n
leave_one ps _ n = refl

turn_leaves : (es : List Entry) → AllLeave es → (s : Store) → (store_turn s es).patches ≡ s.patches
turn_leaves [] n s = refl
turn_leaves (e ∷ es) n s = turn_leaves es n.1 (store_after s e) ∙ leave_one s.patches e n.0

turn_both : (es fs : List Entry) (s : Store) → store_turn s (es ++ fs) ≡ store_turn (store_turn s es) fs
turn_both [] fs s = refl
turn_both (e ∷ es) fs s = turn_both es fs (store_after s e)

leave_both : (es fs : List Entry) → AllLeave es → AllLeave fs → AllLeave (es ++ fs)
leave_both [] fs a b = b
leave_both (e ∷ es) fs a b = (a.0, leave_both es fs a.1 b)

holds_leave : (t : ℕ) (size : Option ℕ) (seen : List ℕ) (ls : List Lock) → AllLeave (holds t size seen ls)
holds_leave t size seen [] = tt
holds_leave t size seen (l ∷ ls) = (tt, holds_leave t size seen ls)

learns_leave : (t : ℕ) (o : Op) (a : Answer) (ls : List Lock) → AllLeave (learns t o a ls)
learns_leave t o a [] = tt
learns_leave t o a (l ∷ ls) = (tt, tt)

page_leaves : (resource : Resource) (cookie : Cookie) (page : ℕ) (bs : List ℕ) (o : Option Lock)
    → AllLeave (page_heard resource cookie page bs o)
page_leaves resource cookie page bs None = tt
page_leaves resource cookie page bs (Some l) = by l.ask.policy
  where
    shown : (bs : List ℕ) → AllLeave (shows resource cookie page bs)
    shown [] = tt
    shown (b ∷ bs) = (tt, tt)

    by : (p : Policy) → AllLeave (page_under resource cookie page bs p)
    by (Range extent) = leave_both (shows resource cookie page bs) (fills resource page bs extent ∷ []) (shown bs) (tt, tt)
    by p = tt

module _ (r : Resource) (t : ℕ) (f : Flight) (p : ReplyTo) (held : List HeldLock) (s : Store) where
  abbrev first : List Entry
  first = holds t (size_with p.answer) p.seen (brought f.op p) ++ learns t f.op p.answer p.locks

  abbrev begun : Store
  begun = store_turn (store_after s (Heard t f p)) first

  begun_same : begun.patches ≡ s.patches
  begun_same = turn_leaves first (leave_both (holds t (size_with p.answer) p.seen (brought f.op p)) (learns t f.op p.answer p.locks)
      (holds_leave t (size_with p.answer) p.seen (brought f.op p)) (learns_leave t f.op p.answer p.locks)) (store_after s (Heard t f p))

  abbrev marked : Op → Answer → Store
  marked o a = store_turn begun (heeds_marks t o a held)

  whole : store_turn (store_after s (Heard t f p)) (owes t f p held) ≡ marked f.op p.answer
  whole = turn_both first (heeds_marks t f.op p.answer held) (store_after s (Heard t f p))

  -- a write-back to the object is done
  pub heard_done : is_back r f.op ≡ true → p.answer ≡ answer.Done
      → (patch_at r (store_turn (store_after s (Heard t f p)) (owes t f p held)).patches).flight ≡ None
  heard_done back e = ap (λ (x : Store). (patch_at r x.patches).flight) whole
      ∙ ap (λ (a : Answer). (patch_at r (marked f.op a).patches).flight) e ∙ by f.op back
    where
      by : (o : Op) → is_back r o ≡ true → (patch_at r (marked o answer.Done).patches).flight ≡ None
      by (op.Put q cookie at bs) b = acked_here r begun.patches q b
      by (op.Cut q cookie n) b = acked_here r begun.patches q b
      by o b = absurd (cc)

  -- anything else leaves what is under way
  pub heard_still : is_back r f.op ≡ false → (patch_at r (store_turn (store_after s (Heard t f p)) (owes t f p held)).patches).flight
      ≡ (patch_at r s.patches).flight
  heard_still back = ap (λ (x : Store). (patch_at r x.patches).flight) whole ∙ by f.op p.answer back
      ∙ ap (λ (ps : List (Resource × Patch)). (patch_at r ps).flight) begun_same
    where
      by : (o : Op) (a : Answer) → is_back r o ≡ false → (patch_at r (marked o a).patches).flight ≡ (patch_at r begun.patches).flight
      by (op.Put q cookie at bs) answer.Done b = acked_there r begun.patches q b
      by (op.Cut q cookie n) answer.Done b = acked_there r begun.patches q b
      by (op.Get q cookie page) (answer.Content bs) b = ap (λ (ps : List (Resource × Patch)). (patch_at r ps).flight)
          (turn_leaves _ (page_leaves q cookie page bs (held_as (named (record { 0 = t }) cookie) held)) begun)
      by o a b = refl
