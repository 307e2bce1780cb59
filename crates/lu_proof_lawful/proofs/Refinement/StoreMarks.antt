-- What a heard answer makes of a client's store once all that it brings is marked: the locks that come with it bring the ends of their
-- objects, and
-- its marks are of the object that was asked about.
use Rattle.std.proofs.Common.{◌≡◌, ℕ, Bool, true, false, List, [], ◌∷◌, ◌++◌, Option, Some, None, ◌⊎◌, inl, inr, ⊎_elim, refl, ap, ◌∙◌}
use Rattle.std.specs.Prelude.{if◌then◌else◌}
use Rattle.lu_base.specs.declared.ids.Cookie.{Cookie}
use Rattle.lu_base.specs.declared.locks.Extent.{Extent}
use Rattle.lu_base.specs.declared.locks.Lock.{Lock}
use Rattle.lu_base.specs.declared.locks.Policy.{Policy}
use Rattle.lu_base.specs.declared.locks.Policy.TheVariants.{Bits, Range}
use Rattle.lu_base.specs.declared.locks.Resource.{Resource}
use Rattle.lu_msg.specs.declared.answers.Answer.{Answer}
use Rattle.lu_msg.specs.declared.answers.Answer.TheVariants as answer
use Rattle.lu_msg.specs.declared.messages.Reply.{Reply as ReplyTo}
use Rattle.lu_msg.specs.declared.operations.Op.{Op}
use Rattle.lu_msg.specs.declared.operations.Op.TheVariants as op
use Rattle.lu_held.specs.declared.locks.HeldLock.{HeldLock}
use Rattle.lu_held.specs.Locks.{same_resource, reaches_end, named}
use Rattle.lu_spec_machine.specs.Places.{laid}
use Rattle.lu_spec_entries.specs.declared.changes.Flush.TheVariants.{Cut, Put}
use Rattle.lu_spec_entries.specs.Words.{Entry, Hold, Acks, Fills, Zeroes, Grown}
use Rattle.lu_spec_client.specs.Bytes.{zeroed}
use Rattle.lu_spec_client.specs.Caches.{Note, patch_at, bytes_at, noted, with_note, size_kept, granted_lock}
use Rattle.lu_spec_client.specs.Messages.{holds, learns, page_under, page_heard, held_as}
use Rattle.lu_spec_client.specs.Patches.{clean, acked}
use Rattle.lu_spec_client.specs.Sending.{object_of}
use Rattle.lu_spec_client.specs.States.{Store, store_after, store_turn}
use Rattle.lu_proof_lawful.proofs.Preconditions.Heard.{In}
use Rattle.lu_proof_lawful.proofs.Preconditions.HeedMarks.{heeds_marks}
use Rattle.lu_proof_lawful.proofs.Refinement.PointsTables.{item_with, item_on, same_lock, noted_with, noted_grown}

pub turn_both : (es fs : List Entry) (s : Store) → store_turn s (es ++ fs) ≡ store_turn (store_turn s es) fs
turn_both [] fs s = refl
turn_both (e ∷ es) fs s = turn_both es fs (store_after s e)

-- ---- what is kept of one object

-- it is the same
pub record Away (r : Resource) (s z : Store) : Type 0 where
  pub patch : patch_at r z.patches ≡ patch_at r s.patches
  pub bytes : bytes_at r z.bytes ≡ bytes_at r s.bytes
  pub sizes : (k : Cookie) → noted r k z.sizes ≡ noted r k s.sizes
  pub shown : (k : Cookie) → noted r k z.shown ≡ noted r k s.shown

pub away_same : (r : Resource) (s : Store) → Away r s s
away_same r s = record { patch = refl; bytes = refl; sizes = λ k. refl; shown = λ k. refl }

pub away_both : (r : Resource) (a b c : Store) → Away r a b → Away r b c → Away r a c
away_both r a b c p q =
    record { patch = q.patch ∙ p.patch; bytes = q.bytes ∙ p.bytes; sizes = λ k. q.sizes k ∙ p.sizes k; shown = λ k. q.shown k ∙ p.shown k }

-- ---- locks that come

-- the size that comes with it isn't noted for the lock of that cookie on the object
abbrev pub Elsewhere : Resource → Cookie → Lock → Type 0
Elsewhere r k l = (same_lock l.resource r l.cookie k ≡ false) ⊎ (reaches_end l.ask.policy ≡ false)

pub kept_elsewhere : (r : Resource) (k : Cookie) (l : Lock) (size : Option ℕ) (notes : List Note) → Elsewhere r k l
    → noted r k (size_kept l size notes) ≡ noted r k notes
kept_elsewhere r k l None notes o = refl
kept_elsewhere r k l (Some n) notes (inr o) = rw o refl
kept_elsewhere r k l (Some n) notes (inl o) = by (reaches_end l.ask.policy)
  where
    by : (b : Bool) → noted r k (if b then with_note l.resource l.cookie n notes else notes) ≡ noted r k notes
    by true = noted_with l.resource r l.cookie k n notes ∙ rw o refl
    by false = refl

pub record Held (s z : Store) : Type 0 where
  pub patches : z.patches ≡ s.patches
  pub bytes : z.bytes ≡ s.bytes
  pub shown : z.shown ≡ s.shown

pub holds_held : (t : ℕ) (size : Option ℕ) (seen : List ℕ) (ls : List Lock) (s : Store) → Held s (store_turn s (holds t size seen ls))
holds_held t size seen [] s = record { patches = refl; bytes = refl; shown = refl }
holds_held t size seen (l ∷ ls) s = let h = holds_held t size seen ls (store_after s (Hold t l false size seen))
    in record { patches = h.patches; bytes = h.bytes; shown = h.shown }

pub holds_sizes : (r : Resource) (k : Cookie) (t : ℕ) (size : Option ℕ) (seen : List ℕ) (ls : List Lock) (s : Store)
    → ((l : Lock) → In l ls → Elsewhere r k l) → noted r k (store_turn s (holds t size seen ls)).sizes ≡ noted r k s.sizes
holds_sizes r k t size seen [] s all = refl
holds_sizes r k t size seen (l ∷ ls) s all = holds_sizes r k t size seen ls (store_after s (Hold t l false size seen))
    (λ m i. all m (inr i)) ∙ kept_elsewhere r k l size s.sizes (all l (inl refl))

pub learns_same : (t : ℕ) (o : Op) (a : Answer) (ls : List Lock) (s : Store) → store_turn s (learns t o a ls) ≡ s
learns_same t o a [] s = refl
learns_same t o a (l ∷ ls) s = refl

-- ---- which locks are owed

pub holds_in : (t u : ℕ) (size n : Option ℕ) (seen z : List ℕ) (m : Bool) (ls : List Lock) (lock : Lock)
    → In (Hold t lock m n z) (holds u size seen ls) → (u ≡ t) × In lock ls × (n ≡ size)
holds_in t u size n seen z m [] lock i = absurd i
holds_in t u size n seen z m (l ∷ ls) lock (inl e) = (cc, inl (cc), cc)
holds_in t u size n seen z m (l ∷ ls) lock (inr i) = let f = holds_in t u size n seen z m ls lock i in (f.0, inr f.1, f.2)

abbrev pub NoHold : List Entry → Type 0
NoHold es = (t : ℕ) (lock : Lock) (m : Bool) (n : Option ℕ) (z : List ℕ) → In (Hold t lock m n z) es → ⊥

pub in_either : {A : Type 0} (x : A) (xs ys : List A) → In x (xs ++ ys) → In x xs ⊎ In x ys
in_either x [] ys i = inr i
in_either x (y ∷ xs) ys (inl e) = inl (inl e)
in_either x (y ∷ xs) ys (inr i) = ⊎_elim (λ (j : In x xs). inl (inr j)) (λ (j : In x ys). inr j) (in_either x xs ys i)

pub learns_none : (t : ℕ) (o : Op) (a : Answer) (ls : List Lock) → NoHold (learns t o a ls)
learns_none t o a [] u lock m n z i = i
learns_none t o a (l ∷ ls) u lock m n z (inl e) = absurd (cc)
learns_none t o a (l ∷ ls) u lock m n z (inr i) = i

pub page_none : (resource : Resource) (cookie : Cookie) (page : ℕ) (bs : List ℕ) (x : Extent)
    → NoHold (page_under resource cookie page bs (Range x))
page_none resource cookie page [] x u lock m n z (inl e) = absurd (cc)
page_none resource cookie page [] x u lock m n z (inr i) = i
page_none resource cookie page (b ∷ bs) x u lock m n z (inl e) = absurd (cc)
page_none resource cookie page (b ∷ bs) x u lock m n z (inr (inl e)) = absurd (cc)
page_none resource cookie page (b ∷ bs) x u lock m n z (inr (inr i)) = i

heard_none : (resource : Resource) (cookie : Cookie) (page : ℕ) (bs : List ℕ) (o : Option Lock)
    → NoHold (page_heard resource cookie page bs o)
heard_none resource cookie page bs None = λ u lock m n z i. i
heard_none resource cookie page bs (Some l) = by l.ask.policy
  where
    by : (p : Policy) → NoHold (page_under resource cookie page bs p)
    by (Range x) = page_none resource cookie page bs x
    by (Bits b) = λ u lock m n z i. i

put_none : (a b c : Entry) → ((t : ℕ) (lock : Lock) (m : Bool) (n : Option ℕ) (z : List ℕ) → (a ≡ Hold t lock m n z → ⊥)
    × (b ≡ Hold t lock m n z → ⊥) × (c ≡ Hold t lock m n z → ⊥)) → NoHold (a ∷ b ∷ c ∷ [])
put_none a b c others t lock m n z (inl e) = (others t lock m n z).0 e
put_none a b c others t lock m n z (inr (inl e)) = (others t lock m n z).1 e
put_none a b c others t lock m n z (inr (inr (inl e))) = (others t lock m n z).2 e
put_none a b c others t lock m n z (inr (inr (inr i))) = i

pub marks_none : (t : ℕ) (o : Op) (a : Answer) (held : List HeldLock) → NoHold (heeds_marks t o a held)
marks_none t (op.Get resource cookie page) (answer.Content bs) held =
    heard_none resource cookie page bs (held_as (named (record { 0 = t }) cookie) held)
marks_none t (op.Put resource cookie at bs) answer.Done held = put_none (Acks resource) (Fills resource at bs) (Grown resource (Put at bs))
    (λ t lock m n z. (λ e. absurd (cc), λ e. absurd (cc), λ e. absurd (cc)))
marks_none t (op.Cut resource cookie k) answer.Done held = put_none (Acks resource) (Zeroes resource k) (Grown resource (Cut k))
    (λ t lock m n z. (λ e. absurd (cc), λ e. absurd (cc), λ e. absurd (cc)))
marks_none t o a held = λ u lock m n z i. i

-- ---- marks of another object

module _ (r q : Resource) (other : same_resource q r ≡ false) where
  put_away : (at : ℕ) (bs : List ℕ) (cookie : Cookie) (s : Store)
      → Away r s (store_turn s (heeds_marks 0 (op.Put q cookie at bs) answer.Done []))
  put_away at bs cookie s =
      record {
        patch = item_on clean q r acked s.patches refl ∙ rw other refl;
        bytes = item_with [] q r (laid at bs (bytes_at q s.bytes)) s.bytes ∙ rw other refl;
        sizes = λ k. noted_grown q r k (Put at bs) s.sizes ∙ rw other refl;
        shown = λ k. refl;
      }

  cut_away : (n : ℕ) (cookie : Cookie) (s : Store) → Away r s (store_turn s (heeds_marks 0 (op.Cut q cookie n) answer.Done []))
  cut_away n cookie s =
      record {
        patch = item_on clean q r acked s.patches refl ∙ rw other refl;
        bytes = item_on [] q r (zeroed n) s.bytes refl ∙ rw other refl;
        sizes = λ k. noted_grown q r k (Cut n) s.sizes ∙ rw other refl;
        shown = λ k. refl;
      }

  page_away : (cookie : Cookie) (page : ℕ) (bs : List ℕ) (o : Option Lock) (s : Store)
      → Away r s (store_turn s (page_heard q cookie page bs o))
  page_away cookie page bs None s = away_same r s
  page_away cookie page bs (Some l) s = by l.ask.policy bs
    where
      by : (p : Policy) (bs : List ℕ) → Away r s (store_turn s (page_under q cookie page bs p))
      by (Bits b) bs = away_same r s
      by (Range x) [] = record { patch = refl; bytes = item_with [] q r _ s.bytes ∙ rw other refl; sizes = λ k. refl; shown = λ k. refl }
      by (Range x) (b ∷ bs) = record {
        patch = refl;
        bytes = item_with [] q r _ s.bytes ∙ rw other refl;
        sizes = λ k. refl;
        shown =
            λ k. noted_with q r cookie k _ s.shown ∙ rw other refl;
      }

pub marks_away : (r : Resource) (t : ℕ) (o : Op) (a : Answer) (held : List HeldLock) (s : Store)
    → ((q : Resource) → object_of o ≡ Some q → same_resource q r ≡ false) → Away r s (store_turn s (heeds_marks t o a held))
marks_away r t (op.Get q cookie page) (answer.Content bs) held s away =
    page_away r q (away q refl) cookie page bs (held_as (named (record { 0 = t }) cookie) held) s
marks_away r t (op.Put q cookie at bs) answer.Done held s away = put_away r q (away q refl) at bs cookie s
marks_away r t (op.Cut q cookie n) answer.Done held s away = cut_away r q (away q refl) n cookie s
marks_away r t o a held s away = away_same r s

-- a lock that is granted to who asked is on the object that was asked for
pub granted_on : (o : Op) (p : ReplyTo) (a : Answer) (l : Lock) → In l (granted_lock o p a) → object_of o ≡ Some l.resource
granted_on (op.Enqueue resource mode asked) p (answer.Granted cookie extent size) l (inl e) = ap (λ (x : Lock). Some x.resource) e
granted_on (op.Enqueue resource mode asked) p (answer.Granted cookie extent size) l (inr i) = absurd i
granted_on o p a l i = absurd i
