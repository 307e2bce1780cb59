-- What a client knows of the offsets of a read: each is known, or lies at or past the size that it was told with a lock to the end; and its
-- last is
-- below such a size, or at or before an offset that was shown under a lock. All of it stays while the locks do.
use Rattle.std.proofs.Common.{◌≡◌, ℕ, ◌+◌, ◌<◌, ◌≤◌, true, false, List, ◌∷◌, length, ◌⊎◌, inl, inr}
use Rattle.std.specs.Prelude.{slice_index, ◌==◌}
use Rattle.std.proofs.lemmas.Bool.{cond_both}
use Rattle.lu_base.specs.declared.ids.Fid.{Fid}
use Rattle.lu_base.specs.declared.ids.Node.TheVariants.{Client, Target}
use Rattle.lu_base.specs.declared.locks.Extent.{Extent}
use Rattle.lu_base.specs.declared.locks.Lock.{Lock}
use Rattle.lu_base.specs.declared.locks.Mode.TheVariants.{PR}
use Rattle.lu_base.specs.declared.locks.Policy.TheVariants.{Range}
use Rattle.lu_base.specs.declared.locks.Resource.{Resource}
use Rattle.lu_layout.specs.Raid0.{Raid0, stripe_of, offset_of}
use Rattle.lu_lock.specs.Growth.{the_end}
use Rattle.lu_lock.specs.Overlap.{covers}
use Rattle.lu_held.specs.declared.locks.Use.{Use}
use Rattle.lu_spec_entries.specs.Words.{Line}
use Rattle.lu_spec_entries.specs.Concerns.{only, concerns}
use Rattle.lu_spec_client.specs.Caches.{known_bytes_at, shown_at}
use Rattle.lu_spec_client.specs.Stripes.{below_on, object}
use Rattle.lu_proof_lawful.proofs.Preconditions.Only.{was_more}
use Rattle.lu_proof_lawful.proofs.Invariants.Lines.{acted_more}
use Rattle.lu_proof_lawful.proofs.Refinement.TellsAgree.{TellsSize}
use Rattle.lu_proof_lawful.proofs.Laws.NotesStay.{IsKnown, IsShown, bytes_stay, shown_stay}
use Rattle.lu_proof_lawful.proofs.Laws.SilentHeld.{gives_up}

-- locks by target
abbrev pub Locks : Type 1
Locks = ℕ → Lock → Type 0

-- one of them, to read on that object
pub record ReadsLock (L : Locks) (t : ℕ) (r : Resource) (k : Lock) (x : Extent) : Type 0 where
  pub is : L t k
  pub of_object : k.resource ≡ r
  pub mode : k.ask.mode ≡ PR
  pub range : k.ask.policy ≡ Range x

-- one to the end, from that offset or one before it, and the size that was told with it
pub record EndOf (L : Locks) (past : List Line) (t : ℕ) (r : Resource) (first : ℕ) : Type 0 where
  pub lock : Lock
  pub extent : Extent
  pub reads : ReadsLock L t r lock extent
  pub ends : extent.last ≡ the_end
  pub low : extent.first ≤ first
  pub size : ℕ
  pub tells : TellsSize (only t past) lock size

-- one over the offset that doesn't go to the end, under which that or a later one was shown
pub record ShownOf (L : Locks) (c : ℕ) (past : List Line) (t : ℕ) (r : Resource) (q : ℕ) : Type 0 where
  pub lock : Lock
  pub extent : Extent
  pub reads : ReadsLock L t r lock extent
  pub short : (extent.last == the_end) ≡ false
  pub first : extent.first ≤ q
  pub last : q ≤ extent.last
  pub shown : IsShown (shown_at c past) r lock.cookie q

-- one that covers what is wanted
pub record ServedOf (L : Locks) (wanted : Use) : Type 0 where
  pub lock : Lock
  pub extent : Extent
  pub reads : ReadsLock L wanted.target.0 wanted.resource lock extent
  pub covers : covers lock.ask.policy wanted.policy ≡ true

-- what is known of an offset
abbrev pub ByteOf : Locks → ℕ → List Line → (t : ℕ) → Resource → (first q : ℕ) → Type 0
ByteOf L c past t r first q = IsKnown (known_bytes_at c past) r q ⊎ ((e : EndOf L past t r first) × (e.size ≤ q))

-- the last one was reached
abbrev pub ReachedOf : Locks → ℕ → List Line → (t : ℕ) → Resource → (first q : ℕ) → Type 0
ReachedOf L c past t r first q = ((e : EndOf L past t r first) × (q < e.size)) ⊎ ShownOf L c past t r q

-- all offsets of n positions from p on
abbrev pub PlacesOf : Locks → ℕ → List Line → Raid0 → Fid → (p n : ℕ) → Type 0
PlacesOf L c past l fid p n = (i : ℕ) → i < length l.targets → (q : ℕ) → below_on l i p ≤ q → q < below_on l i (p + n)
    → ByteOf L c past (slice_index l.targets i) (object fid i) (below_on l i p) q

abbrev pub LastOf : Locks → ℕ → List Line → Raid0 → Fid → (p e : ℕ) → Type 0
LastOf L c past l fid p e = ReachedOf L c past (slice_index l.targets (stripe_of l e)) (object fid (stripe_of l e))
    (below_on l (stripe_of l e) p) (offset_of l e)

-- ---- it stays

tells_more : (l : Line) (past : List Line) (k : Lock) (n : ℕ) → TellsSize past k n → TellsSize (l ∷ past) k n
tells_more l past k n (inl t) = inl (t.0, acted_more l.at l.entry past t.0 t.1, t.2, t.3)
tells_more l past k n (inr t) = inr (t.0, t.1, t.2, was_more l past (Target t.0) (Client t.1) _ t.3, t.4, t.5, t.6)

pub tells_line : (t : ℕ) (l : Line) (past : List Line) (k : Lock) (n : ℕ) → TellsSize (only t past) k n → TellsSize (only t (l ∷ past)) k n
tells_line t l past k n s = cond_both (concerns t l.at.node l.entry) (l ∷ only t past) (only t past) (λ (v : List Line). TellsSize v k n)
    (λ e. tells_more l (only t past) k n s) (λ e. s)

reads_stay : (L M : Locks) (t : ℕ) (r : Resource) (k : Lock) (x : Extent) → ((u : ℕ) (m : Lock) → L u m → M u m) → ReadsLock L t r k x
    → ReadsLock M t r k x
reads_stay L M t r k x more s = record { is = more t k s.is; of_object = s.of_object; mode = s.mode; range = s.range }

pub served_stay : (L M : Locks) (wanted : Use) → ((u : ℕ) (m : Lock) → L u m → M u m) → ServedOf L wanted → ServedOf M wanted
served_stay L M wanted more s = record {
  lock = s.lock;
  extent = s.extent;
  reads =
      reads_stay L M wanted.target.0 wanted.resource s.lock s.extent more s.reads;
  covers = s.covers;
}

module _ (L M : Locks) (c : ℕ) (l : Line) (past : List Line) (more : (u : ℕ) (m : Lock) → L u m → M u m)
    (stays : gives_up c l.at.node l.entry ≡ false) where
  abbrev end_stays : (t : ℕ) (r : Resource) (first : ℕ) → EndOf L past t r first → EndOf M (l ∷ past) t r first
  end_stays t r first e =
      record {
        lock = e.lock;
        extent = e.extent;
        reads = reads_stay L M t r e.lock e.extent more e.reads;
        ends = e.ends;
        low = e.low;
        size =
            e.size;
        tells = tells_line t l past e.lock e.size e.tells;
      }

  pub byte_stays : (t : ℕ) (r : Resource) (first q : ℕ) → ByteOf L c past t r first q → ByteOf M c (l ∷ past) t r first q
  byte_stays t r first q (inl k) = inl (bytes_stay c l past r q stays k)
  byte_stays t r first q (inr e) = inr (end_stays t r first e.0, e.1)

  pub reached_stays : (t : ℕ) (r : Resource) (first q : ℕ) → ReachedOf L c past t r first q → ReachedOf M c (l ∷ past) t r first q
  reached_stays t r first q (inl e) = inl (end_stays t r first e.0, e.1)
  reached_stays t r first q (inr s) =
      inr (record {
        lock = s.lock;
        extent = s.extent;
        reads = reads_stay L M t r s.lock s.extent more s.reads;
        short = s.short;
        first =
            s.first;
        last = s.last;
        shown = shown_stay c l past r s.lock.cookie q stays s.shown;
      })

  pub places_stay : (y : Raid0) (fid : Fid) (p n : ℕ) → PlacesOf L c past y fid p n → PlacesOf M c (l ∷ past) y fid p n
  places_stay y fid p n k i low q first last = byte_stays (slice_index y.targets i) (object fid i) (below_on y i p) q (k i low q first last)

-- with other locks of the same past
module _ (L M : Locks) (c : ℕ) (past : List Line) (more : (u : ℕ) (m : Lock) → L u m → M u m) where
  abbrev end_with : (t : ℕ) (r : Resource) (first : ℕ) → EndOf L past t r first → EndOf M past t r first
  end_with t r first e = record {
    lock = e.lock;
    extent = e.extent;
    reads = reads_stay L M t r e.lock e.extent more e.reads;
    ends = e.ends;
    low = e.low;
    size = e.size;
    tells = e.tells;
  }

  pub places_with : (y : Raid0) (fid : Fid) (p n : ℕ) → PlacesOf L c past y fid p n → PlacesOf M c past y fid p n
  places_with y fid p n k i low q first last = by (k i low q first last)
    where
      by : ByteOf L c past (slice_index y.targets i) (object fid i) (below_on y i p) q
          → ByteOf M c past (slice_index y.targets i) (object fid i) (below_on y i p) q
      by (inl b) = inl b
      by (inr e) = inr (end_with (slice_index y.targets i) (object fid i) (below_on y i p) e.0, e.1)

  pub reached_with : (t : ℕ) (r : Resource) (first q : ℕ) → ReachedOf L c past t r first q → ReachedOf M c past t r first q
  reached_with t r first q (inl e) = inl (end_with t r first e.0, e.1)
  reached_with t r first q (inr s) = inr (record {
    lock = s.lock;
    extent = s.extent;
    reads =
        reads_stay L M t r s.lock s.extent more s.reads;
    short = s.short;
    first = s.first;
    last = s.last;
    shown = s.shown;
  })
