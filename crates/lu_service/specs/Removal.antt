-- Transactions taken out of what a service has performed, as after a recovery that lost them. A past has its
-- newest item first.
use Rattle.std.specs.Prelude.{◌≡◌, ℕ, Bool, true, false, List, [], ◌∷◌}
use Rattle.lu_base.specs.declared.locks.Extent.{Extent}
use Rattle.lu_base.specs.declared.locks.Resource.{Resource}
use Rattle.lu_part.specs.declared.parts.Part.{Part}
use Rattle.lu_part.specs.declared.parts.Part.TheVariants.{Bytes}
use Rattle.lu_spec_machine.specs.Footprint.{Operation, Every, Apart}
use Rattle.lu_spec_machine.specs.Removal.{Item, pick}
use Rattle.lu_spec_machine.specs.Removal.{Acts as Performed, Forgets}
use Rattle.lu_spec_machine.specs.Trim.{Rising}
use Rattle.lu_service.specs.declared.services.Kind.{Kind}
use Rattle.lu_service.specs.Acts.{Acts, Alike}
use Rattle.lu_service.specs.Contents.{Contents}
use Rattle.lu_service.specs.Takes.{Takes, Performs}

module _ (acts : Acts) (start : Contents) where
  -- what a past leaves
  abbrev pub left : List Item → Contents
  left [] = start
  left (Performed a ∷ past) = acts.after (left past) a
  left (Forgets who ∷ past) = acts.forgotten (left past) who

  module _ (keep : ℕ → Bool) where
    -- the part meets nothing that one taken out wrote
    abbrev pub Clear : List Item → Part → Type 0
    Clear [] p = Unit {0}
    Clear (Performed a ∷ past) p =
        (keep a.number.0 ≡ false → Apart (acts.writes (left past) a) p) × Clear past p
    Clear (Forgets who ∷ past) p = Clear past p

    -- what an act touches is clear
    abbrev pub Untouched : List Item → Operation → Type 0
    Untouched past a = Every (Clear past) (acts.touches (left past) a)

    -- no remaining one touched what an earlier one taken out wrote
    abbrev pub Free : List Item → Type 0
    Free [] = Unit {0}
    Free (Performed a ∷ past) = (keep a.number.0 ≡ true → Untouched past a) × Free past
    Free (Forgets who ∷ past) = Free past

    -- the same contents without those taken out
    abbrev pub without : List Item → Contents
    without past = left (pick keep past)

-- each was performed by a service of this kind
abbrev pub ArePerformed : Kind → List Item → Type 0
ArePerformed kind [] = Unit {0}
ArePerformed kind (Performed a ∷ past) = Performs kind a.op × ArePerformed kind past
ArePerformed kind (Forgets who ∷ past) = ArePerformed kind past

-- What may be taken out of a past: the root stays, the numbers rise, each was performed by a service of this kind, and
-- nothing that remains touched what one taken out had written before it.
pub record CanGo (acts : Acts) (kind : Kind) (start : Contents) (keep : ℕ → Bool) (past : List Item) : Type 0 where
  pub root : keep 1 ≡ true
  pub rising : Rising past
  pub performed : ArePerformed kind past
  pub free : Free acts start keep past

-- The removal law: over contents without those taken out, the next act comes out the same if it touches nothing that
-- they wrote, and so does what is read under a range that meets nothing of it.
pub record Removes (acts : Acts) (kind : Kind) (start : Contents) : Type 0 where
  pub answer :
      (keep : ℕ → Bool) (past : List Item) → CanGo acts kind start keep past → (a : Operation) → Takes kind a.op
      → Untouched acts start keep past a
      → acts.answer (left acts start past) a ≡ acts.answer (without acts start keep past) a
  pub alike :
      (keep : ℕ → Bool) (past : List Item) → CanGo acts kind start keep past → (a : Operation) → Takes kind a.op
      → Untouched acts start keep past a
      → Alike acts (left acts start past) (without acts start keep past) a a
  pub read :
      (keep : ℕ → Bool) (past : List Item) → CanGo acts kind start keep past
      → (r : Resource) (page : ℕ) (extent : Extent) → Clear acts start keep past (Bytes r.fid r.stripe extent)
      → acts.read (left acts start past) r page extent ≡ acts.read (without acts start keep past) r page extent
