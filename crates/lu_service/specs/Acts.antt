-- What the operations of a service answer, touch, write, grant and change, what is read of it, and the laws of
-- footprints over that.
use Rattle.std.specs.Prelude.{◌≡◌, ◌⊎◌, ℕ, min, max, Bool, true, false, List, []}
use Rattle.lu_base.specs.declared.ids.Who.{Who}
use Rattle.lu_base.specs.declared.locks.Extent.{Extent}
use Rattle.lu_base.specs.declared.locks.Resource.{Resource}
use Rattle.lu_msg.specs.declared.answers.Answer.{Answer}
use Rattle.lu_msg.specs.declared.answers.Answer.TheVariants.{Refused}
use Rattle.lu_msg.specs.declared.answers.Errno.{Errno}
use Rattle.lu_part.specs.declared.parts.Part.{Part}
use Rattle.lu_part.specs.declared.parts.Want.{Want}
use Rattle.lu_spec_machine.specs.Footprint.{Operation, asks_life, Every}
use Rattle.lu_spec_machine.specs.Objects.{page_extent}
use Rattle.lu_service.specs.declared.services.Kind.{Kind}
use Rattle.lu_service.specs.Contents.{Contents, IsSound, Same, SameBytes}
use Rattle.lu_service.specs.Takes.{Performs}

pub record Acts : Type 0 where
  pub answer : Contents → Operation → Answer
  pub touches : Contents → Operation → List Part
  pub writes : Contents → Operation → List Part
  pub grants : Contents → Operation → List Want
  -- whether it makes a transaction
  pub changes : Contents → Operation → Bool
  pub after : Contents → Operation → Contents
  -- the opens of a life go
  pub forgotten : Contents → Who → Contents
  -- what a `get` of a page of an object reads under a lock on this range
  pub read : Contents → Resource → (page : ℕ) → Extent → List ℕ

-- the offsets in both
abbrev pub common : Extent → Extent → Extent
common a b = record { first = max a.first b.first; last = min a.last b.last }

module _ (acts : Acts) where
  -- what comes of an act is the same
  abbrev pub Alike : Contents → Contents → Operation → Operation → Type 0
  Alike s t a b =
      record {
        touches : acts.touches s a ≡ acts.touches t b;
        writes : acts.writes s a ≡ acts.writes t b;
        grants : acts.grants s a ≡ acts.grants t b;
        changes : acts.changes s a ≡ acts.changes t b;
      }

  -- the two are contents of one service, and agree on what an act touches in the first
  pub record Agree (s t : Contents) (a : Operation) : Type 0 where
    pub osts : s.osts ≡ t.osts
    pub sound : IsSound s × IsSound t
    pub touched : Every (Same s t) (acts.touches s a)

  pub record IsLawful (kind : Kind) : Type 0 where
    -- contents that agree on what an act touches give it the same answer
    pub answer : (s t : Contents) (a : Operation) → Agree s t a → acts.answer s a ≡ acts.answer t a
    -- and the same touched and written parts, locks, and whether it makes a transaction
    pub touched : (s t : Contents) (a : Operation) → Agree s t a → Alike s t a a
    -- these depend neither on the number that it gets nor, where it doesn't ask that, on the life that asks
    pub free :
        (s : Contents) (a b : Operation) → a.op ≡ b.op → (a.who ≡ b.who) ⊎ (asks_life a.op ≡ false)
        → Alike s s a b
    -- a refusal makes no transaction, and grants and writes nothing
    pub refused :
        (s : Contents) (a : Operation) (e : Errno) → acts.answer s a ≡ Refused e
        → (acts.changes s a ≡ false) × (acts.grants s a ≡ []) × (acts.writes s a ≡ [])
    -- what makes no transaction writes nothing and uses no number
    pub unchanged :
        (s : Contents) (a : Operation) → acts.changes s a ≡ false
        → (acts.writes s a ≡ []) × ((acts.after s a).last ≡ s.last)
    -- what makes one grants nothing and uses its number
    pub changed :
        (s : Contents) (a : Operation) → acts.changes s a ≡ true
        → (acts.grants s a ≡ []) × ((acts.after s a).last ≡ a.number.0)
    -- the opens of a life use no number
    pub forgotten : (s : Contents) (who : Who) → (acts.forgotten s who).last ≡ s.last
    -- contents that agree on the bytes of the range read the same
    pub read :
        (s t : Contents) (r : Resource) (page : ℕ) (extent : Extent) → IsSound s × IsSound t
        → SameBytes s t r extent → acts.read s r page extent ≡ acts.read t r page extent
    -- a page is read under the part of the range that lies in it
    pub within :
        (s : Contents) (r : Resource) (page : ℕ) (extent : Extent)
        → acts.read s r page extent ≡ acts.read s r page (common (page_extent page) extent)
    -- what is performed, and lives that go, leave contents of a service
    pub sound : (s : Contents) (a : Operation) → Performs kind a.op → IsSound s → IsSound (acts.after s a)
    pub still_sound : (s : Contents) (who : Who) → IsSound s → IsSound (acts.forgotten s who)
