-- A past of a covered run, as what glimpses tell rests on it: what stands before each line of a client, and what an object measures there
-- it
-- measures, for a call that stands, over one of the cuts.
use Rattle.std.proofs.Common.{◌≡◌, ℕ, true, List, [], ◌∷◌, Some, inl, inr, sym, subst}
use Rattle.lu_base.specs.declared.ids.At.{At}
use Rattle.lu_base.specs.declared.ids.Fid.{Fid}
use Rattle.lu_base.specs.declared.ids.Node.TheVariants.{Client}
use Rattle.lu_spec_entries.specs.Carried.{Running}
use Rattle.lu_spec_entries.specs.Words.{Line, turn_before}
use Rattle.lu_proof_lawful.specs.Covered.Calls.{call_at}
use Rattle.lu_proof_lawful.specs.Covered.Heads.{Head, IsHead}
use Rattle.lu_proof_lawful.proofs.Preconditions.Guards.{Later, Steps, NotChanging}
use Rattle.lu_proof_lawful.proofs.Preconditions.Grown.{Grown}
use Rattle.lu_proof_lawful.proofs.Preconditions.Heeds.{AllHeed}
use Rattle.lu_proof_lawful.proofs.Preconditions.Lists.{turn_trans, turn_irreflexive}
use Rattle.lu_proof_lawful.proofs.Preconditions.PinsFit.{PinsFit}
use Rattle.lu_proof_lawful.proofs.Preconditions.Speaks.{AllSpeak}
use Rattle.lu_proof_lawful.proofs.Invariants.Groups.{Upto, Reached}
use Rattle.lu_proof_lawful.proofs.Invariants.Times.{upto_trans}
use Rattle.lu_proof_lawful.proofs.Laws.FitsNow.{ShownSoFar, AllShown, shown_there}
use Rattle.lu_proof_lawful.proofs.Laws.GlimpseCuts.{SizeNow, From, Calm, cut_back, has_begun, client_calm, later_calm}
use Rattle.lu_proof_lawful.proofs.Laws.GlimpseStory.{Ready}

pub record Run (head : Head) (past : List Line) : Type 0 where
  pub ranges : IsHead head
  pub grown : Grown head past
  pub pins : PinsFit past
  pub heeds : AllHeed past
  pub speaks : AllSpeak past
  pub shown : ShownSoFar head past

pub before : (head : Head) (l : Line) (past : List Line) → Run head (l ∷ past) → Run head past
before head l past y = record {
  ranges = y.ranges;
  grown = y.grown.1;
  pins = y.pins.1;
  heeds = y.heeds.1;
  speaks = y.speaks.1;
  shown =
      y.shown.1;
}

-- where all closes have shown all, and no change is under way
pub ready : (head : Head) (past : List Line) → Run head past → AllShown head past → NotChanging past → Ready head past
ready head past y shown still = record {
  ranges = y.ranges;
  grown = y.grown;
  pins = y.pins;
  heeds = y.heeds;
  speaks = y.speaks;
  shown =
      shown;
  still = still;
}

-- so it is before each line of a client
pub client_ready : (head : Head) (l : Line) (past : List Line) (c : ℕ) → Run head (l ∷ past) → l.at.node ≡ Client c → NotChanging past
    → Ready head past
client_ready head l past c y own still = ready head past (before head l past y) (shown_there head l past c y.grown y.shown own) still

-- ---- turns

-- what a turn to come hasn't reached isn't at or after it
pub not_yet : (past : List Line) (at a : At) → Later past at → Reached past a → Upto at a → ⊥
not_yet [] at a later reached up = reached
not_yet (l ∷ past) at a later reached up = by (upto_trans at a l.at up reached)
  where
    by : Upto at l.at → ⊥
    by (inl e) = turn_irreflexive at (subst (λ (v : At). turn_before v at ≡ true) (sym e) later)
    by (inr lt) = turn_irreflexive at (turn_trans at l.at at lt later)

later_than : (past : List Line) (at next : At) → Steps past at → turn_before at next ≡ true → Later past next
later_than [] at next steps lt = tt
later_than (l ∷ past) at next (inl e) lt = subst (λ (v : At). turn_before v next ≡ true) (sym e) lt
later_than (l ∷ past) at next (inr b) lt = turn_trans l.at at next b lt

-- what it measures before a line of a target that has only just taken what it answers
pub calm_from : (head : Head) (past : List Line) (at : At) (c slot : ℕ) (r : Running) (f : Fid) (i n : ℕ) → Grown head past → Steps past at
    → Calm at past → call_at c slot past ≡ Some r → SizeNow head.osts past f i n → From head.osts past at c slot f i n
calm_from head past at c slot r f i n g steps own is now next up =
    cut_back head.osts c slot f i n past next now (has_begun head past g c slot r is) (calm up)
  where
    calm : Upto at next → Calm next past
    calm (inl e) = subst (λ (v : At). Calm v past) e own
    calm (inr lt) = later_calm head past next g (later_than past at next steps lt)

-- and before a line of a client
pub client_from : (head : Head) (past : List Line) (at : At) (d c slot : ℕ) (r : Running) (f : Fid) (i n : ℕ) → Grown head past
    → Steps past at → at.node ≡ Client d → call_at c slot past ≡ Some r → SizeNow head.osts past f i n → From head.osts past at c slot f i n
client_from head past at d c slot r f i n g steps own is now = calm_from head past at c slot r f i n g steps
    (client_calm head past at d g own) is now
