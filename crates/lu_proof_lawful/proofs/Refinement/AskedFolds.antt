-- Which lines and entries leave what is said of a life: of what it has asked, holds and awaits, in the table and in the story.
use Rattle.std.proofs.Common.{◌≡◌, ℕ, Bool, true, false, List, ◌∷◌, ◌⊎◌, inl, inr, ⊎_elim, refl, sym, subst, ap, ◌∙◌}
use Rattle.std.specs.Prelude.{nat_eq}
use Rattle.std.proofs.lemmas.Bool.{cond-false, cond_both, eqb-false}
use Rattle.lu_base.specs.declared.ids.At.{At}
use Rattle.lu_base.specs.declared.ids.Who.{Who}
use Rattle.lu_spec_entries.specs.Words as word
use Rattle.lu_spec_entries.specs.Words.{Line, line}
use Rattle.lu_spec_entries.specs.Concerns.{concerns, only}
use Rattle.lu_proof_lawful.specs.Covered.Imports.{reads_queue, reads_flights, reads_last}
use Rattle.lu_proof_lawful.specs.Covered.ClientStates.{is_own, queue_of, flights_of, last_of, awaits_of}
use Rattle.lu_proof_bytes.specs.Object.Words.{Lock, Entry, Takes, Flies, Heard, Hold, Drop, Forgets}
use Rattle.lu_proof_bytes.specs.Object.Folds.{HeldBy, WasDropped}
use Rattle.lu_proof_bytes.specs.Object.Folds as says
use Rattle.lu_proof_bytes.specs.Object.Guards.{Allowed}
use Rattle.lu_proof_bytes.proofs.Object.Numbers.{Numbers}
use Rattle.lu_proof_bytes.proofs.Object.Locks.{Lockings}

-- ---- the table's side

-- a field of one target is as it was, where it is so if the line concerns the target
pub only_stays : {A : Type 0} (f : List Line → A) (t : ℕ) (l : Line) (past : List Line)
    → (concerns t l.at.node l.entry ≡ true → f (l ∷ only t past) ≡ f (only t past)) → f (only t (l ∷ past)) ≡ f (only t past)
only_stays f t l past same = cond_both (concerns t l.at.node l.entry) (l ∷ only t past) (only t past) (λ p. f p ≡ f (only t past)) same
    (λ n. refl)

module _ (who : Who) (past : List Line) (at : At) where
  -- the line isn't of that life, or the field doesn't read its entry
  abbrev Leaves : Bool → Type 0
  Leaves reads = (is_own who past at.node ≡ false) ⊎ (reads ≡ false)

  pub queue_stays : (e : word.Entry) → Leaves (reads_queue e) → queue_of who (line at e ∷ past) ≡ queue_of who past
  queue_stays (word.Queues t q) (inl o) = cond-false _ _ _ o
  queue_stays (word.Queues t q) (inr n) = absurd (cc)
  queue_stays (word.Flies t f) (inl o) = cond-false _ _ _ o
  queue_stays (word.Flies t f) (inr n) = absurd (cc)
  queue_stays _ o = refl

  pub flights_stay : (e : word.Entry) → Leaves (reads_flights e) → flights_of who (line at e ∷ past) ≡ flights_of who past
  flights_stay (word.Flies t f) (inl o) = cond-false _ _ _ o
  flights_stay (word.Flies t f) (inr n) = absurd (cc)
  flights_stay (word.Heard t f r) (inl o) = cond-false _ _ _ o
  flights_stay (word.Heard t f r) (inr n) = absurd (cc)
  flights_stay _ o = refl

  pub last_stays : (e : word.Entry) → Leaves (reads_last e) → last_of who (line at e ∷ past) ≡ last_of who past
  last_stays (word.Flies t f) (inl o) = cond-false _ _ _ o
  last_stays (word.Flies t f) (inr n) = absurd (cc)
  last_stays _ o = refl

  -- of locks that come: which entries say of one
  abbrev pub reads_awaits : word.Entry → Bool
  reads_awaits (word.Heard t f r) = true
  reads_awaits (word.Hold t lock marked size seen) = true
  reads_awaits (word.Knows t boot) = true
  reads_awaits _ = false

  pub awaits_stays : (k : ℕ) (e : word.Entry) → Leaves (reads_awaits e) → awaits_of who k (line at e ∷ past) ≡ awaits_of who k past
  awaits_stays k (word.Heard t f r) (inl o) = rw o refl
  awaits_stays k (word.Heard t f r) (inr n) = absurd (cc)
  awaits_stays k (word.Hold t lock marked size seen) (inl o) = rw o refl
  awaits_stays k (word.Hold t lock marked size seen) (inr n) = absurd (cc)
  awaits_stays k (word.Knows t boot) (inl o) = rw o refl
  awaits_stays k (word.Knows t boot) (inr n) = absurd (cc)
  awaits_stays k _ o = refl

-- ---- the story's side

-- the entry is none of that life, or nothing that it asks, holds, awaits or takes
abbrev pub Elsewhere : ℕ → Entry → Type 0
Elsewhere w (Takes d k ch) = nat_eq w d ≡ false
Elsewhere w (Flies q) = nat_eq w q.life ≡ false
Elsewhere w (Heard q a) = nat_eq w q.life ≡ false
Elsewhere w (Hold l s seen) = nat_eq w l.life ≡ false
Elsewhere w (Drop l) = nat_eq w l.life ≡ false
Elsewhere w (Forgets d) = nat_eq w d ≡ false
Elsewhere w _ = Unit {0}

-- of that life the newer story says what the older one does
pub record StaysFor (w : ℕ) (h k : List Entry) : Type 0 where
  pub asked : says.asked w k ≡ says.asked w h
  pub flight : says.flight w k ≡ says.flight w h
  pub awaits : (j : ℕ) → says.awaits w j k ≡ says.awaits w j h
  pub taken : says.taken w k ≡ says.taken w h
  pub back : (m : Lock) → HeldBy k m → m.life ≡ w → HeldBy h m
  pub kept : (m : Lock) → HeldBy h m → m.life ≡ w → HeldBy k m
  pub dropped : (m : Lock) → WasDropped h m → WasDropped k m

pub stays_same : (w : ℕ) (h k : List Entry) → k ≡ h → StaysFor w h k
stays_same w h k e = subst (λ (x : List Entry). StaysFor w h x) (sym e) (record {
  asked = refl;
  flight = refl;
  awaits = λ j. refl;
  taken = refl;
  back = λ m i v. i;
  kept = λ m i v. i;
  dropped = λ m d. d;
})

pub apart_life : (w : ℕ) (l m : Lock) → nat_eq w l.life ≡ false → m.life ≡ w → l ≡ m → ⊥
apart_life w l m o v e = eqb-false w l.life o (sym v ∙ sym (ap (λ (y : Lock). y.life) e))

pub stays_entry : (w : ℕ) (h : List Entry) (x : Entry) → Numbers h → Lockings h → Allowed h x → Elsewhere w x → StaysFor w h (x ∷ h)
stays_entry w h (Takes d k ch) nu lk ok o = record {
  asked = refl;
  flight = refl;
  awaits = λ j. refl;
  taken = rw o refl;
  back = λ m i v. i;
  kept = λ m i v. i;
  dropped = λ m d. d;
}
stays_entry w h (Flies q) nu lk ok o = record {
  asked = rw o refl;
  flight = rw o refl;
  awaits = λ j. refl;
  taken = refl;
  back = λ m i v. i;
  kept = λ m i v. i;
  dropped = λ m d. d;
}
stays_entry w h (Heard q a) nu lk ok o = record {
  asked = refl;
  flight = rw o refl;
  awaits = λ j. rw o refl;
  taken = rw o refl;
  back =
      λ m i v. i;
  kept = λ m i v. i;
  dropped = λ m d. d;
}
stays_entry w h (Hold l s seen) nu lk ok o = record {
  asked = refl;
  flight = refl;
  awaits = λ j. rw o refl;
  taken = refl;
  back = λ m i v. ⊎_elim (λ (e : l ≡ m). absurd (apart_life w l m o v e)) (λ (j : HeldBy h m). j) i;
  kept = λ m i v. inr i;
  dropped = λ m d. d;
}
stays_entry w h (Drop l) nu lk ok o = record {
  asked = refl;
  flight = refl;
  awaits = λ j. refl;
  taken = refl;
  back = λ m i v. i.1;
  kept = λ m i v. (λ e. absurd (apart_life w l m o v (lk.unique l m (nu.held l ok.held) (nu.held m i) e)), i);
  dropped = λ m d. inr d;
}
stays_entry w h (Forgets d) nu lk ok o = record {
  asked = refl;
  flight = refl;
  awaits = λ j. rw o refl;
  taken = refl;
  back = λ m i v. i;
  kept = λ m i v. i;
  dropped = λ m d. d;
}
stays_entry w h _ nu lk ok o = record {
  asked = refl;
  flight = refl;
  awaits = λ j. refl;
  taken = refl;
  back = λ m i v. i;
  kept = λ m i v. i;
  dropped = λ m d. d;
}
