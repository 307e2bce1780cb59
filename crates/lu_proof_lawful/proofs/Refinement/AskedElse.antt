-- A client's own line that is about another target leaves what it has asked of this one, holds and awaits there as it was.
use Rattle.std.proofs.Common.{◌≡◌, ℕ, Bool, false, List, ◌∷◌, Option, refl, sym, subst, ap, ◌∙◌}
use Rattle.std.specs.Prelude.{if◌then◌else◌}
use Rattle.lu_base.specs.declared.ids.Node.TheVariants.{Client}
use Rattle.lu_base.specs.declared.ids.Stamp.{Stamp}
use Rattle.lu_base.specs.declared.ids.Who.{Who}
use Rattle.lu_base.specs.declared.locks.Resource.{Resource}
use Rattle.lu_spec_entries.specs.declared.changes.Flush.{Flush}
use Rattle.lu_spec_entries.specs.Words as word
use Rattle.lu_spec_entries.specs.Words.{Line, line}
use Rattle.lu_spec_entries.specs.Concerns.{is_about, only}
use Rattle.lu_spec_client.specs.Caches.{patch_at}
use Rattle.lu_spec_client.specs.Calls.{life_at}
use Rattle.lu_spec_client.specs.Patches.{Flying}
use Rattle.lu_proof_lawful.specs.Covered.ClientStates.{flights_of}
use Rattle.lu_proof_lawful.specs.Covered.Heads.{Head}
use Rattle.lu_proof_lawful.proofs.Preconditions.HeedMarks.{owed_of}
use Rattle.lu_proof_lawful.proofs.Preconditions.Lists.{turn}
use Rattle.lu_proof_bytes.specs.Object.Words.{Entry}
use Rattle.lu_proof_bytes.specs.Object.Folds.{WriteBack}
use Rattle.lu_proof_bytes.specs.Object.Folds as says
use Rattle.lu_proof_lawful.specs.Projection.Lives.{number_of}
use Rattle.lu_proof_lawful.specs.Projection.Locks.{given}
use Rattle.lu_proof_lawful.specs.Projection.Stories.{story}
use Rattle.lu_proof_lawful.proofs.Refinement.Tied.{Here}
use Rattle.lu_proof_lawful.proofs.Refinement.TiedStore.{store_owed}
use Rattle.lu_proof_lawful.proofs.Refinement.TiedAsked.{LocksAs, AwaitsAs, TakenAs, backs_of, JustTaken, AskedOf}
use Rattle.lu_proof_lawful.proofs.Refinement.AskedFolds.{stays_same}
use Rattle.lu_proof_lawful.proofs.Refinement.AskedKept.{ShowsNone, flights_kept, stays_locks, locks_kept, awaits_kept, backs_kept}
use Rattle.lu_proof_lawful.proofs.Refinement.AskedOther.{own_life}

module _ (head : Head) (t : ℕ) (r : Resource) (stamp : Stamp) (c : ℕ) (past : List Line) (e : word.Entry)
    (here : Here head t r (line (turn stamp (Client c)) e) past) where
  abbrev l : Line
  l = line (turn stamp (Client c)) e

  abbrev P : List Line
  P = only t past

  abbrev who : Who
  who = life_at c past

  pub only_past : is_about t e ≡ false → only t (l ∷ past) ≡ P
  only_past other = ap (λ (b : Bool). if b then l ∷ P else P) other

  -- where the line adds nothing to the story, and to what is under way of the client's changes
  pub asked_else : is_about t e ≡ false → story t r (l ∷ past) ≡ story t r past → life_at c (l ∷ past) ≡ who → ShowsNone t (owed_of c past)
      → ShowsNone t (owed_of c (l ∷ past))
      → (patch_at r (store_owed c (l ∷ past)).patches).flight ≡ (patch_at r (store_owed c past).patches).flight
      → ((change : Flush) → JustTaken (l ∷ past) c r change → ⊥)
      → AskedOf t r past c who → AskedOf t r (l ∷ past) c (life_at c (l ∷ past))
  asked_else other same life none left patch just a =
      let h = story t r past in
      let k = story t r (l ∷ past) in
      let s = stays_same (number_of who) h k same in
      let q = only_past other in
      subst (λ (v : Who). AskedOf t r (l ∷ past) c v) (sym life) (record {
        flights = flights_kept r h k (number_of who) (flights_of who P) (flights_of who (only t (l ∷ past))) (ap (flights_of who) q)
            (λ j m g. ap (given j) same ∙ g) s.flight a.flights;
        locks = subst (λ (p : List Line). LocksAs t r k c who p (owed_of c (l ∷ past))) (sym q)
            (locks_kept t r h k c who P P (owed_of c past) (owed_of c (l ∷ past)) (stays_locks (number_of who) h k s) (λ x i. (x, i, refl))
            (λ x i. (x, i, refl)) (own_life head t l past here.stood c) none left (λ d m gave on gone. (gave, gone)) a.locks);
        awaits = subst (λ (p : List Line). AwaitsAs r k who p) (sym q)
            (awaits_kept r h k who P P s.awaits (λ j. refl) (λ d i. i) (λ j low b. b) a.awaits);
        taken = subst (λ (f : Option Flying). TakenAs (says.taken (number_of who) k) f) (sym patch)
            (subst (λ (x : Option WriteBack). TakenAs x (patch_at r (store_owed c past).patches).flight) (sym s.taken) a.taken);
        backs = backs_kept r h k (number_of who) (backs_of r who P) (backs_of r who (only t (l ∷ past))) (JustTaken past c r)
            (JustTaken (l ∷ past) c r) (ap (backs_of r who) q) s.taken just a.backs;
      })
