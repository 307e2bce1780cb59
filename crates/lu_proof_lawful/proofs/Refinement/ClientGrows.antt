-- A client's line adds no entry to a story, or one that the theory allows.
use Rattle.std.proofs.Common.{◌≡◌, ℕ, Bool, true, false, List, ◌∷◌, Option, Some, None, inl, refl, subst}
use Rattle.std.specs.Prelude.{option_map, if◌then◌else◌}
use Rattle.std.specs.Option.{unwrap_or}
use Rattle.lu_base.specs.declared.ids.Node.TheVariants.{Client, Target}
use Rattle.lu_base.specs.declared.ids.Stamp.{Stamp}
use Rattle.lu_base.specs.declared.locks.Lock.{Lock as TableLock}
use Rattle.lu_base.specs.declared.locks.Resource.{Resource}
use Rattle.lu_held.specs.Locks.{same_resource}
use Rattle.lu_msg.specs.declared.messages.Message.{Message as TableMessage}
use Rattle.lu_msg.specs.declared.messages.Reply.{Reply as ReplyTo}
use Rattle.lu_spec_entries.specs.declared.changes.Flush.{Flush}
use Rattle.lu_spec_entries.specs.Carried.{Flight}
use Rattle.lu_spec_entries.specs.Words as word
use Rattle.lu_spec_entries.specs.Words.{Line, line}
use Rattle.lu_spec_client.specs.Calls.{life_at}
use Rattle.lu_proof_lawful.specs.Covered.Heads.{Head}
use Rattle.lu_proof_lawful.proofs.Preconditions.Lists.{turn}
use Rattle.lu_proof_lawful.proofs.Preconditions.QueueLists.{resource_of}
use Rattle.lu_proof_bytes.specs.Object.Words as words
use Rattle.lu_proof_bytes.specs.Object.Words.{Entry, Takes, Flies, Heard, Hold, Drop, Forgets, Send}
use Rattle.lu_proof_bytes.specs.Object.Guards.{Allowed}
use Rattle.lu_proof_objects.specs.Points.{change_of}
use Rattle.lu_proof_lawful.specs.Projection.Lives.{number_of, is_live}
use Rattle.lu_proof_lawful.specs.Projection.Locks.{lock_of, held, lock_over}
use Rattle.lu_proof_lawful.specs.Projection.Requests.{op_of, among, answer_of}
use Rattle.lu_proof_lawful.specs.Projection.Calls.{did, takes}
use Rattle.lu_proof_lawful.specs.Projection.Messages.{request_as, by_client}
use Rattle.lu_proof_lawful.specs.Projection.Stories.{of_life, if_on, flies, hears, story}
use Rattle.lu_proof_lawful.proofs.Projection.Lookups.{did_ok}
use Rattle.lu_proof_lawful.proofs.Refinement.Tied.{Here, Grows}
use Rattle.lu_proof_lawful.proofs.Refinement.MayBase.{life_grows, at_grows, mapped}
use Rattle.lu_proof_lawful.proofs.Refinement.MayFly.{may_fly}
use Rattle.lu_proof_lawful.proofs.Refinement.MayHear.{may_hear}
use Rattle.lu_proof_lawful.proofs.Refinement.MayHold.{may_hold}
use Rattle.lu_proof_lawful.proofs.Refinement.MayDrop.{may_drop}
use Rattle.lu_proof_lawful.proofs.Refinement.MayTake.{may_take}
use Rattle.lu_proof_lawful.proofs.Refinement.MaySend.{may_send}

on_it : (r q : Resource) (y x : Entry) → if_on r q y ≡ Some x → (q ≡ r) × (y ≡ x)
on_it r q y x e = by (same_resource q r) refl e
  where
    by : (b : Bool) → same_resource q r ≡ b → ◌≡◌ {A = Option Entry} (if b then Some y else None) (Some x) → (q ≡ r) × (y ≡ x)
    by true s f = (resource_of q r s, cc)
    by false s f = absurd (cc)

module _ (head : Head) (t : ℕ) (r : Resource) (stamp : Stamp) (c : ℕ) (past : List Line) where
  abbrev h : List Entry
  h = story t r past

  abbrev w : ℕ
  w = number_of (life_at c past)

  abbrev Now : word.Entry → Type 0
  Now e = Here head t r (line (turn stamp (Client c)) e) past

  abbrev Live : Type 0
  Live = is_live c past (story t r past) ≡ true

  sent : (u : ℕ) (m : TableMessage) → Now (word.Send (Target u) m) → u ≡ t → Live → (x : Entry) → option_map Send (by_client r h m) ≡ Some x
      → Allowed h x
  sent u m here same live x e = may_send head t r stamp c past m (subst (λ (v : ℕ). Now (word.Send (Target v) m)) same here) live x e

  flown : (u : ℕ) (f : Flight) → Now (word.Flies u f) → u ≡ t → Live → (x : Entry) → flies r f h w ≡ Some x → Allowed h x
  flown u f here same live x e =
      let s = mapped (λ (o : words.Op). Flies (request_as w f.xid o)) (op_of r h f.op) x e in
      subst (Allowed h) s.2 (may_fly head t r stamp c past f (subst (λ (v : ℕ). Now (word.Flies v f)) same here) live s.0 s.1)

  heard : (u : ℕ) (f : Flight) (p : ReplyTo) → Now (word.Heard u f p) → u ≡ t → Live → (x : Entry) → hears r f p h w ≡ Some x → Allowed h x
  heard u f p here same live x e =
      let s = mapped (λ (o : words.Op). Heard (request_as w f.xid o) (answer_of (request_as w f.xid o) p)) (op_of r h f.op) x e in
      subst (Allowed h) s.2 (may_hear head t r stamp c past f p (subst (λ (v : ℕ). Now (word.Heard v f p)) same here) live s.0 s.1)

  holds : (u : ℕ) (l : TableLock) (marked : Bool) (size : Option ℕ) (seen : List ℕ) → Now (word.Hold u l marked size seen) → u ≡ t → Live
      → (x : Entry) → if_on r l.resource (Hold (lock_of l) (unwrap_or size 0) (among seen)) ≡ Some x → Allowed h x
  holds u l marked size seen here same live x e =
      let s = on_it r l.resource (Hold (lock_of l) (unwrap_or size 0) (among seen)) x e in
      subst (Allowed h) s.1 (may_hold head t r stamp c past l marked size seen
      (subst (λ (v : ℕ). Now (word.Hold v l marked size seen)) same here) live s.0)

  drops : (u : ℕ) (l : TableLock) → Now (word.Drop u l) → u ≡ t → Live → (x : Entry) → if_on r l.resource (Drop (lock_of l)) ≡ Some x
      → Allowed h x
  drops u l here same live x e =
      let s = on_it r l.resource (Drop (lock_of l)) x e in
      subst (Allowed h) s.1 (may_drop head t r stamp c past l (subst (λ (v : ℕ). Now (word.Drop v l)) same here) live s.0)

  forgets : (x : Entry) → ◌≡◌ {A = Option Entry} (Some (Forgets w)) (Some x) → Allowed h x
  forgets x e = let same : Forgets w ≡ x = cc in subst (Allowed h) same tt

  taken : (change : Flush) → Now (word.WritesBack r change) → Live → (x : Entry) → takes w change h ≡ Some x → Allowed h x
  taken change here live x e =
      let s = mapped (λ (k : ℕ). Takes w k (change_of change)) (lock_over w (change_of change) (held h)) x e in
      subst (Allowed h) s.2 (may_take head t r stamp c past change here live s.0 s.1)

  pub grows_client : (e : word.Entry) → Now e → Grows (story t r past) (story t r (line (turn stamp (Client c)) e ∷ past))
  grows_client (word.Send (Target u) m) here = at_grows t c past h u (λ d. option_map Send (by_client r h m)) (sent u m here)
  grows_client (word.Send (Client d) m) here = inl refl
  grows_client (word.Flies u f) here = at_grows t c past h u (flies r f h) (flown u f here)
  grows_client (word.Heard u f p) here = at_grows t c past h u (hears r f p h) (heard u f p here)
  grows_client (word.Hold u l marked size seen) here = at_grows t c past h u
      (λ d. if_on r l.resource (Hold (lock_of l) (unwrap_or size 0) (among seen))) (holds u l marked size seen here)
  grows_client (word.Drop u l) here = at_grows t c past h u (λ d. if_on r l.resource (Drop (lock_of l))) (drops u l here)
  grows_client (word.Knows u boot) here = at_grows t c past h u (λ d. Some (Forgets d)) (λ same live. forgets)
  grows_client (word.Changes q change) here = by (same_resource q r)
    where
      by : (b : Bool) → Grows h (if b then of_life (Client c) past (λ d. did d change h) h else h)
      by true = life_grows t c past h (λ d. did d change h) (λ live x e. did_ok h w change x e)
      by false = inl refl
  grows_client (word.WritesBack q change) here = by (same_resource q r) refl
    where
      by : (b : Bool) → same_resource q r ≡ b → Grows h (if b then of_life (Client c) past (λ d. takes d change h) h else h)
      by true z = life_grows t c past h (λ d. takes d change h)
          (taken change (subst (λ (y : Resource). Now (word.WritesBack y change)) (resource_of q r z) here))
      by false z = inl refl
  grows_client _ here = inl refl

pub client_grows : (head : Head) (t : ℕ) (r : Resource) (stamp : Stamp) (c : ℕ) (e : word.Entry) (past : List Line)
    → Here head t r (line (turn stamp (Client c)) e) past
    → Grows (story t r past) (story t r (line (turn stamp (Client c)) e ∷ past))
client_grows head t r stamp c e past here = grows_client head t r stamp c past e here
