-- Which requests there are in a run that changes no bytes: each has a tag below the number of requests that may be in flight, and asks the
-- metadata target for the operation of a call that began, or another target how long an object is, or for a lock on a range in order; and
-- two to
-- one target, of one life and number, have one tag.
use Rattle.std.proofs.Common.{◌≡◌, true, false, Bool, ℕ, zero, suc, ◌+◌, ◌<◌, ◌≤◌, List, [], ◌∷◌, length, map, ◌⊎◌, inl, inr, ⊎_elim, refl}
use Rattle.std.proofs.Common.{sym, subst, ap, ◌∙◌, arith}
use Rattle.std.specs.Prelude.{if◌then◌else◌, ◌||◌, nat_eq}
use Rattle.std.proofs.lemmas.Bool.{cases_lt, and_parts, eqb-true}
use Rattle.std.proofs.lemmas.List.{length-map}
use Rattle.lu_base.specs.declared.ids.Node.{Node}
use Rattle.lu_base.specs.declared.ids.Node.TheVariants.{Client, Target}
use Rattle.lu_base.specs.declared.ids.Who.{Who}
use Rattle.lu_msg.specs.declared.messages.Message.TheVariants as message
use Rattle.lu_msg.specs.declared.messages.Request.{Request as RequestOf}
use Rattle.lu_msg.specs.declared.operations.Op.{Op}
use Rattle.lu_import.specs.declared.requests.InFlight.{InFlight}
use Rattle.lu_import.specs.InFlights.{has_tag as has_tag_in}
use Rattle.lu_import.proofs.Tags.{taken_below}
use Rattle.lu_spec_entries.specs.Carried.{Flight}
use Rattle.lu_spec_entries.specs.Words.{Entry, Flies, Line, line, same_life}
use Rattle.lu_spec_entries.specs.Concerns.{concerns, only}
use Rattle.lu_spec_entries.specs.Sent.{Sent}
use Rattle.lu_proof_lawful.specs.Covered.Imports.{has_tag, free_from, free_tag, above_tags}
use Rattle.lu_proof_lawful.specs.Covered.ClientStates.{flights_of, life_of, is_own}
use Rattle.lu_proof_lawful.specs.Covered.Heads.{Head}
use Rattle.lu_proof_lawful.specs.Covered.TargetStates.{server_of}
use Rattle.lu_spec_target.specs.Locks.{same_request}
use Rattle.lu_proof_scenes.proofs.Guards.{In}
use Rattle.lu_proof_scenes.proofs.StoryGuards.{EntryOf, FliesOk}
use Rattle.lu_proof_scenes.proofs.Grown.{Grown}
use Rattle.lu_proof_scenes.proofs.Groups.{HoldsAt}
use Rattle.lu_proof_lawful.proofs.Invariants.TargetGroups.{Flew, Meant}
use Rattle.lu_proof_scenes.proofs.FactLines.{flew_whole}
use Rattle.lu_proof_scenes.proofs.All.{holds}
use Rattle.lu_proof_scenes.proofs.Only.{sent_was}
use Rattle.lu_proof_scenes.proofs.Arrivals.{came}
use Rattle.lu_proof_scenes.proofs.Asking.{IsOrdered, AllSuit, was_suits}
use Rattle.lu_proof_scenes.proofs.Lists.{self, life_is}
use Rattle.lu_proof_scenes.proofs.Asked.{AskedBy, flew_asked}
use Rattle.lu_proof_scenes.proofs.ClientLines.{IsOnObject, IsAskedOf}
use Rattle.lu_proof_scenes.proofs.BareObjects.{IsBareOp}
use Rattle.lu_proof_scenes.proofs.BareCalls.{BareSoFar}
use Rattle.lu_proof_scenes.proofs.Sides.{flew_kind}

-- ---- the least free tag isn't above the number of requests in flight

abbrev in_flight : Flight → InFlight
in_flight f = record { xid = record { 0 = f.xid }; tag = f.tag; op = f.op; slot = f.slot }

same_tags : (tag : ℕ) (flights : List Flight) → has_tag_in tag (map in_flight flights) ≡ has_tag tag flights
same_tags tag [] = refl
same_tags tag (f ∷ flights) = ap (λ (b : Bool). nat_eq f.tag tag || b) (same_tags tag flights)

below_free : (more : ℕ) (flights : List Flight) (tag lower : ℕ) → tag ≤ lower → lower < free_from more flights tag → has_tag lower flights
    ≡ true
below_free zero flights tag lower least below = absurd (omega arith)
below_free (suc more) flights tag lower least below = by (has_tag tag flights) refl below (below_free more flights (tag + 1) lower)
  where
    by : (taken : Bool) → has_tag tag flights ≡ taken → lower < (if taken then free_from more flights (tag + 1) else tag)
        → (tag + 1 ≤ lower → lower < free_from more flights (tag + 1) → has_tag lower flights ≡ true) → has_tag lower flights ≡ true
    by false e b next = absurd (omega arith)
    by true e b next =
        ⊎_elim
        (λ (less : tag < lower). next (omega arith) b)
        (λ (past : lower ≤ tag). let same : tag ≡ lower = omega arith in subst (λ t. has_tag t flights ≡ true) same e)
        (cases_lt tag lower)

free_within : (flights : List Flight) → free_tag flights ≤ length flights
free_within flights =
    let within = taken_below (free_tag flights) (map in_flight flights)
    (λ lower below. same_tags lower flights ∙ below_free (above_tags flights) flights 0 lower (omega arith) below) in
    let same = length-map flights in_flight in
    omega arith

-- ---- what flew

flies_one : (head : Head) (past : List Line) (c t : ℕ) (f : Flight) → FliesOk head (only t past) c t f → f.tag < head.flight
flies_one head past c t f ok =
    let flights : List Flight = flights_of (life_of c (only t past)) (only t past) in
    let tag : f.tag ≡ free_tag flights = ap (λ (v : Flight). v.tag) ok.is in
    let within = free_within flights in
    let room = ok.room in
    omega arith

flew_one : (head : Head) (past : List Line) → Grown head past → (who : Who) (f : Flight) → Flew past who f → f.tag < head.flight
flew_one head [] g who f i = absurd i
flew_one head (l ∷ past) g who f i = by l.at.node l.entry g.0.of (flew_one head past g.1 who f) i
  where
    by : (node : Node) (e : Entry) → ((t : ℕ) → concerns t node e ≡ true → EntryOf head (only t past) l.at node e)
        → (Flew past who f → f.tag < head.flight) → Flew (line (record { stamp = l.at.stamp; node = node }) e ∷ past) who f
        → f.tag < head.flight
    by (Client d) (Flies t x) of h i = ⊎_elim (λ (p : (is_own who past (Client d) ≡ true) × (x ≡ f)). subst
        (λ (v : Flight). v.tag < head.flight) p.1 (flies_one head past d t x (of t (self t)))) h i
    by (Target t) (Flies u x) of h i = absurd (of t (self t))
    by node e of h i = h i

-- ---- requests

-- a call that began asks the metadata target for this, or another target is asked how long an object is, or for a lock on it
abbrev pub AskedAt : List Line → ℕ → Op → Type 0
AskedAt past t o = ((t ≡ 0) × AskedBy past o) ⊎ ((0 < t) × IsOnObject o × IsBareOp o × IsOrdered o)

-- a request to a target: its tag is small, and its operation is asked there
pub record Fitting (head : Head) (past : List Line) (t : ℕ) (r : RequestOf) : Type 0 where
  pub tag : r.tag < head.flight
  pub asked : AskedAt past t r.op

module _ (MayAsk : Type 0) (osts : ℕ) (head : Head) (past : List Line) (g : Grown head past) (bare : BareSoFar head past)
    (suits : AllSuit MayAsk osts head.clients past) (t : ℕ) where
  h : HoldsAt head (only t past)
  h = (holds head past g).at t

  -- the request that flew
  meant_by : (n : ℕ) (from : Node) (r : RequestOf) → Sent past n from (Target t) (message.Request r)
      → Meant head.osts (only t past) (Target t) (message.Request r)
  meant_by n from r s = h.done.sent from (Target t) (message.Request r)
      (came head past t from (message.Request r) g (sent_was past n from (Target t) (message.Request r) s))

  pub request_fits : (n : ℕ) (from : Node) (r : RequestOf) → Sent past n from (Target t) (message.Request r) → Fitting head past t r
  request_fits n from r s =
      let m = meant_by n from r s in
      record {
        tag = subst (λ v. v < head.flight) (ap (λ (v : RequestOf). v.tag) (sym m.2))
            (flew_one head past g r.who m.0 (flew_whole t past r.who m.0 m.1));
        asked = by (flew_kind head past t r.who m.0 g m.1) (was_suits MayAsk osts head.clients past from (Target t) (message.Request r)
            suits (sent_was past n from (Target t) (message.Request r) s)).0.1;
      }
    where
      f : Flight
      f = (meant_by n from r s).0

      same : f.op ≡ r.op
      same = ap (λ (v : RequestOf). v.op) (sym (meant_by n from r s).2)

      by : IsAskedOf t f.op → IsOrdered r.op → AskedAt past t r.op
      by (inl k) ordered = inl (
        k.0,
        subst (AskedBy past) same (flew_asked head past r.who f g
            (subst (λ (u : ℕ). Flew (only u past) r.who f) k.0 (meant_by n from r s).1)),
      )
      by (inr k) ordered = inr (
        k.0,
        subst IsOnObject same k.1,
        subst IsBareOp same (bare.flew t r.who f (meant_by n from r s).1).0,
        ordered,
      )

  -- a request that waits has the tag of each that was sent of its life and number
  pub same_tag : (n : ℕ) (from : Node) (q r : RequestOf) → In q (server_of head.osts (only t past)).waiting
      → Sent past n from (Target t) (message.Request r) → same_request q r ≡ true → q.tag ≡ r.tag
  same_tag n from q r waits s e =
      let p = and_parts (same_life q.who r.who) (nat_eq q.xid.0 r.xid.0) e in
      let who : q.who ≡ r.who = life_is q.who r.who p.0 in
      let xid : q.xid.0 ≡ r.xid.0 = eqb-true q.xid.0 r.xid.0 p.1 in
      let old = (h.done.waits q waits).asks in
      let new = meant_by n from r s in
      let xids : old.0.xid ≡ new.0.xid = ap (λ (v : RequestOf). v.xid.0) (sym old.2) ∙ xid ∙ ap (λ (v : RequestOf). v.xid.0) new.2 in
      let flew = subst (λ (w : Who). Flew (only t past) w old.0) who old.1 in
      let one = h.numbers.one r.who old.0 new.0 flew new.1 xids in
      ap (λ (v : RequestOf). v.tag) old.2 ∙ ap (λ (f : Flight). f.tag) one ∙ ap (λ (v : RequestOf). v.tag) (sym new.2)
