-- What is asked of a target in a grown past, and done: its tag is below the number of requests that may be in flight, its operation is that
-- of a call that began, or one on an object that lies in a file, and two requests of one life and number have one tag.
use Rattle.std.proofs.Common.{◌≡◌, true, false, Bool, ℕ, zero, suc, ◌+◌, ◌*◌, ◌<◌, ◌≤◌, List, [], ◌∷◌, length, map, Option, Some, None}
use Rattle.std.proofs.Common.{inl, inr, ⊎_elim, refl, sym, subst, ap, ◌∙◌, arith}
use Rattle.std.specs.Prelude.{if◌then◌else◌, ◌||◌, nat_eq, ◌^◌, ℤ, pos, negsuc}
use Rattle.std.proofs.lemmas.Bool.{cases_lt, and_parts, eqb-true}
use Rattle.std.proofs.lemmas.List.{length-map}
use Rattle.lu_base.specs.declared.ids.Node.{Node}
use Rattle.lu_base.specs.declared.ids.Node.TheVariants.{Client, Target}
use Rattle.lu_base.specs.declared.ids.Who.{Who}
use Rattle.lu_import.specs.declared.requests.InFlight.{InFlight}
use Rattle.lu_import.specs.InFlights.{has_tag as has_tag_in}
use Rattle.lu_import.proofs.Tags.{taken_below}
use Rattle.lu_msg.specs.declared.calls.Call.{Call}
use Rattle.lu_msg.specs.declared.calls.Call.TheVariants as call
use Rattle.lu_msg.specs.declared.messages.Request.{Request as RequestOf}
use Rattle.lu_msg.specs.declared.operations.Op.{Op}
use Rattle.lu_msg.specs.declared.operations.Op.TheVariants as op
use Rattle.lu_service.specs.declared.services.Kind.TheVariants.{Mdt, Ost}
use Rattle.lu_service.specs.Objects.{alters}
use Rattle.lu_service.specs.Takes.{Takes, Performs, IsCount as Counts}
use Rattle.lu_trace.specs.WellFormed.{IsCount, IsCall}
use Rattle.lu_spec_entries.specs.Carried.{Deed, Flight, HandleFile}
use Rattle.lu_spec_entries.specs.Concerns.{concerns, only}
use Rattle.lu_spec_entries.specs.Words.{Entry, Begin, Flies, Line, line, same_life}
use Rattle.lu_spec_target.specs.Locks.{same_request}
use Rattle.lu_proof_lawful.specs.Coming.{InFile}
use Rattle.lu_proof_lawful.specs.Covered.Calls.{operation_of}
use Rattle.lu_proof_lawful.specs.Covered.ClientStates.{flights_of, life_of, is_own}
use Rattle.lu_proof_lawful.specs.Covered.Heads.{Head}
use Rattle.lu_proof_lawful.specs.Covered.Imports.{has_tag, free_from, free_tag, above_tags}
use Rattle.lu_proof_lawful.specs.Covered.TargetStates.{server_of}
use Rattle.lu_proof_lawful.proofs.Coming.Asked.{flew_in}
use Rattle.lu_proof_lawful.proofs.Invariants.All.{holds}
use Rattle.lu_proof_lawful.proofs.Invariants.Asked.{Began, flew_asked}
use Rattle.lu_proof_lawful.proofs.Invariants.Groups.{HoldsAt}
use Rattle.lu_proof_lawful.proofs.Invariants.Lines.{flew_whole}
use Rattle.lu_proof_lawful.proofs.Invariants.ObjectDeeds.{IsWrite}
use Rattle.lu_proof_lawful.proofs.Invariants.OnNames.{op_is}
use Rattle.lu_proof_lawful.proofs.Invariants.Sides.{flew_kind}
use Rattle.lu_proof_lawful.proofs.Invariants.TargetGroups.{Flew, Acted, IsMade, IsAsking}
use Rattle.lu_proof_lawful.proofs.Preconditions.ClientLines.{IsOnObject, IsAskedOf}
use Rattle.lu_proof_lawful.proofs.Preconditions.ClientStoryGuards.{AsksInOrder}
use Rattle.lu_proof_lawful.proofs.Preconditions.Grown.{Grown}
use Rattle.lu_proof_lawful.proofs.Preconditions.Guards.{EntryOk}
use Rattle.lu_proof_lawful.proofs.Preconditions.Heard.{In}
use Rattle.lu_proof_lawful.proofs.Preconditions.Lists.{self, life_is}
use Rattle.lu_proof_lawful.proofs.Preconditions.StoryGuards.{EntryOf, FliesOk}
use Rattle.lu_proof_lawful.proofs.Refinement.TargetCloses.{IsDoneOrNot, acted_done}
use Rattle.lu_proof_taken.specs.Heeding.{TakesAt, RepeatsAt}

-- ---- the least free tag isn't above the number of requests in flight

abbrev in_flight : Flight → InFlight
in_flight f = record { xid = record { 0 = f.xid }; tag = f.tag; op = f.op; slot = f.slot }

same_tags : (tag : ℕ) (flights : List Flight) → has_tag_in tag (map in_flight flights) ≡ has_tag tag flights
same_tags tag [] = refl
same_tags tag (f ∷ flights) = ap (λ (b : Bool). nat_eq f.tag tag || b) (same_tags tag flights)

below_free : (more : ℕ) (flights : List Flight) (tag lower : ℕ) → tag ≤ lower → lower < free_from more flights tag → has_tag lower flights
    ≡ true
below_free zero flights tag lower least below = absurd (omega arith)
below_free (suc more) flights tag lower least below = by (has_tag tag flights) refl below (below_free more flights (tag + 1) lower)
  where
    by : (taken : Bool) → has_tag tag flights ≡ taken → lower < (if taken then free_from more flights (tag + 1) else tag)
        → (tag + 1 ≤ lower → lower < free_from more flights (tag + 1) → has_tag lower flights ≡ true) → has_tag lower flights ≡ true
    by false e b next = absurd (omega arith)
    by true e b next =
        ⊎_elim
        (λ (less : tag < lower). next (omega arith) b)
        (λ (past : lower ≤ tag). let same : tag ≡ lower = omega arith in subst (λ t. has_tag t flights ≡ true) same e)
        (cases_lt tag lower)

free_within : (flights : List Flight) → free_tag flights ≤ length flights
free_within flights =
    let within = taken_below (free_tag flights) (map in_flight flights)
    (λ lower below. same_tags lower flights ∙ below_free (above_tags flights) flights 0 lower (omega arith) below) in
    let same = length-map flights in_flight in
    omega arith

-- ---- what flew has a small tag

flies_one : (head : Head) (past : List Line) (c t : ℕ) (f : Flight) → FliesOk head (only t past) c t f → f.tag < head.flight
flies_one head past c t f ok =
    let flights : List Flight = flights_of (life_of c (only t past)) (only t past) in
    let tag : f.tag ≡ free_tag flights = ap (λ (v : Flight). v.tag) ok.is in
    let within = free_within flights in
    let room = ok.room in
    omega arith

pub flew_one : (head : Head) (past : List Line) → Grown head past → (who : Who) (f : Flight) → Flew past who f → f.tag < head.flight
flew_one head [] g who f i = absurd i
flew_one head (l ∷ past) g who f i = by l.at.node l.entry g.0.of (flew_one head past g.1 who f) i
  where
    by : (node : Node) (e : Entry) → ((t : ℕ) → concerns t node e ≡ true → EntryOf head (only t past) l.at node e)
        → (Flew past who f → f.tag < head.flight) → Flew (line (record { stamp = l.at.stamp; node = node }) e ∷ past) who f
        → f.tag < head.flight
    by (Client d) (Flies t x) of h i = ⊎_elim (λ (p : (is_own who past (Client d) ≡ true) × (x ≡ f)). subst
        (λ (v : Flight). v.tag < head.flight) p.1 (flies_one head past d t x (of t (self t)))) h i
    by (Target t) (Flies u x) of h i = absurd (of t (self t))
    by node e of h i = h i

-- ---- each call that began keeps the limits of calls

pub begun_limited : (head : Head) (past : List Line) → Grown head past → (k : Call) → Began past k → IsCall k
begun_limited head [] g k b = absurd b
begun_limited head (l ∷ past) g k b = by l.at.node l.entry g.0.ok (begun_limited head past g.1 k) b
  where
    by : (node : Node) (e : Entry) → EntryOk past l.at node e → (Began past k → IsCall k) → Began (line l.at e ∷ past) k → IsCall k
    by (Client c) (Begin slot running) ok more b = ⊎_elim
        (λ (e : running.call ≡ k). subst IsCall e ok.limits) (λ (before : Began past k). more before) b
    by (Target t) (Begin slot running) ok more b = absurd ok
    by node e ok more b = more b

-- ---- operations

count_takes : (count : ℤ) → IsCount count → Counts count
count_takes (pos n) fits = tt
count_takes (negsuc n) fits = fits

-- what a call that keeps the limits becomes is of the metadata target's service
names_take : (file : Option HandleFile) (k : Call) (o : Op) → operation_of file k ≡ Some o → IsCall k → Takes Mdt o
names_take file (call.Create path None) o e fits = absurd fits
names_take file (call.Create path (Some stripes)) o e fits = subst (Takes Mdt) (op_is (op.Create path stripes.0 stripes.1) o e)
    (count_takes stripes.1 fits.1.1)
names_take file (call.Lookup path) o e fits = subst (Takes Mdt) (op_is (op.Lookup path) o e) tt
names_take file (call.Stat path) o e fits = subst (Takes Mdt) (op_is (op.Stat path) o e) tt
names_take file (call.List path) o e fits = subst (Takes Mdt) (op_is (op.List path) o e) tt
names_take file (call.Layout path) o e fits = subst (Takes Mdt) (op_is (op.Layout path) o e) tt
names_take file (call.Mkdir path) o e fits = subst (Takes Mdt) (op_is (op.Mkdir path) o e) tt
names_take file (call.Link old new) o e fits = subst (Takes Mdt) (op_is (op.Link old new) o e) tt
names_take file (call.Unlink path) o e fits = subst (Takes Mdt) (op_is (op.Unlink path) o e) tt
names_take file (call.Rmdir path) o e fits = subst (Takes Mdt) (op_is (op.Rmdir path) o e) tt
names_take file (call.Rename old new) o e fits = subst (Takes Mdt) (op_is (op.Rename old new) o e) tt
names_take file (call.Chmod path mode) o e fits = subst (Takes Mdt) (op_is (op.Chmod path mode) o e) tt
names_take file (call.Open h path) o e fits = subst (Takes Mdt) (op_is (op.Open path) o e) tt
names_take (Some f) (call.Close h) o e fits = subst (Takes Mdt) (op_is (op.Close f.number f.fid) o e) tt
names_take file k o e fits = absurd (cc)

page_ends : (page : ℕ) → page < 2 ^ 28 → (page + 1) * 4096 ≤ 2 ^ 40
page_ends page less = omega (arith, less)

-- one on an object, in order and in a file, is of the others' service
object_takes : (o : Op) → IsOnObject o → AsksInOrder o → InFile o → Takes Ost o
object_takes (op.Size resource) is order fits = tt
object_takes (op.Enqueue resource mode extent) is order fits = order.0
object_takes (op.Get resource cookie page) is order fits = page_ends page fits
object_takes (op.Put resource cookie offset bytes) is order fits = fits
object_takes (op.Cut resource cookie size) is order fits = fits
object_takes o is order fits = absurd is

-- what flew to a target is of its service
pub flew_takes : (head : Head) (past : List Line) → Grown head past → (t : ℕ) (who : Who) (f : Flight) → Flew (only t past) who f
    → TakesAt t f.op
flew_takes head past g t who f flew = by t flew (flew_kind head past t who f g flew)
  where
    by : (u : ℕ) → Flew (only u past) who f → IsAskedOf u f.op → TakesAt u f.op
    by zero i k =
        let asked = flew_asked head past who f g i in
        names_take asked.2 asked.0 f.op asked.3 (begun_limited head past g asked.0 asked.1)
    by (suc u) i (inl k) = absurd (let none = k.0 in omega (arith, none))
    by (suc u) i (inr k) = object_takes f.op k.1 (((holds head past g).at (suc u)).ranges.flew who f i) (flew_in head past g (suc u) who f i)

-- ---- requests

-- a request that waits and one that is asked, of one life and number, have one tag
pub same_tag : (head : Head) (story : List Line) → HoldsAt head story → (q r : RequestOf) → IsAsking story r
    → In q (server_of head.osts story).waiting → same_request q r ≡ true → q.tag ≡ r.tag
same_tag head story h q r new waits e =
    let p = and_parts (same_life q.who r.who) (nat_eq q.xid.0 r.xid.0) e in
    let who : q.who ≡ r.who = life_is q.who r.who p.0 in
    let xid : q.xid.0 ≡ r.xid.0 = eqb-true q.xid.0 r.xid.0 p.1 in
    let old = (h.done.waits q waits).asks in
    let xids : old.0.xid ≡ new.0.xid = ap (λ (v : RequestOf). v.xid.0) (sym old.2) ∙ xid ∙ ap (λ (v : RequestOf). v.xid.0) new.2 in
    let flew = subst (λ (w : Who). Flew story w old.0) who old.1 in
    let one = h.numbers.one r.who old.0 new.0 flew new.1 xids in
    ap (λ (v : RequestOf). v.tag) old.2 ∙ ap (λ (f : Flight). f.tag) one ∙ ap (λ (v : RequestOf). v.tag) (sym new.2)

-- ---- what was done

write_repeats : (o : Op) → IsWrite o → InFile o → Performs Ost o × (alters o ≡ true)
write_repeats (op.Put resource cookie offset bytes) is fits = (fits, refl)
write_repeats (op.Cut resource cookie size) is fits = (fits, refl)
write_repeats o is fits = absurd is

-- what made a transaction at a target may be done again there
pub made_repeats : (head : Head) (past : List Line) → Grown head past → (t : ℕ) (d : Deed) → Acted (only t past) d → IsMade d
    → RepeatsAt t d.op
made_repeats head past g zero d acted made =
    let flew = ((holds head past g).at 0).done.flew d acted in
    subst (TakesAt 0) flew.3 (flew_takes head past g 0 d.reply.who flew.0 flew.1)
made_repeats head past g (suc t) d acted made =
    by (acted_done head past (suc t) d (omega arith) g acted)
  where
    by : IsDoneOrNot d → RepeatsAt (suc t) d.op
    by (inl k) =
        let flew = ((holds head past g).at (suc t)).done.flew d acted in
        write_repeats d.op k.1 (subst InFile flew.3 (flew_in head past g (suc t) d.reply.who flew.0 flew.1))
    by (inr k) = absurd (let none = k.0 in omega (arith, made, none))

-- and its tag is small
pub acted_tag : (head : Head) (past : List Line) → Grown head past → (t : ℕ) (d : Deed) → Acted (only t past) d → d.tag < head.flight
acted_tag head past g t d acted =
    let flew = ((holds head past g).at t).done.flew d acted in
    subst (λ (n : ℕ). n < head.flight) flew.4
    (flew_one head past g d.reply.who flew.0 (flew_whole t past d.reply.who flew.0 flew.1))
