-- The replies of a server of objects are the rows': what they saw, and what they tell.
use Rattle.std.proofs.Common.{◌≡◌, ℕ, ◌/◌, true, List, [], ◌∷◌, ◌++◌, Option, refl, sym, ap, ◌∙◌}
use Rattle.std.proofs.lemmas.List.{append-nil}
use Rattle.lu_base.specs.declared.ids.At.{At}
use Rattle.lu_base.specs.declared.ids.Txn.{Txn}
use Rattle.lu_base.specs.declared.ids.Who.{Who}
use Rattle.lu_base.specs.declared.locks.Extent.{Extent}
use Rattle.lu_base.specs.declared.locks.Lock.{Lock}
use Rattle.lu_base.specs.declared.locks.Resource.{Resource}
use Rattle.lu_lock.specs.Overlap.{extents_meet}
use Rattle.lu_spec_machine.specs.Objects.{Object, object_size, object_touches, page_size, page_extent, content, range}
use Rattle.lu_msg.specs.declared.answers.Answer.TheVariants as told
use Rattle.lu_msg.specs.declared.messages.Post.{Post}
use Rattle.lu_msg.specs.declared.messages.Reply.{Reply}
use Rattle.lu_msg.specs.declared.messages.Request.{Request}
use Rattle.lu_msg.specs.declared.operations.Op.{Op}
use Rattle.lu_msg.specs.declared.operations.Op.TheVariants as op
use Rattle.lu_part.specs.declared.parts.Part.{Part}
use Rattle.lu_service.specs.Acts.{Acts, common}
use Rattle.lu_service.specs.Contents as service
use Rattle.lu_service.specs.Contents.{Contents, asked}
use Rattle.lu_service.specs.Objects.{objects, answer_of}
use Rattle.lu_trace.specs.Turns.{Making, with_line, then_step}
use Rattle.lu_trace.specs.declared.entries.Entry.TheVariants as line
use Rattle.lu_spec_entries.specs.Carried.{Deed}
use Rattle.lu_spec_entries.specs.Given.{step_of, giving}
use Rattle.lu_spec_entries.specs.Words.{Entry, Grant}
use Rattle.lu_spec_target.specs.Glimpses.{answered}
use Rattle.lu_spec_target.specs.Queues.{object, size_of, extent_of}
use Rattle.lu_spec_target.specs.Replies.{none, reply_to, seen_in}
use Rattle.lu_spec_target.specs.States.{Target}
use Rattle.lu_spec_target.specs.Stored.{object_in}
use Rattle.lu_target_refines.specs.Contents.{ShowsObjects}
use Rattle.lu_target_refines.proofs.Objects.{object_is, read_is}
use Rattle.lu_target_server.specs.Objects.{AsksFor, Reads, AsksSize}
use Rattle.lu_target_server.proofs.Composing.{giving_more}
use Rattle.lu_target_server.proofs.Replying.{answered_as}

-- ---- what was touched

touches_content : (acts : Acts) → acts ≡ objects → (s : Contents) (number : Txn) (who : Who) (o : Op) (resource : Resource) (page : ℕ)
    (bytes : List ℕ) (parts : List Part)
    → Reads resource page o → parts ≡ acts.touches s (asked number who o) → parts ≡ object_touches o (told.Content bytes)
touches_content acts is s number who o resource page bytes parts reads e =
    e ∙ ap (λ (x : Acts). x.touches s (asked number who o)) is ∙ ap (λ (x : Op). object_touches x (answer_of s.objects x)) reads.1
    ∙ sym (ap (λ (x : Op). object_touches x (told.Content bytes)) reads.1)

touches_size : (acts : Acts) → acts ≡ objects → (s : Contents) (number : Txn) (who : Who) (o : Op) (size : ℕ) (parts : List Part)
    → AsksSize o → parts ≡ acts.touches s (asked number who o) → parts ≡ object_touches o (told.Size size)
touches_size acts is s number who o size parts sizes e =
    e ∙ ap (λ (x : Acts). x.touches s (asked number who o)) is ∙ ap (λ (x : Op). object_touches x (answer_of s.objects x)) sizes.1
    ∙ sym (ap (λ (x : Op). object_touches x (told.Size size)) sizes.1)

touches_granted : (o : Op) (l : Lock) (extent : Extent) (size : ℕ) (parts : List Part) → AsksFor l.resource o → extent ≡ extent_of l → parts
    ≡ range l.resource extent.first extent.last
    → parts ≡ object_touches o (told.Granted l.cookie (extent_of l) size)
touches_granted o l extent size parts asks same e =
    e ∙ ap (λ (x : Extent). range l.resource x.first x.last) same
    ∙ sym (ap (λ (x : Op). object_touches x (told.Granted l.cookie (extent_of l) size)) asks.2)

-- ---- replies

pub content_reply :
    (acts : Acts) (s : Contents) (v : Target) (r : Request) (resource : Resource) (page : ℕ) (extent part : Extent) (bytes : List ℕ)
    (touched : List Part) (seen : List ℕ) (at from : At) (reply : Reply)
    → acts ≡ objects → ShowsObjects s v.contents → Reads resource page r.op → extents_meet extent (page_extent page) ≡ true
    → ((n : ℕ) (x : Extent) → acts.read s resource n x ≡ acts.read s resource n (common (page_extent n) x))
    → part ≡ common (page_extent page) extent → bytes ≡ acts.read s resource (part.first / page_size) part
    → touched ≡ acts.touches s (asked none r.who r.op) → seen ≡ seen_in touched v.log → at ≡ from → reply
    ≡ reply_to v r none seen at [] (told.Content bytes)
    → reply ≡ (answered v from r (told.Content (content page extent (object v resource)))).reply
content_reply acts s v r resource page extent part bytes touched seen at from reply is shows reads meet within p b t n a e =
    let read : bytes ≡ acts.read s resource ((common (page_extent page) extent).first / page_size) (common (page_extent page) extent) =
    b ∙ ap (λ (x : Extent). acts.read s resource (x.first / page_size) x) p in
    let all : bytes ≡ content page extent (object v resource) = read_is acts is s v shows resource page extent bytes meet within read in
    answered_as v r seen at from (told.Content bytes) (told.Content (content page extent (object v resource))) reply e
    (n ∙ ap (λ (ps : List Part). seen_in ps v.log) (touches_content acts is s none r.who r.op resource page
    (content page extent (object v resource)) touched reads t)) a
    (ap (λ bs. told.Content bs) all)

pub size_reply :
    (acts : Acts) (s : Contents) (v : Target) (r : Request) (size : ℕ) (touched : List Part) (seen : List ℕ) (from : At) (reply : Reply)
    → acts ≡ objects → AsksSize r.op
    → touched ≡ acts.touches s (asked none r.who r.op) → seen ≡ seen_in touched v.log → reply
    ≡ reply_to v r none seen from [] (told.Size size)
    → reply ≡ (answered v from r (told.Size size)).reply
size_reply acts s v r size touched seen from reply is sizes t n e =
    answered_as v r seen from from (told.Size size) (told.Size size) reply e
    (n ∙ ap (λ (ps : List Part). seen_in ps v.log) (touches_size acts is s none r.who r.op size touched sizes t)) refl refl

pub size_told : (s : Contents) (v : Target) (resource : Resource) (size : ℕ) → ShowsObjects s v.contents → size
    ≡ object_size (service.object_in s.objects resource) → size ≡ size_of v resource
size_told s v resource size shows e =
    e ∙ ap (λ (x : Object). object_size x) (object_is s.objects resource)
    ∙ ap (λ (es : List (Resource × Object)). object_size (object_in es resource)) shows

pub granted_reply :
    (s : Contents) (v : Target) (r : Request) (l : Lock) (extent : Extent) (size : ℕ) (touched : List Part) (seen : List ℕ) (at from : At)
    (reply : Reply) → ShowsObjects s v.contents → AsksFor l.resource r.op
    → extent ≡ extent_of l → size ≡ object_size (service.object_in s.objects l.resource) → touched
    ≡ range l.resource extent.first extent.last → seen ≡ seen_in touched v.log → at ≡ from
    → reply ≡ reply_to v r none seen at [] (told.Granted l.cookie extent size)
    → reply ≡ (answered v from r (told.Granted l.cookie (extent_of l) (size_of v l.resource))).reply
granted_reply s v r l extent size touched seen at from reply shows asks same long t n a e =
    let whole : size ≡ size_of v l.resource = size_told s v l.resource size shows long in
    answered_as v r seen at from (told.Granted l.cookie extent size) (told.Granted l.cookie (extent_of l) (size_of v l.resource)) reply e
    (n ∙ ap (λ (ps : List Part). seen_in ps v.log) (touches_granted r.op l extent (size_of v l.resource) touched asks same t)) a
    (ap (λ (x : Extent). told.Granted l.cookie x size) same ∙ ap (λ k. told.Granted l.cookie (extent_of l) k) whole)

-- ---- the line of a grant, and what comes then

pub noted_grant : (before between done : Making) (l : Lock) (asked : Option Deed) (es : List Entry) → between.step
    ≡ with_line before.at before.step (line.Grant l) → between.at ≡ before.at
    → done ≡ giving between es → done ≡ giving before (Grant l asked ∷ es)
noted_grant before between done l asked es added turn sent =
    let step : between.step ≡ then_step before.step (step_of before.at (Grant l asked ∷ [])) =
    added ∙ ap (λ (xs : List Post). record {
      sends = xs;
      entries = before.step.entries ++ record { at = before.at; entry = line.Grant l }
          ∷ [];
    }) (sym (append-nil before.step.sends)) in
    let one : between ≡ giving before (Grant l asked ∷ []) = λ i. record { at = turn i; step = step i } in
    sent ∙ ap (λ (m : Making). giving m es) one ∙ giving_more before (Grant l asked ∷ []) es
