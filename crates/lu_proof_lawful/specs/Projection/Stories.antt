-- The story of one object, a resource at an object storage target, in a past of the table: the past line by line, each of which gives one
-- entry or none. What the theory has no entry for stands in the README.
use Rattle.std.specs.Prelude.{ℕ, ◌==◌, if◌then◌else◌, List, [], ◌∷◌, Option, Some, None, option_map}
use Rattle.std.specs.Option.{unwrap_or}
use Rattle.lu_base.specs.declared.ids.Node.{Node}
use Rattle.lu_base.specs.declared.ids.Node.TheVariants.{Client, Target}
use Rattle.lu_base.specs.declared.locks.Lock.{Lock as TableLock}
use Rattle.lu_base.specs.declared.locks.Resource.{Resource}
use Rattle.lu_held.specs.Locks.{same_resource}
use Rattle.lu_msg.specs.declared.answers.Answer.{Answer as TableAnswer}
use Rattle.lu_msg.specs.declared.answers.Answer.TheVariants as told
use Rattle.lu_msg.specs.declared.messages.Message.{Message as TableMessage}
use Rattle.lu_msg.specs.declared.messages.Reply.{Reply as ReplyTo}
use Rattle.lu_spec_entries.specs.Carried.{Deed, Flight}
use Rattle.lu_spec_entries.specs.Words as word
use Rattle.lu_spec_entries.specs.Words.{Line, is_target}
use Rattle.lu_spec_client.specs.Calls.{life_at}
use Rattle.lu_proof_bytes.specs.Object.Words.{Request, Entry, Flies, Heard, Hold, Drop, Forgets, Grant, Wait, Promote, Acts, Txn, Release}
use Rattle.lu_proof_bytes.specs.Object.Words.{Evict, Commit, Send}
use Rattle.lu_proof_lawful.specs.Projection.Lives.{number_of, is_live}
use Rattle.lu_proof_lawful.specs.Projection.Locks.{lock_of}
use Rattle.lu_proof_lawful.specs.Projection.Requests.{op_of, among, answer_of}
use Rattle.lu_proof_lawful.specs.Projection.Calls.{did, takes}
use Rattle.lu_proof_lawful.specs.Projection.Messages.{request_as, by_client, by_target}
use Rattle.lu_proof_lawful.specs.Projection.Closes.{closes}

-- ---- whose line it is

abbrev pub with_entry : Option Entry → List Entry → List Entry
with_entry None h = h
with_entry (Some e) h = e ∷ h

-- a line of a client counts while its life is live, by the number of that life
abbrev pub of_life : Node → List Line → (ℕ → Option Entry) → List Entry → List Entry
of_life (Target u) past gives h = h
of_life (Client c) past gives h = if is_live c past h then with_entry (gives (number_of (life_at c past))) h else h

abbrev pub of_target : ℕ → Node → Option Entry → List Entry → List Entry
of_target t node e h = if is_target t node then with_entry e h else h

-- a client's line that is about a target
abbrev pub of_life_at : ℕ → ℕ → Node → List Line → (ℕ → Option Entry) → List Entry → List Entry
of_life_at t u node past gives h = if u == t then of_life node past gives h else h

-- an entry about a resource
abbrev pub if_on : {A : Type 0} → Resource → Resource → A → Option A
if_on r q x = if same_resource q r then Some x else None

-- ---- what entries carry

abbrev pub sends : ℕ → Resource → Node → List Line → Node → TableMessage → List Entry → List Entry
sends t r node past (Target u) m h = of_life_at t u node past (λ c. option_map Send (by_client r h m)) h
sends t r node past (Client c) m h = of_target t node (option_map Send (by_target h m)) h

abbrev pub flies : Resource → Flight → List Entry → ℕ → Option Entry
flies r f h c = option_map (λ o. Flies (request_as c f.xid o)) (op_of r h f.op)

abbrev pub hears : Resource → Flight → ReplyTo → List Entry → ℕ → Option Entry
hears r f p h c = option_map (λ o. Heard (request_as c f.xid o) (answer_of (request_as c f.xid o) p)) (op_of r h f.op)

-- the request of a deed, and what the target makes of it
abbrev pub served : Resource → Deed → List Entry → (Request → Entry) → Option Entry
served r d h gives = option_map (λ o. gives (request_as (number_of d.reply.who) d.reply.xid.0 o)) (op_of r h d.op)

abbrev pub acts : Resource → Deed → List Entry → Option Entry
acts r d h = served r d h (λ q. Acts q (answer_of q d.reply))

-- with a granted lock its request's answer tells the object's size
abbrev pub size_in : TableAnswer → ℕ
size_in (told.Granted cookie extent size) = size
size_in _ = 0

abbrev pub grants : Resource → TableLock → Option Deed → List Entry → Option Entry
grants r l None h = if_on r l.resource (Promote (lock_of l))
grants r l (Some d) h = served r d h (λ q. Grant q (lock_of l) (size_in d.reply.answer) (among d.reply.seen))

-- ---- the past

-- a line after that past, whose story so far is `h`: the entry first, then whose it is
abbrev pub step : ℕ → Resource → Node → List Line → word.Entry → List Entry → List Entry
step t r node past (word.Send to m) h = sends t r node past to m h
step t r node past (word.Flies u f) h = of_life_at t u node past (flies r f h) h
step t r node past (word.Heard u f p) h = of_life_at t u node past (hears r f p h) h
step t r node past (word.Hold u l marked size seen) h = of_life_at t u node past
    (λ c. if_on r l.resource (Hold (lock_of l) (unwrap_or size 0) (among seen))) h
step t r node past (word.Drop u l) h = of_life_at t u node past (λ c. if_on r l.resource (Drop (lock_of l))) h
step t r node past (word.Knows u boot) h = of_life_at t u node past (λ c. Some (Forgets c)) h
step t r node past (word.Changes q change) h = if same_resource q r then of_life node past (λ c. did c change h) h else h
step t r node past (word.WritesBack q change) h = if same_resource q r then of_life node past (λ c. takes c change h) h else h
step t r node past (word.Grant l asked) h = of_target t node (grants r l asked h) h
step t r node past (word.Wait l asked) h = of_target t node (served r asked h (λ q. Wait q (lock_of l))) h
step t r node past (word.Act d) h = of_target t node (acts r d h) h
step t r node past (word.Answers d) h = of_target t node (acts r d h) h
step t r node past (word.Txn d) h = of_target t node (served r d h (Txn d.reply.txn.0)) h
step t r node past (word.Release l) h = of_target t node (if_on r l.resource (Release l.cookie.0)) h
step t r node past (word.Commit to batch) h = of_target t node (Some (Commit to)) h
step t r node past (word.Close o) h = of_target t node (Some (closes h o)) h
step t r node past (word.Evict who cause) h = of_target t node (Some (Evict (number_of who))) h
step t r node past _ h = h

-- the newest entry first, as in the past
abbrev pub story : ℕ → Resource → List Line → List Entry
story t r [] = []
story t r (l ∷ past) = step t r l.at.node past l.entry (story t r past)
