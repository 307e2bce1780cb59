-- What a client asks of one target, after a past in which nothing is about another. What is asked is a life's: a line counts for the
-- life that its client is in, and a life that is over stays as it was.
use Rattle.std.specs.Prelude.{ℕ, ◌+◌, ◌-◌, Bool, false, List, [], ◌∷◌, ◌&&◌, ◌==◌, if◌then◌else◌}
use Rattle.lu_base.specs.declared.ids.Node.{Node}
use Rattle.lu_base.specs.declared.ids.Node.TheVariants.{Client, Target}
use Rattle.lu_base.specs.declared.ids.Who.{Who}
use Rattle.lu_msg.specs.declared.answers.Answer.{Answer}
use Rattle.lu_msg.specs.declared.answers.Answer.TheVariants as told
use Rattle.lu_msg.specs.declared.operations.Op.{Op}
use Rattle.lu_msg.specs.declared.operations.Op.TheVariants as op
use Rattle.lu_spec_entries.specs.Carried.{Queued, Flight}
use Rattle.lu_spec_entries.specs.Words.{Heard, Hold, Life, Queues, Flies, Knows, Serves, Settles, Line, is_client, same_life}
use Rattle.lu_proof_lawful.specs.Covered.Calls.{first_life}
use Rattle.lu_proof_lawful.specs.Covered.Imports.{Kept, nothing_kept, kept_after, Standing, Joining, Serving, interrupted, queue_after}
use Rattle.lu_proof_lawful.specs.Covered.Imports.{flights_after}

-- ---- a client's

abbrev pub life_of : ℕ → List Line → Who
life_of c [] = first_life c
life_of c (l ∷ past) = elim l.entry [ Life who ↦ if is_client c l.at.node then who else life_of c past | _ ↦ life_of c past ]

-- the boot of the target that it knows, whatever its life
abbrev pub known_of : ℕ → List Line → ℕ
known_of c [] = 1
known_of c (l ∷ past) = elim l.entry [ Knows t boot ↦ if is_client c l.at.node then boot else known_of c past | _ ↦ known_of c past ]

-- how its present life stands there
abbrev pub standing_of : ℕ → List Line → Standing
standing_of c [] = Serving
standing_of c (l ∷ past) =
    elim l.entry [
      | Knows t boot ↦ if is_client c l.at.node then interrupted (standing_of c past) else standing_of c past
      | Serves t boot ↦ if is_client c l.at.node then Serving else standing_of c past
      | Life who ↦ if is_client c l.at.node then Joining else standing_of c past
      | _ ↦ standing_of c past
    ]

-- ---- a life's

-- a line of that node, after the past, is of that life
abbrev pub is_own : Who → List Line → Node → Bool
is_own who past (Client c) = same_life who (life_of c past)
is_own who past (Target t) = false

abbrev pub queue_of : Who → List Line → List Queued
queue_of who [] = []
queue_of who (l ∷ past) =
    elim l.entry [
      | Queues t q ↦ if is_own who past l.at.node then queue_after (queue_of who past) (Queues t q) else queue_of who past
      | Flies t f ↦ if is_own who past l.at.node then queue_after (queue_of who past) (Flies t f) else queue_of who past
      | _ ↦ queue_of who past
    ]

abbrev pub flights_of : Who → List Line → List Flight
flights_of who [] = []
flights_of who (l ∷ past) =
    elim l.entry [
      | Flies t f ↦ if is_own who past l.at.node then flights_after (flights_of who past) (Flies t f) else flights_of who past
      | Heard t f r ↦ if is_own who past l.at.node then flights_after (flights_of who past) (Heard t f r) else flights_of who past
      | _ ↦ flights_of who past
    ]

abbrev pub last_of : Who → List Line → ℕ
last_of who [] = 0
last_of who (l ∷ past) = elim l.entry [ Flies t f ↦ if is_own who past l.at.node then f.xid else last_of who past | _ ↦ last_of who past ]

-- the tag that was given to a request number, 0 where it wasn't given
abbrev pub tag_of : Who → ℕ → List Line → ℕ
tag_of who xid [] = 0
tag_of who xid (l ∷ past) = elim l.entry [
  | Flies t f ↦ if is_own who past l.at.node && f.xid == xid then f.tag else tag_of who xid past
  | _
      ↦ tag_of who xid past
]

-- what it has to tell in a recovery. It begins with what the life before it was told of as committed
abbrev pub kept_of : Who → List Line → Kept
kept_of who [] = nothing_kept
kept_of who (l ∷ past) =
    elim l.entry [
      | Heard t f r ↦ if is_own who past l.at.node then kept_after (kept_of who past) (Heard t f r) else kept_of who past
      | Hold t lock marked size seen ↦ if is_own who past l.at.node then kept_after (kept_of who past) (Hold t lock marked size seen)
          else kept_of who past
      | Settles t to ↦ if is_own who past l.at.node then kept_after (kept_of who past) (Settles t to) else kept_of who past
      | Life new ↦ if is_client who.client l.at.node && same_life who new
          then record nothing_kept { committed = (kept_of (life_of who.client past) past).committed } else kept_of who past
      | _ ↦ kept_of who past
    ]

-- ---- locks that it waits for

-- a reply by which the lock of that cookie was granted, or told to wait
abbrev pub brings_cookie : Op → Answer → ℕ → Bool
brings_cookie (op.Enqueue resource mode extent) (told.Granted cookie given size) k = cookie.0 == k
brings_cookie (op.Enqueue resource mode extent) (told.Waiting cookie) k = cookie.0 == k
brings_cookie o a k = false

-- how often the lock of that cookie is to come: it was granted, or told to wait; it wasn't held since, and the life heard of no new boot
abbrev pub awaits_of : Who → ℕ → List Line → ℕ
awaits_of who k [] = 0
awaits_of who k (l ∷ past) =
    elim l.entry [
      | Heard t f r ↦ if is_own who past l.at.node && brings_cookie f.op r.answer k then awaits_of who k past + 1 else awaits_of who k past
      | Hold t lock marked size seen ↦ if is_own who past l.at.node && lock.cookie.0 == k then awaits_of who k past - 1
          else awaits_of who k past
      | Knows t boot ↦ if is_own who past l.at.node then 0 else awaits_of who k past
      | _ ↦ awaits_of who k past
    ]
