-- What was sent and heard, and what the newest lines of a past say: the words of the guards.
use Rattle.std.proofs.Common.{◌≡◌, ℕ, true, List, [], ◌∷◌, ◌⊎◌}
use Rattle.lu_base.specs.declared.ids.At.{At}
use Rattle.lu_base.specs.declared.ids.Cookie.{Cookie}
use Rattle.lu_base.specs.declared.ids.Node.{Node}
use Rattle.lu_base.specs.declared.ids.Node.TheVariants.{Client, Target}
use Rattle.lu_base.specs.declared.ids.Who.{Who}
use Rattle.lu_base.specs.declared.locks.Policy.{Policy}
use Rattle.lu_base.specs.declared.locks.Policy.TheVariants.{Bits, Range}
use Rattle.lu_msg.specs.declared.messages.Message.{Message}
use Rattle.lu_msg.specs.declared.messages.Message.TheVariants as message
use Rattle.lu_msg.specs.declared.messages.Reply.{Reply as ReplyTo}
use Rattle.lu_msg.specs.declared.messages.Request.{Request as RequestOf}
use Rattle.lu_held.specs.declared.names.LockName.{LockName}
use Rattle.lu_held.specs.Locks.{named}
use Rattle.lu_spec_entries.specs.Carried.{Flight}
use Rattle.lu_spec_entries.specs.Words.{Entry, Send, Take, Heard, Hold, Drop, Told, Marks, Learns, Line, turn_before, Life}
use Rattle.lu_proof_lawful.specs.Covered.Calls.{life_at}
use Rattle.lu_proof_lawful.specs.Covered.ClientStates.{is_own, known_of, life_of}

-- a lock on a range of bytes of an object
abbrev pub HasRange : Policy → Type 0
HasRange (Range extent) = Unit {0}
HasRange (Bits bits) = ⊥

abbrev pub In : {A : Type 0} → A → List A → Type 0
In x [] = ⊥
In x (y ∷ ys) = (y ≡ x) ⊎ In x ys

-- ---- what was sent and heard

-- that node sent that message to that node: reads Send
abbrev pub Was : List Line → (from to : Node) → Message → Type 0
Was [] from to m = ⊥
Was (l ∷ past) from to m = elim l.entry [
  | Send node message ↦ ((l.at.node ≡ from) × (node ≡ to) × (message ≡ m)) ⊎ Was past from to m
  | _
      ↦ Was past from to m
]

-- the life heard that reply to that request: reads Heard
abbrev pub HeardAs : List Line → Who → Flight → ReplyTo → Type 0
HeardAs [] who f r = ⊥
HeardAs (l ∷ past) who f r = elim l.entry [
  | Heard t g k ↦ ((is_own who past l.at.node ≡ true) × (g ≡ f) × (k ≡ r)) ⊎ HeardAs past who f r
  | _ ↦ HeardAs past who f r
]

-- in that turn that reply of that target was heard, and nothing was told since: reads Heard and Told
abbrev pub JustHeard : List Line → At → (target : ℕ) → ReplyTo → Type 0
JustHeard [] at t r = ⊥
JustHeard (l ∷ past) at t r =
    elim l.entry [
      | Heard target flight reply ↦ (l.at ≡ at) × (target ≡ t) × (reply ≡ r)
      | Told slot turn answer work ↦ ⊥
      | _ ↦ JustHeard past at t r
    ]

-- the newest line heard that reply to that flight, in this turn; and then nothing but locks that came with it
abbrev pub HeardNow : List Line → At → (target : ℕ) → Flight → ReplyTo → Type 0
HeardNow [] at t f r = ⊥
HeardNow (l ∷ past) at t f r =
    elim l.entry [
      | Heard target flight reply ↦ (l.at ≡ at) × (target ≡ t) × (flight ≡ f) × (reply ≡ r)
      | Hold target lock marked size seen ↦ HeardNow past at t f r
      | _ ↦ ⊥
    ]

-- the same reply, to that flight; and what it told is known since, where locks came with it: reads Heard, Learns and Told. No lock or life
-- was
-- given up since, and none was called back
abbrev pub Learned : List Line → At → (target : ℕ) → Flight → ReplyTo → Type 0
Learned [] at t f r = ⊥
Learned (l ∷ past) at t f r =
    elim l.entry [
      | Heard target flight reply ↦ (l.at ≡ at) × (target ≡ t) × (flight ≡ f) × (reply ≡ r) × (r.locks ≡ [])
      | Learns target op answer locks ↦ (l.at ≡ at) × (op ≡ f.op) × (answer ≡ r.answer) × (locks ≡ r.locks) × HeardNow past at t f r
      | Told slot turn answer work ↦ ⊥
      | Marks name ↦ ⊥
      | Drop target lock ↦ ⊥
      | Life who ↦ ⊥
      | _ ↦ Learned past at t f r
    ]

-- the newest line took that message of that node, in this turn
abbrev pub TookNow : List Line → At → (from : Node) → Message → Type 0
TookNow [] at from m = ⊥
TookNow (l ∷ past) at from m = elim l.entry [ Take n sender message ↦ (l.at ≡ at) × (sender ≡ from) × (message ≡ m) | _ ↦ ⊥ ]

-- the turn took that message of that node: reads Take
abbrev pub Took : List Line → At → (from : Node) → Message → Type 0
Took [] at from m = ⊥
Took (l ∷ past) at from m =
    elim l.entry [ Take n sender message ↦ ((l.at ≡ at) × (sender ≡ from) × (message ≡ m)) ⊎ Took past at from m | _ ↦ Took past at from m ]

-- the turn took the notice of a target that this life was evicted
pub record Noticed (past : List Line) (at : At) (who : Who) : Type 0 where
  pub target : ℕ
  pub boot : ℕ
  pub took : Took past at (Target target) (message.Evicted who boot)

-- the newest line took that request, in this turn
abbrev pub TookRequest : List Line → At → RequestOf → Type 0
TookRequest past at r = (from : Node) × TookNow past at from (message.Request r)

-- in the newest line the client gave up that lock of that target
abbrev pub Dropped : List Line → (c t : ℕ) → Cookie → Type 0
Dropped [] c t cookie = ⊥
Dropped (l ∷ past) c t cookie = elim l.entry [ Drop target lock ↦ (l.at.node ≡ Client c) × (target ≡ t) × (lock.cookie ≡ cookie) | _ ↦ ⊥ ]

-- a request in flight as a message of the client's life, which knows the target's boot
abbrev pub request : ℕ → List Line → Flight → RequestOf
request c past f = record { who = life_of c past; boot = known_of c past; xid = record { 0 = f.xid }; tag = f.tag; op = f.op }

-- the name of one of its locks of a target
abbrev pub name_of : ℕ → Cookie → LockName
name_of t cookie = named (record { 0 = t }) cookie

-- ---- turns

-- a line of that turn is such an entry
abbrev pub InTurn : (Entry → Type 0) → List Line → At → Type 0
InTurn P [] at = ⊥
InTurn P (l ∷ past) at = ((l.at ≡ at) × P l.entry) ⊎ InTurn P past at

-- the newest turn is earlier
abbrev pub Later : List Line → At → Type 0
Later [] at = Unit {0}
Later (l ∷ past) at = turn_before l.at at ≡ true

-- it is this one or an earlier one
abbrev pub Steps : List Line → At → Type 0
Steps [] at = Unit {0}
Steps (l ∷ past) at = (l.at ≡ at) ⊎ (turn_before l.at at ≡ true)

-- ---- a turn that ends a life

-- the newest turn took the notice of the client's life, whose next one hasn't begun yet
abbrev pub Ending : List Line → ℕ → Type 0
Ending [] c = ⊥
Ending (l ∷ past) c = (l.at.node ≡ Client c) × Noticed (l ∷ past) l.at (life_at c (l ∷ past))

-- such a turn isn't over before the next life
abbrev pub Closes : List Line → At → Type 0
Closes [] at = Unit {0}
Closes (l ∷ past) at = (l.at ≡ at) ⊎ ((c : ℕ) → Ending (l ∷ past) c → ⊥)
