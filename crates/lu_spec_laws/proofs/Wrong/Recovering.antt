-- At which lines a trace breaks the law of recovery, and the words in which the traces of `Numbers`, `Windows`,
-- `AfterClose` and `Evictions` are written. They have only the lines that this law looks at.
use Rattle.std.proofs.Common.{◌≡◌, ℕ, Bool, true, false, List, [], ◌∷◌, ◌++◌, refl}
use Rattle.std.specs.Prelude.{codes}
use Rattle.lu_base.specs.declared.ids.Node.TheVariants.{Client, Target}
use Rattle.lu_base.specs.declared.ids.Who.{Who}
use Rattle.lu_base.specs.declared.locks.Cause.{Cause}
use Rattle.lu_base.specs.declared.locks.Cause.TheVariants.{Absent, Gap}
use Rattle.lu_base.specs.declared.locks.Mode.TheVariants.{PR}
use Rattle.lu_base.specs.declared.locks.Policy.TheVariants.{Bits}
use Rattle.lu_msg.specs.declared.answers.Answer.TheVariants as told
use Rattle.lu_msg.specs.declared.messages.Message.{Message}
use Rattle.lu_msg.specs.declared.messages.Message.TheVariants as message
use Rattle.lu_msg.specs.declared.operations.Op.{Op}
use Rattle.lu_msg.specs.declared.operations.Op.TheVariants as op
use Rattle.lu_trace.specs.declared.entries.Entry.{Entry}
use Rattle.lu_trace.specs.declared.entries.Entry.TheVariants as entry
use Rattle.lu_trace.specs.declared.entries.Line.{Line}
use Rattle.lu_spec_laws.specs.Words.Pasts.{Past}
use Rattle.lu_spec_laws.specs.Holds.{HoldsBefore, Holds}
use Rattle.lu_spec_laws.specs.Laws.Recovery.{Recovery}
use Rattle.lu_spec_laws.proofs.Words.{client, target, turn, life, number, fid, txn_of, cookie, object, lock, asks, replays, hands_in}
use Rattle.lu_spec_laws.proofs.Words.{replies, sends, heard, executes}
use Rattle.lu_spec_laws.proofs.Decides.{Decided, says_no}
use Rattle.lu_spec_laws.proofs.Decides.Recovery.{decide_recovery}

-- ---- where a law is broken

module _ {law : Past → Line → List Line → Type 0} (d : (past : Past) (l : Line) (later : List Line) → Decided (law past l later)) where
  abbrev pub broken_before : List Line → Past → List Line
  broken_before later [] = []
  broken_before later (l ∷ past) =
      elim (d past l later).answer [ true ↦ broken_before (l ∷ later) past | false ↦ l ∷ broken_before (l ∷ later) past ]

  -- a trace that breaks it somewhere isn't lawful
  pub refuted : (later : List Line) (past : Past) (l : Line) (ls : List Line) → broken_before later past ≡ l ∷ ls
      → HoldsBefore law later past → ⊥
  refuted later [] l ls is h = absurd (cc)
  refuted later (k ∷ past) l ls is h = by (d past k later).answer refl is (λ same. refuted (k ∷ later) past l ls same h.1)
    where
      by : (yes : Bool) → (d past k later).answer ≡ yes → (elim yes
          [ true ↦ broken_before (k ∷ later) past | false ↦ k ∷ broken_before (k ∷ later) past ]) ≡ l ∷ ls
          → (broken_before (k ∷ later) past ≡ l ∷ ls → ⊥) → ⊥
      by true e is earlier = earlier is
      by false e is earlier = says_no (d past k later) e h.0

-- the lines at which the trace breaks the law of recovery, the last one first
abbrev pub broken : Past → List Line
broken whole = broken_before (decide_recovery 2 whole) [] whole

abbrev pub BreaksAt : Past → List Line → Type 0
BreaksAt whole ls = broken whole ≡ ls

abbrev pub Keeps : Past → Type 0
Keeps whole = BreaksAt whole []

pub breaks : (whole : Past) (l : Line) (ls : List Line) → BreaksAt whole (l ∷ ls) → Holds (Recovery 2 whole) whole → ⊥
breaks whole l ls is h = refuted (decide_recovery 2 whole) [] whole l ls is h

-- ---- lines in their order

-- after a past, so many lines of one turn of a target
abbrev pub turn_of : ℕ → ℕ → List Entry → Past → Past
turn_of t stamp [] past = past
turn_of t stamp (e ∷ es) past = turn_of t stamp es (target stamp t e ∷ past)

abbrev pub client_turn : ℕ → ℕ → List Entry → Past → Past
client_turn c stamp [] past = past
client_turn c stamp (e ∷ es) past = client_turn c stamp es (client stamp c e ∷ past)

-- ---- what the traces below begin with

abbrev pub mkdir : ℕ → ℕ → Message
mkdir c name = asks (life c 1) 1 1 0 (op.Mkdir ((name ∷ []) ∷ []))

-- the metadata target's reply to the first request of a client, with the number of its transaction
abbrev pub first_reply : ℕ → ℕ → ℕ → List ℕ → Message
first_reply c count stamp seen =
    replies (life c 1) 1 1 (txn_of 1 count) (txn_of 0 0) seen (turn stamp (Target 0)) [] (told.Made (fid 1 count))

abbrev pub makes : ℕ → ℕ → Entry
makes c count = executes (txn_of 1 count) (life c 1) 1 [] (told.Made (fid 1 count))

-- c0 made /a, but heard of it from nobody; c1 looked it up; c2 made /b and c3 made /c
abbrev pub served : Past
served =
    client_turn 3 11 (entry.Take 7 ∷ heard 0 1 ∷ [])
    (turn_of 0 10 (makes 3 3 ∷ sends 7 (Client 3) (first_reply 3 3 10 []) ∷ [])
    (client_turn 3 9 (sends 6 (Target 0) (mkdir 3 99) ∷ [])
    (client_turn 2 8 (entry.Take 5 ∷ heard 0 1 ∷ [])
    (turn_of 0 7 (makes 2 2 ∷ sends 5 (Client 2) (first_reply 2 2 7 []) ∷ [])
    (client_turn 2 6 (sends 4 (Target 0) (mkdir 2 98) ∷ [])
    (client_turn 1 5 (entry.Take 3 ∷ heard 0 1 ∷ [])
    (turn_of 0 4 (sends 3 (Client 1) (replies (life 1 1) 1 1 (txn_of 0 0) (txn_of 0 0) (number 1 1 ∷ []) (turn 4 (Target 0)) []
    (told.Dir (fid 1 1))) ∷ [])
    (client_turn 1 3 (sends 2 (Target 0) (asks (life 1 1) 1 1 0 (op.Lookup ((97 ∷ []) ∷ []))) ∷ [])
    (turn_of 0 2 (makes 0 1 ∷ [])
    (client_turn 0 1 (sends 1 (Target 0) (mkdir 0 97) ∷ []) []))))))))))

abbrev pub word : ℕ → ℕ → ℕ → Message
word c replays locks = message.Word (life c 1) 2 replays locks []

abbrev pub replay : ℕ → ℕ → ℕ → Message
replay c count name = replays (life c 1) 2 (txn_of 1 count) 1 0 [] (op.Mkdir ((name ∷ []) ∷ []))

abbrev pub hand_in : ℕ → ℕ → Message
hand_in c count = hands_in (life c 1) 2 (cookie 1 count) (object 1 2 0) PR (Bits 3)

-- each sent what it has: c1 a lock (8) and its word (9); c2 a replay (10), a lock (11) and its word (12); c3 the same (13 to 15)
abbrev pub handed_in : Past → Past
handed_in past =
    client_turn 3 16 (sends 13 (Target 0) (replay 3 3 99) ∷ sends 14 (Target 0) (hand_in 3 3) ∷ sends 15 (Target 0) (word 3 1 1) ∷ [])
    (client_turn 2 15 (sends 10 (Target 0) (replay 2 2 98) ∷ sends 11 (Target 0) (hand_in 2 2) ∷ sends 12 (Target 0) (word 2 1 1) ∷ [])
    (client_turn 1 14 (sends 8 (Target 0) (hand_in 1 1) ∷ sends 9 (Target 0) (word 1 0 1) ∷ []) past))

-- the target booted again
abbrev pub booted : Past
booted = handed_in (turn_of 0 13 (entry.Boot 2 ∷ []) (turn_of 0 12 (entry.Crash ∷ []) served))

abbrev pub back : ℕ → Entry
back c = entry.Back (life c 1)

-- c1 and c2 are back
abbrev pub two_back : Past
two_back =
    turn_of 0 21 (entry.Take 12 ∷ back 2 ∷ [])
    (turn_of 0 20 (entry.Take 11 ∷ [])
    (turn_of 0 19 (entry.Take 10 ∷ [])
    (turn_of 0 18 (entry.Take 9 ∷ back 1 ∷ [])
    (turn_of 0 17 (entry.Take 8 ∷ []) booted))))

-- all but c0 are back
abbrev pub window : Past
window =
    turn_of 0 24 (entry.Take 15 ∷ back 3 ∷ [])
    (turn_of 0 23 (entry.Take 14 ∷ [])
    (turn_of 0 22 (entry.Take 13 ∷ []) two_back))

abbrev pub commit : ℕ → Entry
commit count = entry.Commit (txn_of 1 count)

abbrev pub kept : ℕ → Entry
kept count = entry.Kept (txn_of 1 count)

abbrev pub restored : ℕ → ℕ → Entry
restored c count = entry.Restore (lock (cookie 1 count) (life c 1) (object 1 2 0) PR (Bits 3))

abbrev pub evict : ℕ → Cause → Entry
evict c cause = entry.Evict (life c 1) cause

-- the close of that window by command, with these lines
abbrev pub closing : List Entry → Past
closing es = turn_of 0 30 es window

abbrev pub here : Entry → Line
here e = target 30 0 e

-- a whole one is `closes both_kept both_restored both_evicted`
abbrev pub closes : (kept restored evicted : List Entry) → Past
closes kept restored evicted = closing (entry.Close ∷ commit 3 ∷ kept ++ restored ++ evicted)

abbrev pub both_kept : List Entry
both_kept = kept 2 ∷ kept 3 ∷ []

abbrev pub both_restored : List Entry
both_restored = restored 2 2 ∷ restored 3 3 ∷ []

abbrev pub both_evicted : List Entry
both_evicted = evict 0 Absent ∷ evict 1 Gap ∷ []
