-- A target as its rows read it: its parts together, after a past of all targets and after one of its own alone.
use Rattle.std.specs.Prelude.{ℕ, ◌+◌, ◌*◌, Bool, true, List, [], ◌∷◌}
use Rattle.lu_base.specs.declared.ids.Node.TheVariants.{Client, Target}
use Rattle.lu_base.specs.declared.ids.Txn.{Txn as TxnOf}
use Rattle.lu_base.specs.declared.ids.Who.{Who}
use Rattle.lu_msg.specs.declared.messages.Request.{Request as RequestOf}
use Rattle.lu_spec_machine.specs.Tree.{Tree}
use Rattle.lu_spec_machine.specs.Footprint.{empty}
use Rattle.lu_spec_machine.specs.Objects.{Object}
use Rattle.lu_base.specs.declared.locks.Lock.{Lock}
use Rattle.lu_base.specs.declared.locks.Resource.{Resource}
use Rattle.lu_spec_entries.specs.Carried.{Deed, Slot, Called, Glimpse, Said}
use Rattle.lu_spec_entries.specs.Words.{Entry, Act, Txn, Grant, Wait, Answers, Asks, Ends, Commit, Boot, Close, Enters, Block, Release}
use Rattle.lu_spec_entries.specs.Words.{Evict, Line}
use Rattle.lu_spec_entries.specs.Fields.{at_target}
pub use Rattle.lu_spec_target.specs.Replies.{seen_in}
use Rattle.lu_proof_lawful.specs.Covered.TargetParts.{reads_boot, boot_after, reads_count, count_after, reads_committed, committed_after}
use Rattle.lu_proof_lawful.specs.Covered.TargetParts.{reads_tree, tree_after, reads_log, log_after, reads_waiting, waiting_after, no_slot}
use Rattle.lu_proof_lawful.specs.Covered.TargetParts.{reads_slot, slot_after}
use Rattle.lu_proof_lawful.specs.Covered.TargetParts.{reads_lives, lives_after, reads_evicted, evicted_after}
use Rattle.lu_proof_lawful.specs.Covered.TargetParts.{reads_granted, granted_after, shown_after, reads_cookie, cookie_after, reads_called}
use Rattle.lu_proof_lawful.specs.Covered.TargetParts.{called_after}
use Rattle.lu_proof_lawful.specs.Covered.TargetParts.{reads_queued, queued_after, reads_glimpses, glimpses_after, reads_objects}
use Rattle.lu_proof_lawful.specs.Covered.TargetParts.{objects_after}
use Rattle.lu_spec_target.specs.Phase.{first_of}
use Rattle.lu_spec_target.specs.States.{lives_from}
use Rattle.lu_spec_target.specs.Phase.{up_after, closed_after}
use Rattle.lu_spec_target.specs.Kept.{replays_after, brought_after, words_after, wishes_after}
use Rattle.lu_spec_target.specs.Windows.{Replayed, Window}

pub record Server : Type 0 where
  pub boot : ℕ
  pub count : ℕ
  pub committed : TxnOf
  pub tree : Tree
  pub log : List Deed
  pub waiting : List RequestOf
  pub granted : List Lock
  pub cookie : ℕ
  pub called : List Called
  pub objects : List (Resource × Object)
  pub queued : List Lock
  pub glimpses : List Glimpse

abbrev pub none : TxnOf
none = record { 0 = 0 }

-- ---- at a target, after a past

abbrev pub boot_at : ℕ → List Line → ℕ
boot_at t past = at_target reads_boot boot_after 1 t past

abbrev pub count_at : ℕ → List Line → ℕ
count_at t past = at_target reads_count count_after 0 t past

abbrev pub committed_at : ℕ → List Line → TxnOf
committed_at t past = at_target reads_committed committed_after none t past

abbrev pub tree_at : ℕ → ℕ → List Line → Tree
tree_at osts t past = at_target reads_tree (tree_after osts) empty t past

abbrev pub log_at : ℕ → List Line → List Deed
log_at t past = at_target reads_log log_after [] t past

abbrev pub waiting_at : ℕ → List Line → List RequestOf
waiting_at t past = at_target reads_waiting waiting_after [] t past

abbrev pub granted_at : ℕ → List Line → List Lock
granted_at t past = at_target reads_granted granted_after [] t past

abbrev pub cookie_at : ℕ → List Line → ℕ
cookie_at t past = at_target reads_cookie cookie_after (first_of 1) t past

abbrev pub called_at : ℕ → List Line → List Called
called_at t past = at_target reads_called called_after [] t past

abbrev pub objects_at : ℕ → List Line → List (Resource × Object)
objects_at t past = at_target reads_objects objects_after [] t past

abbrev pub queued_at : ℕ → List Line → List Lock
queued_at t past = at_target reads_queued queued_after [] t past

abbrev pub glimpses_at : ℕ → List Line → List Glimpse
glimpses_at t past = at_target reads_glimpses glimpses_after [] t past

-- in a run of so many clients
abbrev pub lives_at : (clients : ℕ) → ℕ → List Line → List Who
lives_at clients t past = at_target reads_lives lives_after (lives_from 0 clients) t past

abbrev pub evicted_at : ℕ → List Line → List Who
evicted_at t past = at_target reads_evicted evicted_after [] t past

abbrev pub slot_at : Who → ℕ → ℕ → List Line → Slot
slot_at who tag t past = at_target reads_slot (slot_after who tag) no_slot t past

abbrev pub server_at : ℕ → ℕ → List Line → Server
server_at osts t past =
    record {
      boot = boot_at t past;
      count = count_at t past;
      committed = committed_at t past;
      tree = tree_at osts t past;
      log = log_at t past;
      waiting = waiting_at t past;
      granted = granted_at t past;
      cookie = cookie_at t past;
      called = called_at t past;
      objects = objects_at t past;
      queued = queued_at t past;
      glimpses = glimpses_at t past;
    }

-- ---- after its own entries

abbrev pub server_start : Server
server_start = record {
  boot = 1;
  count = 0;
  committed = none;
  tree = empty;
  log = [];
  waiting = [];
  granted = [];
  cookie = first_of 1;
  called = [];
  objects = [];
  queued = [];
  glimpses = [];
}

abbrev pub server_after : ℕ → Server → Entry → Server
server_after osts v (Boot boot disk) = record v {
  boot = boot;
  count = count_after v.count (Boot boot disk);
  cookie =
      cookie_after v.cookie (Boot boot disk);
}
server_after osts v (Commit to batch) = record v { committed = record { 0 = to }; log = log_after v.log (Commit to batch) }
server_after osts v (Close o) =
    record v {
      committed = committed_after v.committed (Close o);
      tree = tree_after osts v.tree (Close o);
      log = [];
      waiting = [];
      granted = o.locks;
      called = [];
      objects = objects_after v.objects (Close o);
      queued = [];
      glimpses = [];
    }
server_after osts v (Enters r) = record v { waiting = waiting_after v.waiting (Enters r) }
server_after osts v (Act d) =
    record v {
      waiting = waiting_after v.waiting (Act d);
      granted = granted_after v.granted (Act d);
      cookie = cookie_after v.cookie (Act d);
    }
server_after osts v (Grant lock asked) =
    record v {
      waiting = waiting_after v.waiting (Grant lock asked);
      granted = granted_after v.granted (Grant lock asked);
      cookie = cookie_after v.cookie (Grant lock asked);
      queued = queued_after v.queued (Grant lock asked);
    }
server_after osts v (Wait lock asked) =
    record v {
      waiting = waiting_after v.waiting (Wait lock asked);
      cookie = cookie_after v.cookie (Wait lock asked);
      queued = queued_after v.queued (Wait lock asked);
    }
server_after osts v (Answers d) = record v { waiting = waiting_after v.waiting (Answers d) }
server_after osts v (Asks g) = record v { glimpses = glimpses_after v.glimpses (Asks g) }
server_after osts v (Ends g) = record v { glimpses = glimpses_after v.glimpses (Ends g) }
server_after osts v (Block called) = record v { called = called_after v.called (Block called) }
server_after osts v (Release lock) = record v {
  granted = granted_after v.granted (Release lock);
  called =
      called_after v.called (Release lock);
}
server_after osts v (Evict who cause) =
    record v {
      tree = tree_after osts v.tree (Evict who cause);
      waiting = waiting_after v.waiting (Evict who cause);
      granted = granted_after v.granted (Evict who cause);
      called = called_after v.called (Evict who cause);
      queued = queued_after v.queued (Evict who cause);
      glimpses = glimpses_after v.glimpses (Evict who cause);
    }
server_after osts v (Txn d) =
    record v {
      count = count_after v.count (Txn d);
      tree = tree_after osts v.tree (Txn d);
      log = log_after v.log (Txn d);
      waiting = waiting_after v.waiting (Txn d);
      objects = objects_after v.objects (Txn d);
    }
server_after osts v _ = v

abbrev pub server_turn : ℕ → Server → List Entry → Server
server_turn osts v [] = v
server_turn osts v (e ∷ es) = server_turn osts (server_after osts v e) es

abbrev pub slot_turn : Who → ℕ → Slot → List Entry → Slot
slot_turn who tag slot [] = slot
slot_turn who tag slot (e ∷ es) = slot_turn who tag (slot_after who tag slot e) es

-- ---- of a past that has no other target's lines

abbrev pub server_of : ℕ → List Line → Server
server_of osts [] = server_start
server_of osts (l ∷ past) = elim l.at.node [ Client c ↦ server_of osts past | Target t ↦ server_after osts (server_of osts past) l.entry ]

abbrev pub lives_of : (clients : ℕ) → List Line → List Who
lives_of clients [] = lives_from 0 clients
lives_of clients (l ∷ past) = elim l.at.node [ Client c ↦ lives_of clients past | Target t ↦ lives_after (lives_of clients past) l.entry ]

abbrev pub evicted_of : List Line → List Who
evicted_of [] = []
evicted_of (l ∷ past) = elim l.at.node [ Client c ↦ evicted_of past | Target t ↦ evicted_after (evicted_of past) l.entry ]

-- the boot of the last close: while it is the present one the target serves
abbrev pub closed_of : List Line → ℕ
closed_of [] = 1
closed_of (l ∷ past) = elim l.at.node [ Client c ↦ closed_of past | Target t ↦ closed_after (closed_of past) l.entry ]

abbrev pub up_of : List Line → Bool
up_of [] = true
up_of (l ∷ past) = elim l.at.node [ Client c ↦ up_of past | Target t ↦ up_after (up_of past) l.entry ]

-- what it has taken since its boot of the lives that come back
abbrev pub replays_of : List Line → List Replayed
replays_of [] = []
replays_of (l ∷ past) = elim l.at.node [ Client c ↦ replays_of past | Target t ↦ replays_after (replays_of past) l.entry ]

abbrev pub brought_of : List Line → List Lock
brought_of [] = []
brought_of (l ∷ past) = elim l.at.node [ Client c ↦ brought_of past | Target t ↦ brought_after (brought_of past) l.entry ]

abbrev pub words_of : List Line → List Said
words_of [] = []
words_of (l ∷ past) = elim l.at.node [ Client c ↦ words_of past | Target t ↦ words_after (words_of past) l.entry ]

abbrev pub wishes_of : List Line → List Who
wishes_of [] = []
wishes_of (l ∷ past) = elim l.at.node [ Client c ↦ wishes_of past | Target t ↦ wishes_after (wishes_of past) l.entry ]

abbrev pub window_of : (osts clients : ℕ) → List Line → Window
window_of osts clients past =
    record {
      lives = lives_of clients past;
      committed = (server_of osts past).committed.0;
      replays = replays_of past;
      brought = brought_of past;
      words = words_of past;
      wishes = wishes_of past;
    }

abbrev pub shown_of : List Line → List Lock
shown_of [] = []
shown_of (l ∷ past) = elim l.at.node [ Client c ↦ shown_of past | Target t ↦ shown_after (shown_of past) l.entry ]

abbrev pub slot_of : Who → ℕ → List Line → Slot
slot_of who tag [] = no_slot
slot_of who tag (l ∷ past) = elim l.at.node [
  | Client c ↦ slot_of who tag past
  | Target t
      ↦ slot_after who tag (slot_of who tag past) l.entry
]

-- ---- numbers

-- the next transaction's number: the boot in the high 32 bits, and a count from 1 in it
abbrev pub next_number : Server → TxnOf
next_number v = record { 0 = v.boot * 4294967296 + (v.count + 1) }
