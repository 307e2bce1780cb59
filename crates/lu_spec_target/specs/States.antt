-- A target: what it keeps, what each of its entries makes of that, and what it is after a past of all nodes.
use Rattle.std.specs.Prelude.{ℕ, zero, suc, ◌+◌, ◌==◌, Bool, true, false, List, [], ◌∷◌, ◌++◌}
use Rattle.lu_base.specs.declared.ids.Who.{Who}
use Rattle.lu_base.specs.declared.locks.Lock.{Lock}
use Rattle.lu_msg.specs.declared.commits.Batch.{Batch}
use Rattle.lu_msg.specs.declared.messages.Request.{Request as RequestOf}
use Rattle.lu_spec_machine.specs.Footprint.{empty}
use Rattle.lu_spec_entries.specs.Carried.{Deed, LifeSlot, Called, Glimpse, Said, Contents, Disk}
use Rattle.lu_spec_entries.specs.Words.{Entry, Line}
use Rattle.lu_spec_entries.specs.Fields.{at_target}
use Rattle.lu_spec_target.specs.Phase.{reads_up, up_after, reads_failed, failed_after, reads_boot, boot_after, reads_closed, closed_after}
use Rattle.lu_spec_target.specs.Phase.{reads_ticks, ticks_after, reads_number, number_after, reads_cookie, cookie_after, first_of}
use Rattle.lu_spec_target.specs.Lives.{reads_lives, lives_after, reads_removed, removed_after, reads_slots, slots_after}
use Rattle.lu_spec_target.specs.Stored.{reads_contents, contents_after, reads_log, log_after, reads_committed, committed_after}
use Rattle.lu_spec_target.specs.Stored.{reads_disk, disk_after, stored}
use Rattle.lu_spec_target.specs.Locks.{reads_granted, granted_after, reads_waiting, waiting_after, reads_called, called_after}
use Rattle.lu_spec_target.specs.Locks.{reads_queue, queue_after, reads_glimpses, glimpses_after}
use Rattle.lu_spec_target.specs.Windows.{Replayed}
use Rattle.lu_spec_target.specs.Kept.{reads_replays, replays_after, reads_brought, brought_after}
use Rattle.lu_spec_target.specs.Kept.{reads_words, words_after, reads_wishes, wishes_after}

-- The numbers of a run that a target knows: its own, 0 for the metadata target; that of the object storage targets; and the
-- ticks until a lock that was called back ends its life.
pub record Setting : Type 0 where
  pub id : ℕ
  pub osts : ℕ
  pub expire : ℕ

pub record Target : Type 0 where
  pub setting : Setting
  pub up : Bool
  pub failed : Bool
  pub boot : ℕ
  pub closed : ℕ
  pub ticks : ℕ
  pub number : ℕ
  pub cookie : ℕ
  pub lives : List Who
  pub removed : List Who
  pub slots : List LifeSlot
  pub contents : Contents
  pub log : List Deed
  pub committed : ℕ
  pub disk : Disk
  pub granted : List Lock
  pub waiting : List Lock
  pub called : List Called
  pub queue : List RequestOf
  pub glimpses : List Glimpse
  pub replays : List Replayed
  pub brought : List Lock
  pub words : List Said
  pub wishes : List Who

-- the window of its boot is closed
abbrev pub is_serving : Target → Bool
is_serving v = v.closed == v.boot

abbrev pub is_names : Target → Bool
is_names v = v.setting.id == 0

-- ---- the start of a run: boot 1 and a slot for life 1 of each client are on the disk, and the target serves

abbrev pub lives_from : ℕ → ℕ → List Who
lives_from client zero = []
lives_from client (suc more) = record { client = client; life = 1 } ∷ lives_from (client + 1) more

abbrev pub no_contents : Contents
no_contents = record { tree = empty; objects = [] }

abbrev pub empty_disk : Disk
empty_disk = record { boot = 0; contents = no_contents; committed = 0; lives = []; removed = []; slots = [] }

abbrev pub first_batch : ℕ → Batch
first_batch clients = record { boot = 1; transactions = []; replies = []; added = lives_from 0 clients; removed = [] }

abbrev pub first_disk : Setting → ℕ → Disk
first_disk setting clients = stored setting.osts (first_batch clients) empty_disk

abbrev pub started : Setting → (clients : ℕ) → Target
started setting clients =
    record {
      setting = setting;
      up = true;
      failed = false;
      boot = 1;
      closed = 1;
      ticks = 0;
      number = first_of 1;
      cookie = first_of 1;
      lives = lives_from 0 clients;
      removed = [];
      slots = [];
      contents = no_contents;
      log = [];
      committed = 0;
      disk = first_disk setting clients;
      granted = [];
      waiting = [];
      called = [];
      queue = [];
      glimpses = [];
      replays = [];
      brought = [];
      words = [];
      wishes = [];
    }

-- ---- after its own entries

abbrev pub after : Target → Entry → Target
after v e =
    record {
      setting = v.setting;
      up = up_after v.up e;
      failed = failed_after v.failed e;
      boot = boot_after v.boot e;
      closed = closed_after v.closed e;
      ticks = ticks_after v.ticks e;
      number = number_after v.number e;
      cookie = cookie_after v.cookie e;
      lives = lives_after v.lives e;
      removed = removed_after v.removed e;
      slots = slots_after v.slots e;
      contents = contents_after v.setting.osts v.contents e;
      log = log_after v.log e;
      committed = committed_after v.committed e;
      disk = disk_after v.setting.osts v.disk e;
      granted = granted_after v.granted e;
      waiting = waiting_after v.waiting e;
      called = called_after v.called e;
      queue = queue_after v.queue e;
      glimpses = glimpses_after v.glimpses e;
      replays = replays_after v.replays e;
      brought = brought_after v.brought e;
      words = words_after v.words e;
      wishes = wishes_after v.wishes e;
    }

abbrev pub turn : Target → List Entry → Target
turn v [] = v
turn v (e ∷ es) = turn (after v e) es

-- these entries, and then what comes of the target after them
abbrev pub follow : Target → List Entry → (Target → List Entry) → List Entry
follow v es next = es ++ next (turn v es)

-- ---- after a past of all nodes, in a run of so many clients

abbrev pub target_at : Setting → (clients : ℕ) → List Line → Target
target_at setting clients past =
    let t = setting.id in
    let v = started setting clients in
    record {
      setting = setting;
      up = at_target reads_up up_after v.up t past;
      failed = at_target reads_failed failed_after v.failed t past;
      boot = at_target reads_boot boot_after v.boot t past;
      closed = at_target reads_closed closed_after v.closed t past;
      ticks = at_target reads_ticks ticks_after v.ticks t past;
      number = at_target reads_number number_after v.number t past;
      cookie = at_target reads_cookie cookie_after v.cookie t past;
      lives = at_target reads_lives lives_after v.lives t past;
      removed = at_target reads_removed removed_after v.removed t past;
      slots = at_target reads_slots slots_after v.slots t past;
      contents = at_target reads_contents (contents_after setting.osts) v.contents t past;
      log = at_target reads_log log_after v.log t past;
      committed = at_target reads_committed committed_after v.committed t past;
      disk = at_target reads_disk (disk_after setting.osts) v.disk t past;
      granted = at_target reads_granted granted_after v.granted t past;
      waiting = at_target reads_waiting waiting_after v.waiting t past;
      called = at_target reads_called called_after v.called t past;
      queue = at_target reads_queue queue_after v.queue t past;
      glimpses = at_target reads_glimpses glimpses_after v.glimpses t past;
      replays = at_target reads_replays replays_after v.replays t past;
      brought = at_target reads_brought brought_after v.brought t past;
      words = at_target reads_words words_after v.words t past;
      wishes = at_target reads_wishes wishes_after v.wishes t past;
    }
