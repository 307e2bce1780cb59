-- The groups of facts: what holds after every line. Those of one target speak of what concerns it; what calls have
-- asked, when things happened, and who is told what, of the whole past with every target.
use Rattle.std.proofs.Common.{◌≡◌, ℕ, ◌+◌, ◌<◌, ◌≤◌, true, false, List, [], ◌∷◌, Some, ◌⊎◌}
use Rattle.std.specs.Prelude.{length, not, nat_lt, if◌then◌else◌}
use Rattle.lu_base.specs.declared.ids.At.{At}
use Rattle.lu_base.specs.declared.ids.Node.{Node}
use Rattle.lu_base.specs.declared.ids.Node.TheVariants.{Client, Target}
use Rattle.lu_base.specs.declared.ids.Who.{Who}
use Rattle.lu_base.specs.declared.locks.Lock.{Lock}
use Rattle.lu_msg.specs.declared.commits.Batch.{Batch}
use Rattle.lu_msg.specs.declared.messages.GrantNotice.{GrantNotice}
use Rattle.lu_msg.specs.declared.messages.Message.{Message}
use Rattle.lu_msg.specs.declared.messages.Message.TheVariants as message
use Rattle.lu_msg.specs.declared.messages.Reply.{Reply as ReplyTo}
use Rattle.lu_msg.specs.declared.messages.SizeReport.{SizeReport}
use Rattle.lu_msg.specs.declared.operations.Op.{Op}
use Rattle.lu_msg.specs.declared.operations.Op.TheVariants as op
use Rattle.lu_msg.specs.declared.commits.Batch.{Batch}
use Rattle.lu_part.specs.declared.parts.Part.{Part}
use Rattle.lu_spec_machine.specs.Footprint.{Operation, empty, touches, writes, Same}
use Rattle.lu_spec_machine.specs.Removal.{Item, Acts, Forgets, pick, contents}
use Rattle.lu_spec_machine.specs.Seen.{seen}
use Rattle.lu_spec_entries.specs.Carried.{Deed, Flight, Said, Disk, Answered, Stage, Plain, Bad, Running}
use Rattle.lu_spec_entries.specs.Words.{Entry, Txn as Made, Commit, Close, Evict, Line, turn_before}
use Rattle.lu_spec_entries.specs.Concerns.{only}
use Rattle.lu_proof_lawful.specs.Covered.TargetParts.{operation}
use Rattle.lu_proof_lawful.specs.Covered.TargetStates.{server_of, slot_of, lives_of, evicted_of, closed_of, replays_of, brought_of}
use Rattle.lu_proof_lawful.specs.Covered.TargetStates.{words_of, wishes_of}
use Rattle.lu_proof_lawful.specs.Covered.TargetCloses.{disk_of, is_lost, loses, but_first, closing_of}
use Rattle.lu_proof_lawful.specs.Covered.Calls.{call_at, becomes, life_at}
use Rattle.lu_proof_lawful.specs.Covered.Imports.{Joining, flights_at}
use Rattle.lu_proof_lawful.specs.Covered.ClientStates.{known_of, life_of, standing_of, kept_of}
use Rattle.lu_proof_lawful.specs.Covered.Heads.{Head}
use Rattle.lu_held.specs.declared.locks.HeldLock.{HeldLock}
use Rattle.lu_spec_target.specs.Glimpses.{by_holder}
use Rattle.lu_spec_target.specs.Lives.{is_life, slot_in, lives_of as lives_in}
use Rattle.lu_spec_target.specs.Phase.{first_of}
use Rattle.lu_spec_target.specs.Stored.{stored}
use Rattle.lu_spec_target.specs.Windows.{Replayed, cut_seen, word_of, replay_before, brought_before}
use Rattle.lu_spec_client.specs.Caches.{brought, held_at}
use Rattle.lu_spec_client.specs.Imports.{Replay, replay_of}
use Rattle.lu_spec_client.specs.Recovery.{lock_replayed, replayed as replayed_by}
pub use Rattle.lu_proof_lawful.proofs.Preconditions.Lists.{turn}
pub use Rattle.lu_proof_lawful.proofs.Preconditions.Asks.{CallOf, Apart, Asks}
use Rattle.lu_proof_lawful.proofs.Preconditions.Guards.{In, Was, HeardNow}
pub use Rattle.lu_proof_lawful.proofs.Preconditions.Heard.{HeardAs}
use Rattle.lu_proof_lawful.proofs.Preconditions.ClientLines.{IsNames, IsSize, IsLock}
use Rattle.lu_proof_lawful.proofs.Preconditions.CloseLists.{OneEach}
use Rattle.lu_proof_lawful.proofs.Preconditions.StoryGuards.{IsRecovering, locks_told}
use Rattle.lu_proof_lawful.proofs.Invariants.TargetGroups.{Acted, SawIn, told_of, HasSlot, IsMade, Stands, Phase, Numbers, Room, IsSeen}
use Rattle.lu_proof_lawful.proofs.Invariants.TargetGroups.{Rebuilt, Done, Gave, Locks, Ranges, boot_told, who_told, Lives, Boots}

-- ---- lists in order

-- each number is above those before it
abbrev pub ReplaysRise : List Replay → Type 0
ReplaysRise [] = Unit {0}
ReplaysRise (k ∷ ks) = ((j : Replay) → In j ks → k.txn.0 < j.txn.0) × ReplaysRise ks

abbrev pub DeedsRise : List Deed → Type 0
DeedsRise [] = Unit {0}
DeedsRise (d ∷ ds) = ((e : Deed) → In e ds → d.reply.txn.0 < e.reply.txn.0) × DeedsRise ds

-- each stands after those before it, by number and then by life, and once
abbrev pub ReplayedRise : List Replayed → Type 0
ReplayedRise [] = Unit {0}
ReplayedRise (r ∷ rs) = ((s : Replayed) → In s rs → replay_before r s ≡ true) × ReplayedRise rs

abbrev pub BroughtRise : List Lock → Type 0
BroughtRise [] = Unit {0}
BroughtRise (l ∷ ls) = ((k : Lock) → In k ls → brought_before l k ≡ true) × BroughtRise ls

-- ---- what a life keeps for a recovery

-- a number that the life saw came with a reply that it heard, or with the grant of a lock that had waited, to a life that heard a reply
abbrev pub SawBy : List Line → Who → ℕ → Type 0
SawBy past who n =
    (f : Flight) × (r : ReplyTo) × HeardAs past who f r × (In n r.seen
    ⊎ ((t c : ℕ) × (g : GrantNotice) × Was past (Target t) (Client c) (message.Grant g) × In n g.seen))

-- What a life keeps of a target: of each reply that it heard the transaction, and all numbers that it saw, but for what it was told of as
-- committed.
abbrev pub Keeps : ℕ → List Line → Type 0
Keeps osts past =
    record {
      committed : (who : Who) → (kept_of who past).committed ≤ (server_of osts past).committed.0;
      replay_kept : (who : Who) (f : Flight) (r : ReplyTo) → HeardAs past who f r → 0 < r.txn.0 → (r.txn.0 ≤ (kept_of who past).committed)
          ⊎ In (replay_of f r) (kept_of who past).replays;
      kept_replay : (who : Who) (k : Replay) → In k (kept_of who past).replays → (f : Flight) × (r : ReplyTo) × HeardAs past who f r
          × (k ≡ replay_of f r) × (0 < r.txn.0);
      seen_kept : (who : Who) (n : ℕ) → SawIn past who n → (n ≤ (kept_of who past).committed) ⊎ In n (kept_of who past).seen;
      kept_seen : (who : Who) (n : ℕ) → In n (kept_of who past).seen → SawIn past who n;
      saw_by : (who : Who) (n : ℕ) → SawIn past who n → SawBy past who n;
      replays_rise : (who : Who) → ReplaysRise (kept_of who past).replays;
    }

-- ---- what a target takes in a recovery

-- it is that of the life, with what it saw below its own number
abbrev pub Replays : List Line → Replayed → Type 0
Replays past r = (k : Replay) × In k (kept_of r.who past).replays
    × (r ≡ cut_seen (record { who = r.who; number = k.txn.0; xid = k.xid.0; tag = k.tag; seen = k.seen; op = k.op }))

-- a lock that was given to that life, which it held when it was told the boot
abbrev pub Relocks : List Line → Lock → Type 0
Relocks past l = ((d : Deed) × Gave past d l × (d.reply.who ≡ l.ask.who)) × In l (told_of l.ask.who past)

-- a word that says what the life keeps, and counts at least what it held when it was told the boot
abbrev pub Worded : List Line → Who → (replays locks : ℕ) → List ℕ → Type 0
Worded past who replays locks seen = (replays ≡ length (kept_of who past).replays) × (seen ≡ (kept_of who past).seen)
    × (length (told_of who past) ≤ locks)

-- a life that still joins has nothing
abbrev pub NothingOf : List Line → Who → Type 0
NothingOf past who = ((kept_of who past).replays ≡ []) × ((kept_of who past).seen ≡ [])
    × ((f : Flight) (r : ReplyTo) → HeardAs past who f r → ⊥) × (told_of who past ≡ [])

-- of the present boot, while it recovers: what lives tell is what they have
abbrev pub ToldIn : List Line → Message → Type 0
ToldIn past (message.Replay r) = (k : Replay) × In k (kept_of r.who past).replays × (r ≡ replayed_by r.who r.boot k)
ToldIn past (message.Lock r) = (l : Lock) × Relocks past l × (l.ask.who ≡ r.who) × (r ≡ lock_replayed r.who r.boot l)
ToldIn past (message.Word who boot replays locks seen) = Worded past who replays locks seen
ToldIn past (message.Join who boot) = NothingOf past who
ToldIn past _ = Unit {0}

-- What a target that recovers has taken is what the lives have: their replays, each once and in rising number, their locks, each once, and
-- their words; a newer life that wishes to join is its client's, and asked for it. What a client that knows the boot holds it held when it
-- was told that (`told_as`: what its guards say of that is so of its life); a life to come was told none; and a reply that was just heard
-- is
-- of a boot that served.
abbrev pub Recovers : (osts clients : ℕ) → List Line → Type 0
Recovers osts clients past =
    record {
      told : (from to : Node) (m : Message) → Was past from to m → IsRecovering osts past → (server_of osts past).boot ≤ boot_told m
          → HasSlot clients past (who_told m) → ToldIn past m;
      replays : IsRecovering osts past → (r : Replayed) → In r (replays_of past) → HasSlot clients past r.who
          × ((server_of osts past).boot ≤ known_of r.who.client past) × Replays past r;
      replays_rise : ReplayedRise (replays_of past);
      brought : IsRecovering osts past → (l : Lock) → In l (brought_of past) → HasSlot clients past l.ask.who
          × ((server_of osts past).boot ≤ known_of l.ask.who.client past) × Relocks past l;
      brought_rise : BroughtRise (brought_of past);
      words : IsRecovering osts past → (who : Who) (w : Said) → word_of who (words_of past) ≡ Some w → (w.who ≡ who)
          × HasSlot clients past who × ((server_of osts past).boot ≤ known_of who.client past) × Worded past who w.replays w.locks w.seen;
      wishes : IsRecovering osts past → (who : Who) → In who (wishes_of past) → (old : Who) × HasSlot clients past old
          × (old.client ≡ who.client) × (old.life < who.life) × (who.life ≤ (life_of who.client past).life)
          × ((server_of osts past).boot ≤ known_of who.client past);
      wishes_rise : OneEach (wishes_of past);
      holds : IsRecovering osts past → (c : ℕ) → (server_of osts past).boot ≤ known_of c past → (h : HeldLock) → In h (held_at c past)
          → In h.lock (told_of (life_of c past) past);
      bare : (c : ℕ) → standing_of c past ≡ Joining → told_of (life_of c past) past ≡ [];
      told_as : (c : ℕ) → locks_told c past ≡ told_of (life_of c past) past;
      later : (who : Who) → (life_of who.client past).life < who.life → told_of who past ≡ [];
      hears : (at : At) (c t : ℕ) (f : Flight) (r : ReplyTo) → at.node ≡ Client c → HeardNow past at t f r
          → known_of c past ≤ closed_of past;
    }

-- ---- the history that stands

-- the transactions that stand, and the opens that went with lives, as items of the removal law, the newest first
abbrev pub forgetting : List Who → List Item → List Item
forgetting [] items = items
forgetting (who ∷ gone) items = forgetting gone (Forgets who ∷ items)

abbrev pub items_after : (committed : ℕ) → List Item → Entry → List Item
items_after committed items (Made d) = Acts (operation d) ∷ items
items_after committed items (Evict who cause) = Forgets who ∷ items
items_after committed items (Close o) = forgetting (lives_in o.gone) (pick (λ n. not (loses committed o n)) items)
items_after committed items _ = items

abbrev pub items_of : (osts : ℕ) → List Line → List Item
items_of osts [] = []
items_of osts (l ∷ past) = elim l.at.node [
  | Client c ↦ items_of osts past
  | Target t
      ↦ items_after (server_of osts past).committed.0 (items_of osts past) l.entry
]

-- an act among the items is a transaction that stands, which writes over the items before it what it wrote when it was done, if it is on
-- names;
-- and all of these that wrote what it touches are committed, or it saw them. One on an object writes and touches nothing of the tree
abbrev pub ItemOk : (osts : ℕ) → List Line → List Item → Operation → Type 0
ItemOk osts past is a =
    record {
      deed : Deed;
      acted : Acted past deed;
      made : IsMade deed;
      stands : Stands osts past deed;
      operates : operation deed ≡ a;
      wrote : IsNames a.op → deed.writes ≡ writes osts (contents osts empty is) a;
      saw : (n : ℕ) → In n (seen osts (contents osts empty) is (touches osts (contents osts empty is) a))
          → (n ≤ (server_of osts past).committed.0) ⊎ In n deed.reply.seen;
    }

abbrev pub AllItems : (osts : ℕ) → List Line → List Item → Type 0
AllItems osts past [] = Unit {0}
AllItems osts past (Acts a ∷ is) = ItemOk osts past is a × AllItems osts past is
AllItems osts past (Forgets who ∷ is) = AllItems osts past is

-- their numbers fall, the newest first
abbrev pub ItemsFall : List Item → Type 0
ItemsFall [] = Unit {0}
ItemsFall (Acts a ∷ is) = ((b : Operation) → In (Acts b) is → b.number.0 < a.number.0) × ItemsFall is
ItemsFall (Forgets who ∷ is) = ItemsFall is

-- The tree holds what the transactions that stand leave, the disk's what those of them leave that are there; the log has those that
-- aren't committed, in rising number. What stands saw only what stands, and so did what a life with a slot heard.
abbrev pub History : (osts clients : ℕ) → List Line → Type 0
History osts clients past =
    record {
      tree : (p : Part) → Same (contents osts empty (items_of osts past)) (server_of osts past).tree p;
      disk : (p : Part) → Same (contents osts empty (pick (λ n. not (nat_lt (disk_of osts clients past).committed n)) (items_of osts past)))
          (disk_of osts clients past).contents.tree p;
      on_disk : (disk_of osts clients past).committed ≤ (server_of osts past).committed.0;
      log : (d : Deed) → In d (server_of osts past).log → Acted past d × IsMade d × Stands osts past d
          × ((server_of osts past).committed.0 < d.reply.txn.0);
      logged : (d : Deed) → Acted past d → IsMade d → Stands osts past d → In d (server_of osts past).log
          ⊎ (d.reply.txn.0 ≤ (server_of osts past).committed.0);
      log_rises : DeedsRise (server_of osts past).log;
      later : (n : ℕ) → first_of (closed_of past) < n → is_lost osts past n ≡ false;
      top : (server_of osts past).committed.0 ≤ first_of (server_of osts past).boot + (server_of osts past).count;
      last : (d : Deed) → Acted past d → IsMade d → d.reply.txn.0 ≤ first_of (server_of osts past).boot + (server_of osts past).count;
      saw : (d : Deed) (n : ℕ) → Acted past d → In n d.reply.seen → IsSeen osts past n × (IsMade d → n < d.reply.txn.0);
      stands : (d : Deed) → Acted past d → IsMade d → Stands osts past d → (n : ℕ) → In n d.reply.seen → is_lost osts past n ≡ false;
      heard : (who : Who) (f : Flight) (r : ReplyTo) → HeardAs past who f r → HasSlot clients past who → (is_lost osts past r.txn.0 ≡ false)
          × ((n : ℕ) → In n r.seen → is_lost osts past n ≡ false);
      held : (who : Who) (n : ℕ) → SawIn past who n → HasSlot clients past who → is_lost osts past n ≡ false;
      fresh : (d : Deed) → Acted past d → d.reply.boot ≡ closed_of past → (n : ℕ) → In n d.reply.seen → is_lost osts past n ≡ false;
      items : AllItems osts past (items_of osts past);
      items_have : (d : Deed) → Acted past d → IsMade d → Stands osts past d → In (Acts (operation d)) (items_of osts past);
      items_fall : ItemsFall (items_of osts past);
      log_of : (d : Deed) → In d (server_of osts past).log → d.reply.boot ≡ closed_of past;
    }

-- ---- the slots on the disk

-- what a slot keeps on the disk is the reply to a transaction that stands there, or one that a close made anew
abbrev pub StoredFor : (osts : ℕ) → List Line → (committed : ℕ) → Who → ℕ → ReplyTo → Type 0
StoredFor osts past committed who tag k = ((d : Deed) × Acted past d × (d.reply ≡ k) × (d.tag ≡ tag) × IsMade d × Stands osts past d
    × (d.reply.txn.0 ≤ committed)) ⊎ Rebuilt past who k

-- each life that wasn't removed there has the last of its transactions there, by tag; and nothing else is kept there
abbrev pub OnDisk : (osts : ℕ) → List Line → Disk → Type 0
OnDisk osts past disk =
    record {
      high : (d : Deed) → Acted past d → IsMade d → Stands osts past d → d.reply.txn.0 ≤ disk.committed → is_life d.reply.who disk.removed
          ≡ false → d.reply.xid.0 ≤ (slot_in disk.slots d.reply.who d.tag).taken;
      kept : (who : Who) (tag : ℕ) (k : ReplyTo) → (slot_in disk.slots who tag).reply ≡ Some k
          → StoredFor osts past disk.committed who tag k;
      slots : (who : Who) (tag : ℕ) (k : ReplyTo) → (slot_in disk.slots who tag).reply ≡ Some k → (k.who ≡ who)
          × (k.xid.0 ≡ (slot_in disk.slots who tag).taken);
    }

abbrev pub DiskSlots : (osts clients : ℕ) → List Line → Type 0
DiskSlots osts clients past = OnDisk osts past (disk_of osts clients past)

-- ---- what comes to the disk

-- the commit of a close, which comes next after it, puts on the disk what the target goes on from; nothing was done since the close
abbrev pub Coming : (osts clients : ℕ) → List Line → (to : ℕ) → Disk → Type 0
Coming osts clients past to disk =
    record {
      to : to ≡ disk.committed;
      committed : disk.committed ≡ (server_of osts past).committed.0;
      tree : disk.contents.tree ≡ (server_of osts past).tree;
      log : (server_of osts past).log ≡ [];
      lives : disk.lives ≡ lives_of clients past;
      removed : disk.removed ≡ evicted_of past;
      slots : (who : Who) (tag : ℕ) → slot_in disk.slots who tag ≡ slot_of who tag past;
      none : (d : Deed) → Acted past d → d.reply.boot < closed_of past;
    }

-- a close shows one commit, first; but for the time until then all that the target has committed is on the disk
abbrev pub Comes : (osts clients : ℕ) → List Line → Type 0
Comes osts clients past =
    record {
      next : (to : ℕ) (batch : Batch) (more : List Entry) → closing_of clients past ≡ Commit to batch ∷ more
          → Coming osts clients past to (stored osts batch (disk_of osts clients past));
      once : (to : ℕ) (batch : Batch) → In (Commit to batch) (but_first (closing_of clients past)) → ⊥;
      level : ((disk_of osts clients past).committed ≡ (server_of osts past).committed.0)
          ⊎ ((to : ℕ) × (batch : Batch) × (more : List Entry) × (closing_of clients past ≡ Commit to batch ∷ more));
    }

-- all groups of one target, over what concerns it
pub record HoldsAt (head : Head) (past : List Line) : Type 0 where
  pub phase : Phase head.osts past
  pub numbers : Numbers past
  pub ranges : Ranges past
  pub room : Room head past
  pub done : Done head.osts head.clients past
  pub locks : Locks head.osts head.clients past
  pub lives : Lives head.clients past
  pub boots : Boots head.osts past
  pub keeps : Keeps head.osts past
  pub recovers : Recovers head.osts head.clients past
  pub history : History head.osts head.clients past
  pub disk : DiskSlots head.osts head.clients past
  pub comes : Comes head.osts head.clients past

-- ---- over all targets: when

-- the turn is the other one or before it
abbrev pub Upto : At → At → Type 0
Upto a b = (a ≡ b) ⊎ (turn_before a b ≡ true)

-- the newest turn is that one or later
abbrev pub Reached : List Line → At → Type 0
Reached [] at = ⊥
Reached (l ∷ past) at = Upto at l.at

-- what was done, what holders said of sizes, and the begin of each call that isn't told, lie in a turn so far
abbrev pub Reaches : List Line → Type 0
Reaches past =
    record {
      acted : (d : Deed) → Acted past d → Reached past d.reply.at;
      said : (from to : Node) (m : SizeReport) → Was past from to (message.Size m) → Reached past (by_holder m);
      begun : (c slot : ℕ) (r : Running) → call_at c slot past ≡ Some r → Reached past r.at;
    }

-- what acted for a request in flight acted after the begin of its call
abbrev pub Since : List Line → Type 0
Since past =
    (c t slot : ℕ) (f : Flight) (r : Running) (d : Deed) → In f (flights_at c t past) → f.slot ≡ Some slot → call_at c slot past ≡ Some r
    → Acted (only t past) d → d.reply.who ≡ life_at c past → d.reply.xid.0 ≡ f.xid → Upto r.at d.reply.at

-- what a holder said for a request in flight it said after the begin of its call
abbrev pub Informs : List Line → Type 0
Informs past =
    (c t slot : ℕ) (f : Flight) (r : Running) (from : Node) (m : SizeReport) → In f (flights_at c t past) → f.slot ≡ Some slot
    → call_at c slot past ≡ Some r
    → Was (only t past) from (Target t) (message.Size m) → m.for_who ≡ life_at c past → m.xid.0 ≡ f.xid → Upto r.at (by_holder m)

-- a call on bytes, or a stat of a file, that has begun its work on objects
abbrev pub IsWorking : Stage → Type 0
IsWorking Plain = ⊥
IsWorking Bad = ⊥
IsWorking _ = Unit {0}

-- a page of an object
abbrev pub IsPage : Op → Type 0
IsPage (op.Get resource cookie page) = Unit {0}
IsPage _ = ⊥

-- the answer is to what a call on names becomes, of the metadata target; or, for one that works on objects, to how long one is, a lock on
-- it, or
-- a page of it, of another target: it may have gone on since. A stat of a file works on objects once it was told what it became
abbrev pub AnswersFor : Running → (target : ℕ) → Op → Type 0
AnswersFor r target o =
    ((r.stage ≡ Plain) × (target ≡ 0) × (becomes r ≡ Some o))
    ⊎ (IsWorking r.stage × (((0 < target) × (IsSize o ⊎ IsLock o ⊎ IsPage o)) ⊎ ((target ≡ 0) × (becomes r ≡ Some o))))

-- the reply that answered a call is to what was done for what it asked after it began, in that boot or an earlier one
abbrev pub Replied : List Line → ℕ → Running → ℕ → ReplyTo → Type 0
Replied past c r target reply =
    record {
      deed : Deed;
      acted : Acted (only target past) deed;
      is : record deed.reply { boot = reply.boot; committed = reply.committed } ≡ reply;
      client : reply.who ≡ life_at c past;
      op : AnswersFor r target deed.op;
      since : Upto r.at reply.at;
    }

abbrev pub Replies : List Line → Type 0
Replies past = (c slot target : ℕ) (r : Running) (reply : ReplyTo) → call_at c slot past ≡ Some r → r.asking ≡ Answered target reply
    → Replied past c r target reply

-- ---- all

pub record Holds (head : Head) (past : List Line) : Type 0 where
  pub at : (t : ℕ) → HoldsAt head (only t past)
  pub asks : Asks past
  pub reaches : Reaches past
  pub since : Since past
  pub informs : Informs past
  pub replies : Replies past
