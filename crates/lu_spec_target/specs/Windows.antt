-- The recovery window of a target: what it takes of the lives that come back, and what its close decides of them (Lustre
-- Operations Manual, recovery: replay by transaction number, gaps, and the eviction of clients that didn't come back; what
-- counts as seen and lost is this project's profile). In rising number a replay is kept where its life is back and all that
-- it saw is committed or kept; else it is lost.
use Rattle.std.specs.Prelude.{ℕ, nat_lt, nat_le, ◌==◌, ◌&&◌, ◌||◌, not, if◌then◌else◌, Bool, true, false}
use Rattle.std.specs.Prelude.{List, [], ◌∷◌, ◌++◌, filter, map, length, Option, Some, None}
use Rattle.std.specs.List.{list_any}
use Rattle.lu_base.specs.declared.ids.Who.{Who}
use Rattle.lu_base.specs.declared.locks.Cause.TheVariants.{Absent, Gap}
use Rattle.lu_base.specs.declared.locks.Lock.{Lock}
use Rattle.lu_msg.specs.declared.operations.Op.{Op}
use Rattle.lu_spec_entries.specs.Carried.{Said, Gone}
use Rattle.lu_spec_entries.specs.Words.{same_life}
use Rattle.lu_spec_target.specs.Lives.{is_life, life_before, lives_of}

-- A request that is handed in again: the life and number of its transaction, its request number and tag, and the numbers of
-- the transactions that it has seen.
pub record Replayed : Type 0 where
  pub who : Who
  pub number : ℕ
  pub xid : ℕ
  pub tag : ℕ
  pub seen : List ℕ
  pub op : Op

-- What a window has: the lives that have a slot, by client and life; the number up to which all is on the disk; the replays,
-- by number and then by life; the locks that were brought, by cookie and then by life; of each life its first word, by life;
-- and of each client the newest life that wishes to join, by client.
pub record Window : Type 0 where
  pub lives : List Who
  pub committed : ℕ
  pub replays : List Replayed
  pub brought : List Lock
  pub words : List Said
  pub wishes : List Who

-- ---- what it takes has one place in each list, whatever the order in which it came

-- x in its place: ahead of the first that it stands before
abbrev pub placed : {A : Type 0} → (A → A → Bool) → A → List A → List A
placed before x [] = x ∷ []
placed before x (y ∷ ys) = if before x y then x ∷ y ∷ ys else y ∷ placed before x ys

abbrev pub replay_before : Replayed → Replayed → Bool
replay_before r s = nat_lt r.number s.number || (r.number == s.number && life_before r.who s.who)

abbrev pub with_replay : Replayed → List Replayed → List Replayed
with_replay r replays = placed replay_before r replays

abbrev pub brought_before : Lock → Lock → Bool
brought_before l k = nat_lt l.cookie.0 k.cookie.0 || (l.cookie.0 == k.cookie.0 && life_before l.ask.who k.ask.who)

abbrev pub with_brought : Lock → List Lock → List Lock
with_brought l locks = placed brought_before l locks

abbrev pub word_before : Said → Said → Bool
word_before word w = life_before word.who w.who

abbrev pub with_word : Said → List Said → List Said
with_word word words = placed word_before word words

-- of each client one life
abbrev pub with_wish : Who → List Who → List Who
with_wish who [] = who ∷ []
with_wish who (w ∷ wishes) =
    if who.client == w.client then who ∷ wishes else (if nat_lt who.client w.client then who ∷ w ∷ wishes else w ∷ with_wish who wishes)

-- ---- what counts: a replay and a lock once for each life and number, the first word of each life, the newest life of each
-- client; and a replay saw nothing at or above its own number

abbrev pub cut_seen : Replayed → Replayed
cut_seen r = record r { seen = filter (λ n. nat_lt n r.number) r.seen }

abbrev pub is_replay : Replayed → Replayed → Bool
is_replay r s = s.number == r.number && same_life s.who r.who

abbrev pub is_lock : Lock → Lock → Bool
is_lock l k = k.cookie.0 == l.cookie.0 && same_life k.ask.who l.ask.who

abbrev pub is_word : Said → Said → Bool
is_word word w = same_life w.who word.who

abbrev pub word_of : Who → List Said → Option Said
word_of who [] = None
word_of who (w ∷ words) = if same_life w.who who then Some w else word_of who words

-- the life of this client that wishes to join
abbrev pub wish_of : ℕ → List Who → Option Who
wish_of client [] = None
wish_of client (w ∷ wishes) = if w.client == client then Some w else wish_of client wishes

abbrev pub is_after : Who → Option Who → Bool
is_after who None = true
is_after who (Some w) = nat_lt w.life who.life

abbrev pub is_newest : Who → List Who → Bool
is_newest who wishes = is_after who (wish_of who.client wishes)

-- ---- who is back: its word came, and at least as many replays and locks as it says

abbrev pub has_all : Window → Who → Option Said → Bool
has_all v who None = false
has_all v who (Some w) =
    nat_le w.replays (length (filter (λ r. same_life r.who who) v.replays))
    && nat_le w.locks (length (filter (λ l. same_life l.ask.who who) v.brought))

abbrev pub is_back : Window → Who → Bool
is_back v who = has_all v who (word_of who v.words)

-- a newer life of its client wishes to join
abbrev pub is_left : Window → Who → Bool
is_left v who = list_any (λ w. w.client == who.client) v.wishes

abbrev pub all_settled : Window → List Who → Bool
all_settled v [] = true
all_settled v (who ∷ lives) = (is_back v who || is_left v who) && all_settled v lives

-- ---- which replays are kept

abbrev pub has_number : ℕ → List ℕ → Bool
has_number n numbers = list_any (λ m. m == n) numbers

-- a number that was seen doesn't stand: it is above the committed one and isn't kept
abbrev pub misses : ℕ → List ℕ → List ℕ → Bool
misses committed kept seen = list_any (λ n. nat_lt committed n && not (has_number n kept)) seen

-- the numbers above the committed one that are kept, in rising order
abbrev pub is_kept : Window → List ℕ → Replayed → Bool
is_kept v kept r = nat_lt v.committed r.number && (is_back v r.who && not (misses v.committed kept r.seen))

abbrev pub kept_from : Window → List ℕ → List Replayed → List ℕ
kept_from v kept [] = kept
kept_from v kept (r ∷ replays) = if is_kept v kept r then kept_from v (kept ++ r.number ∷ []) replays else kept_from v kept replays

abbrev pub kept_numbers : Window → List ℕ
kept_numbers v = kept_from v [] v.replays

abbrev pub kept_of : List ℕ → List Replayed → List Replayed
kept_of kept replays = filter (λ r. has_number r.number kept) replays

abbrev pub is_lost : ℕ → List ℕ → Replayed → Bool
is_lost committed kept r = nat_lt committed r.number && not (has_number r.number kept)

abbrev pub lost_of : ℕ → List ℕ → List Replayed → List ℕ
lost_of committed kept replays = map {A = Replayed} {B = ℕ} (λ r. r.number) (filter (is_lost committed kept) replays)

-- ---- who loses its slot: a life that isn't back, or whose client has a newer one that joins; and a life that is back but
-- lost a replay, or whose word names a number that doesn't stand

abbrev pub has_lost : ℕ → List ℕ → List Replayed → Who → Bool
has_lost committed kept replays who = list_any (λ r. same_life r.who who && is_lost committed kept r) replays

abbrev pub word_misses : ℕ → List ℕ → Option Said → Bool
word_misses committed kept None = false
word_misses committed kept (Some w) = misses committed kept w.seen

abbrev pub has_gap : Window → List ℕ → Who → Bool
has_gap v kept who = has_lost v.committed kept v.replays who || word_misses v.committed kept (word_of who v.words)

abbrev pub gone_with : Bool → Bool → Who → List Gone → List Gone
gone_with true gap who gone = record { who = who; cause = Absent } ∷ gone
gone_with false true who gone = record { who = who; cause = Gap } ∷ gone
gone_with false false who gone = gone

abbrev pub gone_from : Window → List ℕ → List Who → List Gone
gone_from v kept [] = []
gone_from v kept (who ∷ lives) = gone_with (not (is_back v who) || is_left v who) (has_gap v kept who) who (gone_from v kept lives)

-- ---- the locks of the lives that stay

abbrev pub staying : List Gone → List Lock → List Lock
staying gone locks = filter (λ l. not (is_life l.ask.who (lives_of gone))) locks

-- ---- all that a close decides: what is kept and what is lost, who loses its slot, whose locks stay, and who joins

pub record Settled : Type 0 where
  pub kept : List Replayed
  pub lost : List ℕ
  pub gone : List Gone
  pub locks : List Lock
  pub joins : List Who

abbrev pub settled_by : Window → List ℕ → List Gone → Settled
settled_by v kept gone =
    record {
      kept = kept_of kept v.replays;
      lost = lost_of v.committed kept v.replays;
      gone = gone;
      locks = staying gone v.brought;
      joins =
          v.wishes;
    }

abbrev pub settled : Window → Settled
settled v = settled_by v (kept_numbers v) (gone_from v (kept_numbers v) v.lives)
