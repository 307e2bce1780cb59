-- Lives that leave and lives that join while the target serves, and its ticks (Lustre Operations Manual, recovery: eviction
-- of clients; Wang et al., Understanding Lustre Filesystem Internals, the lock manager: the time limit of blocking callbacks;
-- counting by ticks, and the order in a turn, is this project's profile).
use Rattle.std.specs.Prelude.{ℕ, ◌+◌, nat_lt, nat_le, ◌==◌, ◌&&◌, if◌then◌else◌, Bool, List, [], ◌∷◌, ◌++◌, filter, Option, Some, None}
use Rattle.std.specs.List.{list_any}
use Rattle.lu_base.specs.declared.ids.At.{At}
use Rattle.lu_base.specs.declared.ids.Who.{Who}
use Rattle.lu_base.specs.declared.locks.Cause.{Cause}
use Rattle.lu_base.specs.declared.locks.Cause.TheVariants.{Expired, Replaced}
use Rattle.lu_base.specs.declared.locks.Lock.{Lock}
use Rattle.lu_msg.specs.declared.messages.Message.TheVariants as message
use Rattle.lu_spec_entries.specs.Carried.{Deed, Called, Glimpse}
use Rattle.lu_spec_entries.specs.Words.{Entry, Tick, Commit, Evict, Joined, same_life}
use Rattle.lu_spec_target.specs.Lives.{with_life}
use Rattle.lu_spec_target.specs.Locks.{same_glimpse}
use Rattle.lu_spec_target.specs.Stored.{batch_of}
use Rattle.lu_spec_target.specs.States.{Target, is_names, is_serving, follow}
use Rattle.lu_spec_target.specs.Replies.{to_life, is_called, block_of}
use Rattle.lu_spec_target.specs.Names.{names_go}
use Rattle.lu_spec_target.specs.Queues.{all_queues_go}
use Rattle.lu_spec_target.specs.Glimpses.{ask_of, glimpses_of}
use Rattle.lu_spec_target.specs.Requests.{releases}

-- ---- commits

abbrev pub last_of : List Deed → ℕ → ℕ
last_of [] n = n
last_of (d ∷ ds) n = last_of ds d.reply.txn.0

-- these first transactions of the log go to the disk, with lives that leave and lives that come
abbrev pub commits : Target → List Deed → (removed added : List Who) → Entry
commits v deeds removed added = Commit (last_of deeds v.committed) (batch_of deeds removed added)

-- ---- messages

abbrev pub up : Target → Who → Entry
up v who = to_life who (message.Up v.boot)

abbrev pub evicted : Target → Who → Entry
evicted v who = to_life who (message.Evicted who v.boot)

abbrev pub ready : Target → Who → Entry
ready v who = to_life who (message.Ready who v.boot (record { 0 = v.committed }))

-- ---- evictions: life by life its line, the message, and the releases of the locks that it had, each with its answers

abbrev pub all_released : At → List Lock → Target → List Entry
all_released at [] v = []
all_released at (l ∷ locks) v = follow v (releases at l v) (all_released at locks)

abbrev pub locks_of : Who → List Lock → List Lock
locks_of who locks = filter (λ l. same_life l.ask.who who) locks

-- granted: the locks before the lives left
abbrev pub evictions : At → Cause → List Lock → List Who → Target → List Entry
evictions at cause granted [] v = []
evictions at cause granted (who ∷ gone) v =
    follow v (Evict who cause ∷ evicted v who ∷ all_released at (locks_of who granted) v) (evictions at cause granted gone)

-- then what waited goes on
abbrev pub all_go : At → Target → List Entry
all_go at v = if is_names v then names_go at v else all_queues_go v

-- ---- ticks

abbrev pub is_due : Target → Called → Bool
is_due v c = nat_le (c.since + v.setting.expire) v.ticks

-- the lives of locks that were called back too long ago, in rising order
abbrev pub condemned : Target → List Called → List Who
condemned v [] = []
condemned v (c ∷ cs) = if is_due v c then with_life c.who (condemned v cs) else condemned v cs

-- they leave with one commit of all
abbrev pub expels : At → List Who → Target → List Entry
expels at [] v = []
expels at (who ∷ gone) v =
    follow v (commits v v.log (who ∷ gone) [] ∷ []) (λ w. follow w (evictions at Expired v.granted (who ∷ gone) w) (all_go at))

-- what was outstanding before the turn and still is, is sent again: lock by lock its block, then its glimpses
abbrev pub block_again : Target → Lock → List Called → List Entry
block_again v l before = if is_called l.cookie before && is_called l.cookie v.called then block_of v l ∷ [] else []

abbrev pub asks_again : Target → Lock → List Glimpse → List Entry
asks_again v l [] = []
asks_again v l (g ∷ before) = if list_any (same_glimpse g) v.glimpses then ask_of v l g.request ∷ asks_again v l before
    else asks_again v l before

abbrev pub sends_again : Target → List Called → List Glimpse → List Lock → List Entry
sends_again v called glimpses [] = []
sends_again v called glimpses (l ∷ locks) =
    block_again v l called ++ (asks_again v l (glimpses_of l glimpses) ++ sends_again v called glimpses locks)

abbrev pub ticked : At → Target → List Entry
ticked at v = follow v (expels at (condemned v v.called) v) (λ w. sends_again w v.called v.glimpses w.granted)

-- while the target recovers a tick is its line alone
abbrev pub row_tick : Target → At → List Entry
row_tick v at = if is_serving v then follow v (Tick ∷ []) (ticked at) else Tick ∷ []

-- ---- joins, while the target serves

abbrev pub life_of : ℕ → List Who → Option Who
life_of client [] = None
life_of client (w ∷ lives) = if w.client == client then Some w else life_of client lives

abbrev pub admits : At → Who → Target → List Entry
admits at who v = follow v (Joined who ∷ ready v who ∷ []) (all_go at)

-- with one commit of all the old life leaves, if there was one, and the new one comes
abbrev pub row_admits : At → List Who → Who → Target → List Entry
row_admits at old who v =
    follow v (commits v v.log old (who ∷ []) ∷ []) (λ w. follow w (evictions at Replaced v.granted old w) (admits at who))

abbrev pub by_life : Target → At → Who → Option Who → List Entry
by_life v at who None = row_admits at [] who v
by_life v at who (Some old) =
    if nat_lt who.life old.life
    then evicted v who ∷ []
    else (if who.life == old.life then ready v who ∷ [] else row_admits at (old ∷ []) who v)

-- a life of this client that had a slot here, and isn't older than this one
abbrev pub is_over : Who → Who → Bool
is_over who w = w.client == who.client && nat_le who.life w.life

abbrev pub row_join : Target → At → Who → List Entry
row_join v at who = if list_any (is_over who) v.removed then evicted v who ∷ [] else by_life v at who (life_of who.client v.lives)
