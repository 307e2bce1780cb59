-- A window as lu_window's contracts see it, and what it becomes with each thing that it takes.
use Rattle.std.specs.Prelude.{ℕ, nat_lt, ◌==◌, ◌&&◌, ◌||◌, not, if◌then◌else◌, Bool, false, List, [], Option, Some, None}
use Rattle.std.specs.List.{list_any}
use Rattle.lu_base.specs.declared.ids.Who.{Who}
use Rattle.lu_base.specs.declared.locks.Cause.{Cause}
use Rattle.lu_base.specs.declared.locks.Cause.TheVariants.{Absent, Gap}
use Rattle.lu_base.specs.declared.locks.Lock.{Lock}
use Rattle.lu_spec_entries.specs.Carried.{Said}
use Rattle.lu_spec_target.specs.Lives.{with_lives}
use Rattle.lu_spec_target.specs.Windows.{Replayed, Window, with_replay, with_brought, with_word, with_wish, cut_seen, is_replay, is_lock}
use Rattle.lu_spec_target.specs.Windows.{is_word, is_newest, is_back, is_left, has_gap}

-- What the window has, and whether it is closed.
pub record State : Type 0 where
  pub window : Window
  pub closed : Bool

-- A window of these lives that has taken nothing, and is open.
abbrev pub opened : List Who → ℕ → State
opened lives committed =
    record {
      window = record { lives = with_lives lives []; committed = committed; replays = []; brought = []; words = []; wishes = [] };
      closed = false;
    }

abbrev pub at_window : Window → State → State
at_window v s = record { window = v; closed = s.closed }

-- ---- each is taken once: a replay for each number of a life, a lock for each cookie of a life, a word for each life; and a
-- wish where it is the newest of its client

abbrev pub with_replays : List Replayed → Window → Window
with_replays replays v =
    record { lives = v.lives; committed = v.committed; replays = replays; brought = v.brought; words = v.words; wishes = v.wishes }

abbrev pub took_replay : Replayed → Window → Window
took_replay r v = with_replays (if list_any (is_replay r) v.replays then v.replays else with_replay (cut_seen r) v.replays) v

abbrev pub took_lock : Lock → Window → Window
took_lock l v =
    record {
      lives = v.lives;
      committed = v.committed;
      replays = v.replays;
      brought = if list_any (is_lock l) v.brought then v.brought else with_brought l v.brought;
      words = v.words;
      wishes = v.wishes;
    }

abbrev pub took_word : Said → Window → Window
took_word word v =
    record {
      lives = v.lives;
      committed = v.committed;
      replays = v.replays;
      brought = v.brought;
      words = if list_any (is_word word) v.words then v.words else with_word word v.words;
      wishes = v.wishes;
    }

abbrev pub took_wish : Who → Window → Window
took_wish who v =
    record {
      lives = v.lives;
      committed = v.committed;
      replays = v.replays;
      brought = v.brought;
      words = v.words;
      wishes = if is_newest who v.wishes then with_wish who v.wishes else v.wishes;
    }

-- an older life of its client has a slot
abbrev pub has_older : Who → List Who → Bool
has_older who lives = list_any (λ life. life.client == who.client && nat_lt life.life who.life) lives

-- why a life loses its slot, where these numbers are kept
abbrev pub cause_of : Window → List ℕ → Who → Option Cause
cause_of v kept who =
    if not (is_back v who) || is_left v who then Some Absent else (if has_gap v kept who then Some Gap else None)
