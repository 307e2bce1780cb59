-- The close of a target's recovery window, after a past of that target alone: what stands on its disk, what a close decides, the
-- numbers that the closes so far lost, and the lines that a close has still to show. All that follows of a close stands with its line;
-- the lines after it, in the same turn, show it.
use Rattle.std.specs.Prelude.{ℕ, Bool, false, not, nat_lt, ◌&&◌, ◌||◌, List, [], ◌∷◌, ◌++◌, filter, map}
use Rattle.lu_base.specs.declared.ids.At.{At}
use Rattle.lu_base.specs.declared.ids.Node.TheVariants.{Client, Target}
use Rattle.lu_base.specs.declared.ids.Who.{Who}
use Rattle.lu_msg.specs.declared.messages.Message.TheVariants as message
use Rattle.lu_spec_entries.specs.Carried.{Deed, Gone, Disk, Outcome}
use Rattle.lu_spec_entries.specs.Words.{Entry, Close, Evict, Joined, Line}
use Rattle.lu_spec_target.specs.Lives.{is_life, lives_of as lives_in}
use Rattle.lu_spec_target.specs.Outcomes as rows
use Rattle.lu_spec_target.specs.Phase.{first_of}
use Rattle.lu_spec_target.specs.Recovery.{commit_of, kept_lines, restore_lines}
use Rattle.lu_spec_target.specs.Replies.{to_life}
use Rattle.lu_spec_target.specs.States.{Target as TargetOf, started, empty_disk, first_batch}
use Rattle.lu_spec_target.specs.Stored.{stored, disk_after}
use Rattle.lu_spec_target.specs.Windows.{has_number}
use Rattle.lu_proof_lawful.specs.Covered.TargetStates.{server_of, lives_of, replays_of, brought_of, words_of, wishes_of}

-- ---- the disk

abbrev pub disk_of : (osts clients : ℕ) → List Line → Disk
disk_of osts clients [] = stored osts (first_batch clients) empty_disk
disk_of osts clients (l ∷ past) = elim l.at.node [
  | Client c ↦ disk_of osts clients past
  | Target t
      ↦ disk_after osts (disk_of osts clients past) l.entry
]

-- ---- what a close decides

-- all of the target that a close looks at
abbrev pub recovering_of : (osts clients : ℕ) → List Line → TargetOf
recovering_of osts clients past =
    record (started (record { id = 0; osts = osts; expire = 0 }) clients) {
      boot = (server_of osts past).boot;
      lives = lives_of clients past;
      committed = (server_of osts past).committed.0;
      disk = disk_of osts clients past;
      replays = replays_of past;
      brought = brought_of past;
      words = words_of past;
      wishes = wishes_of past;
    }

-- of a close in that turn
abbrev pub outcome_of : (osts clients : ℕ) → At → List Line → Outcome
outcome_of osts clients at past = rows.outcome_of (recovering_of osts clients past) at

-- ---- what is lost

abbrev pub kept_numbers : Outcome → List ℕ
kept_numbers o = map {A = Deed} {B = ℕ} (λ d. d.reply.txn.0) o.kept

-- a close loses the numbers of earlier boots above the committed one that it doesn't keep
abbrev pub loses : (committed : ℕ) → Outcome → ℕ → Bool
loses committed o n = nat_lt committed n && (nat_lt n (first_of o.boot) && not (has_number n (kept_numbers o)))

abbrev pub lost_after : (committed n : ℕ) → Bool → Entry → Bool
lost_after committed n lost (Close o) = lost || loses committed o n
lost_after committed n lost _ = lost

-- a close so far lost that number
abbrev pub is_lost : (osts : ℕ) → List Line → ℕ → Bool
is_lost osts [] n = false
is_lost osts (l ∷ past) n = elim l.at.node [
  | Client c ↦ is_lost osts past n
  | Target t
      ↦ lost_after (server_of osts past).committed.0 n (is_lost osts past n) l.entry
]

-- ---- what a close has still to show

abbrev pub shows_evicted : Outcome → List Gone → List Entry
shows_evicted o [] = []
shows_evicted o (g ∷ gone) = Evict g.who g.cause ∷ to_life g.who (message.Evicted g.who o.boot) ∷ shows_evicted o gone

abbrev pub says_ready : Outcome → Who → Entry
says_ready o who = to_life who (message.Ready who o.boot (record { 0 = o.disk.committed }))

abbrev pub shows_ready : Outcome → List Who → List Entry
shows_ready o [] = []
shows_ready o (who ∷ lives) = says_ready o who ∷ shows_ready o lives

abbrev pub shows_joined : Outcome → List Who → List Entry
shows_joined o [] = []
shows_joined o (who ∷ lives) = Joined who ∷ says_ready o who ∷ shows_joined o lives

-- those of the lives that had a slot before it that stay
abbrev pub staying : Outcome → List Who → List Who
staying o lives = filter (λ who. not (is_life who (lives_in o.gone))) lives

-- lives: those that had a slot before it
abbrev pub shows : Outcome → (lives : List Who) → List Entry
shows o lives =
    commit_of o ∷ kept_lines o.kept ++ (restore_lines o.locks ++ (shows_evicted o o.gone
    ++ (shows_ready o (staying o lives) ++ shows_joined o o.joins)))

abbrev pub but_first : List Entry → List Entry
but_first [] = []
but_first (e ∷ es) = es

abbrev pub closing_after : (lives : List Who) → List Entry → Entry → List Entry
closing_after lives left (Close o) = shows o lives
closing_after lives left _ = but_first left

-- the first of them comes next
abbrev pub closing_of : (clients : ℕ) → List Line → List Entry
closing_of clients [] = []
closing_of clients (l ∷ past) = elim l.at.node [
  | Client c ↦ closing_of clients past
  | Target t
      ↦ closing_after (lives_of clients past) (closing_of clients past) l.entry
]
