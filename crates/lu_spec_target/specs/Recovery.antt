-- A target that recovers (Lustre Operations Manual, recovery): a boot, what it takes of the lives that come back, and the
-- close of its window, which comes when every life is back or has left, by the command, or at a boot without lives.
use Rattle.std.specs.Prelude.{◌+◌, nat_lt, ◌==◌, ◌&&◌, not, if◌then◌else◌, Bool, List, [], ◌∷◌, ◌++◌, filter, Option, Some, None}
use Rattle.std.specs.List.{list_any}
use Rattle.lu_base.specs.declared.ids.At.{At}
use Rattle.lu_base.specs.declared.ids.Who.{Who}
use Rattle.lu_base.specs.declared.locks.Lock.{Lock}
use Rattle.lu_msg.specs.declared.messages.RequestReplay.{RequestReplay}
use Rattle.lu_spec_entries.specs.Carried.{Deed, Said, Gone, Outcome}
use Rattle.lu_spec_entries.specs.Words.{Entry, Commit, Boot, Back, Close, Kept, Restore, Evict, Joined, Stores, Brings, Says, Wishes}
use Rattle.lu_spec_target.specs.Lives.{is_life, lives_of}
use Rattle.lu_spec_target.specs.Stored.{batch_of}
use Rattle.lu_spec_target.specs.States.{Target, follow}
use Rattle.lu_spec_target.specs.Leaving.{up, evicted, ready, life_of}
use Rattle.lu_spec_target.specs.Windows.{is_replay, cut_seen, is_lock, word_of, is_newest, is_back, all_settled}
use Rattle.lu_spec_target.specs.Kept.{replayed}
use Rattle.lu_spec_target.specs.Outcomes.{window_of, outcome_of}

-- ---- a close: the commit, and what shows the outcome

abbrev pub kept_lines : List Deed → List Entry
kept_lines [] = []
kept_lines (d ∷ deeds) = Kept d.reply.txn ∷ kept_lines deeds

abbrev pub restore_lines : List Lock → List Entry
restore_lines [] = []
restore_lines (l ∷ locks) = Restore l ∷ restore_lines locks

abbrev pub evict_lines : Target → List Gone → List Entry
evict_lines v [] = []
evict_lines v (g ∷ gone) = Evict g.who g.cause ∷ evicted v g.who ∷ evict_lines v gone

abbrev pub ready_lines : Target → List Who → List Entry
ready_lines v [] = []
ready_lines v (who ∷ lives) = ready v who ∷ ready_lines v lives

abbrev pub joined_lines : Target → List Who → List Entry
joined_lines v [] = []
joined_lines v (who ∷ lives) = Joined who ∷ ready v who ∷ joined_lines v lives

abbrev pub commit_of : Outcome → Entry
commit_of o = Commit o.disk.committed (batch_of o.kept (lives_of o.gone) o.joins)

-- lives: those that had a slot before
abbrev pub answers_all : Outcome → List Who → Target → List Entry
answers_all o lives v =
    evict_lines v o.gone ++ (ready_lines v (filter (λ who. not (is_life who (lives_of o.gone))) lives) ++ joined_lines v o.joins)

abbrev pub closes : Target → Outcome → List Entry
closes v o = follow v (Close o ∷ commit_of o ∷ kept_lines o.kept ++ restore_lines o.locks) (answers_all o v.lives)

abbrev pub row_close : At → Target → List Entry
row_close at v = closes v (outcome_of v at)

abbrev pub settles : At → Target → List Entry
settles at v = if all_settled (window_of v) v.lives then row_close at v else []

-- ---- what is taken: it is kept, once; with what comes last its life is back

abbrev pub back_line : Bool → Who → Target → List Entry
back_line before who v = if is_back (window_of v) who && not before then Back who ∷ [] else []

abbrev pub row_keeps : Target → At → Who → Entry → List Entry
row_keeps v at who e = follow v (e ∷ []) (λ w. follow w (back_line (is_back (window_of v) who) who w) (settles at))

-- it is kept without what it can't have seen
abbrev pub cut : RequestReplay → RequestReplay
cut r = record r { seen = (cut_seen (replayed r)).seen }

abbrev pub row_replay : Target → At → RequestReplay → List Entry
row_replay v at r = if list_any (is_replay (replayed r)) v.replays then [] else row_keeps v at r.who (Stores (cut r))

abbrev pub row_lock : Target → At → Lock → List Entry
row_lock v at l = if list_any (is_lock l) v.brought then [] else row_keeps v at l.ask.who (Brings l)

abbrev pub row_says : Target → At → Said → Option Said → List Entry
row_says v at word None = row_keeps v at word.who (Says word)
row_says v at word (Some before) = []

abbrev pub row_word : Target → At → Said → List Entry
row_word v at word = row_says v at word (word_of word.who v.words)

-- ---- joins: that of the life with a slot counts as its word; a newer life is kept in mind, and of several the newest; an
-- older one, and a client without a slot, are passed over

abbrev pub empty_word : Who → Said
empty_word who = record { who = who; replays = 0; locks = 0; seen = [] }

abbrev pub wishes_by : Target → At → Who → Option Who → List Entry
wishes_by v at who None = []
wishes_by v at who (Some old) =
    if who.life == old.life
    then row_word v at (empty_word who)
    else (if nat_lt old.life who.life && is_newest who v.wishes then row_keeps v at old (Wishes who) else [])

abbrev pub row_wish : Target → At → Who → List Entry
row_wish v at who = wishes_by v at who (life_of who.client v.lives)

-- ---- a boot: the disk is loaded, the next boot is committed, and each life with a slot is told

abbrev pub up_lines : Target → List Who → List Entry
up_lines v [] = []
up_lines v (who ∷ lives) = up v who ∷ up_lines v lives

abbrev pub row_boot : Target → At → List Entry
row_boot v at = follow v (Boot (v.disk.boot + 1) v.disk ∷ []) (λ w. up_lines w w.lives ++ settles at w)
