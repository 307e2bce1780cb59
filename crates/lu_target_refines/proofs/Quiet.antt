-- Lists of entries that the journal and the disk don't read.
use Rattle.std.proofs.Common.{◌≡◌, ◌&&◌, Bool, true, false, List, [], ◌∷◌, ◌++◌, refl}
use Rattle.std.specs.Prelude.{if◌then◌else◌}
use Rattle.std.specs.List.{list_any}
use Rattle.lu_base.specs.declared.ids.Who.{Who}
use Rattle.lu_base.specs.declared.locks.Lock.{Lock}
use Rattle.lu_base.specs.declared.locks.Resource.{Resource}
use Rattle.lu_spec_entries.specs.Carried.{Deed, Called, Glimpse, Gone}
use Rattle.lu_spec_entries.specs.Words.{Entry, Block}
use Rattle.lu_spec_target.specs.States.{Target, turn, follow}
use Rattle.lu_spec_target.specs.Replies.{is_called, called, block_of, locks_on, blocks}
use Rattle.lu_spec_target.specs.Queues.{conflicting, blocks_go, has_to_wait, grown, grant_entries, grants_go, queue_goes, queues_go}
use Rattle.lu_spec_target.specs.Locks.{same_glimpse}
use Rattle.lu_spec_target.specs.Glimpses.{ask_of, glimpses_of}
use Rattle.lu_spec_target.specs.Leaving.{block_again, asks_again, sends_again}
use Rattle.lu_spec_target.specs.Recovery.{kept_lines, restore_lines, evict_lines, ready_lines, joined_lines, up_lines}
use Rattle.lu_target_refines.specs.Unread.{all_unread, is_unread}

-- two lists, one after the other
pub unread_append : (es fs : List Entry) → all_unread es ≡ true → all_unread fs ≡ true → all_unread (es ++ fs) ≡ true
unread_append [] fs one two = two
unread_append (e ∷ es) fs one two = by (is_unread e) (all_unread es) one (λ h. unread_append es fs h two) where
  by : (a b : Bool) → (a && b) ≡ true → (b ≡ true → all_unread (es ++ fs) ≡ true) → (a && all_unread (es ++ fs)) ≡ true
  by true b h rest = rest h
  by false b h rest = h

-- ---- the lines of a close and of a boot

pub kept_unread : (deeds : List Deed) → all_unread (kept_lines deeds) ≡ true
kept_unread [] = refl
kept_unread (d ∷ deeds) = kept_unread deeds

pub restore_unread : (locks : List Lock) → all_unread (restore_lines locks) ≡ true
restore_unread [] = refl
restore_unread (l ∷ locks) = restore_unread locks

pub evict_unread : (v : Target) (gone : List Gone) → all_unread (evict_lines v gone) ≡ true
evict_unread v [] = refl
evict_unread v (g ∷ gone) = evict_unread v gone

pub ready_unread : (v : Target) (lives : List Who) → all_unread (ready_lines v lives) ≡ true
ready_unread v [] = refl
ready_unread v (who ∷ lives) = ready_unread v lives

pub joined_unread : (v : Target) (lives : List Who) → all_unread (joined_lines v lives) ≡ true
joined_unread v [] = refl
joined_unread v (who ∷ lives) = joined_unread v lives

pub up_unread : (v : Target) (lives : List Who) → all_unread (up_lines v lives) ≡ true
up_unread v [] = refl
up_unread v (who ∷ lives) = up_unread v lives

-- ---- calling back, and grants of locks that had waited

pub blocks_unread : (v : Target) (locks : List Lock) → all_unread (blocks v locks) ≡ true
blocks_unread v [] = refl
blocks_unread v (l ∷ locks) = by (is_called l.cookie v.called) (blocks_unread v locks) where
  by : (before : Bool) → all_unread (blocks v locks) ≡ true → all_unread
      (if before then blocks v locks else Block (called v l) ∷ block_of v l ∷ blocks v locks) ≡ true
  by true rest = rest
  by false rest = rest

pub blocks_go_unread : (waiting : List Lock) (v : Target) → all_unread (blocks_go waiting v) ≡ true
blocks_go_unread [] v = refl
blocks_go_unread (l ∷ waiting) v =
    unread_append (blocks v (conflicting v l)) (blocks_go waiting (turn v (blocks v (conflicting v l)))) (blocks_unread v (conflicting v l))
    (blocks_go_unread waiting (turn v (blocks v (conflicting v l))))

pub grants_go_unread : (ahead later : List Lock) (v : Target) → all_unread (grants_go ahead later v) ≡ true
grants_go_unread ahead [] v = refl
grants_go_unread ahead (l ∷ later) v =
    by (has_to_wait v ahead l) (grants_go_unread (ahead ++ l ∷ []) later v)
    (grants_go_unread ahead later (turn v (grant_entries v (grown v (ahead ++ later) l)))) where
      by : (waits : Bool) → all_unread (grants_go (ahead ++ l ∷ []) later v) ≡ true
          → all_unread (grants_go ahead later (turn v (grant_entries v (grown v (ahead ++ later) l)))) ≡ true
          → all_unread (if waits then grants_go (ahead ++ l ∷ []) later v
          else follow v (grant_entries v (grown v (ahead ++ later) l)) (grants_go ahead later)) ≡ true
      by true one two = one
      by false one two = two

pub queue_goes_unread : (r : Resource) (v : Target) → all_unread (queue_goes r v) ≡ true
queue_goes_unread r v =
    unread_append (grants_go [] (locks_on r v.waiting) v) (blocks_go (locks_on r (turn v (grants_go [] (locks_on r v.waiting) v)).waiting)
    (turn v (grants_go [] (locks_on r v.waiting) v)))
    (grants_go_unread [] (locks_on r v.waiting) v)
    (blocks_go_unread (locks_on r (turn v (grants_go [] (locks_on r v.waiting) v)).waiting)
    (turn v (grants_go [] (locks_on r v.waiting) v)))

pub queues_go_unread : (rs : List Resource) (v : Target) → all_unread (queues_go rs v) ≡ true
queues_go_unread [] v = refl
queues_go_unread (r ∷ rs) v = unread_append (queue_goes r v) (queues_go rs (turn v (queue_goes r v))) (queue_goes_unread r v)
    (queues_go_unread rs (turn v (queue_goes r v)))

-- ---- what is sent again at a tick

block_again_unread : (v : Target) (l : Lock) (before : List Called) → all_unread (block_again v l before) ≡ true
block_again_unread v l before = by (is_called l.cookie before && is_called l.cookie v.called) where
  by : (again : Bool) → all_unread (if again then block_of v l ∷ [] else []) ≡ true
  by true = refl
  by false = refl

asks_again_unread : (v : Target) (l : Lock) (before : List Glimpse) → all_unread (asks_again v l before) ≡ true
asks_again_unread v l [] = refl
asks_again_unread v l (g ∷ before) = by (list_any (same_glimpse g) v.glimpses) (asks_again_unread v l before) where
  by : (still : Bool) → all_unread (asks_again v l before) ≡ true
      → all_unread (if still then ask_of v l g.request ∷ asks_again v l before else asks_again v l before) ≡ true
  by true rest = rest
  by false rest = rest

pub sends_again_unread : (v : Target) (called : List Called) (glimpses : List Glimpse) (locks : List Lock)
    → all_unread (sends_again v called glimpses locks) ≡ true
sends_again_unread v called glimpses [] = refl
sends_again_unread v called glimpses (l ∷ locks) =
    unread_append (block_again v l called) (asks_again v l (glimpses_of l glimpses) ++ sends_again v called glimpses locks)
    (block_again_unread v l called)
    (unread_append (asks_again v l (glimpses_of l glimpses)) (sends_again v called glimpses locks)
    (asks_again_unread v l (glimpses_of l glimpses)) (sends_again_unread v called glimpses locks))
