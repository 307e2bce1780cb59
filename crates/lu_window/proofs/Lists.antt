-- Walks over lu_window's maps, as walks over the lists that contracts see.
use Rattle.std.proofs.Common.{◌≡◌, ℕ, Bool, not, ◌&&◌, List, filter, map, ap, sym, ◌∙◌, nat_lt}
use Rattle.std.specs.List.{list_any}
use Rattle.std.specs.Map.{keys_of}
use Rattle.lu_base.specs.declared.ids.Who.{Who}
use Rattle.lu_base.specs.declared.locks.Lock.{Lock}
use Rattle.lu_spec_entries.specs.Carried.{Gone}
use Rattle.lu_spec_entries.specs.Words.{same_life}
use Rattle.lu_replay.specs.declared.handed.Key.{Key}
use Rattle.lu_replay.specs.declared.replays.ReplayBody.{ReplayBody}
use Rattle.lu_spec_target.specs.Lives.{is_life, lives_of}
use Rattle.lu_spec_target.specs.Windows.{Replayed, has_number, is_lost, lost_of, has_lost, staying}
use Rattle.lu_window.specs.declared.brought.LockBody.{LockBody}
use Rattle.lu_window.specs.declared.outcomes.Eviction.{Eviction}
use Rattle.lu_window.specs.Shown.{replayed_of, lock_of, gone}
use Rattle.lu_window.proofs.Maps.{any_map, filter_map, map_map}
use Rattle.lu_window.proofs.Closes.{filter_same}

abbrev goes : List Eviction → Who → Bool
goes evicted who = list_any (λ eviction. same_life who eviction.who) evicted

left : (evicted : List Eviction) (who : Who) → is_life who (lives_of (map gone evicted)) ≡ goes evicted who
left evicted who = any_map (λ (g : Gone). g.who) (same_life who) (map gone evicted) ∙ any_map gone (λ g. same_life who g.who) evicted

pub locks_staying : (evicted : List Eviction) (items : List (Key × LockBody))
    → map lock_of (filter (λ item. not (goes evicted item.0.who)) items) ≡ staying (map gone evicted) (map lock_of items)
locks_staying evicted items =
    sym (filter_map lock_of (λ lock. not (is_life lock.ask.who (lives_of (map gone evicted)))) items
    ∙ ap (map lock_of) (filter_same (λ item. not (is_life item.0.who (lives_of (map gone evicted)))) (λ item. not (goes evicted item.0.who))
    items (λ item. ap not (left evicted item.0.who))))

abbrev key_lost : ℕ → List ℕ → Key → Bool
key_lost committed kept key = nat_lt committed key.number && not (has_number key.number kept)

pub numbers_lost : (committed : ℕ) (kept : List ℕ) (items : List (Key × ReplayBody))
    → map (λ key. key.number) (filter (key_lost committed kept) (keys_of items)) ≡ lost_of committed kept (map replayed_of items)
numbers_lost committed kept items =
    ap (map (λ (key : Key). key.number)) (filter_map (λ (item : Key × ReplayBody). item.0) (key_lost committed kept) items)
    ∙ map_map (λ (item : Key × ReplayBody). item.0) (λ key. key.number) (filter (λ item. key_lost committed kept item.0) items)
    ∙ sym (ap (map (λ (r : Replayed). r.number)) (filter_map replayed_of (is_lost committed kept) items)
    ∙ map_map replayed_of (λ r. r.number) (filter (λ item. key_lost committed kept item.0) items))

pub one_lost : (committed : ℕ) (kept : List ℕ) (who : Who) (items : List (Key × ReplayBody))
    → list_any (λ key. same_life key.who who && key_lost committed kept key) (keys_of items)
    ≡ has_lost committed kept (map replayed_of items) who
one_lost committed kept who items =
    any_map (λ (item : Key × ReplayBody). item.0) (λ key. same_life key.who who && key_lost committed kept key) items
    ∙ sym (any_map replayed_of (λ r. same_life r.who who && is_lost committed kept r) items)
