-- What a target's recovery window shows of the state that the rows read while the target recovers: they are the same.
use Rattle.std.specs.Prelude.{◌≡◌, Bool, if◌then◌else◌, List, [], ◌∷◌, map}
use Rattle.std.specs.List.{list_any}
use Rattle.lu_base.specs.declared.ids.Who.{Who}
use Rattle.lu_base.specs.declared.locks.Lock.{Lock}
use Rattle.lu_msg.specs.declared.messages.RequestReplay.{RequestReplay}
use Rattle.lu_spec_entries.specs.Carried.{Said}
use Rattle.lu_spec_entries.specs.Words.{Entry, Back, Stores, Brings, Says, Wishes}
use Rattle.lu_window.specs.declared.outcomes.Outcome.{Outcome}
use Rattle.lu_window.specs.Shown.{kept_replay, gone}
use Rattle.lu_spec_target.specs.Windows.{Window, Settled, is_replay, is_lock, is_word, is_newest}
use Rattle.lu_spec_target.specs.Kept.{replayed}
use Rattle.lu_spec_target.specs.Outcomes.{window_of}
use Rattle.lu_spec_target.specs.Recovery.{cut}
use Rattle.lu_spec_target.specs.States.{Target}

abbrev pub ShowsWindow : Window → Target → Type 0
ShowsWindow window v = window ≡ window_of v

-- ---- what is taken, once: the entry of it, none where it was there

abbrev pub stores : Target → RequestReplay → List Entry
stores v r = if list_any (is_replay (replayed r)) v.replays then [] else Stores (cut r) ∷ []

abbrev pub brings : Target → Lock → List Entry
brings v l = if list_any (is_lock l) v.brought then [] else Brings l ∷ []

abbrev pub says : Target → Said → List Entry
says v word = if list_any (is_word word) v.words then [] else Says word ∷ []

abbrev pub wishes : Target → Who → List Entry
wishes v who = if is_newest who v.wishes then Wishes who ∷ [] else []

-- the line of a life that is back by it
abbrev pub backs : Bool → Who → List Entry
backs back who = if back then Back who ∷ [] else []

-- ---- what a close decides

abbrev pub settled_of : Outcome → Settled
settled_of o = record { kept = map kept_replay o.kept; lost = o.lost; gone = map gone o.evicted; locks = o.locks; joins = o.joins }
