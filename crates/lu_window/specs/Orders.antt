-- What a window takes, in any order: its outcome is over sets.
use Rattle.std.specs.Prelude.{◌≡◌, ⊤, ◌⊎◌, true, List, [], ◌∷◌}
use Rattle.lu_base.specs.declared.ids.Who.{Who}
use Rattle.lu_base.specs.declared.locks.Lock.{Lock}
use Rattle.lu_spec_entries.specs.Carried.{Said}
use Rattle.lu_spec_target.specs.Windows.{Replayed, Window, is_replay, is_lock, is_word}
use Rattle.lu_window.specs.States.{took_replay, took_lock, took_word, took_wish}

-- One thing that a window takes: a replay, a lock, a word, a wish to join.
pub data Taken : Type 0 where
  Replays : (replay : Replayed) → Taken
  Brings : (lock : Lock) → Taken
  Says : (word : Said) → Taken
  Wishes : (who : Who) → Taken

abbrev pub took : Taken → Window → Window
took (Replays r) v = took_replay r v
took (Brings l) v = took_lock l v
took (Says word) v = took_word word v
took (Wishes who) v = took_wish who v

-- one after another, the first first
abbrev pub all_took : List Taken → Window → Window
all_took [] v = v
all_took (t ∷ ts) v = all_took ts (took t v)

-- it is one of these
abbrev pub IsAmong : Taken → List Taken → Type 0
IsAmong t [] = ⊥
IsAmong t (one ∷ ts) = (t ≡ one) ⊎ IsAmong t ts

-- under one number, cookie or life they say one thing
abbrev pub Agree : Taken → Taken → Type 0
Agree (Replays r) (Replays s) = is_replay r s ≡ true → r ≡ s
Agree (Brings l) (Brings k) = is_lock l k ≡ true → l ≡ k
Agree (Says word) (Says other) = is_word word other ≡ true → word ≡ other
Agree _ _ = ⊤

abbrev pub AllAgree : List Taken → Type 0
AllAgree ts = (one other : Taken) → IsAmong one ts → IsAmong other ts → Agree one other

-- the same things, in whatever order, and each as often as it may be
abbrev pub AreTheSame : List Taken → List Taken → Type 0
AreTheSame ts us = ((t : Taken) → IsAmong t ts → IsAmong t us) × ((t : Taken) → IsAmong t us → IsAmong t ts)
