-- What keeping a reply, and a new slot, do to the slots.
use Rattle.std.proofs.Common.{◌≡◌, ℕ, suc, ◌+◌, ◌≤◌, Bool, true, false, cond, List, [], ◌∷◌, length, get_or, Some, refl, ap, ◌∙◌, arith}
use Rattle.std.specs.Prelude.{slice_set, All, AllPairs, IsSome}
use Rattle.std.specs.List.{fold}
use Rattle.std.proofs.lemmas.List.Kept.{AllPairs-cons}
use Rattle.std.proofs.lemmas.List.Elements.{All-cons}
use Rattle.std.proofs.lemmas.List.{length-set}
use Rattle.std.proofs.lemmas.Bool.Decides.{nat_tests}
use Rattle.lu_base.specs.declared.ids.Who.{Who}
use Rattle.lu_msg.specs.declared.messages.Reply.{Reply}
use Rattle.lu_txn.specs.declared.slots.Slot.{Slot}
use Rattle.lu_txn.specs.Slots.{is_before, is_of, slot_of, lives_of, empty, with_tag, with_life, without_life, with_reply}

-- the slots keep their lives
pub lives-with_reply : (who : Who) (tag : ℕ) (reply : Reply) (slots : List Slot) → lives_of (with_reply who tag reply slots)
    ≡ lives_of slots
lives-with_reply who tag reply [] = refl
lives-with_reply who tag reply (slot ∷ slots) = by (is_of who slot) (lives-with_reply who tag reply slots) where
  by : (here : Bool) → lives_of (with_reply who tag reply slots) ≡ lives_of slots
      → lives_of (cond here (record slot { replies = slice_set slot.replies tag (Some reply) } ∷ slots)
      (slot ∷ with_reply who tag reply slots)) ≡ lives_of (slot ∷ slots)
  by true rest = refl
  by false rest = ap (λ lives. slot.who ∷ lives) rest

-- the lives rise
abbrev pub Before : Who → Who → Type 0
Before earlier later = is_before earlier later ≡ true

transitive : (a b c : Who) → Before a b → Before b c → Before a c
transitive a b c = grind (arith, nat_tests)

other_way : (a b : Slot) (who : Who) → is_before b.who who ≡ false → is_of who b ≡ false → Before who b.who
other_way a b who = grind (arith, nat_tests)

pub rest_rises : (life : Who) (lives : List Who) → AllPairs Before (life ∷ lives) → AllPairs Before lives
rest_rises life lives rises = λ i j d less within. rises (suc i) (suc j) d (omega arith) (omega arith)

pub first_before : (life : Who) (lives : List Who) → AllPairs Before (life ∷ lives) → All (Before life) lives
first_before life lives rises = λ k d within. rises 0 (suc k) d (omega arith) (omega arith)

before_all : (earlier who : Who) (slots : List Slot) → Before earlier who → All (Before earlier) (lives_of slots)
    → All (Before earlier) (lives_of (with_life who slots))
before_all earlier who [] before all = All-cons (Before earlier) who [] before all
before_all earlier who (slot ∷ slots) before all = by (is_before slot.who who) (is_of who slot)
    (before_all earlier who slots before (λ k d within. all (suc k) d (omega arith))) where
      by : (past here : Bool) → All (Before earlier) (lives_of (with_life who slots))
          → All (Before earlier) (lives_of (cond past (slot ∷ with_life who slots) (cond here (slot ∷ slots) (empty who ∷ slot ∷ slots))))
      by true here rest = All-cons (Before earlier) slot.who (lives_of (with_life who slots)) (all 0 slot.who (omega arith)) rest
      by false true rest = all
      by false false rest = All-cons (Before earlier) who (lives_of (slot ∷ slots)) before all

pub rises-with_life : (who : Who) (slots : List Slot) → AllPairs Before (lives_of slots) → AllPairs Before (lives_of (with_life who slots))
rises-with_life who [] rises = AllPairs-cons Before who [] (λ k d within. absurd (omega arith)) rises
rises-with_life who (slot ∷ slots) rises = by (is_before slot.who who) (is_of who slot) refl refl
    (rises-with_life who slots (rest_rises slot.who (lives_of slots) rises)) where
      by : (past here : Bool) → is_before slot.who who ≡ past → is_of who slot ≡ here → AllPairs Before (lives_of (with_life who slots))
          → AllPairs Before (lives_of (cond past (slot ∷ with_life who slots) (cond here (slot ∷ slots) (empty who ∷ slot ∷ slots))))
      by true here e f rest = AllPairs-cons Before slot.who (lives_of (with_life who slots))
          (before_all slot.who who slots e (first_before slot.who (lives_of slots) rises)) rest
      by false true e f rest = rises
      by false false e f rest =
          let front : Before who slot.who = other_way slot slot who e f in
          AllPairs-cons Before who (lives_of (slot ∷ slots)) (All-cons (Before who) slot.who (lives_of slots) front
          (λ k d within. transitive who slot.who (get_or (lives_of slots) k d) front
          (first_before slot.who (lives_of slots) rises k d within))) rises

pub rises-with_lives : (lives : List Who) (slots : List Slot) → AllPairs Before (lives_of slots)
    → AllPairs Before (lives_of (fold (λ slots who. with_life who slots) slots lives))
rises-with_lives [] slots rises = rises
rises-with_lives (who ∷ lives) slots rises = rises-with_lives lives (with_life who slots) (rises-with_life who slots rises)

-- each slot has eight tags
abbrev pub Eight : Slot → Type 0
Eight slot = length slot.replies ≡ 8

rest_all : (slot : Slot) (slots : List Slot) → All Eight (slot ∷ slots) → All Eight slots
rest_all slot slots all = λ k d within. all (suc k) d (omega arith)

pub tags-with_reply : (who : Who) (tag : ℕ) (reply : Reply) (slots : List Slot) → All Eight slots
    → All Eight (with_reply who tag reply slots)
tags-with_reply who tag reply [] all = all
tags-with_reply who tag reply (slot ∷ slots) all = by (is_of who slot) (tags-with_reply who tag reply slots (rest_all slot slots all)) where
  by : (here : Bool) → All Eight (with_reply who tag reply slots)
      → All Eight (cond here (with_tag tag reply slot ∷ slots) (slot ∷ with_reply who tag reply slots))
  by true rest = All-cons Eight (with_tag tag reply slot) slots (length-set slot.replies tag (Some reply) ∙ all 0 slot (omega arith))
      (rest_all slot slots all)
  by false rest = All-cons Eight slot (with_reply who tag reply slots) (all 0 slot (omega arith)) rest

pub tags-with_life : (who : Who) (slots : List Slot) → All Eight slots → All Eight (with_life who slots)
tags-with_life who [] all = All-cons Eight (empty who) [] refl all
tags-with_life who (slot ∷ slots) all = by (is_before slot.who who) (is_of who slot)
    (tags-with_life who slots (rest_all slot slots all)) where
      by : (past here : Bool) → All Eight (with_life who slots) → All Eight
          (cond past (slot ∷ with_life who slots) (cond here (slot ∷ slots) (empty who ∷ slot ∷ slots)))
      by true here rest = All-cons Eight slot (with_life who slots) (all 0 slot (omega arith)) rest
      by false true rest = all
      by false false rest = All-cons Eight (empty who) (slot ∷ slots) refl all

pub tags-with_lives : (lives : List Who) (slots : List Slot) → All Eight slots
    → All Eight (fold (λ slots who. with_life who slots) slots lives)
tags-with_lives [] slots all = all
tags-with_lives (who ∷ lives) slots all = tags-with_lives lives (with_life who slots) (tags-with_life who slots all)

-- a life without its slot
before_without : (earlier who : Who) (slots : List Slot) → All (Before earlier) (lives_of slots)
    → All (Before earlier) (lives_of (without_life who slots))
before_without earlier who [] all = all
before_without earlier who (slot ∷ slots) all = by (is_of who slot)
    (before_without earlier who slots (λ k d within. all (suc k) d (omega arith))) where
      by : (here : Bool) → All (Before earlier) (lives_of (without_life who slots))
          → All (Before earlier) (lives_of (cond here slots (slot ∷ without_life who slots)))
      by true rest = λ k d within. all (suc k) d (omega arith)
      by false rest = All-cons (Before earlier) slot.who (lives_of (without_life who slots)) (all 0 slot.who (omega arith)) rest

pub rises-without_life : (who : Who) (slots : List Slot) → AllPairs Before (lives_of slots)
    → AllPairs Before (lives_of (without_life who slots))
rises-without_life who [] rises = rises
rises-without_life who (slot ∷ slots) rises = by (is_of who slot)
    (rises-without_life who slots (rest_rises slot.who (lives_of slots) rises)) where
      by : (here : Bool) → AllPairs Before (lives_of (without_life who slots))
          → AllPairs Before (lives_of (cond here slots (slot ∷ without_life who slots)))
      by true rest = rest_rises slot.who (lives_of slots) rises
      by false rest = AllPairs-cons Before slot.who (lives_of (without_life who slots))
          (before_without slot.who who slots (first_before slot.who (lives_of slots) rises)) rest

pub tags-without_life : (who : Who) (slots : List Slot) → All Eight slots → All Eight (without_life who slots)
tags-without_life who [] all = all
tags-without_life who (slot ∷ slots) all = by (is_of who slot) (tags-without_life who slots (rest_all slot slots all)) where
  by : (here : Bool) → All Eight (without_life who slots) → All Eight (cond here slots (slot ∷ without_life who slots))
  by true rest = rest_all slot slots all
  by false rest = All-cons Eight slot (without_life who slots) (all 0 slot (omega arith)) rest

-- how many there are
pub length-with_life : (who : Who) (slots : List Slot) → length (with_life who slots) ≤ length slots + 1
length-with_life who [] = omega arith
length-with_life who (slot ∷ slots) = by (is_before slot.who who) (is_of who slot) (length-with_life who slots) where
  by : (past here : Bool) → length (with_life who slots) ≤ length slots + 1
      → length (cond past (slot ∷ with_life who slots) (cond here (slot ∷ slots) (empty who ∷ slot ∷ slots))) ≤ length (slot ∷ slots) + 1
  by true here rest = omega (arith, rest)
  by false true rest = omega arith
  by false false rest = omega arith

pub length-without_life : (who : Who) (slots : List Slot) → IsSome (slot_of who slots) → length (without_life who slots) + 1 ≡ length slots
length-without_life who [] some = absurd (cc)
length-without_life who (slot ∷ slots) some = by (is_of who slot) some (length-without_life who slots) where
  by : (here : Bool) → IsSome (cond here (Some slot) (slot_of who slots))
      → (IsSome (slot_of who slots) → length (without_life who slots) + 1 ≡ length slots)
      → length (cond here slots (slot ∷ without_life who slots)) + 1 ≡ length (slot ∷ slots)
  by true some rest = omega arith
  by false some rest = let one : length (without_life who slots) + 1 ≡ length slots = rest some in omega arith

pub length-with_reply : (who : Who) (tag : ℕ) (reply : Reply) (slots : List Slot) → length (with_reply who tag reply slots) ≡ length slots
length-with_reply who tag reply [] = refl
length-with_reply who tag reply (slot ∷ slots) = by (is_of who slot) (length-with_reply who tag reply slots) where
  by : (here : Bool) → length (with_reply who tag reply slots) ≡ length slots
      → length (cond here (with_tag tag reply slot ∷ slots) (slot ∷ with_reply who tag reply slots)) ≡ length (slot ∷ slots)
  by true rest = refl
  by false rest = ap suc rest
