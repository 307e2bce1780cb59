-- The passes over the slots.
use Rattle.std.proofs.Common.{◌≡◌, ℕ, zero, suc, ◌+◌, ◌-◌, ◌<◌, ◌≤◌, Bool, true, false, if◌then◌else◌, List, [], ◌∷◌, drop, refl, sym, ap}
use Rattle.std.proofs.Common.{subst, arith}
use Rattle.std.specs.List.{list_any}
use Rattle.lu_base.specs.declared.ids.At.{At}
use Rattle.lu_trace.specs.Turns.{Making}
use Rattle.lu_spec_entries.specs.Words.{Entry}
use Rattle.lu_spec_client.specs.Slots.{all_slots, goes, is_free_close, passes, slots_go}
use Rattle.lu_spec_client.specs.States.{Client}
use Rattle.lu_client.specs.Clients.{ClientState, Makes, Remains}
use Rattle.lu_client.proofs.Making.{makes_end, remains_step, remains_as, remains_all, remains_at}

-- ---- one pass

slots_left : (slot : ℕ) → slot < 4 → drop slot all_slots ≡ slot ∷ drop (slot + 1) all_slots
slots_left zero inside = refl
slots_left (suc zero) inside = refl
slots_left (suc (suc zero)) inside = refl
slots_left (suc (suc (suc zero))) inside = refl
slots_left (suc (suc (suc (suc slot)))) inside = absurd (omega arith)

-- one slot's call went on, and the slots after it are left
pub passed : (slot : ℕ) (first now next : ClientState) (before making after : Making) → slot < 4
    → Remains (passes before.at all_slots) (passes before.at (drop slot all_slots)) first now before making
    → Makes (goes making.at slot) now next making after
    → Remains (passes before.at all_slots) (passes before.at (drop (slot + 1) all_slots)) first next before after
passed slot first now next before making after inside left makes =
    remains_step (ap (λ (slots : List ℕ). passes before.at slots now.client) (slots_left slot inside)) left
    (subst (λ (at : At). Makes (goes at slot) now next making after) (remains_at left) makes)

-- ---- pass after pass

-- those that are left after so many
rounds_left : (n : ℕ) → n < 5 → 5 - n ≡ suc (5 - (n + 1))
rounds_left n inside = omega arith

-- after the pass, the passes that are left where there is a free close
abbrev then_rounds : ℕ → At → Client → List Entry
then_rounds more at k = if list_any (is_free_close k.calls) k.calls then slots_go more at k else []

-- a pass was made, and there is a free close
pub round : (n : ℕ) (first now next : ClientState) (before making after : Making) → n < 5
    → Remains (slots_go 5 before.at) (slots_go (5 - n) before.at) first now before making
    → Makes (passes making.at all_slots) now next making after
    → list_any (is_free_close next.client.calls) next.client.calls ≡ true
    → Remains (slots_go 5 before.at) (slots_go (5 - (n + 1)) before.at) first next before after
round n first now next before making after inside left passed free =
    remains_as (sym (ap (λ (b : Bool). if b then slots_go (5 - (n + 1)) before.at next.client else []) free))
    (remains_step {rest = then_rounds (5 - (n + 1)) before.at} (ap (λ (m : ℕ). slots_go m before.at now.client) (rounds_left n inside)) left
    (subst (λ (at : At). Makes (passes at all_slots) now next making after) (remains_at left) passed))

-- or none, and nothing is left to do
pub round_ends : (n : ℕ) (first now next : ClientState) (before making after : Making) → n < 5
    → Remains (slots_go 5 before.at) (slots_go (5 - n) before.at) first now before making
    → Makes (passes making.at all_slots) now next making after
    → list_any (is_free_close next.client.calls) next.client.calls ≡ false → Makes (slots_go 5 before.at) first next before after
round_ends n first now next before making after inside left passed none =
    remains_all (remains_as (sym (ap (λ (m : ℕ). slots_go m before.at now.client) (rounds_left n inside))) left)
    (makes_end (then_rounds (5 - (n + 1)) before.at) (ap (λ (b : Bool). if b then slots_go (5 - (n + 1)) before.at next.client else [])
    none)
    (subst (λ (at : At). Makes (passes at all_slots) now next making after) (remains_at left) passed))

-- all passes were made
pub rounds_done : (n : ℕ) → 5 ≤ n → 5 - n ≡ 0
rounds_done n past = omega arith
