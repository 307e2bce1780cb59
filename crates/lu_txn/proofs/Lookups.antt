-- What is found in the slots once a reply was kept, and once lives got their slots.
use Rattle.std.proofs.Common.{◌≡◌, ℕ, zero, suc, ◌<◌, ◌==◌, ◌&&◌, ◌||◌, Bool, true, false, cond, List, [], ◌∷◌, length, Option, Some, None}
use Rattle.std.proofs.Common.{refl, ap, ◌∙◌, arith}
use Rattle.std.specs.Prelude.{All, AllPairs, IsSome, ⊤}
use Rattle.std.specs.List.{fold}
use Rattle.std.proofs.lemmas.Grind.{common_steps}
use Rattle.std.proofs.lemmas.Bool.Decides.{nat_tests}
use Rattle.std.proofs.lemmas.Bool.{eqb-true}
use Rattle.std.proofs.lemmas.Option.{gets}
use Rattle.lu_base.specs.declared.ids.Who.{Who}
use Rattle.lu_msg.specs.declared.messages.Reply.{Reply}
use Rattle.lu_txn.specs.declared.slots.Slot.{Slot}
use Rattle.lu_txn.specs.Slots.{same_life, is_among, is_before, is_of, slot_of, in_slot, reply_at, lives_of, empty, with_tag, with_life}
use Rattle.lu_txn.specs.Slots.{without_life, with_reply}
use Rattle.lu_txn.proofs.SlotLaws.{Before, first_before, rest_rises}

same_as : (a b c : Who) → same_life a b ≡ true → same_life a c ≡ true → same_life c b ≡ true
same_as a b c p q = grind (arith, nat_tests)

not_same : (a b c : Who) → same_life a b ≡ true → same_life a c ≡ false → same_life c b ≡ false
not_same a b c p q = grind (arith, nat_tests)

other_same : (a b c : Who) → same_life a b ≡ false → same_life a c ≡ true → same_life c b ≡ false
other_same a b c p q = grind (arith, nat_tests)

-- the reply at a tag once one is kept
at_tag : (tag : ℕ) (reply : Reply) (slot : Slot) (t : ℕ) → tag < length slot.replies → in_slot t (Some (with_tag tag reply slot))
    ≡ cond (t == tag) (Some reply) (in_slot t (Some slot))
at_tag tag reply slot t within = grind (arith, nat_tests, common_steps, gets)

-- That of this life and tag is the reply, all others are as before.
pub reply_after : (who : Who) (tag : ℕ) (reply : Reply) (slots : List Slot) (other : Who) (t : ℕ) → tag < 8
    → All (λ slot. length slot.replies ≡ 8) slots → IsSome (slot_of who slots) → reply_at other t (with_reply who tag reply slots)
    ≡ cond (same_life other who && t == tag) (Some reply) (reply_at other t slots)
reply_after who tag reply [] other t below eight some = absurd (cc)
reply_after who tag reply (slot ∷ slots) other t below eight some =
    by (is_of who slot) (is_of other slot) refl refl some (reply_after who tag reply slots other t below
    (λ k d within. eight (suc k) d (omega arith))) where
      by : (here there : Bool) → is_of who slot ≡ here → is_of other slot ≡ there → IsSome (cond here (Some slot) (slot_of who slots))
          → (IsSome (slot_of who slots) → reply_at other t (with_reply who tag reply slots)
          ≡ cond (same_life other who && t == tag) (Some reply) (reply_at other t slots))
          → reply_at other t (with_reply who tag reply (slot ∷ slots))
          ≡ cond (same_life other who && t == tag) (Some reply) (reply_at other t (slot ∷ slots))
      by true true e f some rest =
          let length : length slot.replies ≡ 8 = eight 0 slot (omega arith) in
          rw (e, f, same_as slot.who who other e f) (at_tag tag reply slot t (omega arith))
      by true false e f some rest = rw (e, f, not_same slot.who who other e f) refl
      by false true e f some rest = rw (e, f, other_same slot.who who other e f) refl
      by false false e f some rest = rw (e, f) (rest some)

-- slots without replies
abbrev Bare : List Slot → Type 0
Bare [] = ⊤
Bare (slot ∷ slots) = (slot ≡ empty slot.who) × Bare slots

bare-with_life : (who : Who) (slots : List Slot) → Bare slots → Bare (with_life who slots)
bare-with_life who [] bare = (refl, bare)
bare-with_life who (slot ∷ slots) bare = by (is_before slot.who who) (is_of who slot) (bare-with_life who slots bare.1) where
  by : (past here : Bool) → Bare (with_life who slots) → Bare (cond past (slot ∷ with_life who slots)
      (cond here (slot ∷ slots) (empty who ∷ slot ∷ slots)))
  by true here rest = (bare.0, rest)
  by false true rest = bare
  by false false rest = (refl, bare)

both : (a b : Bool) → (a && b) ≡ true → (a ≡ true) × (b ≡ true)
both true b h = (refl, h)
both false b h = cc

same : (a b : Who) → same_life a b ≡ true → a ≡ b
same a b e =
    let parts = both (a.client == b.client) (a.life == b.life) e in
    ap (λ client. record { client = client; life = a.life }) (eqb-true a.client b.client parts.0)
    ∙ ap (λ life. record { client = b.client; life = life }) (eqb-true a.life b.life parts.1)

same_empty : (a b : Who) → same_life a b ≡ true → empty a ≡ empty b
same_empty a b e = ap empty (same a b e)

bare_slot : (slot : Slot) (other : Who) → slot ≡ empty slot.who → is_of other slot ≡ true → slot ≡ empty other
bare_slot slot other bare e = bare ∙ same_empty slot.who other e

-- the slot of a life once another has one
slot_after : (who : Who) (slots : List Slot) (other : Who) → Bare slots → slot_of other (with_life who slots)
    ≡ cond (same_life who other) (Some (empty other)) (slot_of other slots)
slot_after who [] other bare = by (same_life who other) refl where
  by : (wanted : Bool) → same_life who other ≡ wanted → cond wanted (Some (empty who)) None ≡ cond wanted (Some (empty other)) None
  by true e = ap Some (same_empty who other e)
  by false e = refl
slot_after who (slot ∷ slots) other bare =
    by (is_before slot.who who) (is_of who slot) (is_of other slot) (same_life who other) refl refl refl
    (slot_after who slots other bare.1) where
      by : (past here there wanted : Bool) → is_of who slot ≡ here → is_of other slot ≡ there → same_life who other ≡ wanted
          → slot_of other (with_life who slots) ≡ cond wanted (Some (empty other)) (slot_of other slots)
          → slot_of other (cond past (slot ∷ with_life who slots) (cond here (slot ∷ slots) (empty who ∷ slot ∷ slots)))
          ≡ cond wanted (Some (empty other)) (cond there (Some slot) (slot_of other slots))
      by true here true true e f g rest = rw f (ap Some (bare_slot slot other bare.0 f))
      by true here true false e f g rest = rw f refl
      by true here false wanted e f g rest = rw f rest
      by false true true true e f g rest = rw f (ap Some (bare_slot slot other bare.0 f))
      by false true true false e f g rest = rw f refl
      by false true false true e f g rest = absurd (grind (arith, nat_tests))
      by false true false false e f g rest = rw f refl
      by false false there true e f g rest = rw g (ap Some (same_empty who other g))
      by false false there false e f g rest = rw (g, f) refl

either : (test : Bool) (found : Option Slot) → cond test found found ≡ found
either true found = refl
either false found = refl

pub slots_of : (lives : List Who) (slots : List Slot) (who : Who) → Bare slots
    → slot_of who (fold (λ slots who. with_life who slots) slots lives) ≡ cond (is_among who lives) (Some (empty who)) (slot_of who slots)
slots_of [] slots who bare = refl
slots_of (life ∷ lives) slots who bare =
    by (same_life life who) refl (slot_after life slots who bare)
    (slots_of lives (with_life life slots) who (bare-with_life life slots bare)) where
      by : (here : Bool) → same_life life who ≡ here → slot_of who (with_life life slots) ≡ cond here (Some (empty who)) (slot_of who slots)
          → slot_of who (fold (λ slots who. with_life who slots) (with_life life slots) lives)
          ≡ cond (is_among who lives) (Some (empty who)) (slot_of who (with_life life slots))
          → slot_of who (fold (λ slots who. with_life who slots) (with_life life slots) lives)
          ≡ cond (here || is_among who lives) (Some (empty who)) (slot_of who slots)
      by true e at rest = rest ∙ rw at (either (is_among who lives) (Some (empty who)))
      by false e at rest = rest ∙ rw at refl

-- where lives are in order
pub apart : (who life : Who) → Before who life → same_life life who ≡ false
apart who life before = grind (arith, nat_tests)

same_self : (who : Who) → same_life who who ≡ true
same_self who = grind (arith, nat_tests)

pub before_same : (who other life : Who) → same_life who other ≡ true → Before who life → Before other life
before_same who other life same before = grind (arith, nat_tests)

pub front_before : (who : Who) (slot : Slot) → is_before slot.who who ≡ false → is_of who slot ≡ false → Before who slot.who
front_before who slot e f = grind (arith, nat_tests)

before_both : (who life later : Who) → Before who life → Before life later → Before who later
before_both who life later e f = grind (arith, nat_tests)

pub none_after : (who : Who) (slots : List Slot) → All (Before who) (lives_of slots) → slot_of who slots ≡ None
none_after who [] all = refl
none_after who (slot ∷ slots) all =
    let other : is_of who slot ≡ false = apart who slot.who (all 0 slot.who (omega arith)) in
    rw other (none_after who slots (λ k d within. all (suc k) d (omega arith)))

pub all_after : (who : Who) (slot : Slot) (slots : List Slot) → Before who slot.who → AllPairs Before (lives_of (slot ∷ slots))
    → All (Before who) (lives_of (slot ∷ slots))
all_after who slot slots front rises zero d within = front
all_after who slot slots front rises (suc k) d within = before_both who slot.who _ front
    (first_before slot.who (lives_of slots) rises k d (omega arith))

-- a life that has its slot now has it
pub some_with_life : (who : Who) (slots : List Slot) → IsSome (slot_of who (with_life who slots))
some_with_life who [] = rw (same_self who) refl
some_with_life who (slot ∷ slots) = by (is_before slot.who who) (is_of who slot) refl (some_with_life who slots) where
  by : (past here : Bool) → is_of who slot ≡ here → IsSome (slot_of who (with_life who slots))
      → IsSome (slot_of who (cond past (slot ∷ with_life who slots) (cond here (slot ∷ slots) (empty who ∷ slot ∷ slots))))
  by true true e rest = rw e refl
  by true false e rest = rw e rest
  by false true e rest = rw e refl
  by false false e rest = rw (same_self who) refl

pub after_same : (w : Who) (slot : Slot) (slots : List Slot) → is_of w slot ≡ true → AllPairs Before (lives_of (slot ∷ slots))
    → All (Before w) (lives_of slots)
after_same w slot slots same rises = λ k d within. before_same slot.who w _ same (first_before slot.who (lives_of slots) rises k d within)

-- a life without its slot
pub none_without : (who : Who) (slots : List Slot) → AllPairs Before (lives_of slots) → slot_of who (without_life who slots) ≡ None
none_without who [] rises = refl
none_without who (slot ∷ slots) rises = by (is_of who slot) refl (none_without who slots (rest_rises slot.who (lives_of slots) rises)) where
  by : (here : Bool) → is_of who slot ≡ here → slot_of who (without_life who slots) ≡ None
      → slot_of who (cond here slots (slot ∷ without_life who slots)) ≡ None
  by true e rest = none_after who slots (after_same who slot slots e rises)
  by false e rest = rw e rest
