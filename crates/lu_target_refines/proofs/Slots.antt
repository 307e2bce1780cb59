-- The slots of the rows beside those of the journal: once a slot is put, once lives have left.
use Rattle.std.proofs.Common.{◌≡◌, ℕ, ◌==◌, ◌&&◌, Bool, true, false, List, [], ◌∷◌, Option, Some, None, refl, sym, ap, ◌∙◌, arith}
use Rattle.std.specs.Prelude.{IsSome, if◌then◌else◌, not}
use Rattle.std.proofs.lemmas.Bool.Decides.{nat_tests}
use Rattle.std.proofs.lemmas.Bool.{eqb-true}
use Rattle.lu_base.specs.declared.ids.Who.{Who}
use Rattle.lu_msg.specs.declared.messages.Reply.{Reply}
use Rattle.lu_txn.specs.declared.slots.Slot.{Slot as SlotOf}
use Rattle.lu_txn.specs.Slots.{reply_at, IsReplyKept}
use Rattle.lu_spec_entries.specs.Carried.{Deed, Slot, LifeSlot}
use Rattle.lu_spec_entries.specs.Words.{same_life}
use Rattle.lu_spec_target.specs.Lives.{is_life, no_slot, is_slot_of, slot_in, with_slot, slots_answered, slots_without}
use Rattle.lu_target_refines.specs.Journals.{Taken, TakenBy, slot_shown, AreShown, IsEntered, answered, IsAnswered}

-- ---- lives

pub never : true ≡ false → ⊥
never e = cc

pub both : (a b : Bool) → (a && b) ≡ true → (a ≡ true) × (b ≡ true)
both true b h = (refl, h)
both false b h = absurd (cc)

pub one_life : (a b : Who) → same_life a b ≡ true → a ≡ b
one_life a b e =
    let parts = both (a.client == b.client) (a.life == b.life) e in
    ap (λ client. record { client = client; life = a.life }) (eqb-true a.client b.client parts.0)
    ∙ ap (λ life. record { client = b.client; life = life }) (eqb-true a.life b.life parts.1)

pub one_place : (a b : Who) (t u : ℕ) → (same_life a b && t == u) ≡ true → (a ≡ b) × (t ≡ u)
one_place a b t u e =
    let parts = both (same_life a b) (t == u) e in
    (one_life a b parts.0, eqb-true t u parts.1)

pub same_self : (a : Who) → same_life a a ≡ true
same_self a = grind (arith, nat_tests)

pub same_back : (a b : Who) → same_life a b ≡ same_life b a
same_back a b = by (same_life b a) refl where
  by : (v : Bool) → same_life b a ≡ v → same_life a b ≡ v
  by true e = grind (arith, nat_tests)
  by false e = grind (arith, nat_tests)

pub place_back : (a b : Who) (t u : ℕ) → (same_life a b && t == u) ≡ (same_life b a && u == t)
place_back a b t u = by (same_life b a && u == t) refl where
  by : (v : Bool) → (same_life b a && u == t) ≡ v → (same_life a b && t == u) ≡ v
  by true e = grind (arith, nat_tests)
  by false e = grind (arith, nat_tests)

pub place_of_one : (a b c : Who) (t u x : ℕ) → (same_life a b && t == u) ≡ true → (same_life a c && t == x) ≡ (same_life b c && u == x)
place_of_one a b c t u x e =
    let one = one_place a b t u e in
    ap (λ who. same_life who c && t == x) one.0 ∙ ap (λ tag. same_life b c && tag == x) one.1

-- ---- a slot is put

pub slot_put : (who : Who) (tag : ℕ) (slot : Slot) (slots : List LifeSlot) (w : Who) (t : ℕ)
    → slot_in (with_slot who tag slot slots) w t ≡ (if same_life w who && t == tag then slot else slot_in slots w t)
slot_put who tag slot [] w t = rw (place_back who w tag t) refl
slot_put who tag slot (s ∷ slots) w t =
    by (is_slot_of who tag s) refl (is_slot_of w t s) refl (same_life w who && t == tag) refl (slot_put who tag slot slots w t) where
      by : (here : Bool) → is_slot_of who tag s ≡ here → (there : Bool) → is_slot_of w t s ≡ there → (own : Bool)
          → (same_life w who && t == tag) ≡ own
          → slot_in (with_slot who tag slot slots) w t ≡ (if own then slot else slot_in slots w t)
          → slot_in (if here then record { who = who; tag = tag; slot = slot } ∷ slots else s ∷ with_slot who tag slot slots) w t
          ≡ (if own then slot else (if there then s.slot else slot_in slots w t))
      by true e there f true g rest = rw (place_back who w tag t ∙ g) refl
      by true e true f false g rest = absurd (never (sym f ∙ place_of_one s.who who w s.tag tag t e ∙ place_back who w tag t ∙ g))
      by true e false f false g rest = rw (place_back who w tag t ∙ g) refl
      by false e true f true g rest = absurd (never (sym g ∙ sym (place_of_one s.who w who s.tag t tag f) ∙ e))
      by false e true f false g rest = rw f refl
      by false e false f own g rest = rw f rest

-- ---- a request is answered, and is taken

pub shown_answered : (taken new_taken : TakenBy) (old new : List SlotOf) (slots : List LifeSlot) (d : Deed)
    → IsSome (taken d.reply.who d.tag) → IsAnswered d.reply.who d.tag taken new_taken → IsReplyKept d.reply.who d.tag d.reply old new
    → AreShown taken old slots → AreShown new_taken new (slots_answered d slots)
shown_answered taken new_taken old new slots d some answers kept shown w t =
    slot_put d.reply.who d.tag (record { taken = (slot_in slots d.reply.who d.tag).taken; reply = Some d.reply }) slots w t
    ∙ by (same_life w d.reply.who && t == d.tag) refl where
      at_own : (found : Option Taken) (reply : Option Reply) → IsSome found
          → record { taken = (slot_shown found reply).taken; reply = Some d.reply } ≡ slot_shown (answered found) (Some d.reply)
      at_own None reply h = absurd (cc)
      at_own (Some one) reply h = refl

      by : (own : Bool) → (same_life w d.reply.who && t == d.tag) ≡ own
          → (if own then record { taken = (slot_in slots d.reply.who d.tag).taken; reply = Some d.reply } else slot_in slots w t)
          ≡ slot_shown (new_taken w t) (reply_at w t new)
      by true e =
          let one = one_place w d.reply.who t d.tag e in
          let now : slot_shown (new_taken w t) (reply_at w t new) ≡ slot_shown (answered (taken w t)) (Some d.reply) =
          rw (answers w t, kept w t, e) refl in
          let here : slot_shown (answered (taken w t)) (Some d.reply) ≡ slot_shown (answered (taken d.reply.who d.tag)) (Some d.reply) =
          ap (λ who. slot_shown (answered (taken who t)) (Some d.reply)) one.0
          ∙ ap (λ tag. slot_shown (answered (taken d.reply.who tag)) (Some d.reply)) one.1 in
          ap (λ (s : Slot). record { taken = s.taken; reply = Some d.reply }) (shown d.reply.who d.tag)
          ∙ at_own (taken d.reply.who d.tag) (reply_at d.reply.who d.tag old) some
          ∙ sym (now ∙ here)
      by false e = shown w t ∙ sym (rw (answers w t, kept w t, e) refl)

pub shown_entered : (taken new_taken : TakenBy) (old : List SlotOf) (slots : List LifeSlot) (who : Who) (tag xid : ℕ)
    → IsEntered who tag xid taken new_taken
    → AreShown taken old slots → AreShown new_taken old (with_slot who tag (record { taken = xid; reply = None }) slots)
shown_entered taken new_taken old slots who tag xid enters shown w t =
    slot_put who tag (record { taken = xid; reply = None }) slots w t ∙ by (same_life w who && t == tag) refl where
      by : (own : Bool) → (same_life w who && t == tag) ≡ own
          → (if own then record { taken = xid; reply = None } else slot_in slots w t) ≡ slot_shown (new_taken w t) (reply_at w t old)
      by true e = sym (rw (enters w t, e) refl)
      by false e = shown w t ∙ sym (rw (enters w t, e) refl)

-- ---- lives have left

life_of_one : (a b : Who) (gone : List Who) → same_life a b ≡ true → is_life a gone ≡ is_life b gone
life_of_one a b gone e = ap (λ who. is_life who gone) (one_life a b e)

pub slot_without : (gone : List Who) (slots : List LifeSlot) (w : Who) (t : ℕ)
    → slot_in (slots_without gone slots) w t ≡ (if is_life w gone then no_slot else slot_in slots w t)
slot_without gone [] w t = by (is_life w gone) where
  by : (v : Bool) → no_slot ≡ (if v then no_slot else no_slot)
  by true = refl
  by false = refl
slot_without gone (s ∷ slots) w t = by (is_life s.who gone) refl (is_slot_of w t s) refl (is_life w gone) refl
    (slot_without gone slots w t) where
      by : (left : Bool) → is_life s.who gone ≡ left → (here : Bool) → is_slot_of w t s ≡ here → (own : Bool) → is_life w gone ≡ own
          → slot_in (slots_without gone slots) w t ≡ (if own then no_slot else slot_in slots w t)
          → slot_in (if not left then s ∷ slots_without gone slots else slots_without gone slots) w t
          ≡ (if own then no_slot else (if here then s.slot else slot_in slots w t))
      by true e true f true g rest = rest
      by true e true f false g rest = absurd (never (sym e ∙ life_of_one s.who w gone (both (same_life s.who w) (s.tag == t) f).0 ∙ g))
      by true e false f own g rest = rest
      by false e true f true g rest = absurd (never (sym g ∙ sym (life_of_one s.who w gone (both (same_life s.who w) (s.tag == t) f).0) ∙ e))
      by false e true f false g rest = rw f refl
      by false e false f own g rest = rw f rest
