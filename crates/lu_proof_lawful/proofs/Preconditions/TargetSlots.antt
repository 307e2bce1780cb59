-- The slot of a life and tag at a target of the whole table, entry by entry, is that of the target's story, until the life is evicted.
use Rattle.std.proofs.Common.{◌≡◌, ℕ, Bool, true, false, List, [], ◌∷◌, Option, Some, None, refl, sym, subst, ap, ◌∙◌}
use Rattle.std.specs.Prelude.{nat_eq, not, if◌then◌else◌}
use Rattle.std.proofs.lemmas.Bool.{cond-false, and_parts, or_parts, eqb-true}
use Rattle.lu_base.specs.declared.ids.Who.{Who}
use Rattle.lu_msg.specs.declared.messages.Reply.{Reply as ReplyTo}
use Rattle.lu_msg.specs.declared.messages.Request.{Request as RequestOf}
use Rattle.lu_spec_entries.specs.Carried.{Deed, Slot, LifeSlot}
use Rattle.lu_spec_entries.specs.Words.{Line, same_life}
use Rattle.lu_spec_target.specs.Lives.{is_life, with_lives, slot_in, with_slot, slots_without, slots_entered, slots_answered}
use Rattle.lu_proof_lawful.specs.Covered.TargetParts.{is_slot_of as is_slot}
use Rattle.lu_proof_lawful.specs.Covered.TargetStates.{slot_of}
use Rattle.lu_proof_lawful.proofs.Preconditions.Lists.{self, life_is}
use Rattle.lu_proof_lawful.proofs.Preconditions.LifeLists.{any_lives}

-- ---- two lives and tags are one, or not

pub is_slot_self : (who : Who) (tag : ℕ) → is_slot who tag who tag ≡ true
is_slot_self who tag = rw (self who.client, self who.life, self tag) refl

pub slot_who : (who other : Who) (tag of_tag : ℕ) → is_slot who tag other of_tag ≡ true → (who ≡ other) × (tag ≡ of_tag)
slot_who who other tag of_tag e =
    let p = and_parts (same_life who other) (nat_eq tag of_tag) e in (life_is who other p.0, eqb-true tag of_tag p.1)

not_itself : (who : Who) (tag : ℕ) → is_slot who tag who tag ≡ false → ⊥
not_itself who tag e = let f : true ≡ false = sym (is_slot_self who tag) ∙ e in absurd (cc)

differ : (who other : Who) (tag of_tag : ℕ) → is_slot who tag other of_tag ≡ true → is_slot other of_tag who tag ≡ false → ⊥
differ who other tag of_tag p q = let k = slot_who who other tag of_tag p in not_itself other of_tag (rw (k.0, k.1) at q)

-- ---- what stands in a slot once it was put there

pub slot_with : (who : Who) (tag : ℕ) (x : Slot) (slots : List LifeSlot) (w : Who) (u : ℕ) → slot_in (with_slot who tag x slots) w u
    ≡ (if is_slot who tag w u then x else slot_in slots w u)
slot_with who tag x [] w u = refl
slot_with who tag x (s ∷ slots) w u = by (is_slot s.who s.tag who tag) (is_slot s.who s.tag w u) (is_slot who tag w u) refl refl refl
    (slot_with who tag x slots w u)
  where
    Goal : Bool → Bool → Bool → Type 0
    Goal here mine same =
        slot_in (if here then record { who = who; tag = tag; slot = x } ∷ slots else s ∷ with_slot who tag x slots) w u
        ≡ (if same then x else (if mine then s.slot else slot_in slots w u))

    by : (here mine same : Bool) → is_slot s.who s.tag who tag ≡ here → is_slot s.who s.tag w u ≡ mine → is_slot who tag w u ≡ same
        → slot_in (with_slot who tag x slots) w u ≡ (if is_slot who tag w u then x else slot_in slots w u) → Goal here mine same
    by true mine true a b c ih = rw c refl
    by true true false a b c ih =
        let p = slot_who s.who who s.tag tag a in
        let q = slot_who s.who w s.tag u b in
        absurd (not_itself s.who s.tag (rw (sym p.0, sym p.1, sym q.0, sym q.1) at c))
    by true false false a b c ih = rw c refl
    by false true true a b c ih =
        let p = slot_who s.who w s.tag u b in
        let q = slot_who who w tag u c in
        absurd (not_itself w u (rw (p.0, p.1, q.0, q.1) at a))
    by false true false a b c ih = rw b refl
    by false false true a b c ih = rw (b, ih, c) refl
    by false false false a b c ih = rw (b, ih, c) refl

-- of two slots that are put there, one by each
pick : (a : Who) (b : ℕ) (who : Who) (tag : ℕ) (x y old new : Slot) → (who ≡ a → tag ≡ b → x ≡ y) → old ≡ new
    → (if is_slot a b who tag then x else old) ≡ (if is_slot who tag a b then y else new)
pick a b who tag x y old new same rest = by (is_slot a b who tag) (is_slot who tag a b) refl refl
  where
    by : (m n : Bool) → is_slot a b who tag ≡ m → is_slot who tag a b ≡ n → (if m then x else old) ≡ (if n then y else new)
    by true true p q = let k = slot_who who a tag b q in same k.0 k.1
    by true false p q = absurd (differ a who b tag p q)
    by false true p q = absurd (differ who a tag b q p)
    by false false p q = rest

-- ---- the slots of a state are those of a story, but for lives that were evicted: the story keeps theirs

abbrev pub SlotsAlike : List LifeSlot → (removed : List Who) → List Line → Type 0
SlotsAlike slots removed past = (who : Who) (tag : ℕ) → is_life who removed ≡ false → slot_in slots who tag ≡ slot_of who tag past

abbrev with_reply : Option ReplyTo → Slot → Slot
with_reply reply slot = record { taken = slot.taken; reply = reply }

pub slots_enter : (slots : List LifeSlot) (past : List Line) (r : RequestOf) (who : Who) (tag : ℕ) → slot_in slots who tag
    ≡ slot_of who tag past
    → slot_in (slots_entered r slots) who tag ≡ (if is_slot who tag r.who r.tag then record { taken = r.xid.0; reply = None }
    else slot_of who tag past)
slots_enter slots past r who tag h =
    let x : Slot = record { taken = r.xid.0; reply = None } in
    slot_with r.who r.tag x slots who tag ∙ pick r.who r.tag who tag x x (slot_in slots who tag) (slot_of who tag past) (λ p q. refl) h

pub slots_answer : (slots : List LifeSlot) (past : List Line) (d : Deed) (who : Who) (tag : ℕ) → slot_in slots who tag
    ≡ slot_of who tag past
    → slot_in (slots_answered d slots) who tag ≡ (if is_slot who tag d.reply.who d.tag then with_reply (Some d.reply) (slot_of who tag past)
    else slot_of who tag past)
slots_answer slots past d who tag h =
    let x : Slot = with_reply (Some d.reply) (slot_in slots d.reply.who d.tag) in
    let y : Slot = with_reply (Some d.reply) (slot_of who tag past) in
    slot_with d.reply.who d.tag x slots who tag
    ∙ pick d.reply.who d.tag who tag x y (slot_in slots who tag) (slot_of who tag past) (λ p q. ap (with_reply (Some d.reply)) (same p q)) h
  where
    same : who ≡ d.reply.who → tag ≡ d.tag → slot_in slots d.reply.who d.tag ≡ slot_of who tag past
    same p q =
        let of_tag : slot_in slots who d.tag ≡ slot_of who tag past = subst (λ (u : ℕ). slot_in slots who u ≡ slot_of who tag past) q h in
        subst (λ (w : Who). slot_in slots w d.tag ≡ slot_of who tag past) p of_tag

-- the slots of lives that leave go
pub slot_left : (gone : List Who) (slots : List LifeSlot) (who : Who) (tag : ℕ) → is_life who gone ≡ false
    → slot_in (slots_without gone slots) who tag ≡ slot_in slots who tag
slot_left gone [] who tag live = refl
slot_left gone (s ∷ slots) who tag live = by (is_life s.who gone) refl (slot_left gone slots who tag live)
  where
    by : (b : Bool) → is_life s.who gone ≡ b → slot_in (slots_without gone slots) who tag ≡ slot_in slots who tag
        → slot_in (if not b then s ∷ slots_without gone slots else slots_without gone slots) who tag
        ≡ (if is_slot s.who s.tag who tag then s.slot else slot_in slots who tag)
    by false e ih = ap (λ (x : Slot). if is_slot s.who s.tag who tag then s.slot else x) ih
    by true e ih = ih ∙ sym (cond-false (is_slot s.who s.tag who tag) s.slot (slot_in slots who tag)
        (other (is_slot s.who s.tag who tag) refl))
      where
        other : (b : Bool) → is_slot s.who s.tag who tag ≡ b → b ≡ false
        other false q = refl
        other true q = let k = slot_who s.who who s.tag tag q in let in_gone : is_life who gone ≡ true =
            subst (λ (w : Who). is_life w gone ≡ true) k.0 e in absurd (cc)

pub slots_leave : (gone : List Who) (slots : List LifeSlot) (removed : List Who) (past : List Line) → SlotsAlike slots removed past
    → SlotsAlike (slots_without gone slots) (with_lives gone removed) past
slots_leave gone slots removed past h who tag live =
    let p = or_parts (is_life who gone) (is_life who removed) (sym (any_lives (same_life who) gone removed) ∙ live) in
    slot_left gone slots who tag p.0 ∙ h who tag p.1
