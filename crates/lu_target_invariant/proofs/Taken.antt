-- Requests that wait and glimpses that are asked for stay what they are where others are answered, taken, or leave.
use Rattle.std.proofs.Common.{◌≡◌, ℕ, ◌≤◌, ◌<◌, ◌==◌, ◌&&◌, ◌||◌, Bool, true, false, List, filter, Some, None, refl, sym, ap, subst, ◌∙◌}
use Rattle.std.proofs.Common.{arith}
use Rattle.std.specs.Prelude.{if◌then◌else◌, not, All}
use Rattle.std.proofs.lemmas.Bool.Decides.{nat_tests}
use Rattle.std.proofs.lemmas.List.Elements.{All-weaker, All-filter}
use Rattle.lu_base.specs.declared.ids.Who.{Who}
use Rattle.lu_msg.specs.declared.messages.Request.{Request}
use Rattle.lu_service.specs.declared.services.Kind.{Kind}
use Rattle.lu_spec_entries.specs.Carried.{Deed, Slot, LifeSlot, Glimpse}
use Rattle.lu_spec_entries.specs.Words.{same_life}
use Rattle.lu_spec_target.specs.Lives.{is_life, slot_in, with_lives, without_lives, slots_entered, slots_answered, slots_without}
use Rattle.lu_spec_target.specs.Locks.{is_request_of, without_request}
use Rattle.lu_spec_target.specs.States.{Target}
use Rattle.lu_target_refines.proofs.Slots.{never, one_place, slot_put, slot_without}
use Rattle.lu_target_refines.proofs.LifeLists.{any_with_lives, life_without}
use Rattle.lu_target_invariant.specs.Sound.{IsTaken, IsAsked}
use Rattle.lu_target_invariant.proofs.Requests.{all_passed, named_as, found_kept}

-- ---- the newest request of each life and tag

pub newest_answered : (d : Deed) (slots : List LifeSlot) (who : Who) (tag : ℕ) → (slot_in (slots_answered d slots) who tag).taken
    ≡ (slot_in slots who tag).taken
newest_answered d slots who tag =
    ap (λ (s : Slot). s.taken) (slot_put d.reply.who d.tag kept slots who tag) ∙ by (same_life who d.reply.who && tag == d.tag) refl where
      kept : Slot
      kept = record { taken = (slot_in slots d.reply.who d.tag).taken; reply = Some d.reply }

      by : (own : Bool) → (same_life who d.reply.who && tag == d.tag) ≡ own → (if own then kept else slot_in slots who tag).taken
          ≡ (slot_in slots who tag).taken
      by true e = let one = one_place who d.reply.who tag d.tag e in ap (λ w. (slot_in slots w d.tag).taken) (sym one.0)
          ∙ ap (λ t. (slot_in slots who t).taken) (sym one.1)
      by false e = refl

-- one above the newest is taken
pub newest_entered : (r : Request) (slots : List LifeSlot) → (slot_in slots r.who r.tag).taken < r.xid.0 → (who : Who) (tag : ℕ)
    → (slot_in slots who tag).taken ≤ (slot_in (slots_entered r slots) who tag).taken
newest_entered r slots above who tag =
    subst (λ (s : Slot). (slot_in slots who tag).taken ≤ s.taken) (sym (slot_put r.who r.tag new slots who tag))
    (by (same_life who r.who && tag == r.tag) refl) where
      new : Slot
      new = record { taken = r.xid.0; reply = None }

      by : (own : Bool) → (same_life who r.who && tag == r.tag) ≡ own
          → (slot_in slots who tag).taken ≤ (if own then new else slot_in slots who tag).taken
      by true e =
          let one = one_place who r.who tag r.tag e in
          let same : (slot_in slots who tag).taken ≡ (slot_in slots r.who r.tag).taken =
          ap (λ w. (slot_in slots w tag).taken) one.0 ∙ ap (λ t. (slot_in slots r.who t).taken) one.1 in
          omega (arith, same, above)
      by false e = omega arith

pub newest_itself : (r : Request) (slots : List LifeSlot) → (slot_in (slots_entered r slots) r.who r.tag).taken ≡ r.xid.0
newest_itself r slots = ap (λ (s : Slot). s.taken) (slot_put r.who r.tag new slots r.who r.tag)
    ∙ by (same_life r.who r.who && r.tag == r.tag) refl where
      new : Slot
      new = record { taken = r.xid.0; reply = None }

      by : (own : Bool) → (same_life r.who r.who && r.tag == r.tag) ≡ own → (if own then new else slot_in slots r.who r.tag).taken ≡ r.xid.0
      by true e = refl
      by false e = absurd (never (sym (same_place r.who r.tag) ∙ e)) where
        same_place : (who : Who) (tag : ℕ) → (same_life who who && tag == tag) ≡ true
        same_place who tag = grind (arith, nat_tests)

-- ---- requests that wait

pub taken_answered : (kind : Kind) (v w : Target) (d : Deed) → w.lives ≡ v.lives → w.slots ≡ slots_answered d v.slots → (r : Request)
    → IsTaken kind v r → IsTaken kind w r
taken_answered kind v w d lives slots r taken = record {
  life = ap (is_life r.who) lives ∙ taken.life;
  tag = taken.tag;
  takes = taken.takes;
  newest = subst (λ n. r.xid.0 ≤ n) (sym (ap (λ s. (slot_in s r.who r.tag).taken) slots ∙ newest_answered d v.slots r.who r.tag))
      taken.newest;
}

pub taken_same : (kind : Kind) (v w : Target) → w.lives ≡ v.lives → w.slots ≡ v.slots → (r : Request) → IsTaken kind v r → IsTaken kind w r
taken_same kind v w lives slots r taken = record {
  life = ap (is_life r.who) lives ∙ taken.life;
  tag = taken.tag;
  takes = taken.takes;
  newest = subst (λ n. r.xid.0 ≤ n) (sym (ap (λ s. (slot_in s r.who r.tag).taken) slots)) taken.newest;
}

pub queue_answered : (kind : Kind) (v w : Target) (d : Deed) (queue : List Request) → w.lives ≡ v.lives → w.slots ≡ slots_answered d v.slots
    → All (IsTaken kind v) queue
    → All (IsTaken kind w) (without_request d queue)
queue_answered kind v w d queue lives slots all =
    All-filter (λ r. not (is_request_of d r)) (IsTaken kind w) queue
    (All-weaker (IsTaken kind v) (IsTaken kind w) (taken_answered kind v w d lives slots) queue all)

-- lives left, and others came
pub life_stays : (who : Who) (gone come lives : List Who) → is_life who gone ≡ false → is_life who lives ≡ true
    → is_life who (with_lives come (without_lives gone lives)) ≡ true
life_stays who gone come lives stays life =
    let kept : is_life who (without_lives gone lives) ≡ true = life_without who gone lives ∙ rw (stays, life) refl in
    any_with_lives (same_life who) come (without_lives gone lives) ∙ rw kept (or_true (is_life who come))
  where
    or_true : (a : Bool) → (a || true) ≡ true
    or_true true = refl
    or_true false = refl

pub taken_left : (kind : Kind) (v w : Target) (gone come : List Who) → w.lives ≡ with_lives come (without_lives gone v.lives) → w.slots
    ≡ slots_without gone v.slots
    → (r : Request) → is_life r.who gone ≡ false → IsTaken kind v r → IsTaken kind w r
taken_left kind v w gone come lives slots r stays taken =
    let slot : slot_in (slots_without gone v.slots) r.who r.tag ≡ slot_in v.slots r.who r.tag = slot_without gone v.slots r.who r.tag
    ∙ rw stays refl in
    record {
      life = ap (is_life r.who) lives ∙ life_stays r.who gone come v.lives stays taken.life;
      tag = taken.tag;
      takes = taken.takes;
      newest = subst (λ n. r.xid.0 ≤ n) (sym (ap (λ s. (slot_in s r.who r.tag).taken) slots ∙ ap (λ (s : Slot). s.taken) slot))
          taken.newest;
    }

pub not_true : (a : Bool) → not a ≡ true → a ≡ false
not_true true e = absurd (cc)
not_true false e = refl

pub queue_left : (kind : Kind) (v w : Target) (gone come : List Who) → w.lives ≡ with_lives come (without_lives gone v.lives) → w.slots
    ≡ slots_without gone v.slots
    → All (IsTaken kind v) v.queue → All (IsTaken kind w) (filter (λ r. not (is_life r.who gone)) v.queue)
queue_left kind v w gone come lives slots all =
    all_passed (IsTaken kind v) (IsTaken kind w) (λ r. not (is_life r.who gone)) v.queue
    (λ r stays taken. taken_left kind v w gone come lives slots r (not_true (is_life r.who gone) stays) taken) all

-- ---- glimpses

-- none is for the request that is answered so
abbrev pub NoneAsks : Deed → List Glimpse → Type 0
NoneAsks d gs = All (λ g. is_request_of d g.request ≡ false) gs

asked_answered : (d : Deed) (queue : List Request) (g : Glimpse) → is_request_of d g.request ≡ false → IsAsked queue g
    → IsAsked (without_request d queue) g
asked_answered d queue g other asked = record {
  waits = found_kept (λ q. not (is_request_of d q)) g.request.who g.request.xid queue g.request
      (λ q named. ap not (sym (named_as d.reply.who d.reply.xid g.request q named) ∙ other)) asked.waits;
  sizes = asked.sizes;
}

pub glimpses_answered : (d : Deed) (queue : List Request) (gs : List Glimpse) → NoneAsks d gs → All (IsAsked queue) gs
    → All (IsAsked (without_request d queue)) gs
glimpses_answered d queue gs none all = λ k g within. asked_answered d queue _ (none k g within) (all k g within)

asked_left : (gone : List Who) (queue : List Request) (g : Glimpse) → is_life g.request.who gone ≡ false → IsAsked queue g
    → IsAsked (filter (λ r. not (is_life r.who gone)) queue) g
asked_left gone queue g stays asked = record {
  waits = found_kept (λ r. not (is_life r.who gone)) g.request.who g.request.xid queue g.request
      (λ q named. ap not (ap (λ who. is_life who gone) (sym (one_place g.request.who q.who g.request.xid.0 q.xid.0 named).0) ∙ stays))
      asked.waits;
  sizes = asked.sizes;
}

pub glimpses_left : (gone : List Who) (queue : List Request) (gs : List Glimpse) → All (IsAsked queue) gs
    → All (IsAsked (filter (λ r. not (is_life r.who gone)) queue)) (filter (λ x. not (is_life x.request.who gone)) gs)
glimpses_left gone queue gs all =
    all_passed (IsAsked queue) (IsAsked (filter (λ r. not (is_life r.who gone)) queue)) (λ x. not (is_life x.request.who gone)) gs
    (λ g stays asked. asked_left gone queue g (not_true (is_life g.request.who gone) stays) asked) all
