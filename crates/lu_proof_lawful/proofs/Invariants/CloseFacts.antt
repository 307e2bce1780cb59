-- What a close keeps and puts in the slots: each kept transaction is one that was done and stands, with its number, life, tag and request
-- number; of a life and tag the one with the greatest request number answers.
use Rattle.std.proofs.Common.{◌≡◌, ℕ, ◌<◌, ◌≤◌, Bool, true, false, List, [], ◌∷◌, ◌++◌, Some, ◌⊎◌, inl, inr, ⊎_elim, refl, sym, subst, ap}
use Rattle.std.proofs.Common.{◌∙◌, arith}
use Rattle.std.specs.Prelude.{nat_eq, nat_lt}
use Rattle.std.specs.List.{filter}
use Rattle.std.proofs.lemmas.Bool.{cond_both, and_parts, eqb-true}
use Rattle.std.proofs.lemmas.Bool.Decides.{nat_tests}
use Rattle.lu_base.specs.declared.ids.At.{At}
use Rattle.lu_base.specs.declared.ids.Txn.{Txn as TxnOf}
use Rattle.lu_base.specs.declared.ids.Who.{Who}
use Rattle.lu_msg.specs.declared.messages.Reply.{Reply as ReplyTo}
use Rattle.lu_spec_entries.specs.Carried.{Deed, Contents, Slot, LifeSlot, Outcome}
use Rattle.lu_spec_entries.specs.Words.{Line}
use Rattle.lu_spec_target.specs.Lives.{is_life, no_slot, slot_in, slots_without, slots_kept, lives_of as lives_in}
use Rattle.lu_spec_target.specs.Outcomes.{deed_again, deeds_again}
use Rattle.lu_spec_target.specs.States.{Target as TargetOf}
use Rattle.lu_spec_target.specs.Stored.{transaction_of, done, replies_of, batch_of, stored}
use Rattle.lu_spec_target.specs.Windows.{Replayed, Window, replay_before, has_number, is_kept, kept_from, kept_numbers, kept_of}
use Rattle.lu_proof_lawful.specs.Covered.TargetStates.{server_of, replays_of, wishes_of, window_of}
use Rattle.lu_proof_lawful.specs.Covered.TargetCloses.{disk_of, recovering_of, outcome_of}
use Rattle.lu_proof_lawful.specs.Covered.Heads.{Head}
use Rattle.lu_proof_lawful.proofs.Preconditions.Guards.{In}
use Rattle.lu_proof_lawful.proofs.Preconditions.StoryGuards.{CloseOk}
use Rattle.lu_proof_lawful.proofs.Preconditions.Lists.{in_filter, in_append}
use Rattle.lu_proof_lawful.proofs.Preconditions.TargetSlots.{slot_left}
use Rattle.lu_proof_lawful.proofs.Invariants.Groups.{ReplayedRise, HoldsAt}
use Rattle.lu_proof_lawful.proofs.Invariants.TargetGroups.{Acted, IsMade, Stands, Done}
use Rattle.lu_proof_lawful.proofs.Invariants.ExactLists.{has_in}
use Rattle.lu_proof_lawful.proofs.Invariants.AtClose.{ReplayedDeed, replayed_is_done, replayed_stands}
use Rattle.lu_proof_lawful.proofs.Invariants.SlotLists.{NoneFalls, OfSlot, LastOf, NoneOf, last_slot, slot_gone}

abbrev of_number : ℕ → TxnOf
of_number n = record { 0 = n }

-- ---- replies put in slots

-- what goes to the disk is of one that was done and stands, above the number that is committed there
pub record OfDeed (osts : ℕ) (past : List Line) (committed : ℕ) (e : Deed) : Type 0 where
  pub deed : Deed
  pub acted : Acted past deed
  pub made : IsMade deed
  pub stands : Stands osts past deed
  pub who : deed.reply.who ≡ e.reply.who
  pub tag : deed.tag ≡ e.tag
  pub number : deed.reply.txn.0 ≡ e.reply.txn.0
  pub xid : deed.reply.xid.0 ≡ e.reply.xid.0
  pub above : committed < e.reply.txn.0

-- what is committed, or goes to the disk now
abbrev pub Among : (committed : ℕ) → List Deed → Deed → Type 0
Among committed ds d = (d.reply.txn.0 ≤ committed) ⊎ ((e : Deed) × In e ds × (e.reply.txn.0 ≡ d.reply.txn.0))

module _ (osts clients : ℕ) (past : List Line) (h : Done osts clients past) (committed : ℕ) (ds : List Deed) (falls : NoneFalls ds)
    (of : (e : Deed) → In e ds → OfDeed osts past committed e) (gone : List Who) (slots : List LifeSlot) where
  abbrev filled : List LifeSlot
  filled = slots_without gone (slots_kept (replies_of ds []) slots)

  one_number : (d e : Deed) → Acted past d → Acted past e → IsMade d → IsMade e → d.reply.txn.0 ≡ e.reply.txn.0 → d ≡ e
  one_number d e a b m n x = h.single d e a b m n (ap of_number x)

  -- the last one of its life and tag isn't below d
  last_high : (d : Deed) → Acted past d → IsMade d → Stands osts past d → (e : Deed) → In e ds → OfSlot d.reply.who d.tag e
      → d.reply.txn.0 ≤ e.reply.txn.0 → d.reply.xid.0 ≤ e.reply.xid.0
  last_high d a m s e i slot le =
      let g = of e i in
      let number = g.number in
      let xid = g.xid in
      by (nat_eq d.reply.txn.0 g.deed.reply.txn.0) refl
    where
      by : (b : Bool) → nat_eq d.reply.txn.0 (of e i).deed.reply.txn.0 ≡ b → d.reply.xid.0 ≤ e.reply.xid.0
      by true t =
          let g = of e i in
          let same : d ≡ g.deed = one_number d g.deed a g.acted m g.made (eqb-true d.reply.txn.0 g.deed.reply.txn.0 t) in
          let x : d.reply.xid.0 ≡ g.deed.reply.xid.0 = ap (λ (v : Deed). v.reply.xid.0) same in
          let y = g.xid in
          omega arith
      by false t =
          let g = of e i in
          let n = g.number in
          let y = g.xid in
          let lt : d.reply.txn.0 < g.deed.reply.txn.0 = grind (arith, nat_tests, t, n, le) in
          let r = h.rises d g.deed a g.acted m g.made s g.stands (sym (g.who ∙ slot.0)) (sym (g.tag ∙ slot.1)) lt in
          omega arith

  -- of each life and tag the slot has the greatest number
  pub filled_high : (d : Deed) → Acted past d → IsMade d → Stands osts past d
      → (d.reply.txn.0 ≤ committed → d.reply.xid.0 ≤ (slot_in slots d.reply.who d.tag).taken) → Among committed ds d
      → is_life d.reply.who gone ≡ false
      → d.reply.xid.0 ≤ (slot_in filled d.reply.who d.tag).taken
  filled_high d a m s old among stays =
      subst (λ (v : Slot). d.reply.xid.0 ≤ v.taken) (sym (slot_left gone (slots_kept (replies_of ds []) slots) d.reply.who d.tag stays))
      (by (last_slot ds slots d.reply.who d.tag falls) among)
    where
      -- one that goes to the disk is of this life and tag
      own : (e : Deed) → In e ds → e.reply.txn.0 ≡ d.reply.txn.0 → OfSlot d.reply.who d.tag e
      own e i x =
          let g = of e i in
          let same : g.deed ≡ d = one_number g.deed d g.acted a g.made m (g.number ∙ x) in
          (sym g.who ∙ ap (λ (v : Deed). v.reply.who) same, sym g.tag ∙ ap (λ (v : Deed). v.tag) same)

      by : LastOf ds d.reply.who d.tag (slot_in (slots_kept (replies_of ds []) slots) d.reply.who d.tag)
          ⊎ (NoneOf ds d.reply.who d.tag × (slot_in (slots_kept (replies_of ds []) slots) d.reply.who d.tag
          ≡ slot_in slots d.reply.who d.tag)) → Among committed ds d
          → d.reply.xid.0 ≤ (slot_in (slots_kept (replies_of ds []) slots) d.reply.who d.tag).taken
      by (inl l) (inl low) =
          let above = (of l.deed l.among).above in
          let le = last_high d a m s l.deed l.among l.of (omega arith) in
          subst (λ (v : Slot). d.reply.xid.0 ≤ v.taken) (sym l.is) le
      by (inl l) (inr k) =
          let most = l.most k.0 k.1 (own k.0 k.1 k.2) in
          let x = k.2 in
          let le = last_high d a m s l.deed l.among l.of (omega arith) in
          subst (λ (v : Slot). d.reply.xid.0 ≤ v.taken) (sym l.is) le
      by (inr n) (inl low) = subst (λ (v : Slot). d.reply.xid.0 ≤ v.taken) (sym n.1) (old low)
      by (inr n) (inr k) = absurd (n.0 k.0 k.1 (own k.0 k.1 k.2))

  -- what a slot keeps was there, or is a reply that went there
  pub filled_kept : (who : Who) (tag : ℕ) (k : ReplyTo) → (slot_in filled who tag).reply ≡ Some k
      → ((slot_in slots who tag).reply ≡ Some k) ⊎ ((e : Deed) × In e ds × OfSlot who tag e × (e.reply ≡ k))
  filled_kept who tag k e = by (is_life who gone) refl (last_slot ds slots who tag falls)
    where
      by : (b : Bool) → is_life who gone ≡ b → LastOf ds who tag (slot_in (slots_kept (replies_of ds []) slots) who tag)
          ⊎ (NoneOf ds who tag × (slot_in (slots_kept (replies_of ds []) slots) who tag ≡ slot_in slots who tag))
          → ((slot_in slots who tag).reply ≡ Some k) ⊎ ((e : Deed) × In e ds × OfSlot who tag e × (e.reply ≡ k))
      by true t l = let none : no_slot.reply ≡ Some k = sym (ap (λ (v : Slot). v.reply)
          (slot_gone gone (slots_kept (replies_of ds []) slots) who tag t)) ∙ e in absurd (cc)
      by false t (inl l) =
          let is : Some l.deed.reply ≡ Some k = sym (ap (λ (v : Slot). v.reply)
          (slot_left gone (slots_kept (replies_of ds []) slots) who tag t ∙ l.is)) ∙ e in
          inr (l.deed, l.among, l.of, cc)
      by false t (inr n) = inl (sym (ap (λ (v : Slot). v.reply) (slot_left gone (slots_kept (replies_of ds []) slots) who tag t ∙ n.1)) ∙ e)

  -- and is of the slot's life and number
  pub filled_slots : ((who : Who) (tag : ℕ) (k : ReplyTo) → (slot_in slots who tag).reply ≡ Some k → (k.who ≡ who)
      × (k.xid.0 ≡ (slot_in slots who tag).taken))
      → (who : Who) (tag : ℕ) (k : ReplyTo) → (slot_in filled who tag).reply ≡ Some k → (k.who ≡ who)
      × (k.xid.0 ≡ (slot_in filled who tag).taken)
  filled_slots old who tag k e = by (is_life who gone) refl (last_slot ds slots who tag falls)
    where
      by : (b : Bool) → is_life who gone ≡ b → LastOf ds who tag (slot_in (slots_kept (replies_of ds []) slots) who tag)
          ⊎ (NoneOf ds who tag × (slot_in (slots_kept (replies_of ds []) slots) who tag ≡ slot_in slots who tag))
          → (k.who ≡ who) × (k.xid.0 ≡ (slot_in filled who tag).taken)
      by true t l = let none : no_slot.reply ≡ Some k = sym (ap (λ (v : Slot). v.reply)
          (slot_gone gone (slots_kept (replies_of ds []) slots) who tag t)) ∙ e in absurd (cc)
      by false t (inl l) =
          let slot = slot_left gone (slots_kept (replies_of ds []) slots) who tag t ∙ l.is in
          let is : Some l.deed.reply ≡ Some k = sym (ap (λ (v : Slot). v.reply) slot) ∙ e in
          let same : l.deed.reply ≡ k = cc in (
            ap (λ (v : ReplyTo). v.who) (sym same) ∙ l.of.0,
            ap (λ (v : ReplyTo). v.xid.0) (sym same)
                ∙ sym (ap (λ (v : Slot). v.taken) slot),
          )
      by false t (inr n) =
          let slot = slot_left gone (slots_kept (replies_of ds []) slots) who tag t ∙ n.1 in
          let k = old who tag k (sym (ap (λ (v : Slot). v.reply) slot) ∙ e) in
          (k.0, k.1 ∙ sym (ap (λ (v : Slot). v.taken) slot))

-- ---- the transactions that a close keeps

-- those made anew are of the replays, in their order
pub again_of : (v : TargetOf) (at : At) (c : Contents) (rs : List Replayed) (e : Deed) → In e (deeds_again v at c rs) → (r : Replayed)
    × (k : Contents) × In r rs × (e ≡ deed_again v at k r)
again_of v at c [] e i = absurd i
again_of v at c (r ∷ rs) e (inl q) = (r, c, inl refl, sym q)
again_of v at c (r ∷ rs) e (inr i) = let g = again_of v at (done v.setting.osts c (transaction_of (deed_again v at c r))) rs e i
    in (g.0, g.1, inr g.2, g.3)

abbrev NumbersRise : List Replayed → Type 0
NumbersRise [] = Unit {0}
NumbersRise (r ∷ rs) = ((s : Replayed) → In s rs → r.number ≤ s.number) × NumbersRise rs

not_after : (r s : Replayed) → replay_before r s ≡ true → r.number ≤ s.number
not_after r s t = grind (arith, nat_tests)

numbers_rise : (rs : List Replayed) → ReplayedRise rs → NumbersRise rs
numbers_rise [] r = tt
numbers_rise (r ∷ rs) q = (λ s i. not_after r s (q.0 s i), numbers_rise rs q.1)

rise_filter : (f : Replayed → Bool) (rs : List Replayed) → NumbersRise rs → NumbersRise (filter f rs)
rise_filter f [] r = tt
rise_filter f (r ∷ rs) q = cond_both (f r) (r ∷ filter f rs) (filter f rs) NumbersRise
    (λ t. (λ s i. q.0 s (in_filter f s rs i).0, rise_filter f rs q.1)) (λ t. rise_filter f rs q.1)

again_falls : (v : TargetOf) (at : At) (c : Contents) (rs : List Replayed) → NumbersRise rs → NoneFalls (deeds_again v at c rs)
again_falls v at c [] r = tt
again_falls v at c (r ∷ rs) q = (
  λ e i.
      let g = again_of v at (done v.setting.osts c (transaction_of (deed_again v at c r))) rs e i in
      let le = q.0 g.0 g.2 in
      let n : e.reply.txn.0 ≡ g.0.number = ap (λ (x : Deed). x.reply.txn.0) g.3 in
      omega arith,
  again_falls v at (done v.setting.osts c (transaction_of (deed_again v at c r))) rs q.1,
)

-- kept numbers are above the committed one
kept_above : (v : Window) (kept : List ℕ) (rs : List Replayed) (n : ℕ) → In n (kept_from v kept rs) → In n kept ⊎ (v.committed < n)
kept_above v kept [] n i = inl i
kept_above v kept (r ∷ rs) n i =
    cond_both (is_kept v kept r) (kept_from v (kept ++ r.number ∷ []) rs) (kept_from v kept rs)
    (λ (ns : List ℕ). In n ns → In n kept ⊎ (v.committed < n))
    (λ t j. ⊎_elim
    (λ (k : In n (kept ++ r.number ∷ [])). ⊎_elim
    (λ (x : In n kept). inl x)
    (λ (x : In n (r.number ∷ [])). ⊎_elim (λ (e : r.number ≡ n). inr (by r n t e)) (λ (z : ⊥). absurd z) x)
    (in_append n kept (r.number ∷ []) k))
    (λ (lt : v.committed < n). inr lt)
    (kept_above v (kept ++ r.number ∷ []) rs n j))
    (λ t j. kept_above v kept rs n j)
    i
  where
    by : (r : Replayed) (n : ℕ) → is_kept v kept r ≡ true → r.number ≡ n → v.committed < n
    by r n t e = let lt = (and_parts (nat_lt v.committed r.number) _ t).0 in let less : v.committed < r.number =
        grind (arith, nat_tests, lt) in omega (arith, e, less)

-- ---- a close

-- what a close is, as far as the slots are concerned
pub record Closing (head : Head) (past : List Line) (o : Outcome) : Type 0 where
  pub boot : o.boot ≡ (server_of head.osts past).boot
  pub disk : o.disk ≡ stored head.osts (batch_of o.kept (lives_in o.gone) o.joins) (disk_of head.osts head.clients past)
  pub joins : o.joins ≡ wishes_of past
  pub kept : (e : Deed) → In e o.kept → (r : Replayed) × In r (replays_of past) × (e.reply.who ≡ r.who) × (e.tag ≡ r.tag)
      × (e.reply.txn.0 ≡ r.number) × (e.reply.xid.0 ≡ r.xid) × ((server_of head.osts past).committed.0 < r.number)
  pub falls : NoneFalls o.kept

closing_is : (head : Head) (past : List Line) (at : At) → ReplayedRise (replays_of past)
    → Closing head past (outcome_of head.osts head.clients at past)
closing_is head past at rises =
    let v : TargetOf = recovering_of head.osts head.clients past in
    let w : Window = window_of head.osts head.clients past in
    let keep : Replayed → Bool = λ (r : Replayed). has_number r.number (kept_numbers w) in
    record {
      boot = refl;
      disk = refl;
      joins = refl;
      kept = λ e i.
          let g = again_of v at v.disk.contents (kept_of (kept_numbers w) (replays_of past)) e i in
          let among = in_filter keep g.0 (replays_of past) g.2 in (
            g.0,
            among.0,
            ap (λ (x : Deed). x.reply.who) g.3,
            ap (λ (x : Deed). x.tag) g.3,
            ap (λ (x : Deed). x.reply.txn.0) g.3,
            ap (λ (x : Deed). x.reply.xid.0) g.3,
            ⊎_elim (λ (z : In g.0.number []). absurd z) (λ (lt : w.committed < g.0.number). lt)
                (kept_above w [] (replays_of past) g.0.number (has_in g.0.number (kept_numbers w) among.1)),
          );
      falls = again_falls v at v.disk.contents (kept_of (kept_numbers w) (replays_of past))
          (rise_filter keep (replays_of past) (numbers_rise (replays_of past) rises));
    }

pub closing : (head : Head) (past : List Line) (at : At) (o : Outcome) → CloseOk head past at o → HoldsAt head past → Closing head past o
closing head past at o ok h = subst (Closing head past) (sym ok.is) (closing_is head past at h.recovers.replays_rise)

module _ (head : Head) (past : List Line) (at : At) (o : Outcome) (ok : CloseOk head past at o) (h : HoldsAt head past) where
  abbrev c : Closing head past o
  c = closing head past at o ok h

  -- each kept one is of what was done and heard
  abbrev pub kept_done : (e : Deed) (i : In e o.kept) → ReplayedDeed past (c.kept e i).0
  kept_done e i = replayed_is_done head past h ok.recovers (c.kept e i).0 (c.kept e i).1

  pub kept_of_deed : (e : Deed) → In e o.kept → OfDeed head.osts past (disk_of head.osts head.clients past).committed e
  kept_of_deed e i =
      let k = c.kept e i in
      let d = kept_done e i in
      let lt = k.6 in
      let same = ok.of_committed in
      let number = k.4 in
      record {
        deed = d.deed;
        acted = d.acted;
        made = d.made;
        stands = replayed_stands head past h ok.recovers k.0 k.1;
        who = d.who ∙ sym k.2;
        tag = d.tag ∙ sym k.3;
        number = d.number ∙ sym k.4;
        xid = d.xid ∙ sym k.5;
        above = omega arith;
      }
