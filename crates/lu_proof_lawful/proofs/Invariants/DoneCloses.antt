-- What was done and said, as a recovery window closes: what counts is what stands, and each life that stays finds it in its slots; a reply
-- that is made anew is one that the life heard, and never asks for again.
use Rattle.std.proofs.Common.{◌≡◌, ℕ, ◌<◌, ◌≤◌, Bool, true, false, List, [], ◌∷◌, Some, ◌⊎◌, inl, inr, ⊎_elim, refl, sym, subst, ap, ◌∙◌}
use Rattle.std.proofs.Common.{arith}
use Rattle.std.specs.Prelude.{nat_eq, nat_lt, ◌&&◌, not}
use Rattle.std.specs.List.{list_any}
use Rattle.std.proofs.lemmas.Bool.{or_parts, not-true, or_from, or_cases}
use Rattle.std.proofs.lemmas.Bool.Decides.{nat_tests}
use Rattle.lu_base.specs.declared.ids.Node.TheVariants.{Target}
use Rattle.lu_base.specs.declared.ids.Stamp.{Stamp}
use Rattle.lu_base.specs.declared.ids.Who.{Who}
use Rattle.lu_msg.specs.declared.messages.Message.TheVariants as message
use Rattle.lu_msg.specs.declared.messages.Reply.{Reply as ReplyTo}
use Rattle.lu_spec_entries.specs.Carried.{Deed, Disk, LifeSlot, Outcome}
use Rattle.lu_spec_entries.specs.Words.{Close, Line, line, same_life}
use Rattle.lu_spec_target.specs.Lives.{is_life, without_lives, with_lives, slot_in, slots_without, slots_kept, lives_of as lives_in}
use Rattle.lu_spec_target.specs.Phase.{first_of}
use Rattle.lu_spec_target.specs.Stored.{replies_of}
use Rattle.lu_proof_lawful.specs.Covered.TargetStates.{server_of, closed_of, wishes_of}
use Rattle.lu_proof_lawful.specs.Covered.TargetCloses.{disk_of, is_lost, loses, kept_numbers}
use Rattle.lu_proof_lawful.specs.Covered.Heads.{Head}
use Rattle.lu_proof_lawful.proofs.Preconditions.Guards.{In}
use Rattle.lu_proof_lawful.proofs.Preconditions.StoryGuards.{CloseOk}
use Rattle.lu_proof_lawful.proofs.Preconditions.Lists.{in_filter}
use Rattle.lu_proof_lawful.proofs.Preconditions.LifeLists.{any_lives, life_stands, stands_life}
use Rattle.lu_proof_lawful.proofs.Preconditions.ClientLocks.{in_map}
use Rattle.lu_proof_lawful.proofs.Invariants.Groups.{turn, StoredFor, HoldsAt}
use Rattle.lu_proof_lawful.proofs.Invariants.TargetGroups.{Acted, Hears, HasSlot, Evicted, Had, IsMade, Stands, Counts, Rebuilt, KeptFor}
use Rattle.lu_proof_lawful.proofs.Invariants.TargetGroups.{Done}
use Rattle.lu_proof_lawful.proofs.Invariants.DoneGrows.{Grows, meant_more, rebuilt_more, heard_hears}
use Rattle.lu_proof_lawful.proofs.Invariants.SlotLists.{OfSlot, last_upto}
use Rattle.lu_proof_lawful.proofs.Invariants.CloseFacts.{OfDeed, Among, Closing, closing, kept_done, kept_of_deed, filled_high, filled_kept}
use Rattle.lu_proof_lawful.proofs.Invariants.CloseFacts.{filled_slots}
use Rattle.lu_proof_lawful.proofs.Invariants.ExactLists.{has_in}

module _ (head : Head) (past : List Line) (stamp : Stamp) (t : ℕ) (o : Outcome) (ok : CloseOk head past (turn stamp (Target t)) o)
    (h : HoldsAt head past) where
  abbrev pub closes : List Line
  closes = line (turn stamp (Target t)) (Close o) ∷ past

  abbrev disk : Disk
  disk = disk_of head.osts head.clients past

  abbrev committed : ℕ
  committed = (server_of head.osts past).committed.0

  abbrev c : Closing head past o
  c = closing head past (turn stamp (Target t)) o ok h

  -- the boot that serves from now on is newer than the one that served last
  pub newer : closed_of past < o.boot
  newer = let e = ok.recovers in let b = c.boot in let le = h.phase.under in grind (arith, nat_tests, e, b, le)

  pub old_boot : (d : Deed) → Acted past d → d.reply.boot < o.boot
  old_boot d a = let b = (h.done.boots d a).1 in let lt = newer in omega arith

  -- ---- what stands

  pub stands_before : (d : Deed) → Stands head.osts closes d → Stands head.osts past d
  stands_before d s = (or_parts (is_lost head.osts past d.reply.txn.0) (loses committed o d.reply.txn.0) s).0

  -- what counts now stands, and counted before
  pub counts_made : (d : Deed) → Acted past d → Counts head.osts closes d → IsMade d × Stands head.osts closes d
  counts_made d a (inl b) = let lt = old_boot d a in absurd (omega arith)
  counts_made d a (inr m) = m

  counts_before : (d : Deed) → Acted past d → Counts head.osts closes d → Counts head.osts past d
  counts_before d a k = let m = counts_made d a k in inr (m.0, stands_before d m.1)

  -- what stands is committed, or kept
  pub stands_kept : (d : Deed) → Acted past d → IsMade d → Stands head.osts closes d → Among disk.committed o.kept d
  stands_kept d a m s = by (nat_lt committed d.reply.txn.0) (nat_lt d.reply.txn.0 (first_of o.boot))
      (list_any (λ (n : ℕ). nat_eq n d.reply.txn.0) (kept_numbers o)) refl refl refl
      (or_parts (is_lost head.osts past d.reply.txn.0) (loses committed o d.reply.txn.0) s).1
    where
      by : (above below has : Bool) → nat_lt committed d.reply.txn.0 ≡ above → nat_lt d.reply.txn.0 (first_of o.boot) ≡ below
          → list_any (λ (n : ℕ). nat_eq n d.reply.txn.0) (kept_numbers o) ≡ has → (above && (below && not has)) ≡ false
          → Among disk.committed o.kept d
      by false below has x y z e = let same = ok.of_committed in let le : d.reply.txn.0 ≤ committed = grind (arith, nat_tests, x)
          in inl (omega arith)
      by true false has x y z e =
          let n = (h.done.numbers d a m).1 in
          let lt = old_boot d a in
          let le : first_of o.boot ≤ d.reply.txn.0 = grind (arith, nat_tests, y) in
          absurd (omega arith)
      by true true false x y z e = absurd (cc)
      by true true true x y z e = let k = in_map (λ (v : Deed). v.reply.txn.0) d.reply.txn.0 o.kept
          (has_in d.reply.txn.0 (kept_numbers o) z) in inr (k.0, k.1, k.2)

  -- what is committed isn't lost by it
  pub committed_stands : (d : Deed) → Stands head.osts past d → d.reply.txn.0 ≤ disk.committed → Stands head.osts closes d
  committed_stands d s low =
      let same = ok.of_committed in
      let out : nat_lt committed d.reply.txn.0 ≡ false = grind (arith, nat_tests, low, same) in
      or_from (is_lost head.osts past d.reply.txn.0) (loses committed o d.reply.txn.0) s (rw out refl)

  -- ---- who has a slot

  pub lives_are : o.disk.lives ≡ with_lives o.joins (without_lives (lives_in o.gone) disk.lives)
  lives_are = ap (λ (x : Disk). x.lives) c.disk

  -- a life that had a slot and stays, or one that joins
  pub has_or : (w : Who) → HasSlot head.clients closes w → In w (wishes_of past)
      ⊎ (HasSlot head.clients past w × (is_life w (lives_in o.gone) ≡ false))
  has_or w has =
      ⊎_elim
      (λ (j : is_life w o.joins ≡ true). inl (subst (λ (ws : List Who). In w ws) c.joins (stands_life w o.joins j)))
      (λ (s : is_life w (without_lives (lives_in o.gone) disk.lives) ≡ true).
      let f = in_filter (λ (x : Who). not (is_life x (lives_in o.gone))) w disk.lives
      (stands_life w (without_lives (lives_in o.gone) disk.lives) s) in
      inr (
        subst (λ (ws : List Who). is_life w ws ≡ true) ok.of_lives (life_stands w disk.lives f.0),
        not-true (is_life w (lives_in o.gone)) f.1,
      ))
      (or_cases (is_life w o.joins) (is_life w (without_lives (lives_in o.gone) disk.lives))
      (sym (any_lives (same_life w) o.joins (without_lives (lives_in o.gone) disk.lives)) ∙ sym (ap (is_life w) lives_are) ∙ has))

  -- one that joins had none before
  pub wish_new : (w : Who) → In w (wishes_of past) → Had head.clients past w → ⊥
  wish_new w i had =
      let k = h.recovers.wishes ok.recovers w i in
      let lt = k.3 in
      ⊎_elim
      (λ (has : HasSlot head.clients past w). let same : w.life ≡ k.0.life = ap (λ (v : Who). v.life) (h.lives.one w k.0 has k.1 (sym k.2))
      in absurd (omega arith))
      (λ (e : Evicted past w). let less = h.lives.apart k.0 w k.1 e k.2 in absurd (omega arith))
      had

  pub stays : (w : Who) → Had head.clients past w → HasSlot head.clients closes w → HasSlot head.clients past w
      × (is_life w (lives_in o.gone) ≡ false)
  stays w had has = ⊎_elim (λ (i : In w (wishes_of past)). absurd (wish_new w i had))
      (λ (k : HasSlot head.clients past w × (is_life w (lives_in o.gone) ≡ false)). k) (has_or w has)

  -- it isn't among those that were removed
  pub not_removed : (w : Who) → HasSlot head.clients past w → is_life w disk.removed ≡ false
  not_removed w has = by (is_life w disk.removed) refl
    where
      by : (b : Bool) → is_life w disk.removed ≡ b → b ≡ false
      by false e = refl
      by true e = let lt = h.lives.apart w w has (subst (λ (ws : List Who). is_life w ws ≡ true) ok.of_removed e) refl
          in absurd (omega arith)

  -- ---- the slots

  abbrev filled : List LifeSlot
  filled = slots_without (lives_in o.gone) (slots_kept (replies_of o.kept []) disk.slots)

  slots_are : o.disk.slots ≡ filled
  slots_are = ap (λ (x : Disk). x.slots) c.disk

  of : (e : Deed) → In e o.kept → OfDeed head.osts past disk.committed e
  of = kept_of_deed head past (turn stamp (Target t)) o ok h

  close_high : (d : Deed) → Acted past d → HasSlot head.clients closes d.reply.who → IsMade d → Stands head.osts closes d
      → d.reply.xid.0 ≤ (slot_in o.disk.slots d.reply.who d.tag).taken
  close_high d a has m s =
      let k = stays d.reply.who (h.lives.acted d a) has in
      let before = stands_before d s in
      subst (λ (slots : List LifeSlot). d.reply.xid.0 ≤ (slot_in slots d.reply.who d.tag).taken) (sym slots_are)
      (filled_high head.osts head.clients past h.done disk.committed o.kept c.falls of (lives_in o.gone) disk.slots d a m before
      (λ low. h.disk.high d a m before low (not_removed d.reply.who k.0))
      (stands_kept d a m s) k.1)

  -- a reply that is made anew was heard, and all requests of its number are of earlier boots
  rebuilt_now : (who : Who) (tag : ℕ) (k : ReplyTo) (e : Deed) → In e o.kept → OfSlot who tag e → e.reply ≡ k → Rebuilt closes who k
  rebuilt_now who tag k e i slot is =
      let g = c.kept e i in
      let d = kept_done head past (turn stamp (Target t)) o ok h e i in
      let by_life : Hears past who d.flight.xid = subst (λ (w : Who). Hears past w d.flight.xid) (sym g.2 ∙ slot.0)
      (heard_hears past g.0.who d.flight d.reply d.heard) in
      let xid : d.flight.xid ≡ k.xid.0 = d.flown ∙ sym g.5 ∙ ap (λ (v : ReplyTo). v.xid.0) is in (
        subst (λ (x : ℕ). Hears past who x) xid by_life,
        λ from u r w q x. let low = (h.done.sent from (Target u) (message.Request r) w).3 in let lt = newer in omega arith,
      )

  pub rebuilt_still : (who : Who) (k : ReplyTo) → Rebuilt past who k → Rebuilt closes who k
  rebuilt_still who k r = rebuilt_more past closes who k (λ i. i) (λ from u q w y x. w) (let lt = newer in omega arith) r

  pub stored_still : (who : Who) (tag : ℕ) (k : ReplyTo) → StoredFor head.osts past disk.committed who tag k
      → StoredFor head.osts closes disk.committed who tag k
  stored_still who tag k (inl g) = inl (g.0, g.1, g.2, g.3, g.4, committed_stands g.0 g.5 g.6, g.6)
  stored_still who tag k (inr r) = inr (rebuilt_still who k r)

  stored_kept : (who : Who) (tag : ℕ) (k : ReplyTo) → StoredFor head.osts closes disk.committed who tag k
      → KeptFor head.osts closes who tag k
  stored_kept who tag k (inl g) = inl (g.0, g.1, g.2, g.3, inr (g.4, g.5))
  stored_kept who tag k (inr r) = inr r

  close_kept : (who : Who) (tag : ℕ) (k : ReplyTo) → (slot_in o.disk.slots who tag).reply ≡ Some k → KeptFor head.osts closes who tag k
  close_kept who tag k e =
      ⊎_elim
      (λ (old : (slot_in disk.slots who tag).reply ≡ Some k). stored_kept who tag k (stored_still who tag k (h.disk.kept who tag k old)))
      (λ (g : (e : Deed) × In e o.kept × OfSlot who tag e × (e.reply ≡ k)). inr (rebuilt_now who tag k g.0 g.1 g.2 g.3))
      (filled_kept head.osts head.clients past h.done disk.committed o.kept c.falls of (lives_in o.gone) disk.slots who tag k
      (subst (λ (slots : List LifeSlot). (slot_in slots who tag).reply ≡ Some k) slots_are e))

  close_slots : (who : Who) (tag : ℕ) (k : ReplyTo) → (slot_in o.disk.slots who tag).reply ≡ Some k → (k.who ≡ who)
      × (k.xid.0 ≡ (slot_in o.disk.slots who tag).taken)
  close_slots who tag k =
      subst (λ (slots : List LifeSlot). (slot_in slots who tag).reply ≡ Some k → (k.who ≡ who) × (k.xid.0 ≡ (slot_in slots who tag).taken))
      (sym slots_are)
      (filled_slots head.osts head.clients past h.done disk.committed o.kept c.falls of (lives_in o.gone) disk.slots h.disk.slots who tag k)

  -- ---- messages

  -- the committed number doesn't fall
  pub close_commits : committed ≤ o.disk.committed
  close_commits =
      let le = last_upto disk.committed o.kept in
      let is = ap (λ (x : Disk). x.committed) c.disk in
      let same = ok.of_committed in
      omega arith

  close_grows : Grows head.osts past closes
  close_grows =
      record {
        flew = λ w f i. i;
        acted = λ d a. a;
        lives = λ d. omega arith;
        closed = let lt = newer in omega arith;
        committed = close_commits;
        counts = λ b low le. let lt = newer in absurd (omega arith);
        stays = λ le. let lt = newer in absurd (omega arith);
      }

  pub done_close : Done head.osts head.clients closes
  done_close =
      let k = h.done in
      record {
        flew = k.flew;
        boots = λ d a. let b = k.boots d a in let lt = old_boot d a in (b.0, omega arith);
        numbers = k.numbers;
        bare = k.bare;
        plain = k.plain;
        high = λ d a has counts. let m = counts_made d a counts in close_high d a has m.0 m.1;
        kept = close_kept;
        slots = close_slots;
        heard = k.heard;
        newest = λ d n. absurd n;
        known = λ who x i has from u r w q e le. let low = (k.sent from (Target u) (message.Request r) w).3 in let lt = newer
            in absurd (omega arith);
        answered = k.answered;
        waits = λ r i. absurd i;
        glimpses = λ g i. absurd i;
        sent = λ from to m s. meant_more head.osts past closes close_grows to m (k.sent from to m s);
        once = λ d e a b m n. k.once d e a b (counts_before d a m) (counts_before e b n);
        alone = λ who f r d e i has a is b m s.
            let g = k.answered who f r i in
            let had : Had head.clients past who = subst (Had head.clients past) (sym (ap (λ (v : ReplyTo). v.who) g.2) ∙ g.3)
            (h.lives.acted g.0 g.1) in
            k.alone who f r d e i (stays who had has).0 a is b m (stands_before e s);
        rises = λ d e a b m n s u. k.rises d e a b m n (stands_before d s) (stands_before e u);
        single = k.single;
      }
