-- Whose lives a target serves after it closed a recovery window: those that were back and whose client has no newer life that joins, and
-- those that join; who had a slot and has none any more was evicted.
use Rattle.std.proofs.Common.{◌≡◌, ℕ, ◌<◌, ◌≤◌, Bool, true, false, List, ◌∷◌, ◌⊎◌, inl, inr, ⊎_elim, refl, sym, subst, ap, ◌∙◌, arith}
use Rattle.lu_base.specs.declared.ids.Node.TheVariants.{Target}
use Rattle.lu_base.specs.declared.ids.Stamp.{Stamp}
use Rattle.lu_base.specs.declared.ids.Who.{Who}
use Rattle.lu_spec_entries.specs.Carried.{Outcome}
use Rattle.lu_spec_entries.specs.Words.{Close, Line, line}
use Rattle.lu_spec_target.specs.Lives.{is_life, with_lives, without_lives, lives_of as lives_in}
use Rattle.lu_spec_target.specs.Windows.{Window, kept_numbers, gone_from}
use Rattle.lu_proof_lawful.specs.Covered.Calls.{first_life}
use Rattle.lu_proof_lawful.specs.Covered.TargetStates.{server_of, lives_of, evicted_of, closed_of, wishes_of, window_of}
use Rattle.lu_proof_lawful.specs.Covered.TargetCloses.{outcome_of}
use Rattle.lu_proof_lawful.specs.Covered.ClientStates.{life_of, known_of}
use Rattle.lu_proof_lawful.specs.Covered.Heads.{Head}
use Rattle.lu_proof_lawful.proofs.Preconditions.Guards.{In}
use Rattle.lu_proof_lawful.proofs.Preconditions.StoryGuards.{Newer, CloseOk}
use Rattle.lu_proof_lawful.proofs.Preconditions.LifeLists.{life_stands}
use Rattle.lu_proof_lawful.proofs.Invariants.Groups.{turn, Recovers}
use Rattle.lu_proof_lawful.proofs.Invariants.TargetGroups.{HasSlot, Evicted, Had, Lives}
use Rattle.lu_proof_lawful.proofs.Preconditions.CloseLists.{puts_or, put_each, puts_more, stays_all, left_all, gone_had, stays_back}
use Rattle.lu_proof_lawful.proofs.Preconditions.CloseLists.{left_not, wish_one}
use Rattle.lu_proof_lawful.proofs.Invariants.LifeLists.{back_word}

module _ (head : Head) (past : List Line) (stamp : Stamp) (t : ℕ) (o : Outcome) (ok : CloseOk head past (turn stamp (Target t)) o)
    (r : Recovers head.osts head.clients past) (h : Lives head.clients past) where
  abbrev closed : List Line
  closed = line (turn stamp (Target t)) (Close (outcome_of head.osts head.clients (turn stamp (Target t)) past)) ∷ past

  abbrev window : Window
  window = window_of head.osts head.clients past

  abbrev gone : List Who
  gone = lives_in (gone_from window (kept_numbers window) (lives_of head.clients past))

  -- those that have a slot after it, and those that were evicted
  lives_now : lives_of head.clients closed ≡ with_lives (wishes_of past) (without_lives gone (lives_of head.clients past))
  lives_now = ap (λ (ws : List Who). with_lives (wishes_of past) (without_lives gone ws)) ok.of_lives

  evicted_now : evicted_of closed ≡ with_lives gone (evicted_of past)
  evicted_now = ap (with_lives gone) ok.of_removed

  -- who has a slot joined or stayed
  slot_now : (w : Who) → is_life w (lives_of head.clients closed) ≡ true → In w (wishes_of past)
      ⊎ (HasSlot head.clients past w × (is_life w gone ≡ false))
  slot_now w e =
      ⊎_elim
      (λ (i : In w (wishes_of past)). inl i)
      (λ (i : is_life w (without_lives gone (lives_of head.clients past)) ≡ true). inr (left_all w gone (lives_of head.clients past) i))
      (puts_or w (wishes_of past) (without_lives gone (lives_of head.clients past))
      (subst (λ (ws : List Who). is_life w ws ≡ true) lives_now e))

  -- who was evicted was so before, or had a slot and loses it
  pub out_now : (w : Who) → Evicted closed w → (HasSlot head.clients past w × (is_life w gone ≡ true)) ⊎ Evicted past w
  out_now w e = by (is_life w gone) refl
    where
      by : (b : Bool) → is_life w gone ≡ b → (HasSlot head.clients past w × (is_life w gone ≡ true)) ⊎ Evicted past w
      by true g = inl (gone_had window (kept_numbers window) (lives_of head.clients past) w g, g)
      by false g =
          ⊎_elim
          (λ (i : In w gone). let there = life_stands w gone i in absurd (cc))
          (λ (i : Evicted past w). inr i)
          (puts_or w gone (evicted_of past) (subst (λ (ws : List Who). is_life w ws ≡ true) evicted_now e))

  out_still : (w : Who) → Evicted past w → Evicted closed w
  out_still w e = subst (λ (ws : List Who). is_life w ws ≡ true) (sym evicted_now) (puts_more w gone (evicted_of past) e)

  had_still : (w : Who) → Had head.clients past w → Had head.clients closed w
  had_still w (inr e) = inr (out_still w e)
  had_still w (inl e) = by (is_life w gone) refl
    where
      by : (b : Bool) → is_life w gone ≡ b → Had head.clients closed w
      by true g = inr (subst (λ (ws : List Who). is_life w ws ≡ true) (sym evicted_now) (put_each w gone (evicted_of past) g))
      by false g = inl (subst (λ (ws : List Who). is_life w ws ≡ true) (sym lives_now)
          (puts_more w (wishes_of past) (without_lives gone (lives_of head.clients past))
          (stays_all w gone (lives_of head.clients past) e g)))

  -- who stays was back, so its client knows the boot
  stays_knows : (w : Who) → HasSlot head.clients past w → is_life w gone ≡ false → (server_of head.osts past).boot ≤ known_of w.client past
  stays_knows w e g =
      let b = stays_back window (kept_numbers window) (lives_of head.clients past) w e g in
      let word = back_word window w b.0 in
      (r.words ok.recovers w word.0 word.1).2

  -- and no life of its client joins
  stays_alone : (w x : Who) → HasSlot head.clients past w → is_life w gone ≡ false → In x (wishes_of past) → x.client ≡ w.client → ⊥
  stays_alone w x e g i c = left_not window w x (stays_back window (kept_numbers window) (lives_of head.clients past) w e g).1 i c

  knows_now : (w : Who) → is_life w (lives_of head.clients closed) ≡ true → (w.client < head.clients)
      × (closed_of closed ≤ known_of w.client past)
  knows_now w e =
      ⊎_elim
      (λ (i : In w (wishes_of past)). let q = r.wishes ok.recovers w i in (subst (λ n. n < head.clients) q.2 (h.knows q.0 q.1).0, q.5))
      (λ (i : HasSlot head.clients past w × (is_life w gone ≡ false)). ((h.knows w i.0).0, stays_knows w i.0 i.1))
      (slot_now w e)

  low_now : (w : Who) → Had head.clients closed w → w.life ≤ (life_of w.client past).life
  low_now w (inl e) =
      ⊎_elim
      (λ (i : In w (wishes_of past)). (r.wishes ok.recovers w i).4)
      (λ (i : HasSlot head.clients past w × (is_life w gone ≡ false)). h.low w (inl i.0))
      (slot_now w e)
  low_now w (inr e) =
      ⊎_elim
      (λ (i : HasSlot head.clients past w × (is_life w gone ≡ true)). h.low w (inl i.0))
      (λ (i : Evicted past w). h.low w (inr i))
      (out_now w e)

  one_now : (w x : Who) → is_life w (lives_of head.clients closed) ≡ true → is_life x (lives_of head.clients closed) ≡ true → w.client
      ≡ x.client → w ≡ x
  one_now w x e k c = by (slot_now w e) (slot_now x k)
    where
      by : In w (wishes_of past) ⊎ (HasSlot head.clients past w × (is_life w gone ≡ false)) → In x (wishes_of past)
          ⊎ (HasSlot head.clients past x × (is_life x gone ≡ false)) → w ≡ x
      by (inl i) (inl j) = wish_one (wishes_of past) r.wishes_rise w x i j c
      by (inl i) (inr j) = absurd (stays_alone x w j.0 j.1 i c)
      by (inr i) (inl j) = absurd (stays_alone w x i.0 i.1 j (sym c))
      by (inr i) (inr j) = h.one w x i.0 j.0 c

  apart_now : (w x : Who) → is_life w (lives_of head.clients closed) ≡ true → Evicted closed x → w.client ≡ x.client → x.life < w.life
  apart_now w x e k c = by (slot_now w e) (out_now x k)
    where
      by : In w (wishes_of past) ⊎ (HasSlot head.clients past w × (is_life w gone ≡ false))
          → (HasSlot head.clients past x × (is_life x gone ≡ true)) ⊎ Evicted past x → x.life < w.life
      by (inl i) (inl j) =
          let q = r.wishes ok.recovers w i in
          let same : q.0 ≡ x = h.one q.0 x q.1 j.0 (q.2 ∙ c) in
          subst (λ (v : Who). v.life < w.life) same q.3
      by (inl i) (inr j) =
          let q = r.wishes ok.recovers w i in
          let lt : x.life < q.0.life = h.apart q.0 x q.1 j (q.2 ∙ c) in
          let more : q.0.life < w.life = q.3 in
          omega arith
      by (inr i) (inl j) =
          let same : w ≡ x = h.one w x i.0 j.0 c in
          let stays : is_life x gone ≡ false = subst (λ (v : Who). is_life v gone ≡ false) same i.1 in
          let goes = j.1 in
          absurd (cc)
      by (inr i) (inr j) = h.apart w x i.0 j c

  newer_still : (who : Who) → Newer head.clients past who → Newer head.clients closed who
  newer_still who n = record { life = n.life; client = n.client; newer = n.newer; had = had_still n.life n.had }

  pub lives_close : Lives head.clients closed
  lives_close =
      record {
        knows = knows_now;
        low = low_now;
        one = one_now;
        apart = apart_now;
        first = λ c lt. had_still (first_life c) (h.first c lt);
        served = λ c lt s. had_still (life_of c past) (h.served c lt s);
        flew = λ x f a. had_still x (h.flew x f a);
        acted = λ d a. had_still d.reply.who (h.acted d a);
        spoke = λ from to x m w s. had_still x (h.spoke from to x m w s);
        ready = λ from to x boot committed w. had_still x (h.ready from to x boot committed w);
        over = λ from to x boot w. ⊎_elim (λ (e : Evicted past x). inl (out_still x e))
            (λ (n : Newer head.clients past x). inr (newer_still x n)) (h.over from to x boot w);
        knew = h.knew;
        joins = h.joins;
        silent = h.silent;
      }
