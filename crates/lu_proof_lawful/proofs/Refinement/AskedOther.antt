-- A line of another node leaves what a live client has asked, holds and awaits as it was.
use Rattle.std.proofs.Common.{◌≡◌, ℕ, Bool, ◌<◌, true, false, List, [], ◌∷◌, ◌++◌, Option, ◌⊎◌, inl, inr, ⊎_elim, refl, sym, subst, ap, ◌∙◌}
use Rattle.std.specs.Prelude.{nat_eq, if◌then◌else◌}
use Rattle.std.proofs.lemmas.Bool.{eqb-true, eqb-false, both_ways}
use Rattle.lu_base.specs.declared.ids.Cookie.{Cookie}
use Rattle.lu_base.specs.declared.ids.Node.{Node}
use Rattle.lu_base.specs.declared.ids.Node.TheVariants.{Client, Target}
use Rattle.lu_base.specs.declared.ids.Who.{Who}
use Rattle.lu_base.specs.declared.locks.Lock.{Lock as TableLock}
use Rattle.lu_base.specs.declared.locks.Resource.{Resource}
use Rattle.lu_held.specs.declared.locks.HeldLock.{HeldLock}
use Rattle.lu_spec_entries.specs.Carried.{Deed, Queued, Flight}
use Rattle.lu_spec_entries.specs.Words as word
use Rattle.lu_spec_entries.specs.Words.{Line, is_client}
use Rattle.lu_spec_entries.specs.Concerns.{concerns, only}
use Rattle.lu_spec_entries.specs.Fields.{on}
use Rattle.lu_spec_client.specs.Caches.{reads_held, held_after, held_at, patch_at, held_as}
use Rattle.lu_spec_client.specs.Calls.{reads_life, life_after, life_at}
use Rattle.lu_spec_client.specs.States.{Store, store_at, store_turn}
use Rattle.lu_proof_lawful.specs.Covered.ClientStates.{is_own, queue_of, flights_of, awaits_of}
use Rattle.lu_proof_lawful.specs.Covered.Heads.{Head}
use Rattle.lu_proof_lawful.proofs.Preconditions.Heard.{In}
use Rattle.lu_proof_lawful.proofs.Preconditions.HeedMarks.{owed_of}
use Rattle.lu_proof_lawful.proofs.Preconditions.Heeds.{other_owed, owed_other, store_other}
use Rattle.lu_proof_lawful.proofs.Preconditions.Lists.{self}
use Rattle.lu_proof_lawful.proofs.Preconditions.Parts.{life_is_of, rise_of, life_client, not_other, Rise}
use Rattle.lu_proof_lawful.proofs.Preconditions.ClientLines.{on_other}
use Rattle.lu_proof_lawful.proofs.Preconditions.StoryGuards.{EntryOf}
use Rattle.lu_proof_lawful.proofs.Invariants.TargetGroups.{Gave, Gone}
use Rattle.lu_proof_lawful.proofs.Invariants.Lines.{only_more}
use Rattle.lu_proof_bytes.specs.Object.Words.{Entry}
use Rattle.lu_proof_bytes.specs.Object.Folds.{WriteBack}
use Rattle.lu_proof_bytes.specs.Object.Folds as says
use Rattle.lu_proof_lawful.specs.Projection.Lives.{number_of}
use Rattle.lu_proof_lawful.specs.Projection.Stories.{story}
use Rattle.lu_proof_lawful.proofs.Projection.Lives.{same_life}
use Rattle.lu_proof_lawful.proofs.Refinement.Covering.{given_line}
use Rattle.lu_proof_lawful.proofs.Refinement.Stood.{Stood, grown_there}
use Rattle.lu_proof_lawful.proofs.Refinement.Tied.{Here, Grows}
use Rattle.lu_proof_lawful.proofs.Refinement.TiedStore.{life_number, store_owed}
use Rattle.lu_proof_lawful.proofs.Refinement.TiedAsked.{IsOn, BroughtOn, TakenAs, queued_backs, flying_backs, backs_of, JustTaken, AskedOf}
use Rattle.lu_proof_lawful.proofs.Refinement.TiedAsked.{AskedBy}
use Rattle.lu_proof_lawful.proofs.Refinement.AskedFolds.{only_stays, queue_stays, flights_stay, awaits_stays, StaysFor}
use Rattle.lu_proof_lawful.proofs.Refinement.AskedKept.{ShowsNone, SameLocks, flights_kept, stays_locks, locks_kept, awaits_kept}
use Rattle.lu_proof_lawful.proofs.Refinement.AskedKept.{backs_kept}
use Rattle.lu_proof_lawful.proofs.Refinement.AskedSteps.{NotOf, ShowsLock, step_by, stays_grown, given_grows}

-- a lock that a line shows is that of its client's life
pub shown_life : (head : Head) (l : Line) (past : List Line) → Stood head l past → (d : ℕ) (m : TableLock) → l.at.node ≡ Client d
    → ShowsLock l.entry m → number_of m.ask.who ≡ life_number d past
shown_life head l past s d m here shows = by l.at.node l.entry s.ok.of here shows
  where
    held : (u c : ℕ) (x : HeldLock) → In x (held_at c (only u past)) → x.lock.ask.who ≡ life_at c past
    held u c x i =
        let holding = ((s.before).at u).locks.held c x i in
        ((s.before).at u).locks.whose holding.deed x.lock holding.gave ∙ holding.who ∙ sym (life_is_of c u past)

    number : (c : ℕ) (x : TableLock) → Client c ≡ Client d → x ≡ m → x.ask.who ≡ life_at c past → number_of m.ask.who ≡ life_number d past
    number c x same e own = let q : c ≡ d = cc in ap (λ (y : TableLock). number_of y.ask.who) (sym e) ∙ ap number_of own
        ∙ ap (λ (y : ℕ). life_number y past) q

    by : (node : Node) (x : word.Entry) → ((t : ℕ) → concerns t node x ≡ true → EntryOf head (only t past) l.at node x) → node ≡ Client d
        → ShowsLock x m → number_of m.ask.who ≡ life_number d past
    by (Client c) (word.Hold u k marked size seen) of e i =
        ⊎_elim (λ ok. number c k e i (held u c (held_as u k false) ok.1.held))
        (λ ok. number c k e i (ok.of_life ∙ ok.who ∙ sym (life_is_of c u past))) (of u (self u))
    by (Client c) (word.Drop u k) of e i = let ok = of u (self u)
        in number c k e i (ap (λ (y : TableLock). y.ask.who) (sym ok.is) ∙ held u c ok.holding ok.held)
    by (Target v) x of e i = absurd (cc)
    by (Client c) _ of e i = absurd i

-- what a client holds of a target is its life's
pub own_life : (head : Head) (t : ℕ) (l : Line) (past : List Line) → Stood head l past → (c : ℕ) (x : HeldLock)
    → In x (held_at c (only t past)) → number_of x.lock.ask.who ≡ life_number c past
own_life head t l past s c x i =
    let holding = ((s.before).at t).locks.held c x i in
    ap number_of (((s.before).at t).locks.whose holding.deed x.lock holding.gave ∙ holding.who ∙ sym (life_is_of c t past))

-- what was brought on the object, of a lock that is awaited, was brought before
pub brought_before : (head : Head) (t : ℕ) (r : Resource) (l : Line) (past : List Line) → Stood head l past → (who : Who) (k : ℕ)
    → 0 < awaits_of who k (only t past) → BroughtOn r (only t (l ∷ past)) k → BroughtOn r (only t past) k
brought_before head t r l past s who k low b =
    let w = ((s.before).at t).locks.awaits who k low in
    let same = ((s.after).at t).locks.named b.0 w.deed k b.1 (only_more t l past w.deed w.acted) (inr b.2) (inr w.brings) in
    (w.deed, w.acted, w.brings, subst (λ (d : Deed). IsOn r d.op) same b.3)

-- a lock that was given up before was given before
pub gave_before : (head : Head) (t : ℕ) (l : Line) (past : List Line) → Stood head l past → (who : Who) (d : Deed) (m : TableLock)
    → Gave (only t (l ∷ past)) d m → Gone (only t past) who m.cookie → Gave (only t past) d m
gave_before head t l past s who d m gave gone =
    let b = ((s.before).at t).locks.gone who m.cookie gone in
    let same = ((s.after).at t).locks.once b.deed d b.lock m (given_line t l past b.deed b.lock b.gave) gave b.is in
    subst (λ (x : TableLock). Gave (only t past) d x) same.1 (subst (λ (x : Deed). Gave (only t past) x b.lock) same.0 b.gave)

-- another line than that of a life gives up none of its locks
pub gone_stays : (who : Who) (past : List Line) (l : Line) (cookie : Cookie) → is_own who past l.at.node ≡ false
    → Gone (l ∷ past) who cookie → Gone past who cookie
gone_stays who past l cookie other gone = by l.entry gone
  where
    by : (x : word.Entry) → Gone (record l { entry = x } ∷ past) who cookie → Gone past who cookie
    by (word.Drop target lock) g = ⊎_elim (λ p. absurd (both_ways (is_own who past l.at.node) other p.0)) (λ (i : Gone past who cookie). i)
        g
    by x g = g

-- where it doesn't concern the target neither does it
pub gone_only : (t : ℕ) (who : Who) (l : Line) (past : List Line) (cookie : Cookie)
    → (Gone (l ∷ only t past) who cookie → Gone (only t past) who cookie) → Gone (only t (l ∷ past)) who cookie
    → Gone (only t past) who cookie
gone_only t who l past cookie f = by (concerns t l.at.node l.entry)
  where
    by : (b : Bool) → Gone (if b then l ∷ only t past else only t past) who cookie → Gone (only t past) who cookie
    by true g = f g
    by false g = g

module _ (head : Head) (t : ℕ) (r : Resource) (l : Line) (past : List Line) (here : Here head t r l past)
    (g : Grows (story t r past) (story t r (l ∷ past))) (c : ℕ) (other : is_client c l.at.node ≡ false) where
  abbrev P : List Line
  P = only t past

  abbrev Q : List Line
  Q = only t (l ∷ past)

  abbrev who : Who
  who = life_at c past

  rises : Rise P
  rises = rise_of head P (grown_there head l past here.stood t)

  not_own : is_own who P l.at.node ≡ false
  not_own = by l.at.node other
    where
      by : (node : Node) → is_client c node ≡ false → is_own who P node ≡ false
      by (Target u) e = refl
      by (Client d) e = subst (λ (v : Who). is_own v P (Client d) ≡ false) (sym (life_is_of c t past)) (not_other c d P rises e)

  -- the line's life has another number
  pub not_of : NotOf (life_number c past) past l.at.node
  not_of = by l.at.node other
    where
      client : (d : ℕ) → (life_at d past).client ≡ d
      client d = ap (λ (v : Who). v.client) (life_is_of d t past) ∙ life_client d P rises

      by : (node : Node) → is_client c node ≡ false → NotOf (life_number c past) past node
      by (Target u) e = tt
      by (Client d) e = apart (nat_eq (life_number c past) (life_number d past)) refl
        where
          apart : (v : Bool) → nat_eq (life_number c past) (life_number d past) ≡ v → v ≡ false
          apart false f = refl
          apart true f =
              let same = same_life (life_at c past) (life_at d past) (eqb-true _ _ f) in
              absurd (eqb-false c d e (sym (client c) ∙ ap (λ (v : Who). v.client) same ∙ client d))

  pub stays_other : StaysFor (life_number c past) (story t r past) (story t r (l ∷ past))
  stays_other =
      stays_grown (life_number c past) (story t r past) (story t r (l ∷ past)) here.world g
      (step_by (life_number c past) t r past (story t r past) l.at.node l.entry not_of
      (λ d m e i. shown_life head l past here.stood d m e i))

  pub life_other : life_at c (l ∷ past) ≡ life_at c past
  life_other = ap (λ (b : Bool). on (reads_life l.entry) b (life_after (life_at c past) l.entry) (life_at c past)) other
      ∙ on_other (reads_life l.entry) (life_after (life_at c past) l.entry) (life_at c past)

  held_other : held_at c Q ≡ held_at c P
  held_other = only_stays (held_at c) t l past (λ m. ap (λ (b : Bool). on (reads_held l.entry) b (held_after (held_at c P) l.entry)
      (held_at c P)) other ∙ on_other (reads_held l.entry) (held_after (held_at c P) l.entry) (held_at c P))

  owed_before : owed_of c past ≡ []
  owed_before = other_owed c past l (here.stood.heeds.0 c) other

  owed_after : owed_of c (l ∷ past) ≡ []
  owed_after = owed_other c l.at l.entry past other ∙ owed_before

  flights_other : flights_of who Q ≡ flights_of who P
  flights_other = only_stays (flights_of who) t l past (λ m. flights_stay who P l.at l.entry (inl not_own))

  queue_other : queue_of who Q ≡ queue_of who P
  queue_other = only_stays (queue_of who) t l past (λ m. queue_stays who P l.at l.entry (inl not_own))

  awaits_other : (k : ℕ) → awaits_of who k Q ≡ awaits_of who k P
  awaits_other k = only_stays (awaits_of who k) t l past (λ m. awaits_stays who P l.at k l.entry (inl not_own))

  store_same : store_owed c (l ∷ past) ≡ store_owed c past
  store_same =
      ap (λ (es : List word.Entry). store_turn (store_at c (l ∷ past)) es) (owed_other c l.at l.entry past other)
      ∙ ap (λ (s : Store). store_turn s (owed_of c past)) (store_other c l.at l.entry past other)

  backs_other : backs_of r who Q ≡ backs_of r who P
  backs_other = ap (λ (qs : List Queued). queued_backs r qs ++ flying_backs r (flights_of who Q)) queue_other
      ∙ ap (λ (fs : List Flight). queued_backs r (queue_of who P) ++ flying_backs r fs) flights_other

  same_locks : (hs gs : List HeldLock) → hs ≡ gs → SameLocks hs gs
  same_locks hs gs e x i = (x, subst (λ (ys : List HeldLock). In x ys) e i, refl)

  pub asked_other : AskedBy t r past c → AskedBy t r (l ∷ past) c
  asked_other a =
      let h = story t r past in
      let k = story t r (l ∷ past) in
      let stays = stays_other in
      subst (λ (v : Who). AskedOf t r (l ∷ past) c v) (sym life_other) (record {
        flights = flights_kept r h k (number_of who) (flights_of who P) (flights_of who Q) flights_other (given_grows h k here.world g)
            stays.flight a.flights;
        locks =
            locks_kept t r h k c who P Q (owed_of c past) (owed_of c (l ∷ past)) (stays_locks (number_of who) h k stays)
            (same_locks (held_at c P) (held_at c Q) (sym held_other)) (same_locks (held_at c Q) (held_at c P) held_other)
            (own_life head t l past here.stood c)
            (none_shown (owed_of c past) owed_before) (none_shown (owed_of c (l ∷ past)) owed_after)
            (λ d m gave on gone.
            let was = gone_only t who l past m.cookie (gone_stays who P l m.cookie not_own) gone in
            (gave_before head t l past here.stood who d m gave was, was)) a.locks;
        awaits = awaits_kept r h k who P Q stays.awaits awaits_other (λ d i. only_more t l past d i)
            (λ j low b. brought_before head t r l past here.stood who j low b) a.awaits;
        taken = subst (λ (s : Store). TakenAs (says.taken (number_of who) k) (patch_at r s.patches).flight) (sym store_same)
            (subst (λ (x : Option WriteBack). TakenAs x (patch_at r (store_owed c past).patches).flight) (sym stays.taken) a.taken);
        backs = backs_kept r h k (number_of who) (backs_of r who P) (backs_of r who Q) (JustTaken past c r) (JustTaken (l ∷ past) c r)
            backs_other stays.taken (λ change j. not_mine j.0) a.backs;
      })
    where
      none_shown : (es : List word.Entry) → es ≡ [] → ShowsNone t es
      none_shown es e lock marked size seen more f = absurd (let q : [] ≡ word.Hold t lock marked size seen ∷ more = sym e ∙ f in cc)

      not_mine : l.at.node ≡ Client c → ⊥
      not_mine e = both_ways (is_client c l.at.node) other (ap (is_client c) e ∙ self c)
