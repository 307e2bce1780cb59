-- What live clients have asked of a target for one object, hold and await there is what the story says, before the first line and after
-- each.
use Rattle.std.proofs.Common.{◌≡◌, ℕ, Bool, ◌+◌, ◌≤◌, ◌<◌, true, false, List, [], ◌∷◌, ◌++◌, Option, None, inl, refl, sym, subst, ap, ◌∙◌}
use Rattle.std.proofs.Common.{arith}
use Rattle.std.specs.Prelude.{nat_eq, ◌&&◌, if◌then◌else◌}
use Rattle.std.proofs.lemmas.Bool.{eqb-true}
use Rattle.lu_base.specs.declared.ids.Node.{Node}
use Rattle.lu_base.specs.declared.ids.Node.TheVariants.{Client, Target}
use Rattle.lu_base.specs.declared.ids.Stamp.{Stamp}
use Rattle.lu_base.specs.declared.ids.Who.{Who}
use Rattle.lu_base.specs.declared.locks.Lock.{Lock as TableLock}
use Rattle.lu_base.specs.declared.locks.Resource.{Resource}
use Rattle.lu_held.specs.declared.locks.HeldLock.{HeldLock}
use Rattle.lu_held.specs.Locks.{same_resource}
use Rattle.lu_msg.specs.declared.operations.Op.{Op}
use Rattle.lu_spec_entries.specs.Carried.{Deed, Queued, Flight}
use Rattle.lu_spec_entries.specs.Words as word
use Rattle.lu_spec_entries.specs.Words.{Line, line, is_client}
use Rattle.lu_spec_entries.specs.Concerns.{concerns, only}
use Rattle.lu_spec_client.specs.Caches.{held_at, patch_at}
use Rattle.lu_spec_client.specs.Calls.{life_at}
use Rattle.lu_spec_client.specs.Patches.{Flying}
use Rattle.lu_spec_client.specs.Recovery.{next_life}
use Rattle.lu_spec_client.specs.States.{Store, store_at, store_turn}
use Rattle.lu_proof_lawful.specs.Covered.Imports.{queue_at, flights_at}
use Rattle.lu_proof_lawful.specs.Covered.ClientStates.{life_of, is_own, queue_of, flights_of, last_of, awaits_of}
use Rattle.lu_proof_lawful.specs.Covered.Heads.{Head}
use Rattle.lu_proof_lawful.proofs.Preconditions.Heard.{In}
use Rattle.lu_proof_lawful.proofs.Preconditions.HeedMarks.{owed_of}
use Rattle.lu_proof_lawful.proofs.Preconditions.Heeds.{none_owed, store_line}
use Rattle.lu_proof_lawful.proofs.Preconditions.Lists.{self, turn, own_is, own_self}
use Rattle.lu_proof_lawful.proofs.Preconditions.Parts.{life_is_of, life_client, rise_of, queue_now, flights_now}
use Rattle.lu_proof_lawful.proofs.Preconditions.QueueLists.{resource_of}
use Rattle.lu_proof_lawful.proofs.Preconditions.StoryGuards.{EntryOf}
use Rattle.lu_proof_lawful.proofs.Invariants.TargetGroups.{Flew, Acted, Gave, Gone}
use Rattle.lu_proof_bytes.specs.Object.Words as words
use Rattle.lu_proof_bytes.specs.Object.Words.{Entry, Flies}
use Rattle.lu_proof_bytes.specs.Object.Folds.{WriteBack}
use Rattle.lu_proof_bytes.specs.Object.Folds as says
use Rattle.lu_proof_lawful.specs.Projection.Lives.{number_of, is_live}
use Rattle.lu_proof_lawful.specs.Projection.Messages.{request_as}
use Rattle.lu_proof_lawful.specs.Projection.Stories.{story}
use Rattle.lu_proof_lawful.proofs.Projection.Lives.{same_life}
use Rattle.lu_proof_lawful.proofs.Refinement.LineCases.{IsOther, by_line}
use Rattle.lu_proof_lawful.proofs.Refinement.OverLives.{life_more, life_now}
use Rattle.lu_proof_lawful.proofs.Refinement.Stood.{grown_there}
use Rattle.lu_proof_lawful.proofs.Refinement.Tied.{Here, Grows}
use Rattle.lu_proof_lawful.proofs.Refinement.TiedStore.{life_number, store_owed}
use Rattle.lu_proof_lawful.proofs.Refinement.TiedAsked.{TakenAs, queued_backs, flying_backs, FlightsAs, AskedOf, AskedBy, NotBegun}
use Rattle.lu_proof_lawful.proofs.Refinement.TiedAsked.{AskedTied}
use Rattle.lu_proof_lawful.proofs.Refinement.AskedFolds.{only_stays, StaysFor}
use Rattle.lu_proof_lawful.proofs.Refinement.AskedKept.{not_begun_kept}
use Rattle.lu_proof_lawful.proofs.Refinement.AskedSteps.{NotOf, step_by, stays_grown, live_before}
use Rattle.lu_proof_lawful.proofs.Refinement.AskedOther.{shown_life, gone_only, life_other, asked_other}
use Rattle.lu_proof_lawful.proofs.Refinement.AskedOwn.{stays_plain, asked_plain, backs_plain, owed_nothing}
use Rattle.lu_proof_lawful.proofs.Refinement.AskedQueues.{own_queues}
use Rattle.lu_proof_lawful.proofs.Refinement.AskedTakes.{takes_else, takes_here}
use Rattle.lu_proof_lawful.proofs.Refinement.AskedSends.{own_flies}
use Rattle.lu_proof_lawful.proofs.Refinement.AskedHears.{own_heard}
use Rattle.lu_proof_lawful.proofs.Refinement.AskedHolds.{own_hold}
use Rattle.lu_proof_lawful.proofs.Refinement.AskedDrops.{own_drop, own_knows}

-- ---- before the first line

pub asked_start : (head : Head) (t : ℕ) (r : Resource) → AskedTied head t r []
asked_start head t r = record {
  asked = λ who. omega arith;
  later = λ who low. record { asked = refl; flight = refl; holds = λ l i v. absurd i; awaits = λ k. refl; taken = refl };
  of = λ c live. record {
    flights = record { flies = λ f i on. absurd i; idle = λ n. refl; single = λ f g i j on too. absurd i };
    locks = record {
      held = λ m i v. absurd i;
      holds = λ k i on. absurd i;
      owed = λ lock m s z more q on. absurd (cc);
      dropped =
          λ d l g on gone. absurd gone;
    };
    awaits = record { awaits = λ k z. absurd (cc); awaited = λ k low b. absurd (omega (arith, low)) };
    taken = tt;
    backs = record { backs = inl refl; took = λ change j. absurd j };
  };
}

-- ---- the next life

module _ (head : Head) (t : ℕ) (r : Resource) (stamp : Stamp) (c : ℕ) (past : List Line) (v : Who)
    (here : Here head t r (line (turn stamp (Client c)) (word.Life v)) past) where
  abbrev e : word.Entry
  e = word.Life v

  abbrev l : Line
  l = line (turn stamp (Client c)) e

  abbrev P : List Line
  P = only t past

  abbrev Q : List Line
  Q = only t (l ∷ past)

  abbrev h : List Entry
  h = story t r past

  now : life_at c (l ∷ past) ≡ v
  now = ap (λ (b : Bool). if b then v else life_at c past) (self c)

  next : v ≡ next_life (life_at c past)
  next = here.stood.ok.ok.next

  client : v.client ≡ c
  client = ap (λ (x : Who). x.client) next ∙ ap (λ (x : Who). x.client) (life_is_of c t past)
      ∙ life_client c P (rise_of head P (grown_there head l past here.stood t))

  low : (life_at v.client past).life < v.life
  low = let same : v.life ≡ (life_at c past).life + 1 = ap (λ (x : Who). x.life) next in let own : (life_at v.client past).life
      ≡ (life_at c past).life = ap (λ (d : ℕ). (life_at d past).life) client in omega (arith, same, own)

  none : NotBegun (number_of v) h
  none = here.tied.asked.later v low

  -- it asked nothing at all
  never : (f : Flight) → Flew P v f → ⊥
  never f flew = let lived = (here.stood.before.at t).numbers.lived v f flew in let same : (life_of v.client P).life
      ≡ (life_at v.client past).life = ap (λ (x : Who). x.life) (sym (life_is_of v.client t past)) in let lt = low
      in absurd (omega (arith, lived, same, lt))

  never_acted : (d : Deed) → Acted P d → d.reply.who ≡ v → ⊥
  never_acted d acted whose = let f = (here.stood.before.at t).done.flew d acted in never f.0 (subst (λ (x : Who). Flew P x f.0) whose f.1)

  life_q : life_of c Q ≡ v
  life_q = sym (life_is_of c t (l ∷ past)) ∙ now

  flights_none : flights_of v Q ≡ []
  flights_none = ap (λ (x : Who). flights_of x Q) (sym life_q) ∙ sym (flights_now head c t (l ∷ past) (here.stood.ok, here.stood.grown))
      ∙ ap (λ (b : Bool). if b && true then [] else flights_at c t past) (self c)

  queue_none : queue_of v Q ≡ []
  queue_none = ap (λ (x : Who). queue_of x Q) (sym life_q) ∙ sym (queue_now head c t (l ∷ past) (here.stood.ok, here.stood.grown))
      ∙ ap (λ (b : Bool). if b && true then [] else queue_at c t past) (self c)

  owed_none : owed_of c past ≡ []
  owed_none = none_owed c past l (here.stood.heeds.0 c) (λ z. z)

  held_none : held_at c Q ≡ []
  held_none = only_stays (held_at c) t l past (λ m. refl) ∙ (here.stood.ok.of t refl).empty

  gone_none : (d : Deed) (m : TableLock) → Gave Q d m → Gone Q v m.cookie → ⊥
  gone_none d m gave gone = let b = (here.stood.before.at t).locks.gone v m.cookie (gone_only t v l past m.cookie (λ g. g) gone)
      in never_acted b.deed b.gave.0 b.of

  patch_none : (patch_at r (store_owed c (l ∷ past)).patches).flight ≡ None
  patch_none =
      ap (λ (es : List word.Entry). (patch_at r (store_turn (store_at c (l ∷ past)) es).patches).flight)
      (owed_nothing head t r stamp c past e tt owed_none)
      ∙ ap (λ (s : Store). (patch_at r s.patches).flight) (store_line c stamp past e)

  life_begins : AskedOf t r (l ∷ past) c (life_at c (l ∷ past))
  life_begins = subst (λ (x : Who). AskedOf t r (l ∷ past) c x) (sym now) (record {
    flights = subst (λ (fs : List Flight). FlightsAs r h (number_of v) fs) (sym flights_none)
        (record { flies = λ f i on. absurd i; idle = λ n. none.flight; single = λ f g i j on too. absurd i });
    locks = record {
      held = λ m i x. absurd (none.holds m i x);
      holds = λ k i on. absurd (subst (λ (hs : List HeldLock). In k hs) held_none i);
      owed = λ lock m s z more q on. absurd (let x : [] ≡ word.Hold t lock m s z ∷ more =
          sym (owed_nothing head t r stamp c past e tt owed_none) ∙ q in cc);
      dropped = λ d m g on gone. absurd (gone_none d m g gone);
    };
    awaits = record {
      awaits = λ k z. absurd (let x : false ≡ true = sym (none.awaits k) ∙ z in cc);
      awaited = λ k pos b. absurd (let w = (here.stood.before.at t).locks.awaits v k
          (subst (λ (n : ℕ). 0 < n) (only_stays (awaits_of v k) t l past (λ m. refl)) pos) in never_acted w.deed w.acted w.of);
    };
    taken = subst (λ (x : Option WriteBack). TakenAs x (patch_at r (store_owed c (l ∷ past)).patches).flight) (sym none.taken)
        (subst (λ (x : Option Flying). TakenAs None x) (sym patch_none) tt);
    backs = record {
      backs = inl (ap (λ (qs : List Queued). queued_backs r qs ++ flying_backs r (flights_of v Q)) queue_none
          ∙ ap (λ (fs : List Flight). flying_backs r fs) flights_none);
      took =
          λ change j. absurd (let x : word.Life v ≡ word.WritesBack r change = j.1 in cc);
    };
  })

-- ---- a client's own line

module _ (head : Head) (t : ℕ) (r : Resource) (stamp : Stamp) (c : ℕ) (past : List Line) where
  own_line : (e : word.Entry) → Here head t r (line (turn stamp (Client c)) e) past
      → Grows (story t r past) (story t r (line (turn stamp (Client c)) e ∷ past))
      → is_live c (line (turn stamp (Client c)) e ∷ past) (story t r (line (turn stamp (Client c)) e ∷ past)) ≡ true
      → (life_at c (line (turn stamp (Client c)) e ∷ past) ≡ life_at c past → is_live c past (story t r past) ≡ true)
      → AskedOf t r (line (turn stamp (Client c)) e ∷ past) c (life_at c (line (turn stamp (Client c)) e ∷ past))
  own_line (word.Queues u q) here g live before = own_queues head t r stamp c past u q here (before refl)
  own_line (word.Flies u f) here g live before = own_flies head t r stamp c past u f here (before refl)
  own_line (word.Heard u f p) here g live before = own_heard head t r stamp c past u f p here (before refl)
  own_line (word.Hold u lock marked size seen) here g live before =
      own_hold head t r stamp c past u lock marked size seen here (before refl)
  own_line (word.Drop u lock) here g live before = own_drop head t r stamp c past u lock here (before refl)
  own_line (word.Knows u boot) here g live before = own_knows head t r stamp c past u boot here (before refl)
  own_line (word.Life v) here g live before = life_begins head t r stamp c past v here
  own_line (word.WritesBack q change) here g live before = by (same_resource q r) refl
    where
      by : (b : Bool) → same_resource q r ≡ b → AskedOf t r (line (turn stamp (Client c)) (word.WritesBack q change) ∷ past) c
          (life_at c past)
      by true z =
          let s = resource_of q r z in
          subst (λ (y : Resource). AskedOf t r (line (turn stamp (Client c)) (word.WritesBack y change) ∷ past) c (life_at c past)) (sym s)
          (takes_here head t r stamp c past change (subst (λ (y : Resource). Here head t r
          (line (turn stamp (Client c)) (word.WritesBack y change)) past) s here) (before refl))
      by false z = takes_else head t r stamp c past q change here (here.tied.asked.of c (before refl)) z
  own_line e here g live before =
      let a = here.tied.asked.of c (before refl) in
      let s = stays_plain (number_of (life_at c past)) t r past (story t r past) c e tt in
      asked_plain head t r stamp c past e here g refl s refl refl tt tt
      (backs_plain head t r stamp c past e here s refl refl (λ q change z. absurd (cc)) a.backs) a

-- ---- a life that hasn't begun

module _ (head : Head) (t : ℕ) (r : Resource) (l : Line) (past : List Line) (here : Here head t r l past)
    (g : Grows (story t r past) (story t r (l ∷ past))) where
  later_line : (who : Who) → (life_at who.client (l ∷ past)).life < who.life → NotBegun (number_of who) (story t r (l ∷ past))
  later_line who low = not_begun_kept (number_of who) (story t r past) (story t r (l ∷ past)) stays (here.tied.asked.later who before)
    where
      more : (life_at who.client past).life ≤ (life_at who.client (l ∷ past)).life
      more =
          let a = ap (λ (x : Who). x.life) (life_now who.client past) in
          let b = ap (λ (x : Who). x.life) (life_now who.client (l ∷ past)) in
          let m = life_more head l past (here.stood.ok, here.stood.grown) who.client in
          omega (arith, a, b, m)

      before : (life_at who.client past).life < who.life
      before = let m = more in omega (arith, m, low)

      client : (d : ℕ) → (life_at d past).client ≡ d
      client d = ap (λ (v : Who). v.client) (life_is_of d t past)
          ∙ life_client d (only t past) (rise_of head (only t past) (grown_there head l past here.stood t))

      not_of : (node : Node) → NotOf (number_of who) past node
      not_of (Target u) = tt
      not_of (Client d) = apart (nat_eq (number_of who) (life_number d past)) refl
        where
          apart : (b : Bool) → nat_eq (number_of who) (life_number d past) ≡ b → b ≡ false
          apart false z = refl
          apart true z =
              let same = same_life who (life_at d past) (eqb-true _ _ z) in
              let its : who.client ≡ d = ap (λ (v : Who). v.client) same ∙ client d in
              let life : (life_at who.client past).life ≡ who.life = ap (λ (n : ℕ). (life_at n past).life) its
              ∙ ap (λ (v : Who). v.life) (sym same) in
              let lt = before in
              absurd (omega (arith, life, lt))

      stays : StaysFor (number_of who) (story t r past) (story t r (l ∷ past))
      stays = stays_grown (number_of who) (story t r past) (story t r (l ∷ past)) here.world g
          (step_by (number_of who) t r past (story t r past) l.at.node l.entry (not_of l.at.node)
          (λ d m e i. shown_life head l past here.stood d m e i))

  -- ---- the numbers of requests rise

  asked_more : (who : Who) → last_of who (only t past) ≤ last_of who (only t (l ∷ past))
  asked_more who = by (concerns t l.at.node l.entry) refl
    where
      P : List Line
      P = only t past

      up : (node : Node) (e : word.Entry) → EntryOf head (only t past) l.at node e
          → last_of who (only t past) ≤ last_of who (line (record l.at { node = node }) e ∷ only t past)
      up (Client d) (word.Flies u f) ok = own (is_own who (only t past) (Client d)) refl
        where
          own : (b : Bool) → is_own who (only t past) (Client d) ≡ b
              → last_of who (only t past) ≤ (if b then f.xid else last_of who (only t past))
          own true z =
              let same = own_is who (only t past) d z in
              let number : f.xid ≡ last_of who (only t past) + 1 = ap (λ (x : Flight). x.xid) ok.is
              ∙ ap (λ (v : Who). last_of v (only t past) + 1) (sym same) in
              omega (arith, number)
          own false z = omega arith
      up (Target v) (word.Flies u f) ok = omega arith
      up node e ok = omega arith

      by : (b : Bool) → concerns t l.at.node l.entry ≡ b → last_of who (only t past) ≤ last_of who
          (if b then l ∷ only t past else only t past)
      by true z = up l.at.node l.entry (here.stood.ok.of t z)
      by false z = omega arith

  asked_low : (who : Who) → says.asked (number_of who) (story t r (l ∷ past)) ≤ last_of who (only t (l ∷ past))
  asked_low who = by_line M t r past (story t r past) l.at.node l.entry (record {
    same = low;
    other = other;
    flies = λ c f o node e live. flown c f o node e;
    heard = λ c f p o node e live. low;
    hold = λ c lock m s z node e live on. low;
    tells = λ c change k node e live. low;
    txn = λ d o node e. low;
    commit = λ to batch node e. low;
    close = λ o node e. low;
  })
    where
      M : List Entry → Type 0
      M x = says.asked (number_of who) x ≤ last_of who (only t (l ∷ past))

      low : says.asked (number_of who) (story t r past) ≤ last_of who (only t (l ∷ past))
      low = let a = here.tied.asked.asked who in let b = asked_more who in omega (arith, a, b)

      other : (x : Entry) → IsOther x → says.asked (number_of who) (x ∷ story t r past) ≤ last_of who (only t (l ∷ past))
      other (Flies q) n = absurd n
      other _ n = low

      flown : (c : ℕ) (f : Flight) (o : words.Op) → l.at.node ≡ Client c → l.entry ≡ word.Flies t f
          → says.asked (number_of who) (Flies (request_as (number_of (life_at c past)) f.xid o) ∷ story t r past) ≤ last_of who
          (only t (l ∷ past))
      flown c f o node e = by (nat_eq (number_of who) (number_of (life_at c past))) refl
        where
          by : (b : Bool) → nat_eq (number_of who) (number_of (life_at c past)) ≡ b
              → (if b then f.xid else says.asked (number_of who) (story t r past)) ≤ last_of who (only t (l ∷ past))
          by false z = low
          by true z =
              let same = same_life who (life_at c past) (eqb-true _ _ z) in
              let is : last_of who (only t (l ∷ past)) ≡ f.xid = last_is same in
              omega (arith, is)
            where
              last_is : who ≡ life_at c past → last_of who (only t (l ∷ past)) ≡ f.xid
              last_is same = at l.at.node l.entry node e
                where
                  own : is_own who (only t past) (Client c) ≡ true
                  own = subst (λ (v : Who). is_own v (only t past) (Client c) ≡ true) (sym (same ∙ life_is_of c t past))
                      (own_self (only t past) c)

                  at : (n : Node) (x : word.Entry) → n ≡ Client c → x ≡ word.Flies t f
                      → last_of who (only t (line (record l.at { node = n }) x ∷ past)) ≡ f.xid
                  at n x is of =
                      subst (λ (y : Node). last_of who (only t (line (record l.at { node = y }) x ∷ past)) ≡ f.xid) (sym is)
                      (subst (λ (y : word.Entry). last_of who (only t (line (record l.at { node = Client c }) y ∷ past)) ≡ f.xid) (sym of)
                      (ap (λ (b : Bool). last_of who (if b then line (record l.at { node = Client c }) (word.Flies t f) ∷ only t past
                      else only t past)) (self t) ∙ ap (λ (b : Bool). if b then f.xid else last_of who (only t past)) own))

pub asked_line : (head : Head) (t : ℕ) (r : Resource) (l : Line) (past : List Line) → Here head t r l past
    → Grows (story t r past) (story t r (l ∷ past)) → AskedTied head t r (l ∷ past)
asked_line head t r l past here g = record {
  asked = asked_low head t r l past here g;
  later = later_line head t r l past here g;
  of =
      λ c live. by c live (is_client c l.at.node) refl;
}
  where
    by : (c : ℕ) → is_live c (l ∷ past) (story t r (l ∷ past)) ≡ true → (b : Bool) → is_client c l.at.node ≡ b → AskedBy t r (l ∷ past) c
    by c live false z = asked_other head t r l past here g c z (here.tied.asked.of c
        (live_before c l past (story t r past) (story t r (l ∷ past)) (life_other head t r l past here g c z) g live))
    by c live true z = own l.at.node z here g live
      where
        own : (node : Node) → is_client c node ≡ true → Here head t r (line (record l.at { node = node }) l.entry) past
            → Grows (story t r past) (story t r (line (record l.at { node = node }) l.entry ∷ past))
            → is_live c (line (record l.at { node = node }) l.entry ∷ past) (story t r (line (record l.at { node = node }) l.entry ∷ past))
            ≡ true → AskedBy t r (line (record l.at { node = node }) l.entry ∷ past) c
        own (Target u) n = absurd (let q : false ≡ true = n in cc)
        own (Client d) n =
            subst (λ (x : ℕ). Here head t r (line (record l.at { node = Client x }) l.entry) past
            → Grows (story t r past) (story t r (line (record l.at { node = Client x }) l.entry ∷ past))
            → is_live c (line (record l.at { node = Client x }) l.entry ∷ past)
            (story t r (line (record l.at { node = Client x }) l.entry ∷ past)) ≡ true
            → AskedBy t r (line (record l.at { node = Client x }) l.entry ∷ past) c) (eqb-true c d n)
            (λ hr gr lv. own_line head t r l.at.stamp c past l.entry hr gr lv
            (λ same. live_before c (line (record l.at { node = Client c }) l.entry) past (story t r past)
            (story t r (line (record l.at { node = Client c }) l.entry ∷ past)) same gr lv))
