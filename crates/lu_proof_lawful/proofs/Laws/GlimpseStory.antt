-- The size of an object by its story is that of the plain machine over the same past. So it is what a target tells of itself, and what a
-- client
-- knows under a lock to the end that it holds, or tells the target that asks.
use Rattle.std.proofs.Common.{◌≡◌, ℕ, zero, suc, ◌<◌, ◌≤◌, Bool, true, false, List, [], ◌∷◌, Option, Some, None, ◌⊎◌, inl, inr, refl, sym}
use Rattle.std.proofs.Common.{subst, ap, ◌∙◌, arith}
use Rattle.std.specs.Prelude.{nat_lt, ◌==◌, if◌then◌else◌}
use Rattle.std.proofs.lemmas.Bool.{eqb-true, eq-eqb, ltb-true, ltb-false}
use Rattle.lu_base.specs.declared.ids.At.{At}
use Rattle.lu_base.specs.declared.ids.Who.{Who}
use Rattle.lu_base.specs.declared.locks.Extent.{Extent}
use Rattle.lu_base.specs.declared.locks.Lock.{Lock as TableLock}
use Rattle.lu_base.specs.declared.locks.Mode.{Mode}
use Rattle.lu_base.specs.declared.locks.Mode.TheVariants.{PW}
use Rattle.lu_base.specs.declared.locks.Policy.TheVariants.{Range}
use Rattle.lu_base.specs.declared.locks.Resource.{Resource}
use Rattle.lu_lock.specs.Growth.{the_end}
use Rattle.lu_held.specs.declared.locks.HeldLock.{HeldLock}
use Rattle.lu_spec_machine.specs.Machine.{object_of}
use Rattle.lu_spec_machine.specs.Objects.{Object, object_size}
use Rattle.lu_spec_machine.specs.Places.{found_at}
use Rattle.lu_spec_entries.specs.Carried.{Deed}
use Rattle.lu_spec_entries.specs.Words as word
use Rattle.lu_spec_entries.specs.Words.{Line}
use Rattle.lu_spec_entries.specs.Concerns.{only}
use Rattle.lu_spec_entries.specs.Printed.{printed}
use Rattle.lu_spec_target.specs.Queues.{extent_in, extent_of}
use Rattle.lu_spec_target.specs.Replies.{locks_on}
use Rattle.lu_spec_target.specs.Stored.{object_in}
use Rattle.lu_spec_client.specs.Caches.{held_at}
use Rattle.lu_spec_client.specs.Looks.{size_under}
use Rattle.lu_spec_client.specs.States.{store_at}
use Rattle.lu_proof_lawful.specs.Covered.Calls.{life_at}
use Rattle.lu_proof_lawful.specs.Covered.Deeds.{size_at}
use Rattle.lu_proof_lawful.specs.Covered.Heads.{Head, IsHead}
use Rattle.lu_proof_lawful.specs.Covered.TargetStates.{server_of}
use Rattle.lu_spec_laws.specs.Words.Lives.{is_gone}
use Rattle.lu_spec_laws.specs.Words.Lost.{is_lost}
use Rattle.lu_spec_laws.specs.Words.Glimpses.{machine_cut}
use Rattle.lu_proof_lawful.proofs.Preconditions.Guards.{In, NotChanging, HasRange, Ending}
use Rattle.lu_proof_lawful.proofs.Preconditions.Acts.{kind_ranges}
use Rattle.lu_proof_lawful.proofs.Preconditions.LockKinds.{granted_kind}
use Rattle.lu_proof_lawful.proofs.Preconditions.ObjectGuards.{SizedOk}
use Rattle.lu_proof_lawful.proofs.Preconditions.Grown.{Grown}
use Rattle.lu_proof_lawful.proofs.Preconditions.Heeds.{AllHeed}
use Rattle.lu_proof_lawful.proofs.Preconditions.HeedMarks.{owed_of}
use Rattle.lu_proof_lawful.proofs.Preconditions.Held.{held_into}
use Rattle.lu_proof_lawful.proofs.Preconditions.Parts.{life_is_of}
use Rattle.lu_proof_lawful.proofs.Preconditions.PinsFit.{PinsFit}
use Rattle.lu_proof_lawful.proofs.Preconditions.QueueLists.{on_resource as in_resource}
use Rattle.lu_proof_lawful.proofs.Preconditions.Speaks.{AllSpeak}
use Rattle.lu_proof_lawful.proofs.Invariants.TargetGroups.{Gave, Evicted, Locks}
use Rattle.lu_proof_lawful.proofs.Invariants.All.{holds}
use Rattle.lu_proof_lawful.proofs.Invariants.LockLists.{on_resource}
use Rattle.lu_proof_bytes.specs.Object.Words.{Lock, Entry}
use Rattle.lu_proof_bytes.specs.Object.Folds.{is_some, nothing_lost, evicted, HeldBy}
use Rattle.lu_proof_bytes.specs.Object.Guards.{IsEnd, EndAt, AllAllowed}
use Rattle.lu_proof_bytes.specs.Object.History.{plain, history, size_of}
use Rattle.lu_proof_bytes.proofs.Object.Facts.{Outs}
use Rattle.lu_proof_bytes.proofs.Object.Glimpse.{now, glimpse_above, glimpse_peek}
use Rattle.lu_proof_bytes.proofs.Object.Views.{size_is}
use Rattle.lu_proof_bytes.proofs.Object.World.{world, kept_none}
use Rattle.lu_proof_objects.proofs.Objects.{object_ends}
use Rattle.lu_proof_objects.specs.Points.{is_write, last_of}
use Rattle.lu_proof_lawful.specs.Projection.Lives.{number_of, is_live, is_over}
use Rattle.lu_proof_lawful.specs.Projection.Locks.{lock_of}
use Rattle.lu_proof_lawful.specs.Projection.Stories.{story}
use Rattle.lu_proof_lawful.proofs.Refinement.Place.{place}
use Rattle.lu_proof_lawful.proofs.Refinement.Tied.{Tied}
use Rattle.lu_proof_lawful.proofs.Refinement.TiedAsked.{IsOwed}
use Rattle.lu_proof_lawful.proofs.Refinement.TiedStore.{life_number}
use Rattle.lu_proof_lawful.proofs.Refinement.TiedTarget.{GrantedOn, StandsThere}
use Rattle.lu_proof_lawful.proofs.Refinement.AllowedBase.{Ranged, ranged}
use Rattle.lu_proof_lawful.proofs.Refinement.Placed.{held_place}
use Rattle.lu_proof_lawful.proofs.Refinement.OverLives.{over_ending, live_is}
use Rattle.lu_proof_lawful.proofs.Refinement.Stories.{all_tied}
use Rattle.lu_proof_lawful.proofs.Refinement.StoreEnds.{end_at}
use Rattle.lu_proof_lawful.proofs.Refinement.Uses.{held_high}
use Rattle.lu_proof_bytes.proofs.Files.Stripes.{Stripe, whole_end}
use Rattle.lu_proof_lawful.proofs.Laws.Agrees.{OutAs, OfRun, agrees}
use Rattle.lu_proof_lawful.proofs.Laws.FitsNow.{AllShown, all_fit}
use Rattle.lu_proof_lawful.proofs.Laws.GlimpseCuts.{SizeNow}
use Rattle.lu_proof_lawful.proofs.Laws.GlimpseLocks.{ends_below}
use Rattle.lu_proof_lawful.proofs.Laws.GlimpseLost.{lost_so_far}
use Rattle.lu_proof_lawful.proofs.Laws.Holding.{gave_one}
use Rattle.lu_proof_lawful.proofs.Laws.Lasting.{gone_out, stays_in}
use Rattle.lu_proof_lawful.proofs.Laws.LifeNumbers.{who_of, number_back, who_back}
use Rattle.lu_proof_lawful.proofs.Laws.Notices.{notice_evicted}
use Rattle.lu_proof_lawful.proofs.Laws.Once.{all_asked}
use Rattle.lu_proof_lawful.proofs.Laws.Printed.{evicted_gone}

-- ---- one end

-- of two numbers at or above which nothing stands, and right below which something does, both are one
end_below : (m : ℕ → Option ℕ) (y z : ℕ) → ((p : ℕ) → y ≤ p → m p ≡ None) → ((p : ℕ) → suc p ≡ z → is_some (m p) ≡ true) → z ≤ y
end_below m y zero none some = omega arith
end_below m y (suc k) none some = by (nat_lt k y) refl
  where
    by : (b : Bool) → nat_lt k y ≡ b → suc k ≤ y
    by true e = let lt = ltb-true k y e in omega (arith, lt)
    by false e = absurd (let q : false ≡ true = ap is_some (sym (none k (ltb-false k y e))) ∙ some k refl in cc)

end_is : (m : ℕ → Option ℕ) (y z : ℕ) → ((p : ℕ) → y ≤ p → m p ≡ None) → ((p : ℕ) → suc p ≡ y → is_some (m p) ≡ true)
    → ((p : ℕ) → z ≤ p → m p ≡ None) → ((p : ℕ) → suc p ≡ z → is_some (m p) ≡ true) → y ≡ z
end_is m y z none some over under =
    let a = end_below m y z none under in
    let b = end_below m z y over some in
    omega (arith, a, b)

-- ---- what stands at a past in which nothing is under way

pub record Ready (head : Head) (past : List Line) : Type 0 where
  pub ranges : IsHead head
  pub grown : Grown head past
  pub pins : PinsFit past
  pub heeds : AllHeed past
  pub speaks : AllSpeak past
  pub shown : AllShown head past
  pub still : NotChanging past

module _ (head : Head) (past : List Line) (y : Ready head past) where
  abbrev out : Who → Bool
  out who = is_gone (printed past) who

  abbrev outs : ℕ → Bool
  outs n = is_gone (printed past) (who_of n)

  out_as : OutAs (is_gone (printed past)) outs
  out_as who = ap (is_gone (printed past)) (who_back who)

  -- whom a target evicted is out
  evicted_out : (t : ℕ) (who : Who) → Evicted (only t past) who → is_gone (printed past) who ≡ true
  evicted_out t who e = by (is_gone (printed past) who) refl
    where
      by : (b : Bool) → is_gone (printed past) who ≡ b → is_gone (printed past) who ≡ true
      by true q = q
      by false q = absurd (stays_in (is_gone (printed past)) t who q head past y.grown (gone_out head past y.grown) (y.shown t) e)

  module _ (t : ℕ) (r : Resource) (some : 0 < t) (lies : t ≡ place head.osts r) where
    abbrev h : List Entry
    h = story t r past

    both : AllAllowed (story t r past) × Tied head t r past
    both = all_tied head y.ranges past y.grown y.pins y.heeds y.speaks t r some lies

    all : AllAllowed (story t r past)
    all = both.0

    tied : Tied head t r past
    tied = both.1

    all_out : Outs outs h
    all_out n e =
        evicted_out t (who_of n)
        (sym (tied.target.evicted (who_of n)) ∙ ap (λ (m : ℕ). evicted m (story t r past)) (number_back n) ∙ e)

    -- the size by the story is that of the machine
    story_size : (n : ℕ) → n ≡ size_of (now outs h) → SizeNow head.osts past r.fid r.stripe n
    story_size n is = eq-eqb (object_size object) n (end_is (found_at object) (object_size object) (size_of (now outs h))
        (λ p. (object_ends object p).past) (λ p. (object_ends object p).last) (λ p le. sym (bytes p) ∙ (size_is (now outs h)).0 p le)
        (λ p e. ap is_some (sym (bytes p)) ∙ (size_is (now outs h)).1 p e) ∙ sym is)
      where
        object : Object
        object = object_of (machine_cut head.osts (printed past)) r.fid r.stripe

        run : OfRun head past
        run = record {
          ranges = y.ranges;
          grown = y.grown;
          pins = y.pins;
          heeds = y.heeds;
          speaks = y.speaks;
          asked =
              all_asked head past y.grown;
        }

        bytes : (p : ℕ) → plain (now outs h) p ≡ found_at object p
        bytes p =
            ap (λ is. plain is p) (sym (lost_so_far head past y.grown outs t r))
            ∙ ap (λ (u : ℕ). plain (history outs (is_lost (printed past) u) (story u r past)) p) lies
            ∙ agrees head (is_gone (printed past)) (is_lost (printed past)) outs out_as past run (all_fit head past y.grown y.shown) y.still
            r p

  -- ---- what the target tells itself

  pub sized_now : (t : ℕ) (at : At) (d : Deed) → 0 < t → (ok : SizedOk head.osts (only t past) at d) → t ≡ place head.osts ok.resource
      → SizeNow head.osts past ok.resource.fid ok.resource.stripe (size_at (server_of head.osts (only t past)) ok.resource)
  sized_now t at d some ok lies =
      let r = ok.resource in
      let all = all t r some lies in
      let of = tied t r some lies in
      story_size t r some lies size (glimpse_above outs (story t r past) size all (all_out t r some lies) ends
      (λ l g w. short of l (of.target.granted l g) w))
    where
      P : List Line
      P = only t past

      size : ℕ
      size = size_at (server_of head.osts P) ok.resource

      object : Object
      object = object_in (server_of head.osts P).objects ok.resource

      ends : IsEnd (story t ok.resource past) size
      ends =
          let now = (tied t ok.resource some lies).object.now in
          (λ p le. sym (now p) ∙ (object_ends object p).past le, λ p e. ap is_some (sym (now p)) ∙ (object_ends object p).last e)

      mine : Locks head.osts head.clients P
      mine = ((holds head past y.grown).at t).locks

      gave : (k : TableLock) → In k (server_of head.osts P).granted → (e : Deed) × Gave P e k
      gave k i = mine.granted k i

      on_range : (k : TableLock) → In k (server_of head.osts P).granted → Ranged k
      on_range k i = ranged k (kind_ranges t k some (granted_kind head t past y.grown k i)) (mine.kinds (gave k i).0 k (gave k i).1)

      below : (k : TableLock) → In k (server_of head.osts P).granted → k.resource ≡ ok.resource → k.ask.mode ≡ PW
          → ((extent_of k).last < size) × ((extent_of k).last < the_end)
      below k i on w =
          let locks = locks_on ok.resource (server_of head.osts P).granted in
          let there = λ (x : TableLock) (j : In x locks). in_resource ok.resource x (server_of head.osts P).granted j in
          ends_below locks size ok.past_locks (λ x j. on_range x (there x j).0)
          (λ a b i j apart. mine.apart a b (there a i).0 (there b j).0 ((there a i).1 ∙ sym (there b j).1) apart)
          (λ a b i j same. gave_one head t past y.grown (gave a (there a i).0).0 (gave b (there b j).0).0 a b (gave a (there a i).0).1
          (gave b (there b j).0).1 same)
          k (on_resource ok.resource (server_of head.osts P).granted k i on) w

      writes : (m : Mode) → is_write m ≡ true → m ≡ PW
      writes PW e = refl
      writes m e = absurd (cc)

      last : (n : ℕ) → n < the_end → last_of n ≡ Some n
      last n lt = by (n == the_end) refl
        where
          by : (b : Bool) → (n == the_end) ≡ b → (if b then None else Some n) ≡ Some n
          by true e = absurd (let q = eqb-true n the_end e in omega (arith, lt, q))
          by false e = refl

      short : Tied head t ok.resource past → (l : Lock) → GrantedOn head ok.resource P l → l.write ≡ true → (e : ℕ) × (l.last ≡ Some e)
          × (e < size)
      short of l (e, k, given, on, is, stands) w =
          let i : In k (server_of head.osts P).granted = granted stands in
          let b = below k i on (writes k.ask.mode (ap (λ (x : Lock). x.write) is ∙ w)) in
          ((extent_of k).last, ap (λ (x : Lock). x.last) (sym is) ∙ last (extent_of k).last b.1, b.0)
        where
          granted : StandsThere head P k → In k (server_of head.osts P).granted
          granted (inl i) = i
          granted (inr q) = subst (λ (ls : List TableLock). In k ls) ok.shown (q.1 ok.serves)

  -- ---- what a client knows

  -- whose life isn't gone isn't over
  lasts : (c : ℕ) → is_gone (printed past) (life_at c past) ≡ false → is_over c (life_at c past) past ≡ false
  lasts c stays = by (is_over c (life_at c past) past) refl
    where
      ended : (p : List Line) → Grown head p → Ending p c → is_gone (printed p) (life_at c p) ≡ true
      ended [] g k = absurd k
      ended (l ∷ p) g k =
          let notice = k.1 in
          evicted_gone notice.target (l ∷ p) (life_at c (l ∷ p))
          (notice_evicted head (l ∷ p) l.at notice.target c (life_at c (l ∷ p)) notice.boot g k.0 (omega arith) notice.took)

      by : (b : Bool) → is_over c (life_at c past) past ≡ b → b ≡ false
      by true e = absurd (let q : true ≡ false = sym (ended past y.grown (over_ending head past y.grown c e)) ∙ stays in cc)
      by false e = refl

  module _ (c : ℕ) (k : HeldLock) (x : Extent) (owed : owed_of c past ≡ []) (stays : is_gone (printed past) (life_at c past) ≡ false)
      (i : In k (held_at c past)) (range : k.lock.ask.policy ≡ Range x) (end : x.last ≡ the_end) where
    has : HasRange k.lock.ask.policy
    has = subst HasRange (sym range) tt

    some : 0 < k.target.0
    some = held_high head past y.grown c k i has

    lies : k.target.0 ≡ place head.osts k.lock.resource
    lies = held_place head past y.grown y.pins c k k.lock.resource i refl has

    abbrev there : List Entry
    there = story k.target.0 k.lock.resource past

    of : Tied head k.target.0 k.lock.resource past
    of = tied k.target.0 k.lock.resource some lies

    stays_in_story : evicted (number_of (life_at c past)) there ≡ false
    stays_in_story = by (evicted (number_of (life_at c past)) there) refl
      where
        by : (b : Bool) → evicted (number_of (life_at c past)) there ≡ b → b ≡ false
        by true e = absurd (let q : true ≡ false = sym (evicted_out k.target.0 (life_at c past)
            (sym (of.target.evicted (life_at c past)) ∙ e)) ∙ stays in cc)
        by false e = refl

    live : is_live c past there ≡ true
    live = live_is c past there stays_in_story (lasts c stays)

    own : number_of k.lock.ask.who ≡ life_number c past
    own =
        let t = k.target.0 in
        let holding = ((holds head past y.grown).at t).locks.held c k (held_into c t past k refl i) in
        ap number_of (((holds head past y.grown).at t).locks.whose holding.deed k.lock holding.gave ∙ holding.who
        ∙ sym (life_is_of c t past))

    held_so : HeldBy there (lock_of k.lock)
    held_so = by ((of.asked.of c live).locks.holds k (held_into c k.target.0 past k refl i) refl)
      where
        by : HeldBy there (lock_of k.lock) ⊎ IsOwed k.target.0 k.lock (owed_of c past) → HeldBy there (lock_of k.lock)
        by (inl q) = q
        by (inr (size, seen, more, q)) = absurd (let none : [] ≡ word.Hold k.target.0 k.lock false size seen ∷ more = sym owed ∙ q in cc)

    extent : extent_of k.lock ≡ x
    extent = ap extent_in range

    whole : (lock_of k.lock).last ≡ None
    whole = ap (λ (v : Extent). last_of v.last) extent ∙ ap last_of end

    knows : (at : ℕ) → x.first ≤ at → EndAt there (life_number c past) at (size_under k.lock (store_at c past))
    knows at low =
        end_at k.target.0 k.lock.resource past there c owed (of.store.of c live) k.lock refl held_so own whole at
        (subst (λ (v : Extent). v.first ≤ at) (sym extent) low)

    in_history : outs (life_number c past) ≡ false
    in_history = out_as (life_at c past) ∙ stays

    stripe : Stripe outs nothing_lost there
    stripe =
        let w = world there (all k.target.0 k.lock.resource some lies) in
        let gone = all_out k.target.0 k.lock.resource some lies in
        record {
          all = w;
          later = w.later outs nothing_lost gone (kept_none there (all k.target.0 k.lock.resource some lies) outs gone);
          outs = gone;
        }

    pub end_now : x.first ≡ 0 → SizeNow head.osts past k.lock.resource.fid k.lock.resource.stripe (size_under k.lock (store_at c past))
    end_now low =
        let size = size_under k.lock (store_at c past) in
        story_size k.target.0 k.lock.resource some lies size (whole_end outs nothing_lost there stripe (life_number c past) size in_history
        (knows 0 (omega (arith, low))))

    pub peek_now : x.first < size_under k.lock (store_at c past)
        → SizeNow head.osts past k.lock.resource.fid k.lock.resource.stripe (size_under k.lock (store_at c past))
    peek_now above =
        let size = size_under k.lock (store_at c past) in
        let e = knows x.first (omega arith) in
        let low = e.first in
        story_size k.target.0 k.lock.resource some lies size (glimpse_peek outs there (life_number c past) x.first size
        (all k.target.0 k.lock.resource some lies) (all_out k.target.0 k.lock.resource some lies) in_history e
        (omega (arith, low, above)))
