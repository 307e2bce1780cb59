-- A live client gives up a lock as the theory allows: nothing of its patch lies under it, and no request in flight and no write-back under
-- way
-- names it.
use Rattle.std.proofs.Common.{◌≡◌, ℕ, suc, ◌≤◌, ◌<◌, Bool, true, false, List, [], ◌∷◌, Option, Some, None, ◌⊎◌, inl, inr, ⊎_elim, refl, sym}
use Rattle.std.proofs.Common.{subst, ap, ◌∙◌, arith}
use Rattle.std.specs.Prelude.{length, is_some as has, nat_eq, nat_lt, ◌||◌, if◌then◌else◌}
use Rattle.std.proofs.lemmas.Bool.{both_ways, eqb-true}
use Rattle.std.proofs.lemmas.Bool.Decides.{nat_tests}
use Rattle.lu_base.specs.declared.ids.Cookie.{Cookie}
use Rattle.lu_base.specs.declared.ids.Node.TheVariants.{Client}
use Rattle.lu_base.specs.declared.ids.Stamp.{Stamp}
use Rattle.lu_base.specs.declared.ids.Who.{Who}
use Rattle.lu_base.specs.declared.locks.Extent.{Extent}
use Rattle.lu_base.specs.declared.locks.Lock.{Lock as TableLock}
use Rattle.lu_base.specs.declared.locks.Mode.{Mode}
use Rattle.lu_base.specs.declared.locks.Mode.TheVariants.{PR, PW}
use Rattle.lu_base.specs.declared.locks.Policy.{Policy}
use Rattle.lu_base.specs.declared.locks.Policy.TheVariants.{Bits, Range}
use Rattle.lu_base.specs.declared.locks.Resource.{Resource}
use Rattle.lu_held.specs.Locks.{named, same_resource}
use Rattle.lu_lock.specs.Growth.{the_end}
use Rattle.lu_msg.specs.declared.operations.Op.{Op}
use Rattle.lu_msg.specs.declared.operations.Op.TheVariants as op
use Rattle.lu_spec_machine.specs.Places.{found_at, inside}
use Rattle.lu_spec_machine.proofs.Places.{found_inside, in_whole}
use Rattle.lu_spec_entries.specs.declared.changes.Dirty.{Dirty}
use Rattle.lu_spec_entries.specs.declared.uses.Using.{Using}
use Rattle.lu_spec_entries.specs.Carried.{Deed, Flight, Stage, Running}
use Rattle.lu_spec_entries.specs.Words as word
use Rattle.lu_spec_entries.specs.Words.{Line, line}
use Rattle.lu_spec_entries.specs.Concerns.{only}
use Rattle.lu_spec_client.specs.Caches.{patch_at, patches_at}
use Rattle.lu_spec_client.specs.Calls.{life_at}
use Rattle.lu_spec_client.specs.Patches.{Patch, Flying, CutFlies, BytesFly, cut_within, has_change}
use Rattle.lu_spec_client.specs.Bytes.{first_run}
use Rattle.lu_spec_client.specs.Advances.{name_under}
use Rattle.lu_spec_client.specs.Sending.{object_of}
use Rattle.lu_spec_client.specs.States.{Store, store_at, store_turn}
use Rattle.lu_spec_target.specs.Queues.{extent_in, extent_of}
use Rattle.lu_proof_lawful.specs.Covered.Calls.{call_at}
use Rattle.lu_proof_lawful.specs.Covered.ClientStates.{flights_of}
use Rattle.lu_proof_lawful.specs.Covered.Heads.{Head}
use Rattle.lu_proof_lawful.proofs.Preconditions.Acts.{kind_ranges}
use Rattle.lu_proof_lawful.proofs.Preconditions.AskedCalls.{gets_of}
use Rattle.lu_proof_lawful.proofs.Preconditions.Asks.{IsBack, AsksFor, CallOf, GetsUnder}
use Rattle.lu_proof_lawful.proofs.Preconditions.Calls.{mine_all}
use Rattle.lu_proof_lawful.proofs.Preconditions.CallGuards.{used_in}
use Rattle.lu_proof_lawful.proofs.Preconditions.ClientLines.{some_is}
use Rattle.lu_proof_lawful.proofs.Preconditions.Guards.{MarkedOk, HasRange}
use Rattle.lu_proof_lawful.proofs.Preconditions.LockKinds.{held_kind}
use Rattle.lu_proof_lawful.proofs.Preconditions.Parts.{flights_is}
use Rattle.lu_proof_lawful.proofs.Preconditions.PinsFit.{drop_unpinned}
use Rattle.lu_proof_lawful.proofs.Preconditions.QueueLists.{resource_of, resource_itself}
use Rattle.lu_proof_lawful.proofs.Preconditions.Heard.{In}
use Rattle.lu_proof_lawful.proofs.Preconditions.Heeds.{none_owed}
use Rattle.lu_proof_lawful.proofs.Preconditions.Lists.{self, turn}
use Rattle.lu_proof_lawful.proofs.Preconditions.StoryGuards.{DropOk}
use Rattle.lu_proof_lawful.proofs.Invariants.TargetGroups.{IsKind, Gave}
use Rattle.lu_proof_bytes.specs.Object.Words as words
use Rattle.lu_proof_bytes.specs.Object.Words.{Lock, Change, Write, Cut, Request, Entry, Drop, covers, changes, within}
use Rattle.lu_proof_bytes.specs.Object.Folds.{HeldBy, WriteBack, masked}
use Rattle.lu_proof_bytes.specs.Object.Folds as says
use Rattle.lu_proof_bytes.specs.Object.Guards as theory
use Rattle.lu_proof_bytes.specs.Object.Guards.{in_use, taken_under, Allowed}
use Rattle.lu_proof_bytes.proofs.Object.Patches.{Running as Runs}
use Rattle.lu_proof_bytes.proofs.Object.Rows.{dirty_lock, clean_lock}
use Rattle.lu_proof_objects.specs.Points.{byte_of, dirty_at, is_write, lock_at}
use Rattle.lu_proof_lawful.specs.Projection.Lives.{number_of, is_over, is_live}
use Rattle.lu_proof_lawful.specs.Projection.Locks.{lock_of, given}
use Rattle.lu_proof_lawful.specs.Projection.Requests.{op_of, op_on, get_under}
use Rattle.lu_proof_lawful.specs.Projection.Messages.{request_as}
use Rattle.lu_proof_lawful.specs.Projection.Stories.{story}
use Rattle.lu_proof_lawful.proofs.Refinement.PatchesLow.{dirty_low}
use Rattle.lu_proof_lawful.proofs.Refinement.OverLives.{live_lasts, noticed_over}
use Rattle.lu_proof_lawful.proofs.Refinement.Tied.{Here}
use Rattle.lu_proof_lawful.proofs.Refinement.TiedStore.{store_owed}
use Rattle.lu_proof_lawful.proofs.Refinement.TiedAsked.{IsOn, FlownAs, TakenAs, AskedBy}
use Rattle.lu_proof_lawful.proofs.Refinement.AskedHolds.{same_cookie}
use Rattle.lu_proof_lawful.proofs.Refinement.AskedOther.{own_life}
use Rattle.lu_proof_lawful.proofs.Refinement.OverLives.{live_parts}
use Rattle.lu_proof_lawful.proofs.Refinement.MayBase.{tie, held_there}
use Rattle.lu_proof_lawful.proofs.Refinement.MayTake.{covers_out, cut_held}

-- ---- lists

run_some : {A : Type 0} (m : List (ℕ × A)) (p : ℕ) (x : A) → found_at m p ≡ Some x → has (first_run m) ≡ true
run_some [] p x e = absurd (cc)
run_some (y ∷ m) p x e = refl

-- one of these is on the object, or none is
on_or : (r : Resource) (o : Op) → IsOn r o ⊎ (IsOn r o → ⊥)
on_or r o = by (object_of o)
  where
    by : (x : Option Resource) → (x ≡ Some r) ⊎ (x ≡ Some r → ⊥)
    by None = inr (λ e. absurd (cc))
    by (Some q) = same (same_resource q r) refl
      where
        same : (b : Bool) → same_resource q r ≡ b → (Some q ≡ Some r) ⊎ (Some q ≡ Some r → ⊥)
        same true e = inl (ap Some (resource_of q r e))
        same false e = inr (λ z. let s : q ≡ r = cc in both_ways (same_resource q r) e
            (ap (λ (y : Resource). same_resource y r) s ∙ resource_itself r))

flies_or : (r : Resource) (fs : List Flight) → ((f : Flight) × In f fs × IsOn r f.op) ⊎ ((f : Flight) → In f fs → IsOn r f.op → ⊥)
flies_or r [] = inr (λ f i on. absurd i)
flies_or r (g ∷ fs) = ⊎_elim
    (λ on. inl (g, inl refl, on))
    (λ off. ⊎_elim (λ z. inl (z.0, inr z.1, z.2)) (λ none. inr (λ f i on. ⊎_elim
    (λ (e : g ≡ f). off (subst (λ (y : Flight). IsOn r y.op) (sym e) on)) (λ (j : In f fs). none f j on) i)) (flies_or r fs))
    (on_or r g.op)

read_write : (mode : Mode) → (mode ≡ PR) ⊎ (mode ≡ PW) → is_write mode ≡ true → mode ≡ PW
read_write mode (inl e) w = absurd (let q : false ≡ true = sym (ap is_write e) ∙ w in cc)
read_write mode (inr e) w = e

range_is : (p : Policy) → HasRange p → (x : Extent) × (p ≡ Range x)
range_is (Range x) h = (x, refl)
range_is (Bits b) h = absurd h

other_op : (r q : Resource) (x y : words.Op) → op_on r q x ≡ Some y → (x ≡ y → ⊥) → ⊥
other_op r q x y e n = by (same_resource q r) e
  where
    by : (b : Bool) → ◌≡◌ {A = Option words.Op} (if b then Some x else None) (Some y) → ⊥
    by true z = n (cc)
    by false z = absurd (cc)

get_of : (r : Resource) (h : List Entry) (o : Op) (j at n : ℕ) → op_of r h o ≡ Some (words.Get j at n) → (q : Resource) × (cookie : Cookie)
    × (page : ℕ) × (o ≡ op.Get q cookie page) × (cookie.0 ≡ j)
get_of r h (op.Get q cookie page) j at n e = (q, cookie, page, refl, cookie_is (given cookie.0 h) (some_op e))
  where
    some_op : op_on r q (get_under cookie.0 page (given cookie.0 h)) ≡ Some (words.Get j at n) → get_under cookie.0 page (given cookie.0 h)
        ≡ words.Get j at n
    some_op z = by (same_resource q r) z
      where
        by : (b : Bool) → ◌≡◌ {A = Option words.Op} (if b then Some (get_under cookie.0 page (given cookie.0 h)) else None)
            (Some (words.Get j at n)) → get_under cookie.0 page (given cookie.0 h) ≡ words.Get j at n
        by true y = cc
        by false y = absurd (cc)

    cookie_is : (g : Option Lock) → get_under cookie.0 page g ≡ words.Get j at n → cookie.0 ≡ j
    cookie_is None z = cc
    cookie_is (Some m) z = cc
get_of r h (op.Enqueue q mode extent) j at n e = absurd (other_op r q _ (words.Get j at n) e (λ z. absurd (cc)))
get_of r h (op.Put q cookie p bytes) j at n e = absurd (other_op r q _ (words.Get j at n) e (λ z. absurd (cc)))
get_of r h (op.Cut q cookie m) j at n e = absurd (other_op r q _ (words.Get j at n) e (λ z. absurd (cc)))
get_of r h (op.Size q) j at n e = absurd (other_op r q _ (words.Get j at n) e (λ z. absurd (cc)))
get_of r h o j at n e = absurd (cc)

module _ (head : Head) (t : ℕ) (r : Resource) (stamp : Stamp) (c : ℕ) (past : List Line) (lock : TableLock)
    (here : Here head t r (line (turn stamp (Client c)) (word.Drop t lock)) past) (live : is_live c past (story t r past) ≡ true)
    (on : lock.resource ≡ r) where
  abbrev e : word.Entry
  e = word.Drop t lock

  abbrev l : Line
  l = line (turn stamp (Client c)) e

  abbrev P : List Line
  P = only t past

  abbrev h : List Entry
  h = story t r past

  abbrev who : Who
  who = life_at c past

  abbrev w : ℕ
  w = number_of (life_at c past)

  a : AskedBy t r past c
  a = tie head t r l past here c live

  ok : DropOk P c t lock
  ok = here.stood.ok.of t (self t)

  stays : says.evicted w h ≡ false
  stays = (live_parts c past h live).0

  -- its life isn't over: it was marked
  marked : MarkedOk past c t lock
  marked = ⊎_elim {C = MarkedOk past c t lock} (λ m. m) (λ n. absurd
      (both_ways (is_over c (life_at c past) past) (live_parts c past h live).1
      (noticed_over past (turn stamp (Client c)) c (life_at c past) refl n))) here.stood.ok.ok

  life : number_of lock.ask.who ≡ w
  life = ap (λ (m : TableLock). number_of m.ask.who) (sym ok.is) ∙ own_life head t l past here.stood c ok.holding ok.held

  gave : (d : Deed) × Gave P d lock
  gave = let holding = (here.stood.before.at t).locks.held c ok.holding ok.held
      in (holding.deed, subst (λ (m : TableLock). Gave P holding.deed m) ok.is holding.gave)

  -- ---- its range

  abbrev Ranged : Type 0
  Ranged = (x : Extent) × (lock.ask.policy ≡ Range x)

  ranged : Ranged
  ranged = range_is lock.ask.policy (subst (λ (m : TableLock). HasRange m.ask.policy) ok.is
      (kind_ranges t ok.holding.lock here.some (held_kind head t past here.stood.grown c ok.holding ok.held)))

  abbrev x : Extent
  x = ranged.0

  shape : IsKind lock.ask.mode (Range ranged.0)
  shape = subst (IsKind lock.ask.mode) ranged.1 ((here.stood.before.at t).locks.kinds gave.0 lock gave.1)

  abbrev L : Lock
  L = lock_at lock.cookie.0 w lock.ask.mode ranged.0

  is_lock : lock_of lock ≡ lock_at lock.cookie.0 w lock.ask.mode ranged.0
  is_lock = ap (λ (n : ℕ). lock_at lock.cookie.0 n lock.ask.mode (extent_of lock)) life
      ∙ ap (λ (p : Policy). lock_at lock.cookie.0 w lock.ask.mode (extent_in p)) ranged.1

  held : HeldBy h (lock_at lock.cookie.0 w lock.ask.mode ranged.0)
  held = subst (HeldBy h) is_lock (subst (λ (m : TableLock). HeldBy h (lock_of m)) ok.is
      (held_there head t r stamp c past e here live tt ok.holding ok.held (ap (λ (m : TableLock). m.resource) ok.is ∙ on)))

  -- ---- the patch

  patch : Patch
  patch = patch_at r (patches_at c past)

  store_was : store_owed c past ≡ store_at c past
  store_was = ap (λ (es : List word.Entry). store_turn (store_at c past) es) (none_owed c past l (here.stood.heeds.0 c) (λ z. z))

  pending_is : (patch_at r (patches_at c past)).pending ≡ says.pending w h
  pending_is = subst (λ (s : Store). (patch_at r s.patches).pending ≡ says.pending w h) store_was
      ((here.tied.store.of c live).patch).pending

  dirty_is : (p : ℕ) → dirty_at (patch_at r (patches_at c past)) p ≡ says.dirty w h p
  dirty_is p = subst (λ (s : Store). dirty_at (patch_at r s.patches) p ≡ says.dirty w h p) store_was
      (((here.tied.store.of c live).patch).dirty p)

  -- where it is for writing nothing under it is changed
  clean : is_write lock.ask.mode ≡ true → has_change ranged.0 (patch_at r (patches_at c past)) ≡ false
  clean writes = subst (λ (q : Resource). has_change ranged.0 (patch_at q (patches_at c past)) ≡ false) on
      (marked.clean (read_write lock.ask.mode shape.2 writes) ranged.0 ranged.1)

  no_cut : (q p : ℕ) → says.pending w h ≡ Some q → covers (lock_at lock.cookie.0 w lock.ask.mode ranged.0) p ≡ true → changes (Cut q) p
      ≡ true → ⊥
  no_cut q p z over cut =
      let whole = cut_held h lock.cookie.0 w q p lock.ask.mode ranged.0 here.world stays held z cut over in
      let none = clean whole.0 in
      let there : cut_within ranged.0 (patch_at r (patches_at c past)).pending ≡ Some q = ap (cut_within ranged.0) (pending_is ∙ z)
      ∙ ap (λ (b : Bool). if b then Some q else None) whole.1 in
      both_ways (has_change ranged.0 (patch_at r (patches_at c past))) none
      (ap (λ (y : Option ℕ). has y || has (first_run (inside ranged.0 (patch_at r (patches_at c past)).dirty))) there)

  no_dirty : (p b : ℕ) → says.dirty w h p ≡ Some b → covers (lock_at lock.cookie.0 w lock.ask.mode ranged.0) p ≡ true → ⊥
  no_dirty p b z over =
      let writes = dirty_lock h (lock_at lock.cookie.0 w lock.ask.mode ranged.0) p b here.world.numbers here.world.locks here.world.patches
      stays held z over in
      let low = dirty_low head past here.stood.grown c r p b (dirty_is p ∙ z) in
      let in_it = covers_out lock.cookie.0 w lock.ask.mode ranged.0 p over in
      let last : p ≤ ranged.0.last = ⊎_elim {C = p ≤ ranged.0.last} (λ (y : ranged.0.last ≡ the_end). omega (arith, y, low)) (λ y. y)
      in_it.1 in
      let there = found (found_at (patch_at r (patches_at c past)).dirty p) refl (dirty_is p ∙ z) in
      let under : found_at (inside ranged.0 (patch_at r (patches_at c past)).dirty) p ≡ Some there.0 =
      found_inside ranged.0 (patch_at r (patches_at c past)).dirty p
      ∙ ap (λ (v : Bool). if v then found_at (patch_at r (patches_at c past)).dirty p else None) (in_whole ranged.0 p in_it.0 last)
      ∙ there.1 in
      let run = run_some (inside ranged.0 (patch_at r (patches_at c past)).dirty) p there.0 under in
      both_ways (has_change ranged.0 (patch_at r (patches_at c past))) (clean writes)
      (ap (λ (v : Bool). has (cut_within ranged.0 (patch_at r (patches_at c past)).pending) || v) run
      ∙ either (has (cut_within ranged.0 (patch_at r (patches_at c past)).pending)))
    where
      found : (y : Option Dirty) → found_at (patch_at r (patches_at c past)).dirty p ≡ y → dirty_at (patch_at r (patches_at c past)) p
          ≡ Some b → (d : Dirty) × (found_at (patch_at r (patches_at c past)).dirty p ≡ Some d)
      found (Some d) f g = (d, f)
      found None f g = absurd (let q : None ≡ Some b = sym (ap byte_of f) ∙ g in cc)

      either : (v : Bool) → (v || true) ≡ true
      either true = refl
      either false = refl

  unmasked : (p : ℕ) → covers (lock_at lock.cookie.0 w lock.ask.mode ranged.0) p ≡ true → masked (says.pending w h) (says.dirty w h p) p
      ≡ false
  unmasked p over = by (says.pending w h) refl (says.dirty w h p) refl
    where
      by : (q : Option ℕ) → says.pending w h ≡ q → (d : Option ℕ) → says.dirty w h p ≡ d → masked q d p ≡ false
      by q z (Some b) y = absurd (no_dirty p b y over)
      by None z None y = refl
      by (Some q) z None y = below (nat_lt q (suc p)) refl
        where
          below : (v : Bool) → nat_lt q (suc p) ≡ v → nat_lt q (suc p) ≡ false
          below false u = u
          below true u = absurd (no_cut q p z over (grind (arith, nat_tests, u)))

  -- ---- requests and write-backs

  -- no page is fetched under it
  unread : (f : Flight) → In f (flights_of who P) → (q : Resource) (cookie : Cookie) (page : ℕ) → f.op ≡ op.Get q cookie page → cookie.0
      ≡ lock.cookie.0 → ⊥
  unread f i q cookie page of same = by f.slot (here.stood.before.asks.fly_calls c t f (live_lasts c past h live)
      (subst (λ (fs : List Flight). In f fs) (sym (flights_is head c t past here.stood.grown)) i))
    where
      under : (y : Running) (slot : ℕ) → call_at c slot past ≡ Some y → GetsUnder y t (op.Get q cookie page) → ⊥
      under y slot call g =
          let used : In g.under (used_in y.stage) = subst (λ (s : Stage). In g.under (used_in s)) (sym g.stage) g.used in
          let pinned = mine_all head past here.stood.grown c slot y call g.under used in
          let its : g.under.lock.cookie ≡ lock.cookie = (let z : g.under.lock.cookie ≡ cookie = cookie_is g.of_op in z
          ∙ same_cookie cookie lock.cookie same) in
          drop_unpinned past stamp c t slot lock y (name_under g.under.want g.under.lock) here.stood.pins call pinned
          (name_is g.under its g.of_target)
        where
          cookie_is : op.Get q cookie page ≡ op.Get g.under.want.resource g.under.lock.cookie g.page → g.under.lock.cookie ≡ cookie
          cookie_is z = cc

          name_is : (u : Using) → u.lock.cookie ≡ lock.cookie → t ≡ u.want.target.0 → name_under u.want u.lock
              ≡ named (record { 0 = t }) lock.cookie
          name_is u z y = ap (λ (k : Cookie). named u.want.target k) z ∙ ap (λ (n : ℕ). named (record { 0 = n }) lock.cookie) (sym y)

      by : (s : Option ℕ) → CallOf past c t s f.op → ⊥
      by None back = absurd (subst IsBack of back)
      by (Some slot) k = under k.0 slot k.1 (gets_of k.0 t q cookie page (subst (λ (o : Op). AsksFor k.0 t o) of k.3))

  untaken_by : (b : WriteBack) → says.taken w h ≡ Some b → b.lock ≡ lock.cookie.0 → ⊥
  untaken_by b z same = by b.change refl (here.world.patches.run w b z)
    where
      under : theory.UnderNumber h w b.lock true (changes b.change)
      under = here.world.patches.under w b z

      its : under.lock ≡ lock_at lock.cookie.0 w lock.ask.mode ranged.0
      its = here.world.locks.unique under.lock (lock_at lock.cookie.0 w lock.ask.mode ranged.0)
          (here.world.numbers.held under.lock under.held) (here.world.numbers.held (lock_at lock.cookie.0 w lock.ask.mode ranged.0) held)
          (under.cookie ∙ same)

      over : (p : ℕ) → changes b.change p ≡ true → covers (lock_at lock.cookie.0 w lock.ask.mode ranged.0) p ≡ true
      over p y = subst (λ (m : Lock). covers m p ≡ true) its (under.covered p y)

      first_in : (at : ℕ) (bs : List ℕ) → 0 < length bs → within at bs at ≡ true
      first_in at [] some = absurd (omega (arith, some))
      first_in at (y ∷ bs) some = ap (λ (v : Bool). v || within (suc at) bs at) (self at)

      bytes_of_taken : (at : ℕ) (bs : List ℕ) → b.change ≡ Write at bs → 0 < length bs
      bytes_of_taken at bs y = flown (patch_at r (store_owed c past).patches).flight
          (subst (λ (v : Option WriteBack). TakenAs v (patch_at r (store_owed c past).patches).flight) z a.taken)
        where
          flown : (f : Option Flying) → TakenAs (Some b) f → 0 < length bs
          flown None k = absurd k
          flown (Some BytesFly) k = let same_bytes : k.1 ≡ bs = (let q : Write k.0 k.1 ≡ Write at bs = sym k.2 ∙ y in cc)
              in subst (λ (zs : List ℕ). 0 < length zs) same_bytes k.3
          flown (Some (CutFlies n)) k = absurd (let q : Write at bs ≡ Cut n = sym y ∙ k in cc)

      by : (ch : Change) → b.change ≡ ch → Runs h w (words.Flush b.lock ch) → ⊥
      by (Write at bs) y runs =
          let some = bytes_of_taken at bs y in
          let in_it : within at bs at ≡ true = first_in at bs some in
          both_ways (masked (says.pending w h) (says.dirty w h at) at)
          (unmasked at (over at (ap (λ (ch : Change). changes ch at) y ∙ in_it))) (runs at in_it)
      by (Cut n) y runs =
          let at = over n (ap (λ (ch : Change). changes ch n) y ∙ (grind (arith, nat_tests))) in
          no_cut runs.0 n runs.1 at (let low = runs.2 in grind (arith, nat_tests, low))

  untaken : taken_under (says.taken w h) lock.cookie.0 ≡ false
  untaken = by (says.taken w h) refl
    where
      by : (y : Option WriteBack) → says.taken w h ≡ y → taken_under y lock.cookie.0 ≡ false
      by None z = refl
      by (Some b) z = apart (nat_eq b.lock lock.cookie.0) refl
        where
          apart : (v : Bool) → nat_eq b.lock lock.cookie.0 ≡ v → nat_eq b.lock lock.cookie.0 ≡ false
          apart false u = u
          apart true u = absurd (untaken_by b z (eqb-true b.lock lock.cookie.0 u))

  unused : in_use (says.flight w h) lock.cookie.0 ≡ false
  unused = by (says.flight w h) refl
    where
      by : (y : Option Request) → says.flight w h ≡ y → in_use y lock.cookie.0 ≡ false
      by None z = refl
      by (Some q) z = of q.op refl
        where
          flies : (f : Flight) × In f (flights_of who P) × IsOn r f.op
          flies = ⊎_elim {C = (f : Flight) × In f (flights_of who P) × IsOn r f.op} (λ y. y)
              (λ none. absurd (let u : None ≡ Some q = sym (a.flights.idle none) ∙ z in cc)) (flies_or r (flights_of who P))

          flown : FlownAs r h w flies.0
          flown = a.flights.flies flies.0 flies.1 flies.2

          its_op : op_of r h flies.0.op ≡ Some q.op
          its_op = flown.is ∙ ap (λ (y : Request). Some y.op) (let u : Some (request_as w flies.0.xid flown.op) ≡ Some q = sym flown.flies
              ∙ z in some_is (request_as w flies.0.xid flown.op) q u)

          of : (o : words.Op) → q.op ≡ o → elim o [
            | words.Get j at n ↦ nat_eq j lock.cookie.0
            | words.Flush j ch ↦ nat_eq j lock.cookie.0
            | _ ↦ false
          ] ≡ false
          of (words.Get j at n) u = read (nat_eq j lock.cookie.0) refl
            where
              read : (v : Bool) → nat_eq j lock.cookie.0 ≡ v → nat_eq j lock.cookie.0 ≡ false
              read false y = y
              read true y = let g = get_of r h flies.0.op j at n (its_op ∙ ap Some u)
                  in absurd (unread flies.0 flies.1 g.0 g.1 g.2 g.3 (g.4 ∙ eqb-true j lock.cookie.0 y))
          of (words.Flush j ch) u = back (nat_eq j lock.cookie.0) refl
            where
              back : (v : Bool) → nat_eq j lock.cookie.0 ≡ v → nat_eq j lock.cookie.0 ≡ false
              back false y = y
              back true y = absurd (untaken_by (record { lock = j; change = ch }) (here.world.patches.flush w j ch q z u)
                  (eqb-true j lock.cookie.0 y))
          of (words.Enqueue write first last) u = refl
          of words.Size u = refl

  pub may_drop : Allowed h (Drop (lock_of lock))
  may_drop = subst (λ (m : Lock). Allowed h (Drop m)) (sym is_lock) (record {
    held = held;
    clean = clean_lock h (lock_at lock.cookie.0 w lock.ask.mode ranged.0) here.world.numbers here.world.locks here.world.patches stays held
        unmasked;
    free = unused;
    untaken = untaken;
  })
