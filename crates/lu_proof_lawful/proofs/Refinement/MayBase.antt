-- What allows a live client's entries: its life has a slot, and knows the boot that served last where it is served; a lock that it holds is
-- held
-- in the story.
use Rattle.std.proofs.Common.{◌≡◌, ℕ, suc, ◌+◌, ◌-◌, ◌≤◌, ◌<◌, Bool, true, false, List, [], ◌∷◌, Option, Some, None, ◌⊎◌, inl, inr, ⊎_elim}
use Rattle.std.proofs.Common.{refl, sym, subst, ap, ◌∙◌, arith}
use Rattle.std.specs.Prelude.{nat_eq, nat_lt, ◌&&◌, if◌then◌else◌, option_map}
use Rattle.std.proofs.lemmas.Bool.{both_ways, eqb-true, and_parts}
use Rattle.std.proofs.lemmas.Bool.Decides.{nat_tests}
use Rattle.lu_base.specs.declared.ids.Node.TheVariants.{Client}
use Rattle.lu_base.specs.declared.ids.Stamp.{Stamp}
use Rattle.lu_base.specs.declared.ids.Who.{Who}
use Rattle.lu_base.specs.declared.locks.Resource.{Resource}
use Rattle.lu_held.specs.declared.locks.HeldLock.{HeldLock}
use Rattle.lu_spec_entries.specs.Carried.{Flight}
use Rattle.lu_spec_entries.specs.Words as word
use Rattle.lu_spec_entries.specs.Words.{Line, line}
use Rattle.lu_spec_entries.specs.Concerns.{only}
use Rattle.lu_spec_client.specs.Caches.{held_at}
use Rattle.lu_spec_client.specs.Calls.{life_at}
use Rattle.lu_spec_client.specs.Messages.{part_first, part_count}
use Rattle.lu_spec_target.specs.Lives.{is_life}
use Rattle.lu_proof_lawful.specs.Covered.ClientStates.{life_of, known_of}
use Rattle.lu_proof_lawful.specs.Covered.TargetStates.{closed_of, evicted_of}
use Rattle.lu_proof_lawful.specs.Covered.Heads.{Head}
use Rattle.lu_proof_lawful.proofs.Preconditions.Heard.{In}
use Rattle.lu_proof_lawful.proofs.Preconditions.HeedMarks.{owed_of}
use Rattle.lu_proof_lawful.proofs.Preconditions.Lists.{turn}
use Rattle.lu_proof_lawful.proofs.Preconditions.Only.{grown_of}
use Rattle.lu_proof_lawful.proofs.Preconditions.Parts.{life_is_of, rise_of, life_client}
use Rattle.lu_proof_lawful.proofs.Invariants.TargetGroups.{Flew, Had, HasSlot}
use Rattle.lu_proof_bytes.specs.Object.Words.{Lock, Request, Entry, Flies, Heard, covers}
use Rattle.lu_proof_bytes.specs.Object.Folds.{HeldBy}
use Rattle.lu_proof_bytes.specs.Object.Folds as says
use Rattle.lu_proof_bytes.specs.Object.Guards.{in_run, Allowed}
use Rattle.lu_proof_lawful.specs.Projection.Lives.{is_live}
use Rattle.lu_proof_lawful.specs.Projection.Locks.{lock_of, last_byte, range_of, given}
use Rattle.lu_proof_lawful.specs.Projection.Requests.{asked_as}
use Rattle.lu_proof_lawful.specs.Projection.Stories.{with_entry, of_life, of_life_at, story}
use Rattle.lu_proof_lawful.proofs.Refinement.Tied.{Here, Grows}
use Rattle.lu_proof_lawful.proofs.Refinement.TiedStore.{life_number}
use Rattle.lu_proof_lawful.proofs.Refinement.TiedAsked.{AskedBy, IsOwed}
use Rattle.lu_proof_lawful.proofs.Refinement.OverLives.{live_parts}
use Rattle.lu_proof_lawful.proofs.Refinement.AskedOwn.{NotHold, shows_none}

-- ---- a line of a live life gives an entry

module _ (t c : ℕ) (past : List Line) (h : List Entry) where
  with_grows : (o : Option Entry) → ((x : Entry) → o ≡ Some x → Allowed h x) → Grows h (with_entry o h)
  with_grows None f = inl refl
  with_grows (Some x) f = inr (x, refl, f x refl)

  pub life_grows : (gives : ℕ → Option Entry) → (is_live c past h ≡ true → (x : Entry) → gives (life_number c past) ≡ Some x → Allowed h x)
      → Grows h (of_life (Client c) past gives h)
  life_grows gives f = by (is_live c past h) refl
    where
      by : (b : Bool) → is_live c past h ≡ b → Grows h (if b then with_entry (gives (life_number c past)) h else h)
      by true live = with_grows (gives (life_number c past)) (f live)
      by false live = inl refl

  pub at_grows : (u : ℕ) (gives : ℕ → Option Entry) → (u ≡ t → is_live c past h ≡ true → (x : Entry) → gives (life_number c past) ≡ Some x
      → Allowed h x)
      → Grows h (of_life_at t u (Client c) past gives h)
  at_grows u gives f = by (nat_eq u t) refl
    where
      by : (b : Bool) → nat_eq u t ≡ b → Grows h (if b then of_life (Client c) past gives h else h)
      by true e = life_grows gives (f (eqb-true u t e))
      by false e = inl refl

  -- what it is, for a live life
  pub at_live : (gives : ℕ → Option Entry) → is_live c past h ≡ true → of_life_at t t (Client c) past gives h
      ≡ with_entry (gives (life_number c past)) h
  at_live gives live = both (nat_eq t t) (grind arith) (is_live c past h) live
    where
      both : (a : Bool) → a ≡ true → (b : Bool) → b ≡ true → (if a then (if b then with_entry (gives (life_number c past)) h else h) else h)
          ≡ with_entry (gives (life_number c past)) h
      both true e true f = refl
      both a e false f = absurd (cc)
      both false e b f = absurd (cc)

pub mapped : {A : Type 0} (f : A → Entry) (o : Option A) (x : Entry) → option_map f o ≡ Some x → (a : A) × (o ≡ Some a) × (f a ≡ x)
mapped f None x e = absurd (cc)
mapped f (Some a) x e = (a, refl, cc)

-- ---- positions of a page under a lock

pub page_under : (m : Lock) (page p : ℕ) → in_run (part_first page (range_of m)) (part_count page (range_of m)) p ≡ true → covers m p ≡ true
page_under m page p e = by m.last refl
  where
    run : (part_first page (range_of m) ≤ p) × (p < part_first page (range_of m) + part_count page (range_of m))
    run = let x = and_parts (nat_lt (part_first page (range_of m)) (suc p))
        (nat_lt p (part_first page (range_of m) + part_count page (range_of m))) e
        in (grind (arith, nat_tests, x), grind (arith, nat_tests, x))

    first : m.first ≤ p
    first = let x = run.0 in omega (arith, x)

    last : p ≤ last_byte m.last
    last = let x = run.0 in let y = run.1 in omega (arith, x, y)

    by : (z : Option ℕ) → m.last ≡ z → covers m p ≡ true
    by None f = rw f (let x = first in grind (arith, nat_tests, x))
    by (Some q) f = let low = subst (λ (o : Option ℕ). p ≤ last_byte o) f last in rw f (let x = first in grind (arith, nat_tests, x, low))

-- ---- a request in flight is that of its number

pub asked_flight : (w : ℕ) (h : List Entry) (q : Request) → says.flight w h ≡ Some q → asked_as w q.xid h ≡ Some q
asked_flight w [] q e = absurd (cc)
asked_flight w (Flies s ∷ h) q e = by (nat_eq w s.life) refl e (λ f. asked_flight w h q f)
  where
    by : (b : Bool) → nat_eq w s.life ≡ b → (if b then Some s else says.flight w h) ≡ Some q
        → (says.flight w h ≡ Some q → asked_as w q.xid h ≡ Some q)
        → (if b && nat_eq q.xid s.xid then Some s else asked_as w q.xid h) ≡ Some q
    by true o f more =
        let same : s ≡ q = cc in
        let own : nat_eq q.xid s.xid ≡ true = let x : q.xid ≡ s.xid = ap (λ (y : Request). y.xid) (sym same) in grind (arith, nat_tests, x)
        in
        rw own (ap Some same)
    by false o f more = more f
asked_flight w (Heard s a ∷ h) q e = by (nat_eq w s.life) e (λ f. asked_flight w h q f)
  where
    by : (b : Bool) → (if b then None else says.flight w h) ≡ Some q → (says.flight w h ≡ Some q → asked_as w q.xid h ≡ Some q)
        → asked_as w q.xid h ≡ Some q
    by true f more = absurd (let x : None ≡ Some q = f in cc)
    by false f more = more f
asked_flight w (_ ∷ h) q e = asked_flight w h q e

-- ---- of a live client

module _ (head : Head) (t : ℕ) (r : Resource) (l : Line) (past : List Line) (here : Here head t r l past) (c : ℕ)
    (live : is_live c past (story t r past) ≡ true) where
  abbrev pub P : List Line
  P = only t past

  abbrev pub who : Who
  who = life_at c past

  pub tie : AskedBy t r past c
  tie = here.tied.asked.of c live

  pub life_eq : who ≡ life_of c P
  life_eq = life_is_of c t past

  pub client_eq : who.client ≡ c
  client_eq = ap (λ (v : Who). v.client) life_eq ∙ life_client c P (rise_of head P (grown_of head t past here.stood.grown))

  -- it has a slot, if it had one at all
  pub has_slot : Had head.clients P who → HasSlot head.clients P who
  has_slot had = ⊎_elim (λ (s : HasSlot head.clients P who). s)
      (λ e. absurd (both_ways (is_life who (evicted_of P)) (sym (here.tied.target.evicted who)
      ∙ (live_parts c past (story t r past) live).0) e)) had

  pub flown_slot : (f : Flight) → Flew P who f → HasSlot head.clients P who
  flown_slot f flew = has_slot ((here.stood.before.at t).lives.flew who f flew)

  -- so it knows the boot that served last, or a later one
  pub knows_closed : HasSlot head.clients P who → closed_of P ≤ known_of c P
  knows_closed has = subst (λ (d : ℕ). closed_of P ≤ known_of d P) client_eq ((here.stood.before.at t).lives.knows who has).1

  -- a message of the boot that it knows is of the present one
  pub boot_closed : HasSlot head.clients P who → (boot : ℕ) → boot ≡ known_of c P → boot ≤ closed_of P → boot ≡ says.closed (story t r past)
  boot_closed has boot e low =
      let high = knows_closed has in
      let told = here.tied.target.closed in
      let same : boot ≡ closed_of P = omega (arith, e, low, high) in
      same ∙ sym told

-- what a client holds of the object is held in the story, where no lock is shown
pub held_there : (head : Head) (t : ℕ) (r : Resource) (stamp : Stamp) (c : ℕ) (past : List Line) (e : word.Entry)
    (here : Here head t r (line (turn stamp (Client c)) e) past) → is_live c past (story t r past) ≡ true → NotHold e
    → (x : HeldLock) → In x (held_at c (only t past)) → x.lock.resource ≡ r → HeldBy (story t r past) (lock_of x.lock)
held_there head t r stamp c past e here live n x i on =
    ⊎_elim (λ (j : HeldBy (story t r past) (lock_of x.lock)). j)
    (λ (o : IsOwed t x.lock (owed_of c past)). absurd (shows_none head t r stamp c past e here n x.lock false o.0 o.1 o.2 o.3))
    ((here.tied.asked.of c live).locks.holds x i on)

-- and its cookie stands for it
pub held_given : (head : Head) (t : ℕ) (r : Resource) (l : Line) (past : List Line) → Here head t r l past → (c : ℕ) (x : HeldLock)
    → In x (held_at c (only t past)) → x.lock.resource ≡ r
    → given x.lock.cookie.0 (story t r past) ≡ Some (lock_of x.lock)
held_given head t r l past here c x i on = let holding = (here.stood.before.at t).locks.held c x i
    in here.tied.target.gives holding.deed x.lock holding.gave on
