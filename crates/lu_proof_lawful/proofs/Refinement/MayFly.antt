-- A request of a live client flies as the theory allows: none is in flight on the object, a page is asked for under a held lock, and a
-- write-back
-- is what was taken.
use Rattle.std.proofs.Common.{◌≡◌, ℕ, ◌+◌, ◌<◌, Bool, true, false, List, [], ◌∷◌, ◌++◌, Option, Some, None, ◌⊎◌, inl, ⊎_elim, refl, sym}
use Rattle.std.proofs.Common.{subst, ap, ◌∙◌, arith}
use Rattle.std.specs.Prelude.{nat_lt, ◌&&◌, if◌then◌else◌}
use Rattle.std.specs.List.{list_any}
use Rattle.std.proofs.lemmas.Bool.{both_ways, cond-true}
use Rattle.std.proofs.lemmas.Bool.Decides.{nat_tests}
use Rattle.lu_base.specs.declared.ids.Cookie.{Cookie}
use Rattle.lu_base.specs.declared.ids.Node.TheVariants.{Client}
use Rattle.lu_base.specs.declared.ids.Stamp.{Stamp}
use Rattle.lu_base.specs.declared.ids.Who.{Who}
use Rattle.lu_base.specs.declared.locks.Lock.{Lock as TableLock}
use Rattle.lu_base.specs.declared.locks.Resource.{Resource}
use Rattle.lu_held.specs.Locks.{same_resource}
use Rattle.lu_msg.specs.declared.operations.Op.{Op}
use Rattle.lu_msg.specs.declared.operations.Op.TheVariants as op
use Rattle.lu_spec_entries.specs.declared.changes.Flush.{Flush}
use Rattle.lu_spec_entries.specs.declared.changes.Flush.TheVariants as flush
use Rattle.lu_spec_entries.specs.Carried.{Queued, Flight, Stage, Running}
use Rattle.lu_spec_entries.specs.Words as word
use Rattle.lu_spec_entries.specs.Words.{Line, line}
use Rattle.lu_spec_entries.specs.Concerns.{only}
use Rattle.lu_spec_client.specs.Caches.{held_at}
use Rattle.lu_spec_client.specs.Calls.{life_at}
use Rattle.lu_spec_client.specs.Sending.{object_of, same_object}
use Rattle.lu_spec_client.specs.WriteBack.{operation}
use Rattle.lu_proof_lawful.specs.Covered.Calls.{call_at}
use Rattle.lu_proof_lawful.specs.Covered.Imports.{queue_at}
use Rattle.lu_proof_lawful.specs.Covered.ClientStates.{life_of, queue_of, flights_of, last_of}
use Rattle.lu_proof_lawful.specs.Covered.Heads.{Head}
use Rattle.lu_proof_lawful.proofs.Preconditions.Asks.{IsBack, AsksFor, CallOf, GetsUnder}
use Rattle.lu_proof_lawful.proofs.Preconditions.AskedCalls.{gets_of}
use Rattle.lu_proof_lawful.proofs.Preconditions.CallGuards.{used_in}
use Rattle.lu_proof_lawful.proofs.Preconditions.ClientLocks.{any_false}
use Rattle.lu_proof_lawful.proofs.Preconditions.Heard.{In}
use Rattle.lu_proof_lawful.proofs.Preconditions.Held.{held_into}
use Rattle.lu_proof_lawful.proofs.Preconditions.Lists.{self, turn}
use Rattle.lu_proof_lawful.proofs.Preconditions.Parts.{queue_now}
use Rattle.lu_proof_lawful.proofs.Preconditions.QueueLists.{resource_of, resource_itself}
use Rattle.lu_proof_lawful.proofs.Preconditions.StoryGuards.{FliesOk}
use Rattle.lu_proof_bytes.specs.Object.Words as words
use Rattle.lu_proof_bytes.specs.Object.Words.{Cut, Entry, Flies}
use Rattle.lu_proof_bytes.specs.Object.Folds.{HeldBy}
use Rattle.lu_proof_bytes.specs.Object.Folds as says
use Rattle.lu_proof_bytes.specs.Object.Guards.{OpOk, Allowed}
use Rattle.lu_proof_objects.specs.Points.{change_of}
use Rattle.lu_proof_lawful.specs.Projection.Lives.{number_of, is_live}
use Rattle.lu_proof_lawful.specs.Projection.Locks.{lock_of, given}
use Rattle.lu_proof_lawful.specs.Projection.Requests.{op_of, op_on, get_under}
use Rattle.lu_proof_lawful.specs.Projection.Messages.{request_as}
use Rattle.lu_proof_lawful.specs.Projection.Stories.{story}
use Rattle.lu_proof_lawful.proofs.Refinement.Uses.{used_held}
use Rattle.lu_proof_lawful.proofs.Refinement.Tied.{Here}
use Rattle.lu_proof_lawful.proofs.Refinement.OverLives.{live_lasts}
use Rattle.lu_proof_lawful.proofs.Refinement.TiedAsked.{IsOn, HasLock, is_back, queued_backs, flying_backs, backs_of, BacksTaken, JustTaken}
use Rattle.lu_proof_lawful.proofs.Refinement.TiedAsked.{AskedBy}
use Rattle.lu_proof_lawful.proofs.Refinement.TargetDeeds.{on_of}
use Rattle.lu_proof_lawful.proofs.Refinement.AskedOther.{own_life}
use Rattle.lu_proof_lawful.proofs.Refinement.MayBase.{tie, life_eq, page_under, held_there, held_given}

some_op : (r q : Resource) (x y : words.Op) → op_on r q x ≡ Some y → (q ≡ r) × (x ≡ y)
some_op r q x y e = by (same_resource q r) refl e
  where
    by : (b : Bool) → same_resource q r ≡ b → ◌≡◌ {A = Option words.Op} (if b then Some x else None) (Some y) → (q ≡ r) × (x ≡ y)
    by true s f = (resource_of q r s, cc)
    by false s f = absurd (cc)

module _ (head : Head) (t : ℕ) (r : Resource) (stamp : Stamp) (c : ℕ) (past : List Line) (f : Flight)
    (here : Here head t r (line (turn stamp (Client c)) (word.Flies t f)) past) (live : is_live c past (story t r past) ≡ true) where
  abbrev l : Line
  l = line (turn stamp (Client c)) (word.Flies t f)

  abbrev P : List Line
  P = only t past

  abbrev who : Who
  who = life_at c past

  abbrev h : List Entry
  h = story t r past

  abbrev w : ℕ
  w = number_of who

  a : AskedBy t r past c
  a = tie head t r l past here c live

  abbrev pub ok : FliesOk head P c t f
  ok = here.stood.ok.of t (self t)

  life : life_of c P ≡ who
  life = sym (life_eq head t r l past here c live)

  front_op : f.op ≡ ok.front.op
  front_op = ap (λ (g : Flight). g.op) ok.is

  pub queue_is : queue_of who P ≡ ok.front ∷ ok.more
  queue_is = ap (λ (v : Who). queue_of v P) (sym life) ∙ ok.queue

  -- none is in flight on the object
  pub none_flies : IsOn r f.op → (g : Flight) → In g (flights_of who P) → IsOn r g.op → ⊥
  none_flies on g i also =
      let waits = subst (λ (v : Who). list_any (λ (x : Flight). same_object (object_of x.op) (object_of ok.front.op)) (flights_of v P)
      ≡ false) life none in
      let apart = any_false (λ (x : Flight). same_object (object_of x.op) (object_of ok.front.op)) (flights_of who P) waits g i in
      let q : same_object (Some r) (Some r) ≡ false = subst (λ (x : Option Resource). same_object x (Some r) ≡ false) also
      (subst (λ (x : Option Resource). same_object (object_of g.op) x ≡ false) (ap object_of (sym front_op) ∙ on) apart) in
      both_ways (same_resource r r) q (resource_itself r)
    where
      none : list_any (λ (x : Flight). same_object (object_of x.op) (object_of ok.front.op)) (flights_of (life_of c P) P) ≡ false
      none = by (nat_lt 0 t) (let s = here.some in grind (arith, nat_tests, s)) ok.object
        where
          by : (b : Bool) → b ≡ true
              → (b && list_any (λ (x : Flight). same_object (object_of x.op) (object_of ok.front.op)) (flights_of (life_of c P) P)) ≡ false
              → list_any (λ (x : Flight). same_object (object_of x.op) (object_of ok.front.op)) (flights_of (life_of c P) P) ≡ false
          by true e x = x
          by false e x = absurd (cc)

  pub idle : IsOn r f.op → says.flight w h ≡ None
  idle on = a.flights.idle (none_flies on)

  -- its number is the next one
  next : says.asked w h < f.xid
  next = let low = here.tied.asked.asked who in let is : f.xid ≡ last_of who P + 1 = ap (λ (g : Flight). g.xid) ok.is
      ∙ ap (λ (v : Who). last_of v P + 1) life in omega (arith, low, is)

  -- a page is fetched under a lock that is held
  pub record Page (cookie : Cookie) : Type 0 where
    pub lock : TableLock
    pub held : HeldBy h (lock_of lock)
    pub life : number_of lock.ask.who ≡ w
    pub its : lock.cookie ≡ cookie
    pub given : given cookie.0 h ≡ Some (lock_of lock)

  pub page_of : (q : Resource) (cookie : Cookie) (page : ℕ) → f.op ≡ op.Get q cookie page → q ≡ r → Page cookie
  page_of q cookie page e on = by ok.front.slot (here.stood.before.asks.queue_calls c t ok.front (live_lasts c past h live) queued)
    where
      queued : In ok.front (queue_at c t past)
      queued = subst (λ (qs : List Queued). In ok.front qs) (sym (queue_now head c t past here.stood.grown ∙ ok.queue)) (inl refl)

      asks : ok.front.op ≡ op.Get q cookie page
      asks = sym front_op ∙ e

      under : (x : Running) (slot : ℕ) → call_at c slot past ≡ Some x → GetsUnder x t (op.Get q cookie page) → Page cookie
      under x slot call g =
          let used : In g.under (used_in x.stage) = subst (λ (s : Stage). In g.under (used_in s)) (sym g.stage) g.used in
          let u = used_held head past here.stood.grown here.stood.pins.1 c slot x call g.under used in
          let there : In u.holding (held_at c P) = held_into c t past u.holding (u.of_target ∙ sym g.of_target) u.held in
          let object : q ≡ g.under.want.resource = resource_is g.of_op in
          let its : g.under.lock.cookie ≡ cookie = sym (cookie_is g.of_op) in
          let own : u.holding.lock.cookie ≡ cookie = ap (λ (y : TableLock). y.cookie) u.is ∙ its in
          let here_on : u.holding.lock.resource ≡ r = ap (λ (y : TableLock). y.resource) u.is ∙ u.of_object ∙ sym object ∙ on in
          record {
            lock = u.holding.lock;
            held = held_there head t r stamp c past (word.Flies t f) here live tt u.holding there here_on;
            life = own_life head t l past here.stood c u.holding there;
            its = own;
            given = subst (λ (y : Cookie). given y.0 h ≡ Some (lock_of u.holding.lock)) own
                (held_given head t r l past here c u.holding there here_on);
          }
        where
          resource_is : op.Get q cookie page ≡ op.Get g.under.want.resource g.under.lock.cookie g.page → q ≡ g.under.want.resource
          resource_is z = cc

          cookie_is : op.Get q cookie page ≡ op.Get g.under.want.resource g.under.lock.cookie g.page → cookie ≡ g.under.lock.cookie
          cookie_is z = cc

      by : (s : Option ℕ) → CallOf past c t s ok.front.op → Page cookie
      by None back = absurd (subst IsBack asks back)
      by (Some slot) k = under k.0 slot k.1 (gets_of k.0 t q cookie page (subst (λ (o : Op). AsksFor k.0 t o) asks k.3))

  -- the lock of a page is one of the object
  pub flies_lock : (x : words.Op) → op_of r h f.op ≡ Some x → HasLock h f.op
  flies_lock x e = by f.op refl e
    where
      by : (o : Op) → f.op ≡ o → op_of r h o ≡ Some x → HasLock h o
      by (op.Get q cookie page) is some = let p = page_of q cookie page is (some_op r q _ x some).0 in (lock_of p.lock, p.given)
      by (op.Enqueue q mode extent) is some = tt
      by (op.Put q cookie at bytes) is some = tt
      by (op.Cut q cookie n) is some = tt
      by (op.Size q) is some = tt
      by o is some = absurd (cc)

  -- a write-back is what was taken
  taken_is : (q : Resource) (cookie : Cookie) (change : Flush) → f.op ≡ operation q cookie change → q ≡ r → says.taken w h
      ≡ Some (record { lock = cookie.0; change = change_of change })
  taken_is q cookie change e on = ⊎_elim none one a.backs.backs
    where
      back : is_back r ok.front.op ≡ true
      back = ap (is_back r) (sym front_op ∙ e) ∙ by change
        where
          by : (x : Flush) → is_back r (operation q cookie x) ≡ true
          by (flush.Put at bytes) = ap (λ (y : Resource). same_resource y r) on ∙ resource_itself r
          by (flush.Cut n) = ap (λ (y : Resource). same_resource y r) on ∙ resource_itself r

      first : backs_of r who P ≡ ok.front.op ∷ (queued_backs r ok.more ++ flying_backs r (flights_of who P))
      first = ap (λ (qs : List Queued). queued_backs r qs ++ flying_backs r (flights_of who P)) queue_is
          ∙ ap (λ (xs : List Op). xs ++ flying_backs r (flights_of who P))
          (cond-true _ (ok.front.op ∷ queued_backs r ok.more) (queued_backs r ok.more) back)

      none : backs_of r who P ≡ [] → says.taken w h ≡ Some (record { lock = cookie.0; change = change_of change })
      none z = absurd (let y : [] ≡ ok.front.op ∷ (queued_backs r ok.more ++ flying_backs r (flights_of who P)) = sym z ∙ first in cc)

      same : (k : Cookie) (x : Flush) → operation q cookie change ≡ operation r k x → (cookie ≡ k) × (change ≡ x)
      same k x z = both change x z
        where
          both : (u v : Flush) → operation q cookie u ≡ operation r k v → (cookie ≡ k) × (u ≡ v)
          both (flush.Put at bytes) (flush.Put a b) y = (cc, cc)
          both (flush.Cut n) (flush.Cut m) y = (cc, cc)
          both (flush.Put at bytes) (flush.Cut m) y = absurd (cc)
          both (flush.Cut n) (flush.Put a b) y = absurd (cc)

      one : (o : Op) × (backs_of r who P ≡ o ∷ []) × BacksTaken r h w o × ((change : Flush) → JustTaken past c r change → ⊥)
          → says.taken w h ≡ Some (record { lock = cookie.0; change = change_of change })
      one z =
          let y : z.0 ∷ [] ≡ ok.front.op ∷ (queued_backs r ok.more ++ flying_backs r (flights_of who P)) = sym z.1 ∙ first in
          let its : z.0 ≡ ok.front.op = cc in
          let s = same z.2.cookie z.2.change (sym e ∙ front_op ∙ sym its ∙ z.2.is) in
          z.2.taken ∙ rw (s.0, s.1) refl

  op_ok : (x : words.Op) → op_of r h f.op ≡ Some x → OpOk h w x
  op_ok x e = by f.op refl e
    where
      by : (o : Op) → f.op ≡ o → op_of r h o ≡ Some x → OpOk h w x
      by (op.Enqueue q mode extent) is some = subst (OpOk h w) (some_op r q _ x some).1 tt
      by (op.Size q) is some = subst (OpOk h w) (some_op r q _ x some).1 tt
      by (op.Put q cookie at bytes) is some = let s = some_op r q _ x some
          in subst (OpOk h w) s.1 (taken_is q cookie (flush.Put at bytes) is s.0)
      by (op.Cut q cookie n) is some = let s = some_op r q _ x some in subst (OpOk h w) s.1 (taken_is q cookie (flush.Cut n) is s.0)
      by (op.Get q cookie page) is some =
          let s = some_op r q (get_under cookie.0 page (given cookie.0 h)) x some in
          let p = page_of q cookie page is s.0 in
          subst (OpOk h w) (sym (ap (get_under cookie.0 page) p.given) ∙ s.1)
          (record {
            lock = lock_of p.lock;
            held = p.held;
            life = p.life;
            cookie = ap (λ (y : Cookie). y.0) p.its;
            mode = λ z. absurd (let y : false ≡ true = z in cc);
            covered = λ n z. page_under (lock_of p.lock) page n z;
          })
      by o is some = absurd (cc)

  pub may_fly : (x : words.Op) → op_of r h f.op ≡ Some x → Allowed h (Flies (request_as w f.xid x))
  may_fly x e = record { idle = idle (on_of r h f.op x e); next = next; op = op_ok x e }
