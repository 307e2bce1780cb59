-- A request is taken, and goes on at a target of either kind.
use Rattle.std.proofs.Common.{◌≡◌, ℕ, ◌+◌, ◌<◌, ◌==◌, ◌&&◌, Bool, true, false, cond, List, [], ◌∷◌, ◌++◌, map, filter, Some, refl, sym, ap}
use Rattle.std.proofs.Common.{subst, ◌∙◌, arith}
use Rattle.std.specs.Prelude.{if◌then◌else◌, All}
use Rattle.std.proofs.lemmas.List.Elements.{All-weaker, All-filter, All-push, All-cons, All-head, All-tail, All-nil}
use Rattle.std.proofs.lemmas.Bool.Decides.{nat_tests}
use Rattle.lu_base.specs.declared.ids.At.{At}
use Rattle.lu_base.specs.declared.ids.Cookie.{Cookie}
use Rattle.lu_callback.specs.declared.callbacks.Asked.{Asked}
use Rattle.lu_callback.specs.declared.callbacks.Kind.{Kind as Call}
use Rattle.lu_callback.specs.declared.callbacks.Kind.TheVariants as call
use Rattle.lu_msg.specs.declared.messages.Request.{Request}
use Rattle.lu_service.specs.declared.services.Kind.{Kind}
use Rattle.lu_service.specs.declared.services.Kind.TheVariants.{Mdt, Ost}
use Rattle.lu_trace.specs.Turns.{Making}
use Rattle.lu_spec_entries.specs.Carried.{Glimpse}
use Rattle.lu_spec_entries.specs.Words.{Entry, Enters, same_life}
use Rattle.lu_spec_target.specs.Lives.{slot_in}
use Rattle.lu_spec_target.specs.Locks.{same_request}
use Rattle.lu_spec_target.specs.Names.{names_go}
use Rattle.lu_spec_target.specs.Objects.{objects_go}
use Rattle.lu_spec_target.specs.Requests.{row_enters}
use Rattle.lu_spec_target.specs.States.{Setting, Target, after, turn, follow}
use Rattle.lu_target_refines.specs.Callbacks.{glimpse_kind, is_on, glimpsed}
use Rattle.lu_target_refines.specs.Callbacks as callbacks
use Rattle.lu_target_invariant.specs.Requests.{request_of}
use Rattle.lu_target_invariant.specs.Sound.{IsSound, IsKindOf}
use Rattle.lu_target_invariant.proofs.Entries.{MayEnter, sound_enters, enters_waits, enters_unasked}
use Rattle.lu_target_store.specs.Stores.{StoreState, Serves, HasTaken, KeepsTaken}
use Rattle.lu_target_server.specs.Servers.{ServerState, Shows, Stands, Makes, MayTake, IsUnasked}
use Rattle.lu_target_server.proofs.Composing.{giving_mark, makes_as}
use Rattle.lu_target_server.proofs.Staying.{locks_still}

-- ---- the kind of a target that stands

kind_names : (s : ServerState) (v : Target) → Shows s v → (s.id == 0) ≡ true → s.kind ≡ Mdt
kind_names s v shows names = by s.kind shows.kind where
  by : (kind : Kind) → IsKindOf s.id kind → kind ≡ Mdt
  by Mdt is = refl
  by Ost is = absurd (cc)

setting_stays : (v : Target) (es : List Entry) → (turn v es).setting ≡ v.setting
setting_stays v [] = refl
setting_stays v (e ∷ es) = setting_stays (after v e) es

-- a call that makes a row leaves the kind
pub names_kept : (row : Target → List Entry) (old new : ServerState) (before end : Making) → Makes row old new before end → Stands old
    → old.kind ≡ Mdt → new.kind ≡ Mdt
names_kept row old new before end makes stands names =
    let v = stands.0 in
    let shown : Shows new (turn v (row v)) = makes.shows v stands.1 in
    let zero_is : old.id ≡ 0 = subst (λ (kind : Kind). IsKindOf old.id kind) names stands.1.kind in
    let same : new.id ≡ 0 = sym shown.id ∙ ap (λ (setting : Setting). setting.id) (setting_stays v (row v)) ∙ stands.1.id ∙ zero_is in
    kind_names new (turn v (row v)) shown (ap (λ n. n == 0) same)

-- ---- it is taken

abbrev pub with_taken : ServerState → StoreState → Request → ServerState
with_taken old store r = record old { store = store; requests = old.requests ++ r ∷ [] }

pub may_enter : (s : ServerState) (v : Target) (r : Request) → Shows s v → MayTake r s → (slot_in v.slots r.who r.tag).taken < r.xid.0
    → MayEnter s.kind v r
may_enter s v r shows may above =
    record {
      life = may.life v shows;
      tag = may.tag;
      takes = may.takes;
      above = above;
      tags = subst (All (λ (q : Request). same_request q r ≡ true → q.tag ≡ r.tag)) (sym shows.requests) may.tags;
    }

pub enters_made :
    (old : ServerState) (store : StoreState) (making : Making) (r : Request)
    → ((v : Target) → Serves old.store v → Serves store (after v (Enters r)))
    → HasTaken r.who r.tag store → KeepsTaken old.store store → MayTake r old
    → ((v : Target) → Shows old v → (slot_in v.slots r.who r.tag).taken < r.xid.0)
    → Makes (λ v. Enters r ∷ []) old (with_taken old store r) making making
enters_made old store making r serves has keeps may above =
    record {
      gives = λ v shows. sym (giving_mark making (Enters r) refl);
      shows = λ v shows.
          record {
            id = shows.id;
            kind = shows.kind;
            expire = shows.expire;
            boot = shows.boot;
            store = serves v shows.store;
            locks = locks_still old.locks v (after v (Enters r)) refl refl refl refl refl refl refl shows.locks;
            contents = shows.contents;
            requests = ap (λ (queue : List Request). queue ++ r ∷ []) shows.requests;
            taken = All-push (λ (q : Request). HasTaken q.who q.tag store) old.requests r
                (All-weaker (λ (q : Request). HasTaken q.who q.tag old.store) (λ (q : Request). HasTaken q.who q.tag store)
                (λ q taken. keeps q.who q.tag taken) old.requests shows.taken)
                has;
            sound = sound_enters old.kind v r (may_enter old v r shows may (above v shows)) shows.sound;
          };
    }

-- it waits then
pub taken_waits : (old : ServerState) (store : StoreState) (v : Target) (r : Request) → Shows old v → MayTake r old
    → (slot_in v.slots r.who r.tag).taken < r.xid.0
    → request_of r.who r.xid (with_taken old store r).requests ≡ Some r
taken_waits old store v r shows may above =
    subst (λ (queue : List Request). request_of r.who r.xid (queue ++ r ∷ []) ≡ Some r) shows.requests
    (enters_waits old.kind v r (may_enter old v r shows may above) shows.sound)

-- ---- and there is no glimpse for it, in whatever state the server shows

-- a call that is for this request
abbrev for_request : Request → Call → Bool
for_request r call.Block = false
for_request r (call.Glimpse who xid) = same_life who r.who && xid.0 == r.xid.0

told_of : (r : Request) (gs : List Glimpse) → All (λ (g : Glimpse). same_request g.request r ≡ false) gs
    → All (λ (k : Call). for_request r k ≡ false) (map {A = Glimpse} {B = Call} glimpse_kind gs)
told_of r [] none = All-nil (λ (k : Call). for_request r k ≡ false)
told_of r (g ∷ gs) none =
    All-cons (λ (k : Call). for_request r k ≡ false) (glimpse_kind g) (map {A = Glimpse} {B = Call} glimpse_kind gs)
    (All-head (λ (g : Glimpse). same_request g.request r ≡ false) g gs none)
    (told_of r gs (All-tail (λ (g : Glimpse). same_request g.request r ≡ false) g gs none))

known_of : (r : Request) (gs : List Glimpse) → All (λ (k : Call). for_request r k ≡ false) (map {A = Glimpse} {B = Call} glimpse_kind gs)
    → All (λ (g : Glimpse). same_request g.request r ≡ false) gs
known_of r [] none = All-nil (λ (g : Glimpse). same_request g.request r ≡ false)
known_of r (g ∷ gs) none =
    All-cons (λ (g : Glimpse). same_request g.request r ≡ false) g gs
    (All-head (λ (k : Call). for_request r k ≡ false) (glimpse_kind g) (map {A = Glimpse} {B = Call} glimpse_kind gs) none)
    (known_of r gs (All-tail (λ (k : Call). for_request r k ≡ false) (glimpse_kind g) (map {A = Glimpse} {B = Call} glimpse_kind gs) none))

some_of : (r : Request) (c : Cookie) (gs : List Glimpse) → All (λ (g : Glimpse). same_request g.request r ≡ false) gs
    → All (λ (g : Glimpse). same_request g.request r ≡ false) (filter (is_on c) gs)
some_of r c gs none = All-filter (is_on c) (λ (g : Glimpse). same_request g.request r ≡ false) gs none

-- lock by lock is all
all_of : (r : Request) (gs : List Glimpse) → ((c : Cookie) → All (λ (g : Glimpse). same_request g.request r ≡ false) (filter (is_on c) gs))
    → All (λ (g : Glimpse). same_request g.request r ≡ false) gs
all_of r [] none = All-nil (λ (g : Glimpse). same_request g.request r ≡ false)
all_of r (g ∷ gs) none =
    All-cons (λ (x : Glimpse). same_request x.request r ≡ false) g gs
    (All-head (λ (x : Glimpse). same_request x.request r ≡ false) g (filter (is_on g.cookie) gs)
    (subst (λ b. All (λ (x : Glimpse). same_request x.request r ≡ false)
    (cond b (g ∷ filter (is_on g.cookie) gs) (filter (is_on g.cookie) gs))) (itself g.cookie.0) (none g.cookie)))
    (all_of r gs (λ c. rest (is_on c g) c (none c))) where
      itself : (n : ℕ) → (n == n) ≡ true
      itself n = grind (arith, nat_tests)

      rest : (on : Bool) (c : Cookie) → All (λ (x : Glimpse). same_request x.request r ≡ false)
          (cond on (g ∷ filter (is_on c) gs) (filter (is_on c) gs))
          → All (λ (x : Glimpse). same_request x.request r ≡ false) (filter (is_on c) gs)
      rest true c all = All-tail (λ (x : Glimpse). same_request x.request r ≡ false) g (filter (is_on c) gs) all
      rest false c all = all

pub taken_unasked : (old : ServerState) (store : StoreState) (v : Target) (r : Request) → Shows old v → MayTake r old
    → (slot_in v.slots r.who r.tag).taken < r.xid.0
    → IsUnasked r (with_taken old store r)
taken_unasked old store v r shows may above = λ w shown.
    let none : All (λ (g : Glimpse). same_request g.request r ≡ false) v.glimpses =
    enters_unasked old.kind v r (may_enter old v r shows may above) shows.sound in
    all_of r w.glimpses (λ c.
    let same : map {A = Glimpse} {B = Call} glimpse_kind (filter (is_on c) v.glimpses)
    ≡ map {A = Glimpse} {B = Call} glimpse_kind (filter (is_on c) w.glimpses) =
    sym (shows.locks.calls.glimpses c) ∙ shown.locks.calls.glimpses c in
    known_of r (filter (is_on c) w.glimpses)
    (subst (All (λ (k : Call). for_request r k ≡ false)) same (told_of r (filter (is_on c) v.glimpses) (some_of r c v.glimpses none))))

-- ---- it goes on

-- the row then, by the kind of target
pub enters_names : (old : ServerState) (at : At) (r : Request) → (old.id == 0) ≡ true → (v : Target) → Shows old v
    → follow v (Enters r ∷ []) (names_go at) ≡ row_enters v at r
enters_names old at r names v shows =
    let w = after v (Enters r) in
    ap (λ (b : Bool). Enters r ∷ (if b then names_go at w else objects_go w at r r.op)) (sym (ap (λ n. n == 0) shows.id ∙ names))

pub enters_objects : (old : ServerState) (at : At) (r : Request) → (old.id == 0) ≡ false → (v : Target) → Shows old v
    → follow v (Enters r ∷ []) (λ w. objects_go w at r r.op) ≡ row_enters v at r
enters_objects old at r objects v shows =
    let w = after v (Enters r) in
    ap (λ (b : Bool). Enters r ∷ (if b then names_go at w else objects_go w at r r.op)) (sym (ap (λ n. n == 0) shows.id ∙ objects))

pub goes_names : (old new : ServerState) (before end : Making) (r : Request) → (old.id == 0) ≡ true
    → Makes (λ v. follow v (Enters r ∷ []) (names_go before.at)) old new before end
    → Makes (λ v. row_enters v before.at r) old new before end
goes_names old new before end r names makes =
    makes_as (λ v. follow v (Enters r ∷ []) (names_go before.at)) (λ v. row_enters v before.at r) old new before end
    (enters_names old before.at r names) makes

pub goes_objects : (old new : ServerState) (before end : Making) (r : Request) → (old.id == 0) ≡ false
    → Makes (λ v. follow v (Enters r ∷ []) (λ w. objects_go w before.at r r.op)) old new before end
    → Makes (λ v. row_enters v before.at r) old new before end
goes_objects old new before end r objects makes =
    makes_as (λ v. follow v (Enters r ∷ []) (λ w. objects_go w before.at r r.op)) (λ v. row_enters v before.at r) old new before end
    (enters_objects old before.at r objects) makes
