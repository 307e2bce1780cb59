-- What a server of objects shows once a request of its list was answered.
use Rattle.std.proofs.Common.{◌≡◌, ℕ, ◌==◌, ◌&&◌, Bool, true, false, not, Some, List, [], ◌∷◌, ◌++◌, All, refl, sym, ap, subst, ◌∙◌}
use Rattle.std.specs.List.{list_any}
use Rattle.std.proofs.lemmas.List.Elements.{All-nil, All-head, All-tail}
use Rattle.lu_base.specs.declared.ids.Cookie.{Cookie}
use Rattle.lu_base.specs.declared.ids.Who.{Who}
use Rattle.lu_base.specs.declared.ids.Xid.{Xid}
use Rattle.lu_base.specs.declared.locks.Lock.{Lock}
use Rattle.lu_base.specs.declared.locks.Resource.{Resource}
use Rattle.lu_msg.specs.declared.messages.Request.{Request}
use Rattle.lu_msg.specs.declared.operations.Op.TheVariants as op
use Rattle.lu_service.specs.declared.services.Kind.{Kind}
use Rattle.lu_service.specs.declared.services.Kind.TheVariants.{Ost}
use Rattle.lu_spec_entries.specs.Carried.{Deed, Glimpse, Contents as Read}
use Rattle.lu_spec_entries.specs.Words.{Entry, Act, Answers, Asks, Ends, Grant, Wait}
use Rattle.lu_spec_target.specs.Glimpses.{row_asks}
use Rattle.lu_spec_target.specs.Locks.{same_request, with_locks, without_request}
use Rattle.lu_spec_target.specs.Phase.{greatest_cookie}
use Rattle.lu_spec_target.specs.Queues.{conflicting, blocks_go}
use Rattle.lu_spec_target.specs.Replies.{locks_on, blocks}
use Rattle.lu_spec_target.specs.States.{Setting, Target, after, turn}
use Rattle.lu_target_refines.specs.Callbacks.{is_glimpse, is_of_lock}
use Rattle.lu_target_refines.specs.Unread.{AreTheSame}
use Rattle.lu_target_locks.specs.Asking.{IsGlimpsed}
use Rattle.lu_target_locks.specs.Servers as locking
use Rattle.lu_target_locks.specs.Servers.{AreCalledBack}
use Rattle.lu_target_redo.specs.Shown as redo
use Rattle.lu_target_invariant.specs.Requests.{request_of}
use Rattle.lu_target_invariant.specs.Sound.{IsTaken, IsOfLife, IsSound}
use Rattle.lu_target_invariant.proofs.Blocks.{sound_blocks_go}
use Rattle.lu_target_invariant.proofs.Entries.{ReadsOnly, reads_none, none_asks, sound_act, sound_answers, sound_asks, sound_ends}
use Rattle.lu_target_invariant.proofs.Entries.{sound_granted, sound_waits}
use Rattle.lu_target_invariant.proofs.Requests.{found_holds}
use Rattle.lu_target_invariant.proofs.Taken.{NoneAsks}
use Rattle.lu_target_store.specs.Stores.{StoreState, Serves, HasTaken, KeepsTaken}
use Rattle.lu_target_store.proofs.Keeping.{serves_slot}
use Rattle.lu_target_server.specs.Answering.{MayRefuse, IsAnswered, others}
use Rattle.lu_target_server.specs.Servers.{ServerState, Shows, IsUnasked}
use Rattle.lu_target_server.proofs.Composing.{turn_more}
use Rattle.lu_target_server.proofs.Staying.{serves_same, locks_still, taken_still, blocks_change}

-- ---- a request that waits

pub waits_there : (s : ServerState) (v : Target) (r : Request) → Shows s v → request_of r.who r.xid s.requests ≡ Some r
    → request_of r.who r.xid v.queue ≡ Some r
waits_there s v r shows waits = ap (request_of r.who r.xid) shows.requests ∙ waits

pub is_taken : (s : ServerState) (v : Target) (r : Request) → Shows s v → request_of r.who r.xid s.requests ≡ Some r → IsTaken s.kind v r
is_taken s v r shows waits = found_holds (IsTaken s.kind v) r.who r.xid v.queue r shows.sound.queue (waits_there s v r shows waits)

-- it may be answered, under whatever name it is found
pub may_refuse_found : (s : ServerState) (v : Target) (who : Who) (xid : Xid) (r : Request) → Shows s v → request_of who xid s.requests
    ≡ Some r → MayRefuse r s
may_refuse_found s v who xid r shows waits =
    let taken : IsTaken s.kind v r = found_holds (IsTaken s.kind v) who xid v.queue r shows.sound.queue
    (ap (request_of who xid) shows.requests ∙ waits) in
    record {
      slot = serves_slot s.store v r.who shows.store taken.life;
      taken = found_holds (λ q. HasTaken q.who q.tag s.store) who xid s.requests r shows.taken waits;
      tag = taken.tag;
    }

pub may_refuse : (s : ServerState) (v : Target) (r : Request) → Shows s v → request_of r.who r.xid s.requests ≡ Some r → MayRefuse r s
may_refuse s v r shows waits = may_refuse_found s v r.who r.xid r shows waits

-- also where locks have changed since
pub may_refuse_middle : (s middle : ServerState) (v : Target) (who : Who) (xid : Xid) (r : Request) → middle
    ≡ record s { locks = middle.locks } → Shows s v
    → request_of who xid middle.requests ≡ Some r → MayRefuse r middle
may_refuse_middle s middle v who xid r mid shows waits =
    let may : MayRefuse r s = may_refuse_found s v who xid r shows
    (sym (ap (λ (x : ServerState). request_of who xid x.requests) mid) ∙ waits) in
    subst (MayRefuse r) (sym mid) (record { slot = may.slot; taken = may.taken; tag = may.tag })

-- ---- what else stays

-- an entry that answers a request so and changes no contents
pub record Leaves (d : Deed) (v w : Target) : Type 0 where
  pub setting : w.setting ≡ v.setting
  pub boot : w.boot ≡ v.boot
  pub number : w.number ≡ v.number
  pub contents : w.contents ≡ v.contents
  pub queue : w.queue ≡ without_request d v.queue

-- The locks may have changed before.
pub shows_answered : (tag : ℕ) (d : Deed) (before middle new : ServerState) (v w : Target)
    → Shows before v → middle ≡ record before { locks = middle.locks } → IsAnswered tag d.reply middle new
    → Leaves d v w → Serves new.store w → locking.Shows middle.locks w → IsSound before.kind w → Shows new w
shows_answered tag d before middle new v w shows mid is leaves store locks sound =
    let whole : record before { locks = middle.locks; store = new.store; requests = new.requests } ≡ new =
    sym (is.same ∙ ap (λ (s : ServerState). record s { store = new.store; requests = new.requests }) mid) in
    let requests : others d.reply before.requests ≡ new.requests =
    sym (is.requests ∙ ap (λ (s : ServerState). others d.reply s.requests) mid) in
    let stores : middle.store ≡ before.store = ap (λ (s : ServerState). s.store) mid in
    let keeps : KeepsTaken before.store new.store = subst (λ (s : StoreState). KeepsTaken s new.store) stores is.takes in
    let setting : redo.Shows before.kind w.setting.osts v.number before.contents v.contents =
    subst (λ (s : Setting). redo.Shows before.kind s.osts v.number before.contents v.contents) (sym leaves.setting) shows.contents in
    let number : redo.Shows before.kind w.setting.osts w.number before.contents v.contents =
    subst (λ n. redo.Shows before.kind w.setting.osts n before.contents v.contents) (sym leaves.number) setting in
    let all : Shows (record before { locks = middle.locks; store = new.store; requests = new.requests }) w = record {
      id = ap (λ (s : Setting). s.id) leaves.setting ∙ shows.id;
      kind = shows.kind;
      expire = ap (λ (s : Setting). s.expire) leaves.setting ∙ shows.expire;
      boot = leaves.boot ∙ shows.boot;
      store = store;
      locks = locks;
      contents = subst (λ (c : Read). redo.Shows before.kind w.setting.osts w.number before.contents c) (sym leaves.contents) number;
      requests = leaves.queue ∙ ap (without_request d) shows.requests ∙ requests;
      taken = subst (All (λ q. HasTaken q.who q.tag new.store)) requests
          (taken_still d.reply before.store new.store before.requests keeps shows.taken);
      sound = sound;
    } in
    subst (λ (s : ServerState). Shows s w) whole all

-- ---- answers, with and without a line

module _ (before new : ServerState) (v : Target) (r : Request) (d : Deed) (objects : before.kind ≡ Ost) (unasked : IsUnasked r before)
    (tag : d.tag ≡ r.tag) (who : d.reply.who ≡ r.who)
    (xid : d.reply.xid ≡ r.xid) where
  none : Shows before v → NoneAsks d v.glimpses
  none shows = none_asks d r v.glimpses who xid (unasked v shows)

  pub shows_answers : Shows before v → IsAnswered r.tag d.reply before new → Shows new (after v (Answers d))
  shows_answers shows is =
      let w = after v (Answers d) in
      shows_answered r.tag d before before new v w shows refl is
      (record { setting = refl; boot = refl; number = refl; contents = refl; queue = refl })
      (is.store.answers v d tag refl shows.store) (locks_still before.locks v w refl refl refl refl refl refl refl shows.locks)
      (sound_answers before.kind v d (none shows) shows.sound)

  pub shows_acts : d.reply.locks ≡ [] → Shows before v → IsAnswered r.tag d.reply before new → Shows new (after v (Act d))
  shows_acts no_locks shows is =
      let w = after v (Act d) in
      let granted : w.granted ≡ v.granted = ap (λ (ls : List Lock). with_locks ls v.granted) no_locks in
      let cookie : w.cookie ≡ v.cookie = ap (greatest_cookie v.cookie) no_locks in
      shows_answered r.tag d before before new v w shows refl is
      (record { setting = refl; boot = refl; number = refl; contents = refl; queue = refl })
      (is.store.acts v d tag refl shows.store)
      (locks_still before.locks v w granted refl refl refl cookie refl refl shows.locks)
      (sound_act before.kind v d (subst (ReadsOnly before.kind) (sym no_locks) (reads_none before.kind))
      (subst (All (IsOfLife v.lives)) (sym no_locks) (All-nil (IsOfLife v.lives))) (none shows) shows.sound)

  pub shows_grants : (l : Lock) → IsOfLife v.lives l → (middle : ServerState) → middle ≡ record before { locks = middle.locks }
      → locking.Shows middle.locks (after v (Grant l (Some d)))
      → Shows before v → IsAnswered r.tag d.reply middle new → Shows new (after v (Grant l (Some d)))
  shows_grants l own middle mid locks shows is =
      let w = after v (Grant l (Some d)) in
      shows_answered r.tag d before middle new v w shows mid is
      (record { setting = refl; boot = refl; number = refl; contents = refl; queue = refl })
      (is.store.grants v l d tag refl (subst (λ (s : ServerState). Serves s.store v) (sym mid) shows.store)) locks
      (sound_granted before.kind v l d (subst (λ (k : Kind). ReadsOnly k (l ∷ [])) (sym objects) tt) own (none shows) shows.sound)

  pub shows_waits : (l : Lock) → IsOfLife v.lives l → (middle : ServerState) → middle ≡ record before { locks = middle.locks }
      → locking.Shows middle.locks (after v (Wait l d))
      → Shows before v → IsAnswered r.tag d.reply middle new → Shows new (after v (Wait l d))
  shows_waits l own middle mid locks shows is =
      let w = after v (Wait l d) in
      shows_answered r.tag d before middle new v w shows mid is
      (record { setting = refl; boot = refl; number = refl; contents = refl; queue = refl })
      (is.store.waits v l d tag refl (subst (λ (s : ServerState). Serves s.store v) (sym mid) shows.store)) locks
      (subst (λ (k : Kind). IsSound k w) (sym objects) (sound_waits v l d own (none shows)
      (subst (λ (k : Kind). IsSound k v) objects shows.sound)))

-- ---- entries after which only locks and what was asked of their holders differ

pub shows_locks : (s new : ServerState) (v w : Target) → new ≡ record s { locks = new.locks } → AreTheSame v w → w.contents ≡ v.contents
    → w.queue ≡ v.queue
    → locking.Shows new.locks w → IsSound s.kind w → Shows s v → Shows new w
shows_locks s new v w is same contents queue locks sound shows =
    let setting : redo.Shows s.kind w.setting.osts v.number s.contents v.contents =
    subst (λ (x : Setting). redo.Shows s.kind x.osts v.number s.contents v.contents) (sym same.setting) shows.contents in
    let number : redo.Shows s.kind w.setting.osts w.number s.contents v.contents =
    subst (λ n. redo.Shows s.kind w.setting.osts n s.contents v.contents) (sym same.number) setting in
    let all : Shows (record s { locks = new.locks }) w = record {
      id = ap (λ (x : Setting). x.id) same.setting ∙ shows.id;
      kind = shows.kind;
      expire = ap (λ (x : Setting). x.expire) same.setting ∙ shows.expire;
      boot = same.boot ∙ shows.boot;
      store = serves_same s.store v w same shows.store;
      locks = locks;
      contents = subst (λ (c : Read). redo.Shows s.kind w.setting.osts w.number s.contents c) (sym contents) number;
      requests = queue ∙ shows.requests;
      taken = shows.taken;
      sound = sound;
    } in
    subst (λ (x : ServerState). Shows x w) (sym is) all

-- ---- locks are called back

only_called_all : (waiting : List Lock) (v : Target) → turn v (blocks_go waiting v)
    ≡ record v { called = (turn v (blocks_go waiting v)).called }
only_called_all [] v = refl
only_called_all (l ∷ waiting) v =
    let es : List Entry = blocks v (conflicting v l) in
    let w : Target = turn v es in
    let more : turn v (es ++ blocks_go waiting w) ≡ turn w (blocks_go waiting w) = turn_more v es (blocks_go waiting w) in
    more ∙ only_called_all waiting w
    ∙ ap (λ (x : Target). record x { called = (turn w (blocks_go waiting w)).called }) (blocks_change v v (conflicting v l))
    ∙ ap (λ (x : Target). record v { called = x.called }) (sym more)

pub shows_called : (resource : Resource) (locks : List Lock) (s new : ServerState) (v : Target) → new ≡ record s { locks = new.locks }
    → AreCalledBack resource locks s.locks new.locks
    → Shows s v → Shows new (turn v (blocks_go (locks_on resource v.waiting) v))
shows_called resource locks s new v is called shows =
    let w : Target = turn v (blocks_go (locks_on resource v.waiting) v) in
    let only : w ≡ record v { called = w.called } = only_called_all (locks_on resource v.waiting) v in
    shows_locks s new v w is
    (subst (AreTheSame v) (sym only) (record {
      setting = refl;
      boot = refl;
      number = refl;
      lives = refl;
      removed = refl;
      slots = refl;
      log =
          refl;
      committed = refl;
      disk = refl;
    }))
    (ap (λ (x : Target). x.contents) only) (ap (λ (x : Target). x.queue) only) (called.shows v shows.locks)
    (sound_blocks_go s.kind (locks_on resource v.waiting) v v shows.sound) shows

-- ---- glimpses

pub shows_asks : (s new : ServerState) (v : Target) (r : Request) (resource : Resource) (l : Lock) (fresh : Bool) → s.kind ≡ Ost → new
    ≡ record s { locks = new.locks }
    → IsGlimpsed l.cookie r.who r.xid fresh s.locks new.locks → request_of r.who r.xid s.requests ≡ Some r → r.op ≡ op.Size resource
    → IsUnasked r s
    → list_any (is_of_lock l.cookie) v.granted ≡ true → Shows s v → Shows new (turn v (row_asks v r resource l))
shows_asks s new v r resource l fresh objects is asked waits sizes unasked held shows =
    let g : Glimpse = record { cookie = l.cookie; resource = resource; request = r } in
    let w : Target = after v (Asks g) in
    let none : list_any (is_glimpse l.cookie r.who r.xid) v.glimpses ≡ false = none_for l.cookie r v.glimpses (unasked v shows) in
    let first : fresh ≡ true = asked.is_new v shows.locks ∙ ap not none in
    shows_locks s new v w is (record {
      setting = refl;
      boot = refl;
      number = refl;
      lives = refl;
      removed = refl;
      slots = refl;
      log = refl;
      committed = refl;
      disk = refl;
    }) refl refl
    (asked.shows v r resource l shows.locks refl refl refl held first)
    (subst (λ (k : Kind). IsSound k w) (sym objects)
    (sound_asks v g (record { waits = waits_there s v r shows waits; sizes = sizes }) (unasked v shows)
    (subst (λ (k : Kind). IsSound k v) objects shows.sound)))
    shows
  where
    none_for : (cookie : Cookie) (r : Request) (gs : List Glimpse) → All (λ g. same_request g.request r ≡ false) gs
        → list_any (is_glimpse cookie r.who r.xid) gs ≡ false
    none_for cookie r [] apart = refl
    none_for cookie r (g ∷ gs) apart =
        let other : same_request g.request r ≡ false = All-head (λ (x : Glimpse). same_request x.request r ≡ false) g gs apart in
        let here : is_glimpse cookie r.who r.xid g ≡ false = ap (λ b. g.cookie.0 == cookie.0 && b) other ∙ last (g.cookie.0 == cookie.0) in
        rw here (none_for cookie r gs (All-tail (λ (x : Glimpse). same_request x.request r ≡ false) g gs apart))
      where
        last : (b : Bool) → (b && false) ≡ false
        last true = refl
        last false = refl

-- one has an answer
pub shows_ends : (s new : ServerState) (v : Target) (g : Glimpse) → new ≡ record s { locks = new.locks }
    → locking.Shows new.locks (after v (Ends g)) → Shows s v → Shows new (after v (Ends g))
shows_ends s new v g is locks shows =
    shows_locks s new v (after v (Ends g)) is (record {
      setting = refl;
      boot = refl;
      number = refl;
      lives = refl;
      removed = refl;
      slots =
          refl;
      log = refl;
      committed = refl;
      disk = refl;
    }) refl refl
    locks (sound_ends s.kind v g shows.sound) shows
