-- A lock is released, and those are answered for whom its holder was asked, one after another.
use Rattle.std.proofs.Common.{◌≡◌, ℕ, ◌==◌, ◌&&◌, Bool, true, false, cond, not, List, [], ◌∷◌, ◌++◌, map, filter, Option, Some, None, refl}
use Rattle.std.proofs.Common.{sym, ap, subst, ◌∙◌, arith}
use Rattle.std.specs.Prelude.{if◌then◌else◌, ◌<◌, All, IsSome}
use Rattle.std.proofs.lemmas.Bool.Decides.{nat_tests}
use Rattle.std.proofs.lemmas.List.Elements.{All-filter, All-head, All-tail}
use Rattle.lu_base.specs.declared.ids.At.{At}
use Rattle.lu_base.specs.declared.ids.Who.{Who}
use Rattle.lu_base.specs.declared.ids.Xid.{Xid}
use Rattle.lu_base.specs.declared.locks.Lock.{Lock}
use Rattle.lu_spec_machine.specs.Footprint.{Every}
use Rattle.lu_spec_machine.specs.Objects.{object_touches}
use Rattle.lu_msg.specs.Limits.{tag_count}
use Rattle.lu_msg.specs.declared.answers.Answer.TheVariants as told
use Rattle.lu_msg.specs.declared.messages.Reply.{Reply}
use Rattle.lu_msg.specs.declared.messages.Request.{Request}
use Rattle.lu_msg.specs.declared.operations.Op.{Op}
use Rattle.lu_msg.specs.declared.operations.Op.TheVariants as op
use Rattle.lu_service.specs.declared.services.Kind.{Kind}
use Rattle.lu_service.specs.declared.services.Kind.TheVariants.{Mdt, Ost}
use Rattle.lu_trace.specs.declared.entries.Entry.TheVariants as line
use Rattle.lu_trace.specs.Turns.{Making, with_line}
use Rattle.lu_spec_entries.specs.Carried.{Deed, Glimpse}
use Rattle.lu_spec_entries.specs.Words.{Entry, Release, Answers, Ends, same_life}
use Rattle.lu_spec_target.specs.Lives.{is_life}
use Rattle.lu_spec_target.specs.Locks.{same_request, is_request_of, without_request}
use Rattle.lu_spec_target.specs.Replies.{seen_in, none, reply_to, deed_of, replies}
use Rattle.lu_spec_target.specs.Glimpses.{answered, row_answers, row_locked, glimpses_of, glimpses_end}
use Rattle.lu_spec_target.specs.Requests.{releases}
use Rattle.lu_spec_target.specs.States.{Setting, Target, after, turn}
use Rattle.lu_target_refines.proofs.Lists.{Pairs, every_of, every_map, every_both, every_filter, pairs_of}
use Rattle.lu_target_refines.proofs.Slots.{never}
use Rattle.lu_target_store.specs.Stores.{StoreState, Serves, KeepsDisk, HasTaken, KeepsTaken}
use Rattle.lu_target_store.proofs.Keeping.{serves_slot}
use Rattle.lu_target_locks.specs.declared.departing.Asker.{Asker}
use Rattle.lu_target_locks.specs.declared.departing.EndedLock.{EndedLock}
use Rattle.lu_target_locks.specs.Departing.{asker_of}
use Rattle.lu_target_invariant.specs.Requests.{is_named, request_of}
use Rattle.lu_target_invariant.specs.Sound.{IsAsked, AreApart, AskApart, HasLocksOf, IsSound}
use Rattle.lu_target_invariant.proofs.Glimpses.{sound_releases}
use Rattle.lu_spec_entries.specs.Given.{giving}
use Rattle.lu_target_server.specs.Answering.{Tells, MayRefuse, IsAnswered, others}
use Rattle.lu_target_server.specs.Servers.{ServerState}
use Rattle.lu_target_server.specs.Middles.{ShowsRest, Waits, MakesPart}
use Rattle.lu_target_server.specs.Releases.{MayRelease}
use Rattle.lu_target_server.proofs.Middles.{KeepsContents, keeps_none, keeps_then, contents_kept, serves_stays, IsBeside, beside, waits_of}
use Rattle.lu_target_server.proofs.Middles.{tells_waits, noted, SoFar, so_far_more, so_far_all}

-- ---- what a server in the middle of a row may answer

found_all : (P : Request → Type 0) (who : Who) (xid : Xid) (requests : List Request) (r : Request) → All P requests
    → request_of who xid requests ≡ Some r → P r
found_all P who xid [] r all found = absurd (cc)
found_all P who xid (q ∷ requests) r all found = by (is_named who xid q) found
    (found_all P who xid requests r (All-tail P q requests all)) where
      some_is : Some q ≡ Some r → q ≡ r
      some_is f = cc

      by : (here : Bool) → (if here then Some q else request_of who xid requests) ≡ Some r → (request_of who xid requests ≡ Some r → P r) → P r
      by true found rest = subst P (some_is found) (All-head P q requests all)
      by false found rest = rest found

pub may_refuse : (s : ServerState) (v : Target) (who : Who) (xid : Xid) (r : Request) → Waits s v → request_of who xid s.requests ≡ Some r
    → MayRefuse r s
may_refuse s v who xid r waits found = record {
  slot = serves_slot s.store v r.who waits.store (found_all (λ q. is_life q.who v.lives ≡ true) who xid s.requests r waits.lives found);
  taken = found_all (λ q. HasTaken q.who q.tag s.store) who xid s.requests r waits.taken found;
  tag = found_all (λ q. q.tag < tag_count) who xid s.requests r waits.tags found;
}

-- ---- a glimpse ends

-- its answer reads nothing of the log
nothing_seen : (log : List Deed) → seen_in [] log ≡ []
nothing_seen [] = refl
nothing_seen (d ∷ log) = nothing_seen log

-- so it is the same wherever boot and committed number are
answered_of : (boot committed : ℕ) (at : At) (r : Request) → Deed
answered_of boot committed at r =
    record {
      tag = r.tag;
      op = r.op;
      writes = [];
      reply = record {
        who = r.who;
        boot = boot;
        xid = r.xid;
        txn = none;
        committed = record { 0 = committed };
        seen = [];
        at = at;
        locks = [];
        answer = told.Lock;
      };
    }

answered_is : (v : Target) (at : At) (g : Glimpse) → g.request.op ≡ op.Size g.resource → answered v at g.request told.Lock
    ≡ answered_of v.boot v.committed at g.request
unfolding answered_of
answered_is v at g sizes =
    ap (λ (seen : List ℕ). deed_of g.request [] (reply_to v g.request none seen at [] told.Lock))
    (ap (λ (o : Op). seen_in (object_touches o told.Lock) v.log) sizes ∙ nothing_seen v.log)

answered_same : (v u : Target) (at : At) (g : Glimpse) → g.request.op ≡ op.Size g.resource → KeepsContents v u
    → answered u at g.request told.Lock ≡ answered v at g.request told.Lock
answered_same v u at g sizes keeps =
    answered_is u at g sizes
    ∙ ap (λ (boot : ℕ). answered_of boot u.committed at g.request) keeps.boot
    ∙ ap (λ (committed : ℕ). answered_of v.boot committed at g.request) keeps.committed
    ∙ sym (answered_is v at g sizes)

pub locked_same : (v u : Target) (at : At) (g : Glimpse) → g.request.op ≡ op.Size g.resource → KeepsContents v u → row_locked u at g.request
    ≡ row_locked v at g.request
locked_same v u at g sizes keeps = ap row_answers (answered_same v u at g sizes keeps)

-- store and requests once the glimpse ended and its request was answered
pub waits_answered : (s now : ServerState) (u : Target) (g : Glimpse) (d : Deed) → Waits s u → IsAnswered d.tag d.reply s now
    → Waits now (turn u (Ends g ∷ row_answers d))
waits_answered s now u g d waits is =
    let ended : Target = after u (Ends g) in
    let store : Serves now.store (after ended (Answers d)) = is.store.answers ended d refl refl
    (serves_stays s.store u ended (beside u (Ends g) refl).same waits.store) in
    let test = λ (r : Request). not (is_named d.reply.who d.reply.xid r) in
    let is_now : others d.reply s.requests ≡ now.requests = sym is.requests in
    record {
      boot = waits.boot ∙ ap (λ (it : ServerState). it.boot) (sym is.same);
      store = store;
      requests = ap (without_request d) waits.requests ∙ is_now;
      taken = subst (All (λ (r : Request). HasTaken r.who r.tag now.store)) is_now
          (All-filter test (λ (r : Request). HasTaken r.who r.tag now.store) s.requests
          (λ k x within. is.takes _ _ (waits.taken k x within)));
      lives = subst (All (λ (r : Request). is_life r.who u.lives ≡ true)) is_now
          (All-filter test (λ (r : Request). is_life r.who u.lives ≡ true) s.requests waits.lives);
      tags = subst (All (λ (r : Request). r.tag < tag_count)) is_now
          (All-filter test (λ (r : Request). r.tag < tag_count) s.requests waits.tags);
    }

keeps_answered : (u : Target) (g : Glimpse) (d : Deed) → KeepsContents u (turn u (Ends g ∷ row_answers d))
keeps_answered u g d = record { setting = refl; boot = refl; number = refl; committed = refl; contents = refl }

-- ---- the requests of other glimpses wait still

other_named : (q r x : Request) → same_request q r ≡ false → is_named r.who r.xid x ≡ true → is_named q.who q.xid x ≡ false
other_named q r x apart here = grind (arith, nat_tests)

request_stays : (q : Request) (r : Request) (requests : List Request) → same_request q r ≡ false
    → request_of r.who r.xid (filter (λ x. not (is_named q.who q.xid x)) requests) ≡ request_of r.who r.xid requests
request_stays q r [] apart = refl
request_stays q r (x ∷ requests) apart = by (is_named r.who r.xid x) refl (is_named q.who q.xid x) refl
    (request_stays q r requests apart) where
      by : (own : Bool) → is_named r.who r.xid x ≡ own → (away : Bool) → is_named q.who q.xid x ≡ away
          → request_of r.who r.xid (filter (λ x. not (is_named q.who q.xid x)) requests) ≡ request_of r.who r.xid requests
          → request_of r.who r.xid (cond (not away) (x ∷ filter (λ x. not (is_named q.who q.xid x)) requests)
          (filter (λ x. not (is_named q.who q.xid x)) requests))
          ≡ (if own then Some x else request_of r.who r.xid requests)
      by true e true f more = absurd (never (sym f ∙ other_named q r x apart e))
      by true e false f more = rw e refl
      by false e true f more = more
      by false e false f more = rw e more

asked_still : (queue : List Request) (d : Deed) (g h : Glimpse) → d.reply.who ≡ g.request.who → d.reply.xid ≡ g.request.xid → AskApart g h
    → IsAsked queue h → IsAsked (without_request d queue) h
asked_still queue d g h who xid apart asked = record {
  waits = subst (λ (x : Xid). request_of h.request.who h.request.xid (filter (λ r. not (is_named d.reply.who x r)) queue) ≡ Some h.request)
      (sym xid)
      (subst (λ (w : Who). request_of h.request.who h.request.xid (filter (λ r. not (is_named w g.request.xid r)) queue) ≡ Some h.request)
      (sym who)
      (request_stays g.request h.request queue apart ∙ asked.waits));
  sizes = asked.sizes;
}

-- ---- the glimpses that are left to end

pub record AreEnding (v : Target) (gs : List Glimpse) (s : ServerState) (u : Target) : Type 0 where
  pub waits : Waits s u
  pub keeps : KeepsContents v u
  pub asked : Every (IsAsked u.queue) gs
  pub apart : Pairs AskApart gs

asked_of : (kind : Kind) (v : Target) → IsSound kind v → Every (IsAsked v.queue) v.glimpses × Pairs AskApart v.glimpses
asked_of Mdt v sound = (subst (Every (IsAsked v.queue)) (sym sound.locks.2) tt, subst (Pairs AskApart) (sym sound.locks.2) tt)
asked_of Ost v sound = (every_of (IsAsked v.queue) v.glimpses sound.locks.0, pairs_of AskApart v.glimpses sound.locks.1)

pairs_filter : (R : Glimpse → Glimpse → Type 0) (test : Glimpse → Bool) (gs : List Glimpse) → Pairs R gs → Pairs R (filter test gs)
pairs_filter R test [] pairs = tt
pairs_filter R test (g ∷ gs) pairs = by (test g) (pairs_filter R test gs pairs.1) where
  by : (stays : Bool) → Pairs R (filter test gs) → Pairs R (cond stays (g ∷ filter test gs) (filter test gs))
  by true rest = (every_filter (R g) test gs pairs.0, rest)
  by false rest = rest

-- the line of the release
pub ending_all : (s : ServerState) (v : Target) (l : Lock) → ShowsRest s v → AreEnding v (glimpses_of l v.glimpses) s (after v (Release l))
ending_all s v l rest =
    let asked = asked_of s.kind v rest.sound in
    let waits = waits_of s v rest in
    let test = λ (g : Glimpse). g.cookie.0 == l.cookie.0 in
    record {
      waits = record {
        boot = waits.boot;
        store = serves_stays s.store v (after v (Release l)) (beside v (Release l) refl).same waits.store;
        requests = waits.requests;
        taken = waits.taken;
        lives = waits.lives;
        tags = waits.tags;
      };
      keeps = record { setting = refl; boot = refl; number = refl; committed = refl; contents = refl };
      asked = every_filter (IsAsked v.queue) test v.glimpses asked.0;
      apart = pairs_filter AskApart test v.glimpses asked.1;
    }

-- one more is answered
pub ending_next : (v : Target) (at : At) (g : Glimpse) (gs : List Glimpse) (s now : ServerState) (u : Target) → AreEnding v (g ∷ gs) s u
    → IsAnswered g.request.tag (answered u at g.request told.Lock).reply s now
    → AreEnding v gs now (turn u (Ends g ∷ row_locked v at g.request))
ending_next v at g gs s now u ending is =
    let d : Deed = answered u at g.request told.Lock in
    let next : Target = turn u (Ends g ∷ row_answers d) in
    let there : AreEnding v gs now next = record {
      waits = waits_answered s now u g d ending.waits is;
      keeps = keeps_then v u next ending.keeps (keeps_answered u g d);
      asked = every_map (λ h. AskApart g h × IsAsked u.queue h) (IsAsked next.queue)
          (λ h both. asked_still u.queue d g h refl refl both.0 both.1) gs
          (every_both (AskApart g) (IsAsked u.queue) gs ending.apart.0 ending.asked.1);
      apart = ending.apart.1;
    } in
    subst (λ (es : List Entry). AreEnding v gs now (turn u (Ends g ∷ es))) (locked_same v u at g ending.asked.0.sizes ending.keeps) there

-- ---- all of it

pub released_part : (old now : ServerState) (v : Target) (at : At) (l : Lock) (before afterwards : Making) → ShowsRest old v
    → AreEnding v [] now (turn v (releases at l v))
    → afterwards ≡ giving before (releases at l v) → now ≡ record old { store = now.store; requests = now.requests }
    → MakesPart (releases at l v) v old now before afterwards
released_part old now v at l before afterwards rest ending gives same =
    let w : Target = turn v (releases at l v) in
    let setting = ending.keeps.setting in
    let there : ShowsRest (record old { store = now.store; requests = now.requests }) w = record {
      id = ap (λ (it : Setting). it.id) setting ∙ rest.id;
      kind = rest.kind;
      expire = ap (λ (it : Setting). it.expire) setting ∙ rest.expire;
      boot = ending.keeps.boot ∙ rest.boot;
      store = ending.waits.store;
      contents = contents_kept old.kind old.contents v w ending.keeps rest.contents;
      requests = ending.waits.requests;
      taken = ending.waits.taken;
      sound = sound_releases old.kind at l v rest.sound;
    } in
    record {
      gives = gives;
      shows = subst (λ (it : ServerState). ShowsRest it w) (sym same) there;
      locks = ap (λ (it : ServerState). it.locks) same;
    }

-- ---- the loop

-- the line of the release is there
pub release_begins : (s : ServerState) (v : Target) (ended : EndedLock) (before between : Making) → MayRelease ended s v → between.at
    ≡ before.at
    → between.step ≡ with_line before.at before.step (line.Release ended.lock.cookie)
    → (let gs = glimpses_of ended.lock v.glimpses in SoFar (AreEnding v gs) (releases before.at ended.lock v)
    (λ _. glimpses_end before.at gs v) v s before between)
release_begins s v ended before between may at step = record {
  es = Release ended.lock ∷ [];
  gives = noted before between (Release ended.lock) (line.Release ended.lock.cookie) refl refl at step;
  whole = refl;
  shows = ending_all s v ended.lock may.rest;
}

found_there : (s : ServerState) (u : Target) (g : Glimpse) (asker : Asker) → asker ≡ asker_of g → Waits s u → IsAsked u.queue g
    → request_of asker.who asker.xid s.requests ≡ Some g.request
found_there s u g asker is waits asked =
    ap (λ (a : Asker). request_of a.who a.xid s.requests) is ∙ ap (request_of g.request.who g.request.xid) (sym waits.requests)
    ∙ asked.waits

-- one asker more is answered
pub release_goes :
    (s now : ServerState) (v : Target) (l : Lock) (gs left : List Glimpse) (g : Glimpse) (more : List Glimpse) (asker : Asker)
    (before between afterwards : Making) → left ≡ g ∷ more → asker ≡ asker_of g
    → SoFar (AreEnding v left) (releases before.at l v) (λ _. glimpses_end before.at left v) v s before between
    → ((u : Target) (r : Request) → Tells s u → request_of asker.who asker.xid s.requests ≡ Some r → afterwards
    ≡ giving between (row_locked u between.at r))
    → ((u : Target) (r : Request) → Tells s u → request_of asker.who asker.xid s.requests ≡ Some r
    → IsAnswered r.tag (answered u between.at r told.Lock).reply s now)
    → SoFar (AreEnding v more) (releases before.at l v) (λ _. glimpses_end before.at more v) v now before afterwards
release_goes s now v l gs left g more asker before between afterwards is_left is_asker so_far sent is_answered =
    let at : between.at ≡ before.at = ap (λ (making : Making). making.at) so_far.gives in
    let u : Target = turn v so_far.es in
    let ending : AreEnding v (g ∷ more) s u = subst (λ (all : List Glimpse). AreEnding v all s u) is_left so_far.shows in
    let found : request_of asker.who asker.xid s.requests ≡ Some g.request = found_there s u g asker is_asker ending.waits ending.asked.0 in
    let tells : Tells s u = tells_waits s u ending.waits in
    let step : List Entry = Ends g ∷ row_locked v before.at g.request in
    let gives : afterwards ≡ giving between step =
    sent u g.request tells found ∙ ap (λ (it : At). giving between (row_locked u it g.request)) at
    ∙ ap (giving between) (locked_same v u before.at g ending.asked.0.sizes ending.keeps) in
    let reply : IsAnswered g.request.tag (answered u before.at g.request told.Lock).reply s now =
    subst (λ (it : At). IsAnswered g.request.tag (answered u it g.request told.Lock).reply s now) at (is_answered u g.request tells found)
    in
    so_far_more (AreEnding v left) (AreEnding v more) (releases before.at l v) (λ _. glimpses_end before.at left v)
    (λ _. glimpses_end before.at more v) v s now before between afterwards so_far step gives
    (ap (λ (all : List Glimpse). glimpses_end before.at all v) is_left) (ending_next v before.at g more s now u ending reply)

-- all are answered
pub release_ends : (s now : ServerState) (v : Target) (ended : EndedLock) (left : List Glimpse) (before afterwards : Making)
    → MayRelease ended s v → left ≡ []
    → SoFar (AreEnding v left) (releases before.at ended.lock v) (λ _. glimpses_end before.at left v) v now before afterwards
    → now ≡ record s { store = now.store; requests = now.requests } → MakesPart (releases before.at ended.lock v) v s now before afterwards
release_ends s now v ended left before afterwards may none so_far same =
    let all = so_far_all (AreEnding v left) (releases before.at ended.lock v) (λ _. glimpses_end before.at left v) v now before afterwards
    so_far (ap (λ (gs : List Glimpse). glimpses_end before.at gs v) none) in
    released_part s now v before.at ended.lock before afterwards may.rest
    (subst (λ (gs : List Glimpse). AreEnding v gs now (turn v (releases before.at ended.lock v))) none all.1) all.0 same

-- ---- what stays

pub disk_then : (a b c : StoreState) → KeepsDisk a b → KeepsDisk b c → KeepsDisk a c
disk_then a b c one two = record { batches = two.batches ∙ one.batches; faults = two.faults ∙ one.faults }

pub store_then : (a b c : ServerState) → b ≡ record a { store = b.store; requests = b.requests } → c
    ≡ record b { store = c.store; requests = c.requests } → c ≡ record a { store = c.store; requests = c.requests }
store_then a b c one two = two ∙ ap (λ (it : ServerState). record it { store = c.store; requests = c.requests }) one

-- the same of a request that is answered, whichever it is
pub answered_same_rest :
    (s now : ServerState) (u : Target) (g : Glimpse) (asker : Asker) (between : Making) → asker ≡ asker_of g → Waits s u → IsAsked u.queue g
    → ((u : Target) (r : Request) → Tells s u → request_of asker.who asker.xid s.requests ≡ Some r
    → IsAnswered r.tag (answered u between.at r told.Lock).reply s now)
    → now ≡ record s { store = now.store; requests = now.requests }
answered_same_rest s now u g asker between is waits asked is_answered =
    (is_answered u g.request (tells_waits s u waits) (found_there s u g asker is waits asked)).same
