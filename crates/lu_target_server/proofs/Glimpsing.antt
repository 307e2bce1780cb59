-- How a server of objects makes its rows of glimpses: from what its calls tell, and from what it shows then.
use Rattle.std.proofs.Common.{◌≡◌, ℕ, ◌==◌, ◌&&◌, ◌||◌, Bool, true, false, cond, nat_lt, Option, Some, None, is_some, List, [], ◌∷◌, All}
use Rattle.std.proofs.Common.{refl, sym, ap, subst, ◌∙◌, arith}
use Rattle.std.specs.Prelude.{if◌then◌else◌}
use Rattle.std.specs.List.{list_any}
use Rattle.std.proofs.lemmas.Bool.{eqb-true}
use Rattle.std.proofs.lemmas.Bool.Decides.{nat_tests}
use Rattle.std.proofs.lemmas.List.Elements.{All-head, All-tail}
use Rattle.lu_base.specs.declared.ids.At.{At}
use Rattle.lu_base.specs.declared.ids.Who.{Who}
use Rattle.lu_base.specs.declared.ids.Xid.{Xid}
use Rattle.lu_base.specs.declared.locks.Lock.{Lock}
use Rattle.lu_base.specs.declared.locks.Mode.TheVariants.{PW}
use Rattle.lu_base.specs.declared.locks.Resource.{Resource}
use Rattle.lu_held.specs.Locks.{same_resource}
use Rattle.lu_lock.specs.Growth.{the_end}
use Rattle.lu_lock.specs.Modes.{serves}
use Rattle.lu_spec_machine.specs.Objects.{Object, object_size}
use Rattle.lu_msg.specs.declared.answers.Answer.{Answer}
use Rattle.lu_msg.specs.declared.answers.Answer.TheVariants as told
use Rattle.lu_msg.specs.declared.messages.Message.TheVariants as message
use Rattle.lu_msg.specs.declared.messages.Request.{Request}
use Rattle.lu_msg.specs.declared.messages.SizeReport.{SizeReport}
use Rattle.lu_msg.specs.declared.operations.Op.TheVariants as op
use Rattle.lu_service.specs.declared.services.Kind.{Kind}
use Rattle.lu_service.specs.declared.services.Kind.TheVariants.{Mdt, Ost}
use Rattle.lu_service.specs.Contents as service
use Rattle.lu_trace.specs.Turns.{Making}
use Rattle.lu_spec_entries.specs.Carried.{Deed, Glimpse}
use Rattle.lu_spec_entries.specs.Words.{Answers, Ends, same_life}
use Rattle.lu_spec_target.specs.Glimpses.{answered, row_answers, row_sizes, row_locked, row_size, row_asks, ask_of, row_report, row_holder}
use Rattle.lu_spec_target.specs.Glimpses.{asked_for, higher, highest}
use Rattle.lu_spec_target.specs.Queues.{size_of, extent_of}
use Rattle.lu_spec_target.specs.Replies.{locks_on, to_life}
use Rattle.lu_spec_target.specs.States.{Target, after, turn}
use Rattle.lu_spec_target.specs.Stored.{object_in}
use Rattle.lu_target_refines.specs.Callbacks.{is_of_lock}
use Rattle.lu_target_refines.proofs.Objects.{object_is}
use Rattle.lu_target_refines.proofs.Slots.{both, one_life}
use Rattle.lu_target_locks.specs.Asking.{IsGlimpsed}
use Rattle.lu_target_locks.specs.Servers as locking
use Rattle.lu_target_invariant.specs.Requests.{request_of}
use Rattle.lu_target_invariant.specs.Sound.{IsAsked, IsSound}
use Rattle.lu_target_invariant.proofs.Glimpses.{sound_report}
use Rattle.lu_target_store.specs.Stores.{Serves}
use Rattle.lu_target_server.specs.Answering.{Tells, IsAnswered}
use Rattle.lu_spec_entries.specs.Given.{giving}
use Rattle.lu_target_server.specs.Objects.{AsksSize}
use Rattle.lu_target_server.specs.Servers.{ServerState, Shows, Makes, IsUnasked}
use Rattle.lu_target_server.proofs.Composing.{makes_as, makes_nothing, objects_shown}
use Rattle.lu_target_server.proofs.Staying.{serves_same, locks_still}
use Rattle.lu_target_server.proofs.AnsweredObjects.{shows_answered, shows_asks}
use Rattle.lu_target_server.proofs.ObjectRows.{makes_answers, makes_sizes, tells_middle}

-- ---- the size that the target tells

pub size_shown : (old : ServerState) (v : Target) (resource : Resource) (size : ℕ) → old.kind ≡ Ost → Shows old v → size
    ≡ object_size (service.object_in old.contents.objects resource)
    → size ≡ size_of v resource
size_shown old v resource size objects shows e =
    e ∙ ap object_size (object_is old.contents.objects resource)
    ∙ ap (λ (es : List (Resource × Object)). object_size (object_in es resource)) (objects_shown old v objects shows).1

-- the target says it
pub makes_said :
    (old new : ServerState) (begun done : Making) (r : Request) (at : At) (resource : Resource) (size : ℕ) (top : Option Lock)
    → IsUnasked r old → old.kind ≡ Ost
    → size ≡ object_size (service.object_in old.contents.objects resource)
    → ((v : Target) → Shows old v → top ≡ highest (locks_on resource v.granted))
    → ((v : Target) → size_of v resource ≡ size → row_size v at r resource top
    ≡ row_sizes (answered v at r (told.Size (size_of v resource))))
    → ((v : Target) → Shows old v → done ≡ giving begun (row_sizes (answered v at r (told.Size size))))
    → ((v : Target) → Shows old v → IsAnswered r.tag (answered v at r (told.Size size)).reply old new)
    → Makes (λ v. row_size v at r resource (highest (locks_on resource v.granted))) old new begun done
makes_said old new begun done r at resource size top unasked objects is tops says sent answers =
    makes_as (λ v. row_sizes (answered v at r (told.Size size))) (λ v. row_size v at r resource (highest (locks_on resource v.granted))) old
    new begun done
    (λ v shows. let shown : size ≡ size_of v resource = size_shown old v resource size objects shows is in
    ap (λ n. row_sizes (answered v at r (told.Size n))) shown ∙ sym (says v (sym shown)) ∙ ap (row_size v at r resource) (tops v shows))
    (makes_sizes old new begun done r at (λ v. told.Size size) unasked objects sent answers)

-- the write lock of greatest start ends before the object does
pub ends_before : (v : Target) (at : At) (r : Request) (resource : Resource) (l : Lock) → ((extent_of l).last == the_end) ≡ false
    → nat_lt (extent_of l).last (size_of v resource) ≡ true
    → row_size v at r resource (Some l) ≡ row_sizes (answered v at r (told.Size (size_of v resource)))
ends_before v at r resource l short less =
    ap (λ b. if b then row_asks v r resource l else (if nat_lt (extent_of l).last (size_of v resource)
    then row_sizes (answered v at r (told.Size (size_of v resource))) else row_locked v at r)) short
    ∙ ap (λ b. if b then row_sizes (answered v at r (told.Size (size_of v resource))) else row_locked v at r) less

-- the asker is told to take a lock
pub makes_locked :
    (old new : ServerState) (begun done : Making) (r : Request) (at : At) (resource : Resource) (size : ℕ) (l : Lock) → IsUnasked r old
    → old.kind ≡ Ost
    → size ≡ object_size (service.object_in old.contents.objects resource)
    → ((v : Target) → Shows old v → Some l ≡ highest (locks_on resource v.granted))
    → ((extent_of l).last == the_end) ≡ false → nat_lt (extent_of l).last size ≡ false
    → ((v : Target) → Shows old v → done ≡ giving begun (row_locked v at r))
    → ((v : Target) → Shows old v → IsAnswered r.tag (answered v at r told.Lock).reply old new)
    → Makes (λ v. row_size v at r resource (highest (locks_on resource v.granted))) old new begun done
makes_locked old new begun done r at resource size l unasked objects is tops short least sent answers =
    makes_as (λ v. row_locked v at r) (λ v. row_size v at r resource (highest (locks_on resource v.granted))) old new begun done
    (λ v shows. sym (
    ap (row_size v at r resource) (sym (tops v shows))
    ∙ ap (λ b. if b then row_asks v r resource l else (if nat_lt (extent_of l).last (size_of v resource)
    then row_sizes (answered v at r (told.Size (size_of v resource))) else row_locked v at r)) short
    ∙ ap (λ b. if b then row_sizes (answered v at r (told.Size (size_of v resource))) else row_locked v at r)
    (ap (nat_lt (extent_of l).last) (sym (size_shown old v resource size objects shows is)) ∙ least)))
    (makes_answers old new begun done r at (λ v. told.Lock) unasked objects sent answers)

-- ---- the holder of a lock is asked

or_true : (a b : Bool) → b ≡ true → (a || b) ≡ true
or_true true b h = refl
or_true false b h = h

some_on : (test : Lock → Bool) (r : Resource) (locks : List Lock) → list_any test (locks_on r locks) ≡ true → list_any test locks ≡ true
some_on test r [] some = some
some_on test r (l ∷ locks) some = by (same_resource l.resource r) some (some_on test r locks) where
  by : (on : Bool) → list_any test (cond on (l ∷ locks_on r locks) (locks_on r locks)) ≡ true
      → (list_any test (locks_on r locks) ≡ true → list_any test locks ≡ true)
      → (test l || list_any test locks) ≡ true
  by false h rest = or_true (test l) (list_any test locks) (rest h)
  by true h rest = inner (test l) h where
    inner : (t : Bool) → (t || list_any test (locks_on r locks)) ≡ true → (t || list_any test locks) ≡ true
    inner true g = refl
    inner false g = rest g

itself : (l : Lock) → is_of_lock l.cookie l ≡ true
itself l = grind (arith, nat_tests)

top_there : (locks : List Lock) (l : Lock) → highest locks ≡ Some l → list_any (is_of_lock l.cookie) locks ≡ true
top_there [] l top = absurd (cc)
top_there (k ∷ locks) l top = by (serves k.ask.mode PW) (top_there locks l) top where
  own : k ≡ l → (is_of_lock l.cookie k || list_any (is_of_lock l.cookie) locks) ≡ true
  own e = ap (λ b. b || list_any (is_of_lock l.cookie) locks) (ap (is_of_lock l.cookie) e ∙ itself l)

  chosen : (behind : Option Lock) → higher k behind ≡ Some l → (behind ≡ Some l → list_any (is_of_lock l.cookie) locks ≡ true)
      → (is_of_lock l.cookie k || list_any (is_of_lock l.cookie) locks) ≡ true
  chosen None e rest = own (cc)
  chosen (Some j) e rest = of (nat_lt (extent_of j).first (extent_of k).first) e where
    of : (b : Bool) → (if b then Some k else Some j) ≡ Some l → (is_of_lock l.cookie k || list_any (is_of_lock l.cookie) locks) ≡ true
    of true e = own (cc)
    of false e = or_true (is_of_lock l.cookie k) (list_any (is_of_lock l.cookie) locks) (rest e)

  by : (writes : Bool) → (highest locks ≡ Some l → list_any (is_of_lock l.cookie) locks ≡ true)
      → (if writes then higher k (highest locks) else highest locks) ≡ Some l
      → (is_of_lock l.cookie k || list_any (is_of_lock l.cookie) locks) ≡ true
  by true rest e = chosen (highest locks) e rest
  by false rest e = or_true (is_of_lock l.cookie k) (list_any (is_of_lock l.cookie) locks) (rest e)

-- it is granted
pub top_held : (v : Target) (resource : Resource) (l : Lock) → Some l ≡ highest (locks_on resource v.granted)
    → list_any (is_of_lock l.cookie) v.granted ≡ true
top_held v resource l top = some_on (is_of_lock l.cookie) resource v.granted (top_there (locks_on resource v.granted) l (sym top))

pub asks_sent : (v : Target) (l : Lock) (r : Request) (boot : ℕ) (begun done : Making) → v.boot ≡ boot
    → done ≡ giving begun (to_life l.ask.who (message.Ask l.ask.who boot l.cookie r.who r.xid) ∷ []) → done
    ≡ giving begun (ask_of v l r ∷ [])
asks_sent v l r boot begun done same sent = sent ∙ ap (λ b. giving begun
    (to_life l.ask.who (message.Ask l.ask.who b l.cookie r.who r.xid) ∷ [])) (sym same)

pub makes_asks :
    (old new : ServerState) (begun done : Making) (r : Request) (resource : Resource) (l : Lock) (fresh : Bool) → old.kind ≡ Ost → new
    ≡ record old { locks = new.locks }
    → IsGlimpsed l.cookie r.who r.xid fresh old.locks new.locks → request_of r.who r.xid old.requests ≡ Some r → r.op ≡ op.Size resource
    → IsUnasked r old
    → ((v : Target) → Shows old v → list_any (is_of_lock l.cookie) v.granted ≡ true)
    → ((v : Target) → v.boot ≡ old.boot → done ≡ giving begun (ask_of v l r ∷ []))
    → Makes (λ v. row_asks v r resource l) old new begun done
makes_asks old new begun done r resource l fresh objects is asked waits sizes unasked held sent = record {
  gives = λ v shows. sent v shows.boot;
  shows = λ v shows. shows_asks old new v r resource l fresh objects is asked waits sizes unasked (held v shows) shows;
}

pub asks_row :
    (old new : ServerState) (begun done : Making) (r : Request) (at : At) (resource : Resource) (l : Lock)
    → ((v : Target) → Shows old v → Some l ≡ highest (locks_on resource v.granted))
    → ((extent_of l).last == the_end) ≡ true → Makes (λ v. row_asks v r resource l) old new begun done
    → Makes (λ v. row_size v at r resource (highest (locks_on resource v.granted))) old new begun done
asks_row old new begun done r at resource l tops whole makes =
    makes_as (λ v. row_asks v r resource l) (λ v. row_size v at r resource (highest (locks_on resource v.granted))) old new begun done
    (λ v shows. sym (
    ap (row_size v at r resource) (sym (tops v shows))
    ∙ ap (λ b. if b then row_asks v r resource l else (if nat_lt (extent_of l).last (size_of v resource)
    then row_sizes (answered v at r (told.Size (size_of v resource))) else row_locked v at r)) whole))
    makes

-- ---- what the holder says

-- the glimpse that it answers
asked_holds : (P : Glimpse → Type 0) (m : SizeReport) (gs : List Glimpse) (g : Glimpse) → asked_for m gs ≡ Some g → All P gs → P g
asked_holds P m [] g found all = absurd (cc)
asked_holds P m (h ∷ gs) g found all =
    by (h.cookie.0 == m.cookie.0 && (same_life h.request.who m.for_who && h.request.xid.0 == m.xid.0)) found (asked_holds P m gs g)
  where
    by : (this : Bool) → (if this then Some h else asked_for m gs) ≡ Some g → (asked_for m gs ≡ Some g → All P gs → P g) → P g
    by true e rest = let one : h ≡ g = cc in subst P one (All-head P h gs all)
    by false e rest = rest e (All-tail P h gs all)

asked_named : (m : SizeReport) (gs : List Glimpse) (g : Glimpse) → asked_for m gs ≡ Some g → (g.request.who ≡ m.for_who)
    × (g.request.xid ≡ m.xid)
asked_named m [] g found = absurd (cc)
asked_named m (h ∷ gs) g found =
    by (h.cookie.0 == m.cookie.0 && (same_life h.request.who m.for_who && h.request.xid.0 == m.xid.0)) refl found (asked_named m gs g)
  where
    by : (this : Bool) → (h.cookie.0 == m.cookie.0 && (same_life h.request.who m.for_who && h.request.xid.0 == m.xid.0)) ≡ this
        → (if this then Some h else asked_for m gs) ≡ Some g
        → (asked_for m gs ≡ Some g → (g.request.who ≡ m.for_who) × (g.request.xid ≡ m.xid)) → (g.request.who ≡ m.for_who)
        × (g.request.xid ≡ m.xid)
    by true t e rest =
        let one : h ≡ g = cc in
        let parts = both (same_life h.request.who m.for_who) (h.request.xid.0 == m.xid.0)
        (both (h.cookie.0 == m.cookie.0) (same_life h.request.who m.for_who && h.request.xid.0 == m.xid.0) t).1 in (
          ap (λ (x : Glimpse). x.request.who) (sym one) ∙ one_life h.request.who m.for_who parts.0,
          ap (λ (x : Glimpse). x.request.xid) (sym one) ∙ ap (λ n. record { 0 = n }) (eqb-true h.request.xid.0 m.xid.0 parts.1),
        )
    by false t e rest = rest e

module _ (old : ServerState) (v : Target) (m : SizeReport) (shows : Shows old v) where
  -- there is one at a target of objects alone
  pub asked_objects : is_some (asked_for m v.glimpses) ≡ true → old.kind ≡ Ost
  asked_objects some = by old.kind shows.sound where
    by : (kind : Kind) → IsSound kind v → kind ≡ Ost
    by Mdt sound = absurd (none (sym (ap (λ gs. is_some (asked_for m gs)) sound.locks.2) ∙ some)) where
      none : false ≡ true → ⊥
      none e = cc
    by Ost sound = refl

  asked_sound : (g : Glimpse) → old.kind ≡ Ost → asked_for m v.glimpses ≡ Some g → IsAsked v.queue g
  asked_sound g objects found = asked_holds (IsAsked v.queue) m v.glimpses g found
      (subst (λ (k : Kind). IsSound k v) objects shows.sound).locks.0

  pub asked_waits : (g : Glimpse) → old.kind ≡ Ost → asked_for m v.glimpses ≡ Some g → request_of m.for_who m.xid old.requests
      ≡ Some g.request
  asked_waits g objects found =
      let named = asked_named m v.glimpses g found in
      ap (λ (who : Who). request_of who m.xid old.requests) (sym named.0)
      ∙ ap (λ (xid : Xid). request_of g.request.who xid old.requests) (sym named.1)
      ∙ ap (request_of g.request.who g.request.xid) (sym shows.requests) ∙ (asked_sound g objects found).waits

  -- and whoever waits under that name asks for a size
  pub asked_sizes : (r : Request) → is_some (asked_for m v.glimpses) ≡ true → request_of m.for_who m.xid old.requests ≡ Some r
      → AsksSize r.op
  asked_sizes r some waits = by (asked_for m v.glimpses) refl some where
    by : (o : Option Glimpse) → asked_for m v.glimpses ≡ o → is_some o ≡ true → AsksSize r.op
    by None e some = absurd (cc)
    by (Some g) e s =
        let objects : old.kind ≡ Ost = asked_objects some in
        let one : g.request ≡ r = the_same g.request r (sym (asked_waits g objects e) ∙ waits) in
        (g.resource, ap (λ (x : Request). x.op) (sym one) ∙ (asked_sound g objects e).sizes) where
          the_same : (a b : Request) → Some a ≡ Some b → a ≡ b
          the_same a b e = cc

pub makes_unreported : (old new : ServerState) (making : Making) (m : SizeReport) (at : At) (was : Bool) → new ≡ old → was ≡ false
    → ((v : Target) → Shows old v → was ≡ is_some (asked_for m v.glimpses))
    → Makes (λ v. row_report v at m (asked_for m v.glimpses)) old new making making
makes_unreported old new making m at was same none is =
    subst (λ (s : ServerState). Makes (λ v. row_report v at m (asked_for m v.glimpses)) old s making making) (sym same)
    (makes_as (λ v. []) (λ v. row_report v at m (asked_for m v.glimpses)) old old making making
    (λ v shows. sym (by (asked_for m v.glimpses) v (sym (is v shows) ∙ none))) (makes_nothing old making))
  where
    by : (o : Option Glimpse) (v : Target) → is_some o ≡ false → row_report v at m o ≡ []
    by None v e = refl
    by (Some g) v e = absurd (cc)

pub makes_reported :
    (old middle new : ServerState) (begun done : Making) (m : SizeReport) (at from : At) (answer : Answer) (was : Bool) → middle
    ≡ record old { locks = middle.locks } → was ≡ true
    → ((v : Target) → Shows old v → was ≡ is_some (asked_for m v.glimpses))
    → ((v : Target) (g : Glimpse) → locking.Shows old.locks v → asked_for m v.glimpses ≡ Some g
    → locking.Shows middle.locks (after v (Ends g)))
    → ((v : Target) (g : Glimpse) → row_holder v at m g m.size ≡ Ends g ∷ row_answers (answered v from g.request answer))
    → ((v : Target) (r : Request) → Tells middle v → request_of m.for_who m.xid middle.requests ≡ Some r → done
    ≡ giving begun (row_answers (answered v from r answer)))
    → ((v : Target) (r : Request) → Tells middle v → request_of m.for_who m.xid middle.requests ≡ Some r
    → IsAnswered r.tag (answered v from r answer).reply middle new)
    → Makes (λ v. row_report v at m (asked_for m v.glimpses)) old new begun done
makes_reported old middle new begun done m at from answer was mid some is ended rows sent answers = record {
  gives = λ v shows. gives v shows (asked_for m v.glimpses) refl (sym (is v shows) ∙ some);
  shows = λ v shows. shown v shows (asked_for m v.glimpses) refl (sym (is v shows) ∙ some);
} where
  objects : (v : Target) → Shows old v → old.kind ≡ Ost
  objects v shows = asked_objects old v m shows (sym (is v shows) ∙ some)

  waits : (v : Target) (g : Glimpse) → Shows old v → asked_for m v.glimpses ≡ Some g → request_of m.for_who m.xid middle.requests
      ≡ Some g.request
  waits v g shows e = ap (λ (s : ServerState). request_of m.for_who m.xid s.requests) mid ∙ asked_waits old v m shows g (objects v shows) e

  gives : (v : Target) → Shows old v → (o : Option Glimpse) → asked_for m v.glimpses ≡ o → is_some o ≡ true → done
      ≡ giving begun (row_report v at m (asked_for m v.glimpses))
  gives v shows None e some = absurd (cc)
  gives v shows (Some g) e some =
      sent v g.request (tells_middle old middle v mid shows) (waits v g shows e)
      ∙ ap (giving begun) (sym (rows v g)) ∙ ap (λ o. giving begun (row_report v at m o)) (sym e)

  shown : (v : Target) → Shows old v → (o : Option Glimpse) → asked_for m v.glimpses ≡ o → is_some o ≡ true
      → Shows new (turn v (row_report v at m (asked_for m v.glimpses)))
  shown v shows None e some = absurd (cc)
  shown v shows (Some g) e some = subst (λ es. Shows new (turn v es)) (sym whole) state where
    d : Deed
    d = answered v from g.request answer

    w : Target
    w = after v (Ends g)

    x : Target
    x = after w (Answers d)

    whole : row_report v at m (asked_for m v.glimpses) ≡ Ends g ∷ row_answers d
    whole = ap (row_report v at m) e ∙ rows v g

    is_answered : IsAnswered g.request.tag d.reply middle new
    is_answered = answers v g.request (tells_middle old middle v mid shows) (waits v g shows e)

    serves_it : Serves middle.store w
    serves_it = subst (λ (s : ServerState). Serves s.store w) (sym mid)
        (serves_same old.store v w (record {
          setting = refl;
          boot = refl;
          number = refl;
          lives = refl;
          removed = refl;
          slots = refl;
          log =
              refl;
          committed = refl;
          disk = refl;
        }) shows.store)

    state : Shows new x
    state =
        shows_answered g.request.tag d old middle new v x shows mid is_answered
        (record { setting = refl; boot = refl; number = refl; contents = refl; queue = refl })
        (is_answered.store.answers w d refl refl serves_it)
        (locks_still middle.locks w x refl refl refl refl refl refl refl (ended v g shows.locks e))
        (subst (λ es. IsSound old.kind (turn v es)) whole (sound_report old.kind v at m shows.sound))
