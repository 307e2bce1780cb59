-- A commit of lives that leave and lives that come, and what is told of those that left.
use Rattle.std.proofs.Common.{◌≡◌, ℕ, zero, suc, ◌==◌, Bool, true, false, not, List, [], ◌∷◌, ◌++◌, map, filter, take, Option, Some, None}
use Rattle.std.proofs.Common.{refl, sym, ap, subst, ◌∙◌}
use Rattle.std.specs.Prelude.{if◌then◌else◌, All}
use Rattle.lu_base.specs.declared.ids.At.{At}
use Rattle.lu_base.specs.declared.ids.Who.{Who}
use Rattle.lu_base.specs.declared.locks.Cause.{Cause}
use Rattle.lu_base.specs.declared.locks.Lock.{Lock}
use Rattle.lu_msg.specs.declared.commits.Batch.{Batch}
use Rattle.lu_msg.specs.declared.messages.Request.{Request}
use Rattle.lu_service.specs.declared.services.Kind.{Kind}
use Rattle.lu_service.specs.declared.services.Kind.TheVariants.{Mdt, Ost}
use Rattle.lu_service.specs.Contents.{Contents}
use Rattle.lu_trace.specs.Turns.{Making}
use Rattle.lu_spec_entries.specs.Words.{Entry, Commit}
use Rattle.lu_spec_target.specs.Lives.{is_life, with_lives, without_lives}
use Rattle.lu_spec_target.specs.Stored.{batch_of}
use Rattle.lu_spec_target.specs.Queues.{all_queues_go}
use Rattle.lu_spec_target.specs.Leaving.{commits, last_of, evictions, life_of}
use Rattle.lu_spec_target.specs.States.{Setting, Target, after, turn, follow}
use Rattle.lu_target_redo.specs.Shown.{ShowsForgotten}
use Rattle.lu_target_refines.specs.Batches.{AreOnce}
use Rattle.lu_target_refines.proofs.Blocking.{each_of_rising}
use Rattle.lu_target_refines.proofs.Slots.{never}
use Rattle.lu_target_store.specs.Stores.{StoreState, HasTaken}
use Rattle.lu_target_locks.specs.declared.departing.Departure.{Departure}
use Rattle.lu_target_locks.specs.declared.departing.QueueStep.{QueueStep}
use Rattle.lu_target_locks.specs.declared.departing.Left.{Left}
use Rattle.lu_target_locks.specs.Departing.{IsLeft, steps_told}
use Rattle.lu_target_locks.specs.Servers as locking
use Rattle.lu_target_locks.specs.Servers.{ServerState as LockState}
use Rattle.lu_target_invariant.specs.Sound.{IsKindOf, HasLocksOf, IsSound}
use Rattle.lu_target_invariant.proofs.Commits.{sound_leaves, sound_joins}
use Rattle.lu_target_invariant.proofs.Requests.{all_passed}
use Rattle.lu_target_server.specs.Commits.{IsMoved}
use Rattle.lu_spec_entries.specs.Given.{giving}
use Rattle.lu_target_server.specs.Joins.{IsAlone}
use Rattle.lu_target_server.specs.Servers.{ServerState, Shows}
use Rattle.lu_target_server.specs.Middles.{ShowsRest, MakesPart, MakesRest, KeepsFirst}
use Rattle.lu_target_server.specs.Releases.{departs, MayDepartAll, GoesOn, moves, AreMoved}
use Rattle.lu_target_server.proofs.Composing.{giving_more, turn_more}

-- ---- sound once they moved

sound_moves : (kind : Kind) (v : Target) (to : ℕ) (batch : Batch) (gone come : List Who) → batch.removed ≡ gone → batch.added ≡ come
    → IsAlone gone come v.lives → IsSound kind v
    → IsSound kind (after v (Commit to batch))
sound_moves kind v to batch gone [] left none alone sound = sound_leaves kind v to batch none sound
sound_moves kind v to batch gone (who ∷ []) left one alone sound =
    sound_joins kind v to batch who one (subst (λ (lives : List Who). life_of who.client (without_lives lives v.lives) ≡ None) (sym left)
    alone) sound
sound_moves kind v to batch gone (who ∷ other ∷ more) left one alone sound = absurd alone

-- ---- the commit, and what the lives had besides locks

-- what stands once the lives have nothing any more
pub record ArePartedWith (gone : List Who) (left : Left) (old new : ServerState) : Type 0 where
  pub forgotten : ShowsForgotten old.kind gone old.contents new.contents
  pub requests : new.requests ≡ filter (λ r. not (is_life r.who gone)) old.requests
  pub locks : IsLeft gone left old.locks new.locks
  pub same : new ≡ record old { contents = new.contents; requests = new.requests; locks = new.locks }

module _ (s moved parted : ServerState) (v : Target) (gone come : List Who) (left : Left) (cause : Cause) (before between : Making)
    (shows : Shows s v) (is_alone : IsAlone gone come v.lives)
    (once : AreOnce gone) (is_moved : IsMoved gone come s moved before between) (parts : ArePartedWith gone left moved parted) where
  abbrev pub w : Target
  w = after v (commits v v.log gone come)

  kind_is : moved.kind ≡ s.kind
  kind_is = ap (λ (it : ServerState). it.kind) is_moved.same

  contents_is : moved.contents ≡ s.contents
  contents_is = ap (λ (it : ServerState). it.contents) is_moved.same

  locks_are : moved.locks ≡ s.locks
  locks_are = ap (λ (it : ServerState). it.locks) is_moved.same

  abbrev base : ServerState
  base = record s { store = moved.store; contents = parted.contents; requests = parted.requests; locks = parted.locks }

  parted_is : parted ≡ base
  parted_is = parts.same ∙ ap (λ (it : ServerState). record it {
    store = moved.store;
    contents = parted.contents;
    requests =
        parted.requests;
    locks = parted.locks;
  }) is_moved.same

  store_is : parted.store ≡ moved.store
  store_is = ap (λ (it : ServerState). it.store) parts.same

  forgotten : ShowsForgotten s.kind gone s.contents parted.contents
  forgotten = subst (λ (own : Contents). ShowsForgotten s.kind gone own parted.contents) contents_is
      (subst (λ (kind : Kind). ShowsForgotten kind gone moved.contents parted.contents) kind_is parts.forgotten)

  requests_are : parted.requests ≡ filter (λ r. not (is_life r.who gone)) s.requests
  requests_are = parts.requests ∙ ap (λ (it : ServerState). filter (λ (r : Request). not (is_life r.who gone)) it.requests) is_moved.same

  not_gone : (b : Bool) → not b ≡ true → b ≡ false
  not_gone false e = refl
  not_gone true e = absurd (never (sym e))

  taken : All (λ r. HasTaken r.who r.tag moved.store) parted.requests
  taken = subst (All (λ (r : Request). HasTaken r.who r.tag moved.store)) (sym requests_are)
      (all_passed (λ (r : Request). HasTaken r.who r.tag s.store) (λ (r : Request). HasTaken r.who r.tag moved.store)
      (λ (r : Request). not (is_life r.who gone)) s.requests
      (λ r stays_here had. is_moved.takes r.who r.tag (not_gone (is_life r.who gone) stays_here) had) shows.taken)

  rest : ShowsRest parted w
  rest = subst (λ (it : ServerState). ShowsRest it w) (sym parted_is) (record {
    id = shows.id;
    kind = shows.kind;
    expire = shows.expire;
    boot = shows.boot;
    store = is_moved.store.shows v shows.store;
    contents = forgotten v.setting.osts v.contents v.number shows.contents;
    requests = ap (filter (λ (r : Request). not (is_life r.who gone))) shows.requests ∙ sym requests_are;
    taken = taken;
    sound = sound_moves s.kind v (last_of v.log v.committed) (batch_of v.log gone come) gone come refl refl is_alone shows.sound;
  })

  shown : locking.Shows moved.locks v
  shown = subst (λ (it : LockState). locking.Shows it v) (sym locks_are) shows.locks

  -- the lives may leave
  pub may_depart_all : MayDepartAll v.granted gone left.departures parted w
  may_depart_all = record {
    rest = rest;
    are = parts.locks.departures v shown;
    once = each_of_rising v.granted shows.locks.locks.rising;
    lives = once;
  }

  module _ (now : ServerState) (afterwards : Making) (part : MakesPart (evictions before.at cause v.granted gone w) w parted now between
      afterwards) (kept : now.store.batches ≡ parted.store.batches) where
    abbrev pub u : Target
    u = turn w (evictions before.at cause v.granted gone w)

    setting_stays : (x : Target) (es : List Entry) → (turn x es).setting ≡ x.setting
    setting_stays x [] = refl
    setting_stays x (e ∷ es) = setting_stays (after x e) es

    names_still : (kind : Kind) → kind ≡ Mdt → IsKindOf now.id kind → s.kind ≡ Mdt
    names_still Mdt is id = was s.kind shows.kind where
      zero_id : s.id ≡ 0
      zero_id = sym shows.id ∙ sym (ap (λ (it : Setting). it.id) (setting_stays w (evictions before.at cause v.granted gone w)))
          ∙ part.shows.id ∙ id

      was : (k : Kind) → IsKindOf s.id k → k ≡ Mdt
      was Mdt id_is = refl
      was Ost apart = absurd (never (sym (ap (λ n. n == 0) zero_id) ∙ apart))
    names_still Ost is id = absurd (cc)

    none_waits : (kind : Kind) → kind ≡ Mdt → HasLocksOf kind v → v.waiting ≡ []
    none_waits Mdt is locks = locks.1
    none_waits Ost is locks = absurd (cc)

    locks_now : now.locks ≡ parted.locks
    locks_now = part.locks

    abbrev to : ℕ
    to = last_of v.log v.committed

    abbrev batch : Batch
    batch = batch_of v.log gone come

    goes_on : GoesOn left.steps now u
    goes_on = record {
      rest = part.shows;
      told = parts.locks.steps v before.at cause to batch shown refl;
      shows = subst (λ (it : LockState). locking.Shows it (turn u (all_queues_go u))) (sym locks_now)
          (parts.locks.shows v before.at cause to batch shown refl);
      names = λ is. subst (λ (it : LockState). locking.Shows it u) (sym locks_now)
          (parts.locks.alone v before.at cause to batch shown refl
          (none_waits s.kind (names_still now.kind is part.shows.kind) shows.sound.locks)).1;
    }

    pub are_moved : AreMoved cause gone come left.steps v s now before afterwards
    are_moved = record {
      gives = part.gives ∙ ap (λ (making : Making). giving making (evictions before.at cause v.granted gone w))
          (is_moved.told v shows.store)
          ∙ giving_more before (commits v v.log gone come ∷ []) (evictions before.at cause v.granted gone w);
      goes = goes_on;
      batches = kept ∙ ap (λ (it : StoreState). it.batches) store_is ∙ is_moved.store.batches v shows.store;
    }

-- all of it
pub all_moved :
    (s moved parted now : ServerState) (v : Target) (gone come : List Who) (left : Left) (cause : Cause)
    (before between afterwards : Making) → Shows s v → IsAlone gone come v.lives → AreOnce gone
    → IsMoved gone come s moved before between → ArePartedWith gone left moved parted
    → ((w : Target) (granted : List Lock) (lives : List Who) → MayDepartAll granted lives left.departures parted w
    → MakesPart (evictions between.at cause granted lives w) w parted now between afterwards)
    → now.store.batches ≡ parted.store.batches → AreMoved cause gone come left.steps v s now before afterwards
all_moved s moved parted now v gone come left cause before between afterwards shows is_alone once is_moved parts departed kept =
    let x : Target = after v (commits v v.log gone come) in
    let may : MayDepartAll v.granted gone left.departures parted x =
    may_depart_all s moved parted v gone come left cause before between shows is_alone once is_moved parts in
    let at : between.at ≡ before.at = ap (λ (making : Making). making.at) (is_moved.told v shows.store) in
    let part : MakesPart (evictions before.at cause v.granted gone x) x parted now between afterwards =
    subst (λ (it : At). MakesPart (evictions it cause v.granted gone x) x parted now between afterwards) at (departed x v.granted gone may)
    in
    are_moved s moved parted v gone come left cause before between shows is_alone once is_moved parts now afterwards part kept

-- ---- then what waited goes on

pub moved_then : (s now new : ServerState) (v : Target) (cause : Cause) (gone come : List Who) (steps : List QueueStep)
    (next : Target → List Entry) (before between afterwards : Making)
    → AreMoved cause gone come steps v s now before between
    → MakesRest (next (turn v (moves before.at cause gone come v))) (turn v (moves before.at cause gone come v)) new between afterwards
    → MakesRest (follow v (moves before.at cause gone come v) next) v new before afterwards
moved_then s now new v cause gone come steps next before between afterwards moved made =
    let es : List Entry = moves before.at cause gone come v in
    let fs : List Entry = next (turn v es) in
    record {
      gives = made.gives ∙ ap (λ (making : Making). giving making fs) moved.gives ∙ giving_more before es fs;
      shows = subst (Shows new) (sym (turn_more v es fs)) made.shows;
    }

-- ---- what the disk has after an error

nothing_after : (batches : List Batch) → batches ++ [] ≡ batches
nothing_after [] = refl
nothing_after (batch ∷ batches) = ap (λ (more : List Batch). batch ∷ more) (nothing_after batches)

pub keeps_all : (old new : StoreState) (batches : List Batch) → new.batches ≡ old.batches → KeepsFirst batches old new
keeps_all old new batches same = (0, same ∙ sym (nothing_after old.batches))

pub keeps_one : (old new : StoreState) (batch : Batch) (batches : List Batch) → new.batches ≡ old.batches ++ batch ∷ []
    → KeepsFirst (batch ∷ batches) old new
keeps_one old new one batches more = (1, more)

-- the first of those to come is the first of all
pub keeps_first : (old new : StoreState) (batch : Batch) (batches : List Batch) → KeepsFirst (batch ∷ []) old new
    → KeepsFirst (batch ∷ batches) old new
keeps_first old new batch batches keeps = by keeps.0 keeps.1 where
  by : (n : ℕ) → new.batches ≡ old.batches ++ take n (batch ∷ []) → KeepsFirst (batch ∷ batches) old new
  by zero same = (0, same)
  by (suc n) same = (1, same ∙ ap (λ (more : List Batch). old.batches ++ batch ∷ more) (take_none n)) where
    take_none : (m : ℕ) → take {A = Batch} m [] ≡ []
    take_none zero = refl
    take_none (suc m) = refl
