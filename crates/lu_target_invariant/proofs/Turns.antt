-- Whole rows of messages, cancels, ticks and joins: what the state keeps stays so.
use Rattle.std.proofs.Common.{arith, ◌≡◌, ℕ, ◌<◌, ◌==◌, Bool, true, false, List, [], ◌∷◌, Option, Some, None, refl, sym, ap, subst, nat_lt}
use Rattle.std.specs.Prelude.{if◌then◌else◌, All}
use Rattle.std.specs.List.{list_any}
use Rattle.std.proofs.lemmas.Bool.Decides.{nat_tests}
use Rattle.lu_base.specs.declared.ids.At.{At}
use Rattle.lu_base.specs.declared.ids.Cookie.{Cookie}
use Rattle.lu_base.specs.declared.ids.Who.{Who}
use Rattle.lu_base.specs.declared.locks.Cause.{Cause}
use Rattle.lu_base.specs.declared.locks.Cause.TheVariants.{Expired, Replaced}
use Rattle.lu_base.specs.declared.locks.Lock.{Lock}
use Rattle.lu_msg.specs.Limits.{tag_count}
use Rattle.lu_msg.specs.declared.messages.Message.TheVariants as message
use Rattle.lu_msg.specs.declared.messages.Reply.{Reply}
use Rattle.lu_msg.specs.declared.messages.Request.{Request}
use Rattle.lu_service.specs.declared.services.Kind.{Kind}
use Rattle.lu_service.specs.declared.services.Kind.TheVariants.{Mdt, Ost}
use Rattle.lu_service.specs.Takes.{Takes}
use Rattle.lu_spec_entries.specs.Words.{Entry, Skip, Tick, Evict, Joined, Enters}
use Rattle.lu_spec_entries.specs.Carried.{Deed}
use Rattle.lu_spec_target.specs.Lives.{is_life, slot_in, with_lives, without_lives}
use Rattle.lu_spec_target.specs.Locks.{same_request}
use Rattle.lu_spec_target.specs.Stored.{batch_of}
use Rattle.lu_spec_target.specs.States.{Setting, Target, is_names, after, turn, follow}
use Rattle.lu_spec_target.specs.Replies.{to_life, again, row_kept}
use Rattle.lu_spec_target.specs.Names.{names_go}
use Rattle.lu_spec_target.specs.Queues.{grant_message, queue_goes, all_queues_go}
use Rattle.lu_spec_target.specs.Objects.{lock_of, objects_go}
use Rattle.lu_spec_target.specs.Requests.{goes, row_enters, by_number, row_request, goes_on, releases, row_cancels, row_cancel, row_finds}
use Rattle.lu_spec_target.specs.Requests.{row_where}
use Rattle.lu_spec_target.specs.Leaving.{last_of, commits, evicted, ready, locks_of, all_released, evictions, all_go, condemned, expels}
use Rattle.lu_spec_target.specs.Leaving.{sends_again, ticked, life_of, admits, row_admits, by_life, is_over, row_join}
use Rattle.lu_spec_target.specs.Rows.{row_commits}
use Rattle.lu_target_refines.specs.Lives.{OfClients}
use Rattle.lu_target_refines.proofs.LifeLists.{without_none}
use Rattle.lu_target_invariant.specs.Sound.{IsKindOf, IsSound}
use Rattle.lu_target_invariant.proofs.Entries.{sound_quiet, sound_follow, MayEnter, sound_enters, enters_waits, enters_unasked}
use Rattle.lu_target_invariant.proofs.Commits.{sound_commit, sound_leaves, sound_joins, life_left}
use Rattle.lu_target_invariant.proofs.Blocks.{sound_queue_goes, sound_all_queues_go, sound_sends_again}
use Rattle.lu_target_invariant.proofs.Names.{sound_names_go}
use Rattle.lu_target_invariant.proofs.Glimpses.{sound_releases, sound_all_released}
use Rattle.lu_target_invariant.proofs.Objects.{sound_objects}

-- ---- which target it is

pub setting_stays : (v : Target) (es : List Entry) → (turn v es).setting ≡ v.setting
setting_stays v [] = refl
setting_stays v (e ∷ es) = setting_stays (after v e) es

pub kind_stays : (kind : Kind) (v : Target) (es : List Entry) → IsKindOf v.setting.id kind → IsKindOf (turn v es).setting.id kind
kind_stays kind v es is = subst (λ (s : Setting). IsKindOf s.id kind) (sym (setting_stays v es)) is

names_is : (v : Target) → IsKindOf v.setting.id Mdt → is_names v ≡ true
names_is v is = ap (λ n. n == 0) is

-- ---- a request

pub sound_goes : (kind : Kind) (at : At) (r : Request) (v : Target) → IsKindOf v.setting.id kind → MayEnter kind v r → IsSound kind v
    → (let w = after v (Enters r) in IsSound kind (turn w (goes at r w)))
sound_goes Mdt at r v is may sound =
    let w = after v (Enters r) in
    subst (λ names. IsSound Mdt (turn w (if names then names_go at w else objects_go w at r r.op))) (sym (names_is v is))
    (sound_names_go at w (sound_enters Mdt v r may sound))
sound_goes Ost at r v is may sound =
    let w = after v (Enters r) in
    subst (λ names. IsSound Ost (turn w (if names then names_go at w else objects_go w at r r.op))) (sym is)
    (sound_objects w at r r.op refl (enters_waits Ost v r may sound) (enters_unasked Ost v r may sound) (sound_enters Ost v r may sound))

pub sound_row_enters : (kind : Kind) (v : Target) (at : At) (r : Request) → IsKindOf v.setting.id kind → MayEnter kind v r → IsSound kind v
    → IsSound kind (turn v (row_enters v at r))
sound_row_enters kind v at r is may sound = sound_goes kind at r v is may sound

pub sound_kept : (kind : Kind) (v w : Target) (kept : Option Reply) → IsSound kind w → IsSound kind (turn w (row_kept v kept))
sound_kept kind v w None sound = sound
sound_kept kind v w (Some reply) sound = sound_quiet kind w (to_life reply.who (message.Reply (again v reply))) refl sound

-- a request that may be taken, whatever its number
pub record MayTake (kind : Kind) (v : Target) (r : Request) : Type 0 where
  pub life : is_life r.who v.lives ≡ true
  pub tag : r.tag < tag_count
  pub takes : Takes kind r.op
  pub tags : All (λ q. same_request q r ≡ true → q.tag ≡ r.tag) v.queue

pub sound_request : (kind : Kind) (v : Target) (at : At) (r : Request) → IsKindOf v.setting.id kind → MayTake kind v r → IsSound kind v
    → IsSound kind (turn v (row_request v at r))
sound_request kind v at r is may sound =
    by (slot_in v.slots r.who r.tag).reply (nat_lt (slot_in v.slots r.who r.tag).taken r.xid.0) refl
    ((slot_in v.slots r.who r.tag).taken == r.xid.0) where
      below : (m n : ℕ) → nat_lt m n ≡ true → m < n
      below m n e = grind (arith, nat_tests)

      by : (kept : Option Reply) (above : Bool) → nat_lt (slot_in v.slots r.who r.tag).taken r.xid.0 ≡ above → (same : Bool)
          → IsSound kind (turn v (by_number v at r kept above same))
      by kept true e same =
          sound_row_enters kind v at r is
          (record {
            life = may.life;
            tag = may.tag;
            takes = may.takes;
            above = below (slot_in v.slots r.who r.tag).taken r.xid.0 e;
            tags =
                may.tags;
          }) sound
      by kept false e true = sound_kept kind v v kept sound
      by kept false e false = sound

-- ---- a cancel, and what became of a lock

pub sound_goes_on : (kind : Kind) (l : Lock) (at : At) (v : Target) → IsKindOf v.setting.id kind → IsSound kind v
    → IsSound kind (turn v (goes_on l at v))
sound_goes_on Mdt l at v is sound = subst (λ names. IsSound Mdt (turn v (if names then names_go at v else queue_goes l.resource v)))
    (sym (names_is v is)) (sound_names_go at v sound)
sound_goes_on Ost l at v is sound = subst (λ names. IsSound Ost (turn v (if names then names_go at v else queue_goes l.resource v)))
    (sym is) (sound_queue_goes l.resource v sound)

pub sound_cancels : (kind : Kind) (v : Target) (at : At) (found : Option Lock) → IsKindOf v.setting.id kind → IsSound kind v
    → IsSound kind (turn v (row_cancels v at found))
sound_cancels kind v at None is sound = sound
sound_cancels kind v at (Some l) is sound =
    sound_follow kind v (releases at l v) (goes_on l at)
    (sound_goes_on kind l at (turn v (releases at l v)) (kind_stays kind v (releases at l v) is) (sound_releases kind at l v sound))

pub sound_cancel : (kind : Kind) (v : Target) (at : At) (who : Who) (cookie : Cookie) → IsKindOf v.setting.id kind → IsSound kind v
    → IsSound kind (turn v (row_cancel v at who cookie))
sound_cancel kind v at who cookie is sound = sound_cancels kind v at (lock_of who cookie v.granted) is sound

pub sound_where : (kind : Kind) (v : Target) (who : Who) (cookie : Cookie) → IsSound kind v → IsSound kind (turn v (row_where v who cookie))
sound_where kind v who cookie sound = by (lock_of who cookie v.granted) where
  told : (l : Lock) (names : Bool) → IsSound kind (turn v (if names then [] else grant_message v l ∷ []))
  told l true = sound
  told l false = sound_quiet kind v (grant_message v l) refl sound

  by : (found : Option Lock) → IsSound kind (turn v (row_finds v found))
  by None = sound
  by (Some l) = told l (is_names v)

-- ---- a commit

pub sound_row_commits : (kind : Kind) (v : Target) (deeds : List Deed) → IsSound kind v → IsSound kind (turn v (row_commits v deeds))
sound_row_commits kind v [] sound = sound_quiet kind v Skip refl sound
sound_row_commits kind v (d ∷ deeds) sound = sound_leaves kind v (last_of (d ∷ deeds) v.committed) (batch_of (d ∷ deeds) [] []) refl sound

-- ---- lives that leave

pub sound_evictions : (kind : Kind) (at : At) (cause : Cause) (granted : List Lock) (gone : List Who) (v : Target) → IsSound kind v
    → IsSound kind (turn v (evictions at cause granted gone v))
sound_evictions kind at cause granted [] v sound = sound
sound_evictions kind at cause granted (who ∷ gone) v sound =
    let es : List Entry = Evict who cause ∷ evicted v who ∷ all_released at (locks_of who granted) v in
    let told : Target = after (after v (Evict who cause)) (evicted v who) in
    let said : IsSound kind told = sound_quiet kind (after v (Evict who cause)) (evicted v who) refl
    (sound_quiet kind v (Evict who cause) refl sound) in
    sound_follow kind v es (evictions at cause granted gone)
    (sound_evictions kind at cause granted gone (turn v es) (sound_all_released kind at (locks_of who granted) v told refl said))

-- with the commit that takes their slots, and gives slots to the lives that come: each client has one life then
pub sound_moves : (kind : Kind) (at : At) (cause : Cause) (gone come : List Who) (v : Target)
    → OfClients (with_lives come (without_lives gone v.lives)) → IsSound kind v
    → IsSound kind (turn v (follow v (commits v v.log gone come ∷ []) (evictions at cause v.granted gone)))
sound_moves kind at cause gone come v clients sound =
    sound_follow kind v (commits v v.log gone come ∷ []) (evictions at cause v.granted gone)
    (sound_evictions kind at cause v.granted gone (after v (commits v v.log gone come))
    (sound_commit kind v (last_of v.log v.committed) (batch_of v.log gone come) clients sound))

-- what waited goes on
pub sound_all_go : (kind : Kind) (at : At) (v : Target) → IsKindOf v.setting.id kind → IsSound kind v → IsSound kind (turn v (all_go at v))
sound_all_go Mdt at v is sound = subst (λ names. IsSound Mdt (turn v (if names then names_go at v else all_queues_go v)))
    (sym (names_is v is)) (sound_names_go at v sound)
sound_all_go Ost at v is sound = subst (λ names. IsSound Ost (turn v (if names then names_go at v else all_queues_go v))) (sym is)
    (sound_all_queues_go v sound)

-- ---- ticks

pub sound_expels : (kind : Kind) (at : At) (gone : List Who) (v : Target) → IsKindOf v.setting.id kind → IsSound kind v
    → IsSound kind (turn v (expels at gone v))
sound_expels kind at [] v is sound = sound
sound_expels kind at (who ∷ gone) v is sound =
    let e : Entry = commits v v.log (who ∷ gone) [] in
    let w : Target = after v e in
    let es : List Entry = evictions at Expired v.granted (who ∷ gone) w in
    sound_follow kind v (e ∷ []) (λ x. follow x (evictions at Expired v.granted (who ∷ gone) x) (all_go at))
    (sound_follow kind w es (all_go at)
    (sound_all_go kind at (turn w es) (kind_stays kind w es is)
    (sound_evictions kind at Expired v.granted (who ∷ gone) w
    (sound_leaves kind v (last_of v.log v.committed) (batch_of v.log (who ∷ gone) []) refl sound))))

pub sound_ticked : (kind : Kind) (at : At) (v : Target) → IsKindOf v.setting.id kind → IsSound kind v → IsSound kind (turn v (ticked at v))
sound_ticked kind at v is sound =
    let es : List Entry = expels at (condemned v v.called) v in
    sound_follow kind v es (λ w. sends_again w v.called v.glimpses w.granted)
    (sound_sends_again kind (turn v es) (turn v es) v.called v.glimpses (turn v es).granted
    (sound_expels kind at (condemned v v.called) v is sound))

-- its line, and what comes of it
pub sound_tick : (kind : Kind) (at : At) (v : Target) → IsKindOf v.setting.id kind → IsSound kind v
    → IsSound kind (turn v (follow v (Tick ∷ []) (ticked at)))
sound_tick kind at v is sound = sound_follow kind v (Tick ∷ []) (ticked at)
    (sound_ticked kind at (after v Tick) is (sound_quiet kind v Tick refl sound))

-- ---- joins

pub sound_admits : (kind : Kind) (at : At) (who : Who) (v : Target) → IsKindOf v.setting.id kind → IsSound kind v
    → IsSound kind (turn v (admits at who v))
sound_admits kind at who v is sound =
    let w : Target = turn v (Joined who ∷ ready v who ∷ []) in
    sound_follow kind v (Joined who ∷ ready v who ∷ []) (all_go at)
    (sound_all_go kind at w is (sound_quiet kind (after v (Joined who)) (ready v who) refl (sound_quiet kind v (Joined who) refl sound)))

-- where the client of the life that comes has no other left
pub sound_row_admits : (kind : Kind) (at : At) (old : List Who) (who : Who) (v : Target) → IsKindOf v.setting.id kind
    → life_of who.client (without_lives old v.lives) ≡ None
    → IsSound kind v → IsSound kind (turn v (row_admits at old who v))
sound_row_admits kind at old who v is alone sound =
    let e : Entry = commits v v.log old (who ∷ []) in
    let w : Target = after v e in
    let es : List Entry = evictions at Replaced v.granted old w in
    sound_follow kind v (e ∷ []) (λ x. follow x (evictions at Replaced v.granted old x) (admits at who))
    (sound_follow kind w es (admits at who)
    (sound_admits kind at who (turn w es) (kind_stays kind w es is)
    (sound_evictions kind at Replaced v.granted old w
    (sound_joins kind v (last_of v.log v.committed) (batch_of v.log old (who ∷ [])) who refl alone sound))))

pub sound_by_life : (kind : Kind) (v : Target) (at : At) (who : Who) (found : Option Who) → IsKindOf v.setting.id kind
    → life_of who.client v.lives ≡ found → IsSound kind v
    → IsSound kind (turn v (by_life v at who found))
sound_by_life kind v at who None is none sound = sound_row_admits kind at [] who v is
    (subst (λ lives. life_of who.client lives ≡ None) (sym (without_none v.lives)) none) sound
sound_by_life kind v at who (Some old) is found sound = by (nat_lt who.life old.life) (who.life == old.life) where
  by : (older same : Bool) → IsSound kind (turn v (if older then evicted v who ∷ []
      else (if same then ready v who ∷ [] else row_admits at (old ∷ []) who v)))
  by true same = sound_quiet kind v (evicted v who) refl sound
  by false true = sound_quiet kind v (ready v who) refl sound
  by false false = sound_row_admits kind at (old ∷ []) who v is (life_left who.client old v.lives sound.clients found) sound

pub sound_join : (kind : Kind) (v : Target) (at : At) (who : Who) → IsKindOf v.setting.id kind → IsSound kind v
    → IsSound kind (turn v (row_join v at who))
sound_join kind v at who is sound = by (list_any (is_over who) v.removed) where
  by : (over : Bool) → IsSound kind (turn v (if over then evicted v who ∷ [] else by_life v at who (life_of who.client v.lives)))
  by true = sound_quiet kind v (evicted v who) refl sound
  by false = sound_by_life kind v at who (life_of who.client v.lives) is refl sound
