-- What a request at the metadata target may do, from what the service and the locks tell.
use Rattle.std.proofs.Common.{◌≡◌, ◌≢◌, ℕ, ◌+◌, ◌||◌, not, Bool, true, false, List, [], ◌∷◌, Some, slice_get, filter, refl, sym, ap, subst}
use Rattle.std.proofs.Common.{◌∙◌}
use Rattle.std.specs.Prelude.{if◌then◌else◌, All}
use Rattle.std.proofs.lemmas.List.Elements.{All-weaker}
use Rattle.lu_base.specs.declared.ids.Cookie.{Cookie}
use Rattle.lu_base.specs.declared.ids.Txn.{Txn}
use Rattle.lu_base.specs.declared.locks.Lock.{Lock}
use Rattle.lu_base.specs.declared.locks.Mode.{Mode}
use Rattle.lu_base.specs.declared.locks.Mode.TheVariants.{EX, PR}
use Rattle.lu_lock.specs.Modes.{compatible}
use Rattle.lu_msg.specs.declared.messages.Request.{Request}
use Rattle.lu_part.specs.declared.parts.Part.{Part}
use Rattle.lu_service.specs.declared.services.Kind.{Kind}
use Rattle.lu_service.specs.declared.services.Kind.TheVariants.{Mdt}
use Rattle.lu_service.specs.Acts.{Acts}
use Rattle.lu_service.specs.Contents.{asked}
use Rattle.lu_service.specs.Names.{names}
use Rattle.lu_trace.specs.Turns.{Making}
use Rattle.lu_spec_target.specs.Names.{is_read, does_change, in_way, written_by, is_free, is_ready}
use Rattle.lu_spec_target.specs.Replies.{none, next_number}
use Rattle.lu_spec_target.specs.States.{Target}
use Rattle.lu_target_refines.proofs.Names.{does_change_is, written_by_is}
use Rattle.lu_target_locks.specs.Asking as asking
use Rattle.lu_target_locks.specs.Asking.{AreShared, cookies_of}
use Rattle.lu_target_locks.specs.Servers as locking
use Rattle.lu_target_locks.specs.Servers.{ServerState as LockState, blocks_told}
use Rattle.lu_target_invariant.proofs.Blocks.{sound_blocks}
use Rattle.lu_spec_entries.specs.Given.{giving}
use Rattle.lu_target_server.specs.Servers.{ServerState, Shows, IsSound}
use Rattle.lu_target_server.specs.Passes.{IsWay, AreCalled}
use Rattle.lu_target_server.specs.declared.names.Way.TheVariants as way
use Rattle.lu_target_server.proofs.Composing.{names_shown}
use Rattle.lu_target_server.proofs.Staying.{shows_blocks}

shared : (locks : List Lock) → All (λ (l : Lock). l.ask.mode ≡ PR) locks → AreShared locks
shared locks reading =
    All-weaker (λ (l : Lock). l.ask.mode ≡ PR) (λ (l : Lock). compatible EX l.ask.mode ≡ false)
    (λ l reads. ap (λ (mode : Mode). compatible EX mode) reads) locks reading

none_free : (locks : List Lock) → cookies_of locks ≡ [] → is_free locks ≡ true
none_free [] e = refl
none_free (l ∷ locks) e = absurd (cc)

some_bars : (locks : List Lock) → cookies_of locks ≢ [] → is_free locks ≡ false
some_bars [] some = absurd (some refl)
some_bars (l ∷ locks) some = refl

module _ (acts : Acts) (is : acts ≡ names) (s : ServerState) (kind : s.kind ≡ Mdt) (place : ℕ) (stood : Bool) (q : Request)
    (found : slice_get s.requests place ≡ Some q) where
  same_one : (r : Request) → slice_get s.requests place ≡ Some r → q ≡ r
  same_one r e = let both : Some q ≡ Some r = sym found ∙ e in by both where
    by : Some q ≡ Some r → q ≡ r
    by f = cc

  change_is : (v : Target) → Shows s v → acts.changes s.contents (asked none q.who q.op) ≡ does_change v q
  change_is v shows = does_change_is acts is (v.number + 1) s.contents v (names_shown s v kind shows) q
      (acts.changes s.contents (asked none q.who q.op)) refl

  -- it reads
  pub reads_free : (copy : Request) → copy ≡ q → is_read q.op ≡ true → stood ≡ false → IsWay s place stood (way.Free copy)
  reads_free copy same reads free = λ v r shows there.
      let one : q ≡ r = same_one r there in
      subst (λ (x : Request). (copy ≡ x) × (is_ready v stood x ≡ true)) one
      (same, ap (λ b. if b then not stood else (not (does_change v q) || is_free (in_way v.granted (written_by v q)))) reads ∙ ap not free)

  pub reads_behind : is_read q.op ≡ true → stood ≡ true → IsWay s place stood way.Behind
  reads_behind reads behind = λ v r shows there.
      let one : q ≡ r = same_one r there in
      subst (λ (x : Request). (is_read x.op ≡ true) × (is_ready v stood x ≡ false)) one (
        reads,
        ap (λ b. if b then not stood else (not (does_change v q) || is_free (in_way v.granted (written_by v q)))) reads
            ∙ ap not behind,
      )

  -- it is refused, or changes nothing
  pub still_free : (copy : Request) → copy ≡ q → is_read q.op ≡ false → acts.changes s.contents (asked none q.who q.op) ≡ false
      → IsWay s place stood (way.Free copy)
  still_free copy same changes still = λ v r shows there.
      let one : q ≡ r = same_one r there in
      let does : does_change v q ≡ false = sym (change_is v shows) ∙ still in
      subst (λ (x : Request). (copy ≡ x) × (is_ready v stood x ≡ true)) one (
        same,
        ap (λ b. if b then not stood else (not (does_change v q) || is_free (in_way v.granted (written_by v q)))) changes
            ∙ ap (λ b. not b || is_free (in_way v.granted (written_by v q))) does,
      )

  module _ (parts : List Part) (writes : (number : Txn) → parts ≡ acts.writes s.contents (asked number q.who q.op)) (cookies : List Cookie)
      (are : (v : Target) → locking.Shows s.locks v → AreShared v.granted → cookies ≡ cookies_of (in_way v.granted parts))
      (changes : is_read q.op ≡ false) (would : acts.changes s.contents (asked none q.who q.op) ≡ true) where
    barring : (v : Target) → Shows s v → cookies ≡ cookies_of (in_way v.granted (written_by v q))
    barring v shows =
        let sound = subst (λ (k : Kind). IsSound k v) kind shows.sound in
        are v shows.locks (shared v.granted sound.locks.0)
        ∙ ap (λ (them : List Part). cookies_of (in_way v.granted them))
        (written_by_is acts is (v.number + 1) s.contents v (names_shown s v kind shows) q parts (writes (next_number v)))

    ready_is : (v : Target) → Shows s v → is_ready v stood q ≡ is_free (in_way v.granted (written_by v q))
    ready_is v shows =
        ap (λ b. if b then not stood else (not (does_change v q) || is_free (in_way v.granted (written_by v q)))) changes
        ∙ ap (λ b. not b || is_free (in_way v.granted (written_by v q))) (sym (change_is v shows) ∙ would)

    -- no lock guards what it writes
    pub unguarded_free : (copy : Request) → copy ≡ q → cookies ≡ [] → IsWay s place stood (way.Free copy)
    unguarded_free copy same nothing = λ v r shows there.
        let one : q ≡ r = same_one r there in
        subst (λ (x : Request). (copy ≡ x) × (is_ready v stood x ≡ true)) one
        (same, ready_is v shows ∙ none_free (in_way v.granted (written_by v q)) (sym (barring v shows) ∙ nothing))

    pub guarded_barred : cookies ≢ [] → IsWay s place stood (way.Barred cookies)
    guarded_barred some = λ v r shows there.
        let one : q ≡ r = same_one r there in
        subst (λ (x : Request). (is_read x.op ≡ false) × (is_ready v stood x ≡ false)
        × (cookies ≡ cookies_of (in_way v.granted (written_by v x)))) one
        (changes, ready_is v shows ∙ some_bars (in_way v.granted (written_by v q)) (λ e. some (barring v shows ∙ e)), barring v shows)

-- ---- locks that are in the way are called back

pub called_made :
    (cookies : List Cookie) (these : List Lock) (old : ServerState) (locks : LockState) (before end : Making)
    → asking.AreCalled cookies these old.locks locks → ((v : Target) → v.boot ≡ old.boot → end ≡ giving before (blocks_told v these))
    → AreCalled cookies old (record old { locks = locks }) before end
called_made cookies these old locks before end called told =
    record {
      gives = λ v test shows those. told v shows.boot ∙ ap (giving before) (sym (called.told v test shows.locks those));
      shows = λ v test shows those.
          shows_blocks old locks v (filter test v.granted) shows (called.shows v test shows.locks those)
          (sound_blocks old.kind v v (filter test v.granted) shows.sound);
    }
