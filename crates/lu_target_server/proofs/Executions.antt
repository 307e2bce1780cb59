-- A request at the metadata target that was executed, as an act or as a transaction: from what each call told and left.
use Rattle.std.proofs.Common.{◌≡◌, ℕ, ◌+◌, ◌<◌, Bool, true, false, List, [], ◌∷◌, Some, refl, sym, ap, subst, ◌∙◌}
use Rattle.std.specs.Prelude.{All, IsSome}
use Rattle.std.proofs.lemmas.List.Elements.{All-get_or}
use Rattle.std.proofs.lemmas.Option.{slice_get_within, get_or_from_slice_get}
use Rattle.lu_base.specs.declared.ids.At.{At}
use Rattle.lu_base.specs.declared.ids.Txn.{Txn as TxnOf}
use Rattle.lu_base.specs.declared.ids.Who.{Who}
use Rattle.lu_base.specs.declared.locks.Lock.{Lock}
use Rattle.lu_base.specs.declared.locks.Mode.TheVariants.{EX}
use Rattle.lu_base.specs.declared.locks.Policy.TheVariants.{Bits}
use Rattle.lu_msg.specs.declared.answers.Answer.{Answer}
use Rattle.lu_msg.specs.declared.messages.Message.TheVariants as message
use Rattle.lu_msg.specs.declared.messages.Reply.{Reply}
use Rattle.lu_msg.specs.declared.messages.Request.{Request}
use Rattle.lu_part.specs.declared.parts.Part.{Part}
use Rattle.lu_service.specs.declared.services.Kind.{Kind}
use Rattle.lu_service.specs.declared.services.Kind.TheVariants.{Mdt}
use Rattle.lu_service.specs.Acts.{Acts}
use Rattle.lu_service.specs.Contents.{asked}
use Rattle.lu_service.specs.Names.{names}
use Rattle.lu_service.specs.Takes.{Takes, IsNamed}
use Rattle.lu_trace.specs.declared.entries.Entry.TheVariants as line
use Rattle.lu_trace.specs.Turns.{Making, with_line}
use Rattle.lu_txn.specs.Slots.{slot_of}
use Rattle.lu_spec_entries.specs.Carried.{Deed}
use Rattle.lu_spec_entries.specs.Printed.{printed_entry}
use Rattle.lu_spec_entries.specs.Words.{Act, Txn}
use Rattle.lu_spec_target.specs.Names.{does_change, locks_for, names_deed, grant_lines, row_executes, row_acts, row_transacts}
use Rattle.lu_spec_target.specs.Replies.{seen_in, none, next_number, reply_to, deed_of, to_life, replies}
use Rattle.lu_spec_target.specs.States.{Target, after, turn}
use Rattle.lu_target_refines.specs.Contents.{ShowsNames}
use Rattle.lu_target_refines.proofs.Names.{does_change_is, names_deed_is, locks_for_are, acts_only, transacts}
use Rattle.lu_target_redo.specs.Shown as redo
use Rattle.lu_target_invariant.proofs.Names.{sound_executes}
use Rattle.lu_target_store.specs.Stores.{StoreState, Serves, HasTaken}
use Rattle.lu_target_store.proofs.Keeping.{serves_slot}
use Rattle.lu_spec_entries.specs.Given.{giving}
use Rattle.lu_target_server.specs.Servers.{ServerState, Shows, Makes, IsTaken, IsSound}
use Rattle.lu_target_server.specs.Answering.{Tells, MayAnswer, IsAnswered, IsAppended}
use Rattle.lu_target_server.specs.Acting.{HasTold, HasToldAs}
use Rattle.lu_target_server.specs.Passes.{IsWaiting}
use Rattle.lu_target_server.proofs.Composing.{giving_more, noted, makes_as, names_shown}
use Rattle.lu_target_server.proofs.Staying.{shows_acts, shows_transacts}

-- what a list of locks shows past its end
abbrev pub no_lock : Lock
no_lock = record {
  cookie = record { 0 = 0 };
  resource = record { fid = record { 0 = 0 }; stripe = 0 };
  ask =
      record { who = record { client = 0; life = 0 }; mode = EX; policy = Bits 0 };
}

-- ---- a request that waits

pub waiting_holds : (P : Request → Type 0) (queue : List Request) (r : Request) → IsWaiting r queue → All P queue → P r
waiting_holds P queue r waits all =
    subst P (get_or_from_slice_get queue waits.0 r r waits.1) (All-get_or P queue waits.0 r (slice_get_within queue waits.0 r waits.1) all)

pub waiting_taken : (s : ServerState) (v : Target) (r : Request) → Shows s v → IsWaiting r s.requests → IsTaken s.kind v r
waiting_taken s v r shows waits =
    waiting_holds (IsTaken s.kind v) s.requests r waits (subst (All (IsTaken s.kind v)) shows.requests shows.sound.queue)

pub waiting_named : (s : ServerState) (v : Target) (r : Request) → s.kind ≡ Mdt → Shows s v → IsWaiting r s.requests → IsNamed r.op
waiting_named s v r names shows waits = subst (λ (kind : Kind). Takes kind r.op) names (IsTaken.takes (waiting_taken s v r shows waits))

-- what is executed leaves what the state keeps
executed_sound : (s : ServerState) (v : Target) (at : At) (r : Request) (changes : Bool) → s.kind ≡ Mdt → Shows s v → IsWaiting r s.requests
    → IsSound s.kind (turn v (row_executes v at r changes))
executed_sound s v at r changes names shows waits =
    subst (λ (kind : Kind). IsSound kind (turn v (row_executes v at r changes))) (sym names)
    (sound_executes v v at r changes (IsTaken.life (waiting_taken s v r shows waits))
    (subst (λ (kind : Kind). IsSound kind v) names shows.sound))

-- ---- an act

-- before it, once locks and contents are those after it, and once it was answered
pub record HasActed (acts : Acts) (at : At) (r : Request) (reply : Reply) (old mid new : ServerState) : Type 0 where
  pub names : acts ≡ names
  pub kind : old.kind ≡ Mdt
  pub waits : IsWaiting r old.requests
  pub still : acts.changes old.contents (asked none r.who r.op) ≡ false
  pub by : HasTold acts at r reply old mid
  pub answered : IsAnswered r.tag reply mid new

module _ (acts : Acts) (at : At) (r : Request) (reply : Reply) (old mid new : ServerState)
    (done : HasActed acts at r reply old mid new) where
  -- what it wrote is nothing that the code asks for
  own_deed : Deed
  own_deed = record { tag = r.tag; op = r.op; writes = acts.writes old.contents (asked none r.who r.op); reply = reply }

  mid_tells : (v : Target) → Shows old v → Tells mid v
  mid_tells v shows = subst (λ (s : ServerState). Tells s v) (sym done.by.mid_is) (record { boot = shows.boot; store = shows.store })

  deed_is : (v : Target) → Shows old v → names_deed v at r none (locks_for v r) ≡ own_deed
  unfolding own_deed
  deed_is v shows =
      let below : ShowsNames v.setting.osts (v.number + 1) old.contents v.contents = names_shown old v done.kind shows in
      let given_is : done.by.given ≡ locks_for v r =
      done.by.admitted.are v shows.locks ∙ locks_for_are acts done.names (v.number + 1) old.contents v below r done.by.wants done.by.grants
      in
      names_deed_is acts done.names (v.number + 1) old.contents v below at r none (locks_for v r) done.by.told done.by.touched
      (acts.writes old.contents (asked none r.who r.op))
      done.by.tells done.by.touches refl
      ∙ ap (λ (locks : List Lock). deed_of r (acts.writes old.contents (asked none r.who r.op))
      (reply_to v r none (seen_in done.by.touched v.log) at locks done.by.told)) (sym given_is)
      ∙ ap (λ (seen : List ℕ). deed_of r (acts.writes old.contents (asked none r.who r.op))
      (reply_to v r none seen at done.by.given done.by.told)) (sym (done.by.sees v shows.store))
      ∙ ap (λ (told : Reply). deed_of r (acts.writes old.contents (asked none r.who r.op)) told)
      (sym (done.by.replies v (mid_tells v shows)))

  given_in : (v : Target) → Shows old v → reply.locks ≡ done.by.given
  given_in v shows = ap (λ (told : Reply). told.locks) (done.by.replies v (mid_tells v shows))

  pub acts_made : (before end : Making) → ((d : Deed) → d.reply ≡ reply → end ≡ giving before (row_acts d))
      → Makes (λ v. row_acts (names_deed v at r none (locks_for v r))) old new before end
  unfolding own_deed
  acts_made before end gives =
      record {
        gives = λ v shows. gives own_deed refl ∙ ap (λ (d : Deed). giving before (row_acts d)) (sym (deed_is v shows));
        shows = λ v shows.
            let below : ShowsNames v.setting.osts (v.number + 1) old.contents v.contents = names_shown old v done.kind shows in
            let reading = subst (λ (kind : Kind). IsSound kind v) done.kind shows.sound in
            let locks_told = done.by.admitted.told v own_deed shows.locks reading.locks.0 reading.locks.1 (given_in v shows) in
            let sound : IsSound old.kind (turn v (row_acts own_deed)) =
            subst (λ (d : Deed). IsSound old.kind (turn v (row_acts d))) (deed_is v shows)
            (executed_sound old v at r false done.kind shows done.waits) in
            subst (λ (d : Deed). Shows new (turn v (row_acts d))) (sym (deed_is v shows))
            (shows_acts old mid.locks mid.contents new v own_deed
            (subst (λ (s : ServerState). IsAnswered r.tag reply s new) done.by.mid_is done.answered) shows locks_told
            (subst (λ (kind : Kind). redo.Shows kind v.setting.osts v.number mid.contents v.contents) (sym done.kind)
            (acts_only acts done.names v.setting.osts (v.number + 1) old.contents mid.contents v.contents below (asked none r.who r.op)
            done.still done.by.left))
            sound);
      }

-- ---- a transaction

pub record HasTransacted (acts : Acts) (at : At) (r : Request) (written : List Part) (reply : Reply) (old mid new : ServerState) : Type
    0 where
  pub names : acts ≡ names
  pub kind : old.kind ≡ Mdt
  pub waits : IsWaiting r old.requests
  pub number : TxnOf
  pub next : (v : Target) → Serves old.store v → number ≡ next_number v
  pub writes : written ≡ acts.writes old.contents (asked number r.who r.op)
  pub by : HasToldAs acts at number r reply old mid
  pub appended : IsAppended (record { tag = r.tag; op = r.op; writes = written; reply = reply }) mid new

module _ (acts : Acts) (at : At) (r : Request) (written : List Part) (reply : Reply) (old mid new : ServerState)
    (done : HasTransacted acts at r written reply old mid new) where
  abbrev deed : Deed
  deed = record { tag = r.tag; op = r.op; writes = written; reply = reply }

  replied : (v : Target) → Shows old v → reply ≡ reply_to v r done.number done.by.seen at [] done.by.told
  replied v shows = done.by.replies v (subst (λ (s : ServerState). Tells s v) (sym done.by.mid_is)
      (record { boot = shows.boot; store = shows.store }))

  transaction_is : (v : Target) → Shows old v → names_deed v at r (next_number v) [] ≡ deed
  transaction_is v shows =
      let below : ShowsNames v.setting.osts (v.number + 1) old.contents v.contents = names_shown old v done.kind shows in
      ap (λ (number : TxnOf). names_deed v at r number []) (sym (done.next v shows.store))
      ∙ names_deed_is acts done.names (v.number + 1) old.contents v below at r done.number [] done.by.told done.by.touched written
      done.by.tells done.by.touches done.writes
      ∙ ap (λ (seen : List ℕ). deed_of r written (reply_to v r done.number seen at [] done.by.told)) (sym (done.by.sees v shows.store))
      ∙ ap (λ (told : Reply). deed_of r written told) (sym (replied v shows))

  pub transacts_made : (before end : Making) → end ≡ giving before (row_transacts deed)
      → Makes (λ v. row_transacts (names_deed v at r (next_number v) [])) old new before end
  transacts_made before end gives =
      record {
        gives = λ v shows. gives ∙ ap (λ (d : Deed). giving before (row_transacts d)) (sym (transaction_is v shows));
        shows = λ v shows.
            let below : ShowsNames v.setting.osts (v.number + 1) old.contents v.contents = names_shown old v done.kind shows in
            let number_is : reply.txn ≡ done.number = ap (λ (told : Reply). told.txn) (replied v shows) in
            let who_is : reply.who ≡ r.who = ap (λ (told : Reply). told.who) (replied v shows) in
            let next_is : reply.txn ≡ next_number v = number_is ∙ done.next v shows.store in
            let left_is : mid.contents ≡ acts.after old.contents (asked reply.txn reply.who r.op) =
            done.by.left
            ∙ ap (λ (number : TxnOf). acts.after old.contents (asked number r.who r.op)) (sym number_is)
            ∙ ap (λ (who : Who). acts.after old.contents (asked reply.txn who r.op)) (sym who_is) in
            let sound : IsSound old.kind (turn v (row_transacts deed)) =
            subst (λ (d : Deed). IsSound old.kind (turn v (row_transacts d))) (transaction_is v shows)
            (executed_sound old v at r true done.kind shows done.waits) in
            subst (λ (d : Deed). Shows new (turn v (row_transacts d))) (sym (transaction_is v shows))
            (shows_transacts old mid.contents new v deed (subst (λ (s : ServerState). IsAppended deed s new) done.by.mid_is done.appended)
            shows next_is
            (subst (λ (kind : Kind). redo.Shows kind v.setting.osts (after v (Txn deed)).number mid.contents (after v (Txn deed)).contents)
            (sym done.kind)
            (transacts acts done.names old.contents mid.contents v below deed next_is (waiting_named old v r done.kind shows done.waits)
            left_is))
            sound);
      }

-- ---- what the code gives and asks for

-- it may be answered
pub may_answer : (s mid : ServerState) (v : Target) (r : Request) (reply : Reply) → Shows s v → IsWaiting r s.requests → mid.store ≡ s.store
    → reply.who ≡ r.who → MayAnswer r.tag reply mid
may_answer s mid v r reply shows waits same who =
    subst (λ (store : StoreState). MayAnswer r.tag reply (record mid { store = store })) (sym same)
    (record {
      slot = subst (λ (w : Who). IsSome (slot_of w s.store.journal.slots)) (sym who)
          (serves_slot s.store v r.who shows.store (IsTaken.life (waiting_taken s v r shows waits)));
      taken = subst (λ (w : Who). HasTaken w r.tag s.store) (sym who)
          (waiting_holds (λ (q : Request). HasTaken q.who q.tag s.store) s.requests r waits shows.taken);
    })

pub act_noted :
    (before acted end : Making) (d : Deed) (reply : Reply) (a : Answer) → d.reply ≡ reply → a ≡ reply.answer
    → acted.step ≡ with_line before.at before.step (line.Act reply.who reply.xid a) → acted.at ≡ before.at → end
    ≡ giving acted (grant_lines d reply.locks)
    → end ≡ giving before (Act d ∷ grant_lines d d.reply.locks)
act_noted before acted end d reply a is copied step at lines =
    let prints : printed_entry 0 (Act d) ≡ Some (line.Act reply.who reply.xid a) =
    ap (λ (told : Reply). printed_entry 0 (Act (record d { reply = told }))) is
    ∙ ap (λ (told : Answer). Some (line.Act reply.who reply.xid told)) (sym copied) in
    let first : acted ≡ giving before (Act d ∷ []) = noted before acted (line.Act reply.who reply.xid a) (Act d) prints refl step at in
    lines
    ∙ ap (λ (told : Reply). giving acted (grant_lines d told.locks)) (sym is)
    ∙ ap (λ (making : Making). giving making (grant_lines d d.reply.locks)) first
    ∙ giving_more before (Act d ∷ []) (grant_lines d d.reply.locks)

pub act_given :
    (before lined end : Making) (d : Deed) (reply : Reply) → d.reply ≡ reply → lined ≡ giving before (Act d ∷ grant_lines d d.reply.locks)
    → end ≡ giving lined (to_life reply.who (message.Reply reply) ∷ []) → end ≡ giving before (row_acts d)
act_given before lined end d reply is lines sent =
    sent
    ∙ ap (λ (told : Reply). giving lined (to_life told.who (message.Reply told) ∷ [])) (sym is)
    ∙ ap (λ (making : Making). giving making (replies d ∷ [])) lines
    ∙ giving_more before (Act d ∷ grant_lines d d.reply.locks) (replies d ∷ [])

-- ---- one or the other

pub as_transacts : (at : At) (r : Request) (old new : ServerState) (before end : Making)
    → ((v : Target) → Shows old v → does_change v r ≡ true)
    → Makes (λ v. row_transacts (names_deed v at r (next_number v) [])) old new before end
    → Makes (λ v. row_executes v at r (does_change v r)) old new before end
as_transacts at r old new before end changes makes =
    makes_as (λ v. row_transacts (names_deed v at r (next_number v) [])) (λ v. row_executes v at r (does_change v r)) old new before end
    (λ v shows. ap (row_executes v at r) (sym (changes v shows))) makes

pub as_acts : (at : At) (r : Request) (old new : ServerState) (before end : Making) → ((v : Target) → Shows old v → does_change v r ≡ false)
    → Makes (λ v. row_acts (names_deed v at r none (locks_for v r))) old new before end
    → Makes (λ v. row_executes v at r (does_change v r)) old new before end
as_acts at r old new before end changes makes =
    makes_as (λ v. row_acts (names_deed v at r none (locks_for v r))) (λ v. row_executes v at r (does_change v r)) old new before end
    (λ v shows. ap (row_executes v at r) (sym (changes v shows))) makes

-- what the service says of that
pub would_is : (acts : Acts) → acts ≡ names → (s : ServerState) (v : Target) (r : Request) → s.kind ≡ Mdt → Shows s v → does_change v r
    ≡ acts.changes s.contents (asked none r.who r.op)
would_is acts is s v r kind shows = sym (does_change_is acts is (v.number + 1) s.contents v (names_shown s v kind shows) r
    (acts.changes s.contents (asked none r.who r.op)) refl)

-- the next number is above all that the service used
pub above_all : (s : ServerState) (v : Target) (number : TxnOf) → s.kind ≡ Mdt → Shows s v → number ≡ next_number v
    → s.contents.last < number.0
above_all s v number kind shows is = subst (λ (n : TxnOf). s.contents.last < n.0) (sym is) (ShowsNames.last (names_shown s v kind shows))
