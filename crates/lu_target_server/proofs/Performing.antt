-- How a server of objects makes the row of a put or a cut: from what its service and its store did.
use Rattle.std.proofs.Common.{◌≡◌, ℕ, ◌≤◌, true, List, [], refl, sym, ap, subst, ◌∙◌, arith}
use Rattle.std.specs.Prelude.{if◌then◌else◌}
use Rattle.lu_base.specs.declared.ids.At.{At}
use Rattle.lu_base.specs.declared.ids.Txn.{Txn}
use Rattle.lu_base.specs.declared.ids.Who.{Who}
use Rattle.lu_base.specs.declared.locks.Lock.{Lock}
use Rattle.lu_spec_machine.specs.Objects.{object_touches}
use Rattle.lu_msg.specs.declared.answers.Answer.{Answer}
use Rattle.lu_msg.specs.declared.messages.Reply.{Reply}
use Rattle.lu_msg.specs.declared.messages.Request.{Request}
use Rattle.lu_msg.specs.declared.operations.Op.{Op}
use Rattle.lu_msg.specs.declared.operations.Op.TheVariants as op
use Rattle.lu_part.specs.declared.parts.Part.{Part}
use Rattle.lu_service.specs.Acts.{Acts}
use Rattle.lu_service.specs.Contents.{Contents, asked}
use Rattle.lu_service.specs.Objects.{objects, alters, answer_of}
use Rattle.lu_service.specs.declared.services.Kind.{Kind}
use Rattle.lu_service.specs.declared.services.Kind.TheVariants.{Ost}
use Rattle.lu_trace.specs.Turns.{Making}
use Rattle.lu_spec_entries.specs.Carried.{Deed}
use Rattle.lu_spec_entries.specs.Words.{Txn as Transacts}
use Rattle.lu_spec_target.specs.Objects.{row_written, written}
use Rattle.lu_spec_target.specs.Replies.{next_number, reply_to, seen_in}
use Rattle.lu_spec_target.specs.States.{Target, after, turn}
use Rattle.lu_spec_target.specs.Stored.{transaction_of}
use Rattle.lu_target_refines.specs.Contents.{ShowsObjects}
use Rattle.lu_target_refines.proofs.Objects.{puts, written_is}
use Rattle.lu_target_redo.specs.Shown as redo
use Rattle.lu_target_invariant.proofs.Entries.{none_asks}
use Rattle.lu_target_invariant.proofs.Objects.{sound_written}
use Rattle.lu_target_server.specs.Answering.{Tells, IsAppended}
use Rattle.lu_spec_entries.specs.Given.{giving}
use Rattle.lu_target_server.specs.Servers.{ServerState, Shows, Makes, IsUnasked}
use Rattle.lu_target_server.proofs.Composing.{objects_shown}
use Rattle.lu_target_server.proofs.ObjectRows.{sees_nothing}
use Rattle.lu_target_server.proofs.Staying.{shows_transacts}

-- a put or a cut has seen nothing
pub alters_unseen : (o : Op) (answer : Answer) → alters o ≡ true → object_touches o answer ≡ []
alters_unseen (op.Lookup path) answer is = absurd (cc)
alters_unseen (op.Stat path) answer is = absurd (cc)
alters_unseen (op.List path) answer is = absurd (cc)
alters_unseen (op.Layout path) answer is = absurd (cc)
alters_unseen (op.Mkdir path) answer is = absurd (cc)
alters_unseen (op.Create path size count) answer is = absurd (cc)
alters_unseen (op.Link one new) answer is = absurd (cc)
alters_unseen (op.Unlink path) answer is = absurd (cc)
alters_unseen (op.Rmdir path) answer is = absurd (cc)
alters_unseen (op.Rename one new) answer is = absurd (cc)
alters_unseen (op.Chmod path mode) answer is = absurd (cc)
alters_unseen (op.Open path) answer is = absurd (cc)
alters_unseen (op.Close opened fid) answer is = absurd (cc)
alters_unseen (op.Enqueue resource mode extent) answer is = absurd (cc)
alters_unseen (op.Get resource cookie page) answer is = absurd (cc)
alters_unseen (op.Put resource cookie offset bytes) answer is = refl
alters_unseen (op.Cut resource cookie size) answer is = refl
alters_unseen (op.Size resource) answer is = absurd (cc)

-- its reply has no locks
pub reply_plain : (v : Target) (r : Request) (number : Txn) (seen : List ℕ) (at from : At) (locks : List Lock) (answer : Answer)
    (reply : Reply) → reply ≡ reply_to v r number seen at locks answer → seen ≡ [] → at ≡ from
    → locks ≡ [] → reply ≡ reply_to v r number [] from [] answer
reply_plain v r number seen at from locks answer reply e s a l =
    e ∙ ap (λ ns. reply_to v r number ns at locks answer) s ∙ ap (λ (x : At). reply_to v r number [] x locks answer) a
    ∙ ap (λ (ls : List Lock). reply_to v r number [] from ls answer) l

-- what the code put together: the deed of this reply
abbrev pub performed : Request → List Part → Reply → Deed
performed r writes reply = record { tag = r.tag; op = r.op; writes = writes; reply = reply }

module _ (old middle new : ServerState) (r : Request) (at : At) (number : Txn) (answer : Answer) (writes : List Part) (reply : Reply)
    (acts : Acts) (is : acts ≡ objects) (kind : old.kind ≡ Ost)
    (unasked : IsUnasked r old) (alter : alters r.op ≡ true) (unseen : (a : Answer) → object_touches r.op a ≡ [])
    (next : (v : Target) → Shows old v → number ≡ next_number v)
    (answers : answer ≡ acts.answer old.contents (asked number r.who r.op))
    (written_so : writes ≡ acts.writes old.contents (asked number r.who r.op))
    (then_holds : middle.contents ≡ acts.after old.contents (asked number r.who r.op))
    (mid : middle ≡ record old { contents = middle.contents })
    (told : (v : Target) → Tells middle v → reply ≡ reply_to v r number [] at [] answer) where
  tells_it : (v : Target) → Shows old v → Tells middle v
  tells_it v shows = subst (λ (s : ServerState). Tells s v) (sym mid) (record { boot = shows.boot; store = shows.store })

  -- it is the rows'
  pub performed_is : (v : Target) → Shows old v → performed r writes reply ≡ written v at r
  performed_is v shows =
      let e : number ≡ next_number v = next v shows in
      let one : reply ≡ reply_to v r (next_number v) (seen_in [] v.log) at [] answer =
      told v (tells_it v shows) ∙ ap (λ (n : Txn). reply_to v r n [] at [] answer) e
      ∙ ap (λ ns. reply_to v r (next_number v) ns at [] answer) (sym (sees_nothing v.log)) in
      let a : answer ≡ acts.answer old.contents (asked (next_number v) r.who r.op) = answers
      ∙ ap (λ (n : Txn). acts.answer old.contents (asked n r.who r.op)) e in
      let w : writes ≡ acts.writes old.contents (asked (next_number v) r.who r.op) = written_so
      ∙ ap (λ (n : Txn). acts.writes old.contents (asked n r.who r.op)) e in
      let t : [] ≡ acts.touches old.contents (asked (next_number v) r.who r.op) =
      sym (ap (λ (x : Acts). x.touches old.contents (asked (next_number v) r.who r.op)) is ∙ unseen (answer_of old.contents.objects r.op))
      in
      ap (performed r writes) one ∙ sym (written_is acts is old.contents v at r answer [] writes alter a t w)

  last_is : middle.contents.last ≡ number.0
  last_is =
      ap (λ (s : Contents). s.last) (then_holds ∙ ap (λ (x : Acts). x.after old.contents (asked number r.who r.op)) is)
      ∙ ap (λ b. if b then number.0 else old.contents.last) alter

  shown : (v : Target) → Shows old v → IsAppended (performed r writes reply) middle new
      → Shows new (turn v (row_written (performed r writes reply)))
  shown v shows appended =
      let d : Deed = performed r writes reply in
      let same : d ≡ written v at r = performed_is v shows in
      let txn : d.reply.txn ≡ number = ap (λ (x : Reply). x.txn) (told v (tells_it v shows)) in
      let who : d.reply.who ≡ r.who = ap (λ (x : Deed). x.reply.who) same in
      let xid : d.reply.xid ≡ r.xid = ap (λ (x : Deed). x.reply.xid) same in
      let ours : middle.contents ≡ acts.after old.contents (asked d.reply.txn d.reply.who r.op) =
      then_holds ∙ ap (λ (n : Txn). acts.after old.contents (asked n r.who r.op)) (sym txn)
      ∙ ap (λ (w : Who). acts.after old.contents (asked d.reply.txn w r.op)) (sym who) in
      let has : ShowsObjects middle.contents (after v (Transacts d)).contents =
      puts acts is v.setting.osts old.contents middle.contents v.contents (objects_shown old v kind shows).1 (transaction_of d) ours in
      let least : middle.contents.last ≤ d.reply.txn.0 = let number_of = ap (λ (n : Txn). n.0) txn in let last = last_is
      in omega (arith, number_of, last) in
      let contents : redo.Shows old.kind v.setting.osts d.reply.txn.0 middle.contents (after v (Transacts d)).contents =
      subst (λ (k : Kind). redo.Shows k v.setting.osts d.reply.txn.0 middle.contents (after v (Transacts d)).contents) (sym kind)
      (least, has) in
      shows_transacts old middle.contents new v d (subst (λ (s : ServerState). IsAppended d s new) mid appended) shows (txn ∙ next v shows)
      contents
      (sound_written old.kind v d (none_asks d r v.glimpses who xid (unasked v shows)) shows.sound)

  pub makes_written : (begun done : Making) → done ≡ giving begun (row_written (performed r writes reply))
      → IsAppended (performed r writes reply) middle new
      → Makes (λ v. row_written (written v at r)) old new begun done
  makes_written begun done sent appended = record {
    gives = λ v shows. sent ∙ ap (λ (d : Deed). giving begun (row_written d)) (performed_is v shows);
    shows = λ v shows. subst (λ (d : Deed). Shows new (turn v (row_written d))) (performed_is v shows) (shown v shows appended);
  }
