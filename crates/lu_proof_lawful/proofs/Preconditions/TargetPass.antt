-- The pass of the metadata target over the requests that wait makes lines that the guards allow: executions with the locks that they
-- grant, each answered (`answer_good` says so of any target), and the calling back of locks.
use Rattle.std.proofs.Common.{◌≡◌, ℕ, zero, suc, ◌+◌, ◌*◌, ◌<◌, ◌≤◌, Bool, true, false, List, [], ◌∷◌, ◌++◌, Some, ◌⊎◌, inl, inr, refl, sym}
use Rattle.std.proofs.Common.{subst, ap, ◌∙◌, arith}
use Rattle.std.specs.Prelude.{max, ◌||◌, not, if◌then◌else◌, length}
use Rattle.std.specs.List.{list_any}
use Rattle.std.proofs.lemmas.Bool.{cond_both, cond-true}
use Rattle.lu_base.specs.declared.ids.At.{At}
use Rattle.lu_base.specs.declared.ids.Node.TheVariants as node
use Rattle.lu_base.specs.declared.ids.Stamp.{Stamp}
use Rattle.lu_base.specs.declared.ids.Txn.{Txn as TxnOf}
use Rattle.lu_base.specs.declared.locks.Lock.{Lock}
use Rattle.lu_msg.specs.declared.messages.Request.{Request as RequestOf}
use Rattle.lu_msg.specs.declared.operations.Op.{Op}
use Rattle.lu_msg.specs.declared.operations.Op.TheVariants as op
use Rattle.lu_part.specs.declared.parts.Part.{Part}
use Rattle.lu_spec_machine.specs.Footprint.{Operation, changes, grants}
use Rattle.lu_spec_machine.specs.Tree.{Tree}
use Rattle.lu_spec_machine.proofs.Transactions.{readings_change_nothing}
use Rattle.lu_spec_entries.specs.Carried.{Deed, Slot, Called, Glimpse}
use Rattle.lu_spec_entries.specs.Words.{Entry, Take, Act, Txn, Grant, Block, Line, line, with_turn}
use Rattle.lu_spec_entries.specs.Concerns.{only}
use Rattle.lu_spec_target.specs.Names as rows
use Rattle.lu_spec_target.specs.Names.{does_change, guards_part, in_way, is_free, is_read, is_ready, grant_lines, names_deed, names_go}
use Rattle.lu_spec_target.specs.Names.{row_acts, row_transacts, row_executes, row_waits, row_pass, row_sweep}
use Rattle.lu_spec_target.specs.Locks.{with_lock, without_lock}
use Rattle.lu_spec_target.specs.Phase.{greatest_cookie}
use Rattle.lu_spec_target.specs.Replies as kept
use Rattle.lu_spec_target.specs.Replies.{blocks, block_of, called, is_called, replies}
use Rattle.lu_spec_target.specs.States.{Target, after, follow, turn as turned}
use Rattle.lu_proof_lawful.specs.Covered.Deeds.{asked, deed, locks_of, written_by, again}
use Rattle.lu_proof_lawful.specs.Covered.Heads.{Head}
use Rattle.lu_proof_lawful.specs.Covered.TargetParts.{is_request_of, without_request, is_slot_of as is_slot, answered}
use Rattle.lu_proof_lawful.specs.Covered.TargetStates.{Server, none, next_number, server_of, slot_of}
use Rattle.lu_proof_lawful.proofs.Preconditions.Guards.{In, Did, Shows, AllShown, Taken, Owes}
use Rattle.lu_proof_lawful.proofs.Preconditions.StoryGuards.{GrantOk, IsServing}
use Rattle.lu_proof_lawful.proofs.Preconditions.Lists.{turn, in_filter}
use Rattle.lu_proof_lawful.proofs.Preconditions.LockLists.{Rises, in_above, rises_filter, granted_stands, stands_same, greatest_least}
use Rattle.lu_proof_lawful.proofs.Preconditions.LockLists.{greatest_same, called_beside, called_now, filter_twice}
use Rattle.lu_proof_lawful.proofs.Preconditions.TargetAlike.{IsIdle, Alike, Serving, AllPlain, serving_is}
use Rattle.lu_proof_lawful.proofs.Preconditions.TargetGood.{GoodAt, Reaches, serves_lines, reaches_more, turned_more}
use Rattle.lu_proof_lawful.proofs.Preconditions.TargetSlots.{is_slot_self}
use Rattle.lu_proof_lawful.proofs.Preconditions.Turns.{Settled, owes_nothing}

-- ---- what the whole state reads is what the guards speak of

module _ (osts t : ℕ) (v : Target) (s : Server) (h : Alike osts t v s) where
  next_same : kept.next_number v ≡ next_number s
  next_same = ap (λ (n : ℕ). record { 0 = n }) (let is = h.number in omega (arith, is))

  deed_same : (at : At) (r : RequestOf) (number : TxnOf) (locks : List Lock) → names_deed v at r number locks
      ≡ deed osts s at r number locks
  deed_same at r number locks = rw (h.osts, h.tree, h.log, h.boot, h.committed) refl

  locks_same : (r : RequestOf) → rows.locks_for v r ≡ locks_of osts s r
  locks_same r = rw (h.osts, h.tree, h.cookie) refl

  change_same : (r : RequestOf) → does_change v r ≡ changes osts s.tree (asked r none)
  change_same r = rw (h.osts, h.tree) refl

  written_same : (r : RequestOf) → rows.written_by v r ≡ written_by osts s r
  written_same r = rw (h.osts, h.tree, next_same) refl

  way_same : (r : RequestOf) → in_way v.granted (rows.written_by v r) ≡ in_way s.granted (written_by osts s r)
  way_same r = rw (h.granted, written_same r) refl

  transacts_same : (at : At) (r : RequestOf) → row_executes v at r true ≡ row_transacts (deed osts s at r (next_number s) [])
  transacts_same at r =
      ap (λ (n : TxnOf). row_transacts (names_deed v at r n [])) next_same ∙ ap row_transacts (deed_same at r (next_number s) [])

  acts_same : (at : At) (r : RequestOf) → row_executes v at r false ≡ row_acts (deed osts s at r none (locks_of osts s r))
  acts_same at r =
      ap (λ (ls : List Lock). row_acts (names_deed v at r none ls)) (locks_same r) ∙ ap row_acts (deed_same at r none (locks_of osts s r))

-- a reading isn't a transaction
read_stays : (osts : ℕ) (tree : Tree) (a : Operation) → is_read a.op ≡ true → changes osts tree a ≡ false
read_stays osts tree a = by a.op
  where
    by : (o : Op) → is_read o ≡ true → changes osts tree (record a { op = o }) ≡ false
    by (op.Lookup path) e = readings_change_nothing osts tree (record a { op = op.Lookup path }) tt
    by (op.Stat path) e = readings_change_nothing osts tree (record a { op = op.Stat path }) tt
    by (op.List path) e = readings_change_nothing osts tree (record a { op = op.List path }) tt
    by (op.Layout path) e = readings_change_nothing osts tree (record a { op = op.Layout path }) tt
    by o e = absurd (cc)

-- what changes names goes on where no lock is in its way
ready_free : (v : Target) (stood : Bool) (r : RequestOf) → is_ready v stood r ≡ true → does_change v r ≡ true
    → is_free (in_way v.granted (rows.written_by v r)) ≡ true
ready_free v stood r ready moves = by (is_read r.op) (does_change v r) refl refl ready
  where
    free : Bool
    free = is_free (in_way v.granted (rows.written_by v r))

    by : (reads m : Bool) → is_read r.op ≡ reads → does_change v r ≡ m → (if reads then not stood else (not m || free)) ≡ true → free ≡ true
    by true m e f q = let still : does_change v r ≡ false = read_stays v.setting.osts v.contents.tree (asked r none) e in absurd (cc)
    by false true e f q = q
    by false false e f q = absurd (cc)

-- ---- the newest line isn't a message that was taken

abbrev pub NotTaken : List Line → Type 0
NotTaken [] = Unit {0}
NotTaken (l ∷ past) = elim l.entry [ Take n from m ↦ ⊥ | _ ↦ Unit {0} ]

not_taken : (past : List Line) → NotTaken past → Taken past → ⊥
not_taken past n t = subst NotTaken t.newest n

-- ---- what was done is answered, at any target

pub slot_answered : (d : Deed) (slot : Slot) → (if is_slot d.reply.who d.tag d.reply.who d.tag then answered d slot else slot).reply
    ≡ Some d.reply
slot_answered d slot = ap (λ (x : Slot). x.reply) (cond-true (is_slot d.reply.who d.tag d.reply.who d.tag) (answered d slot) slot
    (is_slot_self d.reply.who d.tag))

pub answer_good : (head : Head) (stamp : Stamp) (t : ℕ) (past story : List Line) (d : Deed) → story ≡ only t past
    → IsServing head.osts story → Owes past (turn stamp (node.Target t)) (replies d) → Did past d
    → Did story d → NotTaken past → AllShown past
    → (slot_of d.reply.who d.tag story).reply ≡ Some d.reply → d.reply ≡ again (server_of head.osts story) d.reply
    → GoodAt head stamp t past story (replies d ∷ [])
answer_good head stamp t past story d of_target serves owes did own new shown slot is = (
  (
    owes,
    (
      record {
        who = d.reply.who;
        tag = d.tag;
        kept = d.reply;
        slot =
            subst (λ (p : List Line). (slot_of d.reply.who d.tag p).reply ≡ Some d.reply) of_target slot;
        is = refl;
        now =
            inl (d, did, refl);
      },
      (λ taken. absurd (not_taken past new taken)),
      shown,
    ),
    record { serves = serves; who = d.reply.who; tag = d.tag; kept = d.reply; slot = slot; is = is; to = refl; cause = inl (d, own, refl) },
  ),
  tt,
)

-- ---- lines of a turn of the metadata target, each allowed; at their end nothing is owed

module _ (head : Head) (stamp : Stamp) where
  abbrev pub here : At
  here = turn stamp (node.Target 0)

  abbrev pub Good : List Line → List Entry → Type 0
  Good past es = GoodAt head stamp 0 past (only 0 past) es

  abbrev pub ServesAt : Target → List Line → Type 0
  ServesAt v past = Serving head 0 v (only 0 past)

  abbrev server : List Line → Server
  server past = server_of head.osts (only 0 past)

  -- ---- what was done is answered

  reply_good : (past : List Line) (d : Deed) → IsServing head.osts (only 0 past) → Owes past here (replies d) → Did past d
      → Did (only 0 past) d → NotTaken past → AllShown past → (slot_of d.reply.who d.tag (only 0 past)).reply ≡ Some d.reply → d.reply
      ≡ again (server past) d.reply
      → Good past (replies d ∷ [])
  reply_good past d serves owes did own new shown slot is = answer_good head stamp 0 past (only 0 past) d refl serves owes did own new shown
      slot is

  transacts_good : (past : List Line) (r : RequestOf) → IsServing head.osts (only 0 past) → Settled past → In r (server past).waiting
      → changes head.osts (server past).tree (asked r none) ≡ true
      → is_free (in_way (server past).granted (written_by head.osts (server past) r)) ≡ true → (server past).count < 4294967295
      → Good past (row_transacts (deed head.osts (server past) here r (next_number (server past)) []))
  transacts_good past r serves settled waits moves free numbers =
      let s = server past in
      let d = deed head.osts s here r (next_number s) [] in (
        (
          owes_nothing past here (Txn d) settled,
          inl refl,
          inl (
            refl,
            record { serves = serves; numbers = numbers; request = r; waits = waits; moves = moves; free = free; is = refl },
          ),
        ),
        reply_good (line here (Txn d) ∷ past) d serves (refl, refl) refl refl tt
            (λ e did lock i. absurd (subst (λ (x : Deed). In lock x.reply.locks) (sym did) i))
            (slot_answered d (slot_of r.who r.tag (only 0 past)))
            refl,
      )

  -- ---- the locks of an act, shown line by line

  -- what a lock shown before it leaves, it leaves too
  still_granted : (past : List Line) (k l : Lock) (d : Deed) → GrantOk head.osts past k d → GrantOk head.osts past l d
      → GrantOk head.osts (line here (Grant k (Some d)) ∷ past) l d
  still_granted past k l d before ok =
      record {
        did = refl;
        among = ok.among;
        granted = ap (with_lock l) before.granted ∙ ok.granted ∙ sym before.granted;
        cookie = ap (λ (n : ℕ). max n l.cookie.0) before.cookie ∙ ok.cookie ∙ sym before.cookie;
        waiting = ap (without_request d) before.waiting ∙ ok.waiting ∙ sym before.waiting;
        queued = ap (without_lock l) before.queued ∙ ok.queued ∙ sym before.queued;
        slot = slot_answered d (slot_of d.reply.who d.tag past);
      }

  grants_good : (d : Deed) (locks : List Lock) (past : List Line) (more : List Entry) → d.reply.at ≡ here → Did past d
      → ((l : Lock) → Owes past here (Grant l (Some d)))
      → ((l : Lock) → In l locks → GrantOk head.osts (only 0 past) l d)
      → Good (with_turn here (grant_lines d locks) past) more → Good past (grant_lines d locks ++ more)
  grants_good d [] past more of_turn did owes ok g = g
  grants_good d (l ∷ locks) past more of_turn did owes ok g =
      let k = ok l (inl refl) in (
        (owes l, inl (refl, did, k.among), inl (refl, k)),
        grants_good d locks (line here (Grant l (Some d)) ∷ past) more of_turn refl (λ j. of_turn)
            (λ j i. still_granted (only 0 past) l j d k (ok j (inr i))) g,
      )

  -- what was done stands so while its locks are shown
  module _ (d : Deed) where
    shown_did : (locks : List Lock) (past : List Line) → Did past d → Did (with_turn here (grant_lines d locks) past) d
    shown_did [] past did = did
    shown_did (l ∷ locks) past did = shown_did locks (line here (Grant l (Some d)) ∷ past) refl

    shown_own : (locks : List Lock) (past : List Line) → Did (only 0 past) d → Did (only 0 (with_turn here (grant_lines d locks) past)) d
    shown_own [] past did = did
    shown_own (l ∷ locks) past did = shown_own locks (line here (Grant l (Some d)) ∷ past) refl

    shown_is : (e : Deed) (locks : List Lock) (past : List Line) → (Did past e → d ≡ e) → Did (with_turn here (grant_lines d locks) past) e
        → d ≡ e
    shown_is e [] past is did = is did
    shown_is e (l ∷ locks) past is did = shown_is e locks (line here (Grant l (Some d)) ∷ past) (λ q. cc) did

    shown_all : (k : Lock) (locks : List Lock) (past : List Line) → In k locks ⊎ Shows past k
        → Shows (with_turn here (grant_lines d locks) past) k
    shown_all k [] past (inl i) = absurd i
    shown_all k [] past (inr s) = s
    shown_all k (l ∷ locks) past (inl (inl e)) = shown_all k locks (line here (Grant l (Some d)) ∷ past) (inr (inl e))
    shown_all k (l ∷ locks) past (inl (inr i)) = shown_all k locks (line here (Grant l (Some d)) ∷ past) (inl i)
    shown_all k (l ∷ locks) past (inr s) = shown_all k locks (line here (Grant l (Some d)) ∷ past) (inr (inr s))

    shown_owes : (locks : List Lock) (past : List Line) → d.reply.at ≡ here → Owes past here (replies d)
        → Owes (with_turn here (grant_lines d locks) past) here (replies d)
    shown_owes [] past of_turn owes = owes
    shown_owes (l ∷ locks) past of_turn owes = shown_owes locks (line here (Grant l (Some d)) ∷ past) of_turn (refl, of_turn)

    shown_new : (locks : List Lock) (past : List Line) → NotTaken past → NotTaken (with_turn here (grant_lines d locks) past)
    shown_new [] past new = new
    shown_new (l ∷ locks) past new = shown_new locks (line here (Grant l (Some d)) ∷ past) tt

    shown_slot : (locks : List Lock) (past : List Line) → (slot_of d.reply.who d.tag (only 0 past)).reply ≡ Some d.reply
        → (slot_of d.reply.who d.tag (only 0 (with_turn here (grant_lines d locks) past))).reply ≡ Some d.reply
    shown_slot [] past slot = slot
    shown_slot (l ∷ locks) past slot = shown_slot locks (line here (Grant l (Some d)) ∷ past)
        (slot_answered d (slot_of d.reply.who d.tag (only 0 past)))

    shown_serves : (locks : List Lock) (past : List Line) → IsServing head.osts (only 0 past)
        → IsServing head.osts (only 0 (with_turn here (grant_lines d locks) past))
    shown_serves [] past serves = serves
    shown_serves (l ∷ locks) past serves = shown_serves locks (line here (Grant l (Some d)) ∷ past) serves

    shown_again : (locks : List Lock) (past : List Line) → d.reply ≡ again (server past) d.reply → d.reply
        ≡ again (server (with_turn here (grant_lines d locks) past)) d.reply
    shown_again [] past is = is
    shown_again (l ∷ locks) past is = shown_again locks (line here (Grant l (Some d)) ∷ past) is

  acts_good : (past : List Line) (r : RequestOf) → IsServing head.osts (only 0 past) → IsIdle 0 (server past) → Settled past
      → In r (server past).waiting → changes head.osts (server past).tree (asked r none) ≡ false
      → greatest_cookie (server past).cookie (locks_of head.osts (server past) r) ≤ (server past).boot * 4294967296 + 4294967295
      → Good past (row_acts (deed head.osts (server past) here r none (locks_of head.osts (server past) r)))
  acts_good past r serves idle settled waits still room = (
    (
      owes_nothing past here (Act d) settled,
      inl refl,
      inl (
        refl,
        record {
          serves = serves;
          room = room;
          request = r;
          waits = waits;
          still = still;
          unasked =
              λ g i. absurd (subst (λ (gs : List Glimpse). In g gs) (idle refl).1 i);
          is = refl;
        },
      ),
    ),
    grants_good d d.reply.locks done (replies d ∷ []) refl refl (λ l. refl) grant_ok (
        reply_good (with_turn here (grant_lines d d.reply.locks) done) d (shown_serves d d.reply.locks done serves)
        (shown_owes d d.reply.locks done refl (refl, refl))
        (shown_did d d.reply.locks done refl)
        (shown_own d d.reply.locks done refl)
        (shown_new d d.reply.locks done tt)
        (λ e did lock i. shown_all d lock d.reply.locks done (inl
        (subst (λ (x : Deed). In lock x.reply.locks) (sym (shown_is d e d.reply.locks done (λ q. q) did)) i)))
        (shown_slot d d.reply.locks done (slot_answered d (slot_of r.who r.tag (only 0 past))))
        (shown_again d d.reply.locks done refl)
        ),
  )
    where
      s : Server
      s = server past

      d : Deed
      d = deed head.osts s here r none (locks_of head.osts s r)

      done : List Line
      done = line here (Act d) ∷ past

      grant_ok : (l : Lock) → In l d.reply.locks → GrantOk head.osts (only 0 done) l d
      grant_ok l i =
          record {
            did = refl;
            among = i;
            granted = stands_same l (server done).granted (granted_stands s.cookie r.who (grants head.osts s.tree (asked r none)) s.granted
                l i);
            cookie = greatest_same s.cookie d.reply.locks l i;
            waiting = filter_twice (λ q. not (is_request_of d q)) s.waiting;
            queued = ap (without_lock l) (idle refl).0 ∙ sym (idle refl).0;
            slot = slot_answered d (slot_of r.who r.tag (only 0 past));
          }

  -- ---- an execution

  executes_good : (past : List Line) (v : Target) (r : RequestOf) (stood : Bool) → Settled past → ServesAt v past → In r v.queue
      → is_ready v stood r ≡ true → (does_change v r ≡ true → v.number < v.boot * 4294967296 + 4294967295)
      → (does_change v r ≡ false → greatest_cookie v.cookie (rows.locks_for v r) ≤ v.boot * 4294967296 + 4294967295)
      → Good past (row_executes v here r (does_change v r))
  executes_good past v r stood settled h waits ready numbers room = by (does_change v r) refl
    where
      s : Server
      s = server past

      a : Alike head.osts 0 v s
      a = h.alike

      in_waiting : In r s.waiting
      in_waiting = subst (λ (rs : List RequestOf). In r rs) a.queue waits

      by : (b : Bool) → does_change v r ≡ b → Good past (row_executes v here r b)
      by true e =
          subst (λ (es : List Entry). Good past es) (sym (transacts_same head.osts 0 v s a here r)) (
          transacts_good past r (serving_is head 0 v (only 0 past) h) settled in_waiting (sym (change_same head.osts 0 v s a r) ∙ e)
          (subst (λ (ls : List Lock). is_free ls ≡ true) (way_same head.osts 0 v s a r) (ready_free v stood r ready e))
          (let low = numbers e in let is = a.number in let boot = a.boot in omega (arith, low, is, boot))
          )
      by false e =
          subst (λ (es : List Entry). Good past es) (sym (acts_same head.osts 0 v s a here r)) (
          acts_good past r (serving_is head 0 v (only 0 past) h) a.names settled in_waiting (sym (change_same head.osts 0 v s a r) ∙ e)
          (let top = room e in let boot = a.boot in let same : greatest_cookie v.cookie (rows.locks_for v r)
          ≡ greatest_cookie s.cookie (locks_of head.osts s r) = ap (λ (n : ℕ). greatest_cookie n (rows.locks_for v r)) a.cookie
          ∙ ap (greatest_cookie s.cookie) (locks_same head.osts 0 v s a r) in omega (arith, top, boot, same))
          )

  -- ---- locks are called back

  -- of the state that the row reads, while some of them are called back already
  blocks_good : (v : Target) (r : RequestOf) (locks : List Lock) (past : List Line) → IsServing head.osts (only 0 past) → Settled past
      → v.boot ≡ (server past).boot → Rises locks
      → ((l : Lock) → In l locks → In l (server past).granted) → ((l : Lock) → In l locks → is_called l.cookie v.called
      ≡ is_called l.cookie (server past).called)
      → In r (server past).waiting → is_read r.op ≡ false → ((l : Lock) → In l locks
      → list_any (guards_part l) (written_by head.osts (server past) r) ≡ true)
      → Good past (blocks v locks)
  blocks_good v r [] past serves settled boot rises granted same waits modifies for_it = settled
  blocks_good v r (l ∷ locks) past serves settled boot rises granted same waits modifies for_it =
      cond_both (is_called l.cookie v.called) (blocks v locks) (Block c ∷ block_of v l ∷ blocks v locks) (λ (es : List Entry). Good past es)
      (λ e. blocks_good v r locks past serves settled boot rises.1 (λ k i. granted k (inr i)) (λ k i. same k (inr i)) waits modifies
      (λ k i. for_it k (inr i)))
      (λ e. (
        (
          owes_nothing past here (Block c) settled,
          tt,
          inl (
            refl,
            record {
              serves = serves;
              lock = l;
              granted = granted l (inl refl);
              of_cookie = refl;
              of_life = refl;
              new = sym (same l (inl refl)) ∙ e;
              request = r;
              waits = waits;
              modifies = modifies;
              for_it = for_it l (inl refl);
            },
          ),
        ),
        (
          (
            tt,
            tt,
            record {
              serves = serves;
              lock = l;
              granted = granted l (inl refl);
              of_life = refl;
              of_boot = boot;
              of_cookie = refl;
              to = refl;
              called = called_now l.cookie (server past).called c refl;
            },
          ),
          blocks_good v r locks (line here (block_of v l) ∷ line here (Block c) ∷ past) serves tt boot rises.1 (λ k i. granted k (inr i))
              (λ k i. same k (inr i) ∙ sym (called_beside k.cookie (server past).called c (in_above l.cookie.0 locks k rises.0 i)))
              waits modifies (λ k i. for_it k (inr i)),
        ),
      ))
    where
      c : Called
      c = called v l

  waits_good : (past : List Line) (v : Target) (r : RequestOf) → Settled past → ServesAt v past → In r v.queue → Good past (row_waits v r)
  waits_good past v r settled h waits =
      cond_both (is_read r.op) [] (blocks v (in_way v.granted (rows.written_by v r))) (λ (es : List Entry). Good past es)
      (λ e. settled)
      (λ e.
      blocks_good v r (in_way v.granted (rows.written_by v r)) past (serving_is head 0 v (only 0 past) h) settled a.boot
      (rises_filter way v.granted (subst Rises (sym a.granted) a.rises))
      (λ l i. subst (λ (ls : List Lock). In l ls) a.granted (in_filter way l v.granted i).0)
      (λ l i. ap (is_called l.cookie) a.called)
      (subst (λ (rs : List RequestOf). In r rs) a.queue waits)
      e
      (λ l i. subst (λ (ps : List Part). list_any (guards_part l) ps ≡ true) (written_same head.osts 0 v (server past) a r)
      (in_filter way l v.granted i).1))
    where
      a : Alike head.osts 0 v (server past)
      a = h.alike

      way : Lock → Bool
      way l = list_any (guards_part l) (rows.written_by v r)

-- ---- what the lines of a pass leave: the list of requests while locks are called back, numbers, and the boot

abbrev pub Leaves : Target → Target → Type 0
Leaves v w = (w.queue ≡ v.queue) × (w.number ≡ v.number) × (w.boot ≡ v.boot) × (w.cookie ≡ v.cookie)

pub blocks_leave : (v : Target) (locks : List Lock) (w : Target) → Leaves w (turned w (blocks v locks))
blocks_leave v [] w = (refl, refl, refl, refl)
blocks_leave v (l ∷ locks) w =
    cond_both (is_called l.cookie v.called) (blocks v locks) (Block (called v l) ∷ block_of v l ∷ blocks v locks)
    (λ (es : List Entry). Leaves w (turned w es))
    (λ e. blocks_leave v locks w)
    (λ e. blocks_leave v locks (after w (Block (called v l))))

waits_leave : (v : Target) (r : RequestOf) → Leaves v (turned v (row_waits v r))
waits_leave v r =
    cond_both (is_read r.op) [] (blocks v (in_way v.granted (rows.written_by v r))) (λ (es : List Entry). Leaves v (turned v es))
    (λ e. (refl, refl, refl, refl)) (λ e. blocks_leave v (in_way v.granted (rows.written_by v r)) v)

grants_number : (d : Deed) (locks : List Lock) (v : Target) → ((turned v (grant_lines d locks)).number ≡ v.number)
    × ((turned v (grant_lines d locks)).boot ≡ v.boot) × (v.cookie ≤ (turned v (grant_lines d locks)).cookie)
grants_number d [] v = (refl, refl, omega arith)
grants_number d (l ∷ locks) v =
    let more = grants_number d locks (after v (Grant l (Some d))) in
    let up = more.2 in
    (more.0, more.1, omega (arith, up))

executes_number : (at : At) (v : Target) (r : RequestOf) (b : Bool)
    → ((turned v (row_executes v at r b)).number ≡ (if b then v.number + 1 else v.number))
    × ((turned v (row_executes v at r b)).boot ≡ v.boot)
    × ((if b then v.cookie else greatest_cookie v.cookie (rows.locks_for v r)) ≤ (turned v (row_executes v at r b)).cookie)
executes_number at v r true = (refl, refl, omega arith)
executes_number at v r false =
    let d = names_deed v at r none (rows.locks_for v r) in
    let more = turned_more (grant_lines d d.reply.locks) (replies d ∷ []) (after v (Act d)) in
    let left = grants_number d d.reply.locks (after v (Act d)) in (
      ap (λ (w : Target). w.number) more ∙ left.0,
      ap (λ (w : Target). w.boot) more ∙ left.1,
      subst (λ (w : Target). greatest_cookie v.cookie (rows.locks_for v r) ≤ w.cookie) (sym more) left.2,
    )

abbrev Raised : Target → Target → Type 0
Raised v w = (v.number ≤ w.number) × (v.cookie ≤ w.cookie) × (w.boot ≡ v.boot)

abbrev Raises : (Target → List Entry) → Type 0
Raises next = (w : Target) → Raised w (turned w (next w))

follow_raises : (v : Target) (es : List Entry) (next : Target → List Entry) → Raised v (turned v es)
    → Raised (turned v es) (turned (turned v es) (next (turned v es))) → Raised v (turned v (follow v es next))
follow_raises v es next one two =
    subst (Raised v) (sym (turned_more es (next (turned v es)) v))
    (let a = one.0 in let b = two.0 in let c = one.1 in let d = two.1 in (omega (arith, a, b), omega (arith, c, d), two.2 ∙ one.2))

pass_raises : (again : Target → List Entry) → Raises again → (at : At) (queue : List RequestOf) (v : Target) (stood : Bool)
    → Raised v (turned v (row_pass again v at stood queue))
pass_raises again raises at [] v stood = (omega arith, omega arith, refl)
pass_raises again raises at (r ∷ queue) v stood =
    let es = row_executes v at r (does_change v r) in
    let bs = row_waits v r in
    let next = λ (w : Target). row_pass again w at (stood || not (is_read r.op)) queue in
    cond_both (is_ready v stood r) (follow v es again) (follow v bs next) (λ (fs : List Entry). Raised v (turned v fs))
    (λ e. follow_raises v es again (executed (does_change v r)) (raises (turned v es)))
    (λ e. follow_raises v bs next (let leaves = waits_leave v r in let same = leaves.1 in let kept = leaves.3
    in (omega (arith, same), omega (arith, kept), leaves.2))
    (pass_raises again raises at queue (turned v bs) (stood || not (is_read r.op))))
  where
    executed : (b : Bool) → Raised v (turned v (row_executes v at r b))
    executed true = let is = executes_number at v r true in let number = is.0 in let cookie = is.2
        in (omega (arith, number), omega (arith, cookie), is.1)
    executed false =
        let is = executes_number at v r false in
        let number = is.0 in
        let cookie = is.2 in
        let least = greatest_least v.cookie (rows.locks_for v r) in
        (omega (arith, number), omega (arith, cookie, least), is.1)

sweep_raises : (more : ℕ) (at : At) → Raises (row_sweep more at)
sweep_raises zero at w = (omega arith, omega arith, refl)
sweep_raises (suc more) at w = pass_raises (row_sweep more at) (sweep_raises more at) at w.queue w false

-- ---- the pass, and the sweep

-- a boot's numbers and cookies aren't used up
abbrev pub HighAt : Target → Type 0
HighAt v = (v.number ≤ v.boot * 4294967296 + 4294967295) × (v.cookie ≤ v.boot * 4294967296 + 4294967295)

-- by a turn
abbrev pub High : Target → List Entry → Type 0
High v es = HighAt (turned v es)

-- none of these lines is a commit, or of a life that leaves or comes
plain_grants : (d : Deed) (locks : List Lock) (more : List Entry) → AllPlain more → AllPlain (grant_lines d locks ++ more)
plain_grants d [] more p = p
plain_grants d (l ∷ locks) more p = (tt, plain_grants d locks more p)

plain_executes : (v : Target) (at : At) (r : RequestOf) (b : Bool) → AllPlain (row_executes v at r b)
plain_executes v at r true = (tt, (tt, tt))
plain_executes v at r false = let d = names_deed v at r none (rows.locks_for v r)
    in (tt, plain_grants d d.reply.locks (replies d ∷ []) (tt, tt))

pub plain_blocks : (v : Target) (locks : List Lock) → AllPlain (blocks v locks)
plain_blocks v [] = tt
plain_blocks v (l ∷ locks) =
    cond_both (is_called l.cookie v.called) (blocks v locks) (Block (called v l) ∷ block_of v l ∷ blocks v locks)
    (λ (es : List Entry). AllPlain es) (λ e. plain_blocks v locks) (λ e. (tt, (tt, plain_blocks v locks)))

plain_waits : (v : Target) (r : RequestOf) → AllPlain (row_waits v r)
plain_waits v r = cond_both (is_read r.op) [] (blocks v (in_way v.granted (rows.written_by v r))) (λ (es : List Entry). AllPlain es)
    (λ e. tt) (λ e. plain_blocks v (in_way v.granted (rows.written_by v r)))

module _ (head : Head) (stamp : Stamp) where
  abbrev at : At
  at = turn stamp (node.Target 0)

  abbrev Leads : List Line → List Line → Target → List Entry → Type 0
  Leads past story v es = Reaches head stamp 0 past story v es (Serving head 0)

  abbrev Goes : (Target → List Entry) → Type 0
  Goes next = (past story : List Line) (v : Target) → story ≡ only 0 past → Settled past → Serving head 0 v story → High v (next v)
      → Leads past story v (next v)

  executes_leads : (past story : List Line) (v : Target) (r : RequestOf) (stood : Bool) → story ≡ only 0 past → Settled past
      → Serving head 0 v story → In r v.queue → is_ready v stood r ≡ true
      → (does_change v r ≡ true → v.number < v.boot * 4294967296 + 4294967295)
      → (does_change v r ≡ false → greatest_cookie v.cookie (rows.locks_for v r) ≤ v.boot * 4294967296 + 4294967295)
      → Leads past story v (row_executes v at r (does_change v r))
  executes_leads past story v r stood is settled h waits ready numbers room =
      let own = subst (λ (p : List Line). Serving head 0 v p) is h in
      let done = executes_good head stamp past v r stood settled own waits ready numbers room in
      subst (λ (p : List Line). Leads past p v (row_executes v at r (does_change v r))) (sym is) (
        done,
        serves_lines head stamp 0 (row_executes v at r (does_change v r)) past (only 0 past) v
            (plain_executes v at r (does_change v r)) done own,
      )

  waits_leads : (past story : List Line) (v : Target) (r : RequestOf) → story ≡ only 0 past → Settled past → Serving head 0 v story
      → In r v.queue → Leads past story v (row_waits v r)
  waits_leads past story v r is settled h waits =
      let own = subst (λ (p : List Line). Serving head 0 v p) is h in
      let done = waits_good head stamp past v r settled own waits in
      subst (λ (p : List Line). Leads past p v (row_waits v r)) (sym is)
      (done, serves_lines head stamp 0 (row_waits v r) past (only 0 past) v (plain_waits v r) done own)

  pass_good : (again : Target → List Entry) → Raises again → Goes again
      → (queue : List RequestOf) (past story : List Line) (v : Target) (stood : Bool) → story ≡ only 0 past → Settled past
      → Serving head 0 v story → ((r : RequestOf) → In r queue → In r v.queue)
      → High v (row_pass again v at stood queue) → Leads past story v (row_pass again v at stood queue)
  pass_good again raises goes [] past story v stood is settled h sub high = (settled, h)
  pass_good again raises goes (r ∷ queue) past story v stood is settled h sub high =
      by (is_ready v stood r) refl high (λ w p q e s k i m. pass_good again raises goes queue p q w (stood || not (is_read r.op)) e s k i m)
    where
      es : List Entry
      es = row_executes v at r (does_change v r)

      bs : List Entry
      bs = row_waits v r

      next : Target → List Entry
      next w = row_pass again w at (stood || not (is_read r.op)) queue

      waiting : In r v.queue
      waiting = sub r (inl refl)

      More : Type 0
      More = (w : Target) (p q : List Line) → q ≡ only 0 p → Settled p → Serving head 0 w q → ((x : RequestOf) → In x queue → In x w.queue)
          → High w (next w) → Leads p q w (next w)

      -- the numbers at the end are of the same boot
      end : (e : Bool) → HighAt (turned (turned v (row_executes v at r e)) (again (turned v (row_executes v at r e))))
          → (turned (turned v (row_executes v at r e)) (again (turned v (row_executes v at r e)))).boot ≡ v.boot
      end e high = let two = raises (turned v (row_executes v at r e)) in two.2 ∙ (executes_number at v r e).1

      -- a transaction's number is at most that at the end, and so is a cookie
      low : (e : Bool) → HighAt (turned (turned v (row_executes v at r e)) (again (turned v (row_executes v at r e)))) → e ≡ true
          → v.number < v.boot * 4294967296 + 4294967295
      low true high is =
          let one = (executes_number at v r true).0 in
          let up = (raises (turned v (row_executes v at r true))).0 in
          let boot = end true high in
          let top = high.0 in
          omega (arith, top, one, up, boot)
      low false high is = absurd (cc)

      room : (e : Bool) → HighAt (turned (turned v (row_executes v at r e)) (again (turned v (row_executes v at r e)))) → e ≡ false
          → greatest_cookie v.cookie (rows.locks_for v r) ≤ v.boot * 4294967296 + 4294967295
      room true high is = absurd (cc)
      room false high is =
          let one = (executes_number at v r false).2 in
          let up = (raises (turned v (row_executes v at r false))).1 in
          let boot = end false high in
          let top = high.1 in
          omega (arith, top, one, up, boot)

      by : (b : Bool) → is_ready v stood r ≡ b → High v (if b then follow v es again else follow v bs next) → More
          → Leads past story v (if b then follow v es again else follow v bs next)
      by true ready high more =
          let rest : High (turned v es) (again (turned v es)) = subst HighAt (turned_more es (again (turned v es)) v) high in
          reaches_more head stamp 0 (Serving head 0) (Serving head 0) es again past story v is
          (executes_leads past story v r stood is settled h waiting ready (low (does_change v r) rest) (room (does_change v r) rest))
          (λ e s k. goes (with_turn at es past) (with_turn at es story) (turned v es) e s k rest)
      by false ready high more =
          let rest : High (turned v bs) (next (turned v bs)) = subst HighAt (turned_more bs (next (turned v bs)) v) high in
          let leaves = waits_leave v r in
          reaches_more head stamp 0 (Serving head 0) (Serving head 0) bs next past story v is
          (waits_leads past story v r is settled h waiting)
          (λ e s k. more (turned v bs) (with_turn at bs past) (with_turn at bs story) e s k
          (λ q i. subst (λ (rs : List RequestOf). In q rs) (sym leaves.0) (sub q (inr i))) rest)

  sweep_good : (more : ℕ) → Goes (row_sweep more at)
  sweep_good zero past story v is settled h high = (settled, h)
  sweep_good (suc more) past story v is settled h high = pass_good (row_sweep more at) (sweep_raises more at) (sweep_good more) v.queue past
      story v false is settled h (λ r i. i) high

  pub names_good : Goes (names_go at)
  names_good past story v is settled h high = sweep_good (length v.queue + 1) past story v is settled h high
