-- The law of recovery is decided.
use Rattle.std.proofs.Common.{◌≡◌, ℕ, Bool, true, false, List, [], ◌∷◌, Option, Some, None, refl}
use Rattle.std.specs.Bool.{Decides}
use Rattle.lu_base.specs.declared.ids.At.{At}
use Rattle.lu_base.specs.declared.ids.Node.{Node}
use Rattle.lu_base.specs.declared.ids.Node.TheVariants.{Client, Target}
use Rattle.lu_base.specs.declared.ids.Txn.{Txn as TxnOf}
use Rattle.lu_base.specs.declared.ids.Who.{Who}
use Rattle.lu_base.specs.declared.locks.Cause.{Cause}
use Rattle.lu_base.specs.declared.locks.Cause.TheVariants.{Absent, Gap, Expired, Replaced}
use Rattle.lu_base.specs.declared.locks.Lock.{Lock as LockOf}
use Rattle.lu_msg.specs.declared.answers.Answer.{Answer}
use Rattle.lu_msg.specs.declared.messages.Message.{Message}
use Rattle.lu_msg.specs.declared.messages.Message.TheVariants as message
use Rattle.lu_msg.specs.declared.messages.Reply.{Reply as ReplyOf}
use Rattle.lu_trace.specs.declared.entries.Entry.{Entry}
use Rattle.lu_trace.specs.declared.entries.Entry.TheVariants.{Send, Take, Txn, Commit, Back, Close, Kept, Restore, Evict, Joined}
use Rattle.lu_trace.specs.declared.entries.Line.{Line}
use Rattle.lu_spec_laws.specs.Words.Pasts.{Past}
use Rattle.lu_spec_laws.specs.Words.Sends.{message_of}
use Rattle.lu_spec_laws.specs.Words.Clients.{clients}
use Rattle.lu_spec_laws.specs.Words.Slots.{slots}
use Rattle.lu_spec_laws.specs.Words.Closes.{kept_at, cause_at, restored_at, find_lock, is_finished, decided, last_kept, last_evicted}
use Rattle.lu_spec_laws.specs.Words.Closes.{has_restored, will_evict, will_restore}
use Rattle.lu_spec_laws.specs.Laws.Recovery.{request_sees, TransactionAt, SentAt, CommitAt, BackAt, BringsBack, TakenAt, Evicts, Restores}
use Rattle.lu_spec_laws.specs.Laws.Recovery.{FollowsAt, AllBack, CloseAt, KeptAfter, KeptIn, KeptAt, RestoredAfter, RestoredIn, RestoredAt}
use Rattle.lu_spec_laws.specs.Laws.Recovery.{EvictedAfter, ExpiredAt, EvictedBy, EvictedIn, EvictAt, OnTarget, RecoveryAt, RecoveryOf}
use Rattle.lu_spec_laws.specs.Laws.Recovery.{Recovery}
use Rattle.lu_spec_laws.proofs.Decides.{Decided, Decides-yes, Decides-wrong, nothing, never, like, both, three, when, numbers, up_to, below}
use Rattle.lu_spec_laws.proofs.Decides.{is_true, is_false, every}
use Rattle.lu_spec_laws.proofs.Same.{options, number_lists, locks}

-- ---- the same cause

abbrev pub cause_test : Cause → Cause → Bool
cause_test Absent Absent = true
cause_test Gap Gap = true
cause_test Expired Expired = true
cause_test Replaced Replaced = true
cause_test _ _ = false

pub Decides-cause : (a b : Cause) → Decides (cause_test a b) (a ≡ b)
Decides-cause Absent Absent = Decides-yes refl
Decides-cause Gap Gap = Decides-yes refl
Decides-cause Expired Expired = Decides-yes refl
Decides-cause Replaced Replaced = Decides-yes refl
Decides-cause _ _ = Decides-wrong (λ e. absurd (cc))

abbrev pub causes : (a b : Cause) → Decided (a ≡ b)
causes a b = record { answer = cause_test a b; decides = Decides-cause a b }

-- ---- transactions, replies and grants

abbrev pub decide_txn : (t : ℕ) (past : Past) (number : ℕ) (seen due : List ℕ) → Decided (TransactionAt t past number seen due)
decide_txn t past number seen due =
    like (λ f. record { above = f.0; in_boot = f.1; sees = f.2 }) (λ r. (r.above, r.in_boot, r.sees))
    (three (below _ _) (numbers _ _) (number_lists _ _))

abbrev pub decide_sent : (osts t : ℕ) (past : Past) (at : At) (m : Message) → Decided (SentAt osts t past at m)
decide_sent osts t past at (message.Reply r) = when _ (number_lists _ _)
decide_sent osts t past at (message.Grant g) = number_lists _ _
decide_sent osts t past at _ = nothing

-- ---- commits and who is back

abbrev pub decide_commit : (t : ℕ) (past : Past) (n : ℕ) → Decided (CommitAt t past n)
decide_commit t past n = like (λ f. record { standing = f.0; least = f.1 }) (λ r. (r.standing, r.least)) (both (is_true _) (up_to _ _))

abbrev pub decide_back : (t : ℕ) (past : Past) (at : At) (who : Who) → Decided (BackAt t past at who)
decide_back t past at who =
    like (λ f. record { recovering = f.0; came = f.1; once = f.2 }) (λ r. (r.recovering, r.came, r.once))
    (three (is_true _) (is_true _) (is_false _))

abbrev pub decide_brings : (t : ℕ) (past : Past) (l : Line) (later : List Line) (who : Who) → Decided (BringsBack t past l later who)
decide_brings t past l later who = when _ (is_true _)

abbrev pub decide_taken : (t : ℕ) (past : Past) (l : Line) (later : List Line) (m : Option Message) → Decided (TakenAt t past l later m)
decide_taken t past l later (Some (message.Replay r)) = decide_brings t past l later r.who
decide_taken t past l later (Some (message.Lock r)) = decide_brings t past l later r.who
decide_taken t past l later (Some (message.Word who boot replays locks seen)) = decide_brings t past l later who
decide_taken t past l later (Some (message.Join who boot)) = decide_brings t past l later who
decide_taken t past l later _ = nothing

-- ---- closes

abbrev pub decide_evicts : (at : At) (later : List Line) (who : Who) (cause : Option Cause) → Decided (Evicts at later who cause)
decide_evicts at later who None = nothing
decide_evicts at later who (Some cause) = options causes (will_evict at later who) (Some cause)

abbrev pub decide_follows : (clients t : ℕ) (past : Past) (at : At) (later : List Line) → Decided (FollowsAt clients t past at later)
decide_follows clients t past at later =
    like (λ f. record { keeps = f.0; evicts = f.1; restores = f.2 }) (λ r. (r.keeps, r.evicts, r.restores))
    (three (every (λ n. is_true _) (kept_at t past))
    (every (λ who. decide_evicts at later who (cause_at t past who)) (slots clients t past))
    (every (λ (lock : LockOf). options locks (will_restore at later lock.ask.who lock.cookie.0) (Some lock)) (restored_at t past)))

abbrev pub decide_all_back : (clients t : ℕ) (past : Past) → Decided (AllBack clients t past)
decide_all_back clients t past = every (λ who. is_true _) (slots clients t past)

abbrev pub decide_close : (clients t : ℕ) (past : Past) (at : At) (later : List Line) → Decided (CloseAt clients t past at later)
decide_close clients t past at later =
    like (λ f. record { recovering = f.0; all_back = f.1; follows = f.2 }) (λ r. (r.recovering, r.all_back, r.follows))
    (three (is_true _) (when _ (decide_all_back clients t past)) (when _ (decide_follows clients t past at later)))

-- ---- what is kept and restored

abbrev pub decide_kept_in : (kept : Option (List ℕ)) (last n : ℕ) → Decided (KeptIn kept last n)
decide_kept_in None last n = nothing
decide_kept_in (Some kept) last n = like (λ f. record { named = f.0; rises = f.1 }) (λ r. (r.named, r.rises)) (both (is_true _) (below _ _))

abbrev pub decide_kept : (t : ℕ) (past : Past) (at : At) (later : List Line) (n : ℕ) → Decided (KeptAt t past at later n)
decide_kept t past at later n =
    like (λ f. record { uncommitted = f.0; follows = f.1 }) (λ r. (r.uncommitted, r.follows))
    (both (below _ _) (decide_kept_in (decided (kept_at t) at past later) (last_kept at past) n))

abbrev pub decide_restored_in : (due : Option (List LockOf)) (restored : Bool) (lock : LockOf) → Decided (RestoredIn due restored lock)
decide_restored_in None restored lock = nothing
decide_restored_in (Some due) restored lock =
    like (λ f. record { named = f.0; once = f.1 }) (λ r. (r.named, r.once))
    (both (options locks (find_lock lock.ask.who lock.cookie.0 due) (Some lock)) (is_false _))

abbrev pub decide_restored : (t : ℕ) (past : Past) (at : At) (later : List Line) (lock : LockOf) → Decided (RestoredAt t past at later lock)
decide_restored t past at later lock =
    decide_restored_in (decided (restored_at t) at past later) (has_restored at lock.ask.who lock.cookie.0 past) lock

-- ---- evictions

abbrev pub decide_evicted_by : (t : ℕ) (past : Past) (at : At) (who : Who) (cause : Cause) → Decided (EvictedBy t past at who cause)
decide_evicted_by t past at who Expired = like (λ f. record { ticks = f.0; called = f.1 }) (λ r. (r.ticks, r.called))
    (both (is_true _) (is_true _))
decide_evicted_by t past at who Replaced = is_true _
decide_evicted_by t past at who Absent = never
decide_evicted_by t past at who Gap = never

abbrev pub decide_evicted_in : (t : ℕ) (past : Past) (at : At) (who : Who) (cause : Cause) (due : Option (Option Cause))
    → Decided (EvictedIn t past at who cause due)
decide_evicted_in t past at who cause None = decide_evicted_by t past at who cause
decide_evicted_in t past at who cause (Some due) =
    like (λ f. record { named = f.0; rises = f.1 }) (λ r. (r.named, r.rises)) (both (options causes due (Some cause)) (is_true _))

abbrev pub decide_evict : (t : ℕ) (past : Past) (at : At) (later : List Line) (who : Who) (cause : Cause)
    → Decided (EvictAt t past at later who cause)
decide_evict t past at later who cause =
    like (λ f. record { slot = f.0; commit = f.1; caused = f.2 }) (λ r. (r.slot, r.commit, r.caused))
    (three (is_true _) (is_true _) (decide_evicted_in t past at who cause (decided (λ before. cause_at t before who) at past later)))

-- ---- the law

abbrev pub on_target : {says : ℕ → Type 0} → (node : Node) → ((t : ℕ) → Decided (says t)) → Decided (OnTarget node says)
on_target (Target t) d = d t
on_target (Client c) d = nothing

abbrev pub decide_at : (clients osts : ℕ) (past : Past) (l : Line) (later : List Line) (e : Entry)
    → Decided (RecoveryAt clients osts past l later e)
decide_at clients osts past l later (Send number to m) = on_target l.at.node (λ t. decide_sent osts t past l.at m)
decide_at clients osts past l later (Take n) = on_target l.at.node (λ t. decide_taken t past l later (message_of past n))
decide_at clients osts past l later (Txn number who xid seen answer) =
    on_target l.at.node (λ t. decide_txn t past number.0 seen (request_sees osts t past number who xid.0 answer))
decide_at clients osts past l later (Commit number) = on_target l.at.node (λ t. decide_commit t past number.0)
decide_at clients osts past l later (Back who) = on_target l.at.node (λ t. decide_back t past l.at who)
decide_at clients osts past l later Close = on_target l.at.node (λ t. decide_close clients t past l.at later)
decide_at clients osts past l later (Kept number) = on_target l.at.node (λ t. decide_kept t past l.at later number.0)
decide_at clients osts past l later (Restore lock) = on_target l.at.node (λ t. decide_restored t past l.at later lock)
decide_at clients osts past l later (Evict who cause) = on_target l.at.node (λ t. decide_evict t past l.at later who cause)
decide_at clients osts past l later (Joined who) = on_target l.at.node (λ t. decide_brings t past l later who)
decide_at clients osts past l later _ = nothing

abbrev pub decide_recovery : (osts : ℕ) (whole past : Past) (l : Line) (later : List Line) → Decided (Recovery osts whole past l later)
decide_recovery osts whole past l later = decide_at (clients whole) osts past l later l.entry
