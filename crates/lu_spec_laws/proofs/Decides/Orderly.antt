-- What every run keeps beyond the laws is decided, condition by condition.
use Rattle.std.proofs.Common.{ℕ, zero, suc, Bool, true, false, Option, Some, None, List}
use Rattle.lu_base.specs.declared.ids.At.{At}
use Rattle.lu_base.specs.declared.ids.Node.{Node}
use Rattle.lu_base.specs.declared.ids.Node.TheVariants.{Client, Target}
use Rattle.lu_base.specs.declared.ids.Txn.{Txn as TxnOf}
use Rattle.lu_base.specs.declared.ids.Who.{Who}
use Rattle.lu_base.specs.declared.locks.Lock.{Lock as LockOf}
use Rattle.lu_msg.specs.declared.answers.Answer.{Answer}
use Rattle.lu_msg.specs.declared.messages.Message.{Message}
use Rattle.lu_msg.specs.declared.messages.Message.TheVariants as message
use Rattle.lu_msg.specs.declared.messages.Reply.{Reply as ReplyOf}
use Rattle.lu_msg.specs.declared.operations.Op.{Op}
use Rattle.lu_trace.specs.declared.entries.Entry.{Entry}
use Rattle.lu_trace.specs.declared.entries.Entry.TheVariants as entry
use Rattle.lu_trace.specs.declared.entries.Line.{Line}
use Rattle.lu_spec_machine.specs.Footprint.{answer}
use Rattle.lu_spec_laws.specs.Words.Pasts.{Past}
use Rattle.lu_spec_laws.specs.Words.Requests.{asked}
use Rattle.lu_spec_laws.specs.Words.Boots.{committed}
use Rattle.lu_spec_laws.specs.Words.Standing.{contents}
use Rattle.lu_spec_laws.specs.Order.Serving.{ServingAt, Serving}
use Rattle.lu_spec_laws.specs.Order.Requests.{RequestsAt, Requests}
use Rattle.lu_spec_laws.specs.Order.Boots.{BootBy, CrashBy, BootsAt, Boots}
use Rattle.lu_spec_laws.specs.Order.Messages.{committed_of, IsCommitted, MessageBy, MessagesAt, Messages}
use Rattle.lu_spec_laws.specs.Order.Lives.{LifeBy, LivesAt, Lives}
use Rattle.lu_spec_laws.specs.Order.Held.{HoldBy, HoldsAt, Held}
use Rattle.lu_spec_laws.specs.Order.Heard.{HeardBy, HeardsAt, Heard}
use Rattle.lu_spec_laws.specs.Order.Repeated.{last_reply, SameReply, Repeats, RepeatedAt, RepeatedBy, RepeatedIn, Repeated}
use Rattle.lu_spec_laws.specs.Order.Answers.{none, AnswerOf, AnswerBy, AnswersAt, Answers}
use Rattle.lu_spec_laws.specs.Order.Closes.{CloseBy, ClosesAt, Closes}
use Rattle.lu_spec_laws.specs.Order.Kept.{KeptBy, KeepsAt, Kept}
use Rattle.lu_spec_laws.specs.Order.Restored.{RestoreBy, RestoresAt, Restored}
use Rattle.lu_spec_laws.specs.Order.Joined.{JoinedBy, JoinsAt, Joined}
use Rattle.lu_spec_laws.specs.Order.Waits.{WaitBy, WaitsAt, Waits}
use Rattle.lu_spec_laws.specs.Order.Releases.{ReleaseBy, ReleasesAt, Releases}
use Rattle.lu_spec_laws.specs.Order.Blocks.{BlockBy, BlocksAt, Blocks}
use Rattle.lu_spec_laws.specs.Orderly.{Orderly}
use Rattle.lu_spec_laws.proofs.Decides.{Decided, nothing, never, like, both, three, four, five, six, unless, numbers, below, bools, is_true}
use Rattle.lu_spec_laws.proofs.Decides.{is_false, holds}
use Rattle.lu_spec_laws.proofs.Same.{options, lists, number_lists, txns, turns, locks, answers}

-- ---- what a target does while it serves

abbrev pub decide_serving_at : (past : Past) (node : Node) (e : Entry) → Decided (ServingAt past node e)
decide_serving_at past node (entry.Act who xid told) = is_true _
decide_serving_at past node (entry.Txn number who xid seen told) = is_true _
decide_serving_at past node (entry.Grant lock) = is_true _
decide_serving_at past node (entry.Wait lock) = is_true _
decide_serving_at past node (entry.Block cookie) = is_true _
decide_serving_at past node (entry.Release cookie) = is_true _
decide_serving_at past node _ = nothing

abbrev pub decide_serving : (past : Past) (l : Line) (later : List Line) → Decided (Serving past l later)
decide_serving past l later = decide_serving_at past l.at.node l.entry

abbrev pub decide_requests_at : (past : Past) (node : Node) (e : Entry) → Decided (RequestsAt past node e)
decide_requests_at past node (entry.Act who xid told) = is_true _
decide_requests_at past node (entry.Txn number who xid seen told) = is_true _
decide_requests_at past node _ = nothing

abbrev pub decide_requests : (past : Past) (l : Line) (later : List Line) → Decided (Requests past l later)
decide_requests past l later = decide_requests_at past l.at.node l.entry

-- ---- boots, and what messages carry

abbrev pub decide_boot : (past : Past) (node : Node) (b : ℕ) → Decided (BootBy past node b)
decide_boot past (Target t) b = like (λ t. record { down = t.0; next = t.1 }) (λ r. (r.down, r.next)) (both (is_true _) (numbers _ _))
decide_boot past (Client c) b = never

abbrev pub decide_crash : (past : Past) (node : Node) → Decided (CrashBy past node)
decide_crash past (Target t) = is_false _
decide_crash past (Client c) = never

abbrev pub decide_boots_at : (past : Past) (node : Node) (e : Entry) → Decided (BootsAt past node e)
decide_boots_at past node (entry.Boot b) = decide_boot past node b
decide_boots_at past node entry.Crash = decide_crash past node
decide_boots_at past node _ = nothing

abbrev pub decide_boots : (past : Past) (l : Line) (later : List Line) → Decided (Boots past l later)
decide_boots past l later = decide_boots_at past l.at.node l.entry

abbrev pub decide_committed : (m : Option ℕ) (n : ℕ) → Decided (IsCommitted m n)
decide_committed None n = nothing
decide_committed (Some m) n = numbers m n

abbrev pub decide_message : (past : Past) (node : Node) (m : Message) → Decided (MessageBy past node m)
decide_message past (Target t) m =
    like (λ t. record { present = t.0; number = t.1 }) (λ r. (r.present, r.number))
    (both (options numbers _ _) (decide_committed (committed_of m) (committed t past)))
decide_message past (Client c) m = nothing

abbrev pub decide_messages_at : (past : Past) (node : Node) (e : Entry) → Decided (MessagesAt past node e)
decide_messages_at past node (entry.Send number to m) = decide_message past node m
decide_messages_at past node _ = nothing

abbrev pub decide_messages : (past : Past) (l : Line) (later : List Line) → Decided (Messages past l later)
decide_messages past l later = decide_messages_at past l.at.node l.entry

-- ---- clients

abbrev pub decide_life : (past : Past) (at : At) (node : Node) (who : Who) → Decided (LifeBy past at node who)
decide_life past at (Client c) who =
    like (λ t. record { client = t.0; next = t.1; notice = t.2; idle = t.3 }) (λ r. (r.client, r.next, r.notice, r.idle))
    (four (numbers _ _) (numbers _ _) (is_true _) (is_false _))
decide_life past at (Target t) who = never

abbrev pub decide_lives_at : (past : Past) (at : At) (e : Entry) → Decided (LivesAt past at e)
decide_lives_at past at (entry.Life who) = decide_life past at at.node who
decide_lives_at past at _ = nothing

abbrev pub decide_lives : (past : Past) (l : Line) (later : List Line) → Decided (Lives past l later)
decide_lives past l later = decide_lives_at past l.at l.entry

abbrev pub decide_hold : (past : Past) (at : At) (node : Node) (t cookie : ℕ) → Decided (HoldBy past at node t cookie)
decide_hold past at (Client c) t cookie = is_true _
decide_hold past at (Target u) t cookie = never

abbrev pub decide_holds_at : (past : Past) (at : At) (e : Entry) → Decided (HoldsAt past at e)
decide_holds_at past at (entry.Hold target cookie) = decide_hold past at at.node target.0 cookie.0
decide_holds_at past at _ = nothing

abbrev pub decide_held : (past : Past) (l : Line) (later : List Line) → Decided (Held past l later)
decide_held past l later = decide_holds_at past l.at l.entry

abbrev pub decide_hears : (past : Past) (at : At) (node : Node) (t x : ℕ) → Decided (HeardBy past at node t x)
decide_hears past at (Client c) t x =
    like (λ t. record { reply = t.0; flies = t.1 }) (λ r. (r.reply, r.flies)) (both (is_true _) (is_true _))
decide_hears past at (Target u) t x = never

abbrev pub decide_hears_at : (past : Past) (at : At) (e : Entry) → Decided (HeardsAt past at e)
decide_hears_at past at (entry.Heard target xid) = decide_hears past at at.node target.0 xid.0
decide_hears_at past at _ = nothing

abbrev pub decide_heard : (past : Past) (l : Line) (later : List Line) → Decided (Heard past l later)
decide_heard past l later = decide_hears_at past l.at l.entry

-- ---- replies and answers

abbrev pub decide_same : (r first : ReplyOf) → Decided (SameReply r first)
decide_same r first =
    like (λ t. record { number = t.0; seen = t.1; turn = t.2; locks = t.3; answer = t.4 })
    (λ s. (s.number, s.seen, s.turn, s.locks, s.answer))
    (five (txns r.txn first.txn) (number_lists r.seen first.seen) (turns r.at first.at) (lists locks r.locks first.locks)
    (answers r.answer first.answer))

abbrev pub decide_repeats : (r : ReplyOf) (first : Option ReplyOf) → Decided (Repeats r first)
decide_repeats r None = never
decide_repeats r (Some first) = decide_same r first

abbrev pub decide_again : (past : Past) (at : At) (t : ℕ) (r : ReplyOf) → Decided (RepeatedAt past at t r)
decide_again past at t r =
    like (λ t. record { asked = t.0; same = t.1 }) (λ s. (s.asked, s.same))
    (both (is_true _) (decide_repeats r (last_reply t r.who r.xid.0 past)))

abbrev pub decide_repeated_by : (past : Past) (at : At) (node : Node) (m : Message) → Decided (RepeatedBy past at node m)
decide_repeated_by past at (Target t) (message.Reply r) = unless _ (decide_again past at t r)
decide_repeated_by past at _ _ = nothing

abbrev pub decide_repeated_in : (past : Past) (at : At) (e : Entry) → Decided (RepeatedIn past at e)
decide_repeated_in past at (entry.Send number to m) = decide_repeated_by past at at.node m
decide_repeated_in past at _ = nothing

abbrev pub decide_repeated : (past : Past) (l : Line) (later : List Line) → Decided (Repeated past l later)
decide_repeated past l later = decide_repeated_in past l.at l.entry

abbrev pub decide_answer : (osts : ℕ) (past : Past) (number : TxnOf) (who : Who) (told : Answer) (change : Bool) (o : Option Op)
    → Decided (AnswerOf osts past number who told change o)
decide_answer osts past number who told change None = never
decide_answer osts past number who told change (Some o) =
    like (λ t. record { same = t.0; kind = t.1 }) (λ r. (r.same, r.kind))
    (both (answers told (answer osts (contents osts past) (record { number = number; who = who; op = o }))) (bools _ change))

abbrev pub decide_answer_by : (osts : ℕ) (past : Past) (node : Node) (number : TxnOf) (who : Who) (x : ℕ) (told : Answer) (change : Bool)
    → Decided (AnswerBy osts past node number who x told change)
decide_answer_by osts past (Target zero) number who x told change = decide_answer osts past number who told change (asked past 0 who x)
decide_answer_by osts past (Target (suc t)) number who x told change = nothing
decide_answer_by osts past (Client c) number who x told change = nothing

abbrev pub decide_answers_at : (osts : ℕ) (past : Past) (node : Node) (e : Entry) → Decided (AnswersAt osts past node e)
decide_answers_at osts past node (entry.Act who xid told) = decide_answer_by osts past node none who xid.0 told false
decide_answers_at osts past node (entry.Txn number who xid seen told) = decide_answer_by osts past node number who xid.0 told true
decide_answers_at osts past node _ = nothing

abbrev pub decide_answers : (osts : ℕ) (past : Past) (l : Line) (later : List Line) → Decided (Answers osts past l later)
decide_answers osts past l later = decide_answers_at osts past l.at.node l.entry

-- ---- recovery

abbrev pub decide_close : (past : Past) (at : At) (later : List Line) (node : Node) → Decided (CloseBy past at later node)
decide_close past at later (Target t) = unless _ (options numbers _ _)
decide_close past at later (Client c) = never

abbrev pub decide_closes_at : (past : Past) (at : At) (later : List Line) (e : Entry) → Decided (ClosesAt past at later e)
decide_closes_at past at later entry.Close = decide_close past at later at.node
decide_closes_at past at later _ = nothing

abbrev pub decide_closes : (past : Past) (l : Line) (later : List Line) → Decided (Closes past l later)
decide_closes past l later = decide_closes_at past l.at later l.entry

abbrev pub decide_kept_by : (past : Past) (at : At) (node : Node) (number : ℕ) → Decided (KeptBy past at node number)
decide_kept_by past at (Target t) number =
    like (λ t. record { closed = t.0; replayed = t.1 }) (λ r. (r.closed, r.replayed)) (both (is_true _) (is_true _))
decide_kept_by past at (Client c) number = never

abbrev pub decide_keeps_at : (past : Past) (at : At) (e : Entry) → Decided (KeepsAt past at e)
decide_keeps_at past at (entry.Kept number) = decide_kept_by past at at.node number.0
decide_keeps_at past at _ = nothing

abbrev pub decide_kept : (past : Past) (l : Line) (later : List Line) → Decided (Kept past l later)
decide_kept past l later = decide_keeps_at past l.at l.entry

abbrev pub decide_restore : (past : Past) (at : At) (node : Node) (lock : LockOf) → Decided (RestoreBy past at node lock)
decide_restore past at (Target t) lock =
    like (λ t. record { closed = t.0; handed = t.1 }) (λ r. (r.closed, r.handed)) (both (is_true _) (options locks _ _))
decide_restore past at (Client c) lock = never

abbrev pub decide_restores_at : (past : Past) (at : At) (e : Entry) → Decided (RestoresAt past at e)
decide_restores_at past at (entry.Restore lock) = decide_restore past at at.node lock
decide_restores_at past at _ = nothing

abbrev pub decide_restored : (past : Past) (l : Line) (later : List Line) → Decided (Restored past l later)
decide_restored past l later = decide_restores_at past l.at l.entry

abbrev pub decide_joined_by : (past : Past) (at : At) (node : Node) (who : Who) → Decided (JoinedBy past at node who)
decide_joined_by past at (Target t) who =
    like (λ t. record { asked = t.0; newer = t.1; free = t.2 }) (λ r. (r.asked, r.newer, r.free))
    (three (is_true _) (below _ _) (is_true _))
decide_joined_by past at (Client c) who = never

abbrev pub decide_joins_at : (past : Past) (at : At) (e : Entry) → Decided (JoinsAt past at e)
decide_joins_at past at (entry.Joined who) = decide_joined_by past at at.node who
decide_joins_at past at _ = nothing

abbrev pub decide_joined : (past : Past) (l : Line) (later : List Line) → Decided (Joined past l later)
decide_joined past l later = decide_joins_at past l.at l.entry

-- ---- locks

abbrev pub decide_wait : (past : Past) (at : At) (node : Node) (lock : LockOf) → Decided (WaitBy past at node lock)
decide_wait past at (Target t) lock =
    like (λ t. record { asked = t.0; clashes = t.1 }) (λ r. (r.asked, r.clashes)) (both (options locks _ _) (is_true _))
decide_wait past at (Client c) lock = never

abbrev pub decide_waits_at : (past : Past) (at : At) (e : Entry) → Decided (WaitsAt past at e)
decide_waits_at past at (entry.Wait lock) = decide_wait past at at.node lock
decide_waits_at past at _ = nothing

abbrev pub decide_waits : (past : Past) (l : Line) (later : List Line) → Decided (Waits past l later)
decide_waits past l later = decide_waits_at past l.at l.entry

abbrev pub decide_release : (past : Past) (at : At) (node : Node) (cookie : ℕ) → Decided (ReleaseBy past at node cookie)
decide_release past at (Target t) cookie = is_true _
decide_release past at (Client c) cookie = never

abbrev pub decide_releases_at : (past : Past) (at : At) (e : Entry) → Decided (ReleasesAt past at e)
decide_releases_at past at (entry.Release cookie) = decide_release past at at.node cookie.0
decide_releases_at past at _ = nothing

abbrev pub decide_releases : (past : Past) (l : Line) (later : List Line) → Decided (Releases past l later)
decide_releases past l later = decide_releases_at past l.at l.entry

abbrev pub decide_block : (osts : ℕ) (past : Past) (node : Node) (cookie : ℕ) → Decided (BlockBy osts past node cookie)
decide_block osts past (Target t) cookie =
    like (λ t. record { new = t.0; cause = t.1 }) (λ r. (r.new, r.cause)) (both (is_false _) (is_true _))
decide_block osts past (Client c) cookie = never

abbrev pub decide_blocks_at : (osts : ℕ) (past : Past) (node : Node) (e : Entry) → Decided (BlocksAt osts past node e)
decide_blocks_at osts past node (entry.Block cookie) = decide_block osts past node cookie.0
decide_blocks_at osts past node _ = nothing

abbrev pub decide_blocks : (osts : ℕ) (past : Past) (l : Line) (later : List Line) → Decided (Blocks osts past l later)
decide_blocks osts past l later = decide_blocks_at osts past l.at.node l.entry

-- ---- all of them

abbrev pub decide_orderly : (osts : ℕ) (whole : Past) → Decided (Orderly osts whole)
decide_orderly osts whole =
    like
    (λ t.
    record {
      serving = t.0.0;
      requests = t.0.1;
      boots = t.0.2;
      messages = t.0.3;
      lives = t.0.4;
      held = t.0.5;
      heard = t.1.0;
      repeated = t.1.1;
      answers = t.1.2;
      closes = t.1.3;
      kept = t.1.4;
      restored = t.1.5;
      joined = t.2.0;
      waits = t.2.1;
      releases = t.2.2;
      blocks = t.2.3;
    })
    (λ o. (
      (o.serving, o.requests, o.boots, o.messages, o.lives, o.held),
      (o.heard, o.repeated, o.answers, o.closes, o.kept, o.restored),
      (o.joined, o.waits, o.releases, o.blocks),
    ))
    (three
    (six (holds decide_serving whole) (holds decide_requests whole) (holds decide_boots whole) (holds decide_messages whole)
    (holds decide_lives whole) (holds decide_held whole))
    (six (holds decide_heard whole) (holds decide_repeated whole) (holds (decide_answers osts) whole) (holds decide_closes whole)
    (holds decide_kept whole) (holds decide_restored whole))
    (four (holds decide_joined whole) (holds decide_waits whole) (holds decide_releases whole) (holds (decide_blocks osts) whole)))
