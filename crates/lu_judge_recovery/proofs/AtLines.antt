-- The law at a line of a client, and at a line of a target by its entry.
use Rattle.std.proofs.Common.{◌≡◌, ℕ, ◌<◌, ◌≤◌, Bool, true, false, List, [], ◌∷◌, ◌++◌, refl, ap, sym, ◌∙◌, subst, arith}
use Rattle.std.specs.Prelude.{suc, reverse, All, Option, Some, None, IsTrue, ◌↔◌}
use Rattle.lu_base.specs.declared.ids.Node.{Node}
use Rattle.lu_base.specs.declared.ids.Node.TheVariants.{Client, Target}
use Rattle.lu_base.specs.declared.ids.Txn.{Txn as TxnOf}
use Rattle.lu_base.specs.declared.ids.Who.{Who}
use Rattle.lu_base.specs.declared.locks.Cause.{Cause}
use Rattle.lu_msg.specs.declared.messages.Message.{Message}
use Rattle.lu_msg.specs.declared.messages.Message.TheVariants as message
use Rattle.lu_trace.specs.declared.entries.Entry.{Entry}
use Rattle.lu_trace.specs.declared.entries.Entry.TheVariants.{Send, Take, Txn, Commit, Back, Close, Kept, Restore, Evict, Joined}
use Rattle.lu_trace.specs.declared.entries.Line.{Line}
use Rattle.lu_spec_laws.specs.Words.Pasts.{Past}
use Rattle.lu_spec_laws.specs.Words.Sends.{message_of}
use Rattle.lu_spec_laws.specs.Words.Clients.{entry_clients, clients}
use Rattle.lu_spec_laws.specs.Laws.Recovery.{SentAt, TakenAt, TransactionAt, request_sees, CommitAt, BackAt, CloseAt, KeptAt, RestoredAt}
use Rattle.lu_spec_laws.specs.Laws.Recovery.{EvictAt, BringsBack, OnTarget, RecoveryAt}
use Rattle.lu_trace.specs.WellFormed.{IsLine}
use Rattle.lu_judge_names.specs.Formed.{AreFormed}
use Rattle.lu_judge_names.specs.Seen.{RisesAt, RisesBy}
use Rattle.lu_judge_names.proofs.FormedLines.{formed_whole}
use Rattle.lu_judge_recovery.specs.Handing.{handing_of, BringsNamed}
use Rattle.lu_judge_recovery.specs.Turns.{turn_at, line_at}
use Rattle.lu_judge_recovery.proofs.Wholly.{entry_within}

-- ---- of a client

on_client : (n : Node) (c : ℕ) (P : ℕ → Type 0) → n ≡ Client c → OnTarget n P
on_client n c P is = subst (λ (m : Node). OnTarget m P) (sym is) tt

pub client_line : (count osts : ℕ) (past : Past) (l : Line) (later : List Line) (c : ℕ) (e : Entry) → l.at.node ≡ Client c
    → RecoveryAt count osts past l later e
client_line count osts past l later c (Send number to m) is = on_client l.at.node c (λ t. SentAt osts t past l.at m) is
client_line count osts past l later c (Take n) is = on_client l.at.node c (λ t. TakenAt t past l later (message_of past n)) is
client_line count osts past l later c (Txn number who xid seen answer) is =
    on_client l.at.node c (λ t. TransactionAt t past number.0 seen (request_sees osts t past number who xid.0 answer)) is
client_line count osts past l later c (Commit number) is = on_client l.at.node c (λ t. CommitAt t past number.0) is
client_line count osts past l later c (Back who) is = on_client l.at.node c (λ t. BackAt t past l.at who) is
client_line count osts past l later c Close is = on_client l.at.node c (λ t. CloseAt count t past l.at later) is
client_line count osts past l later c (Kept number) is = on_client l.at.node c (λ t. KeptAt t past l.at later number.0) is
client_line count osts past l later c (Restore lock) is = on_client l.at.node c (λ t. RestoredAt t past l.at later lock) is
client_line count osts past l later c (Evict who cause) is = on_client l.at.node c (λ t. EvictAt t past l.at later who cause) is
client_line count osts past l later c (Joined who) is = on_client l.at.node c (λ t. BringsBack t past l later who) is
client_line count osts past l later c _ is = tt

-- ---- of a target

pub at_entry : (count osts : ℕ) (past : Past) (l : Line) (later : List Line) (s t : ℕ) (e : Entry) (b : Bool) → l ≡ line_at s t l.entry
    → l.entry ≡ e
    → (IsTrue b ↔ RecoveryAt count osts past (line_at s t e) later e) → IsTrue b ↔ RecoveryAt count osts past l later l.entry
at_entry count osts past l later s t e b here is decides =
    subst (λ (k : Line). IsTrue b ↔ RecoveryAt count osts past k later k.entry) (sym (here ∙ ap (λ (e : Entry). line_at s t e) is)) decides

taken_named : (t : ℕ) (past : Past) (l : Line) (later : List Line) (m : Option Message) → BringsNamed t past l later (handing_of m)
    ↔ TakenAt t past l later m
taken_named t past l later None = (λ a. a, λ a. a)
taken_named t past l later (Some (message.Replay r)) = (λ a. a, λ a. a)
taken_named t past l later (Some (message.Lock r)) = (λ a. a, λ a. a)
taken_named t past l later (Some (message.Word who boot replays locks seen)) = (λ a. a, λ a. a)
taken_named t past l later (Some (message.Join who boot)) = (λ a. a, λ a. a)
taken_named t past l later (Some _) = (λ a. a, λ a. a)

-- a message that is taken brings back whom it names
pub at_take : (count osts : ℕ) (past : Past) (l : Line) (later : List Line) (s t n : ℕ) (b : Bool) → l ≡ line_at s t l.entry → l.entry
    ≡ Take n
    → (IsTrue b ↔ BringsNamed t past l later (handing_of (message_of past n))) → IsTrue b ↔ RecoveryAt count osts past l later l.entry
at_take count osts past l later s t n b here is decides =
    let whole : l ≡ line_at s t (Take n) = here ∙ ap (λ (e : Entry). line_at s t e) is in
    let there : IsTrue b ↔ BringsNamed t past (line_at s t (Take n)) later (handing_of (message_of past n)) =
    subst (λ (k : Line). IsTrue b ↔ BringsNamed t past k later (handing_of (message_of past n))) whole decides in
    let law = taken_named t past (line_at s t (Take n)) later (message_of past n) in
    at_entry count osts past l later s t (Take n) b here is (λ yes. law.0 (there.0 yes), λ taken. there.1 (law.1 taken))

pub at_joined : (count osts : ℕ) (past : Past) (l : Line) (later : List Line) (s t : ℕ) (who : Who) (b : Bool) → l ≡ line_at s t l.entry
    → l.entry ≡ Joined who
    → (IsTrue b ↔ BringsBack t past l later who) → IsTrue b ↔ RecoveryAt count osts past l later l.entry
at_joined count osts past l later s t who b here is decides =
    at_entry count osts past l later s t (Joined who) b here is
    (subst (λ (k : Line). IsTrue b ↔ BringsBack t past k later who) (here ∙ ap (λ (e : Entry). line_at s t e) is) decides)

-- the life that is evicted is of a client of the trace
pub evicted_within : (whole past : Past) (l : Line) (later : List Line) (who : Who) (cause : Cause) → whole ≡ reverse later ++ l ∷ past
    → l.entry ≡ Evict who cause → who.client < clients whole
evicted_within whole past l later who cause placed is =
    let within : suc who.client ≤ clients whole = subst (λ (e : Entry). entry_clients e ≤ clients whole) is
    (entry_within whole past l later placed) in
    omega arith

-- where the law holds at a line, no committed number falls with it
rises_at : (past : Past) (n : Node) (number : TxnOf) → OnTarget n (λ t. CommitAt t past number.0) → RisesAt past n number
rises_at past (Client c) number law = tt
rises_at past (Target t) number law = law.least

pub rises : (count osts : ℕ) (past : Past) (l : Line) (later : List Line) (e : Entry) → RecoveryAt count osts past l later e
    → RisesBy past l.at.node e
rises count osts past l later (Commit number) law = rises_at past l.at.node number law
rises count osts past l later _ law = tt

-- all lines of a well formed trace
pub lines_formed : (lines : List Line) → All IsLine lines → AreFormed (reverse lines)
lines_formed lines formed = formed_whole lines formed
