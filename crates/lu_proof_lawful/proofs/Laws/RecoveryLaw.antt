-- The law of recovery: transactions have rising numbers of their boot and the seen numbers, and a reply that is
-- sent in the turn that it names carries those of its deed. What is committed stands, and a life that comes back has its line.
use Rattle.std.proofs.Common.{◌≡◌, ℕ, ◌+◌, ◌≤◌, true, false, List, [], ◌∷◌, Option, Some, None, ◌⊎◌, inr, ⊎_elim, refl, sym, subst, ap, ◌∙◌}
use Rattle.std.proofs.Common.{arith}
use Rattle.std.specs.Prelude.{not, ◌&&◌}
use Rattle.std.proofs.lemmas.Bool.{and_parts, eq-eqb, true≢false}
use Rattle.lu_base.specs.declared.ids.At.{At}
use Rattle.lu_base.specs.declared.ids.Stamp.{Stamp}
use Rattle.lu_base.specs.declared.ids.Node.{Node}
use Rattle.lu_base.specs.declared.ids.Node.TheVariants.{Client, Target}
use Rattle.lu_base.specs.declared.ids.Who.{Who}
use Rattle.lu_msg.specs.declared.commits.Batch.{Batch}
use Rattle.lu_msg.specs.declared.messages.Message.{Message}
use Rattle.lu_msg.specs.declared.messages.Message.TheVariants as message
use Rattle.lu_trace.specs.declared.entries.Entry.{Entry as PrintedEntry}
use Rattle.lu_trace.specs.declared.entries.Entry.TheVariants as entry
use Rattle.lu_trace.specs.declared.entries.Line.{Line as PrintedLine}
use Rattle.lu_spec_entries.specs.Carried.{Deed}
use Rattle.lu_spec_entries.specs.Words.{Entry, Send, Take, Txn as Made, Grant, Commit, Back, Close, Kept, Restore, Evict, Joined, Fail}
use Rattle.lu_spec_entries.specs.Words.{Line, line}
use Rattle.lu_spec_entries.specs.Concerns.{only}
use Rattle.lu_spec_entries.specs.Sent.{count_sent}
use Rattle.lu_spec_entries.specs.Printed.{printed_entry, printed}
use Rattle.lu_proof_lawful.specs.Covered.TargetCloses.{closing_of}
use Rattle.lu_proof_lawful.specs.Covered.TargetStates.{server_of, closed_of}
use Rattle.lu_proof_lawful.specs.Covered.Heads.{Head}
use Rattle.lu_spec_laws.specs.Words.Sends.{Sending}
use Rattle.lu_spec_laws.specs.Words.Clients.{clients}
use Rattle.lu_spec_laws.specs.Words.Boots.{committed, is_recovering}
use Rattle.lu_spec_laws.specs.Words.Handed.{is_back}
use Rattle.lu_spec_laws.specs.Holds.{HoldsBefore, Holds}
use Rattle.lu_spec_laws.specs.Laws.Recovery.{BringsBack, TakenAt, CommitAt, RecoveryAt, RecoveryOf, Recovery}
use Rattle.lu_proof_lawful.proofs.Preconditions.Guards.{In, EntryOk}
use Rattle.lu_proof_lawful.proofs.Preconditions.StoryGuards.{CommitOk, Due, IsServing, EvictOk, LeavesOk, JoinedOk, ComesOk}
use Rattle.lu_proof_lawful.proofs.Preconditions.Grown.{Noted, Allowed, Grown}
use Rattle.lu_proof_lawful.proofs.Preconditions.Only.{grown_of}
use Rattle.lu_proof_lawful.proofs.Preconditions.Lists.{self}
use Rattle.lu_proof_lawful.proofs.Invariants.Groups.{turn, History}
use Rattle.lu_proof_lawful.proofs.Invariants.All.{holds}
use Rattle.lu_proof_lawful.proofs.Laws.Evictions.{evict_law}
use Rattle.lu_proof_lawful.proofs.Laws.Printed.{sending_is}
use Rattle.lu_proof_lawful.proofs.Laws.Taking.{recovering_is, recovers}
use Rattle.lu_proof_lawful.proofs.Laws.Backs.{OneTold, Follows, follows_none, follows_before, brings_back, back_at}
use Rattle.lu_proof_lawful.proofs.Laws.OneWord.{one_told}
use Rattle.lu_proof_lawful.proofs.Laws.Lines.{OfPrinted, Keeps, after_line}
use Rattle.lu_proof_lawful.proofs.Laws.Facts.{AllAsked}
use Rattle.lu_proof_lawful.proofs.Laws.Contents.{asked_before}
use Rattle.lu_proof_lawful.proofs.Laws.Commits.{MadeStands, made_stands, told_low, stands_law}
use Rattle.lu_proof_lawful.proofs.Laws.LostNumbers.{lost_is}
use Rattle.lu_proof_lawful.proofs.Laws.NamedClients.{clients_low}
use Rattle.lu_proof_lawful.proofs.Laws.ToldSeen.{txn_law, reply_law, notice_law}
use Rattle.lu_proof_lawful.proofs.Laws.CloseLines.{RestStands, rest_none, rest_before}
use Rattle.lu_proof_lawful.proofs.Laws.CloseShows.{Sound, close_at, kept_law}
use Rattle.lu_proof_lawful.proofs.Laws.CloseLocks.{restored_law}
use Rattle.lu_proof_lawful.proofs.Laws.CloseLeaves.{leaves_law}

-- ---- commits

commit_law : (head : Head) (past : List Line) (at : At) (t to : ℕ) (batch : Batch) → Grown head past
    → CommitOk head (only t past) at to batch → CommitAt t (printed past) to
commit_law head past at t to batch g ok = record { standing = stands_law head t past to g (lost_is head t past g) made; least = least }
  where
    P : List Line
    P = only t past

    history : History head.osts head.clients P
    history = ((holds head past g).at t).history

    made : MadeStands head.osts P to
    made = ⊎_elim
        (λ (p : (d : Deed) × In d (server_of head.osts P).log × (to ≡ d.reply.txn.0)). let r = history.log p.0 p.1
        in inr (p.0, r.0, r.1, sym p.2, r.2))
        (λ (e : to ≡ (server_of head.osts P).committed.0). subst (λ (n : ℕ). MadeStands head.osts P n) (sym e)
        (made_stands head P (grown_of head t past g)))
        ok.is

    least : committed t (printed past) ≤ to
    least =
        let low = told_low head t past g in
        ⊎_elim
        (λ (p : (d : Deed) × In d (server_of head.osts P).log × (to ≡ d.reply.txn.0)). let above = (history.log p.0 p.1).3 in let is = p.2
        in omega (arith, low, above, is))
        (λ (e : to ≡ (server_of head.osts P).committed.0). omega (arith, low, e))
        ok.is

-- ---- who is back

-- no life comes back where the target serves, for no window is open
never_back : (head : Head) (past : List Line) (l : PrintedLine) (later : List PrintedLine) (t : ℕ) (who : Who) → Grown head past
    → IsServing head.osts (only t past) → BringsBack t (printed past) l later who
never_back head past l later t who g v e =
    let p = and_parts (is_recovering t (printed past) && is_back t (l ∷ printed past) who) (not (is_back t (printed past) who)) e in
    let q = and_parts (is_recovering t (printed past)) (is_back t (l ∷ printed past) who) p.0 in
    let again = recovers head (only t past) (grown_of head t past g) (sym (recovering_is head t past g) ∙ q.0) in
    absurd (true≢false (sym (eq-eqb (closed_of (only t past)) (server_of head.osts (only t past)).boot v.closed) ∙ again))

taken_law : (head : Head) (past : List Line) (stamp : Stamp) (t n : ℕ) (from : Node) (m : Message) (later : List PrintedLine)
    → Grown head (line (turn stamp (Target t)) (Take n from m) ∷ past)
    → OneTold head t (line (turn stamp (Target t)) (Take n from m) ∷ past)
    → Follows head (line (turn stamp (Target t)) (Take n from m) ∷ past) later
    → TakenAt t (printed past) (record { at = turn stamp (Target t); entry = entry.Take n }) later (Some m)
taken_law head past stamp t n from (message.Replay r) later g one f =
    brings_back head past stamp t n from (message.Replay r) later r.who g one f
taken_law head past stamp t n from (message.Lock r) later g one f =
    brings_back head past stamp t n from (message.Lock r) later r.who g one f
taken_law head past stamp t n from (message.Word who boot replays locks seen) later g one f =
    brings_back head past stamp t n from (message.Word who boot replays locks seen) later who g one f
taken_law head past stamp t n from (message.Join who boot) later g one f =
    brings_back head past stamp t n from (message.Join who boot) later who g one f
taken_law head past stamp t n from m later g one f = tt

-- ---- the law

-- a line that shows what a close of its turn decided: no later line of the turn says that the disk fails
abbrev pub UnbrokenAt : Head → List Line → At → List PrintedLine → Type 0
UnbrokenAt head past at later = (t : ℕ) → at.node ≡ Target t → (closing_of head.clients (only t past) ≡ [] → ⊥) → Sound at later

-- each such line
abbrev pub Unbroken : Head → List Line → List PrintedLine → Type 0
Unbroken head [] later = Unit {0}
Unbroken head (l ∷ past) later = UnbrokenAt head past l.at later × Unbroken head past later

shows_some : (head : Head) (past : List Line) (at : At) (e : Entry) → Due head past at e → closing_of head.clients past ≡ [] → ⊥
shows_some head past at e due none = let other : e ∷ due.0 ≡ [] = sym due.1 ∙ none in cc

-- of at most the run's clients; what a close shows stands in the rest of its turn, and no later line says that the disk fails
recovery_at : (clients : ℕ) (head : Head) (past : List Line) (l : Line) (later : List PrintedLine) → clients ≤ head.clients
    → Allowed head past l.at l.entry → Grown head past → AllAsked (l ∷ past) → Follows head (l ∷ past) later
    → RestStands head (l ∷ past) later → UnbrokenAt head past l.at later
    → Keeps (RecoveryOf clients head.osts) past l later
recovery_at clients head past l later few k g a f rest sound = by l.at.node l.entry k a f rest sound
  where
    unbroken : (t : ℕ) (e : Entry) → UnbrokenAt head past (turn l.at.stamp (Target t)) later
        → Due head (only t past) (turn l.at.stamp (Target t)) e → Sound (turn l.at.stamp (Target t)) later
    unbroken t e s due = s t refl (shows_some head (only t past) (turn l.at.stamp (Target t)) e due)

    by : (node : Node) (e : Entry) → Allowed head past (turn l.at.stamp node) e → AllAsked (line (turn l.at.stamp node) e ∷ past)
        → Follows head (line (turn l.at.stamp node) e ∷ past) later → RestStands head (line (turn l.at.stamp node) e ∷ past) later
        → UnbrokenAt head past (turn l.at.stamp node) later
        → OfPrinted (λ (e : PrintedEntry). RecoveryAt clients head.osts (printed past) (record { at = turn l.at.stamp node; entry = e })
        later e) (printed_entry (count_sent past + 1) e)
    by (Client c) (Send to m) k a f rest s = tt
    by (Target t) (Send (Client c) (message.Reply r)) k a f rest s =
        reply_law head past l.at.stamp t c r k g (asked_before (line (turn l.at.stamp (Target t)) (Send (Client c) (message.Reply r))) past
        a)
    by (Target t) (Send (Client c) (message.Grant n)) k a f rest s =
        notice_law head past l.at.stamp t c n k g (asked_before (line (turn l.at.stamp (Target t)) (Send (Client c) (message.Grant n))) past
        a)
    by (Target t) (Send (Client c) (message.Ask who boot cookie for_who xid)) k a f rest s = tt
    by (Target t) (Send (Client c) (message.Block who boot cookie)) k a f rest s = tt
    by (Target t) (Send (Client c) (message.Ready who boot committed)) k a f rest s = tt
    by (Target t) (Send (Client c) (message.Up boot)) k a f rest s = tt
    by (Target t) (Send (Client c) (message.Evicted who boot)) k a f rest s = tt
    by (Target t) (Send (Client c) m) k a f rest s = absurd k.ok
    by (Target t) (Send (Target u) m) k a f rest s = absurd k.ok
    by (Target t) (Take n from m) k a f rest s =
        subst (λ (o : Option Message). TakenAt t (printed past) (record { at = turn l.at.stamp (Target t); entry = entry.Take n }) later o)
        (sym (ap (λ (o : Option Sending). elim o [ None ↦ None | Some s ↦ Some s.message ])
        (sending_is past n from (Target t) m k.ok.sent)))
        (taken_law head past l.at.stamp t n from m later (k, g)
        (one_told head t (line (turn l.at.stamp (Target t)) (Take n from m) ∷ past) (k, g)) f)
    by (Client c) (Made d) k a f rest s = absurd k.ok
    by (Target t) (Made d) k a f rest s = txn_law head past l.at.stamp t d k g a.1 (a.0 t refl)
    by (Target t) (Commit to batch) k a f rest s = commit_law head past (turn l.at.stamp (Target t)) t to batch g (k.of t (self t))
    by (Target t) (Back who) k a f rest s = let ok = k.of t (self t)
        in back_at head past l.at.stamp t who g (λ p q. one_told head t p q) ok.0 ok.1
    by (Target t) (Close outcome) k a f rest s = close_at clients head past l.at.stamp t outcome later k g few rest
    by (Target t) (Kept n) k a f rest s = kept_law head past l.at.stamp t n later k.steps g (k.of t (self t))
        (unbroken t (Kept n) s (k.of t (self t)))
    by (Target t) (Restore lock) k a f rest s = restored_law head past l.at.stamp t lock later k.steps g (k.of t (self t)).due
        (unbroken t (Restore lock) s (k.of t (self t)).due)
    by (Target t) (Evict who cause) k a f rest s = ⊎_elim
        (λ (ok : EvictOk head (only t past) (turn l.at.stamp (Target t)) who cause). evict_law head past (turn l.at.stamp (Target t)) later
        t who cause g refl (k.shows t (self t)) ok)
        (λ (ok : LeavesOk head (only t past) (turn l.at.stamp (Target t)) who cause). leaves_law head past l.at.stamp t who cause later
        k.steps g ok.due (unbroken t (Evict who cause) s ok.due))
        (k.of t (self t))
    by (Target t) (Joined who) k a f rest s = never_back head past (record { at = turn l.at.stamp (Target t); entry = entry.Joined who })
        later t who g (⊎_elim (λ (j : JoinedOk head (only t past) (turn l.at.stamp (Target t)) t who). j.serves)
        (λ (j : ComesOk head (only t past) (turn l.at.stamp (Target t)) t who). j.serves) (k.of t (self t)))
    by _ _ k a f rest s = tt

-- no line of a grown past says that the disk fails
sound_before : (head : Head) (past : List Line) (l : Line) (later : List PrintedLine) → Allowed head past l.at l.entry
    → (at : At) → Sound at later → Sound at (after_line l (printed_entry (count_sent past + 1) l.entry) later)
sound_before head past l later k at s = by l.at.node l.entry k.ok
  where
    by : (node : Node) (e : Entry) → EntryOk past l.at node e → Sound at
        (after_line (line l.at e) (printed_entry (count_sent past + 1) e) later)
    by (Client c) Fail ok = absurd ok
    by (Target t) Fail ok = absurd ok
    by node e ok = s

unbroken_before : (head : Head) (past : List Line) (later more : List PrintedLine) → ((at : At) → Sound at later → Sound at more)
    → Unbroken head past later → Unbroken head past more
unbroken_before head [] later more sound u = tt
unbroken_before head (l ∷ past) later more sound u =
    (λ t own some. sound l.at (u.0 t own some), unbroken_before head past later more sound u.1)

-- what follows each line stands among the later ones
pub recovery_before : (clients : ℕ) (head : Head) (past : List Line) (later : List PrintedLine) → clients ≤ head.clients
    → Grown head past → AllAsked past → Follows head past later → RestStands head past later → Unbroken head past later
    → HoldsBefore (RecoveryOf clients head.osts) later (printed past)
recovery_before clients head [] later few g a f rest s = tt
recovery_before clients head (l ∷ past) later few g a f rest s =
    by (printed_entry (count_sent past + 1) l.entry) (recovery_at clients head past l later few g.0 g.1 a f rest s.0)
    (recovery_before clients head past (after_line l (printed_entry (count_sent past + 1) l.entry) later) few g.1 (asked_before l past a)
    (follows_before head l past later g.0 f) (rest_before head l past later g.0 rest)
    (unbroken_before head past later (after_line l (printed_entry (count_sent past + 1) l.entry) later)
    (sound_before head past l later g.0) s.1))
  where
    by : (o : Option PrintedEntry) → OfPrinted (λ e. RecoveryOf clients head.osts (printed past) (record { at = l.at; entry = e }) later) o
        → HoldsBefore (RecoveryOf clients head.osts) (after_line l o later) (printed past)
        → HoldsBefore (RecoveryOf clients head.osts) later (elim o
        [ None ↦ printed past | Some e ↦ record { at = l.at; entry = e } ∷ printed past ])
    by None p h = h
    by (Some e) p h = (p, h)

unbroken_whole : (head : Head) (past : List Line) → Unbroken head past []
unbroken_whole head [] = tt
unbroken_whole head (l ∷ past) = (λ t own some. refl, unbroken_whole head past)

-- where nothing is due at the end
pub recovery_law : (head : Head) (past : List Line) → Grown head past → Noted head past → AllAsked past
    → Holds (Recovery head.osts (printed past)) (printed past)
recovery_law head past g n a = recovery_before (clients (printed past)) head past [] (clients_low head past g) g a
    (follows_none head past [] n) (rest_none head past [] n) (unbroken_whole head past)
