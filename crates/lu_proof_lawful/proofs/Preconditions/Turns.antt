-- A turn whose lines are allowed, one after another, and that ends with nothing owed, nothing that a target has to keep, no life back
-- unshown, and nothing of a close unshown: put on a grown past it makes a grown one.
use Rattle.std.proofs.Common.{◌≡◌, ℕ, Bool, true, false, List, [], ◌∷◌, ◌++◌, Option, Some, None, inl, inr, refl, sym, subst, ap}
use Rattle.std.specs.Prelude.{if◌then◌else◌}
use Rattle.std.proofs.lemmas.Bool.{cond-true}
use Rattle.lu_base.specs.declared.ids.At.{At}
use Rattle.lu_base.specs.declared.ids.Node.{Node}
use Rattle.lu_base.specs.declared.ids.Node.TheVariants.{Client, Target}
use Rattle.lu_base.specs.declared.ids.Stamp.{Stamp}
use Rattle.lu_base.specs.declared.ids.Who.{Who}
use Rattle.lu_msg.specs.declared.calls.Call.{Call}
use Rattle.lu_msg.specs.declared.calls.Call.TheVariants as call
use Rattle.lu_spec_entries.specs.Carried.{Stage, Bad, Flushing, Sizes}
use Rattle.lu_spec_entries.specs.Words.{Entry, Take, Begin, Stands, Queues, Pins, Unpins, Changes, WritesBack, Shows, Act, Txn, Wait}
use Rattle.lu_spec_entries.specs.Words.{Answers, Grant, Close, Back, Stores, Brings, Says, Wishes, Line, line, with_turn, turn_before}
use Rattle.lu_spec_entries.specs.Concerns.{is_about, concerns, only, about}
use Rattle.lu_spec_run.specs.Runs.{Turn, lines_of, Follows, IsRun}
use Rattle.lu_spec_run.specs.Heads as table
use Rattle.lu_proof_lawful.specs.Covered.Heads.{Head}
use Rattle.lu_proof_lawful.specs.Covered.TargetCloses.{but_first, closing_of}
use Rattle.lu_proof_lawful.proofs.Preconditions.Guards.{Later, Steps, Ending, Closes, EntryOk, OwesBegun, OwesStood, OwesQueued, Owes}
use Rattle.lu_proof_lawful.proofs.Preconditions.Guards.{IsMark, BackNow, due, IsTurnOf}
use Rattle.lu_proof_lawful.proofs.Preconditions.StoryGuards.{EntryOf}
use Rattle.lu_proof_lawful.proofs.Preconditions.Grown.{ShowsNext, LivesAt, Noted, Grown}
use Rattle.lu_proof_lawful.proofs.Preconditions.Lists.{turn, turn_trans}
use Rattle.lu_proof_lawful.proofs.Preconditions.Only.{turn_only}
use Rattle.lu_proof_lawful.proofs.Preconditions.Ends.{closes_after}

-- the numbers of a run that the theorem knows
abbrev pub covered_head : table.Head → Head
covered_head head = record { clients = head.clients; osts = head.osts; flight = head.flight }

-- ---- nothing is owed

-- where a call that has begun owes nothing
abbrev pub BeginQuiet : Stage → Call → Type 0
BeginQuiet Bad c = ⊥
BeginQuiet stage (call.Close h) = Unit {0}
BeginQuiet stage (call.Write h offset bytes) = Unit {0}
BeginQuiet stage (call.Cut h size) = Unit {0}
BeginQuiet stage (call.Flush h) = Unit {0}
BeginQuiet stage (call.Glimpse h) = Unit {0}
BeginQuiet stage c = ⊥

-- a glimpse that is to ask how long an object is has something owed
abbrev pub StoodQuiet : Stage → (before : Type 0) → Type 0
StoodQuiet (Flushing stripe) before = before
StoodQuiet (Sizes work) before = ⊥
StoodQuiet _ before = Unit {0}

-- before: nothing was owed before the entry
abbrev pub Quiet : (before : Type 0) → Entry → Type 0
Quiet before (Act d) = ⊥
Quiet before (Txn d) = ⊥
Quiet before (Wait lock d) = ⊥
Quiet before (Answers d) = ⊥
Quiet before (Grant lock asked) = ⊥
Quiet before (Begin slot running) = BeginQuiet running.stage running.call
Quiet before (Pins name) = ⊥
Quiet before (Unpins name) = before
Quiet before (Stands slot running) = StoodQuiet running.stage before
Quiet before (WritesBack resource change) = before
Quiet before (Queues t q) = OwesQueued q.slot before
Quiet before (Changes resource change) = ⊥
Quiet before (Shows resource cookie last) = ⊥
Quiet before _ = Unit {0}

abbrev pub Settled : List Line → Type 0
Settled [] = Unit {0}
Settled (l ∷ past) = Quiet (Settled past) l.entry

pub owes_nothing : (past : List Line) (at : At) (e : Entry) → Settled past → Owes past at e
owes_nothing [] at e s = tt
owes_nothing (l ∷ past) at e s = by l.entry s (owes_nothing past at e)
  where
    begun : (slot : ℕ) (stage : Stage) (c : Call) → BeginQuiet stage c → OwesBegun (l.at ≡ at) slot stage c e
    begun slot Bad c q = absurd q
    begun slot stage (call.Close h) q = tt
    begun slot stage (call.Write h offset bytes) q = tt
    begun slot stage (call.Cut h size) q = tt
    begun slot stage (call.Flush h) q = tt
    begun slot stage (call.Glimpse h) q = tt
    begun slot stage c q = absurd q

    stood : (slot : ℕ) (stage : Stage) → StoodQuiet stage (Settled past) → (Settled past → Owes past at e)
        → OwesStood (l.at ≡ at) slot stage (Owes past at e) e
    stood slot (Flushing stripe) q more = more q
    stood slot (Sizes work) q more = absurd q
    stood slot stage q more = tt

    queued : (slot : Option ℕ) → OwesQueued slot (Settled past) → (Settled past → Owes past at e) → OwesQueued slot (Owes past at e)
    queued None q more = more q
    queued (Some slot) q more = tt

    by : (x : Entry) → Quiet (Settled past) x → (Settled past → Owes past at e) → Owes (line l.at x ∷ past) at e
    by (Act d) q more = absurd q
    by (Txn d) q more = absurd q
    by (Wait lock d) q more = absurd q
    by (Answers d) q more = absurd q
    by (Grant lock asked) q more = absurd q
    by (Begin slot running) q more = begun slot running.stage running.call q
    by (Pins name) q more = absurd q
    by (Unpins name) q more = more q
    by (Stands slot running) q more = stood slot running.stage q more
    by (WritesBack resource change) q more = more q
    by (Queues t r) q more = queued r.slot q more
    by (Changes resource change) q more = absurd q
    by (Shows resource cookie last) q more = absurd q
    by _ q more = tt

-- each line of a turn pays what is owed, and at its end nothing is
abbrev pub AllPaid : List Line → At → List Entry → Type 0
AllPaid past at [] = Settled past
AllPaid past at (e ∷ es) = Owes past at e × AllPaid (line at e ∷ past) at es

pub settled_after : (past : List Line) (at : At) (es : List Entry) → AllPaid past at es → Settled (with_turn at es past)
settled_after past at [] p = p
settled_after past at (e ∷ es) p = settled_after (line at e ∷ past) at es p.1

-- ---- no life is back unshown

-- in the story of one target
abbrev pub NoBack : Head → List Line → Type 0
NoBack head past = (who : Who) → BackNow head.osts head.clients past who → ⊥

-- of each
abbrev pub NoBacks : Head → List Line → Type 0
NoBacks head past = (t : ℕ) → NoBack head (only t past)

-- a line after which a life is back is followed by that one's, in the turn, and at its end none is back unshown
abbrev pub AllBacks : Head → List Line → At → List Entry → Type 0
AllBacks head past at [] = NoBack head past
AllBacks head past at (e ∷ es) = ((who : Who) → BackNow head.osts head.clients past who → (e ≡ Back who) × IsTurnOf past at)
    × AllBacks head (line at e ∷ past) at es

shown_one : (head : Head) (past : List Line) (at : At) (es : List Entry) → AllBacks head past at es → NoBack head (with_turn at es past)
shown_one head past at [] b = b
shown_one head past at (e ∷ es) b = shown_one head (line at e ∷ past) at es b.1

pub shown_after : (head : Head) (past : List Line) (at : At) (es : List Entry)
    → ((t : ℕ) → AllBacks head (only t past) at (about t at.node es)) → NoBacks head (with_turn at es past)
shown_after head past at es b t = subst (λ (p : List Line). NoBack head p) (sym (turn_only t at es past))
    (shown_one head (only t past) at (about t at.node es) (b t))

-- ---- what a target has to keep is kept

-- a line that takes it is followed by its mark, in the turn, and at its end none is due
abbrev pub AllMarks : Head → List Line → At → List Entry → Type 0
AllMarks head past at [] = due head.osts head.clients past ≡ None
AllMarks head past at (e ∷ es) = ((mark : Entry) → due head.osts head.clients past ≡ Some mark → (e ≡ mark) × IsTurnOf past at)
    × AllMarks head (line at e ∷ past) at es

kept_one : (head : Head) (past : List Line) (at : At) (es : List Entry) → AllMarks head past at es
    → due head.osts head.clients (with_turn at es past) ≡ None
kept_one head past at [] m = m
kept_one head past at (e ∷ es) m = kept_one head (line at e ∷ past) at es m.1

pub kept_after : (head : Head) (past : List Line) (at : At) (es : List Entry)
    → ((t : ℕ) → AllMarks head (only t past) at (about t at.node es)) → (t : ℕ) → due head.osts head.clients (only t (with_turn at es past))
    ≡ None
kept_after head past at es m t = subst (λ (p : List Line). due head.osts head.clients p ≡ None) (sym (turn_only t at es past))
    (kept_one head (only t past) at (about t at.node es) (m t))

-- ---- what a close has to show is shown

-- while there is something left, a line is the next of it, in the turn, and at its end nothing is left
abbrev pub AllShows : Head → List Line → At → List Entry → Type 0
AllShows head past at [] = closing_of head.clients past ≡ []
AllShows head past at (e ∷ es) = ShowsNext head past at e × AllShows head (line at e ∷ past) at es

closed_one : (head : Head) (past : List Line) (at : At) (es : List Entry) → AllShows head past at es
    → closing_of head.clients (with_turn at es past) ≡ []
closed_one head past at [] s = s
closed_one head past at (e ∷ es) s = closed_one head (line at e ∷ past) at es s.1

pub closed_after : (head : Head) (past : List Line) (at : At) (es : List Entry)
    → ((t : ℕ) → AllShows head (only t past) at (about t at.node es)) → (t : ℕ) → closing_of head.clients (only t (with_turn at es past))
    ≡ []
closed_after head past at es s t = subst (λ (p : List Line). closing_of head.clients p ≡ []) (sym (turn_only t at es past))
    (closed_one head (only t past) at (about t at.node es) (s t))

-- where nothing is left, any line may come next
pub shows_any : (head : Head) (past : List Line) (at : At) (e : Entry) → closing_of head.clients past ≡ [] → ShowsNext head past at e
shows_any head past at e none next more q = absurd (cc)

-- and it leaves nothing, where it closes no window
abbrev pub IsNoClose : Entry → Type 0
IsNoClose (Close o) = ⊥
IsNoClose _ = Unit {0}

pub closing_quiet : (clients : ℕ) (past : List Line) (at : At) (e : Entry) → IsNoClose e → closing_of clients past ≡ []
    → closing_of clients (line at e ∷ past) ≡ []
closing_quiet clients past at e quiet none = by at.node e quiet
  where
    by : (node : Node) (e : Entry) → IsNoClose e → closing_of clients (line (turn at.stamp node) e ∷ past) ≡ []
    by (Client c) e q = none
    by (Target t) (Close o) q = absurd q
    by (Target t) e q = ap but_first none

abbrev pub NoClose : List Entry → Type 0
NoClose [] = Unit {0}
NoClose (e ∷ es) = IsNoClose e × NoClose es

pub shows_quiet : (head : Head) (past : List Line) (at : At) (es : List Entry) → NoClose es → closing_of head.clients past ≡ []
    → AllShows head past at es
shows_quiet head past at [] quiet none = none
shows_quiet head past at (e ∷ es) quiet none = (
  shows_any head past at e none,
  shows_quiet head (line at e ∷ past) at es quiet.1 (closing_quiet head.clients past at e quiet.0 none),
)

-- ---- where nothing is due, none is back unshown, and a close has nothing to show

-- any line may come next
pub backs_none : (head : Head) (past : List Line) (at : At) (e : Entry) → Noted head past → (t : ℕ) (who : Who) → concerns t at.node e
    ≡ true → BackNow head.osts head.clients (only t past) who → (e ≡ Back who) × IsTurnOf (only t past) at
backs_none head past at e n t who q k = absurd (n.told t who k)

pub marks_none : (head : Head) (past : List Line) (at : At) (e : Entry) → Noted head past → (t : ℕ) (mark : Entry) → concerns t at.node e
    ≡ true → due head.osts head.clients (only t past) ≡ Some mark → (e ≡ mark) × IsTurnOf (only t past) at
marks_none head past at e n t mark q d = absurd (let none : due head.osts head.clients (only t past) ≡ None = n.marked t in cc)

pub shows_none : (head : Head) (past : List Line) (at : At) (e : Entry) → Noted head past → (t : ℕ) → concerns t at.node e ≡ true
    → ShowsNext head (only t past) at e
shows_none head past at e n t q = shows_any head (only t past) at e (n.shown t)

-- and a client's line leaves it so
pub noted_client : (head : Head) (past : List Line) (stamp : Stamp) (c : ℕ) (e : Entry) → EntryOk past (turn stamp (Client c)) (Client c) e
    → Noted head past → Noted head (line (turn stamp (Client c)) e ∷ past)
noted_client head past stamp c e ok n = record {
  marked = λ t. marked t (is_about t e);
  told = λ t who. told t who (is_about t e);
  shown =
      λ t. shown t (is_about t e);
}
  where
    here : At
    here = turn stamp (Client c)

    none_due : (x : Entry) (p : List Line) → due head.osts head.clients (line here x ∷ p) ≡ None
    none_due (Take k from m) p = refl
    none_due x p = refl

    no_mark : (x : Entry) → EntryOk past here (Client c) x → IsMark x → ⊥
    no_mark (Stores r) ok k = absurd ok
    no_mark (Brings l) ok k = absurd ok
    no_mark (Says said) ok k = absurd ok
    no_mark (Wishes who) ok k = absurd ok
    no_mark x ok k = k

    marked : (t : ℕ) (b : Bool) → due head.osts head.clients (if b then line here e ∷ only t past else only t past) ≡ None
    marked t true = none_due e (only t past)
    marked t false = n.marked t

    told : (t : ℕ) (who : Who) (b : Bool) → BackNow head.osts head.clients (if b then line here e ∷ only t past else only t past) who → ⊥
    told t who true k = no_mark e ok k.0
    told t who false k = n.told t who k

    shown : (t : ℕ) (b : Bool) → closing_of head.clients (if b then line here e ∷ only t past else only t past) ≡ []
    shown t true = n.shown t
    shown t false = n.shown t

-- ---- all is allowed: over the whole past, and over what concerns one target

abbrev pub AllOk : Head → List Line → At → List Entry → Type 0
AllOk head past at [] = Unit {0}
AllOk head past at (e ∷ es) = LivesAt head past at.node × EntryOk past at at.node e × AllOk head (line at e ∷ past) at es

pub ok_more : (head : Head) (past : List Line) (at : At) (es fs : List Entry) → AllOk head past at es
    → AllOk head (with_turn at es past) at fs → AllOk head past at (es ++ fs)
ok_more head past at [] fs a b = b
ok_more head past at (e ∷ es) fs a b = (a.0, a.1, ok_more head (line at e ∷ past) at es fs a.2 b)

abbrev pub AllOf : Head → List Line → At → List Entry → Type 0
AllOf head past at [] = Unit {0}
AllOf head past at (e ∷ es) = EntryOf head past at at.node e × AllOf head (line at e ∷ past) at es

pub of_more : (head : Head) (past : List Line) (at : At) (es fs : List Entry) → AllOf head past at es
    → AllOf head (with_turn at es past) at fs → AllOf head past at (es ++ fs)
of_more head past at [] fs a b = b
of_more head past at (e ∷ es) fs a b = (a.0, of_more head (line at e ∷ past) at es fs a.1 b)

pub record RowOk (head : Head) (past : List Line) (at : At) (es : List Entry) : Type 0 where
  pub paid : AllPaid past at es
  pub ok : AllOk head past at es
  pub of : (t : ℕ) → AllOf head (only t past) at (about t at.node es)
  pub backs : (t : ℕ) → AllBacks head (only t past) at (about t at.node es)
  pub marks : (t : ℕ) → AllMarks head (only t past) at (about t at.node es)
  pub shows : (t : ℕ) → AllShows head (only t past) at (about t at.node es)

-- after such a turn
pub noted_after : (head : Head) (past : List Line) (at : At) (es : List Entry) → RowOk head past at es → Noted head (with_turn at es past)
noted_after head past at es r = record {
  marked = kept_after head past at es r.marks;
  told = shown_after head past at es r.backs;
  shown =
      closed_after head past at es r.shows;
}

-- ---- a turn on a grown past

grows : (head : Head) (at : At) (es : List Entry) (past : List Line) → Grown head past → Steps past at → Closes past at → AllPaid past at es
    → AllOk head past at es → ((t : ℕ) → AllOf head (only t past) at (about t at.node es))
    → ((t : ℕ) → AllBacks head (only t past) at (about t at.node es)) → ((t : ℕ) → AllMarks head (only t past) at (about t at.node es))
    → ((t : ℕ) → AllShows head (only t past) at (about t at.node es)) → Grown head (with_turn at es past)
grows head at [] past g s x p a b k m w = g
grows head at (e ∷ es) past g s x p a b k m w =
    grows head at es (line at e ∷ past) (
      record {
        steps = s;
        closes = x;
        backs = λ t who q. back t q who;
        marks =
            λ t mark q. mark_of t q mark;
        shows = show;
        lives = a.0;
        owes = p.0;
        ok = a.1;
        of = first;
      },
      g,
    ) (inl refl) (inl refl) p.1 a.2
    (λ t. more t (concerns t at.node e) (b t))
    (λ t. backs t (concerns t at.node e) (k t)) (λ t. marks t (concerns t at.node e) (m t)) (λ t. shows t (concerns t at.node e) (w t))
  where
    first : (t : ℕ) → concerns t at.node e ≡ true → EntryOf head (only t past) at at.node e
    first t q = (subst (λ (fs : List Entry). AllOf head (only t past) at fs)
        (cond-true (concerns t at.node e) (e ∷ about t at.node es) (about t at.node es) q) (b t)).0

    back : (t : ℕ) → concerns t at.node e ≡ true → (who : Who) → BackNow head.osts head.clients (only t past) who → (e ≡ Back who)
        × IsTurnOf (only t past) at
    back t q = (subst (λ (fs : List Entry). AllBacks head (only t past) at fs)
        (cond-true (concerns t at.node e) (e ∷ about t at.node es) (about t at.node es) q) (k t)).0

    mark_of : (t : ℕ) → concerns t at.node e ≡ true → (mark : Entry) → due head.osts head.clients (only t past) ≡ Some mark → (e ≡ mark)
        × IsTurnOf (only t past) at
    mark_of t q = (subst (λ (fs : List Entry). AllMarks head (only t past) at fs)
        (cond-true (concerns t at.node e) (e ∷ about t at.node es) (about t at.node es) q) (m t)).0

    show : (t : ℕ) → concerns t at.node e ≡ true → ShowsNext head (only t past) at e
    show t q = (subst (λ (fs : List Entry). AllShows head (only t past) at fs)
        (cond-true (concerns t at.node e) (e ∷ about t at.node es) (about t at.node es) q) (w t)).0

    shows : (t : ℕ) (c : Bool) → AllShows head (only t past) at (if c then e ∷ about t at.node es else about t at.node es)
        → AllShows head (if c then line at e ∷ only t past else only t past) at (about t at.node es)
    shows t true h = h.1
    shows t false h = h

    marks : (t : ℕ) (c : Bool) → AllMarks head (only t past) at (if c then e ∷ about t at.node es else about t at.node es)
        → AllMarks head (if c then line at e ∷ only t past else only t past) at (about t at.node es)
    marks t true h = h.1
    marks t false h = h

    backs : (t : ℕ) (c : Bool) → AllBacks head (only t past) at (if c then e ∷ about t at.node es else about t at.node es)
        → AllBacks head (if c then line at e ∷ only t past else only t past) at (about t at.node es)
    backs t true h = h.1
    backs t false h = h

    more : (t : ℕ) (c : Bool) → AllOf head (only t past) at (if c then e ∷ about t at.node es else about t at.node es)
        → AllOf head (if c then line at e ∷ only t past else only t past) at (about t at.node es)
    more t true h = h.1
    more t false h = h

-- the first line of a turn
pub steps_after : (past : List Line) (at : At) → Later past at → Steps past at
steps_after [] at l = tt
steps_after (x ∷ past) at l = inr l

pub turn_grows : (head : Head) (past : List Line) (at : At) (es : List Entry) → Grown head past → Later past at
    → ((c : ℕ) → Ending past c → ⊥) → RowOk head past at es → Grown head (with_turn at es past)
turn_grows head past at es g later closed r = grows head at es past g (steps_after past at later) (closes_after past at closed) r.paid r.ok
    r.of r.backs r.marks r.shows

-- ---- turns of a run stand in order

-- where a turn's lines were put on, the newest turn is that one, or that of the past
turn_later : (past : List Line) (at next : At) (es : List Entry) → Later past next → turn_before at next ≡ true
    → Later (with_turn at es past) next
turn_later past at next [] l b = l
turn_later past at next (e ∷ es) l b = turn_later (line at e ∷ past) at next es b b

follows : (turns : List Turn) (at next : At) → Follows turns at → turn_before at next ≡ true → Follows turns next
follows [] at next f b = tt
follows (t ∷ turns) at next f b = turn_trans t.at at next f b

-- a turn that follows the newest one of a run follows all
pub run_later : (head : table.Head) (turns : List Turn) (next : At) → IsRun head turns → Follows turns next → Later (lines_of turns) next
run_later head [] next run f = tt
run_later head (turn ∷ turns) next run f = turn_later (lines_of turns) turn.at next turn.entries
    (run_later head turns next run.2 (follows turns turn.at next run.0 f)) f
