-- What every run keeps of waits: a lock waits as the request asks for it that this turn took, and a granted lock is in its way or one that
-- waits.
use Rattle.std.proofs.Common.{◌≡◌, ℕ, ◌+◌, ◌<◌, Bool, true, false, List, [], ◌∷◌, ◌++◌, Some, refl, sym, subst, ap, ◌∙◌}
use Rattle.std.specs.Prelude.{◌||◌, find}
use Rattle.lu_base.specs.declared.ids.At.{At}
use Rattle.lu_base.specs.declared.ids.Cookie.{Cookie}
use Rattle.lu_base.specs.declared.ids.Node.{Node}
use Rattle.lu_base.specs.declared.ids.Node.TheVariants.{Client, Target}
use Rattle.lu_base.specs.declared.ids.Stamp.{Stamp}
use Rattle.lu_base.specs.declared.ids.Who.{Who}
use Rattle.lu_base.specs.declared.locks.Ask.{Ask}
use Rattle.lu_base.specs.declared.locks.Lock.{Lock}
use Rattle.lu_base.specs.declared.locks.Resource.{Resource}
use Rattle.lu_lock.specs.Conflict.{conflicts_with_any}
use Rattle.lu_trace.specs.declared.entries.Line.{Line as PrintedLine}
use Rattle.lu_spec_entries.specs.Carried.{Deed}
use Rattle.lu_spec_entries.specs.Words.{Entry, Wait, Line}
use Rattle.lu_spec_entries.specs.Concerns.{only}
use Rattle.lu_spec_entries.specs.Printed.{printed}
use Rattle.lu_spec_target.specs.Replies.{asks_of, locks_on}
use Rattle.lu_proof_lawful.specs.Covered.Deeds.{in_the_way}
use Rattle.lu_proof_lawful.specs.Covered.Heads.{Head}
use Rattle.lu_proof_lawful.specs.Covered.TargetStates.{Server, server_of}
use Rattle.lu_spec_laws.specs.Holds.{Holds}
use Rattle.lu_spec_laws.specs.Words.Sends.{taken}
use Rattle.lu_spec_laws.specs.Words.Queues.{asks, on, is_on, granted, waiting}
use Rattle.lu_spec_laws.specs.Words.Asked.{enqueued, is_for}
use Rattle.lu_spec_laws.specs.Order.Waits.{has_to_wait, WaitBy, Waits}
use Rattle.lu_spec_laws.proofs.Tests.{clash}
use Rattle.lu_proof_lawful.proofs.Preconditions.Guards.{In}
use Rattle.lu_proof_lawful.proofs.Preconditions.StoryGuards.{WaitOk}
use Rattle.lu_proof_lawful.proofs.Preconditions.Grown.{Allowed, Grown}
use Rattle.lu_proof_lawful.proofs.Preconditions.Lists.{self, life_self, in_left, in_right}
use Rattle.lu_proof_lawful.proofs.Preconditions.QueueLists.{resource_itself}
use Rattle.lu_proof_lawful.proofs.Invariants.Groups.{turn}
use Rattle.lu_proof_lawful.proofs.Laws.Lines.{Keeps, holds_before, Nothing}
use Rattle.lu_proof_lawful.proofs.Laws.Grows.{Within, within_filter, within_map, clear_within}
use Rattle.lu_proof_lawful.proofs.Laws.Once.{wait_now, asked_there}
use Rattle.lu_proof_lawful.proofs.Laws.OrderlyQuiet.{Says}
use Rattle.lu_proof_lawful.proofs.Laws.Waits.{waiting_is, granted_same}
use Rattle.lu_proof_lawful.proofs.Laws.Wanted.{lock_as, enqueued_now}

-- what is in the way of some is in the way of more
in_way_of : (a : Ask) (xs ys : List Ask) → Within xs ys → conflicts_with_any a xs ≡ true → conflicts_with_any a ys ≡ true
in_way_of a xs ys w e = by (conflicts_with_any a ys) refl
  where
    by : (b : Bool) → conflicts_with_any a ys ≡ b → b ≡ true
    by true q = refl
    by false q = absurd (clash (conflicts_with_any a xs) e (clear_within a ys xs w q))

wait_asks : (head : Head) (past : List Line) (stamp : Stamp) (t : ℕ) (lock : Lock) (d : Deed)
    → Allowed head past (turn stamp (Target t)) (Wait lock d) → Grown head past
    → WaitBy (printed past) (turn stamp (Target t)) (Target t) lock
wait_asks head past stamp t lock d a g = record { asked = found; clashes = clashes }
  where
    at : At
    at = turn stamp (Target t)

    v : Server
    v = server_of head.osts (only t past)

    above : 0 < t
    above = a.ok.0

    ok : WaitOk head.osts (only t past) at lock d
    ok = (a.of t (self t)).1

    place : lock.resource ≡ ok.resource
    place = ap (λ (l : Lock). l.resource) ok.of_lock

    -- it is asked for now
    taken_up : (rest : List Lock) × (enqueued t (printed past) lock.cookie (taken (printed past) at)
        ≡ lock_as lock.cookie d.reply.who ok.resource ok.mode ok.extent ∷ rest)
    taken_up =
        enqueued_now head past at t d lock.cookie ok.resource ok.mode ok.extent g
        (asked_there head past at t d g (wait_now head past stamp (Target t) lock d a g) refl) a.ok.1
        (ap (λ (e : Deed). e.op) ok.is ∙ ok.of_op)

    same : lock_as lock.cookie d.reply.who ok.resource ok.mode ok.extent ≡ lock
    same =
        ap (λ (c : Cookie). lock_as c d.reply.who ok.resource ok.mode ok.extent) (ap (λ (l : Lock). l.cookie) ok.of_lock)
        ∙ ap (λ (w : Who). lock_as (record { 0 = v.cookie + 1 }) w ok.resource ok.mode ok.extent) (ap (λ (e : Deed). e.reply.who) ok.is)
        ∙ sym ok.of_lock

    fits : is_for lock lock ≡ true
    fits = rw (resource_itself lock.resource, life_self lock.ask.who) refl

    found : find (is_for lock) (enqueued t (printed past) lock.cookie (taken (printed past) at)) ≡ Some lock
    found = subst (λ (ls : List Lock). find (is_for lock) ls ≡ Some lock) (sym (taken_up.1 ∙ ap (λ (l : Lock). l ∷ taken_up.0) same))
        (rw fits refl)

    -- and something is in its way
    all : List Lock
    all = granted t (printed past) ++ waiting t (printed past)

    busy : in_the_way v lock.resource (locks_on lock.resource v.queued) lock.ask ≡ true
    busy =
        subst (λ (r : Resource). in_the_way v r (locks_on r v.queued) lock.ask ≡ true) (sym place)
        (subst (λ (l : Lock). in_the_way v ok.resource (locks_on ok.resource v.queued) l.ask ≡ true) (sym ok.of_lock) ok.busy)

    into : (xs : List Lock) → Within xs all → Within (asks_of (locks_on lock.resource xs)) (asks (on lock.resource all))
    into xs w = within_map (λ (l : Lock). l.ask) (on lock.resource xs) (on lock.resource all) (within_filter (is_on lock.resource) xs all w)

    granted_in : Within v.granted all
    granted_in l i = in_left l (granted t (printed past)) (waiting t (printed past))
        ((granted_same head t above past g).1 l (subst (λ (ls : List Lock). In l ls) (sym ok.shown) i))

    queued_in : Within v.queued all
    queued_in l i = in_right l (granted t (printed past)) (waiting t (printed past))
        (subst (λ (ls : List Lock). In l ls) (sym (waiting_is head t past g ok.serves)) i)

    clashes : has_to_wait t (printed past) lock ≡ true
    clashes = by (conflicts_with_any lock.ask (asks_of (locks_on lock.resource v.granted))) refl busy
      where
        by : (b : Bool) → conflicts_with_any lock.ask (asks_of (locks_on lock.resource v.granted)) ≡ b
            → (b || conflicts_with_any lock.ask (asks_of (locks_on lock.resource v.queued))) ≡ true → has_to_wait t (printed past) lock
            ≡ true
        by true e q = in_way_of lock.ask (asks_of (locks_on lock.resource v.granted)) (asks (on lock.resource all))
            (into v.granted granted_in) e
        by false e q = in_way_of lock.ask (asks_of (locks_on lock.resource v.queued)) (asks (on lock.resource all))
            (into v.queued queued_in) q

waits_at : (head : Head) (past : List Line) (l : Line) (later : List PrintedLine) → Allowed head past l.at l.entry → Grown head past
    → Keeps Waits past l later
waits_at head past l later a g = by l.at.node l.entry a
  where
    by : (node : Node) (e : Entry) → Allowed head past (turn l.at.stamp node) e → Says Waits past (turn l.at.stamp node) later e
    by (Client c) (Wait lock d) k = absurd k.ok
    by (Target t) (Wait lock d) k = wait_asks head past l.at.stamp t lock d k g
    by _ _ k = tt

pub waits : (head : Head) (past : List Line) → Grown head past → Holds Waits (printed past)
waits head past g = holds_before head Waits Nothing (λ l past k. k) (λ past l later a g k. waits_at head past l later a g) past [] g tt
