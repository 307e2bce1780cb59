-- What a line makes of what is granted and of what waits, as what is ended or comes.
use Rattle.std.proofs.Common.{◌≡◌, ℕ, suc, ◌+◌, Bool, true, false, not, ◌&&◌, ◌==◌, List, [], ◌∷◌, ◌++◌, length, refl, ap, sym, subst, ◌∙◌}
use Rattle.std.proofs.Common.{add-one, arith}
use Rattle.std.specs.Prelude.{filter, map, reverse, if◌then◌else◌}
use Rattle.std.proofs.lemmas.Bool.Decides.{nat_tests}
use Rattle.std.proofs.lemmas.List.{reverse-append, map-append}
use Rattle.lu_base.specs.declared.ids.Node.{Node}
use Rattle.lu_base.specs.declared.ids.Node.TheVariants.{Target}
use Rattle.lu_base.specs.declared.ids.Who.{Who}
use Rattle.lu_base.specs.declared.locks.Lock.{Lock}
use Rattle.lu_spec_machine.specs.Tree.{same_life}
use Rattle.lu_trace.specs.declared.entries.Entry.{Entry}
use Rattle.lu_trace.specs.declared.entries.Entry.TheVariants.{Grant, Wait, Release, Crash, Restore, Evict}
use Rattle.lu_trace.specs.declared.entries.Line.{Line}
use Rattle.lu_spec_laws.specs.Words.Pasts.{Past, is_target}
use Rattle.lu_spec_laws.specs.Words.Queues.{asks}
use Rattle.lu_judge_locks.specs.declared.lists.Placed.{Placed}
use Rattle.lu_judge_locks.specs.declared.lists.LockLists.{LockLists}
use Rattle.lu_judge_locks.specs.declared.waiting.Waiting.{Waiting}
use Rattle.lu_judge_locks.specs.Lists.{Arrival, arrival_of, ShowsLists}
use Rattle.lu_judge_locks.specs.Orders.{asks_in, locks_of}
use Rattle.lu_judge_locks.specs.Queues.{ShowsWaiting}
use Rattle.lu_judge_locks.specs.Arrivals.{is_other_than, is_of_other, granted_with, waiting_with, grants, arrivals}
use Rattle.lu_judge_locks.proofs.Filters.{filter_same, filter_none}
use Rattle.lu_judge_locks.proofs.Notions.{locks}

turned : (a b : ℕ) → (a == b) ≡ (b == a)
turned a b = grind (arith, nat_tests)

every : (all : List Arrival) → filter (λ a. true) all ≡ all
every [] = refl
every (a ∷ all) = ap (λ rest. a ∷ rest) (every all)

pub released : (here : Bool) (cookie : ℕ) (all : List Arrival) → (if here then filter (is_other_than cookie) all else all)
    ≡ filter (λ a. not (here && cookie == a.lock.cookie.0)) all
released true cookie all = filter_same (is_other_than cookie) (λ a. not (cookie == a.lock.cookie.0)) all
    (λ a. ap not (turned a.lock.cookie.0 cookie))
released false cookie all = sym (every all)

pub crashed : (here : Bool) (all : List Arrival) → (if here then [] else all) ≡ filter (λ a. not here) all
crashed true all = sym (filter_none (λ a. false) all (λ a. refl))
crashed false all = sym (every all)

lives_turned : (a b : Who) → same_life a b ≡ same_life b a
lives_turned a b = rw (turned a.client b.client, turned a.life b.life) refl

pub evicted : (here : Bool) (who : Who) (all : List Arrival) → (if here then filter (is_of_other who) all else all)
    ≡ filter (λ a. not (here && same_life who a.lock.ask.who)) all
evicted true who all = filter_same (is_of_other who) (λ a. not (same_life who a.lock.ask.who)) all
    (λ a. ap not (lives_turned a.lock.ask.who who))
evicted false who all = sym (every all)

-- a line of another node
pub granted_away : (place : ℕ) (e : Entry) (old : List Arrival) → granted_with false place e old ≡ old
granted_away place (Grant lock) old = refl
granted_away place (Restore lock) old = refl
granted_away place (Release cookie) old = refl
granted_away place Crash old = refl
granted_away place _ old = refl

pub waiting_away : (place : ℕ) (e : Entry) (old : List Arrival) → waiting_with false place e old ≡ old
waiting_away place (Wait lock) old = refl
waiting_away place (Grant lock) old = refl
waiting_away place (Evict who cause) old = refl
waiting_away place Crash old = refl
waiting_away place _ old = refl

-- a line of the target
pub granted_stepped : (s : LockLists) (target place : ℕ) (l : Line) (past : Past) → l.at.node ≡ Target target → place ≡ length past
    → ShowsLists s (place + 1) (λ t. granted_with (target == t) place l.entry (grants t past))
    → ShowsLists s (length (l ∷ past)) (λ t. grants t (l ∷ past))
granted_stepped s target place l past node is shown =
    subst (λ (n : Node). ShowsLists s (suc (length past)) (λ t. granted_with (is_target t n) (length past) l.entry (grants t past)))
    (sym node)
    (subst (λ (m : ℕ). ShowsLists s m (λ t. granted_with (target == t) (length past) l.entry (grants t past))) (add-one (length past))
    (subst (λ (p : ℕ). ShowsLists s (p + 1) (λ t. granted_with (target == t) p l.entry (grants t past))) is shown))

pub waiting_stepped : (w : Waiting) (target place : ℕ) (l : Line) (past : Past) → l.at.node ≡ Target target → place ≡ length past
    → ShowsWaiting w (place + 1) (λ t. waiting_with (target == t) place l.entry (arrivals t past))
    → ShowsWaiting w (length (l ∷ past)) (λ t. arrivals t (l ∷ past))
waiting_stepped w target place l past node is shown =
    subst (λ (n : Node). ShowsWaiting w (suc (length past)) (λ t. waiting_with (is_target t n) (length past) l.entry (arrivals t past)))
    (sym node)
    (subst (λ (m : ℕ). ShowsWaiting w m (λ t. waiting_with (target == t) (length past) l.entry (arrivals t past))) (add-one (length past))
    (subst (λ (p : ℕ). ShowsWaiting w (p + 1) (λ t. waiting_with (target == t) p l.entry (arrivals t past))) is shown))

-- ---- in the code's own form

pub newest_asks : (items : List Placed) → map (λ p. p.lock.now.ask) (reverse items) ≡ asks (reverse (locks (map arrival_of items)))
newest_asks [] = refl
newest_asks (p ∷ items) =
    ap (map (λ p. p.lock.now.ask)) (reverse-append (p ∷ []) items) ∙ map-append (λ p. p.lock.now.ask) (reverse items) (p ∷ [])
    ∙ ap (λ rest. rest ++ p.lock.now.ask ∷ []) (newest_asks items)
    ∙ sym (ap asks (reverse-append (p.lock.now ∷ []) (locks (map arrival_of items)))
    ∙ map-append (λ lock. lock.ask) (reverse (locks (map arrival_of items))) (p.lock.now ∷ []))

pub locks_again : (items : List Placed) → map (λ p. p.lock.now) items ≡ locks (map arrival_of items)
locks_again [] = refl
locks_again (p ∷ items) = ap (λ rest. p.lock.now ∷ rest) (locks_again items)

pub asks_again : (items : List Placed) → asks_in items ≡ asks (locks_of items)
asks_again [] = refl
asks_again (p ∷ items) = ap (λ rest. p.lock.now.ask ∷ rest) (asks_again items)

pub asks_of_both : (ahead behind : List Placed) (all : List Lock) → all ≡ locks_of ahead ++ locks_of behind → asks_in ahead
    ++ asks_in behind ≡ asks all
asks_of_both ahead behind all is = rw (asks_again ahead, asks_again behind)
    (sym (ap asks is ∙ map-append (λ lock. lock.ask) (locks_of ahead) (locks_of behind)))
