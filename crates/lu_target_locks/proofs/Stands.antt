-- Locks that stand again, one after another.
use Rattle.std.proofs.Common.{◌≡◌, ℕ, ◌+◌, ◌<◌, ◌≤◌, length, take, get_or, Bool, true, false, not, List, [], ◌∷◌, ◌++◌, All, IsPermutation}
use Rattle.std.proofs.Common.{refl, sym, ◌∙◌, ap, subst}
use Rattle.std.specs.Prelude.{if◌then◌else◌}
use Rattle.std.proofs.lemmas.List.{append-nil, take_more}
use Rattle.std.proofs.lemmas.List.Sorted.{IsPermutation-sym, IsPermutation-map, IsPermutation-middle, list_any-IsPermutation}
use Rattle.lu_base.specs.declared.locks.Lock.{Lock}
use Rattle.lu_base.specs.declared.locks.Resource.{Resource}
use Rattle.lu_callback.specs.Callbacks.{IsSound}
use Rattle.lu_lock.specs.Conflict.{conflict, conflicts_with_any}
use Rattle.lu_queue.specs.Queues as queue
use Rattle.lu_lockspace.specs.Spaces.{SpaceState, empty, same_resource, grant_of, queue_of, KeepsOthers, IsSpace}
use Rattle.lu_spec_entries.specs.Carried.{Outcome}
use Rattle.lu_spec_entries.specs.Words.{Close}
use Rattle.lu_spec_target.specs.Outcomes.{restored}
use Rattle.lu_spec_target.specs.Replies.{locks_on, asks_of}
use Rattle.lu_spec_target.specs.States.{Target, after}
use Rattle.lu_target_refines.specs.Callbacks.{Shows as ShowsAsked}
use Rattle.lu_target_refines.specs.Locks.{grants_of, ShowsLocks, AreRestored}
use Rattle.lu_target_refines.proofs.Answered.{moved}
use Rattle.lu_target_refines.proofs.Granting.{conflicts_of}
use Rattle.lu_target_refines.proofs.LockOrders.{IsPermutation-filter}
use Rattle.lu_target_refines.proofs.Locks.{locks_same}
use Rattle.lu_target_refines.proofs.Restoring.{HasAll, has_none, has_restored, restore_answers, restored_more, restores}
use Rattle.lu_target_locks.specs.Servers.{ServerState, Shows, ShowsCounts}
use Rattle.lu_target_locks.specs.Standing.{where_standing, StandAgain}

-- ---- one more, behind the others

abbrev meets : Lock → List Lock → Bool
meets l before = conflicts_with_any l.ask (asks_of (locks_on l.resource before))

-- in whatever order those stand
meets_moved : (l : Lock) (xs ys : List Lock) → IsPermutation xs ys → meets l xs ≡ meets l ys
meets_moved l xs ys moved_so =
    conflicts_of l.ask (locks_on l.resource xs)
    ∙ list_any-IsPermutation (λ g. conflict l.ask g.ask) (grants_of (locks_on l.resource xs)) (grants_of (locks_on l.resource ys))
    (IsPermutation-map grant_of (locks_on l.resource xs) (locks_on l.resource ys)
    (IsPermutation-filter (λ k. same_resource k.resource l.resource) xs ys moved_so))
    ∙ sym (conflicts_of l.ask (locks_on l.resource ys))

abbrev if_free : Bool → Lock → List Lock
if_free b l = if b then [] else l ∷ []

restored_behind : (before locks : List Lock) (l : Lock) → restored before (locks ++ l ∷ []) ≡ restored before locks
    ++ if_free (meets l (before ++ restored before locks)) l
restored_behind before [] l = by (meets l before) refl where
  by : (b : Bool) → meets l before ≡ b → (if b then [] else l ∷ []) ≡ if_free (meets l (before ++ [])) l
  by b e = ap (λ c. if_free c l) (sym (ap (meets l) (append-nil before) ∙ e))
restored_behind before (k ∷ locks) l = by (meets k before) (restored_behind before locks l) (restored_behind (k ∷ before) locks l) where
  by : (b : Bool) → restored before (locks ++ l ∷ []) ≡ restored before locks ++ if_free (meets l (before ++ restored before locks)) l
      → restored (k ∷ before) (locks ++ l ∷ []) ≡ restored (k ∷ before) locks
      ++ if_free (meets l ((k ∷ before) ++ restored (k ∷ before) locks)) l
      → (if b then restored before (locks ++ l ∷ []) else k ∷ restored (k ∷ before) (locks ++ l ∷ []))
      ≡ (if b then restored before locks else k ∷ restored (k ∷ before) locks)
      ++ if_free (meets l (before ++ (if b then restored before locks else k ∷ restored (k ∷ before) locks))) l
  by true out stands = out
  by false out stands =
      ap (λ (ls : List Lock). k ∷ ls) stands
      ∙ ap (λ c. k ∷ (restored (k ∷ before) locks ++ if_free c l))
      (meets_moved l ((k ∷ before) ++ restored (k ∷ before) locks) (before ++ k ∷ restored (k ∷ before) locks)
      (IsPermutation-sym (before ++ k ∷ restored (k ∷ before) locks) ((k ∷ before) ++ restored (k ∷ before) locks)
      (IsPermutation-middle before k (restored (k ∷ before) locks))))

-- ---- the loop

-- these locks stood again, where they might; those stand
pub record HasStood (locks standing : List Lock) (space : SpaceState) : Type 0 where
  pub standing_are : standing ≡ restored [] locks
  pub steps : AreRestored locks empty space
  pub lawful : IsSpace space

pub none_stood : IsSpace empty → HasStood [] [] empty
none_stood lawful = record { standing_are = refl; steps = refl; lawful = lawful }

has_all : (locks standing : List Lock) (space : SpaceState) → HasStood locks standing space → HasAll space standing
has_all locks standing space stood = subst (HasAll space) (sym stood.standing_are) (has_restored locks [] empty space has_none stood.steps)

-- nothing waits
pub quiet : (locks standing : List Lock) (space : SpaceState) → HasStood locks standing space → (r : Resource) → (queue_of r space).waiting
    ≡ []
quiet locks standing space stood r = (has_all locks standing space stood r).1

pub stood_more : (locks standing : List Lock) (space next : SpaceState) (l : Lock) (answer : Bool) → HasStood locks standing space →
    answer ≡ queue.may_restore (grant_of l) (queue_of l.resource space) → queue_of l.resource next
    ≡ queue.restored (grant_of l) (queue_of l.resource space) →
    KeepsOthers l.resource space next → IsSpace next → HasStood (locks ++ l ∷ []) (standing ++ where_standing answer l) next
stood_more locks standing space next l answer stood is added others lawful = record {
  standing_are =
      ap (λ (ls : List Lock). standing ++ ls) (as_free answer ∙ ap (λ b. if_free b l) turned)
      ∙ (λ i. stood.standing_are i ++ if_free (meets l (stood.standing_are i)) l)
      ∙ sym (restored_behind [] locks l);
  steps = restored_more locks l empty space next stood.steps added others;
  lawful = lawful;
}
  where
    as_free : (b : Bool) → where_standing b l ≡ if_free (not b) l
    as_free true = refl
    as_free false = refl

    twice : (b : Bool) → not (not b) ≡ b
    twice true = refl
    twice false = refl

    turned : not answer ≡ meets l standing
    turned = ap not (restore_answers space l standing answer (has_all locks standing space stood) is) ∙ twice (meets l standing)

-- as at a step of the loop
pub stood_next : (locks : List Lock) (i : ℕ) (d : Lock) (standing : List Lock) (space next : SpaceState) (answer : Bool) → i < length locks
    → HasStood (take i locks) standing space →
    answer ≡ queue.may_restore (grant_of (get_or locks i d)) (queue_of (get_or locks i d).resource space) →
    queue_of (get_or locks i d).resource next ≡ queue.restored (grant_of (get_or locks i d)) (queue_of (get_or locks i d).resource space) →
    KeepsOthers (get_or locks i d).resource space next → IsSpace next
    → HasStood (take (i + 1) locks) (standing ++ where_standing answer (get_or locks i d)) next
stood_next locks i d standing space next answer within stood is added others lawful =
    subst (λ ls. HasStood ls (standing ++ where_standing answer (get_or locks i d)) next) (sym (take_more locks i d within))
    (stood_more (take i locks) standing space next (get_or locks i d) answer stood is added others lawful)

-- ---- the state after a close

stand_locks : (space : SpaceState) (locks : List Lock) (v w : Target) → StandAgain locks v w → AreRestored locks empty space → IsSpace space
    → ShowsLocks space w
stand_locks space locks v w again steps lawful =
    locks_same space (after w (Close o)) w again.granted again.waiting refl
    (restores space w o locks refl steps lawful again.rising (subst (λ n. All (λ l. l.cookie.0 ≤ n) locks) (sym again.cookie)
    again.earlier))
  where
    o : Outcome
    o = record { boot = 0; kept = []; disk = w.disk; locks = restored [] locks; gone = []; joins = []; lost = [] }

pub stand_shown : (space : SpaceState) (locks : List Lock) (old new : ServerState) (v w : Target) → ShowsCounts old v → StandAgain locks v w
    → AreRestored locks empty space → IsSpace space →
    IsSound [] → new ≡ record { space = space; asked = []; boot = old.boot; count = old.count; ticks = old.ticks } → Shows new w
stand_shown space locks old new v w counts again steps lawful sound is =
    subst (λ s. Shows s w) (sym is)
    (record {
      locks = stand_locks space locks v w again steps lawful;
      calls = moved [] w [] [] w.granted again.called again.glimpses refl nothing;
      cookie = again.cookie ∙ counts.cookie;
      ticks = again.ticks ∙ counts.ticks;
      boot = again.boot ∙ counts.boot;
      counted = counts.counted;
    })
  where
    nothing : ShowsAsked [] [] [] w.granted
    nothing = record { sound = sound; blocks = λ k. refl; glimpses = λ k. refl; holders = tt; granted = tt }
