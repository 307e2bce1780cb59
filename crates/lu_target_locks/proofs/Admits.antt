-- The locks of an act, which the lockspace was given one after another, are those of the rows.
use Rattle.std.proofs.Common.{◌≡◌, ℕ, ◌+◌, ◌<◌, ◌≤◌, ◌==◌, max, nat_lt, Bool, true, false, Some, List, [], ◌∷◌, ◌++◌, length, take, get_or}
use Rattle.std.proofs.Common.{refl, sym, ◌∙◌, ap, subst, arith}
use Rattle.std.specs.Prelude.{if◌then◌else◌}
use Rattle.std.specs.List.{AllByRecursion}
use Rattle.std.proofs.lemmas.List.{length-append, take_more}
use Rattle.std.proofs.lemmas.List.Elements.{All-from_recursion, recursion_from_All}
use Rattle.lu_base.specs.declared.ids.Who.{Who}
use Rattle.lu_base.specs.declared.locks.Lock.{Lock}
use Rattle.lu_base.specs.declared.locks.Mode.TheVariants.{EX, PR}
use Rattle.lu_lock.specs.Modes.{compatible}
use Rattle.lu_part.specs.declared.parts.Want.{Want}
use Rattle.lu_queue.specs.Queues as queue
use Rattle.lu_lockspace.specs.Spaces.{grant_of, queue_of, KeepsOthers}
use Rattle.lu_spec_entries.specs.Carried.{Deed}
use Rattle.lu_spec_entries.specs.Words.{Act, Grant}
use Rattle.lu_spec_target.specs.Locks.{with_lock, with_locks}
use Rattle.lu_spec_target.specs.Names.{locks_from, grant_lines}
use Rattle.lu_spec_target.specs.Phase.{greatest_cookie}
use Rattle.lu_spec_target.specs.States.{Target, after, turn}
use Rattle.lu_target_refines.specs.Callbacks.{ShowsCalls}
use Rattle.lu_target_refines.specs.Cookies.{AreAbove}
use Rattle.lu_target_refines.specs.Locks.{AreEnqueued}
use Rattle.lu_target_refines.proofs.Admitting.{IsReading, Numbered, from_numbered, from_reading, enqueued_more, act_admitted, act_lines}
use Rattle.lu_target_refines.proofs.Answered.{moved}
use Rattle.lu_target_refines.proofs.Blocking.{acts_shown}
use Rattle.lu_target_refines.proofs.LockLists.{rises_from}
use Rattle.lu_target_refines.proofs.Lists.{every_of}
use Rattle.lu_target_refines.proofs.Locks.{locks_same}
use Rattle.lu_target_locks.specs.Adding.{IsAdmitted, AllAdmitted, wanted_on, reading_ask}
use Rattle.lu_target_locks.specs.Admitted.{AreReading, AreAdmitted}
use Rattle.lu_target_locks.specs.Asking.{AreShared}
use Rattle.lu_target_locks.specs.Servers.{ServerState, Shows, greatest}

-- ---- one after another

abbrev wanted_lock : ℕ → Who → Want → Lock
wanted_lock n who want = record { cookie = record { 0 = n + 1 }; resource = wanted_on want; ask = reading_ask who want }

from_more : (n : ℕ) (who : Who) (wants : List Want) (want : Want) → locks_from n who (wants ++ want ∷ []) ≡ locks_from n who wants
    ++ wanted_lock (n + length wants) who want ∷ []
from_more n who [] want = let same : n ≡ n + 0 = omega arith in ap (λ (m : ℕ). wanted_lock m who want ∷ []) same
from_more n who (w ∷ wants) want =
    let same : (n + 1) + length wants ≡ n + length (w ∷ wants) = omega arith in
    ap (λ (ls : List Lock). wanted_lock n who w ∷ ls) (from_more (n + 1) who wants want
    ∙ ap (λ (m : ℕ). locks_from (n + 1) who wants ++ wanted_lock m who want ∷ []) same)

pub none_admitted : (who : Who) (old : ServerState) → AllAdmitted who [] [] old old
none_admitted who old = record {
  locks_are = refl;
  spaces = refl;
  asked = refl;
  boots = refl;
  counted = λ low. low;
  greater = omega arith;
  ticks = refl;
}

pub admitted_more : (who : Who) (wants : List Want) (want : Want) (locks : List Lock) (lock : Lock) (old mid new : ServerState)
    → AllAdmitted who wants locks old mid → IsAdmitted who want lock mid new →
    AllAdmitted who (wants ++ want ∷ []) (locks ++ lock ∷ []) old new
admitted_more who wants want locks lock old mid new all one = record {
  locks_are = (λ i. all.locks_are i ++ lock_is i ∷ []) ∙ sym (from_more (greatest old) who wants want);
  spaces = enqueued_more locks lock old.space mid.space new.space all.spaces
      (subst (λ (l : Lock). queue_of l.resource new.space ≡ queue.with_lock (grant_of l) (queue_of l.resource mid.space)) (sym one.lock_is)
      one.added.added)
      (subst (λ (l : Lock). KeepsOthers l.resource mid.space new.space) (sym one.lock_is) one.added.others) one.added.lawful;
  asked = one.added.asked ∙ all.asked;
  greater =
      let whole = length-append wants (want ∷ []) in
      let a = one.added.greater in
      let b = all.greater in
      omega (arith, whole, a, b);
  ticks = one.added.ticks ∙ all.ticks;
  boots = one.added.boots ∙ all.boots;
  counted = λ low. one.added.counted;
}
  where
    lock_is : lock ≡ wanted_lock (greatest old + length wants) who want
    lock_is = one.lock_is ∙ ap (λ (n : ℕ). record { cookie = record { 0 = n }; resource = wanted_on want; ask = reading_ask who want })
        (one.added.next ∙ ap (λ n. n + 1) all.greater)

-- as at a step of the loop
pub admitted_next : (who : Who) (wants : List Want) (i : ℕ) (d : Want) (locks : List Lock) (lock : Lock) (old mid new : ServerState)
    → i < length wants → AllAdmitted who (take i wants) locks old mid →
    IsAdmitted who (get_or wants i d) lock mid new → AllAdmitted who (take (i + 1) wants) (locks ++ lock ∷ []) old new
admitted_next who wants i d locks lock old mid new within all one =
    subst (λ ws. AllAdmitted who ws (locks ++ lock ∷ []) old new) (sym (take_more wants i d within))
    (admitted_more who (take i wants) (get_or wants i d) locks lock old mid new all one)

-- ---- their cookies

numbered_above : (n : ℕ) (locks : List Lock) → Numbered n locks → AreAbove n locks
numbered_above n [] numbered = tt
numbered_above n (l ∷ locks) numbered =
    let number = numbered.0 in
    (omega (arith, number), subst (λ m. AreAbove m locks) (sym numbered.0) (numbered_above (n + 1) locks numbered.1))

greatest_from : (n : ℕ) (who : Who) (wants : List Want) → greatest_cookie n (locks_from n who wants) ≡ n + length wants
greatest_from n who [] = omega arith
greatest_from n who (w ∷ wants) =
    let next : max n (n + 1) ≡ n + 1 = omega arith in
    let same : (n + 1) + length wants ≡ n + length (w ∷ wants) = omega arith in
    ap (λ m. greatest_cookie m (locks_from (n + 1) who wants)) next ∙ greatest_from (n + 1) who wants ∙ same

-- ---- the lines of grants are about locks alone

lines_called : (d : Deed) (locks : List Lock) (v : Target) → (turn v (grant_lines d locks)).called ≡ v.called
lines_called d [] v = refl
lines_called d (l ∷ locks) v = lines_called d locks (after v (Grant l (Some d)))

lines_glimpses : (d : Deed) (locks : List Lock) (v : Target) → (turn v (grant_lines d locks)).glimpses ≡ v.glimpses
lines_glimpses d [] v = refl
lines_glimpses d (l ∷ locks) v = lines_glimpses d locks (after v (Grant l (Some d)))

lines_ticks : (d : Deed) (locks : List Lock) (v : Target) → (turn v (grant_lines d locks)).ticks ≡ v.ticks
lines_ticks d [] v = refl
lines_ticks d (l ∷ locks) v = lines_ticks d locks (after v (Grant l (Some d)))

lines_boot : (d : Deed) (locks : List Lock) (v : Target) → (turn v (grant_lines d locks)).boot ≡ v.boot
lines_boot d [] v = refl
lines_boot d (l ∷ locks) v = lines_boot d locks (after v (Grant l (Some d)))

-- ---- locks for reading

with_reading : (l : Lock) (locks : List Lock) → l.ask.mode ≡ PR → AllByRecursion (λ k. k.ask.mode ≡ PR) locks
    → AllByRecursion (λ k. k.ask.mode ≡ PR) (with_lock l locks)
with_reading l [] own all = (own, tt)
with_reading l (k ∷ locks) own all = by (l.cookie.0 == k.cookie.0) (nat_lt l.cookie.0 k.cookie.0) (with_reading l locks own all.1) where
  by : (same below : Bool) → AllByRecursion (λ k. k.ask.mode ≡ PR) (with_lock l locks)
      → AllByRecursion (λ k. k.ask.mode ≡ PR) (if same then l ∷ locks else (if below then l ∷ k ∷ locks else k ∷ with_lock l locks))
  by true below rest = (own, all.1)
  by false true rest = (own, all)
  by false false rest = (all.0, rest)

all_reading : (more locks : List Lock) → AllByRecursion IsReading more → AllByRecursion (λ k. k.ask.mode ≡ PR) locks
    → AllByRecursion (λ k. k.ask.mode ≡ PR) (with_locks more locks)
all_reading [] locks own all = all
all_reading (l ∷ more) locks own all = all_reading more (with_lock l locks) own.1 (with_reading l locks own.0.0 all)

-- none of them bears an exclusive one beside it
pub shared_reading : (locks : List Lock) → AreReading locks → AreShared locks
shared_reading locks all = λ k d within. ap (compatible EX) (all k d within)

-- ---- all of them

pub are_admitted : (who : Who) (wants : List Want) (locks : List Lock) (old new : ServerState) → AllAdmitted who wants locks old new
    → AreAdmitted who wants locks old new
are_admitted who wants locks old new all = record {
  are = own;
  acts = acts;
  told = λ v d s reading quiet same.
      let w = after v (Act d) in
      let shown = acts v d s reading quiet same in
      let lines = act_lines v d (rises_from v.granted s.locks.rising) (numbered v d s same) quiet in record {
        locks = locks_same new.space w (turn w (grant_lines d d.reply.locks)) lines.0 lines.1 lines.2 shown.locks;
        calls = moved new.asked (turn w (grant_lines d d.reply.locks)) w.called w.glimpses w.granted (lines_called d d.reply.locks w)
            (lines_glimpses d d.reply.locks w) lines.0 shown.calls;
        cookie = lines.2 ∙ shown.cookie;
        ticks = lines_ticks d d.reply.locks w ∙ shown.ticks;
        boot = lines_boot d d.reply.locks w ∙ shown.boot;
        counted = shown.counted;
      };
  reading = λ v d s reading same.
      All-from_recursion (λ k. k.ask.mode ≡ PR) (with_locks d.reply.locks v.granted)
      (all_reading d.reply.locks v.granted (are_reading v d s same) (recursion_from_All (λ k. k.ask.mode ≡ PR) v.granted reading));
}
  where
    own : (v : Target) → Shows old v → locks ≡ locks_from v.cookie who wants
    own v s = all.locks_are ∙ ap (λ n. locks_from n who wants) (sym s.cookie)

    told_are : (v : Target) (d : Deed) → Shows old v → d.reply.locks ≡ locks → locks_from v.cookie who wants ≡ d.reply.locks
    told_are v d s same = sym (same ∙ own v s)

    numbered : (v : Target) (d : Deed) → Shows old v → d.reply.locks ≡ locks → Numbered v.cookie d.reply.locks
    numbered v d s same = subst (Numbered v.cookie) (told_are v d s same) (from_numbered v.cookie who wants)

    are_reading : (v : Target) (d : Deed) → Shows old v → d.reply.locks ≡ locks → AllByRecursion IsReading d.reply.locks
    are_reading v d s same = subst (AllByRecursion IsReading) (told_are v d s same) (from_reading v.cookie who wants)

    acts : (v : Target) (d : Deed) → Shows old v → AreReading v.granted → v.waiting ≡ [] → d.reply.locks ≡ locks
        → Shows new (after v (Act d))
    acts v d s reading quiet same = record {
      locks = act_admitted old.space new.space v d s.locks (are_reading v d s same) (numbered v d s same) quiet reading
          (subst (λ ls. AreEnqueued ls old.space new.space) (sym same) all.spaces);
      calls = subst (λ asks. ShowsCalls asks (after v (Act d))) (sym all.asked)
          (acts_shown v old.asked d v.cookie s.calls (every_of (λ k. k.cookie.0 ≤ v.cookie) v.granted s.locks.granted)
          (numbered_above v.cookie d.reply.locks (numbered v d s same)));
      cookie =
          ap (greatest_cookie v.cookie) (sym (told_are v d s same)) ∙ greatest_from v.cookie who wants
          ∙ ap (λ n. n + length wants) s.cookie ∙ sym all.greater;
      ticks = s.ticks ∙ sym all.ticks;
      boot = s.boot ∙ sym all.boots;
      counted = all.counted s.counted;
    }
