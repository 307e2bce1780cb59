-- A lock that was asked for is where the rows have it.
use Rattle.std.proofs.Common.{◌≡◌, ℕ, ◌+◌, Bool, true, false, refl, sym, ◌∙◌, ap, subst, arith}
use Rattle.std.specs.Prelude.{if◌then◌else◌, max}
use Rattle.lu_base.specs.declared.ids.Cookie.{Cookie}
use Rattle.lu_base.specs.declared.locks.Ask.{Ask}
use Rattle.lu_base.specs.declared.locks.Lock.{Lock}
use Rattle.lu_base.specs.declared.locks.Resource.{Resource}
use Rattle.lu_queue.specs.declared.locks.Placed.{Placed}
use Rattle.lu_queue.specs.declared.locks.Placed.TheVariants as place
use Rattle.lu_queue.specs.Queues.{with_lock, placed}
use Rattle.lu_lockspace.specs.Spaces.{queue_of, grant_of}
use Rattle.lu_spec_entries.specs.Words.{Grant}
use Rattle.lu_spec_target.specs.Replies.{locks_on}
use Rattle.lu_spec_target.specs.Queues.{has_to_wait}
use Rattle.lu_spec_target.specs.States.{Target, after}
use Rattle.lu_target_refines.specs.Callbacks.{ShowsCalls}
use Rattle.lu_target_refines.proofs.LockLists.{not_above}
use Rattle.lu_target_refines.proofs.Locks.{enqueue_answers, enqueue_granted, enqueue_waits}
use Rattle.lu_target_refines.proofs.Blocking.{grants_shown}
use Rattle.lu_target_locks.specs.declared.server.Enqueued.TheVariants as enqueued
use Rattle.lu_target_locks.specs.Adding.{IsAdded}
use Rattle.lu_target_locks.specs.Servers.{ServerState, Shows, new_lock, as_grown, enqueued_of, IsEnqueued}

above_max : (n m : ℕ) → m ≡ n + 1 → max n m ≡ m
above_max n m e = omega (arith, e)

as_told : (v : Target) (l : Lock) (b : Bool) → enqueued_of l (if b then place.Waiting else place.Granted (as_grown v l).ask.policy)
    ≡ (if b then enqueued.Waiting l else enqueued.Granted (as_grown v l))
as_told v l true = refl
as_told v l false = refl

pub is_enqueued : (resource : Resource) (ask : Ask) (cookie : Cookie) (p : Placed) (old new : ServerState)
    → IsAdded resource ask cookie p old new
    → IsEnqueued resource ask (enqueued_of (record { cookie = cookie; resource = resource; ask = ask }) p) old new
is_enqueued resource ask cookie p old new is = record {
  placed = λ v s. subst
      (λ (l : Lock). enqueued_of l p ≡ (if has_to_wait v (locks_on resource v.waiting) (new_lock v resource ask)
      then enqueued.Waiting (new_lock v resource ask) else enqueued.Granted (as_grown v (new_lock v resource ask))))
      (sym (lock_is v s)) (answers v s);
  grants = λ v asked s free. record {
    locks = enqueue_granted old.space new.space v (new_lock v resource ask) asked s.locks refl (added v s) is.others is.lawful free;
    calls = subst (λ asks. ShowsCalls asks (after v (Grant (as_grown v (new_lock v resource ask)) asked))) (sym is.asked)
        (grants_shown v old.asked (as_grown v (new_lock v resource ask)) asked s.calls
        (not_above v.cookie (v.cookie + 1) v.granted (omega arith) s.locks.granted));
    cookie = above_max v.cookie (v.cookie + 1) refl ∙ ap (λ n. n + 1) s.cookie ∙ sym is.greater;
    ticks = s.ticks ∙ sym is.ticks;
    boot = s.boot ∙ sym is.boots;
    counted = is.counted;
  };
  waits = λ v d s waits. record {
    locks = enqueue_waits old.space new.space v (new_lock v resource ask) d s.locks refl (added v s) is.others is.lawful waits;
    calls = subst (λ asks. ShowsCalls asks v) (sym is.asked) s.calls;
    cookie = above_max v.cookie (v.cookie + 1) refl ∙ ap (λ n. n + 1) s.cookie ∙ sym is.greater;
    ticks = s.ticks ∙ sym is.ticks;
    boot = s.boot ∙ sym is.boots;
    counted = is.counted;
  };
}
  where
    number_is : (v : Target) → Shows old v → cookie.0 ≡ v.cookie + 1
    number_is v s = is.next ∙ ap (λ n. n + 1) (sym s.cookie)

    lock_is : (v : Target) → Shows old v → record { cookie = cookie; resource = resource; ask = ask } ≡ new_lock v resource ask
    lock_is v s = λ i. record { cookie = record { 0 = number_is v s i }; resource = resource; ask = ask }

    added : (v : Target) → Shows old v → queue_of resource new.space
        ≡ with_lock (grant_of (new_lock v resource ask)) (queue_of resource old.space)
    added v s = is.added ∙ ap (λ (l : Lock). with_lock (grant_of l) (queue_of resource old.space)) (lock_is v s)

    answers : (v : Target) → Shows old v
        → enqueued_of (new_lock v resource ask) p ≡ (if has_to_wait v (locks_on resource v.waiting) (new_lock v resource ask)
        then enqueued.Waiting (new_lock v resource ask) else enqueued.Granted (as_grown v (new_lock v resource ask)))
    answers v s =
        ap (enqueued_of (new_lock v resource ask))
        (enqueue_answers old.space v (new_lock v resource ask) p s.locks
        (is.is ∙ ap (λ (l : Lock). placed (grant_of l) (queue_of resource old.space)) (lock_is v s)))
        ∙ as_told v (new_lock v resource ask) (has_to_wait v (locks_on resource v.waiting) (new_lock v resource ask))
