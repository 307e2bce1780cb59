-- The evictions of some lives are told of one state, that after the commit which takes their slots: a release ends the glimpses
-- of its own lock alone.
use Rattle.std.proofs.Common.{◌≡◌, ◌==◌, ◌||◌, Bool, true, false, not, cond, List, [], ◌∷◌, ◌++◌, refl, sym, ◌∙◌, ap, subst, arith}
use Rattle.std.specs.List.{AllByRecursion}
use Rattle.std.proofs.lemmas.Bool.Decides.{nat_tests}
use Rattle.lu_base.specs.declared.ids.At.{At}
use Rattle.lu_base.specs.declared.ids.Who.{Who}
use Rattle.lu_base.specs.declared.locks.Cause.{Cause}
use Rattle.lu_base.specs.declared.locks.Lock.{Lock}
use Rattle.lu_spec_machine.specs.Objects.{object_touches}
use Rattle.lu_msg.specs.declared.answers.Answer.TheVariants as told
use Rattle.lu_msg.specs.declared.messages.Message.TheVariants as message
use Rattle.lu_msg.specs.declared.messages.Request.{Request as RequestOf}
use Rattle.lu_spec_entries.specs.Carried.{Glimpse}
use Rattle.lu_spec_entries.specs.Words.{Entry, Evict, Release, Ends, same_life}
use Rattle.lu_spec_target.specs.Glimpses.{row_answers, row_locked, glimpses_of, glimpses_end}
use Rattle.lu_spec_target.specs.Leaving.{evicted, all_released, locks_of, evictions}
use Rattle.lu_spec_target.specs.Lives.{is_life}
use Rattle.lu_spec_target.specs.Replies.{seen_in, none, deed_of, to_life}
use Rattle.lu_spec_target.specs.Requests.{releases}
use Rattle.lu_spec_target.specs.States.{Target, after, turn}
use Rattle.lu_target_refines.specs.Batches.{AreOnce}
use Rattle.lu_target_refines.specs.Cookies.{HaveOther, HaveOneEach}
use Rattle.lu_target_refines.proofs.Answered.{release_glimpses}
use Rattle.lu_target_refines.proofs.Blocking.{each_of_rising}
use Rattle.lu_target_refines.proofs.Lists.{filter_through}
use Rattle.lu_target_refines.proofs.Lives.{is_same}
use Rattle.lu_target_refines.proofs.Locks.{turn-append}
use Rattle.lu_target_locks.specs.Departing.{releases_told, evictions_told}
use Rattle.lu_target_locks.specs.Servers.{ServerState, Shows}

-- ---- what answers and messages are told of

record Same (w x : Target) : Type 0 where
  boot : x.boot ≡ w.boot
  committed : x.committed ≡ w.committed
  log : x.log ≡ w.log

itself : (w : Target) → Same w w
itself w = record { boot = refl; committed = refl; log = refl }

twice : (w x y : Target) → Same w x → Same x y → Same w y
twice w x y a b = record {
  boot = Same.boot b ∙ Same.boot a;
  committed = Same.committed b ∙ Same.committed a;
  log = Same.log b
      ∙ Same.log a;
}

locked_same : (w x : Target) (at : At) (r : RequestOf) → Same w x → row_locked x at r ≡ row_locked w at r
locked_same w x at r same = λ i.
    row_answers (deed_of r [] (record {
      who = r.who;
      boot = Same.boot same i;
      xid = r.xid;
      txn = none;
      committed = record { 0 = Same.committed same i };
      seen = seen_in (object_touches r.op told.Lock) (Same.log same i);
      at = at;
      locks = [];
      answer = told.Lock;
    }))

ends_same : (w x : Target) (at : At) (gs : List Glimpse) → Same w x → glimpses_end at gs x ≡ glimpses_end at gs w
ends_same w x at [] same = refl
ends_same w x at (g ∷ gs) same = λ i. Ends g ∷ locked_same w x at g.request same i ++ ends_same w x at gs same i

-- ---- a release leaves it as it was

ends_leave : (at : At) (v w : Target) (gs : List Glimpse) → Same w (turn w (glimpses_end at gs v))
ends_leave at v w [] = itself w
ends_leave at v w (g ∷ gs) =
    let rest = ends_leave at v (turn w (Ends g ∷ row_locked v at g.request)) gs in
    record { boot = Same.boot rest; committed = Same.committed rest; log = Same.log rest }

release_leaves : (at : At) (l : Lock) (x : Target) → Same x (turn x (releases at l x))
release_leaves at l x =
    let rest = ends_leave at x (after x (Release l)) (glimpses_of l x.glimpses) in
    record { boot = Same.boot rest; committed = Same.committed rest; log = Same.log rest }

-- those of other locks are there still
others_stay : (at : At) (l k : Lock) (x : Target) → (k.cookie.0 == l.cookie.0) ≡ false → glimpses_of k (turn x (releases at l x)).glimpses
    ≡ glimpses_of k x.glimpses
others_stay at l k x differ =
    ap (glimpses_of k) (release_glimpses x at l)
    ∙ filter_through (λ (g : Glimpse). g.cookie.0 == k.cookie.0) (λ (g : Glimpse). not (g.cookie.0 == l.cookie.0))
    (λ g on. grind (arith, nat_tests, on, differ)) x.glimpses

-- ---- the releases of some locks

abbrev Waits : Target → Target → Lock → Type 0
Waits w x k = glimpses_of k x.glimpses ≡ glimpses_of k w.glimpses

after_one : (at : At) (l : Lock) (w x : Target) (locks : List Lock) → HaveOther l.cookie locks → AllByRecursion (Waits w x) locks
    → AllByRecursion (Waits w (turn x (releases at l x))) locks
after_one at l w x [] other waits = tt
after_one at l w x (k ∷ locks) other waits = (others_stay at l k x other.0 ∙ waits.0, after_one at l w x locks other.1 waits.1)

released_told : (at : At) (locks : List Lock) (w x : Target) → Same w x → HaveOneEach locks → AllByRecursion (Waits w x) locks
    → all_released at locks x ≡ releases_told at locks w
released_told at [] w x same each waits = refl
released_told at (l ∷ locks) w x same each waits =
    let y : Target = turn x (releases at l x) in
    (λ i. (here i) ++ all_released at locks y)
    ∙ ap (λ (es : List Entry). releases at l w ++ es) (released_told at locks w y (twice w x y same (release_leaves at l x)) each.1
    (after_one at l w x locks each.0 waits.1))
  where
    here : releases at l x ≡ releases at l w
    here = ap (λ gs. Release l ∷ glimpses_end at gs x) waits.0 ∙ ap (λ (es : List Entry). Release l ∷ es)
        (ends_same w x at (glimpses_of l w.glimpses) same)

-- what all of them leave
all_leave : (at : At) (locks : List Lock) (x : Target) → Same x (turn x (all_released at locks x))
all_leave at [] x = itself x
all_leave at (l ∷ locks) x =
    let y : Target = turn x (releases at l x) in
    subst (Same x) (sym (turn-append x (releases at l x) (all_released at locks y)))
    (twice x y (turn y (all_released at locks y)) (release_leaves at l x) (all_leave at locks y))

all_stay : (at : At) (locks : List Lock) (k : Lock) (x : Target) → HaveOther k.cookie locks
    → glimpses_of k (turn x (all_released at locks x)).glimpses ≡ glimpses_of k x.glimpses
all_stay at [] k x other = refl
all_stay at (l ∷ locks) k x other =
    let y : Target = turn x (releases at l x) in
    let turned : (k.cookie.0 == l.cookie.0) ≡ false = let here = other.0 in grind (arith, nat_tests, here) in
    ap (λ (z : Target). glimpses_of k z.glimpses) (turn-append x (releases at l x) (all_released at locks y))
    ∙ all_stay at locks k y other.1 ∙ others_stay at l k x turned

-- ---- the locks of several lives

-- all but those of these lives have other cookies than theirs
abbrev Apart : Who → List Lock → List Lock → Type 0
Apart who granted locks = AllByRecursion (λ k. same_life k.ask.who who ≡ false → HaveOther k.cookie (locks_of who granted)) locks

other_filtered : (l : Lock) (who : Who) (locks : List Lock) → HaveOther l.cookie locks → HaveOther l.cookie (locks_of who locks)
other_filtered l who [] other = tt
other_filtered l who (k ∷ locks) other = by (same_life k.ask.who who) (other_filtered l who locks other.1) where
  by : (b : Bool) → HaveOther l.cookie (locks_of who locks) → HaveOther l.cookie (cond b (k ∷ locks_of who locks) (locks_of who locks))
  by true rest = (other.0, rest)
  by false rest = rest

apart_more : (who : Who) (l : Lock) (granted locks : List Lock) → HaveOther l.cookie locks → Apart who granted locks
    → Apart who (l ∷ granted) locks
apart_more who l granted [] other apart = tt
apart_more who l granted (k ∷ locks) other apart = (
  λ differ. by (same_life l.ask.who who) (apart.0 differ),
  apart_more who l granted locks other.1 apart.1,
) where
  turned : (l.cookie.0 == k.cookie.0) ≡ false
  turned = let here = other.0 in grind (arith, nat_tests, here)

  by : (b : Bool) → HaveOther k.cookie (locks_of who granted) → HaveOther k.cookie
      (cond b (l ∷ locks_of who granted) (locks_of who granted))
  by true rest = (turned, rest)
  by false rest = rest

apart_all : (who : Who) (granted : List Lock) → HaveOneEach granted → Apart who granted granted
apart_all who [] each = tt
apart_all who (l ∷ granted) each = (
  λ differ. by (same_life l.ask.who who) differ,
  apart_more who l granted granted each.0 (apart_all who granted each.1),
) where
  by : (b : Bool) → b ≡ false → HaveOther l.cookie (cond b (l ∷ locks_of who granted) (locks_of who granted))
  by true e = absurd (cc)
  by false e = other_filtered l who granted each.0

each_filtered : (who : Who) (locks : List Lock) → HaveOneEach locks → HaveOneEach (locks_of who locks)
each_filtered who [] each = tt
each_filtered who (l ∷ locks) each = by (same_life l.ask.who who) (each_filtered who locks each.1) where
  by : (b : Bool) → HaveOneEach (locks_of who locks) → HaveOneEach (cond b (l ∷ locks_of who locks) (locks_of who locks))
  by true rest = (other_filtered l who locks each.0, rest)
  by false rest = rest

-- once one life has left, those of the others wait on
others_wait : (at : At) (who other : Who) (granted : List Lock) (w x : Target) → same_life who other ≡ false → (locks : List Lock)
    → Apart who granted locks →
    AllByRecursion (Waits w x) (locks_of other locks) → AllByRecursion (Waits w (turn x (all_released at (locks_of who granted) x)))
    (locks_of other locks)
others_wait at who other granted w x differ [] apart waits = tt
others_wait at who other granted w x differ (k ∷ locks) apart waits =
    by (same_life k.ask.who other) refl waits (others_wait at who other granted w x differ locks apart.1) where
      not_his : same_life k.ask.who other ≡ true → same_life k.ask.who who ≡ false
      not_his own = one (same_life k.ask.who who) refl where
        one : (b : Bool) → same_life k.ask.who who ≡ b → b ≡ false
        one false e = refl
        one true e = sym (subst (λ m. same_life m other ≡ true) (is_same k.ask.who who e) own) ∙ differ

      by : (b : Bool) → same_life k.ask.who other ≡ b → AllByRecursion (Waits w x) (cond b (k ∷ locks_of other locks) (locks_of other locks))
          → (AllByRecursion (Waits w x) (locks_of other locks) → AllByRecursion (Waits w (turn x (all_released at (locks_of who granted) x)))
          (locks_of other locks))
          → AllByRecursion (Waits w (turn x (all_released at (locks_of who granted) x)))
          (cond b (k ∷ locks_of other locks) (locks_of other locks))
      by true own all rest = (all_stay at (locks_of who granted) k x (apart.0 (not_his own)) ∙ all.0, rest all.1)
      by false own all rest = rest all

abbrev AllWait : Target → Target → List Lock → List Who → Type 0
AllWait w x granted gone = AllByRecursion (λ who. AllByRecursion (Waits w x) (locks_of who granted)) gone

lives_wait : (at : At) (who : Who) (granted : List Lock) (w x : Target) → HaveOneEach granted → (gone : List Who) → is_life who gone ≡ false
    → AllWait w x granted gone →
    AllWait w (turn x (all_released at (locks_of who granted) x)) granted gone
lives_wait at who granted w x each [] new waits = tt
lives_wait at who granted w x each (other ∷ gone) new waits =
    let parts = either (same_life who other) (is_life who gone) new in (
      others_wait at who other granted w x parts.0 granted (apart_all who granted each) waits.0,
      lives_wait at who granted w x each gone parts.1 waits.1,
    )
  where
    either : (a b : Bool) → (a || b) ≡ false → (a ≡ false) × (b ≡ false)
    either true b h = absurd (cc)
    either false b h = (refl, h)

told_from : (at : At) (cause : Cause) (granted : List Lock) (gone : List Who) (w x : Target) → Same w x → HaveOneEach granted → AreOnce gone
    → AllWait w x granted gone →
    evictions at cause granted gone x ≡ evictions_told at cause granted gone w
told_from at cause granted [] w x same each once waits = refl
told_from at cause granted (who ∷ gone) w x same each once waits =
    let locks : List Lock = locks_of who granted in
    let y : Target = turn x (all_released at locks x) in
    let message : evicted x who ≡ evicted w who = λ i. to_life who (message.Evicted who (Same.boot same i)) in
    (λ i. Evict who cause ∷ message i ∷ (released_told at locks w x same (each_filtered who granted each) waits.0 i)
    ++ evictions at cause granted gone y)
    ∙ ap (λ (es : List Entry). Evict who cause ∷ evicted w who ∷ releases_told at locks w ++ es)
    (told_from at cause granted gone w y (twice w x y same (all_leave at locks x)) each once.1
    (lives_wait at who granted w x each gone once.0 waits.1))

wait_at_first : (w : Target) (granted : List Lock) (gone : List Who) → AllWait w w granted gone
wait_at_first w granted [] = tt
wait_at_first w granted (who ∷ gone) = (all (locks_of who granted), wait_at_first w granted gone) where
  all : (locks : List Lock) → AllByRecursion (Waits w w) locks
  all [] = tt
  all (l ∷ locks) = (refl, all locks)

-- each life is named once; w: the state after the commit
pub evictions_at_once : (s : ServerState) (v w : Target) (at : At) (cause : Cause) (gone : List Who) → Shows s v → AreOnce gone →
    evictions at cause v.granted gone w ≡ evictions_told at cause v.granted gone w
evictions_at_once s v w at cause gone shows once =
    told_from at cause v.granted gone w w (itself w) (each_of_rising v.granted shows.locks.rising) once (wait_at_first w v.granted gone)
