-- Locks that are called back one after another are those that the rows call back.
use Rattle.std.proofs.Common.{◌≡◌, ℕ, ◌==◌, ◌&&◌, ◌||◌, Bool, true, false, cond, not, Some, find, List, [], ◌∷◌, ◌++◌, refl, sym, ◌∙◌, ap}
use Rattle.std.proofs.Common.{subst, arith}
use Rattle.std.specs.Prelude.{if◌then◌else◌}
use Rattle.std.specs.List.{list_any, fold}
use Rattle.std.proofs.lemmas.List.{append-nil}
use Rattle.std.proofs.lemmas.Bool.Decides.{nat_tests}
use Rattle.lu_base.specs.declared.ids.Cookie.{Cookie}
use Rattle.lu_base.specs.declared.ids.Who.{Who}
use Rattle.lu_base.specs.declared.locks.Lock.{Lock}
use Rattle.lu_base.specs.declared.locks.Resource.{Resource}
use Rattle.lu_callback.specs.declared.callbacks.Asked.{Asked}
use Rattle.lu_callback.specs.declared.callbacks.Kind.TheVariants as kind
use Rattle.lu_callback.specs.Callbacks.{is_outstanding, with_asked}
use Rattle.lu_callback.proofs.Orders.{sound_asked}
use Rattle.lu_held.proofs.Lists.{some_is}
use Rattle.lu_lockspace.specs.Spaces.{SpaceState, queue_of, lock_of, is_told, AreBlockers}
use Rattle.lu_spec_entries.specs.Words.{Entry, Block, same_life}
use Rattle.lu_spec_target.specs.Replies.{locks_on, is_called, called, block_of, blocks}
use Rattle.lu_spec_target.specs.Queues.{conflicting, blocks_go}
use Rattle.lu_spec_target.specs.States.{Target, turn}
use Rattle.lu_target_refines.specs.Callbacks.{ShowsCalls, holds}
use Rattle.lu_target_refines.specs.Locks.{found_or, named}
use Rattle.lu_target_refines.proofs.Locks.{locks_same, leaves_blocks_go, turn-append}
use Rattle.lu_target_refines.proofs.Blocked.{blocked}
use Rattle.lu_target_refines.proofs.Blocking.{blocks_step}
use Rattle.lu_target_refines.proofs.Callbacks.{is_called_is, asks_block}
use Rattle.lu_target_locks.specs.Calling.{Calling, calling, block_at, with_found, call_one, call_all}
use Rattle.lu_target_locks.specs.Servers.{ServerState, Shows, blocks_told, AreCalledBack}
use Rattle.lu_target_locks.proofs.Cookies.{AreOfLocks, StandOnce, blocking_once, blockers_of_locks, found_cookie, other_named}

-- ---- what calling back leaves as it was

pub ticks_blocks : (v w : Target) (locks : List Lock) → (turn w (blocks v locks)).ticks ≡ w.ticks
ticks_blocks v w [] = refl
ticks_blocks v w (l ∷ locks) = by (is_called l.cookie v.called) (ticks_blocks v w locks)
    (ticks_blocks v (turn w (Block (called v l) ∷ block_of v l ∷ [])) locks) where
      by : (was : Bool) → (turn w (blocks v locks)).ticks ≡ w.ticks
          → (turn (turn w (Block (called v l) ∷ block_of v l ∷ [])) (blocks v locks)).ticks ≡ w.ticks
          → (turn w (if was then blocks v locks else Block (called v l) ∷ block_of v l ∷ blocks v locks)).ticks ≡ w.ticks
      by true same more = same
      by false same more = more

ticks_blocks_go : (v : Target) (locks : List Lock) → (turn v (blocks_go locks v)).ticks ≡ v.ticks
ticks_blocks_go v [] = refl
ticks_blocks_go v (l ∷ locks) =
    let es : List Entry = blocks v (conflicting v l) in
    ap (λ (w : Target). w.ticks) (turn-append v es (blocks_go locks (turn v es))) ∙ ticks_blocks_go (turn v es) locks
    ∙ ticks_blocks v v (conflicting v l)

pub boot_blocks : (v w : Target) (locks : List Lock) → (turn w (blocks v locks)).boot ≡ w.boot
boot_blocks v w [] = refl
boot_blocks v w (l ∷ locks) = by (is_called l.cookie v.called) (boot_blocks v w locks)
    (boot_blocks v (turn w (Block (called v l) ∷ block_of v l ∷ [])) locks) where
      by : (was : Bool) → (turn w (blocks v locks)).boot ≡ w.boot → (turn (turn w (Block (called v l) ∷ block_of v l ∷ []))
          (blocks v locks)).boot ≡ w.boot
          → (turn w (if was then blocks v locks else Block (called v l) ∷ block_of v l ∷ blocks v locks)).boot ≡ w.boot
      by true same more = same
      by false same more = more

boot_blocks_go : (v : Target) (locks : List Lock) → (turn v (blocks_go locks v)).boot ≡ v.boot
boot_blocks_go v [] = refl
boot_blocks_go v (l ∷ locks) =
    let es : List Entry = blocks v (conflicting v l) in
    ap (λ (w : Target). w.boot) (turn-append v es (blocks_go locks (turn v es))) ∙ boot_blocks_go (turn v es) locks
    ∙ boot_blocks v v (conflicting v l)

-- ---- one lock after another

told_later : (v : Target) (l : Lock) (locks : List Lock) → blocks_told (turn v (Block (called v l) ∷ block_of v l ∷ [])) locks
    ≡ blocks_told v locks
told_later v l [] = refl
told_later v l (k ∷ locks) = ap (λ (es : List Entry). Block (called v k) ∷ block_of v k ∷ es) (told_later v l locks)

append_again : (xs : List Lock) (l : Lock) (ys : List Lock) → (xs ++ l ∷ []) ++ ys ≡ xs ++ l ∷ ys
append_again [] l ys = refl
append_again (x ∷ xs) l ys = ap (λ (rest : List Lock). x ∷ rest) (append_again xs l ys)

-- a granted lock is its life's
held_there : (w : Target) (l : Lock) (locks : List Lock) → find (λ k. k.cookie.0 == l.cookie.0) locks ≡ Some l
    → list_any (holds (called w l)) locks ≡ true
held_there w l [] found = absurd (cc)
held_there w l (k ∷ locks) found = by (k.cookie.0 == l.cookie.0) refl found (held_there w l locks) where
  itself : (who : Who) → same_life who who ≡ true
  itself who = grind (arith, nat_tests)

  more : (a b : Bool) → b ≡ true → (a || b) ≡ true
  more true b h = refl
  more false b h = h

  by : (here : Bool) → (k.cookie.0 == l.cookie.0) ≡ here → cond here (Some k) (find (λ k. k.cookie.0 == l.cookie.0) locks) ≡ Some l
      → (find (λ k. k.cookie.0 == l.cookie.0) locks ≡ Some l → list_any (holds (called w l)) locks ≡ true)
      → ((k.cookie.0 == l.cookie.0 && same_life k.ask.who l.ask.who) || list_any (holds (called w l)) locks) ≡ true
  by true e found rest =
      let same : k ≡ l = some_is k l found in
      ap (λ b. (b && same_life k.ask.who l.ask.who) || list_any (holds (called w l)) locks) e
      ∙ ap (λ (x : Lock). same_life x.ask.who l.ask.who || list_any (holds (called w l)) locks) same
      ∙ ap (λ b. b || list_any (holds (called w l)) locks) (itself l.ask.who)
  by false e found rest = more (k.cookie.0 == l.cookie.0 && same_life k.ask.who l.ask.who) (list_any (holds (called w l)) locks)
      (rest found)

-- these entries are told, and then it shows what is left
abbrev pub Ends : Calling → List Lock → Target → List Entry → Type 0
Ends done before w es = (new : List Lock) × (done.called ≡ before ++ new) × (es ≡ blocks_told w new) × ShowsCalls done.asked (turn w es)

module _ (space : SpaceState) (tick : ℕ) (locks : List Lock) where
  -- the locks behind it
  abbrev Later : List Cookie → Type 0
  Later cookies = (asked : List Asked) (before : List Lock) (w : Target) → w.granted ≡ locks → w.ticks ≡ tick → ShowsCalls asked w
      → Ends (fold (call_one space tick) (calling asked before) cookies) before w (blocks w (named cookies locks))

  one_more : (l : Lock) (cookies : List Cookie) → find (λ k. k.cookie.0 == l.cookie.0) locks ≡ Some l → lock_of l.cookie.0 space ≡ Some l
      → is_told l.cookie cookies ≡ false
      → AreOfLocks space locks cookies → Later cookies → Later (l.cookie ∷ cookies)
  one_more l cookies granted found new are later = λ asked before w locks_are ticks_are shows.
      subst (λ o. Ends (fold (call_one space tick) (call_one space tick (calling asked before) l.cookie) cookies) before w
      (blocks w (found_or o (named cookies locks)))) (sym granted)
      (by asked before w locks_are ticks_are shows (is_outstanding l.cookie kind.Block asked) refl)
    where
      by : (asked : List Asked) (before : List Lock) (w : Target) → w.granted ≡ locks → w.ticks ≡ tick → ShowsCalls asked w → (was : Bool)
          → is_outstanding l.cookie kind.Block asked ≡ was
          → Ends (fold (call_one space tick) (if was then calling asked before
          else calling (with_asked (block_at tick l.cookie) asked) (with_found before (lock_of l.cookie.0 space))) cookies) before w
          (blocks w (l ∷ named cookies locks))
      by asked before w locks_are ticks_are shows true e =
          let was : is_called l.cookie w.called ≡ true = sym (is_called_is asked w shows l.cookie) ∙ e in
          let same : blocks w (named cookies locks) ≡ blocks w (l ∷ named cookies locks) =
          sym (ap (λ b. if b then blocks w (named cookies locks) else Block (called w l) ∷ block_of w l ∷ blocks w (named cookies locks))
          was) in
          subst (Ends (fold (call_one space tick) (calling asked before) cookies) before w) same
          (later asked before w locks_are ticks_are shows)
      by asked before w locks_are ticks_are shows false e =
          let x : Target = turn w (Block (called w l) ∷ block_of w l ∷ []) in
          let more : List Asked = with_asked (block_at tick l.cookie) asked in
          let was : is_called l.cookie w.called ≡ false = sym (is_called_is asked w shows l.cookie) ∙ e in
          let alone : blocks w (l ∷ []) ≡ Block (called w l) ∷ block_of w l ∷ [] =
          ap (λ b. if b then [] else Block (called w l) ∷ block_of w l ∷ []) was in
          let step : blocks w (l ∷ named cookies locks) ≡ Block (called w l) ∷ block_of w l ∷ blocks x (named cookies locks) =
          blocks_step w l (named cookies locks) (other_named space locks l.cookie cookies new are)
          ∙ ap (λ (es : List Entry). es ++ blocks (turn w es) (named cookies locks)) alone in
          let held : list_any (holds (called w l)) w.granted ≡ true =
          subst (λ (ls : List Lock). list_any (holds (called w l)) ls ≡ true) (sym locks_are) (held_there w l locks granted) in
          let there : ShowsCalls more x =
          subst (λ (es : List Entry). ShowsCalls more (turn w es)) alone
          (asks_block w asked more l true shows held (sym (ap not e)) (ap (λ n. with_asked (block_at n l.cookie) asked) (sym ticks_are))
          (sound_asked (block_at tick l.cookie) asked e shows.sound)).1 in
          let rest = later more (before ++ l ∷ []) x locks_are ticks_are there in
          let done : Calling = fold (call_one space tick) (calling more (before ++ l ∷ [])) cookies in
          subst (λ o. Ends (fold (call_one space tick) (calling more (with_found before o)) cookies) before w
          (blocks w (l ∷ named cookies locks))) (sym found)
          (subst (Ends done before w) (sym step) (
            l ∷ rest.0,
            rest.1 ∙ append_again before l rest.0,
            ap (λ (es : List Entry). Block (called w l) ∷ block_of w l ∷ es) (rest.2 ∙ told_later w l rest.0),
            rest.3,
          ))

  pub all_called : (cookies : List Cookie) → StandOnce cookies → AreOfLocks space locks cookies → Later cookies
  all_called [] once are = λ asked before w locks_are ticks_are shows. ([], sym (append-nil before), refl, shows)
  all_called (c ∷ cookies) once are =
      let l = are.0.lock in
      let same : c ≡ l.cookie = found_cookie c locks l are.0.granted in
      subst (λ (k : Cookie). Later (k ∷ cookies)) (sym same)
      (one_more l cookies
      (subst (λ (k : Cookie). find (λ x. x.cookie.0 == k.0) locks ≡ Some l) same are.0.granted)
      (subst (λ (k : Cookie). lock_of k.0 space ≡ Some l) same are.0.found)
      (subst (λ (k : Cookie). is_told k cookies ≡ false) same once.0)
      are.1 (all_called cookies once.1 are.1))

-- ---- what is in the way of the locks that wait on a resource

pub called_back : (r : Resource) (cookies : List Cookie) (asked : List Asked) (locks : List Lock) (old : ServerState)
    → AreBlockers (queue_of r old.space) cookies
    → calling asked locks ≡ call_all old.space old.ticks old.asked cookies → AreCalledBack r locks old (record old { asked = asked })
called_back r cookies asked locks old are is = record {
  told = λ v s. let ends = whole v s in blocked old.space v r cookies s.locks are ∙ ends.2
      ∙ ap (blocks_told v) (sym (ap (λ (c : Calling). c.called) is ∙ ends.1));
  shows = λ v s. let w = turn v (blocks_go (locks_on r v.waiting) v) in let left = leaves_blocks_go v (locks_on r v.waiting) in record {
    locks = locks_same old.space v w left.0 left.1 left.2 s.locks;
    calls = subst (λ (es : List Entry). ShowsCalls asked (turn v es)) (sym (blocked old.space v r cookies s.locks are))
        (subst (λ (asks : List Asked). ShowsCalls asks (turn v (blocks v (named cookies v.granted))))
        (sym (ap (λ (c : Calling). c.asked) is)) (whole v s).3);
    cookie = left.2 ∙ s.cookie;
    ticks = ticks_blocks_go v (locks_on r v.waiting) ∙ s.ticks;
    boot = boot_blocks_go v (locks_on r v.waiting) ∙ s.boot;
    counted = s.counted;
  };
}
  where
    whole : (v : Target) → Shows old v → Ends (call_all old.space old.ticks old.asked cookies) [] v (blocks v (named cookies v.granted))
    whole v s =
        all_called old.space old.ticks v.granted cookies (blocking_once (queue_of r old.space).granted (queue_of r old.space).waiting []
        cookies are)
        (blockers_of_locks old.space v r cookies s.locks are) old.asked [] v refl s.ticks s.calls
