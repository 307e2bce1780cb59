-- Locks that are called back one after another, and what grants and other entries leave of what callbacks show.
use Rattle.std.proofs.Common.{◌≡◌, ℕ, ◌<◌, ◌≤◌, Bool, true, false, cond, ◌||◌, ◌==◌, List, [], ◌∷◌, ◌++◌, filter, Option, refl, sym, ap}
use Rattle.std.proofs.Common.{◌∙◌, arith, nat_lt}
use Rattle.std.specs.Prelude.{if◌then◌else◌, AllPairs}
use Rattle.std.specs.List.{list_any}
use Rattle.std.proofs.lemmas.Bool.Decides.{nat_tests}
use Rattle.lu_base.specs.declared.ids.Cookie.{Cookie}
use Rattle.lu_base.specs.declared.locks.Lock.{Lock}
use Rattle.lu_callback.specs.declared.callbacks.Asked.{Asked}
use Rattle.lu_callback.specs.Callbacks.{IsSound}
use Rattle.lu_lock.specs.Conflict.{conflict}
use Rattle.lu_held.specs.Locks.{same_resource}
use Rattle.lu_spec_machine.specs.Footprint.{Every}
use Rattle.lu_msg.specs.declared.messages.Message.TheVariants as message
use Rattle.lu_part.specs.declared.parts.Part.{Part}
use Rattle.lu_spec_entries.specs.Carried.{Called, Glimpse, Deed, Outcome}
use Rattle.lu_spec_entries.specs.Words.{Entry, Act, Grant, Restore, Close, Block}
use Rattle.lu_spec_target.specs.Locks.{with_lock, with_locks}
use Rattle.lu_spec_target.specs.States.{Target, after, turn}
use Rattle.lu_spec_target.specs.Replies.{is_called, called, blocks, locks_on, to_life}
use Rattle.lu_spec_target.specs.Replies as replies
use Rattle.lu_spec_target.specs.Names.{in_way, guards_part}
use Rattle.lu_spec_target.specs.Queues.{conflicting, blocks_go}
use Rattle.lu_target_refines.specs.Callbacks.{holds, is_of_lock, Shows, ShowsCalls}
use Rattle.lu_target_refines.specs.Cookies.{HaveOther, HaveOneEach, AreAbove}
use Rattle.lu_target_refines.proofs.Lists.{every_map, every_filter, append_none, append_again, Pairs, pairs_of, none_passes}
use Rattle.lu_target_refines.proofs.Callbacks.{number_back}

-- ---- turns of several entries

pub turned_more : (v : Target) (es more : List Entry) → turn v (es ++ more) ≡ turn (turn v es) more
turned_more v [] more = refl
turned_more v (e ∷ es) more = turned_more (after v e) es more

-- ---- each cookie is that of one lock

other_filter : (test : Lock → Bool) (cookie : Cookie) (locks : List Lock) → HaveOther cookie locks → HaveOther cookie (filter test locks)
other_filter test cookie [] other = tt
other_filter test cookie (l ∷ locks) other = by (test l) (other_filter test cookie locks other.1) where
  by : (here : Bool) → HaveOther cookie (filter test locks) → HaveOther cookie (cond here (l ∷ filter test locks) (filter test locks))
  by true rest = (other.0, rest)
  by false rest = rest

pub each_filter : (test : Lock → Bool) (locks : List Lock) → HaveOneEach locks → HaveOneEach (filter test locks)
each_filter test [] each = tt
each_filter test (l ∷ locks) each = by (test l) (each_filter test locks each.1) where
  by : (here : Bool) → HaveOneEach (filter test locks) → HaveOneEach (cond here (l ∷ filter test locks) (filter test locks))
  by true rest = (other_filter test l.cookie locks each.0, rest)
  by false rest = rest

above_other : (n m : ℕ) → n < m → (m == n) ≡ false
above_other n m less = grind (arith, nat_tests)

-- where cookies rise, each is that of one lock
pub each_of_rising : (locks : List Lock) → AllPairs (λ earlier later. earlier.cookie.0 < later.cookie.0) locks → HaveOneEach locks
each_of_rising locks rising = go locks (pairs_of (λ (earlier later : Lock). earlier.cookie.0 < later.cookie.0) locks rising) where
  others : (l : Lock) (locks : List Lock) → Every (λ k. l.cookie.0 < k.cookie.0) locks → HaveOther l.cookie locks
  others l [] above = tt
  others l (k ∷ locks) above = (above_other l.cookie.0 k.cookie.0 above.0, others l locks above.1)

  go : (locks : List Lock) → Pairs (λ (earlier later : Lock). earlier.cookie.0 < later.cookie.0) locks → HaveOneEach locks
  go [] pairs = tt
  go (l ∷ locks) pairs = (others l locks pairs.0, go locks pairs.1)

pub conflicting_each : (v : Target) (l : Lock) → HaveOneEach v.granted → HaveOneEach (conflicting v l)
conflicting_each v l each = each_filter (λ k. conflict l.ask k.ask) (locks_on l.resource v.granted)
    (each_filter (λ k. same_resource k.resource l.resource) v.granted each)

pub in_way_each : (granted : List Lock) (parts : List Part) → HaveOneEach granted → HaveOneEach (in_way granted parts)
in_way_each granted parts each = each_filter (λ l. list_any (guards_part l) parts) granted each

-- ---- each granted lock is held by its life

own_held : (v : Target) (l : Lock) → holds (called v l) l ≡ true
own_held v l = grind (arith, nat_tests)

or_true : (b : Bool) → (b || true) ≡ true
or_true true = refl
or_true false = refl

held_by : (v : Target) (locks : List Lock) → Every (λ k. list_any (holds (called v k)) locks ≡ true) locks
held_by v [] = tt
held_by v (l ∷ locks) = (
  ap (λ b. b || list_any (holds (called v l)) locks) (own_held v l),
  every_map (λ k. list_any (holds (called v k)) locks ≡ true) (λ k. list_any (holds (called v k)) (l ∷ locks) ≡ true)
      (λ k h. ap (λ b. holds (called v k) l || b) h ∙ or_true (holds (called v k) l)) locks (held_by v locks),
)

pub held_all : (v : Target) → Every (λ k. list_any (holds (called v k)) v.granted ≡ true) v.granted
held_all v = held_by v v.granted

pub conflicting_held : (v : Target) (l : Lock) → Every (λ k. list_any (holds (called v k)) v.granted ≡ true) (conflicting v l)
conflicting_held v l =
    every_filter (λ k. list_any (holds (called v k)) v.granted ≡ true) (λ k. conflict l.ask k.ask) (locks_on l.resource v.granted)
    (every_filter (λ k. list_any (holds (called v k)) v.granted ≡ true) (λ k. same_resource k.resource l.resource) v.granted (held_all v))

pub in_way_held : (v : Target) (parts : List Part) → Every (λ k. list_any (holds (called v k)) v.granted ≡ true) (in_way v.granted parts)
in_way_held v parts = every_filter (λ k. list_any (holds (called v k)) v.granted ≡ true) (λ l. list_any (guards_part l) parts) v.granted
    (held_all v)

-- ---- blocks, one lock after another

blocks_like : (v w : Target) (locks : List Lock) → w.boot ≡ v.boot → w.ticks ≡ v.ticks
    → Every (λ k. is_called k.cookie w.called ≡ is_called k.cookie v.called) locks → blocks w locks ≡ blocks v locks
blocks_like v w [] boot ticks same = refl
blocks_like v w (k ∷ locks) boot ticks same =
    let rest : blocks w locks ≡ blocks v locks = blocks_like v w locks boot ticks same.1 in
    ap (λ b. if b then blocks w locks else Block (called w k) ∷ replies.block_of w k ∷ blocks w locks) same.0
    ∙ ap (λ (es : List Entry). if is_called k.cookie v.called then es else Block (called w k) ∷ replies.block_of w k ∷ es) rest
    ∙ ap (λ n. if is_called k.cookie v.called then blocks v locks else Block (record { cookie = k.cookie; who = k.ask.who; since = n })
    ∷ replies.block_of w k ∷ blocks v locks) ticks
    ∙ ap (λ n. if is_called k.cookie v.called then blocks v locks else Block (called v k)
    ∷ to_life k.ask.who (message.Block k.ask.who n k.cookie) ∷ blocks v locks) boot

called_more : (k : Cookie) (cs : List Called) (c : Called) → (c.cookie.0 == k.0) ≡ false → is_called k (cs ++ c ∷ []) ≡ is_called k cs
called_more k [] c other = ap (λ b. b || false) other
called_more k (x ∷ cs) c other = ap (λ b. x.cookie.0 == k.0 || b) (called_more k cs c other)

pub blocks_step : (v : Target) (l : Lock) (locks : List Lock) → HaveOther l.cookie locks → blocks v (l ∷ locks) ≡ blocks v (l ∷ [])
    ++ blocks (turn v (blocks v (l ∷ []))) locks
blocks_step v l locks other = by (is_called l.cookie v.called) where
  same : (locks : List Lock) → HaveOther l.cookie locks → Every
      (λ k. is_called k.cookie (v.called ++ called v l ∷ []) ≡ is_called k.cookie v.called) locks
  same [] other = tt
  same (k ∷ locks) other = (
    called_more k.cookie v.called (called v l) (number_back k.cookie.0 l.cookie.0 false other.0),
    same locks other.1,
  )

  by : (was : Bool) → (if was then blocks v locks else Block (called v l) ∷ replies.block_of v l ∷ blocks v locks)
      ≡ (if was then [] else Block (called v l) ∷ replies.block_of v l ∷ [])
      ++ blocks (turn v (if was then [] else Block (called v l) ∷ replies.block_of v l ∷ [])) locks
  by true = refl
  by false =
      ap (λ (es : List Entry). Block (called v l) ∷ replies.block_of v l ∷ es)
      (sym (blocks_like v (turn v (Block (called v l) ∷ replies.block_of v l ∷ [])) locks refl refl (same locks other)))

other_front : (cookie : Cookie) (locks : List Lock) (l : Lock) → HaveOther cookie (locks ++ l ∷ []) → HaveOther cookie locks
other_front cookie [] l other = tt
other_front cookie (k ∷ locks) l other = (other.0, other_front cookie locks l other.1)

-- and one more, as a loop goes
pub blocks_more : (v : Target) (locks : List Lock) (l : Lock) → HaveOneEach (locks ++ l ∷ []) → blocks v (locks ++ l ∷ []) ≡ blocks v locks
    ++ blocks (turn v (blocks v locks)) (l ∷ [])
blocks_more v [] l each = refl
blocks_more v (k ∷ locks) l each =
    let w : Target = turn v (blocks v (k ∷ [])) in
    let step : blocks v (k ∷ locks) ≡ blocks v (k ∷ []) ++ blocks w locks = blocks_step v k locks (other_front k.cookie locks l each.0) in
    let there : turn v (blocks v (k ∷ locks)) ≡ turn w (blocks w locks) = ap (turn v) step
    ∙ turned_more v (blocks v (k ∷ [])) (blocks w locks) in
    blocks_step v k (locks ++ l ∷ []) each.0
    ∙ ap (λ (es : List Entry). blocks v (k ∷ []) ++ es) (blocks_more w locks l each.1)
    ∙ sym (append_again (blocks v (k ∷ [])) (blocks w locks) (blocks (turn w (blocks w locks)) (l ∷ [])))
    ∙ ap (λ (es : List Entry). es ++ blocks (turn w (blocks w locks)) (l ∷ [])) (sym step)
    ∙ ap (λ (x : Target). blocks v (k ∷ locks) ++ blocks x (l ∷ [])) (sym there)

-- the granted locks stay as they are
pub blocks_granted : (v w : Target) (locks : List Lock) → (turn w (blocks v locks)).granted ≡ w.granted
blocks_granted v w [] = refl
blocks_granted v w (l ∷ locks) = by (is_called l.cookie v.called) (blocks_granted v w locks)
    (blocks_granted v (turn w (Block (called v l) ∷ replies.block_of v l ∷ [])) locks) where
      by : (was : Bool) → (turn w (blocks v locks)).granted ≡ w.granted
          → (turn (turn w (Block (called v l) ∷ replies.block_of v l ∷ [])) (blocks v locks)).granted ≡ w.granted
          → (turn w (if was then blocks v locks else Block (called v l) ∷ replies.block_of v l ∷ blocks v locks)).granted ≡ w.granted
      by true same more = same
      by false same more = more

pub blocks_waiting : (v w : Target) (locks : List Lock) → (turn w (blocks v locks)).waiting ≡ w.waiting
blocks_waiting v w [] = refl
blocks_waiting v w (l ∷ locks) = by (is_called l.cookie v.called) (blocks_waiting v w locks)
    (blocks_waiting v (turn w (Block (called v l) ∷ replies.block_of v l ∷ [])) locks) where
      by : (was : Bool) → (turn w (blocks v locks)).waiting ≡ w.waiting
          → (turn (turn w (Block (called v l) ∷ replies.block_of v l ∷ [])) (blocks v locks)).waiting ≡ w.waiting
          → (turn w (if was then blocks v locks else Block (called v l) ∷ replies.block_of v l ∷ blocks v locks)).waiting ≡ w.waiting
      by true same more = same
      by false same more = more

-- waiting locks, one after another, and one more, as a loop goes
pub blocks_go_more : (v : Target) (waiting : List Lock) (l : Lock)
    → blocks_go (waiting ++ l ∷ []) v ≡ blocks_go waiting v ++ blocks (turn v (blocks_go waiting v))
    (conflicting (turn v (blocks_go waiting v)) l)
blocks_go_more v [] l = append_none (blocks v (conflicting v l))
blocks_go_more v (k ∷ waiting) l =
    let es : List Entry = blocks v (conflicting v k) in
    let w : Target = turn v es in
    let there : turn v (es ++ blocks_go waiting w) ≡ turn w (blocks_go waiting w) = turned_more v es (blocks_go waiting w) in
    ap (λ (more : List Entry). es ++ more) (blocks_go_more w waiting l)
    ∙ sym (append_again es (blocks_go waiting w) (blocks (turn w (blocks_go waiting w)) (conflicting (turn w (blocks_go waiting w)) l)))
    ∙ ap (λ (x : Target). (es ++ blocks_go waiting w) ++ blocks x (conflicting x l)) (sym there)

-- ---- grants: the locks that were there stay

pub more_locks : (asked : List Asked) (cs : List Called) (gs : List Glimpse) (old new : List Lock)
    → ((test : Lock → Bool) → list_any test old ≡ true → list_any test new ≡ true)
    → Shows asked cs gs old → Shows asked cs gs new
more_locks asked cs gs old new stay shows =
    record {
      sound = shows.sound;
      blocks = shows.blocks;
      glimpses = shows.glimpses;
      holders = every_map (λ (c : Called). list_any (holds c) old ≡ true) (λ (c : Called). list_any (holds c) new ≡ true)
          (λ c. stay (holds c)) cs shows.holders;
      granted = every_map (λ (g : Glimpse). list_any (is_of_lock g.cookie) old ≡ true)
          (λ (g : Glimpse). list_any (is_of_lock g.cookie) new ≡ true) (λ g. stay (is_of_lock g.cookie)) gs shows.granted;
    }

stays_with : (l : Lock) (locks : List Lock) → Every (λ k. (k.cookie.0 == l.cookie.0) ≡ false) locks → (test : Lock → Bool)
    → list_any test locks ≡ true → list_any test (with_lock l locks) ≡ true
stays_with l [] other test some = absurd (cc)
stays_with l (k ∷ locks) other test some = by (l.cookie.0 == k.cookie.0) (number_back k.cookie.0 l.cookie.0 false other.0)
    (nat_lt l.cookie.0 k.cookie.0) (stays_with l locks other.1 test) where
      by : (same : Bool) → same ≡ false → (before : Bool) → (list_any test locks ≡ true → list_any test (with_lock l locks) ≡ true)
          → list_any test (if same then l ∷ locks else (if before then l ∷ k ∷ locks else k ∷ with_lock l locks)) ≡ true
      by true h before rest = absurd (cc)
      by false h true rest = ap (λ b. test l || b) some ∙ or_true (test l)
      by false h false rest = of (test k) some where
        of : (b : Bool) → (b || list_any test locks) ≡ true → (b || list_any test (with_lock l locks)) ≡ true
        of true s = refl
        of false s = rest s

pub grants_shown : (v : Target) (asked : List Asked) (l : Lock) (deed : Option Deed) → ShowsCalls asked v
    → list_any (is_of_lock l.cookie) v.granted ≡ false → ShowsCalls asked (after v (Grant l deed))
grants_shown v asked l deed shows fresh =
    more_locks asked v.called v.glimpses v.granted (with_lock l v.granted)
    (stays_with l v.granted (none_passes (is_of_lock l.cookie) v.granted fresh)) shows

pub restores_shown : (v : Target) (asked : List Asked) (l : Lock) → ShowsCalls asked v → list_any (is_of_lock l.cookie) v.granted ≡ false
    → ShowsCalls asked (after v (Restore l))
restores_shown v asked l shows fresh =
    more_locks asked v.called v.glimpses v.granted (with_lock l v.granted)
    (stays_with l v.granted (none_passes (is_of_lock l.cookie) v.granted fresh)) shows

below_other : (n m k : ℕ) → k ≤ n → n < m → (k == m) ≡ false
below_other n m k le less = grind (arith, nat_tests)

below_with : (n : ℕ) (l : Lock) (locks : List Lock) → n < l.cookie.0 → Every (λ k. k.cookie.0 ≤ n) locks
    → Every (λ k. k.cookie.0 ≤ l.cookie.0) (with_lock l locks)
below_with n l [] less below = (omega arith, tt)
below_with n l (k ∷ locks) less below = by (l.cookie.0 == k.cookie.0) (nat_lt l.cookie.0 k.cookie.0)
    (below_with n l locks less below.1) where
      raise : (locks : List Lock) → Every (λ k. k.cookie.0 ≤ n) locks → Every (λ k. k.cookie.0 ≤ l.cookie.0) locks
      raise locks all = every_map (λ (k : Lock). k.cookie.0 ≤ n) (λ (k : Lock). k.cookie.0 ≤ l.cookie.0) (λ k le. omega (arith, le, less)) locks
          all

      here : k.cookie.0 ≤ l.cookie.0
      here = omega (arith, below.0, less)

      by : (same before : Bool) → Every (λ k. k.cookie.0 ≤ l.cookie.0) (with_lock l locks)
          → Every (λ k. k.cookie.0 ≤ l.cookie.0) (if same then l ∷ locks else (if before then l ∷ k ∷ locks else k ∷ with_lock l locks))
      by true before rest = (omega arith, raise locks below.1)
      by false true rest = (omega arith, (here, raise locks below.1))
      by false false rest = (here, rest)

all_stay : (n : ℕ) (more locks : List Lock) → AreAbove n more → Every (λ k. k.cookie.0 ≤ n) locks → (test : Lock → Bool)
    → list_any test locks ≡ true → list_any test (with_locks more locks) ≡ true
all_stay n [] locks above below test some = some
all_stay n (l ∷ more) locks above below test some =
    all_stay l.cookie.0 more (with_lock l locks) above.1 (below_with n l locks above.0 below) test
    (stays_with l locks (every_map (λ (k : Lock). k.cookie.0 ≤ n) (λ (k : Lock). (k.cookie.0 == l.cookie.0) ≡ false)
    (λ k le. below_other n l.cookie.0 k.cookie.0 le above.0) locks below) test some)

-- an act whose locks have new cookies
pub acts_shown : (v : Target) (asked : List Asked) (d : Deed) (n : ℕ) → ShowsCalls asked v → Every (λ k. k.cookie.0 ≤ n) v.granted
    → AreAbove n d.reply.locks → ShowsCalls asked (after v (Act d))
acts_shown v asked d n shows below above =
    more_locks asked v.called v.glimpses v.granted (with_locks d.reply.locks v.granted) (all_stay n d.reply.locks v.granted above below)
    shows

-- ---- the close of a window: nothing is outstanding

pub closes_shown : (v : Target) (o : Outcome) → IsSound [] → ShowsCalls [] (after v (Close o))
closes_shown v o sound = record { sound = sound; blocks = λ k. refl; glimpses = λ k. refl; holders = tt; granted = tt }
