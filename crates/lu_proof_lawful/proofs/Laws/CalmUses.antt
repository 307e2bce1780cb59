-- A call that stands calm uses no lock that is called back: each lock that it has in use, and the one that came for it, isn't marked, or no
-- longer
-- pinned; and the one that it waits for isn't called back. So it is of one that is told calm.
use Rattle.std.proofs.Common.{◌≡◌, ℕ, Bool, true, false, List, [], ◌∷◌, ◌⊎◌, Some, inl, inr, ⊎_elim, refl, sym, subst, ap, ◌∙◌}
use Rattle.lu_base.specs.declared.ids.Node.TheVariants.{Client, Target}
use Rattle.lu_base.specs.declared.ids.TargetId.{TargetId}
use Rattle.lu_base.specs.declared.locks.Lock.{Lock}
use Rattle.lu_held.specs.declared.locks.HeldLock.{HeldLock}
use Rattle.lu_held.specs.declared.locks.Use.{Use}
use Rattle.lu_held.specs.declared.names.LockName.{LockName}
use Rattle.lu_held.specs.Locks.{named, name_of, is_named}
use Rattle.lu_msg.specs.declared.calls.Call.{Call}
use Rattle.lu_msg.specs.declared.messages.Message.TheVariants as message
use Rattle.lu_spec_entries.specs.Carried.{Work, Stage, Plain, Bad, Looks, Enqueued, Waits, Came, Forgotten, Gets, Flushing, Sizes, Running}
use Rattle.lu_spec_entries.specs.declared.uses.Using.{Using}
use Rattle.lu_spec_entries.specs.Words.{Line}
use Rattle.lu_spec_entries.specs.Printed.{printed}
use Rattle.lu_spec_client.specs.Advances.{name_under}
use Rattle.lu_spec_client.specs.Caches.{held_at}
use Rattle.lu_spec_client.specs.Messages.{waiting_lock}
use Rattle.lu_proof_lawful.specs.Covered.Calls.{call_at, life_at}
use Rattle.lu_proof_lawful.specs.Covered.Heads.{Head}
use Rattle.lu_spec_laws.specs.Words.Lives.{who_is}
use Rattle.lu_spec_laws.specs.Words.Repeats.{calm}
use Rattle.lu_proof_lawful.proofs.Preconditions.Guards.{In, used_in, UsesHeld, HeldFor, CameFor, EndFirst, SizesStand, LeftSize, LockStand}
use Rattle.lu_proof_lawful.proofs.Preconditions.Guards.{StatStand, GetStand, FlushStand, MovedStand, CameStand, LockBrought, LockGranted}
use Rattle.lu_proof_lawful.proofs.Preconditions.Guards.{came_as, came_marked, Begins}
use Rattle.lu_proof_lawful.proofs.Preconditions.Calls.{Began, Touched, Stood, call_cases}
use Rattle.lu_proof_lawful.proofs.Preconditions.ClientLocks.{own_name}
use Rattle.lu_proof_lawful.proofs.Preconditions.Grown.{Grown}
use Rattle.lu_proof_lawful.proofs.Preconditions.PinsFit.{PinsFit}
use Rattle.lu_proof_lawful.proofs.Laws.SilentCalm.{calm_before, calm_stays, disturbed}
use Rattle.lu_proof_lawful.proofs.Laws.SilentHeld.{Stays}
use Rattle.lu_proof_lawful.proofs.Laws.SilentWorlds.{Unmarked, Lasting, Free}
use Rattle.lu_proof_lawful.proofs.Laws.UnmarkedStays.{Good, good_stays, good_of, on_held, clean_came}

-- the locks that a call has in use, and the one that came for it, are good; one that it waits for isn't called back
pub record Calms (c : ℕ) (past : List Line) (r : Running) : Type 0 where
  pub uses : (u : Using) → In u (used_in r.stage) → Good c (name_under u.want u.lock) past
  pub flag : (work : Work) (target : TargetId) (lock : Lock) (marked : Bool) → r.stage ≡ Waits work target lock marked → marked ≡ false
  pub came : (work : Work) (lock : Lock) (wanted : Use) (left : List Use) → r.stage ≡ Came work lock → work.left ≡ wanted ∷ left
      → Good c (name_under wanted lock) past

-- a held lock goes by the name under which it is used
under : (h : HeldLock) (lock : Lock) (wanted : Use) → h.lock ≡ lock → h.target.0 ≡ wanted.target.0 → name_of h ≡ name_under wanted lock
under h lock wanted same target = ap (λ (v : ℕ). named (record { 0 = v }) h.lock.cookie) target
    ∙ ap (λ (v : Lock). named wanted.target v.cookie) same

-- one that isn't marked is good
clean_good : (head : Head) (c : ℕ) (past : List Line) → Grown head past → (h : HeldLock) → In h (held_at c past) → h.marked ≡ false
    → (lock : Lock) (wanted : Use) → h.lock ≡ lock → h.target.0 ≡ wanted.target.0
    → Good c (name_under wanted lock) past
clean_good head c past g h i e lock wanted same target =
    subst (λ (n : LockName). Good c n past) (under h lock wanted same target)
    (good_of head c past g h i (inl e, clean_came head c past g h i e))

-- what is used is good
used_good : (head : Head) (c : ℕ) (past : List Line) → Grown head past → (r : Running) → Calms c past r → (u : Using)
    → In u (used_in r.stage) ⊎ HeldFor c past r u → Good c (name_under u.want u.lock) past
used_good head c past g r calms u (inl i) = calms.uses u i
used_good head c past g r calms u (inr f) =
    ⊎_elim
    (λ (a : (f.locked.holding.marked ≡ false) × EndFirst c past u). clean_good head c past g f.locked.holding f.locked.held a.0 u.lock
    u.want f.is f.locked.of_target)
    (λ (a : CameFor r u). calms.came a.0 u.lock u.want a.1 a.2 a.3)
    f.apart

-- where a call goes on, it waits for no lock that is called back, nor did one come for it so
module _ (head : Head) (c : ℕ) (l : Line) (past : List Line) (g : Grown head past) (own : l.at.node ≡ Client c) (running : Running)
    (old : Calms c past running) (x : ℕ × Call)
    (j : In x (calm (who_is c (printed past)) (printed past))) where
  waits : (stage : Stage) → MovedStand past l.at c running stage → (work : Work) (target : TargetId) (lock : Lock) (marked : Bool) → stage
      ≡ Waits work target lock marked → marked ≡ false
  waits stage (inl h) work target lock marked k = let s : Came h.work h.lock ≡ Waits work target lock marked = sym h.is ∙ k in absurd (cc)
  waits stage (inr (inl h)) work target lock marked k = let s : Waits h.work h.wanted.target
      (waiting_lock (life_at c past) h.cookie h.wanted) false ≡ Waits work target lock marked = sym h.is ∙ k in cc
  waits stage (inr (inr (inl h))) work target lock marked k =
      let none = (disturbed head c past l.at (Target h.target.0) (message.Block h.took.0 h.took.1 h.lock.cookie) g own h.took.2 refl).0 in
      absurd (subst (λ (v : List (ℕ × Call)). In x v) none j)
  waits stage (inr (inr (inr (inl h)))) work target lock marked k = let s : Forgotten h.work ≡ Waits work target lock marked = sym h.is ∙ k
      in absurd (cc)
  waits stage (inr (inr (inr (inr h)))) work target lock marked k = let s : Looks h.work ≡ Waits work target lock marked = sym h.is ∙ k
      in absurd (cc)

  flags : (stage : Stage) (pins : List LockName) → SizesStand past l.at running stage pins ⊎ LockStand past c running stage
      ⊎ StatStand past l.at c running stage pins
      ⊎ GetStand past c running stage pins ⊎ FlushStand past c running stage pins
      ⊎ ((pins ≡ running.pins) × MovedStand past l.at c running stage)
      → (work : Work) (target : TargetId) (lock : Lock) (marked : Bool) → stage ≡ Waits work target lock marked → marked ≡ false
  flags stage pins (inl h) work target lock marked k =
      ⊎_elim (λ (s : stage ≡ Sizes h.work). let t : Sizes h.work ≡ Waits work target lock marked = sym s ∙ k in absurd (cc))
      (λ (s : (stage ≡ Enqueued h.work) × LeftSize past l.at running h.sizes). let t : Enqueued h.work ≡ Waits work target lock marked =
      sym s.0 ∙ k in absurd (cc)) h.is
  flags stage pins (inr (inl h)) work target lock marked k = let t : Enqueued h.work ≡ Waits work target lock marked = sym h.is ∙ k
      in absurd (cc)
  flags stage pins (inr (inr (inl h))) work target lock marked k = let t : Enqueued h.work ≡ Waits work target lock marked = sym h.is ∙ k
      in absurd (cc)
  flags stage pins (inr (inr (inr (inl h)))) work target lock marked k = let t : Gets h.work ≡ Waits work target lock marked = sym h.is ∙ k
      in absurd (cc)
  flags stage pins (inr (inr (inr (inr (inl h))))) work target lock marked k = let t : Flushing h.stripe ≡ Waits work target lock marked =
      sym h.is ∙ k in absurd (cc)
  flags stage pins (inr (inr (inr (inr (inr h))))) work target lock marked k = waits stage h.1 work target lock marked k

  -- it came without a mark
  unmarked : (work : Work) (lock : Lock) (from : LockBrought past l.at running work lock ⊎ LockGranted past l.at running work lock)
      → came_as from ≡ false
  unmarked work lock (inl b) = refl
  unmarked work lock (inr b) = old.flag work b.target b.waiting b.marked b.stage

  comes : (stage : Stage) → CameStand past l.at c running stage → (work : Work) (lock : Lock) (wanted : Use) (left : List Use) → stage
      ≡ Came work lock → work.left ≡ wanted ∷ left → Good c (name_under wanted lock) past
  comes stage h work lock wanted left k first =
      let s : Came h.work h.lock ≡ Came work lock = sym h.is ∙ k in
      let w : h.work ≡ work = cc in
      let y : h.lock ≡ lock = cc in
      let f : h.wanted ∷ h.left ≡ wanted ∷ left = sym h.first ∙ ap (λ (v : Work). v.left) w ∙ first in
      let z : h.wanted ≡ wanted = cc in
      let clean : h.holding.marked ≡ false = h.holds ∙ h.flag ∙ unmarked h.work h.lock h.from in
      clean_good head c past g h.holding h.held clean lock wanted (h.same ∙ y) (h.of_target ∙ ap (λ (v : Use). v.target.0) z)

  moved : (stage : Stage) → MovedStand past l.at c running stage → (work : Work) (lock : Lock) (wanted : Use) (left : List Use) → stage
      ≡ Came work lock → work.left ≡ wanted ∷ left → Good c (name_under wanted lock) past
  moved stage (inl h) work lock wanted left k first = comes stage h work lock wanted left k first
  moved stage (inr (inl h)) work lock wanted left k first = let s : Waits h.work h.wanted.target
      (waiting_lock (life_at c past) h.cookie h.wanted) false ≡ Came work lock = sym h.is ∙ k in absurd (cc)
  moved stage (inr (inr (inl h))) work lock wanted left k first = let s : Waits h.work h.target h.lock true ≡ Came work lock = sym h.is ∙ k
      in absurd (cc)
  moved stage (inr (inr (inr (inl h)))) work lock wanted left k first = let s : Forgotten h.work ≡ Came work lock = sym h.is ∙ k
      in absurd (cc)
  moved stage (inr (inr (inr (inr h)))) work lock wanted left k first = let s : Looks h.work ≡ Came work lock = sym h.is ∙ k in absurd (cc)

  arrives : (stage : Stage) (pins : List LockName) → SizesStand past l.at running stage pins ⊎ LockStand past c running stage
      ⊎ StatStand past l.at c running stage pins
      ⊎ GetStand past c running stage pins ⊎ FlushStand past c running stage pins
      ⊎ ((pins ≡ running.pins) × MovedStand past l.at c running stage)
      → (work : Work) (lock : Lock) (wanted : Use) (left : List Use) → stage ≡ Came work lock → work.left ≡ wanted ∷ left
      → Good c (name_under wanted lock) past
  arrives stage pins (inl h) work lock wanted left k first =
      ⊎_elim (λ (s : stage ≡ Sizes h.work). let t : Sizes h.work ≡ Came work lock = sym s ∙ k in absurd (cc))
      (λ (s : (stage ≡ Enqueued h.work) × LeftSize past l.at running h.sizes). let t : Enqueued h.work ≡ Came work lock = sym s.0 ∙ k
      in absurd (cc)) h.is
  arrives stage pins (inr (inl h)) work lock wanted left k first = let t : Enqueued h.work ≡ Came work lock = sym h.is ∙ k in absurd (cc)
  arrives stage pins (inr (inr (inl h))) work lock wanted left k first = let t : Enqueued h.work ≡ Came work lock = sym h.is ∙ k
      in absurd (cc)
  arrives stage pins (inr (inr (inr (inl h)))) work lock wanted left k first = let t : Gets h.work ≡ Came work lock = sym h.is ∙ k
      in absurd (cc)
  arrives stage pins (inr (inr (inr (inr (inl h))))) work lock wanted left k first = let t : Flushing h.stripe ≡ Came work lock = sym h.is
      ∙ k in absurd (cc)
  arrives stage pins (inr (inr (inr (inr (inr h))))) work lock wanted left k first = moved stage h.1 work lock wanted left k first

module _ (head : Head) (c : ℕ) (l : Line) (past : List Line) (g : Grown head (l ∷ past)) (x : ℕ × Call)
    (ih : In x (calm (who_is c (printed past)) (printed past)) → (running : Running) → call_at c x.0 past ≡ Some running
    → Calms c past running) where
  calms_line : In x (calm (who_is c (printed (l ∷ past))) (printed (l ∷ past))) → (r : Running) → call_at c x.0 (l ∷ past) ≡ Some r
      → Calms c (l ∷ past) r
  calms_line i r is = ⊎_elim
      (λ (p : call_at c x.0 past ≡ Some r). on r refl (before r p))
      (λ (p : Began past l.at l.entry c x.0 r ⊎ (Touched past l.at.node l.entry c x.0 r ⊎ Stood past l.at c x.0 r)). ⊎_elim
      (λ (q : Began past l.at l.entry c x.0 r). begun q.begins)
      (⊎_elim (λ (q : Touched past l.at.node l.entry c x.0 r). on q.before (sym q.stage) (before q.before q.call))
      (λ (q : Stood past l.at c x.0 r). stood q))
      p)
      (call_cases past l.at.stamp l.at.node l.entry g.0.ok c x.0 r is)
    where
      -- it stood calm before
      was : (running : Running) → call_at c x.0 past ≡ Some running → In x (calm (who_is c (printed past)) (printed past))
      was running call = calm_before head c x.0 running l past g call x refl i

      before : (running : Running) → call_at c x.0 past ≡ Some running → Calms c past running
      before running call = ih (was running call) running call

      more : (n : LockName) → Good c n past → Good c n (l ∷ past)
      more n good = good_stays head c l past g (calm_stays head c l past g x i) n good

      -- at the same stage
      on : (q : Running) → r.stage ≡ q.stage → Calms c past q → Calms c (l ∷ past) r
      on q e b =
          record {
            uses = λ u j. more (name_under u.want u.lock) (b.uses u (subst (λ (s : Stage). In u (used_in s)) e j));
            flag = λ work target lock marked k. b.flag work target lock marked (sym e ∙ k);
            came = λ work lock wanted left k first. more (name_under wanted lock) (b.came work lock wanted left (sym e ∙ k) first);
          }

      nothing : (stage : Stage) → r.stage ≡ stage → ((u : Using) → In u (used_in stage) → ⊥)
          → ((w : Work) (t : TargetId) (k : Lock) (m : Bool) → stage ≡ Waits w t k m → ⊥) → ((w : Work) (k : Lock) → stage ≡ Came w k → ⊥)
          → Calms c (l ∷ past) r
      nothing stage e none waits came =
          record {
            uses = λ u j. absurd (none u (subst (λ (s : Stage). In u (used_in s)) e j));
            flag = λ work target lock marked k. absurd (waits work target lock marked (sym e ∙ k));
            came = λ work lock wanted left k first. absurd (came work lock (sym e ∙ k));
          }

      begun : Begins c past r → Calms c (l ∷ past) r
      begun (inl b) = nothing Plain b.1 (λ u j. j) (λ w t k m e. cc) (λ w k e. cc)
      begun (inr b) = nothing Bad b.1 (λ u j. j) (λ w t k m e. cc) (λ w k e. cc)

      stood : Stood past l.at c x.0 r → Calms c (l ∷ past) r
      stood q =
          let running = q.stands.running in
          let old = before running q.stands.call in
          let j = was running q.stands.call in
          let e : r.stage ≡ q.stands.stage = ap (λ (v : Running). v.stage) q.stands.is in
          record {
            uses = λ u k. more (name_under u.want u.lock) (used_good head c past g.1 running old u
                (q.stands.uses u (subst (λ (s : Stage). In u (used_in s)) e k)));
            flag = λ work target lock marked k. flags head c l past g.1 q.own running old x j q.stands.stage q.stands.pins q.stands.how work
                target lock marked (sym e ∙ k);
            came = λ work lock wanted left k first. more (name_under wanted lock)
                (arrives head c l past g.1 q.own running old x j q.stands.stage q.stands.pins q.stands.how work lock wanted left (sym e ∙ k)
                first);
          }

pub all_calm : (head : Head) (c : ℕ) (past : List Line) → Grown head past → (x : ℕ × Call)
    → In x (calm (who_is c (printed past)) (printed past)) → (r : Running) → call_at c x.0 past ≡ Some r → Calms c past r
all_calm head c [] g x i r is = absurd i
all_calm head c (l ∷ past) g x i r is = calms_line head c l past g x (λ j running call. all_calm head c past g.1 x j running call) i r is

pub calm_uses : (head : Head) (c : ℕ) (past : List Line) → Grown head past → PinsFit past → (x : ℕ × Call)
    → In x (calm (who_is c (printed past)) (printed past)) → (r : Running) → call_at c x.0 past ≡ Some r
    → (us : List Using) → UsesHeld c past r us → (u : Using) → In u us → (h : HeldLock) → In h (held_at c past) → h.lock ≡ u.lock
    → h.target.0 ≡ u.want.target.0 → Unmarked c past h
calm_uses head c past g fit x i r is us uses u j h held same target =
    let good = used_good head c past g r (all_calm head c past g x i r is) u (uses u j) in
    let n = under h u.lock u.want same target in (
      good.each h held (ap (λ (v : LockName). is_named v h) (sym n) ∙ own_name (name_of h)),
      ap (λ (v : LockName). came_marked c v past) n ∙ good.came,
    )

-- ---- such locks stay held; and those that aren't called back are such

pub lasting_stays : (head : Head) (c : ℕ) (l : Line) (past : List Line) → Grown head (l ∷ past) → Stays c past l.at.node l.entry
    → (t : ℕ) (k : Lock) → Lasting c past t k → Lasting c (l ∷ past) t k
lasting_stays head c l past g stays t k x = let r = on_held head c l past g stays x.0 x.1 x.4
    in (r.0, r.1, ap (λ (v : TargetId). v.0) r.3 ∙ x.2, r.4 ∙ x.3, r.2)

pub free_lasting : (head : Head) (c : ℕ) (past : List Line) → Grown head past → (t : ℕ) (k : Lock) → Free c past t k → Lasting c past t k
free_lasting head c past g t k x = (x.0, x.1, x.2, x.3, (inl x.4, clean_came head c past g x.0 x.1 x.4))
