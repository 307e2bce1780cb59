-- What every run keeps of callbacks: what is called back is granted, wasn't called back before, and something waits for it: at the metadata
-- target
-- a request that would write what it guards, at an object storage target a lock that conflicts with it.
use Rattle.std.proofs.Common.{◌≡◌, ℕ, zero, suc, ◌+◌, ◌≤◌, ◌<◌, Bool, true, false, List, [], ◌∷◌, ◌++◌, ◌⊎◌, inl, inr, ⊎_elim, Option, Some}
use Rattle.std.proofs.Common.{None, refl, sym, subst, ap, ◌∙◌, arith}
use Rattle.std.specs.Prelude.{max, nat_eq, not, ◌&&◌, if◌then◌else◌, unwrap_or, filter, find}
use Rattle.std.specs.List.{list_any}
use Rattle.std.proofs.lemmas.Bool.{and_parts, cond_both, cond-true, eqb-true, eq-eqb, true≢false}
use Rattle.lu_base.specs.declared.ids.At.{At}
use Rattle.lu_base.specs.declared.ids.Cookie.{Cookie}
use Rattle.lu_base.specs.declared.ids.Node.{Node}
use Rattle.lu_base.specs.declared.ids.Node.TheVariants.{Client, Target}
use Rattle.lu_base.specs.declared.ids.Stamp.{Stamp}
use Rattle.lu_base.specs.declared.ids.Who.{Who}
use Rattle.lu_base.specs.declared.locks.Cause.{Cause}
use Rattle.lu_base.specs.declared.locks.Lock.{Lock}
use Rattle.lu_lock.specs.Conflict.{conflict}
use Rattle.lu_lock.proofs.ConflictLaws.{conflict_symmetric}
use Rattle.lu_msg.specs.declared.messages.Request.{Request as RequestOf}
use Rattle.lu_part.specs.declared.parts.Part.{Part}
use Rattle.lu_spec_machine.specs.Footprint.{Operation, writes}
use Rattle.lu_spec_machine.proofs.Numbers.{number_is_free}
use Rattle.lu_trace.specs.declared.entries.Line.{Line as PrintedLine}
use Rattle.lu_spec_entries.specs.Carried.{Deed, Called}
use Rattle.lu_spec_entries.specs.Words.{Entry, Act, Grant, Wait, Block, Release, Boot, Close, Evict, Line, line}
use Rattle.lu_spec_entries.specs.Concerns.{concerns, only}
use Rattle.lu_spec_entries.specs.Printed.{printed}
use Rattle.lu_spec_target.specs.Lives.{is_life}
use Rattle.lu_spec_target.specs.Locks.{with_lock, with_locks, without_lock, locks_without, called_without}
use Rattle.lu_spec_target.specs.Phase.{first_of, greatest_cookie}
use Rattle.lu_spec_target.specs.Replies as rows
use Rattle.lu_proof_lawful.specs.Covered.TargetStates.{Server, granted_at, cookie_at, called_at, server_of, closed_of, next_number}
use Rattle.lu_proof_lawful.specs.Covered.Deeds.{asked, written_by}
use Rattle.lu_proof_lawful.specs.Covered.Heads.{Head}
use Rattle.lu_spec_laws.specs.Holds.{Holds}
use Rattle.lu_spec_laws.specs.Words.Pasts.{or_else, newest}
use Rattle.lu_spec_laws.specs.Words.Boots.{greatest}
use Rattle.lu_spec_laws.specs.Words.Queues.{has_cookie, on, asks, granted, waiting}
use Rattle.lu_spec_laws.specs.Words.Standing.{contents}
use Rattle.lu_spec_laws.specs.Order.Blocks.{calls_back, is_called, guards, writes_guarded, is_waited_for, has_cause, BlockBy, Blocks}
use Rattle.lu_spec_laws.specs.Order.Requests.{unanswered}
use Rattle.lu_spec_laws.proofs.Tests.{clash}
use Rattle.lu_proof_lawful.proofs.Preconditions.Guards.{In}
use Rattle.lu_proof_lawful.proofs.Preconditions.StoryGuards.{IsServing, IsRecovering, BlockOk, WayOk, BlocksOk, EntryOf}
use Rattle.lu_proof_lawful.proofs.Preconditions.Acts.{acted}
use Rattle.lu_proof_lawful.proofs.Preconditions.Grown.{Allowed, Grown}
use Rattle.lu_proof_lawful.proofs.Preconditions.Lists.{self, in_left, in_right, in_filter, in_filtered}
use Rattle.lu_proof_lawful.proofs.Preconditions.Only.{grown_of}
use Rattle.lu_proof_lawful.proofs.Preconditions.Parts.{granted_is, cookie_is, called_is, waiting_is, server_is}
use Rattle.lu_proof_lawful.proofs.Preconditions.Sound.{sound_of}
use Rattle.lu_proof_lawful.proofs.Preconditions.ClientLocks.{any_passes, in_mapped}
use Rattle.lu_proof_lawful.proofs.Preconditions.LockLists.{greatest_least}
use Rattle.lu_proof_lawful.proofs.Preconditions.ClientLines.{from_high}
use Rattle.lu_proof_lawful.proofs.Preconditions.QueueLists.{on_resource, is_on as among_on}
use Rattle.lu_proof_lawful.proofs.Invariants.Groups.{turn}
use Rattle.lu_proof_lawful.proofs.Invariants.TargetGroups.{Gave}
use Rattle.lu_proof_lawful.proofs.Invariants.LockLists.{with_in, with_new, withs_in}
use Rattle.lu_proof_lawful.proofs.Invariants.LocksHeard.{numbered}
use Rattle.lu_proof_lawful.proofs.Invariants.All.{holds}
use Rattle.lu_proof_lawful.proofs.Laws.Lines.{Keeps, holds_before, Nothing}
use Rattle.lu_proof_lawful.proofs.Laws.Printed.{flip}
use Rattle.lu_proof_lawful.proofs.Laws.Taking.{closed_now}
use Rattle.lu_proof_lawful.proofs.Laws.Contents.{contents_alike}
use Rattle.lu_proof_lawful.proofs.Laws.Once.{all_asked}
use Rattle.lu_proof_lawful.proofs.Laws.Given.{owed, gave_more}
use Rattle.lu_proof_lawful.proofs.Laws.Granted.{granted_shown}
use Rattle.lu_proof_lawful.proofs.Laws.Waits.{waiting_is as waits_printed}
use Rattle.lu_proof_lawful.proofs.Laws.CloseLines.{nothing_left}
use Rattle.lu_proof_lawful.proofs.Laws.CloseSlots.{NoneLeft}
use Rattle.lu_proof_lawful.proofs.Laws.OrderlyQuiet.{Says}
use Rattle.lu_proof_lawful.proofs.Laws.OrderlyAsked.{all_unanswered}
use Rattle.lu_proof_lawful.proofs.Laws.OrderlyLocks.{granted_found}

-- ---- a granted lock is called back that wasn't before

record CallsOk (osts : ℕ) (past : List Line) (called : Called) : Type 0 where
  serves : IsServing osts past
  lock : Lock
  granted : In lock (server_of osts past).granted
  of_cookie : called.cookie ≡ lock.cookie
  of_life : called.who ≡ lock.ask.who
  new : rows.is_called lock.cookie (server_of osts past).called ≡ false

calls_ok : (osts : ℕ) (past : List Line) (t : ℕ) (called : Called) → BlocksOk osts past t called → CallsOk osts past called
calls_ok osts past t called (inl ok) = let k = ok.1 in record {
  serves = k.serves;
  lock = k.lock;
  granted = k.granted;
  of_cookie =
      k.of_cookie;
  of_life = k.of_life;
  new = k.new;
}
calls_ok osts past t called (inr ok) = let k = ok.1 in record {
  serves = k.serves;
  lock = k.lock;
  granted = k.granted;
  of_cookie =
      k.of_cookie;
  of_life = k.of_life;
  new = k.new;
}

-- the lock is among those called back, as one of its life
abbrev pub Among : Lock → List Called → Type 0
Among l cs = (c : Called) × In c cs × (c.cookie.0 ≡ l.cookie.0) × (c.who ≡ l.ask.who)

-- ---- what was called back at one target

module _ (t : ℕ) where
  -- its cookie was given, and its lock is among those called back while it is granted
  abbrev pub CalledOnce : List Line → ℕ → Type 0
  CalledOnce past k = (k ≤ cookie_at t past) × ((l : Lock) → In l (granted_at t past) → l.cookie.0 ≡ k → Among l (called_at t past))

  abbrev pub AllCalled : List Line → Type 0
  AllCalled past = (k : ℕ) → is_called t k (printed past) ≡ true → CalledOnce past k

  -- while the target recovers none was called back since its boot
  none_called : (head : Head) (past : List Line) → Grown head past → IsRecovering head.osts (only t past) → (k : ℕ)
      → is_called t k (printed past) ≡ false
  none_called head [] g r k = refl
  none_called head (l ∷ past) g r k = by (concerns t l.at.node l.entry) refl r (λ q. none_called head past g.1 q k)
    where
      P : List Line
      P = only t past

      None_ : List Line → Type 0
      None_ p = is_called t k (printed p) ≡ false

      serving : IsServing head.osts P → IsRecovering head.osts P → ⊥
      serving s q = true≢false (sym (eq-eqb (closed_of P) (server_of head.osts P).boot s.closed) ∙ q)

      booted : (v : Bool) → v ≡ true → unwrap_or (or_else (if v then Some false else None) (newest (calls_back t k) (printed past))) false
          ≡ false
      booted true e = refl
      booted false e = absurd (cc)

      own : (node : Node) (e : Entry) → EntryOf head P (turn l.at.stamp node) node e → concerns t node e ≡ true
          → IsRecovering head.osts (line (turn l.at.stamp node) e ∷ P) → (IsRecovering head.osts P → None_ past)
          → None_ (line (turn l.at.stamp node) e ∷ past)
      own (Target u) (Block called) ok c r h = absurd (serving (calls_ok head.osts P u called ok).serves r)
      own (Target u) (Boot b disk) ok c r h = booted (nat_eq u t) (flip u t ∙ c)
      own (Target u) (Close o) ok c r h = absurd (closed_now head P l.at.stamp u o ok r)
      own (Client d) (Block called) ok c r h = absurd ok
      own (Client d) (Boot b disk) ok c r h = absurd ok
      own (Client d) e ok c r h = h r
      own (Target u) e ok c r h = h r

      off : (node : Node) (e : Entry) → concerns t node e ≡ false → None_ past → None_ (line (turn l.at.stamp node) e ∷ past)
      off (Target u) (Block called) c h = subst (λ (v : Bool). unwrap_or
          (or_else (if v && nat_eq called.cookie.0 k then Some true else None) (newest (calls_back t k) (printed past))) false ≡ false)
          (sym (flip u t ∙ c)) h
      off (Target u) (Boot b disk) c h = subst (λ (v : Bool). unwrap_or
          (or_else (if v then Some false else None) (newest (calls_back t k) (printed past))) false ≡ false) (sym (flip u t ∙ c)) h
      off (Client d) (Block called) c h = h
      off (Client d) (Boot b disk) c h = h
      off (Client d) e c h = h
      off (Target u) e c h = h

      by : (b : Bool) → concerns t l.at.node l.entry ≡ b → IsRecovering head.osts (if b then l ∷ P else P)
          → (IsRecovering head.osts P → None_ past) → None_ (l ∷ past)
      by true c r h = own l.at.node l.entry (g.0.of t c) c r h
      by false c r h = off l.at.node l.entry c (h r)

  -- a lock of that cookie was given
  called_gave : (head : Head) (past : List Line) → Grown head past → (k : ℕ) → is_called t k (printed past) ≡ true → (d : Deed) × (l : Lock)
      × Gave (only t past) d l × (l.cookie.0 ≡ k)
  called_gave head [] g k e = absurd (cc)
  called_gave head (x ∷ past) g k e = by x.at.node x.entry g.0 e (λ q. more (called_gave head past g.1 k q))
    where
      Gives : List Line → Type 0
      Gives p = (d : Deed) × (l : Lock) × Gave (only t p) d l × (l.cookie.0 ≡ k)

      more : Gives past → Gives (x ∷ past)
      more (d, l, i, q) = (d, l, gave_more t x past d l i, q)

      blocked : (u : ℕ) (called : Called) (b : Bool) → (nat_eq u t && nat_eq called.cookie.0 k) ≡ b
          → (nat_eq t u ≡ true → BlocksOk head.osts (only t past) u called)
          → unwrap_or (or_else (if b then Some true else None) (newest (calls_back t k) (printed past))) false ≡ true
          → (is_called t k (printed past) ≡ true → Gives (x ∷ past)) → Gives (x ∷ past)
      blocked u called false q ok e h = h e
      blocked u called true q ok e h =
          let p = and_parts (nat_eq u t) (nat_eq called.cookie.0 k) q in
          let back = calls_ok head.osts (only t past) u called (ok (sym (flip u t) ∙ p.0)) in
          let gave = ((holds head past g.1).at t).locks.granted back.lock back.granted in (
            gave.0,
            back.lock,
            gave_more t x past gave.0 back.lock gave.1,
            ap (λ (c : Cookie). c.0) (sym back.of_cookie)
                ∙ eqb-true called.cookie.0 k p.1,
          )

      booted : (b : Bool) → unwrap_or (or_else (if b then Some false else None) (newest (calls_back t k) (printed past))) false ≡ true
          → (is_called t k (printed past) ≡ true → Gives (x ∷ past)) → Gives (x ∷ past)
      booted true e h = absurd (cc)
      booted false e h = h e

      by : (node : Node) (y : Entry) → Allowed head past (turn x.at.stamp node) y
          → is_called t k (printed (line (turn x.at.stamp node) y ∷ past)) ≡ true → (is_called t k (printed past) ≡ true → Gives (x ∷ past))
          → Gives (x ∷ past)
      by (Client c) (Block called) a e h = absurd a.ok
      by (Target u) (Block called) a e h = blocked u called (nat_eq u t && nat_eq called.cookie.0 k) refl (λ own. a.of t own) e h
      by (Client c) (Boot b disk) a e h = absurd a.ok
      by (Target u) (Boot b disk) a e h = booted (nat_eq u t) e h
      by (Client c) y a e h = h e
      by (Target u) y a e h = h e

  module _ (head : Head) (past : List Line) (g : Grown head past) where
    low : (l : Lock) → In l (server_of head.osts (only t past)).granted → l.cookie.0 ≤ cookie_at t past
    low l i =
        let le = (sound_of head (only t past) (grown_of head t past g)).story.waits_so.granted_low l i in
        let e = cookie_is head.osts t past in
        omega (arith, le, e)

    -- two granted locks of one cookie are one
    granted_one : (k l : Lock) → In k (server_of head.osts (only t past)).granted → In l (server_of head.osts (only t past)).granted
        → k.cookie.0 ≡ l.cookie.0 → k ≡ l
    granted_one k l i j q =
        let h = ((holds head past g).at t).locks in
        let d = h.granted k i in
        let e = h.granted l j in
        (h.once d.0 e.0 k l d.1 e.1 (ap numbered q)).1

    called_act : (stamp : Stamp) (u : ℕ) (d : Deed) → Allowed head past (turn stamp (Target u)) (Act d) → AllCalled past
        → AllCalled (line (turn stamp (Target u)) (Act d) ∷ past)
    called_act stamp u d a h k e = (
      cond_both (nat_eq t u) (greatest_cookie (cookie_at t past) d.reply.locks) (cookie_at t past) (λ (v : ℕ). k ≤ v)
          (λ own. let le = (h k e).0 in let up = greatest_least (cookie_at t past) d.reply.locks in omega arith) (λ own. (h k e).0),
      λ l. cond_both (nat_eq t u) (with_locks d.reply.locks (granted_at t past)) (granted_at t past)
          (λ (v : List Lock). In l v → l.cookie.0 ≡ k → Among l (called_at t past))
          (λ own i q. ⊎_elim (λ (j : In l d.reply.locks). absurd (new own l j q)) (λ (j : In l (granted_at t past)). (h k e).1 l j q)
          (withs_in d.reply.locks l (granted_at t past) i))
          (λ own i q. (h k e).1 l i q),
    )
      where
        new : nat_eq t u ≡ true → (l : Lock) → In l d.reply.locks → l.cookie.0 ≡ k → ⊥
        new own l j q =
            let ok = acted head.osts (only t past) (turn stamp (Target u)) u d (a.of t own) in
            let v = server_of head.osts (only t past) in
            let lt = from_high v.cookie ok.request.who ok.wants l (subst (λ (ls : List Lock). In l ls) ok.locks j) in
            let le = (h k e).0 in
            let same = cookie_is head.osts t past in
            omega (arith, lt, le, same, q)

    called_wait : (stamp : Stamp) (u : ℕ) (lock : Lock) (d : Deed) → AllCalled past
        → AllCalled (line (turn stamp (Target u)) (Wait lock d) ∷ past)
    called_wait stamp u lock d h k e = (
      cond_both (nat_eq t u) (max (cookie_at t past) lock.cookie.0) (cookie_at t past) (λ (v : ℕ). k ≤ v)
          (λ own. let le = (h k e).0 in omega (arith, le)) (λ own. (h k e).0),
      (h k e).1,
    )

    -- the metadata target only shows what was granted; at another one the lock is new, or waited, and wasn't granted before
    called_grant : (stamp : Stamp) (u : ℕ) (lock : Lock) (by : Option Deed) → Allowed head past (turn stamp (Target u)) (Grant lock by)
        → AllCalled past → AllCalled (line (turn stamp (Target u)) (Grant lock by) ∷ past)
    called_grant stamp u lock asked a h k e = (
      cond_both (nat_eq t u) (max (cookie_at t past) lock.cookie.0) (cookie_at t past) (λ (v : ℕ). k ≤ v)
          (λ own. let le = (h k e).0 in omega (arith, le)) (λ own. (h k e).0),
      λ l. cond_both (nat_eq t u) (with_lock lock (granted_at t past)) (granted_at t past)
          (λ (v : List Lock). In l v → l.cookie.0 ≡ k → Among l (called_at t past))
          (λ own i q. ⊎_elim (λ (s : lock ≡ l). subst (λ (x : Lock). Among x (called_at t past)) s
          (granted_now asked (a.of t own) (ap (λ (x : Lock). x.cookie.0) s ∙ q))) (λ (j : In l (granted_at t past)). (h k e).1 l j q)
          (with_in lock l (granted_at t past) i))
          (λ own i q. (h k e).1 l i q),
    )
      where
        at : At
        at = turn stamp (Target u)

        granted_now : (o : Option Deed) → EntryOf head (only t past) at (Target u) (Grant lock o) → lock.cookie.0 ≡ k
            → Among lock (called_at t past)
        granted_now (Some f) (inl ok) q =
            (h k e).1 lock (subst (λ (ls : List Lock). In lock ls)
            (ap (with_lock lock) (granted_is head.osts t past) ∙ ok.1.granted ∙ sym (granted_is head.osts t past)) with_it) q
          where
            with_it : In lock (with_lock lock (granted_at t past))
            with_it = with_new lock (granted_at t past)
        granted_now (Some f) (inr ok) q =
            let next : lock.cookie.0 ≡ (server_of head.osts (only t past)).cookie + 1 = ap (λ (l : Lock). l.cookie.0) ok.1.of_lock in
            let le = (h k e).0 in
            let same = cookie_is head.osts t past in
            absurd (omega (arith, next, le, same, q))
        granted_now None ok q =
            let p = ok.1 in
            let gave = called_gave head past g k e in
            let among = (on_resource lock.resource p.asked (server_of head.osts (only t past)).queued
            (subst (λ (ls : List Lock). In p.asked ls) (sym p.queue) (in_right p.asked p.ahead (p.asked ∷ p.later) (inl refl)))).0 in
            let cookie : lock.cookie.0 ≡ p.asked.cookie.0 = ap (λ (l : Lock). l.cookie.0) p.of_lock in
            absurd ((((holds head past g).at t).locks.waits p.asked among).new gave.0 gave.1 gave.2 (gave.3 ∙ sym q ∙ cookie))

    called_block : (stamp : Stamp) (u : ℕ) (called : Called) → Allowed head past (turn stamp (Target u)) (Block called) → AllCalled past
        → AllCalled (line (turn stamp (Target u)) (Block called) ∷ past)
    called_block stamp u called a h k e = by (nat_eq u t && nat_eq called.cookie.0 k) refl e
      where
        still : (l : Lock) → Among l (called_at t past) → Among l (called_at t (line (turn stamp (Target u)) (Block called) ∷ past))
        still l m =
            cond_both (nat_eq t u) (called_at t past ++ called ∷ []) (called_at t past) (λ (v : List Called). Among l v)
            (λ own. (m.0, in_left m.0 (called_at t past) (called ∷ []) m.1, m.2, m.3)) (λ own. m)

        by : (b : Bool) → (nat_eq u t && nat_eq called.cookie.0 k) ≡ b
            → unwrap_or (or_else (if b then Some true else None) (newest (calls_back t k) (printed past))) false ≡ true
            → CalledOnce (line (turn stamp (Target u)) (Block called) ∷ past) k
        by false q f = ((h k f).0, λ l i s. still l ((h k f).1 l i s))
        by true q f =
            let p = and_parts (nat_eq u t) (nat_eq called.cookie.0 k) q in
            let own : nat_eq t u ≡ true = sym (flip u t) ∙ p.0 in
            let ok = calls_ok head.osts (only t past) u called (a.of t own) in
            let same : called.cookie.0 ≡ k = eqb-true called.cookie.0 k p.1 in
            let of : called.cookie.0 ≡ ok.lock.cookie.0 = ap (λ (v : Cookie). v.0) ok.of_cookie in (
              let le = low ok.lock ok.granted in omega (arith, le, of, same),
              λ l i s.
                  let one : ok.lock ≡ l = granted_one ok.lock l ok.granted
                  (subst (λ (v : List Lock). In l v) (granted_is head.osts t past) i) (sym of ∙ same ∙ sym s) in
                  subst (λ (v : List Called). Among l v) (sym (cond-true (nat_eq t u) (called_at t past ++ called ∷ []) (called_at t past)
                  own)) (
                    called,
                    in_right called (called_at t past) (called ∷ []) (inl refl),
                    same ∙ sym s,
                    ok.of_life
                        ∙ ap (λ (v : Lock). v.ask.who) one,
                  ),
            )

    called_release : (stamp : Stamp) (u : ℕ) (lock : Lock) → AllCalled past → AllCalled (line (turn stamp (Target u)) (Release lock) ∷ past)
    called_release stamp u lock h k e = ((h k e).0, λ l. still l (nat_eq t u) ((h k e).1 l))
      where
        still : (l : Lock) (b : Bool) → (In l (granted_at t past) → l.cookie.0 ≡ k → Among l (called_at t past))
            → In l (if b then without_lock lock (granted_at t past) else granted_at t past) → l.cookie.0 ≡ k
            → Among l (if b then called_without lock (called_at t past) else called_at t past)
        still l false m i q = m i q
        still l true m i q =
            let j = in_filter (λ (x : Lock). not (nat_eq x.cookie.0 lock.cookie.0)) l (granted_at t past) i in
            let r = m j.0 q in (
              r.0,
              in_filtered (λ (c : Called). not (nat_eq c.cookie.0 lock.cookie.0)) r.0 (called_at t past) r.1
                  (subst (λ (v : ℕ). not (nat_eq v lock.cookie.0) ≡ true) (sym r.2) j.1),
              r.2,
              r.3,
            )

    -- what a life was called back for goes with its locks
    called_evict : (stamp : Stamp) (u : ℕ) (who : Who) (cause : Cause) → AllCalled past
        → AllCalled (line (turn stamp (Target u)) (Evict who cause) ∷ past)
    called_evict stamp u who cause h k e = ((h k e).0, λ l. gone l (nat_eq t u) ((h k e).1 l))
      where
        its : Who → Bool
        its w = not (is_life w (who ∷ []))

        gone : (l : Lock) (b : Bool) → (In l (granted_at t past) → l.cookie.0 ≡ k → Among l (called_at t past))
            → In l (if b then locks_without (who ∷ []) (granted_at t past) else granted_at t past) → l.cookie.0 ≡ k
            → Among l (if b then filter (λ (c : Called). its c.who) (called_at t past) else called_at t past)
        gone l false m i q = m i q
        gone l true m i q =
            let j = in_filter (λ (x : Lock). its x.ask.who) l (granted_at t past) i in
            let r = m j.0 q in
            (r.0, in_filtered (λ (c : Called). its c.who) r.0 (called_at t past) r.1 (ap its r.3 ∙ j.1), r.2, r.3)

  keeps_called : (head : Head) (past : List Line) (stamp : Stamp) (node : Node) (e : Entry) → Allowed head past (turn stamp node) e
      → Grown head past → AllCalled past → AllCalled (line (turn stamp node) e ∷ past)
  keeps_called head past stamp (Client c) (Act d) a g h k e = absurd a.ok
  keeps_called head past stamp (Target u) (Act d) a g h k e = called_act head past g stamp u d a h k e
  keeps_called head past stamp (Client c) (Grant lock asked) a g h k e = absurd a.ok
  keeps_called head past stamp (Target u) (Grant lock asked) a g h k e = called_grant head past g stamp u lock asked a h k e
  keeps_called head past stamp (Client c) (Wait lock d) a g h k e = absurd a.ok
  keeps_called head past stamp (Target u) (Wait lock d) a g h k e = called_wait head past g stamp u lock d h k e
  keeps_called head past stamp (Client c) (Block called) a g h k e = absurd a.ok
  keeps_called head past stamp (Target u) (Block called) a g h k e = called_block head past g stamp u called a h k e
  keeps_called head past stamp (Client c) (Release lock) a g h k e = absurd a.ok
  keeps_called head past stamp (Target u) (Release lock) a g h k e = called_release head past g stamp u lock h k e
  keeps_called head past stamp (Client c) (Evict who cause) a g h k e = absurd a.ok
  keeps_called head past stamp (Target u) (Evict who cause) a g h k e = called_evict head past g stamp u who cause h k e
  keeps_called head past stamp (Client c) (Boot b disk) a g h k e = absurd a.ok
  keeps_called head past stamp (Target u) (Boot b disk) a g h k e = booted (nat_eq u t) (nat_eq t u) (flip u t) e
    where
      booted : (v w : Bool) → v ≡ w → unwrap_or (or_else (if v then Some false else None) (newest (calls_back t k) (printed past))) false
          ≡ true
          → (k ≤ (if w then first_of b else cookie_at t past)) × ((l : Lock) → In l (granted_at t past) → l.cookie.0 ≡ k
          → Among l (called_at t past))
      booted true w q x = absurd (cc)
      booted false true q x = absurd (cc)
      booted false false q x = h k x
  keeps_called head past stamp (Client c) (Close o) a g h k e = absurd a.ok
  keeps_called head past stamp (Target u) (Close o) a g h k e = by (nat_eq t u) refl
    where
      by : (v : Bool) → nat_eq t u ≡ v → (k ≤ cookie_at t past)
          × ((l : Lock) → In l (if v then o.locks else granted_at t past) → l.cookie.0 ≡ k → Among l (if v then [] else called_at t past))
      by true q = absurd (true≢false (sym e ∙ none_called head past g (a.of t q).recovers k))
      by false q = h k e
  keeps_called head past stamp node _ a g h k e = h k e

  all_called : (head : Head) (past : List Line) → Grown head past → AllCalled past
  all_called head [] g k e = absurd (cc)
  all_called head (l ∷ past) g k e = keeps_called head past l.at.stamp l.at.node l.entry g.0 g.1 (all_called head past g.1) k e

-- ---- what is called back

-- a request that waits would write what it guards
names_waited : (head : Head) (past : List Line) (called : Called) → Grown head past → (ok : BlockOk head.osts (only 0 past) called)
    → is_waited_for head.osts (printed past) 0 ok.lock ≡ true
names_waited head past called g ok =
    any_passes (writes_guarded head.osts (contents head.osts (printed past)) number lock) r (unanswered 0 (printed past))
    (all_unanswered 0 head past g ok.serves r (subst (λ (v : List RequestOf). In r v) (sym (waiting_is head.osts 0 past)) ok.waits)) guarded
  where
    v : Server
    v = server_of head.osts (only 0 past)

    lock : Lock
    lock = ok.lock

    r : RequestOf
    r = ok.request

    number : ℕ
    number = suc (greatest 0 (printed past))

    parts : written_by head.osts v r ≡ writes head.osts v.tree (record { number = record { 0 = number }; who = r.who; op = r.op })
    parts = (number_is_free head.osts v.tree (asked r (next_number v)) (asked r (record { 0 = number })) refl (inl refl)).writes

    guarded : writes_guarded head.osts (contents head.osts (printed past)) number lock r ≡ true
    guarded =
        let o : Operation = record { number = record { 0 = number }; who = r.who; op = r.op } in
        let same : writes head.osts (contents head.osts (printed past)) o ≡ writes head.osts v.tree o =
        (contents_alike head past g (all_asked head past g) o).writes
        ∙ ap (λ (s : Server). writes head.osts s.tree o) (server_is head.osts 0 past)
        in
        subst (λ (ps : List Part). list_any (guards lock) ps ≡ true) (parts ∙ sym same) ok.for_it

-- a lock that waits conflicts with it
object_waited : (head : Head) (past : List Line) (t : ℕ) (called : Called) → Grown head past → (ok : WayOk head.osts (only t past) called)
    → 0 < t → is_waited_for head.osts (printed past) t ok.lock ≡ true
object_waited head past zero called g ok high = absurd (omega (arith, high))
object_waited head past (suc u) called g ok high =
    any_passes (conflict ok.lock.ask) ok.waiting.ask (asks (on ok.lock.resource (waiting (suc u) (printed past))))
    (in_mapped (λ (l : Lock). l.ask) ok.waiting (on ok.lock.resource (waiting (suc u) (printed past)))
    (among_on ok.lock.resource ok.waiting (waiting (suc u) (printed past))
    (subst (λ (ls : List Lock). In ok.waiting ls) (sym (waits_printed head (suc u) past g ok.serves)) ok.queued) ok.on))
    (conflict_symmetric ok.lock.ask ok.waiting.ask ∙ ok.conflicts)

block_caused : (head : Head) (past : List Line) (stamp : Stamp) (t : ℕ) (called : Called)
    → Allowed head past (turn stamp (Target t)) (Block called) → Grown head past
    → BlockBy head.osts (printed past) (Target t) called.cookie.0
block_caused head past stamp t called a g = record { new = new; cause = cause }
  where
    v : Server
    v = server_of head.osts (only t past)

    none : NoneLeft head t past
    none = nothing_left head (only t past) (turn stamp (Target t)) (Block called) (a.shows t (self t)) (λ s. s)

    ok : CallsOk head.osts (only t past) called
    ok = calls_ok head.osts (only t past) t called (a.of t (self t))

    same : called.cookie.0 ≡ ok.lock.cookie.0
    same = ap (λ (c : Cookie). c.0) ok.of_cookie

    new : is_called t called.cookie.0 (printed past) ≡ false
    new = by (is_called t called.cookie.0 (printed past)) refl
      where
        by : (b : Bool) → is_called t called.cookie.0 (printed past) ≡ b → b ≡ false
        by false e = refl
        by true e =
            let m = (all_called t head past g called.cookie.0 e).1 ok.lock
            (subst (λ (ls : List Lock). In ok.lock ls) (sym (granted_is head.osts t past)) ok.granted) (sym same) in
            let before : rows.is_called ok.lock.cookie (called_at t past) ≡ true =
            any_passes (λ (c : Called). nat_eq c.cookie.0 ok.lock.cookie.0) m.0 (called_at t past) m.1
            (eq-eqb m.0.cookie.0 ok.lock.cookie.0 m.2) in
            absurd (clash (rows.is_called ok.lock.cookie v.called)
            (subst (λ (cs : List Called). rows.is_called ok.lock.cookie cs ≡ true) (called_is head.osts t past) before) ok.new)

    -- the lock that is granted under that cookie
    found : (l : Lock) → IsServing head.osts (only t past) → In l v.granted → called.cookie ≡ l.cookie
        → find (has_cookie called.cookie.0) (granted t (printed past)) ≡ Some l
    found l serves i of =
        subst (λ (c : Cookie). find (has_cookie c.0) (granted t (printed past)) ≡ Some l) (sym of)
        (granted_found t head past l g (λ d did. owed past (turn stamp (Target t)) d (Block called) did a.owes)
        (granted_shown t head past l g serves none i))

    cause : has_cause head.osts (printed past) t (find (has_cookie called.cookie.0) (granted t (printed past))) ≡ true
    cause = by (a.of t (self t))
      where
        by : BlocksOk head.osts (only t past) t called → has_cause head.osts (printed past) t
            (find (has_cookie called.cookie.0) (granted t (printed past))) ≡ true
        by (inl k) =
            subst (λ (o : Option Lock). has_cause head.osts (printed past) t o ≡ true)
            (sym (found k.1.lock k.1.serves k.1.granted k.1.of_cookie))
            (first t k.0 k.1)
          where
            first : (u : ℕ) → u ≡ 0 → (b : BlockOk head.osts (only u past) called) → is_waited_for head.osts (printed past) u b.lock ≡ true
            first zero e b = names_waited head past called g b
            first (suc u) e b = absurd (cc)
        by (inr k) = subst (λ (o : Option Lock). has_cause head.osts (printed past) t o ≡ true)
            (sym (found k.1.lock k.1.serves k.1.granted k.1.of_cookie)) (object_waited head past t called g k.1 k.0)

blocks_at : (head : Head) (past : List Line) (l : Line) (later : List PrintedLine) → Allowed head past l.at l.entry → Grown head past
    → Keeps (Blocks head.osts) past l later
blocks_at head past l later a g = by l.at.node l.entry a
  where
    by : (node : Node) (e : Entry) → Allowed head past (turn l.at.stamp node) e
        → Says (Blocks head.osts) past (turn l.at.stamp node) later e
    by (Client c) (Block called) k = absurd k.ok
    by (Target t) (Block called) k = block_caused head past l.at.stamp t called k g
    by _ _ k = tt

pub blocks : (head : Head) (past : List Line) → Grown head past → Holds (Blocks head.osts) (printed past)
blocks head past g = holds_before head (Blocks head.osts) Nothing (λ l past k. k) (λ past l later a g k. blocks_at head past l later a g)
    past [] g tt
