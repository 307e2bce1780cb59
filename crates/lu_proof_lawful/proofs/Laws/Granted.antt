-- The granted locks that a printed past shows: each was given, and each lock that a target has granted and whose release it hasn't shown
-- is among them, but for those on names of what was just done.
use Rattle.std.proofs.Common.{◌≡◌, ℕ, Bool, true, false, List, [], ◌∷◌, ◌⊎◌, inl, inr, ⊎_elim, Some, None, refl, sym, subst, ap, ◌∙◌}
use Rattle.std.specs.Prelude.{nat_eq, not, ◌&&◌, if◌then◌else◌}
use Rattle.std.proofs.lemmas.Bool.{and_parts, cond_both, cond-true, cond-false, eqb-true, true≢false}
use Rattle.lu_base.specs.declared.ids.At.{At}
use Rattle.lu_base.specs.declared.ids.Node.{Node}
use Rattle.lu_base.specs.declared.ids.Node.TheVariants.{Client, Target}
use Rattle.lu_base.specs.declared.ids.Stamp.{Stamp}
use Rattle.lu_base.specs.declared.locks.Lock.{Lock}
use Rattle.lu_msg.specs.declared.messages.Message.TheVariants as message
use Rattle.lu_spec_machine.specs.Tree.{same_life}
use Rattle.lu_spec_entries.specs.Carried.{Deed}
use Rattle.lu_spec_entries.specs.Words.{Entry, Send, Act, Grant, Release, Crash, Close, Restore, Line, line, is_target}
use Rattle.lu_spec_entries.specs.Concerns.{concerns, only}
use Rattle.lu_spec_entries.specs.Printed.{printed}
use Rattle.lu_spec_target.specs.Locks.{with_lock, with_locks, without_lock}
use Rattle.lu_proof_lawful.specs.Covered.TargetStates.{server_of, shown_of}
use Rattle.lu_proof_lawful.specs.Covered.TargetCloses.{closing_of}
use Rattle.lu_proof_lawful.specs.Covered.Heads.{Head}
use Rattle.lu_spec_laws.specs.Words.Pasts.{or_else}
use Rattle.lu_spec_laws.specs.Words.Queues.{has_cookie, without, granted}
use Rattle.lu_spec_laws.specs.Words.Held.{is_given, given}
use Rattle.lu_proof_lawful.proofs.Preconditions.Guards.{In, Did, Shows, Owes, EntryOk}
use Rattle.lu_proof_lawful.proofs.Preconditions.StoryGuards.{IsServing}
use Rattle.lu_proof_lawful.proofs.Preconditions.Grown.{Allowed, Grown}
use Rattle.lu_proof_lawful.proofs.Preconditions.Lists.{self, in_filter, in_filtered, life_self}
use Rattle.lu_proof_lawful.proofs.Invariants.Groups.{turn}
use Rattle.lu_proof_lawful.proofs.Invariants.TargetGroups.{Acted}
use Rattle.lu_proof_lawful.proofs.Invariants.LockLists.{with_in, withs_in}
use Rattle.lu_proof_lawful.proofs.Invariants.All.{holds}
use Rattle.lu_proof_lawful.proofs.Laws.Printed.{flip}
use Rattle.lu_proof_lawful.proofs.Laws.CloseSlots.{NoneLeft}
use Rattle.lu_proof_lawful.proofs.Laws.Story.{target_is}
use Rattle.lu_proof_lawful.proofs.Laws.Given.{Pays, owed, did_one, entered_not_did, names_granted, locks_first, Showed, all_given}

-- ---- what is granted was shown

-- what a close restores was given, and its line showed it
pub restored_showed : (head : Head) (past : List Line) (stamp : Stamp) (t : ℕ) (lock : Lock)
    → Allowed head past (turn stamp (Target t)) (Restore lock) → Grown head past → Showed t past lock
restored_showed head past stamp t lock a g =
    let gave = ((holds head past g).at t).locks.granted lock (a.of t (self t)).granted in
    ⊎_elim (λ (q : Did past gave.0). absurd (owed past (turn stamp (Target t)) gave.0 (Restore lock) q a.owes))
    (λ (q : Showed t past lock). q) (all_given head past g t gave.0 lock gave.1)

-- ---- at one target

module _ (t : ℕ) where
  pub granted_showed : (head : Head) (past : List Line) (l : Lock) → Grown head past → In l (granted t (printed past)) → Showed t past l
  granted_showed head [] l g i = absurd i
  granted_showed head (x ∷ past) l g i = by x.at.node x.entry g.0 i (granted_showed head past l g.1)
    where
      G : List Lock
      G = granted t (printed past)

      by : (node : Node) (e : Entry) → Allowed head past (turn x.at.stamp node) e
          → In l (granted t (printed (line (turn x.at.stamp node) e ∷ past))) → (In l G → Showed t past l)
          → Showed t (line (turn x.at.stamp node) e ∷ past) l
      by (Client c) (Grant lock asked) a i h = absurd a.ok
      by (Target u) (Grant lock asked) a i h =
          cond_both (nat_eq u t) (lock ∷ G) G (λ (ls : List Lock). In l ls
          → Showed t (line (turn x.at.stamp (Target u)) (Grant lock asked) ∷ past) l)
          (λ e j. ⊎_elim (λ (q : lock ≡ l). inl (ap Target (eqb-true u t e), q)) (λ (q : In l G). inr (h q)) j)
          (λ e j. inr (h j))
          i
      by (Client c) (Release lock) a i h = absurd a.ok
      by (Target u) (Release lock) a i h =
          cond_both (nat_eq u t) (without lock.cookie.0 G) G (λ (ls : List Lock). In l ls → Showed t past l)
          (λ e j. h (in_filter (λ (k : Lock). not (has_cookie lock.cookie.0 k)) l G j).0) (λ e j. h j) i
      by (Client c) Crash a i h = absurd a.ok
      by (Target u) Crash a i h = cond_both (nat_eq u t) [] G (λ (ls : List Lock). In l ls → Showed t past l) (λ e j. absurd j) (λ e j. h j)
          i
      by (Client c) (Restore lock) a i h = absurd a.ok
      by (Target u) (Restore lock) a i h =
          cond_both (nat_eq u t) (lock ∷ G) G (λ (ls : List Lock). In l ls → Showed t past l)
          (λ e j. ⊎_elim
          (λ (q : lock ≡ l). subst (λ (k : Lock). Showed t past k) q
          (restored_showed head past x.at.stamp t lock (subst (λ (v : ℕ). Allowed head past (turn x.at.stamp (Target v)) (Restore lock))
          (eqb-true u t e) a) g.1))
          (λ (q : In l G). h q) j)
          (λ e j. h j)
          i
      by node e a i h = h i

  -- ---- what the target has granted is

  -- those that a line of the target has shown since its last crash or close, and whose release isn't shown, over the whole past
  abbrev pub shown_at : List Line → List Lock
  shown_at [] = []
  shown_at (l ∷ past) =
      elim l.entry [
        | Act d ↦ if is_target t l.at.node then with_locks d.reply.locks (shown_at past) else shown_at past
        | Grant lock asked ↦ if is_target t l.at.node then with_lock lock (shown_at past) else shown_at past
        | Release lock ↦ if is_target t l.at.node then without_lock lock (shown_at past) else shown_at past
        | Crash ↦ if is_target t l.at.node then [] else shown_at past
        | Close o ↦ if is_target t l.at.node then [] else shown_at past
        | Restore lock ↦ if is_target t l.at.node then with_lock lock (shown_at past) else shown_at past
        | _ ↦ shown_at past
      ]

  pub shown_is : (past : List Line) → shown_at past ≡ shown_of (only t past)
  shown_is [] = refl
  shown_is (l ∷ past) = by l.at.node l.entry (shown_is past)
    where
      P : List Line
      P = only t past

      quiet : (node : Node) (e : Entry) (b : Bool) → shown_of (line (turn l.at.stamp node) e ∷ P) ≡ shown_of P → shown_at past ≡ shown_of P
          → shown_at past ≡ shown_of (if b then line (turn l.at.stamp node) e ∷ P else P)
      quiet node e true q h = h ∙ sym q
      quiet node e false q h = h

      own : (u : ℕ) (e : Entry) (f : List Lock → List Lock) (b : Bool) → shown_of (line (turn l.at.stamp (Target u)) e ∷ P) ≡ f (shown_of P)
          → shown_at past ≡ shown_of P
          → (if b then f (shown_at past) else shown_at past) ≡ shown_of (if b then line (turn l.at.stamp (Target u)) e ∷ P else P)
      own u e f true q h = ap f h ∙ sym q
      own u e f false q h = h

      by : (node : Node) (e : Entry) → shown_at past ≡ shown_of P → shown_at (line (turn l.at.stamp node) e ∷ past)
          ≡ shown_of (if concerns t node e then line (turn l.at.stamp node) e ∷ P else P)
      by (Client c) (Act d) h = h
      by (Target u) (Act d) h = own u (Act d) (with_locks d.reply.locks) (nat_eq t u) refl h
      by (Client c) (Grant lock asked) h = h
      by (Target u) (Grant lock asked) h = own u (Grant lock asked) (with_lock lock) (nat_eq t u) refl h
      by (Client c) (Release lock) h = h
      by (Target u) (Release lock) h = own u (Release lock) (without_lock lock) (nat_eq t u) refl h
      by (Client c) Crash h = h
      by (Target u) Crash h = own u Crash (λ (ls : List Lock). []) (nat_eq t u) refl h
      by (Client c) (Close o) h = h
      by (Target u) (Close o) h = own u (Close o) (λ (ls : List Lock). []) (nat_eq t u) refl h
      by (Client c) (Restore lock) h = h
      by (Target u) (Restore lock) h = own u (Restore lock) (with_lock lock) (nat_eq t u) refl h
      by (Client c) e h = quiet (Client c) e (concerns t (Client c) e) refl h
      by (Target u) e h = quiet (Target u) e (concerns t (Target u) e) refl h

  -- a lock on names of what was just done
  abbrev pub JustGave : List Line → Lock → Type 0
  JustGave past l = (d : Deed) × Did past d × (t ≡ 0) × In l d.reply.locks

  abbrev IsGranted : List Line → Lock → Type 0
  IsGranted past l = In l (granted t (printed past)) ⊎ JustGave past l

  abbrev pub AllGranted : List Line → Type 0
  AllGranted past = (l : Lock) → In l (shown_at past) → IsGranted past l

  shows_granted : (head : Head) (past : List Line) (d : Deed) (l : Lock) → Grown head past → t ≡ 0 → Did past d → In l d.reply.locks
      → Shows past l → In l (granted t (printed past))
  shows_granted head [] d l g z i j s = absurd s
  shows_granted head (x ∷ past) d l g z i j s = by x.at.node x.entry g.0 i s (λ q. shows_granted head past d l g.1 z q j)
    where
      G : List Lock
      G = granted t (printed past)

      by : (node : Node) (e : Entry) → Allowed head past (turn x.at.stamp node) e → Did (line (turn x.at.stamp node) e ∷ past) d
          → Shows (line (turn x.at.stamp node) e ∷ past) l → (Did past d → Shows past l → In l G)
          → In l (granted t (printed (line (turn x.at.stamp node) e ∷ past)))
      by (Client c) (Grant lock asked) a i s h = absurd a.ok
      by (Target u) (Grant lock None) a i s h = absurd (cc)
      by (Target u) (Grant lock (Some f)) a i s h =
          let ok = names_granted head past x.at.stamp u lock f d l a i j in
          subst (λ (ls : List Lock). In l ls) (sym (cond-true (nat_eq u t) (lock ∷ G) G
          (subst (λ (v : ℕ). nat_eq u v ≡ true) (ok.0 ∙ sym z) (self u))))
          (⊎_elim (λ (q : lock ≡ l). inl q) (λ (q : Shows past l). inr (h ok.1 q)) s)
      by _ e a i s h = absurd s

  -- where nothing was just done
  settles : (past : List Line) (at : At) (e : Entry) (l : Lock) → Owes past at e → ((d : Deed) → Pays at d e → ⊥) → IsGranted past l
      → In l (granted t (printed past))
  settles past at e l owes none (inl i) = i
  settles past at e l owes none (inr j) = absurd (none j.0 (owed past at j.0 e j.1 owes))

  -- a lock is shown, and then those of what was done are the same ones
  granted_line : (head : Head) (past : List Line) (stamp : Stamp) (u : ℕ) (lock : Lock) (f : Deed)
      → EntryOk past (turn stamp (Target u)) (Target u) (Grant lock (Some f))
      → AllGranted past → AllGranted (line (turn stamp (Target u)) (Grant lock (Some f)) ∷ past)
  granted_line head past stamp u lock f ok h l i =
      cond_both (nat_eq t u) (with_lock lock (shown_at past)) (shown_at past) (λ (ls : List Lock). In l ls → IsGranted new l)
      (λ e j. ⊎_elim
      (λ (q : lock ≡ l). inl (subst (λ (ls : List Lock). In l ls) (sym (cond-true (nat_eq u t) (lock ∷ G) G (flip u t ∙ e))) (inl q)))
      (λ (q : In l (shown_at past)). more (h l q))
      (with_in lock l (shown_at past) j))
      (λ e j. more (h l j))
      i
    where
      G : List Lock
      G = granted t (printed past)

      new : List Line
      new = line (turn stamp (Target u)) (Grant lock (Some f)) ∷ past

      of : (d : Deed) → Did past d → EntryOk past (turn stamp (Target u)) (Target u) (Grant lock (Some f)) → Did new d
      of d q (inl ok) = ap (λ (v : Deed). Some v) (did_one past f d ok.1 q)
      of d q (inr ok) = absurd (entered_not_did past (turn stamp (Target u)) f d ok.1 q)

      more : IsGranted past l → IsGranted new l
      more (inl q) = inl (cond_both (nat_eq u t) (lock ∷ G) G (λ (ls : List Lock). In l ls) (λ e. inr q) (λ e. q))
      more (inr q) = inr (q.0, of q.0 q.1 ok, q.2, q.3)

  keeps_granted : (head : Head) (past : List Line) (stamp : Stamp) (node : Node) (e : Entry) → Allowed head past (turn stamp node) e
      → Grown head past → AllGranted past → AllGranted (line (turn stamp node) e ∷ past)
  keeps_granted head past stamp (Client c) (Act d) a g h l i = absurd a.ok
  keeps_granted head past stamp (Target u) (Act d) a g h l i =
      cond_both (nat_eq t u) (with_locks d.reply.locks (shown_at past)) (shown_at past)
      (λ (ls : List Lock). In l ls → IsGranted (line (turn stamp (Target u)) (Act d) ∷ past) l)
      (λ e j. ⊎_elim (λ (q : In l d.reply.locks). inr (d, refl, first e q, q)) (λ (q : In l (shown_at past)). inl (old q))
      (withs_in d.reply.locks l (shown_at past) j))
      (λ e j. inl (old j))
      i
    where
      old : In l (shown_at past) → In l (granted t (printed past))
      old q = settles past (turn stamp (Target u)) (Act d) l a.owes (λ f w. w) (h l q)

      first : nat_eq t u ≡ true → In l d.reply.locks → t ≡ 0
      first e q =
          locks_first head (line (turn stamp (Target u)) (Act d) ∷ past) t d l (a, g)
          (subst (λ (b : Bool). Acted (if b then line (turn stamp (Target u)) (Act d) ∷ only t past else only t past) d) (sym e) (inl refl))
          q
  keeps_granted head past stamp (Client c) (Release lock) a g h l i = absurd a.ok
  keeps_granted head past stamp (Target u) (Release lock) a g h l i =
      cond_both (nat_eq t u) (without_lock lock (shown_at past)) (shown_at past) (λ (ls : List Lock). In l ls → IsGranted new l)
      (λ e j. let k = in_filter (λ (x : Lock). not (nat_eq x.cookie.0 lock.cookie.0)) l (shown_at past) j in
      inl (subst (λ (ls : List Lock). In l ls) (sym (cond-true (nat_eq u t) (without lock.cookie.0 G) G (flip u t ∙ e)))
      (in_filtered (λ (x : Lock). not (has_cookie lock.cookie.0 x)) l G (old k.0) k.1)))
      (λ e j. inl (subst (λ (ls : List Lock). In l ls) (sym (cond-false (nat_eq u t) (without lock.cookie.0 G) G (flip u t ∙ e))) (old j)))
      i
    where
      G : List Lock
      G = granted t (printed past)

      new : List Line
      new = line (turn stamp (Target u)) (Release lock) ∷ past

      old : In l (shown_at past) → In l G
      old q = settles past (turn stamp (Target u)) (Release lock) l a.owes (λ f w. w) (h l q)
  keeps_granted head past stamp (Client c) (Grant lock asked) a g h l i = absurd a.ok
  keeps_granted head past stamp (Target u) (Grant lock None) a g h l i =
      cond_both (nat_eq t u) (with_lock lock (shown_at past)) (shown_at past)
      (λ (ls : List Lock). In l ls → IsGranted (line (turn stamp (Target u)) (Grant lock None) ∷ past) l)
      (λ e j. inl (subst (λ (ls : List Lock). In l ls) (sym (cond-true (nat_eq u t) (lock ∷ granted t (printed past))
      (granted t (printed past)) (flip u t ∙ e)))
      (⊎_elim (λ (q : lock ≡ l). inl q) (λ (q : In l (shown_at past)). inr (old q)) (with_in lock l (shown_at past) j))))
      (λ e j. inl (subst (λ (ls : List Lock). In l ls) (sym (cond-false (nat_eq u t) (lock ∷ granted t (printed past))
      (granted t (printed past)) (flip u t ∙ e))) (old j)))
      i
    where
      old : In l (shown_at past) → In l (granted t (printed past))
      old q = settles past (turn stamp (Target u)) (Grant lock None) l a.owes (λ f w. w) (h l q)
  keeps_granted head past stamp (Target u) (Grant lock (Some f)) a g h l i = granted_line head past stamp u lock f a.ok h l i
  keeps_granted head past stamp (Target u) (Send (Client c) (message.Reply r)) a g h l i =
      ⊎_elim (λ (q : In l (granted t (printed past))). inl q) (λ (q : JustGave past l). inl
      (shows_granted head past q.0 l g q.2 q.1 q.3 (a.ok.2 q.0 q.1 l q.3))) (h l i)
  keeps_granted head past stamp (Client b) (Send (Client c) (message.Reply r)) a g h l i = absurd a.ok
  keeps_granted head past stamp (Client c) Crash a g h l i = absurd a.ok
  keeps_granted head past stamp (Target u) Crash a g h l i =
      cond_both (nat_eq t u) [] (shown_at past) (λ (ls : List Lock). In l ls → IsGranted (line (turn stamp (Target u)) Crash ∷ past) l)
      (λ e j. absurd j)
      (λ e j. inl (subst (λ (ls : List Lock). In l ls) (sym (cond-false (nat_eq u t) [] (granted t (printed past)) (flip u t ∙ e)))
      (settles past (turn stamp (Target u)) Crash l a.owes (λ f w. w) (h l j))))
      i
  keeps_granted head past stamp (Client c) (Restore lock) a g h l i = absurd a.ok
  keeps_granted head past stamp (Target u) (Restore lock) a g h l i =
      cond_both (nat_eq t u) (with_lock lock (shown_at past)) (shown_at past)
      (λ (ls : List Lock). In l ls → IsGranted (line (turn stamp (Target u)) (Restore lock) ∷ past) l)
      (λ e j. inl (subst (λ (ls : List Lock). In l ls) (sym (cond-true (nat_eq u t) (lock ∷ granted t (printed past))
      (granted t (printed past)) (flip u t ∙ e)))
      (⊎_elim (λ (q : lock ≡ l). inl q) (λ (q : In l (shown_at past)). inr (old q)) (with_in lock l (shown_at past) j))))
      (λ e j. inl (subst (λ (ls : List Lock). In l ls) (sym (cond-false (nat_eq u t) (lock ∷ granted t (printed past))
      (granted t (printed past)) (flip u t ∙ e))) (old j)))
      i
    where
      old : In l (shown_at past) → In l (granted t (printed past))
      old q = settles past (turn stamp (Target u)) (Restore lock) l a.owes (λ f w. w) (h l q)
  keeps_granted head past stamp (Client c) (Close o) a g h l i = absurd a.ok
  keeps_granted head past stamp (Target u) (Close o) a g h l i =
      cond_both (nat_eq t u) [] (shown_at past) (λ (ls : List Lock). In l ls → IsGranted (line (turn stamp (Target u)) (Close o) ∷ past) l)
      (λ e j. absurd j)
      (λ e j. inl (settles past (turn stamp (Target u)) (Close o) l a.owes (λ f w. w) (h l j)))
      i
  keeps_granted head past stamp node e a g h l i = inl (settles past (turn stamp node) e l a.owes (λ f w. w) (h l i))

  granted_so_far : (head : Head) (past : List Line) → Grown head past → AllGranted past
  granted_so_far head [] g l i = absurd i
  granted_so_far head (x ∷ past) g l i = keeps_granted head past x.at.stamp x.at.node x.entry g.0 g.1 (granted_so_far head past g.1) l i

  -- while the target serves, what it has granted was shown, once a close has none left to show
  pub granted_shown : (head : Head) (past : List Line) (l : Lock) → Grown head past → IsServing head.osts (only t past)
      → NoneLeft head t past → In l (server_of head.osts (only t past)).granted → In l (shown_of (only t past))
  granted_shown head past l g serves none i = ⊎_elim
      (λ (s : In l (shown_of (only t past))). s)
      (λ (c : In (Restore l) (closing_of head.clients (only t past))). absurd (subst (λ (es : List Entry). In (Restore l) es) none c))
      (((holds head past g).at t).locks.shown serves serves.up l i)

  pub all_granted : (head : Head) (past : List Line) → Grown head past → (l : Lock) → In l (shown_of (only t past))
      → In l (granted t (printed past)) ⊎ JustGave past l
  all_granted head past g l i = granted_so_far head past g l (subst (λ (ls : List Lock). In l ls) (sym (shown_is past)) i)

  -- ---- the lock under a cookie

  -- no two locks that were shown have one cookie
  abbrev pub Unique : List Line → Type 0
  Unique past = (k l : Lock) → Showed t past k → Showed t past l → k.cookie.0 ≡ l.cookie.0 → k ≡ l

  given_before : (head : Head) (past : List Line) (l : Lock) → Grown head past
      → ((k : Lock) → Showed t past k → k.cookie.0 ≡ l.cookie.0 → k ≡ l) → Showed t past l → given t l.ask.who l.cookie.0 (printed past)
      ≡ Some l
  given_before head [] l g one s = absurd s
  given_before head (x ∷ past) l g one s = by x.at.node x.entry g.0 one s (given_before head past l g.1)
    where
      Goal : Node → Entry → Type 0
      Goal node e = given t l.ask.who l.cookie.0 (printed (line (turn x.at.stamp node) e ∷ past)) ≡ Some l

      its_own : is_given t l.ask.who l.cookie.0 (Target t) l ≡ true
      its_own = rw (self t, self l.cookie.0, life_self l.ask.who) refl

      shown : (k : Lock) (b : Bool) → is_given t l.ask.who l.cookie.0 (Target t) k ≡ b → (k.cookie.0 ≡ l.cookie.0 → k ≡ l) → (k ≡ l)
          ⊎ (given t l.ask.who l.cookie.0 (printed past) ≡ Some l)
          → or_else (if b then Some k else None) (given t l.ask.who l.cookie.0 (printed past)) ≡ Some l
      shown k true e one s =
          let p = and_parts (nat_eq t t && has_cookie l.cookie.0 k) (same_life k.ask.who l.ask.who) e in
          ap (λ (v : Lock). Some v) (one (eqb-true k.cookie.0 l.cookie.0 (and_parts (nat_eq t t) (has_cookie l.cookie.0 k) p.0).1))
      shown k false e one (inl q) = let f = subst (λ (v : Lock). is_given t l.ask.who l.cookie.0 (Target t) v ≡ false) q e in let w =
          its_own in absurd (cc)
      shown k false e one (inr i) = i

      apart : (u : ℕ) → nat_eq u t ≡ false → u ≡ t → ⊥
      apart u e q = true≢false (sym (subst (λ (v : ℕ). nat_eq u v ≡ true) q (self u)) ∙ e)

      -- a line of another target
      other : (u : ℕ) (lock : Lock) → nat_eq u t ≡ false → given t l.ask.who l.cookie.0 (printed past) ≡ Some l
          → or_else (if is_given t l.ask.who l.cookie.0 (Target u) lock then Some lock else None)
          (given t l.ask.who l.cookie.0 (printed past)) ≡ Some l
      other u lock e old = ap (λ (b : Bool). or_else (if b && has_cookie l.cookie.0 lock && same_life lock.ask.who l.ask.who then Some lock
          else None) (given t l.ask.who l.cookie.0 (printed past))) e ∙ old

      by : (node : Node) (e : Entry) → Allowed head past (turn x.at.stamp node) e
          → ((k : Lock) → Showed t (line (turn x.at.stamp node) e ∷ past) k → k.cookie.0 ≡ l.cookie.0 → k ≡ l)
          → Showed t (line (turn x.at.stamp node) e ∷ past) l → (((k : Lock) → Showed t past k → k.cookie.0 ≡ l.cookie.0 → k ≡ l)
          → Showed t past l → given t l.ask.who l.cookie.0 (printed past) ≡ Some l) → Goal node e
      by (Client c) (Grant lock asked) a one s h = absurd a.ok
      by (Target u) (Grant lock asked) a one s h = of (nat_eq u t) refl
        where
          old : Showed t past l → given t l.ask.who l.cookie.0 (printed past) ≡ Some l
          old q = h (λ k i. one k (inr i)) q

          of : (b : Bool) → nat_eq u t ≡ b → Goal (Target u) (Grant lock asked)
          of true e =
              let here : u ≡ t = eqb-true u t e in
              subst (λ (v : ℕ). Goal (Target v) (Grant lock asked)) (sym here)
              (shown lock (is_given t l.ask.who l.cookie.0 (Target t) lock) refl (one lock (inl (ap Target here, refl)))
              (⊎_elim (λ (q : (Target u ≡ Target t) × (lock ≡ l)). inl q.1) (λ (q : Showed t past l). inr (old q)) s))
          of false e = other u lock e (⊎_elim (λ (q : (Target u ≡ Target t) × (lock ≡ l)). absurd (apart u e (target_is u t q.0)))
              (λ (q : Showed t past l). old q) s)
      by (Client c) (Restore lock) a one s h = absurd a.ok
      by (Target u) (Restore lock) a one s h = of (nat_eq u t) refl
        where
          of : (b : Bool) → nat_eq u t ≡ b → Goal (Target u) (Restore lock)
          of true e =
              let here : u ≡ t = eqb-true u t e in
              let showed = restored_showed head past x.at.stamp t lock
              (subst (λ (v : ℕ). Allowed head past (turn x.at.stamp (Target v)) (Restore lock)) here a) g.1 in
              subst (λ (v : ℕ). Goal (Target v) (Restore lock)) (sym here)
              (shown lock (is_given t l.ask.who l.cookie.0 (Target t) lock) refl (one lock showed) (inr (h one s)))
          of false e = other u lock e (h one s)
      by node e a one s h = h one s

  pub given_is : (head : Head) (past : List Line) (l : Lock) → Grown head past → Unique past → Showed t past l
      → given t l.ask.who l.cookie.0 (printed past) ≡ Some l
  given_is head past l g one s = given_before head past l g (λ k i e. one k l i s e) s
