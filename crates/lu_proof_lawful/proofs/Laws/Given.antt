-- Each lock that a target gave was shown by a line of its own before anything else was done, but for those of what was just done; and
-- what was shown was given.
use Rattle.std.proofs.Common.{◌≡◌, ℕ, zero, suc, ◌<◌, Bool, true, List, [], ◌∷◌, ◌⊎◌, inl, inr, ⊎_elim, Option, Some, None, refl, sym}
use Rattle.std.proofs.Common.{subst, ap, ◌∙◌, arith}
use Rattle.std.specs.Prelude.{nat_eq, if◌then◌else◌}
use Rattle.std.proofs.lemmas.Bool.{cond_both, cond-true, eqb-true}
use Rattle.lu_base.specs.declared.ids.At.{At}
use Rattle.lu_base.specs.declared.ids.Node.{Node}
use Rattle.lu_base.specs.declared.ids.Node.TheVariants.{Client, Target}
use Rattle.lu_base.specs.declared.ids.Stamp.{Stamp}
use Rattle.lu_base.specs.declared.locks.Lock.{Lock}
use Rattle.lu_msg.specs.declared.messages.Message.TheVariants as message
use Rattle.lu_spec_entries.specs.Carried.{Deed}
use Rattle.lu_spec_entries.specs.Words.{Entry, Send, Act, Txn as Made, Grant, Wait, Answers as Responds, Line, line}
use Rattle.lu_spec_entries.specs.Concerns.{concerns, only}
use Rattle.lu_spec_client.specs.Caches.{brought}
use Rattle.lu_proof_lawful.specs.Covered.Heads.{Head}
use Rattle.lu_proof_lawful.proofs.Preconditions.Guards.{In, Did, Shows, EntersFor, Answers, Replies, OwesAsked, Owes, EntryOk}
use Rattle.lu_proof_lawful.proofs.Preconditions.StoryGuards.{RangeOk, GrantsOk}
use Rattle.lu_proof_lawful.proofs.Preconditions.Acts.{range_bare}
use Rattle.lu_proof_lawful.proofs.Preconditions.Grown.{Allowed, Grown}
use Rattle.lu_proof_lawful.proofs.Preconditions.Lists.{self}
use Rattle.lu_proof_lawful.proofs.Preconditions.ClientLines.{some_is}
use Rattle.lu_proof_lawful.proofs.Invariants.Groups.{turn}
use Rattle.lu_proof_lawful.proofs.Invariants.TargetGroups.{Acted, Promoted, Gave}
use Rattle.lu_proof_lawful.proofs.Invariants.All.{holds}
use Rattle.lu_proof_lawful.proofs.Invariants.Brings.{act_brings, txns_brings, wait_brings, answers_brings, range_brings, of_reply}
use Rattle.lu_proof_lawful.proofs.Invariants.Lines.{DoneBy, acted_line, only_more}
use Rattle.lu_proof_lawful.proofs.Invariants.Sides.{acted_some, acted_bare}
use Rattle.lu_proof_lawful.proofs.Laws.Story.{target_is}

-- ---- locks beside an answer

-- are the metadata target's
pub locks_first : (head : Head) (past : List Line) (t : ℕ) (d : Deed) (k : Lock) → Grown head past → Acted (only t past) d
    → In k d.reply.locks → t ≡ 0
locks_first head past zero d k g a i = refl
locks_first head past (suc t) d k g a i = absurd (subst (λ (ls : List Lock). In k ls) (acted_bare head past (suc t) d (omega arith) g a) i)

pub gave_only : (head : Head) (past : List Line) (d : Deed) (k : Lock) → Grown head past → Acted past d → In k d.reply.locks
    → Acted (only 0 past) d
gave_only head past d k g a i = let s = acted_some head past d g a
    in subst (λ (t : ℕ). Acted (only t past) d) (locks_first head past s.0 d k g s.1 i) s.1

-- a lock that a target grants as it is asked for
pub ranged : (osts : ℕ) (past : List Line) (at : At) (t : ℕ) (lock : Lock) (d : Deed) → 0 < t → GrantsOk osts past at t lock d
    → RangeOk osts past at lock d
ranged osts past at t lock d high (inl ok) = absurd (let first = ok.0 in omega (arith, first, high))
ranged osts past at t lock d high (inr ok) = ok.1

pub range_turn : (osts : ℕ) (past : List Line) (at : At) (lock : Lock) (d : Deed) → RangeOk osts past at lock d → d.reply.at ≡ at
range_turn osts past at lock d ok = ap (λ (v : Deed). v.reply.at) ok.is

-- ---- what was just done

-- its reply pays for it; or one of its locks is shown, in the turn that it names
abbrev pub Pays : At → Deed → Entry → Type 0
Pays at d (Send (Client c) (message.Reply k)) = k ≡ d.reply
Pays at d (Grant lock (Some f)) = d.reply.at ≡ at
Pays at d _ = ⊥

answers_pays : (at : At) (d : Deed) (e : Entry) → Answers at d e → Pays at d e
answers_pays at d (Send (Client c) (message.Reply k)) q = q.0
answers_pays at d (Grant lock (Some f)) q = q
answers_pays at d e q = absurd q

replies_pays : (at : At) (d : Deed) (e : Entry) → Replies d e → Pays at d e
replies_pays at d (Send (Client c) (message.Reply k)) q = q
replies_pays at d e q = absurd q

-- so it is paid for next
pub owed : (past : List Line) (at : At) (d : Deed) (e : Entry) → Did past d → Owes past at e → Pays at d e
owed [] at d e i o = absurd i
owed (l ∷ past) at d e i o = by l.entry i o
  where
    asked : (k : Lock) (v : Option Deed) → v ≡ Some d → OwesAsked (l.at ≡ at) at k v e → Answers at d e
    asked k None q o = absurd (cc)
    asked k (Some f) q o = subst (λ (v : Deed). Answers at v e) (some_is f d q) o

    by : (x : Entry) → Did (line l.at x ∷ past) d → Owes (line l.at x ∷ past) at e → Pays at d e
    by (Act f) i o = answers_pays at d e (subst (λ (v : Deed). Answers at v e) i o)
    by (Made f) i o = answers_pays at d e (subst (λ (v : Deed). Answers at v e) i o)
    by (Wait k f) i o = answers_pays at d e (subst (λ (v : Deed). Answers at v e) i o)
    by (Responds f) i o = replies_pays at d e (subst (λ (v : Deed). Replies v e) i o.1)
    by (Grant k v) i o = answers_pays at d e (asked k v i o)
    by _ i o = absurd i

-- is one deed
pub did_one : (past : List Line) (d e : Deed) → Did past d → Did past e → d ≡ e
did_one [] d e i j = absurd i
did_one (l ∷ past) d e i j = by l.entry i j
  where
    some : (o : Option Deed) → o ≡ Some d → o ≡ Some e → d ≡ e
    some o p q = cc

    by : (x : Entry) → Did (line l.at x ∷ past) d → Did (line l.at x ∷ past) e → d ≡ e
    by (Act f) i j = sym i ∙ j
    by (Made f) i j = sym i ∙ j
    by (Wait k f) i j = sym i ∙ j
    by (Responds f) i j = sym i ∙ j
    by (Grant lock asked) i j = some asked i j
    by _ i j = absurd i

-- where a request was just taken up nothing was
pub entered_not_did : (past : List Line) (at : At) (d e : Deed) → EntersFor past at d → Did past e → ⊥
entered_not_did [] at d e i j = i
entered_not_did (l ∷ past) at d e i j = by l.entry i j
  where
    by : (x : Entry) → EntersFor (line l.at x ∷ past) at d → Did (line l.at x ∷ past) e → ⊥
    by (Act f) i j = i
    by (Made f) i j = i
    by (Wait k f) i j = i
    by (Responds f) i j = i
    by (Grant lock asked) i j = i
    by _ i j = j

-- the newest line is that target's
abbrev pub NewestOf : ℕ → List Line → Type 0
NewestOf t [] = ⊥
NewestOf t (l ∷ past) = l.at.node ≡ Target t

-- ---- what was shown there: reads Grant

abbrev pub Showed : ℕ → List Line → Lock → Type 0
Showed t [] k = ⊥
Showed t (l ∷ past) k = elim l.entry [ Grant lock asked ↦ ((l.at.node ≡ Target t) × (lock ≡ k)) ⊎ Showed t past k | _ ↦ Showed t past k ]

pub showed_more : (t : ℕ) (l : Line) (past : List Line) (k : Lock) → Showed t past k → Showed t (l ∷ past) k
showed_more t l past k s = by l.entry
  where
    by : (e : Entry) → Showed t (line l.at e ∷ past) k
    by (Grant lock asked) = inr s
    by _ = s

-- only the metadata target shows a lock on names, of what was just done there
pub names_granted : (head : Head) (past : List Line) (stamp : Stamp) (u : ℕ) (lock : Lock) (f d : Deed) (k : Lock)
    → Allowed head past (turn stamp (Target u)) (Grant lock (Some f)) → Some f ≡ Some d → In k d.reply.locks → (u ≡ 0) × Did past d
names_granted head past stamp u lock f d k a e j = by a.ok
  where
    same : f ≡ d
    same = some_is f d e

    by : EntryOk past (turn stamp (Target u)) (Target u) (Grant lock (Some f)) → (u ≡ 0) × Did past d
    by (inl ok) = (ok.0, subst (λ (v : Deed). Did past v) same ok.1)
    by (inr ok) =
        let range = ranged head.osts (only u past) (turn stamp (Target u)) u lock f ok.0 (a.of u (self u)) in
        absurd (subst (λ (ls : List Lock). In k ls) (ap (λ (v : Deed). v.reply.locks) (sym same)
        ∙ ap (λ (v : Deed). v.reply.locks) range.is) j)

shows_showed : (head : Head) (past : List Line) (d : Deed) (k : Lock) → Grown head past → Did past d → In k d.reply.locks → Shows past k
    → Showed 0 past k
shows_showed head [] d k g i j s = absurd s
shows_showed head (l ∷ past) d k g i j s = by l.at.node l.entry g.0 i s (λ q. shows_showed head past d k g.1 q j)
  where
    by : (node : Node) (e : Entry) → Allowed head past (turn l.at.stamp node) e → Did (line (turn l.at.stamp node) e ∷ past) d
        → Shows (line (turn l.at.stamp node) e ∷ past) k → (Did past d → Shows past k → Showed 0 past k)
        → Showed 0 (line (turn l.at.stamp node) e ∷ past) k
    by (Client c) (Grant lock asked) a i s h = absurd a.ok
    by (Target t) (Grant lock None) a i s h = absurd (cc)
    by (Target t) (Grant lock (Some f)) a i s h =
        let ok = names_granted head past l.at.stamp t lock f d k a i j in
        ⊎_elim (λ (q : lock ≡ k). inl (ap Target ok.0, q)) (λ (q : Shows past k). inr (h ok.1 q)) s
    by _ e a i s h = absurd s

-- its own line is that of the lock
abbrev Alone : List Line → Deed → Lock → Type 0
Alone past d k = (u : ℕ) × NewestOf u past × Showed u past k × (d.reply.locks ≡ [])

-- what was just done brings locks on names, or a lock whose own line it is
did_shown : (head : Head) (past : List Line) (d : Deed) (k : Lock) → Grown head past → Did past d → In k (brought d.op d.reply)
    → In k d.reply.locks ⊎ Alone past d k
did_shown head [] d k g i j = absurd i
did_shown head (l ∷ past) d k g i j = by l.at.node l.entry g.0 i (λ q. did_shown head past d k g.1 q j)
  where
    same_brings : (f : Deed) → f ≡ d → In k (brought f.op f.reply)
    same_brings f e = subst (λ (v : Deed). In k (brought v.op v.reply)) (sym e) j

    none : (f : Deed) → f ≡ d → brought f.op f.reply ≡ [] → ⊥
    none f e n = subst (λ (ls : List Lock). In k ls) n (same_brings f e)

    by : (node : Node) (e : Entry) → Allowed head past (turn l.at.stamp node) e → Did (line (turn l.at.stamp node) e ∷ past) d
        → (Did past d → In k d.reply.locks ⊎ Alone past d k) → In k d.reply.locks ⊎ Alone (line (turn l.at.stamp node) e ∷ past) d k
    by (Client c) (Act f) a i h = absurd a.ok
    by (Client c) (Made f) a i h = absurd a.ok
    by (Client c) (Wait lock f) a i h = absurd a.ok
    by (Client c) (Responds f) a i h = absurd a.ok
    by (Client c) (Grant lock asked) a i h = absurd a.ok
    by (Target u) (Act f) a i h =
        inl (subst (λ (v : Deed). In k v.reply.locks) i (subst (λ (ls : List Lock). In k ls)
        (act_brings head.osts (only u past) (turn l.at.stamp (Target u)) u f (a.of u (self u))) (same_brings f i)))
    by (Target u) (Made f) a i h = absurd (none f i (txns_brings head.osts (only u past) (turn l.at.stamp (Target u)) u f
        (a.of u (self u))))
    by (Target u) (Wait lock f) a i h = absurd (none f i (wait_brings head.osts (only u past) (turn l.at.stamp (Target u)) lock f
        (a.of u (self u)).1))
    by (Target u) (Responds f) a i h = absurd (none f i (answers_brings head.osts (only u past) (turn l.at.stamp (Target u)) u f
        (a.of u (self u)).1))
    by (Target u) (Grant lock None) a i h = absurd (cc)
    by (Target u) (Grant lock (Some f)) a i h = of a.ok
      where
        at : At
        at = turn l.at.stamp (Target u)

        same : f ≡ d
        same = some_is f d i

        of : EntryOk past at (Target u) (Grant lock (Some f)) → In k d.reply.locks ⊎ Alone (line at (Grant lock (Some f)) ∷ past) d k
        of (inl ok) = ⊎_elim (λ (q : In k d.reply.locks). inl q)
            (λ (q : Alone past d k). absurd (subst (λ (ls : List Lock). In lock ls) (ap (λ (v : Deed). v.reply.locks) same ∙ q.3) ok.2))
            (h (subst (λ (v : Deed). Did past v) same ok.1))
        of (inr ok) =
            let range = ranged head.osts (only u past) at u lock f ok.0 (a.of u (self u)) in
            ⊎_elim (λ (q : lock ≡ k). inr (
              u,
              refl,
              inl (refl, q),
              ap (λ (v : Deed). v.reply.locks) (sym same)
                  ∙ range_bare head.osts (only u past) at lock f range,
            )) (λ (q : ⊥). absurd q)
            (subst (λ (ls : List Lock). In k ls) (range_brings head.osts (only u past) at lock f range) (same_brings f same))
    by _ e a i h = absurd i

-- ---- what was given

-- a lock that had waited was shown as it was granted
pub promoted_showed : (head : Head) (t : ℕ) (past : List Line) (k : Lock) → Grown head past → Promoted (only t past) k → Showed t past k
promoted_showed head t [] k g p = absurd p
promoted_showed head t (l ∷ past) k g p =
    cond_both (concerns t l.at.node l.entry) (l ∷ only t past) (only t past) (λ (q : List Line). Promoted q k → Showed t (l ∷ past) k)
    (λ own q. by l.at.node l.entry g.0 own q (promoted_showed head t past k g.1))
    (λ own q. showed_more t l past k (promoted_showed head t past k g.1 q))
    p
  where
    by : (node : Node) (e : Entry) → Allowed head past (turn l.at.stamp node) e → concerns t node e ≡ true
        → Promoted (line (turn l.at.stamp node) e ∷ only t past) k → (Promoted (only t past) k → Showed t past k)
        → Showed t (line (turn l.at.stamp node) e ∷ past) k
    by (Client c) (Grant lock asked) a own q h = absurd a.ok
    by (Target u) (Grant lock asked) a own q h = ⊎_elim (λ r. inl (ap Target (sym (eqb-true t u own)), r.1))
        (λ (r : Promoted (only t past) k). inr (h r)) q
    by node e a own q h = showed_more t (line (turn l.at.stamp node) e) past k (h q)

-- it was just done there, or the lock was shown
abbrev IsShown : ℕ → List Line → Deed → Lock → Type 0
IsShown t past d k = (NewestOf t past × Did past d) ⊎ Showed t past k

abbrev AllShown : ℕ → List Line → Type 0
AllShown t past = (d : Deed) (k : Lock) → Acted (only t past) d → In k (brought d.op d.reply) → IsShown t past d k

-- what a line does is done just then
pub done_did : (at : At) (e : Entry) (past : List Line) (d : Deed) → DoneBy e d → Did (line at e ∷ past) d
done_did at (Act x) past d p = p
done_did at (Made x) past d p = p
done_did at (Grant lock asked) past d p = p
done_did at (Wait lock x) past d p = p
done_did at (Responds x) past d p = p
done_did at e past d p = absurd p

-- where something else comes next than its answer, all is shown that was given
paid : (past : List Line) (at : At) (e : Entry) (t : ℕ) (d : Deed) (k : Lock) → Owes past at e → (Pays at d e → ⊥) → IsShown t past d k
    → Showed t past k
paid past at e t d k owes none (inl did) = absurd (none (owed past at d e did.1 owes))
paid past at e t d k owes none (inr s) = s

-- what was given before a line is shown after it
old_given : (head : Head) (past : List Line) (stamp : Stamp) (t : ℕ) (node : Node) (e : Entry) (d : Deed) (k : Lock)
    → Allowed head past (turn stamp node) e → Grown head past → Acted (only t past) d → In k (brought d.op d.reply)
    → IsShown t past d k → IsShown t (line (turn stamp node) e ∷ past) d k
old_given head past stamp t (Client c) (Grant lock asked) d k a g i j h = absurd a.ok
old_given head past stamp t (Target u) (Grant lock None) d k a g i j h =
    inr (inr (paid past (turn stamp (Target u)) (Grant lock None) t d k a.owes (λ q. q) h))
old_given head past stamp t (Target u) (Grant lock (Some f)) d k a g i j (inr s) = inr (inr s)
old_given head past stamp t (Target u) (Grant lock (Some f)) d k a g i j (inl did) = by a.ok
  where
    new : List Line
    new = line (turn stamp (Target u)) (Grant lock (Some f)) ∷ past

    by : EntryOk past (turn stamp (Target u)) (Target u) (Grant lock (Some f)) → IsShown t new d k
    by (inl ok) =
        let same : f ≡ d = did_one past f d ok.1 did.1 in
        let first : t ≡ 0 = locks_first head past t d lock g i (subst (λ (v : Deed). In lock v.reply.locks) same ok.2) in
        inl (ap Target (ok.0 ∙ sym first), ap (λ (v : Deed). Some v) same)
    by (inr ok) = absurd (entered_not_did past (turn stamp (Target u)) f d ok.1 did.1)
old_given head past stamp t (Target u) (Send (Client c) (message.Reply r)) d k a g i j (inr s) = inr s
old_given head past stamp t (Target u) (Send (Client c) (message.Reply r)) d k a g i j (inl did) =
    inr (⊎_elim named (λ (q : Alone past d k). subst (λ (v : ℕ). Showed v past k) (newest past q.0 did.0 q.1) q.2)
    (did_shown head past d k g did.1 j))
  where
    -- locks on names are of the metadata target, and were all shown
    named : In k d.reply.locks → Showed t past k
    named m = subst (λ (v : ℕ). Showed v past k) (sym (locks_first head past t d k g i m))
        (shows_showed head past d k g did.1 m (a.ok.2 d did.1 k m))

    newest : (p : List Line) (v : ℕ) → NewestOf t p → NewestOf v p → v ≡ t
    newest [] v m n = absurd m
    newest (l ∷ p) v m n = let e : Target v ≡ Target t = sym n ∙ m in target_is v t e
old_given head past stamp t (Client b) (Send (Client c) (message.Reply r)) d k a g i j h = absurd a.ok
old_given head past stamp t node e d k a g i j h = inr (paid past (turn stamp node) e t d k a.owes (λ q. q) h)

-- a line of a client does nothing
pub done_target : (head : Head) (past : List Line) (stamp : Stamp) (t : ℕ) (node : Node) (e : Entry) (d : Deed)
    → Allowed head past (turn stamp node) e → concerns t node e ≡ true → DoneBy e d → node ≡ Target t
done_target head past stamp t (Client c) (Act x) d a own p = absurd a.ok
done_target head past stamp t (Client c) (Made x) d a own p = absurd a.ok
done_target head past stamp t (Client c) (Grant lock asked) d a own p = absurd a.ok
done_target head past stamp t (Client c) (Wait lock x) d a own p = absurd a.ok
done_target head past stamp t (Client c) (Responds x) d a own p = absurd a.ok
done_target head past stamp t (Target u) e d a own p = ap Target (sym (eqb-true t u own))
done_target head past stamp t node e d a own p = absurd p

all_at : (head : Head) (t : ℕ) (past : List Line) → Grown head past → AllShown t past
all_at head t [] g d k i j = absurd i
all_at head t (l ∷ past) g d k i j =
    cond_both (concerns t l.at.node l.entry) (l ∷ only t past) (only t past) (λ (q : List Line). Acted q d → IsShown t (l ∷ past) d k)
    (λ own b. ⊎_elim
    (λ (p : DoneBy l.entry d). inl (done_target head past l.at.stamp t l.at.node l.entry d g.0 own p, done_did l.at l.entry past d p))
    (λ (p : Acted (only t past) d). old_given head past l.at.stamp t l.at.node l.entry d k g.0 g.1 p j (all_at head t past g.1 d k p j))
    (acted_line l.at l.entry (only t past) d b))
    (λ own b. old_given head past l.at.stamp t l.at.node l.entry d k g.0 g.1 b j (all_at head t past g.1 d k b j))
    i

pub all_given : (head : Head) (past : List Line) → Grown head past → (t : ℕ) (d : Deed) (k : Lock) → Gave (only t past) d k → Did past d
    ⊎ Showed t past k
all_given head past g t d k (i, inl j) = ⊎_elim (λ (q : NewestOf t past × Did past d). inl q.1) (λ (q : Showed t past k). inr q)
    (all_at head t past g d k i j)
all_given head past g t d k (i, inr p) = inr (promoted_showed head t past k g p.0)

-- ---- what was shown was given

pub gave_more : (t : ℕ) (l : Line) (past : List Line) (d : Deed) (k : Lock) → Gave (only t past) d k → Gave (only t (l ∷ past)) d k
gave_more t l past d k (i, b) = (only_more t l past d i, ⊎_elim (λ (j : In k (brought d.op d.reply)). inl j) (λ p. inr (more p.0, p.1)) b)
  where
    step : (e : Entry) (q : List Line) → Promoted q k → Promoted (line l.at e ∷ q) k
    step (Grant lock asked) q p = inr p
    step e q p = p

    more : Promoted (only t past) k → Promoted (only t (l ∷ past)) k
    more p = cond_both (concerns t l.at.node l.entry) (l ∷ only t past) (only t past) (λ (q : List Line). Promoted q k)
        (λ own. step l.entry (only t past) p) (λ own. p)

-- a line that grants a lock gives it there
grant_gave : (head : Head) (past : List Line) (stamp : Stamp) (t : ℕ) (lock : Lock) (asked : Option Deed)
    → Allowed head past (turn stamp (Target t)) (Grant lock asked) → Grown head past
    → (d : Deed) × Gave (line (turn stamp (Target t)) (Grant lock asked) ∷ only t past) d lock
grant_gave head past stamp t lock None a g =
    let new : List Line = line (turn stamp (Target t)) (Grant lock None) ∷ past in
    let same : only t new ≡ line (turn stamp (Target t)) (Grant lock None) ∷ only t past =
    cond-true (nat_eq t t) (line (turn stamp (Target t)) (Grant lock None) ∷ only t past) (only t past) (self t) in
    let p = ((holds head new (a, g)).at t).locks.promoted lock (subst (λ (q : List Line). Promoted q lock) (sym same) (inl (refl, refl))) in
    (p.0, subst (λ (q : List Line). Gave q p.0 lock) same p.1)
grant_gave head past stamp t lock (Some d) a g = (d, (inl refl, inl (by a.ok)))
  where
    at : At
    at = turn stamp (Target t)

    by : EntryOk past at (Target t) (Grant lock (Some d)) → In lock (brought d.op d.reply)
    by (inl ok) = of_reply d.op d.reply lock ok.2
    by (inr ok) =
        let range = ranged head.osts (only t past) at t lock d ok.0 (a.of t (self t)) in
        subst (λ (ls : List Lock). In lock ls) (sym (range_brings head.osts (only t past) at lock d range)) (inl refl)

pub showed_gave : (head : Head) (t : ℕ) (past : List Line) (k : Lock) → Grown head past → Showed t past k → (d : Deed)
    × Gave (only t past) d k
showed_gave head t [] k g s = absurd s
showed_gave head t (l ∷ past) k g s = by l.at.node l.entry g.0 s (λ q. more (showed_gave head t past k g.1 q))
  where
    more : (d : Deed) × Gave (only t past) d k → (d : Deed) × Gave (only t (l ∷ past)) d k
    more (d, i) = (d, gave_more t l past d k i)

    by : (node : Node) (e : Entry) → Allowed head past (turn l.at.stamp node) e → Showed t (line (turn l.at.stamp node) e ∷ past) k
        → (Showed t past k → (d : Deed) × Gave (if concerns t node e then line (turn l.at.stamp node) e ∷ only t past else only t past) d k)
        → (d : Deed) × Gave (if concerns t node e then line (turn l.at.stamp node) e ∷ only t past else only t past) d k
    by (Client c) (Grant lock asked) a s h = absurd a.ok
    by (Target u) (Grant lock asked) a (inr s) h = h s
    by (Target u) (Grant lock asked) a (inl q) h =
        subst (λ (v : ℕ). (d : Deed) × Gave (if nat_eq v u then line (turn l.at.stamp (Target u)) (Grant lock asked) ∷ only v past
        else only v past) d k) (target_is u t q.0)
        (subst (λ (b : Bool). (d : Deed) × Gave (if b then line (turn l.at.stamp (Target u)) (Grant lock asked) ∷ only u past
        else only u past) d k) (sym (self u))
        (let r = grant_gave head past l.at.stamp u lock asked a g.1
        in (r.0, subst (λ (v : Lock). Gave (line (turn l.at.stamp (Target u)) (Grant lock asked) ∷ only u past) r.0 v) q.1 r.1)))
    by node e a s h = h s
