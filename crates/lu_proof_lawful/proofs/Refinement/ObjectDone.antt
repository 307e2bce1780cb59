-- What is written back has bytes within an object, and each write-back that a target did it answered so: line by line.
use Rattle.std.proofs.Common.{◌≡◌, ℕ, Bool, true, false, List, ◌∷◌, Option, Some, None, inl, inr, refl, sym, subst, ap, ◌∙◌, arith}
use Rattle.std.specs.Option.{unwrap_or}
use Rattle.std.specs.Prelude.{nat_eq, if◌then◌else◌, option_map}
use Rattle.std.proofs.lemmas.Bool.{eqb-true}
use Rattle.lu_base.specs.declared.ids.Node.{Node}
use Rattle.lu_base.specs.declared.ids.Node.TheVariants.{Client, Target}
use Rattle.lu_base.specs.declared.ids.Stamp.{Stamp}
use Rattle.lu_base.specs.declared.locks.Lock.{Lock as TableLock}
use Rattle.lu_base.specs.declared.locks.Resource.{Resource}
use Rattle.lu_held.specs.Locks.{same_resource}
use Rattle.lu_spec_machine.proofs.Places.{in_parts}
use Rattle.lu_msg.specs.declared.answers.Answer.TheVariants as told
use Rattle.lu_msg.specs.declared.operations.Op.{Op}
use Rattle.lu_msg.specs.declared.operations.Op.TheVariants as op
use Rattle.lu_spec_entries.specs.declared.changes.Flush.{Flush}
use Rattle.lu_spec_entries.specs.declared.changes.Flush.TheVariants as flush
use Rattle.lu_spec_entries.specs.Carried.{Deed}
use Rattle.lu_spec_entries.specs.Words as word
use Rattle.lu_spec_entries.specs.Words.{Line, line}
use Rattle.lu_spec_entries.specs.Concerns.{only}
use Rattle.lu_spec_client.specs.Calls.{life_at}
use Rattle.lu_spec_client.specs.Patches.{Patch}
use Rattle.lu_proof_lawful.specs.Covered.Heads.{Head}
use Rattle.lu_proof_lawful.proofs.Preconditions.Acts.{kind_ranges}
use Rattle.lu_proof_lawful.proofs.Preconditions.StoryGuards.{EntryOf, ActsOk, TxnsOk, GrantsOk, AnswersOk}
use Rattle.lu_proof_lawful.proofs.Preconditions.Lists.{self, turn}
use Rattle.lu_proof_lawful.proofs.Preconditions.LockKinds.{granted_kind}
use Rattle.lu_proof_lawful.proofs.Preconditions.ClientLines.{some_is}
use Rattle.lu_proof_lawful.proofs.Invariants.Groups.{HoldsAt}
use Rattle.lu_proof_lawful.proofs.Invariants.TargetGroups.{Acted}
use Rattle.lu_proof_bytes.specs.Object.Words.{Cut, Did, Entry, Takes, Tells, Flies, Heard, Hold, Drop, Forgets, Grant, Wait, Txn, Release}
use Rattle.lu_proof_bytes.specs.Object.Words.{Evict, Commit, Close, Send}
use Rattle.lu_proof_bytes.specs.Object.Folds as says
use Rattle.lu_proof_bytes.specs.Object.Folds.{WriteBack, taken_heard}
use Rattle.lu_proof_bytes.proofs.Object.Patches.{taken_still}
use Rattle.lu_proof_objects.specs.Points.{change_of}
use Rattle.lu_proof_objects.specs.Alike.{IsNext}
use Rattle.lu_proof_lawful.specs.Projection.Lives.{number_of, is_live}
use Rattle.lu_proof_lawful.specs.Projection.Locks.{lock_of, held, lock_over}
use Rattle.lu_proof_lawful.specs.Projection.Requests.{op_of, among, answer_of}
use Rattle.lu_proof_lawful.specs.Projection.Messages.{request_as, by_client, by_target}
use Rattle.lu_proof_lawful.specs.Projection.Calls.{did}
use Rattle.lu_proof_lawful.specs.Projection.Closes.{closes}
use Rattle.lu_proof_lawful.specs.Projection.Stories.{with_entry, of_life, of_life_at, if_on, flies, hears, step, story}
use Rattle.lu_proof_lawful.proofs.Refinement.TiedAsked.{is_back}
use Rattle.lu_proof_lawful.proofs.Refinement.TiedObject.{HasSome}
use Rattle.lu_proof_lawful.proofs.Refinement.StoreTakes.{Taking, takes_found}
use Rattle.lu_proof_lawful.proofs.Refinement.TargetLines.{client_still, other_only, given_by, own_only, own_story}
use Rattle.lu_proof_lawful.proofs.Refinement.AllowedLocks.{resource_is}
use Rattle.lu_proof_lawful.proofs.Refinement.AllowedTarget.{other_story}
use Rattle.lu_proof_lawful.proofs.Refinement.ObjectBacks.{uncovered_not}
use Rattle.lu_proof_lawful.proofs.Refinement.Tied.{Here}

-- ---- entries that take nothing

-- what is under way was so before
abbrev Older : List Entry → List Entry → Type 0
Older h k = (c : ℕ) (b : WriteBack) → says.taken c k ≡ Some b → says.taken c h ≡ Some b

abbrev IsIdle : Entry → Type 0
IsIdle (Takes c k ch) = ⊥
IsIdle _ = Unit {0}

older_same : (h : List Entry) → Older h h
older_same h c b e = e

older_one : (e : Entry) (h : List Entry) → IsIdle e → Older h (e ∷ h)
older_one (Takes d k ch) h i c b e = absurd i
older_one (Heard q a) h i c b e = by (nat_eq c q.life) e
  where
    by : (v : Bool) → (if v then taken_heard q.op (says.taken c h) else says.taken c h) ≡ Some b → says.taken c h ≡ Some b
    by true f = taken_still q.op (says.taken c h) b f
    by false f = f
older_one x h i c b e = e

older_maybe : {A : Type 0} (make : A → Entry) (o : Option A) (h : List Entry) → ((a : A) → IsIdle (make a))
    → Older h (with_entry (option_map make o) h)
older_maybe make None h i = older_same h
older_maybe make (Some a) h i = older_one (make a) h (i a)

older_on : (v : Bool) (e : Entry) (h : List Entry) → IsIdle e → Older h (with_entry (if v then Some e else None) h)
older_on true e h i = older_one e h i
older_on false e h i = older_same h

older_if : (v : Bool) (h k : List Entry) → Older h k → Older h (if v then k else h)
older_if true h k o = o
older_if false h k o = older_same h

older_life : (c : ℕ) (past : List Line) (gives : ℕ → Option Entry) (h : List Entry) → ((w : ℕ) → Older h (with_entry (gives w) h))
    → Older h (of_life (Client c) past gives h)
older_life c past gives h o = older_if (is_live c past h) h (with_entry (gives (number_of (life_at c past))) h)
    (o (number_of (life_at c past)))

older_at : (t u c : ℕ) (past : List Line) (gives : ℕ → Option Entry) (h : List Entry) → ((w : ℕ) → Older h (with_entry (gives w) h))
    → Older h (of_life_at t u (Client c) past gives h)
older_at t u c past gives h o = older_if (nat_eq u t) h (of_life (Client c) past gives h) (older_life c past gives h o)

abbrev Quiet : word.Entry → Type 0
Quiet (word.WritesBack q change) = ⊥
Quiet _ = Unit {0}

client_older : (t : ℕ) (r : Resource) (c : ℕ) (e : word.Entry) (past : List Line) (h : List Entry) → Quiet e
    → Older h (step t r (Client c) past e h)
client_older t r c (word.WritesBack q change) past h i = absurd i
client_older t r c (word.Send (Target u) m) past h i = older_at t u c past (λ w. option_map Send (by_client r h m)) h
    (λ w. older_maybe Send (by_client r h m) h (λ a. tt))
client_older t r c (word.Flies u f) past h i = older_at t u c past (flies r f h) h
    (λ w. older_maybe (λ o. Flies (request_as w f.xid o)) (op_of r h f.op) h (λ a. tt))
client_older t r c (word.Heard u f p) past h i = older_at t u c past (hears r f p h) h
    (λ w. older_maybe (λ o. Heard (request_as w f.xid o) (answer_of (request_as w f.xid o) p)) (op_of r h f.op) h (λ a. tt))
client_older t r c (word.Hold u l marked size seen) past h i =
    older_at t u c past (λ w. if_on r l.resource (Hold (lock_of l) (unwrap_or size 0) (among seen))) h
    (λ w. older_on (same_resource l.resource r) (Hold (lock_of l) (unwrap_or size 0) (among seen)) h tt)
client_older t r c (word.Drop u l) past h i = older_at t u c past (λ w. if_on r l.resource (Drop (lock_of l))) h
    (λ w. older_on (same_resource l.resource r) (Drop (lock_of l)) h tt)
client_older t r c (word.Knows u boot) past h i = older_at t u c past (λ w. Some (Forgets w)) h (λ w. older_one (Forgets w) h tt)
client_older t r c (word.Changes q change) past h i =
    older_if (same_resource q r) h (of_life (Client c) past (λ w. did w change h) h)
    (older_life c past (λ w. did w change h) h (λ w. older_maybe (λ k. Tells w (Did k (change_of change)))
    (lock_over w (change_of change) (held h)) h (λ a. tt)))
client_older t r c (word.Send (Client d) m) past h i = older_same h
client_older t r c _ past h i = older_same h

own_older : (r : Resource) (h : List Entry) (e : word.Entry) → Older h (with_entry (given_by r h e) h)
own_older r h (word.Send (Client c) m) = older_maybe Send (by_target h m) h (λ a. tt)
own_older r h (word.Grant l None) = older_on (same_resource l.resource r) _ h tt
own_older r h (word.Grant l (Some d)) = older_maybe (λ o. _) (op_of r h d.op) h (λ a. tt)
own_older r h (word.Wait l d) = older_maybe (λ o. _) (op_of r h d.op) h (λ a. tt)
own_older r h (word.Act d) = older_maybe (λ o. _) (op_of r h d.op) h (λ a. tt)
own_older r h (word.Answers d) = older_maybe (λ o. _) (op_of r h d.op) h (λ a. tt)
own_older r h (word.Txn d) = older_maybe (λ o. _) (op_of r h d.op) h (λ a. tt)
own_older r h (word.Release l) = older_on (same_resource l.resource r) _ h tt
own_older r h (word.Commit to batch) = older_one (Commit to) h tt
own_older r h (word.Close o) = older_one (closes h o) h tt
own_older r h (word.Evict who cause) = older_one (Evict (number_of who)) h tt
own_older r h _ = older_same h

-- ---- what is written back

-- what is taken now has bytes under a lock
taken_some : (h : List Entry) (w : ℕ) (p : Patch) (change : Flush) → Taking h w p change → HasSome (change_of change)
taken_some h w p change k = by change k.next
  where
    by : (ch : Flush) → IsNext k.extent p ch → HasSome (change_of ch)
    by (flush.Put at bytes) next = (
      next.some,
      λ q i. (let a = (in_parts k.extent q (next.under q i)).1 in let b = k.range.1
          in omega (arith, a, b)),
    )
    by (flush.Cut size) next = tt

back_some : (head : Head) (t : ℕ) (r : Resource) (stamp : Stamp) (c : ℕ) (q : Resource) (change : Flush) (past : List Line)
    → Here head t r (line (turn stamp (Client c)) (word.WritesBack q change)) past
    → (d : ℕ) (b : WriteBack) → says.taken d (step t r (Client c) past (word.WritesBack q change) (story t r past)) ≡ Some b
    → HasSome b.change
back_some head t r stamp c q change past here d b e =
    by (same_resource q r) refl (is_live c past (story t r past)) refl
    (lock_over (number_of (life_at c past)) (change_of change) (held (story t r past))) e
  where
    old : says.taken d (story t r past) ≡ Some b → HasSome b.change
    old f = here.tied.object.full d b f

    by : (u : Bool) → same_resource q r ≡ u → (v : Bool) → is_live c past (story t r past) ≡ v → (k : Option ℕ)
        → says.taken d (if u then (if v then with_entry (option_map (λ k. Takes (number_of (life_at c past)) k (change_of change)) k)
        (story t r past) else story t r past) else story t r past) ≡ Some b → HasSome b.change
    by false s v l k f = old f
    by true s false l k f = old f
    by true s true l None f = old f
    by true s true l (Some k) f = one (nat_eq d (number_of (life_at c past))) f
      where
        one : (v : Bool) → (if v then Some (record { lock = k; change = change_of change }) else says.taken d (story t r past)) ≡ Some b
            → HasSome b.change
        one false f = old f
        one true f =
            let at = subst (λ (x : Resource). Here head t r (line (turn stamp (Client c)) (word.WritesBack x change)) past)
            (resource_is q r s) here in
            let same = some_is (record { lock = k; change = change_of change }) b f in
            subst (λ (x : WriteBack). HasSome x.change) same (taken_some (story t r past) _ _ change
            (takes_found head t r stamp c past change at l))

module _ (head : Head) (t : ℕ) (r : Resource) (stamp : Stamp) (e : word.Entry) (past : List Line) where
  pub full_line : (node : Node) → Here head t r (line (turn stamp node) e) past → (d : ℕ) (b : WriteBack)
      → says.taken d (story t r (line (turn stamp node) e ∷ past)) ≡ Some b → HasSome b.change
  full_line (Client c) here d b f = by e here f
    where
      by : (x : word.Entry) → Here head t r (line (turn stamp (Client c)) x) past
          → says.taken d (step t r (Client c) past x (story t r past)) ≡ Some b → HasSome b.change
      by (word.WritesBack q change) here f = back_some head t r stamp c q change past here d b f
      by x here f = here.tied.object.full d b (client_older t r c x past (story t r past) tt d b f)
  full_line (Target u) here d b f = by (nat_eq t u) refl
    where
      by : (v : Bool) → nat_eq t u ≡ v → HasSome b.change
      by false off = here.tied.object.full d b (ap (says.taken d) (sym (other_story t r stamp u e past off)) ∙ f)
      by true on =
          subst (λ (v : ℕ). says.taken d (story t r (line (turn stamp (Target v)) e ∷ past)) ≡ Some b → HasSome b.change) (eqb-true t u on)
          (λ g. here.tied.object.full d b (own_older r (story t r past) e d b (ap (says.taken d) (sym (own_story t r stamp e past)) ∙ g)))
          f

  -- ---- what was done

  own_done : Here head t r (line (turn stamp (Target t)) e) past → (d : Deed) → Acted (line (turn stamp (Target t)) e ∷ only t past) d
      → is_back r d.op ≡ true → d.reply.answer ≡ told.Done
  own_done here d a back = by e (here.stood.ok.of t (self t)) a
    where
      all : HoldsAt head (only t past)
      all = here.stood.before.at t

      old : Acted (only t past) d → d.reply.answer ≡ told.Done
      old a = here.tied.object.backs d a back

      -- what asks for no write-back isn't one
      other : (k : Deed) (o : Op) → k ≡ d → k.op ≡ o → is_back r o ≡ false → d.reply.answer ≡ told.Done
      other k o same is never = let yes : is_back r o ≡ true = subst (λ (x : Op). is_back r x ≡ true)
          (sym (ap (λ (x : Deed). x.op) same) ∙ is) back in absurd (cc)

      acts : (k : Deed) → ActsOk head.osts (only t past) (turn stamp (Target t)) t k → k ≡ d → d.reply.answer ≡ told.Done
      acts k (inl z) same = absurd (let zero = z.0 in let high = here.some in omega arith)
      acts k (inr z) same = let ok = z.1 in other k (op.Size ok.resource) same (ap (λ (x : Deed). x.op) ok.is ∙ ok.of_op) refl

      txns : (k : Deed) → TxnsOk head.osts (only t past) (turn stamp (Target t)) t k → k ≡ d → d.reply.answer ≡ told.Done
      txns k (inl z) same = absurd (let zero = z.0 in let high = here.some in omega arith)
      txns k (inr z) same = ap (λ (x : Deed). x.reply.answer) (sym same) ∙ ap (λ (x : Deed). x.reply.answer) z.1.is

      grants : (l : TableLock) (k : Deed) → GrantsOk head.osts (only t past) (turn stamp (Target t)) t l k → k ≡ d → d.reply.answer
          ≡ told.Done
      grants l k (inl z) same = absurd (let zero = z.0 in let high = here.some in omega arith)
      grants l k (inr z) same = let ok = z.1 in other k (op.Enqueue ok.resource ok.mode ok.extent) same
          (ap (λ (x : Deed). x.op) ok.is ∙ ok.of_op) refl

      answers : (k : Deed) → AnswersOk head.osts (only t past) (turn stamp (Target t)) t k → k ≡ d → d.reply.answer ≡ told.Done
      answers k (inl ok) same = other k (op.Get ok.resource ok.cookie ok.page) same (ap (λ (x : Deed). x.op) ok.is ∙ ok.of_op) refl
      answers k (inr (inl ok)) same =
          absurd (uncovered_not head r (only t past) (story t r past) all here.tied.target here.tied.object here.world
          (λ l i. kind_ranges t l here.some (granted_kind head t past here.stood.grown l i)) ok.request ok.waits ok.uncovered
          (subst (λ (x : Op). is_back r x ≡ true) (sym (ap (λ (x : Deed). x.op) same) ∙ ap (λ (x : Deed). x.op) ok.is) back))
      answers k (inr (inr (inl ok))) same = other k (op.Size ok.resource) same (ap (λ (x : Deed). x.op) ok.is ∙ ok.of_op) refl
      answers k (inr (inr (inr (inl ok)))) same = other k (op.Size ok.resource) same (ap (λ (x : Deed). x.op) ok.is ∙ ok.of_op) refl
      answers k (inr (inr (inr (inr ok)))) same = other k (op.Size ok.resource) same (ap (λ (x : Deed). x.op) ok.is ∙ ok.of_op) refl

      by : (x : word.Entry) → EntryOf head (only t past) (turn stamp (Target t)) (Target t) x
          → Acted (line (turn stamp (Target t)) x ∷ only t past) d → d.reply.answer ≡ told.Done
      by (word.Act k) ok (inl s) = acts k ok s
      by (word.Act k) ok (inr a) = old a
      by (word.Txn k) ok (inl s) = txns k ok s
      by (word.Txn k) ok (inr a) = old a
      by (word.Grant l (Some k)) ok (inl s) = grants l k ok (some_is k d s)
      by (word.Grant l None) ok (inl s) = absurd (cc)
      by (word.Grant l k) ok (inr a) = old a
      by (word.Wait l k) ok (inl s) = let w = ok.1 in other k (op.Enqueue w.resource w.mode w.extent) s
          (ap (λ (x : Deed). x.op) w.is ∙ w.of_op) refl
      by (word.Wait l k) ok (inr a) = old a
      by (word.Answers k) ok (inl s) = answers k ok.1 s
      by (word.Answers k) ok (inr a) = old a
      by x ok a = old a

  pub backs_line : (node : Node) → Here head t r (line (turn stamp node) e) past → (d : Deed)
      → Acted (only t (line (turn stamp node) e ∷ past)) d → is_back r d.op ≡ true → d.reply.answer ≡ told.Done
  backs_line (Client c) here d a back = here.tied.object.backs d ((client_still head t stamp c e past here.stood.ok.ok).does.back d a) back
  backs_line (Target u) here d a back = by (nat_eq t u) refl
    where
      by : (v : Bool) → nat_eq t u ≡ v → d.reply.answer ≡ told.Done
      by false off = here.tied.object.backs d (subst (λ (p : List Line). Acted p d) (other_only t stamp u e past off) a) back
      by true on =
          subst (λ (v : ℕ). Here head t r (line (turn stamp (Target v)) e) past → Acted (only t (line (turn stamp (Target v)) e ∷ past)) d
          → d.reply.answer ≡ told.Done) (eqb-true t u on)
          (λ here a. own_done here d (subst (λ (p : List Line). Acted p d) (own_only t stamp e past) a) back)
          here a
