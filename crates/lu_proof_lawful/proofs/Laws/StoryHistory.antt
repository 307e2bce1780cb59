-- Of an object's story only three kinds of lines make items of its history, or lose some: changes, transactions, and closes. What is lost
-- matters
-- only of transactions that the story has, which the target made.
use Rattle.std.proofs.Common.{◌≡◌, ℕ, Bool, true, List, [], ◌∷◌, ◌⊎◌, Option, Some, None, inl, inr, refl, sym, ap, ◌∙◌}
use Rattle.std.specs.Prelude.{not, ◌&&◌, ◌||◌, ◌==◌, if◌then◌else◌, option_map}
use Rattle.std.proofs.lemmas.Bool.{cond_both, eqb-true}
use Rattle.lu_base.specs.declared.ids.Node.{Node}
use Rattle.lu_base.specs.declared.ids.Node.TheVariants.{Client, Target}
use Rattle.lu_base.specs.declared.locks.Resource.{Resource}
use Rattle.lu_held.specs.Locks.{same_resource}
use Rattle.lu_spec_entries.specs.Carried.{Deed}
use Rattle.lu_spec_entries.specs.Words as word
use Rattle.lu_spec_entries.specs.Words.{Line, line, is_target}
use Rattle.lu_spec_client.specs.Calls.{life_at}
use Rattle.lu_proof_lawful.specs.Fits.{WasMade}
use Rattle.lu_proof_bytes.specs.Object.Words.{Op, Entry, Takes, Flies, Heard, Hold, Drop, Forgets, Tells, Grant, Wait, Promote, Acts, Txn}
use Rattle.lu_proof_bytes.specs.Object.Words.{Release, Evict, Commit, Close, Send}
use Rattle.lu_proof_bytes.specs.Object.Folds.{also}
use Rattle.lu_proof_bytes.specs.Object.History.{Item, history, piece_item, told_item}
use Rattle.lu_proof_objects.specs.Points.{change_of}
use Rattle.lu_proof_lawful.specs.Projection.Lives.{number_of, is_live}
use Rattle.lu_proof_lawful.specs.Projection.Locks.{held, lock_over}
use Rattle.lu_proof_lawful.specs.Projection.Requests.{op_of}
use Rattle.lu_proof_lawful.specs.Projection.Calls.{did, takes}
use Rattle.lu_proof_lawful.specs.Projection.Messages.{by_client, by_target, request_as}
use Rattle.lu_proof_lawful.specs.Projection.Closes.{closes}
use Rattle.lu_proof_lawful.specs.Projection.Stories.{with_entry, of_life, of_life_at, of_target, if_on, served, step, story}

abbrev pub IsQuiet : word.Entry → Type 0
IsQuiet (word.Changes resource change) = ⊥
IsQuiet (word.Txn d) = ⊥
IsQuiet (word.Close o) = ⊥
IsQuiet _ = Unit {0}

module _ (outs lost : ℕ → Bool) (h : List Entry) where
  -- what leaves the history
  abbrev Leaves : List Entry → Type 0
  Leaves k = history outs lost k ≡ history outs lost h

  mapped : {A : Type 0} (f : A → Entry) (o : Option A) → ((a : A) → Leaves (f a ∷ h)) → Leaves (with_entry (option_map f o) h)
  mapped f None all = refl
  mapped f (Some a) all = all a

  at_life : (node : Node) (past : List Line) (gives : ℕ → Option Entry) → ((c : ℕ) → Leaves (with_entry (gives c) h))
      → Leaves (of_life node past gives h)
  at_life (Target u) past gives all = refl
  at_life (Client c) past gives all = cond_both (is_live c past h) (with_entry (gives (number_of (life_at c past))) h) h Leaves
      (λ _. all (number_of (life_at c past))) (λ _. refl)

  at_life_of : (t u : ℕ) (node : Node) (past : List Line) (gives : ℕ → Option Entry) → ((c : ℕ) → Leaves (with_entry (gives c) h))
      → Leaves (of_life_at t u node past gives h)
  at_life_of t u node past gives all = cond_both (u == t) (of_life node past gives h) h Leaves (λ _. at_life node past gives all)
      (λ _. refl)

  at_target : (t : ℕ) (node : Node) (e : Option Entry) → Leaves (with_entry e h) → Leaves (of_target t node e h)
  at_target t node e all = cond_both (is_target t node) (with_entry e h) h Leaves (λ _. all) (λ _. refl)

  on_it : (r q : Resource) (e : Entry) → Leaves (e ∷ h) → Leaves (with_entry (if_on r q e) h)
  on_it r q e all = cond_both (same_resource q r) (Some e) None (λ (o : Option Entry). Leaves (with_entry o h)) (λ _. all) (λ _. refl)

  pub quiet_step : (t : ℕ) (r : Resource) (node : Node) (past : List Line) (e : word.Entry) → IsQuiet e → Leaves (step t r node past e h)
  quiet_step t r node past (word.Send (Target u) m) quiet = at_life_of t u node past (λ c. option_map Send (by_client r h m))
      (λ c. mapped Send (by_client r h m) (λ k. refl))
  quiet_step t r node past (word.Send (Client c) m) quiet = at_target t node (option_map Send (by_target h m))
      (mapped Send (by_target h m) (λ k. refl))
  quiet_step t r node past (word.Flies u f) quiet = at_life_of t u node past _ (λ c. mapped _ (op_of r h f.op) (λ k. refl))
  quiet_step t r node past (word.Heard u f p) quiet = at_life_of t u node past _ (λ c. mapped _ (op_of r h f.op) (λ k. refl))
  quiet_step t r node past (word.Hold u l marked size seen) quiet = at_life_of t u node past _ (λ c. on_it r l.resource _ refl)
  quiet_step t r node past (word.Drop u l) quiet = at_life_of t u node past _ (λ c. on_it r l.resource _ refl)
  quiet_step t r node past (word.Knows u boot) quiet = at_life_of t u node past (λ c. Some (Forgets c)) (λ c. refl)
  quiet_step t r node past (word.WritesBack q change) quiet =
      cond_both (same_resource q r) (of_life node past (λ c. takes c change h) h) h Leaves
      (λ _. at_life node past _ (λ c. mapped _ (lock_over c (change_of change) (held h)) (λ k. refl))) (λ _. refl)
  quiet_step t r node past (word.Grant l None) quiet = at_target t node _ (on_it r l.resource _ refl)
  quiet_step t r node past (word.Grant l (Some d)) quiet = at_target t node _ (mapped _ (op_of r h d.op) (λ k. refl))
  quiet_step t r node past (word.Wait l d) quiet = at_target t node _ (mapped _ (op_of r h d.op) (λ k. refl))
  quiet_step t r node past (word.Act d) quiet = at_target t node _ (mapped _ (op_of r h d.op) (λ k. refl))
  quiet_step t r node past (word.Answers d) quiet = at_target t node _ (mapped _ (op_of r h d.op) (λ k. refl))
  quiet_step t r node past (word.Release l) quiet = at_target t node _ (on_it r l.resource _ refl)
  quiet_step t r node past (word.Commit to batch) quiet = at_target t node (Some (Commit to)) refl
  quiet_step t r node past (word.Evict who cause) quiet = at_target t node (Some (Evict (number_of who))) refl
  quiet_step t r node past (word.Changes q change) quiet = absurd quiet
  quiet_step t r node past (word.Txn d) quiet = absurd quiet
  quiet_step t r node past (word.Close o) quiet = absurd quiet
  quiet_step t r node past e quiet = refl

-- ---- what is lost

-- the story has a transaction of that number
abbrev pub HasTxn : List Entry → ℕ → Type 0
HasTxn [] n = ⊥
HasTxn (Txn m r ∷ h) n = (m ≡ n) ⊎ HasTxn h n
HasTxn (_ ∷ h) n = HasTxn h n

also_same : (L M l : ℕ → Bool) (h : List Entry) → ((n : ℕ) → HasTxn h n → L n ≡ M n) → (n : ℕ) → HasTxn h n → also L l n ≡ also M l n
also_same L M l h same n i = ap (λ (b : Bool). b || l n) (same n i)

pub history_same : (outs L M : ℕ → Bool) (h : List Entry) → ((n : ℕ) → HasTxn h n → L n ≡ M n) → history outs L h ≡ history outs M h
history_same outs L M [] same = refl
history_same outs L M (Txn m r ∷ h) same =
    ap (λ (is : List Item). if outs r.life && not (L m) then piece_item r.life r.op is else is)
    (history_same outs L M h (λ n i. same n (inr i)))
    ∙ ap (λ (b : Bool). if outs r.life && not b then piece_item r.life r.op (history outs M h) else history outs M h) (same m (inl refl))
history_same outs L M (Tells c call ∷ h) same = ap (λ (is : List Item). if outs c then is else told_item c call is)
    (history_same outs L M h same)
history_same outs L M (Close b l gone ∷ h) same = history_same outs (also L l) (also M l) h (also_same L M l h same)
history_same outs L M (Takes c k ch ∷ h) same = history_same outs L M h same
history_same outs L M (Flies k ∷ h) same = history_same outs L M h same
history_same outs L M (Heard k a ∷ h) same = history_same outs L M h same
history_same outs L M (Hold l s sn ∷ h) same = history_same outs L M h same
history_same outs L M (Drop l ∷ h) same = history_same outs L M h same
history_same outs L M (Forgets c ∷ h) same = history_same outs L M h same
history_same outs L M (Grant k l s sn ∷ h) same = history_same outs L M h same
history_same outs L M (Wait k l ∷ h) same = history_same outs L M h same
history_same outs L M (Promote l ∷ h) same = history_same outs L M h same
history_same outs L M (Acts k a ∷ h) same = history_same outs L M h same
history_same outs L M (Release k ∷ h) same = history_same outs L M h same
history_same outs L M (Evict c ∷ h) same = history_same outs L M h same
history_same outs L M (Commit n ∷ h) same = history_same outs L M h same
history_same outs L M (Send m ∷ h) same = history_same outs L M h same

-- ---- its transactions are those of the target

module _ (h : List Entry) (n : ℕ) where
  abbrev Old : List Entry → Type 0
  Old k = HasTxn k n → HasTxn h n

  old_mapped : {A : Type 0} (f : A → Entry) (o : Option A) → ((a : A) → Old (f a ∷ h)) → Old (with_entry (option_map f o) h)
  old_mapped f None all i = i
  old_mapped f (Some a) all i = all a i

  old_life : (node : Node) (past : List Line) (gives : ℕ → Option Entry) → ((c : ℕ) → Old (with_entry (gives c) h))
      → Old (of_life node past gives h)
  old_life (Target u) past gives all = λ i. i
  old_life (Client c) past gives all = cond_both (is_live c past h) (with_entry (gives (number_of (life_at c past))) h) h Old
      (λ _. all (number_of (life_at c past))) (λ _ i. i)

  old_life_of : (t u : ℕ) (node : Node) (past : List Line) (gives : ℕ → Option Entry) → ((c : ℕ) → Old (with_entry (gives c) h))
      → Old (of_life_at t u node past gives h)
  old_life_of t u node past gives all = cond_both (u == t) (of_life node past gives h) h Old (λ _. old_life node past gives all) (λ _ i. i)

  old_target : (t : ℕ) (node : Node) (e : Option Entry) → Old (with_entry e h) → Old (of_target t node e h)
  old_target t node e all = cond_both (is_target t node) (with_entry e h) h Old (λ _. all) (λ _ i. i)

  old_on : (r q : Resource) (e : Entry) → Old (e ∷ h) → Old (with_entry (if_on r q e) h)
  old_on r q e all = cond_both (same_resource q r) (Some e) None (λ (o : Option Entry). Old (with_entry o h)) (λ _. all) (λ _ i. i)

  old_step : (t : ℕ) (r : Resource) (node : Node) (past : List Line) (e : word.Entry) → ((d : Deed) → e ≡ word.Txn d → ⊥)
      → Old (step t r node past e h)
  old_step t r node past (word.Send (Target u) m) other = old_life_of t u node past (λ c. option_map Send (by_client r h m))
      (λ c. old_mapped Send (by_client r h m) (λ k i. i))
  old_step t r node past (word.Send (Client c) m) other = old_target t node (option_map Send (by_target h m))
      (old_mapped Send (by_target h m) (λ k i. i))
  old_step t r node past (word.Flies u f) other = old_life_of t u node past _ (λ c. old_mapped _ (op_of r h f.op) (λ k i. i))
  old_step t r node past (word.Heard u f p) other = old_life_of t u node past _ (λ c. old_mapped _ (op_of r h f.op) (λ k i. i))
  old_step t r node past (word.Hold u l marked size seen) other = old_life_of t u node past _ (λ c. old_on r l.resource _ (λ i. i))
  old_step t r node past (word.Drop u l) other = old_life_of t u node past _ (λ c. old_on r l.resource _ (λ i. i))
  old_step t r node past (word.Knows u boot) other = old_life_of t u node past (λ c. Some (Forgets c)) (λ c i. i)
  old_step t r node past (word.Changes q change) other =
      cond_both (same_resource q r) (of_life node past (λ c. did c change h) h) h Old
      (λ _. old_life node past _ (λ c. old_mapped _ (lock_over c (change_of change) (held h)) (λ k i. i))) (λ _ i. i)
  old_step t r node past (word.WritesBack q change) other =
      cond_both (same_resource q r) (of_life node past (λ c. takes c change h) h) h Old
      (λ _. old_life node past _ (λ c. old_mapped _ (lock_over c (change_of change) (held h)) (λ k i. i))) (λ _ i. i)
  old_step t r node past (word.Grant l None) other = old_target t node _ (old_on r l.resource _ (λ i. i))
  old_step t r node past (word.Grant l (Some d)) other = old_target t node _ (old_mapped _ (op_of r h d.op) (λ k i. i))
  old_step t r node past (word.Wait l d) other = old_target t node _ (old_mapped _ (op_of r h d.op) (λ k i. i))
  old_step t r node past (word.Act d) other = old_target t node _ (old_mapped _ (op_of r h d.op) (λ k i. i))
  old_step t r node past (word.Answers d) other = old_target t node _ (old_mapped _ (op_of r h d.op) (λ k i. i))
  old_step t r node past (word.Txn d) other = absurd (other d refl)
  old_step t r node past (word.Release l) other = old_target t node _ (old_on r l.resource _ (λ i. i))
  old_step t r node past (word.Commit to batch) other = old_target t node (Some (Commit to)) (λ i. i)
  old_step t r node past (word.Close o) other = old_target t node (Some (closes h o)) (λ i. i)
  old_step t r node past (word.Evict who cause) other = old_target t node (Some (Evict (number_of who))) (λ i. i)
  old_step t r node past e other = λ i. i

pub txn_made : (t : ℕ) (r : Resource) (past : List Line) (n : ℕ) → HasTxn (story t r past) n → WasMade t past n
txn_made t r [] n i = absurd i
txn_made t r (l ∷ past) n i = by l.entry i (txn_made t r past n)
  where
    h : List Entry
    h = story t r past

    made : (d : Deed) → HasTxn (of_target t l.at.node (served r d h (Txn d.reply.txn.0)) h) n → (HasTxn h n → WasMade t past n)
        → WasMade t (line l.at (word.Txn d) ∷ past) n
    made d i ih = cond_both (is_target t l.at.node) (with_entry (served r d h (Txn d.reply.txn.0)) h) h
        (λ (k : List Entry). HasTxn k n → WasMade t (line l.at (word.Txn d) ∷ past) n)
        (λ e j. of l.at.node e (op_of r h d.op) j)
        (λ e j. inr (ih j)) i
      where
        of : (node : Node) → is_target t node ≡ true → (o : Option Op)
            → HasTxn (with_entry (option_map (λ o. Txn d.reply.txn.0 (request_as (number_of d.reply.who) d.reply.xid.0 o)) o) h) n
            → ((node ≡ Target t) × (d.reply.txn.0 ≡ n)) ⊎ WasMade t past n
        of (Client c) e o j = absurd (cc)
        of (Target u) e None j = inr (ih j)
        of (Target u) e (Some o) (inl q) = inl (ap Target (sym (eqb-true t u e)), q)
        of (Target u) e (Some o) (inr j) = inr (ih j)

    by : (e : word.Entry) → HasTxn (step t r l.at.node past e (story t r past)) n → (HasTxn (story t r past) n → WasMade t past n)
        → WasMade t (line l.at e ∷ past) n
    by (word.Txn d) i ih = made d i ih
    by e i ih = ih (old_step (story t r past) n t r l.at.node past e (λ d q. absurd (cc)) i)
