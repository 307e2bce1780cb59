-- What a target has committed, by its lines and by its story: a line says what stands on its disk, and a close's story is ahead until its
-- commit comes. The committed number is 0, or that of a transaction that stands.
use Rattle.std.proofs.Common.{◌≡◌, ℕ, ◌≤◌, Bool, true, false, List, [], ◌∷◌, Option, Some, ◌⊎◌, inl, inr, ⊎_elim, refl, sym, subst, ap, ◌∙◌}
use Rattle.std.proofs.Common.{arith}
use Rattle.std.specs.Prelude.{nat_eq, nat_lt, not, ◌&&◌, ◌||◌, if◌then◌else◌, unwrap_or, map}
use Rattle.std.specs.List.{list_any}
use Rattle.std.proofs.lemmas.Bool.{or_right, eqb-true}
use Rattle.lu_base.specs.declared.ids.Node.{Node}
use Rattle.lu_base.specs.declared.ids.Node.TheVariants.{Client, Target}
use Rattle.lu_base.specs.declared.ids.Stamp.{Stamp}
use Rattle.lu_msg.specs.declared.commits.Batch.{Batch}
use Rattle.lu_msg.specs.declared.commits.Transaction.{Transaction as Stored}
use Rattle.lu_spec_entries.specs.Carried.{Deed, Disk, Outcome}
use Rattle.lu_spec_entries.specs.Words.{Entry, Txn as Made, Commit, Boot, Close, Line, line}
use Rattle.lu_spec_entries.specs.Concerns.{concerns, only}
use Rattle.lu_spec_entries.specs.Printed.{printed}
use Rattle.lu_spec_target.specs.Lives.{lives_of as lives_in}
use Rattle.lu_spec_target.specs.Phase.{first_of}
use Rattle.lu_spec_target.specs.Stored.{transaction_of, last_number, news, batch_of}
use Rattle.lu_spec_target.specs.Windows.{has_number}
use Rattle.lu_proof_lawful.specs.Covered.TargetStates.{server_of}
use Rattle.lu_proof_lawful.specs.Covered.TargetCloses.{disk_of, is_lost, loses, kept_numbers, closing_of}
use Rattle.lu_proof_lawful.specs.Covered.Heads.{Head}
use Rattle.lu_spec_laws.specs.Words.Pasts.{or_else}
use Rattle.lu_spec_laws.specs.Words.Scopes.{only_here, last_at}
use Rattle.lu_spec_laws.specs.Words.Boots.{committed_to, committed}
use Rattle.lu_spec_laws.specs.Words.Lost as law
use Rattle.lu_spec_laws.specs.Words.Lost.{Transaction, transactions}
use Rattle.lu_spec_laws.specs.Laws.Recovery.{stands}
use Rattle.lu_proof_lawful.proofs.Preconditions.Guards.{In}
use Rattle.lu_proof_lawful.proofs.Preconditions.StoryGuards.{EntryOf, CloseOk}
use Rattle.lu_proof_lawful.proofs.Preconditions.ClientLocks.{in_map, in_mapped}
use Rattle.lu_proof_lawful.proofs.Preconditions.Grown.{Allowed, Grown, GrownOf}
use Rattle.lu_proof_lawful.proofs.Preconditions.Lists.{self, in_filter}
use Rattle.lu_proof_lawful.proofs.Invariants.Groups.{turn, HoldsAt}
use Rattle.lu_proof_lawful.proofs.Invariants.TargetGroups.{Acted, IsMade, Stands}
use Rattle.lu_proof_lawful.proofs.Invariants.SlotLists.{last_in}
use Rattle.lu_proof_lawful.proofs.Invariants.All.{holds, holds_at}
use Rattle.lu_proof_lawful.proofs.Invariants.CloseFacts.{Closing, closing, kept_of_deed}
use Rattle.lu_proof_lawful.proofs.Invariants.ExactLists.{in_has}
use Rattle.lu_proof_lawful.proofs.Invariants.Lines.{acted_more}
use Rattle.lu_proof_lawful.specs.Fits.{WasMade}
use Rattle.lu_proof_lawful.proofs.Laws.NewDeeds.{client_acted, made_new}
use Rattle.lu_proof_lawful.proofs.Laws.Lost.{stays_on}
use Rattle.lu_proof_lawful.proofs.Laws.Printed.{flip}
use Rattle.lu_proof_lawful.proofs.Laws.Taking.{either_way}

-- ---- the number of the last line

module _ (head : Head) where
  abbrev stored_of : List Line → ℕ
  stored_of past = (disk_of head.osts head.clients past).committed

  -- a commit puts on the disk all up to its number
  commit_stores : (past : List Line) (stamp : Stamp) (t to : ℕ) (batch : Batch) → HoldsAt head past
      → HoldsAt head (line (turn stamp (Target t)) (Commit to batch) ∷ past)
      → stored_of (line (turn stamp (Target t)) (Commit to batch) ∷ past) ≡ to
  commit_stores past stamp t to batch h new = ⊎_elim
      (λ e. e)
      (λ (p : (next : ℕ) × (more : Batch) × (es : List Entry) × (closing_of head.clients
      (line (turn stamp (Target t)) (Commit to batch) ∷ past) ≡ Commit next more ∷ es)).
      absurd (h.comes.once p.0 p.1 (subst (λ (es : List Entry). In (Commit p.0 p.1) es) (sym p.3) (inl refl))))
      new.comes.level

  -- the last commit line says what stands on the disk
  pub told_committed : (t : ℕ) (past : List Line) → Grown head past → committed t (printed past) ≡ stored_of (only t past)
  told_committed t [] g = refl
  told_committed t (l ∷ past) g = by l.at.node l.entry g.0 ((holds head past g.1).at t) ((holds head (l ∷ past) g).at t)
      (told_committed t past g.1)
    where
      P : List Line
      P = only t past

      quiet : (node : Node) (e : Entry) → stored_of (line (turn l.at.stamp node) e ∷ P) ≡ stored_of P → committed t (printed past)
          ≡ stored_of P → committed t (printed past) ≡ stored_of (only t (line (turn l.at.stamp node) e ∷ past))
      quiet node e q h = h ∙ sym (either_way stored_of (line (turn l.at.stamp node) e) P (concerns t node e) q)

      by : (node : Node) (e : Entry) → Allowed head past (turn l.at.stamp node) e → HoldsAt head P
          → HoldsAt head (only t (line (turn l.at.stamp node) e ∷ past)) → committed t (printed past) ≡ stored_of P
          → committed t (printed (line (turn l.at.stamp node) e ∷ past)) ≡ stored_of (only t (line (turn l.at.stamp node) e ∷ past))
      by (Client c) (Commit to batch) k old new h = absurd k.ok
      by (Target u) (Commit to batch) k old new h = of (nat_eq u t) (nat_eq t u) (last_at committed_to t (printed past)) (flip u t) new h
        where
          x : Line
          x = line (turn l.at.stamp (Target u)) (Commit to batch)

          of : (a b : Bool) (o : Option ℕ) → a ≡ b → HoldsAt head (if b then x ∷ P else P) → unwrap_or o 0 ≡ stored_of P
              → unwrap_or (or_else (only_here (Some to) a) o) 0 ≡ stored_of (if b then x ∷ P else P)
          of true true o q new h = sym (commit_stores P l.at.stamp u to batch old new)
          of false false o q new h = h
          of true false o q new h = absurd (cc)
          of false true o q new h = absurd (cc)
      by (Client c) (Boot b disk) k old new h = absurd k.ok
      by (Target u) (Boot b disk) k old new h = h ∙ of (nat_eq t u) refl
        where
          x : Line
          x = line (turn l.at.stamp (Target u)) (Boot b disk)

          of : (own : Bool) → nat_eq t u ≡ own → stored_of P ≡ stored_of (if own then x ∷ P else P)
          of true e = ap (λ (d : Disk). d.committed) (sym (k.of t e).of_disk)
          of false e = refl
      by (Client c) e k old new h = quiet (Client c) e refl h
      by (Target u) e k old new h = quiet (Target u) e refl h

  -- which isn't above the story's number, and is that where no close has anything to show
  pub told_low : (t : ℕ) (past : List Line) → Grown head past → committed t (printed past) ≤ (server_of head.osts (only t past)).committed.0
  told_low t past g = subst (λ (n : ℕ). n ≤ (server_of head.osts (only t past)).committed.0) (sym (told_committed t past g))
      ((holds head past g).at t).history.on_disk

  pub told_level : (t : ℕ) (past : List Line) → Grown head past → closing_of head.clients (only t past) ≡ [] → committed t (printed past)
      ≡ (server_of head.osts (only t past)).committed.0
  told_level t past g none = told_committed t past g ∙ ⊎_elim
      (λ e. e)
      (λ (p : (next : ℕ) × (more : Batch) × (es : List Entry) × (closing_of head.clients (only t past) ≡ Commit next more ∷ es)). absurd
      (let e : [] ≡ Commit p.0 p.1 ∷ p.2 = sym none ∙ p.3 in cc))
      ((holds head past g).at t).comes.level

-- ---- the committed number is that of a transaction that stands

abbrev pub MadeStands : ℕ → List Line → ℕ → Type 0
MadeStands osts past n = (n ≡ 0) ⊎ ((d : Deed) × Acted past d × IsMade d × (d.reply.txn.0 ≡ n) × Stands osts past d)

abbrev AllMade : ℕ → List Line → Type 0
AllMade osts past = MadeStands osts past (server_of osts past).committed.0

module _ (head : Head) where
  -- a number that is committed, over one more line
  stands_on : (l : Line) (past : List Line) (n : ℕ) → n ≤ (server_of head.osts past).committed.0 → MadeStands head.osts past n
      → MadeStands head.osts (l ∷ past) n
  stands_on l past n le (inl e) = inl e
  stands_on l past n le (inr p) = inr (
    p.0,
    acted_more l.at l.entry past p.0 p.1,
    p.2,
    p.3,
    stays_on head.osts l past p.0.reply.txn.0 p.4 (let e = p.3 in omega (arith, e, le)),
  )

  closes_made : (past : List Line) (stamp : Stamp) (t : ℕ) (o : Outcome) → CloseOk head past (turn stamp (Target t)) o → HoldsAt head past
      → AllMade head.osts past → AllMade head.osts (line (turn stamp (Target t)) (Close o) ∷ past)
  closes_made past stamp t o ok h made =
      subst (λ (n : ℕ). MadeStands head.osts (l ∷ past) n) (ap (λ (d : Disk). d.committed) (sym c.disk))
      (⊎_elim (λ (e : last_number ts disk.committed ≡ disk.committed). subst (λ (n : ℕ). MadeStands head.osts (l ∷ past) n)
      (sym (e ∙ ok.of_committed)) (stands_on l past (server_of head.osts past).committed.0 (omega arith) made)) kept
      (last_in ts disk.committed))
    where
      l : Line
      l = line (turn stamp (Target t)) (Close o)

      c : Closing head past o
      c = closing head past (turn stamp (Target t)) o ok h

      disk : Disk
      disk = disk_of head.osts head.clients past

      ts : List Stored
      ts = news disk (batch_of o.kept (lives_in o.gone) o.joins)

      -- what is kept isn't lost
      stays : (n : ℕ) (b : Bool) → b ≡ false → has_number n (kept_numbers o) ≡ true
          → (b || loses (server_of head.osts past).committed.0 o n) ≡ false
      stays n b e i = ap (λ (x : Bool). x || loses (server_of head.osts past).committed.0 o n) e
          ∙ ap (λ (x : Bool). nat_lt (server_of head.osts past).committed.0 n && (nat_lt n (first_of o.boot) && not x)) i
          ∙ off (nat_lt (server_of head.osts past).committed.0 n) (nat_lt n (first_of o.boot))
        where
          off : (x y : Bool) → (x && (y && false)) ≡ false
          off true true = refl
          off true false = refl
          off false y = refl

      kept : (s : Stored) × In s ts × (last_number ts disk.committed ≡ s.txn.0)
          → MadeStands head.osts (l ∷ past) (last_number ts disk.committed)
      kept p =
          let i = in_filter (λ (x : Stored). nat_lt disk.committed x.txn.0) p.0 (map {A = Deed} {B = Stored} transaction_of o.kept) p.1 in
          let e = in_map transaction_of p.0 o.kept i.0 in
          let d = kept_of_deed head past (turn stamp (Target t)) o ok h e.0 e.1 in
          let number : d.deed.reply.txn.0 ≡ last_number ts disk.committed = d.number ∙ ap (λ (x : Stored). x.txn.0) e.2 ∙ sym p.2 in
          let has : has_number e.0.reply.txn.0 (kept_numbers o) ≡ true =
          in_has e.0.reply.txn.0 (kept_numbers o) (in_mapped (λ x. x.reply.txn.0) e.0 o.kept e.1) in
          inr (
            d.deed,
            d.acted,
            d.made,
            number,
            stays d.deed.reply.txn.0 (is_lost head.osts past d.deed.reply.txn.0) d.stands
                (subst (λ (n : ℕ). has_number n (kept_numbers o) ≡ true) (sym d.number) has),
          )

  pub made_stands : (past : List Line) → GrownOf head past → AllMade head.osts past
  made_stands [] g = inl refl
  made_stands (l ∷ past) g = by l.at.node l.entry g.0 (holds_at head past g.3) (made_stands past g.3)
    where
      by : (node : Node) (e : Entry) → EntryOf head past (turn l.at.stamp node) node e → HoldsAt head past → AllMade head.osts past
          → AllMade head.osts (line (turn l.at.stamp node) e ∷ past)
      by (Target t) (Commit to batch) ok h made = ⊎_elim
          (λ (p : (d : Deed) × In d (server_of head.osts past).log × (to ≡ d.reply.txn.0)). let r = h.history.log p.0 p.1
          in inr (p.0, r.0, r.1, sym p.2, r.2))
          (λ (e : to ≡ (server_of head.osts past).committed.0). subst (λ (n : ℕ). MadeStands head.osts past n) (sym e) made)
          ok.is
      by (Target t) (Close o) ok h made = closes_made past l.at.stamp t o ok h made
      by (Client c) e ok h made = stands_on (line (turn l.at.stamp (Client c)) e) past (server_of head.osts past).committed.0 (omega arith)
          made
      by (Target t) e ok h made = stands_on (line (turn l.at.stamp (Target t)) e) past (server_of head.osts past).committed.0 (omega arith)
          made

-- ---- transactions by the lines

pub made_more : (t : ℕ) (l : Line) (past : List Line) (n : ℕ) → WasMade t past n → WasMade t (l ∷ past) n
made_more t l past n = by l.entry
  where
    by : (e : Entry) → WasMade t past n → WasMade t (line l.at e ∷ past) n
    by (Made d) m = inr m
    by _ m = m

-- the laws read it
pub record Listed (t : ℕ) (past : List Line) (n : ℕ) : Type 0 where
  pub made : WasMade t past n
  pub listed : list_any (λ (x : Transaction). nat_eq x.number n) (transactions t (printed past)) ≡ true

pub listed : (head : Head) (t : ℕ) (past : List Line) (d : Deed) → Grown head past → Acted (only t past) d → IsMade d
    → Listed t past d.reply.txn.0
listed head t [] d g a made = absurd a
listed head t (l ∷ past) d g a made = by l.at.node l.entry g.0 a (λ b. listed head t past d g.1 b made)
  where
    P : List Line
    P = only t past

    n : ℕ
    n = d.reply.txn.0

    more : (a b : Bool) (e : Transaction) (old : List Transaction) → list_any (λ (x : Transaction). nat_eq x.number n) old ≡ true
        → list_any (λ (x : Transaction). nat_eq x.number n) (if a then e ∷ old else old) ≡ true
    more true b e old h = or_right (nat_eq e.number n) (list_any (λ (x : Transaction). nat_eq x.number n) old) h
    more false b e old h = h

    client : (c : ℕ) (e : Entry) (b : Bool) → (b ≡ true → EntryOf head P (turn l.at.stamp (Client c)) (Client c) e)
        → Acted (if b then line (turn l.at.stamp (Client c)) e ∷ P else P) d → Acted P d
    client c e true of i = client_acted head P l.at.stamp c e d (of refl) i
    client c e false of i = i

    by : (node : Node) (e : Entry) → Allowed head past (turn l.at.stamp node) e → Acted (only t (line (turn l.at.stamp node) e ∷ past)) d
        → (Acted P d → Listed t past n) → Listed t (line (turn l.at.stamp node) e ∷ past) n
    by (Client c) (Made e) k i ih = absurd k.ok
    by (Target u) (Made e) k i ih = of (nat_eq t u) refl i
      where
        x : Line
        x = line (turn l.at.stamp (Target u)) (Made e)

        one : Transaction
        one = record { number = e.reply.txn.0; who = e.reply.who; seen = e.reply.seen }

        old : Acted P d → Listed t (x ∷ past) n
        old j = let r = ih j in record { made = inr r.made; listed = more (nat_eq u t) false one (transactions t (printed past)) r.listed }

        of : (b : Bool) → nat_eq t u ≡ b → Acted (if b then x ∷ P else P) d → Listed t (x ∷ past) n
        of false q i = old i
        of true q (inr j) = old j
        of true q (inl same) =
            let number : e.reply.txn.0 ≡ n = ap (λ (y : Deed). y.reply.txn.0) same in
            record {
              made = inl (ap Target (sym (eqb-true t u q)), number);
              listed = ap (λ (b : Bool). list_any (λ (y : Transaction). nat_eq y.number n)
                  (if b then one ∷ transactions t (printed past) else transactions t (printed past))) (flip u t ∙ q)
                  ∙ ap (λ (b : Bool). b || list_any (λ (y : Transaction). nat_eq y.number n) (transactions t (printed past)))
                  (subst (λ (m : ℕ). nat_eq m n ≡ true) (sym number) (self n));
            }
    by (Client c) e k i ih = let r = ih (client c e (concerns t (Client c) e) (k.of t) i) in record { made = r.made; listed = r.listed }
    by (Target u) e k i ih = let r = ih (was (nat_eq t u) refl i) in record { made = r.made; listed = r.listed }
      where
        was : (b : Bool) → nat_eq t u ≡ b → Acted (if b then line (turn l.at.stamp (Target u)) e ∷ P else P) d → Acted P d
        was false q j = j
        was true q j = ⊎_elim (λ (same : e ≡ Made d). absurd (cc)) (λ (a : Acted P d). a)
            (made_new head P l.at.stamp u e d (k.of t q) j made)

-- what stands by the story stands by the laws
pub stands_law : (head : Head) (t : ℕ) (past : List Line) (n : ℕ) → Grown head past
    → ((m : ℕ) → WasMade t past m → law.is_lost (printed past) t m ≡ is_lost head.osts (only t past) m)
    → MadeStands head.osts (only t past) n → (nat_eq n 0 || stands t (printed past) n) ≡ true
stands_law head t past n g same (inl e) = ap (λ (m : ℕ). nat_eq m 0 || stands t (printed past) n) e
stands_law head t past n g same (inr p) =
    let k = listed head t past p.0 g p.1 p.2 in
    let stays : law.is_lost (printed past) t p.0.reply.txn.0 ≡ false = same p.0.reply.txn.0 k.made ∙ p.4 in
    subst (λ (m : ℕ). (nat_eq m 0 || stands t (printed past) m) ≡ true) p.3
    (or_right (nat_eq p.0.reply.txn.0 0) (stands t (printed past) p.0.reply.txn.0) (rw (k.listed, stays) refl))
