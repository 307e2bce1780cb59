-- The lives that are gone in a whole trace, and the numbers that its closes lost, fit it: what stands at the end saw only what stands, what
-- a
-- life that isn't gone heard or saw stands, and what is committed stands.
use Rattle.std.proofs.Common.{◌≡◌, ℕ, ◌≤◌, Bool, true, false, List, [], ◌∷◌, ◌⊎◌, inl, inr, ⊎_elim, refl, sym, subst, ap, ◌∙◌, arith}
use Rattle.std.proofs.Common.{le_refl}
use Rattle.std.specs.Prelude.{nat_lt, filter, if◌then◌else◌}
use Rattle.std.proofs.lemmas.Bool.{cond_both, cond-true, ltb-true}
use Rattle.lu_base.specs.declared.ids.At.{At}
use Rattle.lu_base.specs.declared.ids.Node.{Node}
use Rattle.lu_base.specs.declared.ids.Node.TheVariants.{Client, Target}
use Rattle.lu_base.specs.declared.ids.Stamp.{Stamp}
use Rattle.lu_base.specs.declared.ids.Txn.{Txn as TxnOf}
use Rattle.lu_base.specs.declared.ids.Who.{Who}
use Rattle.lu_msg.specs.declared.commits.Transaction.{Transaction}
use Rattle.lu_msg.specs.declared.messages.Reply.{Reply as ReplyTo}
use Rattle.lu_spec_entries.specs.Carried.{Deed, Flight, Outcome}
use Rattle.lu_spec_entries.specs.Words.{Entry, Heard, Hold, Txn as Made, Commit, Close, Line, line}
use Rattle.lu_spec_entries.specs.Concerns.{concerns, only}
use Rattle.lu_spec_target.specs.Stored.{last_number}
use Rattle.lu_proof_lawful.specs.Covered.Calls.{life_at}
use Rattle.lu_proof_lawful.specs.Covered.ClientStates.{is_own}
use Rattle.lu_proof_lawful.specs.Covered.TargetStates.{server_of}
use Rattle.lu_proof_lawful.specs.Covered.TargetCloses.{disk_of, outcome_of, is_lost}
use Rattle.lu_proof_lawful.specs.Covered.Heads.{Head}
use Rattle.lu_proof_lawful.specs.Fits.{AllStand, SeenStand, HeardStand, HeldStand, CommitsStand, EvictedOut, WasMade, Fits}
use Rattle.lu_proof_lawful.proofs.Preconditions.Guards.{In, EntryOk}
use Rattle.lu_proof_lawful.proofs.Preconditions.StoryGuards.{EntryOf, CloseOk}
use Rattle.lu_proof_lawful.proofs.Preconditions.Lists.{self, own_self}
use Rattle.lu_proof_lawful.proofs.Preconditions.Parts.{life_is_of}
use Rattle.lu_proof_lawful.proofs.Preconditions.Grown.{Allowed, Grown}
use Rattle.lu_proof_lawful.proofs.Invariants.Groups.{turn, HeardAs, History, HoldsAt}
use Rattle.lu_proof_lawful.proofs.Invariants.TargetGroups.{Acted, Evicted, Had, HasSlot, SawIn, IsMade}
use Rattle.lu_proof_lawful.proofs.Invariants.All.{holds}
use Rattle.lu_proof_lawful.proofs.Invariants.Lines.{only_more}
use Rattle.lu_proof_lawful.proofs.Invariants.Unheld.{heard_as_more}
use Rattle.lu_proof_lawful.proofs.Laws.Deeds.{txn_for}
use Rattle.lu_proof_lawful.proofs.Laws.Lost.{stays_on}
use Rattle.lu_proof_lawful.proofs.Laws.Commits.{made_more}

-- ---- what is committed stays so

last_up : (n : ℕ) (ts : List Transaction) (m : ℕ) → n ≤ m → n ≤ last_number (filter (λ t. nat_lt n t.txn.0) ts) m
last_up n [] m le = le
last_up n (t ∷ ts) m le =
    cond_both (nat_lt n t.txn.0) (t ∷ filter (λ t. nat_lt n t.txn.0) ts) (filter (λ t. nat_lt n t.txn.0) ts)
    (λ (us : List Transaction). n ≤ last_number us m)
    (λ e. last_up n ts t.txn.0 (let lt = ltb-true n t.txn.0 e in omega (arith, lt))) (λ e. last_up n ts m le)

close_up : (head : Head) (past : List Line) (at : At) (o : Outcome) → CloseOk head past at o
    → (server_of head.osts past).committed.0 ≤ o.disk.committed
close_up head past at o ok =
    subst (λ (v : Outcome). (server_of head.osts past).committed.0 ≤ v.disk.committed) (sym ok.is)
    (subst (λ (m : ℕ). m ≤ (outcome_of head.osts head.clients at past).disk.committed) ok.of_committed
    (last_up (disk_of head.osts head.clients past).committed _ (disk_of head.osts head.clients past).committed
    (le_refl (disk_of head.osts head.clients past).committed)))

module _ (head : Head) where
  abbrev number : ℕ → List Line → ℕ
  number t past = (server_of head.osts (only t past)).committed.0

  -- over the story of a target
  story_up : (past : List Line) (stamp : Stamp) (node : Node) (e : Entry) → EntryOf head past (turn stamp node) node e
      → History head.osts head.clients past → (server_of head.osts past).committed.0 ≤
      (server_of head.osts (line (turn stamp node) e ∷ past)).committed.0
  story_up past stamp (Client c) e ok h = le_refl (server_of head.osts past).committed.0
  story_up past stamp (Target t) (Commit to batch) ok h =
      ⊎_elim
      (λ (k : (d : Deed) × In d (server_of head.osts past).log × (to ≡ d.reply.txn.0)). let above = (h.log k.0 k.1).3 in let is = k.2
      in omega (arith, above, is))
      (λ (is : to ≡ (server_of head.osts past).committed.0). omega (arith, is))
      ok.is
  story_up past stamp (Target t) (Close o) ok h = close_up head past (turn stamp (Target t)) o ok
  story_up past stamp (Target t) e ok h = le_refl (server_of head.osts past).committed.0

  whole_up : (t : ℕ) (l : Line) (past : List Line) → Grown head (l ∷ past) → number t past ≤ number t (l ∷ past)
  whole_up t l past g =
      cond_both (concerns t l.at.node l.entry) (l ∷ only t past) (only t past)
      (λ (P : List Line). number t past ≤ (server_of head.osts P).committed.0)
      (λ o. story_up (only t past) l.at.stamp l.at.node l.entry (g.0.of t o) ((holds head past g.1).at t).history)
      (λ o. le_refl (number t past))

-- ---- stories grow

heard_story : (t : ℕ) (l : Line) (past : List Line) (who : Who) (f : Flight) (r : ReplyTo) → HeardAs (only t past) who f r
    → HeardAs (only t (l ∷ past)) who f r
heard_story t l past who f r h = cond_both (concerns t l.at.node l.entry) (l ∷ only t past) (only t past)
    (λ (P : List Line). HeardAs P who f r) (λ o. heard_as_more l (only t past) who f r h) (λ o. h)

saw_story : (t : ℕ) (l : Line) (past : List Line) (who : Who) (n : ℕ) → SawIn (only t past) who n → SawIn (only t (l ∷ past)) who n
saw_story t l past who n s = cond_both (concerns t l.at.node l.entry) (l ∷ only t past) (only t past) (λ (P : List Line). SawIn P who n)
    (λ o. by l.entry) (λ o. s)
  where
    by : (e : Entry) → SawIn (line l.at e ∷ only t past) who n
    by (Heard u f r) = inr s
    by (Hold u lock marked size seen) = inr s
    by _ = s

-- what is so with one line more of the story
with_own : (t : ℕ) (x : Line) (past : List Line) (P : List Line → Type 0) → concerns t x.at.node x.entry ≡ true → P (x ∷ only t past)
    → P (only t (x ∷ past))
with_own t x past P own p = subst P (sym (cond-true (concerns t x.at.node x.entry) (x ∷ only t past) (only t past) own)) p

-- ---- whoever is gone, and whatever is lost, at the end

-- lost: by the laws, and so by the story; of numbers that no transaction has none is lost
module _ (head : Head) (out : Who → Bool) (lost : ℕ → ℕ → Bool) (whole : List Line) (g : Grown head whole)
    (same : (t n : ℕ) → WasMade t whole n → lost t n ≡ is_lost head.osts (only t whole) n)
    (none : (t n : ℕ) → (WasMade t whole n → ⊥) → lost t n ≡ false) (made_or : (t n : ℕ) → WasMade t whole n ⊎ (WasMade t whole n → ⊥))
    (gone : EvictedOut out whole) (stays : (who : Who) → out who ≡ false → (t : ℕ) → Evicted (only t whole) who → ⊥) where
  inside : (t : ℕ) → HoldsAt head (only t whole)
  inside t = (holds head whole g).at t

  -- a number that the story hasn't lost
  not_lost : (t n : ℕ) → is_lost head.osts (only t whole) n ≡ false → lost t n ≡ false
  not_lost t n e = ⊎_elim (λ (m : WasMade t whole n). same t n m ∙ e) (λ (m : WasMade t whole n → ⊥). none t n m) (made_or t n)

  all_stand : (t : ℕ) (ns : List ℕ) → ((n : ℕ) → In n ns → is_lost head.osts (only t whole) n ≡ false) → AllStand (lost t) ns
  all_stand t [] h = tt
  all_stand t (n ∷ ns) h = (not_lost t n (h n (inl refl)), all_stand t ns (λ m i. h m (inr i)))

  -- all that is so in a past is so in the end
  abbrev AllActed : List Line → Type 0
  AllActed past = (t : ℕ) (d : Deed) → Acted (only t past) d → Acted (only t whole) d

  abbrev AllMade : List Line → Type 0
  AllMade past = (t n : ℕ) → WasMade t past n → WasMade t whole n

  abbrev AllHeard : List Line → Type 0
  AllHeard past = (t : ℕ) (who : Who) (f : Flight) (r : ReplyTo) → HeardAs (only t past) who f r → HeardAs (only t whole) who f r

  abbrev AllSaw : List Line → Type 0
  AllSaw past = (t : ℕ) (who : Who) (n : ℕ) → SawIn (only t past) who n → SawIn (only t whole) who n

  seen : (past : List Line) → Grown head past → AllActed past → AllMade past → SeenStand lost past
  seen [] k a m = tt
  seen (l ∷ past) k a m = by l.at.node l.entry k.0 a m (seen past k.1 (λ t d i. a t d (only_more t l past d i))
      (λ t n i. m t n (made_more t l past n i)))
    where
      by : (node : Node) (e : Entry) → Allowed head past (turn l.at.stamp node) e → AllActed (line (turn l.at.stamp node) e ∷ past)
          → AllMade (line (turn l.at.stamp node) e ∷ past) → SeenStand lost past → SeenStand lost (line (turn l.at.stamp node) e ∷ past)
      by (Client c) (Made d) k a m ih = absurd k.ok
      by (Target t) (Made d) k a m ih =
          let number = ap (λ (v : TxnOf). v.0) (txn_for head past l.at.stamp t d k).number in
          let made : IsMade d = omega (arith, number) in
          let did = a t d (with_own t (line (turn l.at.stamp (Target t)) (Made d)) past (λ (P : List Line). Acted P d) (self t) (inl refl))
          in (
            λ e. all_stand t d.reply.seen ((inside t).history.stands d did made
                (sym (same t d.reply.txn.0 (m t d.reply.txn.0 (inl (refl, refl)))) ∙ e)),
            ih,
          )
      by node e k a m ih = ih

  -- a transaction's number lies above that of the root, so none has the number 0 either
  above : (t : ℕ) (past : List Line) (n : ℕ) → Grown head past → WasMade t past n → 2 ≤ n
  above t [] n k m = absurd m
  above t (l ∷ past) n k m = by l.at.node l.entry k.0 m (above t past n k.1)
    where
      low : (u : ℕ) → 1 ≤ (server_of head.osts (only u past)).boot
      low u = ((holds head past k.1).at u).phase.low

      by : (node : Node) (e : Entry) → Allowed head past (turn l.at.stamp node) e → WasMade t (line (turn l.at.stamp node) e ∷ past) n
          → (WasMade t past n → 2 ≤ n) → 2 ≤ n
      by (Client c) (Made d) k m ih = absurd k.ok
      by (Target u) (Made d) k (inl is) ih =
          let number = ap (λ (v : TxnOf). v.0) (txn_for head past l.at.stamp u d k).number in
          let boot = low u in
          let same = is.1 in
          omega (arith, number, boot, same)
      by (Target u) (Made d) k (inr m) ih = ih m
      by node e k m ih = ih m

  -- who heard something has a slot, or was evicted
  has_slot : (t : ℕ) (who : Who) (f : Flight) (r : ReplyTo) → HeardAs (only t whole) who f r → out who ≡ false
      → HasSlot head.clients (only t whole) who
  has_slot t who f r h o =
      let d = (inside t).done.answered who f r h in
      ⊎_elim (λ (k : HasSlot head.clients (only t whole) who). k) (λ (e : Evicted (only t whole) who). absurd (stays who o t e))
      (subst (λ (v : Who). Had head.clients (only t whole) v) (sym (ap (λ (v : ReplyTo). v.who) d.2) ∙ d.3)
      ((inside t).lives.acted d.0 d.1))

  heard : (past : List Line) → Grown head past → AllHeard past → HeardStand out lost past
  heard [] k a = tt
  heard (l ∷ past) k a = by l.at.node l.entry k.0 a (heard past k.1 (λ t who f r h. a t who f r (heard_story t l past who f r h)))
    where
      by : (node : Node) (e : Entry) → Allowed head past (turn l.at.stamp node) e → AllHeard (line (turn l.at.stamp node) e ∷ past)
          → HeardStand out lost past → HeardStand out lost (line (turn l.at.stamp node) e ∷ past)
      by (Client c) (Heard t f r) k a ih = (
        λ o.
            let ok = k.of t (self t) in
            let own : is_own r.who (only t past) (Client c) ≡ true =
            subst (λ (w : Who). is_own w (only t past) (Client c) ≡ true) (sym ok.who) (own_self (only t past) c) in
            let h = a t r.who f r (with_own t (line (turn l.at.stamp (Client c)) (Heard t f r)) past
            (λ (P : List Line). HeardAs P r.who f r) (self t) (inl (own, refl, refl))) in
            let s = (inside t).history.heard r.who f r h (has_slot t r.who f r h o) in
            (not_lost t r.txn.0 s.0, all_stand t r.seen s.1),
        ih,
      )
      by (Target t) (Heard u f r) k a ih = absurd k.ok
      by node e k a ih = ih

  held : (past : List Line) → Grown head past → AllSaw past → HeldStand out lost past
  held [] k a = tt
  held (l ∷ past) k a = by l.at.node l.entry k.0 a (held past k.1 (λ t who n i. a t who n (saw_story t l past who n i)))
    where
      by : (node : Node) (e : Entry) → Allowed head past (turn l.at.stamp node) e → AllSaw (line (turn l.at.stamp node) e ∷ past)
          → HeldStand out lost past → HeldStand out lost (line (turn l.at.stamp node) e ∷ past)
      by (Client c) (Hold t lock marked size ns) k a ih = (
        λ o. all_stand t ns (λ n i.
            let own : is_own (life_at c past) (only t past) (Client c) ≡ true =
            subst (λ (w : Who). is_own w (only t past) (Client c) ≡ true) (sym (life_is_of c t past)) (own_self (only t past) c) in
            let saw = a t (life_at c past) n (with_own t (line (turn l.at.stamp (Client c)) (Hold t lock marked size ns)) past
            (λ (P : List Line). SawIn P (life_at c past) n) (self t) (inl (own, i))) in
            let by = (inside t).keeps.saw_by (life_at c past) n saw in
            (inside t).history.held (life_at c past) n saw (has_slot t (life_at c past) by.0 by.1 by.2 o)),
        ih,
      )
      by (Target t) (Hold u lock marked size ns) k a ih = absurd k.ok
      by node e k a ih = ih

  -- what is committed and stands stays so to the end
  abbrev StaysOn : List Line → Type 0
  StaysOn past = (t n : ℕ) → is_lost head.osts (only t past) n ≡ false → n ≤ number head t past → is_lost head.osts (only t whole) n ≡ false

  stays_before : (l : Line) (past : List Line) → Grown head (l ∷ past) → StaysOn (l ∷ past) → StaysOn past
  stays_before l past k h t n e le = h t n (on (concerns t l.at.node l.entry)) (let up = whole_up head t l past k in omega (arith, up, le))
    where
      on : (b : Bool) → is_lost head.osts (if b then l ∷ only t past else only t past) n ≡ false
      on true = stays_on head.osts l (only t past) n e le
      on false = e

  committed : (past : List Line) → Grown head past → StaysOn past → CommitsStand head.osts lost past
  committed [] k s = tt
  committed (l ∷ past) k s = by l.at.node l.entry k.0.ok s (committed past k.1 (stays_before l past k s))
    where
      -- by a line that commits up to there
      to_there : (t to : ℕ) (e : Entry) → ((server_of head.osts (line (turn l.at.stamp (Target t)) e ∷ only t past)).committed.0 ≡ to)
          → concerns t (Target t) e ≡ true → StaysOn (line (turn l.at.stamp (Target t)) e ∷ past)
          → (n : ℕ) → is_lost head.osts (only t (line (turn l.at.stamp (Target t)) e ∷ past)) n ≡ false → n ≤ to → lost t n ≡ false
      to_there t to e q own s n stands low =
          let level : number head t (line (turn l.at.stamp (Target t)) e ∷ past) ≡ to =
          with_own t (line (turn l.at.stamp (Target t)) e) past (λ (P : List Line). (server_of head.osts P).committed.0 ≡ to) own q in
          not_lost t n (s t n stands (omega (arith, level, low)))

      by : (node : Node) (e : Entry) → EntryOk past (turn l.at.stamp node) node e → StaysOn (line (turn l.at.stamp node) e ∷ past)
          → CommitsStand head.osts lost past → CommitsStand head.osts lost (line (turn l.at.stamp node) e ∷ past)
      by (Client c) (Commit to batch) ok s ih = absurd ok
      by (Target t) (Commit to batch) ok s ih = (λ n m e low. to_there t to (Commit to batch) refl (self t) s n e low, ih)
      by (Client c) (Close o) ok s ih = absurd ok
      by (Target t) (Close o) ok s ih = (λ n m e low. to_there t o.disk.committed (Close o) refl (self t) s n e low, ih)
      by node e ok s ih = ih

  root : lost 0 1 ≡ false
  root = none 0 1 (λ m. let low = above 0 whole 1 g m in absurd (omega (arith, low)))

  pub fits : Fits head.osts out lost whole
  fits =
      record {
        root = root;
        stays = λ t n m e. same t n m ∙ e;
        seen = seen whole g (λ t d a. a) (λ t n m. m);
        heard = heard whole g (λ t who f r h. h);
        held = held whole g (λ t who n i. i);
        committed = committed whole g (λ t n e le. e);
        gone = gone;
      }
