-- What holds in the story of one target after every line that the guards allow, also through the close of a window: who keeps its slot
-- or gets one is one life of each client, newer than all of it that are over, and what is restored stands in rising cookie.
use Rattle.std.proofs.Common.{◌≡◌, ℕ, ◌<◌, ◌≤◌, true, false, List, [], ◌∷◌, ◌⊎◌, inl, inr, ⊎_elim, refl, sym, subst, ap, ◌∙◌, arith}
use Rattle.std.specs.Prelude.{nat_eq, nat_lt, not}
use Rattle.std.specs.List.{filter, list_any}
use Rattle.std.proofs.lemmas.Bool.{eq-eqb, not-true}
use Rattle.std.proofs.lemmas.Bool.Decides.{nat_tests}
use Rattle.lu_base.specs.declared.ids.At.{At}
use Rattle.lu_base.specs.declared.ids.Node.{Node}
use Rattle.lu_base.specs.declared.ids.Node.TheVariants.{Client, Target}
use Rattle.lu_base.specs.declared.ids.Stamp.{Stamp}
use Rattle.lu_base.specs.declared.ids.Who.{Who}
use Rattle.lu_base.specs.declared.locks.Lock.{Lock}
use Rattle.lu_msg.specs.declared.commits.Transaction.{Transaction}
use Rattle.lu_spec_entries.specs.Carried.{Disk, Outcome}
use Rattle.lu_spec_entries.specs.Words.{Entry, Boot, Close, Evict, Joined, Brings, Wishes, Line, line}
use Rattle.lu_spec_target.specs.Lives.{is_life, without_lives, lives_of as lives_in}
use Rattle.lu_spec_target.specs.Outcomes as rows
use Rattle.lu_spec_target.specs.Stored.{transaction_of, news, batch_of}
use Rattle.lu_spec_target.specs.Windows.{Window, brought_before, is_lock, kept_numbers}
use Rattle.lu_proof_lawful.specs.Covered.Heads.{Head}
use Rattle.lu_proof_lawful.specs.Covered.TargetCloses.{disk_of, recovering_of, outcome_of}
use Rattle.lu_proof_lawful.specs.Covered.TargetStates.{server_of, lives_of, evicted_of, closed_of, brought_of, wishes_of}
use Rattle.lu_proof_lawful.proofs.Preconditions.Guards.{In}
use Rattle.lu_proof_lawful.proofs.Preconditions.StoryGuards.{IsServing, IsRecovering, EntryOf, CloseOk}
use Rattle.lu_proof_lawful.proofs.Preconditions.Grown.{GrownOf}
use Rattle.lu_proof_lawful.proofs.Preconditions.Lists.{turn, in_filter, life_self}
use Rattle.lu_proof_lawful.proofs.Preconditions.LifeLists.{InOrder, order_filter, order_puts, life_stands}
use Rattle.lu_proof_lawful.proofs.Preconditions.LockLists.{Rises, rises_filter}
use Rattle.lu_proof_lawful.proofs.Preconditions.ClientLocks.{in_map, any_passes}
use Rattle.lu_proof_lawful.proofs.Preconditions.CloseLists.{puts_or, puts_more, stays_all, left_all, gone_had, stays_back, left_not}
use Rattle.lu_proof_lawful.proofs.Preconditions.CloseLists.{OneEach, in_wish, each_wish, wish_one, in_placed, rises_brought, in_restored}
use Rattle.lu_proof_lawful.proofs.Preconditions.CloseLists.{rises_restored, last_low}
use Rattle.lu_proof_lawful.proofs.Preconditions.TargetStory.{Story, numbered, story_start, story_client, story_line}
use Rattle.lu_proof_lawful.proofs.Preconditions.StoryLists.{Belongs, logged_top}
use Rattle.lu_proof_lawful.proofs.Preconditions.TargetWaits.{waits_close}
use Rattle.lu_proof_lawful.proofs.Preconditions.Has.{deeds_fine}
use Rattle.lu_proof_lawful.proofs.Preconditions.Given.{Gave, Grants, Given, given_start, given_line}

-- ---- what a target that recovers has taken

pub record Taken (head : Head) (past : List Line) : Type 0 where
  pub idle : closed_of past ≡ (server_of head.osts past).boot → (brought_of past ≡ []) × (wishes_of past ≡ [])
  pub wished : (w : Who) → In w (wishes_of past) → (old : Who) × (is_life old (lives_of head.clients past) ≡ true) × (old.client ≡ w.client)
      × (old.life < w.life)
  pub each : OneEach (wishes_of past)
  pub belongs : Belongs (λ (l : Lock). l.ask.who) (brought_of past) (lives_of head.clients past)
  pub rises : Rises (brought_of past)

pub record Sound (head : Head) (past : List Line) : Type 0 where
  pub story : Story head past
  pub taken : Taken head past
  pub given : Given head past

recovers_not : (head : Head) (past : List Line) → IsRecovering head.osts past → closed_of past ≡ (server_of head.osts past).boot → ⊥
recovers_not head past r e = let t : nat_eq (closed_of past) (server_of head.osts past).boot ≡ true =
    eq-eqb (closed_of past) (server_of head.osts past).boot e in absurd (cc)

taken_start : (head : Head) → Taken head []
taken_start head = record { idle = λ e. (refl, refl); wished = λ w i. absurd i; each = tt; belongs = λ l i. absurd i; rises = tt }

taken_line : (head : Head) (past : List Line) (l : Line) → EntryOf head past l.at l.at.node l.entry → Given head past → Taken head past
    → Taken head (l ∷ past)
taken_line head past l ok g h = by l.at.node l.entry ok
  where
    -- while it serves it has taken nothing
    Lives : List Who → Type 0
    Lives lives = ((w : Who) → In w (wishes_of past) → (old : Who) × (is_life old lives ≡ true) × (old.client ≡ w.client)
        × (old.life < w.life)) × Belongs (λ (x : Lock). x.ask.who) (brought_of past) lives

    none : IsServing head.osts past → (lives : List Who) → Lives lives
    none serves lives = let k = h.idle serves.closed in (
      λ w i. absurd (subst (λ (ws : List Who). In w ws) k.1 i),
      λ x i. absurd (subst (λ (ls : List Lock). In x ls) k.0 i),
    )

    by : (node : Node) (e : Entry) → EntryOf head past (turn l.at.stamp node) node e → Taken head (line (turn l.at.stamp node) e ∷ past)
    by (Target t) (Brings lock) ok =
        record {
          idle = λ e. absurd (recovers_not head past ok.keeps.recovers e);
          wished = h.wished;
          each = h.each;
          belongs = λ x i. ⊎_elim (λ (e : lock ≡ x). subst (λ (y : Lock). is_life y.ask.who (lives_of head.clients past) ≡ true) e own)
              (λ (j : In x (brought_of past)). h.belongs x j) (in_placed brought_before lock x (brought_of past) i);
          rises = rises_brought lock (brought_of past) h.rises apart;
        }
      where
        own : is_life lock.ask.who (lives_of head.clients past) ≡ true
        own = subst (λ (y : Lock). is_life y.ask.who (lives_of head.clients past) ≡ true) (sym ok.is) ok.keeps.has

        gave : Gave past lock
        gave = subst (λ (y : Lock). Gave past y) (sym ok.is) (g.has.locks ok.from (Target t) ok.given ok.keeps.was)

        itself : is_lock lock lock ≡ true
        itself = let who = life_self lock.ask.who in grind (arith, nat_tests, who)

        apart : (k : Lock) → In k (brought_of past) → k.cookie.0 ≡ lock.cookie.0 → ⊥
        apart k i e =
            let same : k ≡ lock = g.once k lock (g.has.brought k i) gave e in
            let there : list_any (is_lock lock) (brought_of past) ≡ true =
            any_passes (is_lock lock) k (brought_of past) i (subst (λ (y : Lock). is_lock lock y ≡ true) (sym same) itself) in
            let new = ok.new in
            absurd (cc)
    by (Target t) (Wishes who) ok =
        record {
          idle = λ e. absurd (recovers_not head past ok.keeps.recovers e);
          wished = λ w i. ⊎_elim (λ (e : who ≡ w). subst (λ (u : Who). (old : Who) × (is_life old (lives_of head.clients past) ≡ true)
              × (old.client ≡ u.client) × (old.life < u.life)) e (ok.old, ok.keeps.has, ok.client, ok.newer))
              (λ (j : In w (wishes_of past)). h.wished w j) (in_wish w who (wishes_of past) i);
          each = each_wish who (wishes_of past) h.each;
          belongs = h.belongs;
          rises = h.rises;
        }
    by (Target t) (Evict w cause) (inl ok) = let k = none ok.serves
        (lives_of head.clients (line (turn l.at.stamp (Target t)) (Evict w cause) ∷ past))
        in record { idle = h.idle; wished = k.0; each = h.each; belongs = k.1; rises = h.rises }
    by (Target t) (Evict w cause) (inr ok) = let k = none ok.serves
        (lives_of head.clients (line (turn l.at.stamp (Target t)) (Evict w cause) ∷ past))
        in record { idle = h.idle; wished = k.0; each = h.each; belongs = k.1; rises = h.rises }
    by (Target t) (Joined w) (inl ok) = let k = none ok.serves (lives_of head.clients (line (turn l.at.stamp (Target t)) (Joined w) ∷ past))
        in record { idle = h.idle; wished = k.0; each = h.each; belongs = k.1; rises = h.rises }
    by (Target t) (Joined w) (inr ok) = let k = none ok.serves (lives_of head.clients (line (turn l.at.stamp (Target t)) (Joined w) ∷ past))
        in record { idle = h.idle; wished = k.0; each = h.each; belongs = k.1; rises = h.rises }
    by (Target t) (Boot boot disk) ok = record {
      idle = λ e. (refl, refl);
      wished = λ w i. absurd i;
      each = tt;
      belongs = λ x i. absurd i;
      rises = tt;
    }
    by (Target t) (Close o) ok = record {
      idle = λ e. (refl, refl);
      wished = λ w i. absurd i;
      each = tt;
      belongs = λ x i. absurd i;
      rises =
          tt;
    }
    by (Target t) e ok = record { idle = h.idle; wished = h.wished; each = h.each; belongs = h.belongs; rises = h.rises }
    by (Client c) e ok = record { idle = h.idle; wished = h.wished; each = h.each; belongs = h.belongs; rises = h.rises }

-- ---- a close

module _ (head : Head) (t : ℕ) (past : List Line) (stamp : Stamp) (h : Sound head past) where
  abbrev at : At
  at = turn stamp (Target t)

  abbrev lives : List Who
  lives = lives_of head.clients past

  abbrev window : Window
  window = rows.window_of (recovering_of head.osts head.clients past)

  abbrev x : Outcome
  x = outcome_of head.osts head.clients at past

  abbrev gone : List Who
  gone = lives_in x.gone

  abbrev disk : Disk
  disk = disk_of head.osts head.clients past

  -- who has a slot then wished to join, or had one and keeps it
  joins_or : disk.lives ≡ lives → (w : Who) → is_life w x.disk.lives ≡ true → In w (wishes_of past)
      ⊎ ((is_life w lives ≡ true) × (is_life w gone ≡ false))
  joins_or of_lives w p =
      ⊎_elim (λ (i : In w x.joins). inl i)
      (λ (q : is_life w (without_lives gone disk.lives) ≡ true). let k = left_all w gone disk.lives q
      in inr (ap (is_life w) (sym of_lives) ∙ k.0, k.1)) (puts_or w x.joins (without_lives gone disk.lives) p)

  gone_or : disk.removed ≡ evicted_of past → (r : Who) → is_life r x.disk.removed ≡ true
      → ((is_life r gone ≡ true) × (is_life r lives ≡ true)) ⊎ (is_life r (evicted_of past) ≡ true)
  gone_or of_removed r q =
      ⊎_elim (λ (i : In r gone). let own = life_stands r gone i in inl (own, gone_had window (kept_numbers window) lives r own))
      (λ (p : is_life r disk.removed ≡ true). inr (ap (is_life r) (sym of_removed) ∙ p)) (puts_or r gone disk.removed q)

  stays_not : (w k : Who) → is_life w lives ≡ true → is_life w gone ≡ false → In k (wishes_of past) → k.client ≡ w.client → ⊥
  stays_not w k has stays i e = left_not window w k (stays_back window (kept_numbers window) lives w has stays).1 i e

  pub stays_slot : disk.lives ≡ lives → (w : Who) → is_life w lives ≡ true → is_life w gone ≡ false → is_life w x.disk.lives ≡ true
  stays_slot of_lives w has stays = puts_more w x.joins (without_lives gone disk.lives)
      (stays_all w gone disk.lives (ap (is_life w) of_lives ∙ has) stays)

  -- whose locks are restored keeps its slot
  pub restored_stays : (l : Lock) → In l x.locks → (is_life l.ask.who lives ≡ true) × (is_life l.ask.who gone ≡ false)
  restored_stays l i =
      let p = in_filter (λ (k : Lock). not (is_life k.ask.who gone)) l (brought_of past)
      (in_restored [] (filter (λ (k : Lock). not (is_life k.ask.who gone)) (brought_of past)) l i) in
      (h.taken.belongs l p.0, not-true (is_life l.ask.who gone) p.1)

  pub restored_rises : Rises x.locks
  restored_rises = rises_restored [] (filter (λ (k : Lock). not (is_life k.ask.who gone)) (brought_of past))
      (rises_filter (λ (k : Lock). not (is_life k.ask.who gone)) (brought_of past) h.taken.rises)

  low : disk.committed ≡ (server_of head.osts past).committed.0 → x.disk.committed ≤ numbered (server_of head.osts past)
  low of_committed =
      last_low (numbered (server_of head.osts past)) (news disk (batch_of x.kept gone x.joins)) disk.committed
      (let top = logged_top (server_of head.osts past).committed.0 (server_of head.osts past).log (numbered (server_of head.osts past))
      h.story.logged in omega (arith, top, of_committed)) each
    where
      each : (k : Transaction) → In k (news disk (batch_of x.kept gone x.joins)) → k.txn.0 ≤ numbered (server_of head.osts past)
      each k i =
          let r = in_map transaction_of k x.kept (in_filter (λ (y : Transaction). nat_lt disk.committed y.txn.0) k
          (batch_of x.kept gone x.joins).transactions i).0 in
          let fine = deeds_fine (numbered (server_of head.osts past)) (Gave past) (Grants past) head past at h.given.has r.0 r.1 in
          subst (λ (y : Transaction). y.txn.0 ≤ numbered (server_of head.osts past)) r.2 fine.number

  closes_by : disk.lives ≡ lives → disk.removed ≡ evicted_of past → disk.committed ≡ (server_of head.osts past).committed.0
      → Story head (line at (Close x) ∷ past)
  closes_by of_lives of_removed of_committed =
      record {
        rises = restored_rises;
        counted = h.story.counted;
        logged = low of_committed;
        waits = λ r i. absurd i;
        holds = λ l i. let k = restored_stays l i in stays_slot of_lives l.ask.who k.0 k.1;
        queues = λ l i. absurd i;
        calls = λ c i. absurd i;
        single = λ a b p q e. one a b (joins_or of_lives a p) (joins_or of_lives b q) e;
        older = λ w r p q e. above w r (joins_or of_lives w p) (gone_or of_removed r q) e;
        order = order_puts x.joins (without_lives gone disk.lives)
            (order_filter (λ (w : Who). not (is_life w gone)) disk.lives (subst InOrder (sym of_lives) h.story.order));
        over = order_puts gone disk.removed (subst InOrder (sym of_removed) h.story.over);
        waits_so = waits_close (server_of head.osts past).boot (server_of head.osts past).cookie x.locks h.story.waits_so.low
            (λ l i. h.given.low l (h.given.has.brought l (in_filter (λ (k : Lock). not (is_life k.ask.who gone)) l (brought_of past)
            (in_restored [] (filter (λ (k : Lock). not (is_life k.ask.who gone)) (brought_of past)) l i)).0));
      }
    where
      Keeps : Who → Type 0
      Keeps w = In w (wishes_of past) ⊎ ((is_life w lives ≡ true) × (is_life w gone ≡ false))

      one : (a b : Who) → Keeps a → Keeps b → a.client ≡ b.client → a ≡ b
      one a b (inl i) (inl j) e = wish_one (wishes_of past) h.taken.each a b i j e
      one a b (inl i) (inr k) e = absurd (stays_not b a k.0 k.1 i e)
      one a b (inr k) (inl j) e = absurd (stays_not a b k.0 k.1 j (sym e))
      one a b (inr k) (inr m) e = h.story.single a b k.0 m.0 e

      above : (w r : Who) → Keeps w → ((is_life r gone ≡ true) × (is_life r lives ≡ true)) ⊎ (is_life r (evicted_of past) ≡ true) → w.client
          ≡ r.client → r.life < w.life
      above w r (inl i) (inl k) e =
          let old = h.taken.wished w i in
          let same : r ≡ old.0 = h.story.single r old.0 k.1 old.1 (sym e ∙ sym old.2) in
          subst (λ (u : Who). u.life < w.life) (sym same) old.3
      above w r (inl i) (inr k) e = let old = h.taken.wished w i in let less = h.story.older old.0 r old.1 k (old.2 ∙ e) in let lt = old.3
          in omega (arith, less, lt)
      above w r (inr m) (inl k) e =
          let same : r ≡ w = h.story.single r w k.1 m.0 (sym e) in
          let there : is_life w gone ≡ true = subst (λ (u : Who). is_life u gone ≡ true) same k.0 in
          let stays = m.1 in
          absurd (cc)
      above w r (inr m) (inr k) e = h.story.older w r m.0 k e

  pub story_close : (o : Outcome) → CloseOk head past at o → Story head (line at (Close o) ∷ past)
  story_close o ok = subst (λ (y : Outcome). Story head (line at (Close y) ∷ past)) (sym ok.is)
      (closes_by ok.of_lives ok.of_removed ok.of_committed)

-- ---- every line

sound_line : (head : Head) (past : List Line) (l : Line) → EntryOf head past l.at l.at.node l.entry → Sound head past
    → Sound head (l ∷ past)
sound_line head past l ok h = record {
  story = by l.at.node l.entry ok;
  taken = taken_line head past l ok h.given h.taken;
  given =
      given_line head past l ok h.given;
}
  where
    by : (node : Node) (e : Entry) → EntryOf head past (turn l.at.stamp node) node e → Story head (line (turn l.at.stamp node) e ∷ past)
    by (Client c) e ok = story_client head past l.at.stamp c e h.story
    by (Target t) (Close o) ok = story_close head t past l.at.stamp h o ok
    by (Target t) e ok = story_line head t past l.at.stamp e tt ok h.story

pub sound_of : (head : Head) (past : List Line) → GrownOf head past → Sound head past
sound_of head [] g = record { story = story_start head; taken = taken_start head; given = given_start head }
sound_of head (l ∷ past) g = sound_line head past l g.0 (sound_of head past g.3)
