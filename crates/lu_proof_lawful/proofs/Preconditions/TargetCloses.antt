-- The close of a target's recovery window makes lines that the guards allow: its line, then those that show what it decided, each in its
-- turn, and after them the target serves and is what its story says.
use Rattle.std.proofs.Common.{◌≡◌, ℕ, ◌<◌, Bool, true, false, List, [], ◌∷◌, ◌++◌, Option, None, inl, inr, refl, sym, subst, ap, ◌∙◌, arith}
use Rattle.std.specs.Prelude.{nat_eq, nat_lt, not, if◌then◌else◌}
use Rattle.std.proofs.lemmas.Bool.{cond-false, not-true}
use Rattle.std.proofs.lemmas.Bool.Decides.{nat_tests}
use Rattle.std.proofs.lemmas.List.{append-nil, append_assoc}
use Rattle.std.proofs.Math.Nat.{max-zero}
use Rattle.lu_base.specs.declared.ids.At.{At}
use Rattle.lu_base.specs.declared.ids.Node.{Node}
use Rattle.lu_base.specs.declared.ids.Node.TheVariants as node
use Rattle.lu_base.specs.declared.ids.Stamp.{Stamp}
use Rattle.lu_base.specs.declared.ids.Txn.{Txn as TxnOf}
use Rattle.lu_base.specs.declared.ids.Who.{Who}
use Rattle.lu_base.specs.declared.locks.Lock.{Lock}
use Rattle.lu_msg.specs.declared.messages.Message.{Message}
use Rattle.lu_msg.specs.declared.messages.Message.TheVariants as message
use Rattle.lu_spec_entries.specs.Carried.{Deed, Gone, Contents, Outcome}
use Rattle.lu_spec_entries.specs.Words.{Entry, Send, Close, Kept, Restore, Evict, Joined, Line, line}
use Rattle.lu_spec_target.specs.Leaving.{ready}
use Rattle.lu_spec_target.specs.Lives.{is_life, with_lives, without_lives, lives_of as lives_in}
use Rattle.lu_spec_target.specs.Locks.{with_lock, locks_without}
use Rattle.lu_spec_target.specs.Outcomes as rows
use Rattle.lu_spec_target.specs.Outcomes.{deed_again, deeds_again, outcome_by}
use Rattle.lu_spec_target.specs.Recovery.{commit_of, kept_lines, restore_lines, evict_lines, ready_lines, joined_lines, answers_all, closes}
use Rattle.lu_spec_target.specs.Recovery.{row_close}
use Rattle.lu_spec_target.specs.States.{Target, after, turn as turned}
use Rattle.lu_spec_target.specs.Stored.{batch_of, done, transaction_of}
use Rattle.lu_spec_target.specs.Windows.{Window as WindowOf, Replayed, Settled as Decided, settled, all_settled}
use Rattle.lu_proof_lawful.specs.Covered.Heads.{Head}
use Rattle.lu_proof_lawful.specs.Covered.TargetCloses.{recovering_of, outcome_of, closing_of, but_first, shows, shows_evicted, says_ready}
use Rattle.lu_proof_lawful.specs.Covered.TargetCloses.{shows_ready, shows_joined, staying}
use Rattle.lu_proof_lawful.specs.Covered.TargetStates.{server_of, lives_of, evicted_of, up_of, window_of, shown_of}
use Rattle.lu_proof_lawful.proofs.Preconditions.Guards as guards
use Rattle.lu_proof_lawful.proofs.Preconditions.Guards.{In, InTurn, IsTake, IsTurnOf, EntryOk}
use Rattle.lu_proof_lawful.proofs.Preconditions.StoryGuards.{IsServing, EntryOf, CloseOk, CommitOk}
use Rattle.lu_proof_lawful.proofs.Preconditions.Lists.{turn, in_filter, in_filtered, in_right}
use Rattle.lu_proof_lawful.proofs.Preconditions.LifeLists.{filter_all, not_gone, put_there, puts_there, life_stands, stands_life}
use Rattle.lu_proof_lawful.proofs.Preconditions.LockLists.{Rises, Stands, in_above, rises_filter, stands_same}
use Rattle.lu_proof_lawful.proofs.Preconditions.CloseLists.{put_each, puts_more, stays_all}
use Rattle.lu_proof_lawful.proofs.Preconditions.TargetSlots.{slots_leave}
use Rattle.lu_proof_lawful.proofs.Preconditions.TargetStory.{Story, story_apart, story_commit, story_still}
use Rattle.lu_proof_lawful.proofs.Preconditions.TargetAlike.{OnDisk, Window, forgotten_tree, forgotten_objects, window_is, window_evict}
use Rattle.lu_proof_lawful.proofs.Preconditions.TargetAlike.{window_send, window_joined, window_closed}
use Rattle.lu_proof_lawful.proofs.Preconditions.TargetCrashed.{Crashed, Asked, Leads, Calm, Undue}
use Rattle.lu_proof_lawful.proofs.Preconditions.Sound.{Sound, sound_of, story_close, restored_stays}
use Rattle.lu_proof_lawful.proofs.Preconditions.Turns.{Settled, owes_nothing, NoBack}

-- ---- what a close decides depends on what the window has, and what stands on the disk

deeds_same : (v w : Target) (at : At) (c : Contents) (rs : List Replayed) → v.setting.osts ≡ w.setting.osts → v.boot ≡ w.boot → v.committed
    ≡ w.committed → deeds_again v at c rs ≡ deeds_again w at c rs
deeds_same v w at c [] osts boot committed = refl
deeds_same v w at c (r ∷ rs) osts boot committed =
    let d : Deed = deed_again v at c r in
    let e : Deed = deed_again w at c r in
    let one : d ≡ e = rw (osts, boot, committed) refl in
    ap (λ (x : Deed). x ∷ deeds_again v at (done v.setting.osts c (transaction_of x)) rs) one
    ∙ ap (λ (n : ℕ). e ∷ deeds_again v at (done n c (transaction_of e)) rs) osts
    ∙ ap (λ (ds : List Deed). e ∷ ds) (deeds_same v w at (done w.setting.osts c (transaction_of e)) rs osts boot committed)

outcome_same : (v w : Target) (at : At) → v.setting.osts ≡ w.setting.osts → v.boot ≡ w.boot → v.committed ≡ w.committed → v.disk ≡ w.disk
    → rows.window_of v ≡ rows.window_of w → rows.outcome_of v at ≡ rows.outcome_of w at
outcome_same v w at osts boot committed disk window =
    ap (λ (u : WindowOf). outcome_by v (deeds_again v at v.disk.contents (settled u).kept) (settled u)) window
    ∙ ap (λ (ds : List Deed). outcome_by v ds s) (ap (λ (c : Contents). deeds_again v at c s.kept) (ap (λ x. x.contents) disk)
    ∙ deeds_same v w at w.disk.contents s.kept osts boot committed)
    ∙ rw (osts, boot, disk) refl
  where
    s : Decided
    s = settled (rows.window_of w)

-- ---- the lines of a close

evicts_same : (o : Outcome) (v : Target) (gone : List Gone) → v.boot ≡ o.boot → evict_lines v gone ≡ shows_evicted o gone
evicts_same o v [] boot = refl
evicts_same o v (g ∷ gone) boot =
    ap (λ (n : ℕ). Evict g.who g.cause ∷ Send (node.Client g.who.client) (message.Evicted g.who n) ∷ evict_lines v gone) boot
    ∙ ap (λ (es : List Entry). Evict g.who g.cause ∷ Send (node.Client g.who.client) (message.Evicted g.who o.boot) ∷ es)
    (evicts_same o v gone boot)

ready_same : (o : Outcome) (v : Target) (who : Who) → v.boot ≡ o.boot → v.committed ≡ o.disk.committed → ready v who ≡ says_ready o who
ready_same o v who boot committed = rw (boot, committed) refl

readies_same : (o : Outcome) (v : Target) (lives : List Who) → v.boot ≡ o.boot → v.committed ≡ o.disk.committed → ready_lines v lives
    ≡ shows_ready o lives
readies_same o v [] boot committed = refl
readies_same o v (who ∷ lives) boot committed =
    ap (λ (e : Entry). e ∷ ready_lines v lives) (ready_same o v who boot committed)
    ∙ ap (λ (es : List Entry). says_ready o who ∷ es) (readies_same o v lives boot committed)

joins_same : (o : Outcome) (v : Target) (lives : List Who) → v.boot ≡ o.boot → v.committed ≡ o.disk.committed → joined_lines v lives
    ≡ shows_joined o lives
joins_same o v [] boot committed = refl
joins_same o v (who ∷ lives) boot committed =
    ap (λ (e : Entry). Joined who ∷ e ∷ joined_lines v lives) (ready_same o v who boot committed)
    ∙ ap (λ (es : List Entry). Joined who ∷ says_ready o who ∷ es) (joins_same o v lives boot committed)

-- what is kept and restored leaves the boot and the committed number
shown_leave : (ds : List Deed) (ls : List Lock) (v : Target) → ((turned v (kept_lines ds ++ restore_lines ls)).boot ≡ v.boot)
    × ((turned v (kept_lines ds ++ restore_lines ls)).committed ≡ v.committed)
shown_leave [] [] v = (refl, refl)
shown_leave [] (l ∷ ls) v = shown_leave [] ls (after v (Restore l))
shown_leave (d ∷ ds) ls v = shown_leave ds ls (after v (Kept d.reply.txn))

closes_are : (o : Outcome) (v : Target) → v.boot ≡ o.boot → closes v o ≡ Close o ∷ shows o v.lives
closes_are o v boot =
    let more : List Entry = kept_lines o.kept ++ restore_lines o.locks in
    let w : Target = turned v (Close o ∷ commit_of o ∷ more) in
    let left = shown_leave o.kept o.locks (after (after v (Close o)) (commit_of o)) in
    let of_boot : w.boot ≡ o.boot = left.0 ∙ boot in
    let of_committed : w.committed ≡ o.disk.committed = left.1 in
    let answers : answers_all o v.lives w ≡ shows_evicted o o.gone ++ (shows_ready o (staying o v.lives) ++ shows_joined o o.joins) =
    ap (λ (es : List Entry). es ++ (ready_lines w (staying o v.lives) ++ joined_lines w o.joins)) (evicts_same o w o.gone of_boot)
    ∙ ap (λ (es : List Entry). shows_evicted o o.gone ++ (es ++ joined_lines w o.joins))
    (readies_same o w (staying o v.lives) of_boot of_committed)
    ∙ ap (λ (es : List Entry). shows_evicted o o.gone ++ (shows_ready o (staying o v.lives) ++ es))
    (joins_same o w o.joins of_boot of_committed) in
    ap (λ (es : List Entry). Close o ∷ commit_of o ∷ (more ++ es)) answers
    ∙ ap (λ (es : List Entry). Close o ∷ commit_of o ∷ es) (append_assoc (kept_lines o.kept) (restore_lines o.locks)
    (shows_evicted o o.gone ++ (shows_ready o (staying o v.lives) ++ shows_joined o o.joins)))

-- ---- locks that are shown in rising cookie

-- the last one so far is put at the end
put_end : (l : Lock) (shown : List Lock) → ((k : Lock) → In k shown → k.cookie.0 < l.cookie.0) → with_lock l shown ≡ shown ++ l ∷ []
put_end l [] below = refl
put_end l (k ∷ shown) below =
    let lt = below k (inl refl) in
    let other : nat_eq l.cookie.0 k.cookie.0 ≡ false = grind (arith, nat_tests, lt) in
    let above : nat_lt l.cookie.0 k.cookie.0 ≡ false = grind (arith, nat_tests, lt) in
    cond-false (nat_eq l.cookie.0 k.cookie.0) (l ∷ shown) (if nat_lt l.cookie.0 k.cookie.0 then l ∷ k ∷ shown else k ∷ with_lock l shown)
    other
    ∙ cond-false (nat_lt l.cookie.0 k.cookie.0) (l ∷ k ∷ shown) (k ∷ with_lock l shown) above
    ∙ ap (λ (ls : List Lock). k ∷ ls) (put_end l shown (λ m i. below m (inr i)))

-- one that stands in a rising list is in its place
pub rises_stands : (l : Lock) (locks : List Lock) → Rises locks → In l locks → Stands l locks
rises_stands l [] r i = absurd i
rises_stands l (k ∷ locks) r (inl e) = inl e
rises_stands l (k ∷ locks) r (inr i) = inr (in_above k.cookie.0 locks l r.0 i, rises_stands l locks r.1 i)

-- of a rising list what stands before is below what follows
rises_parts : (shown rest : List Lock) (l : Lock) → Rises (shown ++ l ∷ rest) → (k : Lock) → In k shown → k.cookie.0 < l.cookie.0
rises_parts [] rest l r k i = absurd i
rises_parts (m ∷ shown) rest l r k (inl e) = subst (λ (x : Lock). x.cookie.0 < l.cookie.0) e
    (in_above m.cookie.0 (shown ++ l ∷ rest) l r.0 (there shown))
  where
    there : (ms : List Lock) → In l (ms ++ l ∷ rest)
    there [] = inl refl
    there (x ∷ ms) = inr (there ms)
rises_parts (m ∷ shown) rest l r k (inr i) = rises_parts shown rest l r.1 k i

-- ---- a line of what a close shows

module _ (head : Head) (stamp : Stamp) (t : ℕ) where
  abbrev at : At
  at = turn stamp (node.Target t)

  -- the next one that is to be shown, and what follows it
  step : (past story : List Line) (v : Target) (e : Entry) (more es : List Entry) → Settled past → NoBack head story
      → Undue head stamp t story → IsTurnOf story at → closing_of head.clients story ≡ e ∷ more → EntryOk past at (node.Target t) e
      → EntryOf head story at (node.Target t) e
      → Leads head stamp t (line at e ∷ past) (line at e ∷ story) (after v e) es → Leads head stamp t past story v (e ∷ es)
  step past story v e more es settled back undue here due ok of next = (
    (((owes_nothing past at e settled, ok, of), next.0.0), next.0.1),
    (λ who k. absurd (back who k), next.1),
    (λ mark d. absurd (let none : due_of story ≡ None = undue in cc), next.2),
    (λ f fs is. (let same : e ∷ more ≡ f ∷ fs = sym due ∙ is in cc, here), next.3),
  )
    where
      due_of : List Line → Option Entry
      due_of p = guards.due head.osts head.clients p

  window_kept : (story : List Line) (number : TxnOf) (gone come : List Who) (v : Target) → Window head t gone come v story
      → Window head t gone come (after v (Kept number)) (line at (Kept number) ∷ story)
  window_kept story number gone come v h =
      record {
        id = h.id;
        osts = h.osts;
        up = h.up;
        boot = h.boot;
        closed = h.closed;
        number = h.number;
        cookie = h.cookie;
        tree = h.tree;
        objects = h.objects;
        names = h.names;
        log = h.log;
        committed = h.committed;
        granted = h.granted;
        waiting = h.waiting;
        called = h.called;
        queue = h.queue;
        glimpses = h.glimpses;
        story = story_still head t story stamp h.story (Kept number) refl refl refl;
        slots = h.slots;
        lives = h.lives;
        removed = h.removed;
        phase = h.phase;
        disk = h.disk;
        stored = h.stored;
      }

  -- what is shown of a restored lock stands already
  window_restore : (story : List Line) (lock : Lock) (gone come : List Who) (v : Target) → In lock (server_of head.osts story).granted
      → is_life lock.ask.who gone ≡ false → Window head t gone come v story
      → Window head t gone come (after v (Restore lock)) (line at (Restore lock) ∷ story)
  window_restore story lock gone come v there stays h =
      record {
        id = h.id;
        osts = h.osts;
        up = h.up;
        boot = h.boot;
        closed = h.closed;
        number = h.number;
        cookie = h.cookie;
        tree = h.tree;
        objects = h.objects;
        names = h.names;
        log = h.log;
        committed = h.committed;
        granted = ap (with_lock lock) h.granted ∙ stands_same lock (locks_without gone locks)
            (rises_stands lock (locks_without gone locks) (rises_filter (λ (k : Lock). not (is_life k.ask.who gone)) locks h.story.rises)
            (in_filtered (λ (k : Lock). not (is_life k.ask.who gone)) lock locks there (ap not stays)));
        waiting = h.waiting;
        called = h.called;
        queue = h.queue;
        glimpses = h.glimpses;
        story = story_still head t story stamp h.story (Restore lock) refl refl refl;
        slots = h.slots;
        lives = h.lives;
        removed = h.removed;
        phase = h.phase;
        disk = h.disk;
        stored = h.stored;
      }
    where
      locks : List Lock
      locks = (server_of head.osts story).granted

  -- ---- while a close is shown

  module _ (o : Outcome) where
    -- of these the lines that they leave and come are still to be shown, and of these locks that they are restored
    record Closing (gone come : List Who) (rest : List Lock) (v : Target) (story : List Line) : Type 0 where
      window : Window head t gone come v story
      shown : shown_of story ++ rest ≡ o.locks
      granted : (server_of head.osts story).granted ≡ o.locks
      lives : lives_of head.clients story ≡ o.disk.lives
      removed : evicted_of story ≡ o.disk.removed
      boot : o.boot ≡ (server_of head.osts story).boot
      committed : record { 0 = o.disk.committed } ≡ (server_of head.osts story).committed
      joins : (w : Who) → In w come → Asked t story w
      back : NoBack head story
      undue : Undue head stamp t story
      here : IsTurnOf story at

    abbrev Then : (gone come : List Who) (rest : List Lock) → List Entry → Type 0
    Then gone come rest es = (past story : List Line) (v : Target) → Settled past → Closing gone come rest v story
        → closing_of head.clients story ≡ es → Leads head stamp t past story v es

    closing_send : (to : Node) (m : Message) (gone come : List Who) (rest : List Lock) (v : Target) (story : List Line)
        → Closing gone come rest v story → Closing gone come rest v (line at (Send to m) ∷ story)
    closing_send to m gone come rest v story c =
        record {
          window = window_send head t story stamp to m gone come v c.window;
          shown = c.shown;
          granted = c.granted;
          lives = c.lives;
          removed = c.removed;
          boot = c.boot;
          committed = c.committed;
          joins = λ w i. let k = c.joins w i in (k.0, k.1, inr k.2);
          back = λ who k. k.0;
          undue = refl;
          here = refl;
        }

    kept_go : (gone come : List Who) (rest : List Lock) (ds : List Deed) (es : List Entry) → Then gone come rest es
        → Then gone come rest (kept_lines ds ++ es)
    kept_go gone come rest [] es go past story v settled c due = go past story v settled c due
    kept_go gone come rest (d ∷ ds) es go past story v settled c due =
        let e : Entry = Kept d.reply.txn in
        let more : List Entry = kept_lines ds ++ es in
        let next : Closing gone come rest (after v e) (line at e ∷ story) =
        record {
          window = window_kept story d.reply.txn gone come v c.window;
          shown = c.shown;
          granted = c.granted;
          lives = c.lives;
          removed = c.removed;
          boot = c.boot;
          committed = c.committed;
          joins = c.joins;
          back = λ who k. k.0;
          undue = refl;
          here = refl;
        } in
        step past story v e more more settled c.back c.undue c.here due tt (more, due, c.here)
        (kept_go gone come rest ds es go (line at e ∷ past) (line at e ∷ story) (after v e) tt next (ap but_first due))

    restore_go : (gone come : List Who) (ls : List Lock) (es : List Entry) → ((l : Lock) → In l o.locks → is_life l.ask.who gone ≡ false)
        → Then gone come [] es → Then gone come ls (restore_lines ls ++ es)
    restore_go gone come [] es stays go past story v settled c due = go past story v settled c due
    restore_go gone come (l ∷ ls) es stays go past story v settled c due =
        let e : Entry = Restore l in
        let more : List Entry = restore_lines ls ++ es in
        step past story v e more more settled c.back c.undue c.here due tt
        (record { due = (more, due, c.here); serves = window_is head t gone come v story c.window; granted = there })
        (restore_go gone come ls es stays go (line at e ∷ past) (line at e ∷ story) (after v e) tt next (ap but_first due))
      where
        among : In l o.locks
        among = subst (λ (ks : List Lock). In l ks) c.shown (in_right l (shown_of story) (l ∷ ls) (inl refl))

        there : In l (server_of head.osts story).granted
        there = subst (λ (ks : List Lock). In l ks) (sym c.granted) among

        below : (k : Lock) → In k (shown_of story) → k.cookie.0 < l.cookie.0
        below k i = rises_parts (shown_of story) ls l (subst Rises (c.granted ∙ sym c.shown) c.window.story.rises) k i

        next : Closing gone come ls (after v (Restore l)) (line at (Restore l) ∷ story)
        next =
            record {
              window = window_restore story l gone come v there (stays l among) c.window;
              shown = ap (λ (ks : List Lock). ks ++ ls) (put_end l (shown_of story) below) ∙ append_assoc (shown_of story) (l ∷ []) ls
                  ∙ c.shown;
              granted = c.granted;
              lives = c.lives;
              removed = c.removed;
              boot = c.boot;
              committed = c.committed;
              joins = c.joins;
              back = λ who k. k.0;
              undue = refl;
              here = refl;
            }

    -- those that leave have no slot, and were evicted with the close
    evict_go : (come : List Who) (gs : List Gone) (es : List Entry)
        → ((w : Who) → In w (lives_in gs) → (is_life w o.disk.lives ≡ false) × (is_life w o.disk.removed ≡ true)) → Then [] come [] es
        → Then (lives_in gs) come [] (shows_evicted o gs ++ es)
    evict_go come [] es out go past story v settled c due = go past story v settled c due
    evict_go come (g ∷ gs) es out go past story v settled c due =
        let e : Entry = Evict g.who g.cause in
        let f : Entry = Send (node.Client g.who.client) (message.Evicted g.who o.boot) in
        let more : List Entry = shows_evicted o gs ++ es in
        let sent = closing_send (node.Client g.who.client) (message.Evicted g.who o.boot) (lives_in gs) come [] v (line at e ∷ story) next
        in
        step past story v e (f ∷ more) (f ∷ more) settled c.back c.undue c.here due tt
        (inr (record {
          due = (f ∷ more, due, c.here);
          serves = window_is head t (g.who ∷ lives_in gs) come v story c.window;
          evicted =
              was;
          gone = gone;
        }))
        (step (line at e ∷ past) (line at e ∷ story) v f more more tt next.back next.undue next.here (ap but_first due) tt
        (record { to = refl; of_boot = c.boot; cause = inl (ap (is_life g.who) next.removed ∙ (out g.who (inl refl)).1) })
        (evict_go come gs es (λ w i. out w (inr i)) go (line at f ∷ line at e ∷ past) (line at f ∷ line at e ∷ story) v tt sent
        (ap but_first (ap but_first due))))
      where
        was : is_life g.who (evicted_of story) ≡ true
        was = ap (is_life g.who) c.removed ∙ (out g.who (inl refl)).1

        gone : is_life g.who (lives_of head.clients story) ≡ false
        gone = ap (is_life g.who) c.lives ∙ (out g.who (inl refl)).0

        other : (w : Who) → is_life w (lives_of head.clients story) ≡ true → w ≡ g.who → ⊥
        other w has e = let there : is_life g.who (lives_of head.clients story) ≡ true =
            subst (λ (u : Who). is_life u (lives_of head.clients story) ≡ true) e has in let none = gone in absurd (cc)

        next : Closing (lives_in gs) come [] v (line at (Evict g.who g.cause) ∷ story)
        next =
            record {
              window = window_evict head t story stamp g.who g.cause (lives_in gs) come v (inr was) c.window;
              shown = c.shown;
              granted = filter_all (λ (k : Lock). not (is_life k.ask.who (g.who ∷ []))) (server_of head.osts story).granted
                  (λ k i. not_gone k.ask.who g.who (other k.ask.who (c.window.story.holds k i))) ∙ c.granted;
              lives = filter_all (λ (w : Who). not (is_life w (g.who ∷ []))) (lives_of head.clients story)
                  (λ w i. not_gone w g.who (other w (life_stands w (lives_of head.clients story) i))) ∙ c.lives;
              removed = put_there g.who (evicted_of story) c.window.story.over (stands_life g.who (evicted_of story) was) ∙ c.removed;
              boot = c.boot;
              committed = c.committed;
              joins = c.joins;
              back = λ who k. k.0;
              undue = refl;
              here = refl;
            }

    ready_go : (come ws : List Who) (es : List Entry) → ((w : Who) → In w ws → is_life w o.disk.lives ≡ true) → Then [] come [] es
        → Then [] come [] (shows_ready o ws ++ es)
    ready_go come [] es has go past story v settled c due = go past story v settled c due
    ready_go come (w ∷ ws) es has go past story v settled c due =
        let m = message.Ready w o.boot (record { 0 = o.disk.committed }) in
        let e : Entry = Send (node.Client w.client) m in
        let more : List Entry = shows_ready o ws ++ es in
        step past story v e more more settled c.back c.undue c.here due tt
        (record {
          serves = window_is head t [] come v story c.window;
          has = ap (is_life w) c.lives ∙ has w (inl refl);
          to = refl;
          of_boot = c.boot;
          of_committed = c.committed;
        })
        (ready_go come ws es (λ x i. has x (inr i)) go (line at e ∷ past) (line at e ∷ story) v tt
        (closing_send (node.Client w.client) m [] come [] v story c) (ap but_first due))

    joined_go : (ws : List Who) → ((w : Who) → In w ws → is_life w o.disk.lives ≡ true) → Then [] ws [] (shows_joined o ws)
    joined_go [] has past story v settled c due = (
      (
        settled,
        inl
            (window_closed head t story v (sym (append-nil (shown_of story)) ∙ c.shown ∙ sym c.granted) c.window),
      ),
      c.back,
      c.undue,
      due,
    )
    joined_go (w ∷ ws) has past story v settled c due =
        let m = message.Ready w o.boot (record { 0 = o.disk.committed }) in
        let e : Entry = Joined w in
        let f : Entry = Send (node.Client w.client) m in
        let more : List Entry = shows_joined o ws in
        step past story v e (f ∷ more) (f ∷ more) settled c.back c.undue c.here due tt ok
        (step (line at e ∷ past) (line at e ∷ story) v f more more tt next.back next.undue next.here (ap but_first due) tt
        (record {
          serves = window_is head t [] ws v (line at e ∷ story) next.window;
          has = ap (is_life w) next.lives ∙ has w (inl refl);
          to = refl;
          of_boot = c.boot;
          of_committed = c.committed;
        })
        (joined_go ws (λ x i. has x (inr i)) (line at f ∷ line at e ∷ past) (line at f ∷ line at e ∷ story) v tt
        (closing_send (node.Client w.client) m [] ws [] v (line at e ∷ story) next) (ap but_first (ap but_first due))))
      where
        there : is_life w (lives_of head.clients story) ≡ true
        there = ap (is_life w) c.lives ∙ has w (inl refl)

        ok : EntryOf head story at (node.Target t) (Joined w)
        ok = let k = c.joins w (inl refl) in inr (record {
          due = (says_ready o w ∷ shows_joined o ws, due, c.here);
          serves =
              window_is head t [] (w ∷ ws) v story c.window;
          has = there;
          from = k.0;
          boot = k.1;
          was = k.2;
        })

        next : Closing [] ws [] v (line at (Joined w) ∷ story)
        next =
            record {
              window = window_joined head t story stamp w ws v ok c.window;
              shown = c.shown;
              granted = c.granted;
              lives = put_there w (lives_of head.clients story) c.window.story.order (stands_life w (lives_of head.clients story) there)
                  ∙ c.lives;
              removed = c.removed;
              boot = c.boot;
              committed = c.committed;
              joins = λ x i. c.joins x (inr i);
              back = λ who k. k.0;
              undue = refl;
              here = refl;
            }

  -- ---- a target that recovers closes its window

  module _ (past story : List Line) (v : Target) (settled : Settled past) (calm : Calm head stamp t story)
      (undue : Undue head stamp t story) (h : Crashed head t v story) (u : up_of story ≡ true)
      (ready : InTurn IsTake story at → all_settled (window_of head.osts head.clients story) (lives_of head.clients story) ≡ true)
      (window : rows.window_of v ≡ window_of head.osts head.clients story) where
    abbrev o : Outcome
    o = rows.outcome_of v at

    abbrev gone : List Who
    gone = lives_in o.gone

    same : o ≡ outcome_of head.osts head.clients at story
    same = outcome_same v (recovering_of head.osts head.clients story) at h.osts h.boot h.committed h.stored window

    sound : Sound head story
    sound = sound_of head story calm.2

    ok : CloseOk head story at o
    ok =
        record {
          recovers = let lt = h.newer u in grind (arith, nat_tests, lt);
          up = u;
          is = same;
          of_lives = ap (λ x. x.lives) (sym h.stored) ∙ h.disk.lives ∙ h.lives;
          of_removed = ap (λ x. x.removed) (sym h.stored) ∙ h.disk.removed ∙ h.removed;
          of_committed = ap (λ x. x.committed) (sym h.stored) ∙ h.disk.committed ∙ h.committed;
          settled = ready;
        }

    abbrev story1 : List Line
    story1 = line at (Close o) ∷ story

    abbrev story2 : List Line
    story2 = line at (commit_of o) ∷ story1

    abbrev v2 : Target
    v2 = after (after v (Close o)) (commit_of o)

    closed : Story head story1
    closed = story_close head t story stamp sound o ok

    serves1 : IsServing head.osts story1
    serves1 = record { closed = h.boot; up = u }

    abbrev rest : List Entry
    rest = kept_lines o.kept ++ (restore_lines o.locks ++ (shows_evicted o o.gone
        ++ (shows_ready o (staying o v.lives) ++ shows_joined o o.joins)))

    due1 : closing_of head.clients story1 ≡ commit_of o ∷ rest
    due1 = ap (shows o) (sym h.lives)

    commits : CommitOk head story1 at o.disk.committed (batch_of o.kept gone o.joins)
    commits = record { serves = serves1; is = inr refl; of_batch = inr (rest, due1, refl) }

    -- who was evicted has no slot
    apart : (w : Who) → is_life w o.disk.removed ≡ true → is_life w o.disk.lives ≡ false
    apart w gone = by (is_life w o.disk.lives) refl
      where
        by : (b : Bool) → is_life w o.disk.lives ≡ b → b ≡ false
        by false e = refl
        by true e = let none = story_apart head story1 closed w e in absurd (cc)

    over : (w : Who) → In w gone → is_life w o.disk.removed ≡ true
    over w i = put_each w gone v.disk.removed (life_stands w gone i)

    stays : (w : Who) → is_life w o.disk.lives ≡ true → is_life w gone ≡ false
    stays w has = by (is_life w gone) refl
      where
        by : (b : Bool) → is_life w gone ≡ b → b ≡ false
        by false e = refl
        by true e = let none = apart w (over w (stands_life w gone e)) in absurd (cc)

    joined : (w : Who) → In w o.joins → is_life w o.disk.lives ≡ true
    joined w i = put_each w o.joins (without_lives gone v.disk.lives) (life_stands w o.joins i)

    stayed : (w : Who) → In w (staying o v.lives) → is_life w o.disk.lives ≡ true
    stayed w i =
        let p = in_filter (λ (x : Who). not (is_life x gone)) w v.lives i in
        puts_more w o.joins (without_lives gone v.disk.lives) (stays_all w gone v.disk.lives
        (ap (is_life w) h.disk.lives ∙ life_stands w v.lives p.0) (not-true (is_life w gone) p.1))

    restored : (l : Lock) → In l o.locks → is_life l.ask.who gone ≡ false
    restored l i = (subst (λ (x : Outcome). In l x.locks → (is_life l.ask.who (lives_of head.clients story) ≡ true)
        × (is_life l.ask.who (lives_in x.gone) ≡ false)) (sym same) (restored_stays head t story stamp sound l) i).1

    disk2 : OnDisk v2
    disk2 =
        record {
          boot = max-zero v.disk.boot ∙ h.disk.boot;
          lives = sym (ap (with_lives o.joins) (filter_all (λ (w : Who). not (is_life w gone)) o.disk.lives
              (λ w i. ap not (stays w (life_stands w o.disk.lives i))))
              ∙ puts_there o.joins o.disk.lives closed.order (λ w i. stands_life w o.disk.lives (joined w i)));
          removed = sym (puts_there gone o.disk.removed closed.over (λ w i. stands_life w o.disk.removed (over w i)));
          committed = refl;
        }

    begins : Closing o gone o.joins o.locks v2 story2
    begins =
        record {
          window =
              record {
                id = h.id;
                osts = h.osts;
                up = h.up ∙ u;
                boot = h.boot;
                closed = refl;
                number = h.number;
                cookie = h.cookie;
                tree = forgotten_tree gone o.disk.contents;
                objects = forgotten_objects gone o.disk.contents;
                names = λ e. (refl, refl);
                log = refl;
                committed = refl;
                granted = refl;
                waiting = refl;
                called = refl;
                queue = refl;
                glimpses = refl;
                story = story_commit head t story1 stamp closed o.disk.committed (batch_of o.kept gone o.joins) commits;
                slots = slots_leave gone o.disk.slots o.disk.removed story1 (λ who tag live. refl);
                lives = refl;
                removed = refl;
                phase = record { closed = h.boot; up = u };
                disk = disk2;
                stored = rw (h.osts, h.stored) refl;
              };
          shown = refl;
          granted = refl;
          lives = refl;
          removed = refl;
          boot = h.boot;
          committed = refl;
          joins = λ w i. let k = h.asked u w (subst (λ (ws : List Who). In w ws) (h.kept u).wishes i) in k;
          back = λ who k. k.0;
          undue = refl;
          here = refl;
        }

    pub close_lead : Leads head stamp t past story v (row_close at v)
    close_lead =
        subst (λ (es : List Entry). Leads head stamp t past story v es) (sym (closes_are o v refl)) (
          (((owes_nothing past at (Close o) settled, tt, ok), lines.0.0), lines.0.1),
          (λ who k. absurd (calm.0 who k), lines.1),
          (λ mark d. absurd (let none : guards.due head.osts head.clients story ≡ None = undue in cc), lines.2),
          (λ f fs is. absurd (let none : closing_of head.clients story ≡ [] = calm.1 in cc), lines.3),
        )
      where
        after2 : Leads head stamp t (line at (commit_of o) ∷ line at (Close o) ∷ past) story2 v2 rest
        after2 =
            kept_go o gone o.joins o.locks o.kept (restore_lines o.locks
            ++ (shows_evicted o o.gone ++ (shows_ready o (staying o v.lives) ++ shows_joined o o.joins)))
            (restore_go o gone o.joins o.locks (shows_evicted o o.gone ++ (shows_ready o (staying o v.lives) ++ shows_joined o o.joins))
            restored
            (evict_go o o.joins o.gone (shows_ready o (staying o v.lives) ++ shows_joined o o.joins) (λ w i. (apart w (over w i), over w i))
            (ready_go o o.joins (staying o v.lives) (shows_joined o o.joins) stayed
            (joined_go o o.joins joined))))
            (line at (commit_of o) ∷ line at (Close o) ∷ past) story2 v2 tt begins (ap but_first due1)

        lines : Leads head stamp t (line at (Close o) ∷ past) story1 (after v (Close o)) (commit_of o ∷ rest)
        lines = step (line at (Close o) ∷ past) story1 (after v (Close o)) (commit_of o) rest rest tt (λ who k. k.0) refl refl due1 tt
            commits after2
