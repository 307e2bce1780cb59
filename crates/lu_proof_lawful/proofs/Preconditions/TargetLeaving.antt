-- Lives that leave a target: with one commit of all, and then life by life its line, the notice, and the releases of the locks that it
-- had, each with the answers to those who waited for its holder. All these lines are allowed, and after them the target is again what its
-- story says.
use Rattle.std.proofs.Common.{◌≡◌, ℕ, zero, suc, ◌<◌, Bool, true, List, [], ◌∷◌, ◌⊎◌, inl, inr, refl, sym, subst, ap, ◌∙◌, arith}
use Rattle.std.specs.Prelude.{nat_eq, nat_lt, not}
use Rattle.std.specs.List.{filter}
use Rattle.lu_base.specs.declared.ids.At.{At}
use Rattle.lu_base.specs.declared.ids.Node.{Node}
use Rattle.lu_base.specs.declared.ids.Node.TheVariants as node
use Rattle.lu_base.specs.declared.ids.Stamp.{Stamp}
use Rattle.lu_base.specs.declared.ids.Who.{Who}
use Rattle.lu_base.specs.declared.locks.Cause.{Cause}
use Rattle.lu_base.specs.declared.locks.Cause.TheVariants.{Expired, Replaced}
use Rattle.lu_base.specs.declared.locks.Lock.{Lock}
use Rattle.lu_msg.specs.declared.messages.Message.{Message}
use Rattle.lu_msg.specs.declared.messages.Message.TheVariants as message
use Rattle.lu_spec_entries.specs.Carried.{Deed, Glimpse}
use Rattle.lu_spec_entries.specs.Words.{Entry, Take, Send, Boot, Close, Block, Answers, Ends, Release, Evict, Line, line, with_turn}
use Rattle.lu_spec_entries.specs.Words.{same_life}
use Rattle.lu_spec_entries.specs.Concerns.{only}
use Rattle.lu_spec_target.specs.Glimpses.{glimpses_of, glimpses_end}
use Rattle.lu_spec_target.specs.Leaving.{commits, evicted, evictions, all_released, locks_of, last_of}
use Rattle.lu_spec_target.specs.Lives.{is_life, with_lives, without_lives}
use Rattle.lu_spec_target.specs.Locks.{without_lock}
use Rattle.lu_spec_target.specs.Requests.{releases}
use Rattle.lu_spec_target.specs.States.{Target, after, turn as turned}
use Rattle.lu_spec_target.specs.Stored.{batch_of}
use Rattle.lu_proof_lawful.specs.Covered.Heads.{Head}
use Rattle.lu_proof_lawful.specs.Covered.TargetStates.{Server, server_of, lives_of, evicted_of, shown_of}
use Rattle.lu_proof_lawful.proofs.Preconditions.Guards.{In, Took, InTurn, IsEvict, IsCommit}
use Rattle.lu_proof_lawful.proofs.Preconditions.StoryGuards.{CalledBefore, TookSince, EvictedBy, CommitOk, IsServing, EntryOf}
use Rattle.lu_proof_lawful.proofs.Preconditions.Lists.{turn, in_filter, life_is}
use Rattle.lu_proof_lawful.proofs.Preconditions.LifeLists.{Distinct, life_put, life_stays, all_without, all_released_is, left_without}
use Rattle.lu_proof_lawful.proofs.Preconditions.LifeLists.{others_stay, in_without}
use Rattle.lu_proof_lawful.proofs.Preconditions.LockLists.{Rises, in_above, rises_filter}
use Rattle.lu_proof_lawful.proofs.Preconditions.QueueLists.{Single, single_filter}
use Rattle.lu_proof_lawful.proofs.Preconditions.TargetAlike.{Serving, Window, serving_is, window_is, window_commit, window_evict}
use Rattle.lu_proof_lawful.proofs.Preconditions.TargetAlike.{window_release, window_ends, window_answers, window_send, gone_one}
use Rattle.lu_proof_lawful.proofs.Preconditions.TargetGlimpses.{Middle, released_lead}
use Rattle.lu_proof_lawful.proofs.Preconditions.TargetGood.{Reaches, reaches_more, story_turn}
use Rattle.lu_proof_lawful.proofs.Preconditions.TargetStory.{Story, numbered}
use Rattle.lu_proof_lawful.proofs.Preconditions.StoryLists.{Logged, IsFirst, all_logged, first_in, first_all, first_upto}
use Rattle.lu_proof_lawful.proofs.Preconditions.Turns.{Settled, owes_nothing, IsNoClose}

-- ---- what a turn took and did stays, whatever comes

called_more : (l : Line) (past : List Line) (at : At) (who : Who) → IsNoClose l.entry → CalledBefore past at who
    → CalledBefore (l ∷ past) at who
called_more l past at who n r = by l.entry n
  where
    by : (e : Entry) → IsNoClose e → CalledBefore (line l.at e ∷ past) at who
    by (Block called) n = inr r
    by (Close o) n = absurd n
    by e n = r

since_more : (l : Line) (past : List Line) (at : At) (from : Node) (m : Message) → IsNoClose l.entry → TookSince past at from m
    → TookSince (l ∷ past) at from m
since_more l past at from m n r = by l.entry n
  where
    by : (e : Entry) → IsNoClose e → TookSince (line l.at e ∷ past) at from m
    by (Take number sender message) n = inr r
    by (Close o) n = absurd n
    by e n = r

pub since_took : (past : List Line) (at : At) (from : Node) (m : Message) → TookSince past at from m → Took past at from m
since_took [] at from m t = absurd t
since_took (l ∷ past) at from m t = by l.entry t (since_took past at from m)
  where
    by : (e : Entry) → TookSince (line l.at e ∷ past) at from m → (TookSince past at from m → Took past at from m)
        → Took (line l.at e ∷ past) at from m
    by (Take number sender message) (inl p) h = inl p
    by (Take number sender message) (inr q) h = inr (h q)
    by (Close o) t h = absurd t
    by e t h = h t

evicted_more : (l : Line) (past : List Line) (at : At) (who : Who) (cause : Cause) → IsNoClose l.entry → EvictedBy past at who cause
    → EvictedBy (l ∷ past) at who cause
evicted_more l past at who Expired n r = (inr r.0, called_more l past at who n r.1)
evicted_more l past at who Replaced n r = record {
  from = r.from;
  other = r.other;
  boot = r.boot;
  took =
      since_more l past at (node.Client r.from) (message.Join r.other r.boot) n r.took;
  client = r.client;
  newer = r.newer;
}
evicted_more l past at who cause n r = absurd r

-- ---- a commit of all goes up to the last of the log

-- the last of some deeds gives the number
last_in : (d : Deed) (deeds : List Deed) (n : ℕ) → (last : Deed) × In last (d ∷ deeds) × (last_of (d ∷ deeds) n ≡ last.reply.txn.0)
last_in d [] n = (d, inl refl, refl)
last_in d (e ∷ deeds) n = let r = last_in e deeds d.reply.txn.0 in (r.0, inr r.1, r.2)

-- the batch has all of the log up to there
pub commit_ok : (head : Head) (past : List Line) (at : At) (deeds : List Deed) (removed added : List Who) (committed : ℕ) → Story head past
    → IsFirst deeds (server_of head.osts past).log → committed ≡ (server_of head.osts past).committed.0 → IsServing head.osts past
    → CommitOk head past at (last_of deeds committed) (batch_of deeds removed added)
commit_ok head past at deeds removed added committed h first is serves =
    record { serves = serves; is = by deeds first; of_batch = inl (ap (λ (ds : List Deed). batch_of ds removed added) (sym upto)) }
  where
    by : (ds : List Deed) → IsFirst ds (server_of head.osts past).log
        → ((d : Deed) × In d (server_of head.osts past).log × (last_of ds committed ≡ d.reply.txn.0))
        ⊎ (last_of ds committed ≡ (server_of head.osts past).committed.0)
    by [] f = inr is
    by (d ∷ ds) f = let last = last_in d ds committed in inl (
      last.0,
      first_in (d ∷ ds) (server_of head.osts past).log last.0 f last.1,
      last.2,
    )

    upto : filter (λ (d : Deed). not (nat_lt (last_of deeds committed) d.reply.txn.0)) (server_of head.osts past).log ≡ deeds
    upto = first_upto committed deeds (server_of head.osts past).log (numbered (server_of head.osts past))
        (subst (λ (n : ℕ). Logged n (server_of head.osts past).log (numbered (server_of head.osts past))) (sym is) h.logged) first

zero_or : (t : ℕ) → (t ≡ 0) ⊎ (0 < t)
zero_or zero = inl refl
zero_or (suc t) = inr (omega arith)

-- ---- in the middle of it

-- a lock of a life that left, whose release isn't shown
record Showing (head : Head) (at : At) (lock : Lock) (story : List Line) : Type 0 where
  evicted : is_life lock.ask.who (evicted_of story) ≡ true
  turned : InTurn (IsEvict lock.ask.who) story at
  still : without_lock lock (server_of head.osts story).granted ≡ (server_of head.osts story).granted
  shown : In lock (shown_of story)

-- those of `gone` are still to leave, and of the life that left last these locks are to be released. old: the locks before all; final,
-- ended: who has a slot in the end, and who was evicted then; K: what else holds of the story, whatever comes
pub record Leaving (head : Head) (t : ℕ) (at : At) (cause : Cause) (old : List Lock) (come final ended : List Who) (K : List Line → Type 0)
    (gone : List Who) (locks : List Lock) (v : Target) (story : List Line) : Type 0 where
  pub window : Window head t gone come v story
  pub shown : all_without locks (shown_of story) ≡ (server_of head.osts story).granted
  due : (l : Lock) → In l locks → Showing head at l story
  rises : Rises locks
  same : (x : Who) → In x gone → locks_of x old ≡ locks_of x (server_of head.osts story).granted
  has : (x : Who) → In x gone → is_life x (lives_of head.clients story) ≡ true
  distinct : Distinct gone
  commits : InTurn IsCommit story at
  logged : (server_of head.osts story).log ≡ []
  caused : (x : Who) → In x gone → EvictedBy story at x cause
  pub left : without_lives gone (lives_of head.clients story) ≡ final
  pub over : with_lives gone (evicted_of story) ≡ ended
  pub carried : K story

-- what lines of the turn but a boot keep
abbrev pub IsNoBoot : Entry → Type 0
IsNoBoot (Boot boot disk) = ⊥
IsNoBoot _ = Unit {0}

abbrev pub Carries : ℕ → Stamp → (List Line → Type 0) → Type 0
Carries t stamp K = (e : Entry) (story : List Line) → IsNoBoot e → K story → K (line (turn stamp (node.Target t)) e ∷ story)

module _ (head : Head) (stamp : Stamp) (t : ℕ) (cause : Cause) (old : List Lock) (come final ended : List Who) (K : List Line → Type 0)
    (keeps : Carries t stamp K) where
  abbrev at : At
  at = turn stamp (node.Target t)

  abbrev Leaves : List Who → List Lock → Target → List Line → Type 0
  Leaves gone locks v story = Leaving head t at cause old come final ended K gone locks v story

  -- a life's line
  leave_evict : (who : Who) (gone : List Who) (v : Target) (story : List Line) → Leaves (who ∷ gone) [] v story
      → Leaves gone (locks_of who old) v (line at (Evict who cause) ∷ story)
  leave_evict who gone v story h =
      record {
        window = window_evict head t story stamp who cause gone come v (inl (h.has who (inl refl))) h.window;
        shown = ap (all_without (locks_of who old)) h.shown ∙ ap (λ (ls : List Lock). all_without ls granted) mine
            ∙ all_released_is who granted h.window.story.rises;
        due = λ l i. due_of l (in_filter (λ (x : Lock). same_life x.ask.who who) l granted (subst (λ (ls : List Lock). In l ls) mine i));
        rises = subst Rises (sym mine) (rises_filter (λ (x : Lock). same_life x.ask.who who) granted h.window.story.rises);
        same = λ x i. h.same x (inr i) ∙ sym (others_stay who x granted (h.distinct.0 x i));
        has = λ x i. life_stays x who (lives_of head.clients story) (h.distinct.0 x i) (h.has x (inr i));
        distinct = h.distinct.1;
        commits = inr h.commits;
        logged = h.logged;
        caused = λ x i. evicted_more (line at (Evict who cause)) story at x cause tt (h.caused x (inr i));
        left = sym (gone_one (λ (w : Who). w) who gone (lives_of head.clients story)) ∙ h.left;
        over = h.over;
        carried = keeps (Evict who cause) story tt h.carried;
      }
    where
      granted : List Lock
      granted = (server_of head.osts story).granted

      mine : locks_of who old ≡ locks_of who granted
      mine = h.same who (inl refl)

      due_of : (l : Lock) → In l granted × (same_life l.ask.who who ≡ true) → Showing head at l (line at (Evict who cause) ∷ story)
      due_of l p =
          let own : l.ask.who ≡ who = life_is l.ask.who who p.1 in
          record {
            evicted = subst (λ (w : Who). is_life w (evicted_of (line at (Evict who cause) ∷ story)) ≡ true) (sym own)
                (life_put who (evicted_of story));
            turned = inl (refl, sym own);
            still = left_without who l granted h.window.story.rises p.0 own;
            shown = subst (λ (ls : List Lock). In l ls) (sym h.shown) p.0;
          }

  -- what is sent
  leave_send : (to : Node) (m : Message) (gone : List Who) (locks : List Lock) (v : Target) (story : List Line) → Leaves gone locks v story
      → Leaves gone locks v (line at (Send to m) ∷ story)
  leave_send to m gone locks v story h =
      record {
        window = window_send head t story stamp to m gone come v h.window;
        shown = h.shown;
        due = λ l i. let d = h.due l i in record { evicted = d.evicted; turned = inr d.turned; still = d.still; shown = d.shown };
        rises = h.rises;
        same = h.same;
        has = h.has;
        distinct = h.distinct;
        commits = inr h.commits;
        logged = h.logged;
        caused = λ x i. evicted_more (line at (Send to m)) story at x cause tt (h.caused x i);
        left = h.left;
        over = h.over;
        carried = keeps (Send to m) story tt h.carried;
      }

  -- a glimpse ends, and who waited is answered
  leave_ends : (g : Glimpse) (gone : List Who) (locks : List Lock) (v : Target) (story : List Line)
      → EntryOf head story at (node.Target t) (Ends g) → Leaves gone locks v story
      → Leaves gone locks (after v (Ends g)) (line at (Ends g) ∷ story)
  leave_ends g gone locks v story ok h =
      record {
        window = window_ends head t story stamp g gone come v ok h.window;
        shown = h.shown;
        due = λ l i. let d = h.due l i in record { evicted = d.evicted; turned = inr d.turned; still = d.still; shown = d.shown };
        rises = h.rises;
        same = h.same;
        has = h.has;
        distinct = h.distinct;
        commits = inr h.commits;
        logged = h.logged;
        caused = λ x i. evicted_more (line at (Ends g)) story at x cause tt (h.caused x i);
        left = h.left;
        over = h.over;
        carried = keeps (Ends g) story tt h.carried;
      }

  leave_answers : (d : Deed) (gone : List Who) (locks : List Lock) (v : Target) (story : List Line)
      → EntryOf head story at (node.Target t) (Answers d) → Leaves gone locks v story
      → Leaves gone locks (after v (Answers d)) (line at (Answers d) ∷ story)
  leave_answers d gone locks v story ok h =
      record {
        window = window_answers head t story stamp d gone come v ok h.window;
        shown = h.shown;
        due = λ l i. let d = h.due l i in record { evicted = d.evicted; turned = inr d.turned; still = d.still; shown = d.shown };
        rises = h.rises;
        same = h.same;
        has = h.has;
        distinct = h.distinct;
        commits = inr h.commits;
        logged = h.logged;
        caused = λ x i. evicted_more (line at (Answers d)) story at x cause tt (h.caused x i);
        left = h.left;
        over = h.over;
        carried = keeps (Answers d) story tt h.carried;
      }

  -- a lock is released
  leave_release : (lock : Lock) (gone : List Who) (locks : List Lock) (v : Target) (story : List Line) → Leaves gone (lock ∷ locks) v story
      → Leaves gone locks (after v (Release lock)) (line at (Release lock) ∷ story)
  leave_release lock gone locks v story h =
      record {
        window = window_release head t story stamp lock gone come v h.window;
        shown = h.shown ∙ sym still;
        due = λ k i. later k i (h.due k (inr i));
        rises = h.rises.1;
        same = λ x i. h.same x i ∙ ap (locks_of x) (sym still);
        has = h.has;
        distinct = h.distinct;
        commits = inr h.commits;
        logged = h.logged;
        caused = λ x i. evicted_more (line at (Release lock)) story at x cause tt (h.caused x i);
        left = h.left;
        over = h.over;
        carried = keeps (Release lock) story tt h.carried;
      }
    where
      granted : List Lock
      granted = (server_of head.osts story).granted

      still : without_lock lock granted ≡ granted
      still = (h.due lock (inl refl)).still

      later : (k : Lock) → In k locks → Showing head at k story → Showing head at k (line at (Release lock) ∷ story)
      later k i d =
          record {
            evicted = d.evicted;
            turned = inr d.turned;
            still = ap (without_lock k) still ∙ d.still ∙ sym still;
            shown = in_without lock k (shown_of story) d.shown (λ e. let lt = in_above lock.cookie.0 locks k h.rises.0 i
                in absurd (omega (arith, lt, e)));
          }

  middle : (above : 0 < t) (gone : List Who) (locks : List Lock) → Middle head stamp t above (Leaves gone locks)
  middle above gone locks =
      record {
        story = λ w p k. k.window.story;
        serves = λ w p k. window_is head t gone come w p k.window;
        ends = λ g w p ok k. leave_ends g gone locks w p ok k;
        answers = λ d w p ok k. leave_answers d gone locks w p ok k;
        replies = λ d w p ok k. leave_send (node.Client d.reply.who.client) (message.Reply d.reply) gone locks w p k;
      }

  -- a lock is released, and each who waited for its holder is answered; at the metadata target none does
  release_lead : (gone : List Who) (lock : Lock) (locks : List Lock) (past story : List Line) (v : Target) → story ≡ only t past
      → Settled past → Leaves gone (lock ∷ locks) v story
      → Reaches head stamp t past story v (releases at lock v) (λ w p. Leaves gone locks w p)
  release_lead gone lock locks past story v is settled h =
      let d = h.due lock (inl refl) in
      let more = rest (zero_or t) in (
        (
          (
            owes_nothing past at (Release lock) settled,
            inr (subst (λ (p : List Line). InTurn (IsEvict lock.ask.who) p at) is d.turned),
            (window_is head t gone come v story h.window, inr (record { evicted = d.evicted; still = d.still; shown = d.shown })),
          ),
          more.0,
        ),
        more.1,
      )
    where
      s : Server
      s = server_of head.osts story

      w : Target
      w = after v (Release lock)

      past1 : List Line
      past1 = line at (Release lock) ∷ past

      story1 : List Line
      story1 = line at (Release lock) ∷ story

      of_lock : Glimpse → Bool
      of_lock g = nat_eq g.cookie.0 lock.cookie.0

      stays : Glimpse → Bool
      stays g = not (is_life g.request.who gone)

      rest : (t ≡ 0) ⊎ (0 < t) → Reaches head stamp t past1 story1 w (glimpses_end at (glimpses_of lock v.glimpses) v)
          (λ x p. Leaves gone locks x p)
      rest (inl first) =
          subst (λ (gs : List Glimpse). Reaches head stamp t past1 story1 w (glimpses_end at (glimpses_of lock gs) v)
          (λ x p. Leaves gone locks x p))
          (sym (h.window.glimpses ∙ ap (filter stays) (h.window.names first).1)) (tt, leave_release lock gone locks v story h)
      rest (inr above) =
          released_lead head stamp t above (Leaves gone locks) (middle above gone locks) v lock (glimpses_of lock v.glimpses) past1 story1 w
          (story_turn head stamp t (Release lock ∷ []) past story is) tt (leave_release lock gone locks v story h)
          h.window.boot h.window.committed h.window.log (inl (refl, refl))
          (λ g i. let f = in_filter of_lock g v.glimpses i in (
            (in_filter stays g s.glimpses
                (subst (λ (gs : List Glimpse). In g gs) h.window.glimpses f.0)).0,
            f.1,
          ))
          (single_filter of_lock v.glimpses (subst Single (sym h.window.glimpses)
          (single_filter stays s.glimpses h.window.story.waits_so.once)))

  releases_lead : (gone : List Who) (locks : List Lock) (past story : List Line) (v : Target) → story ≡ only t past → Settled past
      → Leaves gone locks v story
      → Reaches head stamp t past story v (all_released at locks v) (λ w p. Leaves gone [] w p)
  releases_lead gone [] past story v is settled h = (settled, h)
  releases_lead gone (l ∷ locks) past story v is settled h =
      let es = releases at l v in
      reaches_more head stamp t (λ w p. Leaves gone locks w p) (λ w p. Leaves gone [] w p) es (all_released at locks) past story v is
      (release_lead gone l locks past story v is settled h)
      (λ e s k. releases_lead gone locks (with_turn at es past) (with_turn at es story) (turned v es) e s k)

  -- one life
  leaves_lead : (who : Who) (gone : List Who) (past story : List Line) (v : Target) → story ≡ only t past → Settled past
      → Leaves (who ∷ gone) [] v story
      → Reaches head stamp t past story v (Evict who cause ∷ evicted v who ∷ all_released at (locks_of who old) v)
      (λ w p. Leaves gone [] w p)
  leaves_lead who gone past story v is settled h =
      let out = leave_evict who gone v story h in
      let told = leave_send (node.Client who.client) (message.Evicted who v.boot) gone (locks_of who old) v
      (line at (Evict who cause) ∷ story) out in
      let more = releases_lead gone (locks_of who old) (line at (evicted v who) ∷ line at (Evict who cause) ∷ past)
      (line at (evicted v who) ∷ line at (Evict who cause) ∷ story) v
      (story_turn head stamp t (Evict who cause ∷ evicted v who ∷ []) past story is) tt told in (
        (
          (
            owes_nothing past at (Evict who cause) settled,
            tt,
            inl (record {
              serves = window_is head t (who ∷ gone) come v story h.window;
              has = h.has who (inl refl);
              commits = h.commits;
              logged = h.logged;
              caused = h.caused who (inl refl);
            }),
          ),
          (
            (
              tt,
              tt,
              record { to = refl; of_boot = h.window.boot; cause = inl (life_put who (evicted_of story)) },
            ),
            more.0,
          ),
        ),
        more.1,
      )

  pub evictions_lead : (gone : List Who) (past story : List Line) (v : Target) → story ≡ only t past → Settled past → Leaves gone [] v story
      → Reaches head stamp t past story v (evictions at cause old gone v) (λ w p. Leaves [] [] w p)
  evictions_lead [] past story v is settled h = (settled, h)
  evictions_lead (who ∷ gone) past story v is settled h =
      let es = Evict who cause ∷ evicted v who ∷ all_released at (locks_of who old) v in
      reaches_more head stamp t (λ w p. Leaves gone [] w p) (λ w p. Leaves [] [] w p) es (evictions at cause old gone) past story v is
      (leaves_lead who gone past story v is settled h)
      (λ e s k. evictions_lead gone (with_turn at es past) (with_turn at es story) (turned v es) e s k)

-- ---- from the commit on

pub leave_start : (head : Head) (stamp : Stamp) (t : ℕ) (cause : Cause) (gone come : List Who) (K : List Line → Type 0) → Carries t stamp K
    → (story : List Line) (v : Target) → Serving head t v story
    → ((x : Who) → In x gone → is_life x (lives_of head.clients story) ≡ true) → Distinct gone
    → ((x : Who) → In x gone → EvictedBy story (turn stamp (node.Target t)) x cause) → K story
    → Leaving head t (turn stamp (node.Target t)) cause v.granted come (without_lives gone (lives_of head.clients story))
    (with_lives gone (evicted_of story)) K gone [] (after v (commits v v.log gone come))
    (line (turn stamp (node.Target t)) (commits v v.log gone come) ∷ story)
leave_start head stamp t cause gone come K keeps story v h has distinct caused carried =
    let at : At = turn stamp (node.Target t) in
    let e : Entry = commits v v.log gone come in
    let first : IsFirst v.log (server_of head.osts story).log = subst (IsFirst v.log) h.alike.log (first_all v.log) in
    record {
      window = window_commit head t story stamp v.log gone come v (λ d i. first_in v.log (server_of head.osts story).log d first i)
          (commit_ok head story at v.log gone come v.committed h.story first h.alike.committed (serving_is head t v story h)) h;
      shown = h.shown;
      due = λ l i. absurd i;
      rises = tt;
      same = λ x i. ap (locks_of x) h.alike.granted;
      has = has;
      distinct = distinct;
      commits = inl (refl, tt);
      logged =
          subst (λ (log : List Deed). filter (λ (d : Deed). nat_lt (last_of log v.committed) d.reply.txn.0) (server_of head.osts story).log
          ≡ []) (sym h.alike.log)
          (subst (λ (n : ℕ). filter (λ (d : Deed). nat_lt (last_of (server_of head.osts story).log n) d.reply.txn.0)
          (server_of head.osts story).log ≡ []) (sym h.alike.committed)
          (all_logged (server_of head.osts story).log (server_of head.osts story).committed.0 (numbered (server_of head.osts story))
          h.story.logged));
      caused = λ x i. evicted_more (line at e) story at x cause tt (caused x i);
      left = refl;
      over = refl;
      carried = keeps e story tt carried;
    }
