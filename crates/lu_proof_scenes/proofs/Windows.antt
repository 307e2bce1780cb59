-- A target that recovers, in the run of a scenario: it boots, keeps what lives that come back tell it, and closes its window. All lines of
-- these
-- rows are such as may follow a boot (`IsBack`), so they are covered. They stand where a turn may ask a disk.
use Rattle.std.proofs.Common.{◌≡◌, ℕ, ◌+◌, Bool, List, [], ◌∷◌, ◌++◌, Option, Some, None, refl}
use Rattle.std.specs.Prelude.{nat_eq, nat_lt, not, ◌&&◌, if◌then◌else◌}
use Rattle.std.specs.List.{filter, list_any}
use Rattle.std.proofs.lemmas.Bool.{cond_both}
use Rattle.lu_base.specs.declared.ids.At.{At}
use Rattle.lu_base.specs.declared.ids.Node.{Node}
use Rattle.lu_base.specs.declared.ids.Who.{Who}
use Rattle.lu_base.specs.declared.locks.Lock.{Lock}
use Rattle.lu_msg.specs.declared.messages.Message.{Message}
use Rattle.lu_msg.specs.declared.messages.Message.TheVariants as message
use Rattle.lu_msg.specs.declared.messages.RequestReplay.{RequestReplay}
use Rattle.lu_spec_entries.specs.Carried.{Deed, Said, Gone, Outcome}
use Rattle.lu_spec_entries.specs.Words.{Entry, Send, Commit, Boot, Back, Close, Kept, Restore, Evict, Joined, Stores, Brings, Says, Wishes}
use Rattle.lu_spec_target.specs.Kept.{replayed}
use Rattle.lu_spec_target.specs.Leaving.{life_of}
use Rattle.lu_spec_target.specs.Lives.{is_life, lives_of, without_lives}
use Rattle.lu_spec_target.specs.Outcomes.{window_of, outcome_of}
use Rattle.lu_spec_target.specs.Recovery.{kept_lines, restore_lines, evict_lines, ready_lines, joined_lines, commit_of, answers_all}
use Rattle.lu_spec_target.specs.Recovery.{row_close, settles, back_line, row_keeps, cut, row_replay, row_lock, row_says, row_word}
use Rattle.lu_spec_target.specs.Recovery.{empty_word, wishes_by, row_wish, up_lines, row_boot}
use Rattle.lu_spec_target.specs.States.{Target, after, turn, follow}
use Rattle.lu_spec_target.specs.Windows.{is_replay, is_lock, word_of, is_newest, is_back, all_settled}
use Rattle.lu_proof_scenes.proofs.Every.{Every, every_more, every_so}
use Rattle.lu_proof_scenes.proofs.Asking.{IsOf, AllOf}
use Rattle.lu_proof_scenes.proofs.Served.{IsFor, LineServed, AllServed, OfRun, of_run_turn, of_each, of_left}

-- ---- lines

-- what it sends
abbrev pub SendBack : (clients : ℕ) → Node → Message → Type 0
SendBack clients to (message.Up boot) = IsFor clients to
SendBack clients to (message.Ready who boot committed) = Unit {0}
SendBack clients to (message.Evicted who boot) = Unit {0}
SendBack clients to _ = ⊥

abbrev pub IsBack : (clients : ℕ) → Entry → Type 0
IsBack clients (Send to m) = SendBack clients to m
IsBack clients (Commit to batch) = (batch.boot ≡ 0) × AllOf clients batch.added
IsBack clients (Stores replay) = Unit {0}
IsBack clients (Brings lock) = Unit {0}
IsBack clients (Says said) = Unit {0}
IsBack clients (Wishes who) = IsOf clients who
IsBack clients (Back who) = Unit {0}
IsBack clients (Close o) = AllOf clients o.disk.lives
IsBack clients (Kept number) = Unit {0}
IsBack clients (Restore lock) = Unit {0}
IsBack clients (Evict who cause) = Unit {0}
IsBack clients (Joined who) = Unit {0}
IsBack clients _ = ⊥

abbrev pub AllBack : (clients : ℕ) → List Entry → Type 0
AllBack clients es = Every (IsBack clients) es

module _ (clients : ℕ) where
  abbrev All : List Entry → Type 0
  All es = AllBack clients es

  line_served : (Ticks MayAsk : Type 0) → MayAsk → (e : Entry) → IsBack clients e → LineServed Ticks MayAsk clients e
  line_served Ticks MayAsk may (Send to (message.Up boot)) b = (may, b)
  line_served Ticks MayAsk may (Send to (message.Ready who boot committed)) b = may
  line_served Ticks MayAsk may (Send to (message.Evicted who boot)) b = may
  line_served Ticks MayAsk may (Commit to batch) b = (may, b.1)
  line_served Ticks MayAsk may (Stores replay) b = tt
  line_served Ticks MayAsk may (Brings lock) b = tt
  line_served Ticks MayAsk may (Says said) b = tt
  line_served Ticks MayAsk may (Wishes who) b = b
  line_served Ticks MayAsk may (Back who) b = tt
  line_served Ticks MayAsk may (Close o) b = (may, b)
  line_served Ticks MayAsk may (Kept number) b = tt
  line_served Ticks MayAsk may (Restore lock) b = tt
  line_served Ticks MayAsk may (Evict who cause) b = may
  line_served Ticks MayAsk may (Joined who) b = may
  line_served Ticks MayAsk may e b = absurd b

  pub back_served : (Ticks MayAsk : Type 0) → MayAsk → (es : List Entry) → All es → AllServed Ticks MayAsk clients es
  back_served Ticks MayAsk may es b = every_so (IsBack clients) (LineServed Ticks MayAsk clients) es (line_served Ticks MayAsk may) b

  -- these lines, and then those of the target as they left it
  follow_back : (es : List Entry) (next : Target → List Entry) (v : Target) → OfRun clients v → All es
      → ((w : Target) → OfRun clients w → All (next w)) → All (follow v es next)
  follow_back es next v q all more =
      every_more (IsBack clients) es (next (turn v es)) all (more (turn v es)
      (of_run_turn ⊥ (Unit {0}) clients v es (back_served ⊥ (Unit {0}) tt es all) q))

  -- ---- a close

  kept_back : (deeds : List Deed) → All (kept_lines deeds)
  kept_back [] = tt
  kept_back (d ∷ deeds) = (tt, kept_back deeds)

  restore_back : (locks : List Lock) → All (restore_lines locks)
  restore_back [] = tt
  restore_back (l ∷ locks) = (tt, restore_back locks)

  evict_back : (v : Target) (gone : List Gone) → All (evict_lines v gone)
  evict_back v [] = tt
  evict_back v (g ∷ gone) = (tt, (tt, evict_back v gone))

  ready_back : (v : Target) (lives : List Who) → All (ready_lines v lives)
  ready_back v [] = tt
  ready_back v (who ∷ lives) = (tt, ready_back v lives)

  joined_back : (v : Target) (lives : List Who) → All (joined_lines v lives)
  joined_back v [] = tt
  joined_back v (who ∷ lives) = (tt, (tt, joined_back v lives))

  answers_back : (o : Outcome) (lives : List Who) (v : Target) → All (answers_all o lives v)
  answers_back o lives v =
      let stay : List Who = filter (λ (who : Who). not (is_life who (lives_of o.gone))) lives in
      every_more (IsBack clients) (evict_lines v o.gone) (ready_lines v stay ++ joined_lines v o.joins) (evict_back v o.gone)
      (every_more (IsBack clients) (ready_lines v stay) (joined_lines v o.joins) (ready_back v stay) (joined_back v o.joins))

  -- who joins is of those that wished to, and who stays had a slot
  pub close_back : (at : At) (v : Target) → OfRun clients v → All (row_close at v)
  close_back at v q =
      let o : Outcome = outcome_of v at in
      let lives : AllOf clients o.disk.lives = of_each clients v.wishes (without_lives (lives_of o.gone) v.disk.lives) q.wishes
      (of_left clients (lives_of o.gone) v.disk.lives q.disk) in
      let first : List Entry = Close o ∷ commit_of o ∷ kept_lines o.kept ++ restore_lines o.locks in
      every_more (IsBack clients) first (answers_all o v.lives (turn v first)) (
        lives,
        (
          (refl, q.wishes),
          every_more (IsBack clients) (kept_lines o.kept) (restore_lines o.locks) (kept_back o.kept)
              (restore_back o.locks),
        ),
      )
      (answers_back o v.lives (turn v first))

  settles_back : (at : At) (v : Target) → OfRun clients v → All (settles at v)
  settles_back at v q = cond_both (all_settled (window_of v) v.lives) (row_close at v) [] All (λ t. close_back at v q) (λ t. tt)

  -- ---- what is kept

  line_back : (before : Bool) (who : Who) (v : Target) → All (back_line before who v)
  line_back before who v = cond_both (is_back (window_of v) who && not before) (Back who ∷ []) [] All (λ t. (tt, tt)) (λ t. tt)

  keeps_back : (v : Target) (at : At) (who : Who) (e : Entry) → OfRun clients v → IsBack clients e → All (row_keeps v at who e)
  keeps_back v at who e q one =
      let before : Bool = is_back (window_of v) who in
      follow_back (e ∷ []) (λ w. follow w (back_line before who w) (settles at)) v q (one, tt)
      (λ w r. follow_back (back_line before who w) (settles at) w r (line_back before who w) (λ x s. settles_back at x s))

  pub replay_back : (v : Target) (at : At) (r : RequestReplay) → OfRun clients v → All (row_replay v at r)
  replay_back v at r q = cond_both (list_any (is_replay (replayed r)) v.replays) [] (row_keeps v at r.who (Stores (cut r))) All (λ t. tt)
      (λ t. keeps_back v at r.who (Stores (cut r)) q tt)

  pub lock_back : (v : Target) (at : At) (l : Lock) → OfRun clients v → All (row_lock v at l)
  lock_back v at l q = cond_both (list_any (is_lock l) v.brought) [] (row_keeps v at l.ask.who (Brings l)) All (λ t. tt)
      (λ t. keeps_back v at l.ask.who (Brings l) q tt)

  pub word_back : (v : Target) (at : At) (said : Said) → OfRun clients v → All (row_word v at said)
  word_back v at said q = by (word_of said.who v.words)
    where
      by : (o : Option Said) → All (row_says v at said o)
      by None = keeps_back v at said.who (Says said) q tt
      by (Some before) = tt

  pub wish_back : (v : Target) (at : At) (who : Who) → OfRun clients v → IsOf clients who → All (row_wish v at who)
  wish_back v at who q one = by (life_of who.client v.lives)
    where
      by : (o : Option Who) → All (wishes_by v at who o)
      by None = tt
      by (Some old) =
          cond_both (nat_eq who.life old.life) (row_word v at (empty_word who))
          (if nat_lt old.life who.life && is_newest who v.wishes then row_keeps v at old (Wishes who) else []) All
          (λ t. word_back v at (empty_word who) q)
          (λ t. cond_both (nat_lt old.life who.life && is_newest who v.wishes) (row_keeps v at old (Wishes who)) [] All
          (λ b. keeps_back v at old (Wishes who) q one) (λ b. tt))

  -- ---- a boot

  up_back : (v : Target) (lives : List Who) → AllOf clients lives → All (up_lines v lives)
  up_back v [] all = tt
  up_back v (who ∷ lives) all = (all.0, up_back v lives all.1)

  -- what follows its first line
  pub boots_back : (at : At) (v : Target) → OfRun clients v → All (up_lines v v.lives ++ settles at v)
  boots_back at v q = every_more (IsBack clients) (up_lines v v.lives) (settles at v) (up_back v v.lives q.lives) (settles_back at v q)

-- the target as it comes up
abbrev pub booted : Target → Target
booted v = after v (Boot (v.disk.boot + 1) v.disk)

pub booted_of_run : (clients : ℕ) (v : Target) → OfRun clients v → OfRun clients (booted v)
booted_of_run clients v q = of_run_turn ⊥ (Unit {0}) clients v (Boot (v.disk.boot + 1) v.disk ∷ []) ((tt, q.disk), tt) q

pub boot_served : (MayAsk : Type 0) (clients : ℕ) (v : Target) (at : At) → MayAsk → OfRun clients v
    → AllServed ⊥ MayAsk clients (row_boot v at)
boot_served MayAsk clients v at may q =
    let w : Target = booted v in (
      (may, q.disk),
      back_served clients ⊥ MayAsk may (up_lines w w.lives ++ settles at w)
          (boots_back clients at w (booted_of_run clients v q)),
    )
