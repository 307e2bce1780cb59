-- What a recovery window takes, and what its close decides, is what the rows have.
use Rattle.std.proofs.Common.{◌≡◌, ℕ, Bool, true, false, not, ◌||◌, ◌&&◌, ◌==◌, List, [], ◌∷◌, ◌++◌, map, Option, Some, None, refl, sym, ap}
use Rattle.std.proofs.Common.{◌∙◌, arith, nat_lt}
use Rattle.std.specs.Prelude.{if◌then◌else◌}
use Rattle.std.specs.List.{list_any}
use Rattle.std.proofs.lemmas.Bool.Decides.{nat_tests}
use Rattle.lu_base.specs.declared.ids.At.{At}
use Rattle.lu_base.specs.declared.ids.Who.{Who}
use Rattle.lu_base.specs.declared.locks.Lock.{Lock}
use Rattle.lu_msg.specs.declared.messages.RequestReplay.{RequestReplay}
use Rattle.lu_spec_entries.specs.Carried.{Said, Disk, Gone}
use Rattle.lu_spec_entries.specs.Words.{Entry, Boot, Back, Stores, Brings, Says, Wishes, same_life}
use Rattle.lu_window.specs.declared.outcomes.Outcome.{Outcome}
use Rattle.lu_window.specs.Shown.{kept_replay, gone}
use Rattle.lu_window.specs.States.{State, opened, at_window, with_replays, took_replay, took_lock, took_word, took_wish, has_older}
use Rattle.lu_spec_target.specs.Windows.{Window, Replayed, Settled, settled, with_replay, with_brought, with_word, with_wish, cut_seen}
use Rattle.lu_spec_target.specs.Windows.{is_replay, is_lock, is_word, is_newest, is_back, all_settled, word_of}
use Rattle.lu_spec_target.specs.Kept.{replayed}
use Rattle.lu_spec_target.specs.Leaving.{life_of}
use Rattle.lu_spec_target.specs.Outcomes.{window_of, outcome_as, outcome_of}
use Rattle.lu_spec_target.specs.Recovery.{cut, back_line, settles, row_keeps, row_replay, row_lock, row_says, row_word, row_wish}
use Rattle.lu_spec_target.specs.Recovery.{empty_word}
use Rattle.lu_spec_target.specs.States.{Target, after, turn}
use Rattle.lu_target_refines.specs.Windows.{ShowsWindow, stores, brings, says, wishes, backs, settled_of}
use Rattle.lu_target_refines.specs.Lives.{InOrder, AreOthers, OfClients}
use Rattle.lu_target_refines.proofs.Lives.{put_all}

-- ---- a window of the lives that the disk has

pub opens : (v : Target) (boot : ℕ) (disk : Disk) (new : State) → InOrder disk.lives → new ≡ opened disk.lives disk.committed
    → ShowsWindow new.window (after v (Boot boot disk))
opens v boot disk new ordered e =
    ap (λ (s : State). s.window) e
    ∙ ap (λ (lives : List Who). record { lives = lives; committed = disk.committed; replays = []; brought = []; words = []; wishes = [] })
    (put_all disk.lives [] ordered)

-- ---- what it takes

pub takes_replay : (v : Target) (r : RequestReplay) (old new : State) → ShowsWindow old.window v → new
    ≡ at_window (took_replay (replayed r) old.window) old
    → ShowsWindow new.window (turn v (stores v r))
takes_replay v r old new shows taken = ap (λ (s : State). s.window) taken ∙ ap (took_replay (replayed r)) shows
    ∙ by (list_any (is_replay (replayed r)) v.replays) where
      by : (was : Bool) → with_replays (if was then v.replays else with_replay (cut_seen (replayed r)) v.replays) (window_of v)
          ≡ window_of (turn v (if was then [] else Stores (cut r) ∷ []))
      by true = refl
      by false = refl

pub takes_lock : (v : Target) (l : Lock) (old new : State) → ShowsWindow old.window v → new ≡ at_window (took_lock l old.window) old
    → ShowsWindow new.window (turn v (brings v l))
takes_lock v l old new shows taken = ap (λ (s : State). s.window) taken ∙ ap (took_lock l) shows ∙ by (list_any (is_lock l) v.brought) where
  by : (was : Bool)
      → record {
        lives = v.lives;
        committed = v.committed;
        replays = v.replays;
        brought = if was then v.brought
            else with_brought l v.brought;
        words = v.words;
        wishes = v.wishes;
      }
      ≡ window_of (turn v (if was then [] else Brings l ∷ []))
  by true = refl
  by false = refl

pub takes_word : (v : Target) (word : Said) (old new : State) → ShowsWindow old.window v → new ≡ at_window (took_word word old.window) old
    → ShowsWindow new.window (turn v (says v word))
takes_word v word old new shows taken = ap (λ (s : State). s.window) taken ∙ ap (took_word word) shows
    ∙ by (list_any (is_word word) v.words) where
      by : (was : Bool)
          → record {
            lives = v.lives;
            committed = v.committed;
            replays = v.replays;
            brought = v.brought;
            words = if was then v.words
                else with_word word v.words;
            wishes = v.wishes;
          }
          ≡ window_of (turn v (if was then [] else Says word ∷ []))
      by true = refl
      by false = refl

pub takes_wish : (v : Target) (who : Who) (old new : State) → ShowsWindow old.window v → new ≡ at_window (took_wish who old.window) old
    → ShowsWindow new.window (turn v (wishes v who))
takes_wish v who old new shows taken = ap (λ (s : State). s.window) taken ∙ ap (took_wish who) shows ∙ by (is_newest who v.wishes) where
  by : (newest : Bool)
      → record {
        lives = v.lives;
        committed = v.committed;
        replays = v.replays;
        brought = v.brought;
        words = v.words;
        wishes = if newest
            then with_wish who v.wishes else v.wishes;
      }
      ≡ window_of (turn v (if newest then Wishes who ∷ [] else []))
  by true = refl
  by false = refl

-- ---- the rows of what is taken: back is what the call answered

-- a life that is back is a line, and changes nothing
turned_back : (v : Target) (who : Who) (back : Bool) → turn v (backs back who) ≡ v
turned_back v who true = refl
turned_back v who false = refl

pub back_is : (v w : Target) (who : Who) (old new : Window) (back : Bool) → ShowsWindow old v → ShowsWindow new w → back
    ≡ (is_back new who && not (is_back old who))
    → back_line (is_back (window_of v) who) who w ≡ backs back who
back_is v w who old new back was is e =
    let from : is_back old who ≡ is_back (window_of v) who = ap (λ (x : Window). is_back x who) was in
    let to : is_back new who ≡ is_back (window_of w) who = ap (λ (x : Window). is_back x who) is in
    let both : back ≡ (is_back (window_of w) who && not (is_back (window_of v) who)) = cc in
    ap (λ b. if b then Back who ∷ [] else []) (sym both)

keeps_is : (v : Target) (at : At) (who : Who) (e : Entry) (old new : Window) (back : Bool) → ShowsWindow old v → ShowsWindow new (after v e)
    → back ≡ (is_back new who && not (is_back old who)) → row_keeps v at who e ≡ e ∷ (backs back who ++ settles at (after v e))
keeps_is v at who e old new back was is b =
    let line : back_line (is_back (window_of v) who) who (after v e) ≡ backs back who = back_is v (after v e) who old new back was is b in
    ap (λ (lines : List Entry). e ∷ (lines ++ settles at (turn (after v e) lines))) line
    ∙ ap (λ (w : Target). e ∷ (backs back who ++ settles at w)) (turned_back (after v e) who back)

-- what was there already is no entry
pub row_replay_was : (v : Target) (at : At) (r : RequestReplay) → list_any (is_replay (replayed r)) v.replays ≡ true → row_replay v at r
    ≡ []
row_replay_was v at r was = rw was refl

pub row_replay_is : (v : Target) (at : At) (r : RequestReplay) (old new : State) (back : Bool) → ShowsWindow old.window v
    → list_any (is_replay (replayed r)) v.replays ≡ false
    → new ≡ at_window (took_replay (replayed r) old.window) old → back ≡ (is_back new.window r.who && not (is_back old.window r.who))
    → row_replay v at r ≡ Stores (cut r) ∷ (backs back r.who ++ settles at (after v (Stores (cut r))))
row_replay_is v at r old new back shows first taken b =
    let now : ShowsWindow new.window (after v (Stores (cut r))) =
    takes_replay v r old new shows taken ∙ ap (λ was. window_of (turn v (if was then [] else Stores (cut r) ∷ []))) first
    in
    ap (λ was. if was then [] else row_keeps v at r.who (Stores (cut r))) first
    ∙ keeps_is v at r.who (Stores (cut r)) old.window new.window back shows now b

pub row_lock_was : (v : Target) (at : At) (l : Lock) → list_any (is_lock l) v.brought ≡ true → row_lock v at l ≡ []
row_lock_was v at l was = rw was refl

pub row_lock_is : (v : Target) (at : At) (l : Lock) (old new : State) (back : Bool) → ShowsWindow old.window v
    → list_any (is_lock l) v.brought ≡ false
    → new ≡ at_window (took_lock l old.window) old → back ≡ (is_back new.window l.ask.who && not (is_back old.window l.ask.who))
    → row_lock v at l ≡ Brings l ∷ (backs back l.ask.who ++ settles at (after v (Brings l)))
row_lock_is v at l old new back shows first taken b =
    let now : ShowsWindow new.window (after v (Brings l)) =
    takes_lock v l old new shows taken ∙ ap (λ was. window_of (turn v (if was then [] else Brings l ∷ []))) first
    in
    ap (λ was. if was then [] else row_keeps v at l.ask.who (Brings l)) first
    ∙ keeps_is v at l.ask.who (Brings l) old.window new.window back shows now b

-- of a life without a word there is none
no_word : (word : Said) (words : List Said) → list_any (is_word word) words ≡ false → word_of word.who words ≡ None
no_word word [] none = refl
no_word word (w ∷ words) none = by (same_life w.who word.who) none (no_word word words) where
  by : (here : Bool) → (here || list_any (is_word word) words) ≡ false
      → (list_any (is_word word) words ≡ false → word_of word.who words ≡ None)
      → (if here then Some w else word_of word.who words) ≡ None
  by true h rest = absurd (cc)
  by false h rest = rest h

pub row_word_was : (v : Target) (at : At) (word : Said) → list_any (is_word word) v.words ≡ true → row_word v at word ≡ []
row_word_was v at word was = by v.words was where
  by : (words : List Said) → list_any (is_word word) words ≡ true → row_says v at word (word_of word.who words) ≡ []
  by [] h = absurd (cc)
  by (w ∷ words) h = of (same_life w.who word.who) h (by words) where
    of : (here : Bool) → (here || list_any (is_word word) words) ≡ true
        → (list_any (is_word word) words ≡ true → row_says v at word (word_of word.who words) ≡ [])
        → row_says v at word (if here then Some w else word_of word.who words) ≡ []
    of true h rest = refl
    of false h rest = rest h

pub row_word_is : (v : Target) (at : At) (word : Said) (old new : State) (back : Bool) → ShowsWindow old.window v
    → list_any (is_word word) v.words ≡ false
    → new ≡ at_window (took_word word old.window) old → back ≡ (is_back new.window word.who && not (is_back old.window word.who))
    → row_word v at word ≡ Says word ∷ (backs back word.who ++ settles at (after v (Says word)))
row_word_is v at word old new back shows first taken b =
    let now : ShowsWindow new.window (after v (Says word)) =
    takes_word v word old new shows taken ∙ ap (λ was. window_of (turn v (if was then [] else Says word ∷ []))) first
    in
    ap (row_says v at word) (no_word word v.words first)
    ∙ keeps_is v at word.who (Says word) old.window new.window back shows now b

-- ---- joins, by the life of the client that has a slot

pub row_wish_none : (v : Target) (at : At) (who : Who) → life_of who.client v.lives ≡ None → row_wish v at who ≡ []
row_wish_none v at who none = rw none refl

-- its own join counts as its word
pub row_wish_same : (v : Target) (at : At) (who old : Who) → life_of who.client v.lives ≡ Some old → (who.life == old.life) ≡ true
    → row_wish v at who ≡ row_word v at (empty_word who)
row_wish_same v at who old is same = rw is (rw same refl)

pub row_wish_older : (v : Target) (at : At) (who old : Who) → life_of who.client v.lives ≡ Some old → nat_lt who.life old.life ≡ true
    → row_wish v at who ≡ []
row_wish_older v at who old is older =
    let one : (who.life == old.life) ≡ false = grind (arith, nat_tests) in
    let two : nat_lt old.life who.life ≡ false = grind (arith, nat_tests) in
    rw is (rw (one, two) refl)

-- nobody is back by a wish
no_back : (back : Bool) → (back && not back) ≡ false
no_back true = refl
no_back false = refl

pub row_wish_newer : (v : Target) (at : At) (who old : Who) → life_of who.client v.lives ≡ Some old → nat_lt old.life who.life ≡ true
    → row_wish v at who ≡ (if is_newest who v.wishes then Wishes who ∷ settles at (after v (Wishes who)) else [])
row_wish_newer v at who old is newer =
    let one : (who.life == old.life) ≡ false = grind (arith, nat_tests) in
    rw is (rw (one, newer) (by (is_newest who v.wishes)))
  where
    by : (newest : Bool) → (if newest then row_keeps v at old (Wishes who) else [])
        ≡ (if newest then Wishes who ∷ settles at (after v (Wishes who)) else [])
    by true = keeps_is v at old (Wishes who) (window_of v) (window_of (after v (Wishes who))) false refl refl
        (sym (no_back (is_back (window_of v) old)))
    by false = refl

-- ---- the close

pub all_back_is : (v : Target) (window : Window) (all : Bool) → ShowsWindow window v → all ≡ all_settled window window.lives → all
    ≡ all_settled (window_of v) v.lives
all_back_is v window all shows e = e ∙ ap (λ (w : Window). all_settled w w.lives) shows

abbrev settled_as : List Replayed → List ℕ → List Gone → List Lock → List Who → Settled
settled_as kept lost left locks joins = record { kept = kept; lost = lost; gone = left; locks = locks; joins = joins }

fields : (o : Outcome) (s : Settled) → map kept_replay o.kept ≡ s.kept → o.lost ≡ s.lost → map gone o.evicted ≡ s.gone → o.locks ≡ s.locks
    → o.joins ≡ s.joins → settled_of o ≡ s
fields o s kept lost evicted locks joins =
    ap (λ (xs : List Replayed). settled_as xs o.lost (map gone o.evicted) o.locks o.joins) kept
    ∙ ap (λ (xs : List ℕ). settled_as s.kept xs (map gone o.evicted) o.locks o.joins) lost
    ∙ ap (λ (xs : List Gone). settled_as s.kept s.lost xs o.locks o.joins) evicted
    ∙ ap (λ (xs : List Lock). settled_as s.kept s.lost s.gone xs o.joins) locks
    ∙ ap (λ (xs : List Who). settled_as s.kept s.lost s.gone s.locks xs) joins

pub settles_is : (v : Target) (window : Window) (o : Outcome) → ShowsWindow window v
    → map kept_replay o.kept ≡ (settled window).kept → o.lost ≡ (settled window).lost → map gone o.evicted ≡ (settled window).gone
    → o.locks ≡ (settled window).locks → o.joins ≡ (settled window).joins → settled_of o ≡ settled (window_of v)
settles_is v window o shows kept lost evicted locks joins = fields o (settled window) kept lost evicted locks joins ∙ ap settled shows

pub outcome_is : (v : Target) (at : At) (o : Outcome) → settled_of o ≡ settled (window_of v) → outcome_of v at
    ≡ outcome_as v at (settled_of o)
outcome_is v at o e = ap (outcome_as v at) (sym e)

-- ---- which life a join may replace: where each client has one life with a slot, an older one has it exactly if that is older

abbrev pub is_older : Who → Option Who → Bool
is_older who None = false
is_older who (Some old) = nat_lt old.life who.life

none_older : (who w : Who) (lives : List Who) → (w.client == who.client) ≡ true → AreOthers w lives → has_older who lives ≡ false
none_older who w [] same others = refl
none_older who w (x ∷ lives) same others =
    let apart : (x.client == who.client) ≡ false = let other : (x.client == w.client) ≡ false = others.0 in grind (arith, nat_tests) in
    ap (λ b. (b && nat_lt x.life who.life) || has_older who lives) apart ∙ none_older who w lives same others.1

pub older_is : (who : Who) (lives : List Who) → OfClients lives → has_older who lives ≡ is_older who (life_of who.client lives)
older_is who [] of = refl
older_is who (w ∷ lives) of = by (w.client == who.client) refl (older_is who lives of.1) where
  or_none : (b : Bool) → (b || false) ≡ b
  or_none true = refl
  or_none false = refl

  by : (here : Bool) → (w.client == who.client) ≡ here → has_older who lives ≡ is_older who (life_of who.client lives)
      → ((here && nat_lt w.life who.life) || has_older who lives) ≡ is_older who (if here then Some w else life_of who.client lives)
  by true h rest = ap (λ b. nat_lt w.life who.life || b) (none_older who w lives h of.0) ∙ or_none (nat_lt w.life who.life)
  by false h rest = rest
