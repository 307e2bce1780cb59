-- Turns of a target that recovers, put together: what is told first, and what comes then.
use Rattle.std.proofs.Common.{◌≡◌, ◌+◌, ◌&&◌, Bool, true, false, not, List, [], ◌∷◌, ◌++◌, take, Option, Some, None, refl, sym, ap, subst}
use Rattle.std.proofs.Common.{◌∙◌}
use Rattle.std.specs.Prelude.{if◌then◌else◌}
use Rattle.std.specs.List.{list_any}
use Rattle.lu_base.specs.declared.ids.At.{At}
use Rattle.lu_base.specs.declared.ids.Who.{Who}
use Rattle.lu_base.specs.declared.locks.Lock.{Lock}
use Rattle.lu_msg.specs.declared.commits.Batch.{Batch}
use Rattle.lu_msg.specs.declared.messages.RequestReplay.{RequestReplay}
use Rattle.lu_trace.specs.Turns.{Making}
use Rattle.lu_spec_entries.specs.Carried.{Said}
use Rattle.lu_spec_entries.specs.Words.{Entry, Stores, Brings, Says, Wishes}
use Rattle.lu_spec_target.specs.Disks.{failing, batches_of}
use Rattle.lu_spec_target.specs.Windows.{Window, is_replay, is_lock, is_word, is_newest, is_back, with_replay, with_brought, with_word}
use Rattle.lu_spec_target.specs.Windows.{cut_seen, all_settled}
use Rattle.lu_spec_target.specs.Kept.{replayed}
use Rattle.lu_spec_target.specs.Outcomes.{window_of}
use Rattle.lu_spec_target.specs.Recovery.{cut, row_close, row_replay, row_lock, row_word, settles}
use Rattle.lu_spec_target.specs.States.{Target, turn}
use Rattle.lu_target_refines.specs.Windows.{ShowsWindow, stores, brings, says, wishes, backs}
use Rattle.lu_target_refines.proofs.Windows.{row_replay_is, row_replay_was, row_lock_is, row_lock_was, row_word_is, row_word_was}
use Rattle.lu_window.specs.States.{State, at_window, with_replays, took_replay, took_lock, took_word}
use Rattle.lu_spec_entries.specs.Given.{giving}
use Rattle.lu_target_server.specs.Servers.{ServerState, Shows}
use Rattle.lu_target_server.specs.Recovering.{Gathers, Recovers}
use Rattle.lu_target_server.specs.Passing.{Passes, IsClosed, HasBatches, StopsAt}
use Rattle.lu_target_server.proofs.Composing.{giving_more, giving_none, turn_more}

-- ---- what is told first asks the disk for nothing

pub record IsDry (es : List Entry) : Type 0 where
  pub fails : (more : List Entry) → failing (es ++ more) 0 ≡ es ++ failing more 0
  pub batches : (more : List Entry) → batches_of (es ++ more) ≡ batches_of more

pub dry_none : IsDry []
dry_none = record { fails = λ more. refl; batches = λ more. refl }

pub backs_dry : (back : Bool) (who : Who) → IsDry (backs back who)
backs_dry true who = record { fails = λ more. refl; batches = λ more. refl }
backs_dry false who = dry_none

pub stores_dry : (v : Target) (r : RequestReplay) → IsDry (stores v r)
stores_dry v r = by (list_any (is_replay (replayed r)) v.replays) where
  by : (was : Bool) → IsDry (if was then [] else Stores (cut r) ∷ [])
  by true = dry_none
  by false = record { fails = λ more. refl; batches = λ more. refl }

pub brings_dry : (v : Target) (l : Lock) → IsDry (brings v l)
brings_dry v l = by (list_any (is_lock l) v.brought) where
  by : (was : Bool) → IsDry (if was then [] else Brings l ∷ [])
  by true = dry_none
  by false = record { fails = λ more. refl; batches = λ more. refl }

pub says_dry : (v : Target) (word : Said) → IsDry (says v word)
says_dry v word = by (list_any (is_word word) v.words) where
  by : (was : Bool) → IsDry (if was then [] else Says word ∷ [])
  by true = dry_none
  by false = record { fails = λ more. refl; batches = λ more. refl }

pub wishes_dry : (v : Target) (who : Who) → IsDry (wishes v who)
wishes_dry v who = by (is_newest who v.wishes) where
  by : (newest : Bool) → IsDry (if newest then Wishes who ∷ [] else [])
  by false = dry_none
  by true = record { fails = λ more. refl; batches = λ more. refl }

-- ---- marks give nothing

pub stores_quiet : (v : Target) (r : RequestReplay) (making : Making) → making ≡ giving making (stores v r)
stores_quiet v r making = by (list_any (is_replay (replayed r)) v.replays) where
  by : (was : Bool) → making ≡ giving making (if was then [] else Stores (cut r) ∷ [])
  by true = sym (giving_none making)
  by false = sym (giving_none making)

pub brings_quiet : (v : Target) (l : Lock) (making : Making) → making ≡ giving making (brings v l)
brings_quiet v l making = by (list_any (is_lock l) v.brought) where
  by : (was : Bool) → making ≡ giving making (if was then [] else Brings l ∷ [])
  by true = sym (giving_none making)
  by false = sym (giving_none making)

pub says_quiet : (v : Target) (word : Said) (making : Making) → making ≡ giving making (says v word)
says_quiet v word making = by (list_any (is_word word) v.words) where
  by : (was : Bool) → making ≡ giving making (if was then [] else Says word ∷ [])
  by true = sym (giving_none making)
  by false = sym (giving_none making)

pub wishes_quiet : (v : Target) (who : Who) (making : Making) → making ≡ giving making (wishes v who)
wishes_quiet v who making = by (is_newest who v.wishes) where
  by : (newest : Bool) → making ≡ giving making (if newest then Wishes who ∷ [] else [])
  by false = sym (giving_none making)
  by true = sym (giving_none making)

-- ---- first this, and then that

-- a row that begins so: what stands after its beginning, and what is told of it
pub record Begins (shown mid : Target → Type 0) (first next row : Target → List Entry) (before between : Making) : Type 0 where
  pub told : (v : Target) → shown v → between ≡ giving before (first v)
  pub stands : (v : Target) → shown v → mid (turn v (first v))
  pub rows : (v : Target) → shown v → row v ≡ first v ++ next (turn v (first v))
  pub dry : (v : Target) → shown v → IsDry (first v)

module _ (shown mid : Target → Type 0) (first next row : Target → List Entry) (before between after : Making)
    (begins : Begins shown mid first next row before between) where
  turned : (v : Target) → shown v → turn v (row v) ≡ turn (turn v (first v)) (next (turn v (first v)))
  turned v it = ap (turn v) (begins.rows v it) ∙ turn_more v (first v) (next (turn v (first v)))

  given : (v : Target) → shown v → (es : List Entry) → after ≡ giving between es → after ≡ giving before (first v ++ es)
  given v it es is = is ∙ ap (λ (making : Making). giving making es) (begins.told v it) ∙ giving_more before (first v) es

  pub passes_then : (new : ServerState) (window : Option State) → Passes mid next new window between after
      → Passes shown row new window before after
  passes_then new window passes = record {
    gives = λ v it.
        given v it (next (turn v (first v))) (passes.gives (turn v (first v)) (begins.stands v it))
        ∙ ap (giving before) (sym (begins.rows v it));
    recovers = λ x is v it. subst (Recovers new x) (sym (turned v it)) (passes.recovers x is (turn v (first v)) (begins.stands v it));
    serves = λ out v it. subst (Shows new) (sym (turned v it)) (passes.serves out (turn v (first v)) (begins.stands v it));
  }

  pub stops_then : StopsAt 0 mid next between after → StopsAt 0 shown row before after
  stops_then stops =
      λ v it.
      given v it (failing (next (turn v (first v))) 0) (stops (turn v (first v)) (begins.stands v it))
      ∙ ap (giving before) (sym ((begins.dry v it).fails (next (turn v (first v)))))
      ∙ ap (λ (es : List Entry). giving before (failing es 0)) (sym (begins.rows v it))

  pub batches_then : (old new : List Batch) → HasBatches mid next old new → HasBatches shown row old new
  batches_then old new has =
      λ v it.
      let some = has (turn v (first v)) (begins.stands v it) in (
        some.0,
        some.1
            ∙ ap (λ (bs : List Batch). old ++ take some.0 bs) (sym ((begins.dry v it).batches (next (turn v (first v))))
            ∙ ap batches_of (sym (begins.rows v it))),
      )

-- nothing was written
pub no_batches : (shown : Target → Type 0) (row : Target → List Entry) (old new : List Batch) → new ≡ old → HasBatches shown row old new
no_batches shown row old new same = λ v it. (0, same ∙ none old) where
  none : (bs : List Batch) → bs ≡ bs ++ []
  none [] = refl
  none (b ∷ bs) = ap (λ (more : List Batch). b ∷ more) (none bs)

-- ---- the window stays still, or closes

pub unsettled : (at : At) (v : Target) → all_settled (window_of v) v.lives ≡ false → settles at v ≡ []
unsettled at v e = ap (λ (all : Bool). if all then row_close at v else []) e

pub all_there : (at : At) (v : Target) → all_settled (window_of v) v.lives ≡ true → settles at v ≡ row_close at v
all_there at v e = ap (λ (all : Bool). if all then row_close at v else []) e

-- as the code tests it
pub tested : (s : ServerState) (w : State) (v : Target) (all : Bool) → Gathers s w v → all ≡ all_settled w.window w.window.lives
    → all_settled (window_of v) v.lives ≡ all
tested s w v all g e = sym (e ∙ ap (λ (it : Window). all_settled it it.lives) g.window)

pub passes_open : (s : ServerState) (w : State) (making : Making) → all_settled w.window w.window.lives ≡ false
    → Passes (Gathers s w) (settles making.at) s (Some w) making making
passes_open s w making still = record {
  gives = λ v g. sym (ap (giving making) (is v g) ∙ giving_none making);
  recovers = λ x e v g. subst (λ (it : State). Recovers s it (turn v (settles making.at v))) (own x e)
      (subst (Recovers s w) (ap (turn v) (sym (is v g))) (record { gathers = g; awaits = tested s w v false g (sym still) }));
  serves = λ e. absurd (cc);
} where
  is : (v : Target) → Gathers s w v → settles making.at v ≡ []
  is v g = unsettled making.at v (tested s w v false g (sym still))

  own : (x : State) → Some w ≡ Some x → w ≡ x
  own x e = cc

pub passes_closed : (s new : ServerState) (w : State) (before after : Making) → all_settled w.window w.window.lives ≡ true
    → IsClosed (Gathers s w) (row_close before.at) new before after → Passes (Gathers s w) (settles before.at) new None before after
passes_closed s new w before after all closed = record {
  gives = λ v g. closed.gives v g ∙ ap (giving before) (sym (is v g));
  recovers = λ x e. absurd (cc);
  serves = λ e v g. subst (Shows new) (ap (turn v) (sym (is v g))) (closed.serves v g);
} where
  is : (v : Target) → Gathers s w v → settles before.at v ≡ row_close before.at v
  is v g = all_there before.at v (tested s w v true g (sym all))

pub stops_closed : (s : ServerState) (w : State) (before after : Making) → all_settled w.window w.window.lives ≡ true
    → StopsAt 0 (Gathers s w) (row_close before.at) before after → StopsAt 0 (Gathers s w) (settles before.at) before after
stops_closed s w before after all stops = λ v g. stops v g ∙ ap (λ (es : List Entry). giving before (failing es 0))
    (sym (all_there before.at v (tested s w v true g (sym all))))

pub batches_closed : (s : ServerState) (w : State) (at : At) (old new : List Batch) → all_settled w.window w.window.lives ≡ true
    → HasBatches (Gathers s w) (row_close at) old new → HasBatches (Gathers s w) (settles at) old new
batches_closed s w at old new all has = λ v g. let some = has v g in
    (some.0, some.1 ∙ ap (λ (es : List Entry). old ++ take some.0 (batches_of es)) (sym (all_there at v (tested s w v true g (sym all)))))

-- ---- the rows of what is taken, whether it was there already or not

-- nobody is back by what was there already
not_again : (b : Bool) → (b && not b) ≡ false
not_again true = refl
not_again false = refl

same_back : (w x : State) (who : Who) (back : Bool) → x.window ≡ w.window → back ≡ (is_back x.window who && not (is_back w.window who))
    → back ≡ false
same_back w x who back same e = e ∙ ap (λ (it : Window). is_back it who && not (is_back w.window who)) same
    ∙ not_again (is_back w.window who)

-- what was there already leaves the rest of its row empty
rest_empty : (at : At) (v : Target) (who : Who) (back : Bool) → all_settled (window_of v) v.lives ≡ false → back ≡ false → backs back who
    ++ settles at v ≡ []
rest_empty at v who back still e = ap (λ (b : Bool). backs b who ++ settles at v) e ∙ unsettled at v still

pub replay_row : (at : At) (v : Target) (r : RequestReplay) (w x : State) (back : Bool) → ShowsWindow w.window v
    → all_settled (window_of v) v.lives ≡ false
    → x ≡ at_window (took_replay (replayed r) w.window) w → back ≡ (is_back x.window r.who && not (is_back w.window r.who))
    → row_replay v at r ≡ stores v r ++ (backs back r.who ++ settles at (turn v (stores v r)))
replay_row at v r w x back shows still taken b = by (list_any (is_replay (replayed r)) v.replays) refl where
  by : (was : Bool) → list_any (is_replay (replayed r)) v.replays ≡ was
      → row_replay v at r ≡ (if was then [] else Stores (cut r) ∷ [])
      ++ (backs back r.who ++ settles at (turn v (if was then [] else Stores (cut r) ∷ [])))
  by false e = row_replay_is v at r w x back shows e taken b
  by true e =
      let there : list_any (is_replay (replayed r)) w.window.replays ≡ true =
      ap (λ (it : Window). list_any (is_replay (replayed r)) it.replays) shows ∙ e in
      let same : x.window ≡ w.window =
      ap (λ (it : State). it.window) taken ∙ ap (λ (was : Bool). with_replays
      (if was then w.window.replays else with_replay (cut_seen (replayed r)) w.window.replays) w.window) there in
      row_replay_was v at r e ∙ sym (rest_empty at v r.who back still (same_back w x r.who back same b))

pub lock_row : (at : At) (v : Target) (l : Lock) (w x : State) (back : Bool) → ShowsWindow w.window v → all_settled (window_of v) v.lives
    ≡ false
    → x ≡ at_window (took_lock l w.window) w → back ≡ (is_back x.window l.ask.who && not (is_back w.window l.ask.who))
    → row_lock v at l ≡ brings v l ++ (backs back l.ask.who ++ settles at (turn v (brings v l)))
lock_row at v l w x back shows still taken b = by (list_any (is_lock l) v.brought) refl where
  by : (was : Bool) → list_any (is_lock l) v.brought ≡ was
      → row_lock v at l ≡ (if was then [] else Brings l ∷ []) ++ (backs back l.ask.who
      ++ settles at (turn v (if was then [] else Brings l ∷ [])))
  by false e = row_lock_is v at l w x back shows e taken b
  by true e =
      let there : list_any (is_lock l) w.window.brought ≡ true = ap (λ (it : Window). list_any (is_lock l) it.brought) shows ∙ e in
      let same : x.window ≡ w.window =
      ap (λ (it : State). it.window) taken
      ∙ ap (λ (was : Bool). record {
        lives = w.window.lives;
        committed = w.window.committed;
        replays = w.window.replays;
        brought = if was
            then w.window.brought else with_brought l w.window.brought;
        words = w.window.words;
        wishes = w.window.wishes;
      }) there in
      row_lock_was v at l e ∙ sym (rest_empty at v l.ask.who back still (same_back w x l.ask.who back same b))

pub word_row : (at : At) (v : Target) (word : Said) (w x : State) (back : Bool) → ShowsWindow w.window v → all_settled (window_of v) v.lives
    ≡ false
    → x ≡ at_window (took_word word w.window) w → back ≡ (is_back x.window word.who && not (is_back w.window word.who))
    → row_word v at word ≡ says v word ++ (backs back word.who ++ settles at (turn v (says v word)))
word_row at v word w x back shows still taken b = by (list_any (is_word word) v.words) refl where
  by : (was : Bool) → list_any (is_word word) v.words ≡ was
      → row_word v at word ≡ (if was then [] else Says word ∷ [])
      ++ (backs back word.who ++ settles at (turn v (if was then [] else Says word ∷ [])))
  by false e = row_word_is v at word w x back shows e taken b
  by true e =
      let there : list_any (is_word word) w.window.words ≡ true = ap (λ (it : Window). list_any (is_word word) it.words) shows ∙ e in
      let same : x.window ≡ w.window =
      ap (λ (it : State). it.window) taken
      ∙ ap (λ (was : Bool). record {
        lives = w.window.lives;
        committed = w.window.committed;
        replays = w.window.replays;
        brought =
            w.window.brought;
        words = if was then w.window.words else with_word word w.window.words;
        wishes = w.window.wishes;
      }) there in
      row_word_was v at word e ∙ sym (rest_empty at v word.who back still (same_back w x word.who back same b))
