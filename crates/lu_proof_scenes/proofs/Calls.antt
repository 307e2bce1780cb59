-- How often a target's row calls its disk: once at most; and a boot's, which begins with two calls, once more at most.
use Rattle.std.proofs.Common.{◌≡◌, ℕ, zero, suc, ◌+◌, ◌<◌, ◌≤◌, Bool, true, false, List, [], ◌∷◌, ◌++◌, Option, Some, None, refl, sym}
use Rattle.std.proofs.Common.{subst, ap, ◌∙◌, arith}
use Rattle.std.specs.Prelude.{nat_eq, nat_lt, not, ◌&&◌, if◌then◌else◌, filter}
use Rattle.std.specs.List.{list_any}
use Rattle.std.proofs.lemmas.Bool.{cond_both}
use Rattle.lu_base.specs.declared.ids.At.{At}
use Rattle.lu_base.specs.declared.ids.Node.{Node}
use Rattle.lu_base.specs.declared.ids.Node.TheVariants.{Client as FromClient}
use Rattle.lu_base.specs.declared.ids.Who.{Who}
use Rattle.lu_base.specs.declared.locks.Cause.{Cause}
use Rattle.lu_base.specs.declared.locks.Cause.TheVariants.{Expired, Replaced}
use Rattle.lu_base.specs.declared.locks.Lock.{Lock}
use Rattle.lu_msg.specs.declared.messages.Message.{Message}
use Rattle.lu_msg.specs.declared.messages.Message.TheVariants as message
use Rattle.lu_msg.specs.declared.messages.RequestReplay.{RequestReplay}
use Rattle.lu_spec_entries.specs.Carried.{Deed, Disk, Gone, Outcome, Said}
use Rattle.lu_spec_entries.specs.Words.{Entry, Tick, Skip, Take, Crash, Boot, Close, Evict, Joined, Back, Stores, Brings, Says, Wishes}
use Rattle.lu_spec_target.specs.Disks.{calls}
use Rattle.lu_spec_target.specs.Leaving.{commits, evicted, ready, locks_of, all_released, evictions, all_go, condemned, expels}
use Rattle.lu_spec_target.specs.Leaving.{sends_again}
use Rattle.lu_spec_target.specs.Leaving.{ticked, row_tick, life_of, admits, row_admits, by_life, is_over, row_join}
use Rattle.lu_spec_target.specs.Lives.{is_life, lives_of}
use Rattle.lu_spec_target.specs.Outcomes.{window_of, outcome_of}
use Rattle.lu_spec_target.specs.Recovery.{kept_lines, restore_lines, evict_lines, ready_lines, joined_lines, commit_of, answers_all}
use Rattle.lu_spec_target.specs.Recovery.{closes}
use Rattle.lu_spec_target.specs.Recovery.{row_close, settles, back_line, row_keeps, cut, row_replay, row_lock, row_says, row_word}
use Rattle.lu_spec_target.specs.Recovery.{empty_word, wishes_by, row_wish, up_lines, row_boot}
use Rattle.lu_spec_target.specs.Kept.{replayed}
use Rattle.lu_spec_target.specs.Glimpses.{row_report, asked_for}
use Rattle.lu_spec_target.specs.Requests.{row_request, row_cancel, row_where}
use Rattle.lu_spec_target.specs.Rows.{by_boot, by_slot, heeds, while_serving, while_recovering, of_boot, lock_again, row_heeds}
use Rattle.lu_spec_target.specs.Rows.{first_deeds, row_commits}
use Rattle.lu_spec_target.specs.Rows.{row_commit, row_closes}
use Rattle.lu_spec_target.specs.Rows as target
use Rattle.lu_spec_target.specs.States.{Target, is_serving, after, turn, follow}
use Rattle.lu_spec_target.specs.Windows.{is_replay, is_lock, word_of, is_newest, is_back, all_settled}
use Rattle.lu_proof_lawful.specs.Failing.{IsFirstCall}
use Rattle.lu_proof_scenes.proofs.Asking.{IsOf}
use Rattle.lu_proof_scenes.proofs.Served.{AllServed, OfRun, asks_none}
use Rattle.lu_proof_scenes.proofs.Targets.{MessageServed, Spoken, comes_served, all_go_served, released_served, again_served}

-- ---- lists of lines, one after the other

few_lines : (es more : List Entry) → calls (es ++ more) ≡ calls es + calls more
few_lines [] more = omega arith
few_lines (e ∷ es) more = let rest = few_lines es more in omega (arith, rest)

abbrev Few : List Entry → Type 0
Few es = calls es ≤ 1

-- where no turn may ask a disk these lines stand, so they ask none
calm : (Ticks : Type 0) (clients : ℕ) (es : List Entry) → AllServed Ticks ⊥ clients es → calls es ≡ 0
calm Ticks clients es all = asks_none Ticks ⊥ clients (λ k. k) es all

-- ---- lives that leave and lives that come

calls_evictions : (at : At) (cause : Cause) (granted : List Lock) (gone : List Who) (v : Target)
    → calls (evictions at cause granted gone v) ≡ 0
calls_evictions at cause granted [] v = refl
calls_evictions at cause granted (who ∷ gone) v =
    let es : List Entry = Evict who cause ∷ evicted v who ∷ all_released at (locks_of who granted) v in
    let released = calm ⊥ 0 (all_released at (locks_of who granted) v) (released_served ⊥ 0 at (locks_of who granted) v) in
    let more = calls_evictions at cause granted gone (turn v es) in
    let all = few_lines es (evictions at cause granted gone (turn v es)) in
    omega (arith, released, more, all)

calls_go : (at : At) (v : Target) → calls (all_go at v) ≡ 0
calls_go at v = calm ⊥ 0 (all_go at v) (all_go_served ⊥ 0 at v)

calls_admits : (at : At) (who : Who) (v : Target) → calls (admits at who v) ≡ 0
calls_admits at who v =
    let go = calls_go at (turn v (Joined who ∷ ready v who ∷ [])) in
    omega (arith, go)

-- what comes behind the commit of a row in which lives leave
calls_left : (at : At) (cause : Cause) (granted : List Lock) (gone : List Who) (next : Target → List Entry) (w : Target)
    → ((x : Target) → calls (next x) ≡ 0) → calls (follow w (evictions at cause granted gone w) next) ≡ 0
calls_left at cause granted gone next w goes =
    let es = evictions at cause granted gone w in
    let left = calls_evictions at cause granted gone w in
    let more = goes (turn w es) in
    let all = few_lines es (next (turn w es)) in
    omega (arith, left, more, all)

few_expels : (at : At) (gone : List Who) (v : Target) → Few (expels at gone v)
few_expels at [] v = omega arith
few_expels at (who ∷ gone) v =
    let w : Target = after v (commits v v.log (who ∷ gone) []) in
    let left = calls_left at Expired v.granted (who ∷ gone) (all_go at) w (calls_go at) in
    omega (arith, left)

few_ticked : (at : At) (v : Target) → Few (ticked at v)
few_ticked at v =
    let es : List Entry = expels at (condemned v v.called) v in
    let w : Target = turn v es in
    let first = few_expels at (condemned v v.called) v in
    let again = calm ⊥ 0 (sends_again w v.called v.glimpses w.granted) (again_served ⊥ 0 w v.called v.glimpses w.granted) in
    let all = few_lines es (sends_again w v.called v.glimpses w.granted) in
    omega (arith, first, again, all)

few_admits : (at : At) (old : List Who) (who : Who) (v : Target) → Few (row_admits at old who v)
few_admits at old who v =
    let w : Target = after v (commits v v.log old (who ∷ [])) in
    let left = calls_left at Replaced v.granted old (admits at who) w (calls_admits at who) in
    omega (arith, left)

few_life : (at : At) (who : Who) (v : Target) (o : Option Who) → Few (by_life v at who o)
few_life at who v None = few_admits at [] who v
few_life at who v (Some old) =
    cond_both (nat_lt who.life old.life) (evicted v who ∷ [])
    (if nat_eq who.life old.life then ready v who ∷ [] else row_admits at (old ∷ []) who v) Few (λ t. omega arith)
    (λ t. cond_both (nat_eq who.life old.life) (ready v who ∷ []) (row_admits at (old ∷ []) who v) Few (λ b. omega arith)
    (λ b. few_admits at (old ∷ []) who v))

few_join : (at : At) (who : Who) (v : Target) → Few (row_join v at who)
few_join at who v =
    cond_both (list_any (is_over who) v.removed) (evicted v who ∷ []) (by_life v at who (life_of who.client v.lives)) Few
    (λ t. omega arith) (λ t. few_life at who v (life_of who.client v.lives))

-- ---- a close

calls_kept : (deeds : List Deed) → calls (kept_lines deeds) ≡ 0
calls_kept [] = refl
calls_kept (d ∷ deeds) = let more = calls_kept deeds in omega (arith, more)

calls_restored : (locks : List Lock) → calls (restore_lines locks) ≡ 0
calls_restored [] = refl
calls_restored (l ∷ locks) = let more = calls_restored locks in omega (arith, more)

calls_evicted : (v : Target) (gone : List Gone) → calls (evict_lines v gone) ≡ 0
calls_evicted v [] = refl
calls_evicted v (g ∷ gone) = let more = calls_evicted v gone in omega (arith, more)

calls_ready : (v : Target) (lives : List Who) → calls (ready_lines v lives) ≡ 0
calls_ready v [] = refl
calls_ready v (who ∷ lives) = let more = calls_ready v lives in omega (arith, more)

calls_joined : (v : Target) (lives : List Who) → calls (joined_lines v lives) ≡ 0
calls_joined v [] = refl
calls_joined v (who ∷ lives) = let more = calls_joined v lives in omega (arith, more)

calls_up : (v : Target) (lives : List Who) → calls (up_lines v lives) ≡ 0
calls_up v [] = refl
calls_up v (who ∷ lives) = let more = calls_up v lives in omega (arith, more)

calls_answers : (o : Outcome) (lives : List Who) (v : Target) → calls (answers_all o lives v) ≡ 0
calls_answers o lives v =
    let stay : List Who = filter (λ (who : Who). not (is_life who (lives_of o.gone))) lives in
    let gone = calls_evicted v o.gone in
    let stays = calls_ready v stay in
    let joins = calls_joined v o.joins in
    let all = few_lines (evict_lines v o.gone) (ready_lines v stay ++ joined_lines v o.joins) in
    let rest = few_lines (ready_lines v stay) (joined_lines v o.joins) in
    omega (arith, gone, stays, joins, all, rest)

few_closes : (v : Target) (o : Outcome) → Few (closes v o)
few_closes v o =
    let lines : List Entry = kept_lines o.kept ++ restore_lines o.locks in
    let first : List Entry = Close o ∷ commit_of o ∷ lines in
    let shown = calls_answers o v.lives (turn v first) in
    let kept = calls_kept o.kept in
    let restored = calls_restored o.locks in
    let both = few_lines (kept_lines o.kept) (restore_lines o.locks) in
    let all = few_lines lines (answers_all o v.lives (turn v first)) in
    omega (arith, shown, kept, restored, both, all)

few_settles : (at : At) (v : Target) → Few (settles at v)
few_settles at v =
    cond_both (all_settled (window_of v) v.lives) (row_close at v) [] Few (λ t. few_closes v (outcome_of v at)) (λ t. omega arith)

-- ---- what is kept

calls_back : (before : Bool) (who : Who) (v : Target) → calls (back_line before who v) ≡ 0
calls_back before who v =
    cond_both (is_back (window_of v) who && not before) (Back who ∷ []) [] (λ (es : List Entry). calls es ≡ 0) (λ t. refl) (λ t. refl)

-- these lines call no disk, then the window may close
few_back : (before : Bool) (who : Who) (at : At) (w : Target) → Few (follow w (back_line before who w) (settles at))
few_back before who at w =
    let es = back_line before who w in
    let first = calls_back before who w in
    let last = few_settles at (turn w es) in
    let all = few_lines es (settles at (turn w es)) in
    omega (arith, first, last, all)

few_replay : (v : Target) (at : At) (r : RequestReplay) → Few (row_replay v at r)
few_replay v at r =
    cond_both (list_any (is_replay (replayed r)) v.replays) [] (row_keeps v at r.who (Stores (cut r))) Few (λ t. omega arith)
    (λ t. let more = few_back (is_back (window_of v) r.who) r.who at (after v (Stores (cut r))) in omega (arith, more))

few_lock : (v : Target) (at : At) (l : Lock) → Few (row_lock v at l)
few_lock v at l =
    cond_both (list_any (is_lock l) v.brought) [] (row_keeps v at l.ask.who (Brings l)) Few (λ t. omega arith)
    (λ t. let more = few_back (is_back (window_of v) l.ask.who) l.ask.who at (after v (Brings l)) in omega (arith, more))

few_word : (v : Target) (at : At) (said : Said) → Few (row_word v at said)
few_word v at said = by (word_of said.who v.words)
  where
    by : (o : Option Said) → Few (row_says v at said o)
    by None = let more = few_back (is_back (window_of v) said.who) said.who at (after v (Says said)) in omega (arith, more)
    by (Some before) = omega arith

few_wish : (v : Target) (at : At) (who : Who) → Few (row_wish v at who)
few_wish v at who = by (life_of who.client v.lives)
  where
    by : (o : Option Who) → Few (wishes_by v at who o)
    by None = omega arith
    by (Some old) =
        cond_both (nat_eq who.life old.life) (row_word v at (empty_word who))
        (if nat_lt old.life who.life && is_newest who v.wishes then row_keeps v at old (Wishes who) else []) Few
        (λ t. few_word v at (empty_word who))
        (λ t. cond_both (nat_lt old.life who.life && is_newest who v.wishes) (row_keeps v at old (Wishes who)) [] Few
        (λ b. let more = few_back (is_back (window_of v) old) old at (after v (Wishes who)) in omega (arith, more))
        (λ b. omega arith))

-- ---- a message comes

few_boot : (v : Target) (who : Who) (rest : List Entry) (older : Bool) → Few rest → Few (by_boot v who older rest)
few_boot v who rest true few = omega arith
few_boot v who rest false few = few

few_slot : (v : Target) (who : Who) (rest : List Entry) (has : Bool) → Few rest → Few (by_slot v who has rest)
few_slot v who rest true few = few
few_slot v who rest false few = omega arith

few_heeds : (v : Target) (who : Who) (boot : ℕ) (rest : List Entry) → Few rest → Few (heeds v who boot rest)
few_heeds v who boot rest few =
    few_boot v who (by_slot v who (is_life who v.lives) rest) (nat_lt boot v.boot) (few_slot v who rest (is_life who v.lives) few)

few_recovering : (v : Target) (boot : ℕ) (rest : List Entry) → Few rest → Few (while_recovering v (of_boot v boot rest))
few_recovering v boot rest few =
    cond_both (is_serving v) [] (of_boot v boot rest) Few (λ t. omega arith)
    (λ t. cond_both (nat_eq boot v.boot) rest [] Few (λ b. few) (λ b. omega arith))

differ : (b : Bool) → b ≡ true → b ≡ false → ⊥
differ true e f = absurd (cc)
differ false e f = absurd (cc)

module _ (MayAsk : Type 0) (clients : ℕ) (v : Target) (s : OfRun clients v) (at : At) where
  -- what is said of requests and locks asks none, in its present boot and of a life with a slot
  spoken_few : (m : Message) (who : Who) (boot : ℕ) → IsOf clients who → (rest : List Entry)
      → row_heeds v at m ≡ heeds v who boot rest → (Spoken ⊥ clients v who boot → MessageServed ⊥ clients v m) → Few (row_heeds v at m)
  spoken_few m who boot of rest same speaks = by (nat_lt boot v.boot) refl (is_life who v.lives) refl
    where
      shown : (older has : Bool) → nat_lt boot v.boot ≡ older → is_life who v.lives ≡ has
          → row_heeds v at m ≡ by_boot v who older (by_slot v who has rest)
      shown older has e f =
          same ∙ ap (λ (b : Bool). by_boot v who b (by_slot v who (is_life who v.lives) rest)) e
          ∙ ap (λ (b : Bool). by_boot v who older (by_slot v who b rest)) f

      by : (older : Bool) → nat_lt boot v.boot ≡ older → (has : Bool) → is_life who v.lives ≡ has → Few (row_heeds v at m)
      by true e has f = subst Few (sym (shown true has e f)) (omega arith)
      by false e false f = subst Few (sym (shown false false e f)) (omega arith)
      by false e true f =
          let all = comes_served ⊥ clients v at 0 (FromClient 0) m s (speaks (record {
            of = of;
            older = λ o. differ (nat_lt boot v.boot) o e;
            without = λ w. differ (is_life who v.lives) f w;
          })) in
          let none = calm ⊥ clients (row_heeds v at m) all.1 in
          omega (arith, none)

  few_message : (m : Message) → MessageServed MayAsk clients v m → Few (row_heeds v at m)
  few_message (message.Request r) is =
      spoken_few (message.Request r) r.who r.boot is.of (while_serving v (row_request v at r)) refl (λ k. k)
  few_message (message.Cancel who boot cookie) is =
      spoken_few (message.Cancel who boot cookie) who boot is.of (while_serving v (row_cancel v at who cookie)) refl (λ k. k)
  few_message (message.Where who boot cookie) is =
      spoken_few (message.Where who boot cookie) who boot is.of (while_serving v (row_where v who cookie)) refl (λ k. k)
  few_message (message.Size m) is =
      spoken_few (message.Size m) m.who m.boot is.of (while_serving v (row_report v at m (asked_for m v.glimpses))) refl (λ k. k)
  few_message (message.Replay r) is =
      few_heeds v r.who r.boot (while_recovering v (of_boot v r.boot (row_replay v at r)))
      (few_recovering v r.boot (row_replay v at r) (few_replay v at r))
  few_message (message.Lock r) is =
      few_heeds v r.who r.boot (while_recovering v (of_boot v r.boot (row_lock v at (lock_again r))))
      (few_recovering v r.boot (row_lock v at (lock_again r)) (few_lock v at (lock_again r)))
  few_message (message.Word who boot replays locks seen) is =
      let said : Said = record { who = who; replays = replays; locks = locks; seen = seen } in
      few_heeds v who boot (if is_serving v then ready v who ∷ [] else of_boot v boot (row_word v at said))
      (cond_both (is_serving v) (ready v who ∷ []) (of_boot v boot (row_word v at said)) Few (λ t. omega arith)
      (λ t. cond_both (nat_eq boot v.boot) (row_word v at said) [] Few (λ b. few_word v at said) (λ b. omega arith)))
  few_message (message.Join who boot) is =
      few_boot v who (if is_serving v then row_join v at who else row_wish v at who) (nat_lt boot v.boot)
      (cond_both (is_serving v) (row_join v at who) (row_wish v at who) Few (λ t. few_join at who v) (λ t. few_wish v at who))
  few_message m is = absurd is

-- ---- all events

few_commits : (v : Target) (deeds : List Deed) → Few (row_commits v deeds)
few_commits v [] = omega arith
few_commits v (d ∷ deeds) = omega arith

first_zero : (es : List Entry) → IsFirstCall es zero
first_zero [] = tt
first_zero (Boot boot disk ∷ es) = tt
first_zero (e ∷ es) = tt

first_few : (es : List Entry) (n : ℕ) → Few es → n < calls es → IsFirstCall es n
first_few es zero few low = first_zero es
first_few es (suc n) few low = absurd (omega (arith, few, low))

first_behind : (boot : ℕ) (disk : Disk) (xs : List Entry) (n : ℕ) → Few xs → n < 2 + calls xs → IsFirstCall (Boot boot disk ∷ xs) n
first_behind boot disk xs zero few low = tt
first_behind boot disk xs (suc zero) few low = tt
first_behind boot disk xs (suc (suc zero)) few low = tt
first_behind boot disk xs (suc (suc (suc n))) few low = absurd (omega (arith, few, low))

module _ (MayAsk : Type 0) (clients : ℕ) (v : Target) (s : OfRun clients v) (at : At) where
  abbrev First : List Entry → Type 0
  First es = (n : ℕ) → n < calls es → IsFirstCall es n

  firsts : (es : List Entry) → Few es → First es
  firsts es few n low = first_few es n few low

  skips : First (Skip ∷ [])
  skips = firsts (Skip ∷ []) (omega arith)

  pub comes_first : (n : ℕ) (from : Node) (m : Message) → MessageServed MayAsk clients v m
      → First (target.row v at (target.Comes n from m))
  comes_first n from m is = firsts (Take n from m ∷ row_heeds v at m)
      (let few = few_message MayAsk clients v s at m is in omega (arith, few))

  pub tick_first : First (target.row v at target.Ticks)
  tick_first = cond_both v.up (row_tick v at) (Skip ∷ []) First
      (λ up. cond_both (is_serving v) (follow v (Tick ∷ []) (ticked at)) (Tick ∷ []) First
      (λ t. firsts (follow v (Tick ∷ []) (ticked at)) (let few = few_ticked at (after v Tick) in omega (arith, few)))
      (λ t. firsts (Tick ∷ []) (omega arith))) (λ down. skips)

  pub commit_first : (count : Option ℕ) → First (target.row v at (target.Commits count))
  commit_first count = cond_both v.up (row_commit v count) (Skip ∷ []) First
      (λ up. cond_both (is_serving v) (row_commits v (first_deeds count v.log)) (Skip ∷ []) First
      (λ t. firsts (row_commits v (first_deeds count v.log)) (few_commits v (first_deeds count v.log))) (λ t. skips)) (λ down. skips)

  pub crash_first : First (target.row v at target.Crashes)
  crash_first = cond_both v.up (Crash ∷ []) (Skip ∷ []) First (λ up. firsts (Crash ∷ []) (omega arith)) (λ down. skips)

  pub close_first : First (target.row v at target.Closes)
  close_first = cond_both v.up (row_closes v at) (Skip ∷ []) First
      (λ up. cond_both (is_serving v) (Skip ∷ []) (row_close at v) First (λ t. skips)
      (λ t. firsts (row_close at v) (few_closes v (outcome_of v at)))) (λ down. skips)

  pub boot_first : First (target.row v at target.Boots)
  boot_first = cond_both v.up (Skip ∷ []) (row_boot v at) First (λ up. skips) (λ down n low.
      let w : Target = after v (Boot (v.disk.boot + 1) v.disk) in
      let xs : List Entry = up_lines w w.lives ++ settles at w in
      let ups = calls_up w w.lives in
      let last = few_settles at w in
      let all = few_lines (up_lines w w.lives) (settles at w) in
      first_behind (v.disk.boot + 1) v.disk xs n (omega (arith, ups, last, all)) low)
