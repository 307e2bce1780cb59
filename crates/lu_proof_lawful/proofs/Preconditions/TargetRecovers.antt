-- A target that crashed: each of its turns makes allowed lines, in which what is to be kept is kept at once, and each life that is back is
-- shown at once; and once each life is back or left, or by the command, its window closes (`comes_lead`, `recovers_lead`).
use Rattle.std.proofs.Common.{◌≡◌, ℕ, ◌+◌, ◌≤◌, Bool, true, false, List, [], ◌∷◌, ◌++◌, Option, Some, None, ◌⊎◌, inl, inr, refl, sym, subst}
use Rattle.std.proofs.Common.{ap, ◌∙◌, arith}
use Rattle.std.specs.Prelude.{nat_eq, nat_lt, filter, not, ◌&&◌, if◌then◌else◌}
use Rattle.std.specs.List.{list_any}
use Rattle.std.proofs.lemmas.Bool.{cond-true, cond-false, and_parts, eqb-true, eq-eqb, ltb-true, ltb-false, not-true, and_left, and_right}
use Rattle.std.proofs.lemmas.Bool.{and_from}
use Rattle.std.proofs.lemmas.Bool.Decides.{nat_tests}
use Rattle.lu_base.specs.declared.ids.At.{At}
use Rattle.lu_base.specs.declared.ids.Node.{Node}
use Rattle.lu_base.specs.declared.ids.Node.TheVariants as node
use Rattle.lu_base.specs.declared.ids.Stamp.{Stamp}
use Rattle.lu_base.specs.declared.ids.Who.{Who}
use Rattle.lu_base.specs.declared.locks.Lock.{Lock}
use Rattle.lu_msg.specs.declared.messages.LockReplay.{LockReplay}
use Rattle.lu_msg.specs.declared.messages.Message.{Message}
use Rattle.lu_msg.specs.declared.messages.Message.TheVariants as message
use Rattle.lu_msg.specs.declared.messages.RequestReplay.{RequestReplay}
use Rattle.lu_spec_entries.specs.Carried.{Said}
use Rattle.lu_spec_entries.specs.Words.{Entry, Send, Take, Tick, Skip, Crash, Boot, Back, Stores, Brings, Says, Wishes, Line, line}
use Rattle.lu_spec_entries.specs.Words.{same_life}
use Rattle.lu_spec_entries.specs.Sent.{Sent}
use Rattle.lu_spec_target.specs.Kept.{replayed}
use Rattle.lu_spec_target.specs.Leaving.{up, evicted, ready, row_join, row_tick, ticked, life_of as life_in}
use Rattle.lu_spec_target.specs.Lives.{is_life}
use Rattle.lu_spec_target.specs.Outcomes as rows
use Rattle.lu_spec_target.specs.Recovery.{cut, empty_word, settles, row_close, row_keeps, row_replay, row_lock, row_says, row_word}
use Rattle.lu_spec_target.specs.Recovery.{row_wish, wishes_by, up_lines, row_boot}
use Rattle.lu_spec_target.specs.Glimpses.{row_report, asked_for}
use Rattle.lu_spec_target.specs.Requests.{row_request, row_cancel, row_where}
use Rattle.lu_spec_target.specs.Rows as target
use Rattle.lu_spec_target.specs.Rows.{by_boot, by_slot, heeds, of_boot, lock_again, row_heeds}
use Rattle.lu_spec_target.specs.States.{Target, after, follow, turn as turned}
use Rattle.lu_spec_target.specs.Windows.{Window, Replayed, replay_before, brought_before, is_replay, is_lock, word_of, is_newest, has_all}
use Rattle.lu_spec_target.specs.Windows.{is_back, all_settled}
use Rattle.lu_proof_lawful.specs.Covered.Heads.{Head}
use Rattle.lu_proof_lawful.specs.Covered.TargetCloses.{closing_of}
use Rattle.lu_proof_lawful.specs.Covered.TargetStates.{server_of, lives_of, closed_of, up_of, replays_of, brought_of, words_of, window_of}
use Rattle.lu_proof_lawful.proofs.Preconditions.Guards.{In, InTurn, IsTake, Was, TookNow, Later, IsMark, IsTurnOf, says_first, wish_by}
use Rattle.lu_proof_lawful.proofs.Preconditions.Guards.{wish_mark, mark_of, due, BackNow, EntryOk}
use Rattle.lu_proof_lawful.proofs.Preconditions.StoryGuards.{SaidBy, Spoke, IsRecovering, EntryOf, KeepsOk, UpOk, NoticeOk}
use Rattle.lu_proof_lawful.proofs.Preconditions.Grown.{IsOfFirst, GrownOf}
use Rattle.lu_proof_lawful.proofs.Preconditions.Lists.{turn, life_is}
use Rattle.lu_proof_lawful.proofs.Preconditions.LifeLists.{found_life, life_stands, stands_life, none_is}
use Rattle.lu_proof_lawful.proofs.Preconditions.TargetCrashed as crashed
use Rattle.lu_proof_lawful.proofs.Preconditions.TargetCrashed.{Crashed, IsQuiet, Joins, crashed_quiet, crashed_mark, crashed_again}
use Rattle.lu_proof_lawful.proofs.Preconditions.TargetCrashed.{crashed_boot}
use Rattle.lu_proof_lawful.proofs.Preconditions.TargetCloses.{close_lead}
use Rattle.lu_proof_lawful.proofs.Preconditions.Turns.{Settled, owes_nothing, IsNoClose, shows_any, closing_quiet}
use Rattle.lu_proof_lawful.proofs.Preconditions.Placed.{filter_placed, word_placed}
use Rattle.lu_proof_lawful.proofs.Preconditions.Comings.{IsAsked, boots_of}

-- ---- who is back with what is kept

back_same : (v w : Window) (who : Who) → word_of who v.words ≡ word_of who w.words
    → filter (λ (r : Replayed). same_life r.who who) v.replays ≡ filter (λ (r : Replayed). same_life r.who who) w.replays
    → filter (λ (l : Lock). same_life l.ask.who who) v.brought ≡ filter (λ (l : Lock). same_life l.ask.who who) w.brought → is_back v who
    ≡ is_back w who
back_same v w who words replays brought = ap (has_all v who) words ∙ by (word_of who w.words)
  where
    by : (o : Option Said) → has_all v who o ≡ has_all w who o
    by None = refl
    by (Some x) = rw (replays, brought) refl

-- whom a mark can bring back
abbrev IsOf : Who → Entry → Type 0
IsOf who (Stores replay) = replay.who ≡ who
IsOf who (Brings lock) = lock.ask.who ≡ who
IsOf who (Says said) = said.who ≡ who
IsOf who (Wishes other) = Unit {0}
IsOf who _ = ⊥

module _ (head : Head) (stamp : Stamp) (t : ℕ) where
  abbrev at : At
  at = turn stamp (node.Target t)

  abbrev window : List Line → Window
  window story = window_of head.osts head.clients story

  -- no other life
  others_stay : (story : List Line) (e : Entry) (who x : Who) → IsOf who e → same_life who x ≡ false
      → is_back (window (line at e ∷ story)) x ≡ is_back (window story) x
  others_stay story (Stores r) who x own out =
      back_same (window (line at (Stores r) ∷ story)) (window story) x refl
      (filter_placed replay_before (λ (s : Replayed). same_life s.who x) (replayed r) (replays_of story)
      (ap (λ (w : Who). same_life w x) own ∙ out)) refl
  others_stay story (Brings l) who x own out =
      back_same (window (line at (Brings l) ∷ story)) (window story) x refl refl
      (filter_placed brought_before (λ (k : Lock). same_life k.ask.who x) l (brought_of story)
      (ap (λ (w : Who). same_life w x) own ∙ out))
  others_stay story (Says word) who x own out =
      back_same (window (line at (Says word) ∷ story)) (window story) x
      (word_placed word (words_of story) x (ap (λ (w : Who). same_life w x) own ∙ out)) refl refl
  others_stay story (Wishes w) who x own out = back_same (window (line at (Wishes w) ∷ story)) (window story) x refl refl refl
  others_stay story e who x own out = absurd own

  comes_back : (story : List Line) (e : Entry) (who x : Who) → IsOf who e → BackNow head.osts head.clients (line at e ∷ story) x → x ≡ who
  comes_back story e who x own k = by (same_life who x) refl
    where
      by : (b : Bool) → same_life who x ≡ b → x ≡ who
      by true q = sym (life_is who x q)
      by false q = absurd (let back = k.1 in let before = back.before in let now = back.now in let same = others_stay story e who x own q
          in cc)

  -- ---- lines that are allowed, in which what is to be kept is, each life that is back is shown, and what a close has to show

  abbrev pub Leads : (past story : List Line) → Target → List Entry → Type 0
  Leads past story v es = crashed.Leads head stamp t past story v es

  abbrev pub Calm : List Line → Type 0
  Calm story = crashed.Calm head stamp t story

  abbrev pub Undue : List Line → Type 0
  Undue story = crashed.Undue head stamp t story

  quiet_settled : (past : List Line) (e : Entry) → IsQuiet e → Settled (line at e ∷ past)
  quiet_settled past (Send to m) quiet = tt
  quiet_settled past (Take n from m) quiet = tt
  quiet_settled past Tick quiet = tt
  quiet_settled past Skip quiet = tt
  quiet_settled past (Back who) quiet = tt
  quiet_settled past e quiet = absurd quiet

  quiet_unmarked : (e : Entry) → IsQuiet e → IsMark e → ⊥
  quiet_unmarked (Stores r) quiet mark = quiet
  quiet_unmarked (Brings l) quiet mark = quiet
  quiet_unmarked (Says word) quiet mark = quiet
  quiet_unmarked (Wishes w) quiet mark = quiet
  quiet_unmarked e quiet mark = mark

  mark_settled : (past : List Line) (e : Entry) → IsMark e → Settled (line at e ∷ past)
  mark_settled past (Stores r) mark = tt
  mark_settled past (Brings l) mark = tt
  mark_settled past (Says word) mark = tt
  mark_settled past (Wishes w) mark = tt
  mark_settled past e mark = absurd mark

  mark_up : (story : List Line) (e : Entry) → IsMark e → up_of (line at e ∷ story) ≡ up_of story
  mark_up story (Stores r) mark = refl
  mark_up story (Brings l) mark = refl
  mark_up story (Says word) mark = refl
  mark_up story (Wishes w) mark = refl
  mark_up story e mark = absurd mark

  -- neither closes a window
  quiet_is : (e : Entry) → IsQuiet e → IsNoClose e × IsOfFirst e
  quiet_is (Send to m) quiet = (tt, tt)
  quiet_is (Take n from m) quiet = (tt, tt)
  quiet_is Tick quiet = (tt, tt)
  quiet_is Skip quiet = (tt, tt)
  quiet_is (Back who) quiet = (tt, tt)
  quiet_is e quiet = absurd quiet

  mark_is : (e : Entry) → IsMark e → IsNoClose e × IsOfFirst e
  mark_is (Stores r) mark = (tt, tt)
  mark_is (Brings l) mark = (tt, tt)
  mark_is (Says word) mark = (tt, tt)
  mark_is (Wishes w) mark = (tt, tt)
  mark_is e mark = absurd mark

  -- so what has to be shown stays none, and each line is allowed
  calm_more : (story : List Line) (e : Entry) → IsNoClose e × IsOfFirst e → EntryOf head story at (node.Target t) e → Calm story
      → (closing_of head.clients (line at e ∷ story) ≡ []) × GrownOf head (line at e ∷ story)
  calm_more story e is of calm = (
    closing_quiet head.clients story at e is.0 calm.1,
    (of, is.1, record { one = tt; shows = shows_any head story at e calm.1 }, calm.2),
  )

  undue_none : (story : List Line) (e : Entry) → Undue story → (mark : Entry) → due head.osts head.clients story ≡ Some mark → (e ≡ mark)
      × IsTurnOf story at
  undue_none story e undue mark d = absurd (cc)

  mark_undue : (story : List Line) (e : Entry) → IsMark e → Undue (line at e ∷ story)
  mark_undue story (Stores r) mark = refl
  mark_undue story (Brings l) mark = refl
  mark_undue story (Says word) mark = refl
  mark_undue story (Wishes w) mark = refl
  mark_undue story e mark = absurd mark

  nothing_lead : (past story : List Line) (v : Target) → Settled past → Calm story → Undue story → Crashed head t v story
      → Leads past story v []
  nothing_lead past story v settled shown undue h = ((settled, inr h), shown.0, undue, shown.1)

  -- a line, and what follows it
  more_lead : (past story : List Line) (v : Target) (e : Entry) (es : List Entry) → Settled past → Calm story → Undue story
      → EntryOk past at (node.Target t) e → EntryOf head story at (node.Target t) e
      → Leads (line at e ∷ past) (line at e ∷ story) (after v e) es → Leads past story v (e ∷ es)
  more_lead past story v e es settled shown undue ok of more = (
    (((owes_nothing past at e settled, ok, of), more.0.0), more.0.1),
    (λ who k. absurd (shown.0 who k), more.1),
    (undue_none story e undue, more.2),
    (shows_any head story at e shown.1, more.3),
  )

  quiet_lead : (past story : List Line) (v : Target) (e : Entry) (es : List Entry) → IsQuiet e → Settled past → Calm story → Undue story
      → EntryOk past at (node.Target t) e → EntryOf head story at (node.Target t) e → Crashed head t v story
      → (Settled (line at e ∷ past) → Calm (line at e ∷ story) → Crashed head t (after v e) (line at e ∷ story)
      → Leads (line at e ∷ past) (line at e ∷ story) (after v e) es) → Leads past story v (e ∷ es)
  quiet_lead past story v e es quiet settled shown undue ok of h next =
      let more = calm_more story e (quiet_is e quiet) of shown in
      more_lead past story v e es settled shown undue ok of (next (quiet_settled past e quiet)
      (λ who k. quiet_unmarked e quiet k.0, more.0, more.1) (crashed_quiet head t story stamp v e quiet h))

  -- one that takes no message
  abbrev TakesNone : Entry → Type 0
  TakesNone (Take n from m) = ⊥
  TakesNone _ = Unit {0}

  takes_undue : (story : List Line) (e : Entry) → TakesNone e → Undue (line at e ∷ story)
  takes_undue story (Take n from m) none = absurd none
  takes_undue story e none = refl

  alone_lead : (past story : List Line) (v : Target) (e : Entry) → IsQuiet e → TakesNone e → Settled past → Calm story → Undue story
      → EntryOk past at (node.Target t) e → EntryOf head story at (node.Target t) e → Crashed head t v story → Leads past story v (e ∷ [])
  alone_lead past story v e quiet none settled shown undue ok of h =
      quiet_lead past story v e [] quiet settled shown undue ok of h
      (λ s n k. nothing_lead (line at e ∷ past) (line at e ∷ story) (after v e) s n (takes_undue story e none) k)

  -- ---- it recovers

  not_serving : (story : List Line) (v : Target) → Crashed head t v story → up_of story ≡ true → nat_eq v.closed v.boot ≡ false
  not_serving story v h u = let lt = h.newer u in let boot = h.boot in let closed = h.closed in grind (arith, nat_tests, lt, boot, closed)

  recovers_is : (story : List Line) (v : Target) → Crashed head t v story → up_of story ≡ true → IsRecovering head.osts story
  recovers_is story v h u = let lt = h.newer u in grind (arith, nat_tests, lt)

  windows_same : (story : List Line) (v : Target) → Crashed head t v story → up_of story ≡ true → rows.window_of v ≡ window story
  windows_same story v h u = let k = h.kept u in rw (h.lives, h.committed, k.replays, k.brought, k.words, k.wishes) refl

  back_is : (story : List Line) (v : Target) → Crashed head t v story → up_of story ≡ true → (who : Who) → is_back (rows.window_of v) who
      ≡ is_back (window story) who
  back_is story v h u who = ap (λ (w : Window). is_back w who) (windows_same story v h u)

  -- its window closes once each life is back or left
  settles_lead : (past story : List Line) (v : Target) → Settled past → Calm story → Undue story → Crashed head t v story → up_of story
      ≡ true → Leads past story v (settles at v)
  settles_lead past story v settled calm undue h u = by (all_settled (rows.window_of v) v.lives) refl
    where
      same : rows.window_of v ≡ window story
      same = windows_same story v h u

      by : (b : Bool) → all_settled (rows.window_of v) v.lives ≡ b → Leads past story v (if b then row_close at v else [])
      by true e = close_lead head stamp t past story v settled calm undue h u
          (λ turn. ap (λ (w : Window). all_settled w (lives_of head.clients story)) (sym same)
          ∙ ap (all_settled (rows.window_of v)) (sym h.lives) ∙ e) same
      by false e = nothing_lead past story v settled calm undue h

  but_not : (a b : Bool) → a ≡ true → b ≡ false → (a && not b) ≡ false → ⊥
  but_not true false e f q = absurd (cc)
  but_not true true e f q = absurd (cc)
  but_not false b e f q = absurd (cc)

  -- ---- what is kept

  keep_lead : (past story : List Line) (v : Target) (who : Who) (e : Entry) → IsMark e → IsOf who e → Joins t story e
      → ((mark : Entry) → due head.osts head.clients story ≡ Some mark → (e ≡ mark) × IsTurnOf story at) → EntryOk past at (node.Target t) e
      → EntryOf head story at (node.Target t) e → Settled past → Calm story → up_of story ≡ true → Crashed head t v story
      → Leads past story v (row_keeps v at who e)
  keep_lead past story v who e mark own asks dues ok of settled calm u h = by (is_back (rows.window_of w) who && not before) refl
    where
      w : Target
      w = after v e

      before : Bool
      before = is_back (rows.window_of v) who

      past1 : List Line
      past1 = line at e ∷ past

      story1 : List Line
      story1 = line at e ∷ story

      story2 : List Line
      story2 = line at (Back who) ∷ story1

      more : (closing_of head.clients story1 ≡ []) × GrownOf head story1
      more = calm_more story e (mark_is e mark) of calm

      next : Crashed head t w story1
      next = crashed_mark head t story stamp v e mark asks h

      up1 : up_of story1 ≡ true
      up1 = mark_up story e mark ∙ u

      now_is : is_back (rows.window_of w) who ≡ is_back (window story1) who
      now_is = back_is story1 w next up1 who

      was_is : before ≡ is_back (window story) who
      was_is = back_is story v h u who

      back : Bool → List Entry
      back b = if b then Back who ∷ [] else []

      by : (b : Bool) → (is_back (rows.window_of w) who && not before) ≡ b
          → Leads past story v (e ∷ (back b ++ settles at (turned w (back b))))
      by true q =
          let rest = settles_lead (line at (Back who) ∷ past1) story2 (after w (Back who)) tt (
            λ x k. k.0,
            closing_quiet head.clients story1 at (Back who) tt more.0,
            (back_ok, tt, record { one = tt; shows = shows_any head story1 at (Back who) more.0 }, more.1),
          ) refl
          (crashed_quiet head t story1 stamp w (Back who) tt next) up1 in (
            (
              (
                (owes_nothing past at e settled, ok, of),
                (
                  (owes_nothing past1 at (Back who) (mark_settled past e mark), tt, back_ok),
                  rest.0.0,
                ),
              ),
              rest.0.1,
            ),
            (λ x k. absurd (calm.0 x k), (λ x k. (ap Back (sym (comes_back story e who x own k)), refl), rest.1)),
            (dues, (undue_none story1 (Back who) (mark_undue story e mark), rest.2)),
            (shows_any head story at e calm.1, (shows_any head story1 at (Back who) more.0, rest.3)),
          )
        where
          back_ok : EntryOf head story1 at (node.Target t) (Back who)
          back_ok = let p = and_parts (is_back (rows.window_of w) who) (not before) q
              in ((mark, record { before = sym was_is ∙ not-true before p.1; now = sym now_is ∙ p.0 }), refl)
      by false q =
          let rest = settles_lead past1 story1 w (mark_settled past e mark)
          (λ x k. still x k (comes_back story e who x own k), more.0, more.1) (mark_undue story e mark) next up1 in (
            (((owes_nothing past at e settled, ok, of), rest.0.0), rest.0.1),
            (λ x k. absurd (calm.0 x k), rest.1),
            (dues, rest.2),
            (shows_any head story at e calm.1, rest.3),
          )
        where
          still : (x : Who) → BackNow head.osts head.clients story1 x → x ≡ who → ⊥
          still x k is =
              let back = subst (λ (y : Who). BackNow head.osts head.clients story1 y) is k in
              let cameback = back.1 in
              let out : before ≡ false = was_is ∙ cameback.before in
              let now : is_back (rows.window_of w) who ≡ true = now_is ∙ cameback.now in
              but_not (is_back (rows.window_of w) who) before now out q

  -- ---- what comes, once it was taken

  module _ (past story : List Line) (v : Target) (c : ℕ) (settled : Settled past) (shown : Calm story) (here : IsTurnOf story at)
      (u : up_of story ≡ true) (h : Crashed head t v story) where
    abbrev Follows : List Entry → Type 0
    Follows es = Leads past story v es

    along : (es fs : List Entry) → es ≡ fs → Follows fs → Follows es
    along es fs e go = subst Follows (sym e) go

    nothing : Undue story → Follows []
    nothing undue = nothing_lead past story v settled shown undue h

    -- the mark of the message, or none, is to be kept
    kept_so : (b : Bool) (e : Entry) → due head.osts head.clients story ≡ (if b then Some e else None) → (mark : Entry)
        → due head.osts head.clients story ≡ Some mark → (e ≡ mark) × IsTurnOf story at
    kept_so true e is mark d = let same : Some e ≡ Some mark = sym is ∙ d in (cc, here)
    kept_so false e is mark d = absurd (cc)

    none_so : (b : Bool) (o : Option Entry) → due head.osts head.clients story ≡ (if b then o else None) → b ≡ false → Undue story
    none_so true o is e = absurd (cc)
    none_so false o is e = is

    none_both : (b : Bool) → due head.osts head.clients story ≡ (if b then None else None) → Undue story
    none_both true is = is
    none_both false is = is

    -- a message of an older boot: which boot it is
    older_lead : (who : Who) (older : Bool) (rest : List Entry) → Spoke story t who
        ⊎ ((from asked : ℕ) × Was story (node.Client from) (node.Target t) (message.Join who asked)) → (older ≡ true → Undue story)
        → (older ≡ false → Follows rest) → Follows (by_boot v who older rest)
    older_lead who true rest said none go =
        let ok : UpOk head story t who.client v.boot = record { of_boot = h.boot; who = who; to = refl; cause = inr said } in
        alone_lead past story v (up v who) tt tt settled shown (none refl) tt ok h
    older_lead who false rest said none go = go refl

    -- a life without a slot is told that it is over
    slot_lead : (who : Who) (m : Message) (rest : List Entry) → Was story (node.Client c) (node.Target t) m → SaidBy who m
        → (is_life who v.lives ≡ false → Undue story) → (is_life who v.lives ≡ true → Follows rest)
        → Follows (by_slot v who (is_life who v.lives) rest)
    slot_lead who m rest was said none go = by (is_life who v.lives) refl
      where
        by : (b : Bool) → is_life who v.lives ≡ b → Follows (by_slot v who b rest)
        by true e = go e
        by false e =
            let out : is_life who (lives_of head.clients story) ≡ false = ap (is_life who) (sym h.lives) ∙ e in
            let ok : NoticeOk head story t who.client who v.boot =
            record { to = refl; of_boot = h.boot; cause = inr (inl (out, (c, m, was, said))) } in
            alone_lead past story v (evicted v who) tt tt settled shown (none e) tt ok h

    older_apart : (boot : ℕ) → nat_lt boot v.boot ≡ true → nat_eq boot v.boot ≡ false
    older_apart boot e = grind (arith, nat_tests, e)

    -- what is kept is of the present boot and of a life with a slot, and it may have to be new
    first_not : (a b d : Bool) → a ≡ false → (a && b && d) ≡ false
    first_not true b d e = absurd (cc)
    first_not false b d e = refl

    next_not : (a b d : Bool) → b ≡ false → (a && b && d) ≡ false
    next_not true true d e = absurd (cc)
    next_not true false d e = refl
    next_not false b d e = refl

    last_not : (a b d : Bool) → d ≡ false → (a && b && d) ≡ false
    last_not true true d e = e
    last_not true false d e = refl
    last_not false b d e = refl

    heeds_lead : (who : Who) (boot : ℕ) (m : Message) (rest : List Entry) → Was story (node.Client c) (node.Target t) m → SaidBy who m
        → (nat_eq boot v.boot ≡ false → Undue story) → (is_life who v.lives ≡ false → Undue story)
        → (is_life who v.lives ≡ true → Follows rest)
        → Follows (heeds v who boot rest)
    heeds_lead who boot m rest was said apart out go = older_lead who (nat_lt boot v.boot) (by_slot v who (is_life who v.lives) rest)
        (inl (c, m, was, said)) (λ e. apart (older_apart boot e)) (λ e. slot_lead who m rest was said out go)

    -- while it recovers
    serves_not : (rest : List Entry) → target.while_serving v rest ≡ []
    serves_not rest = cond-false (nat_eq v.closed v.boot) rest [] (not_serving story v h u)

    recovers_so : (rest : List Entry) → target.while_recovering v rest ≡ rest
    recovers_so rest = cond-false (nat_eq v.closed v.boot) [] rest (not_serving story v h u)

    present_lead : (boot : ℕ) (rest : List Entry) → (nat_eq boot v.boot ≡ false → Undue story) → (boot ≡ v.boot → Follows rest)
        → Follows (of_boot v boot rest)
    present_lead boot rest apart go = by (nat_eq boot v.boot) refl
      where
        by : (b : Bool) → nat_eq boot v.boot ≡ b → Follows (if b then rest else [])
        by true e = go (eqb-true boot v.boot e)
        by false e = nothing (apart e)

    keeps_of : (m : Message) (who : Who) (boot : ℕ) → TookNow story at (node.Client c) m → Was story (node.Client c) (node.Target t) m
        → boot ≡ v.boot → is_life who v.lives ≡ true → KeepsOk head story at t (node.Client c) m who boot
    keeps_of m who boot took was present has = record {
      recovers = recovers_is story v h u;
      up = u;
      took = took;
      was = was;
      of_boot =
          present ∙ h.boot;
      has = ap (is_life who) (sym h.lives) ∙ has;
    }

    -- ---- a replay

    abbrev Due : Message → Type 0
    Due m = due head.osts head.clients story ≡ mark_of (rows.window_of v) v.boot m

    replay_lead : (r : RequestReplay) → TookNow story at (node.Client c) (message.Replay r)
        → Was story (node.Client c) (node.Target t) (message.Replay r) → Due (message.Replay r) → r.boot ≡ v.boot → is_life r.who v.lives
        ≡ true → Follows (row_replay v at r)
    replay_lead r took was dues present has = by (list_any (is_replay (replayed r)) v.replays) refl
      where
        counts : Bool
        counts = nat_eq r.boot v.boot && is_life r.who v.lives && not (list_any (is_replay (replayed r)) v.replays)

        by : (b : Bool) → list_any (is_replay (replayed r)) v.replays ≡ b
            → Follows (if b then [] else row_keeps v at r.who (Stores (cut r)))
        by true e = nothing (none_so counts (Some (Stores (cut r))) dues
            (last_not (nat_eq r.boot v.boot) (is_life r.who v.lives) (not (list_any (is_replay (replayed r)) v.replays)) (ap not e)))
        by false e =
            keep_lead past story v r.who (Stores (cut r)) tt refl tt (kept_so counts (Stores (cut r)) dues) tt
            (record {
              from = node.Client c;
              given = r;
              keeps = keeps_of (message.Replay r) r.who r.boot took was present has;
              is = refl;
              new = ap (list_any (is_replay (replayed r))) (sym (h.kept u).replays) ∙ e;
            })
            settled shown u h

    -- ---- a lock

    lock_lead : (r : LockReplay) → TookNow story at (node.Client c) (message.Lock r)
        → Was story (node.Client c) (node.Target t) (message.Lock r) → Due (message.Lock r) → r.boot ≡ v.boot → is_life r.who v.lives ≡ true
        → Follows (row_lock v at (lock_again r))
    lock_lead r took was dues present has = by (list_any (is_lock (lock_again r)) v.brought) refl
      where
        counts : Bool
        counts = nat_eq r.boot v.boot && is_life r.who v.lives && not (list_any (is_lock (lock_again r)) v.brought)

        by : (b : Bool) → list_any (is_lock (lock_again r)) v.brought ≡ b
            → Follows (if b then [] else row_keeps v at r.who (Brings (lock_again r)))
        by true e = nothing (none_so counts (Some (Brings (lock_again r))) dues
            (last_not (nat_eq r.boot v.boot) (is_life r.who v.lives) (not (list_any (is_lock (lock_again r)) v.brought)) (ap not e)))
        by false e =
            keep_lead past story v r.who (Brings (lock_again r)) tt refl tt (kept_so counts (Brings (lock_again r)) dues) tt
            (record {
              from = node.Client c;
              given = r;
              keeps = keeps_of (message.Lock r) r.who r.boot took was present has;
              is = refl;
              new =
                  ap (list_any (is_lock (lock_again r))) (sym (h.kept u).brought) ∙ e;
            })
            settled shown u h

    -- ---- a word, or a join that counts as one

    abbrev Tells : Said → ℕ → Type 0
    Tells said boot =
        KeepsOk head story at t (node.Client c) (message.Word said.who boot said.replays said.locks said.seen) said.who boot
        ⊎ ((said ≡ empty_word said.who) × KeepsOk head story at t (node.Client c) (message.Join said.who boot) said.who boot)

    word_lead : (said : Said) (boot : ℕ) → Tells said boot → due head.osts head.clients story
        ≡ (if nat_eq boot v.boot && is_life said.who v.lives then says_first (word_of said.who v.words) said else None)
        → Follows (row_word v at said)
    word_lead said boot tells dues = by (word_of said.who v.words) refl
      where
        counts : Bool
        counts = nat_eq boot v.boot && is_life said.who v.lives

        by : (o : Option Said) → word_of said.who v.words ≡ o → Follows (row_says v at said o)
        by None e =
            keep_lead past story v said.who (Says said) tt refl tt
            (kept_so counts (Says said) (dues ∙ ap (λ (o : Option Said). if counts then says_first o said else None) e)) tt
            (record { from = node.Client c; boot = boot; keeps = tells; new = ap (word_of said.who) (sym (h.kept u).words) ∙ e })
            settled shown u h
        by (Some before) e = nothing (none_both counts (dues ∙ ap (λ (o : Option Said). if counts then says_first o said else None) e))

    -- ---- a join

    -- another life of its client has a slot
    join_out : (who old : Who) → In old v.lives → old.client ≡ who.client → nat_eq who.life old.life ≡ false → is_life who v.lives ≡ false
    join_out who old i same apart = by (is_life who v.lives) refl
      where
        by : (b : Bool) → is_life who v.lives ≡ b → b ≡ false
        by false e = refl
        by true e =
            let one : who ≡ old = h.story.single who old (ap (is_life who) (sym h.lives) ∙ e)
            (ap (is_life old) (sym h.lives) ∙ life_stands old v.lives i) (sym same) in
            let life : who.life ≡ old.life = ap (λ (w : Who). w.life) one in
            let equal : nat_eq who.life old.life ≡ true = eq-eqb who.life old.life life in
            absurd (cc)

    -- none does
    join_none : (who : Who) → life_in who.client v.lives ≡ None → is_life who v.lives ≡ false
    join_none who none = by (is_life who v.lives) refl
      where
        by : (b : Bool) → is_life who v.lives ≡ b → b ≡ false
        by false e = refl
        by true e = absurd (none_is who.client v.lives none who (stands_life who v.lives e) refl)

    wish_lead : (who : Who) (boot : ℕ) → TookNow story at (node.Client c) (message.Join who boot)
        → Was story (node.Client c) (node.Target t) (message.Join who boot) → Due (message.Join who boot) → boot ≡ v.boot
        → Follows (row_wish v at who)
    wish_lead who boot took was dues present = by (life_in who.client v.lives) refl
      where
        counts : Bool
        counts = nat_eq boot v.boot && is_life who v.lives

        -- where another life of its client has the slot
        wished : is_life who v.lives ≡ false → due head.osts head.clients story
            ≡ wish_by (rows.window_of v) who (life_in who.client v.lives)
        wished out =
            dues
            ∙ cond-false counts (says_first (word_of who v.words) (empty_word who)) (wish_mark (rows.window_of v) v.boot who boot)
            (and_right (nat_eq boot v.boot) (is_life who v.lives) out)
            ∙ cond-true (nat_eq boot v.boot) (wish_by (rows.window_of v) who (life_in who.client v.lives)) None (eq-eqb boot v.boot present)

        spoken : is_life who v.lives ≡ true → due head.osts head.clients story
            ≡ (if counts then says_first (word_of who v.words) (empty_word who) else None)
        spoken has = dues ∙ there counts (and_from (nat_eq boot v.boot) (is_life who v.lives) (eq-eqb boot v.boot present) has)
          where
            there : (b : Bool) → b ≡ true → (if b then says_first (word_of who v.words) (empty_word who)
                else wish_mark (rows.window_of v) v.boot who boot) ≡ (if b then says_first (word_of who v.words) (empty_word who) else None)
            there true e = refl
            there false e = absurd (cc)

        by : (o : Option Who) → life_in who.client v.lives ≡ o → Follows (wishes_by v at who o)
        by None e = nothing (wished (join_none who e) ∙ ap (wish_by (rows.window_of v) who) e)
        by (Some old) is = older (nat_eq who.life old.life) (nat_lt old.life who.life && is_newest who v.wishes) refl refl
          where
            found : In old v.lives × (old.client ≡ who.client)
            found = found_life who.client v.lives old is

            older : (same newer : Bool) → nat_eq who.life old.life ≡ same → (nat_lt old.life who.life && is_newest who v.wishes) ≡ newer
                → Follows (if same then row_word v at (empty_word who) else (if newer then row_keeps v at old (Wishes who) else []))
            older true newer e f =
                let client = found.1 in
                let own : same_life old who ≡ true = grind (arith, nat_tests, client, e) in
                let has : is_life who v.lives ≡ true = subst (λ (w : Who). is_life w v.lives ≡ true) (life_is old who own)
                (life_stands old v.lives found.0) in
                word_lead (empty_word who) boot (inr (refl, keeps_of (message.Join who boot) who boot took was present has)) (spoken has)
            older false true e f =
                let p = and_parts (nat_lt old.life who.life) (is_newest who v.wishes) f in
                keep_lead past story v old (Wishes who) tt tt (c, boot, was)
                (kept_so (nat_lt old.life who.life && is_newest who v.wishes) (Wishes who)
                (wished (join_out who old found.0 found.1 e) ∙ ap (wish_by (rows.window_of v) who) is)) tt
                (record {
                  from = node.Client c;
                  boot = boot;
                  old = old;
                  keeps = keeps_of (message.Join who boot) old boot took was present (life_stands old v.lives found.0);
                  client = found.1;
                  newer = ltb-true old.life who.life p.0;
                  newest = ap (is_newest who) (sym (h.kept u).wishes) ∙ p.1;
                })
                settled shown u h
            older false false e f = nothing (none_so (nat_lt old.life who.life && is_newest who v.wishes) (Some (Wishes who))
                (wished (join_out who old found.0 found.1 e) ∙ ap (wish_by (rows.window_of v) who) is) f)

    -- ---- all that comes

    heard_lead : (m : Message) → IsAsked t m → TookNow story at (node.Client c) m → Due m → Was story (node.Client c) (node.Target t) m
        → ((who : Who) (boot : ℕ) → Was story (node.Client c) (node.Target t) (message.Join who boot)
        → boot ≤ (server_of head.osts story).boot) → Follows (row_heeds v at m)
    heard_lead (message.Request r) asked took dues was under =
        let rest = target.while_serving v (row_request v at r) in
        heeds_lead r.who r.boot (message.Request r) rest was refl (λ e. dues) (λ e. dues)
        (λ has. along rest [] (serves_not (row_request v at r)) (nothing dues))
    heard_lead (message.Cancel who boot cookie) asked took dues was under =
        let rest = target.while_serving v (row_cancel v at who cookie) in
        heeds_lead who boot (message.Cancel who boot cookie) rest was refl (λ e. dues) (λ e. dues)
        (λ has. along rest [] (serves_not (row_cancel v at who cookie)) (nothing dues))
    heard_lead (message.Where who boot cookie) asked took dues was under =
        let rest = target.while_serving v (row_where v who cookie) in
        heeds_lead who boot (message.Where who boot cookie) rest was refl (λ e. dues) (λ e. dues)
        (λ has. along rest [] (serves_not (row_where v who cookie)) (nothing dues))
    heard_lead (message.Size m) asked took dues was under =
        let rest = target.while_serving v (row_report v at m (asked_for m v.glimpses)) in
        heeds_lead m.who m.boot (message.Size m) rest was refl (λ e. dues) (λ e. dues)
        (λ has. along rest [] (serves_not (row_report v at m (asked_for m v.glimpses))) (nothing dues))
    heard_lead (message.Replay r) asked took dues was under =
        let rest = of_boot v r.boot (row_replay v at r) in
        let new = not (list_any (is_replay (replayed r)) v.replays) in
        let counts = nat_eq r.boot v.boot && is_life r.who v.lives && new in
        let apart : nat_eq r.boot v.boot ≡ false → Undue story =
        λ e. none_so counts (Some (Stores (cut r))) dues (first_not (nat_eq r.boot v.boot) (is_life r.who v.lives) new e) in
        heeds_lead r.who r.boot (message.Replay r) (target.while_recovering v rest) was refl apart
        (λ e. none_so counts (Some (Stores (cut r))) dues (next_not (nat_eq r.boot v.boot) (is_life r.who v.lives) new e))
        (λ has. along (target.while_recovering v rest) rest (recovers_so rest)
        (present_lead r.boot (row_replay v at r) apart (λ present. replay_lead r took was dues present has)))
    heard_lead (message.Lock r) asked took dues was under =
        let rest = of_boot v r.boot (row_lock v at (lock_again r)) in
        let new = not (list_any (is_lock (lock_again r)) v.brought) in
        let counts = nat_eq r.boot v.boot && is_life r.who v.lives && new in
        let apart : nat_eq r.boot v.boot ≡ false → Undue story =
        λ e. none_so counts (Some (Brings (lock_again r))) dues (first_not (nat_eq r.boot v.boot) (is_life r.who v.lives) new e) in
        heeds_lead r.who r.boot (message.Lock r) (target.while_recovering v rest) was refl apart
        (λ e. none_so counts (Some (Brings (lock_again r))) dues (next_not (nat_eq r.boot v.boot) (is_life r.who v.lives) new e))
        (λ has. along (target.while_recovering v rest) rest (recovers_so rest)
        (present_lead r.boot (row_lock v at (lock_again r)) apart (λ present. lock_lead r took was dues present has)))
    heard_lead (message.Word who boot replays locks seen) asked took dues was under =
        let said : Said = record { who = who; replays = replays; locks = locks; seen = seen } in
        let rest = of_boot v boot (row_word v at said) in
        let all = if nat_eq v.closed v.boot then ready v who ∷ [] else rest in
        let counts = nat_eq boot v.boot && is_life who v.lives in
        let apart : nat_eq boot v.boot ≡ false → Undue story = λ e. none_so counts (says_first (word_of who v.words) said) dues
        (and_left (nat_eq boot v.boot) (is_life who v.lives) e) in
        heeds_lead who boot (message.Word who boot replays locks seen) all was refl apart
        (λ e. none_so counts (says_first (word_of who v.words) said) dues (and_right (nat_eq boot v.boot) (is_life who v.lives) e))
        (λ has. along all rest (cond-false (nat_eq v.closed v.boot) (ready v who ∷ []) rest (not_serving story v h u))
        (present_lead boot (row_word v at said) apart (λ present. word_lead said boot
        (inl (keeps_of (message.Word who boot replays locks seen) who boot took was present has)) dues)))
    heard_lead (message.Join who boot) asked took dues was under =
        let all = if nat_eq v.closed v.boot then row_join v at who else row_wish v at who in
        let counts = nat_eq boot v.boot && is_life who v.lives in
        older_lead who (nat_lt boot v.boot) all (inr (c, boot, was)) (λ e. let apart = older_apart boot e in dues
        ∙ cond-false counts (says_first (word_of who v.words) (empty_word who)) (wish_mark (rows.window_of v) v.boot who boot)
        (and_left (nat_eq boot v.boot) (is_life who v.lives) apart)
        ∙ cond-false (nat_eq boot v.boot) (wish_by (rows.window_of v) who (life_in who.client v.lives)) None apart)
        (λ e. along all (row_wish v at who) (cond-false (nat_eq v.closed v.boot) (row_join v at who) (row_wish v at who)
        (not_serving story v h u))
        (wish_lead who boot took was dues (let le = under who boot was in let same = h.boot in let not_less = ltb-false boot v.boot e
        in omega (arith, le, same, not_less))))
    heard_lead m asked took dues was under = absurd asked

  -- ---- turns

  -- a message comes, where it is up
  pub comes_lead : (past story : List Line) (v : Target) (n c : ℕ) (m : Message) → Settled past → Calm story → Undue story → Later past at
      → Crashed head t v story → v.up ≡ true → Sent past n (node.Client c) (node.Target t) m → IsAsked t m
      → Was story (node.Client c) (node.Target t) m → Leads past story v (target.row v at (target.Comes n (node.Client c) m))
  comes_lead past story v n c m settled shown undue later h is_up sent asked was =
      let e : Entry = Take n (node.Client c) m in
      let present : up_of story ≡ true = sym h.up ∙ is_up in
      let window_is : rows.window_of v ≡ window story = windows_same story v h present in
      let dues : due head.osts head.clients (line at e ∷ story) ≡ mark_of (rows.window_of v) v.boot m =
      cond-false (nat_eq (closed_of story) (server_of head.osts story).boot) None
      (mark_of (window story) (server_of head.osts story).boot m) (recovers_is story v h present)
      ∙ ap (λ (x : Window). mark_of x (server_of head.osts story).boot m) (sym window_is)
      ∙ ap (λ (b : ℕ). mark_of (rows.window_of v) b m) (sym h.boot) in
      quiet_lead past story v e (row_heeds v at m) tt settled shown undue (record { sent = sent; later = later }) tt h
      (λ s k next. heard_lead (line at e ∷ past) (line at e ∷ story) v c s k refl present next m asked (refl, refl, refl) dues was
      (λ who boot w. (boots_of head story shown.2).asked t c boot who w))

  skip_lead : (past story : List Line) (v : Target) → Settled past → Calm story → Undue story → Later past at → Crashed head t v story
      → Leads past story v (Skip ∷ [])
  skip_lead past story v settled shown undue later h = alone_lead past story v Skip tt tt settled shown undue later tt h

  -- it goes down
  pub crash_lead : (past story : List Line) (v : Target) → Settled past → Calm story → Undue story → Later past at → up_of story ≡ true
      → Crashed head t (after v Crash) (line at Crash ∷ story) → Leads past story v (Crash ∷ [])
  crash_lead past story v settled shown undue later is_up next =
      let more = calm_more story Crash (tt, tt) is_up shown in
      more_lead past story v Crash [] settled shown undue later is_up
      (nothing_lead (line at Crash ∷ past) (line at Crash ∷ story) (after v Crash) tt (λ who k. k.0, more.0, more.1) refl next)

  -- it is booted, tells each life with a slot, and closes its window where there is none
  ups_lead : (x : Target) (lives : List Who) (past story : List Line) (v : Target) (rest : List Entry)
      → ((p q : List Line) → Settled p → Calm q → Undue q → Crashed head t v q → up_of q ≡ true → Leads p q v rest) → Settled past
      → Calm story → Undue story → x.boot ≡ (server_of head.osts story).boot
      → ((who : Who) → In who lives → is_life who (lives_of head.clients story) ≡ true) → up_of story ≡ true → Crashed head t v story
      → Leads past story v (up_lines x lives ++ rest)
  ups_lead x [] past story v rest go settled shown undue boot has u h = go past story settled shown undue h u
  ups_lead x (who ∷ lives) past story v rest go settled shown undue boot has u h =
      let ok : UpOk head story t who.client x.boot = record { of_boot = boot; who = who; to = refl; cause = inl (has who (inl refl)) } in
      quiet_lead past story v (up x who) (up_lines x lives ++ rest) tt settled shown undue tt ok h
      (λ s n k. ups_lead x lives (line at (up x who) ∷ past) (line at (up x who) ∷ story) v rest go s n refl boot (λ w i. has w (inr i)) u
      k)

  boot_lead : (past story : List Line) (v : Target) → Settled past → Calm story → Undue story → Later past at → Crashed head t v story
      → up_of story ≡ false → Leads past story v (row_boot v at)
  boot_lead past story v settled shown undue later h down =
      let e : Entry = Boot (v.disk.boot + 1) v.disk in
      let w = after v e in
      let of : EntryOf head story at (node.Target t) e = record
      { down = down; next = ap (λ (n : ℕ). n + 1) (h.disk.boot ∙ h.boot); of_disk = h.stored } in
      let more = calm_more story e (tt, tt) of shown in
      let booted = crashed_boot head t story stamp v h in
      let has : (who : Who) → In who w.lives → is_life who (lives_of head.clients (line at e ∷ story)) ≡ true =
      λ who i. subst (λ (ws : List Who). is_life who ws ≡ true) booted.lives (life_stands who w.lives i) in
      more_lead past story v e (up_lines w w.lives ++ settles at w) settled shown undue later of
      (ups_lead w w.lives (line at e ∷ past) (line at e ∷ story) w (settles at w) (λ p q s n k c u. settles_lead p q w s n k c u) tt
      (λ who k. k.0, more.0, more.1) refl refl has refl booted)

  -- time goes on, or a command comes
  pub recovers_lead : (past story : List Line) (v : Target) (event : target.Event)
      → ((n : ℕ) (from : Node) (m : Message) → event ≡ target.Comes n from m → ⊥) → Settled past → Calm story → Undue story → Later past at
      → (InTurn IsTake story at → ⊥) → Crashed head t v story
      → Leads past story v (target.row v at event)
  recovers_lead past story v event other settled shown undue later fresh h = by event other (v.up) refl
    where
      at_up : (b : Bool) (rest : List Entry) → (b ≡ true → Leads past story v rest) → Leads past story v (if b then rest else Skip ∷ [])
      at_up true rest go = go refl
      at_up false rest go = skip_lead past story v settled shown undue later h

      not_now : v.up ≡ true → nat_eq v.closed v.boot ≡ false
      not_now e = not_serving story v h (sym h.up ∙ e)

      -- what is done where it recovers
      while : (a rest : List Entry) → v.up ≡ true → Leads past story v rest
          → Leads past story v (if nat_eq v.closed v.boot then a else rest)
      while a rest e go = subst (λ (es : List Entry). Leads past story v es) (sym (cond-false (nat_eq v.closed v.boot) a rest (not_now e)))
          go

      booted : (b : Bool) → v.up ≡ b → Leads past story v (if b then Skip ∷ [] else row_boot v at)
      booted true e = skip_lead past story v settled shown undue later h
      booted false e = boot_lead past story v settled shown undue later h (sym h.up ∙ e)

      by : (x : target.Event) → ((n : ℕ) (from : Node) (m : Message) → x ≡ target.Comes n from m → ⊥) → (b : Bool) → v.up ≡ b
          → Leads past story v (target.row v at x)
      by (target.Comes n from m) other b e = absurd (other n from m refl)
      by target.Ticks other b e = at_up v.up (row_tick v at) (λ q. while (follow v (Tick ∷ []) (ticked at)) (Tick ∷ []) q
          (alone_lead past story v Tick tt tt settled shown undue later tt h))
      by (target.Commits count) other b e = at_up v.up (target.row_commit v count)
          (λ q. while (target.row_commits v (target.first_deeds count v.log)) (Skip ∷ []) q
          (skip_lead past story v settled shown undue later h))
      by target.Crashes other b e = at_up v.up (Crash ∷ []) (λ q. crash_lead past story v settled shown undue later (sym h.up ∙ q)
          (crashed_again head t story stamp v h))
      by target.Boots other b e = booted v.up refl
      by target.Closes other b e =
          at_up v.up (target.row_closes v at) (λ q. while (Skip ∷ []) (row_close at v) q
          (close_lead head stamp t past story v settled shown undue h (sym h.up ∙ q) (λ turn. absurd (fresh turn))
          (windows_same story v h (sym h.up ∙ q))))
