-- Turns of a target that recovers, call by call: the line of a life that is back, and rows that are told otherwise.
use Rattle.std.proofs.Common.{◌≡◌, ℕ, Bool, true, false, List, [], ◌++◌, Option, Some, refl, sym, ap, subst, ◌∙◌}
use Rattle.lu_base.specs.declared.ids.At.{At}
use Rattle.lu_base.specs.declared.ids.Who.{Who}
use Rattle.lu_msg.specs.declared.commits.Batch.{Batch}
use Rattle.lu_msg.specs.declared.messages.RequestReplay.{RequestReplay}
use Rattle.lu_msg.specs.declared.operations.Op.{Op}
use Rattle.lu_trace.specs.declared.entries.Entry.TheVariants as line
use Rattle.lu_trace.specs.Turns.{Making, with_line}
use Rattle.lu_spec_entries.specs.Words.{Entry, Back}
use Rattle.lu_spec_target.specs.Kept.{replayed}
use Rattle.lu_spec_target.specs.Lives.{is_life}
use Rattle.lu_spec_target.specs.Recovery.{row_wish, row_word, settles}
use Rattle.lu_spec_target.specs.States.{Target, turn}
use Rattle.lu_spec_target.specs.Windows.{Replayed, Window}
use Rattle.lu_target_refines.specs.Windows.{backs}
use Rattle.lu_window.specs.States.{State, has_older}
use Rattle.lu_spec_entries.specs.Given.{giving}
use Rattle.lu_target_server.specs.Servers.{ServerState}
use Rattle.lu_target_server.specs.Recovering.{Gathers, Recovers}
use Rattle.lu_target_server.specs.Passing.{Passes, HasBatches, StopsAt}
use Rattle.lu_target_server.proofs.Composing.{giving_none, noted}
use Rattle.lu_target_server.proofs.Passings.{Begins, backs_dry, dry_none, passes_then, stops_then, batches_then}
use Rattle.lu_target_server.proofs.Takings.{wish_passed, wish_own}

-- ---- the line of a life that is back

pub back_told : (who : Who) (before between : Making) (back : Bool) → back ≡ true → between.step
    ≡ with_line before.at before.step (line.Back who) → between.at ≡ before.at
    → between ≡ giving before (backs back who)
back_told who before between back is step at =
    noted before between (line.Back who) (Back who) refl refl step at ∙ ap (λ (b : Bool). giving before (backs b who)) (sym is)

pub none_told : (who : Who) (before between : Making) (back : Bool) → back ≡ false → between ≡ before → between
    ≡ giving before (backs back who)
none_told who before between back is same = same ∙ sym (giving_none before) ∙ ap (λ (b : Bool). giving before (backs b who)) (sym is)

module _ (s : ServerState) (w : State) (back : Bool) (who : Who) (before between after : Making)
    (told : between ≡ giving before (backs back who)) where
  -- it changes nothing
  begins : Begins (Gathers s w) (Gathers s w) (λ v. backs back who) (settles before.at) (λ v. backs back who ++ settles before.at v) before
      between
  begins = by back told where
    by : (b : Bool) → between ≡ giving before (backs b who)
        → Begins (Gathers s w) (Gathers s w) (λ v. backs b who) (settles before.at) (λ v. backs b who ++ settles before.at v) before between
    by true is = record { told = λ v it. is; stands = λ v it. it; rows = λ v it. refl; dry = λ v it. backs_dry true who }
    by false is = record { told = λ v it. is; stands = λ v it. it; rows = λ v it. refl; dry = λ v it. backs_dry false who }

  -- it is one turn still
  same_at : between.at ≡ before.at
  same_at = ap (λ (making : Making). making.at) told

  pub back_passes : (new : ServerState) (left : Option State) → Passes (Gathers s w) (settles between.at) new left between after
      → Passes (Gathers s w) (λ v. backs back who ++ settles before.at v) new left before after
  back_passes new left passes =
      passes_then (Gathers s w) (Gathers s w) (λ v. backs back who) (settles before.at) (λ v. backs back who ++ settles before.at v) before
      between after begins new left
      (subst (λ (at : At). Passes (Gathers s w) (settles at) new left between after) same_at passes)

  pub back_stops : StopsAt 0 (Gathers s w) (settles between.at) between after
      → StopsAt 0 (Gathers s w) (λ v. backs back who ++ settles before.at v) before after
  back_stops stops =
      stops_then (Gathers s w) (Gathers s w) (λ v. backs back who) (settles before.at) (λ v. backs back who ++ settles before.at v) before
      between after begins
      (subst (λ (at : At). StopsAt 0 (Gathers s w) (settles at) between after) same_at stops)

  pub back_batches : (old new : List Batch) → HasBatches (Gathers s w) (settles between.at) old new
      → HasBatches (Gathers s w) (λ v. backs back who ++ settles before.at v) old new
  back_batches old new has =
      batches_then (Gathers s w) (Gathers s w) (λ v. backs back who) (settles before.at) (λ v. backs back who ++ settles before.at v) before
      between after begins old new
      (subst (λ (at : At). HasBatches (Gathers s w) (settles at) old new) same_at has)

-- ---- a replay that was copied

abbrev pub copied : RequestReplay → List ℕ → Op → Replayed
copied r seen op = record { who = r.who; number = r.txn.0; xid = r.xid.0; tag = r.tag; seen = seen; op = op }

pub copied_is : (r : RequestReplay) (seen : List ℕ) (op : Op) → seen ≡ r.seen → op ≡ r.op → copied r seen op ≡ replayed r
copied_is r seen op e f = ap (λ (xs : List ℕ). copied r xs op) e ∙ ap (λ (o : Op). copied r r.seen o) f

-- ---- rows that are told otherwise

pub row_begins : (shown : Target → Type 0) (next row : Target → List Entry) (making : Making) → ((v : Target) → shown v → row v ≡ next v)
    → Begins shown shown (λ v. []) next row making making
row_begins shown next row making same = record {
  told = λ v it. sym (giving_none making);
  stands = λ v it. it;
  rows = same;
  dry =
      λ v it. dry_none;
}

-- as the code tests it
pub life_shown : (s : ServerState) (w : State) (v : Target) (who : Who) → Gathers s w v → is_life who w.window.lives ≡ is_life who v.lives
life_shown s w v who it = ap (λ (window : Window). is_life who window.lives) it.window

-- the wish of a life with a slot is its word
pub own_begins : (s : ServerState) (w : State) (who : Who) (seen : List ℕ) (making : Making) → seen ≡ [] → is_life who w.window.lives ≡ true
    → Begins (Recovers s w) (Recovers s w) (λ v. []) (λ v. row_word v making.at (record { who = who; replays = 0; locks = 0; seen = seen }))
    (λ v. row_wish v making.at who) making making
own_begins s w who seen making empty own =
    row_begins (Recovers s w) (λ v. row_word v making.at (record { who = who; replays = 0; locks = 0; seen = seen }))
    (λ v. row_wish v making.at who) making
    (λ v it.
    wish_own making.at v who it.gathers.sound.clients (sym (life_shown s w v who it.gathers) ∙ own)
    ∙ ap (λ (them : List ℕ). row_word v making.at (record { who = who; replays = 0; locks = 0; seen = them })) (sym empty))

-- a row of which nothing comes
passes_still : (s : ServerState) (w x : State) (row : Target → List Entry) (making : Making) → x ≡ w
    → ((v : Target) → Recovers s w v → row v ≡ [])
    → Passes (Recovers s w) row s (Some x) making making
passes_still s w x row making same none = record {
  gives = λ v it. sym (ap (giving making) (none v it) ∙ giving_none making);
  recovers = λ y is v it. subst (λ (z : State). Recovers s z (turn v (row v))) (own y is)
      (subst (Recovers s w) (ap (turn v) (sym (none v it))) it);
  serves = λ out. absurd (cc);
} where
  own : (y : State) → Some x ≡ Some y → w ≡ y
  own y is = let one : x ≡ y = cc in sym same ∙ one

-- a wish that is passed over
pub wish_still : (s : ServerState) (w x : State) (who : Who) (making : Making) → x ≡ w → has_older who w.window.lives ≡ false
    → ((v : Target) → Gathers s w v → is_life who v.lives ≡ false)
    → Passes (Recovers s w) (λ v. row_wish v making.at who) s (Some x) making making
wish_still s w x who making same older other =
    passes_still s w x (λ v. row_wish v making.at who) making same
    (λ v it.
    wish_passed making.at v who it.gathers.sound.clients (subst (λ (window : Window). has_older who window.lives ≡ false) it.gathers.window
    older) (other v it.gathers))
