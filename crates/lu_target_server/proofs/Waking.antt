-- A target that wakes in its boot: the line of it, what each life is told, and the close of a window without lives.
use Rattle.std.proofs.Common.{◌≡◌, ℕ, ◌+◌, List, [], ◌∷◌, ◌++◌, Option, refl, sym, ap, subst, ◌∙◌}
use Rattle.std.specs.Prelude.{Ok, Err, IfOk}
use Rattle.std.specs.declared.result.Result.{Result}
use Rattle.lu_base.specs.declared.ids.At.{At}
use Rattle.lu_base.specs.declared.ids.Who.{Who}
use Rattle.lu_msg.specs.declared.commits.Batch.{Batch}
use Rattle.lu_trace.specs.Turns.{Making, with_line}
use Rattle.lu_trace.specs.declared.entries.Entry.TheVariants as printed
use Rattle.lu_spec_entries.specs.Words.{Entry, Boot}
use Rattle.lu_spec_target.specs.Disks.{failing}
use Rattle.lu_spec_target.specs.Leaving.{up}
use Rattle.lu_spec_target.specs.Recovery.{row_boot, settles, up_lines}
use Rattle.lu_spec_target.specs.States.{Target, after, turn}
use Rattle.lu_window.specs.States.{State, opened}
use Rattle.lu_target_store.specs.Stores as stores
use Rattle.lu_target_store.specs.Stores.{StoreState}
use Rattle.lu_target_server.specs.Booting.{IsFresh, IsBooting}
use Rattle.lu_target_server.specs.Closing.{lines, up_line}
use Rattle.lu_target_server.specs.declared.faults.TurnFault.{TurnFault}
use Rattle.lu_spec_entries.specs.Given.{giving}
use Rattle.lu_target_server.specs.Servers.{ServerState, Shows}
use Rattle.lu_target_server.specs.Recovering.{Gathers, Recovers}
use Rattle.lu_target_server.specs.Passing.{Passes, HasBatches, StopsAt}
use Rattle.lu_target_server.proofs.Composing.{giving_more, turn_more}
use Rattle.lu_target_server.proofs.Lines.{up_are}
use Rattle.lu_target_server.proofs.Notes.{noted}

-- the state in its boot
abbrev pub woken : Target → Target
woken v = after v (Boot (v.disk.boot + 1) v.disk)

-- ---- what is told leaves the state as it is, and asks the disk for nothing

ups_still : (w u : Target) (lives : List Who) → turn u (up_lines w lives) ≡ u
ups_still w u [] = refl
ups_still w u (who ∷ lives) = ups_still w u lives

ups_fail : (w : Target) (lives : List Who) (es : List Entry) → failing (up_lines w lives ++ es) 0 ≡ up_lines w lives ++ failing es 0
ups_fail w [] es = refl
ups_fail w (who ∷ lives) es = ap (λ (more : List Entry). up w who ∷ more) (ups_fail w lives es)

-- ---- up to its window

-- The line of the boot was noted, the lives were told, and the window is that of these lives and that number.
pub record HasWoken (s : ServerState) (lives : List Who) (committed : ℕ) (x : State) (before noted told : Making) : Type 0 where
  pub line : noted.step ≡ with_line before.at before.step (printed.Boot s.boot)
  pub same : noted.at ≡ before.at
  pub tells : told ≡ giving noted (lines (up_line s.boot) lives)
  pub lives_are : (w : Target) → stores.Recovers s.store w → lives ≡ w.lives
  pub committed_is : (w : Target) → stores.Recovers s.store w → committed ≡ w.committed
  pub opens : x ≡ opened lives committed

pub has_woken : (s : ServerState) (boot : ℕ) (store : StoreState) (lives slice : List Who) (committed : ℕ) (x : State)
    (before between told : Making) → boot ≡ s.boot → store ≡ s.store
    → between.step ≡ with_line before.at before.step (printed.Boot boot) → between.at ≡ before.at → told
    ≡ giving between (lines (up_line boot) lives)
    → ((w : Target) → stores.Recovers store w → lives ≡ w.lives) → ((w : Target) → stores.Recovers store w → committed ≡ w.committed)
    → x ≡ opened slice committed → slice ≡ lives → HasWoken s lives committed x before between told
has_woken s boot store lives slice committed x before between told is_boot is_store line same tells lives_are committed_is opens is_slice =
    record {
      line = line ∙ ap (λ (n : ℕ). with_line before.at before.step (printed.Boot n)) is_boot;
      same = same;
      tells = tells ∙ ap (λ (n : ℕ). giving between (lines (up_line n) lives)) is_boot;
      lives_are = λ w recovers. lives_are w (subst (λ (st : StoreState). stores.Recovers st w) (sym is_store) recovers);
      committed_is = λ w recovers. committed_is w (subst (λ (st : StoreState). stores.Recovers st w) (sym is_store) recovers);
      opens = opens ∙ ap (λ (them : List Who). opened them committed) is_slice;
    }

module _ (s : ServerState) (lives : List Who) (committed : ℕ) (x : State) (before between told : Making)
    (woke : HasWoken s lives committed x before between told) where
  stored : (w : Target) → IsFresh s w → stores.Recovers s.store w
  stored w fresh = (fresh (opened w.lives w.committed) refl).store

  pub gathers : (w : Target) → IsFresh s w → Gathers s x w
  gathers w fresh =
      fresh x
      (woke.opens ∙ ap (λ (them : List Who). opened them committed) (woke.lives_are w (stored w fresh))
      ∙ ap (opened w.lives) (woke.committed_is w (stored w fresh)))

  tells : (v : Target) → IsBooting s v → told ≡ giving before (Boot (v.disk.boot + 1) v.disk ∷ up_lines (woken v) (woken v).lives)
  tells v booting =
      let w : Target = woken v in
      let boot : w.boot ≡ s.boot = (gathers w booting).boot in
      let note : between ≡ giving before (Boot (v.disk.boot + 1) v.disk ∷ []) =
      noted (Boot (v.disk.boot + 1) v.disk) (printed.Boot s.boot) before between
      (ap (λ (n : ℕ). record { sends = []; entries = record { at = before.at; entry = printed.Boot n } ∷ [] }) boot) woke.same woke.line
      in
      woke.tells
      ∙ ap (λ (n : ℕ). giving between (lines (up_line n) lives)) (sym boot)
      ∙ ap (λ (them : List Who). giving between (lines (up_line w.boot) them)) (woke.lives_are w (stored w booting))
      ∙ ap (giving between) (up_are w w.lives)
      ∙ ap (λ (making : Making). giving making (up_lines w w.lives)) note
      ∙ giving_more before (Boot (v.disk.boot + 1) v.disk ∷ []) (up_lines w w.lives)

  same_at : told.at ≡ before.at
  same_at = ap (λ (making : Making). making.at) woke.tells ∙ woke.same

  given : (v : Target) (after_it : Making) (es : List Entry) → IsBooting s v → after_it ≡ giving told es → after_it
      ≡ giving before (Boot (v.disk.boot + 1) v.disk ∷ (up_lines (woken v) (woken v).lives ++ es))
  given v after_it es booting is =
      is ∙ ap (λ (making : Making). giving making es) (tells v booting)
      ∙ giving_more before (Boot (v.disk.boot + 1) v.disk ∷ up_lines (woken v) (woken v).lives) es

  -- the state after the row
  ends : (v : Target) → turn v (row_boot v before.at) ≡ turn (woken v) (settles before.at (woken v))
  ends v =
      let w : Target = woken v in
      turn_more w (up_lines w w.lives) (settles before.at w) ∙ ap (λ (u : Target). turn u (settles before.at w)) (ups_still w w w.lives)

  pub wakes : (new : ServerState) (window : Option State) (last : Making) → Passes (Gathers s x) (settles told.at) new window told last
      → Passes (IsBooting s) (λ v. row_boot v before.at) new window before last
  wakes new window last told_so =
      let passes : Passes (Gathers s x) (settles before.at) new window told last =
      subst (λ (at : At). Passes (Gathers s x) (settles at) new window told last) same_at told_so in
      record {
        gives = λ v booting. given v last (settles before.at (woken v)) booting (passes.gives (woken v) (gathers (woken v) booting));
        recovers = λ y is v booting. subst (Recovers new y) (sym (ends v)) (passes.recovers y is (woken v) (gathers (woken v) booting));
        serves = λ out v booting. subst (Shows new) (sym (ends v)) (passes.serves out (woken v) (gathers (woken v) booting));
      }

  pub wakes_stop : (last : Making) → StopsAt 0 (Gathers s x) (settles told.at) told last
      → StopsAt 2 (IsBooting s) (λ v. row_boot v before.at) before last
  wakes_stop last told_so =
      let stops : StopsAt 0 (Gathers s x) (settles before.at) told last =
      subst (λ (at : At). StopsAt 0 (Gathers s x) (settles at) told last) same_at told_so in
      λ v booting.
      given v last (failing (settles before.at (woken v)) 0) booting (stops (woken v) (gathers (woken v) booting))
      ∙ ap (λ (es : List Entry). giving before (Boot (v.disk.boot + 1) v.disk ∷ es))
      (sym (ups_fail (woken v) (woken v).lives (settles before.at (woken v))))

  pub wakes_batches : (old new : List Batch) → HasBatches (Gathers s x) (settles told.at) old new
      → HasBatches (IsFresh s) (settles before.at) old new
  wakes_batches old new told_so =
      let has : HasBatches (Gathers s x) (settles before.at) old new =
      subst (λ (at : At). HasBatches (Gathers s x) (settles at) old new) same_at told_so in
      λ w fresh. has w (gathers w fresh)

  -- ---- as the answers of its calls have it

  pub wakes_ok : (r : Result (Option State) TurnFault) (new : ServerState) (last : Making)
      → IfOk r (λ left. Passes (Gathers s x) (settles told.at) new left told last)
      → IfOk r (λ left. Passes (IsBooting s) (λ v. row_boot v before.at) new left before last)
  wakes_ok (Ok left) new last passes = wakes new left last passes
  wakes_ok (Err e) new last passes = tt
