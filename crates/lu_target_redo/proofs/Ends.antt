-- What is kept is performed again, the opens of those who leave go: that is the outcome of the close.
use Rattle.std.proofs.Common.{◌≡◌, ℕ, List, map, sym, ap, subst, ◌∙◌}
use Rattle.lu_base.specs.declared.ids.Who.{Who}
use Rattle.lu_msg.specs.declared.commits.Transaction.{Transaction}
use Rattle.lu_service.specs.declared.services.Kind.{Kind}
use Rattle.lu_service.specs.Contents.{Contents}
use Rattle.lu_spec_entries.specs.Carried.{Deed, Contents as Read}
use Rattle.lu_spec_target.specs.Stored.{all_done, forgotten, last_number}
use Rattle.lu_spec_target.specs.Windows.{Replayed, settled}
use Rattle.lu_spec_target.specs.States.{Target}
use Rattle.lu_spec_target.specs.Outcomes.{deeds_again, window_of, outcome_of}
use Rattle.lu_target_refines.specs.Contents.{transaction_again}
use Rattle.lu_target_refines.proofs.Again.{outcome_contents}
use Rattle.lu_target_redo.specs.declared.deeds.Close.{Close}
use Rattle.lu_target_redo.specs.Shown.{Shows, ShowsDone, AreDeeds, ShowsForgotten}
use Rattle.lu_target_redo.specs.Closes.{Closes}

pub deeds_closed : (kind : Kind) (close : Close) (replays : List Replayed) (gone : List Who) (own : Contents) (deeds : List Deed)
    → AreDeeds kind close replays own deeds
    → (v : Target) (n : ℕ) → Closes kind close replays gone own n v → deeds ≡ (outcome_of v close.at).kept
deeds_closed kind close replays gone own deeds are v n closes =
    are v v.disk.contents n closes.shows closes.boot closes.committed closes.rising
    ∙ ap (λ (kept : List Replayed). deeds_again v close.at v.disk.contents kept) closes.kept

pub shows_closed : (kind : Kind) (close : Close) (replays : List Replayed) (gone : List Who) (own between new : Contents)
    → ShowsDone kind (map transaction_again replays) own between → ShowsForgotten kind gone between new
    → (v : Target) (n : ℕ) → Closes kind close replays gone own n v
    → Shows kind v.setting.osts (last_number (map transaction_again replays) n) new (outcome_of v close.at).disk.contents
shows_closed kind close replays gone own between new performs forgets v n closes =
    let osts : ℕ = v.setting.osts in
    let ts : List Transaction = map transaction_again replays in
    let is : forgotten gone (all_done osts ts v.disk.contents) ≡ (outcome_of v close.at).disk.contents =
    ap (λ (kept : List Replayed). forgotten gone (all_done osts (map transaction_again kept) v.disk.contents)) closes.kept
    ∙ ap (λ (lives : List Who). forgotten lives (all_done osts (map transaction_again (settled (window_of v)).kept) v.disk.contents))
    closes.leaves
    ∙ sym (outcome_contents v close.at closes.disk) in
    subst (λ (c : Read). Shows kind osts (last_number ts n) new c) is
    (forgets osts (all_done osts ts v.disk.contents) (last_number ts n) (performs osts v.disk.contents n closes.shows closes.rising))
