-- Transactions, replays and batches that are performed again one after another.
use Rattle.std.proofs.Common.{◌≡◌, ℕ, ◌<◌, ◌≤◌, max, true, cond, List, [], ◌∷◌, ◌++◌, map, filter, refl, sym, ap, subst, ◌∙◌, arith}
use Rattle.std.specs.Prelude.{nat_lt}
use Rattle.std.proofs.lemmas.Bool.Decides.{nat_tests}
use Rattle.lu_msg.specs.declared.commits.Batch.{Batch}
use Rattle.lu_msg.specs.declared.commits.Transaction.{Transaction}
use Rattle.lu_service.specs.declared.services.Kind.{Kind}
use Rattle.lu_service.specs.Contents.{Contents}
use Rattle.lu_spec_entries.specs.Carried.{Deed as RowsDeed, Contents as Read, Disk}
use Rattle.lu_spec_target.specs.Stored.{all_done, done, forgotten, last_number, news, stored}
use Rattle.lu_spec_target.specs.Windows.{Replayed}
use Rattle.lu_spec_target.specs.States.{no_contents, empty_disk}
use Rattle.lu_spec_target.specs.Outcomes.{deed_again}
use Rattle.lu_target_refines.specs.Contents.{transaction_again}
use Rattle.lu_target_refines.specs.Journals.{AreRising, AllRising}
use Rattle.lu_target_refines.proofs.RisingNumbers.{last_max}
use Rattle.lu_target_redo.specs.declared.deeds.Close.{Close}
use Rattle.lu_target_redo.specs.declared.deeds.Deed.{Deed}
use Rattle.lu_target_redo.specs.Shown.{deed_of, Shows, ShowsDone, AreDeeds, ShowsForgotten, ShowsLoaded, ShowsDiskOf}

-- ---- transactions

pub done_none : (kind : Kind) (s : Contents) → ShowsDone kind [] s s
done_none kind s osts c n shows rising = shows

pub done_more : (kind : Kind) (t : Transaction) (ts : List Transaction) (s between new : Contents) → ShowsDone kind (t ∷ []) s between
    → ShowsDone kind ts between new → ShowsDone kind (t ∷ ts) s new
done_more kind t ts s between new one more osts c n shows rising =
    more osts (done osts c t) t.txn.0 (one osts c n shows (rising.0, tt)) rising.1

-- ---- kept replays

pub deeds_none : (kind : Kind) (close : Close) (s : Contents) → AreDeeds kind close [] s []
deeds_none kind close s v c n shows boot committed rising = refl

pub deeds_more : (kind : Kind) (close : Close) (r : Replayed) (replays : List Replayed) (s between : Contents) (d : RowsDeed)
    (deeds : List RowsDeed)
    → AreDeeds kind close (r ∷ []) s (d ∷ []) → ShowsDone kind (transaction_again r ∷ []) s between
    → AreDeeds kind close replays between deeds
    → AreDeeds kind close (r ∷ replays) s (d ∷ deeds)
deeds_more kind close r replays s between d deeds one done_one more v c n shows boot committed rising =
    ap (λ (first : List RowsDeed). first ++ deeds) (one v c n shows boot committed (rising.0, tt))
    ∙ ap (λ (rest : List RowsDeed). deed_again v close.at c r ∷ rest)
    (more v (done v.setting.osts c (transaction_again r)) r.number (done_one v.setting.osts c n shows (rising.0, tt)) boot committed
    rising.1)

pub one_more : (before : List Deed) (d : Deed) (after : List RowsDeed) → map deed_of (before ++ d ∷ []) ++ after ≡ map deed_of before
    ++ deed_of d ∷ after
one_more [] d after = refl
one_more (x ∷ before) d after = ap (λ (rest : List RowsDeed). deed_of x ∷ rest) (one_more before d after)

pub no_more : (deeds : List RowsDeed) → deeds ++ [] ≡ deeds
no_more [] = refl
no_more (d ∷ deeds) = ap (λ (rest : List RowsDeed). d ∷ rest) (no_more deeds)

-- ---- batches: all of their transactions are news

all_news : (committed n : ℕ) (ts : List Transaction) → committed ≤ n → AreRising n ts
    → filter (λ (t : Transaction). nat_lt committed t.txn.0) ts ≡ ts
all_news committed n [] le rising = refl
all_news committed n (t ∷ ts) le rising =
    let less : n < t.txn.0 = rising.0 in
    let is : nat_lt committed t.txn.0 ≡ true = grind (arith, nat_tests) in
    let rest : List Transaction = filter (λ (x : Transaction). nat_lt committed x.txn.0) ts in
    ap (λ b. cond b (t ∷ rest) rest) is ∙ ap (λ (more : List Transaction). t ∷ more)
    (all_news committed t.txn.0 ts (omega (arith, le, less)) rising.1)

pub loaded_none : (kind : Kind) (s : Contents) → ShowsLoaded kind [] s s
loaded_none kind s osts disk n shows rising = shows

pub loaded_more : (kind : Kind) (batch : Batch) (batches : List Batch) (s between left new : Contents)
    → ShowsDone kind batch.transactions s between → ShowsForgotten kind batch.removed between left
    → ShowsLoaded kind batches left new → ShowsLoaded kind (batch ∷ batches) s new
loaded_more kind batch batches s between left new performs forgets more osts disk n shows rising =
    let ts : List Transaction = batch.transactions in
    let top : ℕ = max n disk.committed in
    let next : Disk = stored osts batch disk in
    let are_news : news disk batch ≡ ts = all_news disk.committed top ts (omega arith) rising.0 in
    let contents : next.contents ≡ forgotten batch.removed (all_done osts ts disk.contents) =
    ap (λ (them : List Transaction). forgotten batch.removed (all_done osts them disk.contents)) are_news in
    let last : last_number ts top ≡ max n next.committed =
    last_max n disk.committed ts rising.0 ∙ ap (λ (them : List Transaction). max n (last_number them disk.committed)) (sym are_news) in
    more osts next n
    (subst (λ (m : ℕ). Shows kind osts m left next.contents) last
    (subst (λ (c : Read). Shows kind osts (last_number ts top) left c) (sym contents)
    (forgets osts (all_done osts ts disk.contents) (last_number ts top) (performs osts disk.contents top shows rising.0))))
    (subst (λ (m : ℕ). AllRising m batches) last rising.1)

pub disk_shown : (kind : Kind) (batches : List Batch) (s new : Contents) → ShowsLoaded kind batches s new → ShowsDiskOf kind batches s new
disk_shown kind batches s new loads v n disk shows rising =
    let none : n ≡ max n 0 = omega arith in
    subst (λ (d : Disk). Shows kind v.setting.osts (max n d.committed) new d.contents) (sym disk.disk)
    (loads v.setting.osts empty_disk n (subst (λ (m : ℕ). Shows kind v.setting.osts m s no_contents) none shows)
    (subst (λ (m : ℕ). AllRising m batches) none rising))
