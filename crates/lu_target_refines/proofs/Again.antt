-- Kept replays that are done again, one after another, as a loop goes.
use Rattle.std.proofs.Common.{◌≡◌, ℕ, Bool, true, false, cond, ◌==◌, List, [], ◌∷◌, ◌++◌, map, filter, refl, ap, ◌∙◌, arith, nat_lt}
use Rattle.std.specs.Prelude.{⊤, if◌then◌else◌}
use Rattle.std.proofs.lemmas.Bool.Decides.{nat_tests}
use Rattle.lu_base.specs.declared.ids.At.{At}
use Rattle.lu_base.specs.declared.ids.Who.{Who}
use Rattle.lu_spec_machine.specs.Footprint.{Every}
use Rattle.lu_msg.specs.declared.commits.Transaction.{Transaction}
use Rattle.lu_spec_entries.specs.Carried.{Contents, Deed}
use Rattle.lu_spec_target.specs.Lives.{lives_of}
use Rattle.lu_spec_target.specs.Stored.{transaction_of, done, all_done, forgotten}
use Rattle.lu_spec_target.specs.States.{Target}
use Rattle.lu_spec_target.specs.Outcomes.{deed_again, deeds_again, window_of, outcome_of}
use Rattle.lu_spec_target.specs.Windows.{Replayed, Window, has_number, is_kept, kept_from, kept_numbers, settled}
use Rattle.lu_target_refines.specs.Contents.{transaction_again}
use Rattle.lu_target_refines.proofs.Lists.{both_left, every_all, every_append, every_found, every_passed}

-- a replay is one transaction, whatever it is done over
pub is_transaction_again : (v : Target) (at : At) (c : Contents) (r : Replayed) → transaction_of (deed_again v at c r) ≡ transaction_again r
is_transaction_again v at c r = refl

pub deeds_again_more : (v : Target) (at : At) (c : Contents) (replays : List Replayed) (r : Replayed)
    → deeds_again v at c (replays ++ r ∷ []) ≡ deeds_again v at c replays
    ++ deed_again v at (all_done v.setting.osts (map transaction_again replays) c) r ∷ []
deeds_again_more v at c [] r = refl
deeds_again_more v at c (q ∷ replays) r =
    ap (λ (deeds : List Deed). deed_again v at c q ∷ deeds) (deeds_again_more v at (done v.setting.osts c (transaction_again q)) replays r)

pub transactions_again : (v : Target) (at : At) (c : Contents) (replays : List Replayed) → map transaction_of (deeds_again v at c replays)
    ≡ map transaction_again replays
transactions_again v at c [] = refl
transactions_again v at c (r ∷ replays) =
    ap (λ (ts : List Transaction). transaction_again r ∷ ts) (transactions_again v at (done v.setting.osts c (transaction_again r)) replays)

pub all_done_more : (osts : ℕ) (ts : List Transaction) (t : Transaction) (c : Contents) → all_done osts (ts ++ t ∷ []) c
    ≡ done osts (all_done osts ts c) t
all_done_more osts [] t c = refl
all_done_more osts (x ∷ ts) t c = all_done_more osts ts t (done osts c x)

-- ---- what stands on the disk after a close: the kept replays are done, all of them above what was committed

kept_above : (v : Window) (replays : List Replayed) (kept : List ℕ) → Every (λ n. nat_lt v.committed n ≡ true) kept
    → Every (λ n. nat_lt v.committed n ≡ true) (kept_from v kept replays)
kept_above v [] kept above = above
kept_above v (r ∷ replays) kept above =
    by (is_kept v kept r) refl (λ stands. kept_above v replays (kept ++ r.number ∷ [])
    (every_append (λ n. nat_lt v.committed n ≡ true) kept (r.number ∷ []) above (stands, tt))) (kept_above v replays kept above)
  where
    by : (stays : Bool) → is_kept v kept r ≡ stays
        → (nat_lt v.committed r.number ≡ true → Every (λ n. nat_lt v.committed n ≡ true) (kept_from v (kept ++ r.number ∷ []) replays))
        → Every (λ n. nat_lt v.committed n ≡ true) (kept_from v kept replays)
        → Every (λ n. nat_lt v.committed n ≡ true) (if stays then kept_from v (kept ++ r.number ∷ []) replays else kept_from v kept replays)
    by true h with_it without = with_it (both_left (nat_lt v.committed r.number) _ h)
    by false h with_it without = without

number_above : (committed n : ℕ) (kept : List ℕ) → Every (λ m. nat_lt committed m ≡ true) kept → has_number n kept ≡ true
    → nat_lt committed n ≡ true
number_above committed n kept above some = every_found (λ m. nat_lt committed m ≡ true) (λ m. m == n) kept above some
    (nat_lt committed n ≡ true) (λ m less same. by m less same) where
      by : (m : ℕ) → nat_lt committed m ≡ true → (m == n) ≡ true → nat_lt committed n ≡ true
      by m less same = grind (arith, nat_tests)

pub all_kept_above : (v : Window) → Every (λ r. nat_lt v.committed r.number ≡ true) (settled v).kept
all_kept_above v =
    every_passed (λ (r : Replayed). ⊤) (λ (r : Replayed). nat_lt v.committed r.number ≡ true)
    (λ (r : Replayed). has_number r.number (kept_numbers v))
    (λ r any has. number_above v.committed r.number (kept_numbers v) (kept_above v v.replays [] tt) has) v.replays
    (every_all (λ (r : Replayed). ⊤) (λ r. tt) v.replays)

news_again : (committed : ℕ) (replays : List Replayed) → Every (λ r. nat_lt committed r.number ≡ true) replays
    → filter (λ (t : Transaction). nat_lt committed t.txn.0) (map transaction_again replays) ≡ map transaction_again replays
news_again committed [] above = refl
news_again committed (r ∷ replays) above =
    let ts : List Transaction = filter (λ (t : Transaction). nat_lt committed t.txn.0) (map transaction_again replays) in
    ap (λ b. cond b (transaction_again r ∷ ts) ts) above.0 ∙ ap (λ (more : List Transaction). transaction_again r ∷ more)
    (news_again committed replays above.1)

pub outcome_contents : (v : Target) (at : At) → v.disk.committed ≡ v.committed
    → (outcome_of v at).disk.contents ≡ forgotten (lives_of (settled (window_of v)).gone)
    (all_done v.setting.osts (map transaction_again (settled (window_of v)).kept) v.disk.contents)
outcome_contents v at committed =
    let replays : List Replayed = (settled (window_of v)).kept in
    let gone : List Who = lives_of (settled (window_of v)).gone in
    let news : filter (λ (t : Transaction). nat_lt v.disk.committed t.txn.0) (map transaction_of (deeds_again v at v.disk.contents replays))
    ≡ map transaction_again replays =
    ap (filter (λ (t : Transaction). nat_lt v.disk.committed t.txn.0)) (transactions_again v at v.disk.contents replays)
    ∙ ap (λ n. filter (λ (t : Transaction). nat_lt n t.txn.0) (map transaction_again replays)) committed
    ∙ news_again v.committed replays (all_kept_above (window_of v))
    in
    ap (λ (ts : List Transaction). forgotten gone (all_done v.setting.osts ts v.disk.contents)) news
