-- The first transactions are on the disk.
use Rattle.std.proofs.Common.{◌≡◌, ◌≢◌, suc, ◌-◌, ◌≤◌, ◌++◌, [], ◌∷◌, List, length, take, drop, refl, sym, ap, subst, ◌∙◌, arith}
use Rattle.std.proofs.lemmas.Bool.Decides.{nat_tests}
use Rattle.lu_base.specs.declared.ids.Txn.{Txn}
use Rattle.lu_txn.specs.declared.logs.Logged.{Logged}
use Rattle.lu_msg.specs.declared.commits.Batch.{Batch}
use Rattle.lu_spec_target.specs.Stored.{batch_of as rows_batch}
use Rattle.lu_spec_target.specs.States.{Target}
use Rattle.lu_spec_target.specs.Leaving.{last_of}
use Rattle.lu_spec_target.specs.Rows.{first_deeds}
use Rattle.lu_target_refines.proofs.Batches.{rest_held}
use Rattle.lu_target_store.specs.Taken.{taken_of}
use Rattle.lu_target_store.specs.Commits.{counted, last_in}
use Rattle.lu_target_store.specs.Stores.{StoreState, Serves}
use Rattle.lu_target_store.proofs.Keeping.{on_any_err}
use Rattle.lu_target_store.proofs.Moves.{first_is, last_first, cut_at, length_logged, some_first, counted_fits, stored_is, stored_shows}
use Rattle.lu_target_store.proofs.store.Store.commit.Goals as goal

pub returns-clause-commit : goal.returns-clause-commit
returns-clause-commit g c =
    let j = c.self.inside.journal in
    let taken = c.self.inside.taken in
    let count = c.args.count in
    let k = c.counted-first.result in
    let to = c.last_of_first-to.result in
    let own : StoreState = record {
      journal = j;
      taken = taken;
      batches = g.D.Disk.batches c.self.inside.disk;
      faults =
          g.D.Disk.faults c.self.inside.disk;
    } in
    let back : (v : Target) → Serves c.args.self.now v → Serves own v =
    (λ v s. subst (λ (it : StoreState). Serves it v) (sym c.self.view_is) s) in
    let k_is : (v : Target) → Serves own v → k ≡ counted count (length v.log) =
    (λ v s. c.counted-first.ensures.first ∙ ap (counted count) (c.uncommitted_count.ensures.count
    ∙ ap (λ (ts : List Logged). length ts) s.journal.log ∙ length_logged v.log)) in
    let deeds_are : (v : Target) → Serves own v → take k v.log ≡ first_deeds count v.log =
    (λ v s. ap (λ n. take n v.log) (k_is v s) ∙ first_is count v.log) in
    let number_is : (v : Target) → Serves own v → to.0 ≡ last_of (first_deeds count v.log) v.committed =
    (λ v s. c.last_of_first-to.ensures.last ∙ ap (λ (ts : List Logged). last_in j.committed (take k ts)) s.journal.log
    ∙ last_first j.committed v.log k
    ∙ ap (λ n. last_of (take k v.log) n) (sym s.journal.booted.committed) ∙ ap (λ deeds. last_of deeds v.committed) (deeds_are v s)) in
    let some_k : suc (k - 1) ≡ k = grind (arith, nat_tests, c.if-first-eq0.false) in
    let at_least : (v : Target) → Serves own v → take (suc (k - 1)) v.log ≡ take k v.log = (λ v s. ap (λ n. take n v.log) some_k) in
    let fits : (v : Target) → Serves own v → suc (k - 1) ≤ length v.log =
    (λ v s. subst (λ n. n ≤ length v.log) (sym some_k) (subst (λ n. n ≤ length v.log) (sym (k_is v s)) (counted_fits count (length v.log))))
    in
    record {
      nothing = λ v s e. absurd (cc);
      some = λ v number s e.
          let own_s = back v s in
          let same : number ≡ to = cc in (
            (λ none. some_first (k - 1) v.log (fits v own_s) (at_least v own_s ∙ deeds_are v own_s ∙ none)),
            ap (λ (it : Txn). it.0) same
                ∙ number_is v own_s,
          );
      shows = λ v number s e. let own_s = back v s in
          stored_shows taken taken j c.write.new.journal _ _ _ _ v (first_deeds count v.log) (drop k v.log) [] [] to.0 own_s
          c.uncommitted_count.ensures.sound
          (cut_at k v.log ∙ ap (λ deeds. deeds ++ drop k v.log) (deeds_are v own_s))
          (rest_held (taken_of taken) j v (first_deeds count v.log) (drop k v.log) own_s.journal
          (cut_at k v.log ∙ ap (λ deeds. deeds ++ drop k v.log) (deeds_are v own_s)))
          tt tt tt tt (λ who tag. refl) (number_is v own_s) (c.in_ok-write.ensures.committed) (c.in_ok-write.ensures.stored)
          (c.in_ok-write.ensures.sound);
      batches = λ v number s e. let own_s = back v s in
          c.in_ok-write.ensures.stored
          ∙ ap (λ (batch : Batch). own.batches ++ batch ∷ [])
          (stored_is taken j v (first_deeds count v.log) (drop k v.log) [] [] to.0 own_s.journal c.uncommitted_count.ensures.sound
          (cut_at k v.log ∙ ap (λ deeds. deeds ++ drop k v.log) (deeds_are v own_s)) tt tt tt tt (number_is v own_s))
          ∙ ap (λ (it : StoreState). it.batches ++ rows_batch (first_deeds count v.log) [] [] ∷ []) c.self.view_is;
    }

-- there was something to commit
pub returns-in_err-write-clause-some : goal.returns-in_err-write-clause-some
returns-in_err-write-clause-some g c =
    let count = c.args.count in
    let k = c.counted-first.result in
    let own : StoreState = record {
      journal = c.self.inside.journal;
      taken = c.self.inside.taken;
      batches =
          g.D.Disk.batches c.self.inside.disk;
      faults = g.D.Disk.faults c.self.inside.disk;
    } in
    let k_is : (v : Target) → Serves own v → k ≡ counted count (length v.log) =
    (λ v s. c.counted-first.ensures.first ∙ ap (counted count) (c.uncommitted_count.ensures.count
    ∙ ap (λ (ts : List Logged). length ts) s.journal.log ∙ length_logged v.log)) in
    let some_k : suc (k - 1) ≡ k = grind (arith, nat_tests, c.if-first-eq0.false) in
    let some : (v : Target) → Serves c.args.self.now v → first_deeds count v.log ≢ [] =
    (λ v s. let own_s : Serves own v = subst (λ (it : StoreState). Serves it v) (sym c.self.view_is) s in
    let fits : suc (k - 1) ≤ length v.log = subst (λ n. n ≤ length v.log) (sym some_k)
    (subst (λ n. n ≤ length v.log) (sym (k_is v own_s)) (counted_fits count (length v.log))) in
    λ none. some_first (k - 1) v.log fits (ap (λ n. take n v.log) some_k ∙ ap (λ n. take n v.log) (k_is v own_s) ∙ first_is count v.log
    ∙ none)) in
    on_any_err c.from_residual.result ((v : Target) → Serves c.args.self.now v → first_deeds count v.log ≢ []) some
