-- The bucket has the places that it had, and the new one where there was memory for it.
use Rattle.std.proofs.Common.{◌≡◌, ℕ, true, List, [], ◌∷◌, ◌++◌, OnOk, OnErr, Result, ap, sym, subst, ◌∙◌, rules}
use Rattle.std.specs.Prelude.{unwrap_or}
use Rattle.std.specs.HashMap.{get}
use Rattle.std.specs.HashMap.Entry.{map_with_value}
use Rattle.std.specs.declared.result.Result.TheVariants.{Ok, Err}
use Rattle.std.proofs.lemmas.Result.{on_ok_weaker, on_err_weaker}
use Rattle.lu_txn.specs.Buckets.{same_bucket}
use Rattle.lu_part.specs.Places.{has}
use Rattle.lu_part.proofs.Places.{has_left, has_last}
use Rattle.lu_txn.proofs.IndexLaws.{Filed, there, entry_grows, entry_files}
use Rattle.lu_txn.proofs.index.Index.file.Goals as goal

module _ {T E P : Type 0} where
  by_result : (r : Result T E) → OnOk r P → OnErr r P → P
  by_result (Ok x) good bad = good
  by_result (Err e) good bad = bad

carry : (P : Filed → Type 0) (all other : Filed) → all ≡ other → P other → P all
carry P all other e h = subst P (sym e) h

pub returns-clause-filed : goal.returns-clause-filed
returns-clause-filed c =
    let k = c.args.bucket in
    let filed = c.args.self.now.buckets.entries in
    let before = c.or_insert.result.now in
    let new = c.push.new.self in
    let place = c.args.place in
    on_ok_weaker c.push.result
    (λ (put : new ≡ before ++ place ∷ []). λ b same.
    carry (λ all. has (there b all) place ≡ true) _ (map_with_value c.in_ok-self.field-0 new).entries (search rules)
    (rw ((c.in_ok-self.ensures.update.0 new).0 b) (entry_files k b new place filed
    (subst (λ all. has all place ≡ true) (sym put) (has_last before place)) same)))
    c.push.ensures.added

pub returns-clause-grows : goal.returns-clause-grows
returns-clause-grows c = λ b n h.
    let k = c.args.bucket in
    let filed = c.args.self.now.buckets.entries in
    let before = c.or_insert.result.now in
    let new = c.push.new.self in
    let place = c.args.place in
    let was : before ≡ there k filed = c.or_insert.ensures.value ∙ ap (λ found. unwrap_or found c.new.result) c.in_ok-self.ensures.value
    ∙ ap (λ none. unwrap_or (get same_bucket c.args.self.now.buckets k) none) c.new.ensures.empty in
    let keep : (m : ℕ) → has (there k filed) m ≡ true → has new m ≡ true = λ m had.
    by_result c.push.result
    (on_ok_weaker c.push.result (λ (put : new ≡ before ++ place ∷ []). subst (λ all. has all m ≡ true) (sym put)
    (has_left before (place ∷ []) m (subst (λ all. has all m ≡ true) (sym was) had))) c.push.ensures.added)
    (on_err_weaker c.push.result (λ (kept : new ≡ before). subst (λ all. has all m ≡ true) (sym kept)
    (subst (λ all. has all m ≡ true) (sym was) had)) c.push.ensures.kept) in
    carry (λ all. has (there b all) n ≡ true) _ (map_with_value c.in_ok-self.field-0 new).entries (search rules)
    (rw ((c.in_ok-self.ensures.update.0 new).0 b) (entry_grows k b new n filed keep h))
