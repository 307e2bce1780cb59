-- How transactions are kept with their index: one more, one less, and more filed than needed.
use Rattle.std.proofs.Common.{◌≡◌, ℕ, suc, ◌+◌, ◌<◌, ◌≤◌, true, List, [], ◌∷◌, ◌++◌, length, get_or, arith}
use Rattle.std.specs.Prelude.{All, AllPairs}
use Rattle.std.proofs.lemmas.List.{length_push}
use Rattle.std.proofs.lemmas.List.Elements.{All-push}
use Rattle.std.proofs.lemmas.List.Quantifiers.{all_pairs_push}
use Rattle.lu_txn.specs.declared.index.Index.{Index}
use Rattle.lu_txn.specs.declared.index.Bucket.{Bucket}
use Rattle.lu_txn.specs.declared.logs.Logged.{Logged}
use Rattle.lu_txn.specs.Logs.{number}
use Rattle.lu_part.specs.Places.{has}
use Rattle.lu_txn.specs.Indexes.{places_of, files, Grows, Keeps, IsIndexed, IsFiled}
use Rattle.lu_txn.proofs.IndexLaws.{indexed_appended, indexed_grown, indexed_dropped}

abbrev Rising : Logged → Logged → Type 0
Rising earlier later = number earlier < number later

pub filed_new : (newest : ℕ) (index : Index) → IsFiled 0 newest index []
filed_new newest index = record {
  counted = omega arith;
  rising = λ i j d less within. absurd (omega arith);
  given = λ k d within. absurd (omega arith);
  indexed = λ k b d within h. absurd (omega arith);
}

pub filed_grown : (first newest : ℕ) (old new : Index) (transactions : List Logged) → IsFiled first newest old transactions → Grows old new
    → IsFiled first newest new transactions
filed_grown first newest old new transactions filed grows = record {
  counted = filed.counted;
  rising = filed.rising;
  given = filed.given;
  indexed = indexed_grown first old new transactions filed.indexed grows;
}

pub filed_pushed : (first newest : ℕ) (old new : Index) (transactions : List Logged) (logged : Logged)
    → IsFiled first newest old transactions → newest < number logged → Grows old new
    → ((b : Bucket) → files logged.writes b ≡ true → has (places_of new b) (first + length transactions) ≡ true)
    → IsFiled first (number logged) new (transactions ++ logged ∷ [])
filed_pushed first newest old new transactions logged filed above grows there =
    let count : length (transactions ++ logged ∷ []) ≡ length transactions + 1 = length_push transactions logged in
    record {
      counted = omega (arith, filed.counted);
      rising = all_pairs_push Rising transactions logged filed.rising
          (λ k d below. let old : number (get_or transactions k d) ≤ newest = filed.given k d below in omega arith);
      given = All-push (λ one. number one ≤ number logged) transactions logged
          (λ k d below. let old : number (get_or transactions k d) ≤ newest = filed.given k d below in omega arith) (omega arith);
      indexed = indexed_appended first old new transactions logged filed.indexed grows there;
    }

pub filed_dropped : (first newest : ℕ) (old new : Index) (logged : Logged) (transactions : List Logged)
    → IsFiled first newest old (logged ∷ transactions) → Keeps first old new → IsFiled (first + 1) newest new transactions
filed_dropped first newest old new logged transactions filed keeps = record {
  counted = omega (arith, filed.counted);
  rising = λ i j d less within. filed.rising (suc i) (suc j) d (omega arith) (omega arith);
  given = λ k d within. filed.given (suc k) d (omega arith);
  indexed = indexed_dropped first old new logged transactions filed.indexed keeps;
}
