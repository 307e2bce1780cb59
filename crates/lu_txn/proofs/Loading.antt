-- What holds of the slots and numbers that batches tell.
use Rattle.std.proofs.Common.{◌≡◌, ℕ, suc, ◌+◌, ◌*◌, ◌^◌, ◌<◌, ◌≤◌, true, false, List, [], ◌∷◌, ◌++◌, length, get_or, sym, subst, arith}
use Rattle.std.specs.Prelude.{All, AllPairs}
use Rattle.std.specs.List.{fold}
use Rattle.lu_base.specs.declared.ids.Who.{Who}
use Rattle.lu_msg.specs.declared.commits.Batch.{Batch}
use Rattle.lu_msg.specs.declared.commits.KeptReply.{KeptReply}
use Rattle.lu_msg.specs.declared.commits.Transaction.{Transaction}
use Rattle.lu_txn.specs.declared.slots.Slot.{Slot}
use Rattle.lu_msg.specs.Limits.{tag_count}
use Rattle.lu_txn.specs.Slots.{lives_of, with_life, with_lives, without_life, without_lives, with_reply, with_replies}
use Rattle.lu_txn.specs.Journals.{JournalState, IsSound}
use Rattle.lu_txn.specs.Loads.{Stored, nothing, last_number, with_batch, stored_by, AreBelow}
use Rattle.lu_txn.proofs.SlotLaws.{Before, lives-with_reply, rises-with_life, rises-without_life, tags-with_reply, tags-with_life}
use Rattle.lu_txn.proofs.SlotLaws.{tags-without_life}

-- lives in order, each with its tags
pub record IsTidy (slots : List Slot) : Type 0 where
  pub lives : AllPairs Before (lives_of slots)
  pub tags : All (λ slot. length slot.replies ≡ tag_count) slots

pub tidy-nothing : IsTidy []
tidy-nothing = record {
  lives = λ i j d less within. absurd (omega arith);
  tags = λ k d within. absurd (omega arith);
}

pub tidy-with_lives : (lives : List Who) (slots : List Slot) → IsTidy slots → IsTidy (with_lives lives slots)
tidy-with_lives [] slots tidy = tidy
tidy-with_lives (who ∷ lives) slots tidy =
    tidy-with_lives lives (with_life who slots) (record {
      lives = rises-with_life who slots tidy.lives;
      tags = tags-with_life who slots tidy.tags;
    })

pub tidy-without_lives : (lives : List Who) (slots : List Slot) → IsTidy slots → IsTidy (without_lives lives slots)
tidy-without_lives [] slots tidy = tidy
tidy-without_lives (who ∷ lives) slots tidy =
    tidy-without_lives lives (without_life who slots) (record {
      lives = rises-without_life who slots tidy.lives;
      tags = tags-without_life who slots tidy.tags;
    })

pub tidy-with_replies : (replies : List KeptReply) (slots : List Slot) → IsTidy slots → IsTidy (with_replies replies slots)
tidy-with_replies [] slots tidy = tidy
tidy-with_replies (kept ∷ replies) slots tidy =
    tidy-with_replies replies (with_reply kept.who kept.tag kept.reply slots) (record {
      lives = subst (AllPairs Before) (sym (lives-with_reply kept.who kept.tag kept.reply slots)) tidy.lives;
      tags = tags-with_reply kept.who kept.tag kept.reply slots tidy.tags;
    })

tidy-with_batch : (stored : Stored) (batch : Batch) → IsTidy stored.slots → IsTidy (with_batch stored batch).slots
tidy-with_batch stored batch tidy =
    let come : List Slot = with_lives batch.added stored.slots in
    let told : List Slot = with_replies batch.replies come in
    tidy-with_lives batch.added (without_lives batch.removed told)
    (tidy-without_lives batch.removed told (tidy-with_replies batch.replies come (tidy-with_lives batch.added stored.slots tidy)))

tidy-stored : (batches : List Batch) (stored : Stored) → IsTidy stored.slots → IsTidy (fold with_batch stored batches).slots
tidy-stored [] stored tidy = tidy
tidy-stored (batch ∷ batches) stored tidy = tidy-stored batches (with_batch stored batch) (tidy-with_batch stored batch tidy)

-- numbers stay below a bound
last_below : (bound number : ℕ) (transactions : List Transaction) → number ≤ bound
    → All (λ transaction. transaction.txn.0 < bound) transactions → last_number number transactions ≤ bound
last_below bound number [] below all = below
last_below bound number (transaction ∷ transactions) below all =
    let this : transaction.txn.0 < bound = all 0 transaction (omega arith) in
    last_below bound transaction.txn.0 transactions (omega arith) (λ k d within. all (suc k) d (omega arith))

stored_below : (boot : ℕ) (batches : List Batch) (stored : Stored) → stored.committed ≤ boot * 2 ^ 32 → AreBelow boot batches
    → (fold with_batch stored batches).committed ≤ boot * 2 ^ 32
stored_below boot [] stored below all = below
stored_below boot (batch ∷ batches) stored below all =
    stored_below boot batches (with_batch stored batch) (last_below (boot * 2 ^ 32) stored.committed batch.transactions below
    (all 0 batch (omega arith))) (λ k d within. all (suc k) d (omega arith))

-- the journal of a boot over what batches tell
pub sound_parts : (batches : List Batch) (boot committed : ℕ) (slots : List Slot) (gone added dropped removed : List Who)
    → record { committed = committed; slots = slots; removed = gone } ≡ stored_by batches → boot < 2 ^ 32 → AreBelow boot batches
    → IsSound (record {
      boot = boot;
      boot_stored = false;
      newest = committed;
      committed = committed;
      transactions = [];
      slots = slots;
      added = added;
      dropped = dropped;
      removed = removed;
    })
sound_parts batches boot committed slots gone added dropped removed told small all =
    let tidy : IsTidy slots = subst (λ (stored : Stored). IsTidy stored.slots) (sym told) (tidy-stored batches nothing tidy-nothing) in
    let below : committed ≤ boot * 2 ^ 32 = subst (λ (stored : Stored). stored.committed ≤ boot * 2 ^ 32) (sym told)
    (stored_below boot batches nothing (omega arith) all) in
    record {
      boot = small;
      newest = omega (arith, below);
      committed = omega arith;
      rising = λ i j d less within. absurd (omega arith);
      given = λ k d within. absurd (omega arith);
      uncommitted = λ k d within. absurd (omega arith);
      tagged = λ k d within. absurd (omega arith);
      lives = tidy.lives;
      tags = tidy.tags;
    }
