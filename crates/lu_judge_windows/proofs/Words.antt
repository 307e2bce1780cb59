-- Counts of what was handed in, and words that name them.
use Rattle.std.proofs.Common.{◌≡◌, ℕ, ◌+◌, Bool, true, false, List, refl, arith}
use Rattle.std.specs.Prelude.{◌==◌, ◌&&◌, ◌||◌, nat_le}
use Rattle.std.specs.List.{list_any}
use Rattle.std.proofs.lemmas.Bool.Decides.{nat_tests}
use Rattle.lu_base.specs.declared.ids.Who.{Who}
use Rattle.lu_msg.specs.declared.messages.Message.{Message}
use Rattle.lu_msg.specs.declared.messages.Message.TheVariants.{Word, Join}
use Rattle.lu_spec_machine.specs.Tree.{same_life}
use Rattle.lu_spec_laws.specs.Words.Handed.{is_word}
use Rattle.lu_judge_windows.specs.Handed.{names_replays, names_locks}
use Rattle.lu_judge_windows.proofs.Tests.{any_or}

-- one more at most: up to the old bound, or the new one exactly
le_more : (r k : ℕ) → nat_le r (k + 1) ≡ (nat_le r k || (r == k + 1))
le_more r k = grind (arith, nat_tests)

module _ (b : ℕ) (who : Who) (k l : ℕ) where
  replays_more : (m : Message) → is_word b who (k + 1) l m ≡ (is_word b who k l m || names_replays b who (k + 1) l m)
  replays_more (Word other known replays locks seen) = rw (le_more replays k)
      (by (same_life other who && known == b) (nat_le replays k) (replays == k + 1) (nat_le locks l)) where
        by : (s r e m : Bool) → ((s && (r || e)) && m) ≡ (((s && r) && m) || (s && (e && m)))
        by false r e m = refl
        by true true true true = refl
        by true true true false = refl
        by true true false true = refl
        by true true false false = refl
        by true false e m = refl
  replays_more (Join other known) = by (same_life other who && known == b) where
    by : (s : Bool) → s ≡ (s || false)
    by true = refl
    by false = refl
  replays_more _ = refl

  locks_more : (m : Message) → is_word b who l (k + 1) m ≡ (is_word b who l k m || names_locks b who (k + 1) l m)
  locks_more (Word other known replays locks seen) = rw (le_more locks k)
      (by (same_life other who && known == b) (nat_le replays l) (nat_le locks k) (locks == k + 1)) where
        by : (s m r e : Bool) → ((s && m) && (r || e)) ≡ (((s && m) && r) || (s && (e && m)))
        by false m r e = refl
        by true true true true = refl
        by true true true false = refl
        by true true false true = refl
        by true true false false = refl
        by true false true true = refl
        by true false true false = refl
        by true false false true = refl
        by true false false false = refl
  locks_more (Join other known) = by (same_life other who && known == b) where
    by : (s : Bool) → s ≡ (s || false)
    by true = refl
    by false = refl
  locks_more _ = refl

  -- one more replay: the words that were met already, and those that name just so many
  pub any_replays_more : (handed : List Message) → list_any (is_word b who (k + 1) l) handed
      ≡ (list_any (is_word b who k l) handed || list_any (names_replays b who (k + 1) l) handed)
  any_replays_more handed = any_or _ _ _ handed replays_more

  pub any_locks_more : (handed : List Message) → list_any (is_word b who l (k + 1)) handed
      ≡ (list_any (is_word b who l k) handed || list_any (names_locks b who (k + 1) l) handed)
  any_locks_more handed = any_or _ _ _ handed locks_more
