-- The words of a generator, one by one.
use Rattle.std.proofs.Common.{◌≡◌, ap, sym, arith, ◌∙◌, ℕ, suc, ◌-◌, ◌+◌, ◌<◌, List, ◌∷◌, ◌++◌}
use Rattle.std.proofs.lemmas.List.{append_assoc}
use Rattle.std.specs.List.{flat_map}
use Rattle.rand_xoshiro.specs.SplitMix64.{mix_u64}
use Rattle.lu_scene.specs.declared.scene.SceneLine.{SceneLine}
use Rattle.lu_scene.specs.Storms.{words, word_lines}

-- while fewer than so many were drawn, the next one is the first of those that are left
pub word_left : (k n state : ℕ) → k < n → words (n - k) state ≡ (mix_u64 state).0 ∷ words (n - (k + 1)) (mix_u64 state).1
unfolding words
word_left k n state below = ap (λ m. words m state) (left (omega arith))
  where
    left : n - k ≡ suc (n - (k + 1)) → n - k ≡ suc (n - (k + 1))
    left e = e

-- what was drawn goes before what is left
pub lines_left : (k n state : ℕ) (before : List SceneLine) → k < n
    → before ++ flat_map word_lines (words (n - k) state) ≡ before ++ word_lines (mix_u64 state).0
    ++ flat_map word_lines (words (n - (k + 1)) (mix_u64 state).1)
lines_left k n state before below =
    ap (λ ws. before ++ flat_map word_lines ws) (word_left k n state below)
    ∙ sym (append_assoc before (word_lines (mix_u64 state).0) (flat_map word_lines (words (n - (k + 1)) (mix_u64 state).1)))
