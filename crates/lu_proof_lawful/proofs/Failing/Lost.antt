-- A close in whose turn the disk fails loses nothing: with it and the failure, or the failure alone, what is lost is as before.
use Rattle.std.proofs.Common.{◌≡◌, ℕ, Bool, true, false, List, [], ◌∷◌, refl, ap, ◌∙◌}
use Rattle.std.specs.Prelude.{not, if◌then◌else◌}
use Rattle.std.proofs.lemmas.Bool.{cond_both}
use Rattle.lu_base.specs.declared.ids.At.{At}
use Rattle.lu_trace.specs.declared.entries.Entry.{Entry}
use Rattle.lu_trace.specs.declared.entries.Entry.TheVariants.{Close, Fail}
use Rattle.lu_trace.specs.declared.entries.Line.{Line}
use Rattle.lu_spec_laws.specs.Words.Pasts.{Past, is_target, same_turn}
use Rattle.lu_spec_laws.specs.Words.Scopes.{any_in}
use Rattle.lu_spec_laws.specs.Words.Lost.{Loss, numbers_of, is_among, is_fail, with_close, without_turn, losses_step, losses, loses}
use Rattle.lu_spec_laws.specs.Words.Lost.{is_lost}

-- no loss is of that turn
abbrev NoneAt : At → List Loss → Type 0
NoneAt at [] = Unit {0}
NoneAt at (x ∷ xs) = (same_turn x.at at ≡ false) × NoneAt at xs

-- each close is of another turn
abbrev pub OtherLine : At → Line → Type 0
OtherLine at l = elim l.entry [ Close ↦ same_turn l.at at ≡ false | _ ↦ Unit {0} ]

abbrev pub OthersAt : At → Past → Type 0
OthersAt at [] = Unit {0}
OthersAt at (l ∷ past) = OtherLine at l × OthersAt at past

filter_none : (at : At) (xs : List Loss) → NoneAt at xs → NoneAt at (without_turn at xs) × (without_turn at xs ≡ xs)
filter_none at [] n = (tt, refl)
filter_none at (x ∷ xs) n = let more = filter_none at xs n.1 in by (same_turn x.at at) n.0 more
  where
    by : (b : Bool) → b ≡ false → NoneAt at (without_turn at xs) × (without_turn at xs ≡ xs)
        → NoneAt at (if not b then x ∷ without_turn at xs else without_turn at xs)
        × ((if not b then x ∷ without_turn at xs else without_turn at xs) ≡ x ∷ xs)
    by true e more = absurd (cc)
    by false e more = ((n.0, more.0), ap (λ (ys : List Loss). x ∷ ys) more.1)

drops : (at : At) (x : Loss) (xs : List Loss) → same_turn x.at at ≡ true → without_turn at (x ∷ xs) ≡ without_turn at xs
drops at x xs e = rw e refl

only_old : (at other : At) (old : List Loss) → NoneAt at old → NoneAt at (without_turn other old)
only_old at other [] n = tt
only_old at other (x ∷ xs) n =
    cond_both (not (same_turn x.at other)) (x ∷ without_turn other xs) (without_turn other xs) (NoneAt at)
    (λ e. (n.0, only_old at other xs n.1)) (λ e. only_old at other xs n.1)

none_at : (u : ℕ) (at : At) (past : Past) → OthersAt at past → NoneAt at (losses u past)
none_at u at [] o = tt
none_at u at (l ∷ past) o = by l.entry o.0 (none_at u at past o.1)
  where
    old : List Loss
    old = losses u past

    closes : same_turn l.at at ≡ false → NoneAt at old → (b f : Bool)
        → NoneAt at (if b then with_close f l.at (loses u past) old else old)
    closes e n true true = n
    closes e n true false = (e, n)
    closes e n false f = n

    fails : NoneAt at old → (b : Bool) → NoneAt at (if b then without_turn l.at old else old)
    fails n true = only_old at l.at old n
    fails n false = n

    by : (x : Entry) → OtherLine at (record { at = l.at; entry = x }) → NoneAt at old
        → NoneAt at (losses_step u (any_in is_fail l.at past) (loses u past) (record { at = l.at; entry = x }) old)
    by Close e n = closes e n (is_target u l.at.node) (any_in is_fail l.at past)
    by Fail e n = fails n (is_target u l.at.node)
    by x e n = n

-- after `fail` alone
pub fail_loses : (u : ℕ) (at : At) (past : Past) → OthersAt at past → losses u (record { at = at; entry = Fail } ∷ past) ≡ losses u past
fail_loses u at past o = by (is_target u at.node)
  where
    by : (b : Bool) → (if b then without_turn at (losses u past) else losses u past) ≡ losses u past
    by true = (filter_none at (losses u past) (none_at u at past o)).1
    by false = refl

-- after `close` and `fail`
pub close_loses : (u : ℕ) (at : At) (past : Past) → same_turn at at ≡ true → OthersAt at past
    → losses u (record { at = at; entry = Fail } ∷ record { at = at; entry = Close } ∷ past) ≡ losses u past
close_loses u at past here o = by (is_target u at.node) (any_in is_fail at past)
  where
    old : List Loss
    old = losses u past

    same : without_turn at old ≡ old
    same = (filter_none at old (none_at u at past o)).1

    by : (b f : Bool) → (if b then without_turn at (if b then with_close f at (loses u past) old else old) else
        (if b then with_close f at (loses u past) old else old)) ≡ old
    by true true = same
    by true false = drops at (record { at = at; numbers = _ }) old here ∙ same
    by false f = refl

-- so the same numbers are lost
pub lost_same : (u n : ℕ) (at : At) (past : Past) → same_turn at at ≡ true → OthersAt at past
    → is_lost (record { at = at; entry = Fail } ∷ record { at = at; entry = Close } ∷ past) u n ≡ is_lost past u n
lost_same u n at past here o = ap (λ (xs : List Loss). is_among (numbers_of xs) n) (close_loses u at past here o)

pub fail_same : (u n : ℕ) (at : At) (past : Past) → OthersAt at past
    → is_lost (record { at = at; entry = Fail } ∷ past) u n ≡ is_lost past u n
fail_same u n at past o = ap (λ (xs : List Loss). is_among (numbers_of xs) n) (fail_loses u at past o)
