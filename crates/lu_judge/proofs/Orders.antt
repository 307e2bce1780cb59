-- The order of the laws: from one to the next, and where each stands.
use Rattle.std.proofs.Common.{◌≡◌, ℕ, zero, suc, ◌<◌, ◌≤◌, List, ◌∷◌, refl, sym, ap, ◌∙◌, subst, arith}
use Rattle.std.specs.Prelude.{Some, None}
use Rattle.lu_trace.specs.declared.traces.Trace.{Trace}
use Rattle.lu_spec_laws.specs.Lawful.{IsLawful}
use Rattle.lu_judge.specs.declared.laws.Law.{Law}
use Rattle.lu_judge.specs.declared.laws.Law.TheVariants as law
use Rattle.lu_judge.specs.Laws.{next_law, laws_before}
use Rattle.lu_judge.specs.Verdicts.{Keeps, KeepsAll, KeepsBefore}

-- how many laws come after it
abbrev pub rank_of : Law → ℕ
rank_of law.Messages = 6
rank_of law.Locks = 5
rank_of law.Silent = 4
rank_of law.Acts = 3
rank_of law.Recovery = 2
rank_of law.History = 1
rank_of law.Glimpse = 0

-- ---- each law has its rank alone

abbrev ranked : ℕ → Law
ranked zero = law.Glimpse
ranked (suc zero) = law.History
ranked (suc (suc zero)) = law.Recovery
ranked (suc (suc (suc zero))) = law.Acts
ranked (suc (suc (suc (suc zero)))) = law.Silent
ranked (suc (suc (suc (suc (suc zero))))) = law.Locks
ranked (suc (suc (suc (suc (suc (suc n)))))) = law.Messages

by_rank : (this : Law) → ranked (rank_of this) ≡ this
by_rank law.Messages = refl
by_rank law.Locks = refl
by_rank law.Silent = refl
by_rank law.Acts = refl
by_rank law.Recovery = refl
by_rank law.History = refl
by_rank law.Glimpse = refl

pub same_rank : (this other : Law) → rank_of this ≡ rank_of other → this ≡ other
same_rank this other same = sym (by_rank this) ∙ ap ranked same ∙ by_rank other

-- ---- from a law to the next

record IsStep (this next : Law) : Type 0 where
  before : laws_before next ≡ this ∷ laws_before this
  falls : rank_of next < rank_of this

step : (this next : Law) → next_law this ≡ Some next → IsStep this next
step law.Messages next is = let same : law.Locks ≡ next = cc in subst (λ (l : Law). IsStep law.Messages l) same
    (record { before = refl; falls = omega arith })
step law.Locks next is = let same : law.Silent ≡ next = cc in subst (λ (l : Law). IsStep law.Locks l) same
    (record { before = refl; falls = omega arith })
step law.Silent next is = let same : law.Acts ≡ next = cc in subst (λ (l : Law). IsStep law.Silent l) same
    (record { before = refl; falls = omega arith })
step law.Acts next is = let same : law.Recovery ≡ next = cc in subst (λ (l : Law). IsStep law.Acts l) same
    (record { before = refl; falls = omega arith })
step law.Recovery next is = let same : law.History ≡ next = cc in subst (λ (l : Law). IsStep law.Recovery l) same
    (record { before = refl; falls = omega arith })
step law.History next is = let same : law.Glimpse ≡ next = cc in subst (λ (l : Law). IsStep law.History l) same
    (record { before = refl; falls = omega arith })
step law.Glimpse next is = absurd (cc)

pub falls : (this next : Law) → next_law this ≡ Some next → rank_of next < rank_of this
falls this next is = (step this next is).falls

pub keeps_next : (trace : Trace) (this next : Law) → next_law this ≡ Some next → Keeps trace this → KeepsBefore trace this
    → KeepsBefore trace next
keeps_next trace this next is kept before = subst (λ (laws : List Law). KeepsAll trace laws) (sym (step this next is).before) (kept, before)

-- ---- all of them

-- where the last is kept too
pub lawful_last : (trace : Trace) (this : Law) → next_law this ≡ None → Keeps trace this → KeepsBefore trace this → IsLawful trace
lawful_last trace law.Glimpse is kept before = record {
  messages = before.1.1.1.1.1.0;
  locks = before.1.1.1.1.0;
  silent = before.1.1.1.0;
  acts = before.1.1.0;
  recovery = before.1.0;
  history = before.0;
  glimpse = kept;
}
lawful_last trace law.Messages is kept before = absurd (cc)
lawful_last trace law.Locks is kept before = absurd (cc)
lawful_last trace law.Silent is kept before = absurd (cc)
lawful_last trace law.Acts is kept before = absurd (cc)
lawful_last trace law.Recovery is kept before = absurd (cc)
lawful_last trace law.History is kept before = absurd (cc)

pub each_kept : (trace : Trace) → IsLawful trace → (this : Law) → Keeps trace this
each_kept trace lawful law.Messages = lawful.messages
each_kept trace lawful law.Locks = lawful.locks
each_kept trace lawful law.Silent = lawful.silent
each_kept trace lawful law.Acts = lawful.acts
each_kept trace lawful law.Recovery = lawful.recovery
each_kept trace lawful law.History = lawful.history
each_kept trace lawful law.Glimpse = lawful.glimpse

most : (this : Law) → rank_of this ≤ 6
most law.Messages = omega arith
most law.Locks = omega arith
most law.Silent = omega arith
most law.Acts = omega arith
most law.Recovery = omega arith
most law.History = omega arith
most law.Glimpse = omega arith

-- of those before a law each that has more after it
pub kept_before : (trace : Trace) (this earlier : Law) → rank_of this < rank_of earlier → KeepsBefore trace this → Keeps trace earlier
kept_before trace law.Locks law.Messages less kept = kept.0
kept_before trace law.Silent law.Locks less kept = kept.0
kept_before trace law.Silent law.Messages less kept = kept.1.0
kept_before trace law.Acts law.Silent less kept = kept.0
kept_before trace law.Acts law.Locks less kept = kept.1.0
kept_before trace law.Acts law.Messages less kept = kept.1.1.0
kept_before trace law.Recovery law.Acts less kept = kept.0
kept_before trace law.Recovery law.Silent less kept = kept.1.0
kept_before trace law.Recovery law.Locks less kept = kept.1.1.0
kept_before trace law.Recovery law.Messages less kept = kept.1.1.1.0
kept_before trace law.History law.Recovery less kept = kept.0
kept_before trace law.History law.Acts less kept = kept.1.0
kept_before trace law.History law.Silent less kept = kept.1.1.0
kept_before trace law.History law.Locks less kept = kept.1.1.1.0
kept_before trace law.History law.Messages less kept = kept.1.1.1.1.0
kept_before trace law.Glimpse law.History less kept = kept.0
kept_before trace law.Glimpse law.Recovery less kept = kept.1.0
kept_before trace law.Glimpse law.Acts less kept = kept.1.1.0
kept_before trace law.Glimpse law.Silent less kept = kept.1.1.1.0
kept_before trace law.Glimpse law.Locks less kept = kept.1.1.1.1.0
kept_before trace law.Glimpse law.Messages less kept = kept.1.1.1.1.1.0
kept_before trace this earlier less kept = absurd (omega (arith, most earlier))
