-- Closes that have asked nothing yet, over the slots of a client: how many there are, and which of them are free, where calls are told and
-- no
-- other begins.
use Rattle.lu_proof_lawful.proofs.Preconditions.Guards.{ReadsOn, ChangesOn}
use Rattle.lu_proof_lawful.proofs.Preconditions.CallStands.{StatsOn, Works}
use Rattle.lu_spec_entries.specs.Carried.{Asking}
use Rattle.std.proofs.Common.{◌≡◌, ℕ, zero, suc, ◌+◌, ◌<◌, ◌≤◌, Bool, true, false, List, ◌⊎◌, inl, inr, Option, Some, None, refl, sym}
use Rattle.std.proofs.Common.{subst, ap, ◌∙◌, arith}
use Rattle.std.specs.Prelude.{nat_eq, if◌then◌else◌}
use Rattle.std.proofs.lemmas.Bool.{eqb-true, eq-eqb}
use Rattle.lu_base.specs.declared.ids.Who.{Who}
use Rattle.lu_msg.specs.declared.calls.Call.{Call}
use Rattle.lu_msg.specs.declared.calls.Call.TheVariants as call
use Rattle.lu_spec_entries.specs.Carried.{HandleFile, Asked, Asking, Work, Running}
use Rattle.lu_spec_entries.specs.Words.{Line}
use Rattle.lu_spec_client.specs.Calls.{call_on, calls_at}
use Rattle.lu_spec_client.specs.Slots.{is_alone, is_close, is_free_close}
use Rattle.lu_spec_client.specs.Starts.{is_on, count_on}
use Rattle.lu_proof_lawful.specs.Covered.Calls.{call_at}
use Rattle.lu_proof_lawful.proofs.Preconditions.Lists.{self}
use Rattle.lu_proof_lawful.proofs.Preconditions.ClientHandles.{count_self, count_more}
use Rattle.lu_proof_lawful.proofs.Preconditions.CallStands.{OnBytes, HasAsked}
use Rattle.lu_proof_lawful.proofs.Preconditions.ClientCalls.{IsNoClose, is_closing, on_small}

-- ---- closes

-- an asked call isn't one that may be free
pub no_close : (x : Call) (a : Asking) → IsNoClose x → is_close x a ≡ false
no_close (call.Close h) a n = absurd n
no_close x a n = refl

asked_close : (x : Call) → is_close x Asked ≡ false
asked_close (call.Close h) = refl
asked_close x = refl

as_close : (r : Running) (x : Call) → r.call ≡ x → IsNoClose x → IsNoClose r.call
as_close r x e n = subst IsNoClose (sym e) n

pub bytes_close : (r : Running) (w : Work) → OnBytes r w → IsNoClose r.call
bytes_close r w b = by b.does
  where
    by : ReadsOn r w ⊎ StatsOn r w ⊎ ChangesOn r w → IsNoClose r.call
    by (inl d) = subst IsNoClose (sym d.read.reads) tt
    by (inr (inl d)) = subst IsNoClose (sym d.stats) tt
    by (inr (inr (inl d))) = subst IsNoClose (sym d.writes) tt
    by (inr (inr (inr d))) = subst IsNoClose (sym d.cuts) tt

pub works_close : (r : Running) (w : Work) → Works r w → IsNoClose r.call
works_close r w (inl b) = bytes_close r w b
works_close r w (inr z) = subst IsNoClose (sym z.glimpses) tt

pub asked_closing : (who : Who) (r : Running) → HasAsked who r → is_closing (Some r) ≡ false
asked_closing who r (inl n) = ap (is_close r.call) n.asked ∙ asked_close r.call
asked_closing who r (inr (inl a)) = no_close r.call r.asking (subst IsNoClose (sym a.sizing.sized.glimpses) tt)
asked_closing who r (inr (inr (inl l))) = no_close r.call r.asking (works_close r l.work l.wanting.works)
asked_closing who r (inr (inr (inr (inl w)))) = no_close r.call r.asking (works_close r w.work w.wanting.works)
asked_closing who r (inr (inr (inr (inr (inl f))))) = no_close r.call r.asking (works_close r f.work f.wanting.works)
asked_closing who r (inr (inr (inr (inr (inr g))))) = no_close r.call r.asking (bytes_close r g.work g.bytes)

-- ---- how many there are

abbrev one : Bool → ℕ
one true = 1
one false = 0

one_less : (a b : Bool) → (a ≡ true → b ≡ true) → one a ≤ one b
one_less false b f = omega arith
one_less true b f = subst (λ (x : Bool). 1 ≤ one x) (sym (f refl)) (omega arith)

one_fewer : (a b : Bool) → a ≡ false → b ≡ true → one a + 1 ≤ one b
one_fewer a b e f = subst (λ (x : Bool). one x + 1 ≤ one b) (sym e) (subst (λ (x : Bool). 1 ≤ one x) (sym f) (omega arith))

one_most : (b : Bool) → one b ≤ 1
one_most true = omega arith
one_most false = omega arith

pub not_true : (a : Bool) → (a ≡ true → ⊥) → a ≡ false
not_true true f = absurd (f refl)
not_true false f = refl

module _ (c : ℕ) where
  abbrev closes_on : List Line → ℕ → ℕ
  closes_on p s = one (is_closing (call_at c s p))

  abbrev pub closings : List Line → ℕ
  closings p = closes_on p 0 + (closes_on p 1 + (closes_on p 2 + closes_on p 3))

  pub closings_most : (p : List Line) → closings p ≤ 4
  closings_most p =
      let a = one_most (is_closing (call_at c 0 p)) in
      let b = one_most (is_closing (call_at c 1 p)) in
      let d = one_most (is_closing (call_at c 2 p)) in
      let e = one_most (is_closing (call_at c 3 p)) in
      omega (arith, a, b, d, e)

  module _ (p q : List Line) (less : (s : ℕ) → is_closing (call_at c s q) ≡ true → is_closing (call_at c s p) ≡ true) where
    each : (s : ℕ) → closes_on q s ≤ closes_on p s
    each s = one_less (is_closing (call_at c s q)) (is_closing (call_at c s p)) (less s)

    pub closings_less : closings q ≤ closings p
    closings_less = let a = each 0 in let b = each 1 in let d = each 2 in let e = each 3 in omega (arith, a, b, d, e)

    pub closings_fewer : (s : ℕ) → s < 4 → is_closing (call_at c s q) ≡ false → is_closing (call_at c s p) ≡ true
        → closings q + 1 ≤ closings p
    closings_fewer s small now was = by s small (one_fewer (is_closing (call_at c s q)) (is_closing (call_at c s p)) now was)
      where
        a : closes_on q 0 ≤ closes_on p 0
        a = each 0

        b : closes_on q 1 ≤ closes_on p 1
        b = each 1

        d : closes_on q 2 ≤ closes_on p 2
        d = each 2

        e : closes_on q 3 ≤ closes_on p 3
        e = each 3

        by : (s : ℕ) → s < 4 → closes_on q s + 1 ≤ closes_on p s → closings q + 1 ≤ closings p
        by zero small k = omega (arith, k, b, d, e)
        by (suc zero) small k = omega (arith, k, a, d, e)
        by (suc (suc zero)) small k = omega (arith, k, a, b, e)
        by (suc (suc (suc zero))) small k = omega (arith, k, a, b, d)
        by (suc (suc (suc (suc s)))) small k = absurd (omega (arith, small))

  pub closings_some : (p : List Line) (s : ℕ) → s < 4 → is_closing (call_at c s p) ≡ true → 1 ≤ closings p
  closings_some p s small e = by s small (ap one e)
    where
      by : (s : ℕ) → s < 4 → closes_on p s ≡ 1 → 1 ≤ closings p
      by zero small k = omega (arith, k)
      by (suc zero) small k = omega (arith, k)
      by (suc (suc zero)) small k = omega (arith, k)
      by (suc (suc (suc zero))) small k = omega (arith, k)
      by (suc (suc (suc (suc s)))) small k = absurd (omega (arith, small))

  -- where no more calls are on its open a close that is free is free still
  pub free_still : (p q : List Line) (s : ℕ) → s < 4 → ((n u : ℕ) → is_on n (call_at c u q) ≡ true → is_on n (call_at c u p) ≡ true)
      → call_at c s q ≡ call_at c s p
      → is_free_close (calls_at c p) (call_at c s p) ≡ true → is_free_close (calls_at c q) (call_at c s q) ≡ true
  free_still p q s small less same free = subst (λ (x : Option Running). is_free_close (calls_at c q) x ≡ true) (sym same)
      (by (call_at c s p) refl free)
    where
      by : (x : Option Running) → call_at c s p ≡ x → is_free_close (calls_at c p) x ≡ true → is_free_close (calls_at c q) x ≡ true
      by None e free = absurd (cc)
      by (Some r) e free = of_close (is_close r.call r.asking) free
        where
          alone : (f : Option HandleFile) → r.file ≡ f → is_alone (calls_at c p) f ≡ true → is_alone (calls_at c q) f ≡ true
          alone None k a = absurd (cc)
          alone (Some f) k a =
              let n = f.number.0 in
              let most = count_more c n q p (λ u. less n u) in
              let was : count_on n (calls_at c p) ≡ 1 = eqb-true (count_on n (calls_at c p)) 1 a in
              let on : is_on n (call_on s (calls_at c q)) ≡ true = ap (is_on n) (on_small c s q small ∙ same ∙ e)
              ∙ ap (λ (g : Option HandleFile). elim g [ None ↦ false | Some h ↦ nat_eq h.number.0 n ]) k ∙ self n in
              let least = count_self n s (calls_at c q) on in
              eq-eqb (count_on n (calls_at c q)) 1 (omega (arith, most, was, least))

          of_close : (b : Bool) → (if b then is_alone (calls_at c p) r.file else false) ≡ true
              → (if b then is_alone (calls_at c q) r.file else false) ≡ true
          of_close true a = alone r.file refl a
          of_close false a = absurd (cc)
