-- An answer to a get that is in flight shows only positions that were asked for.
use Rattle.std.proofs.Common.{◌≡◌, ℕ, Bool, true, false, List, [], ◌∷◌, Some, None, ◌⊎◌, ⊎_elim, refl, sym, subst, ap, ◌∙◌, arith}
use Rattle.std.specs.Prelude.{nat_eq, if◌then◌else◌}
use Rattle.std.proofs.lemmas.Bool.{eqb-true}
use Rattle.lu_proof_bytes.specs.Object.Words.{Op, Get, Request, Answer, Content, Entry, Takes, Flies, Heard, Hold, Drop, Forgets, Tells}
use Rattle.lu_proof_bytes.specs.Object.Words.{Grant, Wait, Promote, Acts, Txn, Release, Evict, Commit, Close, Send}
use Rattle.lu_proof_bytes.specs.Object.Folds.{Answered, flight, asked}
use Rattle.lu_proof_bytes.specs.Object.Guards.{in_run, ActsOk, Allowed, AllAllowed}
use Rattle.lu_proof_bytes.proofs.Object.Numbers.{Numbers, fresh_flies}
use Rattle.lu_proof_bytes.proofs.Object.World.{world}

same_get : (a b : Op) (i at n j bt m : ℕ) → a ≡ Get i at n → b ≡ Get j bt m → a ≡ b → (at ≡ bt) × (n ≡ m)
same_get a b i at n j bt m p q e = let z : Get i at n ≡ Get j bt m = sym p ∙ e ∙ q in (cc, cc)

module _ (c k at n s : ℕ) (vs : List ℕ) (sn : ℕ → Bool) where
  abbrev told : Answer
  told = Content vs (Some s) sn

  -- so where it acts
  acted : (h : List Entry) (q r : Request) (b : Answer) → Numbers h → Allowed h (Acts q b) → q.life ≡ c → b ≡ told → flight c h ≡ Some r
      → r.op ≡ Get k at n → in_run at n s ≡ true
  acted h q r b nu ok life is flies op =
      let f : Some q ≡ Some r = sym (fresh_flies h q nu ok.0) ∙ ap (λ (d : ℕ). flight d h) life ∙ flies in
      let same : q ≡ r = cc in
      let a : ActsOk h q told = subst (ActsOk h q) is ok.1 in
      let parts = same_get q.op r.op a.0 a.1 a.2 k at n a.3 op (ap (λ (x : Request). x.op) same) in
      subst (λ (m : ℕ). in_run at m s ≡ true) parts.1 (subst (λ (m : ℕ). in_run m a.2 s ≡ true) parts.0 a.8.0)

  pub content_top : (h : List Entry) → AllAllowed h → (r : Request) → flight c h ≡ Some r → r.op ≡ Get k at n → Answered h c r.xid told
      → in_run at n s ≡ true
  content_top [] all r flies op a = absurd a
  content_top (Flies q ∷ h) all r flies op a = by (nat_eq c q.life) refl flies (λ f. content_top h all.1 r f op a)
    where
      by : (v : Bool) → nat_eq c q.life ≡ v → (if v then Some q else flight c h) ≡ Some r → (flight c h ≡ Some r → in_run at n s ≡ true)
          → in_run at n s ≡ true
      by false e f more = more f
      by true e f more =
          let is : q ≡ r = cc in
          let low = (world h all.1).numbers.answers c r.xid told a in
          let same = ap (λ (d : ℕ). asked d h) (eqb-true c q.life e) in
          let x = ap (λ (y : Request). y.xid) is in
          let next = all.0.next in
          absurd (omega (arith, low, same, x, next))
  content_top (Heard q b ∷ h) all r flies op a = by (nat_eq c q.life) flies (λ f. content_top h all.1 r f op a)
    where
      by : (v : Bool) → (if v then None else flight c h) ≡ Some r → (flight c h ≡ Some r → in_run at n s ≡ true) → in_run at n s ≡ true
      by false f more = more f
      by true f more = absurd (cc)
  content_top (Acts q b ∷ h) all r flies op a = ⊎_elim
      (λ p. acted h q r b (world h all.1).numbers all.0 p.0 p.2 flies op)
      (λ (p : Answered h c r.xid told). content_top h all.1 r flies op p)
      a
  content_top (Grant q l z y ∷ h) all r flies op a = ⊎_elim (λ p. absurd (let e = p.2 in cc))
      (λ (p : Answered h c r.xid told). content_top h all.1 r flies op p) a
  content_top (Wait q l ∷ h) all r flies op a = ⊎_elim (λ p. absurd (let e = p.2 in cc))
      (λ (p : Answered h c r.xid told). content_top h all.1 r flies op p) a
  content_top (Txn m q ∷ h) all r flies op a = ⊎_elim (λ p. absurd (let e = p.2 in cc))
      (λ (p : Answered h c r.xid told). content_top h all.1 r flies op p) a
  content_top (Close b lost gone ∷ h) all r flies op a = absurd (let e = a.1.1 in cc)
  content_top (Takes d j ch ∷ h) all r flies op a = content_top h all.1 r flies op a
  content_top (Hold l z y ∷ h) all r flies op a = content_top h all.1 r flies op a
  content_top (Drop l ∷ h) all r flies op a = content_top h all.1 r flies op a
  content_top (Forgets d ∷ h) all r flies op a = content_top h all.1 r flies op a
  content_top (Tells d call ∷ h) all r flies op a = content_top h all.1 r flies op a
  content_top (Promote l ∷ h) all r flies op a = content_top h all.1 r flies op a
  content_top (Release j ∷ h) all r flies op a = content_top h all.1 r flies op a
  content_top (Evict d ∷ h) all r flies op a = content_top h all.1 r flies op a
  content_top (Commit m ∷ h) all r flies op a = content_top h all.1 r flies op a
  content_top (Send m ∷ h) all r flies op a = content_top h all.1 r flies op a
