-- Lines of others, and the client's own that change nothing of what it keeps of objects: all of it stays, as the story does. And a life
-- that hasn't
-- begun has nothing.
use Rattle.std.proofs.Common.{◌≡◌, ℕ, ◌<◌, ◌≤◌, Bool, true, false, List, ◌∷◌, inl, inr, refl, sym, subst, ap, ◌∙◌, arith}
use Rattle.std.specs.Prelude.{nat_eq}
use Rattle.std.proofs.lemmas.Bool.{eqb-true}
use Rattle.lu_base.specs.declared.ids.Node.{Node}
use Rattle.lu_base.specs.declared.ids.Node.TheVariants.{Client, Target}
use Rattle.lu_base.specs.declared.ids.Who.{Who}
use Rattle.lu_base.specs.declared.locks.Lock.{Lock as TableLock}
use Rattle.lu_base.specs.declared.locks.Resource.{Resource}
use Rattle.lu_spec_entries.specs.Words as word
use Rattle.lu_spec_entries.specs.Words.{Line, line, is_client}
use Rattle.lu_spec_entries.specs.Fields.{on}
use Rattle.lu_spec_client.specs.Caches.{patch_at, bytes_at}
use Rattle.lu_spec_client.specs.Calls.{life_at, reads_life, life_after}
use Rattle.lu_spec_client.specs.States.{Store, store_turn, store_at}
use Rattle.lu_proof_lawful.specs.Covered.Heads.{Head}
use Rattle.lu_proof_lawful.proofs.Preconditions.Heard.{In}
use Rattle.lu_proof_lawful.proofs.Preconditions.HeedMarks.{owed_of}
use Rattle.lu_proof_lawful.proofs.Preconditions.Heeds.{owed_other, store_other}
use Rattle.lu_proof_lawful.proofs.Preconditions.Guards.{EntryOk}
use Rattle.lu_proof_bytes.specs.Object.Words.{Entry}
use Rattle.lu_proof_bytes.specs.Object.Folds as says
use Rattle.lu_proof_bytes.proofs.Object.World.{World}
use Rattle.lu_proof_lawful.specs.Projection.Lives.{number_of, is_live}
use Rattle.lu_proof_lawful.specs.Projection.Stories.{story}
use Rattle.lu_proof_lawful.proofs.Projection.Lives.{same_life}
use Rattle.lu_proof_lawful.proofs.Refinement.Stood.{grown_now}
use Rattle.lu_proof_lawful.proofs.Refinement.Tied.{Here, Grows}
use Rattle.lu_proof_lawful.proofs.Refinement.TiedStore.{StoreBy, Unborn, store_owed, life_number, shown_story}
use Rattle.lu_proof_lawful.proofs.Refinement.AskedOther.{shown_life, not_of}
use Rattle.lu_proof_lawful.proofs.Refinement.AskedSteps.{NotOf, ShowsLock, live_before}
use Rattle.lu_proof_lawful.proofs.Refinement.OverLives.{life_now, life_more, client_now}
use Rattle.lu_proof_lawful.proofs.Refinement.StoreFolds.{StoreStays, store_same, store_entry, OfOther, step_leaves}
use Rattle.lu_proof_lawful.proofs.Refinement.StoreKept.{fits_stays}
use Rattle.lu_proof_lawful.proofs.Refinement.StoreSettled.{shown_other}

-- ---- the story of another life

-- so it says of a life the same after a line that isn't of it
pub store_stays : (w t : ℕ) (r : Resource) (l : Line) (past : List Line) → World (story t r past)
    → Grows (story t r past) (story t r (l ∷ past)) → OfOther w l.at.node past l.entry
    → StoreStays w (story t r past) (story t r (l ∷ past))
store_stays w t r l past world (inl e) o = store_same w (story t r past) (story t r (l ∷ past)) e
store_stays w t r l past world (inr g) o =
    let leaves = step_leaves w (story t r past) g.0 t r l.at.node past l.entry o g.1 in
    subst (λ (k : List Entry). StoreStays w (story t r past) k) (sym g.1)
    (store_entry w (story t r past) g.0 world.numbers world.locks g.2 leaves)

module _ (head : Head) (t : ℕ) (r : Resource) (l : Line) (past : List Line) (here : Here head t r l past) where
  -- a line of another client, or of a target, isn't of the life
  pub of_other : (w : ℕ) → NotOf w past l.at.node → OfOther w l.at.node past l.entry
  of_other w n = by l.at.node l.entry n here.stood.ok.ok (λ d m e i. shown_life head l past here.stood d m e i)
    where
      client : (w : ℕ) (node : Node) → NotOf w past node → (d : ℕ) → node ≡ Client d → nat_eq w (number_of (life_at d past)) ≡ false
      client w (Target u) n d e = absurd (cc)
      client w (Client c) n d e = let q : c ≡ d = cc in subst (λ (x : ℕ). nat_eq w (life_number x past) ≡ false) q n

      by : (node : Node) (e : word.Entry) → NotOf w past node → EntryOk past l.at node e
          → ((d : ℕ) (m : TableLock) → node ≡ Client d → ShowsLock e m → number_of m.ask.who ≡ life_number d past) → OfOther w node past e
      by (Client c) (word.Hold u m marked size seen) n ok own = ap (nat_eq w) (own c m refl refl) ∙ n
      by (Target u) (word.Hold v m marked size seen) n ok own = absurd ok
      by (Client c) (word.Drop u m) n ok own = ap (nat_eq w) (own c m refl refl) ∙ n
      by (Target u) (word.Drop v m) n ok own = absurd ok
      by node _ n ok own = inl (client w node n)

  -- nor of one that hasn't begun
  pub unborn_line : Grows (story t r past) (story t r (l ∷ past)) → (who : Who) → (life_at who.client (l ∷ past)).life < who.life
      → Unborn (number_of who) (story t r (l ∷ past))
  unborn_line g who later =
      let old = here.tied.store.unborn who before in
      let s = store_stays (number_of who) t r l past here.world g (of_other (number_of who) (not_yet l.at.node)) in
      record {
        pending = s.pending ∙ old.pending;
        dirty = λ p. s.dirty p ∙ old.dirty p;
        flying = λ p. s.flying p ∙ old.flying p;
        known = λ p. s.known p ∙ old.known p;
        holds = λ m i v. old.holds m (s.back m i v) v;
      }
    where
      more : (life_at who.client past).life ≤ (life_at who.client (l ∷ past)).life
      more =
          let a = life_now who.client past in
          let b = life_now who.client (l ∷ past) in
          let x = ap (λ (v : Who). v.life) a in
          let y = ap (λ (v : Who). v.life) b in
          let z = life_more head l past (grown_now head l past here.stood) who.client in
          omega (arith, x, y, z)

      before : (life_at who.client past).life < who.life
      before = let a = more in omega (arith, a, later)

      not_yet : (node : Node) → NotOf (number_of who) past node
      not_yet (Target u) = tt
      not_yet (Client d) = apart (nat_eq (number_of who) (life_number d past)) refl
        where
          apart : (v : Bool) → nat_eq (number_of who) (life_number d past) ≡ v → v ≡ false
          apart false f = refl
          apart true f =
              let same = same_life who (life_at d past) (eqb-true _ _ f) in
              let its : (life_at d past).client ≡ d = ap (λ (v : Who). v.client) (life_now d past) ∙ client_now head past here.stood.grown d
              in
              let mine : who.client ≡ d = ap (λ (v : Who). v.client) same ∙ its in
              let life : who.life ≡ (life_at who.client past).life = ap (λ (v : Who). v.life) same
              ∙ ap (λ (x : ℕ). (life_at x past).life) (sym mine) in
              let b = before in
              absurd (omega (arith, b, life))

-- ---- lines of others

shown_not : (c : ℕ) (r : Resource) (l : Line) (past : List Line) (k : List Entry) → is_client c l.at.node ≡ false
    → shown_story c r (l ∷ past) k ≡ k
shown_not c r l past k other = by l.entry
  where
    by : (e : word.Entry) → shown_story c r (line l.at e ∷ past) k ≡ k
    by (word.Changes q change) = rw other refl
    by e = refl

life_other : (c : ℕ) (l : Line) (past : List Line) → is_client c l.at.node ≡ false → life_at c (l ∷ past) ≡ life_at c past
life_other c l past other = ap (λ (own : Bool). on (reads_life l.entry) own (life_after (life_at c past) l.entry) (life_at c past)) other
    ∙ by (reads_life l.entry)
  where
    by : (b : Bool) → on b false (life_after (life_at c past) l.entry) (life_at c past) ≡ life_at c past
    by true = refl
    by false = refl

module _ (head : Head) (t : ℕ) (r : Resource) (l : Line) (past : List Line) (here : Here head t r l past)
    (g : Grows (story t r past) (story t r (l ∷ past))) (c : ℕ) where
  -- all of it stays where the store, the life and the story of that life do
  pub stays_by : is_live c (l ∷ past) (story t r (l ∷ past)) ≡ true → life_at c (l ∷ past) ≡ life_at c past
      → patch_at r (store_owed c (l ∷ past)).patches ≡ patch_at r (store_owed c past).patches → bytes_at r (store_owed c (l ∷ past)).bytes
      ≡ bytes_at r (store_owed c past).bytes
      → (store_owed c (l ∷ past)).sizes ≡ (store_owed c past).sizes → (store_owed c (l ∷ past)).shown ≡ (store_owed c past).shown
      → StoreStays (life_number c past) (story t r past) (story t r (l ∷ past))
      → shown_story c r past (story t r past) ≡ story t r past → shown_story c r (l ∷ past) (story t r (l ∷ past)) ≡ story t r (l ∷ past)
      → ((e : word.Entry) → In e (owed_of c (l ∷ past)) → In e (owed_of c past)) → StoreBy t r (l ∷ past) (story t r (l ∷ past)) c
  stays_by live life patch bytes sizes shown stays was now less =
      rw (patch, bytes, sizes, shown, life)
      (fits_stays t r (patch_at r (store_owed c past).patches) (bytes_at r (store_owed c past).bytes) (store_owed c past).sizes
      (store_owed c past).shown (life_number c past) (owed_of c past) (story t r past) (shown_story c r past (story t r past))
      (here.tied.store.of c (live_before c l past (story t r past) (story t r (l ∷ past)) life g live))
      (owed_of c (l ∷ past)) (story t r (l ∷ past)) (shown_story c r (l ∷ past) (story t r (l ∷ past))) stays
      (λ j. ap (says.shown (life_number c past) j) now ∙ stays.shown j ∙ ap (says.shown (life_number c past) j) (sym was))
      less)

  pub other_by : is_client c l.at.node ≡ false → is_live c (l ∷ past) (story t r (l ∷ past)) ≡ true
      → StoreBy t r (l ∷ past) (story t r (l ∷ past)) c
  other_by other live =
      let owed = owed_other c l.at l.entry past other in
      let same : store_owed c (l ∷ past) ≡ store_owed c past = ap (λ (s : Store). store_turn s (owed_of c (l ∷ past)))
      (store_other c l.at l.entry past other) ∙ ap (store_turn (store_at c past)) owed in
      stays_by live (life_other c l past other) (ap (λ (s : Store). patch_at r s.patches) same)
      (ap (λ (s : Store). bytes_at r s.bytes) same) (ap (λ (s : Store). s.sizes) same) (ap (λ (s : Store). s.shown) same)
      (store_stays (life_number c past) t r l past here.world g
      (of_other head t r l past here (life_number c past) (not_of head t r l past here g c other)))
      (shown_other c r past (story t r past) l.at l.entry here.stood.ok.owes other)
      (shown_not c r l past (story t r (l ∷ past)) other)
      (λ e i. subst (λ (es : List word.Entry). In e es) owed i)
