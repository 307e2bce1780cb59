-- What a read and a stat of a file tell a life that isn't out is what the plain machine says of the file's bytes then: each object's story
-- is that of
-- a run, and the machine has its bytes.
use Rattle.std.proofs.Common.{◌≡◌, ℕ, zero, suc, ◌+◌, ◌-◌, ◌<◌, ◌≤◌, Bool, true, false, List, [], ◌∷◌, length, Option, Some, None, ◌⊎◌, inl}
use Rattle.std.proofs.Common.{inr, ⊎_elim, refl, sym, subst, ap, ◌∙◌, arith}
use Rattle.std.specs.Prelude.{nat_lt, map, min, slice_index, ◌%◌}
use Rattle.std.specs.List.{range_with_len}
use Rattle.std.specs.Option.{unwrap_or}
use Rattle.std.proofs.lemmas.Bool.{ltb-true, ltb-false}
use Rattle.lu_base.specs.declared.ids.Fid.{Fid}
use Rattle.lu_base.specs.declared.ids.Who.{Who}
use Rattle.lu_base.specs.declared.locks.Resource.{Resource}
use Rattle.lu_layout.specs.Raid0.{Raid0}
use Rattle.lu_layout.specs.Sound.{IsLayout}
use Rattle.lu_spec_machine.specs.Bytes.{FileBytes, object_at, byte_at, size_of, read}
use Rattle.lu_spec_machine.specs.Machine.{Machine, bytes_of}
use Rattle.lu_spec_machine.specs.Objects.{Object, object_size}
use Rattle.lu_spec_machine.specs.Places.{found_at}
use Rattle.lu_spec_machine.proofs.Layouts.{new_layouts}
use Rattle.lu_spec_entries.specs.Words.{Line}
use Rattle.lu_spec_entries.specs.Concerns.{only}
use Rattle.lu_spec_entries.specs.Printed.{printed}
use Rattle.lu_spec_client.specs.Stripes.{object}
use Rattle.lu_spec_target.specs.Lives.{is_life}
use Rattle.lu_proof_lawful.specs.Covered.TargetStates.{evicted_of}
use Rattle.lu_proof_lawful.specs.Covered.TargetCloses.{closing_of}
use Rattle.lu_proof_lawful.specs.Covered.Heads.{Head}
use Rattle.lu_spec_laws.specs.Words.Histories.{machine_of}
use Rattle.lu_proof_lawful.specs.Fits.{Fits}
use Rattle.lu_proof_lawful.proofs.Preconditions.Guards.{NotChanging}
use Rattle.lu_proof_bytes.specs.Object.Words.{Entry, value}
use Rattle.lu_proof_bytes.specs.Object.Folds.{HeldBy, evicted, is_some, pending, dirty, known, reads_at}
use Rattle.lu_proof_bytes.specs.Object.Guards.{EndAt, ShownAt, AllAllowed}
use Rattle.lu_proof_bytes.specs.Object.History.{Item, IsSize, plain, history}
use Rattle.lu_proof_bytes.proofs.Object.Facts.{Outs}
use Rattle.lu_proof_bytes.proofs.Object.World.{world}
use Rattle.lu_proof_objects.proofs.Objects.{object_ends}
use Rattle.lu_proof_bytes.specs.Files.Layouts.{Layout, read_on, IsSizeOn, known_on, WideOn, NarrowOn, StatOn}
use Rattle.lu_proof_bytes.proofs.Files.Striped.{striped, tops_is}
use Rattle.lu_proof_bytes.proofs.Files.Stripes.{Stripe, tops_same, wide_right, narrow_right, stat_right}
use Rattle.lu_proof_lawful.specs.Projection.Stories.{story}
use Rattle.lu_proof_lawful.proofs.Refinement.OneLayout.{CreatedWith}
use Rattle.lu_proof_lawful.proofs.Refinement.Place.{place}
use Rattle.lu_proof_lawful.proofs.Refinement.StoreReads.{stripe_story}
use Rattle.lu_proof_lawful.proofs.Refinement.Stories.{all_tied}
use Rattle.lu_proof_lawful.proofs.Refinement.Tied.{Tied}
use Rattle.lu_proof_lawful.proofs.Laws.Agrees.{OutAs, OfRun, agrees}
use Rattle.lu_proof_lawful.proofs.Laws.BytesKept.{later, kept_for, history_later}
use Rattle.lu_proof_lawful.proofs.Laws.Lasting.{stays_in}
use Rattle.lu_proof_lawful.proofs.Laws.LifeNumbers.{who_of, number_back}
use Rattle.lu_proof_lawful.proofs.Laws.MachineBytes.{byte_in}

-- ---- where the stripes lie

pub lies : (osts : ℕ) (past : List Line) (f : Fid) (l : Raid0) → CreatedWith osts past f l → (i : ℕ) → i < length l.targets
    → slice_index l.targets i ≡ place osts (object f i)
lies osts past f l k i low =
    (new_layouts osts k.deed.reply.txn k.size k.count l k.is).places i low
    ∙ ap (λ (g : Fid). 1 + (g.0 % 4294967296 + i) % osts) k.is_file

-- ---- stories that are the same on the stripes of a layout

known_same : (y : Layout) (a b : ℕ → List Entry) (c p v : ℕ) → ((i : ℕ) → i < y.stripes → a i ≡ b i) → known_on a y c p v
    → known_on b y c p v
known_same y a b c p v same k = subst (λ (h : List Entry). reads_at (pending c h) (dirty c h (y.offset p)) (known c h (y.offset p))
    (y.offset p) ≡ Some v) (same (y.stripe p) (y.low p)) k

wide_same : (y : Layout) (a b : ℕ → List Entry) (c p n : ℕ) (vs : List ℕ) → ((i : ℕ) → i < y.stripes → a i ≡ b i) → WideOn a y c p n vs
    → WideOn b y c p n vs
wide_same y a b c p n vs same u =
    record {
      ends = u.ends;
      locks = λ i low has. subst (λ (h : List Entry). EndAt h c (y.below i p) (u.ends i)) (same i low) (u.locks i low has);
      count = u.count;
      each = λ q v e. ⊎_elim (λ (k : known_on a y c q v). inl (known_same y a b c q v same k)) (λ k. inr k) (u.each q v e);
    }

narrow_same : (y : Layout) (a b : ℕ → List Entry) (c p n : ℕ) (vs : List ℕ) → ((i : ℕ) → i < y.stripes → a i ≡ b i) → NarrowOn a y c p n vs
    → NarrowOn b y c p n vs
narrow_same y a b c p n vs same u =
    record {
      lock = u.lock;
      held = λ q e. subst (λ (h : List Entry). HeldBy h (u.lock q)) (same (y.stripe q) (y.low q)) (u.held q e);
      life = u.life;
      covered = u.covered;
      count = u.count;
      each = λ q v e.
          ⊎_elim (λ (k : known_on a y c q v). inl (known_same y a b c q v same k))
          (λ (k : (z : ℕ) × EndAt (a (y.stripe q)) c (y.offset q) z × (z ≤ y.offset q) × (v ≡ 0)). inr
          (k.0, subst (λ (h : List Entry). EndAt h c (y.offset q) k.0) (same (y.stripe q) (y.low q)) k.1, k.2, k.3)) (u.each q v e);
      final = u.final;
      is_final = u.is_final;
      reached = subst (λ (h : List Entry). ((z : ℕ) × EndAt h c (y.offset u.final) z × (y.offset u.final < z))
          ⊎ ShownAt h c (y.offset u.final)) (same (y.stripe u.final) (y.low u.final)) u.reached;
    }

stat_same : (y : Layout) (a b : ℕ → List Entry) (c z : ℕ) → ((i : ℕ) → i < y.stripes → a i ≡ b i) → StatOn a y c z → StatOn b y c z
stat_same y a b c z same u = record {
  ends = u.ends;
  locks = λ i low. subst (λ (h : List Entry). EndAt h c 0 (u.ends i)) (same i low)
      (u.locks i low);
  size = u.size;
}

-- ---- the bytes of a file

size_one : (m : ℕ → Option ℕ) (a b : ℕ) → IsSize m a → IsSize m b → a ≡ b
size_one m a b p q = by (nat_lt a b) refl (nat_lt b a) refl
  where
    over : (x y : ℕ) → IsSize m x → IsSize m y → x < y → ⊥
    over x zero p q lt = omega (arith, lt)
    over x (suc y) p q lt = q.1 y refl (p.0 y (omega (arith, lt)))

    by : (u : Bool) → nat_lt a b ≡ u → (v : Bool) → nat_lt b a ≡ v → a ≡ b
    by true e v f = absurd (over a b p q (ltb-true a b e))
    by false e true f = absurd (over b a q p (ltb-true b a f))
    by false e false f = let x = ltb-false a b e in let y = ltb-false b a f in omega (arith, x, y)

object_is_size : (o : Object) → IsSize (found_at o) (object_size o)
object_is_size o = (
  λ p le. (object_ends o p).past le,
  λ p e none. absurd
      (let some = (object_ends o p).last e in let no : is_some (found_at o p) ≡ false = ap is_some none in cc),
)

module _ (l : Raid0) (good : IsLayout l) (b : FileBytes) where
  abbrev its_bytes : ℕ → ℕ → Option ℕ
  its_bytes i q = found_at (object_at b i) q

  its_size : (z : ℕ) → IsSizeOn (striped l good) its_bytes z → z ≡ size_of l b
  its_size z k =
      k.2 ∙ tops_same (striped l good) k.0 (λ i. object_size (object_at b i)) (length l.targets)
      (λ i low. size_one (found_at (object_at b i)) (k.0 i) (object_size (object_at b i)) (k.1 i) (object_is_size (object_at b i)))
      ∙ tops_is l good (λ i. object_size (object_at b i))

  value_is : (x : Option ℕ) → value x ≡ unwrap_or x 0
  value_is None = refl
  value_is (Some v) = refl

  read_from : (p a n : ℕ) → read_on (striped l good) its_bytes (p + a) n ≡ map (λ i. unwrap_or (byte_at l b (p + i)) 0) (range_with_len a n)
  read_from p a zero = refl
  read_from p a (suc n) =
      ap (λ (v : ℕ). v ∷ read_on (striped l good) its_bytes (suc (p + a)) n) (value_is (byte_at l b (p + a)))
      ∙ ap (λ (k : ℕ). unwrap_or (byte_at l b (p + a)) 0 ∷ read_on (striped l good) its_bytes k n)
      (let e : suc (p + a) ≡ p + (a + 1) = omega arith in e)
      ∙ ap (λ (vs : List ℕ). unwrap_or (byte_at l b (p + a)) 0 ∷ vs) (read_from p (a + 1) n)

  its_read : (p n : ℕ) (vs : List ℕ) → (z : ℕ) × IsSizeOn (striped l good) its_bytes z
      × (vs ≡ read_on (striped l good) its_bytes p (min n (z - p))) → vs ≡ read l b p n
  its_read p n vs k =
      k.2
      ∙ ap (λ (z : ℕ). read_on (striped l good) its_bytes p (min n (z - p))) (its_size k.0 k.1)
      ∙ ap (λ (j : ℕ). read_on (striped l good) its_bytes j (min n (size_of l b - p))) (let e : p ≡ p + 0 = omega arith in e)
      ∙ read_from p 0 (min n (size_of l b - p))

-- ---- a life that isn't out

module _ (head : Head) (out : Who → Bool) (lost : ℕ → ℕ → Bool) (outs : ℕ → Bool) (of : OutAs out outs) (past : List Line)
    (k : OfRun head past) (f : Fits head.osts out lost past) (quiet : (t : ℕ) → closing_of head.clients (only t past) ≡ [])
    (none : NotChanging past) where
  abbrev machine : Machine
  machine = machine_of out lost head.osts (printed past)

  abbrev home : Resource → ℕ
  home r = place head.osts r

  both : (r : Resource) → AllAllowed (story (place head.osts r) r past) × Tied head (place head.osts r) r past
  both r = all_tied head k.ranges past k.grown k.pins k.heeds k.speaks (place head.osts r) r (omega arith) refl

  all_out : (r : Resource) → Outs outs (story (place head.osts r) r past)
  all_out r n e = sym (ap outs (number_back n)) ∙ of (who_of n) ∙ by (out (who_of n)) refl
    where
      gone : is_life (who_of n) (evicted_of (only (place head.osts r) past)) ≡ true
      gone = sym ((both r).1.target.evicted (who_of n)) ∙ ap (λ (m : ℕ). evicted m (story (place head.osts r) r past)) (number_back n) ∙ e

      by : (b : Bool) → out (who_of n) ≡ b → out (who_of n) ≡ true
      by true q = q
      by false q = absurd (stays_in out (place head.osts r) (who_of n) q head past k.grown f.gone (quiet (place head.osts r)) gone)

  pub its_story : (r : Resource) → Stripe outs (later head.osts lost (place head.osts r) past) (story (place head.osts r) r past)
  its_story r =
      let w = world (story (place head.osts r) r past) (both r).0 in
      record {
        all = w;
        later = w.later outs (later head.osts lost (place head.osts r) past) (all_out r)
            (kept_for head out lost outs of past k.grown f (place head.osts r) r);
        outs = all_out r;
      }

  pub its_byte : (r : Resource) (q : ℕ) → byte_in machine r q ≡ plain
      (history outs (later head.osts lost (place head.osts r) past) (story (place head.osts r) r past)) q
  its_byte r q = sym (agrees head out lost outs of past k f none r q)
      ∙ ap (λ (is : List Item). plain is q) (history_later head out lost outs of past k.grown f (place head.osts r) r)

  module _ (fid : Fid) (l : Raid0) (good : IsLayout l) (places : (i : ℕ) → i < length l.targets → slice_index l.targets i
      ≡ place head.osts (object fid i)) (c : ℕ) (stays : outs c ≡ false) where
    abbrev stories : ℕ → List Entry
    stories i = story (place head.osts (object fid i)) (object fid i) past

    same : (i : ℕ) → i < length l.targets → stripe_story l fid past i ≡ stories i
    same i low = ap (λ (t : ℕ). story t (object fid i) past) (places i low)

    pub wide_read : (p n : ℕ) (vs : List ℕ) → WideOn (stripe_story l fid past) (striped l good) c p n vs → vs
        ≡ read l (bytes_of machine fid) p n
    wide_read p n vs u =
        its_read l good (bytes_of machine fid) p n vs
        (wide_right outs (λ i. later head.osts lost (place head.osts (object fid i)) past) stories (its_bytes l good (bytes_of machine fid))
        (λ i. its_story (object fid i)) (λ i q. its_byte (object fid i) q) (striped l good) c p n vs stays
        (wide_same (striped l good) (stripe_story l fid past) stories c p n vs same u))

    pub narrow_read : (p n : ℕ) (vs : List ℕ) → NarrowOn (stripe_story l fid past) (striped l good) c p n vs → vs
        ≡ read l (bytes_of machine fid) p n
    narrow_read p n vs u =
        its_read l good (bytes_of machine fid) p n vs
        (narrow_right outs (λ i. later head.osts lost (place head.osts (object fid i)) past) stories
        (its_bytes l good (bytes_of machine fid)) (λ i. its_story (object fid i)) (λ i q. its_byte (object fid i) q) (striped l good) c
        p n vs stays
        (narrow_same (striped l good) (stripe_story l fid past) stories c p n vs same u))

    pub stat_read : (z : ℕ) → StatOn (stripe_story l fid past) (striped l good) c z → z ≡ size_of l (bytes_of machine fid)
    stat_read z u =
        its_size l good (bytes_of machine fid) z
        (stat_right outs (λ i. later head.osts lost (place head.osts (object fid i)) past) stories (its_bytes l good (bytes_of machine fid))
        (λ i. its_story (object fid i)) (λ i q. its_byte (object fid i) q) (striped l good) c z stays
        (stat_same (striped l good) (stripe_story l fid past) stories c z same u))
