-- Bytes of a file, one run of an object after another: positions of one unit lie side by side in the object of its stripe.
use Rattle.std.proofs.Common.{◌≡◌, ℕ, zero, suc, ◌+◌, ◌*◌, ◌/◌, ◌%◌, ◌<◌, ◌≤◌, List, [], ◌∷◌, ◌++◌, length, drop, get_or, Option, refl, sym}
use Rattle.std.proofs.Common.{ap, ◌∙◌, arith, append_assoc}
use Rattle.std.proofs.lemmas.Nat.{div-mul-add, mod-mul-add, div-add-mod'}
use Rattle.lu_base.specs.declared.ids.Fid.{Fid}
use Rattle.lu_base.specs.declared.locks.Resource.{Resource}
use Rattle.lu_spec_bytes.specs.Changes.{Bytes}
use Rattle.lu_spec_bytes.specs.Runs.{found_run}
use Rattle.lu_layout.specs.Raid0.{Raid0, stripe_of, offset_of}
use Rattle.lu_spec_client.specs.Caches.{bytes_at, patch_at}
use Rattle.lu_spec_client.specs.Patches.{Patch}
use Rattle.lu_spec_client.specs.States.{Store}
use Rattle.lu_spec_client.specs.Looks.{byte_on, byte_of, content}
use Rattle.lu_spec_client.specs.Stripes.{object}
use Rattle.lu_client_store.specs.Runs.{run_on, seen_at, seen_run}
use Rattle.lu_client_store.proofs.Rests.{dropped}

-- ---- one run of an object

pub seen_more : (p : Patch) (q k b : ℕ) (known : List (Option ℕ)) (d : Option ℕ) (xs zs : List ℕ) → k < length known → b
    ≡ seen_at p (q + k) (get_or known k d) → xs ++ seen_run p (q + k) (drop k known) ≡ zs → (xs ++ b ∷ [])
    ++ seen_run p (q + (k + 1)) (drop (k + 1) known) ≡ zs
seen_more p q k b known d xs zs less is done =
    let next : q + (k + 1) ≡ q + k + 1 = omega arith in
    append_assoc xs (b ∷ []) (seen_run p (q + (k + 1)) (drop (k + 1) known))
    ∙ ap (λ (more : List ℕ). xs ++ more)
    (ap (λ (y : ℕ). y ∷ seen_run p (q + (k + 1)) (drop (k + 1) known)) is
    ∙ ap (λ (r : ℕ). seen_at p (q + k) (get_or known k d) ∷ seen_run p r (drop (k + 1) known)) next
    ∙ ap (λ (left : List (Option ℕ)). seen_run p (q + k) left) (sym (dropped known k d less)))
    ∙ done

pub seen_known : (r : Resource) (s : Store) (q n : ℕ) → seen_run (patch_at r s.patches) q (found_run n (bytes_at r s.bytes) q)
    ≡ run_on r q n s
seen_known r s q zero = refl
seen_known r s q (suc n) = ap (λ (bs : List ℕ). byte_on r q s ∷ bs) (seen_known r s (q + 1) n)

pub found_count : (m : Bytes) (q n : ℕ) → length (found_run n m q) ≡ n
found_count m q zero = refl
found_count m q (suc n) = let rest : length (found_run n m (q + 1)) ≡ n = found_count m (q + 1) n in omega (arith, rest)

-- ---- one unit

moved : (l : Raid0) (p k : ℕ) → p + k ≡ p / l.size * l.size + (p % l.size + k)
moved l p k = let whole : p / l.size * l.size + p % l.size ≡ p = div-add-mod' p l.size in omega (arith, whole)

unit_stays : (l : Raid0) (p k : ℕ) → p % l.size + k < l.size → (p + k) / l.size ≡ p / l.size
unit_stays l p k within = ap (λ (n : ℕ). n / l.size) (moved l p k) ∙ div-mul-add (p / l.size) l.size (p % l.size + k) within

rest_grows : (l : Raid0) (p k : ℕ) → p % l.size + k < l.size → (p + k) % l.size ≡ p % l.size + k
rest_grows l p k within = ap (λ (n : ℕ). n % l.size) (moved l p k) ∙ mod-mul-add (p / l.size) l.size (p % l.size + k) within

stripe_stays : (l : Raid0) (p k : ℕ) → p % l.size + k < l.size → stripe_of l (p + k) ≡ stripe_of l p
unfolding stripe_of
stripe_stays l p k within = ap (λ (u : ℕ). u % length l.targets) (unit_stays l p k within)

offset_grows : (l : Raid0) (p k : ℕ) → p % l.size + k < l.size → offset_of l (p + k) ≡ offset_of l p + k
unfolding offset_of
offset_grows l p k within = rw (unit_stays l p k within, rest_grows l p k within) (omega arith)

module _ (l : Raid0) (fid : Fid) (s : Store) where
  in_unit : (p k : ℕ) → p % l.size + k < l.size → byte_of l fid (p + k) s ≡ byte_on (object fid (stripe_of l p)) (offset_of l p + k) s
  in_unit p k within =
      ap (λ (i : ℕ). byte_on (object fid i) (offset_of l (p + k)) s) (stripe_stays l p k within)
      ∙ ap (λ (q : ℕ). byte_on (object fid (stripe_of l p)) q s) (offset_grows l p k within)

  run_from_here : (p k n : ℕ) → p % l.size + k + n ≤ l.size → content l fid s (p + k) n
      ≡ run_on (object fid (stripe_of l p)) (offset_of l p + k) n s
  run_from_here p k zero within = refl
  run_from_here p k (suc n) within =
      let next : p + k + 1 ≡ p + (k + 1) = omega arith in
      let after : offset_of l p + (k + 1) ≡ offset_of l p + k + 1 = omega arith in
      let more : content l fid s (p + k + 1) n ≡ run_on (object fid (stripe_of l p)) (offset_of l p + k + 1) n s =
      ap (λ (q : ℕ). content l fid s q n) next ∙ run_from_here p (k + 1) n (omega (arith, within))
      ∙ ap (λ (q : ℕ). run_on (object fid (stripe_of l p)) q n s) after in
      ap (λ (b : ℕ). b ∷ content l fid s (p + k + 1) n) (in_unit p k (omega (arith, within)))
      ∙ ap (λ (bs : List ℕ). byte_on (object fid (stripe_of l p)) (offset_of l p + k) s ∷ bs) more

  -- the bytes of a unit are a run of its stripe's object
  pub unit_read : (p n : ℕ) → p % l.size + n ≤ l.size → content l fid s p n ≡ run_on (object fid (stripe_of l p)) (offset_of l p) n s
  unit_read p n within =
      let here : p ≡ p + 0 = omega arith in
      let first : offset_of l p + 0 ≡ offset_of l p = omega arith in
      ap (λ (q : ℕ). content l fid s q n) here
      ∙ run_from_here p 0 n (omega (arith, within))
      ∙ ap (λ (q : ℕ). run_on (object fid (stripe_of l p)) q n s) first

  -- ---- one unit after another

  content_parts : (p q a b n : ℕ) → n ≡ a + b → q ≡ p + a → content l fid s p n ≡ content l fid s p a ++ content l fid s q b
  content_parts p q zero b n count is = ap (λ (m : ℕ). content l fid s p m) (count ∙ omega arith)
      ∙ ap (λ (r : ℕ). content l fid s r b) (sym (is ∙ omega arith))
  content_parts p q (suc a) b zero count is = absurd (omega (arith, count))
  content_parts p q (suc a) b (suc n) count is = ap (λ (bs : List ℕ). byte_of l fid p s ∷ bs)
      (content_parts (p + 1) q a b n (omega (arith, count)) (omega (arith, is)))

  pub content_more : (p done run : ℕ) (before after : List ℕ) → before ≡ content l fid s p done → after ≡ before
      ++ content l fid s (p + done) run → after ≡ content l fid s p (done + run)
  content_more p done run before after is more = more ∙ ap (λ (bs : List ℕ). bs ++ content l fid s (p + done) run) is
      ∙ sym (content_parts p (p + done) done run (done + run) refl refl)
