-- Bytes of a file, one unit after another: positions of one unit lie side by side in the object of its stripe.
use Rattle.std.proofs.Common.{◌≡◌, ℕ, zero, suc, ◌+◌, ◌-◌, ◌*◌, ◌/◌, ◌%◌, ◌<◌, ◌≤◌, min, List, [], ◌∷◌, ◌++◌, length, refl, sym, ap, ◌∙◌}
use Rattle.std.proofs.Common.{arith}
use Rattle.std.specs.Prelude.{map}
use Rattle.std.specs.List.{range_with_len}
use Rattle.std.specs.Option.{unwrap_or}
use Rattle.std.specs.Ordering.{ord_min, nat_cmp}
use Rattle.std.proofs.lemmas.Nat.{div-mul-add, mod-mul-add, div-add-mod'}
use Rattle.lu_base.specs.declared.ids.Fid.{Fid}
use Rattle.lu_base.specs.declared.locks.Resource.{Resource}
use Rattle.lu_layout.specs.Raid0.{Raid0, stripe_of, offset_of, file_size_of}
use Rattle.lu_spec_machine.specs.Bytes.{FileBytes, object_at, byte_at, size_of, read}
use Rattle.lu_spec_machine.specs.Objects.{Object, object_size}
use Rattle.lu_spec_machine.specs.Places.{found_at}
use Rattle.lu_service.specs.Contents.{object_in}
use Rattle.lu_posix.specs.Files.{object, run_in, byte_in, file_run, size_in, ShowsFile}

-- ---- one unit

moved : (l : Raid0) (p k : ℕ) → p + k ≡ p / l.size * l.size + (p % l.size + k)
moved l p k = let whole : p / l.size * l.size + p % l.size ≡ p = div-add-mod' p l.size in omega (arith, whole)

unit_stays : (l : Raid0) (p k : ℕ) → p % l.size + k < l.size → (p + k) / l.size ≡ p / l.size
unit_stays l p k within = ap (λ (n : ℕ). n / l.size) (moved l p k) ∙ div-mul-add (p / l.size) l.size (p % l.size + k) within

rest_grows : (l : Raid0) (p k : ℕ) → p % l.size + k < l.size → (p + k) % l.size ≡ p % l.size + k
rest_grows l p k within = ap (λ (n : ℕ). n % l.size) (moved l p k) ∙ mod-mul-add (p / l.size) l.size (p % l.size + k) within

pub stripe_stays : (l : Raid0) (p k : ℕ) → p % l.size + k < l.size → stripe_of l (p + k) ≡ stripe_of l p
unfolding stripe_of
stripe_stays l p k within = ap (λ (u : ℕ). u % length l.targets) (unit_stays l p k within)

pub offset_grows : (l : Raid0) (p k : ℕ) → p % l.size + k < l.size → offset_of l (p + k) ≡ offset_of l p + k
unfolding offset_of
offset_grows l p k within = rw (unit_stays l p k within, rest_grows l p k within) (omega arith)

-- ---- what is read

module _ (l : Raid0) (fid : Fid) (objects : List (Resource × Object)) where
  abbrev on : ℕ → Object
  on stripe = object_in objects (object fid stripe)

  in_unit : (p k : ℕ) → p % l.size + k < l.size → byte_in l fid objects (p + k)
      ≡ unwrap_or (found_at (on (stripe_of l p)) (offset_of l p + k)) 0
  in_unit p k within =
      ap (λ (i : ℕ). unwrap_or (found_at (on i) (offset_of l (p + k))) 0) (stripe_stays l p k within)
      ∙ ap (λ (q : ℕ). unwrap_or (found_at (on (stripe_of l p)) q) 0) (offset_grows l p k within)

  run_from_here : (p k n : ℕ) → p % l.size + k + n ≤ l.size → file_run l fid objects (p + k) n
      ≡ run_in (on (stripe_of l p)) (offset_of l p + k) n
  run_from_here p k zero within = refl
  run_from_here p k (suc n) within =
      let next : p + k + 1 ≡ p + (k + 1) = omega arith in
      let after : offset_of l p + (k + 1) ≡ offset_of l p + k + 1 = omega arith in
      let more : file_run l fid objects (p + k + 1) n ≡ run_in (on (stripe_of l p)) (offset_of l p + k + 1) n =
      ap (λ (q : ℕ). file_run l fid objects q n) next ∙ run_from_here p (k + 1) n (omega (arith, within))
      ∙ ap (λ (q : ℕ). run_in (on (stripe_of l p)) q n) after in
      ap (λ (b : ℕ). b ∷ file_run l fid objects (p + k + 1) n) (in_unit p k (omega (arith, within)))
      ∙ ap (λ (bs : List ℕ). unwrap_or (found_at (on (stripe_of l p)) (offset_of l p + k)) 0 ∷ bs) more

  -- the bytes of a unit are a run of its stripe's object
  pub unit_read : (p n stripe offset : ℕ) → p % l.size + n ≤ l.size → stripe ≡ stripe_of l p → offset ≡ offset_of l p
      → run_in (object_in objects (object fid stripe)) offset n ≡ file_run l fid objects p n
  unit_read p n stripe offset within s o =
      let here : p ≡ p + 0 = omega arith in
      let first : offset_of l p + 0 ≡ offset_of l p = omega arith in
      ap (λ (i : ℕ). run_in (on i) offset n) s
      ∙ ap (λ (q : ℕ). run_in (on (stripe_of l p)) q n) (o ∙ sym first)
      ∙ sym (run_from_here p 0 n (omega (arith, within)))
      ∙ ap (λ (q : ℕ). file_run l fid objects q n) (sym here)

  -- ---- one unit after another

  file_parts : (p q a b n : ℕ) → n ≡ a + b → q ≡ p + a → file_run l fid objects p n ≡ file_run l fid objects p a
      ++ file_run l fid objects q b
  file_parts p q zero b n count is = ap (λ (m : ℕ). file_run l fid objects p m) (count ∙ omega arith)
      ∙ ap (λ (r : ℕ). file_run l fid objects r b) (sym (is ∙ omega arith))
  file_parts p q (suc a) b zero count is = absurd (omega (arith, count))
  file_parts p q (suc a) b (suc n) count is = ap (λ (bs : List ℕ). byte_in l fid objects p ∷ bs)
      (file_parts (p + 1) q a b n (omega (arith, count)) (omega (arith, is)))

  pub file_more : (p done run : ℕ) (before after : List ℕ) → before ≡ file_run l fid objects p done → after ≡ before
      ++ file_run l fid objects (p + done) run → after ≡ file_run l fid objects p (done + run)
  file_more p done run before after is more = more ∙ ap (λ (bs : List ℕ). bs ++ file_run l fid objects (p + done) run) is
      ∙ sym (file_parts p (p + done) done run (done + run) refl refl)

-- ---- against the plain machine

pub least : (a b : ℕ) → ord_min nat_cmp a b ≡ min a b
least a b = grind arith

map_alike : (f g : ℕ → ℕ) → ((i : ℕ) → f i ≡ g i) → (xs : List ℕ) → map f xs ≡ map g xs
map_alike f g same [] = refl
map_alike f g same (x ∷ xs) = ap (λ (y : ℕ). y ∷ map f xs) (same x) ∙ ap (λ (ys : List ℕ). g x ∷ ys) (map_alike f g same xs)

module _ (objects : List (Resource × Object)) (fid : Fid) (file : FileBytes) (shows : ShowsFile objects fid file) (l : Raid0) where
  pub size_shown : size_in objects fid l ≡ size_of l file
  size_shown =
      ap (λ (sizes : List ℕ). file_size_of l sizes)
      (map_alike (λ stripe. object_size (object_in objects (object fid stripe))) (λ stripe. object_size (object_at file stripe))
      (λ stripe. ap (λ (o : Object). object_size o) (shows stripe)) (range_with_len 0 (length l.targets)))

  abbrev shown_byte : ℕ → ℕ
  shown_byte q = unwrap_or (byte_at l file q) 0

  byte_shown : (q : ℕ) → byte_in l fid objects q ≡ shown_byte q
  byte_shown q = ap (λ (o : Object). unwrap_or (found_at o (offset_of l q)) 0) (shows (stripe_of l q))

  run_shown : (p k n : ℕ) → file_run l fid objects (p + k) n ≡ map (λ i. shown_byte (p + i)) (range_with_len k n)
  run_shown p k zero = refl
  run_shown p k (suc n) =
      let next : p + k + 1 ≡ p + (k + 1) = omega arith in
      ap (λ (b : ℕ). b ∷ file_run l fid objects (p + k + 1) n) (byte_shown (p + k))
      ∙ ap (λ (bs : List ℕ). shown_byte (p + k) ∷ bs) (ap (λ (q : ℕ). file_run l fid objects q n) next ∙ run_shown p (k + 1) n)

  pub read_shown : (p count : ℕ) → file_run l fid objects p (min count (size_in objects fid l - p)) ≡ read l file p count
  read_shown p count =
      let here : p ≡ p + 0 = omega arith in
      ap (λ (n : ℕ). file_run l fid objects p (min count (n - p))) size_shown
      ∙ ap (λ (q : ℕ). file_run l fid objects q (min count (size_of l file - p))) here
      ∙ run_shown p 0 (min count (size_of l file - p))
