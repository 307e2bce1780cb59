-- What a client's own line makes of its held locks, of the sizes that it has noted and of what it owes: what is owed is shown first to
-- last, and a
-- change that it made below the range of a lock changes nothing of a size from there on.
use Rattle.std.proofs.Common.{◌≡◌, ℕ, ◌+◌, ◌-◌, ◌<◌, ◌≤◌, Bool, true, false, List, [], ◌∷◌, length, ◌⊎◌, inl, inr, ⊎_elim, refl, sym, subst}
use Rattle.std.proofs.Common.{ap, ◌∙◌, arith}
use Rattle.std.specs.Prelude.{nat_eq, nat_lt, nat_le, max, if◌then◌else◌}
use Rattle.std.proofs.lemmas.Bool.{and_parts, leb-true}
use Rattle.std.proofs.lemmas.Bool.Decides.{nat_tests}
use Rattle.lu_base.specs.declared.ids.Node.TheVariants.{Client}
use Rattle.lu_base.specs.declared.ids.Stamp.{Stamp}
use Rattle.lu_base.specs.declared.locks.Extent.{Extent}
use Rattle.lu_lock.specs.Growth.{the_end}
use Rattle.lu_lock.specs.Overlap.{extents_meet}
use Rattle.lu_spec_entries.specs.declared.changes.Flush.{Flush}
use Rattle.lu_spec_entries.specs.declared.changes.Flush.TheVariants as flush
use Rattle.lu_spec_entries.specs.Words.{Entry, Heard, Hold, Learns, Acks, Fills, Zeroes, Grown, Shows, Line, line}
use Rattle.lu_spec_target.specs.Objects.{lies_in, put_extent, cut_extent}
use Rattle.lu_spec_client.specs.Caches.{grown, held_at, held_after, sizes_at, sizes_after}
use Rattle.lu_spec_client.specs.States.{Client as ClientState}
use Rattle.lu_proof_lawful.specs.Covered.Heads.{Head}
use Rattle.lu_proof_lawful.proofs.Preconditions.Guards.{In}
use Rattle.lu_proof_lawful.proofs.Preconditions.HeedMarks.{marks_left, owed_of}
use Rattle.lu_proof_lawful.proofs.Preconditions.Heeds.{AllOwed, IsOwed, HeedsNext, owed_all}
use Rattle.lu_proof_lawful.proofs.Preconditions.Lists.{self, turn}
use Rattle.lu_proof_objects.specs.Alike.{IsRange}
use Rattle.lu_proof_lawful.proofs.Laws.SoundLines.{state_is}

-- ---- an own line

module _ (head : Head) (past : List Line) (stamp : Stamp) (c : ℕ) (e : Entry) where
  abbrev new : List Line
  new = line (turn stamp (Client c)) e ∷ past

  pub held_is : held_at c new ≡ held_after (held_at c past) e
  held_is = ap (λ (k : ClientState). k.store.held) (state_is head past stamp c e)

  pub sizes_is : sizes_at c new ≡ sizes_after (sizes_at c past) e
  sizes_is = ap (λ (k : ClientState). k.store.sizes) (state_is head past stamp c e)

  -- what was owed is shown now, or owed still
  pub owed_or : HeedsNext c past (line (turn stamp (Client c)) e) → (x : Entry) → In x (owed_of c past) → (e ≡ x) ⊎ In x (owed_of c new)
  owed_or next x i = by (owed_of c past) refl (owed_all c past) i
    where
      left : (es : List Entry) → (y : Entry) (more : List Entry) → es ≡ y ∷ more → In x more
          → In x (if nat_eq c c then marks_left es else es)
      left es y more q i = subst (λ (b : Bool). In x (if b then marks_left es else es)) (sym (self c))
          (subst (λ (zs : List Entry). In x (marks_left zs)) (sym q) i)

      pops : (a : Entry) (y : Entry) (more : List Entry) → owed_of c past ≡ y ∷ more → IsOwed a → In x more
          → In x (owed_of c (line (turn stamp (Client c)) a ∷ past))
      pops (Hold t lock marked size seen) y more q o i = left (owed_of c past) y more q i
      pops (Learns t op answer locks) y more q o i = left (owed_of c past) y more q i
      pops (Acks resource) y more q o i = left (owed_of c past) y more q i
      pops (Fills resource offset bytes) y more q o i = left (owed_of c past) y more q i
      pops (Zeroes resource size) y more q o i = left (owed_of c past) y more q i
      pops (Grown resource change) y more q o i = left (owed_of c past) y more q i
      pops (Shows resource cookie last) y more q o i = left (owed_of c past) y more q i
      pops a y more q o i = absurd o

      by : (es : List Entry) → owed_of c past ≡ es → AllOwed es → In x es → (e ≡ x)
          ⊎ In x (owed_of c (line (turn stamp (Client c)) e ∷ past))
      by [] q all i = absurd i
      by (y ∷ more) q all (inl s) = inl ((next y more q).1 ∙ s)
      by (y ∷ more) q all (inr j) = inr (pops e y more q (subst IsOwed (sym (next y more q).1) all.0) j)

  pub owed_keep : HeedsNext c past (line (turn stamp (Client c)) e) → (x : Entry) → (e ≡ x → ⊥) → In x (owed_of c past)
      → In x (owed_of c new)
  owed_keep next x other i = ⊎_elim (λ (q : e ≡ x). absurd (other q)) (λ (j : In x (owed_of c new)). j) (owed_or next x i)

-- what is owed after a line that isn't an answer was owed before
abbrev pub IsHeard : Entry → Type 0
IsHeard (Heard t f r) = Unit {0}
IsHeard _ = ⊥

pub owed_back : (past : List Line) (stamp : Stamp) (c : ℕ) (e : Entry) → (IsHeard e → ⊥) → (x : Entry)
    → In x (owed_of c (line (turn stamp (Client c)) e ∷ past)) → In x (owed_of c past)
owed_back past stamp c e other x i = by e other i
  where
    in_left : (es : List Entry) → In x (marks_left es) → In x es
    in_left [] i = i
    in_left (y ∷ es) i = inr i

    left : In x (if nat_eq c c then marks_left (owed_of c past) else owed_of c past) → In x (owed_of c past)
    left i = in_left (owed_of c past) (subst (λ (b : Bool). In x (if b then marks_left (owed_of c past) else owed_of c past)) (self c) i)

    by : (e : Entry) → (IsHeard e → ⊥) → In x (owed_of c (line (turn stamp (Client c)) e ∷ past)) → In x (owed_of c past)
    by (Heard t f r) other i = absurd (other tt)
    by (Hold t lock marked size seen) other i = left i
    by (Learns t op answer locks) other i = left i
    by (Acks resource) other i = left i
    by (Fills resource offset bytes) other i = left i
    by (Zeroes resource size) other i = left i
    by (Grown resource change) other i = left i
    by (Shows resource cookie last) other i = left i
    by e other i = i

-- ---- a change below a range

-- the change lies in the range
abbrev pub Lies : Flush → Extent → Type 0
Lies (flush.Put at bytes) y = lies_in (put_extent at bytes) y ≡ true
Lies (flush.Cut n) y = lies_in (cut_extent n) y ≡ true

lower : (x y : Extent) → IsRange x → IsRange y → x.last ≡ the_end → extents_meet y x ≡ false → y.last < x.first
lower x y ix iy ends meet =
    let a = ix.0 in let b = ix.1 in let c = iy.0 in let d = iy.1 in
    grind (arith, nat_tests, a, b, c, d, ends, meet)

-- it leaves where a size is from the first position of another one to the end on that doesn't meet it
pub below_same : (change : Flush) (x y : Extent) → Lies change y → IsRange x → IsRange y → x.last ≡ the_end → extents_meet y x ≡ false
    → (p m : ℕ) → x.first ≤ p → nat_lt p (grown change m) ≡ nat_lt p m
below_same (flush.Put at bytes) x y lies ix iy ends meet p m le = of (lower x y ix iy ends meet)
  where
    of : y.last < x.first → nat_lt p (max m (at + length bytes)) ≡ nat_lt p m
    of low =
        let q = and_parts (nat_le y.first at) (nat_le (at + length bytes - 1) y.last) lies in
        let top = leb-true (at + length bytes - 1) y.last q.1 in
        grind (arith, nat_tests, low, top, le)
below_same (flush.Cut n) x y lies ix iy ends meet p m le =
    let low = lower x y ix iy ends meet in
    let q = leb-true the_end y.last (and_parts (nat_le y.first (max n 1 - 1)) (nat_le the_end y.last) lies).1 in
    let a = ix.0 in
    absurd (omega (arith, low, q, a, ends))
