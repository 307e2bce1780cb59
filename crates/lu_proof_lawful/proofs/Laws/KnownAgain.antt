-- A read that begins where its offsets are known, with no lock to write held, misses no page under the locks that it finds; and it reaches
-- its last
-- offset, where that is known to be reached.
use Rattle.std.proofs.Common.{◌≡◌, ℕ, ◌+◌, ◌-◌, ◌<◌, ◌≤◌, true, false, List, [], ◌∷◌, length, Option, Some, None, inl, inr, ⊎_elim, refl}
use Rattle.std.proofs.Common.{sym, subst, ap, ◌∙◌, arith}
use Rattle.std.specs.Prelude.{map, ◌^◌}
use Rattle.lu_base.specs.declared.ids.Fid.{Fid}
use Rattle.lu_base.specs.declared.locks.Extent.{Extent}
use Rattle.lu_base.specs.declared.locks.Lock.{Lock}
use Rattle.lu_base.specs.declared.locks.Mode.{Mode}
use Rattle.lu_base.specs.declared.locks.Mode.TheVariants.{PR, PW}
use Rattle.lu_base.specs.declared.locks.Policy.TheVariants.{Range}
use Rattle.lu_layout.specs.Raid0.{Raid0, stripe_of}
use Rattle.lu_layout.specs.Sound.{IsLayout}
use Rattle.lu_layout.proofs.Places.{stripe_of-lt}
use Rattle.lu_lock.specs.Growth.{the_end}
use Rattle.lu_lock.specs.Overlap.{covers}
use Rattle.lu_held.specs.declared.locks.HeldLock.{HeldLock}
use Rattle.lu_held.specs.declared.locks.Use.{Use}
use Rattle.lu_spec_entries.specs.declared.uses.Using.{Using}
use Rattle.lu_spec_entries.specs.Carried.{Stage, Plain, Came, Running}
use Rattle.lu_spec_entries.specs.Words.{Line}
use Rattle.lu_spec_client.specs.Caches.{held_at}
use Rattle.lu_spec_client.specs.Looks.{Page, missing, has_reached}
use Rattle.lu_spec_client.specs.Patches.{to_end}
use Rattle.lu_spec_client.specs.States.{store_at}
use Rattle.lu_spec_client.specs.Stripes.{below_on, stripes}
use Rattle.lu_spec_client.specs.Wants.{want, wants_run, wants_rest}
use Rattle.lu_proof_lawful.specs.Covered.Calls.{life_at}
use Rattle.lu_proof_lawful.specs.Covered.Heads.{Head, IsHead}
use Rattle.lu_proof_lawful.proofs.Preconditions.CallGuards.{LockDoes, CameFor, HeldFor, UsesHeld, used_in}
use Rattle.lu_proof_lawful.proofs.Preconditions.Grown.{Grown}
use Rattle.lu_proof_lawful.proofs.Preconditions.Guards.{In}
use Rattle.lu_proof_lawful.proofs.Preconditions.HeedMarks.{owed_of}
use Rattle.lu_proof_lawful.proofs.Preconditions.Heeds.{AllHeed}
use Rattle.lu_proof_lawful.proofs.Preconditions.PinsFit.{PinsFit}
use Rattle.lu_proof_lawful.proofs.Preconditions.Speaks.{AllSpeak}
use Rattle.lu_proof_lawful.proofs.Invariants.TargetGroups.{IsKind}
use Rattle.lu_proof_objects.proofs.Pieces.{stripe_there, below_is, below_low, offset_within, run_wanted, rest_wanted}
use Rattle.lu_proof_lawful.specs.Projection.Lives.{is_over}
use Rattle.lu_proof_lawful.proofs.Refinement.ChangesFound.{range_covers}
use Rattle.lu_proof_lawful.proofs.Laws.KnownLooks.{UseOn, Now, Free, GoesFirst, none_misses, reached_again}
use Rattle.lu_proof_lawful.proofs.Laws.KnownPlaces.{PlacesOf, LastOf}
use Rattle.lu_proof_lawful.proofs.Laws.SoundLocks.{held_kind_is, to_client}

module _ (head : Head) (ranges : IsHead head) (past : List Line) (g : Grown head past) (fit : PinsFit past) (heeds : AllHeed past)
    (speaks : AllSpeak past) (c : ℕ) (alive : is_over c (life_at c past) past ≡ false) (owed : owed_of c past ≡ [])
    (no_write : (h : HeldLock) → In h (held_at c past) → h.lock.ask.mode ≡ PW → ⊥) (r : Running) (plain : r.stage ≡ Plain) (y : Raid0)
    (good : IsLayout y) (fid : Fid) (p n : ℕ) (limit : p + n ≤ 2 ^ 40) (us : List Using) (uses : UsesHeld c past r us) where
  held_now : (u : Using) → In u us → HeldFor c past r u
  held_now u i = ⊎_elim (λ (j : In u (used_in r.stage)). absurd (subst (λ (s : Stage). In u (used_in s)) plain j))
      (λ (k : HeldFor c past r u). k) (uses u i)

  not_came : (u : Using) → CameFor r u → ⊥
  not_came u k = let e : Came k.0 u.lock ≡ Plain = sym k.2 ∙ plain in cc

  pub goes_first : (u : Using) → In u us → GoesFirst head ranges past g fit heeds speaks c alive owed no_write u
  goes_first u i = ⊎_elim (λ k. k.1) (λ (k : CameFor r u). absurd (not_came u k)) (held_now u i).apart

  reading : (m : Mode) (x : Extent) → IsKind m (Range x) → (m ≡ PW → ⊥) → m ≡ PR
  reading m x k never = ⊎_elim (λ (e : m ≡ PR). e) (λ (e : m ≡ PW). absurd (never e)) k.2

  use_on : (u : Using) → In u us → (i : ℕ) → i < length y.targets → (x : Extent) → x.first ≡ below_on y i p → x.last ≤ the_end → u.want
      ≡ want y fid PR i x → UseOn (Now head ranges past g fit heeds speaks c alive owed no_write) y fid p u
  use_on u j i here x from limited is =
      let k = held_now u j in
      let h = k.locked.holding in
      let does = ⊎_elim (λ (d : LockDoes u). d.1) (λ (e : CameFor r u). absurd (not_came u e)) k.does in
      let over = range_covers u.lock.ask.policy x (ap (λ (v : Use). covers u.lock.ask.policy v.policy) (sym is) ∙ does) in
      let kind : IsKind h.lock.ask.mode (Range over.0) = subst (IsKind h.lock.ask.mode) (ap (λ (l : Lock). l.ask.policy) k.is ∙ over.1)
      (held_kind_is head past g c h k.locked.held) in
      record {
        stripe = i;
        here = here;
        of_target = ap (λ (v : Use). v.target.0) is;
        of_object = ap (λ (v : Use). v.resource) is;
        mode = ap (λ (v : Use). v.mode) is;
        wanted = x;
        policy = ap (λ (v : Use). v.policy) is;
        from = from;
        limited = limited;
        extent = over.0;
        lock = record {
          is = (h, k.locked.held, k.locked.of_target ∙ ap (λ (v : Use). v.target.0) is, k.is);
          of_object = ap (λ (l : Lock). l.resource) (sym k.is) ∙ k.locked.of_object ∙ ap (λ (v : Use). v.resource) is;
          mode = ap (λ (l : Lock). l.ask.mode) (sym k.is) ∙ reading h.lock.ask.mode over.0 kind (no_write h k.locked.held);
          range = over.1;
        };
        low = over.2;
      }

  mapped : (u : Using) (vs : List Using) → In u vs → In u.want (map (λ (v : Using). v.want) vs)
  mapped u [] i = absurd i
  mapped u (v ∷ vs) (inl e) = inl (ap (λ (x : Using). x.want) e)
  mapped u (v ∷ vs) (inr i) = inr (mapped u vs i)

  run_uses : wants_run y fid PR p (p + n) (stripes y) ≡ map (λ (u : Using). u.want) us → (u : Using) → In u us
      → UseOn (Now head ranges past g fit heeds speaks c alive owed no_write) y fid p u
  run_uses same u i =
      let wanted : In u.want (wants_run y fid PR p (p + n) (stripes y)) = subst (λ (ws : List Use). In u.want ws) (sym same) (mapped u us i)
      in
      let k = run_wanted y fid PR p (p + n) (stripes y) u.want (to_client u.want (wants_run y fid PR p (p + n) (stripes y)) wanted) in
      let here = stripe_there y k.0 k.1 in
      use_on u i k.0 here (record { first = below_on y k.0 p; last = below_on y k.0 (p + n) - 1 }) refl
      (let a = below_is y k.0 (p + n) good here in let b = below_low y k.0 (p + n) in omega (arith, a, b, limit))
      (sym k.3)

  rest_uses : wants_rest y fid p (stripes y) ≡ map (λ (u : Using). u.want) us → (u : Using) → In u us
      → UseOn (Now head ranges past g fit heeds speaks c alive owed no_write) y fid p u
  rest_uses same u i =
      let wanted : In u.want (wants_rest y fid p (stripes y)) = subst (λ (ws : List Use). In u.want ws) (sym same) (mapped u us i) in
      let k = rest_wanted y fid p (stripes y) u.want (to_client u.want (wants_rest y fid p (stripes y)) wanted) in
      use_on u i k.0 (stripe_there y k.0 k.1) (to_end (below_on y k.0 p)) refl (omega arith) (sym k.2)

  has_all : PlacesOf (Free head ranges past g fit heeds speaks c alive owed no_write) c past y fid p n
      → ((u : Using) → In u us → UseOn (Now head ranges past g fit heeds speaks c alive owed no_write) y fid p u)
      → missing y p (p + n) (store_at c past) us ≡ None
  has_all places on = by (missing y p (p + n) (store_at c past) us) refl
    where
      by : (o : Option Page) → missing y p (p + n) (store_at c past) us ≡ o → o ≡ None
      by None e = refl
      by (Some page) e = absurd (none_misses head ranges past g fit heeds speaks c alive owed no_write y fid p n us page places on
          goes_first e)

  pub narrow_has : PlacesOf (Free head ranges past g fit heeds speaks c alive owed no_write) c past y fid p n
      → wants_run y fid PR p (p + n) (stripes y) ≡ map (λ (u : Using). u.want) us → missing y p (p + n) (store_at c past) us ≡ None
  narrow_has places same = has_all places (run_uses same)

  pub wide_has : PlacesOf (Free head ranges past g fit heeds speaks c alive owed no_write) c past y fid p n → wants_rest y fid p (stripes y)
      ≡ map (λ (u : Using). u.want) us → missing y p (p + n) (store_at c past) us ≡ None
  wide_has places same = has_all places (rest_uses same)

  pub narrow_reached : LastOf (Free head ranges past g fit heeds speaks c alive owed no_write) c past y fid p (p + n - 1) → 0 < n
      → wants_run y fid PR p (p + n) (stripes y) ≡ map (λ (u : Using). u.want) us
      → (u : Using) → In u us → u.want.resource.stripe ≡ stripe_of y (p + n - 1) → has_reached y (p + n - 1) us (store_at c past) ≡ true
  narrow_reached last some same u i on =
      reached_again head ranges past g fit heeds speaks c alive owed no_write y fid p (p + n - 1) us last
      (offset_within y (stripe_of y (p + n - 1)) p n (p + n - 1) good (stripe_of-lt y (p + n - 1) good) (omega (arith, some))
      (omega (arith, some)) refl).0
      (run_uses same) goes_first u i on
