-- Where not too much is dirty, only the locks that are marked and not pinned are visited.
use Rattle.std.proofs.Common.{◌≡◌, Bool, true, false, List, [], ◌∷◌, ◌++◌, filter, cond, refl, ap, ◌∙◌}
use Rattle.lu_base.specs.declared.locks.Mode.{Mode}
use Rattle.lu_base.specs.declared.locks.Mode.TheVariants.{EX, PW, PR, CW, CR, NL}
use Rattle.lu_base.specs.declared.locks.Policy.{Policy}
use Rattle.lu_base.specs.declared.locks.Policy.TheVariants.{Bits, Range}
use Rattle.lu_held.specs.declared.locks.HeldLock.{HeldLock}
use Rattle.lu_spec_entries.specs.Words.{Entry}
use Rattle.lu_spec_client.specs.Patches.{Patch}
use Rattle.lu_spec_client.specs.Caches.{patch_at}
use Rattle.lu_spec_client.specs.Locks.{is_called, must_write, visits, visits_all}
use Rattle.lu_spec_client.specs.States.{Client, turn}

needs_none : (h : HeldLock) (mode : Mode) (policy : Policy) (p : Patch) → is_called h ≡ false → must_write false h mode policy p ≡ false
needs_none h PW (Range extent) p out = rw out refl
needs_none h PW (Bits bits) p out = refl
needs_none h EX policy p out = refl
needs_none h PR policy p out = refl
needs_none h CW policy p out = refl
needs_none h CR policy p out = refl
needs_none h NL policy p out = refl

visits_none : (h : HeldLock) (k : Client) → is_called h ≡ false → visits false h k ≡ []
visits_none h k out =
    let clean : must_write false h h.lock.ask.mode h.lock.ask.policy (patch_at h.lock.resource k.store.patches) ≡ false =
    needs_none h h.lock.ask.mode h.lock.ask.policy (patch_at h.lock.resource k.store.patches) out in
    rw (clean, out) refl

pub visits_ready : (held : List HeldLock) (k : Client) → visits_all false held k ≡ visits_all false (filter is_called held) k
visits_ready [] k = refl
visits_ready (h ∷ held) k = by (is_called h) refl (visits_ready held) where
  by : (called : Bool) → is_called h ≡ called → ((j : Client) → visits_all false held j ≡ visits_all false (filter is_called held) j)
      → visits_all false (h ∷ held) k ≡ visits_all false (cond called (h ∷ filter is_called held) (filter is_called held)) k
  by true e rest = ap (λ (more : List Entry). visits false h k ++ more) (rest (turn k (visits false h k)))
  by false e rest = ap (λ (es : List Entry). es ++ visits_all false held (turn k es)) (visits_none h k e) ∙ rest k
