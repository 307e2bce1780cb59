-- What a client knows of a read that it was told: under locks that it holds it knows each byte, or that it lies past the end, and that it
-- reached.
use Rattle.std.proofs.Common.{◌≡◌, ℕ, ◌+◌, ◌-◌, ◌<◌, ◌≤◌, false, List, ◌∷◌, ◌⊎◌, inl, inr, ⊎_elim, Some, refl}
use Rattle.std.specs.Prelude.{◌^◌}
use Rattle.lu_base.specs.declared.locks.Lock.{Lock}
use Rattle.lu_base.specs.declared.locks.Mode.TheVariants.{PW}
use Rattle.lu_layout.specs.Sound.{IsLayout}
use Rattle.lu_msg.specs.declared.calls.Call.{Call}
use Rattle.lu_msg.specs.declared.calls.Call.TheVariants as call
use Rattle.lu_spec_machine.specs.Tree.{no_file}
use Rattle.lu_held.specs.declared.locks.HeldLock.{HeldLock}
use Rattle.lu_held.specs.declared.locks.Use.{Use}
use Rattle.lu_held.specs.Locks.{name_of}
use Rattle.lu_spec_entries.specs.Carried.{HandleFile, Narrow, Wide}
use Rattle.lu_spec_entries.specs.Words.{Line}
use Rattle.lu_spec_client.specs.Caches.{held_at}
use Rattle.lu_spec_client.specs.Wants.{wants_of}
use Rattle.lu_proof_lawful.specs.Covered.Calls.{file_at}
use Rattle.lu_proof_lawful.proofs.Preconditions.Guards.{In, came_marked}
use Rattle.lu_proof_lawful.proofs.Laws.KnownPlaces.{Locks, ServedOf, PlacesOf, LastOf, served_stay, places_stay, reached_stays}
use Rattle.lu_proof_lawful.proofs.Laws.SilentHeld.{gives_up}

-- it holds no lock to write under
abbrev pub NoWrites : ℕ → List Line → Type 0
NoWrites c past = (h : HeldLock) → In h (held_at c past) → h.lock.ask.mode ≡ PW → ⊥

-- a held lock isn't called back, or no call uses it; and it didn't come called back
abbrev pub Unmarked : ℕ → List Line → HeldLock → Type 0
Unmarked c past h = ((h.marked ≡ false) ⊎ (h.pins ≡ 0)) × (came_marked c (name_of h) past ≡ false)

-- such held locks, and those that aren't called back
abbrev pub Lasting : ℕ → List Line → Locks
Lasting c past t k = (h : HeldLock) × In h (held_at c past) × (h.target.0 ≡ t) × (h.lock ≡ k) × Unmarked c past h

abbrev pub Free : ℕ → List Line → Locks
Free c past t k = (h : HeldLock) × In h (held_at c past) × (h.target.0 ≡ t) × (h.lock ≡ k) × (h.marked ≡ false)

-- of a read of n positions from p on, on a handle that is bound to a file
pub record ReadBy (L : Locks) (c : ℕ) (past : List Line) (h p n : ℕ) : Type 0 where
  pub file : HandleFile
  pub bound : file_at c h past ≡ Some file
  pub good : (file.layout ≡ no_file.layout) ⊎ IsLayout file.layout
  pub some : 0 < n
  pub limit : p + n ≤ 2 ^ 40
  pub places : PlacesOf L c past file.layout file.fid p n
  pub served : (w : Use) → In w (wants_of file.layout file.fid (Narrow p n)) → ServedOf L w
  pub last : LastOf L c past file.layout file.fid p (p + n - 1)
      ⊎ ((w : Use) → In w (wants_of file.layout file.fid (Wide p n)) → ServedOf L w)

-- of another call nothing more is asked
abbrev pub KnownRead : Locks → ℕ → List Line → Call → Type 0
KnownRead L c past (call.Read h p n) = ReadBy L c past h p n
KnownRead L c past _ = Unit {0}

-- it stays, while the locks and the handle's file do
pub read_stays : (L M : Locks) (c : ℕ) (l : Line) (past : List Line) → ((t : ℕ) (k : Lock) → L t k → M t k) → gives_up c l.at.node l.entry
    ≡ false → (k : Call)
    → ((h p n : ℕ) (f : HandleFile) → k ≡ call.Read h p n → file_at c h past ≡ Some f → file_at c h (l ∷ past) ≡ Some f)
    → KnownRead L c past k → KnownRead M c (l ∷ past) k
read_stays L M c l past more stays (call.Read h p n) files k =
    record {
      file = k.file;
      bound = files h p n k.file refl k.bound;
      good = k.good;
      some = k.some;
      limit = k.limit;
      places = places_stay L M c l past more stays k.file.layout k.file.fid p n k.places;
      served = λ w i. served_stay L M w more (k.served w i);
      last = ⊎_elim (λ (q : LastOf L c past k.file.layout k.file.fid p (p + n - 1)). inl (reached_stays L M c l past more stays _ _ _ _ q))
          (λ (q : (w : Use) → In w (wants_of k.file.layout k.file.fid (Wide p n)) → ServedOf L w). inr
          (λ w i. served_stay L M w more (q w i))) k.last;
    }
read_stays L M c l past more stays k files h = tt
