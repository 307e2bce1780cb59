-- What a call does doesn't rest on the stage in which it stood, nor what a glimpse does on what its work said to do.
use Rattle.std.proofs.Common.{◌≡◌, ℕ, ◌+◌, ◌-◌, Bool, true, false, List, [], ◌∷◌, ◌++◌, Option, Some, None, refl, ap}
use Rattle.std.specs.Prelude.{if◌then◌else◌}
use Rattle.lu_base.specs.declared.ids.At.{At}
use Rattle.lu_base.specs.declared.locks.Lock.{Lock}
use Rattle.lu_msg.specs.declared.answers.Answer.TheVariants as answer
use Rattle.lu_held.specs.declared.locks.HeldLock.{HeldLock}
use Rattle.lu_held.specs.declared.locks.Use.{Use}
use Rattle.lu_held.specs.Held.{in_order, serving}
use Rattle.lu_spec_entries.specs.Carried.{HandleFile, Kind, Narrow, Wide, Writes, Cuts, Stats, Glimpses, Work, Stage, Flushing, Running}
use Rattle.lu_spec_entries.specs.Words.{Entry, Pins, Stands}
use Rattle.lu_spec_client.specs.Advances.{Next as NextRow, at_stage, asks_lock, tells, unpins, pinned, name_under, using, gets, widened}
use Rattle.lu_spec_client.specs.Advances.{looks, looks_on, takes_up, comes, reads_wide, reads_narrow, widens, acts}
use Rattle.lu_spec_client.specs.Caches.{patch_at}
use Rattle.lu_spec_client.specs.Glimpses.{asks_size, glimpses, glimpses_on, glimpse_asks, glimpse_comes, sized}
use Rattle.lu_spec_client.specs.Looks.{Page, missing, content, has_reached, size_under}
use Rattle.lu_spec_client.specs.Patches.{in_flight}
use Rattle.lu_spec_client.specs.States.{Store, store_turn}
use Rattle.lu_spec_client.specs.Stripes.{object}
use Rattle.lu_spec_client.specs.WriteBack.{is_clean, flushes, flush_from}

abbrev pub IsUnstaged : NextRow → Type 0
IsUnstaged next = (stage : Stage) (r : Running) (w : Work) (s : Store) → next (at_stage r stage) w s ≡ next r w s

-- ---- looking for locks

pub looks_unstaged : (slot : ℕ) (next : NextRow) → IsUnstaged next → (left : List Use) → IsUnstaged (looks slot next left)
looks_unstaged slot next same [] stage r w s = same stage r w s
looks_unstaged slot next same (wanted ∷ left) stage r w s =
    by (serving wanted s.held)
    (λ h. looks_unstaged slot next same left stage (pinned (name_under wanted h.lock) r) (using wanted h.lock left w)
    (store_turn s (Pins (name_under wanted h.lock) ∷ [])))
  where
    more : Running → HeldLock → List Entry
    more it h = looks slot next left (pinned (name_under wanted h.lock) it) (using wanted h.lock left w)
        (store_turn s (Pins (name_under wanted h.lock) ∷ []))

    by : (o : Option HeldLock) → ((h : HeldLock) → more (at_stage r stage) h ≡ more r h)
        → looks_on slot (λ h. takes_up slot wanted h.lock left (looks slot next left) (at_stage r stage) w s) wanted left (at_stage r stage)
        w o ≡ looks_on slot (λ h. takes_up slot wanted h.lock left (looks slot next left) r w s) wanted left r w o
    by None rest = refl
    by (Some h) rest = ap (λ (es : List Entry). Pins (name_under wanted h.lock) ∷ es) (rest h)

pub comes_unstaged : (slot : ℕ) (next : NextRow) → IsUnstaged next → (l : Lock) (left : List Use) → IsUnstaged (comes slot next l left)
comes_unstaged slot next same l [] stage r w s = refl
comes_unstaged slot next same l (wanted ∷ left) stage r w s =
    ap (λ (es : List Entry). Pins (name_under wanted l) ∷ es) (looks_unstaged slot next same left stage (pinned (name_under wanted l) r)
    (using wanted l left w) (store_turn s (Pins (name_under wanted l) ∷ [])))

-- ---- acting

wide_unstaged : (at : At) (slot p n : ℕ) → IsUnstaged (reads_wide at slot p n)
wide_unstaged at slot p n stage r w s = refl

widens_unstaged : (at : At) (slot p n : ℕ) → IsUnstaged (widens at slot p n)
widens_unstaged at slot p n stage r w s =
    ap (λ (es : List Entry). unpins r.pins ++ es) (looks_unstaged slot (reads_wide at slot p n) (wide_unstaged at slot p n)
    (widened p n w).left stage (record r { pins = [] }) (widened p n w) (store_turn s (unpins r.pins)))

narrow_unstaged : (at : At) (slot p n : ℕ) → IsUnstaged (reads_narrow at slot p n)
narrow_unstaged at slot p n stage r w s = by (missing w.layout p (p + n) s w.used) (has_reached w.layout (p + n - 1) w.used s)
  where
    done : Running → List Entry
    done it = tells slot it at (answer.Content (content w.layout w.fid s p n)) (Some w)

    by : (o : Option Page) (reached : Bool) → ◌≡◌ {A = List Entry}
        (elim o [
          | Some g ↦ gets slot g (at_stage r stage) w
          | None ↦ if reached then done (at_stage r stage)
              else widens at slot p n (at_stage r stage) w s
        ]) (elim o
        [ Some g ↦ gets slot g r w | None ↦ if reached then done r else widens at slot p n r w s ])
    by (Some g) reached = refl
    by None true = refl
    by None false = widens_unstaged at slot p n stage r w s

pub acts_unstaged : (at : At) (slot : ℕ) (kind : Kind) → IsUnstaged (acts at slot kind)
acts_unstaged at slot (Narrow p n) stage r w s = narrow_unstaged at slot p n stage r w s
acts_unstaged at slot (Wide p n) stage r w s = wide_unstaged at slot p n stage r w s
acts_unstaged at slot (Writes p bs) stage r w s = refl
acts_unstaged at slot (Cuts n) stage r w s = refl
acts_unstaged at slot (Stats mode links) stage r w s = refl
acts_unstaged at slot (Glimpses sizes) stage r w s = refl

-- ---- glimpses

-- the same work, but for what it does and the locks that are left
abbrev pub for_glimpse : Kind → List Use → Work → Work
for_glimpse kind left w = record w { kind = kind; left = left }

pub glimpses_unstaged : (at : At) (slot : ℕ) (left : List Use) (sizes : List ℕ) (stage : Stage) (r : Running) (kind : Kind)
    (others : List Use) (w : Work) (s : Store) → glimpses at slot left sizes (at_stage r stage) (for_glimpse kind others w) s
    ≡ glimpses at slot left sizes r w s
glimpses_unstaged at slot [] sizes stage r kind others w s = refl
glimpses_unstaged at slot (wanted ∷ left) sizes stage r kind others w s =
    by (serving wanted s.held) (λ h. glimpses_unstaged at slot left (sizes ++ size_under h.lock s ∷ []) stage r kind others w s)
  where
    more : Running → Work → HeldLock → List Entry
    more it work h = glimpses at slot left (sizes ++ size_under h.lock s ∷ []) it work s

    by : (o : Option HeldLock) → ((h : HeldLock) → more (at_stage r stage) (for_glimpse kind others w) h ≡ more r w h)
        → glimpses_on (more (at_stage r stage) (for_glimpse kind others w))
        (asks_size slot wanted left sizes (at_stage r stage) (for_glimpse kind others w)) o
        ≡ glimpses_on (more r w) (asks_size slot wanted left sizes r w) o
    by None rest = refl
    by (Some h) rest = rest h

pub glimpse_asks_unstaged : (at : At) (slot : ℕ) (left : List Use) (sizes : List ℕ) (stage : Stage) (r : Running) (kind : Kind)
    (others : List Use) (w : Work) (s : Store) → glimpse_asks at slot left sizes (at_stage r stage) (for_glimpse kind others w) s
    ≡ glimpse_asks at slot left sizes r w s
glimpse_asks_unstaged at slot [] sizes stage r kind others w s = refl
glimpse_asks_unstaged at slot (wanted ∷ left) sizes stage r kind others w s = by (serving wanted s.held)
  where
    by : (o : Option HeldLock) → glimpses_on (λ h. glimpses at slot left (sizes ++ size_under h.lock s ∷ []) (at_stage r stage)
        (for_glimpse kind others w) s) (asks_lock slot wanted (at_stage r stage) (sized (wanted ∷ left) sizes (for_glimpse kind others w)))
        o ≡ glimpses_on (λ h. glimpses at slot left (sizes ++ size_under h.lock s ∷ []) r w s)
        (asks_lock slot wanted r (sized (wanted ∷ left) sizes w)) o
    by None = refl
    by (Some h) = glimpses_unstaged at slot left (sizes ++ size_under h.lock s ∷ []) stage r kind others w s

pub glimpse_comes_unstaged : (at : At) (slot : ℕ) (l : Lock) (left : List Use) (sizes : List ℕ) (stage : Stage) (r : Running) (kind : Kind)
    (others : List Use) (w : Work) (s : Store) → glimpse_comes at slot l left sizes (at_stage r stage) (for_glimpse kind others w) s
    ≡ glimpse_comes at slot l left sizes r w s
glimpse_comes_unstaged at slot l [] sizes stage r kind others w s = refl
glimpse_comes_unstaged at slot l (wanted ∷ left) sizes stage r kind others w s =
    glimpses_unstaged at slot left (sizes ++ size_under l s ∷ []) stage r kind others w s

-- ---- writing back

pub flush_unstaged : (at : At) (slot : ℕ) (stage : Stage) (r : Running) (f : HandleFile) (stripes : List ℕ) (s : Store)
    → flush_from at slot (at_stage r stage) f stripes s ≡ flush_from at slot r f stripes s
flush_unstaged at slot stage r f [] s = refl
flush_unstaged at slot stage r f (i ∷ stripes) s =
    by (in_flight (patch_at (object f.fid i) s.patches)) (is_clean (patch_at (object f.fid i) s.patches))
    (flush_unstaged at slot stage r f stripes s)
  where
    waits : List Entry
    waits = Stands slot (at_stage r (Flushing i)) ∷ []

    writes : List Entry
    writes = flushes (object f.fid i) (patch_at (object f.fid i) s.patches) (in_order s.held) ++ waits

    by : (flies clean : Bool) → flush_from at slot (at_stage r stage) f stripes s ≡ flush_from at slot r f stripes s
        → (if flies then waits else if clean then flush_from at slot (at_stage r stage) f stripes s else writes)
        ≡ (if flies then waits else if clean then flush_from at slot r f stripes s else writes)
    by true clean rest = refl
    by false true rest = rest
    by false false rest = refl
