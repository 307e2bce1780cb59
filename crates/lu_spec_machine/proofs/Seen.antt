-- What saw only what is kept touched nothing that one taken out wrote.
use Rattle.std.proofs.Common.{◌≡◌, ℕ, Bool, true, false, List, [], ◌∷◌, refl}
use Rattle.std.specs.Prelude.{◌||◌, if◌then◌else◌}
use Rattle.std.specs.List.{list_any}
use Rattle.lu_part.specs.declared.parts.Part.{Part}
use Rattle.lu_part.specs.Meets.{meets}
use Rattle.lu_spec_machine.specs.Tree.{Tree}
use Rattle.lu_spec_machine.specs.Footprint.{Operation, touches, writes, Every, Apart}
use Rattle.lu_spec_machine.specs.Removal.{Item, Acts, Forgets, contents, ClearOf, UntouchedOf, FreeOf}
use Rattle.lu_spec_machine.specs.Trim.{trimmed}
use Rattle.lu_spec_machine.specs.Seen.{meet, seen, SawKept, AllSawKept, RemovalBySeen, TrimmedRemovalBySeen}
use Rattle.lu_spec_machine.proofs.Footprints.{every_map, every_one}
use Rattle.lu_spec_machine.proofs.Removal.{removal_law}
use Rattle.lu_spec_machine.proofs.Trim.{trimmed_removal}

none_meets : (ws : List Part) (p : Part) → list_any (λ w. meets w p) ws ≡ false → Apart ws p
none_meets [] p h = tt
none_meets (w ∷ ws) p h = by (meets w p) refl h (none_meets ws p)
  where
    by : (b : Bool) → meets w p ≡ b → (b || list_any (λ w. meets w p) ws) ≡ false → (list_any (λ w. meets w p) ws ≡ false → Apart ws p)
        → (meets w p ≡ false) × Apart ws p
    by true e k ih = absurd (cc)
    by false e k ih = (e, ih k)

meet_apart : (ws ps : List Part) → meet ws ps ≡ false → Every (Apart ws) ps
meet_apart ws [] h = tt
meet_apart ws (p ∷ ps) h = by (list_any (λ w. meets w p) ws) refl h (meet_apart ws ps)
  where
    by : (b : Bool) → list_any (λ w. meets w p) ws ≡ b → (b || meet ws ps) ≡ false → (meet ws ps ≡ false → Every (Apart ws) ps) → Apart ws p
        × Every (Apart ws) ps
    by true e k ih = absurd (cc)
    by false e k ih = (none_meets ws p e, ih k)

both : (P Q : Part → Type 0) (ps : List Part) → Every P ps → Every Q ps → Every (λ p. P p × Q p) ps
both P Q [] h k = tt
both P Q (p ∷ ps) h k = ((h.0, k.0), both P Q ps h.1 k.1)

module _ (osts : ℕ) (keep : ℕ → Bool) (of : List Item → Tree) where
  abbrev Gone : Operation → List Item → Part → Type 0
  Gone a past p = keep a.number.0 ≡ false → Apart (writes osts (of past) a) p

  clear : (past : List Item) (ps : List Part) → Every (λ n. keep n ≡ true) (seen osts of past ps) → Every (ClearOf osts keep of past) ps
  clear [] ps h = every_one (λ p. Unit {0}) ps (λ p. tt)
  clear (Forgets who ∷ past) ps h = clear past ps h
  clear (Acts a ∷ past) ps h = by (meet (writes osts (of past) a) ps) refl h (clear past ps)
    where
      by : (b : Bool) → meet (writes osts (of past) a) ps ≡ b → Every (λ n. keep n ≡ true)
          (if b then a.number.0 ∷ seen osts of past ps else seen osts of past ps)
          → (Every (λ n. keep n ≡ true) (seen osts of past ps) → Every (ClearOf osts keep of past) ps)
          → Every (ClearOf osts keep of (Acts a ∷ past)) ps
      by true e k ih = both (Gone a past) (ClearOf osts keep of past) ps (every_one (Gone a past) ps (λ p gone. absurd (cc (k.0, gone))))
          (ih k.1)
      by false e k ih = both (Gone a past) (ClearOf osts keep of past) ps
          (every_map (Apart (writes osts (of past) a)) (Gone a past) ps (λ p w gone. w) (meet_apart (writes osts (of past) a) ps e)) (ih k)

  untouched : (past : List Item) (a : Operation) → SawKept osts of keep past a → UntouchedOf osts keep of past a
  untouched past a h = clear past (touches osts (of past) a) h

  free : (past : List Item) → AllSawKept osts of keep past → FreeOf osts keep of past
  free [] h = tt
  free (Acts a ∷ past) h = (λ k. untouched past a (h.0 k), free past h.1)
  free (Forgets who ∷ past) h = free past h

pub removal_by_seen : RemovalBySeen
removal_by_seen osts start keep root old past f a h = removal_law osts start keep root old past
    (free osts keep (contents osts start) past f) a (untouched osts keep (contents osts start) past a h)

pub trimmed_removal_by_seen : TrimmedRemovalBySeen
trimmed_removal_by_seen osts keep root past r f a h = trimmed_removal osts keep root past r (free osts keep (trimmed osts) past f) a
    (untouched osts keep (trimmed osts) past a h)
