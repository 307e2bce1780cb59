-- How far a glimpse comes by held locks, and how it goes on from there.
use Rattle.std.proofs.Common.{◌≡◌, ℕ, ◌+◌, ◌<◌, List, [], ◌∷◌, ◌++◌, length, drop, Option, Some, None, refl, sym, ap, subst, ◌∙◌, arith}
use Rattle.std.specs.Prelude.{option_map, All}
use Rattle.std.proofs.lemmas.List.{drop-drop}
use Rattle.std.proofs.lemmas.List.Elements.{All-drop}
use Rattle.lu_base.specs.declared.ids.At.{At}
use Rattle.lu_base.specs.declared.locks.Lock.{Lock}
use Rattle.lu_msg.specs.declared.answers.Answer.TheVariants as answer
use Rattle.lu_held.specs.declared.locks.HeldLock.{HeldLock}
use Rattle.lu_held.specs.declared.locks.Use.{Use}
use Rattle.lu_held.specs.Locks.{lock_of}
use Rattle.lu_held.specs.Held.{serving}
use Rattle.lu_spec_entries.specs.Carried.{Work, Running}
use Rattle.lu_spec_entries.specs.Words.{Entry}
use Rattle.lu_spec_client.specs.States.{Store}
use Rattle.lu_spec_client.specs.Looks.{size_under}
use Rattle.lu_spec_client.specs.Advances.{asks_lock, tells}
use Rattle.lu_spec_client.specs.Glimpses.{sized, glimpses, glimpses_on, glimpse_asks, glimpse_comes, glimpse_hears}
use Rattle.lu_client_store.specs.Stored.{StoreState}
use Rattle.lu_call.specs.declared.nexts.Next.{Next}
use Rattle.lu_call.specs.Glimpsed.{Glimpsed, GlimpsesOn, GlimpsesNoMore, asks_for_size, after_glimpses}
use Rattle.lu_call.specs.Going.{GoesBy}
use Rattle.lu_call.specs.Ranges.{IsWant, IsWork, IsSizing}
use Rattle.lu_call.proofs.Going.{goes_as}
use Rattle.lu_call.proofs.Unstaged.{glimpses_unstaged}

some_left : (rest : List Use) (wanted : Use) → rest ≡ wanted ∷ drop 1 rest → 0 < length rest
some_left rest wanted first = subst (λ (us : List Use). 0 < length us) (sym first) (omega arith)

-- ---- one after another

-- Sizes were taken under held locks, and the glimpse goes on from there.
pub record Taken (left rest : List Use) (sizes more : List ℕ) (s : Store) : Type 0 where
  pub count : ℕ
  pub wants : rest ≡ drop count left
  pub goes : GlimpsesOn left rest sizes more s

pub taken_none : (left : List Use) (sizes : List ℕ) (s : Store) → Taken left left sizes sizes s
taken_none left sizes s = record { count = 0; wants = refl; goes = λ at slot r w. refl }

pub taken_more : {left rest rest2 : List Use} {sizes more more2 : List ℕ} {s : Store} (size : ℕ) → Taken left rest sizes more s → rest2
    ≡ drop 1 rest → more2 ≡ more ++ size ∷ [] → GlimpsesOn rest (drop 1 rest) more (more ++ size ∷ []) s → Taken left rest2 sizes more2 s
taken_more {left = left} {rest2 = rest2} {more = more} {s = s} size taken shorter longer goes =
    record {
      count = taken.count + 1;
      wants = shorter ∙ ap (λ (us : List Use). drop 1 us) taken.wants ∙ drop-drop 1 taken.count left;
      goes = λ at slot r w.
          taken.goes at slot r w
          ∙ goes at slot r w
          ∙ ap (λ (us : List Use). glimpses at slot us (more ++ size ∷ []) r w s) (sym shorter)
          ∙ ap (λ (ns : List ℕ). glimpses at slot rest2 ns r w s) (sym longer);
    }

pub taken_all : {left rest : List Use} {sizes more : List ℕ} {s : Store} → Taken left rest sizes more s → GlimpsesNoMore rest more s
    → Glimpsed left rest sizes more s
taken_all taken stops = record { count = taken.count; wants = taken.wants; goes = taken.goes; stops = stops }

-- ---- what always holds of a glimpse

-- wants that are left, and any sizes
pub sized_sound : (w : Work) (n : ℕ) (rest : List Use) (sizes : List ℕ) → rest ≡ drop n w.left → IsWork w → IsWork (sized rest sizes w)
sized_sound w n rest sizes is sound =
    record {
      kind = tt;
      layout = sound.layout;
      used = sound.used;
      left = subst (λ (us : List Use). All (IsWant w.fid w.layout) us) (sym is) (All-drop (IsWant w.fid w.layout) n w.left sound.left);
    }

-- the same, of what it does
pub left_sound : (w : Work) (rest : List Use) → rest ≡ drop 1 w.left → IsWork w → IsWork (record w { left = rest })
left_sound w rest is sound =
    record {
      kind = sound.kind;
      layout = sound.layout;
      used = sound.used;
      left = subst (λ (us : List Use). All (IsWant w.fid w.layout) us) (sym is) (All-drop (IsWant w.fid w.layout) 1 w.left sound.left);
    }

pub sized_sizing : (w : Work) (n : ℕ) (rest : List Use) (sizes : List ℕ) (wanted : Use) → rest ≡ wanted ∷ drop 1 rest → rest ≡ drop n w.left
    → IsWork w → IsSizing (sized rest sizes w)
sized_sizing w n rest sizes wanted first is sound =
    record { wanting = record { work = sized_sound w n rest sizes is sound; some = some_left rest wanted first }; kind = refl }

-- ---- how a glimpse goes on

-- it asks for the next size
pub goes_size : {slot : ℕ} {new : Running} {before after : StoreState} {out : Next} {left rest : List Use} {sizes more : List ℕ} (at : At)
    (r : Running) (w : Work) (wanted : Use) → Glimpsed left rest sizes more before.store → rest ≡ wanted ∷ drop 1 rest
    → GoesBy (asks_for_size slot wanted r (sized rest more w)) slot new before after out
    → GoesBy (glimpses at slot left sizes r w before.store) slot new before after out
goes_size {slot = slot} {more = more} at r w wanted glimpsed first goes =
    goes_as
    (glimpsed.goes at slot r w
    ∙ glimpsed.stops at slot r w
    ∙ ap (λ (us : List Use). after_glimpses at slot us more r w) first
    ∙ sym (ap (λ (us : List Use). asks_for_size slot wanted r (sized us more w)) first))
    goes

-- it is told all sizes
pub goes_sizes : {slot : ℕ} {new : Running} {before after : StoreState} {out : Next} {left rest : List Use} {sizes more : List ℕ} (at : At)
    (r : Running) (w : Work) → Glimpsed left rest sizes more before.store → rest ≡ []
    → GoesBy (tells slot r at (answer.Sizes more) None) slot new before after out
    → GoesBy (glimpses at slot left sizes r w before.store) slot new before after out
goes_sizes {slot = slot} {more = more} at r w glimpsed none goes =
    goes_as (glimpsed.goes at slot r w ∙ glimpsed.stops at slot r w ∙ ap (λ (us : List Use). after_glimpses at slot us more r w) none) goes

-- it was told a size
pub goes_heard : {slot : ℕ} {new : Running} {before after : StoreState} {out : Next} (at : At) (size : ℕ) (left rest : List Use)
    (sizes more : List ℕ) (r : Running) (w : Work) → 0 < length left → rest ≡ drop 1 left → more ≡ sizes ++ size ∷ []
    → GoesBy (glimpses at slot rest more r (record w { left = rest }) before.store) slot new before after out
    → GoesBy (glimpse_hears at slot left sizes (answer.Size size) r w before.store) slot new before after out
goes_heard at size [] rest sizes more r w some shorter longer goes = absurd (omega (arith, some))
goes_heard {slot = slot} {before = before} at size (wanted ∷ left) rest sizes more r w some shorter longer goes =
    goes_as
    (ap (λ (us : List Use). glimpses at slot us (sizes ++ size ∷ []) r w before.store) (sym shorter)
    ∙ ap (λ (ns : List ℕ). glimpses at slot rest ns r w before.store) (sym longer)
    ∙ sym (glimpses_unstaged at slot rest more r.stage r w.kind rest w before.store))
    goes

-- a lock came: its size is heard
pub came_is_heard : (at : At) (slot : ℕ) (lock : Lock) (left : List Use) (sizes : List ℕ) (r : Running) (w : Work) (s : Store)
    → glimpse_comes at slot lock left sizes r w s ≡ glimpse_hears at slot left sizes (answer.Size (size_under lock s)) r w s
came_is_heard at slot lock [] sizes r w s = refl
came_is_heard at slot lock (wanted ∷ left) sizes r w s = refl

-- a held lock is used as one that came
pub serves_as_came : (at : At) (slot : ℕ) (wanted : Use) (lock : Lock) (left : List Use) (sizes : List ℕ) (r : Running) (w : Work)
    (s : Store) → left ≡ wanted ∷ drop 1 left → option_map lock_of (serving wanted s.held) ≡ Some lock
    → glimpse_asks at slot left sizes r w s ≡ glimpse_comes at slot lock left sizes r w s
serves_as_came at slot wanted lock left sizes r w s first serves =
    ap (λ (us : List Use). glimpse_asks at slot us sizes r w s) first
    ∙ by (serving wanted s.held) serves
    ∙ sym (ap (λ (us : List Use). glimpse_comes at slot lock us sizes r w s) first)
  where
    more : Lock → List Entry
    more l = glimpses at slot (drop 1 left) (sizes ++ size_under l s ∷ []) r w s

    by : (o : Option HeldLock) → option_map lock_of o ≡ Some lock
        → glimpses_on (λ h. more h.lock) (asks_lock slot wanted r (sized (wanted ∷ drop 1 left) sizes w)) o ≡ more lock
    by None serves = absurd (cc)
    by (Some h) serves = let same : h.lock ≡ lock = cc in ap more same

-- no held lock does: it is asked for
pub asks_for_lock : (at : At) (slot : ℕ) (wanted : Use) (left : List Use) (sizes : List ℕ) (r : Running) (w : Work) (s : Store) → left
    ≡ wanted ∷ drop 1 left → option_map lock_of (serving wanted s.held) ≡ None → glimpse_asks at slot left sizes r w s
    ≡ asks_lock slot wanted r (sized left sizes w)
asks_for_lock at slot wanted left sizes r w s first serves =
    ap (λ (us : List Use). glimpse_asks at slot us sizes r w s) first
    ∙ by (serving wanted s.held) serves
    ∙ sym (ap (λ (us : List Use). asks_lock slot wanted r (sized us sizes w)) first)
  where
    by : (o : Option HeldLock) → option_map lock_of o ≡ None → glimpses_on
        (λ h. glimpses at slot (drop 1 left) (sizes ++ size_under h.lock s ∷ []) r w s)
        (asks_lock slot wanted r (sized (wanted ∷ drop 1 left) sizes w)) o ≡ asks_lock slot wanted r (sized (wanted ∷ drop 1 left) sizes w)
    by None serves = refl
    by (Some h) serves = absurd (cc)
