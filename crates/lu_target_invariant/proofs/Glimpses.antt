-- Glimpses that end, with the answers to those for whom they were asked: what the state keeps stays so.
use Rattle.std.proofs.Common.{◌≡◌, ℕ, ◌<◌, ◌==◌, ◌&&◌, Bool, true, false, List, [], ◌∷◌, filter, Option, Some, None, length, refl, sym, ap}
use Rattle.std.proofs.Common.{subst, ◌∙◌, arith, nat_lt}
use Rattle.std.specs.Prelude.{if◌then◌else◌, not, slice_index_or, All, AllPairs}
use Rattle.std.proofs.lemmas.Bool.Decides.{nat_tests}
use Rattle.std.proofs.lemmas.List.{get_or_default}
use Rattle.std.proofs.lemmas.List.Elements.{All-weaker, All-filter, All-head, All-tail}
use Rattle.lu_base.specs.declared.ids.At.{At}
use Rattle.lu_base.specs.declared.locks.Lock.{Lock}
use Rattle.lu_msg.specs.declared.answers.Answer.{Answer}
use Rattle.lu_msg.specs.declared.answers.Answer.TheVariants as told
use Rattle.lu_msg.specs.declared.messages.SizeReport.{SizeReport}
use Rattle.lu_service.specs.declared.services.Kind.{Kind}
use Rattle.lu_service.specs.declared.services.Kind.TheVariants.{Mdt, Ost}
use Rattle.lu_spec_entries.specs.Carried.{Glimpse}
use Rattle.lu_spec_entries.specs.Words.{Entry, Release, Answers, Ends, same_life}
use Rattle.lu_spec_target.specs.Locks.{is_request_of, same_glimpse, glimpses_after}
use Rattle.lu_spec_target.specs.States.{Target, after, turn}
use Rattle.lu_spec_target.specs.Replies.{replies}
use Rattle.lu_spec_target.specs.Glimpses.{answered, row_answers, row_locked, asked_for, by_holder, row_holder, row_report, glimpses_of}
use Rattle.lu_spec_target.specs.Glimpses.{glimpses_end}
use Rattle.lu_spec_target.specs.Requests.{releases}
use Rattle.lu_spec_target.specs.Leaving.{all_released}
use Rattle.lu_target_refines.proofs.Slots.{never}
use Rattle.lu_target_invariant.specs.Sound.{AskApart, IsSound}
use Rattle.lu_target_invariant.proofs.Requests.{all_passed, all_none, same_turned, named_itself}
use Rattle.lu_target_invariant.proofs.Taken.{NoneAsks, not_true}
use Rattle.lu_target_invariant.proofs.Entries.{sound_quiet, sound_then, sound_answers, sound_release, sound_ends}

-- no other glimpse is for its request
abbrev pub IsSole : List Glimpse → Glimpse → Type 0
IsSole gs g = All (λ h. same_glimpse g h ≡ false → AskApart g h) gs

same_as_itself : (g : Glimpse) → same_glimpse g g ≡ true
same_as_itself g = by (g.cookie.0 == g.cookie.0) refl where
  by : (own : Bool) → (g.cookie.0 == g.cookie.0) ≡ own → same_glimpse g g ≡ true
  by true e = rw (e, named_itself g.request) refl
  by false e = absurd (grind arith)

sole_at : (gs : List Glimpse) → AllPairs AskApart gs → (k : ℕ) (g : Glimpse) → k < length gs → (j : ℕ) (h : Glimpse) → j < length gs
    → same_glimpse (slice_index_or gs k g) (slice_index_or gs j h) ≡ false → AskApart (slice_index_or gs k g) (slice_index_or gs j h)
sole_at gs pairs k g within j h inside other = by (nat_lt k j) refl (nat_lt j k) refl where
  same : slice_index_or gs j g ≡ slice_index_or gs j h
  same = get_or_default gs j g h inside

  one : k ≡ j → slice_index_or gs j h ≡ slice_index_or gs k g
  one e = sym same ∙ ap (λ n. slice_index_or gs n g) (sym e)

  by : (less : Bool) → nat_lt k j ≡ less → (more : Bool) → nat_lt j k ≡ more → AskApart (slice_index_or gs k g) (slice_index_or gs j h)
  by true e more f = let below : k < j = grind (arith, nat_tests)
      in subst (AskApart (slice_index_or gs k g)) same (pairs k j g below inside)
  by false e true f =
      let below : j < k = grind (arith, nat_tests) in
      same_turned (slice_index_or gs k g).request (slice_index_or gs j h).request
      ∙ subst (λ y. AskApart y (slice_index_or gs k g)) same (pairs j k g below within)
  by false e false f =
      let equal : k ≡ j = grind (arith, nat_tests) in
      absurd (never (sym (same_as_itself (slice_index_or gs k g)) ∙ ap (same_glimpse (slice_index_or gs k g)) (sym (one equal)) ∙ other))

pub sole_all : (gs : List Glimpse) → AllPairs AskApart gs → All (IsSole gs) gs
sole_all gs pairs = λ k g within. λ j h inside. sole_at gs pairs k g within j h inside

pub sole_of : (kind : Kind) (v : Target) → IsSound kind v → All (IsSole v.glimpses) v.glimpses
sole_of Mdt v sound = all_none (IsSole v.glimpses) v.glimpses sound.locks.2
sole_of Ost v sound = sole_all v.glimpses sound.locks.1

-- ---- one ends, and its request is answered

none_left : (v : Target) (at : At) (gs : List Glimpse) (g : Glimpse) (answer : Answer) → IsSole gs g
    → NoneAsks (answered v at g.request answer) (filter (λ x. not (same_glimpse g x)) gs)
none_left v at gs g answer sole =
    all_passed (λ h. same_glimpse g h ≡ false → AskApart g h) (λ h. is_request_of (answered v at g.request answer) h.request ≡ false)
    (λ x. not (same_glimpse g x)) gs
    (λ h stays apart. apart (not_true (same_glimpse g h) stays)) sole

-- v: the state that the answer tells of
pub sound_ended : (kind : Kind) (v w : Target) (at : At) (g : Glimpse) (answer : Answer) → IsSole w.glimpses g → IsSound kind w
    → IsSound kind (turn w (Ends g ∷ row_answers (answered v at g.request answer)))
sound_ended kind v w at g answer sole sound =
    let d = answered v at g.request answer in
    sound_quiet kind (after (after w (Ends g)) (Answers d)) (replies d) refl
    (sound_answers kind (after w (Ends g)) d (none_left v at w.glimpses g answer sole) (sound_ends kind w g sound))

-- ---- what the holder says

asked_holds : (P : Glimpse → Type 0) (m : SizeReport) (gs : List Glimpse) (g : Glimpse) → All P gs → asked_for m gs ≡ Some g → P g
asked_holds P m [] g all found = absurd (cc)
asked_holds P m (x ∷ gs) g all found =
    by (x.cookie.0 == m.cookie.0 && (same_life x.request.who m.for_who && x.request.xid.0 == m.xid.0)) found
    (asked_holds P m gs g (All-tail P x gs all)) where
      some_is : Some x ≡ Some g → x ≡ g
      some_is f = cc

      by : (here : Bool) → (if here then Some x else asked_for m gs) ≡ Some g → (asked_for m gs ≡ Some g → P g) → P g
      by true found rest = subst P (some_is found) (All-head P x gs all)
      by false found rest = rest found

pub sound_holder : (kind : Kind) (v : Target) (at : At) (m : SizeReport) (g : Glimpse) (size : Option ℕ) → IsSole v.glimpses g
    → IsSound kind v
    → IsSound kind (turn v (row_holder v at m g size))
sound_holder kind v at m g None sole sound = sound_ended kind v v at g told.Lock sole sound
sound_holder kind v at m g (Some size) sole sound = sound_ended kind v v (by_holder m) g (told.Size size) sole sound

pub sound_report : (kind : Kind) (v : Target) (at : At) (m : SizeReport) → IsSound kind v
    → IsSound kind (turn v (row_report v at m (asked_for m v.glimpses)))
sound_report kind v at m sound = by (asked_for m v.glimpses) refl where
  by : (found : Option Glimpse) → asked_for m v.glimpses ≡ found → IsSound kind (turn v (row_report v at m found))
  by None e = sound
  by (Some g) e = sound_holder kind v at m g m.size (asked_holds (IsSole v.glimpses) m v.glimpses g (sole_of kind v sound) e) sound

-- ---- locks are released, and the glimpses on them end

pub sound_glimpses_end : (kind : Kind) (at : At) (gs : List Glimpse) (v w : Target) → All (IsSole w.glimpses) gs → IsSound kind w
    → IsSound kind (turn w (glimpses_end at gs v))
sound_glimpses_end kind at [] v w sole sound = sound
sound_glimpses_end kind at (g ∷ gs) v w sole sound =
    sound_glimpses_end kind at gs v (turn w (Ends g ∷ row_locked v at g.request))
    (All-weaker (IsSole w.glimpses) (IsSole (filter (λ x. not (same_glimpse g x)) w.glimpses))
    (λ h one. All-filter (λ x. not (same_glimpse g x)) (λ x. same_glimpse h x ≡ false → AskApart h x) w.glimpses one) gs
    (All-tail (IsSole w.glimpses) g gs sole))
    (sound_ended kind v w at g told.Lock (All-head (IsSole w.glimpses) g gs sole) sound)

-- the rows read the glimpses of v, and w has the same
glimpses_turned : (es : List Entry) (v w : Target) → w.glimpses ≡ v.glimpses → (turn w es).glimpses ≡ (turn v es).glimpses
glimpses_turned [] v w same = same
glimpses_turned (e ∷ es) v w same = glimpses_turned es (after v e) (after w e) (ap (λ gs. glimpses_after gs e) same)

pub sound_releases_of : (kind : Kind) (at : At) (l : Lock) (v w : Target) → w.glimpses ≡ v.glimpses → IsSound kind w
    → IsSound kind (turn w (releases at l v))
sound_releases_of kind at l v w same sound =
    sound_glimpses_end kind at (glimpses_of l v.glimpses) v (after w (Release l))
    (All-filter (λ g. g.cookie.0 == l.cookie.0) (IsSole w.glimpses) v.glimpses
    (subst (All (IsSole w.glimpses)) same (sole_of kind w sound))) (sound_release kind w l sound)

pub sound_releases : (kind : Kind) (at : At) (l : Lock) (v : Target) → IsSound kind v → IsSound kind (turn v (releases at l v))
sound_releases kind at l v sound = sound_releases_of kind at l v v refl sound

pub sound_all_released : (kind : Kind) (at : At) (locks : List Lock) (v w : Target) → w.glimpses ≡ v.glimpses → IsSound kind w
    → IsSound kind (turn w (all_released at locks v))
sound_all_released kind at [] v w same sound = sound
sound_all_released kind at (l ∷ locks) v w same sound =
    sound_then kind w (releases at l v) (all_released at locks (turn v (releases at l v)))
    (sound_all_released kind at locks (turn v (releases at l v)) (turn w (releases at l v)) (glimpses_turned (releases at l v) v w same)
    (sound_releases_of kind at l v w same sound))
