-- What the tables of held locks show after a lock was let go, and after one more is held.
use Rattle.std.proofs.Common.{◌≡◌, ℕ, Bool, true, false, not, ◌&&◌, ◌||◌, List, [], ◌∷◌, ◌++◌, Option, Some, None, refl, ap, sym, ◌∙◌}
use Rattle.std.specs.Prelude.{if◌then◌else◌, filter}
use Rattle.std.specs.List.{list_any}
use Rattle.std.specs.Option.{option_map}
use Rattle.std.proofs.lemmas.List.Folds.{list_any-append}
use Rattle.lu_base.specs.declared.ids.Who.{Who}
use Rattle.lu_base.specs.declared.locks.Lock.{Lock}
use Rattle.lu_base.specs.declared.locks.Resource.{Resource}
use Rattle.lu_spec_laws.specs.Words.Held.{Held, is_held_by, all_but}
use Rattle.lu_judge_windows.specs.declared.holdings.Holdings.{Holdings}
use Rattle.lu_judge_windows.specs.Shown.{named, listed_on, listed_of, held_by, passes, is_at, is_written_by, Has, ShowsHoldings}
use Rattle.lu_judge_windows.proofs.HeldTests.{any_same, any_kept, any_without, swap, turn}
use Rattle.lu_judge_windows.proofs.Names.{same_name, one_gone, one_more}

-- ---- a list

-- those that leave are taken out of it, or it has none of them
has_gone : (leaves test : Held → Bool) (old new held : List Held) (here : Bool) → new
    ≡ (if here then filter (λ h. not (leaves h)) old else old) → (here ≡ false → (also : Held → Bool)
    → list_any (λ h. leaves h && (test h && also h)) held ≡ false) → Has test old held → Has test new (filter (λ h. not (leaves h)) held)
has_gone leaves test old new held true is none has = λ also.
    rw is
    (any_kept (λ h. not (leaves h)) also old ∙ has (λ h. not (leaves h) && also h)
    ∙ any_same (λ h. test h && (not (leaves h) && also h)) (λ h. not (leaves h) && (test h && also h)) held
    (λ h. swap (test h) (not (leaves h)) (also h))
    ∙ sym (any_kept (λ h. not (leaves h)) (λ h. test h && also h) held))
has_gone leaves test old new held false is none has = λ also.
    rw is (has also ∙ any_without leaves (λ h. test h && also h) held (none refl also)
    ∙ sym (any_kept (λ h. not (leaves h)) (λ h. test h && also h) held))

-- one more is put into it, where it belongs there
has_more : (test : Held → Bool) (h : Held) (old new held : List Held) (here : Bool) → test h ≡ here → new
    ≡ (if here then old ++ h ∷ [] else old) → Has test old held → Has test new (h ∷ held)
has_more test h old new held true belongs is has = λ also. rw (is, belongs, list_any-append also old (h ∷ []), has also)
    (turn (list_any (λ x. test x && also x) held) (also h))
has_more test h old new held false belongs is has = λ also. rw (is, belongs) (has also)

-- ---- the tables

-- What is named is let go: it goes from the lists where it stands.
pub record LetsGo (t u : Holdings) (who : Who) (target cookie : ℕ) (found : Option Lock) : Type 0 where
  pub is : named t who target cookie ≡ found
  pub names : (other : Who) (v d : ℕ) → named u other v d ≡ (if same_name who target cookie other v d then None else named t other v d)
  pub resources : (v : ℕ) (resource : Resource) → listed_on u v resource
      ≡ (if passes (is_at v resource) (option_map (held_by who target) found)
      then filter (λ h. not (is_held_by who target cookie h)) (listed_on t v resource) else listed_on t v resource)
  pub writers : (other : Who) → listed_of u other ≡ (if passes (is_written_by other) (option_map (held_by who target) found)
      then filter (λ h. not (is_held_by who target cookie h)) (listed_of t other) else listed_of t other)

no_longer : (test also : Held → Bool) (found : Option Held) → passes test found ≡ false → passes (λ h. test h && also h) found ≡ false
no_longer test also None none = refl
no_longer test also (Some h) none = rw none refl

pub let_go : (t u : Holdings) (who : Who) (target cookie : ℕ) (found : Option Lock) → LetsGo t u who target cookie found
    → (held : List Held) → ShowsHoldings t held → ShowsHoldings u (all_but who target cookie held)
let_go t u who target cookie found gone held shown =
    let none = λ (test : Held → Bool) (none : passes test (option_map (held_by who target) found) ≡ false) (also : Held → Bool).
    shown.one who target cookie (λ h. test h && also h) ∙ ap (λ o. passes (λ h. test h && also h) (option_map (held_by who target) o))
    gone.is
    ∙ no_longer test also (option_map (held_by who target) found) none in
    record {
      one = one_gone who target cookie (named t) (named u) held gone.names shown.one;
      resources = λ v resource. has_gone (is_held_by who target cookie) (is_at v resource) (listed_on t v resource) (listed_on u v resource)
          held _ (gone.resources v resource) (none (is_at v resource)) (shown.resources v resource);
      writers = λ other. has_gone (is_held_by who target cookie) (is_written_by other) (listed_of t other) (listed_of u other) held _
          (gone.writers other) (none (is_written_by other)) (shown.writers other);
    }

-- A lock is held that wasn't: it comes to the lists where it belongs.
pub record Puts (t u : Holdings) (h : Held) : Type 0 where
  pub names : (other : Who) (v d : ℕ) → named u other v d ≡ (if same_name h.who h.target h.lock.cookie.0 other v d then Some h.lock
      else named t other v d)
  pub resources : (v : ℕ) (resource : Resource) → listed_on u v resource
      ≡ (if is_at v resource h then listed_on t v resource ++ h ∷ [] else listed_on t v resource)
  pub writers : (other : Who) → listed_of u other ≡ (if is_written_by other h then listed_of t other ++ h ∷ [] else listed_of t other)

pub put_more : (t u : Holdings) (h : Held) → Puts t u h → (held : List Held) → ShowsHoldings t held → named t h.who h.target h.lock.cookie.0
    ≡ None → ShowsHoldings u (h ∷ held)
put_more t u h puts held shown free = record {
  one = one_more h (named t) (named u) held puts.names free shown.one;
  resources = λ v resource. has_more (is_at v resource) h (listed_on t v resource) (listed_on u v resource) held _ refl
      (puts.resources v resource) (shown.resources v resource);
  writers = λ other. has_more (is_written_by other) h (listed_of t other) (listed_of u other) held _ refl (puts.writers other)
      (shown.writers other);
}
