-- Which locks that a message brings are new: those that aren't held, and that no other comes with.
use Rattle.std.proofs.Common.{◌≡◌, ℕ, ◌+◌, ◌^◌, nat_le, ◌<◌, ◌≤◌, ◌==◌, ◌&&◌, ◌||◌, Bool, true, false, not, if◌then◌else◌, List, [], ◌∷◌}
use Rattle.std.proofs.Common.{◌++◌, length, take, drop, get_or, map, Option, Some, None, is_some, refl, sym, ap, ◌∙◌}
use Rattle.std.specs.List.{find, list_any}
use Rattle.std.proofs.lemmas.List.{take_more, take-append-drop, take_all}
use Rattle.lu_base.specs.declared.ids.Cookie.{Cookie}
use Rattle.lu_base.specs.declared.locks.Lock.{Lock}
use Rattle.lu_client_refines.proofs.Lists.{self, both_true}
use Rattle.lu_spec_client.specs.Caches.{held_as, with_brought, with_held}
use Rattle.lu_spec_client.specs.Messages.{is_present, is_waiter, waiter}
use Rattle.lu_spec_client.specs.States.{Client}
use Rattle.lu_held.specs.declared.locks.HeldLock.{HeldLock}
use Rattle.lu_held.specs.declared.names.LockName.{LockName}
use Rattle.lu_held.specs.Held.{is_held}
use Rattle.lu_held.specs.Locks.{named}
use Rattle.lu_msg.specs.declared.messages.GrantNotice.{GrantNotice}
use Rattle.lu_spec_entries.specs.Carried.{Running}
use Rattle.lu_client.specs.Accepting.{cookies_of, has_cookie, is_new}
use Rattle.lu_client.specs.Comings.{are_new, may_grant, may_hold}

-- ---- one after another

not_false : (b : Bool) → not b ≡ true → b ≡ false
not_false true e = absurd (cc)
not_false false e = refl

-- locks and then others are new
pub news_more : (t : ℕ) (ls more : List Lock) (held : List HeldLock) → are_new t (ls ++ more) held
    ≡ (are_new t ls held && are_new t more (with_brought t ls held))
news_more t [] more held = refl
news_more t (l ∷ ls) more held = by (not (is_held (named (record { 0 = t }) l.cookie) held))
    (news_more t ls more (with_held (held_as t l false) held)) where
      by : (new : Bool) → are_new t (ls ++ more) (with_held (held_as t l false) held)
          ≡ (are_new t ls (with_held (held_as t l false) held) && are_new t more (with_brought t ls (with_held (held_as t l false) held)))
          → (new && are_new t (ls ++ more) (with_held (held_as t l false) held))
          ≡ ((new && are_new t ls (with_held (held_as t l false) held))
          && are_new t more (with_brought t ls (with_held (held_as t l false) held)))
      by true rest = rest
      by false rest = refl

either : (here was later : Bool) → ((here || was) || later) ≡ (was || (here || later))
either true true later = refl
either true false later = refl
either false true later = refl
either false false later = refl

-- after new ones a lock is held that was or that came
pub held_brought : (t : ℕ) (c : Cookie) (ls : List Lock) (held : List HeldLock) → are_new t ls held ≡ true
    → is_held (named (record { 0 = t }) c) (with_brought t ls held) ≡ (is_held (named (record { 0 = t }) c) held || has_cookie c.0 ls)
held_brought t c [] held new = by (is_held (named (record { 0 = t }) c) held) where
  by : (was : Bool) → was ≡ (was || false)
  by true = refl
  by false = refl
held_brought t c (l ∷ ls) held new =
    let name : LockName = named (record { 0 = t }) c in
    let next : List HeldLock = with_held (held_as t l false) held in
    let h : (not (is_held (named (record { 0 = t }) l.cookie) held) ≡ true) × (are_new t ls next ≡ true) =
    both_true (not (is_held (named (record { 0 = t }) l.cookie) held)) (are_new t ls next) new in
    let last : next ≡ held_as t l false ∷ held = rw (not_false (is_held (named (record { 0 = t }) l.cookie) held) h.0) refl in
    let here : ((t == t) && (c.0 == l.cookie.0)) ≡ (c.0 == l.cookie.0) = ap (λ (b : Bool). b && (c.0 == l.cookie.0)) (self t) in
    held_brought t c ls next h.1
    ∙ ap (λ (hs : List HeldLock). is_held name hs || has_cookie c.0 ls) last
    ∙ ap (λ (b : Bool). (b || is_held name held) || has_cookie c.0 ls) here
    ∙ either (c.0 == l.cookie.0) (is_held name held) (has_cookie c.0 ls)

-- so one more is new
one_more : (t : ℕ) (l : Lock) (ls : List Lock) (held : List HeldLock) → are_new t ls held ≡ true → are_new t (ls ++ l ∷ []) held
    ≡ is_new t l.cookie ls held
one_more t l ls held new =
    news_more t ls (l ∷ []) held
    ∙ ap (λ (b : Bool). b && are_new t (l ∷ []) (with_brought t ls held)) new
    ∙ ap (λ (b : Bool). not b && true) (held_brought t l.cookie ls held new)
    ∙ alone (not (is_held (named (record { 0 = t }) l.cookie) held || has_cookie l.cookie.0 ls))
  where
    alone : (b : Bool) → (b && true) ≡ b
    alone true = refl
    alone false = refl

-- ---- a list of them

pub news_step : (t : ℕ) (ls : List Lock) (i : ℕ) (d : Lock) (held : List HeldLock) → i < length ls → are_new t (take i ls) held ≡ true
    → is_new t (get_or ls i d).cookie (take i ls) held ≡ true → are_new t (take (i + 1) ls) held ≡ true
news_step t ls i d held inside new one =
    ap (λ (xs : List Lock). are_new t xs held) (take_more ls i d inside) ∙ one_more t (get_or ls i d) (take i ls) held new ∙ one

pub news_stop : (t : ℕ) (ls : List Lock) (i : ℕ) (d : Lock) (held : List HeldLock) → i < length ls → are_new t (take i ls) held ≡ true
    → is_new t (get_or ls i d).cookie (take i ls) held ≡ false → are_new t ls held ≡ false
news_stop t ls i d held inside new old =
    ap (λ (xs : List Lock). are_new t xs held) (sym (take-append-drop (i + 1) ls))
    ∙ news_more t (take (i + 1) ls) (drop (i + 1) ls) held
    ∙ ap (λ (b : Bool). b && are_new t (drop (i + 1) ls) (with_brought t (take (i + 1) ls) held))
    (ap (λ (xs : List Lock). are_new t xs held) (take_more ls i d inside) ∙ one_more t (get_or ls i d) (take i ls) held new ∙ old)

pub news_all : (t : ℕ) (ls : List Lock) (i : ℕ) (held : List HeldLock) → length ls ≤ i → are_new t (take i ls) held ≡ true
    → are_new t ls held ≡ true
news_all t ls i held past new = ap (λ (xs : List Lock). are_new t xs held) (sym (take_all i ls past)) ∙ new

-- ---- with a lock that is granted

pub brings_old : (t : ℕ) (ls more : List Lock) (held : List HeldLock) → are_new t ls held ≡ false → are_new t (ls ++ more) held ≡ false
brings_old t ls more held old = news_more t ls more held ∙ ap (λ (b : Bool). b && are_new t more (with_brought t ls held)) old

pub brings_none : (t : ℕ) (ls more : List Lock) (held : List HeldLock) → are_new t ls held ≡ true → map (λ (l : Lock). l.cookie) more
    ≡ cookies_of None → are_new t (ls ++ more) held ≡ true
brings_none t ls [] held new none = news_more t ls [] held ∙ ap (λ (b : Bool). b && true) new
brings_none t ls (l ∷ more) held new none = absurd (cc)

pub brings_one : (t : ℕ) (ls more : List Lock) (cookie : Cookie) (held : List HeldLock) → are_new t ls held ≡ true
    → map (λ (l : Lock). l.cookie) more ≡ cookies_of (Some cookie) → are_new t (ls ++ more) held ≡ is_new t cookie ls held
brings_one t ls [] cookie held new one = absurd (cc)
brings_one t ls (l ∷ []) cookie held new one =
    let same : l.cookie ≡ cookie = cc in
    one_more t l ls held new ∙ ap (λ (c : Cookie). is_new t c ls held) same
brings_one t ls (l ∷ m ∷ more) cookie held new one = absurd (cc)

-- ---- a call that waits for a lock

waiter_any : (name : LockName) (slot : ℕ) (calls : List (Option Running)) → is_some (waiter name slot calls)
    ≡ list_any (is_waiter name) calls
waiter_any name slot [] = refl
waiter_any name slot (call ∷ calls) = by (is_waiter name call) (waiter_any name (slot + 1) calls) where
  by : (here : Bool) → is_some (waiter name (slot + 1) calls) ≡ list_any (is_waiter name) calls
      → is_some (if here then Some slot else waiter name (slot + 1) calls) ≡ (here || list_any (is_waiter name) calls)
  by true rest = refl
  by false rest = rest

module _ (t : ℕ) (g : GrantNotice) (k : Client) where
  hold_as : (slot : Option ℕ) (waits : Bool) → is_some slot ≡ waits → may_hold t g k slot
      ≡ (if waits then may_hold t g k (Some 0) else true)
  hold_as None true e = absurd (cc)
  hold_as None false e = refl
  hold_as (Some slot) true e = refl
  hold_as (Some slot) false e = absurd (cc)

  abbrev name : LockName
  name = named (record { 0 = t }) g.cookie

  -- what is asked of a grant, where it is to this life and boot and a call waits for it, or doesn't
  pub grant_is : (waits : Bool) → true ≡ is_present g.who g.boot t k → waits ≡ list_any (is_waiter name) k.calls → may_grant t g k
      ≡ (if waits then may_hold t g k (Some 0) else true)
  grant_is waits present e =
      ap (λ (here : Bool). if here then may_hold t g k (waiter name 0 k.calls) else true) (sym present)
      ∙ hold_as (waiter name 0 k.calls) waits (waiter_any name 0 k.calls ∙ sym e)

  -- of one that a call waits for
  pub grant_waited : (held : Bool) → true ≡ is_present g.who g.boot t k → true ≡ list_any (is_waiter name) k.calls → held
      ≡ is_held name k.store.held → may_grant t g k ≡ (not held && nat_le g.size (2 ^ 40))
  grant_waited held present waits e = grant_is true present waits ∙ ap (λ (b : Bool). not b && nat_le g.size (2 ^ 40)) (sym e)

-- ---- a lock that is found

pub found_any : {X : Type 0} (p : X → Bool) (xs : List X) → is_some (find p xs) ≡ list_any p xs
found_any p [] = refl
found_any p (x ∷ xs) = by (p x) (found_any p xs) where
  by : (here : Bool) → is_some (find p xs) ≡ list_any p xs → is_some (if here then Some x else find p xs) ≡ (here || list_any p xs)
  by true rest = refl
  by false rest = rest
