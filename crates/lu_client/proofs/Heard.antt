-- The locks that a reply brings: in the rows they are held as the reply is heard, and the entries after it hold each of them
-- once more in its place; the code holds them one after another. Both come to the same.
use Rattle.std.proofs.Common.{◌≡◌, ℕ, Bool, true, false, not, ◌&&◌, ◌||◌, if◌then◌else◌, List, [], ◌∷◌, map, Option, refl, sym, ap, ◌∙◌}
use Rattle.lu_base.specs.declared.locks.Lock.{Lock}
use Rattle.lu_msg.specs.declared.messages.Reply.{Reply as ReplyTo}
use Rattle.lu_held.specs.declared.locks.HeldLock.{HeldLock}
use Rattle.lu_held.specs.declared.names.LockName.{LockName}
use Rattle.lu_held.specs.Held.{is_held}
use Rattle.lu_held.specs.Locks.{is_named, name_of, named}
use Rattle.lu_held.proofs.NameLaws.{same_self, same_is}
use Rattle.lu_spec_entries.specs.Carried.{Flight}
use Rattle.lu_spec_entries.specs.Words.{Entry, Heard}
use Rattle.lu_spec_client.specs.Caches.{brought, held_as, with_brought, with_held}
use Rattle.lu_spec_client.specs.Messages.{holds}
use Rattle.lu_spec_client.specs.States.{Store, store_after, store_turn}
use Rattle.lu_client_refines.specs.Turns.{held_turn, bytes_turn, sizes_turn, shown_turn, patches_turn}
use Rattle.lu_client_refines.proofs.Turns.{store_turns}
use Rattle.lu_client.specs.Comings.{are_new}

-- ---- a lock that is held as it came

-- A lock of this name is held, and each of this name is this one.
record IsPut (h : HeldLock) (held : List HeldLock) : Type 0 where
  pub there : is_held (name_of h) held ≡ true
  pub same : map (λ g. if is_named (name_of h) g then h else g) held ≡ held

-- it comes once more, and nothing changes
put_stays : (h : HeldLock) (held : List HeldLock) → IsPut h held → with_held h held ≡ held
put_stays h held put = rw put.there put.same

put_anew : (h : HeldLock) (held : List HeldLock) → is_held (name_of h) held ≡ false → with_held h held ≡ h ∷ held
put_anew h held absent = rw absent refl

not_first : (a b : Bool) → (a || b) ≡ false → (a ≡ false) × (b ≡ false)
not_first true b none = absurd (cc)
not_first false b none = (refl, none)

-- no lock of its name is held
others_stay : (h : HeldLock) (held : List HeldLock) → is_held (name_of h) held ≡ false
    → map (λ g. if is_named (name_of h) g then h else g) held ≡ held
others_stay h [] absent = refl
others_stay h (g ∷ held) absent =
    let n : (is_named (name_of h) g ≡ false) × (is_held (name_of h) held ≡ false) =
    not_first (is_named (name_of h) g) (is_held (name_of h) held) absent in
    rw n.0 (ap (λ (gs : List HeldLock). g ∷ gs) (others_stay h held n.1))

-- one that wasn't held comes
put_first : (h : HeldLock) (held : List HeldLock) → is_held (name_of h) held ≡ false → IsPut h (h ∷ held)
put_first h held absent =
    let here : is_named (name_of h) h ≡ true = same_self (name_of h) in
    record { there = rw here refl; same = rw here (ap (λ (gs : List HeldLock). h ∷ gs) (others_stay h held absent)) }

-- another one comes
put_more : (h g : HeldLock) (held : List HeldLock) → IsPut h held → is_held (name_of g) held ≡ false → IsPut h (g ∷ held)
put_more h g held put absent = by (is_named (name_of h) g) refl where
  by : (here : Bool) → is_named (name_of h) g ≡ here → IsPut h (g ∷ held)
  by true e =
      let held_so : is_held (name_of g) held ≡ true = ap (λ (n : LockName). is_held n held) (sym (same_is (name_of h) (name_of g) e))
      ∙ put.there in
      absurd (cc)
  by false e = record { there = rw (e, put.there) refl; same = rw e (ap (λ (gs : List HeldLock). g ∷ gs) put.same) }

-- ---- those that a reply brings

absent_first : (held rest : Bool) → (not held && rest) ≡ true → (held ≡ false) × (rest ≡ true)
absent_first true rest all = absurd (cc)
absent_first false rest all = (refl, all)

-- the first of them isn't held, and neither are the others after it
pub first_new : (t : ℕ) (l : Lock) (locks : List Lock) (held : List HeldLock) → are_new t (l ∷ locks) held ≡ true
    → (is_held (named (record { 0 = t }) l.cookie) held ≡ false) × (are_new t locks (with_held (held_as t l false) held) ≡ true)
first_new t l locks held new =
    absent_first (is_held (named (record { 0 = t }) l.cookie) held) (are_new t locks (with_held (held_as t l false) held)) new

-- one that was held before stays so
still_put : (t : ℕ) (h : HeldLock) (locks : List Lock) (held : List HeldLock) → are_new t locks held ≡ true → IsPut h held
    → IsPut h (with_brought t locks held)
still_put t h [] held new put = put
still_put t h (l ∷ locks) held new put =
    let n = first_new t l locks held new in
    let g : HeldLock = held_as t l false in
    still_put t h locks (with_held g held) n.1 (rw (put_anew g held n.0) (put_more h g held put n.0))

-- each is held as it came
abbrev ArePut : ℕ → List Lock → List HeldLock → Type 0
ArePut t [] held = Unit
ArePut t (l ∷ locks) held = IsPut (held_as t l false) held × ArePut t locks held

all_put : (t : ℕ) (locks : List Lock) (held : List HeldLock) → are_new t locks held ≡ true → ArePut t locks (with_brought t locks held)
all_put t [] held new = tt
all_put t (l ∷ locks) held new =
    let n = first_new t l locks held new in
    let g : HeldLock = held_as t l false in
    (still_put t g locks (with_held g held) n.1 (rw (put_anew g held n.0) (put_first g held n.0)), all_put t locks (with_held g held) n.1)

-- ---- the held locks

-- those that are held as they came are held once more
again : (t : ℕ) (size : Option ℕ) (seen : List ℕ) (locks : List Lock) (held : List HeldLock) → ArePut t locks held
    → held_turn held (holds t size seen locks) ≡ held
again t size seen [] held put = refl
again t size seen (l ∷ locks) held put =
    ap (λ (x : List HeldLock). held_turn x (holds t size seen locks)) (put_stays (held_as t l false) held put.0)
    ∙ again t size seen locks held put.1

-- one after another they come to what the reply brings
one_by_one : (t : ℕ) (size : Option ℕ) (seen : List ℕ) (locks : List Lock) (held : List HeldLock) → held_turn held (holds t size seen locks)
    ≡ with_brought t locks held
one_by_one t size seen [] held = refl
one_by_one t size seen (l ∷ locks) held = one_by_one t size seen locks (with_held (held_as t l false) held)

twice : (t : ℕ) (size : Option ℕ) (seen : List ℕ) (locks : List Lock) (held : List HeldLock) → are_new t locks held ≡ true
    → held_turn (with_brought t locks held) (holds t size seen locks) ≡ held_turn held (holds t size seen locks)
twice t size seen locks held new =
    again t size seen locks (with_brought t locks held) (all_put t locks held new) ∙ sym (one_by_one t size seen locks held)

-- ---- the whole store

-- that the reply brings them already changes nothing
pub store_heard : (t : ℕ) (f : Flight) (r : ReplyTo) (size : Option ℕ) (locks : List Lock) (s : Store) → locks ≡ brought f.op r
    → are_new t locks s.held ≡ true
    → store_turn s (Heard t f r ∷ holds t size r.seen locks) ≡ store_turn s (holds t size r.seen locks)
store_heard t f r size locks s is new =
    let es : List Entry = holds t size r.seen locks in
    let held : held_turn (with_brought t (brought f.op r) s.held) es ≡ held_turn s.held es =
    ap (λ (ls : List Lock). held_turn (with_brought t ls s.held) es) (sym is) ∙ twice t size r.seen locks s.held new in
    store_turns (store_after s (Heard t f r)) es
    ∙ ap (λ (x : List HeldLock). record {
      held = x;
      bytes = bytes_turn s.bytes es;
      sizes = sizes_turn s.sizes es;
      shown =
          shown_turn s.shown es;
      patches = patches_turn s.patches es;
    }) held
    ∙ sym (store_turns s es)
