-- Requests that wait, by life and number: which of them are one, and which is found once some left or another came.
use Rattle.std.proofs.Common.{◌≡◌, ◌==◌, Bool, true, false, cond, List, [], ◌∷◌, ◌++◌, filter, Some, refl, sym, subst, ◌∙◌, arith}
use Rattle.std.specs.Prelude.{if◌then◌else◌, All}
use Rattle.std.proofs.lemmas.List.Elements.{All-filter, All-tail, All-head, filter_passes}
use Rattle.lu_base.specs.declared.ids.Who.{Who}
use Rattle.lu_base.specs.declared.ids.Xid.{Xid}
use Rattle.lu_msg.specs.declared.messages.Request.{Request}
use Rattle.lu_spec_target.specs.Locks.{same_request}
use Rattle.lu_target_refines.proofs.Slots.{never, same_self, place_back, place_of_one}
use Rattle.lu_target_invariant.specs.Requests.{is_named, request_of}

-- ---- lists

-- what holds of those that pass a test
pub all_passed : {A : Type 0} (P Q : A → Type 0) (test : A → Bool) (xs : List A) → ((x : A) → test x ≡ true → P x → Q x) → All P xs
    → All Q (filter test xs)
all_passed P Q test xs f all = λ k d within. f _ (filter_passes test xs k d within) (All-filter test P xs all k d within)

pub all_none : {A : Type 0} (P : A → Type 0) (xs : List A) → xs ≡ [] → All P xs
all_none P xs none = subst (All P) (sym none) (λ k d within. absurd (omega arith))

-- ---- which are one

pub same_turned : (q r : Request) → same_request q r ≡ same_request r q
same_turned q r = place_back q.who r.who q.xid.0 r.xid.0

pub named_itself : (r : Request) → is_named r.who r.xid r ≡ true
named_itself r = by (r.xid.0 == r.xid.0) refl where
  by : (own : Bool) → (r.xid.0 == r.xid.0) ≡ own → is_named r.who r.xid r ≡ true
  by true e = rw (same_self r.who, e) refl
  by false e = absurd (grind arith)

-- what names the one names the other
pub named_as : (who : Who) (xid : Xid) (q r : Request) → same_request q r ≡ true → is_named who xid q ≡ is_named who xid r
named_as who xid q r same =
    place_back who q.who xid.0 q.xid.0 ∙ place_of_one q.who r.who who q.xid.0 r.xid.0 xid.0 same ∙ place_back r.who who r.xid.0 xid.0

-- ---- which is found

pub found_is_named : (who : Who) (xid : Xid) (queue : List Request) (r : Request) → request_of who xid queue ≡ Some r → is_named who xid r
    ≡ true
found_is_named who xid [] r found = absurd (cc)
found_is_named who xid (q ∷ queue) r found = by (is_named who xid q) refl found (found_is_named who xid queue r) where
  by : (here : Bool) → is_named who xid q ≡ here → (if here then Some q else request_of who xid queue) ≡ Some r
      → (request_of who xid queue ≡ Some r → is_named who xid r ≡ true) → is_named who xid r ≡ true
  by true e found rest = let one : q ≡ r = some_is found in subst (λ x. is_named who xid x ≡ true) one e where
    some_is : Some q ≡ Some r → q ≡ r
    some_is f = cc
  by false e found rest = rest found

-- all that holds of those that wait
pub found_holds : (P : Request → Type 0) (who : Who) (xid : Xid) (queue : List Request) (r : Request) → All P queue
    → request_of who xid queue ≡ Some r → P r
found_holds P who xid [] r all found = absurd (cc)
found_holds P who xid (q ∷ queue) r all found = by (is_named who xid q) found (found_holds P who xid queue r (All-tail P q queue all)) where
  some_is : Some q ≡ Some r → q ≡ r
  some_is f = cc

  by : (here : Bool) → (if here then Some q else request_of who xid queue) ≡ Some r → (request_of who xid queue ≡ Some r → P r) → P r
  by true found rest = subst P (some_is found) (All-head P q queue all)
  by false found rest = rest found

-- some left, and none of that name
pub found_kept : (test : Request → Bool) (who : Who) (xid : Xid) (queue : List Request) (r : Request)
    → ((q : Request) → is_named who xid q ≡ true → test q ≡ true) → request_of who xid queue ≡ Some r
    → request_of who xid (filter test queue) ≡ Some r
found_kept test who xid [] r keeps found = found
found_kept test who xid (q ∷ queue) r keeps found = by (is_named who xid q) refl (test q) refl found
    (found_kept test who xid queue r keeps) where
      by : (here : Bool) → is_named who xid q ≡ here → (stays : Bool) → test q ≡ stays → (if here then Some q else request_of who xid queue)
          ≡ Some r
          → (request_of who xid queue ≡ Some r → request_of who xid (filter test queue) ≡ Some r)
          → request_of who xid (cond stays (q ∷ filter test queue) (filter test queue)) ≡ Some r
      by true e true f found rest = rw e found
      by true e false f found rest = absurd (never (sym (keeps q e) ∙ f))
      by false e true f found rest = rw e (rest found)
      by false e false f found rest = rest found

-- others came behind
pub found_more : (who : Who) (xid : Xid) (queue more : List Request) (r : Request) → request_of who xid queue ≡ Some r
    → request_of who xid (queue ++ more) ≡ Some r
found_more who xid [] more r found = absurd (cc)
found_more who xid (q ∷ queue) more r found = by (is_named who xid q) found (found_more who xid queue more r) where
  by : (here : Bool) → (if here then Some q else request_of who xid queue) ≡ Some r
      → (request_of who xid queue ≡ Some r → request_of who xid (queue ++ more) ≡ Some r)
      → (if here then Some q else request_of who xid (queue ++ more)) ≡ Some r
  by true found rest = found
  by false found rest = rest found

-- it came itself, and is apart from all before it
pub found_last : (queue : List Request) (r : Request) → All (λ q. same_request q r ≡ false) queue → request_of r.who r.xid (queue ++ r ∷ [])
    ≡ Some r
found_last [] r apart = rw (named_itself r) refl
found_last (q ∷ queue) r apart =
    let other : is_named r.who r.xid q ≡ false = same_turned r q ∙ All-head (λ x. same_request x r ≡ false) q queue apart in
    rw other (found_last queue r (All-tail (λ x. same_request x r ≡ false) q queue apart))
