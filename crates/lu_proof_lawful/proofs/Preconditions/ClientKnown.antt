-- What a client knows of a path doesn't change by its pins: a fact is looked up by its part and by whether its lock is held and unmarked.
-- So
-- the locks under which something is known are held, and none of them is marked.
use Rattle.std.proofs.Common.{◌≡◌, ℕ, Bool, true, false, List, [], ◌∷◌, ◌++◌, ◌⊎◌, inl, inr, ⊎_elim, Option, Some, None, refl, sym, subst}
use Rattle.std.proofs.Common.{ap, ◌∙◌}
use Rattle.std.specs.Prelude.{nat_eq, nat_lt, ◌&&◌, ◌||◌, not, if◌then◌else◌, filter}
use Rattle.std.proofs.lemmas.Bool.{and_parts, eqb-true, not-true}
use Rattle.lu_base.specs.declared.ids.Cookie.{Cookie}
use Rattle.lu_base.specs.declared.ids.Fid.{Fid}
use Rattle.lu_part.specs.declared.parts.Part.{Part}
use Rattle.lu_part.specs.declared.parts.Part.TheVariants as part
use Rattle.lu_msg.specs.declared.answers.Answer.{Answer}
use Rattle.lu_msg.specs.declared.answers.Answer.TheVariants as answer
use Rattle.lu_msg.specs.declared.calls.Call.{Call}
use Rattle.lu_msg.specs.declared.calls.Call.TheVariants as call
use Rattle.lu_held.specs.declared.locks.Change.TheVariants as change
use Rattle.lu_held.specs.declared.locks.HeldLock.{HeldLock}
use Rattle.lu_held.specs.declared.names.LockName.{LockName}
use Rattle.lu_held.specs.Locks.{named, name_of, is_named, after}
use Rattle.lu_held.specs.Held.{changed}
use Rattle.lu_spec_client.specs.Facts.{Fact, root}
use Rattle.lu_spec_client.specs.Known.{Notes, Known, KnownFile, Found, same_part, is_usable, lesser, of_least_cookie, fact_on, with_cookie}
use Rattle.lu_spec_client.specs.Known.{nothing_found, walked, found_at_path}
use Rattle.lu_spec_client.specs.Known.{known_of, lookup_known, known_with, list_at, list_known, layout_at, layout_known, directory_at}
use Rattle.lu_spec_client.specs.Known.{directory_known}
use Rattle.lu_spec_client.specs.Known.{file_with, file_facts, file_at, file_known, cookie_of, cookies_of_file, with_name, names_of}
use Rattle.lu_spec_client.specs.Known as known
use Rattle.lu_proof_lawful.specs.Covered.Known.{told_of, known_answer, known_file}
use Rattle.lu_proof_lawful.proofs.Preconditions.Guards.{In}
use Rattle.lu_proof_lawful.proofs.Preconditions.Lists.{in_append, in_filter}
use Rattle.lu_proof_lawful.proofs.Preconditions.ClientLocks.{Once, any_true, changed_only}
use Rattle.lu_proof_lawful.proofs.Preconditions.ClientLines.{once_same, some_is}

filter_same : {A : Type 0} (f g : A → Bool) → ((x : A) → f x ≡ g x) → (xs : List A) → filter f xs ≡ filter g xs
filter_same f g same [] = refl
filter_same f g same (x ∷ xs) = rw (same x, filter_same f g same xs) refl

abbrev notes : List Fact → List HeldLock → Notes
notes facts held = record { facts = facts; held = held }

-- ---- under locks that are usable alike

module _ (facts : List Fact) (a b : List HeldLock) (alike : (k : Cookie) → is_usable k a ≡ is_usable k b) where
  fact_same : (p : Part) → fact_on p (notes facts a) ≡ fact_on p (notes facts b)
  fact_same p =
      ap of_least_cookie (filter_same (λ (f : Fact). same_part p f.part && is_usable f.cookie a)
      (λ (f : Fact). same_part p f.part && is_usable f.cookie b) (λ f. ap (λ (u : Bool). same_part p f.part && u) (alike f.cookie))
      facts)

  walked_same : (names : List (List ℕ)) (x : Answer) → walked (notes facts a) names x ≡ walked (notes facts b) names x
  walked_same [] x = refl
  walked_same (name ∷ names) (answer.Dir d) =
      ap (λ (o : Option Fact). elim o [ None ↦ nothing_found | Some f ↦ with_cookie f.cookie (walked (notes facts a) names f.answer) ])
      (fact_same (part.Name d name))
      ∙ by (fact_on (part.Name d name) (notes facts b)) (λ f. walked_same names f.answer)
    where
      by : (o : Option Fact) → ((f : Fact) → walked (notes facts a) names f.answer ≡ walked (notes facts b) names f.answer)
          → ◌≡◌ {A = Found} (elim o [ None ↦ nothing_found | Some f ↦ with_cookie f.cookie (walked (notes facts a) names f.answer) ])
          (elim o [ None ↦ nothing_found | Some f ↦ with_cookie f.cookie (walked (notes facts b) names f.answer) ])
      by None more = refl
      by (Some f) more = ap (with_cookie f.cookie) (more f)
  walked_same (name ∷ names) x = refl

  found_same : (path : List (List ℕ)) → found_at_path (notes facts a) path ≡ found_at_path (notes facts b) path
  found_same path = walked_same path (answer.Dir root)

  list_same : (found : Found) (o : Option Answer) → list_at (notes facts a) found o ≡ list_at (notes facts b) found o
  list_same found (Some (answer.Dir d)) = ap (known_with found) (fact_same (part.List d))
  list_same found o = refl

  layout_same : (found : Found) (o : Option Answer) → layout_at (notes facts a) found o ≡ layout_at (notes facts b) found o
  layout_same found (Some (answer.File f)) = ap (known_with found) (fact_same (part.Layout f))
  layout_same found o = refl

  directory_same : (found : Found) (o : Option Answer) → directory_at (notes facts a) found o ≡ directory_at (notes facts b) found o
  directory_same found (Some (answer.Dir d)) = ap (known_with found) (fact_same (part.Attr d))
  directory_same found o = refl

  pub known_same : (c : Call) → known_answer (notes facts a) c ≡ known_answer (notes facts b) c
  known_same (call.Lookup path) = ap (λ (f : Found). told_of (lookup_known f)) (found_same path)
  known_same (call.List path) =
      let found = found_at_path (notes facts b) path in
      ap (λ (f : Found). told_of (list_known (notes facts a) f)) (found_same path) ∙ ap told_of (list_same found found.inode)
  known_same (call.Layout path) =
      let found = found_at_path (notes facts b) path in
      ap (λ (f : Found). told_of (layout_known (notes facts a) f)) (found_same path) ∙ ap told_of (layout_same found found.inode)
  known_same (call.Stat path) =
      let found = found_at_path (notes facts b) path in
      ap (λ (f : Found). told_of (directory_known (notes facts a) f)) (found_same path) ∙ ap told_of (directory_same found found.inode)
  known_same c = refl

  file_same : (found : Found) (o : Option Answer) → file_at (notes facts a) found o ≡ file_at (notes facts b) found o
  file_same found (Some (answer.File f)) =
      ap (λ (x : Option Fact). file_facts found x (fact_on (part.Layout f) (notes facts a))) (fact_same (part.Attr f))
      ∙ ap (file_facts found (fact_on (part.Attr f) (notes facts b))) (fact_same (part.Layout f))
  file_same found o = refl

  pub known_file_same : (c : Call) → known_file (notes facts a) c ≡ known_file (notes facts b) c
  known_file_same (call.Stat path) = let found = found_at_path (notes facts b) path in ap (file_known (notes facts a)) (found_same path)
      ∙ file_same found found.inode
  known_file_same c = refl

  pub cookies_same : (path : List (List ℕ)) (fid : Fid) → cookies_of_file (notes facts a) path fid
      ≡ cookies_of_file (notes facts b) path fid
  cookies_same path fid =
      ap (λ (f : Found). f.cookies ++ cookie_of (fact_on (part.Attr fid) (notes facts a))
      ++ cookie_of (fact_on (part.Layout fid) (notes facts a))) (found_same path)
      ∙ ap (λ (x : Option Fact). (found_at_path (notes facts b) path).cookies ++ cookie_of x
      ++ cookie_of (fact_on (part.Layout fid) (notes facts a))) (fact_same (part.Attr fid))
      ∙ ap (λ (x : Option Fact). (found_at_path (notes facts b) path).cookies ++ cookie_of (fact_on (part.Attr fid) (notes facts b))
      ++ cookie_of x) (fact_same (part.Layout fid))

-- ---- a pinned lock is as usable as before

pub usable_pinned : (k : Cookie) (n : LockName) (held : List HeldLock) → is_usable k (changed n change.Pin held) ≡ is_usable k held
usable_pinned k n [] = refl
usable_pinned k n (h ∷ held) = ap (λ (u : Bool). u || is_usable k (changed n change.Pin held)) (by (is_named n h))
    ∙ ap (λ (u : Bool). usable h || u) (usable_pinned k n held)
  where
    usable : HeldLock → Bool
    usable x = nat_eq x.target.0 0 && nat_eq x.lock.cookie.0 k.0 && not x.marked

    by : (b : Bool) → usable (if b then after change.Pin h else h) ≡ usable h
    by true = refl
    by false = refl

pub known_pinned : (facts : List Fact) (n : LockName) (held : List HeldLock) (c : Call)
    → known_answer (record { facts = facts; held = changed n change.Pin held }) c ≡ known_answer (record { facts = facts; held = held }) c
known_pinned facts n held c = known_same facts (changed n change.Pin held) held (λ k. usable_pinned k n held) c

pub known_file_pinned : (facts : List Fact) (n : LockName) (held : List HeldLock) (c : Call)
    → known_file (record { facts = facts; held = changed n change.Pin held }) c ≡ known_file (record { facts = facts; held = held }) c
known_file_pinned facts n held c = known_file_same facts (changed n change.Pin held) held (λ k. usable_pinned k n held) c

pub cookies_pinned : (facts : List Fact) (n : LockName) (held : List HeldLock) (path : List (List ℕ)) (fid : Fid)
    → cookies_of_file (record { facts = facts; held = changed n change.Pin held }) path fid
    ≡ cookies_of_file (record { facts = facts; held = held }) path fid
cookies_pinned facts n held path fid = cookies_same facts (changed n change.Pin held) held (λ k. usable_pinned k n held) path fid

-- ---- under which locks something is known

-- each of these locks is held and unmarked
abbrev pub AllUsable : List HeldLock → List Cookie → Type 0
AllUsable held cookies = (k : Cookie) → In k cookies → is_usable k held ≡ true

usable_append : (held : List HeldLock) (xs ys : List Cookie) → AllUsable held xs → AllUsable held ys → AllUsable held (xs ++ ys)
usable_append held xs ys first second k i = ⊎_elim (λ (j : In k xs). first k j) (λ (j : In k ys). second k j) (in_append k xs ys i)

pub least_in : (fs : List Fact) (f : Fact) → of_least_cookie fs ≡ Some f → In f fs
least_in [] f e = absurd (cc)
least_in (g ∷ fs) f e = by (of_least_cookie fs) (λ h q. least_in fs h q) (some_is (lesser g (of_least_cookie fs)) f e)
  where
    by : (o : Option Fact) → ((h : Fact) → o ≡ Some h → In h fs) → lesser g o ≡ f → In f (g ∷ fs)
    by None more q = inl q
    by (Some h) more q = or (nat_lt h.cookie.0 g.cookie.0) q
      where
        or : (b : Bool) → (if b then h else g) ≡ f → In f (g ∷ fs)
        or true q = inr (subst (λ (x : Fact). In x fs) q (more h refl))
        or false q = inl q

module _ (n : Notes) where
  fact_usable : (p : Part) (f : Fact) → fact_on p n ≡ Some f → is_usable f.cookie n.held ≡ true
  fact_usable p f e =
      let i = in_filter (λ (f : Fact). same_part p f.part && is_usable f.cookie n.held) f n.facts
      (least_in (filter (λ (f : Fact). same_part p f.part && is_usable f.cookie n.held) n.facts) f e) in
      (and_parts (same_part p f.part) (is_usable f.cookie n.held) i.1).1

  one_usable : (f : Fact) → is_usable f.cookie n.held ≡ true → AllUsable n.held (f.cookie ∷ [])
  one_usable f u k (inl e) = subst (λ (x : Cookie). is_usable x n.held ≡ true) e u
  one_usable f u k (inr i) = absurd i

  walked_usable : (names : List (List ℕ)) (x : Answer) → AllUsable n.held (walked n names x).cookies
  walked_usable [] x k i = absurd i
  walked_usable (name ∷ names) (answer.Dir d) k i = by (fact_on (part.Name d name) n) refl (λ f. walked_usable names f.answer k) i
    where
      by : (o : Option Fact) → fact_on (part.Name d name) n ≡ o
          → ((f : Fact) → In k (walked n names f.answer).cookies → is_usable k n.held ≡ true)
          → (let found : Found = elim o [ None ↦ nothing_found | Some f ↦ with_cookie f.cookie (walked n names f.answer) ]
          in In k found.cookies) → is_usable k n.held ≡ true
      by None e more j = absurd j
      by (Some f) e more (inl q) = subst (λ (x : Cookie). is_usable x n.held ≡ true) q (fact_usable (part.Name d name) f e)
      by (Some f) e more (inr j) = more f j
  walked_usable (name ∷ names) x k i = absurd i

  pub found_usable : (path : List (List ℕ)) → AllUsable n.held (found_at_path n path).cookies
  found_usable path = walked_usable path (answer.Dir root)

  module _ (found : Found) (usable : AllUsable n.held found.cookies) where
    pub lookup_usable : (x : Known) → lookup_known found ≡ Some x → AllUsable n.held x.cookies
    lookup_usable x e = by found.inode e
      where
        by : (o : Option Answer) → known_of found o ≡ Some x → AllUsable n.held x.cookies
        by None e = absurd (cc)
        by (Some a) e = subst (AllUsable n.held) (ap (λ (y : Known). y.cookies)
            (some_is (record { answer = a; cookies = found.cookies }) x e)) usable

    with_usable : (p : Part) (x : Known) → known_with found (fact_on p n) ≡ Some x → AllUsable n.held x.cookies
    with_usable p x e = by (fact_on p n) refl e
      where
        by : (o : Option Fact) → fact_on p n ≡ o → known_with found o ≡ Some x → AllUsable n.held x.cookies
        by None q e = absurd (cc)
        by (Some f) q e =
            subst (AllUsable n.held) (ap (λ (y : Known). y.cookies)
            (some_is (record { answer = f.answer; cookies = found.cookies ++ f.cookie ∷ [] }) x e))
            (usable_append n.held found.cookies (f.cookie ∷ []) usable (one_usable f (fact_usable p f q)))

    pub list_usable : (o : Option Answer) (x : Known) → list_at n found o ≡ Some x → AllUsable n.held x.cookies
    list_usable (Some (answer.Dir d)) x e = with_usable (part.List d) x e
    list_usable o x e = absurd (cc)

    pub layout_usable : (o : Option Answer) (x : Known) → layout_at n found o ≡ Some x → AllUsable n.held x.cookies
    layout_usable (Some (answer.File f)) x e = with_usable (part.Layout f) x e
    layout_usable o x e = absurd (cc)

    pub directory_usable : (o : Option Answer) (x : Known) → directory_at n found o ≡ Some x → AllUsable n.held x.cookies
    directory_usable (Some (answer.Dir d)) x e = with_usable (part.Attr d) x e
    directory_usable o x e = absurd (cc)

    with_cookies : (a l : Cookie) (x y : Answer) (f : KnownFile) → file_with found a l x y ≡ Some f → f.cookies ≡ found.cookies ++ a ∷ l
        ∷ []
    with_cookies a l (answer.FileStat fid mode links old) (answer.Layout layout) f e =
        ap (λ (g : KnownFile). g.cookies) (sym (some_is (record
        { fid = fid; mode = mode; links = links; layout = layout; cookies = found.cookies ++ a ∷ l ∷ [] }) f e))
    with_cookies a l x y f e = absurd (cc)

    facts_usable : (p q : Part) (f : KnownFile) → file_facts found (fact_on p n) (fact_on q n) ≡ Some f → AllUsable n.held f.cookies
    facts_usable p q f e = by (fact_on p n) (fact_on q n) refl refl e
      where
        by : (x y : Option Fact) → fact_on p n ≡ x → fact_on q n ≡ y → file_facts found x y ≡ Some f → AllUsable n.held f.cookies
        by (Some a) (Some l) s t e =
            subst (AllUsable n.held) (sym (with_cookies a.cookie l.cookie a.answer l.answer f e))
            (usable_append n.held found.cookies (a.cookie ∷ l.cookie ∷ []) usable
            (usable_append n.held (a.cookie ∷ []) (l.cookie ∷ []) (one_usable a (fact_usable p a s)) (one_usable l (fact_usable q l t))))
        by x y s t e = absurd (cc)

    pub file_usable : (o : Option Answer) (f : KnownFile) → file_at n found o ≡ Some f → AllUsable n.held f.cookies
    file_usable (Some (answer.File g)) f e = facts_usable (part.Attr g) (part.Layout g) f e
    file_usable o f e = absurd (cc)

  cookie_usable : (p : Part) → AllUsable n.held (cookie_of (fact_on p n))
  cookie_usable p k i = by (fact_on p n) refl i
    where
      by : (o : Option Fact) → fact_on p n ≡ o → In k (cookie_of o) → is_usable k n.held ≡ true
      by None e i = absurd i
      by (Some f) e i = one_usable f (fact_usable p f e) k i

  pub cookies_usable : (path : List (List ℕ)) (fid : Fid) → AllUsable n.held (cookies_of_file n path fid)
  cookies_usable path fid =
      usable_append n.held ((found_at_path n path).cookies ++ cookie_of (fact_on (part.Attr fid) n))
      (cookie_of (fact_on (part.Layout fid) n))
      (usable_append n.held (found_at_path n path).cookies (cookie_of (fact_on (part.Attr fid) n)) (found_usable path)
      (cookie_usable (part.Attr fid))) (cookie_usable (part.Layout fid))

-- each name is that of one of the locks
pub names_in : (cookies : List Cookie) (n : LockName) → In n (names_of cookies) → (k : Cookie) × In k cookies × (known.name_of k ≡ n)
names_in [] n i = absurd i
names_in (k ∷ cookies) n i = ⊎_elim (λ (e : known.name_of k ≡ n). (k, inl refl, e))
    (λ (j : In n (names_of cookies)). let r = names_in cookies n j in (r.0, inr r.1, r.2)) (put k (names_of cookies) i)
  where
    put : (k : Cookie) (names : List LockName) → In n (with_name k names) → (known.name_of k ≡ n) ⊎ In n names
    put k [] i = i
    put k (m ∷ names) i = by (nat_lt m.cookie.0 k.0) (nat_eq m.cookie.0 k.0) i (put k names)
      where
        by : (below same : Bool) → In n (if below then m ∷ with_name k names else (if same then m ∷ names else known.name_of k ∷ m ∷ names))
            → (In n (with_name k names) → (known.name_of k ≡ n) ⊎ In n names)
            → (known.name_of k ≡ n) ⊎ In n (m ∷ names)
        by true same (inl e) more = inr (inl e)
        by true same (inr j) more = ⊎_elim (λ (e : known.name_of k ≡ n). inl e) (λ (i : In n names). inr (inr i)) (more j)
        by false true j more = inr j
        by false false j more = j

-- no held lock of these names is marked
abbrev pub AllUnmarked : List HeldLock → List LockName → Type 0
AllUnmarked held names = (n : LockName) → In n names → (x : HeldLock) → In x held → is_named n x ≡ true → x.marked ≡ false

pub usable_unmarked : (held : List HeldLock) → Once held → (cookies : List Cookie) → AllUsable held cookies
    → AllUnmarked held (names_of cookies)
usable_unmarked held once cookies usable n i x j e =
    ap (λ (y : HeldLock). y.marked) (sym (once_same held h x once one.1 j (ap (λ (m : LockName). is_named m x) named_so ∙ e)))
    ∙ not-true h.marked both.1
  where
    from : (k : Cookie) × In k cookies × (known.name_of k ≡ n)
    from = names_in cookies n i

    one : (h : HeldLock) × In h held × ((nat_eq h.target.0 0 && nat_eq h.lock.cookie.0 from.0.0 && not h.marked) ≡ true)
    one = any_true (λ (h : HeldLock). nat_eq h.target.0 0 && nat_eq h.lock.cookie.0 from.0.0 && not h.marked) held (usable from.0 from.1)

    h : HeldLock
    h = one.0

    both : ((nat_eq h.target.0 0 && nat_eq h.lock.cookie.0 from.0.0) ≡ true) × (not h.marked ≡ true)
    both = and_parts (nat_eq h.target.0 0 && nat_eq h.lock.cookie.0 from.0.0) (not h.marked) one.2

    parts : (nat_eq h.target.0 0 ≡ true) × (nat_eq h.lock.cookie.0 from.0.0 ≡ true)
    parts = and_parts (nat_eq h.target.0 0) (nat_eq h.lock.cookie.0 from.0.0) both.0

    named_so : name_of h ≡ n
    named_so =
        ap (λ (t : ℕ). named (record { 0 = t }) h.lock.cookie) (eqb-true h.target.0 0 parts.0)
        ∙ ap (λ (k : ℕ). named (record { 0 = 0 }) (record { 0 = k })) (eqb-true h.lock.cookie.0 from.0.0 parts.1)
        ∙ from.2

-- a lock that is pinned is as marked as before
pub unmarked_pinned : (m : LockName) (held : List HeldLock) (names : List LockName) → AllUnmarked held names
    → AllUnmarked (changed m change.Pin held) names
unmarked_pinned m held names u n i x j e =
    let q = changed_only m change.Pin x held j in
    subst (λ (y : HeldLock). is_named n y ≡ true → y.marked ≡ false) q.2 (by q.0 (is_named m q.0) (u n i q.0 q.1)) e
  where
    by : (h : HeldLock) (b : Bool) → (is_named n h ≡ true → h.marked ≡ false) → is_named n (if b then after change.Pin h else h) ≡ true
        → (if b then after change.Pin h else h).marked ≡ false
    by h true f e = f e
    by h false f e = f e
