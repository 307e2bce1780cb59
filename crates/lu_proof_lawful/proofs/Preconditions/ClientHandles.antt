-- The handles of a client: between its turns its rows have each handle bound to the file that its calls say. The rows unbind just after
-- a close begins, and bind just before an open is told. And how many calls are on an open.
use Rattle.std.proofs.Common.{◌≡◌, ℕ, zero, suc, ◌≤◌, Bool, true, false, List, [], ◌∷◌, Option, Some, None, refl, sym, subst, ap, ◌∙◌}
use Rattle.std.proofs.Common.{arith}
use Rattle.std.specs.Prelude.{nat_eq, not, if◌then◌else◌, is_some, length, filter}
use Rattle.std.proofs.lemmas.Bool.{cond_both, cond-false, eqb-true}
use Rattle.lu_base.specs.declared.ids.At.{At}
use Rattle.lu_base.specs.declared.ids.Node.TheVariants.{Client}
use Rattle.lu_base.specs.declared.ids.Stamp.{Stamp}
use Rattle.lu_base.specs.declared.ids.Who.{Who}
use Rattle.lu_msg.specs.declared.answers.Answer.{Answer}
use Rattle.lu_msg.specs.declared.answers.Answer.TheVariants as answer
use Rattle.lu_msg.specs.declared.calls.Call.{Call}
use Rattle.lu_msg.specs.declared.calls.Call.TheVariants as call
use Rattle.lu_spec_entries.specs.Carried.{HandleFile, Work, Running}
use Rattle.lu_spec_entries.specs.Words.{Entry, Tick, Begin, Told, Life, Binds, Unbinds, Line, line, with_turn, is_client}
use Rattle.lu_spec_entries.specs.Fields.{on}
use Rattle.lu_spec_client.specs.Calls.{Bound, unbound, reads_handles, handles_after, handles_at, file_of, call_on, calls_at}
use Rattle.lu_spec_client.specs.Starts.{is_on, count_on}
use Rattle.lu_proof_lawful.specs.Covered.Calls.{call_at, opened, opened_by, binds, told_file, begun_file, file_at, is_bad}
use Rattle.lu_proof_lawful.proofs.Preconditions.Lists.{self, turn}

-- its rows have each handle bound to that file
abbrev pub Tied : ℕ → List Line → Type 0
Tied c past = (h : ℕ) → file_of h (handles_at c past) ≡ file_at c h past

-- ---- lists of bound handles

same_both : {A : Type 0} (b : Bool) (x : A) → (if b then x else x) ≡ x
same_both true x = refl
same_both false x = refl

unbound_is : (h g : ℕ) (hs : List Bound) → file_of h (unbound g hs) ≡ (if nat_eq g h then None else file_of h hs)
unbound_is h g [] = sym (same_both (nat_eq g h) None)
unbound_is h g (b ∷ hs) = by (nat_eq b.handle g) (nat_eq g h) (nat_eq b.handle h) refl refl refl (unbound_is h g hs)
  where
    U : List Bound
    U = unbound g hs

    by : (bg gh bh : Bool) → nat_eq b.handle g ≡ bg → nat_eq g h ≡ gh → nat_eq b.handle h ≡ bh → file_of h U
        ≡ (if nat_eq g h then None else file_of h hs)
        → file_of h (if not bg then b ∷ U else U) ≡ (if gh then None else (if bh then Some b.file else file_of h hs))
    by true true bh e f i ih = ih ∙ ap (λ (x : Bool). if x then None else file_of h hs) f
    by true false true e f i ih =
        let q : nat_eq g h ≡ true = ap (λ (n : ℕ). nat_eq n h) (sym (eqb-true b.handle g e)) ∙ i in
        absurd (cc)
    by true false false e f i ih = ih ∙ ap (λ (x : Bool). if x then None else file_of h hs) f
    by false true true e f i ih =
        let q : nat_eq b.handle g ≡ true = ap (λ (n : ℕ). nat_eq b.handle n) (eqb-true g h f) ∙ i in
        absurd (cc)
    by false true false e f i ih = ap (λ (x : Bool). if x then Some b.file else file_of h U) i ∙ ih
        ∙ ap (λ (x : Bool). if x then None else file_of h hs) f
    by false false true e f i ih = ap (λ (x : Bool). if x then Some b.file else file_of h U) i
    by false false false e f i ih = ap (λ (x : Bool). if x then Some b.file else file_of h U) i ∙ ih
        ∙ ap (λ (x : Bool). if x then None else file_of h hs) f

-- ---- what calls say of handles

-- what the rows do just after a call begins
abbrev pub unbinding : Call → List Entry
unbinding (call.Close h) = Unbinds h ∷ []
unbinding x = []

-- and just before it is told
abbrev pub binding : Call → Answer → List Entry
binding (call.Open h path) (answer.OpenFile fid number layout) = Binds h (record { fid = fid; number = number; layout = layout }) ∷ []
binding x a = []

-- a call that is told, as a call and what it opened
abbrev called_file : ℕ → Call → Option HandleFile → Option HandleFile → Option HandleFile
called_file h (call.Open other path) file old = if nat_eq other h then binds file old else old
called_file h x file old = old

told_called : (h : ℕ) (r : Running) (old : Option HandleFile) → told_file h (Some r) old ≡ called_file h r.call (opened r.asking) old
told_called h r old = by r.call
  where
    by : (x : Call) → (elim x [ call.Open other path ↦ if nat_eq other h then binds (opened r.asking) old else old | _ ↦ old ])
        ≡ called_file h x (opened r.asking) old
    by (call.Open other path) = refl
    by x = refl

-- one that opened nothing
none_called : (h : ℕ) (x : Call) (old : Option HandleFile) → called_file h x None old ≡ old
none_called h (call.Open other path) old = same_both (nat_eq other h) old
none_called h x old = refl

-- one that is no open
abbrev pub IsNoOpen : Call → Type 0
IsNoOpen (call.Open h path) = ⊥
IsNoOpen x = Unit {0}

opens_nothing : (h : ℕ) (x : Call) (file old : Option HandleFile) → IsNoOpen x → called_file h x file old ≡ old
opens_nothing h (call.Open g path) file old n = absurd n
opens_nothing h x file old n = refl

-- a call begins that closes nothing, or nothing that is bound
pub closes_nothing : (h : ℕ) (x : Call) (old : Option HandleFile) → unbinding x ≡ [] → begun_file h x old ≡ old
closes_nothing h (call.Close g) old e = absurd (cc)
closes_nothing h x old e = refl

pub none_there : (f : Option HandleFile) → not (is_some f) ≡ true → f ≡ None
none_there None e = refl
none_there (Some f) e = absurd (cc)

pub closes_unbound : (c : ℕ) (p : List Line) (x : Call) → is_bad c p x ≡ true → (h : ℕ) → begun_file h x (file_at c h p) ≡ file_at c h p
closes_unbound c p (call.Close g) bad h =
    cond_both (nat_eq g h) None (file_at c h p) (λ (f : Option HandleFile). f ≡ file_at c h p)
    (λ t. sym (ap (λ (u : ℕ). file_at c u p) (sym (eqb-true g h t)) ∙ none_there (file_at c g p) bad)) (λ t. refl)
closes_unbound c p x bad h = refl

-- ---- lines of the client

module _ (c : ℕ) (stamp : Stamp) where
  abbrev here : At
  here = turn stamp (Client c)

  handles_line : (p : List Line) (e : Entry) → handles_at c (line here e ∷ p) ≡ handles_after (handles_at c p) e
  handles_line p e = ap (λ (own : Bool). on (reads_handles e) own (handles_after (handles_at c p) e) (handles_at c p)) (self c) ∙ by e
    where
      by : (e : Entry) → on (reads_handles e) true (handles_after (handles_at c p) e) (handles_at c p) ≡ handles_after (handles_at c p) e
      by Tick = refl
      by e = refl

  begun_line : (p : List Line) (slot : ℕ) (r : Running) (h : ℕ) → file_at c h (line here (Begin slot r) ∷ p)
      ≡ begun_file h r.call (file_at c h p)
  begun_line p slot r h = ap (λ (own : Bool). if own then begun_file h r.call (file_at c h p) else file_at c h p) (self c)

  told_line : (p : List Line) (slot : ℕ) (t : At) (a : Answer) (w : Option Work) (h : ℕ) → file_at c h (line here (Told slot t a w) ∷ p)
      ≡ told_file h (call_at c slot p) (file_at c h p)
  told_line p slot t a w h = ap (λ (own : Bool). if own then told_file h (call_at c slot p) (file_at c h p) else file_at c h p) (self c)

  pub begun_tied : (p : List Line) (slot : ℕ) (r : Running) → ((h : ℕ) → begun_file h r.call (file_at c h p) ≡ file_at c h p) → Tied c p
      → Tied c (line here (Begin slot r) ∷ p)
  begun_tied p slot r still tied h = tied h ∙ sym (begun_line p slot r h ∙ still h)

  pub closed_tied : (p : List Line) (slot : ℕ) (r : Running) (g : ℕ) → r.call ≡ call.Close g → Tied c p
      → Tied c (line here (Unbinds g) ∷ line here (Begin slot r) ∷ p)
  closed_tied p slot r g is tied h =
      ap (file_of h) (handles_line (line here (Begin slot r) ∷ p) (Unbinds g))
      ∙ unbound_is h g (handles_at c p)
      ∙ ap (λ (f : Option HandleFile). if nat_eq g h then None else f) (tied h)
      ∙ sym (begun_line p slot r h ∙ ap (λ (x : Call). begun_file h x (file_at c h p)) is)

  -- a call is told whose request wasn't answered
  pub told_tied : (p : List Line) (slot : ℕ) (t : At) (a : Answer) (w : Option Work) (r : Running) → call_at c slot p ≡ Some r
      → opened r.asking ≡ None → Tied c p → Tied c (line here (Told slot t a w) ∷ p)
  told_tied p slot t a w r is none tied h =
      tied h
      ∙ sym (told_line p slot t a w h
      ∙ ap (λ (x : Option Running). told_file h x (file_at c h p)) is
      ∙ told_called h r (file_at c h p)
      ∙ ap (λ (f : Option HandleFile). called_file h r.call f (file_at c h p)) none
      ∙ none_called h r.call (file_at c h p))

  -- or one that is no open
  pub other_tied : (p : List Line) (slot : ℕ) (t : At) (a : Answer) (w : Option Work) (r : Running) → call_at c slot p ≡ Some r
      → IsNoOpen r.call → Tied c p → Tied c (line here (Told slot t a w) ∷ p)
  other_tied p slot t a w r is other tied h =
      tied h
      ∙ sym (told_line p slot t a w h
      ∙ ap (λ (x : Option Running). told_file h x (file_at c h p)) is
      ∙ told_called h r (file_at c h p)
      ∙ opens_nothing h r.call (opened r.asking) (file_at c h p) other)

  -- or one that was answered so
  pub heard_tied : (p : List Line) (slot : ℕ) (t : At) (given : Answer) (w : Option Work) (r : Running) (x : Call) (a : Answer)
      → call_at c slot p ≡ Some r → r.call ≡ x → opened r.asking ≡ opened_by a → Tied c p
      → Tied c (line here (Told slot t given w) ∷ with_turn here (binding x a) p)
  heard_tied p slot t given w r x a is of_call of_answer tied h = by x a said
    where
      old : Option HandleFile
      old = file_at c h p

      said : told_file h (call_at c slot p) old ≡ called_file h x (opened_by a) old
      said =
          ap (λ (y : Option Running). told_file h y old) is ∙ told_called h r old
          ∙ ap (λ (y : Call). called_file h y (opened r.asking) old) of_call
          ∙ ap (λ (f : Option HandleFile). called_file h x f old) of_answer

      Goal : Call → Answer → Type 0
      Goal x a = file_of h (handles_at c (line here (Told slot t given w) ∷ with_turn here (binding x a) p))
          ≡ file_at c h (line here (Told slot t given w) ∷ with_turn here (binding x a) p)

      quiet : (f : Option HandleFile) → told_file h (call_at c slot p) old ≡ f → f ≡ old → file_of h (handles_at c p)
          ≡ file_at c h (line here (Told slot t given w) ∷ p)
      quiet f e still = tied h ∙ sym (told_line p slot t given w h ∙ e ∙ still)

      by : (x : Call) (a : Answer) → told_file h (call_at c slot p) old ≡ called_file h x (opened_by a) old → Goal x a
      by (call.Open g path) (answer.OpenFile fid number layout) e =
          let file : HandleFile = record { fid = fid; number = number; layout = layout } in
          ap (file_of h) (handles_line p (Binds g file))
          ∙ ap (λ (f : Option HandleFile). if nat_eq g h then Some file else f) (tied h)
          ∙ sym (told_line (line here (Binds g file) ∷ p) slot t given w h ∙ e)
      by (call.Open g path) a e = quiet (called_file h (call.Open g path) (opened_by a) old) e (none_called h (call.Open g path) old)
      by x a e = quiet (called_file h x (opened_by a) old) e refl

  -- a new life has none
  pub new_tied : (p : List Line) (who : Who) → Tied c (line here (Life who) ∷ p)
  new_tied p who h = ap (file_of h) (handles_line p (Life who)) ∙ sym (ap (λ (own : Bool). if own then None else file_at c h p) (self c))

-- a turn of another node leaves them
pub file_other : (c h : ℕ) (at : At) (es : List Entry) (past : List Line) → is_client c at.node ≡ false → file_at c h (with_turn at es past)
    ≡ file_at c h past
file_other c h at [] past other = refl
file_other c h at (e ∷ es) past other = file_other c h at es (line at e ∷ past) other ∙ by e
  where
    old : Option HandleFile
    old = file_at c h past

    by : (e : Entry) → file_at c h (line at e ∷ past) ≡ file_at c h past
    by (Begin slot r) = ap (λ (own : Bool). if own then begun_file h r.call old else old) other
    by (Told slot t a w) = ap (λ (own : Bool). if own then told_file h (call_at c slot past) old else old) other
    by (Life who) = ap (λ (own : Bool). if own then None else old) other
    by e = refl

-- ---- how many calls are on an open

none_on : (n : ℕ) (calls : List (Option Running)) → ((s : ℕ) → is_on n (call_on s calls) ≡ false) → filter (is_on n) calls ≡ []
none_on n [] f = refl
none_on n (x ∷ calls) f = cond-false (is_on n x) (x ∷ filter (is_on n) calls) (filter (is_on n) calls) (f 0)
    ∙ none_on n calls (λ s. f (suc s))

-- a call that is on it is counted
pub count_self : (n s : ℕ) (calls : List (Option Running)) → is_on n (call_on s calls) ≡ true → 1 ≤ count_on n calls
count_self n s [] e = absurd (cc)
count_self n zero (x ∷ calls) e = subst (λ (b : Bool). 1 ≤ length (if b then x ∷ filter (is_on n) calls else filter (is_on n) calls))
    (sym e) (omega arith)
count_self n (suc s) (x ∷ calls) e = by (is_on n x) (count_self n s calls e)
  where
    by : (b : Bool) → 1 ≤ count_on n calls → 1 ≤ length (if b then x ∷ filter (is_on n) calls else filter (is_on n) calls)
    by true low = omega arith
    by false low = low

-- where the calls that are on it are on it still, they are as many or more
count_lists : (n : ℕ) (xs ys : List (Option Running)) → ((s : ℕ) → is_on n (call_on s xs) ≡ true → is_on n (call_on s ys) ≡ true)
    → count_on n xs ≤ count_on n ys
count_lists n [] ys f = omega arith
count_lists n (x ∷ xs) [] f = subst (λ (zs : List (Option Running)). length zs ≤ 0)
    (sym (none_on n (x ∷ xs) (λ s. by s (is_on n (call_on s (x ∷ xs))) refl))) (omega arith)
  where
    by : (s : ℕ) (b : Bool) → is_on n (call_on s (x ∷ xs)) ≡ b → b ≡ false
    by s true e = absurd (let q = f s e in cc)
    by s false e = refl
count_lists n (x ∷ xs) (y ∷ ys) f = by (is_on n x) (is_on n y) refl refl (count_lists n xs ys (λ s. f (suc s)))
  where
    by : (a b : Bool) → is_on n x ≡ a → is_on n y ≡ b → count_on n xs ≤ count_on n ys
        → length (if a then x ∷ filter (is_on n) xs else filter (is_on n) xs) ≤ length
        (if b then y ∷ filter (is_on n) ys else filter (is_on n) ys)
    by true true p q low = omega (arith, low)
    by true false p q low = absurd (let r = f 0 p in cc)
    by false true p q low = omega (arith, low)
    by false false p q low = low

pub count_more : (c n : ℕ) (p q : List Line) → ((s : ℕ) → is_on n (call_at c s p) ≡ true → is_on n (call_at c s q) ≡ true)
    → count_on n (calls_at c p) ≤ count_on n (calls_at c q)
count_more c n p q f = count_lists n (calls_at c p) (calls_at c q) on
  where
    on : (s : ℕ) → is_on n (call_on s (calls_at c p)) ≡ true → is_on n (call_on s (calls_at c q)) ≡ true
    on zero e = f 0 e
    on (suc zero) e = f 1 e
    on (suc (suc zero)) e = f 2 e
    on (suc (suc (suc zero))) e = f 3 e
    on (suc (suc (suc (suc s)))) e = absurd (cc)
