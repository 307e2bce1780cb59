-- Lines: what is read has the form and keeps the limits, and what has the form and keeps them is read.
use Rattle.std.proofs.Common.{◌≡◌, ℕ, ◌^◌, ◌<◌, ◌≤◌, Bool, true, false, cond, List, [], ◌∷◌, Option, Some, None, Result, Ok, refl, sym, ap}
use Rattle.std.proofs.Common.{subst, ◌∙◌, decimal, lit<}
use Rattle.std.specs.Prelude.{find}
use Rattle.std.specs.Str.{bytes_eq}
use Rattle.lu_base.specs.declared.ids.Node.{Node}
use Rattle.lu_base.specs.declared.ids.TargetId.{TargetId}
use Rattle.lu_msg.specs.declared.calls.Call.{Call}
use Rattle.lu_scene.specs.declared.faults.Fault.{Fault}
use Rattle.lu_scene.specs.declared.faults.Fault.TheVariants as faults
use Rattle.lu_scene.specs.declared.scene.Head.{Head}
use Rattle.lu_scene.specs.declared.scene.SceneLine.{SceneLine}
use Rattle.lu_scene.specs.declared.scene.SceneLine.TheVariants as lines
use Rattle.lu_scene.specs.declared.words.Header.{Header}
use Rattle.lu_scene.specs.declared.words.Header.TheVariants as headers
use Rattle.lu_scene.specs.declared.words.Verb.{Verb}
use Rattle.lu_scene.specs.declared.words.Verb.TheVariants as verbs
use Rattle.lu_scene.specs.declared.words.CallName.{CallName}
use Rattle.lu_scene.specs.declared.words.CallName.TheVariants as names
use Rattle.lu_scene.specs.Words.{header_text, all_headers, header_of, verb_text, all_verbs, verb_of, name_text, all_calls, call_name_of}
use Rattle.lu_scene.specs.Fields.{◌>>=◌, or_fault, number_in, client_at, target_at, node_at, slot_at}
use Rattle.lu_scene.specs.Calls.{call_of}
use Rattle.lu_scene.specs.Lines.{one_number, one_target, call_line, run_line, tick_line, commit_line, die_line, line_of}
use Rattle.lu_base.specs.Values.{client_text, target_text, node_text}
use Rattle.lu_scene.specs.Print.{slot_text}
use Rattle.lu_scene.specs.Grammar.{LineFits, IsForm, IsLine}
use Rattle.lu_scene.proofs.Options.{bind_ok, or_fault_ok, ok_is, bytes_same}
use Rattle.lu_scene.proofs.Readings.{number_in-read, number_in-again, client_at-read, client_at-again, target_at-read, target_at-again}
use Rattle.lu_scene.proofs.Readings.{node_at-read, node_at-again, slot_at-read, slot_at-again}
use Rattle.lu_scene.proofs.CallForms.{call_of-read, call_of-again}

abbrev there : {X : Type 0} → X → Option X
there x = Some x

some_is : {X : Type 0} (x y : X) → there x ≡ there y → x ≡ y
some_is x y e = cc

-- what is found passes the test
found_passes : {X : Type 0} (p : X → Bool) (xs : List X) (x : X) → find p xs ≡ Some x → p x ≡ true
found_passes p [] x e = absurd cc
found_passes p (y ∷ ys) x e = by (p y) refl (λ read. found_passes p ys x read) e
  where
    by : (b : Bool) → p y ≡ b → (find p ys ≡ Some x → p x ≡ true) → cond b (Some y) (find p ys) ≡ Some x → p x ≡ true
    by true is more read = subst (λ z. p z ≡ true) (some_is y x read) is
    by false is more read = more read

-- the word that names a line of the head, a verb or a call is its word
pub header_of-read : (word : List ℕ) (header : Header) → header_of word ≡ Some header → word ≡ header_text header
header_of-read word header e = sym (bytes_same (header_text header) word
    (found_passes (λ x. bytes_eq (header_text x) word) all_headers header e))

pub verb_of-read : (word : List ℕ) (verb : Verb) → verb_of word ≡ Some verb → word ≡ verb_text verb
verb_of-read word verb e = sym (bytes_same (verb_text verb) word (found_passes (λ x. bytes_eq (verb_text x) word) all_verbs verb e))

pub call_name_of-read : (word : List ℕ) (name : CallName) → call_name_of word ≡ Some name → word ≡ name_text name
call_name_of-read word name e = sym (bytes_same (name_text name) word (found_passes (λ x. bytes_eq (name_text x) word) all_calls name e))

pub header_of-again : (header : Header) → header_of (header_text header) ≡ Some header
header_of-again headers.Clients = refl
header_of-again headers.Osts = refl
header_of-again headers.Expire = refl
header_of-again headers.Dirty = refl
header_of-again headers.Unused = refl
header_of-again headers.Rounds = refl
header_of-again headers.Flight = refl

pub verb_of-again : (verb : Verb) → verb_of (verb_text verb) ≡ Some verb
verb_of-again verbs.Call = refl
verb_of-again verbs.Run = refl
verb_of-again verbs.Deliver = refl
verb_of-again verbs.Lose = refl
verb_of-again verbs.Tick = refl
verb_of-again verbs.Commit = refl
verb_of-again verbs.Crash = refl
verb_of-again verbs.Boot = refl
verb_of-again verbs.Close = refl
verb_of-again verbs.Die = refl

pub no_header : (verb : Verb) → header_of (verb_text verb) ≡ None
no_header verbs.Call = refl
no_header verbs.Run = refl
no_header verbs.Deliver = refl
no_header verbs.Lose = refl
no_header verbs.Tick = refl
no_header verbs.Commit = refl
no_header verbs.Crash = refl
no_header verbs.Boot = refl
no_header verbs.Close = refl
no_header verbs.Die = refl

pub call_name_of-again : (name : CallName) → call_name_of (name_text name) ≡ Some name
call_name_of-again names.Lookup = refl
call_name_of-again names.Stat = refl
call_name_of-again names.List = refl
call_name_of-again names.Layout = refl
call_name_of-again names.Mkdir = refl
call_name_of-again names.Create = refl
call_name_of-again names.Link = refl
call_name_of-again names.Unlink = refl
call_name_of-again names.Rmdir = refl
call_name_of-again names.Rename = refl
call_name_of-again names.Chmod = refl
call_name_of-again names.Open = refl
call_name_of-again names.Close = refl
call_name_of-again names.Read = refl
call_name_of-again names.Write = refl
call_name_of-again names.Cut = refl
call_name_of-again names.Flush = refl
call_name_of-again names.Glimpse = refl

-- a line that was read
abbrev pub WasLine : Head → Verb → List (List ℕ) → SceneLine → Type 0
WasLine head verb words line = LineFits head line × IsForm (verb_text verb ∷ words) line

pub one_number-read : (least most : ℕ) (words : List (List ℕ)) (n : ℕ) → one_number least most words ≡ Ok n → (words ≡ decimal n ∷ [])
    × (least ≤ n) × (n ≤ most)
one_number-read least most [] n e = absurd cc
one_number-read least most (word ∷ []) n e = let is = number_in-read least most word n e
    in (ap (λ (w : List ℕ). w ∷ []) is.text, is.low, is.high)
one_number-read least most (word ∷ second ∷ more) n e = absurd cc

-- a line of one number
number_line : (make : ℕ → SceneLine) (least most : ℕ) (words : List (List ℕ)) (line : SceneLine)
    → (one_number least most words >>= λ n. Ok (make n)) ≡ Ok line
    → (n : ℕ) × (words ≡ decimal n ∷ []) × (least ≤ n) × (n ≤ most) × (make n ≡ line)
number_line make least most words line e =
    let b = bind_ok (one_number least most words) (λ n. Ok (make n)) line e in
    let is = one_number-read least most words b.0 b.1 in
    (b.0, is.0, is.1, is.2, ok_is (make b.0) line b.2)

one_target-read : (osts : ℕ) (words : List (List ℕ)) (target : TargetId) → one_target osts words ≡ Ok target
    → (words ≡ target_text target.0 ∷ []) × (target.0 ≤ osts)
one_target-read osts [] target e = absurd cc
one_target-read osts (word ∷ []) target e = let is = target_at-read osts word target e in (ap (λ (w : List ℕ). w ∷ []) is.0, is.1)
one_target-read osts (word ∷ second ∷ more) target e = absurd cc

-- a line of one target
target_line : (make : TargetId → SceneLine) (osts : ℕ) (words : List (List ℕ)) (line : SceneLine)
    → (one_target osts words >>= λ t. Ok (make t)) ≡ Ok line
    → (target : TargetId) × (words ≡ target_text target.0 ∷ []) × (target.0 ≤ osts) × (make target ≡ line)
target_line make osts words line e =
    let b = bind_ok (one_target osts words) (λ t. Ok (make t)) line e in
    let is = one_target-read osts words b.0 b.1 in
    (b.0, is.0, is.1, ok_is (make b.0) line b.2)

call_line-read : (head : Head) (words : List (List ℕ)) (line : SceneLine) → call_line head words ≡ Ok line
    → WasLine head verbs.Call words line
call_line-read head [] line e = absurd cc
call_line-read head (place ∷ []) line e = absurd cc
call_line-read head (place ∷ word ∷ words) line e =
    let a = bind_ok (slot_at head.clients place) (λ slot. or_fault faults.UnknownCall (call_name_of word) >>= λ name. call_of name words >>=
    λ call. Ok (lines.Call slot.0 slot.1 call)) line e in
    let b = bind_ok (or_fault faults.UnknownCall (call_name_of word))
    (λ name. call_of name words >>= λ call. Ok (lines.Call a.0.0 a.0.1 call)) line a.2 in
    let d = bind_ok (call_of b.0 words) (λ call. Ok (lines.Call a.0.0 a.0.1 call)) line b.2 in
    let slot = slot_at-read head.clients place a.0 a.1 in
    let name = call_name_of-read word b.0 (or_fault_ok faults.UnknownCall (call_name_of word) b.0 b.1) in
    let call = call_of-read b.0 words d.0 d.1 in
    subst (λ (l : SceneLine). WasLine head verbs.Call (place ∷ word ∷ words) l) (ok_is (lines.Call a.0.0 a.0.1 d.0) line d.2) (
      (slot.1, slot.2, call.0),
      (
        name_text b.0 ∷ words,
        call.1,
        ap (λ (w : List ℕ). verb_text verbs.Call ∷ w ∷ word ∷ words) slot.0
            ∙ ap (λ (w : List ℕ). verb_text verbs.Call ∷ slot_text a.0.0 a.0.1 ∷ w ∷ words) name,
      ),
    )

run_line-read : (head : Head) (words : List (List ℕ)) (line : SceneLine) → run_line words ≡ Ok line → WasLine head verbs.Run words line
run_line-read head [] line e = subst (λ (l : SceneLine). WasLine head verbs.Run [] l) (ok_is lines.Run line e) (tt, refl)
run_line-read head (word ∷ words) line e =
    let r = number_line (λ n. lines.RunSome n) 1 65536 (word ∷ words) line e in
    subst (λ (l : SceneLine). WasLine head verbs.Run (word ∷ words) l) r.4
    ((r.2, r.3), ap (λ (ws : List (List ℕ)). verb_text verbs.Run ∷ ws) r.1)

tick_line-read : (head : Head) (words : List (List ℕ)) (line : SceneLine) → tick_line head words ≡ Ok line
    → WasLine head verbs.Tick words line
tick_line-read head [] line e = absurd cc
tick_line-read head (word ∷ second ∷ more) line e = absurd cc
tick_line-read head (word ∷ []) line e =
    let b = bind_ok (node_at head.clients head.osts word) (λ node. Ok (lines.Tick node)) line e in
    let is = node_at-read head word b.0 b.1 in
    subst (λ (l : SceneLine). WasLine head verbs.Tick (word ∷ []) l) (ok_is (lines.Tick b.0) line b.2)
    (is.1, ap (λ (w : List ℕ). verb_text verbs.Tick ∷ w ∷ []) is.0)

commit_line-read : (head : Head) (words : List (List ℕ)) (line : SceneLine) → commit_line head words ≡ Ok line
    → WasLine head verbs.Commit words line
commit_line-read head [] line e = absurd cc
commit_line-read head (word ∷ second ∷ third ∷ more) line e = absurd cc
commit_line-read head (word ∷ []) line e =
    let b = bind_ok (target_at head.osts word) (λ target. Ok (lines.Commit target)) line e in
    let is = target_at-read head.osts word b.0 b.1 in
    subst (λ (l : SceneLine). WasLine head verbs.Commit (word ∷ []) l) (ok_is (lines.Commit b.0) line b.2)
    (is.1, ap (λ (w : List ℕ). verb_text verbs.Commit ∷ w ∷ []) is.0)
commit_line-read head (word ∷ second ∷ []) line e =
    let a = bind_ok (target_at head.osts word) (λ target. number_in 1 65536 second >>= λ count. Ok (lines.CommitSome target count)) line e
    in
    let b = bind_ok (number_in 1 65536 second) (λ count. Ok (lines.CommitSome a.0 count)) line a.2 in
    let one = target_at-read head.osts word a.0 a.1 in
    let two = number_in-read 1 65536 second b.0 b.1 in
    subst (λ (l : SceneLine). WasLine head verbs.Commit (word ∷ second ∷ []) l) (ok_is (lines.CommitSome a.0 b.0) line b.2) (
      (one.1, two.low, two.high),
      ap (λ (w : List ℕ). verb_text verbs.Commit ∷ w ∷ second ∷ []) one.0
          ∙ ap (λ (w : List ℕ). verb_text verbs.Commit ∷ target_text a.0.0 ∷ w ∷ []) two.text,
    )

die_line-read : (head : Head) (words : List (List ℕ)) (line : SceneLine) → die_line head words ≡ Ok line → WasLine head verbs.Die words line
die_line-read head [] line e = absurd cc
die_line-read head (word ∷ second ∷ more) line e = absurd cc
die_line-read head (word ∷ []) line e =
    let b = bind_ok (client_at head.clients word) (λ client. Ok (lines.Die client)) line e in
    let is = client_at-read head.clients word b.0 b.1 in
    subst (λ (l : SceneLine). WasLine head verbs.Die (word ∷ []) l) (ok_is (lines.Die b.0) line b.2)
    (is.1, ap (λ (w : List ℕ). verb_text verbs.Die ∷ w ∷ []) is.0)

-- a line that is read has its form and keeps the limits
pub line_of-read : (head : Head) (verb : Verb) (words : List (List ℕ)) (line : SceneLine) → line_of head verb words ≡ Ok line
    → WasLine head verb words line
line_of-read head verbs.Call words line e = call_line-read head words line e
line_of-read head verbs.Run words line e = run_line-read head words line e
line_of-read head verbs.Tick words line e = tick_line-read head words line e
line_of-read head verbs.Commit words line e = commit_line-read head words line e
line_of-read head verbs.Die words line e = die_line-read head words line e
line_of-read head verbs.Deliver words line e =
    let r = number_line (λ n. lines.Deliver n) 1 1000000 words line e in
    subst (λ (l : SceneLine). WasLine head verbs.Deliver words l) r.4
    ((r.2, r.3), ap (λ (ws : List (List ℕ)). verb_text verbs.Deliver ∷ ws) r.1)
line_of-read head verbs.Lose words line e =
    let r = number_line (λ n. lines.Lose n) 1 1000000 words line e in
    subst (λ (l : SceneLine). WasLine head verbs.Lose words l) r.4 ((r.2, r.3), ap (λ (ws : List (List ℕ)). verb_text verbs.Lose ∷ ws) r.1)
line_of-read head verbs.Crash words line e =
    let r = target_line (λ t. lines.Crash t) head.osts words line e in
    subst (λ (l : SceneLine). WasLine head verbs.Crash words l) r.3 (r.2, ap (λ (ws : List (List ℕ)). verb_text verbs.Crash ∷ ws) r.1)
line_of-read head verbs.Boot words line e =
    let r = target_line (λ t. lines.Boot t) head.osts words line e in
    subst (λ (l : SceneLine). WasLine head verbs.Boot words l) r.3 (r.2, ap (λ (ws : List (List ℕ)). verb_text verbs.Boot ∷ ws) r.1)
line_of-read head verbs.Close words line e =
    let r = target_line (λ t. lines.Close t) head.osts words line e in
    subst (λ (l : SceneLine). WasLine head verbs.Close words l) r.3 (r.2, ap (λ (ws : List (List ℕ)). verb_text verbs.Close ∷ ws) r.1)

-- a head that has few nodes
pub record IsSmall (head : Head) : Type 0 where
  pub clients : head.clients ≤ 16
  pub osts : head.osts ≤ 8

-- a line of this form is read
abbrev pub Again : Head → List (List ℕ) → SceneLine → Type 0
Again head words line = (verb : Verb) × (more : List (List ℕ)) × (words ≡ verb_text verb ∷ more) × (line_of head verb more ≡ Ok line)

again_number : (make : ℕ → SceneLine) (least most n : ℕ) → least ≤ n → n ≤ most → most < 2 ^ 64
    → (one_number least most (decimal n ∷ []) >>= λ m. Ok (make m)) ≡ Ok (make n)
again_number make least most n low high small = ap (λ (r : Result ℕ Fault). r >>= λ m. Ok (make m))
    (number_in-again least most n low high small)

again_target : (make : TargetId → SceneLine) (osts : ℕ) (target : TargetId) → target.0 ≤ osts → osts ≤ 8
    → (one_target osts (target_text target.0 ∷ []) >>= λ t. Ok (make t)) ≡ Ok (make target)
again_target make osts target within few = ap (λ (r : Result TargetId Fault). r >>= λ t. Ok (make t))
    (target_at-again osts target within few)

again_call : (head : Head) (client slot : ℕ) (call : Call) (name : CallName) (words : List (List ℕ)) → client < head.clients → slot ≤ 3
    → head.clients ≤ 16 → call_of name words ≡ Ok call
    → call_line head (slot_text client slot ∷ name_text name ∷ words) ≡ Ok (lines.Call client slot call)
again_call head client slot call name words within low few read =
    ap (λ (r : Result (ℕ × ℕ) Fault). r >>= λ s. or_fault faults.UnknownCall (call_name_of (name_text name)) >>= λ n. call_of n words >>=
    λ c. Ok (lines.Call s.0 s.1 c)) (slot_at-again head.clients client slot within low few)
    ∙ ap (λ (o : Option CallName). or_fault faults.UnknownCall o >>= λ n. call_of n words >>= λ c. Ok (lines.Call client slot c))
    (call_name_of-again name)
    ∙ ap (λ (r : Result Call Fault). r >>= λ c. Ok (lines.Call client slot c)) read

-- a line that has its form and keeps the limits is read
pub line_of-again : (head : Head) (words : List (List ℕ)) (line : SceneLine) → IsSmall head → IsLine head words line → Again head words line
line_of-again head words (lines.Call client slot call) small (fits, (more, is, form)) =
    let r = call_of-again more call fits.2 is in (
      verbs.Call,
      slot_text client slot ∷ more,
      form,
      ap (λ (ws : List (List ℕ)). call_line head (slot_text client slot ∷ ws)) r.2
          ∙ again_call head client slot call r.0 r.1 fits.0 fits.1 small.clients r.3,
    )
line_of-again head words lines.Run small (fits, form) = (verbs.Run, [], form, refl)
line_of-again head words (lines.RunSome turns) small (fits, form) =
    (verbs.Run, decimal turns ∷ [], form, again_number (λ n. lines.RunSome n) 1 65536 turns fits.0 fits.1 (lit< tt))
line_of-again head words (lines.Deliver number) small (fits, form) =
    (verbs.Deliver, decimal number ∷ [], form, again_number (λ n. lines.Deliver n) 1 1000000 number fits.0 fits.1 (lit< tt))
line_of-again head words (lines.Lose number) small (fits, form) =
    (verbs.Lose, decimal number ∷ [], form, again_number (λ n. lines.Lose n) 1 1000000 number fits.0 fits.1 (lit< tt))
line_of-again head words (lines.Tick node) small (fits, form) = (
  verbs.Tick,
  node_text node ∷ [],
  form,
  ap (λ (r : Result Node Fault). r >>= λ n. Ok (lines.Tick n))
      (node_at-again head node fits small.clients small.osts),
)
line_of-again head words (lines.Commit target) small (fits, form) = (
  verbs.Commit,
  target_text target.0 ∷ [],
  form,
  ap (λ (r : Result TargetId Fault). r >>= λ t. Ok (lines.Commit t))
      (target_at-again head.osts target fits small.osts),
)
line_of-again head words (lines.CommitSome target count) small (fits, form) = (
  verbs.Commit,
  target_text target.0 ∷ decimal count ∷ [],
  form,
  ap (λ (r : Result TargetId Fault). r >>= λ t. number_in 1 65536 (decimal count) >>= λ n. Ok (lines.CommitSome t n))
      (target_at-again head.osts target fits.0 small.osts)
      ∙ ap (λ (r : Result ℕ Fault). r >>= λ n. Ok (lines.CommitSome target n)) (number_in-again 1 65536 count fits.1 fits.2 (lit< tt)),
)
line_of-again head words (lines.Crash target) small (fits, form) =
    (verbs.Crash, target_text target.0 ∷ [], form, again_target (λ t. lines.Crash t) head.osts target fits small.osts)
line_of-again head words (lines.Boot target) small (fits, form) =
    (verbs.Boot, target_text target.0 ∷ [], form, again_target (λ t. lines.Boot t) head.osts target fits small.osts)
line_of-again head words (lines.Close target) small (fits, form) =
    (verbs.Close, target_text target.0 ∷ [], form, again_target (λ t. lines.Close t) head.osts target fits small.osts)
line_of-again head words (lines.Die client) small (fits, form) = (
  verbs.Die,
  client_text client ∷ [],
  form,
  ap (λ (r : Result ℕ Fault). r >>= λ c. Ok (lines.Die c))
      (client_at-again head.clients client fits small.clients),
)
