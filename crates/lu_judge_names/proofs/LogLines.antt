-- The logs, line by line, and what is seen in them.
use Rattle.std.proofs.Common.{◌≡◌, ℕ, ◌<◌, ◌≤◌, ◌⊎◌, inl, inr, Bool, true, false, not, List, [], ◌∷◌, ◌++◌, map, refl, ap, ◌∙◌, sym, subst}
use Rattle.std.proofs.Common.{arith, ⊎_elim}
use Rattle.std.specs.Prelude.{reverse, filter, ◌==◌, ◌&&◌, nat_lt, if◌then◌else◌, Option}
use Rattle.std.proofs.lemmas.Bool.{ltb-true, ltb-false, eqb-true, eq-eqb}
use Rattle.std.proofs.lemmas.List.{reverse-append, map-append}
use Rattle.std.proofs.lemmas.List.Elements.{filter-append}
use Rattle.lu_base.specs.declared.ids.At.{At}
use Rattle.lu_base.specs.declared.ids.Node.{Node}
use Rattle.lu_base.specs.declared.ids.Node.TheVariants.{Target}
use Rattle.lu_base.specs.declared.ids.Txn.{Txn as TxnOf}
use Rattle.lu_base.specs.declared.ids.Who.{Who}
use Rattle.lu_base.specs.declared.ids.Xid.{Xid}
use Rattle.lu_msg.specs.declared.answers.Answer.{Answer}
use Rattle.lu_msg.specs.declared.operations.Op.{Op}
use Rattle.lu_part.specs.declared.parts.Part.{Part}
use Rattle.lu_spec_machine.specs.Seen.{meet}
use Rattle.lu_trace.specs.declared.entries.Entry.{Entry}
use Rattle.lu_trace.specs.declared.entries.Entry.TheVariants.{Txn, Commit}
use Rattle.lu_spec_laws.specs.Words.Pasts.{Past, is_target}
use Rattle.lu_spec_laws.specs.Words.Requests.{asked}
use Rattle.lu_spec_laws.specs.Words.Boots.{committed}
use Rattle.lu_spec_laws.specs.Words.Seen.{Written, writes_of, request_writes, written, is_seen, seen_of}
use Rattle.lu_judge_names.specs.declared.logs.Written.{Written as Logged}
use Rattle.lu_judge_names.specs.Logs as logs
use Rattle.lu_judge_names.specs.Formed.{IsFormed, AreFormed}
use Rattle.lu_judge_names.specs.Seen.{written_of, is_over, ShowsLog, RisesAt, RisesBy}
use Rattle.lu_judge_names.proofs.FormedLines.{asked_formed}

reverse_cons : {A : Type 0} (x : A) (xs : List A) → reverse (x ∷ xs) ≡ reverse xs ++ x ∷ []
reverse_cons x xs = reverse-append (x ∷ []) xs

-- ---- one more transaction

over_more : (above : ℕ) (log : List Logged) (w : Logged) (ws : List Written) (v : Written) → written_of w ≡ v
    → filter (is_over above) (map written_of log) ≡ filter (is_over above) (reverse ws)
    → filter (is_over above) (map written_of (log ++ w ∷ [])) ≡ filter (is_over above) (reverse (v ∷ ws))
over_more above log w ws v is same =
    ap (filter (is_over above)) (map-append written_of log (w ∷ []))
    ∙ filter-append (is_over above) (map written_of log) (written_of w ∷ [])
    ∙ ap (λ (xs : List Written). xs ++ filter (is_over above) (written_of w ∷ [])) same
    ∙ ap (λ (x : Written). filter (is_over above) (reverse ws) ++ filter (is_over above) (x ∷ [])) is
    ∙ sym (filter-append (is_over above) (reverse ws) (v ∷ []))
    ∙ ap (filter (is_over above)) (sym (reverse_cons v ws))

-- ---- what is let go

below_over : (c above n : ℕ) → c ≤ above → nat_lt c n ≡ false → nat_lt above n ≡ false
below_over c above n le below = by (nat_lt above n) refl where
  by : (b : Bool) → nat_lt above n ≡ b → b ≡ false
  by true e = let over : above < n = ltb-true above n e in let under : n ≤ c = ltb-false c n below in absurd (omega arith)
  by false e = refl

pub trimmed_same : (c above : ℕ) (log : List Logged) → c ≤ above → filter (is_over above) (map written_of (filter (logs.is_above c) log))
    ≡ filter (is_over above) (map written_of log)
trimmed_same c above [] le = refl
trimmed_same c above (w ∷ log) le = by (nat_lt c w.number) refl (trimmed_same c above log le) where
  by : (b : Bool) → nat_lt c w.number ≡ b → filter (is_over above) (map written_of (filter (logs.is_above c) log))
      ≡ filter (is_over above) (map written_of log)
      → filter (is_over above) (map written_of (if b then w ∷ filter (logs.is_above c) log else filter (logs.is_above c) log))
      ≡ filter (is_over above) (map written_of (w ∷ log))
  by true e same = ap (λ (ws : List Written). if nat_lt above w.number then written_of w ∷ ws else ws) same
  by false e same = rw (below_over c above w.number le e) same

-- ---- lines

pub txn_line : (osts t : ℕ) (log new : List Logged) (w : Logged) (past : Past) (here : At) (number : TxnOf) (who : Who) (xid : Xid)
    (seen : List ℕ) (answer : Answer) (b : Bool) → is_target t here.node ≡ b
    → new ≡ (if b then log ++ w ∷ [] else log) → (b ≡ true → written_of w
    ≡ record { number = number.0; writes = request_writes osts t past number who xid.0 })
    → ShowsLog osts t log past → ShowsLog osts t new (record { at = here; entry = Txn number who xid seen answer } ∷ past)
txn_line osts t log new w past here number who xid seen answer true at is wrote shows = λ above le.
    rw (is, at) (over_more above log w (written osts t past) (record
    { number = number.0; writes = request_writes osts t past number who xid.0 }) (wrote refl) (shows above le))
txn_line osts t log new w past here number who xid seen answer false at is wrote shows = λ above le. rw (is, at) (shows above le)

pub commit_line : (osts t : ℕ) (log new : List Logged) (past : Past) (here : At) (number : TxnOf) (b : Bool) → is_target t here.node ≡ b
    → (b ≡ true → committed t past ≤ number.0)
    → (new ≡ log) ⊎ ((b ≡ true) × (new ≡ filter (logs.is_above number.0) log))
    → ShowsLog osts t log past → ShowsLog osts t new (record { at = here; entry = Commit number } ∷ past)
commit_line osts t log new past here number true at rises (inl is) shows = λ above le.
    let over : number.0 ≤ above = subst (λ (n : ℕ). n ≤ above) (now true at) le in
    let under : committed t past ≤ number.0 = rises refl in
    rw is (shows above (omega arith))
  where
    now : (b : Bool) → is_target t here.node ≡ true → committed t (record { at = here; entry = Commit number } ∷ past) ≡ number.0
    now b e = rw e refl
commit_line osts t log new past here number true at rises (inr is) shows = λ above le.
    let over : number.0 ≤ above = subst (λ (n : ℕ). n ≤ above) (now true at) le in
    let under : committed t past ≤ number.0 = rises refl in
    rw is.1 (trimmed_same number.0 above log over ∙ shows above (omega arith))
  where
    now : (b : Bool) → is_target t here.node ≡ true → committed t (record { at = here; entry = Commit number } ∷ past) ≡ number.0
    now b e = rw e refl
commit_line osts t log new past here number false at rises (inl is) shows = λ above le.
    rw is (shows above (subst (λ (n : ℕ). n ≤ above) now le))
  where
    now : committed t (record { at = here; entry = Commit number } ∷ past) ≡ committed t past
    now = rw at refl
commit_line osts t log new past here number false at rises (inr is) shows = absurd (cc (is.0))

-- the same of all targets, where the line is given by equations
pub txn_step : (osts : ℕ) (old new : ℕ → List Logged) (target : ℕ) (writes : List Part) (past : Past) (here : At) (e : Entry)
    (number : TxnOf) (who : Who) (xid : Xid) (seen : List ℕ) (answer : Answer) (op : Option Op)
    → here.node ≡ Target target → e ≡ Txn number who xid seen answer → op ≡ asked past target who xid.0
    → (IsFormed op → writes ≡ writes_of osts target past number who op) → AreFormed past
    → ((t : ℕ) → new t ≡ (if target == t then old t ++ record { number = number.0; writes = writes } ∷ [] else old t))
    → ((t : ℕ) → ShowsLog osts t (old t) past)
    → (t : ℕ) → ShowsLog osts t (new t) (record { at = here; entry = e } ∷ past)
txn_step osts old new target writes past here e number who xid seen answer op node is asks wrote formed put shows t =
    subst (λ (e : Entry). ShowsLog osts t (new t) (record { at = here; entry = e } ∷ past)) (sym is)
    (txn_line osts t (old t) (new t) (record { number = number.0; writes = writes }) past here number who xid seen answer (target == t)
    (ap (is_target t) node) (put t) of_target (shows t))
  where
    all : writes ≡ request_writes osts target past number who xid.0
    all =
        let of_op : IsFormed op = subst IsFormed (sym asks) (asked_formed past target who xid.0 formed) in
        wrote of_op ∙ ap (writes_of osts target past number who) asks

    of_target : (target == t) ≡ true → written_of (record { number = number.0; writes = writes })
        ≡ record { number = number.0; writes = request_writes osts t past number who xid.0 }
    of_target same =
        let at_target : (u : ℕ) → target ≡ u → writes ≡ request_writes osts u past number who xid.0 =
        λ u e. subst (λ (v : ℕ). writes ≡ request_writes osts v past number who xid.0) e all in
        ap (λ (ws : List Part). let w : Written = record { number = number.0; writes = ws } in w) (at_target t (eqb-true target t same))

pub commit_step : (osts : ℕ) (old new : ℕ → List Logged) (target : ℕ) (past : Past) (here : At) (e : Entry) (number : TxnOf)
    → here.node ≡ Target target → e ≡ Commit number → RisesBy past here.node e
    → ((t : ℕ) → (new t ≡ old t) ⊎ ((target ≡ t) × (new t ≡ filter (logs.is_above number.0) (old t))))
    → ((t : ℕ) → ShowsLog osts t (old t) past)
    → (t : ℕ) → ShowsLog osts t (new t) (record { at = here; entry = e } ∷ past)
commit_step osts old new target past here e number node is rises put shows t =
    subst (λ (e : Entry). ShowsLog osts t (new t) (record { at = here; entry = e } ∷ past)) (sym is)
    (commit_line osts t (old t) (new t) past here number (target == t) (ap (is_target t) node) of_target
    (⊎_elim (λ (same : new t ≡ old t). inl same) (λ (less : (target ≡ t) × (new t ≡ filter (logs.is_above number.0) (old t))). inr
    (eq-eqb target t less.0, less.1)) (put t))
    (shows t))
  where
    rises_at : RisesAt past (Target target) number
    rises_at =
        let P : Entry → Type 0 = λ e. RisesBy past here.node e in
        let at_commit : RisesAt past here.node number = subst P is rises in
        subst (λ (n : Node). RisesAt past n number) node at_commit

    of_target : (target == t) ≡ true → committed t past ≤ number.0
    of_target same = subst (λ (u : ℕ). committed u past ≤ number.0) (eqb-true target t same) rises_at

-- a line of another node, or of another kind
pub other_line : (osts t : ℕ) (log : List Logged) (past : Past) (here : At) (e : Entry) → is_target t here.node ≡ false
    → ShowsLog osts t log past → ShowsLog osts t log (record { at = here; entry = e } ∷ past)
other_line osts t log past here (Txn number who xid seen answer) at shows = λ above le. rw at (shows above le)
other_line osts t log past here (Commit number) at shows = λ above le. shows above (subst (λ (n : ℕ). n ≤ above) now le)
  where
    now : committed t (record { at = here; entry = Commit number } ∷ past) ≡ committed t past
    now = rw at refl
other_line osts t log past here _ at shows = λ above le. shows above le

-- ---- what is seen

only_over : (above : ℕ) (lost : ℕ → Bool) (touched : List Part) (ws : List Written) → filter (is_seen above lost touched) ws
    ≡ filter (is_seen above lost touched) (filter (is_over above) ws)
only_over above lost touched [] = refl
only_over above lost touched (w ∷ ws) = by (nat_lt above w.number) refl (only_over above lost touched ws) where
  by : (b : Bool) → nat_lt above w.number ≡ b → filter (is_seen above lost touched) ws
      ≡ filter (is_seen above lost touched) (filter (is_over above) ws)
      → filter (is_seen above lost touched) (w ∷ ws) ≡ filter (is_seen above lost touched)
      (if b then w ∷ filter (is_over above) ws else filter (is_over above) ws)
  by true e same = ap (λ (xs : List Written). if is_seen above lost touched w then w ∷ xs else xs) same
  by false e same = ap (λ (b : Bool). if b && not (lost w.number) && meet w.writes touched then w ∷ filter (is_seen above lost touched) ws
      else filter (is_seen above lost touched) ws) e ∙ same

number_of : Written → ℕ
number_of w = w.number

abbrev standing : (ℕ → Bool) → List ℕ → List ℕ
standing lost ns = filter (λ n. not (lost n)) ns

kept : (lost : ℕ → Bool) (above : ℕ) (touched : List Part) (log : List Logged) → standing lost (logs.seen_by above touched log)
    ≡ map (λ (w : Written). w.number) (filter (is_seen above lost touched) (map written_of log))
kept lost above touched [] = refl
kept lost above touched (w ∷ log) = by (nat_lt above w.number) (lost w.number) refl (meet w.writes touched)
    (kept lost above touched log) where
      by : (a l : Bool) → lost w.number ≡ l → (m : Bool) → standing lost (logs.seen_by above touched log)
          ≡ map (λ (v : Written). v.number) (filter (is_seen above lost touched) (map written_of log))
          → standing lost (map logs.number (if a && m then w ∷ filter (logs.is_seen above touched) log
          else filter (logs.is_seen above touched) log))
          ≡ map (λ (v : Written). v.number) (if a && not l && m then written_of w ∷ filter (is_seen above lost touched) (map written_of log)
          else filter (is_seen above lost touched) (map written_of log))
      by true true e true same = rw e same
      by true true e false same = same
      by true false e true same = rw e (ap (λ (ns : List ℕ). w.number ∷ ns) same)
      by true false e false same = same
      by false true e m same = same
      by false false e m same = same

pub seen_shown : (osts t : ℕ) (log : List Logged) (past : Past) (lost : ℕ → Bool) (touched : List Part) → ShowsLog osts t log past
    → standing lost (logs.seen_by (committed t past) touched log) ≡ seen_of (committed t past) lost touched (written osts t past)
seen_shown osts t log past lost touched shows =
    let above = committed t past in
    kept lost above touched log
    ∙ ap (map (λ (w : Written). w.number))
    (only_over above lost touched (map written_of log)
    ∙ ap (filter (is_seen above lost touched)) (shows above (omega arith))
    ∙ sym (only_over above lost touched (reverse (written osts t past))))
