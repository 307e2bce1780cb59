-- What was done before a request was first sent has a mark below that message's number.
use Rattle.std.proofs.Common.{◌≡◌, ℕ, suc, ◌≤◌, Bool, true, false, cond, Option, Some, None, List, [], ◌∷◌, map, refl, sym, ap, ◌∙◌, arith}
use Rattle.std.specs.Prelude.{nat_lt, ◌&&◌, if◌then◌else◌, filter}
use Rattle.std.specs.Option.{option_map}
use Rattle.std.proofs.lemmas.Bool.Decides.{nat_tests}
use Rattle.lu_base.specs.declared.ids.At.{At}
use Rattle.lu_base.specs.declared.ids.Fid.{Fid}
use Rattle.lu_base.specs.declared.ids.Who.{Who}
use Rattle.lu_msg.specs.declared.calls.Call.{Call}
use Rattle.lu_trace.specs.declared.entries.Entry.{Entry}
use Rattle.lu_trace.specs.declared.entries.Entry.TheVariants.{Send, Told}
use Rattle.lu_spec_laws.specs.Words.Pasts.{Past, or_else}
use Rattle.lu_spec_laws.specs.Words.Lives.{is_by}
use Rattle.lu_spec_laws.specs.Words.Sends.{sends}
use Rattle.lu_spec_laws.specs.Words.Calls.{Begun, open_call, file_of}
use Rattle.lu_spec_laws.specs.Words.Pieces.{is_file, is_done, with_call, done_calls, is_request, done_before}
use Rattle.lu_judge_calls.specs.Marks.{Mark, IsWithin}
use Rattle.lu_judge_calls.specs.PieceTables.{first_sent}
use Rattle.lu_judge_history.specs.Carried.{with_mark, marked, call_of, is_before, calls_before, HasNumber, Numbered}
use Rattle.lu_judge_history.specs.Limited.{Limited}
use Rattle.lu_judge_history.proofs.Limits.{OfBegun, call_within}

-- ---- the marked calls are the calls that are done

call_with : (fid : Fid) (n : ℕ) (begun : Option Begun) (marks : List Mark) → map call_of (with_mark fid n begun marks)
    ≡ with_call fid begun (map call_of marks)
call_with fid n None marks = refl
call_with fid n (Some begun) marks = by (is_file fid (file_of begun)) where
  by : (b : Bool) → map call_of (if b then (n, begun.call) ∷ marks else marks)
      ≡ (if b then begun.call ∷ map call_of marks else map call_of marks)
  by true = refl
  by false = refl

call_told : (fid : Fid) (n : ℕ) (begun : Option Begun) (marks : List Mark) (calls : List Call) (b : Bool) → map call_of marks ≡ calls
    → map call_of (if b then with_mark fid n begun marks else marks) ≡ (if b then with_call fid begun calls else calls)
call_told fid n begun marks calls true is = call_with fid n begun marks ∙ ap (λ (cs : List Call). with_call fid begun cs) is
call_told fid n begun marks calls false is = is

calls_line : (who : Who) (fid : Fid) (at : At) (e : Entry) (past : Past) → map call_of (marked who fid past) ≡ done_calls who fid past
    → map call_of (marked who fid (record { at = at; entry = e } ∷ past)) ≡ done_calls who fid (record { at = at; entry = e } ∷ past)
calls_line who fid at (Told slot turn answer) past is =
    call_told fid (sends past) (open_call who.client slot past) (marked who fid past) (done_calls who fid past)
    (is_by who past at.node && is_done answer) is
calls_line who fid at _ past is = is

pub calls_are : (who : Who) (fid : Fid) (past : Past) → map call_of (marked who fid past) ≡ done_calls who fid past
calls_are who fid [] = refl
calls_are who fid (l ∷ past) = calls_line who fid l.at l.entry past (calls_are who fid past)

-- ---- no mark is above the count of messages

abbrev pub AreUpTo : ℕ → List Mark → Type 0
AreUpTo n [] = Unit {0}
AreUpTo n (m ∷ marks) = (m.0 ≤ n) × AreUpTo n marks

up_with : (fid : Fid) (n : ℕ) (begun : Option Begun) (marks : List Mark) → AreUpTo n marks → AreUpTo n (with_mark fid n begun marks)
up_with fid n None marks up = up
up_with fid n (Some begun) marks up = by (is_file fid (file_of begun)) where
  by : (b : Bool) → AreUpTo n (if b then (n, begun.call) ∷ marks else marks)
  by true = (omega arith, up)
  by false = up

up_told : (fid : Fid) (n : ℕ) (begun : Option Begun) (marks : List Mark) (b : Bool) → AreUpTo n marks
    → AreUpTo n (if b then with_mark fid n begun marks else marks)
up_told fid n begun marks true up = up_with fid n begun marks up
up_told fid n begun marks false up = up

up_more : (n : ℕ) (marks : List Mark) → AreUpTo n marks → AreUpTo (suc n) marks
up_more n [] up = tt
up_more n (m ∷ marks) up = (omega arith, up_more n marks up.1)

up_line : (who : Who) (fid : Fid) (at : At) (e : Entry) (past : Past) → AreUpTo (sends past) (marked who fid past)
    → AreUpTo (sends (record { at = at; entry = e } ∷ past)) (marked who fid (record { at = at; entry = e } ∷ past))
up_line who fid at (Told slot turn answer) past up =
    up_told fid (sends past) (open_call who.client slot past) (marked who fid past) (is_by who past at.node && is_done answer) up
up_line who fid at (Send number to message) past up = up_more (sends past) (marked who fid past) up
up_line who fid at _ past up = up

up_to : (who : Who) (fid : Fid) (past : Past) → AreUpTo (sends past) (marked who fid past)
up_to who fid [] = tt
up_to who fid (l ∷ past) = up_line who fid l.at l.entry past (up_to who fid past)

-- ---- nor is the number of a message

abbrev IsUpTo : ℕ → Option ℕ → Type 0
IsUpTo n None = Unit {0}
IsUpTo n (Some s) = s ≤ n

first_or : (n number : ℕ) (old : Option ℕ) (b : Bool) → number ≡ suc n → IsUpTo n old
    → IsUpTo (suc n) (or_else old (if b then Some number else None))
first_or n number (Some s) b is up = omega arith
first_or n number None true is up = omega arith
first_or n number None false is up = tt

first_line : (t : ℕ) (who : Who) (x : ℕ) (at : At) (e : Entry) (past : Past) → HasNumber past (record { at = at; entry = e })
    → IsUpTo (sends past) (first_sent t who x past)
    → IsUpTo (sends (record { at = at; entry = e } ∷ past)) (first_sent t who x (record { at = at; entry = e } ∷ past))
first_line t who x at (Send number to message) past is up = first_or (sends past) number (first_sent t who x past)
    (is_request t who x to message) is up
first_line t who x at _ past is up = up

first_up_to : (t : ℕ) (who : Who) (x : ℕ) (past : Past) → Numbered past → IsUpTo (sends past) (first_sent t who x past)
first_up_to t who x [] numbered = tt
first_up_to t who x (l ∷ past) numbered = first_line t who x l.at l.entry past numbered.0 (first_up_to t who x past numbered.1)

-- ---- what was done before

below : (m n limit : ℕ) → m ≤ n → limit ≡ suc n → nat_lt m limit ≡ true
below m n limit up is = grind (arith, nat_tests)

not_below : (n limit : ℕ) → limit ≤ n → nat_lt n limit ≡ false
not_below n limit up = grind (arith, nat_tests)

before_all : (n limit : ℕ) (marks : List Mark) → AreUpTo n marks → limit ≡ suc n → filter (is_before limit) marks ≡ marks
before_all n limit [] up is = refl
before_all n limit (m ∷ marks) up is =
    ap (λ (b : Bool). cond b (m ∷ filter (is_before limit) marks) (filter (is_before limit) marks)) (below m.0 n limit up.0 is)
    ∙ ap (λ (ms : List Mark). m ∷ ms) (before_all n limit marks up.1 is)

before_new : (n limit : ℕ) (call : Call) (marks : List Mark) → limit ≤ n → calls_before limit ((n, call) ∷ marks) ≡ calls_before limit marks
before_new n limit call marks up =
    ap (λ (b : Bool). map call_of (cond b ((n, call) ∷ filter (is_before limit) marks) (filter (is_before limit) marks)))
    (not_below n limit up)

abbrev before_first : Option ℕ → List Mark → Option (List Call)
before_first first marks = option_map (λ limit. calls_before limit marks) first

sent_first : (marks : List Mark) (calls : List Call) (number : ℕ) (old : Option ℕ) (b : Bool) → calls_before number marks ≡ calls
    → or_else (before_first old marks) (if b then Some calls else None) ≡ before_first (or_else old (if b then Some number else None)) marks
sent_first marks calls number (Some s) b is = refl
sent_first marks calls number None true is = ap (λ (cs : List Call). Some cs) (sym is)
sent_first marks calls number None false is = refl

told_new : (n : ℕ) (call : Call) (marks : List Mark) (first : Option ℕ) → IsUpTo n first → before_first first marks
    ≡ before_first first ((n, call) ∷ marks)
told_new n call marks None up = refl
told_new n call marks (Some s) up = ap (λ (cs : List Call). Some cs) (sym (before_new n s call marks up))

told_with : (fid : Fid) (n : ℕ) (begun : Option Begun) (marks : List Mark) (first : Option ℕ) → IsUpTo n first → before_first first marks
    ≡ before_first first (with_mark fid n begun marks)
told_with fid n None marks first up = refl
told_with fid n (Some begun) marks first up = by (is_file fid (file_of begun)) where
  by : (b : Bool) → before_first first marks ≡ before_first first (if b then (n, begun.call) ∷ marks else marks)
  by true = told_new n begun.call marks first up
  by false = refl

told_first : (fid : Fid) (n : ℕ) (begun : Option Begun) (marks : List Mark) (first : Option ℕ) (b : Bool) → IsUpTo n first
    → before_first first marks ≡ before_first first (if b then with_mark fid n begun marks else marks)
told_first fid n begun marks first true up = told_with fid n begun marks first up
told_first fid n begun marks first false up = refl

before_line : (t : ℕ) (who : Who) (x : ℕ) (fid : Fid) (at : At) (e : Entry) (past : Past) → HasNumber past (record { at = at; entry = e })
    → Numbered past
    → done_before t who x fid past ≡ before_first (first_sent t who x past) (marked who fid past)
    → done_before t who x fid (record { at = at; entry = e } ∷ past)
    ≡ before_first (first_sent t who x (record { at = at; entry = e } ∷ past)) (marked who fid (record { at = at; entry = e } ∷ past))
before_line t who x fid at (Send number to message) past has numbered is =
    ap (λ (old : Option (List Call)). or_else old (if is_request t who x to message then Some (done_calls who fid past) else None)) is
    ∙ sent_first (marked who fid past) (done_calls who fid past) number (first_sent t who x past) (is_request t who x to message)
    (ap (λ (ms : List Mark). map call_of ms) (before_all (sends past) number (marked who fid past) (up_to who fid past) has)
    ∙ calls_are who fid past)
before_line t who x fid at (Told slot turn answer) past has numbered is =
    is
    ∙ told_first fid (sends past) (open_call who.client slot past) (marked who fid past) (first_sent t who x past)
    (is_by who past at.node && is_done answer)
    (first_up_to t who x past numbered)
before_line t who x fid at _ past has numbered is = is

pub before_is : (t : ℕ) (who : Who) (x : ℕ) (fid : Fid) (past : Past) → Numbered past
    → done_before t who x fid past ≡ option_map (λ limit. calls_before limit (marked who fid past)) (first_sent t who x past)
before_is t who x fid [] numbered = refl
before_is t who x fid (l ∷ past) numbered =
    before_line t who x fid l.at l.entry past numbered.0 numbered.1 (before_is t who x fid past numbered.1)

-- ---- the marked calls keep the limits

abbrev pub AreWithin : List Mark → Type 0
AreWithin [] = Unit {0}
AreWithin (m ∷ marks) = IsWithin m.1 × AreWithin marks

within_with : (fid : Fid) (n : ℕ) (begun : Option Begun) (marks : List Mark) → OfBegun begun → AreWithin marks
    → AreWithin (with_mark fid n begun marks)
within_with fid n None marks is within = within
within_with fid n (Some begun) marks is within = by (is_file fid (file_of begun)) where
  by : (b : Bool) → AreWithin (if b then (n, begun.call) ∷ marks else marks)
  by true = (is, within)
  by false = within

within_told : (fid : Fid) (n : ℕ) (begun : Option Begun) (marks : List Mark) (b : Bool) → OfBegun begun → AreWithin marks
    → AreWithin (if b then with_mark fid n begun marks else marks)
within_told fid n begun marks true is within = within_with fid n begun marks is within
within_told fid n begun marks false is within = within

within_line : (who : Who) (fid : Fid) (at : At) (e : Entry) (past : Past) → Limited past → AreWithin (marked who fid past)
    → AreWithin (marked who fid (record { at = at; entry = e } ∷ past))
within_line who fid at (Told slot turn answer) past limited within =
    within_told fid (sends past) (open_call who.client slot past) (marked who fid past) (is_by who past at.node && is_done answer)
    (call_within past limited who.client slot) within
within_line who fid at _ past limited within = within

pub marks_within : (who : Who) (fid : Fid) (past : Past) → Limited past → AreWithin (marked who fid past)
marks_within who fid [] limited = tt
marks_within who fid (l ∷ past) limited = within_line who fid l.at l.entry past limited.1 (marks_within who fid past limited.1)
