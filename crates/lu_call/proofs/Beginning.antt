-- What a call does first, put together from what its parts do.
use Rattle.std.proofs.Common.{◌≡◌, ℕ, Bool, true, false, List, [], ◌∷◌, length, Option, Some, None, refl, sym, ap, subst, ◌∙◌, arith}
use Rattle.std.specs.Prelude.{◌≢◌, ◌==◌, if◌then◌else◌, nat_lt, option_map, IfOk}
use Rattle.std.specs.declared.result.Result.{Result}
use Rattle.std.proofs.lemmas.Result.{IfOk-weaker}
use Rattle.lu_base.specs.declared.ids.At.{At}
use Rattle.lu_base.specs.declared.ids.Cookie.{Cookie}
use Rattle.lu_base.specs.declared.ids.Fid.{Fid}
use Rattle.lu_base.specs.declared.ids.Txn.{Txn}
use Rattle.lu_layout.specs.Raid0.{Raid0}
use Rattle.lu_msg.specs.declared.answers.Answer.{Answer}
use Rattle.lu_msg.specs.declared.answers.Answer.TheVariants as answer
use Rattle.lu_msg.specs.declared.calls.Call.{Call}
use Rattle.lu_msg.specs.declared.calls.Call.TheVariants as call
use Rattle.lu_msg.specs.declared.operations.Op.{Op}
use Rattle.lu_msg.specs.declared.operations.Op.TheVariants as op
use Rattle.lu_held.specs.declared.names.LockName.{LockName}
use Rattle.lu_spec_entries.specs.Carried.{HandleFile, Kind, Stats, Glimpses, Work, Running}
use Rattle.lu_spec_entries.specs.Words.{Entry}
use Rattle.lu_cache.specs.declared.known.Known.{Known}
use Rattle.lu_cache.specs.Tells.{known_of, locks_of, of_file, stat_known}
use Rattle.lu_spec_client.specs.Advances.{tells, looks, acts}
use Rattle.lu_spec_client.specs.Known.{Notes, Found, Known as RowKnown, KnownFile, names_of, directory_at, directory_known, file_at}
use Rattle.lu_spec_client.specs.Known.{file_known}
use Rattle.lu_spec_client.specs.Starts.{asks_names, pins, with_pins, tells_known, starts_known, stats, stats_file, starts_stat, looks_at}
use Rattle.lu_spec_client.specs.Starts.{work_on, is_on, starts_close, starts_bytes, starts_names, names_op, starts, answers}
use Rattle.lu_spec_client.specs.States.{Client, Store}
use Rattle.lu_client_store.specs.Stored.{StoreState, stored_turn}
use Rattle.lu_call.specs.declared.nexts.Next.{Next}
use Rattle.lu_call.specs.Going.{GoesBy, GoesFrom}
use Rattle.lu_call.specs.Ranges.{is_glimpse}
use Rattle.lu_call.specs.Starting.{alone, names_with, is_file, starts_on_handle}
use Rattle.lu_call.proofs.Going.{goes_as, goes_from, goes_on, goes_follow, pins_quiet}
use Rattle.lu_call.proofs.Naming.{names_again}

-- ---- said otherwise

pub if_ok : {X Y : Type 0} (r : Result X Y) (P Q : X → Type 0) → IfOk r P → ((x : X) → P x → Q x) → IfOk r Q
if_ok r P Q holds more = IfOk-weaker r P Q more holds

-- by the same entries
pub from_as : {es fs : List Entry} {slot : ℕ} {old new : Running} {before after : StoreState} {out : Next} → fs ≡ es
    → GoesFrom es slot old new before after out → GoesFrom fs slot old new before after out
from_as {slot = slot} {old = old} {new = new} {before = before} {after = after} {out = out} same goes =
    subst (λ (gs : List Entry). GoesFrom gs slot old new before after out) (sym same) goes

-- ---- told what is known

-- the locks are pinned, and it is told
pub tells_pinned : {new : Running} {before middle after : StoreState} {out : Next} (at : At) (slot : ℕ) (row : RowKnown) (k : Known)
    (old call : Running) → k ≡ known_of row → call ≡ with_pins (names_with k.locks) old → middle
    ≡ stored_turn before (pins (names_with k.locks)) → GoesBy (tells slot call at k.answer None) slot new middle after out
    → GoesBy (tells_known at slot old row) slot new before after out
tells_pinned {new = new} {before = before} {middle = middle} {after = after} {out = out} at slot row k old call told call_is first goes =
    goes_on (pins (names_of row.cookies)) (tells slot (with_pins (names_of row.cookies) old) at row.answer None)
    (pins_quiet (names_of row.cookies))
    (first ∙ ap (λ (names : List LockName). stored_turn before (pins names)) same)
    (subst (λ (a : Answer). GoesBy (tells slot (with_pins (names_of row.cookies) old) at a None) slot new middle after out)
    (ap (λ (it : Known). it.answer) told)
    (subst (λ (r : Running). GoesBy (tells slot r at k.answer None) slot new middle after out)
    (call_is ∙ ap (λ (names : List LockName). with_pins names old) same) goes))
  where
    same : names_with k.locks ≡ names_of row.cookies
    same = ap (λ (it : Known). names_with it.locks) told ∙ names_again row.cookies

-- nothing is known: it asks
pub asks_unknown : {new : Running} {before after : StoreState} {out : Next} (at : At) (slot : ℕ) (old : Running) (o : Op)
    (known : Option RowKnown) → None ≡ option_map known_of known → GoesFrom (asks_names slot o) slot old new before after out
    → GoesFrom (starts_known at slot old o known) slot old new before after out
asks_unknown at slot old o None unknown goes = goes
asks_unknown at slot old o (Some row) unknown goes = absurd (cc)

pub tells_what_is_known : {new : Running} {before after : StoreState} {out : Next} (at : At) (slot : ℕ) (old : Running) (o : Op)
    (known : Option RowKnown) (k : Known) → Some k ≡ option_map known_of known
    → ((row : RowKnown) → k ≡ known_of row → GoesBy (tells_known at slot old row) slot new before after out)
    → GoesFrom (starts_known at slot old o known) slot old new before after out
tells_what_is_known at slot old o None k is goes = absurd (cc)
tells_what_is_known at slot old o (Some row) k is goes = goes_from old (goes row (cc))

-- ---- a stat

-- the locks are pinned, and it looks on
pub stats_pinned : {new : Running} {before middle after : StoreState} {out : Next} (at : At) (slot : ℕ) (fid : Fid) (layout : Raid0)
    (mode links : ℕ) (cookies locks : List Cookie) (old call : Running) (w : Work) → locks ≡ locks_of cookies → call
    ≡ with_pins (names_with locks) old → middle ≡ stored_turn before (pins (names_with locks)) → w ≡ work_on fid layout (Stats mode links)
    → GoesBy (looks slot (acts at slot w.kind) w.left call w middle.store) slot new middle after out
    → GoesBy (stats at slot fid layout (Stats mode links) (names_of cookies) old before.store) slot new before after out
stats_pinned {new = new} {before = before} {middle = middle} {after = after} {out = out} at slot fid layout mode links cookies locks old
    call w told call_is first work goes =
    goes_follow (pins (names_of cookies)) (looks_at at slot (Stats mode links) (with_pins (names_of cookies) old)
    (work_on fid layout (Stats mode links))) (pins_quiet (names_of cookies))
    (first ∙ ap (λ (names : List LockName). stored_turn before (pins names)) same)
    (subst (λ (r : Running). GoesBy (looks_at at slot (Stats mode links) r (work_on fid layout (Stats mode links)) middle.store) slot new
    middle after out) (call_is ∙ ap (λ (names : List LockName). with_pins names old) same)
    (subst (λ (it : Work). GoesBy (looks slot (acts at slot it.kind) it.left call it middle.store) slot new middle after out) work goes))
  where
    same : names_with locks ≡ names_of cookies
    same = ap names_with told ∙ names_again cookies

-- what is told of a file is known
pub stats_told : {new : Running} {before after : StoreState} {out : Next} (at : At) (slot : ℕ) (k : Known) (fid : Fid) (mode links : ℕ)
    (layout : Raid0) (file : KnownFile) (old : Running) → k.answer ≡ answer.FileStat fid mode links layout → k ≡ known_of (of_file file)
    → ((cookies : List Cookie) → k.locks ≡ locks_of cookies → GoesBy
    (stats at slot fid layout (Stats mode links) (names_of cookies) old before.store) slot new before after out)
    → GoesBy (stats at slot file.fid file.layout (Stats file.mode file.links) (names_of file.cookies) old before.store) slot new before
    after out
stats_told {before = before} at slot k fid mode links layout file old is told goes =
    goes_as (ap row (sym (ap (λ (it : Known). it.answer) told) ∙ is)) (goes file.cookies (ap (λ (it : Known). it.locks) told))
  where
    row : Answer → List Entry
    row (answer.FileStat fid mode links layout) = stats at slot fid layout (Stats mode links) (names_of file.cookies) old before.store
    row a = []

no_directory : (n : Notes) (found : Found) → is_file found.inode ≡ true → directory_known n found ≡ None
no_directory n found file = by found.inode file
  where
    by : (inode : Option Answer) → is_file inode ≡ true → directory_at n found inode ≡ None
    by (Some (answer.Dir d)) file = absurd (cc)
    by _ file = refl

no_file : (n : Notes) (found : Found) → is_file found.inode ≡ false → file_known n found ≡ None
no_file n found file = by found.inode file
  where
    by : (inode : Option Answer) → is_file inode ≡ false → file_at n found inode ≡ None
    by (Some (answer.File f)) file = absurd (cc)
    by _ file = refl

-- of a file: it goes on
pub stats_known_file : {new : Running} {before after : StoreState} {out : Next} (at : At) (slot : ℕ) (path : List (List ℕ)) (old : Running)
    (n : Notes) (found : Found) (k : Known) → is_file found.inode ≡ true → Some k
    ≡ option_map known_of (stat_known (directory_known n found) (file_known n found))
    → ((file : KnownFile) → k ≡ known_of (of_file file) → GoesBy
    (stats at slot file.fid file.layout (Stats file.mode file.links) (names_of file.cookies) old before.store) slot new before after out)
    → GoesFrom (starts_stat at slot path old before.store n found (directory_known n found)) slot old new before after out
stats_known_file {new = new} {before = before} {after = after} {out = out} at slot path old n found k file is goes =
    subst (λ (d : Option RowKnown). GoesFrom (starts_stat at slot path old before.store n found d) slot old new before after out)
    (sym (no_directory n found file))
    (by (file_known n found) (subst (λ (d : Option RowKnown). Some k ≡ option_map known_of (stat_known d (file_known n found)))
    (no_directory n found file) is))
  where
    by : (f : Option KnownFile) → Some k ≡ option_map known_of (option_map of_file f)
        → GoesFrom (stats_file at slot path old before.store f) slot old new before after out
    by None is = absurd (cc)
    by (Some f) is = goes_from old (goes f (cc))

-- of a directory: it is told
pub tells_known_directory : {new : Running} {before after : StoreState} {out : Next} (at : At) (slot : ℕ) (path : List (List ℕ))
    (old : Running) (n : Notes) (found : Found) (k : Known) → is_file found.inode ≡ false → Some k
    ≡ option_map known_of (stat_known (directory_known n found) (file_known n found))
    → ((row : RowKnown) → k ≡ known_of row → GoesBy (tells_known at slot old row) slot new before after out)
    → GoesFrom (starts_stat at slot path old before.store n found (directory_known n found)) slot old new before after out
tells_known_directory {new = new} {before = before} {after = after} {out = out} at slot path old n found k file is goes =
    by (directory_known n found) (subst (λ (f : Option KnownFile). Some k ≡ option_map known_of (stat_known (directory_known n found) f))
    (no_file n found file) is)
  where
    by : (d : Option RowKnown) → Some k ≡ option_map known_of (stat_known d None)
        → GoesFrom (starts_stat at slot path old before.store n found d) slot old new before after out
    by None is = absurd (cc)
    by (Some row) is = goes_from old (goes row (cc))

-- something isn't known: it asks
pub asks_stat : {new : Running} {before after : StoreState} {out : Next} (at : At) (slot : ℕ) (path : List (List ℕ)) (old : Running)
    (n : Notes) (found : Found) → None ≡ option_map known_of (stat_known (directory_known n found) (file_known n found))
    → GoesFrom (asks_names slot (op.Stat path)) slot old new before after out
    → GoesFrom (starts_stat at slot path old before.store n found (directory_known n found)) slot old new before after out
asks_stat {new = new} {before = before} {after = after} {out = out} at slot path old n found unknown goes =
    by (directory_known n found) unknown
  where
    on_file : (f : Option KnownFile) → None ≡ option_map known_of (option_map of_file f)
        → GoesFrom (stats_file at slot path old before.store f) slot old new before after out
    on_file None unknown = goes
    on_file (Some f) unknown = absurd (cc)

    by : (d : Option RowKnown) → None ≡ option_map known_of (stat_known d (file_known n found))
        → GoesFrom (starts_stat at slot path old before.store n found d) slot old new before after out
    by None unknown = on_file (file_known n found) unknown
    by (Some row) unknown = absurd (cc)

-- ---- on a handle

pub closes_it : (slot : ℕ) (r : Running) (f : HandleFile) → r.file ≡ Some f → starts_close slot (Some r ∷ []) (Some f)
    ≡ asks_names slot (op.Close f.number f.fid)
closes_it slot r f file =
    ap (λ (b : Bool). if nat_lt 1 (length (if b then Some r ∷ [] else [])) then [] else asks_names slot (op.Close f.number f.fid)) on
  where
    equal : (n : ℕ) → (n == n) ≡ true
    equal n = grind (arith)

    on : is_on f.number.0 (Some r) ≡ true
    on = ap (λ (it : Option HandleFile). elim it [ None ↦ false | Some g ↦ g.number.0 == f.number.0 ]) file ∙ equal f.number.0

-- the only call on its open doesn't wait
pub closes_alone : (slot : ℕ) (r : Running) (f : HandleFile) → r.file ≡ Some f → starts_close slot (Some r ∷ []) r.file
    ≡ asks_names slot (op.Close f.number f.fid)
closes_alone slot r f file = ap (λ (it : Option HandleFile). starts_close slot (Some r ∷ []) it) file ∙ closes_it slot r f file

pub looks_for_locks : (at : At) (slot : ℕ) (kind : Kind) (r : Running) (w : Work) (s : Store) → is_glimpse kind ≡ false
    → looks_at at slot kind r w s ≡ looks slot (acts at slot kind) w.left r w s
looks_for_locks at slot (Glimpses sizes) r w s glimpse = absurd (cc)
looks_for_locks at slot kind r w s glimpse = refl

-- it looks for its locks
pub looks_begun : {new : Running} {before after : StoreState} {out : Next} (at : At) (slot : ℕ) (kind : Kind) (f : HandleFile)
    (old : Running) (w : Work) → is_glimpse kind ≡ false → w ≡ work_on f.fid f.layout kind
    → GoesBy (looks slot (acts at slot w.kind) w.left old w before.store) slot new before after out
    → GoesBy (starts_bytes at slot kind old before.store (Some f)) slot new before after out
looks_begun {new = new} {before = before} {after = after} {out = out} at slot kind f old w glimpse work goes =
    goes_as (looks_for_locks at slot kind old (work_on f.fid f.layout kind) before.store glimpse)
    (subst (λ (it : Work). GoesBy (looks slot (acts at slot it.kind) it.left old it before.store) slot new before after out) work goes)

pub bytes_begun : {new : Running} {before after : StoreState} {out : Next} (at : At) (slot : ℕ) (kind : Kind) (f : HandleFile)
    (old : Running) (w : Work) → old.file ≡ Some f → is_glimpse kind ≡ false → w ≡ work_on f.fid f.layout kind
    → GoesBy (looks slot (acts at slot w.kind) w.left old w before.store) slot new before after out
    → GoesFrom (starts_bytes at slot kind old before.store old.file) slot old new before after out
bytes_begun {before = before} at slot kind f old w file glimpse work goes =
    goes_from old (goes_as (ap (λ (it : Option HandleFile). starts_bytes at slot kind old before.store it) file)
    (looks_begun at slot kind f old w glimpse work goes))

-- a call that always asks
pub asks_always : (at : At) (slot : ℕ) (c : Call) (o : Op) (r : Running) (s : Store) → names_op c ≡ Some o → starts_on_handle at slot c r s
    ≡ asks_names slot o
asks_always at slot (call.Close h) o r s asks = absurd (cc)
asks_always at slot (call.Read h p n) o r s asks = absurd (cc)
asks_always at slot (call.Write h p bs) o r s asks = absurd (cc)
asks_always at slot (call.Cut h n) o r s asks = absurd (cc)
asks_always at slot (call.Flush h) o r s asks = absurd (cc)
asks_always at slot (call.Glimpse h) o r s asks = absurd (cc)
asks_always at slot c o r s asks = ap (λ (it : Option Op). starts_names slot it) asks

-- a call that isn't told from what is known
pub starts_other : (at : At) (slot : ℕ) (c : Call) (r : Running) (s : StoreState) → ((p : List (List ℕ)) → c ≢ call.Lookup p)
    → ((p : List (List ℕ)) → c ≢ call.Stat p) → ((p : List (List ℕ)) → c ≢ call.List p) → ((p : List (List ℕ)) → c ≢ call.Layout p)
    → starts at slot c r (alone r s) ≡ starts_on_handle at slot c r s.store
starts_other at slot (call.Lookup p) r s lookup stat list layout = absurd (lookup p refl)
starts_other at slot (call.Stat p) r s lookup stat list layout = absurd (stat p refl)
starts_other at slot (call.List p) r s lookup stat list layout = absurd (list p refl)
starts_other at slot (call.Layout p) r s lookup stat list layout = absurd (layout p refl)
starts_other at slot c r s lookup stat list layout = refl

-- ---- the metadata target's answer

-- another call than an open is told it as it is
pub opens_other : (at : At) (slot : ℕ) (acted : At) (f : HandleFile) (c : Call) (r : Running) (k : Client)
    → ((h : ℕ) (p : List (List ℕ)) → c ≢ call.Open h p) → answers at slot acted (answer.OpenFile f.fid f.number f.layout) c r k
    ≡ tells slot r acted (answer.OpenFile f.fid f.number f.layout) None
opens_other at slot acted f (call.Open h p) r k other = absurd (other h p refl)
opens_other at slot acted f c r k other = refl

-- another call than a stat, too
pub stats_other : (at : At) (slot : ℕ) (acted : At) (fid : Fid) (mode links : ℕ) (layout : Raid0) (c : Call) (r : Running) (k : Client)
    → ((p : List (List ℕ)) → c ≢ call.Stat p) → answers at slot acted (answer.FileStat fid mode links layout) c r k
    ≡ tells slot r acted (answer.FileStat fid mode links layout) None
stats_other at slot acted fid mode links layout (call.Stat p) r k other = absurd (other p refl)
stats_other at slot acted fid mode links layout c r k other = refl

-- any other answer is told
pub tells_other : (at : At) (slot : ℕ) (acted : At) (a : Answer) (c : Call) (r : Running) (k : Client)
    → ((fid : Fid) (number : Txn) (layout : Raid0) → a ≢ answer.OpenFile fid number layout)
    → ((fid : Fid) (mode links : ℕ) (layout : Raid0) → a ≢ answer.FileStat fid mode links layout) → answers at slot acted a c r k
    ≡ tells slot r acted a None
tells_other at slot acted (answer.OpenFile fid number layout) c r k opened stat = absurd (opened fid number layout refl)
tells_other at slot acted (answer.FileStat fid mode links layout) c r k opened stat = absurd (stat fid mode links layout refl)
tells_other at slot acted a c r k opened stat = refl
