-- How what a call does is put together: entries one after another, those that its client needn't hear of, and the last
-- entries with which a call waits, asks or is told.
use Rattle.std.proofs.Common.{◌≡◌, ℕ, Bool, true, false, List, [], ◌∷◌, ◌++◌, ◌&&◌, Option, Some, None, refl, sym, ap, subst, ◌∙◌, arith}
use Rattle.std.specs.Prelude.{◌==◌, if◌then◌else◌}
use Rattle.lu_base.specs.declared.ids.At.{At}
use Rattle.lu_base.specs.declared.ids.TargetId.{TargetId}
use Rattle.lu_layout.specs.Raid0.{Raid0}
use Rattle.lu_held.specs.declared.locks.Use.{Use}
use Rattle.lu_held.specs.declared.names.LockName.{LockName}
use Rattle.lu_msg.specs.declared.answers.Answer.{Answer}
use Rattle.lu_msg.specs.declared.operations.Op.{Op}
use Rattle.lu_spec_entries.specs.declared.uses.Using.{Using}
use Rattle.lu_spec_entries.specs.Carried.{Work, Running, Stage, Asked}
use Rattle.lu_spec_entries.specs.Words.{Entry, Told, Queues, Stands, Binds, Pins, Unpins, Changes, WritesBack, Shows}
use Rattle.lu_spec_client.specs.Calls.{call_after}
use Rattle.lu_spec_client.specs.States.{Store, store_after, store_turn, follow_store}
use Rattle.lu_spec_client.specs.Advances.{Next as NextRow, at_stage, queued_for, tells, unpins, writes, cuts, looks, asks_lock}
use Rattle.lu_spec_client.specs.Starts.{pins}
use Rattle.lu_client_store.specs.Stored.{StoreState, stored_after, stored_turn}
use Rattle.lu_call.specs.declared.nexts.Binding.{Binding}
use Rattle.lu_call.specs.declared.nexts.Next.{Next}
use Rattle.lu_call.specs.declared.nexts.Next.TheVariants as next
use Rattle.lu_call.specs.Views.{file_of}
use Rattle.lu_call.specs.Going.{is_own, are_own, outward, call_turn, back_of, GoesBy, GoesFrom}
use Rattle.lu_call.specs.Looked.{Looked, after_looking}

-- ---- entries one after another

pub own_more : (slot : ℕ) (es fs : List Entry) → are_own slot es ≡ true → are_own slot fs ≡ true → are_own slot (es ++ fs) ≡ true
own_more slot [] fs own more = more
own_more slot (e ∷ es) fs own more = by (is_own slot e) own (λ rest. own_more slot es fs rest more)
  where
    by : (b : Bool) → (b && are_own slot es) ≡ true → (are_own slot es ≡ true → are_own slot (es ++ fs) ≡ true)
        → (b && are_own slot (es ++ fs)) ≡ true
    by true own rest = rest own
    by false own rest = absurd (cc)

pub outward_more : (es fs : List Entry) → outward (es ++ fs) ≡ outward es ++ outward fs
outward_more [] fs = refl
outward_more (Queues target queued ∷ es) fs = ap (λ (rest : List Entry). Queues target queued ∷ rest) (outward_more es fs)
outward_more (Binds handle file ∷ es) fs = ap (λ (rest : List Entry). Binds handle file ∷ rest) (outward_more es fs)
outward_more (Told slot at answer work ∷ es) fs = ap (λ (rest : List Entry). Told slot at answer None ∷ rest) (outward_more es fs)
outward_more (e ∷ es) fs = outward_more es fs

pub call_more : (slot : ℕ) (call : Option Running) (es fs : List Entry) → call_turn slot call (es ++ fs)
    ≡ call_turn slot (call_turn slot call es) fs
call_more slot call [] fs = refl
call_more slot call (e ∷ es) fs = call_more slot (call_after slot call e) es fs

pub stored_more : (s : StoreState) (es fs : List Entry) → stored_turn s (es ++ fs) ≡ stored_turn (stored_turn s es) fs
stored_more s [] fs = refl
stored_more s (e ∷ es) fs = stored_more (stored_after s e) es fs

pub store_more : (s : Store) (es fs : List Entry) → store_turn s (es ++ fs) ≡ store_turn (store_turn s es) fs
store_more s [] fs = refl
store_more s (e ∷ es) fs = store_more (store_after s e) es fs

-- the rows' store goes along
pub stored_store : (s : StoreState) (es : List Entry) → (stored_turn s es).store ≡ store_turn s.store es
stored_store s [] = refl
stored_store s (e ∷ es) = stored_store (stored_after s e) es

-- ---- entries that change the store alone, so that neither its client hears of them nor the call stands otherwise

abbrev pub is_quiet : Entry → Bool
is_quiet (Pins name) = true
is_quiet (Unpins name) = true
is_quiet (Changes resource change) = true
is_quiet (WritesBack resource change) = true
is_quiet (Shows resource cookie last) = true
is_quiet _ = false

abbrev pub are_quiet : List Entry → Bool
are_quiet [] = true
are_quiet (e ∷ es) = is_quiet e && are_quiet es

pub quiet_more : (es fs : List Entry) → are_quiet es ≡ true → are_quiet fs ≡ true → are_quiet (es ++ fs) ≡ true
quiet_more [] fs quiet more = more
quiet_more (e ∷ es) fs quiet more = by (is_quiet e) quiet (λ rest. quiet_more es fs rest more)
  where
    by : (b : Bool) → (b && are_quiet es) ≡ true → (are_quiet es ≡ true → are_quiet (es ++ fs) ≡ true) → (b && are_quiet (es ++ fs)) ≡ true
    by true quiet rest = rest quiet
    by false quiet rest = absurd (cc)

pub quiet_own : (slot : ℕ) (es : List Entry) → are_quiet es ≡ true → are_own slot es ≡ true
quiet_own slot [] quiet = refl
quiet_own slot (Pins name ∷ es) quiet = quiet_own slot es quiet
quiet_own slot (Unpins name ∷ es) quiet = quiet_own slot es quiet
quiet_own slot (Changes resource change ∷ es) quiet = quiet_own slot es quiet
quiet_own slot (WritesBack resource change ∷ es) quiet = quiet_own slot es quiet
quiet_own slot (Shows resource cookie last ∷ es) quiet = quiet_own slot es quiet
quiet_own slot (e ∷ es) quiet = absurd (cc)

pub quiet_outward : (es : List Entry) → are_quiet es ≡ true → outward es ≡ []
quiet_outward [] quiet = refl
quiet_outward (Pins name ∷ es) quiet = quiet_outward es quiet
quiet_outward (Unpins name ∷ es) quiet = quiet_outward es quiet
quiet_outward (Changes resource change ∷ es) quiet = quiet_outward es quiet
quiet_outward (WritesBack resource change ∷ es) quiet = quiet_outward es quiet
quiet_outward (Shows resource cookie last ∷ es) quiet = quiet_outward es quiet
quiet_outward (e ∷ es) quiet = absurd (cc)

pub quiet_call : (slot : ℕ) (call : Option Running) (es : List Entry) → are_quiet es ≡ true → call_turn slot call es ≡ call
quiet_call slot call [] quiet = refl
quiet_call slot call (Pins name ∷ es) quiet = quiet_call slot call es quiet
quiet_call slot call (Unpins name ∷ es) quiet = quiet_call slot call es quiet
quiet_call slot call (Changes resource change ∷ es) quiet = quiet_call slot call es quiet
quiet_call slot call (WritesBack resource change ∷ es) quiet = quiet_call slot call es quiet
quiet_call slot call (Shows resource cookie last ∷ es) quiet = quiet_call slot call es quiet
quiet_call slot call (e ∷ es) quiet = absurd (cc)

pub pins_quiet : (names : List LockName) → are_quiet (pins names) ≡ true
pins_quiet [] = refl
pins_quiet (name ∷ names) = pins_quiet names

pub unpins_quiet : (names : List LockName) → are_quiet (unpins names) ≡ true
unpins_quiet [] = refl
unpins_quiet (name ∷ names) = unpins_quiet names

pub writes_quiet : (layout : Raid0) (position : ℕ) (bytes : List ℕ) (used : List Using) → are_quiet (writes layout position bytes used)
    ≡ true
writes_quiet layout position bytes [] = refl
writes_quiet layout position bytes (u ∷ used) = writes_quiet layout position bytes used

pub cuts_quiet : (layout : Raid0) (size : ℕ) (used : List Using) → are_quiet (cuts layout size used) ≡ true
cuts_quiet layout size [] = refl
cuts_quiet layout size (u ∷ used) = cuts_quiet layout size used

-- ---- how a call goes on

-- by the same entries, said otherwise
pub goes_as : {es fs : List Entry} {slot : ℕ} {new : Running} {before after : StoreState} {out : Next} → fs ≡ es
    → GoesBy es slot new before after out → GoesBy fs slot new before after out
goes_as {slot = slot} {new = new} {before = before} {after = after} {out = out} same goes =
    subst (λ (gs : List Entry). GoesBy gs slot new before after out) (sym same) goes

-- its call, store and rest, said otherwise
pub goes_where : {es : List Entry} {slot : ℕ} {new new2 : Running} {before after after2 : StoreState} {out out2 : Next} → new2 ≡ new
    → after2 ≡ after → out2 ≡ out → GoesBy es slot new before after out → GoesBy es slot new2 before after2 out2
goes_where {es = es} {slot = slot} {new = new} {new2 = new2} {before = before} {after = after} {after2 = after2} {out = out} {out2 = out2}
    call store rest goes =
    subst (λ (o : Next). GoesBy es slot new2 before after2 o) (sym rest)
    (subst (λ (s : StoreState). GoesBy es slot new2 before s out) (sym store)
    (subst (λ (r : Running). GoesBy es slot r before after out) (sym call) goes))

-- it may stand as it stood
pub goes_from : {es : List Entry} {slot : ℕ} (old : Running) {new : Running} {before after : StoreState} {out : Next}
    → GoesBy es slot new before after out → GoesFrom es slot old new before after out
goes_from old goes = record { own = goes.own; store = goes.store; said = goes.said; call = goes.call old }

-- after entries that change the store alone
pub goes_on : {slot : ℕ} {new : Running} {before middle after : StoreState} {out : Next} (es fs : List Entry) → are_quiet es ≡ true → middle
    ≡ stored_turn before es → GoesBy fs slot new middle after out → GoesBy (es ++ fs) slot new before after out
goes_on {slot = slot} {before = before} es fs quiet first goes =
    record {
      own = own_more slot es fs (quiet_own slot es quiet) goes.own;
      store = goes.store ∙ ap (λ (s : StoreState). stored_turn s fs) first ∙ sym (stored_more before es fs);
      said = outward_more es fs ∙ ap (λ (gs : List Entry). gs ++ outward fs) (quiet_outward es quiet) ∙ goes.said;
      call = λ c. call_more slot (Some c) es fs ∙ ap (λ (d : Option Running). call_turn slot d fs) (quiet_call slot (Some c) es quiet)
          ∙ goes.call c;
    }

pub goes_from_on : {slot : ℕ} {old new : Running} {before middle after : StoreState} {out : Next} (es fs : List Entry) → are_quiet es ≡ true
    → middle ≡ stored_turn before es → GoesFrom fs slot old new middle after out → GoesFrom (es ++ fs) slot old new before after out
goes_from_on {slot = slot} {old = old} {before = before} es fs quiet first goes =
    record {
      own = own_more slot es fs (quiet_own slot es quiet) goes.own;
      store = goes.store ∙ ap (λ (s : StoreState). stored_turn s fs) first ∙ sym (stored_more before es fs);
      said = outward_more es fs ∙ ap (λ (gs : List Entry). gs ++ outward fs) (quiet_outward es quiet) ∙ goes.said;
      call = call_more slot (Some old) es fs ∙ ap (λ (d : Option Running). call_turn slot d fs) (quiet_call slot (Some old) es quiet)
          ∙ goes.call;
    }

-- what follows reads the store as these entries left it
pub goes_follow : {slot : ℕ} {new : Running} {before middle after : StoreState} {out : Next} (es : List Entry) (more : Store → List Entry)
    → are_quiet es ≡ true → middle ≡ stored_turn before es → GoesBy (more middle.store) slot new middle after out
    → GoesBy (follow_store es more before.store) slot new before after out
goes_follow {before = before} {middle = middle} es more quiet first goes =
    goes_on es (more (store_turn before.store es)) quiet first (goes_as
    (ap more (sym (ap (λ (s : StoreState). s.store) first ∙ stored_store before es))) goes)

-- after it has looked for its locks
pub goes_looked : {slot : ℕ} {old new last : Running} {before middle after : StoreState} {from to : Work} {wanted : Option Use} {out : Next}
    (more : NextRow) → Looked wanted old new from to before middle
    → GoesBy (after_looking slot more wanted new to middle.store) slot last middle after out
    → GoesBy (looks slot more from.left old from before.store) slot last before after out
goes_looked {slot = slot} {new = new} {middle = middle} {to = to} {wanted = wanted} more looked goes =
    goes_as (looked.looks slot more) (goes_on (pins looked.names) (after_looking slot more wanted new to middle.store)
    (pins_quiet looked.names) looked.store goes)

-- it asks for the first lock that no held one does for
pub goes_asks : {slot : ℕ} {old new last : Running} {before middle after : StoreState} {from to : Work} {out : Next} (o : Option Use)
    (wanted : Use) (more : NextRow) → o ≡ Some wanted → Looked o old new from to before middle
    → GoesBy (asks_lock slot wanted new to) slot last middle after out
    → GoesBy (looks slot more from.left old from before.store) slot last before after out
goes_asks {slot = slot} {new = new} {middle = middle} {to = to} o wanted more e looked goes =
    goes_looked more looked (goes_as (ap (λ (p : Option Use). after_looking slot more p new to middle.store) e) goes)

-- all its locks are in use
pub goes_acts : {slot : ℕ} {old new last : Running} {before middle after : StoreState} {from to : Work} {out : Next} (o : Option Use)
    (more : NextRow) → o ≡ None → Looked o old new from to before middle → GoesBy (more new to middle.store) slot last middle after out
    → GoesBy (looks slot more from.left old from before.store) slot last before after out
goes_acts {slot = slot} {new = new} {middle = middle} {to = to} o more e looked goes =
    goes_looked more looked (goes_as (ap (λ (p : Option Use). after_looking slot more p new to middle.store) e) goes)

-- ---- the last entries of a call that goes on

is_it : (n : ℕ) → (n == n) ≡ true
is_it n = grind (arith)

-- the call on a slot is the one that is put there
pub stands_there : (slot : ℕ) (new : Running) (call : Option Running) → call_after slot call (Stands slot new) ≡ Some new
stands_there slot new call = ap (λ (b : Bool). if b then Some new else call) (is_it slot)

pub told_there : (slot : ℕ) (at : At) (answer : Answer) (work : Option Work) (call : Option Running)
    → call_after slot call (Told slot at answer work) ≡ None
told_there slot at answer work call = ap (λ (b : Bool). if b then None else call) (is_it slot)

pub asked_there : (slot target : ℕ) (o : Op) (r : Running) → call_after slot (Some r) (Queues target (queued_for slot o))
    ≡ Some (record r { asking = Asked })
asked_there slot target o r = ap (λ (b : Bool). if b then Some (record r { asking = Asked }) else Some r) (is_it slot)

-- it waits, and asks nothing
pub goes_wait : (slot : ℕ) (new : Running) (s : StoreState) → GoesBy (Stands slot new ∷ []) slot new s s next.Waits
goes_wait slot new s =
    record {
      own = ap (λ (b : Bool). b && true) (is_it slot);
      store = refl;
      said = refl;
      call = λ c. stands_there slot new (Some c);
    }

-- it asks this of a target, and waits
pub goes_ask : (slot : ℕ) (r : Running) (stage : Stage) (target : TargetId) (o : Op) (s : StoreState)
    → GoesBy (Stands slot (at_stage r stage) ∷ Queues target.0 (queued_for slot o) ∷ []) slot (record r { asking = Asked; stage = stage }) s
    s (next.Asks target o)
goes_ask slot r stage target o s =
    record {
      own = ap (λ (b : Bool). b && true) (is_it slot);
      store = refl;
      said = refl;
      call = λ c. ap (λ (d : Option Running). call_after slot d (Queues target.0 (queued_for slot o)))
          (stands_there slot (at_stage r stage) (Some c)) ∙ asked_there slot target.0 o (at_stage r stage);
    }

-- a change is written back for no call, and it waits
pub goes_back : (slot : ℕ) (new : Running) (target : TargetId) (o : Op) (e : Entry) (s : StoreState) → is_quiet e ≡ true
    → GoesBy (e ∷ Queues target.0 (back_of o) ∷ Stands slot new ∷ []) slot new s (stored_after s e) (next.WritesBack target o)
goes_back slot new target o e s quiet =
    goes_on {slot = slot} {new = new} {before = s} {middle = stored_after s e} {after = stored_after s e} {out = next.WritesBack target o}
    (e ∷ []) (Queues target.0 (back_of o) ∷ Stands slot new ∷ []) (ap (λ (b : Bool). b && true) quiet) refl
    (record {
      own = ap (λ (b : Bool). b && true) (is_it slot);
      store = refl;
      said = refl;
      call = λ c. stands_there slot new (Some c);
    })

-- it is told, and its locks are unpinned; there is no call any more, so of what it was nothing is said
pub goes_told : (slot : ℕ) (r new : Running) (at : At) (answer : Answer) (work : Option Work) (s : StoreState)
    → GoesBy (tells slot r at answer work) slot new s (stored_turn s (unpins r.pins)) (next.Told at answer None)
goes_told slot r new at answer work s =
    record {
      own = ap (λ (b : Bool). b && are_own slot (unpins r.pins)) (is_it slot) ∙ quiet_own slot (unpins r.pins) (unpins_quiet r.pins);
      store = refl;
      said = ap (λ (es : List Entry). Told slot at answer None ∷ es) (quiet_outward (unpins r.pins) (unpins_quiet r.pins));
      call = λ c. ap (λ (d : Option Running). call_turn slot d (unpins r.pins)) (told_there slot at answer work (Some c))
          ∙ quiet_call slot None (unpins r.pins) (unpins_quiet r.pins);
    }

-- a handle is bound before
pub goes_bound : (slot : ℕ) (b : Binding) (r new : Running) (at : At) (answer : Answer) (work : Option Work) (s : StoreState)
    → GoesBy (Binds b.handle (file_of b.file) ∷ tells slot r at answer work) slot new s (stored_turn s (unpins r.pins))
    (next.Told at answer (Some b))
goes_bound slot b r new at answer work s =
    let told : GoesBy (tells slot r at answer work) slot new s (stored_turn s (unpins r.pins)) (next.Told at answer None) =
    goes_told slot r new at answer work s in
    record {
      own = told.own;
      store = told.store;
      said = ap (λ (es : List Entry). Binds b.handle (file_of b.file) ∷ es) told.said;
      call = told.call;
    }

-- ---- a call that stands as it stood

-- it waits on
pub goes_nowhere : (slot : ℕ) (r : Running) (s : StoreState) → GoesFrom [] slot r r s s next.Waits
goes_nowhere slot r s = record { own = refl; store = refl; said = refl; call = refl }

-- it asks this of a target, and stands otherwise as before
pub goes_ask_on : (slot : ℕ) (r : Running) (target : TargetId) (o : Op) (s : StoreState)
    → GoesFrom (Queues target.0 (queued_for slot o) ∷ []) slot r (record r { asking = Asked }) s s (next.Asks target o)
goes_ask_on slot r target o s = record { own = refl; store = refl; said = refl; call = asked_there slot target.0 o r }
