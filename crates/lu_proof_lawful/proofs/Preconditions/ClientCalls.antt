-- The calls of a client's slots, by the rows. A call that has asked doesn't move, nor does a close that waits for others on its open; a
-- close
-- that waits for none is free. What a call on names does first, and what it does once it was answered.
use Rattle.std.proofs.Common.{◌≡◌, ℕ, zero, suc, ◌≤◌, ◌<◌, Bool, true, false, List, [], ◌∷◌, ◌++◌, ◌⊎◌, inl, inr, Option, Some, None, refl}
use Rattle.std.proofs.Common.{sym, subst, ap, ◌∙◌, arith, pos}
use Rattle.std.specs.Prelude.{nat_eq, nat_lt, ◌||◌, if◌then◌else◌, length}
use Rattle.std.specs.List.{list_any}
use Rattle.std.proofs.lemmas.Bool.{eqb-true}
use Rattle.std.proofs.lemmas.Bool.Decides.{nat_tests}
use Rattle.lu_base.specs.declared.ids.At.{At}
use Rattle.lu_base.specs.declared.ids.Fid.{Fid}
use Rattle.lu_base.specs.declared.ids.Who.{Who}
use Rattle.lu_base.specs.declared.locks.Resource.{Resource}
use Rattle.lu_layout.specs.Raid0.{Raid0}
use Rattle.lu_msg.specs.declared.answers.Answer.{Answer}
use Rattle.lu_msg.specs.declared.answers.Answer.TheVariants as answer
use Rattle.lu_msg.specs.declared.calls.Call.{Call}
use Rattle.lu_msg.specs.declared.calls.Call.TheVariants as call
use Rattle.lu_msg.specs.declared.operations.Op.{Op}
use Rattle.lu_msg.specs.declared.operations.Op.TheVariants as op
use Rattle.lu_held.specs.declared.locks.Use.{Use}
use Rattle.lu_spec_entries.specs.Carried.{HandleFile, Kind, Stats, Glimpses, Asking, Asked, Answered, Work, Stage, Plain, Running}
use Rattle.lu_spec_entries.specs.Words.{Entry, Queues, Line}
use Rattle.lu_spec_client.specs.Advances.{queued_for, tells}
use Rattle.lu_spec_client.specs.Caches.{patches_at}
use Rattle.lu_spec_client.specs.Calls.{asks, asks_for, call_on, calls_at}
use Rattle.lu_spec_client.specs.Glimpses.{glimpse_hears}
use Rattle.lu_spec_client.specs.Patches.{Patch}
use Rattle.lu_spec_client.specs.Known.{Notes, Known, KnownFile, Found, found_at_path, lookup_known, list_known, layout_known}
use Rattle.lu_spec_client.specs.Known.{directory_known, file_known, cookies_of_file, names_of}
use Rattle.lu_spec_client.specs.Slots.{goes_at, is_alone, is_close, is_free_close}
use Rattle.lu_spec_client.specs.Starts.{sizes_heard, tells_known, starts_known, stats as stats_at, stats_file, starts_stat, is_on, count_on}
use Rattle.lu_spec_client.specs.Starts.{starts_close, notes_of, starts, answers, goes_plain}
use Rattle.lu_spec_client.specs.States.{Client as ClientState, Store}
use Rattle.lu_proof_lawful.specs.Covered.Calls.{call_at, life_at, operation_of, becomes, told_as}
use Rattle.lu_proof_lawful.specs.Covered.Known.{told_of, known_answer, known_file}
use Rattle.lu_proof_lawful.proofs.Preconditions.Guards.{IsToldAsIs}
use Rattle.lu_proof_lawful.proofs.Preconditions.Lists.{self}
pub use Rattle.lu_proof_lawful.proofs.Preconditions.Covers.{EntriesCovered, covered_left, covered_right}
use Rattle.lu_proof_lawful.proofs.Preconditions.ClientHandles.{binding, count_self, count_more}
use Rattle.lu_proof_lawful.proofs.Preconditions.CallStands.{TellsNothing, IsUnheard, HasAsked, Closing, Idle, AllIdle, Still}
use Rattle.lu_proof_lawful.proofs.Preconditions.ClientKnown.{AllUsable, lookup_usable, list_usable, layout_usable, directory_usable}
use Rattle.lu_proof_lawful.proofs.Preconditions.ClientKnown.{file_usable, found_usable}

-- ---- slots whose calls wait don't move

-- a call on names that has no locks to look for
abbrev pub OnNames : Running → Type 0
OnNames r = (r.stage ≡ Plain) × ((o : Op) × (becomes r ≡ Some o))

hears_nothing : (at : At) (slot : ℕ) (left : List Use) (sizes : List ℕ) (a : Answer) (r : Running) (w : Work) (s : Store) → TellsNothing a
    → glimpse_hears at slot left sizes a r w s ≡ []
hears_nothing at slot left sizes (answer.Size size) r w s n = absurd n
hears_nothing at slot left sizes answer.Lock r w s n = absurd n
hears_nothing at slot [] sizes a r w s n = refl
hears_nothing at slot (wanted ∷ left) sizes a r w s n = refl

unheard_not : (at : At) (slot : ℕ) (sizes : List ℕ) (asking : Asking) (r : Running) (w : Work) (s : Store) → IsUnheard asking
    → sizes_heard at slot asking (Glimpses sizes) r w s ≡ []
unheard_not at slot sizes (Answered t reply) r w s n = hears_nothing at slot w.left sizes reply.answer r w s n
unheard_not at slot sizes asking r w s n = absurd n

pub asked_not : (at : At) (slot : ℕ) (who : Who) (r : Running) (k : ClientState) → HasAsked who r → goes_at at slot r.stage r k ≡ []
asked_not at slot who r k (inl n) = ap (λ (s : Stage). goes_at at slot s r k) n.plain
    ∙ ap (λ (x : Asking). goes_plain at slot x r k) n.asked
asked_not at slot who r k (inr (inl a)) = ap (λ (s : Stage). goes_at at slot s r k) a.sizing.stage
    ∙ ap (λ (x : Kind). sizes_heard at slot r.asking x r a.sizing.work k.store) a.sizing.sized.kind ∙ waits a.waits
  where
    sizes : List ℕ
    sizes = a.sizing.sized.sizes

    waits : (r.asking ≡ Asked) ⊎ IsUnheard r.asking → sizes_heard at slot r.asking (Glimpses sizes) r a.sizing.work k.store ≡ []
    waits (inl e) = ap (λ (x : Asking). sizes_heard at slot x (Glimpses sizes) r a.sizing.work k.store) e
    waits (inr u) = unheard_not at slot sizes r.asking r a.sizing.work k.store u
asked_not at slot who r k (inr (inr (inl l))) = ap (λ (s : Stage). goes_at at slot s r k) l.stage
asked_not at slot who r k (inr (inr (inr (inl w)))) = ap (λ (s : Stage). goes_at at slot s r k) w.stage
asked_not at slot who r k (inr (inr (inr (inr (inl f))))) = ap (λ (s : Stage). goes_at at slot s r k) f.stage
asked_not at slot who r k (inr (inr (inr (inr (inr g))))) = ap (λ (s : Stage). goes_at at slot s r k) g.stage

-- a close asks, where no other call is on its open
pub closes_so : (at : At) (slot : ℕ) (r : Running) (k : ClientState) (w : Closing r)
    → goes_at at slot r.stage r k ≡ (if nat_lt 1 (count_on w.file.number.0 k.calls) then []
    else Queues 0 (queued_for slot (op.Close w.file.number w.file.fid)) ∷ [])
closes_so at slot r k w =
    ap (λ (s : Stage). goes_at at slot s r k) w.plain
    ∙ ap (λ (x : Asking). goes_plain at slot x r k) w.new
    ∙ ap (λ (x : Call). starts at slot x r k) w.closes
    ∙ ap (λ (f : Option HandleFile). starts_close slot k.calls f) w.of_file

-- ---- closes that are free

-- a close that has asked nothing yet
abbrev pub is_closing : Option Running → Bool
is_closing None = false
is_closing (Some r) = is_close r.call r.asking

-- one that waits isn't free
pub one_not : (n : ℕ) → nat_lt 1 n ≡ true → nat_eq n 1 ≡ false
one_not n e = grind (arith, nat_tests)

pub more_than : (n : ℕ) → 1 ≤ n → nat_eq n 1 ≡ false → nat_lt 1 n ≡ true
more_than n low e = grind (arith, nat_tests)

pub closing_is : (all : List (Option Running)) (r : Running) (w : Closing r) → is_free_close all (Some r)
    ≡ nat_eq (count_on w.file.number.0 all) 1
closing_is all r w =
    ap (λ (x : Call). if is_close x r.asking then is_alone all r.file else false) w.closes
    ∙ ap (λ (x : Asking). if is_close (call.Close w.handle) x then is_alone all r.file else false) w.new
    ∙ ap (is_alone all) w.of_file

-- what is free is a close
pub free_closing : (all : List (Option Running)) (x : Option Running) → is_free_close all x ≡ true → is_closing x ≡ true
free_closing all None e = absurd (cc)
free_closing all (Some r) e = by (is_close r.call r.asking) e
  where
    by : (b : Bool) → (if b then is_alone all r.file else false) ≡ true → b ≡ true
    by true q = refl
    by false q = absurd (cc)

-- one that isn't free waits, where it is on its own open
pub waits_close : (all : List (Option Running)) (slot : ℕ) (r : Running) (w : Closing r) → call_on slot all ≡ Some r
    → is_free_close all (Some r) ≡ false → nat_lt 1 (count_on w.file.number.0 all) ≡ true
waits_close all slot r w e none =
    let n = w.file.number.0 in
    let on : is_on n (call_on slot all) ≡ true = ap (is_on n) e
    ∙ ap (λ (f : Option HandleFile). elim f [ None ↦ false | Some g ↦ nat_eq g.number.0 n ]) w.of_file ∙ self n in
    more_than (count_on n all) (count_self n slot all on) (sym (closing_is all r w) ∙ none)

-- one that is free is on its open alone
pub free_alone : (all : List (Option Running)) (r : Running) (w : Closing r) → is_free_close all (Some r) ≡ true
    → count_on w.file.number.0 all ≡ 1
free_alone all r w e = eqb-true (count_on w.file.number.0 all) 1 (sym (closing_is all r w) ∙ e)

any_not : (f : Option Running → Bool) → f None ≡ false → (calls : List (Option Running)) (slot : ℕ) → list_any f calls ≡ false
    → f (call_on slot calls) ≡ false
any_not f none [] slot e = none
any_not f none (x ∷ calls) zero e = by (f x) e
  where
    by : (b : Bool) → (b || list_any f calls) ≡ false → b ≡ false
    by true q = q
    by false q = refl
any_not f none (x ∷ calls) (suc slot) e = any_not f none calls slot (by (f x) e)
  where
    by : (b : Bool) → (b || list_any f calls) ≡ false → list_any f calls ≡ false
    by true q = absurd (cc)
    by false q = q

-- where none is free, each waits
pub still_idle : (who : Who) (patches : List (Resource × Patch)) (calls : List (Option Running)) (slot : ℕ)
    → Still who patches (call_on slot calls) → list_any (is_free_close calls) calls ≡ false → Idle who patches calls (call_on slot calls)
still_idle who patches calls slot m none = by (call_on slot calls) refl m
  where
    by : (x : Option Running) → call_on slot calls ≡ x → Still who patches x → Idle who patches calls x
    by None e m = tt
    by (Some r) e (inl a) = inl a
    by (Some r) e (inr w) = inr (record {
      closing = w;
      others =
          waits_close calls slot r w e (ap (is_free_close calls) (sym e) ∙ any_not (is_free_close calls) refl calls slot none);
    })

-- some slot has one that is free
pub any_on : (f : Option Running → Bool) (calls : List (Option Running)) → list_any f calls ≡ true → (slot : ℕ) × (slot < length calls)
    × (f (call_on slot calls) ≡ true)
any_on f [] e = absurd (cc)
any_on f (x ∷ calls) e = by (f x) refl e (λ k. any_on f calls k)
  where
    by : (b : Bool) → f x ≡ b → (b || list_any f calls) ≡ true → (list_any f calls ≡ true → (slot : ℕ) × (slot < length calls)
        × (f (call_on slot calls) ≡ true))
        → (slot : ℕ) × (slot < suc (length calls)) × (f (call_on slot (x ∷ calls)) ≡ true)
    by true q k more = (0, omega arith, q)
    by false q k more = let r = more k in let low = r.1 in (suc r.0, omega (arith, low), r.2)

-- with as many calls on each open or more, each waits still
pub idle_more : (who : Who) (patches : List (Resource × Patch)) (calls more : List (Option Running))
    → ((n : ℕ) → count_on n calls ≤ count_on n more) → (x : Option Running) → Idle who patches calls x → Idle who patches more x
idle_more who patches calls more le None i = tt
idle_more who patches calls more le (Some r) (inl a) = inl a
idle_more who patches calls more le (Some r) (inr w) = inr (record {
  closing = w.closing;
  others = above (count_on w.closing.file.number.0 calls) (count_on w.closing.file.number.0 more)
      (le w.closing.file.number.0) w.others;
})
  where
    above : (n m : ℕ) → n ≤ m → nat_lt 1 n ≡ true → nat_lt 1 m ≡ true
    above n m low e = grind (arith, nat_tests)

-- ---- the slots of a client

pub calls_wait : (c : ℕ) (past : List Line) → AllIdle c past → (slot : ℕ)
    → Idle (life_at c past) (patches_at c past) (calls_at c past) (call_on slot (calls_at c past))
calls_wait c past idle zero = idle 0
calls_wait c past idle (suc zero) = idle 1
calls_wait c past idle (suc (suc zero)) = idle 2
calls_wait c past idle (suc (suc (suc zero))) = idle 3
calls_wait c past idle (suc (suc (suc (suc slot)))) = tt

abbrev pub AllSmall : List ℕ → Type 0
AllSmall [] = Unit {0}
AllSmall (slot ∷ slots) = (slot < 4) × AllSmall slots

pub on_small : (c slot : ℕ) (past : List Line) → slot < 4 → call_on slot (calls_at c past) ≡ call_at c slot past
on_small c zero past b = refl
on_small c (suc zero) past b = refl
on_small c (suc (suc zero)) past b = refl
on_small c (suc (suc (suc zero))) past b = refl
on_small c (suc (suc (suc (suc slot)))) past b = absurd (omega (arith, b))

-- ---- what a call does first

-- it asks, since it isn't known
pub record AsksNames (slot : ℕ) (o : Op) (n : Notes) (c : Call) (es : List Entry) : Type 0 where
  pub unknown : known_answer n c ≡ None
  pub unknown_file : known_file n c ≡ None
  pub is : es ≡ Queues 0 (queued_for slot o) ∷ []

-- or it is known, under held locks
pub record TellsKnown (slot : ℕ) (r : Running) (n : Notes) (c : Call) (es : List Entry) : Type 0 where
  pub known : Known
  pub told : known_answer n c ≡ Some known.answer
  pub usable : AllUsable n.held known.cookies
  pub is : es ≡ tells_known r.at slot r known

-- or of a file that is to be stated all but the size is
pub record StatsKnown (at : At) (slot : ℕ) (r : Running) (k : ClientState) (c : Call) (es : List Entry) : Type 0 where
  pub path : List (List ℕ)
  pub stats : c ≡ call.Stat path
  pub file : KnownFile
  pub known : known_file (notes_of k) c ≡ Some file
  pub usable : AllUsable k.store.held file.cookies
  pub is : es ≡ stats_at at slot file.fid file.layout (Stats file.mode file.links) (names_of file.cookies) r k.store

abbrev pub Starting : At → ℕ → Call → Running → ClientState → Op → List Entry → Type 0
Starting at slot c r k o es = AsksNames slot o (notes_of k) c es ⊎ TellsKnown slot r (notes_of k) c es ⊎ StatsKnown at slot r k c es

known_or : (at : At) (slot : ℕ) (c : Call) (r : Running) (k : ClientState) (o : Op) (x : Option Known) → r.at ≡ at
    → known_answer (notes_of k) c ≡ told_of x → known_file (notes_of k) c ≡ None
    → ((y : Known) → x ≡ Some y → AllUsable k.store.held y.cookies) → Starting at slot c r k o (starts_known at slot r o x)
known_or at slot c r k o None e told no_file usable = inl (record { unknown = told; unknown_file = no_file; is = refl })
known_or at slot c r k o (Some x) e told no_file usable = inr (inl
    (record { known = x; told = told; usable = usable x refl; is = ap (λ (a : At). tells_known a slot r x) (sym e) }))

same_op : (slot : ℕ) (o p : Op) → Some o ≡ Some p → Queues 0 (queued_for slot o) ∷ [] ≡ Queues 0 (queued_for slot p) ∷ []
same_op slot o p e = let q : o ≡ p = cc in ap (λ (x : Op). Queues 0 (queued_for slot x) ∷ []) q

-- a close may wait
abbrev pub IsNoClose : Call → Type 0
IsNoClose (call.Close h) = ⊥
IsNoClose c = Unit {0}

pub starts_so : (at : At) (slot : ℕ) (c : Call) (r : Running) (k : ClientState) (o : Op) → r.at ≡ at → operation_of r.file c ≡ Some o
    → IsNoClose c → Starting at slot c r k o (starts at slot c r k)
starts_so at slot (call.Lookup path) r k o e is no_close =
    let found = found_at_path (notes_of k) path in
    subst (λ (p : Op). Starting at slot (call.Lookup path) r k p (starts at slot (call.Lookup path) r k))
    (let q : op.Lookup path ≡ o = cc in q)
    (known_or at slot (call.Lookup path) r k (op.Lookup path) (lookup_known found) e refl refl
    (λ y q. lookup_usable (notes_of k) found (found_usable (notes_of k) path) y q))
starts_so at slot (call.List path) r k o e is no_close =
    let found = found_at_path (notes_of k) path in
    subst (λ (p : Op). Starting at slot (call.List path) r k p (starts at slot (call.List path) r k)) (let q : op.List path ≡ o = cc in q)
    (known_or at slot (call.List path) r k (op.List path) (list_known (notes_of k) found) e refl refl
    (λ y q. list_usable (notes_of k) found (found_usable (notes_of k) path) found.inode y q))
starts_so at slot (call.Layout path) r k o e is no_close =
    let found = found_at_path (notes_of k) path in
    subst (λ (p : Op). Starting at slot (call.Layout path) r k p (starts at slot (call.Layout path) r k))
    (let q : op.Layout path ≡ o = cc in q)
    (known_or at slot (call.Layout path) r k (op.Layout path) (layout_known (notes_of k) found) e refl refl
    (λ y q. layout_usable (notes_of k) found (found_usable (notes_of k) path) found.inode y q))
starts_so at slot (call.Stat path) r k o e is no_close = by (directory_known n found) refl
  where
    n : Notes
    n = notes_of k

    found : Found
    found = found_at_path n path

    usable : AllUsable k.store.held found.cookies
    usable = found_usable n path

    file : (f : Option KnownFile) → file_known n found ≡ f → directory_known n found ≡ None
        → Starting at slot (call.Stat path) r k o (stats_file at slot path r k.store f)
    file None q d = inl (record { unknown = ap told_of d; unknown_file = q; is = same_op slot (op.Stat path) o is })
    file (Some f) q d = inr (inr (record {
      path = path;
      stats = refl;
      file = f;
      known = q;
      usable =
          file_usable n found usable found.inode f q;
      is = refl;
    }))

    by : (d : Option Known) → directory_known n found ≡ d → Starting at slot (call.Stat path) r k o
        (starts_stat at slot path r k.store n found d)
    by None q = file (file_known n found) refl q
    by (Some d) q = inr (inl (record {
      known = d;
      told = ap told_of q;
      usable = directory_usable n found usable found.inode d q;
      is =
          ap (λ (a : At). tells_known a slot r d) (sym e);
    }))
starts_so at slot (call.Mkdir path) r k o e is no_close = inl (record
    { unknown = refl; unknown_file = refl; is = same_op slot (op.Mkdir path) o is })
starts_so at slot (call.Create path None) r k o e is no_close =
    inl (record { unknown = refl; unknown_file = refl; is = same_op slot (op.Create path 1048576 (pos 1)) o is })
starts_so at slot (call.Create path (Some stripes)) r k o e is no_close =
    inl (record { unknown = refl; unknown_file = refl; is = same_op slot (op.Create path stripes.0 stripes.1) o is })
starts_so at slot (call.Link old new) r k o e is no_close = inl
    (record { unknown = refl; unknown_file = refl; is = same_op slot (op.Link old new) o is })
starts_so at slot (call.Unlink path) r k o e is no_close = inl (record
    { unknown = refl; unknown_file = refl; is = same_op slot (op.Unlink path) o is })
starts_so at slot (call.Rmdir path) r k o e is no_close = inl (record
    { unknown = refl; unknown_file = refl; is = same_op slot (op.Rmdir path) o is })
starts_so at slot (call.Rename old new) r k o e is no_close = inl
    (record { unknown = refl; unknown_file = refl; is = same_op slot (op.Rename old new) o is })
starts_so at slot (call.Chmod path mode) r k o e is no_close = inl
    (record { unknown = refl; unknown_file = refl; is = same_op slot (op.Chmod path mode) o is })
starts_so at slot (call.Open h path) r k o e is no_close = inl (record
    { unknown = refl; unknown_file = refl; is = same_op slot (op.Open path) o is })
starts_so at slot (call.Close h) r k o e is no_close = absurd no_close
starts_so at slot c r k o e is no_close = absurd (cc)

-- ---- what a call does that asked

-- it is told so
pub record ToldSo (slot : ℕ) (acted : At) (a : Answer) (c : Call) (r : Running) (es : List Entry) : Type 0 where
  pub is : es ≡ binding c a ++ tells slot r acted (told_as c a) None
  pub as_is : IsToldAsIs c (told_as c a)

-- but a stat of a file goes on
pub record StatsTold (at : At) (slot : ℕ) (a : Answer) (c : Call) (r : Running) (k : ClientState) (es : List Entry) : Type 0 where
  pub path : List (List ℕ)
  pub stats : c ≡ call.Stat path
  pub fid : Fid
  pub mode : ℕ
  pub links : ℕ
  pub layout : Raid0
  pub tells : a ≡ answer.FileStat fid mode links layout
  pub is : es ≡ stats_at at slot fid layout (Stats mode links) (names_of (cookies_of_file (notes_of k) path fid)) r k.store

pub answers_so : (at : At) (slot : ℕ) (acted : At) (a : Answer) (c : Call) (r : Running) (k : ClientState)
    → ToldSo slot acted a c r (answers at slot acted a c r k) ⊎ StatsTold at slot a c r k (answers at slot acted a c r k)
answers_so at slot acted (answer.OpenFile fid number layout) (call.Open h path) r k = inl (record { is = refl; as_is = tt })
answers_so at slot acted (answer.FileStat fid mode links layout) (call.Stat path) r k =
    inr (record { path = path; stats = refl; fid = fid; mode = mode; links = links; layout = layout; tells = refl; is = refl })
answers_so at slot acted a (call.Stat path) r k = inl (record { is = refl; as_is = tt })
answers_so at slot acted a c r k = inl (record { is = refl; as_is = tt })

-- a request that is queued or answered leaves its call on its open
pub asked_on : (n slot : ℕ) (o : Option ℕ) (a : Asking) (x : Option Running) → is_on n (asks_for o slot a x) ≡ is_on n x
asked_on n slot None a x = refl
asked_on n slot (Some s) a x = by (nat_eq s slot) x
  where
    by : (b : Bool) (x : Option Running) → is_on n (if b then asks a x else x) ≡ is_on n x
    by true None = refl
    by true (Some r) = refl
    by false x = refl

pub asked_more : (c : ℕ) (p q : List Line) (o : Option ℕ) (a : Asking)
    → ((slot : ℕ) → call_at c slot q ≡ asks_for o slot a (call_at c slot p)) → (n : ℕ)
    → count_on n (calls_at c p) ≤ count_on n (calls_at c q)
asked_more c p q o a calls n = count_more c n p q (λ s e. ap (is_on n) (calls s) ∙ asked_on n s o a (call_at c s p) ∙ e)
