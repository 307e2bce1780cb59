-- What a service of objects holds, reads, touches and writes, and which lock covers a request for bytes, is what the rows
-- have of their objects and locks.
use Rattle.std.proofs.Common.{◌≡◌, ℕ, ◌+◌, ◌-◌, ◌*◌, ◌/◌, ◌<◌, ◌≤◌, ◌==◌, ◌&&◌, Bool, true, false, cond, max, min, List, [], ◌∷◌, Some}
use Rattle.std.proofs.Common.{None, refl, sym, ap, subst, ◌∙◌, arith}
use Rattle.std.specs.Prelude.{if◌then◌else◌}
use Rattle.std.proofs.lemmas.Nat.{div-mul-add}
use Rattle.std.proofs.lemmas.Bool.Decides.{nat_tests}
use Rattle.lu_base.specs.declared.ids.At.{At}
use Rattle.lu_base.specs.declared.ids.Cookie.{Cookie}
use Rattle.lu_base.specs.declared.ids.Txn.{Txn}
use Rattle.lu_base.specs.declared.ids.Who.{Who}
use Rattle.lu_base.specs.declared.locks.Extent.{Extent}
use Rattle.lu_base.specs.declared.locks.Lock.{Lock}
use Rattle.lu_base.specs.declared.locks.Mode.TheVariants.{PR, PW}
use Rattle.lu_base.specs.declared.locks.Policy.{Policy}
use Rattle.lu_base.specs.declared.locks.Policy.TheVariants.{Bits, Range}
use Rattle.lu_base.specs.declared.locks.Resource.{Resource}
use Rattle.lu_held.specs.Locks.{same_resource}
use Rattle.lu_lock.specs.Modes.{serves}
use Rattle.lu_lock.specs.Overlap.{extents_meet}
use Rattle.lu_spec_machine.specs.Objects.{Object, object_after, object_size, object_writes, object_touches, page_size, page_extent, content}
use Rattle.lu_msg.specs.declared.answers.Answer.{Answer}
use Rattle.lu_msg.specs.declared.answers.Answer.TheVariants as told
use Rattle.lu_msg.specs.declared.commits.Transaction.{Transaction}
use Rattle.lu_msg.specs.declared.messages.Request.{Request as RequestOf}
use Rattle.lu_msg.specs.declared.operations.Op.{Op}
use Rattle.lu_msg.specs.declared.operations.Op.TheVariants as op
use Rattle.lu_part.specs.declared.parts.Part.{Part}
use Rattle.lu_service.specs.Acts.{Acts, common}
use Rattle.lu_service.specs.Contents as own
use Rattle.lu_service.specs.Contents.{Contents, asked, most_bytes}
use Rattle.lu_service.specs.Covered as service
use Rattle.lu_service.specs.Covered.{covered, is_named}
use Rattle.lu_service.specs.Objects.{objects, alters, objects_after, answer_of, bare}
use Rattle.lu_spec_entries.specs.Carried.{Contents as Read}
use Rattle.lu_spec_entries.specs.Words.{same_life}
use Rattle.lu_spec_target.specs.Stored.{object_in, with_object, done, done_by, forgotten}
use Rattle.lu_spec_target.specs.States.{Target, no_contents}
use Rattle.lu_spec_target.specs.Replies.{seen_in, none, next_number, reply_to, deed_of, locks_on}
use Rattle.lu_spec_target.specs.Queues.{object, size_of, extent_of}
use Rattle.lu_spec_target.specs.Queues as queues
use Rattle.lu_spec_target.specs.Glimpses.{answered, row_answers}
use Rattle.lu_spec_target.specs.Objects.{lock_of, lies_in, row_uncovered, row_get, row_write, row_written, written, put_extent, cut_extent}
use Rattle.lu_spec_target.specs.Outcomes as outcomes
use Rattle.lu_spec_target.specs.Windows.{Replayed}
use Rattle.lu_target_refines.specs.Contents.{ShowsObjects, all_forgotten}
use Rattle.lu_target_refines.specs.Cookies.{HaveOther, HaveOneEach, with_cookie, of_asker}

-- ---- objects by resource

pub object_is : (es : List (Resource × Object)) (r : Resource) → own.object_in es r ≡ object_in es r
object_is [] r = refl
object_is (e ∷ es) r = ap (λ (x : Object). if same_resource e.0 r then e.1 else x) (object_is es r)

with_object_is : (r : Resource) (x : Object) (es : List (Resource × Object)) → own.with_object r x es ≡ with_object r x es
with_object_is r x [] = refl
with_object_is r x (e ∷ es) = ap (λ (more : List (Resource × Object)). if same_resource e.0 r then (e.0, x) ∷ es else e ∷ more)
    (with_object_is r x es)

changed_is : (r : Resource) (o : Op) (es : List (Resource × Object)) → own.with_object r (object_after o (own.object_in es r)) es
    ≡ with_object r (object_after o (object_in es r)) es
changed_is r o es = with_object_is r (object_after o (own.object_in es r)) es
    ∙ ap (λ (x : Object). with_object r (object_after o x) es) (object_is es r)

-- ---- what the service holds

pub bare_shows : ShowsObjects bare no_contents
bare_shows = refl

-- a transaction changes both alike, and nothing else changes either
done_is : (osts : ℕ) (t : Transaction) (c : Read) (o : Op) → objects_after o c.objects ≡ (done_by osts t c o).objects
done_is osts t c (op.Lookup path) = refl
done_is osts t c (op.Stat path) = refl
done_is osts t c (op.List path) = refl
done_is osts t c (op.Layout path) = refl
done_is osts t c (op.Mkdir path) = refl
done_is osts t c (op.Create path size count) = refl
done_is osts t c (op.Link one new) = refl
done_is osts t c (op.Unlink path) = refl
done_is osts t c (op.Rmdir path) = refl
done_is osts t c (op.Rename one new) = refl
done_is osts t c (op.Chmod path mode) = refl
done_is osts t c (op.Open path) = refl
done_is osts t c (op.Close opened fid) = refl
done_is osts t c (op.Enqueue resource mode extent) = refl
done_is osts t c (op.Get resource cookie page) = refl
done_is osts t c (op.Put resource cookie offset bytes) = changed_is resource (op.Put resource cookie offset bytes) c.objects
done_is osts t c (op.Cut resource cookie size) = changed_is resource (op.Cut resource cookie size) c.objects
done_is osts t c (op.Size resource) = refl

pub puts : (acts : Acts) → acts ≡ objects → (osts : ℕ) (s new : Contents) (read : Read) → ShowsObjects s read
    → (t : Transaction) → new ≡ acts.after s (asked t.txn t.who t.op) → ShowsObjects new (done osts read t)
puts acts is osts s new read shows t e =
    let after : new ≡ objects.after s (asked t.txn t.who t.op) = e ∙ ap (λ (x : Acts). x.after s (asked t.txn t.who t.op)) is in
    ap (λ (x : Contents). x.objects) after ∙ ap (objects_after t.op) shows ∙ done_is osts t read t.op

-- what makes no transaction leaves all as it is
still : (o : Op) (es : List (Resource × Object)) → alters o ≡ false → objects_after o es ≡ es
still (op.Lookup path) es not = refl
still (op.Stat path) es not = refl
still (op.List path) es not = refl
still (op.Layout path) es not = refl
still (op.Mkdir path) es not = refl
still (op.Create path size count) es not = refl
still (op.Link one new) es not = refl
still (op.Unlink path) es not = refl
still (op.Rmdir path) es not = refl
still (op.Rename one new) es not = refl
still (op.Chmod path mode) es not = refl
still (op.Open path) es not = refl
still (op.Close opened fid) es not = refl
still (op.Enqueue resource mode extent) es not = refl
still (op.Get resource cookie page) es not = refl
still (op.Put resource cookie offset bytes) es not = absurd (cc)
still (op.Cut resource cookie size) es not = absurd (cc)
still (op.Size resource) es not = refl

pub looks : (acts : Acts) → acts ≡ objects → (s new : Contents) (read : Read) → ShowsObjects s read
    → (number : Txn) (who : Who) (o : Op) → acts.changes s (asked number who o) ≡ false → new ≡ acts.after s (asked number who o)
    → ShowsObjects new read
looks acts is s new read shows number who o unchanged e =
    let after : new ≡ objects.after s (asked number who o) = e ∙ ap (λ (x : Acts). x.after s (asked number who o)) is in
    let not : alters o ≡ false = sym (ap (λ (x : Acts). x.changes s (asked number who o)) is) ∙ unchanged in
    ap (λ (x : Contents). x.objects) after ∙ still o s.objects not ∙ shows

-- lives that go take no bytes
forgotten_objects : (gone : List Who) (c : Read) → (forgotten gone c).objects ≡ c.objects
forgotten_objects [] c = refl
forgotten_objects (who ∷ gone) c = forgotten_objects gone (record { tree = _; objects = c.objects })

all_forgotten_is : (gone : List Who) (s : Contents) → all_forgotten objects gone s ≡ s
all_forgotten_is [] s = refl
all_forgotten_is (who ∷ gone) s = all_forgotten_is gone s

pub forgets_objects : (acts : Acts) → acts ≡ objects → (s : Contents) (read : Read) → ShowsObjects s read → (gone : List Who)
    → ShowsObjects (all_forgotten acts gone s) (forgotten gone read)
forgets_objects acts is s read shows gone =
    ap (λ (x : Acts). (all_forgotten x gone s).objects) is ∙ ap (λ (x : Contents). x.objects) (all_forgotten_is gone s) ∙ shows
    ∙ sym (forgotten_objects gone read)

-- ---- sizes

pub size_is : (acts : Acts) → acts ≡ objects → (s : Contents) (v : Target) → ShowsObjects s v.contents
    → (number : Txn) (who : Who) (resource : Resource) (answer : Answer)
    → answer ≡ acts.answer s (asked number who (op.Size resource)) → answer ≡ told.Size (size_of v resource)
size_is acts is s v shows number who resource answer e =
    e ∙ ap (λ (x : Acts). x.answer s (asked number who (op.Size resource))) is
    ∙ ap (λ (x : Object). told.Size (object_size x)) (object_is s.objects resource)
    ∙ ap (λ (es : List (Resource × Object)). told.Size (object_size (object_in es resource))) shows

-- ---- what is read: the part of the page under the lock

pub record Lies (number : ℕ) (part : Extent) : Type 0 where
  pub ordered : part.first ≤ part.last
  pub page : part.last / page_size ≡ part.first / page_size
  pub first : part.first / page_size ≡ number
  pub end : (number + 1) * page_size ≤ most_bytes → part.last < most_bytes

within_page : (page n : ℕ) → page * 4096 ≤ n → n ≤ page * 4096 + 4095 → n / 4096 ≡ page
within_page page n low high =
    let e : n ≡ page * 4096 + (n - page * 4096) = omega (arith, low) in
    ap (λ k. k / 4096) e ∙ div-mul-add page 4096 (n - page * 4096) (omega (arith, low, high))

pub part_lies : (page : ℕ) (extent : Extent) → extents_meet extent (page_extent page) ≡ true → Lies page (common (page_extent page) extent)
part_lies page extent meet = by extent.first extent.last (grind (arith, nat_tests)) where
  by : (first last : ℕ) → max first (page * 4096) ≤ min last (page * 4096 + 4095)
      → Lies page (common (page_extent page) (record { first = first; last = last }))
  by first last le =
      let ordered : max (page * 4096) first ≤ min (page * 4096 + 4095) last = omega (arith, le) in
      let low : page * 4096 ≤ max (page * 4096) first = omega arith in
      let high : min (page * 4096 + 4095) last ≤ page * 4096 + 4095 = omega arith in
      let one : max (page * 4096) first / 4096 ≡ page = within_page page (max (page * 4096) first) low (omega (arith, ordered, high)) in
      let two : min (page * 4096 + 4095) last / 4096 ≡ page = within_page page (min (page * 4096 + 4095) last) (omega (arith, ordered, low))
      high in
      record { ordered = ordered; page = two ∙ sym one; first = one; end = λ end. omega (arith, high, end) }

pub read_is : (acts : Acts) → acts ≡ objects → (s : Contents) (v : Target) → ShowsObjects s v.contents
    → (resource : Resource) (page : ℕ) (extent : Extent) (bytes : List ℕ)
    → extents_meet extent (page_extent page) ≡ true
    → ((page : ℕ) (part : Extent) → acts.read s resource page part ≡ acts.read s resource page (common (page_extent page) part))
    → bytes ≡ acts.read s resource ((common (page_extent page) extent).first / page_size) (common (page_extent page) extent)
    → bytes ≡ content page extent (object v resource)
read_is acts is s v shows resource page extent bytes meet within e =
    e ∙ ap (λ n. acts.read s resource n (common (page_extent page) extent)) (Lies.first (part_lies page extent meet))
    ∙ sym (within page extent)
    ∙ ap (λ (x : Acts). x.read s resource page extent) is
    ∙ ap (content page extent) (object_is s.objects resource)
    ∙ ap (λ (es : List (Resource × Object)). content page extent (object_in es resource)) shows

-- ---- what is touched and written

pub get_deed : (acts : Acts) → acts ≡ objects → (s : Contents) (v : Target) (at : At) (r : RequestOf) (resource : Resource)
    (cookie : Cookie) (page : ℕ) (bytes : List ℕ) (parts : List Part)
    → r.op ≡ op.Get resource cookie page → parts ≡ acts.touches s (asked none r.who r.op)
    → answered v at r (told.Content bytes) ≡ deed_of r [] (reply_to v r none (seen_in parts v.log) at [] (told.Content bytes))
get_deed acts is s v at r resource cookie page bytes parts o e =
    let one : parts ≡ object_touches (op.Get resource cookie page) (told.Content bytes) =
    e ∙ ap (λ (x : Acts). x.touches s (asked none r.who r.op)) is ∙ ap (λ (x : Op). object_touches x (answer_of s.objects x)) o
    in
    let two : parts ≡ object_touches r.op (told.Content bytes) = one ∙ ap (λ (x : Op). object_touches x (told.Content bytes)) (sym o) in
    ap (λ (ps : List Part). deed_of r [] (reply_to v r none (seen_in ps v.log) at [] (told.Content bytes))) (sym two)

pub size_deed : (acts : Acts) → acts ≡ objects → (s : Contents) (v : Target) (at : At) (r : RequestOf) (resource : Resource) (size : ℕ)
    (parts : List Part)
    → r.op ≡ op.Size resource → parts ≡ acts.touches s (asked none r.who r.op)
    → answered v at r (told.Size size) ≡ deed_of r [] (reply_to v r none (seen_in parts v.log) at [] (told.Size size))
size_deed acts is s v at r resource size parts o e =
    let one : parts ≡ object_touches (op.Size resource) (told.Size size) =
    e ∙ ap (λ (x : Acts). x.touches s (asked none r.who r.op)) is ∙ ap (λ (x : Op). object_touches x (answer_of s.objects x)) o
    in
    let two : parts ≡ object_touches r.op (told.Size size) = one ∙ ap (λ (x : Op). object_touches x (told.Size size)) (sym o) in
    ap (λ (ps : List Part). deed_of r [] (reply_to v r none (seen_in ps v.log) at [] (told.Size size))) (sym two)

-- a put and a cut are done, whatever the contents
record Does (osts : ℕ) (c : Read) (r : Replayed) (es : List (Resource × Object)) (o : Op) : Type 0 where
  answer : answer_of es o ≡ told.Done
  again : outcomes.answer_of osts c r o ≡ told.Done
  written : outcomes.writes_of osts c r o ≡ object_writes r.op

does : (osts : ℕ) (c : Read) (r : Replayed) (es : List (Resource × Object)) (o : Op) → alters o ≡ true → Does osts c r es o
does osts c r es (op.Lookup path) is = absurd (cc)
does osts c r es (op.Stat path) is = absurd (cc)
does osts c r es (op.List path) is = absurd (cc)
does osts c r es (op.Layout path) is = absurd (cc)
does osts c r es (op.Mkdir path) is = absurd (cc)
does osts c r es (op.Create path size count) is = absurd (cc)
does osts c r es (op.Link one new) is = absurd (cc)
does osts c r es (op.Unlink path) is = absurd (cc)
does osts c r es (op.Rmdir path) is = absurd (cc)
does osts c r es (op.Rename one new) is = absurd (cc)
does osts c r es (op.Chmod path mode) is = absurd (cc)
does osts c r es (op.Open path) is = absurd (cc)
does osts c r es (op.Close opened fid) is = absurd (cc)
does osts c r es (op.Enqueue resource mode extent) is = absurd (cc)
does osts c r es (op.Get resource cookie page) is = absurd (cc)
does osts c r es (op.Put resource cookie offset bytes) is = record { answer = refl; again = refl; written = refl }
does osts c r es (op.Cut resource cookie size) is = record { answer = refl; again = refl; written = refl }
does osts c r es (op.Size resource) is = absurd (cc)

no_replay : Op → Replayed
no_replay o = record { who = record { client = 0; life = 0 }; number = 0; xid = 0; tag = 0; seen = []; op = o }

alters_done : (o : Op) (es : List (Resource × Object)) → alters o ≡ true → answer_of es o ≡ told.Done
alters_done o es is = Does.answer (does 0 no_contents (no_replay o) es o is)

pub written_is : (acts : Acts) → acts ≡ objects → (s : Contents) (v : Target) (at : At) (r : RequestOf) (answer : Answer)
    (touched writes : List Part)
    → alters r.op ≡ true → answer ≡ acts.answer s (asked (next_number v) r.who r.op)
    → touched ≡ acts.touches s (asked (next_number v) r.who r.op) → writes ≡ acts.writes s (asked (next_number v) r.who r.op)
    → written v at r ≡ deed_of r writes (reply_to v r (next_number v) (seen_in touched v.log) at [] answer)
written_is acts is s v at r answer touched writes alter a t w =
    let one : answer ≡ told.Done = a ∙ ap (λ (y : Acts). y.answer s (asked (next_number v) r.who r.op)) is
    ∙ alters_done r.op s.objects alter in
    let two : touched ≡ object_touches r.op told.Done =
    t ∙ ap (λ (y : Acts). y.touches s (asked (next_number v) r.who r.op)) is ∙ ap (object_touches r.op) (alters_done r.op s.objects alter)
    in
    let three : writes ≡ object_writes r.op = w ∙ ap (λ (y : Acts). y.writes s (asked (next_number v) r.who r.op)) is in
    sym (ap (λ (ps : List Part). deed_of r ps (reply_to v r (next_number v) (seen_in touched v.log) at [] answer)) three
    ∙ ap (λ (ps : List Part). deed_of r (object_writes r.op) (reply_to v r (next_number v) (seen_in ps v.log) at [] answer)) two
    ∙ ap (λ (y : Answer). deed_of r (object_writes r.op) (reply_to v r (next_number v) (seen_in (object_touches r.op told.Done) v.log) at []
    y)) one)

-- ---- which lock covers a request

lock_named : (who : Who) (resource : Resource) (cookie : Cookie) (locks : List Lock) (l : Lock)
    → lock_of who cookie (locks_on resource locks) ≡ Some l → is_named who resource cookie l ≡ true
lock_named who resource cookie [] l is = absurd (cc)
lock_named who resource cookie (k ∷ locks) l is = by (lock_named who resource cookie locks l) (same_resource k.resource resource) refl
    (k.cookie.0 == cookie.0 && same_life k.ask.who who) refl is where
      both : (a b : Bool) → a ≡ true → b ≡ true → (a && b) ≡ true
      both a b p q = rw (p, q) refl

      by : (lock_of who cookie (locks_on resource locks) ≡ Some l → is_named who resource cookie l ≡ true)
          → (here : Bool) → same_resource k.resource resource ≡ here → (this : Bool) → (k.cookie.0 == cookie.0 && same_life k.ask.who who)
          ≡ this
          → lock_of who cookie (cond here (k ∷ locks_on resource locks) (locks_on resource locks)) ≡ Some l → is_named who resource cookie l
          ≡ true
      by rest false h b t is = rest is
      by rest true h b t is = of b t (sym (ap (λ c. if c then Some k else lock_of who cookie (locks_on resource locks)) t) ∙ is) where
        of : (b : Bool) → (k.cookie.0 == cookie.0 && same_life k.ask.who who) ≡ b
            → (if b then Some k else lock_of who cookie (locks_on resource locks)) ≡ Some l → is_named who resource cookie l ≡ true
        of true t is = let one : k ≡ l = cc in subst (λ (x : Lock). is_named who resource cookie x ≡ true) one (both _ _ h t)
        of false t is = rest is

extents_same : (p : Policy) → service.extent_in p ≡ queues.extent_in p
extents_same (Range extent) = refl
extents_same (Bits bits) = refl

pub get_is : (v : Target) (at : At) (r : RequestOf) (resource : Resource) (cookie : Cookie) (page : ℕ) (locks : List Lock) (l : Lock)
    → lock_of r.who cookie (locks_on resource locks) ≡ Some l
    → row_get v at r resource page (Some l)
    ≡ (if covered (op.Get resource cookie page) (Some l) r.who then row_answers
    (answered v at r (told.Content (content page (extent_of l) (object v resource)))) else row_uncovered v at r)
get_is v at r resource cookie page locks l is =
    let named : is_named r.who resource cookie l ≡ true = lock_named r.who resource cookie locks l is in
    ap (λ (x : Extent). if serves l.ask.mode PR && extents_meet x (page_extent page)
    then row_answers (answered v at r (told.Content (content page (extent_of l) (object v resource)))) else row_uncovered v at r)
    (sym (extents_same l.ask.policy))
    ∙ ap (λ b. if b && service.covers_read page l then row_answers
    (answered v at r (told.Content (content page (extent_of l) (object v resource)))) else row_uncovered v at r) (sym named)

pub get_none : (v : Target) (at : At) (r : RequestOf) (resource : Resource) (cookie : Cookie) (page : ℕ)
    → row_get v at r resource page None ≡ (if covered (op.Get resource cookie page) None r.who then [] else row_uncovered v at r)
get_none v at r resource cookie page = refl

-- under a lock that covers it, a page meets the lock's range
pub get_meets : (resource : Resource) (cookie : Cookie) (page : ℕ) (l : Lock) (who : Who)
    → covered (op.Get resource cookie page) (Some l) who ≡ true → extents_meet (extent_of l) (page_extent page) ≡ true
get_meets resource cookie page l who is =
    ap (λ (x : Extent). extents_meet x (page_extent page)) (sym (extents_same l.ask.policy))
    ∙ last (is_named who resource cookie l) (serves l.ask.mode PR) (extents_meet (service.extent_of l) (page_extent page)) is
  where
    last : (a b c : Bool) → (a && (b && c)) ≡ true → c ≡ true
    last true true c h = h
    last true false c h = absurd (cc)
    last false b c h = absurd (cc)

pub put_is : (v : Target) (at : At) (r : RequestOf) (resource : Resource) (cookie : Cookie) (offset : ℕ) (bytes : List ℕ)
    (locks : List Lock) (l : Lock)
    → lock_of r.who cookie (locks_on resource locks) ≡ Some l
    → row_write v at r (put_extent offset bytes) (Some l) ≡ (if covered (op.Put resource cookie offset bytes) (Some l) r.who
    then row_written (written v at r) else row_uncovered v at r)
put_is v at r resource cookie offset bytes locks l is =
    let named : is_named r.who resource cookie l ≡ true = lock_named r.who resource cookie locks l is in
    ap (λ (x : Extent). if serves l.ask.mode PW && lies_in (put_extent offset bytes) x then row_written (written v at r)
    else row_uncovered v at r) (sym (extents_same l.ask.policy))
    ∙ ap (λ b. if b && service.covers_write (service.put_extent offset bytes) l then row_written (written v at r) else row_uncovered v at r)
    (sym named)

pub cut_is : (v : Target) (at : At) (r : RequestOf) (resource : Resource) (cookie : Cookie) (size : ℕ) (locks : List Lock) (l : Lock)
    → lock_of r.who cookie (locks_on resource locks) ≡ Some l
    → row_write v at r (cut_extent size) (Some l) ≡ (if covered (op.Cut resource cookie size) (Some l) r.who
    then row_written (written v at r) else row_uncovered v at r)
cut_is v at r resource cookie size locks l is =
    let named : is_named r.who resource cookie l ≡ true = lock_named r.who resource cookie locks l is in
    ap (λ (x : Extent). if serves l.ask.mode PW && lies_in (cut_extent size) x then row_written (written v at r) else row_uncovered v at r)
    (sym (extents_same l.ask.policy))
    ∙ ap (λ b. if b && service.covers_write (service.cut_extent size) l then row_written (written v at r) else row_uncovered v at r)
    (sym named)

-- ---- a kept replay, done again

pub deed_again_objects : (acts : Acts) → acts ≡ objects → (s : Contents) (c : Read) (v : Target) (at : At) (r : Replayed) (answer : Answer)
    (writes : List Part) → alters r.op ≡ true
    → answer ≡ acts.answer s (outcomes.redone r) → writes ≡ acts.writes s (outcomes.redone r)
    → outcomes.deed_again v at c r ≡ record (outcomes.deed_again v at c r)
    { writes = writes; reply = record (outcomes.deed_again v at c r).reply { answer = answer } }
deed_again_objects acts is s c v at r answer writes alter a w =
    let d : Does v.setting.osts c r s.objects r.op = does v.setting.osts c r s.objects r.op alter in
    let one : outcomes.answer_of v.setting.osts c r r.op ≡ answer = Does.again d
    ∙ sym (a ∙ ap (λ (y : Acts). y.answer s (outcomes.redone r)) is ∙ Does.answer d) in
    let two : outcomes.writes_of v.setting.osts c r r.op ≡ writes = Does.written d
    ∙ sym (w ∙ ap (λ (y : Acts). y.writes s (outcomes.redone r)) is) in
    ap (λ (ps : List Part). record (outcomes.deed_again v at c r) { writes = ps }) two
    ∙ ap (λ (x : Answer). record (outcomes.deed_again v at c r)
    { writes = writes; reply = record (outcomes.deed_again v at c r).reply { answer = x } }) one

-- ---- the lock that a cookie names, where each cookie is that of one lock

none_has : (who : Who) (cookie : Cookie) (resource : Resource) (locks : List Lock) → HaveOther cookie locks
    → lock_of who cookie (locks_on resource locks) ≡ None
none_has who cookie resource [] other = refl
none_has who cookie resource (k ∷ locks) other = by (same_resource k.resource resource) (none_has who cookie resource locks other.1) where
  by : (here : Bool) → lock_of who cookie (locks_on resource locks) ≡ None
      → lock_of who cookie (cond here (k ∷ locks_on resource locks) (locks_on resource locks)) ≡ None
  by false rest = rest
  by true rest = ap (λ b. if b && same_life k.ask.who who then Some k else lock_of who cookie (locks_on resource locks)) other.0 ∙ rest

pub found_is : (who : Who) (cookie : Cookie) (resource : Resource) (locks : List Lock) → HaveOneEach locks
    → lock_of who cookie (locks_on resource locks) ≡ of_asker who resource (with_cookie cookie locks)
found_is who cookie resource [] each = refl
found_is who cookie resource (k ∷ locks) each = by (k.cookie.0 == cookie.0) refl (same_resource k.resource resource) refl
    (found_is who cookie resource locks each.1) where
      others : (k.cookie.0 == cookie.0) ≡ true → (ls : List Lock) → HaveOther k.cookie ls → HaveOther cookie ls
      others h [] o = tt
      others h (l ∷ ls) o = let apart : (l.cookie.0 == k.cookie.0) ≡ false = o.0 in (grind (arith, nat_tests), others h ls o.1)

      this : (mine : Bool) → lock_of who cookie (locks_on resource locks) ≡ None
          → (if mine then Some k else lock_of who cookie (locks_on resource locks)) ≡ (if mine then Some k else None)
      this true e = refl
      this false e = e

      found : (on mine : Bool) → same_life k.ask.who who ≡ mine → (k.cookie.0 == cookie.0) ≡ true → lock_of who cookie (locks_on resource locks)
          ≡ None
          → lock_of who cookie (cond on (k ∷ locks_on resource locks) (locks_on resource locks)) ≡ (if on && mine then Some k else None)
      found true mine m h e =
          ap (λ b. if b && same_life k.ask.who who then Some k else lock_of who cookie (locks_on resource locks)) h
          ∙ ap (λ b. if b then Some k else lock_of who cookie (locks_on resource locks)) m ∙ this mine e
      found false mine m h e = e

      by : (here : Bool) → (k.cookie.0 == cookie.0) ≡ here → (on : Bool) → same_resource k.resource resource ≡ on
          → lock_of who cookie (locks_on resource locks) ≡ of_asker who resource (with_cookie cookie locks)
          → lock_of who cookie (cond on (k ∷ locks_on resource locks) (locks_on resource locks))
          ≡ of_asker who resource (if here then Some k else with_cookie cookie locks)
      by true h on o e =
          found on (same_life k.ask.who who) refl h (none_has who cookie resource locks (others h locks each.0))
          ∙ ap (λ b. if b && same_life k.ask.who who then Some k else None) (sym o)
      by false h true o e = ap (λ b. if b && same_life k.ask.who who then Some k else lock_of who cookie (locks_on resource locks)) h ∙ e
      by false h false o e = e
