-- A client's code at a reply does what the rows say.
use Rattle.std.proofs.Common.{◌≡◌, ℕ, ◌+◌, ◌<◌, ◌≤◌, Bool, true, false, ◌&&◌, if◌then◌else◌, List, [], ◌∷◌, ◌++◌, length, drop, get_or}
use Rattle.std.proofs.Common.{Option, Some, None, refl, sym, ap, subst, ◌∙◌, arith}
use Rattle.std.specs.Prelude.{◌^◌, IfSome, option_map, slice_set}
use Rattle.std.proofs.lemmas.Bool.Decides.{nat_tests}
use Rattle.std.proofs.lemmas.List.{drop_more, drop_all, length-set}
use Rattle.lu_base.specs.declared.locks.Lock.{Lock}
use Rattle.lu_held.specs.Held.{is_held}
use Rattle.lu_held.specs.Locks.{named}
use Rattle.lu_held.specs.declared.locks.HeldLock.{HeldLock}
use Rattle.lu_spec_machine.specs.Fits.{answer_fits}
use Rattle.lu_msg.specs.declared.answers.Answer.{Answer}
use Rattle.lu_msg.specs.declared.messages.Reply.{Reply as ReplyTo}
use Rattle.lu_msg.specs.declared.operations.Op.{Op}
use Rattle.lu_trace.specs.declared.entries.Entry.TheVariants as printed
use Rattle.lu_trace.specs.Turns.{Making, with_line}
use Rattle.lu_spec_entries.specs.Carried.{Flight}
use Rattle.lu_spec_entries.specs.Given.{giving}
use Rattle.lu_spec_entries.specs.Words.{Entry, Heard, Hold, Learns}
use Rattle.lu_spec_client.specs.Caches.{brought}
use Rattle.lu_spec_client.specs.Calls.{calls_after, reads_call, reads_handles, reads_life}
use Rattle.lu_spec_client.specs.Imports.{import_after, imports_after, import_of}
use Rattle.lu_spec_client.specs.Messages.{find_flight, heeds, hears, hears_fitting, hears_flight, holds, is_present, learns, replied}
use Rattle.lu_spec_client.specs.Messages.{size_with}
use Rattle.lu_spec_client.specs.States.{Client, Store, store_turn, turn}
use Rattle.lu_client_store.specs.Stored.{StoreState, stored_after, stored_turn}
use Rattle.lu_client_store.proofs.Turns.{turn_of_two, turn_store, turn_unused}
use Rattle.lu_client_refines.specs.Turns.{facts_turn, imports_turn, none_read}
use Rattle.lu_client_refines.proofs.Follow.{giving_more, giving_none, noted}
use Rattle.lu_client_refines.proofs.Lists.{both_true}
use Rattle.lu_client_refines.proofs.Targets.{imports_only}
use Rattle.lu_client_refines.proofs.Turns.{turned, store_more, calls_quiet, handles_quiet, life_quiet, none_more, turns}
use Rattle.lu_client_refines.proofs.Whole.{imports_hear}
use Rattle.lu_client.specs.declared.replies.Asked.{Asked}
use Rattle.lu_client.specs.Clients.{ClientState, Makes, stored_of, with_store}
use Rattle.lu_client.specs.Comings.{are_new, is_short, is_in_file, may_reply, may_answer, may_fit}
use Rattle.lu_client.specs.Replies.{answered, asked_of, with_reply, HoldsOn, IsTaken, Stores}
use Rattle.lu_client.proofs.Heard.{first_new, store_heard}
use Rattle.lu_client.proofs.Requests.{IsAnswered, is_answered, replied_is}
use Rattle.lu_client.proofs.Making.{makes_nothing, makes_as, makes_then}

-- ---- what is asked of it

-- What may be relied on where the answer fits.
pub record MayBeHeard (t : ℕ) (r : ReplyTo) (k : Client) (o : Op) : Type 0 where
  pub new : are_new t (brought o r) k.store.held ≡ true
  pub short : IfSome (size_with r.answer) (λ n. n ≤ 2 ^ 40)
  pub file : is_in_file o ≡ true

short_is : (size : Option ℕ) → is_short size ≡ true → IfSome size (λ n. n ≤ 2 ^ 40)
short_is None short = tt
short_is (Some size) short = grind (arith, nat_tests)

may_is : (t : ℕ) (r : ReplyTo) (k : Client) → may_reply t r k ≡ may_fit t r k (answered t r k)
may_is t r k = by (is_present r.who r.boot t k) where
  by : (present : Bool) → (if present then may_fit t r k (find_flight r.xid.0 (import_of t k.imports).flights) else true)
      ≡ may_fit t r k (if present then find_flight r.xid.0 (import_of t k.imports).flights else None)
  by true = refl
  by false = refl

pub may_be_heard : (t : ℕ) (r : ReplyTo) (k : Client) (a : Asked) → may_reply t r k ≡ true → option_map asked_of (answered t r k) ≡ Some a
    → answer_fits a.op r.answer ≡ true → MayBeHeard t r k a.op
may_be_heard t r k a may some fits =
    let is : IsAnswered t r k a = is_answered t r k a some in
    let op : is.flight.op ≡ a.op = ap (λ (b : Asked). b.op) is.asks in
    let given : may_fit t r k (Some is.flight) ≡ true = sym (ap (may_fit t r k) is.found) ∙ sym (may_is t r k) ∙ may in
    let fits_so : answer_fits is.flight.op r.answer ≡ true = ap (λ (o : Op). answer_fits o r.answer) op ∙ fits in
    let all : may_answer t r is.flight k ≡ true = sym (ap (λ (b : Bool). if b then may_answer t r is.flight k else true) fits_so) ∙ given in
    let two = both_true (are_new t (brought is.flight.op r) k.store.held && is_short (size_with r.answer)) (is_in_file is.flight.op) all in
    let one = both_true (are_new t (brought is.flight.op r) k.store.held) (is_short (size_with r.answer)) two.0 in
    record {
      new = ap (λ (o : Op). are_new t (brought o r) k.store.held) (sym op) ∙ one.0;
      short = short_is (size_with r.answer) one.1;
      file = ap is_in_file (sym op) ∙ two.1;
    }

-- ---- the whole row

-- one whose answer doesn't fit is only taken
pub unfit_kept : (t : ℕ) (r : ReplyTo) (c : ClientState) (a : Asked) (making : Making) → option_map asked_of (answered t r c.client)
    ≡ Some a → answer_fits a.op r.answer ≡ false
    → Makes (λ k. replied t r k (is_present r.who r.boot t k)) c c making making
unfit_kept t r c a making some unfit =
    let is : IsAnswered t r c.client a = is_answered t r c.client a some in
    let row : replied t r c.client (is_present r.who r.boot t c.client) ≡ [] =
    replied_is t r c.client
    ∙ ap (hears t r c.client) is.found
    ∙ ap (λ (b : Asked). hears_fitting t r is.flight c.client (answer_fits b.op r.answer)) is.asks
    ∙ ap (hears_fitting t r is.flight c.client) unfit in
    makes_as (sym row) (makes_nothing c making)

-- another is heard: the locks that came with it are held, what it told is known, and then it is heeded
pub all_heard : (t : ℕ) (r : ReplyTo) (a : Asked) (locks : List Lock) (old between new : ClientState) (before after : Making)
    → option_map asked_of (answered t r old.client) ≡ Some a → answer_fits a.op r.answer ≡ true → locks ≡ brought a.op r
    → ((f : Flight) → answered t r old.client ≡ Some f
    → Makes (λ k. Heard t f r ∷ holds t (size_with r.answer) r.seen locks ++ learns t a.op r.answer r.locks) old between before after)
    → ((making : Making) (f : Flight) → f.slot ≡ a.slot → f.op ≡ a.op → Makes (heeds t f a.op r r.answer) between new making making)
    → Makes (λ k. replied t r k (is_present r.who r.boot t k)) old new before after
all_heard t r a locks old between new before after some fits is taken heeded =
    let found : IsAnswered t r old.client a = is_answered t r old.client a some in
    let f : Flight = found.flight in
    let slot : f.slot ≡ a.slot = ap (λ (b : Asked). b.slot) found.asks in
    let op : f.op ≡ a.op = ap (λ (b : Asked). b.op) found.asks in
    let row : hears_flight t r f old.client ≡ replied t r old.client (is_present r.who r.boot t old.client) =
    sym (replied_is t r old.client
    ∙ ap (hears t r old.client) found.found
    ∙ ap (λ (o : Op). hears_fitting t r f old.client (answer_fits o r.answer)) op
    ∙ ap (hears_fitting t r f old.client) fits) in
    let es : List Lock → Op → List Entry = λ ls o. Heard t f r ∷ holds t (size_with r.answer) r.seen ls ++ learns t o r.answer r.locks in
    let first : Makes (λ k. es (brought f.op r) f.op) old between before after =
    subst (λ (o : Op). Makes (λ k. es (brought o r) o) old between before after) (sym op)
    (subst (λ (ls : List Lock). Makes (λ k. es ls a.op) old between before after) is (taken f found.found)) in
    let next : Makes (heeds t f f.op r r.answer) between new after after =
    subst (λ (o : Op). Makes (heeds t f o r r.answer) between new after after) (sym op) (heeded after f slot op) in
    makes_as row (makes_then first next)

-- ---- what is stored

pub stores_nothing : (c : ClientState) (making : Making) → Stores [] c c making making
stores_nothing c making = record { gives = sym (giving_none making); shows = refl }

pub stores_then : (es fs : List Entry) (old middle new : ClientState) (before between after : Making) → Stores es old middle before between
    → Stores fs middle new between after → Stores (es ++ fs) old new before after
stores_then es fs old middle new before between after one two =
    record {
      gives = two.gives ∙ ap (λ (m : Making). giving m fs) one.gives ∙ giving_more before es fs;
      shows =
          two.shows
          ∙ ap (λ (c : ClientState). with_store (stored_turn (stored_of c) fs) c) one.shows
          ∙ ap (λ (s : StoreState). with_store s old) (sym (turn_of_two (stored_of old) es fs));
    }

-- the facts after entries
facts_fold : (s : StoreState) (es : List Entry) → (stored_turn s es).facts ≡ facts_turn s.facts es
facts_fold s [] = refl
facts_fold s (e ∷ es) = facts_fold (stored_after s e) es

-- a lock is held, and its line noted
pub held_one : (t : ℕ) (size : Option ℕ) (l : Lock) (seen : List ℕ) (old new : ClientState) (store : StoreState) (before after : Making)
    → new ≡ with_store store old → store ≡ stored_after (stored_of old) (Hold t l false size seen)
    → after.step ≡ with_line before.at before.step (printed.Hold (record { 0 = t }) l.cookie) → after.at ≡ before.at
    → Stores (Hold t l false size seen ∷ []) old new before after
held_one t size l seen old new store before after shows is step at =
    record {
      gives = noted before after (printed.Hold (record { 0 = t }) l.cookie) (Hold t l false size seen) refl refl step at;
      shows = shows ∙ ap (λ (s : StoreState). with_store s old) is;
    }

-- ---- the locks are held one after another

pub holds_begin : (t : ℕ) (size : Option ℕ) (locks : List Lock) (c : ClientState) (making : Making) → are_new t locks c.client.store.held
    ≡ true → HoldsOn t size locks locks c c making making
holds_begin t size locks c making new = record { new = new; ends = λ seen last end rest. rest }

-- the next of them isn't held
pub next_absent : (t : ℕ) (locks : List Lock) (n : ℕ) (d : Lock) (held : List HeldLock) → n < length locks → are_new t (drop n locks) held
    ≡ true → is_held (named (record { 0 = t }) (get_or locks n d).cookie) held ≡ false
next_absent t locks n d held inside new =
    (first_new t (get_or locks n d) (drop (n + 1) locks) held (ap (λ (ls : List Lock). are_new t ls held) (sym (drop_more locks n d inside))
    ∙ new)).0

-- one more is held
pub holds_next : (t : ℕ) (size : Option ℕ) (locks : List Lock) (n : ℕ) (d : Lock) (first now next : ClientState)
    (before making after : Making) → n < length locks
    → HoldsOn t size locks (drop n locks) first now before making
    → ((seen : List ℕ) → Stores (Hold t (get_or locks n d) false size seen ∷ []) now next making after)
    → HoldsOn t size locks (drop (n + 1) locks) first next before after
holds_next t size locks n d first now next before making after inside so_far one =
    let l : Lock = get_or locks n d in
    let left : drop n locks ≡ l ∷ drop (n + 1) locks = drop_more locks n d inside in
    let new = first_new t l (drop (n + 1) locks) now.client.store.held
    (ap (λ (ls : List Lock). are_new t ls now.client.store.held) (sym left) ∙ so_far.new) in
    record {
      new = ap (λ (c : ClientState). are_new t (drop (n + 1) locks) c.client.store.held) (one []).shows ∙ new.1;
      ends = λ seen last end rest. so_far.ends seen last end (subst (λ (ls : List Lock). Stores (holds t size seen ls) now last making end)
          (sym left)
          (stores_then (Hold t l false size seen ∷ []) (holds t size seen (drop (n + 1) locks)) now next last making after end (one seen)
          rest));
    }

-- all are held
pub holds_end : (t : ℕ) (size : Option ℕ) (locks : List Lock) (n : ℕ) (first last : ClientState) (before after : Making) → length locks ≤ n
    → HoldsOn t size locks (drop n locks) first last before after
    → (seen : List ℕ) → Stores (holds t size seen locks) first last before after
holds_end t size locks n first last before after most so_far seen =
    so_far.ends seen last after (subst (λ (ls : List Lock). Stores (holds t size seen ls) last last after after)
    (sym (drop_all n locks most)) (stores_nothing last after))

-- ---- the reply, the locks that came with it, and what it told

holds_unread : (reads : Entry → Bool) (t : ℕ) (size : Option ℕ) (seen : List ℕ) → ((l : Lock) → reads (Hold t l false size seen) ≡ false)
    → (locks : List Lock) → none_read reads (holds t size seen locks) ≡ true
holds_unread reads t size seen unread [] = refl
holds_unread reads t size seen unread (l ∷ locks) = rw (unread l) (holds_unread reads t size seen unread locks)

learns_unread : (reads : Entry → Bool) (t : ℕ) (o : Op) (a : Answer) → ((locks : List Lock) → reads (Learns t o a locks) ≡ false)
    → (locks : List Lock) → none_read reads (learns t o a locks) ≡ true
learns_unread reads t o a unread [] = refl
learns_unread reads t o a unread (l ∷ locks) = rw (unread (l ∷ locks)) refl

module _ (t : ℕ) (f : Flight) (r : ReplyTo) (locks : List Lock) (old taken new : ClientState) (before between after : Making)
    (inside : t < length old.client.imports) (is : locks ≡ brought f.op r) (fresh : are_new t locks old.client.store.held ≡ true) where
  abbrev hs : List Entry
  hs = holds t (size_with r.answer) r.seen locks

  abbrev ls : List Entry
  ls = learns t f.op r.answer r.locks

  abbrev all : List Entry
  all = Heard t f r ∷ hs ++ ls

  unread : (reads : Entry → Bool) → ((l : Lock) → reads (Hold t l false (size_with r.answer) r.seen) ≡ false)
      → ((with : List Lock) → reads (Learns t f.op r.answer with) ≡ false) → none_read reads (hs ++ ls) ≡ true
  unread reads one two = none_more reads hs ls (holds_unread reads t (size_with r.answer) r.seen one locks)
      (learns_unread reads t f.op r.answer two r.locks)

  imports_so : imports_after old.client.imports (Heard t f r) ≡ imports_turn old.client.imports all
  imports_so = imports_only t old.client.imports (Heard t f r) (λ u. refl)
      ∙ sym (imports_hear t old.client.imports f r (size_with r.answer) locks f.op r.answer r.locks inside)

  store_so : (stored_turn (stored_of old) (hs ++ ls)).store ≡ store_turn old.client.store all
  store_so =
      turn_store (stored_of old) (hs ++ ls)
      ∙ store_more old.client.store hs ls
      ∙ ap (λ (s : Store). store_turn s ls) (sym (store_heard t f r (size_with r.answer) locks old.client.store is fresh))
      ∙ sym (store_more old.client.store (Heard t f r ∷ hs) ls)

  abbrev stored : ClientState
  stored = with_store (stored_turn (stored_of old) (hs ++ ls)) (with_reply t f r old)

  shows_so : stored.client ≡ turn old.client all
  shows_so =
      turned old.client stored.client all
      (sym (life_quiet old.client.who (hs ++ ls) (unread reads_life (λ l. refl) (λ with. refl))))
      (sym (handles_quiet old.client.handles (hs ++ ls) (unread reads_handles (λ l. refl) (λ with. refl))))
      (sym (calls_quiet (calls_after old.client.calls (Heard t f r)) (hs ++ ls) (unread reads_call (λ l. refl) (λ with. refl))))
      imports_so
      (facts_fold (stored_of old) (hs ++ ls))
      store_so

  pub taken_in : IsTaken t f r old taken before between → Stores (hs ++ ls) taken new between after → Makes (λ k. all) old new before after
  taken_in took stores =
      let is_so : new ≡ stored = stores.shows ∙ ap (λ (c : ClientState). with_store (stored_turn (stored_of c) (hs ++ ls)) c) took.shows in
      record {
        goes = record {
          gives = stores.gives ∙ ap (λ (m : Making). giving m (hs ++ ls)) took.gives ∙ giving_more before (Heard t f r ∷ []) (hs ++ ls);
          shows = ap (λ (c : ClientState). c.client) is_so ∙ shows_so;
        };
        limits = ap (λ (c : ClientState). c.limits) is_so ∙ ap (λ (n : ℕ). record old.limits { unused = n })
            (turn_unused (stored_of old) (hs ++ ls));
        spent = ap (λ (c : ClientState). c.spent) is_so;
      }

-- ---- the parts of it

-- Where the reply was taken in, for whichever request it answers.
module _ (t : ℕ) (r : ReplyTo) (a : Asked) (locks : List Lock) (old : ClientState)
    (some : option_map asked_of (answered t r old.client) ≡ Some a) where
  abbrev asker : IsAnswered t r old.client a
  asker = is_answered t r old.client a some

  -- the locks that it brings aren't held yet
  pub still_new : (taken : ClientState) (before between : Making)
      → ((f : Flight) → answered t r old.client ≡ Some f → f.slot ≡ a.slot → IsTaken t f r old taken before between)
      → are_new t locks old.client.store.held ≡ true → are_new t locks taken.client.store.held ≡ true
  still_new taken before between takes new =
      ap (λ (c : ClientState). are_new t locks c.client.store.held)
      (takes asker.flight asker.found (ap (λ (b : Asked). b.slot) asker.asks)).shows ∙ new

  -- they are held then, and what it told is known
  pub taken_all : (taken held new : ClientState) (before between after : Making) (size : Option ℕ) → t < length old.client.imports → locks
      ≡ brought a.op r → are_new t locks old.client.store.held ≡ true → size ≡ size_with r.answer
      → ((f : Flight) → answered t r old.client ≡ Some f → f.slot ≡ a.slot → IsTaken t f r old taken before between)
      → ((seen : List ℕ) → Stores (holds t size seen locks) taken held between after)
      → ((making : Making) → Stores (learns t a.op r.answer r.locks) held new making making)
      → (f : Flight) → answered t r old.client ≡ Some f → Makes
      (λ k. Heard t f r ∷ holds t (size_with r.answer) r.seen locks ++ learns t a.op r.answer r.locks) old new before after
  taken_all taken held new before between after size inside is fresh sized takes holding learning f found =
      let same : asked_of f ≡ a = cc in
      let op : f.op ≡ a.op = ap (λ (b : Asked). b.op) same in
      let slot : f.slot ≡ a.slot = ap (λ (b : Asked). b.slot) same in
      let held_so : Stores (holds t (size_with r.answer) r.seen locks) taken held between after =
      subst (λ (n : Option ℕ). Stores (holds t n r.seen locks) taken held between after) sized (holding r.seen) in
      let learned_so : Stores (learns t f.op r.answer r.locks) held new after after =
      subst (λ (o : Op). Stores (learns t o r.answer r.locks) held new after after) (sym op) (learning after) in
      let both : Stores (holds t (size_with r.answer) r.seen locks ++ learns t f.op r.answer r.locks) taken new between after =
      stores_then (holds t (size_with r.answer) r.seen locks) (learns t f.op r.answer r.locks) taken held new between after after held_so
      learned_so in
      subst (λ (o : Op). Makes (λ k. Heard t f r ∷ holds t (size_with r.answer) r.seen locks ++ learns t o r.answer r.locks) old new before
      after) op
      (taken_in t f r locks old taken new before between after inside (is ∙ ap (λ (o : Op). brought o r) (sym op)) fresh
      (takes f found slot) both)

  -- the client has as many targets as before
  pub still_inside : (new : ClientState) (before after : Making) → t < length old.client.imports
      → ((f : Flight) → answered t r old.client ≡ Some f → Makes
      (λ k. Heard t f r ∷ holds t (size_with r.answer) r.seen locks ++ learns t a.op r.answer r.locks) old new before after)
      → t < length new.client.imports
  still_inside new before after inside takes =
      let f : Flight = asker.flight in
      let all : List Entry = Heard t f r ∷ holds t (size_with r.answer) r.seen locks ++ learns t a.op r.answer r.locks in
      let imports : new.client.imports ≡ slice_set old.client.imports t (import_after (import_of t old.client.imports) (Heard t f r)) =
      ap (λ (k : Client). k.imports) ((takes f asker.found).goes.shows ∙ turns old.client all)
      ∙ imports_hear t old.client.imports f r (size_with r.answer) locks a.op r.answer r.locks inside in
      subst (λ (n : ℕ). t < n) (sym (ap length imports ∙ length-set old.client.imports t
      (import_after (import_of t old.client.imports) (Heard t f r)))) inside
