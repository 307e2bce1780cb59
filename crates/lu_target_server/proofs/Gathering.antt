-- What a target that recovers takes: it gathers still.
use Rattle.std.proofs.Common.{◌≡◌, ℕ, ◌<◌, ◌≤◌, max, ◌==◌, ◌||◌, ◌&&◌, Bool, true, false, List, [], ◌∷◌, map, refl, sym, ap, subst, ◌∙◌}
use Rattle.std.proofs.Common.{arith}
use Rattle.std.specs.Prelude.{if◌then◌else◌, nat_lt, not}
use Rattle.std.specs.List.{list_any}
use Rattle.std.proofs.lemmas.Bool.Decides.{nat_tests}
use Rattle.lu_base.specs.declared.ids.Who.{Who}
use Rattle.lu_base.specs.declared.locks.Lock.{Lock}
use Rattle.lu_spec_machine.specs.Footprint.{Every}
use Rattle.lu_msg.specs.declared.messages.RequestReplay.{RequestReplay}
use Rattle.lu_service.specs.declared.services.Kind.{Kind}
use Rattle.lu_spec_entries.specs.Carried.{Said, Disk}
use Rattle.lu_spec_entries.specs.Words.{Entry, Stores, Brings, Says, Wishes, same_life}
use Rattle.lu_spec_target.specs.Phase.{first_of}
use Rattle.lu_spec_target.specs.Lives.{life_before}
use Rattle.lu_spec_target.specs.Windows.{Replayed, Window, placed, replay_before, brought_before, with_wish, is_replay, is_lock, is_word}
use Rattle.lu_spec_target.specs.Windows.{is_newest}
use Rattle.lu_spec_target.specs.Kept.{replayed}
use Rattle.lu_spec_target.specs.Recovery.{cut}
use Rattle.lu_spec_target.specs.States.{Setting, Target, turn}
use Rattle.lu_target_refines.specs.Contents.{transaction_again}
use Rattle.lu_target_refines.specs.Journals.{AreRising}
use Rattle.lu_target_refines.specs.Unread.{AreTheSame}
use Rattle.lu_target_refines.specs.Windows.{ShowsWindow, stores, brings, says, wishes}
use Rattle.lu_target_refines.proofs.Closings.{wish_before, wishes_rise}
use Rattle.lu_target_refines.proofs.Rising.{Rises, AllAfter}
use Rattle.lu_target_refines.proofs.Unread.{window_stays, disk_stays}
use Rattle.lu_target_refines.proofs.Windows.{takes_replay, takes_lock, takes_word, takes_wish}
use Rattle.lu_window.specs.States.{State, at_window, took_replay, took_lock, took_word, took_wish}
use Rattle.lu_target_redo.specs.Shown as redo
use Rattle.lu_target_server.specs.Servers.{ServerState}
use Rattle.lu_target_server.specs.Recovering.{IsReplay, IsBrought, IsOnlyReplay, IsOnlyLock, MayReplay, MayBring, AreLater, CookiesRise}
use Rattle.lu_target_server.specs.Recovering.{AreBehind, ClientsRise, IsAwaiting, Gathers, Recovers}

-- ---- one more in its place

pub every_placed : {A : Type 0} (P : A → Type 0) (before : A → A → Bool) (x : A) (ys : List A) → P x → Every P ys
    → Every P (placed before x ys)
every_placed P before x [] one all = (one, tt)
every_placed P before x (y ∷ ys) one all = by (before x y) (every_placed P before x ys one all.1) where
  by : (first : Bool) → Every P (placed before x ys) → Every P (if first then x ∷ y ∷ ys else y ∷ placed before x ys)
  by true rest = (one, all)
  by false rest = (all.0, rest)

-- none of that number is there
abbrev IsApart : Replayed → List Replayed → Type 0
IsApart r replays = Every (λ (s : Replayed). (s.number == r.number) ≡ false) replays

apart_from : (r : Replayed) (replays : List Replayed) → IsOnlyReplay r replays → list_any (is_replay r) replays ≡ false → IsApart r replays
apart_from r [] only none = tt
apart_from r (s ∷ replays) only none = by (s.number == r.number) refl (same_life s.who r.who) refl none (apart_from r replays only.1) where
  by : (same : Bool) → (s.number == r.number) ≡ same → (own : Bool) → same_life s.who r.who ≡ own
      → ((same && own) || list_any (is_replay r) replays) ≡ false
      → (list_any (is_replay r) replays ≡ false → IsApart r replays) → IsApart r (s ∷ replays)
  by true e true f h rest = absurd (cc)
  by true e false f h rest = let is : same_life s.who r.who ≡ true = only.0 e in absurd (cc)
  by false e own f h rest = (e, rest h)

rising_placed : (n : ℕ) (r : Replayed) (replays : List Replayed) → n < r.number → IsApart r replays
    → AreRising n (map {A = Replayed} transaction_again replays)
    → AreRising n (map {A = Replayed} transaction_again (placed replay_before r replays))
rising_placed n r [] late apart rising = (late, tt)
rising_placed n r (s ∷ replays) late apart rising = by (replay_before r s) refl
    (λ later. rising_placed s.number r replays later apart.1 rising.1) where
      other : (s.number == r.number) ≡ false
      other = apart.0

      first_is : (nat_lt r.number s.number || (r.number == s.number && life_before r.who s.who)) ≡ true → r.number < s.number
      first_is e = grind (arith, nat_tests)

      later_is : (nat_lt r.number s.number || (r.number == s.number && life_before r.who s.who)) ≡ false → s.number < r.number
      later_is e = grind (arith, nat_tests)

      by : (first : Bool) → replay_before r s ≡ first → (s.number < r.number
          → AreRising s.number (map {A = Replayed} transaction_again (placed replay_before r replays)))
          → AreRising n (map {A = Replayed} transaction_again (if first then r ∷ s ∷ replays else s ∷ placed replay_before r replays))
      by true e rest = (late, (first_is e, rising.1))
      by false e rest = (rising.0, rest (later_is e))

-- ---- locks

abbrev IsApartLock : Lock → List Lock → Type 0
IsApartLock l locks = Every (λ (k : Lock). (k.cookie.0 == l.cookie.0) ≡ false) locks

apart_lock : (l : Lock) (locks : List Lock) → IsOnlyLock l locks → list_any (is_lock l) locks ≡ false → IsApartLock l locks
apart_lock l [] only none = tt
apart_lock l (k ∷ locks) only none = by (k.cookie.0 == l.cookie.0) refl (same_life k.ask.who l.ask.who) refl none
    (apart_lock l locks only.1) where
      by : (same : Bool) → (k.cookie.0 == l.cookie.0) ≡ same → (own : Bool) → same_life k.ask.who l.ask.who ≡ own
          → ((same && own) || list_any (is_lock l) locks) ≡ false
          → (list_any (is_lock l) locks ≡ false → IsApartLock l locks) → IsApartLock l (k ∷ locks)
      by true e true f h rest = absurd (cc)
      by true e false f h rest = let is : same_life k.ask.who l.ask.who ≡ true = only.0 e in absurd (cc)
      by false e own f h rest = (e, rest h)

later_placed : (k l : Lock) (locks : List Lock) → k.cookie.0 < l.cookie.0 → AreLater k locks → AreLater k (placed brought_before l locks)
later_placed k l [] one all = (one, tt)
later_placed k l (m ∷ locks) one all = by (brought_before l m) (later_placed k l locks one all.1) where
  by : (first : Bool) → AreLater k (placed brought_before l locks)
      → AreLater k (if first then l ∷ m ∷ locks else m ∷ placed brought_before l locks)
  by true rest = (one, all)
  by false rest = (all.0, rest)

later_than : (l m : Lock) (locks : List Lock) → l.cookie.0 < m.cookie.0 → AreLater m locks → AreLater l locks
later_than l m [] less all = tt
later_than l m (k ∷ locks) less all = (omega (arith, less, all.0), later_than l m locks less all.1)

cookies_placed : (l : Lock) (locks : List Lock) → IsApartLock l locks → CookiesRise locks → CookiesRise (placed brought_before l locks)
cookies_placed l [] apart rises = (tt, tt)
cookies_placed l (m ∷ locks) apart rises = by (brought_before l m) refl (cookies_placed l locks apart.1 rises.1) where
  other : (m.cookie.0 == l.cookie.0) ≡ false
  other = apart.0

  first_is : (nat_lt l.cookie.0 m.cookie.0 || (l.cookie.0 == m.cookie.0 && life_before l.ask.who m.ask.who)) ≡ true
      → l.cookie.0 < m.cookie.0
  first_is e = grind (arith, nat_tests)

  later_is : (nat_lt l.cookie.0 m.cookie.0 || (l.cookie.0 == m.cookie.0 && life_before l.ask.who m.ask.who)) ≡ false
      → m.cookie.0 < l.cookie.0
  later_is e = grind (arith, nat_tests)

  by : (first : Bool) → brought_before l m ≡ first → CookiesRise (placed brought_before l locks)
      → CookiesRise (if first then l ∷ m ∷ locks else m ∷ placed brought_before l locks)
  by true e rest = ((first_is e, later_than l m locks (first_is e) rises.0), rises)
  by false e rest = (later_placed m l locks (later_is e) rises.0, rest)

-- ---- wishes

behind_to : (who : Who) (wishes : List Who) → AreBehind who wishes → AllAfter wish_before who wishes
behind_to who [] all = tt
behind_to who (w ∷ wishes) all = (all.0, behind_to who wishes all.1)

behind_from : (who : Who) (wishes : List Who) → AllAfter wish_before who wishes → AreBehind who wishes
behind_from who [] all = tt
behind_from who (w ∷ wishes) all = (all.0, behind_from who wishes all.1)

pub clients_to : (wishes : List Who) → ClientsRise wishes → Rises wish_before wishes
clients_to [] rises = tt
clients_to (who ∷ wishes) rises = (behind_to who wishes rises.0, clients_to wishes rises.1)

clients_from : (wishes : List Who) → Rises wish_before wishes → ClientsRise wishes
clients_from [] rises = tt
clients_from (who ∷ wishes) rises = (behind_from who wishes rises.0, clients_from wishes rises.1)

clients_wished : (who : Who) (wishes : List Who) → ClientsRise wishes → ClientsRise (with_wish who wishes)
clients_wished who wishes rises = clients_from (with_wish who wishes) (wishes_rise who wishes (clients_to wishes rises))

-- ---- what the rows' target keeps

pub replay_awaits : (kind : Kind) (v : Target) (r : RequestReplay) → IsAwaiting kind v
    → IsReplay kind v.lives (first_of v.boot) (replayed r) → 1 < r.txn.0
    → IsOnlyReplay (replayed r) v.replays → IsAwaiting kind (turn v (stores v r))
replay_awaits kind v r awaits is late only = by (list_any (is_replay (replayed r)) v.replays) refl where
  by : (was : Bool) → list_any (is_replay (replayed r)) v.replays ≡ was → IsAwaiting kind (turn v (if was then [] else Stores (cut r) ∷ []))
  by true e = awaits
  by false e = record {
    up = awaits.up;
    recovering = awaits.recovering;
    lives = awaits.lives;
    clients = awaits.clients;
    replays = every_placed (IsReplay kind v.lives (first_of v.boot)) replay_before (replayed (cut r)) v.replays
        (record { life = is.life; earlier = is.earlier; tag = is.tag; repeatable = is.repeatable }) awaits.replays;
    rising = rising_placed 1 (replayed (cut r)) v.replays late (apart_from (replayed r) v.replays only e) awaits.rising;
    brought = awaits.brought;
    cookies = awaits.cookies;
    wishes = awaits.wishes;
  }

pub lock_awaits : (kind : Kind) (v : Target) (l : Lock) → IsAwaiting kind v → IsBrought kind v.lives (first_of v.boot) l
    → IsOnlyLock l v.brought
    → IsAwaiting kind (turn v (brings v l))
lock_awaits kind v l awaits is only = by (list_any (is_lock l) v.brought) refl where
  by : (was : Bool) → list_any (is_lock l) v.brought ≡ was → IsAwaiting kind (turn v (if was then [] else Brings l ∷ []))
  by true e = awaits
  by false e = record {
    up = awaits.up;
    recovering = awaits.recovering;
    lives = awaits.lives;
    clients = awaits.clients;
    replays = awaits.replays;
    rising = awaits.rising;
    brought = every_placed (IsBrought kind v.lives (first_of v.boot)) brought_before l v.brought is awaits.brought;
    cookies = cookies_placed l v.brought (apart_lock l v.brought only e) awaits.cookies;
    wishes = awaits.wishes;
  }

pub word_awaits : (kind : Kind) (v : Target) (word : Said) → IsAwaiting kind v → IsAwaiting kind (turn v (says v word))
word_awaits kind v word awaits = by (list_any (is_word word) v.words) where
  by : (was : Bool) → IsAwaiting kind (turn v (if was then [] else Says word ∷ []))
  by true = awaits
  by false = record {
    up = awaits.up;
    recovering = awaits.recovering;
    lives = awaits.lives;
    clients = awaits.clients;
    replays = awaits.replays;
    rising = awaits.rising;
    brought = awaits.brought;
    cookies = awaits.cookies;
    wishes = awaits.wishes;
  }

pub wish_awaits : (kind : Kind) (v : Target) (who : Who) → IsAwaiting kind v → IsAwaiting kind (turn v (wishes v who))
wish_awaits kind v who awaits = by (is_newest who v.wishes) where
  by : (newest : Bool) → IsAwaiting kind (turn v (if newest then Wishes who ∷ [] else []))
  by false = awaits
  by true = record {
    up = awaits.up;
    recovering = awaits.recovering;
    lives = awaits.lives;
    clients = awaits.clients;
    replays = awaits.replays;
    rising = awaits.rising;
    brought = awaits.brought;
    cookies = awaits.cookies;
    wishes = clients_wished who v.wishes awaits.wishes;
  }

-- ---- all but what the window has stays

pub record IsBeside (v z : Target) : Type 0 where
  pub same : AreTheSame v z
  pub ticks : z.ticks ≡ v.ticks
  pub cookie : z.cookie ≡ v.cookie

beside_itself : (v : Target) → IsBeside v v
beside_itself v = record {
  same = record {
    setting = refl;
    boot = refl;
    number = refl;
    lives = refl;
    removed = refl;
    slots = refl;
    log = refl;
    committed = refl;
    disk = refl;
  };
  ticks = refl;
  cookie = refl;
}

stores_beside : (v : Target) (r : RequestReplay) → IsBeside v (turn v (stores v r))
stores_beside v r = by (list_any (is_replay (replayed r)) v.replays) where
  by : (was : Bool) → IsBeside v (turn v (if was then [] else Stores (cut r) ∷ []))
  by true = beside_itself v
  by false = record {
    same = record {
      setting = refl;
      boot = refl;
      number = refl;
      lives = refl;
      removed = refl;
      slots = refl;
      log = refl;
      committed = refl;
      disk = refl;
    };
    ticks = refl;
    cookie = refl;
  }

brings_beside : (v : Target) (l : Lock) → IsBeside v (turn v (brings v l))
brings_beside v l = by (list_any (is_lock l) v.brought) where
  by : (was : Bool) → IsBeside v (turn v (if was then [] else Brings l ∷ []))
  by true = beside_itself v
  by false = record {
    same = record {
      setting = refl;
      boot = refl;
      number = refl;
      lives = refl;
      removed = refl;
      slots = refl;
      log = refl;
      committed = refl;
      disk = refl;
    };
    ticks = refl;
    cookie = refl;
  }

says_beside : (v : Target) (word : Said) → IsBeside v (turn v (says v word))
says_beside v word = by (list_any (is_word word) v.words) where
  by : (was : Bool) → IsBeside v (turn v (if was then [] else Says word ∷ []))
  by true = beside_itself v
  by false = record {
    same = record {
      setting = refl;
      boot = refl;
      number = refl;
      lives = refl;
      removed = refl;
      slots = refl;
      log = refl;
      committed = refl;
      disk = refl;
    };
    ticks = refl;
    cookie = refl;
  }

wishes_beside : (v : Target) (who : Who) → IsBeside v (turn v (wishes v who))
wishes_beside v who = by (is_newest who v.wishes) where
  by : (newest : Bool) → IsBeside v (turn v (if newest then Wishes who ∷ [] else []))
  by false = beside_itself v
  by true = record {
    same = record {
      setting = refl;
      boot = refl;
      number = refl;
      lives = refl;
      removed = refl;
      slots = refl;
      log = refl;
      committed = refl;
      disk = refl;
    };
    ticks = refl;
    cookie = refl;
  }

gathers_beside : (s : ServerState) (w x : State) (v z : Target) → IsBeside v z → ShowsWindow x.window z → x.closed ≡ w.closed
    → IsAwaiting s.kind z → Gathers s w v → Gathers s x z
gathers_beside s w x v z beside window still awaits g = record {
  id = ap (λ (it : Setting). it.id) beside.same.setting ∙ g.id;
  kind = g.kind;
  expire = ap (λ (it : Setting). it.expire) beside.same.setting ∙ g.expire;
  boot = beside.same.boot ∙ g.boot;
  store = record {
    journal = window_stays s.store.journal v z beside.same g.store.journal;
    disk = disk_stays s.store.batches v z beside.same g.store.disk;
    untaken = g.store.untaken;
    sound = g.store.sound;
    newest = g.store.newest;
  };
  locks = record {
    boot = beside.same.boot ∙ g.locks.boot;
    counted = g.locks.counted;
    cookie = beside.cookie ∙ g.locks.cookie;
    ticks =
        beside.ticks ∙ g.locks.ticks;
  };
  first = beside.cookie ∙ g.first ∙ ap first_of (sym beside.same.boot);
  contents =
      subst (λ (it : Setting). redo.Shows s.kind it.osts (max 1 z.disk.committed) s.contents z.disk.contents) (sym beside.same.setting)
      (subst (λ (it : Disk). redo.Shows s.kind v.setting.osts (max 1 it.committed) s.contents it.contents) (sym beside.same.disk)
      g.contents);
  requests = g.requests;
  window = window;
  unclosed = still ∙ g.unclosed;
  sound = awaits;
}

-- ---- what is taken

-- the window that it shows, as a caller's conditions read it
lives_shown : (s : ServerState) (w : State) (v : Target) → Gathers s w v → w.window.lives ≡ v.lives
lives_shown s w v g = ap (λ (it : Window). it.lives) g.window

pub replay_gathers : (s : ServerState) (w x : State) (v : Target) (r : RequestReplay) → MayReplay r s w.window → x
    ≡ at_window (took_replay (replayed r) w.window) w
    → Gathers s w v → Gathers s x (turn v (stores v r))
replay_gathers s w x v r may taken g =
    let lives : IsReplay s.kind v.lives (first_of s.boot) (replayed r) =
    subst (λ (them : List Who). IsReplay s.kind them (first_of s.boot) (replayed r)) (lives_shown s w v g) may.is in
    let is : IsReplay s.kind v.lives (first_of v.boot) (replayed r) =
    subst (λ n. IsReplay s.kind v.lives (first_of n) (replayed r)) (sym g.boot) lives in
    let only : IsOnlyReplay (replayed r) v.replays = subst (λ (it : Window). IsOnlyReplay (replayed r) it.replays) g.window may.only in
    gathers_beside s w x v (turn v (stores v r)) (stores_beside v r) (takes_replay v r w x g.window taken)
    (ap (λ (it : State). it.closed) taken)
    (replay_awaits s.kind v r g.sound is may.late only) g

pub lock_gathers : (s : ServerState) (w x : State) (v : Target) (l : Lock) → MayBring l s w.window → x ≡ at_window (took_lock l w.window) w
    → Gathers s w v → Gathers s x (turn v (brings v l))
lock_gathers s w x v l may taken g =
    let lives : IsBrought s.kind v.lives (first_of s.boot) l = subst (λ (them : List Who). IsBrought s.kind them (first_of s.boot) l)
    (lives_shown s w v g) may.is in
    let is : IsBrought s.kind v.lives (first_of v.boot) l = subst (λ n. IsBrought s.kind v.lives (first_of n) l) (sym g.boot) lives in
    let only : IsOnlyLock l v.brought = subst (λ (it : Window). IsOnlyLock l it.brought) g.window may.only in
    gathers_beside s w x v (turn v (brings v l)) (brings_beside v l) (takes_lock v l w x g.window taken)
    (ap (λ (it : State). it.closed) taken) (lock_awaits s.kind v l g.sound is only) g

pub word_gathers : (s : ServerState) (w x : State) (v : Target) (word : Said) → x ≡ at_window (took_word word w.window) w → Gathers s w v
    → Gathers s x (turn v (says v word))
word_gathers s w x v word taken g =
    gathers_beside s w x v (turn v (says v word)) (says_beside v word) (takes_word v word w x g.window taken)
    (ap (λ (it : State). it.closed) taken) (word_awaits s.kind v word g.sound) g

pub wish_gathers : (s : ServerState) (w x : State) (v : Target) (who : Who) → x ≡ at_window (took_wish who w.window) w → Gathers s w v
    → Gathers s x (turn v (wishes v who))
wish_gathers s w x v who taken g =
    gathers_beside s w x v (turn v (wishes v who)) (wishes_beside v who) (takes_wish v who w x g.window taken)
    (ap (λ (it : State). it.closed) taken) (wish_awaits s.kind v who g.sound) g
