-- What is outstanding is of granted locks, which the lockspace finds: so the due lives and the reminders are the rows'.
use Rattle.std.proofs.Common.{◌≡◌, ℕ, ◌==◌, ◌&&◌, ◌||◌, Bool, true, false, cond, Option, Some, None, find, List, [], ◌∷◌, ◌++◌, map, filter}
use Rattle.std.proofs.Common.{nat_le, ◌+◌, ◌<◌, arith, refl, sym, ◌∙◌, ap, subst}
use Rattle.std.specs.Prelude.{if◌then◌else◌, filter_map}
use Rattle.std.specs.List.{list_any, fold, cons_option}
use Rattle.std.proofs.lemmas.Bool.Decides.{nat_tests}
use Rattle.lu_base.specs.declared.ids.Cookie.{Cookie}
use Rattle.lu_base.specs.declared.ids.Who.{Who}
use Rattle.lu_base.specs.declared.ids.Xid.{Xid}
use Rattle.lu_base.specs.declared.locks.Lock.{Lock}
use Rattle.lu_callback.specs.declared.callbacks.Asked.{Asked}
use Rattle.lu_callback.specs.declared.callbacks.Kind.{Kind}
use Rattle.lu_callback.specs.declared.callbacks.Kind.TheVariants as kind
use Rattle.lu_callback.specs.Callbacks.{is_block, same_kind, is_asked, is_outstanding, is_due, due}
use Rattle.lu_lockspace.specs.Spaces.{SpaceState, lock_of, has}
use Rattle.lu_spec_machine.specs.Footprint.{Every}
use Rattle.lu_spec_entries.specs.Carried.{Called, Glimpse}
use Rattle.lu_spec_entries.specs.Words.{Entry, same_life}
use Rattle.lu_spec_target.specs.Leaving.{condemned, sends_again}
use Rattle.lu_spec_target.specs.Lives.{is_life}
use Rattle.lu_spec_target.specs.Replies.{is_called}
use Rattle.lu_spec_target.specs.States.{Target}
use Rattle.lu_target_refines.specs.Callbacks.{ShowsCalls, holds, is_of_lock, is_glimpse, has_life, with_holder, sent_to, sent_again}
use Rattle.lu_target_refines.specs.Cookies.{with_cookie}
use Rattle.lu_target_refines.specs.Lives.{InOrder}
use Rattle.lu_target_refines.specs.Locks.{ShowsLocks}
use Rattle.lu_target_refines.proofs.Blocking.{each_of_rising}
use Rattle.lu_target_refines.proofs.Callbacks.{same_number, is_called_is, is_glimpse_is}
use Rattle.lu_target_refines.proofs.Finding.{any_granted}
use Rattle.lu_target_refines.proofs.Lists.{both_left, both_true, any_alike, any_more, every_found, every_map, pairs_of}
use Rattle.lu_target_refines.proofs.Lives.{ordered_with, there_with}
use Rattle.lu_target_refines.proofs.Sending.{sends_again_is}
use Rattle.lu_target_refines.proofs.Ticks.{due_are}
use Rattle.lu_target_locks.specs.declared.reminding.Reminder.{Reminder}
use Rattle.lu_target_locks.specs.Reminding.{again_told, with_kind, reminder_of, with_holder_of}
use Rattle.lu_target_locks.specs.Servers.{ServerState, Shows}
use Rattle.lu_target_locks.proofs.Cookies.{is_of_lock as lock_there}

-- ---- its lock is granted

same_cookie_has : (a b : ℕ) (locks : List Lock) → (a == b) ≡ true → has a locks ≡ true → has b locks ≡ true
same_cookie_has a b locks e h = any_more (λ l. l.cookie.0 == a) (λ l. l.cookie.0 == b) locks (λ l is. grind (arith, nat_tests, e, is)) h

granted_called : (v : Target) (asked : List Asked) (c : Cookie) → ShowsCalls asked v → is_called c v.called ≡ true → has c.0 v.granted
    ≡ true
granted_called v asked c shows some =
    every_found (λ (k : Called). list_any (holds k) v.granted ≡ true) (λ k. k.cookie.0 == c.0) v.called shows.holders some
    (has c.0 v.granted ≡ true)
    (λ k held same. same_cookie_has k.cookie.0 c.0 v.granted same
    (any_more (holds k) (λ l. l.cookie.0 == k.cookie.0) v.granted
    (λ l is. both_left (l.cookie.0 == k.cookie.0) (same_life l.ask.who k.who) is) held))

granted_glimpsed : (v : Target) (asked : List Asked) (c : Cookie) (who : Who) (xid : Xid) → ShowsCalls asked v
    → list_any (is_glimpse c who xid) v.glimpses ≡ true → has c.0 v.granted ≡ true
granted_glimpsed v asked c who xid shows some =
    every_found (λ (g : Glimpse). list_any (is_of_lock g.cookie) v.granted ≡ true) (is_glimpse c who xid) v.glimpses shows.granted some
    (has c.0 v.granted ≡ true)
    (λ g held is. same_cookie_has g.cookie.0 c.0 v.granted (both_left (g.cookie.0 == c.0)
    (same_life g.request.who who && g.request.xid.0 == xid.0) is) held)

pub granted_asked : (v : Target) (asked : List Asked) (c : Cookie) (k : Kind) → ShowsCalls asked v → is_outstanding c k asked ≡ true
    → has c.0 v.granted ≡ true
granted_asked v asked c kind.Block shows out = granted_called v asked c shows (sym (is_called_is asked v shows c) ∙ out)
granted_asked v asked c (kind.Glimpse who xid) shows out = granted_glimpsed v asked c who xid shows
    (sym (is_glimpse_is asked v shows c who xid) ∙ out)

-- so the lockspace finds the lock that the rows find
cookie_finds : (c : Cookie) (locks : List Lock) → with_cookie c locks ≡ find (λ l. l.cookie.0 == c.0) locks
cookie_finds c [] = refl
cookie_finds c (l ∷ locks) = by (l.cookie.0 == c.0) (cookie_finds c locks) where
  by : (b : Bool) → with_cookie c locks ≡ find (λ k. k.cookie.0 == c.0) locks → (if b then Some l else with_cookie c locks)
      ≡ cond b (Some l) (find (λ k. k.cookie.0 == c.0) locks)
  by true rest = refl
  by false rest = rest

pub found_there : (space : SpaceState) (v : Target) (c : Cookie) → ShowsLocks space v → has c.0 v.granted ≡ true → lock_of c.0 space
    ≡ with_cookie c v.granted
found_there space v c shows there =
    let is = lock_there space v c shows (any_granted space v (λ l. l.cookie.0 == c.0) shows ∙ there) in
    is.found ∙ sym (cookie_finds c v.granted ∙ is.granted)

-- ---- what is sent again

told_more : (w : Target) (k : Kind) (o : Option Lock) (reminders : List Reminder) → again_told w (cons_option (with_kind k o) reminders)
    ≡ sent_to w k o ++ again_told w reminders
told_more w k None reminders = refl
told_more w k (Some l) reminders = refl

reminders_are : (s : ServerState) (w : Target) → Shows s w → (before : List Asked)
    → again_told w (filter_map (reminder_of s.asked s.space) before) ≡ sent_again w s.asked before
reminders_are s w shows [] = refl
reminders_are s w shows (a ∷ before) = by (is_outstanding a.cookie a.kind s.asked) refl (reminders_are s w shows before) where
  by : (b : Bool) → is_outstanding a.cookie a.kind s.asked ≡ b → again_told w (filter_map (reminder_of s.asked s.space) before)
      ≡ sent_again w s.asked before
      → again_told w (cons_option (if b then with_kind a.kind (lock_of a.cookie.0 s.space) else None)
      (filter_map (reminder_of s.asked s.space) before))
      ≡ (if b then sent_to w a.kind (with_cookie a.cookie w.granted) else []) ++ sent_again w s.asked before
  by true e rest =
      ap (λ o. again_told w (cons_option (with_kind a.kind o) (filter_map (reminder_of s.asked s.space) before)))
      (found_there s.space w a.cookie shows.locks (granted_asked w s.asked a.cookie a.kind shows.calls e))
      ∙ told_more w a.kind (with_cookie a.cookie w.granted) (filter_map (reminder_of s.asked s.space) before)
      ∙ ap (λ (es : List Entry). sent_to w a.kind (with_cookie a.cookie w.granted) ++ es) rest
  by false e rest = rest

pub again_are : (s : ServerState) (before : List Asked) (v w : Target) → ShowsCalls before v → Shows s w →
    sends_again w v.called v.glimpses w.granted ≡ again_told w (filter_map (reminder_of s.asked s.space) before)
again_are s before v w was shows =
    sends_again_is v w before s.asked was shows.calls (pairs_of (λ (earlier later : Lock). earlier.cookie.0 < later.cookie.0) w.granted
    shows.locks.rising)
    ∙ sym (reminders_are s w shows before)

-- ---- whose time is over

holders_ordered : (space : SpaceState) (cookies : List Cookie) (lives : List Who) → InOrder lives
    → InOrder (fold (with_holder_of space) lives cookies)
holders_ordered space [] lives up = up
holders_ordered space (c ∷ cookies) lives up = holders_ordered space cookies (with_holder_of space lives c) (by (lock_of c.0 space)) where
  by : (o : Option Lock) → InOrder (with_holder o lives)
  by None = up
  by (Some l) = ordered_with l.ask.who lives up

holders_have : (space : SpaceState) (who : Who) (cookies : List Cookie) (lives : List Who) →
    is_life who (fold (with_holder_of space) lives cookies) ≡ (list_any (λ (c : Cookie). has_life who (lock_of c.0 space)) cookies
    || is_life who lives)
holders_have space who [] lives = refl
holders_have space who (c ∷ cookies) lives =
    holders_have space who cookies (with_holder_of space lives c)
    ∙ by (lock_of c.0 space) (list_any (λ (k : Cookie). has_life who (lock_of k.0 space)) cookies)
  where
    four : (a b d : Bool) → (a || (b || d)) ≡ ((b || a) || d)
    four true true d = refl
    four true false d = refl
    four false b d = by_b b where
      by_b : (x : Bool) → (x || d) ≡ ((x || false) || d)
      by_b true = refl
      by_b false = refl

    same : (a d : Bool) → (a || d) ≡ ((false || a) || d)
    same a d = refl

    by : (o : Option Lock) (more : Bool) → (more || is_life who (with_holder o lives)) ≡ ((has_life who o || more) || is_life who lives)
    by None more = refl
    by (Some l) more = ap (λ b. more || b) (there_with who l.ask.who lives) ∙ four more (same_life who l.ask.who) (is_life who lives)

-- the due cookies are of granted locks
due_granted : (v : Target) (asked : List Asked) (age : ℕ) → ShowsCalls asked v
    → Every (λ (c : Cookie). has c.0 v.granted ≡ true) (due v.ticks age asked)
due_granted v asked age shows = every asked (λ test a is there. there) where
  -- all that passes among some does among all
  every : (some : List Asked) → ((test : Asked → Bool) (a : Asked) → test a ≡ true → list_any test some ≡ true → list_any test asked ≡ true)
      → Every (λ (c : Cookie). has c.0 v.granted ≡ true) (due v.ticks age some)
  every [] within = tt
  every (a ∷ some) within = by (is_due v.ticks age a) refl (every some
      (λ test b is h. within test b is (right (test a) (list_any test some) h))) where
        right : (p q : Bool) → q ≡ true → (p || q) ≡ true
        right true q h = refl
        right false q h = h

        here : is_block a.kind ≡ true → has a.cookie.0 v.granted ≡ true
        here block =
            let own : is_asked a.cookie kind.Block a ≡ true = both_true (a.cookie.0 == a.cookie.0) _ (same_number a.cookie.0)
            (block_kind a.kind block) in
            granted_asked v asked a.cookie kind.Block shows (within (is_asked a.cookie kind.Block) a own
            (ap (λ b. b || list_any (is_asked a.cookie kind.Block) some) own))
          where
            block_kind : (k : Kind) → is_block k ≡ true → same_kind k kind.Block ≡ true
            block_kind kind.Block h = refl
            block_kind (kind.Glimpse who xid) h = absurd (cc)

        by : (b : Bool) → is_due v.ticks age a ≡ b → Every (λ (c : Cookie). has c.0 v.granted ≡ true) (due v.ticks age some)
            → Every (λ (c : Cookie). has c.0 v.granted ≡ true) (map (λ (x : Asked). x.cookie)
            (cond b (a ∷ filter (is_due v.ticks age) some) (filter (is_due v.ticks age) some)))
        by true e rest = (here (both_left (is_block a.kind) (nat_le (a.tick + age) v.ticks) e), rest)
        by false e rest = rest

pub holders_condemned : (s : ServerState) (age : ℕ) (cookies : List Cookie) (lives : List Who) (v : Target) → Shows s v → v.setting.expire
    ≡ age → cookies ≡ due s.ticks age s.asked →
    lives ≡ fold (with_holder_of s.space) [] cookies → lives ≡ condemned v v.called
holders_condemned s age cookies lives v shows expire cookies_are lives_are =
    due_are v s.asked lives shows.calls (each_of_rising v.granted shows.locks.rising)
    (subst InOrder (sym lives_are) (holders_ordered s.space cookies [] tt))
    (λ who. ap (is_life who) lives_are ∙ holders_have s.space who cookies []
    ∙ or_none (list_any (λ (c : Cookie). has_life who (lock_of c.0 s.space)) cookies)
    ∙ ap (list_any (λ (c : Cookie). has_life who (lock_of c.0 s.space))) own ∙ same who)
  where
    or_none : (b : Bool) → (b || false) ≡ b
    or_none true = refl
    or_none false = refl

    own : cookies ≡ due v.ticks v.setting.expire s.asked
    own = cookies_are ∙ (λ i. due (sym shows.ticks i) (sym expire i) s.asked)

    same : (who : Who) → list_any (λ (c : Cookie). has_life who (lock_of c.0 s.space)) (due v.ticks v.setting.expire s.asked)
        ≡ list_any (λ cookie. has_life who (with_cookie cookie v.granted)) (due v.ticks v.setting.expire s.asked)
    same who =
        any_alike (λ (c : Cookie). has_life who (lock_of c.0 s.space)) (λ cookie. has_life who (with_cookie cookie v.granted))
        (due v.ticks v.setting.expire s.asked)
        (every_map (λ (c : Cookie). has c.0 v.granted ≡ true) (λ (c : Cookie). has_life who (lock_of c.0 s.space)
        ≡ has_life who (with_cookie c v.granted))
        (λ c there. ap (has_life who) (found_there s.space v c shows.locks there)) (due v.ticks v.setting.expire s.asked)
        (due_granted v s.asked v.setting.expire shows.calls))
