-- What a line makes of what is shown of a life.
use Rattle.std.proofs.Common.{◌≡◌, ℕ, ◌+◌, ◌<◌, Bool, true, false, Option, Some, None, [], ◌∷◌, refl, ap, ◌∙◌, sym, subst, arith}
use Rattle.std.specs.Prelude.{◌==◌, ◌&&◌, ◌||◌, not, nat_lt, if◌then◌else◌, IfSome}
use Rattle.std.specs.List.{list_any}
use Rattle.std.proofs.lemmas.Bool.{eqb-true}
use Rattle.lu_base.specs.declared.ids.At.{At}
use Rattle.lu_base.specs.declared.ids.Cookie.{Cookie}
use Rattle.lu_base.specs.declared.ids.Node.TheVariants.{Client}
use Rattle.lu_base.specs.declared.ids.TargetId.{TargetId}
use Rattle.lu_base.specs.declared.ids.Who.{Who}
use Rattle.lu_msg.specs.declared.answers.Answer.{Answer}
use Rattle.lu_msg.specs.declared.calls.Call.{Call}
use Rattle.lu_trace.specs.declared.entries.Entry.{Entry}
use Rattle.lu_trace.specs.declared.entries.Entry.TheVariants.{Begin, Take, Drop, Told}
use Rattle.lu_trace.specs.declared.entries.Line.{Line}
use Rattle.lu_spec_machine.specs.Tree.{same_life}
use Rattle.lu_spec_laws.specs.Words.Pasts.{Past}
use Rattle.lu_spec_laws.specs.Words.Lives.{life, who_is, is_by}
use Rattle.lu_spec_laws.specs.Words.Sends.{message_of}
use Rattle.lu_spec_laws.specs.Words.Repeats.{same_reading, is_error, disturbs, is_ready, known}
use Rattle.lu_judge_silent.specs.declared.readings.Reading.{Reading}
use Rattle.lu_judge_silent.specs.Readings.{asks, reads_of, rebound_by}
use Rattle.lu_judge_silent.specs.Tables.{Stood, Marks, rebound_for, is_fresh, if_fresh, calm_at}
use Rattle.lu_judge_silent.specs.Steps.{Alike, is_handle, answers, disturbed, begun, learned, ended}
use Rattle.lu_judge_silent.specs.Shown.{without, calm_in, ShowsLife}
use Rattle.lu_judge_silent.proofs.Words.{spoils, known_line, known_any}
use Rattle.lu_judge_silent.proofs.Fresh.{stale, stale_after, is_new, rebound_below, since_later, none_fresh, rebound_begun, apart}
use Rattle.lu_judge_silent.proofs.Fresh.{fresh_left, calm_alike, knows_alike}

-- the question's answer is known
abbrev pub is_known : Reading → Who → Past → Bool
is_known q w past = list_any (same_reading (asks q)) (known w past)

pub transport : {now : ℕ} {m n : Marks} {w : Who} {past : Past} → Alike m n → ShowsLife now m w past → ShowsLife now n w past
transport {now} {m} {n} alike shown = record {
  disturbed = subst (λ (d : ℕ). d < now) (sym alike.disturbed) shown.disturbed;
  rebound = λ h. subst (λ (d : ℕ). d < now) (sym (alike.rebound h)) (shown.rebound h);
  standing = λ s. subst (λ (o : Option Stood). IfSome o (λ (st : Stood). st.since < now)) (sym (alike.standing s)) (shown.standing s);
  told = λ q. subst (λ (d : ℕ). d < now) (sym (alike.told q)) (shown.told q);
  calm = λ s. calm_alike alike s ∙ shown.calm s;
  known = λ q. knows_alike alike q ∙ shown.known q;
}

more : (a now : ℕ) → a < now → a < now + 1
more a now less = omega arith

at_all : (now : ℕ) (b : Bool) (old : ℕ) → old < now → (if b then now else old) < now + 1
at_all now true old less = omega arith
at_all now false old less = omega arith

module _ (now : ℕ) (m : Marks) (w : Who) (l : Line) (past : Past) (shown : ShowsLife now m w past) where
  above : 0 < now
  above = let below : m.disturbed < now = shown.disturbed in omega arith

  pub quiet_shows : ((s : ℕ) → calm_in w s (l ∷ past) ≡ calm_in w s past) → ((q : Reading) → is_known q w (l ∷ past) ≡ is_known q w past)
      → ShowsLife (now + 1) m w (l ∷ past)
  quiet_shows calm known = record {
    disturbed = more m.disturbed now shown.disturbed;
    rebound = λ h. more (m.rebound h) now (shown.rebound h);
    standing = λ s. since_later now (m.standing s) (shown.standing s);
    told = λ q. more (m.told q) now (shown.told q);
    calm = λ s. shown.calm s ∙ sym (calm s);
    known = λ q. shown.known q ∙ sym (known q);
  }

  disturbed_shows : ((s : ℕ) → calm_in w s (l ∷ past) ≡ None) → ((q : Reading) → is_known q w (l ∷ past) ≡ false)
      → ShowsLife (now + 1) (disturbed now true m) w (l ∷ past)
  disturbed_shows calm known = record {
    disturbed = omega arith;
    rebound = λ h. more (m.rebound h) now (shown.rebound h);
    standing = λ s. since_later now (m.standing s) (shown.standing s);
    told = λ q. more (m.told q) now (shown.told q);
    calm = λ s. none_fresh (disturbed now true m) now (m.standing s) (omega arith) (shown.standing s) ∙ sym (calm s);
    known = λ q. let below : m.told q < now = shown.told q in stale now (rebound_for m.rebound (reads_of (asks q))) (m.told q) (omega arith)
        ∙ sym (known q);
  }

  module _ (slot : ℕ) where
    ended_shows : (answer : Answer) → ((s : ℕ) → calm_in w s (l ∷ past) ≡ (if slot == s then None else calm_in w s past))
        → ((q : Reading) → is_known q w (l ∷ past) ≡ ((not (is_error answer) && answers q (calm_in w slot past)) || is_known q w past))
        → ShowsLife (now + 1) (ended true slot (learned now true answer (calm_at m slot) m)) w (l ∷ past)
    ended_shows answer calm known = record {
      disturbed = more m.disturbed now shown.disturbed;
      rebound = λ h. more (m.rebound h) now (shown.rebound h);
      standing = λ s. since_ended (slot == s) (m.standing s) (shown.standing s);
      told = λ q. at_all now (not (is_error answer) && answers q (calm_at m slot)) (m.told q) (shown.told q);
      calm = λ s. calm_ended (slot == s) s ∙ sym (calm s);
      known = λ q. known_learned q (not (is_error answer) && answers q (calm_at m slot))
          ∙ ap (λ (o : Option Call). (not (is_error answer) && answers q o) || is_known q w past) (shown.calm slot) ∙ sym (known q);
    } where
      since_ended : (here : Bool) (o : Option Stood) → IfSome o (λ (st : Stood). st.since < now)
          → IfSome (if here then None else o) (λ (st : Stood). st.since < now + 1)
      since_ended true o below = tt
      since_ended false o below = since_later now o below

      calm_ended : (here : Bool) (s : ℕ) → if_fresh m (if here then None else m.standing s) ≡ (if here then None else calm_in w s past)
      calm_ended true s = refl
      calm_ended false s = shown.calm s

      known_learned : (q : Reading) (b : Bool) → is_fresh m (asks q) (if b then now else m.told q) ≡ (b || is_known q w past)
      known_learned q true = is_new m.disturbed (rebound_for m.rebound (reads_of (asks q))) now shown.disturbed
          (rebound_below now m.rebound above shown.rebound (reads_of (asks q)))
      known_learned q false = shown.known q

    begun_shows : (call : Call) (ready : Bool) → ((s : ℕ) → calm_in w s (l ∷ past)
        ≡ (if slot == s then (if ready then Some call else None) else without call (calm_in w s past)))
        → ((q : Reading) → is_known q w (l ∷ past) ≡ (not (spoils call q) && is_known q w past))
        → ShowsLife (now + 1) (begun now true slot call ready m) w (l ∷ past)
    begun_shows call ready calm known = record {
      disturbed = more m.disturbed now shown.disturbed;
      rebound = λ h. at_all now (is_handle (rebound_by call) h) (m.rebound h) (shown.rebound h);
      standing = λ s. since_begun (slot == s) ready (m.standing s) (shown.standing s);
      told = λ q. more (m.told q) now (shown.told q);
      calm = λ s. calm_begun (slot == s) s ∙ sym (calm s);
      known = λ q. rw (rebound_begun now m.rebound (rebound_by call) (reads_of (asks q))) (known_begun q (spoils call q)) ∙ sym (known q);
    } where
      since_begun : (here ready : Bool) (o : Option Stood) → IfSome o (λ (st : Stood). st.since < now)
          → IfSome (if here then Some (record { call = call; since = if ready then now else 0 }) else o)
          (λ (st : Stood). st.since < now + 1)
      since_begun true true o below = omega arith
      since_begun true false o below = omega arith
      since_begun false ready o below = since_later now o below

      after : Marks
      after = begun now true slot call ready m

      calm_new : (ready : Bool) → if_fresh (begun now true slot call ready m)
          (Some (record { call = call; since = if ready then now else 0 })) ≡ (if ready then Some call else None)
      calm_new true = rw (
        rebound_begun now m.rebound (rebound_by call) (reads_of call),
        apart call,
        is_new m.disturbed (rebound_for m.rebound (reads_of call)) now shown.disturbed
            (rebound_below now m.rebound above shown.rebound (reads_of call)),
      ) refl
      calm_new false = rw (stale m.disturbed (rebound_for (λ h. if is_handle (rebound_by call) h then now else m.rebound h) (reads_of call))
          0 (omega arith)) refl

      calm_begun : (here : Bool) (s : ℕ) → if_fresh (begun now true slot call ready m)
          (if here then Some (record { call = call; since = if ready then now else 0 }) else m.standing s)
          ≡ (if here then (if ready then Some call else None) else without call (calm_in w s past))
      calm_begun true s = calm_new ready
      calm_begun false s = fresh_left m now call (m.standing s) (shown.standing s) ∙ ap (λ (o : Option Call). without call o) (shown.calm s)

      known_begun : (q : Reading) (spoiled : Bool) → (nat_lt m.disturbed (m.told q)
          && nat_lt (if spoiled then now else rebound_for m.rebound (reads_of (asks q))) (m.told q)) ≡ (not spoiled && is_known q w past)
      known_begun q true = let below : m.told q < now = shown.told q in stale_after m.disturbed now (m.told q) (omega arith)
      known_begun q false = shown.known q

-- ---- by line, of whichever life

module _ (now : ℕ) (m n : Marks) (w : Who) (past : Past) (at : At) where
  pub begins : (own : Bool) (slot : ℕ) (call : Call) (ready : Bool) → is_by w past at.node ≡ own → (own ≡ true → ready ≡ is_ready w past)
      → ShowsLife now m w past → Alike (begun now own slot call ready m) n
      → ShowsLife (now + 1) n w (record { at = at; entry = Begin slot call } ∷ past)
  begins true slot call ready is same shown alike =
      let l : Line = record { at = at; entry = Begin slot call } in
      transport alike (begun_shows now m w l past shown slot call ready (λ s. rw (is, same refl) refl)
      (λ q. known_any q w l past ∙ rw is refl))
  begins false slot call ready is same shown alike =
      let l : Line = record { at = at; entry = Begin slot call } in
      transport alike (quiet_shows now m w l past shown (λ s. rw is refl) (λ q. known_any q w l past ∙ rw is refl))

  pub ends : (own : Bool) (slot : ℕ) (turn : At) (answer : Answer) (calm : Option Call) → is_by w past at.node ≡ own
      → (own ≡ true → calm ≡ calm_at m slot) → ShowsLife now m w past
      → Alike (ended own slot (learned now own answer calm m)) n
      → ShowsLife (now + 1) n w (record { at = at; entry = Told slot turn answer } ∷ past)
  ends true slot turn answer calm is same shown alike =
      let l : Line = record { at = at; entry = Told slot turn answer } in
      transport (subst (λ (o : Option Call). Alike (ended true slot (learned now true answer o m)) n) (same refl) alike)
      (ended_shows now m w l past shown slot answer (λ s. rw is refl) (λ q. known_any q w l past ∙ rw is refl))
  ends false slot turn answer calm is same shown alike =
      let l : Line = record { at = at; entry = Told slot turn answer } in
      transport alike (quiet_shows now m w l past shown (λ s. rw is refl) (λ q. known_any q w l past ∙ rw is refl))

  pub drops : (own : Bool) (target : TargetId) (cookie : Cookie) → is_by w past at.node ≡ own → ShowsLife now m w past
      → Alike (disturbed now own m) n
      → ShowsLife (now + 1) n w (record { at = at; entry = Drop target cookie } ∷ past)
  drops true target cookie is shown alike =
      let l : Line = record { at = at; entry = Drop target cookie } in
      transport alike (disturbed_shows now m w l past shown (λ s. rw is refl) (λ q. known_any q w l past ∙ rw is refl))
  drops false target cookie is shown alike =
      let l : Line = record { at = at; entry = Drop target cookie } in
      transport alike (quiet_shows now m w l past shown (λ s. rw is refl) (λ q. known_any q w l past ∙ rw is refl))

  -- a message is taken that tells of what may change
  pub takes : (own : Bool) (number : ℕ) → is_by w past at.node ≡ own → disturbs (message_of past number) ≡ true → ShowsLife now m w past
      → Alike (disturbed now own m) n
      → ShowsLife (now + 1) n w (record { at = at; entry = Take number } ∷ past)
  takes true number is tells shown alike =
      let l : Line = record { at = at; entry = Take number } in
      transport alike (disturbed_shows now m w l past shown (λ s. rw (is, tells) refl) (λ q. known_any q w l past ∙ rw (is, tells) refl))
  takes false number is tells shown alike =
      let l : Line = record { at = at; entry = Take number } in
      transport alike (quiet_shows now m w l past shown (λ s. rw is refl) (λ q. known_any q w l past ∙ rw is refl))

and_false : (b : Bool) → (b && false) ≡ false
and_false true = refl
and_false false = refl

-- a message is taken that tells of nothing that may change
pub takes_calmly : (now : ℕ) (m : Marks) (w : Who) (past : Past) (at : At) (number : ℕ) → disturbs (message_of past number) ≡ false
    → ShowsLife now m w past
    → ShowsLife (now + 1) m w (record { at = at; entry = Take number } ∷ past)
takes_calmly now m w past at number tells shown =
    let l : Line = record { at = at; entry = Take number } in
    quiet_shows now m w l past shown (λ s. rw (tells, and_false (is_by w past at.node)) refl)
    (λ q. known_any q w l past ∙ rw (tells, and_false (is_by w past at.node)) refl)

-- a line of a node that isn't the life's
pub strange : (now : ℕ) (m : Marks) (w : Who) (past : Past) (at : At) (e : Entry) → is_by w past at.node ≡ false → ShowsLife now m w past
    → ShowsLife (now + 1) m w (record { at = at; entry = e } ∷ past)
strange now m w past at e is shown =
    let l : Line = record { at = at; entry = e } in
    quiet_shows now m w l past shown (λ s. calm_strange s e) (λ q. known_any q w l past ∙ known_strange q e) where
      calm_strange : (s : ℕ) (e : Entry) → calm_in w s (record { at = at; entry = e } ∷ past) ≡ calm_in w s past
      calm_strange s (Begin slot call) = rw is refl
      calm_strange s (Told slot turn answer) = rw is refl
      calm_strange s (Take number) = rw is refl
      calm_strange s (Drop target cookie) = rw is refl
      calm_strange s _ = refl

      known_strange : (q : Reading) (e : Entry) → known_line q (is_by w past at.node) (message_of past) (λ s. calm_in w s past)
          (record { at = at; entry = e }) (is_known q w past) ≡ is_known q w past
      known_strange q (Begin slot call) = rw is refl
      known_strange q (Told slot turn answer) = rw is refl
      known_strange q (Take number) = rw is refl
      known_strange q (Drop target cookie) = rw is refl
      known_strange q _ = refl

-- whether a client's line is the life's
pub own_is : (w : Who) (c : ℕ) (past : Past) → is_by w past (Client c) ≡ same_life (who_is c past) w
own_is w c past = by (c == w.client) refl where
  by : (same : Bool) → (c == w.client) ≡ same → (same && life w.client past == w.life) ≡ (same && life c past == w.life)
  by true e = ap (λ (d : ℕ). life d past == w.life) (sym (eqb-true c w.client e))
  by false e = refl

pub alike_twice : (own : Bool) (slot : ℕ) (k m n : Marks) → Alike k m → Alike (ended own slot m) n → Alike (ended own slot k) n
alike_twice own slot k m n first second = record {
  disturbed = second.disturbed ∙ first.disturbed;
  rebound = λ h. second.rebound h ∙ first.rebound h;
  standing = λ s. second.standing s ∙ ap (λ (o : Option Stood). if own && slot == s then None else o) (first.standing s);
  told = λ q. second.told q ∙ first.told q;
}

-- ---- before the first line

zero_below : (n : ℕ) → n ≡ 0 → n < 1
zero_below n is = omega arith

pub none_yet : (m : Marks) (w : Who) → m.disturbed ≡ 0 → ((h : ℕ) → m.rebound h ≡ 0) → ((s : ℕ) → m.standing s ≡ None)
    → ((q : Reading) → m.told q ≡ 0) → ShowsLife 1 m w []
none_yet m w disturbed rebound standing told = record {
  disturbed = zero_below m.disturbed disturbed;
  rebound = λ h. zero_below (m.rebound h) (rebound h);
  standing = λ s. subst (λ (o : Option Stood). IfSome o (λ (st : Stood). st.since < 1)) (sym (standing s)) tt;
  told = λ q. zero_below (m.told q) (told q);
  calm = λ s. ap (λ (o : Option Stood). if_fresh m o) (standing s);
  known = λ q. stale m.disturbed (rebound_for m.rebound (reads_of (asks q))) (m.told q) (let none : m.told q ≡ 0 = told q in omega arith);
}
