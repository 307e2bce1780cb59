-- What a line makes of what requests may carry.
use Rattle.std.proofs.Common.{◌≡◌, ℕ, suc, Bool, true, false, cond, Option, Some, None, List, [], ◌∷◌, ◌++◌, refl, sym, ap, subst, ◌∙◌}
use Rattle.std.specs.Prelude.{◌==◌, ◌&&◌, if◌then◌else◌, filter, reverse}
use Rattle.std.proofs.lemmas.Bool.{eqb-true}
use Rattle.std.proofs.lemmas.List.{reverse-append}
use Rattle.lu_base.specs.declared.ids.At.{At}
use Rattle.lu_base.specs.declared.ids.Fid.{Fid}
use Rattle.lu_base.specs.declared.ids.Node.{Node}
use Rattle.lu_base.specs.declared.ids.Node.TheVariants.{Client, Target}
use Rattle.lu_base.specs.declared.ids.TargetId.{TargetId}
use Rattle.lu_base.specs.declared.ids.Txn.{Txn as TxnOf}
use Rattle.lu_base.specs.declared.ids.Who.{Who}
use Rattle.lu_base.specs.declared.ids.Xid.{Xid}
use Rattle.lu_layout.specs.Raid0.{Raid0}
use Rattle.lu_msg.specs.declared.answers.Answer.{Answer}
use Rattle.lu_msg.specs.declared.answers.Answer.TheVariants as told
use Rattle.lu_msg.specs.declared.messages.Message.{Message}
use Rattle.lu_msg.specs.declared.messages.Reply.{Reply}
use Rattle.lu_trace.specs.declared.entries.Entry.{Entry}
use Rattle.lu_trace.specs.declared.entries.Entry.TheVariants.{Send, Heard, Told}
use Rattle.lu_trace.specs.declared.entries.Line.{Line}
use Rattle.lu_spec_machine.specs.Tree.{same_life, same_fid}
use Rattle.lu_spec_laws.specs.Words.Pasts.{Past, or_else}
use Rattle.lu_spec_laws.specs.Words.Lives.{life, who_is, is_by}
use Rattle.lu_spec_laws.specs.Words.Sends.{sends, reply_in}
use Rattle.lu_spec_laws.specs.Words.Calls.{Begun, open_call, file_of}
use Rattle.lu_spec_laws.specs.Words.Pieces.{opened_layout, carried_layout, layout_heard, is_file, is_done}
use Rattle.lu_spec_laws.proofs.Tests.{life_is}
use Rattle.lu_judge_calls.specs.declared.sent.Sent.{Sent}
use Rattle.lu_judge_calls.specs.Marks.{Mark, same_file, adds_write, adds_cut}
use Rattle.lu_judge_calls.specs.PieceTables.{page_in, cuts_in, layout_in, ShowsSent}
use Rattle.lu_judge_history.specs.declared.carried.Carried.{Carried}
use Rattle.lu_judge_history.specs.Carried.{with_mark, marked, HasNumber, touches_page, is_cut_mark, ShowsCarried}

-- ---- whose line it is

by_life : (w : Who) (c : ℕ) (past : Past) (here : Bool) → (c == w.client) ≡ here → (here && life c past == w.life)
    ≡ (here && life w.client past == w.life)
by_life w c past true e = ap (λ (d : ℕ). life d past == w.life) (eqb-true c w.client e)
by_life w c past false e = refl

pub own_is : (w : Who) (c : ℕ) (past : Past) → same_life (who_is c past) w ≡ is_by w past (Client c)
own_is w c past = by_life w c past (c == w.client) refl

-- ---- a message

at_entry : (new : Carried) (past : Past) (at : At) (e f : Entry) → e ≡ f → ShowsCarried new (record { at = at; entry = f } ∷ past)
    → ShowsCarried new (record { at = at; entry = e } ∷ past)
at_entry new past at e f is shown = subst (λ (x : Entry). ShowsCarried new (record { at = at; entry = x } ∷ past)) (sym is) shown

pub sent_shown : (t new : Carried) (past : Past) (l : Line) (number : ℕ) (to : Node) (message : Message) → l.entry ≡ Send number to message
    → HasNumber past l
    → ShowsCarried t past → new.last ≡ number → new.done ≡ t.done → new.layouts ≡ t.layouts → ShowsSent new.sent (l ∷ past)
    → ShowsCarried new (l ∷ past)
sent_shown t new past l number to message is has shown last done layouts sent =
    at_entry new past l.at l.entry (Send number to message) is
    (by (subst (λ (e : Entry). HasNumber past (record { at = l.at; entry = e })) is has)
    (subst (λ (e : Entry). ShowsSent new.sent (record { at = l.at; entry = e } ∷ past)) is sent))
  where
    by : number ≡ suc (sends past) → ShowsSent new.sent (record { at = l.at; entry = Send number to message } ∷ past)
        → ShowsCarried new (record { at = l.at; entry = Send number to message } ∷ past)
    by counts shows = record {
      last = last ∙ counts;
      numbered = (counts, shown.numbered);
      writes = λ who fid page. ap (λ d. page_in d.writes who fid page) done ∙ shown.writes who fid page;
      cuts = λ who fid. ap (λ d. cuts_in d.cuts who fid) done ∙ shown.cuts who fid;
      sent = shows;
      layouts = λ who fid. ap (λ ls. layout_in ls who fid) layouts ∙ shown.layouts who fid;
    }

-- a call on no file isn't kept
pub off_files : (fid : Fid) (n : ℕ) (begun : Begun) (marks : List Mark) → file_of begun ≡ None → with_mark fid n (Some begun) marks ≡ marks
off_files fid n begun marks is = ap (λ (o : Option Fid). if is_file fid o then (n, begun.call) ∷ marks else marks) is

-- ---- what is heard

pub opened_none : (f : Fid) (a : Answer) → ((fid : Fid) (txn : TxnOf) (layout : Raid0) → a ≡ told.OpenFile fid txn layout → ⊥)
    → opened_layout f a ≡ None
opened_none f (told.OpenFile fid txn layout) other = absurd (other fid txn layout refl)
opened_none f _ other = refl

or_none : {A : Type 0} (o : Option A) → or_else o None ≡ o
or_none None = refl
or_none (Some x) = refl

both_hold : {A : Type 0} (l f : Bool) (x : A) → (if l && f then Some x else None) ≡ (if l then (if f then Some x else None) else None)
both_hold true f x = refl
both_hold false f x = refl

same_either : {A : Type 0} (l : Bool) (x : A) → (if l then x else x) ≡ x
same_either true x = refl
same_either false x = refl

module _ (t : Carried) (past : Past) (shown : ShowsCarried t past) (at : At) (c : ℕ) (who : Who) (own : at.node ≡ Client c)
    (is : who ≡ who_is c past) where
  own_line : (w : Who) → same_life who w ≡ is_by w past at.node
  own_line w = ap (λ (v : Who). same_life v w) is ∙ own_is w c past ∙ sym (ap (is_by w past) own)

  -- this life hears that reply
  heard_first : (target : TargetId) (xid : Xid) (reply : Option Reply) (w : Who) (f : Fid) → reply ≡ reply_in past at target.0 who xid.0
      → (if same_life who w then carried_layout f reply else None)
      ≡ (if is_by w past at.node then carried_layout f (reply_in past at target.0 w xid.0) else None)
  heard_first target xid reply w f found = by (same_life who w) refl where
    by : (b : Bool) → same_life who w ≡ b
        → (if same_life who w then carried_layout f reply else None)
        ≡ (if is_by w past at.node then carried_layout f (reply_in past at target.0 w xid.0) else None)
    by true e =
        ap (λ (b : Bool). if b then carried_layout f reply else None) e
        ∙ ap (carried_layout f) (found ∙ ap (λ (v : Who). reply_in past at target.0 v xid.0) (life_is who w e))
        ∙ sym (ap (λ (b : Bool). if b then carried_layout f (reply_in past at target.0 w xid.0) else None) (sym (own_line w) ∙ e))
    by false e =
        ap (λ (b : Bool). if b then carried_layout f reply else None) e
        ∙ sym (ap (λ (b : Bool). if b then carried_layout f (reply_in past at target.0 w xid.0) else None) (sym (own_line w) ∙ e))

  pub hear_shown : (new : Carried) (target : TargetId) (xid : Xid) (reply : Option Reply) → reply ≡ reply_in past at target.0 who xid.0
      → new.last ≡ t.last → new.done ≡ t.done → new.sent ≡ t.sent
      → ((w : Who) (f : Fid) → layout_in new.layouts w f ≡ or_else (layout_in t.layouts w f)
      (if same_life who w then carried_layout f reply else None))
      → ShowsCarried new (record { at = at; entry = Heard target xid } ∷ past)
  hear_shown new target xid reply found last done sent hears = record {
    last = last ∙ shown.last;
    numbered = (tt, shown.numbered);
    writes = λ w f page. ap (λ d. page_in d.writes w f page) done ∙ shown.writes w f page;
    cuts = λ w f. ap (λ d. cuts_in d.cuts w f) done ∙ shown.cuts w f;
    sent = subst (λ (s : Sent). ShowsSent s past) (sym sent) shown.sent;
    layouts = λ w f.
        hears w f
        ∙ ap (λ (o : Option Raid0). or_else o (if same_life who w then carried_layout f reply else None)) (shown.layouts w f)
        ∙ ap (λ (o : Option Raid0). or_else (layout_heard w f past) o) (heard_first target xid reply w f found);
  }

  -- nothing new is heard
  pub hears_nothing : (reply : Option Reply) → ((f : Fid) → carried_layout f reply ≡ None)
      → (w : Who) (f : Fid) → layout_in t.layouts w f ≡ or_else (layout_in t.layouts w f)
      (if same_life who w then carried_layout f reply else None)
  hears_nothing reply none w f =
      sym (ap (λ (o : Option Raid0). or_else (layout_in t.layouts w f) (if same_life who w then o else None)) (none f)
      ∙ ap (λ (o : Option Raid0). or_else (layout_in t.layouts w f) o) (same_either (same_life who w) None)
      ∙ or_none (layout_in t.layouts w f))

  pub hears_layout : (reply : Reply) (fid : Fid) (layout : Raid0) (w : Who) (f : Fid) (was is_now : Option Raid0)
      → opened_layout f reply.answer ≡ (if same_fid fid f then Some layout else None)
      → is_now ≡ or_else was (if same_file who fid w f then Some layout else None)
      → is_now ≡ or_else was (if same_life who w then carried_layout f (Some reply) else None)
  hears_layout reply fid layout w f was is_now opens hears =
      hears ∙ ap (λ (o : Option Raid0). or_else was o)
      (both_hold (same_life who w) (fid.0 == f.0) layout ∙ ap (λ (o : Option Raid0). if same_life who w then o else None) (sym opens))

  -- ---- what is told

  abbrev told_or : ℕ → Who → Fid → Bool → List Mark
  told_or slot w f b = if b then with_mark f (sends past) (open_call w.client slot past) (marked w f past) else marked w f past

  told_marks : (slot : ℕ) (turn : At) (answer : Answer) (begun : Option Begun) (w : Who) (f : Fid) → is_done answer ≡ true → begun
      ≡ open_call c slot past
      → (if same_life who w then with_mark f (sends past) begun (marked w f past) else marked w f past)
      ≡ marked w f (record { at = at; entry = Told slot turn answer } ∷ past)
  told_marks slot turn answer begun w f done found = by (same_life who w) refl where
    by : (b : Bool) → same_life who w ≡ b
        → (if same_life who w then with_mark f (sends past) begun (marked w f past) else marked w f past)
        ≡ told_or slot w f (is_by w past at.node && is_done answer)
    by true e =
        ap (λ (b : Bool). if b then with_mark f (sends past) begun (marked w f past) else marked w f past) e
        ∙ ap (λ (o : Option Begun). with_mark f (sends past) o (marked w f past))
        (found ∙ ap (λ (v : Who). open_call v.client slot past) (sym is ∙ life_is who w e))
        ∙ sym (ap (λ (b : Bool). told_or slot w f (b && is_done answer)) (sym (own_line w) ∙ e) ∙ ap (told_or slot w f) done)
    by false e =
        ap (λ (b : Bool). if b then with_mark f (sends past) begun (marked w f past) else marked w f past) e
        ∙ sym (ap (λ (b : Bool). told_or slot w f (b && is_done answer)) (sym (own_line w) ∙ e))

  pub tell_shown : (new : Carried) (slot : ℕ) (turn : At) (answer : Answer) (begun : Option Begun) → is_done answer ≡ true → begun
      ≡ open_call c slot past
      → new.last ≡ t.last → new.layouts ≡ t.layouts → new.sent ≡ t.sent
      → ((w : Who) (f : Fid) (p : ℕ) → page_in new.done.writes w f p
      ≡ reverse (filter (touches_page p) (if same_life who w then with_mark f (sends past) begun (marked w f past) else marked w f past)))
      → ((w : Who) (f : Fid) → cuts_in new.done.cuts w f
      ≡ reverse (filter is_cut_mark (if same_life who w then with_mark f (sends past) begun (marked w f past) else marked w f past)))
      → ShowsCarried new (record { at = at; entry = Told slot turn answer } ∷ past)
  tell_shown new slot turn answer begun done found last layouts sent writes cuts = record {
    last = last ∙ shown.last;
    numbered = (tt, shown.numbered);
    writes = λ w f p. writes w f p ∙ ap (λ (ms : List Mark). reverse (filter (touches_page p) ms))
        (told_marks slot turn answer begun w f done found);
    cuts = λ w f. cuts w f ∙ ap (λ (ms : List Mark). reverse (filter is_cut_mark ms)) (told_marks slot turn answer begun w f done found);
    sent = subst (λ (s : Sent). ShowsSent s past) (sym sent) shown.sent;
    layouts = λ w f. ap (λ ls. layout_in ls w f) layouts ∙ shown.layouts w f;
  }

  -- nothing is added where no call stands, or it is on no file
  pub tell_nothing : (slot : ℕ) (turn : At) (answer : Answer) (begun : Option Begun) → is_done answer ≡ true → begun ≡ open_call c slot past
      → ((f : Fid) (marks : List Mark) → with_mark f (sends past) begun marks ≡ marks)
      → ShowsCarried t (record { at = at; entry = Told slot turn answer } ∷ past)
  tell_nothing slot turn answer begun done found none =
      tell_shown t slot turn answer begun done found refl refl refl
      (λ w f p. shown.writes w f p ∙ sym (ap (λ (ms : List Mark). reverse (filter (touches_page p) ms)) (stays w f)))
      (λ w f. shown.cuts w f ∙ sym (ap (λ (ms : List Mark). reverse (filter is_cut_mark ms)) (stays w f)))
    where
      stays : (w : Who) (f : Fid) → (if same_life who w then with_mark f (sends past) begun (marked w f past) else marked w f past)
          ≡ marked w f past
      stays w f = ap (λ (ms : List Mark). if same_life who w then ms else marked w f past) (none f (marked w f past))
          ∙ same_either (same_life who w) (marked w f past)

  more : (keep : Mark → Bool) (m : Mark) (marks now : List Mark) (k : Bool) → keep m ≡ k → now ≡ reverse (filter keep marks)
      → (if k then now ++ m ∷ [] else now) ≡ reverse (cond k (m ∷ filter keep marks) (filter keep marks))
  more keep m marks now true e is = ap (λ (ms : List Mark). ms ++ m ∷ []) is ∙ sym (reverse-append (m ∷ []) (filter keep marks))
  more keep m marks now false e is = is

  one_more : (keep : Mark → Bool) (m : Mark) (marks now : List Mark) → now ≡ reverse (filter keep marks)
      → (if keep m then now ++ m ∷ [] else now) ≡ reverse (filter keep (m ∷ marks))
  one_more keep m marks now is = more keep m marks now (keep m) refl is

  adds : (keep : Mark → Bool) (l f : Bool) (m : Mark) (marks was is_now : List Mark) → was ≡ reverse (filter keep marks)
      → is_now ≡ (if l && f then (if keep m then was ++ m ∷ [] else was) else was)
      → is_now ≡ reverse (filter keep (if l then (if f then m ∷ marks else marks) else marks))
  adds keep true true m marks was is_now before now = now ∙ one_more keep m marks was before
  adds keep true false m marks was is_now before now = now ∙ before
  adds keep false f m marks was is_now before now = now ∙ before

  -- a call on a file is added
  pub tell_call : (new : Carried) (slot : ℕ) (turn : At) (answer : Answer) (begun : Begun) (fid : Fid) → is_done answer ≡ true → Some begun
      ≡ open_call c slot past → file_of begun ≡ Some fid
      → new.last ≡ t.last → new.layouts ≡ t.layouts → new.sent ≡ t.sent
      → ((w : Who) (f : Fid) (p : ℕ) → page_in new.done.writes w f p
      ≡ (if same_file who fid w f then adds_write p (t.last, begun.call) (page_in t.done.writes w f p) else page_in t.done.writes w f p))
      → ((w : Who) (f : Fid) → cuts_in new.done.cuts w f
      ≡ (if same_file who fid w f then adds_cut (t.last, begun.call) (cuts_in t.done.cuts w f) else cuts_in t.done.cuts w f))
      → ShowsCarried new (record { at = at; entry = Told slot turn answer } ∷ past)
  tell_call new slot turn answer begun fid done found file last layouts sent writes cuts =
      tell_shown new slot turn answer (Some begun) done found last layouts sent
      (λ w f p.
      adds (touches_page p) (same_life who w) (fid.0 == f.0) (t.last, begun.call) (marked w f past) (page_in t.done.writes w f p)
      (page_in new.done.writes w f p) (shown.writes w f p) (writes w f p)
      ∙ ap (λ (ms : List Mark). reverse (filter (touches_page p) ms)) (marks w f))
      (λ w f.
      adds is_cut_mark (same_life who w) (fid.0 == f.0) (t.last, begun.call) (marked w f past) (cuts_in t.done.cuts w f)
      (cuts_in new.done.cuts w f) (shown.cuts w f) (cuts w f)
      ∙ ap (λ (ms : List Mark). reverse (filter is_cut_mark ms)) (marks w f))
    where
      marks : (w : Who) (f : Fid) → (if same_life who w then (if fid.0 == f.0 then (t.last, begun.call) ∷ marked w f past
          else marked w f past) else marked w f past)
          ≡ (if same_life who w then with_mark f (sends past) (Some begun) (marked w f past) else marked w f past)
      marks w f =
          ap (λ (n : ℕ). if same_life who w then (if fid.0 == f.0 then (n, begun.call) ∷ marked w f past else marked w f past)
          else marked w f past) shown.last
          ∙ ap (λ (o : Option Fid). if same_life who w then (if is_file f o then (sends past, begun.call) ∷ marked w f past
          else marked w f past) else marked w f past) (sym file)

-- ---- lines that say nothing new

module _ (t : Carried) (past : Past) (shown : ShowsCarried t past) (at : At) where
  not_done : (own : Bool) (answer : Answer) (old new : List Mark) → is_done answer ≡ false → (if own && is_done answer then new else old)
      ≡ old
  not_done true answer old new is = ap (λ (b : Bool). if b then new else old) is
  not_done false answer old new is = refl

  -- what isn't `ok` adds no call
  pub tell_undone : (slot : ℕ) (turn : At) (answer : Answer) → is_done answer ≡ false
      → ShowsCarried t (record { at = at; entry = Told slot turn answer } ∷ past)
  tell_undone slot turn answer is = record {
    last = shown.last;
    numbered = (tt, shown.numbered);
    writes = λ w f p.
        shown.writes w f p
        ∙ ap (λ (ms : List Mark). reverse (filter (touches_page p) ms))
        (sym (not_done (is_by w past at.node) answer (marked w f past)
        (with_mark f (sends past) (open_call w.client slot past) (marked w f past)) is));
    cuts = λ w f.
        shown.cuts w f
        ∙ ap (λ (ms : List Mark). reverse (filter is_cut_mark ms))
        (sym (not_done (is_by w past at.node) answer (marked w f past)
        (with_mark f (sends past) (open_call w.client slot past) (marked w f past)) is));
    sent = shown.sent;
    layouts = shown.layouts;
  }

  -- a target is told nothing
  pub told_of_target : (target slot : ℕ) (turn : At) (answer : Answer) → at.node ≡ Target target
      → ShowsCarried t (record { at = at; entry = Told slot turn answer } ∷ past)
  told_of_target target slot turn answer own = record {
    last = shown.last;
    numbered = (tt, shown.numbered);
    writes = λ w f p. shown.writes w f p ∙ ap (λ (ms : List Mark). reverse (filter (touches_page p) ms)) (sym (nowhere w f));
    cuts = λ w f. shown.cuts w f ∙ ap (λ (ms : List Mark). reverse (filter is_cut_mark ms)) (sym (nowhere w f));
    sent = shown.sent;
    layouts = shown.layouts;
  } where
    nowhere : (w : Who) (f : Fid) → marked w f (record { at = at; entry = Told slot turn answer } ∷ past) ≡ marked w f past
    nowhere w f = ap (λ (n : Node). if is_by w past n && is_done answer
        then with_mark f (sends past) (open_call w.client slot past) (marked w f past) else marked w f past) own

  -- and hears nothing
  pub heard_of_target : (target : ℕ) (of : TargetId) (xid : Xid) → at.node ≡ Target target
      → ShowsCarried t (record { at = at; entry = Heard of xid } ∷ past)
  heard_of_target target of xid own = record {
    last = shown.last;
    numbered = (tt, shown.numbered);
    writes = shown.writes;
    cuts = shown.cuts;
    sent = shown.sent;
    layouts = λ w f.
        shown.layouts w f ∙ sym (or_none (layout_heard w f past))
        ∙ sym (ap (λ (n : Node). or_else (layout_heard w f past)
        (if is_by w past n then carried_layout f (reply_in past at of.0 w xid.0) else None)) own);
  }
