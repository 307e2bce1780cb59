-- What a close decides of one life or lock, from what is known of it.
use Rattle.std.proofs.Common.{◌≡◌, ℕ, Bool, true, false, List, refl, ap, sym, ◌∙◌, subst}
use Rattle.std.specs.Prelude.{◌&&◌, ◌||◌, not, if◌then◌else◌, Option, Some, None, is_none, IsTrue, ◌↔◌}
use Rattle.std.proofs.lemmas.Bool.{and_right}
use Rattle.lu_base.specs.declared.ids.At.{At}
use Rattle.lu_base.specs.declared.ids.Cookie.{Cookie}
use Rattle.lu_base.specs.declared.ids.Who.{Who}
use Rattle.lu_base.specs.declared.locks.Ask.{Ask}
use Rattle.lu_base.specs.declared.locks.Cause.{Cause}
use Rattle.lu_base.specs.declared.locks.Cause.TheVariants.{Absent, Gap}
use Rattle.lu_base.specs.declared.locks.Lock.{Lock as LockOf}
use Rattle.lu_base.specs.declared.locks.Resource.{Resource}
use Rattle.lu_msg.specs.declared.messages.GrantNotice.{GrantNotice}
use Rattle.lu_msg.specs.declared.messages.Message.{Message}
use Rattle.lu_msg.specs.declared.messages.Message.TheVariants.{Reply, Grant}
use Rattle.lu_msg.specs.declared.messages.Reply.{Reply as ReplyOf}
use Rattle.lu_trace.specs.declared.entries.Line.{Line}
use Rattle.lu_spec_laws.specs.Words.Pasts.{Past}
use Rattle.lu_spec_laws.specs.Words.Handed.{is_back, has_newer}
use Rattle.lu_spec_laws.specs.Words.Closes.{lost_at, rests_on, cause_at, is_lock, will_evict}
use Rattle.lu_spec_laws.specs.Laws.Recovery.{Evicts, SentAt}
use Rattle.lu_judge_recovery.proofs.Judging.{refused}

-- ---- causes

pub twice_not : (r s : Bool) → s ≡ not r → r ≡ not s
twice_not true s is = sym (ap not is)
twice_not false s is = sym (ap not is)

pub away_is : (t : ℕ) (past : Past) (who : Who) → is_back t past who ≡ false → Some Absent ≡ cause_at t past who
away_is t past who away = by (is_back t past who) away where
  by : (back : Bool) → back ≡ false → Some Absent ≡ (if not back || has_newer t past who then Some Absent
      else (if rests_on t past who (lost_at t past) then Some Gap else None))
  by false is = refl
  by true is = absurd (cc)

pub newer_is : (t : ℕ) (past : Past) (who : Who) → has_newer t past who ≡ true → Some Absent ≡ cause_at t past who
newer_is t past who newer = by (is_back t past who) (has_newer t past who) newer where
  by : (back n : Bool) → n ≡ true → Some Absent ≡ (if not back || n then Some Absent
      else (if rests_on t past who (lost_at t past) then Some Gap else None))
  by false n is = refl
  by true true is = refl
  by true false is = absurd (cc)

pub stayed_is : (t : ℕ) (past : Past) (who : Who) (rests : Bool) → is_back t past who ≡ true → has_newer t past who ≡ false
    → rests_on t past who (lost_at t past) ≡ rests
    → (if rests then Some Gap else None) ≡ cause_at t past who
stayed_is t past who rests back newer is = by (is_back t past who) (has_newer t past who) (rests_on t past who (lost_at t past)) back newer
    is where
      by : (b n r : Bool) → b ≡ true → n ≡ false → r ≡ rests → (if rests then Some Gap else None)
          ≡ (if not b || n then Some Absent else (if r then Some Gap else None))
      by true false r b n is = ap (λ (x : Bool). if x then Some Gap else None) (sym is)
      by true true r b n is = absurd (cc)
      by false n r b m is = absurd (cc)

-- ---- who comes back

pub not_again : (recovering after before : Bool) → before ≡ true → false ≡ (recovering && after && not before)
not_again recovering after before is = sym (and_right (recovering && after) (not before) (ap not is))

pub comes_now : (recovering after before result : Bool) → recovering ≡ true → before ≡ false → result ≡ after → result
    ≡ (recovering && after && not before)
comes_now recovering after before result r b is = is ∙ by recovering after before r b where
  by : (r a b : Bool) → r ≡ true → b ≡ false → a ≡ (r && a && not b)
  by true true false r b = refl
  by true false false r b = refl
  by true a true r b = absurd (cc)
  by false a b r c = absurd (cc)

-- ---- locks

pub not_added : {A : Type 0} (stays is : Bool) (a old : A) → stays ≡ false → old ≡ (if stays && is then a else old)
not_added {A} stays is a old gone = ap (λ (b : Bool). if b && is then a else old) (sym gone)

pub is_added : (stays : Bool) (a b : LockOf) (who : Who) (cookie : ℕ) (new old : Option LockOf) → stays ≡ true → a ≡ b → new
    ≡ (if is_lock who cookie a then Some a else old)
    → new ≡ (if stays && is_lock who cookie b then Some b else old)
is_added stays a b who cookie new old here same puts =
    puts ∙ ap (λ (l : LockOf). if is_lock who cookie l then Some l else old) same
    ∙ ap (λ (s : Bool). if s && is_lock who cookie b then Some b else old) (sym here)

lock_from : (a b : LockOf) → a.cookie ≡ b.cookie → a.resource ≡ b.resource → a.ask ≡ b.ask → a ≡ b
lock_from a b p q r =
    ap (λ (c : Cookie). record { cookie = c; resource = a.resource; ask = a.ask }) p
    ∙ ap (λ (c : Resource). record { cookie = b.cookie; resource = c; ask = a.ask }) q
    ∙ ap (λ (c : Ask). record { cookie = b.cookie; resource = b.resource; ask = c }) r

pub locks_are : (a b : LockOf) (t : Bool) → a.cookie ≡ b.cookie → a.resource ≡ b.resource → (IsTrue t ↔ (a.ask ≡ b.ask)) → IsTrue t
    ↔ (a ≡ b)
locks_are a b t p q decides = (λ done. lock_from a b p q (decides.0 done), λ same. decides.1 (ap (λ (l : LockOf). l.ask) same))

-- ---- evictions that follow

pub evicts_found : (at : At) (later : List Line) (who : Who) (due found : Cause) (o : Option Cause) (t : Bool) → Some due ≡ o
    → will_evict at later who ≡ Some found
    → (IsTrue t ↔ (found ≡ due)) → IsTrue t ↔ Evicts at later who o
evicts_found at later who due found o t is there decides =
    subst (λ (p : Option Cause). IsTrue t ↔ Evicts at later who p) is (
      λ done. there ∙ ap (λ (c : Cause). Some c) (decides.0 done),
      λ law. let both : Some found ≡ Some due = sym there ∙ law
          in decides.1 (cc),
    )

pub evicts_missing : (at : At) (later : List Line) (who : Who) (due : Cause) (o : Option Cause) → Some due ≡ o → will_evict at later who
    ≡ None → IsTrue false ↔ Evicts at later who o
evicts_missing at later who due o is none =
    subst (λ (p : Option Cause). IsTrue false ↔ Evicts at later who p) is
    (refused (λ (law : will_evict at later who ≡ Some due). let both : None ≡ Some due = sym none ∙ law in absurd (cc)))

pub evicts_none : (at : At) (later : List Line) (who : Who) (o : Option Cause) → None ≡ o → IsTrue true ↔ Evicts at later who o
evicts_none at later who o is = subst (λ (p : Option Cause). IsTrue true ↔ Evicts at later who p) is (λ done. tt, λ law. refl)

-- ---- messages that let nobody see anything

pub sent_other : (osts t : ℕ) (past : Past) (at : At) (m : Message) → ((r : ReplyOf) → m ≡ Reply r → ⊥)
    → ((g : GrantNotice) → m ≡ Grant g → ⊥) → SentAt osts t past at m
sent_other osts t past at (Reply r) reply grant = absurd (reply r refl)
sent_other osts t past at (Grant g) reply grant = absurd (grant g refl)
sent_other osts t past at _ reply grant = tt
