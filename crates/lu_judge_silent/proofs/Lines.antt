-- The tables after a line.
use Rattle.std.proofs.Common.{◌≡◌, ℕ, ◌+◌, Bool, true, false, None, List, ◌∷◌, length, refl, ap, ◌∙◌, sym, subst, arith}
use Rattle.std.specs.Prelude.{if◌then◌else◌}
use Rattle.std.specs.List.{list_any}
use Rattle.lu_base.specs.declared.ids.At.{At}
use Rattle.lu_base.specs.declared.ids.Node.{Node}
use Rattle.lu_base.specs.declared.ids.Node.TheVariants.{Client, Target}
use Rattle.lu_base.specs.declared.ids.Who.{Who}
use Rattle.lu_msg.specs.declared.answers.Answer.{Answer}
use Rattle.lu_msg.specs.declared.calls.Call.{Call}
use Rattle.lu_base.specs.declared.ids.Cookie.{Cookie}
use Rattle.lu_base.specs.declared.ids.TargetId.{TargetId}
use Rattle.lu_trace.specs.declared.entries.Entry.{Entry}
use Rattle.lu_trace.specs.declared.entries.Entry.TheVariants.{Begin, Take, Drop, Told}
use Rattle.lu_trace.specs.declared.entries.Line.{Line}
use Rattle.lu_spec_laws.specs.Words.Pasts.{Past}
use Rattle.lu_spec_laws.specs.Words.Lives.{is_by}
use Rattle.lu_spec_laws.specs.Words.Sends.{sending, message_of}
use Rattle.lu_spec_laws.specs.Words.Repeats.{unready, unready_after, disturbs}
use Rattle.lu_judge_pass.specs.declared.lives.Lives.{Lives}
use Rattle.lu_judge_pass.specs.Ledgers.{life_in, ShowsLives}
use Rattle.lu_judge_silent.specs.declared.known.Known.{Known}
use Rattle.lu_judge_silent.specs.declared.ups.Ups.{Ups}
use Rattle.lu_judge_silent.specs.Tables.{Marks, marks_of}
use Rattle.lu_judge_silent.specs.Shown.{is_up, ShowsLife, ShowsUps, ShowsKnown, Followed, IsOwn}
use Rattle.lu_judge_silent.proofs.Lives.{strange, quiet_shows, own_is, takes_calmly}

pub followed : (t n : Known) (past : Past) (l : Line) → n.clock ≡ t.clock → ShowsKnown t past → ShowsUps n.ups (l ∷ past)
    → ((w : Who) → ShowsLife (t.clock + 1) (marks_of n w) w (l ∷ past)) → Followed n past l
followed t n past l same shown ups lives = record {
  clock = same ∙ shown.clock;
  ups = ups;
  lives = λ w. subst (λ (k : ℕ). ShowsLife (k + 1) (marks_of n w) w (l ∷ past)) (sym same) (lives w);
}

pub at_entry : (n : Known) (past : Past) (l : Line) (e : Entry) → l.entry ≡ e → Followed n past (record { at = l.at; entry = e })
    → Followed n past l
at_entry n past l e is shown = subst (λ (said : Entry). Followed n past (record { at = l.at; entry = said })) (sym is) shown

-- ---- quiet lines

abbrev pub is_quiet : Entry → Bool
is_quiet e = elim e [
  | Begin slot call ↦ false
  | Told slot turn answer ↦ false
  | Take number ↦ false
  | Drop target cookie ↦ false
  | _
      ↦ true
]

pub quiet_else : (e : Entry) → ((slot : ℕ) (call : Call) → e ≡ Begin slot call → ⊥)
    → ((slot : ℕ) (turn : At) (answer : Answer) → e ≡ Told slot turn answer → ⊥) → ((number : ℕ) → e ≡ Take number → ⊥)
    → ((target : TargetId) (cookie : Cookie) → e ≡ Drop target cookie → ⊥) → is_quiet e ≡ true
quiet_else (Begin slot call) b o t d = absurd (b slot call refl)
quiet_else (Told slot turn answer) b o t d = absurd (o slot turn answer refl)
quiet_else (Take number) b o t d = absurd (t number refl)
quiet_else (Drop target cookie) b o t d = absurd (d target cookie refl)
quiet_else _ b o t d = refl

quiet_life : (now : ℕ) (m : Marks) (w : Who) (past : Past) (at : At) (e : Entry) → is_quiet e ≡ true → ShowsLife now m w past
    → ShowsLife (now + 1) m w (record { at = at; entry = e } ∷ past)
quiet_life now m w past at (Begin slot call) is shown = absurd (cc)
quiet_life now m w past at (Told slot turn answer) is shown = absurd (cc)
quiet_life now m w past at (Take number) is shown = absurd (cc)
quiet_life now m w past at (Drop target cookie) is shown = absurd (cc)
quiet_life now m w past at e is shown = quiet_shows now m w (record { at = at; entry = e }) past shown (λ s. refl) (λ q. refl)

quiet_ups : (t : Ups) (past : Past) (at : At) (e : Entry) → is_quiet e ≡ true → ShowsUps t past
    → ShowsUps t (record { at = at; entry = e } ∷ past)
quiet_ups t past at (Take number) is shown = absurd (cc)
quiet_ups t past at _ is shown = shown

pub quiet : (t : Known) (past : Past) (l : Line) → is_quiet l.entry ≡ true → ShowsKnown t past → Followed t past l
quiet t past l is shown =
    followed t t past l refl shown (quiet_ups t.ups past l.at l.entry is shown.ups)
    (λ w. quiet_life t.clock (marks_of t w) w past l.at l.entry is (shown.lives w))

-- a message is taken that was never sent
pub nothing_taken : (t : Known) (past : Past) (at : At) (number : ℕ) → None ≡ sending past number → ShowsKnown t past
    → Followed t past (record { at = at; entry = Take number })
nothing_taken t past at number none shown =
    let calmly : disturbs (message_of past number) ≡ false = rw (← none) refl in
    followed t t past (record { at = at; entry = Take number }) refl shown (λ w up. shown.ups w up ∙ by (is_by w past at.node) w up)
    (λ w. takes_calmly t.clock (marks_of t w) w past at number calmly (shown.lives w)) where
      by : (own : Bool) (w : Who) (up : ℕ × ℕ) → list_any (is_up up) (unready w past)
          ≡ list_any (is_up up) (if own then unready_after (sending past number) (unready w past) else unready w past)
      by true w up = rw (← none) refl
      by false w up = refl

-- ---- lines of others

strange_ups_line : (own : Bool) (past : Past) (e : Entry) (at : At) (w : Who) → is_by w past at.node ≡ false
    → unready w (record { at = at; entry = e } ∷ past) ≡ unready w past
strange_ups_line own past (Take number) at w is = rw is refl
strange_ups_line own past _ at w is = refl

pub at_target : (t : Known) (past : Past) (l : Line) (target : ℕ) → l.at.node ≡ Target target → ShowsKnown t past → Followed t past l
at_target t past l target is shown =
    let other : (w : Who) → is_by w past l.at.node ≡ false = λ w. rw is refl in
    followed t t past l refl shown
    (λ w up. shown.ups w up ∙ ap (λ (ups : List (ℕ × ℕ)). list_any (is_up up) ups)
    (sym (strange_ups_line false past l.entry l.at w (other w))))
    (λ w. strange t.clock (marks_of t w) w past l.at l.entry (other w) (shown.lives w))

pub own_line : (lives : Lives) (past : Past) (node : Node) (client : ℕ) (who : Who) → node ≡ Client client → who
    ≡ record { client = client; life = life_in lives client } → ShowsLives lives past → IsOwn who past node
own_line lives past node client who at is shown w =
    rw (at, is, shown client) (own_is w client past)

-- ---- the number of the next line

pub counted : (t n : Known) (past : Past) (l : Line) → Followed t past l → n.clock ≡ t.clock + 1 → n.ups ≡ t.ups
    → ((w : Who) → marks_of n w ≡ marks_of t w) → ShowsKnown n (l ∷ past)
counted t n past l shown next ups marks = record {
  clock = next ∙ ap (λ (k : ℕ). k + 1) shown.clock ∙ suc_is (length past) refl;
  ups = subst (λ (u : Ups). ShowsUps u (l ∷ past)) (sym ups) shown.ups;
  lives = λ w. subst (λ (k : ℕ). ShowsLife k (marks_of n w) w (l ∷ past)) (sym next)
      (subst (λ (m : Marks). ShowsLife (t.clock + 1) m w (l ∷ past)) (sym (marks w)) (shown.lives w));
} where
  suc_is : (n : ℕ) → n ≡ length past → n + 1 + 1 ≡ length (l ∷ past) + 1
  suc_is n is = omega arith
