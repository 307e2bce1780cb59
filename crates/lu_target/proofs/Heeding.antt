-- Whether a message is heeded, by the boot that it names and the slot of its life.
use Rattle.std.proofs.Common.{◌≡◌, ◌≢◌, ℕ, ◌==◌, nat_lt, if◌then◌else◌, Bool, true, false, List, [], ◌∷◌, Option, Some, None, refl, sym, ap}
use Rattle.std.proofs.Common.{subst, ◌∙◌, arith}
use Rattle.std.proofs.lemmas.Bool.Decides.{nat_tests}
use Rattle.lu_base.specs.declared.ids.Who.{Who}
use Rattle.lu_msg.specs.declared.messages.Message.TheVariants as message
use Rattle.lu_trace.specs.Turns.{Making}
use Rattle.lu_spec_entries.specs.Words.{Entry}
use Rattle.lu_spec_target.specs.Lives.{is_life}
use Rattle.std.specs.Option.{is_some}
use Rattle.lu_spec_entries.specs.Carried.{Said}
use Rattle.lu_spec_target.specs.Leaving.{ready}
use Rattle.lu_spec_target.specs.Recovery.{row_word}
use Rattle.lu_spec_target.specs.Replies.{to_life}
use Rattle.lu_spec_target.specs.Rows.{by_boot, by_slot, heeds, while_serving, while_recovering, of_boot}
use Rattle.lu_spec_target.specs.States.{Target, is_serving, turn}
use Rattle.lu_target_server.specs.Windows.{State}
use Rattle.lu_spec_entries.specs.Given.{giving}
use Rattle.lu_target_server.specs.Servers.{Shows}
use Rattle.lu_target_server.specs.Recovering.{Gathers, Recovers}
use Rattle.lu_target.specs.Running.{RunningState, IsOf, IsIn, HasHeeded, Turns, KeepsIn}
use Rattle.lu_target.proofs.Turning.{serving_is, recovering_is, in_none, in_some, keeps_as}

-- ---- the boot and the lives of what is shown

pub boot_of : (t : RunningState) (v : Target) → IsIn t v → v.boot ≡ t.server.boot
boot_of t v it = by t.window it where
  by : (o : Option State) → IsOf t.server o v → v.boot ≡ t.server.boot
  by None shows = shows.boot
  by (Some w) shows = shows.gathers.boot

pub life_in : (t : RunningState) (who : Who) (found : Bool) → ((v : Target) → Shows t.server v → found ≡ is_life who v.lives)
    → ((w : State) (v : Target) → Gathers t.server w v → found ≡ is_life who v.lives) → (v : Target) → IsIn t v → found
    ≡ is_life who v.lives
life_in t who found one two v it = by t.window it where
  by : (o : Option State) → IsOf t.server o v → found ≡ is_life who v.lives
  by None shows = one v shows
  by (Some w) shows = two w v shows.gathers

-- ---- it is heeded, or not

older_row : (t : RunningState) (v : Target) (who : Who) (boot : ℕ) (rest : List Entry) → nat_lt boot t.server.boot ≡ true → IsIn t v
    → heeds v who boot rest ≡ to_life who (message.Up t.server.boot) ∷ []
older_row t v who boot rest older it =
    let same = boot_of t v it in
    let less : nat_lt boot v.boot ≡ true = ap (nat_lt boot) same ∙ older in
    ap (λ (b : Bool). by_boot v who b (by_slot v who (is_life who v.lives) rest)) less
    ∙ ap (λ (n : ℕ). to_life who (message.Up n) ∷ []) same

later_row : (t : RunningState) (v : Target) (who : Who) (boot : ℕ) (rest : List Entry) → nat_lt boot t.server.boot ≡ false → IsIn t v
    → heeds v who boot rest ≡ by_slot v who (is_life who v.lives) rest
later_row t v who boot rest later it = ap (λ (b : Bool). by_boot v who b (by_slot v who (is_life who v.lives) rest))
    (ap (nat_lt boot) (boot_of t v it) ∙ later)

pub heeded_older : (t : RunningState) (who : Who) (boot : ℕ) (before after : Making) → nat_lt boot t.server.boot ≡ true
    → after ≡ giving before (to_life who (message.Up t.server.boot) ∷ []) → HasHeeded false who boot t before after
heeded_older t who boot before after older said = record {
  later = λ e. absurd (cc);
  slot = λ e. absurd (cc);
  quiet = λ e. absurd (cc);
  goes = λ e. absurd (cc);
  told = λ e v rest it. said ∙ ap (giving before) (sym (older_row t v who boot rest older it));
  stays = λ e v rest it. ap (turn v) (older_row t v who boot rest older it);
}

pub heeded_gone : (t : RunningState) (who : Who) (boot : ℕ) (before after : Making) → nat_lt boot t.server.boot ≡ false
    → ((v : Target) → IsIn t v → false ≡ is_life who v.lives)
    → after ≡ giving before (to_life who (message.Evicted who t.server.boot) ∷ []) → HasHeeded false who boot t before after
heeded_gone t who boot before after later gone said = record {
  later = λ e. absurd (cc);
  slot = λ e. absurd (cc);
  quiet = λ e. absurd (cc);
  goes = λ e. absurd (cc);
  told = λ e v rest it. said ∙ ap (giving before) (sym (row v rest it));
  stays = λ e v rest it. ap (turn v) (row v rest it);
} where
  row : (v : Target) (rest : List Entry) → IsIn t v → heeds v who boot rest ≡ to_life who (message.Evicted who t.server.boot) ∷ []
  row v rest it =
      later_row t v who boot rest later it ∙ ap (λ (b : Bool). by_slot v who b rest) (sym (gone v it))
      ∙ ap (λ (n : ℕ). to_life who (message.Evicted who n) ∷ []) (boot_of t v it)

pub heeded_so : (t : RunningState) (who : Who) (boot : ℕ) (making : Making) → nat_lt boot t.server.boot ≡ false
    → ((v : Target) → IsIn t v → true ≡ is_life who v.lives)
    → HasHeeded true who boot t making making
heeded_so t who boot making later there = record {
  later = λ e. later;
  slot = λ e v it. sym (there v it);
  quiet = λ e. refl;
  goes = λ e v rest it. later_row t v who boot rest later it ∙ ap (λ (b : Bool). by_slot v who b rest) (sym (there v it));
  told = λ e. absurd (cc);
  stays = λ e. absurd (cc);
}

-- ---- it isn't

pub unheeded_turns : (rest : Target → List Entry) (t : RunningState) (who : Who) (boot : ℕ) (before after : Making)
    → HasHeeded false who boot t before after
    → Turns (λ v. heeds v who boot (rest v)) t t before after
unheeded_turns rest t who boot before after has = record {
  gives = λ v it. has.told refl v (rest v) it;
  shows = λ v it. subst (IsIn t) (sym (has.stays refl v (rest v) it)) it;
}

-- ---- it is: what is left of its row

pub while_serves : (rest : Target → List Entry) (t : RunningState) (who : Who) (boot : ℕ) (before after : Making) → t.window ≡ None
    → HasHeeded true who boot t before after
    → (v : Target) → IsIn t v → rest v ≡ heeds v who boot (while_serving v (rest v))
while_serves rest t who boot before after none has v it =
    sym (has.goes refl v (while_serving v (rest v)) it ∙ ap (λ (b : Bool). if b then rest v else [])
    (serving_is t.server v (in_none t v none it)))

pub while_awaits : (rest : Target → List Entry) (t : RunningState) (w : State) (who : Who) (boot : ℕ) (before after : Making) → t.window
    ≡ Some w → HasHeeded true who boot t before after
    → (v : Target) → IsIn t v → heeds v who boot (while_serving v (rest v)) ≡ []
while_awaits rest t w who boot before after some has v it =
    has.goes refl v (while_serving v (rest v)) it ∙ ap (λ (b : Bool). if b then rest v else [])
    (recovering_is t.server w v (Recovers.gathers (in_some t w v some it)))

pub kept_awaits : (rest : Target → List Entry) (t : RunningState) (w : State) (who : Who) (boot : ℕ) (before after : Making) → t.window
    ≡ Some w → HasHeeded true who boot t before after
    → boot ≡ t.server.boot → (v : Target) → IsIn t v → rest v ≡ heeds v who boot (while_recovering v (of_boot v boot (rest v)))
kept_awaits rest t w who boot before after some has own v it =
    sym (has.goes refl v (while_recovering v (of_boot v boot (rest v))) it
    ∙ ap (λ (b : Bool). if b then [] else of_boot v boot (rest v)) (recovering_is t.server w v (Recovers.gathers (in_some t w v some it)))
    ∙ ap (λ (b : Bool). if b then rest v else []) (is_own (own ∙ sym (boot_of t v it))))
  where
    is_own : boot ≡ v.boot → (boot == v.boot) ≡ true
    is_own e = grind (arith, nat_tests)

pub kept_serves : (rest : Target → List Entry) (t : RunningState) (who : Who) (boot : ℕ) (before after : Making) → t.window ≡ None
    → HasHeeded true who boot t before after
    → (v : Target) → IsIn t v → heeds v who boot (while_recovering v (rest v)) ≡ []
kept_serves rest t who boot before after none has v it =
    has.goes refl v (while_recovering v (rest v)) it ∙ ap (λ (b : Bool). if b then [] else rest v)
    (serving_is t.server v (in_none t v none it))

-- it names another boot
pub other_boot : (t : RunningState) (v : Target) (boot : ℕ) (rest : List Entry) → boot ≢ t.server.boot → IsIn t v → of_boot v boot rest ≡ []
other_boot t v boot rest other it = ap (λ (b : Bool). if b then rest else []) (is_other (λ e. other (e ∙ boot_of t v it))) where
  is_other : boot ≢ v.boot → (boot == v.boot) ≡ false
  is_other e = grind (arith, nat_tests)

pub kept_other : (rest : Target → List Entry) (t : RunningState) (who : Who) (boot : ℕ) (before after : Making)
    → HasHeeded true who boot t before after
    → boot ≢ t.server.boot → (v : Target) → IsIn t v → heeds v who boot (while_recovering v (of_boot v boot (rest v))) ≡ []
kept_other rest t who boot before after has other v it =
    has.goes refl v (while_recovering v (of_boot v boot (rest v))) it ∙ ap (while_recovering v) (other_boot t v boot (rest v) other it)
    ∙ either (is_serving v) []
  where
    either : (b : Bool) (es : List Entry) → (if b then es else es) ≡ es
    either true es = refl
    either false es = refl

-- a word goes to a target that recovers
pub word_awaits : (ready kept : Target → List Entry) (t : RunningState) (w : State) (who : Who) (boot : ℕ) (before after : Making)
    → t.window ≡ Some w → HasHeeded true who boot t before after
    → (v : Target) → IsIn t v → kept v ≡ heeds v who boot (if is_serving v then ready v else kept v)
word_awaits ready kept t w who boot before after some has v it =
    sym (has.goes refl v (if is_serving v then ready v else kept v) it
    ∙ ap (λ (b : Bool). if b then ready v else kept v) (recovering_is t.server w v (Recovers.gathers (in_some t w v some it))))

-- what the disk has after it
pub word_keeps : (t new : RunningState) (word : Said) (boot : ℕ) (before between : Making) → is_some t.window ≡ true
    → HasHeeded true word.who boot t before between
    → KeepsIn (λ v. of_boot v boot (row_word v between.at word)) t new
    → KeepsIn (λ v. heeds v word.who boot (if is_serving v then ready v word.who ∷ [] else of_boot v boot (row_word v before.at word))) t
    new
word_keeps t new word boot before between some has keeps = by t.window refl some where
  kept : Target → List Entry
  kept v = of_boot v boot (row_word v before.at word)

  by : (o : Option State) → t.window ≡ o → is_some o ≡ true → KeepsIn
      (λ v. heeds v word.who boot (if is_serving v then ready v word.who ∷ [] else kept v)) t new
  by None e none = absurd (cc)
  by (Some w) e there =
      keeps_as kept (λ v. heeds v word.who boot (if is_serving v then ready v word.who ∷ [] else kept v)) t new
      (word_awaits (λ v. ready v word.who ∷ []) kept t w word.who boot before between e has)
      (subst (λ (making : Making). KeepsIn (λ v. of_boot v boot (row_word v making.at word)) t new) (has.quiet refl) keeps)
