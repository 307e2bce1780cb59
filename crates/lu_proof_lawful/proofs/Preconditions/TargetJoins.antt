-- What comes of a life's join: it is over, or is served already, or gets a slot, and then the old one of its client leaves.
use Rattle.std.proofs.Common.{◌≡◌, ℕ, ◌<◌, ◌≤◌, Bool, true, false, List, [], ◌∷◌, Option, Some, None, ◌⊎◌, inl, inr, refl, sym, subst, ap}
use Rattle.std.proofs.Common.{◌∙◌, arith}
use Rattle.std.specs.Prelude.{nat_eq, nat_lt, nat_le, not, if◌then◌else◌}
use Rattle.std.specs.List.{list_any}
use Rattle.std.proofs.lemmas.Bool.{cond-true, and_parts, eqb-true, eq-eqb, ltb-true, or_from}
use Rattle.std.proofs.lemmas.Bool.Decides.{nat_tests}
use Rattle.lu_base.specs.declared.ids.At.{At}
use Rattle.lu_base.specs.declared.ids.Node.TheVariants as node
use Rattle.lu_base.specs.declared.ids.Stamp.{Stamp}
use Rattle.lu_base.specs.declared.ids.Who.{Who}
use Rattle.lu_base.specs.declared.locks.Cause.TheVariants.{Replaced}
use Rattle.lu_msg.specs.declared.messages.Message.TheVariants as message
use Rattle.lu_spec_entries.specs.Words.{Entry, Line, same_life}
use Rattle.lu_spec_entries.specs.Concerns.{only}
use Rattle.lu_spec_target.specs.Leaving.{up, evicted, ready, row_join, by_life, row_admits, is_over, life_of as life_in}
use Rattle.lu_spec_target.specs.Lives.{is_life, without_lives}
use Rattle.lu_spec_target.specs.Recovery.{row_wish}
use Rattle.lu_spec_target.specs.Rows.{by_boot, row_heeds}
use Rattle.lu_spec_target.specs.States.{Target}
use Rattle.lu_proof_lawful.specs.Covered.Heads.{Head}
use Rattle.lu_proof_lawful.specs.Covered.TargetStates.{server_of, lives_of, evicted_of}
use Rattle.lu_proof_lawful.proofs.Preconditions.Guards.{In, Was}
use Rattle.lu_proof_lawful.proofs.Preconditions.StoryGuards.{TookSince, Spoke, Newer, EvictedBy, UpOk, NoticeOk, ReadyOk}
use Rattle.lu_proof_lawful.proofs.Preconditions.Lists.{turn, in_filter, life_is}
use Rattle.lu_proof_lawful.proofs.Preconditions.LifeLists.{life_stands, any_with, found_life, no_life, gone_not}
use Rattle.lu_proof_lawful.proofs.Preconditions.TargetAlike.{Serving, serving_is, serving_line, all_stay}
use Rattle.lu_proof_lawful.proofs.Preconditions.TargetGood.{Reaches}
use Rattle.lu_proof_lawful.proofs.Preconditions.TargetPass.{High}
use Rattle.lu_proof_lawful.proofs.Preconditions.TargetLeaving.{since_took}
use Rattle.lu_proof_lawful.proofs.Preconditions.TargetWindows.{admits_lead}
use Rattle.lu_proof_lawful.proofs.Preconditions.Turns.{Settled, owes_nothing}
use Rattle.lu_proof_lawful.proofs.Preconditions.ClientLocks.{any_true}

module _ (head : Head) (stamp : Stamp) (t : ℕ) where
  abbrev at : At
  at = turn stamp (node.Target t)

  -- ---- a life is told that it is over, or that it is served

  abbrev pub IsOver : List Line → Who → Type 0
  IsOver story who = (is_life who (evicted_of story) ≡ true) ⊎ ((is_life who (lives_of head.clients story) ≡ false) × Spoke story t who)
      ⊎ Newer head.clients story who

  pub over_lead : (past story : List Line) (v : Target) (who : Who) → Settled past → Serving head t v story → IsOver story who
      → Reaches head stamp t past story v (evicted v who ∷ []) (Serving head t)
  over_lead past story v who settled h cause =
      let ok : NoticeOk head story t who.client who v.boot = record { to = refl; of_boot = h.alike.boot; cause = cause } in
      (((owes_nothing past at (evicted v who) settled, tt, ok), tt), serving_line head t story stamp (evicted v who) v tt ok h)

  pub ready_lead : (past story : List Line) (v : Target) (who : Who) → Settled past → Serving head t v story
      → is_life who (lives_of head.clients story) ≡ true → Reaches head stamp t past story v (ready v who ∷ []) (Serving head t)
  ready_lead past story v who settled h has =
      let ok : ReadyOk head story who.client who v.boot (record { 0 = v.committed }) =
      record {
        serves = serving_is head t v story h;
        has = has;
        to = refl;
        of_boot = h.alike.boot;
        of_committed =
            ap (λ (n : ℕ). record { 0 = n }) h.alike.committed;
      } in
      (((owes_nothing past at (ready v who) settled, tt, ok), tt), serving_line head t story stamp (ready v who) v tt ok h)

  -- a message of an older boot: which boot it is
  pub up_lead : (past story : List Line) (v : Target) (who : Who) → Settled past → Serving head t v story → Spoke story t who
      ⊎ ((from asked : ℕ) × Was story (node.Client from) (node.Target t) (message.Join who asked))
      → Reaches head stamp t past story v (up v who ∷ []) (Serving head t)
  up_lead past story v who settled h said =
      let ok : UpOk head story t who.client v.boot = record { of_boot = h.alike.boot; who = who; to = refl; cause = inr said } in
      (((owes_nothing past at (up v who) settled, tt, ok), tt), serving_line head t story stamp (up v who) v tt ok h)

  -- ---- the join

  module _ (past story : List Line) (v : Target) (c boot : ℕ) (who : Who) (is : story ≡ only t past) (settled : Settled past)
      (h : Serving head t v story)
      (took : TookSince story at (node.Client c) (message.Join who boot))
      (was : Was story (node.Client c) (node.Target t) (message.Join who boot)) where
    abbrev lives : List Who
    lives = lives_of head.clients story

    abbrev gone : List Who
    gone = evicted_of story

    abbrev Leads : List Entry → Type 0
    Leads es = Reaches head stamp t past story v es (Serving head t)

    over_cause : (w : Who) → In w gone → is_over who w ≡ true → IsOver story who
    over_cause w i over = by (same_life who w) refl
      where
        parts : (nat_eq w.client who.client ≡ true) × (nat_le who.life w.life ≡ true)
        parts = and_parts (nat_eq w.client who.client) (nat_le who.life w.life) over

        by : (b : Bool) → same_life who w ≡ b → IsOver story who
        by true e = inl (subst (λ (u : Who). is_life u gone ≡ true) (sym (life_is who w e)) (life_stands w gone i))
        by false e =
            let p = parts in
            inr (inr (record {
              life = w;
              client = eqb-true w.client who.client p.0;
              newer = grind (arith, nat_tests, p.0, p.1, e);
              had =
                  inr (life_stands w gone i);
            }))

    newest : (server_of head.osts story).boot ≤ boot → (old : Who) → In old lives → old.client ≡ who.client → nat_lt who.life old.life
        ≡ false → nat_eq who.life old.life ≡ false → list_any (is_over who) gone ≡ false → High v (row_admits at (old ∷ []) who v)
        → Leads (row_admits at (old ∷ []) who v)
    newest current old i same lower equal newer high =
        admits_lead head stamp t v past story is settled h c boot who (old ∷ [])
        (since_took story at (node.Client c) (message.Join who boot) took) was current has ((λ x j. absurd j), tt) caused
        (no_life who.client (without_lives (old ∷ []) lives) none)
        (any_with (is_over who) old gone ∙ or_from (is_over who old) (list_any (is_over who) gone) under newer)
        high
      where
        above : old.life < who.life
        above = grind (arith, nat_tests, lower, equal)

        under : is_over who old ≡ false
        under = let lt = above in grind (arith, nat_tests, lt)

        one : (x : Who) → In x (old ∷ []) → old ≡ x
        one x (inl e) = e
        one x (inr j) = absurd j

        has : (x : Who) → In x (old ∷ []) → is_life x lives ≡ true
        has x j = subst (λ (u : Who). is_life u lives ≡ true) (one x j) (life_stands old lives i)

        caused : (x : Who) → In x (old ∷ []) → EvictedBy story at x Replaced
        caused x j = subst (λ (u : Who). EvictedBy story at u Replaced) (one x j)
            (record { from = c; other = who; boot = boot; took = took; client = sym same; newer = above })

        none : (w : Who) → In w (without_lives (old ∷ []) lives) → w.client ≡ who.client → ⊥
        none w j e =
            let p = in_filter (λ (u : Who). not (is_life u (old ∷ []))) w lives j in
            gone_not w old p.1 (h.story.single w old (life_stands w lives p.0) (life_stands old lives i) (e ∙ sym same))

    by_old : (server_of head.osts story).boot ≤ boot → (o : Option Who) → life_in who.client v.lives ≡ o → list_any (is_over who) gone
        ≡ false → High v (by_life v at who o) → Leads (by_life v at who o)
    by_old current None found newer high =
        admits_lead head stamp t v past story is settled h c boot who [] (since_took story at (node.Client c) (message.Join who boot) took)
        was current (λ x j. absurd j) tt (λ x j. absurd j)
        (ap (life_in who.client) (all_stay lives) ∙ ap (life_in who.client) (sym h.lives) ∙ found) newer high
    by_old current (Some old) found newer high = by (nat_lt who.life old.life) (nat_eq who.life old.life) refl refl high
      where
        r : In old lives × (old.client ≡ who.client)
        r = found_life who.client lives old (ap (life_in who.client) (sym h.lives) ∙ found)

        by : (lower equal : Bool) → nat_lt who.life old.life ≡ lower → nat_eq who.life old.life ≡ equal
            → High v (if lower then evicted v who ∷ [] else (if equal then ready v who ∷ [] else row_admits at (old ∷ []) who v))
            → Leads (if lower then evicted v who ∷ [] else (if equal then ready v who ∷ [] else row_admits at (old ∷ []) who v))
        by true equal e f high =
            over_lead past story v who settled h (inr (inr (record
            { life = old; client = r.1; newer = ltb-true who.life old.life e; had = inl (life_stands old lives r.0) })))
        by false true e f high =
            let same : same_life old who ≡ true = (let p = r.1 in grind (arith, nat_tests, p, f)) in
            ready_lead past story v who settled h (subst (λ (u : Who). is_life u lives ≡ true) (life_is old who same)
            (life_stands old lives r.0))
        by false false e f high = newest current old r.0 r.1 e f newer high

    join_row : (server_of head.osts story).boot ≤ boot → High v (row_join v at who) → Leads (row_join v at who)
    join_row current high = by (list_any (is_over who) v.removed) refl high
      where
        by : (b : Bool) → list_any (is_over who) v.removed ≡ b → High v
            (if b then evicted v who ∷ [] else by_life v at who (life_in who.client v.lives))
            → Leads (if b then evicted v who ∷ [] else by_life v at who (life_in who.client v.lives))
        by true e high = let w = any_true (is_over who) gone (ap (list_any (is_over who)) (sym h.removed) ∙ e)
            in over_lead past story v who settled h (over_cause w.0 w.1 w.2)
        by false e high = by_old current (life_in who.client v.lives) refl (ap (list_any (is_over who)) (sym h.removed) ∙ e) high

    pub join_lead : High v (row_heeds v at (message.Join who boot)) → Leads (row_heeds v at (message.Join who boot))
    join_lead high = boots (nat_lt boot v.boot) refl (subst (λ (es : List Entry). High v (by_boot v who (nat_lt boot v.boot) es)) same high)
      where
        same : (if nat_eq v.closed v.boot then row_join v at who else row_wish v at who) ≡ row_join v at who
        same = cond-true (nat_eq v.closed v.boot) (row_join v at who) (row_wish v at who) (eq-eqb v.closed v.boot h.alike.closed)

        -- one of an older boot is told so
        boots : (older : Bool) → nat_lt boot v.boot ≡ older → High v (by_boot v who older (row_join v at who))
            → Leads (by_boot v who older (if nat_eq v.closed v.boot then row_join v at who else row_wish v at who))
        boots true e high = up_lead past story v who settled h (inr (c, boot, was))
        boots false e high = let of_boot = h.alike.boot in subst Leads (sym same) (join_row (grind (arith, nat_tests, e, of_boot)) high)
