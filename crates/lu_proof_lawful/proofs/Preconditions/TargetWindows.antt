-- A commit with which lives leave or one comes, all that follows it, and what waited goes on: allowed lines, after which the target is
-- again what its story says.
use Rattle.std.proofs.Common.{◌≡◌, ℕ, ◌<◌, ◌≤◌, Bool, true, false, List, [], ◌∷◌, None, inl, refl, sym, subst, ap, ◌∙◌, arith}
use Rattle.std.specs.Prelude.{nat_eq}
use Rattle.std.specs.List.{list_any}
use Rattle.std.proofs.lemmas.Bool.{cond-true, cond-false, eqb-true, eqb-false}
use Rattle.lu_base.specs.declared.ids.At.{At}
use Rattle.lu_base.specs.declared.ids.Node.TheVariants as node
use Rattle.lu_base.specs.declared.ids.Stamp.{Stamp}
use Rattle.lu_base.specs.declared.ids.Who.{Who}
use Rattle.lu_base.specs.declared.locks.Cause.{Cause}
use Rattle.lu_base.specs.declared.locks.Cause.TheVariants.{Expired, Replaced}
use Rattle.lu_msg.specs.declared.messages.Message.TheVariants as message
use Rattle.lu_spec_entries.specs.Words.{Entry, Boot, Joined, Line, line, with_turn}
use Rattle.lu_spec_entries.specs.Concerns.{only}
use Rattle.lu_spec_target.specs.Leaving.{commits, ready, evictions, all_go, expels, admits, row_admits, is_over, life_of as life_in}
use Rattle.lu_spec_target.specs.Lives.{is_life, with_lives, without_lives}
use Rattle.lu_spec_target.specs.Names.{names_go}
use Rattle.lu_spec_target.specs.Queues.{all_queues_go}
use Rattle.lu_spec_target.specs.States.{Target, after, follow, turn as turned}
use Rattle.lu_proof_lawful.specs.Covered.Heads.{Head}
use Rattle.lu_proof_lawful.specs.Covered.TargetStates.{server_of, lives_of, evicted_of}
use Rattle.lu_proof_lawful.proofs.Preconditions.Guards.{In, Was, Took}
use Rattle.lu_proof_lawful.proofs.Preconditions.StoryGuards.{EvictedBy, JoinedOk}
use Rattle.lu_proof_lawful.proofs.Preconditions.Lists.{turn}
use Rattle.lu_proof_lawful.proofs.Preconditions.LifeLists.{Distinct, life_put}
use Rattle.lu_proof_lawful.proofs.Preconditions.TargetAlike.{Serving, Window, serving_is, window_is, window_joined, window_send}
use Rattle.lu_proof_lawful.proofs.Preconditions.TargetAlike.{window_closed, all_stay}
use Rattle.lu_proof_lawful.proofs.Preconditions.TargetGood.{Reaches, reaches_more, turned_more}
use Rattle.lu_proof_lawful.proofs.Preconditions.TargetLeaving.{IsNoBoot, Carries, Leaving, leave_start, evictions_lead, commit_ok}
use Rattle.lu_proof_lawful.proofs.Preconditions.TargetPass.{HighAt, High, names_good}
use Rattle.lu_proof_lawful.proofs.Preconditions.TargetLocks.{queues_lead}
use Rattle.lu_proof_lawful.proofs.Preconditions.StoryLists.{IsFirst, first_all}
use Rattle.lu_proof_lawful.proofs.Preconditions.Turns.{Settled, owes_nothing}
use Rattle.lu_proof_lawful.proofs.Preconditions.Ends.{took_more}
use Rattle.lu_proof_lawful.proofs.Preconditions.Only.{was_more}

-- numbers that suffice for a turn suffice for its rest
pub high_rest : (es : List Entry) (next : Target → List Entry) (v : Target) → High v (follow v es next)
    → High (turned v es) (next (turned v es))
high_rest es next v high = subst HighAt (turned_more es (next (turned v es)) v) high

module _ (head : Head) (stamp : Stamp) where
  abbrev Goes : ℕ → (Target → List Entry) → Type 0
  Goes t next = (past story : List Line) (v : Target) → story ≡ only t past → Settled past → Serving head t v story → High v (next v)
      → Reaches head stamp t past story v (next v) (Serving head t)

  -- what waited goes on: at the metadata target the requests, at another one the locks
  pub all_goes : (t : ℕ) → Goes t (all_go (turn stamp (node.Target t)))
  all_goes t past story v is settled h high = by (nat_eq t 0) refl
    where
      names : nat_eq v.setting.id 0 ≡ nat_eq t 0
      names = ap (λ (n : ℕ). nat_eq n 0) h.alike.id

      at_first : (n : ℕ) → n ≡ 0 → Goes n (names_go (turn stamp (node.Target n)))
      at_first n e = subst (λ (m : ℕ). Goes m (names_go (turn stamp (node.Target m)))) (sym e) (names_good head stamp)

      by : (b : Bool) → nat_eq t 0 ≡ b → Reaches head stamp t past story v (all_go (turn stamp (node.Target t)) v) (Serving head t)
      by true e =
          let go = names_go (turn stamp (node.Target t)) v in
          let same : all_go (turn stamp (node.Target t)) v ≡ go = cond-true (nat_eq v.setting.id 0) go (all_queues_go v) (names ∙ e) in
          subst (λ (es : List Entry). Reaches head stamp t past story v es (Serving head t)) (sym same)
          (at_first t (eqb-true t 0 e) past story v is settled h (subst (λ (es : List Entry). High v es) same high))
      by false e =
          let apart = eqb-false t 0 e in
          let high_is : 0 < t = omega (arith, apart) in
          let same : all_go (turn stamp (node.Target t)) v ≡ all_queues_go v =
          cond-false (nat_eq v.setting.id 0) (names_go (turn stamp (node.Target t)) v) (all_queues_go v) (names ∙ e) in
          subst (λ (es : List Entry). Reaches head stamp t past story v es (Serving head t)) (sym same)
          (queues_lead head stamp t high_is past story v is settled h)

  module _ (t : ℕ) where
    abbrev at : At
    at = turn stamp (node.Target t)

    -- lives whose time is over leave
    module _ (v : Target) (past story : List Line) (is : story ≡ only t past) (settled : Settled past) (h : Serving head t v story) where
      commit_lead : (cause : Cause) (gone come : List Who) (K : List Line → Type 0) → Carries t stamp K
          → ((x : Who) → In x gone → is_life x (lives_of head.clients story) ≡ true) → Distinct gone
          → ((x : Who) → In x gone → EvictedBy story at x cause) → K story
          → Reaches head stamp t past story v (commits v v.log gone come ∷ [])
          (λ w p. Leaving head t at cause v.granted come (without_lives gone (lives_of head.clients story))
          (with_lives gone (evicted_of story)) K gone [] w p)
      commit_lead cause gone come K keeps has distinct caused carried = (
        (
          (
            owes_nothing past at (commits v v.log gone come) settled,
            tt,
            commit_ok head story at v.log gone come v.committed h.story (subst (IsFirst v.log) h.alike.log (first_all v.log))
                h.alike.committed (serving_is head t v story h),
          ),
          tt,
        ),
        leave_start head stamp t cause gone come K keeps story v h has distinct caused carried,
      )

      pub expels_lead : (gone : List Who) → ((x : Who) → In x gone → is_life x (lives_of head.clients story) ≡ true) → Distinct gone
          → ((x : Who) → In x gone → EvictedBy story at x Expired) → High v (expels at gone v)
          → Reaches head stamp t past story v (expels at gone v) (Serving head t)
      expels_lead [] has distinct caused high = (settled, h)
      expels_lead (who ∷ gone) has distinct caused high =
          reaches_more head stamp t (Leaves all) (Serving head t) (commits v v.log all [] ∷ []) leave past story v is
          (commit_lead Expired all [] Nothing nothing has distinct caused tt)
          (λ e s k. reaches_more head stamp t (Leaves []) (Serving head t) evicts (all_go at) past1 story1 w e
          (evictions_lead head stamp t Expired v.granted [] final ended Nothing nothing all past1 story1 w e s k)
          (λ f r j. all_goes t (with_turn at evicts past1) (with_turn at evicts story1) (turned w evicts) f r
          (window_closed head t (with_turn at evicts story1) (turned w evicts) j.shown j.window)
          (high_rest evicts (all_go at) w (high_rest (commits v v.log all [] ∷ []) leave v high))))
        where
          all : List Who
          all = who ∷ gone

          final : List Who
          final = without_lives all (lives_of head.clients story)

          ended : List Who
          ended = with_lives all (evicted_of story)

          Nothing : List Line → Type 0
          Nothing p = Unit {0}

          nothing : Carries t stamp Nothing
          nothing e p n u = tt

          w : Target
          w = after v (commits v v.log all [])

          past1 : List Line
          past1 = line at (commits v v.log all []) ∷ past

          story1 : List Line
          story1 = line at (commits v v.log all []) ∷ story

          evicts : List Entry
          evicts = evictions at Expired v.granted all w

          leave : Target → List Entry
          leave x = follow x (evictions at Expired v.granted all x) (all_go at)

          Leaves : List Who → Target → List Line → Type 0
          Leaves rest x p = Leaving head t at Expired v.granted [] final ended Nothing rest [] x p

      -- with its commit a life comes, and the old one of its client leaves
      pub admits_lead : (c boot : ℕ) (who : Who) (gone : List Who) → Took story at (node.Client c) (message.Join who boot)
          → Was story (node.Client c) (node.Target t) (message.Join who boot) → (server_of head.osts story).boot ≤ boot
          → ((x : Who) → In x gone → is_life x (lives_of head.clients story) ≡ true) → Distinct gone
          → ((x : Who) → In x gone → EvictedBy story at x Replaced)
          → life_in who.client (without_lives gone (lives_of head.clients story)) ≡ None
          → list_any (is_over who) (with_lives gone (evicted_of story)) ≡ false → High v (row_admits at gone who v)
          → Reaches head stamp t past story v (row_admits at gone who v) (Serving head t)
      admits_lead c boot who gone took was current has distinct caused none newer high =
          reaches_more head stamp t (Leaves gone) (Serving head t) (commits v v.log gone (who ∷ []) ∷ []) leave past story v is
          (commit_lead Replaced gone (who ∷ []) Asked asked has distinct caused (took, was, current))
          (λ e s k. reaches_more head stamp t (Leaves []) (Serving head t) evicts (admits at who) past1 story1 w e
          (evictions_lead head stamp t Replaced v.granted (who ∷ []) final ended Asked asked gone past1 story1 w e s k)
          (λ f r j. reaches_more head stamp t (Serving head t) (Serving head t) (Joined who ∷ ready x who ∷ []) (all_go at) past2 story2 x f
          (joins f r j)
          (λ g q i. all_goes t (line at (ready x who) ∷ line at (Joined who) ∷ past2)
          (line at (ready x who) ∷ line at (Joined who) ∷ story2) x g q i
          (high_rest (Joined who ∷ ready x who ∷ []) (all_go at) x
          (high_rest evicts (admits at who) w (high_rest (commits v v.log gone (who ∷ []) ∷ []) leave v high))))))
        where
          final : List Who
          final = without_lives gone (lives_of head.clients story)

          ended : List Who
          ended = with_lives gone (evicted_of story)

          Asked : List Line → Type 0
          Asked p = Took p at (node.Client c) (message.Join who boot) × Was p (node.Client c) (node.Target t) (message.Join who boot)
              × ((server_of head.osts p).boot ≤ boot)

          asked : Carries t stamp Asked
          asked e p n k = (
            took_more (line at e) p at (node.Client c) (message.Join who boot) k.0,
            was_more (line at e) p (node.Client c) (node.Target t) (message.Join who boot) k.1,
            by e n,
          )
            where
              by : (e : Entry) → IsNoBoot e → (server_of head.osts (line at e ∷ p)).boot ≤ boot
              by (Boot b disk) n = absurd n
              by e n = k.2

          w : Target
          w = after v (commits v v.log gone (who ∷ []))

          past1 : List Line
          past1 = line at (commits v v.log gone (who ∷ [])) ∷ past

          story1 : List Line
          story1 = line at (commits v v.log gone (who ∷ [])) ∷ story

          evicts : List Entry
          evicts = evictions at Replaced v.granted gone w

          x : Target
          x = turned w evicts

          past2 : List Line
          past2 = with_turn at evicts past1

          story2 : List Line
          story2 = with_turn at evicts story1

          leave : Target → List Entry
          leave y = follow y (evictions at Replaced v.granted gone y) (admits at who)

          Leaves : List Who → Target → List Line → Type 0
          Leaves rest y p = Leaving head t at Replaced v.granted (who ∷ []) final ended Asked rest [] y p

          joins : story2 ≡ only t past2 → Settled past2 → Leaves [] x story2
              → Reaches head stamp t past2 story2 x (Joined who ∷ ready x who ∷ []) (Serving head t)
          joins f r j =
              let lives : lives_of head.clients story2 ≡ final = sym (all_stay (lives_of head.clients story2)) ∙ j.left in
              let ok : JoinedOk head story2 at t who =
              record {
                serves = window_is head t [] (who ∷ []) x story2 j.window;
                from = c;
                boot = boot;
                took = j.carried.0;
                was = j.carried.1;
                current = j.carried.2;
                none = ap (life_in who.client) lives ∙ none;
                newer = ap (list_any (is_over who)) j.over ∙ newer;
              } in
              let open_window : Window head t [] [] x (line at (Joined who) ∷ story2) =
              window_joined head t story2 stamp who [] x (inl ok) j.window in
              let sent = window_send head t (line at (Joined who) ∷ story2) stamp (node.Client who.client)
              (message.Ready who x.boot (record { 0 = x.committed })) [] [] x open_window in (
                (
                  (owes_nothing past2 at (Joined who) r, tt, inl ok),
                  (
                    (
                      tt,
                      tt,
                      record {
                        serves = window_is head t [] [] x (line at (Joined who) ∷ story2) open_window;
                        has = life_put who (lives_of head.clients story2);
                        to = refl;
                        of_boot = open_window.boot;
                        of_committed = ap (λ (n : ℕ). record { 0 = n }) open_window.committed;
                      },
                    ),
                    tt,
                  ),
                ),
                window_closed head t (line at (ready x who) ∷ line at (Joined who) ∷ story2) x j.shown sent,
              )
