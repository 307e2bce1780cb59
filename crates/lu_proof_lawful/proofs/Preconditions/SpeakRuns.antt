-- In each covered run no life that is over speaks: the turn that takes the notice tells its calls, gives up its locks and begins the next
-- life
-- before it sends anything.
use Rattle.std.proofs.Common.{◌≡◌, ℕ, ◌+◌, Bool, true, List, [], ◌∷◌, ◌++◌, Option, Some, None, inl, inr, refl, sym, subst, ap, ◌∙◌}
use Rattle.lu_base.specs.declared.ids.At.{At}
use Rattle.lu_base.specs.declared.ids.Node.{Node}
use Rattle.lu_base.specs.declared.ids.Node.TheVariants.{Client, Target}
use Rattle.lu_base.specs.declared.ids.Stamp.{Stamp}
use Rattle.lu_base.specs.declared.ids.Who.{Who}
use Rattle.lu_msg.specs.declared.messages.Message.{Message}
use Rattle.lu_msg.specs.declared.messages.Message.TheVariants as message
use Rattle.lu_held.specs.declared.locks.HeldLock.{HeldLock}
use Rattle.lu_held.specs.Held.{in_order}
use Rattle.lu_spec_entries.specs.Carried.{Running}
use Rattle.lu_spec_entries.specs.Words.{Entry, Send, Take, Life, Line, line, with_turn}
use Rattle.lu_spec_target.specs.Disks.{row_start}
use Rattle.lu_spec_client.specs.Calls.{call_on}
use Rattle.lu_spec_client.specs.Messages.{comes_by, evicted_heard}
use Rattle.lu_spec_client.specs.Recovery.{ends_call, ends_calls, drops_all, next_life, joins_all, evicted}
use Rattle.lu_spec_client.specs.Rows as client
use Rattle.lu_spec_client.specs.Rows.{rests}
use Rattle.lu_spec_client.specs.States.{Client as ClientState, Limits, turn as turn_of}
use Rattle.lu_proof_lawful.specs.Covered.Calls.{life_at}
use Rattle.lu_proof_lawful.specs.Covered.Runs.{AllCovered}
use Rattle.lu_proof_lawful.specs.Covered.Heads.{Head}
use Rattle.lu_spec_run.specs.Heads as table
use Rattle.lu_spec_run.specs.Runs as table_runs
use Rattle.lu_spec_run.specs.Runs.{limits_of, client_of, row, IsRow, Turn, lines_of, IsRun}
use Rattle.lu_proof_lawful.proofs.Preconditions.Guards.{In, Later, Ending}
use Rattle.lu_proof_lawful.proofs.Preconditions.Speaks.{SpeaksNow, AllSpeak}
use Rattle.lu_proof_lawful.proofs.Preconditions.Grown.{Grown}
use Rattle.lu_proof_lawful.proofs.Preconditions.Lists.{turn, in_left, in_right, life_self}
use Rattle.lu_proof_lawful.proofs.Preconditions.Turns.{covered_head, run_later}
use Rattle.lu_proof_lawful.proofs.Preconditions.Covers.{covered_turn, over_none}
use Rattle.lu_proof_lawful.proofs.Preconditions.Ends.{grown_under, closed_turn, Other, other_call, other_first}
use Rattle.lu_proof_lawful.proofs.Preconditions.Obey.{grown, stands}

-- ---- lists of entries

-- an entry says nothing to a target
abbrev IsQuiet : Entry → Type 0
IsQuiet (Send to m) = ⊥
IsQuiet _ = Unit {0}

abbrev AllQuiet : List Entry → Type 0
AllQuiet [] = Unit {0}
AllQuiet (e ∷ es) = IsQuiet e × AllQuiet es

quiet_more : (es fs : List Entry) → AllQuiet es → AllQuiet fs → AllQuiet (es ++ fs)
quiet_more [] fs a b = b
quiet_more (e ∷ es) fs a b = (a.0, quiet_more es fs a.1 b)

-- a life began among these
abbrev Begun : List Entry → Type 0
Begun es = (w : Who) × In (Life w) es

-- what is said is said once a life began
abbrev BornFirst : List Entry → List Entry → Type 0
BornFirst seen [] = Unit {0}
BornFirst seen (e ∷ es) = (((t : ℕ) (m : Message) → e ≡ Send (Target t) m → Begun seen)) × BornFirst (seen ++ e ∷ []) es

begun_more : (seen es : List Entry) → Begun seen → Begun (seen ++ es)
begun_more seen es b = (b.0, in_left (Life b.0) seen es b.1)

born_after : (seen es : List Entry) → Begun seen → BornFirst seen es
born_after seen [] b = tt
born_after seen (e ∷ es) b = (λ t m q. b, born_after (seen ++ e ∷ []) es (begun_more seen (e ∷ []) b))

born_quiet : (seen es fs : List Entry) → AllQuiet es → ((more : List Entry) → BornFirst more fs) → BornFirst seen (es ++ fs)
born_quiet seen [] fs q b = b seen
born_quiet seen (e ∷ es) fs q b = (λ t m s. absurd (subst IsQuiet s q.0), born_quiet (seen ++ e ∷ []) es fs q.1 b)

more_line : (at : At) (seen : List Entry) (e : Entry) (p : List Line) → with_turn at (seen ++ e ∷ []) p ≡ line at e ∷ with_turn at seen p
more_line at [] e p = refl
more_line at (x ∷ seen) e p = more_line at seen e (line at x ∷ p)

-- ---- a turn

module _ (head : Head) (past : List Line) (stamp : Stamp) (c : ℕ) (e : Entry) where
  abbrev at : At
  at = turn stamp (Client c)

  -- after the first line
  walk : (seen es : List Entry) → Grown head (with_turn at es (with_turn at seen (line at e ∷ past))) → Later past (turn stamp (Client c))
      → ((n t boot : ℕ) → e ≡ Take n (Target t) (message.Evicted (life_at c past) boot) → BornFirst seen es)
      → AllSpeak (with_turn at seen (line at e ∷ past)) → AllSpeak (with_turn at es (with_turn at seen (line at e ∷ past)))
  walk seen [] g later born all = all
  walk seen (x ∷ es) g later born all =
      subst (λ (p : List Line). AllSpeak (with_turn at es p)) (more_line at seen x (line at e ∷ past))
      (walk (seen ++ x ∷ []) es (subst (λ (p : List Line). Grown head (with_turn at es p)) (sym (more_line at seen x (line at e ∷ past))) g)
      later
      (λ n t boot q. (born n t boot q).1)
      (subst AllSpeak (sym (more_line at seen x (line at e ∷ past))) (now, all)))
    where
      under : Grown head (with_turn at seen (line at e ∷ past))
      under = (grown_under head at es (line at x ∷ with_turn at seen (line at e ∷ past)) g).1

      now : SpeaksNow (with_turn at seen (line at e ∷ past)) (line at x)
      now d t m node is spoken ending = by (born_now t m is)
        where
          born_now : (t : ℕ) (m : Message) → x ≡ Send (Target t) m → (n u boot : ℕ) → e
              ≡ Take n (Target u) (message.Evicted (life_at c past) boot) → Begun seen
          born_now t m is n u boot q = (born n u boot q).0 t m is

          by : ((n u boot : ℕ) → e ≡ Take n (Target u) (message.Evicted (life_at c past) boot) → Begun seen) → ⊥
          by begun = closed_turn head past stamp c e seen under later begun d ending

-- ---- the rows

ends_quiet : (at : At) (slot : ℕ) (calls : List (Option Running)) → AllQuiet (ends_calls at slot calls)
ends_quiet at slot [] = tt
ends_quiet at slot (r ∷ calls) = quiet_more (ends_call at slot r) (ends_calls at (slot + 1) calls) (one r) (ends_quiet at (slot + 1) calls)
  where
    one : (r : Option Running) → AllQuiet (ends_call at slot r)
    one None = tt
    one (Some r) = (tt, tt)

drops_quiet : (hs : List HeldLock) → AllQuiet (drops_all hs)
drops_quiet [] = tt
drops_quiet (h ∷ hs) = (tt, drops_quiet hs)

append_twice : (xs ys zs : List Entry) → (xs ++ ys) ++ zs ≡ xs ++ (ys ++ zs)
append_twice [] ys zs = refl
append_twice (x ∷ xs) ys zs = ap (λ (es : List Entry). x ∷ es) (append_twice xs ys zs)

evicted_born : (at : At) (k : ClientState) (more : List Entry) → BornFirst [] (evicted at k ++ more)
evicted_born at k more =
    let w = next_life k.who in
    let es = ends_calls at 0 k.calls in
    let ds = drops_all (in_order k.store.held) in
    let js = joins_all w 0 k.imports in
    subst (λ (xs : List Entry). BornFirst [] xs) (sym (append_twice (es ++ ds) (Life w ∷ js) more))
    (born_quiet [] (es ++ ds) (Life w ∷ js ++ more) (quiet_more es ds (ends_quiet at 0 k.calls) (drops_quiet (in_order k.store.held)))
    (λ seen. (λ t m q. absurd (cc), born_after (seen ++ Life w ∷ []) (js ++ more) (w, in_right (Life w) seen (Life w ∷ []) (inl refl)))))

row_born : (limits : Limits) (at : At) (event : client.Event) (k : ClientState) (e : Entry) (es : List Entry) → client.row limits at event k
    ≡ e ∷ es → (n t boot : ℕ) → e ≡ Take n (Target t) (message.Evicted k.who boot) → BornFirst [] es
row_born limits at (client.Begins slot x) k e es q n t boot is =
    absurd (other_first e es n (Target t) (message.Evicted k.who boot)
    (subst Other q (other_call limits at slot x k (call_on slot k.calls))) is)
row_born limits at (client.Comes p from m) k e es q n t boot is =
    let more = rests limits at (turn_of k (Take p from m ∷ comes_by at from m k)) in
    let rest_is : comes_by at from m k ++ more ≡ es = cc in
    let first_is : Take p from m ≡ e = cc in
    let took : Take p from m ≡ Take n (Target t) (message.Evicted k.who boot) = first_is ∙ is in
    let from_is : Target t ≡ from = cc in
    let m_is : message.Evicted k.who boot ≡ m = cc in
    subst (λ (xs : List Entry). BornFirst [] xs) rest_is
    (subst (λ (v : Node). BornFirst [] (comes_by at v m k ++ more)) from_is
    (subst (λ (v : Message). BornFirst [] (comes_by at (Target t) v k ++ more)) m_is
    (subst (λ (b : Bool). BornFirst [] (evicted_heard at k b ++ more)) (sym (life_self k.who)) (evicted_born at k more))))
row_born limits at client.Ticks k e es q n t boot is = absurd (cc)
row_born limits at client.Dies k e es q n t boot is = absurd (cc)

-- a client's turn
own_turn : (head : Head) (limits : Limits) (past : List Line) (stamp : Stamp) (c : ℕ) (event : client.Event) (k : ClientState) → k.who
    ≡ life_at c past → Later past (turn stamp (Client c)) → ((d : ℕ) → Ending past d → ⊥)
    → Grown head (with_turn (turn stamp (Client c)) (client.row limits (turn stamp (Client c)) event k) past) → AllSpeak past
    → AllSpeak (with_turn (turn stamp (Client c)) (client.row limits (turn stamp (Client c)) event k) past)
own_turn head limits past stamp c event k same later closed g all = by (client.row limits (turn stamp (Client c)) event k) refl g
  where
    by : (xs : List Entry) → client.row limits (turn stamp (Client c)) event k ≡ xs → Grown head (with_turn (turn stamp (Client c)) xs past)
        → AllSpeak (with_turn (turn stamp (Client c)) xs past)
    by [] q g = all
    by (e ∷ es) q g =
        walk head past stamp c e [] es g later (λ n t boot is. row_born limits (turn stamp (Client c)) event k e es q n t boot
        (is ∙ ap (λ (w : Who). Take n (Target t) (message.Evicted w boot)) (sym same)))
        (λ d t m node is spoken ending. closed d ending, all)

-- a target's turn
other_turn : (stamp : Stamp) (u : ℕ) (es : List Entry) (past : List Line) → AllSpeak past
    → AllSpeak (with_turn (turn stamp (Target u)) es past)
other_turn stamp u [] past all = all
other_turn stamp u (e ∷ es) past all = other_turn stamp u es (line (turn stamp (Target u)) e ∷ past)
    (λ c t m node is spoken ending. absurd (cc), all)

row_speaks : (head : table.Head) (past : List Line) (stamp : Stamp) (node : Node) (es : List Entry) → Later past (turn stamp node)
    → IsRow head past (turn stamp node) es → AllCovered (with_turn (turn stamp node) es past) → ((d : ℕ) → Ending past d → ⊥)
    → Grown (covered_head head) (with_turn (turn stamp node) es past) → AllSpeak past → AllSpeak (with_turn (turn stamp node) es past)
row_speaks head past stamp (Target t) es later r covered closed g all = other_turn stamp t es past all
row_speaks head past stamp (Client d) es later r covered closed g all =
    subst (λ (gs : List Entry). AllSpeak (with_turn at gs past)) (sym is)
    (own_turn (covered_head head) (limits_of head) past stamp d r.event (client_of head d past) refl later closed
    (subst (λ (gs : List Entry). Grown (covered_head head) (with_turn at gs past)) is g) all)
  where
    at : At
    at = turn stamp (Client d)

    fs : List Entry
    fs = client.row (limits_of head) at r.event (client_of head d past)

    is : es ≡ fs
    is = r.is ∙ over_none r.fails fs (covered_turn at (row head past at r.event r.fails) past
        (subst (λ (gs : List Entry). AllCovered (with_turn at gs past)) r.is covered)).0

pub all_speak : (head : table.Head) (turns : List Turn) → IsRun head turns → AllCovered (lines_of turns) → AllSpeak (lines_of turns)
all_speak head [] run covered = tt
all_speak head (t ∷ turns) run covered = by run.1 (all_speak head turns run.2 (covered_turn t.at t.entries (lines_of turns) covered).1)
  where
    by : table_runs.IsTurn head turns t → AllSpeak (lines_of turns) → AllSpeak (lines_of (t ∷ turns))
    by (inl r) all =
        row_speaks head (lines_of turns) t.at.stamp t.at.node t.entries (run_later head turns t.at run.2 run.0) r covered
        (stands head turns run.2 (covered_turn t.at t.entries (lines_of turns) covered).1).closed (grown head (t ∷ turns) run covered) all
    by (inr f) all = absurd (fails (subst (λ (es : List Entry). AllCovered (with_turn t.at es (lines_of turns))) f.is covered))
      where
        fails : AllCovered (with_turn t.at (row_start true) (lines_of turns)) → ⊥
        fails k = k.0
