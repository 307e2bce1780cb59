-- A client that lives, in its turn, after lines that are allowed: one line more that is allowed keeps that. What its rows make, part by
-- part,
-- each read where it begins.
use Rattle.std.proofs.Common.{◌≡◌, ℕ, Bool, true, false, List, [], ◌∷◌, inl, Option, refl, sym, subst, ap, ◌∙◌}
use Rattle.std.specs.Prelude.{nat_eq}
use Rattle.std.proofs.lemmas.Bool.{eqb-true}
use Rattle.lu_base.specs.declared.ids.At.{At}
use Rattle.lu_base.specs.declared.ids.Node.TheVariants.{Client}
use Rattle.lu_base.specs.declared.ids.Stamp.{Stamp}
use Rattle.lu_base.specs.declared.ids.Who.{Who}
use Rattle.lu_base.specs.declared.locks.Mode.TheVariants.{PW}
use Rattle.lu_held.specs.declared.locks.HeldLock.{HeldLock}
use Rattle.lu_spec_entries.specs.Carried.{Flight, Running}
use Rattle.lu_spec_entries.specs.Words.{Entry, Tick, Line, line, with_turn}
use Rattle.lu_spec_entries.specs.Concerns.{is_about, only}
use Rattle.lu_spec_entries.specs.Fields.{on}
use Rattle.lu_spec_client.specs.Caches.{reads_held, held_after, held_at, patches_at}
use Rattle.lu_spec_client.specs.Calls.{reads_death, death_after, is_dead}
use Rattle.lu_spec_client.specs.Sending.{request_of}
use Rattle.lu_spec_client.specs.States.{Client as ClientState, follow, turn as turn_of}
use Rattle.lu_proof_lawful.specs.Covered.Calls.{reads_call, call_after, call_at, calls_at, life_at}
use Rattle.lu_proof_lawful.specs.Covered.ClientStates.{life_of}
use Rattle.lu_proof_lawful.specs.Covered.Runs.{IsCovered, AllCovered}
use Rattle.lu_proof_lawful.specs.Covered.Heads.{Head, IsAlive}
use Rattle.lu_proof_lawful.specs.Covered.Imports.{Serving, rest, known_at, standing_at}
use Rattle.lu_spec_run.specs.Heads as table
use Rattle.lu_spec_run.specs.Runs.{limits_of, client_of}
use Rattle.lu_proof_run.proofs.Clients.{client_own}
use Rattle.lu_proof_lawful.proofs.Preconditions.Guards.{In, Steps, Closes, Owes, EntryOk}
use Rattle.lu_proof_lawful.proofs.Preconditions.StoryGuards.{EntryOf}
use Rattle.lu_proof_lawful.proofs.Preconditions.Grown.{Noted, Grown}
use Rattle.lu_proof_lawful.proofs.Preconditions.Guards as guards
use Rattle.lu_proof_lawful.proofs.Preconditions.Lists.{self, turn, turn_more}
use Rattle.lu_proof_lawful.proofs.Preconditions.Parts.{known_is, life_is_of}
use Rattle.lu_proof_lawful.proofs.Preconditions.Turns.{covered_head, Settled, backs_none, marks_none, shows_none, noted_client}
use Rattle.lu_proof_lawful.proofs.Preconditions.Covers.{covered_turn}
use Rattle.lu_proof_lawful.proofs.Preconditions.ClientHandles.{Tied}
use Rattle.lu_proof_lawful.proofs.Preconditions.ClientLines.{AllThere}
use Rattle.lu_proof_lawful.proofs.Preconditions.CallStands.{Idle, AllIdle, CalmAt, Lasts, idle_lasts}

-- ---- a client that lives, in its turn, after lines that are allowed

pub record Good (head : table.Head) (c : ℕ) (at : At) (past : List Line) : Type 0 where
  pub grown : Grown (covered_head head) past
  pub covered : AllCovered past
  pub steps : Steps past at
  pub closes : Closes past at
  pub noted : Noted (covered_head head) past
  pub there : AllThere head.osts past
  pub alive : IsAlive (covered_head head) past c

-- ---- calls that are the same are idle still

-- where each slot has the call that it had
pub calls_same : (c : ℕ) (p q : List Line) → ((slot : ℕ) → call_at c slot q ≡ call_at c slot p) → calls_at c q ≡ calls_at c p
calls_same c p q same =
    ap (λ (x : Option Running). x ∷ call_at c 1 q ∷ call_at c 2 q ∷ call_at c 3 q ∷ []) (same 0)
    ∙ ap (λ (x : Option Running). call_at c 0 p ∷ x ∷ call_at c 2 q ∷ call_at c 3 q ∷ []) (same 1)
    ∙ ap (λ (x : Option Running). call_at c 0 p ∷ call_at c 1 p ∷ x ∷ call_at c 3 q ∷ []) (same 2)
    ∙ ap (λ (x : Option Running). call_at c 0 p ∷ call_at c 1 p ∷ call_at c 2 p ∷ x ∷ []) (same 3)

-- the life too, and each object that had a change has one still
pub idle_same : (c : ℕ) (p q : List Line) → ((slot : ℕ) → call_at c slot q ≡ call_at c slot p) → life_at c q ≡ life_at c p
    → Lasts (patches_at c p) (patches_at c q) → AllIdle c p → AllIdle c q
idle_same c p q same life lasts idle slot =
    subst (λ (who : Who). Idle who (patches_at c q) (calls_at c q) (call_at c slot q)) (sym life)
    (subst (λ (calls : List (Option Running)). Idle (life_at c p) (patches_at c q) calls (call_at c slot q)) (sym (calls_same c p q same))
    (subst (Idle (life_at c p) (patches_at c q) (calls_at c p)) (sym (same slot))
    (idle_lasts (life_at c p) (patches_at c p) (patches_at c q) (calls_at c p) (call_at c slot p) lasts (idle slot))))

-- nothing is owed, all calls wait, and handles are bound as calls say
pub record Rested (head : table.Head) (c : ℕ) (at : At) (past : List Line) : Type 0 where
  pub good : Good head c at past
  pub settled : Settled past
  pub idle : AllIdle c past
  pub handles : Tied c past

-- calls may look for their locks besides
pub record Calmed (head : table.Head) (c : ℕ) (at : At) (past : List Line) : Type 0 where
  pub good : Good head c at past
  pub settled : Settled past
  pub calm : (slot : ℕ) → CalmAt c past slot
  pub handles : Tied c past

-- between its turns no held lock that isn't pinned is marked either, where its target serves the life, but one to write under
pub record Between (c : ℕ) (past : List Line) : Type 0 where
  pub idle : AllIdle c past
  pub handles : Tied c past
  pub calm : (x : HeldLock) → In x (held_at c past) → standing_at c x.target.0 past ≡ Serving → x.pins ≡ 0 → (x.lock.ask.mode ≡ PW → ⊥)
      → x.marked ≡ false

pub record Ended (head : table.Head) (c : ℕ) (at : At) (past : List Line) : Type 0 where
  pub good : Good head c at past
  pub settled : Settled past
  pub between : Between c past

module _ (head : table.Head) (c : ℕ) (stamp : Stamp) where
  abbrev pub here : At
  here = turn stamp (Client c)

  abbrev pub the_head : Head
  the_head = covered_head head

  -- ---- one line more

  pub adds : (p : List Line) (e : Entry) → Good head c here p → Owes p here e → EntryOk p here (Client c) e
      → ((t : ℕ) → is_about t e ≡ true → EntryOf the_head (only t p) here (Client c) e) → IsCovered e → reads_death e ≡ false
      → Good head c here (line here e ∷ p)
  adds p e g owes ok of covered lives =
      record {
        grown = (
          record {
            steps = g.steps;
            closes = g.closes;
            backs = backs_none the_head p here e g.noted;
            marks =
                marks_none the_head p here e g.noted;
            shows = shows_none the_head p here e g.noted;
            lives = g.alive;
            owes = owes;
            ok = ok;
            of =
                of;
          },
          g.grown,
        );
        covered = (covered, g.covered);
        steps = inl refl;
        closes = inl refl;
        noted = noted_client the_head p stamp c e ok g.noted;
        there = (tt, g.there);
        alive = record { one = g.alive.one; alive = by (reads_death e) lives ∙ g.alive.alive };
      }
    where
      by : (r : Bool) → r ≡ false → on r (nat_eq c c) (death_after (is_dead c p) e) (is_dead c p) ≡ is_dead c p
      by true q = absurd (cc)
      by false q = refl

  -- what is about one target is said in its story
  pub at_one : (u : ℕ) (P : ℕ → Type 0) → P u → (t : ℕ) → nat_eq t u ≡ true → P t
  at_one u P q t e = subst P (sym (eqb-true t u e)) q

  pub at_zero : (P : ℕ → Type 0) → P 0 → (t : ℕ) → nat_eq t 0 ≡ true → P t
  at_zero P q t e = at_one 0 P q t e

  pub call_line : (slot : ℕ) (p : List Line) (e : Entry) → call_at c slot (line here e ∷ p) ≡ call_after slot (call_at c slot p) e
  call_line slot p e = ap (λ (own : Bool). on (reads_call e) own (call_after slot (call_at c slot p) e) (call_at c slot p)) (self c) ∙ by e
    where
      by : (e : Entry) → on (reads_call e) true (call_after slot (call_at c slot p) e) (call_at c slot p)
          ≡ call_after slot (call_at c slot p) e
      by Tick = refl
      by e = refl

  pub held_line : (p : List Line) (e : Entry) → held_at c (line here e ∷ p) ≡ held_after (held_at c p) e
  held_line p e = ap (λ (own : Bool). on (reads_held e) own (held_after (held_at c p) e) (held_at c p)) (self c) ∙ by e
    where
      by : (e : Entry) → on (reads_held e) true (held_after (held_at c p) e) (held_at c p) ≡ held_after (held_at c p) e
      by Tick = refl
      by e = refl

  -- a request in flight, as its life and the boot that it knows name it
  pub request_is : (t : ℕ) (p : List Line) (f : Flight) → request_of (life_at c p) (known_at c t p) f ≡ guards.request c (only t p) f
  request_is t p f = ap (λ (w : Who). request_of w (known_at c t p) f) (life_is_of c t p)
      ∙ ap (λ (b : ℕ). request_of (life_of c (only t p)) b f) (known_is c t p)

  -- ---- lines that a part of a row makes, which reads the client where the part begins

  abbrev pub Keeps : (P Q : List Line → Type 0) → (ClientState → List Entry) → Type 0
  Keeps P Q f = (p : List Line) → P p → AllCovered (with_turn here (f (client_of head c p)) p)
      → Q (with_turn here (f (client_of head c p)) p)

  pub followed : (es : List Entry) (next : ClientState → List Entry) (p : List Line)
      → with_turn here (follow es next (client_of head c p)) p ≡ with_turn here (next (client_of head c (with_turn here es p)))
      (with_turn here es p)
  followed es next p =
      turn_more here es (next (turn_of (client_of head c p) es)) p
      ∙ ap (λ (k : ClientState). with_turn here (next k) (with_turn here es p)) (sym (client_own (limits_of head) c p here es (self c)))

  pub keeps_more : (P Q R : List Line → Type 0) (f g : ClientState → List Entry) → Keeps P Q f → Keeps Q R g
      → Keeps P R (λ k. follow (f k) g k)
  keeps_more P Q R f g first second p start covered =
      let es = f (client_of head c p) in
      let p1 = with_turn here es p in
      let so = followed es g p in
      let rest = subst AllCovered so covered in
      subst R (sym so) (second p1 (first p start (covered_turn here (g (client_of head c p1)) p1 rest).1) rest)
