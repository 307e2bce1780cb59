-- A field that the rows read at a client, entry by entry, is that of the story of one target.
use Rattle.std.proofs.Common.{◌≡◌, ℕ, ◌+◌, ◌<◌, ◌≤◌, Bool, true, false, List, [], ◌∷◌, refl, sym, subst, ap, ◌∙◌, arith}
use Rattle.std.proofs.lemmas.Bool.{cond-true, cond-false, eqb-true}
use Rattle.std.specs.Prelude.{nat_eq, ◌&&◌, if◌then◌else◌}
use Rattle.lu_base.specs.declared.ids.At.{At}
use Rattle.lu_base.specs.declared.ids.Node.{Node}
use Rattle.lu_base.specs.declared.ids.Node.TheVariants.{Client, Target}
use Rattle.lu_base.specs.declared.ids.Who.{Who}
use Rattle.lu_spec_entries.specs.Words.{Entry, Heard, Hold, Settles, Life, Queues, Flies, Knows, Line, line, is_client}
use Rattle.lu_spec_entries.specs.Concerns.{is_about, concerns, only}
use Rattle.lu_spec_entries.specs.Fields.{on, at_import}
use Rattle.lu_proof_lawful.specs.Covered.Calls.{reads_life, life_after, life_at}
use Rattle.lu_proof_lawful.specs.Covered.Imports.{reads_queue, queue_after, queue_at, reads_flights, flights_after, flights_at, reads_last}
use Rattle.lu_proof_lawful.specs.Covered.Imports.{last_after, last_at, reads_known, known_after, known_at, Kept, nothing_kept, reads_kept}
use Rattle.lu_proof_lawful.specs.Covered.Imports.{kept_after, kept_at}
use Rattle.lu_proof_lawful.specs.Covered.ClientStates.{queue_of, flights_of, last_of, known_of, life_of, standing_of, kept_of, is_own}
use Rattle.lu_spec_entries.specs.Words.{Serves, same_life}
use Rattle.lu_proof_lawful.specs.Covered.Calls.{first_life}
use Rattle.lu_proof_lawful.specs.Covered.Imports.{Serving, reads_standing, standing_after, standing_at}
use Rattle.lu_proof_lawful.specs.Covered.Heads.{Head}
use Rattle.lu_spec_client.specs.Recovery.{next_life}
use Rattle.lu_proof_lawful.proofs.Preconditions.StoryGuards.{EntryOf}
use Rattle.lu_proof_lawful.proofs.Preconditions.Grown.{Grown, GrownOf}
use Rattle.lu_proof_lawful.proofs.Preconditions.Lists.{self, turn, life_is, life_self, own_self}
use Rattle.lu_proof_lawful.proofs.Preconditions.Only.{grown_of}
pub use Rattle.lu_proof_lawful.proofs.Preconditions.ServerParts.{slot_is, lives_is, evicted_is, closed_is, up_is, replays_is, brought_is}
pub use Rattle.lu_proof_lawful.proofs.Preconditions.ServerParts.{words_is, wishes_is, boot_is, count_is, committed_is, tree_is, log_is}
pub use Rattle.lu_proof_lawful.proofs.Preconditions.ServerParts.{waiting_is, granted_is, cookie_is, called_is, objects_is, queued_is}
pub use Rattle.lu_proof_lawful.proofs.Preconditions.ServerParts.{glimpses_is, server_is}

-- ---- a field that a client has for each target

-- what the whole says of a line of a past in which nothing is about another target
record ImportField {A : Type 0} (c : ℕ) (reads : Entry → Bool) (after : A → Entry → A) (start : A) (whole : List Line → A) : Type 0 where
  starts : start ≡ whole []
  steps : (at : At) (e : Entry) (past : List Line) → reads e ≡ true → whole (line at e ∷ past)
      ≡ (if is_client c at.node then after (whole past) e else whole past)
  stays : (at : At) (e : Entry) (past : List Line) → reads e ≡ false → whole (line at e ∷ past) ≡ whole past

import_is : {A : Type 0} (c : ℕ) (reads : Entry → Bool) (after : A → Entry → A) (start : A) (whole : List Line → A)
    → ImportField c reads after start whole → (t : ℕ) (past : List Line) → at_import reads after start c t past ≡ whole (only t past)
import_is c reads after start whole f t [] = f.starts
import_is {A} c reads after start whole f t (l ∷ past) = by l.at.node (import_is c reads after start whole f t past)
  where
    P : List Line
    P = only t past

    G : A
    G = at_import reads after start c t past

    own : (node : Node) (r a b : Bool) → reads l.entry ≡ r → is_client c node ≡ a → G ≡ whole P → on r (a && b) (after G l.entry) G
        ≡ whole (if b then line (turn l.at.stamp node) l.entry ∷ P else P)
    own node true true true q o ih = ap (λ a. after a l.entry) ih
        ∙ sym (f.steps (turn l.at.stamp node) l.entry P q ∙ ap (λ (b : Bool). if b then after (whole P) l.entry else whole P) o)
    own node true false true q o ih = ih ∙ sym (f.steps (turn l.at.stamp node) l.entry P q
        ∙ ap (λ (b : Bool). if b then after (whole P) l.entry else whole P) o)
    own node false a true q o ih = ih ∙ sym (f.stays (turn l.at.stamp node) l.entry P q)
    own node true true false q o ih = ih
    own node true false false q o ih = ih
    own node false a false q o ih = ih

    by : (node : Node) → G ≡ whole P → on (reads l.entry) (is_client c node && is_about t l.entry) (after G l.entry) G
        ≡ whole (if concerns t node l.entry then line (turn l.at.stamp node) l.entry ∷ P else P)
    by (Client d) ih = own (Client d) (reads l.entry) (nat_eq c d) (is_about t l.entry) refl refl ih
    by (Target u) ih = own (Target u) (reads l.entry) false (nat_eq t u) refl refl ih

pub known_is : (c t : ℕ) (past : List Line) → known_at c t past ≡ known_of c (only t past)
known_is c t past = import_is c reads_known known_after 1 (known_of c) (record { starts = refl; steps = steps; stays = stays }) t past
  where
    steps : (at : At) (e : Entry) (p : List Line) → reads_known e ≡ true → known_of c (line at e ∷ p)
        ≡ (if is_client c at.node then known_after (known_of c p) e else known_of c p)
    steps at (Knows u b) p r = refl
    steps at e p r = absurd (cc)

    stays : (at : At) (e : Entry) (p : List Line) → reads_known e ≡ false → known_of c (line at e ∷ p) ≡ known_of c p
    stays at (Knows u b) p r = absurd (cc)
    stays at e p r = refl

pub standing_is : (c t : ℕ) (past : List Line) → standing_at c t past ≡ standing_of c (only t past)
standing_is c t past = import_is c reads_standing standing_after Serving (standing_of c)
    (record { starts = refl; steps = steps; stays = stays }) t past
  where
    steps : (at : At) (e : Entry) (p : List Line) → reads_standing e ≡ true → standing_of c (line at e ∷ p)
        ≡ (if is_client c at.node then standing_after (standing_of c p) e else standing_of c p)
    steps at (Knows u b) p r = refl
    steps at (Serves u b) p r = refl
    steps at (Life who) p r = refl
    steps at e p r = absurd (cc)

    stays : (at : At) (e : Entry) (p : List Line) → reads_standing e ≡ false → standing_of c (line at e ∷ p) ≡ standing_of c p
    stays at (Knows u b) p r = absurd (cc)
    stays at (Serves u b) p r = absurd (cc)
    stays at (Life who) p r = absurd (cc)
    stays at e p r = refl

-- ---- a client's life, which is about all targets

pub life_is_of : (c t : ℕ) (past : List Line) → life_at c past ≡ life_of c (only t past)
life_is_of c t [] = refl
life_is_of c t (l ∷ past) = by l.at.node l.entry (life_is_of c t past)
  where
    P : List Line
    P = only t past

    G : Who
    G = life_at c past

    -- another entry leaves it, whether or not its line concerns the target
    quiet : (node : Node) (e : Entry) (b : Bool) → G ≡ life_of c P → life_of c (line (turn l.at.stamp node) e ∷ P) ≡ life_of c P → G
        ≡ life_of c (if b then line (turn l.at.stamp node) e ∷ P else P)
    quiet node e true ih q = ih ∙ sym q
    quiet node e false ih q = ih

    own : (d : ℕ) (who : Who) (b : Bool) → nat_eq c d ≡ b → G ≡ life_of c P → (if b then who else G)
        ≡ life_of c (line (turn l.at.stamp (Client d)) (Life who) ∷ P)
    own d who true e ih = sym (ap (λ (b : Bool). if b then who else life_of c P) e)
    own d who false e ih = ih ∙ sym (ap (λ (b : Bool). if b then who else life_of c P) e)

    by : (node : Node) (e : Entry) → G ≡ life_of c P → on (reads_life e) (is_client c node) (life_after G e) G
        ≡ life_of c (if concerns t node e then line (turn l.at.stamp node) e ∷ P else P)
    by (Client d) (Life who) ih = own d who (nat_eq c d) refl ih
    by (Target u) (Life who) ih = quiet (Target u) (Life who) (nat_eq t u) ih refl
    by node e ih = quiet node e (concerns t node e) ih refl

-- ---- lives rise, in the story of one target

-- a new life is the next one
abbrev pub Rises : List Line → Node → Entry → Type 0
Rises past (Client c) (Life who) = who ≡ next_life (life_of c past)
Rises past node _ = Unit {0}

abbrev pub Rise : List Line → Type 0
Rise [] = Unit {0}
Rise (l ∷ past) = Rises past l.at.node l.entry × Rise past

pub rise_of : (head : Head) (past : List Line) → GrownOf head past → Rise past
rise_of head [] g = tt
rise_of head (l ∷ past) g = (by l.at.node l.entry g.0, rise_of head past g.3)
  where
    by : (node : Node) (e : Entry) → EntryOf head past l.at node e → Rises past node e
    by (Client c) (Life who) ok = ok.next
    by node e ok = tt

pub life_client : (c : ℕ) (past : List Line) → Rise past → (life_of c past).client ≡ c
life_client c [] r = refl
life_client c (l ∷ past) r = by l.at.node l.entry r.0 (life_client c past r.1)
  where
    own : (d : ℕ) (who : Who) (b : Bool) → nat_eq c d ≡ b → who ≡ next_life (life_of d past) → (life_of c past).client ≡ c
        → (if b then who else life_of c past).client ≡ c
    own d who true e next ih = ap (λ (w : Who). w.client) next ∙ ap (λ (u : ℕ). (life_of u past).client) (sym (eqb-true c d e)) ∙ ih
    own d who false e next ih = ih

    by : (node : Node) (e : Entry) → Rises past node e → (life_of c past).client ≡ c
        → (life_of c (line (turn l.at.stamp node) e ∷ past)).client ≡ c
    by (Client d) (Life who) next ih = own d who (nat_eq c d) refl next ih
    by (Target u) (Life who) next ih = ih
    by node e next ih = ih

pub life_up : (c : ℕ) (l : Line) (past : List Line) → Rises past l.at.node l.entry → (life_of c past).life ≤ (life_of c (l ∷ past)).life
life_up c l past r = by l.at.node l.entry r
  where
    own : (d : ℕ) (who : Who) (b : Bool) → nat_eq c d ≡ b → who ≡ next_life (life_of d past)
        → (life_of c past).life ≤ (if b then who else life_of c past).life
    own d who true e next =
        let same : (life_of d past).life ≡ (life_of c past).life = ap (λ (u : ℕ). (life_of u past).life) (sym (eqb-true c d e)) in
        let more : who.life ≡ (life_of d past).life + 1 = ap (λ (w : Who). w.life) next in
        omega (arith, same, more)
    own d who false e next = omega arith

    by : (node : Node) (e : Entry) → Rises past node e → (life_of c past).life ≤ (life_of c (line (turn l.at.stamp node) e ∷ past)).life
    by (Client d) (Life who) next = own d who (nat_eq c d) refl next
    by (Target u) (Life who) next = omega arith
    by node e next = omega arith

-- no line is of a life that hasn't begun
pub not_own : (who : Who) (past : List Line) (node : Node) → Rise past → (life_of who.client past).life < who.life → is_own who past node
    ≡ false
not_own who past (Target t) r lt = refl
not_own who past (Client d) r lt = by (same_life who (life_of d past)) refl
  where
    by : (b : Bool) → same_life who (life_of d past) ≡ b → b ≡ false
    by false e = refl
    by true e =
        let own = life_is who (life_of d past) e in
        let client : who.client ≡ d = ap (λ (w : Who). w.client) own ∙ life_client d past r in
        let low : (life_of d past).life < who.life = subst (λ (u : ℕ). (life_of u past).life < who.life) client lt in
        let same : who.life ≡ (life_of d past).life = ap (λ (w : Who). w.life) own in
        absurd (omega (arith, low, same))

-- nor of another client's
pub not_other : (c d : ℕ) (past : List Line) → Rise past → nat_eq c d ≡ false → is_own (life_of c past) past (Client d) ≡ false
not_other c d past r n = by (same_life (life_of c past) (life_of d past)) refl
  where
    by : (b : Bool) → same_life (life_of c past) (life_of d past) ≡ b → b ≡ false
    by false e = refl
    by true e =
        let own = life_is (life_of c past) (life_of d past) e in
        let same : c ≡ d = sym (life_client c past r) ∙ ap (λ (w : Who). w.client) own ∙ life_client d past r in
        let q : nat_eq c d ≡ true = ap (nat_eq c) (sym same) ∙ self c in
        absurd (cc)

-- ---- a field that a client's life has for each target: a new one begins at the start

-- what the whole says of a life, of a past in which nothing is about another target
record LifeField {A : Type 0} (reads : Entry → Bool) (after : A → Entry → A) (start : A) (whole : Who → List Line → A) : Type 0 where
  starts : (who : Who) → whole who [] ≡ start
  steps : (who : Who) (at : At) (e : Entry) (past : List Line) → reads e ≡ true → reads_life e ≡ false → whole who (line at e ∷ past)
      ≡ (if is_own who past at.node then after (whole who past) e else whole who past)
  stays : (who : Who) (at : At) (e : Entry) (past : List Line) → reads e ≡ false → whole who (line at e ∷ past) ≡ whole who past
  keeps : (who next : Who) (at : At) (past : List Line) → (is_client who.client at.node && same_life who next) ≡ false
      → whole who (line at (Life next) ∷ past) ≡ whole who past
  begins : (who : Who) (at : At) (past : List Line) → (is_client who.client at.node && same_life who who) ≡ true → whole who past ≡ start
      → whole who (line at (Life who) ∷ past) ≡ after (whole (life_of who.client past) past) (Life who)
  reads_new : (who : Who) → reads (Life who) ≡ true

module _ {A : Type 0} (reads : Entry → Bool) (after : A → Entry → A) (start : A) (whole : Who → List Line → A)
    (f : LifeField reads after start whole) where
  -- a line doesn't begin that life
  abbrev Apart : Who → Node → Entry → Type 0
  Apart who node (Life next) = (is_client who.client node && same_life who next) ≡ false
  Apart who node _ = Unit {0}

  -- one that isn't of that life, nor begins it, leaves it
  other_line : (who : Who) (at : At) (e : Entry) (past : List Line) → is_own who past at.node ≡ false → Apart who at.node e
      → whole who (line at e ∷ past) ≡ whole who past
  other_line who at e past o a = by e (reads e) refl a
    where
      by : (e : Entry) (r : Bool) → reads e ≡ r → Apart who at.node e → whole who (line at e ∷ past) ≡ whole who past
      by (Life next) r q a = f.keeps who next at past a
      by e true q a = f.steps who at e past q refl ∙ ap (λ (b : Bool). if b then after (whole who past) e else whole who past) o
      by e false q a = f.stays who at e past q

  -- after a line before that life it hasn't begun
  apart_new : (who : Who) (l : Line) (past : List Line) → (life_of who.client (l ∷ past)).life < who.life → Apart who l.at.node l.entry
  apart_new who l past lt = by l.at.node l.entry lt
    where
      test : (d : ℕ) (next : Who) (a b : Bool) → same_life who next ≡ b → (if a then next else life_of who.client past).life < who.life
          → (a && b) ≡ false
      test d next true true e lt = let same : who.life ≡ next.life = ap (λ (w : Who). w.life) (life_is who next e) in absurd (omega arith)
      test d next true false e lt = refl
      test d next false b e lt = refl

      by : (node : Node) (e : Entry) → (life_of who.client (line (turn l.at.stamp node) e ∷ past)).life < who.life → Apart who node e
      by (Client d) (Life next) lt = test d next (nat_eq who.client d) (same_life who next) refl lt
      by (Target u) (Life next) lt = refl
      by node e lt = tt

  -- a life that hasn't begun has nothing
  fresh : (who : Who) (past : List Line) → Rise past → (life_of who.client past).life < who.life → whole who past ≡ start
  fresh who [] r lt = f.starts who
  fresh who (l ∷ past) r lt = other_line who l.at l.entry past (not_own who past l.at.node r.1 low) (apart_new who l past lt)
      ∙ fresh who past r.1 low
    where
      low : (life_of who.client past).life < who.life
      low = let up = life_up who.client l past r.0 in omega (arith, up, lt)

  life_field_is : (c t : ℕ) (past : List Line) → Rise (only t past) → at_import reads after start c t past
      ≡ whole (life_of c (only t past)) (only t past)
  life_field_is c t [] r = sym (f.starts (first_life c))
  life_field_is c t (l ∷ past) r = by l.at.node l.entry (λ q. life_field_is c t past q) r
    where
      P : List Line
      P = only t past

      G : A
      G = at_import reads after start c t past

      L : Who
      L = life_of c P

      X : Node → Entry → Line
      X node e = line (turn l.at.stamp node) e

      Goal : Node → Entry → Type 0
      Goal node e =
          Rise (if concerns t node e then X node e ∷ P else P)
          → on (reads e) (is_client c node && is_about t e) (after G e) G
          ≡ whole (life_of c (if concerns t node e then X node e ∷ P else P)) (if concerns t node e then X node e ∷ P else P)

      same : (node : Node) (e : Entry) → is_client c node ≡ false → life_of c (X node e ∷ P) ≡ L
      same node (Life next) o = ap (λ (b : Bool). if b then next else L) o
      same node e o = refl

      past_rises : (b : Bool) (x : Line) → Rise (if b then x ∷ P else P) → Rise P
      past_rises true x r = r.1
      past_rises false x r = r

      -- a line of another node
      -- nor begins this client's life
      apart : (node : Node) (e : Entry) → is_client c node ≡ false → Rise P → Apart L node e
      apart node (Life next) o rises = ap (λ (u : ℕ). is_client u node && same_life L next) (life_client c P rises)
          ∙ ap (λ (b : Bool). b && same_life L next) o
      apart node e o rises = tt

      other : (node : Node) (e : Entry) → is_client c node ≡ false → (Rise P → is_own L P node ≡ false) → (Rise P → G ≡ whole L P)
          → Goal node e
      other node e o not ih r =
          ap (λ (b : Bool). on (reads e) (b && is_about t e) (after G e) G) o
          ∙ left (reads e)
          ∙ quiet (concerns t node e) r
        where
          left : (b : Bool) → on b false (after G e) G ≡ G
          left true = refl
          left false = refl

          quiet : (b : Bool) → Rise (if b then X node e ∷ P else P) → G
              ≡ whole (life_of c (if b then X node e ∷ P else P)) (if b then X node e ∷ P else P)
          quiet true r = ih r.1 ∙ sym (ap (λ (who : Who). whole who (X node e ∷ P)) (same node e o)
              ∙ other_line L (turn l.at.stamp node) e P (not r.1) (apart node e o r.1))
          quiet false r = ih r

      plain : (e : Entry) → reads_life e ≡ false → life_of c (X (Client c) e ∷ P) ≡ L → (Rise P → G ≡ whole L P) → Goal (Client c) e
      plain e new stays ih r = cases (reads e) (is_about t e) refl r
        where
          cases : (v b : Bool) → reads e ≡ v → Rise (if b then X (Client c) e ∷ P else P)
              → on v (nat_eq c c && b) (after G e) G ≡ whole (life_of c (if b then X (Client c) e ∷ P else P))
              (if b then X (Client c) e ∷ P else P)
          cases true true q r =
              ap (λ (x : Bool). on true (x && true) (after G e) G) (self c)
              ∙ ap (λ (a : A). after a e) (ih r.1)
              ∙ sym (ap (λ (who : Who). whole who (X (Client c) e ∷ P)) stays
              ∙ f.steps L (turn l.at.stamp (Client c)) e P q new
              ∙ ap (λ (x : Bool). if x then after (whole L P) e else whole L P) (own_self P c))
          cases false true q r = ih r.1 ∙ sym (ap (λ (who : Who). whole who (X (Client c) e ∷ P)) stays
              ∙ f.stays L (turn l.at.stamp (Client c)) e P q)
          cases true false q r = ap (λ (x : Bool). on true (x && false) (after G e) G) (self c) ∙ ih r
          cases false false q r = ih r

      mine : (e : Entry) → (Rise P → G ≡ whole L P) → Goal (Client c) e
      mine (Life next) ih r =
          let client : next.client ≡ c = ap (λ (w : Who). w.client) r.0 ∙ life_client c P r.1 in
          let same : (life_of next.client P).life ≡ (life_of c P).life = ap (λ (u : ℕ). (life_of u P).life) client in
          let more : next.life ≡ (life_of c P).life + 1 = ap (λ (w : Who). w.life) r.0 in
          ap (λ (x : Bool). on x (nat_eq c c && true) (after G (Life next)) G) (f.reads_new next)
          ∙ ap (λ (x : Bool). on true (x && true) (after G (Life next)) G) (self c)
          ∙ ap (λ (a : A). after a (Life next)) (ih r.1 ∙ ap (λ (u : ℕ). whole (life_of u P) P) (sym client))
          ∙ sym (ap (λ (x : Bool). whole (if x then next else L) (X (Client c) (Life next) ∷ P)) (self c)
          ∙ f.begins next (turn l.at.stamp (Client c)) P (ap (λ (u : ℕ). nat_eq u c && same_life next next) client
          ∙ ap (λ (x : Bool). x && same_life next next) (self c) ∙ life_self next) (fresh next P r.1 (omega (arith, same, more))))
      mine e ih r = plain e refl refl ih r

      by : (node : Node) (e : Entry) → (Rise P → G ≡ whole L P) → Goal node e
      by (Target u) e ih = other (Target u) e refl (λ q. refl) ih
      by (Client d) e ih = own (nat_eq c d) refl
        where
          own : (b : Bool) → nat_eq c d ≡ b → Goal (Client d) e
          own true q = subst (λ (u : ℕ). Goal (Client u) e) (eqb-true c d q) (mine e ih)
          own false q = other (Client d) e q (λ rises. not_other c d P rises q) ih

queue_field : LifeField reads_queue queue_after [] queue_of
queue_field = record {
  starts = λ who. refl;
  steps = steps;
  stays = stays;
  keeps = λ who next at p q. refl;
  begins = λ who at p q n. n;
  reads_new = λ who. refl;
}
  where
    steps : (who : Who) (at : At) (e : Entry) (p : List Line) → reads_queue e ≡ true → reads_life e ≡ false → queue_of who (line at e ∷ p)
        ≡ (if is_own who p at.node then queue_after (queue_of who p) e else queue_of who p)
    steps who at (Queues u q) p r n = refl
    steps who at (Flies u g) p r n = refl
    steps who at (Life w) p r n = absurd (cc)
    steps who at e p r n = absurd (cc)

    stays : (who : Who) (at : At) (e : Entry) (p : List Line) → reads_queue e ≡ false → queue_of who (line at e ∷ p) ≡ queue_of who p
    stays who at (Queues u q) p r = absurd (cc)
    stays who at (Flies u g) p r = absurd (cc)
    stays who at e p r = refl

flights_field : LifeField reads_flights flights_after [] flights_of
flights_field = record {
  starts = λ who. refl;
  steps = steps;
  stays = stays;
  keeps = λ who next at p q. refl;
  begins = λ who at p q n. n;
  reads_new = λ who. refl;
}
  where
    steps : (who : Who) (at : At) (e : Entry) (p : List Line) → reads_flights e ≡ true → reads_life e ≡ false
        → flights_of who (line at e ∷ p) ≡ (if is_own who p at.node then flights_after (flights_of who p) e else flights_of who p)
    steps who at (Flies u g) p r n = refl
    steps who at (Heard u g k) p r n = refl
    steps who at (Life w) p r n = absurd (cc)
    steps who at e p r n = absurd (cc)

    stays : (who : Who) (at : At) (e : Entry) (p : List Line) → reads_flights e ≡ false → flights_of who (line at e ∷ p) ≡ flights_of who p
    stays who at (Flies u g) p r = absurd (cc)
    stays who at (Heard u g k) p r = absurd (cc)
    stays who at e p r = refl

last_field : LifeField reads_last last_after 0 last_of
last_field = record {
  starts = λ who. refl;
  steps = steps;
  stays = stays;
  keeps = λ who next at p q. refl;
  begins = λ who at p q n. n;
  reads_new = λ who. refl;
}
  where
    steps : (who : Who) (at : At) (e : Entry) (p : List Line) → reads_last e ≡ true → reads_life e ≡ false → last_of who (line at e ∷ p)
        ≡ (if is_own who p at.node then last_after (last_of who p) e else last_of who p)
    steps who at (Flies u g) p r n = refl
    steps who at (Life w) p r n = absurd (cc)
    steps who at e p r n = absurd (cc)

    stays : (who : Who) (at : At) (e : Entry) (p : List Line) → reads_last e ≡ false → last_of who (line at e ∷ p) ≡ last_of who p
    stays who at (Flies u g) p r = absurd (cc)
    stays who at e p r = refl

kept_field : LifeField reads_kept kept_after nothing_kept kept_of
kept_field = record { starts = λ who. refl; steps = steps; stays = stays; keeps = keeps; begins = begins; reads_new = λ who. refl }
  where
    told : Who → List Line → Kept
    told who p = record nothing_kept { committed = (kept_of (life_of who.client p) p).committed }

    steps : (who : Who) (at : At) (e : Entry) (p : List Line) → reads_kept e ≡ true → reads_life e ≡ false → kept_of who (line at e ∷ p)
        ≡ (if is_own who p at.node then kept_after (kept_of who p) e else kept_of who p)
    steps who at (Heard u g k) p r n = refl
    steps who at (Hold u lock marked size seen) p r n = refl
    steps who at (Settles u to) p r n = refl
    steps who at (Life w) p r n = absurd (cc)
    steps who at e p r n = absurd (cc)

    stays : (who : Who) (at : At) (e : Entry) (p : List Line) → reads_kept e ≡ false → kept_of who (line at e ∷ p) ≡ kept_of who p
    stays who at (Heard u g k) p r = absurd (cc)
    stays who at (Hold u lock marked size seen) p r = absurd (cc)
    stays who at (Settles u to) p r = absurd (cc)
    stays who at (Life w) p r = absurd (cc)
    stays who at e p r = refl

    keeps : (who next : Who) (at : At) (p : List Line) → (is_client who.client at.node && same_life who next) ≡ false
        → kept_of who (line at (Life next) ∷ p) ≡ kept_of who p
    keeps who next at p q = cond-false (is_client who.client at.node && same_life who next) (told who p) (kept_of who p) q

    begins : (who : Who) (at : At) (p : List Line) → (is_client who.client at.node && same_life who who) ≡ true → kept_of who p
        ≡ nothing_kept → kept_of who (line at (Life who) ∷ p) ≡ kept_after (kept_of (life_of who.client p) p) (Life who)
    begins who at p q n = cond-true (is_client who.client at.node && same_life who who) (told who p) (kept_of who p) q

-- in the story of a target, and with the client's life by the whole past
pub queue_now : (head : Head) (c t : ℕ) (past : List Line) → Grown head past → queue_at c t past
    ≡ queue_of (life_of c (only t past)) (only t past)
queue_now head c t past g = life_field_is reads_queue queue_after [] queue_of queue_field c t past
    (rise_of head (only t past) (grown_of head t past g))

pub flights_now : (head : Head) (c t : ℕ) (past : List Line) → Grown head past → flights_at c t past
    ≡ flights_of (life_of c (only t past)) (only t past)
flights_now head c t past g = life_field_is reads_flights flights_after [] flights_of flights_field c t past
    (rise_of head (only t past) (grown_of head t past g))

pub flights_is : (head : Head) (c t : ℕ) (past : List Line) → Grown head past → flights_at c t past
    ≡ flights_of (life_at c past) (only t past)
flights_is head c t past g = flights_now head c t past g ∙ ap (λ (who : Who). flights_of who (only t past)) (sym (life_is_of c t past))

pub last_now : (head : Head) (c t : ℕ) (past : List Line) → Grown head past → last_at c t past
    ≡ last_of (life_of c (only t past)) (only t past)
last_now head c t past g = life_field_is reads_last last_after 0 last_of last_field c t past
    (rise_of head (only t past) (grown_of head t past g))

pub kept_now : (head : Head) (c t : ℕ) (past : List Line) → Grown head past → kept_at c t past
    ≡ kept_of (life_of c (only t past)) (only t past)
kept_now head c t past g = life_field_is reads_kept kept_after nothing_kept kept_of kept_field c t past
    (rise_of head (only t past) (grown_of head t past g))

pub kept_is : (head : Head) (c t : ℕ) (past : List Line) → Grown head past → kept_at c t past ≡ kept_of (life_at c past) (only t past)
kept_is head c t past g = kept_now head c t past g ∙ ap (λ (who : Who). kept_of who (only t past)) (sym (life_is_of c t past))
