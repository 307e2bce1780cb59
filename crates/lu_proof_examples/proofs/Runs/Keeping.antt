-- What the evidence that a scene keeps the limits is made of: its paths, its head, its lines. And what it comes to in some steps is lawful.
use Rattle.std.proofs.Common.{◌≡◌, ℕ, zero, suc, ◌≤◌, Bool, true, false, List, [], ◌∷◌, refl, sym, ◌∙◌, ap, lit≤}
use Rattle.std.specs.Prelude.{codes, ◌==◌, ◌&&◌, not, length, All}
use Rattle.std.specs.List.{list_all}
use Rattle.std.proofs.lemmas.Bool.{and_parts}
use Rattle.std.proofs.lemmas.List.Elements.{All-nil, All-cons}
use Rattle.std.proofs.lemmas.List.Sums.{AllPass-from_list_all}
use Rattle.lu_base.specs.Texts.{is_name_byte, path_text, IsName, IsPath}
use Rattle.lu_scene.specs.declared.scene.Scene.{Scene}
use Rattle.lu_scene.specs.declared.scene.SceneLine.{SceneLine}
use Rattle.lu_spec_run.specs.Heads.{IsHead}
use Rattle.lu_spec_run.specs.Runs.{has_failed}
use Rattle.lu_spec_run.specs.Scenarios.{Config, Next, Goes, Ends, Stops, Fails, head_of, past_of, next, start, steps, Leads, here, more}
use Rattle.lu_spec_laws.specs.Lawful.{Lawful}
use Rattle.lu_proof_scenes.proofs.Stated.{scene_lawful}
use Rattle.lu_spec_run.specs.Limits.{KeepsLimits}
use Rattle.lu_proof_examples.proofs.Runs.Words.{with_head, after, trace_after, never}

-- ---- paths

-- a name begins otherwise than with a full stop
abbrev begins : List ℕ → Bool
begins [] = false
begins (byte ∷ name) = not (byte == 46)

abbrev is_plain : List ℕ → Bool
is_plain name = list_all is_name_byte name && begins name

plain_name : (name : List ℕ) → is_plain name ≡ true → IsName name
plain_name name is =
    let both = and_parts (list_all is_name_byte name) (begins name) is in
    record {
      filled = λ e. let bad : true ≡ false = sym both.1 ∙ ap begins e in absurd cc;
      bytes = AllPass-from_list_all is_name_byte name both.0;
      not_here = λ e. let bad : true ≡ false = sym both.1 ∙ ap begins e in absurd cc;
      not_above = λ e. let bad : true ≡ false = sym both.1 ∙ ap begins e in absurd cc;
    }

plain_names : (names : List (List ℕ)) → list_all is_plain names ≡ true → All IsName names
plain_names [] is = All-nil IsName
plain_names (name ∷ names) is =
    let both = and_parts (is_plain name) (list_all is_plain names) is in
    All-cons IsName name names (plain_name name both.0) (plain_names names both.1)

pub plain_path : (names : List (List ℕ)) → length names ≤ 32 → length (path_text names) ≤ 1024 → list_all is_plain names ≡ true
    → IsPath names
plain_path names few short plain = record { are_names = (few, plain_names names plain); bytes = short }

pub is_path : IsPath (codes "a" ∷ [])
is_path = plain_path (codes "a" ∷ []) (lit≤ tt) (lit≤ tt) refl

pub is_path_b : IsPath (codes "b" ∷ [])
is_path_b = plain_path (codes "b" ∷ []) (lit≤ tt) (lit≤ tt) refl

pub is_path_f : IsPath (codes "f" ∷ [])
is_path_f = plain_path (codes "f" ∷ []) (lit≤ tt) (lit≤ tt) refl

pub is_root : IsPath []
is_root = plain_path [] (lit≤ tt) (lit≤ tt) refl

-- ---- heads

pub is_head : (clients flight : ℕ) → 1 ≤ clients → clients ≤ 16 → 1 ≤ flight → flight ≤ 8 → IsHead (head_of (with_head clients flight))
is_head clients flight one most one_sent most_sent =
    record {
      clients = one;
      most_clients = most;
      osts = lit≤ tt;
      most_osts = lit≤ tt;
      expire = lit≤ tt;
      dirty = lit≤ tt;
      unused = lit≤ tt;
      flight = one_sent;
      most_flight = most_sent;
    }

-- where a lock that is called back expires after two ticks
pub is_short : IsHead (head_of (record (with_head 2 1) { expire = 2 }))
is_short =
    record {
      clients = lit≤ tt;
      most_clients = lit≤ tt;
      osts = lit≤ tt;
      most_osts = lit≤ tt;
      expire = lit≤ tt;
      dirty = lit≤ tt;
      unused = lit≤ tt;
      flight = lit≤ tt;
      most_flight = lit≤ tt;
    }

-- ---- lines

-- evidence for each of some lines
abbrev pub Each : (SceneLine → Type 0) → List SceneLine → Type 0
Each P [] = Unit {0}
Each P (line ∷ lines) = P line × Each P lines

pub all_of : (P : SceneLine → Type 0) (lines : List SceneLine) → Each P lines → All P lines
all_of P [] each = All-nil P
all_of P (line ∷ lines) each = All-cons P line lines each.0 (all_of P lines each.1)

-- ---- what a scene comes to in some steps, it leads to

leads_on : (scene : Scene) (n : ℕ) (c : Config) → Leads (head_of scene.head) never (start (head_of scene.head) never scene) c
    → Leads (head_of scene.head) never (start (head_of scene.head) never scene) (steps (head_of scene.head) never n c)
leads_on scene zero c so_far = so_far
leads_on scene (suc n) c so_far = by (leads_on scene n) (next (head_of scene.head) never c) refl
  where
    by : ((d : Config) → Leads (head_of scene.head) never (start (head_of scene.head) never scene) d
        → Leads (head_of scene.head) never (start (head_of scene.head) never scene) (steps (head_of scene.head) never n d))
        → (x : Next) → next (head_of scene.head) never c ≡ x
        → Leads (head_of scene.head) never (start (head_of scene.head) never scene)
        (elim x [ Goes d ↦ steps (head_of scene.head) never n d | _ ↦ c ])
    by rest (Goes d) is = rest d (more _ c d so_far is)
    by rest Ends is = so_far
    by rest Stops is = so_far
    by rest Fails is = so_far

pub leads : (scene : Scene) (n : ℕ) → Leads (head_of scene.head) never (start (head_of scene.head) never scene) (after n scene)
leads scene n = leads_on scene n (start (head_of scene.head) never scene) (here _)

-- ---- so it is lawful: no disk fails in it

pub lawful : (scene : Scene) (n : ℕ) → KeepsLimits scene → has_failed (past_of (after n scene)) ≡ false
    → Lawful scene.head.osts (trace_after n scene)
lawful scene n limits unfailed = scene_lawful scene limits never (after n scene) (leads scene n) unfailed
