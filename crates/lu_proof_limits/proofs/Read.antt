-- A scenario that was read keeps the limits.
use Rattle.std.proofs.Common.{ℕ, ◌≤◌, List, [], ◌∷◌, sym, subst, lit≤, arith}
use Rattle.std.specs.Prelude.{fold, All}
use Rattle.std.proofs.lemmas.List.Elements.{All-head, All-tail, All-cons, All-nil}
use Rattle.lu_scene.specs.declared.words.Header.{Header}
use Rattle.lu_scene.specs.declared.words.Header.TheVariants as headers
use Rattle.lu_scene.specs.declared.scene.Head.{Head}
use Rattle.lu_scene.specs.declared.scene.Scene.{Scene}
use Rattle.lu_scene.specs.declared.scene.SceneLine.{SceneLine}
use Rattle.lu_scene.specs.Lines.{least_of, most_of, default_head, with_number}
use Rattle.lu_scene.specs.Grammar.{Setting, SettingFits, LineFits, AreLines, IsScene}
use Rattle.lu_scene.specs.Grammar as grammar
use Rattle.lu_spec_run.specs.Heads.{IsHead}
use Rattle.lu_spec_run.specs.Limits.{KeepsLimits}
use Rattle.lu_spec_run.specs.Scenarios.{head_of}

-- ---- heads

with_fine : (header : Header) (n : ℕ) (head : Head) → IsHead (head_of head) → least_of header ≤ n → n ≤ most_of header
    → IsHead (head_of (with_number header n head))
with_fine headers.Clients n head h least most =
    record {
      clients = least;
      most_clients = most;
      osts = h.osts;
      most_osts = h.most_osts;
      expire = h.expire;
      dirty = h.dirty;
      unused =
          h.unused;
      flight = h.flight;
      most_flight = h.most_flight;
    }
with_fine headers.Osts n head h least most =
    record {
      clients = h.clients;
      most_clients = h.most_clients;
      osts = least;
      most_osts = most;
      expire = h.expire;
      dirty = h.dirty;
      unused = h.unused;
      flight = h.flight;
      most_flight = h.most_flight;
    }
with_fine headers.Expire n head h least most =
    record {
      clients = h.clients;
      most_clients = h.most_clients;
      osts = h.osts;
      most_osts = h.most_osts;
      expire = least;
      dirty = h.dirty;
      unused = h.unused;
      flight = h.flight;
      most_flight = h.most_flight;
    }
with_fine headers.Dirty n head h least most =
    record {
      clients = h.clients;
      most_clients = h.most_clients;
      osts = h.osts;
      most_osts = h.most_osts;
      expire = h.expire;
      dirty =
          omega (arith, least);
      unused = h.unused;
      flight = h.flight;
      most_flight = h.most_flight;
    }
with_fine headers.Unused n head h least most =
    record {
      clients = h.clients;
      most_clients = h.most_clients;
      osts = h.osts;
      most_osts = h.most_osts;
      expire = h.expire;
      dirty = h.dirty;
      unused = least;
      flight = h.flight;
      most_flight = h.most_flight;
    }
with_fine headers.Rounds n head h least most =
    record {
      clients = h.clients;
      most_clients = h.most_clients;
      osts = h.osts;
      most_osts = h.most_osts;
      expire = h.expire;
      dirty = h.dirty;
      unused = h.unused;
      flight = h.flight;
      most_flight = h.most_flight;
    }
with_fine headers.Flight n head h least most =
    record {
      clients = h.clients;
      most_clients = h.most_clients;
      osts = h.osts;
      most_osts = h.most_osts;
      expire = h.expire;
      dirty = h.dirty;
      unused = h.unused;
      flight = least;
      most_flight = most;
    }

fold_fine : (settings : List Setting) (head : Head) → IsHead (head_of head) → All SettingFits settings
    → IsHead (head_of (fold (λ h s. with_number s.header s.number h) head settings))
fold_fine [] head h fit = h
fold_fine (s ∷ ss) head h fit =
    let here = All-head SettingFits s ss fit in
    fold_fine ss (with_number s.header s.number head) (with_fine s.header s.number head h here.0 here.1) (All-tail SettingFits s ss fit)

default_fine : IsHead (head_of default_head)
default_fine =
    record {
      clients = lit≤ tt;
      most_clients = lit≤ tt;
      osts = lit≤ tt;
      most_osts = lit≤ tt;
      expire = lit≤ tt;
      dirty = lit≤ tt;
      unused =
          lit≤ tt;
      flight = lit≤ tt;
      most_flight = lit≤ tt;
    }

-- ---- lines

all_fit : (head : Head) (rest : List (List (List ℕ))) (said : List SceneLine) → AreLines head rest said → All (LineFits head) said
all_fit head [] [] are = All-nil (LineFits head)
all_fit head [] (l ∷ ls) are = absurd are
all_fit head (w ∷ ws) [] are = All-nil (LineFits head)
all_fit head (w ∷ ws) (l ∷ ls) are = All-cons (LineFits head) l ls are.0.0 (all_fit head ws ls are.1)

-- what was read keeps the limits
pub keeps_limits : (text : List ℕ) (scene : Scene) → IsScene text scene → KeepsLimits scene
keeps_limits text scene is =
    let head = grammar.head_of is.0 in record {
      head = subst (λ (h : Head). IsHead (head_of h)) (sym is.2) (fold_fine is.0 default_head default_fine is.1.fit);
      lines = subst (λ (h : Head). All (LineFits h) scene.lines) (sym is.2) (all_fit head is.1.rest scene.lines is.1.lines_are);
    }
