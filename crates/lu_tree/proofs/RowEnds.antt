-- What the rows come to, by where the walks come to.
use Rattle.std.proofs.Common.{◌≡◌, ℕ, List, [], ◌∷◌, ◌++◌, Option, Result, sym, ap, ◌∙◌}
use Rattle.lu_base.specs.declared.ids.Fid.{Fid}
use Rattle.lu_msg.specs.declared.answers.Errno.{Errno}
use Rattle.lu_spec_machine.specs.declared.child.Child.{Child}
use Rattle.lu_spec_machine.specs.Tree.{Tree}
use Rattle.lu_spec_machine.specs.Plan.{Plan, outcome, looked}
use Rattle.lu_spec_machine.specs.Table.{root, walk, to_last}
use Rattle.lu_tree.specs.declared.walks.Found.{Found}
use Rattle.lu_tree.specs.Walks.{reach, find_last, trail, looks}
use Rattle.lu_tree.proofs.Reached.{from, seen_from, walk_ends, walk_looks, last_ends, last_looks}

-- a row that ends at a last name
abbrev Last : Type 0
Last = List Child → Fid → List ℕ → Option Child → Plan

pub last_row : (t : Tree) (e : Errno) (path front : List (List ℕ)) (m : List ℕ) (r : Result Found Errno) (next : Last) → path ≡ front ++ m
    ∷ [] → r ≡ find_last t root front m
    → outcome t (to_last e path next) ≡ from r (λ x. outcome t (next (trail t root front) x.dir m x.child))
last_row t e path front m r next is at = ap (λ p. outcome t (to_last e p next)) is ∙ last_ends t e front m next
    ∙ ap (λ q. from q (λ x. outcome t (next (trail t root front) x.dir m x.child))) (sym at)

-- one that ends at what the whole path leads to
pub whole_row : (t : Tree) (path : List (List ℕ)) (r : Result Child Errno) (next : List Child → Plan) → r ≡ reach t root path
    → outcome t (walk root path next) ≡ from r (λ c. outcome t (next (trail t root path)))
whole_row t path r next at = walk_ends t root path next ∙ ap (λ q. from q (λ c. outcome t (next (trail t root path)))) (sym at)

pub last_row_looks : (t : Tree) (e : Errno) (path front : List (List ℕ)) (m : List ℕ) (r : Result Found Errno) (next : Last) → path ≡ front
    ++ m ∷ [] → r ≡ find_last t root front m
    → looked t (to_last e path next) ≡ looks t root path ++ seen_from r (λ x. looked t (next (trail t root front) x.dir m x.child))
last_row_looks t e path front m r next is at =
    ap (λ p. looked t (to_last e p next)) is ∙ last_looks t e front m next
    ∙ ap (λ q. looks t root (front ++ m ∷ []) ++ seen_from q (λ x. looked t (next (trail t root front) x.dir m x.child))) (sym at)
    ∙ ap (λ p. looks t root p ++ seen_from r (λ x. looked t (next (trail t root front) x.dir m x.child))) (sym is)

pub whole_row_looks : (t : Tree) (path : List (List ℕ)) (r : Result Child Errno) (next : List Child → Plan) → r ≡ reach t root path
    → looked t (walk root path next) ≡ looks t root path ++ seen_from r (λ c. looked t (next (trail t root path)))
whole_row_looks t path r next at = walk_looks t root path next ∙ ap
    (λ q. looks t root path ++ seen_from q (λ c. looked t (next (trail t root path)))) (sym at)
