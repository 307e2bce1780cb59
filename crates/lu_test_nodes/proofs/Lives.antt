-- The first lives of one client more.
use Rattle.std.proofs.Common.{◌≡◌, ℕ, zero, suc, ◌+◌, List, [], ◌∷◌, ◌++◌, sym, ap, ◌∙◌, arith}
use Rattle.lu_base.specs.declared.ids.Who.{Who}
use Rattle.lu_spec_target.specs.States.{lives_from}

abbrev first_life : ℕ → Who
first_life client = record { client = client; life = 1 }

and_none : (client : ℕ) → client ≡ client + 0
and_none client = omega arith

further : (client more : ℕ) → client + 1 + more ≡ client + suc more
further client more = omega arith

one_more : (client more : ℕ) → lives_from client (suc more) ≡ lives_from client more ++ first_life (client + more) ∷ []
one_more client zero = ap (λ (c : ℕ). first_life c ∷ []) (and_none client)
one_more client (suc more) =
    ap (λ (rest : List Who). first_life client ∷ rest)
    (one_more (client + 1) more ∙ ap (λ (c : ℕ). lives_from (client + 1) more ++ first_life c ∷ []) (further client more))

next : (clients : ℕ) → clients + 1 ≡ suc clients
next clients = omega arith

none_and : (clients : ℕ) → 0 + clients ≡ clients
none_and clients = omega arith

pub one_life_more : (clients : ℕ) → lives_from 0 clients ++ record { client = clients; life = 1 } ∷ [] ≡ lives_from 0 (clients + 1)
one_life_more clients =
    sym (ap (lives_from 0) (next clients) ∙ (one_more 0 clients
    ∙ ap (λ (c : ℕ). lives_from 0 clients ++ first_life c ∷ []) (none_and clients)))
