-- The handles as a client keeps them.
use Rattle.std.proofs.Common.{◌≡◌, ℕ, ◌+◌, ◌<◌, ◌==◌, Bool, true, false, not, if◌then◌else◌, List, [], ◌∷◌, length, drop, get_or, map}
use Rattle.std.proofs.Common.{filter, Some, refl, ap, ◌∙◌}
use Rattle.std.proofs.lemmas.List.{drop_more}
use Rattle.lu_spec_client.specs.Calls.{Bound, unbound, file_of}
use Rattle.lu_call.specs.declared.nexts.Binding.{Binding}
use Rattle.lu_client.specs.Clients.{bound_of}

-- those that stay bound
pub unbound_shown : (h : ℕ) (handles : List Binding) → map bound_of (filter (λ (b : Binding). not (b.handle == h)) handles)
    ≡ unbound h (map bound_of handles)
unbound_shown h [] = refl
unbound_shown h (b ∷ handles) = by (b.handle == h) (unbound_shown h handles) where
  by : (here : Bool) → map bound_of (filter (λ (b : Binding). not (b.handle == h)) handles) ≡ unbound h (map bound_of handles)
      → map bound_of (if not here then b ∷ filter (λ (b : Binding). not (b.handle == h)) handles
      else filter (λ (b : Binding). not (b.handle == h)) handles)
      ≡ (if not here then bound_of b ∷ unbound h (map bound_of handles) else unbound h (map bound_of handles))
  by true rest = rest
  by false rest = ap (λ (bs : List Bound). bound_of b ∷ bs) rest

-- the file of a handle is that of the first that is bound by its name
pub file_here : (h n : ℕ) (handles : List Binding) (d : Binding) → n < length handles → ((get_or handles n d).handle == h) ≡ true
    → file_of h (map bound_of (drop n handles)) ≡ Some (bound_of (get_or handles n d)).file
file_here h n handles d inside here =
    ap (λ (bs : List Binding). file_of h (map bound_of bs)) (drop_more handles n d inside) ∙ rw here refl

pub file_past : (h n : ℕ) (handles : List Binding) (d : Binding) → n < length handles → ((get_or handles n d).handle == h) ≡ false
    → file_of h (map bound_of (drop n handles)) ≡ file_of h (map bound_of (drop (n + 1) handles))
file_past h n handles d inside other =
    ap (λ (bs : List Binding). file_of h (map bound_of bs)) (drop_more handles n d inside) ∙ rw other refl
