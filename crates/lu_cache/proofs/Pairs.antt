-- What `retain` leaves where its closure writes to each value and keeps all.
use Rattle.std.proofs.Common.{◌≡◌, Bool, true, List, [], ◌∷◌, map, ap, ◌∙◌, subst}
use Rattle.std.specs.Map.Calls.{RetainsPairs}

pub map_pairs : {F K X : Type 0} (T : F → K → X → Bool → X → F → Type 0) → (g : K → X → X) (f : F)
    → ((k : K) (v : X) (b : Bool) (w : X) (f' : F) → T f k v b w f' → (b ≡ true) × (w ≡ g k v) × (f' ≡ f)) → (es kept : List (K × X))
    → RetainsPairs T f es kept → kept ≡ map {A = K × X} {B = K × X} (λ e. (e.0, g e.0 e.1)) es
map_pairs T g f each [] kept h = h
map_pairs {F} {K} {X} T g f each (e ∷ es) kept (b, w, f2, rest, t, more, is) =
    let told = each e.0 e.1 b w f2 t in
    let more_f : RetainsPairs T f es rest = subst (λ (h : F). RetainsPairs T h es rest) told.2 more in
    is ∙ rw (told.0, told.1) (ap (λ (m : List (K × X)). (e.0, g e.0 e.1) ∷ m) (map_pairs T g f each es rest more_f))
