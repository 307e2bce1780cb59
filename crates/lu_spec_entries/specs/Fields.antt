-- What a node knows, a field at a time. A step reads only its own field and the content of the entry, so that folds,
-- laws and code have the same one. A line of another node, and an entry that the field doesn't read, leave it.
use Rattle.std.specs.Prelude.{ℕ, Bool, true, false, List, [], ◌∷◌, ◌&&◌, if◌then◌else◌}
use Rattle.lu_spec_entries.specs.Words.{Entry, Line, is_client, is_target}
use Rattle.lu_spec_entries.specs.Concerns.{is_about}

-- reads: whether the entry is one that the field reads. own: whether the line is of the field's node
abbrev pub on : {A : Type 0} → Bool → Bool → A → A → A
on false own new old = old
on true own new old = if own then new else old

-- a field of a target
abbrev pub at_target : {A : Type 0} → (Entry → Bool) → (A → Entry → A) → A → ℕ → List Line → A
at_target reads after start t [] = start
at_target reads after start t (l ∷ past) = on (reads l.entry) (is_target t l.at.node) (after (at_target reads after start t past) l.entry)
    (at_target reads after start t past)

-- a field of a client
abbrev pub at_client : {A : Type 0} → (Entry → Bool) → (A → Entry → A) → A → ℕ → List Line → A
at_client reads after start c [] = start
at_client reads after start c (l ∷ past) = on (reads l.entry) (is_client c l.at.node) (after (at_client reads after start c past) l.entry)
    (at_client reads after start c past)

-- a field that a client has for each target: what a line says of a target, or of all
abbrev pub at_import : {A : Type 0} → (Entry → Bool) → (A → Entry → A) → A → ℕ → ℕ → List Line → A
at_import reads after start c t [] = start
at_import reads after start c t (l ∷ past) = on (reads l.entry) (is_client c l.at.node && is_about t l.entry)
    (after (at_import reads after start c t past) l.entry) (at_import reads after start c t past)
