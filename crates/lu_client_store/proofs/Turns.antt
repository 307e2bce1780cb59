-- A state after entries: one list after another, and each part by itself.
use Rattle.std.proofs.Common.{◌≡◌, List, [], ◌∷◌, ◌++◌, refl}
use Rattle.lu_spec_entries.specs.Words.{Entry}
use Rattle.lu_spec_client.specs.States.{store_turn}
use Rattle.lu_client_store.specs.Stored.{StoreState, stored_after, stored_turn, facts_turn}

pub turn_of_two : (s : StoreState) (es fs : List Entry) → stored_turn s (es ++ fs) ≡ stored_turn (stored_turn s es) fs
turn_of_two s [] fs = refl
turn_of_two s (e ∷ es) fs = turn_of_two (stored_after s e) es fs

pub turn_of_parts : (s : StoreState) (es : List Entry) → stored_turn s es
    ≡ record { unused = s.unused; facts = facts_turn s.facts es; store = store_turn s.store es }
turn_of_parts s [] = refl
turn_of_parts s (e ∷ es) = turn_of_parts (stored_after s e) es

pub turn_store : (s : StoreState) (es : List Entry) → (stored_turn s es).store ≡ store_turn s.store es
turn_store s [] = refl
turn_store s (e ∷ es) = turn_store (stored_after s e) es

pub turn_facts : (s : StoreState) (es : List Entry) → (stored_turn s es).facts ≡ facts_turn s.facts es
turn_facts s [] = refl
turn_facts s (e ∷ es) = turn_facts (stored_after s e) es

pub turn_unused : (s : StoreState) (es : List Entry) → (stored_turn s es).unused ≡ s.unused
turn_unused s [] = refl
turn_unused s (e ∷ es) = turn_unused (stored_after s e) es
