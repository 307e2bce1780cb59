-- What the messages that a target took ask for.
use Rattle.std.proofs.Common.{◌≡◌, ℕ, ◌+◌, ◌<◌, Bool, Option, Some, None, List, [], ◌∷◌, ◌++◌, length, take, drop, get_or, refl, ap, sym}
use Rattle.std.proofs.Common.{◌∙◌, add-one}
use Rattle.std.specs.Prelude.{find, map, reverse}
use Rattle.std.specs.Option.{option_to_list}
use Rattle.std.proofs.lemmas.List.{reverse-append, map-append, append_assoc, take-append-drop}
use Rattle.std.proofs.Math.Seq.{drop-cons}
use Rattle.lu_base.specs.declared.ids.Cookie.{Cookie}
use Rattle.lu_base.specs.declared.ids.Who.{Who}
use Rattle.lu_base.specs.declared.locks.Lock.{Lock}
use Rattle.lu_msg.specs.declared.messages.Message.{Message}
use Rattle.lu_msg.specs.declared.messages.Message.TheVariants.{Request}
use Rattle.lu_msg.specs.declared.operations.Op.{Op}
use Rattle.lu_msg.specs.declared.operations.Op.TheVariants as op
use Rattle.lu_spec_laws.specs.Words.Pasts.{Past, or_else}
use Rattle.lu_spec_laws.specs.Words.Sends.{Sending}
use Rattle.lu_spec_laws.specs.Words.Requests.{asked}
use Rattle.lu_spec_laws.specs.Words.Asked.{enqueued, enqueued_in, enqueued_by}
use Rattle.lu_judge_locks.specs.Asked.{enqueued_lock, enqueued_of, enqueued_with}
use Rattle.lu_judge_locks.proofs.Finds.{find_append}

-- ---- as the law says it

by_op : (cookie : Cookie) (who : Who) (o : Option Op) → option_to_list (enqueued_lock cookie who o) ≡ enqueued_by cookie who o
by_op cookie who None = refl
by_op cookie who (Some (op.Enqueue resource mode extent)) = refl
by_op cookie who (Some _) = refl

module _ (t : ℕ) (past : Past) (requested : Who → ℕ → Option Op) (is : (who : Who) (x : ℕ) → requested who x ≡ asked past t who x) where
  by_message : (cookie : Cookie) (m : Message) → option_to_list (enqueued_of requested cookie m) ≡ enqueued_in t past cookie m
  by_message cookie (Request r) = rw (is r.who r.xid.0) (by_op cookie r.who (asked past t r.who r.xid.0))
  by_message cookie _ = refl

  pub enqueued_is : (cookie : Cookie) (taken : List Sending) → enqueued_with requested cookie taken ≡ enqueued t past cookie taken
  enqueued_is cookie [] = refl
  enqueued_is cookie (s ∷ taken) = rw (by_message cookie s.message, enqueued_is cookie taken) refl

-- ---- message by message, the last one first

module _ (requested : Who → ℕ → Option Op) (cookie : Cookie) where
  joined : (xs ys : List Sending) → enqueued_with requested cookie (xs ++ ys) ≡ enqueued_with requested cookie xs
      ++ enqueued_with requested cookie ys
  joined [] ys = refl
  joined (s ∷ xs) ys = ap (λ rest. option_to_list (enqueued_of requested cookie s.message) ++ rest) (joined xs ys)
      ∙ sym (append_assoc (option_to_list (enqueued_of requested cookie s.message)) (enqueued_with requested cookie xs)
      (enqueued_with requested cookie ys))

  module _ {X : Type 0} (f : X → Sending) (p : Lock → Bool) where
    abbrev pub found_in : List X → Option Lock
    found_in xs = find p (enqueued_with requested cookie (reverse (map f xs)))

    abbrev pub found_of : X → Option Lock
    found_of x = find p (option_to_list (enqueued_of requested cookie (f x).message))

    pub found_last : (xs ys : List X) → found_in (xs ++ ys) ≡ or_else (found_in ys) (found_in xs)
    found_last xs ys =
        ap (λ all. find p (enqueued_with requested cookie (reverse all))) (map-append f xs ys)
        ∙ ap (λ all. find p (enqueued_with requested cookie all)) (reverse-append (map f xs) (map f ys))
        ∙ ap (find p) (joined (reverse (map f ys)) (reverse (map f xs)))
        ∙ find_append p (enqueued_with requested cookie (reverse (map f ys))) (enqueued_with requested cookie (reverse (map f xs)))

    one_found : (x : X) → found_in (x ∷ []) ≡ found_of x
    one_found x = by (enqueued_of requested cookie (f x).message) where
      by : (o : Option Lock) → find p (option_to_list o ++ []) ≡ find p (option_to_list o)
      by None = refl
      by (Some lock) = refl

    -- one more before those that ask for nothing that fits
    pub found_next : (xs : List X) (i : ℕ) (d : X) → i < length xs → found_in (drop (i + 1) xs) ≡ None → found_in (drop i xs)
        ≡ found_of (get_or xs i d)
    found_next xs i d within none =
        ap found_in (drop-cons xs i d within ∙ ap (λ n. get_or xs i d ∷ drop n xs) (sym (add-one i)))
        ∙ found_last (get_or xs i d ∷ []) (drop (i + 1) xs) ∙ ap (λ o. or_else o (found_in (get_or xs i d ∷ []))) none
        ∙ one_found (get_or xs i d)

    -- what fits among the last ones is what fits
    pub found_whole : (xs : List X) (i : ℕ) (lock : Lock) → found_in (drop i xs) ≡ Some lock → found_in xs ≡ Some lock
    found_whole xs i lock found = ap found_in (sym (take-append-drop i xs)) ∙ found_last (take i xs) (drop i xs)
        ∙ ap (λ o. or_else o (found_in (take i xs))) found
