-- Disks are taken off the end of a list, one after another, and go back there.
use Rattle.std.proofs.Common.{◌≡◌, ◌++◌, ◌+◌, ℕ, length, List, [], ◌∷◌, sym, ap, ◌∙◌, arith}
use Rattle.std.specs.Prelude.{map, reverse}
use Rattle.std.proofs.lemmas.List.{append_assoc, map-append, reverse-append, length-append}
use Rattle.lu_run_nodes.specs.Disks.{disk_or_none, disks_of}
use Rattle.lu_run_nodes.specs.States.{DiskState, TargetSeat, NodesState, disk_in}

-- ---- they are taken

module _ {D : Type 0} (old mid new : List D) where
  -- one more
  pub one_taken : (n : ℕ) → (taken : List D) × (old ≡ mid ++ taken) × (length taken + 1 ≡ n) → (disk : D) × (mid ≡ new ++ disk ∷ [])
      → (taken : List D) × (old ≡ new ++ taken) × (length taken + 1 ≡ n + 1)
  one_taken n before one =
      let taken : List D = before.0 in
      let disk : D = one.0 in
      let count = before.2 in
      (disk ∷ taken, before.1 ∙ ap (λ (xs : List D). xs ++ taken) one.1 ∙ append_assoc new (disk ∷ []) taken, omega (arith, count))

  -- the first, and then the others
  pub all_taken : (n : ℕ) → (disk : D) × (old ≡ mid ++ disk ∷ []) → (taken : List D) × (mid ≡ new ++ taken) × (length taken ≡ n)
      → (taken : List D) × (old ≡ new ++ taken) × (length taken ≡ n + 1)
  all_taken n one others =
      let disk : D = one.0 in
      let taken : List D = others.0 in (
        taken ++ disk ∷ [],
        one.1 ∙ ap (λ (xs : List D). xs ++ disk ∷ []) others.1 ∙ append_assoc new taken (disk ∷ []),
        length-append taken (disk ∷ []) ∙ ap (λ (k : ℕ). k + 1) others.2,
      )

-- ---- they go back

abbrev own_disk : TargetSeat → DiskState
own_disk seat = disk_or_none (disk_in seat)

module _ {D : Type 0} (view : D → DiskState) where
  -- that of the last seat goes to the end
  pub one_given : (xs ys : List D) (disk : D) (seats left : List TargetSeat) (seat : TargetSeat) → seats ≡ left ++ seat ∷ [] → ys ≡ xs
      ++ disk ∷ [] → own_disk seat ≡ view disk
      → map view ys ++ reverse (map own_disk left) ≡ map view xs ++ reverse (map own_disk seats)
  one_given xs ys disk seats left seat popped pushed is =
      let d : DiskState = own_disk seat in
      let rest : List DiskState = reverse (map own_disk left) in
      let more : map view ys ≡ map view xs ++ d ∷ [] =
      ap (map view) pushed ∙ map-append view xs (disk ∷ []) ∙ ap (λ (e : DiskState). map view xs ++ e ∷ []) (sym is) in
      let less : reverse (map own_disk seats) ≡ d ∷ rest =
      ap (λ (ss : List TargetSeat). reverse (map own_disk ss)) popped ∙ ap reverse (map-append own_disk left (seat ∷ []))
      ∙ reverse-append (map own_disk left) (d ∷ []) in
      ap (λ (ds : List DiskState). ds ++ rest) more ∙ append_assoc (map view xs) (d ∷ []) rest
      ∙ ap (λ (ds : List DiskState). map view xs ++ ds) (sym less)

  -- that of the metadata target comes last
  pub all_given : (xs ys zs : List D) (disk : D) (nodes : NodesState) → map view ys ≡ map view xs ++ reverse (map own_disk nodes.objects)
      → zs ≡ ys ++ disk ∷ []
      → own_disk nodes.names ≡ view disk → map view zs ≡ map view xs ++ reverse (disks_of nodes)
  all_given xs ys zs disk nodes objects pushed is =
      let d : DiskState = own_disk nodes.names in
      let rest : List DiskState = reverse (map own_disk nodes.objects) in
      ap (map view) pushed ∙ map-append view ys (disk ∷ []) ∙ ap (λ (e : DiskState). map view ys ++ e ∷ []) (sym is)
      ∙ ap (λ (ds : List DiskState). ds ++ d ∷ []) objects ∙ append_assoc (map view xs) rest (d ∷ [])
      ∙ ap (λ (ds : List DiskState). map view xs ++ ds) (sym (reverse-append (d ∷ []) (map own_disk nodes.objects)))
