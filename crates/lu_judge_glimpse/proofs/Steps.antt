-- The pass takes in one line more.
use Rattle.std.proofs.Common.{◌≡◌, ℕ, ◌+◌, ◌<◌, ◌≤◌, Bool, true, false, List, [], ◌∷◌, ◌++◌, length, drop, inl, inr, refl, ap, ◌∙◌, sym}
use Rattle.std.proofs.Common.{subst, ⊎_elim, arith}
use Rattle.std.specs.Prelude.{◌==◌, ◌&&◌, slice_index_or, if◌then◌else◌, ◌⊎◌, ◌↔◌, All, Option, Some, None}
use Rattle.std.proofs.lemmas.List.{drop_more, get_or_default}
use Rattle.lu_base.specs.declared.ids.Fid.{Fid}
use Rattle.lu_trace.specs.declared.entries.Entry.{Entry}
use Rattle.lu_trace.specs.declared.entries.Entry.TheVariants.{Peek}
use Rattle.lu_trace.specs.declared.entries.Line.{Line}
use Rattle.lu_trace.specs.WellFormed.{IsLine}
use Rattle.lu_spec_machine.specs.Footprint.{Every}
use Rattle.lu_spec_laws.specs.Words.Pasts.{Past}
use Rattle.lu_spec_laws.specs.Words.Lives.{is_gone}
use Rattle.lu_spec_laws.specs.Words.Seen.{lock_with}
use Rattle.lu_spec_laws.specs.Words.Glimpses.{cuts, machine_cut, is_gone_at, locks_object}
use Rattle.lu_spec_laws.specs.Laws.Glimpse.{Glimpse}
use Rattle.lu_judge_pass.specs.Firsts.{before}
use Rattle.lu_judge_pass.proofs.Wholes.{before_more}
use Rattle.lu_judge_glimpse.specs.declared.counts.Counts.{Counts}
use Rattle.lu_judge_glimpse.specs.declared.sightings.Sightings.{Sightings}
use Rattle.lu_judge_glimpse.specs.Begins.{Counted}
use Rattle.lu_judge_glimpse.specs.Sightings.{last_in}
use Rattle.lu_judge_glimpse.proofs.Put.{before_length}
use Rattle.lu_judge_glimpse.specs.declared.wanted.Wanted.{Wanted}
use Rattle.lu_judge_glimpse.specs.declared.glimpses.Watch.{Watch}
use Rattle.lu_judge_glimpse.specs.Shown.{turn_end, ends, Pending, Fresh}
use Rattle.lu_judge_glimpse.specs.Told.{told_entry}
use Rattle.lu_judge_glimpse.specs.Wanted.{meets, clears}
use Rattle.lu_judge_glimpse.specs.Watched.{heard_after, watch_after, Below, Covers, SeenOver, SeenNext, earlier}
use Rattle.lu_judge_glimpse.proofs.Ended.{wanted_stays, fresh_more, pending_more}
use Rattle.lu_judge_glimpse.proofs.Seen.{seen_line}
use Rattle.lu_judge_glimpse.proofs.Told.{line_told, other_entry}
use Rattle.lu_judge_glimpse.proofs.Watches.{covers_line}

-- what was seen last after a line was seen before or at it
put_last : (here : Bool) (place last : ℕ) (old : Option ℕ) → (if here then Some place else old) ≡ Some last → (old ≡ Some last)
    ⊎ (last ≡ place)
put_last true place last old is = inr (cc (is))
put_last false place last old is = inl is

heard_last : (past : Past) (place : ℕ) (l : Line) (e : Entry) → l.entry ≡ e → (f : Fid) (stripe size : ℕ) (old : Option ℕ) (last : ℕ)
    → heard_after past place (record { at = l.at; entry = e }) f stripe size old ≡ Some last → (old ≡ Some last) ⊎ (last ≡ place)
heard_last past place l (Peek target cookie told) same f stripe size old last is =
    put_last ((is_gone_at past l.at.node && locks_object (Some f) stripe (lock_with target.0 cookie.0 past)) && told == size) place last old
    is
heard_last past place l _ same f stripe size old last is = inl is

module _ (lines : List Line) (k : ℕ) (l : Line) (inside : k < length lines) (is : l ≡ slice_index_or lines k l) where
  next_past : before lines (k + 1) ≡ l ∷ before lines k
  next_past = before_more lines k l inside ∙ ap (λ (x : Line). x ∷ before lines k) (sym is)

  pub next_later : drop k lines ≡ l ∷ drop (k + 1) lines
  next_later = drop_more lines k l inside ∙ ap (λ (x : Line). x ∷ drop (k + 1) lines) (sym is)

  same_place : length (before lines k) ≡ k
  same_place = before_length lines k (omega (arith, inside))

  pub to_next : (P : Past → Type 0) → P (l ∷ before lines k) → P (before lines (k + 1))
  to_next P holds = subst P (sym next_past) holds

  pub formed_next : All IsLine lines → Every IsLine (before lines k) → Every IsLine (before lines (k + 1))
  formed_next all formed = to_next (λ (past : Past). Every IsLine past) (subst (λ (x : Line). IsLine x) (sym is) (all k l inside), formed)

  module _ (old new : Sightings) (below : Below old k)
      (heard : (f : Fid) (stripe size : ℕ) → last_in new f stripe size
      ≡ heard_after (before lines k) k l f stripe size (last_in old f stripe size)) where
    pub below_next : Below new (k + 1)
    below_next f stripe size last there =
        ⊎_elim (λ earlier. let less = below f stripe size last earlier in omega (arith, less)) (λ same. omega (arith, same))
        (heard_last (before lines k) k l l.entry refl f stripe size (last_in old f stripe size) last (sym (heard f stripe size) ∙ there))

    pub seen_next : (counts : Counts) (osts : ℕ) → SeenNext old counts osts (before lines k) (drop k lines)
        → SeenOver new counts osts (λ c slot. earlier c slot (before lines (k + 1))) (before lines (k + 1))
    seen_next counts osts seen =
        to_next (λ (past : Past). SeenOver new counts osts (λ c slot. earlier c slot past) past)
        (seen_line counts osts old new (before lines k) l (subst (λ (n : ℕ). Below old n) (sym same_place) below)
        (subst (λ (n : ℕ). (f : Fid) (stripe size : ℕ) → last_in new f stripe size
        ≡ heard_after (before lines k) n l f stripe size (last_in old f stripe size)) (sym same_place) heard)
        (subst (λ (later : List Line). SeenNext old counts osts (before lines k) later) next_later seen))

  pub covers_next : (counts : Counts) (old new : ℕ → ℕ → Option Watch)
      → ((c slot : ℕ) → new c slot ≡ watch_after counts (l ∷ before lines k) l c slot (old c slot))
      → Covers old counts (before lines k) → Covers new counts (before lines (k + 1))
  covers_next counts old new watched covers = to_next (λ (past : Past). Covers new counts past)
      (covers_line counts old new (before lines k) l watched covers)

  -- ---- what is wanted

  module _ (osts : ℕ) (whole : Past) (s : Sightings) (counts : Counts) (ws : List Wanted) where
    others : (met : Wanted → Bool) (j : ℕ) → (k ≡ j → ⊥) → clears met j (told_entry s (is_gone whole) (before lines k) k l.at.node l.entry)
        ≡ true
    others met j ne = other_entry s (is_gone whole) (before lines k) k met j ne l.at.node l.entry

    pub fresh_next : (new : List Wanted) → new ≡ ws ++ told_entry s (is_gone whole) (before lines k) k l.at.node l.entry → Fresh k ws
        → Fresh (k + 1) new
    fresh_next new made fresh = subst (λ (xs : List Wanted). Fresh (k + 1) xs) (sym made)
        (fresh_more k ws (told_entry s (is_gone whole) (before lines k) k l.at.node l.entry) fresh others)

    here : SeenNext s counts osts (before lines k) (drop k lines) → Counted counts (before lines k) (slice_index_or lines k l) → (d : Line)
        → (clears (meets (machine_cut osts (turn_end (l ∷ before lines k) (drop (k + 1) lines)))) k
        (told_entry s (is_gone whole) (before lines k) k l.at.node l.entry) ≡ true)
        ↔ Glimpse osts whole (before lines k) (slice_index_or lines k d) (drop (k + 1) lines)
    here seen counted d =
        subst (λ (x : Line). (clears (meets (machine_cut osts (turn_end (l ∷ before lines k) (drop (k + 1) lines)))) k
        (told_entry s (is_gone whole) (before lines k) k l.at.node l.entry) ≡ true)
        ↔ Glimpse osts whole (before lines k) x (drop (k + 1) lines))
        (is ∙ get_or_default lines k l d inside)
        (subst (λ (n : ℕ). (clears (meets (machine_cut osts (turn_end (l ∷ before lines k) (drop (k + 1) lines)))) n
        (told_entry s (is_gone whole) (before lines k) n l.at.node l.entry) ≡ true)
        ↔ Glimpse osts whole (before lines k) l (drop (k + 1) lines))
        same_place
        (line_told osts (is_gone whole) s counts (before lines k) l (drop (k + 1) lines)
        (subst (λ (later : List Line). SeenNext s counts osts (before lines k) later) next_later seen)
        (subst (λ (x : Line). Counted counts (before lines k) x) (sym is) counted)))

    pub pending_next : (new : List Wanted) → new ≡ ws ++ told_entry s (is_gone whole) (before lines k) k l.at.node l.entry
        → SeenNext s counts osts (before lines k) (drop k lines) → Counted counts (before lines k) (slice_index_or lines k l) → Fresh k ws
        → (ends (before lines k) (drop k lines) ≡ true → ws ≡ [])
        → Pending (Glimpse osts whole) lines k (meets (machine_cut osts (turn_end (before lines k) (drop k lines)))) ws
        → Pending (Glimpse osts whole) lines (k + 1) (meets (machine_cut osts (turn_end (before lines (k + 1)) (drop (k + 1) lines)))) new
    pending_next new made seen counted fresh done pending =
        to_next (λ (past : Past). Pending (Glimpse osts whole) lines (k + 1) (meets (machine_cut osts (turn_end past (drop (k + 1) lines))))
        new)
        (subst (λ (xs : List Wanted). Pending (Glimpse osts whole) lines (k + 1)
        (meets (machine_cut osts (turn_end (l ∷ before lines k) (drop (k + 1) lines)))) xs) (sym made)
        (pending_more (Glimpse osts whole) lines k (meets (machine_cut osts (turn_end (before lines k) (l ∷ drop (k + 1) lines))))
        (meets (machine_cut osts (turn_end (l ∷ before lines k) (drop (k + 1) lines)))) ws
        (told_entry s (is_gone whole) (before lines k) k l.at.node l.entry) fresh
        (subst (λ (later : List Line). Pending (Glimpse osts whole) lines k (meets (machine_cut osts (turn_end (before lines k) later))) ws)
        next_later pending)
        (wanted_stays osts (before lines k) l (drop (k + 1) lines) ws
        (subst (λ (later : List Line). ends (before lines k) later ≡ true → ws ≡ []) next_later done))
        (others (meets (machine_cut osts (turn_end (l ∷ before lines k) (drop (k + 1) lines)))))
        (here seen counted)))
