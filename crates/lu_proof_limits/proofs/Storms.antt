-- Each storm keeps the limits: whatever a word says does, and so do the lines that begin it.
use Rattle.std.proofs.Common.{◌≡◌, ◌≢◌, ℕ, ◌+◌, ◌%◌, ◌^◌, ◌<◌, ◌≤◌, Bool, true, false, ◌||◌, ◌==◌, List, [], ◌∷◌, ◌++◌, length, inl, inr}
use Rattle.std.proofs.Common.{refl, ap, subst, sym, lit≤, arith}
use Rattle.std.specs.Prelude.{if◌then◌else◌, nat_le, nat_lt, slice_index, replicate, All, Some, pos}
use Rattle.std.specs.List.{flat_map}
use Rattle.std.specs.Int.{is_in_range}
use Rattle.std.proofs.lemmas.Bool.{leb-true, le-leb, and_from, cases_lt, cond_both}
use Rattle.std.proofs.lemmas.List.{length-replicate, get_or-replicate, get_or_past}
use Rattle.std.proofs.lemmas.List.Sums.{AllPass-from_list_all}
use Rattle.std.proofs.lemmas.List.Elements.{All-nil, All-cons, All-append}
use Rattle.lu_base.specs.Texts.{is_name_byte, IsName, IsPath}
use Rattle.lu_base.specs.declared.ids.Node.TheVariants.{Target}
use Rattle.lu_msg.specs.declared.calls.Call.{Call}
use Rattle.lu_msg.specs.declared.calls.Call.TheVariants as calls
use Rattle.lu_scene.specs.declared.scene.SceneLine.{SceneLine}
use Rattle.lu_scene.specs.declared.scene.SceneLine.TheVariants as lines
use Rattle.lu_scene.specs.Grammar.{CallFits, LineFits}
use Rattle.lu_scene.specs.Storms.{draw_of, handle_of, offset_of, short_path, directory, file, call_of, called, target, other_lines}
use Rattle.lu_scene.specs.Storms.{drawn_lines, word_lines, begun, creates, opens, opening, storm_head, word_count, words, storm_lines}
use Rattle.lu_scene.specs.Storms.{storm_of}
use Rattle.lu_spec_run.specs.Heads.{IsHead}
use Rattle.lu_spec_run.specs.Limits.{KeepsLimits}
use Rattle.lu_spec_run.specs.Scenarios.{head_of}

-- what holds of both branches holds of the choice
either : {A : Type 0} {x y : A} (P : A → Type 0) (test : Bool) → P x → P y → P (if test then x else y)
either P true p q = p
either P false p q = q

-- ---- paths

digit_passes : (digit : ℕ) → digit < 10 → is_name_byte (48 + digit) ≡ true
digit_passes digit small =
    ap (λ (b : Bool). ((((b || is_in_range 65 90 (48 + digit)) || is_in_range 97 122 (48 + digit)) || 48 + digit == 46) || 48 + digit == 95)
    || 48 + digit == 45)
    (and_from _ _ (le-leb 48 (48 + digit) (omega arith)) (le-leb (48 + digit) 57 (omega arith)))

-- a path of a letter and a digit
path_fits : (letter digit : ℕ) → is_name_byte letter ≡ true → letter ≢ 46 → digit < 10 → IsPath (short_path letter digit)
path_fits letter digit is other small =
    let name : List ℕ = letter ∷ (48 + digit) ∷ [] in
    let named : IsName name = record {
      filled = λ e. absurd cc;
      bytes = AllPass-from_list_all is_name_byte name (and_from _ _ is (and_from _ _ (digit_passes digit small) refl));
      not_here = λ e. other (ap (λ (xs : List ℕ). slice_index xs 0) e);
      not_above = λ e. other (ap (λ (xs : List ℕ). slice_index xs 0) e);
    } in
    record { are_names = (lit≤ tt, All-cons IsName name [] named (All-nil IsName)); bytes = lit≤ tt }

directory_fits : (name : ℕ) → name < 8 → IsPath (directory name)
directory_fits name small = path_fits 100 name refl (λ e. absurd (omega arith)) (omega arith)

file_fits : (handle : ℕ) → handle < 2 → IsPath (file handle)
file_fits handle small = path_fits 102 handle refl (λ e. absurd (omega arith)) (omega arith)

root_fits : IsPath []
root_fits = record { are_names = (lit≤ tt, All-nil IsName); bytes = lit≤ tt }

-- ---- calls

read_fits : (handle offset size : ℕ) → handle ≤ 15 → 1 ≤ size → size ≤ 65536 → offset + size ≤ 2 ^ 40
    → CallFits (calls.Read handle offset size)
read_fits handle offset size one some most within = (one, some, most, within)

write_fits : (handle offset count byte : ℕ) → handle ≤ 15 → byte < 256 → 1 ≤ count → count ≤ 65536 → offset + count ≤ 2 ^ 40
    → CallFits (calls.Write handle offset (replicate count byte))
write_fits handle offset count byte one small some most within =
    let long : length (replicate count byte) ≡ count = length-replicate count byte in
    (one, bytes, omega (arith, long), omega (arith, long), omega (arith, long))
  where
    bytes : (i : ℕ) → slice_index (replicate count byte) i < 256
    bytes i =
        elim (cases_lt i count) [
          | inl within ↦ subst (λ b. b < 256) (sym (get_or-replicate count i byte 0 within)) small
          | inr past ↦ subst (λ b. b < 256) (sym (get_or_past (replicate count byte) i 0
              (omega (arith, length-replicate count byte, past)))) (lit≤ tt)
        ]

rename_fits : (old new : List (List ℕ)) → IsPath old → IsPath new → CallFits (calls.Rename old new)
rename_fits old new from to = (from, to)

cut_fits : (handle size : ℕ) → handle ≤ 15 → size ≤ 2 ^ 40 → CallFits (calls.Cut handle size)
cut_fits handle size one within = (one, within)

-- ---- what a word says

client_small : (word : ℕ) → (draw_of word).client < 4
client_small word = omega arith

name_small : (word : ℕ) → (draw_of word).name < 8
name_small word = omega arith

page_small : (word : ℕ) → (draw_of word).page < 32
page_small word = omega arith

slot_small : (word : ℕ) → (draw_of word).slot ≤ 3
slot_small word = omega arith

handle_small : (word : ℕ) → handle_of (draw_of word) < 2
handle_small word = omega arith

call_fits : (word : ℕ) → CallFits (call_of (draw_of word))
call_fits word =
    let d = draw_of word in
    let named = directory_fits d.name (name_small word) in
    let one : handle_of d ≤ 15 = omega (arith, handle_small word) in
    let within : offset_of d + 512 ≤ 2 ^ 40 = omega (arith, page_small word) in
    either CallFits (nat_le d.kind 4) (write_fits (handle_of d) (offset_of d) 512 d.name one (omega (arith, name_small word)) (lit≤ tt)
    (lit≤ tt) within)
    (either CallFits (nat_le d.kind 7) (read_fits (handle_of d) (offset_of d) 512 one (lit≤ tt) (lit≤ tt) within)
    (either CallFits (d.kind == 8) named
    (either CallFits (d.kind == 9) named
    (either CallFits (d.kind == 10) root_fits
    (either CallFits (d.kind == 11) (file_fits (handle_of d) (handle_small word))
    (either CallFits (d.kind == 12) (rename_fits (directory d.name) (directory ((d.name + 1) % 8)) named
    (directory_fits ((d.name + 1) % 8) (omega arith)))
    (either CallFits (d.kind == 13) (cut_fits (handle_of d) (offset_of d) one (omega (arith, within)))
    named)))))))

-- ---- lines

-- lines of a storm that keep the limits
record Keep (said : List SceneLine) : Type 0 where
  fit : All (LineFits storm_head) said

none : Keep []
none = record { fit = All-nil (LineFits storm_head) }

put : {line : SceneLine} {said : List SceneLine} → LineFits storm_head line → Keep said → Keep (line ∷ said)
put {line} {said} fits keep = record { fit = All-cons (LineFits storm_head) line said fits keep.fit }

both : {before after : List SceneLine} → Keep before → Keep after → Keep (before ++ after)
both {before} {after} first later = record { fit = All-append (LineFits storm_head) before after first.fit later.fit }

runs : Keep (lines.Run ∷ [])
runs = put tt none

-- ---- the lines of a word

called_keeps : (word : ℕ) (call : Call) → CallFits call → Keep (called (draw_of word) call)
called_keeps word call fits = put (client_small word, slot_small word, fits) none

commit_keeps : (number : ℕ) → number ≤ 2 → Keep (lines.Commit (target number) ∷ [])
commit_keeps number one = put one none

restart_keeps : (number : ℕ) → number ≤ 2 → Keep (lines.Crash (target number) ∷ lines.Boot (target number) ∷ [])
restart_keeps number one = put one (put one none)

tick_keeps : (number : ℕ) → number ≤ 2 → Keep (lines.Tick (Target number) ∷ [])
tick_keeps number one = put one none

others_keep : (word : ℕ) → Keep (other_lines (draw_of word))
others_keep word =
    let d = draw_of word in
    let one : handle_of d ≤ 15 = omega (arith, handle_small word) in
    cond_both (nat_le d.name 2) _ _ Keep (λ first. commit_keeps d.name (leb-true d.name 2 first)) (λ _.
    either Keep (d.name == 3) (restart_keeps (d.page % 3) (omega arith))
    (either Keep (d.name == 4) (tick_keeps (d.page % 3) (omega arith))
    (either Keep (d.name == 5) (called_keeps word (calls.Glimpse (handle_of d)) one)
    (either Keep (d.name == 6) (called_keeps word (calls.Flush (handle_of d)) one) runs))))

drawn_keep : (word : ℕ) → Keep (drawn_lines (draw_of word))
drawn_keep word = either Keep (nat_lt (draw_of word).kind 15) (called_keeps word (call_of (draw_of word)) (call_fits word))
    (others_keep word)

word_keeps : (word : ℕ) → Keep (word_lines word)
word_keeps word = both (drawn_keep word) (either Keep (draw_of word).runs runs none)

words_keep : (drawn : List ℕ) → Keep (flat_map word_lines drawn)
words_keep [] = none
words_keep (word ∷ more) = both (word_keeps word) (words_keep more)

-- ---- the lines that begin a storm

begun_keeps : (client : ℕ) (call : Call) → client < 4 → CallFits call → Keep (begun client call)
begun_keeps client call one fits = put (one, lit≤ tt, fits) runs

creates_keeps : (handle : ℕ) → handle < 2 → Keep (creates handle)
creates_keeps handle small = begun_keeps 0 (calls.Create (file handle) (Some (65536, pos 2))) (lit≤ tt)
    (file_fits handle small, (lit≤ tt, lit≤ tt))

opens_keeps : (client : ℕ) → client < 4 → Keep (opens client)
opens_keeps client one =
    both (begun_keeps client (calls.Open 0 (file 0)) one (lit≤ tt, file_fits 0 (lit≤ tt)))
    (begun_keeps client (calls.Open 1 (file 1)) one (lit≤ tt, file_fits 1 (lit≤ tt)))

opening_keeps : Keep opening
opening_keeps =
    both (creates_keeps 0 (lit≤ tt))
    (both (creates_keeps 1 (lit≤ tt))
    (both (opens_keeps 0 (lit≤ tt)) (both (opens_keeps 1 (lit≤ tt)) (both (opens_keeps 2 (lit≤ tt)) (opens_keeps 3 (lit≤ tt))))))

-- ---- the storm

head_fits : IsHead (head_of storm_head)
head_fits =
    record {
      clients = lit≤ tt;
      most_clients = lit≤ tt;
      osts = lit≤ tt;
      most_osts = lit≤ tt;
      expire = lit≤ tt;
      dirty = lit≤ tt;
      unused =
          lit≤ tt;
      flight = lit≤ tt;
      most_flight = lit≤ tt;
    }

-- a storm keeps the limits, whatever number it is made from
pub keeps_limits : (seed : ℕ) → KeepsLimits (storm_of seed)
keeps_limits seed =
    let said : Keep (storm_lines seed) = both opening_keeps (both (words_keep (words word_count seed)) runs) in
    record { head = head_fits; lines = said.fit }
