-- The cut goes to the end of those of its life and file.
use Rattle.std.proofs.Common.{◌≡◌, ℕ, List, [], ◌∷◌, ◌++◌, Option, ap, ◌∙◌, rules}
use Rattle.std.specs.Prelude.{◌==◌, ◌&&◌, if◌then◌else◌, unwrap_or}
use Rattle.std.specs.HashMap.Entry.{map_with_value}
use Rattle.std.specs.Map.{lookup}
use Rattle.std.proofs.lemmas.Result.{on_ok_weaker}
use Rattle.lu_judge_calls.specs.declared.kept.Kept.{Kept}
use Rattle.lu_judge_calls.specs.Marks.{mark_of, marks_of, same_file}
use Rattle.lu_judge_calls.specs.PieceTables.{cuts_in}
use Rattle.lu_judge_calls.proofs.Filed.{filed, carry, at_file}
use Rattle.lu_judge_calls.proofs.cuts.Cuts.add_to.Goals as goal

abbrev at_key : (m : List (((ℕ × ℕ) × ℕ) × List Kept)) → ℕ → ℕ → ℕ → Option (List Kept)
at_key m client life fid = lookup (λ (k : (ℕ × ℕ) × ℕ). (client == k.0.0 && life == k.0.1) && fid == k.1) m

pub returns : goal.returns
returns c = record {
  added = on_ok_weaker c.push.result
      (λ (put : c.push.new.self ≡ c.or_insert.result.now ++ c.args.kept ∷ []). λ w f.
      let old = c.args.self.now.by_file.entries in
      let who = c.args.who in
      let fid = c.args.fid in
      let before = c.or_insert.result.now in
      let new = c.push.new.self in
      let was : before ≡ unwrap_or (at_key old who.client who.life fid.0) [] =
      c.or_insert.ensures.value ∙ ap (λ (found : Option (List Kept)). unwrap_or found c.new.result) c.in_ok-self.ensures.value
      ∙ ap (λ (none : List Kept). unwrap_or (at_key old who.client who.life fid.0) none) c.new.ensures.empty in
      carry (λ (all : List (((ℕ × ℕ) × ℕ) × List Kept)). marks_of (unwrap_or (at_key all w.client w.life f.0) [])
      ≡ (if same_file who fid w f then cuts_in c.args.self.now w f ++ mark_of c.args.kept ∷ [] else cuts_in c.args.self.now w f))
      _ (map_with_value c.in_ok-self.field-0 new).entries (search rules)
      (ap (λ (o : Option (List Kept)). marks_of (unwrap_or o [])) ((c.in_ok-self.ensures.update.0 new).0 ((w.client, w.life), f.0))
      ∙ filed (same_file who fid w f) (at_key old who.client who.life fid.0) (at_key old w.client w.life f.0) before new c.args.kept
      (at_file (at_key old) who fid w f) was put))
      c.push.ensures.added;
}
