-- Storms: scenarios that are made from a number. Four clients call at random on eight directories and two files over two
-- object storage targets, and commits, crashes and boots come between (this project's profile; the words are those of the
-- generator SplitMix64).
use Rattle.std.specs.Prelude.{ℕ, zero, suc, ◌+◌, ◌*◌, ◌/◌, ◌%◌, ◌==◌, nat_le, nat_lt, if◌then◌else◌, Bool, List, [], ◌∷◌, ◌++◌, replicate}
use Rattle.std.specs.Prelude.{Option, Some, None, ℤ, pos}
use Rattle.std.specs.List.{flat_map}
use Rattle.rand_xoshiro.specs.SplitMix64.{mix_u64}
use Rattle.lu_base.specs.declared.ids.Node.TheVariants.{Target}
use Rattle.lu_base.specs.declared.ids.TargetId.{TargetId}
use Rattle.lu_msg.specs.declared.calls.Call.{Call}
use Rattle.lu_msg.specs.declared.calls.Call.TheVariants as calls
use Rattle.lu_scene.specs.declared.scene.Head.{Head}
use Rattle.lu_scene.specs.declared.scene.Scene.{Scene}
use Rattle.lu_scene.specs.declared.scene.SceneLine.{SceneLine}
use Rattle.lu_scene.specs.declared.scene.SceneLine.TheVariants as lines
use Rattle.lu_scene.specs.declared.storms.Draw.{Draw}
use Rattle.lu_scene.specs.Lines.{default_head}

-- ---- the words: so many of a generator in this state

unfoldable pub words : ℕ → ℕ → List ℕ
words zero state = []
words (suc more) state = (mix_u64 state).0 ∷ words more (mix_u64 state).1

-- ---- what a word says

abbrev pub draw_of : ℕ → Draw
draw_of word =
    record {
      client = word % 4;
      kind = word / 4 % 16;
      name = word / 64 % 8;
      page = word / 512 % 32;
      runs = word / 16384 % 2 == 1;
      slot = word / 32768 % 4;
    }

-- the two files, and the handles under which each client opens them
abbrev pub handle_of : Draw → ℕ
handle_of d = d.name % 2

-- the start of its page, in bytes
abbrev pub offset_of : Draw → ℕ
offset_of d = d.page * 4096

-- a path of one letter and one digit
abbrev pub short_path : ℕ → ℕ → List (List ℕ)
short_path letter digit = (letter ∷ (48 + digit) ∷ []) ∷ []

abbrev pub directory : ℕ → List (List ℕ)
directory name = short_path 100 name

abbrev pub file : ℕ → List (List ℕ)
file handle = short_path 102 handle

-- the kinds of calls: of sixteen words five write and three read
abbrev pub call_of : Draw → Call
call_of d =
    if nat_le d.kind 4 then calls.Write (handle_of d) (offset_of d) (replicate 512 d.name)
    else if nat_le d.kind 7 then calls.Read (handle_of d) (offset_of d) 512
    else if d.kind == 8 then calls.Mkdir (directory d.name)
    else if d.kind == 9 then calls.Rmdir (directory d.name)
    else if d.kind == 10 then calls.List []
    else if d.kind == 11 then calls.Stat (file (handle_of d))
    else if d.kind == 12 then calls.Rename (directory d.name) (directory ((d.name + 1) % 8))
    else if d.kind == 13 then calls.Cut (handle_of d) (offset_of d)
    else calls.Lookup (directory d.name)

abbrev pub called : Draw → Call → List SceneLine
called d call = lines.Call d.client d.slot call ∷ []

abbrev pub target : ℕ → TargetId
target number = record { 0 = number }

-- of sixteen words one says something else, by its name
abbrev pub other_lines : Draw → List SceneLine
other_lines d =
    if nat_le d.name 2 then lines.Commit (target d.name) ∷ []
    else if d.name == 3 then lines.Crash (target (d.page % 3)) ∷ lines.Boot (target (d.page % 3)) ∷ []
    else if d.name == 4 then lines.Tick (Target (d.page % 3)) ∷ []
    else if d.name == 5 then called d (calls.Glimpse (handle_of d))
    else if d.name == 6 then called d (calls.Flush (handle_of d))
    else lines.Run ∷ []

abbrev pub drawn_lines : Draw → List SceneLine
drawn_lines d = if nat_lt d.kind 15 then called d (call_of d) else other_lines d

abbrev pub run_if : Bool → List SceneLine
run_if runs = if runs then lines.Run ∷ [] else []

abbrev pub word_lines : ℕ → List SceneLine
word_lines word = drawn_lines (draw_of word) ++ run_if (draw_of word).runs

-- ---- the scenario

-- a call on slot 0, which runs to its end
abbrev pub begun : ℕ → Call → List SceneLine
begun client call = lines.Call client 0 call ∷ lines.Run ∷ []

abbrev pub creates : ℕ → List SceneLine
creates handle = begun 0 (calls.Create (file handle) (Some (65536, pos 2)))

abbrev pub opens : ℕ → List SceneLine
opens client = begun client (calls.Open 0 (file 0)) ++ begun client (calls.Open 1 (file 1))

-- client 0 makes both files, and each client opens them
abbrev pub opening : List SceneLine
opening = creates 0 ++ creates 1 ++ opens 0 ++ opens 1 ++ opens 2 ++ opens 3

abbrev pub storm_head : Head
storm_head = record default_head { clients = 4; osts = 2 }

abbrev pub word_count : ℕ
word_count = 2000

abbrev pub storm_lines : ℕ → List SceneLine
storm_lines seed = opening ++ (flat_map word_lines (words word_count seed) ++ lines.Run ∷ [])

abbrev pub storm_of : ℕ → Scene
storm_of seed = record { head = storm_head; lines = storm_lines seed }
