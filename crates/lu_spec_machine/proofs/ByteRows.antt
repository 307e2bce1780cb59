-- The machine's bytes, computed: an unlinked file that is still read, cuts and their zero bytes, and pieces.
use Rattle.std.proofs.Common.{◌≡◌, ℕ, ◌+◌, List, [], ◌∷◌, refl, pos}
use Rattle.std.specs.Prelude.{codes}
use Rattle.lu_base.specs.declared.ids.Fid.{Fid}
use Rattle.lu_base.specs.declared.ids.Txn.{Txn}
use Rattle.lu_base.specs.declared.ids.Who.{Who}
use Rattle.lu_layout.specs.Raid0.{Raid0, stripe_of, offset_of, position_of, below_of, greatest_end}
use Rattle.lu_msg.specs.declared.answers.Answer.TheVariants as told
use Rattle.lu_msg.specs.declared.answers.Errno.TheVariants.{ENOENT}
use Rattle.lu_msg.specs.declared.calls.Call.TheVariants as call
use Rattle.lu_msg.specs.declared.operations.Op.TheVariants as op
use Rattle.lu_spec_machine.specs.declared.acts.Act.{Act}
use Rattle.lu_spec_machine.specs.declared.acts.Deed.{Deed}
use Rattle.lu_spec_machine.specs.declared.acts.Deed.TheVariants.{Names, Data, Piece}
use Rattle.lu_spec_machine.specs.Objects.{object_size, content}
use Rattle.lu_spec_machine.specs.Bytes.{object_at, size_of, write, cut, put_piece, cut_piece}
use Rattle.lu_spec_machine.specs.Machine.{start, answers, run}

abbrev me : Who
me = record { client = 0; life = 1 }

abbrev item : ℕ → Deed → Act
item count deed = record { who = me; number = record { 0 = 4294967296 + count }; deed = deed }

abbrev acts : Deed → Act
acts deed = record { who = me; number = record { 0 = 0 }; deed = deed }

abbrev f : List ℕ
f = codes "f"

abbrev file : Fid
file = record { 0 = 4294967297 }

abbrev opened : Txn
opened = record { 0 = 4294967298 }

-- a file without names keeps its bytes for those who have it open
unlinked : answers 1 start
    (item 1 (Names (op.Create (f ∷ []) 1048576 (pos 1)))
    ∷ item 2 (Names (op.Open (f ∷ [])))
    ∷ acts (Data file (call.Write 0 0 (97 ∷ [])))
    ∷ item 3 (Names (op.Unlink (f ∷ [])))
    ∷ acts (Data file (call.Read 0 0 4))
    ∷ item 4 (Names (op.Close opened file))
    ∷ acts (Names (op.Lookup (f ∷ [])))
    ∷ [])
    ≡ told.Made file ∷ told.Made file ∷ told.Done ∷ told.Done ∷ told.Content (97 ∷ []) ∷ told.Done ∷ told.Refused ENOENT ∷ []
unfolding stripe_of offset_of position_of greatest_end
unlinked = refl

-- a file's attributes are told with its size, and what never was a file has no bytes
sized : answers 1 start
    (item 1 (Names (op.Create (f ∷ []) 1048576 (pos 1)))
    ∷ acts (Data file (call.Write 0 3 (97 ∷ 98 ∷ [])))
    ∷ acts (Names (op.Stat (f ∷ [])))
    ∷ acts (Data file (call.Read 0 1 9))
    ∷ acts (Data (record { 0 = 9 }) (call.Write 0 0 (97 ∷ [])))
    ∷ acts (Data (record { 0 = 9 }) (call.Read 0 0 4))
    ∷ acts (Data file (call.Flush 0))
    ∷ [])
    ≡ told.Made file ∷ told.Done ∷ told.FileSize file 420 1 5 ∷ told.Content (0 ∷ 0 ∷ 97 ∷ 98 ∷ []) ∷ told.Done ∷ told.Content []
    ∷ told.Done ∷ []
unfolding stripe_of offset_of position_of greatest_end
sized = refl

-- two stripes in units of 2 bytes: positions 0 and 1 lie on stripe 0, 2 and 3 on stripe 1, 4 and 5 on stripe 0
abbrev two : Raid0
two = record { size = 2; targets = 1 ∷ 2 ∷ [] }

-- at 5 the stripes have 3 and 2 offsets below: their last bytes are at 2 and 1
cut_grows : cut two 5 [] ≡ ((2, 0) ∷ []) ∷ ((1, 0) ∷ []) ∷ []
unfolding below_of stripe_of
cut_grows = refl

-- positions 2 and 3, 4 and 5
put_two : write two 2 (9 ∷ 9 ∷ 9 ∷ 9 ∷ []) [] ≡ ((2, 9) ∷ (3, 9) ∷ []) ∷ ((0, 9) ∷ (1, 9) ∷ []) ∷ []
unfolding stripe_of offset_of
put_two = refl

cut_keeps : cut two 5 (write two 2 (9 ∷ 9 ∷ 9 ∷ 9 ∷ []) []) ≡ ((2, 9) ∷ []) ∷ ((0, 9) ∷ (1, 9) ∷ []) ∷ []
unfolding below_of stripe_of offset_of
cut_keeps = refl

cut_to_nothing : cut two 0 (write two 2 (9 ∷ 9 ∷ []) []) ≡ [] ∷ [] ∷ []
unfolding below_of stripe_of offset_of
cut_to_nothing = refl

piece_put : put_piece 0 1 (7 ∷ 8 ∷ []) [] ≡ ((1, 7) ∷ (2, 8) ∷ []) ∷ []
piece_put = refl

-- of stripe 0 the offsets from 2 on go, and offset 1 is its last
piece_cut : cut_piece 0 2 (write two 0 (9 ∷ []) (write two 2 (9 ∷ 9 ∷ 9 ∷ []) [])) ≡ ((0, 9) ∷ (1, 0) ∷ []) ∷ ((0, 9) ∷ (1, 9) ∷ []) ∷ []
unfolding stripe_of offset_of
piece_cut = refl

objects : object_size (object_at (write two 0 (9 ∷ 9 ∷ 9 ∷ []) []) 1) ≡ 1
unfolding stripe_of offset_of
objects = refl

-- the size goes by the stripes that the layout has
sizes : size_of two (write two 0 (9 ∷ 9 ∷ 9 ∷ []) []) ≡ 3
unfolding stripe_of offset_of position_of greatest_end
sizes = refl

fewer : size_of (record { size = 2; targets = 1 ∷ [] }) (write two 0 (9 ∷ 9 ∷ 9 ∷ []) []) ≡ 2
unfolding stripe_of offset_of position_of greatest_end
fewer = refl

-- from the page's start to the last byte of it that is there under the lock
got : content 0 (record { first = 3; last = 9 }) ((1, 7) ∷ (4, 8) ∷ (12, 9) ∷ []) ≡ 0 ∷ 0 ∷ 0 ∷ 0 ∷ 8 ∷ []
got = refl

-- a piece on a stripe that the file's layout lacks is kept
lacking : (run 1 start
    (item 1 (Names (op.Create (f ∷ []) 1048576 (pos 1)))
    ∷ acts (Piece (op.Put (record { fid = file; stripe = 1 }) (record { 0 = 1 }) 0 (97 ∷ [])))
    ∷ [])).bytes ≡ (file, [] ∷ ((0, 97) ∷ []) ∷ []) ∷ []
lacking = refl
