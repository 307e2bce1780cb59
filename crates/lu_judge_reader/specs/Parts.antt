-- What words say where a call, an operation or an answer stands: all of the words that are left.
use Rattle.std.specs.Prelude.{ℕ, ◌+◌, ◌^◌, ◌==◌, ◌&&◌, nat_le, if◌then◌else◌, List, [], length, Option, Some, None}
use Rattle.std.specs.List.{list_any}
use Rattle.lu_base.specs.declared.locks.Resource.{Resource}
use Rattle.lu_base.specs.declared.locks.Mode.{Mode}
use Rattle.lu_base.specs.declared.locks.Policy.{Policy}
use Rattle.lu_base.specs.declared.locks.Policy.TheVariants.{Bits, Range}
use Rattle.lu_msg.specs.declared.calls.Call.{Call}
use Rattle.lu_msg.specs.declared.calls.Call.TheVariants as call
use Rattle.lu_msg.specs.declared.operations.Op.{Op}
use Rattle.lu_msg.specs.declared.operations.Op.TheVariants as op
use Rattle.lu_msg.specs.declared.answers.Answer.{Answer}
use Rattle.lu_msg.specs.declared.answers.Answer.TheVariants as answer
use Rattle.lu_scene.specs.Fields.{number_of, path_of}
use Rattle.lu_scene.specs.declared.words.CallName.{CallName}
use Rattle.lu_scene.specs.declared.words.CallName.TheVariants as calls
use Rattle.lu_judge_reader.specs.declared.names.OpName.{OpName}
use Rattle.lu_judge_reader.specs.declared.names.OpName.TheVariants as ops
use Rattle.lu_judge_reader.specs.declared.names.AnswerName.{AnswerName}
use Rattle.lu_judge_reader.specs.declared.names.AnswerName.TheVariants as answers
use Rattle.lu_scene.specs.Words.{call_name_of}
use Rattle.lu_judge_reader.specs.Names.{op_name_of, answer_name_of}
use Rattle.lu_judge_reader.specs.Reading.{◌>>?◌, ◌>>=◌, Reader, give, with_left, one, if_more}
use Rattle.lu_judge_reader.specs.Values.{up_to, small_of, pair_of, object_of, inode_of, extent_of, mode_of, octal_of, rights_of, count_of}
use Rattle.lu_judge_reader.specs.Values.{bytes_of}
use Rattle.lu_judge_reader.specs.Lists.{sizes_of, names_of, layout_of}

-- the word itself
abbrev pub word_of : List ℕ → Option (List ℕ)
word_of word = Some word

-- a `write` of one to 65,536 bytes that end at or below 2^40
abbrev pub write_of : ℕ → ℕ → List ℕ → Option Call
write_of handle offset bytes =
    if nat_le 1 (length bytes) && nat_le (length bytes) 65536 && nat_le (offset + length bytes) (2 ^ 40)
    then Some (call.Write handle offset bytes) else None

-- a `read` of one to 65,536 bytes that end at or below 2^40
abbrev pub read_of : ℕ → ℕ → ℕ → Option Call
read_of handle offset size =
    if nat_le 1 size && nat_le size 65536 && nat_le (offset + size) (2 ^ 40) then Some (call.Read handle offset size) else None

-- what a function of values gives, where no word is read
abbrev pub made : {A : Type 0} → Option A → Reader A
made value words = with_left value words

abbrev pub call_rest : CallName → Reader Call
call_rest calls.Lookup = one path_of >>= λ path. give (call.Lookup path)
call_rest calls.Stat = one path_of >>= λ path. give (call.Stat path)
call_rest calls.List = one path_of >>= λ path. give (call.List path)
call_rest calls.Layout = one path_of >>= λ path. give (call.Layout path)
call_rest calls.Mkdir = one path_of >>= λ path. give (call.Mkdir path)
call_rest calls.Create = one path_of >>= λ path. one (up_to (2 ^ 32)) >>= λ size. one count_of >>=
    λ count. give (call.Create path (Some (size, count)))
call_rest calls.Link = one path_of >>= λ old. one path_of >>= λ new. give (call.Link old new)
call_rest calls.Unlink = one path_of >>= λ path. give (call.Unlink path)
call_rest calls.Rmdir = one path_of >>= λ path. give (call.Rmdir path)
call_rest calls.Rename = one path_of >>= λ old. one path_of >>= λ new. give (call.Rename old new)
call_rest calls.Chmod = one path_of >>= λ path. one rights_of >>= λ mode. give (call.Chmod path mode)
call_rest calls.Open = one (up_to 15) >>= λ handle. one path_of >>= λ path. give (call.Open handle path)
call_rest calls.Close = one (up_to 15) >>= λ handle. give (call.Close handle)
call_rest calls.Read = one (up_to 15) >>= λ handle. one number_of >>= λ offset. one number_of >>= λ size. made (read_of handle offset size)
call_rest calls.Write = one (up_to 15) >>= λ handle. one number_of >>= λ offset. one bytes_of >>=
    λ bytes. made (write_of handle offset bytes)
call_rest calls.Cut = one (up_to 15) >>= λ handle. one (up_to (2 ^ 40)) >>= λ size. give (call.Cut handle size)
call_rest calls.Flush = one (up_to 15) >>= λ handle. give (call.Flush handle)
call_rest calls.Glimpse = one (up_to 15) >>= λ handle. give (call.Glimpse handle)

unfoldable pub call_reader : Reader Call
call_reader = one call_name_of >>= call_rest

-- a `put` of bytes that end at or below 2^40
abbrev pub put_of : Resource → ℕ → ℕ → List ℕ → Option Op
put_of resource cookie offset bytes =
    if nat_le (offset + length bytes) (2 ^ 40) then Some (op.Put resource (record { 0 = cookie }) offset bytes) else None

abbrev pub op_rest : OpName → Reader Op
op_rest ops.Lookup = one path_of >>= λ path. give (op.Lookup path)
op_rest ops.Stat = one path_of >>= λ path. give (op.Stat path)
op_rest ops.List = one path_of >>= λ path. give (op.List path)
op_rest ops.Layout = one path_of >>= λ path. give (op.Layout path)
op_rest ops.Mkdir = one path_of >>= λ path. give (op.Mkdir path)
op_rest ops.Create = one path_of >>= λ path. one (up_to (2 ^ 32)) >>= λ size. one count_of >>= λ count. give (op.Create path size count)
op_rest ops.Link = one path_of >>= λ old. one path_of >>= λ new. give (op.Link old new)
op_rest ops.Unlink = one path_of >>= λ path. give (op.Unlink path)
op_rest ops.Rmdir = one path_of >>= λ path. give (op.Rmdir path)
op_rest ops.Rename = one path_of >>= λ old. one path_of >>= λ new. give (op.Rename old new)
op_rest ops.Chmod = one path_of >>= λ path. one rights_of >>= λ mode. give (op.Chmod path mode)
op_rest ops.Open = one path_of >>= λ path. give (op.Open path)
op_rest ops.Close = one pair_of >>= λ txn. one pair_of >>= λ fid. give (op.Close (record { 0 = txn }) (record { 0 = fid }))
op_rest ops.Enqueue = one object_of >>= λ resource. one mode_of >>= λ mode. one extent_of >>=
    λ extent. give (op.Enqueue resource mode extent)
op_rest ops.Get = one object_of >>= λ resource. one pair_of >>= λ cookie. one (small_of 28) >>=
    λ page. give (op.Get resource (record { 0 = cookie }) page)
op_rest ops.Put = one object_of >>= λ resource. one pair_of >>= λ cookie. one number_of >>= λ offset. one bytes_of >>=
    λ bytes. made (put_of resource cookie offset bytes)
op_rest ops.Cut = one object_of >>= λ resource. one pair_of >>= λ cookie. one (up_to (2 ^ 40)) >>=
    λ size. give (op.Cut resource (record { 0 = cookie }) size)
op_rest ops.Size = one object_of >>= λ resource. give (op.Size resource)

unfoldable pub op_reader : Reader Op
op_reader = one op_name_of >>= op_rest

-- what is told of a file: its attributes, and its layout or its size
abbrev pub stat_of : ℕ → ℕ → ℕ → List ℕ → Option Answer
stat_of fid mode links word =
    if list_any (λ b. b == 58) word then (layout_of word >>? λ layout. Some (answer.FileStat (record { 0 = fid }) mode links layout))
    else (number_of word >>? λ size. Some (answer.FileSize (record { 0 = fid }) mode links size))

-- as many names as are said
abbrev pub names_rest : ℕ → Reader (List (List ℕ))
names_rest count words = with_left (names_of count words) []

abbrev pub answer_rest : AnswerName → Reader Answer
answer_rest answers.Fine = if_more answer.Done (one pair_of >>= λ fid. give (answer.Made (record { 0 = fid })))
answer_rest answers.Dir =
    one pair_of >>= λ fid. if_more (answer.Dir (record { 0 = fid }))
    (one octal_of >>= λ mode. give (answer.DirStat (record { 0 = fid }) mode))
answer_rest answers.File =
    one pair_of >>= λ fid. if_more (answer.File (record { 0 = fid }))
    (one octal_of >>= λ mode. one number_of >>= λ links. one (stat_of fid mode links))
answer_rest answers.Names = one number_of >>= λ count. names_rest count >>= λ names. give (answer.Names names)
answer_rest answers.Layout = one layout_of >>= λ layout. give (answer.Layout layout)
answer_rest answers.Open = one pair_of >>= λ fid. one pair_of >>= λ txn. one layout_of >>=
    λ layout. give (answer.OpenFile (record { 0 = fid }) (record { 0 = txn }) layout)
answer_rest answers.Granted = one pair_of >>= λ cookie. one extent_of >>= λ extent. one number_of >>=
    λ size. give (answer.Granted (record { 0 = cookie }) extent size)
answer_rest answers.Waiting = one pair_of >>= λ cookie. give (answer.Waiting (record { 0 = cookie }))
answer_rest answers.Content = one bytes_of >>= λ bytes. give (answer.Content bytes)
answer_rest answers.Size = one number_of >>= λ size. give (answer.Size size)
answer_rest answers.Lock = give answer.Lock
answer_rest answers.Sizes = one sizes_of >>= λ sizes. give (answer.Sizes sizes)
answer_rest answers.Uncovered = give answer.Uncovered
answer_rest (answers.Refused errno) = give (answer.Refused errno)

unfoldable pub answer_reader : Reader Answer
answer_reader = one answer_name_of >>= answer_rest

-- the bits or the range of a lock on this: an inode has no slash
abbrev pub policy_of : List ℕ → Mode → List ℕ → Option (Resource × Mode × Policy)
policy_of resource mode policy =
    if list_any (λ b. b == 47) resource
    then (object_of resource >>? λ on. extent_of policy >>? λ extent. Some (on, mode, Range extent))
    else (inode_of resource >>? λ on. small_of 8 policy >>? λ bits. Some (on, mode, Bits bits))

-- what a lock is on, its mode and its bits or range
unfoldable pub terms : Reader (Resource × Mode × Policy)
terms = one word_of >>= λ resource. one mode_of >>= λ mode. one (policy_of resource mode)
