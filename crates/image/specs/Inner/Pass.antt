-- What the loader's code makes of a head, and its two passes of a body. No public contract speaks of these.
use Rattle.std.specs.Prelude.{ℕ, ◌+◌, ◌%◌, Bool, true, false, List, length, Result, Ok, Err}
use Rattle.refusal.specs.declared.Refusal.{Refusal}
use Rattle.records.specs.Records.{placed}
use Rattle.image.specs.declared.parse.Part.{Part as ReadPart}
use Rattle.image.specs.declared.parse.Part.TheVariants.{Record, Tail}
use Rattle.image.specs.declared.check.Checked.{Checked}
use Rattle.image.specs.Format.{records_sum, id_head}
use Rattle.image.specs.Read.{Opening, opened, unopened, Part, record_part, tail_part, offence_part, Body, whole, broken}

-- what the code has read of a head
abbrev pub head_read : Result ℕ Refusal → Opening
head_read (Ok named) = opened (id_head named)
head_read (Err e) = unopened e

-- .. and of what follows
abbrev pub part_read : Result ReadPart Refusal → Part
part_read (Ok (Record r)) = record_part r.address r.count
part_read (Ok (Tail stated)) = tail_part stated
part_read (Err e) = offence_part e

-- what the first pass answers after n records with this sum, if the rest is such a body
abbrev pub summary : ℕ → ℕ → Body → Result Checked Refusal
summary n sum (whole rs stated) = Ok (record { records = n + length rs; sum = (sum + records_sum rs) % 65536; stated = stated })
summary n sum (broken e) = Err e

abbrev pub is_whole : Body → Bool
is_whole (whole rs stated) = true
is_whole (broken e) = false

-- the memory with the records of a body
abbrev pub placed_body : List ℕ → Body → List ℕ
placed_body m (whole rs stated) = placed m rs
placed_body m (broken e) = m
