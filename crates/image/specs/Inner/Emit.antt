-- What the writer's loop leaves. No public contract speaks of it.
use Rattle.std.specs.Prelude.{ℕ, ◌%◌, ◌≡◌, List}
use Rattle.bigendian.specs.Numbers.{put_words}
use Rattle.records.specs.Records.{Record}
use Rattle.image.specs.Format.{head_bytes, records_sum, records_words}

-- these records stand in the room, behind the head, and this is their sum
pub record RecordsPut (before : List ℕ) (rs : List Record) (after : List ℕ) (total-sum : ℕ) : Type 0 where
  pub sum : total-sum ≡ records_sum rs % 65536
  pub room : after ≡ put_words before head_bytes (records_words rs)
