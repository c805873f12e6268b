-- Document 01's own file, by computing.
use mathlib.Core.Path.{refl}
use mathlib.Core.Logic.{inl}
use native.Mathlib.Omega.{arith}
use lib.ListN.{replicate}
use Rattle.bigendian.specs.Numbers.{word_at}
use Rattle.records.specs.Records.{overwrite}
use Rattle.records.specs.Region.{region_admission}
use Rattle.records.specs.Cut.{cut_of}
use Rattle.image.specs.Format.{checksum, image_of}
use Rattle.image.specs.Read.{head_of, place_of, record_of, tail_of, part_of, body_of}
use Rattle.image.specs.Load.{load_with}
use Rattle.image.specs.Write.{writing, write_with}
use Rattle.image.specs.Examples.{DocumentFile}

pub document-file : DocumentFile
unfolding overwrite region_admission cut_of word_at checksum image_of head_of place_of record_of tail_of part_of body_of load_with writing write_with
document-file =
    record {
      written = record { room = replicate 16 0; answer = refl; bytes = refl };
      loaded = refl;
      other_board = refl;
      good = record { loads = refl; opens = refl; stated = 0x47; reads = refl };
      first_byte = inl (omega arith, omega arith);
      last_byte = inl (omega arith, omega arith);
      damaged = refl;
    }
