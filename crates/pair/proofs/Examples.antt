-- The examples hold by computing.
use mathlib.Core.Path.{refl}
use mathlib.Core.List.{[], ◌∷◌}
use lib.Dec.{lit<, lit≤}
use lib.ListN.{replicate}
use Rattle.bigendian.specs.Numbers.{word_at}
use Rattle.text.specs.Text.{digit_of, hex_of, digit_value}
use Rattle.records.specs.Records.{overwrite}
use Rattle.records.specs.Region.{region_admission}
use Rattle.pair.specs.Format.{mapping_line, blank, mapping}
use Rattle.pair.specs.Read.{number_at, front_of, mappings_below, mappings_of}
use Rattle.pair.specs.Load.{load_pair_of}
use Rattle.pair.specs.Write.{text_for, writing_pair, write_pair_of}
use Rattle.pair.specs.Examples.{DocumentPair}

pub document-pair : DocumentPair
unfolding word_at digit_of hex_of digit_value overwrite region_admission mapping_line number_at front_of mappings_below mappings_of load_pair_of text_for writing_pair write_pair_of
document-pair =
    record {
      line = refl;
      good =
          record {
            items =
                blank
                ∷ mapping (record { first = 1; last = 1; target = 3 })
                ∷ mapping (record { first = 0; last = 1; target = 2 })
                ∷ [];
            good = (tt, (((lit< tt, lit< tt, lit< tt), lit≤ tt), (((lit< tt, lit< tt, lit< tt), lit≤ tt), tt)));
            is = refl;
          };
      loaded = refl;
      no_line = refl;
      written = record { bin = replicate 4 0; cfg = replicate 32 0; answer = refl; file_bytes = refl; text_bytes_written = refl };
      lower_case = refl;
      above = refl;
      odd = refl;
      malformed_first = refl;
      missing_first = refl;
      past = refl;
    }
