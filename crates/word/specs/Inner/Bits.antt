-- A register's word as its 16 bits, with C and O beside them, and the word of 16 bits: what the code of the rows that shift through carry is
-- written in.
use Rattle.std.specs.Prelude.{ℕ, ◌+◌, ◌*◌, ◌/◌, ◌%◌, Bool, ◌==◌}
use Rattle.word.specs.declared.Flagged.{Flagged}
use Rattle.word.specs.declared.bits.Bits.{Bits}
use Rattle.word.specs.Word.{bit_value}

unfoldable pub bits_of : Flagged → Bits
bits_of f =
    record {
      bit15 = f.value / 32768 % 2;
      bit14 = f.value / 16384 % 2;
      bit13 = f.value / 8192 % 2;
      bit12 = f.value / 4096 % 2;
      bit11 = f.value / 2048 % 2;
      bit10 = f.value / 1024 % 2;
      bit9 = f.value / 512 % 2;
      bit8 = f.value / 256 % 2;
      bit7 = f.value / 128 % 2;
      bit6 = f.value / 64 % 2;
      bit5 = f.value / 32 % 2;
      bit4 = f.value / 16 % 2;
      bit3 = f.value / 8 % 2;
      bit2 = f.value / 4 % 2;
      bit1 = f.value / 2 % 2;
      bit0 = f.value / 1 % 2;
      c = bit_value f.c;
      o = bit_value f.o;
    }

-- bit n counts 2 ^ n
unfoldable pub word_of : Bits → ℕ
word_of b =
    b.bit15 % 2 * 32768
    + b.bit14 % 2 * 16384
    + b.bit13 % 2 * 8192
    + b.bit12 % 2 * 4096
    + b.bit11 % 2 * 2048
    + b.bit10 % 2 * 1024
    + b.bit9 % 2 * 512
    + b.bit8 % 2 * 256
    + b.bit7 % 2 * 128
    + b.bit6 % 2 * 64
    + b.bit5 % 2 * 32
    + b.bit4 % 2 * 16
    + b.bit3 % 2 * 8
    + b.bit2 % 2 * 4
    + b.bit1 % 2 * 2
    + b.bit0 % 2

-- whether a number counts as 1
abbrev pub is_one : ℕ → Bool
is_one n = n % 2 == 1
