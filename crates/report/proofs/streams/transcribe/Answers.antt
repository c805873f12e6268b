-- The bytes that were read are those that the text is of.
use Rattle.std.proofs.Common.{refl}
use Rattle.report.proofs.PageLaws.{printed-refused, printed-text}
use Rattle.report.proofs.streams.transcribe.Goals as goal

-- the room has the bytes that are asked for
pub read_image-image-requires : goal.read_image-image-requires
read_image-image-requires g c = refl

pub returns : goal.returns
returns g c =
    record {
      bytes = c.read_image-image.result.now;
      within = c.read_image-image.ensures.within;
      taken = c.read_image-image.ensures.taken;
      refused = printed-refused _ _ _ c.print-printed.ensures.room_after;
      text = rw (← printed-text _ _ _ c.print-printed.ensures.room_after) c.write_all.ensures.bytes;
    }
