-- The bytes are copied over a part of the room.
use Rattle.std.proofs.Common.{rules}
use Rattle.report.proofs.PageLaws.{put_mid-sets}
use Rattle.report.proofs.page.Page.push_bytes.Goals as goal

pub returns : goal.returns
returns c =
    record {
      stays = search rules;
      puts = record { within = c.requires.1; place = search rules; room = rw c.copy_from_slice.ensures.after (put_mid-sets c.args.self.now.at c.args.bytes.now c.args.self.now.room.now c.requires.1) };
      lines = search rules;
    }
